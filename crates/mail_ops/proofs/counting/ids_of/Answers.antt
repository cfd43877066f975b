use Rattle.mail_ops.proofs.Common.{sym, ◌∙◌, ap, map, ◌++◌, List, option_copied}
use Rattle.mdbox_base.specs.declared.entries.InstRow.{InstRow}
use Rattle.mail_ops.proofs.CountingLemmas.{named_by}
use Rattle.mail_ops.proofs.counting.ids_of.Goals as goal

pub loop-place-preserved : goal.loop-place-preserved
loop-place-preserved c = named_by c.args.map.now.meaning.records c.loop-place.place _ _ _ (sym (ap option_copied c.in-Some.is) ∙ c.instances_at.ensures) c.loop-place.invariant (c.in_ok-push_ids.ensures ∙ ap (λ (l : List InstRow). c.loop-place.ids.items ++ map (λ x. x.id.0) l) c.as_slice.ensures)
