use Rattle.std.proofs.Common.{◌≡◌, Option, sym, ap, ◌∙◌}
use Rattle.std.specs.Ordering.{nat_cmp, ordering_then, is_le}
use Rattle.std.specs.Cmp.Lexicographic.{slice_cmp}
use Rattle.std.specs.declared.cmp.Ordering.{Ordering}
use Rattle.std.specs.declared.cmp.Ordering.TheVariants.{Equal}
use Rattle.mdbox_base.specs.declared.ids.InstId.{InstId}
use Rattle.sis_store.specs.Hashes.{kind_order, is_before_by, is_id_up_to}
use Rattle.sis_store.proofs.instance.HashKey.is_before.Goals as goal

pub returns-in-Some : goal.returns-in-Some
returns-in-Some c =
    let key = c.args.self.now in
    let kind : Equal ≡ kind_order c.args.hash c.args.size key =
    c.in-Equal.ensures ∙ ap (λ (o : Ordering). ordering_then o c.cmp-2.result) c.cmp.ensures ∙ ap (ordering_then (slice_cmp nat_cmp key.hash.0 c.args.hash.0)) c.cmp-2.ensures in
    c.is_le.ensures ∙ ap is_le c.cmp-in-Some.ensures ∙ ap (λ (a : Option InstId). is_id_up_to a key.id) (sym c.in-Some.is) ∙ ap (λ (o : Ordering). is_before_by o (is_id_up_to c.args.after key.id)) kind
