use Rattle.std.proofs.Common.{◌≡◌, false, refl, sym, ap, ◌∙◌, set}
use Rattle.sis_store.specs.declared.instance.KnownInstance.{KnownInstance}
use Rattle.mdbox_base.specs.declared.ids.InstId.{InstId}
use Rattle.std.proofs.lemmas.List.Elements.{All-weaker}
use Rattle.sis_store.specs.Instances.{with_holders, has_id}
use Rattle.sis_store.proofs.IdLemmas.{got, hasnt, holders-set, holders-none}
use Rattle.sis_store.proofs.known.set_holders.Goals as goal

pub returns-in-Some : goal.returns-in-Some
returns-in-Some c =
    let s = c.in-Some.ensures.some in
    ap (λ (k : KnownInstance). set c.args.known.now c.in-Some.at (record k { holders = c.args.holders })) (got c.args.known.now c.in-Some.at s.0 _ s.1)
    ∙ holders-set c.args.known.now c.in-Some.at c.args.holders s.0 c.requires s.1 ∙ ap (λ (i : InstId). with_holders i c.args.holders c.args.known.now) s.2

pub returns-in_default : goal.returns-in_default
returns-in_default c =
    sym (holders-none c.args.id c.args.holders c.args.known.now (All-weaker _ (λ k. has_id c.args.id k ≡ false) (λ k h. hasnt c.args.id k h) c.args.known.now (c.in_default.ensures.none refl)))
