use Rattle.std.proofs.Common.{◌≡◌, ap, ◌∙◌, map, sym, List, [], ◌∷◌, ◌++◌, subst, length}
use Rattle.std.proofs.lemmas.List.{map-append, map-id}
use Rattle.std.proofs.lemmas.Iterator.Adapters.{YieldsList-from_vec}
use Rattle.std.proofs.lemmas.Iterator.Consumers.{YieldsList-end}
use Rattle.attach_detach.specs.declared.message.Detached.{Detached}
use Rattle.attach_detach.specs.Prepared.{NameParts}
use Rattle.parts_bench.proofs.NamingLemmas.{name_next}
use Rattle.parts_bench.proofs.named.Goals as goal

pub loop-part-preserved : goal.loop-part-preserved
loop-part-preserved c = (
  subst (λ (x : _). NameParts x (c.loop-part.yielded ++ c.in-Some.part ∷ [])) (sym c.in_ok-push.ensures.ok) (name_next c.loop-part.refs c.loop-part.yielded c.reference_to.result c.in-Some.part c.loop-part.invariant.0 c.reference_to.ensures),
  c.in_ok-push-2.ensures.ok ∙ ap (λ (x : _). x ++ c.in-Some.part.octets ∷ []) c.loop-part.invariant.1 ∙ sym (map-append (λ d. d.octets) c.loop-part.yielded (c.in-Some.part ∷ [])),
)

pub returns : goal.returns
returns c =
    let items = c.into_iter-part-iterator.ensures.into_iter_gives in
    let every = YieldsList-from_vec {s = c.into_iter-part-iterator.result} c.args.parts (items.0 ∙ c.into_vec-part-items.ensures) (items.1 ∙ c.into_vec-part-items.result.ok.0 ∙ ap length c.into_vec-part-items.ensures) in
    let all = YieldsList-end every c.loop-part.yielded c.loop-part.part-iterator c.loop-part.yielded_by c.next.result c.next.new.self c.in-None.is c.next.ensures.steps in
    subst (λ (x : List Detached). NameParts c.loop-part.refs x × (c.loop-part.instances ≡ map (λ d. d.octets) x)) (sym (map-id c.loop-part.yielded) ∙ all.0) c.loop-part.invariant
