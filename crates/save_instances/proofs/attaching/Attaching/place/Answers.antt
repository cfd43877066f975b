use Rattle.std.specs.Prelude.{slice_get}
use Rattle.std.proofs.Common.{◌≡◌, ℕ, List, length, Some, sym, ◌∙◌, ap, subst, refl}
use Rattle.sis_store.specs.Instances.{after_placing}
use Rattle.store_core.specs.Value.{StoreValue}
use Rattle.save_instances.specs.Attaching.{AttachingValue, IsAttaching, next_attachment}
use Rattle.mdbox_base.specs.declared.entries.InstRow.{InstRow}
use Rattle.store_core.specs.StoreInstances.{IsFirstWith}
use Rattle.save_instances.specs.Attaching.{IsOfPart}
use Rattle.save_instances.proofs.AttachCountLemmas.{placed_fewer}
use Rattle.save_instances.proofs.AttachingLemmas.{found_moves, found_on, unlike_all}
use Rattle.save_instances.proofs.attaching.Attaching.place.Goals as goal

pub place_instance-requires-clause-new : goal.place_instance-requires-clause-new
place_instance-requires-clause-new g c =
    let value : AttachingValue = c.args.self.now in
    let next : next_attachment value ≡ Some c.in-Some.part.now = subst (λ (v : AttachingValue). next_attachment v ≡ Some c.in-Some.part.now) c.self.view_is (ap (slice_get c.self.inside.parts) (sym (c.len.ensures ∙ c.self.inside.found.ok.0)) ∙ c.in-Some.ensures.some) in
    unlike_all value c.args.store.now c.in-Some.part.now c.as_slice-octets.result.now (g.D.Disk.history c.args.store.now.disk) c.facts.ensures.ids next c.as_slice-octets.ensures c.requires.compared c.requires.attaching

pub returns-clause-fewer : goal.returns-clause-fewer
returns-clause-fewer g c =
    let value : AttachingValue = c.args.self.now in
    let next : next_attachment value ≡ Some c.in-Some.part.now = subst (λ (v : AttachingValue). next_attachment v ≡ Some c.in-Some.part.now) c.self.view_is (ap (slice_get c.self.inside.parts) (sym (c.len.ensures ∙ c.self.inside.found.ok.0)) ∙ c.in-Some.ensures.some) in
    let known : c.place_instance.new.self.instances ≡ after_placing _ _ c.args.store.now.instances = ap (λ (s : StoreValue _). s.instances) c.in_ok-id.ensures.ok in
    placed_fewer value c.keep.new.self _ _ _ c.in-Some.part.now c.args.store.now.instances c.place_instance.new.self.instances next c.keep.ensures known c.facts-2.ensures.ids.last

pub returns-clause-attaching : goal.returns-clause-attaching
returns-clause-attaching g c = λ going.
    let value : AttachingValue = c.args.self.now in
    let next : next_attachment value ≡ Some c.in-Some.part.now = subst (λ (v : AttachingValue). next_attachment v ≡ Some c.in-Some.part.now) c.self.view_is (ap (slice_get c.self.inside.parts) (sym (c.len.ensures ∙ c.self.inside.found.ok.0)) ∙ c.in-Some.ensures.some) in
    let H = g.D.Disk.history in
    let row : InstRow = record { hash = c.in-Some.part.now.hash; id = c.in_ok-id.id; size = length c.as_slice-octets.result.now } in
    let of_part : IsOfPart row c.in-Some.part.now c.place_instance.new.self.instances.known (H c.place_instance.new.self.disk) = record {
      hash = refl;
      size = ap length c.as_slice-octets.ensures;
      first = subst (λ (octets : List ℕ). IsFirstWith octets row c.place_instance.new.self.instances.known (H c.place_instance.new.self.disk)) c.as_slice-octets.ensures c.in_ok-id.ensures.found;
    } in
    subst (λ (v : AttachingValue). IsAttaching v c.place_instance.new.self (H c.place_instance.new.self.disk)) (sym c.keep.ensures)
    (found_on value row c.in-Some.part.now c.args.store.now c.place_instance.new.self (H c.args.store.now.disk) (H c.place_instance.new.self.disk) next (c.in_ok-id.ensures.keeps (λ e. absurd (cc e))) (c.in_ok-id.ensures.moves value.found row refl) of_part c.requires.attaching)

pub returns-clause-moves : goal.returns-clause-moves
returns-clause-moves g c =
    let row : InstRow = record { hash = c.in-Some.part.now.hash; id = c.in_ok-id.id; size = length c.as_slice-octets.result.now } in
    found_moves c.args.self.now c.keep.new.self row c.args.store.now c.args.store.now c.place_instance.new.self c.keep.ensures refl (c.in_ok-id.ensures.moves c.args.self.now.found row refl)
