use Rattle.std.specs.Prelude.{slice_get}
use Rattle.std.proofs.Common.{◌≡◌, ◌<◌, ◌≤◌, ◌+◌, ℕ, length, Some, sym, ◌∙◌, ap, subst, refl}
use Rattle.std.proofs.Math.Nat.{le_of_eq, le_refl}
use Rattle.sis_store.specs.Instances.{InstancesValue}
use Rattle.store_core.specs.Value.{StoreValue}
use Rattle.save_instances.specs.Attaching.{AttachingValue, IsAttaching, attach_events_left, next_attachment, numbers_left}
use Rattle.save_instances.proofs.AttachCountLemmas.{found_fewer, held_many}
use Rattle.save_instances.proofs.AttachingLemmas.{compared_on, found_moves, found_on, goes_on_same, of_candidate}
use Rattle.save_instances.proofs.FoundLemmas.{of_part_kept}
use Rattle.save_instances.proofs.attaching.Attaching.compare.Goals as goal

pub returns-in_err-alike-clause-attaching : goal.returns-in_err-alike-clause-attaching
returns-in_err-alike-clause-attaching g c =
    goes_on_same c.args.self.now c.args.store.now c.same_octets.new.self (g.D.Disk.history c.args.store.now.disk) (g.D.Disk.history c.same_octets.new.self.disk) c.same_octets.ensures.keeps (ap (λ (s : StoreValue _). s.instances) c.same_octets.ensures.same) c.requires.attaching

pub returns-then-alike-clause-fewer : goal.returns-then-alike-clause-fewer
returns-then-alike-clause-fewer g c =
    let value : AttachingValue = c.args.self.now in
    let next : next_attachment value ≡ Some c.in-Some.part.now = subst (λ (v : AttachingValue). next_attachment v ≡ Some c.in-Some.part.now) c.self.view_is (ap (slice_get c.self.inside.parts) (sym (c.len.ensures ∙ c.self.inside.found.ok.0)) ∙ c.in-Some.ensures.some) in
    let known = ap (λ (s : StoreValue _). s.instances) c.hold.ensures.same in
    let same = ap (λ (s : StoreValue _). s.instances) c.same_octets.ensures.same in
    subst (λ (i : InstancesValue). attach_events_left c.keep.new.self c.hold.new.self.instances < attach_events_left value i) same
    (found_fewer value c.keep.new.self c.args.candidate c.in-Some.part.now c.same_octets.new.self.instances c.hold.new.self.instances next c.keep.ensures (subst (λ (i : InstancesValue). numbers_left i ≤ numbers_left c.same_octets.new.self.instances) (sym known) (le_refl _))
    (subst (λ (i : InstancesValue). length i.known + numbers_left i ≤ length c.same_octets.new.self.instances.known + numbers_left c.same_octets.new.self.instances) (sym known)
    (le_of_eq (ap (λ (n : ℕ). n + numbers_left c.same_octets.new.self.instances) (held_many c.args.candidate.id _ c.same_octets.new.self.instances.known)))))

pub returns-then-alike-clause-attaching : goal.returns-then-alike-clause-attaching
returns-then-alike-clause-attaching g c =
    let value : AttachingValue = c.args.self.now in
    let next : next_attachment value ≡ Some c.in-Some.part.now = subst (λ (v : AttachingValue). next_attachment v ≡ Some c.in-Some.part.now) c.self.view_is (ap (slice_get c.self.inside.parts) (sym (c.len.ensures ∙ c.self.inside.found.ok.0)) ∙ c.in-Some.ensures.some) in
    let H = g.D.Disk.history in
    let same = ap (λ (s : StoreValue _). s.instances) c.same_octets.ensures.same in
    let of_part = of_candidate value c.args.store.now c.in-Some.part.now c.args.candidate c.as_slice.result.now c.in_ok-alike.alike (H c.args.store.now.disk) c.facts.ensures.ids next c.as_slice.ensures c.requires.candidate c.if-alike.true c.in_ok-alike.ensures.alike c.requires.attaching in
    let there = of_part_kept c.args.candidate c.in-Some.part.now c.args.store.now c.same_octets.new.self (H c.args.store.now.disk) (H c.same_octets.new.self.disk) c.same_octets.ensures.keeps of_part in
    let held = of_part_kept c.args.candidate c.in-Some.part.now c.same_octets.new.self c.hold.new.self (H c.same_octets.new.self.disk) (H c.hold.new.self.disk) c.hold.ensures.keeps there in
    let on = goes_on_same value c.args.store.now c.same_octets.new.self (H c.args.store.now.disk) (H c.same_octets.new.self.disk) c.same_octets.ensures.keeps same c.requires.attaching in
    subst (λ (v : AttachingValue). IsAttaching v c.hold.new.self (H c.hold.new.self.disk)) (sym c.keep.ensures)
    (found_on value c.args.candidate c.in-Some.part.now c.same_octets.new.self c.hold.new.self (H c.same_octets.new.self.disk) (H c.hold.new.self.disk) next c.hold.ensures.keeps (c.hold.ensures.moves value.found c.args.candidate refl) held on)

pub returns-then-alike-clause-moves : goal.returns-then-alike-clause-moves
returns-then-alike-clause-moves g c =
    found_moves c.args.self.now c.keep.new.self c.args.candidate c.args.store.now c.same_octets.new.self c.hold.new.self c.keep.ensures (ap (λ (s : StoreValue _). s.instances) c.same_octets.ensures.same) (c.hold.ensures.moves c.args.self.now.found c.args.candidate refl)

pub returns-else-alike-clause-attaching : goal.returns-else-alike-clause-attaching
returns-else-alike-clause-attaching g c =
    let value : AttachingValue = c.args.self.now in
    let next : next_attachment value ≡ Some c.in-Some.part.now = subst (λ (v : AttachingValue). next_attachment v ≡ Some c.in-Some.part.now) c.self.view_is (ap (slice_get c.self.inside.parts) (sym (c.len.ensures ∙ c.self.inside.found.ok.0)) ∙ c.in-Some.ensures.some) in
    let H = g.D.Disk.history in
    let same = ap (λ (s : StoreValue _). s.instances) c.same_octets.ensures.same in
    let unlike = compared_on value c.args.store.now c.in-Some.part.now c.args.candidate c.as_slice.result.now c.in_ok-alike.alike (H c.args.store.now.disk) c.facts.ensures.ids next c.as_slice.ensures c.requires.candidate c.if-alike.false c.in_ok-alike.ensures.alike c.requires.attaching in
    let on = goes_on_same (record { parts = value.parts; found = value.found; after = Some c.args.candidate.id; drawn = c.args.store.now.instances.highest }) c.args.store.now c.same_octets.new.self (H c.args.store.now.disk) (H c.same_octets.new.self.disk) c.same_octets.ensures.keeps same unlike in
    let drawn : c.args.store.now.instances.highest ≡ c.last_instance-self-inside.result = sym (c.last_instance-self-inside.ensures ∙ ap (λ (i : InstancesValue). i.highest) same) in
    subst (λ (n : ℕ). IsAttaching (record { parts = c.self.inside.parts; found = c.self.inside.found.items; after = Some c.args.candidate.id; drawn = n }) c.same_octets.new.self (H c.same_octets.new.self.disk)) drawn
    (subst (λ (v : AttachingValue). IsAttaching (record { parts = v.parts; found = v.found; after = Some c.args.candidate.id; drawn = c.args.store.now.instances.highest }) c.same_octets.new.self (H c.same_octets.new.self.disk)) (sym c.self.view_is) on)

pub returns-then-alike-clause-keeps : goal.returns-then-alike-clause-keeps
returns-then-alike-clause-keeps g c =
    c.instances_are_kept.ensures.both c.args.store.now c.same_octets.new.self c.hold.new.self (g.D.Disk.history c.args.store.now.disk) (g.D.Disk.history c.same_octets.new.self.disk) (g.D.Disk.history c.hold.new.self.disk) c.same_octets.ensures.keeps c.hold.ensures.keeps
