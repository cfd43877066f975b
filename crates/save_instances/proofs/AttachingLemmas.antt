-- What an event makes of instances that are being found.
use Rattle.std.specs.Prelude.{◌↔◌, ◌==◌, IsTrue}
use Rattle.std.specs.Option.{option_map}
use Rattle.std.proofs.Common.{inl, inr, ◌≡◌, ◌≢◌, ◌≤◌, ◌+◌, ℕ, Bool, true, false, List, [], ◌∷◌, ◌++◌, length, Option, Some, None, All, refl, sym, ◌∙◌, ap, subst, arith}
use Rattle.std.proofs.lemmas.Bool.{cases_Bool, cond-false, cond-true, true≢false}
use Rattle.std.proofs.lemmas.Bool.Decides.{nat_tests}
use Rattle.std.proofs.lemmas.Option.{same_Some}
use Rattle.attach_detach.specs.declared.message.Detached.{Detached}
use Rattle.disk_model.specs.Disk.{DiskState, History, IfTold, reading}
use Rattle.disk_model.proofs.MomentLemmas.{if_told-all, if_told-map}
use Rattle.mdbox_base.specs.declared.entries.InstRow.{InstRow}
use Rattle.mdbox_base.specs.declared.ids.Hash.{Hash}
use Rattle.mdbox_base.specs.declared.ids.InstId.{InstId}
use Rattle.mdbox_base.specs.declared.ids.StoreId.{StoreId}
use Rattle.sis_store.specs.Comparing.{IsUnlikeCompared, IsUnlikeUpTo}
use Rattle.sis_store.specs.Instances.{InstancesValue, AreInstances, HasDrawnNumber, candidate_in, holders_in, is_id_past, is_of_kind}
use Rattle.sis_store.specs.OnDisk.{IsUnlikeKnown, file_of, instance_file}
use Rattle.sis_store.specs.declared.instance.KnownInstance.{KnownInstance}
use Rattle.sis_store.proofs.CandidateLemmas.{all_compared, none_yet, one_more}
use Rattle.store_core.specs.Keeping.{KeepsInstances, MovesHolds, holds_of}
use Rattle.store_core.specs.Value.{StoreValue}
use Rattle.store_core.proofs.InstanceKeepingLemmas.{candidate_found}
use Rattle.save_instances.specs.Attaching.{AreHeld, AttachingValue, IsAttaching, IsOfPart, candidate_for, compared_to, next_candidate, next_attachment, part_row, with_found}
use Rattle.save_instances.proofs.FoundLemmas.{holds_push, of_parts_kept, of_parts_more}

-- ---- beside other events

pub goes_on : {D : Type 0} → (value : AttachingValue) (old new : StoreValue D) (before after : Option History) → KeepsInstances old new before after → AreHeld value.found new.instances.known → IsAttaching value old before → IsAttaching value new after
goes_on value old new before after keeps held is = record {
  found = of_parts_kept value.found value.parts old new before after keeps is.found;
  held = held;
  drawn = let a = is.drawn in let b = keeps.drawn in omega (arith, a, b);
  unlike = λ part next. subst (λ (s : StoreId). IsUnlikeCompared s part.hash (length part.octets) part.octets value.after value.drawn new.instances.known after) (sym keeps.store) (keeps.compared part.hash (length part.octets) part.octets value.after value.drawn is.drawn (is.unlike part next));
}

-- one that leaves the instances
pub goes_on_same : {D : Type 0} → (value : AttachingValue) (old new : StoreValue D) (before after : Option History) → KeepsInstances old new before after → new.instances ≡ old.instances → IsAttaching value old before → IsAttaching value new after
goes_on_same value old new before after keeps same is = goes_on value old new before after keeps (subst (λ (i : InstancesValue). AreHeld value.found i.known) (sym same) is.held) is

-- ---- one is found

held_more : (now before mine more : ℕ) → mine ≤ before → now + mine ≡ before + more → more ≤ now
held_more now before mine more le sum = omega (arith, le, sum)

pub found_on : {D : Type 0} → (value : AttachingValue) (row : InstRow) (part : Detached) (old new : StoreValue D) (before after : Option History) → next_attachment value ≡ Some part → KeepsInstances old new before after → MovesHolds (holds_of value.found) (holds_of (row ∷ value.found)) old new
    → IsOfPart row part new.instances.known after → IsAttaching value old before → IsAttaching (with_found row value) new after
found_on value row part old new before after next keeps moves of_part is = record {
  found = of_parts_more value.found value.parts row part new.instances.known after next of_part (of_parts_kept value.found value.parts old new before after keeps is.found);
  held = λ id.
      held_more (holders_in id new.instances.known) (holders_in id old.instances.known) (holds_of value.found id) (holds_of (value.found ++ row ∷ []) id) (is.held id) (moves id ∙ ap (λ (n : ℕ). holders_in id old.instances.known + n) (sym (holds_push value.found row id)));
  drawn = omega arith;
  unlike = λ other later. if_told-all _ after (λ disk i d lt of past. absurd (true≢false past));
}

pub found_moves : {D : Type 0} → (value now : AttachingValue) (row : InstRow) (old mid new : StoreValue D) → now ≡ with_found row value → mid.instances ≡ old.instances → MovesHolds (holds_of value.found) (holds_of (row ∷ value.found)) mid new → MovesHolds (holds_of value.found) (holds_of now.found) old new
found_moves value now row old mid new is same moves =
    subst (λ (v : AttachingValue). MovesHolds (holds_of value.found) (holds_of v.found) old new) (sym is)
    (subst (λ (i : InstancesValue). (id : InstId) → holders_in id new.instances.known + holds_of value.found id ≡ holders_in id i.known + holds_of (value.found ++ row ∷ []) id) same
    (λ id. moves id ∙ ap (λ (n : ℕ). holders_in id mid.instances.known + n) (sym (holds_push value.found row id))))

-- ---- the candidate

-- it is one of the next attachment
pub candidate_is : (value : AttachingValue) (instances : InstancesValue) (part : Detached) (candidate : InstRow) → next_attachment value ≡ Some part → next_candidate value instances ≡ Some candidate
    → (candidate_in part.hash (length part.octets) (compared_to value instances) instances.known ≡ Some candidate.id) × (part_row part candidate.id ≡ candidate)
candidate_is value instances part candidate next is =
    by (candidate_in part.hash (length part.octets) (compared_to value instances) instances.known) refl (ap (λ (o : Option Detached). candidate_for o (compared_to value instances) instances.known) (sym next) ∙ is)
  where
    by : (o : Option InstId) → candidate_in part.hash (length part.octets) (compared_to value instances) instances.known ≡ o → option_map (part_row part) o ≡ Some candidate
        → (candidate_in part.hash (length part.octets) (compared_to value instances) instances.known ≡ Some candidate.id) × (part_row part candidate.id ≡ candidate)
    by None e found = absurd (let w : None ≡ Some candidate = found in cc w)
    by (Some id) e found =
        let same : part_row part id ≡ candidate = same_Some _ _ found in
        let ids : id ≡ candidate.id = ap (λ (r : InstRow). r.id) same in
        (e ∙ ap Some ids, ap (part_row part) (sym ids) ∙ same)

none_of : (part : Detached) (o : Option InstId) → option_map (part_row part) o ≡ None → o ≡ None
none_of part None e = refl
none_of part (Some id) e = absurd (let w : Some (part_row part id) ≡ None = e in cc w)

pub candidate_none : (value : AttachingValue) (instances : InstancesValue) (part : Detached) → next_attachment value ≡ Some part → next_candidate value instances ≡ None → candidate_in part.hash (length part.octets) (compared_to value instances) instances.known ≡ None
candidate_none value instances part next is =
    none_of part (candidate_in part.hash (length part.octets) (compared_to value instances) instances.known) (ap (λ (o : Option Detached). candidate_for o (compared_to value instances) instances.known) (sym next) ∙ is)

-- ---- what was compared

number_is : (a b : ℕ) → (a == b) ≡ true → a ≡ b
number_is a b h = grind (arith, nat_tests, h)

drawn_all : (instances : InstancesValue) (hash : Hash) (size : ℕ) (octets : List ℕ) (after : Option InstId) (history : Option History) → AreInstances instances → IsUnlikeCompared instances.store hash size octets after instances.highest instances.known history → IsUnlikeUpTo hash size octets after instances.known history
drawn_all instances hash size octets after history are unlike =
    if_told-map (λ disk. All (λ k. is_of_kind hash size k.row ≡ true → is_id_past after k.row.id ≡ false → HasDrawnNumber instances.store instances.highest k.row.id → reading (disk (instance_file k.row)) ≢ Some octets) instances.known)
    (λ disk. All (λ k. is_of_kind hash size k.row ≡ true → is_id_past after k.row.id ≡ false → reading (disk (instance_file k.row)) ≢ Some octets) instances.known) history (λ disk u i d lt of past. u i d lt of past (are.drawn i d lt)) unlike

pub unlike_up_to : {D : Type 0} → (value : AttachingValue) (store : StoreValue D) (part : Detached) (history : Option History) → AreInstances store.instances → next_attachment value ≡ Some part → IsAttaching value store history
    → IsUnlikeUpTo part.hash (length part.octets) part.octets (compared_to value store.instances) store.instances.known history
unlike_up_to value store part history are next is = elim (cases_Bool (value.drawn == store.instances.highest)) [
  | inl same ↦
      subst (λ (after : Option InstId). IsUnlikeUpTo part.hash (length part.octets) part.octets after store.instances.known history) (sym (cond-true (value.drawn == store.instances.highest) value.after None same))
      (drawn_all store.instances part.hash (length part.octets) part.octets value.after history are
      (subst (λ (n : ℕ). IsUnlikeCompared store.instances.store part.hash (length part.octets) part.octets value.after n store.instances.known history) (number_is value.drawn store.instances.highest same) (is.unlike part next)))
  | inr other ↦
      subst (λ (after : Option InstId). IsUnlikeUpTo part.hash (length part.octets) part.octets after store.instances.known history) (sym (cond-false (value.drawn == store.instances.highest) value.after None other))
      (none_yet part.hash (length part.octets) part.octets store.instances.known history)
]

-- where all were compared it may be placed
pub unlike_all : {D : Type 0} → (value : AttachingValue) (store : StoreValue D) (part : Detached) (octets : List ℕ) (history : Option History) → AreInstances store.instances → next_attachment value ≡ Some part → octets ≡ part.octets → next_candidate value store.instances ≡ None → IsAttaching value store history
    → IsUnlikeKnown part.hash (length octets) octets store.instances.known history
unlike_all value store part octets history are next same none is =
    subst (λ (os : List ℕ). IsUnlikeKnown part.hash (length os) os store.instances.known history) (sym same)
    (all_compared part.hash (length part.octets) part.octets (compared_to value store.instances) store.instances.known history (unlike_up_to value store part history are next is) (candidate_none value store.instances part next none))

-- ---- a candidate that was compared

-- what a comparison says of the octets
abbrev pub SaysAlike : InstId → List KnownInstance → List ℕ → Bool → DiskState → Type 0
SaysAlike id known octets alike disk = IsTrue alike ↔ (reading (disk (file_of id known)) ≡ Some octets)

pub of_candidate : {D : Type 0} → (value : AttachingValue) (store : StoreValue D) (part : Detached) (candidate : InstRow) (octets : List ℕ) (alike : Bool) (history : Option History) → AreInstances store.instances → next_attachment value ≡ Some part → octets ≡ part.octets → next_candidate value store.instances ≡ Some candidate
    → alike ≡ true → IfTold history (SaysAlike candidate.id store.instances.known octets alike) → IsAttaching value store history → IsOfPart candidate part store.instances.known history
of_candidate value store part candidate octets alike history are next same is alike_is says attaching =
    let c = candidate_is value store.instances part candidate next is in
    let reads : IfTold history (λ now. reading (now (file_of candidate.id store.instances.known)) ≡ Some part.octets) =
    if_told-map (SaysAlike candidate.id store.instances.known octets alike) (λ now. reading (now (file_of candidate.id store.instances.known)) ≡ Some part.octets) history (λ disk h. h.0 alike_is ∙ ap Some same) says in
    subst (λ (row : InstRow). IsOfPart row part store.instances.known history) c.1 (record {
      hash = refl;
      size = refl;
      first = candidate_found part.hash (length part.octets) part.octets (compared_to value store.instances) candidate.id store.instances.known history are.rising (unlike_up_to value store part history are next attaching) c.0 reads;
    })

noted : (instances : InstancesValue) (hash : Hash) (size : ℕ) (octets : List ℕ) (after : Option InstId) (history : Option History) → IsUnlikeUpTo hash size octets after instances.known history → IsUnlikeCompared instances.store hash size octets after instances.highest instances.known history
noted instances hash size octets after history unlike =
    if_told-map (λ disk. All (λ k. is_of_kind hash size k.row ≡ true → is_id_past after k.row.id ≡ false → reading (disk (instance_file k.row)) ≢ Some octets) instances.known)
    (λ disk. All (λ k. is_of_kind hash size k.row ≡ true → is_id_past after k.row.id ≡ false → HasDrawnNumber instances.store instances.highest k.row.id → reading (disk (instance_file k.row)) ≢ Some octets) instances.known) history (λ disk u i d lt of past has. u i d lt of past) unlike

-- one that has other octets
pub compared_on : {D : Type 0} → (value : AttachingValue) (store : StoreValue D) (part : Detached) (candidate : InstRow) (octets : List ℕ) (alike : Bool) (history : Option History) → AreInstances store.instances → next_attachment value ≡ Some part → octets ≡ part.octets → next_candidate value store.instances ≡ Some candidate
    → alike ≡ false → IfTold history (SaysAlike candidate.id store.instances.known octets alike) → IsAttaching value store history
    → IsAttaching (record { parts = value.parts; found = value.found; after = Some candidate.id; drawn = store.instances.highest }) store history
compared_on value store part candidate octets alike history are next same is unlike_is says attaching =
    let c = candidate_is value store.instances part candidate next is in
    let unlike : IfTold history (λ disk. reading (disk (file_of candidate.id store.instances.known)) ≢ Some part.octets) =
    if_told-map (SaysAlike candidate.id store.instances.known octets alike) (λ disk. reading (disk (file_of candidate.id store.instances.known)) ≢ Some part.octets) history (λ disk h e. true≢false (sym (h.1 (e ∙ ap Some (sym same))) ∙ unlike_is)) says in
    let more : IsUnlikeUpTo part.hash (length part.octets) part.octets (Some candidate.id) store.instances.known history =
    one_more part.hash (length part.octets) part.octets (compared_to value store.instances) candidate.id store.instances.known history are.rising (unlike_up_to value store part history are next attaching) c.0 unlike in
    record {
      found = attaching.found;
      held = attaching.held;
      drawn = omega arith;
      unlike = λ other later.
          let one : part ≡ other = same_Some _ _ (sym next ∙ later) in
          subst (λ (p : Detached). IsUnlikeCompared store.instances.store p.hash (length p.octets) p.octets (Some candidate.id) store.instances.highest store.instances.known history) one
          (noted store.instances part.hash (length part.octets) part.octets (Some candidate.id) history more);
    }
