-- Of a settled disk a record that is made may name each instance that a record names.
use Rattle.store_core.proofs.Common.{◌&&◌, Contains, bytes_eq, nat_cmp, slice_cmp, ◌≡◌, ℕ, Bool, true, false, get_or, List, Option, Some, None, All, refl, sym, ◌∙◌, ap, subst, false≢true, All-contains, All-contains_itself, All-weaker, bytes_eq-Decides, DiskState, History, IfTold, IsImage}
use Rattle.store_core.proofs.Common.{reading, InstRow, LeavesAsRead, Lists, MapRecord, MapMeaning, map_meaning, named_instances, map_same, IsThereWhole, files_of, HasSameInstance, IsSettled, IsSettledFor, lt_less, is_of_kind, instance_file, IsStore, AreInstancesFirm, IsFirmInstance, IsOtherThan}
use Rattle.store_core.proofs.Common.{HasKnownInstances, StoreValue, mixed, mixed-here}
use Rattle.std.specs.Prelude.{◌==◌}
use Rattle.model_store.specs.Stands.{StoredOnce}
use Rattle.sis_store.proofs.HashLemmas.{hash_made}
use Rattle.store_core.proofs.InstanceAppendLemmas.{named_by, of_named}
use Rattle.store_core.proofs.MailChangeLemmas.{Own, left_image}

-- ---- one that a record names

-- a crash leaves it
named_left : (disk : DiskState) (lists : Lists) → (s : IsSettled disk lists) → Own disk → (row : InstRow) → Contains (named_instances (map_meaning s.store s.entries)) row → LeavesAsRead (instance_file row) disk
named_left disk lists s own row c = λ left may.
    let m : MapMeaning = map_meaning s.store s.entries in
    let image : IsImage disk (mixed (instance_file row) (λ _. left) (files_of disk)) = left_image (instance_file row) disk left (files_of disk) may (λ other apart. own other) in
    sym (mixed-here (instance_file row) (λ _. left) (files_of disk))
    ∙ All-contains (HasSameInstance (files_of disk) (mixed (instance_file row) (λ _. left) (files_of disk))) (named_instances m) row
    (of_named (HasSameInstance (files_of disk) (mixed (instance_file row) (λ _. left) (files_of disk))) m.records (s.alike (mixed (instance_file row) (λ _. left) (files_of disk)) image).instances) c

kind_hash : (a b : InstRow) → is_of_kind a.hash a.size b ≡ true → b.hash ≡ a.hash
kind_hash a b kind = ap hash_made ((bytes_eq-Decides b.hash.0 a.hash.0).0 (first (bytes_eq b.hash.0 a.hash.0) kind))
  where
    first : (t : Bool) → (t && (b.size == a.size)) ≡ true → t ≡ true
    first true e = refl
    first false e = absurd (false≢true e)

-- no own save names a later one with its octets
named_other : (disk : DiskState) (m : MapMeaning) (b : InstRow) (octets : List ℕ) → StoredOnce (files_of disk) m → Contains (named_instances m) b → reading (disk (instance_file b)) ≡ Some octets → All (λ own. own.origin ≡ 0 → All (λ inst. IsOtherThan disk inst b) own.instances) m.records
named_other disk m b octets once c there =
    All-weaker (Contains m.records) (λ (own : MapRecord). own.origin ≡ 0 → All (λ inst. IsOtherThan disk inst b) own.instances)
    (λ own is_record origin. All-weaker (Contains own.instances) (λ (inst : InstRow). IsOtherThan disk inst b)
    (λ inst is_named kind before same.
    once.least inst b octets (record { row = own; is_record = is_record; own = origin; is_named = is_named; there = sym same ∙ there }) (named_by (files_of disk) m b octets c there) (kind_hash inst b kind) (lt_less (slice_cmp nat_cmp b.id.0 inst.id.0) before))
    own.instances (All-contains_itself own.instances)) m.records (All-contains_itself m.records)

-- so it is firm
named_firm : (disk : DiskState) (lists : Lists) → (s : IsSettled disk lists) → Own disk → (row : InstRow) → IsThereWhole (files_of disk) row → Contains (named_instances (map_meaning s.store s.entries)) row → IsFirmInstance (map_meaning s.store s.entries) disk row
named_firm disk lists s own row whole c = record { left = named_left disk lists s own row c; other = named_other disk (map_meaning s.store s.entries) row whole.octets s.safe.stands.once c whole.there }

-- ---- all that are known

-- of a store on a settled disk whose records name all that are known
pub named_all_firm : {D : Type 0} → (v : StoreValue D) (h : Option History) (lists : Lists) → IsStore h v → HasKnownInstances h v → v.stopped ≡ false → IfTold h Own → All (λ k. Contains (named_instances v.map) k.row) v.instances.known → IsSettledFor lists h → IfTold h (AreInstancesFirm v.instances.known v.map)
named_all_firm v None lists st k runs own names settled = absurd settled
named_all_firm v (Some h) lists st k runs own names s =
    let r = st.running runs in
    let one = map_same (files_of h.now) v.map.store s.store st.entries s.entries r.opens.passed.map_log s.safe.stands.map_log in
    let same : map_meaning s.store s.entries ≡ v.map = sym (st.map_is ∙ ap (λ (id : List ℕ). map_meaning id st.entries) one.0 ∙ ap (map_meaning s.store) one.1) in
    let t = k.running runs in
    λ i d lt. let row : InstRow = (get_or v.instances.known i d).row in
    subst (λ (m : MapMeaning). IsFirmInstance m h.now row) same
    (named_firm h.now lists s own row (t.whole i d lt) (subst (λ (m : MapMeaning). Contains (named_instances m) row) (sym same) (names i d lt)))
