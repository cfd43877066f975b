-- One attachment's instance after another: what an event makes of them.
use Rattle.mail_save.proofs.Common.{if◌then◌else◌, IsSome, Contains, bytes_eq, ◌≡◌, ◌≢◌, ◌<◌, ◌≤◌, ◌+◌, ◌-◌, ℕ, Bool, true, false, cond, inl, inr, List, [], ◌∷◌, ◌++◌, Option, Some, None, length, refl, sym, ◌∙◌, ap, subst, arith, sum_by-cons, Detached, DiskState, History, IfTold, reading, FileName}
use Rattle.mail_save.proofs.Common.{Mail, Inst, between-map, if_told-map, InstRow, Hash, InstId, Lists, IsSettledFor, Leaves, AttachingValue, next_attachment, next_candidate, part_row, parts_left, with_compared, with_found, AreInstances, InstancesValue, holders_in, next_id, instance_file}
use Rattle.mail_save.proofs.Common.{KnownInstance, MovesHolds, holds_of, StoreValue, IsSameOrSynced, HasHoldRoom, WritesAttachment}
use Rattle.std.specs.Prelude.{◌⊎◌}
use Rattle.std.proofs.Common.{length-append}
use Rattle.std.proofs.lemmas.Bool.{cases_lt}
use Rattle.disk_model.specs.Disk.{IsIdle, Keeps, named}
use Rattle.disk_model.proofs.IdleLemmas.{idle-images}
use Rattle.model_store.specs.Safe.{Safe}
use Rattle.model_store.proofs.SettledLemmas.{settled_safe}
use Rattle.save_instances.proofs.FoundLemmas.{holds_push}
use Rattle.sis_store.specs.Instances.{HasDrawnNumber}
use Rattle.sis_store.specs.OnDisk.{OnlyNamesSynced, next_instance_file}
use Rattle.sis_store.proofs.IdLemmas.{is_within, same_id}
use Rattle.store_core.specs.StoreInstances.{AreInstancesThere, HasKnownInstances}
use Rattle.store_core.proofs.MailChangeLemmas.{named_reads}
use Rattle.mail_save.proofs.MailFileLemmas.{mail_idle}
use Rattle.mail_save.specs.MailFiles.{AddsInstance}

-- ---- the next attachment

pub next_is : (o : Option Detached) → IsSome o → (part : Detached) × (o ≡ Some part)
next_is None some = absurd (cc some)
next_is (Some part) some = (part, refl)

pub next_or_none : (o : Option Detached) → IsSome o ⊎ (o ≡ None)
next_or_none None = inr refl
next_or_none (Some part) = inl refl

-- ---- room to hold instances

abbrev one_of : InstId → InstRow → ℕ
one_of id row = cond (bytes_eq row.id.0 id.0) 1 0

at_most_one : (b : Bool) → cond b 1 0 ≤ 1
at_most_one true = omega arith
at_most_one false = omega arith

held_once_more : (found : List InstRow) (row : InstRow) (id : InstId) → holds_of (found ++ row ∷ []) id ≤ holds_of found id + 1
held_once_more found row id =
    let a : holds_of (found ++ row ∷ []) id ≡ holds_of (row ∷ found) id = holds_push found row id in
    let b : holds_of (row ∷ found) id ≡ one_of id row + holds_of found id = sum_by-cons (one_of id) row found in
    let c : one_of id row ≤ 1 = at_most_one (bytes_eq row.id.0 id.0) in
    sums (holds_of (found ++ row ∷ []) id) (holds_of (row ∷ found) id) (one_of id row) (holds_of found id) a b c
  where
    sums : (all with one mine : ℕ) → all ≡ with → with ≡ one + mine → one ≤ 1 → all ≤ mine + 1
    sums all with one mine a b c = omega (arith, a, b, c)

-- one attachment fewer is left
pub one_left : (value : AttachingValue) (row : InstRow) → IsSome (next_attachment value) → parts_left (with_found row value) + 1 ≡ parts_left value
one_left value row next =
    let part = next_is (next_attachment value) next in
    let within : length value.found < length value.parts = is_within value.parts (length value.found) part.0 part.1 in
    let more : length (value.found ++ row ∷ []) ≡ length value.found + 1 = length-append value.found (row ∷ []) in
    counts (length value.parts) (length value.found) (length (value.found ++ row ∷ [])) within more
  where
    counts : (all some next : ℕ) → some < all → next ≡ some + 1 → all - next + 1 ≡ all - some
    counts all some next lt is = omega (arith, lt, is)

room_left : (now before mine more left rest : ℕ) → now + mine ≡ before + more → more ≤ mine + 1 → rest + 1 ≡ left → before + left ≤ 4294967295 → now + rest ≤ 4294967295
room_left now before mine more left rest sum once one room = omega (arith, sum, once, one, room)

pub room_found : {D : Type 0} → (value now : AttachingValue) (row : InstRow) (old new : StoreValue D) → IsSome (next_attachment value) → now ≡ with_found row value → MovesHolds (holds_of value.found) (holds_of now.found) old new → HasHoldRoom (parts_left value) old → HasHoldRoom (parts_left now) new
room_found value now row old new next is moves room =
    subst (λ (v : AttachingValue). HasHoldRoom (parts_left v) new) (sym is)
    (λ id. room_left (holders_in id new.instances.known) (holders_in id old.instances.known) (holds_of value.found id) (holds_of (value.found ++ row ∷ []) id) (parts_left value) (parts_left (with_found row value)) (subst (λ (v : AttachingValue). holders_in id new.instances.known + holds_of value.found id ≡ holders_in id old.instances.known + holds_of v.found id) is (moves id)) (held_once_more value.found row id) (one_left value row next) (room id))

same_sum : (now before mine left : ℕ) → now + mine ≡ before + mine → before + left ≤ 4294967295 → now + left ≤ 4294967295
same_sum now before mine left sum room = omega (arith, sum, room)

pub room_compared : {D : Type 0} → (value now : AttachingValue) (alike : Bool) (candidate : InstRow) (drawn : ℕ) (old new : StoreValue D) → IsSome (next_attachment value) → now ≡ (if alike then with_found candidate value else with_compared candidate drawn value)
    → MovesHolds (holds_of value.found) (holds_of now.found) old new → HasHoldRoom (parts_left value) old → HasHoldRoom (parts_left now) new
room_compared value now true candidate drawn old new next is moves room = room_found value now candidate old new next is moves room
room_compared value now false candidate drawn old new next is moves room =
    subst (λ (v : AttachingValue). HasHoldRoom (parts_left v) new) (sym is)
    (λ id. same_sum (holders_in id new.instances.known) (holders_in id old.instances.known) (holds_of value.found id) (parts_left value) (subst (λ (v : AttachingValue). holders_in id new.instances.known + holds_of value.found id ≡ holders_in id old.instances.known + holds_of v.found id) is (moves id)) (room id))

-- ---- calls that read

pub idle_leaves : (old new : Option History) → IsIdle old new → (lists : Lists) → IsSettledFor lists old → Leaves lists lists old new
idle_leaves None new idle lists settled = absurd settled
idle_leaves (Some old) new idle lists settled = idle-images (λ image. Safe image lists ⊎ Safe image lists) (Some old) new idle (λ image is. inl (settled_safe old.now lists image settled is))

-- ---- an instance is placed

-- the file of the next number is none yet
next_unknown : (instances : InstancesValue) (k : KnownInstance) → AreInstances instances → instances.highest < 4294967294 → Contains instances.known k → k.row.id ≡ next_id instances → ⊥
next_unknown instances k are few has is =
    let drawn : HasDrawnNumber instances.store instances.highest k.row.id = subst (λ (x : KnownInstance). HasDrawnNumber instances.store instances.highest x.row.id) has.2 (are.drawn has.0 k has.1) in
    let low : instances.highest + 1 ≤ instances.highest = drawn (instances.highest + 1) (omega (arith, few)) is in
    omega (arith, low)

same_inst : (a b : List ℕ) (c d : List ℕ) → Inst a b ≡ Inst c d → b ≡ d
same_inst a b c d e = cc e

not_there : (r : Option (List ℕ)) → ((octets : List ℕ) → r ≡ Some octets → ⊥) → r ≡ None
not_there None none = refl
not_there (Some octets) none = absurd (none octets refl)

pub next_is_fresh : {D : Type 0} → (hash : Hash) (store : StoreValue D) (history : Option History) → store.stopped ≡ false → HasKnownInstances history store → AreInstances store.instances → store.instances.highest < 4294967294
    → IfTold history (λ now. reading (now (next_instance_file hash store.instances)) ≡ None)
next_is_fresh hash store history runs has are few =
    if_told-map (AreInstancesThere store.instances.known) (λ now. reading (now (next_instance_file hash store.instances)) ≡ None) history (λ disk there.
    not_there (reading (disk (next_instance_file hash store.instances))) (λ octets is.
    let k = there.only hash.0 (next_id store.instances).0 octets is in
    next_unknown store.instances k.0 are few k.1 (same_id k.0.row.id (next_id store.instances) (same_inst k.0.row.hash.0 k.0.row.id.0 hash.0 (next_id store.instances).0 k.2)))) (has.running runs)

mail_apart : (number : ℕ) (hash id : List ℕ) → Mail number ≢ Inst hash id
mail_apart number hash id e = cc e

abbrev Synced : FileName → DiskState → DiskState → Type 0
Synced name a b = (other : FileName) → other ≢ name → b other ≡ named (a other)

pub adds_instance : (row : InstRow) (octets : List ℕ) (before after : Option History) → IfTold before (λ now. reading (now (instance_file row)) ≡ None) → IfTold after (λ now. Keeps (now (instance_file row)) octets) → OnlyNamesSynced (instance_file row) before after → AddsInstance row octets before after
adds_instance row octets before after fresh made others = record {
  fresh = fresh;
  files = between-map (Synced (instance_file row)) (λ a b. (number : ℕ) → IsSameOrSynced (a (Mail number)) (b (Mail number))) before after
      (λ a b same number. inr (same (Mail number) (mail_apart number row.hash.0 row.id.0))) others;
  others = between-map (Synced (instance_file row)) (λ a b. (hash id : List ℕ) → Inst hash id ≢ instance_file row → reading (b (Inst hash id)) ≡ reading (a (Inst hash id))) before after
      (λ a b same hash id apart. ap reading (same (Inst hash id) apart) ∙ named_reads (a (Inst hash id))) others;
  made = made;
}

not_full : (drawn highest : ℕ) → highest ≡ drawn → highest ≤ 4294967294 → (drawn ≡ 4294967294 → ⊥) → highest < 4294967294
not_full drawn highest is most apart = elim (cases_lt highest 4294967294) [
  | inl low ↦ low
  | inr high ↦ absurd (apart (omega (arith, is, most, high)))
]

pub writes_attachment : {D : Type 0} → (value : AttachingValue) (old : StoreValue D) (before after : Option History) → old.stopped ≡ false → HasKnownInstances before old → AreInstances old.instances → (old.drawn.instance ≡ 4294967294 → ⊥) → IsSome (next_attachment value) → next_candidate value old.instances ≡ None
    → ((part : Detached) → next_attachment value ≡ Some part → IfTold after (λ now. Keeps (now (next_instance_file part.hash old.instances)) part.octets)) → ((part : Detached) → next_attachment value ≡ Some part → OnlyNamesSynced (next_instance_file part.hash old.instances) before after)
    → WritesAttachment (next_candidate value old.instances) (next_attachment value) old before after
writes_attachment value old before after runs has are some next none made others =
    let part = next_is (next_attachment value) next in
    let few = not_full old.drawn.instance old.instances.highest has.kept.highest are.last some in
    subst (λ (c : Option InstRow). WritesAttachment c (next_attachment value) old before after) (sym none)
    (subst (λ (o : Option Detached). WritesAttachment None o old before after) (sym part.1)
    (adds_instance (part_row part.0 (next_id old.instances)) part.0.octets before after (next_is_fresh part.0.hash old before runs has are few) (made part.0 part.1) (others part.0 part.1)))

-- one that compares it
pub compared_writes : {D : Type 0} → (candidate : Option InstRow) (next : Option Detached) (row : InstRow) (old : StoreValue D) (before after : Option History) → candidate ≡ Some row → IsIdle before after → WritesAttachment candidate next old before after
compared_writes candidate next row old before after is idle = subst (λ (c : Option InstRow). WritesAttachment c next old before after) (sym is) (by_next next)
  where
    by_next : (o : Option Detached) → WritesAttachment (Some row) o old before after
    by_next None = mail_idle before after idle
    by_next (Some part) = mail_idle before after idle
