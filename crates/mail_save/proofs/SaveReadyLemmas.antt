-- A delivery stays ready from event to event.
use Rattle.mail_save.proofs.Common.{◌≡◌, ◌≤◌, ◌+◌, ℕ, List, length, Option, ap, arith, IsPrepared, Prepared, Faults, History, InstId, Did, Progress, AttachingValue, next_attachment, nothing_found, parts_left, holds_of, StoreValue, Claims, Held, LeavesOthers, save_claims, HasHoldRoom, HasLeft}
use Rattle.mail_save.proofs.Common.{IsAttached, Saves, SavedParts, SaveStage}
use Rattle.mdbox_base.specs.declared.progress.Progress.TheVariants as progress
use Rattle.save_instances.proofs.FoundLemmas.{holds_few}
use Rattle.save_instances.proofs.AttachCountLemmas.{none_more}
use Rattle.save_instances.specs.Attaching.{attach_events_left}
use Rattle.saved_message.proofs.ReferenceLemmas.{parts_few}
use Rattle.sis_store.proofs.IdLemmas.{is_within}
use Rattle.mail_save.specs.Task.{HasKept, IsAttachedSoFar, IsReadyToDeliver, holds_to_come, save_events_left}
use Rattle.mail_save.specs.declared.task.SaveStage.TheVariants as stage
use Rattle.mail_save.proofs.AttachLemmas.{next_is}

-- ---- room for holds

kept_of : {D : Type 0} → (now : SaveStage) (name : List ℕ) (time : ℕ) (store : StoreValue D) (history : Option History) → HasLeft now name time store history → HasKept now name time store history
kept_of (stage.First prepared) name time store history left = left.0
kept_of (stage.Attaching parts attaching) name time store history left = (left.0, left.1)
kept_of (stage.Taking parts) name time store history left = left
kept_of (stage.Placing parts file) name time store history left = left
kept_of (stage.Storing at rows room) name time store history left = left
kept_of (stage.Adding added room) name time store history left = left
kept_of (stage.GivingBack uid why room) name time store history left = left
kept_of stage.Ended name time store history left = left

pub left_of : {D : Type 0} → (now : SaveStage) (name : List ℕ) (time size : ℕ) (octets : List ℕ) (store : StoreValue D) (history : Option History) → IsReadyToDeliver now name time size octets store history → HasHoldRoom (holds_to_come now) store → HasLeft now name time store history
left_of (stage.First prepared) name time size octets store history r room = (r.kept, room)
left_of (stage.Attaching parts attaching) name time size octets store history r room = (r.kept.0, r.kept.1, room)
left_of (stage.Taking parts) name time size octets store history r room = r.kept
left_of (stage.Placing parts file) name time size octets store history r room = r.kept
left_of (stage.Storing at rows kept) name time size octets store history r room = r.kept
left_of (stage.Adding added kept) name time size octets store history r room = r.kept
left_of (stage.GivingBack uid why kept) name time size octets store history r room = r.kept
left_of stage.Ended name time size octets store history r room = r.kept

-- ---- from event to event

pub begins_ready : {D : Type 0} → (prepared : Prepared) (name : List ℕ) (time : ℕ) (octets : List ℕ) (store : StoreValue D) (history : Option History) → length octets ≤ 67108864 → IsPrepared octets prepared → IsReadyToDeliver (stage.First prepared) name time prepared.whole octets store history
begins_ready prepared name time octets store history small form = record { kept = (octets, small, form); ready = ((form.whole, small), form) }

pub save_ready : {D : Type 0} → (now next : SaveStage) (name : List ℕ) (time size : ℕ) (answer : Progress) (how : Did) (old new : StoreValue D) (before after : Option History) (began faulted : Faults) → Saves now next name time size answer how old new before after began faulted → answer ≡ progress.More → (octets : List ℕ)
    → IsReadyToDeliver now name time size octets old before → IsReadyToDeliver next name time size octets new after
save_ready now next name time size answer how old new before after began faulted s more octets r = record { kept = kept_of next name time new after (s.left more); ready = s.ready more octets r.ready }

-- ---- how much it holds at the most

attached_few : {D : Type 0} → (name : List ℕ) (time : ℕ) (parts : SavedParts) (attaching : AttachingValue) (store : StoreValue D) (history : Option History) → IsAttachedSoFar name time parts attaching store history → length attaching.parts ≤ 512
attached_few name time parts attaching store history a =
    let few : length a.2.prepared.parts ≤ 512 = parts_few a.0 a.2.prepared a.1 a.2.form in
    let same : length attaching.parts ≡ length a.2.prepared.parts = ap length a.2.parts_are in
    omega (arith, few, same)

rows_few : {D : Type 0} → (name : List ℕ) (time : ℕ) (parts : SavedParts) (store : StoreValue D) (history : Option History) → IsAttached name time parts store history → length parts.rows ≤ 512
rows_few name time parts store history a =
    let few : length a.0.2.prepared.parts ≤ 512 = parts_few a.0.0 a.0.2.prepared a.0.1 a.0.2.form in
    let same = a.0.2.one_each in
    omega (arith, few, same)

held_and_left : (found : AttachingValue) (id : InstId) → length found.found ≤ length found.parts → length found.parts ≤ 512 → holds_of found.found id + parts_left found ≤ 65535
held_and_left found id within few = let held = holds_few found.found id in omega (arith, held, within, few)

no_more : (held rows most : ℕ) → held ≤ rows → rows ≤ most → most ≤ 65535 → held + 0 ≤ 65535
no_more held rows most a b c = omega (arith, a, b, c)

pub holds_are_few : {D : Type 0} → (now : SaveStage) (name : List ℕ) (time size : ℕ) (octets : List ℕ) (store : StoreValue D) (history : Option History) → IsReadyToDeliver now name time size octets store history → (id : InstId) → save_claims now (Held id) + holds_to_come now ≤ 65535
holds_are_few (stage.First prepared) name time size octets store history r id = let few = parts_few r.kept.0 prepared r.kept.1 r.kept.2 in omega (arith, few)
holds_are_few (stage.Attaching parts attaching) name time size octets store history r id =
    let part = next_is (next_attachment attaching) r.kept.1 in
    let within = is_within attaching.parts (length attaching.found) part.0 part.1 in
    held_and_left attaching id (omega (arith, within)) (attached_few name time parts attaching store history r.kept.0)
holds_are_few (stage.Taking parts) name time size octets store history r id = no_more (holds_of parts.rows id) (length parts.rows) 512 (holds_few parts.rows id) (rows_few name time parts store history r.kept) (omega arith)
holds_are_few (stage.Placing parts file) name time size octets store history r id = no_more (holds_of parts.rows id) (length parts.rows) 512 (holds_few parts.rows id) (rows_few name time parts store history r.kept.0) (omega arith)
holds_are_few (stage.Storing at rows room) name time size octets store history r id = let held = holds_few rows id in let few = r.kept.2.few in omega (arith, held, few)
holds_are_few (stage.Adding added room) name time size octets store history r id = omega arith
holds_are_few (stage.GivingBack uid why room) name time size octets store history r id = omega arith
holds_are_few stage.Ended name time size octets store history r id = omega arith

-- ---- room for all

-- where each instance can be held as often as one task may come to hold it
pub left_with_room : {D : Type 0} → (now : SaveStage) (name : List ℕ) (time size : ℕ) (octets : List ℕ) (store : StoreValue D) (history : Option History) → IsReadyToDeliver now name time size octets store history → HasHoldRoom 65535 store → HasLeft now name time store history
left_with_room now name time size octets store history r room = left_of now name time size octets store history r (λ id. let few = holds_are_few now name time size octets store history r id in let most = room id in omega (arith, few, most))

-- ---- events to come, beside other tasks

pub work_stays : {D : Type 0} → (now : SaveStage) (mine : Claims) (old new : StoreValue D) (before after : Option History) → LeavesOthers mine old new before after → save_events_left now new.instances ≤ save_events_left now old.instances
work_stays (stage.First prepared) mine old new before after l = one_more (nothing_found prepared.parts) 7
  where
    one_more : (value : AttachingValue) (n : ℕ) → attach_events_left value new.instances + n ≤ attach_events_left value old.instances + n
    one_more value n = let few = none_more value old.instances new.instances l.numbers.drawn l.numbers.last l.numbers.few l.numbers.candidates in omega (arith, few)
work_stays (stage.Attaching parts attaching) mine old new before after l = let few = none_more attaching old.instances new.instances l.numbers.drawn l.numbers.last l.numbers.few l.numbers.candidates in omega (arith, few)
work_stays (stage.Taking parts) mine old new before after l = omega arith
work_stays (stage.Placing parts file) mine old new before after l = omega arith
work_stays (stage.Storing at rows room) mine old new before after l = omega arith
work_stays (stage.Adding added room) mine old new before after l = omega arith
work_stays (stage.GivingBack uid why room) mine old new before after l = omega arith
work_stays stage.Ended mine old new before after l = omega arith
