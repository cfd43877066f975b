-- Which numbers an event of a delivery draws: instances that it places draw one each, and no mailbox gets one, since the mailboxes stay.
use Rattle.mail_save.proofs.Common.{◌≡◌, ◌≤◌, ◌+◌, ℕ, Bool, true, false, List, refl, sym, ◌∙◌, ap, subst, arith, inl, inr, length, if◌then◌else◌, InstRow, MapEntry, Hash, Progress, Refusal, MapMeaning, map_applied, AttachingValue, InstancesValue, after_placing, holders_in, KnownInstance, StoreValue}
use Rattle.mail_save.proofs.Common.{entry_lowered, entry_stored, AttachesNext, AttachesNone, IsLeftAlone, LetsGo, SaveEffects, StoresNone, TakesNone, SavedAt, SaveStage}
use Rattle.std.specs.Prelude.{◌<◌, map}
use Rattle.std.proofs.Math.Nat.{le-max_left, le_of_eq}
use Rattle.mdbox_base.specs.declared.progress.Progress.TheVariants as progress
use Rattle.mdbox_base.specs.declared.replies.Refusal.TheVariants as refusal
use Rattle.mdbox_base.specs.declared.replies.Reply.TheVariants as reply
use Rattle.model_meaning.specs.MapMeaning.{numbers_of}
use Rattle.save_instances.proofs.AttachCountLemmas.{AreSameRows, held_rows, let_go_rows, placed_many, same_candidates, same_many}
use Rattle.save_instances.specs.Attaching.{candidate_held}
use Rattle.sis_store.specs.Instances.{instance_placed}
use Rattle.task_claims.specs.Leaving.{PlacesFew}
use Rattle.mail_save.specs.declared.task.SaveStage.TheVariants as stage
use Rattle.mail_save.proofs.SaveAttachLemmas.{few_drawn}
use Rattle.mail_save.proofs.SaveEventLemmas.{unfallen}

-- ---- instances

abbrev map_rows : List KnownInstance → List InstRow
map_rows known = map (λ k. k.row) known

held_few : (old new : InstancesValue) → new.highest ≡ old.highest → AreSameRows old.known new.known → PlacesFew old new
held_few old new high rows = record {
  drawn = omega (arith, high);
  few = let many = same_many old.known new.known rows in omega (arith, high, many);
  candidates = λ same hash size after. le_of_eq (same_candidates old.known new.known rows hash size after);
  last = λ other. absurd (other high);
}

placed_few : (hash : Hash) (size : ℕ) (old new : InstancesValue) → new ≡ after_placing hash size old → old.highest < 4294967294 → PlacesFew old new
placed_few hash size old new is few =
    let high : new.highest ≡ old.highest + 1 = ap (λ (i : InstancesValue). i.highest) is in
    let many : length new.known ≤ length old.known + 1 = subst (λ (i : InstancesValue). length i.known ≤ length old.known + 1) (sym is) (placed_many (instance_placed old hash size) old.known) in
    record { drawn = omega (arith, high); few = omega (arith, high, many); candidates = λ same. absurd (never old.highest new.highest high same); last = λ other. omega (arith, high, few) }
  where
    never : (a b : ℕ) → b ≡ a + 1 → b ≡ a → ⊥
    never a b more same = omega (arith, more, same)

-- ---- numbers of a store

pub record DrawsNumbers {D : Type 0} (old new : StoreValue D) : Type 0 where
  pub numbers : PlacesFew old.instances new.instances
  pub mailboxes : old.map.highest.mailbox ≤ new.map.highest.mailbox
  pub boxes : new.map.boxes ≡ old.map.boxes

same_map : {D : Type 0} → (old new : StoreValue D) → new.map ≡ old.map → old.map.highest.mailbox ≤ new.map.highest.mailbox
same_map old new map = let same = ap (λ (m : MapMeaning). m.highest.mailbox) map in omega (arith, same)

entry_more : (entry : MapEntry) (m n : MapMeaning) → n ≡ map_applied entry m → m.highest.mailbox ≤ n.highest.mailbox
entry_more entry m n is = subst (λ (k : MapMeaning). m.highest.mailbox ≤ k.highest.mailbox) (sym is) (le-max_left m.highest.mailbox (numbers_of m.store entry).mailbox)

by_rows : {D : Type 0} → (old new : StoreValue D) → new.map ≡ old.map → new.instances.highest ≡ old.instances.highest → AreSameRows old.instances.known new.instances.known → DrawsNumbers old new
by_rows old new map high rows = record { numbers = held_few old.instances new.instances high rows; mailboxes = same_map old new map; boxes = ap (λ (m : MapMeaning). m.boxes) map }

keeps_numbers : {D : Type 0} → (old new : StoreValue D) → new.map ≡ old.map → new.instances ≡ old.instances → DrawsNumbers old new
keeps_numbers old new map instances = by_rows old new map (ap (λ (i : InstancesValue). i.highest) instances) (ap (λ (i : InstancesValue). map_rows i.known) instances)

let_go_numbers : {D : Type 0} → (found : List InstRow) (old left new : StoreValue D) → LetsGo found left new → left.instances ≡ old.instances → old.map.highest.mailbox ≤ left.map.highest.mailbox → left.map.boxes ≡ old.map.boxes → DrawsNumbers old new
let_go_numbers found old left new gone instances mailboxes boxes = record {
  numbers =
      held_few old.instances new.instances (ap (λ (v : StoreValue _). v.instances.highest) gone ∙ ap (λ (i : InstancesValue). i.highest) instances)
      (ap (λ (v : StoreValue _). map_rows v.instances.known) gone ∙ (let_go_rows found left.instances.known ∙ ap (λ (i : InstancesValue). map_rows i.known) instances));
  mailboxes = subst (λ (v : StoreValue _). old.map.highest.mailbox ≤ v.map.highest.mailbox) (sym gone) mailboxes;
  boxes = ap (λ (v : StoreValue _). v.map.boxes) gone ∙ boxes;
}

-- ---- by event

attached_numbers : {D : Type 0} → (attaching more : AttachingValue) (old new : StoreValue D) → old.instances.highest ≡ old.drawn.instance → AttachesNext attaching more old new → DrawsNumbers old new
attached_numbers attaching more old new drawn (inl k) =
    by_rows old new (ap (λ (v : StoreValue _). v.map) k.same) (ap (λ (v : StoreValue _). v.instances.highest) k.same) (ap (λ (v : StoreValue _). map_rows v.instances.known) k.same ∙ by_test k.alike)
  where
    by_test : (alike : Bool) → AreSameRows old.instances.known (if alike then candidate_held k.candidate old.instances.known else old.instances.known)
    by_test true = held_rows k.candidate.id (holders_in k.candidate.id old.instances.known + 1) old.instances.known
    by_test false = refl
attached_numbers attaching more old new drawn (inr k) = record {
  numbers = placed_few k.part.hash (length k.part.octets) old.instances new.instances (ap (λ (v : StoreValue _). v.instances) k.same) (let few = few_drawn old.drawn.instance k.few in omega (arith, few, drawn));
  mailboxes = same_map old new (ap (λ (v : StoreValue _). v.map) k.same);
  boxes = ap (λ (v : StoreValue _). v.map.boxes) k.same;
}

-- of a store that runs still
unattached_instances : {D : Type 0} → (attaching : AttachingValue) (why : Refusal) (old new : StoreValue D) → new.stopped ≡ false → AttachesNone attaching why old new → (new.instances ≡ old.instances) × (new.map ≡ old.map)
unattached_instances attaching refusal.Stopped old new runs k = absurd (unfallen new.stopped (ap (λ (v : StoreValue _). v.stopped) k.2) runs)
unattached_instances attaching refusal.ReadFault old new runs k = (ap (λ (v : StoreValue _). v.instances) k.1, ap (λ (v : StoreValue _). v.map) k.1)
unattached_instances attaching why old new runs k = (ap (λ (v : StoreValue _). v.instances) k.1, ap (λ (v : StoreValue _). v.map) k.1)

untaken_instances : {D : Type 0} → (size : ℕ) (why : Refusal) (old new : StoreValue D) → TakesNone size why old new → (new.instances ≡ old.instances) × (new.map ≡ old.map)
untaken_instances size why old new (inl k) = (ap (λ (v : StoreValue _). v.instances) k.1, ap (λ (v : StoreValue _). v.map) k.1)
untaken_instances size why old new (inr (inl k)) = (ap (λ (v : StoreValue _). v.instances) k.1.same, ap (λ (v : StoreValue _). v.map) k.1.same)
untaken_instances size why old new (inr (inr k)) = (ap (λ (v : StoreValue _). v.instances) k.1.same, ap (λ (v : StoreValue _). v.map) k.1.same)

unstored_instances : {D : Type 0} → (at : SavedAt) (why : Refusal) (old new : StoreValue D) → StoresNone at why old new → (new.instances ≡ old.instances) × (new.map ≡ old.map)
unstored_instances at why old new (inl k) = (ap (λ (v : StoreValue _). v.instances) k.1.same, ap (λ (v : StoreValue _). v.map) k.1.same)
unstored_instances at why old new (inr k) = (ap (λ (v : StoreValue _). v.instances) k.1.same, ap (λ (v : StoreValue _). v.map) k.1.same)

as_same : {D : Type 0} → (old new : StoreValue D) → new ≡ old → DrawsNumbers old new
as_same old new same = keeps_numbers old new (ap (λ (v : StoreValue _). v.map) same) (ap (λ (v : StoreValue _). v.instances) same)

alone_numbers : {D : Type 0} → (old new : StoreValue D) → IsLeftAlone old new → DrawsNumbers old new
alone_numbers old new k = keeps_numbers old new (ap (λ (v : StoreValue _). v.map) k.same) (ap (λ (v : StoreValue _). v.instances) k.same)

let_go_same : {D : Type 0} → (found : List InstRow) (old left new : StoreValue D) → LetsGo found left new → (left.instances ≡ old.instances) × (left.map ≡ old.map) → DrawsNumbers old new
let_go_same found old left new gone k = let_go_numbers found old left new gone k.0 (same_map old left k.1) (ap (λ (m : MapMeaning). m.boxes) k.1)

pub save_numbers : {D : Type 0} → (now next : SaveStage) (name : List ℕ) (time size : ℕ) (answer : Progress) (old new : StoreValue D) → old.instances.highest ≡ old.drawn.instance → new.stopped ≡ false → SaveEffects now next name time size answer old new → DrawsNumbers old new
save_numbers (stage.First prepared) (stage.Attaching parts attaching) name time size progress.More old new drawn runs e = as_same old new e.0
save_numbers (stage.First prepared) (stage.Taking parts) name time size progress.More old new drawn runs e = as_same old new e.0
save_numbers (stage.First prepared) stage.Ended name time size (progress.Done (reply.Refused why)) old new drawn runs e = as_same old new e
save_numbers (stage.Attaching parts attaching) (stage.Attaching laid more) name time size progress.More old new drawn runs e = attached_numbers attaching more old new drawn e.1
save_numbers (stage.Attaching parts attaching) (stage.Taking named) name time size progress.More old new drawn runs e = attached_numbers attaching e.0 old new drawn e.1
save_numbers (stage.Attaching parts attaching) stage.Ended name time size (progress.Done (reply.Refused why)) old new drawn runs e =
    let_go_same attaching.found old e.0 new e.2 (unattached_instances attaching why old e.0 (sym (ap (λ (v : StoreValue _). v.stopped) e.2) ∙ runs) e.1)
save_numbers (stage.Taking parts) (stage.Placing laid file) name time size progress.More old new drawn runs e = keeps_numbers old new (ap (λ (v : StoreValue _). v.map) e.1.same) (ap (λ (v : StoreValue _). v.instances) e.1.same)
save_numbers (stage.Taking parts) stage.Ended name time size (progress.Done (reply.Refused why)) old new drawn runs e = let_go_same parts.rows old e.0 new e.2 (untaken_instances (length parts.laid.region) why old e.0 e.1)
save_numbers (stage.Placing parts file) (stage.Storing at rows room) name time size progress.More old new drawn runs e = keeps_numbers old new (ap (λ (v : StoreValue _). v.map) e.same) (ap (λ (v : StoreValue _). v.instances) e.same)
save_numbers (stage.Placing parts file) stage.Ended name time size (progress.Done (reply.Refused why)) old new drawn runs e = let_go_same parts.rows old e.0 new e.2 (ap (λ (v : StoreValue _). v.instances) e.1.same, ap (λ (v : StoreValue _). v.map) e.1.same)
save_numbers (stage.Storing at rows room) (stage.Adding added left) name time size progress.More old new drawn runs e =
    let_go_numbers rows old e.0 new e.2 (ap (λ (v : StoreValue _). v.instances) e.1.same) (entry_more (entry_stored rows added.map_uid at) old.map e.0.map e.1.map) e.1.mailboxes
save_numbers (stage.Storing at rows room) stage.Ended name time size (progress.Done (reply.Refused why)) old new drawn runs e = let_go_same rows old e.0 new e.2 (unstored_instances at why old e.0 e.1)
save_numbers (stage.Adding added room) stage.Ended name time size (progress.Done (reply.Saved uid guid)) old new drawn runs e = keeps_numbers old new (ap (λ (v : StoreValue _). v.map) e.1.same) (ap (λ (v : StoreValue _). v.instances) e.1.same)
save_numbers (stage.Adding added room) stage.Ended name time size (progress.Done (reply.Refused why)) old new drawn runs e = alone_numbers old new e
save_numbers (stage.Adding added room) (stage.GivingBack uid why left) name time size progress.More old new drawn runs e = as_same old new e.1
save_numbers (stage.GivingBack uid why room) stage.Ended name time size (progress.Done (reply.Refused given)) old new drawn runs (inl e) = record {
  numbers = held_few old.instances new.instances (ap (λ (v : StoreValue _). v.instances.highest) e.1.same) (ap (λ (v : StoreValue _). map_rows v.instances.known) e.1.same);
  mailboxes = entry_more (entry_lowered uid) old.map new.map e.1.map;
  boxes = e.1.mailboxes;
}
save_numbers (stage.GivingBack uid why room) stage.Ended name time size (progress.Done (reply.Refused given)) old new drawn runs (inr e) = alone_numbers old new e.1
save_numbers now next name time size answer old new drawn runs e = absurd e

-- ---- the map log, and logs that were made

-- The map log has no less room, and unless the store is stopped it is no shorter. The logs that were made are the same.
pub record LeavesLogs {D : Type 0} (old new : StoreValue D) : Type 0 where
  pub room : old.map_log.room ≤ new.map_log.room
  pub end : new.stopped ≡ false → old.map_log.end ≤ new.map_log.end
  pub made : new.made ≡ old.made

same_logs : {D : Type 0} → (old new : StoreValue D) → new.map_log ≡ old.map_log → new.made ≡ old.made → LeavesLogs old new
same_logs old new log made = record {
  room = rw log (omega arith);
  end = λ runs. rw log (omega arith);
  made = made;
}

-- also behind an event by which instances are let go
logs_behind : {D : Type 0} → (found : List InstRow) (old left new : StoreValue D) → LetsGo found left new → LeavesLogs old left → LeavesLogs old new
logs_behind found old left new gone logs = subst (λ (v : StoreValue _). LeavesLogs old v) (sym gone) (record { room = logs.room; end = logs.end; made = logs.made })

logs_as : {D : Type 0} → (old new : StoreValue D) → new ≡ old → LeavesLogs old new
logs_as old new same = same_logs old new (ap (λ (v : StoreValue _). v.map_log) same) (ap (λ (v : StoreValue _). v.made) same)

attached_logs : {D : Type 0} → (attaching more : AttachingValue) (old new : StoreValue D) → AttachesNext attaching more old new → LeavesLogs old new
attached_logs attaching more old new (inl k) = same_logs old new (ap (λ (v : StoreValue _). v.map_log) k.same) (ap (λ (v : StoreValue _). v.made) k.same)
attached_logs attaching more old new (inr k) = same_logs old new (ap (λ (v : StoreValue _). v.map_log) k.same) (ap (λ (v : StoreValue _). v.made) k.same)

unattached_logs : {D : Type 0} → (attaching : AttachingValue) (why : Refusal) (old new : StoreValue D) → AttachesNone attaching why old new → LeavesLogs old new
unattached_logs attaching refusal.Stopped old new k = same_logs old new (ap (λ (v : StoreValue _). v.map_log) k.2) (ap (λ (v : StoreValue _). v.made) k.2)
unattached_logs attaching refusal.ReadFault old new k = same_logs old new (ap (λ (v : StoreValue _). v.map_log) k.1) (ap (λ (v : StoreValue _). v.made) k.1)
unattached_logs attaching why old new k = same_logs old new (ap (λ (v : StoreValue _). v.map_log) k.1) (ap (λ (v : StoreValue _). v.made) k.1)

untaken_logs : {D : Type 0} → (size : ℕ) (why : Refusal) (old new : StoreValue D) → TakesNone size why old new → LeavesLogs old new
untaken_logs size why old new (inl k) = logs_as old new k.1
untaken_logs size why old new (inr (inl k)) = same_logs old new (ap (λ (v : StoreValue _). v.map_log) k.1.same) (ap (λ (v : StoreValue _). v.made) k.1.same)
untaken_logs size why old new (inr (inr k)) = same_logs old new (ap (λ (v : StoreValue _). v.map_log) k.1.same) (ap (λ (v : StoreValue _). v.made) k.1.same)

alone_logs : {D : Type 0} → (old new : StoreValue D) → IsLeftAlone old new → LeavesLogs old new
alone_logs old new k = record { room = k.room; end = k.end; made = ap (λ (v : StoreValue _). v.made) k.same }

unstored_logs : {D : Type 0} → (at : SavedAt) (why : Refusal) (old new : StoreValue D) → StoresNone at why old new → LeavesLogs old new
unstored_logs at why old new (inl k) = alone_logs old new k.1
unstored_logs at why old new (inr k) = same_logs old new (ap (λ (v : StoreValue _). v.map_log) k.1.same) (ap (λ (v : StoreValue _). v.made) k.1.same)

-- so each event leaves them
pub save_logs : {D : Type 0} → (now next : SaveStage) (name : List ℕ) (time size : ℕ) (answer : Progress) (old new : StoreValue D) → SaveEffects now next name time size answer old new → LeavesLogs old new
save_logs (stage.First prepared) (stage.Attaching parts attaching) name time size progress.More old new e = logs_as old new e.0
save_logs (stage.First prepared) (stage.Taking parts) name time size progress.More old new e = logs_as old new e.0
save_logs (stage.First prepared) stage.Ended name time size (progress.Done (reply.Refused why)) old new e = logs_as old new e
save_logs (stage.Attaching parts attaching) (stage.Attaching laid more) name time size progress.More old new e = attached_logs attaching more old new e.1
save_logs (stage.Attaching parts attaching) (stage.Taking named) name time size progress.More old new e = attached_logs attaching e.0 old new e.1
save_logs (stage.Attaching parts attaching) stage.Ended name time size (progress.Done (reply.Refused why)) old new e = logs_behind attaching.found old e.0 new e.2 (unattached_logs attaching why old e.0 e.1)
save_logs (stage.Taking parts) (stage.Placing laid file) name time size progress.More old new e = same_logs old new (ap (λ (v : StoreValue _). v.map_log) e.1.same) (ap (λ (v : StoreValue _). v.made) e.1.same)
save_logs (stage.Taking parts) stage.Ended name time size (progress.Done (reply.Refused why)) old new e = logs_behind parts.rows old e.0 new e.2 (untaken_logs (length parts.laid.region) why old e.0 e.1)
save_logs (stage.Placing parts file) (stage.Storing at rows room) name time size progress.More old new e = same_logs old new (ap (λ (v : StoreValue _). v.map_log) e.same) (ap (λ (v : StoreValue _). v.made) e.same)
save_logs (stage.Placing parts file) stage.Ended name time size (progress.Done (reply.Refused why)) old new e = logs_behind parts.rows old e.0 new e.2 (alone_logs old e.0 e.1)
save_logs (stage.Storing at rows room) (stage.Adding added left) name time size progress.More old new e =
    let s = e.1 in
    logs_behind rows old e.0 new e.2 (record { room = s.room; end = λ runs. let further = s.further in omega (arith, further); made = ap (λ (v : StoreValue _). v.made) s.same })
save_logs (stage.Storing at rows room) stage.Ended name time size (progress.Done (reply.Refused why)) old new e = logs_behind rows old e.0 new e.2 (unstored_logs at why old e.0 e.1)
save_logs (stage.Adding added room) stage.Ended name time size (progress.Done (reply.Saved uid guid)) old new e = same_logs old new (ap (λ (v : StoreValue _). v.map_log) e.1.same) (ap (λ (v : StoreValue _). v.made) e.1.same)
save_logs (stage.Adding added room) stage.Ended name time size (progress.Done (reply.Refused why)) old new e = alone_logs old new e
save_logs (stage.Adding added room) (stage.GivingBack uid why left) name time size progress.More old new e = logs_as old new e.1
save_logs (stage.GivingBack uid why room) stage.Ended name time size (progress.Done (reply.Refused given)) old new (inl e) =
    let s = e.1 in record { room = s.room; end = λ runs. let further = s.further in omega (arith, further); made = ap (λ (v : StoreValue _). v.made) s.same }
save_logs (stage.GivingBack uid why room) stage.Ended name time size (progress.Done (reply.Refused given)) old new (inr e) = alone_logs old new e.1
save_logs now next name time size answer old new e = absurd e
