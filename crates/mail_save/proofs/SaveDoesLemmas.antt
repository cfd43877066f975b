-- What any step of a delivery did.
use Rattle.mail_save.proofs.Common.{◌≡◌, ◌<◌, ◌^◌, ℕ, true, false, List, length, Option, Some, None, refl, ap, subst, is_none, History, Faults, IfTold, IsOctets, InstRow, Did, Progress, First, Compares, PlacesInstance, TakesFile, PlacesMessage, StoresRecord, GivesBack, Around, next_candidate}
use Rattle.mail_save.proofs.Common.{AreInstances, AreFilesInOrder, IsStore, AreInstancesKept, StoreValue, seen_of, IsReadyToSave, SaveEffects, HasItsParts, StepsWithRoom, around_saving, IsAtSave, room_at, Own, IsTakingFile, HasLeft, Saves, stopped_reply, SaveStage}
use Rattle.mdbox_base.specs.declared.progress.Did.TheVariants as did
use Rattle.mdbox_base.specs.declared.progress.Progress.TheVariants as progress
use Rattle.mdbox_base.specs.declared.replies.Reply.TheVariants as reply
use Rattle.mdbox_base.specs.declared.requests.Request.TheVariants as request
use Rattle.task_steps.specs.Step.{ended_by}
use Rattle.mail_save.specs.Task.{SaveValue}
use Rattle.mail_save.specs.declared.task.SaveStage.TheVariants as stage
use Rattle.mail_save.proofs.SaveAttachLemmas.{attaching_on, attaching_refused, attaching_whole, is_left}
use Rattle.mail_save.proofs.SaveClauseLemmas.{EventOf, DeliveryClause, before_letting, lets_go_does}
use Rattle.mail_save.proofs.SaveLastLemmas.{unsaved_stopped}
use Rattle.mail_save.proofs.SaveRefusedLemmas.{comparing_at, ends_comparing, ends_placing_instance, placing_instance_at, ends_first, ends_taking, ends_placing, ends_storing, ends_giving, first_at, taking_at, placing_at, storing_at, lowering_at, stopped_save}
use Rattle.mail_save.proofs.SaveStepLemmas.{first_attaching, first_taking, first_refused, taking_more, taking_refused, placing_more, placing_refused, storing_more, storing_refused, adding_saved, adding_refused, adding_more, giving_refused}
use Rattle.mail_save.proofs.SaveStoreLemmas.{sees_around}

-- ---- of a store that wasn't stopped

save_does : {D : Type 0} → (pins : ℕ → ℕ) (now next : SaveStage) (name : List ℕ) (time size : ℕ) (octets : List ℕ) (answer : Progress) (how : Did) (old new : StoreValue D) (before after : Option History) (began faulted : Faults) → EventOf now next name time size octets answer how old new before after began faulted
    → SaveEffects now next name time size answer old new → (answer ≡ progress.More → HasLeft next name time new after) → DeliveryClause pins octets now next name time answer how old new before after began faulted
save_does pins (stage.First prepared) (stage.Attaching parts attaching) name time size octets progress.More how old new before after began faulted e made on = first_attaching pins prepared parts attaching name time size octets how old new before after began faulted e made.0 made.1 made.2
save_does pins (stage.First prepared) (stage.Taking parts) name time size octets progress.More how old new before after began faulted e made on = first_taking pins prepared parts name time size octets how old new before after began faulted e made.0 made.2
save_does pins (stage.First prepared) stage.Ended name time size octets (progress.Done (reply.Refused why)) how old new before after began faulted e made on = first_refused pins prepared why name time size octets how old new before after began faulted e made
save_does pins (stage.Attaching parts attaching) (stage.Attaching laid more) name time size octets progress.More how old new before after began faulted e made on = attaching_on pins parts laid attaching more name time size octets how old new before after began faulted e made.1
save_does pins (stage.Attaching parts attaching) (stage.Taking named) name time size octets progress.More how old new before after began faulted e made on = attaching_whole pins parts named attaching made.0 name time size octets how old new before after began faulted e made.1 made.3
save_does pins (stage.Attaching parts attaching) stage.Ended name time size octets (progress.Done (reply.Refused why)) how old new before after began faulted e made on =
    lets_go_does pins octets (stage.Attaching parts attaching) stage.Ended name time (progress.Done (reply.Refused why)) how old made.0 new before after began faulted attaching.found e.ran made.2
    (attaching_refused pins parts attaching why name time size octets how old made.0 before after began faulted (before_letting (stage.Attaching parts attaching) stage.Ended name time size octets (progress.Done (reply.Refused why)) how old made.0 new before after began faulted attaching.found made.2 e) made.1)
save_does pins (stage.Taking parts) (stage.Placing laid file) name time size octets progress.More how old new before after began faulted e made on = taking_more pins parts laid file name time size octets how old new before after began faulted e made.0 made.1
save_does pins (stage.Taking parts) stage.Ended name time size octets (progress.Done (reply.Refused why)) how old new before after began faulted e made on =
    lets_go_does pins octets (stage.Taking parts) stage.Ended name time (progress.Done (reply.Refused why)) how old made.0 new before after began faulted parts.rows e.ran made.2
    (taking_refused pins parts why name time size octets how old made.0 before after began faulted (before_letting (stage.Taking parts) stage.Ended name time size octets (progress.Done (reply.Refused why)) how old made.0 new before after began faulted parts.rows made.2 e) made.1)
save_does pins (stage.Placing parts file) (stage.Storing at rows room) name time size octets progress.More how old new before after began faulted e made on = placing_more pins parts file at rows room name time size octets how old new before after began faulted e made (on refl).1
save_does pins (stage.Placing parts file) stage.Ended name time size octets (progress.Done (reply.Refused why)) how old new before after began faulted e made on =
    lets_go_does pins octets (stage.Placing parts file) stage.Ended name time (progress.Done (reply.Refused why)) how old made.0 new before after began faulted parts.rows e.ran made.2
    (placing_refused pins parts file why name time size octets how old made.0 before after began faulted (before_letting (stage.Placing parts file) stage.Ended name time size octets (progress.Done (reply.Refused why)) how old made.0 new before after began faulted parts.rows made.2 e) made.1)
save_does pins (stage.Storing at rows room) (stage.Adding added left) name time size octets progress.More how old new before after began faulted e made on =
    lets_go_does pins octets (stage.Storing at rows room) (stage.Adding added left) name time progress.More how old made.0 new before after began faulted rows e.ran made.2
    (storing_more pins at rows room left added name time size octets how old made.0 before after began faulted (before_letting (stage.Storing at rows room) (stage.Adding added left) name time size octets progress.More how old made.0 new before after began faulted rows made.2 e) made.1)
save_does pins (stage.Storing at rows room) stage.Ended name time size octets (progress.Done (reply.Refused why)) how old new before after began faulted e made on =
    lets_go_does pins octets (stage.Storing at rows room) stage.Ended name time (progress.Done (reply.Refused why)) how old made.0 new before after began faulted rows e.ran made.2
    (storing_refused pins at rows room why name time size octets how old made.0 before after began faulted (before_letting (stage.Storing at rows room) stage.Ended name time size octets (progress.Done (reply.Refused why)) how old made.0 new before after began faulted rows made.2 e) made.1)
save_does pins (stage.Adding added room) stage.Ended name time size octets (progress.Done (reply.Saved uid guid)) how old new before after began faulted e made on = adding_saved pins added room uid guid name time size octets how old new before after began faulted e made.0 made.1
save_does pins (stage.Adding added room) stage.Ended name time size octets (progress.Done (reply.Refused why)) how old new before after began faulted e made on = adding_refused pins added room why name time size octets how old new before after began faulted e made
save_does pins (stage.Adding added room) (stage.GivingBack uid why left) name time size octets progress.More how old new before after began faulted e made on = adding_more pins added room left uid why name time size octets how old new before after began faulted e made.0 made.1
save_does pins (stage.GivingBack uid cause room) stage.Ended name time size octets (progress.Done (reply.Refused why)) how old new before after began faulted e made on = giving_refused pins uid cause room why name time size octets how old new before after began faulted e made
save_does pins now next name time size octets answer how old new before after began faulted e made on = absurd made

-- ---- of one that was

save_stopped : {D : Type 0} → (pins : ℕ → ℕ) (now next : SaveStage) (name : List ℕ) (time : ℕ) (octets : List ℕ) (store : StoreValue D) (history : Option History) (faults : Faults) → IsStore history store → AreFilesInOrder store.files → AreInstances store.instances → HasItsParts now octets → store.stopped ≡ true
    → DeliveryClause pins octets now next name time stopped_reply did.Quiet store store history history faults faults
save_stopped pins (stage.First prepared) next name time octets store history faults is order ids parts_are stopped = λ behind.
    let around = around_saving octets (stage.First prepared) store in
    stopped_save around behind name time octets First (IsAtSave (stage.First prepared)) (IsAtSave next) (seen_of pins store history faults) (sees_around pins octets (stage.First prepared) store history faults is order ids) (ends_first name time octets) (first_at around (request.Deliver name time octets)) stopped
save_stopped pins (stage.Attaching parts attaching) next name time octets store history faults is order ids parts_are stopped = λ behind. by_candidate behind (next_candidate attaching store.instances) refl
  where
    by_candidate : (behind : Around) (o : Option InstRow) → next_candidate attaching store.instances ≡ o
        → StepsWithRoom (IsTakingFile attaching.found) (IsAtSave next) (around_saving octets (stage.Attaching parts attaching) store) behind (request.Deliver name time octets) (seen_of pins store history faults) (seen_of pins store history faults) did.Quiet (ended_by stopped_reply)
    by_candidate behind (Some candidate) found =
        let around = around_saving octets (stage.Attaching parts attaching) store in
        stopped_save around behind name time octets Compares (IsTakingFile attaching.found) (IsAtSave next) (seen_of pins store history faults) (sees_around pins octets (stage.Attaching parts attaching) store history faults is order ids) (ends_comparing name time octets)
        (comparing_at around name time octets attaching.found candidate (is_left parts attaching octets parts_are.1 parts_are) found) stopped
    by_candidate behind None found =
        let around = around_saving octets (stage.Attaching parts attaching) store in
        stopped_save around behind name time octets PlacesInstance (IsTakingFile attaching.found) (IsAtSave next) (seen_of pins store history faults) (sees_around pins octets (stage.Attaching parts attaching) store history faults is order ids) (ends_placing_instance name time octets)
        (placing_instance_at around name time octets attaching.found (is_left parts attaching octets parts_are.1 parts_are) found) stopped
save_stopped pins (stage.Taking parts) next name time octets store history faults is order ids parts_are stopped = λ behind.
    let around = around_saving octets (stage.Taking parts) store in
    let sees = sees_around pins octets (stage.Taking parts) store history faults is order ids in
    stopped_save around behind name time octets (TakesFile (is_none (room_at (stage.Taking parts) store))) (IsAtSave (stage.Taking parts)) (IsAtSave next) (seen_of pins store history faults) sees (ends_taking name time octets (is_none (room_at (stage.Taking parts) store)))
    (taking_at around name time octets parts.rows parts_are) stopped
save_stopped pins (stage.Placing parts file) next name time octets store history faults is order ids parts_are stopped = λ behind.
    let around = around_saving octets (stage.Placing parts file) store in
    stopped_save around behind name time octets PlacesMessage (IsAtSave (stage.Placing parts file)) (IsAtSave next) (seen_of pins store history faults) (sees_around pins octets (stage.Placing parts file) store history faults is order ids) (ends_placing name time octets) (placing_at around name time octets parts.rows file.0) stopped
save_stopped pins (stage.Storing at rows room) next name time octets store history faults is order ids parts_are stopped = λ behind.
    let around = around_saving octets (stage.Storing at rows room) store in
    stopped_save around behind name time octets StoresRecord (IsAtSave (stage.Storing at rows room)) (IsAtSave next) (seen_of pins store history faults) (sees_around pins octets (stage.Storing at rows room) store history faults is order ids) (ends_storing name time octets)
    (storing_at around name time octets rows at.file.0 at.guid.0) stopped
save_stopped pins (stage.Adding added room) next name time octets store history faults is order ids parts_are stopped = λ behind.
    unsaved_stopped (around_saving octets (stage.Adding added room) store) behind name time octets added.guid.0 added.map_uid.0 (IsAtSave next) (seen_of pins store history faults) (sees_around pins octets (stage.Adding added room) store history faults is order ids) stopped
save_stopped pins (stage.GivingBack uid why room) next name time octets store history faults is order ids parts_are stopped = λ behind.
    let around = around_saving octets (stage.GivingBack uid why room) store in
    stopped_save around behind name time octets GivesBack (IsAtSave (stage.GivingBack uid why room)) (IsAtSave next) (seen_of pins store history faults) (sees_around pins octets (stage.GivingBack uid why room) store history faults is order ids) (ends_giving name time octets)
    (lowering_at around name time octets uid.0 why) stopped
save_stopped pins stage.Ended next name time octets store history faults is order ids parts_are stopped = λ behind run lane place said lists come shows stood. absurd stood.0

-- ---- of a task that is seen as this

abbrev DoesBy : {D : Type 0} → (pins : ℕ → ℕ) → (D → Option History) → (D → Faults) → List ℕ → SaveStage → SaveStage → List ℕ → ℕ → Progress → Did → StoreValue D → StoreValue D → Type 0
DoesBy pins history faults octets now next name time answer how old new = DeliveryClause pins octets now next name time answer how old new (history old.disk) (history new.disk) (faults old.disk) (faults new.disk)

-- what is known of a store before an event
pub record IsOpenStore {D : Type 0} (history : Option History) (store : StoreValue D) : Type 0 where
  pub is : IsStore history store
  pub order : AreFilesInOrder store.files
  pub ids : AreInstances store.instances
  pub kept : AreInstancesKept store.instances store.drawn store.map
  pub id_long : length store.map.store ≡ 8
  pub id_octets : IsOctets store.map.store
  pub own : IfTold history Own

pub seen_does : {D : Type 0} → (pins : ℕ → ℕ) (history : D → Option History) (faults : D → Faults) (task seen : SaveValue) (now next : SaveStage) (octets : List ℕ) (answer : Progress) (how : Did) (old new : StoreValue D) → task ≡ seen → now ≡ task.stage → IsOpenStore (history old.disk) old → seen.time < 2 ^ 64 → old.stopped ≡ false
    → HasLeft seen.stage seen.name seen.time old (history old.disk) → HasItsParts seen.stage octets → IsReadyToSave seen.stage seen.name seen.time seen.size octets old (history old.disk)
    → Saves now next task.name task.time task.size answer how old new (history old.disk) (history new.disk) (faults old.disk) (faults new.disk) → DoesBy pins history faults octets seen.stage next seen.name seen.time answer how old new
seen_does pins history faults task seen now next octets answer how old new same at known timed ran left parts ready saves =
    subst (λ (v : SaveValue). HasLeft v.stage v.name v.time old (history old.disk) → v.time < 2 ^ 64 → HasItsParts v.stage octets → IsReadyToSave v.stage v.name v.time v.size octets old (history old.disk) → DoesBy pins history faults octets v.stage next v.name v.time answer how old new) same
    (λ held small many fit.
    let s = subst (λ (st : SaveStage). Saves st next task.name task.time task.size answer how old new (history old.disk) (history new.disk) (faults old.disk) (faults new.disk)) at saves in
    save_does pins task.stage next task.name task.time task.size octets answer how old new (history old.disk) (history new.disk) (faults old.disk) (faults new.disk) (record {
      is = known.is;
      order = known.order;
      ids = known.ids;
      kept = known.kept;
      ran = ran;
      left = held;
      ready = fit;
      parts = many;
      timed = small;
      id_long = known.id_long;
      id_octets = known.id_octets;
      own = known.own;
      idle = λ e. (ap history e, ap faults e);
      replies = s.replies;
      did_is = s.did_is;
      moments = s.moments;
      rests = s.rests;
      stopped = s.stopped;
      faults = s.faults;
      grows = record { grows = s.grows; mail = s.stays };
    }) s.effects s.left)
    left timed parts ready

pub seen_stopped : {D : Type 0} → (pins : ℕ → ℕ) (history : D → Option History) (faults : D → Faults) (task seen : SaveValue) (octets : List ℕ) (store : StoreValue D) → task ≡ seen → IsOpenStore (history store.disk) store → HasItsParts seen.stage octets → store.stopped ≡ true
    → DoesBy pins history faults octets seen.stage task.stage seen.name seen.time stopped_reply did.Quiet store store
seen_stopped pins history faults task seen octets store same known parts stopped = save_stopped pins seen.stage task.stage seen.name seen.time octets store (history store.disk) (faults store.disk) known.is known.order known.ids parts stopped
