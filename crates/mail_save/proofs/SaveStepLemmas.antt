-- What each event of a delivery did, by the clause of a step.
use Rattle.mail_save.proofs.Common.{◌≡◌, ◌≤◌, ◌<◌, ◌+◌, ◌^◌, ◌==◌, ◌&&◌, ◌||◌, ℕ, Bool, true, false, List, [], ◌∷◌, ◌++◌, ◌⊎◌, length, Option, Some, None, refl, sym, ◌∙◌, ap, subst, arith, inl, inr, ◌↔◌, nat_le, is_some, is_none, if◌then◌else◌, list_any, option_map_or, option_or, bytes_eq, cases_eq}
use Rattle.mail_save.proofs.Common.{Prepared, History, Faults, ChangeFaultCounted, IsOctets, BoxEntry, Highest, InstRow, FileNo, Guid, MapUid, Uid, Did, Refusal, lists_by, meanings_by, Lists, BoxMeaning, MapMeaning, no_numbers, guid_file, IsSettledFor, Leaves, First, TakesFile, PlacesMessage}
use Rattle.mail_save.proofs.Common.{StoresRecord, GivesBack, RunEvent, Run, drawn_of, is_one_of, first_refusal, refused_where, part_checks, is_step, Around, is_same_instance, drawn_none, ShowLists, AttachingValue, nothing_found, InstancesValue, FilesValue, IsTakeFor, MayBeTakenFor, changed_in}
use Rattle.mail_save.proofs.Common.{end_in, ending_at, file_begun, file_in, with_taken, Take, Known, New, Full, due_at, knows_instance, StoreValue, indexes_of, list_named, references_to, leaves_none, none_begun, seen_of, Lasts, step_calm, HasComeTo, HasNotBegun, entry_added, box_refusal}
use Rattle.mail_save.proofs.Common.{save_refusal, uid_refusal, AddsStored, IsLeftAlone, PlacesParts, StoresPlaced, TakesFileFor, TookAs, TakesNone, StoresNone, LowersRecord, roomy_files, taken_files, around_saving, IsAtSave, StepsWithRoom, room_at, IsTakingFile, IsPlacingMessage, IsStoringMessage}
use Rattle.mail_save.proofs.Common.{IsAddingMessage, IsLoweringCount, FaultsAt, RepliesAt, stopped_reply, Added, SavedParts, SavedAt, SaveStage}
use Rattle.std.specs.Prelude.{◌≢◌, All}
use Rattle.std.proofs.lemmas.Bool.Decides.{nat_tests}
use Rattle.mdbox_base.specs.declared.entries.BoxEntry.TheVariants as box_entry
use Rattle.mdbox_base.specs.declared.ids.BoxNo.{BoxNo}
use Rattle.mdbox_base.specs.declared.progress.Did.TheVariants as did
use Rattle.mdbox_base.specs.declared.progress.Progress.TheVariants as progress
use Rattle.mdbox_base.specs.declared.replies.Refusal.TheVariants as refusal
use Rattle.mdbox_base.specs.declared.replies.Reply.TheVariants as reply
use Rattle.mdbox_base.specs.declared.requests.Request.TheVariants as request
use Rattle.mdbox_base.specs.declared.script.Half.TheVariants as half
use Rattle.list_machine.specs.Machine.{NextMapUid, is_used_up}
use Rattle.journal.specs.Events.{draws}
use Rattle.store_core.specs.Knows.{may_have_given}
use Rattle.store_core.proofs.ShownLemmas.{refs_shown}
use Rattle.store_seen.specs.Seeing.{may_be_used}
use Rattle.task_steps.proofs.EventLaws.{same_changes, same_reads}
use Rattle.mail_save.specs.Added.{HasRoomUnder}
use Rattle.mail_save.specs.SaveEffects.{LaysOut, GivesFileBack}
use Rattle.mail_save.specs.Task.{failing_did, refused_did, giving_did}
use Rattle.mail_save.specs.declared.record.LowerRoom.{LowerRoom}
use Rattle.mail_save.specs.declared.task.SaveStage.TheVariants as stage
use Rattle.mail_save.proofs.HeldInstanceLemmas.{rows_firm}
use Rattle.mail_save.proofs.PlacedLemmas.{placed_stores}
use Rattle.mail_save.proofs.SaveClauseLemmas.{EventOf, DeliveryClause, with_did}
use Rattle.mail_save.proofs.SaveDidLemmas.{or_none, HasRun, StaysSo}
use Rattle.mail_save.proofs.SaveFrontLemmas.{SeesAround, KeepsMap, begins_save, made_itself, takes_known, takes_new, places_message, stores_message}
use Rattle.mail_save.proofs.SaveLastLemmas.{FindsBox, saved_message, broken_save, refused_message, forgotten_message, lowers_count}
use Rattle.mail_save.proofs.SaveListLemmas.{box_checked, made_of}
use Rattle.mail_save.proofs.SaveRefusedLemmas.{ends_first, ends_taking, ends_placing, ends_storing, ends_giving, first_at, taking_at, placing_at, storing_at, lowering_at, fallen_save, forgotten_save, checked_save, full_files, full_uids}
use Rattle.mail_save.proofs.SaveRoomLemmas.{known_room, no_room}
use Rattle.mail_save.proofs.SaveStoreLemmas.{TellsFiles, tells_begun, tells_ended, tells_made, tells_released, tells_same, tells_taken, sees_around, same_ends, gave_on, tells_store, has_run, has_run_in, due_stays, stays_so, drawn_file, drawn_map, less_due, place_long, place_octets, place_file, place_new, place_given, file_below}
use Rattle.mail_save.proofs.SeenInstanceLemmas.{above, gone_on, knows_in, knows_same}

-- ---- answers

pub more_differs : progress.More ≡ stopped_reply → ⊥
more_differs e = cc e

pub refused_differs : (why : Refusal) → (why ≡ refusal.Stopped → ⊥) → progress.Done (reply.Refused why) ≡ stopped_reply → ⊥
refused_differs why other e = let k : reply.Refused why ≡ reply.Refused refusal.Stopped = cc e in other (let j : why ≡ refusal.Stopped = cc k in j)

saved_differs : (uid : Uid) (guid : Guid) → progress.Done (reply.Saved uid guid) ≡ stopped_reply → ⊥
saved_differs uid guid e = let k : reply.Saved uid guid ≡ reply.Refused refusal.Stopped = cc e in cc k

pub not_stopped : (b : Bool) (X : Type 0) → (X ↔ (b ≡ true)) → (X → ⊥) → b ≡ false
not_stopped true X both none = absurd (none (both.1 refl))
not_stopped false X both none = refl

pub memory_runs : refusal.NoMemory ≡ refusal.Stopped → ⊥
memory_runs e = cc e

-- what a refusal did
pub step_did : (why : Refusal) → is_step why ≡ true → failing_did why ≡ did.Step half.Whole
step_did refusal.NoMailbox s = refl
step_did refusal.Inbox s = refl
step_did refusal.Exists s = refl
step_did refusal.NoMessage s = refl
step_did refusal.Sealed s = refl
step_did (refusal.TooManyCopies n) s = refl
step_did (refusal.MailboxFull n) s = refl
step_did (refusal.TooManyMailboxes n) s = refl
step_did (refusal.StoreFull n) s = refl
step_did refusal.NoMemory s = absurd (cc s)
step_did refusal.ReadFault s = absurd (cc s)
step_did refusal.Stopped s = absurd (cc s)
step_did (refusal.Damaged file offset) s = absurd (cc s)

-- a refusal for which no call failed
pub untold_faults : (why : Refusal) (began faulted : Faults) → (why ≡ refusal.Stopped → ⊥) → (why ≡ refusal.ReadFault → ⊥) → FaultsAt (progress.Done (reply.Refused why)) began faulted → faulted ≡ began
untold_faults refusal.NoMailbox began faulted other unread f = f
untold_faults refusal.Inbox began faulted other unread f = f
untold_faults refusal.Exists began faulted other unread f = f
untold_faults refusal.NoMessage began faulted other unread f = f
untold_faults refusal.Sealed began faulted other unread f = f
untold_faults (refusal.TooManyCopies n) began faulted other unread f = f
untold_faults (refusal.MailboxFull n) began faulted other unread f = f
untold_faults (refusal.TooManyMailboxes n) began faulted other unread f = f
untold_faults (refusal.StoreFull n) began faulted other unread f = f
untold_faults refusal.NoMemory began faulted other unread f = f
untold_faults refusal.ReadFault began faulted other unread f = absurd (unread refl)
untold_faults refusal.Stopped began faulted other unread f = absurd (other refl)
untold_faults (refusal.Damaged file offset) began faulted other unread f = f

-- one that stopped the store
pub fell_by : (why : Refusal) (began faulted : Faults) → why ≡ refusal.Stopped → FaultsAt (progress.Done (reply.Refused why)) began faulted → ChangeFaultCounted (Unit {0}) began faulted
fell_by why began faulted is f = subst (λ (w : Refusal). FaultsAt (progress.Done (reply.Refused w)) began faulted) is f

pub memory_unread : (why : Refusal) → why ≡ refusal.NoMemory → why ≡ refusal.ReadFault → ⊥
memory_unread why m e = let k : refusal.NoMemory ≡ refusal.ReadFault = sym m ∙ e in cc k

pub equal_reads : (began faulted : Faults) → faulted.reads ≡ began.reads → began.reads ≤ faulted.reads
equal_reads began faulted e = omega (arith, e)

-- ---- the first event

checked_uid : (b : Bool) → option_or (refused_where b (refusal.StoreFull 4294967294)) None ≡ (if b then Some (refusal.StoreFull 4294967294) else None)
checked_uid true = refl
checked_uid false = refl

first_checked : {D : Type 0} → (pins : ℕ → ℕ) (run : Run) (name : List ℕ) (time : ℕ) (octets : List ℕ) (store : StoreValue D) (history : Option History) (faults : Faults) (lists : Lists) (event : RunEvent) → HasComeTo run (seen_of pins store history faults) → ShowLists store.map.boxes (indexes_of store.boxes) lists
    → first_refusal run lists (part_checks run event (request.Deliver name time octets) First) ≡ save_refusal name store
first_checked pins run name time octets store history faults lists event come h =
    box_checked run name store.map.boxes (indexes_of store.boxes) lists (NextMapUid ∷ []) h
    ∙ ap (λ (r : Option Refusal). option_or (box_refusal (list_named store name)) r) (checked_uid (is_used_up (drawn_of run).map) ∙ ap (λ (d : Highest). uid_refusal d.map) come.come.drawn_is)

first_goes : {D : Type 0} → (pins : ℕ → ℕ) (prepared : Prepared) (parts : SavedParts) (next : SaveStage) (name : List ℕ) (time size : ℕ) (octets : List ℕ) (how : Did) (old new : StoreValue D) (before after : Option History) (began faulted : Faults) → EventOf (stage.First prepared) next name time size octets progress.More how old new before after began faulted
    → new ≡ old → LaysOut name time prepared parts old
    → (behind : Around) → StepsWithRoom HasNotBegun (IsTakingFile []) (around_saving octets (stage.First prepared) old) behind (request.Deliver name time octets) (seen_of pins old before began) (seen_of pins new after faulted) did.Quiet None
first_goes pins prepared parts next name time size octets how old new before after began faulted e same begins = λ behind.
    let runs = not_stopped new.stopped (progress.More ≡ stopped_reply) e.stopped more_differs in
    begins_save (around_saving octets (stage.First prepared) old) behind name time octets (seen_of pins old before began) (seen_of pins new after faulted) (sees_around pins octets (stage.First prepared) old before began e.is e.order e.ids)
    (record {
      run = has_run pins old new before after began faulted e.ran runs (ap (λ (v : StoreValue _). v.map.boxes) same) (ap (λ (v : StoreValue _). indexes_of v.boxes) same) e.moments (e.rests runs) e.grows e.faults;
      map = ap (λ (v : StoreValue _). v.map) same;
      due = λ uid. ap (λ (v : StoreValue _). due_at uid v) same;
    })
    (ap (λ (v : StoreValue _). v.drawn) same)
    (tells_store pins old new before after began faulted e.ran (ap (λ (v : StoreValue _). v.map.store) same) (let d = ap (λ (v : StoreValue _). v.drawn.file) same in omega (arith, d)) (same_ends old new (tells_same old new (let d = ap (λ (v : StoreValue _). v.drawn.file) same in omega (arith, d)) (ap (λ (v : StoreValue _). v.files.files) same)) (λ n. ap (λ (v : StoreValue _). end_in n v.files.files) same))
    (knows_same old new (ap (λ (v : StoreValue _). v.instances) same) (ap (λ (v : StoreValue _). v.drawn.instance) same)))
    (λ run lists event come shows. first_checked pins run name time octets old before began lists event come shows.1 ∙ begins.allowed)

pub first_taking : {D : Type 0} → (pins : ℕ → ℕ) (prepared : Prepared) (parts : SavedParts) (name : List ℕ) (time size : ℕ) (octets : List ℕ) (how : Did) (old new : StoreValue D) (before after : Option History) (began faulted : Faults) → EventOf (stage.First prepared) (stage.Taking parts) name time size octets progress.More how old new before after began faulted
    → new ≡ old → LaysOut name time prepared parts old → DeliveryClause pins octets (stage.First prepared) (stage.Taking parts) name time progress.More how old new before after began faulted
first_taking pins prepared parts name time size octets how old new before after began faulted e same begins =
    with_did pins octets (stage.First prepared) (stage.Taking parts) name time progress.More how did.Quiet old new before after began faulted e.did_is
    (λ behind. subst (λ (rows : List InstRow). StepsWithRoom HasNotBegun (IsTakingFile rows) (around_saving octets (stage.First prepared) old) behind (request.Deliver name time octets) (seen_of pins old before began) (seen_of pins new after faulted) did.Quiet None) (sym begins.rows)
    (first_goes pins prepared parts (stage.Taking parts) name time size octets how old new before after began faulted e same begins behind))

pub first_attaching : {D : Type 0} → (pins : ℕ → ℕ) (prepared : Prepared) (parts : SavedParts) (attaching : AttachingValue) (name : List ℕ) (time size : ℕ) (octets : List ℕ) (how : Did) (old new : StoreValue D) (before after : Option History) (began faulted : Faults)
    → EventOf (stage.First prepared) (stage.Attaching parts attaching) name time size octets progress.More how old new before after began faulted
    → new ≡ old → attaching ≡ nothing_found prepared.parts → LaysOut name time prepared parts old → DeliveryClause pins octets (stage.First prepared) (stage.Attaching parts attaching) name time progress.More how old new before after began faulted
first_attaching pins prepared parts attaching name time size octets how old new before after began faulted e same none begins =
    with_did pins octets (stage.First prepared) (stage.Attaching parts attaching) name time progress.More how did.Quiet old new before after began faulted e.did_is
    (λ behind. subst (λ (rows : List InstRow). StepsWithRoom HasNotBegun (IsTakingFile rows) (around_saving octets (stage.First prepared) old) behind (request.Deliver name time octets) (seen_of pins old before began) (seen_of pins new after faulted) did.Quiet None) (sym (ap (λ (a : AttachingValue). a.found) none))
    (first_goes pins prepared parts (stage.Attaching parts attaching) name time size octets how old new before after began faulted e same begins behind))

-- a store that was left as it was
stays_same : {D : Type 0} → (pins : ℕ → ℕ) (old new : StoreValue D) (before after : Option History) (began faulted : Faults) → old.stopped ≡ false → new ≡ old → Lasts old.map before after → began.reads ≤ faulted.reads → began.changes ≤ faulted.changes → StaysSo no_numbers (seen_of pins old before began) (seen_of pins new after faulted)
stays_same pins old new before after began faulted ran same grows reads changes =
    stays_so pins no_numbers old new before after began faulted ran (ap (λ (v : StoreValue _). v.map) same) (ap (λ (v : StoreValue _). v.drawn) same ∙ sym (drawn_none old.drawn)) (ap (λ (v : StoreValue _). v.dues) same) (ap (λ (v : StoreValue _). indexes_of v.boxes) same)
    (let d = ap (λ (v : StoreValue _). v.drawn.file) same in omega (arith, d)) (same_ends old new (tells_same old new (let d = ap (λ (v : StoreValue _). v.drawn.file) same in omega (arith, d)) (ap (λ (v : StoreValue _). v.files.files) same)) (λ n. ap (λ (v : StoreValue _). end_in n v.files.files) same)) (knows_same old new (ap (λ (v : StoreValue _). v.instances) same) (ap (λ (v : StoreValue _). v.drawn.instance) same)) grows reads changes

box_steps : (o : Option BoxMeaning) (why : Refusal) → box_refusal o ≡ Some why → is_step why ≡ true
box_steps None why e = let k : refusal.NoMailbox ≡ why = cc e in ap is_step (sym k)
box_steps (Some m) why e = by_tests (nat_le 1000000 (length m.rows)) (nat_le 4294967295 m.next) e
  where
    by_tests : (a b : Bool) → (if a then Some (refusal.MailboxFull 1000000) else (if b then Some (refusal.StoreFull 4294967294) else None)) ≡ Some why → is_step why ≡ true
    by_tests true b k = let f : Some (refusal.MailboxFull 1000000) ≡ Some why = k in let g : refusal.MailboxFull 1000000 ≡ why = cc f in ap is_step (sym g)
    by_tests false true k = let f : Some (refusal.StoreFull 4294967294) ≡ Some why = k in let g : refusal.StoreFull 4294967294 ≡ why = cc f in ap is_step (sym g)
    by_tests false false k = absurd (let f : None ≡ Some why = k in cc f)

pub uid_full : (b : Bool) (why : Refusal) → (if b then Some (refusal.StoreFull 4294967294) else None) ≡ Some why → (b ≡ true) × (why ≡ refusal.StoreFull 4294967294)
uid_full true why k = (refl, let f : Some (refusal.StoreFull 4294967294) ≡ Some why = k in let g : refusal.StoreFull 4294967294 ≡ why = cc f in sym g)
uid_full false why k = absurd (let f : None ≡ Some why = k in cc f)

save_steps : {D : Type 0} → (name : List ℕ) (store : StoreValue D) (why : Refusal) → save_refusal name store ≡ Some why → is_step why ≡ true
save_steps name store why e = by_box (box_refusal (list_named store name)) refl e
  where
    by_box : (o : Option Refusal) → box_refusal (list_named store name) ≡ o → option_or o (uid_refusal store.drawn.map) ≡ Some why → is_step why ≡ true
    by_box (Some r) is k = box_steps (list_named store name) why (is ∙ k)
    by_box None is k = ap is_step (uid_full (nat_le 4294967294 store.drawn.map) why k).1

pub first_refused : {D : Type 0} → (pins : ℕ → ℕ) (prepared : Prepared) (why : Refusal) (name : List ℕ) (time size : ℕ) (octets : List ℕ) (how : Did) (old new : StoreValue D) (before after : Option History) (began faulted : Faults) → EventOf (stage.First prepared) stage.Ended name time size octets (progress.Done (reply.Refused why)) how old new before after began faulted
    → new ≡ old → DeliveryClause pins octets (stage.First prepared) stage.Ended name time (progress.Done (reply.Refused why)) how old new before after began faulted
first_refused pins prepared why name time size octets how old new before after began faulted e same = by_cause e.replies
  where
    goes : (why ≡ refusal.Stopped → ⊥) → (why ≡ refusal.ReadFault → ⊥) → HasRun (seen_of pins old before began) (seen_of pins new after faulted)
    goes other unread =
        let s = e in
        let runs = not_stopped new.stopped (progress.Done (reply.Refused why) ≡ stopped_reply) s.stopped (refused_differs why other) in
        has_run pins old new before after began faulted e.ran runs (ap (λ (v : StoreValue _). v.map.boxes) same) (ap (λ (v : StoreValue _). indexes_of v.boxes) same) s.moments (s.rests runs) s.grows (untold_faults why began faulted other unread s.faults)

    stays : (why ≡ refusal.Stopped → ⊥) → (why ≡ refusal.ReadFault → ⊥) → StaysSo no_numbers (seen_of pins old before began) (seen_of pins new after faulted)
    stays other unread =
        let s = e in
        let calm = untold_faults why began faulted other unread s.faults in
        stays_same pins old new before after began faulted e.ran same s.grows (same_reads began faulted calm) (same_changes began faulted calm)

    sees : SeesAround octets (around_saving octets (stage.First prepared) old) (seen_of pins old before began)
    sees = sees_around pins octets (stage.First prepared) old before began e.is e.order e.ids

    by_cause : (save_refusal name old ≡ Some why) ⊎ ((save_refusal name old ≡ None) × (why ≡ refusal.NoMemory)) → DeliveryClause pins octets (stage.First prepared) stage.Ended name time (progress.Done (reply.Refused why)) how old new before after began faulted
    by_cause (inl refuses) =
        let step = save_steps name old why refuses in
        with_did pins octets (stage.First prepared) stage.Ended name time (progress.Done (reply.Refused why)) how (did.Step half.Whole) old new before after began faulted (e.did_is ∙ step_did why step)
        (λ behind. checked_save (around_saving octets (stage.First prepared) old) behind name time octets First (IsAtSave (stage.First prepared)) (IsAtSave stage.Ended) why (seen_of pins old before began) (seen_of pins new after faulted) sees (ends_first name time octets) (first_at (around_saving octets (stage.First prepared) old) (request.Deliver name time octets))
        (λ run place said stood. stood.1) step (λ run lists event come shows. first_checked pins run name time octets old before began lists event come shows.1 ∙ refuses) (goes (step_calm why refusal.Stopped step refl) (step_calm why refusal.ReadFault step refl)) (stays (step_calm why refusal.Stopped step refl) (step_calm why refusal.ReadFault step refl)))
    by_cause (inr m) =
        let other : why ≡ refusal.Stopped → ⊥ = λ k. memory_runs (sym m.1 ∙ k) in
        with_did pins octets (stage.First prepared) stage.Ended name time (progress.Done (reply.Refused why)) how did.Quiet old new before after began faulted (e.did_is ∙ ap failing_did m.1)
        (subst (λ (w : Refusal). DeliveryClause pins octets (stage.First prepared) stage.Ended name time (progress.Done (reply.Refused w)) did.Quiet old new before after began faulted) (sym m.1)
        (λ behind. forgotten_save (around_saving octets (stage.First prepared) old) behind name time octets First (IsAtSave (stage.First prepared)) (IsAtSave stage.Ended) (seen_of pins old before began) (seen_of pins new after faulted) sees (ends_first name time octets) (first_at (around_saving octets (stage.First prepared) old) (request.Deliver name time octets))
        refl (λ run place said stood. stood.1) (goes other (memory_unread why m.1)) (stays other (memory_unread why m.1))))

-- ---- a file is taken

-- of a list of one number
only_one : (a b : ℕ) → is_one_of (a ∷ []) b ≡ true → a ≡ b
only_one a b e = let k : (a == b) ≡ true = sym (or_none (a == b)) ∙ e in grind (arith, nat_tests, k)

pub taking_more : {D : Type 0} → (pins : ℕ → ℕ) (parts laid : SavedParts) (file : FileNo) (name : List ℕ) (time size : ℕ) (octets : List ℕ) (how : Did) (old new : StoreValue D) (before after : Option History) (began faulted : Faults) → EventOf (stage.Taking parts) (stage.Placing laid file) name time size octets progress.More how old new before after began faulted
    → laid ≡ parts → TakesFileFor (length parts.header) (length parts.laid.region) file old new → DeliveryClause pins octets (stage.Taking parts) (stage.Placing laid file) name time progress.More how old new before after began faulted
taking_more pins parts laid file name time size octets how old new before after began faulted e laid_is t =
    with_did pins octets (stage.Taking parts) (stage.Placing laid file) name time progress.More how did.Quiet old new before after began faulted e.did_is (by_take t.take t.is t.took refl)
  where
    keeps : KeepsMap (seen_of pins old before began) (seen_of pins new after faulted)
    keeps =
        let s = e in
        let same = t.same in
        let runs = not_stopped new.stopped (progress.More ≡ stopped_reply) s.stopped more_differs in
        let map = ap (λ (v : StoreValue _). v.map) same in
        record {
          run = has_run pins old new before after began faulted e.ran runs (ap (λ (m : MapMeaning). m.boxes) map) (ap (λ (v : StoreValue _). indexes_of v.boxes) same) s.moments (s.rests runs) s.grows s.faults;
          map = map;
          due = λ uid. due_stays old new uid map (ap (λ (v : StoreValue _). v.dues) same);
        }

    id : new.map.store ≡ old.map.store
    id = ap (λ (v : StoreValue _). v.map.store) t.same

    sees : SeesAround octets (around_saving octets (stage.Taking parts) old) (seen_of pins old before began)
    sees = sees_around pins octets (stage.Taking parts) old before began e.is e.order e.ids

    known_files : (taken : FileNo) → t.take ≡ Known taken → new.files.files ≡ changed_in taken.0 (with_taken true) old.files.files
    known_files taken kind = ap (λ (v : FilesValue). v.files) (t.files ∙ ap (λ (k : Take). taken_files k (length parts.header) (roomy_files old.files)) kind)

    new_files : (taken : FileNo) → t.take ≡ New taken → new.files.files ≡ changed_in taken.0 (ending_at (length parts.header)) (old.files.files ++ file_begun taken ∷ [])
    new_files taken kind = ap (λ (v : FilesValue). v.files) (t.files ∙ ap (λ (k : Take). taken_files k (length parts.header) (roomy_files old.files)) kind)

    unused_new : (n : ℕ) → n ≡ old.drawn.file + 1 → may_be_used old n ≡ false
    unused_new n next = ap (λ (b : Bool). b && option_map_or (λ f. f.doomed) (file_in n old.files.files) true) (above n old.drawn.file next)

    made_tells : (taken : FileNo) → IsTakeFor (length parts.laid.region) old.files (New taken) → t.take ≡ New taken → taken ≡ file → new.drawn ≡ record old.drawn { file = file.0 } → TellsFiles old new
    made_tells taken is kind same drawn =
        let high = e.is.files.highest in
        let fresh = is.1 in
        let number = ap (λ (h : Highest). h.file) drawn in
        let named = ap (λ (n : FileNo). n.0) same in
        tells_made old new taken (length parts.header) (none_begun taken old.files e.order is.1) (omega (arith, high, fresh)) (omega (arith, number, named, high, fresh)) (new_files taken kind)

    as_laid : (behind : Around) → StepsWithRoom (IsTakingFile parts.rows) (IsPlacingMessage parts.rows file.0) (around_saving octets (stage.Taking parts) old) behind (request.Deliver name time octets) (seen_of pins old before began) (seen_of pins new after faulted) did.Quiet None
        → StepsWithRoom (IsTakingFile parts.rows) (IsPlacingMessage laid.rows file.0) (around_saving octets (stage.Taking parts) old) behind (request.Deliver name time octets) (seen_of pins old before began) (seen_of pins new after faulted) did.Quiet None
    as_laid behind does =
        subst (λ (p : SavedParts). StepsWithRoom (IsTakingFile parts.rows) (IsPlacingMessage p.rows file.0) (around_saving octets (stage.Taking parts) old) behind (request.Deliver name time octets) (seen_of pins old before began) (seen_of pins new after faulted) did.Quiet None) (sym laid_is) does

    still_there : (n : ℕ) (made : List ℕ) → end_in n new.files.files ≡ end_in n old.files.files → n ≢ file.0 → made ≡ file.0 ∷ [] → (is_some (end_in n old.files.files) ≡ true) ⊎ (is_one_of made n ≡ true) → is_some (end_in n new.files.files) ≡ true
    still_there n made same apart is (inl was) = ap (λ (o : Option ℕ). is_some o) same ∙ was
    still_there n made same apart is (inr was) = absurd (apart (sym (only_one file.0 n (sym (ap (λ (fs : List ℕ). is_one_of fs n) is) ∙ was))))

    by_take : (take : Take) → IsTakeFor (length parts.laid.region) old.files take → TookAs take (length parts.header) file old new → t.take ≡ take → DeliveryClause pins octets (stage.Taking parts) (stage.Placing laid file) name time progress.More did.Quiet old new before after began faulted
    by_take (Known taken) is took kind = λ behind.
        let most = subst (λ (n : FileNo). All (λ g. MayBeTakenFor (length parts.laid.region) g → g.file.0 ≤ n.0) old.files.files) (sym is.2) is.4 in
        let room = known_room (length parts.laid.region) old.files.files is.0 e.order.rising is.1 is.3 most ∙ ap (λ (n : FileNo). Some n.0) (is.2 ∙ took.0) in
        as_laid behind (takes_known (around_saving octets (stage.Taking parts) old) behind name time octets parts.rows file.0 (seen_of pins old before began) (seen_of pins new after faulted) sees e.parts room keeps took.1
        (tells_store pins old new before after began faulted e.ran id (let d = ap (λ (h : Highest). h.file) took.1 in omega (arith, d))
        (same_ends old new (tells_taken old new taken.0 (let d = ap (λ (h : Highest). h.file) took.1 in omega (arith, d)) (known_files taken kind)) took.2)
        (knows_same old new (ap (λ (v : StoreValue _). v.instances) t.same) (ap (λ (h : Highest). h.instance) took.1))))
    by_take (New taken) is took kind = λ behind.
        let high = e.is.files.highest in
        let fresh = is.1 in
        let less = is.2 in
        let named = ap (λ (n : FileNo). n.0) took.0 in
        let next : file.0 ≡ old.drawn.file + 1 = omega (arith, high, fresh, named) in
        let drawn = ap (λ (h : Highest). h.file) took.1 in
        as_laid behind (takes_new (around_saving octets (stage.Taking parts) old) behind name time octets parts.rows file.0 (seen_of pins old before began) (seen_of pins new after faulted) sees e.parts (no_room (length parts.laid.region) old.files.files is.0) next (omega (arith, high, less)) keeps (took.1 ∙ drawn_file old.drawn file.0 next)
        (λ event none made unplaced. record {
          ran = λ runs. e.ran;
          pins = λ n. refl;
          doomed = (made_tells taken is kind took.0 took.1).doomed;
          used = (made_tells taken is kind took.0 took.1).used;
          unused = λ n k. unused_new n (sym (only_one file.0 n (sym (ap (λ (fs : List ℕ). is_one_of fs n) made) ∙ k)) ∙ next);
          barred = (made_tells taken is kind took.0 took.1).barred;
          gave = λ guid k. gave_on old new guid id (omega (arith, drawn, next)) (made_tells taken is kind took.0 took.1).gave k;
          given = λ guid some. absurd (let k : false ≡ true = sym (ap (list_any (bytes_eq guid)) none) ∙ some in cc k);
          files = λ n there. elim (cases_eq n file.0) [
            | inl same ↦ inr (ap (λ (fs : List ℕ). is_one_of fs n) made ∙ made_itself file.0 n (sym same))
            | inr apart ↦ inl (ap (λ (o : Option ℕ). is_some o) (sym (took.4 n apart)) ∙ there)
          ];
          there = λ n was. elim (cases_eq n file.0) [
            | inl same ↦ ap (λ (m : ℕ). is_some (end_in m new.files.files)) same ∙ ap (λ (o : Option ℕ). is_some o) took.3
            | inr apart ↦ still_there n event.made (took.4 n apart) apart made was
          ];
          gone = λ i k. gone_on old new i id (let d = ap (λ (h : Highest). h.instance) took.1 in omega (arith, d)) k;
          instances = λ i.
              ap (λ (n : InstancesValue). knows_in n.known i) (ap (λ (v : StoreValue _). v.instances) t.same)
              ∙ sym (ap (λ (ps : List InstRow). knows_instance old i || list_any (is_same_instance i) ps) unplaced ∙ or_none (knows_instance old i));
          ungone = λ i some. absurd (let k : false ≡ true = sym (ap (list_any (is_same_instance i)) unplaced) ∙ some in cc k);
        }))
    by_take Full is took kind = absurd took

pub taking_refused : {D : Type 0} → (pins : ℕ → ℕ) (parts : SavedParts) (why : Refusal) (name : List ℕ) (time size : ℕ) (octets : List ℕ) (how : Did) (old new : StoreValue D) (before after : Option History) (began faulted : Faults) → EventOf (stage.Taking parts) stage.Ended name time size octets (progress.Done (reply.Refused why)) how old new before after began faulted
    → TakesNone (length parts.laid.region) why old new → DeliveryClause pins octets (stage.Taking parts) stage.Ended name time (progress.Done (reply.Refused why)) how old new before after began faulted
taking_refused pins parts why name time size octets how old new before after began faulted e none = by_cause none
  where
    sees : SeesAround octets (around_saving octets (stage.Taking parts) old) (seen_of pins old before began)
    sees = sees_around pins octets (stage.Taking parts) old before began e.is e.order e.ids

    goes : (why ≡ refusal.Stopped → ⊥) → faulted ≡ began → new.map ≡ old.map → new.boxes ≡ old.boxes → HasRun (seen_of pins old before began) (seen_of pins new after faulted)
    goes other calm map boxes =
        let s = e in
        let runs = not_stopped new.stopped (progress.Done (reply.Refused why) ≡ stopped_reply) s.stopped (refused_differs why other) in
        has_run pins old new before after began faulted e.ran runs (ap (λ (m : MapMeaning). m.boxes) map) (ap indexes_of boxes) s.moments (s.rests runs) s.grows calm

    by_cause : TakesNone (length parts.laid.region) why old new → DeliveryClause pins octets (stage.Taking parts) stage.Ended name time (progress.Done (reply.Refused why)) how old new before after began faulted
    by_cause (inl m) =
        let other : why ≡ refusal.Stopped → ⊥ = λ k. memory_runs (sym m.0 ∙ k) in
        let same = untold_faults why began faulted other (memory_unread why m.0) e.faults in
        with_did pins octets (stage.Taking parts) stage.Ended name time (progress.Done (reply.Refused why)) how did.Quiet old new before after began faulted (e.did_is ∙ ap failing_did m.0)
        (subst (λ (w : Refusal). DeliveryClause pins octets (stage.Taking parts) stage.Ended name time (progress.Done (reply.Refused w)) did.Quiet old new before after began faulted) (sym m.0)
        (λ behind. forgotten_save (around_saving octets (stage.Taking parts) old) behind name time octets (TakesFile (is_none (room_at (stage.Taking parts) old))) (IsTakingFile parts.rows) (IsAtSave stage.Ended) (seen_of pins old before began) (seen_of pins new after faulted) sees (ends_taking name time octets _)
        (taking_at (around_saving octets (stage.Taking parts) old) name time octets parts.rows e.parts) refl (λ run place said stood. stood.1) (goes other same (ap (λ (v : StoreValue _). v.map) m.1) (ap (λ (v : StoreValue _). v.boxes) m.1))
        (stays_same pins old new before after began faulted e.ran m.1 e.grows (same_reads began faulted same) (same_changes began faulted same))))
    by_cause (inr (inl f)) =
        let step : is_step why ≡ true = ap is_step f.0 in
        let other = step_calm why refusal.Stopped step refl in
        let same = untold_faults why began faulted other (step_calm why refusal.ReadFault step refl) e.faults in
        let k = f.1.same in
        let map = ap (λ (v : StoreValue _). v.map) k in
        let high = e.is.files.highest in
        let full = f.1.full.1 in
        with_did pins octets (stage.Taking parts) stage.Ended name time (progress.Done (reply.Refused why)) how (did.Step half.Whole) old new before after began faulted (e.did_is ∙ step_did why step)
        (λ behind. checked_save (around_saving octets (stage.Taking parts) old) behind name time octets (TakesFile (is_none (room_at (stage.Taking parts) old))) (IsTakingFile parts.rows) (IsAtSave stage.Ended) why (seen_of pins old before began) (seen_of pins new after faulted) sees (ends_taking name time octets _)
        (taking_at (around_saving octets (stage.Taking parts) old) name time octets parts.rows e.parts) (λ run place said stood. stood.1) step
        (λ run lists event come shows. full_files name time octets (around_saving octets (stage.Taking parts) old) (seen_of pins old before began) (no_room (length parts.laid.region) old.files.files f.1.full.0) (omega (arith, high, full)) run lists event come shows ∙ ap (λ (w : Refusal). Some w) (sym f.0))
        (goes other same map (ap (λ (v : StoreValue _). v.boxes) k))
        (stays_so pins no_numbers old new before after began faulted e.ran map (ap (λ (v : StoreValue _). v.drawn) k ∙ sym (drawn_none old.drawn)) (ap (λ (v : StoreValue _). v.dues) k) (ap (λ (v : StoreValue _). indexes_of v.boxes) k) (let d = ap (λ (v : StoreValue _). v.drawn.file) k in omega (arith, d))
        (same_ends old new (tells_same old new (let d = ap (λ (v : StoreValue _). v.drawn.file) k in omega (arith, d)) (ap (λ (v : StoreValue _). v.files.files) k)) (λ n. ap (λ (v : StoreValue _). end_in n v.files.files) k)) (knows_same old new (ap (λ (v : StoreValue _). v.instances) k) (ap (λ (v : StoreValue _). v.drawn.instance) k)) e.grows (same_reads began faulted same) (same_changes began faulted same)))
    by_cause (inr (inr f)) =
        let s = e in
        let stop : progress.Done (reply.Refused why) ≡ stopped_reply = ap (λ (w : Refusal). progress.Done (reply.Refused w)) f.0 in
        let fault = fell_by why began faulted f.0 s.faults in
        let k = f.1.same in
        let map = ap (λ (v : StoreValue _). v.map) k in
        let high = e.is.files.highest in
        let fresh = f.1.is.1 in
        let next : f.1.file.0 ≡ old.drawn.file + 1 = omega (arith, high, fresh) in
        let drawn = ap (λ (v : StoreValue _). v.drawn) k in
        let number = ap (λ (h : Highest). h.file) drawn in
        with_did pins octets (stage.Taking parts) stage.Ended name time (progress.Done (reply.Refused why)) how did.Failed old new before after began faulted (s.did_is ∙ ap failing_did f.0)
        (subst (λ (w : Refusal). DeliveryClause pins octets (stage.Taking parts) stage.Ended name time (progress.Done (reply.Refused w)) did.Failed old new before after began faulted) (sym f.0)
        (λ behind. fallen_save (around_saving octets (stage.Taking parts) old) behind name time octets (TakesFile (is_none (room_at (stage.Taking parts) old))) (IsTakingFile parts.rows) (IsAtSave stage.Ended) (record no_numbers { file = 1 }) (seen_of pins old before began) (seen_of pins new after faulted) sees (ends_taking name time octets _)
        (taking_at (around_saving octets (stage.Taking parts) old) name time octets parts.rows e.parts)
        (λ run event. inr (sym (ap (λ (o : Option ℕ). draws run event (request.Deliver name time octets) (TakesFile (is_none o))) (no_room (length parts.laid.region) old.files.files f.1.is.0))))
        (stays_so pins (record no_numbers { file = 1 }) old new before after began faulted e.ran map (drawn ∙ drawn_file old.drawn f.1.file.0 next) (ap (λ (v : StoreValue _). v.dues) k) (ap (λ (v : StoreValue _). indexes_of v.boxes) k) (omega (arith, number, next)) (same_ends old new (tells_begun old new f.1.file (none_begun f.1.file old.files e.order f.1.is.1) next (omega (arith, number, next)) (ap (λ (v : StoreValue _). v.files.files) k)) f.1.ends) (knows_same old new (ap (λ (v : StoreValue _). v.instances) k) (ap (λ (h : Highest). h.instance) drawn)) s.grows (equal_reads began faulted fault.reads) fault.changes)
        e.ran (s.stopped.0 stop) (fault.rose tt) (λ lists t. s.moments lists t.0)))

-- ---- the message is placed

some_end : (a b : ℕ) → Some a ≡ Some b → a ≡ b
some_end a b e = cc e

pub placing_more : {D : Type 0} → (pins : ℕ → ℕ) (parts : SavedParts) (file : FileNo) (at : SavedAt) (rows : List InstRow) (room : LowerRoom) (name : List ℕ) (time size : ℕ) (octets : List ℕ) (how : Did) (old new : StoreValue D) (before after : Option History) (began faulted : Faults) → EventOf (stage.Placing parts file) (stage.Storing at rows room) name time size octets progress.More how old new before after began faulted
    → PlacesParts parts file at rows old new → 1 ≤ at.size → DeliveryClause pins octets (stage.Placing parts file) (stage.Storing at rows room) name time progress.More how old new before after began faulted
placing_more pins parts file at rows room name time size octets how old new before after began faulted e p some =
    let s = e in
    let runs = not_stopped new.stopped (progress.More ≡ stopped_reply) s.stopped more_differs in
    let map = ap (λ (v : StoreValue _). v.map) p.same in
    let drawn = ap (λ (v : StoreValue _). v.drawn) p.same in
    let number = ap (λ (h : Highest). h.file) drawn in
    let low = file_below file.0 old.files.highest e.left.1.end old.files.files e.order.below e.left.1.ends in
    let high = e.is.files.highest in
    let last = e.order.last in
    let fits = e.left.1.fits in
    let began_at : e.left.1.end ≡ at.offset = some_end e.left.1.end at.offset (sym e.left.1.ends ∙ p.began) in
    let small : file.0 < 2 ^ 32 = omega (arith, low, last) in
    let near : at.offset < 2 ^ 32 = omega (arith, began_at, fits) in
    let fresh = ap (may_have_given old) p.guid ∙ place_new old file.0 at.offset e.id_long small near p.began in
    let gave = ap (may_have_given new) p.guid ∙ place_given new old.map.store file.0 at.offset (at.offset + at.size) (ap (λ (m : MapMeaning). m.store) map) e.id_long small near (omega (arith, low, high, number)) p.ends (omega (arith, some)) in
    with_did pins octets (stage.Placing parts file) (stage.Storing at rows room) name time progress.More how did.Quiet old new before after began faulted s.did_is
    (λ behind. subst (λ (is : List InstRow). StepsWithRoom (IsPlacingMessage parts.rows file.0) (IsStoringMessage is at.file.0 at.guid.0) (around_saving octets (stage.Placing parts file) old) behind (request.Deliver name time octets) (seen_of pins old before began) (seen_of pins new after faulted) did.Quiet None) (sym p.rows_are)
    (subst (λ (n : FileNo). StepsWithRoom (IsPlacingMessage parts.rows file.0) (IsStoringMessage parts.rows n.0 at.guid.0) (around_saving octets (stage.Placing parts file) old) behind (request.Deliver name time octets) (seen_of pins old before began) (seen_of pins new after faulted) did.Quiet None) (sym p.file_is)
    (places_message (around_saving octets (stage.Placing parts file) old) behind name time octets parts.rows file.0 at.guid.0 (seen_of pins old before began) (seen_of pins new after faulted) (sees_around pins octets (stage.Placing parts file) old before began e.is e.order e.ids)
    (ap length p.guid ∙ place_long old.map.store file.0 at.offset e.id_long) (subst IsOctets (sym p.guid) (place_octets old.map.store file.0 at.offset e.id_octets)) (ap (guid_file old.map.store) p.guid ∙ place_file old.map.store file.0 at.offset e.id_long (omega (arith, low, last))) fresh
    (record {
      run = has_run pins old new before after began faulted e.ran runs (ap (λ (m : MapMeaning). m.boxes) map) (ap (λ (v : StoreValue _). indexes_of v.boxes) p.same) s.moments (s.rests runs) s.grows s.faults;
      map = map;
      due = λ uid. due_stays old new uid map (ap (λ (v : StoreValue _). v.dues) p.same);
    }) drawn
    (tells_store pins old new before after began faulted e.ran (ap (λ (m : MapMeaning). m.store) map) (omega (arith, number)) (record {
      tells = tells_ended old new file.0 at.offset at.size (omega (arith, number)) p.began (ap (λ (v : StoreValue _). v.files.files) p.same);
      known = λ n there. elim (cases_eq n file.0) [
        | inl same ↦ ap (λ (k : ℕ). is_some (end_in k old.files.files)) same ∙ ap (λ (o : Option ℕ). is_some o) p.began
        | inr apart ↦ ap (λ (o : Option ℕ). is_some o) (sym (p.others n apart)) ∙ there
      ];
      there = λ n was. elim (cases_eq n file.0) [
        | inl same ↦ ap (λ (k : ℕ). is_some (end_in k new.files.files)) same ∙ ap (λ (o : Option ℕ). is_some o) p.ends
        | inr apart ↦ ap (λ (o : Option ℕ). is_some o) (p.others n apart) ∙ was
      ];
    }) (knows_same old new (ap (λ (v : StoreValue _). v.instances) p.same) (ap (λ (h : Highest). h.instance) drawn))) gave)))

-- one that left the store as it was, of which a change failed
stays_alone : {D : Type 0} → (pins : ℕ → ℕ) (old new : StoreValue D) (before after : Option History) (began faulted : Faults) → old.stopped ≡ false → IsLeftAlone old new → Lasts old.map before after → faulted.reads ≡ began.reads → began.changes ≤ faulted.changes → StaysSo no_numbers (seen_of pins old before began) (seen_of pins new after faulted)
stays_alone pins old new before after began faulted ran k grows reads changes =
    stays_so pins no_numbers old new before after began faulted ran (ap (λ (v : StoreValue _). v.map) k.same) (ap (λ (v : StoreValue _). v.drawn) k.same ∙ sym (drawn_none old.drawn)) (ap (λ (v : StoreValue _). v.dues) k.same) k.indexes
    (let d = ap (λ (v : StoreValue _). v.drawn.file) k.same in omega (arith, d)) (same_ends old new (tells_same old new (let d = ap (λ (v : StoreValue _). v.drawn.file) k.same in omega (arith, d)) (ap (λ (v : StoreValue _). v.files.files) k.same)) (λ n. ap (λ (v : StoreValue _). end_in n v.files.files) k.same)) (knows_same old new (ap (λ (v : StoreValue _). v.instances) k.same) (ap (λ (v : StoreValue _). v.drawn.instance) k.same)) grows (equal_reads began faulted reads) changes

pub placing_refused : {D : Type 0} → (pins : ℕ → ℕ) (parts : SavedParts) (file : FileNo) (why : Refusal) (name : List ℕ) (time size : ℕ) (octets : List ℕ) (how : Did) (old new : StoreValue D) (before after : Option History) (began faulted : Faults) → EventOf (stage.Placing parts file) stage.Ended name time size octets (progress.Done (reply.Refused why)) how old new before after began faulted
    → IsLeftAlone old new → DeliveryClause pins octets (stage.Placing parts file) stage.Ended name time (progress.Done (reply.Refused why)) how old new before after began faulted
placing_refused pins parts file why name time size octets how old new before after began faulted e alone =
    let s = e in
    let is = s.replies in
    let fault = fell_by why began faulted is s.faults in
    let stop : progress.Done (reply.Refused why) ≡ stopped_reply = ap (λ (w : Refusal). progress.Done (reply.Refused w)) is in
    with_did pins octets (stage.Placing parts file) stage.Ended name time (progress.Done (reply.Refused why)) how did.Failed old new before after began faulted (s.did_is ∙ ap failing_did is)
    (subst (λ (w : Refusal). DeliveryClause pins octets (stage.Placing parts file) stage.Ended name time (progress.Done (reply.Refused w)) did.Failed old new before after began faulted) (sym is)
    (λ behind. fallen_save (around_saving octets (stage.Placing parts file) old) behind name time octets PlacesMessage (IsPlacingMessage parts.rows file.0) (IsAtSave stage.Ended) no_numbers (seen_of pins old before began) (seen_of pins new after faulted) (sees_around pins octets (stage.Placing parts file) old before began e.is e.order e.ids) (ends_placing name time octets)
    (placing_at (around_saving octets (stage.Placing parts file) old) name time octets parts.rows file.0) (λ run event. inl refl) (stays_alone pins old new before after began faulted e.ran alone s.grows fault.reads fault.changes) e.ran (s.stopped.0 stop) (fault.rose tt) (λ lists t. s.moments lists t.0)))

-- ---- the message is stored

pub storing_more : {D : Type 0} → (pins : ℕ → ℕ) (at : SavedAt) (rows : List InstRow) (room left : LowerRoom) (added : Added) (name : List ℕ) (time size : ℕ) (octets : List ℕ) (how : Did) (old new : StoreValue D) (before after : Option History) (began faulted : Faults) → EventOf (stage.Storing at rows room) (stage.Adding added left) name time size octets progress.More how old new before after began faulted
    → StoresPlaced at rows time size added old new → DeliveryClause pins octets (stage.Storing at rows room) (stage.Adding added left) name time progress.More how old new before after began faulted
storing_more pins at rows room left added name time size octets how old new before after began faulted e p =
    let s = e in
    let r = e.ready.1 in
    let runs = not_stopped new.stopped (progress.More ≡ stopped_reply) s.stopped more_differs in
    let drawn = p.drawn ∙ drawn_map old.drawn added.map_uid.0 p.uid_is in
    let number = ap (λ (h : Highest). h.file) p.drawn in
    with_did pins octets (stage.Storing at rows room) (stage.Adding added left) name time progress.More how did.Quiet old new before after began faulted s.did_is
    (λ behind. subst (λ (g : Guid). StepsWithRoom (IsStoringMessage rows at.file.0 at.guid.0) (IsAddingMessage g.0 added.map_uid.0) (around_saving octets (stage.Storing at rows room) old) behind (request.Deliver name time octets) (seen_of pins old before began) (seen_of pins new after faulted) did.Quiet None) (sym p.guid_is)
    (stores_message (around_saving octets (stage.Storing at rows room) old) behind name time octets rows at.file.0 at.guid.0 added.map_uid.0 at.size at.offset (seen_of pins old before began) (seen_of pins new after faulted) (sees_around pins octets (stage.Storing at rows room) old before began e.is e.order e.ids)
    p.uid_is p.few (sym e.left.0.guid_offset) p.fits
    (has_run_in pins old new before after began faulted e.ran runs p.mailboxes (ap (λ (v : StoreValue _). indexes_of v.boxes) p.same) (λ lists t. s.moments lists (placed_stores at rows name time octets old before e.is e.ran e.own e.left.0 r (record { 0 = old.drawn.map + 1 }) lists t.0) (rows_firm rows old before e.left.2.known t.1) t.0) (λ lists t. s.rests runs lists (placed_stores at rows name time octets old before e.is e.ran e.own e.left.0 r (record { 0 = old.drawn.map + 1 }) lists t.0) (rows_firm rows old before e.left.2.known t.1) t.0) s.grows s.faults)
    p.map drawn (λ other. p.due other)
    (tells_store pins old new before after began faulted e.ran (ap (λ (m : MapMeaning). m.store) p.map) (omega (arith, number))
    (same_ends old new (tells_released old new at.file.0 e.left.0.end (omega (arith, number)) e.left.0.ends (ap (λ (v : StoreValue _). v.files.files) p.same)) p.ends)
    (knows_same old new (ap (λ (v : StoreValue _). v.instances) p.same) (ap (λ (h : Highest). h.instance) p.drawn)))))

pub storing_refused : {D : Type 0} → (pins : ℕ → ℕ) (at : SavedAt) (rows : List InstRow) (room : LowerRoom) (why : Refusal) (name : List ℕ) (time size : ℕ) (octets : List ℕ) (how : Did) (old new : StoreValue D) (before after : Option History) (began faulted : Faults) → EventOf (stage.Storing at rows room) stage.Ended name time size octets (progress.Done (reply.Refused why)) how old new before after began faulted
    → StoresNone at why old new → DeliveryClause pins octets (stage.Storing at rows room) stage.Ended name time (progress.Done (reply.Refused why)) how old new before after began faulted
storing_refused pins at rows room why name time size octets how old new before after began faulted e none = by_cause e.replies none
  where
    sees : SeesAround octets (around_saving octets (stage.Storing at rows room) old) (seen_of pins old before began)
    sees = sees_around pins octets (stage.Storing at rows room) old before began e.is e.order e.ids

    goes : (why ≡ refusal.Stopped → ⊥) → (why ≡ refusal.ReadFault → ⊥) → GivesFileBack at.file.0 old new → HasRun (seen_of pins old before began) (seen_of pins new after faulted)
    goes other unread k =
        let s = e in
        let r = e.ready.1 in
        let runs = not_stopped new.stopped (progress.Done (reply.Refused why) ≡ stopped_reply) s.stopped (refused_differs why other) in
        has_run_in pins old new before after began faulted e.ran runs (ap (λ (v : StoreValue _). v.map.boxes) k.same) (ap (λ (v : StoreValue _). indexes_of v.boxes) k.same) (λ lists t. s.moments lists (placed_stores at rows name time octets old before e.is e.ran e.own e.left.0 r (record { 0 = old.drawn.map + 1 }) lists t.0) (rows_firm rows old before e.left.2.known t.1) t.0)
        (λ lists t. s.rests runs lists (placed_stores at rows name time octets old before e.is e.ran e.own e.left.0 r (record { 0 = old.drawn.map + 1 }) lists t.0) (rows_firm rows old before e.left.2.known t.1) t.0) s.grows (untold_faults why began faulted other unread s.faults)

    stays : (why ≡ refusal.Stopped → ⊥) → (why ≡ refusal.ReadFault → ⊥) → GivesFileBack at.file.0 old new → StaysSo no_numbers (seen_of pins old before began) (seen_of pins new after faulted)
    stays other unread k =
        let same = untold_faults why began faulted other unread e.faults in
        stays_so pins no_numbers old new before after began faulted e.ran (ap (λ (v : StoreValue _). v.map) k.same) (ap (λ (v : StoreValue _). v.drawn) k.same ∙ sym (drawn_none old.drawn)) (ap (λ (v : StoreValue _). v.dues) k.same) (ap (λ (v : StoreValue _). indexes_of v.boxes) k.same)
        (let d = ap (λ (v : StoreValue _). v.drawn.file) k.same in omega (arith, d)) (same_ends old new (tells_released old new at.file.0 e.left.0.end (let d = ap (λ (v : StoreValue _). v.drawn.file) k.same in omega (arith, d)) e.left.0.ends (ap (λ (v : StoreValue _). v.files.files) k.same)) k.ends) (knows_same old new (ap (λ (v : StoreValue _). v.instances) k.same) (ap (λ (v : StoreValue _). v.drawn.instance) k.same)) e.grows (same_reads began faulted same) (same_changes began faulted same)

    full : why ≡ refusal.StoreFull 4294967294 → nat_le 4294967294 old.drawn.map ≡ true → (why ≡ refusal.Stopped → ⊥) → GivesFileBack at.file.0 old new → DeliveryClause pins octets (stage.Storing at rows room) stage.Ended name time (progress.Done (reply.Refused why)) how old new before after began faulted
    full is used other k =
        let step : is_step why ≡ true = ap is_step is in
        with_did pins octets (stage.Storing at rows room) stage.Ended name time (progress.Done (reply.Refused why)) how (did.Step half.Whole) old new before after began faulted (e.did_is ∙ step_did why step)
        (λ behind. checked_save (around_saving octets (stage.Storing at rows room) old) behind name time octets StoresRecord (IsAtSave (stage.Storing at rows room)) (IsAtSave stage.Ended) why (seen_of pins old before began) (seen_of pins new after faulted) sees (ends_storing name time octets)
        (storing_at (around_saving octets (stage.Storing at rows room) old) name time octets rows at.file.0 at.guid.0) (λ run place said stood. stood.3) step
        (λ run lists event come shows. full_uids name time octets (seen_of pins old before began) used run lists event come shows ∙ ap (λ (w : Refusal). Some w) (sym is)) (goes other (step_calm why refusal.ReadFault step refl) k) (stays other (step_calm why refusal.ReadFault step refl) k))

    forgotten : why ≡ refusal.NoMemory → (why ≡ refusal.Stopped → ⊥) → GivesFileBack at.file.0 old new → DeliveryClause pins octets (stage.Storing at rows room) stage.Ended name time (progress.Done (reply.Refused why)) how old new before after began faulted
    forgotten m other k =
        with_did pins octets (stage.Storing at rows room) stage.Ended name time (progress.Done (reply.Refused why)) how did.Quiet old new before after began faulted (e.did_is ∙ ap failing_did m)
        (subst (λ (w : Refusal). DeliveryClause pins octets (stage.Storing at rows room) stage.Ended name time (progress.Done (reply.Refused w)) did.Quiet old new before after began faulted) (sym m)
        (λ behind. forgotten_save (around_saving octets (stage.Storing at rows room) old) behind name time octets StoresRecord (IsAtSave (stage.Storing at rows room)) (IsAtSave stage.Ended) (seen_of pins old before began) (seen_of pins new after faulted) sees (ends_storing name time octets)
        (storing_at (around_saving octets (stage.Storing at rows room) old) name time octets rows at.file.0 at.guid.0) refl (λ run place said stood. stood.3) (goes other (memory_unread why m) k) (stays other (memory_unread why m) k)))

    fell : why ≡ refusal.Stopped → IsLeftAlone old new → DeliveryClause pins octets (stage.Storing at rows room) stage.Ended name time (progress.Done (reply.Refused why)) how old new before after began faulted
    fell is k =
        let s = e in
        let r = e.ready.1 in
        let fault = fell_by why began faulted is s.faults in
        let stop : progress.Done (reply.Refused why) ≡ stopped_reply = ap (λ (w : Refusal). progress.Done (reply.Refused w)) is in
        with_did pins octets (stage.Storing at rows room) stage.Ended name time (progress.Done (reply.Refused why)) how did.Failed old new before after began faulted (s.did_is ∙ ap failing_did is)
        (subst (λ (w : Refusal). DeliveryClause pins octets (stage.Storing at rows room) stage.Ended name time (progress.Done (reply.Refused w)) did.Failed old new before after began faulted) (sym is)
        (λ behind. fallen_save (around_saving octets (stage.Storing at rows room) old) behind name time octets StoresRecord (IsAtSave (stage.Storing at rows room)) (IsAtSave stage.Ended) no_numbers (seen_of pins old before began) (seen_of pins new after faulted) sees (ends_storing name time octets)
        (storing_at (around_saving octets (stage.Storing at rows room) old) name time octets rows at.file.0 at.guid.0) (λ run event. inl refl) (stays_alone pins old new before after began faulted e.ran k s.grows fault.reads fault.changes) e.ran (s.stopped.0 stop) (fault.rose tt)
        (λ lists t. s.moments lists (placed_stores at rows name time octets old before e.is e.ran e.own e.left.0 r (record { 0 = old.drawn.map + 1 }) lists t.0) (rows_firm rows old before e.left.2.known t.1) t.0)))

    full_runs : why ≡ refusal.StoreFull 4294967294 → why ≡ refusal.Stopped → ⊥
    full_runs is k = step_calm why refusal.Stopped (ap is_step is) refl k

    by_cause : (uid_refusal old.drawn.map ≡ Some why) ⊎ ((uid_refusal old.drawn.map ≡ None) × ((why ≡ refusal.Stopped) ⊎ (why ≡ refusal.NoMemory))) → StoresNone at why old new
        → DeliveryClause pins octets (stage.Storing at rows room) stage.Ended name time (progress.Done (reply.Refused why)) how old new before after began faulted
    by_cause cause (inl k) = fell k.0 k.1
    by_cause (inl used) (inr k) = let u = uid_full (nat_le 4294967294 old.drawn.map) why used in full u.1 u.0 k.0 k.1
    by_cause (inr (some, inl is)) (inr k) = absurd (k.0 is)
    by_cause (inr (some, inr m)) (inr k) = forgotten m k.0 k.1

refused_as : (why : Refusal) → is_step why ≡ true → refused_did why ≡ did.Step half.Whole
refused_as why s = ap (λ (b : Bool). if b then did.Step half.Whole else did.Quiet) s

gives_quietly : (why : Refusal) → (why ≡ refusal.Stopped → ⊥) → giving_did (progress.Done (reply.Refused why)) ≡ did.Quiet
gives_quietly refusal.NoMailbox other = refl
gives_quietly refusal.Inbox other = refl
gives_quietly refusal.Exists other = refl
gives_quietly refusal.NoMessage other = refl
gives_quietly refusal.Sealed other = refl
gives_quietly (refusal.TooManyCopies n) other = refl
gives_quietly (refusal.MailboxFull n) other = refl
gives_quietly (refusal.TooManyMailboxes n) other = refl
gives_quietly (refusal.StoreFull n) other = refl
gives_quietly refusal.NoMemory other = refl
gives_quietly refusal.ReadFault other = refl
gives_quietly refusal.Stopped other = absurd (other refl)
gives_quietly (refusal.Damaged file offset) other = refl

-- what the event that adds the message replies, where it is refused, and where it goes on
stops_adding : {D : Type 0} → (added : Added) (room : LowerRoom) (why : Refusal) (old : StoreValue D) (name : List ℕ) → RepliesAt (stage.Adding added room) name (progress.Done (reply.Refused why)) stage.Ended old → (number : BoxNo) × (uid : Uid) × HasRoomUnder name number uid old × (why ≡ refusal.Stopped)
stops_adding added room why old name (inl k) = absurd (let r : reply.Refused why ≡ reply.Saved k.1 added.guid = cc k.3 in cc r)
stops_adding added room why old name (inr (inl k)) = let r : reply.Refused why ≡ reply.Refused refusal.Stopped = cc k.3 in (k.0, k.1, k.2, cc r)
stops_adding added room why old name (inr (inr k)) = absurd (cc k.2)

goes_back : {D : Type 0} → (added : Added) (room left : LowerRoom) (uid : MapUid) (why : Refusal) (old : StoreValue D) (name : List ℕ) → RepliesAt (stage.Adding added room) name progress.More (stage.GivingBack uid why left) old
    → (box_refusal (list_named old name) ≡ Some why) ⊎ ((box_refusal (list_named old name) ≡ None) × (why ≡ refusal.NoMemory))
goes_back added room left uid why old name (inl k) = absurd (cc k.3)
goes_back added room left uid why old name (inr (inl k)) = absurd (cc k.3)
goes_back added room left uid why old name (inr (inr k)) =
    let is : why ≡ k.0 = cc k.3 in
    subst (λ (w : Refusal). (box_refusal (list_named old name) ≡ Some w) ⊎ ((box_refusal (list_named old name) ≡ None) × (w ≡ refusal.NoMemory))) (sym is) k.1

-- ---- the message is added

-- the mailbox that was found, as the store is seen
finds_box : {D : Type 0} → (pins : ℕ → ℕ) (name : List ℕ) (guid : List ℕ) (number : BoxNo) (uid : Uid) (store : StoreValue D) (history : Option History) (faults : Faults) → HasRoomUnder name number uid store → references_to store guid ≡ 0 → FindsBox name guid uid.0 number.0 (seen_of pins store history faults)
finds_box pins name guid number uid store history faults r none = record {
  m = r.mailbox;
  named = r.named;
  number_is = r.number_is;
  next = r.next;
  room = r.room;
  more = r.more;
  unlisted = λ lists shows. sym (refs_shown store.map.boxes (indexes_of store.boxes) lists guid shows.1) ∙ none;
}

-- the entry, by time and size of the message
added_as : (uid : Uid) (added : Added) (time : ℕ) (octets : List ℕ) → added.time ≡ time → added.size ≡ length octets → entry_added uid added ≡ made_of octets uid time added.map_uid added.guid
added_as uid added time octets t n = ap (λ (k : ℕ). box_entry.A uid 0 k added.size added.map_uid added.guid []) t ∙ ap (λ (k : ℕ). box_entry.A uid 0 time k added.map_uid added.guid []) n

pub adding_saved : {D : Type 0} → (pins : ℕ → ℕ) (added : Added) (room : LowerRoom) (uid : Uid) (guid : Guid) (name : List ℕ) (time size : ℕ) (octets : List ℕ) (how : Did) (old new : StoreValue D) (before after : Option History) (began faulted : Faults) → EventOf (stage.Adding added room) stage.Ended name time size octets (progress.Done (reply.Saved uid guid)) how old new before after began faulted
    → guid ≡ added.guid → AddsStored name added uid old new → DeliveryClause pins octets (stage.Adding added room) stage.Ended name time (progress.Done (reply.Saved uid guid)) how old new before after began faulted
adding_saved pins added room uid guid name time size octets how old new before after began faulted e guid_is p =
    let s = e in
    let r = e.ready.1 in
    let small = e.ready.0.1 in
    let runs = not_stopped new.stopped (progress.Done (reply.Saved uid guid) ≡ stopped_reply) s.stopped (saved_differs uid guid) in
    let same = s.faults in
    let entry = added_as uid added time octets r.time_is r.size_is in
    with_did pins octets (stage.Adding added room) stage.Ended name time (progress.Done (reply.Saved uid guid)) how (did.Step half.Whole) old new before after began faulted s.did_is
    (subst (λ (g : Guid). DeliveryClause pins octets (stage.Adding added room) stage.Ended name time (progress.Done (reply.Saved uid g)) (did.Step half.Whole) old new before after began faulted) (sym guid_is)
    (λ behind. saved_message (around_saving octets (stage.Adding added room) old) behind name time octets added.guid added.map_uid.0 p.number.0 uid (IsAtSave stage.Ended) (seen_of pins old before began) (seen_of pins new after faulted) (sees_around pins octets (stage.Adding added room) old before began e.is e.order e.ids) (record { timed = e.timed; small = small })
    (finds_box pins name added.guid.0 p.number uid old before began p.room r.unlisted)
    (record {
      ran = e.ran;
      runs = runs;
      map = ap (λ (v : StoreValue _). v.map) p.same;
      drawn = ap (λ (v : StoreValue _). v.drawn) p.same;
      taken = p.taken ∙ ap (λ (x : BoxEntry). meanings_by p.number.0 x old.map.boxes (indexes_of old.boxes)) entry;
      due = λ other. less_due added.map_uid old new other e.left.1 (p.due p.room.mailbox other p.room.named);
      tells = tells_store pins old new before after began faulted e.ran (ap (λ (v : StoreValue _). v.map.store) p.same) (let d = ap (λ (v : StoreValue _). v.drawn.file) p.same in omega (arith, d)) (same_ends old new (tells_same old new (let d = ap (λ (v : StoreValue _). v.drawn.file) p.same in omega (arith, d)) (ap (λ (v : StoreValue _). v.files.files) p.same)) (λ n. ap (λ (v : StoreValue _). end_in n v.files.files) p.same)) (knows_same old new (ap (λ (v : StoreValue _). v.instances) p.same) (ap (λ (v : StoreValue _). v.drawn.instance) p.same));
      moments = λ lists t. subst (λ (x : BoxEntry). Leaves lists (lists_by p.number.0 octets x lists) before after) entry (s.moments p.number uid p.room lists octets (r.brings uid) t);
      settled = λ lists t. subst (λ (x : BoxEntry). IsSettledFor (lists_by p.number.0 octets x lists) after) entry (s.rests runs p.number p.room lists octets (r.brings uid) t);
      grows = s.grows;
      quiet = same;
    })))

pub adding_refused : {D : Type 0} → (pins : ℕ → ℕ) (added : Added) (room : LowerRoom) (why : Refusal) (name : List ℕ) (time size : ℕ) (octets : List ℕ) (how : Did) (old new : StoreValue D) (before after : Option History) (began faulted : Faults) → EventOf (stage.Adding added room) stage.Ended name time size octets (progress.Done (reply.Refused why)) how old new before after began faulted
    → IsLeftAlone old new → DeliveryClause pins octets (stage.Adding added room) stage.Ended name time (progress.Done (reply.Refused why)) how old new before after began faulted
adding_refused pins added room why name time size octets how old new before after began faulted e alone =
    let s = e in
    let k = stops_adding added room why old name s.replies in
    let number = k.0 in
    let uid = k.1 in
    let found = k.2 in
    let is = k.3 in
    let fault = fell_by why began faulted is s.faults in
    let r = e.ready.1 in
    let stop : progress.Done (reply.Refused why) ≡ stopped_reply = ap (λ (w : Refusal). progress.Done (reply.Refused w)) is in
    let entry = added_as uid added time octets r.time_is r.size_is in
    with_did pins octets (stage.Adding added room) stage.Ended name time (progress.Done (reply.Refused why)) how (did.Broken half.Whole) old new before after began faulted s.did_is
    (subst (λ (w : Refusal). DeliveryClause pins octets (stage.Adding added room) stage.Ended name time (progress.Done (reply.Refused w)) (did.Broken half.Whole) old new before after began faulted) (sym is)
    (λ behind. broken_save (around_saving octets (stage.Adding added room) old) behind name time octets added.guid added.map_uid.0 number.0 uid (IsAtSave stage.Ended) (seen_of pins old before began) (seen_of pins new after faulted) (sees_around pins octets (stage.Adding added room) old before began e.is e.order e.ids)
    (finds_box pins name added.guid.0 number uid old before began found r.unlisted)
    (record {
      ran = e.ran;
      stopped = s.stopped.0 stop;
      stays = stays_alone pins old new before after began faulted e.ran alone s.grows fault.reads fault.changes;
      rose = fault.rose tt;
      moments = λ lists t. subst (λ (x : BoxEntry). Leaves lists (lists_by number.0 octets x lists) before after) entry (s.moments number uid found lists octets (r.brings uid) t);
    })))

pub adding_more : {D : Type 0} → (pins : ℕ → ℕ) (added : Added) (room left : LowerRoom) (uid : MapUid) (why : Refusal) (name : List ℕ) (time size : ℕ) (octets : List ℕ) (how : Did) (old new : StoreValue D) (before after : Option History) (began faulted : Faults) → EventOf (stage.Adding added room) (stage.GivingBack uid why left) name time size octets progress.More how old new before after began faulted
    → uid ≡ added.map_uid → new ≡ old → DeliveryClause pins octets (stage.Adding added room) (stage.GivingBack uid why left) name time progress.More how old new before after began faulted
adding_more pins added room left uid why name time size octets how old new before after began faulted e uid_is same = by_cause (goes_back added room left uid why old name e.replies)
  where
    idle : (after ≡ before) × (faulted ≡ began)
    idle = e.idle (ap (λ (v : StoreValue _). v.disk) same)

    goes : HasRun (seen_of pins old before began) (seen_of pins new after faulted)
    goes =
        has_run pins old new before after began faulted e.ran (not_stopped new.stopped (progress.More ≡ stopped_reply) e.stopped more_differs) (ap (λ (v : StoreValue _). v.map.boxes) same) (ap (λ (v : StoreValue _). indexes_of v.boxes) same)
        (λ lists t. subst (λ (h : Option History). Leaves lists lists before h) (sym idle.0) (leaves_none before lists lists t)) (λ lists t. subst (λ (h : Option History). IsSettledFor lists h) (sym idle.0) t) e.grows idle.1

    stays : StaysSo no_numbers (seen_of pins old before began) (seen_of pins new after faulted)
    stays = stays_same pins old new before after began faulted e.ran same e.grows (same_reads began faulted idle.1) (same_changes began faulted idle.1)

    sees : SeesAround octets (around_saving octets (stage.Adding added room) old) (seen_of pins old before began)
    sees = sees_around pins octets (stage.Adding added room) old before began e.is e.order e.ids

    as_held : (known : Did) → how ≡ known → ((behind : Around) → StepsWithRoom (IsAddingMessage added.guid.0 added.map_uid.0) (IsLoweringCount added.map_uid.0 why) (around_saving octets (stage.Adding added room) old) behind (request.Deliver name time octets) (seen_of pins old before began) (seen_of pins new after faulted) known None)
        → DeliveryClause pins octets (stage.Adding added room) (stage.GivingBack uid why left) name time progress.More how old new before after began faulted
    as_held known is does = with_did pins octets (stage.Adding added room) (stage.GivingBack uid why left) name time progress.More how known old new before after began faulted is
        (λ behind. subst (λ (u : MapUid). StepsWithRoom (IsAddingMessage added.guid.0 added.map_uid.0) (IsLoweringCount u.0 why) (around_saving octets (stage.Adding added room) old) behind (request.Deliver name time octets) (seen_of pins old before began) (seen_of pins new after faulted) known None) (sym uid_is) (does behind))

    by_cause : (box_refusal (list_named old name) ≡ Some why) ⊎ ((box_refusal (list_named old name) ≡ None) × (why ≡ refusal.NoMemory)) → DeliveryClause pins octets (stage.Adding added room) (stage.GivingBack uid why left) name time progress.More how old new before after began faulted
    by_cause (inl refuses) =
        let step = box_steps (list_named old name) why refuses in
        as_held (did.Step half.Whole) (e.did_is ∙ refused_as why step)
        (λ behind. refused_message (around_saving octets (stage.Adding added room) old) behind name time octets added.guid.0 added.map_uid.0 why (seen_of pins old before began) (seen_of pins new after faulted) sees step refuses goes stays)
    by_cause (inr m) =
        as_held did.Quiet (e.did_is ∙ ap refused_did m.1)
        (λ behind. subst (λ (w : Refusal). StepsWithRoom (IsAddingMessage added.guid.0 added.map_uid.0) (IsLoweringCount added.map_uid.0 w) (around_saving octets (stage.Adding added room) old) behind (request.Deliver name time octets) (seen_of pins old before began) (seen_of pins new after faulted) did.Quiet None) (sym m.1)
        (forgotten_message (around_saving octets (stage.Adding added room) old) behind name time octets added.guid.0 added.map_uid.0 (seen_of pins old before began) (seen_of pins new after faulted) sees goes stays))

-- ---- its record is given back

pub giving_refused : {D : Type 0} → (pins : ℕ → ℕ) (uid : MapUid) (cause : Refusal) (room : LowerRoom) (why : Refusal) (name : List ℕ) (time size : ℕ) (octets : List ℕ) (how : Did) (old new : StoreValue D) (before after : Option History) (began faulted : Faults) → EventOf (stage.GivingBack uid cause room) stage.Ended name time size octets (progress.Done (reply.Refused why)) how old new before after began faulted
    → ((why ≡ cause) × LowersRecord uid old new) ⊎ ((why ≡ refusal.Stopped) × IsLeftAlone old new)
    → DeliveryClause pins octets (stage.GivingBack uid cause room) stage.Ended name time (progress.Done (reply.Refused why)) how old new before after began faulted
giving_refused pins uid cause room why name time size octets how old new before after began faulted e made = by_case made
  where
    sees : SeesAround octets (around_saving octets (stage.GivingBack uid cause room) old) (seen_of pins old before began)
    sees = sees_around pins octets (stage.GivingBack uid cause room) old before began e.is e.order e.ids

    by_case : ((why ≡ cause) × LowersRecord uid old new) ⊎ ((why ≡ refusal.Stopped) × IsLeftAlone old new) → DeliveryClause pins octets (stage.GivingBack uid cause room) stage.Ended name time (progress.Done (reply.Refused why)) how old new before after began faulted
    by_case (inl k) =
        let s = e in
        let other : why ≡ refusal.Stopped → ⊥ = λ is. e.left.1 (sym k.0 ∙ is) in
        let unread : why ≡ refusal.ReadFault → ⊥ = λ is. e.left.2 (sym k.0 ∙ is) in
        let runs = not_stopped new.stopped (progress.Done (reply.Refused why) ≡ stopped_reply) s.stopped (refused_differs why other) in
        let p = k.1 in
        with_did pins octets (stage.GivingBack uid cause room) stage.Ended name time (progress.Done (reply.Refused why)) how did.Quiet old new before after began faulted (s.did_is ∙ gives_quietly why other)
        (subst (λ (w : Refusal). DeliveryClause pins octets (stage.GivingBack uid cause room) stage.Ended name time (progress.Done (reply.Refused w)) did.Quiet old new before after began faulted) (sym k.0)
        (λ behind. lowers_count (around_saving octets (stage.GivingBack uid cause room) old) behind name time octets uid.0 cause (IsAtSave stage.Ended) (seen_of pins old before began) (seen_of pins new after faulted) sees
        (has_run pins old new before after began faulted e.ran runs p.mailboxes (ap (λ (v : StoreValue _). indexes_of v.boxes) p.same) s.moments (s.rests runs) s.grows (untold_faults why began faulted other unread s.faults)) p.fits p.map (ap (λ (v : StoreValue _). v.drawn) p.same) (λ u. less_due uid old new u e.left.0 (p.due u))
        (tells_store pins old new before after began faulted e.ran (ap (λ (m : MapMeaning). m.store) p.map) (let d = ap (λ (v : StoreValue _). v.drawn.file) p.same in omega (arith, d)) (same_ends old new (tells_same old new (let d = ap (λ (v : StoreValue _). v.drawn.file) p.same in omega (arith, d)) (ap (λ (v : StoreValue _). v.files.files) p.same)) (λ n. ap (λ (v : StoreValue _). end_in n v.files.files) p.same))
        (knows_same old new (ap (λ (v : StoreValue _). v.instances) p.same) (ap (λ (v : StoreValue _). v.drawn.instance) p.same)))))
    by_case (inr k) =
        let s = e in
        let fault = fell_by why began faulted k.0 s.faults in
        let stop : progress.Done (reply.Refused why) ≡ stopped_reply = ap (λ (w : Refusal). progress.Done (reply.Refused w)) k.0 in
        with_did pins octets (stage.GivingBack uid cause room) stage.Ended name time (progress.Done (reply.Refused why)) how did.Failed old new before after began faulted (s.did_is ∙ ap (λ (w : Refusal). giving_did (progress.Done (reply.Refused w))) k.0)
        (subst (λ (w : Refusal). DeliveryClause pins octets (stage.GivingBack uid cause room) stage.Ended name time (progress.Done (reply.Refused w)) did.Failed old new before after began faulted) (sym k.0)
        (λ behind. fallen_save (around_saving octets (stage.GivingBack uid cause room) old) behind name time octets GivesBack (IsAtSave (stage.GivingBack uid cause room)) (IsAtSave stage.Ended) no_numbers (seen_of pins old before began) (seen_of pins new after faulted) sees (ends_giving name time octets)
        (lowering_at (around_saving octets (stage.GivingBack uid cause room) old) name time octets uid.0 cause) (λ run event. inl refl) (stays_alone pins old new before after began faulted e.ran k.1 s.grows fault.reads fault.changes) e.ran (s.stopped.0 stop) (fault.rose tt) (λ lists t. s.moments lists t.0)))
