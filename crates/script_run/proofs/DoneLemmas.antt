-- A script is done, from the opening of the store to the end of the last lane.
use Rattle.std.specs.Prelude.{◌≡◌, ◌≢◌, ◌<◌, ◌≤◌, ◌||◌, ◌⊎◌, ℕ, zero, suc, Bool, true, false, List, [], ◌∷◌, All, Contains, length, map, replicate, slice_get, Option, Some, None, if◌then◌else◌}
use Rattle.std.proofs.Common.{refl, sym, ◌∙◌, ap, subst, arith, inl, inr}
use Rattle.std.proofs.lemmas.List.{length-map, length-replicate}
use Rattle.std.proofs.lemmas.Option.{slice_get_within}
use Rattle.disk_model.specs.Disk.{Faults, History, IfTold, IsIdle, IsMoment, told_calls}
use Rattle.disk_model.proofs.IdleLemmas.{idle-begins}
use Rattle.mdbox_base.specs.declared.ids.Uid.{Uid}
use Rattle.mdbox_base.specs.declared.replies.Refusal.{Refusal}
use Rattle.mdbox_base.specs.declared.replies.Refusal.TheVariants as refusal
use Rattle.mdbox_base.specs.declared.replies.Reply.{Reply}
use Rattle.mdbox_base.specs.declared.replies.Reply.TheVariants as reply
use Rattle.mdbox_base.specs.declared.script.JournalEntry.{JournalEntry}
use Rattle.mdbox_base.specs.declared.requests.Request.{Request}
use Rattle.mdbox_base.specs.declared.requests.Request.TheVariants as request
use Rattle.model_kept.specs.Kept.{MailIsKept}
use Rattle.model_kept.proofs.KeptLemmas.{ReadsImage}
use Rattle.model_lists.specs.Lists.{Lists}
use Rattle.model_store.specs.Settled.{IsSettledFor}
use Rattle.list_machine.specs.Run.{Run, RunEvent, reply_of}
use Rattle.journal.specs.Events.{Around, is_fault}
use Rattle.journal.specs.Makes.{AreNextEvents, HasCome}
use Rattle.journal.specs.Journal.{Broken, HasReply, IsLegal, JournalStep, Requests, left_by, no_broken}
use Rattle.serving.specs.Serving.{AreIdle, HaveLanes, unreplied}
use Rattle.sis_store.specs.Instances.{AreInstances}
use Rattle.store_core.proofs.InstanceFirmLemmas.{named_all_firm}
use Rattle.store_core.specs.Running.{IsStore}
use Rattle.storage_files.specs.Files.{is_doomed_in}
use Rattle.store_core.specs.Value.{StoreValue, indexes_of, list_named}
use Rattle.storage_files.specs.Files.{FilesValue}
use Rattle.store_open.specs.Opened.{KeepsOpenedMail}
use Rattle.store_seen.specs.Seeing.{IsAtOpening}
use Rattle.task_claims.specs.Claims.{HasNoTask}
use Rattle.task_steps.specs.Step.{IsFirmAt, Seen, ShowsSeen}
use Rattle.task_steps.proofs.OneEventLemmas.{not_true}
use Rattle.mail_fetch.specs.Task.{seen_in}
use Rattle.lanes.specs.Going.{AreFreshRows, FindsMessages, IsGoing}
use Rattle.lanes.specs.Rows.{LaneRow, lane_value, lanes_of}
use Rattle.lanes.specs.Turned.{GoesOnInOrder, WentOn, untraced}
use Rattle.lanes.specs.Worlds.{AreOfLanes, ArePartsOf, IsFreshWorld, IsWorldOf, KeepsWorld, PartsValue, WorldValue, and_events}
use Rattle.lane_tasks.specs.Clause.{AnswersReads, DoomsNone, OnlyReads, ReadsNoOctets}
use Rattle.task_steps.proofs.UnmovedLemmas.{mail_still}
use Rattle.lane_tasks.specs.Tasks.{BeginsTask}
use Rattle.mail_ops.specs.Changing.{deleting_refusal, renaming_refusal}
use Rattle.mail_ops.specs.Flagging.{flag_refusal}
use Rattle.mail_ops.specs.Requests.{Replies}
use Rattle.lane_tasks.specs.declared.task.Task.{Task}
use Rattle.script_run.specs.One.{IsFlagAnswer, IsGivenBackAlone, IsToldAlone, IsUndoneAlone, IsUnmadeAlone, MeansAlike, MeansByMake, ReadAlike, missing_cause}
use Rattle.script_run.specs.Done.{IsScriptDone, LeavesStore, MayBeKept, MayBeServed, MayRead}
use Rattle.script_run.specs.Faults.{FaultsByReplies, HasReadFault}
use Rattle.script_run.specs.LeftOpen.{IsServedOpen}
use Rattle.script_run.specs.Opening.{AreSafeFor, LogsShowLists}
use Rattle.script_run.specs.OpenScript.{IsScriptOpened, IsStoreOpened}
use Rattle.script_run.specs.Script.{HasStopped, IsRefusedAtOnce, ServesScript, has_change, has_delivery, has_fetch, has_mail_read, has_purge, is_fetch, is_purge}
use Rattle.script_run.proofs.EndLemmas.{all_given, script_served, serves_from, unharmed}
use Rattle.script_run.proofs.MailStaysLemmas.{opening_keeps, run_keeps, stays_from}
use Rattle.script_run.proofs.ChangeTaskLemmas.{StandsDelete, StandsRename, StandsWords, begun_delete, begun_rename, keeps_delete, keeps_rename, keeps_words}
use Rattle.script_run.proofs.CopyTaskLemmas.{IsCopyTold, StandsCopy, begun_copy, keeps_copy}
use Rattle.script_run.proofs.ChainLemmas.{HasCounted, HasDoomedNone, HasOnlyRead, HasReadAsTold, HasReadNoOctets, HasWrittenNone, WritesNoMail, calm_on, counted_first, counted_on, reads_on, stays_over, syncs_first, unread_on, unwritten_on}
use Rattle.script_run.proofs.SinceLemmas.{MayBeRefused, ServedSince, answers_first, begun_first, changes_none, dooms_first, fresh_tasks, reads_first, reads_unpurged, served_since, unpurged, unread_first, unwritten_first}
use Rattle.script_run.specs.Purged.{IsPurgedAlone, IsRefusedRoomAlone, LacksRoom}
use Rattle.script_run.specs.Resynced.{IsResyncedAlone}
use Rattle.script_run.specs.Sealed.{KeepsSealed}
use Rattle.script_run.proofs.MakeTaskLemmas.{IsMakeTold, StandsMake, begun_make, keeps_make, making_cause, unmade_alike}
use Rattle.script_run.proofs.MoveTaskLemmas.{IsMoveTold, StandsMove, begun_move, keeps_move}
use Rattle.script_run.proofs.MovedLemmas.{all_at, none_moved}
use Rattle.script_run.proofs.OneTaskLemmas.{IsAloneSo, IsChangeTold, IsFlagTold, KeepsAlone, StandsExpunge, StandsFlag, alone_fresh, alone_on, begun_expunge, keeps_expunge, keeps_flag}
use Rattle.script_run.proofs.OpenedLemmas.{none_doomed, none_holds, none_used}
use Rattle.script_run.proofs.ReadFaultLemmas.{TellsFault, faults_are_told}
use Rattle.script_run.proofs.PurgeTaskLemmas.{IsPurgeTold, StandsPurge, begun_purge, keeps_purge}
use Rattle.script_run.proofs.ResyncTaskLemmas.{IsResyncTold, StandsResync, begun_resync, keeps_resync}
use Rattle.script_run.proofs.RunBeginsLemmas.{at_opening, before_opening, beginning, first_come, opening_begins}
use Rattle.script_run.proofs.SealedLemmas.{HasKeptSealed, keeps_sealed, sealed_first, sealed_on}
use Rattle.script_run.proofs.ReopenedLemmas.{opens_on_left}
use Rattle.script_run.proofs.ShownLemmas.{LogsShow, carried_safe, opened_logs_show, opens_again}
use Rattle.script_run.proofs.SomeListsLemmas.{some_lists}

-- ---- a world begins

pub no_task : {D : Type 0} → (old mid : Option History) (s : StoreValue D) → IsStoreOpened old mid s → AreInstances s.instances → s.made ≡ [] → HasNoTask s
no_task old mid s o are made = record { dues = o.free; files = none_used s old o.files; instances = none_holds s are o.instances; made = made }

-- ---- it reads messages only from settled disks

pub fetches : (script : Requests) (place lane : ℕ) (name : List ℕ) (uid : Uid) → slice_get script place ≡ Some (lane, request.Fetch name uid) → has_fetch script ≡ true
fetches [] place lane name uid at = absurd (let e : None ≡ Some (lane, request.Fetch name uid) = at in cc e)
fetches (asked ∷ script) zero lane name uid at =
    let e : Some asked ≡ Some (lane, request.Fetch name uid) = at in
    let is : asked ≡ (lane, request.Fetch name uid) = cc e in
    ap (λ (q : ℕ × Request). is_fetch q.1 || has_fetch script) is
fetches (asked ∷ script) (suc place) lane name uid at = ap (λ (b : Bool). is_fetch asked.1 || b) (fetches script place lane name uid at) ∙ or_yes (is_fetch asked.1)
  where
    or_yes : (b : Bool) → (b || true) ≡ true
    or_yes true = refl
    or_yes false = refl

-- ---- from the opening on

pub of_lanes : (script : Requests) (lanes : ℕ) (rows : List LaneRow) → length rows ≡ lanes → AreOfLanes lanes script → HaveLanes script (lanes_of rows)
of_lanes script lanes rows many are =
    let same : length (lanes_of rows) ≡ lanes = length-map rows lane_value ∙ many in
    subst (λ (n : ℕ). All (λ asked. (0 < asked.0) × (asked.0 ≤ n)) script) (sym same) are

-- the law of worlds that begin
abbrev pub WorldsBegin : (D : Type 0) → Type 0
WorldsBegin D = (start : Lists) (script : Requests) (run : Run) (began : Seen) (lanes : ℕ) (parts : PartsValue) (store : StoreValue D) (history : Option History) (faults : Faults) (world : WorldValue D) → IsFreshWorld store parts history world → ArePartsOf script lanes parts → run.events ≡ []
    → IsGoing start script run [] no_broken (unreplied script) began store history faults parts.rows → IsWorldOf start script run [] no_broken began history faults world

-- a world of the script begins, with the disk as it was before the opening
pub begins_from : {D : Type 0} → (start : Lists) (script : Requests) (lanes : ℕ) (parts : PartsValue) (old mid : Option History) (first : Faults) (s : StoreValue D) (o : IsStoreOpened old mid s) (world : WorldValue D) → WorldsBegin D
    → IsGoing start script (beginning s.map o.store.entries) [] no_broken (unreplied script) (seen_in s mid first) s mid first parts.rows → ArePartsOf script lanes parts → LogsShowLists s.map (indexes_of s.boxes) start → MayRead script start old → IsFreshWorld s parts mid world
    → IsWorldOf start script (beginning s.map o.store.entries) [] no_broken (before_opening (seen_in s mid first) old) mid first world
begins_from start script lanes parts old mid first s o world law g are shows may begun =
    let run : Run = beginning s.map o.store.entries in
    let from : Seen = before_opening (seen_in s mid first) old in
    law start script run from lanes parts s mid first world begun are refl
    (record {
      serving = record {
        serves = serves_from start script run (unreplied script) (seen_in s mid first) old refl g.serving.serves (o.safe start) (o.settled_again start) (opening_keeps old mid s.map (indexes_of s.boxes) o.opened o.stays);
        follows = g.serving.follows;
        told = g.serving.told;
        given = g.serving.given;
        would = g.serving.would;
        stays_stopped = g.serving.stays_stopped;
        replied_stopped = g.serving.replied_stopped;
        lanes_at = g.serving.lanes_at;
      };
      lanes = g.lanes;
      few = g.few;
      waiting = g.waiting;
      accounts = g.accounts;
      quiet = g.quiet;
      fetched = λ place lane name uid at. elim (may (fetches script place lane name uid at)) [ inl settled ↦ inl settled | inr one ↦ inr (one.0, λ none. carried_safe start old mid o.carried one.1) ];
      undamaged = g.undamaged;
    })

-- ---- the end

-- a reply that is given is among those given
pub given_at : (given : List Reply) (i : ℕ) (one : Reply) → HasReply (map Some given) i one → Contains given one
given_at [] i one at = absurd (let e : None ≡ Some (Some one) = at in cc e)
given_at (r ∷ rest) zero one at = let e : Some (Some r) ≡ Some (Some one) = at in let f : Some r ≡ Some one = cc e in let z : r ≡ one = cc f in (0, omega arith, z)
given_at (r ∷ rest) (suc i) one at = let c = given_at rest i one at in let l = c.1 in (suc c.0, omega (arith, l), c.2)

pub at_given : (given : List Reply) (one : Reply) → Contains given one → (i : ℕ) × HasReply (map Some given) i one
at_given [] one c = absurd (let k = c.1 in omega (arith, k))
at_given (r ∷ rest) one (zero, l, c) = (0, ap (λ (x : Reply). Some (Some x)) c)
at_given (r ∷ rest) one (suc n, l, c) = let h = at_given rest one (n, omega (arith, l), c) in (suc h.0, h.1)

pub settled_safe : (lists : Lists) (old : Option History) → IsSettledFor lists old → AreSafeFor lists old
settled_safe lists None at = absurd at
settled_safe lists (Some h) at = record { store = at.store; entries = at.entries; by = at.safe }

-- the law of lanes that have come to their end
abbrev pub LanesEnd : (D : Type 0) → Type 0
LanesEnd D = (start : Lists) (script : Requests) (run : Run) (journal : List JournalStep) (broken : Broken) (replies : List (Option Reply)) (began : Seen) (store : StoreValue D) (history : Option History) (faults : Faults) (rows : List LaneRow) → IsGoing start script run journal broken replies began store history faults rows
    → AreIdle (lanes_of rows) → (i : ℕ) → i < length script → (given : Reply) × HasReply replies i given × (reply_of i run ≡ Some given)

-- Some lists are shown from which the script may be served, if there are lists from which it may read.
start_of : {D : Type 0} → (script : Requests) (old mid : Option History) (s : StoreValue D) → IsStoreOpened old mid s → LogsShow → MayBeServed script old → (start : Lists) × LogsShowLists s.map (indexes_of s.boxes) start × MayRead script start old
start_of script old mid s o show some = by_test (has_fetch script) refl
  where
    by_test : (b : Bool) → has_fetch script ≡ b → (start : Lists) × LogsShowLists s.map (indexes_of s.boxes) start × MayRead script start old
    by_test true e = (some.0, opened_logs_show some.0 old s.map (indexes_of s.boxes) o.opened show (elim (some.1 e) [ inl settled ↦ settled_safe some.0 old settled | inr one ↦ one.1 ]), some.1)
    by_test false e = let l = some_lists old s.map (indexes_of s.boxes) o.opened in (l.0, l.1, λ f. absurd (let k : true ≡ false = sym f ∙ e in cc k))

-- Where no reply tells a fault, no event was refused by one.
none_faulted : (around after : ℕ → Around) (script : Requests) (start : Lists) (run : Run) (journal : List JournalStep) (given : List Reply) → AreNextEvents around after script start run journal → ((i : ℕ) → i < length script → (one : Reply) × HasReply (map Some given) i one × (reply_of i run ≡ Some one))
    → (HasReadFault given → ⊥) → (HasStopped given → ⊥) → All (λ event. event.refused ≢ Some refusal.ReadFault) run.events
none_faulted around after script start run journal given next each unread unstopped = all_at (λ event. event.refused ≢ Some refusal.ReadFault) run.events (λ n e at why.
    let k = next n e at in
    let g = each e.request (slice_get_within script e.request k.asked k.request_is) in
    by_reply g.0 (given_at given e.request g.0 g.1) (faults_are_told around after script start run journal next n e at (ap is_fault why) g.0 g.2))
  where
    by_reply : (one : Reply) → Contains given one → TellsFault one → ⊥
    by_reply one c (inl e) = unread (subst (Contains given) e c)
    by_reply one c (inr e) = unstopped (subst (Contains given) e c)

-- What a run from these lists made of a world: it is one of the run with these events, none of which ended before the store was open; and
-- where each answered its request with a refusal that a check gave, nothing has changed.
pub record RunSince {D : Type 0} (start : Lists) (script : Requests) (run : Run) (began : Seen) (ended : WorldValue D) (mid new : Option History) (last : Faults) : Type 0 where
  pub added : List RunEvent
  pub more : List JournalStep
  pub broke : Broken
  pub is : IsWorldOf start script (and_events run added) more broke began new last ended
  pub later : All (λ event. told_calls mid ≤ event.moment) added
  pub refused : All IsRefusedAtOnce added → IsIdle mid new

-- What is known of a run at its end, however its requests came: the opening, and what was made of the world that began then.
pub record RunLeft {D : Type 0} (script : Requests) (old mid new : Option History) (first last : Faults) (s : StoreValue D) (ended : WorldValue D) : Type 0 where
  pub opened : IsStoreOpened old mid s
  pub reads : IfTold mid ReadsImage
  pub reads_last : IfTold new ReadsImage
  pub show : LogsShow
  pub since : (start : Lists) → LogsShowLists s.map (indexes_of s.boxes) start → MayRead script start old → RunSince start script (beginning s.map opened.store.entries) (before_opening (seen_in s mid first) old) ended mid new last
  pub counts : HasCounted mid first ended new last
  pub unwritten : has_delivery script ≡ false → has_purge script ≡ false → HasWrittenNone mid ended new last
  pub unchanged : has_change script ≡ false → HasOnlyRead mid ended new last
  pub unread : has_mail_read script ≡ false → HasReadNoOctets first ended new last
  pub calm : has_fetch script ≡ false → HasReadAsTold first ended new last
  pub sealed : (start : Lists) → LogsShowLists s.map (indexes_of s.boxes) start → MayRead script start old → HasKeptSealed start script s.map mid ended new last
  pub made_is : IsMoment mid ended.began
  pub many : length ended.replies ≡ length script
  pub replied : (i : ℕ) → i < length ended.replies → (given : Reply) × HasReply ended.replies i given
  pub idle : AreIdle (lanes_of ended.rows)
  pub later : IsStore new ended.store
  pub law : LanesEnd D

-- a store that is stopped in the end replied so
replied_by : {D : Type 0} → (script : Requests) (old mid new : Option History) (first last : Faults) (s : StoreValue D) (ended : WorldValue D) → RunLeft script old mid new first last s ended → (given : List Reply) → ended.replies ≡ map Some given → ended.store.stopped ≡ true → HasStopped given
replied_by script old mid new first last s ended r given are e =
    let i = r.counts.replied e in
    given_at given i.0 (reply.Refused refusal.Stopped) (subst (λ (rs : List (Option Reply)). HasReply rs i.0 (reply.Refused refusal.Stopped)) are i.1)

stopped_by : {D : Type 0} → (script : Requests) (old mid new : Option History) (first last : Faults) (s : StoreValue D) (ended : WorldValue D) → RunLeft script old mid new first last s ended → (given : List Reply) → ended.replies ≡ map Some given → (HasStopped given → ⊥) → ended.store.stopped ≡ false
stopped_by script old mid new first last s ended r given are unstopped = not_true ended.store.stopped (λ e. unstopped (replied_by script old mid new first last s ended r given are e))

-- from lists that the logs show, the replies tell the faults
faults_of_run : {D : Type 0} → (script : Requests) (old mid new : Option History) (first last : Faults) (s : StoreValue D) (ended : WorldValue D) → (r : RunLeft script old mid new first last s ended) → (given : List Reply) → ended.replies ≡ map Some given → (start : Lists) → LogsShowLists s.map (indexes_of s.boxes) start → MayRead script start old
    → FaultsByReplies given first last
faults_of_run script old mid new first last s ended r given are start shows may =
    let w = r.since start shows may in
    let run : Run = and_events (beginning s.map r.opened.store.entries) w.added in
    let going = w.is.going in
    let counts = r.counts in
    let runs = stopped_by script old mid new first last s ended r given are in
    let legal = subst (λ (rs : List (Option Reply)). IsLegal start script run w.more rs first last) are going.serving.serves.legal in
    record {
      counted = counts.reads;
      reads = legal.causes.reads;
      changes = counts.changes;
      stopped = λ h. let i = at_given given (reply.Refused refusal.Stopped) h in legal.causes.changes i.0 i.1;
      unchanged = λ unstopped. counts.unchanged (runs unstopped);
      quiet = λ unread unstopped.
          going.quiet (runs unstopped)
          (none_faulted going.serving.follows.around going.serving.follows.after script start run w.more given going.serving.follows.next
          (λ i l. let e = r.law start script run w.more w.broke ended.replies _ ended.store new last ended.rows going r.idle i l in (e.0, subst (λ (rs : List (Option Reply)). HasReply rs i e.0) are e.1, e.2)) unread unstopped);
    }

-- and storage files and instances stayed
mail_of_run : {D : Type 0} → (script : Requests) (old mid new : Option History) (first last : Faults) (s : StoreValue D) (ended : WorldValue D) → (r : RunLeft script old mid new first last s ended) → (start : Lists) → LogsShowLists s.map (indexes_of s.boxes) start → MayRead script start old → has_purge script ≡ false → MailIsKept s.map old new
mail_of_run script old mid new first last s ended r start shows may none =
    let w = r.since start shows may in
    let going = w.is.going in
    going.serving.serves.mail (none_moved going.serving.follows.around going.serving.follows.after script start _ w.more (λ i asked at. unpurged script i asked.0 asked.1 none at) going.serving.follows.next)

-- it is served from them, and the logs show in the end what its journal leaves
serves_run : {D : Type 0} → (script : Requests) (old mid new : Option History) (first last : Faults) (s : StoreValue D) (ended : WorldValue D) → (r : RunLeft script old mid new first last s ended) → (given : List Reply) → ended.replies ≡ map Some given → (start : Lists) → LogsShowLists s.map (indexes_of s.boxes) start → MayRead script start old
    → (was : ServesScript script start given ended.journal first last old mid new) × LogsShowLists ended.store.map (indexes_of ended.store.boxes) (left_by start was.journal)
serves_run script old mid new first last s ended r given are start shows may =
    let from : Seen = before_opening (seen_in s mid first) old in
    let w = r.since start shows may in
    let run : Run = and_events (beginning s.map r.opened.store.entries) w.added in
    let going = subst (λ (rs : List (Option Reply)). IsGoing start script run w.more w.broke rs from ended.store new last ended.rows) are w.is.going in
    script_served start script run w.more w.broke given ended.journal from ended.began ended.store mid new last ended.rows going going.serving.stays_stopped r.later r.reads_last r.opened.drawn (opening_begins old mid s r.opened)
    (λ e. let i = going.serving.replied_stopped e in given_at given i.0 (reply.Refused refusal.Stopped) i.1) (r.made_is, w.later) w.is.entries
    w.refused

-- what it left of the store
leaves_run : {D : Type 0} → (script : Requests) (old mid new : Option History) (first last : Faults) (s : StoreValue D) (ended : WorldValue D) → RunLeft script old mid new first last s ended → (given : List Reply) → ended.replies ≡ map Some given → LeavesStore script s.map given old new
leaves_run script old mid new first last s ended r given are = record {
  generation = r.opened.swept.0;
  opened = mid;
  swept = r.opened.swept.1;
  carried = r.opened.carried;
  closed_well = r.opened.closed_well;
  grows = r.counts.grows;
  idle = λ none. (r.unchanged none).idle;
  mail = λ none none_purges unstopped. (r.unwritten none none_purges).synced (stopped_by script old mid new first last s ended r given are unstopped);
}

stays_run : {D : Type 0} → (script : Requests) (old mid new : Option History) (first last : Faults) (s : StoreValue D) (ended : WorldValue D) → RunLeft script old mid new first last s ended → MayBeKept script old → KeepsOpenedMail old new
stays_run script old mid new first last s ended r may = by_test (has_delivery script) refl
  where
    by_test : (b : Bool) → has_delivery script ≡ b → KeepsOpenedMail old new
    by_test true e =
        let start = start_of script old mid s r.opened r.show (may.1 e) in
        run_keeps old new s.map (indexes_of s.boxes) r.opened.opened (mail_of_run script old mid new first last s ended r start.0 start.1 start.2 may.0)
    by_test false e =
        let kept = (r.unwritten e may.0).kept s.map in
        stays_from old mid new s.map (indexes_of s.boxes) r.opened.opened r.reads r.opened.stays kept

-- and sealed storage files stay, also where a script purges
sealed_run : {D : Type 0} → (script : Requests) (old mid new : Option History) (first last : Faults) (s : StoreValue D) (ended : WorldValue D) → RunLeft script old mid new first last s ended → MayBeServed script old → KeepsSealed old new
sealed_run script old mid new first last s ended r may =
    let start = start_of script old mid s r.opened r.show may in
    keeps_sealed old mid new s.map (indexes_of s.boxes) r.opened.opened r.reads r.opened.stays (r.sealed start.0 start.1 start.2).kept

pub done_run : {D : Type 0} → (script : Requests) (old mid new : Option History) (first last : Faults) (s : StoreValue D) (ended : WorldValue D) → RunLeft script old mid new first last s ended → (given : List Reply) → ended.replies ≡ map Some given → IsScriptDone script given ended.journal old new first last
unfolding leaves_run serves_run script_served
done_run script old mid new first last s ended r given are =
    let counts = r.counts in
    record {
      each = sym (length-map given Some) ∙ (ap length (sym are) ∙ r.many);
      m = s.map;
      meanings = indexes_of s.boxes;
      opened = r.opened.opened;
      shown = λ lists safe. opened_logs_show lists old s.map (indexes_of s.boxes) r.opened.opened r.show safe;
      serves = λ lists shows may. (serves_run script old mid new first last s ended r given are lists shows may).0;
      begins = λ lists shows may. sym r.opened.store.map_is;
      undamaged = λ may.
          let start = start_of script old mid s r.opened r.show may in
          let w = r.since start.0 start.1 start.2 in
          unharmed given (λ i one at. w.is.going.undamaged.none_told i one (subst (λ (rs : List (Option Reply)). HasReply rs i one) (sym are) at));
      running = λ may none h.
          let start = start_of script old mid s r.opened r.show may in
          let w = r.since start.0 start.1 start.2 in
          let i = at_given given (reply.Refused refusal.Stopped) h in
          let stopped = w.is.going.serving.serves.halted i.0 (subst (λ (rs : List (Option Reply)). HasReply rs i.0 (reply.Refused refusal.Stopped)) (sym are) i.1) in
          let e : true ≡ false = sym stopped ∙ (r.unchanged none).running in
          cc e;
      faults = λ may. let start = start_of script old mid s r.opened r.show may in faults_of_run script old mid new first last s ended r given are start.0 start.1 start.2;
      counts = record { counted = counts.reads; changes = counts.changes; unchanged = λ unstopped. counts.unchanged (stopped_by script old mid new first last s ended r given are unstopped); unread = λ none. (r.unread none).unread; calm = λ none untold. (r.calm none).calm (λ i had. untold (given_at given i (reply.Refused refusal.ReadFault) (subst (λ (rs : List (Option Reply)). HasReply rs i (reply.Refused refusal.ReadFault)) are had))) };
      leaves = leaves_run script old mid new first last s ended r given are;
      stays = λ may. stays_run script old mid new first last s ended r may;
      sealed = λ may. sealed_run script old mid new first last s ended r may;
    }

-- the law of lanes that begin
abbrev pub LanesBegin : (D : Type 0) → Type 0
LanesBegin D = (start : Lists) (script : Requests) (run : Run) (rows : List LaneRow) (store : StoreValue D) (history : Option History) (faults : Faults) → IsAtOpening run store → HasCome run store.map store.drawn (told_calls history) → HasNoTask store → store.stopped ≡ false → ShowsSeen (seen_in store history faults) start → IsFirmAt start (seen_in store history faults)
    → AreFreshRows script rows → HaveLanes script (lanes_of rows) → length rows ≤ 64
    → ((place lane : ℕ) (name : List ℕ) (uid : Uid) → slice_get script place ≡ Some (lane, request.Fetch name uid) → FindsMessages start script run history history) → IsGoing start script run [] no_broken (unreplied script) (seen_in store history faults) store history faults rows

-- What is known of a script's run: the opening, the world that began then, and what it came to.
pub record ScriptRan {D : Type 0} (script : Requests) (old mid new : Option History) (first last : Faults) (s : StoreValue D) (world ended : WorldValue D) : Type 0 where
  pub opened : IsStoreOpened old mid s
  pub reads : IfTold mid ReadsImage
  pub reads_last : IfTold new ReadsImage
  pub unused : HasNoTask s
  pub show : LogsShow
  pub fresh : AreFreshRows script world.rows
  pub store_is : world.store ≡ s
  pub runs : world.store.stopped ≡ false
  pub made_is : IsMoment mid world.began
  pub begins : (start : Lists) → LogsShowLists s.map (indexes_of s.boxes) start → MayRead script start old → IsWorldOf start script (beginning s.map opened.store.entries) [] no_broken (before_opening (seen_in s mid first) old) mid first (untraced world)
  pub turns : List ℕ
  pub chain : GoesOnInOrder turns (untraced world) ended mid new first last
  pub same_began : ended.began ≡ world.began
  pub many : length ended.replies ≡ length script
  pub replied : (i : ℕ) → i < length ended.replies → (given : Reply) × HasReply ended.replies i given
  pub idle : AreIdle (lanes_of ended.rows)
  pub later : IsStore new ended.store
  pub law : LanesEnd D

-- the world of the run with all events
ended_world : {D : Type 0} → (script : Requests) (old mid new : Option History) (first last : Faults) (s : StoreValue D) (world ended : WorldValue D) → (r : ScriptRan script old mid new first last s world ended) → (start : Lists) → LogsShowLists s.map (indexes_of s.boxes) start → MayRead script start old
    → ServedSince start script (beginning s.map r.opened.store.entries) [] (before_opening (seen_in s mid first) old) (untraced world) ended mid new last
ended_world script old mid new first last s world ended r start shows may =
    let run : Run = beginning s.map r.opened.store.entries in
    let from : Seen = before_opening (seen_in s mid first) old in
    served_since r.turns (untraced world) ended mid new first last r.chain start script run [] no_broken from (r.begins start shows may)

-- what came of the counts of faults
counts_of_run : {D : Type 0} → (script : Requests) (old mid new : Option History) (first last : Faults) (s : StoreValue D) (world ended : WorldValue D) → ScriptRan script old mid new first last s world ended → HasCounted mid first ended new last
counts_of_run script old mid new first last s world ended r = stays_over (HasCounted mid first) (counted_on mid first) r.turns (untraced world) ended mid new first last r.chain (counted_first (untraced world) mid first r.runs)

-- In the store that was opened no file is doomed, and no task of a script without a purge is to remove one.
undoomed_first : {D : Type 0} → (script : Requests) (old mid new : Option History) (first last : Faults) (s : StoreValue D) (world ended : WorldValue D) → ScriptRan script old mid new first last s world ended → ((place lane : ℕ) (asked : Request) → slice_get script place ≡ Some (lane, asked) → is_purge asked ≡ false) → HasDoomedNone (untraced world)
undoomed_first script old mid new first last s world ended r none = record {
  tasks = fresh_tasks DoomsNone script world.rows (λ place lane asked t at begins. dooms_first asked t (none place lane asked at) begins) r.fresh;
  files = λ runs file. ap (λ (v : StoreValue _). is_doomed_in file v.files.files) r.store_is ∙ none_doomed s old r.opened.files file;
}

-- A script with neither a delivery nor a purge leaves them as the opening left them.
unwritten_run : {D : Type 0} → (script : Requests) (old mid new : Option History) (first last : Faults) (s : StoreValue D) (world ended : WorldValue D) → ScriptRan script old mid new first last s world ended → has_delivery script ≡ false → has_purge script ≡ false → HasWrittenNone mid ended new last
unwritten_run script old mid new first last s world ended r none none_purges =
    stays_over (HasWrittenNone mid) (unwritten_on mid) r.turns (untraced world) ended mid new first last r.chain
    (record {
      tasks = fresh_tasks WritesNoMail script world.rows (λ place lane asked t at begins. unwritten_first script place lane asked t none none_purges at begins) r.fresh;
      undoomed = undoomed_first script old mid new first last s world ended r (λ place lane asked at. unpurged script place lane asked none_purges at);
      synced = λ runs. syncs_first mid;
      kept = λ m. mail_still m mid;
    })

-- One that reads at the most changes nothing, and doesn't stop the store.
idle_run : {D : Type 0} → (script : Requests) (old mid new : Option History) (first last : Faults) (s : StoreValue D) (world ended : WorldValue D) → ScriptRan script old mid new first last s world ended → has_change script ≡ false → HasOnlyRead mid ended new last
idle_run script old mid new first last s world ended r none =
    stays_over (HasOnlyRead mid) (reads_on mid) r.turns (untraced world) ended mid new first last r.chain
    (record {
      tasks = fresh_tasks OnlyReads script world.rows (λ place lane asked t at begins. reads_first script place lane asked t none at begins) r.fresh;
      undoomed = undoomed_first script old mid new first last s world ended r (λ place lane asked at. reads_unpurged asked (changes_none script place lane asked none at));
      idle = idle-begins mid;
      running = r.runs;
    })

-- One that reads no octets counts no failed read.
unread_run : {D : Type 0} → (script : Requests) (old mid new : Option History) (first last : Faults) (s : StoreValue D) (world ended : WorldValue D) → ScriptRan script old mid new first last s world ended → has_mail_read script ≡ false → HasReadNoOctets first ended new last
unread_run script old mid new first last s world ended r none =
    stays_over (HasReadNoOctets first) (unread_on first) r.turns (untraced world) ended mid new first last r.chain
    (record { tasks = fresh_tasks ReadsNoOctets script world.rows (λ place lane asked t at begins. unread_first script place lane asked t none at begins) r.fresh; unread = refl })

-- One that fetches no message counts a failed read only if a reply says so.
calm_run : {D : Type 0} → (script : Requests) (old mid new : Option History) (first last : Faults) (s : StoreValue D) (world ended : WorldValue D) → ScriptRan script old mid new first last s world ended → has_fetch script ≡ false → HasReadAsTold first ended new last
calm_run script old mid new first last s world ended r none =
    stays_over (HasReadAsTold first) (calm_on first) r.turns (untraced world) ended mid new first last r.chain
    (record { tasks = fresh_tasks AnswersReads script world.rows (λ place lane asked t at begins. answers_first script place lane asked t none at begins) r.fresh; calm = λ unread. refl })

-- What it sealed is sealed, and stays.
sealed_since : {D : Type 0} → (script : Requests) (old mid new : Option History) (first last : Faults) (s : StoreValue D) (world ended : WorldValue D) → (r : ScriptRan script old mid new first last s world ended) → (start : Lists) → LogsShowLists s.map (indexes_of s.boxes) start → MayRead script start old
    → HasKeptSealed start script s.map mid ended new last
sealed_since script old mid new first last s world ended r start shows may =
    let run : Run = beginning s.map r.opened.store.entries in
    let from : Seen = before_opening (seen_in s mid first) old in
    let fresh = r.begins start shows may in
    stays_over (HasKeptSealed start script s.map mid) (sealed_on start script s.map mid) r.turns (untraced world) ended mid new first last r.chain
    (sealed_first start script run no_broken from s.map mid (untraced world) first fresh (ap (λ (v : StoreValue _). v.map) r.store_is))

-- So much is known of it at its end.
left_of_run : {D : Type 0} → (script : Requests) (old mid new : Option History) (first last : Faults) (s : StoreValue D) (world ended : WorldValue D) → ScriptRan script old mid new first last s world ended → RunLeft script old mid new first last s ended
left_of_run script old mid new first last s world ended r = record {
  opened = r.opened;
  reads = r.reads;
  reads_last = r.reads_last;
  show = r.show;
  since = λ start shows may.
      let w = ended_world script old mid new first last s world ended r start shows may in
      record {
        added = w.added;
        more = w.more;
        broke = w.broke;
        is = w.is;
        later = w.later;
        refused = w.refused (fresh_tasks MayBeRefused script world.rows (λ place lane asked t at begins. begun_first asked t begins) r.fresh);
      };
  counts = counts_of_run script old mid new first last s world ended r;
  unwritten = λ none none_purges. unwritten_run script old mid new first last s world ended r none none_purges;
  unchanged = λ none. idle_run script old mid new first last s world ended r none;
  unread = λ none. unread_run script old mid new first last s world ended r none;
  calm = λ none. calm_run script old mid new first last s world ended r none;
  sealed = λ start shows may. sealed_since script old mid new first last s world ended r start shows may;
  made_is = subst (λ (n : ℕ). IsMoment mid n) (sym r.same_began) r.made_is;
  many = r.many;
  replied = r.replied;
  idle = r.idle;
  later = r.later;
  law = r.law;
}

-- ---- a setting of flags alone

cause_is : {D : Type 0} → (name : List ℕ) (uid : ℕ) (s : StoreValue D) → s.stopped ≡ false → flag_refusal name uid s ≡ missing_cause (list_named s name) uid
cause_is name uid s running = ap (λ (b : Bool). if b then Some refusal.Stopped else missing_cause (list_named s name) uid) running

answer_by : (cause : Option Refusal) (given : Reply) (S : Type 0) → ((why : Refusal) → cause ≡ Some why → given ≡ reply.Refused why) → (cause ≡ None → (given ≡ reply.Done) ⊎ ((given ≡ reply.Refused refusal.Stopped) × S)) → IsFlagAnswer cause given
answer_by (Some why) given S refused done = refused why refl
answer_by None given S refused done = elim (done refl) [ inl e ↦ inl e | inr e ↦ inr e.0 ]

flag_answer : {D : Type 0} → (name : List ℕ) (uid : Uid) (flags : ℕ) (s t : StoreValue D) (given : Reply) → s.stopped ≡ false → Replies (request.Flag name uid flags) s t given → IsFlagAnswer (missing_cause (list_named s name) uid.0) given
flag_answer name uid flags s t given running r =
    let is = cause_is name uid.0 s running in answer_by (missing_cause (list_named s name) uid.0) given (t.stopped ≡ true) (λ why e. r.0 why (is ∙ e)) (λ e. r.1 (is ∙ e))

-- a script of one request that reads no message, by what its task's events keep
alone_told : {D : Type 0} → (Stands : Task → StoreValue D → Option History → Type 0) (Told : Reply → StoreValue D → Option History → Type 0) (at : ℕ) (asked : Request) (one : Reply) (old mid new : Option History) (first last : Faults) (s : StoreValue D) (world ended : WorldValue D) → ScriptRan ((at, asked) ∷ []) old mid new first last s world ended → ended.replies ≡ Some one ∷ []
    → has_fetch ((at, asked) ∷ []) ≡ false → KeepsAlone Stands Told → ((t : Task) → BeginsTask asked t → Stands t s mid) → Told one ended.store new
alone_told {D} Stands Told at asked one old mid new first last s world ended r are unread keeps begun =
    (stays_over (IsAloneSo (λ t store history faults. Stands t store history) (λ given store history faults. Told given store history) at) (alone_on (λ t store history faults. Stands t store history) (λ given store history faults. Told given store history) at keeps) r.turns (untraced world) ended mid new first last r.chain
    (record {
      one = began.0;
      rows = alone_fresh (λ t. Stands t world.store mid) at asked world.rows (λ t b. subst (λ (v : StoreValue D). Stands t v mid) (sym r.store_is) (begun t b)) r.fresh;
      told = λ given has. let k : Some None ≡ Some (Some given) = sym (began.1 0 (omega arith)) ∙ has in absurd (let n : None ≡ Some given = cc k in cc n);
    })).told one (ap (λ (rs : List (Option Reply)). slice_get rs 0) are)
  where
    began : (length world.replies ≡ 1) × ((i : ℕ) → i < 1 → slice_get world.replies i ≡ Some None)
    began =
        let some = some_lists old s.map (indexes_of s.boxes) r.opened.opened in
        (r.begins some.0 some.1 (λ f. absurd (let k : true ≡ false = sym f ∙ unread in cc k))).going.serving.given

flag_told : {D : Type 0} → (at : ℕ) (name : List ℕ) (uid : Uid) (flags : ℕ) (one : Reply) (old mid new : Option History) (first last : Faults) (s : StoreValue D) (world ended : WorldValue D) → ScriptRan ((at, request.Flag name uid flags) ∷ []) old mid new first last s world ended → ended.replies ≡ Some one ∷ []
    → IsFlagAnswer (missing_cause (list_named s name) uid.0) one
flag_told at name uid flags one old mid new first last s world ended r are =
    let told = alone_told (StandsFlag name uid flags s) (IsFlagTold name uid flags s) at (request.Flag name uid flags) one old mid new first last s world ended r are refl (keeps_flag name uid flags s) (λ t b. (b.is_of, refl)) in
    flag_answer name uid flags s ended.store one r.opened.running told

expunge_told : {D : Type 0} → (at : ℕ) (name : List ℕ) (uid : Uid) (one : Reply) (old mid new : Option History) (first last : Faults) (s : StoreValue D) (world ended : WorldValue D) → ScriptRan ((at, request.Expunge name uid) ∷ []) old mid new first last s world ended → ended.replies ≡ Some one ∷ []
    → IsChangeTold (missing_cause (list_named s name) uid.0) mid one new
expunge_told at name uid one old mid new first last s world ended r are =
    alone_told (StandsExpunge name uid s mid) (λ given store history. IsChangeTold (missing_cause (list_named s name) uid.0) mid given history) at (request.Expunge name uid) one old mid new first last s world ended r are refl (keeps_expunge name uid s mid) (begun_expunge name uid s mid r.opened.running)

delete_told : {D : Type 0} → (at : ℕ) (name : List ℕ) (one : Reply) (old mid new : Option History) (first last : Faults) (s : StoreValue D) (world ended : WorldValue D) → ScriptRan ((at, request.Delete name) ∷ []) old mid new first last s world ended → ended.replies ≡ Some one ∷ []
    → IsChangeTold (deleting_refusal name s) mid one new
delete_told at name one old mid new first last s world ended r are =
    alone_told (StandsDelete name s mid) (λ given store history. IsChangeTold (deleting_refusal name s) mid given history) at (request.Delete name) one old mid new first last s world ended r are refl (keeps_delete name s mid) (begun_delete name s mid r.opened.running)

rename_told : {D : Type 0} → (at : ℕ) (name target : List ℕ) (one : Reply) (old mid new : Option History) (first last : Faults) (s : StoreValue D) (world ended : WorldValue D) → ScriptRan ((at, request.Rename name target) ∷ []) old mid new first last s world ended → ended.replies ≡ Some one ∷ []
    → IsChangeTold (renaming_refusal name target s) mid one new
rename_told at name target one old mid new first last s world ended r are =
    alone_told (StandsRename name target s mid) (λ given store history. IsChangeTold (renaming_refusal name target s) mid given history) at (request.Rename name target) one old mid new first last s world ended r are refl (keeps_rename name target s mid) (begun_rename name target s mid r.opened.running)

words_told : {D : Type 0} → (at : ℕ) (name : List ℕ) (uid : Uid) (words : List (List ℕ)) (one : Reply) (old mid new : Option History) (first last : Faults) (s : StoreValue D) (world ended : WorldValue D) → ScriptRan ((at, request.Keywords name uid words) ∷ []) old mid new first last s world ended → ended.replies ≡ Some one ∷ []
    → IsChangeTold (missing_cause (list_named s name) uid.0) mid one new
words_told at name uid words one old mid new first last s world ended r are =
    subst (λ (o : Option Refusal). IsChangeTold o mid one new) (cause_is name uid.0 s r.opened.running)
    (alone_told (StandsWords name uid words s mid) (λ given store history. IsChangeTold (flag_refusal name uid.0 s) mid given history) at (request.Keywords name uid words) one old mid new first last s world ended r are refl (keeps_words name uid words s mid) (λ t b. (b.is_of, refl, refl)))

copy_told : {D : Type 0} → (at : ℕ) (name : List ℕ) (uid : Uid) (target : List ℕ) (one : Reply) (old mid new : Option History) (first last : Faults) (s : StoreValue D) (world ended : WorldValue D) → ScriptRan ((at, request.Copy name uid target) ∷ []) old mid new first last s world ended → ended.replies ≡ Some one ∷ []
    → IsCopyTold name uid target s mid one ended.store new
copy_told at name uid target one old mid new first last s world ended r are =
    alone_told (StandsCopy name uid target s mid) (IsCopyTold name uid target s mid) at (request.Copy name uid target) one old mid new first last s world ended r are refl (keeps_copy name uid target s mid) (begun_copy name uid target s mid r.opened.running)

move_told : {D : Type 0} → (at : ℕ) (name : List ℕ) (uid : Uid) (target : List ℕ) (one : Reply) (old mid new : Option History) (first last : Faults) (s : StoreValue D) (world ended : WorldValue D) → ScriptRan ((at, request.Move name uid target) ∷ []) old mid new first last s world ended → ended.replies ≡ Some one ∷ []
    → IsMoveTold name uid target s mid one ended.store new
move_told at name uid target one old mid new first last s world ended r are =
    alone_told (StandsMove name uid target s mid) (IsMoveTold name uid target s mid) at (request.Move name uid target) one old mid new first last s world ended r are refl (keeps_move name uid target s mid) (begun_move name uid target s mid r.opened.running)

make_told : {D : Type 0} → (at : ℕ) (name : List ℕ) (one : Reply) (old mid new : Option History) (first last : Faults) (s : StoreValue D) (world ended : WorldValue D) → ScriptRan ((at, request.Make name) ∷ []) old mid new first last s world ended → ended.replies ≡ Some one ∷ []
    → IsMakeTold name s mid one ended.store new
make_told at name one old mid new first last s world ended r are =
    alone_told (StandsMake name s mid) (IsMakeTold name s mid) at (request.Make name) one old mid new first last s world ended r are refl (keeps_make name s mid r.opened.drawn) (begun_make name s mid r.opened.running)

resync_told : {D : Type 0} → (at : ℕ) (one : Reply) (old mid new : Option History) (first last : Faults) (s : StoreValue D) (world ended : WorldValue D) → ScriptRan ((at, request.Resync) ∷ []) old mid new first last s world ended → ended.replies ≡ Some one ∷ []
    → IsResyncTold s mid one ended.store new
resync_told at one old mid new first last s world ended r are =
    alone_told (StandsResync s mid) (IsResyncTold s mid) at request.Resync one old mid new first last s world ended r are refl (keeps_resync s mid r.opened.free) (begun_resync s mid r.opened.running)

purge_told : {D : Type 0} → (at : ℕ) (one : Reply) (old mid new : Option History) (first last : Faults) (s : StoreValue D) (world ended : WorldValue D) → ScriptRan ((at, request.Purge) ∷ []) old mid new first last s world ended → ended.replies ≡ Some one ∷ [] → IsPurgeTold s mid one ended.store new
purge_told at one old mid new first last s world ended r are =
    alone_told (StandsPurge s mid) (IsPurgeTold s mid) at request.Purge one old mid new first last s world ended r are refl (keeps_purge s mid) (begun_purge s mid r.unused r.opened.running)

told_alone : {D : Type 0} → (script : Requests) (old mid new : Option History) (first last : Faults) (s : StoreValue D) (world ended : WorldValue D) → ScriptRan script old mid new first last s world ended → (given : List Reply) → ended.replies ≡ map Some given → IsToldAlone script s.map (indexes_of s.boxes) given
told_alone ((at, request.Flag name uid flags) ∷ []) old mid new first last s world ended r (one ∷ []) are = flag_told at name uid flags one old mid new first last s world ended r are
told_alone ((at, request.Make name) ∷ []) old mid new first last s world ended r (one ∷ []) are = making_cause name s one r.opened.drawn (make_told at name one old mid new first last s world ended r are).given_is
told_alone ((at, request.Delete name) ∷ []) old mid new first last s world ended r (one ∷ []) are = (delete_told at name one old mid new first last s world ended r are).given_is
told_alone ((at, request.Rename name target) ∷ []) old mid new first last s world ended r (one ∷ []) are = (rename_told at name target one old mid new first last s world ended r are).given_is
told_alone ((at, request.Keywords name uid words) ∷ []) old mid new first last s world ended r (one ∷ []) are = (words_told at name uid words one old mid new first last s world ended r are).given_is
told_alone ((at, request.Expunge name uid) ∷ []) old mid new first last s world ended r (one ∷ []) are = (expunge_told at name uid one old mid new first last s world ended r are).given_is
told_alone ((at, request.Copy name uid target) ∷ []) old mid new first last s world ended r (one ∷ []) are = (copy_told at name uid target one old mid new first last s world ended r are).given_is
told_alone ((at, request.Move name uid target) ∷ []) old mid new first last s world ended r (one ∷ []) are = (move_told at name uid target one old mid new first last s world ended r are).given_is
told_alone script old mid new first last s world ended r given are = tt

undone_alone : {D : Type 0} → (script : Requests) (old mid new : Option History) (first last : Faults) (s : StoreValue D) (world ended : WorldValue D) → ScriptRan script old mid new first last s world ended → (given : List Reply) → ended.replies ≡ map Some given → IsUndoneAlone script given → IsIdle mid new
undone_alone ((at, request.Make name) ∷ []) old mid new first last s world ended r (reply.Refused why ∷ []) are runs = (make_told at name (reply.Refused why) old mid new first last s world ended r are).unchanged why refl runs.0 runs.1
undone_alone ((at, request.Delete name) ∷ []) old mid new first last s world ended r (reply.Refused why ∷ []) are running = (delete_told at name (reply.Refused why) old mid new first last s world ended r are).unchanged why refl running
undone_alone ((at, request.Rename name target) ∷ []) old mid new first last s world ended r (reply.Refused why ∷ []) are running = (rename_told at name target (reply.Refused why) old mid new first last s world ended r are).unchanged why refl running
undone_alone ((at, request.Keywords name uid words) ∷ []) old mid new first last s world ended r (reply.Refused why ∷ []) are running = (words_told at name uid words (reply.Refused why) old mid new first last s world ended r are).unchanged why refl running
undone_alone ((at, request.Expunge name uid) ∷ []) old mid new first last s world ended r (reply.Refused why ∷ []) are running = (expunge_told at name uid (reply.Refused why) old mid new first last s world ended r are).unchanged why refl running
undone_alone ((at, request.Copy name uid target) ∷ []) old mid new first last s world ended r (reply.Refused why ∷ []) are runs = (copy_told at name uid target (reply.Refused why) old mid new first last s world ended r are).unchanged why refl runs.0 runs.1
undone_alone ((at, request.Move name uid target) ∷ []) old mid new first last s world ended r (reply.Refused why ∷ []) are runs = (move_told at name uid target (reply.Refused why) old mid new first last s world ended r are).unchanged why refl runs.0 runs.1
undone_alone ((at, request.Resync) ∷ []) old mid new first last s world ended r (reply.Refused why ∷ []) are running = (resync_told at (reply.Refused why) old mid new first last s world ended r are).unchanged why refl running
undone_alone ((at, request.Purge) ∷ []) old mid new first last s world ended r (reply.Refused why ∷ []) are calls = (purge_told at (reply.Refused why) old mid new first last s world ended r are).unchanged why refl calls.0 calls.1
undone_alone script old mid new first last s world ended r given are none = absurd none

alike_alone : {D : Type 0} → (script : Requests) (old mid new : Option History) (first last : Faults) (s : StoreValue D) (world ended : WorldValue D) → ScriptRan script old mid new first last s world ended → (given : List Reply) → ended.replies ≡ map Some given → IsGivenBackAlone script given → MeansAlike s.map (indexes_of s.boxes) ended.store.map (indexes_of ended.store.boxes)
alike_alone ((at, request.Copy name uid target) ∷ []) old mid new first last s world ended r (reply.Refused refusal.NoMemory ∷ []) are back = (copy_told at name uid target (reply.Refused refusal.NoMemory) old mid new first last s world ended r are).alike refl
alike_alone ((at, request.Move name uid target) ∷ []) old mid new first last s world ended r (reply.Refused refusal.NoMemory ∷ []) are back = (move_told at name uid target (reply.Refused refusal.NoMemory) old mid new first last s world ended r are).alike refl
alike_alone script old mid new first last s world ended r given are none = absurd none

made_alone : {D : Type 0} → (script : Requests) (old mid new : Option History) (first last : Faults) (s : StoreValue D) (world ended : WorldValue D) → ScriptRan script old mid new first last s world ended → (given : List Reply) → ended.replies ≡ map Some given → MeansByMake script given s.map (indexes_of s.boxes) ended.store.map (indexes_of ended.store.boxes)
made_alone ((at, request.Make name) ∷ []) old mid new first last s world ended r (reply.Refused refusal.NoMemory ∷ []) are = (make_told at name (reply.Refused refusal.NoMemory) old mid new first last s world ended r are).memory refl
made_alone ((at, request.Make name) ∷ []) old mid new first last s world ended r (reply.Done ∷ []) are = (make_told at name reply.Done old mid new first last s world ended r are).more refl
made_alone script old mid new first last s world ended r given are = tt

resynced_alone : {D : Type 0} → (script : Requests) (old mid new : Option History) (first last : Faults) (s : StoreValue D) (world ended : WorldValue D) → ScriptRan script old mid new first last s world ended → (given : List Reply) → ended.replies ≡ map Some given
    → IsResyncedAlone script given mid s.map (indexes_of s.boxes) ended.store.map (indexes_of ended.store.boxes)
resynced_alone ((at, request.Resync) ∷ []) old mid new first last s world ended r (one ∷ []) are = (resync_told at one old mid new first last s world ended r are).answer
resynced_alone script old mid new first last s world ended r given are = tt

purged_alone : {D : Type 0} → (script : Requests) (old mid new : Option History) (first last : Faults) (s : StoreValue D) (world ended : WorldValue D) → ScriptRan script old mid new first last s world ended → (given : List Reply) → ended.replies ≡ map Some given → IsPurgedAlone script given mid new s.map ended.store.map
purged_alone ((at, request.Purge) ∷ []) old mid new first last s world ended r (one ∷ []) are = (purge_told at one old mid new first last s world ended r are).answer
purged_alone script old mid new first last s world ended r given are = tt

-- a purge refused for lack of numbers or room, by the numbers that the opening found drawn
room_alone : {D : Type 0} → (script : Requests) (old mid new : Option History) (first last : Faults) (s : StoreValue D) (world ended : WorldValue D) → ScriptRan script old mid new first last s world ended → (given : List Reply) → ended.replies ≡ map Some given → IsRefusedRoomAlone script given mid s.map
room_alone ((at, request.Purge) ∷ []) old mid new first last s world ended r (reply.Refused (refusal.StoreFull limit) ∷ []) are =
    subst (λ (drawn : ℕ). LacksRoom s.map drawn mid) (ap (λ (v : FilesValue). v.highest) r.opened.files.is) ((purge_told at (reply.Refused (refusal.StoreFull limit)) old mid new first last s world ended r are).room limit refl)
room_alone script old mid new first last s world ended r given are = tt

unmade_alone : {D : Type 0} → (script : Requests) (old mid new : Option History) (first last : Faults) (s : StoreValue D) (world ended : WorldValue D) → ScriptRan script old mid new first last s world ended → (given : List Reply) → ended.replies ≡ map Some given → IsUnmadeAlone script given → ReadAlike mid new
unmade_alone ((at, request.Make name) ∷ []) old mid new first last s world ended r (reply.Refused why ∷ []) are running = unmade_alike r.opened.swept.0 s old mid new r.opened.swept.1 ((make_told at name (reply.Refused why) old mid new first last s world ended r are).leaves why refl running)
unmade_alone script old mid new first last s world ended r given are none = absurd none

-- It was done, and left the store so.
pub script_done : {D : Type 0} → (script : Requests) (old mid new : Option History) (first last : Faults) (s : StoreValue D) (world ended : WorldValue D) → ScriptRan script old mid new first last s world ended
    → (given : List Reply) × (ended.replies ≡ map Some given) × IsServedOpen script given ended.journal old new first last ended.store
unfolding done_run leaves_run serves_run script_served
script_done script old mid new first last s world ended r =
    let g = all_given ended.replies r.replied in
    let l = left_of_run script old mid new first last s world ended r in (
      g.0,
      g.1,
      record {
        done = done_run script old mid new first last s ended l g.0 g.1;
        comes = record {
          shows = λ lists shows may. (serves_run script old mid new first last s ended l g.0 g.1 lists shows may).1;
          means = λ lists shows may. refl;
          again = λ unstopped. opens_again new ended.store r.later (stopped_by script old mid new first last s ended l g.0 g.1 unstopped);
          reopens = λ lists shows may at. let was = (serves_run script old mid new first last s ended l g.0 g.1 lists shows may).0 in opens_on_left lists was.journal was.broken new r.show (was.reads at);
          alike = alike_alone script old mid new first last s world ended r g.0 g.1;
          made = made_alone script old mid new first last s world ended r g.0 g.1;
          resynced = resynced_alone script old mid new first last s world ended r g.0 g.1;
          purged = purged_alone script old mid new first last s world ended r g.0 g.1;
          room = room_alone script old mid new first last s world ended r g.0 g.1;
        };
        stopped = λ e. replied_by script old mid new first last s ended l g.0 g.1 e;
        told = told_alone script old mid new first last s world ended r g.0 g.1;
        undone = undone_alone script old mid new first last s world ended r g.0 g.1;
        unmade = unmade_alone script old mid new first last s world ended r g.0 g.1;
      },
    )

-- the law of worlds without their turns
abbrev pub AlsoUntraced : (D : Type 0) → Type 0
AlsoUntraced D = (start : Lists) (script : Requests) (run : Run) (steps : List JournalStep) (failed : Broken) (began : Seen) (history : Option History) (faults : Faults) (world : WorldValue D) → IsWorldOf start script run steps failed began history faults world → IsWorldOf start script run steps failed began history faults (untraced world)

-- What a script's run says of the opening, of the world and of its end: so it is done.
pub script_ran : {D : Type 0} → (script : Requests) (lanes : ℕ) (parts : PartsValue) (old mid new : Option History) (first last : Faults) (s : StoreValue D) (world ended : WorldValue D) (turns : List ℕ) → (o : IsStoreOpened old mid s) → IfTold mid ReadsImage → IfTold new ReadsImage → HasNoTask s → LogsShow → ArePartsOf script lanes parts → IsFreshWorld s parts mid world
    → ((start : Lists) → MayRead script start old → LogsShowLists s.map (indexes_of s.boxes) start → (run : Run) → IsAtOpening run s → HasCome run s.map s.drawn (told_calls mid) → IsGoing start script run [] no_broken (unreplied script) (seen_in s mid first) s mid first parts.rows)
    → GoesOnInOrder turns (untraced world) ended mid new first last → (ended.began ≡ world.began) × (length ended.replies ≡ length world.replies) → ((i : ℕ) → i < length ended.replies → (given : Reply) × HasReply ended.replies i given) → AreIdle (lanes_of ended.rows) → IsStore new ended.store → WorldsBegin D → AlsoUntraced D → LanesEnd D → ScriptRan script old mid new first last s world ended
script_ran script lanes parts old mid new first last s world ended turns o reads last_read unused show are begun going goes keeps replied idle later begin unturned law = record {
  opened = o;
  reads = reads;
  reads_last = last_read;
  unused = unused;
  show = show;
  fresh = subst (λ (rows : List LaneRow). AreFreshRows script rows) (sym (ap (λ (w : WorldValue _). w.rows) begun.2)) are.rows;
  store_is = ap (λ (w : WorldValue _). w.store) begun.2;
  runs = ap (λ (w : WorldValue _). w.store.stopped) begun.2 ∙ o.running;
  made_is = subst (λ (n : ℕ). IsMoment mid n) (sym (ap (λ (w : WorldValue _). w.began) begun.2)) begun.1;
  begins = λ start shows may.
      unturned start script (beginning s.map o.store.entries) [] no_broken (before_opening (seen_in s mid first) old) mid first world
      (begins_from start script lanes parts old mid first s o world begin (going start may shows (beginning s.map o.store.entries) (at_opening old mid s o) (first_come old mid (told_calls mid) s o)) are shows may begun);
  turns = turns;
  chain = goes;
  same_began = keeps.0;
  many = keeps.1 ∙ (ap (λ (w : WorldValue _). length w.replies) begun.2 ∙ (length_replicate parts.requests ∙ are.requests));
  replied = replied;
  idle = idle;
  later = later;
  law = law;
}
  where
    length_replicate : (n : ℕ) → length {A = Option Reply} (replicate n None) ≡ n
    length_replicate zero = refl
    length_replicate (suc n) = ap suc (length_replicate n)

-- ---- from a script that was opened

-- the law of what events keep of a world, in whatever order
abbrev pub OrderKeeps : (D : Type 0) → Type 0
OrderKeeps D = (lanes : List ℕ) (old new : WorldValue D) (before after : Option History) (first second : Faults) → GoesOnInOrder lanes old new before after first second → KeepsWorld old new before after first second

went_keeps : {D : Type 0} → (history : D → Option History) (faults : D → Faults) (first last : WorldValue D) → OrderKeeps D → WentOn history faults first last → KeepsWorld (untraced first) (untraced last) (history first.store.disk) (history last.store.disk) (faults first.store.disk) (faults last.store.disk)
went_keeps history faults first last law went = law went.0 (untraced first) (untraced last) (history first.store.disk) (history last.store.disk) (faults first.store.disk) (faults last.store.disk) went.1

-- It has no requests but those with which it began.
pub all_scripted : {D : Type 0} → (history : D → Option History) (faults : D → Faults) (script : Requests) (lanes : ℕ) (old : Option History) (began : Faults) (world ended : WorldValue D) → IsScriptOpened history faults script lanes old began world → OrderKeeps D → WentOn history faults world ended → ended.scripted ≡ length ended.replies
all_scripted history faults script lanes old began world ended o law went =
    let kept = went_keeps history faults world ended law went in
    kept.scripted ∙ (ap (λ (w : WorldValue _). w.scripted) o.begins.2 ∙ (sym (length-replicate o.parts.requests None) ∙ sym (kept.requests ∙ ap (λ (w : WorldValue _). length w.replies) o.begins.2)))

-- the events began where the store was open
pub went_from : {D : Type 0} → (history : D → Option History) (faults : D → Faults) (script : Requests) (lanes : ℕ) (old : Option History) (began : Faults) (world ended : WorldValue D) → (o : IsScriptOpened history faults script lanes old began world) → (went : WentOn history faults world ended)
    → GoesOnInOrder went.0 (untraced world) (untraced ended) (history o.store.disk) (history ended.store.disk) began (faults ended.store.disk)
went_from {D} history faults script lanes old began world ended o went =
    subst (λ (f : Faults). GoesOnInOrder went.0 (untraced world) (untraced ended) (history o.store.disk) (history ended.store.disk) f (faults ended.store.disk)) o.unfailed
    (subst (λ (t : StoreValue D). GoesOnInOrder went.0 (untraced world) (untraced ended) (history t.disk) (history ended.store.disk) (faults t.disk) (faults ended.store.disk)) (ap (λ (w : WorldValue D). w.store) o.begins.2) went.1)

-- So its replies are given, and it is done.
pub run_done : {D : Type 0} → (history : D → Option History) (faults : D → Faults) (script : Requests) (lanes : ℕ) (old : Option History) (began : Faults) (world ended : WorldValue D) → ((disk : D) → IfTold (history disk) ReadsImage) → LogsShow → LanesBegin D → WorldsBegin D → LanesEnd D → OrderKeeps D → AlsoUntraced D
    → IsScriptOpened history faults script lanes old began world → WentOn history faults world ended → ((i : ℕ) → i < length ended.replies → (given : Reply) × HasReply ended.replies i given) → AreIdle (lanes_of ended.rows) → IsStore (history ended.store.disk) ended.store
    → (given : List Reply) × (ended.replies ≡ map Some given) × IsServedOpen script given ended.journal old (history ended.store.disk) began (faults ended.store.disk) ended.store
run_done {D} history faults script lanes old began world ended reads show begin world_begin end law unturned o went replied idle later =
    let kept = went_keeps history faults world ended law went in
    script_done script old (history s.disk) (history ended.store.disk) began (faults ended.store.disk) s world (untraced ended)
    (script_ran script lanes o.parts old (history s.disk) (history ended.store.disk) began (faults ended.store.disk) s world (untraced ended) went.0 o.opened (reads s.disk) (reads ended.store.disk) o.unclaimed show o.are o.begins going (went_from history faults script lanes old began world ended o went) (kept.began, kept.requests) replied idle later world_begin unturned end)
  where
    s : StoreValue D
    s = o.store

    going : (start : Lists) → MayRead script start old → LogsShowLists s.map (indexes_of s.boxes) start → (run : Run) → IsAtOpening run s → HasCome run s.map s.drawn (told_calls (history s.disk)) → IsGoing start script run [] no_broken (unreplied script) (seen_in s (history s.disk) began) s (history s.disk) began o.parts.rows
    going start may shows run at come =
        let p = o.opened in
        begin start script run o.parts.rows s (history s.disk) began at come o.unclaimed p.running shows (λ settled. named_all_firm s (history s.disk) start p.store p.known p.running (reads s.disk) p.instances.only settled) o.are.rows (of_lanes script lanes o.parts.rows o.are.many o.of_lanes) (subst (λ (n : ℕ). n ≤ 64) (sym o.are.many) o.few)
        (λ place lane name uid there. elim (may (fetches script place lane name uid there)) [ inl settled ↦ inl (p.settled_again start settled) | inr one ↦ inr (one.0, λ none. carried_safe start old (history s.disk) p.carried one.1) ])

-- what a world is taken apart into
abbrev pub EndedParts : Type 0 → Type 0
EndedParts D = StoreValue D × List (Option Reply) × List JournalEntry × List JournalEntry

-- It is handed out so.
pub handed_out : {D : Type 0} → (history : D → Option History) (faults : D → Faults) (script : Requests) (old : Option History) (began : Faults) (ended : WorldValue D) (parts : EndedParts D) → parts ≡ (ended.store, ended.replies, ended.journal, ended.broken)
    → (given : List Reply) × (ended.replies ≡ map Some given) × IsServedOpen script given ended.journal old (history ended.store.disk) began (faults ended.store.disk) ended.store
    → (given : List Reply) × (parts.1 ≡ map Some given) × IsServedOpen script given parts.2 old (history parts.0.disk) began (faults parts.0.disk) parts.0
handed_out {D} history faults script old began ended parts are done =
    subst (λ (p : EndedParts D). (given : List Reply) × (p.1 ≡ map Some given) × IsServedOpen script given p.2 old (history p.0.disk) began (faults p.0.disk) p.0) (sym are) done

-- It is handed back with the disk of its store.
pub handed_back : {D : Type 0} → (history : D → Option History) (faults : D → Faults) (script : Requests) (replies : List (Option Reply)) (entries : List JournalEntry) (old : Option History) (began : Faults) (store : StoreValue D) (disk : D) → disk ≡ store.disk
    → (given : List Reply) × (replies ≡ map Some given) × IsServedOpen script given entries old (history store.disk) began (faults store.disk) store
    → (given : List Reply) × (replies ≡ map Some given) × IsScriptDone script given entries old (history disk) began (faults disk)
handed_back {D} history faults script replies entries old began store disk is served =
    (served.0, served.1, subst (λ (d : D). IsScriptDone script served.0 entries old (history d) began (faults d)) (sym is) served.2.done)
