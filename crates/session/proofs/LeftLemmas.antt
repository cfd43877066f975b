-- What a session's requests, and the events that finish the last one, leave of the world that began with the opening.
use Rattle.std.specs.Prelude.{◌<◌, ◌≤◌, All, length}
use Rattle.std.proofs.Common.{◌≡◌, ◌++◌, ℕ, true, false, List, [], ◌∷◌, Option, Some, None, refl, sym, subst, arith, inl, inr}
use Rattle.std.proofs.lemmas.List.{append_assoc}
use Rattle.std.proofs.lemmas.List.Elements.{All-append, All-cons, All-head, All-nil, All-tail, All-weaker}
use Rattle.disk_model.specs.Disk.{Faults, History, IfTold, IsMoment, told_calls}
use Rattle.disk_model.proofs.IdleLemmas.{idle-begins, idle-then}
use Rattle.mdbox_base.specs.declared.replies.Reply.{Reply}
use Rattle.mdbox_base.specs.declared.requests.Request.{Request}
use Rattle.model_kept.proofs.KeptLemmas.{ReadsImage, kept_begins}
use Rattle.model_lists.specs.Lists.{Lists}
use Rattle.model_meaning.specs.MapMeaning.{MapMeaning, is_sealed}
use Rattle.list_machine.specs.Run.{Run, RunEvent, map_of}
use Rattle.journal.specs.Journal.{HasReply, Requests, no_broken}
use Rattle.serving.specs.Serving.{AreIdle}
use Rattle.serving.specs.Turns.{LaneTurn}
use Rattle.store_core.specs.Running.{IsStore}
use Rattle.store_core.specs.Value.{indexes_of}
use Rattle.task_steps.proofs.UnmovedLemmas.{mail_still}
use Rattle.task_steps.specs.Step.{Seen}
use Rattle.mail_fetch.specs.Task.{seen_in}
use Rattle.lane_tasks.specs.Clause.{AnswersReads, DoomsNone, OnlyReads, ReadsNoOctets}
use Rattle.lane_tasks.specs.declared.task.Task.{Task}
use Rattle.lanes.specs.Asked.{GoesWith, HasNoIdleTurn, asked_in}
use Rattle.lanes.specs.Going.{AreFreshRows}
use Rattle.lanes.specs.Rows.{lanes_of}
use Rattle.lanes.specs.Turned.{GoesOnInOrder}
use Rattle.lanes.specs.Worlds.{GoesOnBy, IsWorldOf, WorldValue, and_events}
use Rattle.lanes.proofs.RoundLemmas.{in_order}
use Rattle.lanes.proofs.TraceLemmas.{as_finished, world_finished}
use Rattle.script_run.specs.Done.{MayRead}
use Rattle.script_run.specs.Opening.{LogsShowLists}
use Rattle.script_run.specs.OpenScript.{IsStoreOpened}
use Rattle.script_run.specs.Script.{IsRefusedAtOnce, has_change, has_delivery, has_fetch, has_mail_read, has_purge}
use Rattle.script_run.proofs.ChainLemmas.{AllTasks, HasCounted, HasDoomedNone, HasOnlyRead, HasReadAsTold, HasReadNoOctets, HasWrittenNone, WritesNoMail, calm_on, counted_first, counted_on, reads_on, stays_over, syncs_first, unread_on, unwritten_on}
use Rattle.script_run.proofs.DoneLemmas.{LanesEnd, RunLeft, RunSince}
use Rattle.script_run.proofs.OpenedLemmas.{none_doomed}
use Rattle.script_run.proofs.RunBeginsLemmas.{before_opening, beginning}
use Rattle.script_run.proofs.SealedLemmas.{HasKeptSealed, sealed_on, sealed_only}
use Rattle.script_run.proofs.ShownLemmas.{LogsShow, carried_safe}
use Rattle.script_run.proofs.SinceLemmas.{MayBeRefused, answers_first, changes_none, dooms_first, fresh_tasks, reads_first, reads_unpurged, served_since, unpurged, unread_first, unwritten_first}
use Rattle.session.proofs.ChainLemmas.{Finds, calm_asked, counted_asked, reads_asked, served_with, stays_with, unread_asked, unwritten_asked}

-- What is known of a session's run: the opening, the world that began then, without a request, what was asked of it and its events, and
-- the events that finished it.
pub record SessionRan {D : Type 0} (history : D → Option History) (faults : D → Faults) (script : Requests) (old : Option History) (world mid ended : WorldValue D) : Type 0 where
  pub opened : IsStoreOpened old (history world.store.disk) world.store
  pub reads : IfTold (history world.store.disk) ReadsImage
  pub reads_last : IfTold (history ended.store.disk) ReadsImage
  pub show : LogsShow
  pub fresh : AreFreshRows [] world.rows
  pub unturned : world.turns ≡ []
  pub made_is : IsMoment (history world.store.disk) world.began
  pub begins : (start : Lists) → LogsShowLists world.store.map (indexes_of world.store.boxes) start
      → IsWorldOf start [] (beginning world.store.map opened.store.entries) [] no_broken (before_opening (seen_in world.store (history world.store.disk) (faults world.store.disk)) old) (history world.store.disk) (faults world.store.disk) world
  pub moves : List (ℕ × Option Request)
  pub script_is : script ≡ asked_in moves
  pub goes : GoesWith history faults moves world mid
  pub turns : List ℕ
  pub ends : GoesOnBy turns mid ended (history mid.store.disk) (history ended.store.disk) (faults mid.store.disk) (faults ended.store.disk)
  pub same_began : ended.began ≡ world.began
  pub many : length ended.replies ≡ length script
  pub replied : (i : ℕ) → i < length ended.replies → (given : Reply) × HasReply ended.replies i given
  pub idle : AreIdle (lanes_of ended.rows)
  pub later : IsStore (history ended.store.disk) ended.store
  pub law : LanesEnd D

left_all : {X : Type 0} → (P : X → Type 0) (xs ys : List X) → All P (xs ++ ys) → All P xs
left_all P [] ys all = All-nil P
left_all P (x ∷ xs) ys all = All-cons P x xs (All-head P x (xs ++ ys) all) (left_all P xs ys (All-tail P x (xs ++ ys) all))

right_all : {X : Type 0} → (P : X → Type 0) (xs ys : List X) → All P (xs ++ ys) → All P ys
right_all P [] ys all = all
right_all P (x ∷ xs) ys all = right_all P xs ys (All-tail P x (xs ++ ys) all)

module _ {D : Type 0} (history : D → Option History) (faults : D → Faults) (script : Requests) (old : Option History) (world mid ended : WorldValue D) (r : SessionRan history faults script old world mid ended) where
  -- the disk as the world began, as the last request was asked and its events were made, and at the end
  abbrev opened_disk : Option History
  opened_disk = history world.store.disk

  abbrev asked_disk : Option History
  asked_disk = history mid.store.disk

  abbrev left_disk : Option History
  left_disk = history ended.store.disk

  abbrev opened_faults : Faults
  opened_faults = faults world.store.disk

  abbrev asked_faults : Faults
  asked_faults = faults mid.store.disk

  abbrev left_faults : Faults
  left_faults = faults ended.store.disk

  -- the events that finished it
  chain : GoesOnInOrder r.turns (as_finished mid) ended asked_disk left_disk asked_faults left_faults
  chain = in_order 0 r.turns (as_finished mid) ended asked_disk left_disk asked_faults left_faults r.ends

  -- the tasks of a world without a request
  no_tasks : (Holds : Task → Type 0) → AllTasks Holds world.rows
  no_tasks Holds = fresh_tasks Holds [] world.rows (λ place lane asked t at begins. absurd (let k : None ≡ Some (lane, asked) = at in cc k)) r.fresh

  not_busy : HasNoIdleTurn world
  not_busy = subst (λ (ts : List LaneTurn). All (λ turn. turn.idle ≡ false) ts) (sym r.unturned) (All-nil (λ (turn : LaneTurn). turn.idle ≡ false))

  counted_then : HasCounted opened_disk opened_faults mid asked_disk asked_faults
  counted_then = stays_with history faults script (HasCounted opened_disk opened_faults) (counted_on opened_disk opened_faults) (counted_asked script opened_disk opened_faults) [] r.moves world mid r.script_is r.goes (counted_first world opened_disk opened_faults r.opened.running)

  counted_last : HasCounted opened_disk opened_faults ended left_disk left_faults
  counted_last = stays_over (HasCounted opened_disk opened_faults) (counted_on opened_disk opened_faults) r.turns (as_finished mid) ended asked_disk left_disk asked_faults left_faults chain (record { grows = counted_then.grows; reads = counted_then.reads; changes = counted_then.changes; unchanged = counted_then.unchanged; replied = counted_then.replied })

  since_run : (start : Lists) → LogsShowLists world.store.map (indexes_of world.store.boxes) start → MayRead script start old
      → RunSince start script (beginning world.store.map r.opened.store.entries) (before_opening (seen_in world.store opened_disk opened_faults) old) ended opened_disk left_disk left_faults
  since_run start shows may =
      let run : Run = beginning world.store.map r.opened.store.entries in
      let from : Seen = before_opening (seen_in world.store opened_disk opened_faults) old in
      let finds : Finds history faults start script from run opened_disk = λ some. elim (may some) [ inl settled ↦ inl settled | inr one ↦ inr (one.0, λ none. carried_safe start old opened_disk r.opened.carried one.1) ] in
      let w = served_with history faults start script from [] r.moves world mid run [] no_broken r.script_is r.goes finds not_busy (r.begins start shows) in
      let e = served_since r.turns (as_finished mid) ended asked_disk left_disk asked_faults left_faults chain start script (and_events run w.added) w.more w.broke from (world_finished start script (and_events run w.added) w.more w.broke from asked_disk asked_faults mid w.is) in
      let grown = counted_then.grows in
      record {
        added = w.added ++ e.added;
        more = w.more ++ e.more;
        broke = e.broke;
        is = subst (λ (es : List RunEvent). IsWorldOf start script (record run { events = es }) (w.more ++ e.more) e.broke from left_disk left_faults ended) (append_assoc run.events w.added e.added) e.is;
        later =
            All-append (λ (event : RunEvent). told_calls opened_disk ≤ event.moment) w.added e.added w.later
            (All-weaker (λ (event : RunEvent). told_calls asked_disk ≤ event.moment) (λ (event : RunEvent). told_calls opened_disk ≤ event.moment) (λ event at. omega (arith, at, grown)) e.added e.later);
        refused = λ all.
            let early = w.refused (no_tasks MayBeRefused) (left_all IsRefusedAtOnce w.added e.added all) in
            idle-then opened_disk asked_disk left_disk early.0 (e.refused early.1 (right_all IsRefusedAtOnce w.added e.added all));
      }

  -- in the store that was opened no file is doomed
  none_doomed_first : HasDoomedNone world
  none_doomed_first = record { tasks = no_tasks DoomsNone; files = λ runs file. none_doomed world.store old r.opened.files file }

  unwritten_last : has_delivery script ≡ false → has_purge script ≡ false → HasWrittenNone opened_disk ended left_disk left_faults
  unwritten_last none none_purges =
      let w =
      stays_with history faults script (HasWrittenNone opened_disk) (unwritten_on opened_disk)
      (unwritten_asked script opened_disk (λ place lane asked t there b. (unwritten_first script place lane asked t none none_purges there b, dooms_first asked t (unpurged script place lane asked none_purges there) b))) [] r.moves world mid r.script_is r.goes
      (record { tasks = no_tasks WritesNoMail; undoomed = none_doomed_first; synced = λ runs. syncs_first opened_disk; kept = λ m. mail_still m opened_disk }) in
      stays_over (HasWrittenNone opened_disk) (unwritten_on opened_disk) r.turns (as_finished mid) ended asked_disk left_disk asked_faults left_faults chain (record { tasks = w.tasks; undoomed = record { tasks = w.undoomed.tasks; files = w.undoomed.files }; synced = w.synced; kept = w.kept })

  read_last : has_change script ≡ false → HasOnlyRead opened_disk ended left_disk left_faults
  read_last none =
      let w =
      stays_with history faults script (HasOnlyRead opened_disk) (reads_on opened_disk)
      (reads_asked script opened_disk (λ place lane asked t there b. (reads_first script place lane asked t none there b, dooms_first asked t (reads_unpurged asked (changes_none script place lane asked none there)) b))) [] r.moves world mid r.script_is r.goes
      (record { tasks = no_tasks OnlyReads; undoomed = none_doomed_first; idle = idle-begins opened_disk; running = r.opened.running }) in
      stays_over (HasOnlyRead opened_disk) (reads_on opened_disk) r.turns (as_finished mid) ended asked_disk left_disk asked_faults left_faults chain (record { tasks = w.tasks; undoomed = record { tasks = w.undoomed.tasks; files = w.undoomed.files }; idle = w.idle; running = w.running })

  unread_last : has_mail_read script ≡ false → HasReadNoOctets opened_faults ended left_disk left_faults
  unread_last none =
      let w =
      stays_with history faults script (HasReadNoOctets opened_faults) (unread_on opened_faults) (unread_asked script opened_faults (λ place lane asked t there b. unread_first script place lane asked t none there b)) [] r.moves world mid r.script_is r.goes
      (record { tasks = no_tasks ReadsNoOctets; unread = refl }) in
      stays_over (HasReadNoOctets opened_faults) (unread_on opened_faults) r.turns (as_finished mid) ended asked_disk left_disk asked_faults left_faults chain (record { tasks = w.tasks; unread = w.unread })

  calm_last : has_fetch script ≡ false → HasReadAsTold opened_faults ended left_disk left_faults
  calm_last none =
      let w =
      stays_with history faults script (HasReadAsTold opened_faults) (calm_on opened_faults) (calm_asked script opened_faults (λ place lane asked t there b. answers_first script place lane asked t none there b)) [] r.moves world mid r.script_is r.goes
      (record { tasks = no_tasks AnswersReads; calm = λ unread. refl }) in
      stays_over (HasReadAsTold opened_faults) (calm_on opened_faults) r.turns (as_finished mid) ended asked_disk left_disk asked_faults left_faults chain (record { tasks = w.tasks; calm = w.calm })

  sealed_last : (start : Lists) → LogsShowLists world.store.map (indexes_of world.store.boxes) start → MayRead script start old → HasKeptSealed start script world.store.map opened_disk ended left_disk left_faults
  sealed_last start shows may =
      let run : Run = beginning world.store.map r.opened.store.entries in
      let from : Seen = before_opening (seen_in world.store opened_disk opened_faults) old in
      let finds : Finds history faults start script from run opened_disk = λ some. elim (may some) [ inl settled ↦ inl settled | inr one ↦ inr (one.0, λ none. carried_safe start old opened_disk r.opened.carried one.1) ] in
      let w = served_with history faults start script from [] r.moves world mid run [] no_broken r.script_is r.goes finds not_busy (r.begins start shows) in
      let come : map_of run ≡ world.store.map = (r.begins start shows).going.serving.serves.come.come.map_is in
      let kept = w.sealed world.store.map opened_disk (λ number is. subst (λ (n : MapMeaning). is_sealed n number ≡ true) (sym come) is) (kept_begins (sealed_only world.store.map) opened_disk) in
      stays_over (HasKeptSealed start script world.store.map opened_disk) (sealed_on start script world.store.map opened_disk) r.turns (as_finished mid) ended asked_disk left_disk asked_faults left_faults chain
      (record {
        run = and_events run w.added;
        steps = w.more;
        failed = w.broke;
        began = from;
        is = world_finished start script (and_events run w.added) w.more w.broke from asked_disk asked_faults mid w.is;
        sealed = kept.0;
        kept = kept.1;
      })

  -- So much is known of it at its end.
  pub left_of_session : RunLeft script old opened_disk left_disk opened_faults left_faults world.store ended
  left_of_session = record {
    opened = r.opened;
    reads = r.reads;
    reads_last = r.reads_last;
    show = r.show;
    since = since_run;
    counts = counted_last;
    unwritten = unwritten_last;
    unchanged = read_last;
    unread = unread_last;
    calm = calm_last;
    sealed = λ start shows may. sealed_last start shows may;
    made_is = subst (λ (n : ℕ). IsMoment opened_disk n) (sym r.same_began) r.made_is;
    many = r.many;
    replied = r.replied;
    idle = r.idle;
    later = r.later;
    law = r.law;
  }
