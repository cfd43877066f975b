-- A script that lanes have served to its end, from the disk as it was before the store was opened.
use Rattle.std.specs.Prelude.{◌≡◌, ◌<◌, ℕ, suc, false, true, List, [], ◌∷◌, All, length, map, slice_get, Option, Some, None}
use Rattle.std.proofs.Common.{refl, sym, ◌∙◌, ap, subst, arith}
use Rattle.std.proofs.lemmas.List.Elements.{All-cons, All-nil}
use Rattle.disk_model.specs.Disk.{History, Faults, EachImage, IfTold, IsIdle}
use Rattle.disk_model.proofs.MomentLemmas.{each_image-map}
use Rattle.mdbox_base.specs.declared.replies.Reply.{Reply}
use Rattle.mdbox_base.specs.declared.script.JournalEntry.{JournalEntry}
use Rattle.model_kept.specs.Kept.{MailIsKept}
use Rattle.model_kept.proofs.KeptLemmas.{ReadsImage}
use Rattle.model_lists.specs.Lists.{Lists}
use Rattle.model_meaning.specs.MapMeaning.{MapMeaning, map_meaning}
use Rattle.model_store.specs.Opening.{Opens}
use Rattle.model_store.specs.Safe.{Safe}
use Rattle.model_store.specs.Settled.{files_of, IsSettledFor}
use Rattle.list_machine.specs.Run.{Run}
use Rattle.journal.specs.Journal.{Broken, HasReply, JournalStep, Requests, left_by, moment_of, no_broken, refusal_in}
use Rattle.journal.specs.Makes.{StaysStopped}
use Rattle.journal.proofs.ReachedLemmas.{reached_last}
use Rattle.store_core.specs.Running.{IsStore}
use Rattle.store_core.specs.Value.{StoreValue, indexes_of}
use Rattle.task_steps.specs.Serves.{IsReached, Serves}
use Rattle.task_steps.specs.Step.{Seen}
use Rattle.task_steps.proofs.OneEventLemmas.{not_true}
use Rattle.mail_fetch.specs.Task.{seen_in}
use Rattle.lanes.specs.Going.{IsGoing, TellsDamage}
use Rattle.lanes.specs.Rows.{LaneRow}
use Rattle.lanes.specs.Worlds.{AreEntriesAt}
use Rattle.script_run.specs.Opening.{LogsShowLists, RunBegins}
use Rattle.script_run.specs.Script.{HasStopped, IsMadeBefore, IsRefusedAtOnce, ServesScript}
use Rattle.script_run.proofs.EndImageLemmas.{reached_in_the_end}
use Rattle.script_run.proofs.RunBeginsLemmas.{before_opening, first_map, run_ends}
use Rattle.script_run.proofs.ShownLemmas.{opens_again}

-- ---- it begins

-- No event has happened since the opening: of a disk that was settled before it, each crash image since is safe for the lists.
pub serves_from : (start : Lists) (script : Requests) (run : Run) (replies : List (Option Reply)) (seen : Seen) (old : Option History) → run.events ≡ [] → Serves start script run [] no_broken replies seen seen
    → (IsSettledFor start old → EachImage (λ _ image. Safe image start) old seen.history) → (IsSettledFor start old → IsSettledFor start seen.history) → MailIsKept seen.map old seen.history
    → Serves start script run [] no_broken replies (before_opening seen old) seen
serves_from start script run replies seen old empty s safe settled mail = record {
  legal = s.legal;
  begins = s.begins;
  come = s.come;
  shown = s.shown;
  within = s.within;
  broken_is = s.broken_is;
  of_failure = s.of_failure;
  crash = λ at. each_image-map (λ _ image. Safe image start) (IsReached start run [] no_broken) old seen.history (λ moment image is. (start, reached_last start run [] no_broken moment, is)) (safe at);
  timely = λ at n event state e. absurd (let k : None ≡ Some event = sym (ap (λ (es : List _). slice_get es n) empty ∙ none n) ∙ e in cc k);
  unbroken = s.unbroken;
  stopped_by = s.stopped_by;
  unrefused = s.unrefused;
  settled = λ e at. settled at;
  firm = λ e at. s.firm e (settled at);
  mail = λ none. mail;
  reads = s.reads;
  changes = s.changes;
  fell = s.fell;
  halted = s.halted;
}
  where
    none : {X : Type 0} → (n : ℕ) → slice_get {X = X} [] n ≡ None
    none n = refl

-- ---- every request has its reply

-- replies that are all there
pub all_given : (replies : List (Option Reply)) → ((i : ℕ) → i < length replies → (given : Reply) × HasReply replies i given) → (given : List Reply) × (replies ≡ map Some given)
all_given [] each = ([], refl)
all_given (first ∷ rest) each =
    let h = each 0 (omega arith) in
    let t = all_given rest (λ i l. each (suc i) (omega (arith, l))) in
    let is : first ≡ Some h.0 = cc h.1 in
    (h.0 ∷ t.0, ap (λ (o : Option Reply). o ∷ rest) is ∙ ap (λ (rs : List (Option Reply)). Some h.0 ∷ rs) t.1)

-- no reply says that a message is damaged
pub unharmed : (given : List Reply) → ((i : ℕ) (one : Reply) → HasReply (map Some given) i one → TellsDamage (refusal_in one) → ⊥) → All (λ one. TellsDamage (refusal_in one) → ⊥) given
unharmed [] none = All-nil (λ (one : Reply). TellsDamage (refusal_in one) → ⊥)
unharmed (one ∷ rest) none = All-cons (λ (x : Reply). TellsDamage (refusal_in x) → ⊥) one rest (none 0 one refl) (unharmed rest (λ i x at. none (suc i) x at))

-- ---- it ends

-- The script was served: its lanes have come to their end, the store is stopped only if a reply says so, and the entries are the
-- journal's. The store shows what the journal leaves.
unfoldable pub script_served : {D : Type 0} → (start : Lists) (script : Requests) (run : Run) (journal : List JournalStep) (broken : Broken) (given : List Reply) (entries : List JournalEntry) (began : Seen) (made : ℕ) (store : StoreValue D) (opened history : Option History) (faults : Faults) (rows : List LaneRow)
    → IsGoing start script run journal broken (map Some given) began store history faults rows → StaysStopped run.events → IsStore history store → IfTold history ReadsImage → began.drawn ≡ began.map.highest → RunBegins run began.history → (store.stopped ≡ true → HasStopped given) → IsMadeBefore opened made run → AreEntriesAt history made (moment_of run) journal entries
    → (All IsRefusedAtOnce run.events → IsIdle opened history)
    → (was : ServesScript script start given entries began.faults faults began.history opened history) × LogsShowLists store.map (indexes_of store.boxes) (left_by start was.journal)
script_served {D} start script run journal broken given entries began made store opened history faults rows g stays k reads drawn begins stopped made_is are refused = (
  record {
    run = run;
    journal = journal;
    broken = broken;
    m = store.map;
    drawn = store.drawn;
    made = made;
    begins = begins;
    ends = λ unstopped. run_ends run store.map history k.entries k.logs (subst (λ (id : List ℕ). IfTold history (λ disk. Opens (files_of disk) id k.entries k.logs)) same (k.running (runs unstopped)).opens)
        (k.map_is ∙ ap (λ (id : List ℕ). map_meaning id k.entries) same);
    shows = λ unstopped. (indexes_of store.boxes, opens_again history store k (runs unstopped), s.shown);
    served = record {
      around = g.serving.follows.around;
      after = g.serving.follows.after;
      begins = first_map run began.map began.drawn s.begins drawn;
      next = g.serving.follows.next;
      found = g.serving.follows.found;
      told = g.serving.told;
      given = g.serving.given;
      legal = s.legal;
      broken_is = s.broken_is;
      of_failure = s.of_failure;
      would = g.serving.would;
      stays_stopped = stays;
      come = s.come.come;
    };
    crash = s.crash;
    reads = λ at. reached_in_the_end start run journal broken began.history history reads s.come.come.moments (s.crash at) at;
    timely = s.timely;
    settled = λ unstopped. s.settled (runs unstopped);
    made_is = made_is;
    entries_are = are;
    refused = refused;
  },
  s.shown,
)
  where
    s : Serves start script run journal broken (map Some given) began (seen_in store history faults)
    s = g.serving.serves

    runs : (HasStopped given → ⊥) → store.stopped ≡ false
    runs unstopped = not_true store.stopped (λ e. unstopped (stopped e))

    same : store.map.store ≡ run.store
    same = sym (ap (λ (m : MapMeaning). m.store) s.come.come.map_is)
