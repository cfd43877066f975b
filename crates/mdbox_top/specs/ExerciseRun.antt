-- How `exercise` ends.
use Rattle.std.specs.Prelude.{◌≡◌, ◌≢◌, ◌⊎◌, ◌+◌, ℕ, true, All, List, length, map, sum_by, Option, Some}
use Rattle.std.specs.List.{list_any}
use Rattle.disk_model.specs.Disk.{History, Faults}
use Rattle.disk_model.specs.FaultCounts.{AnyFaultCounted, NoFault}
use Rattle.exercise_course.specs.Hindered.{is_ok}
use Rattle.exercise_course.specs.InOrder.{deliveries_in, lists_in_order, message_total, octet_total}
use Rattle.mdbox_base.specs.declared.replies.Reply.{Reply}
use Rattle.mdbox_base.specs.declared.script.JournalEntry.{JournalEntry}
use Rattle.mdbox_base.specs.declared.script.Script.{Script}
use Rattle.model_lists.specs.Lists.{Lists}
use Rattle.model_meaning.specs.BoxMeaning.{BoxMeaning}
use Rattle.model_meaning.specs.MapMeaning.{MapMeaning}
use Rattle.journal.specs.Journal.{Requests}
use Rattle.mdbox_base.specs.Words.{count_different}
use Rattle.mail_ops.specs.Counting.{named_ids}
use Rattle.request_text.specs.Outcomes.{is_disk_no}
use Rattle.request_text.specs.declared.outcome.Outcome.{Outcome}
use Rattle.request_text.specs.declared.outcome.Outcome.TheVariants as outcome
use Rattle.script_run.specs.Done.{IsScriptDone}
use Rattle.script_run.specs.LeftOpen.{ComesTo}
use Rattle.script_run.specs.Worked.{IsWorkedOut}
use Rattle.script_text.specs.MadeScript.{made_script}
use Rattle.mdbox_top.specs.BatchRun.{OpenedOutcome, ScriptMoments, ScriptRests, ShowsReplies}
use Rattle.mdbox_top.specs.Numbers.{exercise_text, messages_listed, octets_listed}

-- The store was opened and the script done, and the numbers are printed of its replies and of what the logs mean to which it came. It
-- ends as a fault of the disk whenever a reply says that the disk failed, and only if a call of it failed; with any other end none failed.
pub record IsCountedUp (D : Type 0) (script : Script) (held later : Option (List ℕ)) (old new : Option History) (began now : Faults) (ended : Outcome) : Type 0 where
  pub given : List Reply
  pub journal : List JournalEntry
  pub done : IsScriptDone script.requests given journal old new began now
  pub worked : IsWorkedOut D script.requests script.lanes (map Some given) journal old new began now
  pub m : MapMeaning
  pub meanings : List BoxMeaning
  pub comes : ComesTo script.requests given journal old new began now done m meanings
  pub printed : ShowsReplies (exercise_text (map Some given) m meanings) (map Some given) held later ended
  pub told : list_any is_disk_no (map Some given) ≡ true → ended ≡ outcome.DiskFault
  pub fault : AnyFaultCounted (ended ≡ outcome.DiskFault) began now
  pub quiet : ended ≢ outcome.DiskFault → NoFault began now

-- A script over a store that shows these lists, with logs that mean this map: each request is replied OK, it ends with status 0, and the
-- logs that it leaves list as many messages and octets as if it were done in its own order. They have one record more for each delivery,
-- name as many different instances as before, and keep counts that grew as the listed messages did.
pub record IsDoneInOrder (script : Requests) (first : MapMeaning) (lists : Lists) (given : List Reply) (ended : Outcome) (m : MapMeaning) (meanings : List BoxMeaning) : Type 0 where
  pub ok : All (λ one. is_ok one ≡ true) given
  pub done : ended ≡ outcome.Done
  pub messages : messages_listed meanings ≡ message_total (lists_in_order script lists)
  pub octets : octets_listed meanings ≡ octet_total (lists_in_order script lists)
  pub records : length m.records ≡ length first.records + deliveries_in script
  pub counts : sum_by (λ row. row.count) m.records + message_total lists ≡ sum_by (λ row. row.count) first.records + messages_listed meanings
  pub instances : count_different (named_ids m) ≡ count_different (named_ids first)

-- So a made script ends; or the store was not opened.
abbrev pub CountedOutcome : Type 0 → Script → Option (List ℕ) → Option (List ℕ) → Option History → Option History → Faults → Faults → Outcome → Type 0
CountedOutcome D script held later old new began now ended = OpenedOutcome (IsCountedUp D script held later old new began now) held later old new began now ended

-- the requests that a number makes
abbrev pub made_requests : ℕ → ℕ → ℕ → Requests
made_requests lanes count number = (made_script lanes count number).requests

-- How `exercise` ends: there was no memory for the script or for its messages, nothing is printed, and no call of the disk is made; or as
-- the script that the number makes.
abbrev pub ExerciseOutcome : Type 0 → ℕ → ℕ → ℕ → Option (List ℕ) → Option (List ℕ) → Option History → Option History → Faults → Faults → Outcome → Type 0
ExerciseOutcome D lanes count number held later old new began now ended =
    ((ended ≡ outcome.NoMemory) × (later ≡ held) × (new ≡ old) × NoFault began now)
    ⊎ CountedOutcome D (made_script lanes count number) held later old new began now ended

-- What a crash at any moment may leave, and what `exercise` leaves of the disk when it ends: no call of it was made, or as the script.
abbrev pub ExerciseMoments : ℕ → ℕ → ℕ → Option History → Option History → Type 0
ExerciseMoments lanes count number old new = (new ≡ old) ⊎ ScriptMoments (made_requests lanes count number) old new

abbrev pub ExerciseRests : ℕ → ℕ → ℕ → Type 0 → Faults → Faults → Option History → Option History → Type 0
ExerciseRests lanes count number failed began now old new = (new ≡ old) ⊎ ScriptRests (made_requests lanes count number) failed began now old new
