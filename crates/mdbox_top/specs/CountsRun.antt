-- How `counts` ends.
use Rattle.std.specs.Prelude.{◌≡◌, ◌⊎◌, ℕ, List, length, sum_by, Option}
use Rattle.disk_model.specs.Disk.{History, Faults}
use Rattle.mdbox_base.specs.declared.replies.Refusal.TheVariants as refusal
use Rattle.mdbox_base.specs.declared.replies.Reply.{Reply}
use Rattle.mdbox_base.specs.declared.replies.Reply.TheVariants as reply
use Rattle.mdbox_base.specs.declared.requests.Request.TheVariants as request
use Rattle.model_lists.specs.Lists.{Lists}
use Rattle.list_machine.specs.Machine.{PartAnswers}
use Rattle.mdbox_base.specs.Words.{count_different}
use Rattle.list_machine.specs.Run.{Run, RunEvent, First, map_of}
use Rattle.mail_ops.specs.Counting.{named_ids}
use Rattle.model_meaning.specs.BoxMeaning.{BoxMeaning}
use Rattle.model_meaning.specs.MapMeaning.{MapMeaning}
use Rattle.store_open.specs.Opened.{IsOpenedAs, StoreCarries}
use Rattle.store_sweep.specs.Swept.{IsSwept}
use Rattle.request_text.specs.declared.outcome.Outcome.{Outcome}
use Rattle.script_run.specs.Opening.{AreSafeFor, StaysSettled}
use Rattle.mdbox_top.specs.ListRun.{ListMoments, ListRests}
use Rattle.mdbox_top.specs.Served.{RequestOutcome}

-- What logs count that mean this: records, listed messages, the sum of the counts that are kept, and different instances that
-- records name.
abbrev pub counts_of : MapMeaning → List BoxMeaning → Reply
counts_of m meanings = reply.Counted (length m.records) (sum_by (λ box. length box.rows) meanings) (sum_by (λ row. row.count) m.records) (count_different (named_ids m))

-- The reply to a count: what the logs mean from which the store opened, and opens again, or out of memory. If the files were
-- safe for lists, the first is the list machine's reply for these, in every run whose map is this one. The store opens again, with
-- logs that mean the same and the same mail, and the disk was swept; if it was settled for lists, it is settled for them again.
pub record IsCountsReply (old new : Option History) (given : Reply) : Type 0 where
  pub m : MapMeaning
  pub meanings : List BoxMeaning
  pub opened : IsOpenedAs old m meanings
  pub again : IsOpenedAs new m meanings
  pub given_is : (given ≡ counts_of m meanings) ⊎ (given ≡ reply.Refused refusal.NoMemory)
  pub answers : (run : Run) (event : RunEvent) (lists : Lists) → map_of run ≡ m → AreSafeFor lists old → PartAnswers run event lists request.Counts First (counts_of m meanings) lists
  pub settled : StaysSettled old new
  pub carried : StoreCarries old new
  pub swept : (generation : ℕ) × IsSwept generation m old new

-- How `counts` ends: the reply is printed, which is `OK` and the numbers, or `NO 17 memory`; or a prefix of it; or the store was
-- not opened.
abbrev pub CountsOutcome : Type 0 → Option (List ℕ) → Option (List ℕ) → Option History → Option History → Faults → Faults → Outcome → Type 0
CountsOutcome D = RequestOutcome D IsCountsReply request.Counts

-- A crash at any moment of a count leaves a disk that is safe for the lists for which it was settled, whatever fails; and of any
-- disk it leaves of storage files and instances what a crash could leave of them at the beginning. A store that was closed well is
-- left as it is.
abbrev pub CountsMoments : Option History → Option History → Type 0
CountsMoments old new = ListMoments old new

-- If no change of the disk failed, a disk that was settled is settled again, and the store opens again, with logs that mean
-- the same and the same mail.
abbrev pub CountsRests : Type 0 → Faults → Faults → Option History → Option History → Type 0
CountsRests failed began now old new = ListRests failed began now old new
