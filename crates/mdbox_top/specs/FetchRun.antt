-- How `fetch` ends.
use Rattle.std.specs.Prelude.{◌≡◌, ◌⊎◌, ℕ, List, Option, Some, None}
use Rattle.disk_model.specs.Disk.{History, Faults, IsIdle}
use Rattle.mdbox_base.specs.declared.ids.Uid.{Uid}
use Rattle.mdbox_base.specs.declared.replies.Refusal.{Refusal}
use Rattle.mdbox_base.specs.declared.replies.Refusal.TheVariants as refusal
use Rattle.mdbox_base.specs.declared.replies.Reply.{Reply}
use Rattle.mdbox_base.specs.declared.replies.Reply.TheVariants as reply
use Rattle.mdbox_base.specs.declared.requests.Request.TheVariants as request
use Rattle.model_lists.specs.Lists.{ListedMessage, Lists}
use Rattle.list_machine.specs.Machine.{message_at}
use Rattle.model_meaning.specs.BoxMeaning.{LogRow, BoxMeaning, row_at}
use Rattle.model_meaning.specs.MapMeaning.{MapRecord, MapMeaning, record_at}
use Rattle.model_store.specs.Listing.{meaning_named}
use Rattle.mail_fetch.specs.Stages.{IsTrueReply}
use Rattle.store_open.specs.Opened.{IsOpenedAs, StoreCarries}
use Rattle.store_sweep.specs.Swept.{IsSwept}
use Rattle.request_text.specs.declared.outcome.Outcome.{Outcome}
use Rattle.script_run.specs.Opening.{AreSafeFor, StaysSettled}
use Rattle.script_run.specs.One.{missing_cause}
use Rattle.mdbox_top.specs.Served.{RequestOutcome}
use Rattle.mdbox_top.specs.ListRun.{ListMoments, ListRests}
use Rattle.tasks_alone.specs.FetchAlone.{IsFetchAnswer}

-- By what the logs mean the mailbox with this name has this row of this UID, and this is the row's record.
pub record IsRecordOf (name : List ℕ) (uid : ℕ) (m : MapMeaning) (meanings : List BoxMeaning) (row : LogRow) (entry : MapRecord) : Type 0 where
  pub mailbox : BoxMeaning
  pub named : meaning_named name m.boxes meanings ≡ Some mailbox
  pub listed : row_at mailbox uid ≡ Some row
  pub stored : record_at m row.map_uid ≡ Some entry
  pub same : entry.guid ≡ row.guid

-- The lists have the message with this UID, and its octets were replied, or that a read failed.
abbrev pub IsTextOf : List ℕ → ℕ → Lists → Reply → Type 0
IsTextOf name uid lists given = (message : ListedMessage) × (message_at name uid lists ≡ Some message) × IsTrueReply message.octets given

-- The message was read, or a read failed, and this was replied.
pub record IsFetched (name : List ℕ) (uid : ℕ) (m : MapMeaning) (meanings : List BoxMeaning) (old new : Option History) (given : Reply) : Type 0 where
  pub row : LogRow
  pub entry : MapRecord
  pub record_is : IsRecordOf name uid m meanings row entry
  pub given_is : IsFetchAnswer row entry new given
  pub text : (lists : Lists) → AreSafeFor lists old → IsTextOf name uid lists given

-- The reply to the fetch of this message, by what the logs mean from which the store opened, and opens again. It is refused if and
-- only if they have no such mailbox or message. Else it is by what the disk reads, or there was no memory; and where the files were
-- safe for lists, the octets are those of the message that they list. After the opening, which swept the disk, nothing has
-- changed: the store opens again, with logs that mean the same and the same mail, and if the disk was settled for lists, it is settled
-- for them again.
pub record IsFetchReply (name : List ℕ) (uid : Uid) (old new : Option History) (given : Reply) : Type 0 where
  pub m : MapMeaning
  pub meanings : List BoxMeaning
  pub opened : IsOpenedAs old m meanings
  pub again : IsOpenedAs new m meanings
  pub refused : (why : Refusal) → missing_cause (meaning_named name m.boxes meanings) uid.0 ≡ Some why → given ≡ reply.Refused why
  pub found : missing_cause (meaning_named name m.boxes meanings) uid.0 ≡ None → (given ≡ reply.Refused refusal.NoMemory) ⊎ IsFetched name uid.0 m meanings old new given
  pub settled : StaysSettled old new
  pub carried : StoreCarries old new
  pub swept : (generation : ℕ) × (opened : Option History) × IsSwept generation m old opened × IsIdle opened new

-- How `fetch` ends: the octets of the message are printed and nothing else, or `NO 10 no mailbox` or `NO 12 no message` if there
-- is none, `NO 17 memory`, `NO 18 read fault`, or `NO 20 damaged` with the file and the offset of its region; or a prefix of this;
-- or the store was not opened.
abbrev pub FetchOutcome : Type 0 → List ℕ → Uid → Option (List ℕ) → Option (List ℕ) → Option History → Option History → Faults → Faults → Outcome → Type 0
FetchOutcome D name uid = RequestOutcome D (IsFetchReply name uid) (request.Fetch name uid)

-- A crash at any moment of a fetch leaves a disk that is safe for the lists for which it was settled, whatever fails; and of any
-- disk it leaves of storage files and instances what a crash could leave of them at the beginning. A store that was closed well is
-- left as it is.
abbrev pub FetchMoments : Option History → Option History → Type 0
FetchMoments old new = ListMoments old new

-- If no change of the disk failed, a disk that was settled is settled again, and the store opens again, with logs that mean
-- the same and the same mail.
abbrev pub FetchRests : Type 0 → Faults → Faults → Option History → Option History → Type 0
FetchRests failed began now old new = ListRests failed began now old new
