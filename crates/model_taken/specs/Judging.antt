-- Which of the messages that are found a rebuild takes, and why it skips the others.
use Rattle.std.specs.Prelude.{◌≡◌, ◌-◌, ◌&&◌, ◌||◌, nat_lt, nat_le, ℕ, Bool, not, List, [], ◌∷◌, ◌++◌, length, map, count_by, codes, if◌then◌else◌, Option, Some, None, ◌⊎◌}
use Rattle.std.specs.List.{list_any}
use Rattle.std.specs.Option.{option_map_or}
use Rattle.std.specs.Str.{bytes_eq}
use Rattle.disk_model.specs.Disk.{Files}
use Rattle.mdbox_base.specs.declared.entries.InstRow.{InstRow}
use Rattle.mdbox_base.specs.declared.ids.Guid.{Guid}
use Rattle.model_attach.specs.Rejoined.{IsWhole, join_error}
use Rattle.model_attach.specs.declared.join_error.JoinError.{JoinError}
use Rattle.model_attach.specs.declared.join_error.JoinError.TheVariants as join
use Rattle.model_found.specs.Findings.{Finding, Stored, Unread, FileFinding}
use Rattle.model_found.specs.declared.reason.Reason.{Reason}
use Rattle.model_found.specs.declared.reason.Reason.TheVariants as reason
use Rattle.model_storage.specs.declared.metadata_value.Metadata.{Metadata}
use Rattle.model_storage.specs.declared.places.MessageAt.{MessageAt}
use Rattle.model_storage.specs.Metadata.{IsMetadata}
use Rattle.model_storage.specs.StorageFile.{Message}
use Rattle.model_store.specs.Stands.{whole_size}
use Rattle.model_taken.specs.NamedInstances.{InstanceFound, instances_for}
use Rattle.model_taken.specs.Taken.{TakenMessage, mailboxes_met, taken_with, instances_taken}

-- What becomes of a message: it is taken; it is passed over, since it was taken from elsewhere; or it is skipped.
pub data Verdict : Type 0 where
  Takes : (message : TakenMessage) → Verdict
  PassesOver : Verdict
  Skips : (why : Reason) → Verdict

-- ---- limits

-- the mailbox that a message goes to: that of its lines, else INBOX
abbrev pub mailbox_for : Metadata → List ℕ
mailbox_for meta = option_map_or (λ name. name) meta.origin (codes "INBOX")

-- With this message a limit is passed: 1,024 mailboxes, 1,000,000 messages in one mailbox, 4,294,967,294 messages in all,
-- 67,108,864 octets of a whole message, or 4,294,967,295 as the end of a region.
abbrev pub are_too_many : List TakenMessage → List ℕ → MessageAt → ℕ → Bool
are_too_many taken name place whole =
    (not (list_any (bytes_eq name) (mailboxes_met taken)) && nat_le 1024 (length (mailboxes_met taken)))
    || (nat_le 1000000 (count_by (λ t. bytes_eq t.mailbox name) taken)
    || (nat_le 4294967294 (length taken)
    || (nat_lt 67108864 whole || nat_lt 4294967295 place.end)))

-- ---- one message

-- why a message that can't be rejoined is skipped
abbrev pub IsJoinReason : JoinError → Reason → Type 0
IsJoinReason (join.RangeBad index) why = why ≡ reason.RangeBad
IsJoinReason join.Compressed why = why ≡ reason.Compressed
IsJoinReason (join.SizeDiffers kept found) why = why ≡ reason.SizeDiffers
IsJoinReason (join.InstanceDiffers index kept found) why = why ≡ reason.InstanceDiffers
IsJoinReason join.NoMemory why = ⊥

-- the message as it is taken: received at the time of its lines, else at 0
abbrev pub taken_as : ℕ → MessageAt → Metadata → List ℕ → List InstRow → List ℕ → TakenMessage
taken_as number place meta guid rows whole = record {
  file = number;
  offset = place.offset;
  size = place.end - place.offset;
  guid = guid;
  time = option_map_or (λ time. time) meta.received 0;
  octets = whole;
  mailbox = mailbox_for meta;
  instances = rows;
}

-- A message that rejoins to these octets: its GUID was taken, with the same octets or with others; or a limit is passed; else it is
-- taken.
abbrev pub verdict_on : List TakenMessage → ℕ → MessageAt → Metadata → List ℕ → List InstRow → List ℕ → Option TakenMessage → Verdict
verdict_on taken number place meta guid rows whole (Some earlier) = if bytes_eq earlier.octets whole then PassesOver else Skips reason.GuidTwice
verdict_on taken number place meta guid rows whole None =
    if are_too_many taken (mailbox_for meta) place (length whole) then Skips reason.TooMany else Takes (taken_as number place meta guid rows whole)

-- a message with this GUID and these instances, of which this is wrong, if anything
abbrev pub IsJudgedJoined : List TakenMessage → ℕ → MessageAt → Message → Metadata → List ℕ → List InstanceFound → Option JoinError → Verdict → Type 0
IsJudgedJoined taken number place m meta guid found (Some error) verdict = (why : Reason) × IsJoinReason error why × (verdict ≡ Skips why)
IsJudgedJoined taken number place m meta guid found None verdict =
    (whole : List ℕ) × IsWhole whole m.body meta.refs (map (λ i. i.octets) found)
    × (verdict ≡ verdict_on taken number place meta guid (map (λ i. i.row) found) whole (taken_with guid taken))

-- a message with this GUID, whose references name these instances
abbrev pub IsJudgedWith : List TakenMessage → ℕ → MessageAt → Message → Metadata → List ℕ → Option (List InstanceFound) → Verdict → Type 0
IsJudgedWith taken number place m meta guid None verdict = verdict ≡ Skips reason.NoInstance
IsJudgedWith taken number place m meta guid (Some found) verdict =
    IsJudgedJoined taken number place m meta guid found (join_error m.body (whole_size meta m.body) meta.refs (map (λ i. i.octets) found)) verdict

-- a message whose lines say this
abbrev pub IsJudgedBy : Files → List TakenMessage → ℕ → MessageAt → Message → Metadata → Option Guid → Verdict → Type 0
IsJudgedBy files taken number place m meta None verdict = verdict ≡ Skips reason.NoGuid
IsJudgedBy files taken number place m meta (Some guid) verdict =
    IsJudgedWith taken number place m meta guid.0 (instances_for files (instances_taken taken) meta.refs) verdict

-- one of a message's lines is bad, so they say nothing
abbrev pub SaysNothing : Message → Type 0
SaysNothing m = (meta : Metadata) → IsMetadata m.lines meta → ⊥

-- What becomes of a message of the storage file with this number, after those that were taken. The first reason counts, in this
-- order: a bad line, no GUID, an instance, what the rejoining lacks, the GUID, a limit.
abbrev pub IsJudged : Files → List TakenMessage → ℕ → MessageAt → Message → Verdict → Type 0
IsJudged files taken number place m verdict =
    (SaysNothing m × (verdict ≡ Skips reason.BadLine)) ⊎ ((meta : Metadata) × IsMetadata m.lines meta × IsJudgedBy files taken number place m meta meta.guid verdict)

-- ---- all of them

-- what becomes of what was found at an offset of a file
pub record Judgement : Type 0 where
  pub number : ℕ
  pub offset : ℕ
  pub verdict : Verdict

-- A message is judged; a place from which on nothing can be read is skipped.
abbrev pub IsJudgedFinding : Files → List TakenMessage → ℕ → Finding → Judgement → Type 0
IsJudgedFinding files taken number (Stored place m) judgement = (judgement.number ≡ number) × (judgement.offset ≡ place.offset) × IsJudged files taken number place m judgement.verdict
IsJudgedFinding files taken number (Unread offset why) judgement = judgement ≡ record { number = number; offset = offset; verdict = Skips why }

abbrev pub taken_of : Verdict → List TakenMessage
taken_of (Takes message) = message ∷ []
taken_of PassesOver = []
taken_of (Skips why) = []

-- the message that a judgement takes, if any
abbrev pub taken_by : Judgement → List TakenMessage
taken_by judgement = taken_of judgement.verdict

-- Findings are judged one after another, each after the messages that were taken before it.
abbrev pub AreJudged : Files → List TakenMessage → List FileFinding → List Judgement → Type 0
AreJudged files taken [] [] = Unit {0}
AreJudged files taken (f ∷ found) (j ∷ judgements) = IsJudgedFinding files taken f.number f.finding j × AreJudged files (taken ++ taken_by j) found judgements
AreJudged files taken [] (j ∷ judgements) = ⊥
AreJudged files taken (f ∷ found) [] = ⊥
