-- The counts of a disk's faults, by the replies of a script.
use Rattle.std.specs.Prelude.{◌≡◌, ◌≤◌, false, List, Contains, count_by, map, Some}
use Rattle.disk_model.specs.Disk.{Faults}
use Rattle.disk_model.specs.FaultCounts.{NoFault}
use Rattle.mdbox_base.specs.Streams.{Rose}
use Rattle.mdbox_base.specs.declared.replies.Refusal.TheVariants as refusal
use Rattle.mdbox_base.specs.declared.replies.Reply.{Reply}
use Rattle.mdbox_base.specs.declared.replies.Reply.TheVariants as reply
use Rattle.journal.specs.Journal.{Requests, RoseBy, is_read_fault}
use Rattle.script_run.specs.Script.{HasStopped, has_fetch, has_mail_read}

-- some request was replied that a read failed
abbrev pub HasReadFault : List Reply → Type 0
HasReadFault given = Contains given (reply.Refused refusal.ReadFault)

-- They never fall. That of failed reads rose by as many at least as replies say that a read failed, and that of failed changes rose if
-- a reply says that the store is stopped, and else stayed. Where no reply says either, no call failed.
pub record FaultsByReplies (given : List Reply) (began now : Faults) : Type 0 where
  pub counted : began.reads ≤ now.reads
  pub reads : RoseBy (count_by is_read_fault (map Some given)) began.reads now.reads
  pub changes : began.changes ≤ now.changes
  pub stopped : HasStopped given → Rose began.changes now.changes
  pub unchanged : (HasStopped given → ⊥) → now.changes ≡ began.changes
  pub quiet : (HasReadFault given → ⊥) → (HasStopped given → ⊥) → NoFault began now

-- What is said of them of every script, whatever the disk: no read fails of one that reads no octets of messages; and of one that fetches
-- no message a read failed only if a reply says so.
pub record CountsStay (script : Requests) (given : List Reply) (began now : Faults) : Type 0 where
  pub counted : began.reads ≤ now.reads
  pub changes : began.changes ≤ now.changes
  pub unchanged : (HasStopped given → ⊥) → now.changes ≡ began.changes
  pub unread : has_mail_read script ≡ false → now.reads ≡ began.reads
  pub calm : has_fetch script ≡ false → (HasReadFault given → ⊥) → now.reads ≡ began.reads
