-- Which calls of the disk failed, by the reply of a request alone.
use Rattle.std.specs.Prelude.{◌≡◌, ◌≤◌}
use Rattle.disk_model.specs.Disk.{Faults}
use Rattle.disk_model.specs.FaultCounts.{NoFault}
use Rattle.mdbox_base.specs.Streams.{Rose}
use Rattle.mdbox_base.specs.declared.replies.Refusal.TheVariants as refusal
use Rattle.mdbox_base.specs.declared.replies.Reply.{Reply}
use Rattle.mdbox_base.specs.declared.replies.Reply.TheVariants as reply

-- The counts of the disk's faults, by what was replied: they never fall, a read fault is replied only if that of failed reads alone
-- rose, and that the store is stopped only if that of failed changes alone did. With any other reply no call failed.
pub record FaultsByReply (given : Reply) (began now : Faults) : Type 0 where
  pub reads : began.reads ≤ now.reads
  pub changes : began.changes ≤ now.changes
  pub read_fault : given ≡ reply.Refused refusal.ReadFault → Rose began.reads now.reads
  pub read_alone : given ≡ reply.Refused refusal.ReadFault → now.changes ≡ began.changes
  pub stopped : given ≡ reply.Refused refusal.Stopped → Rose began.changes now.changes
  pub change_alone : given ≡ reply.Refused refusal.Stopped → now.reads ≡ began.reads
  pub unfailed : (given ≡ reply.Refused refusal.ReadFault → ⊥) → (given ≡ reply.Refused refusal.Stopped → ⊥) → NoFault began now
