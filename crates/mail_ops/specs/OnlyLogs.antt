-- What an event leaves of store and disk that changes no more than logs, whatever the disk is.
use Rattle.std.specs.Prelude.{◌≡◌, ◌≢◌, ◌↔◌, true, false, Option}
use Rattle.disk_model.specs.Disk.{History, Faults}
use Rattle.disk_model.specs.FaultCounts.{NoFault, ChangeFaultCounted}
use Rattle.mdbox_base.specs.declared.progress.Progress.{Progress}
use Rattle.mdbox_base.specs.declared.progress.Progress.TheVariants as progress
use Rattle.mdbox_base.specs.declared.replies.Refusal.TheVariants as refusal
use Rattle.mdbox_base.specs.declared.replies.Reply.TheVariants as reply
use Rattle.store_core.specs.Value.{StoreValue}
use Rattle.mail_ops.specs.SparedMail.{SparesMail}

-- A store that is stopped then replies so, and no other does; one that was stopped stays as it was, and so does the stage. One that was
-- running is stopped only by a change of the disk that failed; no other call of the disk fails. The rest of the store stays, as the first
-- argument says, and so do storage files and instances, at each moment.
pub record ChangesOnlyLogs {D : Type 0} {Stage : Type 0} (Rest : Type 0) (now next : Stage) (answer : Progress) (old new : StoreValue D) (before after : Option History) (began faults : Faults) : Type 0 where
  pub stopped : (answer ≡ progress.Done (reply.Refused refusal.Stopped)) ↔ (new.stopped ≡ true)
  pub still : old.stopped ≡ true → (new ≡ old) × (next ≡ now)
  pub fault : old.stopped ≡ false → ChangeFaultCounted (answer ≡ progress.Done (reply.Refused refusal.Stopped)) began faults
  pub unfailed : answer ≢ progress.Done (reply.Refused refusal.Stopped) → NoFault began faults
  pub rest : Rest
  pub mail : SparesMail (new.stopped ≡ old.stopped) before after
