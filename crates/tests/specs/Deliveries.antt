-- Deliveries that are stepped.
use Rattle.std.specs.Prelude.{◌≡◌, ◌⊎◌, ◌≤◌, ◌+◌, ℕ, List, length, Some, IsSome, false}
use Rattle.attach_detach.specs.Prepared.{IsPrepared}
use Rattle.attach_detach.specs.declared.message.Prepared.{Prepared}
use Rattle.disk_mem.specs.Mem.{told}
use Rattle.disk_mem.specs.declared.disk.MemDisk.{MemDisk}
use Rattle.mail_save.specs.Held.{save_dues, save_holds}
use Rattle.mail_save.specs.Others.{IsOwnFile}
use Rattle.mail_save.specs.Task.{HasLeft, SaveValue}
use Rattle.mail_save.specs.declared.task.SaveStage.TheVariants as stage
use Rattle.mdbox_base.specs.declared.ids.InstId.{InstId}
use Rattle.sis_store.specs.Instances.{holders_in}
use Rattle.store_core.specs.Dues.{due_at}
use Rattle.store_core.specs.Value.{StoreValue}
use Rattle.tests.specs.declared.tasks.turn.Turns.{Turns}

-- none of its events has happened yet
pub record IsFresh (task : SaveValue) : Type 0 where
  pub prepared : Prepared
  pub first : task.stage ≡ stage.First prepared
  pub octets : List ℕ
  pub small : length octets ≤ 67108864
  pub is : IsPrepared octets prepared

-- nobody holds an instance
abbrev pub IsHeldByNone : {D : Type 0} → StoreValue D → Type 0
IsHeldByNone store = (id : InstId) → holders_in id store.instances.known ≡ 0

-- A delivery finds in the store what its last event left there, unless it has ended.
abbrev pub GoesOn : Turns → StoreValue MemDisk → Type 0
GoesOn one store = HasLeft one.task.stage one.task.name one.task.time store (Some (told store.disk)) ⊎ ((one.task.stage ≡ stage.Ended) × IsSome one.reply)

-- Two deliveries that take turns: each goes on or has ended, nobody else holds an instance, what both hold of records is due, and no
-- storage file was taken by both.
pub record AreBeside (one other : Turns) (store : StoreValue MemDisk) : Type 0 where
  pub one_goes : GoesOn one store
  pub other_goes : GoesOn other store
  pub held : (id : InstId) → holders_in id store.instances.known ≡ save_holds one.task.stage id + save_holds other.task.stage id
  pub due : (uid : ℕ) → save_dues one.task.stage uid + save_dues other.task.stage uid ≤ due_at uid store
  pub apart : (number : ℕ) → IsOwnFile one.task.stage number → IsOwnFile other.task.stage number → ⊥

-- the same, unless the store is stopped
abbrev pub AreBesideIn : Turns → Turns → StoreValue MemDisk → Type 0
AreBesideIn one other store = store.stopped ≡ false → AreBeside one other store
