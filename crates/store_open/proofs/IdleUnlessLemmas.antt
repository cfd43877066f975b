-- Nothing has changed, unless the disk has this.
use Rattle.std.proofs.Common.{ℕ, List, Option, Some, None}
use Rattle.disk_model.specs.Disk.{DiskState, History, IfTold, IsIdle}
use Rattle.mdbox_base.specs.declared.entries.BoxEntry.{BoxEntry}
use Rattle.mdbox_base.specs.declared.entries.MapEntry.{MapEntry}
use Rattle.model_store.specs.Settled.{files_of}
use Rattle.model_store.specs.Opening.{Opens}
use Rattle.store_open.specs.Making.{IdleUnless}
use Rattle.store_open.specs.Opened.{Opening}

-- nothing has changed, or the disk has this
pub stays : (P : DiskState → Type 0) (old new : Option History) → IsIdle old new → IdleUnless P old new
stays P None new idle = tt
stays P (Some h) new idle = λ lacks. idle

pub has_it : (P : DiskState → Type 0) (old new : Option History) → IfTold old P → IdleUnless P old new
has_it P None new p = tt
has_it P (Some h) new p = λ lacks. absurd (lacks p)

pub opening : (old : Option History) (store : List ℕ) (entries : List MapEntry) (logs : List (List BoxEntry)) → IfTold old (λ now. Opens (files_of now) store entries logs) → IfTold old Opening
opening None store entries logs o = tt
opening (Some h) store entries logs o = (store, entries, logs, o)
