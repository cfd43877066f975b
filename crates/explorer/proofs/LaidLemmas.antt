-- A file that is made and written is there.
use Rattle.std.proofs.Common.{◌≡◌, List, ℕ, length, Option, Some, None, refl, arith}
use Rattle.disk_model.specs.Disk.{FileState, History, IsThere, Reaches, IfTold, after, change, made, written}
use Rattle.disk_model.specs.declared.name.FileName.{FileName}
use Rattle.disk_model.proofs.ChangeAndSyncLemmas.{changed_state}

any_state : (name : FileName) (old : Option History) → IfTold old (λ disk. Unit {0})
any_state name None = tt
any_state name (Some old) = tt

is_made : (f : FileState) → Unit {0} → Reaches (made f) 0
is_made f u = (refl, omega arith)

is_written : (text : List ℕ) (f : FileState) → Reaches f 0 → IsThere (written 0 text f)
is_written text f reaches = reaches.0

pub made_reaches : (name : FileName) (old new : Option History) → new ≡ after (change name made) old → IfTold new (λ disk. Reaches (disk name) 0)
made_reaches name old new is =
    changed_state name (λ f. Unit {0}) (λ f. Reaches f 0) made old new is is_made (any_state name old)

pub written_is_there : (name : FileName) (text : List ℕ) (old mid new : Option History) → mid ≡ after (change name made) old → new ≡ after (change name (written 0 text)) mid → IfTold new (λ disk. IsThere (disk name))
written_is_there name text old mid new made_is is =
    changed_state name (λ f. Reaches f 0) IsThere (written 0 text) mid new is (is_written text) (made_reaches name old mid made_is)
