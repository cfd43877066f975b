-- A walk over the names of storage files, which stand after those of logs and before those of instances.
use Rattle.std.proofs.Common.{◌≡◌, ℕ, List, Option, Some, refl, subst}
use Rattle.std.specs.declared.cmp.Ordering.TheVariants.{Less}
use Rattle.disk_model.specs.Disk.{DiskState, History, FileState, IsThere, IfTold, IsNext, Unchanged}
use Rattle.disk_model.specs.contracts.name.FileNameOrd.TheImpl.{ghosts}
use Rattle.disk_model.specs.declared.name.FileName.{FileName}
use Rattle.disk_model.specs.declared.name.FileName.TheVariants as file
use Rattle.disk_model.proofs.MomentLemmas.{if_told-both, if_told-unchanged}
use Rattle.model_meaning.specs.MapMeaning.{MapMeaning}
use Rattle.store_sweep.specs.Wanted.{EndsByLastRegion}
use Rattle.store_sweep.proofs.WalkLemmas.{Passed, past_or}

-- no storage file is passed with the logs of mailboxes
pub passed_logs : (m : MapMeaning) (number generation : ℕ) (disk : DiskState) → Passed (EndsByLastRegion m) (Some (file.Box number generation)) disk
passed_logs m number generation disk = λ name there behind. by_name name (disk name) behind
  where
    by_name : (name : FileName) (f : FileState) → (ghosts.cmp (file.Box number generation) name ≡ Less → ⊥) → EndsByLastRegion m name f
    by_name file.Root f behind = tt
    by_name (file.Map g) f behind = tt
    by_name (file.Box k g) f behind = tt
    by_name (file.Mail n) f behind = absurd (behind refl)
    by_name (file.Inst hash id) f behind = tt

-- with the first instance the walk is at its end
passed_mails : (m : MapMeaning) (last : Option FileName) (hash id : List ℕ) (disk : DiskState) → IsNext ghosts.cmp last (Some (file.Inst hash id)) disk → Passed (EndsByLastRegion m) last disk → (name : FileName) → IsThere (disk name) → EndsByLastRegion m name (disk name)
passed_mails m last hash id disk next passed = λ name there. past_or last name (EndsByLastRegion m name (disk name)) (λ past. by_name name (disk name) (next.1 name there past)) (passed name there)
  where
    by_name : (name : FileName) (f : FileState) → (ghosts.cmp name (file.Inst hash id) ≡ Less → ⊥) → EndsByLastRegion m name f
    by_name file.Root f behind = tt
    by_name (file.Map g) f behind = tt
    by_name (file.Box k g) f behind = tt
    by_name (file.Mail n) f behind = absurd (behind refl)
    by_name (file.Inst a i) f behind = tt

pub mails_end : (m : MapMeaning) (last : Option FileName) (next : FileName) (hash id : List ℕ) (old new : Option History) → Unchanged old new → IfTold old (IsNext ghosts.cmp last (Some next)) → next ≡ file.Inst hash id → IfTold old (Passed (EndsByLastRegion m) last)
    → IfTold new (λ disk. (name : FileName) → IsThere (disk name) → EndsByLastRegion m name (disk name))
mails_end m last next hash id old new unchanged end is passed =
    if_told-unchanged _ old new unchanged (if_told-both _ _ _ old (λ disk e p. passed_mails m last hash id disk (let F : FileName → Type 0 = λ (n : FileName). IsNext ghosts.cmp last (Some n) disk in subst F is e) p) end passed)
