use Rattle.folder_disk.proofs.Common.{Bool, false, true, sym, subst, false≢true, IsDiskOver}
use Rattle.folder_disk.proofs.ChangedLemmas.{noted_kept}
use Rattle.folder_disk.proofs.disk.FolderDisk.sync_quietly.Goals as goal

pub invariant_of-self-in-Err-clause-over : goal.invariant_of-self-in-Err-clause-over
invariant_of-self-in-Err-clause-over g c =
    let self = c.args.self.now in
    let R : Bool → Type 0 = λ b. ∥ IsDiskOver (g.F.Folder.modelled self.folder) (g.F.Folder.past self.folder) self.record.changes b ∥₁ in
    c.in-Err.ensures.failed.over self.record.changes (subst R c.requires.spoiled self.over)

pub invariant_of-self-in-Err-clause-locked : goal.invariant_of-self-in-Err-clause-locked
invariant_of-self-in-Err-clause-locked g c = ∣ (λ h s. absurd (false≢true (sym s))) ∣₁

pub invariant_of-self-clause-noted : goal.invariant_of-self-clause-noted
invariant_of-self-clause-noted g c =
    let self = c.args.self.now in
    noted_kept self.is_spoiled self.changed (g.F.Folder.modelled self.folder) (g.F.Folder.modelled c.settle_at.new.folder) c.in-Ok.ensures.names self.noted

pub invariant_of-self-in-Err-clause-noted : goal.invariant_of-self-in-Err-clause-noted
invariant_of-self-in-Err-clause-noted g c = ∣ (λ e. absurd (false≢true (sym e))) ∣₁
