use Rattle.folder_disk.proofs.Common.{ℕ, List, false, sym, subst, false≢true, Change, IsDiskOver}
use Rattle.folder_disk.proofs.OverLemmas.{disk_begins}
use Rattle.folder_disk.proofs.ChangedLemmas.{noted_all}
use Rattle.folder_disk.proofs.disk.FolderDisk.asking.Goals as goal

pub invariant_of-result-clause-over : goal.invariant_of-result-clause-over
invariant_of-result-clause-over g c =
    let m = g.F.Folder.modelled c.args.folder in
    let past = g.F.Folder.past c.args.folder in
    let P : List (Change × List ℕ) → Type 0 = λ l. ∥ IsDiskOver m past l false ∥₁ in
    subst P (sym c.new.ensures) (disk_begins m past (g.met.F.Folder.is_system c.args.folder) c.requires.begun c.requires.store)

pub invariant_of-result-clause-locked : goal.invariant_of-result-clause-locked
invariant_of-result-clause-locked g c = ∣ (λ h. absurd (false≢true h)) ∣₁

pub invariant_of-result-clause-noted : goal.invariant_of-result-clause-noted
invariant_of-result-clause-noted g c = noted_all false c.all.result (g.F.Folder.modelled c.args.folder) c.all.ensures
