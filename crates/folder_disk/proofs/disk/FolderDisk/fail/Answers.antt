use Rattle.folder_disk.proofs.Common.{ℕ, List, [], true, sym, subst, false≢true, Change, ghosts, AreKnownNames, IsDiskOver, told_history}
use Rattle.folder_disk.proofs.ChangeLemmas.{nothing_done}
use Rattle.folder_disk.proofs.KnownLemmas.{known_fails}
use Rattle.folder_disk.proofs.disk.FolderDisk.fail.Goals as goal

pub invariant_of-self-clause-over : goal.invariant_of-self-clause-over
invariant_of-self-clause-over g c =
    let self = c.args.self.now in
    let m = g.F.Folder.modelled self.folder in
    let past = g.F.Folder.past self.folder in
    let P : List (Change × List ℕ) → Type 0 = λ l. ∥ IsDiskOver m past l true ∥₁ in
    subst P (sym c.note.ensures) (nothing_done m past self.record.changes c.args.change.now [] self.is_spoiled c.requires self.over)

pub invariant_of-self-clause-locked : goal.invariant_of-self-clause-locked
invariant_of-self-clause-locked g c = ∣ (λ h s. absurd (false≢true (sym s))) ∣₁

pub invariant_of-self-clause-listed : goal.invariant_of-self-clause-listed
invariant_of-self-clause-listed g c =
    let self = c.args.self.now in
    let m = g.F.Folder.modelled self.folder in
    let P : List (Change × List ℕ) → Type 0 = λ l. ∥ AreKnownNames ghosts.cmp (told_history m l) self.names ∥₁ in
    subst P (sym c.note.ensures) (known_fails m self.record.changes c.args.change.now [] self.names c.requires self.listed)

pub invariant_of-self-clause-noted : goal.invariant_of-self-clause-noted
invariant_of-self-clause-noted g c = ∣ (λ e. absurd (false≢true (sym e))) ∣₁
