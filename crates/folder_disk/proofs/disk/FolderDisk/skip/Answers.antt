use Rattle.folder_disk.proofs.Common.{ℕ, List, [], ◌∷◌, Bool, true, false, sym, subst, false≢true, Change, IsLocked, IsDiskOver, told_history, ghosts, AreKnownNames, refl, removed}
use Rattle.disk_record.specs.declared.change.Change.TheVariants as change
use Rattle.folder_disk.proofs.SeenLemmas.{skipped_over, told_as}
use Rattle.folder_disk.proofs.KnownLemmas.{known_changed, known_taken, told_step}
use Rattle.folder_disk.proofs.disk.FolderDisk.skip.Goals as goal

pub invariant_of-self-clause-over : goal.invariant_of-self-clause-over
invariant_of-self-clause-over g c =
    let self = c.args.self.now in
    let m = g.F.Folder.modelled self.folder in
    let past = g.F.Folder.past self.folder in
    let P : List (Change × List ℕ) → Type 0 = λ l. ∥ IsDiskOver m past l self.is_spoiled ∥₁ in
    let Q : Bool → Type 0 = λ b. ∥ IsDiskOver m past ((change.Removed c.args.name, []) ∷ self.record.changes) b ∥₁ in
    let R : Bool → Type 0 = λ b. ∥ IsDiskOver m past self.record.changes b ∥₁ in
    subst P (sym c.note.ensures) (subst Q (sym c.requires.spoiled) (skipped_over m past self.record.changes c.args.name c.requires.none (subst R c.requires.spoiled self.over)))

pub invariant_of-self-clause-listed : goal.invariant_of-self-clause-listed
invariant_of-self-clause-listed g c =
    let self = c.args.self.now in
    let m = g.F.Folder.modelled self.folder in
    let changes = self.record.changes in
    let P : List (Change × List ℕ) → Type 0 = λ l. ∥ AreKnownNames ghosts.cmp (told_history m l) c.without_name.result ∥₁ in
    subst P (sym c.note.ensures) (known_changed c.args.name removed false (told_history m changes) (told_history m ((change.Removed c.args.name, []) ∷ changes)) c.take.result c.without_name.result (λ f. refl)
    c.without_name.ensures.names c.without_name.ensures.known (told_step m (change.Removed c.args.name) [] changes) (known_taken (told_history m changes) self.names c.take.result c.take.ensures.value self.listed))
