use Rattle.folder_disk.proofs.Common.{◌≡◌, ℕ, List, [], ◌∷◌, Bool, true, false, sym, subst, false≢true, after, state_after, Change, IsLocked, IsDiskOver, told_history, ghosts, AreKnownNames, refl, made, half_made}
use Rattle.disk_record.specs.declared.change.Change.TheVariants as change
use Rattle.folder_disk.proofs.KnownLemmas.{known_then, known_changed, known_taken, keeps_one}
use Rattle.folder_disk.proofs.ChangedLemmas.{noted_through}
use Rattle.folder_disk.proofs.disk.FolderDisk.make_to.Goals as goal

pub invariant_of-self-clause-over : goal.invariant_of-self-clause-over
invariant_of-self-clause-over g c =
    let self = c.args.self.now in
    let old = g.F.Folder.modelled self.folder in
    let new = g.F.Folder.modelled c.make_file.new.folder in
    let before = g.F.Folder.past self.folder in
    let later = g.F.Folder.past c.make_file.new.folder in
    let changes = self.record.changes in
    let P : List (Change × List ℕ) → Type 0 = λ l. ∥ IsDiskOver new later l self.is_spoiled ∥₁ in
    let Q : Bool → Type 0 = λ b. ∥ IsDiskOver new later ((change.Made c.args.name, []) ∷ changes) b ∥₁ in
    let R : Bool → Type 0 = λ b. ∥ IsDiskOver old before changes b ∥₁ in
    subst P (sym c.note.ensures) (subst Q (sym c.requires.spoiled) (c.in-Ok.ensures.ok.over changes (subst R c.requires.spoiled self.over)))

pub invariant_of-self-clause-locked : goal.invariant_of-self-clause-locked
invariant_of-self-clause-locked g c = ∣ (λ held sound. c.in-Ok.ensures.ok.locked c.requires.locked) ∣₁

pub returns-in-Ok-clause-state : goal.returns-in-Ok-clause-state
returns-in-Ok-clause-state g c =
    let self = c.args.self.now in
    let new = g.F.Folder.modelled c.make_file.new.folder in
    let P : List (Change × List ℕ) → Type 0 = λ l. told_history new l ≡ after (state_after (change.Made c.args.name) []) (told_history (g.F.Folder.modelled self.folder) self.record.changes) in
    subst P (sym c.note.ensures) (c.in-Ok.ensures.ok.told self.record.changes)

pub invariant_of-self-in-Err-clause-over : goal.invariant_of-self-in-Err-clause-over
invariant_of-self-in-Err-clause-over g c =
    let self = c.args.self.now in
    let old = g.F.Folder.modelled self.folder in
    let new = g.F.Folder.modelled c.make_file.new.folder in
    let before = g.F.Folder.past self.folder in
    let later = g.F.Folder.past c.make_file.new.folder in
    let changes = self.record.changes in
    let P : List (Change × List ℕ) → Type 0 = λ l. ∥ IsDiskOver new later l true ∥₁ in
    let R : Bool → Type 0 = λ b. ∥ IsDiskOver old before changes b ∥₁ in
    subst P (sym c.note-in-Err.ensures) (c.in-Err.ensures.err.over changes (subst R c.requires.spoiled self.over))

pub invariant_of-self-in-Err-clause-locked : goal.invariant_of-self-in-Err-clause-locked
invariant_of-self-in-Err-clause-locked g c = ∣ (λ h s. absurd (false≢true (sym s))) ∣₁

pub returns-in-Err-clause-failed : goal.returns-in-Err-clause-failed
returns-in-Err-clause-failed g c =
    let self = c.args.self.now in
    let new = g.F.Folder.modelled c.make_file.new.folder in
    let P : List (Change × List ℕ) → Type 0 = λ l. told_history new l ≡ after (state_after (change.HalfMade c.args.name) []) (told_history (g.F.Folder.modelled self.folder) self.record.changes) in
    subst P (sym c.note-in-Err.ensures) (c.in-Err.ensures.err.told self.record.changes)

pub invariant_of-self-clause-listed : goal.invariant_of-self-clause-listed
invariant_of-self-clause-listed g c =
    let self = c.args.self.now in
    let old = g.F.Folder.modelled self.folder in
    let new = g.F.Folder.modelled c.make_file.new.folder in
    let changes = self.record.changes in
    let P : List (Change × List ℕ) → Type 0 = λ l. ∥ AreKnownNames ghosts.cmp (told_history new l) c.with_name.result ∥₁ in
    subst P (sym c.note.ensures) (known_changed c.args.name made true (told_history old changes) (told_history new ((change.Made c.args.name, []) ∷ changes)) c.take.result c.with_name.result (λ f. refl)
    c.with_name.ensures.names c.with_name.ensures.known (c.in-Ok.ensures.ok.told changes) (known_taken (told_history old changes) self.names c.take.result c.take.ensures.value self.listed))

pub invariant_of-self-in-Err-clause-listed : goal.invariant_of-self-in-Err-clause-listed
invariant_of-self-in-Err-clause-listed g c =
    let self = c.args.self.now in
    let old = g.F.Folder.modelled self.folder in
    let new = g.F.Folder.modelled c.make_file.new.folder in
    let changes = self.record.changes in
    let P : List (Change × List ℕ) → Type 0 = λ l. ∥ AreKnownNames ghosts.cmp (told_history new l) self.names ∥₁ in
    subst P (sym c.note-in-Err.ensures) (known_then (state_after (change.HalfMade c.args.name) []) (told_history old changes) (told_history new ((change.HalfMade c.args.name, []) ∷ changes)) self.names (keeps_one c.args.name half_made (λ f. refl)) (c.in-Err.ensures.err.told changes) self.listed)

pub invariant_of-self-clause-noted : goal.invariant_of-self-clause-noted
invariant_of-self-clause-noted g c =
    let self = c.args.self.now in
    noted_through self.is_spoiled self.changed c.make_file.new.changed (g.F.Folder.modelled self.folder) (g.F.Folder.modelled c.make_file.new.folder) c.in-Ok.ensures.names self.noted

pub invariant_of-self-in-Err-clause-noted : goal.invariant_of-self-in-Err-clause-noted
invariant_of-self-in-Err-clause-noted g c = ∣ (λ e. absurd (false≢true (sym e))) ∣₁
