use Rattle.folder_disk.proofs.Common.{◌≡◌, ℕ, List, [], ◌∷◌, Bool, true, false, sym, subst, false≢true, after, state_after, Change, IsLocked, IsDiskOver, told_history, ghosts, AreKnownNames, refl, change_all, named}
use Rattle.disk_record.specs.declared.change.Change.TheVariants as change
use Rattle.folder_disk.proofs.KnownLemmas.{known_then, keeps_all}
use Rattle.folder_disk.proofs.ChangedLemmas.{cleared_noted, noted_now}
use Rattle.folder_disk.proofs.disk.FolderDisk.sync_all_names.Goals as goal

pub invariant_of-self-clause-over : goal.invariant_of-self-clause-over
invariant_of-self-clause-over g c =
    let self = c.args.self.now in
    let old = g.F.Folder.modelled self.folder in
    let new = g.F.Folder.modelled c.sync_names.new.folder in
    let before = g.F.Folder.past self.folder in
    let later = g.F.Folder.past c.sync_names.new.folder in
    let changes = self.record.changes in
    let P : List (Change × List ℕ) → Type 0 = λ l. ∥ IsDiskOver new later l self.is_spoiled ∥₁ in
    let Q : Bool → Type 0 = λ b. ∥ IsDiskOver new later ((change.NamesSynced, []) ∷ changes) b ∥₁ in
    let R : Bool → Type 0 = λ b. ∥ IsDiskOver old before changes b ∥₁ in
    subst P (sym c.note.ensures) (subst Q (sym c.requires.spoiled) (c.in-Ok.ensures.ok.over changes (subst R c.requires.spoiled self.over)))

pub invariant_of-self-clause-locked : goal.invariant_of-self-clause-locked
invariant_of-self-clause-locked g c = ∣ (λ held sound. c.in-Ok.ensures.ok.locked c.requires.locked) ∣₁

pub returns-in-Ok-clause-state : goal.returns-in-Ok-clause-state
returns-in-Ok-clause-state g c =
    let self = c.args.self.now in
    let new = g.F.Folder.modelled c.sync_names.new.folder in
    let P : List (Change × List ℕ) → Type 0 = λ l. told_history new l ≡ after (state_after (change.NamesSynced) []) (told_history (g.F.Folder.modelled self.folder) self.record.changes) in
    subst P (sym c.note.ensures) (c.in-Ok.ensures.ok.told self.record.changes)

pub invariant_of-self-in-Err-clause-over : goal.invariant_of-self-in-Err-clause-over
invariant_of-self-in-Err-clause-over g c =
    let self = c.args.self.now in
    let old = g.F.Folder.modelled self.folder in
    let new = g.F.Folder.modelled c.sync_names.new.folder in
    let before = g.F.Folder.past self.folder in
    let later = g.F.Folder.past c.sync_names.new.folder in
    let changes = self.record.changes in
    let P : List (Change × List ℕ) → Type 0 = λ l. ∥ IsDiskOver new later l true ∥₁ in
    let R : Bool → Type 0 = λ b. ∥ IsDiskOver old before changes b ∥₁ in
    subst P (sym c.note-in-Err.ensures) (c.in-Err.ensures.err.over changes (subst R c.requires.spoiled self.over))

pub invariant_of-self-in-Err-clause-locked : goal.invariant_of-self-in-Err-clause-locked
invariant_of-self-in-Err-clause-locked g c = ∣ (λ h s. absurd (false≢true (sym s))) ∣₁

pub returns-in-Err-clause-failed : goal.returns-in-Err-clause-failed
returns-in-Err-clause-failed g c =
    let self = c.args.self.now in
    let new = g.F.Folder.modelled c.sync_names.new.folder in
    let P : List (Change × List ℕ) → Type 0 = λ l. told_history new l ≡ after (state_after (change.Nothing) []) (told_history (g.F.Folder.modelled self.folder) self.record.changes) in
    subst P (sym c.note-in-Err.ensures) (c.in-Err.ensures.err.told self.record.changes)

pub invariant_of-self-clause-listed : goal.invariant_of-self-clause-listed
invariant_of-self-clause-listed g c =
    let self = c.args.self.now in
    let old = g.F.Folder.modelled self.folder in
    let new = g.F.Folder.modelled c.sync_names.new.folder in
    let changes = self.record.changes in
    let P : List (Change × List ℕ) → Type 0 = λ l. ∥ AreKnownNames ghosts.cmp (told_history new l) self.names ∥₁ in
    subst P (sym c.note.ensures) (known_then (change_all named) (told_history old changes) (told_history new ((change.NamesSynced, []) ∷ changes)) self.names keeps_all (c.in-Ok.ensures.ok.told changes) self.listed)

pub invariant_of-self-in-Err-clause-listed : goal.invariant_of-self-in-Err-clause-listed
invariant_of-self-in-Err-clause-listed g c =
    let self = c.args.self.now in
    let old = g.F.Folder.modelled self.folder in
    let new = g.F.Folder.modelled c.sync_names.new.folder in
    let changes = self.record.changes in
    let P : List (Change × List ℕ) → Type 0 = λ l. ∥ AreKnownNames ghosts.cmp (told_history new l) self.names ∥₁ in
    subst P (sym c.note-in-Err.ensures) (known_then (λ disk. disk) (told_history old changes) (told_history new ((change.Nothing, []) ∷ changes)) self.names (λ disk name. refl) (c.in-Err.ensures.err.told changes) self.listed)

pub invariant_of-self-clause-noted : goal.invariant_of-self-clause-noted
invariant_of-self-clause-noted g c =
    let self = c.args.self.now in
    let old = g.F.Folder.modelled self.folder in
    let new = g.F.Folder.modelled c.sync_names.new.folder in
    let R : Bool → Type 0 = λ b. ∥ IsDiskOver old (g.F.Folder.past self.folder) self.record.changes b ∥₁ in
    cleared_noted self.is_spoiled c.clear.new.self new (g.F.Folder.past c.sync_names.new.folder) ((change.NamesSynced, []) ∷ self.record.changes) c.in-Ok.ensures.synced
    (c.in-Ok.ensures.ok.over self.record.changes (subst R c.requires.spoiled self.over))

pub invariant_of-self-in-Err-clause-noted : goal.invariant_of-self-in-Err-clause-noted
invariant_of-self-in-Err-clause-noted g c = ∣ (λ e. absurd (false≢true (sym e))) ∣₁

pub sync_names-requires-clause-noted : goal.sync_names-requires-clause-noted
sync_names-requires-clause-noted g c =
    let self = c.args.self.now in
    noted_now self.is_spoiled self.changed (g.F.Folder.modelled self.folder) c.requires.spoiled self.noted
