use Rattle.folder_disk.proofs.Common.{ℕ, List, [], ◌∷◌, Bool, true, sym, subst, false≢true, cut_to, Change, IsDiskOver, ghosts, AreKnownNames, told_history, refl, half_cut, KeepsNames, IsChanged}
use Rattle.disk_record.specs.declared.change.Change.TheVariants.{Cut}
use Rattle.folder_disk.proofs.ChangeLemmas.{locked_changed}
use Rattle.folder_disk.proofs.CutLemmas.{cut_over, half_cut_over}
use Rattle.disk_record.specs.declared.change.Change.TheVariants as step
use Rattle.folder_disk.proofs.OverLemmas.{history_goes_on}
use Rattle.folder_disk.proofs.KnownLemmas.{known_then, keeps_one}
use Rattle.disk_model.specs.Disk.{change}
use Rattle.folder_disk.proofs.ChangedLemmas.{becomes_map, noted_kept, changed_keeps}
use Rattle.folder_disk.proofs.disk.FolderDisk.cut_to_end.Goals as goal

pub invariant_of-self-clause-over : goal.invariant_of-self-clause-over
invariant_of-self-clause-over g c =
    let self = c.args.self.now in
    let old = g.F.Folder.modelled self.folder in
    let new = g.F.Folder.modelled c.cut_at.new.folder in
    let before = g.F.Folder.past self.folder in
    let after = g.F.Folder.past c.cut_at.new.folder in
    let changes = self.record.changes in
    let P : List (Change × List ℕ) → Type 0 = λ l. ∥ IsDiskOver new after l self.is_spoiled ∥₁ in
    let Q : Bool → Type 0 = λ b. ∥ IsDiskOver new after ((Cut c.args.name c.args.end, []) ∷ changes) b ∥₁ in
    let R : Bool → Type 0 = λ b. ∥ IsDiskOver old before changes b ∥₁ in
    subst P (sym c.note.ensures) (subst Q (sym c.requires.spoiled)
    (cut_over old new before after changes c.args.name c.args.path.now c.args.end [] c.requires.file c.requires.named c.requires.reaches
    (subst R c.requires.spoiled self.over) c.in-Ok.ensures.ok c.cut_at.ensures.passed))

pub invariant_of-self-clause-locked : goal.invariant_of-self-clause-locked
invariant_of-self-clause-locked g c =
    let self = c.args.self.now in
    locked_changed (g.F.Folder.modelled self.folder) (g.F.Folder.modelled c.cut_at.new.folder) c.args.path.now (cut_to c.args.end) self.is_held self.is_spoiled self.locked c.in-Ok.ensures.ok

pub invariant_of-self-in-Err-clause-over : goal.invariant_of-self-in-Err-clause-over
invariant_of-self-in-Err-clause-over g c =
    let self = c.args.self.now in
    let old = g.F.Folder.modelled self.folder in
    let new = g.F.Folder.modelled c.cut_at.new.folder in
    let before = g.F.Folder.past self.folder in
    let after = g.F.Folder.past c.cut_at.new.folder in
    let changes = self.record.changes in
    let P : List (Change × List ℕ) → Type 0 = λ l. ∥ IsDiskOver new after l true ∥₁ in
    let R : Bool → Type 0 = λ b. ∥ IsDiskOver old before changes b ∥₁ in
    subst P (sym c.note-in-Err.ensures)
    (half_cut_over old new before after changes c.args.name c.args.path.now c.args.end [] c.requires.file c.requires.named
    (subst R c.requires.spoiled self.over) c.in-Err.ensures.err c.cut_at.ensures.passed)

pub invariant_of-self-in-Err-clause-locked : goal.invariant_of-self-in-Err-clause-locked
invariant_of-self-in-Err-clause-locked g c = ∣ (λ h s. absurd (false≢true (sym s))) ∣₁

pub invariant_of-self-clause-listed : goal.invariant_of-self-clause-listed
invariant_of-self-clause-listed g c =
    let self = c.args.self.now in
    let old = g.F.Folder.modelled self.folder in
    let new = g.F.Folder.modelled c.cut_at.new.folder in
    let changes = self.record.changes in
    let P : List (Change × List ℕ) → Type 0 = λ l. ∥ AreKnownNames ghosts.cmp (told_history new l) self.names ∥₁ in
    subst P (sym c.note.ensures) (known_then (change c.args.name (cut_to c.args.end)) (told_history old changes) (told_history new ((step.Cut c.args.name c.args.end, []) ∷ changes)) self.names (keeps_one c.args.name (cut_to c.args.end) (λ f. refl)) (history_goes_on _ old new changes (step.Cut c.args.name c.args.end) [] c.in-Ok.ensures.ok) self.listed)

pub invariant_of-self-in-Err-clause-listed : goal.invariant_of-self-in-Err-clause-listed
invariant_of-self-in-Err-clause-listed g c =
    let self = c.args.self.now in
    let old = g.F.Folder.modelled self.folder in
    let new = g.F.Folder.modelled c.cut_at.new.folder in
    let changes = self.record.changes in
    let P : List (Change × List ℕ) → Type 0 = λ l. ∥ AreKnownNames ghosts.cmp (told_history new l) self.names ∥₁ in
    subst P (sym c.note-in-Err.ensures) (known_then (change c.args.name (half_cut c.args.end)) (told_history old changes) (told_history new ((step.HalfCut c.args.name c.args.end, []) ∷ changes)) self.names (keeps_one c.args.name (half_cut c.args.end) (λ f. refl)) (history_goes_on _ old new changes (step.HalfCut c.args.name c.args.end) [] c.in-Err.ensures.err) self.listed)

pub invariant_of-self-clause-noted : goal.invariant_of-self-clause-noted
invariant_of-self-clause-noted g c =
    let self = c.args.self.now in
    let old = g.F.Folder.modelled self.folder in
    let new = g.F.Folder.modelled c.cut_at.new.folder in
    noted_kept self.is_spoiled self.changed old new (becomes_map (IsChanged c.args.path.now (cut_to c.args.end)) KeepsNames old new (changed_keeps c.args.path.now (cut_to c.args.end)) c.in-Ok.ensures.ok) self.noted

pub invariant_of-self-in-Err-clause-noted : goal.invariant_of-self-in-Err-clause-noted
invariant_of-self-in-Err-clause-noted g c = ∣ (λ e. absurd (false≢true (sym e))) ∣₁
