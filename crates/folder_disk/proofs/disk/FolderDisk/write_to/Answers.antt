use Rattle.folder_disk.proofs.Common.{◌<◌, ℕ, List, [], ◌∷◌, Bool, true, All, get_or, sym, subst, arith, false≢true, written, Change, IsDiskOver, ghosts, AreKnownNames, told_history, refl, length, half_written, KeepsNames, IsChanged}
use Rattle.std.proofs.Common.{Fits, w8}
use Rattle.std.proofs.lemmas.List.Elements.{All-from_get_or}
use Rattle.disk_record.specs.declared.change.Change.TheVariants.{Written}
use Rattle.folder_disk.proofs.ChangeLemmas.{wrote_over, half_wrote_over, locked_changed}
use Rattle.disk_record.specs.declared.change.Change.TheVariants as step
use Rattle.folder_disk.proofs.OverLemmas.{history_goes_on}
use Rattle.folder_disk.proofs.KnownLemmas.{known_then, keeps_one}
use Rattle.disk_model.specs.Disk.{change}
use Rattle.folder_disk.proofs.ChangedLemmas.{becomes_map, noted_kept, changed_keeps}
use Rattle.folder_disk.proofs.disk.FolderDisk.write_to.Goals as goal

pub invariant_of-self-clause-over : goal.invariant_of-self-clause-over
invariant_of-self-clause-over g c =
    let self = c.args.self.now in
    let old = g.F.Folder.modelled self.folder in
    let new = g.F.Folder.modelled c.write_at.new.folder in
    let before = g.F.Folder.past self.folder in
    let after = g.F.Folder.past c.write_at.new.folder in
    let changes = self.record.changes in
    let from = c.args.from.now in
    let P : List (Change × List ℕ) → Type 0 = λ l. ∥ IsDiskOver new after l self.is_spoiled ∥₁ in
    let Q : Bool → Type 0 = λ b. ∥ IsDiskOver new after ((Written c.args.name c.args.offset, from) ∷ changes) b ∥₁ in
    let R : Bool → Type 0 = λ b. ∥ IsDiskOver old before changes b ∥₁ in
    let fit : All (λ octet. octet < 256) from = All-from_get_or (λ octet. octet < 256) from 0 (λ k below. let f : Fits w8 (get_or from k 0) = c.type_inv.from k in omega arith) in
    subst P (sym c.note.ensures) (subst Q (sym c.requires.spoiled)
    (wrote_over old new before after changes c.args.name c.args.path.now c.args.offset from c.requires.file c.requires.named fit c.requires.reaches
    (subst R c.requires.spoiled self.over) c.in-Ok.ensures.ok c.write_at.ensures.passed))

pub invariant_of-self-clause-locked : goal.invariant_of-self-clause-locked
invariant_of-self-clause-locked g c =
    let self = c.args.self.now in
    locked_changed (g.F.Folder.modelled self.folder) (g.F.Folder.modelled c.write_at.new.folder) c.args.path.now (written c.args.offset c.args.from.now) self.is_held self.is_spoiled self.locked c.in-Ok.ensures.ok

pub invariant_of-self-in-Err-clause-over : goal.invariant_of-self-in-Err-clause-over
invariant_of-self-in-Err-clause-over g c =
    let self = c.args.self.now in
    let old = g.F.Folder.modelled self.folder in
    let new = g.F.Folder.modelled c.write_at.new.folder in
    let before = g.F.Folder.past self.folder in
    let after = g.F.Folder.past c.write_at.new.folder in
    let changes = self.record.changes in
    let P : List (Change × List ℕ) → Type 0 = λ l. ∥ IsDiskOver new after l true ∥₁ in
    let R : Bool → Type 0 = λ b. ∥ IsDiskOver old before changes b ∥₁ in
    subst P (sym c.note-in-Err.ensures)
    (half_wrote_over old new before after changes c.args.name c.args.path.now c.args.offset c.args.from.now [] c.requires.file c.requires.named c.requires.reaches
    (subst R c.requires.spoiled self.over) c.in-Err.ensures.err c.write_at.ensures.passed)

pub invariant_of-self-in-Err-clause-locked : goal.invariant_of-self-in-Err-clause-locked
invariant_of-self-in-Err-clause-locked g c = ∣ (λ h s. absurd (false≢true (sym s))) ∣₁

pub invariant_of-self-clause-listed : goal.invariant_of-self-clause-listed
invariant_of-self-clause-listed g c =
    let self = c.args.self.now in
    let old = g.F.Folder.modelled self.folder in
    let new = g.F.Folder.modelled c.write_at.new.folder in
    let changes = self.record.changes in
    let P : List (Change × List ℕ) → Type 0 = λ l. ∥ AreKnownNames ghosts.cmp (told_history new l) self.names ∥₁ in
    subst P (sym c.note.ensures) (known_then (change c.args.name (written c.args.offset c.args.from.now)) (told_history old changes) (told_history new ((step.Written c.args.name c.args.offset, c.args.from.now) ∷ changes)) self.names (keeps_one c.args.name (written c.args.offset c.args.from.now) (λ f. refl)) (history_goes_on _ old new changes (step.Written c.args.name c.args.offset) c.args.from.now c.in-Ok.ensures.ok) self.listed)

pub invariant_of-self-in-Err-clause-listed : goal.invariant_of-self-in-Err-clause-listed
invariant_of-self-in-Err-clause-listed g c =
    let self = c.args.self.now in
    let old = g.F.Folder.modelled self.folder in
    let new = g.F.Folder.modelled c.write_at.new.folder in
    let changes = self.record.changes in
    let P : List (Change × List ℕ) → Type 0 = λ l. ∥ AreKnownNames ghosts.cmp (told_history new l) self.names ∥₁ in
    subst P (sym c.note-in-Err.ensures) (known_then (change c.args.name (half_written c.args.offset (length c.args.from.now))) (told_history old changes) (told_history new ((step.HalfWritten c.args.name c.args.offset (length c.args.from.now), []) ∷ changes)) self.names (keeps_one c.args.name (half_written c.args.offset (length c.args.from.now)) (λ f. refl)) (history_goes_on _ old new changes (step.HalfWritten c.args.name c.args.offset (length c.args.from.now)) [] c.in-Err.ensures.err) self.listed)

pub invariant_of-self-clause-noted : goal.invariant_of-self-clause-noted
invariant_of-self-clause-noted g c =
    let self = c.args.self.now in
    let old = g.F.Folder.modelled self.folder in
    let new = g.F.Folder.modelled c.write_at.new.folder in
    noted_kept self.is_spoiled self.changed old new (becomes_map (IsChanged c.args.path.now (written c.args.offset c.args.from.now)) KeepsNames old new (changed_keeps c.args.path.now (written c.args.offset c.args.from.now)) c.in-Ok.ensures.ok) self.noted

pub invariant_of-self-in-Err-clause-noted : goal.invariant_of-self-in-Err-clause-noted
invariant_of-self-in-Err-clause-noted g c = ∣ (λ e. absurd (false≢true (sym e))) ∣₁
