use Rattle.folder_disk.proofs.Common.{Bool, sym, subst, IsDiskOver}
use Rattle.folder_disk.proofs.ChangedLemmas.{noted_all}
use Rattle.folder_disk.proofs.disk.FolderDisk.ask.Goals as goal

pub invariant_of-self-clause-over : goal.invariant_of-self-clause-over
invariant_of-self-clause-over g c =
    let self = c.args.self.now in
    let asked = c.has_lock-self in
    let old = g.F.Folder.modelled self.folder in
    let new = g.F.Folder.modelled asked.new.folder in
    let P : Bool → Type 0 = λ b. ∥ IsDiskOver new (g.F.Folder.past asked.new.folder) self.record.changes b ∥₁ in
    let R : Bool → Type 0 = λ b. ∥ IsDiskOver old (g.F.Folder.past self.folder) self.record.changes b ∥₁ in
    subst P (sym c.requires) (asked.ensures.unseen.over self.record.changes (subst R c.requires self.over))

pub invariant_of-self-clause-locked : goal.invariant_of-self-clause-locked
invariant_of-self-clause-locked g c = ∣ (λ held sound. c.has_lock-self.ensures.locked held) ∣₁

pub returns-clause-told : goal.returns-clause-told
returns-clause-told g c = c.has_lock-self.ensures.unseen.told c.args.self.now.record.changes

pub invariant_of-self-clause-noted : goal.invariant_of-self-clause-noted
invariant_of-self-clause-noted g c =
    noted_all c.args.self.now.is_spoiled c.note_all.new.self (g.F.Folder.modelled c.has_lock-self.new.folder) c.note_all.ensures
