use Rattle.folder_disk.proofs.Common.{◌≡◌, Option, sym, subst, ghosts, AreKnownNames, told_history}
use Rattle.folder_disk.proofs.KnownLemmas.{looked_found}
use Rattle.folder_disk.proofs.ChangedLemmas.{noted_same}
use Rattle.folder_disk.proofs.OverLemmas.{over_same, locked_same}
use Rattle.folder_disk.proofs.disk.FolderDisk.known_names.Goals as goal

pub returns-in-None-clause-are : goal.returns-in-None-clause-are
returns-in-None-clause-are g c =
    let self = c.args.self.now in
    looked_found c.names_there.result (g.F.Folder.modelled self.folder) (g.F.Folder.modelled c.names_there.new.folder) (g.F.Folder.past self.folder) self.record.changes self.is_spoiled self.over c.requires.spoiled c.names_there.ensures.same c.names_there.ensures.are

pub invariant_of-self-in-None : goal.invariant_of-self-in-None
invariant_of-self-in-None g c =
    let self = c.args.self.now in
    let old = g.F.Folder.modelled self.folder in
    let new = g.F.Folder.modelled c.names_there.new.folder in
    let same = c.names_there.ensures.same in
    let F : Option _ → Type 0 = λ k. ∥ AreKnownNames ghosts.cmp (told_history new self.record.changes) k ∥₁ in
    record {
      few = self.few;
      counted = self.counted;
      over = over_same old new (g.F.Folder.past self.folder) (g.F.Folder.past c.names_there.new.folder) self.record.changes self.is_spoiled self.over same c.names_there.ensures.still;
      listed = subst F (sym c.take.ensures.after) ∣ tt ∣₁;
      noted = noted_same self.is_spoiled self.changed old new same self.noted;
      locked = locked_same old new self.is_held self.is_spoiled self.locked same;
    }
