use Rattle.folder_disk.proofs.Common.{◌≡◌, length, IfSome, IfNone, string_bytes, subst, path_text, IsStoreFile, Option, ap, ghosts, IsSettledLog, told_history}
use Rattle.folder_disk.proofs.ReadLemmas.{settled_read, octets_found, none_found, other_found}
use Rattle.folder_disk.proofs.ChangedLemmas.{noted_same}
use Rattle.folder_disk.proofs.KnownLemmas.{known_same}
use Rattle.folder_disk.proofs.OverLemmas.{over_same, locked_same}
use Rattle.folder_disk.proofs.disk.FolderDisk.octets_of.Goals as goal

pub returns-in-Some-clause-octets : goal.returns-in-Some-clause-octets
returns-in-Some-clause-octets g c =
    let self = c.path_to_use.new.self in
    let old = c.args.self.now in
    let file = subst (λ o. IfSome o (λ path. IsStoreFile c.args.name × (string_bytes path ≡ path_text c.args.name))) c.in-Some.is c.in_ok-path.ensures.file in
    let value = c.as_str.ensures.value in
    let named = file.1 in
    let is : c.as_str.result.now ≡ path_text c.args.name = cc in
    octets_found c.read_at.result (g.F.Folder.modelled self.folder) (g.F.Folder.past self.folder) self.record.changes self.is_spoiled c.args.name c.as_str.result.now
    c.args.offset (length c.args.into.now) c.read_at.new.into
    (told_history (g.F.Folder.modelled old.folder) old.record.changes) c.path_to_use.ensures.told self.over c.in_ok-path.ensures.spoiled file.0 is c.read_at.ensures.some

pub returns-in-Some-clause-none : goal.returns-in-Some-clause-none
returns-in-Some-clause-none g c =
    let self = c.path_to_use.new.self in
    let old = c.args.self.now in
    let file = subst (λ o. IfSome o (λ path. IsStoreFile c.args.name × (string_bytes path ≡ path_text c.args.name))) c.in-Some.is c.in_ok-path.ensures.file in
    let value = c.as_str.ensures.value in
    let named = file.1 in
    let is : c.as_str.result.now ≡ path_text c.args.name = cc in
    none_found c.read_at.result (g.F.Folder.modelled self.folder) (g.F.Folder.past self.folder) self.record.changes self.is_spoiled c.args.name c.as_str.result.now
    (told_history (g.F.Folder.modelled old.folder) old.record.changes) c.path_to_use.ensures.told self.over c.in_ok-path.ensures.spoiled file.0 is c.read_at.ensures.none

pub returns-in-None-clause-none : goal.returns-in-None-clause-none
returns-in-None-clause-none g c =
    let self = c.path_to_use.new.self in
    let old = c.args.self.now in
    other_found (g.F.Folder.modelled self.folder) (g.F.Folder.past self.folder) self.record.changes self.is_spoiled c.args.name
    (told_history (g.F.Folder.modelled old.folder) old.record.changes) c.path_to_use.ensures.told self.over
    (subst (λ o. IfNone o (IsStoreFile c.args.name → ⊥)) c.in-None.is c.in_ok-path.ensures.none)

pub returns-in-Some-clause-settled : goal.returns-in-Some-clause-settled
returns-in-Some-clause-settled g c =
    let self = c.path_to_use.new.self in
    let firm = c.args.self.now.firm in
    let F : Option _ → Type 0 = λ o. IfSome o (λ path. IsStoreFile c.args.name × (string_bytes path ≡ path_text c.args.name)) in
    let G : Option _ → Type 0 = λ o. IfSome o (λ path. IsSettledLog ghosts.cmp firm c.args.name (string_bytes path) (g.F.Folder.modelled self.folder)) in
    let file = subst F c.in-Some.is c.in_ok-path.ensures.file in
    let settled = subst G c.in-Some.is c.in_ok-path.ensures.settled in
    settled_read c.read_at.result firm c.args.name _ (path_text c.args.name) (g.F.Folder.modelled self.folder) (g.F.Folder.modelled c.read_at.new.folder) file.1 c.read_at.ensures.same settled

pub invariant_of-self : goal.invariant_of-self
invariant_of-self g c =
    let self = c.path_to_use.new.self in
    let changes = self.record.changes in
    let old = g.F.Folder.modelled self.folder in
    let new = g.F.Folder.modelled c.read_at.new.folder in
    let same = c.read_at.ensures.same in
    record {
      few = self.few;
      counted = self.counted;
      over = over_same old new (g.F.Folder.past self.folder) (g.F.Folder.past c.read_at.new.folder) changes self.is_spoiled self.over same c.read_at.ensures.still;
      listed = known_same (told_history old changes) (told_history new changes) self.names (ap (λ m. told_history m changes) same) self.listed;
      noted = noted_same self.is_spoiled self.changed old new same self.noted;
      locked = locked_same old new self.is_held self.is_spoiled self.locked same;
    }
