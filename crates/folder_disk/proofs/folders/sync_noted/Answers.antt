use Rattle.folder_disk.proofs.Common.{◌≡◌, List, Option, sym, subst, Modelled, IfModelled}
use Rattle.folder_disk.specs.Changed.{AreSyncedBut}
use Rattle.folder_disk.proofs.ChangedLemmas.{all_synced}
use Rattle.folder_disk.proofs.UnseenLemmas.{on_ok_three}
use Rattle.folder_disk.proofs.folders.sync_noted.Goals as goal

pub returns-clause-synced : goal.returns-clause-synced
returns-clause-synced g c =
    let mid = g.F.Folder.modelled c.check_top.new.folder in
    let new = g.F.Folder.modelled c.sync_each.new.folder in
    let changed = c.args.changed.now in
    let F : Option Modelled → Type 0 = λ m. ∥ IfModelled m (AreSyncedBut changed) ∥₁ in
    let but = subst F (sym c.check_top.ensures.same) c.requires.noted in
    on_ok_three c.sync_each.result (λ nodes names done. all_synced changed c.deref.result.now mid new c.deref.ensures.value c.requires.some but c.in_ok-check_top.ensures.there nodes names done)
    c.sync_each.ensures.nodes c.sync_each.ensures.names c.sync_each.ensures.done
