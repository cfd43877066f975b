use Rattle.folder_disk.proofs.Common.{◌≡◌, Bool, true, false, ℕ, List, [], ◌∷◌, ◌++◌, Option, Ok, Err, map, string_bytes, refl, sym, ◌∙◌, ap, subst, folder_at, Modelled, IfModelled, ghosts, folder_text, HasAllFolders, StandInFolders, AddsFiles, FolderName}
use Rattle.folder_disk.proofs.EachLemmas.{each_none, each_at}
use Rattle.folder_disk.proofs.NamesLemmas.{HasFilesAt, NoPath, adds_so_far, adds_at, files_stay, files_added, adds_all, none_so_far}
use Rattle.folder_disk.proofs.names.names_there.Goals as goal

pub loop-within-init : goal.loop-within-init
loop-within-init g c =
    (none_so_far (g.F.Folder.modelled c.args.folder.now) c.new-names.result, each_none (λ within. IfModelled (g.F.Folder.modelled c.args.folder.now) (HasFilesAt (λ p. folder_at p ≡ folder_text within) c.new-names.result)) c.deref-within-items.result.now, c.in_ok-folders.ensures.same, c.in_ok-folders.ensures.still)

pub loop-within-preserved : goal.loop-within-preserved
loop-within-preserved g c =
    let added = adds_at _ (g.F.Folder.modelled c.loop-within.folder) (g.F.Folder.modelled c.args.folder.now) c.loop-within.names c.add_files.new.names c.loop-within.invariant.2 c.in_ok-add_files.ensures.added in (
      adds_so_far _ (g.F.Folder.modelled c.args.folder.now) c.new-names.result c.loop-within.names c.add_files.new.names c.loop-within.invariant.0 added,
      each_at (λ within. IfModelled (g.F.Folder.modelled c.args.folder.now) (HasFilesAt (λ p. folder_at p ≡ folder_text within) c.loop-within.names)) (λ within. IfModelled (g.F.Folder.modelled c.args.folder.now) (HasFilesAt (λ p. folder_at p ≡ folder_text within) c.add_files.new.names)) c.deref-within-items.result.now c.loop-within.within-index _ (λ within has. files_stay (λ p. folder_at p ≡ folder_text within) _ (g.F.Folder.modelled c.args.folder.now) c.loop-within.names c.add_files.new.names added has)
          c.loop-within-test.true c.loop-within.invariant.1 (files_added _ (g.F.Folder.modelled c.args.folder.now) c.loop-within.names c.add_files.new.names added),
      c.in_ok-add_files.ensures.same ∙ c.loop-within.invariant.2,
      c.in_ok-add_files.ensures.still ∙ c.loop-within.invariant.3,
    )

pub returns-clause-are : goal.returns-clause-are
returns-clause-are g c =
    let G : List FolderName → Type 0 = λ l. IfModelled (g.F.Folder.modelled c.args.folder.now) (λ s. StandInFolders s → HasAllFolders s l) in
    adds_all (g.F.Folder.modelled c.args.folder.now) c.deref-within-items.result.now c.loop-within.within-index c.new-names.result c.loop-within.names c.new-names.ensures.empty c.loop-within-test.false
    (subst G (sym c.deref-within-items.ensures.value) c.in_ok-folders.ensures.all) c.loop-within.invariant.0 c.loop-within.invariant.1
