use Rattle.folder_disk.proofs.Common.{◌≡◌, Bool, true, false, ℕ, List, [], ◌∷◌, ◌++◌, Option, Ok, Err, map, string_bytes, refl, sym, ◌∙◌, ap, subst, System, ArePathsIn, Modelled, IfModelled, IfSound, ghosts, folder_text, AddsFiles}
use Rattle.folder_disk.proofs.EachLemmas.{each_none, each_more}
use Rattle.folder_disk.proofs.NamesLemmas.{HasFilesAt, NoPath, adds_so_far, files_stay, files_added, adds_folder, none_so_far}
use Rattle.folder_disk.proofs.PlaceLemmas.{folder_path_is}
use Rattle.folder_disk.proofs.names.add_files.Goals as goal

pub paths_in-requires-clause-spelled : goal.paths_in-requires-clause-spelled
paths_in-requires-clause-spelled g c =
    let value = c.as_str.ensures.value in
    let named = c.in_ok-path.ensures in
    let is : c.as_str.result.now ≡ folder_text c.args.within = cc in
    folder_path_is c.args.within c.as_str.result.now c.known_folder.ensures is

pub loop-path-init : goal.loop-path-init
loop-path-init g c =
    (none_so_far (g.F.Folder.modelled c.args.folder.now) c.args.names.now, each_none (λ path. IfModelled (g.F.Folder.modelled c.args.folder.now) (HasFilesAt (λ p. p ≡ string_bytes path) c.args.names.now)) c.deref-path-items.result.now, c.in_ok-paths.ensures.same, c.in_ok-paths.ensures.still)

pub loop-path-preserved : goal.loop-path-preserved
loop-path-preserved g c =
    let at : List ℕ → Type 0 = λ p. p ≡ string_bytes c.path-item.result in
    let F : Option Modelled → Type 0 = λ m. IfModelled m (λ s. AddsFiles ghosts.cmp (λ p. p ≡ c.as_str-in-loop-path.result.now) s c.loop-path.names c.add_file.new.names) in
    let G : List ℕ → Type 0 = λ q. IfModelled (g.F.Folder.modelled c.args.folder.now) (λ s. AddsFiles ghosts.cmp (λ p. p ≡ q) s c.loop-path.names c.add_file.new.names) in
    let added = subst G c.as_str-in-loop-path.ensures.value (subst F c.loop-path.invariant.2 c.in_ok-add_file.ensures.added) in (
      adds_so_far at (g.F.Folder.modelled c.args.folder.now) c.args.names.now c.loop-path.names c.add_file.new.names c.loop-path.invariant.0 added,
      each_more (λ path. IfModelled (g.F.Folder.modelled c.args.folder.now) (HasFilesAt (λ p. p ≡ string_bytes path) c.loop-path.names)) (λ path. IfModelled (g.F.Folder.modelled c.args.folder.now) (HasFilesAt (λ p. p ≡ string_bytes path) c.add_file.new.names)) c.deref-path-items.result.now c.loop-path.path-index c.path-item.result (λ path has. files_stay (λ p. p ≡ string_bytes path) at (g.F.Folder.modelled c.args.folder.now) c.loop-path.names c.add_file.new.names added has)
          c.loop-path-test.true c.path-item.is c.loop-path.invariant.1 (files_added at (g.F.Folder.modelled c.args.folder.now) c.loop-path.names c.add_file.new.names added),
      c.in_ok-add_file.ensures.same ∙ c.loop-path.invariant.2,
      c.in_ok-add_file.ensures.still ∙ c.loop-path.invariant.3,
    )

pub returns-clause-added : goal.returns-clause-added
returns-clause-added g c =
    let value = c.as_str.ensures.value in
    let named = c.in_ok-path.ensures in
    let is : c.as_str.result.now ≡ folder_text c.args.within = cc in
    let G : List _ → Type 0 = λ l. IfSound (g.F.Folder.modelled c.args.folder.now) (λ s. ArePathsIn s c.as_str.result.now (map string_bytes l)) in
    adds_folder string_bytes (g.F.Folder.modelled c.args.folder.now) c.as_str.result.now c.args.within c.deref-path-items.result.now c.loop-path.path-index c.in_ok-path.path c.args.names.now c.loop-path.names is c.loop-path-test.false c.requires.sound
    (subst G (sym c.deref-path-items.ensures.value) c.in_ok-paths.ensures.paths) c.loop-path.invariant.0 c.loop-path.invariant.1
