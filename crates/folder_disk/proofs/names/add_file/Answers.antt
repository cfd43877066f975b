use Rattle.folder_disk.proofs.Common.{◌≡◌, Bool, true, false, ℕ, List, [], ◌∷◌, ◌++◌, Option, Ok, Err, map, string_bytes, refl, sym, ◌∙◌, ap, subst, FileName, path_text, IsStoreFile}
use Rattle.folder_disk.proofs.NamesLemmas.{adds_none, no_name}
use Rattle.folder_disk.proofs.names.add_file.Goals as goal

pub returns-in-None-clause-added : goal.returns-in-None-clause-added
returns-in-None-clause-added g c =
    let G : List ℕ → Type 0 = λ p. (name : FileName) → IsStoreFile name → p ≡ path_text name → ⊥ in
    adds_none (λ p. p ≡ c.args.path.now) (g.F.Folder.modelled c.args.folder.now) c.args.names.now (no_name (g.F.Folder.modelled c.args.folder.now) c.args.path.now (subst G c.as_bytes.ensures.value c.in-None.ensures.none))
