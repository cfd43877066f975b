-- A store's disk may begin with an empty folder.
use Rattle.std.proofs.Common.{◌≡◌, inl, inr, ℕ, Bool, true, false, if◌then◌else◌, List, Option, Some, codes, refl, sym, subst, arith}
use Rattle.std.specs.Bool.{⊤}
use Rattle.std.proofs.lemmas.Bool.{cases_Bool, cond-false}
use Rattle.disk_model.specs.Name.{same_octets}
use Rattle.disk_model.proofs.NameLemmas.{same_octets-true}
use Rattle.folder_model.specs.System.{Node, Nothing, PlainFile, AFolder, MayStand}
use Rattle.folder_model.specs.Calls.{Modelled, IfModelled}
use Rattle.folder_mem.specs.Notes.{empty_system}
use Rattle.folder_disk.specs.Over.{HasFolders, IsStoreSystem}

if_both : {A : Type 0} (P : A → Type 0) (b : Bool) (x y : A) → P x → P y → P (if b then x else y)
if_both P true x y p q = p
if_both P false x y p q = q

abbrev IsNoFile : Node → Type 0
IsNoFile (PlainFile number) = ⊥
IsNoFile other = ⊤

no_file : (path : List ℕ) (number : ℕ) → MayStand empty_system path (PlainFile number) → ⊥
no_file path number (inl is) = subst IsNoFile (sym is) (if_both IsNoFile (same_octets path (codes ".")) AFolder Nothing tt tt)
no_file path number (inr had) = absurd (omega (arith, had.1))

has_folders : HasFolders empty_system
has_folders path below = elim (cases_Bool (same_octets path (codes "."))) [
  | inl is ↦ absurd (below (same_octets-true path (codes ".") is))
  | inr apart ↦ inr (cond-false (same_octets path (codes ".")) AFolder Nothing apart, refl)
]

empty_is_store : IsStoreSystem empty_system
empty_is_store = record {
  sound = refl;
  own = record {
    own = λ path other number p o stands also. absurd (no_file path number stands);
    one = λ path number other p stands also. absurd (no_file path number stands);
  };
  folders = has_folders;
}

pub empty_serves : (m : Option Modelled) → m ≡ Some (record { start = empty_system; now = empty_system }) → IfModelled m IsStoreSystem
empty_serves m is = let F : Option Modelled → Type 0 = λ own. IfModelled own IsStoreSystem in subst F (sym is) empty_is_store
