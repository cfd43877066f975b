-- The file at a path, as calls find it and change it.
use Rattle.folder_disk.proofs.Common.{◌≡◌, ◌≢◌, inl, inr, ℕ, List, Option, Some, None, refl, sym, ◌∙◌, ap, subst, FileState, FileName, path_text, IsStoreFile, spelled, IsPath, Node, Nothing, PlainFile, AFolder, Another, System, with_content, Modelled, IfModelled, IfSound, Becomes, AreSince, done_by}
use Rattle.folder_disk.proofs.Common.{kind_of_node, Kind, IsOpenedAt, IsSoundSystem, HasFileAt, IsChanged, IsPartlyChanged}
use Rattle.folder_model.specs.Calls.{IsPartlyDone}
use Rattle.folder_model.specs.declared.folder.Kind.TheVariants as kind
use Rattle.folder_calls.specs.Writing.{IsWriting, IsOnItsWay}
use Rattle.folder_disk.specs.Files.{AreAfter}

-- a fact of a sound system
pub by_sound : (P : System → Type 0) (m : Option Modelled) → IsSoundSystem m → IfSound m P → IfModelled m P
by_sound P None sound is = tt
by_sound P (Some m) sound is = is sound

-- one fact of the present system follows from two
pub both_told : (P Q R : System → Type 0) (m : Option Modelled) → ((s : System) → P s → Q s → R s) → IfModelled m P → IfModelled m Q → IfModelled m R
both_told P Q R None f p q = tt
both_told P Q R (Some m) f p q = f m.now p q

pub one_told : (P Q : System → Type 0) (m : Option Modelled) → ((s : System) → P s → Q s) → IfModelled m P → IfModelled m Q
one_told P Q None f p = tt
one_told P Q (Some m) f p = f m.now p

kind_file : (node : Node) → kind.File ≡ kind_of_node node → (n : ℕ) × (node ≡ PlainFile n)
kind_file Nothing e = absurd (let d : kind.File ≡ kind.Nothing = e in cc)
kind_file (PlainFile n) e = (n, refl)
kind_file AFolder e = absurd (let d : kind.File ≡ kind.Folder = e in cc)
kind_file Another e = absurd (let d : kind.File ≡ kind.Other = e in cc)

-- the file that was looked at was opened
pub opened_is : {File : Type 0} (number : File → ℕ) (file : File) (node : Node) → kind.File ≡ kind_of_node node → ((n : ℕ) → node ≡ PlainFile n → number file ≡ n) → IsOpenedAt number (Some file) node
opened_is number file node e same = let k = kind_file node e in k.1 ∙ ap PlainFile (sym (same k.0 k.1))

-- what is no plain file isn't opened
pub unopened : {File : Type 0} (number : File → ℕ) (k : Kind) (node : Node) → k ≡ kind_of_node node → k ≢ kind.File → IsOpenedAt number None node
unopened number k node e other n is = other (e ∙ ap kind_of_node is)

-- a change of the file that stands at a path
pub changed : (path : List ℕ) (number : ℕ) (step : FileState → FileState) (old new : Option Modelled) → IfModelled old (λ s. s.node path ≡ PlainFile number)
    → new ≡ done_by (with_content number step) old → Becomes (IsChanged path step) old new
changed path number step None new stands e = e
changed path number step (Some m) new stands e =
    let F : Option Modelled → Type 0 = Becomes (IsChanged path step) (Some m) in
    subst F (sym e) (refl, (number, stands, refl))

-- a part of one, or nothing
pub partly_changed : (path : List ℕ) (number : ℕ) (R : FileState → FileState → Type 0) (old new : Option Modelled) → IfModelled old (λ s. s.node path ≡ PlainFile number)
    → IsPartlyDone number R old new → Becomes (IsPartlyChanged path R) old new
partly_changed path number R None new stands (inl e) = e
partly_changed path number R None new stands (inr e) = e
partly_changed path number R (Some m) new stands (inl e) =
    let F : Option Modelled → Type 0 = Becomes (IsPartlyChanged path R) (Some m) in
    subst F (sym e) (refl, inl refl)
partly_changed path number R (Some m) None stands (inr e) = elim e [ ]
partly_changed path number R (Some m) (Some n) stands (inr e) = (e.0, inr (number, stands, e.1))

-- nothing
pub not_changed : (path : List ℕ) (R : FileState → FileState → Type 0) (old new : Option Modelled) → new ≡ old → Becomes (IsPartlyChanged path R) old new
not_changed path R None new e = e
not_changed path R (Some m) new e = let F : Option Modelled → Type 0 = Becomes (IsPartlyChanged path R) (Some m) in subst F (sym e) (refl, inl refl)

-- the systems on the way of a write of this file
pub on_way_at : (path : List ℕ) (number at : ℕ) (octets : List ℕ) (old : Option Modelled) (start past : List System) → IfModelled old (λ s. s.node path ≡ PlainFile number)
    → AreSince (IsOnItsWay number at octets old) start past → AreAfter (λ before s. HasFileAt before path (λ k. IsWriting k at octets before s)) old start past
on_way_at path number at octets old start past stands since s has = elim (since s has) [
  | inl before ↦ inl before
  | inr way ↦ inr (both_told _ _ _ old (λ before is w. (number, is, w)) stands way)
]

-- the path of a file is of one spelling
pub path_is : (name : FileName) (path : List ℕ) → IsStoreFile name → path ≡ path_text name → IsPath path
path_is name path file is = let F : List ℕ → Type 0 = IsPath in subst F (sym is) (spelled name file)
