-- Looking files up by name.
use Rattle.std.proofs.Common.{◌≡◌, inl, inr, ℕ, zero, suc, ◌<◌, false, cond, List, [], ◌∷◌, ◌++◌, length, take, set, slice_get, Some, None, refl, sym, ◌∙◌, ap, arith}
use Rattle.std.proofs.lemmas.Bool.{cond-true, cond-false, cases_Bool}
use Rattle.disk_model.specs.Name.{same_name}
use Rattle.disk_model.specs.declared.name.FileName.{FileName}
use Rattle.disk_model.proofs.NameLemmas.{same_name-eq}
use Rattle.disk_mem.specs.declared.file.File.{File}
use Rattle.disk_mem.specs.Record.{found}

found-cons-same : (file : File) (files : List File) (name : FileName) → file.name ≡ name → found (file ∷ files) name ≡ Some file
found-cons-same file files name e =
    cond-true (same_name name file.name) (Some file) (found files name) (same_name-eq name file.name (sym e))

found-cons-other : (file : File) (files : List File) (name : FileName) → same_name name file.name ≡ false → found (file ∷ files) name ≡ found files name
found-cons-other file files name e = cond-false (same_name name file.name) (Some file) (found files name) e

found-cons-none : (file : File) (files : List File) (name : FileName) → found (file ∷ files) name ≡ None → (same_name name file.name ≡ false) × (found files name ≡ None)
found-cons-none file files name e = elim (cases_Bool (same_name name file.name)) [
  | inl same ↦ absurd (let h : found (file ∷ files) name ≡ Some file = cond-true (same_name name file.name) (Some file) (found files name) same in cc)
  | inr other ↦ (other, sym (found-cons-other file files name other) ∙ e)
]

pub found-push-other : (files : List File) (file : File) (name : FileName) → same_name name file.name ≡ false → found (files ++ file ∷ []) name ≡ found files name
found-push-other [] file name other = found-cons-other file [] name other
found-push-other (f ∷ fs) file name other =
    ap (λ rest. cond (same_name name f.name) (Some f) rest) (found-push-other fs file name other)

pub found-push-here : (files : List File) (file : File) (name : FileName) → found files name ≡ None → file.name ≡ name → found (files ++ file ∷ []) name ≡ Some file
found-push-here [] file name none e = found-cons-same file [] name e
found-push-here (f ∷ fs) file name none e =
    let parts = found-cons-none f fs name none in
    found-cons-other f (fs ++ file ∷ []) name parts.0 ∙ found-push-here fs file name parts.1 e

pub found-here : (files : List File) (name : FileName) (i : ℕ) (file : File) → slice_get files i ≡ Some file → file.name ≡ name
    → found (take i files) name ≡ None → found files name ≡ Some file
found-here [] name i file at e first = absurd (let h : None ≡ Some file = at in cc)
found-here (f ∷ fs) name zero file at e first =
    let same : f ≡ file = let h : Some f ≡ Some file = at in cc in
    found-cons-same f fs name (ap (λ (g : File). g.name) same ∙ e) ∙ at
found-here (f ∷ fs) name (suc i) file at e first =
    let parts = found-cons-none f (take i fs) name first in
    found-cons-other f fs name parts.0 ∙ found-here fs name i file at e parts.1

pub found-set-here : (files : List File) (name : FileName) (i : ℕ) (file : File) → i < length files → file.name ≡ name
    → found (take i files) name ≡ None → found (set files i file) name ≡ Some file
found-set-here [] name i file below e first = absurd (omega (arith, below))
found-set-here (f ∷ fs) name zero file below e first = found-cons-same file fs name e
found-set-here (f ∷ fs) name (suc i) file below e first =
    let parts = found-cons-none f (take i fs) name first in
    found-cons-other f (set fs i file) name parts.0 ∙ found-set-here fs name i file (omega (arith, below)) e parts.1

pub found-set-other : (files : List File) (other : FileName) (i : ℕ) (was file : File) → slice_get files i ≡ Some was
    → same_name other was.name ≡ false → same_name other file.name ≡ false → found (set files i file) other ≡ found files other
found-set-other [] other i was file at a b = refl
found-set-other (f ∷ fs) other zero was file at a b =
    let same : f ≡ was = let h : Some f ≡ Some was = at in cc in
    let off : same_name other f.name ≡ false = ap (λ (g : File). same_name other g.name) same ∙ a in
    found-cons-other file fs other b ∙ sym (found-cons-other f fs other off)
found-set-other (f ∷ fs) other (suc i) was file at a b =
    ap (λ rest. cond (same_name other f.name) (Some f) rest) (found-set-other fs other i was file at a b)
