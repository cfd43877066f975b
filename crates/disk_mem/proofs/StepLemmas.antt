-- What a note's change does to files as they read.
use Rattle.std.proofs.Common.{◌≡◌, inl, inr, ℕ, zero, suc, ◌<◌, true, false, ◌||◌, List, [], ◌∷◌, ◌++◌, length, set, slice_get, Option, Some, None, refl, sym, ◌∙◌, subst, ap, arith, Result, Ok, Err, OnOk, OnErr}
use Rattle.std.proofs.lemmas.Bool.{cond-true, cond-false, cases_Bool, or_left, or_right, or_from, false≢true}
use Rattle.disk_model.specs.Disk.{FileState, DiskState, no_file}
use Rattle.disk_model.specs.Name.{same_name}
use Rattle.disk_model.specs.declared.name.FileName.{FileName}
use Rattle.disk_model.proofs.NameLemmas.{same_name-refl, same_name-true}
use Rattle.disk_mem.specs.declared.file.File.{File}
use Rattle.disk_mem.specs.declared.note.Note.{Note}
use Rattle.disk_mem.specs.declared.note.Change.{Change}
use Rattle.disk_mem.specs.declared.note.Change.TheVariants.{Made, Removed, NamesSynced}
use Rattle.disk_mem.specs.Record.{found, changed, is_for_all, at_file, stepped, ReadsAs, IsReadAt, ReadsAll, IsPlaceOf, SameFile}
use Rattle.disk_mem.proofs.FileLemmas.{found-here, found-set-here, found-set-other, found-push-here, found-push-other}

pub not_for_all : (change : Change) → (change ≡ NamesSynced → ⊥) → is_for_all change ≡ false
not_for_all NamesSynced no_sync = absurd (no_sync refl)
not_for_all _ no_sync = refl

pub at_file-own : (name : FileName) (note : Note) (f : FileState) → same_name name note.name ≡ true → at_file name note f ≡ changed note.change f
at_file-own name note f own =
    cond-true (is_for_all note.change || same_name name note.name) (changed note.change f) f
    (or_right (is_for_all note.change) (same_name name note.name) own)

pub at_file-all : (name : FileName) (note : Note) (f : FileState) → is_for_all note.change ≡ true → at_file name note f ≡ changed note.change f
at_file-all name note f all =
    cond-true (is_for_all note.change || same_name name note.name) (changed note.change f) f
    (or_left (is_for_all note.change) (same_name name note.name) all)

pub at_file-other : (name : FileName) (note : Note) (f : FileState) → is_for_all note.change ≡ false → same_name name note.name ≡ false → at_file name note f ≡ f
at_file-other name note f one other =
    cond-false (is_for_all note.change || same_name name note.name) (changed note.change f) f
    (or_from (is_for_all note.change) (same_name name note.name) one other)

pub slice_get-lt : {X : Type 0} (xs : List X) (i : ℕ) (x : X) → slice_get xs i ≡ Some x → i < length xs
slice_get-lt [] i x at = absurd (let h : None ≡ Some x = at in cc)
slice_get-lt (y ∷ ys) zero x at = omega arith
slice_get-lt (y ∷ ys) (suc i) x at = let below : i < length ys = slice_get-lt ys i x at in omega arith

-- a file of this name takes its place
pub reads-set : (files : List File) (name : FileName) (i : ℕ) (file : File) (disk next : DiskState) → IsPlaceOf files name i → file.name ≡ name
    → ReadsAs file (next name) → ((other : FileName) → same_name other name ≡ false → next other ≡ disk other) → ReadsAll files disk → ReadsAll (set files i file) next
reads-set files name i file disk next place e here others reads = λ other. elim (cases_Bool (same_name other name)) [
  | inl same ↦
      let is : other ≡ name = same_name-true other name same in
      let at : found (set files i file) name ≡ Some file = found-set-here files name i file (slice_get-lt files i place.file place.at) e place.first in
      let F : Option File → Type 0 = λ o. IsReadAt o (next name) in
      let G : FileName → Type 0 = λ n. IsReadAt (found (set files i file) n) (next n) in
      subst G (sym is) (subst F (sym at) here)
  | inr apart ↦
      let at : found (set files i file) other ≡ found files other =
      found-set-other files other i place.file file place.at (ap (same_name other) place.named ∙ apart) (ap (same_name other) e ∙ apart) in
      let F : Option File → Type 0 = λ o. IsReadAt o (next other) in
      let G : FileState → Type 0 = λ f. IsReadAt (found files other) f in
      subst F (sym at) (subst G (sym (others other apart)) (reads other))
]

-- a file of a name that wasn't there
pub reads-push : (files : List File) (name : FileName) (file : File) (disk next : DiskState) → found files name ≡ None → file.name ≡ name
    → ReadsAs file (next name) → ((other : FileName) → same_name other name ≡ false → next other ≡ disk other) → ReadsAll files disk → ReadsAll (files ++ file ∷ []) next
reads-push files name file disk next none e here others reads = λ other. elim (cases_Bool (same_name other name)) [
  | inl same ↦
      let is : other ≡ name = same_name-true other name same in
      let at : found (files ++ file ∷ []) name ≡ Some file = found-push-here files file name none e in
      let F : Option File → Type 0 = λ o. IsReadAt o (next name) in
      let G : FileName → Type 0 = λ n. IsReadAt (found (files ++ file ∷ []) n) (next n) in
      subst G (sym is) (subst F (sym at) here)
  | inr apart ↦
      let at : found (files ++ file ∷ []) other ≡ found files other = found-push-other files file other (ap (same_name other) e ∙ apart) in
      let F : Option File → Type 0 = λ o. IsReadAt o (next other) in
      let G : FileState → Type 0 = λ f. IsReadAt (found files other) f in
      subst F (sym at) (subst G (sym (others other apart)) (reads other))
]

-- a file that isn't there stays so, but for its making
changed-gone : (change : Change) (f : FileState) → (change ≡ Made → ⊥) → f.is_there ≡ false → (changed change f).is_there ≡ false
changed-gone Made f not_made gone = absurd (not_made refl)
changed-gone Removed f not_made gone = refl
changed-gone NamesSynced f not_made gone =
    ap (λ (g : FileState). g.is_there) (cond-false f.is_there (record f { is_name_loose = false }) no_file gone)
changed-gone _ f not_made gone = gone

pub reads-none : (files : List File) (note : Note) (disk : DiskState) → found files note.name ≡ None → is_for_all note.change ≡ false
    → (note.change ≡ Made → ⊥) → ReadsAll files disk → ReadsAll files (stepped note disk)
reads-none files note disk none one not_made reads = λ other. elim (cases_Bool (same_name other note.name)) [
  | inl same ↦
      let is : other ≡ note.name = same_name-true other note.name same in
      let at : found files other ≡ None = ap (found files) is ∙ none in
      let was : (disk other).is_there ≡ false = let F : Option File → Type 0 = λ o. IsReadAt o (disk other) in (subst F at (reads other)).0 in
      let gone : (at_file other note (disk other)).is_there ≡ false =
      ap (λ (g : FileState). g.is_there) (at_file-own other note (disk other) same) ∙ changed-gone note.change (disk other) not_made was in
      let F : Option File → Type 0 = λ o. IsReadAt o (stepped note disk other) in
      subst F (sym at) (gone, λ there. absurd (false≢true (sym gone ∙ there)))
  | inr apart ↦
      let G : FileState → Type 0 = λ f. IsReadAt (found files other) f in
      subst G (sym (at_file-other other note (disk other) one apart)) (reads other)
]

pub on_ok : {T E : Type 0} (r : Result T E) {P Q : Type 0} → (P → Q) → OnOk r P → OnOk r Q
on_ok (Ok x) f p = f p
on_ok (Err x) f p = tt

pub on_err : {T E : Type 0} (r : Result T E) {P Q : Type 0} → (P → Q) → OnErr r P → OnErr r Q
on_err (Ok x) f p = tt
on_err (Err x) f p = f p

-- the change of a note, made to the file of its name
pub reads-stepped : (files : List File) (note : Note) (i : ℕ) (file : File) → is_for_all note.change ≡ false → IsPlaceOf files note.name i → file.name ≡ note.name
    → ((f : FileState) → (was : File) → slice_get files i ≡ Some was → ReadsAs was f → ReadsAs file (changed note.change f))
    → (disk : DiskState) → ReadsAll files disk → ReadsAll (set files i file) (stepped note disk)
reads-stepped files note i file one place e step disk reads =
    let at : found files note.name ≡ Some place.file = found-here files note.name i place.file place.at place.named place.first in
    let was : ReadsAs place.file (disk note.name) = let F : Option File → Type 0 = λ o. IsReadAt o (disk note.name) in subst F at (reads note.name) in
    let own : at_file note.name note (disk note.name) ≡ changed note.change (disk note.name) = at_file-own note.name note (disk note.name) (same_name-refl note.name) in
    let here : ReadsAs file (stepped note disk note.name) =
    let F : FileState → Type 0 = ReadsAs file in
    subst F (sym own) (step (disk note.name) place.file place.at was) in
    reads-set files note.name i file disk (stepped note disk) place e here (λ other apart. at_file-other other note (disk other) one apart) reads

-- the same file takes its place
pub reads-same : (files : List File) (name : FileName) (i : ℕ) (was file : File) → slice_get files i ≡ Some was → IsPlaceOf files name i → SameFile was file
    → (disk : DiskState) → ReadsAll files disk → ReadsAll (set files i file) disk
reads-same files name i was file at place same disk reads =
    let is : place.file ≡ was = let h : Some place.file ≡ Some was = sym place.at ∙ at in cc in
    let e : file.name ≡ name = same.name ∙ ap (λ (g : File). g.name) (sym is) ∙ place.named in
    let found_at : found files name ≡ Some place.file = found-here files name i place.file place.at place.named place.first in
    let before : ReadsAs place.file (disk name) = let F : Option File → Type 0 = λ o. IsReadAt o (disk name) in subst F found_at (reads name) in
    let before_was : ReadsAs was (disk name) = let F : File → Type 0 = λ g. ReadsAs g (disk name) in subst F is before in
    let here : ReadsAs file (disk name) = (before_was.0 ∙ sym same.is_there, λ there. before_was.1 there ∙ sym same.octets) in
    reads-set files name i file disk disk place e here (λ other apart. refl) reads
