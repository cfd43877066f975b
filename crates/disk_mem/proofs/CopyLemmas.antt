-- Lists of files, one more at a time.
use Rattle.std.proofs.Common.{◌≡◌, ◌≢◌, inl, inr, ℕ, ◌≤◌, false, List, [], ◌∷◌, ◌++◌, take, slice_get, Option, Some, None, refl, sym, ◌∙◌, ap, subst}
use Rattle.std.proofs.lemmas.Bool.{cases_Bool, cond-true, cond-false, cond_both, false_from_ne_true, false≢true}
use Rattle.disk_model.specs.Disk.{IsAtRest, FileState, DiskState, History, calls, MayLeave, reading, no_file, still}
use Rattle.disk_model.specs.Name.{same_name}
use Rattle.disk_model.specs.declared.name.FileName.{FileName}
use Rattle.disk_model.proofs.NameLemmas.{same_name-true}
use Rattle.disk_mem.specs.declared.file.File.{File}
use Rattle.disk_mem.specs.declared.note.Note.{Note}
use Rattle.disk_mem.specs.declared.choice.Choice.{Choice}
use Rattle.disk_mem.specs.Record.{found, at_rest, from_rest, IsReadAt, ReadsAll, SameFile, told_of, IsPlaceOf, file_after, played}
use Rattle.disk_mem.specs.Left.{IsCopy, IsLeft, AreLeft, IsOneMore, shown, shown_of, IsChosen, left_by_syncs, noted}
use Rattle.disk_mem.proofs.FileLemmas.{found-here, found-push-here}
use Rattle.disk_mem.proofs.ReadingLemmas.{place_of_found}
use Rattle.disk_mem.proofs.LeavingLemmas.{none_chosen, chosen_left, AreFit}
use Rattle.disk_mem.proofs.MomentLemmas.{told_at, played-file}
use Rattle.disk_mem.specs.Images.{IsImageOf, left_at}
use Rattle.disk_mem.specs.Mem.{told}
use Rattle.disk_mem.specs.Sound.{rest_sound}
use Rattle.disk_mem.specs.declared.disk.MemDisk.{MemDisk}

abbrev or_else : Option File → Option File → Option File
or_else None other = other
or_else (Some file) other = Some file

found-append : (xs ys : List File) (name : FileName) → found (xs ++ ys) name ≡ or_else (found xs name) (found ys name)
found-append [] ys name = refl
found-append (x ∷ xs) ys name = elim (cases_Bool (same_name name x.name)) [
  | inl same ↦
      cond-true (same_name name x.name) (Some x) (found (xs ++ ys) name) same
      ∙ ap (λ o. or_else o (found ys name)) (sym (cond-true (same_name name x.name) (Some x) (found xs name) same))
  | inr other ↦
      cond-false (same_name name x.name) (Some x) (found (xs ++ ys) name) other ∙ found-append xs ys name
      ∙ ap (λ o. or_else o (found ys name)) (sym (cond-false (same_name name x.name) (Some x) (found xs name) other))
]

-- the same, or none on both sides
abbrev pub IsCopies : Option File → Option File → Type 0
IsCopies None None = Unit {0}
IsCopies None (Some b) = ⊥
IsCopies (Some a) None = ⊥
IsCopies (Some a) (Some b) = SameFile a b

one_copy : (a b : File) (name : FileName) → SameFile a b → IsCopies (found (a ∷ []) name) (found (b ∷ []) name)
one_copy a b name same = elim (cases_Bool (same_name name a.name)) [
  | inl own ↦
      let left : found (a ∷ []) name ≡ Some a = cond-true (same_name name a.name) (Some a) None own in
      let right : found (b ∷ []) name ≡ Some b = cond-true (same_name name b.name) (Some b) None (ap (same_name name) same.name ∙ own) in
      let F : Option File → Type 0 = λ o. IsCopies o (found (b ∷ []) name) in
      let G : Option File → Type 0 = λ o. IsCopies (Some a) o in
      subst F (sym left) (subst G (sym right) same)
  | inr other ↦
      let left : found (a ∷ []) name ≡ None = cond-false (same_name name a.name) (Some a) None other in
      let right : found (b ∷ []) name ≡ None = cond-false (same_name name b.name) (Some b) None (ap (same_name name) same.name ∙ other) in
      let F : Option File → Type 0 = λ o. IsCopies o (found (b ∷ []) name) in
      let G : Option File → Type 0 = λ o. IsCopies None o in
      subst F (sym left) (subst G (sym right) tt)
]

or_copies : (a b c d : Option File) → IsCopies a b → IsCopies c d → IsCopies (or_else a c) (or_else b d)
or_copies None None c d first second = second
or_copies None (Some b) c d first second = elim first [ ]
or_copies (Some a) None c d first second = elim first [ ]
or_copies (Some a) (Some b) c d first second = first

pub copies_push : (xs ys : List File) (a b : File) (name : FileName) → IsCopies (found xs name) (found ys name) → SameFile a b
    → IsCopies (found (xs ++ a ∷ []) name) (found (ys ++ b ∷ []) name)
copies_push xs ys a b name copies same =
    let F : Option File → Type 0 = λ o. IsCopies o (found (ys ++ b ∷ []) name) in
    let G : Option File → Type 0 = λ o. IsCopies (or_else (found xs name) (found (a ∷ []) name)) o in
    subst F (sym (found-append xs (a ∷ []) name))
    (subst G (sym (found-append ys (b ∷ []) name)) (or_copies (found xs name) (found ys name) (found (a ∷ []) name) (found (b ∷ []) name) copies (one_copy a b name same)))

pub copy_is : (a b : Option File) → IsCopies a b → IsCopy a b
copy_is None None copies = record { there = refl; octets = refl }
copy_is None (Some b) copies = elim copies [ ]
copy_is (Some a) None copies = elim copies [ ]
copy_is (Some a) (Some b) copies = record { there = copies.is_there; octets = copies.octets }

-- a copy of files at rest reads as they do
rest_read : (file : Option File) → IsReadAt file (at_rest file)
rest_read None = (refl, λ there. refl)
rest_read (Some file) = elim (cases_Bool file.is_there) [
  | inl there ↦
      let e = cond-true file.is_there (still file.text.octets.items) no_file there in
      (ap (λ (g : FileState). g.is_there) e ∙ sym there, λ _. ap (λ (g : FileState). g.octets) e)
  | inr gone ↦
      let e = cond-false file.is_there (still file.text.octets.items) no_file gone in
      (ap (λ (g : FileState). g.is_there) e ∙ sym gone, λ there. absurd (false≢true (sym (ap (λ (g : FileState). g.is_there) e) ∙ there)))
]

pub rests_read : (base files : List File) (notes : List Note) → notes ≡ [] → ((name : FileName) → IsCopy (found base name) (found files name)) → ReadsAll files (told_of base notes 0).now
unfolding told_of
rests_read base files notes none copy =
    let F : List Note → Type 0 = λ notes. ReadsAll files (told_of base notes 0).now in
    subst F (sym none) (λ name.
    let own = rest_read (found base name) in
    (own.0 ∙ sym (copy name).there, λ there. own.1 there ∙ sym (copy name).octets))

pub shown-rest : (file : Option File) → reading (at_rest file) ≡ shown_of file
shown-rest None = refl
shown-rest (Some file) = elim (cases_Bool file.is_there) [
  | inl there ↦ ap reading (cond-true file.is_there (still file.text.octets.items) no_file there) ∙ sym (cond-true file.is_there (Some file.text.octets.items) None there)
  | inr gone ↦ ap reading (cond-false file.is_there (still file.text.octets.items) no_file gone) ∙ sym (cond-false file.is_there (Some file.text.octets.items) None gone)
]

one_left : (choice : Choice) (base : List File) (notes : List Note) (name other : FileName) (file own : File) → file.name ≡ name → IsLeft choice base notes name (shown file)
    → found (file ∷ []) other ≡ Some own → IsLeft choice base notes other (shown own)
one_left choice base notes name other file own e is at = elim (cases_Bool (same_name other file.name)) [
  | inl same ↦
      let f : Some file ≡ Some own = sym (cond-true (same_name other file.name) (Some file) None same) ∙ at in
      let g : file ≡ own = cc in
      let n : name ≡ other = sym e ∙ sym (same_name-true other file.name same) in
      let F : FileName → Type 0 = λ n. IsLeft choice base notes n (shown file) in
      let G : File → Type 0 = λ g. IsLeft choice base notes other (shown g) in
      subst G g (subst F n is)
  | inr apart ↦ absurd (let f : None ≡ Some own = sym (cond-false (same_name other file.name) (Some file) None apart) ∙ at in cc)
]

or_left_file : (choice : Choice) (base : List File) (notes : List Note) (other : FileName) (own : File) (a b : Option File)
    → ((g : File) → a ≡ Some g → IsLeft choice base notes other (shown g)) → (b ≡ Some own → IsLeft choice base notes other (shown own))
    → or_else a b ≡ Some own → IsLeft choice base notes other (shown own)
or_left_file choice base notes other own None b first second at = second at
or_left_file choice base notes other own (Some g) b first second at = first own at

or_none : (a b : Option File) → or_else a b ≡ None → a ≡ None
or_none None b e = refl
or_none (Some g) b e = e

-- one more file as a choice leaves it
pub left_push : (choice : Choice) (base : List File) (notes : List Note) (files : List File) (name : FileName) (file : File) → AreLeft choice base notes files
    → file.name ≡ name → IsLeft choice base notes name (shown file) → AreLeft choice base notes (files ++ file ∷ [])
left_push choice base notes files name file are e is = λ other own at.
    or_left_file choice base notes other own (found files other) (found (file ∷ []) other)
    (λ g here. are other g here) (one_left choice base notes name other file own e is) (sym (found-append files (file ∷ []) other) ∙ at)

pub added_push : (files : List File) (name : FileName) (file : File) → found files name ≡ None → file.name ≡ name → IsOneMore name files (files ++ file ∷ [])
added_push files name file none e = record {
  own = λ missing. absurd (let h : Some file ≡ None = sym (found-push-here files file name none e) ∙ missing in cc);
  others = λ other there missing. there (or_none (found files other) (found (file ∷ []) other) (sym (found-append files (file ∷ []) other) ∙ missing));
}

pub added_there : (files : List File) (name : FileName) (i : ℕ) → IsPlaceOf files name i → IsOneMore name files files
added_there files name i place = record {
  own = λ missing. absurd (let h : Some place.file ≡ None = sym (found-here files name i place.file place.at place.named place.first) ∙ missing in cc);
  others = λ other there. there;
}

not_own : (made : List File) (name other : FileName) → found made name ≡ None → found made other ≢ None → same_name name other ≡ false
not_own made name other none there = false_from_ne_true (same_name name other) (λ same.
    there (ap (found made) (sym (same_name-true name other same)) ∙ none))

not_in_base : (base made : List File) (name : FileName) → found made name ≡ None → ((k : ℕ) (file : File) → slice_get base k ≡ Some file → found made file.name ≢ None)
    → (own : Option File) → found base name ≡ own → own ≡ None
not_in_base base made name none of_base None at = refl
not_in_base base made name none of_base (Some file) at =
    let place = place_of_found base name file at in
    absurd (of_base place.0 file place.1 (ap (found made) place.2 ∙ none))

left_case : (choice : Choice) (base : List File) (notes : List Note) (made : List File) (name : FileName) → AreLeft choice base notes made
    → ((k : ℕ) (file : File) → slice_get base k ≡ Some file → found made file.name ≢ None)
    → ((k : ℕ) (note : Note) → slice_get notes k ≡ Some note → found made note.name ≢ None)
    → (own : Option File) → found made name ≡ own → IsLeft choice base notes name (shown_of own)
left_case choice base notes made name are of_base of_notes (Some file) at = are name file at
left_case choice base notes made name are of_base of_notes None at =
    let none : found base name ≡ None = not_in_base base made name at of_base (found base name) refl in
    let F : Option File → Type 0 = λ o. IsChosen choice (file_after name notes (at_rest o)) (left_by_syncs name notes (at_rest o)) None in
    subst F (sym none) (none_chosen choice name notes (λ k note here. not_own made name note.name at (of_notes k note here)))

-- what is left of a name of no file
pub left_none : (choice : Choice) (base : List File) (notes : List Note) (made : List File) (name : FileName) → AreLeft choice base notes made
    → ((k : ℕ) (file : File) → slice_get base k ≡ Some file → found made file.name ≢ None)
    → ((k : ℕ) (note : Note) → slice_get notes k ≡ Some note → found made note.name ≢ None)
    → IsLeft choice base notes name (shown_of (found made name))
left_none choice base notes made name are of_base of_notes = left_case choice base notes made name are of_base of_notes (found made name) refl

shown_fits : (file : Option File) → AreFit (shown_of file)
shown_fits None = tt
shown_fits (Some file) = cond_both file.is_there (Some file.text.octets.items) None AreFit (λ e. file.text.fit) (λ e. tt)

rest_is : (file : Option File) → IsAtRest (at_rest file)
rest_is None = inl refl
rest_is (Some file) = cond_both file.is_there (still file.text.octets.items) no_file IsAtRest (λ e. inr (file.text.octets.items, file.text.fit, refl)) (λ e. inl refl)

-- the disk of what a choice left
pub image_is : (old new : MemDisk) (m : ℕ) (choice : Choice) (made : List File) → m ≤ calls (told old)
    → ((name : FileName) → IsLeft choice old.base.items (take (noted m old.notes.items) old.notes.items) name (shown_of (found made name)))
    → told new ≡ from_rest made → IsImageOf old m choice new
image_is old new m choice made below left is =
    let notes = take (noted m old.notes.items) old.notes.items in
    let base = old.base.items in
    let state : DiskState = (played notes (from_rest base)).now in
    let own : (name : FileName) → state name ≡ file_after name notes (at_rest (found base name)) = λ name. played-file notes (from_rest base) name in
    let now : (name : FileName) → reading ((told new).now name) ≡ shown_of (found made name) = λ name.
    ap (λ (h : History). reading (h.now name)) is ∙ shown-rest (found made name) in
    record {
      state = state;
      at = told_at base old.notes.items old.idle m below;
      image = λ name.
          let F : FileState → Type 0 = λ f. MayLeave f (reading ((told new).now name)) in
          let G : Option (List ℕ) → Type 0 = λ o. MayLeave (file_after name notes (at_rest (found base name))) o in
          subst F (sym (own name)) (subst G (sym (now name))
          (chosen_left choice name notes (at_rest (found base name)) (shown_of (found made name)) (shown_fits (found made name)) (rest_sound (found base name)) (left name)));
      chosen = λ name.
          let F : FileState → Type 0 = λ f. IsChosen choice f (left_at old m name) (reading ((told new).now name)) in
          let G : Option (List ℕ) → Type 0 = λ o. IsChosen choice (file_after name notes (at_rest (found base name))) (left_at old m name) o in
          subst F (sym (own name)) (subst G (sym (now name)) (left name));
      rests = λ name.
          let F : History → Type 0 = λ h. IsAtRest (h.now name) in
          subst F (sym is) (rest_is (found made name));
      begins = ap (λ (h : History). h.before) is;
    }
