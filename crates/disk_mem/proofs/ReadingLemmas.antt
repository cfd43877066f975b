-- Files as they read, and their names in order.
use Rattle.std.proofs.Common.{◌≡◌, ◌≢◌, inl, inr, ℕ, suc, ◌+◌, ◌<◌, ◌≤◌, true, false, List, [], ◌∷◌, length, slice_get, Option, Some, None, IfSome, refl, sym, ◌∙◌, ap, subst, arith}
use Rattle.std.proofs.lemmas.Bool.{cases_Bool, cases_lt, cond-true, cond-false, false≢true}
use Rattle.std.specs.declared.cmp.Ordering.{Ordering}
use Rattle.std.specs.declared.cmp.Ordering.TheVariants.{Less}
use Rattle.std.specs.Ordering.{ordering_reverse}
use Rattle.std.specs.Cmp.{IsTotalOrder}
use Rattle.disk_model.specs.Disk.{FileState, DiskState, reading, IsThere, IsPast, IsNext}
use Rattle.disk_model.specs.Name.{same_name}
use Rattle.disk_model.specs.declared.name.FileName.{FileName}
use Rattle.disk_model.proofs.NameLemmas.{same_name-true}
use Rattle.disk_mem.specs.declared.file.File.{File}
use Rattle.disk_mem.specs.Record.{found, ReadsAs, IsReadAt, ReadsAll, IsPlaceOf, IsLessThan, IsNearer}
use Rattle.disk_mem.proofs.FileLemmas.{found-here}
use Rattle.disk_mem.proofs.StepLemmas.{slice_get-lt}

-- what a file holds is what it reads
pub reading_octets : (f : FileState) (octets : List ℕ) → reading f ≡ Some octets → f.octets ≡ octets
reading_octets f octets is = elim (cases_Bool f.is_there) [
  | inl there ↦ let e : Some f.octets ≡ Some octets = sym (cond-true f.is_there (Some f.octets) None there) ∙ is in cc
  | inr gone ↦ absurd (let e : None ≡ Some octets = sym (cond-false f.is_there (Some f.octets) None gone) ∙ is in cc)
]

pub reading-there : (f : FileState) (octets : List ℕ) → f.is_there ≡ true → f.octets ≡ octets → reading f ≡ Some octets
reading-there f octets there is = cond-true f.is_there (Some f.octets) None there ∙ ap Some is

pub reading-gone : (f : FileState) → f.is_there ≡ false → reading f ≡ None
reading-gone f gone = cond-false f.is_there (Some f.octets) None gone

pub there-reading : (f : FileState) (octets : List ℕ) → reading f ≡ Some octets → f.is_there ≡ true
there-reading f octets is = elim (cases_Bool f.is_there) [
  | inl there ↦ there
  | inr gone ↦ absurd (let e : None ≡ Some octets = sym (reading-gone f gone) ∙ is in cc)
]

pub if_some : {X : Type 0} (o : Option X) (P Q : X → Type 0) → ((x : X) → P x → Q x) → IfSome o P → IfSome o Q
if_some None P Q f p = tt
if_some (Some x) P Q f p = f x p

-- the file at the place of a name
pub read_at_place : (files : List File) (name : FileName) (i : ℕ) (file : File) → IsPlaceOf files name i → slice_get files i ≡ Some file
    → (disk : DiskState) → ReadsAll files disk → ReadsAs file (disk name)
read_at_place files name i file place at disk reads =
    let found_at : found files name ≡ Some place.file = found-here files name i place.file place.at place.named place.first in
    let same : Some place.file ≡ Some file = sym place.at ∙ at in
    let F : Option File → Type 0 = λ o. IsReadAt o (disk name) in
    subst F (found_at ∙ same) (reads name)

-- a file that is there stands somewhere
pub place_of_found : (files : List File) (name : FileName) (file : File) → found files name ≡ Some file → (k : ℕ) × (slice_get files k ≡ Some file) × (file.name ≡ name)
place_of_found [] name file is = absurd (let e : None ≡ Some file = is in cc)
place_of_found (first ∷ files) name file is = elim (cases_Bool (same_name name first.name)) [
  | inl same ↦
      let e : Some first ≡ Some file = sym (cond-true (same_name name first.name) (Some first) (found files name) same) ∙ is in
      let f : first ≡ file = cc in
      (0, e, ap (λ (g : File). g.name) (sym f) ∙ sym (same_name-true name first.name same))
  | inr other ↦
      let rest : found files name ≡ Some file = sym (cond-false (same_name name first.name) (Some first) (found files name) other) ∙ is in
      let place = place_of_found files name file rest in
      (suc place.0, place.1, place.2)
]

there_found : (file : Option File) (f : FileState) → IsReadAt file f → f.is_there ≡ true → (own : File) × (file ≡ Some own)
there_found None f reads there = absurd (false≢true (sym reads.0 ∙ there))
there_found (Some own) f reads there = (own, refl)

pub place_of_there : (files : List File) (disk : DiskState) (name : FileName) → ReadsAll files disk → IsThere (disk name)
    → (k : ℕ) × (file : File) × (slice_get files k ≡ Some file) × (file.name ≡ name)
place_of_there files disk name reads there =
    let own = there_found (found files name) (disk name) (reads name) there in
    let place = place_of_found files name own.0 own.1 in
    (place.0, own.0, place.1, place.2)

abbrev pub IsNotBefore : (FileName → FileName → Ordering) → Option FileName → FileName → Type 0
IsNotBefore cmp None name = ⊥
IsNotBefore cmp (Some best) name = cmp name best ≢ Less

-- the least name of the first n files, of those that are there and past this one
pub record IsBest (cmp : FileName → FileName → Ordering) (disk : DiskState) (files : List File) (after : Option FileName) (n : ℕ) (best : Option FileName) : Type 0 where
  pub past : IfSome best (IsPast cmp after)
  pub there : IfSome best (λ name. IsThere (disk name))
  pub least : (k : ℕ) (file : File) → k < n → slice_get files k ≡ Some file → IsThere (disk file.name) → IsPast cmp after file.name → IsNotBefore cmp best file.name

pub not_less : {K : Type 0} (R : K → K → Ordering) → IsTotalOrder R → (x : K) → R x x ≢ Less
not_less R laws x less = let e : Less ≡ ordering_reverse Less = sym less ∙ laws.antisymm x x ∙ ap ordering_reverse less in absurd (cc)

earlier : (cmp : FileName → FileName → Ordering) → IsTotalOrder cmp → (best : Option FileName) (name other : FileName) → IsLessThan cmp name best → IsNotBefore cmp best other → cmp other name ≢ Less
earlier cmp laws None name other less not_before = absurd not_before
earlier cmp laws (Some best) name other less not_before = λ e. not_before (laws.trans other name best e less)

own_kept : (cmp : FileName → FileName → Ordering) → IsTotalOrder cmp → (best : Option FileName) (name : FileName) → (IsLessThan cmp name best → best ≡ Some name) → IsNotBefore cmp best name
own_kept cmp laws None name taken = absurd (let e : None ≡ Some name = taken tt in cc)
own_kept cmp laws (Some best) name taken = λ less.
    let e : Some best ≡ Some name = taken less in
    let same : best ≡ name = cc in
    not_less cmp laws name (ap (cmp name) (sym same) ∙ less)

best_kept : (cmp : FileName → FileName → Ordering) (disk : DiskState) (files : List File) (after : Option FileName) (n : ℕ) (best : Option FileName) (file : File)
    → IsTotalOrder cmp → slice_get files n ≡ Some file → IsBest cmp disk files after n best
    → (IsThere (disk file.name) → IsPast cmp after file.name → IsLessThan cmp file.name best → best ≡ Some file.name) → IsBest cmp disk files after (n + 1) best
best_kept cmp disk files after n best file laws at is taken = record {
  past = is.past;
  there = is.there;
  least = λ k other below here there past. elim (cases_lt k n) [
    | inl before ↦ is.least k other before here there past
    | inr own ↦
        let e : k ≡ n = omega arith in
        let same : Some other ≡ Some file = sym here ∙ ap (slice_get files) e ∙ at in
        let f : file ≡ other = cc in
        let F : File → Type 0 = λ g. IsThere (disk g.name) → IsPast cmp after g.name → IsNotBefore cmp best g.name in
        subst F f (λ t p. own_kept cmp laws best file.name (taken t p)) there past
  ];
}

best_taken : (cmp : FileName → FileName → Ordering) (disk : DiskState) (files : List File) (after : Option FileName) (n : ℕ) (best : Option FileName) (file : File)
    → IsTotalOrder cmp → slice_get files n ≡ Some file → IsBest cmp disk files after n best
    → IsThere (disk file.name) → IsPast cmp after file.name → IsLessThan cmp file.name best → IsBest cmp disk files after (n + 1) (Some file.name)
best_taken cmp disk files after n best file laws at is own_there own_past less = record {
  past = own_past;
  there = own_there;
  least = λ k other below here there past. elim (cases_lt k n) [
    | inl before ↦ earlier cmp laws best file.name other.name less (is.least k other before here there past)
    | inr own ↦
        let e : k ≡ n = omega arith in
        let same : Some other ≡ Some file = sym here ∙ ap (slice_get files) e ∙ at in
        let f : file ≡ other = cc in
        let F : File → Type 0 = λ g. cmp g.name file.name ≢ Less in
        subst F f (not_less cmp laws file.name)
  ];
}

-- one more file
pub best_more : (cmp : FileName → FileName → Ordering) (disk : DiskState) (files : List File) (after : Option FileName) (n : ℕ) (best : Option FileName) (file : File) (result : Option FileName)
    → IsTotalOrder cmp → slice_get files n ≡ Some file → IsBest cmp disk files after n best → IsNearer cmp disk after best file.name result → IsBest cmp disk files after (n + 1) result
best_more cmp disk files after n best file result laws at is nearer =
    let F : Option FileName → Type 0 = IsBest cmp disk files after (n + 1) in
    elim nearer.either [
      | inl kept ↦ subst F (sym kept) (best_kept cmp disk files after n best file laws at is (λ there past less. sym kept ∙ nearer.taken there past less))
      | inr took ↦ subst F (sym took.0) (best_taken cmp disk files after n best file laws at is took.1 took.2 took.3)
    ]

pub best_none : (cmp : FileName → FileName → Ordering) (disk : DiskState) (files : List File) (after : Option FileName) → IsBest cmp disk files after 0 None
best_none cmp disk files after = record { past = tt; there = tt; least = λ k file below. absurd (omega (arith, below)) }

pub best_all : (cmp : FileName → FileName → Ordering) (disk : DiskState) (files : List File) (after : Option FileName) (n : ℕ) (best : Option FileName)
    → length files ≤ n → ReadsAll files disk → IsBest cmp disk files after n best → IsNext cmp after best disk
best_all cmp disk files after n None all reads is = λ name there past.
    let place = place_of_there files disk name reads there in
    let F : FileName → Type 0 = λ other. IsThere (disk other) in
    let G : FileName → Type 0 = λ other. IsPast cmp after other in
    is.least place.0 place.1 (let b : place.0 < length files = slice_get-lt files place.0 place.1 place.2 in omega arith) place.2
    (subst F (sym place.3) there) (subst G (sym place.3) past)
best_all cmp disk files after n (Some best) all reads is = (
  is.there,
  λ name there past.
      let place = place_of_there files disk name reads there in
      let F : FileName → Type 0 = λ other. IsThere (disk other) in
      let G : FileName → Type 0 = λ other. IsPast cmp after other in
      let H : FileName → Type 0 = λ other. cmp other best ≢ Less in
      subst H place.3
      (is.least place.0 place.1 (let b : place.0 < length files = slice_get-lt files place.0 place.1 place.2 in omega arith) place.2
      (subst F (sym place.3) there) (subst G (sym place.3) past)),
)
