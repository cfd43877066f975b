-- A run of calls on one file: what each image has of it, and that the other files stay.
use Rattle.std.proofs.Common.{◌≡◌, ◌≢◌, inl, inr, ℕ, ◌<◌, suc, [], ◌∷◌, slice_get, false, List, Option, Some, None, refl, sym, ◌∙◌, subst, arith, length}
use Rattle.std.proofs.lemmas.Bool.{cond-true, cond-false, cases_Bool, false≢true}
use Rattle.disk_model.specs.Disk.{Files, FileState, DiskState, History, MayLeave, IsImage, IfTold, Unchanged, AfterFailed, EachImage, OthersStay, SameButFor, after, change, change_all, named, no_file}
use Rattle.disk_model.specs.Name.{same_name}
use Rattle.disk_model.specs.declared.name.FileName.{FileName}
use Rattle.disk_model.proofs.NameLemmas.{same_name-refl, same_name-false}
use Rattle.disk_model.proofs.MomentLemmas.{each_image-begins, each_image-map, each_image-then, each_image-goes_on, each_image-fails, each_image-fails_still, each_image-unchanged, if_told-both}

pub change-here : (name : FileName) (step : FileState → FileState) (disk : DiskState) → change name step disk name ≡ step (disk name)
unfolding change
change-here name step disk = cond-true (same_name name name) (step (disk name)) (disk name) (same_name-refl name)

pub change-other : (name other : FileName) (step : FileState → FileState) (disk : DiskState) → other ≢ name → change name step disk other ≡ disk other
unfolding change
change-other name other step disk apart = cond-false (same_name other name) (step (disk other)) (disk other) (same_name-false other name apart)

-- each other file as it was
pub same-begins : (name : FileName) (old : Option History) → SameButFor name old old
same-begins name None = refl
same-begins name (Some old) = λ other apart. refl

pub same-goes_on : (name : FileName) (step : FileState → FileState) (old now new : Option History) → SameButFor name old now
    → new ≡ after (change name step) now → SameButFor name old new
same-goes_on name step None None new same is = is
same-goes_on name step None (Some now) new same is = absurd (let e : Some now ≡ None = same in cc)
same-goes_on name step (Some old) None new same is = elim same [ ]
same-goes_on name step (Some old) (Some now) new same is =
    let F : Option History → Type 0 = SameButFor name (Some old) in
    subst F (sym is) (λ other apart. change-other name other step now.now apart ∙ same other apart)

pub same-unchanged : (name : FileName) (old now new : Option History) → SameButFor name old now → Unchanged now new → SameButFor name old new
same-unchanged name None None new same (inl is) = is
same-unchanged name None None new same (inr is) = is.0
same-unchanged name None (Some now) new same unchanged = absurd (let e : Some now ≡ None = same in cc)
same-unchanged name (Some old) None new same unchanged = elim same [ ]
same-unchanged name (Some old) (Some now) new same (inl is) =
    let F : Option History → Type 0 = SameButFor name (Some old) in
    subst F (sym is) same
same-unchanged name (Some old) (Some now) new same (inr is) =
    let F : Option History → Type 0 = SameButFor name (Some old) in
    subst F (sym is.0) same

pub same-then : (name : FileName) (old now new : Option History) → SameButFor name old now → SameButFor name now new → SameButFor name old new
same-then name None None new first second = second
same-then name None (Some now) new first second = absurd (let e : Some now ≡ None = first in cc)
same-then name (Some old) None new first second = elim first [ ]
same-then name (Some old) (Some now) None first second = second
same-then name (Some old) (Some now) (Some new) first second = λ other apart. second other apart ∙ first other apart

-- an image of the other files of a state whose other files are as they were
pub others-back : (name : FileName) (old now : Option History) (image : Files) → SameButFor name old now → OthersStay name now image → OthersStay name old image
others-back name None now image same stay = tt
others-back name (Some old) None image same stay = elim same [ ]
others-back name (Some old) (Some now) image same stay = λ other apart.
    let F : FileState → Type 0 = λ f. MayLeave f (image other) in
    subst F (same other apart) (stay other apart)

-- What stands of one file in an image, the other files being as an image could have them at the beginning.
abbrev pub IsAlong : FileName → (Option (List ℕ) → Type 0) → Option History → ℕ → Files → Type 0
IsAlong name P old m image = P (image name) × OthersStay name old image

-- A run of calls on one file: each image so far has this of it, and each other file is as it was.
pub record Along (name : FileName) (P : Option (List ℕ) → Type 0) (old now : Option History) : Type 0 where
  pub each : EachImage (IsAlong name P old) old now
  pub same : SameButFor name old now

-- an image after a call on this file, of the other files
others-image : (name : FileName) (step : FileState → FileState) (old now : Option History) → SameButFor name old now
    → IfTold now (λ disk. (image : Files) → IsImage (change name step disk) image → OthersStay name old image)
others-image name step old None same = tt
others-image name step None (Some now) same = λ image is. tt
others-image name step (Some old) (Some now) same = λ image is other apart.
    let F : FileState → Type 0 = λ f. MayLeave f (image other) in
    subst F (change-other name other step now.now apart ∙ same other apart) (is other)

-- an image after a call on this file
along-image : (name : FileName) (P : Option (List ℕ) → Type 0) (step : FileState → FileState) (old now : Option History) → SameButFor name old now
    → IfTold now (λ disk. (octets : Option (List ℕ)) → MayLeave (step (disk name)) octets → P octets)
    → IfTold now (λ disk. (m : ℕ) (image : Files) → IsImage (change name step disk) image → IsAlong name P old m image)
along-image name P step old now same holds =
    if_told-both _ _ _ now
    (λ disk others here m image is.
    let F : FileState → Type 0 = λ f. MayLeave f (image name) in
    (here (image name) (subst F (change-here name step disk) (is name)), others image is))
    (others-image name step old now same) holds

-- no call yet
pub along-begins : (name : FileName) (P : Option (List ℕ) → Type 0) (old : Option History)
    → IfTold old (λ disk. (octets : Option (List ℕ)) → MayLeave (disk name) octets → P octets) → Along name P old old
along-begins name P None holds = record { each = refl; same = refl }
along-begins name P (Some old) holds = record {
  each = each_image-begins (IsAlong name P (Some old)) (Some old) (λ m image is. (holds (image name) (is name), λ other apart. is other));
  same = same-begins name (Some old);
}

-- a call on this file
pub along-goes_on : (name : FileName) (P : Option (List ℕ) → Type 0) (step : FileState → FileState) (old now new : Option History) → Along name P old now
    → new ≡ after (change name step) now
    → IfTold now (λ disk. (octets : Option (List ℕ)) → MayLeave (step (disk name)) octets → P octets) → Along name P old new
along-goes_on name P step old now new along is holds = record {
  each = each_image-goes_on (IsAlong name P old) (change name step) old now new along.each is (along-image name P step old now along.same holds);
  same = same-goes_on name step old now new along.same is;
}

-- a call on this file that failed
pub along-fails : (name : FileName) (P : Option (List ℕ) → Type 0) (step : FileState → FileState) (old now new : Option History) → Along name P old now
    → AfterFailed (change name step) now new
    → IfTold now (λ disk. (octets : Option (List ℕ)) → MayLeave (step (disk name)) octets → P octets) → EachImage (IsAlong name P old) old new
along-fails name P step old now new along failed holds =
    each_image-fails (IsAlong name P old) (change name step) old now new along.each failed (along-image name P step old now along.same holds)

-- a sync that failed
pub along-fails_still : (name : FileName) (P : Option (List ℕ) → Type 0) (old now new : Option History) → Along name P old now
    → AfterFailed (λ disk. disk) now new → EachImage (IsAlong name P old) old new
along-fails_still name P old now new along failed =
    each_image-fails_still (IsAlong name P old) old now new along.each failed (λ m image is. is)

-- a call that changed nothing
pub along-unchanged : (name : FileName) (P : Option (List ℕ) → Type 0) (old now new : Option History) → Along name P old now
    → Unchanged now new → Along name P old new
along-unchanged name P old now new along unchanged = record {
  each = each_image-unchanged (IsAlong name P old) old now new along.each unchanged (λ m image is. is);
  same = same-unchanged name old now new along.same unchanged;
}

-- two runs, one after the other
pub one_file-then : (name : FileName) (P : Option (List ℕ) → Type 0) (old now new : Option History) → Along name P old now
    → EachImage (IsAlong name P now) now new → EachImage (IsAlong name P old) old new
one_file-then name P old now new first second =
    each_image-then (IsAlong name P old) old now new first.each
    (each_image-map (IsAlong name P now) (IsAlong name P old) now new
    (λ m image is. (is.0, others-back name old now image first.same is.1)) second)

pub along-then : (name : FileName) (P : Option (List ℕ) → Type 0) (old now new : Option History) → Along name P old now → Along name P now new → Along name P old new
along-then name P old now new first second = record {
  each = one_file-then name P old now new first second.each;
  same = same-then name old now new first.same second.same;
}

named-narrows-there : (f : FileState) (octets : Option (List ℕ)) → MayLeave (record f { is_name_loose = false }) octets → MayLeave f octets
named-narrows-there f None (inl gone) = inl gone
named-narrows-there f None (inr loose) = absurd (false≢true loose)
named-narrows-there f (Some octets) holds = record {
  named = elim holds.named [ inl there ↦ inl there | inr loose ↦ absurd (false≢true loose) ];
  least = holds.least;
  greatest = holds.greatest;
  same = holds.same;
  are_octets = holds.are_octets;
}

named-narrows-gone : (f : FileState) (octets : Option (List ℕ)) → f.is_there ≡ false → MayLeave no_file octets → MayLeave f octets
named-narrows-gone f None gone leaves = inl gone
named-narrows-gone f (Some octets) gone holds = elim holds.named [ inl there ↦ absurd (false≢true there) | inr loose ↦ absurd (false≢true loose) ]

-- a sync of names only takes images away
pub named-narrows : (f : FileState) (octets : Option (List ℕ)) → MayLeave (named f) octets → MayLeave f octets
named-narrows f octets leaves = elim (cases_Bool f.is_there) [
  | inl there ↦
      let e : named f ≡ record f { is_name_loose = false } = cond-true f.is_there (record f { is_name_loose = false }) no_file there in
      let F : FileState → Type 0 = λ g. MayLeave g octets in
      named-narrows-there f octets (subst F e leaves)
  | inr gone ↦
      let e : named f ≡ no_file = cond-false f.is_there (record f { is_name_loose = false }) no_file gone in
      let F : FileState → Type 0 = λ g. MayLeave g octets in
      named-narrows-gone f octets gone (subst F e leaves)
]

-- an image after a sync of names
named-image : (name : FileName) (P : Option (List ℕ) → Type 0) (old now : Option History) → SameButFor name old now
    → IfTold now (λ disk. (octets : Option (List ℕ)) → MayLeave (named (disk name)) octets → P octets)
    → IfTold now (λ disk. (m : ℕ) (image : Files) → IsImage (change_all named disk) image → IsAlong name P old m image)
named-image name P old None same holds = tt
named-image name P None (Some now) same holds = λ m image is. (holds (image name) (is name), tt)
named-image name P (Some old) (Some now) same holds = λ m image is. (
  holds (image name) (is name),
  λ other apart.
      let F : FileState → Type 0 = λ f. MayLeave f (image other) in
      subst F (same other apart) (named-narrows (now.now other) (image other) (is other)),
)

-- a sync of names, after which this holds of the file
pub along-named : (name : FileName) (P : Option (List ℕ) → Type 0) (old now new : Option History) → Along name P old now
    → new ≡ after (change_all named) now
    → IfTold now (λ disk. (octets : Option (List ℕ)) → MayLeave (named (disk name)) octets → P octets) → EachImage (IsAlong name P old) old new
along-named name P old now new along is holds =
    each_image-goes_on (IsAlong name P old) (change_all named) old now new along.each is
    (named-image name P old now along.same holds)

-- lists that agree at each place
pub same_by_get : (a b : List ℕ) → length a ≡ length b → ((i : ℕ) → i < length b → slice_get a i ≡ slice_get b i) → a ≡ b
same_by_get [] [] long same = refl
same_by_get [] (y ∷ ys) long same = absurd (omega (arith, long))
same_by_get (x ∷ xs) [] long same = absurd (omega (arith, long))
same_by_get (x ∷ xs) (y ∷ ys) long same =
    let head : Some x ≡ Some y = same 0 (omega arith) in
    let tail : xs ≡ ys = same_by_get xs ys (omega (arith, long)) (λ i below. same (suc i) (omega arith)) in
    cc
