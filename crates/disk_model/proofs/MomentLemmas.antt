-- What holds where a disk tells its content, and of each image of each moment.
use Rattle.std.proofs.Common.{◌≡◌, inl, inr, ℕ, ◌+◌, ◌<◌, ◌≤◌, ◌==◌, List, [], ◌∷◌, length, Option, Some, None, refl, sym, ◌∙◌, subst, arith}
use Rattle.std.proofs.lemmas.Bool.{cases_eq, cases_lt, eq-eqb, ne_eqb, cond-true, cond-false}
use Rattle.disk_model.specs.Disk.{Files, DiskState, History, IsImage, IfTold, IsTold, Unchanged, AfterFailed, EachImage, EachImageSince, after, calls, joined_by, state_in, state_at}

-- facts of the present state

pub if_told-all : (P : DiskState → Type 0) (h : Option History) → ((disk : DiskState) → P disk) → IfTold h P
if_told-all P None all = tt
if_told-all P (Some h) all = all h.now

pub if_told-map : (P Q : DiskState → Type 0) (h : Option History) → ((disk : DiskState) → P disk → Q disk) → IfTold h P → IfTold h Q
if_told-map P Q None f p = tt
if_told-map P Q (Some h) f p = f h.now p

pub if_told-both : (P Q R : DiskState → Type 0) (h : Option History) → ((disk : DiskState) → P disk → Q disk → R disk) → IfTold h P → IfTold h Q → IfTold h R
if_told-both P Q R None f p q = tt
if_told-both P Q R (Some h) f p q = f h.now p q

-- after a call that did this
pub if_told-after : (P Q : DiskState → Type 0) (step : DiskState → DiskState) (old new : Option History) → new ≡ after step old
    → ((disk : DiskState) → P disk → Q (step disk)) → IfTold old P → IfTold new Q
if_told-after P Q step None new is f p =
    let F : Option History → Type 0 = λ h. IfTold h Q in
    subst F (sym is) tt
if_told-after P Q step (Some h) new is f p =
    let F : Option History → Type 0 = λ h. IfTold h Q in
    subst F (sym is) (f h.now p)

-- after a call that changed nothing
pub if_told-unchanged : (P : DiskState → Type 0) (old new : Option History) → Unchanged old new → IfTold old P → IfTold new P
if_told-unchanged P old new (inl is) p = if_told-after P P (λ disk. disk) old new is (λ _ q. q) p
if_told-unchanged P old new (inr same) p =
    let F : Option History → Type 0 = λ h. IfTold h P in
    subst F (sym same.0) p

-- a disk that tells goes on to tell, and one that doesn't doesn't
pub told-after : (step : DiskState → DiskState) (old new : Option History) → new ≡ after step old → IsTold old → IsTold new
told-after step None new is told = elim told [ ]
told-after step (Some h) new is told = subst IsTold (sym is) tt

pub untold-after : (step : DiskState → DiskState) (new : Option History) → new ≡ after step None → new ≡ None
untold-after step new is = is

pub untold-unchanged : (new : Option History) → Unchanged None new → new ≡ None
untold-unchanged new (inl is) = is
untold-unchanged new (inr same) = same.0

-- states by moments

pub state_in-past : (states : List DiskState) (m : ℕ) → length states ≤ m → state_in states m ≡ None
state_in-past [] m past = refl
state_in-past (state ∷ earlier) m past =
    let below : length earlier < m = omega arith in
    let apart : m ≡ length earlier → ⊥ = λ e. absurd (omega arith) in
    cond-false (m == length earlier) (Some state) (state_in earlier m) (ne_eqb m (length earlier) apart)
    ∙ state_in-past earlier m (omega arith)

pub state_in-first : (state : DiskState) (earlier : List DiskState) (m : ℕ) → m ≡ length earlier → state_in (state ∷ earlier) m ≡ Some state
state_in-first state earlier m e =
    cond-true (m == length earlier) (Some state) (state_in earlier m) (eq-eqb m (length earlier) e)

pub state_in-later : (state : DiskState) (earlier : List DiskState) (m : ℕ) → m < length earlier → state_in (state ∷ earlier) m ≡ state_in earlier m
state_in-later state earlier m below =
    let apart : m ≡ length earlier → ⊥ = λ e. absurd (omega arith) in
    cond-false (m == length earlier) (Some state) (state_in earlier m) (ne_eqb m (length earlier) apart)

pub state_at-now : (h : History) → state_at h (calls h) ≡ Some h.now
state_at-now h = state_in-first h.now h.before (length h.before) refl

pub state_at-past : (h : History) (m : ℕ) → calls h < m → state_at h m ≡ None
state_at-past h m past = state_in-past (h.now ∷ h.before) m (let p : length h.before < m = past in omega arith)

pub state_at-joined : (state : DiskState) (h : History) (m : ℕ) → m ≤ calls h → state_at (joined_by state h) m ≡ state_at h m
state_at-joined state h m below = state_in-later state (h.now ∷ h.before) m (let b : m ≤ length h.before = below in omega arith)

-- the present state is the only one from the present moment on
pub state_at-only : (h : History) (m : ℕ) (state : DiskState) → calls h ≤ m → state_at h m ≡ Some state → (m ≡ calls h) × (state ≡ h.now)
state_at-only h m state from at = elim (cases_eq m (calls h)) [
  | inl e ↦ (e, let now : state_at h m ≡ Some h.now = state_in-first h.now h.before m e in cc (at, now))
  | inr apart ↦ absurd (let past : state_at h m ≡ None = state_at-past h m (omega (arith, from, apart)) in cc (at, past))
]

-- one history after another

pub since-begins : (P : ℕ → Files → Type 0) (h : History) → ((image : Files) → IsImage h.now image → P (calls h) image) → EachImageSince P h h
since-begins P h holds = record {
  later = omega arith;
  same = λ m below. refl;
  each = λ m state image from at is.
      let only = state_at-only h m state from at in
      let there : IsImage h.now image = let F : DiskState → Type 0 = λ d. IsImage d image in subst F only.1 is in
      let F : ℕ → Type 0 = λ k. P k image in
      subst F (sym only.0) (holds image there);
}

pub since-joined : (P : ℕ → Files → Type 0) (old now : History) (state : DiskState) → EachImageSince P old now
    → ((image : Files) → IsImage state image → P (calls now + 1) image) → EachImageSince P old (joined_by state now)
since-joined P old now state since holds = record {
  later = let l : calls old ≤ length now.before = since.later in omega arith;
  same = λ m below.
      let within : m ≤ calls now = let l : calls old ≤ calls now = since.later in omega arith in
      state_at-joined state now m within ∙ since.same m below;
  each = λ m other image from at is. elim (cases_lt (calls now) m) [
    | inl past ↦
        let last : calls (joined_by state now) ≤ m = let p : length now.before < m = past in omega arith in
        let only = state_at-only (joined_by state now) m other last at in
        let there : IsImage state image = let F : DiskState → Type 0 = λ d. IsImage d image in subst F only.1 is in
        let moment : calls now + 1 ≡ m = let e : m ≡ length (now.now ∷ now.before) = only.0 in omega (arith, e) in
        let F : ℕ → Type 0 = λ k. P k image in
        subst F moment (holds image there)
    | inr below ↦ since.each m other image from (sym (state_at-joined state now m below) ∙ at) is
  ];
}

pub since-map : (P Q : ℕ → Files → Type 0) (old now : History) → ((m : ℕ) (image : Files) → P m image → Q m image) → EachImageSince P old now → EachImageSince Q old now
since-map P Q old now f since = record {
  later = since.later;
  same = since.same;
  each = λ m state image from at is. f m image (since.each m state image from at is);
}

pub since-then : (P : ℕ → Files → Type 0) (old now new : History) → EachImageSince P old now → EachImageSince P now new → EachImageSince P old new
since-then P old now new first second = record {
  later = let a : calls old ≤ calls now = first.later in let b : calls now ≤ calls new = second.later in omega arith;
  same = λ m below.
      let within : m ≤ calls now = let l : calls old ≤ calls now = first.later in omega arith in
      second.same m within ∙ first.same m below;
  each = λ m state image from at is. elim (cases_lt m (calls now)) [
    | inl below ↦ first.each m state image from (sym (second.same m (omega arith)) ∙ at) is
    | inr past ↦ second.each m state image past at is
  ];
}

-- what holds of each image holds of those of the present
pub since-now : (P : ℕ → Files → Type 0) (old now : History) → EachImageSince P old now → (image : Files) → IsImage now.now image → P (calls now) image
since-now P old now since image is = since.each (calls now) now.now image since.later (state_at-now now) is

-- the same where the disk may not tell

pub each_image-map : (P Q : ℕ → Files → Type 0) (old new : Option History) → ((m : ℕ) (image : Files) → P m image → Q m image) → EachImage P old new → EachImage Q old new
each_image-map P Q None new f each = each
each_image-map P Q (Some old) None f each = each
each_image-map P Q (Some old) (Some new) f each = since-map P Q old new f each

pub each_image-then : (P : ℕ → Files → Type 0) (old now new : Option History) → EachImage P old now → EachImage P now new → EachImage P old new
each_image-then P None None new first second = second
each_image-then P None (Some now) new first second = absurd (let e : Some now ≡ None = first in cc)
each_image-then P (Some old) None new first second = elim first [ ]
each_image-then P (Some old) (Some now) None first second = second
each_image-then P (Some old) (Some now) (Some new) first second = since-then P old now new first second

-- no call yet
pub each_image-begins : (P : ℕ → Files → Type 0) (old : Option History) → IfTold old (λ disk. (m : ℕ) (image : Files) → IsImage disk image → P m image) → EachImage P old old
each_image-begins P None holds = refl
each_image-begins P (Some old) holds = since-begins P old (holds (calls old))

-- one more call, which did this
pub each_image-goes_on : (P : ℕ → Files → Type 0) (step : DiskState → DiskState) (old now new : Option History) → EachImage P old now
    → new ≡ after step now → IfTold now (λ disk. (m : ℕ) (image : Files) → IsImage (step disk) image → P m image) → EachImage P old new
each_image-goes_on P step None None new each is holds = is
each_image-goes_on P step None (Some now) new each is holds = absurd (let e : Some now ≡ None = each in cc)
each_image-goes_on P step (Some old) None new each is holds = elim each [ ]
each_image-goes_on P step (Some old) (Some now) new each is holds =
    let F : Option History → Type 0 = λ h. EachImage P (Some old) h in
    subst F (sym is) (since-joined P old now (step now.now) each (holds (calls now + 1)))

-- one more call, which failed and may have done a part of this
pub each_image-fails : (P : ℕ → Files → Type 0) (step : DiskState → DiskState) (old now new : Option History) → EachImage P old now
    → AfterFailed step now new → IfTold now (λ disk. (m : ℕ) (image : Files) → IsImage (step disk) image → P m image) → EachImage P old new
each_image-fails P step None None new each failed holds = failed
each_image-fails P step None (Some now) new each failed holds = absurd (let e : Some now ≡ None = each in cc)
each_image-fails P step (Some old) None new each failed holds = elim each [ ]
each_image-fails P step (Some old) (Some now) None each failed holds = failed
each_image-fails P step (Some old) (Some now) (Some new) each (inl within) holds =
    let F : History → Type 0 = λ h. EachImageSince P old h in
    subst F (sym within.is) (since-joined P old now within.state each (λ image is. holds (calls now + 1) image (within.at_most image is)))
each_image-fails P step (Some old) (Some now) (Some new) each (inr same) holds =
    let F : History → Type 0 = λ h. EachImageSince P old h in
    subst F (sym same.0) each

-- one more call, which changed nothing
pub each_image-unchanged : (P : ℕ → Files → Type 0) (old now new : Option History) → EachImage P old now
    → Unchanged now new → ((m : ℕ) (image : Files) → P m image → P (m + 1) image) → EachImage P old new
each_image-unchanged P None None new each unchanged grows = untold-unchanged new unchanged
each_image-unchanged P None (Some now) new each unchanged grows = absurd (let e : Some now ≡ None = each in cc)
each_image-unchanged P (Some old) None new each unchanged grows = elim each [ ]
each_image-unchanged P (Some old) (Some now) new each (inl is) grows =
    let F : Option History → Type 0 = λ h. EachImage P (Some old) h in
    subst F (sym is) (since-joined P old now now.now each (λ image of. grows (calls now) image (since-now P old now each image of)))
each_image-unchanged P (Some old) (Some now) new each (inr same) grows =
    let F : Option History → Type 0 = λ h. EachImage P (Some old) h in
    subst F (sym same.0) each

-- one more call, which failed and adds no image
pub each_image-fails_still : (P : ℕ → Files → Type 0) (old now new : Option History) → EachImage P old now
    → AfterFailed (λ disk. disk) now new → ((m : ℕ) (image : Files) → P m image → P (m + 1) image) → EachImage P old new
each_image-fails_still P None None new each failed grows = failed
each_image-fails_still P None (Some now) new each failed grows = absurd (let e : Some now ≡ None = each in cc)
each_image-fails_still P (Some old) None new each failed grows = elim each [ ]
each_image-fails_still P (Some old) (Some now) None each failed grows = failed
each_image-fails_still P (Some old) (Some now) (Some new) each (inl within) grows =
    let F : History → Type 0 = λ h. EachImageSince P old h in
    subst F (sym within.is) (since-joined P old now within.state each (λ image is. grows (calls now) image (since-now P old now each image (within.at_most image is))))
each_image-fails_still P (Some old) (Some now) (Some new) each (inr same) grows =
    let F : History → Type 0 = λ h. EachImageSince P old h in
    subst F (sym same.0) each
