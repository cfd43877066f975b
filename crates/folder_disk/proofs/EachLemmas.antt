-- Loops over lists.
use Rattle.folder_disk.proofs.Common.{◌≡◌, inl, inr, ℕ, ◌+◌, ◌<◌, ◌≤◌, List, length, get_or, All, sym, ◌∙◌, subst, arith}
use Rattle.std.proofs.lemmas.Bool.{cases_lt}
use Rattle.std.proofs.lemmas.List.{get_or_default}

-- so far each element has this
abbrev pub EachSoFar : {A : Type 0} → (A → Type 0) → List A → ℕ → Type 0
EachSoFar {A} P xs i = (k : ℕ) (d : A) → k < i → P (get_or xs k d)

pub each_none : {A : Type 0} (P : A → Type 0) (xs : List A) → EachSoFar P xs 0
each_none P xs k d below = absurd (omega (arith, below))

pub each_more : {A : Type 0} (P Q : A → Type 0) (xs : List A) (i : ℕ) (x : A) → ((y : A) → P y → Q y) → i < length xs → x ≡ get_or xs i x → EachSoFar P xs i → Q x → EachSoFar Q xs (i + 1)
each_more P Q xs i x goes within is so_far here k d below = elim (cases_lt k i) [
  | inl before ↦ goes (get_or xs k d) (so_far k d before)
  | inr past ↦
      let e : i ≡ k = omega (arith, below, past) in
      let F : ℕ → Type 0 = λ j. Q (get_or xs j d) in
      subst F e (subst Q (is ∙ get_or_default xs i x d within) here)
]

pub each_all : {A : Type 0} (P : A → Type 0) (xs : List A) (i : ℕ) → length xs ≤ i → EachSoFar P xs i → All P xs
each_all P xs i done so_far k d below = so_far k d (omega (arith, below, done))

-- an element, read with any default
pub each_at : {A : Type 0} (P Q : A → Type 0) (xs : List A) (i : ℕ) (e : A) → ((y : A) → P y → Q y) → i < length xs → EachSoFar P xs i → Q (get_or xs i e) → EachSoFar Q xs (i + 1)
each_at P Q xs i e goes within so_far here = each_more P Q xs i (get_or xs i e) goes within (get_or_default xs i e (get_or xs i e) within) so_far here
