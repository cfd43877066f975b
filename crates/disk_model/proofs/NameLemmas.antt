-- The test whether two names are the same.
use Rattle.std.proofs.Common.{◌≡◌, ◌≢◌, ◌↔◌, ℕ, true, false, List, [], ◌∷◌, refl}
use Rattle.std.proofs.lemmas.Bool.{eqb-true, eq-eqb, and_parts, and_from, false≢true, false_from_ne_true}
use Rattle.disk_model.specs.Name.{same_octets, same_name}
use Rattle.disk_model.specs.declared.name.FileName.{FileName}
use Rattle.disk_model.specs.declared.name.FileName.TheVariants.{Root, Map, Box, Mail, Inst}

pub same_octets-true : (a b : List ℕ) → same_octets a b ≡ true → a ≡ b
same_octets-true [] [] e = refl
same_octets-true [] (y ∷ ys) e = absurd (false≢true e)
same_octets-true (x ∷ xs) [] e = absurd (false≢true e)
same_octets-true (x ∷ xs) (y ∷ ys) e =
    let parts = and_parts _ _ e in
    let head = eqb-true x y parts.0 in
    let tail = same_octets-true xs ys parts.1 in
    cc

pub same_octets-refl : (a : List ℕ) → same_octets a a ≡ true
same_octets-refl [] = refl
same_octets-refl (x ∷ xs) = and_from _ _ (eq-eqb x x refl) (same_octets-refl xs)

pub same_name-true : (a b : FileName) → same_name a b ≡ true → a ≡ b
unfolding same_name
same_name-true Root Root e = refl
same_name-true (Map g) (Map h) e = let same = eqb-true g h e in cc
same_name-true (Box k g) (Box l h) e =
    let parts = and_parts _ _ e in
    let first = eqb-true k l parts.0 in
    let second = eqb-true g h parts.1 in
    cc
same_name-true (Mail n) (Mail m) e = let same = eqb-true n m e in cc
same_name-true (Inst a i) (Inst b j) e =
    let parts = and_parts _ _ e in
    let first = same_octets-true a b parts.0 in
    let second = same_octets-true i j parts.1 in
    cc
same_name-true _ _ e = absurd (false≢true e)

pub same_name-refl : (a : FileName) → same_name a a ≡ true
unfolding same_name
same_name-refl Root = refl
same_name-refl (Map g) = eq-eqb g g refl
same_name-refl (Box k g) = and_from _ _ (eq-eqb k k refl) (eq-eqb g g refl)
same_name-refl (Mail n) = eq-eqb n n refl
same_name-refl (Inst a i) = and_from _ _ (same_octets-refl a) (same_octets-refl i)

pub same_name-eq : (a b : FileName) → a ≡ b → same_name a b ≡ true
same_name-eq a b e = rw (← e) (same_name-refl a)

pub same_name_iff : (a b : FileName) → (same_name a b ≡ true) ↔ (a ≡ b)
same_name_iff a b = (same_name-true a b, same_name-eq a b)

-- two names that differ
pub same_name-false : (a b : FileName) → a ≢ b → same_name a b ≡ false
same_name-false a b apart = false_from_ne_true (same_name a b) (λ e. apart (same_name-true a b e))

pub same_name-apart : (a b : FileName) → same_name a b ≡ false → a ≢ b
same_name-apart a b differ same = let is : same_name a b ≡ true = same_name-eq a b same in false≢true (cc)
