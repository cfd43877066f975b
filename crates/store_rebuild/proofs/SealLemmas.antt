-- A rising list of storage files with one more.
use Rattle.std.proofs.Common.{◌≡◌, ◌==◌, ◌<◌, ℕ, Bool, true, false, List, [], ◌∷◌, All, map, refl, sym, subst, arith}
use Rattle.std.specs.Prelude.{AllPairs, nat_lt, if◌then◌else◌}
use Rattle.std.proofs.lemmas.Bool.Decides.{nat_tests}
use Rattle.std.proofs.lemmas.List.Elements.{All-nil, All-cons, All-head, All-tail, All-weaker}
use Rattle.std.proofs.lemmas.List.Kept.{AllPairs-cons}
use Rattle.mdbox_base.specs.declared.ids.FileNo.{FileNo}
use Rattle.model_meaning.specs.MapMeaning.{with_number}
use Rattle.model_meaning.proofs.SealedLemmas.{all_with}
use Rattle.model_octets.proofs.PairLemmas.{pairs_head, pairs_map, pairs_nil, pairs_tail}

abbrev Below : ℕ → ℕ → Type 0
Below m n = m < n

abbrev FilesRise : List FileNo → Type 0
FilesRise files = AllPairs (λ a b. a.0 < b.0) files

below_from : (n m : ℕ) → nat_lt n m ≡ true → n < m
below_from n m e = grind (arith, nat_tests, e)

behind_from : (n m : ℕ) → nat_lt n m ≡ false → (n == m) ≡ false → m < n
behind_from n m a b = grind (arith, nat_tests, a, b)

rises_with : (n : ℕ) (ns : List ℕ) → AllPairs Below ns → AllPairs Below (with_number n ns)
rises_with n [] h = AllPairs-cons Below n [] (All-nil (Below n)) (pairs_nil Below)
rises_with n (m ∷ rest) h = put (nat_lt n m) (n == m) refl refl (rises_with n rest (pairs_tail Below m rest h))
  where
    put : (less same : Bool) → nat_lt n m ≡ less → (n == m) ≡ same → AllPairs Below (with_number n rest) → AllPairs Below (if less then n ∷ m ∷ rest else (if same then m ∷ rest else m ∷ with_number n rest))
    put true same l s r =
        let lt : n < m = below_from n m l in
        AllPairs-cons Below n (m ∷ rest) (All-cons (Below n) m rest lt (All-weaker (Below m) (Below n) (λ k b. omega (arith, lt, b)) rest (pairs_head Below m rest h))) h
    put false true l s r = h
    put false false l s r = AllPairs-cons Below m (with_number n rest) (all_with (Below m) n rest (behind_from n m l s) (pairs_head Below m rest h)) r

files_from : (files : List FileNo) → AllPairs Below (map (λ (f : FileNo). f.0) files) → FilesRise files
files_from [] h = pairs_nil (λ (a b : FileNo). a.0 < b.0)
files_from (f ∷ files) h = AllPairs-cons (λ (a b : FileNo). a.0 < b.0) f files (each files (pairs_head Below f.0 (map (λ (x : FileNo). x.0) files) h)) (files_from files (pairs_tail Below f.0 (map (λ (x : FileNo). x.0) files) h))
  where
    each : (fs : List FileNo) → All (Below f.0) (map (λ (x : FileNo). x.0) fs) → All (λ (b : FileNo). f.0 < b.0) fs
    each [] k = All-nil (λ (b : FileNo). f.0 < b.0)
    each (x ∷ fs) k = All-cons (λ (b : FileNo). f.0 < b.0) x fs (All-head (Below f.0) x.0 (map (λ (y : FileNo). y.0) fs) k) (each fs (All-tail (Below f.0) x.0 (map (λ (y : FileNo). y.0) fs) k))

pub files_rise_with : (file : FileNo) (files more : List FileNo) → FilesRise files → map (λ (f : FileNo). f.0) more ≡ with_number file.0 (map (λ (f : FileNo). f.0) files) → FilesRise more
files_rise_with file files more rise is =
    files_from more (subst (AllPairs Below) (sym is) (rises_with file.0 (map (λ (f : FileNo). f.0) files) (pairs_map (λ (a b : FileNo). a.0 < b.0) Below (λ (f : FileNo). f.0) (λ a b l. l) files rise)))
