-- A file more among the sealed ones.
use Rattle.map_index.proofs.Common.{◌≡◌, ◌==◌, ◌<◌, ◌≤◌, ℕ, zero, suc, true, false, List, [], ◌∷◌, length, get_or, map, refl, ap, sym, ◌∙◌, arith, nat_lt, AllPairs, nat_tests, pairs_tail, FileNo}
use Rattle.std.specs.Prelude.{insert, Ok, Err}
use Rattle.std.specs.List.Sorted.{IsSearchInRange, IsBinarySearchResult}
use Rattle.std.specs.Ordering.{nat_cmp}
use Rattle.std.proofs.lemmas.Cmp.{ranked}
use Rattle.model_meaning.specs.MapMeaning.{with_number}
use Rattle.map_index.proofs.SearchLemmas.{answers_rise}

abbrev number : FileNo → ℕ
number f = f.0

abbrev FilesRise : List FileNo → Type 0
FilesRise files = AllPairs (λ a b. a.0 < b.0) files

less : (a b : ℕ) → a < b → nat_lt a b ≡ true
less a b h = grind (arith, nat_tests, h)

same : (a b : ℕ) → a ≡ b → (nat_lt a b ≡ false) × ((a == b) ≡ true)
same a b h = (grind (arith, nat_tests, h), grind (arith, nat_tests, h))

more : (a b : ℕ) → b < a → (nat_lt a b ≡ false) × ((a == b) ≡ false)
more a b h = (grind (arith, nat_tests, h), grind (arith, nat_tests, h))

before : (n m : ℕ) (ns : List ℕ) → n < m → n ∷ m ∷ ns ≡ with_number n (m ∷ ns)
before n m ns h = let e = less n m h in rw e refl

at : (n m : ℕ) (ns : List ℕ) → m ≡ n → m ∷ ns ≡ with_number n (m ∷ ns)
at n m ns h = let e = (same n m (sym h)).0 in let f = (same n m (sym h)).1 in rw (e, f) refl

behind : (n m : ℕ) (ns : List ℕ) → m < n → m ∷ with_number n ns ≡ with_number n (m ∷ ns)
behind n m ns h = let e = (more n m h).0 in let f = (more n m h).1 in rw (e, f) refl

stays : (n : ℕ) (files : List FileNo) (place : ℕ) → FilesRise files → place < length files → ((d : FileNo) → (get_or files place d).0 ≡ n) → map number files ≡ with_number n (map number files)
stays n [] place rise within hit = absurd (omega (arith, within))
stays n (f ∷ files) zero rise within hit = at n f.0 (map number files) (hit f)
stays n (f ∷ files) (suc place) rise within hit =
    let is : (get_or files place f).0 ≡ n = hit f in
    let low : f.0 < (get_or files place f).0 = rise 0 (suc place) f (omega arith) within in
    ap (λ (ns : List ℕ). f.0 ∷ ns) (stays n files place (pairs_tail (λ a b. a.0 < b.0) f files rise) (omega (arith, within)) (λ d. hit d)) ∙ behind n f.0 (map number files) (omega (arith, is, low))

put : (file : FileNo) (files : List FileNo) (place : ℕ) → place ≤ length files → ((k : ℕ) (d : FileNo) → k < place → (get_or files k d).0 < file.0) → ((k : ℕ) (d : FileNo) → place ≤ k → k < length files → file.0 < (get_or files k d).0)
    → map number (insert files place file) ≡ with_number file.0 (map number files)
put file [] zero within low high = refl
put file [] (suc place) within low high = absurd (omega (arith, within))
put file (f ∷ files) zero within low high = before file.0 f.0 (map number files) (high 0 f (omega arith) (omega arith))
put file (f ∷ files) (suc place) within low high =
    let first : f.0 < file.0 = low 0 f (omega arith) in
    ap (λ (ns : List ℕ). f.0 ∷ ns) (put file files place (omega (arith, within)) (λ k d lt. low (suc k) d (omega (arith, lt))) (λ k d le lt. high (suc k) d (omega (arith, le)) (omega (arith, lt))))
    ∙ behind file.0 f.0 (map number files) first

-- a file that a search found stays alone
pub there : (file : FileNo) (files : List FileNo) (place : ℕ) → FilesRise files → IsSearchInRange (Ok place) (length files) → IsBinarySearchResult (λ f. nat_cmp f.0 file.0) files (Ok place) → map (λ f. f.0) files ≡ with_number file.0 (map (λ f. f.0) files)
there file files place rise within equal = stays file.0 files place rise within (λ d. ranked _ file.0 _ (sym (equal d)))

-- one that it didn't find is put before the first one behind it
pub added : (file : FileNo) (files : List FileNo) (place : ℕ) → FilesRise files → IsSearchInRange (Err place) (length files) → IsBinarySearchResult (λ f. nat_cmp f.0 file.0) files (Err place) → map (λ f. f.0) (insert files place file) ≡ with_number file.0 (map (λ f. f.0) files)
added file files place rise within parted =
    let p = parted (answers_rise (λ (f : FileNo). f.0) files file.0 rise) in
    put file files place within (λ k d lt. ranked _ file.0 _ (sym (p.0 k d (omega (arith, within, lt)) lt))) (λ k d le lt. ranked _ file.0 _ (sym (p.1 k d le lt)))
