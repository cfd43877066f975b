-- The sealed files are those that an `E` names, each once, in order.
use Rattle.std.specs.Prelude.{◌≡◌, ◌<◌, ◌==◌, ◌||◌, nat_lt, ℕ, Bool, true, false, List, [], ◌∷◌, fold, All, AllPairs, if◌then◌else◌, refl}
use Rattle.std.specs.List.{list_any}
use Rattle.std.proofs.Common.{sym, ◌∙◌, ap, arith}
use Rattle.std.proofs.lemmas.Grind.{common_steps}
use Rattle.std.proofs.lemmas.List.Elements.{All-nil, All-cons, All-weaker, All-head, All-tail}
use Rattle.std.proofs.lemmas.List.Kept.{AllPairs-cons}
use Rattle.mdbox_base.specs.declared.entries.MapEntry.{MapEntry}
use Rattle.mdbox_base.specs.declared.entries.MapEntry.TheVariants as map
use Rattle.model_meaning.specs.MapMeaning.{with_number, sealed_by, sealed_after, map_meaning, is_sealed, seals}
use Rattle.model_octets.proofs.PairLemmas.{pairs_nil, pairs_head, pairs_tail}

abbrev Below : ℕ → ℕ → Type 0
Below a b = a < b

less_is : (a b : ℕ) → nat_lt a b ≡ true → a < b
less_is a b h = grind (arith, common_steps, h)

more_is : (a b : ℕ) → nat_lt a b ≡ false → (a == b) ≡ false → b < a
more_is a b h k = grind (arith, common_steps, h, k)

same_is : (a b : ℕ) → (a == b) ≡ true → a ≡ b
same_is a b h = grind (arith, common_steps, h)

-- ---- the list rises

pub all_with : (P : ℕ → Type 0) (n : ℕ) (ns : List ℕ) → P n → All P ns → All P (with_number n ns)
all_with P n [] p a = All-cons P n [] p (All-nil P)
all_with P n (m ∷ rest) p a = put (nat_lt n m) (n == m) (all_with P n rest p (All-tail P m rest a))
  where
    put : (less same : Bool) → All P (with_number n rest) → All P (if less then n ∷ m ∷ rest else (if same then m ∷ rest else m ∷ with_number n rest))
    put true same t = All-cons P n (m ∷ rest) p a
    put false true t = a
    put false false t = All-cons P m (with_number n rest) (All-head P m rest a) t

rises_with : (n : ℕ) (ns : List ℕ) → AllPairs Below ns → AllPairs Below (with_number n ns)
rises_with n [] a = AllPairs-cons Below n [] (All-nil (Below n)) (pairs_nil Below)
rises_with n (m ∷ rest) a = put (nat_lt n m) (n == m) refl refl (rises_with n rest (pairs_tail Below m rest a))
  where
    put : (less same : Bool) → nat_lt n m ≡ less → (n == m) ≡ same → AllPairs Below (with_number n rest) → AllPairs Below (if less then n ∷ m ∷ rest else (if same then m ∷ rest else m ∷ with_number n rest))
    put true same h k t =
        let lt : n < m = less_is n m h in
        AllPairs-cons Below n (m ∷ rest) (All-cons (Below n) m rest lt (All-weaker (Below m) (Below n) (λ x l. omega (arith, l, lt)) rest (pairs_head Below m rest a))) a
    put false true h k t = a
    put false false h k t = AllPairs-cons Below m (with_number n rest) (all_with (Below m) n rest (more_is n m h k) (pairs_head Below m rest a)) t

sealed_from : (files : List ℕ) (entries : List MapEntry) → AllPairs Below files → AllPairs Below (fold (λ fs entry. sealed_by entry fs) files entries)
sealed_from files [] a = a
sealed_from files (map.H h ∷ es) a = sealed_from files es a
sealed_from files (map.B m g n ∷ es) a = sealed_from files es a
sealed_from files (map.G m g ∷ es) a = sealed_from files es a
sealed_from files (map.S o c u f o2 z g is ∷ es) a = sealed_from files es a
sealed_from files (map.U u ∷ es) a = sealed_from files es a
sealed_from files (map.D us ∷ es) a = sealed_from files es a
sealed_from files (map.T cs ∷ es) a = sealed_from files es a
sealed_from files (map.P f t ms us ∷ es) a = sealed_from files es a
sealed_from files (map.X m cs ∷ es) a = sealed_from files es a
sealed_from files (map.V m n ∷ es) a = sealed_from files es a
sealed_from files (map.E f ∷ es) a = sealed_from (with_number f.0 files) es (rises_with f.0 files a)

-- each sealed file stands once, in order of number
pub sealed_rises : (entries : List MapEntry) → AllPairs (λ a b. a < b) (sealed_after entries)
sealed_rises entries = sealed_from [] entries (pairs_nil Below)

-- ---- and has what is named

-- whether a number is in the list
abbrev has : ℕ → List ℕ → Bool
has file files = list_any (λ f. f == file) files

turn : (a b c : Bool) → (a || (b || c)) ≡ (b || (a || c))
turn true true c = refl
turn true false c = refl
turn false b c = refl

twice : (a c : Bool) → (a || c) ≡ (a || (a || c))
twice true c = refl
twice false c = refl

has_with : (file n : ℕ) (ns : List ℕ) → has file (with_number n ns) ≡ ((n == file) || has file ns)
has_with file n [] = refl
has_with file n (m ∷ rest) = put (nat_lt n m) (n == m) refl (has_with file n rest)
  where
    put : (less same : Bool) → (n == m) ≡ same → has file (with_number n rest) ≡ ((n == file) || has file rest)
        → has file (if less then n ∷ m ∷ rest else (if same then m ∷ rest else m ∷ with_number n rest)) ≡ ((n == file) || ((m == file) || has file rest))
    put true same k t = refl
    put false true k t = let e : n ≡ m = same_is n m k in twice (m == file) (has file rest) ∙ ap (λ (x : ℕ). (x == file) || ((m == file) || has file rest)) (sym e)
    put false false k t = ap (λ (x : Bool). (m == file) || x) t ∙ turn (m == file) (n == file) (has file rest)

has_from : (file : ℕ) (files : List ℕ) (entries : List MapEntry) → has file (fold (λ fs entry. sealed_by entry fs) files entries) ≡ (list_any (seals file) entries || has file files)
has_from file files [] = refl
has_from file files (map.H h ∷ es) = has_from file files es
has_from file files (map.B m g n ∷ es) = has_from file files es
has_from file files (map.G m g ∷ es) = has_from file files es
has_from file files (map.S o c u f a z g is ∷ es) = has_from file files es
has_from file files (map.U u ∷ es) = has_from file files es
has_from file files (map.D us ∷ es) = has_from file files es
has_from file files (map.T cs ∷ es) = has_from file files es
has_from file files (map.P f t ms us ∷ es) = has_from file files es
has_from file files (map.X m cs ∷ es) = has_from file files es
has_from file files (map.V m n ∷ es) = has_from file files es
has_from file files (map.E f ∷ es) =
    has_from file (with_number f.0 files) es ∙ ap (λ (x : Bool). list_any (seals file) es || x) (has_with file f.0 files) ∙ moved (list_any (seals file) es) (f.0 == file) (has file files)
  where
    moved : (a b c : Bool) → (a || (b || c)) ≡ ((b || a) || c)
    moved true true c = refl
    moved true false c = refl
    moved false true c = refl
    moved false false c = refl

or_none : (a : Bool) → (a || false) ≡ a
or_none true = refl
or_none false = refl

-- a file is sealed if and only if an `E` names it
pub sealed_is : (store : List ℕ) (entries : List MapEntry) (file : ℕ) → is_sealed (map_meaning store entries) file ≡ list_any (seals file) entries
sealed_is store entries file = has_from file [] entries ∙ or_none _
