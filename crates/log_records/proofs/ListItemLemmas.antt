-- Lists of items of one size, item by item.
use Rattle.std.proofs.Common.{◌≡◌, ℕ, suc, ◌+◌, ◌*◌, ◌<◌, ◌≤◌, ◌^◌, List, [], ◌∷◌, ◌++◌, length, sym, ap, subst, ◌∙◌, append_assoc, append-nil, length-append, arith}
use Rattle.std.specs.List.{flat_map, AllByRecursion}
use Rattle.std.specs.Prelude.{MatchOption, Option, Some, None}
use Rattle.std.specs.Int.{w16, to_be_bytes}
use Rattle.std.proofs.Math.Nat.{mul-suc, mul-le-mul_left}
use Rattle.std.proofs.lemmas.List.Concat.{flat_map-append}
use Rattle.model_logs.specs.Entries.{four, list_text, instance_row_text, RowInRange}
use Rattle.model_octets.proofs.PiecesLemmas.{split_same}
use Rattle.model_octets.proofs.NumberLemmas.{next_four, next_two}

-- each item in range has that size
abbrev pub Sized : {X : Type 0} → (X → List ℕ) → (X → Type 0) → ℕ → Type 0
Sized {X} text InRange size = (x : X) → InRange x → length (text x) ≡ size

pub flat_size : {X : Type 0} → (text : X → List ℕ) (InRange : X → Type 0) (size : ℕ) → Sized text InRange size → (xs : List X) → AllByRecursion InRange xs → length (flat_map text xs) ≡ size * length xs
flat_size text InRange size sized [] range = omega arith
flat_size text InRange size sized (x ∷ xs) range =
    let one : length (text x) ≡ size = sized x range.0 in
    let others : length (flat_map text xs) ≡ size * length xs = flat_size text InRange size sized xs range.1 in
    let both : length (text x ++ flat_map text xs) ≡ length (text x) + length (flat_map text xs) = length-append (text x) (flat_map text xs) in
    let more : size * suc (length xs) ≡ size * length xs + size = mul-suc size (length xs) in
    both ∙ omega (arith, one, others) ∙ sym more

pub all_more : {X : Type 0} → (P : X → Type 0) (xs : List X) (x : X) → AllByRecursion P xs → P x → AllByRecursion P (xs ++ x ∷ [])
all_more P [] x all one = (one, tt)
all_more P (y ∷ xs) x all one = (all.0, all_more P xs x all.1 one)

pub flat_one : {X : Type 0} → (text : X → List ℕ) (xs : List X) (x : X) → flat_map text (xs ++ x ∷ []) ≡ flat_map text xs ++ text x
flat_one text xs x = flat_map-append text xs (x ∷ []) ∙ ap (λ (t : List ℕ). flat_map text xs ++ t) (append-nil (text x))

-- one item more was read
pub one_more : {X : Type 0} → (text : X → List ℕ) (octets : List ℕ) (xs : List X) (x : X) (rest behind : List ℕ) → octets ≡ flat_map text xs ++ rest → rest ≡ text x ++ behind → octets ≡ flat_map text (xs ++ x ∷ []) ++ behind
one_more text octets xs x rest behind e r =
    e ∙ ap (λ (t : List ℕ). flat_map text xs ++ t) r ∙ sym (append_assoc (flat_map text xs) (text x) behind) ∙ ap (λ (t : List ℕ). t ++ behind) (sym (flat_one text xs x))

pub size_more : (size i n : ℕ) → i < n → size * i + size ≤ size * n
size_more size i n lt =
    let a : size * suc i ≡ size * i + size = mul-suc size i in
    let b : size * suc i ≤ size * n = mul-le-mul_left size (let h : suc i ≤ n = omega arith in h) in
    omega (arith, a, b)

-- no item stands behind those that were read
pub too_short : {X : Type 0} → (text : X → List ℕ) (InRange : X → Type 0) (size : ℕ) → Sized text InRange size → (octets : List ℕ) (xs : List X) (rest : List ℕ) (count : ℕ)
    → octets ≡ flat_map text xs ++ rest → AllByRecursion InRange xs → length xs < count → length rest < size → length octets < size * count
too_short text InRange size sized octets xs rest count e all lt short =
    let a : length octets ≡ length (flat_map text xs) + length rest = ap length e ∙ length-append (flat_map text xs) rest in
    let b : length (flat_map text xs) ≡ size * length xs = flat_size text InRange size sized xs all in
    let c : size * length xs + size ≤ size * count = size_more size (length xs) count lt in
    omega (arith, a, b, c, short)

-- a list behind its number of items
pub list_short : {X : Type 0} → (text : X → List ℕ) (InRange : X → Type 0) (size : ℕ) → Sized text InRange size → (octets : List ℕ) (count : ℕ) (rest : List ℕ) → count < 2 ^ 32 → octets ≡ four count ++ rest → length rest < size * count
    → (xs : List X) (r : List ℕ) → length xs < 2 ^ 32 → AllByRecursion InRange xs → octets ≡ list_text text xs ++ r → ⊥
list_short text InRange size sized octets count rest lc e short xs r lx all is =
    let n = next_four count (length xs) rest (flat_map text xs ++ r) lc lx (sym e ∙ is ∙ append_assoc (four (length xs)) (flat_map text xs) r) in
    let same : size * count ≡ size * length xs = ap (λ (k : ℕ). size * k) n.0 in
    let a : length rest ≡ length (flat_map text xs) + length r = ap length n.1 ∙ length-append (flat_map text xs) r in
    let b : length (flat_map text xs) ≡ size * length xs = flat_size text InRange size sized xs all in
    omega (arith, same, a, b, short)

pub items_short : {X : Type 0} → (text : X → List ℕ) (InRange : X → Type 0) (size : ℕ) → Sized text InRange size → (octets : List ℕ) (count : ℕ) (rest : List ℕ) → count < 2 ^ 16 → octets ≡ to_be_bytes w16 count ++ rest → length rest < size * count
    → (xs : List X) → length xs < 2 ^ 16 → AllByRecursion InRange xs → octets ≡ to_be_bytes w16 (length xs) ++ flat_map text xs → ⊥
items_short text InRange size sized octets count rest lc e short xs lx all is =
    let n = next_two count (length xs) rest (flat_map text xs) lc lx (sym e ∙ is) in
    let same : size * count ≡ size * length xs = ap (λ (k : ℕ). size * k) n.0 in
    let a : length rest ≡ length (flat_map text xs) = ap length n.1 in
    let b : length (flat_map text xs) ≡ size * length xs = flat_size text InRange size sized xs all in
    omega (arith, same, a, b, short)

-- octets behind a list that is whole
nothing_behind : (xs ys r : List ℕ) → length xs ≡ length ys → xs ≡ ys ++ r → length r ≡ 0
nothing_behind xs ys r l e = omega (arith, l, ap length e ∙ length-append ys r)

pub list_over : {X : Type 0} → (text : X → List ℕ) (InRange : X → Type 0) (size : ℕ) → Sized text InRange size → (octets : List ℕ) (ys : List X) (rest : List ℕ) → length ys < 2 ^ 32 → AllByRecursion InRange ys → octets ≡ list_text text ys ++ rest → 1 ≤ length rest
    → (xs : List X) → length xs < 2 ^ 32 → AllByRecursion InRange xs → octets ≡ list_text text xs → ⊥
list_over text InRange size sized octets ys rest ly every e some xs lx all is =
    let n = next_four (length ys) (length xs) (flat_map text ys ++ rest) (flat_map text xs) ly lx (sym (append_assoc (four (length ys)) (flat_map text ys) rest) ∙ sym e ∙ is) in
    let same : size * length ys ≡ size * length xs = ap (λ (k : ℕ). size * k) n.0 in
    let a : length (flat_map text ys) + length rest ≡ length (flat_map text xs) = sym (length-append (flat_map text ys) rest) ∙ ap length n.1 in
    let b : length (flat_map text xs) ≡ size * length xs = flat_size text InRange size sized xs all in
    let c : length (flat_map text ys) ≡ size * length ys = flat_size text InRange size sized ys every in
    omega (arith, same, a, b, c, some)

pub items_over : {X : Type 0} → (text : X → List ℕ) (InRange : X → Type 0) (size : ℕ) → Sized text InRange size → (octets : List ℕ) (ys : List X) (count : ℕ) (rest behind : List ℕ) → count < 2 ^ 16 → length ys ≡ count → AllByRecursion InRange ys
    → octets ≡ to_be_bytes w16 count ++ rest → rest ≡ flat_map text ys ++ behind → 1 ≤ length behind
    → (xs : List X) → length xs < 2 ^ 16 → AllByRecursion InRange xs → octets ≡ to_be_bytes w16 (length xs) ++ flat_map text xs → ⊥
items_over text InRange size sized octets ys count rest behind lc ly every e r some xs lx all is =
    let n = next_two count (length xs) rest (flat_map text xs) lc lx (sym e ∙ is) in
    let same : size * length ys ≡ size * length xs = ap (λ (k : ℕ). size * k) (ly ∙ n.0) in
    let a : length (flat_map text ys) + length behind ≡ length (flat_map text xs) = sym (length-append (flat_map text ys) behind) ∙ ap length (sym r ∙ n.1) in
    let b : length (flat_map text xs) ≡ size * length xs = flat_size text InRange size sized xs all in
    let c : length (flat_map text ys) ≡ size * length ys = flat_size text InRange size sized ys every in
    omega (arith, same, a, b, c, some)

pub match_weaker : {A : Type 0} → (o : Option A) (P Q : Type 0) (R S : A → Type 0) → (P → Q) → ((x : A) → R x → S x) → MatchOption o P R → MatchOption o Q S
match_weaker None P Q R S f g h = f h
match_weaker (Some x) P Q R S f g h = g x h

-- a list behind its number of items was read
pub list_whole : {X : Type 0} → (text : X → List ℕ) (octets : List ℕ) (count : ℕ) (rest behind : List ℕ) (xs : List X) → octets ≡ four count ++ rest → rest ≡ flat_map text xs ++ behind → length xs ≡ count → octets ≡ list_text text xs ++ behind
list_whole text octets count rest behind xs e r l =
    e ∙ ap (λ (t : List ℕ). four count ++ t) r ∙ ap (λ (k : ℕ). four k ++ (flat_map text xs ++ behind)) (sym l) ∙ sym (append_assoc (four (length xs)) (flat_map text xs) behind)

pub none_of : {A : Type 0} → (o : Option A) (P : Type 0) (R : A → Type 0) → o ≡ None → MatchOption o P R → P
none_of None P R e h = h
none_of (Some x) P R e h = absurd cc

pub some_of : {A : Type 0} → (o : Option A) (x : A) (P : Type 0) (R : A → Type 0) → o ≡ Some x → MatchOption o P R → R x
some_of {A} o x P R e h = subst (λ (p : Option A). MatchOption p P R) e h

pub ends : (octets front rest : List ℕ) → octets ≡ front ++ rest → length rest ≡ 0 → octets ≡ front
ends octets front [] e h = e ∙ append-nil front
ends octets front (x ∷ rest) e h = absurd (omega (arith, h))

pub row_sized : Sized instance_row_text RowInRange 40
row_sized row range = omega (arith, range.0, range.1, length-append row.hash.0 (row.id.0 ++ four row.size), length-append row.id.0 (four row.size))

-- what follows a list is one
pub list_rest : {X : Type 0} → (text : X → List ℕ) (InRange : X → Type 0) (size : ℕ) → Sized text InRange size → (xs ys : List X) (r s : List ℕ) → length xs < 2 ^ 32 → length ys < 2 ^ 32
    → AllByRecursion InRange xs → AllByRecursion InRange ys → list_text text xs ++ r ≡ list_text text ys ++ s → r ≡ s
list_rest text InRange size sized xs ys r s lx ly p q e =
    let n = next_four (length xs) (length ys) (flat_map text xs ++ r) (flat_map text ys ++ s) lx ly (sym (append_assoc (four (length xs)) (flat_map text xs) r) ∙ e ∙ append_assoc (four (length ys)) (flat_map text ys) s) in
    let same : size * length xs ≡ size * length ys = ap (λ (k : ℕ). size * k) n.0 in
    let lengths : length (flat_map text xs) ≡ length (flat_map text ys) = flat_size text InRange size sized xs p ∙ same ∙ sym (flat_size text InRange size sized ys q) in
    (split_same (flat_map text xs) (flat_map text ys) r s lengths n.1).1
