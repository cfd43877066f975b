-- Lists that are changed in place.
use Rattle.std.proofs.Common.{◌≡◌, ◌<◌, ◌≤◌, ℕ, suc, zero, List, [], ◌∷◌, length, map, filter, get_or, slice_set, refl, sym, ap, subst, ◌∙◌, arith, Bool, true, false}
use Rattle.std.specs.Prelude.{All}
use Rattle.std.specs.List.{remove}
use Rattle.std.proofs.lemmas.List.{map-set, get_or-map, length-map}

-- the front is changed already, the rest not yet
abbrev pub changed_to : {X : Type 0} → (X → X) → ℕ → List X → List X
changed_to f n [] = []
changed_to f zero (x ∷ xs) = x ∷ xs
changed_to f (suc n) (x ∷ xs) = f x ∷ changed_to f n xs

pub changed_to-none : {X : Type 0} → (f : X → X) (xs : List X) → changed_to f 0 xs ≡ xs
changed_to-none f [] = refl
changed_to-none f (x ∷ xs) = refl

pub changed_to-full : {X : Type 0} → (f : X → X) (n : ℕ) (xs : List X) → length xs ≤ n → changed_to f n xs ≡ map f xs
changed_to-full f n [] h = refl
changed_to-full f zero (x ∷ xs) h = absurd (omega (arith, h))
changed_to-full f (suc n) (x ∷ xs) h = ap (λ t. f x ∷ t) (changed_to-full f n xs (omega (arith, h)))

pub length-changed_to : {X : Type 0} → (f : X → X) (n : ℕ) (xs : List X) → length (changed_to f n xs) ≡ length xs
length-changed_to f n [] = refl
length-changed_to f zero (x ∷ xs) = refl
length-changed_to f (suc n) (x ∷ xs) = let h = length-changed_to f n xs in omega (arith, h)

-- one item more is changed
pub changed_to-set : {X : Type 0} → (f : X → X) (n : ℕ) (xs : List X) (x : X) → n < length xs → x ≡ get_or (changed_to f n xs) n x → slice_set (changed_to f n xs) n (f x) ≡ changed_to f (suc n) xs
changed_to-set f n [] x h e = absurd (omega (arith, h))
changed_to-set f zero (y ∷ xs) x h e = let none = changed_to-none f xs in cc
changed_to-set f (suc n) (y ∷ xs) x h e = ap (λ t. f y ∷ t) (changed_to-set f n xs x (omega (arith, h)) e)

-- one item more stays as it is, where the change leaves it
pub changed_to-keep : {X : Type 0} → (f : X → X) (n : ℕ) (xs : List X) (x : X) → n < length xs → x ≡ get_or (changed_to f n xs) n x → f x ≡ x → changed_to f n xs ≡ changed_to f (suc n) xs
changed_to-keep f n [] x h e same = absurd (omega (arith, h))
changed_to-keep f zero (y ∷ xs) x h e same = let none = changed_to-none f xs in cc
changed_to-keep f (suc n) (y ∷ xs) x h e same = ap (λ t. f y ∷ t) (changed_to-keep f n xs x (omega (arith, h)) e same)

-- the next one isn't changed yet
pub changed_to-at : {X : Type 0} → (f : X → X) (n : ℕ) (xs : List X) (d : X) → n < length xs → get_or (changed_to f n xs) n d ≡ get_or xs n d
changed_to-at f n [] d h = absurd (omega (arith, h))
changed_to-at f zero (x ∷ xs) d h = refl
changed_to-at f (suc n) (x ∷ xs) d h = changed_to-at f n xs d (omega (arith, h))

-- what the next item is seen as
seen_at : {X Y : Type 0} → (v : X → Y) (f : Y → Y) (n : ℕ) (items : List X) (ys : List Y) (x : X) → map v items ≡ changed_to f n ys → n < length items → x ≡ get_or items n x → v x ≡ get_or (changed_to f n ys) n (v x)
seen_at v f n items ys x same h e = ap v e ∙ sym (get_or-map v items n x (v x) h) ∙ ap (λ (zs : List _). get_or zs n (v x)) same

pub seen_within : {X Y : Type 0} → (v : X → Y) (f : Y → Y) (n : ℕ) (items : List X) (ys : List Y) → map v items ≡ changed_to f n ys → n < length items → n < length ys
seen_within v f n items ys same h = let a = length-map items v in let b = ap length same in let c = length-changed_to f n ys in omega (arith, a, b, c, h)

-- as many items as before
pub seen_size : {X Y : Type 0} → (v : X → Y) (f : Y → Y) (n : ℕ) (items olds : List X) → map v items ≡ changed_to f n (map v olds) → length items ≡ length olds
seen_size v f n items olds same = let a = length-map items v in let b = ap length same in let c = length-changed_to f n (map v olds) in let d = length-map olds v in omega (arith, a, b, c, d)

pub changed_all : {X Y : Type 0} → (v : X → Y) (f : Y → Y) (n : ℕ) (items olds : List X) → map v items ≡ changed_to f n (map v olds) → length olds ≤ n → map v items ≡ map f (map v olds)
changed_all v f n items olds same le = same ∙ changed_to-full f n (map v olds) (let d = length-map olds v in omega (arith, d, le))

-- one item more is changed
pub changed_more : {X Y : Type 0} → (v : X → Y) (f : Y → Y) (n : ℕ) (items : List X) (ys : List Y) (x x' : X) → map v items ≡ changed_to f n ys → n < length items → x ≡ get_or items n x → v x' ≡ f (v x)
    → map v (slice_set items n x') ≡ changed_to f (suc n) ys
changed_more v f n items ys x x' same h e changed =
    map-set v items n x' ∙ ap (λ (zs : List _). slice_set zs n (v x')) same ∙ ap (λ (z : _). slice_set (changed_to f n ys) n z) changed
    ∙ changed_to-set f n ys (v x) (seen_within v f n items ys same h) (seen_at v f n items ys x same h e)

-- what held of each before holds of the next one still
pub holds_next : {X Y : Type 0} → (P : Y → Type 0) (v : X → Y) (f : Y → Y) (n : ℕ) (items : List X) (ys : List Y) (x : X) → map v items ≡ changed_to f n ys → n < length items → x ≡ get_or items n x → All P ys → P (v x)
holds_next P v f n items ys x same h e all =
    let within : n < length ys = seen_within v f n items ys same h in
    subst P (sym (seen_at v f n items ys x same h e ∙ changed_to-at f n ys (v x) within)) (all n (v x) within)

-- the front is kept, and of the rest what passes
abbrev pub kept_by : {X : Type 0} → (X → Bool) → ℕ → List X → List X
kept_by keep n [] = []
kept_by keep zero (x ∷ xs) = filter keep (x ∷ xs)
kept_by keep (suc n) (x ∷ xs) = x ∷ kept_by keep n xs

pub kept_by-none : {X : Type 0} → (keep : X → Bool) (xs : List X) → kept_by keep 0 xs ≡ filter keep xs
kept_by-none keep [] = refl
kept_by-none keep (x ∷ xs) = refl

pub kept_by-all : {X : Type 0} → (keep : X → Bool) (n : ℕ) (xs : List X) → length xs ≤ n → kept_by keep n xs ≡ xs
kept_by-all keep n [] h = refl
kept_by-all keep zero (x ∷ xs) h = absurd (omega (arith, h))
kept_by-all keep (suc n) (x ∷ xs) h = ap (λ t. x ∷ t) (kept_by-all keep n xs (omega (arith, h)))

-- an item that doesn't pass is removed
pub kept_by-remove : {X : Type 0} → (keep : X → Bool) (n : ℕ) (xs : List X) (x : X) → n < length xs → x ≡ get_or xs n x → keep x ≡ false → kept_by keep n (remove xs n) ≡ kept_by keep n xs
kept_by-remove keep n [] x h e fails = absurd (omega (arith, h))
kept_by-remove keep zero (y ∷ xs) x h e fails = let f : keep y ≡ false = cc in rw f (kept_by-none keep xs)
kept_by-remove keep (suc n) (y ∷ xs) x h e fails = ap (λ t. y ∷ t) (kept_by-remove keep n xs x (omega (arith, h)) e fails)

-- an item that passes stays
pub kept_by-keep : {X : Type 0} → (keep : X → Bool) (n : ℕ) (xs : List X) (x : X) → n < length xs → x ≡ get_or xs n x → keep x ≡ true → kept_by keep (suc n) xs ≡ kept_by keep n xs
kept_by-keep keep n [] x h e passes = absurd (omega (arith, h))
kept_by-keep keep zero (y ∷ xs) x h e passes = let f : keep y ≡ true = cc in rw (kept_by-none keep xs, f) refl
kept_by-keep keep (suc n) (y ∷ xs) x h e passes = ap (λ t. y ∷ t) (kept_by-keep keep n xs x (omega (arith, h)) e passes)
