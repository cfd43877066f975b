-- Lists that a loop walks by place, and tests of them.
use Rattle.std.proofs.Common.{◌≡◌, ℕ, ◌≤◌, zero, suc, Bool, false, List, [], ◌∷◌, length, take, Option, Some, None, All, refl, ◌∙◌, ap, arith}
use Rattle.std.specs.List.{list_any}
use Rattle.std.specs.Option.{option_map, option_map_or}
use Rattle.std.proofs.lemmas.List.Elements.{All-nil, All-cons}
use Rattle.std.proofs.lemmas.Bool.{or_parts}

take_whole : {X : Type 0} → (xs : List X) (n : ℕ) → length xs ≤ n → take n xs ≡ xs
take_whole [] zero l = refl
take_whole [] (suc n) l = refl
take_whole (x ∷ xs) zero l = absurd (omega (arith, l))
take_whole (x ∷ xs) (suc n) l = let h = take_whole xs n (omega (arith, l)) in ap (λ t. x ∷ t) h

pub fold_over : {X Y : Type 0} → (f : List X → Y) (xs : List X) (n : ℕ) → length xs ≤ n → f (take n xs) ≡ f xs
fold_over f xs n l = ap f (take_whole xs n l)

-- what fails a test of all
pub none_pass : {X : Type 0} → (p : X → Bool) (xs : List X) → list_any p xs ≡ false → All (λ x. p x ≡ false) xs
none_pass p [] e = All-nil (λ x. p x ≡ false)
none_pass p (x ∷ xs) e = let parts = or_parts (p x) (list_any p xs) e in All-cons (λ y. p y ≡ false) x xs parts.0 (none_pass p xs parts.1)

-- ---- tests of what a look-up shows

-- the same test of what is shown and of what it shows
pub tested : {X Y : Type 0} → (show : X → Y) (p : X → Bool) (q : Y → Bool) → ((x : X) → q (show x) ≡ p x) → (o : Option X) (seen : Option Y) (b : Bool) → seen ≡ option_map show o → b ≡ option_map_or q seen false → b ≡ option_map_or p o false
tested show p q same None seen b is e = e ∙ ap (λ s. option_map_or q s false) is
tested show p q same (Some x) seen b is e = e ∙ ap (λ s. option_map_or q s false) is ∙ same x
