-- Look-ups in a list that is made of another one.
use Rattle.map_rows.proofs.Common.{◌≡◌, ◌||◌, Bool, true, false, cond, Option, Some, List, [], ◌∷◌, map, find, refl, sym, ap, ◌∙◌, list_any, option_map, All-nil, All-cons, All-head, All-tail}
use Rattle.std.specs.Prelude.{flat_map, All}
use Rattle.std.proofs.lemmas.List.Folds.{list_any-append}

found : {X Y : Type 0} → (f : X → Y) (b : Bool) (x : X) (rest : Option X) → cond b (Some (f x)) (option_map f rest) ≡ option_map f (cond b (Some x) rest)
found f true x rest = refl
found f false x rest = refl

-- the first that passes
pub find-map : {X Y : Type 0} → (p : Y → Bool) (f : X → Y) (xs : List X) → find p (map f xs) ≡ option_map f (find (λ x. p (f x)) xs)
find-map p f [] = refl
find-map p f (x ∷ xs) = ap (cond (p (f x)) (Some (f x))) (find-map p f xs) ∙ found f (p (f x)) x (find (λ x. p (f x)) xs)

pub list_any-flat_map : {X Y : Type 0} → (p : Y → Bool) (f : X → List Y) (xs : List X) → list_any p (flat_map f xs) ≡ list_any (λ x. list_any p (f x)) xs
list_any-flat_map p f [] = refl
list_any-flat_map p f (x ∷ xs) = list_any-append p (f x) (flat_map f xs) ∙ ap (λ (b : Bool). list_any p (f x) || b) (list_any-flat_map p f xs)

-- what holds of each, along a list that is made of another
pub All-unmap : {X Y : Type 0} → (P : Y → Type 0) (f : X → Y) (xs : List X) → All P (map f xs) → All (λ x. P (f x)) xs
All-unmap P f [] a = All-nil (λ x. P (f x))
All-unmap P f (x ∷ xs) a = All-cons (λ x. P (f x)) x xs (All-head P (f x) (map f xs) a) (All-unmap P f xs (All-tail P (f x) (map f xs) a))

-- ---- the same of a list that is known under two names

pub found_in : {X Y : Type 0} → (p : Y → Bool) (f : X → Y) (rs xs : List X) (ys : List Y) (o : Option X) → o ≡ find (λ x. p (f x)) rs → rs ≡ xs → map f xs ≡ ys → option_map f o ≡ find p ys
found_in p f rs xs ys o e same view = ap (option_map f) e ∙ sym (find-map p f rs) ∙ ap (λ (zs : List _). find p (map f zs)) same ∙ ap (find p) view
