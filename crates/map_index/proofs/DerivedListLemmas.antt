-- Look-ups in a list that is made of another one.
use Rattle.map_index.proofs.Common.{filter, ◌≡◌, ◌||◌, Bool, true, false, cond, Option, Some, List, [], ◌∷◌, map, find, subst, refl, sym, ap, ◌∙◌, All, ◌↔◌, list_any, option_map, All-nil, All-cons, All-head, All-tail}
use Rattle.std.specs.Prelude.{flat_map}
use Rattle.std.proofs.lemmas.List.Folds.{list_any-append}
use Rattle.std.proofs.lemmas.List.Elements.{All-map}

found : {X Y : Type 0} → (f : X → Y) (b : Bool) (x : X) (rest : Option X) → cond b (Some (f x)) (option_map f rest) ≡ option_map f (cond b (Some x) rest)
found f true x rest = refl
found f false x rest = refl

-- the first that passes
pub find-map : {X Y : Type 0} → (p : Y → Bool) (f : X → Y) (xs : List X) → find p (map f xs) ≡ option_map f (find (λ x. p (f x)) xs)
find-map p f [] = refl
find-map p f (x ∷ xs) = ap (cond (p (f x)) (Some (f x))) (find-map p f xs) ∙ found f (p (f x)) x (find (λ x. p (f x)) xs)

pub list_any-map : {X Y : Type 0} → (p : Y → Bool) (f : X → Y) (xs : List X) → list_any p (map f xs) ≡ list_any (λ x. p (f x)) xs
list_any-map p f [] = refl
list_any-map p f (x ∷ xs) = ap (λ (b : Bool). p (f x) || b) (list_any-map p f xs)

pub list_any-flat_map : {X Y : Type 0} → (p : Y → Bool) (f : X → List Y) (xs : List X) → list_any p (flat_map f xs) ≡ list_any (λ x. list_any p (f x)) xs
list_any-flat_map p f [] = refl
list_any-flat_map p f (x ∷ xs) = list_any-append p (f x) (flat_map f xs) ∙ ap (λ (b : Bool). list_any p (f x) || b) (list_any-flat_map p f xs)

-- those that pass
kept_first : {X Y : Type 0} → (f : X → Y) (b : Bool) (x : X) (ys : List X) (zs : List Y) → map f ys ≡ zs → map f (cond b (x ∷ ys) ys) ≡ cond b (f x ∷ zs) zs
kept_first f true x ys zs e = ap (λ l. f x ∷ l) e
kept_first f false x ys zs e = e

pub filter-map : {X Y : Type 0} → (p : Y → Bool) (f : X → Y) (xs : List X) → map f (filter (λ x. p (f x)) xs) ≡ filter p (map f xs)
filter-map p f [] = refl
filter-map p f (x ∷ xs) = kept_first f (p (f x)) x (filter (λ y. p (f y)) xs) (filter p (map f xs)) (filter-map p f xs)

-- what holds of each, along a list that is made of another
pub All-unmap : {X Y : Type 0} → (P : Y → Type 0) (f : X → Y) (xs : List X) → All P (map f xs) → All (λ x. P (f x)) xs
All-unmap P f [] a = All-nil (λ x. P (f x))
All-unmap P f (x ∷ xs) a = All-cons (λ x. P (f x)) x xs (All-head P (f x) (map f xs) a) (All-unmap P f xs (All-tail P (f x) (map f xs) a))

-- ---- the same of a list that is known under two names

pub found_in : {X Y : Type 0} → (p : Y → Bool) (f : X → Y) (rs xs : List X) (ys : List Y) (o : Option X) → o ≡ find (λ x. p (f x)) rs → rs ≡ xs → map f xs ≡ ys → option_map f o ≡ find p ys
found_in p f rs xs ys o e same view = ap (option_map f) e ∙ sym (find-map p f rs) ∙ ap (λ (zs : List _). find p (map f zs)) same ∙ ap (find p) view

pub any_in : {X Y : Type 0} → (p : Y → Bool) (f : X → Y) (rs xs : List X) (ys : List Y) (b : Bool) → b ≡ list_any (λ x. p (f x)) rs → rs ≡ xs → map f xs ≡ ys → b ≡ list_any p ys
any_in p f rs xs ys b e same view = e ∙ sym (list_any-map p f rs) ∙ ap (λ (zs : List _). list_any p (map f zs)) same ∙ ap (list_any p) view

pub all_in : {X Y : Type 0} → (P : Y → Type 0) (f : X → Y) (rs xs : List X) (ys : List Y) (T : Type 0) → (T ↔ All (λ x. P (f x)) rs) → rs ≡ xs → map f xs ≡ ys → (T ↔ All P ys)
all_in P f rs xs ys T h same view =
    let e : map f rs ≡ ys = ap (map f) same ∙ view in
    ((λ t. subst (All P) e (All-map P f rs (h.0 t))), (λ a. h.1 (All-unmap P f rs (subst (All P) (sym e) a))))
