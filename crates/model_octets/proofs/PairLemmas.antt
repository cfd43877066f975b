-- Facts of all elements of a list, and of all pairs of them.
use Rattle.std.specs.Prelude.{◌≡◌, ◌≤◌, suc, Bool, true, false, not, cond, List, [], ◌∷◌, ◌++◌, length, map, filter, find, Some, All, AllPairs, refl}
use Rattle.std.proofs.Common.{sym, ◌∙◌, ap, arith, subst}
use Rattle.std.proofs.lemmas.List.Elements.{All-nil, All-cons, All-head, All-tail, All-map, All-filter, All-weaker}
use Rattle.std.proofs.lemmas.List.Kept.{AllPairs-cons, AllPairs-filter}
use Rattle.std.proofs.lemmas.List.Quantifiers.{all_pairs_push}

pub pairs_head : {X : Type 0} → (R : X → X → Type 0) (x : X) (xs : List X) → AllPairs R (x ∷ xs) → All (R x) xs
pairs_head R x xs p = λ k d lt. p 0 (suc k) d (omega arith) (omega (arith, lt))

pub pairs_tail : {X : Type 0} → (R : X → X → Type 0) (x : X) (xs : List X) → AllPairs R (x ∷ xs) → AllPairs R xs
pairs_tail R x xs p = λ i j d lt le. p (suc i) (suc j) d (omega (arith, lt)) (omega (arith, le))

pub pairs_nil : {X : Type 0} → (R : X → X → Type 0) → AllPairs R []
pairs_nil R = λ i j d lt le. absurd (omega (arith, le))

-- a relation that a change keeps
pub pairs_map : {X Y : Type 0} → (R : X → X → Type 0) (Q : Y → Y → Type 0) (f : X → Y) → ((a b : X) → R a b → Q (f a) (f b)) → (xs : List X) → AllPairs R xs → AllPairs Q (map f xs)
pairs_map R Q f keeps [] p = pairs_nil Q
pairs_map R Q f keeps (x ∷ xs) p =
    AllPairs-cons Q (f x) (map f xs) (All-map (Q (f x)) f xs (All-weaker (R x) (λ y. Q (f x) (f y)) (λ y h. keeps x y h) xs (pairs_head R x xs p)))
    (pairs_map R Q f keeps xs (pairs_tail R x xs p))

pub all_map : {X Y : Type 0} → (P : X → Type 0) (Q : Y → Type 0) (f : X → Y) → ((a : X) → P a → Q (f a)) → (xs : List X) → All P xs → All Q (map f xs)
all_map P Q f keeps xs p = All-map Q f xs (All-weaker P (λ x. Q (f x)) keeps xs p)

pub pairs_push : {X : Type 0} → (R : X → X → Type 0) (xs : List X) (y : X) → AllPairs R xs → All (λ x. R x y) xs → AllPairs R (xs ++ y ∷ [])
pairs_push R xs y p a = all_pairs_push R xs y p (λ k d lt. a k d lt)

found_step : {X : Type 0} → (p : X → Bool) (y x : X) (ys : List X) (P : X → Type 0) (b : Bool) → p y ≡ b → P y → (find p ys ≡ Some x → P x × (p x ≡ true)) → cond b (Some y) (find p ys) ≡ Some x → P x × (p x ≡ true)
found_step p y x ys P true h q rest e = let k : y ≡ x = cc e in (subst P k q, ap p (sym k) ∙ h)
found_step p y x ys P false h q rest e = rest e

-- an element that a search found is one that passes
pub found_holds : {X : Type 0} → (p : X → Bool) (xs : List X) (x : X) (P : X → Type 0) → find p xs ≡ Some x → All P xs → P x × (p x ≡ true)
found_holds p [] x P e a = absurd (cc e)
found_holds p (y ∷ ys) x P e a = found_step p y x ys P (p y) refl (All-head P y ys a) (λ f. found_holds p ys x P f (All-tail P y ys a)) e

-- two don't both pass
abbrev pub NotBoth : {X : Type 0} → (X → Bool) → X → X → Type 0
NotBoth p a b = p a ≡ true → p b ≡ true → ⊥

abbrev pub IsOnly : {X : Type 0} → (X → Bool) → X → X → Type 0
IsOnly p x y = p y ≡ true → y ≡ x

only_step : {X : Type 0} → (p : X → Bool) (y x : X) (ys : List X) (b : Bool) → p y ≡ b → All (NotBoth p y) ys → (find p ys ≡ Some x → All (IsOnly p x) ys) → cond b (Some y) (find p ys) ≡ Some x → All (IsOnly p x) (y ∷ ys)
only_step p y x ys true h apart rest e =
    let k : y ≡ x = cc e in
    All-cons (IsOnly p x) y ys (λ _. k) (All-weaker (NotBoth p y) (IsOnly p x) (λ z no q. absurd (no h q)) ys apart)
only_step p y x ys false h apart rest e = All-cons (IsOnly p x) y ys (λ q. absurd (let w : false ≡ true = sym h ∙ q in cc w)) (rest e)

-- where what passes is one at most, what was found is each that passes
pub found_only : {X : Type 0} → (p : X → Bool) (xs : List X) (x : X) → find p xs ≡ Some x → AllPairs (NotBoth p) xs → All (IsOnly p x) xs
found_only p [] x e a = All-nil (IsOnly p x)
found_only p (y ∷ ys) x e a = only_step p y x ys (p y) refl (pairs_head (NotBoth p) y ys a) (λ f. found_only p ys x f (pairs_tail (NotBoth p) y ys a)) e

-- what a search found is in the list
pub found_among : {X : Type 0} → (p : X → Bool) (xs : List X) (x : X) (P : X → Type 0) → find p xs ≡ Some x → All P xs → P x
found_among p xs x P e a = (found_holds p xs x P e a).0

-- no element passes both tests
abbrev pub PassesOne : {X : Type 0} → (X → Bool) → (X → Bool) → X → Type 0
PassesOne p q y = p y ≡ true → q y ≡ true → ⊥

two_step : {X : Type 0} → (p q : X → Bool) (Rel : X → X → Type 0) (y x z : X) (ys : List X) (b c : Bool) → p y ≡ b → q y ≡ c
    → PassesOne p q y → All (Rel y) ys → ((u v : X) → Rel u v → Rel v u)
    → (find p ys ≡ Some x → find q ys ≡ Some z → Rel x z) → cond b (Some y) (find p ys) ≡ Some x → cond c (Some y) (find q ys) ≡ Some z → Rel x z
two_step p q Rel y x z ys true true hb hc one all turn rest e f = absurd (one hb hc)
two_step p q Rel y x z ys true false hb hc one all turn rest e f = let k : y ≡ x = cc e in subst (λ u. Rel u z) k (found_among q ys z (Rel y) f all)
two_step p q Rel y x z ys false true hb hc one all turn rest e f = let k : y ≡ z = cc f in turn z x (subst (λ u. Rel u x) k (found_among p ys x (Rel y) e all))
two_step p q Rel y x z ys false false hb hc one all turn rest e f = rest e f

-- two that were found by tests that no element passes both
pub found_two : {X : Type 0} → (p q : X → Bool) (Rel : X → X → Type 0) (xs : List X) (x z : X) → All (PassesOne p q) xs → AllPairs Rel xs → ((u v : X) → Rel u v → Rel v u) → find p xs ≡ Some x → find q xs ≡ Some z → Rel x z
found_two p q Rel [] x z one a turn e f = absurd (cc e)
found_two p q Rel (y ∷ ys) x z one a turn e f =
    two_step p q Rel y x z ys (p y) (q y) refl refl (All-head (PassesOne p q) y ys one) (pairs_head Rel y ys a) turn
    (λ g h. found_two p q Rel ys x z (All-tail (PassesOne p q) y ys one) (pairs_tail Rel y ys a) turn g h) e f
