-- What can't fail to be: a list has an element that fails, or all hold; what holds somewhere holds at a first place.
use Rattle.std.specs.Prelude.{◌≡◌, ◌<◌, ◌≤◌, ◌+◌, ℕ, zero, suc, List, [], ◌∷◌, ◌⊎◌, All, Contains}
use Rattle.std.proofs.Common.{inl, inr, sym, arith, subst}
use Rattle.std.proofs.lemmas.Bool.{cases_lt}
use Rattle.std.proofs.lemmas.List.Elements.{All-nil, All-cons, Contains-append_right, Contains-append_left, Contains-push}
use Rattle.model_octets.proofs.SearchLemmas.{among}

-- it can't be that a fact neither holds nor fails
pub either : {P : Type 0} → ((P ⊎ (P → ⊥)) → ⊥) → ⊥
either k = k (inr (λ p. k (inl p)))

first_of_list : {X : Type 0} → (x : X) (xs : List X) → Contains (x ∷ xs) x
first_of_list x xs = Contains-append_left (x ∷ []) xs x (Contains-push [] x)

later_of_list : {X : Type 0} → (y : X) (xs : List X) (x : X) → Contains xs x → Contains (y ∷ xs) x
later_of_list y xs x c = Contains-append_right (y ∷ []) xs x c

-- all hold, or one fails
pub all_or_one : {X : Type 0} → (P : X → Type 0) (xs : List X) → (All P xs → ⊥) → ((x : X) → Contains xs x → (P x → ⊥) → ⊥) → ⊥
all_or_one P [] all one = all (All-nil P)
all_or_one P (x ∷ xs) all one = either (λ (h : P x ⊎ (P x → ⊥)). elim h [
  | inl p ↦ all_or_one P xs (λ a. all (All-cons P x xs p a)) (λ y c no_p. one y (later_of_list x xs y c) no_p)
  | inr no_p ↦ one x (first_of_list x xs) no_p
])

-- ---- the least number

pub record IsLeast (P : ℕ → Type 0) (n : ℕ) : Type 0 where
  pub holds : P n
  pub least : (m : ℕ) → P m → n ≤ m

none_below : (P : ℕ → Type 0) → ((n : ℕ) → IsLeast P n → ⊥) → (bound n : ℕ) → n < bound → P n → ⊥
none_below P k zero n lt p = absurd (omega (arith, lt))
none_below P k (suc bound) n lt p = k n (record {
  holds = p;
  least = λ m q. elim (cases_lt m n) [
    | inl below ↦ absurd (none_below P k bound m (omega (arith, below, lt)) q)
    | inr le ↦ le
  ];
})

-- what holds of a number holds of a least one
pub least_of : (P : ℕ → Type 0) (n : ℕ) → P n → ((m : ℕ) → IsLeast P m → ⊥) → ⊥
least_of P n p k = none_below P k (n + 1) n (omega arith) p

-- ---- the first of a list

-- an element that has P, and no other that has it stands before it
pub record IsFirst {X : Type 0} (Before : X → X → Type 0) (P : X → Type 0) (xs : List X) (x : X) : Type 0 where
  pub element : Contains xs x
  pub holds : P x
  pub first : (y : X) → Contains xs y → P y → Before x y

-- an order without gaps
pub record IsOrder {X : Type 0} (Before : X → X → Type 0) : Type 0 where
  pub total : (x y : X) → Before x y ⊎ Before y x
  pub chain : (x y z : X) → Before x y → Before y z → Before x z

before_itself : {X : Type 0} → (Before : X → X → Type 0) → IsOrder Before → (x : X) → Before x x
before_itself Before o x = elim (o.total x x) [ inl h ↦ h | inr h ↦ h ]

abbrev NoneHas : {X : Type 0} → (X → Type 0) → List X → Type 0
NoneHas P xs = (y : _) → Contains xs y → P y → ⊥

-- of the elements that have P there is a first
pub some_first : {X : Type 0} → (Before : X → X → Type 0) (P : X → Type 0) → IsOrder Before → (xs : List X) → (NoneHas P xs → ⊥) → ((x : X) → IsFirst Before P xs x → ⊥) → ⊥
some_first Before P o [] some k = some (λ y c p. let n = c.1 in absurd (omega (arith, n)))
some_first {X} Before P o (x ∷ xs) some k = either (λ h. by (some_first Before P o xs) h)
  where
    itself : (y : X) → x ≡ y → Before x y
    itself y e = subst (λ z. Before x z) e (before_itself Before o x)

    alone : P x → NoneHas P xs → ⊥
    alone p none = k x (record {
      element = first_of_list x xs;
      holds = p;
      first = λ y c q. elim (among x xs y c) [ inl e ↦ itself y e | inr d ↦ absurd (none y d q) ];
    })

    against : P x → (z : X) → IsFirst Before P xs z → Before x z ⊎ Before z x → ⊥
    against p z f (inl h) = k x (record {
      element = first_of_list x xs;
      holds = p;
      first = λ y c q. elim (among x xs y c) [ inl e ↦ itself y e | inr d ↦ o.chain x z y h (f.first y d q) ];
    })
    against p z f (inr h) = k z (record {
      element = later_of_list x xs z f.element;
      holds = f.holds;
      first = λ y c q. elim (among x xs y c) [ inl e ↦ subst (λ w. Before z w) e h | inr d ↦ f.first y d q ];
    })

    behind : (P x → ⊥) → (z : X) → IsFirst Before P xs z → ⊥
    behind no_p z f = k z (record {
      element = later_of_list x xs z f.element;
      holds = f.holds;
      first = λ y c q. elim (among x xs y c) [ inl e ↦ absurd (no_p (subst P (sym e) q)) | inr d ↦ f.first y d q ];
    })

    by : ((NoneHas P xs → ⊥) → ((z : X) → IsFirst Before P xs z → ⊥) → ⊥) → P x ⊎ (P x → ⊥) → ⊥
    by rest (inl p) = either (λ (h : NoneHas P xs ⊎ (NoneHas P xs → ⊥)). elim h [ inl none ↦ alone p none | inr more ↦ rest more (λ z f. against p z f (o.total x z)) ])
    by rest (inr no_p) = rest (λ none. some (λ y c q. elim (among x xs y c) [ inl e ↦ no_p (subst P (sym e) q) | inr d ↦ none y d q ])) (behind no_p)
