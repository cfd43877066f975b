-- What is kept of replies.
use Rattle.std.proofs.Common.{◌≡◌, ◌<◌, ◌≤◌, ◌+◌, ◌++◌, ◌∷◌, [], ℕ, zero, suc, List, length, map, slice_get, slice_set, Option, Some, None, refl, sym, ◌∙◌, ap, subst, arith, inl, inr}
use Rattle.std.specs.Prelude.{◌⊎◌, ◌≢◌, option_map}
use Rattle.std.proofs.lemmas.List.{length-append, length-set}
use Rattle.std.proofs.lemmas.Option.{slice_get_past}
use Rattle.mdbox_base.specs.declared.replies.Reply.{Reply}
use Rattle.mdbox_base.specs.declared.replies.Reply.TheVariants as reply
use Rattle.serving.proofs.ServingLemmas.{some_at}
use Rattle.serving.proofs.LaneLemmas.{get_set_other, get_set_same, nat_cases, one_some}
use Rattle.lanes.specs.Kept.{AreKeptOf, IsKeptOf, emptied}

-- ---- lists

same_items : {X : Type 0} → (xs ys : List X) → length xs ≡ length ys → ((i : ℕ) → i < length ys → slice_get xs i ≡ slice_get ys i) → xs ≡ ys
same_items [] [] long same = refl
same_items [] (y ∷ ys) long same = absurd (let e : zero ≡ suc (length ys) = long in cc e)
same_items (x ∷ xs) [] long same = absurd (let e : suc (length xs) ≡ zero = long in cc e)
same_items (x ∷ xs) (y ∷ ys) long same =
    let e : Some x ≡ Some y = same zero (omega arith) in
    let head : x ≡ y = cc e in
    let tail : xs ≡ ys = same_items xs ys (omega (arith, long)) (λ i less. same (suc i) (omega (arith, less))) in
    ap (λ z. z ∷ xs) head ∙ ap (λ zs. y ∷ zs) tail

get_more : {X : Type 0} → (xs ys : List X) (x : X) (i : ℕ) → length xs ≡ length ys → slice_get xs i ≡ slice_get ys i → slice_get (xs ++ x ∷ []) i ≡ slice_get (ys ++ x ∷ []) i
get_more [] [] x i long same = refl
get_more [] (y ∷ ys) x i long same = absurd (let e : zero ≡ suc (length ys) = long in cc e)
get_more (z ∷ xs) [] x i long same = absurd (let e : suc (length xs) ≡ zero = long in cc e)
get_more (z ∷ xs) (y ∷ ys) x zero long same = same
get_more (z ∷ xs) (y ∷ ys) x (suc i) long same = get_more xs ys x i (omega (arith, long)) same

pub map_set : {X Y : Type 0} → (f : X → Y) (xs : List X) (i : ℕ) (x : X) → map f (slice_set xs i x) ≡ slice_set (map f xs) i (f x)
map_set f [] i x = refl
map_set f (y ∷ xs) zero x = refl
map_set f (y ∷ xs) (suc i) x = ap (λ ys. f y ∷ ys) (map_set f xs i x)

pub map_more : {X Y : Type 0} → (f : X → Y) (xs : List X) (x : X) → map f (xs ++ x ∷ []) ≡ map f xs ++ f x ∷ []
map_more f [] x = refl
map_more f (y ∷ xs) x = ap (λ ys. f y ∷ ys) (map_more f xs x)

-- ---- replies

pub all_kept : (first : ℕ) (given : List (Option Reply)) → AreKeptOf first given given
all_kept first given = record { many = refl; each = λ i one there. (one, there, inl refl); whole = λ i where_is. refl }

-- all as they were given
pub kept_whole : (first : ℕ) (given kept : List (Option Reply)) → AreKeptOf first given kept → first ≡ length given → kept ≡ given
kept_whole first given kept are all = same_items kept given are.many (λ i less. are.whole i (inl (omega (arith, less, all))))

emptied_again : (one : Reply) → emptied (emptied one) ≡ emptied one
emptied_again (reply.Fetched octets) = refl
emptied_again (reply.Listed rows) = refl
emptied_again other = refl

emptied_twice : (one : Option Reply) → option_map emptied (option_map emptied one) ≡ option_map emptied one
emptied_twice None = refl
emptied_twice (Some one) = ap (λ (r : Reply). Some r) (emptied_again one)

less_kept : (one now : Option Reply) → IsKeptOf one now → IsKeptOf one (option_map emptied now)
less_kept one now (inl same) = inr (ap (option_map emptied) same)
less_kept one now (inr less) = inr (ap (option_map emptied) less ∙ emptied_twice one)

-- The same, but for the last one.
pub record AreKeptSince (first : ℕ) (given kept : List (Option Reply)) : Type 0 where
  pub many : length kept ≡ length given
  pub each : (i : ℕ) (one : Option Reply) → slice_get given i ≡ Some one → (now : Option Reply) × (slice_get kept i ≡ Some now) × IsKeptOf one now
  pub early : (i : ℕ) → i < first → slice_get kept i ≡ slice_get given i

pub kept_since : (first : ℕ) (given kept : List (Option Reply)) → AreKeptOf first given kept → AreKeptSince first given kept
kept_since first given kept are = record { many = are.many; each = are.each; early = λ i less. are.whole i (inl less) }

-- the octets of one are let go
pub one_less : (first : ℕ) (given kept : List (Option Reply)) (p : ℕ) (y : Option Reply) → AreKeptOf first given kept → first ≤ p → slice_get kept p ≡ Some y → AreKeptSince first given (slice_set kept p (option_map emptied y))
one_less first given kept p y are behind there = record {
  many = length-set kept p (option_map emptied y) ∙ are.many;
  each = λ i one at. by_place i one (are.each i one at) (nat_cases i p);
  early = λ i less. get_set_other kept p i (option_map emptied y) (λ same. omega (arith, same, less, behind)) ∙ are.whole i (inl less);
}
  where
    by_place : (i : ℕ) (one : Option Reply) → (now : Option Reply) × (slice_get kept i ≡ Some now) × IsKeptOf one now → (i ≡ p) ⊎ (i ≢ p) → (now : Option Reply) × (slice_get (slice_set kept p (option_map emptied y)) i ≡ Some now) × IsKeptOf one now
    by_place i one k (inl same) =
        let is : y ≡ k.0 = one_some y k.0 (sym there ∙ (ap (slice_get kept) (sym same) ∙ k.1)) in
        (option_map emptied y, ap (slice_get (slice_set kept p (option_map emptied y))) same ∙ get_set_same kept p (option_map emptied y) y there, subst (λ (o : Option Reply). IsKeptOf one (option_map emptied o)) (sym is) (less_kept one k.0 k.2))
    by_place i one k (inr other) = (k.0, get_set_other kept p i (option_map emptied y) (λ same. other (sym same)) ∙ k.1, k.2)

each_more : (given kept : List (Option Reply)) → length kept ≡ length given → ((i : ℕ) (one : Option Reply) → slice_get given i ≡ Some one → (now : Option Reply) × (slice_get kept i ≡ Some now) × IsKeptOf one now)
    → (i : ℕ) (one : Option Reply) → slice_get (given ++ None ∷ []) i ≡ Some one → (now : Option Reply) × (slice_get (kept ++ None ∷ []) i ≡ Some now) × IsKeptOf one now
each_more [] [] long each zero one at = (one, at, inl refl)
each_more [] [] long each (suc i) one at = absurd (let e : None ≡ Some one = at in cc e)
each_more [] (y ∷ kept) long each i one at = absurd (let e : suc (length kept) ≡ zero = long in cc e)
each_more (x ∷ given) [] long each i one at = absurd (let e : zero ≡ suc (length given) = long in cc e)
each_more (x ∷ given) (y ∷ kept) long each zero one at = each zero one at
each_more (x ∷ given) (y ∷ kept) long each (suc i) one at = each_more given kept (omega (arith, long)) (λ j other there. each (suc j) other there) i one at

-- a request more
pub one_more_kept : (first : ℕ) (given kept : List (Option Reply)) → AreKeptSince first given kept → AreKeptOf first (given ++ None ∷ []) (kept ++ None ∷ [])
one_more_kept first given kept are = record {
  many = let n = length-append kept (None ∷ []) in let m = length-append given (None ∷ []) in let l = are.many in omega (arith, n, m, l);
  each = each_more given kept are.many are.each;
  whole = by_place;
}
  where
    by_place : (i : ℕ) → (i < first) ⊎ (i + 1 ≡ length (given ++ None ∷ [])) → slice_get (kept ++ None ∷ []) i ≡ slice_get (given ++ None ∷ []) i
    by_place i (inl less) = get_more kept given None i are.many (are.early i less)
    by_place i (inr last) =
        let n = length-append given (None ∷ []) in
        let l = are.many in
        get_more kept given None i are.many (slice_get_past kept i (omega (arith, n, l, last)) ∙ sym (slice_get_past given i (omega (arith, n, last))))

-- a reply at its place
pub one_put : (first : ℕ) (given kept : List (Option Reply)) (p : ℕ) (x : Option Reply) → AreKeptOf first given kept → p < length given → AreKeptOf first (slice_set given p x) (slice_set kept p x)
one_put first given kept p x are inside = record {
  many = length-set kept p x ∙ (are.many ∙ sym (length-set given p x));
  each = λ i one at. each_at i one at (nat_cases i p);
  whole = λ i where_is. whole_at i where_is (nat_cases i p);
}
  where
    in_given : slice_get (slice_set given p x) p ≡ Some x
    in_given = let t = some_at given p inside in get_set_same given p x t.0 t.1

    in_kept : slice_get (slice_set kept p x) p ≡ Some x
    in_kept = let l = are.many in let t = some_at kept p (omega (arith, inside, l)) in get_set_same kept p x t.0 t.1

    each_at : (i : ℕ) (one : Option Reply) → slice_get (slice_set given p x) i ≡ Some one → (i ≡ p) ⊎ (i ≢ p) → (now : Option Reply) × (slice_get (slice_set kept p x) i ≡ Some now) × IsKeptOf one now
    each_at i one at (inl same) =
        let is : x ≡ one = one_some x one (sym in_given ∙ (ap (slice_get (slice_set given p x)) (sym same) ∙ at)) in
        (x, ap (slice_get (slice_set kept p x)) same ∙ in_kept, inl is)
    each_at i one at (inr other) =
        let k = are.each i one (sym (get_set_other given p i x (λ same. other (sym same))) ∙ at) in
        (k.0, get_set_other kept p i x (λ same. other (sym same)) ∙ k.1, k.2)

    whole_at : (i : ℕ) → (i < first) ⊎ (i + 1 ≡ length (slice_set given p x)) → (i ≡ p) ⊎ (i ≢ p) → slice_get (slice_set kept p x) i ≡ slice_get (slice_set given p x) i
    whole_at i where_is (inl same) = ap (slice_get (slice_set kept p x)) same ∙ (in_kept ∙ (sym in_given ∙ ap (slice_get (slice_set given p x)) (sym same)))
    whole_at i where_is (inr other) =
        get_set_other kept p i x (λ same. other (sym same)) ∙ (are.whole i (subst (λ (n : ℕ). (i < first) ⊎ (i + 1 ≡ n)) (length-set given p x) where_is) ∙ sym (get_set_other given p i x (λ same. other (sym same))))
