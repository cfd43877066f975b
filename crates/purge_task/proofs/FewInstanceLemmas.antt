-- Known instances that are counted, one after another.
use Rattle.purge_task.proofs.Common.{◌≡◌, ◌≤◌, ◌<◌, ◌+◌, ℕ, zero, suc, Bool, true, false, cond, List, [], ◌∷◌, length, get_or, Option, Some, None, refl, sym, ◌∙◌, ap, subst, arith, inl, inr, AllPairs, find, nat_le, option_map, cases_eq, cases_lt, nat_tests, InstId, found_none, found_one}
use Rattle.purge_task.proofs.Common.{KnownInstance}
use Rattle.std.specs.Ordering.{is_lt, ordering_reverse}
use Rattle.std.specs.declared.cmp.Ordering.{Ordering}
use Rattle.std.specs.declared.cmp.Ordering.TheVariants.{Less}
use Rattle.sis_store.specs.Instances.{IsIdBefore, instance_past, is_id_past}
use Rattle.sis_store.proofs.IdLemmas.{by_octets, less_lt, lt_less, not_before_itself, turned}

-- Past this one are just those from this place on.
abbrev pub ArePassed : Option InstId → ℕ → List KnownInstance → Type 0
ArePassed last count known = (k : ℕ) (d : KnownInstance) → k < length known → is_id_past last (get_or known k d).row.id ≡ nat_le count k

abbrev is_past : Option InstId → KnownInstance → Bool
is_past last k = is_id_past last k.row.id

first_at : (p : KnownInstance → Bool) (xs : List KnownInstance) (d : KnownInstance) (i : ℕ) → ((k : ℕ) → k < i → p (get_or xs k d) ≡ false) → i < length xs → p (get_or xs i d) ≡ true → find p xs ≡ Some (get_or xs i d)
first_at p [] d i before lt at = absurd (omega (arith, lt))
first_at p (x ∷ xs) d zero before lt at = ap (λ (b : Bool). cond b (Some x) (find p xs)) at
first_at p (x ∷ xs) d (suc i) before lt at =
    ap (λ (b : Bool). cond b (Some x) (find p xs)) (before 0 (omega arith)) ∙ first_at p xs d i (λ k l. before (suc k) (omega (arith, l))) (omega (arith, lt)) at

pub le_true : (a b : ℕ) → a ≤ b → nat_le a b ≡ true
le_true a b l = grind (arith, nat_tests, l)

pub le_false : (a b : ℕ) → b < a → nat_le a b ≡ false
le_false a b l = grind (arith, nat_tests, l)

not_less : (o : Ordering) → o ≡ ordering_reverse Less → is_lt o ≡ false
not_less o e = ap is_lt e

pub true_le : (a b : ℕ) → nat_le a b ≡ true → a ≤ b
true_le a b e = grind (arith, nat_tests, e)

-- what was found is the one at that place
pub record IsNextAt (last : Option InstId) (count : ℕ) (known : List KnownInstance) (id : InstId) : Type 0 where
  pub x : KnownInstance
  pub lt : count < length known
  pub at : get_or known count x ≡ x
  pub id_is : x.row.id ≡ id

pub next_at : (last : Option InstId) (count : ℕ) (known : List KnownInstance) (id : InstId) → ArePassed last count known → instance_past last known ≡ Some id → IsNextAt last count known id
next_at last count known id passed is = by_case (find (is_past last) known) refl is
  where
    by_case : (o : Option KnownInstance) → find (is_past last) known ≡ o → option_map (λ (k : KnownInstance). k.row.id) o ≡ Some id → IsNextAt last count known id
    by_case None e w = absurd (let k : None ≡ Some id = w in cc k)
    by_case (Some x) e w =
        let there = found_one (is_past last) known x e in
        let c = there.0 in
        let i = c.0 in
        let inside = c.1 in
        let is_x : get_or known i x ≡ x = c.2 in
        let low : count ≤ i = true_le count i (sym (passed i x inside) ∙ (ap (is_past last) is_x ∙ there.1)) in
        let lt : count < length known = omega (arith, low, inside) in
        let first = first_at (is_past last) known x count (λ k l. passed k x (omega (arith, l, lt)) ∙ le_false count k l) lt (passed count x lt ∙ le_true count count (omega arith)) in
        record { x = x; lt = lt; at = (let s : Some (get_or known count x) ≡ Some x = sym first ∙ e in cc s); id_is = (let s : x.row.id ≡ id = cc w in s) }

pub none_passed : (known : List KnownInstance) → ArePassed None 0 known
none_passed known = λ k d lt. sym (le_true 0 k (omega arith))

pub one_passed : (last : Option InstId) (count : ℕ) (known : List KnownInstance) (id : InstId) → AllPairs (λ a b. IsIdBefore a.row.id b.row.id) known → ArePassed last count known → instance_past last known ≡ Some id → ArePassed (Some id) (count + 1) known
one_passed last count known id rise passed is = λ k d lt.
    let n = next_at last count known id passed is in
    let here : (get_or known count d).row.id ≡ id = ap (λ (y : KnownInstance). y.row.id) (same_at known count d n.x n.lt ∙ n.at) ∙ n.id_is in
    elim (cases_lt k count) [
      | inl before ↦
          let l = rise k count d before n.lt in
          not_less (by_octets id.0 (get_or known k d).row.id.0) (turned (get_or known k d).row.id.0 id.0 Less (subst (λ (i : InstId). by_octets (get_or known k d).row.id.0 i.0 ≡ Less) here l)) ∙ sym (le_false (count + 1) k (omega (arith, before)))
      | inr after ↦ elim (cases_eq k count) [
        | inl same ↦ itself (is_lt (by_octets id.0 (get_or known k d).row.id.0)) (λ less. not_before_itself id.0 (get_or known k d).row.id.0 (sym (ap (λ (i : InstId). i.0) (subst (λ (j : ℕ). (get_or known j d).row.id ≡ id) (sym same) here))) (is_less (by_octets id.0 (get_or known k d).row.id.0) less)) ∙ sym (le_false (count + 1) k (omega (arith, same)))
        | inr apart ↦
            let l = rise count k d (omega (arith, after, apart)) lt in
            lt_less (by_octets id.0 (get_or known k d).row.id.0) (subst (λ (i : InstId). by_octets i.0 (get_or known k d).row.id.0 ≡ Less) here l) ∙ sym (le_true (count + 1) k (omega (arith, after, apart)))
      ]
    ]
  where
    same_at : (xs : List KnownInstance) (i : ℕ) (d e : KnownInstance) → i < length xs → get_or xs i d ≡ get_or xs i e
    same_at [] i d e lt = absurd (omega (arith, lt))
    same_at (x ∷ xs) zero d e lt = refl
    same_at (x ∷ xs) (suc i) d e lt = same_at xs i d e (omega (arith, lt))

    itself : (b : Bool) → (b ≡ true → ⊥) → b ≡ false
    itself true h = absurd (h refl)
    itself false h = refl

    is_less : (o : Ordering) → is_lt o ≡ true → o ≡ Less
    is_less o e = less_lt o e

-- where none is past it, all were counted
pub all_passed : (last : Option InstId) (count : ℕ) (known : List KnownInstance) → ArePassed last count known → instance_past last known ≡ None → length known ≤ count
all_passed last count [] passed is = omega arith
all_passed last count (y ∷ ys) passed is = elim (cases_lt count (length (y ∷ ys))) [
  | inl lt ↦ absurd (
      let none = found_none (is_past last) (y ∷ ys) (none_of (find (is_past last) (y ∷ ys)) is) count y lt in
      let some = passed count y lt ∙ le_true count count (omega arith) in
      let k : true ≡ false = sym some ∙ none in cc k
      )
  | inr ge ↦ ge
]
  where
    none_of : (o : Option KnownInstance) → option_map (λ (k : KnownInstance). k.row.id) o ≡ None → o ≡ None
    none_of None e = refl
    none_of (Some k) e = absurd (let w : Some k.row.id ≡ None = e in cc w)
