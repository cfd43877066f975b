-- Which instance a purge finds: in a run, one that may be removed.
use Rattle.purge_task.proofs.Common.{◌≡◌, ◌≤◌, ◌==◌, ◌&&◌, ◌||◌, ℕ, Bool, true, false, not, List, [], ◌∷◌, Option, Some, None, All, refl, sym, ◌∙◌, ap, subst, arith, inl, inr, Contains, find, list_any, option_map, option_map_or, bytes_eq, All-cons, All-contains, All-contains_itself, All-head}
use Rattle.purge_task.proofs.Common.{All-nil, Contains-append_right, eq-eqb, eqb-true, Faults, History, is_instance_named, InstRow, InstId, MapMeaning, named_instances, pairs_head, pairs_tail, among, found_none, found_one, text_is, text_yes, Run, AreInstances, holders_in, instance_in, KnownInstance}
use Rattle.purge_task.proofs.Common.{instance-in, same_id, is_useless, HasKnownInstances, IsKnownRow, StoreValue, HasComeTo, seen_by_purge, fall}
use Rattle.std.specs.Prelude.{cond}
use Rattle.std.specs.Ordering.{is_lt, nat_cmp}
use Rattle.std.specs.Cmp.Lexicographic.{slice_cmp}
use Rattle.std.specs.declared.cmp.Ordering.TheVariants.{Less, Greater}
use Rattle.journal.specs.Found.{FindsInstance, IsFreeInstance, is_held, is_pinned_instance, is_same_instance}
use Rattle.sis_store.specs.Instances.{IsIdBefore}
use Rattle.sis_store.proofs.IdLemmas.{Rise, less_lt, not_before_itself, turned}
use Rattle.store_core.specs.Knows.{knows_instance}
use Rattle.purge_task.specs.Clause.{TellsUses, next_useless_of}

-- ---- tests

is_false : (b : Bool) → (b ≡ true → ⊥) → b ≡ false
is_false true h = absurd (h refl)
is_false false h = refl

both_true : (a b : Bool) → (a && b) ≡ true → (a ≡ true) × (b ≡ true)
both_true true b e = (refl, e)
both_true false b e = absurd (cc e)

and_true : (a b : Bool) → a ≡ true → b ≡ true → (a && b) ≡ true
and_true a b x y = rw (x, y) refl

either_none : (a b : Bool) → (a || b) ≡ false → (a ≡ false) × (b ≡ false)
either_none false b e = (refl, e)
either_none true b e = absurd (cc e)

none_both : (a b : Bool) → a ≡ false → b ≡ false → (a || b) ≡ false
none_both a b x y = rw (x, y) refl

any_of : {X : Type 0} → (p : X → Bool) (xs : List X) → list_any p xs ≡ true → (x : X) × Contains xs x × (p x ≡ true)
any_of p [] e = absurd (cc e)
any_of p (x ∷ xs) e = by_test (p x) refl (any_of p xs)
  where
    by_test : (b : Bool) → p x ≡ b → (list_any p xs ≡ true → (y : _) × Contains xs y × (p y ≡ true)) → (y : _) × Contains (x ∷ xs) y × (p y ≡ true)
    by_test true t rest = (x, All-head (λ (y : _). Contains (x ∷ xs) y) x xs (All-contains_itself (x ∷ xs)), t)
    by_test false t rest = let r = rest (sym (ap (λ (b : Bool). b || list_any p xs) t) ∙ e) in (r.0, Contains-append_right (x ∷ []) xs r.0 r.1, r.2)

all_none : {X : Type 0} → (p : X → Bool) (xs : List X) → list_any p xs ≡ false → All (λ x. p x ≡ false) xs
all_none p [] e = All-nil _
all_none p (x ∷ xs) e = let b = either_none (p x) (list_any p xs) e in All-cons (λ y. p y ≡ false) x xs b.0 (all_none p xs b.1)

pub any_has : {X : Type 0} → (p : X → Bool) (xs : List X) (x : X) → Contains xs x → p x ≡ true → list_any p xs ≡ true
any_has p xs x there is = by_test (list_any p xs) refl
  where
    by_test : (b : Bool) → list_any p xs ≡ b → list_any p xs ≡ true
    by_test true e = e
    by_test false e = absurd (fall (p x) is (All-contains (λ y. p y ≡ false) xs x (all_none p xs e) there))

less_greater : Greater ≡ Less → ⊥
less_greater e = let k : is_lt Greater ≡ is_lt Less = ap is_lt e in let f : false ≡ true = k in cc f

-- ---- rows

same_row : (a b : InstRow) → is_same_instance a b ≡ true → (a.hash.0 ≡ b.hash.0) × (a.id ≡ b.id)
same_row a b e = let t = both_true (bytes_eq a.hash.0 b.hash.0) (bytes_eq a.id.0 b.id.0) e in (text_is a.hash.0 b.hash.0 t.0, same_id a.id b.id (text_is a.id.0 b.id.0 t.1))

row_same : (a b : InstRow) → a.hash.0 ≡ b.hash.0 → a.id ≡ b.id → is_same_instance a b ≡ true
row_same a b h i = and_true (bytes_eq a.hash.0 b.hash.0) (bytes_eq a.id.0 b.id.0) (text_yes a.hash.0 b.hash.0 h) (text_yes a.id.0 b.id.0 (ap (λ (x : InstId). x.0) i))

-- ---- what the store knows

-- it is known, with its hash
pub known_is : {D : Type 0} → (store : StoreValue D) (row : InstRow) → knows_instance store row ≡ true → (k : KnownInstance) × (instance_in row.id store.instances.known ≡ Some k) × Contains store.instances.known k × (k.row.id ≡ row.id) × (k.row.hash.0 ≡ row.hash.0)
known_is store row e = by_case (instance_in row.id store.instances.known) refl
  where
    by_case : (o : Option KnownInstance) → instance_in row.id store.instances.known ≡ o → (k : KnownInstance) × (instance_in row.id store.instances.known ≡ Some k) × Contains store.instances.known k × (k.row.id ≡ row.id) × (k.row.hash.0 ≡ row.hash.0)
    by_case None is = absurd (let k : false ≡ true = sym (ap (λ (o : Option KnownInstance). option_map_or (λ k. bytes_eq k.row.hash.0 row.hash.0) o false) is) ∙ e in cc k)
    by_case (Some k) is =
        let there = found_one (λ (j : KnownInstance). bytes_eq j.row.id.0 row.id.0) store.instances.known k is in
        (k, is, there.0, same_id k.row.id row.id (text_is k.row.id.0 row.id.0 there.1), text_is k.row.hash.0 row.hash.0 (sym (ap (λ (o : Option KnownInstance). option_map_or (λ k. bytes_eq k.row.hash.0 row.hash.0) o false) is) ∙ e))

held_by : (id : InstId) (known : List KnownInstance) (k : KnownInstance) → instance_in id known ≡ Some k → holders_in id known ≡ k.holders
held_by id known k is = ap (λ (o : Option KnownInstance). option_map_or (λ k. k.holders) o 0) is

-- a record names it, by the hash that it is known with
named_so : {D : Type 0} → (history : Option History) (store : StoreValue D) (row : InstRow) (k : KnownInstance) → HasKnownInstances history store → instance_in row.id store.instances.known ≡ Some k → k.row.hash.0 ≡ row.hash.0 → is_instance_named store.map row.id.0 ≡ true
    → list_any (is_same_instance row) (named_instances store.map) ≡ true
named_so history store row k known is hash named =
    let i = any_of (λ (i : InstRow). bytes_eq i.id.0 row.id.0) (named_instances store.map) named in
    let id : i.0.id ≡ row.id = same_id i.0.id row.id (text_is i.0.id.0 row.id.0 i.2) in
    let at : IsKnownRow store.instances.known i.0 = All-contains (IsKnownRow store.instances.known) (named_instances store.map) i.0 known.kept.named i.1 in
    let same : Some k.row ≡ Some i.0 = sym (ap (λ (o : Option KnownInstance). option_map (λ k. k.row) o) is) ∙ (sym (ap (λ (x : InstId). option_map (λ k. k.row) (instance_in x store.instances.known)) id) ∙ at) in
    let row_is : k.row ≡ i.0 = cc same in
    any_has (is_same_instance row) (named_instances store.map) i.0 i.1 (row_same row i.0 (sym hash ∙ ap (λ (r : InstRow). r.hash.0) row_is) (sym id))

not_named : {D : Type 0} → (store : StoreValue D) (row : InstRow) → is_instance_named store.map row.id.0 ≡ false → list_any (is_same_instance row) (named_instances store.map) ≡ false
not_named store row none = is_false (list_any (is_same_instance row) (named_instances store.map)) (λ some.
    let i = any_of (is_same_instance row) (named_instances store.map) some in
    fall (is_instance_named store.map row.id.0) (any_has (λ (j : InstRow). bytes_eq j.id.0 row.id.0) (named_instances store.map) i.0 i.1 (text_yes i.0.id.0 row.id.0 (sym (ap (λ (x : InstId). x.0) (same_row row i.0 i.2).1)))) none)

-- what a run says is free is of no use in the store
abbrev Useless : {D : Type 0} → StoreValue D → InstRow → Type 0
Useless store row = (k : KnownInstance) × (instance_in row.id store.instances.known ≡ Some k) × Contains store.instances.known k × (k.row.id ≡ row.id) × (is_useless store.map k ≡ true)

none_held : (n : ℕ) → (1 ≤ n → ⊥) → (n == 0) ≡ true
none_held n h = eq-eqb n 0 (omega (arith, h))

free_useless : {D : Type 0} → (run : Run) (store : StoreValue D) (history : Option History) (faults : Faults) (row : InstRow) → HasComeTo run (seen_by_purge store history faults) → store.stopped ≡ false → TellsUses run store → HasKnownInstances history store → IsFreeInstance run row → Useless store row
free_useless run store history faults row come runs uses known free =
    let knows : knows_instance store row ≡ true = sym ((come.keeps runs).instances row) ∙ free.known in
    let k = known_is store row knows in
    let unheld : (k.0.holders == 0) ≡ true = none_held k.0.holders (λ some.
    fall (is_held run row || is_pinned_instance run row) (uses.held row knows (subst (λ (n : ℕ). 1 ≤ n) (sym (held_by row.id store.instances.known k.0 k.1)) some)) (none_both (is_held run row) (is_pinned_instance run row) free.unheld free.unpinned)) in
    let unnamed : is_instance_named store.map row.id.0 ≡ false = is_false (is_instance_named store.map row.id.0) (λ named.
    fall (list_any (is_same_instance row) (named_instances store.map)) (named_so history store row k.0 known k.1 k.4 named) (sym (ap (λ (m : MapMeaning). list_any (is_same_instance row) (named_instances m)) come.come.map_is) ∙ free.unnamed)) in
    (k.0, k.1, k.2, k.3, and_true (k.0.holders == 0) (not (is_instance_named store.map k.0.row.id.0)) unheld (ap (λ (b : Bool). not b) (ap (λ (x : InstId). is_instance_named store.map x.0) k.3 ∙ unnamed)))

-- ---- what it finds

-- one that is of no use is free
useless_free : {D : Type 0} → (run : Run) (store : StoreValue D) (history : Option History) (faults : Faults) (k : KnownInstance) → HasComeTo run (seen_by_purge store history faults) → store.stopped ≡ false → TellsUses run store → AreInstances store.instances → Contains store.instances.known k
    → is_useless store.map k ≡ true → IsFreeInstance run k.row
useless_free run store history faults k come runs uses ids there useless =
    let at : instance_in k.row.id store.instances.known ≡ Some k = instance-in store.instances.known k ids.rising there in
    let parts = both_true (k.holders == 0) (not (is_instance_named store.map k.row.id.0)) useless in
    let none : holders_in k.row.id store.instances.known ≡ 0 = held_by k.row.id store.instances.known k at ∙ eqb-true k.holders 0 parts.0 in
    let unnamed : is_instance_named store.map k.row.id.0 ≡ false = is_false (is_instance_named store.map k.row.id.0) (λ named. fall (not (is_instance_named store.map k.row.id.0)) parts.1 (ap (λ (b : Bool). not b) named)) in
    let unused = either_none (is_held run k.row) (is_pinned_instance run k.row) (is_false (is_held run k.row || is_pinned_instance run k.row) (λ used. elim (uses.used k.row used) [
      | inl some ↦ omega (arith, some, none)
      | inr named ↦ fall (is_instance_named store.map k.row.id.0) named unnamed
    ])) in
    record {
      known = (come.keeps runs).instances k.row ∙ (ap (λ (o : Option KnownInstance). option_map_or (λ j. bytes_eq j.row.hash.0 k.row.hash.0) o false) at ∙ text_yes k.row.hash.0 k.row.hash.0 refl);
      unnamed = ap (λ (m : MapMeaning). list_any (is_same_instance k.row) (named_instances m)) come.come.map_is ∙ not_named store k.row unnamed;
      unheld = unused.0;
      unpinned = unused.1;
    }

not_both : (k j : KnownInstance) → IsIdBefore k.row.id j.row.id → IsIdBefore j.row.id k.row.id → ⊥
not_both k j a b = less_greater (sym (turned k.row.id.0 j.row.id.0 Less a) ∙ b)

-- those before the first that passes don't pass
first_found : (p : KnownInstance → Bool) (known : List KnownInstance) (k j : KnownInstance) → Rise known → find p known ≡ Some k → Contains known j → p j ≡ true → IsIdBefore j.row.id k.row.id → ⊥
first_found p [] k j rise e there is before = absurd (let w : None ≡ Some k = e in cc w)
first_found p (x ∷ known) k j rise e there is before = by_test (p x) refl (first_found p known k j (pairs_tail (λ (a b : KnownInstance). IsIdBefore a.row.id b.row.id) x known rise))
  where
    by_test : (b : Bool) → p x ≡ b → (find p known ≡ Some k → Contains known j → p j ≡ true → IsIdBefore j.row.id k.row.id → ⊥) → ⊥
    by_test true t rest =
        let first : Some x ≡ Some k = sym (ap (λ (b : Bool). cond b (Some x) (find p known)) t) ∙ e in
        let x_is : x ≡ k = cc first in
        elim (among x known j there) [
          | inl same ↦ not_before_itself j.row.id.0 k.row.id.0 (ap (λ (i : KnownInstance). i.row.id.0) (sym same ∙ x_is)) before
          | inr later ↦ not_both k j (subst (λ (i : KnownInstance). IsIdBefore i.row.id j.row.id) x_is (All-contains (λ (b : KnownInstance). IsIdBefore x.row.id b.row.id) known j (pairs_head (λ (a b : KnownInstance). IsIdBefore a.row.id b.row.id) x known rise) later)) before
        ]
    by_test false t rest = elim (among x known j there) [
      | inl same ↦ fall (p j) is (ap p (sym same) ∙ t)
      | inr later ↦ rest (sym (ap (λ (b : Bool). cond b (Some x) (find p known)) t) ∙ e) later is before
    ]

pub finds_none : {D : Type 0} → (run : Run) (store : StoreValue D) (history : Option History) (faults : Faults) → HasComeTo run (seen_by_purge store history faults) → store.stopped ≡ false → TellsUses run store → HasKnownInstances history store → find (λ k. is_useless store.map k) store.instances.known ≡ None → FindsInstance run (next_useless_of store)
finds_none run store history faults come runs uses known none = subst (λ (o : Option InstRow). FindsInstance run o) (sym (ap (λ (o : Option KnownInstance). option_map (λ k. k.row) o) none)) (λ row free.
    let u = free_useless run store history faults row come runs uses known free in
    fall (is_useless store.map u.0) u.4 (All-contains (λ (k : KnownInstance). is_useless store.map k ≡ false) store.instances.known u.0 (found_none (λ (k : KnownInstance). is_useless store.map k) store.instances.known none) u.2))

pub finds_one : {D : Type 0} → (run : Run) (store : StoreValue D) (history : Option History) (faults : Faults) (k : KnownInstance) → HasComeTo run (seen_by_purge store history faults) → store.stopped ≡ false → TellsUses run store → HasKnownInstances history store → AreInstances store.instances
    → find (λ k. is_useless store.map k) store.instances.known ≡ Some k → FindsInstance run (next_useless_of store)
finds_one run store history faults k come runs uses known ids found =
    let there = found_one (λ (j : KnownInstance). is_useless store.map j) store.instances.known k found in
    subst (λ (o : Option InstRow). FindsInstance run o) (sym (ap (λ (o : Option KnownInstance). option_map (λ k. k.row) o) found)) (
      useless_free run store history faults k come runs uses ids there.0 there.1,
      λ other free less.
          let u = free_useless run store history faults other come runs uses known free in
          first_found (λ (j : KnownInstance). is_useless store.map j) store.instances.known k u.0 ids.rising found u.2 u.4 (subst (λ (i : InstId). IsIdBefore i k.row.id) (sym u.3) (less_lt (slice_cmp nat_cmp other.id.0 k.row.id.0) less)),
    )
