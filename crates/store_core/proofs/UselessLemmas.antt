-- The next instance that is of no use: from one that nobody holds to the next, past those that records name.
use Rattle.store_core.proofs.Common.{◌⊎◌, ◌&&◌, not, filter, option_map, Less, inl, inr, ◌≡◌, ◌<◌, ℕ, Bool, true, false, List, [], ◌∷◌, length, Option, Some, None, All, refl, sym, ◌∙◌, ap, subst, arith, cond-true, cond-false, cases_Bool, false≢true, same_Some, All-head, All-tail, All-contains}
use Rattle.store_core.proofs.Common.{All-weaker, is_instance_named, InstId, MapMeaning, pairs_head, pairs_tail, found_one, KnownInstance, turned, lt_less, useless_past}
use Rattle.std.specs.Prelude.{◌==◌, cond, find}
use Rattle.std.specs.Ordering.{is_lt}
use Rattle.std.proofs.lemmas.Cmp.{nat_list_cmp_total}
use Rattle.sis_store.specs.Instances.{IsIdBefore, is_id_past, unheld_past}
use Rattle.sis_store.proofs.IdLemmas.{by_octets, Rise, not_before_itself, less_lt}
use Rattle.store_core.specs.Removing.{is_useless}

-- nobody holds it, and it is past this one
abbrev pub is_unheld : Option InstId → KnownInstance → Bool
is_unheld after k = (k.holders == 0) && is_id_past after k.row.id

-- it is of no use, and past this one
abbrev pub is_useless_from : MapMeaning → Option InstId → KnownInstance → Bool
is_useless_from m after k = is_useless m k && is_id_past after k.row.id

-- ---- tests

and_left : (a b : Bool) → (a && b) ≡ true → a ≡ true
and_left true b e = refl
and_left false b e = absurd (false≢true e)

and_right : (a b : Bool) → (a && b) ≡ true → b ≡ true
and_right true b e = e
and_right false b e = absurd (false≢true e)

and_false : (a b : Bool) → b ≡ false → (a && b) ≡ false
and_false true b e = e
and_false false b e = refl

-- one that somebody holds, or that isn't past this one, isn't sought
unsought : (held named past : Bool) → (held && past) ≡ false → ((held && named) && past) ≡ false
unsought false named past e = refl
unsought true true past e = e
unsought true false past e = refl

sought : (held named past : Bool) → (held && past) ≡ true → named ≡ true → ((held && named) && past) ≡ true
sought held named past e n = ap (λ (b : Bool). (held && b) && past) n ∙ ap (λ (b : Bool). b && past) (held_alone held) ∙ e
  where
    held_alone : (b : Bool) → (b && true) ≡ b
    held_alone true = refl
    held_alone false = refl

same_find : {X : Type 0} → (p q : X → Bool) (xs : List X) → All (λ x. p x ≡ q x) xs → find p xs ≡ find q xs
same_find p q [] a = refl
same_find p q (x ∷ xs) a =
    ap (λ (b : Bool). cond b (Some x) (find p xs)) (All-head (λ y. p y ≡ q y) x xs a)
    ∙ ap (λ (o : Option _). cond (q x) (Some x) o) (same_find p q xs (All-tail (λ y. p y ≡ q y) x xs a))

same_filter : {X : Type 0} → (p q : X → Bool) (xs : List X) → All (λ x. p x ≡ q x) xs → filter p xs ≡ filter q xs
same_filter p q [] a = refl
same_filter p q (x ∷ xs) a =
    ap (λ (b : Bool). cond b (x ∷ filter p xs) (filter p xs)) (All-head (λ y. p y ≡ q y) x xs a)
    ∙ ap (λ (ys : List _). cond (q x) (x ∷ ys) ys) (same_filter p q xs (All-tail (λ y. p y ≡ q y) x xs a))

-- ---- ids

past_on : (after : Option InstId) (a b : InstId) → is_id_past after a ≡ true → IsIdBefore a b → is_id_past after b ≡ true
past_on None a b e f = refl
past_on (Some c) a b e f = lt_less (by_octets c.0 b.0) (nat_list_cmp_total.trans c.0 a.0 b.0 (less_lt (by_octets c.0 a.0) e) f)

not_past : (a b : InstId) → IsIdBefore b a → is_id_past (Some a) b ≡ false
not_past a b before = ap is_lt (turned b.0 a.0 Less before)

not_past_itself : (a b : InstId) → a ≡ b → is_id_past (Some a) b ≡ false
not_past_itself a b e = elim (cases_Bool (is_lt (by_octets a.0 b.0))) [ inl is ↦ absurd (not_before_itself a.0 b.0 (ap (λ (i : InstId). i.0) e) (less_lt (by_octets a.0 b.0) is)) | inr isnt ↦ isnt ]

found_of : (o : Option KnownInstance) (id : InstId) → option_map (λ k. k.row.id) o ≡ Some id → (k : KnownInstance) × (o ≡ Some k) × (k.row.id ≡ id)
found_of None id e = absurd (let w : None ≡ Some id = e in cc w)
found_of (Some k) id e = (k, refl, same_Some k.row.id id e)

none_of : (o : Option KnownInstance) → option_map (λ k. k.row.id) o ≡ None → o ≡ None
none_of None e = refl
none_of (Some k) e = absurd (let w : Some k.row.id ≡ None = e in cc w)

-- ---- the first that nobody holds

-- It is the first instance, and those behind it are past it; or the first is none of these, and stands before it.
pub record IsFirstUnheld (after : Option InstId) (id : InstId) (k : KnownInstance) (ks : List KnownInstance) : Type 0 where
  pub same : k.row.id ≡ id
  pub unheld : is_unheld after k ≡ true
  pub behind : All (λ j. (is_id_past (Some id) j.row.id ≡ true) × (is_id_past after j.row.id ≡ true)) ks

pub record IsLaterUnheld (after : Option InstId) (id : InstId) (k : KnownInstance) (ks : List KnownInstance) : Type 0 where
  pub held : is_unheld after k ≡ false
  pub before : is_id_past (Some id) k.row.id ≡ false
  pub rest : unheld_past after ks ≡ Some id

first_or_later : (after : Option InstId) (id : InstId) (k : KnownInstance) (ks : List KnownInstance) → Rise (k ∷ ks) → unheld_past after (k ∷ ks) ≡ Some id → IsFirstUnheld after id k ks ⊎ IsLaterUnheld after id k ks
first_or_later after id k ks rise e = elim (cases_Bool (is_unheld after k)) [
  | inl is ↦
      let same : k.row.id ≡ id = same_Some k.row.id id (sym (ap (option_map (λ (x : KnownInstance). x.row.id)) (cond-true (is_unheld after k) (Some k) (find (is_unheld after) ks) is)) ∙ e) in
      inl (record {
        same = same;
        unheld = is;
        behind = All-weaker (λ (j : KnownInstance). IsIdBefore k.row.id j.row.id) (λ (j : KnownInstance). (is_id_past (Some id) j.row.id ≡ true) × (is_id_past after j.row.id ≡ true))
            (λ j before. (subst (λ (a : InstId). is_id_past (Some a) j.row.id ≡ true) same (lt_less (by_octets k.row.id.0 j.row.id.0) before), past_on after k.row.id j.row.id (and_right (k.holders == 0) (is_id_past after k.row.id) is) before)) ks below;
      })
  | inr isnt ↦
      let rest : unheld_past after ks ≡ Some id = sym (ap (option_map (λ (x : KnownInstance). x.row.id)) (cond-false (is_unheld after k) (Some k) (find (is_unheld after) ks) isnt)) ∙ e in
      let j = found_of (find (is_unheld after) ks) id rest in
      let there = found_one (is_unheld after) ks j.0 j.1 in
      inr (record {
        held = isnt;
        before = subst (λ (a : InstId). is_id_past (Some a) k.row.id ≡ false) j.2 (not_past j.0.row.id k.row.id (All-contains (λ (x : KnownInstance). IsIdBefore k.row.id x.row.id) ks j.0 below there.0));
        rest = rest;
      })
]
  where
    below : All (λ j. IsIdBefore k.row.id j.row.id) ks
    below = pairs_head (λ (a b : KnownInstance). IsIdBefore a.row.id b.row.id) k ks rise

tail_rise : (k : KnownInstance) (ks : List KnownInstance) → Rise (k ∷ ks) → Rise ks
tail_rise k ks rise = pairs_tail (λ (a b : KnownInstance). IsIdBefore a.row.id b.row.id) k ks rise

-- past one that a record names, the next is what it was
pub passed : (m : MapMeaning) (after : Option InstId) (id : InstId) (known : List KnownInstance) → Rise known → unheld_past after known ≡ Some id → is_instance_named m id.0 ≡ true → find (is_useless_from m (Some id)) known ≡ find (is_useless_from m after) known
passed m after id [] rise e named = refl
passed m after id (k ∷ ks) rise e named = elim (first_or_later after id k ks rise e) [
  | inl f ↦
      let used : is_useless m k ≡ false = and_false (k.holders == 0) (not (is_instance_named m k.row.id.0)) (ap not (ap (λ (i : InstId). is_instance_named m i.0) f.same ∙ named)) in
      step (Some id) after (ap (λ (b : Bool). b && is_id_past (Some id) k.row.id) used) (ap (λ (b : Bool). b && is_id_past after k.row.id) used)
      (same_find (is_useless_from m (Some id)) (is_useless_from m after) ks
      (All-weaker (λ (j : KnownInstance). (is_id_past (Some id) j.row.id ≡ true) × (is_id_past after j.row.id ≡ true)) (λ (j : KnownInstance). is_useless_from m (Some id) j ≡ is_useless_from m after j)
      (λ j p. ap (λ (b : Bool). is_useless m j && b) (p.0 ∙ sym p.1)) ks f.behind))
  | inr l ↦
      step (Some id) after (and_false (is_useless m k) (is_id_past (Some id) k.row.id) l.before) (unsought (k.holders == 0) (not (is_instance_named m k.row.id.0)) (is_id_past after k.row.id) l.held)
      (passed m after id ks (tail_rise k ks rise) l.rest named)
]
  where
    step : (a b : Option InstId) → is_useless_from m a k ≡ false → is_useless_from m b k ≡ false → find (is_useless_from m a) ks ≡ find (is_useless_from m b) ks → find (is_useless_from m a) (k ∷ ks) ≡ find (is_useless_from m b) (k ∷ ks)
    step a b e f rest = cond-false (is_useless_from m a k) (Some k) (find (is_useless_from m a) ks) e ∙ rest ∙ sym (cond-false (is_useless_from m b k) (Some k) (find (is_useless_from m b) ks) f)

pub next_passed : (m : MapMeaning) (after : Option InstId) (id : InstId) (known : List KnownInstance) → Rise known → unheld_past after known ≡ Some id → is_instance_named m id.0 ≡ true → useless_past (Some id) m known ≡ useless_past after m known
next_passed m after id known rise e named = ap (option_map (λ (k : KnownInstance). k.row.id)) (passed m after id known rise e named)

-- one that no record names is it
pub next_found : (m : MapMeaning) (after : Option InstId) (id : InstId) (known : List KnownInstance) → Rise known → unheld_past after known ≡ Some id → is_instance_named m id.0 ≡ false → useless_past after m known ≡ Some id
next_found m after id [] rise e named = e
next_found m after id (k ∷ ks) rise e named = elim (first_or_later after id k ks rise e) [
  | inl f ↦
      ap (option_map (λ (x : KnownInstance). x.row.id)) (cond-true (is_useless_from m after k) (Some k) (find (is_useless_from m after) ks)
      (sought (k.holders == 0) (not (is_instance_named m k.row.id.0)) (is_id_past after k.row.id) f.unheld (ap not (ap (λ (i : InstId). is_instance_named m i.0) f.same ∙ named)))) ∙ ap Some f.same
  | inr l ↦
      ap (option_map (λ (x : KnownInstance). x.row.id)) (cond-false (is_useless_from m after k) (Some k) (find (is_useless_from m after) ks)
      (unsought (k.holders == 0) (not (is_instance_named m k.row.id.0)) (is_id_past after k.row.id) l.held)) ∙ next_found m after id ks (tail_rise k ks rise) l.rest named
]

-- where somebody holds all, there is none
pub none_next : (m : MapMeaning) (after : Option InstId) (known : List KnownInstance) → unheld_past after known ≡ None → useless_past after m known ≡ None
none_next m after [] e = refl
none_next m after (k ∷ ks) e = elim (cases_Bool (is_unheld after k)) [
  | inl is ↦ absurd (let w : Some k.row.id ≡ None = sym (ap (option_map (λ (x : KnownInstance). x.row.id)) (cond-true (is_unheld after k) (Some k) (find (is_unheld after) ks) is)) ∙ e in cc w)
  | inr isnt ↦
      ap (option_map (λ (x : KnownInstance). x.row.id)) (cond-false (is_useless_from m after k) (Some k) (find (is_useless_from m after) ks)
      (unsought (k.holders == 0) (not (is_instance_named m k.row.id.0)) (is_id_past after k.row.id) isnt))
      ∙ none_next m after ks (sym (ap (option_map (λ (x : KnownInstance). x.row.id)) (cond-false (is_unheld after k) (Some k) (find (is_unheld after) ks) isnt)) ∙ e)
]

-- ---- fewer are left

abbrev pub unheld_left : Option InstId → List KnownInstance → ℕ
unheld_left after known = length (filter (is_unheld after) known)

pub fewer_unheld : (after : Option InstId) (id : InstId) (known : List KnownInstance) → Rise known → unheld_past after known ≡ Some id → unheld_left (Some id) known < unheld_left after known
fewer_unheld after id [] rise e = absurd (let w : None ≡ Some id = e in cc w)
fewer_unheld after id (k ∷ ks) rise e = elim (first_or_later after id k ks rise e) [
  | inl f ↦
      let out : filter (is_unheld (Some id)) (k ∷ ks) ≡ filter (is_unheld (Some id)) ks = cond-false (is_unheld (Some id) k) (k ∷ filter (is_unheld (Some id)) ks) (filter (is_unheld (Some id)) ks) (and_false (k.holders == 0) (is_id_past (Some id) k.row.id) (not_past_itself id k.row.id (sym f.same))) in
      let in_it : filter (is_unheld after) (k ∷ ks) ≡ k ∷ filter (is_unheld after) ks = cond-true (is_unheld after k) (k ∷ filter (is_unheld after) ks) (filter (is_unheld after) ks) f.unheld in
      let same : filter (is_unheld (Some id)) ks ≡ filter (is_unheld after) ks =
      same_filter (is_unheld (Some id)) (is_unheld after) ks (All-weaker (λ (j : KnownInstance). (is_id_past (Some id) j.row.id ≡ true) × (is_id_past after j.row.id ≡ true)) (λ (j : KnownInstance). is_unheld (Some id) j ≡ is_unheld after j)
      (λ j p. ap (λ (b : Bool). (j.holders == 0) && b) (p.0 ∙ sym p.1)) ks f.behind) in
      let a : unheld_left (Some id) (k ∷ ks) ≡ length (filter (is_unheld after) ks) = ap length (out ∙ same) in
      let b : unheld_left after (k ∷ ks) ≡ length (k ∷ filter (is_unheld after) ks) = ap length in_it in
      omega (arith, a, b)
  | inr l ↦
      let a : unheld_left (Some id) (k ∷ ks) ≡ unheld_left (Some id) ks = ap length (cond-false (is_unheld (Some id) k) (k ∷ filter (is_unheld (Some id)) ks) (filter (is_unheld (Some id)) ks) (and_false (k.holders == 0) (is_id_past (Some id) k.row.id) l.before)) in
      let b : unheld_left after (k ∷ ks) ≡ unheld_left after ks = ap length (cond-false (is_unheld after k) (k ∷ filter (is_unheld after) ks) (filter (is_unheld after) ks) l.held) in
      let rest = fewer_unheld after id ks (tail_rise k ks rise) l.rest in
      omega (arith, a, b, rest)
]
