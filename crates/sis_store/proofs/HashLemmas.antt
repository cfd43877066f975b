-- Keys in order of hash, size and id: what a search finds, and what one key more or less changes.
use Rattle.std.specs.Prelude.{AllPairs, Contains, insert, remove, sum_by}
use Rattle.std.specs.Str.{bytes_eq}
use Rattle.std.specs.Cmp.{IsTotalOrder}
use Rattle.std.specs.Ordering.{nat_cmp, ordering_then, ordering_reverse, is_lt, is_gt, is_le}
use Rattle.std.specs.declared.cmp.Ordering.{Ordering}
use Rattle.std.specs.declared.cmp.Ordering.TheVariants.{Less, Equal, Greater}
use Rattle.std.specs.List.Sorted.{IsSearchInRange, IsBinarySearchResult, IsSortedBy, IsPartitionedBy, IsPartitionPoint}
use Rattle.std.proofs.Common.{◌≡◌, inl, inr, ℕ, zero, suc, ◌+◌, ◌<◌, ◌≤◌, ◌==◌, Bool, true, false, ◌&&◌, List, [], ◌∷◌, ◌++◌, length, map, take, drop, get_or, Option, Some, None, Result, Ok, Err, IfOk, IfErr, All, refl, sym, ◌∙◌, ap, subst, arith}
use Rattle.std.proofs.lemmas.Cmp.{nat_list_cmp_total, nat_cmp_total, on_total, then_total, tied_itself, alike_right, upto}
use Rattle.std.proofs.lemmas.Bool.{cases_lt, cases_eq, cases_Bool, true≢false, false≢true}
use Rattle.std.proofs.lemmas.Bool.Decides.{nat_tests}
use Rattle.std.proofs.lemmas.List.Elements.{All-cons, All-append, All-take, All-drop}
use Rattle.std.proofs.lemmas.List.Sums.{sum_by-cons}
use Rattle.std.proofs.lemmas.List.Kept.{AllPairs-cons}
use Rattle.std.proofs.lemmas.List.Sorted.{searchable_from_sorted, sorted_far, ranks_by, sum_by-IsPermutation, IsPermutation-insert, IsPermutation-remove}
use Rattle.mdbox_base.specs.declared.ids.Hash.{Hash}
use Rattle.mdbox_base.specs.declared.ids.InstId.{InstId}
use Rattle.model_octets.proofs.PairLemmas.{pairs_head, pairs_tail, pairs_nil}
use Rattle.model_octets.proofs.SearchLemmas.{text_is, text_yes}
use Rattle.sis_store.specs.declared.instance.HashKey.{HashKey}
use Rattle.sis_store.specs.Instances.{is_id_past}
use Rattle.sis_store.specs.Hashes.{key_order, is_key_of, is_id_up_to, is_key_before, is_before_by, is_key_wanted, IsLeastWanted}
use Rattle.sis_store.proofs.IdLemmas.{by_octets, same_octets, turned, all-take, all-drop, same_id}

-- ---- the order of keys

abbrev by_kind : HashKey → HashKey → Ordering
by_kind a b = ordering_then (by_octets a.hash.0 b.hash.0) (nat_cmp a.size b.size)

kind_total : IsTotalOrder by_kind
kind_total = then_total (on_total (λ (k : HashKey). k.hash.0) nat_list_cmp_total) (on_total (λ (k : HashKey). k.size) nat_cmp_total)

pub key_total : IsTotalOrder key_order
key_total =
    then_total (on_total (λ (k : HashKey). k.hash.0) nat_list_cmp_total) (then_total (on_total (λ (k : HashKey). k.size) nat_cmp_total) (on_total (λ (k : HashKey). k.id.0) nat_list_cmp_total))

abbrev pub NoGreater : HashKey → HashKey → Type 0
NoGreater a b = is_gt (key_order a b) ≡ false

abbrev pub InOrder : List HashKey → Type 0
InOrder keys = AllPairs NoGreater keys

reversed_lt : (o : Ordering) → is_lt (ordering_reverse o) ≡ is_gt o
reversed_lt Less = refl
reversed_lt Equal = refl
reversed_lt Greater = refl

reversed_gt : (o : Ordering) → is_gt (ordering_reverse o) ≡ is_lt o
reversed_gt Less = refl
reversed_gt Equal = refl
reversed_gt Greater = refl

lt_back : (a b : HashKey) → is_lt (key_order b a) ≡ is_gt (key_order a b)
lt_back a b = ap is_lt (key_total.antisymm b a) ∙ reversed_lt (key_order a b)

gt_by : (o p : Ordering) → o ≡ p → is_gt p ≡ false → is_gt o ≡ false
gt_by o p e h = ap is_gt e ∙ h

then_equal : (o p : Ordering) → ordering_then o p ≡ Equal → (o ≡ Equal) × (p ≡ Equal)
then_equal Less p e = absurd (let k : Less ≡ Equal = e in cc)
then_equal Equal p e = (refl, e)
then_equal Greater p e = absurd (let k : Greater ≡ Equal = e in cc)

then_assoc : (o p q : Ordering) → ordering_then (ordering_then o p) q ≡ ordering_then o (ordering_then p q)
then_assoc Less p q = refl
then_assoc Equal p q = refl
then_assoc Greater p q = refl

same_number : (x y : ℕ) → nat_cmp x y ≡ Equal → x ≡ y
same_number x y e = grind (arith, nat_tests, e)

equal_number : (x y : ℕ) → x ≡ y → nat_cmp x y ≡ Equal
equal_number x y e = ap (nat_cmp x) (sym e) ∙ tied_itself nat_cmp_total x

equal_octets : (xs ys : List ℕ) → xs ≡ ys → by_octets xs ys ≡ Equal
equal_octets xs ys e = ap (by_octets xs) (sym e) ∙ tied_itself nat_list_cmp_total xs

both_equal : (o p : Ordering) → o ≡ Equal → p ≡ Equal → ordering_then o p ≡ Equal
both_equal o p e f = ap (λ (q : Ordering). ordering_then q p) e ∙ f

abbrev pub hash_made : List ℕ → Hash
hash_made octets = record { 0 = octets }

abbrev pub key_made : Hash → ℕ → InstId → HashKey
key_made hash size id = record { hash = hash; size = size; id = id }

pub same_key : (a b : HashKey) → key_order a b ≡ Equal → a ≡ b
same_key a b e =
    let p = then_equal (by_octets a.hash.0 b.hash.0) (ordering_then (nat_cmp a.size b.size) (by_octets a.id.0 b.id.0)) e in
    let q = then_equal (nat_cmp a.size b.size) (by_octets a.id.0 b.id.0) p.1 in
    let h : a.hash ≡ b.hash = ap hash_made (same_octets a.hash.0 b.hash.0 p.0) in
    let s : a.size ≡ b.size = same_number a.size b.size q.0 in
    let i : a.id ≡ b.id = same_id a.id b.id (same_octets a.id.0 b.id.0 q.1) in
    ap (λ (x : Hash). key_made x a.size a.id) h ∙ ap (λ (x : ℕ). key_made b.hash x a.id) s ∙ ap (λ (x : InstId). key_made b.hash b.size x) i

-- the order by kind comes first
kind_first : (a b : HashKey) → key_order a b ≡ ordering_then (by_kind a b) (by_octets a.id.0 b.id.0)
kind_first a b = sym (then_assoc (by_octets a.hash.0 b.hash.0) (nat_cmp a.size b.size) (by_octets a.id.0 b.id.0))

-- ---- keys in order

sorted_keys : (keys : List HashKey) → InOrder keys → IsSortedBy (λ a b. is_lt (key_order a b)) keys
sorted_keys keys order k d low high = lt_back (get_or keys k d) (get_or keys (k + 1) d) ∙ order k (k + 1) d (omega arith) high

pub in_order : (keys : List HashKey) → IsSortedBy (λ a b. is_lt (key_order a b)) keys → InOrder keys
in_order keys sorted i j d lt le =
    sym (lt_back (get_or keys i d) (get_or keys j d)) ∙ sorted_far (λ a b. is_lt (key_order a b)) (ranks_by key_total (λ (k : HashKey). k)) keys sorted i j d (omega (arith, lt)) le

pub record FoundKey (keys : List HashKey) (key : HashKey) (at : ℕ) : Type 0 where
  pub within : at < length keys
  pub is : (d : HashKey) → get_or keys at d ≡ key

pub record SoughtKey (keys : List HashKey) (key : HashKey) (at : ℕ) : Type 0 where
  pub within : at ≤ length keys
  pub before : (k : ℕ) (d : HashKey) → k < at → key_order (get_or keys k d) key ≡ Less
  pub behind : (k : ℕ) (d : HashKey) → at ≤ k → k < length keys → key_order (get_or keys k d) key ≡ Greater

pub searched_keys : (keys : List HashKey) (key : HashKey) → InOrder keys → (r : Result ℕ ℕ) → IsSearchInRange r (length keys) → IsBinarySearchResult (λ (k : HashKey). key_order k key) keys r
    → record { found : IfOk r (FoundKey keys key); absent : IfErr r (SoughtKey keys key) }
searched_keys keys key order (Ok at) within equal = record { found = record { within = within; is = λ d. same_key (get_or keys at d) key (equal d) }; absent = tt }
searched_keys keys key order (Err at) within parted =
    let up = searchable_from_sorted key_total (λ (k : HashKey). k) keys key (sorted_keys keys order) in
    record {
      found = tt;
      absent = record { within = within; before = λ k d lt. (parted up).0 k d (omega arith) lt; behind = λ k d le lt. (parted up).1 k d le lt };
    }

-- ---- one key more or less

pairs_insert : {X : Type 0} → (Q : X → X → Type 0) (at : ℕ) (xs : List X) (y : X) → AllPairs Q xs → All (λ x. Q x y) (take at xs) → All (Q y) (drop at xs) → AllPairs Q (take at xs ++ y ∷ drop at xs)
pairs_insert Q zero xs y p a b = AllPairs-cons Q y xs b p
pairs_insert Q (suc at) [] y p a b = AllPairs-cons Q y [] b (pairs_nil Q)
pairs_insert Q (suc at) (x ∷ xs) y p a b =
    let head = pairs_head Q x xs p in
    AllPairs-cons Q x (take at xs ++ y ∷ drop at xs)
    (All-append (Q x) (take at xs) (y ∷ drop at xs) (All-take (Q x) at xs head) (All-cons (Q x) y (drop at xs) (a 0 x (omega arith)) (All-drop (Q x) at xs head)))
    (pairs_insert Q at xs y (pairs_tail Q x xs p) (λ k d lt. a (suc k) d (omega (arith, lt))) b)

pub inserted : (keys : List HashKey) (key : HashKey) (at : ℕ) → InOrder keys → All (λ k. NoGreater k key) (take at keys) → All (NoGreater key) (drop at keys) → InOrder (insert keys at key)
inserted keys key at order before behind = pairs_insert NoGreater at keys key order before behind

pub found_before : (keys : List HashKey) (key : HashKey) (at : ℕ) → InOrder keys → FoundKey keys key at → All (λ k. NoGreater k key) (take at keys)
found_before keys key at order found =
    all-take (λ k. NoGreater k key) at keys (let w = found.within in omega (arith, w)) (λ k d lt. subst (λ (x : HashKey). NoGreater (get_or keys k d) x) (found.is d) (order k at d lt found.within))

pub found_behind : (keys : List HashKey) (key : HashKey) (at : ℕ) → InOrder keys → FoundKey keys key at → All (NoGreater key) (drop at keys)
found_behind keys key at order found = all-drop (NoGreater key) at keys (λ k d le lt. subst (λ (x : HashKey). NoGreater x (get_or keys k d)) (found.is d) (from k d le lt))
  where
    from : (k : ℕ) (d : HashKey) → at ≤ k → k < length keys → NoGreater (get_or keys at d) (get_or keys k d)
    from k d le lt = elim (cases_eq at k) [
      | inl same ↦ gt_by (key_order (get_or keys at d) (get_or keys k d)) Equal (ap (λ (i : ℕ). key_order (get_or keys at d) (get_or keys i d)) (sym same) ∙ tied_itself key_total (get_or keys at d)) refl
      | inr apart ↦ order at k d (omega (arith, le, apart)) lt
    ]

pub sought_before : (keys : List HashKey) (key : HashKey) (at : ℕ) → SoughtKey keys key at → All (λ k. NoGreater k key) (take at keys)
sought_before keys key at s = all-take (λ k. NoGreater k key) at keys s.within (λ k d lt. gt_by (key_order (get_or keys k d) key) Less (s.before k d lt) refl)

pub sought_behind : (keys : List HashKey) (key : HashKey) (at : ℕ) → SoughtKey keys key at → All (NoGreater key) (drop at keys)
sought_behind keys key at s =
    all-drop (NoGreater key) at keys (λ k d le lt. gt_by (key_order key (get_or keys k d)) Less (key_total.antisymm key (get_or keys k d) ∙ ap ordering_reverse (s.behind k d le lt)) refl)

pub sums_insert : {X : Type 0} → (f : X → ℕ) (xs : List X) (at : ℕ) (y : X) → sum_by f (insert xs at y) ≡ f y + sum_by f xs
sums_insert f xs at y = sum_by-IsPermutation f (y ∷ xs) (insert xs at y) (IsPermutation-insert xs at y) ∙ sum_by-cons f y xs

pub sums_remove : {X : Type 0} → (f : X → ℕ) (xs : List X) (at : ℕ) (y : X) → at < length xs → get_or xs at y ≡ y → sum_by f xs ≡ f y + sum_by f (remove xs at)
sums_remove f xs at y within is = sym (sum_by-IsPermutation f xs (y ∷ remove xs at) (IsPermutation-remove xs at y within (sym is))) ∙ sum_by-cons f y (remove xs at)

pub not_absent : (keys : List HashKey) (key : HashKey) (at : ℕ) → SoughtKey keys key at → Contains keys key → ⊥
not_absent keys key at s there =
    let same : key_order (get_or keys there.0 key) key ≡ Equal = ap (λ (k : HashKey). key_order k key) there.2 ∙ tied_itself key_total key in
    elim (cases_lt there.0 at) [
      | inl before ↦ (let e : Less ≡ Equal = sym (s.before there.0 key before) ∙ same in cc e)
      | inr behind ↦ (let e : Greater ≡ Equal = sym (s.behind there.0 key behind there.1) ∙ same in cc e)
    ]

pub sums_map : {X Y : Type 0} → (f : Y → ℕ) (g : X → Y) (xs : List X) → sum_by f (map g xs) ≡ sum_by (λ x. f (g x)) xs
sums_map f g [] = refl
sums_map f g (x ∷ xs) = sum_by-cons f (g x) (map g xs) ∙ ap (λ (n : ℕ). f (g x) + n) (sums_map f g xs) ∙ sym (sum_by-cons (λ y. f (g y)) x xs)

-- ---- the first key of a kind

not_past : (o : Ordering) → is_le o ≡ true → is_gt o ≡ false
not_past Less e = refl
not_past Equal e = refl
not_past Greater e = absurd (false≢true e)

up_to_by : (o : Ordering) → is_gt o ≡ false → is_le o ≡ true
up_to_by Less e = refl
up_to_by Equal e = refl
up_to_by Greater e = absurd (true≢false e)

up_to_down : (after : Option InstId) (a b : InstId) → is_gt (by_octets a.0 b.0) ≡ false → is_id_up_to after b ≡ true → is_id_up_to after a ≡ true
up_to_down None a b le up = absurd (false≢true up)
up_to_down (Some c) a b le up = up_to_by (by_octets a.0 c.0) (upto nat_list_cmp_total a.0 b.0 c.0 le (not_past (by_octets b.0 c.0) up))

past_by : (o : Ordering) → is_le o ≡ false → o ≡ Greater
past_by Less e = absurd (true≢false e)
past_by Equal e = absurd (true≢false e)
past_by Greater e = refl

is_past : (after : Option InstId) (id : InstId) → is_id_up_to after id ≡ false → is_id_past after id ≡ true
is_past None id e = refl
is_past (Some c) id e = ap is_lt (turned id.0 c.0 Greater (past_by (by_octets id.0 c.0) e))

reversed_le : (o : Ordering) → is_lt o ≡ true → is_le (ordering_reverse o) ≡ false
reversed_le Less e = refl
reversed_le Equal e = absurd (false≢true e)
reversed_le Greater e = absurd (false≢true e)

not_up_to : (after : Option InstId) (id : InstId) → is_id_past after id ≡ true → is_id_up_to after id ≡ false
not_up_to None id e = refl
not_up_to (Some c) id e = ap is_le (turned c.0 id.0 (by_octets c.0 id.0) refl) ∙ reversed_le (by_octets c.0 id.0) e

abbrev kind_key : Hash → ℕ → HashKey
kind_key hash size = record { hash = hash; size = size; id = record { 0 = [] } }

before_by : (o : Ordering) (up_to : Bool) (p : Ordering) → o ≡ p → is_before_by o up_to ≡ is_before_by p up_to
before_by o up_to p e = ap (λ (q : Ordering). is_before_by q up_to) e

before_down : (hash : Hash) (size : ℕ) (after : Option InstId) (a b : HashKey) → NoGreater a b → is_key_before hash size after b ≡ true → is_key_before hash size after a ≡ true
before_down hash size after a b no_greater before = by (by_kind a b) refl (gt_by (ordering_then (by_kind a b) (by_octets a.id.0 b.id.0)) (key_order a b) (sym (kind_first a b)) no_greater) (by_kind b t) refl before
  where
    t : HashKey
    t = kind_key hash size

    by : (o : Ordering) → by_kind a b ≡ o → is_gt (ordering_then (by_kind a b) (by_octets a.id.0 b.id.0)) ≡ false → (q : Ordering) → by_kind b t ≡ q → is_before_by (by_kind b t) (is_id_up_to after b.id) ≡ true → is_before_by (by_kind a t) (is_id_up_to after a.id) ≡ true
    by Less e h Less f p = before_by (by_kind a t) (is_id_up_to after a.id) Less (kind_total.trans a b t e f)
    by Less e h Equal f p = before_by (by_kind a t) (is_id_up_to after a.id) Less (sym (alike_right kind_total b t a f) ∙ e)
    by Less e h Greater f p = absurd (false≢true (sym (before_by (by_kind b t) (is_id_up_to after b.id) Greater f) ∙ p))
    by Equal e h Less f p = before_by (by_kind a t) (is_id_up_to after a.id) Less (kind_total.congr a b t e ∙ f)
    by Equal e h Equal f p =
        before_by (by_kind a t) (is_id_up_to after a.id) Equal (kind_total.congr a b t e ∙ f)
        ∙ up_to_down after a.id b.id (sym (ap (λ (o : Ordering). is_gt (ordering_then o (by_octets a.id.0 b.id.0))) e) ∙ h) (sym (before_by (by_kind b t) (is_id_up_to after b.id) Equal f) ∙ p)
    by Equal e h Greater f p = absurd (false≢true (sym (before_by (by_kind b t) (is_id_up_to after b.id) Greater f) ∙ p))
    by Greater e h q f p = absurd (true≢false (sym (ap (λ (o : Ordering). is_gt (ordering_then o (by_octets a.id.0 b.id.0))) e) ∙ h))

pub parted : (hash : Hash) (size : ℕ) (after : Option InstId) (keys : List HashKey) → InOrder keys → IsPartitionedBy (is_key_before hash size after) keys
parted hash size after keys order i j d le lt before = elim (cases_eq i j) [
  | inl same ↦ ap (λ (k : ℕ). is_key_before hash size after (get_or keys k d)) same ∙ before
  | inr apart ↦ before_down hash size after (get_or keys i d) (get_or keys j d) (order i j d (omega (arith, le, apart)) lt) before
]

and_both : (a b : Bool) → (a && b) ≡ true → (a ≡ true) × (b ≡ true)
and_both true true e = (refl, refl)
and_both true false e = absurd (false≢true e)
and_both false b e = absurd (false≢true e)

and_true : (a b : Bool) → a ≡ true → b ≡ true → (a && b) ≡ true
and_true a b e f = ap (λ (x : Bool). x && b) e ∙ f

equal_is : (a b : ℕ) → (a == b) ≡ true → a ≡ b
equal_is a b h = grind (arith, nat_tests, h)

is_equal : (a b : ℕ) → a ≡ b → (a == b) ≡ true
is_equal a b h = grind (arith, nat_tests, h)

of_kind : (hash : Hash) (size : ℕ) (k : HashKey) → is_key_of hash size k ≡ true → by_kind k (kind_key hash size) ≡ Equal
of_kind hash size k e =
    let p = and_both (bytes_eq k.hash.0 hash.0) (k.size == size) e in
    both_equal (by_octets k.hash.0 hash.0) (nat_cmp k.size size) (equal_octets k.hash.0 hash.0 (text_is k.hash.0 hash.0 p.0)) (equal_number k.size size (equal_is k.size size p.1))

kind_of : (hash : Hash) (size : ℕ) (k : HashKey) → by_kind k (kind_key hash size) ≡ Equal → is_key_of hash size k ≡ true
kind_of hash size k e =
    let p = then_equal (by_octets k.hash.0 hash.0) (nat_cmp k.size size) e in
    and_true (bytes_eq k.hash.0 hash.0) (k.size == size) (text_yes k.hash.0 hash.0 (same_octets k.hash.0 hash.0 p.0)) (is_equal k.size size (same_number k.size size p.1))

-- a wanted key stands behind the place
wanted_behind : (hash : Hash) (size : ℕ) (after : Option InstId) (k : HashKey) → is_key_wanted hash size after k ≡ true → is_key_before hash size after k ≡ false
wanted_behind hash size after k wanted =
    let p = and_both (is_key_of hash size k) (is_id_past after k.id) wanted in
    before_by (by_kind k (kind_key hash size)) (is_id_up_to after k.id) Equal (of_kind hash size k p.0) ∙ not_up_to after k.id p.1

behind_wanted : (hash : Hash) (size : ℕ) (after : Option InstId) (k : HashKey) → is_key_before hash size after k ≡ false → is_key_of hash size k ≡ true → is_key_wanted hash size after k ≡ true
behind_wanted hash size after k behind of =
    and_true (is_key_of hash size k) (is_id_past after k.id) of (is_past after k.id (sym (before_by (by_kind k (kind_key hash size)) (is_id_up_to after k.id) Equal (of_kind hash size k of)) ∙ behind))

abbrev pub IsPlace : Hash → ℕ → Option InstId → List HashKey → ℕ → Type 0
IsPlace hash size after keys at = IsPartitionPoint (λ k. is_key_before hash size after k ≡ true) (λ k. is_key_before hash size after k ≡ false) keys at

pub least_wanted : (hash : Hash) (size : ℕ) (after : Option InstId) (keys : List HashKey) (at : ℕ) (key : HashKey) → InOrder keys → IsPlace hash size after keys at → at < length keys → ((d : HashKey) → get_or keys at d ≡ key) → is_key_of hash size key ≡ true
    → IsLeastWanted hash size after keys key.id
least_wanted hash size after keys at key order place within is of = record {
  key = key;
  there = (at, within, is key);
  wanted = behind_wanted hash size after key (subst (λ (k : HashKey). is_key_before hash size after k ≡ false) (is key) (place.1 at key (omega arith) within)) of;
  is = refl;
  least = λ i d lt wanted. elim (cases_lt i at) [
    | inl before ↦ absurd (true≢false (sym (place.0 i d (omega arith) before) ∙ wanted_behind hash size after (get_or keys i d) wanted))
    | inr behind ↦ elim (cases_eq at i) [
      | inl same ↦
          let e : key ≡ get_or keys i d = sym (is d) ∙ ap (λ (n : ℕ). get_or keys n d) same in
          gt_by (by_octets key.id.0 (get_or keys i d).id.0) Equal (equal_octets key.id.0 (get_or keys i d).id.0 (ap (λ (k : HashKey). k.id.0) e)) refl
      | inr apart ↦ alike (get_or keys i d) wanted (subst (λ (k : HashKey). NoGreater k (get_or keys i d)) (is d) (order at i d (omega (arith, behind, apart)) lt))
    ]
  ];
}
  where
    alike : (other : HashKey) → is_key_wanted hash size after other ≡ true → NoGreater key other → is_gt (by_octets key.id.0 other.id.0) ≡ false
    alike other wanted order_is =
        let t = kind_key hash size in
        let same : by_kind key other ≡ Equal = alike_right kind_total other t key (of_kind hash size other (and_both (is_key_of hash size other) (is_id_past after other.id) wanted).0) ∙ of_kind hash size key of in
        sym (ap is_gt (kind_first key other ∙ ap (λ (o : Ordering). ordering_then o (by_octets key.id.0 other.id.0)) same)) ∙ order_is

pub none_wanted : (hash : Hash) (size : ℕ) (after : Option InstId) (keys : List HashKey) (at : ℕ) → InOrder keys → IsPlace hash size after keys at → ((d : HashKey) → at < length keys → is_key_of hash size (get_or keys at d) ≡ false)
    → All (λ key. is_key_wanted hash size after key ≡ false) keys
none_wanted hash size after keys at order place other = λ i d lt. elim (cases_Bool (is_key_wanted hash size after (get_or keys i d))) [
  | inl wanted ↦ absurd (elim (cases_lt i at) [
    | inl before ↦ true≢false (sym (place.0 i d (omega arith) before) ∙ wanted_behind hash size after (get_or keys i d) wanted)
    | inr behind ↦
        let w : at < length keys = omega (arith, behind, lt) in
        elim (cases_eq at i) [
          | inl same ↦ (let p = and_both (is_key_of hash size (get_or keys i d)) (is_id_past after (get_or keys i d).id) wanted in
              true≢false (sym (ap (λ (n : ℕ). is_key_of hash size (get_or keys n d)) same ∙ p.0) ∙ other d w))
          | inr apart ↦ clash (get_or keys at d) (get_or keys i d) (place.1 at d (omega arith) w) (other d w) wanted (order at i d (omega (arith, behind, apart)) lt) (by_kind (get_or keys at d) (kind_key hash size)) refl
        ]
  ])
  | inr isnt ↦ isnt
]
  where
    clash : (k x : HashKey) → is_key_before hash size after k ≡ false → is_key_of hash size k ≡ false → is_key_wanted hash size after x ≡ true → NoGreater k x → (o : Ordering) → by_kind k (kind_key hash size) ≡ o → ⊥
    clash k x behind isnt wanted order Less e = true≢false (sym (before_by (by_kind k (kind_key hash size)) (is_id_up_to after k.id) Less e) ∙ behind)
    clash k x behind isnt wanted order Equal e = true≢false (sym (kind_of hash size k e) ∙ isnt)
    clash k x behind isnt wanted order Greater e =
        let t = kind_key hash size in
        let far : by_kind k x ≡ Greater = alike_right kind_total x t k (of_kind hash size x (and_both (is_key_of hash size x) (is_id_past after x.id) wanted).0) ∙ e in
        true≢false (sym (ap is_gt (kind_first k x ∙ ap (λ (o : Ordering). ordering_then o (by_octets k.id.0 x.id.0)) far)) ∙ order)
