-- The keys are those of the known instances: what is found among the keys is what is known.
use Rattle.std.specs.Prelude.{AllPairs, Contains, IfSome, IsNone, sum_by, if◌then◌else◌, not, ◌⊎◌, ◌^◌}
use Rattle.std.specs.Int.{w32, to_be_bytes}
use Rattle.std.specs.Option.{option_map}
use Rattle.std.specs.Str.{bytes_eq}
use Rattle.std.specs.Ordering.{is_gt}
use Rattle.std.specs.declared.cmp.Ordering.TheVariants.{Less}
use Rattle.std.proofs.Common.{◌≡◌, ◌≢◌, inl, inr, ℕ, suc, ◌+◌, ◌<◌, ◌≤◌, ◌==◌, Bool, true, false, ◌&&◌, cond, List, [], ◌∷◌, ◌++◌, length, map, take, drop, find, get_or, Option, Some, None, All, refl, sym, ◌∙◌, ap, subst, arith}
use Rattle.std.proofs.lemmas.Bool.{cases_lt, cases_Bool, cond-true, cond-false, true≢false, false≢true}
use Rattle.std.proofs.lemmas.Bool.Decides.{nat_tests}
use Rattle.std.proofs.lemmas.List.Elements.{All-head, All-tail, All-contains, All-filter, Contains-get_or}
use Rattle.std.proofs.lemmas.List.Kept.{AllPairs-filter}
use Rattle.std.proofs.Math.Seq.{take-append_seam}
use Rattle.std.proofs.lemmas.List.Sums.{sum_by-cons, get_or-le-sum_by}
use Rattle.mdbox_base.specs.declared.entries.InstRow.{InstRow}
use Rattle.mdbox_base.specs.declared.ids.Hash.{Hash}
use Rattle.mdbox_base.specs.declared.ids.InstId.{InstId}
use Rattle.mdbox_base.specs.declared.ids.StoreId.{StoreId}
use Rattle.model_octets.proofs.PairLemmas.{pairs_head, pairs_tail, pairs_map, all_map}
use Rattle.model_octets.proofs.SearchLemmas.{among, found_one, text_is, text_yes}
use Rattle.model_octets.proofs.NumberLemmas.{four_same}
use Rattle.sis_store.specs.declared.instance.HashKey.{HashKey}
use Rattle.sis_store.specs.declared.instance.KnownInstance.{KnownInstance}
use Rattle.sis_store.specs.Instances.{InstancesValue, IsIdBefore, AreInstances, HasDrawnNumber, instance_found, candidate_in, instance_in, with_holders, with_instance, without_instance, has_id, numbered_id, next_id}
use Rattle.sis_store.specs.Hashes.{hash_key, AreHashKeys, is_key_wanted, IsLeastWanted}
use Rattle.sis_store.proofs.IdLemmas.{by_octets, turned, same_id, Rise, find_none, held_by, row-kept, rise-with, all-with}
use Rattle.sis_store.proofs.HashLemmas.{InOrder, sums_map, key_made, hash_made}

-- ---- sums

-- a sum that isn't 0 counts an element
counted_there : {X : Type 0} → (f : X → ℕ) (xs : List X) → 1 ≤ sum_by f xs → (x : X) × Contains xs x × (1 ≤ f x)
counted_there f [] some = absurd (omega (arith, some))
counted_there {X} f (x ∷ xs) some = elim (cases_lt 0 (f x)) [
  | inl here ↦ (x, (0, omega arith, refl), omega (arith, here))
  | inr none ↦
      let total = sum_by-cons f x xs in
      let r = counted_there f xs (omega (arith, total, none, some)) in
      let c = r.1 in
      (r.0, (suc c.0, (let l = c.1 in omega (arith, l)), c.2), r.2)
]

pub sums_same : {X : Type 0} → (f g : X → ℕ) (xs : List X) → ((x : X) → f x ≡ g x) → sum_by f xs ≡ sum_by g xs
sums_same f g [] same = refl
sums_same f g (x ∷ xs) same = let a = sum_by-cons f x xs in let b = sum_by-cons g x xs in let e = same x in let r = sums_same f g xs same in omega (arith, a, b, e, r)

-- ---- one key

is_key : HashKey → HashKey → Bool
is_key a b = bytes_eq b.hash.0 a.hash.0 && ((b.size == a.size) && bytes_eq b.id.0 a.id.0)

marked : HashKey → HashKey → ℕ
marked a b = if is_key a b then 1 else 0

and_both : (a b : Bool) → (a && b) ≡ true → (a ≡ true) × (b ≡ true)
and_both true true e = (refl, refl)
and_both true false e = absurd (false≢true e)
and_both false b e = absurd (false≢true e)

equal_is : (a b : ℕ) → (a == b) ≡ true → a ≡ b
equal_is a b h = grind (arith, nat_tests, h)

equal_itself : (a : ℕ) → (a == a) ≡ true
equal_itself a = grind (arith, nat_tests)

key_is : (a b : HashKey) → 1 ≤ marked a b → b ≡ a
unfolding marked is_key
key_is a b some = elim (cases_Bool (is_key a b)) [
  | inl is ↦
      let p = and_both (bytes_eq b.hash.0 a.hash.0) ((b.size == a.size) && bytes_eq b.id.0 a.id.0) is in
      let q = and_both (b.size == a.size) (bytes_eq b.id.0 a.id.0) p.1 in
      let h : b.hash ≡ a.hash = ap hash_made (text_is b.hash.0 a.hash.0 p.0) in
      let s : b.size ≡ a.size = equal_is b.size a.size q.0 in
      let i : b.id ≡ a.id = same_id b.id a.id (text_is b.id.0 a.id.0 q.1) in
      ap (λ (x : Hash). key_made x b.size b.id) h ∙ ap (λ (x : ℕ). key_made a.hash x b.id) s ∙ ap (λ (x : InstId). key_made a.hash a.size x) i
  | inr isnt ↦ absurd (let e : marked a b ≡ 0 = cond-false (is_key a b) 1 0 isnt in omega (arith, e, some))
]

marks_itself : (a : HashKey) → marked a a ≡ 1
unfolding marked is_key
marks_itself a =
    cond-true (is_key a a) 1 0
    (ap (λ (x : Bool). x && ((a.size == a.size) && bytes_eq a.id.0 a.id.0)) (text_yes a.hash.0 a.hash.0 refl) ∙ ap (λ (x : Bool). x && bytes_eq a.id.0 a.id.0) (equal_itself a.size) ∙ text_yes a.id.0 a.id.0 refl)

at_least : {X : Type 0} → (f : X → ℕ) (xs : List X) (x : X) → Contains xs x → f x ≤ sum_by f xs
at_least f xs x c = subst (λ (y : _). f y ≤ sum_by f xs) c.2 (get_or-le-sum_by f xs c.0 x c.1)

pub key_there : (keys : List HashKey) (known : List KnownInstance) (k : KnownInstance) → AreHashKeys keys known → Contains known k → Contains keys (hash_key k.row)
key_there keys known k are c =
    let f : HashKey → ℕ = marked (hash_key k.row) in
    let one : f (hash_key k.row) ≡ 1 = marks_itself (hash_key k.row) in
    let most = at_least (λ (x : KnownInstance). f (hash_key x.row)) known k c in
    let same = are.same f in
    let r = counted_there f keys (omega (arith, one, most, same)) in
    subst (Contains keys) (key_is (hash_key k.row) r.0 r.2) r.1

pub known_there : (keys : List HashKey) (known : List KnownInstance) (key : HashKey) → AreHashKeys keys known → Contains keys key → (k : KnownInstance) × Contains known k × (hash_key k.row ≡ key)
known_there keys known key are c =
    let f : HashKey → ℕ = marked key in
    let one : f key ≡ 1 = marks_itself key in
    let most = at_least f keys key c in
    let same = are.same f in
    let r = counted_there (λ (x : KnownInstance). f (hash_key x.row)) known (omega (arith, one, most, same)) in
    (r.0, r.1, key_is key (hash_key r.0.row) r.2)

-- ---- a candidate

abbrev LeastOf : (KnownInstance → Bool) → KnownInstance → KnownInstance → Type 0
LeastOf p k x = p x ≡ true → is_gt (by_octets k.row.id.0 x.row.id.0) ≡ false

first_step : (p : KnownInstance → Bool) (x k : KnownInstance) (xs : List KnownInstance) (b : Bool) → p x ≡ b → p k ≡ true → LeastOf p k x → (Contains xs k → by_octets x.row.id.0 k.row.id.0 ≡ Less) → (Contains xs k → find p xs ≡ Some k) → (x ≡ k) ⊎ Contains xs k
    → cond (p x) (Some x) (find p xs) ≡ Some k
first_step p x k xs true e is least below rest (inl same) = cond-true (p x) (Some x) (find p xs) e ∙ ap Some same
first_step p x k xs true e is least below rest (inr later) = absurd (true≢false (sym (ap is_gt (turned x.row.id.0 k.row.id.0 Less (below later))) ∙ least e))
first_step p x k xs false e is least below rest (inl same) = absurd (false≢true (sym e ∙ ap p same ∙ is))
first_step p x k xs false e is least below rest (inr later) = cond-false (p x) (Some x) (find p xs) e ∙ rest later

first_found : (p : KnownInstance → Bool) (known : List KnownInstance) (k : KnownInstance) → Rise known → Contains known k → p k ≡ true → All (LeastOf p k) known → find p known ≡ Some k
first_found p [] k rise c is least = absurd (let l = c.1 in omega (arith, l))
first_found p (x ∷ xs) k rise c is least =
    first_step p x k xs (p x) refl is (All-head (LeastOf p k) x xs least)
    (λ later. All-contains (λ y. IsIdBefore x.row.id y.row.id) xs k (pairs_head (λ a b. IsIdBefore a.row.id b.row.id) x xs rise) later)
    (λ later. first_found p xs k (pairs_tail (λ a b. IsIdBefore a.row.id b.row.id) x xs rise) later is (All-tail (LeastOf p k) x xs least)) (among x xs k c)

pub candidate_is : (hash : Hash) (size : ℕ) (after : Option InstId) (keys : List HashKey) (known : List KnownInstance) (id : InstId) → Rise known → AreHashKeys keys known → IsLeastWanted hash size after keys id → Some id ≡ candidate_in hash size after known
candidate_is hash size after keys known id rise are w =
    let k = known_there keys known w.key are w.there in
    let p : KnownInstance → Bool = λ x. is_key_wanted hash size after (hash_key x.row) in
    let same : k.0.row.id ≡ id = ap (λ (x : HashKey). x.id) k.2 ∙ w.is in
    let found : find p known ≡ Some k.0 =
    first_found p known k.0 rise k.1 (ap (is_key_wanted hash size after) k.2 ∙ w.wanted)
    (λ i d lt wanted.
    ap (λ (a : InstId). is_gt (by_octets a.0 (get_or known i d).row.id.0)) same
    ∙ All-contains (λ x. is_key_wanted hash size after x ≡ true → is_gt (by_octets id.0 x.id.0) ≡ false) keys (hash_key (get_or known i d).row) w.least (key_there keys known (get_or known i d) are (Contains-get_or known i d lt)) wanted) in
    ap Some (sym same) ∙ sym (ap (option_map (λ (x : KnownInstance). x.row.id)) found)

pub no_candidate : (hash : Hash) (size : ℕ) (after : Option InstId) (keys : List HashKey) (known : List KnownInstance) → AreHashKeys keys known → All (λ key. is_key_wanted hash size after key ≡ false) keys → None ≡ candidate_in hash size after known
no_candidate hash size after keys known are none =
    sym (ap (option_map (λ (x : KnownInstance). x.row.id)) (find_none (λ (x : KnownInstance). is_key_wanted hash size after (hash_key x.row)) known
    (λ i d lt. All-contains (λ key. is_key_wanted hash size after key ≡ false) keys (hash_key (get_or known i d).row) none (key_there keys known (get_or known i d) are (Contains-get_or known i d lt)))))

-- ---- what changes keep

pub held-kept : (value : InstancesValue) (id : InstId) (holders : ℕ) → AreInstances value → AreInstances (record value { known = with_holders id holders value.known })
held-kept value id holders are = record {
  rising = pairs_map (λ a b. IsIdBefore a.row.id b.row.id) (λ a b. IsIdBefore a.row.id b.row.id) (held_by id holders)
      (λ a b h. subst (λ (x : InstRow). IsIdBefore x.id (held_by id holders b).row.id) (sym (row-kept id holders a)) (subst (λ (y : InstRow). IsIdBefore a.row.id y.id) (sym (row-kept id holders b)) h)) value.known are.rising;
  drawn = all_map (λ k. HasDrawnNumber value.store value.highest k.row.id) (λ k. HasDrawnNumber value.store value.highest k.row.id) (held_by id holders)
      (λ k h. subst (λ (x : InstRow). HasDrawnNumber value.store value.highest x.id) (sym (row-kept id holders k)) h) value.known are.drawn;
  last = are.last;
}

pub held-keys : (keys : List HashKey) (known : List KnownInstance) (id : InstId) (holders : ℕ) → AreHashKeys keys known → AreHashKeys keys (with_holders id holders known)
held-keys keys known id holders are = record {
  order = are.order;
  same = λ f.
      are.same f
      ∙ sym (sums_map (λ (k : KnownInstance). f (hash_key k.row)) (held_by id holders) known ∙ sums_same (λ (k : KnownInstance). f (hash_key (held_by id holders k).row)) (λ (k : KnownInstance). f (hash_key k.row)) known (λ k. ap (λ (x : InstRow). f (hash_key x)) (row-kept id holders k)));
}

-- an element that was found is among them
pub found-among : (id : InstId) (known : List KnownInstance) (k : KnownInstance) → instance_in id known ≡ Some k → Contains known k × (k.row.id ≡ id)
found-among id known k e =
    let f = found_one (has_id id) known k e in
    (f.0, same_id k.row.id id (text_is k.row.id.0 id.0 f.1))

pub candidate_found : (hash : Hash) (size : ℕ) (after : Option InstId) (keys : List HashKey) (known : List KnownInstance) (o : Option InstId) → Rise known → AreHashKeys keys known → IfSome o (IsLeastWanted hash size after keys) → (IsNone o → All (λ key. is_key_wanted hash size after key ≡ false) keys)
    → o ≡ candidate_in hash size after known
candidate_found hash size after keys known None rise are some none = no_candidate hash size after keys known are (none refl)
candidate_found hash size after keys known (Some id) rise are some none = candidate_is hash size after keys known id rise are some

-- one less, and one more

pub keys-less : (keys keys' : List HashKey) (known known' : List KnownInstance) (key : HashKey) (k : KnownInstance) → AreHashKeys keys known → InOrder keys' → ((f : HashKey → ℕ) → sum_by f keys ≡ f key + sum_by f keys') → ((g : KnownInstance → ℕ) → sum_by g known ≡ g k + sum_by g known')
    → key ≡ hash_key k.row → AreHashKeys keys' known'
keys-less keys keys' known known' key k are order less gone is = record {
  order = order;
  same = λ f.
      let a = are.same f in
      let b = less f in
      let c = gone (λ x. f (hash_key x.row)) in
      let e = ap f is in
      omega (arith, a, b, c, e);
}

pub keys-more : (keys keys' : List HashKey) (known known' : List KnownInstance) (key : HashKey) (k : KnownInstance) → AreHashKeys keys known → InOrder keys' → ((f : HashKey → ℕ) → sum_by f keys' ≡ f key + sum_by f keys) → ((g : KnownInstance → ℕ) → sum_by g known' ≡ g k + sum_by g known)
    → key ≡ hash_key k.row → AreHashKeys keys' known'
keys-more keys keys' known known' key k are order more added is = record {
  order = order;
  same = λ f.
      let a = are.same f in
      let b = more f in
      let c = added (λ x. f (hash_key x.row)) in
      let e = ap f is in
      omega (arith, a, b, c, e);
}

pub kept-without : (value : InstancesValue) (id : InstId) → AreInstances value → AreInstances (record value { known = without_instance id value.known })
kept-without value id are = record {
  rising = AllPairs-filter (λ a b. IsIdBefore a.row.id b.row.id) (λ k. not (has_id id k)) value.known are.rising;
  drawn = All-filter (λ k. not (has_id id k)) (λ k. HasDrawnNumber value.store value.highest k.row.id) value.known are.drawn;
  last = are.last;
}

-- as an opening found them

pub instances-found : (rows : List InstRow) (store : StoreId) (highest : ℕ) → AllPairs (λ a b. IsIdBefore a.id b.id) rows → All (λ row. HasDrawnNumber store highest row.id) rows → highest ≤ 4294967294 → AreInstances (record { known = map instance_found rows; store = store; highest = highest })
instances-found rows store highest rising drawn last = record {
  rising = pairs_map (λ a b. IsIdBefore a.id b.id) (λ a b. IsIdBefore a.row.id b.row.id) instance_found (λ a b h. h) rows rising;
  drawn = all_map (λ row. HasDrawnNumber store highest row.id) (λ k. HasDrawnNumber store highest k.row.id) instance_found (λ a h. h) rows drawn;
  last = last;
}

pub keys-found : (rows : List InstRow) (keys : List HashKey) → InOrder keys → ((f : HashKey → ℕ) → sum_by f keys ≡ sum_by (λ row. f (hash_key row)) rows) → AreHashKeys keys (map instance_found rows)
keys-found rows keys order same = record { order = order; same = λ f. same f ∙ sym (sums_map (λ (k : KnownInstance). f (hash_key k.row)) instance_found rows) }

-- a list that was lent and written back
pub lent-back : (items new : List KnownInstance) (len : ℕ) → length new ≡ len → take len (new ++ drop (length new) items) ≡ new
lent-back items new len long = subst (λ (k : ℕ). take k (new ++ drop (length new) items) ≡ new) long (take-append_seam new (drop (length new) items))

-- ---- a new number

cancel : (xs : List ℕ) {a b : List ℕ} → xs ++ a ≡ xs ++ b → a ≡ b
cancel [] e = e
cancel (x ∷ xs) {a} {b} e = let t : xs ++ a ≡ xs ++ b = cc e in cancel xs t

four_marks : (a b : List ℕ) → 255 ∷ 255 ∷ 255 ∷ 255 ∷ a ≡ 255 ∷ 255 ∷ 255 ∷ 255 ∷ b → a ≡ b
four_marks a b e = cc e

numbered_only : (store : StoreId) (m n : ℕ) → m < 2 ^ 32 → n < 2 ^ 32 → numbered_id store m ≡ numbered_id store n → m ≡ n
numbered_only store m n a b e = four_same m n a b (four_marks (to_be_bytes w32 m) (to_be_bytes w32 n) (cancel store.0 (ap (λ (i : InstId). i.0) e)))

pub fresh : (value : InstancesValue) → AreInstances value → value.highest < 4294967294 → All (λ k. k.row.id ≢ next_id value) value.known
fresh value are less = λ k d lt e. let h = are.drawn k d lt (value.highest + 1) (omega (arith, less)) e in omega (arith, h)

pub kept-placed : (value : InstancesValue) (new : KnownInstance) → AreInstances value → value.highest < 4294967294 → new.row.id ≡ next_id value → AreInstances (record value { known = with_instance new value.known; highest = value.highest + 1 })
kept-placed value new are less is = record {
  rising = rise-with value.known new are.rising;
  drawn = all-with (λ k. HasDrawnNumber value.store (value.highest + 1) k.row.id) value.known new (λ k d lt number le e. let h = are.drawn k d lt number le e in omega (arith, h))
      (λ number le e. let same = numbered_only value.store (value.highest + 1) number (omega (arith, less)) (omega (arith, le)) (sym is ∙ e) in omega (arith, same));
  last = omega (arith, less);
}

pub kept-drawn : (value : InstancesValue) → AreInstances value → value.highest < 4294967294 → AreInstances (record value { highest = value.highest + 1 })
kept-drawn value are less = record { rising = are.rising; drawn = λ k d lt number le e. (let h = are.drawn k d lt number le e in omega (arith, h)); last = omega (arith, less) }
