-- How many hold an instance, with one more or one fewer, and with an instance that is placed.
use Rattle.store_core.proofs.Common.{Contains, if◌then◌else◌, option_map_or, bytes_eq, ◌≡◌, ◌≢◌, ℕ, ◌+◌, ◌-◌, ◌<◌, ◌≤◌, Bool, true, false, cond, List, [], ◌∷◌, Option, Some, None, All, refl, sym, ◌∙◌, ap, subst, arith, true≢false, false≢true, All-weaker, sum_by-cons, InstRow, Hash, InstId}
use Rattle.store_core.proofs.Common.{InstancesValue, AreInstances, HasDrawnNumber, after_placing, has_id, instance_in, instance_placed, next_id, with_holders, with_instance, KnownInstance, instance-in, same_id, found-among, StoreValue}
use Rattle.std.specs.Prelude.{IsSome}
use Rattle.model_octets.proofs.SearchLemmas.{found_none, text_is, text_yes}
use Rattle.sis_store.specs.Instances.{IsInstanceKnown, holders_in}
use Rattle.sis_store.proofs.IdLemmas.{all-with, find_none, hasnt, instance-none}
use Rattle.store_core.specs.Keeping.{MovesHolds, holds_of}
use Rattle.store_core.proofs.PlacedInstanceLemmas.{new_known, next_is_new, still_known}

-- ---- a task's own

abbrev is_its : InstId → InstRow → Bool
is_its id row = bytes_eq row.id.0 id.0

added : (all one rest k : ℕ) → all ≡ one + rest → one ≡ k → all ≡ k + rest
added all one rest k sum is = omega (arith, sum, is)

holds_one : (id : InstId) (row : InstRow) (found : List InstRow) → is_its id row ≡ true → holds_of (row ∷ found) id ≡ 1 + holds_of found id
holds_one id row found e =
    let c = sum_by-cons (λ (r : InstRow). cond (is_its id r) 1 0) row found in
    let one : ◌≡◌ {A = ℕ} (cond (is_its id row) 1 0) 1 = ap (λ (b : Bool). cond b 1 0) e in
    added (holds_of (row ∷ found) id) (cond (is_its id row) 1 0) (holds_of found id) 1 c one

holds_none : (id : InstId) (row : InstRow) (found : List InstRow) → is_its id row ≡ false → holds_of (row ∷ found) id ≡ holds_of found id
holds_none id row found e =
    let c = sum_by-cons (λ (r : InstRow). cond (is_its id r) 1 0) row found in
    let none : ◌≡◌ {A = ℕ} (cond (is_its id row) 1 0) 0 = ap (λ (b : Bool). cond b 1 0) e in
    let sum : holds_of (row ∷ found) id ≡ 0 + holds_of found id = added (holds_of (row ∷ found) id) (cond (is_its id row) 1 0) (holds_of found id) 0 c none in
    omega (arith, sum)

-- ---- of all

held_other : (id other : InstId) (n : ℕ) (known : List KnownInstance) → (id ≡ other → ⊥) → holders_in other (with_holders id n known) ≡ holders_in other known
held_other id other n [] apart = refl
held_other id other n (k ∷ known) apart = by_hit (has_id id k) (has_id other k) refl refl (held_other id other n known apart)
  where
    by_hit : (hit found : Bool) → has_id id k ≡ hit → has_id other k ≡ found → holders_in other (with_holders id n known) ≡ holders_in other known
        → option_map_or (λ j. j.holders) (if has_id other (if hit then record k { holders = n } else k) then Some (if hit then record k { holders = n } else k) else instance_in other (with_holders id n known)) 0
        ≡ option_map_or (λ j. j.holders) (if found then Some k else instance_in other known) 0
    by_hit true true h f rest = absurd (apart (same_id id other (sym (text_is k.row.id.0 id.0 h) ∙ text_is k.row.id.0 other.0 f)))
    by_hit true false h f rest = ap (λ (t : Bool). option_map_or (λ (j : KnownInstance). j.holders) (if t then Some (record k { holders = n }) else instance_in other (with_holders id n known)) 0) f ∙ rest
    by_hit false true h f rest = ap (λ (t : Bool). option_map_or (λ (j : KnownInstance). j.holders) (if t then Some k else instance_in other (with_holders id n known)) 0) f
    by_hit false false h f rest = ap (λ (t : Bool). option_map_or (λ (j : KnownInstance). j.holders) (if t then Some k else instance_in other (with_holders id n known)) 0) f ∙ rest

held_this : (id : InstId) (n : ℕ) (known : List KnownInstance) → IsInstanceKnown id known → holders_in id (with_holders id n known) ≡ n
held_this id n [] there = absurd (false≢true there)
held_this id n (k ∷ known) there = by_hit (has_id id k) refl there (λ later. held_this id n known later)
  where
    by_hit : (hit : Bool) → has_id id k ≡ hit → IsSome (if hit then Some k else instance_in id known) → (IsInstanceKnown id known → holders_in id (with_holders id n known) ≡ n)
        → option_map_or (λ j. j.holders) (if has_id id (if hit then record k { holders = n } else k) then Some (if hit then record k { holders = n } else k) else instance_in id (with_holders id n known)) 0 ≡ n
    by_hit true h t rest = ap (λ (b : Bool). option_map_or (λ (j : KnownInstance). j.holders) (if b then Some (record k { holders = n }) else instance_in id (with_holders id n known)) 0) h
    by_hit false h t rest = ap (λ (b : Bool). option_map_or (λ (j : KnownInstance). j.holders) (if b then Some k else instance_in id (with_holders id n known)) 0) h ∙ rest t

-- an instance that somebody holds is known
pub held_known : (id : InstId) (known : List KnownInstance) → 1 ≤ holders_in id known → IsInstanceKnown id known
held_known id known some = by (instance_in id known) some
  where
    by : (o : Option KnownInstance) → 1 ≤ option_map_or (λ k. k.holders) o 0 → IsSome o
    by None l = absurd (let z : 1 ≤ 0 = l in omega (arith, z))
    by (Some k) l = refl

-- ---- with one more, and with one fewer

more : (now before mine_now mine : ℕ) → now ≡ before + 1 → mine_now ≡ 1 + mine → now + mine ≡ before + mine_now
more now before mine_now mine a b = omega (arith, a, b)

same : (now before mine_now mine : ℕ) → now ≡ before → mine_now ≡ mine → now + mine ≡ before + mine_now
same now before mine_now mine a b = omega (arith, a, b)

fewer : (now before mine_now mine : ℕ) → 1 ≤ before → now ≡ before - 1 → mine ≡ 1 + mine_now → now + mine ≡ before + mine_now
fewer now before mine_now mine l a b = omega (arith, l, a, b)

pub hold_moves : (id : InstId) (known : List KnownInstance) → IsInstanceKnown id known → (found : List InstRow) (row : InstRow) → row.id ≡ id → (other : InstId) → holders_in other (with_holders id (holders_in id known + 1) known) + holds_of found other ≡ holders_in other known + holds_of (row ∷ found) other
hold_moves id known there found row is other = by_test (is_its other row) refl
  where
    by_test : (b : Bool) → is_its other row ≡ b → holders_in other (with_holders id (holders_in id known + 1) known) + holds_of found other ≡ holders_in other known + holds_of (row ∷ found) other
    by_test true e =
        let this : id ≡ other = sym is ∙ same_id row.id other (text_is row.id.0 other.0 e) in
        let now : holders_in other (with_holders id (holders_in id known + 1) known) ≡ holders_in other known + 1 =
        subst (λ (i : InstId). holders_in i (with_holders id (holders_in id known + 1) known) ≡ holders_in i known + 1) this (held_this id (holders_in id known + 1) known there) in
        more (holders_in other (with_holders id (holders_in id known + 1) known)) (holders_in other known) (holds_of (row ∷ found) other) (holds_of found other) now (holds_one other row found e)
    by_test false e =
        same (holders_in other (with_holders id (holders_in id known + 1) known)) (holders_in other known) (holds_of (row ∷ found) other) (holds_of found other)
        (held_other id other (holders_in id known + 1) known (λ this. true≢false (sym (text_yes row.id.0 other.0 (ap (λ (i : InstId). i.0) (is ∙ this))) ∙ e))) (holds_none other row found e)

pub let_go_moves : (id : InstId) (known : List KnownInstance) → 1 ≤ holders_in id known → (found : List InstRow) (row : InstRow) → row.id ≡ id → (other : InstId) → holders_in other (with_holders id (holders_in id known - 1) known) + holds_of (row ∷ found) other ≡ holders_in other known + holds_of found other
let_go_moves id known some found row is other = by_test (is_its other row) refl
  where
    by_test : (b : Bool) → is_its other row ≡ b → holders_in other (with_holders id (holders_in id known - 1) known) + holds_of (row ∷ found) other ≡ holders_in other known + holds_of found other
    by_test true e =
        let this : id ≡ other = sym is ∙ same_id row.id other (text_is row.id.0 other.0 e) in
        let now : holders_in other (with_holders id (holders_in id known - 1) known) ≡ holders_in other known - 1 =
        subst (λ (i : InstId). holders_in i (with_holders id (holders_in id known - 1) known) ≡ holders_in i known - 1) this (held_this id (holders_in id known - 1) known (held_known id known some)) in
        fewer (holders_in other (with_holders id (holders_in id known - 1) known)) (holders_in other known) (holds_of found other) (holds_of (row ∷ found) other) (subst (λ (i : InstId). 1 ≤ holders_in i known) this some) now (holds_one other row found e)
    by_test false e =
        same (holders_in other (with_holders id (holders_in id known - 1) known)) (holders_in other known) (holds_of found other) (holds_of (row ∷ found) other)
        (held_other id other (holders_in id known - 1) known (λ this. true≢false (sym (text_yes row.id.0 other.0 (ap (λ (i : InstId). i.0) (is ∙ this))) ∙ e))) (sym (holds_none other row found e))

-- ---- with one that is placed

abbrev holders_of : Option KnownInstance → ℕ
holders_of o = option_map_or (λ (k : KnownInstance). k.holders) o 0

none_before : (value : InstancesValue) → AreInstances value → value.highest < 4294967294 → All (λ k. k.row.id ≢ next_id value) value.known
none_before value are less =
    All-weaker (λ (k : KnownInstance). HasDrawnNumber value.store value.highest k.row.id) (λ (k : KnownInstance). k.row.id ≢ next_id value)
    (λ k drawn e. let l : value.highest + 1 ≤ value.highest = drawn (value.highest + 1) (omega (arith, less)) e in absurd (omega (arith, l))) value.known are.drawn

placed_other : (hash : Hash) (size : ℕ) (value : InstancesValue) (other : InstId) → AreInstances value → value.highest < 4294967294 → AreInstances (after_placing hash size value) → (next_id value ≡ other → ⊥) → instance_in other (after_placing hash size value).known ≡ instance_in other value.known
placed_other hash size value other are less later apart = by (instance_in other value.known) refl
  where
    by : (o : Option KnownInstance) → instance_in other value.known ≡ o → instance_in other (with_instance (instance_placed value hash size) value.known) ≡ o
    by None e =
        find_none (has_id other) (with_instance (instance_placed value hash size) value.known)
        (all-with (λ (k : KnownInstance). has_id other k ≡ false) value.known (instance_placed value hash size) (found_none (has_id other) value.known e) (hasnt other (instance_placed value hash size) apart))
    by (Some k) e =
        let among = found-among other value.known k e in
        let there : Contains (with_instance (instance_placed value hash size) value.known) k = still_known value.known (instance_placed value hash size) k among.0 (next_is_new value k are less among.0) in
        subst (λ (i : InstId). instance_in i (with_instance (instance_placed value hash size) value.known) ≡ Some k) among.1 (instance-in (with_instance (instance_placed value hash size) value.known) k later.rising there)

pub place_moves : (hash : Hash) (size : ℕ) (value : InstancesValue) → AreInstances value → value.highest < 4294967294 → AreInstances (after_placing hash size value) → (found : List InstRow) (row : InstRow) → row.id ≡ next_id value
    → (other : InstId) → holders_in other (after_placing hash size value).known + holds_of found other ≡ holders_in other value.known + holds_of (row ∷ found) other
place_moves hash size value are less later found row is other = by_test (is_its other row) refl
  where
    by_test : (b : Bool) → is_its other row ≡ b → holders_in other (after_placing hash size value).known + holds_of found other ≡ holders_in other value.known + holds_of (row ∷ found) other
    by_test true e =
        let this : next_id value ≡ other = sym is ∙ same_id row.id other (text_is row.id.0 other.0 e) in
        let before : holders_in (next_id value) value.known ≡ 0 = ap holders_of (instance-none value.known (next_id value) (none_before value are less)) in
        let now : holders_in (next_id value) (after_placing hash size value).known ≡ 1 =
        ap holders_of (instance-in (after_placing hash size value).known (instance_placed value hash size) later.rising (new_known value.known (instance_placed value hash size))) in
        more (holders_in other (after_placing hash size value).known) (holders_in other value.known) (holds_of (row ∷ found) other) (holds_of found other)
        (subst (λ (i : InstId). holders_in i (after_placing hash size value).known ≡ holders_in i value.known + 1) this (now ∙ ap (λ (n : ℕ). n + 1) (sym before))) (holds_one other row found e)
    by_test false e =
        same (holders_in other (after_placing hash size value).known) (holders_in other value.known) (holds_of (row ∷ found) other) (holds_of found other)
        (ap holders_of (placed_other hash size value other are less later (λ this. true≢false (sym (text_yes row.id.0 other.0 (ap (λ (i : InstId). i.0) (is ∙ this))) ∙ e)))) (holds_none other row found e)

-- ---- by what the calls have at hand

pub holding_moves : {D : Type 0} → (v now : StoreValue D) (instances : InstancesValue) (id : InstId) → v ≡ now → instances ≡ record v.instances { known = with_holders id (holders_in id v.instances.known + 1) v.instances.known } → IsInstanceKnown id now.instances.known
    → (found : List InstRow) (row : InstRow) → row.id ≡ id → MovesHolds (holds_of found) (holds_of (row ∷ found)) now (record v { instances = instances })
holding_moves v now instances id at is there found row e =
    subst (λ (n : StoreValue _). IsInstanceKnown id n.instances.known → MovesHolds (holds_of found) (holds_of (row ∷ found)) n (record v { instances = instances })) at
    (λ known. subst (λ (i : InstancesValue). MovesHolds (holds_of found) (holds_of (row ∷ found)) v (record v { instances = i })) (sym is) (hold_moves id v.instances.known known found row e)) there

pub letting_moves : {D : Type 0} → (v now : StoreValue D) (instances : InstancesValue) (id : InstId) → v ≡ now → instances ≡ record v.instances { known = with_holders id (holders_in id v.instances.known - 1) v.instances.known } → 1 ≤ holders_in id now.instances.known
    → (found : List InstRow) (row : InstRow) → row.id ≡ id → MovesHolds (holds_of (row ∷ found)) (holds_of found) now (record v { instances = instances })
letting_moves v now instances id at is some found row e =
    subst (λ (n : StoreValue _). 1 ≤ holders_in id n.instances.known → MovesHolds (holds_of (row ∷ found)) (holds_of found) n (record v { instances = instances })) at
    (λ held. subst (λ (i : InstancesValue). MovesHolds (holds_of (row ∷ found)) (holds_of found) v (record v { instances = i })) (sym is) (let_go_moves id v.instances.known held found row e)) some

pub placing_moves : {D : Type 0} → (hash : Hash) (size : ℕ) (v now : StoreValue D) (instances : InstancesValue) (id : InstId) → v ≡ now → AreInstances v.instances → v.instances.highest < 4294967294 → AreInstances instances → instances ≡ after_placing hash size v.instances → id ≡ next_id v.instances
    → (found : List InstRow) (row : InstRow) → row.id ≡ id → (other : InstId) → holders_in other instances.known + holds_of found other ≡ holders_in other now.instances.known + holds_of (row ∷ found) other
placing_moves hash size v now instances id at are less later is next found row e other =
    subst (λ (n : StoreValue _). holders_in other instances.known + holds_of found other ≡ holders_in other n.instances.known + holds_of (row ∷ found) other) at
    (subst (λ (i : InstancesValue). holders_in other i.known + holds_of found other ≡ holders_in other v.instances.known + holds_of (row ∷ found) other) (sym is) (place_moves hash size v.instances are less (subst AreInstances is later) found row (e ∙ next) other))
