-- How many events are still to come.
use Rattle.std.specs.Prelude.{filter, map, if◌then◌else◌}
use Rattle.std.specs.Option.{option_map_or}
use Rattle.std.specs.Ordering.{is_lt}
use Rattle.std.specs.declared.cmp.Ordering.TheVariants.{Less}
use Rattle.std.proofs.Common.{◌≡◌, ◌≢◌, ◌==◌, ◌<◌, ◌≤◌, ◌+◌, ◌-◌, ◌*◌, ℕ, suc, Bool, true, false, ◌&&◌, List, [], ◌∷◌, ◌++◌, length, Option, Some, None, refl, sym, ◌∙◌, ap, subst, arith, length-append}
use Rattle.std.proofs.Math.Nat.{mul-le-mul_left, mul-le-mul_right, suc-mul}
use Rattle.std.proofs.Math.Numerals.{lt_of_le_of_ne}
use Rattle.std.proofs.lemmas.Bool.{eq-eqb, eqb-true, true≢false}
use Rattle.std.proofs.lemmas.List.{length-map}
use Rattle.std.proofs.lemmas.List.Sums.{count_by-le-length, length-filter}
use Rattle.attach_detach.specs.declared.message.Detached.{Detached}
use Rattle.mdbox_base.specs.declared.entries.InstRow.{InstRow}
use Rattle.mdbox_base.specs.declared.ids.Hash.{Hash}
use Rattle.mdbox_base.specs.declared.ids.InstId.{InstId}
use Rattle.sis_store.specs.Comparing.{candidates_left}
use Rattle.sis_store.specs.Instances.{InstancesValue, after_placing, has_id, holders_in, instance_placed, is_id_past, is_of_kind, with_holders, with_instance}
use Rattle.sis_store.specs.declared.instance.KnownInstance.{KnownInstance}
use Rattle.sis_store.proofs.IdLemmas.{by_octets, is_within, less_lt, turned}
use Rattle.save_instances.specs.Attaching.{AttachingValue, attach_events_left, candidates_of, compared_to, found_let_go, next_attachment, numbers_left, parts_left, with_found}

-- ---- candidates are known instances

few_candidates : (o : Option Detached) (after : Option InstId) (known : List KnownInstance) → option_map_or (λ part. candidates_left part.hash (length part.octets) after known) o 0 ≤ length known
few_candidates None after known = omega arith
few_candidates (Some part) after known =
    let p : KnownInstance → Bool = λ k. is_of_kind part.hash (length part.octets) k.row && is_id_past after k.row.id in
    subst (λ (n : ℕ). n ≤ length known) (sym (length-filter p known)) (count_by-le-length p known)

-- ---- one attachment fewer is left

product : (r n m : ℕ) → m ≤ n → r * m ≤ r * n
product r n m le = mul-le-mul_left r le

more : (c a b : ℕ) → a < b → a < c + b
more c a b lt = omega (arith, lt)

-- with a factor less, and what comes beside it below the other
factor_less : (k p q x y : ℕ) → p < q → x ≤ y → k < y → k + p * x < q * y
factor_less k p q x y less within few =
    let a : p * x ≤ p * y = product p y x within in
    let b : suc p * y ≤ q * y = mul-le-mul_right y (omega (arith, less)) in
    let c : suc p * y ≡ p * y + y = suc-mul p y in
    last (p * x) (p * y) (suc p * y) (q * y) a b c
  where
    last : (f g h i : ℕ) → f ≤ g → h ≤ i → h ≡ g + y → k + f < i
    last f g h i le most sum = omega (arith, le, sum, most, few)

less_left : (c k n m p q h j : ℕ) → p + j < q + h → m + j ≤ n + h → k ≤ m → k + (p + j) * (m + j + 1) < c + (q + h) * (n + h + 1)
less_left c k n m p q h j less few within = more c (k + (p + j) * (m + j + 1)) ((q + h) * (n + h + 1)) (factor_less k (p + j) (q + h) (m + j + 1) (n + h + 1) less (omega (arith, few)) (omega (arith, few, within)))

one_fewer : (value : AttachingValue) (row : InstRow) (part : Detached) → next_attachment value ≡ Some part → parts_left value ≡ suc (parts_left (with_found row value))
one_fewer value row part next =
    let within : length value.found < length value.parts = is_within value.parts (length value.found) part next in
    let more : length (value.found ++ row ∷ []) ≡ length value.found + 1 = length-append value.found (row ∷ []) in
    counts (length value.parts) (length value.found) (length (value.found ++ row ∷ [])) within more
  where
    counts : (all some next : ℕ) → some < all → next ≡ some + 1 → all - some ≡ suc (all - next)
    counts all some next lt is = omega (arith, lt, is)

-- The next attachment's instance was found; instances that were placed since drew a number each.
pub found_fewer : (value now : AttachingValue) (row : InstRow) (part : Detached) (instances later : InstancesValue) → next_attachment value ≡ Some part → now ≡ with_found row value → numbers_left later ≤ numbers_left instances → length later.known + numbers_left later ≤ length instances.known + numbers_left instances
    → attach_events_left now later < attach_events_left value instances
found_fewer value now row part instances later next is drawn few =
    subst (λ (v : AttachingValue). attach_events_left v later < attach_events_left value instances) (sym is)
    (less_left (candidates_of value instances) (candidates_of (with_found row value) later) (length instances.known) (length later.known) (parts_left (with_found row value)) (parts_left value) (numbers_left instances) (numbers_left later)
    (fewer (parts_left value) (parts_left (with_found row value)) (numbers_left instances) (numbers_left later) (one_fewer value row part next) drawn) few (few_candidates (next_attachment (with_found row value)) (compared_to (with_found row value) later) later.known))
  where
    fewer : (r s h j : ℕ) → r ≡ suc s → j ≤ h → s + j < r + h
    fewer r s h j is le = omega (arith, is, le)

-- ---- beside what other tasks place

compared_alike : (value : AttachingValue) (instances later : InstancesValue) → later.highest ≡ instances.highest → compared_to value later ≡ compared_to value instances
compared_alike value instances later same = ap (λ (n : ℕ). if value.drawn == n then value.after else None) same

no_more_candidates : (o : Option Detached) (after : Option InstId) (known later : List KnownInstance) → ((hash : Hash) (size : ℕ) → candidates_left hash size after later ≤ candidates_left hash size after known)
    → option_map_or (λ part. candidates_left part.hash (length part.octets) after later) o 0 ≤ option_map_or (λ part. candidates_left part.hash (length part.octets) after known) o 0
no_more_candidates None after known later few = omega arith
no_more_candidates (Some part) after known later few = few part.hash (length part.octets)

not_more : (c k n m r h j : ℕ) → k ≤ c → j ≡ h → m + j ≤ n + h → k + (r + j) * (m + j + 1) ≤ c + (r + h) * (n + h + 1)
not_more c k n m r h j fewer same few =
    let a : (r + j) * (m + j + 1) ≤ (r + j) * (n + h + 1) = product (r + j) (n + h + 1) (m + j + 1) (omega (arith, few)) in
    let b : (r + j) * (n + h + 1) ≡ (r + h) * (n + h + 1) = ap (λ (x : ℕ). (r + x) * (n + h + 1)) same in
    last ((r + j) * (m + j + 1)) ((r + j) * (n + h + 1)) ((r + h) * (n + h + 1)) a b
  where
    last : (x y z : ℕ) → x ≤ y → y ≡ z → k + x ≤ c + z
    last x y z le is = omega (arith, le, is, fewer)

-- No more events are left where each instance that was placed drew a number, and where none was drawn no candidates are new.
pub none_more : (value : AttachingValue) (instances later : InstancesValue) → instances.highest ≤ later.highest → (later.highest ≢ instances.highest → later.highest ≤ 4294967294) → length later.known + instances.highest ≤ length instances.known + later.highest
    → (later.highest ≡ instances.highest → (hash : Hash) (size : ℕ) (after : Option InstId) → candidates_left hash size after later.known ≤ candidates_left hash size after instances.known) → attach_events_left value later ≤ attach_events_left value instances
none_more value instances later drawn last few same = by (later.highest == instances.highest) refl
  where
    within : (n m a b h j : ℕ) → a ≤ b → b ≤ 4294967294 → m + a ≤ n + b → h ≡ 4294967294 - a → j ≡ 4294967294 - b → m + j ≤ n + h
    within n m a b h j le most sum is was = omega (arith, le, most, sum, is, was)

    lower : (a b h j : ℕ) → a ≤ b → (b ≡ a → ⊥) → b ≤ 4294967294 → h ≡ 4294967294 - a → j ≡ 4294967294 - b → j < h
    lower a b h j le not most is was = risen a b h j (lt_of_le_of_ne le (λ e. not (sym e))) most is was
      where
        risen : (a b h j : ℕ) → a < b → b ≤ 4294967294 → h ≡ 4294967294 - a → j ≡ 4294967294 - b → j < h
        risen a b h j lt most is was = omega (arith, lt, most, is, was)

    by : (t : Bool) → (later.highest == instances.highest) ≡ t → attach_events_left value later ≤ attach_events_left value instances
    by true e =
        let is : later.highest ≡ instances.highest = eqb-true later.highest instances.highest e in
        let after : compared_to value later ≡ compared_to value instances = compared_alike value instances later is in
        let fewer : candidates_of value later ≤ candidates_of value instances =
        subst (λ (o : Option InstId). option_map_or (λ part. candidates_left part.hash (length part.octets) o later.known) (next_attachment value) 0 ≤ candidates_of value instances) (sym after)
        (no_more_candidates (next_attachment value) (compared_to value instances) instances.known later.known (λ hash size. same is hash size (compared_to value instances))) in
        let numbers : numbers_left later ≡ numbers_left instances = ap (λ (n : ℕ). 4294967294 - n) is in
        not_more (candidates_of value instances) (candidates_of value later) (length instances.known) (length later.known) (parts_left value) (numbers_left instances) (numbers_left later) fewer numbers (stays (length instances.known) (length later.known) instances.highest later.highest (numbers_left instances) (numbers_left later) is few numbers)
      where
        stays : (n m a b h j : ℕ) → b ≡ a → m + a ≤ n + b → j ≡ h → m + j ≤ n + h
        stays n m a b h j is sum same = omega (arith, is, sum, same)
    by false e =
        let not : later.highest ≡ instances.highest → ⊥ = λ is. true≢false (sym (eq-eqb later.highest instances.highest is) ∙ e) in
        let most = last not in
        let fewer : numbers_left later < numbers_left instances = lower instances.highest later.highest (numbers_left instances) (numbers_left later) drawn not most refl refl in
        let less = less_left (candidates_of value instances) (candidates_of value later) (length instances.known) (length later.known) (parts_left value) (parts_left value) (numbers_left instances) (numbers_left later)
        (beside (parts_left value) (numbers_left instances) (numbers_left later) fewer) (within (length instances.known) (length later.known) instances.highest later.highest (numbers_left instances) (numbers_left later) drawn most few refl refl)
        (few_candidates (next_attachment value) (compared_to value later) later.known) in
        lt_le (attach_events_left value later) (attach_events_left value instances) less
      where
        beside : (r h j : ℕ) → j < h → r + j < r + h
        beside r h j lt = omega (arith, lt)

        lt_le : (a b : ℕ) → a < b → a ≤ b
        lt_le a b lt = omega (arith, lt)

-- ---- how many are known

pub held_many : (id : InstId) (holders : ℕ) (known : List KnownInstance) → length (with_holders id holders known) ≡ length known
held_many id holders known = length-map known (held id holders)
  where
    held : InstId → ℕ → KnownInstance → KnownInstance
    held id holders k = if has_id id k then record k { holders = holders } else k

halves : {X : Type 0} → (p q : X → Bool) → ((x : X) → p x ≡ true → q x ≡ true → ⊥) → (xs : List X) → length (filter p xs) + length (filter q xs) ≤ length xs
halves p q apart [] = omega arith
halves p q apart (x ∷ xs) = by (p x) (q x) refl refl (halves p q apart xs)
  where
    by : (a b : Bool) → p x ≡ a → q x ≡ b → length (filter p xs) + length (filter q xs) ≤ length xs → length (filter p (x ∷ xs)) + length (filter q (x ∷ xs)) ≤ length (x ∷ xs)
    by true true e f le = absurd (apart x e f)
    by true false e f le = rw (e, f) (omega (arith, le))
    by false true e f le = rw (e, f) (omega (arith, le))
    by false false e f le = rw (e, f) (omega (arith, le))

pub placed_many : (new : KnownInstance) (known : List KnownInstance) → length (with_instance new known) ≤ length known + 1
placed_many new known =
    let p : KnownInstance → Bool = λ k. is_lt (by_octets k.row.id.0 new.row.id.0) in
    let q : KnownInstance → Bool = λ k. is_lt (by_octets new.row.id.0 k.row.id.0) in
    let h : length (filter p known) + length (filter q known) ≤ length known = halves p q apart known in
    let l : length (filter p known ++ new ∷ filter q known) ≡ length (filter p known) + length (new ∷ filter q known) = length-append (filter p known) (new ∷ filter q known) in
    let m : length (new ∷ filter q known) ≡ suc (length (filter q known)) = refl in
    omega (arith, h, l, m)
  where
    apart : (k : KnownInstance) → is_lt (by_octets k.row.id.0 new.row.id.0) ≡ true → is_lt (by_octets new.row.id.0 k.row.id.0) ≡ true → ⊥
    apart k e f =
        let g : is_lt (by_octets new.row.id.0 k.row.id.0) ≡ false = ap is_lt (turned k.row.id.0 new.row.id.0 Less (less_lt (by_octets k.row.id.0 new.row.id.0) e)) in
        true≢false (sym f ∙ g)

-- An instance was placed for the next attachment, with the next number.
pub placed_fewer : (value now : AttachingValue) (row : InstRow) (hash : Hash) (size : ℕ) (part : Detached) (instances later : InstancesValue) → next_attachment value ≡ Some part → now ≡ with_found row value → later ≡ after_placing hash size instances → later.highest ≤ 4294967294
    → attach_events_left now later < attach_events_left value instances
placed_fewer value now row hash size part instances later next is placed last =
    let many : length later.known ≤ length instances.known + 1 = subst (λ (i : InstancesValue). length i.known ≤ length instances.known + 1) (sym placed) (placed_many (instance_placed instances hash size) instances.known) in
    let drawn : later.highest ≡ instances.highest + 1 = ap (λ (i : InstancesValue). i.highest) placed in
    found_fewer value now row part instances later next is (lower instances.highest later.highest (numbers_left instances) (numbers_left later) drawn refl refl)
    (within (length instances.known) (length later.known) instances.highest later.highest (numbers_left instances) (numbers_left later) many drawn last refl refl)
  where
    lower : (a b h j : ℕ) → b ≡ a + 1 → h ≡ 4294967294 - a → j ≡ 4294967294 - b → j ≤ h
    lower a b h j is one other = omega (arith, is, one, other)

    within : (n m a b h j : ℕ) → m ≤ n + 1 → b ≡ a + 1 → b ≤ 4294967294 → h ≡ 4294967294 - a → j ≡ 4294967294 - b → m + j ≤ n + h
    within n m a b h j many is most one other = omega (arith, many, is, most, one, other)

-- ---- candidates beside holds

-- the same instances are known, whoever holds them
abbrev pub AreSameRows : List KnownInstance → List KnownInstance → Type 0
AreSameRows known later = map (λ k. k.row) later ≡ map (λ k. k.row) known

pub held_rows : (id : InstId) (holders : ℕ) (known : List KnownInstance) → AreSameRows known (with_holders id holders known)
held_rows id holders [] = refl
held_rows id holders (k ∷ known) = by (has_id id k) (held_rows id holders known)
  where
    by : (t : Bool) → AreSameRows known (with_holders id holders known) → (if t then record k { holders = holders } else k).row ∷ map (λ k. k.row) (with_holders id holders known) ≡ k.row ∷ map (λ k. k.row) known
    by true same = ap (λ (rows : List InstRow). k.row ∷ rows) same
    by false same = ap (λ (rows : List InstRow). k.row ∷ rows) same

pub let_go_rows : (rows : List InstRow) (known : List KnownInstance) → AreSameRows known (found_let_go rows known)
let_go_rows [] known = refl
let_go_rows (row ∷ rows) known = let_go_rows rows (with_holders row.id (holders_in row.id known - 1) known) ∙ held_rows row.id (holders_in row.id known - 1) known

rows_counted : (hash : Hash) (size : ℕ) (after : Option InstId) (known : List KnownInstance) → candidates_left hash size after known ≡ length (filter (λ row. is_of_kind hash size row && is_id_past after row.id) (map (λ k. k.row) known))
rows_counted hash size after [] = refl
rows_counted hash size after (k ∷ known) = by (is_of_kind hash size k.row && is_id_past after k.row.id) (rows_counted hash size after known)
  where
    p : KnownInstance → Bool
    p k = is_of_kind hash size k.row && is_id_past after k.row.id

    q : InstRow → Bool
    q row = is_of_kind hash size row && is_id_past after row.id

    by : (t : Bool) → candidates_left hash size after known ≡ length (filter q (map (λ k. k.row) known)) → length (if t then k ∷ filter p known else filter p known) ≡ length (if t then k.row ∷ filter q (map (λ k. k.row) known) else filter q (map (λ k. k.row) known))
    by true same = ap (λ (n : ℕ). suc n) same
    by false same = same

pub same_candidates : (known later : List KnownInstance) → AreSameRows known later → (hash : Hash) (size : ℕ) (after : Option InstId) → candidates_left hash size after later ≡ candidates_left hash size after known
same_candidates known later same hash size after =
    rows_counted hash size after later ∙ (ap (λ (rows : List InstRow). length (filter (λ row. is_of_kind hash size row && is_id_past after row.id) rows)) same ∙ sym (rows_counted hash size after known))

pub same_many : (known later : List KnownInstance) → AreSameRows known later → length later ≡ length known
same_many known later same = sym (length-map later (λ k. k.row)) ∙ (ap length same ∙ length-map known (λ k. k.row))
