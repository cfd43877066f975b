-- Candidates that are compared one after another.
use Rattle.std.specs.Prelude.{Contains, IsSome, ◌⊎◌}
use Rattle.std.specs.Option.{option_map, option_map_or}
use Rattle.std.specs.Str.{bytes_eq}
use Rattle.std.specs.Ordering.{is_lt}
use Rattle.std.specs.declared.cmp.Ordering.TheVariants.{Less}
use Rattle.std.proofs.Common.{◌≡◌, ◌≢◌, inl, inr, ℕ, ◌+◌, ◌<◌, ◌≤◌, ◌==◌, Bool, true, false, ◌&&◌, cond, List, [], ◌∷◌, length, filter, find, get_or, Option, Some, None, All, refl, sym, ◌∙◌, ap, subst, arith}
use Rattle.std.proofs.lemmas.Cmp.{nat_list_cmp_total}
use Rattle.std.proofs.lemmas.Bool.{cases_Bool, cond-true, cond-false, true≢false, false≢true}
use Rattle.std.proofs.lemmas.Bool.Decides.{nat_tests}
use Rattle.std.proofs.lemmas.Option.{same_Some}
use Rattle.std.proofs.lemmas.List.Elements.{All-nil, All-cons, All-weaker, Contains-get_or}
use Rattle.disk_model.specs.Disk.{DiskState, History, Between, IfTold, reading}
use Rattle.disk_model.specs.declared.name.FileName.{FileName}
use Rattle.disk_model.specs.declared.name.FileName.TheVariants.{Inst}
use Rattle.disk_model.proofs.BetweenLemmas.{between-on}
use Rattle.disk_model.proofs.MomentLemmas.{if_told-all, if_told-map, if_told-both}
use Rattle.mdbox_base.specs.declared.entries.InstRow.{InstRow}
use Rattle.mdbox_base.specs.declared.ids.Hash.{Hash}
use Rattle.mdbox_base.specs.declared.ids.InstId.{InstId}
use Rattle.mdbox_base.specs.declared.ids.StoreId.{StoreId}
use Rattle.model_octets.proofs.PairLemmas.{pairs_head, pairs_tail}
use Rattle.model_octets.proofs.SearchLemmas.{among, found_none, found_one, text_is}
use Rattle.sis_store.specs.declared.instance.KnownInstance.{KnownInstance}
use Rattle.sis_store.specs.Instances.{InstancesValue, HasDrawnNumber, IsIdBefore, IsInstanceKnown, after_placing, candidate_in, instance_past, unheld_past, holders_in, instance_in, instance_placed, is_of_kind, is_id_past, with_instance}
use Rattle.sis_store.specs.OnDisk.{file_of, instance_file, IsUnlikeKnown}
use Rattle.sis_store.specs.Comparing.{IsUnlikeUpTo, IsUnlikeCompared, candidates_left}
use Rattle.sis_store.proofs.HashLemmas.{hash_made}
use Rattle.sis_store.proofs.IdLemmas.{by_octets, Rise, all-with, instance-in, not_before_itself, lt_less, less_lt}

-- the test of a candidate
abbrev pub wanted : Hash → ℕ → Option InstId → KnownInstance → Bool
wanted hash size after k = is_of_kind hash size k.row && is_id_past after k.row.id

and_both : (a b : Bool) → (a && b) ≡ true → (a ≡ true) × (b ≡ true)
and_both true true e = (refl, refl)
and_both true false e = absurd (false≢true e)
and_both false b e = absurd (false≢true e)

and_true : (a b : Bool) → a ≡ true → b ≡ true → (a && b) ≡ true
and_true a b e f = ap (λ (x : Bool). x && b) e ∙ f

and_false : (a b : Bool) → b ≡ false → (a && b) ≡ false
and_false true b e = e
and_false false b e = refl

-- what was found, where an id is answered
found_of : (o : Option KnownInstance) (id : InstId) → option_map (λ (k : KnownInstance). k.row.id) o ≡ Some id → (k : KnownInstance) × (o ≡ Some k) × (k.row.id ≡ id)
found_of None id e = absurd (let w : None ≡ Some id = e in cc w)
found_of (Some k) id e = (k, refl, same_Some _ _ e)

none_of : (o : Option KnownInstance) → option_map (λ (k : KnownInstance). k.row.id) o ≡ None → o ≡ None
none_of None e = refl
none_of (Some k) e = absurd (let w : Some k.row.id ≡ None = e in cc w)

-- the first that passes stands before each other that does
abbrev IsOrBefore : (KnownInstance → Bool) → KnownInstance → KnownInstance → Type 0
IsOrBefore p first k = p k ≡ true → (k ≡ first) ⊎ (by_octets first.row.id.0 k.row.id.0 ≡ Less)

first_step : (p : KnownInstance → Bool) (x first : KnownInstance) (xs : List KnownInstance) (b : Bool) → p x ≡ b → All (λ k. IsIdBefore x.row.id k.row.id) xs → (find p xs ≡ Some first → All (IsOrBefore p first) xs) → cond (p x) (Some x) (find p xs) ≡ Some first → All (IsOrBefore p first) (x ∷ xs)
first_step p x first xs true e below rest found =
    let same : x ≡ first = same_Some _ _ (sym (cond-true (p x) (Some x) (find p xs) e) ∙ found) in
    All-cons (IsOrBefore p first) x xs (λ is. inl same) (All-weaker (λ k. IsIdBefore x.row.id k.row.id) (IsOrBefore p first) (λ k h is. inr (subst (λ (y : KnownInstance). by_octets y.row.id.0 k.row.id.0 ≡ Less) same h)) xs below)
first_step p x first xs false e below rest found = All-cons (IsOrBefore p first) x xs (λ is. absurd (false≢true (sym e ∙ is))) (rest (sym (cond-false (p x) (Some x) (find p xs) e) ∙ found))

first_least : (p : KnownInstance → Bool) (known : List KnownInstance) (first : KnownInstance) → Rise known → find p known ≡ Some first → All (IsOrBefore p first) known
first_least p [] first rise found = All-nil (IsOrBefore p first)
first_least p (x ∷ xs) first rise found =
    first_step p x first xs (p x) refl (pairs_head (λ a b. IsIdBefore a.row.id b.row.id) x xs rise) (λ f. first_least p xs first (pairs_tail (λ a b. IsIdBefore a.row.id b.row.id) x xs rise) f) found

-- the file of an id is that of the instance

file-is : (known : List KnownInstance) (k : KnownInstance) → Rise known → Contains known k → file_of k.row.id known ≡ instance_file k.row
file-is known k rise c = ap (λ (o : Option KnownInstance). Inst (option_map_or (λ (x : KnownInstance). x.row.hash.0) o []) k.row.id.0) (instance-in known k rise c)

-- ---- one after another

pub none_yet : (hash : Hash) (size : ℕ) (octets : List ℕ) (known : List KnownInstance) (history : Option History) → IsUnlikeUpTo hash size octets None known history
none_yet hash size octets known history = if_told-all _ history (λ disk i d lt of past. absurd (true≢false past))

one_more_on : (disk : DiskState) (hash : Hash) (size : ℕ) (octets : List ℕ) (after : Option InstId) (id : InstId) (known : List KnownInstance) → Rise known → (k : KnownInstance) → find (wanted hash size after) known ≡ Some k → k.row.id ≡ id → reading (disk (file_of id known)) ≢ Some octets
    → All (λ x. is_of_kind hash size x.row ≡ true → is_id_past after x.row.id ≡ false → reading (disk (instance_file x.row)) ≢ Some octets) known → All (λ x. is_of_kind hash size x.row ≡ true → is_id_past (Some id) x.row.id ≡ false → reading (disk (instance_file x.row)) ≢ Some octets) known
one_more_on disk hash size octets after id known rise k found is unlike seen i d lt of up_to read = by (is_id_past after x.row.id) refl
  where
    x : KnownInstance
    x = get_or known i d

    by : (b : Bool) → is_id_past after (get_or known i d).row.id ≡ b → ⊥
    by false e = seen i d lt of e read
    by true e = elim (first_least (wanted hash size after) known k rise found i d lt (and_true (is_of_kind hash size (get_or known i d).row) (is_id_past after (get_or known i d).row.id) of e)) [
      | inl same ↦
          let file : file_of id known ≡ instance_file (get_or known i d).row =
          ap (λ (a : InstId). file_of a known) (sym is) ∙ ap (λ (y : KnownInstance). file_of y.row.id known) (sym same) ∙ file-is known (get_or known i d) rise (Contains-get_or known i d lt) in
          unlike (ap (λ (n : FileName). reading (disk n)) file ∙ read)
      | inr before ↦
          true≢false (sym (lt_less (by_octets id.0 (get_or known i d).row.id.0) (subst (λ (a : InstId). by_octets a.0 (get_or known i d).row.id.0 ≡ Less) is before)) ∙ up_to)
    ]

pub one_more : (hash : Hash) (size : ℕ) (octets : List ℕ) (after : Option InstId) (id : InstId) (known : List KnownInstance) (history : Option History) → Rise known → IsUnlikeUpTo hash size octets after known history → candidate_in hash size after known ≡ Some id → IfTold history (λ disk. reading (disk (file_of id known)) ≢ Some octets)
    → IsUnlikeUpTo hash size octets (Some id) known history
one_more hash size octets after id known history rise seen is unlike =
    let k = found_of (find (wanted hash size after) known) id is in
    if_told-both _ _ _ history (λ disk s u. one_more_on disk hash size octets after id known rise k.0 k.1 k.2 u s) seen unlike

pub all_compared : (hash : Hash) (size : ℕ) (octets : List ℕ) (after : Option InstId) (known : List KnownInstance) (history : Option History) → IsUnlikeUpTo hash size octets after known history → candidate_in hash size after known ≡ None → IsUnlikeKnown hash size octets known history
all_compared hash size octets after known history seen is =
    let none = found_none (wanted hash size after) known (none_of (find (wanted hash size after) known) is) in
    if_told-map _ _ history (λ disk s i d lt of. s i d lt of (not_past (is_of_kind hash size (get_or known i d).row) (is_id_past after (get_or known i d).row.id) of (none i d lt))) seen
  where
    not_past : (a b : Bool) → a ≡ true → (a && b) ≡ false → b ≡ false
    not_past true b e f = f
    not_past false b e f = absurd (false≢true e)

pub candidate_known : (hash : Hash) (size : ℕ) (after : Option InstId) (id : InstId) (known : List KnownInstance) → Rise known → candidate_in hash size after known ≡ Some id → IsInstanceKnown id known
candidate_known hash size after id known rise is =
    let k = found_of (find (wanted hash size after) known) id is in
    let there = found_one (wanted hash size after) known k.0 k.1 in
    subst (λ (a : InstId). IsInstanceKnown a known) k.2 (subst (λ (o : Option KnownInstance). IsSome o) (sym (instance-in known k.0 rise there.0)) refl)

-- what comes next

known_by : (known : List KnownInstance) (k : KnownInstance) (id : InstId) → Rise known → Contains known k → k.row.id ≡ id → instance_in id known ≡ Some k
known_by known k id rise c is = subst (λ (a : InstId). instance_in a known ≡ Some k) is (instance-in known k rise c)

pub next_known : (after : Option InstId) (id : InstId) (known : List KnownInstance) → Rise known → instance_past after known ≡ Some id → IsInstanceKnown id known
next_known after id known rise is =
    let p : KnownInstance → Bool = λ k. is_id_past after k.row.id in
    let k = found_of (find p known) id is in
    subst (λ (o : Option KnownInstance). IsSome o) (sym (known_by known k.0 id rise (found_one p known k.0 k.1).0 k.2)) refl

zero_is : (n : ℕ) → (n == 0) ≡ true → n ≡ 0
zero_is n h = grind (arith, nat_tests, h)

pub unheld_known : (after : Option InstId) (id : InstId) (known : List KnownInstance) → Rise known → unheld_past after known ≡ Some id → IsInstanceKnown id known × (holders_in id known ≡ 0)
unheld_known after id known rise is =
    let p : KnownInstance → Bool = λ k. (k.holders == 0) && is_id_past after k.row.id in
    let k = found_of (find p known) id is in
    let there = found_one p known k.0 k.1 in
    let at = known_by known k.0 id rise there.0 k.2 in
    let none : k.0.holders ≡ 0 = zero_is k.0.holders (and_both (k.0.holders == 0) (is_id_past after k.0.row.id) there.1).0 in (
      subst (λ (o : Option KnownInstance). IsSome o) (sym at) refl,
      ap (λ (o : Option KnownInstance). option_map_or (λ (x : KnownInstance). x.holders) o 0) at ∙ none,
    )

-- ---- fewer are left

no_more : {X : Type 0} → (p q : X → Bool) (xs : List X) → ((x : X) → q x ≡ true → p x ≡ true) → length (filter q xs) ≤ length (filter p xs)
no_more p q [] weaker = omega arith
no_more p q (x ∷ xs) weaker = by (p x) (q x) refl refl (no_more p q xs weaker)
  where
    by : (a b : Bool) → p x ≡ a → q x ≡ b → length (filter q xs) ≤ length (filter p xs) → length (filter q (x ∷ xs)) ≤ length (filter p (x ∷ xs))
    by true true e f le = rw (e, f) (omega (arith, le))
    by true false e f le = rw (e, f) (omega (arith, le))
    by false true e f le = absurd (false≢true (sym e ∙ weaker x f))
    by false false e f le = rw (e, f) le

one_fewer : {X : Type 0} → (p q : X → Bool) (xs : List X) (k : X) → ((x : X) → q x ≡ true → p x ≡ true) → Contains xs k → p k ≡ true → q k ≡ false → length (filter q xs) < length (filter p xs)
one_fewer p q [] k weaker c is isnt = absurd (let l = c.1 in omega (arith, l))
one_fewer p q (x ∷ xs) k weaker c is isnt = by (p x) (q x) refl refl (among x xs k c) (no_more p q xs weaker) (λ later. one_fewer p q xs k weaker later is isnt)
  where
    by : (a b : Bool) → p x ≡ a → q x ≡ b → (x ≡ k) ⊎ Contains xs k → length (filter q xs) ≤ length (filter p xs) → (Contains xs k → length (filter q xs) < length (filter p xs)) → length (filter q (x ∷ xs)) < length (filter p (x ∷ xs))
    by true true e f (inl same) le rest = absurd (false≢true (sym isnt ∙ ap q (sym same) ∙ f))
    by true true e f (inr later) le rest = let l = rest later in rw (e, f) (omega (arith, l))
    by true false e f at le rest = rw (e, f) (omega (arith, le))
    by false true e f at le rest = absurd (false≢true (sym e ∙ weaker x f))
    by false false e f (inl same) le rest = absurd (false≢true (sym e ∙ ap p same ∙ is))
    by false false e f (inr later) le rest = rw (e, f) (rest later)

past_on : (after : Option InstId) (a b : InstId) → is_id_past after a ≡ true → is_id_past (Some a) b ≡ true → is_id_past after b ≡ true
past_on None a b e f = refl
past_on (Some c) a b e f = lt_less (by_octets c.0 b.0) (nat_list_cmp_total.trans c.0 a.0 b.0 (less_lt (by_octets c.0 a.0) e) (less_lt (by_octets a.0 b.0) f))

pub fewer : (hash : Hash) (size : ℕ) (after : Option InstId) (id : InstId) (known : List KnownInstance) → candidate_in hash size after known ≡ Some id → candidates_left hash size (Some id) known < candidates_left hash size after known
fewer hash size after id known is =
    let k = found_of (find (wanted hash size after) known) id is in
    let there = found_one (wanted hash size after) known k.0 k.1 in
    let past : is_id_past after id ≡ true = subst (λ (a : InstId). is_id_past after a ≡ true) k.2 (and_both (is_of_kind hash size k.0.row) (is_id_past after k.0.row.id) there.1).1 in
    one_fewer (wanted hash size after) (wanted hash size (Some id)) known k.0
    (λ x h. let b = and_both (is_of_kind hash size x.row) (is_id_past (Some id) x.row.id) h in and_true (is_of_kind hash size x.row) (is_id_past after x.row.id) b.0 (past_on after id x.row.id past b.1)) there.0 there.1
    (and_false (is_of_kind hash size k.0.row) (is_id_past (Some id) k.0.row.id) (not_itself id k.0.row.id (sym k.2)))
  where
    not_itself : (a b : InstId) → a ≡ b → is_id_past (Some a) b ≡ false
    not_itself a b e = elim (cases_Bool (is_lt (by_octets a.0 b.0))) [ inl is ↦ absurd (not_before_itself a.0 b.0 (ap (λ (i : InstId). i.0) e) (less_lt (by_octets a.0 b.0) is)) | inr isnt ↦ isnt ]

-- ---- the row of a candidate

abbrev row_made : Hash → InstId → ℕ → InstRow
row_made hash id size = record { hash = hash; id = id; size = size }

size_is : (a b : ℕ) → (a == b) ≡ true → a ≡ b
size_is a b h = grind (arith, nat_tests, h)

of_kind : (hash : Hash) (size : ℕ) (row : InstRow) (id : InstId) → row.id ≡ id → is_of_kind hash size row ≡ true → row ≡ row_made hash id size
of_kind hash size row id is kind =
    let p = and_both (bytes_eq row.hash.0 hash.0) (row.size == size) kind in
    let h : row.hash ≡ hash = ap hash_made (text_is row.hash.0 hash.0 p.0) in
    ap (λ (x : Hash). row_made x row.id row.size) h ∙ ap (λ (x : InstId). row_made hash x row.size) is ∙ ap (λ (x : ℕ). row_made hash id x) (size_is row.size size p.1)

-- it is known with this hash and size
pub candidate_row : (hash : Hash) (size : ℕ) (after : Option InstId) (id : InstId) (known : List KnownInstance) → Rise known → candidate_in hash size after known ≡ Some id → option_map (λ k. k.row) (instance_in id known) ≡ Some (record { hash = hash; id = id; size = size })
candidate_row hash size after id known rise is =
    let k = found_of (find (wanted hash size after) known) id is in
    let there = found_one (wanted hash size after) known k.0 k.1 in
    ap (option_map (λ (x : KnownInstance). x.row)) (known_by known k.0 id rise there.0 k.2)
    ∙ ap Some (of_kind hash size k.0.row id k.2 (and_both (is_of_kind hash size k.0.row) (is_id_past after k.0.row.id) there.1).0)

-- and none of them stands between
first_on : (hash : Hash) (size : ℕ) (after : Option InstId) (id : InstId) (first k : KnownInstance) → first.row.id ≡ id → IsOrBefore (wanted hash size after) first k → is_of_kind hash size k.row ≡ true → IsIdBefore k.row.id id → is_id_past after k.row.id ≡ false
first_on hash size after id first k is h of before = by (is_id_past after k.row.id) refl
  where
    by : (b : Bool) → is_id_past after k.row.id ≡ b → is_id_past after k.row.id ≡ false
    by false e = e
    by true e = elim (h (and_true (is_of_kind hash size k.row) (is_id_past after k.row.id) of e)) [
      | inl same ↦ absurd (not_before_itself k.row.id.0 id.0 (ap (λ (x : KnownInstance). x.row.id.0) same ∙ ap (λ (i : InstId). i.0) is) before)
      | inr behind ↦
          absurd (not_before_itself k.row.id.0 k.row.id.0 refl (nat_list_cmp_total.trans k.row.id.0 id.0 k.row.id.0 before (subst (λ (i : InstId). by_octets i.0 k.row.id.0 ≡ Less) is behind)))
    ]

pub candidate_first : (hash : Hash) (size : ℕ) (after : Option InstId) (id : InstId) (known : List KnownInstance) → Rise known → candidate_in hash size after known ≡ Some id → All (λ k. is_of_kind hash size k.row ≡ true → IsIdBefore k.row.id id → is_id_past after k.row.id ≡ false) known
candidate_first hash size after id known rise is =
    let k = found_of (find (wanted hash size after) known) id is in
    All-weaker (IsOrBefore (wanted hash size after) k.0) (λ (x : KnownInstance). is_of_kind hash size x.row ≡ true → IsIdBefore x.row.id id → is_id_past after x.row.id ≡ false) (λ x h. first_on hash size after id k.0 x k.2 h) known (first_least (wanted hash size after) known k.0 rise k.1)

-- ---- what was compared stays so

abbrev Compared : StoreId → Hash → ℕ → List ℕ → Option InstId → ℕ → DiskState → KnownInstance → Type 0
Compared store hash size octets after drawn disk k = is_of_kind hash size k.row ≡ true → is_id_past after k.row.id ≡ false → HasDrawnNumber store drawn k.row.id → reading (disk (instance_file k.row)) ≢ Some octets

abbrev ReadAlike : List KnownInstance → DiskState → DiskState → Type 0
ReadAlike known a b = All (λ k. reading (b (instance_file k.row)) ≡ reading (a (instance_file k.row))) known

compared_on : (value : InstancesValue) (new_hash hash : Hash) (new_size size : ℕ) (octets : List ℕ) (after : Option InstId) (drawn : ℕ) (a b : DiskState) → value.highest < 4294967294 → drawn ≤ value.highest → ReadAlike value.known a b → All (Compared value.store hash size octets after drawn a) value.known
    → All (Compared value.store hash size octets after drawn b) (with_instance (instance_placed value new_hash new_size) value.known)
compared_on value new_hash hash new_size size octets after drawn a b less few same compared =
    all-with (Compared value.store hash size octets after drawn b) value.known (instance_placed value new_hash new_size) (λ i d lt of past has read. compared i d lt of past has (sym (same i d lt) ∙ read)) new
  where
    new : Compared value.store hash size octets after drawn b (instance_placed value new_hash new_size)
    new of past has read =
        let l : value.highest + 1 ≤ drawn = has (value.highest + 1) (omega (arith, less)) refl in
        absurd (omega (arith, l, few))

pub compared_placed : (value : InstancesValue) (new_hash hash : Hash) (new_size size : ℕ) (octets : List ℕ) (after : Option InstId) (drawn : ℕ) (before now : Option History) → value.highest < 4294967294 → drawn ≤ value.highest
    → Between (λ a b. All (λ k. reading (b (instance_file k.row)) ≡ reading (a (instance_file k.row))) value.known) before now → IsUnlikeCompared value.store hash size octets after drawn value.known before → IsUnlikeCompared value.store hash size octets after drawn (after_placing new_hash new_size value).known now
compared_placed value new_hash hash new_size size octets after drawn before now less few same compared =
    between-on (ReadAlike value.known) (λ disk. All (Compared value.store hash size octets after drawn disk) value.known) (λ disk. All (Compared value.store hash size octets after drawn disk) (with_instance (instance_placed value new_hash new_size) value.known)) before now
    (λ a b s u. compared_on value new_hash hash new_size size octets after drawn a b less few s u) same compared
