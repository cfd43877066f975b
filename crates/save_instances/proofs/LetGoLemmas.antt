-- Instances that are let go, one after another.
use Rattle.std.specs.Str.{bytes_eq}
use Rattle.std.proofs.Common.{◌≡◌, ◌<◌, ◌≤◌, ◌+◌, ◌-◌, ℕ, Bool, cond, List, ◌∷◌, length, drop, get_or, refl, sym, ◌∙◌, ap, subst, arith}
use Rattle.std.proofs.Math.ListN.{drop_of_length-le}
use Rattle.std.proofs.lemmas.List.{drop_more}
use Rattle.std.proofs.lemmas.List.Sums.{sum_by-cons}
use Rattle.mdbox_base.specs.declared.entries.InstRow.{InstRow}
use Rattle.model_octets.proofs.SearchLemmas.{text_yes}
use Rattle.sis_store.specs.Instances.{holders_in, with_holders}
use Rattle.sis_store.specs.declared.instance.KnownInstance.{KnownInstance}
use Rattle.store_core.specs.Keeping.{MovesHolds, holds_of}
use Rattle.store_core.specs.Value.{StoreValue}
use Rattle.save_instances.specs.Attaching.{AreHeld, found_let_go}

-- the first of them is held
held_once : (row : InstRow) (rows : List InstRow) → 1 ≤ holds_of (row ∷ rows) row.id
held_once row rows =
    let c = sum_by-cons (λ (r : InstRow). cond (bytes_eq r.id.0 row.id.0) 1 0) row rows in
    let one : ◌≡◌ {A = ℕ} (cond (bytes_eq row.id.0 row.id.0) 1 0) 1 = ap (λ (b : Bool). cond b 1 0) (text_yes row.id.0 row.id.0 refl) in
    at_least (holds_of (row ∷ rows) row.id) (cond (bytes_eq row.id.0 row.id.0) 1 0) (holds_of rows row.id) c one
  where
    at_least : (all one rest : ℕ) → all ≡ one + rest → one ≡ 1 → 1 ≤ all
    at_least all one rest sum is = omega (arith, sum, is)

some_left : (now before mine left : ℕ) → mine ≤ before → now + mine ≡ before + left → 1 ≤ left → 1 ≤ now
some_left now before mine left le sum some = omega (arith, le, sum, some)

pub next_is_held : {D : Type 0} → (found : List InstRow) (i : ℕ) (d : InstRow) (old store : StoreValue D) → i < length found → AreHeld found old.instances.known → MovesHolds (holds_of found) (holds_of (drop i found)) old store → 1 ≤ holders_in (get_or found i d).id store.instances.known
next_is_held found i d old store lt held moves =
    let row : InstRow = get_or found i d in
    let some : 1 ≤ holds_of (drop i found) row.id = subst (λ (rows : List InstRow). 1 ≤ holds_of rows row.id) (sym (drop_more found i d lt)) (held_once row (drop (i + 1) found)) in
    some_left (holders_in row.id store.instances.known) (holders_in row.id old.instances.known) (holds_of found row.id) (holds_of (drop i found) row.id) (held row.id) (moves row.id) some

two : (last now before mine left rest : ℕ) → now + mine ≡ before + left → last + left ≡ now + rest → last + mine ≡ before + rest
two last now before mine left rest a b = omega (arith, a, b)

pub moves_more : {D : Type 0} → (found : List InstRow) (i : ℕ) (d : InstRow) (old store new : StoreValue D) → i < length found → MovesHolds (holds_of found) (holds_of (drop i found)) old store → MovesHolds (holds_of (get_or found i d ∷ drop (i + 1) found)) (holds_of (drop (i + 1) found)) store new
    → MovesHolds (holds_of found) (holds_of (drop (i + 1) found)) old new
moves_more found i d old store new lt moves more id =
    two (holders_in id new.instances.known) (holders_in id store.instances.known) (holders_in id old.instances.known) (holds_of found id) (holds_of (drop i found) id) (holds_of (drop (i + 1) found) id) (moves id)
    (subst (λ (rows : List InstRow). holders_in id new.instances.known + holds_of rows id ≡ holders_in id store.instances.known + holds_of (drop (i + 1) found) id) (sym (drop_more found i d lt)) (more id))

pub moves_all : {D : Type 0} → (found : List InstRow) (i : ℕ) (old store : StoreValue D) → length found ≤ i → MovesHolds (holds_of found) (holds_of (drop i found)) old store → MovesHolds (holds_of found) (λ id. 0) old store
moves_all found i old store past moves id =
    moves id ∙ ap (λ (n : ℕ). holders_in id old.instances.known + n) (ap (λ (rows : List InstRow). holds_of rows id) (drop_of_length-le found past))

-- no more of the store has changed than how many hold instances
pub same_more : {D : Type 0} → (old store new : StoreValue D) (known : List KnownInstance) → store ≡ record old { instances = record old.instances { known = store.instances.known } } → new ≡ record store { instances = record store.instances { known = known } }
    → new ≡ record old { instances = record old.instances { known = new.instances.known } }
same_more old store new known first second =
    let e : new ≡ record old { instances = record old.instances { known = known } } = second ∙ ap (λ (s : StoreValue _). record s { instances = record s.instances { known = known } }) first in
    e ∙ ap (λ (ks : List KnownInstance). record old { instances = record old.instances { known = ks } }) (sym (ap (λ (s : StoreValue _). s.instances.known) e))

-- what is known with one more let go, and where no row is left
abbrev pub let_go_one : InstRow → List KnownInstance → List KnownInstance
let_go_one row known = with_holders row.id (holders_in row.id known - 1) known

pub known_more : {D : Type 0} → (found : List InstRow) (i : ℕ) (d : InstRow) (store new : StoreValue D) (all : List KnownInstance) → i < length found → found_let_go (drop i found) store.instances.known ≡ all
    → new ≡ record store { instances = record store.instances { known = let_go_one (get_or found i d) store.instances.known } } → found_let_go (drop (i + 1) found) new.instances.known ≡ all
known_more found i d store new all lt left same =
    ap (λ (s : StoreValue _). found_let_go (drop (i + 1) found) s.instances.known) same
    ∙ sym (ap (λ (rows : List InstRow). found_let_go rows store.instances.known) (drop_more found i d lt)) ∙ left

pub known_all : {D : Type 0} → (found : List InstRow) (i : ℕ) (old store : StoreValue D) → length found ≤ i → found_let_go (drop i found) store.instances.known ≡ found_let_go found old.instances.known
    → store ≡ record old { instances = record old.instances { known = store.instances.known } } → store ≡ record old { instances = record old.instances { known = found_let_go found old.instances.known } }
known_all found i old store past left same =
    let known : store.instances.known ≡ found_let_go found old.instances.known = sym (ap (λ (rows : List InstRow). found_let_go rows store.instances.known) (drop_of_length-le found past)) ∙ left in
    same ∙ ap (λ (ks : List KnownInstance). record old { instances = record old.instances { known = ks } }) known
