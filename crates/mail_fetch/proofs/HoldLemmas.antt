-- Instances that are held, one after another.
use Rattle.mail_fetch.proofs.Common.{filter, option_map, bytes_eq, ◌≡◌, ◌<◌, ◌≤◌, ◌+◌, ◌-◌, ℕ, Bool, true, false, cond, List, [], ◌∷◌, length, drop, get_or, Option, Some, None, All, refl, sym, ◌∙◌, ap, subst, arith, sum_by-cons, InstRow, InstId, found_let_go, holders_in, KnownInstance, MovesHolds}
use Rattle.mail_fetch.proofs.Common.{holds_of, IsKnownRow, StoreValue, held_for}
use Rattle.std.specs.Prelude.{IsSome, ◌&&◌, map}
use Rattle.std.proofs.Math.ListN.{drop_of_length-le}
use Rattle.std.proofs.lemmas.List.{drop_more, length-map}
use Rattle.std.proofs.lemmas.List.Sums.{count_by-le-length}
use Rattle.model_octets.proofs.SearchLemmas.{text_yes}
use Rattle.sis_store.specs.Instances.{InstancesValue, IsInstanceKnown, has_id, instance_in, is_id_past, is_of_kind, with_holders}
use Rattle.store_core.proofs.KnownInstanceLemmas.{row_held}
use Rattle.task_claims.specs.Leaving.{PlacesFew}

-- the instance of a known row
known_of_row : (known : List KnownInstance) (row : InstRow) → IsKnownRow known row → IsInstanceKnown row.id known
known_of_row known row is = by (instance_in row.id known) is
  where
    by : (o : Option KnownInstance) → option_map (λ k. k.row) o ≡ Some row → IsSome o
    by None e = absurd (let k : None ≡ Some row = e in cc k)
    by (Some k) e = refl

pub next_is_known : {D : Type 0} → (rows : List InstRow) (i : ℕ) (d : InstRow) (old store : StoreValue D) → i < length rows → All (IsKnownRow old.instances.known) rows → ((row : InstRow) → IsKnownRow old.instances.known row → IsKnownRow store.instances.known row) → IsInstanceKnown (get_or rows i d).id store.instances.known
next_is_known rows i d old store lt known keeps = known_of_row store.instances.known (get_or rows i d) (keeps (get_or rows i d) (known i d lt))

-- a row's instance is held once for the row
once : (row : InstRow) (rows : List InstRow) → 1 ≤ holds_of (row ∷ rows) row.id
once row rows =
    let c = sum_by-cons (λ (r : InstRow). cond (bytes_eq r.id.0 row.id.0) 1 0) row rows in
    let one : ◌≡◌ {A = ℕ} (cond (bytes_eq row.id.0 row.id.0) 1 0) 1 = ap (λ (b : Bool). cond b 1 0) (text_yes row.id.0 row.id.0 refl) in
    at_least (holds_of (row ∷ rows) row.id) (cond (bytes_eq row.id.0 row.id.0) 1 0) (holds_of rows row.id) c one
  where
    at_least : (all one rest : ℕ) → all ≡ one + rest → one ≡ 1 → 1 ≤ all
    at_least all one rest sum is = omega (arith, sum, is)

pub holds_few : (rows : List InstRow) (id : InstId) → holds_of rows id ≤ length rows
holds_few rows id = count_by-le-length (λ (row : InstRow). bytes_eq row.id.0 id.0) rows

fewer : (now before mine left long : ℕ) → now + left ≡ before + mine → 1 ≤ left → mine ≤ long → long ≤ 65535 → before + 65535 ≤ 4294967295 → now < 4294967295
fewer now before mine left long moved some few most room = omega (arith, moved, some, few, most, room)

pub next_has_room : {D : Type 0} → (rows : List InstRow) (i : ℕ) (d : InstRow) (old store : StoreValue D) → i < length rows → length rows ≤ 65535 → ((id : InstId) → holders_in id old.instances.known + 65535 ≤ 4294967295) → MovesHolds (holds_of (drop i rows)) (holds_of rows) old store
    → holders_in (get_or rows i d).id store.instances.known < 4294967295
next_has_room rows i d old store lt most room moves =
    let row : InstRow = get_or rows i d in
    let some : 1 ≤ holds_of (drop i rows) row.id = subst (λ (rs : List InstRow). 1 ≤ holds_of rs row.id) (sym (drop_more rows i d lt)) (once row (drop (i + 1) rows)) in
    fewer (holders_in row.id store.instances.known) (holders_in row.id old.instances.known) (holds_of rows row.id) (holds_of (drop i rows) row.id) (length rows) (moves row.id) some (holds_few rows row.id) most (room row.id)

pub holds_more : {D : Type 0} → (rows : List InstRow) (i : ℕ) (d : InstRow) (old store new : StoreValue D) → i < length rows → MovesHolds (holds_of (drop i rows)) (holds_of rows) old store → MovesHolds (holds_of (drop (i + 1) rows)) (holds_of (get_or rows i d ∷ drop (i + 1) rows)) store new
    → MovesHolds (holds_of (drop (i + 1) rows)) (holds_of rows) old new
holds_more rows i d old store new lt moves more id =
    more id ∙ ap (λ (rs : List InstRow). holders_in id store.instances.known + holds_of rs id) (sym (drop_more rows i d lt)) ∙ moves id

pub holds_all : {D : Type 0} → (rows : List InstRow) (i : ℕ) (old store : StoreValue D) → length rows ≤ i → MovesHolds (holds_of (drop i rows)) (holds_of rows) old store → MovesHolds (λ id. 0) (holds_of rows) old store
holds_all rows i old store past moves id = ap (λ (rs : List InstRow). holders_in id store.instances.known + holds_of rs id) (sym (drop_of_length-le rows past)) ∙ moves id

-- what is known with one more held, and where no row is left
abbrev hold_one : InstRow → List KnownInstance → List KnownInstance
hold_one row known = with_holders row.id (holders_in row.id known + 1) known

pub held_more : {D : Type 0} → (rows : List InstRow) (i : ℕ) (d : InstRow) (store new : StoreValue D) (all : List KnownInstance) → i < length rows → held_for (drop i rows) store.instances.known ≡ all
    → new ≡ record store { instances = record store.instances { known = hold_one (get_or rows i d) store.instances.known } } → held_for (drop (i + 1) rows) new.instances.known ≡ all
held_more rows i d store new all lt left same =
    ap (λ (s : StoreValue _). held_for (drop (i + 1) rows) s.instances.known) same
    ∙ sym (ap (λ (rs : List InstRow). held_for rs store.instances.known) (drop_more rows i d lt)) ∙ left

pub held_all : {D : Type 0} → (rows : List InstRow) (i : ℕ) (old store : StoreValue D) → length rows ≤ i → held_for (drop i rows) store.instances.known ≡ held_for rows old.instances.known
    → store ≡ record old { instances = record old.instances { known = store.instances.known } } → store ≡ record old { instances = record old.instances { known = held_for rows old.instances.known } }
held_all rows i old store past left same =
    let known : store.instances.known ≡ held_for rows old.instances.known = sym (ap (λ (rs : List InstRow). held_for rs store.instances.known) (drop_of_length-le rows past)) ∙ left in
    same ∙ ap (λ (ks : List KnownInstance). record old { instances = record old.instances { known = ks } }) known

-- ---- the rows that are known

pub rows_held : (rows : List InstRow) (id : InstId) (known : List KnownInstance) → option_map (λ k. k.row) (instance_in id (held_for rows known)) ≡ option_map (λ k. k.row) (instance_in id known)
rows_held [] id known = refl
rows_held (row ∷ rows) id known = rows_held rows id (hold_one row known) ∙ row_held row.id id (holders_in row.id known + 1) known

pub rows_let_go : (rows : List InstRow) (id : InstId) (known : List KnownInstance) → option_map (λ k. k.row) (instance_in id (found_let_go rows known)) ≡ option_map (λ k. k.row) (instance_in id known)
rows_let_go [] id known = refl
rows_let_go (row ∷ rows) id known = rows_let_go rows id (with_holders row.id (holders_in row.id known - 1) known) ∙ row_held row.id id (holders_in row.id known - 1) known

-- ---- the instances stay the same

same_rows : (id : InstId) (holders : ℕ) (known : List KnownInstance) → map (λ k. k.row) (with_holders id holders known) ≡ map (λ k. k.row) known
same_rows id holders [] = refl
same_rows id holders (k ∷ ks) = by_test (has_id id k) (same_rows id holders ks)
  where
    by_test : (t : Bool) → map (λ k. k.row) (with_holders id holders ks) ≡ map (λ k. k.row) ks → map (λ k. k.row) (cond t (record k { holders = holders }) k ∷ with_holders id holders ks) ≡ map (λ k. k.row) (k ∷ ks)
    by_test true rest = ap (λ (rows : List InstRow). k.row ∷ rows) rest
    by_test false rest = ap (λ (rows : List InstRow). k.row ∷ rows) rest

pub held_rows : (rows : List InstRow) (known : List KnownInstance) → map (λ k. k.row) (held_for rows known) ≡ map (λ k. k.row) known
held_rows [] known = refl
held_rows (row ∷ rows) known = held_rows rows (with_holders row.id (holders_in row.id known + 1) known) ∙ same_rows row.id (holders_in row.id known + 1) known

pub let_go_rows : (rows : List InstRow) (known : List KnownInstance) → map (λ k. k.row) (found_let_go rows known) ≡ map (λ k. k.row) known
let_go_rows [] known = refl
let_go_rows (row ∷ rows) known = let_go_rows rows (with_holders row.id (holders_in row.id known - 1) known) ∙ same_rows row.id (holders_in row.id known - 1) known

rows_passed : (p : InstRow → Bool) (known : List KnownInstance) → length (filter (λ k. p k.row) known) ≡ length (filter p (map (λ k. k.row) known))
rows_passed p [] = refl
rows_passed p (k ∷ ks) = by_test (p k.row) (rows_passed p ks)
  where
    by_test : (t : Bool) → length (filter (λ (i : KnownInstance). p i.row) ks) ≡ length (filter p (map (λ (i : KnownInstance). i.row) ks)) → length (cond t (k ∷ filter (λ (i : KnownInstance). p i.row) ks) (filter (λ (i : KnownInstance). p i.row) ks)) ≡ length (cond t (k.row ∷ filter p (map (λ (i : KnownInstance). i.row) ks)) (filter p (map (λ (i : KnownInstance). i.row) ks)))
    by_test true rest = let a : length (k ∷ filter (λ (i : KnownInstance). p i.row) ks) ≡ length (filter (λ (i : KnownInstance). p i.row) ks) + 1 = omega arith in let b : length (k.row ∷ filter p (map (λ (i : KnownInstance). i.row) ks)) ≡ length (filter p (map (λ (i : KnownInstance). i.row) ks)) + 1 = omega arith in a ∙ (ap (λ (n : ℕ). n + 1) rest ∙ sym b)
    by_test false rest = rest

-- No instance was placed, so whatever task counts on them has no more to do.
pub none_placed : (old : InstancesValue) (known : List KnownInstance) → map (λ k. k.row) known ≡ map (λ k. k.row) old.known → PlacesFew old (record old { known = known })
none_placed old known same = record {
  drawn = omega arith;
  few =
      let a = length-map known (λ (k : KnownInstance). k.row) in
      let b = length-map old.known (λ (k : KnownInstance). k.row) in
      let c = ap (λ (rows : List InstRow). length rows) same in
      omega (arith, a, b, c);
  candidates = λ still hash size after.
      let p : InstRow → Bool = λ row. is_of_kind hash size row && is_id_past after row.id in
      let a = rows_passed p known in
      let b = rows_passed p old.known in
      let c = ap (λ (rows : List InstRow). length (filter p rows)) same in
      omega (arith, a, b, c);
  last = λ differs. absurd (differs refl);
}
