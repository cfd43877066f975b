-- Which instances a store knows, as an event sees it: also after some were held, let go, or placed.
use Rattle.mail_save.proofs.Common.{◌≡◌, ◌≤◌, ◌<◌, ◌+◌, ◌-◌, ◌==◌, ◌&&◌, ◌||◌, ℕ, Bool, true, false, not, List, [], ◌∷◌, ◌++◌, ◌⊎◌, length, take, drop, Option, Some, None, refl, sym, ◌∙◌, ap, subst, append_assoc, append-nil, arith, inl, inr, Contains, nat_le, if◌then◌else◌, w32, to_be_bytes}
use Rattle.mail_save.proofs.Common.{option_map, option_map_or, bytes_eq, drop-append_seam, common_steps, length-append, All-contains, All-weaker, bytes_eq-Decides, Detached, InstRow, Hash, InstId, is_same_instance, is_own, number_at, AttachingValue, found_let_go, next_attachment, next_candidate}
use Rattle.mail_save.proofs.Common.{part_row, AreInstances, InstancesValue, after_placing, holders_in, next_id, KnownInstance, knows_instance, AreInstancesKept, StoreValue}
use Rattle.std.specs.Prelude.{cond}
use Rattle.std.specs.Int.{from_be_bytes}
use Rattle.std.proofs.Math.Seq.{take-append_seam}
use Rattle.std.proofs.lemmas.Bool.Decides.{nat_tests}
use Rattle.std.proofs.lemmas.List.Elements.{All-contains_itself}
use Rattle.std.proofs.lemmas.Nat.{from_be_bytes-to_be_bytes_4}
use Rattle.mdbox_base.specs.declared.ids.StoreId.{StoreId}
use Rattle.model_meaning.specs.MapMeaning.{instance_number, own_number}
use Rattle.save_instances.specs.Attaching.{candidate_for, candidate_held, compared_to}
use Rattle.sis_store.specs.Instances.{candidate_in, instance_in, instance_placed, numbered_id, with_holders, with_instance}
use Rattle.sis_store.proofs.CandidateLemmas.{candidate_row}
use Rattle.sis_store.proofs.IdLemmas.{all-with, instance-in, same_id}
use Rattle.sis_store.proofs.KeysLemmas.{found-among, kept-placed}
use Rattle.store_core.proofs.KnownInstanceLemmas.{row_held}
use Rattle.store_core.proofs.PlacedInstanceLemmas.{new_known, next_is_new, still_known}
use Rattle.store_core.specs.Knows.{may_be_gone}

-- ---- known ones

abbrev pub knows_in : List KnownInstance → InstRow → Bool
knows_in known row = option_map_or (λ k. bytes_eq k.row.hash.0 row.hash.0) (instance_in row.id known) false

-- it is known by the row alone
by_row : (row : InstRow) (a b : Option KnownInstance) → option_map (λ k. k.row) a ≡ option_map (λ k. k.row) b → option_map_or (λ (k : KnownInstance). bytes_eq k.row.hash.0 row.hash.0) a false ≡ option_map_or (λ (k : KnownInstance). bytes_eq k.row.hash.0 row.hash.0) b false
by_row row a b same = as_row a ∙ (ap (λ (o : Option InstRow). option_map_or (λ (r : InstRow). bytes_eq r.hash.0 row.hash.0) o false) same ∙ sym (as_row b))
  where
    as_row : (o : Option KnownInstance) → option_map_or (λ (k : KnownInstance). bytes_eq k.row.hash.0 row.hash.0) o false ≡ option_map_or (λ (r : InstRow). bytes_eq r.hash.0 row.hash.0) (option_map (λ (k : KnownInstance). k.row) o) false
    as_row None = refl
    as_row (Some k) = refl

-- ---- held, or let go

pub knows_held : (row : InstRow) (id : InstId) (holders : ℕ) (known : List KnownInstance) → knows_in (with_holders id holders known) row ≡ knows_in known row
knows_held row id holders known = by_row row (instance_in row.id (with_holders id holders known)) (instance_in row.id known) (row_held id row.id holders known)

pub knows_let_go : (row : InstRow) (found : List InstRow) (known : List KnownInstance) → knows_in (found_let_go found known) row ≡ knows_in known row
knows_let_go row [] known = refl
knows_let_go row (f ∷ found) known = knows_let_go row found (with_holders f.id (holders_in f.id known - 1) known) ∙ knows_held row f.id (holders_in f.id known - 1) known

pub knows_compared : (row candidate : InstRow) (alike : Bool) (known : List KnownInstance) → knows_in (cond alike (candidate_held candidate known) known) row ≡ knows_in known row
knows_compared row candidate true known = knows_held row candidate.id (holders_in candidate.id known + 1) known
knows_compared row candidate false known = refl

-- ---- placed

bytes_same : (a : List ℕ) → bytes_eq a a ≡ true
bytes_same a = (bytes_eq-Decides a a).1 refl

-- those that were known, and the new one
placed_among : (known : List KnownInstance) (new k : KnownInstance) → Contains (with_instance new known) k → (k ≡ new) ⊎ Contains known k
placed_among known new k among = All-contains (λ (x : KnownInstance). (x ≡ new) ⊎ Contains known x) (with_instance new known) k
    (all-with (λ x. (x ≡ new) ⊎ Contains known x) known new (All-weaker (λ (x : KnownInstance). Contains known x) (λ (x : KnownInstance). (x ≡ new) ⊎ Contains known x) (λ x c. inr c) known (All-contains_itself known)) (inl refl)) among

both_same : (a b : Bool) → a ≡ true → b ≡ true → (a && b) ≡ true
both_same a b x y = rw (x, y) refl

knows_placed : (value : InstancesValue) (hash : Hash) (size : ℕ) (row : InstRow) → AreInstances value → knows_in (after_placing hash size value).known row ≡ true
    → (knows_in value.known row ≡ true) ⊎ (is_same_instance row (instance_placed value hash size).row ≡ true)
knows_placed value hash size row are some = by_found (instance_in row.id (with_instance new value.known)) refl some
  where
    new : KnownInstance
    new = instance_placed value hash size

    by_found : (o : Option KnownInstance) → instance_in row.id (with_instance new value.known) ≡ o → option_map_or (λ (k : KnownInstance). bytes_eq k.row.hash.0 row.hash.0) o false ≡ true → (knows_in value.known row ≡ true) ⊎ (is_same_instance row new.row ≡ true)
    by_found None is e = absurd (let w : false ≡ true = e in cc w)
    by_found (Some k) is e =
        let a = found-among row.id (with_instance new value.known) k is in
        let same : k.row.hash.0 ≡ row.hash.0 = (bytes_eq-Decides k.row.hash.0 row.hash.0).0 e in
        elim (placed_among value.known new k a.0) [
          | inl is_new ↦
              let id : new.row.id ≡ row.id = ap (λ (x : KnownInstance). x.row.id) (sym is_new) ∙ a.1 in
              let hashed : new.row.hash.0 ≡ row.hash.0 = ap (λ (x : KnownInstance). x.row.hash.0) (sym is_new) ∙ same in
              inr (both_same (bytes_eq row.hash.0 new.row.hash.0) (bytes_eq row.id.0 new.row.id.0) ((bytes_eq-Decides row.hash.0 new.row.hash.0).1 (sym hashed)) ((bytes_eq-Decides row.id.0 new.row.id.0).1 (sym (ap (λ (i : InstId). i.0) id))))
          | inr before ↦
              let there : instance_in row.id value.known ≡ Some k = subst (λ (i : InstId). instance_in i value.known ≡ Some k) a.1 (instance-in value.known k are.rising before) in
              inl (ap (λ (o : Option KnownInstance). option_map_or (λ (x : KnownInstance). bytes_eq x.row.hash.0 row.hash.0) o false) there ∙ e)
        ]

-- what was known is known still
knows_still : (value : InstancesValue) (hash : Hash) (size : ℕ) (row : InstRow) → AreInstances value → value.highest < 4294967294 → AreInstances (after_placing hash size value) → knows_in value.known row ≡ true → knows_in (after_placing hash size value).known row ≡ true
knows_still value hash size row are less later some = by_found (instance_in row.id value.known) refl some
  where
    new : KnownInstance
    new = instance_placed value hash size

    by_found : (o : Option KnownInstance) → instance_in row.id value.known ≡ o → option_map_or (λ (k : KnownInstance). bytes_eq k.row.hash.0 row.hash.0) o false ≡ true → knows_in (with_instance new value.known) row ≡ true
    by_found None is e = absurd (let w : false ≡ true = e in cc w)
    by_found (Some k) is e =
        let a = found-among row.id value.known k is in
        let there : Contains (with_instance new value.known) k = still_known value.known new k a.0 (next_is_new value k are less a.0) in
        let found : instance_in row.id (with_instance new value.known) ≡ Some k = subst (λ (i : InstId). instance_in i (with_instance new value.known) ≡ Some k) a.1 (instance-in (with_instance new value.known) k later.rising there) in
        ap (λ (o : Option KnownInstance). option_map_or (λ (x : KnownInstance). bytes_eq x.row.hash.0 row.hash.0) o false) found ∙ e

both_parts : (a b : Bool) → (a && b) ≡ true → (a ≡ true) × (b ≡ true)
both_parts true b e = (refl, e)
both_parts false b e = absurd (let k : false ≡ true = e in cc k)

-- and so is the new one
knows_new : (value : InstancesValue) (hash : Hash) (size : ℕ) (row : InstRow) → AreInstances (after_placing hash size value) → is_same_instance row (instance_placed value hash size).row ≡ true → knows_in (after_placing hash size value).known row ≡ true
knows_new value hash size row later same =
    let new : KnownInstance = instance_placed value hash size in
    let both = both_parts (bytes_eq row.hash.0 new.row.hash.0) (bytes_eq row.id.0 new.row.id.0) same in
    let hashed : row.hash.0 ≡ new.row.hash.0 = (bytes_eq-Decides row.hash.0 new.row.hash.0).0 both.0 in
    let id : new.row.id ≡ row.id = same_id new.row.id row.id (sym ((bytes_eq-Decides row.id.0 new.row.id.0).0 both.1)) in
    let found : instance_in row.id (with_instance new value.known) ≡ Some new = subst (λ (i : InstId). instance_in i (with_instance new value.known) ≡ Some new) id (instance-in (with_instance new value.known) new later.rising (new_known value.known new)) in
    ap (λ (o : Option KnownInstance). option_map_or (λ (x : KnownInstance). bytes_eq x.row.hash.0 row.hash.0) o false) found ∙ (bytes_eq-Decides new.row.hash.0 row.hash.0).1 (sym hashed)

same_bool : (a b : Bool) → (a ≡ true → b ≡ true) → (b ≡ true → a ≡ true) → a ≡ b
same_bool true b f g = sym (f refl)
same_bool false true f g = g refl
same_bool false false f g = refl

pub knows_with : (value : InstancesValue) (hash : Hash) (size : ℕ) (row : InstRow) → AreInstances value → value.highest < 4294967294 → knows_in (after_placing hash size value).known row ≡ (knows_in value.known row || is_same_instance row (instance_placed value hash size).row)
knows_with value hash size row are less =
    same_bool (knows_in (after_placing hash size value).known row) (knows_in value.known row || is_same_instance row new.row) (λ e. either (knows_placed value hash size row are e)) (λ e. by_known (knows_in value.known row) refl e)
  where
    new : KnownInstance
    new = instance_placed value hash size

    later : AreInstances (after_placing hash size value)
    later = kept-placed value new are less refl

    or_true : (b : Bool) → (b || true) ≡ true
    or_true true = refl
    or_true false = refl

    either : (knows_in value.known row ≡ true) ⊎ (is_same_instance row new.row ≡ true) → (knows_in value.known row || is_same_instance row new.row) ≡ true
    either (inl e) = ap (λ (b : Bool). b || is_same_instance row new.row) e
    either (inr e) = ap (λ (b : Bool). knows_in value.known row || b) e ∙ or_true (knows_in value.known row)

    by_known : (b : Bool) → knows_in value.known row ≡ b → (b || is_same_instance row new.row) ≡ true → knows_in (after_placing hash size value).known row ≡ true
    by_known true known e = knows_still value hash size row are less later known
    by_known false known e = knows_new value hash size row later e

-- ---- candidates

-- a candidate is known
pub candidate_known : (value : AttachingValue) (instances : InstancesValue) (candidate : InstRow) → AreInstances instances → next_candidate value instances ≡ Some candidate → knows_in instances.known candidate ≡ true
candidate_known value instances candidate are is = by_part (next_attachment value) refl is
  where
    by_id : (part : Detached) (o : Option InstId) → candidate_in part.hash (length part.octets) (compared_to value instances) instances.known ≡ o → option_map (part_row part) o ≡ Some candidate → knows_in instances.known candidate ≡ true
    by_id part None e k = absurd (let w : None ≡ Some candidate = k in cc w)
    by_id part (Some id) e k =
        let same : part_row part id ≡ candidate = (let w : Some (part_row part id) ≡ Some candidate = k in cc w) in
        subst (λ (r : InstRow). knows_in instances.known r ≡ true) same
        (known_by (instance_in id instances.known) (part_row part id) (candidate_row part.hash (length part.octets) (compared_to value instances) id instances.known are.rising e))
      where
        known_by : (o : Option KnownInstance) (row : InstRow) → option_map (λ k. k.row) o ≡ Some row → option_map_or (λ (x : KnownInstance). bytes_eq x.row.hash.0 row.hash.0) o false ≡ true
        known_by None row w = absurd (let v : None ≡ Some row = w in cc v)
        known_by (Some x) row w = ap (λ (r : InstRow). bytes_eq r.hash.0 row.hash.0) (let v : Some x.row ≡ Some row = w in let u : x.row ≡ row = cc v in u) ∙ bytes_same row.hash.0

    by_part : (o : Option Detached) → next_attachment value ≡ o → candidate_for o (compared_to value instances) instances.known ≡ Some candidate → knows_in instances.known candidate ≡ true
    by_part None e k = absurd (let w : None ≡ Some candidate = k in cc w)
    by_part (Some part) e k = by_id part (candidate_in part.hash (length part.octets) (compared_to value instances) instances.known) refl k

-- ---- running numbers

seam_take : (a b : List ℕ) (n : ℕ) → length a ≡ n → take n (a ++ b) ≡ a
seam_take a b n long = subst (λ (k : ℕ). take k (a ++ b) ≡ a) long (take-append_seam a b)

seam_drop : (a b : List ℕ) (n : ℕ) → length a ≡ n → drop n (a ++ b) ≡ b
seam_drop a b n long = subst (λ (k : ℕ). drop k (a ++ b) ≡ b) long (drop-append_seam a b)

abbrev full : List ℕ
full = 255 ∷ 255 ∷ 255 ∷ 255 ∷ []

full_number : (number_at 0 full == 4294967295) ≡ true
full_number = refl

own_itself : (n : ℕ) → n ≤ 4294967294 → own_number true n ≡ n
own_itself n most = by (n == 4294967295) refl
  where
    by : (t : Bool) → (n == 4294967295) ≡ t → (if true && not t then n else 0) ≡ n
    by true e = absurd (let same : n ≡ 4294967295 = grind (arith, nat_tests, e) in omega (arith, same, most))
    by false e = refl

pub number_of_id : (store : StoreId) (n : ℕ) → length store.0 ≡ 8 → n ≤ 4294967294 → instance_number store.0 (numbered_id store n).0 ≡ n
number_of_id store n long most =
    let o : List ℕ = to_be_bytes w32 n in
    let own : is_own store.0 (store.0 ++ (full ++ o)) ≡ true = ap (λ (x : List ℕ). bytes_eq x store.0) (seam_take store.0 (full ++ o) 8 long) ∙ bytes_same store.0 in
    let eight : drop 8 (store.0 ++ (full ++ o)) ≡ full ++ o = seam_drop store.0 (full ++ o) 8 long in
    let form : (number_at 8 (store.0 ++ (full ++ o)) == 4294967295) ≡ true = ap (λ (x : List ℕ). from_be_bytes w32 (take 4 x) == 4294967295) eight ∙ full_number in
    let twelve : length (store.0 ++ full) ≡ 12 = length-append store.0 full ∙ ap (λ (k : ℕ). k + 4) long in
    let behind : drop 12 (store.0 ++ (full ++ o)) ≡ o = ap (drop 12) (sym (append_assoc store.0 full o)) ∙ seam_drop (store.0 ++ full) o 12 twelve in
    let number : number_at 12 (store.0 ++ (full ++ o)) ≡ n =
    ap (λ (x : List ℕ). from_be_bytes w32 (take 4 x)) (behind ∙ sym (append-nil o)) ∙ (ap (from_be_bytes w32) (seam_take o [] 4 refl) ∙ from_be_bytes-to_be_bytes_4 n (omega (arith, most))) in
    ap (λ (t : Bool). own_number (t && (number_at 8 (store.0 ++ (full ++ o)) == 4294967295)) (number_at 12 (store.0 ++ (full ++ o)))) own
    ∙ ap (λ (t : Bool). own_number (true && t) (number_at 12 (store.0 ++ (full ++ o)))) form
    ∙ ap (own_number true) number ∙ own_itself n most

-- the next one's
pub next_number : {D : Type 0} → (store : StoreValue D) → AreInstancesKept store.instances store.drawn store.map → length store.map.store ≡ 8 → store.drawn.instance < 4294967294 → instance_number store.map.store (next_id store.instances).0 ≡ store.drawn.instance + 1
next_number store kept long few =
    let high = kept.highest in
    subst (λ (s : List ℕ). instance_number s (next_id store.instances).0 ≡ store.drawn.instance + 1) kept.store
    (number_of_id store.instances.store (store.instances.highest + 1) (ap length kept.store ∙ long) (omega (arith, high, few)) ∙ omega (arith, high))

pub above : (a b : ℕ) → a ≡ b + 1 → nat_le a b ≡ false
above a b e = grind (arith, common_steps, e)

-- none of its number was removed
pub next_not_gone : {D : Type 0} → (store : StoreValue D) (row : InstRow) → AreInstancesKept store.instances store.drawn store.map → length store.map.store ≡ 8 → store.drawn.instance < 4294967294 → row.id.0 ≡ (next_id store.instances).0 → may_be_gone store row ≡ false
next_not_gone store row kept long few id = above (instance_number store.map.store row.id.0) store.drawn.instance (ap (instance_number store.map.store) id ∙ next_number store kept long few)

le_more : (n a b : ℕ) → a ≤ b → nat_le n a ≡ true → nat_le n b ≡ true
le_more n a b le e = grind (arith, common_steps, le, e)

-- what may have been removed may have been
pub gone_on : {D : Type 0} → (old new : StoreValue D) (row : InstRow) → new.map.store ≡ old.map.store → old.drawn.instance ≤ new.drawn.instance → may_be_gone old row ≡ true → may_be_gone new row ≡ true
gone_on old new row id more e = le_more (instance_number new.map.store row.id.0) old.drawn.instance new.drawn.instance more (ap (λ (s : List ℕ). nat_le (instance_number s row.id.0) old.drawn.instance) id ∙ e)

-- ---- before and after an event

-- The store may have removed no less, and knows the same instances.
pub record KnowsAlike {D : Type 0} (old new : StoreValue D) : Type 0 where
  pub drawn : old.drawn.instance ≤ new.drawn.instance
  pub known : (row : InstRow) → knows_instance new row ≡ knows_instance old row

pub knows_same : {D : Type 0} → (old new : StoreValue D) → new.instances ≡ old.instances → new.drawn.instance ≡ old.drawn.instance → KnowsAlike old new
knows_same old new same drawn = record {
  drawn = omega (arith, drawn);
  known = λ row. ap (λ (i : InstancesValue). knows_in i.known row) same;
}
