-- A record that no mailbox lists and that isn't the delivery's own stays unlisted, with as much due.
use Rattle.mail_save.proofs.Common.{◌≡◌, ◌≤◌, ◌<◌, ◌+◌, ◌-◌, ◌==◌, ℕ, Bool, true, false, cond, List, [], ◌∷◌, ◌++◌, Option, Some, refl, sym, ◌∙◌, ap, subst, arith, bytes_eq, eq-eqb, ne_eqb, All-contains, sum_by-cons, History, MapUid, Uid, bit, meanings_by, BoxMeaning, LogRow, box_applied, HasRecord}
use Rattle.mail_save.proofs.Common.{MapBox, MapMeaning, MapRecord, record_at, due_at, IsStore, StoreValue, indexes_of, Claims, Due, LeavesUnlisted, one_due, entry_added, AddsStored, LowersRecord, StoresPlaced, Added, SavedAt, InstRow}
use Rattle.std.specs.Prelude.{◌||◌, count_by}
use Rattle.std.proofs.lemmas.Bool.{eqb-true}
use Rattle.std.proofs.lemmas.List.Sums.{sum_by-append}
use Rattle.model_meaning.proofs.AppliedLemmas.{rows_by_added}
use Rattle.model_meaning.proofs.MapSoundLemmas.{map_sound}
use Rattle.model_meaning.specs.MapMeaning.{record_of}
use Rattle.model_meaning.specs.Sound.{IsSoundMap, IsSoundRecord}
use Rattle.model_octets.proofs.SearchLemmas.{found_is, found_one, text_is, text_yes}
use Rattle.model_store.specs.Listing.{refs_in}

-- the mailboxes stay, and what is due of such a record
pub same_unlisted : {D : Type 0} → (mine : Claims) (old new : StoreValue D) → indexes_of new.boxes ≡ indexes_of old.boxes → ((uid : ℕ) → mine (Due uid) ≡ 0 → (rec : MapRecord) → record_at old.map uid ≡ Some rec → due_at uid new ≡ due_at uid old) → LeavesUnlisted mine old new
same_unlisted mine old new indexes dues = λ uid rec none found listed. (ap (λ (ms : List BoxMeaning). refs_in ms rec.guid) indexes ∙ listed, dues uid none rec found)

-- ---- a record is stored

pub is_sound : {D : Type 0} → (history : Option History) (store : StoreValue D) → IsStore history store → IsSoundMap store.map
is_sound history store s = subst IsSoundMap (sym s.map_is) (map_sound store.map.store s.entries s.good.map_entries.1 s.good.map_entries.0)

no_more : (t : Bool) (n : ℕ) → t ≡ false → n + cond t 1 0 ≡ n
no_more true n e = absurd (let k : true ≡ false = e in cc k)
no_more false n e = omega arith

pub stored_unlisted : {D : Type 0} → (mine : Claims) (at : SavedAt) (rows : List InstRow) (time size : ℕ) (added : Added) (old left : StoreValue D) (before : Option History) → IsStore before old → StoresPlaced at rows time size added old left → LeavesUnlisted mine old left
stored_unlisted mine at rows time size added old left before is made =
    same_unlisted mine old left (ap (λ (v : StoreValue _). indexes_of v.boxes) made.same) (λ uid none rec found.
    made.due uid
    ∙ no_more (added.map_uid.0 == uid) (due_at uid old) (ne_eqb added.map_uid.0 uid (λ e.
    let f = found_one (λ (r : MapRecord). r.uid == uid) old.map.records rec found in
    let low : rec.uid ≤ old.map.highest.map = (All-contains (IsSoundRecord old.map.highest.map) old.map.records rec (is_sound before old is).records f.0).below in
    let same : rec.uid ≡ uid = eqb-true rec.uid uid f.1 in
    let new : old.map.highest.map < added.map_uid.0 = made.fits.uid_new in
    omega (arith, low, same, new, e))))

-- ---- its message is added, or its count is lowered

unlowered : (t : Bool) (n : ℕ) → bit t ≡ 0 → n - bit (t || false) ≡ n
unlowered true n e = absurd (let k : 1 ≡ 0 = e in omega (arith, k))
unlowered false n e = omega arith

pub lowered_unlisted : {D : Type 0} → (mine : Claims) (uid : MapUid) (old new : StoreValue D) → ((u : ℕ) → mine (Due u) ≡ one_due uid.0 u) → LowersRecord uid old new → LeavesUnlisted mine old new
lowered_unlisted mine uid old new own l = same_unlisted mine old new (ap (λ (v : StoreValue _). indexes_of v.boxes) l.same) (λ u none rec found. l.due u ∙ unlowered (uid.0 == u) (due_at u old) (sym (own u) ∙ none))

abbrev has_guid : List ℕ → LogRow → Bool
has_guid guid row = bytes_eq row.guid guid

-- no mailbox lists more messages of another GUID
rows_more : (guid : List ℕ) (uid : Uid) (added : Added) (m : BoxMeaning) → bytes_eq added.guid.0 guid ≡ false → count_by (has_guid guid) (box_applied (entry_added uid added) m).rows ≡ count_by (has_guid guid) m.rows
rows_more guid uid added m other =
    let new : LogRow = record { uid = uid.0; flags = 0; time = added.time; size = added.size; map_uid = added.map_uid.0; guid = added.guid.0; words = [] } in
    let a : count_by (has_guid guid) (box_applied (entry_added uid added) m).rows ≡ count_by (has_guid guid) (m.rows ++ new ∷ []) = ap (λ (rows : List LogRow). count_by (has_guid guid) rows) (rows_by_added uid 0 added.time added.size added.map_uid added.guid [] m.rows) in
    let b : count_by (has_guid guid) (m.rows ++ new ∷ []) ≡ count_by (has_guid guid) m.rows + count_by (has_guid guid) (new ∷ []) = sum_by-append (λ (x : LogRow). cond (has_guid guid x) 1 0) m.rows (new ∷ []) in
    let c : count_by (has_guid guid) (new ∷ []) ≡ 0 = sum_by-cons (λ (x : LogRow). cond (has_guid guid x) 1 0) new [] ∙ ap (λ (t : Bool). cond t 1 0 + count_by (has_guid guid) []) other in
    omega (arith, a, b, c)

refs_added : (guid : List ℕ) (number : ℕ) (uid : Uid) (added : Added) (boxes : List MapBox) (meanings : List BoxMeaning) → bytes_eq added.guid.0 guid ≡ false → refs_in (meanings_by number (entry_added uid added) boxes meanings) guid ≡ refs_in meanings guid
refs_added guid number uid added [] [] other = refl
refs_added guid number uid added [] (m ∷ ms) other = refl
refs_added guid number uid added (b ∷ bs) [] other = refl
refs_added guid number uid added (b ∷ bs) (m ∷ ms) other = by_test (b.number == number) (refs_added guid number uid added bs ms other)
  where
    split : (x : BoxMeaning) (xs : List BoxMeaning) → refs_in (x ∷ xs) guid ≡ count_by (has_guid guid) x.rows + refs_in xs guid
    split x xs = sum_by-cons (λ (y : BoxMeaning). count_by (has_guid guid) y.rows) x xs

    by_test : (t : Bool) → refs_in (meanings_by number (entry_added uid added) bs ms) guid ≡ refs_in ms guid → refs_in (cond t (box_applied (entry_added uid added) m ∷ ms) (m ∷ meanings_by number (entry_added uid added) bs ms)) guid ≡ refs_in (m ∷ ms) guid
    by_test true rest = split (box_applied (entry_added uid added) m) ms ∙ (ap (λ (n : ℕ). n + refs_in ms guid) (rows_more guid uid added m other) ∙ sym (split m ms))
    by_test false rest = split m (meanings_by number (entry_added uid added) bs ms) ∙ (ap (λ (n : ℕ). count_by (has_guid guid) m.rows + n) rest ∙ sym (split m ms))

-- records with one GUID are one
by_guid : (m : MapMeaning) (uid : ℕ) (rec : MapRecord) (guid : List ℕ) → IsSoundMap m → record_at m uid ≡ Some rec → rec.guid ≡ guid → record_of m guid ≡ Some rec
by_guid m uid rec guid s found e =
    found_is (λ (r : MapRecord). bytes_eq r.guid guid) m.records rec (found_one (λ (r : MapRecord). r.uid == uid) m.records rec found).0 (text_yes rec.guid guid e)
    (λ i j d lt le p q. s.guids i j d lt le (text_is _ guid p ∙ sym (text_is _ guid q)))

one_record : (a b : MapRecord) → Some a ≡ Some b → a ≡ b
one_record a b e = cc e

one_uid : (m : MapMeaning) (held uid : ℕ) (own rec : MapRecord) → IsSoundMap m → record_at m held ≡ Some own → record_at m uid ≡ Some rec → own.guid ≡ rec.guid → held ≡ uid
one_uid m held uid own rec s mine found same =
    let e : own ≡ rec = one_record own rec (sym (by_guid m held own rec.guid s mine same) ∙ by_guid m uid rec rec.guid s found refl) in
    sym (eqb-true own.uid held (found_one (λ (r : MapRecord). r.uid == held) m.records own mine).1) ∙ (ap (λ (r : MapRecord). r.uid) e ∙ eqb-true rec.uid uid (found_one (λ (r : MapRecord). r.uid == uid) m.records rec found).1)

pub added_unlisted : {D : Type 0} → (mine : Claims) (name : List ℕ) (added : Added) (uid : Uid) (old new : StoreValue D) (before : Option History) → ((u : ℕ) → mine (Due u) ≡ one_due added.map_uid.0 u) → IsStore before old → HasRecord old.map added.map_uid.0 (λ row. row.guid ≡ added.guid.0) → AddsStored name added uid old new
    → LeavesUnlisted mine old new
added_unlisted mine name added uid old new before own is at a = λ u rec none found listed. (
  ap (λ (ms : List BoxMeaning). refs_in ms rec.guid) a.taken ∙ (refs_added rec.guid a.number.0 uid added old.map.boxes (indexes_of old.boxes) (other u rec none found (bytes_eq added.guid.0 rec.guid) refl) ∙ listed),
  a.due a.room.mailbox u a.room.named ∙ unlowered (added.map_uid.0 == u) (due_at u old) (sym (own u) ∙ none),
)
  where
    other : (u : ℕ) (rec : MapRecord) → mine (Due u) ≡ 0 → record_at old.map u ≡ Some rec → (t : Bool) → bytes_eq added.guid.0 rec.guid ≡ t → t ≡ false
    other u rec none found false e = refl
    other u rec none found true e =
        let same : added.map_uid.0 ≡ u = one_uid old.map added.map_uid.0 u at.0 rec (is_sound before old is) at.1 found (at.2 ∙ text_is added.guid.0 rec.guid e) in
        let one : one_due added.map_uid.0 u ≡ 1 = ap (λ (b : Bool). cond b 1 0) (eq-eqb added.map_uid.0 u same) in
        let zero : one_due added.map_uid.0 u ≡ 0 = sym (own u) ∙ none in
        absurd (omega (arith, one, zero))
