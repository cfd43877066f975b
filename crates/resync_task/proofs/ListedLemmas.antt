-- A record has as many listed messages as its GUID has references.
use Rattle.resync_task.proofs.Common.{◌≡◌, ◌==◌, ℕ, Bool, cond, List, [], ◌∷◌, Option, Some, refl, sym, ◌∙◌, ap, subst, arith, All, Contains, count_by, eqb-true, eq-eqb, All-head, All-tail, sum_by-cons, BoxEntry, LogRow, BoxMeaning, MapRecord, MapMeaning, record_at, IsSoundMap, map_sound, refs_in}
use Rattle.resync_task.proofs.Common.{listed_of}
use Rattle.std.specs.Prelude.{map}
use Rattle.std.specs.List.{AllByRecursion}
use Rattle.std.specs.Str.{bytes_eq}
use Rattle.mdbox_base.specs.declared.entries.MapEntry.{MapEntry}
use Rattle.model_octets.proofs.SearchLemmas.{found_one, both_same, text_is, text_yes}
use Rattle.model_meaning.specs.BoxMeaning.{box_meaning, rows_after}
use Rattle.model_meaning.specs.MapMeaning.{map_meaning, record_of}
use Rattle.model_store.specs.GoodLogs.{AreGoodLogs}
use Rattle.model_store.specs.Opening.{HasItsRecord}
use Rattle.model_store.proofs.OpeningSafeLemmas.{at_uid}
use Rattle.model_octets.proofs.SearchLemmas.{found_is}

same_some : (o : Option MapRecord) (a b : MapRecord) → o ≡ Some a → o ≡ Some b → a ≡ b
same_some o a b p q = let h : Some a ≡ Some b = sym p ∙ q in cc h

of_guid : (m : MapMeaning) (row : MapRecord) (guid : List ℕ) → IsSoundMap m → Contains m.records row → row.guid ≡ guid → record_of m guid ≡ Some row
of_guid m row guid s c e =
    found_is (λ (r : MapRecord). bytes_eq r.guid guid) m.records row c (text_yes row.guid guid e)
    (λ i j d lt le p q. s.guids i j d lt le (text_is _ guid p ∙ sym (text_is _ guid q)))

-- a row has a record's GUID if and only if it has its map uid
pair_is : (m : MapMeaning) (row : LogRow) (r : MapRecord) → IsSoundMap m → Contains m.records r → HasItsRecord m row → bytes_eq row.guid r.guid ≡ (row.map_uid == r.uid)
pair_is m row r s c (own, found, same) =
    let f = found_one (λ (o : MapRecord). o.uid == row.map_uid) m.records own found in
    let uid : own.uid ≡ row.map_uid = eqb-true own.uid row.map_uid f.1 in
    both_same (bytes_eq row.guid r.guid) (row.map_uid == r.uid)
    (λ p.
    let e : own ≡ r = same_some (record_of m r.guid) own r (of_guid m own r.guid s f.0 (same ∙ text_is row.guid r.guid p)) (of_guid m r r.guid s c refl) in
    eq-eqb row.map_uid r.uid (sym uid ∙ ap (λ (o : MapRecord). o.uid) e))
    (λ p.
    let e : own ≡ r = same_some (record_at m r.uid) own r (subst (λ (u : ℕ). record_at m u ≡ Some own) (eqb-true row.map_uid r.uid p) found) (at_uid m r s c) in
    text_yes row.guid r.guid (sym same ∙ ap (λ (o : MapRecord). o.guid) e))

abbrev one_if : Bool → ℕ
one_if b = cond b 1 0

rows_listed : (m : MapMeaning) (rows : List LogRow) (r : MapRecord) → IsSoundMap m → Contains m.records r → All (HasItsRecord m) rows → count_by (λ row. bytes_eq row.guid r.guid) rows ≡ count_by (λ row. row.map_uid == r.uid) rows
rows_listed m [] r s c h = refl
rows_listed m (row ∷ rows) r s c h =
    let here = ap one_if (pair_is m row r s c (All-head (HasItsRecord m) row rows h)) in
    let rest = rows_listed m rows r s c (All-tail (HasItsRecord m) row rows h) in
    let a = sum_by-cons (λ (o : LogRow). one_if (bytes_eq o.guid r.guid)) row rows in
    let b = sum_by-cons (λ (o : LogRow). one_if (o.map_uid == r.uid)) row rows in
    omega (arith, here, rest, a, b)

logs_listed : (m : MapMeaning) (logs : List (List BoxEntry)) (r : MapRecord) → IsSoundMap m → Contains m.records r → AllByRecursion (λ log. All (HasItsRecord m) (rows_after log)) logs → refs_in (map box_meaning logs) r.guid ≡ listed_of logs r.uid
logs_listed m [] r s c h = refl
logs_listed m (log ∷ logs) r s c h =
    let here = rows_listed m (rows_after log) r s c h.0 in
    let rest = logs_listed m logs r s c h.1 in
    let a = sum_by-cons (λ (b : BoxMeaning). count_by (λ (row : LogRow). bytes_eq row.guid r.guid) b.rows) (box_meaning log) (map box_meaning logs) in
    let b = sum_by-cons (λ (es : List BoxEntry). count_by (λ (row : LogRow). row.map_uid == r.uid) (rows_after es)) log logs in
    omega (arith, here, rest, a, b)

pub refs_are_listed : (store : List ℕ) (entries : List MapEntry) (logs : List (List BoxEntry)) (row : MapRecord) → AreGoodLogs store entries logs → Contains (map_meaning store entries).records row → refs_in (map box_meaning logs) row.guid ≡ listed_of logs row.uid
refs_are_listed store entries logs row good c = logs_listed (map_meaning store entries) logs row (map_sound store entries good.map_entries.1 good.map_entries.0) c good.records
