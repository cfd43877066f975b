-- What an entry of the map log makes of records, and of what is due of each.
use Rattle.store_core.proofs.Common.{◌≡◌, ◌==◌, ◌<◌, ◌≤◌, ◌+◌, ◌-◌, ℕ, Bool, true, false, cond, List, [], ◌∷◌, ◌++◌, map, find, All, Option, Some, None, refl, sym, ◌∙◌, ap, subst, arith, append-nil, AllPairs, ◌||◌, if◌then◌else◌, option_map_or, cond-true, cond-false, ne_eqb, eq-eqb, All-head}
use Rattle.store_core.proofs.Common.{All-tail, All-cons, All-nil, All-weaker, All-contains, BoxEntry, Highest, InstRow, MapEntry, MapUid, IsAccounted, bit, logs_made, stored_row, same_record, MapFits, HasRecord, MapRecord, MapBox, MapMeaning, map_applied, record_at, record_changed, record_made}
use Rattle.store_core.proofs.Common.{has_map_uid, IsSoundMap, IsSoundRecord, equal_is, pairs_head, pairs_tail, found_holds, found_one, listed_of, change_beside, number_beside, IsAppendable, drawn_by, IsUpTo}
use Rattle.std.proofs.Common.{fold}
use Rattle.std.proofs.lemmas.List.Kept.{AllPairs-from_increasing}
use Rattle.mdbox_base.specs.declared.entries.MapCount.{MapCount}
use Rattle.mdbox_base.specs.declared.entries.MapEntry.TheVariants as entry
use Rattle.model_appends.specs.Amounts.{due_by, leak_by, MayChange}
use Rattle.model_appends.specs.MapAppending.{OnlyAdds}
use Rattle.model_appends.proofs.AppendFileLemmas.{SameButCount}
use Rattle.model_appends.proofs.AppendMapLemmas.{find_changed, find_first}
use Rattle.model_meaning.specs.MapMeaning.{box_made, numbers_of, higher, greatest, instance_number}
use Rattle.model_meaning.proofs.AppliedLemmas.{records_by_stored, records_by_raised, records_by_lowered, records_by_counted, boxes_by_stored, boxes_by_raised, boxes_by_lowered, boxes_by_counted}
use Rattle.model_meaning.proofs.MapSoundLemmas.{greatest_fits}
use Rattle.store_core.proofs.InstanceNumberLemmas.{AreNumbersDrawn}
use Rattle.store_core.specs.MapAppend.{HasDrawnNumbers, FitsDue, dues_with}
use Rattle.store_core.proofs.DueLemmas.{AreNumbers, OneEach, RecordsRise, at_own_place}
use Rattle.store_core.proofs.DueChangeLemmas.{changed_beside, each_changed, raises, lowers, is_raise, is_lower, numbers_are, less_none}

-- ---- the kinds

pub adds : (e : MapEntry) → IsAppendable e → OnlyAdds e
adds (entry.U u) k = tt
adds (entry.D us) k = tt
adds (entry.T cs) k = tt
adds (entry.S o c u f p z g is) k = tt
adds (entry.H h) k = absurd k
adds (entry.B b g n) k = absurd k
adds (entry.G b g) k = absurd k
adds (entry.P f t ms us) k = absurd k
adds (entry.E f) k = absurd k
adds (entry.X b cs) k = absurd k
adds (entry.V b n) k = absurd k

-- no mailbox is made
pub no_box : (e : MapEntry) → IsAppendable e → box_made e ≡ []
no_box (entry.U u) k = refl
no_box (entry.D us) k = refl
no_box (entry.T cs) k = refl
no_box (entry.S o c u f p z g is) k = refl
no_box (entry.H h) k = absurd k
no_box (entry.B b g n) k = absurd k
no_box (entry.G b g) k = absurd k
no_box (entry.P f t ms us) k = absurd k
no_box (entry.E f) k = absurd k
no_box (entry.X b cs) k = absurd k
no_box (entry.V b n) k = absurd k

pub logs_stay : (e : MapEntry) → IsAppendable e → (logs : List (List BoxEntry)) → logs_made e logs ≡ logs
logs_stay e k logs = ap (λ (boxes : List MapBox). logs ++ map (λ box. let log : List BoxEntry = [] in log) boxes) (no_box e k) ∙ append-nil logs

pub mailboxes_stay : (e : MapEntry) → IsAppendable e → (m : MapMeaning) → (map_applied e m).boxes ≡ m.boxes
mailboxes_stay (entry.U u) k m = boxes_by_raised u m.boxes
mailboxes_stay (entry.D us) k m = boxes_by_lowered us m.boxes
mailboxes_stay (entry.T cs) k m = boxes_by_counted cs m.boxes
mailboxes_stay (entry.S o c u f p z g is) k m = boxes_by_stored o c u f p z g is m.boxes
mailboxes_stay (entry.H h) k m = absurd k
mailboxes_stay (entry.B b g n) k m = absurd k
mailboxes_stay (entry.G b g) k m = absurd k
mailboxes_stay (entry.P f t ms us) k m = absurd k
mailboxes_stay (entry.E f) k m = absurd k
mailboxes_stay (entry.X b cs) k m = absurd k
mailboxes_stay (entry.V b n) k m = absurd k

-- ---- records

-- each record stands before one that is stored
pub before_new : (m : MapMeaning) (uid : ℕ) → IsSoundMap m → m.highest.map < uid → All (λ row. row.uid < uid) m.records
before_new m uid sound new = All-weaker (IsSoundRecord m.highest.map) (λ row. row.uid < uid) (λ row s. let below = s.below in omega (arith, below, new)) m.records sound.records

-- a record is found still
pub found_with : (e : MapEntry) → IsAppendable e → (m : MapMeaning) (uid : ℕ) (row : MapRecord) → record_at m uid ≡ Some row → record_at (map_applied e m) uid ≡ Some (record_changed e row)
found_with (entry.U u) k m uid row h = ap (find (λ (r : MapRecord). r.uid == uid)) (records_by_raised u m.records) ∙ find_changed (record_changed (entry.U u)) (same_record (entry.U u) tt) uid m.records row h
found_with (entry.D us) k m uid row h = ap (find (λ (r : MapRecord). r.uid == uid)) (records_by_lowered us m.records) ∙ find_changed (record_changed (entry.D us)) (same_record (entry.D us) tt) uid m.records row h
found_with (entry.T cs) k m uid row h = ap (find (λ (r : MapRecord). r.uid == uid)) (records_by_counted cs m.records) ∙ find_changed (record_changed (entry.T cs)) (same_record (entry.T cs) tt) uid m.records row h
found_with (entry.S o c u f p z g is) k m uid row h =
    ap (find (λ (r : MapRecord). r.uid == uid)) (records_by_stored o c u f p z g is m.records) ∙ find_first (λ (r : MapRecord). r.uid == uid) m.records (stored_row o c u f p z g is ∷ []) row h
found_with (entry.H h) k m uid row f = absurd k
found_with (entry.B b g n) k m uid row f = absurd k
found_with (entry.G b g) k m uid row f = absurd k
found_with (entry.P f t ms us) k m uid row h = absurd k
found_with (entry.E f) k m uid row h = absurd k
found_with (entry.X b cs) k m uid row h = absurd k
found_with (entry.V b n) k m uid row h = absurd k

-- and the last one, if its map uid is new
found_last : (uid : ℕ) (rows : List MapRecord) (row : MapRecord) → row.uid ≡ uid → All (λ r. r.uid < uid) rows → find (λ r. r.uid == uid) (rows ++ row ∷ []) ≡ Some row
found_last uid [] row is before = cond-true (row.uid == uid) (Some row) None (eq-eqb row.uid uid is)
found_last uid (r ∷ rs) row is before =
    let less : r.uid < uid = All-head (λ (x : MapRecord). x.uid < uid) r rs before in
    cond-false (r.uid == uid) (Some r) (find (λ (x : MapRecord). x.uid == uid) (rs ++ row ∷ [])) (ne_eqb r.uid uid (λ (e : r.uid ≡ uid). omega (arith, less, e)))
    ∙ found_last uid rs row is (All-tail (λ (x : MapRecord). x.uid < uid) r rs before)

pub found_made : (e : MapEntry) → IsAppendable e → (m : MapMeaning) → IsSoundMap m → MapFits m e → All (λ row. record_at (map_applied e m) row.uid ≡ Some row) (record_made e)
found_made (entry.U u) k m sound fits = All-nil (λ (row : MapRecord). record_at (map_applied (entry.U u) m) row.uid ≡ Some row)
found_made (entry.D us) k m sound fits = All-nil (λ (row : MapRecord). record_at (map_applied (entry.D us) m) row.uid ≡ Some row)
found_made (entry.T cs) k m sound fits = All-nil (λ (row : MapRecord). record_at (map_applied (entry.T cs) m) row.uid ≡ Some row)
found_made (entry.S o c u f p z g is) k m sound fits =
    All-cons (λ (row : MapRecord). record_at (map_applied (entry.S o c u f p z g is) m) row.uid ≡ Some row) (stored_row o c u f p z g is) []
    (ap (find (λ (r : MapRecord). r.uid == u.0)) (records_by_stored o c u f p z g is m.records) ∙ found_last u.0 m.records (stored_row o c u f p z g is) refl (before_new m u.0 sound fits.uid_new))
    (All-nil (λ (row : MapRecord). record_at (map_applied (entry.S o c u f p z g is) m) row.uid ≡ Some row))
found_made (entry.H h) k m sound fits = absurd k
found_made (entry.B b g n) k m sound fits = absurd k
found_made (entry.G b g) k m sound fits = absurd k
found_made (entry.P f t ms us) k m sound fits = absurd k
found_made (entry.E f) k m sound fits = absurd k
found_made (entry.X b cs) k m sound fits = absurd k
found_made (entry.V b n) k m sound fits = absurd k

-- ---- numbers at records that change

pub beside_changed : (f : MapRecord → MapRecord) → ((row : MapRecord) → SameButCount row (f row)) → (uid : ℕ) (rows : List MapRecord) (ns : List ℕ) → number_beside uid (map f rows) ns ≡ number_beside uid rows ns
beside_changed f same uid [] [] = refl
beside_changed f same uid [] (n ∷ ns) = refl
beside_changed f same uid (r ∷ rs) [] = refl
beside_changed f same uid (r ∷ rs) (n ∷ ns) = ap (λ (u : ℕ). cond (u == uid) n (number_beside uid (map f rs) ns)) (same r).uid ∙ ap (cond (r.uid == uid) n) (beside_changed f same uid rs ns)

each_mapped : (f : MapRecord → MapRecord) (rows : List MapRecord) (ns : List ℕ) → OneEach rows ns → OneEach (map f rows) ns
each_mapped f [] [] each = tt
each_mapped f [] (n ∷ ns) each = absurd each
each_mapped f (r ∷ rs) [] each = absurd each
each_mapped f (r ∷ rs) (n ∷ ns) each = each_mapped f rs ns each

each_more : (rows : List MapRecord) (ns : List ℕ) (row : MapRecord) (n : ℕ) → OneEach rows ns → OneEach (rows ++ row ∷ []) (ns ++ n ∷ [])
each_more [] [] row n each = tt
each_more [] (k ∷ ks) row n each = absurd each
each_more (r ∷ rs) [] row n each = absurd each
each_more (r ∷ rs) (k ∷ ks) row n each = each_more rs ks row n each

-- there is none for a map uid behind all records
pub beside_none : (uid : ℕ) (rows : List MapRecord) (ns : List ℕ) → All (λ r. r.uid < uid) rows → number_beside uid rows ns ≡ 0
beside_none uid [] [] before = refl
beside_none uid [] (n ∷ ns) before = refl
beside_none uid (r ∷ rs) [] before = refl
beside_none uid (r ∷ rs) (n ∷ ns) before =
    let less : r.uid < uid = All-head (λ (x : MapRecord). x.uid < uid) r rs before in
    cond-false (r.uid == uid) n (number_beside uid rs ns) (ne_eqb r.uid uid (λ (e : r.uid ≡ uid). omega (arith, less, e))) ∙ beside_none uid rs ns (All-tail (λ (x : MapRecord). x.uid < uid) r rs before)

-- one number more, at a record behind all others
beside_more : (uid : ℕ) (rows : List MapRecord) (ns : List ℕ) (row : MapRecord) (n : ℕ) → OneEach rows ns → All (λ r. r.uid < row.uid) rows → number_beside uid (rows ++ row ∷ []) (ns ++ n ∷ []) ≡ number_beside uid rows ns + (if row.uid == uid then n else 0)
beside_more uid [] [] row n each before = by_test (row.uid == uid)
  where
    by_test : (t : Bool) → cond t n 0 ≡ 0 + (if t then n else 0)
    by_test true = omega arith
    by_test false = refl
beside_more uid [] (k ∷ ks) row n each before = absurd each
beside_more uid (r ∷ rs) [] row n each before = absurd each
beside_more uid (r ∷ rs) (k ∷ ks) row n each before = by_test (r.uid == uid) refl (beside_more uid rs ks row n each (All-tail (λ (x : MapRecord). x.uid < row.uid) r rs before))
  where
    less : r.uid < row.uid
    less = All-head (λ (x : MapRecord). x.uid < row.uid) r rs before

    by_test : (t : Bool) → (r.uid == uid) ≡ t → number_beside uid (rs ++ row ∷ []) (ks ++ n ∷ []) ≡ number_beside uid rs ks + (if row.uid == uid then n else 0)
        → cond t k (number_beside uid (rs ++ row ∷ []) (ks ++ n ∷ [])) ≡ cond t k (number_beside uid rs ks) + (if row.uid == uid then n else 0)
    by_test true is rest =
        let here : r.uid ≡ uid = equal_is r.uid uid is in
        let apart : (row.uid == uid) ≡ false = ne_eqb row.uid uid (λ (e : row.uid ≡ uid). omega (arith, less, e, here)) in
        let none : (if row.uid == uid then n else 0) ≡ 0 = ap (λ (t : Bool). if t then n else 0) apart in
        omega (arith, none)
    by_test false is rest = rest

-- ---- one less at each record of a list

not_named : (u : ℕ) (us : List MapUid) (uid : ℕ) → u ≡ uid → All (λ n. u < n) (map (λ (v : MapUid). v.0) us) → has_map_uid uid us ≡ false
not_named u [] uid e above = refl
not_named u (v ∷ vs) uid e above =
    let less : u < v.0 = All-head (λ n. u < n) v.0 (map (λ (w : MapUid). w.0) vs) above in
    ap (λ (t : Bool). t || has_map_uid uid vs) (ne_eqb v.0 uid (λ (s : v.0 ≡ uid). omega (arith, less, s, e))) ∙ not_named u vs uid e (All-tail (λ n. u < n) v.0 (map (λ (w : MapUid). w.0) vs) above)

one_after : (t s : Bool) (n : ℕ) → (t ≡ true → s ≡ false) → (n - bit (t || false)) - bit s ≡ n - bit (t || s)
one_after true true n apart = absurd (let e : true ≡ false = apart refl in cc e)
one_after true false n apart = omega arith
one_after false s n apart = ap (λ (k : ℕ). k - bit s) (less_none n)

abbrev lowered : List MapRecord → List ℕ → MapUid → List ℕ
lowered rows numbers uid = change_beside uid.0 (λ n. n - 1) rows numbers

lowered_beside : (rows : List MapRecord) (uids : List MapUid) (ns : List ℕ) (uid : ℕ) → OneEach rows ns → AllPairs (λ a b. a < b) (map (λ (u : MapUid). u.0) uids)
    → number_beside uid rows (fold (lowered rows) ns uids) ≡ number_beside uid rows ns - bit (has_map_uid uid uids)
lowered_beside rows [] ns uid each rise = sym (less_none (number_beside uid rows ns))
lowered_beside rows (u ∷ us) ns uid each rise =
    lowered_beside rows us (lowered rows ns u) uid (each_changed u.0 (λ n. n - 1) rows ns each) (pairs_tail (λ a b. a < b) u.0 (map (λ (v : MapUid). v.0) us) rise)
    ∙ ap (λ (n : ℕ). n - bit (has_map_uid uid us)) (changed_beside u.0 (λ n. n - 1) (lowers u) uid rows ns (is_lower u) each (λ none. omega arith))
    ∙ one_after (u.0 == uid) (has_map_uid uid us) (number_beside uid rows ns)
    (λ same. not_named u.0 us uid (equal_is u.0 uid same) (pairs_head (λ a b. a < b) u.0 (map (λ (v : MapUid). v.0) us) rise))

each_lowered : (rows : List MapRecord) (uids : List MapUid) (ns : List ℕ) → OneEach rows ns → OneEach rows (fold (lowered rows) ns uids)
each_lowered rows [] ns each = each
each_lowered rows (u ∷ us) ns each = each_lowered rows us (lowered rows ns u) (each_changed u.0 (λ n. n - 1) rows ns each)

-- ---- by the entry

-- as many numbers as records
pub map_dues_each : (e : MapEntry) → IsAppendable e → (m : MapMeaning) (ns : List ℕ) → OneEach m.records ns → OneEach (map_applied e m).records (dues_with e m.records ns)
map_dues_each (entry.U u) k m ns each =
    subst (λ (rows : List MapRecord). OneEach rows (change_beside u.0 (λ n. n + 1) m.records ns)) (sym (records_by_raised u m.records))
    (each_mapped (record_changed (entry.U u)) m.records (change_beside u.0 (λ n. n + 1) m.records ns) (each_changed u.0 (λ n. n + 1) m.records ns each))
map_dues_each (entry.D us) k m ns each =
    subst (λ (rows : List MapRecord). OneEach rows (fold (lowered m.records) ns us)) (sym (records_by_lowered us m.records))
    (each_mapped (record_changed (entry.D us)) m.records (fold (lowered m.records) ns us) (each_lowered m.records us ns each))
map_dues_each (entry.T cs) k m ns each = subst (λ (rows : List MapRecord). OneEach rows ns) (sym (records_by_counted cs m.records)) (each_mapped (record_changed (entry.T cs)) m.records ns each)
map_dues_each (entry.S o c u f p z g is) k m ns each =
    subst (λ (rows : List MapRecord). OneEach rows (ns ++ c ∷ [])) (sym (records_by_stored o c u f p z g is m.records)) (each_more m.records ns (stored_row o c u f p z g is) c each)
map_dues_each (entry.H h) k m ns each = absurd k
map_dues_each (entry.B b g n) k m ns each = absurd k
map_dues_each (entry.G b g) k m ns each = absurd k
map_dues_each (entry.P f t ms us) k m ns each = absurd k
map_dues_each (entry.E f) k m ns each = absurd k
map_dues_each (entry.X b cs) k m ns each = absurd k
map_dues_each (entry.V b n) k m ns each = absurd k

-- for each map uid it is the number that the entry makes
pub map_due_is : (e : MapEntry) → IsAppendable e → (m : MapMeaning) (ns : List ℕ) (uid : ℕ) → IsSoundMap m → MapFits m e → OneEach m.records ns
    → number_beside uid (map_applied e m).records (dues_with e m.records ns) ≡ due_by e (λ other. number_beside other m.records ns) uid
map_due_is (entry.U u) k m ns uid sound fits each =
    ap (λ (rows : List MapRecord). number_beside uid rows (change_beside u.0 (λ n. n + 1) m.records ns)) (records_by_raised u m.records)
    ∙ beside_changed (record_changed (entry.U u)) (same_record (entry.U u) tt) uid m.records (change_beside u.0 (λ n. n + 1) m.records ns)
    ∙ changed_beside u.0 (λ n. n + 1) (raises u.0) uid m.records ns (is_raise u.0) each (λ none. by_uid (u.0 == uid) refl none)
  where
    by_uid : (t : Bool) → (u.0 == uid) ≡ t → find (λ r. r.uid == uid) m.records ≡ None → 0 + (if u.0 == uid then 1 else 0) ≡ 0
    by_uid true is none =
        let there : record_at m uid ≡ Some fits.0 = ap (record_at m) (sym (equal_is u.0 uid is)) ∙ fits.1 in
        let no : Some fits.0 ≡ None = sym there ∙ none in
        absurd (cc no)
    by_uid false is none = ap (λ (t : Bool). 0 + (if t then 1 else 0)) is
map_due_is (entry.D us) k m ns uid sound fits each =
    ap (λ (rows : List MapRecord). number_beside uid rows (fold (lowered m.records) ns us)) (records_by_lowered us m.records)
    ∙ beside_changed (record_changed (entry.D us)) (same_record (entry.D us) tt) uid m.records (fold (lowered m.records) ns us)
    ∙ lowered_beside m.records us ns uid each (AllPairs-from_increasing (map (λ (v : MapUid). v.0) us) fits.0)
map_due_is (entry.T cs) k m ns uid sound fits each =
    ap (λ (rows : List MapRecord). number_beside uid rows ns) (records_by_counted cs m.records) ∙ beside_changed (record_changed (entry.T cs)) (same_record (entry.T cs) tt) uid m.records ns
map_due_is (entry.S o c u f p z g is) k m ns uid sound fits each =
    ap (λ (rows : List MapRecord). number_beside uid rows (ns ++ c ∷ [])) (records_by_stored o c u f p z g is m.records) ∙ beside_more uid m.records ns (stored_row o c u f p z g is) c each (before_new m u.0 sound fits.uid_new)
map_due_is (entry.H h) k m ns uid sound fits each = absurd k
map_due_is (entry.B b g n) k m ns uid sound fits each = absurd k
map_due_is (entry.G b g) k m ns uid sound fits each = absurd k
map_due_is (entry.P f t ms us) k m ns uid sound fits each = absurd k
map_due_is (entry.E f) k m ns uid sound fits each = absurd k
map_due_is (entry.X b cs) k m ns uid sound fits each = absurd k
map_due_is (entry.V b n) k m ns uid sound fits each = absurd k

numbers_as : (f g : ℕ → ℕ) (rows : List MapRecord) (ns : List ℕ) → ((uid : ℕ) → f uid ≡ g uid) → AreNumbers f rows ns → AreNumbers g rows ns
numbers_as f g [] [] same a = tt
numbers_as f g [] (n ∷ ns) same a = absurd a
numbers_as f g (r ∷ rs) [] same a = absurd a
numbers_as f g (r ∷ rs) (n ∷ ns) same a = (sym (same r.uid) ∙ a.0, numbers_as f g rs ns same a.1)

-- so the numbers at the records are those that the entry makes
pub map_dues_are : (e : MapEntry) → IsAppendable e → (m : MapMeaning) (ns : List ℕ) → IsSoundMap m → MapFits m e → AllPairs RecordsRise (map_applied e m).records → OneEach m.records ns
    → dues_with e m.records ns ≡ map (λ row. due_by e (λ other. number_beside other m.records ns) row.uid) (map_applied e m).records
map_dues_are e k m ns sound fits rising each =
    let rows : List MapRecord = (map_applied e m).records in
    let ds : List ℕ = dues_with e m.records ns in
    let due : ℕ → ℕ = due_by e (λ other. number_beside other m.records ns) in
    numbers_are due rows ds (numbers_as (λ uid. number_beside uid rows ds) due rows ds (λ uid. map_due_is e k m ns uid sound fits each) (at_own_place rows ds rising (map_dues_each e k m ns each)))

-- ---- what the entry asks

named_due : (due : ℕ → ℕ) (us : List MapUid) (uid : ℕ) → All (λ u. 1 ≤ due u.0) us → has_map_uid uid us ≡ true → 1 ≤ due uid
named_due due [] uid all has = absurd (let e : false ≡ true = has in cc e)
named_due due (u ∷ us) uid all has = by_test (u.0 == uid) refl has (λ h. named_due due us uid (All-tail (λ (v : MapUid). 1 ≤ due v.0) u us all) h)
  where
    by_test : (t : Bool) → (u.0 == uid) ≡ t → (t || has_map_uid uid us) ≡ true → (has_map_uid uid us ≡ true → 1 ≤ due uid) → 1 ≤ due uid
    by_test true is h rest = subst (λ (n : ℕ). 1 ≤ due n) (equal_is u.0 uid is) (All-head (λ (v : MapUid). 1 ≤ due v.0) u us all)
    by_test false is h rest = rest h

-- In terms of logs: of a record that is stored nothing is due yet, nor does it leak.
pub may_change : (e : MapEntry) → IsAppendable e → (due leak listed : ℕ → ℕ) (logs : List (List BoxEntry)) → FitsDue e due listed → ((uid : ℕ) → listed uid ≡ listed_of logs uid) → All (λ row. (due row.uid ≡ 0) × (leak row.uid ≡ 0)) (record_made e) → MayChange e due leak logs
may_change (entry.U u) k due leak listed logs fits same new = tt
may_change (entry.D us) k due leak listed logs fits same new = λ uid has. named_due due us uid fits has
may_change (entry.T cs) k due leak listed logs fits same new = λ uid c found.
    let h : (c.count ≡ listed c.uid.0 + due c.uid.0) × ((c.uid.0 == uid) ≡ true) = found_holds (λ (x : MapCount). x.uid.0 == uid) cs c (λ (x : MapCount). x.count ≡ listed x.uid.0 + due x.uid.0) found fits in
    let at : c.uid.0 ≡ uid = equal_is c.uid.0 uid h.1 in
    subst (λ (n : ℕ). c.count ≡ n + due uid) (same uid) (subst (λ (n : ℕ). c.count ≡ listed n + due n) at h.0)
may_change (entry.S o c u f p z g is) k due leak listed logs fits same new = All-head (λ (row : MapRecord). (due row.uid ≡ 0) × (leak row.uid ≡ 0)) (stored_row o c u f p z g is) [] new
may_change (entry.H h) k due leak listed logs fits same new = absurd k
may_change (entry.B b g n) k due leak listed logs fits same new = absurd k
may_change (entry.G b g) k due leak listed logs fits same new = absurd k
may_change (entry.P f t ms us) k due leak listed logs fits same new = absurd k
may_change (entry.E f) k due leak listed logs fits same new = absurd k
may_change (entry.X b cs) k due leak listed logs fits same new = absurd k
may_change (entry.V b n) k due leak listed logs fits same new = absurd k

-- the record that is made is new
pub new_record : (e : MapEntry) → IsAppendable e → (m : MapMeaning) → IsSoundMap m → MapFits m e → All (λ row. All (λ r. r.uid < row.uid) m.records) (record_made e)
new_record (entry.U u) k m sound fits = All-nil (λ (row : MapRecord). All (λ r. r.uid < row.uid) m.records)
new_record (entry.D us) k m sound fits = All-nil (λ (row : MapRecord). All (λ r. r.uid < row.uid) m.records)
new_record (entry.T cs) k m sound fits = All-nil (λ (row : MapRecord). All (λ r. r.uid < row.uid) m.records)
new_record (entry.S o c u f p z g is) k m sound fits =
    All-cons (λ (row : MapRecord). All (λ r. r.uid < row.uid) m.records) (stored_row o c u f p z g is) [] (before_new m u.0 sound fits.uid_new) (All-nil (λ (row : MapRecord). All (λ r. r.uid < row.uid) m.records))
new_record (entry.H h) k m sound fits = absurd k
new_record (entry.B b g n) k m sound fits = absurd k
new_record (entry.G b g) k m sound fits = absurd k
new_record (entry.P f t ms us) k m sound fits = absurd k
new_record (entry.E f) k m sound fits = absurd k
new_record (entry.X b cs) k m sound fits = absurd k
new_record (entry.V b n) k m sound fits = absurd k

-- ---- the leak

-- the count of a record stands at its place
count_beside : (uid : ℕ) (rows : List MapRecord) → number_beside uid rows (map (λ row. row.count) rows) ≡ option_map_or (λ row. row.count) (find (λ row. row.uid == uid) rows) 0
count_beside uid [] = refl
count_beside uid (r ∷ rs) = by_test (r.uid == uid) (count_beside uid rs)
  where
    by_test : (t : Bool) → number_beside uid rs (map (λ row. row.count) rs) ≡ option_map_or (λ row. row.count) (find (λ row. row.uid == uid) rs) 0
        → cond t r.count (number_beside uid rs (map (λ row. row.count) rs)) ≡ option_map_or (λ row. row.count) (cond t (Some r) (find (λ row. row.uid == uid) rs)) 0
    by_test true rest = refl
    by_test false rest = rest

-- of counts that are made up, the leak is what is neither listed nor due
pub leak_is : (due leak listed : ℕ → ℕ) (logs : List (List BoxEntry)) (rows : List MapRecord) (uid : ℕ) → All (IsAccounted due leak logs) rows → ((uid : ℕ) → listed uid ≡ listed_of logs uid) → (find (λ row. row.uid == uid) rows ≡ None → leak uid ≡ 0)
    → number_beside uid rows (map (λ row. row.count) rows) - (listed uid + due uid) ≡ leak uid
leak_is due leak listed logs rows uid all same none = by_found (find (λ row. row.uid == uid) rows) refl
  where
    by_found : (o : Option MapRecord) → find (λ row. row.uid == uid) rows ≡ o → number_beside uid rows (map (λ row. row.count) rows) - (listed uid + due uid) ≡ leak uid
    by_found None is =
        let zero : number_beside uid rows (map (λ row. row.count) rows) ≡ 0 = count_beside uid rows ∙ ap (λ (o : Option MapRecord). option_map_or (λ (row : MapRecord). row.count) o 0) is in
        let no : leak uid ≡ 0 = none is in
        omega (arith, zero, no)
    by_found (Some row) is =
        let count : number_beside uid rows (map (λ row. row.count) rows) ≡ row.count = count_beside uid rows ∙ ap (λ (o : Option MapRecord). option_map_or (λ (row : MapRecord). row.count) o 0) is in
        let one = found_one (λ (row : MapRecord). row.uid == uid) rows row is in
        let at : row.uid ≡ uid = equal_is row.uid uid one.1 in
        let made : row.count ≡ listed_of logs row.uid + due row.uid + leak row.uid = All-contains (IsAccounted due leak logs) rows row all one.0 in
        let here : row.count ≡ listed_of logs uid + due uid + leak uid = subst (λ (n : ℕ). row.count ≡ listed_of logs n + due n + leak n) at made in
        let l = same uid in
        omega (arith, count, here, l)

-- where there is no record, nothing leaks
pub no_leak : (uid : ℕ) (rows : List MapRecord) (rest : ℕ) → find (λ row. row.uid == uid) rows ≡ None → number_beside uid rows (map (λ row. row.count) rows) - rest ≡ 0
no_leak uid rows rest is =
    let zero : number_beside uid rows (map (λ row. row.count) rows) ≡ 0 = count_beside uid rows ∙ ap (λ (o : Option MapRecord). option_map_or (λ (row : MapRecord). row.count) o 0) is in
    omega (arith, zero)

pub leak_none : (e : MapEntry) → IsAppendable e → (leak : ℕ → ℕ) (uid : ℕ) → leak uid ≡ 0 → leak_by e leak uid ≡ 0
leak_none (entry.U u) k leak uid none = none
leak_none (entry.D us) k leak uid none = none
leak_none (entry.T cs) k leak uid none = by_found (find (λ (c : MapCount). c.uid.0 == uid) cs)
  where
    by_found : (o : Option MapCount) → option_map_or (λ (c : MapCount). 0) o (leak uid) ≡ 0
    by_found None = none
    by_found (Some c) = refl
leak_none (entry.S o c u f p z g is) k leak uid none = none
leak_none (entry.H h) k leak uid none = absurd k
leak_none (entry.B b g n) k leak uid none = absurd k
leak_none (entry.G b g) k leak uid none = absurd k
leak_none (entry.P f t ms us) k leak uid none = absurd k
leak_none (entry.E f) k leak uid none = absurd k
leak_none (entry.X b cs) k leak uid none = absurd k
leak_none (entry.V b n) k leak uid none = absurd k

-- no record is lost
pub lost_with : (e : MapEntry) → IsAppendable e → (m : MapMeaning) (uid : ℕ) → record_at (map_applied e m) uid ≡ None → record_at m uid ≡ None
lost_with e k m uid none = by_found (record_at m uid) refl
  where
    by_found : (o : Option MapRecord) → record_at m uid ≡ o → o ≡ None
    by_found None is = refl
    by_found (Some row) is = absurd (let no : Some (record_changed e row) ≡ None = sym (found_with e k m uid row is) ∙ none in cc no)

-- ---- the numbers drawn

-- the map uid of a record is at most the highest
pub named_below : (m : MapMeaning) (uid : ℕ) (row : MapRecord) → IsSoundMap m → record_at m uid ≡ Some row → uid ≤ m.highest.map
named_below m uid row sound found =
    let h : IsSoundRecord m.highest.map row × ((row.uid == uid) ≡ true) = found_holds (λ (r : MapRecord). r.uid == uid) m.records row (IsSoundRecord m.highest.map) found sound.records in
    let at : row.uid ≡ uid = equal_is row.uid uid h.1 in
    let below = h.0.below in
    omega (arith, at, below)

-- an entry that names records alone raises no number
known_up_to : (drawn highest named : Highest) → IsUpTo drawn highest → named.file ≡ 0 → named.map ≤ highest.map → named.instance ≡ 0 → named.mailbox ≡ 0 → IsUpTo drawn (higher highest named)
known_up_to drawn highest named up file map instance mailbox =
    let a = up.file in
    let b = up.map in
    let c = up.instance in
    let d = up.mailbox in
    record { file = omega (arith, a, file); map = omega (arith, b, map); instance = omega (arith, c, instance); mailbox = omega (arith, d, mailbox) }

pub drawn_up_to : (e : MapEntry) → IsAppendable e → (m : MapMeaning) (drawn : Highest) → IsSoundMap m → MapFits m e → HasDrawnNumbers e m.store drawn → AreNumbersDrawn e m.store drawn.instance → IsUpTo drawn m.highest → IsUpTo (drawn_by e drawn) (map_applied e m).highest
drawn_up_to (entry.U u) k m drawn sound fits h numbers up = known_up_to drawn m.highest (numbers_of m.store (entry.U u)) up refl (named_below m u.0 fits.0 sound fits.1) refl refl
drawn_up_to (entry.D us) k m drawn sound fits h numbers up =
    known_up_to drawn m.highest (numbers_of m.store (entry.D us)) up refl
    (greatest_fits (λ (u : MapUid). u.0) m.highest.map us (All-weaker (λ (u : MapUid). HasRecord m u.0 (λ row. 1 ≤ row.count)) (λ (u : MapUid). u.0 ≤ m.highest.map) (λ u r. named_below m u.0 r.0 sound r.1) us fits.1)) refl refl
drawn_up_to (entry.T cs) k m drawn sound fits h numbers up =
    known_up_to drawn m.highest (numbers_of m.store (entry.T cs)) up refl
    (greatest_fits (λ (c : MapCount). c.uid.0) m.highest.map cs (All-weaker (λ (c : MapCount). (row : MapRecord) × (record_at m c.uid.0 ≡ Some row)) (λ (c : MapCount). c.uid.0 ≤ m.highest.map) (λ c r. named_below m c.uid.0 r.0 sound r.1) cs fits.1)) refl refl
drawn_up_to (entry.S o c u f p z g is) k m drawn sound fits h numbers up =
    let most : greatest instance_of is ≤ drawn.instance = greatest_fits instance_of drawn.instance is numbers in
    let a = up.file in
    let b = up.map in
    let d = up.instance in
    let e = up.mailbox in
    let next = h.0 in
    let own = h.1 in
    let of_guid = h.2 in
    record { file = omega (arith, a, own, of_guid); map = omega (arith, b, next); instance = omega (arith, d, most); mailbox = omega (arith, e) }
  where
    instance_of : InstRow → ℕ
    instance_of i = instance_number m.store i.id.0
drawn_up_to (entry.H h) k m drawn sound fits d numbers up = absurd k
drawn_up_to (entry.B b g n) k m drawn sound fits d numbers up = absurd k
drawn_up_to (entry.G b g) k m drawn sound fits d numbers up = absurd k
drawn_up_to (entry.P f t ms us) k m drawn sound fits d numbers up = absurd k
drawn_up_to (entry.E f) k m drawn sound fits d numbers up = absurd k
drawn_up_to (entry.X b cs) k m drawn sound fits d numbers up = absurd k
drawn_up_to (entry.V b n) k m drawn sound fits d numbers up = absurd k
