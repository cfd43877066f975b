-- A target that holds its copies is clean as soon as the map names them.
use Rattle.purge_task.proofs.Common.{◌≡◌, ◌≢◌, ◌≤◌, ◌<◌, ◌+◌, ◌==◌, ℕ, Bool, true, false, not, List, [], ◌∷◌, length, map, Option, Some, None, refl, sym, ◌∙◌, ap, subst, arith, inl, inr, All, AllPairs, Contains, filter, eqb-true, All-cons, All-contains, All-contains_itself, All-head, All-nil}
use Rattle.purge_task.proofs.Common.{All-tail, All-weaker, Contains-append_right, AllPairs-cons, AllPairs-from_increasing, Files, IsClean, RunTo, MapPlace, FileNo, MapUid, HasRecord, MapMeaning, MapRecord, has_map_uid, moved_record, place_given, record_at, IsSoundMap, equal_is, equal_yes}
use Rattle.purge_task.proofs.Common.{pairs_head, pairs_nil, pairs_tail, among, found_one, IsHeaderLine, at_uid, AreElsewhere, target_header, CopiesRunTo, HoldsCopies, AreSwitchLists}
use Rattle.std.proofs.Common.{◌⊎◌}
use Rattle.std.specs.Prelude.{codes, take}
use Rattle.std.proofs.Math.Dec.{lit≤}
use Rattle.disk_model.specs.declared.name.FileName.TheVariants as file
use Rattle.mdbox_base.specs.declared.entries.MapEntry.TheVariants as map_entry
use Rattle.model_meaning.specs.MapMeaning.{record_rules}
use Rattle.model_meaning.proofs.KeptRowLemmas.{kept_all}
use Rattle.model_octets.proofs.SearchLemmas.{found_is}
use Rattle.purge_task.proofs.CopyLemmas.{kept_of}
use Rattle.purge_task.proofs.DropLemmas.{listed_one}
use Rattle.purge_task.proofs.SwitchRowLemmas.{map_switched, rows_are}
use Rattle.purge_task.proofs.WithinLemmas.{mapped_of}

-- ---- its header

pub header_spells : IsHeaderLine target_header 30
header_spells = record {
  fields = record { key = 77; value = codes "1e" } ∷ record { key = 67; value = codes "0" } ∷ [];
  spelled = refl;
  each = (record { letter = refl; value = refl }, (record { letter = refl; value = refl }, tt));
  short = lit≤ tt;
  size = (codes "1e", refl, record { some = lit≤ tt; short = lit≤ tt; value = refl });
  time = inr (0, (codes "0", refl, record { some = lit≤ tt; short = lit≤ tt; value = refl }));
}

-- ---- the records that are moved to it

abbrev pub copied_row : ℕ → MapPlace → MapRecord → MapRecord
copied_row target place row = record row { file = target; offset = place.offset }

abbrev pub copied_rows : (m : MapMeaning) (target offset end : ℕ) (copied : List MapPlace) → CopiesRunTo m offset copied end → List MapRecord
copied_rows m target offset end [] run = []
copied_rows m target offset end (place ∷ places) run = copied_row target place run.1.0 ∷ copied_rows m target (offset + run.1.0.size) end places run.1.2.1

pub copied_run : (m : MapMeaning) (target offset end : ℕ) (copied : List MapPlace) (run : CopiesRunTo m offset copied end) → RunTo offset (copied_rows m target offset end copied run) end
copied_run m target offset end [] run = run
copied_run m target offset end (place ∷ places) run = (run.0, copied_run m target (offset + run.1.0.size) end places run.1.2.1)

pub copied_some : (m : MapMeaning) (target offset end : ℕ) (copied : List MapPlace) (run : CopiesRunTo m offset copied end) → copied ≢ [] → copied_rows m target offset end copied run ≢ []
copied_some m target offset end [] run some e = some refl
copied_some m target offset end (place ∷ places) run some e = let k : copied_row target place run.1.0 ∷ copied_rows m target (offset + run.1.0.size) end places run.1.2.1 ≡ [] = e in cc k

-- what holds of each record of a copy, moved
pub copied_all : (m : MapMeaning) (target offset end : ℕ) (copied : List MapPlace) (run : CopiesRunTo m offset copied end) (P : MapRecord → Type 0) → ((place : MapPlace) (row : MapRecord) → Contains copied place → record_at m place.uid.0 ≡ Some row → 1 ≤ row.count → P (copied_row target place row)) → All P (copied_rows m target offset end copied run)
copied_all m target offset end [] run P each = All-nil P
copied_all m target offset end (place ∷ places) run P each =
    All-cons P (copied_row target place run.1.0) (copied_rows m target (offset + run.1.0.size) end places run.1.2.1) (each place run.1.0 (All-head (λ (p : MapPlace). Contains (place ∷ places) p) place places (All-contains_itself (place ∷ places))) run.1.1 run.1.2.0)
    (copied_all m target (offset + run.1.0.size) end places run.1.2.1 P (λ p row c at some. each p row (Contains-append_right (place ∷ []) places p c) at some))

-- the record of each copy is among them
pub copied_there : (m : MapMeaning) (target offset end : ℕ) (copied : List MapPlace) (run : CopiesRunTo m offset copied end) (place : MapPlace) (row : MapRecord) → Contains copied place → record_at m place.uid.0 ≡ Some row → Contains (copied_rows m target offset end copied run) (copied_row target place row)
copied_there m target offset end [] run place row c at = absurd (let l = c.1 in omega (arith, l))
copied_there m target offset end (first ∷ places) run place row c at = by_case (among first places place c) (λ later. copied_there m target (offset + run.1.0.size) end places run.1.2.1 place row later at)
  where
    rest : List MapRecord
    rest = copied_rows m target (offset + run.1.0.size) end places run.1.2.1

    by_case : (first ≡ place) ⊎ Contains places place → (Contains places place → Contains rest (copied_row target place row)) → Contains (copied_row target first run.1.0 ∷ rest) (copied_row target place row)
    by_case (inl same) there =
        let r : run.1.0 ≡ row = (let e : Some run.1.0 ≡ Some row = sym run.1.1 ∙ (ap (λ (p : MapPlace). record_at m p.uid.0) same ∙ at) in cc e) in
        subst (λ (x : MapRecord). Contains (copied_row target first run.1.0 ∷ rest) x) (ap (λ (p : MapPlace). copied_row target p run.1.0) same ∙ ap (copied_row target place) r)
        (All-head (λ (x : MapRecord). Contains (copied_row target first run.1.0 ∷ rest) x) (copied_row target first run.1.0) rest (All-contains_itself (copied_row target first run.1.0 ∷ rest)))
    by_case (inr later) there = Contains-append_right (copied_row target first run.1.0 ∷ []) rest (copied_row target place row) (there later)

-- ---- what moves

-- the place that is listed of a map uid is the one that is found
pub place_listed : (moved : List MapPlace) (place : MapPlace) → AllPairs (λ (a b : ℕ). a < b) (map (λ (p : MapPlace). p.uid.0) moved) → Contains moved place → place_given place.uid.0 moved ≡ Some place
place_listed moved place rising c = found_is (λ (p : MapPlace). p.uid.0 == place.uid.0) moved place c (equal_yes place.uid.0 place.uid.0 refl) (apart moved rising)
  where
    below : (p : MapPlace) (ps : List MapPlace) → All (λ (n : ℕ). p.uid.0 < n) (map (λ (q : MapPlace). q.uid.0) ps) → All (λ (q : MapPlace). p.uid.0 < q.uid.0) ps
    below p [] h = All-nil (λ (q : MapPlace). p.uid.0 < q.uid.0)
    below p (q ∷ qs) h = All-cons (λ (r : MapPlace). p.uid.0 < r.uid.0) q qs (All-head (λ (n : ℕ). p.uid.0 < n) q.uid.0 (map (λ (r : MapPlace). r.uid.0) qs) h) (below p qs (All-tail (λ (n : ℕ). p.uid.0 < n) q.uid.0 (map (λ (r : MapPlace). r.uid.0) qs) h))

    apart : (ps : List MapPlace) → AllPairs (λ (a b : ℕ). a < b) (map (λ (p : MapPlace). p.uid.0) ps) → AllPairs (λ (a b : MapPlace). (a.uid.0 == place.uid.0) ≡ true → (b.uid.0 == place.uid.0) ≡ true → ⊥) ps
    apart [] h = pairs_nil (λ (a b : MapPlace). (a.uid.0 == place.uid.0) ≡ true → (b.uid.0 == place.uid.0) ≡ true → ⊥)
    apart (p ∷ ps) h = AllPairs-cons (λ (a b : MapPlace). (a.uid.0 == place.uid.0) ≡ true → (b.uid.0 == place.uid.0) ≡ true → ⊥) p ps
        (All-weaker (λ (q : MapPlace). p.uid.0 < q.uid.0) (λ (q : MapPlace). (p.uid.0 == place.uid.0) ≡ true → (q.uid.0 == place.uid.0) ≡ true → ⊥) (λ q l a b. let x = equal_is p.uid.0 place.uid.0 a in let y = equal_is q.uid.0 place.uid.0 b in omega (arith, l, x, y)) ps (below p ps (pairs_head (λ (a b : ℕ). a < b) p.uid.0 (map (λ (q : MapPlace). q.uid.0) ps) h)))
        (apart ps (pairs_tail (λ (a b : ℕ). a < b) p.uid.0 (map (λ (q : MapPlace). q.uid.0) ps) h))

-- a record with a count isn't among the dropped
pub not_dropped : (m : MapMeaning) (f : ℕ) (us : List MapUid) (row : MapRecord) → record_at m row.uid ≡ Some row → 1 ≤ row.count → All (λ u. HasRecord m u.0 (λ r. (r.file ≡ f) × (r.count ≡ 0))) us → (b : Bool) → has_map_uid row.uid us ≡ b → b ≡ false
not_dropped m f us row at some dropped false e = refl
not_dropped m f us row at some dropped true e =
    let u = listed_one us row.uid e in
    let h = All-contains (λ (v : MapUid). HasRecord m v.0 (λ r. (r.file ≡ f) × (r.count ≡ 0))) us u.0 dropped u.1 in
    let same : h.0 ≡ row = (let k : Some h.0 ≡ Some row = sym (subst (λ (n : ℕ). record_at m n ≡ Some h.0) u.2 h.1) ∙ at in cc k) in
    let none = subst (λ (r : MapRecord). r.count ≡ 0) same h.2.1 in
    absurd (omega (arith, none, some))

-- a record behind the switch is one that was there
pub came_of : (f : FileNo) (t : ℕ) (ms : List MapPlace) (us : List MapUid) (m : MapMeaning) (now : MapRecord) → Contains (map_switched f t ms us m).records now → (was : MapRecord) × Contains m.records was × (now ≡ moved_record was t (place_given was.uid ms))
came_of f t ms us m now c = All-contains (λ (r : MapRecord). (was : MapRecord) × Contains m.records was × (r ≡ moved_record was t (place_given was.uid ms))) (map_switched f t ms us m).records now
    (subst (λ (rs : List MapRecord). All (λ (r : MapRecord). (was : MapRecord) × Contains m.records was × (r ≡ moved_record was t (place_given was.uid ms))) rs) (sym (rows_are f t ms us m))
    (kept_all record_rules (map_entry.P f t ms us) m.records (Contains m.records) (λ (r : MapRecord). (was : MapRecord) × Contains m.records was × (r ≡ moved_record was t (place_given was.uid ms))) (λ was w. (was, w, refl)) (All-contains_itself m.records))) c

-- and one that isn't dropped is there
pub stays_there : (f : FileNo) (t : ℕ) (ms : List MapPlace) (us : List MapUid) (m : MapMeaning) (row : MapRecord) → Contains m.records row → has_map_uid row.uid us ≡ false → Contains (map_switched f t ms us m).records (moved_record row t (place_given row.uid ms))
stays_there f t ms us m row c not_there = subst (λ (rs : List MapRecord). Contains rs (moved_record row t (place_given row.uid ms))) (sym (rows_are f t ms us m))
    (mapped_of (λ (r : MapRecord). moved_record r t (place_given r.uid ms)) (filter (λ (r : MapRecord). not (has_map_uid r.uid us)) m.records) row (kept_of (λ (r : MapRecord). not (has_map_uid r.uid us)) m.records row c (ap not not_there)))

-- ---- the target

-- A target in which no record lay, and that holds copies of wanted messages, is clean where all these are moved to it.
pub target_clean : (files : Files) (f : FileNo) (t : ℕ) (copied ms : List MapPlace) (us : List MapUid) (m : MapMeaning) → IsSoundMap m → AreSwitchLists m f.0 copied ms us → AreElsewhere t m.records → copied ≢ [] → HoldsCopies files m t copied → (octets : List ℕ) → files (file.Mail t) ≡ Some octets → IsClean (map_switched f t ms us m) t octets
target_clean files f t copied ms us m sound listed away some h octets reads = record {
  header = target_header;
  rows = rows;
  begins = (header_spells, subst (λ (o : List ℕ). take (length target_header) o ≡ target_header) is h.header);
  some = copied_some m t (length target_header) (length h.octets) copied h.run some;
  mapped = copied_all m t (length target_header) (length h.octets) copied h.run (λ row. Contains now.records row × (row.file ≡ t) × (1 ≤ row.count)) (λ place row c at count. (there place row c at count, refl, count));
  every = All-weaker (Contains now.records) (λ row. row.file ≡ t → Contains rows row) every now.records (All-contains_itself now.records);
  whole = subst (λ (o : List ℕ). RunTo (length target_header) rows (length o)) is (copied_run m t (length target_header) (length h.octets) copied h.run);
}
  where
    now : MapMeaning
    now = map_switched f t ms us m

    rows : List MapRecord
    rows = copied_rows m t (length target_header) (length h.octets) copied h.run

    is : h.octets ≡ octets
    is = let e : Some h.octets ≡ Some octets = sym h.there ∙ reads in cc e

    rising : AllPairs (λ a b. a < b) (map (λ p. p.uid.0) ms)
    rising = AllPairs-from_increasing (map (λ p. p.uid.0) ms) listed.moved_rising

    there : (place : MapPlace) (row : MapRecord) → Contains copied place → record_at m place.uid.0 ≡ Some row → 1 ≤ row.count → Contains now.records (copied_row t place row)
    there place row c at count =
        let one = found_one (λ (r : MapRecord). r.uid == place.uid.0) m.records row at in
        let uid : row.uid ≡ place.uid.0 = eqb-true row.uid place.uid.0 one.1 in
        let in_moved : Contains ms place = All-contains (λ (p : MapPlace). HasRecord m p.uid.0 (λ r. 1 ≤ r.count) → Contains ms p) copied place listed.copied_moved c (row, at, count) in
        let given : place_given row.uid ms ≡ Some place = ap (λ (n : ℕ). place_given n ms) uid ∙ place_listed ms place rising in_moved in
        subst (λ (o : Option MapPlace). Contains now.records (moved_record row t o)) given
        (stays_there f t ms us m row one.0 (not_dropped m f.0 us row (at_uid m row sound one.0) count listed.dropped_here (has_map_uid row.uid us) refl))

    every : (row : MapRecord) → Contains now.records row → row.file ≡ t → Contains rows row
    every row c at_target = by_place (place_given was.0.uid ms) refl
      where
        was : (w : MapRecord) × Contains m.records w × (row ≡ moved_record w t (place_given w.uid ms))
        was = came_of f t ms us m row c

        by_place : (o : Option MapPlace) → place_given was.0.uid ms ≡ o → Contains rows row
        by_place None e = absurd (All-contains (λ (r : MapRecord). r.file ≢ t) m.records was.0 away was.1 (sym (ap (λ (r : MapRecord). r.file) (was.2 ∙ ap (moved_record was.0 t) e)) ∙ at_target))
        by_place (Some place) e =
            let one = found_one (λ (p : MapPlace). p.uid.0 == was.0.uid) ms place e in
            let in_copied = (All-contains (λ (p : MapPlace). Contains copied p × HasRecord m p.uid.0 (λ r. 1 ≤ r.count)) ms place listed.moved_copied one.0).0 in
            let at : record_at m place.uid.0 ≡ Some was.0 = ap (record_at m) (eqb-true place.uid.0 was.0.uid one.1) ∙ at_uid m was.0 sound was.1 in
            subst (λ (r : MapRecord). Contains rows r) (sym (was.2 ∙ ap (moved_record was.0 t) e)) (copied_there m t (length target_header) (length h.octets) copied h.run place was.0 in_copied at)
