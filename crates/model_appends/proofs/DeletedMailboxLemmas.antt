-- A mailbox that is deleted: its listings leave, and the counts fall by as much. Nothing else that a store reads changes.
use Rattle.model_appends.proofs.Common.{◌≡◌, ◌<◌, ◌+◌, ◌==◌, ℕ, Bool, true, false, not, cond, if◌then◌else◌, List, [], ◌∷◌, ◌++◌, length, map, count_by, Option, Some, All, AllPairs, refl, option_map_or, sym, ◌∙◌, ap, arith, subst, All-head, All-tail, sum_by-cons, Files, DiskState, BoxNo, BoxEntry}
use Rattle.model_appends.proofs.Common.{MapCount, MapEntry, Lists, boxes_by_deleted, boxes_by_renamed, map_more, equal_is, equal_yes, map_sound, BoxMeaning, rows_after, box_meaning, MapRecord, MapBox, MapMeaning, map_meaning, record_changed, box_changed, IsSoundMap, all_map, pairs_head, pairs_tail}
use Rattle.model_appends.proofs.Common.{AreGoodLogs, meaning_numbered, listed_of, files_of, HasSameRegion, HasSameInstance, AreAlike, IsSettled, IsAccounted, LeavesAlike}
use Rattle.std.proofs.lemmas.List.Elements.{All-filter}
use Rattle.disk_model.specs.declared.name.FileName.TheVariants as file
use Rattle.mdbox_base.specs.declared.entries.MapEntry.TheVariants as entry
use Rattle.model_meaning.proofs.AppliedLemmas.{records_by_deleted, records_by_renamed}
use Rattle.model_octets.proofs.SearchLemmas.{both_same}
use Rattle.model_appends.specs.MapAppending.{NamesListed, beside_without}
use Rattle.model_appends.proofs.AppendFileLemmas.{SameButCount}
use Rattle.model_appends.proofs.AppendSafeMapLemmas.{region_same}

abbrev Rising : MapBox → MapBox → Type 0
Rising a b = a.number < b.number

turned : (m n : ℕ) → (m == n) ≡ (n == m)
turned m n = both_same (m == n) (n == m) (λ p. equal_yes n m (sym (equal_is m n p))) (λ p. equal_yes m n (sym (equal_is n m p)))

no_test : (b : Bool) → (b ≡ true → ⊥) → b ≡ false
no_test true h = absurd (h refl)
no_test false h = refl

-- ---- listings

-- how many messages of this record a log lists, and the log of a mailbox, if there is one
abbrev in_log : ℕ → List BoxEntry → ℕ
in_log uid log = count_by (λ row. row.map_uid == uid) (rows_after log)

abbrev in_meaning : ℕ → Option BoxMeaning → ℕ
in_meaning uid found = option_map_or (λ m. count_by (λ row. row.map_uid == uid) m.rows) found 0

-- no later mailbox has the number of this one
untouched : (k : ℕ) (b : MapBox) (boxes : List MapBox) (logs : List (List BoxEntry)) → length logs ≡ length boxes → All (Rising b) boxes → b.number ≡ k → beside_without k boxes logs ≡ logs
untouched k b [] [] l above is = refl
untouched k b [] (log ∷ logs) l above is = absurd (omega (arith, l))
untouched k b (c ∷ boxes) [] l above is = absurd (omega (arith, l))
untouched k b (c ∷ boxes) (log ∷ logs) l above is =
    let less : b.number < c.number = All-head (Rising b) c boxes above in
    let no : (k == c.number) ≡ false = no_test (k == c.number) (λ p. let e = equal_is k c.number p in absurd (omega (arith, less, e, is))) in
    ap (λ (t : Bool). cond t (beside_without k boxes logs) (log ∷ beside_without k boxes logs)) no ∙ ap (λ (ls : List (List BoxEntry)). log ∷ ls) (untouched k b boxes logs (omega (arith, l)) (All-tail (Rising b) c boxes above) is)

-- what all logs list is what those of the others list, and that of the mailbox
pub listed_split : (k uid : ℕ) (boxes : List MapBox) (logs : List (List BoxEntry)) → length logs ≡ length boxes → AllPairs Rising boxes
    → listed_of logs uid ≡ listed_of (beside_without k boxes logs) uid + in_meaning uid (meaning_numbered k boxes (map box_meaning logs))
listed_split k uid [] [] l rising = refl
listed_split k uid [] (log ∷ logs) l rising = absurd (omega (arith, l))
listed_split k uid (b ∷ boxes) [] l rising = absurd (omega (arith, l))
listed_split k uid (b ∷ boxes) (log ∷ logs) l rising =
    let same : listed_of (cond (k == b.number) (beside_without k boxes logs) (log ∷ beside_without k boxes logs)) uid ≡ listed_of (cond (b.number == k) (beside_without k boxes logs) (log ∷ beside_without k boxes logs)) uid =
    ap (λ (t : Bool). listed_of (cond t (beside_without k boxes logs) (log ∷ beside_without k boxes logs)) uid) (turned k b.number) in
    let h = by_test (b.number == k) refl (listed_split k uid boxes logs (omega (arith, l)) (pairs_tail Rising b boxes rising)) in
    omega (arith, h, same)
  where
    whole : listed_of (log ∷ logs) uid ≡ in_log uid log + listed_of logs uid
    whole = sum_by-cons (in_log uid) log logs

    by_test : (t : Bool) → (b.number == k) ≡ t → listed_of logs uid ≡ listed_of (beside_without k boxes logs) uid + in_meaning uid (meaning_numbered k boxes (map box_meaning logs))
        → listed_of (log ∷ logs) uid ≡ listed_of (cond t (beside_without k boxes logs) (log ∷ beside_without k boxes logs)) uid + in_meaning uid (cond t (Some (box_meaning log)) (meaning_numbered k boxes (map box_meaning logs)))
    by_test true e rest =
        let u = ap (λ (ls : List (List BoxEntry)). listed_of ls uid) (untouched k b boxes logs (omega (arith, l)) (pairs_head Rising b boxes rising) (equal_is b.number k e)) in
        omega (arith, whole, u)
    by_test false e rest = let c = sum_by-cons (in_log uid) log (beside_without k boxes logs) in omega (arith, whole, c, rest)

-- ---- counts

-- Each count is made up of what is listed, due and leaks as before: what is listed and what is counted fall alike.
deleted_due : (due leak : ℕ → ℕ) (boxes : List MapBox) (logs : List (List BoxEntry)) (k : BoxNo) (amounts : List MapCount) → length logs ≡ length boxes → AllPairs Rising boxes → NamesListed (entry.X k amounts) boxes (map box_meaning logs)
    → (row : MapRecord) → IsAccounted due leak logs row → IsAccounted due leak (beside_without k.0 boxes logs) (record_changed (entry.X k amounts) row)
deleted_due due leak boxes logs k amounts l rising names row a =
    let split = listed_split k.0 row.uid boxes logs l rising in
    let amount = names row.uid in
    omega (arith, a, split, amount)

pub deletions_are_accounted : (store : List ℕ) (entries : List MapEntry) (logs : List (List BoxEntry)) (k : BoxNo) (amounts : List MapCount) (due leak : ℕ → ℕ) → AreGoodLogs store entries logs
    → NamesListed (entry.X k amounts) (map_meaning store entries).boxes (map box_meaning logs) → All (IsAccounted due leak logs) (map_meaning store entries).records
    → All (IsAccounted due leak (beside_without k.0 (map_meaning store entries).boxes logs)) (map_meaning store (entries ++ entry.X k amounts ∷ [])).records
deletions_are_accounted store entries logs k amounts due leak good names all =
    let m : MapMeaning = map_meaning store entries in
    let sound : IsSoundMap m = map_sound store entries good.map_entries.1 good.map_entries.0 in
    subst (λ (rows : List MapRecord). All (IsAccounted due leak (beside_without k.0 m.boxes logs)) rows) (sym (ap (λ (n : MapMeaning). n.records) (map_more store entries (entry.X k amounts)) ∙ records_by_deleted k amounts m.records))
    (all_map (IsAccounted due leak logs) (IsAccounted due leak (beside_without k.0 m.boxes logs)) (record_changed (entry.X k amounts)) (deleted_due due leak m.boxes logs k amounts good.one_each sound.boxes_rising names) m.records all)

-- ---- what a crash may leave

-- Whatever a crash leaves agrees by the new meaning too: a deletion reads less, and a new name the same.
pub leaves_deleted : (disk : DiskState) (lists : Lists) (k : BoxNo) (amounts : List MapCount) → (s : IsSettled disk lists) → LeavesAlike s.safe.stands.map_log.generation (map_meaning s.store (s.entries ++ entry.X k amounts ∷ [])) disk
leaves_deleted disk lists k amounts s image held =
    let a : Files = files_of disk in
    let e : MapEntry = entry.X k amounts in
    let m : MapMeaning = map_meaning s.store s.entries in
    let alike : AreAlike s.safe.stands.map_log.generation m a image = s.alike image held in
    let is = map_more s.store s.entries e in
    let records = ap (λ (n : MapMeaning). n.records) is ∙ records_by_deleted k amounts m.records in
    let same : (row : MapRecord) → SameButCount row (record_changed e row) = λ row. record { uid = refl; origin = refl; file = refl; offset = refl; size = refl; guid = refl; instances = refl } in
    record {
      root = alike.root;
      map = alike.map;
      boxes = subst (λ (bs : List MapBox). All (λ (box : MapBox). image (file.Box box.number box.generation) ≡ a (file.Box box.number box.generation)) bs) (sym (ap (λ (n : MapMeaning). n.boxes) is ∙ boxes_by_deleted k amounts m.boxes))
          (All-filter (λ (box : MapBox). not (k.0 == box.number)) (λ (box : MapBox). image (file.Box box.number box.generation) ≡ a (file.Box box.number box.generation)) m.boxes alike.boxes);
      regions = subst (λ (rows : List MapRecord). All (HasSameRegion a image) rows) (sym records) (all_map (HasSameRegion a image) (HasSameRegion a image) (record_changed e) (λ row r. region_same a image row (record_changed e row) (same row) r) m.records alike.regions);
      instances = subst (λ (rows : List MapRecord). All (λ (row : MapRecord). All (HasSameInstance a image) row.instances) rows) (sym records)
          (all_map (λ (row : MapRecord). All (HasSameInstance a image) row.instances) (λ (row : MapRecord). All (HasSameInstance a image) row.instances) (record_changed e) (λ row h. h) m.records alike.instances);
    }

pub leaves_renamed : (disk : DiskState) (lists : Lists) (k : BoxNo) (name : List ℕ) → (s : IsSettled disk lists) → LeavesAlike s.safe.stands.map_log.generation (map_meaning s.store (s.entries ++ entry.V k name ∷ [])) disk
leaves_renamed disk lists k name s image held =
    let a : Files = files_of disk in
    let e : MapEntry = entry.V k name in
    let m : MapMeaning = map_meaning s.store s.entries in
    let alike : AreAlike s.safe.stands.map_log.generation m a image = s.alike image held in
    let is = map_more s.store s.entries e in
    let records = ap (λ (n : MapMeaning). n.records) is ∙ records_by_renamed k name m.records in
    record {
      root = alike.root;
      map = alike.map;
      boxes = subst (λ (bs : List MapBox). All (λ (box : MapBox). image (file.Box box.number box.generation) ≡ a (file.Box box.number box.generation)) bs) (sym (ap (λ (n : MapMeaning). n.boxes) is ∙ boxes_by_renamed k name m.boxes))
          (all_map (λ (box : MapBox). image (file.Box box.number box.generation) ≡ a (file.Box box.number box.generation)) (λ (box : MapBox). image (file.Box box.number box.generation) ≡ a (file.Box box.number box.generation)) (box_changed e) (named_box (k.0)) m.boxes alike.boxes);
      regions = subst (λ (rows : List MapRecord). All (HasSameRegion a image) rows) (sym records) alike.regions;
      instances = subst (λ (rows : List MapRecord). All (λ (row : MapRecord). All (HasSameInstance a image) row.instances) rows) (sym records) alike.instances;
    }
  where
    by_test : (t : Bool) (box : MapBox) → image (file.Box box.number box.generation) ≡ files_of disk (file.Box box.number box.generation)
        → image (file.Box (cond t (record box { name = name }) box).number (cond t (record box { name = name }) box).generation) ≡ files_of disk (file.Box (cond t (record box { name = name }) box).number (cond t (record box { name = name }) box).generation)
    by_test true box h = h
    by_test false box h = h

    named_box : (number : ℕ) (box : MapBox) → image (file.Box box.number box.generation) ≡ files_of disk (file.Box box.number box.generation)
        → image (file.Box (if number == box.number then record box { name = name } else box).number (if number == box.number then record box { name = name } else box).generation) ≡ files_of disk (file.Box (if number == box.number then record box { name = name } else box).number (if number == box.number then record box { name = name } else box).generation)
    named_box number box h = by_test (number == box.number) box h
