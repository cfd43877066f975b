-- A store in whose map log one entry more moves and drops the records of a storage file, which is doomed then.
use Rattle.store_core.proofs.Common.{inl, inr, ◌≡◌, ◌≢◌, ◌==◌, ◌≤◌, ◌+◌, ◌-◌, ℕ, Bool, true, false, cond, List, [], ◌∷◌, ◌++◌, map, length, Option, Some, None, All, refl, sym, ◌∙◌, ap, subst, arith, not, filter, ◌||◌, ◌⊎◌, Contains, list_any, option_map, cases_Bool, cases_eq, cond-true, cond-false}
use Rattle.store_core.proofs.Common.{true≢false, false≢true, map-append, All-nil, All-cons, All-head, All-tail, All-weaker, All-contains, All-contains_itself, DiskState, History, IfTold, SameButFor, reading, if_told-map, LogState, IsSameLog, Reads, BoxEntry, MapEntry, MapPlace, FileNo, MapUid}
use Rattle.store_core.proofs.Common.{IsAccounted, HasOneMore, map_text, MapInRange, kept_rows, map_more, changed_same, equal_is, MapFits, HasRecord, MapRecord, MapBox, MapMeaning, map_meaning, map_applied, record_at, record_rules, record_changed, has_map_uid, IsSoundMap, IsSoundRecord, found_holds}
use Rattle.store_core.proofs.Common.{found_one, root_same, Opens, listed_of, files_of, HasRoot, MailFile, FilesValue, file_in, end_in, changed_in, made_doomed, IsAsKnown, number_beside, due_at, listed_at, leak_at, LiesBelowEnd, AreFilesKept, StayThere, AreBoxLogs, IsRunning, IsUpTo, CoverDues}
use Rattle.store_core.proofs.Common.{IsStore, StoreValue}
use Rattle.std.proofs.Common.{◌⊎◌}
use Rattle.std.specs.Prelude.{find}
use Rattle.disk_model.specs.declared.name.FileName.TheVariants as file
use Rattle.mdbox_base.specs.declared.entries.MapEntry.TheVariants as entry
use Rattle.model_appends.specs.MapAppending.{AreCopied}
use Rattle.model_appends.proofs.AppendPurgeLemmas.{place_found, purged_boxes, found_purged}
use Rattle.model_appends.proofs.AppendPurgeOpenLemmas.{good_by_purge, opens_by_purge, accounted_by_purge}
use Rattle.model_meaning.proofs.AppliedLemmas.{records_by_purged}
use Rattle.model_meaning.proofs.MapSoundLemmas.{greatest_fits}
use Rattle.model_meaning.specs.MapFits.{IsMovedOrDropped}
use Rattle.model_meaning.specs.MapMeaning.{place_given, moved_record}
use Rattle.model_store.proofs.OpeningSafeLemmas.{at_uid}
use Rattle.storage_files.proofs.FileListLemmas.{file-here, file-other, ends-kept}
use Rattle.store_core.specs.Switching.{dues_without}
use Rattle.store_core.proofs.BoxAppendLemmas.{dues_of, store_sound, disk_more, root_stays}
use Rattle.store_core.proofs.DueLemmas.{AreNumbers, dues_each, at_own_place, covered_by, store_counts}
use Rattle.store_core.proofs.DueChangeLemmas.{numbers_are}
use Rattle.store_core.proofs.KeptFileLemmas.{with_change, kept_doomed}
use Rattle.store_core.proofs.MailChangeLemmas.{known_beside, stay_beside}
use Rattle.store_core.proofs.MapAppendLemmas.{boxes_read, listed_there}
use Rattle.store_core.proofs.MapDueLemmas.{leak_is, no_leak}
use Rattle.store_core.proofs.PickingLemmas.{reads_other}

-- ---- what is known before

pub record Switching {D : Type 0} (h : Option History) (v : StoreValue D) (f : FileNo) (t : ℕ) (ms : List MapPlace) (us : List MapUid) : Type 0 where
  pub store : IsStore h v
  pub running : v.stopped ≡ false
  pub in_range : MapInRange (entry.P f t ms us)
  pub fits : MapFits v.map (entry.P f t ms us)
  pub drawn_file : f.0 ≤ v.drawn.file
  pub drawn_target : t ≤ v.drawn.file
  pub below : All (λ place. HasRecord v.map place.uid.0 (λ row. LiesBelowEnd v.map.store v.files.files (record row { file = t; offset = place.offset }))) ms
  pub copied : IfTold h (λ now. AreCopied (files_of now) v.map t ms)

-- ---- records

-- a record that the lists leave alone
leaves_alone : (f t : ℕ) (ms : List MapPlace) (us : List MapUid) (m : MapMeaning) (row : MapRecord) → IsSoundMap m → Contains m.records row → All (λ p. HasRecord m p.uid.0 (λ r. r.file ≡ f)) ms → All (λ u. HasRecord m u.0 (λ r. (r.file ≡ f) × (r.count ≡ 0))) us
    → row.file ≢ f → (has_map_uid row.uid us ≡ false) × (place_given row.uid ms ≡ None)
leaves_alone f t ms us m row sound c moved dropped apart = (not_there us dropped, no_place (place_given row.uid ms) refl)
  where
    no_place : (o : Option MapPlace) → place_given row.uid ms ≡ o → o ≡ None
    no_place None e = refl
    no_place (Some place) e = absurd (apart (place_found m (λ p r. r.file ≡ f) ms row sound c moved place e))

    one_there : (a : MapRecord) → record_at m row.uid ≡ Some a → a ≡ row
    one_there a found = let e : Some a ≡ Some row = sym found ∙ at_uid m row sound c in cc e

    not_there : (ds : List MapUid) → All (λ u. HasRecord m u.0 (λ r. (r.file ≡ f) × (r.count ≡ 0))) ds → has_map_uid row.uid ds ≡ false
    not_there [] all = refl
    not_there (d ∷ ds) all = by_test (d.0 == row.uid) refl (not_there ds (All-tail (λ (u : MapUid). HasRecord m u.0 (λ r. (r.file ≡ f) × (r.count ≡ 0))) d ds all))
      where
        by_test : (b : Bool) → (d.0 == row.uid) ≡ b → has_map_uid row.uid ds ≡ false → (b || has_map_uid row.uid ds) ≡ false
        by_test false e rest = rest
        by_test true e rest =
            let has = All-head (λ (u : MapUid). HasRecord m u.0 (λ r. (r.file ≡ f) × (r.count ≡ 0))) d ds all in
            let same : has.0 ≡ row = one_there has.0 (subst (λ (n : ℕ). record_at m n ≡ Some has.0) (equal_is d.0 row.uid e) has.1) in
            absurd (apart (ap (λ (r : MapRecord). r.file) (sym same) ∙ has.2.0))

-- the rows that stay, one by one
abbrev rows_switched : FileNo → ℕ → List MapPlace → List MapUid → List MapRecord → List MapRecord
rows_switched f t ms us rows = kept_rows record_rules (entry.P f t ms us) rows

row_kept : (f : FileNo) (t : ℕ) (ms : List MapPlace) (us : List MapUid) (row : MapRecord) (rows : List MapRecord) → has_map_uid row.uid us ≡ false
    → rows_switched f t ms us (row ∷ rows) ≡ moved_record row t (place_given row.uid ms) ∷ rows_switched f t ms us rows
row_kept f t ms us row rows is =
    ap (map (record_changed (entry.P f t ms us))) (cond-true (not (has_map_uid row.uid us)) (row ∷ filter (λ r. not (has_map_uid r.uid us)) rows) (filter (λ r. not (has_map_uid r.uid us)) rows) (ap not is))

row_gone : (f : FileNo) (t : ℕ) (ms : List MapPlace) (us : List MapUid) (row : MapRecord) (rows : List MapRecord) → has_map_uid row.uid us ≡ true → rows_switched f t ms us (row ∷ rows) ≡ rows_switched f t ms us rows
row_gone f t ms us row rows is =
    ap (map (record_changed (entry.P f t ms us))) (cond-false (not (has_map_uid row.uid us)) (row ∷ filter (λ r. not (has_map_uid r.uid us)) rows) (filter (λ r. not (has_map_uid r.uid us)) rows) (ap not is))

-- no record is left in the file
moved_away : (f t : ℕ) (ms : List MapPlace) (us : List MapUid) (row : MapRecord) → t ≢ f ⊎ (ms ≡ []) → (row.file ≡ f → IsMovedOrDropped ms us row) → has_map_uid row.uid us ≡ false → (moved_record row t (place_given row.uid ms)).file ≢ f
moved_away f t ms us row apart each stays = by_place (place_given row.uid ms) refl
  where
    no_hit : (ps : List MapPlace) → place_given row.uid ps ≡ None → list_any (λ p. p.uid.0 == row.uid) ps ≡ false
    no_hit [] e = refl
    no_hit (p ∷ ps) e = by_test (p.uid.0 == row.uid) e (no_hit ps)
      where
        by_test : (b : Bool) → cond b (Some p) (place_given row.uid ps) ≡ None → (place_given row.uid ps ≡ None → list_any (λ q. q.uid.0 == row.uid) ps ≡ false) → (b || list_any (λ q. q.uid.0 == row.uid) ps) ≡ false
        by_test true w rest = absurd (let x : Some p ≡ None = w in cc x)
        by_test false w rest = rest w

    none_given : ms ≡ [] → place_given row.uid ms ≡ None
    none_given e = ap (place_given row.uid) e

    by_place : (o : Option MapPlace) → place_given row.uid ms ≡ o → (moved_record row t o).file ≢ f
    by_place None e = λ is. true≢false (sym (each is ∙ ap not stays) ∙ no_hit ms e)
    by_place (Some place) e = λ is. elim apart [
      | inl other ↦ other is
      | inr none ↦ absurd (let w : None ≡ Some place = sym (none_given none) ∙ e in cc w)
    ]

pub none_left : (f : FileNo) (t : ℕ) (ms : List MapPlace) (us : List MapUid) (rows : List MapRecord) → t ≢ f.0 ⊎ (ms ≡ []) → All (λ row. row.file ≡ f.0 → IsMovedOrDropped ms us row) rows → All (λ row. row.file ≢ f.0) (rows_switched f t ms us rows)
none_left f t ms us [] apart each = All-nil (λ (row : MapRecord). row.file ≢ f.0)
none_left f t ms us (row ∷ rows) apart each =
    let rest = none_left f t ms us rows apart (All-tail (λ (r : MapRecord). r.file ≡ f.0 → IsMovedOrDropped ms us r) row rows each) in
    elim (cases_Bool (has_map_uid row.uid us)) [
      | inl gone ↦ subst (All (λ (r : MapRecord). r.file ≢ f.0)) (sym (row_gone f t ms us row rows gone)) rest
      | inr stays ↦ subst (All (λ (r : MapRecord). r.file ≢ f.0)) (sym (row_kept f t ms us row rows stays))
          (All-cons (λ (r : MapRecord). r.file ≢ f.0) (moved_record row t (place_given row.uid ms)) (rows_switched f t ms us rows)
          (moved_away f.0 t ms us row apart (All-head (λ (r : MapRecord). r.file ≡ f.0 → IsMovedOrDropped ms us r) row rows each) stays) rest)
    ]

-- a record in another file is still there
any_left : (f : FileNo) (t : ℕ) (ms : List MapPlace) (us : List MapUid) (number : ℕ) (rows : List MapRecord) → number ≢ f.0 → All (λ row. row.file ≢ f.0 → (has_map_uid row.uid us ≡ false) × (place_given row.uid ms ≡ None)) rows
    → list_any (λ row. row.file == number) rows ≡ true → list_any (λ row. row.file == number) (rows_switched f t ms us rows) ≡ true
any_left f t ms us number [] apart alone has = absurd (false≢true has)
any_left f t ms us number (row ∷ rows) apart alone has =
    let rest = any_left f t ms us number rows apart (All-tail (λ (r : MapRecord). r.file ≢ f.0 → (has_map_uid r.uid us ≡ false) × (place_given r.uid ms ≡ None)) row rows alone) in
    elim (cases_Bool (row.file == number)) [
      | inl hit ↦
          let is : row.file ≡ number = equal_is row.file number hit in
          let a = All-head (λ (r : MapRecord). r.file ≢ f.0 → (has_map_uid r.uid us ≡ false) × (place_given r.uid ms ≡ None)) row rows alone (λ e. apart (sym is ∙ e)) in
          ap (list_any (λ r. r.file == number)) (row_kept f t ms us row rows a.0)
          ∙ ap (λ (o : Option MapPlace). ((moved_record row t o).file == number) || list_any (λ r. r.file == number) (rows_switched f t ms us rows)) a.1
          ∙ ap (λ (b : Bool). b || list_any (λ r. r.file == number) (rows_switched f t ms us rows)) hit
      | inr miss ↦
          let there = rest (sym (ap (λ (b : Bool). b || list_any (λ r. r.file == number) rows) miss) ∙ has) in
          elim (cases_Bool (has_map_uid row.uid us)) [
            | inl gone ↦ ap (list_any (λ r. r.file == number)) (row_gone f t ms us row rows gone) ∙ there
            | inr stays ↦
                ap (list_any (λ r. r.file == number)) (row_kept f t ms us row rows stays)
                ∙ ap (λ (b : Bool). ((moved_record row t (place_given row.uid ms)).file == number) || b) there ∙ or_true ((moved_record row t (place_given row.uid ms)).file == number)
          ]
    ]
  where
    or_true : (b : Bool) → (b || true) ≡ true
    or_true true = refl
    or_true false = refl

-- ---- numbers at records

numbers_left : (f : FileNo) (t : ℕ) (ms : List MapPlace) (us : List MapUid) (due : ℕ → ℕ) (rows : List MapRecord) (ns : List ℕ) → AreNumbers due rows ns → AreNumbers due (rows_switched f t ms us rows) (dues_without us rows ns)
numbers_left f t ms us due [] [] a = tt
numbers_left f t ms us due [] (n ∷ ns) a = absurd a
numbers_left f t ms us due (row ∷ rows) [] a = absurd a
numbers_left f t ms us due (row ∷ rows) (n ∷ ns) a = elim (cases_Bool (has_map_uid row.uid us)) [
  | inl gone ↦
      subst (λ (rs : List MapRecord). AreNumbers due rs (dues_without us (row ∷ rows) (n ∷ ns))) (sym (row_gone f t ms us row rows gone))
      (subst (AreNumbers due (rows_switched f t ms us rows)) (sym (cond-false (not (has_map_uid row.uid us)) (n ∷ dues_without us rows ns) (dues_without us rows ns) (ap not gone))) (numbers_left f t ms us due rows ns a.1))
  | inr stays ↦
      subst (λ (rs : List MapRecord). AreNumbers due rs (dues_without us (row ∷ rows) (n ∷ ns))) (sym (row_kept f t ms us row rows stays))
      (subst (AreNumbers due (moved_record row t (place_given row.uid ms) ∷ rows_switched f t ms us rows)) (sym (cond-true (not (has_map_uid row.uid us)) (n ∷ dues_without us rows ns) (dues_without us rows ns) (ap not stays)))
      (ap due (changed_same (entry.P f t ms us) row).uid ∙ a.0, numbers_left f t ms us due rows ns a.1))
]

-- ---- files

below_switched : (f : FileNo) (t : ℕ) (ms : List MapPlace) (us : List MapUid) (m : MapMeaning) (files : List MailFile) → IsSoundMap m → All (λ place. HasRecord m place.uid.0 (λ row. LiesBelowEnd m.store files (record row { file = t; offset = place.offset }))) ms
    → (rows : List MapRecord) → All (Contains m.records) rows → All (LiesBelowEnd m.store files) rows → All (LiesBelowEnd m.store files) (rows_switched f t ms us rows)
below_switched f t ms us m files sound below [] there all = All-nil (LiesBelowEnd m.store files)
below_switched f t ms us m files sound below (row ∷ rows) there all =
    let rest = below_switched f t ms us m files sound below rows (All-tail (Contains m.records) row rows there) (All-tail (LiesBelowEnd m.store files) row rows all) in
    elim (cases_Bool (has_map_uid row.uid us)) [
      | inl gone ↦ subst (All (LiesBelowEnd m.store files)) (sym (row_gone f t ms us row rows gone)) rest
      | inr stays ↦ subst (All (LiesBelowEnd m.store files)) (sym (row_kept f t ms us row rows stays))
          (All-cons (LiesBelowEnd m.store files) (moved_record row t (place_given row.uid ms)) (rows_switched f t ms us rows) (here (place_given row.uid ms) refl) rest)
    ]
  where
    here : (o : Option MapPlace) → place_given row.uid ms ≡ o → LiesBelowEnd m.store files (moved_record row t o)
    here None e = All-head (LiesBelowEnd m.store files) row rows all
    here (Some place) e = place_found m (λ p r. LiesBelowEnd m.store files (record r { file = t; offset = p.offset })) ms row sound (All-head (Contains m.records) row rows there) below place e

-- ---- the store

abbrev switch : FileNo → ℕ → List MapPlace → List MapUid → MapEntry
switch f t ms us = entry.P f t ms us

pub fits_as : {D : Type 0} → (h : Option History) (v : StoreValue D) (f : FileNo) (t : ℕ) (ms : List MapPlace) (us : List MapUid) → (r : Switching h v f t ms us) → MapFits (map_meaning v.map.store r.store.entries) (entry.P f t ms us)
fits_as h v f t ms us r = subst (λ (m : MapMeaning). MapFits m (entry.P f t ms us)) r.store.map_is r.fits

pub meant : {D : Type 0} → (h : Option History) (v : StoreValue D) (f : FileNo) (t : ℕ) (ms : List MapPlace) (us : List MapUid) → (r : Switching h v f t ms us) → map_applied (entry.P f t ms us) v.map ≡ map_meaning v.map.store (r.store.entries ++ entry.P f t ms us ∷ [])
meant h v f t ms us r = ap (map_applied (entry.P f t ms us)) r.store.map_is ∙ sym (map_more v.map.store r.store.entries (entry.P f t ms us))

records_are : {D : Type 0} → (v : StoreValue D) (f : FileNo) (t : ℕ) (ms : List MapPlace) (us : List MapUid) → (map_applied (entry.P f t ms us) v.map).records ≡ rows_switched f t ms us v.map.records
records_are v f t ms us = records_by_purged f t ms us v.map.records

target_apart : (m : MapMeaning) (f t : ℕ) (ms : List MapPlace) (us : List MapUid) (p : FileNo) → p.0 ≡ f → MapFits m (entry.P p t ms us) → t ≢ f ⊎ (ms ≡ [])
target_apart m f t [] us p is fits = inr refl
target_apart m f t (x ∷ ms) us p is fits = inl (subst (λ (n : ℕ). t ≢ n) is (fits.target_fits.1))

none_there : {D : Type 0} → (h : Option History) (v : StoreValue D) (f : FileNo) (t : ℕ) (ms : List MapPlace) (us : List MapUid) → Switching h v f t ms us → All (λ row. row.file ≢ f.0) (map_applied (entry.P f t ms us) v.map).records
none_there h v f t ms us r = subst (All (λ (row : MapRecord). row.file ≢ f.0)) (sym (records_are v f t ms us)) (none_left f t ms us v.map.records (target_apart v.map f.0 t ms us f refl r.fits) r.fits.each)

alone_there : {D : Type 0} → (h : Option History) (v : StoreValue D) (f : FileNo) (t : ℕ) (ms : List MapPlace) (us : List MapUid) → Switching h v f t ms us
    → All (λ row. row.file ≢ f.0 → (has_map_uid row.uid us ≡ false) × (place_given row.uid ms ≡ None)) v.map.records
alone_there h v f t ms us r =
    All-weaker (Contains v.map.records) (λ (row : MapRecord). row.file ≢ f.0 → (has_map_uid row.uid us ≡ false) × (place_given row.uid ms ≡ None))
    (λ row c apart. leaves_alone f.0 t ms us v.map row (store_sound h v r.store) c r.fits.moved_here r.fits.dropped_here apart) v.map.records (All-contains_itself v.map.records)

-- counts are made up as before
accounted_there : {D : Type 0} → (h : Option History) (v : StoreValue D) (f : FileNo) (t : ℕ) (ms : List MapPlace) (us : List MapUid) → (r : Switching h v f t ms us)
    → All (IsAccounted (dues_of v) (λ uid. leak_at uid v) r.store.logs) (map_applied (entry.P f t ms us) v.map).records
accounted_there h v f t ms us r =
    let s = r.store in
    subst (λ (m : MapMeaning). All (IsAccounted (dues_of v) (λ uid. leak_at uid v) s.logs) m.records) (sym (meant h v f t ms us r))
    (accounted_by_purge v.map.store s.entries s.logs (dues_of v) (λ uid. leak_at uid v) f t ms us
    (subst (λ (m : MapMeaning). All (IsAccounted (dues_of v) (λ uid. leak_at uid v) s.logs) m.records) s.map_is (store_counts h v s.logs s (store_sound h v s).rising s.boxes_are)))

dues_are : {D : Type 0} → (h : Option History) (v : StoreValue D) (f : FileNo) (t : ℕ) (ms : List MapPlace) (us : List MapUid) → (r : Switching h v f t ms us)
    → dues_without us v.map.records v.dues ≡ map (λ row. dues_of v row.uid) (map_applied (entry.P f t ms us) v.map).records
dues_are h v f t ms us r =
    let s = r.store in
    subst (λ (rows : List MapRecord). dues_without us v.map.records v.dues ≡ map (λ row. dues_of v row.uid) rows) (sym (records_are v f t ms us))
    (numbers_are (dues_of v) (rows_switched f t ms us v.map.records) (dues_without us v.map.records v.dues)
    (numbers_left f t ms us (dues_of v) v.map.records v.dues (at_own_place v.map.records v.dues (store_sound h v s).rising (dues_each s.logs v.map.records v.dues s.counts))))

covers_there : {D : Type 0} → (h : Option History) (v : StoreValue D) (f : FileNo) (t : ℕ) (ms : List MapPlace) (us : List MapUid) → (r : Switching h v f t ms us)
    → CoverDues r.store.logs (map_applied (entry.P f t ms us) v.map).records (dues_without us v.map.records v.dues)
covers_there h v f t ms us r =
    subst (λ (ns : List ℕ). CoverDues r.store.logs (map_applied (entry.P f t ms us) v.map).records ns) (sym (dues_are h v f t ms us r))
    (covered_by (dues_of v) (λ uid. leak_at uid v) r.store.logs (map_applied (entry.P f t ms us) v.map).records (accounted_there h v f t ms us r))

-- the entry names numbers of records and files alone
named_below : (m : MapMeaning) (uid : ℕ) (row : MapRecord) → IsSoundMap m → record_at m uid ≡ Some row → uid ≤ m.highest.map
named_below m uid row sound found =
    let h : IsSoundRecord m.highest.map row × ((row.uid == uid) ≡ true) = found_holds (λ (r : MapRecord). r.uid == uid) m.records row (IsSoundRecord m.highest.map) found sound.records in
    let at : row.uid ≡ uid = equal_is row.uid uid h.1 in
    let below = h.0.below in
    omega (arith, at, below)

drawn_up : {D : Type 0} → (h : Option History) (v : StoreValue D) (f : FileNo) (t : ℕ) (ms : List MapPlace) (us : List MapUid) → Switching h v f t ms us → IsUpTo v.drawn (map_applied (entry.P f t ms us) v.map).highest
drawn_up h v f t ms us r =
    let m : MapMeaning = v.map in
    let sound : IsSoundMap m = store_sound h v r.store in
    let up = r.store.drawn in
    let a = up.file in
    let b = up.map in
    let c = up.instance in
    let d = up.mailbox in
    let x = r.drawn_file in
    let y = r.drawn_target in
    let moved = greatest_fits (λ (p : MapPlace). p.uid.0) m.highest.map ms (All-weaker (λ (p : MapPlace). HasRecord m p.uid.0 (λ r. r.file ≡ f.0)) (λ (p : MapPlace). p.uid.0 ≤ m.highest.map) (λ p q. named_below m p.uid.0 q.0 sound q.1) ms r.fits.moved_here) in
    let dropped = greatest_fits (λ (u : MapUid). u.0) m.highest.map us (All-weaker (λ (u : MapUid). HasRecord m u.0 (λ r. (r.file ≡ f.0) × (r.count ≡ 0))) (λ (u : MapUid). u.0 ≤ m.highest.map) (λ u q. named_below m u.0 q.0 sound q.1) us r.fits.dropped_here) in
    record { file = omega (arith, a, x, y); map = omega (arith, b, moved, dropped); instance = omega (arith, c); mailbox = omega (arith, d) }

-- its storage files, of which this one is doomed
files_kept : {D : Type 0} → (h : Option History) (v : StoreValue D) (f : FileNo) (t : ℕ) (ms : List MapPlace) (us : List MapUid) (fs : FilesValue) → Switching h v f t ms us → fs ≡ with_change f.0 made_doomed v.files
    → AreFilesKept fs v.drawn (map_applied (entry.P f t ms us) v.map)
files_kept h v f t ms us fs r is =
    let k = r.store.files in
    let m : MapMeaning = map_applied (entry.P f t ms us) v.map in
    kept_doomed f.0 v.files fs v.drawn m is (record {
      highest = k.highest;
      numbered = k.numbered;
      taken = k.taken;
      sealed = k.sealed;
      pinned = λ number g apart found pinned. elim (k.pinned number g found pinned) [
        | inl doomed ↦ inl doomed
        | inr has ↦ inr (ap (list_any (λ row. row.file == number)) (records_are v f t ms us) ∙ any_left f t ms us number v.map.records apart (alone_there h v f t ms us r) has)
      ];
      below = subst (All (LiesBelowEnd v.map.store v.files.files)) (sym (records_are v f t ms us))
          (below_switched f t ms us v.map v.files.files (store_sound h v r.store) r.below v.map.records (All-contains_itself v.map.records) k.below);
      none = none_there h v f t ms us r;
    })

-- files that no crash takes away
stay_switched : {D : Type 0} → (h : Option History) (v : StoreValue D) (f : FileNo) (t : ℕ) (ms : List MapPlace) (us : List MapUid) (fs : FilesValue) (disk : DiskState) → Switching h v f t ms us → fs ≡ with_change f.0 made_doomed v.files
    → StayThere v.files.files v.map.records disk → StayThere fs.files (map_applied (entry.P f t ms us) v.map).records disk
stay_switched h v f t ms us fs disk r is stay = λ number g found grows there. elim (cases_eq number f.0) [
  | inl same ↦
      let at : file_in f.0 (changed_in f.0 made_doomed v.files.files) ≡ Some g = subst (λ (w : FilesValue). file_in f.0 w.files ≡ Some g) is (subst (λ (n : ℕ). file_in n fs.files ≡ Some g) same found) in
      let here : option_map made_doomed (file_in f.0 v.files.files) ≡ Some g = sym (file-here f.0 made_doomed v.files.files (λ k. refl)) ∙ at in
      absurd (true≢false (sym (is_doomed (file_in f.0 v.files.files) g here) ∙ grows.undoomed))
  | inr apart ↦
      let at : file_in number (changed_in f.0 made_doomed v.files.files) ≡ Some g = subst (λ (w : FilesValue). file_in number w.files ≡ Some g) is found in
      let old : file_in number v.files.files ≡ Some g = sym (file-other f.0 number made_doomed v.files.files (λ k. refl) apart) ∙ at in
      elim (stay number g old grows there) [
        | inl has ↦ inl (ap (list_any (λ row. row.file == number)) (records_are v f t ms us) ∙ any_left f t ms us number v.map.records apart (alone_there h v f t ms us r) has)
        | inr firm ↦ inr firm
      ]
]
  where
    is_doomed : (o : Option MailFile) (g : MailFile) → option_map made_doomed o ≡ Some g → g.doomed ≡ true
    is_doomed None g e = absurd (let w : None ≡ Some g = e in cc w)
    is_doomed (Some k) g e = let w : made_doomed k ≡ g = (let x : Some (made_doomed k) ≡ Some g = e in cc x) in ap (λ (y : MailFile). y.doomed) (sym w)

-- the disk has the files as they are known
known_doomed : (n : ℕ) (old new : FilesValue) (h : Option History) → new ≡ with_change n made_doomed old → ((number : ℕ) → IsAsKnown old.files number h) → (number : ℕ) → IsAsKnown new.files number h
known_doomed n old new h is known = λ number.
    if_told-map (λ disk. option_map length (reading (disk (file.Mail number))) ≡ end_in number old.files) (λ disk. option_map length (reading (disk (file.Mail number))) ≡ end_in number new.files) h
    (λ disk e. e ∙ sym (ends-kept n number made_doomed old.files (λ f. refl) (λ f. refl)) ∙ ap (λ (w : FilesValue). end_in number w.files) (sym is)) (known number)

opens_switched : (old new : Option History) (id : List ℕ) (entries : List MapEntry) (logs : List (List BoxEntry)) (generation : ℕ) (a b : LogState) (f : FileNo) (t : ℕ) (ms : List MapPlace) (us : List MapUid) → IfTold old (λ now. Opens (files_of now) id entries logs)
    → IfTold old (λ now. HasRoot (files_of now) id generation) → MapInRange (entry.P f t ms us) → MapFits (map_meaning id entries) (entry.P f t ms us) → IfTold old (λ now. AreCopied (files_of now) (map_meaning id entries) t ms)
    → a.name ≡ file.Map generation → IsSameLog a b → SameButFor a.name old new → Reads a (map map_text entries) old → Reads b (map map_text entries ++ map_text (entry.P f t ms us) ∷ []) new
    → IfTold new (λ now. Opens (files_of now) id (entries ++ entry.P f t ms us ∷ []) logs)
opens_switched None new id entries logs generation a b f t ms us o root in_range fits copied name log same r q = subst (λ (h : Option History). IfTold h (λ now. Opens (files_of now) id (entries ++ entry.P f t ms us ∷ []) logs)) (sym same) tt
opens_switched (Some old) None id entries logs generation a b f t ms us o root in_range fits copied name log same r q = absurd same
opens_switched (Some old) (Some new) id entries logs generation a b f t ms us o root in_range fits copied name log same r q =
    let at : a.name ≡ file.Map o.passed.map_log.generation = name ∙ ap (λ (n : ℕ). file.Map n) (root_same (files_of old.now) id id generation o.passed.map_log.generation root o.passed.map_log.root).1 in
    opens_by_purge (files_of old.now) (files_of new.now) id entries logs f t ms us o in_range fits copied (λ other apart. ap reading (same other (λ p. apart (p ∙ at))))
    (subst (λ (n : _). HasOneMore (map_text (entry.P f t ms us)) (reading (old.now n)) (reading (new.now n))) at (disk_more a b (map map_text entries) (map_text (entry.P f t ms us)) old.now new.now log.name log.head r q))

-- the store with the entry
abbrev pub switched : {D : Type 0} → StoreValue D → D → LogState → FilesValue → FileNo → ℕ → List MapPlace → List MapUid → StoreValue D
switched v disk log fs f t ms us = record v { disk = disk; map_log = log; map = map_applied (entry.P f t ms us) v.map; files = fs; dues = dues_without us v.map.records v.dues }

runs_switched : {D : Type 0} → (old new : Option History) (v : StoreValue D) (disk : D) (log : LogState) (fs : FilesValue) (f : FileNo) (t : ℕ) (ms : List MapPlace) (us : List MapUid) → (r : Switching old v f t ms us) → fs ≡ with_change f.0 made_doomed v.files
    → IsSameLog v.map_log log → SameButFor v.map_log.name old new → ((texts : List (List ℕ)) → Reads v.map_log texts old → Reads log (texts ++ map_text (entry.P f t ms us) ∷ []) new)
    → IsRunning new r.store.generation (switched v disk log fs f t ms us) (r.store.entries ++ entry.P f t ms us ∷ []) r.store.logs
runs_switched old new v disk log fs f t ms us r is same_log others added =
    let s = r.store in
    let e : MapEntry = entry.P f t ms us in
    let runs = s.running r.running in
    let same : SameButFor (file.Map s.generation) old new = subst (λ (n : _). SameButFor n old new) s.map_name others in
    let no_mail : (mail : ℕ) → file.Mail mail ≢ v.map_log.name = λ mail q. absurd (let p : file.Mail mail ≡ file.Map s.generation = q ∙ s.map_name in cc p) in
    record {
      files_known = known_doomed f.0 v.files fs new is (known_beside v.map_log.name v.files.files old new no_mail others runs.files_known);
      files_stay = if_told-map _ _ new (λ state stay. stay_switched old v f t ms us fs state r is stay) (stay_beside v.map_log.name v.files.files v.map.records old new no_mail others runs.files_stay);
      opens = opens_switched old new v.map.store s.entries s.logs s.generation v.map_log log f t ms us runs.opens runs.root r.in_range (fits_as old v f t ms us r)
          (subst (λ (m : MapMeaning). IfTold old (λ now. AreCopied (files_of now) m t ms)) s.map_is r.copied) s.map_name same_log others runs.map_log_reads (added (map map_text s.entries) runs.map_log_reads);
      root = root_stays v.map_log.name v.map.store s.generation old new others (λ q. absurd (let p : file.Root ≡ file.Map s.generation = q ∙ s.map_name in cc p)) runs.root;
      root_entries = runs.root_entries;
      root_log_reads = reads_other v.map_log.name v.root_log runs.root_entries old new others (λ q. absurd (let p : file.Root ≡ file.Map s.generation = sym s.root_name ∙ q ∙ s.map_name in cc p)) runs.root_log_reads;
      map_log_reads = subst (λ (texts : List (List ℕ)). Reads log texts new) (sym (map-append map_text s.entries (e ∷ []))) (added (map map_text s.entries) runs.map_log_reads);
      box_logs_read = boxes_read s.generation v.map.store v.map.boxes v.boxes s.logs old new s.box_logs same runs.box_logs_read;
    }

pub boxes_stay : {D : Type 0} → (h : Option History) (v : StoreValue D) (f : FileNo) (t : ℕ) (ms : List MapPlace) (us : List MapUid) → (r : Switching h v f t ms us) → (map_applied (entry.P f t ms us) v.map).boxes ≡ v.map.boxes
boxes_stay h v f t ms us r =
    ap (λ (m : MapMeaning). m.boxes) (meant h v f t ms us r) ∙ purged_boxes v.map.store r.store.entries f t ms us ∙ ap (λ (m : MapMeaning). m.boxes) (sym r.store.map_is)

store_switched : {D : Type 0} → (old new : Option History) (v : StoreValue D) (disk : D) (log : LogState) (fs : FilesValue) (f : FileNo) (t : ℕ) (ms : List MapPlace) (us : List MapUid) → (r : Switching old v f t ms us) → fs ≡ with_change f.0 made_doomed v.files
    → IsSameLog v.map_log log → SameButFor v.map_log.name old new → ((texts : List (List ℕ)) → Reads v.map_log texts old → Reads log (texts ++ map_text (entry.P f t ms us) ∷ []) new) → IsStore new (switched v disk log fs f t ms us)
store_switched old new v disk log fs f t ms us r is same others added =
    let s = r.store in
    record {
      entries = s.entries ++ entry.P f t ms us ∷ [];
      logs = s.logs;
      generation = s.generation;
      good = good_by_purge v.map.store s.entries s.logs f t ms us s.good r.in_range (fits_as old v f t ms us r);
      map_is = meant old v f t ms us r;
      boxes_are = s.boxes_are;
      counts = covers_there old v f t ms us r;
      drawn = drawn_up old v f t ms us r;
      files = files_kept old v f t ms us fs r is;
      root_name = s.root_name;
      root_head = s.root_head;
      map_name = same.name ∙ s.map_name;
      map_head = same.head ∙ s.map_head;
      box_logs = subst (λ (bs : List MapBox). AreBoxLogs v.map.store bs v.boxes) (sym (boxes_stay old v f t ms us r)) s.box_logs;
      some_lanes = s.some_lanes;
      few_lanes = s.few_lanes;
      running = λ runs. runs_switched old new v disk log fs f t ms us r is same others added;
    }

-- by what the code has at hand
pub store_after_switch : {D : Type 0} → (old new : Option History) (v : StoreValue D) (disk : D) (log : LogState) (m : MapMeaning) (fs : FilesValue) (dues : List ℕ) (f : FileNo) (t : ℕ) (ms : List MapPlace) (us : List MapUid) → (r : Switching old v f t ms us)
    → m ≡ map_applied (entry.P f t ms us) v.map → fs ≡ with_change f.0 made_doomed v.files → dues ≡ dues_without us v.map.records v.dues
    → IsSameLog v.map_log log → SameButFor v.map_log.name old new → ((texts : List (List ℕ)) → Reads v.map_log texts old → Reads log (texts ++ map_text (entry.P f t ms us) ∷ []) new)
    → IsStore new (record v { disk = disk; map_log = log; map = m; files = fs; dues = dues })
store_after_switch old new v disk log m fs dues f t ms us r a is c same others added =
    subst (λ (x : MapMeaning). IsStore new (record v { disk = disk; map_log = log; map = x; files = fs; dues = dues })) (sym a)
    (subst (λ (x : List ℕ). IsStore new (record v { disk = disk; map_log = log; map = map_applied (entry.P f t ms us) v.map; files = fs; dues = x })) (sym c) (store_switched old new v disk log fs f t ms us r is same others added))

-- ---- what is due, and what leaks

-- of a record with a count of 0 nothing is due
pub none_due : {D : Type 0} → (h : Option History) (v : StoreValue D) (uid : ℕ) (row : MapRecord) → IsStore h v → record_at v.map uid ≡ Some row → row.count ≡ 0 → due_at uid v ≡ 0
none_due h v uid row s found none =
    let one = found_one (λ (x : MapRecord). x.uid == uid) v.map.records row found in
    let at : row.uid ≡ uid = equal_is row.uid uid one.1 in
    let made : row.count ≡ listed_of s.logs row.uid + dues_of v row.uid + leak_at row.uid v = All-contains (IsAccounted (dues_of v) (λ u. leak_at u v) s.logs) v.map.records row (store_counts h v s.logs s (store_sound h v s).rising s.boxes_are) one.0 in
    let zero : dues_of v row.uid ≡ 0 = omega (arith, made, none) in
    subst (λ (n : ℕ). dues_of v n ≡ 0) at zero

zero_due : {D : Type 0} → (h : Option History) (v : StoreValue D) (f : FileNo) (t : ℕ) (ms : List MapPlace) (us : List MapUid) (uid : ℕ) (row : MapRecord) → (r : Switching h v f t ms us) → record_at v.map uid ≡ Some row → record_at (map_applied (entry.P f t ms us) v.map) uid ≡ None → due_at uid v ≡ 0
zero_due h v f t ms us uid row r found gone = by_count (cases_eq row.count 0)
  where
    by_count : (row.count ≡ 0) ⊎ (row.count ≢ 0) → due_at uid v ≡ 0
    by_count (inl none) = none_due h v uid row r.store found none
    by_count (inr some) =
        let e : MapEntry = entry.P f t ms us in
        let s = r.store in
        let at : record_at (map_meaning v.map.store s.entries) uid ≡ Some row = ap (λ (m : MapMeaning). record_at m uid) (sym s.map_is) ∙ found in
        let still = found_purged v.map.store s.entries f t ms us uid row (subst IsSoundMap s.map_is (store_sound h v s)) (fits_as h v f t ms us r) at (omega (arith, some)) in
        absurd (let w : None ≡ Some (moved_record row t (place_given row.uid ms)) = sym gone ∙ ap (λ (m : MapMeaning). record_at m uid) (meant h v f t ms us r) ∙ still in cc w)

pub due_stays : {D : Type 0} → (h : Option History) (v : StoreValue D) (f : FileNo) (t : ℕ) (ms : List MapPlace) (us : List MapUid) (uid : ℕ) → Switching h v f t ms us
    → number_beside uid (map_applied (entry.P f t ms us) v.map).records (dues_without us v.map.records v.dues) ≡ due_at uid v
due_stays h v f t ms us uid r =
    let rows : List MapRecord = (map_applied (entry.P f t ms us) v.map).records in
    ap (number_beside uid rows) (dues_are h v f t ms us r) ∙ by_found (record_at (map_applied (entry.P f t ms us) v.map) uid) refl
  where
    beside_map : (d : ℕ → ℕ) (rows : List MapRecord) (row : MapRecord) → find (λ x. x.uid == uid) rows ≡ Some row → number_beside uid rows (map (λ x. d x.uid) rows) ≡ d uid
    beside_map d [] row e = absurd (let w : None ≡ Some row = e in cc w)
    beside_map d (x ∷ xs) row e = by_test (x.uid == uid) refl e (beside_map d xs row)
      where
        by_test : (b : Bool) → (x.uid == uid) ≡ b → cond b (Some x) (find (λ y. y.uid == uid) xs) ≡ Some row → (find (λ y. y.uid == uid) xs ≡ Some row → number_beside uid xs (map (λ y. d y.uid) xs) ≡ d uid)
            → cond b (d x.uid) (number_beside uid xs (map (λ y. d y.uid) xs)) ≡ d uid
        by_test true is w rest = ap d (equal_is x.uid uid is)
        by_test false is w rest = rest w

    beside_no : (ns : List ℕ) (rows : List MapRecord) → find (λ x. x.uid == uid) rows ≡ None → number_beside uid rows ns ≡ 0
    beside_no ns [] e = refl
    beside_no [] (x ∷ xs) e = refl
    beside_no (n ∷ ns) (x ∷ xs) e = by_test (x.uid == uid) e (beside_no ns xs)
      where
        by_test : (b : Bool) → cond b (Some x) (find (λ y. y.uid == uid) xs) ≡ None → (find (λ y. y.uid == uid) xs ≡ None → number_beside uid xs ns ≡ 0) → cond b n (number_beside uid xs ns) ≡ 0
        by_test true w rest = absurd (let k : Some x ≡ None = w in cc k)
        by_test false w rest = rest w

    -- nothing is due of a record that isn't there afterwards: its count was 0
    was_zero : record_at (map_applied (entry.P f t ms us) v.map) uid ≡ None → (o : Option MapRecord) → record_at v.map uid ≡ o → due_at uid v ≡ 0
    was_zero gone None e = beside_no v.dues v.map.records e
    was_zero gone (Some row) e = zero_due h v f t ms us uid row r e gone

    by_found : (o : Option MapRecord) → record_at (map_applied (entry.P f t ms us) v.map) uid ≡ o → number_beside uid (map_applied (entry.P f t ms us) v.map).records (map (λ row. dues_of v row.uid) (map_applied (entry.P f t ms us) v.map).records) ≡ due_at uid v
    by_found (Some row) e = beside_map (dues_of v) (map_applied (entry.P f t ms us) v.map).records row e
    by_found None e = beside_no (map (λ row. dues_of v row.uid) (map_applied (entry.P f t ms us) v.map).records) (map_applied (entry.P f t ms us) v.map).records e ∙ sym (was_zero e (record_at v.map uid) refl)

-- nor leaks
zero_leak : {D : Type 0} → (h : Option History) (v : StoreValue D) (f : FileNo) (t : ℕ) (ms : List MapPlace) (us : List MapUid) (uid : ℕ) → (r : Switching h v f t ms us) → record_at (map_applied (entry.P f t ms us) v.map) uid ≡ None → leak_at uid v ≡ 0
zero_leak h v f t ms us uid r gone = by_found (record_at v.map uid) refl
  where
    by_count : (row : MapRecord) → record_at v.map uid ≡ Some row → (row.count ≡ 0) ⊎ (row.count ≢ 0) → leak_at uid v ≡ 0
    by_count row found (inl none) =
        let s = r.store in
        let one = found_one (λ (x : MapRecord). x.uid == uid) v.map.records row found in
        let at : row.uid ≡ uid = equal_is row.uid uid one.1 in
        let made : row.count ≡ listed_of s.logs row.uid + dues_of v row.uid + leak_at row.uid v = All-contains (IsAccounted (dues_of v) (λ u. leak_at u v) s.logs) v.map.records row (store_counts h v s.logs s (store_sound h v s).rising s.boxes_are) one.0 in
        let zero : leak_at row.uid v ≡ 0 = omega (arith, made, none) in
        subst (λ (n : ℕ). leak_at n v ≡ 0) at zero
    by_count row found (inr some) =
        let still = found_purged v.map.store r.store.entries f t ms us uid row (subst IsSoundMap r.store.map_is (store_sound h v r.store)) (fits_as h v f t ms us r) (ap (λ (m : MapMeaning). record_at m uid) (sym r.store.map_is) ∙ found) (omega (arith, some)) in
        absurd (let w : None ≡ Some (moved_record row t (place_given row.uid ms)) = sym gone ∙ ap (λ (m : MapMeaning). record_at m uid) (meant h v f t ms us r) ∙ still in cc w)

    by_found : (o : Option MapRecord) → record_at v.map uid ≡ o → leak_at uid v ≡ 0
    by_found None e = no_leak uid v.map.records (listed_at uid v + due_at uid v) e
    by_found (Some row) e = by_count row e (cases_eq row.count 0)

pub leak_stays : {D : Type 0} → (h : Option History) (v : StoreValue D) (f : FileNo) (t : ℕ) (ms : List MapPlace) (us : List MapUid) (uid : ℕ) → (r : Switching h v f t ms us)
    → number_beside uid (map_applied (entry.P f t ms us) v.map).records (map (λ row. row.count) (map_applied (entry.P f t ms us) v.map).records) - (listed_at uid v + number_beside uid (map_applied (entry.P f t ms us) v.map).records (dues_without us v.map.records v.dues)) ≡ leak_at uid v
leak_stays h v f t ms us uid r =
    let rows : List MapRecord = (map_applied (entry.P f t ms us) v.map).records in
    ap (λ (n : ℕ). number_beside uid rows (map (λ (row : MapRecord). row.count) rows) - (listed_at uid v + n)) (due_stays h v f t ms us uid r)
    ∙ leak_is (dues_of v) (λ u. leak_at u v) (λ u. listed_at u v) r.store.logs rows uid (accounted_there h v f t ms us r) (listed_there h v r.store) (λ none. zero_leak h v f t ms us uid r none)
