-- What a store keeps of its storage files, over what is done to one of them.
use Rattle.store_core.proofs.Common.{◌⊎◌, Contains, inl, inr, ◌≡◌, ◌≢◌, ◌<◌, ◌≤◌, ◌+◌, ℕ, Bool, true, false, List, [], ◌∷◌, ◌++◌, Option, Some, None, All, refl, sym, ◌∙◌, ap, subst, arith, slice_index_or, if◌then◌else◌, list_any, option_map, option_map_or, option_and_then, cases_Bool, cases_eq}
use Rattle.store_core.proofs.Common.{false≢true, true≢false, same_Some, slice_get-get_or, All-weaker, Highest, FileNo, MapRecord, MapMeaning, number_at, is_sealed, MailFile, FilesValue, AreFilesInOrder, file_in, end_in, is_taken_in, is_doomed_in, changed_in, ending_at, made_doomed, MayGrow}
use Rattle.store_core.proofs.Common.{EndsBehind, LiesBelowEnd, AreFilesKept}
use Rattle.std.specs.Prelude.{slice_get}
use Rattle.std.specs.Prelude.{is_some, ◌==◌}
use Rattle.model_meaning.specs.MapMeaning.{guid_file}
use Rattle.storage_files.specs.Files.{MayBeTakenFor, without_file, released_in, with_taken, given_back, file_begun}
use Rattle.storage_files.proofs.FileListLemmas.{KeepsNumber, file-none, file-found, file-here, file-other, file-gone, file-without, file-begun, file-before_begun, ends-here}
use Rattle.storage_files.proofs.KnownLemmas.{taken-there}
use Rattle.store_core.specs.Files.{ArePinsOfRecords}
use Rattle.store_core.proofs.HighestFileLemmas.{NamesUpTo, sealed_low, guid_low}

-- ---- a file that was there before

-- It had the same marks, was taken or messages may be added to it if it is taken now, and ended there or before.
pub record CameFrom (files : List MailFile) (number : ℕ) (now : MailFile) : Type 0 where
  pub was : MailFile
  pub found : file_in number files ≡ Some was
  pub sealed : now.sealed ≡ was.sealed
  pub barred : now.barred ≡ was.barred
  pub doomed : now.doomed ≡ was.doomed
  pub taken : now.taken ≡ true → (was.taken ≡ true) ⊎ MayGrow was
  pub ends : (end : ℕ) → was.end ≡ Some end → (later : ℕ) × (now.end ≡ Some later) × (end ≤ later)

abbrev pub CameAll : List MailFile → List MailFile → Type 0
CameAll old new = (number : ℕ) (now : MailFile) → file_in number new ≡ Some now → CameFrom old number now

pub grew : (files : List MailFile) (number : ℕ) (now : MailFile) → (c : CameFrom files number now) → MayGrow now → MayGrow c.was
grew files number now c g = record { unsealed = sym c.sealed ∙ g.unsealed; unbarred = sym c.barred ∙ g.unbarred; undoomed = sym c.doomed ∙ g.undoomed }

grows_on : (files : List MailFile) (number : ℕ) (now : MailFile) → (c : CameFrom files number now) → MayGrow c.was → MayGrow now
grows_on files number now c g = record { unsealed = c.sealed ∙ g.unsealed; unbarred = c.barred ∙ g.unbarred; undoomed = c.doomed ∙ g.undoomed }

behind_on : (number place : ℕ) (old new : List MailFile) → CameAll old new → EndsBehind number place old → EndsBehind number place new
behind_on number place old new came b = λ f found grows.
    let c = came number f found in
    let e = b c.was c.found (grew old number f c grows) in
    let l = c.ends e.0 e.1 in
    let near : place ≤ e.0 = e.2 in
    let far : e.0 ≤ l.0 = l.2 in
    (l.0, l.1, omega (arith, near, far))

-- a file in which records lie isn't doomed
undoomed_on : (old new : List MailFile) (number : ℕ) → CameAll old new → is_doomed_in number old ≡ false → is_doomed_in number new ≡ false
undoomed_on old new number came un = by_found (file_in number new) refl
  where
    by_found : (o : Option MailFile) → file_in number new ≡ o → option_map_or (λ f. f.doomed) (file_in number new) false ≡ false
    by_found None is = ap (λ (o : Option MailFile). option_map_or (λ f. f.doomed) o false) is
    by_found (Some now) is =
        let c = came number now is in
        ap (λ (o : Option MailFile). option_map_or (λ f. f.doomed) o false) is ∙ c.doomed ∙ sym (ap (λ (o : Option MailFile). option_map_or (λ f. f.doomed) o false) c.found) ∙ un

below_on : (store : List ℕ) (old new : List MailFile) (row : MapRecord) → CameAll old new → LiesBelowEnd store old row → LiesBelowEnd store new row
below_on store old new row came b = record {
  region = behind_on row.file (row.offset + row.size) old new came b.region;
  guid = λ own. behind_on (number_at 8 row.guid) (number_at 12 row.guid + 1) old new came (b.guid own);
  undoomed = undoomed_on old new row.file came b.undoomed;
}

taken_on : (old : FilesValue) (drawn : Highest) (m : MapMeaning) (number : ℕ) (now : MailFile) → AreFilesKept old drawn m → (c : CameFrom old.files number now) → now.taken ≡ true → MayGrow now
taken_on old drawn m number now k c is = grows_on old.files number now c (elim (c.taken is) [ inl t ↦ k.taken number c.was c.found t | inr g ↦ g ])

pub kept_on : (old new : FilesValue) (drawn : Highest) (m : MapMeaning) → CameAll old.files new.files → new.highest ≡ old.highest → ArePinsOfRecords new.files m.records → AreFilesKept old drawn m → AreFilesKept new drawn m
kept_on old new drawn m came same pinned k = record {
  highest = same ∙ k.highest;
  numbered = λ number f found. let c = came number f found in k.numbered number c.was c.found;
  taken = λ number f found is. taken_on old drawn m number f k (came number f found) is;
  sealed = λ number f found. let c = came number f found in c.sealed ∙ k.sealed number c.was c.found;
  pinned = pinned;
  below = All-weaker (LiesBelowEnd m.store old.files) (LiesBelowEnd m.store new.files) (λ row b. below_on m.store old.files new.files row came b) m.records k.below;
}

-- ---- what was done

pub came_itself : (files : List MailFile) (number : ℕ) (now : MailFile) → file_in number files ≡ Some now → CameFrom files number now
came_itself files number now found = record { was = now; found = found; sealed = refl; barred = refl; doomed = refl; taken = λ t. inl t; ends = λ end is. (end, is, omega arith) }

-- a step that keeps the number and the marks, and moves no end back
pub record IsStep (n : ℕ) (step : MailFile → MailFile) (files : List MailFile) : Type 0 where
  pub number : KeepsNumber step
  pub sealed : (f : MailFile) → (step f).sealed ≡ f.sealed
  pub barred : (f : MailFile) → (step f).barred ≡ f.barred
  pub doomed : (f : MailFile) → (step f).doomed ≡ f.doomed
  pub taken : (f : MailFile) → file_in n files ≡ Some f → (step f).taken ≡ true → (f.taken ≡ true) ⊎ MayGrow f
  pub ends : (f : MailFile) (end : ℕ) → file_in n files ≡ Some f → f.end ≡ Some end → (later : ℕ) × ((step f).end ≡ Some later) × (end ≤ later)

stepped : (step : MailFile → MailFile) (o : Option MailFile) (now : MailFile) → option_map step o ≡ Some now → (f : MailFile) × (o ≡ Some f) × (step f ≡ now)
stepped step None now e = absurd (let w : None ≡ Some now = e in cc w)
stepped step (Some f) now e = (f, refl, let w : Some (step f) ≡ Some now = e in cc w)

came_here : (n : ℕ) (step : MailFile → MailFile) (files : List MailFile) (now : MailFile) → IsStep n step files → file_in n (changed_in n step files) ≡ Some now → CameFrom files n now
came_here n step files now s found =
    let was = stepped step (file_in n files) now (sym (file-here n step files s.number) ∙ found) in
    subst (CameFrom files n) was.2 (record { was = was.0; found = was.1; sealed = s.sealed was.0; barred = s.barred was.0; doomed = s.doomed was.0; taken = s.taken was.0 was.1; ends = λ end is. s.ends was.0 end was.1 is })

pub came_changed : (n : ℕ) (step : MailFile → MailFile) (files : List MailFile) → IsStep n step files → CameAll files (changed_in n step files)
came_changed n step files s = λ number now found. elim (cases_eq number n) [
  | inl same ↦ subst (λ (k : ℕ). CameFrom files k now) (sym same) (came_here n step files now s (subst (λ (k : ℕ). file_in k (changed_in n step files) ≡ Some now) same found))
  | inr apart ↦ came_itself files number now (sym (file-other n number step files s.number apart) ∙ found)
]

pub came_without : (n : ℕ) (files : List MailFile) → CameAll files (without_file n files)
came_without n files = λ number now found. elim (cases_eq number n) [
  | inl same ↦
      let gone : file_in number (without_file n files) ≡ None = subst (λ (k : ℕ). file_in k (without_file n files) ≡ None) (sym same) (file-gone n files) in
      absurd (let w : None ≡ Some now = sym gone ∙ found in cc w)
  | inr apart ↦ came_itself files number now (sym (file-without n number files apart) ∙ found)
]

pub came_released : (n : ℕ) (files : List MailFile) → CameAll files (released_in n files)
came_released n files = by_test (is_some (end_in n files))
  where
    by_test : (t : Bool) → CameAll files (if t then changed_in n given_back files else without_file n files)
    by_test true = came_changed n given_back files (record { number = λ f. refl; sealed = λ f. refl; barred = λ f. refl; doomed = λ f. refl; taken = λ f at t. absurd (false≢true t); ends = λ f end at is. (end, is, omega arith) })
    by_test false = came_without n files

-- ---- pinned files have regions

-- a step after which a file is pinned only if it was, or has a region
pub pins_changed : (n : ℕ) (step : MailFile → MailFile) (files : List MailFile) (rows : List MapRecord) → KeepsNumber step → ((f : MailFile) → (step f).doomed ≡ f.doomed)
    → ((f : MailFile) → file_in n files ≡ Some f → 1 ≤ (step f).pins → (1 ≤ f.pins) ⊎ (list_any (λ row. row.file == n) rows ≡ true)) → ArePinsOfRecords files rows → ArePinsOfRecords (changed_in n step files) rows
pins_changed n step files rows keeps doomed more k = λ number now found pinned. elim (cases_eq number n) [
  | inl same ↦
      let was = stepped step (file_in n files) now (sym (file-here n step files keeps) ∙ subst (λ (i : ℕ). file_in i (changed_in n step files) ≡ Some now) same found) in
      elim (more was.0 was.1 (subst (λ (g : MailFile). 1 ≤ g.pins) (sym was.2) pinned)) [
        | inl before ↦ elim (k n was.0 was.1 before) [
          | inl is ↦ inl (ap (λ (g : MailFile). g.doomed) (sym was.2) ∙ doomed was.0 ∙ is)
          | inr has ↦ inr (subst (λ (i : ℕ). list_any (λ row. row.file == i) rows ≡ true) (sym same) has)
        ]
        | inr has ↦ inr (subst (λ (i : ℕ). list_any (λ row. row.file == i) rows ≡ true) (sym same) has)
      ]
  | inr apart ↦ k number now (sym (file-other n number step files keeps apart) ∙ found) pinned
]

-- one that keeps the pins
pub pins_kept : (n : ℕ) (step : MailFile → MailFile) (files : List MailFile) (rows : List MapRecord) → KeepsNumber step → ((f : MailFile) → (step f).doomed ≡ f.doomed) → ((f : MailFile) → (step f).pins ≡ f.pins) → ArePinsOfRecords files rows → ArePinsOfRecords (changed_in n step files) rows
pins_kept n step files rows keeps doomed pins k = pins_changed n step files rows keeps doomed (λ f at more. inl (let e = pins f in omega (arith, e, more))) k

pub pins_without : (n : ℕ) (files : List MailFile) (rows : List MapRecord) → ArePinsOfRecords files rows → ArePinsOfRecords (without_file n files) rows
pins_without n files rows k = λ number now found pinned. elim (cases_eq number n) [
  | inl same ↦
      let gone : file_in number (without_file n files) ≡ None = subst (λ (i : ℕ). file_in i (without_file n files) ≡ None) (sym same) (file-gone n files) in
      absurd (let w : None ≡ Some now = sym gone ∙ found in cc w)
  | inr apart ↦ k number now (sym (file-without n number files apart) ∙ found) pinned
]

pub pins_released : (n : ℕ) (files : List MailFile) (rows : List MapRecord) → ArePinsOfRecords files rows → ArePinsOfRecords (released_in n files) rows
pins_released n files rows k = by_test (is_some (end_in n files))
  where
    by_test : (t : Bool) → ArePinsOfRecords (if t then changed_in n given_back files else without_file n files) rows
    by_test true = pins_kept n given_back files rows (λ f. refl) (λ f. refl) (λ f. refl) k
    by_test false = pins_without n files rows k

-- a file of which this is known
pub record HasFile (n end : ℕ) (files : List MailFile) : Type 0 where
  pub f : MailFile
  pub found : file_in n files ≡ Some f
  pub taken : f.taken ≡ true
  pub ends : f.end ≡ Some end

pub file_there : (n end : ℕ) (files : List MailFile) → is_taken_in n files ≡ true → end_in n files ≡ Some end → HasFile n end files
file_there n end files taken ends =
    let there = taken-there files n taken in
    record {
      f = there.0;
      found = there.1;
      taken = sym (ap (λ (o : Option MailFile). option_map_or (λ g. g.taken) o false) there.1) ∙ taken;
      ends = sym (ap (option_and_then (λ g. g.end)) there.1) ∙ ends;
    }

one_file : (o : Option MailFile) (f g : MailFile) → o ≡ Some f → o ≡ Some g → f ≡ g
one_file o f g p q = let h : Some f ≡ Some g = sym p ∙ q in cc h

-- octets are added to a file that ends there
pub came_longer : (n end more : ℕ) (files : List MailFile) → end_in n files ≡ Some end → CameAll files (changed_in n (ending_at (end + more)) files)
came_longer n end more files is = came_changed n (ending_at (end + more)) files (record {
  number = λ f. refl;
  sealed = λ f. refl;
  barred = λ f. refl;
  doomed = λ f. refl;
  taken = λ f at t. inl t;
  ends = λ f old at e.
      let same : old ≡ end = same_Some _ _ (sym e ∙ sym (ap (option_and_then (λ g. g.end)) at) ∙ is) in
      (end + more, refl, omega (arith, same));
})

-- a file that wasn't there is made
pub came_made : (n end : ℕ) (files : List MailFile) → end_in n files ≡ None → CameAll files (changed_in n (ending_at end) files)
came_made n end files none = came_changed n (ending_at end) files (record {
  number = λ f. refl;
  sealed = λ f. refl;
  barred = λ f. refl;
  doomed = λ f. refl;
  taken = λ f at t. inl t;
  ends = λ f old at e. absurd (let w : None ≡ Some old = sym none ∙ ap (option_and_then (λ g. g.end)) at ∙ e in cc w);
})

-- a file that has room is taken
pub came_taken : (size n : ℕ) (value : FilesValue) (f : MailFile) → AreFilesInOrder value → Contains value.files f → f.file.0 ≡ n → MayBeTakenFor size f → CameAll value.files (changed_in n (with_taken true) value.files)
came_taken size n value f order at same room = came_changed n (with_taken true) value.files (record {
  number = λ g. refl;
  sealed = λ g. refl;
  barred = λ g. refl;
  doomed = λ g. refl;
  taken = λ g found t.
      let get : slice_get value.files at.0 ≡ Some f = slice_get-get_or value.files at.0 f at.1 ∙ ap Some at.2 in
      let is : f ≡ g = one_file (file_in n value.files) f g (file-found value.files n at.0 f order.rising get same) found in
      inr (subst MayGrow is (record { unsealed = room.free.unsealed; unbarred = room.free.unbarred; undoomed = room.free.free.undoomed }));
  ends = λ g end found e. (end, e, omega arith);
})

-- ---- a new file

pub begun_or_before : (file : FileNo) (files : List MailFile) (number : ℕ) (now : MailFile) → file_in file.0 files ≡ None → file_in number (files ++ file_begun file ∷ []) ≡ Some now → ((number ≡ file.0) × (file_begun file ≡ now)) ⊎ (file_in number files ≡ Some now)
begun_or_before file files number now none found = elim (cases_eq number file.0) [
  | inl same ↦ inl (same, one_file (file_in number (files ++ file_begun file ∷ [])) (file_begun file) now (ap (λ (k : ℕ). file_in k (files ++ file_begun file ∷ [])) same ∙ file-begun file files none) found)
  | inr apart ↦ inr (sym (file-before_begun file number files apart) ∙ found)
]

-- its number is new, so nothing names it
behind_begun : (file : FileNo) (files : List MailFile) (number place : ℕ) → file_in file.0 files ≡ None → number ≢ file.0 → EndsBehind number place files → EndsBehind number place (files ++ file_begun file ∷ [])
behind_begun file files number place none apart b = λ f found grows. elim (begun_or_before file files number f none found) [
  | inl begun ↦ absurd (apart begun.0)
  | inr old ↦ b f old grows
]

pub none_begun : (file : FileNo) (value : FilesValue) → AreFilesInOrder value → file.0 ≡ value.highest + 1 → file_in file.0 value.files ≡ None
none_begun file value order next = file-none file.0 value.files (λ k d lt e. let l = order.below k d lt in omega (arith, l, e, next))

undoomed_begun : (file : FileNo) (files : List MailFile) (number : ℕ) → file_in file.0 files ≡ None → is_doomed_in number files ≡ false → is_doomed_in number (files ++ file_begun file ∷ []) ≡ false
undoomed_begun file files number none un = elim (cases_eq number file.0) [
  | inl same ↦ ap (λ (k : ℕ). is_doomed_in k (files ++ file_begun file ∷ [])) same ∙ ap (λ (o : Option MailFile). option_map_or (λ f. f.doomed) o false) (file-begun file files none)
  | inr apart ↦ ap (λ (o : Option MailFile). option_map_or (λ f. f.doomed) o false) (file-before_begun file number files apart) ∙ un
]

pub kept_begun : (old : FilesValue) (file : FileNo) (spare : ℕ) (drawn : Highest) (m : MapMeaning) → AreFilesInOrder old → file.0 ≡ old.highest + 1 → old.highest < 4294967294 → m.highest.file ≤ drawn.file → All (λ row. row.file ≤ m.highest.file) m.records → NamesUpTo m
    → AreFilesKept old drawn m → AreFilesKept (record { files = old.files ++ file_begun file ∷ []; highest = file.0; spare = spare }) (record drawn { file = file.0 }) m
kept_begun old file spare drawn m order next last up rows names k =
    let none : file_in file.0 old.files ≡ None = none_begun file old order next in
    let high : old.highest ≡ drawn.file = k.highest in
    record {
      highest = refl;
      numbered = λ number f found. elim (begun_or_before file old.files number f none found) [
        | inl begun ↦ let e : number ≡ file.0 = begun.0 in omega (arith, e, next)
        | inr before ↦ k.numbered number f before
      ];
      taken = λ number f found is. elim (begun_or_before file old.files number f none found) [
        | inl begun ↦ subst MayGrow begun.1 (record { unsealed = refl; unbarred = refl; undoomed = refl })
        | inr before ↦ k.taken number f before is
      ];
      sealed = λ number f found. elim (begun_or_before file old.files number f none found) [
        | inl begun ↦ elim (cases_Bool (is_sealed m number)) [
          | inl is ↦ let l : number ≤ m.highest.file = sealed_low m number names is in let e : number ≡ file.0 = begun.0 in absurd (omega (arith, l, e, next, high, up))
          | inr apart ↦ ap (λ (g : MailFile). g.sealed) (sym begun.1) ∙ sym apart
        ]
        | inr before ↦ k.sealed number f before
      ];
      pinned = λ number f found is. elim (begun_or_before file old.files number f none found) [
        | inl begun ↦ absurd (let l : 1 ≤ 0 = subst (λ (g : MailFile). 1 ≤ g.pins) (sym begun.1) is in omega (arith, l))
        | inr before ↦ k.pinned number f before is
      ];
      below = λ at d lt.
          let row : MapRecord = slice_index_or m.records at d in
          let b : LiesBelowEnd m.store old.files row = k.below at d lt in
          let in_file : row.file ≤ m.highest.file = rows at d lt in
          let named : guid_file m.store row.guid ≤ m.highest.file = names.guids at d lt in
          record {
            region = behind_begun file old.files row.file (row.offset + row.size) none (λ e. absurd (omega (arith, in_file, e, next, high, up))) b.region;
            guid = λ own. behind_begun file old.files (number_at 8 row.guid) (number_at 12 row.guid + 1) none (λ e.
                let l : number_at 8 row.guid ≤ m.highest.file = guid_low m.store row.guid m.highest.file named own (λ same. absurd (omega (arith, same, e, next, last))) in
                absurd (omega (arith, l, e, next, high, up))) (b.guid own);
            undoomed = undoomed_begun file old.files row.file none b.undoomed;
          };
    }

-- ---- where it ends afterwards

abbrev pub with_change : ℕ → (MailFile → MailFile) → FilesValue → FilesValue
with_change n step files = record files { files = changed_in n step files.files }

some_file : (o : Option MailFile) (end : ℕ) → option_and_then (λ f. f.end) o ≡ Some end → (f : MailFile) × (o ≡ Some f)
some_file None end e = absurd (let w : None ≡ Some end = e in cc w)
some_file (Some f) end e = (f, refl)

pub ends_longer : (n end more : ℕ) (old new : FilesValue) → end_in n old.files ≡ Some end → new ≡ with_change n (ending_at (end + more)) old → end_in n new.files ≡ Some (end + more)
ends_longer n end more old new ends is =
    let there = some_file (file_in n old.files) end ends in
    ap (λ (v : FilesValue). end_in n v.files) is ∙ ends-here n (end + more) old.files there.0 there.1

pub ends_made : (n end : ℕ) (old new : FilesValue) → is_taken_in n old.files ≡ true → new ≡ with_change n (ending_at end) old → end_in n new.files ≡ Some end
ends_made n end old new taken is =
    let there = taken-there old.files n taken in
    ap (λ (v : FilesValue). end_in n v.files) is ∙ ends-here n end old.files there.0 there.1

-- ---- a file that is doomed

doomed_now : (o : Option MailFile) (f : MailFile) → option_map made_doomed o ≡ Some f → f.doomed ≡ true
doomed_now o f is = let was = stepped made_doomed o f is in ap (λ (g : MailFile). g.doomed) (sym was.2)

untaken_now : (o : Option MailFile) (f : MailFile) → option_map made_doomed o ≡ Some f → f.taken ≡ false
untaken_now o f is = let was = stepped made_doomed o f is in ap (λ (g : MailFile). g.taken) (sym was.2)

behind_doomed : (n : ℕ) (files : List MailFile) (number place : ℕ) → EndsBehind number place files → EndsBehind number place (changed_in n made_doomed files)
behind_doomed n files number place b = λ f found grows. elim (cases_eq number n) [
  | inl same ↦
      let here : option_map made_doomed (file_in n files) ≡ Some f = sym (file-here n made_doomed files (λ g. refl)) ∙ ap (λ (k : ℕ). file_in k (changed_in n made_doomed files)) (sym same) ∙ found in
      absurd (true≢false (sym (doomed_now (file_in n files) f here) ∙ grows.undoomed))
  | inr apart ↦ b f (sym (file-other n number made_doomed files (λ g. refl) apart) ∙ found) grows
]

-- what is kept of the files where one of them is left without a record: another one that is pinned has a region or is doomed
pub record AreKeptBut (n : ℕ) (files : FilesValue) (drawn : Highest) (m : MapMeaning) : Type 0 where
  pub highest : files.highest ≡ drawn.file
  pub numbered : (number : ℕ) (f : MailFile) → file_in number files.files ≡ Some f → 1 ≤ number
  pub taken : (number : ℕ) (f : MailFile) → file_in number files.files ≡ Some f → f.taken ≡ true → MayGrow f
  pub sealed : (number : ℕ) (f : MailFile) → file_in number files.files ≡ Some f → f.sealed ≡ is_sealed m number
  pub pinned : (number : ℕ) (f : MailFile) → number ≢ n → file_in number files.files ≡ Some f → 1 ≤ f.pins → (f.doomed ≡ true) ⊎ (list_any (λ row. row.file == number) m.records ≡ true)
  pub below : All (LiesBelowEnd m.store files.files) m.records
  pub none : All (λ row. row.file ≢ n) m.records

-- that one may be doomed
pub kept_doomed : (n : ℕ) (old new : FilesValue) (drawn : Highest) (m : MapMeaning) → new ≡ with_change n made_doomed old → AreKeptBut n old drawn m → AreFilesKept new drawn m
kept_doomed n old new drawn m is k = subst (λ (v : FilesValue). AreFilesKept v drawn m) (sym is) (record {
  highest = k.highest;
  numbered = λ number f found. elim (cases_eq number n) [
    | inl same ↦
        let was = stepped made_doomed (file_in n old.files) f (here number f same found) in
        subst (λ (i : ℕ). 1 ≤ i) (sym same) (k.numbered n was.0 was.1)
    | inr apart ↦ k.numbered number f (sym (file-other n number made_doomed old.files (λ g. refl) apart) ∙ found)
  ];
  taken = λ number f found is. elim (cases_eq number n) [
    | inl same ↦ absurd (true≢false (sym is ∙ untaken_now (file_in n old.files) f (here number f same found)))
    | inr apart ↦ k.taken number f (sym (file-other n number made_doomed old.files (λ g. refl) apart) ∙ found) is
  ];
  sealed = λ number f found. elim (cases_eq number n) [
    | inl same ↦
        let was = stepped made_doomed (file_in n old.files) f (here number f same found) in
        ap (λ (g : MailFile). g.sealed) (sym was.2) ∙ k.sealed n was.0 was.1 ∙ ap (λ (i : ℕ). is_sealed m i) (sym same)
    | inr apart ↦ k.sealed number f (sym (file-other n number made_doomed old.files (λ g. refl) apart) ∙ found)
  ];
  pinned = λ number f found is. elim (cases_eq number n) [
    | inl same ↦ inl (doomed_now (file_in n old.files) f (here number f same found))
    | inr apart ↦ k.pinned number f apart (sym (file-other n number made_doomed old.files (λ g. refl) apart) ∙ found) is
  ];
  below = λ at d lt.
      let row : MapRecord = slice_index_or m.records at d in
      let b : LiesBelowEnd m.store old.files row = k.below at d lt in
      record {
        region = behind_doomed n old.files row.file (row.offset + row.size) b.region;
        guid = λ own. behind_doomed n old.files (number_at 8 row.guid) (number_at 12 row.guid + 1) (b.guid own);
        undoomed = ap (λ (o : Option MailFile). option_map_or (λ f. f.doomed) o false) (file-other n row.file made_doomed old.files (λ g. refl) (k.none at d lt)) ∙ b.undoomed;
      };
})
  where
    here : (number : ℕ) (f : MailFile) → number ≡ n → file_in number (changed_in n made_doomed old.files) ≡ Some f → option_map made_doomed (file_in n old.files) ≡ Some f
    here number f same found = sym (file-here n made_doomed old.files (λ g. refl)) ∙ ap (λ (i : ℕ). file_in i (changed_in n made_doomed old.files)) (sym same) ∙ found
