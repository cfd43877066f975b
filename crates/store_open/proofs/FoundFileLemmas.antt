-- The storage files that an opening found, as the store keeps them.
use Rattle.std.specs.Prelude.{find}
use Rattle.std.proofs.Common.{◌≡◌, ◌<◌, ◌≤◌, ◌+◌, ◌==◌, ◌&&◌, ◌||◌, nat_le, inl, inr, ℕ, Bool, true, false, List, [], ◌∷◌, length, map, get_or, Option, Some, None, All, refl, sym, ◌∙◌, ap, subst, arith}
use Rattle.std.specs.Option.{option_map, option_map_or}
use Rattle.std.specs.List.{list_any}
use Rattle.std.proofs.lemmas.Bool.{cases_Bool, cond-true, cond-false, eq-eqb, true≢false, false≢true}
use Rattle.std.proofs.lemmas.Grind.{common_steps}
use Rattle.std.proofs.lemmas.List.Elements.{All-map, All-head, All-tail}
use Rattle.std.proofs.lemmas.List.Folds.{list_any_at}
use Rattle.disk_model.specs.Disk.{DiskState, History, IfTold, IsIdle}
use Rattle.disk_model.proofs.IdleLemmas.{idle-on, idle-back}
use Rattle.disk_model.proofs.MomentLemmas.{if_told-all}
use Rattle.mdbox_base.specs.declared.entries.Highest.{Highest}
use Rattle.model_meaning.specs.MapMeaning.{MapRecord, MapMeaning, is_own, number_at, is_sealed}
use Rattle.model_meaning.specs.Sound.{IsSoundMap}
use Rattle.model_octets.proofs.PairLemmas.{found_holds}
use Rattle.storage_files.specs.Files.{FilesValue, file_in, file_found, is_doomed_in}
use Rattle.storage_files.specs.OnDisk.{IsAsKnown}
use Rattle.storage_files.specs.declared.file.FileState.{FileState}
use Rattle.storage_files.specs.declared.file.MailFile.{MailFile}
use Rattle.store_core.specs.Files.{MayGrow, EndsBehind, AreFilesKept, StayThere}
use Rattle.store_files.specs.Barred.{names_past, is_barred}
use Rattle.store_files.specs.Found.{length_on, end_found, IsMarked, AreFilesFound, IsFoundFiles}
use Rattle.store_files.specs.Regions.{has_region, end_of, last_end}
use Rattle.store_sweep.proofs.CutLemmas.{end_by}
use Rattle.store_sweep.proofs.KnownFileLemmas.{found_in}
use Rattle.store_sweep.specs.Swept.{OpensWith, IsSwept}

-- ---- one file

same_number : (a b : ℕ) → (a == b) ≡ true → a ≡ b
same_number a b h = grind (arith, common_steps, h)

-- the file with this number was found in this state
record WasFound (m : MapMeaning) (states : List FileState) (number : ℕ) (f : MailFile) : Type 0 where
  s : FileState
  is : f ≡ file_found s
  has_number : s.file.0 ≡ number
  marks : IsMarked m s
  ends : end_found number states ≡ Some s.end

was_found : (m : MapMeaning) (states : List FileState) (number : ℕ) (f : MailFile) → All (IsMarked m) states → file_in number (map file_found states) ≡ Some f → WasFound m states number f
was_found m states number f marks e = by_search (find (λ s. s.file.0 == number) states) refl
  where
    by_search : (o : Option FileState) → find (λ s. s.file.0 == number) states ≡ o → WasFound m states number f
    by_search None k = absurd (let w : None ≡ Some f = ap (option_map file_found) (sym k) ∙ sym (found_in number states) ∙ e in cc)
    by_search (Some s) k =
        let h = found_holds (λ t. t.file.0 == number) states s (IsMarked m) k marks in
        let same : Some (file_found s) ≡ Some f = ap (option_map file_found) (sym k) ∙ sym (found_in number states) ∙ e in
        record { s = s; is = (let v : f ≡ file_found s = cc same in v); has_number = same_number s.file.0 number h.1; marks = h.0; ends = ap (option_map (λ t. t.end)) k }

-- messages may be added to it: it has a region, and ends with the last one
grows_open : (m : MapMeaning) (states : List FileState) (number : ℕ) (f : MailFile) → WasFound m states number f → MayGrow f → is_sealed m number ≡ false
grows_open m states number f w g = ap (is_sealed m) (sym w.has_number) ∙ sym w.marks.0 ∙ ap (λ (x : MailFile). x.sealed) (sym w.is) ∙ g.unsealed

has_last : (m : MapMeaning) (number end : ℕ) → last_end m number ≡ Some end → (has_region m number ≡ true) × (end_of m number ≡ end)
has_last m number end e = elim (cases_Bool (has_region m number)) [
  | inl some ↦ (some, let w : Some (end_of m number) ≡ Some end = sym (cond-true (has_region m number) (Some (end_of m number)) None some) ∙ e in cc w)
  | inr none ↦ absurd (let w : None ≡ Some end = sym (cond-false (has_region m number) (Some (end_of m number)) None none) ∙ e in cc)
]

last_of : (m : MapMeaning) (history : Option History) (states : List FileState) (number : ℕ) (f : MailFile) → AreFilesFound m history states → (w : WasFound m states number f) → MayGrow f → (has_region m number ≡ true) × (end_of m number ≡ w.s.end)
last_of m history states number f found w g = has_last m number w.s.end (sym ((found.ends number).unsealed (grows_open m states number f w g)) ∙ w.ends)

-- ---- numbers

any_number : {A : Type 0} → (number_in : A → ℕ) (xs : List A) (number : ℕ) → All (λ x. 1 ≤ number_in x) xs → list_any (λ x. number_in x == number) xs ≡ true → 1 ≤ number
any_number number_in [] number some is = absurd (false≢true is)
any_number number_in (x ∷ xs) number some is = elim (cases_Bool (number_in x == number)) [
  | inl hit ↦
      let same : number_in x ≡ number = same_number (number_in x) number hit in
      let l : 1 ≤ number_in x = All-head (λ y. 1 ≤ number_in y) x xs some in
      omega (arith, same, l)
  | inr miss ↦ any_number number_in xs number (All-tail (λ y. 1 ≤ number_in y) x xs some) (sym (ap (λ (t : Bool). t || list_any (λ y. number_in y == number) xs) miss) ∙ is)
]

-- a region lies in the file, or it is sealed
file_numbered : (m : MapMeaning) (history : Option History) (states : List FileState) (number : ℕ) (f : MailFile) → IsSoundMap m → AreFilesFound m history states → file_in number (map file_found states) ≡ Some f → 1 ≤ number
file_numbered m history states number f sound found e =
    let w = was_found m states number f found.marks e in
    elim (cases_Bool (is_sealed m number)) [
      | inl closed ↦ any_number (λ (n : ℕ). n) m.sealed number (λ k d lt. (sound.sealed k d lt).low) closed
      | inr growing ↦ any_number (λ (row : MapRecord). row.file) m.records number (λ k d lt. (sound.records k d lt).file.low) (has_last m number w.s.end (sym ((found.ends number).unsealed growing) ∙ w.ends)).0
    ]

-- ---- all that records name lies below the ends

region_below : (m : MapMeaning) (history : Option History) (states : List FileState) (row : MapRecord) → AreFilesFound m history states → row.offset + row.size ≤ end_of m row.file → EndsBehind row.file (row.offset + row.size) (map file_found states)
region_below m history states row found below = λ f e g.
    let w = was_found m states row.file f found.marks e in
    let end : end_of m row.file ≡ w.s.end = (last_of m history states row.file f found w g).1 in
    (w.s.end, ap (λ (x : MailFile). x.end) w.is, omega (arith, below, end))

past_end : (a b : Bool) (end place : ℕ) → a ≡ true → b ≡ true → (a && b && nat_le end place) ≡ false → place + 1 ≤ end
past_end true true end place p q r = grind (arith, common_steps, r)
past_end true false end place p q r = absurd (cc q)
past_end false b end place p q r = absurd (cc p)

guid_below : (m : MapMeaning) (history : Option History) (states : List FileState) (k : ℕ) (d : MapRecord) → k < length m.records → AreFilesFound m history states → is_own m.store (get_or m.records k d).guid ≡ true
    → EndsBehind (number_at 8 (get_or m.records k d).guid) (number_at 12 (get_or m.records k d).guid + 1) (map file_found states)
guid_below m history states k d lt found own = λ f e g.
    let guid : List ℕ = (get_or m.records k d).guid in
    let w = was_found m states (number_at 8 guid) f found.marks e in
    let none : is_barred m w.s.file.0 w.s.end ≡ false = sym w.marks.1 ∙ ap (λ (x : MailFile). x.barred) (sym w.is) ∙ g.unbarred in
    let out : names_past m.store w.s.file.0 w.s.end guid ≡ false = elim (cases_Bool (names_past m.store w.s.file.0 w.s.end guid)) [
      | inl hit ↦ absurd (true≢false (sym (list_any_at (λ (row : MapRecord). names_past m.store w.s.file.0 w.s.end row.guid) m.records k d lt hit) ∙ none))
      | inr miss ↦ miss
    ] in
    (w.s.end, ap (λ (x : MailFile). x.end) w.is, past_end (is_own m.store guid) (number_at 8 guid == w.s.file.0) w.s.end (number_at 12 guid) own (eq-eqb (number_at 8 guid) w.s.file.0 (sym w.has_number)) out)

-- no region lies past the end of its file
each_below : (m : MapMeaning) (k : ℕ) (d : MapRecord) → k < length m.records → (get_or m.records k d).offset + (get_or m.records k d).size ≤ end_of m (get_or m.records k d).file
each_below m k d lt = end_by m (get_or m.records k d).file k d lt refl

undoomed_found : (m : MapMeaning) (history : Option History) (states : List FileState) (number : ℕ) → AreFilesFound m history states → is_doomed_in number (map file_found states) ≡ false
undoomed_found m history states number found = by_search (file_in number (map file_found states)) refl
  where
    by_search : (o : Option MailFile) → file_in number (map file_found states) ≡ o → option_map_or (λ f. f.doomed) (file_in number (map file_found states)) false ≡ false
    by_search None is = ap (λ (o : Option MailFile). option_map_or (λ f. f.doomed) o false) is
    by_search (Some f) is =
        let w = was_found m states number f found.marks is in
        ap (λ (o : Option MailFile). option_map_or (λ f. f.doomed) o false) is ∙ ap (λ (x : MailFile). x.doomed) w.is

files_kept : (m : MapMeaning) (history : Option History) (files : FilesValue) (drawn : Highest) → IsSoundMap m → m.highest.file ≡ drawn.file → IsFoundFiles m history files → AreFilesKept files drawn m
files_kept m history files drawn sound highest found =
    subst (λ (v : FilesValue). AreFilesKept v drawn m) (sym found.is) (record {
      highest = highest;
      numbered = λ number f e. file_numbered m history found.states number f sound found.found e;
      taken = λ number f e taken.
          let w = was_found m found.states number f found.found.marks e in
          absurd (true≢false (sym taken ∙ ap (λ (x : MailFile). x.taken) w.is));
      sealed = λ number f e.
          let w = was_found m found.states number f found.found.marks e in
          ap (λ (x : MailFile). x.sealed) w.is ∙ w.marks.0 ∙ ap (is_sealed m) w.has_number;
      pinned = λ number f e pinned.
          let w = was_found m found.states number f found.found.marks e in
          absurd (let l : 1 ≤ 0 = subst (λ (x : MailFile). 1 ≤ x.pins) w.is pinned in omega (arith, l));
      below = λ k d lt. record {
        region = region_below m history found.states (get_or m.records k d) found.found (each_below m k d lt);
        guid = guid_below m history found.states k d lt found.found;
        undoomed = undoomed_found m history found.states (get_or m.records k d).file found.found;
      };
    })

files_stay : (m : MapMeaning) (old new : Option History) (files : FilesValue) → IsFoundFiles m old files → IfTold new (StayThere files.files m.records)
files_stay m old new files found =
    subst (λ (v : FilesValue). IfTold new (StayThere v.files m.records)) (sym found.is)
    (if_told-all (StayThere (map file_found found.states) m.records) new (λ disk number f e g there.
    let w = was_found m found.states number f found.found.marks e in
    inl (last_of m old found.states number f found.found w g).0))

-- ---- the store's files

-- the law of a swept disk
abbrev pub SweptFilesAreKnown : Type 0
SweptFilesAreKnown = (generation : ℕ) (m : MapMeaning) (states : List FileState) (old new : Option History) → IfTold old (OpensWith generation m) → AreFilesFound m old states → IsSwept generation m old new → (number : ℕ) → IsAsKnown (map file_found states) number new

-- what a store keeps of these files
pub record HasFiles (m : MapMeaning) (files : FilesValue) (new : Option History) : Type 0 where
  pub kept : AreFilesKept files m.highest m
  pub known : (number : ℕ) → IsAsKnown files.files number new
  pub stay : IfTold new (StayThere files.files m.records)

pub has_files : (generation : ℕ) (m : MapMeaning) (files : FilesValue) (now new : Option History) → IsSoundMap m → SweptFilesAreKnown → IfTold now (OpensWith generation m) → IsFoundFiles m now files → IsSwept generation m now new → HasFiles m files new
has_files generation m files now new sound law opens found swept = record {
  kept = files_kept m now files m.highest sound refl found;
  known = λ number. subst (λ (v : FilesValue). IsAsKnown v.files number new) (sym found.is) (law generation m found.states now new opens found.found swept number);
  stay = files_stay m now new files found;
}

-- nobody has taken one
pub files_untaken : (m : MapMeaning) (history : Option History) (files : FilesValue) → IsFoundFiles m history files → All (λ f. f.taken ≡ false) files.files
files_untaken m history files found =
    subst (λ (v : FilesValue). All (λ f. f.taken ≡ false) v.files) (sym found.is) (All-map (λ (f : MailFile). f.taken ≡ false) file_found found.states (λ k d lt. refl))

-- ---- calls that change nothing

pub found_on : (m : MapMeaning) (old new : Option History) (files : FilesValue) → IsIdle old new → IsFoundFiles m old files → IsFoundFiles m new files
found_on m old new files idle f = record {
  states = f.states;
  found = record {
    rising = f.found.rising;
    ends = λ number. record {
      unsealed = (f.found.ends number).unsealed;
      sealed = λ is. idle-on (λ (disk : DiskState). end_found number f.states ≡ length_on disk number) old new idle ((f.found.ends number).sealed is);
    };
    marks = f.found.marks;
  };
  is = f.is;
}

pub found_back : (m : MapMeaning) (old new : Option History) (files : FilesValue) → IsIdle old new → IsFoundFiles m new files → IsFoundFiles m old files
found_back m old new files idle f = record {
  states = f.states;
  found = record {
    rising = f.found.rising;
    ends = λ number. record {
      unsealed = (f.found.ends number).unsealed;
      sealed = λ is. idle-back (λ (disk : DiskState). end_found number f.states ≡ length_on disk number) old new idle ((f.found.ends number).sealed is);
    };
    marks = f.found.marks;
  };
  is = f.is;
}
