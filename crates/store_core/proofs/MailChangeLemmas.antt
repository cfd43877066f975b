-- Disks on which one storage file was made or added to: what they read, what a crash leaves, and what a store makes of it.
use Rattle.store_core.proofs.Common.{◌⊎◌, list_any, inl, inr, ◌≡◌, ◌≢◌, ◌≤◌, ◌+◌, ◌==◌, ℕ, Bool, true, false, List, [], ◌∷◌, ◌++◌, length, take, drop, Option, Some, None, All, refl, sym, ◌∙◌, ap, subst, arith, length-append, option_map, cases_Bool, cases_eq, cond-true, cond-false, false≢true}
use Rattle.store_core.proofs.Common.{All-head, All-tail, All-weaker, Files, FileState, DiskState, History, IfTold, SameButFor, IsImage, IsThere, MayLeave, reading, named, no_file, between-on, same_name, FileName, same_name-true, same_name-apart, named-narrows, BoxEntry, MapEntry, Lists, IsLogFile}
use Rattle.store_core.proofs.Common.{MapRecord, MapBox, MapMeaning, map_meaning, equal_is, HasRoot, StoresMessage, LiesInFile, HasAll, SafeBy, Safe, files_of, IsSameRegion, HasSameRegion, HasSameInstance, AreAlike, IsSettled, CarryOver, CarriesOver, Opens, each_name, safe_carried, has_all_carried}
use Rattle.store_core.proofs.Common.{map_along, kept_along, root_same, LeftBut, LeavesAsRead, log_as, mixed, mixed-here, mixed-other, others_carry, MailFile, end_in, IsAddedTo, IsAsKnown, StayThere}
use Rattle.std.proofs.Common.{◌||◌}
use Rattle.std.proofs.lemmas.List.{take-append-drop, take-append-le, drop-append-le, length-drop}
use Rattle.disk_model.specs.declared.name.FileName.TheVariants as file
use Rattle.model_store.specs.Carrying.{HasSameEntries}
use Rattle.model_store.specs.Opening.{PassBoxes}
use Rattle.model_store.proofs.SettledLemmas.{log_along}
use Rattle.model_appends.proofs.AppendSafeLemmas.{carries_alike}

abbrev pub Own : DiskState → Type 0
Own disk = IsImage disk (files_of disk)

-- ---- regions

-- a region that lies in a file is its own
region_itself : (octets : List ℕ) (row : MapRecord) → row.offset + row.size ≤ length octets → IsSameRegion (Some octets) (Some octets) row
region_itself octets row le = record { first = octets; second = octets; in_first = refl; in_second = refl; first_holds = le; second_holds = le; same = refl }

pub region_holds : (o : Option (List ℕ)) (octets : List ℕ) (row : MapRecord) → IsSameRegion o (Some octets) row → row.offset + row.size ≤ length octets
region_holds o octets row h =
    let is : h.second ≡ octets = let w : Some octets ≡ Some h.second = h.in_second in cc w in
    subst (λ (x : List ℕ). row.offset + row.size ≤ length x) is h.second_holds

pub part_behind : (size offset : ℕ) (x y : List ℕ) → offset + size ≤ length x → take size (drop offset (x ++ y)) ≡ take size (drop offset x)
part_behind size offset x y le =
    ap (take size) (drop-append-le offset x y (omega (arith, le)))
    ∙ take-append-le size (drop offset x) y (let l = length-drop offset x in omega (arith, le, l))

-- it stays where octets are added
pub region_grown : (o : Option (List ℕ)) (x y : List ℕ) (row : MapRecord) → IsSameRegion o (Some x) row → IsSameRegion o (Some (x ++ y)) row
region_grown o x y row h =
    let le : row.offset + row.size ≤ length x = region_holds o x row h in
    let is : h.second ≡ x = let w : Some x ≡ Some h.second = h.in_second in cc w in
    record {
      first = h.first;
      second = x ++ y;
      in_first = h.in_first;
      in_second = refl;
      first_holds = h.first_holds;
      second_holds = let l = length-append x y in omega (arith, le, l);
      same = part_behind row.size row.offset x y le ∙ ap (λ (z : List ℕ). take row.size (drop row.offset z)) (sym is) ∙ h.same;
    }

pub region_nowhere : (o : Option (List ℕ)) (row : MapRecord) → IsSameRegion o None row → ⊥
region_nowhere o row h = absurd (let w : None ≡ Some h.second = h.in_second in cc w)

-- it stands in a file where it stands in the file's front
pub region_untaken : (end : ℕ) (o i : Option (List ℕ)) (row : MapRecord) → IsSameRegion o (option_map (take end) i) row → IsSameRegion o i row
region_untaken end o None row h = absurd (region_nowhere o row h)
region_untaken end o (Some x) row h = subst (λ (z : List ℕ). IsSameRegion o (Some z) row) (take-append-drop end x) (region_grown o (take end x) (drop end x) row h)

-- ---- images of a settled disk

pub left_image : (name : FileName) (disk : DiskState) (left : Option (List ℕ)) (image : Files) → MayLeave (disk name) left → LeftBut name disk image → IsImage disk (mixed name (λ _. left) image)
left_image name disk left image here others = λ other. by_test (same_name other name) other refl
  where
    by_test : (t : Bool) (other : FileName) → same_name other name ≡ t → MayLeave (disk other) (mixed name (λ _. left) image other)
    by_test true other e =
        subst (λ (n : FileName). MayLeave (disk n) (mixed name (λ _. left) image n)) (sym (same_name-true other name e))
        (subst (λ (o : Option (List ℕ)). MayLeave (disk name) o) (sym (mixed-here name (λ _. left) image)) here)
    by_test false other e =
        let apart : other ≢ name = same_name-apart other name e in
        subst (λ (o : Option (List ℕ)). MayLeave (disk other) o) (sym (mixed-other name other (λ _. left) image apart)) (others other apart)

-- what a crash may leave of a storage file has the regions of its records
pub regions_left : (disk : DiskState) (lists : Lists) (s : IsSettled disk lists) (n : ℕ) (left : Option (List ℕ)) → Own disk → MayLeave (disk (file.Mail n)) left → All (λ row. row.file ≡ n → IsSameRegion (reading (disk (file.Mail n))) left row) (map_meaning s.store s.entries).records
regions_left disk lists s n left own may =
    let name : FileName = file.Mail n in
    let m : MapMeaning = map_meaning s.store s.entries in
    let g : ℕ = s.safe.stands.map_log.generation in
    let image : Files = mixed name (λ _. left) (files_of disk) in
    subst (λ (o : Option (List ℕ)). All (λ (row : MapRecord). row.file ≡ n → IsSameRegion (reading (disk name)) o row) m.records) (mixed-here name (λ _. left) (files_of disk))
    (carries_alike g m (files_of disk) image (s.alike image (left_image name disk left (files_of disk) may (λ other apart. own other))) name)

-- an image that has the regions of one file, and of the others what a crash may leave, is safe
pub mail_safe : (disk : DiskState) (lists : Lists) (s : IsSettled disk lists) (n : ℕ) (image : Files) → Own disk → LeftBut (file.Mail n) disk image
    → All (λ row. row.file ≡ n → IsSameRegion (reading (disk (file.Mail n))) (image (file.Mail n)) row) (map_meaning s.store s.entries).records → Safe image lists
mail_safe disk lists s n image own left regions =
    let g : ℕ = s.safe.stands.map_log.generation in
    let m : MapMeaning = map_meaning s.store s.entries in
    record {
      store = s.store;
      entries = s.entries;
      by = safe_carried (files_of disk) image s.store s.entries lists s.safe (each_name g m (files_of disk) image (λ name. by_test (same_name name (file.Mail n)) name refl));
    }
  where
    by_test : (t : Bool) (name : FileName) → same_name name (file.Mail n) ≡ t → CarriesOver s.safe.stands.map_log.generation (map_meaning s.store s.entries) (files_of disk) name (image name)
    by_test true name e =
        subst (λ (k : FileName). CarriesOver s.safe.stands.map_log.generation (map_meaning s.store s.entries) (files_of disk) k (image k)) (sym (same_name-true name (file.Mail n) e)) regions
    by_test false name e = others_carry disk lists s (file.Mail n) image own left name (same_name-apart name (file.Mail n) e)

pub front_safe : (disk : DiskState) (lists : Lists) (n end : ℕ) (image : Files) → IsSettled disk lists → Own disk → MayLeave (disk (file.Mail n)) (option_map (take end) (image (file.Mail n))) → LeftBut (file.Mail n) disk image → Safe image lists
front_safe disk lists n end image s own front left =
    mail_safe disk lists s n image own left
    (All-weaker (λ (row : MapRecord). row.file ≡ n → IsSameRegion (reading (disk (file.Mail n))) (option_map (take end) (image (file.Mail n))) row) (λ (row : MapRecord). row.file ≡ n → IsSameRegion (reading (disk (file.Mail n))) (image (file.Mail n)) row)
    (λ row h same. region_untaken end (reading (disk (file.Mail n))) (image (file.Mail n)) row (h same)) (map_meaning s.store s.entries).records
    (regions_left disk lists s n (option_map (take end) (image (file.Mail n))) own front))

pub absent_safe : (disk : DiskState) (lists : Lists) (n : ℕ) (image : Files) → IsSettled disk lists → Own disk → reading (disk (file.Mail n)) ≡ None → LeftBut (file.Mail n) disk image → Safe image lists
absent_safe disk lists n image s own none left =
    mail_safe disk lists s n image own left
    (All-weaker (λ (row : MapRecord). row.file ≡ n → IsSameRegion (reading (disk (file.Mail n))) (reading (disk (file.Mail n))) row) (λ (row : MapRecord). row.file ≡ n → IsSameRegion (reading (disk (file.Mail n))) (image (file.Mail n)) row)
    (λ row h same. absurd (region_nowhere (reading (disk (file.Mail n))) row (subst (λ (o : Option (List ℕ)). IsSameRegion (reading (disk (file.Mail n))) o row) none (h same)))) (map_meaning s.store s.entries).records
    (regions_left disk lists s n (reading (disk (file.Mail n))) own (own (file.Mail n))))

-- ---- one storage file has changed

-- what a crash could leave of a storage file before, whose regions are there still
pub record WasLeft (n : ℕ) (a b : DiskState) (left : Option (List ℕ)) : Type 0 where
  pub before : Option (List ℕ)
  pub may : MayLeave (a (file.Mail n)) before
  pub regions : (row : MapRecord) → IsSameRegion (reading (a (file.Mail n))) before row → IsSameRegion (reading (b (file.Mail n))) left row

-- The other files read as before, and are left so. Of this one the regions stay, as it reads and as a crash leaves it.
pub record MailChange (n : ℕ) (a b : DiskState) : Type 0 where
  pub reads : (other : FileName) → other ≢ file.Mail n → reading (b other) ≡ reading (a other)
  pub leaves : (other : FileName) → other ≢ file.Mail n → (left : Option (List ℕ)) → MayLeave (b other) left → MayLeave (a other) left
  pub kept : (row : MapRecord) → IsSameRegion (reading (a (file.Mail n))) (reading (a (file.Mail n))) row → IsSameRegion (reading (a (file.Mail n))) (reading (b (file.Mail n))) row
  pub left : (left : Option (List ℕ)) → MayLeave (b (file.Mail n)) left → WasLeft n a b left

pub mail_added : (n : ℕ) (a b : DiskState) (octets : List ℕ) → Own a → ((other : FileName) → other ≢ file.Mail n → b other ≡ a other) → IsAddedTo octets (a (file.Mail n)) (b (file.Mail n)) → MailChange n a b
mail_added n a b octets own same added = record {
  reads = λ other apart. ap reading (same other apart);
  leaves = λ other apart left h. subst (λ (f : FileState). MayLeave f left) (same other apart) h;
  kept = λ row h.
      subst (λ (o : Option (List ℕ)). IsSameRegion (reading (a (file.Mail n))) o row) (sym added.reads)
      (region_grown (reading (a (file.Mail n))) added.before octets row (subst (λ (o : Option (List ℕ)). IsSameRegion (reading (a (file.Mail n))) o row) added.read h));
  left = λ left may. elim ((added.leaves left).0 may) [
    | inl is ↦ record {
      before = Some added.before;
      may = subst (λ (o : Option (List ℕ)). MayLeave (a (file.Mail n)) o) added.read (own (file.Mail n));
      regions = λ row h.
          let le : row.offset + row.size ≤ length added.before = region_holds (reading (a (file.Mail n))) added.before row h in
          let l = length-append added.before octets in
          subst (λ (o : Option (List ℕ)). IsSameRegion (reading (b (file.Mail n))) o row) (sym is)
          (subst (λ (o : Option (List ℕ)). IsSameRegion o (Some (added.before ++ octets)) row) (sym added.reads) (region_itself (added.before ++ octets) row (omega (arith, le, l))));
    }
    | inr gone ↦ record { before = None; may = gone.1; regions = λ row h. absurd (region_nowhere (reading (a (file.Mail n))) row h) }
  ];
}

pub named_reads : (f : FileState) → reading (named f) ≡ reading f
named_reads f = elim (cases_Bool f.is_there) [
  | inl there ↦ ap reading (cond-true f.is_there (record f { is_name_loose = false }) no_file there)
  | inr gone ↦ ap reading (cond-false f.is_there (record f { is_name_loose = false }) no_file gone) ∙ sym (cond-false f.is_there (Some f.octets) None gone)
]

pub mail_made : (n : ℕ) (a b : DiskState) → Own a → reading (a (file.Mail n)) ≡ None → ((other : FileName) → other ≢ file.Mail n → b other ≡ named (a other)) → MailChange n a b
mail_made n a b own none same = record {
  reads = λ other apart. ap reading (same other apart) ∙ named_reads (a other);
  leaves = λ other apart left h. named-narrows (a other) left (subst (λ (f : FileState). MayLeave f left) (same other apart) h);
  kept = λ row h. absurd (region_nowhere (reading (a (file.Mail n))) row (subst (λ (o : Option (List ℕ)). IsSameRegion (reading (a (file.Mail n))) o row) none h));
  left = λ left may. record {
    before = None;
    may = subst (λ (o : Option (List ℕ)). MayLeave (a (file.Mail n)) o) none (own (file.Mail n));
    regions = λ row h. absurd (region_nowhere (reading (a (file.Mail n))) row h);
  };
}

-- nothing has changed
pub mail_same : (n : ℕ) (a : DiskState) → MailChange n a a
mail_same n a = record {
  reads = λ other apart. refl;
  leaves = λ other apart left h. h;
  kept = λ row h. h;
  left = λ left may. record { before = left; may = may; regions = λ row h. h };
}

-- ---- what a store reads

pub same_entries : (a b : Option (List ℕ)) → b ≡ a → HasSameEntries a b
same_entries a b e = λ head entries h. subst (λ (o : Option (List ℕ)). IsLogFile o head entries) (sym e) h

pub region_on : (n : ℕ) (a b : DiskState) (row : MapRecord) → MailChange n a b → LiesInFile (files_of a) row → HasSameRegion (files_of a) (files_of b) row
region_on n a b row c l = elim (cases_eq row.file n) [
  | inl same ↦
      subst (λ (k : ℕ). IsSameRegion (reading (a (file.Mail k))) (reading (b (file.Mail k))) row) (sym same)
      (c.kept row (subst (λ (k : ℕ). IsSameRegion (reading (a (file.Mail k))) (reading (a (file.Mail k))) row) same itself))
  | inr apart ↦
      subst (λ (o : Option (List ℕ)). IsSameRegion (reading (a (file.Mail row.file))) o row)
      (sym (c.reads (file.Mail row.file) (λ e. apart (let w : file.Mail row.file ≡ file.Mail n = e in cc w)))) itself
]
  where
    itself : IsSameRegion (reading (a (file.Mail row.file))) (reading (a (file.Mail row.file))) row
    itself = record { first = l.octets; second = l.octets; in_first = l.there; in_second = l.there; first_holds = l.inside; second_holds = l.inside; same = refl }

carry_mail : (g : ℕ) (m : MapMeaning) (n : ℕ) (a b : DiskState) → MailChange n a b → All (LiesInFile (files_of a)) m.records → CarryOver g m (files_of a) (files_of b)
carry_mail g m n a b c lie = record {
  root = same_entries (reading (a file.Root)) (reading (b file.Root)) (c.reads file.Root (λ e. absurd (let w : file.Root ≡ file.Mail n = e in cc w)));
  map = same_entries (reading (a (file.Map g))) (reading (b (file.Map g))) (c.reads (file.Map g) (λ e. absurd (let w : file.Map g ≡ file.Mail n = e in cc w)));
  boxes = λ k d lt. same_entries _ _ (c.reads (file.Box _ _) (λ e. absurd (cc e)));
  regions = All-weaker (LiesInFile (files_of a)) (HasSameRegion (files_of a) (files_of b)) (λ row l. region_on n a b row c l) m.records lie;
  instances = λ k d lt. λ i e lt2. c.reads (file.Inst _ _) (λ e. absurd (cc e));
}

-- Records store what they stored.
pub stored_on : (n : ℕ) (a b : DiskState) (row : MapRecord) (octets : List ℕ) → MailChange n a b → StoresMessage (files_of a) row octets → StoresMessage (files_of b) row octets
stored_on n a b row octets c h =
    kept_along (files_of a) (files_of b) row octets
    (region_on n a b row c (record { octets = h.stored.octets_there; there = h.stored.there; inside = h.stored.inside }))
    (λ k d lt. c.reads (file.Inst _ _) (λ e. absurd (cc e))) h

-- Files that open do so again.

abbrev SameLog : Files → Files → MapBox → Type 0
SameLog a b box = HasSameEntries (a (file.Box box.number box.generation)) (b (file.Box box.number box.generation))

pub boxes_pass : (m : MapMeaning) (a b : Files) (boxes : List MapBox) (logs : List (List BoxEntry)) → All (SameLog a b) boxes → PassBoxes a m boxes logs → PassBoxes b m boxes logs
boxes_pass m a b [] [] s h = tt
boxes_pass m a b [] (l ∷ ls) s h = absurd h
boxes_pass m a b (x ∷ xs) [] s h = absurd h
boxes_pass m a b (x ∷ xs) (l ∷ ls) s h =
    let one = h.0 in (
      record { log = record { log = log_along a b _ _ _ (All-head (SameLog a b) x xs s) one.log.log; in_range = one.log.in_range; fit = one.log.fit }; records = one.records },
      boxes_pass m a b xs ls (All-tail (SameLog a b) x xs s) h.1,
    )

pub opens_on : (n : ℕ) (a b : DiskState) (store : List ℕ) (entries : List MapEntry) (logs : List (List BoxEntry)) → MailChange n a b → Opens (files_of a) store entries logs → Opens (files_of b) store entries logs
opens_on n a b store entries logs c o =
    let m : MapMeaning = map_meaning store entries in
    let g : ℕ = o.passed.map_log.generation in
    let carry : CarryOver g m (files_of a) (files_of b) = carry_mail g m n a b c o.regions in
    let old : HasAll (files_of a) m [] = record { counts = λ guid. omega arith; regions = o.regions; instances = o.instances } in
    let all = has_all_carried g m (files_of a) (files_of b) [] carry old in
    record {
      passed = record { map_log = map_along store entries (files_of a) (files_of b) o.passed.map_log carry; boxes = boxes_pass m (files_of a) (files_of b) m.boxes logs carry.boxes o.passed.boxes };
      counts = o.counts;
      regions = all.regions;
      instances = all.instances;
    }

pub root_on : (n : ℕ) (a b : DiskState) (store : List ℕ) (generation : ℕ) → MailChange n a b → HasRoot (files_of a) store generation → HasRoot (files_of b) store generation
root_on n a b store generation c h = record {
  before = h.before;
  log = log_as (files_of a) (files_of b) file.Root _ _ (c.reads file.Root (λ e. absurd (let w : file.Root ≡ file.Mail n = e in cc w))) h.log;
  in_range = h.in_range;
}

-- ---- a settled disk is settled again

alike_on : (g : ℕ) (m : MapMeaning) (n : ℕ) (a b : DiskState) (before : Option (List ℕ)) (image : Files) → MailChange n a b → ((row : MapRecord) → IsSameRegion (reading (a (file.Mail n))) before row → IsSameRegion (reading (b (file.Mail n))) (image (file.Mail n)) row)
    → AreAlike g m (files_of a) (mixed (file.Mail n) (λ _. before) image) → AreAlike g m (files_of b) image
alike_on g m n a b before image c grow e = record {
  root = at file.Root (λ p. absurd (let w : file.Root ≡ file.Mail n = p in cc w)) e.root;
  map = at (file.Map g) (λ p. absurd (let w : file.Map g ≡ file.Mail n = p in cc w)) e.map;
  boxes = All-weaker (λ (box : MapBox). mixed (file.Mail n) (λ _. before) image (file.Box box.number box.generation) ≡ files_of a (file.Box box.number box.generation)) (λ (box : MapBox). image (file.Box box.number box.generation) ≡ files_of b (file.Box box.number box.generation))
      (λ box p. at (file.Box box.number box.generation) (λ q. absurd (let w : file.Box box.number box.generation ≡ file.Mail n = q in cc w)) p) m.boxes e.boxes;
  regions = All-weaker (HasSameRegion (files_of a) (mixed (file.Mail n) (λ _. before) image)) (HasSameRegion (files_of b) image) (λ row r. region row r) m.records e.regions;
  instances = All-weaker (λ (row : MapRecord). All (HasSameInstance (files_of a) (mixed (file.Mail n) (λ _. before) image)) row.instances) (λ (row : MapRecord). All (HasSameInstance (files_of b) image) row.instances)
      (λ row r. All-weaker (HasSameInstance (files_of a) (mixed (file.Mail n) (λ _. before) image)) (HasSameInstance (files_of b) image)
      (λ inst p. at (file.Inst inst.hash.0 inst.id.0) (λ q. absurd (let w : file.Inst inst.hash.0 inst.id.0 ≡ file.Mail n = q in cc w)) p) row.instances r) m.records e.instances;
}
  where
    at : (name : FileName) → name ≢ file.Mail n → mixed (file.Mail n) (λ _. before) image name ≡ files_of a name → image name ≡ files_of b name
    at name apart same = sym (mixed-other (file.Mail n) name (λ _. before) image apart) ∙ same ∙ sym (c.reads name apart)

    region : (row : MapRecord) → HasSameRegion (files_of a) (mixed (file.Mail n) (λ _. before) image) row → HasSameRegion (files_of b) image row
    region row r = elim (cases_eq row.file n) [
      | inl same ↦
          let there : IsSameRegion (reading (a (file.Mail n))) (mixed (file.Mail n) (λ _. before) image (file.Mail n)) row = subst (λ (k : ℕ). IsSameRegion (reading (a (file.Mail k))) (mixed (file.Mail n) (λ _. before) image (file.Mail k)) row) same r in
          subst (λ (k : ℕ). IsSameRegion (reading (b (file.Mail k))) (image (file.Mail k)) row) (sym same)
          (grow row (subst (λ (o : Option (List ℕ)). IsSameRegion (reading (a (file.Mail n))) o row) (mixed-here (file.Mail n) (λ _. before) image) there))
      | inr apart ↦
          let other : file.Mail row.file ≢ file.Mail n = λ p. apart (let w : file.Mail row.file ≡ file.Mail n = p in cc w) in
          subst (λ (o : Option (List ℕ)). IsSameRegion o (image (file.Mail row.file)) row) (sym (c.reads (file.Mail row.file) other))
          (subst (λ (o : Option (List ℕ)). IsSameRegion (reading (a (file.Mail row.file))) o row) (mixed-other (file.Mail n) (file.Mail row.file) (λ _. before) image other) r)
    ]

pub settled_on : (n : ℕ) (a b : DiskState) (lists : Lists) → MailChange n a b → IsSettled a lists → IsSettled b lists
settled_on n a b lists c s =
    let m : MapMeaning = map_meaning s.store s.entries in
    let g : ℕ = s.safe.stands.map_log.generation in
    let safe : SafeBy (files_of b) s.store s.entries lists = safe_carried (files_of a) (files_of b) s.store s.entries lists s.safe (carry_mail g m n a b c s.safe.has_all.regions) in
    let root : HasRoot (files_of b) s.store g = root_on n a b s.store g c s.safe.stands.map_log.root in
    let one : g ≡ safe.stands.map_log.generation = (root_same (files_of b) s.store s.store g safe.stands.map_log.generation root safe.stands.map_log.root).1 in
    record {
      store = s.store;
      entries = s.entries;
      safe = safe;
      alike = λ image is.
          let w : WasLeft n a b (image (file.Mail n)) = c.left (image (file.Mail n)) (is (file.Mail n)) in
          let before : IsImage a (mixed (file.Mail n) (λ _. w.before) image) = left_image (file.Mail n) a w.before image w.may (λ other apart. c.leaves other apart (image other) (is other)) in
          subst (λ (k : ℕ). AreAlike k m (files_of b) image) one
          (alike_on g m n a b w.before image c w.regions (s.alike (mixed (file.Mail n) (λ _. w.before) image) before));
    }

-- ---- a crash leaves the file as it reads

none_in : (n : ℕ) (rows : List MapRecord) → All (λ row. row.file ≡ n → ⊥) rows → list_any (λ row. row.file == n) rows ≡ true → ⊥
none_in n [] a is = absurd (false≢true is)
none_in n (row ∷ rows) a is = elim (cases_Bool (row.file == n)) [
  | inl hit ↦ All-head (λ (r : MapRecord). r.file ≡ n → ⊥) row rows a (equal_is row.file n hit)
  | inr miss ↦ none_in n rows (All-tail (λ (r : MapRecord). r.file ≡ n → ⊥) row rows a) (sym (ap (λ (t : Bool). t || list_any (λ r. r.file == n) rows) miss) ∙ is)
]

-- no crash takes a file away that has a region on a settled disk
pub region_firm : (disk : DiskState) (lists : Lists) (s : IsSettled disk lists) (n : ℕ) → Own disk → list_any (λ row. row.file == n) (map_meaning s.store s.entries).records ≡ true → MayLeave (disk (file.Mail n)) None → ⊥
region_firm disk lists s n own has gone =
    none_in n (map_meaning s.store s.entries).records
    (All-weaker (λ (row : MapRecord). row.file ≡ n → IsSameRegion (reading (disk (file.Mail n))) None row) (λ (row : MapRecord). row.file ≡ n → ⊥) (λ row h same. region_nowhere (reading (disk (file.Mail n))) row (h same)) (map_meaning s.store s.entries).records
    (regions_left disk lists s n None own gone)) has

pub added_as_read : (n : ℕ) (a b : DiskState) (octets : List ℕ) → IsAddedTo octets (a (file.Mail n)) (b (file.Mail n)) → (MayLeave (a (file.Mail n)) None → ⊥) → LeavesAsRead (file.Mail n) b
added_as_read n a b octets added firm = λ left may. elim ((added.leaves left).0 may) [
  | inl is ↦ is ∙ sym added.reads
  | inr gone ↦ absurd (firm gone.1)
]

-- ---- beside a change of another file

pub known_beside : (name : FileName) (files : List MailFile) (old new : Option History) → ((number : ℕ) → file.Mail number ≢ name) → SameButFor name old new → ((number : ℕ) → IsAsKnown files number old) → (number : ℕ) → IsAsKnown files number new
known_beside name files old new apart same known number =
    between-on (λ a b. (other : FileName) → other ≢ name → b other ≡ a other) (λ disk. option_map length (reading (disk (file.Mail number))) ≡ end_in number files) (λ disk. option_map length (reading (disk (file.Mail number))) ≡ end_in number files) old new
    (λ a b s e. ap (λ (f : FileState). option_map length (reading f)) (s (file.Mail number) (apart number)) ∙ e) same (known number)

pub stay_beside : (name : FileName) (files : List MailFile) (rows : List MapRecord) (old new : Option History) → ((number : ℕ) → file.Mail number ≢ name) → SameButFor name old new → IfTold old (StayThere files rows) → IfTold new (StayThere files rows)
stay_beside name files rows old new apart same stay =
    between-on (λ a b. (other : FileName) → other ≢ name → b other ≡ a other) (StayThere files rows) (StayThere files rows) old new
    (λ a b s stay number f found grows there.
    let e : b (file.Mail number) ≡ a (file.Mail number) = s (file.Mail number) (apart number) in
    subst (λ (x : FileState). (list_any (λ row. row.file == number) rows ≡ true) ⊎ (MayLeave x None → ⊥)) (sym e) (stay number f found grows (subst IsThere e there))) same stay
