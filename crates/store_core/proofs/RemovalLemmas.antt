-- Disks from which one storage file was removed in which no record lies: what they read, what a crash leaves, and what a store makes of it.
use Rattle.store_core.proofs.Common.{◌⊎◌, list_any, inl, inr, ◌≡◌, ◌≢◌, ◌==◌, ℕ, true, false, List, [], ◌∷◌, map, length, Option, Some, None, All, refl, sym, ◌∙◌, ap, subst, arith, option_map, cases_eq, All-weaker, Files, FileState, DiskState, History, IsThere, IfTold, Between, SameButFor}
use Rattle.store_core.proofs.Common.{EachImage, OthersStay, IsImage, MayLeave, reading, FileName, between-on, between-map, reads_there, each_image-map, LogState, IsLogRead, Reads, BoxEntry, MapEntry, Lists, box_text, map_text, MapRecord, MapBox, MapMeaning, map_meaning, HasRoot, StoresMessage}
use Rattle.store_core.proofs.Common.{LiesInFile, HasAll, SafeBy, Safe, files_of, IsSameRegion, HasSameRegion, HasSameInstance, AreAlike, IsSettled, IsSettledFor, Leaves, CarryOver, Opens, safe_carried, has_all_carried, map_along, kept_along, map_same, root_same, LeftBut, log_as, mixed, mixed-other}
use Rattle.store_core.proofs.Common.{MailFile, FilesValue, end_in, file_in, IsAsKnown, StayThere, AreElsewhere, StoreValue, AreBoxLogs, ReadBoxLogs, IsRunning, IsStore, OpenBox}
use Rattle.disk_model.specs.declared.name.FileName.TheVariants as file
use Rattle.storage_files.specs.Files.{without_file}
use Rattle.storage_files.specs.OnDisk.{IsLeftOrNone}
use Rattle.storage_files.proofs.FileListLemmas.{file-gone}
use Rattle.store_core.specs.Removing.{KeepsStoredBut}
use Rattle.store_core.proofs.KeptFileLemmas.{came_without, grew, pins_without, kept_on}
use Rattle.store_core.proofs.MailChangeLemmas.{Own, left_image, mail_safe, boxes_pass, same_entries}

-- the other files are as before
abbrev pub SameOthers : ℕ → DiskState → DiskState → Type 0
SameOthers n a b = (other : FileName) → other ≢ file.Mail n → b other ≡ a other

other_reads : (n : ℕ) (a b : DiskState) (other : FileName) → SameOthers n a b → other ≢ file.Mail n → reading (b other) ≡ reading (a other)
other_reads n a b other same apart = ap reading (same other apart)

-- ---- images within the call

removed_safe : (disk : DiskState) (lists : Lists) (s : IsSettled disk lists) (n : ℕ) (image : Files) → Own disk → LeftBut (file.Mail n) disk image → AreElsewhere n (map_meaning s.store s.entries).records → Safe image lists
removed_safe disk lists s n image own left elsewhere =
    mail_safe disk lists s n image own left
    (All-weaker (λ (row : MapRecord). row.file ≢ n) (λ (row : MapRecord). row.file ≡ n → IsSameRegion (reading (disk (file.Mail n))) (image (file.Mail n)) row)
    (λ row apart same. absurd (apart same)) (map_meaning s.store s.entries).records elsewhere)

-- ---- what a store reads

region_gone : (n : ℕ) (a b : DiskState) (row : MapRecord) → SameOthers n a b → row.file ≢ n → LiesInFile (files_of a) row → HasSameRegion (files_of a) (files_of b) row
region_gone n a b row same apart l =
    subst (λ (o : Option (List ℕ)). IsSameRegion (reading (a (file.Mail row.file))) o row)
    (sym (other_reads n a b (file.Mail row.file) same (λ e. apart (let w : file.Mail row.file ≡ file.Mail n = e in cc w))))
    (record { first = l.octets; second = l.octets; in_first = l.there; in_second = l.there; first_holds = l.inside; second_holds = l.inside; same = refl })

carry_gone : (g : ℕ) (m : MapMeaning) (n : ℕ) (a b : DiskState) → SameOthers n a b → AreElsewhere n m.records → All (LiesInFile (files_of a)) m.records → CarryOver g m (files_of a) (files_of b)
carry_gone g m n a b same elsewhere lie = record {
  root = same_entries (reading (a file.Root)) (reading (b file.Root)) (other_reads n a b file.Root same (λ e. absurd (let w : file.Root ≡ file.Mail n = e in cc w)));
  map = same_entries (reading (a (file.Map g))) (reading (b (file.Map g))) (other_reads n a b (file.Map g) same (λ e. absurd (let w : file.Map g ≡ file.Mail n = e in cc w)));
  boxes = λ k d lt. same_entries _ _ (other_reads n a b (file.Box _ _) same (λ e. absurd (cc e)));
  regions = λ k d lt. region_gone n a b _ same (elsewhere k d lt) (lie k d lt);
  instances = λ k d lt. λ i e lt2. other_reads n a b (file.Inst _ _) same (λ e. absurd (cc e));
}

-- a record that lies elsewhere stores what it stored
pub stored_gone : (n : ℕ) (a b : DiskState) (row : MapRecord) (octets : List ℕ) → SameOthers n a b → row.file ≢ n → StoresMessage (files_of a) row octets → StoresMessage (files_of b) row octets
stored_gone n a b row octets same apart h =
    kept_along (files_of a) (files_of b) row octets
    (region_gone n a b row same apart (record { octets = h.stored.octets_there; there = h.stored.there; inside = h.stored.inside }))
    (λ k d lt. other_reads n a b (file.Inst _ _) same (λ e. absurd (cc e))) h

opens_gone : (n : ℕ) (a b : DiskState) (store : List ℕ) (entries : List MapEntry) (logs : List (List BoxEntry)) → SameOthers n a b → AreElsewhere n (map_meaning store entries).records → Opens (files_of a) store entries logs → Opens (files_of b) store entries logs
opens_gone n a b store entries logs same elsewhere o =
    let m : MapMeaning = map_meaning store entries in
    let g : ℕ = o.passed.map_log.generation in
    let carry : CarryOver g m (files_of a) (files_of b) = carry_gone g m n a b same elsewhere o.regions in
    let old : HasAll (files_of a) m [] = record { counts = λ guid. omega arith; regions = o.regions; instances = o.instances } in
    let all = has_all_carried g m (files_of a) (files_of b) [] carry old in
    record {
      passed = record { map_log = map_along store entries (files_of a) (files_of b) o.passed.map_log carry; boxes = boxes_pass m (files_of a) (files_of b) m.boxes logs carry.boxes o.passed.boxes };
      counts = o.counts;
      regions = all.regions;
      instances = all.instances;
    }

root_gone : (n : ℕ) (a b : DiskState) (store : List ℕ) (generation : ℕ) → SameOthers n a b → HasRoot (files_of a) store generation → HasRoot (files_of b) store generation
root_gone n a b store generation same h = record {
  before = h.before;
  log = log_as (files_of a) (files_of b) file.Root _ _ (other_reads n a b file.Root same (λ e. absurd (let w : file.Root ≡ file.Mail n = e in cc w))) h.log;
  in_range = h.in_range;
}

-- ---- a settled disk is settled again

alike_gone : (g : ℕ) (m : MapMeaning) (n : ℕ) (a b : DiskState) (before : Option (List ℕ)) (image : Files) → SameOthers n a b → AreElsewhere n m.records → AreAlike g m (files_of a) (mixed (file.Mail n) (λ _. before) image) → AreAlike g m (files_of b) image
alike_gone g m n a b before image same elsewhere e = record {
  root = at file.Root (λ p. absurd (let w : file.Root ≡ file.Mail n = p in cc w)) e.root;
  map = at (file.Map g) (λ p. absurd (let w : file.Map g ≡ file.Mail n = p in cc w)) e.map;
  boxes = All-weaker (λ (box : MapBox). mixed (file.Mail n) (λ _. before) image (file.Box box.number box.generation) ≡ files_of a (file.Box box.number box.generation)) (λ (box : MapBox). image (file.Box box.number box.generation) ≡ files_of b (file.Box box.number box.generation))
      (λ box p. at (file.Box box.number box.generation) (λ q. absurd (let w : file.Box box.number box.generation ≡ file.Mail n = q in cc w)) p) m.boxes e.boxes;
  regions = λ k d lt. region _ (elsewhere k d lt) (e.regions k d lt);
  instances = All-weaker (λ (row : MapRecord). All (HasSameInstance (files_of a) (mixed (file.Mail n) (λ _. before) image)) row.instances) (λ (row : MapRecord). All (HasSameInstance (files_of b) image) row.instances)
      (λ row r. All-weaker (HasSameInstance (files_of a) (mixed (file.Mail n) (λ _. before) image)) (HasSameInstance (files_of b) image)
      (λ inst p. at (file.Inst inst.hash.0 inst.id.0) (λ q. absurd (let w : file.Inst inst.hash.0 inst.id.0 ≡ file.Mail n = q in cc w)) p) row.instances r) m.records e.instances;
}
  where
    at : (name : FileName) → name ≢ file.Mail n → mixed (file.Mail n) (λ _. before) image name ≡ files_of a name → image name ≡ files_of b name
    at name apart is = sym (mixed-other (file.Mail n) name (λ _. before) image apart) ∙ is ∙ sym (other_reads n a b name same apart)

    region : (row : MapRecord) → row.file ≢ n → HasSameRegion (files_of a) (mixed (file.Mail n) (λ _. before) image) row → HasSameRegion (files_of b) image row
    region row apart r =
        let other : file.Mail row.file ≢ file.Mail n = λ p. apart (let w : file.Mail row.file ≡ file.Mail n = p in cc w) in
        subst (λ (o : Option (List ℕ)). IsSameRegion o (image (file.Mail row.file)) row) (sym (other_reads n a b (file.Mail row.file) same other))
        (subst (λ (o : Option (List ℕ)). IsSameRegion (reading (a (file.Mail row.file))) o row) (mixed-other (file.Mail n) (file.Mail row.file) (λ _. before) image other) r)

settled_gone : (n : ℕ) (a b : DiskState) (lists : Lists) → Own a → SameOthers n a b → (s : IsSettled a lists) → AreElsewhere n (map_meaning s.store s.entries).records → IsSettled b lists
settled_gone n a b lists own same s elsewhere =
    let m : MapMeaning = map_meaning s.store s.entries in
    let g : ℕ = s.safe.stands.map_log.generation in
    let safe : SafeBy (files_of b) s.store s.entries lists = safe_carried (files_of a) (files_of b) s.store s.entries lists s.safe (carry_gone g m n a b same elsewhere s.safe.has_all.regions) in
    let root : HasRoot (files_of b) s.store g = root_gone n a b s.store g same s.safe.stands.map_log.root in
    let one : g ≡ safe.stands.map_log.generation = (root_same (files_of b) s.store s.store g safe.stands.map_log.generation root safe.stands.map_log.root).1 in
    record {
      store = s.store;
      entries = s.entries;
      safe = safe;
      alike = λ image is.
          let left : Option (List ℕ) = reading (a (file.Mail n)) in
          let before : IsImage a (mixed (file.Mail n) (λ _. left) image) =
          left_image (file.Mail n) a left image (own (file.Mail n)) (λ other apart. subst (λ (f : FileState). MayLeave f (image other)) (same other apart) (is other)) in
          subst (λ (k : ℕ). AreAlike k m (files_of b) image) one
          (alike_gone g m n a b left image same elsewhere (s.alike (mixed (file.Mail n) (λ _. left) image) before));
    }

-- ---- the store

reads_gone : (n : ℕ) (log : LogState) (entries : List (List ℕ)) (old new : Option History) → Between (SameOthers n) old new → log.name ≢ file.Mail n → Reads log entries old → Reads log entries new
reads_gone n log entries old new change apart r =
    between-on (SameOthers n) (IsLogRead log entries) (IsLogRead log entries) old new (λ a b c i. record { file = other_reads n a b log.name c apart ∙ i.file; end = i.end; count = i.count; head_fits = i.head_fits; entries_fit = i.entries_fit }) change r

boxes_gone : (n : ℕ) (store : List ℕ) (mailboxes : List MapBox) (boxes : List OpenBox) (logs : List (List BoxEntry)) (old new : Option History) → Between (SameOthers n) old new → AreBoxLogs store mailboxes boxes → ReadBoxLogs old boxes logs → ReadBoxLogs new boxes logs
boxes_gone n store [] [] [] old new change a r = tt
boxes_gone n store [] [] (l ∷ ls) old new change a r = absurd r
boxes_gone n store [] (b ∷ bs) logs old new change a r = absurd a
boxes_gone n store (m ∷ ms) [] logs old new change a r = absurd a
boxes_gone n store (m ∷ ms) (b ∷ bs) [] old new change a r = absurd r
boxes_gone n store (m ∷ ms) (b ∷ bs) (l ∷ ls) old new change a r = (
  reads_gone n b.log (map box_text l) old new change (λ e. absurd (let w : file.Box m.number m.generation ≡ file.Mail n = sym a.1 ∙ e in cc w)) r.0,
  boxes_gone n store ms bs ls old new change a.3 r.1,
)

stay_gone : (n : ℕ) (files : List MailFile) (rows : List MapRecord) (a b : DiskState) → SameOthers n a b → StayThere files rows a → StayThere (without_file n files) rows b
stay_gone n files rows a b same stay = λ number f found grows there. elim (cases_eq number n) [
  | inl is ↦
      let gone : file_in number (without_file n files) ≡ None = subst (λ (k : ℕ). file_in k (without_file n files) ≡ None) (sym is) (file-gone n files) in
      absurd (let w : None ≡ Some f = sym gone ∙ found in cc w)
  | inr apart ↦
      let c = came_without n files number f found in
      let e : b (file.Mail number) ≡ a (file.Mail number) = same (file.Mail number) (λ p. apart (let w : file.Mail number ≡ file.Mail n = p in cc w)) in
      subst (λ (s : FileState). (list_any (λ row. row.file == number) rows ≡ true) ⊎ (MayLeave s None → ⊥)) (sym e)
      (stay number c.was c.found (grew files number f c grows) (subst IsThere e there))
]

running_gone : {D : Type 0} → (n : ℕ) (old new : Option History) (v : StoreValue D) (disk : D) (files : FilesValue) → (s : IsStore old v) → Between (SameOthers n) old new → AreElsewhere n v.map.records → ((number : ℕ) → IsAsKnown files.files number new) → IfTold new (StayThere files.files v.map.records)
    → IsRunning old s.generation v s.entries s.logs → IsRunning new s.generation (record v { disk = disk; files = files }) s.entries s.logs
running_gone n old new v disk files s change elsewhere known stay r =
    let rows : AreElsewhere n (map_meaning v.map.store s.entries).records = subst (λ (m : MapMeaning). AreElsewhere n m.records) s.map_is elsewhere in
    record {
      opens = between-on (SameOthers n) (λ now. Opens (files_of now) v.map.store s.entries s.logs) (λ now. Opens (files_of now) v.map.store s.entries s.logs) old new (λ a b c o. opens_gone n a b v.map.store s.entries s.logs c rows o) change r.opens;
      root = between-on (SameOthers n) (λ now. HasRoot (files_of now) v.map.store s.generation) (λ now. HasRoot (files_of now) v.map.store s.generation) old new (λ a b c h. root_gone n a b v.map.store s.generation c h) change r.root;
      root_entries = r.root_entries;
      root_log_reads = reads_gone n v.root_log r.root_entries old new change (λ e. absurd (let w : file.Root ≡ file.Mail n = sym s.root_name ∙ e in cc w)) r.root_log_reads;
      map_log_reads = reads_gone n v.map_log (map map_text s.entries) old new change (λ e. absurd (let w : file.Map s.generation ≡ file.Mail n = sym s.map_name ∙ e in cc w)) r.map_log_reads;
      box_logs_read = boxes_gone n v.map.store v.map.boxes v.boxes s.logs old new change s.box_logs r.box_logs_read;
      files_known = known;
      files_stay = stay;
    }

pub removed_store : {D : Type 0} → (n : ℕ) (old new : Option History) (v : StoreValue D) (disk : D) (files : FilesValue) → IsStore old v → v.stopped ≡ false → AreElsewhere n v.map.records → files ≡ record v.files { files = without_file n v.files.files }
    → SameButFor (file.Mail n) old new → ((number : ℕ) → IsAsKnown v.files.files number old → IsAsKnown files.files number new) → IsStore new (record v { disk = disk; files = files })
removed_store n old new v disk files s runs elsewhere is same still =
    let later : FilesValue = record v.files { files = without_file n v.files.files } in
    let r = s.running runs in
    let known : (number : ℕ) → IsAsKnown later.files number new = λ number. subst (λ (f : FilesValue). IsAsKnown f.files number new) is (still number (r.files_known number)) in
    let stay : IfTold new (StayThere later.files v.map.records) =
    between-on (SameOthers n) (StayThere v.files.files v.map.records) (StayThere later.files v.map.records) old new (λ a b c k. stay_gone n v.files.files v.map.records a b c k) same r.files_stay in
    subst (λ (f : FilesValue). IsStore new (record v { disk = disk; files = f })) (sym is) (record {
      entries = s.entries;
      logs = s.logs;
      generation = s.generation;
      good = s.good;
      map_is = s.map_is;
      boxes_are = s.boxes_are;
      counts = s.counts;
      drawn = s.drawn;
      files = kept_on v.files later v.drawn v.map (came_without n v.files.files) refl (pins_without n v.files.files v.map.records s.files.pinned) s.files;
      root_name = s.root_name;
      root_head = s.root_head;
      map_name = s.map_name;
      map_head = s.map_head;
      box_logs = s.box_logs;
      some_lanes = s.some_lanes;
      few_lanes = s.few_lanes;
      running = λ _. running_gone n old new v disk later s same elsewhere known stay r;
    })

-- ---- by what the call has at hand

-- the records of a settled disk's map are the store's
settled_rows : {D : Type 0} → (n : ℕ) (old : History) (v : StoreValue D) (lists : Lists) → IsStore (Some old) v → v.stopped ≡ false → AreElsewhere n v.map.records → (s : IsSettled old.now lists) → AreElsewhere n (map_meaning s.store s.entries).records
settled_rows n old v lists st runs elsewhere s =
    let r = st.running runs in
    let one = map_same (files_of old.now) v.map.store s.store st.entries s.entries r.opens.passed.map_log s.safe.stands.map_log in
    subst (λ (m : MapMeaning). AreElsewhere n m.records) (st.map_is ∙ ap (λ (id : List ℕ). map_meaning id st.entries) one.0 ∙ ap (map_meaning s.store) one.1) elsewhere

-- a file of which an end is known is there
pub known_there : (n end : ℕ) (files : List MailFile) (old : Option History) → end_in n files ≡ Some end → IsAsKnown files n old → IfTold old (λ now. IsThere (now (file.Mail n)))
known_there n end files None is known = tt
known_there n end files (Some old) is known = by_reading (reading (old.now (file.Mail n))) refl
  where
    by_reading : (o : Option (List ℕ)) → reading (old.now (file.Mail n)) ≡ o → IsThere (old.now (file.Mail n))
    by_reading None e = absurd (let w : None ≡ Some end = sym (ap (option_map length) e) ∙ known ∙ is in cc w)
    by_reading (Some octets) e = (reads_there (old.now (file.Mail n)) octets e).0

pub removed_leaves : {D : Type 0} → (n : ℕ) (old new : Option History) (v : StoreValue D) → IsStore old v → v.stopped ≡ false → AreElsewhere n v.map.records → IfTold old Own
    → EachImage (λ _ image. IsLeftOrNone (file.Mail n) old image × OthersStay (file.Mail n) old image) old new → (lists : Lists) → IsSettledFor lists old → Leaves lists lists old new
removed_leaves n None new v s runs elsewhere own each lists settled = absurd settled
removed_leaves n (Some old) new v s runs elsewhere own each lists settled =
    each_image-map (λ _ image. IsLeftOrNone (file.Mail n) (Some old) image × OthersStay (file.Mail n) (Some old) image) (λ _ image. Safe image lists ⊎ Safe image lists) (Some old) new
    (λ moment image i. inl (removed_safe old.now lists settled n image own i.1 (settled_rows n old v lists s runs elsewhere settled))) each

pub settled_removed : {D : Type 0} → (n : ℕ) (old new : Option History) (v : StoreValue D) → IsStore old v → v.stopped ≡ false → AreElsewhere n v.map.records → IfTold old Own → SameButFor (file.Mail n) old new
    → (lists : Lists) → IsSettledFor lists old → IsSettledFor lists new
settled_removed n None new v s runs elsewhere own same lists settled = absurd settled
settled_removed n (Some old) None v s runs elsewhere own same lists settled = absurd same
settled_removed n (Some old) (Some new) v s runs elsewhere own same lists settled = settled_gone n old.now new.now lists own same settled (settled_rows n old v lists s runs elsewhere settled)

pub stored_but : (n : ℕ) (old new : Option History) → SameButFor (file.Mail n) old new → KeepsStoredBut n old new
stored_but n old new same = between-map (SameOthers n) (λ a b. (row : MapRecord) (octets : List ℕ) → row.file ≢ n → StoresMessage (files_of a) row octets → StoresMessage (files_of b) row octets) old new
    (λ a b c row octets apart h. stored_gone n a b row octets c apart h) same
