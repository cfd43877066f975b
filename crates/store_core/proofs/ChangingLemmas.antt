-- A store with one entry more in the map log, by which a mailbox leaves or gets another name.
use Rattle.store_core.proofs.Common.{◌≡◌, ◌≢◌, ◌≤◌, ℕ, false, List, [], ◌∷◌, ◌++◌, map, Option, Some, None, All, refl, sym, ◌∙◌, ap, subst, map-append, All-nil, Files, DiskState, History, IfTold, SameButFor, reading, FileName, if_told-map}
use Rattle.store_core.proofs.Common.{LogState, IsSameLog, Reads, Holds, BoxEntry, MapEntry, HasOneMore, Lists, map_text, MapInRange, map_more, box_meaning, MapFits, MapRecord, MapMeaning, map_meaning, map_applied, record_made, map_same, root_same, AreGoodLogs, Opens, IsCounted, SafeBy, files_of}
use Rattle.store_core.proofs.Common.{IsSettled, IsSettledFor, Leaves, AddsText, LiesBelowEnd, AreBoxLogs, ReadBoxLogs, IsRunning, CoverDues, IsUpTo, IsStore, StoreValue, indexes_of, OpenBox}
use Rattle.disk_model.specs.declared.name.FileName.TheVariants as file
use Rattle.model_appends.specs.MapAppending.{ChangesMailbox, IsMapAppend, LeavesAlike, beside_changed, lists_changed}
use Rattle.model_appends.proofs.ChangedLogsLemmas.{counts_by_change, good_by_change, opens_by_change}
use Rattle.model_lists.specs.Lists.{refs_of}
use Rattle.model_meaning.specs.MapMeaning.{count_of}
use Rattle.store_core.proofs.BoxAppendLemmas.{disk_more, root_stays}
use Rattle.store_core.proofs.BoxCrashLemmas.{ReadsImage}
use Rattle.store_core.proofs.EntryFileLemmas.{LeavesPlaces, kept_applied, stay_applied}
use Rattle.store_core.proofs.MailChangeLemmas.{known_beside, stay_beside}
use Rattle.store_core.proofs.MapAppendLemmas.{boxes_read}
use Rattle.store_core.proofs.MapCrashLemmas.{held_map}
use Rattle.store_core.proofs.NamingLemmas.{Appends, leaves_by, settled_by}
use Rattle.store_core.proofs.PickingLemmas.{reads_other}
use Rattle.store_core.proofs.UnneededLogLemmas.{map_known}

-- Such an entry can be appended. These are the open logs then, and the entries of the mailboxes' logs.
pub record Changing {D : Type 0} (h : Option History) (v : StoreValue D) (e : MapEntry) (boxes : List OpenBox) : Type 0 where
  pub store : IsStore h v
  pub running : v.stopped ≡ false
  pub kind : ChangesMailbox e
  pub in_range : MapInRange e
  pub fits : MapFits v.map e
  pub counted : All (IsCounted (beside_changed e v.map.boxes store.logs)) (map_applied e v.map).records
  pub covered : CoverDues (beside_changed e v.map.boxes store.logs) (map_applied e v.map).records v.dues
  pub boxes_are : indexes_of boxes ≡ map box_meaning (beside_changed e v.map.boxes store.logs)
  pub box_logs : AreBoxLogs v.map.store (map_applied e v.map).boxes boxes
  pub read : (now : Option History) → ReadBoxLogs now v.boxes store.logs → ReadBoxLogs now boxes (beside_changed e v.map.boxes store.logs)
  pub drawn : IsUpTo v.drawn (map_applied e v.map).highest
  pub places : LeavesPlaces e
  pub none : record_made e ≡ []
  pub append : (files : Files) (id : List ℕ) (entries : List MapEntry) (lists : Lists) → SafeBy files id entries lists → MapFits (map_meaning id entries) e
      → ((guid : List ℕ) → refs_of (lists_changed e lists) guid ≤ count_of (map_meaning id (entries ++ e ∷ [])) guid) → IsMapAppend files id entries lists (lists_changed e lists) e
  pub alike : (disk : DiskState) (lists : Lists) (s : IsSettled disk lists) → LeavesAlike s.safe.stands.map_log.generation (map_meaning s.store (s.entries ++ e ∷ [])) disk

-- ---- good logs

abbrev later : {D : Type 0} → (h : Option History) (v : StoreValue D) (e : MapEntry) → IsStore h v → List (List BoxEntry)
later h v e s = beside_changed e v.map.boxes s.logs

fits_there : {D : Type 0} → (h : Option History) (v : StoreValue D) (e : MapEntry) (boxes : List OpenBox) → (c : Changing h v e boxes) → MapFits (map_meaning v.map.store c.store.entries) e
fits_there h v e boxes c = subst (λ (m : MapMeaning). MapFits m e) c.store.map_is c.fits

meant : {D : Type 0} → (h : Option History) (v : StoreValue D) (e : MapEntry) (boxes : List OpenBox) → (c : Changing h v e boxes) → map_applied e v.map ≡ map_meaning v.map.store (c.store.entries ++ e ∷ [])
meant h v e boxes c = ap (map_applied e) c.store.map_is ∙ sym (map_more v.map.store c.store.entries e)

counted_there : {D : Type 0} → (h : Option History) (v : StoreValue D) (e : MapEntry) (boxes : List OpenBox) → (c : Changing h v e boxes)
    → All (IsCounted (beside_changed e (map_meaning v.map.store c.store.entries).boxes c.store.logs)) (map_meaning v.map.store (c.store.entries ++ e ∷ [])).records
counted_there h v e boxes c =
    subst (λ (m : MapMeaning). All (IsCounted (beside_changed e m.boxes c.store.logs)) (map_meaning v.map.store (c.store.entries ++ e ∷ [])).records) c.store.map_is
    (subst (λ (n : MapMeaning). All (IsCounted (later h v e c.store)) n.records) (meant h v e boxes c) c.counted)

good_there : {D : Type 0} → (h : Option History) (v : StoreValue D) (e : MapEntry) (boxes : List OpenBox) → (c : Changing h v e boxes) → AreGoodLogs v.map.store (c.store.entries ++ e ∷ []) (later h v e c.store)
good_there h v e boxes c =
    subst (λ (m : MapMeaning). AreGoodLogs v.map.store (c.store.entries ++ e ∷ []) (beside_changed e m.boxes c.store.logs)) (sym c.store.map_is)
    (good_by_change v.map.store c.store.entries c.store.logs e c.store.good c.kind c.in_range (fits_there h v e boxes c) (counted_there h v e boxes c))

-- ---- the store

opens_changed : {D : Type 0} → (old new : Option History) (v : StoreValue D) (e : MapEntry) (boxes : List OpenBox) (log : LogState) → (c : Changing old v e boxes) → IsSameLog v.map_log log → SameButFor v.map_log.name old new
    → ((texts : List (List ℕ)) → Reads v.map_log texts old → Reads log (texts ++ map_text e ∷ []) new) → IfTold new (λ now. Opens (files_of now) v.map.store (c.store.entries ++ e ∷ []) (later old v e c.store))
opens_changed None new v e boxes log c same others added = subst (λ (h : Option History). IfTold h (λ now. Opens (files_of now) v.map.store (c.store.entries ++ e ∷ []) (later None v e c.store))) (sym others) tt
opens_changed (Some old) None v e boxes log c same others added = absurd others
opens_changed (Some old) (Some new) v e boxes log c same others added =
    let s = c.store in
    let runs = s.running c.running in
    let o : Opens (files_of old.now) v.map.store s.entries s.logs = runs.opens in
    let at : v.map_log.name ≡ file.Map o.passed.map_log.generation = s.map_name ∙ ap (λ (n : ℕ). file.Map n) (root_same (files_of old.now) v.map.store v.map.store s.generation o.passed.map_log.generation runs.root o.passed.map_log.root).1 in
    subst (λ (m : MapMeaning). Opens (files_of new.now) v.map.store (s.entries ++ e ∷ []) (beside_changed e m.boxes s.logs)) (sym s.map_is)
    (opens_by_change (files_of old.now) (files_of new.now) v.map.store s.entries s.logs e o c.kind c.in_range (fits_there (Some old) v e boxes c) (counted_there (Some old) v e boxes c)
    (λ other apart. ap reading (others other (λ p. apart (p ∙ at))))
    (subst (λ (n : FileName). HasOneMore (map_text e) (reading (old.now n)) (reading (new.now n))) at
    (disk_more v.map_log log (map map_text s.entries) (map_text e) old.now new.now same.name same.head runs.map_log_reads (added (map map_text s.entries) runs.map_log_reads))))

-- the store with the entry
abbrev pub with_change : {D : Type 0} → StoreValue D → D → LogState → MapEntry → List OpenBox → StoreValue D
with_change v disk log e boxes = record v { disk = disk; map_log = log; map = map_applied e v.map; boxes = boxes }

runs_changed : {D : Type 0} → (old new : Option History) (v : StoreValue D) (disk : D) (e : MapEntry) (boxes : List OpenBox) (log : LogState) → (c : Changing old v e boxes) → IsSameLog v.map_log log → SameButFor v.map_log.name old new
    → ((texts : List (List ℕ)) → Reads v.map_log texts old → Reads log (texts ++ map_text e ∷ []) new) → IsRunning new c.store.generation (with_change v disk log e boxes) (c.store.entries ++ e ∷ []) (later old v e c.store)
runs_changed old new v disk e boxes log c same others added =
    let s = c.store in
    let runs = s.running c.running in
    let others_map : SameButFor (file.Map s.generation) old new = subst (λ (n : FileName). SameButFor n old new) s.map_name others in
    let no_mail : (mail : ℕ) → file.Mail mail ≢ v.map_log.name = λ mail q. absurd (let p : file.Mail mail ≡ file.Map s.generation = q ∙ s.map_name in cc p) in
    record {
      opens = opens_changed old new v e boxes log c same others added;
      root = root_stays v.map_log.name v.map.store s.generation old new others (λ q. absurd (let p : file.Root ≡ file.Map s.generation = q ∙ s.map_name in cc p)) runs.root;
      root_entries = runs.root_entries;
      root_log_reads = reads_other v.map_log.name v.root_log runs.root_entries old new others (λ q. absurd (let p : file.Root ≡ file.Map s.generation = sym s.root_name ∙ q ∙ s.map_name in cc p)) runs.root_log_reads;
      map_log_reads = subst (λ (texts : List (List ℕ)). Reads log texts new) (sym (map-append map_text s.entries (e ∷ []))) (added (map map_text s.entries) runs.map_log_reads);
      box_logs_read = c.read new (boxes_read s.generation v.map.store v.map.boxes v.boxes s.logs old new s.box_logs others_map runs.box_logs_read);
      files_known = known_beside v.map_log.name v.files.files old new no_mail others runs.files_known;
      files_stay = if_told-map _ _ new (λ disk stay. stay_applied v.files.files v.map e disk c.places stay) (stay_beside v.map_log.name v.files.files v.map.records old new no_mail others runs.files_stay);
    }

pub store_changed : {D : Type 0} → (old new : Option History) (v : StoreValue D) (disk : D) (e : MapEntry) (boxes : List OpenBox) (log : LogState) → Changing old v e boxes → IsSameLog v.map_log log → SameButFor v.map_log.name old new
    → ((texts : List (List ℕ)) → Reads v.map_log texts old → Reads log (texts ++ map_text e ∷ []) new) → IsStore new (with_change v disk log e boxes)
store_changed old new v disk e boxes log c same others added =
    let s = c.store in
    record {
      entries = s.entries ++ e ∷ [];
      logs = later old v e s;
      generation = s.generation;
      good = good_there old v e boxes c;
      map_is = meant old v e boxes c;
      boxes_are = c.boxes_are;
      counts = c.covered;
      drawn = c.drawn;
      files = kept_applied v.files v.drawn v.drawn v.map e c.places refl (subst (λ (rows : List MapRecord). All (LiesBelowEnd v.map.store v.files.files) rows) (sym c.none) (All-nil (LiesBelowEnd v.map.store v.files.files))) s.files;
      root_name = s.root_name;
      root_head = s.root_head;
      map_name = same.name ∙ s.map_name;
      map_head = same.head ∙ s.map_head;
      box_logs = c.box_logs;
      some_lanes = s.some_lanes;
      few_lanes = s.few_lanes;
      running = λ runs. runs_changed old new v disk e boxes log c same others added;
    }

-- ---- what a crash leaves

changes : {D : Type 0} → (old : History) (v : StoreValue D) (e : MapEntry) (boxes : List OpenBox) (lists : Lists) (s : IsSettled old.now lists) → Changing (Some old) v e boxes → ReadsImage old.now → Appends old lists (lists_changed e lists) s v.map_log e
changes old v e boxes lists s c own =
    let runs = c.store.running c.running in
    let g : ℕ = s.safe.stands.map_log.generation in
    let one = map_same (files_of old.now) v.map.store s.store c.store.entries s.entries runs.opens.passed.map_log s.safe.stands.map_log in
    let is : v.map_log.name ≡ file.Map g = c.store.map_name ∙ ap (λ (n : ℕ). file.Map n) (root_same (files_of old.now) v.map.store s.store c.store.generation g runs.root s.safe.stands.map_log.root).1 in
    let known : v.map ≡ map_meaning s.store s.entries = map_known old v lists s c.store c.running in
    let good : AreGoodLogs v.map.store (c.store.entries ++ e ∷ []) (beside_changed e (map_meaning s.store s.entries).boxes c.store.logs) =
    subst (λ (m : MapMeaning). AreGoodLogs v.map.store (c.store.entries ++ e ∷ []) (beside_changed e m.boxes c.store.logs)) known (good_there (Some old) v e boxes c) in
    let counts : (guid : List ℕ) → refs_of (lists_changed e lists) guid ≤ count_of (map_meaning s.store (s.entries ++ e ∷ [])) guid =
    counts_by_change (files_of old.now) s.store s.entries c.store.logs lists e
    (subst (λ (es : List MapEntry). Opens (files_of old.now) s.store es c.store.logs) one.1 (subst (λ (id : List ℕ). Opens (files_of old.now) id c.store.entries c.store.logs) one.0 runs.opens)) s.safe.stands c.kind
    (subst (λ (es : List MapEntry). AreGoodLogs s.store (es ++ e ∷ []) (beside_changed e (map_meaning s.store s.entries).boxes c.store.logs)) one.1
    (subst (λ (id : List ℕ). AreGoodLogs id (c.store.entries ++ e ∷ []) (beside_changed e (map_meaning s.store s.entries).boxes c.store.logs)) one.0 good)) in
    record {
      texts = map map_text c.store.entries;
      append = c.append (files_of old.now) s.store s.entries lists s.safe (subst (λ (m : MapMeaning). MapFits m e) known c.fits) counts;
      alike = c.alike old.now lists s;
      log_name = is;
      held = held_map old.now lists s v.map_log (map map_text c.store.entries) own is runs.map_log_reads;
    }

pub leaves_changed : {D : Type 0} → (old new : Option History) (v : StoreValue D) (e : MapEntry) (boxes : List OpenBox) → Changing old v e boxes → IfTold old ReadsImage → AddsText v.map_log (map_text e) old new → (lists : Lists) → IsSettledFor lists old → Leaves lists (lists_changed e lists) old new
leaves_changed None new v e boxes c own adds lists settled = absurd settled
leaves_changed (Some old) new v e boxes c own adds lists s = leaves_by old new lists (lists_changed e lists) s v.map_log e own (changes old v e boxes lists s c own) adds

pub settled_changed : {D : Type 0} → (old new : Option History) (v : StoreValue D) (e : MapEntry) (boxes : List OpenBox) (log : LogState) → Changing old v e boxes → IfTold old ReadsImage → IsSameLog v.map_log log → SameButFor v.map_log.name old new
    → ((texts : List (List ℕ)) → Holds v.map_log texts old → Holds log (texts ++ map_text e ∷ []) new) → (lists : Lists) → IsSettledFor lists old → IsSettledFor (lists_changed e lists) new
settled_changed None new v e boxes log c own same others hold lists settled = absurd settled
settled_changed (Some old) None v e boxes log c own same others hold lists settled = absurd others
settled_changed (Some old) (Some new) v e boxes log c own same others hold lists s = settled_by old new lists (lists_changed e lists) s v.map_log log e own (changes old v e boxes lists s c own) same others hold

pub read_changed : {D : Type 0} → (h : Option History) (v : StoreValue D) (e : MapEntry) (boxes : List OpenBox) → Changing h v e boxes → (texts : List (List ℕ)) × Reads v.map_log texts h
read_changed h v e boxes c = (map map_text c.store.entries, (c.store.running c.running).map_log_reads)
