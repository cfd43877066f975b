-- A store with one entry more in the map log.
use Rattle.store_core.proofs.Common.{◌≡◌, ◌≢◌, ◌<◌, ◌≤◌, ◌+◌, ◌-◌, ◌^◌, ◌==◌, ℕ, true, false, List, [], ◌∷◌, ◌++◌, map, length, Option, Some, None, All, refl, sym, ◌∙◌, ap, subst, arith, count_by, sum_by, map-append, All-nil, All-cons, All-weaker, History, IfTold, SameButFor, reading, LogState}
use Rattle.store_core.proofs.Common.{IsSameLog, Reads, BoxEntry, Highest, MapEntry, IsAccounted, HasOneMore, logs_made, stored_row, accounted_counted, map_text, box_text, MapInRange, map_more, BoxMeaning, MapFits, MapRecord, MapBox, MapMeaning, map_meaning, map_applied, record_at, record_made}
use Rattle.store_core.proofs.Common.{IsSoundMap, root_same, AreGoodLogs, Opens, IsCounted, listed_of, LiesInFile, IsThereWhole, files_of, HasRoot, HasBox, number_beside, due_at, listed_at, leak_at, IsAppendable, NamesKnown, NamesFirst, drawn_by, AreBoxLogs, ReadBoxLogs, IsRunning, CoverDues}
use Rattle.store_core.proofs.Common.{IsStore, HasEntryRoom, AreInstancesThere, HasKnownInstances, StoreValue, entry_room, OpenBox, LiesBelowEnd, StayThere, AreInstances, FilesValue, IsAsKnown, if_told-map}
use Rattle.disk_model.specs.declared.name.FileName.TheVariants as file
use Rattle.log_records.proofs.EntrySizeLemmas.{counted_size, deleted_size, lowered_size, purged_size, stored_size}
use Rattle.mdbox_base.specs.declared.entries.MapEntry.TheVariants as entry
use Rattle.model_appends.specs.Amounts.{due_by, leak_by}
use Rattle.model_appends.proofs.AmountLemmas.{accounted_by_map_entry}
use Rattle.model_appends.proofs.AppendMapOpenLemmas.{good_by_map_entry, opens_by_map_entry}
use Rattle.model_meaning.proofs.MapSoundLemmas.{map_sound_more}
use Rattle.store_core.specs.MapAppend.{HasDrawnNumbers, FitsDue, HasRegion, HasOctetIds, dues_with}
use Rattle.store_core.proofs.BoxAppendLemmas.{dues_of, store_sound, disk_more, root_stays}
use Rattle.store_core.proofs.DueLemmas.{OneEach, dues_each, listed_meant, covered_by, store_counts}
use Rattle.store_core.proofs.DueChangeLemmas.{as_many, number_few}
use Rattle.store_core.proofs.MapDueLemmas.{adds, no_box, logs_stay, mailboxes_stay, found_made, map_due_is, map_dues_are, may_change, new_record, beside_none, leak_is, no_leak, leak_none, lost_with, drawn_up_to}
use Rattle.store_core.proofs.InstanceAppendLemmas.{rows_made}
use Rattle.store_core.proofs.InstanceNumberLemmas.{AreNumbersDrawn, numbers_drawn}
use Rattle.store_core.proofs.PickingLemmas.{reads_other}
use Rattle.store_core.proofs.EntryFileLemmas.{LeavesPlaces, kept_applied, stay_applied}
use Rattle.store_core.proofs.MailChangeLemmas.{known_beside, stay_beside}

-- ---- an entry for the map log

pub record Readied {D : Type 0} (h : Option History) (v : StoreValue D) (e : MapEntry) : Type 0 where
  pub store : IsStore h v
  pub running : v.stopped ≡ false
  pub in_range : MapInRange e
  pub kind : IsAppendable e
  pub fits : MapFits v.map e
  pub drawn : HasDrawnNumbers e v.map.store v.drawn
  pub due : FitsDue e (λ uid. due_at uid v) (λ uid. listed_at uid v)
  pub below : All (LiesBelowEnd v.map.store v.files.files) (record_made e)
  pub region : HasRegion e h
  pub known : HasKnownInstances h v
  pub names : NamesKnown e v.instances.known
  pub first : NamesFirst e v.instances.known h
  pub numbers : AreNumbersDrawn e v.map.store v.drawn.instance

-- such an entry leaves each record where it is, seals nothing, and draws no file number
pub leaves_places : (e : MapEntry) → IsAppendable e → LeavesPlaces e
leaves_places (entry.U u) k = tt
leaves_places (entry.D us) k = tt
leaves_places (entry.T cs) k = tt
leaves_places (entry.S o c u f p z g is) k = tt
leaves_places (entry.H h) k = tt
leaves_places (entry.B b g n) k = tt
leaves_places (entry.G b g) k = tt
leaves_places (entry.P f t ms us) k = absurd k
leaves_places (entry.E f) k = absurd k
leaves_places (entry.X b cs) k = tt
leaves_places (entry.V b n) k = tt

same_file_drawn : (e : MapEntry) (drawn : Highest) → (drawn_by e drawn).file ≡ drawn.file
same_file_drawn (entry.U u) drawn = refl
same_file_drawn (entry.D us) drawn = refl
same_file_drawn (entry.T cs) drawn = refl
same_file_drawn (entry.S o c u f p z g is) drawn = refl
same_file_drawn (entry.H h) drawn = refl
same_file_drawn (entry.B b g n) drawn = refl
same_file_drawn (entry.G b g) drawn = refl
same_file_drawn (entry.P f t ms us) drawn = refl
same_file_drawn (entry.E f) drawn = refl
same_file_drawn (entry.X b cs) drawn = refl
same_file_drawn (entry.V b n) drawn = refl

-- a log that has more room is read as before
pub read_roomier : (log : LogState) (room : ℕ) (entries : List (List ℕ)) (h : Option History) → Reads log entries h → Reads (record log { room = room }) entries h
read_roomier log room entries None r = tt
read_roomier log room entries (Some h) r = record { file = r.file; end = r.end; count = r.count; head_fits = r.head_fits; entries_fit = r.entries_fit }

pub roomier : {D : Type 0} → (h : Option History) (v : StoreValue D) (room : ℕ) → IsStore h v → IsStore h (record v { map_log = record v.map_log { room = room } })
roomier h v room s = record {
  entries = s.entries;
  logs = s.logs;
  generation = s.generation;
  good = s.good;
  map_is = s.map_is;
  boxes_are = s.boxes_are;
  counts = s.counts;
  drawn = s.drawn;
  root_name = s.root_name;
  root_head = s.root_head;
  map_name = s.map_name;
  map_head = s.map_head;
  box_logs = s.box_logs;
  some_lanes = s.some_lanes;
  few_lanes = s.few_lanes;
  files = s.files;
  running = λ runs. let r = s.running runs in record {
    opens = r.opens;
    root = r.root;
    root_entries = r.root_entries;
    root_log_reads = r.root_log_reads;
    map_log_reads = read_roomier v.map_log room (map map_text s.entries) h r.map_log_reads;
    box_logs_read = r.box_logs_read;
    files_known = r.files_known;
    files_stay = r.files_stay;
  };
}

-- the store in which memory was made
abbrev pub prepared : {D : Type 0} → StoreValue D → LogState → MapMeaning → List ℕ → StoreValue D
prepared v log m dues = record v { map_log = log; map = m; dues = dues }

prepared_is : {D : Type 0} → (v : StoreValue D) (log : LogState) (m : MapMeaning) (dues : List ℕ) → log ≡ record v.map_log { room = log.room } → m ≡ v.map → dues ≡ v.dues → prepared v log m dues ≡ record v { map_log = record v.map_log { room = log.room } }
prepared_is v log m dues a b c = ap (λ (l : LogState). prepared v l m dues) a ∙ ap (λ (n : MapMeaning). prepared v (record v.map_log { room = log.room }) n dues) b ∙ ap (λ (ns : List ℕ). prepared v (record v.map_log { room = log.room }) v.map ns) c

-- it is as good a store
pub prepared_store : {D : Type 0} → (h : Option History) (v : StoreValue D) (log : LogState) (m : MapMeaning) (dues : List ℕ) → IsStore h v → log ≡ record v.map_log { room = log.room } → m ≡ v.map → dues ≡ v.dues → IsStore h (prepared v log m dues)
prepared_store h v log m dues s a b c = subst (λ (x : StoreValue _). IsStore h x) (sym (prepared_is v log m dues a b c)) (roomier h v log.room s)

-- what a caller sees, with memory
pub seen_prepared : {D : Type 0} → (v now : StoreValue D) (log : LogState) (m : MapMeaning) (dues : List ℕ) → v ≡ now → log ≡ record v.map_log { room = log.room } → m ≡ v.map → dues ≡ v.dues → prepared v log m dues ≡ record now { map_log = record now.map_log { room = log.room } }
seen_prepared v now log m dues is a b c = prepared_is v log m dues a b c ∙ ap (λ (x : StoreValue _). record x { map_log = record x.map_log { room = log.room } }) is

pub readied : {D : Type 0} → (h : Option History) (v now : StoreValue D) (log : LogState) (m : MapMeaning) (dues : List ℕ) (e : MapEntry) → IsStore h v → v ≡ now → log ≡ record v.map_log { room = log.room } → m ≡ v.map → dues ≡ v.dues
    → now.stopped ≡ false → MapInRange e → IsAppendable e → MapFits now.map e → HasDrawnNumbers e now.map.store now.drawn → FitsDue e (λ uid. due_at uid now) (λ uid. listed_at uid now) → All (LiesBelowEnd now.map.store now.files.files) (record_made e) → HasRegion e h
    → HasKnownInstances h v → AreInstances v.instances → NamesKnown e now.instances.known → NamesFirst e now.instances.known h → HasOctetIds e → Readied h (prepared v log m dues) e
readied h v now log m dues e s is a b c running in_range kind fits drawn due below region known are names first ids =
    let k : HasKnownInstances h now = subst (λ (x : StoreValue _). HasKnownInstances h x) is known in
    subst (λ (x : StoreValue _). Readied h x e) (sym (seen_prepared v now log m dues is a b c)) (record {
      store = roomier h now log.room (subst (λ (x : StoreValue _). IsStore h x) is s);
      running = running;
      in_range = in_range;
      kind = kind;
      fits = fits;
      drawn = drawn;
      due = due;
      below = below;
      region = region;
      known = record { kept = k.kept; running = k.running };
      names = names;
      first = first;
      numbers = subst (λ (n : ℕ). AreNumbersDrawn e now.map.store n) k.kept.highest
          (subst (λ (id : List ℕ). AreNumbersDrawn e id now.instances.highest) k.kept.store (numbers_drawn e now.instances (subst (λ (x : StoreValue _). AreInstances x.instances) is are) in_range ids names));
    })

-- its instances are there with their sizes
pub there_made : {D : Type 0} → (h : Option History) (v : StoreValue D) (e : MapEntry) → Readied h v e → IfTold h (λ now. All (λ row. All (IsThereWhole (files_of now)) row.instances) (record_made e))
there_made h v e r =
    if_told-map (AreInstancesThere v.instances.known) (λ now. All (λ row. All (IsThereWhole (files_of now)) row.instances) (record_made e)) h
    (λ now t. rows_made (IsThereWhole (files_of now)) e v.instances.known t.whole r.names) (r.known.running r.running)

-- ---- good logs

pub listed_there : {D : Type 0} → (h : Option History) (v : StoreValue D) → (s : IsStore h v) → (uid : ℕ) → listed_at uid v ≡ listed_of s.logs uid
listed_there h v s uid = ap (λ (ms : List BoxMeaning). sum_by (λ m. count_by (λ row. row.map_uid == uid) m.rows) ms) s.boxes_are ∙ listed_meant uid s.logs

abbrev leaks_of : {D : Type 0} → StoreValue D → ℕ → ℕ
leaks_of v uid = leak_at uid v

pub fits_there : {D : Type 0} → (h : Option History) (v : StoreValue D) (e : MapEntry) → (r : Readied h v e) → MapFits (map_meaning v.map.store r.store.entries) e
fits_there h v e r = subst (λ (m : MapMeaning). MapFits m e) r.store.map_is r.fits

meant : {D : Type 0} → (h : Option History) (v : StoreValue D) (e : MapEntry) → (r : Readied h v e) → map_applied e v.map ≡ map_meaning v.map.store (r.store.entries ++ e ∷ [])
meant h v e r = ap (map_applied e) r.store.map_is ∙ sym (map_more v.map.store r.store.entries e)

each_there : {D : Type 0} → (h : Option History) (v : StoreValue D) → (s : IsStore h v) → OneEach v.map.records v.dues
each_there h v s = dues_each s.logs v.map.records v.dues s.counts

-- counts are made up of what is listed, due and leaks
made_up_there : {D : Type 0} → (h : Option History) (v : StoreValue D) (e : MapEntry) → (r : Readied h v e)
    → All (IsAccounted (due_by e (dues_of v)) (leak_by e (leaks_of v)) (logs_made e r.store.logs)) (map_meaning v.map.store (r.store.entries ++ e ∷ [])).records
made_up_there h v e r =
    let s = r.store in
    let sound : IsSoundMap v.map = store_sound h v s in
    let new : All (λ row. (due_at row.uid v ≡ 0) × (leak_at row.uid v ≡ 0)) (record_made e) =
    All-weaker (λ (row : MapRecord). All (λ o. o.uid < row.uid) v.map.records) (λ (row : MapRecord). (due_at row.uid v ≡ 0) × (leak_at row.uid v ≡ 0)) (λ row before. (
      beside_none row.uid v.map.records v.dues before,
      (let none : number_beside row.uid v.map.records (map (λ (o : MapRecord). o.count) v.map.records) ≡ 0 = beside_none row.uid v.map.records (map (λ (o : MapRecord). o.count) v.map.records) before in omega (arith, none)),
    )) (record_made e) (new_record e r.kind v.map sound r.fits) in
    accounted_by_map_entry v.map.store s.entries e s.logs (dues_of v) (leaks_of v) s.good (adds e r.kind) (fits_there h v e r)
    (may_change e r.kind (dues_of v) (leaks_of v) (λ uid. listed_at uid v) s.logs r.due (listed_there h v s) new)
    (subst (λ (m : MapMeaning). All (IsAccounted (dues_of v) (leaks_of v) s.logs) m.records) s.map_is (store_counts h v s.logs s sound.rising s.boxes_are))

-- the same of the logs, none of which is made
accounted_there : {D : Type 0} → (h : Option History) (v : StoreValue D) (e : MapEntry) → (r : Readied h v e) → All (IsAccounted (due_by e (dues_of v)) (leak_by e (leaks_of v)) r.store.logs) (map_applied e v.map).records
accounted_there h v e r =
    subst (λ (logs : List (List BoxEntry)). All (IsAccounted (due_by e (dues_of v)) (leak_by e (leaks_of v)) logs) (map_applied e v.map).records) (logs_stay e r.kind r.store.logs)
    (subst (λ (m : MapMeaning). All (IsAccounted (due_by e (dues_of v)) (leak_by e (leaks_of v)) (logs_made e r.store.logs)) m.records) (sym (meant h v e r)) (made_up_there h v e r))

pub good_made : {D : Type 0} → (h : Option History) (v : StoreValue D) (e : MapEntry) → (r : Readied h v e) → AreGoodLogs v.map.store (r.store.entries ++ e ∷ []) (logs_made e r.store.logs)
good_made h v e r =
    let s = r.store in
    let later : List MapRecord = (map_meaning v.map.store (s.entries ++ e ∷ [])).records in
    good_by_map_entry v.map.store s.entries s.logs e s.good (adds e r.kind) r.in_range (fits_there h v e r)
    (accounted_counted (due_by e (dues_of v)) (leak_by e (leaks_of v)) (logs_made e s.logs) later (made_up_there h v e r))

good_there : {D : Type 0} → (h : Option History) (v : StoreValue D) (e : MapEntry) → (r : Readied h v e) → AreGoodLogs v.map.store (r.store.entries ++ e ∷ []) r.store.logs
good_there h v e r = subst (λ (logs : List (List BoxEntry)). AreGoodLogs v.map.store (r.store.entries ++ e ∷ []) logs) (logs_stay e r.kind r.store.logs) (good_made h v e r)

sound_there : {D : Type 0} → (h : Option History) (v : StoreValue D) (e : MapEntry) → Readied h v e → IsSoundMap (map_applied e v.map)
sound_there h v e r = map_sound_more v.map e (store_sound h v r.store) r.fits r.in_range

-- ---- what is due, and what leaks

pub due_with : {D : Type 0} → (h : Option History) (v : StoreValue D) (e : MapEntry) (uid : ℕ) → Readied h v e → number_beside uid (map_applied e v.map).records (dues_with e v.map.records v.dues) ≡ due_by e (dues_of v) uid
due_with h v e uid r = map_due_is e r.kind v.map v.dues uid (store_sound h v r.store) r.fits (each_there h v r.store)

pub leak_with : {D : Type 0} → (h : Option History) (v : StoreValue D) (e : MapEntry) (uid : ℕ) → Readied h v e
    → number_beside uid (map_applied e v.map).records (map (λ row. row.count) (map_applied e v.map).records) - (listed_at uid v + number_beside uid (map_applied e v.map).records (dues_with e v.map.records v.dues)) ≡ leak_by e (leaks_of v) uid
leak_with h v e uid r =
    let rows : List MapRecord = (map_applied e v.map).records in
    ap (λ (n : ℕ). number_beside uid rows (map (λ (row : MapRecord). row.count) rows) - (listed_at uid v + n)) (due_with h v e uid r)
    ∙ leak_is (due_by e (dues_of v)) (leak_by e (leaks_of v)) (λ uid. listed_at uid v) r.store.logs rows uid (accounted_there h v e r) (listed_there h v r.store)
    (λ none. leak_none e r.kind (leaks_of v) uid (no_leak uid v.map.records (listed_at uid v + due_at uid v) (lost_with e r.kind v.map uid none)))

covers_there : {D : Type 0} → (h : Option History) (v : StoreValue D) (e : MapEntry) → (r : Readied h v e) → CoverDues r.store.logs (map_applied e v.map).records (dues_with e v.map.records v.dues)
covers_there h v e r =
    let rows : List MapRecord = (map_applied e v.map).records in
    subst (λ (ns : List ℕ). CoverDues r.store.logs rows ns)
    (sym (map_dues_are e r.kind v.map v.dues (store_sound h v r.store) r.fits (sound_there h v e r).rising (each_there h v r.store)))
    (covered_by (due_by e (dues_of v)) (leak_by e (leaks_of v)) r.store.logs rows (accounted_there h v e r))

pub size_with : {D : Type 0} → (h : Option History) (v : StoreValue D) (e : MapEntry) → Readied h v e → length v.dues ≡ length v.map.records
size_with h v e r = as_many v.map.records v.dues (each_there h v r.store)

-- what is due of a record is far below the type's end
pub room_to_rise : {D : Type 0} → (h : Option History) (v : StoreValue D) (e : MapEntry) (uid : ℕ) → Readied h v e → number_beside uid v.map.records v.dues + 1 < 2 ^ 32
room_to_rise h v e uid r =
    let few : number_beside uid v.map.records v.dues ≤ 65535 = number_few r.store.logs v.map.highest.map uid v.map.records v.dues r.store.counts (store_sound h v r.store).records in
    omega (arith, few)

-- ---- what is read

-- the logs of mailboxes are other files
pub boxes_read : (g : ℕ) (store : List ℕ) (mailboxes : List MapBox) (boxes : List OpenBox) (logs : List (List BoxEntry)) (old new : Option History) → AreBoxLogs store mailboxes boxes → SameButFor (file.Map g) old new → ReadBoxLogs old boxes logs → ReadBoxLogs new boxes logs
boxes_read g store [] [] [] old new a same r = tt
boxes_read g store [] [] (l ∷ ls) old new a same r = absurd r
boxes_read g store [] (b ∷ bs) logs old new a same r = absurd a
boxes_read g store (m ∷ ms) [] logs old new a same r = absurd a
boxes_read g store (m ∷ ms) (b ∷ bs) [] old new a same r = absurd r
boxes_read g store (m ∷ ms) (b ∷ bs) (l ∷ ls) old new a same r = (
  reads_other (file.Map g) b.log (map box_text l) old new same (λ p. absurd (let w : file.Box m.number m.generation ≡ file.Map g = sym a.1 ∙ p in cc w)) r.0,
  boxes_read g store ms bs ls old new a.3 same r.1,
)

pub lies_there : (e : MapEntry) → IsAppendable e → (h : History) → HasRegion e (Some h) → All (LiesInFile (files_of h.now)) (record_made e)
lies_there (entry.U u) k h region = All-nil (LiesInFile (files_of h.now))
lies_there (entry.D us) k h region = All-nil (LiesInFile (files_of h.now))
lies_there (entry.T cs) k h region = All-nil (LiesInFile (files_of h.now))
lies_there (entry.S o c u f p z g is) k h region = All-cons (LiesInFile (files_of h.now)) (stored_row o c u f p z g is) [] region (All-nil (LiesInFile (files_of h.now)))
lies_there (entry.H x) k h region = absurd k
lies_there (entry.B b g n) k h region = absurd k
lies_there (entry.G b g) k h region = absurd k
lies_there (entry.P f t ms us) k h region = absurd k
lies_there (entry.E f) k h region = absurd k
lies_there (entry.X b cs) k h region = absurd k
lies_there (entry.V b n) k h region = absurd k

opens_with : (old new : Option History) (id : List ℕ) (entries : List MapEntry) (logs : List (List BoxEntry)) (generation : ℕ) (a b : LogState) (e : MapEntry) → IfTold old (λ now. Opens (files_of now) id entries logs)
    → IfTold old (λ now. HasRoot (files_of now) id generation) → IsAppendable e → MapInRange e → MapFits (map_meaning id entries) e → HasRegion e old
    → IfTold old (λ now. All (λ row. All (IsThereWhole (files_of now)) row.instances) (record_made e)) → All (IsCounted (logs_made e logs)) (map_meaning id (entries ++ e ∷ [])).records → a.name ≡ file.Map generation → IsSameLog a b → SameButFor a.name old new
    → Reads a (map map_text entries) old → Reads b (map map_text entries ++ map_text e ∷ []) new → IfTold new (λ now. Opens (files_of now) id (entries ++ e ∷ []) logs)
opens_with None new id entries logs generation a b e o root kind in_range fits region there counts name log same r q =
    subst (λ (h : Option History). IfTold h (λ now. Opens (files_of now) id (entries ++ e ∷ []) logs)) (sym same) tt
opens_with (Some old) None id entries logs generation a b e o root kind in_range fits region there counts name log same r q = absurd same
opens_with (Some old) (Some new) id entries logs generation a b e o root kind in_range fits region there counts name log same r q =
    let at : a.name ≡ file.Map o.passed.map_log.generation = name ∙ ap (λ (n : ℕ). file.Map n) (root_same (files_of old.now) id id generation o.passed.map_log.generation root o.passed.map_log.root).1 in
    subst (λ (ls : List (List BoxEntry)). Opens (files_of new.now) id (entries ++ e ∷ []) ls) (logs_stay e kind logs)
    (opens_by_map_entry (files_of old.now) (files_of new.now) id entries logs e o (adds e kind) in_range fits (lies_there e kind old region) there
    (subst (λ (boxes : List MapBox). All (λ box. HasBox (files_of old.now) id box []) boxes) (sym (no_box e kind)) (All-nil (λ (box : MapBox). HasBox (files_of old.now) id box []))) counts
    (λ other apart. ap reading (same other (λ p. apart (p ∙ at))))
    (subst (λ (n : _). HasOneMore (map_text e) (reading (old.now n)) (reading (new.now n))) at (disk_more a b (map map_text entries) (map_text e) old.now new.now log.name log.head r q)))

-- ---- the store

runs_with : {D : Type 0} → (old new : Option History) (v : StoreValue D) (w : StoreValue D) (e : MapEntry) → (r : Readied old v e) → w.map ≡ map_applied e v.map → w.files ≡ v.files → w.map.store ≡ v.map.store → w.root_log ≡ v.root_log → w.boxes ≡ v.boxes → IsSameLog v.map_log w.map_log → SameButFor v.map_log.name old new
    → ((texts : List (List ℕ)) → Reads v.map_log texts old → Reads w.map_log (texts ++ map_text e ∷ []) new) → IsRunning new r.store.generation w (r.store.entries ++ e ∷ []) r.store.logs
runs_with old new v w e r applied files store root_log boxes log others added =
    let s = r.store in
    let runs = s.running r.running in
    let same : SameButFor (file.Map s.generation) old new = subst (λ (n : _). SameButFor n old new) s.map_name others in
    let no_mail : (mail : ℕ) → file.Mail mail ≢ v.map_log.name = λ mail q. absurd (let p : file.Mail mail ≡ file.Map s.generation = q ∙ s.map_name in cc p) in
    record {
      files_known = subst (λ (fs : FilesValue). (number : ℕ) → IsAsKnown fs.files number new) (sym files) (known_beside v.map_log.name v.files.files old new no_mail others runs.files_known);
      files_stay = subst (λ (m : MapMeaning). IfTold new (StayThere w.files.files m.records)) (sym applied)
          (subst (λ (fs : FilesValue). IfTold new (StayThere fs.files (map_applied e v.map).records)) (sym files)
          (if_told-map _ _ new (λ disk stay. stay_applied v.files.files v.map e disk (leaves_places e r.kind) stay) (stay_beside v.map_log.name v.files.files v.map.records old new no_mail others runs.files_stay)));
      opens = subst (λ (id : List ℕ). IfTold new (λ now. Opens (files_of now) id (s.entries ++ e ∷ []) s.logs)) (sym store)
          (opens_with old new v.map.store s.entries s.logs s.generation v.map_log w.map_log e runs.opens runs.root r.kind r.in_range (fits_there old v e r) r.region (there_made old v e r) (good_made old v e r).counts s.map_name log others runs.map_log_reads
          (added (map map_text s.entries) runs.map_log_reads));
      root = subst (λ (id : List ℕ). IfTold new (λ now. HasRoot (files_of now) id s.generation)) (sym store)
          (root_stays v.map_log.name v.map.store s.generation old new others (λ q. absurd (let p : file.Root ≡ file.Map s.generation = q ∙ s.map_name in cc p)) runs.root);
      root_entries = runs.root_entries;
      root_log_reads = subst (λ (l : LogState). Reads l runs.root_entries new) (sym root_log)
          (reads_other v.map_log.name v.root_log runs.root_entries old new others (λ q. absurd (let p : file.Root ≡ file.Map s.generation = sym s.root_name ∙ q ∙ s.map_name in cc p)) runs.root_log_reads);
      map_log_reads = subst (λ (texts : List (List ℕ)). Reads w.map_log texts new) (sym (map-append map_text s.entries (e ∷ []))) (added (map map_text s.entries) runs.map_log_reads);
      box_logs_read = subst (λ (bs : List OpenBox). ReadBoxLogs new bs s.logs) (sym boxes) (boxes_read s.generation v.map.store v.map.boxes v.boxes s.logs old new s.box_logs same runs.box_logs_read);
    }

-- the store with the entry
abbrev pub with_entry : {D : Type 0} → StoreValue D → D → LogState → MapEntry → StoreValue D
with_entry v disk log e = record v { disk = disk; map_log = log; map = map_applied e v.map; drawn = drawn_by e v.drawn; dues = dues_with e v.map.records v.dues }

store_with : {D : Type 0} → (old new : Option History) (v : StoreValue D) (disk : D) (log : LogState) (e : MapEntry) → Readied old v e → IsSameLog v.map_log log → SameButFor v.map_log.name old new
    → ((texts : List (List ℕ)) → Reads v.map_log texts old → Reads log (texts ++ map_text e ∷ []) new) → IsStore new (with_entry v disk log e)
store_with old new v disk log e r same others added =
    let s = r.store in
    record {
      entries = s.entries ++ e ∷ [];
      logs = s.logs;
      generation = s.generation;
      good = good_there old v e r;
      map_is = meant old v e r;
      boxes_are = s.boxes_are;
      counts = covers_there old v e r;
      drawn = drawn_up_to e r.kind v.map v.drawn (store_sound old v s) r.fits r.drawn r.numbers s.drawn;
      root_name = s.root_name;
      root_head = s.root_head;
      map_name = same.name ∙ s.map_name;
      map_head = same.head ∙ s.map_head;
      box_logs = subst (λ (bs : List MapBox). AreBoxLogs v.map.store bs v.boxes) (sym (mailboxes_stay e r.kind v.map)) s.box_logs;
      some_lanes = s.some_lanes;
      few_lanes = s.few_lanes;
      files = kept_applied v.files v.drawn (drawn_by e v.drawn) v.map e (leaves_places e r.kind) (same_file_drawn e v.drawn) r.below s.files;
      running = λ runs. runs_with old new v (with_entry v disk log e) e r refl refl refl refl refl same others added;
    }

-- where the append failed, it is a store that is stopped
pub store_stopped : {D : Type 0} → (old new : Option History) (v : StoreValue D) (disk : D) (log : LogState) → IsStore old v → IsSameLog v.map_log log → IsStore new (record v { disk = disk; map_log = log; stopped = true })
store_stopped old new v disk log s same = record {
  entries = s.entries;
  logs = s.logs;
  generation = s.generation;
  good = s.good;
  map_is = s.map_is;
  boxes_are = s.boxes_are;
  counts = s.counts;
  drawn = s.drawn;
  root_name = s.root_name;
  root_head = s.root_head;
  map_name = same.name ∙ s.map_name;
  map_head = same.head ∙ s.map_head;
  box_logs = s.box_logs;
  some_lanes = s.some_lanes;
  few_lanes = s.few_lanes;
  files = s.files;
  running = λ runs. absurd (cc runs);
}

-- by what the code has at hand
store_as : {D : Type 0} → (h : Option History) (v : StoreValue D) (disk : D) (log : LogState) (e : MapEntry) (m : MapMeaning) (drawn : Highest) (dues : List ℕ) → m ≡ map_applied e v.map → drawn ≡ drawn_by e v.drawn → dues ≡ dues_with e v.map.records v.dues
    → IsStore h (with_entry v disk log e) → IsStore h (record v { disk = disk; map_log = log; map = m; drawn = drawn; dues = dues })
store_as h v disk log e m drawn dues a b c s =
    subst (λ (x : MapMeaning). IsStore h (record v { disk = disk; map_log = log; map = x; drawn = drawn; dues = dues })) (sym a)
    (subst (λ (x : Highest). IsStore h (record v { disk = disk; map_log = log; map = map_applied e v.map; drawn = x; dues = dues })) (sym b)
    (subst (λ (x : List ℕ). IsStore h (record v { disk = disk; map_log = log; map = map_applied e v.map; drawn = drawn_by e v.drawn; dues = x })) (sym c) s))

pub store_after : {D : Type 0} → (old new : Option History) (v : StoreValue D) (disk : D) (log : LogState) (e : MapEntry) (m : MapMeaning) (drawn : Highest) (dues : List ℕ) → Readied old v e → IsSameLog v.map_log log → SameButFor v.map_log.name old new
    → ((texts : List (List ℕ)) → Reads v.map_log texts old → Reads log (texts ++ map_text e ∷ []) new) → m ≡ map_applied e v.map → drawn ≡ drawn_by e v.drawn → dues ≡ dues_with e v.map.records v.dues
    → IsStore new (record v { disk = disk; map_log = log; map = m; drawn = drawn; dues = dues })
store_after old new v disk log e m drawn dues r same others added a b c = store_as new v disk log e m drawn dues a b c (store_with old new v disk log e r same others added)

pub room_after : {D : Type 0} → (v w : StoreValue D) (log : LogState) → HasEntryRoom v → v.map_log.room ≤ log.room → w.map_log.room ≡ log.room → w.boxes ≡ v.boxes → HasEntryRoom w
room_after v w log room more same boxes = record {
  map_log = let a : entry_room ≤ v.map_log.room = room.map_log in omega (arith, a, more, same);
  box_logs = subst (λ (bs : List OpenBox). All (λ (o : OpenBox). entry_room ≤ o.log.room) bs) (sym boxes) room.box_logs;
}

pub unchanged : {D : Type 0} → (v : StoreValue D) (log : LogState) (m : MapMeaning) (dues : List ℕ) → log ≡ v.map_log → m ≡ v.map → dues ≡ v.dues → prepared v log m dues ≡ v
unchanged v log m dues a b c = ap (λ (l : LogState). prepared v l m dues) a ∙ ap (λ (n : MapMeaning). prepared v v.map_log n dues) b ∙ ap (λ (ns : List ℕ). prepared v v.map_log v.map ns) c

pub due_seen : {D : Type 0} → (h : Option History) (w now : StoreValue D) (log : LogState) (e : MapEntry) (m : MapMeaning) (dues : List ℕ) (uid : ℕ) → Readied h w e → w ≡ record now { map_log = log } → m ≡ map_applied e w.map → dues ≡ dues_with e w.map.records w.dues
    → number_beside uid m.records dues ≡ due_by e (λ other. due_at other now) uid
due_seen h w now log e m dues uid r is a b =
    ap (λ (x : MapMeaning). number_beside uid x.records dues) a ∙ ap (number_beside uid (map_applied e w.map).records) b ∙ due_with h w e uid r ∙ ap (λ (x : StoreValue _). due_by e (λ other. due_at other x) uid) is

pub leak_seen : {D : Type 0} → (h : Option History) (w now : StoreValue D) (log : LogState) (e : MapEntry) (m : MapMeaning) (dues : List ℕ) (uid : ℕ) → Readied h w e → w ≡ record now { map_log = log } → m ≡ map_applied e w.map → dues ≡ dues_with e w.map.records w.dues
    → number_beside uid m.records (map (λ row. row.count) m.records) - (listed_at uid w + number_beside uid m.records dues) ≡ leak_by e (λ other. leak_at other now) uid
leak_seen h w now log e m dues uid r is a b =
    ap (λ (x : MapMeaning). number_beside uid x.records (map (λ (row : MapRecord). row.count) x.records) - (listed_at uid w + number_beside uid x.records dues)) a
    ∙ ap (λ (ns : List ℕ). number_beside uid (map_applied e w.map).records (map (λ (row : MapRecord). row.count) (map_applied e w.map).records) - (listed_at uid w + number_beside uid (map_applied e w.map).records ns)) b
    ∙ leak_with h w e uid r ∙ ap (λ (x : StoreValue _). leak_by e (λ other. leak_at other x) uid) is

pub made_with : {D : Type 0} → (h : Option History) (w : StoreValue D) (e : MapEntry) (m : MapMeaning) → Readied h w e → m ≡ map_applied e w.map → All (λ row. record_at m row.uid ≡ Some row) (record_made e)
made_with h w e m r is = subst (λ (x : MapMeaning). All (λ row. record_at x row.uid ≡ Some row) (record_made e)) (sym is) (found_made e r.kind w.map (store_sound h w r.store) r.fits)

-- ---- the map's log

pub read_with : {D : Type 0} → (h : Option History) (v : StoreValue D) (e : MapEntry) → Readied h v e → (texts : List (List ℕ)) × Reads v.map_log texts h
read_with h v e r = (map map_text r.store.entries, (r.store.running r.running).map_log_reads)

-- the text of an entry is some octets, and far fewer than a number counts
pub some_octets : (e : MapEntry) → 1 ≤ length (map_text e)
some_octets (entry.U u) = omega arith
some_octets (entry.D us) = omega arith
some_octets (entry.T cs) = omega arith
some_octets (entry.S o c u f p z g is) = omega arith
some_octets (entry.H h) = omega arith
some_octets (entry.B b g n) = omega arith
some_octets (entry.G b g) = omega arith
some_octets (entry.P f t ms us) = omega arith
some_octets (entry.E f) = omega arith
some_octets (entry.X b cs) = omega arith
some_octets (entry.V b n) = omega arith

pub few_octets : (e : MapEntry) → MapInRange e → length (map_text e) ≤ 2 ^ 40
few_octets (entry.U u) r = omega arith
few_octets (entry.D us) r = let size = lowered_size (entry.D us) us refl r in let few = r.0 in omega (arith, size, few)
few_octets (entry.T cs) r = let size = counted_size (entry.T cs) cs refl r in let few = r.0 in omega (arith, size, few)
few_octets (entry.S o c u f p z g is) r = let size = stored_size (entry.S o c u f p z g is) o c u f p z g is refl r in let few = r.7 in omega (arith, size, few)
few_octets (entry.H h) r = omega arith
few_octets (entry.B b g n) r = let short = r.2.short in omega (arith, short)
few_octets (entry.G b g) r = omega arith
few_octets (entry.P f t ms us) r = let size = purged_size (entry.P f t ms us) f t ms us refl r in let few = r.2 in let less = r.3 in omega (arith, size, few, less)
few_octets (entry.E f) r = omega arith
few_octets (entry.X b cs) r = let size = deleted_size (entry.X b cs) b cs refl r in let few = r.1 in omega (arith, size, few)
few_octets (entry.V b n) r = let short = r.1.short in omega (arith, short)
