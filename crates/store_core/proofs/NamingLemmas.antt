-- A store with one entry more in the map log, which names a mailbox whose log was made.
use Rattle.store_core.proofs.Common.{◌⊎◌, inl, inr, ◌≡◌, ◌≢◌, ◌≤◌, ℕ, false, List, [], ◌∷◌, ◌++◌, map, length, Option, Some, None, All, refl, sym, ◌∙◌, ap, subst, arith, map-append, All-nil, All-cons, Files, DiskState, History, MayLeave, IfTold, OthersStay, SameButFor, reading, FileName}
use Rattle.store_core.proofs.Common.{each_image-map, if_told-map, LogState, IsSameLog, IsLogRead, IsLogHeld, Reads, Holds, IsLogWithOrWithout, BoxEntry, Highest, MapEntry, BoxNo, IsAccounted, HasOneMore, LeftBut, logs_made, accounted_counted, kept_as, map_stored, count_itself, same_log, more_log}
use Rattle.store_core.proofs.Common.{safe_without, settled_by_map_append, Lists, empty_mailbox, map_text, MapInRange, IsLogFile, LogHead, map_more, BoxMeaning, box_meaning, MapFits, MapRecord, MapBox, MapMeaning, map_meaning, map_applied, map_same, root_same, AreGoodLogs, Opens, IsCounted}
use Rattle.store_core.proofs.Common.{listed_of, LiesInFile, IsThereWhole, Safe, files_of, IsSettled, IsSettledFor, Leaves, HasSameRegion, HasSameInstance, head_of, HasBox, AddsText, KeepsStored, leak_at, LiesBelowEnd, IsMadeLog, AreBoxLogs, ReadBoxLogs, IsRunning, CoverDues, IsUpTo, IsStore}
use Rattle.store_core.proofs.Common.{StoreValue, OpenBox}
use Rattle.disk_model.specs.declared.name.FileName.TheVariants as file
use Rattle.mdbox_base.specs.declared.entries.MapEntry.TheVariants as entry
use Rattle.mdbox_base.specs.Words.{IsName}
use Rattle.model_appends.specs.MapAppending.{IsMapAppend, AddsSynced, LeavesAlike}
use Rattle.model_appends.proofs.AmountLemmas.{accounted_by_map_entry, listed_made}
use Rattle.model_appends.proofs.AppendMapOpenLemmas.{good_by_map_entry, opens_by_map_entry}
use Rattle.model_appends.proofs.AppendSafeMapLemmas.{made_append, leaves_added, safe_with_map_entry}
use Rattle.model_logs.specs.declared.log_head.LogKind.TheVariants as kind
use Rattle.model_meaning.proofs.AppliedLemmas.{records_by_mailbox, boxes_by_mailbox}
use Rattle.model_store.proofs.SettledLemmas.{log_in}
use Rattle.store_core.proofs.BoxAppendLemmas.{dues_of, store_sound, is_log, disk_more, root_stays}
use Rattle.store_core.proofs.BoxCrashLemmas.{ReadsImage}
use Rattle.store_core.proofs.DueLemmas.{store_counts}
use Rattle.store_core.proofs.EntryFileLemmas.{kept_applied, stay_applied}
use Rattle.store_core.proofs.MailChangeLemmas.{known_beside, stay_beside}
use Rattle.store_core.proofs.MapAppendLemmas.{boxes_read}
use Rattle.store_core.proofs.MapCrashLemmas.{held_map}
use Rattle.store_core.proofs.PickingLemmas.{reads_other}
use Rattle.store_core.proofs.UnneededLogLemmas.{map_known}

-- the entry, and the mailbox that it makes
abbrev pub naming : BoxNo → List ℕ → MapEntry
naming mailbox name = entry.B mailbox 1 name

abbrev pub box_named : BoxNo → List ℕ → MapBox
box_named mailbox name = record { number = mailbox.0; generation = 1; name = name }

-- A mailbox whose log was made can be named.
pub record CanName {D : Type 0} (h : Option History) (v : StoreValue D) (b : OpenBox) (mailbox : BoxNo) (name : List ℕ) : Type 0 where
  pub store : IsStore h v
  pub running : v.stopped ≡ false
  pub in_range : MapInRange (naming mailbox name)
  pub fits : MapFits v.map (naming mailbox name)
  pub number : b.number.0 ≡ mailbox.0
  pub is_made : IsMadeLog v.map v.drawn b
  pub held : Holds b.log [] h

-- ---- good logs

fits_there : {D : Type 0} → (h : Option History) (v : StoreValue D) (b : OpenBox) (mailbox : BoxNo) (name : List ℕ) → (c : CanName h v b mailbox name) → MapFits (map_meaning v.map.store c.store.entries) (naming mailbox name)
fits_there h v b mailbox name c = subst (λ (m : MapMeaning). MapFits m (naming mailbox name)) c.store.map_is c.fits

-- each count is enough still
counted_there : {D : Type 0} → (h : Option History) (v : StoreValue D) (b : OpenBox) (mailbox : BoxNo) (name : List ℕ) → (c : CanName h v b mailbox name)
    → All (IsCounted (logs_made (naming mailbox name) c.store.logs)) (map_meaning v.map.store (c.store.entries ++ naming mailbox name ∷ [])).records
counted_there h v b mailbox name c =
    let s = c.store in
    let e : MapEntry = naming mailbox name in
    accounted_counted (dues_of v) (λ uid. leak_at uid v) (logs_made e s.logs) (map_meaning v.map.store (s.entries ++ e ∷ [])).records
    (accounted_by_map_entry v.map.store s.entries e s.logs (dues_of v) (λ uid. leak_at uid v) s.good tt (fits_there h v b mailbox name c) tt
    (subst (λ (m : MapMeaning). All (IsAccounted (dues_of v) (λ uid. leak_at uid v) s.logs) m.records) s.map_is (store_counts h v s.logs s (store_sound h v s).rising s.boxes_are)))

good_there : {D : Type 0} → (h : Option History) (v : StoreValue D) (b : OpenBox) (mailbox : BoxNo) (name : List ℕ) → (c : CanName h v b mailbox name) → AreGoodLogs v.map.store (c.store.entries ++ naming mailbox name ∷ []) (logs_made (naming mailbox name) c.store.logs)
good_there h v b mailbox name c = good_by_map_entry v.map.store c.store.entries c.store.logs (naming mailbox name) c.store.good tt c.in_range (fits_there h v b mailbox name c) (counted_there h v b mailbox name c)

meant : {D : Type 0} → (h : Option History) (v : StoreValue D) (b : OpenBox) (mailbox : BoxNo) (name : List ℕ) → (c : CanName h v b mailbox name) → map_applied (naming mailbox name) v.map ≡ map_meaning v.map.store (c.store.entries ++ naming mailbox name ∷ [])
meant h v b mailbox name c = ap (map_applied (naming mailbox name)) c.store.map_is ∙ sym (map_more v.map.store c.store.entries (naming mailbox name))

-- ---- what a store keeps

pub same_records : (m : MapMeaning) (mailbox : BoxNo) (name : List ℕ) → (map_applied (naming mailbox name) m).records ≡ m.records
same_records m mailbox name = records_by_mailbox mailbox 1 name m.records

pub one_box_more : (m : MapMeaning) (mailbox : BoxNo) (name : List ℕ) → (map_applied (naming mailbox name) m).boxes ≡ m.boxes ++ box_named mailbox name ∷ []
one_box_more m mailbox name = boxes_by_mailbox mailbox 1 name m.boxes

-- a log without entries lists nothing
cover_more : (logs : List (List BoxEntry)) (rows : List MapRecord) (ns : List ℕ) (e : MapEntry) (mailbox : BoxNo) (name : List ℕ) → e ≡ naming mailbox name → CoverDues logs rows ns → CoverDues (logs_made e logs) rows ns
cover_more logs [] [] e mailbox name is h = tt
cover_more logs [] (n ∷ ns) e mailbox name is h = absurd h
cover_more logs (r ∷ rs) [] e mailbox name is h = absurd h
cover_more logs (r ∷ rs) (n ∷ ns) e mailbox name is h = (
  (let same : listed_of (logs_made e logs) r.uid ≡ listed_of logs r.uid = subst (λ (x : MapEntry). listed_of (logs_made x logs) r.uid ≡ listed_of logs r.uid) (sym is) (listed_made (naming mailbox name) logs r.uid tt) in let c = h.0 in omega (arith, same, c)),
  cover_more logs rs ns e mailbox name is h.1,
)

logs_more : (store : List ℕ) (mailboxes : List MapBox) (boxes : List OpenBox) (box : MapBox) (b : OpenBox) → AreBoxLogs store mailboxes boxes → b.number.0 ≡ box.number → b.log.name ≡ file.Box box.number box.generation
    → b.log.head ≡ head_of store kind.Box box.number box.generation → AreBoxLogs store (mailboxes ++ box ∷ []) (boxes ++ b ∷ [])
logs_more store [] [] box b a number name head = (number, name, head, tt)
logs_more store [] (o ∷ os) box b a number name head = absurd a
logs_more store (m ∷ ms) [] box b a number name head = absurd a
logs_more store (m ∷ ms) (o ∷ os) box b a number name head = (a.0, a.1, a.2, logs_more store ms os box b a.3 number name head)

read_more : (h : Option History) (boxes : List OpenBox) (logs : List (List BoxEntry)) (b : OpenBox) → ReadBoxLogs h boxes logs → Reads b.log [] h → ReadBoxLogs h (boxes ++ b ∷ []) (logs ++ [] ∷ [])
read_more h [] [] b r last = (last, tt)
read_more h [] (l ∷ ls) b r last = absurd r
read_more h (o ∷ os) [] b r last = absurd r
read_more h (o ∷ os) (l ∷ ls) b r last = (r.0, read_more h os ls b r.1 last)

named_so : {D : Type 0} → (h : Option History) (v : StoreValue D) (b : OpenBox) (mailbox : BoxNo) (name : List ℕ) → CanName h v b mailbox name → b.log.name ≡ file.Box mailbox.0 1
named_so h v b mailbox name c = c.is_made.name ∙ ap (λ (n : ℕ). file.Box n 1) c.number

headed_so : {D : Type 0} → (h : Option History) (v : StoreValue D) (b : OpenBox) (mailbox : BoxNo) (name : List ℕ) → CanName h v b mailbox name → b.log.head ≡ head_of v.map.store kind.Box mailbox.0 1
headed_so h v b mailbox name c = c.is_made.head ∙ ap (λ (n : ℕ). head_of v.map.store kind.Box n 1) c.number

-- the log is there, without entries
box_there : (disk : DiskState) (store : List ℕ) (log : LogState) (mailbox : BoxNo) (name : List ℕ) → log.name ≡ file.Box mailbox.0 1 → log.head ≡ head_of store kind.Box mailbox.0 1 → IsLogRead log [] disk → HasBox (files_of disk) store (box_named mailbox name) []
box_there disk store log mailbox name named headed r =
    let is : IsLogFile (reading (disk (file.Box mailbox.0 1))) (head_of store kind.Box mailbox.0 1) [] =
    subst (λ (h : LogHead). IsLogFile (reading (disk (file.Box mailbox.0 1))) h []) headed (subst (λ (n : FileName). IsLogFile (reading (disk n)) log.head []) named (is_log log [] disk r)) in
    let o = log_in (reading (disk (file.Box mailbox.0 1))) (head_of store kind.Box mailbox.0 1) [] is in
    record { log = record { octets = o.0; there = o.1; whole = o.2 }; in_range = tt; fit = tt }

-- ---- the store

opens_named : {D : Type 0} → (old new : Option History) (v : StoreValue D) (b : OpenBox) (mailbox : BoxNo) (name : List ℕ) (log : LogState) → (c : CanName old v b mailbox name) → IsSameLog v.map_log log → SameButFor v.map_log.name old new
    → ((texts : List (List ℕ)) → Reads v.map_log texts old → Reads log (texts ++ map_text (naming mailbox name) ∷ []) new) → IfTold new (λ now. Opens (files_of now) v.map.store (c.store.entries ++ naming mailbox name ∷ []) (logs_made (naming mailbox name) c.store.logs))
opens_named None new v b mailbox name log c same others added =
    subst (λ (h : Option History). IfTold h (λ now. Opens (files_of now) v.map.store (c.store.entries ++ naming mailbox name ∷ []) (logs_made (naming mailbox name) c.store.logs))) (sym others) tt
opens_named (Some old) None v b mailbox name log c same others added = absurd others
opens_named (Some old) (Some new) v b mailbox name log c same others added =
    let s = c.store in
    let e : MapEntry = naming mailbox name in
    let runs = s.running c.running in
    let o : Opens (files_of old.now) v.map.store s.entries s.logs = runs.opens in
    let at : v.map_log.name ≡ file.Map o.passed.map_log.generation = s.map_name ∙ ap (λ (n : ℕ). file.Map n) (root_same (files_of old.now) v.map.store v.map.store s.generation o.passed.map_log.generation runs.root o.passed.map_log.root).1 in
    opens_by_map_entry (files_of old.now) (files_of new.now) v.map.store s.entries s.logs e o tt c.in_range (fits_there (Some old) v b mailbox name c)
    (All-nil (LiesInFile (files_of old.now))) (All-nil (λ (row : MapRecord). All (IsThereWhole (files_of old.now)) row.instances))
    (All-cons (λ (box : MapBox). HasBox (files_of old.now) v.map.store box []) (box_named mailbox name) []
    (box_there old.now v.map.store b.log mailbox name (named_so (Some old) v b mailbox name c) (headed_so (Some old) v b mailbox name c) c.held.reads) (All-nil (λ (box : MapBox). HasBox (files_of old.now) v.map.store box [])))
    (counted_there (Some old) v b mailbox name c) (λ other apart. ap reading (others other (λ p. apart (p ∙ at))))
    (subst (λ (n : FileName). HasOneMore (map_text e) (reading (old.now n)) (reading (new.now n))) at
    (disk_more v.map_log log (map map_text s.entries) (map_text e) old.now new.now same.name same.head runs.map_log_reads (added (map map_text s.entries) runs.map_log_reads)))

-- the store in which the mailbox is named
abbrev pub with_box : {D : Type 0} → StoreValue D → D → LogState → BoxNo → List ℕ → OpenBox → List OpenBox → StoreValue D
with_box v disk log mailbox name b made = record v { disk = disk; map_log = log; map = map_applied (naming mailbox name) v.map; boxes = v.boxes ++ b ∷ []; made = made }

runs_named : {D : Type 0} → (old new : Option History) (v : StoreValue D) (disk : D) (log : LogState) (b : OpenBox) (made : List OpenBox) (mailbox : BoxNo) (name : List ℕ) → (c : CanName old v b mailbox name) → IsSameLog v.map_log log → SameButFor v.map_log.name old new
    → ((texts : List (List ℕ)) → Reads v.map_log texts old → Reads log (texts ++ map_text (naming mailbox name) ∷ []) new)
    → IsRunning new c.store.generation (with_box v disk log mailbox name b made) (c.store.entries ++ naming mailbox name ∷ []) (logs_made (naming mailbox name) c.store.logs)
runs_named old new v disk log b made mailbox name c same others added =
    let s = c.store in
    let e : MapEntry = naming mailbox name in
    let runs = s.running c.running in
    let others_map : SameButFor (file.Map s.generation) old new = subst (λ (n : FileName). SameButFor n old new) s.map_name others in
    let no_mail : (mail : ℕ) → file.Mail mail ≢ v.map_log.name = λ mail q. absurd (let p : file.Mail mail ≡ file.Map s.generation = q ∙ s.map_name in cc p) in
    let no_box : b.log.name ≢ v.map_log.name = λ q. absurd (let p : file.Box mailbox.0 1 ≡ file.Map s.generation = sym (named_so old v b mailbox name c) ∙ q ∙ s.map_name in cc p) in
    record {
      opens = opens_named old new v b mailbox name log c same others added;
      root = root_stays v.map_log.name v.map.store s.generation old new others (λ q. absurd (let p : file.Root ≡ file.Map s.generation = q ∙ s.map_name in cc p)) runs.root;
      root_entries = runs.root_entries;
      root_log_reads = reads_other v.map_log.name v.root_log runs.root_entries old new others (λ q. absurd (let p : file.Root ≡ file.Map s.generation = sym s.root_name ∙ q ∙ s.map_name in cc p)) runs.root_log_reads;
      map_log_reads = subst (λ (texts : List (List ℕ)). Reads log texts new) (sym (map-append map_text s.entries (e ∷ []))) (added (map map_text s.entries) runs.map_log_reads);
      box_logs_read = read_more new v.boxes s.logs b (boxes_read s.generation v.map.store v.map.boxes v.boxes s.logs old new s.box_logs others_map runs.box_logs_read)
          (reads_other v.map_log.name b.log [] old new others no_box (if_told-map (IsLogHeld b.log []) (IsLogRead b.log []) old (λ disk h. h.reads) c.held));
      files_known = known_beside v.map_log.name v.files.files old new no_mail others runs.files_known;
      files_stay = if_told-map _ _ new (λ disk stay. stay_applied v.files.files v.map e disk tt stay) (stay_beside v.map_log.name v.files.files v.map.records old new no_mail others runs.files_stay);
    }

-- its number was drawn
drawn_named : (m : MapMeaning) (drawn : Highest) (mailbox : BoxNo) (name : List ℕ) → mailbox.0 ≤ drawn.mailbox → IsUpTo drawn m.highest → IsUpTo drawn (map_applied (naming mailbox name) m).highest
drawn_named m drawn mailbox name below up =
    let a = up.file in
    let b = up.map in
    let c = up.instance in
    let d = up.mailbox in
    record { file = omega (arith, a); map = omega (arith, b); instance = omega (arith, c); mailbox = omega (arith, d, below) }

pub store_named : {D : Type 0} → (old new : Option History) (v : StoreValue D) (disk : D) (log : LogState) (b : OpenBox) (made : List OpenBox) (mailbox : BoxNo) (name : List ℕ) → CanName old v b mailbox name → IsSameLog v.map_log log → SameButFor v.map_log.name old new
    → ((texts : List (List ℕ)) → Reads v.map_log texts old → Reads log (texts ++ map_text (naming mailbox name) ∷ []) new) → IsStore new (with_box v disk log mailbox name b made)
store_named old new v disk log b made mailbox name c same others added =
    let s = c.store in
    let e : MapEntry = naming mailbox name in
    record {
      entries = s.entries ++ e ∷ [];
      logs = logs_made e s.logs;
      generation = s.generation;
      good = good_there old v b mailbox name c;
      map_is = meant old v b mailbox name c;
      boxes_are = map-append (λ (o : OpenBox). o.index.meaning) v.boxes (b ∷ []) ∙ ap (λ (ms : List BoxMeaning). ms ++ b.index.meaning ∷ []) s.boxes_are ∙ ap (λ (m : BoxMeaning). map box_meaning s.logs ++ m ∷ []) c.is_made.empty
          ∙ sym (map-append box_meaning s.logs ([] ∷ []));
      counts = subst (λ (rows : List MapRecord). CoverDues (logs_made e s.logs) rows v.dues) (sym (same_records v.map mailbox name)) (cover_more s.logs v.map.records v.dues e mailbox name refl s.counts);
      drawn = drawn_named v.map v.drawn mailbox name (let d = c.is_made.was_drawn in let n = c.number in omega (arith, d, n)) s.drawn;
      files = kept_applied v.files v.drawn v.drawn v.map e tt refl (All-nil (LiesBelowEnd v.map.store v.files.files)) s.files;
      root_name = s.root_name;
      root_head = s.root_head;
      map_name = same.name ∙ s.map_name;
      map_head = same.head ∙ s.map_head;
      box_logs = subst (λ (bs : List MapBox). AreBoxLogs v.map.store bs (v.boxes ++ b ∷ [])) (sym (one_box_more v.map mailbox name))
          (logs_more v.map.store v.map.boxes v.boxes (box_named mailbox name) b s.box_logs c.number (named_so old v b mailbox name c) (headed_so old v b mailbox name c));
      some_lanes = s.some_lanes;
      few_lanes = s.few_lanes;
      running = λ runs. runs_named old new v disk log b made mailbox name c same others added;
    }

-- ---- what a crash leaves

-- what is known of the append of an entry, of a disk that is settled for these lists, which gives these others
pub record Appends (old : History) (lists later : Lists) (s : IsSettled old.now lists) (log : LogState) (e : MapEntry) : Type 0 where
  pub texts : List (List ℕ)
  pub append : IsMapAppend (files_of old.now) s.store s.entries lists later e
  pub alike : LeavesAlike s.safe.stands.map_log.generation (map_meaning s.store (s.entries ++ e ∷ [])) old.now
  pub log_name : log.name ≡ file.Map s.safe.stands.map_log.generation
  pub held : IsLogHeld log texts old.now

-- a crash leaves its log as it is
named_synced : (disk : DiskState) (log : LogState) (mailbox : BoxNo) (name : List ℕ) → log.name ≡ file.Box mailbox.0 1 → IsLogHeld log [] disk → AddsSynced disk (naming mailbox name)
named_synced disk log mailbox name named h = record {
  regions = λ image i. All-nil (HasSameRegion (files_of disk) image);
  instances = λ image i. All-nil (λ (row : MapRecord). All (HasSameInstance (files_of disk) image) row.instances);
  boxes = λ image i. All-cons (λ (box : MapBox). image (file.Box box.number box.generation) ≡ files_of disk (file.Box box.number box.generation)) (box_named mailbox name) []
      (subst (λ (n : FileName). image n ≡ files_of disk n) named ((h.keeps.leaves (image log.name)).0 (i log.name) ∙ sym h.keeps.reads))
      (All-nil (λ (box : MapBox). image (file.Box box.number box.generation) ≡ files_of disk (file.Box box.number box.generation)));
}

names : {D : Type 0} → (old : History) (v : StoreValue D) (b : OpenBox) (mailbox : BoxNo) (name : List ℕ) (lists : Lists) (s : IsSettled old.now lists) → CanName (Some old) v b mailbox name → ReadsImage old.now → Appends old lists (lists ++ empty_mailbox mailbox.0 name ∷ []) s v.map_log (naming mailbox name)
names old v b mailbox name lists s c own =
    let runs = c.store.running c.running in
    let g : ℕ = s.safe.stands.map_log.generation in
    let is : v.map_log.name ≡ file.Map g = c.store.map_name ∙ ap (λ (n : ℕ). file.Map n) (root_same (files_of old.now) v.map.store s.store c.store.generation g runs.root s.safe.stands.map_log.root).1 in
    let id : v.map.store ≡ s.store = (map_same (files_of old.now) v.map.store s.store c.store.entries s.entries runs.opens.passed.map_log s.safe.stands.map_log).0 in
    let named = named_so (Some old) v b mailbox name c in
    record {
      texts = map map_text c.store.entries;
      append = made_append (files_of old.now) s.store s.entries lists mailbox 1 name s.safe c.in_range
          (subst (λ (m : MapMeaning). MapFits m (naming mailbox name)) (map_known old v lists s c.store c.running) c.fits)
          (subst (λ (store : List ℕ). HasBox (files_of old.now) store (box_named mailbox name) []) id
          (box_there old.now v.map.store b.log mailbox name named (headed_so (Some old) v b mailbox name c) c.held.reads));
      alike = leaves_added old.now lists (naming mailbox name) s tt (named_synced old.now b.log mailbox name named c.held);
      log_name = is;
      held = held_map old.now lists s v.map_log (map map_text c.store.entries) own is runs.map_log_reads;
    }

image_safe : (disk : DiskState) (lists later : Lists) (s : IsSettled disk lists) (e : MapEntry) (head : LogHead) (texts : List (List ℕ)) (image : Files) → ReadsImage disk → IsMapAppend (files_of disk) s.store s.entries lists later e
    → LeavesAlike s.safe.stands.map_log.generation (map_meaning s.store (s.entries ++ e ∷ [])) disk → IsLogFile (reading (disk (file.Map s.safe.stands.map_log.generation))) head texts
    → IsLogWithOrWithout head texts (map_text e) (image (file.Map s.safe.stands.map_log.generation)) → LeftBut (file.Map s.safe.stands.map_log.generation) disk image → Safe image lists ⊎ Safe image later
image_safe disk lists later s e head texts image own a alike is (inl without) left =
    let name : FileName = file.Map s.safe.stands.map_log.generation in
    inl (safe_without disk lists name image s own refl left (same_log (reading (disk name)) (image name) head texts is without))
image_safe disk lists later s e head texts image own a alike is (inr more) left =
    let name : FileName = file.Map s.safe.stands.map_log.generation in
    inr (safe_with_map_entry disk lists later e image s own a alike left (more_log (reading (disk name)) (image name) head texts (map_text e) is more))

-- of any such append
pub leaves_by : (old : History) (new : Option History) (lists later : Lists) (s : IsSettled old.now lists) (log : LogState) (e : MapEntry) → ReadsImage old.now → Appends old lists later s log e → AddsText log (map_text e) (Some old) new → Leaves lists later (Some old) new
leaves_by old new lists later s log e own a adds =
    let is : IsLogFile (reading (old.now (file.Map s.safe.stands.map_log.generation))) log.head a.texts = subst (λ (n : FileName). IsLogFile (reading (old.now n)) log.head a.texts) a.log_name (is_log log a.texts old.now a.held.reads) in
    each_image-map (λ _ image. IsLogWithOrWithout log.head a.texts (map_text e) (image log.name) × OthersStay log.name (Some old) image) (λ _ image. Safe image lists ⊎ Safe image later) (Some old) new
    (λ moment image i. image_safe old.now lists later s e log.head a.texts image own a.append a.alike is
    (subst (λ (n : FileName). IsLogWithOrWithout log.head a.texts (map_text e) (image n)) a.log_name i.0) (λ other apart. i.1 other (λ q. apart (q ∙ a.log_name))))
    (adds a.texts a.held)

pub settled_by : (old new : History) (lists later : Lists) (s : IsSettled old.now lists) (ready log : LogState) (e : MapEntry) → ReadsImage old.now → Appends old lists later s ready e → IsSameLog ready log → SameButFor ready.name (Some old) (Some new)
    → ((texts : List (List ℕ)) → Holds ready texts (Some old) → Holds log (texts ++ map_text e ∷ []) (Some new)) → IsSettledFor later (Some new)
settled_by old new lists later s ready log e own a same others hold =
    let now : IsLogHeld log (a.texts ++ map_text e ∷ []) new.now = hold a.texts a.held in
    settled_by_map_append old.now new.now lists later e s own a.append a.alike (λ other apart. others other (λ q. apart (q ∙ a.log_name)))
    (subst (λ (n : FileName). HasOneMore (map_text e) (reading (old.now n)) (reading (new.now n))) a.log_name (disk_more ready log a.texts (map_text e) old.now new.now same.name same.head a.held.reads now.reads))
    (λ left may.
    let there : MayLeave (new.now log.name) left = subst (λ (n : FileName). MayLeave (new.now n) left) (sym (same.name ∙ a.log_name)) may in
    (now.keeps.leaves left).0 there ∙ sym now.keeps.reads ∙ ap (λ (n : FileName). reading (new.now n)) (same.name ∙ a.log_name))

-- of the entry that names a mailbox
pub leaves_named : {D : Type 0} → (old new : Option History) (v : StoreValue D) (b : OpenBox) (mailbox : BoxNo) (name : List ℕ) → CanName old v b mailbox name → IfTold old ReadsImage → AddsText v.map_log (map_text (naming mailbox name)) old new
    → (lists : Lists) → IsSettledFor lists old → Leaves lists (lists ++ empty_mailbox mailbox.0 name ∷ []) old new
leaves_named None new v b mailbox name c own adds lists settled = absurd settled
leaves_named (Some old) new v b mailbox name c own adds lists s = leaves_by old new lists (lists ++ empty_mailbox mailbox.0 name ∷ []) s v.map_log (naming mailbox name) own (names old v b mailbox name lists s c own) adds

pub settled_named : {D : Type 0} → (old new : Option History) (v : StoreValue D) (b : OpenBox) (mailbox : BoxNo) (name : List ℕ) (log : LogState) → CanName old v b mailbox name → IfTold old ReadsImage → IsSameLog v.map_log log → SameButFor v.map_log.name old new
    → ((texts : List (List ℕ)) → Holds v.map_log texts old → Holds log (texts ++ map_text (naming mailbox name) ∷ []) new) → (lists : Lists) → IsSettledFor lists old → IsSettledFor (lists ++ empty_mailbox mailbox.0 name ∷ []) new
settled_named None new v b mailbox name log c own same others hold lists settled = absurd settled
settled_named (Some old) None v b mailbox name log c own same others hold lists settled = absurd others
settled_named (Some old) (Some new) v b mailbox name log c own same others hold lists s =
    settled_by old new lists (lists ++ empty_mailbox mailbox.0 name ∷ []) s v.map_log log (naming mailbox name) own (names old v b mailbox name lists s c own) same others hold

pub stored_named : {D : Type 0} → (old new : Option History) (v : StoreValue D) → IsStore old v → SameButFor v.map_log.name old new → KeepsStored old new
stored_named None new v s same = same
stored_named (Some old) None v s same = absurd same
stored_named (Some old) (Some new) v s same =
    λ row octets stores. kept_as (files_of old.now) (files_of new.now) row row octets (map_stored s.generation (files_of old.now) (files_of new.now) (λ other apart. ap reading (same other (λ p. apart (p ∙ s.map_name))))) (count_itself row) stores

-- ---- the entry's octets

pub short_name : (mailbox : BoxNo) (name : List ℕ) → IsName name → length (map_text (naming mailbox name)) ≤ 265
short_name mailbox name is = let l = is.short in omega (arith, l)
