-- A store with one entry more in the log of a mailbox.
use Rattle.store_core.proofs.Common.{inr, ◌≡◌, ◌≢◌, ◌<◌, ℕ, true, false, List, [], ◌∷◌, ◌++◌, map, length, slice_index_or, slice_set, Option, Some, None, All, refl, sym, ◌∙◌, ap, subst, Contains, map-append, DiskState, History, IfTold, SameButFor, reading, FileName, LogHead, MapEntry, BoxEntry}
use Rattle.store_core.proofs.Common.{map_text, box_text, BoxInRange, IsLogFile, BoxMeaning, row_made, box_meaning, box_applied, MapBox, MapMeaning, map_meaning, IsSoundMap, HasRoot, files_of, meaning_numbered, HasItsRecord, Opens, IsCounted, AreGoodLogs, IsAccounted, due_by_box, HasOneMore, logs_by}
use Rattle.store_core.proofs.Common.{meanings_by, log_as, more_log, accounted_counted, LogState, IsLogRead, Reads, IsSameBox, due_change_of, dues_by, due_at, leak_at, StoreValue, indexes_of, list_numbered, AreBoxLogs, ReadBoxLogs, IsRunning, CoverDues, IsStore, OpenBox}
use Rattle.disk_model.specs.declared.name.FileName.TheVariants as file
use Rattle.model_meaning.specs.BoxMeaning.{BoxFits}
use Rattle.model_meaning.proofs.MapSoundLemmas.{map_sound}
use Rattle.model_appends.specs.Amounts.{HoldsAdded}
use Rattle.model_appends.specs.Appending.{FitsIn}
use Rattle.model_appends.proofs.AppendOpenLemmas.{meanings_more, good_by_box_entry, opens_by_box_entry}
use Rattle.model_appends.proofs.AmountLemmas.{accounted_by_box_entry}
use Rattle.store_core.proofs.DueLemmas.{dues_each, covered_by, store_counts}
use Rattle.store_core.proofs.MailChangeLemmas.{known_beside, stay_beside}
use Rattle.store_core.proofs.DueChangeLemmas.{dues_are}
use Rattle.store_core.proofs.PickingLemmas.{Picked, pick, box_logs_set, indexes_set, indexes_kept, reads_other, reads_set}

-- ---- what is read of a log is a log

pub is_log : (log : LogState) (entries : List (List ℕ)) (disk : DiskState) → IsLogRead log entries disk → IsLogFile (reading (disk log.name)) log.head entries
is_log log entries disk r = subst (λ (o : Option (List ℕ)). IsLogFile o log.head entries) (sym r.file) (record { head_fits = r.head_fits; gate = 0; behind = []; spelled = refl; entries_fit = r.entries_fit; ends = inr refl })

-- ---- a store by its entries

-- the parts of a store that an append to a mailbox's log changes, and what they rest on, by the entries of its map log
pub record StoreBy (id : List ℕ) (entries : List MapEntry) (logs : List (List BoxEntry)) (generation : ℕ) (map_log : LogState) (boxes : List OpenBox) : Type 0 where
  pub good : AreGoodLogs id entries logs
  pub boxes_are : indexes_of boxes ≡ map box_meaning logs
  pub map_name : map_log.name ≡ file.Map generation
  pub box_logs : AreBoxLogs id (map_meaning id entries).boxes boxes

pub record RunsBy (history : Option History) (id : List ℕ) (entries : List MapEntry) (logs : List (List BoxEntry)) (generation : ℕ) (root_log map_log : LogState) (boxes : List OpenBox) : Type 0 where
  pub opens : IfTold history (λ now. Opens (files_of now) id entries logs)
  pub root : IfTold history (λ now. HasRoot (files_of now) id generation)
  pub root_entries : List (List ℕ)
  pub root_log_reads : Reads root_log root_entries history
  pub map_log_reads : Reads map_log (map map_text entries) history
  pub box_logs_read : ReadBoxLogs history boxes logs

pub store_by : {D : Type 0} → (history : Option History) (v : StoreValue D) → (s : IsStore history v) → StoreBy v.map.store s.entries s.logs s.generation v.map_log v.boxes
store_by history v s = record {
  good = s.good;
  boxes_are = s.boxes_are;
  map_name = s.map_name;
  box_logs = subst (λ (n : MapMeaning). AreBoxLogs v.map.store n.boxes v.boxes) s.map_is s.box_logs;
}

pub runs_by : {D : Type 0} → (history : Option History) (v : StoreValue D) (generation : ℕ) (entries : List MapEntry) (logs : List (List BoxEntry)) → IsRunning history generation v entries logs → RunsBy history v.map.store entries logs generation v.root_log v.map_log v.boxes
runs_by history v generation entries logs r = record { opens = r.opens; root = r.root; root_entries = r.root_entries; root_log_reads = r.root_log_reads; map_log_reads = r.map_log_reads; box_logs_read = r.box_logs_read }

pub sound_map : (id : List ℕ) (entries : List MapEntry) (logs : List (List BoxEntry)) → AreGoodLogs id entries logs → IsSoundMap (map_meaning id entries)
sound_map id entries logs good = map_sound id entries good.map_entries.1 good.map_entries.0

pub store_sound : {D : Type 0} → (history : Option History) (v : StoreValue D) → IsStore history v → IsSoundMap v.map
store_sound history v s = subst IsSoundMap (sym s.map_is) (sound_map v.map.store s.entries s.logs s.good)

-- the mailbox at a place, in a store that runs
pub picked : (history : Option History) (id : List ℕ) (entries : List MapEntry) (logs : List (List BoxEntry)) (generation : ℕ) (root_log map_log : LogState) (boxes : List OpenBox) (k : ℕ) (d : OpenBox) → k < length boxes
    → StoreBy id entries logs generation map_log boxes → RunsBy history id entries logs generation root_log map_log boxes → Picked history id (map_meaning id entries).boxes logs (slice_index_or boxes k d)
picked history id entries logs generation root_log map_log boxes k d below s r =
    pick history id k d (map_meaning id entries).boxes boxes logs below (sound_map id entries logs s.good).boxes_rising s.box_logs s.boxes_are r.box_logs_read

-- ---- with one entry more

store_more : (id : List ℕ) (entries : List MapEntry) (logs : List (List BoxEntry)) (generation : ℕ) (map_log : LogState) (boxes : List OpenBox) (k : ℕ) (d x : OpenBox) (e : BoxEntry) → k < length boxes
    → StoreBy id entries logs generation map_log boxes → BoxInRange e → FitsIn (slice_index_or boxes k d).number.0 e (map_meaning id entries).boxes logs → All (HasItsRecord (map_meaning id entries)) (row_made e)
    → All (IsCounted (logs_by (slice_index_or boxes k d).number.0 e (map_meaning id entries).boxes logs)) (map_meaning id entries).records → IsSameBox (slice_index_or boxes k d) x
    → x.index.meaning ≡ box_applied e (slice_index_or boxes k d).index.meaning → StoreBy id entries (logs_by (slice_index_or boxes k d).number.0 e (map_meaning id entries).boxes logs) generation map_log (slice_set boxes k x)
store_more id entries logs generation map_log boxes k d x e below s in_range fits made counts same index =
    let m : MapMeaning = map_meaning id entries in
    let number : ℕ = (slice_index_or boxes k d).number.0 in
    record {
      good = good_by_box_entry id entries logs number e s.good in_range fits made counts;
      boxes_are = indexes_set id k d x e m.boxes boxes (sound_map id entries logs s.good).boxes_rising s.box_logs below index ∙ ap (meanings_by number e m.boxes) s.boxes_are ∙ sym (meanings_more number e m.boxes logs);
      map_name = s.map_name;
      box_logs = box_logs_set id k d x m.boxes boxes s.box_logs below same;
    }

-- a log of the disk before, and with one entry more of the disk afterwards
pub disk_more : (a b : LogState) (texts : List (List ℕ)) (text : List ℕ) (old new : DiskState) → b.name ≡ a.name → b.head ≡ a.head → IsLogRead a texts old → IsLogRead b (texts ++ text ∷ []) new → HasOneMore text (reading (old a.name)) (reading (new a.name))
disk_more a b texts text old new name head r q =
    let after : IsLogFile (reading (new b.name)) b.head (texts ++ text ∷ []) = is_log b (texts ++ text ∷ []) new q in
    more_log (reading (old a.name)) (reading (new a.name)) a.head texts text (is_log a texts old r)
    (subst (λ (n : FileName). IsLogFile (reading (new n)) a.head (texts ++ text ∷ [])) name (subst (λ (h : LogHead). IsLogFile (reading (new b.name)) h (texts ++ text ∷ [])) head after))

pub root_stays : (log : FileName) (id : List ℕ) (generation : ℕ) (old new : Option History) → SameButFor log old new → file.Root ≢ log → IfTold old (λ now. HasRoot (files_of now) id generation) → IfTold new (λ now. HasRoot (files_of now) id generation)
root_stays log id generation None new same apart h = subst (λ (o : Option History). IfTold o (λ now. HasRoot (files_of now) id generation)) (sym same) tt
root_stays log id generation (Some old) None same apart h = absurd same
root_stays log id generation (Some old) (Some new) same apart h =
    record { before = h.before; log = log_as (files_of old.now) (files_of new.now) file.Root _ _ (ap reading (same file.Root apart)) h.log; in_range = h.in_range }

opens_more : (old new : Option History) (id : List ℕ) (entries : List MapEntry) (logs : List (List BoxEntry)) (box : MapBox) (log : List BoxEntry) (a b : LogState) (e : BoxEntry) → IfTold old (λ now. Opens (files_of now) id entries logs)
    → Contains (map_meaning id entries).boxes box → BoxInRange e → FitsIn box.number e (map_meaning id entries).boxes logs → All (HasItsRecord (map_meaning id entries)) (row_made e)
    → All (IsCounted (logs_by box.number e (map_meaning id entries).boxes logs)) (map_meaning id entries).records → a.name ≡ file.Box box.number box.generation → b.name ≡ a.name → b.head ≡ a.head → SameButFor a.name old new
    → Reads a (map box_text log) old → Reads b (map box_text log ++ box_text e ∷ []) new → IfTold new (λ now. Opens (files_of now) id entries (logs_by box.number e (map_meaning id entries).boxes logs))
opens_more None new id entries logs box log a b e o there in_range fits made counts name bname bhead same r q =
    subst (λ (h : Option History). IfTold h (λ now. Opens (files_of now) id entries (logs_by box.number e (map_meaning id entries).boxes logs))) (sym same) tt
opens_more (Some old) None id entries logs box log a b e o there in_range fits made counts name bname bhead same r q = absurd same
opens_more (Some old) (Some new) id entries logs box log a b e o there in_range fits made counts name bname bhead same r q =
    opens_by_box_entry (files_of old.now) (files_of new.now) id entries logs box e o there in_range fits made counts
    (λ other apart. ap reading (same other (λ p. apart (p ∙ name))))
    (subst (λ (n : FileName). HasOneMore (box_text e) (reading (old.now n)) (reading (new.now n))) name (disk_more a b (map box_text log) (box_text e) old.now new.now bname bhead r q))

runs_more : (old new : Option History) (id : List ℕ) (entries : List MapEntry) (logs : List (List BoxEntry)) (generation : ℕ) (root_log map_log : LogState) (boxes : List OpenBox) (k : ℕ) (d x : OpenBox) (e : BoxEntry) → k < length boxes
    → (s : StoreBy id entries logs generation map_log boxes) → RunsBy old id entries logs generation root_log map_log boxes → root_log.name ≡ file.Root → BoxInRange e → FitsIn (slice_index_or boxes k d).number.0 e (map_meaning id entries).boxes logs
    → All (HasItsRecord (map_meaning id entries)) (row_made e) → IsSameBox (slice_index_or boxes k d) x → SameButFor (slice_index_or boxes k d).log.name old new
    → ((texts : List (List ℕ)) → Reads (slice_index_or boxes k d).log texts old → Reads x.log (texts ++ box_text e ∷ []) new)
    → All (IsCounted (logs_by (slice_index_or boxes k d).number.0 e (map_meaning id entries).boxes logs)) (map_meaning id entries).records
    → RunsBy new id entries (logs_by (slice_index_or boxes k d).number.0 e (map_meaning id entries).boxes logs) generation root_log map_log (slice_set boxes k x)
runs_more old new id entries logs generation root_log map_log boxes k d x e below s r root_name in_range fits made same others added counts =
    let m : MapMeaning = map_meaning id entries in
    let b : OpenBox = slice_index_or boxes k d in
    let p : Picked old id m.boxes logs b = picked old id entries logs generation root_log map_log boxes k d below s r in
    let name : b.log.name ≡ file.Box b.number.0 p.box.generation = p.name ∙ ap (λ (n : ℕ). file.Box n p.box.generation) (sym p.number) in
    let others_box : SameButFor (file.Box b.number.0 p.box.generation) old new = subst (λ (n : FileName). SameButFor n old new) name others in
    record {
      opens = subst (λ (n : ℕ). IfTold new (λ now. Opens (files_of now) id entries (logs_by n e m.boxes logs))) (sym p.number)
          (opens_more old new id entries logs p.box p.log b.log x.log e r.opens p.there in_range (subst (λ (n : ℕ). FitsIn n e m.boxes logs) p.number fits) made
          (subst (λ (n : ℕ). All (IsCounted (logs_by n e m.boxes logs)) m.records) p.number counts) p.name same.name same.head others p.reads (added (map box_text p.log) p.reads));
      root = root_stays b.log.name id generation old new others (λ q. absurd (let w : file.Root ≡ file.Box b.number.0 p.box.generation = q ∙ name in cc w)) r.root;
      root_entries = r.root_entries;
      root_log_reads = reads_other b.log.name root_log r.root_entries old new others (λ q. absurd (let w : file.Root ≡ file.Box b.number.0 p.box.generation = sym root_name ∙ q ∙ name in cc w)) r.root_log_reads;
      map_log_reads = reads_other b.log.name map_log (map map_text entries) old new others (λ q. absurd (let w : file.Map generation ≡ file.Box b.number.0 p.box.generation = sym s.map_name ∙ q ∙ name in cc w)) r.map_log_reads;
      box_logs_read = reads_set id k d x e p.box.generation m.boxes boxes logs old new (sound_map id entries logs s.good).boxes_rising s.box_logs below others_box
          (λ log h. subst (λ (texts : List (List ℕ)). Reads x.log texts new) (sym (map-append box_text log (e ∷ []))) (added (map box_text log) h)) r.box_logs_read;
    }

-- ---- counts

abbrev pub dues_of : {D : Type 0} → StoreValue D → ℕ → ℕ
dues_of v uid = due_at uid v

-- they are made up as before, with what the entry makes due
counts_by : {D : Type 0} → (h : Option History) (v : StoreValue D) (number : ℕ) (m : BoxMeaning) (e : BoxEntry) → (s : IsStore h v) → list_numbered v number ≡ Some m → BoxFits m e → HoldsAdded e (dues_of v)
    → All (IsAccounted (due_by_box m e (dues_of v)) (λ uid. leak_at uid v) (logs_by number e (map_meaning v.map.store s.entries).boxes s.logs)) v.map.records
counts_by h v number m e s at fits held =
    let n : MapMeaning = map_meaning v.map.store s.entries in
    let there : meaning_numbered number n.boxes (map box_meaning s.logs) ≡ Some m = ap (λ (k : MapMeaning). meaning_numbered number k.boxes (map box_meaning s.logs)) (sym s.map_is) ∙ ap (meaning_numbered number v.map.boxes) (sym s.boxes_are) ∙ at in
    accounted_by_box_entry number e n.boxes s.logs m (dues_of v) (λ uid. leak_at uid v) v.map.records s.good.box_entries there fits held (store_counts h v s.logs s (store_sound h v s).rising s.boxes_are)

-- so they are enough
enough_by : {D : Type 0} → (h : Option History) (v : StoreValue D) (number : ℕ) (m : BoxMeaning) (e : BoxEntry) → (s : IsStore h v) → list_numbered v number ≡ Some m → BoxFits m e → HoldsAdded e (dues_of v)
    → All (IsCounted (logs_by number e (map_meaning v.map.store s.entries).boxes s.logs)) (map_meaning v.map.store s.entries).records
enough_by h v number m e s at fits held =
    let n : MapMeaning = map_meaning v.map.store s.entries in
    subst (λ (k : MapMeaning). All (IsCounted (logs_by number e n.boxes s.logs)) k.records) s.map_is
    (accounted_counted (due_by_box m e (dues_of v)) (λ uid. leak_at uid v) (logs_by number e n.boxes s.logs) v.map.records (counts_by h v number m e s at fits held))

-- and the numbers at the records cover them
pub covered : {D : Type 0} → (h : Option History) (v : StoreValue D) (number : ℕ) (m : BoxMeaning) (e : BoxEntry) (ds : List ℕ) → (s : IsStore h v) → list_numbered v number ≡ Some m → BoxFits m e → HoldsAdded e (dues_of v) → ds ≡ dues_by (due_change_of m e) v.map.records v.dues
    → CoverDues (logs_by number e (map_meaning v.map.store s.entries).boxes s.logs) v.map.records ds
covered h v number m e ds s at fits held are =
    let later : List (List BoxEntry) = logs_by number e (map_meaning v.map.store s.entries).boxes s.logs in
    let numbers : ds ≡ map (λ row. due_by_box m e (dues_of v) row.uid) v.map.records = are ∙ dues_are m e v.map.records v.dues (store_sound h v s).rising (dues_each s.logs v.map.records v.dues s.counts) in
    subst (λ (ns : List ℕ). CoverDues later v.map.records ns) (sym numbers)
    (covered_by (due_by_box m e (dues_of v)) (λ uid. leak_at uid v) later v.map.records (counts_by h v number m e s at fits held))

-- ---- the store

-- an entry for the log of the mailbox at this place
pub record Placed {D : Type 0} (h : Option History) (v : StoreValue D) (k : ℕ) (b : OpenBox) (number : ℕ) (e : BoxEntry) : Type 0 where
  pub store : IsStore h v
  pub running : v.stopped ≡ false
  pub below : k < length v.boxes
  pub default : OpenBox
  pub here : b ≡ slice_index_or v.boxes k default
  pub number_is : b.number.0 ≡ number
  pub in_range : BoxInRange e
  pub at : list_numbered v number ≡ Some b.index.meaning
  pub fits : BoxFits b.index.meaning e
  pub held : HoldsAdded e (dues_of v)
  pub made : All (HasItsRecord v.map) (row_made e)

pub fits_logs : {D : Type 0} → (h : Option History) (v : StoreValue D) (k : ℕ) (b : OpenBox) (number : ℕ) (e : BoxEntry) → (p : Placed h v k b number e) → FitsIn number e (map_meaning v.map.store p.store.entries).boxes p.store.logs
fits_logs h v k b number e p =
    (b.index.meaning, ap (λ (n : MapMeaning). meaning_numbered number n.boxes (map box_meaning p.store.logs)) (sym p.store.map_is) ∙ ap (meaning_numbered number v.map.boxes) (sym p.store.boxes_are) ∙ p.at, p.fits)

pub made_there : {D : Type 0} → (h : Option History) (v : StoreValue D) (k : ℕ) (b : OpenBox) (number : ℕ) (e : BoxEntry) → (p : Placed h v k b number e) → All (HasItsRecord (map_meaning v.map.store p.store.entries)) (row_made e)
made_there h v k b number e p = subst (λ (n : MapMeaning). All (HasItsRecord n) (row_made e)) p.store.map_is p.made

pub enough_there : {D : Type 0} → (h : Option History) (v : StoreValue D) (k : ℕ) (b : OpenBox) (number : ℕ) (e : BoxEntry) → (p : Placed h v k b number e)
    → All (IsCounted (logs_by number e (map_meaning v.map.store p.store.entries).boxes p.store.logs)) (map_meaning v.map.store p.store.entries).records
enough_there h v k b number e p = enough_by h v number b.index.meaning e p.store p.at p.fits p.held

pub own_box : {D : Type 0} → (h : Option History) (v : StoreValue D) (k : ℕ) (b : OpenBox) (number : ℕ) (e : BoxEntry) → (p : Placed h v k b number e) → Picked h v.map.store (map_meaning v.map.store p.store.entries).boxes p.store.logs b
own_box h v k b number e p =
    let s = p.store in
    subst (λ (y : OpenBox). Picked h v.map.store (map_meaning v.map.store s.entries).boxes s.logs y) (sym p.here)
    (picked h v.map.store s.entries s.logs s.generation v.root_log v.map_log v.boxes k p.default p.below (store_by h v s) (runs_by h v s.generation s.entries s.logs (s.running p.running)))

-- after the entry it is a store that runs
more_at : {D : Type 0} → (old new : Option History) (v : StoreValue D) (disk : D) (k : ℕ) (d x : OpenBox) (number : ℕ) (e : BoxEntry) (ds : List ℕ) → Placed old v k (slice_index_or v.boxes k d) number e → IsSameBox (slice_index_or v.boxes k d) x
    → x.index.meaning ≡ box_applied e (slice_index_or v.boxes k d).index.meaning → SameButFor (slice_index_or v.boxes k d).log.name old new → ((texts : List (List ℕ)) → Reads (slice_index_or v.boxes k d).log texts old → Reads x.log (texts ++ box_text e ∷ []) new)
    → ds ≡ dues_by (due_change_of (slice_index_or v.boxes k d).index.meaning e) v.map.records v.dues → IsStore new (record v { disk = disk; boxes = slice_set v.boxes k x; dues = ds })
more_at old new v disk k d x number e ds p same index others added dues =
    let s = p.store in
    let n : MapMeaning = map_meaning v.map.store s.entries in
    let b : OpenBox = slice_index_or v.boxes k d in
    let by = store_by old v s in
    let runs = runs_by old v s.generation s.entries s.logs (s.running p.running) in
    let fits : FitsIn b.number.0 e n.boxes s.logs = subst (λ (j : ℕ). FitsIn j e n.boxes s.logs) (sym p.number_is) (fits_logs old v k b number e p) in
    let made = made_there old v k b number e p in
    let counts : All (IsCounted (logs_by b.number.0 e n.boxes s.logs)) n.records = subst (λ (j : ℕ). All (IsCounted (logs_by j e n.boxes s.logs)) n.records) (sym p.number_is) (enough_there old v k b number e p) in
    let more = store_more v.map.store s.entries s.logs s.generation v.map_log v.boxes k d x e p.below by p.in_range fits made counts same index in
    let ran = runs_more old new v.map.store s.entries s.logs s.generation v.root_log v.map_log v.boxes k d x e p.below by runs s.root_name p.in_range fits made same others added counts in
    let cover = covered old v number b.index.meaning e ds s p.at p.fits p.held dues in
    let q : Picked old v.map.store n.boxes s.logs b = own_box old v k b number e p in
    let no_mail : (mail : ℕ) → file.Mail mail ≢ b.log.name = λ mail w. absurd (let x : file.Mail mail ≡ file.Box q.box.number q.box.generation = w ∙ q.name in cc x) in
    record {
      entries = s.entries;
      logs = logs_by b.number.0 e n.boxes s.logs;
      generation = s.generation;
      good = more.good;
      map_is = s.map_is;
      boxes_are = more.boxes_are;
      counts = subst (λ (j : ℕ). CoverDues (logs_by j e n.boxes s.logs) v.map.records ds) (sym p.number_is) cover;
      drawn = s.drawn;
      files = s.files;
      root_name = s.root_name;
      root_head = s.root_head;
      map_name = s.map_name;
      map_head = s.map_head;
      box_logs = subst (λ (q : MapMeaning). AreBoxLogs v.map.store q.boxes (slice_set v.boxes k x)) (sym s.map_is) more.box_logs;
      some_lanes = s.some_lanes;
      few_lanes = s.few_lanes;
      running = λ runs. record {
        opens = ran.opens;
        root = ran.root;
        root_entries = ran.root_entries;
        root_log_reads = ran.root_log_reads;
        map_log_reads = ran.map_log_reads;
        box_logs_read = ran.box_logs_read;
        files_known = known_beside b.log.name v.files.files old new no_mail others (s.running p.running).files_known;
        files_stay = stay_beside b.log.name v.files.files v.map.records old new no_mail others (s.running p.running).files_stay;
      };
    }

pub store_there : {D : Type 0} → (old new : Option History) (v : StoreValue D) (disk : D) (k : ℕ) (b x : OpenBox) (number : ℕ) (e : BoxEntry) (ds : List ℕ) → (p : Placed old v k b number e) → IsSameBox b x → x.index.meaning ≡ box_applied e b.index.meaning
    → SameButFor b.log.name old new → ((texts : List (List ℕ)) → Reads b.log texts old → Reads x.log (texts ++ box_text e ∷ []) new) → ds ≡ dues_by (due_change_of b.index.meaning e) v.map.records v.dues → IsStore new (record v { disk = disk; boxes = slice_set v.boxes k x; dues = ds })
store_there old new v disk k b x number e ds p =
    subst (λ (y : OpenBox). Placed old v k y number e → IsSameBox y x → x.index.meaning ≡ box_applied e y.index.meaning → SameButFor y.log.name old new → ((texts : List (List ℕ)) → Reads y.log texts old → Reads x.log (texts ++ box_text e ∷ []) new)
    → ds ≡ dues_by (due_change_of y.index.meaning e) v.map.records v.dues → IsStore new (record v { disk = disk; boxes = slice_set v.boxes k x; dues = ds })) (sym p.here)
    (more_at old new v disk k p.default x number e ds) p

-- where the append failed, it is a store that is stopped
pub stopped_there : {D : Type 0} → (old new : Option History) (v : StoreValue D) (disk : D) (k : ℕ) (b x : OpenBox) (number : ℕ) (e : BoxEntry) → (p : Placed old v k b number e) → IsSameBox b x → x.index.meaning ≡ b.index.meaning
    → IsStore new (record v { disk = disk; boxes = slice_set v.boxes k x; stopped = true })
stopped_there old new v disk k b x number e p same index =
    let s = p.store in record {
      entries = s.entries;
      logs = s.logs;
      generation = s.generation;
      good = s.good;
      map_is = s.map_is;
      boxes_are = indexes_kept k p.default x v.boxes (index ∙ ap (λ (y : OpenBox). y.index.meaning) p.here) ∙ s.boxes_are;
      counts = s.counts;
      drawn = s.drawn;
      files = s.files;
      root_name = s.root_name;
      root_head = s.root_head;
      map_name = s.map_name;
      map_head = s.map_head;
      box_logs = box_logs_set v.map.store k p.default x v.map.boxes v.boxes s.box_logs p.below (subst (λ (y : OpenBox). IsSameBox y x) p.here same);
      some_lanes = s.some_lanes;
      few_lanes = s.few_lanes;
      running = λ runs. absurd (cc runs);
    }
