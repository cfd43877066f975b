-- A store with one entry more in the map log, by which a draft is the log of its mailbox.
use Rattle.store_core.proofs.Common.{inl, inr, ◌≡◌, ◌≢◌, ◌<◌, ◌≤◌, ◌+◌, ◌==◌, ℕ, Bool, true, false, if◌then◌else◌, List, [], ◌∷◌, ◌++◌, map, find, length, slice_set, slice_index_or, Option, Some, None, All, refl, sym, ◌∙◌, ap, subst, arith, map-append, All-nil, All-head, All-tail, All-weaker, All-contains, sum_by, count_by}
use Rattle.store_core.proofs.Common.{Files, DiskState, History, IfTold, SameButFor, reading, FileName, if_told-map, LogState, IsSameLog, IsLogHeld, IsLogRead, Reads, Holds, BoxEntry, MapEntry, BoxNo, HasOneMore, Lists, box_text, map_text, MapInRange, IsLogFile, LogHead, map_more, BoxMeaning, box_meaning, rows_after, MapFits}
use Rattle.store_core.proofs.Common.{MapRecord, MapBox, MapMeaning, map_meaning, map_applied, map_same, root_same, AreGoodLogs, Opens, IsCounted, HasItsRecord, files_of, IsSettled, IsSettledFor, Leaves, HasBox, AddsText, LiesBelowEnd, AreBoxLogs, IsRunning, CoverDues, IsUpTo, IsStore, StoreValue, indexes_of}
use Rattle.store_core.proofs.Common.{OpenBox, listed_of, due_at, leak_at, head_of, equal_is, meaning_numbered, Highest, HasEntryRoom, entry_room, false≢true, eq-eqb}
use Rattle.std.specs.Prelude.{IsTrue, is_some, slice_get}
use Rattle.std.specs.Option.{option_map}
use Rattle.std.proofs.lemmas.List.Elements.{All-set}
use Rattle.disk_model.specs.declared.name.FileName.TheVariants as file
use Rattle.mdbox_base.specs.declared.entries.MapEntry.TheVariants as entry
use Rattle.model_appends.specs.MapAppending.{IsMapAppend}
use Rattle.model_logs.specs.declared.log_head.LogKind.TheVariants as kind
use Rattle.model_logs.proofs.EntryLemmas.{box_one}
use Rattle.model_logs.specs.Entries.{BoxInRange}
use Rattle.model_meaning.proofs.AppliedLemmas.{records_by_generation, boxes_by_generation}
use Rattle.model_meaning.proofs.MapSoundLemmas.{map_sound}
use Rattle.model_meaning.specs.MapMeaning.{box_at}
use Rattle.model_meaning.specs.SameMeaning.{MeansSame}
use Rattle.model_octets.proofs.SearchLemmas.{found_none, found_one}
use Rattle.model_store.proofs.SettledLemmas.{log_in}
use Rattle.model_store.proofs.StandsLemmas.{log_same}
use Rattle.model_store.specs.Opening.{AreBoxEntries, PassBoxes}
use Rattle.model_store.specs.Stands.{AreListed, HasLog}
use Rattle.model_rewritten.specs.Switched.{list_switched, log_switched}
use Rattle.model_rewritten.proofs.SwitchLemmas.{leaves_switched, same_append, switch_append}
use Rattle.model_rewritten.proofs.SwitchOpenLemmas.{good_switched, means_switched, opens_switched}
use Rattle.store_core.specs.Drafts.{BoxDraftValue, GivesLists, IsHeldDraft, IsNewer, boxes_with, listed_with, meanings_with}
use Rattle.store_core.specs.Value.{list_numbered}
use Rattle.store_core.proofs.BoxAppendLemmas.{disk_more, is_log, root_stays, store_sound}
use Rattle.store_core.proofs.BoxCrashLemmas.{ReadsImage}
use Rattle.store_core.proofs.DueLemmas.{AreNumbers, at_own_place, dues_each, listed_meant}
use Rattle.store_core.proofs.EntryFileLemmas.{kept_applied, stay_applied}
use Rattle.store_core.proofs.LookupLemmas.{none_at}
use Rattle.store_core.proofs.PlacingLemmas.{number_at}
use Rattle.store_core.proofs.MailChangeLemmas.{known_beside, stay_beside}
use Rattle.store_core.proofs.MapAppendLemmas.{boxes_read}
use Rattle.store_core.proofs.MapCrashLemmas.{held_map}
use Rattle.store_core.proofs.NamingLemmas.{Appends, leaves_by, settled_by}
use Rattle.store_core.proofs.PickingLemmas.{reads_other}
use Rattle.store_core.proofs.ReplacedLogLemmas.{boxes_set, covered_counted, logs_set, meanings_are, meanings_set, read_set, refs_counted, meanings_stay}
use Rattle.store_core.proofs.UnneededLogLemmas.{map_known}

-- the entry that names a draft
abbrev pub switching : BoxDraftValue → MapEntry
switching draft = entry.G draft.number draft.generation

-- A draft that was synced can be put in force: in the place of the log of this mailbox, which stands there.
pub record CanSwitch {D : Type 0} (h : Option History) (v : StoreValue D) (draft : BoxDraftValue) (b : OpenBox) (place : ℕ) : Type 0 where
  pub store : IsStore h v
  pub running : v.stopped ≡ false
  pub draft_held : IsHeldDraft h draft v
  pub box : MapBox
  pub found : box_at v.map draft.number.0 ≡ Some box
  pub number : b.number ≡ draft.number
  pub log : b.log ≡ draft.log
  pub index : b.index ≡ draft.index
  pub below : place < length v.boxes
  pub at : (slice_index_or v.boxes place b).number.0 ≡ draft.number.0
  pub counts : All (λ row. listed_with draft row.uid v + due_at row.uid v + leak_at row.uid v ≤ row.count) v.map.records

-- the entries of the draft, and the logs in which it stands
abbrev pub own_log : {D : Type 0} → (h : Option History) (v : StoreValue D) (draft : BoxDraftValue) → IsHeldDraft h draft v → List BoxEntry
own_log h v draft d = d.drafted.entries

abbrev later : {D : Type 0} → (h : Option History) (v : StoreValue D) (draft : BoxDraftValue) (b : OpenBox) (place : ℕ) → CanSwitch h v draft b place → List (List BoxEntry)
later h v draft b place c = log_switched draft.number.0 c.draft_held.drafted.entries v.map.boxes c.store.logs

-- ---- the entry fits

in_range_there : {D : Type 0} → (v : StoreValue D) (draft : BoxDraftValue) → IsNewer draft.number.0 draft.generation v → MapInRange (switching draft)
in_range_there v draft n = (let a = n.is_number.high in omega (arith, a), let b = n.is_generation.high in omega (arith, b))

earlier : {D : Type 0} → (v : StoreValue D) (draft : BoxDraftValue) (box : MapBox) → IsNewer draft.number.0 draft.generation v → box_at v.map draft.number.0 ≡ Some box → (box.number ≡ draft.number.0) × (box.generation < draft.generation)
earlier v draft box n found =
    let there = found_one (λ (b : MapBox). b.number == draft.number.0) v.map.boxes box found in
    let is : box.number ≡ draft.number.0 = equal_is box.number draft.number.0 there.1 in
    (is, All-contains (λ (b : MapBox). b.number ≡ draft.number.0 → b.generation < draft.generation) v.map.boxes box n.later there.0 is)

pub fits_now : {D : Type 0} → (h : Option History) (v : StoreValue D) (draft : BoxDraftValue) (b : OpenBox) (place : ℕ) → CanSwitch h v draft b place → MapFits v.map (switching draft)
fits_now h v draft b place c =
    let n = c.draft_held.drafted.newer in
    (n.is_number, n.is_generation, (c.box, c.found, (earlier v draft c.box n c.found).1))

fits_there : {D : Type 0} → (h : Option History) (v : StoreValue D) (draft : BoxDraftValue) (b : OpenBox) (place : ℕ) → (c : CanSwitch h v draft b place) → MapFits (map_meaning v.map.store c.store.entries) (switching draft)
fits_there h v draft b place c = subst (λ (m : MapMeaning). MapFits m (switching draft)) c.store.map_is (fits_now h v draft b place c)

meant : {D : Type 0} → (h : Option History) (v : StoreValue D) (draft : BoxDraftValue) (b : OpenBox) (place : ℕ) → (c : CanSwitch h v draft b place) → map_applied (switching draft) v.map ≡ map_meaning v.map.store (c.store.entries ++ switching draft ∷ [])
meant h v draft b place c = ap (map_applied (switching draft)) c.store.map_is ∙ sym (map_more v.map.store c.store.entries (switching draft))

pub same_means : {D : Type 0} → (h : Option History) (v : StoreValue D) (draft : BoxDraftValue) (b : OpenBox) (place : ℕ) → CanSwitch h v draft b place → MeansSame v.map (map_applied (switching draft) v.map)
same_means h v draft b place c =
    subst (λ (n : MapMeaning). MeansSame v.map n) (sym (meant h v draft b place c))
    (subst (λ (m : MapMeaning). MeansSame m (map_meaning v.map.store (c.store.entries ++ switching draft ∷ []))) (sym c.store.map_is)
    (means_switched v.map.store c.store.entries draft.number draft.generation c.store.good.map_entries (fits_there h v draft b place c)))

-- ---- the counts

-- what is listed with the draft
pub listed_then : {D : Type 0} → (h : Option History) (v : StoreValue D) (draft : BoxDraftValue) (uid : ℕ) → (d : IsHeldDraft h draft v) → (s : IsStore h v) → listed_with draft uid v ≡ listed_of (log_switched draft.number.0 d.drafted.entries v.map.boxes s.logs) uid
listed_then h v draft uid d s =
    ap (in_meanings uid) (ap (λ (m : BoxMeaning). meanings_with draft.number.0 m v.map.boxes (indexes_of v.boxes)) d.drafted.means ∙ ap (meanings_with draft.number.0 (box_meaning d.drafted.entries) v.map.boxes) s.boxes_are
    ∙ meanings_are draft.number.0 d.drafted.entries v.map.boxes s.logs)
    ∙ listed_meant uid (log_switched draft.number.0 d.drafted.entries v.map.boxes s.logs)
  where
    in_meanings : ℕ → List BoxMeaning → ℕ
    in_meanings uid meanings = sum_by (λ m. count_by (λ row. row.map_uid == uid) m.rows) meanings

cover_with : (due with leak : ℕ → ℕ) (logs : List (List BoxEntry)) (rows : List MapRecord) (dues : List ℕ) → ((uid : ℕ) → with uid ≡ listed_of logs uid) → AreNumbers due rows dues → All (λ row. with row.uid + due row.uid + leak row.uid ≤ row.count) rows → CoverDues logs rows dues
cover_with due with leak logs [] [] same numbers enough = tt
cover_with due with leak logs [] (n ∷ ns) same numbers enough = absurd numbers
cover_with due with leak logs (r ∷ rs) [] same numbers enough = absurd numbers
cover_with due with leak logs (r ∷ rs) (n ∷ ns) same numbers enough = (
  (let a = same r.uid in let d = numbers.0 in let e = All-head (λ (row : MapRecord). with row.uid + due row.uid + leak row.uid ≤ row.count) r rs enough in omega (arith, a, d, e)),
  cover_with due with leak logs rs ns same numbers.1 (All-tail (λ (row : MapRecord). with row.uid + due row.uid + leak row.uid ≤ row.count) r rs enough),
)

covered : {D : Type 0} → (h : Option History) (v : StoreValue D) (draft : BoxDraftValue) (b : OpenBox) (place : ℕ) → (c : CanSwitch h v draft b place) → CoverDues (later h v draft b place c) v.map.records v.dues
covered h v draft b place c =
    cover_with (λ uid. due_at uid v) (λ uid. listed_with draft uid v) (λ uid. leak_at uid v) (later h v draft b place c) v.map.records v.dues (λ uid. listed_then h v draft uid c.draft_held c.store)
    (at_own_place v.map.records v.dues (store_sound h v c.store).rising (dues_each c.store.logs v.map.records v.dues c.store.counts)) c.counts

counted_now : {D : Type 0} → (h : Option History) (v : StoreValue D) (draft : BoxDraftValue) (b : OpenBox) (place : ℕ) → (c : CanSwitch h v draft b place) → All (IsCounted (later h v draft b place c)) v.map.records
counted_now h v draft b place c = covered_counted (later h v draft b place c) v.map.records v.dues (covered h v draft b place c)

counted_there : {D : Type 0} → (h : Option History) (v : StoreValue D) (draft : BoxDraftValue) (b : OpenBox) (place : ℕ) → (c : CanSwitch h v draft b place)
    → All (IsCounted (log_switched draft.number.0 c.draft_held.drafted.entries (map_meaning v.map.store c.store.entries).boxes c.store.logs)) (map_meaning v.map.store c.store.entries).records
counted_there h v draft b place c = subst (λ (m : MapMeaning). All (IsCounted (log_switched draft.number.0 c.draft_held.drafted.entries m.boxes c.store.logs)) m.records) c.store.map_is (counted_now h v draft b place c)

records_now : {D : Type 0} → (h : Option History) (v : StoreValue D) (draft : BoxDraftValue) → (d : IsHeldDraft h draft v) → All (HasItsRecord v.map) (rows_after d.drafted.entries)
records_now h v draft d = subst (λ (m : BoxMeaning). All (HasItsRecord v.map) m.rows) d.drafted.means d.drafted.records

records_there : {D : Type 0} → (h : Option History) (v : StoreValue D) (draft : BoxDraftValue) (b : OpenBox) (place : ℕ) → (c : CanSwitch h v draft b place) → All (HasItsRecord (map_meaning v.map.store c.store.entries)) (rows_after c.draft_held.drafted.entries)
records_there h v draft b place c = subst (λ (m : MapMeaning). All (HasItsRecord m) (rows_after c.draft_held.drafted.entries)) c.store.map_is (records_now h v draft c.draft_held)

good_there : {D : Type 0} → (h : Option History) (v : StoreValue D) (draft : BoxDraftValue) (b : OpenBox) (place : ℕ) → (c : CanSwitch h v draft b place) → AreGoodLogs v.map.store (c.store.entries ++ switching draft ∷ []) (later h v draft b place c)
good_there h v draft b place c =
    subst (λ (m : MapMeaning). AreGoodLogs v.map.store (c.store.entries ++ switching draft ∷ []) (log_switched draft.number.0 c.draft_held.drafted.entries m.boxes c.store.logs)) (sym c.store.map_is)
    (good_switched v.map.store c.store.entries c.store.logs draft.number draft.generation c.draft_held.drafted.entries c.store.good (in_range_there v draft c.draft_held.drafted.newer) (fits_there h v draft b place c) c.draft_held.drafted.good
    (records_there h v draft b place c) (counted_there h v draft b place c))

-- ---- the draft is there

box_there : (disk : DiskState) (store : List ℕ) (log : LogState) (entries : List BoxEntry) (k : BoxNo) (g : ℕ) (box : MapBox) → log.name ≡ file.Box k.0 g → log.head ≡ head_of store kind.Box k.0 g → box.number ≡ k.0 → AreBoxEntries entries → IsLogRead log (map box_text entries) disk
    → HasBox (files_of disk) store (record box { generation = g }) entries
box_there disk store log entries k g box name head number good r =
    let is : IsLogFile (reading (disk (file.Box k.0 g))) (head_of store kind.Box k.0 g) (map box_text entries) =
    subst (λ (h : LogHead). IsLogFile (reading (disk (file.Box k.0 g))) h (map box_text entries)) head (subst (λ (n : FileName). IsLogFile (reading (disk n)) log.head (map box_text entries)) name (is_log log (map box_text entries) disk r)) in
    let o = log_in (reading (disk (file.Box k.0 g))) (head_of store kind.Box k.0 g) (map box_text entries) is in
    record {
      log = subst (λ (n : ℕ). HasLog (files_of disk) (file.Box n g) (head_of store kind.Box n g) (map box_text entries)) (sym number) (record { octets = o.0; there = o.1; whole = o.2 });
      in_range = good.0;
      fit = good.1;
    }

draft_there : {D : Type 0} → (h : Option History) (disk : DiskState) (v : StoreValue D) (draft : BoxDraftValue) (b : OpenBox) (place : ℕ) (store : List ℕ) → (c : CanSwitch h v draft b place) → v.map.store ≡ store → IsLogHeld draft.log (map box_text c.draft_held.drafted.entries) disk
    → HasBox (files_of disk) store (record c.box { generation = draft.generation }) c.draft_held.drafted.entries
draft_there h disk v draft b place store c same held =
    let d = c.draft_held.drafted in
    box_there disk store draft.log d.entries draft.number draft.generation c.box d.name (d.head ∙ ap (λ (id : List ℕ). head_of id kind.Box draft.number.0 draft.generation) same) (earlier v draft c.box d.newer c.found).0 d.good held.reads

-- ---- the store

opens_then : {D : Type 0} → (old new : Option History) (v : StoreValue D) (draft : BoxDraftValue) (b : OpenBox) (place : ℕ) (log : LogState) → (c : CanSwitch old v draft b place) → IsSameLog v.map_log log → SameButFor v.map_log.name old new
    → ((texts : List (List ℕ)) → Reads v.map_log texts old → Reads log (texts ++ map_text (switching draft) ∷ []) new) → IfTold new (λ now. Opens (files_of now) v.map.store (c.store.entries ++ switching draft ∷ []) (later old v draft b place c))
opens_then None new v draft b place log c same others added = subst (λ (h : Option History). IfTold h (λ now. Opens (files_of now) v.map.store (c.store.entries ++ switching draft ∷ []) (later None v draft b place c))) (sym others) tt
opens_then (Some old) None v draft b place log c same others added = absurd others
opens_then (Some old) (Some new) v draft b place log c same others added =
    let s = c.store in
    let runs = s.running c.running in
    let o : Opens (files_of old.now) v.map.store s.entries s.logs = runs.opens in
    let at : v.map_log.name ≡ file.Map o.passed.map_log.generation = s.map_name ∙ ap (λ (n : ℕ). file.Map n) (root_same (files_of old.now) v.map.store v.map.store s.generation o.passed.map_log.generation runs.root o.passed.map_log.root).1 in
    subst (λ (m : MapMeaning). Opens (files_of new.now) v.map.store (s.entries ++ switching draft ∷ []) (log_switched draft.number.0 c.draft_held.drafted.entries m.boxes s.logs)) (sym s.map_is)
    (opens_switched (files_of old.now) (files_of new.now) v.map.store s.entries s.logs draft.number draft.generation c.box c.draft_held.drafted.entries o (in_range_there v draft c.draft_held.drafted.newer) (fits_there (Some old) v draft b place c)
    (subst (λ (m : MapMeaning). box_at m draft.number.0 ≡ Some c.box) s.map_is c.found) (draft_there (Some old) old.now v draft b place v.map.store c refl c.draft_held.held) (records_there (Some old) v draft b place c) (counted_there (Some old) v draft b place c)
    (λ other apart. ap reading (others other (λ p. apart (p ∙ at))))
    (subst (λ (n : FileName). HasOneMore (map_text (switching draft)) (reading (old.now n)) (reading (new.now n))) at
    (disk_more v.map_log log (map map_text s.entries) (map_text (switching draft)) old.now new.now same.name same.head runs.map_log_reads (added (map map_text s.entries) runs.map_log_reads))))

-- the store in which the draft is in force
abbrev pub with_draft : {D : Type 0} → StoreValue D → D → LogState → BoxDraftValue → OpenBox → ℕ → StoreValue D
with_draft v disk log draft b place = record v { disk = disk; map_log = log; map = map_applied (switching draft) v.map; boxes = slice_set v.boxes place b }

runs_then : {D : Type 0} → (old new : Option History) (v : StoreValue D) (disk : D) (draft : BoxDraftValue) (b : OpenBox) (place : ℕ) (log : LogState) → (c : CanSwitch old v draft b place) → IsSameLog v.map_log log → SameButFor v.map_log.name old new
    → ((texts : List (List ℕ)) → Reads v.map_log texts old → Reads log (texts ++ map_text (switching draft) ∷ []) new) → IsRunning new c.store.generation (with_draft v disk log draft b place) (c.store.entries ++ switching draft ∷ []) (later old v draft b place c)
runs_then old new v disk draft b place log c same others added =
    let s = c.store in
    let e : MapEntry = switching draft in
    let runs = s.running c.running in
    let others_map : SameButFor (file.Map s.generation) old new = subst (λ (n : FileName). SameButFor n old new) s.map_name others in
    let no_mail : (mail : ℕ) → file.Mail mail ≢ v.map_log.name = λ mail q. absurd (let p : file.Mail mail ≡ file.Map s.generation = q ∙ s.map_name in cc p) in
    let no_box : draft.log.name ≢ v.map_log.name = λ q. absurd (let p : file.Box draft.number.0 draft.generation ≡ file.Map s.generation = sym c.draft_held.drafted.name ∙ q ∙ s.map_name in cc p) in
    let read : Reads draft.log (map box_text c.draft_held.drafted.entries) new = reads_other v.map_log.name draft.log (map box_text c.draft_held.drafted.entries) old new others no_box
    (if_told-map (IsLogHeld draft.log (map box_text c.draft_held.drafted.entries)) (IsLogRead draft.log (map box_text c.draft_held.drafted.entries)) old (λ disk h. h.reads) c.draft_held.held) in
    record {
      opens = opens_then old new v draft b place log c same others added;
      root = root_stays v.map_log.name v.map.store s.generation old new others (λ q. absurd (let p : file.Root ≡ file.Map s.generation = q ∙ s.map_name in cc p)) runs.root;
      root_entries = runs.root_entries;
      root_log_reads = reads_other v.map_log.name v.root_log runs.root_entries old new others (λ q. absurd (let p : file.Root ≡ file.Map s.generation = sym s.root_name ∙ q ∙ s.map_name in cc p)) runs.root_log_reads;
      map_log_reads = subst (λ (texts : List (List ℕ)). Reads log texts new) (sym (map-append map_text s.entries (e ∷ []))) (added (map map_text s.entries) runs.map_log_reads);
      box_logs_read = read_set v.map.store draft.number.0 place b b c.draft_held.drafted.entries new v.map.boxes v.boxes s.logs (store_sound old v s).boxes_rising s.box_logs c.below c.at
          (subst (λ (l : LogState). Reads l (map box_text c.draft_held.drafted.entries) new) (sym c.log) read) (boxes_read s.generation v.map.store v.map.boxes v.boxes s.logs old new s.box_logs others_map runs.box_logs_read);
      files_known = known_beside v.map_log.name v.files.files old new no_mail others runs.files_known;
      files_stay = if_told-map _ _ new (λ disk stay. stay_applied v.files.files v.map e disk tt stay) (stay_beside v.map_log.name v.files.files v.map.records old new no_mail others runs.files_stay);
    }

pub indexes_then : {D : Type 0} → (h : Option History) (v : StoreValue D) (draft : BoxDraftValue) (b : OpenBox) (place : ℕ) → CanSwitch h v draft b place → indexes_of (slice_set v.boxes place b) ≡ meanings_with draft.number.0 draft.index.meaning v.map.boxes (indexes_of v.boxes)
indexes_then h v draft b place c =
    meanings_set v.map.store draft.number.0 place b b v.map.boxes v.boxes (store_sound h v c.store).boxes_rising c.store.box_logs c.below c.at ∙ ap (λ (i : _). meanings_with draft.number.0 i.meaning v.map.boxes (indexes_of v.boxes)) c.index

pub indexes_stay : {D : Type 0} → (h : Option History) (v : StoreValue D) (draft : BoxDraftValue) (b : OpenBox) (place : ℕ) → CanSwitch h v draft b place → list_numbered v draft.number.0 ≡ Some draft.index.meaning → indexes_of (slice_set v.boxes place b) ≡ indexes_of v.boxes
indexes_stay h v draft b place c stays = indexes_then h v draft b place c ∙ meanings_stay draft.number.0 draft.index.meaning v.map.boxes (indexes_of v.boxes) (store_sound h v c.store).boxes_rising stays

pub store_then : {D : Type 0} → (old new : Option History) (v : StoreValue D) (disk : D) (draft : BoxDraftValue) (b : OpenBox) (place : ℕ) (log : LogState) → CanSwitch old v draft b place → IsSameLog v.map_log log → SameButFor v.map_log.name old new
    → ((texts : List (List ℕ)) → Reads v.map_log texts old → Reads log (texts ++ map_text (switching draft) ∷ []) new) → IsStore new (with_draft v disk log draft b place)
store_then old new v disk draft b place log c same others added =
    let s = c.store in
    let d = c.draft_held.drafted in
    let e : MapEntry = switching draft in
    record {
      entries = s.entries ++ e ∷ [];
      logs = later old v draft b place c;
      generation = s.generation;
      good = good_there old v draft b place c;
      map_is = meant old v draft b place c;
      boxes_are = indexes_then old v draft b place c ∙ ap (λ (m : BoxMeaning). meanings_with draft.number.0 m v.map.boxes (indexes_of v.boxes)) d.means ∙ ap (meanings_with draft.number.0 (box_meaning d.entries) v.map.boxes) s.boxes_are ∙ meanings_are draft.number.0 d.entries v.map.boxes s.logs;
      counts = subst (λ (rows : List MapRecord). CoverDues (later old v draft b place c) rows v.dues) (sym (records_by_generation draft.number draft.generation v.map.records)) (covered old v draft b place c);
      drawn = subst (λ (x : Highest). IsUpTo v.drawn x) (sym (same_means old v draft b place c).highest) s.drawn;
      files = kept_applied v.files v.drawn v.drawn v.map e tt refl (All-nil (LiesBelowEnd v.map.store v.files.files)) s.files;
      root_name = s.root_name;
      root_head = s.root_head;
      map_name = same.name ∙ s.map_name;
      map_head = same.head ∙ s.map_head;
      box_logs = subst (λ (bs : List MapBox). AreBoxLogs v.map.store bs (slice_set v.boxes place b)) (sym (boxes_by_generation draft.number draft.generation v.map.boxes))
          (logs_set v.map.store draft.number draft.generation place b b v.map.boxes v.boxes (store_sound old v s).boxes_rising s.box_logs c.below c.at (ap (λ (n : BoxNo). n.0) c.number) (ap (λ (l : LogState). l.name) c.log ∙ d.name) (ap (λ (l : LogState). l.head) c.log ∙ d.head));
      some_lanes = s.some_lanes;
      few_lanes = s.few_lanes;
      running = λ runs. runs_then old new v disk draft b place log c same others added;
    }

-- ---- what a crash leaves

-- what the log in force means
means_old : (a : Files) (m : MapMeaning) (k : ℕ) (box : MapBox) (x : BoxMeaning) (boxes : List MapBox) (logs : List (List BoxEntry)) → PassBoxes a m boxes logs → find (λ b. b.number == k) boxes ≡ Some box → meaning_numbered k boxes (map box_meaning logs) ≡ Some x
    → (old : List BoxEntry) → HasBox a m.store box old → x ≡ box_meaning old
means_old a m k box x [] [] p found is old has = absurd (cc found)
means_old a m k box x [] (l ∷ ls) p found is old has = absurd (cc found)
means_old a m k box x (b ∷ bs) [] p found is old has = absurd p
means_old a m k box x (b ∷ bs) (l ∷ ls) p found is old has = by_test (b.number == k) found is (means_old a m k box x bs ls p.1)
  where
    by_test : (t : Bool) → (if t then Some b else find (λ c. c.number == k) bs) ≡ Some box → (if t then Some (box_meaning l) else meaning_numbered k bs (map box_meaning ls)) ≡ Some x
        → (find (λ c. c.number == k) bs ≡ Some box → meaning_numbered k bs (map box_meaning ls) ≡ Some x → (other : List BoxEntry) → HasBox a m.store box other → x ≡ box_meaning other) → x ≡ box_meaning old
    by_test true f g rest =
        let same : b ≡ box = cc f in
        let here : HasBox a m.store box l = subst (λ (o : MapBox). HasBox a m.store o l) same p.0.log in
        let one : l ≡ old = (log_same box_text BoxInRange (box_one 2) a _ _ _ l old here.in_range has.in_range here.log has.log).1 in
        let meaning : box_meaning l ≡ x = cc g in
        sym meaning ∙ ap box_meaning one
    by_test false f g rest = rest f g old has

replaces : {D : Type 0} → (old : History) (v : StoreValue D) (draft : BoxDraftValue) (b : OpenBox) (place : ℕ) (lists after : Lists) (s : IsSettled old.now lists) → CanSwitch (Some old) v draft b place → ReadsImage old.now → GivesLists draft v (Some old) lists after
    → Appends old lists after s v.map_log (switching draft)
replaces old v draft b place lists after s c own gives =
    let runs = c.store.running c.running in
    let d = c.draft_held.drafted in
    let g : ℕ = s.safe.stands.map_log.generation in
    let one = map_same (files_of old.now) v.map.store s.store c.store.entries s.entries runs.opens.passed.map_log s.safe.stands.map_log in
    let is : v.map_log.name ≡ file.Map g = c.store.map_name ∙ ap (λ (n : ℕ). file.Map n) (root_same (files_of old.now) v.map.store s.store c.store.generation g runs.root s.safe.stands.map_log.root).1 in
    let known : v.map ≡ map_meaning s.store s.entries = map_known old v lists s c.store c.running in
    let opens : Opens (files_of old.now) s.store s.entries c.store.logs =
    subst (λ (es : List MapEntry). Opens (files_of old.now) s.store es c.store.logs) one.1 (subst (λ (id : List ℕ). Opens (files_of old.now) id c.store.entries c.store.logs) one.0 runs.opens) in
    let has : HasBox (files_of old.now) s.store (record c.box { generation = draft.generation }) d.entries = draft_there (Some old) old.now v draft b place s.store c one.0 c.draft_held.held in
    let found : box_at (map_meaning s.store s.entries) draft.number.0 ≡ Some c.box = subst (λ (m : MapMeaning). box_at m draft.number.0 ≡ Some c.box) known c.found in
    let fits : MapFits (map_meaning s.store s.entries) (switching draft) = subst (λ (m : MapMeaning). MapFits m (switching draft)) known (fits_now (Some old) v draft b place c) in
    let range : MapInRange (switching draft) = in_range_there v draft d.newer in
    let counts : All (IsCounted (log_switched draft.number.0 d.entries (map_meaning s.store s.entries).boxes c.store.logs)) (map_meaning s.store s.entries).records =
    subst (λ (m : MapMeaning). All (IsCounted (log_switched draft.number.0 d.entries m.boxes c.store.logs)) m.records) known (counted_now (Some old) v draft b place c) in
    let records : All (HasItsRecord (map_meaning s.store s.entries)) (rows_after d.entries) = subst (λ (m : MapMeaning). All (HasItsRecord m) (rows_after d.entries)) known (records_now (Some old) v draft c.draft_held) in
    record {
      texts = map map_text c.store.entries;
      append = by_lists opens has found fits range counts records known gives;
      alike = leaves_switched old.now lists draft.number draft.generation s (λ image i.
          subst (λ (n : FileName). image n ≡ files_of old.now n) d.name ((c.draft_held.held.keeps.leaves (image draft.log.name)).0 (i draft.log.name) ∙ sym c.draft_held.held.keeps.reads));
      log_name = is;
      held = held_map old.now lists s v.map_log (map map_text c.store.entries) own is runs.map_log_reads;
    }
  where
    m : MapMeaning
    m = map_meaning s.store s.entries

    by_lists : Opens (files_of old.now) s.store s.entries c.store.logs → HasBox (files_of old.now) s.store (record c.box { generation = draft.generation }) c.draft_held.drafted.entries → box_at m draft.number.0 ≡ Some c.box → MapFits m (switching draft)
        → MapInRange (switching draft) → All (IsCounted (log_switched draft.number.0 c.draft_held.drafted.entries m.boxes c.store.logs)) m.records → All (HasItsRecord m) (rows_after c.draft_held.drafted.entries) → v.map ≡ m
        → GivesLists draft v (Some old) lists after → IsMapAppend (files_of old.now) s.store s.entries lists after (switching draft)
    by_lists opens has found fits range counts records known (inl given) =
        let d = c.draft_held.drafted in
        let listed : AreListed (files_of old.now) m (rows_after d.entries) given.0 = subst (λ (x : BoxMeaning). AreListed (files_of old.now) m x.rows given.0) d.means (subst (λ (n : MapMeaning). AreListed (files_of old.now) n draft.index.meaning.rows given.0) known given.1) in
        let next : after ≡ list_switched draft.number.0 (box_meaning d.entries).next given.0 lists = given.2 ∙ ap (λ (x : BoxMeaning). list_switched draft.number.0 x.next given.0 lists) d.means in
        subst (λ (xs : Lists). IsMapAppend (files_of old.now) s.store s.entries lists xs (switching draft)) (sym next)
        (switch_append (files_of old.now) s.store s.entries lists draft.number draft.generation c.box d.entries given.0 s.safe range fits found has listed
        (refs_counted (files_of old.now) s.store s.entries c.store.logs lists draft.number draft.generation c.box d.entries given.0 (map_sound s.store s.entries s.safe.stands.map_log.fit s.safe.stands.map_log.in_range) opens.passed.boxes s.safe.stands.mailboxes found has records listed counts))
    by_lists opens has found fits range counts records known (inr stays) =
        let d = c.draft_held.drafted in
        let at : meaning_numbered draft.number.0 m.boxes (map box_meaning c.store.logs) ≡ Some draft.index.meaning =
        subst (λ (n : MapMeaning). meaning_numbered draft.number.0 n.boxes (map box_meaning c.store.logs) ≡ Some draft.index.meaning) known (subst (λ (ms : List BoxMeaning). meaning_numbered draft.number.0 v.map.boxes ms ≡ Some draft.index.meaning) c.store.boxes_are stays.0) in
        subst (λ (xs : Lists). IsMapAppend (files_of old.now) s.store s.entries lists xs (switching draft)) (sym stays.1)
        (same_append (files_of old.now) s.store s.entries lists draft.number draft.generation c.box d.entries s.safe range fits found has
        (λ before there. sym d.means ∙ means_old (files_of old.now) m draft.number.0 c.box draft.index.meaning m.boxes c.store.logs opens.passed.boxes found at before there))

pub leaves_then : {D : Type 0} → (old new : Option History) (v : StoreValue D) (draft : BoxDraftValue) (b : OpenBox) (place : ℕ) → CanSwitch old v draft b place → IfTold old ReadsImage → AddsText v.map_log (map_text (switching draft)) old new
    → (lists after : Lists) → GivesLists draft v old lists after → IsSettledFor lists old → Leaves lists after old new
leaves_then None new v draft b place c own adds lists after gives settled = absurd settled
leaves_then (Some old) new v draft b place c own adds lists after gives s = leaves_by old new lists after s v.map_log (switching draft) own (replaces old v draft b place lists after s c own gives) adds

pub settled_then : {D : Type 0} → (old new : Option History) (v : StoreValue D) (draft : BoxDraftValue) (b : OpenBox) (place : ℕ) (log : LogState) → CanSwitch old v draft b place → IfTold old ReadsImage → IsSameLog v.map_log log → SameButFor v.map_log.name old new
    → ((texts : List (List ℕ)) → Holds v.map_log texts old → Holds log (texts ++ map_text (switching draft) ∷ []) new) → (lists after : Lists) → GivesLists draft v old lists after → IsSettledFor lists old → IsSettledFor after new
settled_then None new v draft b place log c own same others hold lists after gives settled = absurd settled
settled_then (Some old) None v draft b place log c own same others hold lists after gives settled = absurd others
settled_then (Some old) (Some new) v draft b place log c own same others hold lists after gives s = settled_by old new lists after s v.map_log log (switching draft) own (replaces old v draft b place lists after s c own gives) same others hold

-- ---- by what the call has at hand

abbrev pub draft_of : OpenBox → ℕ → BoxDraftValue
draft_of b g = record { number = b.number; generation = g; log = b.log; index = b.index }

some_box : (o : Option MapBox) → IsTrue (is_some o) → (box : MapBox) × (o ≡ Some box)
some_box None is = absurd (let w : false ≡ true = is in cc w)
some_box (Some box) is = (box, refl)

pub can_switch : {D : Type 0} → (H : D → Option History) (v now : StoreValue D) (b : OpenBox) (g : ℕ) (seen : BoxDraftValue) (found : List OpenBox) (place : ℕ) → IsStore (H v.disk) v → v ≡ now → draft_of b g ≡ seen → now.stopped ≡ false → IsHeldDraft (H now.disk) seen now
    → IsTrue (is_some (box_at now.map seen.number.0)) → All (λ row. listed_with seen row.uid now + due_at row.uid now + leak_at row.uid now ≤ row.count) now.map.records → found ≡ v.boxes
    → (place < length found) × (option_map (λ o. o.number.0) (slice_get found place) ≡ Some b.number.0) → CanSwitch (H v.disk) v (draft_of b g) b place
can_switch H v now b g seen found place s is same running held named counts boxes at =
    let below : place < length v.boxes = subst (λ (bs : List OpenBox). place < length bs) boxes at.0 in
    let there = number_at v.boxes place b b.number.0 below (subst (λ (bs : List OpenBox). option_map (λ (o : OpenBox). o.number.0) (slice_get bs place) ≡ Some b.number.0) boxes at.1) in
    let box = some_box (box_at v.map b.number.0) (subst (λ (x : StoreValue _). IsTrue (is_some (box_at x.map b.number.0))) (sym is) (subst (λ (d : BoxDraftValue). IsTrue (is_some (box_at now.map d.number.0))) (sym same) named)) in
    record {
      store = s;
      running = ap (λ (x : StoreValue _). x.stopped) is ∙ running;
      draft_held = subst (λ (x : StoreValue _). IsHeldDraft (H x.disk) (draft_of b g) x) (sym is) (subst (λ (d : BoxDraftValue). IsHeldDraft (H now.disk) d now) (sym same) held);
      box = box.0;
      found = box.1;
      number = refl;
      log = refl;
      index = refl;
      below = below;
      at = there;
      counts = subst (λ (x : StoreValue _). All (λ row. listed_with (draft_of b g) row.uid x + due_at row.uid x + leak_at row.uid x ≤ row.count) x.map.records) (sym is)
          (subst (λ (d : BoxDraftValue). All (λ row. listed_with d row.uid now + due_at row.uid now + leak_at row.uid now ≤ row.count) now.map.records) (sym same) counts);
    }

-- no mailbox has the number
pub must_be_there : {D : Type 0} → (h : Option History) (v now : StoreValue D) (b : OpenBox) (g : ℕ) (seen : BoxDraftValue) (found : List OpenBox) → IsStore h v → v ≡ now → draft_of b g ≡ seen → IsTrue (is_some (box_at now.map seen.number.0)) → found ≡ v.boxes
    → All (λ o. o.number.0 ≢ b.number.0) found → ⊥
must_be_there h v now b g seen found s is same named boxes none =
    let box = some_box (box_at v.map b.number.0) (subst (λ (x : StoreValue _). IsTrue (is_some (box_at x.map b.number.0))) (sym is) (subst (λ (d : BoxDraftValue). IsTrue (is_some (box_at now.map d.number.0))) (sym same) named)) in
    let no : box_at v.map b.number.0 ≡ None = none_at b.number.0 v.map.store v.map.boxes v.boxes s.box_logs (subst (λ (bs : List OpenBox). All (λ (o : OpenBox). o.number.0 ≢ b.number.0) bs) boxes none) in
    let w : None ≡ Some box.0 = sym no ∙ box.1 in cc w

-- the map log is read
pub read_then : {D : Type 0} → (h : Option History) (v : StoreValue D) (draft : BoxDraftValue) (b : OpenBox) (place : ℕ) → CanSwitch h v draft b place → (texts : List (List ℕ)) × Reads v.map_log texts h
read_then h v draft b place c = (map map_text c.store.entries, (c.store.running c.running).map_log_reads)

-- the entry that the code makes
pub in_range_then : {D : Type 0} → (h : Option History) (v : StoreValue D) (draft : BoxDraftValue) (b : OpenBox) (place : ℕ) → CanSwitch h v draft b place → MapInRange (switching draft)
in_range_then h v draft b place c = in_range_there v draft c.draft_held.drafted.newer

-- the open log of the mailbox is the draft's
pub boxes_then : {D : Type 0} → (h : Option History) (v : StoreValue D) (draft : BoxDraftValue) (b : OpenBox) (place : ℕ) → CanSwitch h v draft b place → slice_set v.boxes place b ≡ boxes_with draft v.boxes
boxes_then h v draft b place c =
    let is : b ≡ record { number = draft.number; log = draft.log; index = draft.index } =
    ap (λ (n : BoxNo). record b { number = n }) c.number ∙ ap (λ (l : LogState). record b { number = draft.number; log = l }) c.log ∙ ap (λ (i : _). record { number = draft.number; log = draft.log; index = i }) c.index in
    boxes_set v.map.store draft.number.0 place b b v.map.boxes v.boxes (store_sound h v c.store).boxes_rising c.store.box_logs c.below c.at
    ∙ ap (λ (o : OpenBox). map (λ (x : OpenBox). if x.number.0 == draft.number.0 then o else x) v.boxes) is

-- its log has room too
pub room_then : {D : Type 0} → (v w : StoreValue D) (b : OpenBox) (place : ℕ) → HasEntryRoom v → w.map_log.room ≡ v.map_log.room → w.boxes ≡ slice_set v.boxes place b → entry_room ≤ b.log.room → HasEntryRoom w
room_then v w b place r same boxes room = record {
  map_log = let a : entry_room ≤ v.map_log.room = r.map_log in omega (arith, a, same);
  box_logs = subst (λ (bs : List OpenBox). All (λ (o : OpenBox). entry_room ≤ o.log.room) bs) (sym boxes) (All-set (λ (o : OpenBox). entry_room ≤ o.log.room) v.boxes place b room r.box_logs);
}

-- the map as the code has it
pub store_put : {D : Type 0} → (old new : Option History) (v : StoreValue D) (disk : D) (draft : BoxDraftValue) (b : OpenBox) (place : ℕ) (log : LogState) (m : MapMeaning) → CanSwitch old v draft b place → m ≡ map_applied (switching draft) v.map → IsSameLog v.map_log log
    → SameButFor v.map_log.name old new → ((texts : List (List ℕ)) → Reads v.map_log texts old → Reads log (texts ++ map_text (switching draft) ∷ []) new) → IsStore new (record v { disk = disk; map_log = log; map = m; boxes = slice_set v.boxes place b })
store_put old new v disk draft b place log m c applied same others added =
    subst (λ (x : MapMeaning). IsStore new (record v { disk = disk; map_log = log; map = x; boxes = slice_set v.boxes place b })) (sym applied) (store_then old new v disk draft b place log c same others added)

-- by what a caller sees of the store and of the draft
pub leaves_seen : {D : Type 0} → (H : D → Option History) (v now : StoreValue D) (draft seen : BoxDraftValue) (new : Option History) → v ≡ now → draft ≡ seen
    → ((lists after : Lists) → GivesLists draft v (H v.disk) lists after → IsSettledFor lists (H v.disk) → Leaves lists after (H v.disk) new)
    → (lists after : Lists) → GivesLists seen now (H now.disk) lists after → IsSettledFor lists (H now.disk) → Leaves lists after (H now.disk) new
leaves_seen H v now draft seen new is same left =
    subst (λ (d : BoxDraftValue). (lists after : Lists) → GivesLists d now (H now.disk) lists after → IsSettledFor lists (H now.disk) → Leaves lists after (H now.disk) new) same
    (subst (λ (x : StoreValue _). (lists after : Lists) → GivesLists draft x (H x.disk) lists after → IsSettledFor lists (H x.disk) → Leaves lists after (H x.disk) new) is left)

pub indexes_seen : {D : Type 0} → (v now : StoreValue D) (draft seen : BoxDraftValue) (b : OpenBox) (place : ℕ) → v ≡ now → draft ≡ seen
    → (list_numbered v draft.number.0 ≡ Some draft.index.meaning → indexes_of (slice_set v.boxes place b) ≡ indexes_of v.boxes)
    → list_numbered now seen.number.0 ≡ Some seen.index.meaning → indexes_of (slice_set v.boxes place b) ≡ indexes_of now.boxes
indexes_seen v now draft seen b place is same stay =
    subst (λ (d : BoxDraftValue). list_numbered now d.number.0 ≡ Some d.index.meaning → indexes_of (slice_set v.boxes place b) ≡ indexes_of now.boxes) same
    (subst (λ (x : StoreValue _). list_numbered x draft.number.0 ≡ Some draft.index.meaning → indexes_of (slice_set v.boxes place b) ≡ indexes_of x.boxes) is stay)

pub settled_seen : {D : Type 0} → (H : D → Option History) (v now : StoreValue D) (draft seen : BoxDraftValue) (new : Option History) → v ≡ now → draft ≡ seen
    → ((lists after : Lists) → GivesLists draft v (H v.disk) lists after → IsSettledFor lists (H v.disk) → IsSettledFor after new)
    → (lists after : Lists) → GivesLists seen now (H now.disk) lists after → IsSettledFor lists (H now.disk) → IsSettledFor after new
settled_seen H v now draft seen new is same settles =
    subst (λ (d : BoxDraftValue). (lists after : Lists) → GivesLists d now (H now.disk) lists after → IsSettledFor lists (H now.disk) → IsSettledFor after new) same
    (subst (λ (x : StoreValue _). (lists after : Lists) → GivesLists draft x (H x.disk) lists after → IsSettledFor lists (H x.disk) → IsSettledFor after new) is settles)

-- ---- how many entries a log has

-- a mailbox of the map has an open log
pub unfound : {D : Type 0} → (h : Option History) (v now : StoreValue D) (n : ℕ) (found : List OpenBox) → IsStore h v → v ≡ now → IsTrue (is_some (box_at now.map n)) → found ≡ v.boxes → find (λ o. o.number.0 == n) found ≡ None → ⊥
unfound h v now n found s is there boxes none =
    let box = some_box (box_at v.map n) (subst (λ (x : StoreValue _). IsTrue (is_some (box_at x.map n))) (sym is) there) in
    let others : All (λ (o : OpenBox). o.number.0 ≢ n) v.boxes = All-weaker (λ (o : OpenBox). (o.number.0 == n) ≡ false) (λ (o : OpenBox). o.number.0 ≢ n) (λ o no e. false≢true (sym no ∙ eq-eqb o.number.0 n e)) v.boxes
    (found_none (λ (o : OpenBox). o.number.0 == n) v.boxes (subst (λ (bs : List OpenBox). find (λ (o : OpenBox). o.number.0 == n) bs ≡ None) boxes none)) in
    let w : None ≡ Some box.0 = sym (none_at n v.map.store v.map.boxes v.boxes s.box_logs others) ∙ box.1 in cc w
