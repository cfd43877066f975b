-- What events of a delivery leave ready for the next one.
use Rattle.mail_save.proofs.Common.{◌≡◌, ◌==◌, ◌≢◌, ◌<◌, ◌+◌, ◌∷◌, ◌++◌, ℕ, Bool, false, List, [], map, Option, All, refl, sym, ◌∙◌, ap, subst, arith, take, drop, length, inl, inr, AllByRecursion, bytes_eq, cond-false, eq-eqb, ne_eqb, length-append, All-nil, All-cons, All-contains, All-head}
use Rattle.mail_save.proofs.Common.{All-tail, All-weaker, sum_by-cons, bytes_eq-Decides, drop-append_seam, DiskState, History, IfTold, between-on, if_told-map, BoxEntry, InstRow, MapUid, LogRow, BoxMeaning, MapRecord, MapMeaning, files_of, StoresMessage, Detached, Prepared, InstId, AreOfParts}
use Rattle.mail_save.proofs.Common.{IsLaid, HasWritten, ids_in, KnownInstance, KeepsStored, due_at, number_beside, IsStore, StoreValue, indexes_of, references_to, IsSameOrSynced, entry_added, ReadsSameMail, IsLeftSoOrGone, IsPlacedReady, LetsGo, StoresPlaced, saved_row, Added, SavedAt}
use Rattle.std.specs.Prelude.{cond, count_by}
use Rattle.std.proofs.lemmas.Bool.{cases_Bool}
use Rattle.std.proofs.Math.Seq.{take-length}
use Rattle.disk_model.specs.declared.name.FileName.TheVariants as file
use Rattle.disk_model.proofs.MomentLemmas.{if_told-both}
use Rattle.model_appends.specs.Appending.{message_made}
use Rattle.model_meaning.specs.BoxMeaning.{box_meaning, rows_after, row_made}
use Rattle.model_meaning.specs.MapMeaning.{map_meaning}
use Rattle.model_octets.proofs.SearchLemmas.{found_one}
use Rattle.model_store.specs.Listing.{refs_in}
use Rattle.model_store.specs.Opening.{HasItsRecord}
use Rattle.model_store.specs.Stands.{AreListed}
use Rattle.model_store.specs.Stands.{HasInstances}
use Rattle.save_instances.proofs.FoundLemmas.{rows_there}
use Rattle.saved_message.proofs.StoredLemmas.{written_stores}
use Rattle.saved_message.specs.Laid.{AreSixteen, LaidValue}
use Rattle.saved_message.specs.Saved.{AreInstancesOf, CanBeWritten}
use Rattle.model_meaning.specs.Sound.{IsSoundRecord}
use Rattle.store_core.specs.Files.{EndsWith}
use Rattle.mail_save.proofs.MailFileLemmas.{synced_reads}
use Rattle.mail_save.proofs.SaveUnlistedLemmas.{is_sound}
use Rattle.mail_save.specs.Ready.{IsRecordReady}

-- ---- the region that was placed

seam_part : (before region : List ℕ) (offset size : ℕ) → length before ≡ offset → length region ≡ size → take size (drop offset (before ++ region)) ≡ region
seam_part before region offset size long whole =
    ap (take size) (subst (λ (n : ℕ). drop n (before ++ region) ≡ region) long (drop-append_seam before region))
    ∙ subst (λ (n : ℕ). take n region ≡ region) whole (take-length region)

row_ids : (rows : List InstRow) → All (λ id. AreSixteen id.0) (ids_in rows) → All (λ inst. AreSixteen inst.id.0) rows
row_ids [] are = All-nil (λ (inst : InstRow). AreSixteen inst.id.0)
row_ids (row ∷ rows) are =
    All-cons (λ (inst : InstRow). AreSixteen inst.id.0) row rows (All-head (λ (id : InstId). AreSixteen id.0) row.id (ids_in rows) are) (row_ids rows (All-tail (λ (id : InstId). AreSixteen id.0) row.id (ids_in rows) are))

-- it has what is written of the message
region_there : (at : SavedAt) (rows : List InstRow) (uid : MapUid) (name : List ℕ) (time : ℕ) (prepared : Prepared) (laid : LaidValue) (now : DiskState) → IsLaid name time prepared (ids_in rows) at.guid.0 laid → length laid.region ≡ at.size → AreInstancesOf prepared.parts rows
    → EndsWith at.offset laid.region (now (file.Mail at.file.0)) → HasInstances (files_of now) rows (map (λ d. d.octets) prepared.parts) → HasWritten (files_of now) (saved_row rows uid at) name time prepared
region_there at rows uid name time prepared laid now is long are e octets = record {
  there = e.before ++ laid.region;
  in_file = e.reads;
  inside = let both = length-append e.before laid.region in let front = e.long in omega (arith, both, front, long);
  region = seam_part e.before laid.region at.offset at.size e.long long ∙ is.region;
  guid = is.guid_fits;
  ids = row_ids rows is.ids_fit;
  instances = are;
  octets = octets;
}

pub region_ready : (at : SavedAt) (rows : List InstRow) (name : List ℕ) (time : ℕ) (octets : List ℕ) (prepared : Prepared) (laid : LaidValue) (after : Option History) → CanBeWritten name time octets prepared → IsLaid name time prepared (ids_in rows) at.guid.0 laid → length laid.region ≡ at.size
    → AreInstancesOf prepared.parts rows → IfTold after (λ now. EndsWith at.offset laid.region (now (file.Mail at.file.0))) → IfTold after (λ now. HasInstances (files_of now) rows (map (λ d. d.octets) prepared.parts))
    → IfTold after (IsLeftSoOrGone (file.Mail at.file.0)) → IsPlacedReady at rows name time octets after
region_ready at rows name time octets prepared laid after can is long are placed there left = record { prepared = prepared; can = can; written = has; left = left }
  where
    has : (uid : MapUid) → IfTold after (λ now. HasWritten (files_of now) (saved_row rows uid at) name time prepared)
    has uid = if_told-both _ _ (λ now. HasWritten (files_of now) (saved_row rows uid at) name time prepared) after (λ now e octets. region_there at rows uid name time prepared laid now is long are e octets) placed there

-- ---- the instances of its attachments

pub instances_are : (rows : List InstRow) (parts : List Detached) (known : List KnownInstance) (history : Option History) → AreOfParts rows parts known history → length rows ≡ length parts → AreInstancesOf parts rows
instances_are [] [] known history are long = tt
instances_are [] (part ∷ parts) known history are long = absurd (omega (arith, long))
instances_are (row ∷ rows) [] known history are long = absurd are
instances_are (row ∷ rows) (part ∷ parts) known history are long = (are.0.hash, instances_are rows parts known history are.1 (omega (arith, long)))

pub instances_there : (rows : List InstRow) (parts : List Detached) (known : List KnownInstance) (history : Option History) → AreOfParts rows parts known history → length rows ≡ length parts → IfTold history (λ now. HasInstances (files_of now) rows (map (λ d. d.octets) parts))
instances_there rows parts known history are long =
    subst (λ (ps : List Detached). IfTold history (λ now. HasInstances (files_of now) rows (map (λ (d : Detached). d.octets) ps))) (ap (λ (n : ℕ). take n parts) long ∙ take-length parts) (rows_there rows parts known history are)

same_instances : (a b : DiskState) (rows : List InstRow) (octets : List (List ℕ)) → ((hash id : List ℕ) → IsSameOrSynced (a (file.Inst hash id)) (b (file.Inst hash id))) → HasInstances (files_of a) rows octets → HasInstances (files_of b) rows octets
same_instances a b [] [] same h = tt
same_instances a b [] (text ∷ rest) same h = absurd h
same_instances a b (row ∷ rows) [] same h = absurd h
same_instances a b (row ∷ rows) (text ∷ rest) same h = (synced_reads (a (file.Inst row.hash.0 row.id.0)) (b (file.Inst row.hash.0 row.id.0)) (same row.hash.0 row.id.0) ∙ h.0, same_instances a b rows rest same h.1)

-- ---- no mailbox lists a message with a new GUID

other_guid : (m : MapMeaning) (guid : List ℕ) (row : LogRow) → All (λ r. r.guid ≢ guid) m.records → HasItsRecord m row → bytes_eq row.guid guid ≡ false
other_guid m guid row new h = elim (cases_Bool (bytes_eq row.guid guid)) [
  | inl hit ↦ absurd (All-contains (λ (r : MapRecord). r.guid ≢ guid) m.records h.0 new (found_one (λ (r : MapRecord). r.uid == row.map_uid) m.records h.0 h.1).0 (h.2 ∙ (bytes_eq-Decides row.guid guid).0 hit))
  | inr miss ↦ miss
]

none_counted : (m : MapMeaning) (guid : List ℕ) (rows : List LogRow) → All (λ r. r.guid ≢ guid) m.records → All (HasItsRecord m) rows → count_by (λ row. bytes_eq row.guid guid) rows ≡ 0
none_counted m guid [] new h = refl
none_counted m guid (row ∷ rows) new h =
    let split = sum_by-cons (λ (r : LogRow). cond (bytes_eq r.guid guid) 1 0) row rows in
    let none : ◌≡◌ {A = ℕ} (cond (bytes_eq row.guid guid) 1 0) 0 = ap (λ (t : Bool). cond t 1 0) (other_guid m guid row new (All-head (HasItsRecord m) row rows h)) in
    let rest : count_by (λ r. bytes_eq r.guid guid) rows ≡ 0 = none_counted m guid rows new (All-tail (HasItsRecord m) row rows h) in
    omega (arith, split, none, rest)

none_in : (m : MapMeaning) (guid : List ℕ) (logs : List (List BoxEntry)) → All (λ r. r.guid ≢ guid) m.records → AllByRecursion (λ log. All (HasItsRecord m) (rows_after log)) logs → refs_in (map box_meaning logs) guid ≡ 0
none_in m guid [] new h = refl
none_in m guid (log ∷ logs) new h =
    let split = sum_by-cons (λ (b : BoxMeaning). count_by (λ row. bytes_eq row.guid guid) b.rows) (box_meaning log) (map box_meaning logs) in
    let none : count_by (λ row. bytes_eq row.guid guid) (rows_after log) ≡ 0 = none_counted m guid (rows_after log) new h.0 in
    let rest : refs_in (map box_meaning logs) guid ≡ 0 = none_in m guid logs new h.1 in
    omega (arith, split, none, rest)

unlisted : {D : Type 0} → (store : StoreValue D) (guid : List ℕ) (history : Option History) → IsStore history store → All (λ r. r.guid ≢ guid) store.map.records → references_to store guid ≡ 0
unlisted store guid history s new =
    ap (λ (ms : List BoxMeaning). refs_in ms guid) s.boxes_are
    ∙ none_in (map_meaning store.map.store s.entries) guid s.logs (subst (λ (m : MapMeaning). All (λ r. r.guid ≢ guid) m.records) s.map_is new) s.good.records

-- ---- the record that was stored

-- nothing is due where there is no record
none_beside : (uid : ℕ) (rows : List MapRecord) (numbers : List ℕ) → All (λ row. row.uid ≢ uid) rows → number_beside uid rows numbers ≡ 0
none_beside uid [] numbers none = refl
none_beside uid (row ∷ rows) [] none = refl
none_beside uid (row ∷ rows) (n ∷ numbers) none =
    cond-false (row.uid == uid) n (number_beside uid rows numbers) (ne_eqb row.uid uid (All-head (λ (r : MapRecord). r.uid ≢ uid) row rows none)) ∙ none_beside uid rows numbers (All-tail (λ (r : MapRecord). r.uid ≢ uid) row rows none)

-- so that one is due of a new one
stored_alone : {D : Type 0} → (at : SavedAt) (rows : List InstRow) (time size : ℕ) (added : Added) (old new : StoreValue D) (before : Option History) → IsStore before old → StoresPlaced at rows time size added old new → due_at added.map_uid.0 new ≡ 1
stored_alone at rows time size added old new before s made =
    let uid : ℕ = added.map_uid.0 in
    let fresh : old.map.highest.map < uid = made.fits.uid_new in
    let apart : All (λ row. row.uid ≢ uid) old.map.records = All-weaker (IsSoundRecord old.map.highest.map) (λ row. row.uid ≢ uid) (λ row k e. let b = k.below in omega (arith, b, e, fresh)) old.map.records (is_sound before old s).records in
    let none : due_at uid old ≡ 0 = none_beside uid old.map.records old.dues apart in
    let one : ◌≡◌ {A = ℕ} (cond (uid == uid) 1 0) 1 = ap (λ (b : Bool). cond b 1 0) (eq-eqb uid uid refl) in
    let due : due_at uid new ≡ due_at uid old + cond (uid == uid) 1 0 = made.due uid in
    omega (arith, due, none, one)

-- a region that reads as it did
written_reads : (row : MapRecord) (name : List ℕ) (time : ℕ) (prepared : Prepared) (before after : Option History) → ReadsSameMail before after → IfTold before (λ now. HasWritten (files_of now) row name time prepared) → IfTold after (λ now. HasWritten (files_of now) row name time prepared)
written_reads row name time prepared before after same there =
    between-on (λ a b. ((number : ℕ) → IsSameOrSynced (a (file.Mail number)) (b (file.Mail number))) × ((hash id : List ℕ) → IsSameOrSynced (a (file.Inst hash id)) (b (file.Inst hash id)))) (λ now. HasWritten (files_of now) row name time prepared) (λ now. HasWritten (files_of now) row name time prepared) before after
    (λ a b kept h. record {
      there = h.there;
      in_file = synced_reads (a (file.Mail row.file)) (b (file.Mail row.file)) (kept.0 row.file) ∙ h.in_file;
      inside = h.inside;
      region = h.region;
      guid = h.guid;
      ids = h.ids;
      instances = h.instances;
      octets = same_instances a b row.instances (map (λ d. d.octets) prepared.parts) kept.1 h.octets;
    }) same there

pub record_ready : {D : Type 0} → (at : SavedAt) (rows : List InstRow) (name : List ℕ) (time size : ℕ) (octets : List ℕ) (added : Added) (old new : StoreValue D) (before after : Option History) → IsStore before old → All (λ r. r.guid ≢ at.guid.0) old.map.records → StoresPlaced at rows time size added old new → size ≡ length octets
    → IsPlacedReady at rows name time octets before → KeepsStored before after → ReadsSameMail before after → IsRecordReady added name time octets new after
record_ready at rows name time size octets added old new before after s guid_new made long region keeps same = record {
  time_is = made.time_is;
  size_is = made.size_is ∙ long;
  prepared = region.prepared;
  form = region.can.form;
  row = saved_row rows added.map_uid at;
  there = made.there;
  guid_is = sym (ap (λ g. g.0) made.guid_is);
  written = written_reads (saved_row rows added.map_uid at) name time region.prepared before after same (region.written added.map_uid);
  brings = λ uid.
      between-on _ (λ disk. StoresMessage (files_of disk) (saved_row rows added.map_uid at) octets) (λ now. AreListed (files_of now) new.map (row_made (entry_added uid added)) (message_made octets (entry_added uid added))) before after
      (λ a b kept stores. (
        record {
          uid = refl;
          flags = refl;
          time = refl;
          guid = refl;
          size = sym (made.size_is ∙ long);
          words = refl;
          entry = saved_row rows added.map_uid at;
          found = made.there;
          same = ap (λ g. g.0) (sym made.guid_is);
          octets = kept (saved_row rows added.map_uid at) octets stores;
        },
        tt,
      )) keeps (if_told-map _ _ before (λ now h. (written_stores (files_of now) (saved_row rows added.map_uid at) name time octets region.prepared region.can h).0) (region.written added.map_uid));
  unlisted = ap (λ (g : List ℕ). references_to new g) (ap (λ g. g.0) made.guid_is) ∙ (ap (λ v. refs_in (indexes_of v.boxes) at.guid.0) made.same ∙ unlisted old at.guid.0 before s guid_new);
  alone = stored_alone at rows time size added old new before s made;
}

-- the instances are let go behind it
pub record_let_go : {D : Type 0} → (rows : List InstRow) (added : Added) (name : List ℕ) (time : ℕ) (octets : List ℕ) (left new : StoreValue D) (history : Option History) → LetsGo rows left new → IsRecordReady added name time octets left history → IsRecordReady added name time octets new history
record_let_go rows added name time octets left new history same r = subst (λ (v : StoreValue _). IsRecordReady added name time octets v history) (sym same) (record {
  time_is = r.time_is;
  size_is = r.size_is;
  prepared = r.prepared;
  form = r.form;
  row = r.row;
  there = r.there;
  guid_is = r.guid_is;
  written = r.written;
  brings = r.brings;
  unlisted = r.unlisted;
  alone = r.alone;
})
