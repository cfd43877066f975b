-- What a crash within an append to the map log leaves, what the append leaves of a settled disk, and what records store then.
use Rattle.store_core.proofs.Common.{inl, inr, ◌≡◌, ℕ, List, [], ◌∷◌, ◌++◌, map, Option, Some, None, All, refl, sym, ◌∙◌, ap, subst, append-nil, All-nil, All-cons, All-head, All-weaker, Files, DiskState, History, IsImage, MayLeave, IfTold, OthersStay, SameButFor, Between, reading, FileName}
use Rattle.store_core.proofs.Common.{each_image-map, LogState, IsSameLog, IsLogRead, IsLogHeld, Holds, IsLogWithOrWithout, BoxEntry, MapEntry, HasOneMore, LeftBut, LeavesAsRead, logs_made, stored_row, kept_as, map_stored, count_itself, same_record, same_log, more_log, safe_without}
use Rattle.store_core.proofs.Common.{settled_by_map_append, Lists, empty_mailbox, map_text, MapInRange, IsLogFile, LogHead, map_more, MapFits, MapRecord, MapBox, MapMeaning, map_meaning, record_changed, record_made, map_same, root_same, AreGoodLogs, Opens, LiesInFile, IsThereWhole}
use Rattle.store_core.proofs.Common.{SafeBy, Safe, files_of, IsSettled, IsSettledFor, Leaves, HasSameRegion, HasSameInstance, StoresMessage, KnownInstance, AddsText, KeepsStored, IsAppendable, NamesKnown, NamesFirst, NamesFirm, IsFirmInstance, IsKnownRow, IsFirstKnown, AreInstancesThere, StoreValue}
use Rattle.std.proofs.Common.{◌⊎◌}
use Rattle.std.specs.Prelude.{◌≤◌}
use Rattle.disk_model.specs.declared.name.FileName.TheVariants as file
use Rattle.mdbox_base.specs.declared.entries.MapEntry.TheVariants as entry
use Rattle.model_appends.specs.MapAppending.{lists_made, IsMapAppend, AddsSynced, LeavesAlike}
use Rattle.model_appends.proofs.AppendCountLemmas.{counts_by_map_entry}
use Rattle.model_appends.proofs.AppendFileLemmas.{SameStored}
use Rattle.model_appends.proofs.AppendSafeMapLemmas.{counts_append, stored_append, counts_synced, leaves_added, safe_with_map_entry}
use Rattle.model_appends.proofs.HeldLogLemmas.{holds_map}
use Rattle.model_attach.specs.Detached.{AreDetached}
use Rattle.model_lists.specs.Lists.{refs_of}
use Rattle.model_meaning.proofs.AppliedLemmas.{records_by_stored}
use Rattle.model_meaning.specs.MapMeaning.{count_of}
use Rattle.model_store.specs.Stands.{KeepsDetached}
use Rattle.store_core.specs.MapAppend.{StoresDetached, IsOwnSave, IsReadyToStore}
use Rattle.store_core.proofs.BoxAppendLemmas.{is_log, disk_more}
use Rattle.store_core.proofs.BoxCrashLemmas.{ReadsImage}
use Rattle.store_core.proofs.InstanceAppendLemmas.{KnowsNamed, NamesMore, of_known, left_firm, was_there, once_with}
use Rattle.store_core.proofs.MapAppendLemmas.{Readied, fits_there, good_made, lies_there}
use Rattle.store_core.proofs.MapDueLemmas.{adds, no_box}

-- ---- the entry can be appended to a settled disk

detached_with : (files : Files) (m n : MapMeaning) (row : MapRecord) → n.records ≡ m.records ++ row ∷ [] → (row.origin ≡ 0 → StoresDetached files row) → KeepsDetached files m → KeepsDetached files n
detached_with files m n row records form h = λ other octets there own kept. elim (was_there m n row other records there) [
  | inl before ↦ h other octets before own kept
  | inr is ↦ subst (λ (r : MapRecord). r.origin ≡ 0 → (k : StoresMessage files r octets) → AreDetached octets k.stored.message.body k.stored.meta.refs k.instances) (sym is) (λ own kept. form own octets kept) own kept
]

lists_stay : (e : MapEntry) → IsAppendable e → (lists : Lists) → lists_made e lists ≡ lists
lists_stay e k lists = ap (λ (boxes : List MapBox). lists ++ map (λ (box : MapBox). empty_mailbox box.number box.name) boxes) (no_box e k) ∙ append-nil lists

-- a record of origin 0 is an own save
abbrev KeepsForm : MapEntry → Files → Type 0
KeepsForm (entry.S o c u f p z g is) files = o ≡ 0 → IsOwnSave files (stored_row o c u f p z g is)
KeepsForm e files = Unit {0}

keeps_form : (e : MapEntry) (h : History) → IsReadyToStore e (Some h) → KeepsForm e (files_of h.now)
keeps_form (entry.S o c u f p z g is) h ready = ready.1
keeps_form (entry.U u) h ready = tt
keeps_form (entry.D us) h ready = tt
keeps_form (entry.T cs) h ready = tt
keeps_form (entry.H x) h ready = tt
keeps_form (entry.B b g n) h ready = tt
keeps_form (entry.G b g) h ready = tt
keeps_form (entry.P f t ms us) h ready = tt
keeps_form (entry.E f) h ready = tt
keeps_form (entry.X b cs) h ready = tt
keeps_form (entry.V b n) h ready = tt

-- what is known of its instances
abbrev NamesInstances : MapEntry → List KnownInstance → MapMeaning → DiskState → Type 0
NamesInstances (entry.S o c u f p z g is) known m disk = All (IsKnownRow known) is × (o ≡ 0 → All (IsFirstKnown known disk) is) × All (IsFirmInstance m disk) is
NamesInstances e known m disk = Unit {0}

names_known : (e : MapEntry) (known : List KnownInstance) (m : MapMeaning) (h : History) → NamesKnown e known → NamesFirst e known (Some h) → NamesFirm e m (Some h) → NamesInstances e known m h.now
names_known (entry.S o c u f p z g is) known m h names first firm = (names, first, firm)
names_known (entry.U u) known m h names first firm = tt
names_known (entry.D us) known m h names first firm = tt
names_known (entry.T cs) known m h names first firm = tt
names_known (entry.H x) known m h names first firm = tt
names_known (entry.B b g n) known m h names first firm = tt
names_known (entry.G b g) known m h names first firm = tt
names_known (entry.P f t ms us) known m h names first firm = tt
names_known (entry.E f) known m h names first firm = tt
names_known (entry.X b cs) known m h names first firm = tt
names_known (entry.V b n) known m h names first firm = tt

can_append : (disk : DiskState) (known : List KnownInstance) (id : List ℕ) (entries : List MapEntry) (lists : Lists) (e : MapEntry) → SafeBy (files_of disk) id entries lists → IsAppendable e → KeepsForm e (files_of disk) → MapInRange e → MapFits (map_meaning id entries) e → All (LiesInFile (files_of disk)) (record_made e)
    → KnowsNamed known (map_meaning id entries) disk → NamesInstances e known (map_meaning id entries) disk
    → ((guid : List ℕ) → refs_of lists guid ≤ count_of (map_meaning id (entries ++ e ∷ [])) guid) → IsMapAppend (files_of disk) id entries lists lists e
can_append disk known id entries lists (entry.U u) s k form in_range fits lies knows names counts = counts_append (files_of disk) id entries lists (entry.U u) s tt in_range fits counts
can_append disk known id entries lists (entry.D us) s k form in_range fits lies knows names counts = counts_append (files_of disk) id entries lists (entry.D us) s tt in_range fits counts
can_append disk known id entries lists (entry.T cs) s k form in_range fits lies knows names counts = counts_append (files_of disk) id entries lists (entry.T cs) s tt in_range fits counts
can_append disk known id entries lists (entry.S o c u f p z g is) s k form in_range fits lies knows names counts =
    let e : MapEntry = entry.S o c u f p z g is in
    let row : MapRecord = stored_row o c u f p z g is in
    let m : MapMeaning = map_meaning id entries in
    let n : MapMeaning = map_meaning id (entries ++ e ∷ []) in
    let records : n.records ≡ m.records ++ row ∷ [] = ap (λ (x : MapMeaning). x.records) (map_more id entries e) ∙ records_by_stored o c u f p z g is m.records in
    let files : Files = files_of disk in
    let there : All (IsThereWhole files) is = All-weaker (IsKnownRow known) (IsThereWhole files) (λ inst h. of_known (IsThereWhole files) known inst knows.there.whole h) is names.0 in
    let more : NamesMore known m disk row = record { known_rows = names.0; firm = names.2; first = names.1; hashes = λ own. (form own).1 } in
    stored_append files id entries lists o c u f p z g is s in_range fits (All-head (LiesInFile files) row [] lies) there
    (once_with known disk m n row records knows more s.stands.once) (detached_with files m n row records (λ own. (form own).0) s.stands.detached) counts
can_append disk known id entries lists (entry.H h) s k form in_range fits lies knows names counts = absurd k
can_append disk known id entries lists (entry.B b g n) s k form in_range fits lies knows names counts = absurd k
can_append disk known id entries lists (entry.G b g) s k form in_range fits lies knows names counts = absurd k
can_append disk known id entries lists (entry.P f t ms us) s k form in_range fits lies knows names counts = absurd k
can_append disk known id entries lists (entry.E f) s k form in_range fits lies knows names counts = absurd k
can_append disk known id entries lists (entry.X b cs) s k form in_range fits lies knows names counts = absurd k
can_append disk known id entries lists (entry.V b n) s k form in_range fits lies knows names counts = absurd k

-- of a disk that opens with these entries
append_with : (disk : DiskState) (lists : Lists) (s : IsSettled disk lists) (id : List ℕ) (entries : List MapEntry) (logs : List (List BoxEntry)) (e : MapEntry) → Opens (files_of disk) id entries logs → IsAppendable e → KeepsForm e (files_of disk) → MapInRange e
    → MapFits (map_meaning id entries) e → All (LiesInFile (files_of disk)) (record_made e) → (known : List KnownInstance) → KnowsNamed known (map_meaning id entries) disk → NamesInstances e known (map_meaning id entries) disk → AreGoodLogs id (entries ++ e ∷ []) (logs_made e logs) → IsMapAppend (files_of disk) s.store s.entries lists lists e
append_with disk lists s id entries logs e o kind form in_range fits lies known knows names good =
    let same = map_same (files_of disk) id s.store entries s.entries o.passed.map_log s.safe.stands.map_log in
    (subst (λ (t : List ℕ). SafeBy (files_of disk) t s.entries lists → IsMapAppend (files_of disk) t s.entries lists lists e) same.0
    (subst (λ (es : List MapEntry). SafeBy (files_of disk) id es lists → IsMapAppend (files_of disk) id es lists lists e) same.1
    (λ safe. can_append disk known id entries lists e safe kind form in_range fits lies knows names
    (λ guid. subst (λ (ls : Lists). refs_of ls guid ≤ count_of (map_meaning id (entries ++ e ∷ [])) guid) (lists_stay e kind lists) (counts_by_map_entry (files_of disk) id entries logs lists e o safe.stands (adds e kind) good guid))))) s.safe

added_synced : (e : MapEntry) → IsAppendable e → (h : History) → IsReadyToStore e (Some h) → ((image : Files) → IsImage h.now image → All (λ row. All (HasSameInstance (files_of h.now) image) row.instances) (record_made e)) → AddsSynced h.now e
added_synced (entry.U u) k h synced same = counts_synced h.now (entry.U u) tt
added_synced (entry.D us) k h synced same = counts_synced h.now (entry.D us) tt
added_synced (entry.T cs) k h synced same = counts_synced h.now (entry.T cs) tt
added_synced (entry.S o c u f p z g is) k h synced same = record {
  regions = λ image i. All-cons (HasSameRegion (files_of h.now) image) (stored_row o c u f p z g is) [] (synced.0 image i) (All-nil (HasSameRegion (files_of h.now) image));
  instances = same;
  boxes = λ image i. All-nil (λ (box : MapBox). image (file.Box box.number box.generation) ≡ files_of h.now (file.Box box.number box.generation));
}
added_synced (entry.H x) k h synced same = absurd k
added_synced (entry.B b g n) k h synced same = absurd k
added_synced (entry.G b g) k h synced same = absurd k
added_synced (entry.P f t ms us) k h synced same = absurd k
added_synced (entry.E f) k h synced same = absurd k
added_synced (entry.X b cs) k h synced same = absurd k
added_synced (entry.V b n) k h synced same = absurd k

-- ---- the log

pub held_map : (disk : DiskState) (lists : Lists) (s : IsSettled disk lists) (log : LogState) (texts : List (List ℕ)) → ReadsImage disk → log.name ≡ file.Map s.safe.stands.map_log.generation → IsLogRead log texts disk → IsLogHeld log texts disk
held_map disk lists s log texts own name r = record {
  reads = r;
  keeps = record {
    reads = r.file;
    leaves = λ left. (λ may. as_read left may ∙ r.file, λ is. subst (λ (o : Option (List ℕ)). MayLeave (disk log.name) o) (r.file ∙ sym is) (own log.name));
  };
}
  where
    as_read : LeavesAsRead log.name disk
    as_read = subst (λ (n : FileName). LeavesAsRead n disk) (sym name) (holds_map disk lists s own)

-- what is known of the append, of a disk that is settled for these lists
pub record MapAppends (old : History) (lists : Lists) (s : IsSettled old.now lists) (log : LogState) (e : MapEntry) : Type 0 where
  pub texts : List (List ℕ)
  pub append : IsMapAppend (files_of old.now) s.store s.entries lists lists e
  pub alike : LeavesAlike s.safe.stands.map_log.generation (map_meaning s.store (s.entries ++ e ∷ [])) old.now
  pub name : log.name ≡ file.Map s.safe.stands.map_log.generation
  pub held : IsLogHeld log texts old.now

map_appends : {D : Type 0} → (old : History) (v : StoreValue D) (e : MapEntry) (lists : Lists) (s : IsSettled old.now lists) → Readied (Some old) v e → ReadsImage old.now → IsReadyToStore e (Some old) → NamesFirm e v.map (Some old) → MapAppends old lists s v.map_log e
map_appends old v e lists s r own synced firm =
    let runs = r.store.running r.running in
    let g : ℕ = s.safe.stands.map_log.generation in
    let known : List KnownInstance = v.instances.known in
    let there : AreInstancesThere known old.now = r.known.running r.running in
    let knows : KnowsNamed known (map_meaning v.map.store r.store.entries) old.now =
    subst (λ (m : MapMeaning). KnowsNamed known m old.now) r.store.map_is (record { named = r.known.kept.named; there = there }) in
    let same = map_same (files_of old.now) v.map.store s.store r.store.entries s.entries runs.opens.passed.map_log s.safe.stands.map_log in
    let is : map_meaning s.store s.entries ≡ v.map = sym (r.store.map_is ∙ ap (λ (id : List ℕ). map_meaning id r.store.entries) same.0 ∙ ap (map_meaning s.store) same.1) in
    let left : (image : Files) → IsImage old.now image → All (λ row. All (HasSameInstance (files_of old.now) image) row.instances) (record_made e) = λ image i. left_firm e v.map old image firm i in
    let named : NamesInstances e known (map_meaning v.map.store r.store.entries) old.now = subst (λ (m : MapMeaning). NamesInstances e known m old.now) r.store.map_is (names_known e known v.map old r.names r.first firm) in
    let name : v.map_log.name ≡ file.Map g = r.store.map_name ∙ ap (λ (n : ℕ). file.Map n) (root_same (files_of old.now) v.map.store s.store r.store.generation g runs.root s.safe.stands.map_log.root).1 in
    record {
      texts = map map_text r.store.entries;
      append = append_with old.now lists s v.map.store r.store.entries r.store.logs e runs.opens r.kind (keeps_form e old synced) r.in_range (fits_there (Some old) v e r) (lies_there e r.kind old r.region) known knows named (good_made (Some old) v e r);
      alike = leaves_added old.now lists e s (adds e r.kind) (added_synced e r.kind old synced left);
      name = name;
      held = held_map old.now lists s v.map_log (map map_text r.store.entries) own name runs.map_log_reads;
    }

-- ---- each image at every moment

pub image_safe : (disk : DiskState) (lists : Lists) (s : IsSettled disk lists) (e : MapEntry) (head : LogHead) (texts : List (List ℕ)) (image : Files) → ReadsImage disk → IsMapAppend (files_of disk) s.store s.entries lists lists e
    → LeavesAlike s.safe.stands.map_log.generation (map_meaning s.store (s.entries ++ e ∷ [])) disk → IsLogFile (reading (disk (file.Map s.safe.stands.map_log.generation))) head texts
    → IsLogWithOrWithout head texts (map_text e) (image (file.Map s.safe.stands.map_log.generation)) → LeftBut (file.Map s.safe.stands.map_log.generation) disk image → Safe image lists
image_safe disk lists s e head texts image own a alike is (inl without) left =
    let name : FileName = file.Map s.safe.stands.map_log.generation in
    safe_without disk lists name image s own refl left (same_log (reading (disk name)) (image name) head texts is without)
image_safe disk lists s e head texts image own a alike is (inr more) left =
    let name : FileName = file.Map s.safe.stands.map_log.generation in
    safe_with_map_entry disk lists lists e image s own a alike left (more_log (reading (disk name)) (image name) head texts (map_text e) is more)

pub leaves_with : {D : Type 0} → (old new : Option History) (v : StoreValue D) (e : MapEntry) → Readied old v e → IfTold old ReadsImage → AddsText v.map_log (map_text e) old new → (lists : Lists) → IsReadyToStore e old → NamesFirm e v.map old → IsSettledFor lists old → Leaves lists lists old new
leaves_with None new v e r own adds lists synced firm settled = absurd settled
leaves_with (Some old) new v e r own adds lists synced firm s =
    let a : MapAppends old lists s v.map_log e = map_appends old v e lists s r own synced firm in
    let is : IsLogFile (reading (old.now (file.Map s.safe.stands.map_log.generation))) v.map_log.head a.texts = subst (λ (n : FileName). IsLogFile (reading (old.now n)) v.map_log.head a.texts) a.name (is_log v.map_log a.texts old.now a.held.reads) in
    each_image-map (λ _ image. IsLogWithOrWithout v.map_log.head a.texts (map_text e) (image v.map_log.name) × OthersStay v.map_log.name (Some old) image) (λ _ image. Safe image lists ⊎ Safe image lists) (Some old) new
    (λ moment image i. inl (image_safe old.now lists s e v.map_log.head a.texts image own a.append a.alike is
    (subst (λ (n : FileName). IsLogWithOrWithout v.map_log.head a.texts (map_text e) (image n)) a.name i.0) (λ other apart. i.1 other (λ q. apart (q ∙ a.name)))))
    (adds a.texts a.held)

pub settled_with : {D : Type 0} → (old new : Option History) (v : StoreValue D) (log : LogState) (e : MapEntry) → Readied old v e → IfTold old ReadsImage → IsSameLog v.map_log log → SameButFor v.map_log.name old new
    → ((texts : List (List ℕ)) → Holds v.map_log texts old → Holds log (texts ++ map_text e ∷ []) new) → (lists : Lists) → IsReadyToStore e old → NamesFirm e v.map old → IsSettledFor lists old → IsSettledFor lists new
settled_with None new v log e r own same others hold lists synced firm settled = absurd settled
settled_with (Some old) None v log e r own same others hold lists synced firm settled = absurd others
settled_with (Some old) (Some new) v log e r own same others hold lists synced firm s =
    let a : MapAppends old lists s v.map_log e = map_appends old v e lists s r own synced firm in
    let now : IsLogHeld log (a.texts ++ map_text e ∷ []) new.now = hold a.texts a.held in
    settled_by_map_append old.now new.now lists lists e s own a.append a.alike (λ other apart. others other (λ q. apart (q ∙ a.name)))
    (subst (λ (n : FileName). HasOneMore (map_text e) (reading (old.now n)) (reading (new.now n))) a.name (disk_more v.map_log log a.texts (map_text e) old.now new.now same.name same.head a.held.reads now.reads))
    (λ left may.
    let there : MayLeave (new.now log.name) left = subst (λ (n : FileName). MayLeave (new.now n) left) (sym (same.name ∙ a.name)) may in
    (now.keeps.leaves left).0 there ∙ sym now.keeps.reads ∙ ap (λ (n : FileName). reading (new.now n)) (same.name ∙ a.name))

-- ---- what records store

stored_as : {D : Type 0} → (old new : History) (v : StoreValue D) (e : MapEntry) → Readied (Some old) v e → SameButFor v.map_log.name (Some old) (Some new) → SameStored (files_of old.now) (files_of new.now)
stored_as old new v e r same = map_stored r.store.generation (files_of old.now) (files_of new.now) (λ other apart. ap reading (same other (λ p. apart (p ∙ r.store.map_name))))

pub stored_with : {D : Type 0} → (old new : Option History) (v : StoreValue D) (e : MapEntry) → Readied old v e → SameButFor v.map_log.name old new → KeepsStored old new
stored_with None new v e r same = same
stored_with (Some old) None v e r same = absurd same
stored_with (Some old) (Some new) v e r same = λ row octets stores. kept_as (files_of old.now) (files_of new.now) row row octets (stored_as old new v e r same) (count_itself row) stores

-- a record that is found still stores what it did
pub still_stored : {D : Type 0} → (old new : Option History) (v : StoreValue D) (e : MapEntry) (row : MapRecord) (octets : List ℕ) → Readied old v e → SameButFor v.map_log.name old new
    → Between (λ a b. StoresMessage (files_of a) row octets → StoresMessage (files_of b) (record_changed e row) octets) old new
still_stored None new v e row octets r same = same
still_stored (Some old) None v e row octets r same = absurd same
still_stored (Some old) (Some new) v e row octets r same = λ stores.
    kept_as (files_of old.now) (files_of new.now) row (record_changed e row) octets (stored_as old new v e r same) (same_record e (adds e r.kind) row) stores
