-- What a crash leaves of a store in which a storage file is switched, and what records store then.
use Rattle.store_core.proofs.Common.{inl, ◌≡◌, ◌==◌, ℕ, List, [], ◌∷◌, ◌++◌, map, Option, Some, None, refl, sym, ◌∙◌, ap, subst, Files, History, MayLeave, IfTold, OthersStay, SameButFor, Between, reading, FileName, each_image-map, LogState, IsSameLog, IsLogHeld, Holds, IsLogWithOrWithout, MapEntry}
use Rattle.store_core.proofs.Common.{MapPlace, FileNo, MapUid, HasOneMore, kept_as, map_stored, count_itself, settled_by_map_append, Lists, map_text, IsLogFile, changed_same, MapFits, MapRecord, MapMeaning, map_meaning, map_applied, record_at, IsSoundMap, found_one, map_same, root_same, Safe}
use Rattle.store_core.proofs.Common.{files_of, IsSettled, IsSettledFor, Leaves, StoresMessage, AddsText, KeepsStored, StoreValue}
use Rattle.std.proofs.Common.{◌⊎◌}
use Rattle.std.specs.Prelude.{◌≤◌, take, drop}
use Rattle.disk_model.specs.declared.name.FileName.TheVariants as file
use Rattle.mdbox_base.specs.declared.entries.MapEntry.TheVariants as entry
use Rattle.model_appends.specs.MapAppending.{IsCopiedTo, AreCopied, AreCopiesSynced}
use Rattle.model_appends.proofs.AppendPurgeLemmas.{purged_append, leaves_purged, found_purged, place_found}
use Rattle.model_appends.proofs.AppendFileLemmas.{SameStored}
use Rattle.model_meaning.specs.MapMeaning.{place_given, moved_record}
use Rattle.model_storage.specs.StorageFile.{IsMessage}
use Rattle.model_store.specs.Stands.{HoldsMessage}
use Rattle.store_core.specs.Dues.{IsSpared}
use Rattle.store_core.proofs.BoxAppendLemmas.{store_sound, is_log, disk_more}
use Rattle.store_core.proofs.BoxCrashLemmas.{ReadsImage}
use Rattle.store_core.proofs.MapCrashLemmas.{MapAppends, held_map, image_safe}
use Rattle.store_core.proofs.SwitchLemmas.{Switching, fits_as, meant}

-- of a disk that is settled for these lists
switch_appends : {D : Type 0} → (old : History) (v : StoreValue D) (f : FileNo) (t : ℕ) (ms : List MapPlace) (us : List MapUid) (lists : Lists) (s : IsSettled old.now lists) → Switching (Some old) v f t ms us → ReadsImage old.now → AreCopiesSynced old.now v.map t ms
    → MapAppends old lists s v.map_log (entry.P f t ms us)
switch_appends old v f t ms us lists s r own synced =
    let runs = r.store.running r.running in
    let e : MapEntry = entry.P f t ms us in
    let g : ℕ = s.safe.stands.map_log.generation in
    let same = map_same (files_of old.now) v.map.store s.store r.store.entries s.entries runs.opens.passed.map_log s.safe.stands.map_log in
    let is : map_meaning s.store s.entries ≡ v.map = sym (r.store.map_is ∙ ap (λ (id : List ℕ). map_meaning id r.store.entries) same.0 ∙ ap (map_meaning s.store) same.1) in
    let fits : MapFits (map_meaning s.store s.entries) e = subst (λ (m : MapMeaning). MapFits m e) (sym is) r.fits in
    let name : v.map_log.name ≡ file.Map g = r.store.map_name ∙ ap (λ (n : ℕ). file.Map n) (root_same (files_of old.now) v.map.store s.store r.store.generation g runs.root s.safe.stands.map_log.root).1 in
    record {
      texts = map map_text r.store.entries;
      append = purged_append (files_of old.now) s.store s.entries lists f t ms us s.safe r.in_range fits (subst (λ (m : MapMeaning). AreCopied (files_of old.now) m t ms) (sym is) r.copied);
      alike = leaves_purged old.now lists f t ms us s (subst (λ (m : MapMeaning). AreCopiesSynced old.now m t ms) (sym is) synced);
      name = name;
      held = held_map old.now lists s v.map_log (map map_text r.store.entries) own name runs.map_log_reads;
    }

pub leaves_switched : {D : Type 0} → (old new : Option History) (v : StoreValue D) (f : FileNo) (t : ℕ) (ms : List MapPlace) (us : List MapUid) → Switching old v f t ms us → IfTold old ReadsImage → AddsText v.map_log (map_text (entry.P f t ms us)) old new
    → (lists : Lists) → IfTold old (λ now. AreCopiesSynced now v.map t ms) → IsSettledFor lists old → Leaves lists lists old new
leaves_switched None new v f t ms us r own adds lists synced settled = absurd settled
leaves_switched (Some old) new v f t ms us r own adds lists synced s =
    let e : MapEntry = entry.P f t ms us in
    let a : MapAppends old lists s v.map_log e = switch_appends old v f t ms us lists s r own synced in
    let is : IsLogFile (reading (old.now (file.Map s.safe.stands.map_log.generation))) v.map_log.head a.texts = subst (λ (n : FileName). IsLogFile (reading (old.now n)) v.map_log.head a.texts) a.name (is_log v.map_log a.texts old.now a.held.reads) in
    each_image-map (λ _ image. IsLogWithOrWithout v.map_log.head a.texts (map_text e) (image v.map_log.name) × OthersStay v.map_log.name (Some old) image) (λ _ image. Safe image lists ⊎ Safe image lists) (Some old) new
    (λ moment image i. inl (image_safe old.now lists s e v.map_log.head a.texts image own a.append a.alike is
    (subst (λ (n : FileName). IsLogWithOrWithout v.map_log.head a.texts (map_text e) (image n)) a.name i.0) (λ other apart. i.1 other (λ q. apart (q ∙ a.name)))))
    (adds a.texts a.held)

pub settled_switched : {D : Type 0} → (old new : Option History) (v : StoreValue D) (log : LogState) (f : FileNo) (t : ℕ) (ms : List MapPlace) (us : List MapUid) → Switching old v f t ms us → IfTold old ReadsImage → IsSameLog v.map_log log → SameButFor v.map_log.name old new
    → ((texts : List (List ℕ)) → Holds v.map_log texts old → Holds log (texts ++ map_text (entry.P f t ms us) ∷ []) new) → (lists : Lists) → IfTold old (λ now. AreCopiesSynced now v.map t ms) → IsSettledFor lists old → IsSettledFor lists new
settled_switched None new v log f t ms us r own same others hold lists synced settled = absurd settled
settled_switched (Some old) None v log f t ms us r own same others hold lists synced settled = absurd others
settled_switched (Some old) (Some new) v log f t ms us r own same others hold lists synced s =
    let e : MapEntry = entry.P f t ms us in
    let a : MapAppends old lists s v.map_log e = switch_appends old v f t ms us lists s r own synced in
    let now : IsLogHeld log (a.texts ++ map_text e ∷ []) new.now = hold a.texts a.held in
    settled_by_map_append old.now new.now lists lists e s own a.append a.alike (λ other apart. others other (λ q. apart (q ∙ a.name)))
    (subst (λ (n : FileName). HasOneMore (map_text e) (reading (old.now n)) (reading (new.now n))) a.name (disk_more v.map_log log a.texts (map_text e) old.now new.now same.name same.head a.held.reads now.reads))
    (λ left may.
    let there : MayLeave (new.now log.name) left = subst (λ (n : FileName). MayLeave (new.now n) left) (sym (same.name ∙ a.name)) may in
    (now.keeps.leaves left).0 there ∙ sym now.keeps.reads ∙ ap (λ (n : FileName). reading (new.now n)) (same.name ∙ a.name))

-- ---- what records store

stored_as : {D : Type 0} → (old new : History) (v : StoreValue D) (f : FileNo) (t : ℕ) (ms : List MapPlace) (us : List MapUid) → Switching (Some old) v f t ms us → SameButFor v.map_log.name (Some old) (Some new) → SameStored (files_of old.now) (files_of new.now)
stored_as old new v f t ms us r same = map_stored r.store.generation (files_of old.now) (files_of new.now) (λ other apart. ap reading (same other (λ p. apart (p ∙ r.store.map_name))))

pub stored_switched : {D : Type 0} → (old new : Option History) (v : StoreValue D) (f : FileNo) (t : ℕ) (ms : List MapPlace) (us : List MapUid) → Switching old v f t ms us → SameButFor v.map_log.name old new → KeepsStored old new
stored_switched None new v f t ms us r same = same
stored_switched (Some old) None v f t ms us r same = absurd same
stored_switched (Some old) (Some new) v f t ms us r same = λ row octets stores. kept_as (files_of old.now) (files_of new.now) row row octets (stored_as old new v f t ms us r same) (count_itself row) stores

-- a message stands where it is copied to
unfoldable held_moved : (a : Files) (target offset : ℕ) (row : MapRecord) → IsCopiedTo a target offset row → HoldsMessage a row → HoldsMessage a (record row { file = target; offset = offset })
held_moved a target offset row c h =
    let e : h.octets_there ≡ c.first = let w : Some h.octets_there ≡ Some c.first = sym h.there ∙ c.in_first in cc w in
    record {
      octets_there = c.second;
      message = h.message;
      meta = h.meta;
      there = c.in_second;
      inside = c.second_holds;
      region = subst (λ (o : List ℕ). IsMessage o h.message) (sym c.same) (subst (λ (o : List ℕ). IsMessage (take row.size (drop row.offset o)) h.message) e h.region);
      says = h.says;
      guid = h.guid;
    }

text_placed : (a : Files) (target : ℕ) (row : MapRecord) (o : Option MapPlace) (octets : List ℕ) → ((place : MapPlace) → o ≡ Some place → IsCopiedTo a target place.offset row) → StoresMessage a row octets → StoresMessage a (moved_record row target o) octets
unfolding held_moved
text_placed a target row None octets c k = k
text_placed a target row (Some place) octets c k = record { stored = held_moved a target place.offset row (c place refl) k.stored; instances = k.instances; names = k.names; found = k.found; whole = k.whole; size = k.size }

-- a record that is referred to stores where it is moved to what it stored
pub still_switched : {D : Type 0} → (old new : Option History) (v : StoreValue D) (f : FileNo) (t : ℕ) (ms : List MapPlace) (us : List MapUid) (uid : ℕ) (row : MapRecord) → Switching old v f t ms us → SameButFor v.map_log.name old new → record_at v.map uid ≡ Some row
    → (octets : List ℕ) → Between (λ a b. StoresMessage (files_of a) row octets → StoresMessage (files_of b) (moved_record row t (place_given row.uid ms)) octets) old new
still_switched None new v f t ms us uid row r same found octets = same
still_switched (Some old) None v f t ms us uid row r same found octets = absurd same
still_switched (Some old) (Some new) v f t ms us uid row r same found octets = λ stores.
    let one = found_one (λ (x : MapRecord). x.uid == uid) v.map.records row found in
    let moved : MapRecord = moved_record row t (place_given row.uid ms) in
    kept_as (files_of old.now) (files_of new.now) moved moved octets (stored_as old new v f t ms us r same) (count_itself moved)
    (text_placed (files_of old.now) t row (place_given row.uid ms) octets (λ place given. place_found v.map (λ p x. IsCopiedTo (files_of old.now) t p.offset x) ms row (store_sound (Some old) v r.store) one.0 r.copied place given) stores)

pub found_switched : {D : Type 0} → (h : Option History) (v : StoreValue D) (f : FileNo) (t : ℕ) (ms : List MapPlace) (us : List MapUid) (uid : ℕ) (row : MapRecord) → (r : Switching h v f t ms us) → record_at v.map uid ≡ Some row → 1 ≤ row.count
    → record_at (map_applied (entry.P f t ms us) v.map) uid ≡ Some (moved_record row t (place_given row.uid ms))
found_switched h v f t ms us uid row r found some =
    let s = r.store in
    ap (λ (m : MapMeaning). record_at m uid) (meant h v f t ms us r)
    ∙ found_purged v.map.store s.entries f t ms us uid row (subst IsSoundMap s.map_is (store_sound h v s)) (fits_as h v f t ms us r) (ap (λ (m : MapMeaning). record_at m uid) (sym s.map_is) ∙ found) some

-- so it is spared
pub spared_switched : {D : Type 0} → (old new : Option History) (v w : StoreValue D) (f : FileNo) (t : ℕ) (ms : List MapPlace) (us : List MapUid) (uid : ℕ) (row : MapRecord) → (r : Switching old v f t ms us) → w.map ≡ map_applied (entry.P f t ms us) v.map → SameButFor v.map_log.name old new
    → record_at v.map uid ≡ Some row → 1 ≤ row.count → IsSpared uid row w old new
spared_switched old new v w f t ms us uid row r applied same found some = record {
  now = moved_record row t (place_given row.uid ms);
  there = ap (λ (m : MapMeaning). record_at m uid) applied ∙ found_switched old v f t ms us uid row r found some;
  guid = (changed_same (entry.P f t ms us) row).guid;
  stores = still_switched old new v f t ms us uid row r same found;
}
