-- A region that was placed is ready to be stored, on a settled disk.
use Rattle.mail_save.proofs.Common.{◌≡◌, ◌⊎◌, ◌==◌, ℕ, ◌++◌, true, false, List, Option, Some, None, inl, inr, refl, sym, ◌∙◌, ap, subst, list_any, option_map_or, Prepared, DiskState, History, IfTold, reading, FileName, Mail, between-on, InstRow, MapUid, Lists, MapMeaning, IsSettledFor, files_of}
use Rattle.mail_save.proofs.Common.{HasWritten, taken-there, IsAddedTo, MailFile, Own, IsReadyToStore, IsStore, StoreValue, HoldsRegion, HasAppended, IsLeftSoOrGone, IsPlacedReady, entry_stored, saved_row, SavedAt}
use Rattle.disk_model.specs.Disk.{IsThere, MayLeave}
use Rattle.disk_model.proofs.FirmLemmas.{reads_there}
use Rattle.model_appends.specs.Appending.{LeavesAsRead}
use Rattle.model_meaning.specs.MapMeaning.{map_meaning}
use Rattle.model_store.proofs.StandsLemmas.{map_same}
use Rattle.model_store.specs.Settled.{IsSettled}
use Rattle.saved_message.proofs.StoredLemmas.{hashes_own, written_detached}
use Rattle.store_core.proofs.MailChangeLemmas.{region_firm}
use Rattle.store_core.specs.Files.{MayGrow}
use Rattle.store_core.specs.MapAppend.{IsSyncedRegion}

-- ---- behind the event that places it

nothing_said : (history : Option History) → IfTold history (λ now. Unit {0})
nothing_said None = tt
nothing_said (Some told) = tt

pub appended_left : (region : List ℕ) (file : ℕ) (before after : Option History) → HasAppended region file before after → IfTold after (IsLeftSoOrGone (Mail file))
appended_left region file before after h =
    between-on (λ a b. IsAddedTo region (a (Mail file)) (b (Mail file))) (λ now. Unit {0}) (IsLeftSoOrGone (Mail file)) before after (λ a b added said. λ left may. to a b added left ((added.leaves left).0 may)) h.added (nothing_said before)
  where
    to : (a b : DiskState) → (added : IsAddedTo region (a (Mail file)) (b (Mail file))) → (left : Option (List ℕ)) → (left ≡ Some (added.before ++ region)) ⊎ ((left ≡ None) × MayLeave (a (Mail file)) None) → (left ≡ reading (b (Mail file))) ⊎ (left ≡ None)
    to a b added left (inl is) = inl (is ∙ sym added.reads)
    to a b added left (inr gone) = inr gone.0

-- ---- as it is stored

-- its file is there to stay: it has a region, or its name was synced
file_stays : {D : Type 0} → (at : SavedAt) (store : StoreValue D) (told : History) (lists : Lists) → IsStore (Some told) store → store.stopped ≡ false → Own told.now → HoldsRegion at store → IsThere (told.now (Mail at.file.0)) → IsSettled told.now lists → MayLeave (told.now (Mail at.file.0)) None → ⊥
file_stays at store told lists is runs own h here settled gone =
    let r = is.running runs in
    let there = taken-there store.files.files at.file.0 h.taken in
    let taken : there.0.taken ≡ true = sym (ap (λ (o : Option MailFile). option_map_or (λ f. f.taken) o false) there.1) ∙ h.taken in
    let grows : MayGrow there.0 = is.files.taken at.file.0 there.0 there.1 taken in
    elim (r.files_stay at.file.0 there.0 there.1 grows here) [
      | inl has ↦ region_firm told.now lists settled at.file.0 own (subst (λ (m : MapMeaning). list_any (λ row. row.file == at.file.0) m.records ≡ true) same has) gone
      | inr firm ↦ firm gone
    ]
  where
    same : store.map ≡ map_meaning settled.store settled.entries
    same =
        let one = map_same (files_of told.now) store.map.store settled.store is.entries settled.entries (is.running runs).opens.passed.map_log settled.safe.stands.map_log in
        is.map_is ∙ ap (λ (id : List ℕ). map_meaning id is.entries) one.0 ∙ ap (map_meaning settled.store) one.1

region_synced : (at : SavedAt) (rows : List InstRow) (uid : MapUid) (name : List ℕ) (time : ℕ) (prepared : Prepared) (now : DiskState) → HasWritten (files_of now) (saved_row rows uid at) name time prepared → LeavesAsRead (Mail at.file.0) now → IsSyncedRegion now (saved_row rows uid at)
region_synced at rows uid name time prepared now w leaves = λ image is. record {
  first = w.there;
  second = w.there;
  in_first = w.in_file;
  in_second = leaves (image (Mail at.file.0)) (is (Mail at.file.0)) ∙ w.in_file;
  first_holds = w.inside;
  second_holds = w.inside;
  same = refl;
}

as_read : (name : FileName) (now : DiskState) → IsLeftSoOrGone name now → (MayLeave (now name) None → ⊥) → LeavesAsRead name now
as_read name now so firm = λ left may. elim (so left may) [
  | inl is ↦ is
  | inr gone ↦ absurd (firm (subst (λ (o : Option (List ℕ)). MayLeave (now name) o) gone may))
]

pub placed_stores : {D : Type 0} → (at : SavedAt) (rows : List InstRow) (name : List ℕ) (time : ℕ) (octets : List ℕ) (store : StoreValue D) (history : Option History) → IsStore history store → store.stopped ≡ false → IfTold history Own → HoldsRegion at store → IsPlacedReady at rows name time octets history
    → (uid : MapUid) (lists : Lists) → IsSettledFor lists history → IsReadyToStore (entry_stored rows uid at) history
placed_stores at rows name time octets store None is runs own h p uid lists settled = absurd settled
placed_stores at rows name time octets store (Some told) is runs own h p uid lists settled =
    let w : HasWritten (files_of told.now) (saved_row rows uid at) name time p.prepared = p.written uid in
    let here : IsThere (told.now (Mail at.file.0)) = (reads_there (told.now (Mail at.file.0)) w.there w.in_file).0 in
    let leaves : LeavesAsRead (Mail at.file.0) told.now = as_read (Mail at.file.0) told.now p.left (file_stays at store told lists is runs own h here settled) in (
      region_synced at rows uid name time p.prepared told.now w leaves,
      λ saved. (written_detached (files_of told.now) (saved_row rows uid at) name time octets p.prepared p.can w, hashes_own (files_of told.now) p.prepared.parts rows w.instances p.can.form.hashes w.octets),
    )
