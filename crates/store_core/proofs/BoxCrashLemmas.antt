-- What a crash within an append to the log of a mailbox leaves, and what the append leaves of a settled disk.
use Rattle.store_core.proofs.Common.{inl, inr, ◌≡◌, ℕ, List, [], ◌∷◌, ◌++◌, map, Option, Some, None, All, refl, sym, ◌∙◌, ap, subst, Contains, Files, DiskState, History, IsImage, MayLeave, IfTold, OthersStay, SameButFor, reading, FileName, each_image-map, LogHead, MapEntry, BoxEntry, box_text}
use Rattle.store_core.proofs.Common.{BoxInRange, IsLogFile, Lists, row_made, MapBox, MapMeaning, map_meaning, Safe, files_of, IsSettled, IsSettledFor, Leaves, Opens, IsCounted, map_same, HasOneMore, LeftBut, LeavesAsRead, logs_by, same_log, more_log, safe_without, LogState, IsLogRead, IsLogHeld}
use Rattle.store_core.proofs.Common.{Holds, IsLogWithOrWithout, AddsText, IsSameBox, count_itself, kept_as, KeepsStored, StoreValue, OpenBox}
use Rattle.std.proofs.Common.{◌⊎◌}
use Rattle.disk_model.specs.declared.name.FileName.TheVariants as file
use Rattle.disk_model.proofs.MomentLemmas.{each_image-begins}
use Rattle.model_store.specs.Stands.{AreListed, StandsBy}
use Rattle.model_store.proofs.SettledLemmas.{settled_safe}
use Rattle.model_appends.specs.Appending.{message_made, lists_by, FitsIn, IsBoxAppend}
use Rattle.model_appends.proofs.AppendCountLemmas.{box_append}
use Rattle.model_appends.proofs.AppendSafeLemmas.{safe_with_box_entry, settled_by_box_append}
use Rattle.model_appends.proofs.HeldLogLemmas.{holds_box}
use Rattle.store_core.specs.Append.{Brings}
use Rattle.model_appends.proofs.AppendFileLemmas.{box_stored}
use Rattle.store_core.proofs.PickingLemmas.{Picked}
use Rattle.store_core.proofs.BoxAppendLemmas.{Placed, is_log, disk_more, fits_logs, enough_there, own_box}

abbrev pub ReadsImage : DiskState → Type 0
ReadsImage disk = IsImage disk (files_of disk)

-- ---- a settled disk

-- the entry can be appended to the log of a mailbox of a settled disk, which opens with these entries
append_of : (disk : DiskState) (lists : Lists) (s : IsSettled disk lists) (id : List ℕ) (entries : List MapEntry) (logs : List (List BoxEntry)) (box : MapBox) (octets : List ℕ) (e : BoxEntry) → Opens (files_of disk) id entries logs
    → Contains (map_meaning id entries).boxes box → BoxInRange e → FitsIn box.number e (map_meaning id entries).boxes logs → AreListed (files_of disk) (map_meaning id entries) (row_made e) (message_made octets e)
    → All (IsCounted (logs_by box.number e (map_meaning id entries).boxes logs)) (map_meaning id entries).records → IsBoxAppend (files_of disk) s.store s.entries lists box octets e
append_of disk lists s id entries logs box octets e o there in_range fits added counts =
    let same = map_same (files_of disk) id s.store entries s.entries o.passed.map_log s.safe.stands.map_log in
    (subst (λ (t : List ℕ). StandsBy (files_of disk) t s.entries lists → IsBoxAppend (files_of disk) t s.entries lists box octets e) same.0
    (subst (λ (es : List MapEntry). StandsBy (files_of disk) id es lists → IsBoxAppend (files_of disk) id es lists box octets e) same.1
    (λ stands. box_append (files_of disk) id entries logs lists box octets e o stands there in_range fits added counts))) s.safe.stands

-- it holds that log
held_box : (disk : DiskState) (lists : Lists) (s : IsSettled disk lists) (box : MapBox) (log : LogState) (texts : List (List ℕ)) → ReadsImage disk → Contains (map_meaning s.store s.entries).boxes box → log.name ≡ file.Box box.number box.generation → IsLogRead log texts disk
    → IsLogHeld log texts disk
held_box disk lists s box log texts own there name r = record {
  reads = r;
  keeps = record {
    reads = r.file;
    leaves = λ left. (λ may. as_read left may ∙ r.file, λ is. subst (λ (o : Option (List ℕ)). MayLeave (disk log.name) o) (r.file ∙ sym is) (own log.name));
  };
}
  where
    as_read : LeavesAsRead log.name disk
    as_read = subst (λ (n : FileName). LeavesAsRead n disk) (sym name) (holds_box disk lists box s own there)

-- ---- each image at every moment

image_safe : (disk : DiskState) (lists : Lists) (s : IsSettled disk lists) (box : MapBox) (octets : List ℕ) (e : BoxEntry) (head : LogHead) (texts : List (List ℕ)) (image : Files) → ReadsImage disk → IsBoxAppend (files_of disk) s.store s.entries lists box octets e
    → IsLogFile (reading (disk (file.Box box.number box.generation))) head texts → IsLogWithOrWithout head texts (box_text e) (image (file.Box box.number box.generation)) → LeftBut (file.Box box.number box.generation) disk image
    → Safe image lists ⊎ Safe image (lists_by box.number octets e lists)
image_safe disk lists s box octets e head texts image own a is (inl without) left =
    let name : FileName = file.Box box.number box.generation in
    inl (safe_without disk lists name image s own refl left (same_log (reading (disk name)) (image name) head texts is without))
image_safe disk lists s box octets e head texts image own a is (inr more) left =
    let name : FileName = file.Box box.number box.generation in
    inr (safe_with_box_entry disk lists box octets e image s own a left (more_log (reading (disk name)) (image name) head texts (box_text e) is more))

-- ---- the store's own disk

-- what is known of the append, of a disk that is settled for these lists
record Appends (old : History) (lists : Lists) (s : IsSettled old.now lists) (b : OpenBox) (number : ℕ) (octets : List ℕ) (e : BoxEntry) : Type 0 where
  pub box : MapBox
  pub texts : List (List ℕ)
  pub append : IsBoxAppend (files_of old.now) s.store s.entries lists box octets e
  pub name : b.log.name ≡ file.Box box.number box.generation
  pub held : IsLogHeld b.log texts old.now
  pub number_is : box.number ≡ number

appends : {D : Type 0} → (old : History) (v : StoreValue D) (k : ℕ) (b : OpenBox) (number : ℕ) (e : BoxEntry) (octets : List ℕ) (lists : Lists) (s : IsSettled old.now lists) → Placed (Some old) v k b number e → ReadsImage old.now → Brings v.map e octets (Some old)
    → Appends old lists s b number octets e
appends old v k b number e octets lists s p own brings =
    let q : Picked (Some old) v.map.store (map_meaning v.map.store p.store.entries).boxes p.store.logs b = own_box (Some old) v k b number e p in
    let n : MapMeaning = map_meaning v.map.store p.store.entries in
    let at : number ≡ q.box.number = sym p.number_is ∙ q.number in
    let opens : Opens (files_of old.now) v.map.store p.store.entries p.store.logs = (p.store.running p.running).opens in
    let append : IsBoxAppend (files_of old.now) s.store s.entries lists q.box octets e =
    append_of old.now lists s v.map.store p.store.entries p.store.logs q.box octets e opens q.there p.in_range (subst (λ (j : ℕ). FitsIn j e n.boxes p.store.logs) at (fits_logs (Some old) v k b number e p))
    (subst (λ (m : MapMeaning). AreListed (files_of old.now) m (row_made e) (message_made octets e)) p.store.map_is brings)
    (subst (λ (j : ℕ). All (IsCounted (logs_by j e n.boxes p.store.logs)) n.records) at (enough_there (Some old) v k b number e p)) in
    record {
      box = q.box;
      texts = map box_text q.log;
      append = append;
      name = q.name;
      held = held_box old.now lists s q.box b.log (map box_text q.log) own append.is_mailbox q.name q.reads;
      number_is = sym at;
    }

log_at : (old : DiskState) (b : OpenBox) (box : MapBox) (texts : List (List ℕ)) → b.log.name ≡ file.Box box.number box.generation → IsLogRead b.log texts old → IsLogFile (reading (old (file.Box box.number box.generation))) b.log.head texts
log_at old b box texts name r = subst (λ (n : FileName). IsLogFile (reading (old n)) b.log.head texts) name (is_log b.log texts old r)

pub leaves_there : {D : Type 0} → (old new : Option History) (v : StoreValue D) (k : ℕ) (b : OpenBox) (number : ℕ) (e : BoxEntry) → Placed old v k b number e → IfTold old ReadsImage → AddsText b.log (box_text e) old new
    → (lists : Lists) (octets : List ℕ) → Brings v.map e octets old → IsSettledFor lists old → Leaves lists (lists_by number octets e lists) old new
leaves_there None new v k b number e p own adds lists octets brings settled = absurd settled
leaves_there (Some old) new v k b number e p own adds lists octets brings s =
    let a : Appends old lists s b number octets e = appends old v k b number e octets lists s p own brings in
    let is = log_at old.now b a.box a.texts a.name a.held.reads in
    subst (λ (n : ℕ). Leaves lists (lists_by n octets e lists) (Some old) new) a.number_is
    (each_image-map (λ _ image. IsLogWithOrWithout b.log.head a.texts (box_text e) (image b.log.name) × OthersStay b.log.name (Some old) image) (λ _ image. Safe image lists ⊎ Safe image (lists_by a.box.number octets e lists)) (Some old) new
    (λ moment image i. image_safe old.now lists s a.box octets e b.log.head a.texts image own a.append is
    (subst (λ (n : FileName). IsLogWithOrWithout b.log.head a.texts (box_text e) (image n)) a.name i.0) (λ other apart. i.1 other (λ q. apart (q ∙ a.name))))
    (adds a.texts a.held))

pub settled_there : {D : Type 0} → (old new : Option History) (v : StoreValue D) (k : ℕ) (b x : OpenBox) (number : ℕ) (e : BoxEntry) → Placed old v k b number e → IfTold old ReadsImage → IsSameBox b x → SameButFor b.log.name old new
    → ((texts : List (List ℕ)) → Holds b.log texts old → Holds x.log (texts ++ box_text e ∷ []) new) → (lists : Lists) (octets : List ℕ) → Brings v.map e octets old → IsSettledFor lists old → IsSettledFor (lists_by number octets e lists) new
settled_there None new v k b x number e p own same others hold lists octets brings settled = absurd settled
settled_there (Some old) None v k b x number e p own same others hold lists octets brings settled = absurd others
settled_there (Some old) (Some new) v k b x number e p own same others hold lists octets brings s =
    let a : Appends old lists s b number octets e = appends old v k b number e octets lists s p own brings in
    let now : IsLogHeld x.log (a.texts ++ box_text e ∷ []) new.now = hold a.texts a.held in
    subst (λ (n : ℕ). IsSettled new.now (lists_by n octets e lists)) a.number_is
    (settled_by_box_append old.now new.now lists a.box octets e s own a.append (λ other apart. others other (λ q. apart (q ∙ a.name)))
    (subst (λ (n : FileName). HasOneMore (box_text e) (reading (old.now n)) (reading (new.now n))) a.name (disk_more b.log x.log a.texts (box_text e) old.now new.now same.name same.head a.held.reads now.reads))
    (λ left may.
    let there : MayLeave (new.now x.log.name) left = subst (λ (n : FileName). MayLeave (new.now n) left) (sym (same.name ∙ a.name)) may in
    (now.keeps.leaves left).0 there ∙ sym now.keeps.reads ∙ ap (λ (n : FileName). reading (new.now n)) (same.name ∙ a.name)))

-- where nothing was done
pub leaves_none : (old : Option History) (lists later : Lists) → IsSettledFor lists old → Leaves lists later old old
leaves_none None lists later settled = absurd settled
leaves_none (Some old) lists later settled = each_image-begins (λ _ image. Safe image lists ⊎ Safe image later) (Some old) (λ moment image is. inl (settled_safe old.now lists image settled is))

-- ---- what records store

pub stored_there : {D : Type 0} → (old new : Option History) (v : StoreValue D) (k : ℕ) (b : OpenBox) (number : ℕ) (e : BoxEntry) → Placed old v k b number e → SameButFor b.log.name old new → KeepsStored old new
stored_there None new v k b number e p same = same
stored_there (Some old) None v k b number e p same = absurd same
stored_there (Some old) (Some new) v k b number e p same =
    let q : Picked (Some old) v.map.store (map_meaning v.map.store p.store.entries).boxes p.store.logs b = own_box (Some old) v k b number e p in
    λ row octets stores. kept_as (files_of old.now) (files_of new.now) row row octets
    (box_stored q.box.number q.box.generation (files_of old.now) (files_of new.now) (λ other apart. ap reading (same other (λ r. apart (r ∙ q.name))))) (count_itself row) stores
