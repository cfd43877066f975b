-- The disk with a rebuilt store is settled for its lists.
use Rattle.std.proofs.Common.{◌≡◌, ℕ, ◌+◌, List, [], ◌∷◌, All, refl, sym, ◌∙◌, subst, arith}
use Rattle.std.proofs.lemmas.List.Elements.{All-nil, All-cons, All-head, All-tail, All-weaker}
use Rattle.disk_model.specs.Disk.{DiskState, Files, IsImage}
use Rattle.disk_model.specs.declared.name.FileName.{FileName}
use Rattle.disk_model.specs.declared.name.FileName.TheVariants as file
use Rattle.mdbox_base.specs.declared.entries.InstRow.{InstRow}
use Rattle.mdbox_base.specs.declared.entries.RootEntry.TheVariants as root
use Rattle.mdbox_base.specs.declared.entries.MapEntry.{MapEntry}
use Rattle.model_logs.specs.declared.log_head.LogHead.{LogHead}
use Rattle.model_logs.specs.declared.log_head.LogKind.TheVariants as kind
use Rattle.model_logs.specs.Entries.{root_text}
use Rattle.model_meaning.specs.MapMeaning.{MapBox, MapMeaning, MapRecord, map_meaning}
use Rattle.model_store.specs.Safe.{LiesInFile, SafeBy}
use Rattle.model_store.specs.Settled.{AreAlike, HasSameInstance, HasSameRegion, IsSettled, files_of}
use Rattle.model_store.specs.Stands.{HasLog, HasRoot, head_of}
use Rattle.model_store.proofs.StandsLemmas.{root_same}
use Rattle.model_rebuild.proofs.MapFitLemmas.{boxes_from, records_from}
use Rattle.model_rebuild.proofs.NumberingLemmas.{free_is_number, highest_in_range}
use Rattle.model_rebuild.proofs.RebuiltMapLemmas.{map_rebuilt}
use Rattle.model_rebuild.proofs.RebuiltSafeLemmas.{safe_by, skipped_are_numbered}
use Rattle.model_rebuild.specs.RebuildMoments.{KeepRebuiltBoxes, KeepsLog, KeepsMessage, KeepsOld}
use Rattle.model_rebuild.specs.RebuildPlan.{IsBoxUsed, IsMapUsed, IsPlanFor, RebuildPlan}
use Rattle.model_rebuild.specs.RebuiltLists.{lists_of}
use Rattle.model_rebuild.specs.RebuiltLogs.{HasRebuiltBoxes, HasRebuiltLogs, HasSameMessage, rebuilt_map}
use Rattle.model_taken.proofs.GoodListLemmas.{IsStored}
use Rattle.model_taken.proofs.GoodRebuildLemmas.{rebuild_good}
use Rattle.model_taken.proofs.RangeLemmas.{TakenInRange}
use Rattle.model_taken.specs.Taken.{TakenMessage, mailboxes_met, record_for}
use Rattle.store_rebuild.specs.Writing.{HasNewStore}

-- ---- what the disk reads

log_read : (disk : DiskState) (name : FileName) (head : LogHead) (entries : List (List ℕ)) → KeepsLog disk name head entries → HasLog (files_of disk) name head entries
log_read disk name head entries k = record { octets = k.octets; there = k.keeps.reads; whole = k.whole }

boxes_read : (disk : DiskState) (store : List ℕ) (number generation : ℕ) (names : List (List ℕ)) (taken : List TakenMessage) → KeepRebuiltBoxes disk store number generation names taken → HasRebuiltBoxes (files_of disk) store number generation names taken
boxes_read disk store number generation [] taken k = tt
boxes_read disk store number generation (name ∷ names) taken k = (log_read disk (file.Box number generation) (head_of store kind.Box number generation) _ k.0, boxes_read disk store (number + 1) generation names taken k.1)

pub logs_read : (store : List ℕ) (plan : RebuildPlan) (first disk : DiskState) → HasNewStore store plan first disk → HasRebuiltLogs (files_of disk) store plan
logs_read store plan first disk k = record {
  root_log = log_read disk file.Root (head_of store kind.Root 0 0) (root_text (root.M plan.map_generation) ∷ []) k.root_log;
  map_log = log_read disk (file.Map plan.map_generation) (head_of store kind.Map 0 plan.map_generation) _ k.rest.map_log;
  box_logs = boxes_read disk store 1 plan.box_generation (mailboxes_met plan.taken) plan.taken k.rest.box_logs;
}

message_read : (first disk : DiskState) (t : TakenMessage) → KeepsMessage first disk t → HasSameMessage (files_of first) (files_of disk) t
message_read first disk t k = record {
  storage = k.storage.keeps.reads ∙ sym k.storage.read;
  instances = All-weaker (λ (i : InstRow). KeepsOld first disk (file.Inst i.hash.0 i.id.0)) (λ (i : InstRow). files_of disk (file.Inst i.hash.0 i.id.0) ≡ files_of first (file.Inst i.hash.0 i.id.0)) (λ i o. o.keeps.reads ∙ sym o.read) t.instances k.instances;
}

-- ---- what a crash leaves is the same

log_alike : (disk : DiskState) (image : Files) (name : FileName) (head : LogHead) (entries : List (List ℕ)) → IsImage disk image → KeepsLog disk name head entries → image name ≡ files_of disk name
log_alike disk image name head entries is k = (k.keeps.leaves (image name)).0 (is name) ∙ sym k.keeps.reads

abbrev BoxAlike : DiskState → Files → MapBox → Type 0
BoxAlike disk image box = image (file.Box box.number box.generation) ≡ files_of disk (file.Box box.number box.generation)

boxes_alike : (disk : DiskState) (image : Files) (store : List ℕ) (number generation : ℕ) (names : List (List ℕ)) (taken : List TakenMessage) → IsImage disk image → KeepRebuiltBoxes disk store number generation names taken → All (BoxAlike disk image) (boxes_from number generation names)
boxes_alike disk image store number generation [] taken is k = All-nil (BoxAlike disk image)
boxes_alike disk image store number generation (name ∷ names) taken is k =
    All-cons (BoxAlike disk image) (record { number = number; generation = generation; name = name }) (boxes_from (number + 1) generation names) (log_alike disk image (file.Box number generation) (head_of store kind.Box number generation) _ is k.0)
    (boxes_alike disk image store (number + 1) generation names taken is k.1)

file_alike : (first disk : DiskState) (image : Files) (name : FileName) → IsImage disk image → KeepsOld first disk name → image name ≡ files_of disk name
file_alike first disk image name is k = (k.keeps.leaves (image name)).0 (is name) ∙ sym k.keeps.reads

abbrev FileAlike : DiskState → Files → MapRecord → Type 0
FileAlike disk image row = image (file.Mail row.file) ≡ files_of disk (file.Mail row.file)

abbrev InstancesAlike : DiskState → Files → MapRecord → Type 0
InstancesAlike disk image row = All (HasSameInstance (files_of disk) image) row.instances

files_alike : (first disk : DiskState) (image : Files) (uid : ℕ) (taken : List TakenMessage) → IsImage disk image → All (KeepsMessage first disk) taken → All (FileAlike disk image) (records_from uid taken)
files_alike first disk image uid [] is k = All-nil (FileAlike disk image)
files_alike first disk image uid (t ∷ taken) is k =
    All-cons (FileAlike disk image) (record_for uid t) (records_from (uid + 1) taken) (file_alike first disk image (file.Mail t.file) is (All-head (KeepsMessage first disk) t taken k).storage) (files_alike first disk image (uid + 1) taken is (All-tail (KeepsMessage first disk) t taken k))

instances_alike : (first disk : DiskState) (image : Files) (uid : ℕ) (taken : List TakenMessage) → IsImage disk image → All (KeepsMessage first disk) taken → All (InstancesAlike disk image) (records_from uid taken)
instances_alike first disk image uid [] is k = All-nil (InstancesAlike disk image)
instances_alike first disk image uid (t ∷ taken) is k =
    All-cons (InstancesAlike disk image) (record_for uid t) (records_from (uid + 1) taken)
    (All-weaker (λ (i : InstRow). KeepsOld first disk (file.Inst i.hash.0 i.id.0)) (HasSameInstance (files_of disk) image) (λ i o. file_alike first disk image (file.Inst i.hash.0 i.id.0) is o) t.instances (All-head (KeepsMessage first disk) t taken k).instances)
    (instances_alike first disk image (uid + 1) taken is (All-tail (KeepsMessage first disk) t taken k))

regions_alike : (disk : DiskState) (image : Files) (rows : List MapRecord) → All (LiesInFile (files_of disk)) rows → All (FileAlike disk image) rows → All (HasSameRegion (files_of disk) image) rows
regions_alike disk image [] lie same = All-nil (HasSameRegion (files_of disk) image)
regions_alike disk image (row ∷ rows) lie same =
    let l = All-head (LiesInFile (files_of disk)) row rows lie in
    All-cons (HasSameRegion (files_of disk) image) row rows (record { first = l.octets; second = l.octets; in_first = l.there; in_second = All-head (FileAlike disk image) row rows same ∙ l.there; first_holds = l.inside; second_holds = l.inside; same = refl })
    (regions_alike disk image rows (All-tail (LiesInFile (files_of disk)) row rows lie) (All-tail (FileAlike disk image) row rows same))

-- ---- the store

pub settled : (store : List ℕ) (plan : RebuildPlan) (first disk : DiskState) → IsPlanFor (files_of first) store plan → HasNewStore store plan first disk → IsSettled disk (lists_of plan.taken)
settled store plan first disk is k =
    let taken = plan.taken in
    let entries : List MapEntry = rebuilt_map plan.highest plan.box_generation taken plan.skipped in
    let m : MapMeaning = map_meaning store entries in
    let good = rebuild_good (files_of first) taken plan.skipped is.rebuild in
    let numbers = skipped_are_numbered (files_of first) taken plan.skipped is.rebuild in
    let high = highest_in_range (files_of first) store is.rebuild.found plan.highest is.numbers in
    let mg = free_is_number (IsMapUsed (files_of first)) plan.map_generation is.map_free in
    let bg = free_is_number (IsBoxUsed (files_of first)) plan.box_generation is.box_free in
    let logs = logs_read store plan first disk k in
    let safe : SafeBy (files_of disk) store entries (lists_of taken) = safe_by (files_of first) (files_of disk) store plan good numbers high mg bg (All-weaker (KeepsMessage first disk) (HasSameMessage (files_of first) (files_of disk)) (message_read first disk) taken k.rest.messages) logs in
    let made = map_rebuilt (files_of first) store plan.highest plan.box_generation taken plan.skipped good (All-weaker (IsStored (files_of first)) TakenInRange (λ t s. s.in_range) taken good.stored) numbers high bg in
    let mgh = mg.high in
    let root_is : HasRoot (files_of disk) store plan.map_generation = record { before = []; log = logs.root_log; in_range = (omega (arith, mgh), tt) } in
    let one : safe.stands.map_log.generation ≡ plan.map_generation = (root_same (files_of disk) store store safe.stands.map_log.generation plan.map_generation safe.stands.map_log.root root_is).1 in
    record {
      store = store;
      entries = entries;
      safe = safe;
      alike = λ image of. subst (λ (g : ℕ). AreAlike g m (files_of disk) image) (sym one) (record {
        root = log_alike disk image file.Root (head_of store kind.Root 0 0) (root_text (root.M plan.map_generation) ∷ []) of k.root_log;
        map = log_alike disk image (file.Map plan.map_generation) (head_of store kind.Map 0 plan.map_generation) _ of k.rest.map_log;
        boxes = subst (λ (bs : List MapBox). All (BoxAlike disk image) bs) (sym made.boxes_are) (boxes_alike disk image store 1 plan.box_generation (mailboxes_met taken) taken of k.rest.box_logs);
        regions = regions_alike disk image m.records safe.has_all.regions (subst (λ (rows : List MapRecord). All (FileAlike disk image) rows) (sym made.records_are) (files_alike first disk image 1 taken of k.rest.messages));
        instances = subst (λ (rows : List MapRecord). All (InstancesAlike disk image) rows) (sym made.records_are) (instances_alike first disk image 1 taken of k.rest.messages);
      });
    }
