-- Disks on which one log was made, changed or removed that the store doesn't need: nothing that a store reads has changed.
use Rattle.store_core.proofs.Common.{◌⊎◌, option_map, inl, inr, ◌≡◌, ◌≢◌, ℕ, false, List, [], ◌∷◌, map, length, Option, Some, None, All, refl, sym, ◌∙◌, ap, subst, All-head, All-tail, All-weaker, true≢false, FileState, DiskState, History, IfTold, Between}
use Rattle.store_core.proofs.Common.{IsThere, MayLeave, EachImage, OthersStay, SameButFor, removed, no_file, reading, named, FileName, between-on, between-map, reads_there, each_image-map, named-narrows, LogState, IsLogRead, Reads, NamedButFor, BoxEntry, MapEntry}
use Rattle.store_core.proofs.Common.{Lists, box_text, map_text, MapRecord, MapBox, MapMeaning, map_meaning, Opens, Safe, files_of, IsSettled, IsSettledFor, Leaves, HasRoot, StoresMessage, IsSameRegion, HasSameRegion}
use Rattle.store_core.proofs.Common.{kept_along, map_same, root_same, log_as, MailFile, end_in, OthersAreNamed, KeepsStored, StayThere, IsUnnamed, AreBoxLogs, ReadBoxLogs, IsRunning, IsStore, StoreValue}
use Rattle.store_core.proofs.Common.{OpenBox}
use Rattle.disk_model.specs.Disk.{after, change, change_all}
use Rattle.disk_model.specs.Name.{IsLogName}
use Rattle.disk_model.specs.declared.name.FileName.TheVariants as file
use Rattle.disk_model.proofs.FirmLemmas.{reading_from_there}
use Rattle.disk_model.proofs.OneFileLemmas.{change-here, change-other}
use Rattle.model_rewritten.specs.Unneeded.{IsBeside, IsUnneeded}
use Rattle.model_rewritten.proofs.OutOfForceLemmas.{unneeded_mailbox}
use Rattle.model_rewritten.proofs.UnneededLemmas.{unneeded_opens, unneeded_safe, unneeded_settled}
use Rattle.store_core.specs.Drafts.{IsOutOfForce}
use Rattle.store_core.proofs.MailChangeLemmas.{Own, named_reads}

-- ---- what has changed

beside_named : (name : FileName) (a b : DiskState) → ((other : FileName) → other ≢ name → b other ≡ named (a other)) → IsBeside name a b
beside_named name a b same = record {
  reads = λ other apart. ap reading (same other apart) ∙ named_reads (a other);
  leaves = λ other apart left h. named-narrows (a other) left (subst (λ (f : FileState). MayLeave f left) (same other apart) h);
}

-- each other file is as it was, with its name synced
pub named_but : (name : FileName) (old new : Option History) → NamedButFor name old new → OthersAreNamed name old new
named_but name None new same = same
named_but name (Some old) None same = absurd same
named_but name (Some old) (Some new) same = same

pub besides : (name : FileName) (old new : Option History) → OthersAreNamed name old new → Between (IsBeside name) old new
besides name old new same = between-map (λ a b. (other : FileName) → other ≢ name → b other ≡ named (a other)) (IsBeside name) old new (λ a b s. beside_named name a b s) same

-- each other file is as it was
pub besides_same : (name : FileName) (old new : Option History) → SameButFor name old new → Between (IsBeside name) old new
besides_same name None new same = same
besides_same name (Some old) None same = absurd same
besides_same name (Some old) (Some new) same = record {
  reads = λ other apart. ap reading (same other apart);
  leaves = λ other apart left h. subst (λ (f : FileState). MayLeave f left) (same other apart) h;
}

-- ---- which logs the store doesn't need

-- a mailbox that the map doesn't have has no log in force
pub unnamed_free : (n gen : ℕ) (m : MapMeaning) → IsUnnamed n m → IsOutOfForce n gen m
unnamed_free n gen m unnamed = All-weaker (λ (box : MapBox). box.number ≢ n) (λ (box : MapBox). box.number ≡ n → box.generation ≢ gen) (λ box apart is same. absurd (apart is)) m.boxes unnamed

-- it is the name of no storage file and of no instance
no_mail : (name : FileName) (n : ℕ) → IsLogName name → file.Mail n ≢ name
no_mail name n is e = let w : IsLogName (file.Mail n) = subst IsLogName (sym e) is in true≢false (sym w)

no_instance : (name : FileName) (hash id : List ℕ) → IsLogName name → file.Inst hash id ≢ name
no_instance name hash id is e = let w : IsLogName (file.Inst hash id) = subst IsLogName (sym e) is in true≢false (sym w)

-- ---- what a store reads

region_beside : (name : FileName) (a b : DiskState) (row : MapRecord) → IsLogName name → IsBeside name a b → HasSameRegion (files_of a) (files_of a) row → HasSameRegion (files_of a) (files_of b) row
region_beside name a b row is c l = subst (λ (o : Option (List ℕ)). IsSameRegion (reading (a (file.Mail row.file))) o row) (sym (c.reads (file.Mail row.file) (no_mail name row.file is))) l

-- records store what they stored
stored_beside : (name : FileName) (a b : DiskState) (row : MapRecord) (octets : List ℕ) → IsLogName name → IsBeside name a b → StoresMessage (files_of a) row octets → StoresMessage (files_of b) row octets
stored_beside name a b row octets is c h =
    kept_along (files_of a) (files_of b) row octets
    (region_beside name a b row is c (record { first = h.stored.octets_there; second = h.stored.octets_there; in_first = h.stored.there; in_second = h.stored.there; first_holds = h.stored.inside; second_holds = h.stored.inside; same = refl }))
    (λ k d lt. c.reads (file.Inst _ _) (no_instance name _ _ is)) h

root_beside : (name : FileName) (a b : DiskState) (store : List ℕ) (generation : ℕ) → name ≢ file.Root → IsBeside name a b → HasRoot (files_of a) store generation → HasRoot (files_of b) store generation
root_beside name a b store generation apart c h = record {
  before = h.before;
  log = log_as (files_of a) (files_of b) file.Root _ _ (c.reads file.Root (λ e. apart (sym e))) h.log;
  in_range = h.in_range;
}

-- ---- the store

-- a settled disk has the map that the store knows, in the generation that it knows
pub map_known : {D : Type 0} → (old : History) (v : StoreValue D) (lists : Lists) (settled : IsSettled old.now lists) → IsStore (Some old) v → v.stopped ≡ false → v.map ≡ map_meaning settled.store settled.entries
map_known old v lists settled s runs =
    let one = map_same (files_of old.now) v.map.store settled.store s.entries settled.entries (s.running runs).opens.passed.map_log settled.safe.stands.map_log in
    s.map_is ∙ ap (λ (id : List ℕ). map_meaning id s.entries) one.0 ∙ ap (map_meaning settled.store) one.1

free_known : {D : Type 0} → (old : History) (v : StoreValue D) (name : FileName) (lists : Lists) (settled : IsSettled old.now lists) → (s : IsStore (Some old) v) → v.stopped ≡ false → IsUnneeded s.generation v.map name
    → IsUnneeded settled.safe.stands.map_log.generation (map_meaning settled.store settled.entries) name
free_known old v name lists settled s runs free =
    let one = (root_same (files_of old.now) v.map.store settled.store s.generation settled.safe.stands.map_log.generation (s.running runs).root settled.safe.stands.map_log.root).1 in
    subst (λ (g : ℕ). IsUnneeded g (map_meaning settled.store settled.entries) name) one (subst (λ (m : MapMeaning). IsUnneeded s.generation m name) (map_known old v lists settled s runs) free)

pub leaves_free : {D : Type 0} → (name : FileName) (old new : Option History) (v : StoreValue D) → (s : IsStore old v) → v.stopped ≡ false → IsUnneeded s.generation v.map name → IfTold old Own → EachImage (λ _ image. OthersStay name old image) old new
    → (lists : Lists) → IsSettledFor lists old → Leaves lists lists old new
leaves_free name None new v s runs free own each lists settled = absurd settled
leaves_free name (Some old) new v s runs free own each lists settled =
    each_image-map (λ _ image. OthersStay name (Some old) image) (λ _ image. Safe image lists ⊎ Safe image lists) (Some old) new
    (λ moment image i. inl (unneeded_safe old.now lists name image settled own (free_known old v name lists settled s runs free) i)) each

pub settled_free : {D : Type 0} → (name : FileName) (old new : Option History) (v : StoreValue D) → (s : IsStore old v) → v.stopped ≡ false → IsUnneeded s.generation v.map name → IfTold old Own → Between (IsBeside name) old new → (lists : Lists) → IsSettledFor lists old → IsSettledFor lists new
settled_free name None new v s runs free own change lists settled = absurd settled
settled_free name (Some old) None v s runs free own change lists settled = absurd change
settled_free name (Some old) (Some new) v s runs free own change lists settled = unneeded_settled old.now new.now lists name settled own (free_known old v name lists settled s runs free) change

pub stored_free : (name : FileName) (old new : Option History) → IsLogName name → Between (IsBeside name) old new → KeepsStored old new
stored_free name old new is change =
    between-map (IsBeside name) (λ a b. (row : MapRecord) (octets : List ℕ) → StoresMessage (files_of a) row octets → StoresMessage (files_of b) row octets) old new (λ a b c row octets h. stored_beside name a b row octets is c h) change

pub reads_beside : (name : FileName) (log : LogState) (entries : List (List ℕ)) (old new : Option History) → Between (IsBeside name) old new → log.name ≢ name → Reads log entries old → Reads log entries new
reads_beside name log entries old new change apart r =
    between-on (IsBeside name) (IsLogRead log entries) (IsLogRead log entries) old new (λ a b c i. record { file = c.reads log.name apart ∙ i.file; end = i.end; count = i.count; head_fits = i.head_fits; entries_fit = i.entries_fit }) change r

pub boxes_beside : (name : FileName) (store : List ℕ) (mailboxes : List MapBox) (boxes : List OpenBox) (logs : List (List BoxEntry)) (old new : Option History) → Between (IsBeside name) old new → All (λ box. file.Box box.number box.generation ≢ name) mailboxes → AreBoxLogs store mailboxes boxes
    → ReadBoxLogs old boxes logs → ReadBoxLogs new boxes logs
boxes_beside name store [] [] [] old new change free a r = tt
boxes_beside name store [] [] (l ∷ ls) old new change free a r = absurd r
boxes_beside name store [] (b ∷ bs) logs old new change free a r = absurd a
boxes_beside name store (m ∷ ms) [] logs old new change free a r = absurd a
boxes_beside name store (m ∷ ms) (b ∷ bs) [] old new change free a r = absurd r
boxes_beside name store (m ∷ ms) (b ∷ bs) (l ∷ ls) old new change free a r = (
  reads_beside name b.log (map box_text l) old new change (λ e. All-head (λ (box : MapBox). file.Box box.number box.generation ≢ name) m ms free (sym a.1 ∙ e)) r.0,
  boxes_beside name store ms bs ls old new change (All-tail (λ (box : MapBox). file.Box box.number box.generation ≢ name) m ms free) a.3 r.1,
)

there_before : (f g : FileState) → reading g ≡ reading f → IsThere g → IsThere f
there_before f g same there = (reads_there f g.octets (sym same ∙ reading_from_there g there)).0

stay_beside : (name : FileName) (files : List MailFile) (rows : List MapRecord) (a b : DiskState) → IsLogName name → IsBeside name a b → StayThere files rows a → StayThere files rows b
stay_beside name files rows a b is c stay = λ number f found grows there.
    let apart = no_mail name number is in
    elim (stay number f found grows (there_before (a (file.Mail number)) (b (file.Mail number)) (c.reads (file.Mail number) apart) there)) [
      | inl has ↦ inl has
      | inr firm ↦ inr (λ gone. firm (c.leaves (file.Mail number) apart None gone))
    ]

opens_beside : (name : FileName) (generation : ℕ) (a b : DiskState) (store : List ℕ) (entries : List MapEntry) (logs : List (List BoxEntry)) → IsUnneeded generation (map_meaning store entries) name → HasRoot (files_of a) store generation → IsBeside name a b → Opens (files_of a) store entries logs
    → Opens (files_of b) store entries logs
opens_beside name generation a b store entries logs free root c o =
    let one = (root_same (files_of a) store store generation o.passed.map_log.generation root o.passed.map_log.root).1 in
    unneeded_opens (files_of a) (files_of b) store entries logs name o (subst (λ (g : ℕ). IsUnneeded g (map_meaning store entries) name) one free) (λ other apart. c.reads other apart)

opens_then : (name : FileName) (generation : ℕ) (old new : Option History) (store : List ℕ) (entries : List MapEntry) (logs : List (List BoxEntry)) → IsUnneeded generation (map_meaning store entries) name → Between (IsBeside name) old new → IfTold old (λ now. HasRoot (files_of now) store generation)
    → IfTold old (λ now. Opens (files_of now) store entries logs) → IfTold new (λ now. Opens (files_of now) store entries logs)
opens_then name generation None new store entries logs free change root o = subst (λ (h : Option History). IfTold h (λ now. Opens (files_of now) store entries logs)) (sym change) tt
opens_then name generation (Some old) None store entries logs free change root o = absurd change
opens_then name generation (Some old) (Some new) store entries logs free change root o = opens_beside name generation old.now new.now store entries logs free root change o

runs_beside : {D : Type 0} → (name : FileName) (old new : Option History) (v : StoreValue D) (disk : D) (made : List OpenBox) → (s : IsStore old v) → Between (IsBeside name) old new → IsUnneeded s.generation v.map name → IsRunning old s.generation v s.entries s.logs
    → IsRunning new s.generation (record v { disk = disk; made = made }) s.entries s.logs
runs_beside name old new v disk made s change free r = record {
  opens = opens_then name s.generation old new v.map.store s.entries s.logs (subst (λ (m : MapMeaning). IsUnneeded s.generation m name) s.map_is free) change r.root r.opens;
  root = between-on (IsBeside name) (λ now. HasRoot (files_of now) v.map.store s.generation) (λ now. HasRoot (files_of now) v.map.store s.generation) old new (λ a b c h. root_beside name a b v.map.store s.generation free.no_root c h) change r.root;
  root_entries = r.root_entries;
  root_log_reads = reads_beside name v.root_log r.root_entries old new change (λ e. free.no_root (sym e ∙ s.root_name)) r.root_log_reads;
  map_log_reads = reads_beside name v.map_log (map map_text s.entries) old new change (λ e. free.no_map (sym e ∙ s.map_name)) r.map_log_reads;
  box_logs_read = boxes_beside name v.map.store v.map.boxes v.boxes s.logs old new change free.no_box s.box_logs r.box_logs_read;
  files_known = λ number. between-on (IsBeside name) (λ disk. option_map length (reading (disk (file.Mail number))) ≡ end_in number v.files.files) (λ disk. option_map length (reading (disk (file.Mail number))) ≡ end_in number v.files.files) old new
      (λ a b c e. ap (option_map length) (c.reads (file.Mail number) (no_mail name number free.is)) ∙ e) change (r.files_known number);
  files_stay = between-on (IsBeside name) (StayThere v.files.files v.map.records) (StayThere v.files.files v.map.records) old new (λ a b c h. stay_beside name v.files.files v.map.records a b free.is c h) change r.files_stay;
}

-- a store that runs, on the disk afterwards, with these logs that were made
pub store_free : {D : Type 0} → (name : FileName) (old new : Option History) (v : StoreValue D) (disk : D) (made : List OpenBox) → (s : IsStore old v) → v.stopped ≡ false → IsUnneeded s.generation v.map name → Between (IsBeside name) old new → IsStore new (record v { disk = disk; made = made })
store_free name old new v disk made s runs free change = record {
  entries = s.entries;
  logs = s.logs;
  generation = s.generation;
  good = s.good;
  map_is = s.map_is;
  boxes_are = s.boxes_are;
  counts = s.counts;
  drawn = s.drawn;
  files = s.files;
  root_name = s.root_name;
  root_head = s.root_head;
  map_name = s.map_name;
  map_head = s.map_head;
  box_logs = s.box_logs;
  some_lanes = s.some_lanes;
  few_lanes = s.few_lanes;
  running = λ _. runs_beside name old new v disk made s change free (s.running runs);
}

-- ---- the log of a mailbox

pub leaves_beside : {D : Type 0} → (n gen : ℕ) (old new : Option History) (v : StoreValue D) → IsStore old v → v.stopped ≡ false → IsOutOfForce n gen v.map → IfTold old Own → EachImage (λ _ image. OthersStay (file.Box n gen) old image) old new
    → (lists : Lists) → IsSettledFor lists old → Leaves lists lists old new
leaves_beside n gen old new v s runs free own each = leaves_free (file.Box n gen) old new v s runs (unneeded_mailbox s.generation v.map n gen free) own each

pub settled_then : {D : Type 0} → (n gen : ℕ) (old new : Option History) (v : StoreValue D) → IsStore old v → v.stopped ≡ false → IsOutOfForce n gen v.map → IfTold old Own → Between (IsBeside (file.Box n gen)) old new → (lists : Lists) → IsSettledFor lists old → IsSettledFor lists new
settled_then n gen old new v s runs free own change = settled_free (file.Box n gen) old new v s runs (unneeded_mailbox s.generation v.map n gen free) own change

pub stored_then : (n gen : ℕ) (old new : Option History) → Between (IsBeside (file.Box n gen)) old new → KeepsStored old new
stored_then n gen old new change = stored_free (file.Box n gen) old new refl change

pub store_beside : {D : Type 0} → (n gen : ℕ) (old new : Option History) (v : StoreValue D) (disk : D) (made : List OpenBox) → IsStore old v → v.stopped ≡ false → IsOutOfForce n gen v.map → Between (IsBeside (file.Box n gen)) old new → IsStore new (record v { disk = disk; made = made })
store_beside n gen old new v disk made s runs free change = store_free (file.Box n gen) old new v disk made s runs (unneeded_mailbox s.generation v.map n gen free) change

-- ---- a log that was removed, before a sync of all names

pub removed_gone : (name : FileName) (old now new : Option History) → now ≡ after (change name removed) old → new ≡ after (change_all named) now → IfTold new (λ disk. disk name ≡ no_file)
removed_gone name None now new a b = subst (λ (h : Option History). IfTold h (λ disk. disk name ≡ no_file)) (sym (b ∙ ap (after (change_all named)) a)) tt
removed_gone name (Some old) now new a b = subst (λ (h : Option History). IfTold h (λ disk. disk name ≡ no_file)) (sym (b ∙ ap (after (change_all named)) a)) (ap named (change-here name removed old.now))

pub removed_others : (name : FileName) (old now new : Option History) → now ≡ after (change name removed) old → new ≡ after (change_all named) now → NamedButFor name old new
removed_others name None now new a b = b ∙ ap (after (change_all named)) a
removed_others name (Some old) now new a b = subst (λ (h : Option History). NamedButFor name (Some old) h) (sym (b ∙ ap (after (change_all named)) a)) (λ other apart. ap named (change-other name other removed old.now apart))
