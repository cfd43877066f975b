-- The whole sweep, for a disk that opened.
use Rattle.std.proofs.Common.{inl, inr, ◌≡◌, ℕ, ◌+◌, ◌≤◌, ◌==◌, max, ◌∷◌, [], true, List, length, Option, Some, None, All, sym, ◌∙◌, subst, arith}
use Rattle.std.specs.Prelude.{fold}
use Rattle.std.specs.List.{AllZip}
use Rattle.std.proofs.lemmas.List.Elements.{All-head, All-tail, All-weaker}
use Rattle.std.proofs.lemmas.Bool.{cases_Bool, eqb-true, cond-true, cond-false}
use Rattle.std.proofs.lemmas.Option.{same_Some}
use Rattle.disk_model.specs.Disk.{Files, FileState, DiskState, History, IfTold, IsThere, IsImage, EachImage, reading, Between}
use Rattle.disk_model.specs.declared.name.FileName.{FileName}
use Rattle.disk_model.specs.declared.name.FileName.TheVariants as file
use Rattle.disk_model.proofs.BetweenLemmas.{between-map}
use Rattle.disk_model.proofs.MomentLemmas.{each_image-map}
use Rattle.model_lists.specs.Lists.{Lists}
use Rattle.model_store.specs.Safe.{Safe}
use Rattle.map_index.specs.Shown.{region_end}
use Rattle.model_meaning.specs.MapMeaning.{MapRecord, MapMeaning}
use Rattle.model_store.specs.Settled.{files_of, IsSameRegion, IsSettled, IsSettledFor}
use Rattle.model_rewritten.specs.CarriedStore.{CarriesMail}
use Rattle.model_store.specs.Carrying.{CarryOver}
use Rattle.model_store.proofs.CarryingLemmas.{each_name}
use Rattle.gate_log.specs.State.{LogState, InspectedLog}
use Rattle.gate_log.specs.Log.{IsFound, IsFoundKept}
use Rattle.store_sweep.specs.Held.{IsReadStore}
use Rattle.store_sweep.specs.Moments.{ImagesCarry, KeepsStore, LogStays}
use Rattle.store_sweep.specs.Repaired.{IsRepaired, AreLogsOfBoxes}
use Rattle.store_sweep.specs.Swept.{OpensWith, FilesCarry, IsOpened, EndWithRegions}
use Rattle.disk_model.specs.Name.{is_log}
use Rattle.store_files.specs.Regions.{end_of}
use Rattle.store_sweep.specs.Wanted.{is_wanted, EndsByLastRegion}
use Rattle.store_sweep.proofs.HeldLemmas.{reads_there}
use Rattle.store_sweep.proofs.RepairLemmas.{IsLogAt, repair_kept, repaired_stays}
use Rattle.store_sweep.proofs.LogsInForceLemmas.{IsBoxLog, box_logs, box_at, box_is_log, box_is_wanted, root_at, root_is_log, root_is_wanted, map_at, map_is_log, map_is_wanted}
use Rattle.store_sweep.proofs.HeldStoreLemmas.{held_opened, carried_safe, still_settled, reads_opened}

abbrev pub ReadsImage : DiskState → Type 0
ReadsImage disk = IsImage disk (λ name. reading (disk name))

-- ---- at every moment

pub safe_images : (g : ℕ) (m : MapMeaning) (lists : Lists) (old new : Option History) → IfTold old ReadsImage → IfTold old (OpensWith g m) → ImagesCarry g m old new → IsSettledFor lists old → EachImage (λ _ image. Safe image lists) old new
safe_images g m lists None new image opens images s = absurd s
safe_images g m lists (Some old) new image opens images s =
    each_image-map (λ _ left. CarryOver g m (files_of old.now) left) (λ _ left. Safe left lists) (Some old) new
    (λ moment left carry. carried_safe g m old.now lists left opens s carry) (images (files_of old.now) (held_opened g m old.now lists opens image s))

-- ---- afterwards

untold : (g : ℕ) (m : MapMeaning) (new : Option History) → ImagesCarry g m None new → new ≡ None
untold g m new images = images (λ name. None) tt

pub settled_after : (g : ℕ) (m : MapMeaning) (lists : Lists) (old new : Option History) → IfTold old ReadsImage → IfTold old (OpensWith g m) → ImagesCarry g m old new → KeepsStore g m old new
    → IsSettledFor lists old → IsSettledFor lists new
settled_after g m lists None new image opens images keeps s = absurd s
settled_after g m lists (Some old) None image opens images keeps s = absurd (keeps.told tt)
settled_after g m lists (Some old) (Some new) image opens images keeps s =
    still_settled g m old.now new.now lists opens s (keeps.holds (files_of old.now) (held_opened g m old.now lists opens image s)) (keeps.reads (files_of old.now) (reads_opened g m old.now opens))

pub files_carry : (g : ℕ) (m : MapMeaning) (old new : Option History) → IfTold old (OpensWith g m) → ImagesCarry g m old new → KeepsStore g m old new → FilesCarry g m old new
files_carry g m None new opens images keeps = untold g m new images
files_carry g m (Some old) None opens images keeps = absurd (keeps.told tt)
files_carry g m (Some old) (Some new) opens images keeps = each_name g m (files_of old.now) (files_of new.now) (keeps.reads (files_of old.now) (reads_opened g m old.now opens))

-- the regions and instances of what is carried over
mail_of : (g : ℕ) (m : MapMeaning) (a b : Files) → CarryOver g m a b → CarriesMail m a b
mail_of g m a b carry = record { regions = carry.regions; instances = carry.instances }

pub mail_carries : (g : ℕ) (m : MapMeaning) (old new : Option History) → FilesCarry g m old new → Between (λ was now. CarriesMail m (files_of was) (files_of now)) old new
mail_carries g m old new carry = between-map _ _ old new (λ a b. mail_of g m (files_of a) (files_of b)) carry

-- ---- the logs

kept_log : (g : ℕ) (m : MapMeaning) (lists : Lists) (log : InspectedLog) (entries : List (List ℕ)) (old : Option History) → IfTold old ReadsImage → IfTold old (OpensWith g m) → IsLogAt g m log.name → IfTold old (λ disk. IsSettled disk lists) → IfTold old (IsFound log entries) → IfTold old (IsFoundKept log entries)
kept_log g m lists log entries None image opens at s h = tt
kept_log g m lists log entries (Some old) image opens at s h = repair_kept g m (files_of old.now) log entries (Some old) at h (held_opened g m old.now lists opens image s)

opened_log : (g : ℕ) (m : MapMeaning) (log : InspectedLog) (gate : LogState) (old mid new : Option History) → IfTold old ReadsImage → IfTold old (OpensWith g m) → IsLogAt g m log.name → LogStays log.name mid new → IsRepaired old mid log gate → IsOpened old new log gate
opened_log g m log gate old mid new image opens at stays r =
    let s : IsRepaired old new log gate = repaired_stays log gate old mid new stays r in
    record { is = s.is; reads = s.reads; holds = λ lists entries settled h. s.holds entries (kept_log g m lists log entries old image opens at settled h) }

pub opened_map : (g : ℕ) (m : MapMeaning) (log : InspectedLog) (gate : LogState) (old mid new : Option History) → IfTold old ReadsImage → IfTold old (OpensWith g m) → log.name ≡ file.Map g
    → ((name : FileName) → is_log name ≡ true → is_wanted g m name ≡ true → LogStays name mid new) → IsRepaired old mid log gate → IsOpened old new log gate
opened_map g m log gate old mid new image opens is stays r = opened_log g m log gate old mid new image opens (map_at g m log is) (stays log.name (map_is_log g log is) (map_is_wanted g m log is)) r

pub opened_root : (g : ℕ) (m : MapMeaning) (log : InspectedLog) (gate : LogState) (old mid new : Option History) → IfTold old ReadsImage → IfTold old (OpensWith g m) → log.name ≡ file.Root
    → ((name : FileName) → is_log name ≡ true → is_wanted g m name ≡ true → LogStays name mid new) → IsRepaired old mid log gate → IsOpened old new log gate
opened_root g m log gate old mid new image opens is stays r = opened_log g m log gate old mid new image opens (root_at g m log is) (stays log.name (root_is_log log is) (root_is_wanted g m log is)) r

opened_each : (g : ℕ) (m : MapMeaning) (logs : List InspectedLog) (gates : List LogState) (old mid new : Option History) → IfTold old ReadsImage → IfTold old (OpensWith g m) → All (IsBoxLog m) logs
    → ((name : FileName) → is_log name ≡ true → is_wanted g m name ≡ true → LogStays name mid new) → AllZip (IsRepaired old mid) logs gates → AllZip (IsOpened old new) logs gates
opened_each g m [] [] old mid new image opens boxes stays z = tt
opened_each g m [] (gate ∷ gates) old mid new image opens boxes stays z = absurd z
opened_each g m (log ∷ logs) [] old mid new image opens boxes stays z = absurd z
opened_each g m (log ∷ logs) (gate ∷ gates) old mid new image opens boxes stays z =
    let own : IsBoxLog m log = All-head (IsBoxLog m) log logs boxes in (
      opened_log g m log gate old mid new image opens (box_at g m log own) (stays log.name (box_is_log m log own) (box_is_wanted g m log own)) z.0,
      opened_each g m logs gates old mid new image opens (All-tail (IsBoxLog m) log logs boxes) stays z.1,
    )

pub opened_boxes : (g : ℕ) (m : MapMeaning) (logs : List InspectedLog) (gates : List LogState) (old mid new : Option History) → IfTold old ReadsImage → IfTold old (OpensWith g m) → AreLogsOfBoxes m logs
    → ((name : FileName) → is_log name ≡ true → is_wanted g m name ≡ true → LogStays name mid new) → AllZip (IsRepaired old mid) logs gates → AllZip (IsOpened old new) logs gates
opened_boxes g m logs gates old mid new image opens names stays z = opened_each g m logs gates old mid new image opens (box_logs m logs names) stays z

-- ---- the ends of storage files

most_below : {X : Type 0} → (f : X → ℕ) (from bound : ℕ) (xs : List X) → from ≤ bound → All (λ x. f x ≤ bound) xs → fold (λ most x. max most (f x)) from xs ≤ bound
most_below f from bound [] start all = start
most_below f from bound (x ∷ xs) start all = most_below f (max from (f x)) bound xs (let h = All-head (λ y. f y ≤ bound) x xs all in omega (arith, h, start)) (All-tail (λ y. f y ≤ bound) x xs all)

region_ends : (found : Option (List ℕ)) (row : MapRecord) (f : FileState) → IsThere f → IsSameRegion found (reading f) row → row.offset + row.size ≤ length f.octets
region_ends found row f there s =
    let e : s.second ≡ f.octets = same_Some _ _ (sym s.in_second ∙ reads_there f there) in
    subst (λ (o : List ℕ). row.offset + row.size ≤ length o) e s.second_holds

ends_below : (n bound : ℕ) (row : MapRecord) → (row.file ≡ n → row.offset + row.size ≤ bound) → region_end n row ≤ bound
ends_below n bound row h = elim (cases_Bool (row.file == n)) [
  | inl same ↦ let e : region_end n row ≡ row.offset + row.size = cond-true (row.file == n) (row.offset + row.size) 0 same in let b = h (eqb-true row.file n same) in omega (arith, e, b)
  | inr apart ↦ let e : region_end n row ≡ 0 = cond-false (row.file == n) (row.offset + row.size) 0 apart in omega (arith, e)
]

end_reached : (g : ℕ) (m : MapMeaning) (found : Files) (n : ℕ) (disk : DiskState) → IsReadStore g m found disk → IsThere (disk (file.Mail n)) → end_of m n ≤ length (disk (file.Mail n)).octets
end_reached g m found n disk r there =
    most_below (region_end n) 0 (length (disk (file.Mail n)).octets) m.records (omega arith)
    (All-weaker (λ (row : MapRecord). row.file ≡ n → IsSameRegion (found (file.Mail n)) (reading (disk (file.Mail n))) row) (λ (row : MapRecord). region_end n row ≤ length (disk (file.Mail n)).octets)
    (λ row h. ends_below n (length (disk (file.Mail n)).octets) row (λ own. region_ends (found (file.Mail n)) row (disk (file.Mail n)) there (h own))) m.records (r (file.Mail n)))

pub end_with_regions : (g : ℕ) (m : MapMeaning) (old new : Option History) → IfTold old (OpensWith g m) → ImagesCarry g m old new → KeepsStore g m old new
    → IfTold new (λ disk. (name : FileName) → IsThere (disk name) → EndsByLastRegion m name (disk name)) → IfTold new (EndWithRegions m)
end_with_regions g m None new opens images keeps cut = subst (λ (h : Option History). IfTold h (EndWithRegions m)) (sym (untold g m new images)) tt
end_with_regions g m (Some old) None opens images keeps cut = tt
end_with_regions g m (Some old) (Some new) opens images keeps cut = λ n there open_file.
    let low : end_of m n ≤ length (new.now (file.Mail n)).octets = end_reached g m (files_of old.now) n new.now (keeps.reads (files_of old.now) (reads_opened g m old.now opens)) there in
    let high : length (new.now (file.Mail n)).octets ≤ end_of m n = cut (file.Mail n) there open_file in
    omega (arith, low, high)
