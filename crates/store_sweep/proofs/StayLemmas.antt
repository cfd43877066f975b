-- What the calls of a sweep leave of the storage files and instances.
use Rattle.std.proofs.Common.{inl, inr, ◌≡◌, ℕ, ◌+◌, ◌==◌, ◌&&◌, ◌≤◌, true, false, List, [], ◌∷◌, ◌++◌, length, Option, Some, None, All, refl, sym, ◌∙◌, ap, subst}
use Rattle.std.proofs.lemmas.List.Elements.{All-weaker, All-head, All-tail}
use Rattle.std.proofs.lemmas.Bool.{or_parts, true≢false}
use Rattle.std.specs.Str.{bytes_eq}
use Rattle.disk_model.specs.Disk.{FileState, DiskState, History, IfTold, IsThere, Reaches, MayHold, MayLeave, Unchanged, AfterFailed, EachImage, OthersStay, after, change, cut_to, half_cut, synced, removed, half_removed, reading}
use Rattle.disk_model.specs.declared.name.FileName.{FileName}
use Rattle.disk_model.specs.declared.name.FileName.TheVariants as file
use Rattle.disk_model.proofs.MomentLemmas.{if_told-all, if_told-both}
use Rattle.mdbox_base.specs.declared.entries.InstRow.{InstRow}
use Rattle.model_meaning.specs.MapMeaning.{MapRecord, MapBox, MapMeaning, is_sealed}
use Rattle.model_kept.specs.Kept.{StaysTo, MailIsKept, IsUnknownTo}
use Rattle.model_kept.proofs.KeptLemmas.{ReadsImage, StaysAfter, left_stays, kept_then, kept_unchanged, kept_change, kept_failed, kept_fails_still, kept_beside, log_is_unknown}
use Rattle.model_kept.proofs.CutFileLemmas.{half_cut_stays, cut_stays, synced_narrows}
use Rattle.store_files.specs.Regions.{has_region}
use Rattle.store_sweep.specs.Wanted.{row_names, is_wanted, EndBy}
use Rattle.store_sweep.proofs.HeldLemmas.{reads_there, apart_row, apart_inst}
use Rattle.store_sweep.proofs.CutLemmas.{sync_there}
use Rattle.store_sweep.proofs.ScanLemmas.{none_pass}
use Rattle.store_sweep.proofs.BoxLogLemmas.{Next}
use Rattle.store_sweep.specs.Repaired.{box_name}
use Rattle.gate_log.specs.State.{InspectedLog, IsWholeLog}
use Rattle.disk_model.specs.Name.{is_log}

-- ---- a file that the store doesn't need

pub unwanted_is_unknown : (g : ℕ) (m : MapMeaning) (name : FileName) → is_wanted g m name ≡ false → IsUnknownTo m name
unwanted_is_unknown g m file.Root fails f octets = tt
unwanted_is_unknown g m (file.Map n) fails f octets = tt
unwanted_is_unknown g m (file.Box n o) fails f octets = tt
unwanted_is_unknown g m (file.Mail n) fails f octets =
    let none = or_parts (is_sealed m n) (has_region m n) fails in
    record {
      sealed = λ sealed. absurd (true≢false (sym sealed ∙ none.0));
      regions = All-weaker (λ (row : MapRecord). (row.file == n) ≡ false)
          (λ (row : MapRecord). row.file ≡ n → StaysTo (row.offset + row.size) f octets)
          (λ row apart a. absurd (apart_row n row apart a)) m.records (none_pass (λ (row : MapRecord). row.file == n) m.records none.1);
    }
unwanted_is_unknown g m (file.Inst hash id) fails f octets =
    All-weaker (λ (row : MapRecord). row_names hash id row ≡ false)
    (λ (row : MapRecord). All (λ (inst : InstRow). inst.hash.0 ≡ hash → inst.id.0 ≡ id → MayLeave f octets) row.instances)
    (λ row apart. All-weaker (λ (inst : InstRow). (bytes_eq inst.hash.0 hash && bytes_eq inst.id.0 id) ≡ false)
    (λ (inst : InstRow). inst.hash.0 ≡ hash → inst.id.0 ≡ id → MayLeave f octets)
    (λ inst other a b. absurd (apart_inst hash id inst other a b)) row.instances (none_pass (λ (inst : InstRow). bytes_eq inst.hash.0 hash && bytes_eq inst.id.0 id) row.instances apart))
    m.records (none_pass (row_names hash id) m.records fails)

pub removed_stays : (g : ℕ) (m : MapMeaning) (name : FileName) (old new : Option History) → is_wanted g m name ≡ false → new ≡ after (change name removed) old → MailIsKept m old new
removed_stays g m name old new fails is = kept_change m name removed old new is (if_told-all _ old (λ disk left leaves. unwanted_is_unknown g m name fails (disk name) left))

pub remove_fails : (g : ℕ) (m : MapMeaning) (name : FileName) (old new : Option History) → is_wanted g m name ≡ false → AfterFailed (change name half_removed) old new → MailIsKept m old new
remove_fails g m name old new fails failed = kept_failed m name half_removed old new failed (if_told-all _ old (λ disk left leaves. unwanted_is_unknown g m name fails (disk name) left))

-- ---- a file that is cut and synced

-- what a file reads that is there is what a crash may leave of it
own_octets : (name : FileName) (disk : DiskState) → IsThere (disk name) → ReadsImage disk → MayHold (disk name) (disk name).octets
own_octets name disk there reads = subst (MayLeave (disk name)) (reads_there (disk name) there) (reads name)

after_cut : (m : MapMeaning) (number end : ℕ) (old : Option History) → is_sealed m number ≡ false → EndBy m number end → IfTold old (λ disk. Reaches (disk (file.Mail number)) end) → IfTold old ReadsImage
    → IfTold old (StaysAfter m (file.Mail number) (cut_to end))
after_cut m number end old unsealed ends reaches reads =
    if_told-both _ _ _ old (λ disk reach image. cut_stays m number end (disk (file.Mail number)) unsealed ends (own_octets (file.Mail number) disk reach.0 image) reach.1) reaches reads

after_half : (m : MapMeaning) (number end : ℕ) (old : Option History) → is_sealed m number ≡ false → EndBy m number end → IfTold old (λ disk. Reaches (disk (file.Mail number)) end) → IfTold old ReadsImage
    → IfTold old (StaysAfter m (file.Mail number) (half_cut end))
after_half m number end old unsealed ends reaches reads =
    if_told-both _ _ _ old (λ disk reach image. half_cut_stays m number end (disk (file.Mail number)) unsealed ends (own_octets (file.Mail number) disk reach.0 image) reach.1) reaches reads

after_sync : (m : MapMeaning) (name : FileName) (old : Option History) → IfTold old (λ disk. IsThere (disk name)) → IfTold old ReadsImage → IfTold old (StaysAfter m name synced)
after_sync m name old there reads =
    if_told-both _ _ _ old (λ disk is image left leaves. left_stays m name (disk name) left (synced_narrows (disk name) left (own_octets name disk is image) leaves)) there reads

pub cut_fails_stays : (m : MapMeaning) (number end : ℕ) (old new : Option History) → is_sealed m number ≡ false → EndBy m number end → IfTold old (λ disk. Reaches (disk (file.Mail number)) end) → IfTold old ReadsImage
    → AfterFailed (change (file.Mail number) (half_cut end)) old new → MailIsKept m old new
cut_fails_stays m number end old new unsealed ends reaches reads failed = kept_failed m (file.Mail number) (half_cut end) old new failed (after_half m number end old unsealed ends reaches reads)

cut_is_kept : (m : MapMeaning) (number end : ℕ) (old mid : Option History) → is_sealed m number ≡ false → EndBy m number end → IfTold old (λ disk. Reaches (disk (file.Mail number)) end) → IfTold old ReadsImage
    → mid ≡ after (change (file.Mail number) (cut_to end)) old → MailIsKept m old mid
cut_is_kept m number end old mid unsealed ends reaches reads is = kept_change m (file.Mail number) (cut_to end) old mid is (after_cut m number end old unsealed ends reaches reads)

pub sync_fails_stays : (m : MapMeaning) (number end : ℕ) (old mid new : Option History) → is_sealed m number ≡ false → EndBy m number end → IfTold old (λ disk. Reaches (disk (file.Mail number)) end) → IfTold old ReadsImage
    → mid ≡ after (change (file.Mail number) (cut_to end)) old → AfterFailed (λ disk. disk) mid new → MailIsKept m old new
sync_fails_stays m number end old mid new unsealed ends reaches reads is failed = kept_fails_still m old mid new (cut_is_kept m number end old mid unsealed ends reaches reads is) failed

pub shortened_stays : (m : MapMeaning) (number end : ℕ) (old mid new : Option History) → is_sealed m number ≡ false → EndBy m number end → IfTold old (λ disk. Reaches (disk (file.Mail number)) end) → IfTold old ReadsImage → IfTold mid ReadsImage
    → mid ≡ after (change (file.Mail number) (cut_to end)) old → new ≡ after (change (file.Mail number) synced) mid → MailIsKept m old new
shortened_stays m number end old mid new unsealed ends reaches reads reads_mid is synced_is =
    kept_then m old mid new reads_mid (cut_is_kept m number end old mid unsealed ends reaches reads is)
    (kept_change m (file.Mail number) synced mid new synced_is (after_sync m (file.Mail number) mid (sync_there number end old mid reaches is) reads_mid))

-- ---- one part after another

pub walk_stays : (m : MapMeaning) (old now mid new : Option History) → MailIsKept m old now → IfTold mid ReadsImage → Unchanged now mid → MailIsKept m mid new → MailIsKept m old new
walk_stays m old now mid new kept reads unchanged last = kept_then m old mid new reads (kept_unchanged m old now mid kept unchanged) last

-- ---- a log that is repaired

box_is_log : (m : MapMeaning) (name : FileName) (box : MapBox) → name ≡ box_name box → IsUnknownTo m name
box_is_log m name box is = log_is_unknown m name (ap is_log is)

pub repair_stays : (m : MapMeaning) (log : InspectedLog) (name : FileName) (old new : Option History) → log.name ≡ name → is_log name ≡ true → EachImage (λ _ image. OthersStay log.name old image) old new → MailIsKept m old new
repair_stays m log name old new is named each = kept_beside m log.name old new (log_is_unknown m log.name (ap is_log is ∙ named)) each

pub box_stays : (m : MapMeaning) (done : List InspectedLog) (log : InspectedLog) (old now new : Option History) → Next m done log → MailIsKept m old now → IfTold now ReadsImage
    → EachImage (λ _ image. OthersStay log.name now image) now new → MailIsKept m old new
box_stays m done log old now new next kept reads each = kept_then m old now new reads kept (kept_beside m log.name now new (box_is_log m log.name next.box next.name) each)

-- ---- whole logs aren't changed

pub whole_log : (done : List InspectedLog) (log : InspectedLog) (rest logs : List InspectedLog) → done ++ log ∷ rest ≡ logs → All IsWholeLog logs → IsWholeLog log
whole_log [] log rest logs e whole = All-head IsWholeLog log rest (subst (All IsWholeLog) (sym e) whole)
whole_log (first ∷ done) log rest logs e whole = whole_log done log rest (done ++ log ∷ rest) refl (All-tail IsWholeLog first (done ++ log ∷ rest) (subst (All IsWholeLog) (sym e) whole))
