-- A disk that holds a store: what a crash leaves of it, name by name, and what the calls of a sweep keep.
use Rattle.std.proofs.Common.{◌≡◌, inl, inr, ℕ, ◌+◌, ◌==◌, ◌&&◌, ◌≤◌, true, false, List, length, take, Option, Some, None, All, refl, sym, ◌∙◌, ap, subst}
use Rattle.std.proofs.lemmas.List.Elements.{All-weaker}
use Rattle.std.proofs.lemmas.Bool.{true≢false, eq-eqb, and_from, or_parts, cases_Bool, cond-true, cond-false}
use Rattle.std.proofs.lemmas.Slice.Eq.{bytes_eq-Decides}
use Rattle.std.specs.Str.{bytes_eq}
use Rattle.disk_model.specs.Disk.{Files, FileState, DiskState, IsThere, Reaches, MayLeave, MayHold, IsImage, Keeps, reading, named, no_file, change, cut_to, half_cut, synced}
use Rattle.disk_model.specs.Name.{same_name}
use Rattle.disk_model.specs.declared.name.FileName.{FileName}
use Rattle.disk_model.specs.declared.name.FileName.TheVariants as file
use Rattle.disk_model.proofs.NameLemmas.{same_name-true, same_name-eq}
use Rattle.disk_model.proofs.OneFileLemmas.{change-here, change-other, named-narrows}
use Rattle.mdbox_base.specs.declared.entries.InstRow.{InstRow}
use Rattle.model_meaning.specs.MapMeaning.{MapRecord, MapBox, MapMeaning, is_sealed}
use Rattle.model_store.specs.Settled.{IsSameRegion}
use Rattle.model_store.specs.Carrying.{HasSameEntries, CarryOver, CarriesOver}
use Rattle.model_store.proofs.CarryingLemmas.{each_name}
use Rattle.store_sweep.specs.Held.{IsHeldLog, IsFirmRegion, IsHeldInstance, IsHeldAt, IsHeldStore}
use Rattle.store_files.specs.Regions.{has_region}
use Rattle.store_sweep.specs.Wanted.{row_names, is_wanted, EndBy}
use Rattle.store_sweep.proofs.ScanLemmas.{none_pass}
use Rattle.store_sweep.proofs.FirmRegionLemmas.{region_left, region_before, region_half_cut, region_cut, region_synced}

-- ---- what a crash leaves

log_left : (found : Option (List ℕ)) (f : FileState) (left : Option (List ℕ)) → IsHeldLog found f → MayLeave f left → HasSameEntries found left
log_left found f left k h =
    let e : left ≡ Some k.octets = (k.keeps.leaves left).0 h in
    subst (HasSameEntries found) (sym e) k.same

instance_left : (found : Option (List ℕ)) (f : FileState) (left : Option (List ℕ)) → IsHeldInstance found f → MayLeave f left → left ≡ found
instance_left found f left k h = (k.keeps.leaves left).0 h ∙ sym k.same

pub left_at : (g : ℕ) (m : MapMeaning) (found : Files) (name : FileName) (f : FileState) (left : Option (List ℕ)) → IsHeldAt g m found name f → MayLeave f left → CarriesOver g m found name left
left_at g m found file.Root f left k h = log_left (found file.Root) f left k h
left_at g m found (file.Map n) f left k h = λ e. log_left (found (file.Map n)) f left (k e) h
left_at g m found (file.Box n o) f left k h =
    All-weaker (λ (box : MapBox). box.number ≡ n → box.generation ≡ o → IsHeldLog (found (file.Box n o)) f)
    (λ (box : MapBox). box.number ≡ n → box.generation ≡ o → HasSameEntries (found (file.Box n o)) left)
    (λ box own a b. log_left (found (file.Box n o)) f left (own a b) h) m.boxes k
left_at g m found (file.Mail n) f left k h =
    All-weaker (λ (row : MapRecord). row.file ≡ n → IsFirmRegion (found (file.Mail n)) row f)
    (λ (row : MapRecord). row.file ≡ n → IsSameRegion (found (file.Mail n)) left row)
    (λ row own a. region_left (found (file.Mail n)) row f left (own a) h) m.records k
left_at g m found (file.Inst hash id) f left k h =
    All-weaker (λ (row : MapRecord). All (λ (inst : InstRow). inst.hash.0 ≡ hash → inst.id.0 ≡ id → IsHeldInstance (found (file.Inst hash id)) f) row.instances)
    (λ (row : MapRecord). All (λ (inst : InstRow). inst.hash.0 ≡ hash → inst.id.0 ≡ id → left ≡ found (file.Inst hash id)) row.instances)
    (λ row own. All-weaker (λ (inst : InstRow). inst.hash.0 ≡ hash → inst.id.0 ≡ id → IsHeldInstance (found (file.Inst hash id)) f)
    (λ (inst : InstRow). inst.hash.0 ≡ hash → inst.id.0 ≡ id → left ≡ found (file.Inst hash id))
    (λ inst at a b. instance_left (found (file.Inst hash id)) f left (at a b) h) row.instances own) m.records k

-- each image of a disk that holds the store carries over what was found
pub image_carries : (g : ℕ) (m : MapMeaning) (found : Files) (disk : DiskState) (image : Files) → IsHeldStore g m found disk → IsImage disk image → CarryOver g m found image
image_carries g m found disk image k is = each_name g m found image (λ name. left_at g m found name (disk name) (image name) (k name) (is name))

-- ---- a file that the store doesn't need

apart_box : (n o : ℕ) (box : MapBox) → ((box.number == n) && (box.generation == o)) ≡ false → box.number ≡ n → box.generation ≡ o → ⊥
apart_box n o box fails a b = true≢false (sym (and_from (box.number == n) (box.generation == o) (eq-eqb box.number n a) (eq-eqb box.generation o b)) ∙ fails)

pub apart_row : (n : ℕ) (row : MapRecord) → (row.file == n) ≡ false → row.file ≡ n → ⊥
apart_row n row fails a = true≢false (sym (eq-eqb row.file n a) ∙ fails)

bytes_same : (a b : List ℕ) → a ≡ b → bytes_eq a b ≡ true
bytes_same a b e = (bytes_eq-Decides a b).1 e

pub apart_inst : (hash id : List ℕ) (inst : InstRow) → (bytes_eq inst.hash.0 hash && bytes_eq inst.id.0 id) ≡ false → inst.hash.0 ≡ hash → inst.id.0 ≡ id → ⊥
apart_inst hash id inst fails a b = true≢false (sym (and_from (bytes_eq inst.hash.0 hash) (bytes_eq inst.id.0 id) (bytes_same inst.hash.0 hash a) (bytes_same inst.id.0 id b)) ∙ fails)

-- nothing is asked of such a file
pub unwanted_holds : (g : ℕ) (m : MapMeaning) (found : Files) (name : FileName) (f : FileState) → is_wanted g m name ≡ false → IsHeldAt g m found name f
unwanted_holds g m found file.Root f fails = absurd (true≢false fails)
unwanted_holds g m found (file.Map n) f fails = λ e. absurd (true≢false (sym (eq-eqb n g e) ∙ fails))
unwanted_holds g m found (file.Box n o) f fails =
    All-weaker (λ (box : MapBox). ((box.number == n) && (box.generation == o)) ≡ false)
    (λ (box : MapBox). box.number ≡ n → box.generation ≡ o → IsHeldLog (found (file.Box n o)) f)
    (λ box apart a b. absurd (apart_box n o box apart a b)) m.boxes (none_pass (λ (box : MapBox). (box.number == n) && (box.generation == o)) m.boxes fails)
unwanted_holds g m found (file.Mail n) f fails =
    let none : has_region m n ≡ false = (or_parts (is_sealed m n) (has_region m n) fails).1 in
    All-weaker (λ (row : MapRecord). (row.file == n) ≡ false)
    (λ (row : MapRecord). row.file ≡ n → IsFirmRegion (found (file.Mail n)) row f)
    (λ row apart a. absurd (apart_row n row apart a)) m.records (none_pass (λ (row : MapRecord). row.file == n) m.records none)
unwanted_holds g m found (file.Inst hash id) f fails =
    All-weaker (λ (row : MapRecord). row_names hash id row ≡ false)
    (λ (row : MapRecord). All (λ (inst : InstRow). inst.hash.0 ≡ hash → inst.id.0 ≡ id → IsHeldInstance (found (file.Inst hash id)) f) row.instances)
    (λ row apart. All-weaker (λ (inst : InstRow). (bytes_eq inst.hash.0 hash && bytes_eq inst.id.0 id) ≡ false)
    (λ (inst : InstRow). inst.hash.0 ≡ hash → inst.id.0 ≡ id → IsHeldInstance (found (file.Inst hash id)) f)
    (λ inst other a b. absurd (apart_inst hash id inst other a b)) row.instances (none_pass (λ (inst : InstRow). bytes_eq inst.hash.0 hash && bytes_eq inst.id.0 id) row.instances apart))
    m.records (none_pass (row_names hash id) m.records fails)

pub unwanted_carries : (g : ℕ) (m : MapMeaning) (found : Files) (name : FileName) (left : Option (List ℕ)) → is_wanted g m name ≡ false → CarriesOver g m found name left
unwanted_carries g m found file.Root left fails = absurd (true≢false fails)
unwanted_carries g m found (file.Map n) left fails = λ e. absurd (true≢false (sym (eq-eqb n g e) ∙ fails))
unwanted_carries g m found (file.Box n o) left fails =
    All-weaker (λ (box : MapBox). ((box.number == n) && (box.generation == o)) ≡ false)
    (λ (box : MapBox). box.number ≡ n → box.generation ≡ o → HasSameEntries (found (file.Box n o)) left)
    (λ box apart a b. absurd (apart_box n o box apart a b)) m.boxes (none_pass (λ (box : MapBox). (box.number == n) && (box.generation == o)) m.boxes fails)
unwanted_carries g m found (file.Mail n) left fails =
    let none : has_region m n ≡ false = (or_parts (is_sealed m n) (has_region m n) fails).1 in
    All-weaker (λ (row : MapRecord). (row.file == n) ≡ false)
    (λ (row : MapRecord). row.file ≡ n → IsSameRegion (found (file.Mail n)) left row)
    (λ row apart a. absurd (apart_row n row apart a)) m.records (none_pass (λ (row : MapRecord). row.file == n) m.records none)
unwanted_carries g m found (file.Inst hash id) left fails =
    All-weaker (λ (row : MapRecord). row_names hash id row ≡ false)
    (λ (row : MapRecord). All (λ (inst : InstRow). inst.hash.0 ≡ hash → inst.id.0 ≡ id → left ≡ found (file.Inst hash id)) row.instances)
    (λ row apart. All-weaker (λ (inst : InstRow). (bytes_eq inst.hash.0 hash && bytes_eq inst.id.0 id) ≡ false)
    (λ (inst : InstRow). inst.hash.0 ≡ hash → inst.id.0 ≡ id → left ≡ found (file.Inst hash id))
    (λ inst other a b. absurd (apart_inst hash id inst other a b)) row.instances (none_pass (λ (inst : InstRow). bytes_eq inst.hash.0 hash && bytes_eq inst.id.0 id) row.instances apart))
    m.records (none_pass (row_names hash id) m.records fails)

-- ---- a storage file that is cut behind its regions

both_all : {X : Type 0} → (P Q R : X → Type 0) → ((x : X) → P x → Q x → R x) → (xs : List X) → All P xs → All Q xs → All R xs
both_all P Q R f xs p q = λ k d below. f _ (p k d below) (q k d below)

pub half_cut_holds : (g : ℕ) (m : MapMeaning) (found : Files) (n end : ℕ) (f : FileState) → EndBy m n end → IsHeldAt g m found (file.Mail n) f → IsHeldAt g m found (file.Mail n) (half_cut end f)
half_cut_holds g m found n end f ends k =
    both_all (λ (row : MapRecord). row.file ≡ n → row.offset + row.size ≤ end) (λ (row : MapRecord). row.file ≡ n → IsFirmRegion (found (file.Mail n)) row f)
    (λ (row : MapRecord). row.file ≡ n → IsFirmRegion (found (file.Mail n)) row (half_cut end f))
    (λ row by own a. region_half_cut (found (file.Mail n)) row f end (by a) (own a)) m.records ends k

pub cut_holds : (g : ℕ) (m : MapMeaning) (found : Files) (n end : ℕ) (f : FileState) → EndBy m n end → end ≤ length f.octets → IsHeldAt g m found (file.Mail n) f → IsHeldAt g m found (file.Mail n) (cut_to end f)
cut_holds g m found n end f ends within k =
    both_all (λ (row : MapRecord). row.file ≡ n → row.offset + row.size ≤ end) (λ (row : MapRecord). row.file ≡ n → IsFirmRegion (found (file.Mail n)) row f)
    (λ (row : MapRecord). row.file ≡ n → IsFirmRegion (found (file.Mail n)) row (cut_to end f))
    (λ row by own a. region_cut (found (file.Mail n)) row f end (by a) within (own a)) m.records ends k

pub synced_holds : (g : ℕ) (m : MapMeaning) (found : Files) (n : ℕ) (f : FileState) → IsHeldAt g m found (file.Mail n) f → IsHeldAt g m found (file.Mail n) (synced f)
synced_holds g m found n f k =
    All-weaker (λ (row : MapRecord). row.file ≡ n → IsFirmRegion (found (file.Mail n)) row f)
    (λ (row : MapRecord). row.file ≡ n → IsFirmRegion (found (file.Mail n)) row (synced f))
    (λ row own a. region_synced (found (file.Mail n)) row f (own a)) m.records k

pub reads_there : (f : FileState) → IsThere f → reading f ≡ Some f.octets
reads_there f there = cond-true f.is_there (Some f.octets) None there

pub cut_carries : (g : ℕ) (m : MapMeaning) (found : Files) (n end : ℕ) (f : FileState) → EndBy m n end → Reaches f end → CarriesOver g m found (file.Mail n) (reading f) → CarriesOver g m found (file.Mail n) (reading (cut_to end f))
cut_carries g m found n end f ends reaches k =
    let now : reading f ≡ Some f.octets = reads_there f reaches.0 in
    let then_is : reading (cut_to end f) ≡ Some (take end f.octets) = reads_there (cut_to end f) reaches.0 in
    subst (λ (o : Option (List ℕ)). CarriesOver g m found (file.Mail n) o) (sym then_is)
    (both_all (λ (row : MapRecord). row.file ≡ n → row.offset + row.size ≤ end) (λ (row : MapRecord). row.file ≡ n → IsSameRegion (found (file.Mail n)) (Some f.octets) row)
    (λ (row : MapRecord). row.file ≡ n → IsSameRegion (found (file.Mail n)) (Some (take end f.octets)) row)
    (λ row by own a. region_before (found (file.Mail n)) f.octets row end (by a) reaches.1 (own a)) m.records ends
    (subst (λ (o : Option (List ℕ)). CarriesOver g m found (file.Mail n) o) now k))

-- ---- after a sync of names

-- what reads so, reads so afterwards
pub named_reads : (f : FileState) → reading (named f) ≡ reading f
named_reads f = elim (cases_Bool f.is_there) [
  | inl there ↦
      let e : named f ≡ record f { is_name_loose = false } = cond-true f.is_there (record f { is_name_loose = false }) no_file there in
      ap reading e
  | inr gone ↦
      let e : named f ≡ no_file = cond-false f.is_there (record f { is_name_loose = false }) no_file gone in
      ap reading e ∙ sym (cond-false f.is_there (Some f.octets) None gone)
]

named_there : (P : FileState → Type 0) (f : FileState) → IsThere f → P (record f { is_name_loose = false }) → P (named f)
named_there P f there p = subst P (sym (cond-true f.is_there (record f { is_name_loose = false }) no_file there)) p

pub reads_some : (f : FileState) (octets : List ℕ) → reading f ≡ Some octets → IsThere f
reads_some f octets e = elim (cases_Bool f.is_there) [
  | inl there ↦ there
  | inr gone ↦ absurd (let n : reading f ≡ None = cond-false f.is_there (Some f.octets) None gone in let s : None ≡ Some octets = sym n ∙ e in cc)
]

pub named_keeps : (f : FileState) (octets : List ℕ) → Keeps f octets → Keeps (named f) octets
named_keeps f octets k = record {
  reads = named_reads f ∙ k.reads;
  leaves = λ left. (
    λ h. (k.leaves left).0 (named-narrows f left h),
    λ e. subst (MayLeave (named f)) (sym e) (named_there (λ g. MayHold g octets) f (reads_some f octets k.reads) (held ((k.leaves (Some octets)).1 refl))),
  );
}
  where
    held : MayHold f octets → MayHold (record f { is_name_loose = false }) octets
    held h = record { named = inl (reads_some f octets k.reads); least = h.least; greatest = h.greatest; same = h.same; are_octets = h.are_octets }

log_named : (found : Option (List ℕ)) (f : FileState) → IsHeldLog found f → IsHeldLog found (named f)
log_named found f k = record { octets = k.octets; keeps = named_keeps f k.octets k.keeps; same = k.same }

instance_named : (found : Option (List ℕ)) (f : FileState) → IsHeldInstance found f → IsHeldInstance found (named f)
instance_named found f k = record { octets = k.octets; keeps = named_keeps f k.octets k.keeps; same = k.same }

region_named : (found : Option (List ℕ)) (row : MapRecord) (f : FileState) → IsFirmRegion found row f → IsFirmRegion found row (named f)
region_named found row f k = named_there (IsFirmRegion found row) f k.there (record { there = k.there; name = refl; same = k.same; least = k.least; firm = k.firm })

pub named_holds : (g : ℕ) (m : MapMeaning) (found : Files) (name : FileName) (f : FileState) → IsHeldAt g m found name f → IsHeldAt g m found name (named f)
named_holds g m found file.Root f k = log_named (found file.Root) f k
named_holds g m found (file.Map n) f k = λ e. log_named (found (file.Map n)) f (k e)
named_holds g m found (file.Box n o) f k =
    All-weaker (λ (box : MapBox). box.number ≡ n → box.generation ≡ o → IsHeldLog (found (file.Box n o)) f)
    (λ (box : MapBox). box.number ≡ n → box.generation ≡ o → IsHeldLog (found (file.Box n o)) (named f))
    (λ box own a b. log_named (found (file.Box n o)) f (own a b)) m.boxes k
named_holds g m found (file.Mail n) f k =
    All-weaker (λ (row : MapRecord). row.file ≡ n → IsFirmRegion (found (file.Mail n)) row f)
    (λ (row : MapRecord). row.file ≡ n → IsFirmRegion (found (file.Mail n)) row (named f))
    (λ row own a. region_named (found (file.Mail n)) row f (own a)) m.records k
named_holds g m found (file.Inst hash id) f k =
    All-weaker (λ (row : MapRecord). All (λ (inst : InstRow). inst.hash.0 ≡ hash → inst.id.0 ≡ id → IsHeldInstance (found (file.Inst hash id)) f) row.instances)
    (λ (row : MapRecord). All (λ (inst : InstRow). inst.hash.0 ≡ hash → inst.id.0 ≡ id → IsHeldInstance (found (file.Inst hash id)) (named f)) row.instances)
    (λ row own. All-weaker (λ (inst : InstRow). inst.hash.0 ≡ hash → inst.id.0 ≡ id → IsHeldInstance (found (file.Inst hash id)) f)
    (λ (inst : InstRow). inst.hash.0 ≡ hash → inst.id.0 ≡ id → IsHeldInstance (found (file.Inst hash id)) (named f))
    (λ inst at a b. instance_named (found (file.Inst hash id)) f (at a b)) row.instances own) m.records k

-- ---- a disk on which one file has changed

pub each_changed : (P : FileName → FileState → Type 0) (name : FileName) (step : FileState → FileState) (disk : DiskState) → ((n : FileName) → P n (disk n)) → P name (step (disk name)) → (n : FileName) → P n (change name step disk n)
each_changed P name step disk all own n = elim (cases_Bool (same_name n name)) [
  | inl same ↦
      let e : n ≡ name = same_name-true n name same in
      subst (λ (k : FileName). P k (change name step disk k)) (sym e) (subst (P name) (sym (change-here name step disk)) own)
  | inr other ↦
      let apart : n ≡ name → ⊥ = λ e. true≢false (sym (same_refl n name e) ∙ other) in
      subst (P n) (sym (change-other name n step disk apart)) (all n)
]
  where
    same_refl : (a b : FileName) → a ≡ b → same_name a b ≡ true
    same_refl a b e = same_name-eq a b e
