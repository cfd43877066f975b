-- Files of mail that stay, over calls.
use Rattle.std.proofs.Common.{◌≡◌, ◌≢◌, ◌+◌, inl, inr, ℕ, true, List, All, Option, Some, None, refl, sym, ◌∙◌, subst}
use Rattle.std.specs.Prelude.{if◌then◌else◌}
use Rattle.std.proofs.lemmas.List.Elements.{All-contains, All-weaker}
use Rattle.std.proofs.lemmas.Bool.{cases_Bool, true≢false, cond-true, cond-false}
use Rattle.disk_model.specs.Disk.{Files, FileState, DiskState, History, IsImage, MayLeave, IfTold, EachImage, Unchanged, AfterFailed, OthersStay, IsIdle, after, change, change_all, named, reading}
use Rattle.disk_model.specs.Name.{same_name, is_log}
use Rattle.disk_model.specs.declared.name.FileName.{FileName}
use Rattle.disk_model.specs.declared.name.FileName.TheVariants as file
use Rattle.disk_model.proofs.NameLemmas.{same_name-true, same_name-eq, same_name-refl}
use Rattle.disk_model.proofs.OneFileLemmas.{change-here, change-other, named-narrows}
use Rattle.disk_model.proofs.MomentLemmas.{if_told-map, each_image-begins, each_image-map, each_image-then, each_image-goes_on, each_image-fails, each_image-fails_still, each_image-unchanged, since-now}
use Rattle.mdbox_base.specs.declared.entries.InstRow.{InstRow}
use Rattle.model_meaning.specs.MapMeaning.{MapMeaning, MapRecord}
use Rattle.model_kept.specs.Kept.{StaysTo, StaysAt, MailStays, MailIsKept, IsPlacedIn, IsUnknownTo, NeedsAllOf}

-- ---- what a crash could leave stays

pub left_stays_to : (end : ℕ) (f : FileState) (left : Option (List ℕ)) → MayLeave f left → StaysTo end f left
left_stays_to end f None leaves = leaves
left_stays_to end f (Some octets) holds = (octets, holds, refl)

pub left_stays : (m : MapMeaning) (name : FileName) (f : FileState) (left : Option (List ℕ)) → MayLeave f left → StaysAt m name f left
left_stays m file.Root f left leaves = tt
left_stays m (file.Map g) f left leaves = tt
left_stays m (file.Box k g) f left leaves = tt
left_stays m (file.Mail n) f left leaves = record { sealed = λ sealed. leaves; regions = λ k d below own. left_stays_to _ f left leaves }
left_stays m (file.Inst hash id) f left leaves = λ k d below j e within a b. leaves

-- ---- what stays of a file of which a crash leaves what stays of an earlier one

stays_to_through : (end : ℕ) (f g : FileState) → ((left : Option (List ℕ)) → MayLeave g left → StaysTo end f left) → (left : Option (List ℕ)) → StaysTo end g left → StaysTo end f left
stays_to_through end f g through None s = through None s
stays_to_through end f g through (Some octets) s =
    let t : StaysTo end f (Some s.0) = through (Some s.0) s.1 in
    (t.0, t.1, s.2 ∙ t.2)

pub stays_through : (m : MapMeaning) (name : FileName) (f g : FileState) → ((left : Option (List ℕ)) → MayLeave g left → StaysAt m name f left) → (left : Option (List ℕ)) → StaysAt m name g left → StaysAt m name f left
stays_through m file.Root f g through left s = tt
stays_through m (file.Map n) f g through left s = tt
stays_through m (file.Box k n) f g through left s = tt
stays_through m (file.Mail n) f g through left s = record {
  sealed = λ sealed. (through left (s.sealed sealed)).sealed sealed;
  regions = λ k d below own. stays_to_through _ f g (λ l leaves. (through l leaves).regions k d below own) left (s.regions k d below own);
}
stays_through m (file.Inst hash id) f g through left s = λ k d below j e within a b. through left (s k d below j e within a b) k d below j e within a b

-- ---- an image with another file of one name

-- by name: this one, or another
pub by_name : (P : FileName → Type 0) (name : FileName) → P name → ((other : FileName) → other ≢ name → P other) → (n : FileName) → P n
by_name P name own others n = elim (cases_Bool (same_name n name)) [
  | inl same ↦ subst P (sym (same_name-true n name same)) own
  | inr apart ↦ others n (λ e. true≢false (sym (same_name-eq n name e) ∙ apart))
]

abbrev with_file : FileName → Option (List ℕ) → Files → Files
with_file name left image = λ n. if same_name n name then left else image n

with_own : (name : FileName) (left : Option (List ℕ)) (image : Files) → with_file name left image name ≡ left
with_own name left image = cond-true (same_name name name) left (image name) (same_name-refl name)

image_with : (disk : DiskState) (image : Files) (name : FileName) (left : Option (List ℕ)) → IsImage disk image → MayLeave (disk name) left → IsImage disk (with_file name left image)
image_with disk image name left is leaves n = elim (cases_Bool (same_name n name)) [
  | inl same ↦
      let e : with_file name left image n ≡ left = cond-true (same_name n name) left (image n) same in
      let F : FileName → Type 0 = λ x. MayLeave (disk x) left in
      subst (MayLeave (disk n)) (sym e) (subst F (sym (same_name-true n name same)) leaves)
  | inr apart ↦
      let e : with_file name left image n ≡ image n = cond-false (same_name n name) left (image n) apart in
      subst (MayLeave (disk n)) (sym e) (is n)
]

-- ---- over calls

-- what the disk reads is one of its images
abbrev pub ReadsImage : DiskState → Type 0
ReadsImage disk = IsImage disk (λ name. reading (disk name))

kept_image : (m : MapMeaning) (old now : History) → ReadsImage now.now → MailIsKept m (Some old) (Some now) → (name : FileName) (left : Option (List ℕ)) → MayLeave (now.now name) left → StaysAt m name (old.now name) left
kept_image m old now reads kept name left leaves =
    let image : Files = with_file name left (λ n. reading (now.now n)) in
    let stays : MailStays m (Some old) image = since-now _ old now kept image (image_with now.now (λ n. reading (now.now n)) name left reads leaves) in
    subst (StaysAt m name (old.now name)) (with_own name left (λ n. reading (now.now n))) (stays name)

pub kept_then : (m : MapMeaning) (old now new : Option History) → IfTold now ReadsImage → MailIsKept m old now → MailIsKept m now new → MailIsKept m old new
kept_then m None now new reads first second = each_image-then _ None now new first (each_image-map _ _ now new (λ moment image s. tt {0}) second)
kept_then m (Some old) None new reads first second = elim first [ ]
kept_then m (Some old) (Some now) new reads first second =
    each_image-then _ (Some old) (Some now) new first
    (each_image-map _ _ (Some now) new
    (λ moment image s name. stays_through m name (old.now name) (now.now name) (kept_image m old now reads first name) (image name) (s name)) second)

-- an image of the disk
image_stays : (m : MapMeaning) (old : Option History) (image : Files) → IfTold old (λ disk. IsImage disk image) → MailStays m old image
image_stays m old image is = if_told-map _ _ old (λ disk of name. left_stays m name (disk name) (image name) (of name)) is

pub kept_idle : (m : MapMeaning) (old new : Option History) → IsIdle old new → MailIsKept m old new
kept_idle m old new idle = each_image-map _ _ old new (λ moment image is. image_stays m old image is) idle.each

pub kept_begins : (m : MapMeaning) (old : Option History) → MailIsKept m old old
kept_begins m old = each_image-begins _ old (images old)
  where
    images : (old : Option History) → IfTold old (λ disk. (moment : ℕ) (image : Files) → IsImage disk image → MailStays m old image)
    images None = tt
    images (Some old) = λ moment image is. image_stays m (Some old) image is

pub kept_unchanged : (m : MapMeaning) (old now new : Option History) → MailIsKept m old now → Unchanged now new → MailIsKept m old new
kept_unchanged m old now new kept unchanged = each_image-unchanged _ old now new kept unchanged (λ moment image s. s)

pub kept_fails_still : (m : MapMeaning) (old now new : Option History) → MailIsKept m old now → AfterFailed (λ disk. disk) now new → MailIsKept m old new
kept_fails_still m old now new kept failed = each_image-fails_still _ old now new kept failed (λ moment image s. s)

-- ---- one call

-- what a crash may leave after a change of a file is what stays of it
abbrev pub StaysAfter : MapMeaning → FileName → (FileState → FileState) → DiskState → Type 0
StaysAfter m name step disk = (left : Option (List ℕ)) → MayLeave (step (disk name)) left → StaysAt m name (disk name) left

changed_image : (m : MapMeaning) (name : FileName) (step : FileState → FileState) (old : Option History) → IfTold old (StaysAfter m name step)
    → IfTold old (λ disk. (moment : ℕ) (image : Files) → IsImage (change name step disk) image → MailStays m old image)
changed_image m name step None stays = tt
changed_image m name step (Some old) stays = λ moment image is.
    by_name (λ (n : FileName). StaysAt m n (old.now n) (image n)) name
    (stays (image name) (let F : FileState → Type 0 = λ f. MayLeave f (image name) in subst F (change-here name step old.now) (is name)))
    (λ other apart. left_stays m other (old.now other) (image other) (let F : FileState → Type 0 = λ f. MayLeave f (image other) in subst F (change-other name other step old.now apart) (is other)))

pub kept_change : (m : MapMeaning) (name : FileName) (step : FileState → FileState) (old new : Option History) → new ≡ after (change name step) old → IfTold old (StaysAfter m name step) → MailIsKept m old new
kept_change m name step old new is stays = each_image-goes_on _ (change name step) old old new (kept_begins m old) is (changed_image m name step old stays)

pub kept_failed : (m : MapMeaning) (name : FileName) (step : FileState → FileState) (old new : Option History) → AfterFailed (change name step) old new → IfTold old (StaysAfter m name step) → MailIsKept m old new
kept_failed m name step old new failed stays = each_image-fails _ (change name step) old old new (kept_begins m old) failed (changed_image m name step old stays)

named_image : (m : MapMeaning) (old : Option History) → IfTold old (λ disk. (moment : ℕ) (image : Files) → IsImage (change_all named disk) image → MailStays m old image)
named_image m None = tt
named_image m (Some old) = λ moment image is name. left_stays m name (old.now name) (image name) (named-narrows (old.now name) (image name) (is name))

pub kept_named : (m : MapMeaning) (old new : Option History) → new ≡ after (change_all named) old → MailIsKept m old new
kept_named m old new is = each_image-goes_on _ (change_all named) old old new (kept_begins m old) is (named_image m old)

-- ---- calls on one file of which nothing is kept

pub log_is_unknown : (m : MapMeaning) (name : FileName) → is_log name ≡ true → IsUnknownTo m name
log_is_unknown m file.Root log = λ f octets. tt
log_is_unknown m (file.Map g) log = λ f octets. tt
log_is_unknown m (file.Box k g) log = λ f octets. tt
log_is_unknown m (file.Mail n) log = absurd (true≢false (sym log))
log_is_unknown m (file.Inst hash id) log = absurd (true≢false (sym log))

-- what stays of one file, where a crash leaves of the others what it could before
pub kept_one : (m : MapMeaning) (name : FileName) (P : Option History → Files → Type 0) (old new : Option History) → ((disk : History) (image : Files) → P (Some disk) image → StaysAt m name (disk.now name) (image name))
    → EachImage (λ _ image. P old image × OthersStay name old image) old new → MailIsKept m old new
kept_one m name P old new own each = each_image-map (λ _ image. P old image × OthersStay name old image) (λ _ image. MailStays m old image) old new (λ moment image i. stays old image own i) each
  where
    stays : (old : Option History) (image : Files) → ((disk : History) (image : Files) → P (Some disk) image → StaysAt m name (disk.now name) (image name)) → P old image × OthersStay name old image → MailStays m old image
    stays None image own i = tt
    stays (Some old) image own i = by_name (λ (n : FileName). StaysAt m n (old.now n) (image n)) name (own old image i.0) (λ other apart. left_stays m other (old.now other) (image other) (i.1 other apart))

pub kept_beside : (m : MapMeaning) (name : FileName) (old new : Option History) → IsUnknownTo m name → EachImage (λ _ image. OthersStay name old image) old new → MailIsKept m old new
kept_beside m name old new unknown each =
    kept_one m name (λ _ _. Unit {0}) old new (λ disk image p. unknown (disk.now name) (image name)) (each_image-map (λ _ image. OthersStay name old image) (λ _ image. Unit {0} × OthersStay name old image) old new (λ moment image stay. (tt, stay)) each)

-- ---- for a map that needs less

less_stays : (more less : MapMeaning) (name : FileName) (f : FileState) (octets : Option (List ℕ)) → NeedsAllOf more less → StaysAt more name f octets → StaysAt less name f octets
less_stays more less file.Root f octets needs s = tt
less_stays more less (file.Map g) f octets needs s = tt
less_stays more less (file.Box k g) f octets needs s = tt
less_stays more less (file.Mail n) f octets needs s = record {
  sealed = λ is. s.sealed (needs.sealed n is);
  regions = All-weaker (IsPlacedIn more) (λ (row : MapRecord). row.file ≡ n → StaysTo (row.offset + row.size) f octets)
      (λ row p here. subst (λ (end : ℕ). StaysTo end f octets) (let a = p.offset in let b = p.size in cc) (All-contains (λ (r : MapRecord). r.file ≡ n → StaysTo (r.offset + r.size) f octets) more.records p.now s.regions p.there (p.file ∙ here))) less.records needs.records;
}
less_stays more less (file.Inst hash id) f octets needs s =
    All-weaker (IsPlacedIn more) (λ (row : MapRecord). All (λ inst. inst.hash.0 ≡ hash → inst.id.0 ≡ id → MayLeave f octets) row.instances)
    (λ row p. subst (All (λ (inst : InstRow). inst.hash.0 ≡ hash → inst.id.0 ≡ id → MayLeave f octets)) p.instances (All-contains (λ (r : MapRecord). All (λ inst. inst.hash.0 ≡ hash → inst.id.0 ≡ id → MayLeave f octets) r.instances) more.records p.now s p.there)) less.records needs.records

pub kept_for_less : (more less : MapMeaning) (old new : Option History) → NeedsAllOf more less → MailIsKept more old new → MailIsKept less old new
kept_for_less more less old new needs kept = each_image-map (λ _ image. MailStays more old image) (λ _ image. MailStays less old image) old new (λ moment image s. stays old image s) kept
  where
    stays : (old : Option History) (image : Files) → MailStays more old image → MailStays less old image
    stays None image s = tt
    stays (Some old) image s = λ name. less_stays more less name (old.now name) (image name) needs (s name)
