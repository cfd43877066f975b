-- What the events of a delivery make of the storage files on the disk.
use Rattle.mail_save.proofs.Common.{◌≡◌, ◌≢◌, ℕ, List, Option, Some, None, inl, inr, refl, sym, ◌∙◌, ap, subst, DiskState, History, IfTold, Between, reading, Mail, Inst, between-map, Refusal, end_in, IsAddedTo, StoreValue, IsSameOrSynced, HasAppended, TakesWithHeader, ReadsSameMail, StoresNone}
use Rattle.mail_save.proofs.Common.{TakesNone, SavedAt}
use Rattle.disk_model.specs.Disk.{FileState, IsIdle, Keeps, SameButFor}
use Rattle.disk_model.proofs.BetweenLemmas.{between-begins}
use Rattle.mdbox_base.specs.declared.replies.Refusal.TheVariants as refusal
use Rattle.storage_files.specs.OnDisk.{OthersAreNamed}
use Rattle.store_core.proofs.MailChangeLemmas.{named_reads}
use Rattle.store_core.specs.Keeping.{KeepsMail}
use Rattle.mail_save.specs.MailFiles.{ReadsOtherMail}

-- a file whose name was synced at most reads as it did
pub synced_reads : (a b : FileState) → IsSameOrSynced a b → reading b ≡ reading a
synced_reads a b (inl same) = ap reading same
synced_reads a b (inr synced) = ap reading synced ∙ named_reads a

-- ---- nothing is written to them

abbrev SameMail : DiskState → DiskState → Type 0
SameMail a b = ((number : ℕ) → IsSameOrSynced (a (Mail number)) (b (Mail number))) × ((hash id : List ℕ) → IsSameOrSynced (a (Inst hash id)) (b (Inst hash id)))

abbrev OtherMail : ℕ → DiskState → DiskState → Type 0
OtherMail file a b = ((number : ℕ) → number ≢ file → IsSameOrSynced (a (Mail number)) (b (Mail number))) × ((hash id : List ℕ) → IsSameOrSynced (a (Inst hash id)) (b (Inst hash id)))

pub mail_itself : (h : Option History) → ReadsSameMail h h
mail_itself h = between-begins SameMail h (λ disk. (λ number. inl refl, λ hash id. inl refl))

pub mail_unchanged : {D : Type 0} → (history : D → Option History) (old new : D) → new ≡ old → ReadsSameMail (history old) (history new)
mail_unchanged history old new same = subst (λ d. ReadsSameMail (history old) (history d)) (sym same) (mail_itself (history old))

pub mail_kept : (before after : Option History) → KeepsMail before after → ReadsSameMail before after
mail_kept before after = between-map _ SameMail before after (λ a b k. (λ number. inl (k.0 number), λ hash id. inl (k.1 hash id)))

-- calls that read
pub mail_idle : (before after : Option History) → IsIdle before after → ReadsSameMail before after
mail_idle before after idle = between-map (λ a b. b ≡ a) SameMail before after (λ a b e. (λ number. inl (ap (λ (d : DiskState). d (Mail number)) e), λ hash id. inl (ap (λ (d : DiskState). d (Inst hash id)) e))) idle.same

-- ---- one is written

all_but : (file : ℕ) (before after : Option History) → ReadsSameMail before after → ReadsOtherMail file before after
all_but file before after = between-map SameMail (OtherMail file) before after (λ a b k. (λ number apart. k.0 number, k.1))

other_number : (number file : ℕ) → number ≢ file → Mail number ≢ Mail file
other_number number file apart = λ e. apart (cc e)

no_instance : (hash id : List ℕ) (file : ℕ) → Inst hash id ≢ Mail file
no_instance hash id file = λ e. cc e

others_named : (file : ℕ) (before after : Option History) → OthersAreNamed (Mail file) before after → ReadsOtherMail file before after
others_named file before after =
    between-map _ (OtherMail file) before after
    (λ a b k. (λ number apart. inr (k (Mail number) (other_number number file apart)), λ hash id. inr (k (Inst hash id) (no_instance hash id file))))

others_same : (file : ℕ) (before after : Option History) → SameButFor (Mail file) before after → ReadsOtherMail file before after
others_same file before after = between-map _ (OtherMail file) before after (λ a b k. (λ number apart. inl (k (Mail number) (other_number number file apart)), λ hash id. inl (k (Inst hash id) (no_instance hash id file))))

-- ---- a storage file is taken

some_none : {A B : Type 0} → (end : A) (o : Option A) → o ≡ Some end → o ≡ None → B
some_none end o some none = absurd (let k : Some end ≡ None = sym some ∙ none in cc k)

pub took_known : {D : Type 0} → (header : List ℕ) (file end : ℕ) (old : StoreValue D) (before after : Option History) → end_in file old.files.files ≡ Some end → ReadsSameMail before after → TakesWithHeader header file old before after
took_known header file end old before after there same = record {
  others = all_but file before after same;
  known = λ other some. same;
  made = λ none. some_none end (end_in file old.files.files) there none;
}

pub took_new : {D : Type 0} → (header : List ℕ) (file : ℕ) (old : StoreValue D) (before after : Option History) → end_in file old.files.files ≡ None → OthersAreNamed (Mail file) before after → IfTold after (λ now. Keeps (now (Mail file)) header) → TakesWithHeader header file old before after
took_new header file old before after none others keeps = record {
  others = others_named file before after others;
  known = λ end some. some_none end (end_in file old.files.files) some none;
  made = λ absent. keeps;
}

-- ---- the message is placed

pub appended : (region : List ℕ) (file : ℕ) (before after : Option History) → SameButFor (Mail file) before after → Between (λ a b. IsAddedTo region (a (Mail file)) (b (Mail file))) before after → HasAppended region file before after
appended region file before after others added = record { others = others_same file before after others; added = added }

-- ---- an event that was refused

pub untaken_mail : {D : Type 0} → (history : D → Option History) (size : ℕ) (why : Refusal) (old new : StoreValue D) → TakesNone size why old new → (why ≡ refusal.Stopped → ⊥) → ReadsSameMail (history old.disk) (history new.disk)
untaken_mail history size why old new (inl k) runs = mail_unchanged history old.disk new.disk (ap (λ v. v.disk) k.1)
untaken_mail history size why old new (inr (inl k)) runs = mail_unchanged history old.disk new.disk (ap (λ v. v.disk) k.1.same)
untaken_mail history size why old new (inr (inr k)) runs = absurd (runs k.0)

pub unstored_mail : {D : Type 0} → (history : D → Option History) (at : SavedAt) (why : Refusal) (old new : StoreValue D) → StoresNone at why old new → (why ≡ refusal.Stopped → ⊥) → ReadsSameMail (history old.disk) (history new.disk)
unstored_mail history at why old new (inl k) runs = absurd (runs k.0)
unstored_mail history at why old new (inr k) runs = mail_unchanged history old.disk new.disk (ap (λ v. v.disk) k.1.same)
