-- Files that are synced before the root log is removed.
use Rattle.std.proofs.Common.{◌≡◌, ◌⊎◌, inl, inr, ℕ, List, [], ◌∷◌, Option, All, refl, sym, ◌∙◌, subst, arith}
use Rattle.std.proofs.lemmas.Bool.{cases_Bool, cond-true, cond-false}
use Rattle.std.proofs.lemmas.List.Elements.{All-nil, All-cons, All-head, All-tail, All-weaker}
use Rattle.disk_model.specs.Disk.{Files, FileState, DiskState, History, Between, EachImage, IfTold, IsImage, IsThere, after, change, reading, synced}
use Rattle.disk_model.specs.Name.{same_name}
use Rattle.disk_model.specs.declared.name.FileName.{FileName}
use Rattle.disk_model.specs.declared.name.FileName.TheVariants as file
use Rattle.disk_model.proofs.BetweenLemmas.{between-on, between-since}
use Rattle.disk_model.proofs.IdleLemmas.{idle-begins}
use Rattle.disk_model.proofs.MomentLemmas.{each_image-goes_on, if_told-after, if_told-both, if_told-map}
use Rattle.disk_model.proofs.OneFileLemmas.{change-here}
use Rattle.mdbox_base.specs.declared.entries.InstRow.{InstRow}
use Rattle.model_rebuild.specs.RebuildMoments.{IsBeforeLogs, IsOldButForRoot}
use Rattle.model_store.specs.Settled.{files_of}
use Rattle.store_rebuild.proofs.RootLemmas.{looked_images}
use Rattle.rebuild_judge.specs.declared.taken.TakenRow.{TakenRow}
use Rattle.store_rebuild.specs.Writing.{AreFilesSynced, AreFilesThere, IsInstanceSynced, IsInstanceThere, IsOnlySynced, IsFileSynced}
use Rattle.store_rebuild.proofs.FileLemmas.{synced_synced}

-- ---- one file

by_change : (P : FileState → Type 0) (name : FileName) (step : FileState → FileState) (disk : DiskState) (n : FileName) → P (step (disk n)) → P (disk n) → P (change name step disk n)
unfolding change
by_change P name step disk n a b = elim (cases_Bool (same_name n name)) [
  | inl is ↦ subst P (sym (cond-true (same_name n name) (step (disk n)) (disk n) is)) a
  | inr not ↦ subst P (sym (cond-false (same_name n name) (step (disk n)) (disk n) not)) b
]

pub only_synced : (name : FileName) (disk : DiskState) → IsOnlySynced disk (change name synced disk)
only_synced name disk = record {
  reads = λ n. by_change (λ (f : FileState). reading f ≡ reading (disk n)) name synced disk n refl refl;
  there = λ n there. by_change IsThere name synced disk n there there;
  synced = λ n s. by_change IsFileSynced name synced disk n (synced_synced (disk n) s.there) s;
}

pub only_begins : (disk : DiskState) → IsOnlySynced disk disk
only_begins disk = record { reads = λ n. refl; there = λ n there. there; synced = λ n s. s }

pub only_then : (a b c : DiskState) → IsOnlySynced a b → IsOnlySynced b c → IsOnlySynced a c
only_then a b c r s = record { reads = λ n. s.reads n ∙ r.reads n; there = λ n h. s.there n (r.there n h); synced = λ n h. s.synced n (r.synced n h) }

images_before : (first now : DiskState) → IsBeforeLogs first now → (image : Files) → IsImage now image → IsOldButForRoot first image
images_before first now b image is = (λ name apart. b.0 name apart (image name) (is name), b.1 (image file.Root) (is file.Root))

-- what holds before the logs are made still holds, when a file that is there is synced
pub sync_stays : (first : DiskState) (name : FileName) (old : Option History) → ((disk : DiskState) → IsBeforeLogs first disk → IsImage disk (files_of disk) → IsThere (disk name) → IsBeforeLogs first (change name synced disk))
    → IfTold old (λ disk. IsThere (disk name)) → IfTold old (λ disk. IsImage disk (files_of disk)) → IfTold old (IsBeforeLogs first) → IfTold old (λ disk. IsBeforeLogs first (change name synced disk))
sync_stays first name old law there image before =
    if_told-both (λ disk. IsImage disk (files_of disk) × IsThere (disk name)) (IsBeforeLogs first) (λ disk. IsBeforeLogs first (change name synced disk)) old (λ disk p b. law disk b p.0 p.1)
    (if_told-both (λ disk. IsImage disk (files_of disk)) (λ disk. IsThere (disk name)) (λ disk. IsImage disk (files_of disk) × IsThere (disk name)) old (λ disk i t. (i, t)) image there) before

pub sync_images : (first : DiskState) (name : FileName) (old new : Option History) → new ≡ after (change name synced) old → IfTold old (λ disk. IsBeforeLogs first (change name synced disk)) → IfTold old (IsBeforeLogs first)
    → EachImage (λ _ image. IsOldButForRoot first image) old new
sync_images first name old new is stays before =
    each_image-goes_on (λ _ image. IsOldButForRoot first image) (change name synced) old old new (looked_images first old old (idle-begins old) before) is
    (if_told-map (λ disk. IsBeforeLogs first (change name synced disk)) (λ disk. (m : ℕ) (image : Files) → IsImage (change name synced disk) image → IsOldButForRoot first image) old
    (λ disk b m image of. images_before first (change name synced disk) b image of) stays)

pub sync_before : (first : DiskState) (name : FileName) (old new : Option History) → new ≡ after (change name synced) old → IfTold old (λ disk. IsBeforeLogs first (change name synced disk)) → IfTold new (IsBeforeLogs first)
sync_before first name old new is stays = if_told-after (λ disk. IsBeforeLogs first (change name synced disk)) (IsBeforeLogs first) (change name synced) old new is (λ disk b. b) stays

pub sync_synced : (name : FileName) (old new : Option History) → new ≡ after (change name synced) old → IfTold old (λ disk. IsThere (disk name)) → IfTold new (λ disk. IsFileSynced (disk name))
sync_synced name old new is there =
    if_told-after (λ disk. IsThere (disk name)) (λ disk. IsFileSynced (disk name)) (change name synced) old new is
    (λ disk t. subst IsFileSynced (sym (change-here name synced disk)) (synced_synced (disk name) t)) there

-- ---- many

-- what is left to be synced, so that all of these are
abbrev pub LeftSynced : {X : Type 0} → (DiskState → X → Type 0) → List X → List X → DiskState → Type 0
LeftSynced S rest all disk = (later : DiskState) → IsOnlySynced disk later → All (S later) rest → All (S later) all

pub left_begins : {X : Type 0} → (S : DiskState → X → Type 0) (all : List X) (disk : DiskState) → LeftSynced S all all disk
left_begins S all disk = λ later same h. h

pub left_more : {X : Type 0} → (S : DiskState → X → Type 0) (x : X) (rest others all : List X) (old new : Option History) → ((a b : DiskState) → IsOnlySynced a b → S a x → S b x) → rest ≡ x ∷ others
    → Between IsOnlySynced old new → IfTold old (LeftSynced S rest all) → IfTold new (λ disk. S disk x) → IfTold new (LeftSynced S others all)
left_more S x rest others all old new keeps is same left more =
    between-on (λ a b. IsOnlySynced a b × S b x) (LeftSynced S rest all) (LeftSynced S others all) old new
    (λ a b r l later s h. l later (only_then a b later r.0 s) (subst (All (S later)) (sym is) (All-cons (S later) x others (keeps b later s r.1) h)))
    (between-since IsOnlySynced (λ a b. IsOnlySynced a b × S b x) (λ disk. S disk x) old new (λ a b r k. (r, k)) same more) left

pub left_ends : {X : Type 0} → (S : DiskState → X → Type 0) (rest all : List X) (h : Option History) → rest ≡ [] → IfTold h (LeftSynced S rest all) → IfTold h (λ disk. All (S disk) all)
left_ends S rest all h none left = if_told-map (LeftSynced S rest all) (λ disk. All (S disk) all) h (λ disk l. l disk (only_begins disk) (subst (All (S disk)) (sym none) (All-nil (S disk)))) left

-- what is there stays there
pub first_there : {X : Type 0} → (T : DiskState → X → Type 0) (x : X) (rest others : List X) (h : Option History) → rest ≡ x ∷ others → IfTold h (λ disk. All (T disk) rest) → IfTold h (λ disk. T disk x)
first_there T x rest others h is all = if_told-map _ _ h (λ disk a. All-head (T disk) x others (subst (All (T disk)) is a)) all

pub others_there : {X : Type 0} → (T : DiskState → X → Type 0) (x : X) (rest others : List X) (old new : Option History) → ((a b : DiskState) (y : X) → IsOnlySynced a b → T a y → T b y) → rest ≡ x ∷ others
    → Between IsOnlySynced old new → IfTold old (λ disk. All (T disk) rest) → IfTold new (λ disk. All (T disk) others)
others_there T x rest others old new keeps is same all =
    between-on IsOnlySynced (λ disk. All (T disk) rest) (λ disk. All (T disk) others) old new (λ a b r h. All-weaker (T a) (T b) (λ y t. keeps a b y r t) others (All-tail (T a) x others (subst (All (T a)) is h))) same all

-- ---- instances and messages

pub instance_keeps : (x : InstRow) (a b : DiskState) → IsOnlySynced a b → IsInstanceSynced a x → IsInstanceSynced b x
instance_keeps x a b r s = r.synced (file.Inst x.hash.0 x.id.0) s

pub instance_stays : (a b : DiskState) (x : InstRow) → IsOnlySynced a b → IsInstanceThere a x → IsInstanceThere b x
instance_stays a b x r t = r.there (file.Inst x.hash.0 x.id.0) t

pub message_keeps : (x : TakenRow) (a b : DiskState) → IsOnlySynced a b → AreFilesSynced a x → AreFilesSynced b x
message_keeps x a b r s = record {
  storage = r.synced (file.Mail x.file.0) s.storage;
  instances = All-weaker (IsInstanceSynced a) (IsInstanceSynced b) (λ i k. instance_keeps i a b r k) x.instances s.instances;
}

pub message_stays : (a b : DiskState) (x : TakenRow) → IsOnlySynced a b → AreFilesThere a x → AreFilesThere b x
message_stays a b x r t = record {
  number = t.number;
  storage = r.there (file.Mail x.file.0) t.storage;
  instances = All-weaker (IsInstanceThere a) (IsInstanceThere b) (λ i k. instance_stays a b i r k) x.instances t.instances;
}

-- the last storage file that was synced; none is 0
abbrev pub IsLastSynced : ℕ → DiskState → Type 0
IsLastSynced last disk = (last ≡ 0) ⊎ IsFileSynced (disk (file.Mail last))

pub same_as_last : (x : TakenRow) (last : ℕ) (h : Option History) → IfTold h (λ disk. AreFilesThere disk x) → IfTold h (IsLastSynced last) → IfTold h (λ disk. x.file.0 ≡ last → IsFileSynced (disk (file.Mail x.file.0)))
same_as_last x last h there is = if_told-both (λ disk. AreFilesThere disk x) (IsLastSynced last) (λ disk. x.file.0 ≡ last → IsFileSynced (disk (file.Mail x.file.0))) h (λ disk t l e. by t l e) there is
  where
    by : {disk : DiskState} → AreFilesThere disk x → IsLastSynced last disk → x.file.0 ≡ last → IsFileSynced (disk (file.Mail x.file.0))
    by t (inl none) e = absurd (let n = t.number.low in omega (arith, n, none, e))
    by {disk} t (inr s) e = subst (λ (n : ℕ). IsFileSynced (disk (file.Mail n))) (sym e) s

pub both_synced : (x : TakenRow) (old new : Option History) → Between IsOnlySynced old new → IfTold old (λ disk. IsFileSynced (disk (file.Mail x.file.0))) → IfTold new (λ disk. All (IsInstanceSynced disk) x.instances)
    → IfTold new (λ disk. AreFilesSynced disk x)
both_synced x old new same storage instances =
    if_told-both (λ disk. IsFileSynced (disk (file.Mail x.file.0))) (λ disk. All (IsInstanceSynced disk) x.instances) (λ disk. AreFilesSynced disk x) new (λ disk s i. record { storage = s; instances = i })
    (between-on IsOnlySynced (λ disk. IsFileSynced (disk (file.Mail x.file.0))) (λ disk. IsFileSynced (disk (file.Mail x.file.0))) old new (λ a b r s. r.synced (file.Mail x.file.0) s) same storage) instances
