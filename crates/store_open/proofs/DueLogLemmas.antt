-- What an opening answers whose due logs were written anew, from what was known before that.
use Rattle.std.proofs.Common.{◌≡◌, ◌⊎◌, inl, inr, ℕ, Bool, true, false, List, Option, Some, None, Result, Ok, Err, refl, sym, ◌∙◌, ap, subst}
use Rattle.std.specs.Prelude.{◌↔◌, IfErr, IfOk, IsErrOf}
use Rattle.std.proofs.lemmas.Bool.{cases_Bool}
use Rattle.box_snapshot.specs.Due.{NoLogDue}
use Rattle.box_snapshot.specs.Rewrites.{AreNamesSynced, LeavesNoOldLogs, Rewrites, SyncsMailNames}
use Rattle.disk_model.proofs.BetweenLemmas.{between-back, between-if, between-map, between-then}
use Rattle.disk_model.proofs.MomentLemmas.{each_image-then, if_told-both}
use Rattle.disk_model.specs.Disk.{Between, DiskState, EachImage, Faults, Files, History, IfTold}
use Rattle.disk_model.specs.FaultCounts.{NoFault, ChangeFaultCounted}
use Rattle.disk_model.specs.declared.name.FileName.TheVariants as file
use Rattle.mdbox_base.specs.declared.entries.BoxEntry.{BoxEntry}
use Rattle.mdbox_base.specs.declared.entries.MapEntry.{MapEntry}
use Rattle.model_kept.proofs.KeptLemmas.{ReadsImage, kept_then}
use Rattle.model_kept.specs.Kept.{MailIsKept}
use Rattle.model_lists.specs.Lists.{Lists}
use Rattle.model_logs.specs.declared.log_head.LogHead.{LogHead}
use Rattle.model_meaning.specs.MapMeaning.{MapMeaning, map_meaning}
use Rattle.model_rewritten.specs.CarriedStore.{CarriesStore}
use Rattle.model_store.proofs.StandsLemmas.{root_same}
use Rattle.model_store.specs.Carrying.{CarryOver}
use Rattle.model_store.specs.Listing.{ShowLists}
use Rattle.model_store.specs.Opening.{Opens}
use Rattle.model_store.specs.Safe.{Safe}
use Rattle.model_store.specs.Settled.{files_of, IsSettledFor}
use Rattle.store_core.specs.Running.{IsStore}
use Rattle.store_core.specs.Value.{StoreValue, indexes_of}
use Rattle.store_core.specs.declared.error.StepError.{StepError}
use Rattle.store_core.specs.declared.error.StepError.TheVariants as step_error
use Rattle.store_files.specs.Found.{IsFoundFiles}
use Rattle.store_instances.specs.FoundInstances.{IsFoundInstances}
use Rattle.store_open.proofs.CheckedLemmas.{OpensAt}
use Rattle.store_open.proofs.RewrittenLemmas.{files_same, instances_same, opened_same, shows_same, undue_carried, undue_opened}
use Rattle.store_open.proofs.RewrittenSweepLemmas.{AllWanted, IsWrittenDisk, NoOthers, names_synced, swept_written, unneeded_gone}
use Rattle.store_open.proofs.StillOpensLemmas.{carries_own}
use Rattle.store_open.specs.Opened.{CarriesAll, CarriesOpened, HasNoLogDue, IsClosedWell, IsFaulted, IsOpenedAs, StoreCarries, disk_of}
use Rattle.store_open.specs.Causes.{of_step}
use Rattle.store_open.specs.Rewritten.{WritesDueLogs}
use Rattle.store_open.specs.declared.error.OpenError.TheVariants.{DiskFault, NoMemory}
use Rattle.store_open.specs.declared.error.OpenRefused.{OpenRefused}
use Rattle.store_sweep.proofs.IdleSweepLemmas.{idle_if_not, idle_same, idle_weaker}
use Rattle.store_sweep.specs.Moments.{IdleIf, NamesSynced, NoFailedChange}
use Rattle.store_sweep.specs.Swept.{IsSwept}

abbrev Answer : Type 0 → Type 0
Answer D = Result (StoreValue D) (OpenRefused D)

-- where the device didn't fail the store isn't stopped
pub goes_on : {T : Type 0} → (r : Result T StepError) (stopped : Bool) → IsErrOf r step_error.Stopped ↔ (stopped ≡ true) → (IsErrOf r step_error.Stopped → ⊥) → stopped ≡ false
goes_on r stopped both none = elim (cases_Bool stopped) [
  | inl on ↦ absurd (none (both.1 on))
  | inr off ↦ off
]

-- an error of the store refuses the opening as a fault or want of memory
pub step_refused : (given : StepError) → (of_step given ≡ DiskFault) ⊎ (of_step given ≡ NoMemory)
step_refused step_error.Stopped = inl refl
step_refused step_error.NoMemory = inr refl

pub stopped_is : {T : Type 0} → (r : Result T StepError) (given : StepError) → r ≡ Err given → IsErrOf r step_error.Stopped → of_step given ≡ DiskFault
stopped_is r given is stopped = let e : given ≡ step_error.Stopped = cc (is, stopped) in ap of_step e

-- what holds of the store as it is then, holds of the store that is answered
of_ok : {D : Type 0} → (h : D → Option History) (old : StoreValue D) (r : Answer D) (P : StoreValue D → Type 0) → (w : WritesDueLogs h old r) → (w.new.stopped ≡ false → NoLogDue w.new → LeavesNoOldLogs h old w.new → P w.new) → IfOk r P
of_ok h old (Ok s) P w p = subst P (sym w.opened.0) (p (w.running (λ e. e)) w.opened.1 w.opened.2)
of_ok h old (Err e) P w p = tt

-- where no change failed the store isn't stopped
pub runs_on : {D : Type 0} → (h : D → Option History) (old : StoreValue D) (r : Answer D) (first now new : Faults) → (w : WritesDueLogs h old r) → NoFault first now → ChangeFaultCounted (IsFaulted r) now new → NoFailedChange (IsFaulted r) first new → w.new.stopped ≡ false
runs_on h old r first now new w same counted none = w.running (λ f. subst (λ (c : Faults). NoFailedChange (IsFaulted r) c new) (sym same) none f (counted.rose f))

-- ---- the store

pub opened_anew : {D : Type 0} → (h : D → Option History) (old : StoreValue D) (r : Answer D) (first : Option History) → WritesDueLogs h old r → IsOpenedAs first old.map (indexes_of old.boxes) → IfOk r (λ store. IsOpenedAs first store.map (indexes_of store.boxes))
opened_anew h old r first w o = of_ok h old r (λ store. IsOpenedAs first store.map (indexes_of store.boxes)) w (λ runs undue gone. opened_same first old.map w.new.map _ _ w.rewrites.means w.rewrites.indexes o)

pub files_anew : {D : Type 0} → (h : D → Option History) (old : StoreValue D) (r : Answer D) (first : Option History) → WritesDueLogs h old r → IsFoundFiles old.map first old.files → IfOk r (λ store. IsFoundFiles store.map first store.files)
files_anew {D} h old r first w found =
    of_ok h old r (λ store. IsFoundFiles store.map first store.files) w (λ runs undue gone.
    files_same old.map w.new.map first w.new.files w.rewrites.means (rw (ap (λ (s : StoreValue D). s.files) w.rewrites.same) found))

pub instances_anew : {D : Type 0} → (h : D → Option History) (old : StoreValue D) (r : Answer D) → WritesDueLogs h old r → IsFoundInstances old.map old.instances → IfOk r (λ store. IsFoundInstances store.map store.instances)
instances_anew {D} h old r w found =
    of_ok h old r (λ store. IsFoundInstances store.map store.instances) w (λ runs undue gone.
    instances_same old.map w.new.map w.new.instances w.rewrites.means (rw (ap (λ (s : StoreValue D). s.instances) w.rewrites.same) found))

pub shows_anew : {D : Type 0} → (h : D → Option History) (old : StoreValue D) (r : Answer D) (first : Option History) → WritesDueLogs h old r → ((lists : Lists) → IsSettledFor lists first → ShowLists old.map.boxes (indexes_of old.boxes) lists)
    → IfOk r (λ store. (lists : Lists) → IsSettledFor lists first → ShowLists store.map.boxes (indexes_of store.boxes) lists)
shows_anew h old r first w shows =
    of_ok h old r (λ store. (lists : Lists) → IsSettledFor lists first → ShowLists store.map.boxes (indexes_of store.boxes) lists) w (λ runs undue gone lists s. shows_same old.map w.new.map _ _ lists w.rewrites.means w.rewrites.indexes (shows lists s))

-- ---- its disk

-- the law of what files carry one after another
abbrev pub CarriesOn : Type 0
CarriesOn = (a b c : Files) (store : List ℕ) (entries : List MapEntry) (logs : List (List BoxEntry)) → (s : CarriesStore store entries logs a b) → CarriesStore store s.later s.later_logs b c → CarriesStore store entries logs a c

-- whatever store the files opened with, they open again
abbrev pub CarriesStores : DiskState → DiskState → Type 0
CarriesStores a b = (store : List ℕ) (entries : List MapEntry) (logs : List (List BoxEntry)) → Opens (files_of a) store entries logs → CarriesStore store entries logs (files_of a) (files_of b)

-- the law of stores whose logs were written anew
abbrev pub OpenAgain : {D : Type 0} → (D → Option History) → Type 0
OpenAgain {D} h = (old new : StoreValue D) → Rewrites h old new → IsStore (h old.disk) old → IsStore (h new.disk) new → old.stopped ≡ false → new.stopped ≡ false → Between CarriesStores (h old.disk) (h new.disk)

-- then where no log was due nothing has changed
record WritesDue (a b : DiskState) : Type 0 where
  again : CarriesStores a b
  same : HasNoLogDue a → b ≡ a

-- the state, where no log of a running store is due
undue_same : {D : Type 0} → (now : History) (new : Option History) (old : StoreValue D) → IsStore (Some now) old → old.stopped ≡ false → (NoLogDue old → new ≡ Some now) → HasNoLogDue now.now → new ≡ Some now
undue_same now new old s runs idle none = idle (undue_opened now old s runs none)

writes_due : {D : Type 0} → (now new : Option History) (old : StoreValue D) → IsStore now old → old.stopped ≡ false → (NoLogDue old → new ≡ now) → Between CarriesStores now new → Between WritesDue now new
writes_due None new old s runs idle again = again
writes_due (Some now) None old s runs idle again = again
writes_due (Some now) (Some new) old s runs idle again = record { again = again; same = λ none. let e : Some new ≡ Some now = undue_same now (Some new) old s runs idle none in cc e }

all_then : CarriesOn → (a b c : DiskState) → CarriesAll a b → WritesDue b c → CarriesOpened a c
all_then on a b c all due = record {
  again = λ store entries logs o. let s = carries_own store entries logs (files_of a) (files_of b) o (all store entries logs o) in on (files_of a) (files_of b) (files_of c) store entries logs s (due.again store s.later s.later_logs s.opens);
  undue = λ none store entries logs o. subst (λ (d : DiskState). CarryOver o.passed.map_log.generation (map_meaning store entries) (files_of a) (files_of d)) (sym (due.same (undue_carried a b store entries logs o all none))) (all store entries logs o);
}

pub carried_anew : {D : Type 0} → (h : D → Option History) (old : StoreValue D) (r : Answer D) (first : Option History) → CarriesOn → OpenAgain h → (w : WritesDueLogs h old r) → old.stopped ≡ false → w.new.stopped ≡ false → (NoLogDue old → r ≡ Ok old) → Between CarriesAll first (h old.disk) → StoreCarries first (h (disk_of r))
carried_anew {D} h old r first on law w runs goes idle before =
    let again : Between CarriesStores (h old.disk) (h (disk_of r)) =
    subst (λ (d : D). Between CarriesStores (h old.disk) (h d)) (sym w.disk) (law old w.new w.rewrites w.was w.is runs goes) in
    between-then CarriesAll WritesDue CarriesOpened first (h old.disk) (h (disk_of r)) (all_then on) before
    (writes_due (h old.disk) (h (disk_of r)) old w.was runs (λ undue. ap (λ (a : Answer D). h (disk_of a)) (idle undue)) again)

pub settled_anew : {D : Type 0} → (h : D → Option History) (old : StoreValue D) (r : Answer D) (lists : Lists) → (w : WritesDueLogs h old r) → w.new.stopped ≡ false → IsSettledFor lists (h old.disk) → IsSettledFor lists (h (disk_of r))
settled_anew {D} h old r lists w goes s = subst (λ (d : D). IsSettledFor lists (h d)) (sym w.disk) (w.rewrites.settled goes lists s)

pub safe_anew : {D : Type 0} → (h : D → Option History) (old : StoreValue D) (r : Answer D) (first : Option History) (lists : Lists) → WritesDueLogs h old r → IsSettledFor lists (h old.disk) → EachImage (λ _ image. Safe image lists) first (h old.disk) → EachImage (λ _ image. Safe image lists) first (h (disk_of r))
safe_anew {D} h old r first lists w s before =
    subst (λ (d : D). EachImage (λ _ image. Safe image lists) first (h d)) (sym w.disk) (each_image-then _ first (h old.disk) (h w.new.disk) before (w.rewrites.any_moment lists s))

pub kept_anew : {D : Type 0} → (h : D → Option History) (old : StoreValue D) (r : Answer D) (first : Option History) (m : MapMeaning) → WritesDueLogs h old r → IfTold (h old.disk) ReadsImage → MailIsKept m first (h old.disk) → MailIsKept m first (h (disk_of r))
kept_anew {D} h old r first m w reads before = subst (λ (d : D). MailIsKept m first (h d)) (sym w.disk) (kept_then m first (h old.disk) (h w.new.disk) reads before (w.rewrites.mail_stays m))

-- ---- where no log is due

undue_by : {D : Type 0} → (now new : Option History) (old : StoreValue D) → IsStore now old → old.stopped ≡ false → (NoLogDue old → new ≡ now) → IdleIf HasNoLogDue now new
undue_by None new old s runs idle = tt
undue_by (Some now) new old s runs idle = λ none. idle_same (Some now) new (undue_same now new old s runs idle none)

pub closed_anew : {D : Type 0} → (h : D → Option History) (old : StoreValue D) (r : Answer D) → WritesDueLogs h old r → old.stopped ≡ false → (NoLogDue old → r ≡ Ok old) → IdleIf IsClosedWell (h old.disk) (h (disk_of r))
closed_anew {D} h old r w runs idle =
    idle_weaker IsClosedWell HasNoLogDue (h old.disk) (h (disk_of r)) (λ disk p. p.undue) (undue_by (h old.disk) (h (disk_of r)) old w.was runs (λ undue. ap (λ (a : Answer D). h (disk_of a)) (idle undue)))

-- a store without a log that is due is no refusal
no_refusal : {D : Type 0} → (now : Option History) (old : StoreValue D) (given : OpenRefused D) → IsStore now old → old.stopped ≡ false → (NoLogDue old → Err given ≡ Ok old) → IfTold now (λ disk. HasNoLogDue disk → ⊥)
no_refusal None old given s runs idle = tt
no_refusal (Some now) old given s runs idle = λ none. let e : Err given ≡ Ok old = idle (undue_opened now old s runs none) in absurd (cc e)

-- so if it is refused, a log was due at the beginning
undue_since : (first now : Option History) (store : List ℕ) (entries : List MapEntry) (logs : List (List BoxEntry)) → IfTold first (λ disk. Opens (files_of disk) store entries logs) → Between CarriesAll first now → IfTold now (λ disk. HasNoLogDue disk → ⊥)
    → IfTold first (λ disk. HasNoLogDue disk → ⊥)
undue_since first now store entries logs opens all due =
    between-back (λ a b. HasNoLogDue a → HasNoLogDue b) (λ disk. HasNoLogDue disk → ⊥) (λ disk. HasNoLogDue disk → ⊥) first now (λ a b keeps no none. no (keeps none))
    (between-if CarriesAll (λ a b. HasNoLogDue a → HasNoLogDue b) (λ disk. Opens (files_of disk) store entries logs) first now (λ a b carry o. undue_carried a b store entries logs o carry) all opens) due

pub memory_anew : {D : Type 0} → (h : D → Option History) (old : StoreValue D) (r : Answer D) (first : Option History) (store : List ℕ) (entries : List MapEntry) (logs : List (List BoxEntry)) → WritesDueLogs h old r → old.stopped ≡ false → (NoLogDue old → r ≡ Ok old)
    → IfTold first (λ disk. Opens (files_of disk) store entries logs) → Between CarriesAll first (h old.disk) → IfErr r (λ refused. refused.error ≡ NoMemory → IdleIf HasNoLogDue first (h refused.disk))
memory_anew h old (Ok s) first store entries logs w runs idle opens all = tt
memory_anew h old (Err given) first store entries logs w runs idle opens all = λ memory. idle_if_not HasNoLogDue first (h given.disk) (undue_since first (h old.disk) store entries logs opens all (no_refusal (h old.disk) old given w.was runs idle))

-- ---- the sweep

same_generation : (g k : ℕ) → file.Map g ≡ file.Map k → g ≡ k
same_generation g k e = cc e

-- a store's disk opens under the generation of its map log
open_at : {D : Type 0} → (history : Option History) (store : StoreValue D) → (s : IsStore history store) → store.stopped ≡ false → IfTold history (OpensAt store.map.store s.generation s.entries s.logs)
open_at history store s runs =
    if_told-both _ _ _ history (λ disk o root. (o, (root_same (files_of disk) store.map.store store.map.store o.passed.map_log.generation s.generation o.passed.map_log.root root).1)) (s.running runs).opens (s.running runs).root

head_at : {D : Type 0} → (history : Option History) (store : StoreValue D) → (s : IsStore history store) → store.map_log.head.generation ≡ s.generation
head_at history store s = ap (λ (l : LogHead). l.generation) s.map_head

-- no log that isn't in force is left where each file was needed
gone_anew : {D : Type 0} → (h : D → Option History) (old new : StoreValue D) (k g : ℕ) → old.map_log.head.generation ≡ k → new.map_log.head.generation ≡ g → LeavesNoOldLogs h old new
    → Between (λ a b. AllWanted k old.map a → NoOthers g new.map b) (h old.disk) (h new.disk)
gone_anew h old new k g before now gone =
    between-map _ _ (h old.disk) (h new.disk) (λ a b leaves all. subst (λ (i : ℕ). NoOthers i new.map b) now (leaves (subst (λ (i : ℕ). NoOthers i old.map a) (sym before) (unneeded_gone k old.map a all)))) gone

names_anew : {D : Type 0} → (h : D → Option History) (old new : StoreValue D) (first : Option History) (k g : ℕ) → old.map_log.name ≡ file.Map k → new.map_log.name ≡ file.Map g → IsSwept k old.map first (h old.disk) → Between SyncsMailNames (h old.disk) (h new.disk)
    → (new ≡ old) ⊎ IfTold (h new.disk) AreNamesSynced → NamesSynced g new.map first (h new.disk)
names_anew {D} h old new first k g before now swept mail (inl same) =
    let one : k ≡ g = same_generation k g (sym before ∙ sym (ap (λ (s : StoreValue D). s.map_log.name) same) ∙ now) in
    subst (λ (i : ℕ). NamesSynced i new.map first (h new.disk)) one (subst (λ (s : StoreValue D). NamesSynced k s.map first (h s.disk)) (sym same) swept.names)
names_anew {D} h old new first k g before now swept mail (inr synced) =
    names_synced g new.map first (h new.disk) (λ a b. Unit {0}) (between-then _ SyncsMailNames (λ a b. Unit {0}) first (h old.disk) (h new.disk) (λ a b c carried m. tt) swept.reads mail) synced

pub swept_anew : {D : Type 0} → (h : D → Option History) (old : StoreValue D) (r : Answer D) (first : Option History) (k : ℕ) → WritesDueLogs h old r → old.map_log.name ≡ file.Map k → IsSwept k old.map first (h old.disk)
    → IfOk r (λ store. (generation : ℕ) × (store.map_log.name ≡ file.Map generation) × IsSwept generation store.map first (h store.disk))
swept_anew {D} h old r first k w name swept =
    of_ok h old r (λ store. (generation : ℕ) × (store.map_log.name ≡ file.Map generation) × IsSwept generation store.map first (h store.disk)) w (λ goes undue gone.
    let g : ℕ = w.is.generation in
    let mail = w.rewrites.mail goes in
    let before : old.map_log.head.generation ≡ k = head_at (h old.disk) old w.was ∙ same_generation w.was.generation k (sym w.was.map_name ∙ name) in
    let disk : IsWrittenDisk g old.map w.new.map (h old.disk) (h w.new.disk) = record {
      same = w.rewrites.means;
      entries = w.is.entries;
      logs = w.is.logs;
      map_is = w.is.map_is;
      opens = open_at (h w.new.disk) w.new w.is goes;
      mail = mail;
    } in (
      g,
      w.is.map_name,
      swept_written g k old.map w.new.map first (h old.disk) (h w.new.disk) disk (gone_anew h old w.new k g before (head_at (h w.new.disk) w.new w.is) gone)
          (names_anew h old w.new first k g name w.is.map_name swept mail (w.rewrites.names goes)) swept,
    ))
