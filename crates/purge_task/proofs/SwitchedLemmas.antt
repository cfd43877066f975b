-- What a switch leaves, from the sync of the target to its release.
use Rattle.purge_task.proofs.Common.{◌≡◌, ◌≢◌, inl, inr, ℕ, ◌==◌, true, false, Option, Some, None, List, map, refl, sym, ap, subst, ◌∙◌, option_map_or, cases_eq, Between, DiskState, History, IfTold, Keeps, MayLeave, SameButFor, reading, FileName, between-begins, between-both, between-map, FileNo}
use Rattle.purge_task.proofs.Common.{MapEntry, MapFits, MapRecord, MapMeaning, map_applied, record_at, MailFile, changed_in, is_taken_in, made_doomed, pins_in, file-other, IsSpared, KeepsStored, due_at, KeepsFirm, StoreValue, firm_same, IsSwitched, IsTargetWritten, KeepsButTarget, ReadsMail}
use Rattle.purge_task.proofs.Common.{files_switched, target_released, target_synced, Switched, Source}
use Rattle.std.specs.Prelude.{IfSome}
use Rattle.disk_model.specs.declared.name.FileName.TheVariants as file
use Rattle.disk_model.proofs.BetweenLemmas.{between-then}
use Rattle.storage_files.specs.OnDisk.{IsSyncedFile}
use Rattle.store_core.specs.Dues.{leak_at}
use Rattle.store_core.specs.Keeping.{KeepsMail}
use Rattle.store_core.proofs.InstanceKeepingLemmas.{firm_both}
use Rattle.purge_task.specs.Switched.{IsSwitchEntry, IsPlacingIn, KeepsTarget, dropped_count, mid_of}
use Rattle.purge_task.proofs.SwitchReadyLemmas.{synced_or}

-- ---- the target is synced

abbrev Synced : ℕ → DiskState → DiskState → Type 0
Synced t a b = IsSyncedFile (a (file.Mail t)) (b (file.Mail t))

abbrev OthersSame : ℕ → DiskState → DiskState → Type 0
OthersSame t a b = (other : FileName) → other ≢ file.Mail t → b other ≡ a other

abbrev ReadSame : DiskState → DiskState → Type 0
ReadSame a b = ((number : ℕ) → reading (b (file.Mail number)) ≡ reading (a (file.Mail number))) × ((hash id : List ℕ) → b (file.Inst hash id) ≡ a (file.Inst hash id))

mail_apart : (a b : ℕ) → (a ≡ b → ⊥) → file.Mail a ≢ file.Mail b
mail_apart a b apart e = apart (let s : a ≡ b = cc e in s)

inst_apart : (hash id : List ℕ) (t : ℕ) → file.Inst hash id ≢ file.Mail t
inst_apart hash id t e = cc e

read_same : (t : ℕ) (a b : DiskState) → Synced t a b → OthersSame t a b → ReadSame a b
read_same t a b synced others = (
  (λ n. elim (cases_eq n t) [
    | inl is ↦ subst (λ (k : ℕ). reading (b (file.Mail k)) ≡ reading (a (file.Mail k))) (sym is) synced.reads
    | inr apart ↦ ap reading (others (file.Mail n) (mail_apart n t apart))
  ]),
  λ hash id. others (file.Inst hash id) (inst_apart hash id t),
)

pub reads_synced : (t : ℕ) (h k : Option History) → Between (Synced t) h k → SameButFor (file.Mail t) h k → ReadsMail h k
reads_synced t h k synced others = between-both (Synced t) (OthersSame t) ReadSame h k (read_same t) synced others

pub kept_synced : (t : FileNo) (h k : Option History) → SameButFor (file.Mail t.0) h k → KeepsButTarget (Some t) h k
kept_synced t h k others = between-map (OthersSame t.0) _ h k (λ a b r number apart. r (file.Mail number) (mail_apart number t.0 (λ e. apart (sym e)))) others

pub begins_kept : (h : Option History) → KeepsButTarget None h h
begins_kept h = between-begins _ h (λ disk number apart. refl)

pub reads_begin : (h : Option History) → ReadsMail h h
reads_begin h = between-begins ReadSame h (λ disk. ((λ n. refl), λ hash id. refl))

pub firm_synced : {D : Type 0} → (t : ℕ) (old new : StoreValue D) (h k : Option History) → new.instances ≡ old.instances → new.map ≡ old.map → SameButFor (file.Mail t) h k → KeepsFirm old new h k
firm_synced t old new h k instances maps others = firm_same old new h k instances (ap (λ (m : MapMeaning). map (λ row. (row.origin, row.instances)) m.records) maps) (between-map (OthersSame t) _ h k (λ a b r hash id. inl (r (file.Inst hash id) (inst_apart hash id t))) others)

pub firm_begins : {D : Type 0} → (old new : StoreValue D) (h : Option History) → new.instances ≡ old.instances → new.map ≡ old.map → KeepsFirm old new h h
firm_begins old new h instances maps = firm_same old new h h instances (ap (λ (m : MapMeaning). map (λ row. (row.origin, row.instances)) m.records) maps) (between-begins _ h (λ disk hash id. inl refl))

pub keeps_target : (t : FileNo) (h k : Option History) → Between (Synced t.0) h k → ((text : List ℕ) → IfTold h (λ now. (reading (now (file.Mail t.0)) ≡ Some text) × (MayLeave (now (file.Mail t.0)) None → ⊥)) → IfTold k (λ now. Keeps (now (file.Mail t.0)) text)) → KeepsTarget (Some t) h k
keeps_target t None k synced held = synced
keeps_target t (Some d) None synced held = elim synced [ ]
keeps_target t (Some d) (Some e) synced held = held

pub placing_of : {D : Type 0} → (target : Option FileNo) (source : Source) (store : StoreValue D) (h : Option History) → IsTargetWritten target source store h → IsPlacingIn target store
placing_of None source store h written = tt
placing_of (Some t) source store h written = record { start = written.begun.0; begun = written.begun.1; end = written.end; ends = written.ends; fits = written.fits }

-- ---- the three calls together

files_are : (n : ℕ) (target : Option FileNo) (files : List MailFile) → target_released target (changed_in n made_doomed (target_synced target files)) ≡ files_switched n target files
files_are n None files = refl
files_are n (Some t) files = refl

abbrev IsAllOf : {D : Type 0} → StoreValue D → List MailFile → StoreValue D → Type 0
IsAllOf old files v = v ≡ record old { disk = v.disk; map_log = v.map_log; map = v.map; dues = v.dues; files = record old.files { files = files } }

all_same : {D : Type 0} → (n : ℕ) (target : Option FileNo) (old mid new last : StoreValue D) → mid ≡ mid_of target mid.disk old → new ≡ record mid { disk = new.disk; map_log = new.map_log; map = new.map; files = record mid.files { files = changed_in n made_doomed mid.files.files }; dues = new.dues }
    → last ≡ record new { files = record new.files { files = target_released target new.files.files } } → IsAllOf old (files_switched n target old.files.files) last
all_same n target old mid new last first second third =
    subst (IsAllOf old (files_switched n target old.files.files)) (sym third) (
    ap (λ (v : StoreValue _). record v { files = record v.files { files = target_released target v.files.files } }) second
    ∙ ap (λ (v : StoreValue _). record v { disk = new.disk; map_log = new.map_log; map = new.map; dues = new.dues; files = record v.files { files = target_released target (changed_in n made_doomed v.files.files) } }) first
    ∙ ap (λ (fs : List MailFile). record old { disk = new.disk; map_log = new.map_log; map = new.map; dues = new.dues; files = record old.files { files = fs } }) (files_are n target old.files.files)
    )

pub is_switched : {D : Type 0} → (source : Source) (switched : Switched) (entry : MapEntry) (old mid new last : StoreValue D) → mid ≡ mid_of source.target mid.disk old
    → new ≡ record mid { disk = new.disk; map_log = new.map_log; map = new.map; files = record mid.files { files = changed_in source.file.0 made_doomed mid.files.files }; dues = new.dues }
    → last ≡ record new { files = record new.files { files = target_released source.target new.files.files } } → IsSwitchEntry old.map source entry → MapFits mid.map entry → new.map ≡ map_applied entry mid.map
    → switched.is_unpinned ≡ (pins_in source.file.0 mid.files.files == 0) → switched.dropped ≡ dropped_count entry → IsSwitched source switched old last
is_switched source switched entry old mid new last first second third of fits applied unpinned counted =
    let maps : mid.map ≡ old.map = ap (λ (v : StoreValue _). v.map) first in
    record {
      moved = of.moved;
      dropped = of.dropped;
      listed = of.listed;
      fits = subst (MapFits old.map) of.is (subst (λ (m : MapMeaning). MapFits m entry) maps fits);
      map_is = ap (λ (v : StoreValue _). v.map) third ∙ applied ∙ ap (λ (m : MapMeaning). map_applied entry m) maps ∙ ap (λ (e : MapEntry). map_applied e old.map) of.is;
      same = all_same source.file.0 source.target old mid new last first second third;
      unpinned = unpinned ∙ ap (λ (v : StoreValue _). pins_in source.file.0 v.files.files == 0) first ∙ ap (λ (n : ℕ). n == 0) (synced_or (λ f. f.pins) 0 source.target source.file.0 old.files.files (λ f. refl));
      counted = counted ∙ ap dropped_count of.is;
    }

-- the target is its taker's still
pub taken_still : {D : Type 0} → (target : Option FileNo) (source : Source) (old mid new : StoreValue D) (h : Option History) → mid ≡ mid_of source.target mid.disk old
    → new ≡ record mid { disk = new.disk; map_log = new.map_log; map = new.map; files = record mid.files { files = changed_in source.file.0 made_doomed mid.files.files }; dues = new.dues } → IsTargetWritten target source old h → IfSome target (λ t. is_taken_in t.0 new.files.files ≡ true)
taken_still None source old mid new h first second written = tt
taken_still (Some t) source old mid new h first second written =
    ap (λ (v : StoreValue _). is_taken_in t.0 v.files.files) second ∙ ap (λ (o : Option MailFile). option_map_or (λ f. f.taken) o false) (file-other source.file.0 t.0 made_doomed mid.files.files (λ f. refl) written.other)
    ∙ ap (λ (v : StoreValue _). is_taken_in t.0 v.files.files) first ∙ synced_or (λ f. f.taken) false source.target t.0 old.files.files (λ f. refl) ∙ written.taken

pub due_still : {D : Type 0} → (uid : ℕ) (target : Option FileNo) (old mid new last : StoreValue D) → mid ≡ mid_of target mid.disk old → due_at uid new ≡ due_at uid mid → last ≡ record new { files = record new.files { files = target_released target new.files.files } } → due_at uid last ≡ due_at uid old
due_still uid target old mid new last first second third = ap (due_at uid) third ∙ second ∙ ap (due_at uid) first

pub leak_still : {D : Type 0} → (uid : ℕ) (target : Option FileNo) (old mid new last : StoreValue D) → mid ≡ mid_of target mid.disk old → leak_at uid new ≡ leak_at uid mid → last ≡ record new { files = record new.files { files = target_released target new.files.files } } → leak_at uid last ≡ leak_at uid old
leak_still uid target old mid new last first second third = ap (leak_at uid) third ∙ second ∙ ap (leak_at uid) first

pub spared_still : {D : Type 0} → (uid : ℕ) (row : MapRecord) (target : Option FileNo) (new last : StoreValue D) (h k l : Option History) → KeepsStored h k → last ≡ record new { files = record new.files { files = target_released target new.files.files } } → IsSpared uid row new k l → IsSpared uid row last h l
spared_still uid row target new last h k l stored third spared = record {
  now = spared.now;
  there = ap (λ (v : StoreValue _). record_at v.map uid) third ∙ spared.there;
  guid = spared.guid;
  stores = λ octets. between-then _ _ _ h k l (λ a b c r s first. s (r row octets first)) stored (spared.stores octets);
}

pub reads_kept : (h k l : Option History) → ReadsMail h k → KeepsMail k l → ReadsMail h l
reads_kept h k l first second = between-then ReadSame _ ReadSame h k l (λ a b c r s. ((λ n. ap reading (s.0 n) ∙ r.0 n), λ hash id. s.1 hash id ∙ r.1 hash id)) first second

pub still_kept : (target : Option FileNo) (h k l : Option History) → KeepsButTarget target h k → KeepsMail k l → KeepsButTarget target h l
still_kept target h k l first second = between-then _ _ _ h k l (λ a b c r s number apart. s.0 number ∙ r number apart) first second

pub firm_still : {D : Type 0} → (target : Option FileNo) (old mid new last : StoreValue D) (h k l : Option History) → KeepsFirm old mid h k → KeepsFirm mid new k l → last ≡ record new { files = record new.files { files = target_released target new.files.files } } → KeepsFirm old last h l
firm_still target old mid new last h k l first second third = firm_both old new last h l l (firm_both old mid new h k l first second) (firm_begins new last l (ap (λ (v : StoreValue _). v.instances) third) (ap (λ (v : StoreValue _). v.map) third))
