-- What the events of a purge say of a purge beside no other task.
use Rattle.purge_task.proofs.Common.{◌≡◌, ◌≢◌, ◌<◌, ◌+◌, ℕ, Bool, true, false, List, [], ◌∷◌, length, Option, Some, None, refl, sym, ◌∙◌, ap, subst, arith, All, option_map, option_map_or, length-drop, length-take-le, All-cons, All-head, All-weaker, Between, DiskState, Files, History, IfTold, Keeps}
use Rattle.purge_task.proofs.Common.{SameButFor, named, reading, FileName, between-both, between-if, FileNo, MapRow, AreCopied, MapMeaning, is_sealed, record_at, equal_yes, pairs_head, LiesInFile, files_of, AreFilesInOrder, IsUsedFile, end_in, file_in, is_doomed_in, is_emptied_in, is_taken_in}
use Rattle.purge_task.proofs.Common.{pins_in, OthersAreNamed, MailFile, AreFilesKept, AreElsewhere, IsStore, StoreValue, store_sound, named_reads, MovesClaims, Pinned, claims_of_switched, claims_of_target, purge_claims, sources_left, at_stage, IsRegionAdded, HasPurged, IsBeginningFirst, IsToBegin}
use Rattle.purge_task.proofs.Common.{PurgeValue, target_header, HoldsCopied, HoldsCopies, IsAtHand, IsOnlyTask, IsQuietFrom, IsQuietSoFar, KeepsQuiet, StaysQuiet, sources_to_empty, IsNextStage, went_on, IsBehindSwitch, IsToSwitch, IsUnwantedFirst, IsFirst, IsSwitched, IsTargetWritten, ReadsMail}
use Rattle.purge_task.proofs.Common.{Switched, PurgeStage, Source, Work, fall}
use Rattle.std.specs.Prelude.{drop, take}
use Rattle.disk_model.specs.declared.name.FileName.TheVariants as file
use Rattle.disk_model.proofs.BetweenLemmas.{between-since}
use Rattle.mdbox_base.specs.declared.progress.Did.TheVariants as did
use Rattle.mdbox_base.specs.declared.progress.Progress.TheVariants as progress
use Rattle.storage_files.specs.OnDisk.{IsAsKnown}
use Rattle.task_claims.specs.Claims.{HasNoTask}
use Rattle.task_claims.proofs.OpenedLemmas.{none_claimed}
use Rattle.purge_task.specs.Switched.{IsWritten}
use Rattle.purge_task.specs.declared.task.PurgeStage.TheVariants as stage
use Rattle.purge_task.proofs.BareCallLemmas.{IsBareOne, emptied_file}
use Rattle.purge_task.proofs.CopyCallLemmas.{IsNotedFor}
use Rattle.purge_task.proofs.CopyingLemmas.{IsCopyingOne}
use Rattle.purge_task.proofs.DropLemmas.{drops_both, emptied_unsealed, switch_drops}
use Rattle.purge_task.proofs.QuietEventLemmas.{ChangesFile, one_counted, quiet_bare, quiet_copied, quiet_made, quiet_removed}
use Rattle.purge_task.proofs.QuietSwitchLemmas.{IsSwitchedQuietly, quiet_switched}
use Rattle.purge_task.proofs.RemovalCallLemmas.{IsRemovingOne, doomed_file}
use Rattle.purge_task.proofs.SwitchCallLemmas.{IsSwitchedOne}
use Rattle.purge_task.proofs.TargetCallLemmas.{IsTargetOne}

-- ---- from the step's words

-- a quiet purge at its stage, whatever its last event did
pub quiet_at : {D : Type 0} → (s : PurgeStage) (began files : Files) (first : MapMeaning) (t : PurgeValue) (store : StoreValue D) → t.stage ≡ s → IsQuietSoFar began first t store files → IsQuietSoFar began first (at_stage s t) store files
quiet_at s began files first t store is h = subst (λ (p : PurgeStage). IsQuietSoFar began first (at_stage p t) store files) is h

pub from_stage : {D : Type 0} → (s : PurgeStage) (began files : Files) (first : MapMeaning) (t : PurgeValue) (store : StoreValue D) → t.stage ≡ s → IsQuietFrom t.stage began first t store files → IsQuietFrom s began first t store files
from_stage s began files first t store is h = subst (λ (p : PurgeStage). IsQuietFrom p began first t store files) is h

-- behind its first event
pub quiet_from : {D : Type 0} → (s : PurgeStage) (began files : Files) (first : MapMeaning) (t : PurgeValue) (store : StoreValue D) → s ≢ stage.First → IsQuietSoFar began first t store files → IsQuietFrom s began first t store files
quiet_from stage.First began files first t store begun h = absurd (begun refl)
quiet_from (stage.Begin work) began files first t store begun h = h
quiet_from (stage.Copying work) began files first t store begun h = h
quiet_from (stage.Removing work) began files first t store begun h = h
quiet_from stage.Instances began files first t store begun h = h

-- a store of which nobody claims anything, as it is opened
pub only_first : {D : Type 0} → (store : StoreValue D) → HasNoTask store → IsOnlyTask stage.First store
only_first store free thing = none_claimed store free thing

-- there is no other task still
pub only_moves : {D : Type 0} → (at on : PurgeStage) (old new : StoreValue D) → IsOnlyTask at old → MovesClaims (purge_claims at) (purge_claims on) old new → IsOnlyTask on new
only_moves at on old new only moves thing = let a = only thing in let b = moves thing in omega (arith, a, b)

-- ---- files that aren't sealed

pub taken_unsealed : {D : Type 0} → (n : ℕ) (store : StoreValue D) → AreFilesKept store.files store.drawn store.map → is_taken_in n store.files.files ≡ true → is_sealed store.map n ≡ false
taken_unsealed n store kept taken = by_case (file_in n store.files.files) refl
  where
    by_case : (o : Option MailFile) → file_in n store.files.files ≡ o → is_sealed store.map n ≡ false
    by_case None is = absurd (let k : false ≡ true = sym (ap (λ (o : Option MailFile). option_map_or (λ f. f.taken) o false) is) ∙ taken in cc k)
    by_case (Some f) is = sym (kept.sealed n f is) ∙ (kept.taken n f is (sym (ap (λ (o : Option MailFile). option_map_or (λ f. f.taken) o false) is) ∙ taken)).unsealed

pub doomed_unsealed : {D : Type 0} → (n : ℕ) (store : StoreValue D) → AreFilesKept store.files store.drawn store.map → All IsUsedFile store.files.files → is_doomed_in n store.files.files ≡ true → is_sealed store.map n ≡ false
doomed_unsealed n store kept used doomed = let f = doomed_file n store.files.files used doomed in sym (kept.sealed n f.f f.found) ∙ by_flag f.f.sealed refl (λ s. fall f.f.doomed f.doomed (f.used.sealed s).1)
  where
    by_flag : (b : Bool) → b ≡ b → (b ≡ true → ⊥) → b ≡ false
    by_flag false e none = refl
    by_flag true e none = absurd (none refl)

pub emptied_numbered : {D : Type 0} → (n : ℕ) (store : StoreValue D) → AreFilesKept store.files store.drawn store.map → All IsUsedFile store.files.files → is_emptied_in n store.files.files ≡ true → n ≢ 0
emptied_numbered n store kept used emptied is = let f = emptied_file n store.files.files used emptied in let l = kept.numbered n f.f f.found in omega (arith, l, is)

pub emptied_untaken : (n : ℕ) (files : List MailFile) → All IsUsedFile files → is_emptied_in n files ≡ true → is_taken_in n files ≡ true → ⊥
emptied_untaken n files used emptied taken = let f = emptied_file n files used emptied in fall f.f.taken (sym (ap (λ (o : Option MailFile). option_map_or (λ f. f.taken) o false) f.found) ∙ taken) (f.used.emptied f.emptied).1

-- ---- one file changes

pub one_changed : {D : Type 0} → (own : ℕ) (old new : StoreValue D) (a b : DiskState) → new.map ≡ old.map → ((other : FileName) → other ≢ file.Mail own → reading (b other) ≡ reading (a other)) → AreElsewhere own old.map.records → is_sealed old.map own ≡ false → ChangesFile own old new (files_of a) (files_of b)
one_changed own old new a b same others away unsealed = record {
  map_is = same;
  mails = λ n apart. others (file.Mail n) (λ e. apart (let k : n ≡ own = cc e in k));
  instances = λ hash id. others (file.Inst hash id) (λ e. cc e);
  elsewhere = away;
  unsealed = unsealed;
}

-- ---- a target is made

begun_uncopied : {D : Type 0} → (work : Work) (source : Source) (left : List Source) (store : StoreValue D) (history : Option History) → HasPurged (stage.Begin work) store history → sources_left work ≡ source ∷ left → source.copied.items ≡ []
begun_uncopied work source left store history h is =
    let first : IsBeginningFirst (source ∷ left) work store = subst (λ (l : List Source). IsBeginningFirst l work store) is h.2 in
    (All-head (IsToBegin work store) source left first.1).uncopied

pub made_quiet : {D : Type 0} → (H : D → Option History) (t : PurgeValue) (work : Work) (target : FileNo) (old new : StoreValue D) → t.stage ≡ stage.Begin work → IsStore (H old.disk) old → HasPurged (stage.Begin work) old (H old.disk) → (one : IsTargetOne work target old)
    → OthersAreNamed (file.Mail target.0) (H old.disk) (H new.disk) → IfTold (H new.disk) (λ now. Keeps (now (file.Mail target.0)) target_header) → new.map ≡ old.map → (new.stopped ≡ false → MovesClaims (purge_claims t.stage) (purge_claims (stage.Copying work)) old new)
    → KeepsQuiet t (at_stage (stage.Copying work) t) progress.More old new (H old.disk) (H new.disk)
made_quiet H t work target old new at is purged one others made same moves runs =
    between-since (λ a b. (other : FileName) → other ≢ file.Mail target.0 → b other ≡ named (a other)) (StaysQuiet t (at_stage (stage.Copying work) t) old new) (λ now. Keeps (now (file.Mail target.0)) target_header) (H old.disk) (H new.disk)
    (λ a b rest keeps began first h. (let q : IsQuietSoFar began first t old (files_of a) = from_stage (stage.Begin work) began (files_of a) first t old at h in
    quiet_made began (files_of a) (files_of b) first t work one.source one.left target old new (quiet_at (stage.Begin work) began (files_of a) first t old at q) one.left_are one.target_is (begun_uncopied work one.source one.left old (H old.disk) purged one.left_are)
    (one_changed target.0 old new a b same (λ other apart. ap reading (rest other apart) ∙ named_reads (a other)) one.make.unnamed (taken_unsealed target.0 old is.files one.make.taken)) (only_moves t.stage (stage.Copying work) old new q.only (moves runs)) keeps.reads))
    others made

-- ---- a message is copied

pub copied_quiet : {D : Type 0} → (H : D → Option History) (t : PurgeValue) (work now : Work) (source : Source) (left : List Source) (target : FileNo) (row : MapRow) (old new : StoreValue D) → t.stage ≡ stage.Copying work → IsStore (H old.disk) old → IsAsKnown old.files.files target.0 (H old.disk)
    → (one : IsCopyingOne work source left target row old (H old.disk)) → IsNotedFor row one.copying.end source left work now → Between (IsRegionAdded row target.0) (H old.disk) (H new.disk) → SameButFor (file.Mail target.0) (H old.disk) (H new.disk) → new.map ≡ old.map
    → (new.stopped ≡ false → MovesClaims (purge_claims t.stage) (purge_claims (stage.Copying now)) old new) → KeepsQuiet t (at_stage (stage.Copying now) t) progress.More old new (H old.disk) (H new.disk)
copied_quiet H t work now source left target row old new at is known one noted added others same moves runs =
    between-if (λ a b. IsRegionAdded row target.0 a b × ((other : FileName) → other ≢ file.Mail target.0 → b other ≡ a other)) (StaysQuiet t (at_stage (stage.Copying now) t) old new) (λ disk. option_map length (reading (disk (file.Mail target.0))) ≡ end_in target.0 old.files.files) (H old.disk) (H new.disk)
    (λ a b change long began first h. (let q : IsQuietSoFar began first t old (files_of a) = from_stage (stage.Copying work) began (files_of a) first t old at h in
    let region = change.0 in
    let inside = region.inside in
    let piece = take row.size (drop row.offset region.there) in
    let size : row.size ≡ one.wanted.r.size = ap (λ (x : MapRow). x.size) one.wanted.shown in
    let uid : row.uid.0 ≡ one.wanted.r.uid = ap (λ (x : MapRow). x.uid.0) one.wanted.shown in
    let ends : length region.added.before ≡ one.copying.end = (let e : Some (length region.added.before) ≡ Some one.copying.end = sym (ap (λ (o : Option (List ℕ)). option_map length o) region.added.read) ∙ (long ∙ one.copying.ends) in cc e) in
    quiet_copied began (files_of a) (files_of b) first t work now source noted.noted left target (record { uid = row.uid; offset = one.copying.end }) one.wanted.r region.added.before piece old new (quiet_at (stage.Copying work) began (files_of a) first t old at q) one.left_are noted.after noted.with_copy one.target_is
    (ap (record_at old.map) uid ∙ one.wanted.there) one.wanted.wanted region.added.read region.added.reads (sym ends) (length-take-le row.size (drop row.offset region.there) (let d = length-drop row.offset region.there in omega (arith, d, inside)) ∙ size)
    (one_changed target.0 old new a b same (λ other apart. ap reading (change.1 other apart)) one.copying.unnamed (taken_unsealed target.0 old is.files one.copying.taken)) (only_moves t.stage (stage.Copying now) old new q.only (moves runs))))
    (between-both (IsRegionAdded row target.0) (λ a b. (other : FileName) → other ≢ file.Mail target.0 → b other ≡ a other) (λ a b. IsRegionAdded row target.0 a b × ((other : FileName) → other ≢ file.Mail target.0 → b other ≡ a other)) (H old.disk) (H new.disk) (λ a b r s. (r, s)) added others) known

-- ---- a file is removed

pub removed_quiet : {D : Type 0} → (H : D → Option History) (t : PurgeValue) (work : Work) (on : PurgeStage) (source : Source) (left : List Source) (old new : StoreValue D) → t.stage ≡ stage.Removing work → IsStore (H old.disk) old → AreFilesInOrder old.files → IsRemovingOne work source left old → IsNextStage (went_on work) on
    → SameButFor (file.Mail source.file.0) (H old.disk) (H new.disk) → IfTold (H new.disk) (λ now. reading (now (file.Mail source.file.0)) ≡ None) → new.map ≡ old.map → (new.stopped ≡ false → MovesClaims (purge_claims t.stage) (purge_claims on) old new) → KeepsQuiet t (at_stage on t) progress.More old new (H old.disk) (H new.disk)
removed_quiet H t work on source left old new at is order one next others gone same moves runs =
    between-since (λ a b. (other : FileName) → other ≢ file.Mail source.file.0 → b other ≡ a other) (StaysQuiet t (at_stage on t) old new) (λ now. reading (now (file.Mail source.file.0)) ≡ None) (H old.disk) (H new.disk)
    (λ a b rest none began first h. (let q : IsQuietSoFar began first t old (files_of a) = from_stage (stage.Removing work) began (files_of a) first t old at h in
    quiet_removed began (files_of a) (files_of b) first t work on source left old new (quiet_at (stage.Removing work) began (files_of a) first t old at q) one.left_are next
    (one_changed source.file.0 old new a b same (λ other apart. ap reading (rest other apart)) one.elsewhere (doomed_unsealed source.file.0 old is.files order.used one.doomed)) (only_moves t.stage on old new q.only (moves runs)) none))
    others gone

pub bare_quiet : {D : Type 0} → (H : D → Option History) (t : PurgeValue) (work : Work) (on : PurgeStage) (source : Source) (left : List Source) (old new : StoreValue D) → t.stage ≡ stage.Begin work → IsStore (H old.disk) old → AreFilesInOrder old.files → IsBareOne work source left old → IsNextStage (went_on work) on
    → SameButFor (file.Mail source.file.0) (H old.disk) (H new.disk) → IfTold (H new.disk) (λ now. reading (now (file.Mail source.file.0)) ≡ None) → new.map ≡ old.map → (new.stopped ≡ false → MovesClaims (purge_claims t.stage) (purge_claims on) old new) → KeepsQuiet t (at_stage on (one_counted t)) progress.More old new (H old.disk) (H new.disk)
bare_quiet H t work on source left old new at is order one next others gone same moves runs =
    between-since (λ a b. (other : FileName) → other ≢ file.Mail source.file.0 → b other ≡ a other) (StaysQuiet t (at_stage on (one_counted t)) old new) (λ now. reading (now (file.Mail source.file.0)) ≡ None) (H old.disk) (H new.disk)
    (λ a b rest none began first h. (let q : IsQuietSoFar began first t old (files_of a) = from_stage (stage.Begin work) began (files_of a) first t old at h in
    quiet_bare began (files_of a) (files_of b) first t work on source left old new (quiet_at (stage.Begin work) began (files_of a) first t old at q) one.left_are (pairs_head (λ (x y : Source). x.file.0 < y.file.0) source left one.apart.files) next
    (one_changed source.file.0 old new a b same (λ other apart. ap reading (rest other apart)) one.elsewhere (emptied_unsealed source.file.0 old (H old.disk) is order one.emptied)) (only_moves t.stage on old new q.only (moves runs)) none))
    others gone

-- ---- a file is switched

-- a purge has no pins
no_pins : (s : PurgeStage) (n : ℕ) → purge_claims s (Pinned n) ≡ 0
no_pins stage.First n = refl
no_pins (stage.Begin work) n = refl
no_pins (stage.Copying work) n = none_placing (sources_left work)
  where
    none_placing : (left : List Source) → 0 + claims_of_target left (Pinned n) ≡ 0
    none_placing [] = refl
    none_placing (source ∷ left) = refl
no_pins (stage.Removing work) n = none_removing (sources_left work)
  where
    none_removing : (left : List Source) → 0 + claims_of_switched left (Pinned n) ≡ 0
    none_removing [] = refl
    none_removing (source ∷ left) = refl
no_pins stage.Instances n = refl

to_sources : (s : PurgeStage) (work : Work) (m : MapMeaning) (source : Source) (left : List Source) → IsToSwitch s work m → sources_left work ≡ source ∷ left → sources_to_empty s ≡ source ∷ left
to_sources (stage.Begin begun) work m source left to is = ap sources_left to.0 ∙ is
to_sources (stage.Copying copied) work m source left to is = ap sources_left to.0 ∙ is
to_sources stage.First work m source left to is = absurd to
to_sources (stage.Removing removed) work m source left to is = absurd to
to_sources stage.Instances work m source left to is = absurd to

to_hand : (s : PurgeStage) (work : Work) (m : MapMeaning) (source : Source) (left : List Source) → IsToSwitch s work m → sources_left work ≡ source ∷ left → (n : ℕ) → IsAtHand s n → (target : FileNo) × (source.target ≡ Some target) × (target.0 ≡ n)
to_hand (stage.Copying copied) work m source left to is n hand = subst (λ (ss : List Source). IsFirst ss (λ s. (u : FileNo) × (s.target ≡ Some u) × (u.0 ≡ n))) (ap sources_left to.0 ∙ is) hand
to_hand (stage.Begin begun) work m source left to is n hand = absurd hand
to_hand stage.First work m source left to is n hand = absurd to
to_hand (stage.Removing removed) work m source left to is n hand = absurd to
to_hand stage.Instances work m source left to is n hand = absurd to

to_holds : (s : PurgeStage) (work : Work) (m n : MapMeaning) (files : Files) (source : Source) (left : List Source) → IsToSwitch s work m → sources_left work ≡ source ∷ left → HoldsCopied files n s → (target : FileNo) → source.target ≡ Some target → HoldsCopies files n target.0 source.copied.items
to_holds (stage.Copying copied) work m n files source left to is holds target t_is = subst (λ (ss : List Source). IsFirst ss (λ s. (u : FileNo) → s.target ≡ Some u → HoldsCopies files n u.0 s.copied.items)) (ap sources_left to.0 ∙ is) holds target t_is
to_holds (stage.Begin begun) work m n files source left to is holds target t_is =
    let none : source.target ≡ None = (subst (λ (ss : List Source). IsUnwantedFirst ss m) is to.1).0 in
    absurd (let e : Some target ≡ None = sym t_is ∙ none in cc e)
to_holds stage.First work m n files source left to is holds target t_is = absurd to
to_holds (stage.Removing removed) work m n files source left to is holds target t_is = absurd to
to_holds stage.Instances work m n files source left to is holds target t_is = absurd to

-- on a disk that is modelled the copies stand in the target
told_copies : {D : Type 0} → (target : Option FileNo) (source : Source) (store : StoreValue D) (history : Option History) → IsStore history store → store.stopped ≡ false → IsTargetWritten target source store history → IfTold history (λ now. ((u : FileNo) → target ≡ Some u → AreCopied (files_of now) store.map u.0 source.copied.items) × All (LiesInFile (files_of now)) store.map.records)
told_copies target source store None is runs w = tt
told_copies target source store (Some h) is runs w = (copies target w, subst (λ (m : MapMeaning). All (LiesInFile (files_of h.now)) m.records) (sym is.map_is) (is.running runs).opens.regions)
  where
    copies : (target : Option FileNo) → IsTargetWritten target source store (Some h) → (u : FileNo) → target ≡ Some u → AreCopied (files_of h.now) store.map u.0 source.copied.items
    copies None w u is = absurd (let e : None ≡ Some u = is in cc e)
    copies (Some t) w u is = subst (λ (f : FileNo). AreCopied (files_of h.now) store.map f.0 source.copied.items) (let e : Some t ≡ Some u = is in cc e) w.octets

pub switched_quiet : {D : Type 0} → (H : D → Option History) (t : PurgeValue) (work later : Work) (next : PurgeStage) (source spent : Source) (left : List Source) (switched : Switched) (old new : StoreValue D) → IsToSwitch t.stage work old.map → old.stopped ≡ false → IsStore (H old.disk) old → AreFilesInOrder old.files → IsSwitchedOne work source left old (H old.disk)
    → sources_left later ≡ spent ∷ left → spent.file ≡ source.file → IsSwitched source switched old new → ReadsMail (H old.disk) (H new.disk) → IsBehindSwitch switched.is_unpinned later next
    → (new.stopped ≡ false → MovesClaims (purge_claims t.stage) (purge_claims next) old new) → KeepsQuiet t (record t { stage = next; did = did.Quiet; dropped = t.dropped + switched.dropped; files = t.files + 1 }) progress.More old new (H old.disk) (H new.disk)
switched_quiet H t work later next source spent left switched old new to running is order one later_are spent_is s reads behind moves runs =
    between-if (λ a b. ((number : ℕ) → reading (b (file.Mail number)) ≡ reading (a (file.Mail number))) × ((hash id : List ℕ) → b (file.Inst hash id) ≡ a (file.Inst hash id))) (StaysQuiet t (record t { stage = next; did = did.Quiet; dropped = t.dropped + switched.dropped; files = t.files + 1 }) old new) (λ now. ((u : FileNo) → source.target ≡ Some u → AreCopied (files_of now) old.map u.0 source.copied.items) × All (LiesInFile (files_of now)) old.map.records) (H old.disk) (H new.disk)
    (λ a b rest copies began first h. (let q : IsQuietSoFar began first t old (files_of a) = so_far t.stage began (files_of a) first to h in
    let removing : next ≡ stage.Removing later = subst (λ (c : Bool). IsBehindSwitch c later next) (s.unpinned ∙ equal_yes (pins_in source.file.0 old.files.files) 0 (q.only (Pinned source.file.0) ∙ no_pins t.stage source.file.0)) behind in
    subst (λ (p : PurgeStage). IsQuietSoFar began first (record t { stage = p; did = did.Quiet; dropped = t.dropped + switched.dropped; files = t.files + 1 }) new (files_of b)) (sym removing)
    (quiet_switched began (files_of a) (files_of b) first t source left later switched old new q (quietly (files_of a) (to_holds t.stage work old.map old.map (files_of a) source left to one.left_are q.target) copies.0 copies.1) s (store_sound (H old.disk) old is) rest.0 (λ hash id. ap reading (rest.1 hash id))
    (only_moves t.stage (stage.Removing later) old new q.only (subst (λ (p : PurgeStage). MovesClaims (purge_claims t.stage) (purge_claims p) old new) removing (moves runs)))
    (drops_both first old.map new.map t.dropped switched.dropped q.drops (switch_drops source switched old new (H old.disk) is order one.ready.emptied s)))))
    reads (told_copies source.target source old (H old.disk) is running one.ready.target)
  where
    so_far : (p : PurgeStage) (began files : Files) (first : MapMeaning) → IsToSwitch p work old.map → IsQuietFrom p began first t old files → IsQuietSoFar began first t old files
    so_far (stage.Begin begun) began files first k h = h
    so_far (stage.Copying copied) began files first k h = h
    so_far stage.First began files first k h = absurd k
    so_far (stage.Removing removed) began files first k h = absurd k
    so_far stage.Instances began files first k h = absurd k

    written : (target : FileNo) → source.target ≡ Some target → IsWritten target.0 source old (H old.disk)
    written target t_is = subst (λ (o : Option FileNo). IsTargetWritten o source old (H old.disk)) t_is one.ready.target

    quietly : (files : Files) → ((target : FileNo) → source.target ≡ Some target → HoldsCopies files old.map target.0 source.copied.items) → ((target : FileNo) → source.target ≡ Some target → AreCopied files old.map target.0 source.copied.items) → All (LiesInFile files) old.map.records → IsSwitchedQuietly source left later t old files
    quietly files holds copies whole = record {
      sources = to_sources t.stage work old.map source left to one.left_are;
      later_left = (spent, later_are, spent_is);
      rising = one.apart.files;
      hand = to_hand t.stage work old.map source left to one.left_are;
      holds = holds;
      away = λ target t_is. (written target t_is).unnamed;
      copies = copies;
      apart = λ target t_is. All-cons (λ (o : Source). o.file.0 ≢ target.0) source left (λ e. (written target t_is).other (sym e))
          (All-weaker (IsToBegin work old) (λ (o : Source). o.file.0 ≢ target.0) (λ o b e. emptied_untaken o.file.0 old.files.files order.used b.emptied (ap (λ (n : ℕ). is_taken_in n old.files.files) e ∙ (written target t_is).taken)) left one.each);
      none = λ none. subst (λ (o : Option FileNo). IsTargetWritten o source old (H old.disk)) none one.ready.target;
      numbered = All-cons (λ (o : Source). o.file.0 ≢ 0) source left (emptied_numbered source.file.0 old is.files order.used one.ready.emptied) (All-weaker (IsToBegin work old) (λ (o : Source). o.file.0 ≢ 0) (λ o b. emptied_numbered o.file.0 old is.files order.used b.emptied) left one.each);
      every = one.ready.every;
      whole = whole;
    }
