-- What the first event of a purge beside no other task says of it, those that remove instances, and the last.
use Rattle.purge_task.proofs.Common.{◌≡◌, ◌≢◌, ◌+◌, ℕ, Bool, true, false, cond, List, [], ◌∷◌, length, map, Option, Some, None, refl, sym, ◌∙◌, ap, subst, All, Contains, list_any, option_map, option_map_or, All-cons, All-contains, All-contains_itself, All-head, All-nil, All-tail, All-weaker}
use Rattle.purge_task.proofs.Common.{DiskState, Files, History, IfTold, IsIdle, SameButFor, reading, FileName, between-begins, between-if, IsCleanFile, is_copied_from, FileNo, InstId, MapMeaning, greatest, found_one, LiesInFile, files_of, AreInstances, instance_in, KnownInstance, instance-in}
use Rattle.purge_task.proofs.Common.{end_in, is_useless, useless_past, IsStore, HasKnownInstances, StoreValue, store_sound, Held, MovesClaims, purge_claims, at_stage, uncounted, AreAllBut, found_numbers, PurgeValue, HaveWanted, IsQuietFrom, IsQuietSoFar, KeepsQuiet, StaysQuiet, files_to_empty}
use Rattle.purge_task.proofs.Common.{sources_to_empty, IsNextStage, told_taken, targets_given, with_target, Found, FoundFile, PurgeStage, Source, Work}
use Rattle.disk_model.specs.declared.name.FileName.TheVariants as file
use Rattle.disk_model.proofs.BetweenLemmas.{between-since}
use Rattle.journal.specs.QuietPurge.{PurgesQuietly}
use Rattle.mdbox_base.specs.declared.progress.Progress.TheVariants as progress
use Rattle.mdbox_base.specs.declared.replies.Reply.TheVariants as reply
use Rattle.model_store.specs.Safe.{IsThereWhole}
use Rattle.sis_store.specs.OnDisk.{file_of}
use Rattle.store_core.specs.StoreInstances.{AreInstancesThere}
use Rattle.purge_task.specs.Found.{FindsUnclean}
use Rattle.purge_task.specs.Quiet.{HasBeenQuiet}
use Rattle.purge_task.specs.declared.task.PurgeStage.TheVariants as stage
use Rattle.purge_task.proofs.FirstCallLemmas.{IsTakenFirst}
use Rattle.purge_task.proofs.GoneCallLemmas.{IsUselessOne}
use Rattle.purge_task.proofs.QuietCallLemmas.{from_stage, only_moves, quiet_at}
use Rattle.purge_task.proofs.QuietEndLemmas.{only_named, quiet_ends}
use Rattle.purge_task.proofs.QuietEventLemmas.{next_holds, next_sources}
use Rattle.purge_task.proofs.QuietFirstLemmas.{instance_counted, quiet_begins, quiet_instance}
use Rattle.purge_task.proofs.TakenStoreLemmas.{FitsFound, found_fit, numbers_told}

-- ---- the first event

map_told : (ss : List Source) → map (λ t. t.file) (map told_taken ss) ≡ map (λ s. s.file.0) ss
map_told [] = refl
map_told (s ∷ ss) = ap (λ (ns : List ℕ). s.file.0 ∷ ns) (map_told ss)

-- a file that gets a target has a wanted message
given_wanted : (m : MapMeaning) (most n : ℕ) (ss : List Source) → All (FitsFound m most) ss → HaveWanted m (targets_given n ss)
given_wanted m most n [] h = All-nil _
given_wanted m most n (s ∷ rest) h =
    All-cons (λ (o : Source). (target : FileNo) → o.target ≡ Some target → list_any (is_copied_from o.file.0) m.records ≡ true) (with_target n s) (targets_given (cond s.is_wanted (n + 1) n) rest) (one s.is_wanted refl)
    (given_wanted m most (cond s.is_wanted (n + 1) n) rest (All-tail (FitsFound m most) s rest h))
  where
    fits : FitsFound m most s
    fits = All-head (FitsFound m most) s rest h

    one : (b : Bool) → s.is_wanted ≡ b → (target : FileNo) → (cond b (record s { target = Some (record { 0 = n + 1 }) }) s).target ≡ Some target → list_any (is_copied_from (cond b (record s { target = Some (record { 0 = n + 1 }) }) s).file.0) m.records ≡ true
    one true e target is = sym fits.wanted ∙ e
    one false e target is = absurd (let k : None ≡ Some target = sym fits.target ∙ is in cc k)

-- the files that are to be emptied are those that it found
pub begun_finds : {D : Type 0} → (history : Option History) (on : PurgeStage) (found : Found) (work now : Work) (disk : D) (spare room : ℕ) (old new : StoreValue D) → IsTakenFirst history found work now disk spare room old new → IsNextStage now on → FindsUnclean old history (files_to_empty on)
begun_finds history on found work now disk spare room old new k next = subst (FindsUnclean old history) (sym (numbers_told old.files.highest found.files.items work.sources.items k.work_is.sources) ∙ (map_told (targets_given old.files.highest work.sources.items) ∙ ap (λ (ss : List Source). map (λ (s : Source). s.file.0) ss) (sym (next_sources now on next ∙ k.left)))) k.found_is.files.finds

-- what a disk that is modelled has as it begins
abbrev HasAtFirst : {D : Type 0} → StoreValue D → List ℕ → DiskState → Type 0
HasAtFirst store numbers now =
    AreAllBut (IsCleanFile (files_of now) store.map) store.files.files numbers × All (λ number. IsCleanFile (files_of now) store.map number → ⊥) numbers × ((number : ℕ) → option_map length (files_of now (file.Mail number)) ≡ end_in number store.files.files) × All (LiesInFile (files_of now)) store.map.records

told_first : {D : Type 0} → (store : StoreValue D) (history : Option History) (numbers : List ℕ) → IsStore history store → store.stopped ≡ false → FindsUnclean store history numbers → IfTold history (HasAtFirst store numbers)
told_first store None numbers is runs finds = tt
told_first store (Some d) numbers is runs finds =
    let running = is.running runs in
    (finds.passed, finds.unclean, (λ n. running.files_known n), subst (λ (m : MapMeaning). All (LiesInFile (files_of d.now)) m.records) (sym is.map_is) running.opens.regions)

pub begun_quiet : {D : Type 0} → (H : D → Option History) (t : PurgeValue) (on : PurgeStage) (found : Found) (work now : Work) (spare room : ℕ) (old new : StoreValue D) → t.stage ≡ stage.First → old.stopped ≡ false → IsTakenFirst (H old.disk) found work now new.disk spare room old new → IsNextStage now on
    → IsIdle (H old.disk) (H new.disk) → new.map ≡ old.map → (new.stopped ≡ false → MovesClaims (purge_claims t.stage) (purge_claims on) old new) → KeepsQuiet t (at_stage on (uncounted t)) progress.More old new (H old.disk) (H new.disk)
begun_quiet {D = D} H t on found work now spare room old new at running k next idle same moves runs =
    between-if (λ a b. b ≡ a) (StaysQuiet t (at_stage on (uncounted t)) old new) (HasAtFirst old numbers) (H old.disk) (H new.disk)
    (λ a b still has began first h. (let q : IsQuietFrom stage.First began first t old (files_of a) = from_stage stage.First began (files_of a) first t old at h in
    subst (λ (d : DiskState). IsQuietSoFar began first (at_stage on (uncounted t)) new (files_of d)) (sym still) (subst (λ (m : MapMeaning). IsQuietSoFar began m (at_stage on (uncounted t)) new (files_of a)) (sym q.2) (subst (λ (f : Files). IsQuietSoFar f old.map (at_stage on (uncounted t)) new (files_of a)) (sym q.1)
    (quiet_begins (files_of a) t on numbers old new (record { only = q.0; long = has.2; sealed = k.store.files.sealed; whole = has.3 }) has.0 has.1 (store_sound (H old.disk) old k.store) numbers_are wanted (next_holds now on (files_of a) old.map next) (only_moves stage.First on old new q.0 (subst (λ (p : PurgeStage). MovesClaims (purge_claims p) (purge_claims on) old new) at (moves runs))) same)))))
    idle.same (told_first old (H old.disk) numbers k.store running k.found_is.files.finds)
  where
    numbers : List ℕ
    numbers = found_numbers found.files.items

    sources_are : sources_to_empty on ≡ targets_given old.files.highest work.sources.items
    sources_are = next_sources now on next ∙ k.left

    numbers_are : numbers ≡ files_to_empty on
    numbers_are = sym (numbers_told old.files.highest found.files.items work.sources.items k.work_is.sources) ∙ (map_told (targets_given old.files.highest work.sources.items) ∙ ap (λ (ss : List Source). map (λ (s : Source). s.file.0) ss) (sym sources_are))

    wanted : HaveWanted old.map (sources_to_empty on)
    wanted = subst (λ (ss : List Source). HaveWanted old.map ss) (sym sources_are) (given_wanted old.map (greatest (λ (f : FoundFile). f.messages) found.files.items) old.files.highest work.sources.items (found_fit old.map found.files.items work.sources.items k.work_is.sources k.found_is.files.each k.found_is.short))

-- ---- an instance is removed

pub gone_quiet : {D : Type 0} → (H : D → Option History) (t : PurgeValue) (id : InstId) (old new : StoreValue D) → t.stage ≡ stage.Instances → old.stopped ≡ false → HasKnownInstances (H old.disk) old → IsUselessOne old id
    → IfTold (H new.disk) (λ now. reading (now (file_of id old.instances.known)) ≡ None) → SameButFor (file_of id old.instances.known) (H old.disk) (H new.disk) → new.map ≡ old.map → (new.stopped ≡ false → MovesClaims (purge_claims t.stage) (purge_claims stage.Instances) old new)
    → KeepsQuiet t (at_stage stage.Instances (instance_counted t)) progress.More old new (H old.disk) (H new.disk)
gone_quiet H t id old new at running known one gone others same moves runs =
    between-if (λ a b. ((other : FileName) → other ≢ file_of id old.instances.known → b other ≡ a other) × (reading (b (file_of id old.instances.known)) ≡ None)) (StaysQuiet t (at_stage stage.Instances (instance_counted t)) old new) (AreInstancesThere old.instances.known) (H old.disk) (H new.disk)
    (λ a b change there began first h. (let q : IsQuietSoFar began first t old (files_of a) = from_stage stage.Instances began (files_of a) first t old at h in
    let whole : IsThereWhole (files_of a) one.k.row = All-contains (λ (k : KnownInstance). IsThereWhole (files_of a) k.row) old.instances.known one.k there.whole (found_one (λ (k : KnownInstance). is_useless old.map k) old.instances.known one.k one.found).0 in
    quiet_instance began (files_of a) (files_of b) first t one.k.row.hash.0 one.k.row.id.0 old new (quiet_at stage.Instances began (files_of a) first t old at q) (λ none. (let e : Some whole.octets ≡ None = sym whole.there ∙ none in cc e)) (ap (λ (n : FileName). reading (b n)) (sym file_is) ∙ change.1) (λ other apart. ap reading (change.0 other (λ e. apart (e ∙ file_is)))) same
    (only_moves t.stage stage.Instances old new q.only (moves runs))))
    (between-since (λ a b. (other : FileName) → other ≢ file_of id old.instances.known → b other ≡ a other) (λ a b. ((other : FileName) → other ≢ file_of id old.instances.known → b other ≡ a other) × (reading (b (file_of id old.instances.known)) ≡ None)) (λ now. reading (now (file_of id old.instances.known)) ≡ None) (H old.disk) (H new.disk) (λ a b r p. (r, p)) others gone)
    (known.running running)
  where
    file_is : file_of id old.instances.known ≡ file.Inst one.k.row.hash.0 one.k.row.id.0
    file_is = ap (λ (i : InstId). file_of i old.instances.known) (sym one.id_is) ∙ ap (λ (o : Option KnownInstance). file.Inst (option_map_or (λ k. k.row.hash.0) o []) one.k.row.id.0) one.known

-- ---- the last event

pub last_quiet : {D : Type 0} → (t next : PurgeValue) (store : StoreValue D) (history : Option History) → t.stage ≡ stage.Instances → store.stopped ≡ false → HasKnownInstances history store → AreInstances store.instances → useless_past None store.map store.instances.known ≡ None
    → KeepsQuiet t next (progress.Done (reply.Purged t.dropped t.files t.instances)) store store history history
last_quiet t next store history at running known ids none runs =
    between-if (λ a b. b ≡ a) (HasBeenQuiet t.dropped t.files t.instances t store store) (AreInstancesThere store.instances.known) history history
    (λ a b still there began first h. (let q : IsQuietSoFar began first (at_stage stage.Instances t) store (files_of a) = quiet_at stage.Instances began (files_of a) first t store at (from_stage stage.Instances began (files_of a) first t store at h) in
    subst (λ (d : DiskState). PurgesQuietly began (files_of d) first store.map t.dropped t.files t.instances) (sym still)
    (quiet_ends began (files_of a) first t store q (only_named store a known.kept.named there each (All-weaker (λ (k : KnownInstance). instance_in k.row.id store.instances.known ≡ Some k) (λ (k : KnownInstance). k.holders ≡ 0) (λ k e. sym (ap (λ (o : Option KnownInstance). option_map_or (λ k. k.holders) o 0) e) ∙ q.only (Held k.row.id)) store.instances.known each) none))))
    (between-begins (λ a b. b ≡ a) history (λ disk. refl)) (known.running running)
  where
    each : All (λ (k : KnownInstance). instance_in k.row.id store.instances.known ≡ Some k) store.instances.known
    each = All-weaker (Contains store.instances.known) (λ (k : KnownInstance). instance_in k.row.id store.instances.known ≡ Some k) (λ k c. instance-in store.instances.known k ids.rising c) store.instances.known (All-contains_itself store.instances.known)
