-- Disks on which an instance was made that no file was before: what they read, what a crash leaves, and what a store makes of it.
use Rattle.store_core.proofs.Common.{◌⊎◌, ◌&&◌, Contains, filter, bytes_eq, inl, inr, ◌≡◌, ◌≢◌, ◌<◌, ◌≤◌, ◌+◌, ◌==◌, ℕ, Bool, true, false, List, [], ◌∷◌, ◌++◌, map, get_or, length, Option, Some, None, All, cond, refl, sym, ◌∙◌, ap, subst, arith, option_map, nat_cmp, slice_cmp, Less, cases_eq}
use Rattle.store_core.proofs.Common.{cond-true, true≢false, nat_tests, bytes_eq-Decides, All-nil, All-cons, All-head, All-tail, All-append, All-filter, All-contains, All-weaker, Files, FileState, DiskState, History, IsImage, IsThere, IfTold, Between, EachImage, OthersStay, Keeps, MayLeave, reading}
use Rattle.store_core.proofs.Common.{named, same_name, FileName, between-map, between-on, each_image-map, if_told-map, same_name-true, same_name-apart, named-narrows, LogState, IsLogRead, Reads, BoxEntry, Highest, InstRow, MapEntry, Hash, InstId, Lists, box_text, map_text, MapRecord, MapBox}
use Rattle.store_core.proofs.Common.{MapMeaning, map_meaning, named_instances, CarryOver, CarriesOver, Opens, LiesInFile, IsThereWhole, HasAll, SafeBy, Safe, files_of, IsSameRegion, HasSameRegion, HasSameInstance, AreAlike, IsSettled, IsSettledFor, Leaves, HasRoot, StoresMessage, each_name}
use Rattle.store_core.proofs.Common.{safe_carried, has_all_carried, map_along, kept_along, root_same, LeftBut, log_as, mixed, mixed-other, others_carry, turned, same_id, instance-in, found-among, InstancesValue, AreInstances, HasDrawnNumber, after_placing, instance_in, instance_placed, is_of_kind}
use Rattle.store_core.proofs.Common.{next_id, with_instance, IsUnlikeKnown, instance_file, next_instance_file, KnownInstance, end_in, MailFile, KeepsStored, StayThere, AreBoxLogs, ReadBoxLogs, HasEntryRoom, IsStore, IsOtherThan, IsFirmInstance, IsKnownRow, AreInstancesFirm, AreInstancesThere}
use Rattle.store_core.proofs.Common.{HasKnownInstances, StoreValue, OpenBox}
use Rattle.std.proofs.Common.{flat_map}
use Rattle.std.specs.Ordering.{is_lt}
use Rattle.std.specs.declared.cmp.Ordering.{Ordering}
use Rattle.std.specs.declared.cmp.Ordering.TheVariants.{Equal, Greater}
use Rattle.std.proofs.lemmas.List.Elements.{Contains-append_left, Contains-append_right}
use Rattle.disk_model.specs.declared.name.FileName.TheVariants as file
use Rattle.model_store.specs.Stands.{HasInstances}
use Rattle.sis_store.proofs.IdLemmas.{same_octets}
use Rattle.sis_store.specs.OnDisk.{OnlyNamesSynced}
use Rattle.sis_store.specs.Refusals.{IsPlaceError}
use Rattle.sis_store.specs.declared.error.PlaceFault.TheVariants as fault
use Rattle.store_core.specs.PlaceStops.{IsPlaceStop}
use Rattle.store_core.specs.declared.error.PlaceStop.TheVariants as stop
use Rattle.store_core.proofs.InstanceAppendLemmas.{of_known}
use Rattle.store_core.proofs.MailChangeLemmas.{Own, boxes_pass, same_entries, left_image, named_reads}
use Rattle.store_core.proofs.StoreFileLemmas.{named_there}

-- A file that wasn't there was made. The others read as before, and a crash leaves of them what it could.
pub record FileMade (name : FileName) (a b : DiskState) : Type 0 where
  pub others : (other : FileName) → other ≢ name → b other ≡ named (a other)
  pub absent : reading (a name) ≡ None

pub reads_made : (name other : FileName) (a b : DiskState) → FileMade name a b → other ≢ name → reading (b other) ≡ reading (a other)
reads_made name other a b c apart = ap reading (c.others other apart) ∙ named_reads (a other)

leaves_made : (name other : FileName) (a b : DiskState) (left : Option (List ℕ)) → FileMade name a b → other ≢ name → MayLeave (b other) left → MayLeave (a other) left
leaves_made name other a b left c apart may = named-narrows (a other) left (subst (λ (f : FileState). MayLeave f left) (c.others other apart) may)

-- a file that is read is another one
pub apart_read : (name other : FileName) (a : DiskState) (octets : List ℕ) → reading (a name) ≡ None → reading (a other) ≡ Some octets → other ≢ name
apart_read name other a octets absent there e = let w : None ≡ Some octets = sym absent ∙ ap (λ (n : FileName). reading (a n)) (sym e) ∙ there in cc w

-- ---- what a store reads

pub all_parts : {X Y : Type 0} → (P : Y → Type 0) (f : X → List Y) (xs : List X) → All P (flat_map f xs) → All (λ x. All P (f x)) xs
all_parts P f [] a = All-nil (λ x. All P (f x))
all_parts P f (x ∷ xs) a = All-cons (λ y. All P (f y)) x xs (front (f x) a) (all_parts P f xs (behind (f x) a))
  where
    front : (ys : List _) → All P (ys ++ flat_map f xs) → All P ys
    front [] b = All-nil P
    front (y ∷ ys) b = All-cons P y ys (All-head P y (ys ++ flat_map f xs) b) (front ys (All-tail P y (ys ++ flat_map f xs) b))

    behind : (ys : List _) → All P (ys ++ flat_map f xs) → All P (flat_map f xs)
    behind [] b = b
    behind (y ∷ ys) b = behind ys (All-tail P y (ys ++ flat_map f xs) b)

region_made : (hash id : List ℕ) (a b : DiskState) (row : MapRecord) → FileMade (file.Inst hash id) a b → LiesInFile (files_of a) row → HasSameRegion (files_of a) (files_of b) row
region_made hash id a b row c l =
    subst (λ (o : Option (List ℕ)). IsSameRegion (reading (a (file.Mail row.file))) o row)
    (sym (reads_made (file.Inst hash id) (file.Mail row.file) a b c (λ e. absurd (let w : file.Mail row.file ≡ file.Inst hash id = e in cc w))))
    (record { first = l.octets; second = l.octets; in_first = l.there; in_second = l.there; first_holds = l.inside; second_holds = l.inside; same = refl })

instance_made : (name : FileName) (a b : DiskState) (inst : InstRow) → FileMade name a b → IsThereWhole (files_of a) inst → HasSameInstance (files_of a) (files_of b) inst
instance_made name a b inst c w = reads_made name (file.Inst inst.hash.0 inst.id.0) a b c (apart_read name (file.Inst inst.hash.0 inst.id.0) a w.octets c.absent w.there)

carry_made : (g : ℕ) (m : MapMeaning) (hash id : List ℕ) (a b : DiskState) → FileMade (file.Inst hash id) a b → All (LiesInFile (files_of a)) m.records → All (IsThereWhole (files_of a)) (named_instances m) → CarryOver g m (files_of a) (files_of b)
carry_made g m hash id a b c lie there = record {
  root = same_entries (reading (a file.Root)) (reading (b file.Root)) (reads_made (file.Inst hash id) file.Root a b c (λ e. absurd (let w : file.Root ≡ file.Inst hash id = e in cc w)));
  map = same_entries (reading (a (file.Map g))) (reading (b (file.Map g))) (reads_made (file.Inst hash id) (file.Map g) a b c (λ e. absurd (let w : file.Map g ≡ file.Inst hash id = e in cc w)));
  boxes = λ k d lt. same_entries _ _ (reads_made (file.Inst hash id) (file.Box _ _) a b c (λ e. absurd (cc e)));
  regions = All-weaker (LiesInFile (files_of a)) (HasSameRegion (files_of a) (files_of b)) (λ row l. region_made hash id a b row c l) m.records lie;
  instances = all_parts (HasSameInstance (files_of a) (files_of b)) (λ (row : MapRecord). row.instances) m.records (All-weaker (IsThereWhole (files_of a)) (HasSameInstance (files_of a) (files_of b)) (λ inst w. instance_made (file.Inst hash id) a b inst c w) (named_instances m) there);
}

-- Records store what they stored.
found_apart : (name : FileName) (a b : DiskState) (rows : List InstRow) (instances : List (List ℕ)) → FileMade name a b → HasInstances (files_of a) rows instances → All (HasSameInstance (files_of a) (files_of b)) rows
found_apart name a b [] [] c h = All-nil (HasSameInstance (files_of a) (files_of b))
found_apart name a b [] (o ∷ os) c h = absurd h
found_apart name a b (r ∷ rows) [] c h = absurd h
found_apart name a b (r ∷ rows) (o ∷ os) c h =
    All-cons (HasSameInstance (files_of a) (files_of b)) r rows (reads_made name (file.Inst r.hash.0 r.id.0) a b c (apart_read name (file.Inst r.hash.0 r.id.0) a o c.absent h.0)) (found_apart name a b rows os c h.1)

stored_made : (hash id : List ℕ) (a b : DiskState) (row : MapRecord) (octets : List ℕ) → FileMade (file.Inst hash id) a b → StoresMessage (files_of a) row octets → StoresMessage (files_of b) row octets
stored_made hash id a b row octets c h =
    kept_along (files_of a) (files_of b) row octets
    (region_made hash id a b row c (record { octets = h.stored.octets_there; there = h.stored.there; inside = h.stored.inside }))
    (found_apart (file.Inst hash id) a b row.instances h.instances c h.found) h

-- Files that open do so again.
opens_made : (hash id : List ℕ) (a b : DiskState) (store : List ℕ) (entries : List MapEntry) (logs : List (List BoxEntry)) → FileMade (file.Inst hash id) a b → Opens (files_of a) store entries logs → Opens (files_of b) store entries logs
opens_made hash id a b store entries logs c o =
    let m : MapMeaning = map_meaning store entries in
    let g : ℕ = o.passed.map_log.generation in
    let carry : CarryOver g m (files_of a) (files_of b) = carry_made g m hash id a b c o.regions o.instances in
    let old : HasAll (files_of a) m [] = record { counts = λ guid. omega arith; regions = o.regions; instances = o.instances } in
    let all = has_all_carried g m (files_of a) (files_of b) [] carry old in
    record {
      passed = record { map_log = map_along store entries (files_of a) (files_of b) o.passed.map_log carry; boxes = boxes_pass m (files_of a) (files_of b) m.boxes logs carry.boxes o.passed.boxes };
      counts = o.counts;
      regions = all.regions;
      instances = all.instances;
    }

root_made : (hash id : List ℕ) (a b : DiskState) (store : List ℕ) (generation : ℕ) → FileMade (file.Inst hash id) a b → HasRoot (files_of a) store generation → HasRoot (files_of b) store generation
root_made hash id a b store generation c h = record {
  before = h.before;
  log = log_as (files_of a) (files_of b) file.Root _ _ (reads_made (file.Inst hash id) file.Root a b c (λ e. absurd (let w : file.Root ≡ file.Inst hash id = e in cc w))) h.log;
  in_range = h.in_range;
}

-- ---- a settled disk is settled again

alike_made : (g : ℕ) (m : MapMeaning) (hash id : List ℕ) (a b : DiskState) (left : Option (List ℕ)) (image : Files) → FileMade (file.Inst hash id) a b → All (IsThereWhole (files_of a)) (named_instances m) → AreAlike g m (files_of a) (mixed (file.Inst hash id) (λ _. left) image) → AreAlike g m (files_of b) image
alike_made g m hash id a b left image c there e = record {
  root = at file.Root (λ p. absurd (let w : file.Root ≡ file.Inst hash id = p in cc w)) e.root;
  map = at (file.Map g) (λ p. absurd (let w : file.Map g ≡ file.Inst hash id = p in cc w)) e.map;
  boxes = All-weaker (λ (box : MapBox). mixed (file.Inst hash id) (λ _. left) image (file.Box box.number box.generation) ≡ files_of a (file.Box box.number box.generation)) (λ (box : MapBox). image (file.Box box.number box.generation) ≡ files_of b (file.Box box.number box.generation))
      (λ box p. at (file.Box box.number box.generation) (λ q. absurd (let w : file.Box box.number box.generation ≡ file.Inst hash id = q in cc w)) p) m.boxes e.boxes;
  regions = All-weaker (HasSameRegion (files_of a) (mixed (file.Inst hash id) (λ _. left) image)) (HasSameRegion (files_of b) image) (λ row r. region row r) m.records e.regions;
  instances = λ k d lt i x le. at (file.Inst _ _) (apart k d lt i x le) (e.instances k d lt i x le);
}
  where
    at : (name : FileName) → name ≢ file.Inst hash id → mixed (file.Inst hash id) (λ _. left) image name ≡ files_of a name → image name ≡ files_of b name
    at name apart same = sym (mixed-other (file.Inst hash id) name (λ _. left) image apart) ∙ same ∙ sym (reads_made (file.Inst hash id) name a b c apart)

    region : (row : MapRecord) → HasSameRegion (files_of a) (mixed (file.Inst hash id) (λ _. left) image) row → HasSameRegion (files_of b) image row
    region row r =
        let other : file.Mail row.file ≢ file.Inst hash id = λ p. absurd (let w : file.Mail row.file ≡ file.Inst hash id = p in cc w) in
        subst (λ (o : Option (List ℕ)). IsSameRegion o (image (file.Mail row.file)) row) (sym (reads_made (file.Inst hash id) (file.Mail row.file) a b c other))
        (subst (λ (o : Option (List ℕ)). IsSameRegion (reading (a (file.Mail row.file))) o row) (mixed-other (file.Inst hash id) (file.Mail row.file) (λ _. left) image other) r)

    apart : All (λ row. All (λ inst. file.Inst inst.hash.0 inst.id.0 ≢ file.Inst hash id) row.instances) m.records
    apart = all_parts (λ (inst : InstRow). file.Inst inst.hash.0 inst.id.0 ≢ file.Inst hash id) (λ (row : MapRecord). row.instances) m.records
        (All-weaker (IsThereWhole (files_of a)) (λ (inst : InstRow). file.Inst inst.hash.0 inst.id.0 ≢ file.Inst hash id) (λ inst w. apart_read (file.Inst hash id) (file.Inst inst.hash.0 inst.id.0) a w.octets c.absent w.there) (named_instances m) there)

settled_made : (hash id : List ℕ) (a b : DiskState) (lists : Lists) → Own a → FileMade (file.Inst hash id) a b → IsSettled a lists → IsSettled b lists
settled_made hash id a b lists own c s =
    let m : MapMeaning = map_meaning s.store s.entries in
    let g : ℕ = s.safe.stands.map_log.generation in
    let safe : SafeBy (files_of b) s.store s.entries lists = safe_carried (files_of a) (files_of b) s.store s.entries lists s.safe (carry_made g m hash id a b c s.safe.has_all.regions s.safe.has_all.instances) in
    let root : HasRoot (files_of b) s.store g = root_made hash id a b s.store g c s.safe.stands.map_log.root in
    let one : g ≡ safe.stands.map_log.generation = (root_same (files_of b) s.store s.store g safe.stands.map_log.generation root safe.stands.map_log.root).1 in
    record {
      store = s.store;
      entries = s.entries;
      safe = safe;
      alike = λ image is.
          let before : IsImage a (mixed (file.Inst hash id) (λ _. reading (a (file.Inst hash id))) image) = left_image (file.Inst hash id) a (reading (a (file.Inst hash id))) image (own (file.Inst hash id)) (λ other apart. leaves_made (file.Inst hash id) other a b (image other) c apart (is other)) in
          subst (λ (k : ℕ). AreAlike k m (files_of b) image) one
          (alike_made g m hash id a b (reading (a (file.Inst hash id))) image c s.safe.has_all.instances (s.alike (mixed (file.Inst hash id) (λ _. reading (a (file.Inst hash id))) image) before));
    }

-- an image that has of the other files what a crash may leave is safe
beside_safe : (disk : DiskState) (lists : Lists) (hash id : List ℕ) (image : Files) → (s : IsSettled disk lists) → Own disk → reading (disk (file.Inst hash id)) ≡ None → LeftBut (file.Inst hash id) disk image → Safe image lists
beside_safe disk lists hash id image s own none left =
    let g : ℕ = s.safe.stands.map_log.generation in
    let m : MapMeaning = map_meaning s.store s.entries in
    record {
      store = s.store;
      entries = s.entries;
      by = safe_carried (files_of disk) image s.store s.entries lists s.safe (each_name g m (files_of disk) image (λ name. by_test (same_name name (file.Inst hash id)) name refl));
    }
  where
    unnamed : All (λ row. All (λ inst. inst.hash.0 ≡ hash → inst.id.0 ≡ id → image (file.Inst hash id) ≡ files_of disk (file.Inst hash id)) row.instances) (map_meaning s.store s.entries).records
    unnamed = all_parts (λ (inst : InstRow). inst.hash.0 ≡ hash → inst.id.0 ≡ id → image (file.Inst hash id) ≡ files_of disk (file.Inst hash id)) (λ (row : MapRecord). row.instances) (map_meaning s.store s.entries).records
        (All-weaker (IsThereWhole (files_of disk)) (λ (inst : InstRow). inst.hash.0 ≡ hash → inst.id.0 ≡ id → image (file.Inst hash id) ≡ files_of disk (file.Inst hash id))
        (λ inst w p q. let is : file.Inst inst.hash.0 inst.id.0 ≡ file.Inst hash id = cc (p, q) in absurd (apart_read (file.Inst hash id) (file.Inst inst.hash.0 inst.id.0) disk w.octets none w.there is)) (named_instances (map_meaning s.store s.entries)) s.safe.has_all.instances)

    by_test : (t : Bool) (name : FileName) → same_name name (file.Inst hash id) ≡ t → CarriesOver s.safe.stands.map_log.generation (map_meaning s.store s.entries) (files_of disk) name (image name)
    by_test true name e =
        subst (λ (k : FileName). CarriesOver s.safe.stands.map_log.generation (map_meaning s.store s.entries) (files_of disk) k (image k)) (sym (same_name-true name (file.Inst hash id) e)) unnamed
    by_test false name e = others_carry disk lists s (file.Inst hash id) image own left name (same_name-apart name (file.Inst hash id) e)

-- ---- by what the call has at hand

pub placed_safe : (hash id : List ℕ) (old new : Option History) → IfTold old Own → IfTold old (λ now. reading (now (file.Inst hash id)) ≡ None) → EachImage (λ _ image. OthersStay (file.Inst hash id) old image) old new → (lists : Lists) → IsSettledFor lists old → Leaves lists lists old new
placed_safe hash id None new own none each lists settled = absurd settled
placed_safe hash id (Some old) new own none each lists settled =
    each_image-map (λ _ image. OthersStay (file.Inst hash id) (Some old) image) (λ _ image. Safe image lists ⊎ Safe image lists) (Some old) new (λ moment image i. inl (beside_safe old.now lists hash id image settled own none i)) each

pub file_made : (name : FileName) (old new : Option History) → IfTold old (λ now. reading (now name) ≡ None) → OnlyNamesSynced name old new → Between (FileMade name) old new
file_made name None new none same = same
file_made name (Some old) None none same = absurd same
file_made name (Some old) (Some new) none same = record { others = same; absent = none }

pub placed_settled : (hash id : List ℕ) (old new : Option History) → IfTold old Own → Between (FileMade (file.Inst hash id)) old new → (lists : Lists) → IsSettledFor lists old → IsSettledFor lists new
placed_settled hash id None new own change lists settled = absurd settled
placed_settled hash id (Some old) None own change lists settled = absurd change
placed_settled hash id (Some old) (Some new) own change lists settled = settled_made hash id old.now new.now lists own change settled

pub placed_stored : (hash id : List ℕ) (old new : Option History) → Between (FileMade (file.Inst hash id)) old new → KeepsStored old new
placed_stored hash id old new change =
    between-map (FileMade (file.Inst hash id)) (λ a b. (row : MapRecord) (octets : List ℕ) → StoresMessage (files_of a) row octets → StoresMessage (files_of b) row octets) old new (λ a b c row octets h. stored_made hash id a b row octets c h) change

-- ---- the store

reads_since : (hash id : List ℕ) (log : LogState) (entries : List (List ℕ)) (old new : Option History) → Between (FileMade (file.Inst hash id)) old new → log.name ≢ file.Inst hash id → Reads log entries old → Reads log entries new
reads_since hash id log entries old new change apart r =
    between-on (FileMade (file.Inst hash id)) (IsLogRead log entries) (IsLogRead log entries) old new
    (λ a b c i. record { file = reads_made (file.Inst hash id) log.name a b c apart ∙ i.file; end = i.end; count = i.count; head_fits = i.head_fits; entries_fit = i.entries_fit }) change r

boxes_since : (hash id : List ℕ) (store : List ℕ) (mailboxes : List MapBox) (boxes : List OpenBox) (logs : List (List BoxEntry)) (old new : Option History) → Between (FileMade (file.Inst hash id)) old new → AreBoxLogs store mailboxes boxes → ReadBoxLogs old boxes logs → ReadBoxLogs new boxes logs
boxes_since hash id store [] [] [] old new change a r = tt
boxes_since hash id store [] [] (l ∷ ls) old new change a r = absurd r
boxes_since hash id store [] (b ∷ bs) logs old new change a r = absurd a
boxes_since hash id store (m ∷ ms) [] logs old new change a r = absurd a
boxes_since hash id store (m ∷ ms) (b ∷ bs) [] old new change a r = absurd r
boxes_since hash id store (m ∷ ms) (b ∷ bs) (l ∷ ls) old new change a r = (
  reads_since hash id b.log (map box_text l) old new change (λ e. absurd (let w : file.Box m.number m.generation ≡ file.Inst hash id = sym a.1 ∙ e in cc w)) r.0,
  boxes_since hash id store ms bs ls old new change a.3 r.1,
)

stay_since : (hash id : List ℕ) (files : List MailFile) (rows : List MapRecord) (a b : DiskState) → FileMade (file.Inst hash id) a b → StayThere files rows a → StayThere files rows b
stay_since hash id files rows a b c stay = λ number f found grows there.
    let e : b (file.Mail number) ≡ named (a (file.Mail number)) = c.others (file.Mail number) (λ p. absurd (let w : file.Mail number ≡ file.Inst hash id = p in cc w)) in
    elim (stay number f found grows (named_there (a (file.Mail number)) (subst IsThere e there))) [
      | inl has ↦ inl has
      | inr firm ↦ inr (λ gone. firm (named-narrows (a (file.Mail number)) None (subst (λ (s : FileState). MayLeave s None) e gone)))
    ]

pub placed_store : {D : Type 0} → (hash id : List ℕ) (old new : Option History) (v : StoreValue D) (disk : D) (instances : InstancesValue) (drawn : Highest) → IsStore old v → v.stopped ≡ false → Between (FileMade (file.Inst hash id)) old new → drawn ≡ record v.drawn { instance = v.drawn.instance + 1 }
    → IsStore new (record v { disk = disk; instances = instances; drawn = drawn })
placed_store hash id old new v disk instances drawn s runs change is = subst (λ (d : Highest). IsStore new (record v { disk = disk; instances = instances; drawn = d })) (sym is) (record {
  entries = s.entries;
  logs = s.logs;
  generation = s.generation;
  good = s.good;
  map_is = s.map_is;
  boxes_are = s.boxes_are;
  counts = s.counts;
  drawn = record { file = s.drawn.file; map = s.drawn.map; instance = (let l : v.map.highest.instance ≤ v.drawn.instance = s.drawn.instance in omega (arith, l)); mailbox = s.drawn.mailbox };
  files = record { highest = s.files.highest; numbered = s.files.numbered; taken = s.files.taken; sealed = s.files.sealed; pinned = s.files.pinned; below = s.files.below };
  root_name = s.root_name;
  root_head = s.root_head;
  map_name = s.map_name;
  map_head = s.map_head;
  box_logs = s.box_logs;
  some_lanes = s.some_lanes;
  few_lanes = s.few_lanes;
  running = λ _. let r = s.running runs in record {
    opens = between-on (FileMade (file.Inst hash id)) (λ now. Opens (files_of now) v.map.store s.entries s.logs) (λ now. Opens (files_of now) v.map.store s.entries s.logs) old new (λ a b c o. opens_made hash id a b v.map.store s.entries s.logs c o) change r.opens;
    root = between-on (FileMade (file.Inst hash id)) (λ now. HasRoot (files_of now) v.map.store s.generation) (λ now. HasRoot (files_of now) v.map.store s.generation) old new (λ a b c h. root_made hash id a b v.map.store s.generation c h) change r.root;
    root_entries = r.root_entries;
    root_log_reads = reads_since hash id v.root_log r.root_entries old new change (λ e. absurd (let w : file.Root ≡ file.Inst hash id = sym s.root_name ∙ e in cc w)) r.root_log_reads;
    map_log_reads = reads_since hash id v.map_log (map map_text s.entries) old new change (λ e. absurd (let w : file.Map s.generation ≡ file.Inst hash id = sym s.map_name ∙ e in cc w)) r.map_log_reads;
    box_logs_read = boxes_since hash id v.map.store v.map.boxes v.boxes s.logs old new change s.box_logs r.box_logs_read;
    files_known = λ number. between-on (FileMade (file.Inst hash id)) (λ disk. option_map length (reading (disk (file.Mail number))) ≡ end_in number v.files.files) (λ disk. option_map length (reading (disk (file.Mail number))) ≡ end_in number v.files.files) old new
        (λ a b c k. ap (option_map length) (reads_made (file.Inst hash id) (file.Mail number) a b c (λ p. absurd (let w : file.Mail number ≡ file.Inst hash id = p in cc w))) ∙ k) change (r.files_known number);
    files_stay = between-on (FileMade (file.Inst hash id)) (StayThere v.files.files v.map.records) (StayThere v.files.files v.map.records) old new (λ a b c k. stay_since hash id v.files.files v.map.records a b c k) change r.files_stay;
  };
})

-- ---- what is known then

kept_step : {X : Type 0} → (b : Bool) (x y : X) (ys : List X) → Contains ys y → Contains (cond b (x ∷ ys) ys) y
kept_step true x y ys c = Contains-append_right (x ∷ []) ys y c
kept_step false x y ys c = c

each_kept : {X : Type 0} → (p : X → Bool) (xs : List X) → All (λ y. p y ≡ true → Contains (filter p xs) y) xs
each_kept p [] = All-nil (λ y. p y ≡ true → Contains [] y)
each_kept {X} p (x ∷ xs) =
    All-cons (λ y. p y ≡ true → Contains (filter p (x ∷ xs)) y) x xs (λ t. subst (λ (l : List X). Contains l x) (sym (cond-true (p x) (x ∷ filter p xs) (filter p xs) t)) (0, omega arith, refl))
    (All-weaker (λ y. p y ≡ true → Contains (filter p xs) y) (λ y. p y ≡ true → Contains (filter p (x ∷ xs)) y) (λ y h t. kept_step (p x) x y (filter p xs) (h t)) xs (each_kept p xs))

contains_filter : {X : Type 0} → (p : X → Bool) (xs : List X) (x : X) → Contains xs x → p x ≡ true → Contains (filter p xs) x
contains_filter p xs x c t = All-contains (λ y. p y ≡ true → Contains (filter p xs) y) xs x (each_kept p xs) c t

-- an instance that was known is known beside the new one
abbrev before_new : KnownInstance → KnownInstance → Bool
before_new new k = is_lt (slice_cmp nat_cmp k.row.id.0 new.row.id.0)

abbrev behind_new : KnownInstance → KnownInstance → Bool
behind_new new k = is_lt (slice_cmp nat_cmp new.row.id.0 k.row.id.0)

pub still_known : (known : List KnownInstance) (new k : KnownInstance) → Contains known k → k.row.id ≢ new.row.id → Contains (with_instance new known) k
still_known known new k c apart = by_order (slice_cmp nat_cmp k.row.id.0 new.row.id.0) refl
  where
    by_order : (o : Ordering) → slice_cmp nat_cmp k.row.id.0 new.row.id.0 ≡ o → Contains (with_instance new known) k
    by_order Less e = Contains-append_left (filter (before_new new) known) (new ∷ filter (behind_new new) known) k (contains_filter (before_new new) known k c (ap is_lt e))
    by_order Equal e = absurd (apart (same_id k.row.id new.row.id (same_octets k.row.id.0 new.row.id.0 e)))
    by_order Greater e =
        Contains-append_right (filter (before_new new) known) (new ∷ filter (behind_new new) known) k
        (Contains-append_right (new ∷ []) (filter (behind_new new) known) k (contains_filter (behind_new new) known k c (ap is_lt (turned k.row.id.0 new.row.id.0 Greater e))))

pub new_known : (known : List KnownInstance) (new : KnownInstance) → Contains (with_instance new known) new
new_known known new = Contains-append_right (filter (before_new new) known) (new ∷ filter (behind_new new) known) new (0, omega arith, refl)

all_with : (P : KnownInstance → Type 0) (known : List KnownInstance) (new : KnownInstance) → P new → All P known → All P (with_instance new known)
all_with P known new p a =
    All-append P (filter (before_new new) known) (new ∷ filter (behind_new new) known) (All-filter (before_new new) P known a) (All-cons P new (filter (behind_new new) known) p (All-filter (behind_new new) P known a))

-- no known instance has the next number
pub next_is_new : (value : InstancesValue) (k : KnownInstance) → AreInstances value → value.highest < 4294967294 → Contains value.known k → k.row.id ≢ next_id value
next_is_new value k are less c e =
    let d : value.highest + 1 ≤ value.highest = All-contains (λ (j : KnownInstance). HasDrawnNumber value.store value.highest j.row.id) value.known k are.drawn c (value.highest + 1) (omega (arith, less)) e in
    omega (arith, d)

row_in : (o : Option KnownInstance) (row : InstRow) → option_map (λ k. k.row) o ≡ Some row → (j : KnownInstance) × (o ≡ Some j) × (j.row ≡ row)
row_in None row e = absurd (let w : None ≡ Some row = e in cc w)
row_in (Some j) row e = (j, refl, let w : Some j.row ≡ Some row = e in cc w)

-- the row of one that was known is that of one that is known
pub row_placed : (hash : Hash) (size : ℕ) (value : InstancesValue) (row : InstRow) → AreInstances value → value.highest < 4294967294 → AreInstances (after_placing hash size value) → IsKnownRow value.known row → IsKnownRow (after_placing hash size value).known row
row_placed hash size value row are less later known =
    let j = row_in (instance_in row.id value.known) row known in
    let among = found-among row.id value.known j.0 j.1 in
    let there : Contains (with_instance (instance_placed value hash size) value.known) j.0 = still_known value.known (instance_placed value hash size) j.0 among.0 (next_is_new value j.0 are less among.0) in
    ap (λ (i : InstId). option_map (λ (k : KnownInstance). k.row) (instance_in i (after_placing hash size value).known)) (sym among.1)
    ∙ ap (option_map (λ (k : KnownInstance). k.row)) (instance-in (after_placing hash size value).known j.0 later.rising there) ∙ ap Some j.2

-- so its file isn't there
pub next_absent : {D : Type 0} → (hash : Hash) (h : Option History) (v : StoreValue D) → HasKnownInstances h v → v.stopped ≡ false → AreInstances v.instances → v.instances.highest < 4294967294 → IfTold h (λ now. reading (now (next_instance_file hash v.instances)) ≡ None)
next_absent hash h v k runs are less =
    if_told-map (AreInstancesThere v.instances.known) (λ now. reading (now (next_instance_file hash v.instances)) ≡ None) h (λ disk t. none disk t (reading (disk (next_instance_file hash v.instances))) refl) (k.running runs)
  where
    none : (disk : DiskState) → AreInstancesThere v.instances.known disk → (o : Option (List ℕ)) → reading (disk (next_instance_file hash v.instances)) ≡ o → o ≡ None
    none disk t None e = refl
    none disk t (Some octets) e =
        let there = t.only hash.0 (next_id v.instances).0 octets e in
        let same : there.0.row.id.0 ≡ (next_id v.instances).0 = let w : file.Inst there.0.row.hash.0 there.0.row.id.0 ≡ file.Inst hash.0 (next_id v.instances).0 = there.2 in cc w in
        absurd (next_is_new v.instances there.0 are less there.1 (same_id there.0.row.id (next_id v.instances) same))

-- no known instance of the kind of the new one has its octets
abbrev pub IsUnlike : Hash → List ℕ → List KnownInstance → DiskState → Type 0
IsUnlike hash octets known disk = All (λ k. is_of_kind hash (length octets) k.row ≡ true → reading (disk (instance_file k.row)) ≢ Some octets) known

pub kind_turned : (a b : InstRow) → is_of_kind a.hash a.size b ≡ true → is_of_kind b.hash b.size a ≡ true
kind_turned a b e = by (bytes_eq b.hash.0 a.hash.0) (b.size == a.size) refl refl e
  where
    by : (p q : Bool) → bytes_eq b.hash.0 a.hash.0 ≡ p → (b.size == a.size) ≡ q → (p && q) ≡ true → is_of_kind b.hash b.size a ≡ true
    by true true h s all =
        let sizes : b.size ≡ a.size = grind (arith, nat_tests, s) in
        let back : a.size ≡ b.size = sym sizes in
        let size : (a.size == b.size) ≡ true = grind (arith, nat_tests, back) in
        let hash : bytes_eq a.hash.0 b.hash.0 ≡ true = (bytes_eq-Decides a.hash.0 b.hash.0).1 (sym ((bytes_eq-Decides b.hash.0 a.hash.0).0 h)) in
        ap (λ (t : Bool). t && (a.size == b.size)) hash ∙ size
    by true false h s all = absurd (cc all)
    by false q h s all = absurd (cc all)

-- so the new one is other than each that an own save names
other_placed : (hash : Hash) (octets : List ℕ) (value : InstancesValue) (m : MapMeaning) (a b : DiskState) → IsUnlike hash octets value.known a → All (IsKnownRow value.known) (named_instances m) → All (λ k. reading (b (instance_file k.row)) ≡ reading (a (instance_file k.row))) value.known
    → reading (b (next_instance_file hash value)) ≡ Some octets → All (λ own. own.origin ≡ 0 → All (λ inst. IsOtherThan b inst (instance_placed value hash (length octets)).row) own.instances) m.records
other_placed hash octets value m a b unlike named same there =
    All-weaker (λ (row : MapRecord). All (IsKnownRow value.known) row.instances) (λ (own : MapRecord). own.origin ≡ 0 → All (λ inst. IsOtherThan b inst (instance_placed value hash (length octets)).row) own.instances) (λ own rows origin.
    All-weaker (IsKnownRow value.known) (λ (inst : InstRow). IsOtherThan b inst (instance_placed value hash (length octets)).row) (λ inst is kind before e.
    of_known (λ (row : InstRow). is_of_kind hash (length octets) row ≡ true → reading (a (instance_file row)) ≢ Some octets) value.known inst unlike is
    (kind_turned inst (instance_placed value hash (length octets)).row kind)
    (sym (of_known (λ (row : InstRow). reading (b (instance_file row)) ≡ reading (a (instance_file row))) value.known inst same is) ∙ sym e ∙ there)) own.instances rows)
    m.records (all_parts (IsKnownRow value.known) (λ (row : MapRecord). row.instances) m.records named)

-- those that were other than each are so still
other_still : (known : List KnownInstance) (m : MapMeaning) (a b : DiskState) (row : InstRow) → All (IsKnownRow known) (named_instances m) → All (λ k. reading (b (instance_file k.row)) ≡ reading (a (instance_file k.row))) known → reading (b (instance_file row)) ≡ reading (a (instance_file row))
    → All (λ own. own.origin ≡ 0 → All (λ inst. IsOtherThan a inst row) own.instances) m.records → All (λ own. own.origin ≡ 0 → All (λ inst. IsOtherThan b inst row) own.instances) m.records
other_still known m a b row named same here others = λ i d lt origin j e le kind before is.
    others i d lt origin j e le kind before
    (sym here ∙ is ∙ of_known (λ (r : InstRow). reading (b (instance_file r)) ≡ reading (a (instance_file r))) known (get_or (get_or m.records i d).instances j e) same (all_parts (IsKnownRow known) (λ (r : MapRecord). r.instances) m.records named i d lt j e le))

-- the file of none that is there is the new one's
apart_placed : (hash : Hash) (value : InstancesValue) (a b : DiskState) → FileMade (next_instance_file hash value) a b → AreInstancesThere value.known a → All (λ k. instance_file k.row ≢ next_instance_file hash value) value.known
apart_placed hash value a b c t =
    All-weaker (λ (k : KnownInstance). IsThereWhole (files_of a) k.row) (λ (k : KnownInstance). instance_file k.row ≢ next_instance_file hash value) (λ k w. apart_read (next_instance_file hash value) (instance_file k.row) a w.octets c.absent w.there) value.known t.whole

-- a record that is made may name the new one, and each that it might have named
pub firm_placed : (hash : Hash) (octets : List ℕ) (value : InstancesValue) (m : MapMeaning) (a b : DiskState) → IsUnlike hash octets value.known a → All (IsKnownRow value.known) (named_instances m) → FileMade (next_instance_file hash value) a b → Keeps (b (next_instance_file hash value)) octets → AreInstancesThere value.known a
    → AreInstancesFirm value.known m a → AreInstancesFirm (with_instance (instance_placed value hash (length octets)) value.known) m b
firm_placed hash octets value m a b unlike named c keeps t firm =
    let new : KnownInstance = instance_placed value hash (length octets) in
    let name : FileName = next_instance_file hash value in
    let apart : All (λ k. instance_file k.row ≢ name) value.known = apart_placed hash value a b c t in
    let same : All (λ k. reading (b (instance_file k.row)) ≡ reading (a (instance_file k.row))) value.known = λ k d lt. reads_made name _ a b c (apart k d lt) in
    all_with (λ k. IsFirmInstance m b k.row) value.known new (record { left = λ left may. (keeps.leaves left).0 may ∙ sym keeps.reads; other = other_placed hash octets value m a b unlike named same keeps.reads }) (λ k d lt. record {
      left = λ left may. (firm k d lt).left left (leaves_made name _ a b left c (apart k d lt) may) ∙ sym (same k d lt);
      other = other_still value.known m a b (get_or value.known k d).row named same (same k d lt) (firm k d lt).other;
    })

there_placed : (hash : Hash) (octets : List ℕ) (value : InstancesValue) (a b : DiskState) → AreInstances value → value.highest < 4294967294 → FileMade (next_instance_file hash value) a b → Keeps (b (next_instance_file hash value)) octets → AreInstancesThere value.known a
    → AreInstancesThere (with_instance (instance_placed value hash (length octets)) value.known) b
there_placed hash octets value a b are less c keeps t =
    let new : KnownInstance = instance_placed value hash (length octets) in
    let name : FileName = next_instance_file hash value in
    let apart : All (λ k. instance_file k.row ≢ name) value.known = apart_placed hash value a b c t in
    record {
      whole = all_with (λ k. IsThereWhole (files_of b) k.row) value.known new (record { octets = octets; there = keeps.reads; size = refl })
          (λ k d lt. let w = t.whole k d lt in record { octets = w.octets; there = reads_made name _ a b c (apart k d lt) ∙ w.there; size = w.size });
      only = λ h i read e. by_name h i read e (same_name (file.Inst h i) name) refl;
    }
  where
    by_name : (h i read : List ℕ) → reading (b (file.Inst h i)) ≡ Some read → (t : Bool) → same_name (file.Inst h i) (next_instance_file hash value) ≡ t
        → (k : KnownInstance) × Contains (with_instance (instance_placed value hash (length octets)) value.known) k × (instance_file k.row ≡ file.Inst h i)
    by_name h i read e true same = (instance_placed value hash (length octets), new_known value.known (instance_placed value hash (length octets)), sym (same_name-true (file.Inst h i) (next_instance_file hash value) same))
    by_name h i read e false other =
        let apart = same_name-apart (file.Inst h i) (next_instance_file hash value) other in
        let there = t.only h i read (sym (reads_made (next_instance_file hash value) (file.Inst h i) a b c apart) ∙ e) in
        (there.0, still_known value.known (instance_placed value hash (length octets)) there.0 there.1 (next_is_new value there.0 are less there.1), there.2)

pub placed_known : {D : Type 0} → (hash : Hash) (octets : List ℕ) (old new : Option History) (v : StoreValue D) (disk : D) (instances : InstancesValue) (drawn : Highest) → HasKnownInstances old v → v.stopped ≡ false → AreInstances v.instances → AreInstances instances → v.instances.highest < 4294967294
    → IsUnlikeKnown hash (length octets) octets v.instances.known old → instances ≡ after_placing hash (length octets) v.instances → drawn ≡ record v.drawn { instance = v.drawn.instance + 1 } → Between (FileMade (next_instance_file hash v.instances)) old new → IfTold new (λ now. Keeps (now (next_instance_file hash v.instances)) octets)
    → HasKnownInstances new (record v { disk = disk; instances = instances; drawn = drawn })
placed_known hash octets old new v disk instances drawn k runs are later less unlike is drew change keeps =
    let placed : InstancesValue = after_placing hash (length octets) v.instances in
    let rise : AreInstances placed = subst AreInstances is later in
    subst (λ (i : InstancesValue). HasKnownInstances new (record v { disk = disk; instances = i; drawn = drawn })) (sym is)
    (subst (λ (d : Highest). HasKnownInstances new (record v { disk = disk; instances = placed; drawn = d })) (sym drew) (record {
      kept = record {
        store = k.kept.store;
        highest = ap (λ (n : ℕ). n + 1) k.kept.highest;
        named = All-weaker (IsKnownRow v.instances.known) (IsKnownRow placed.known) (λ row known. row_placed hash (length octets) v.instances row are less rise known) (named_instances v.map) k.kept.named;
      };
      running = λ on. between-since-if (FileMade (next_instance_file hash v.instances)) (AreInstancesThere v.instances.known) (λ now. Keeps (now (next_instance_file hash v.instances)) octets) (AreInstancesThere placed.known) old new (λ a b c t keep. there_placed hash octets v.instances a b are less c keep t) change (k.running runs) keeps;
    }))
  where
    between-since-if : (R : DiskState → DiskState → Type 0) (P Q S : DiskState → Type 0) (old new : Option History) → ((a b : DiskState) → R a b → P a → Q b → S b) → Between R old new → IfTold old P → IfTold new Q → IfTold new S
    between-since-if R P Q S None new f r p q = subst (λ (h : Option History). IfTold h S) (sym r) tt
    between-since-if R P Q S (Some old) None f r p q = absurd r
    between-since-if R P Q S (Some old) (Some new) f r p q = f old.now new.now r p q

-- ---- where the disk failed

pub number_left : (highest : ℕ) → highest ≤ 4294967294 → (highest ≡ 4294967294 → ⊥) → highest < 4294967294
number_left highest last apart = elim (cases_eq highest 4294967294) [
  | inl same ↦ absurd (apart same)
  | inr other ↦ omega (arith, last, other)
]

pub room_placed : {D : Type 0} → (v : StoreValue D) (disk : D) (instances : InstancesValue) (drawn : Highest) (stopped : Bool) → HasEntryRoom v → HasEntryRoom (record v { disk = disk; instances = instances; drawn = drawn; stopped = stopped })
room_placed v disk instances drawn stopped r = record { map_log = r.map_log; box_logs = r.box_logs }

pub stopped_store : {D : Type 0} → (old new : Option History) (v : StoreValue D) (disk : D) (instances : InstancesValue) → IsStore old v → IsStore new (record v { disk = disk; instances = instances; drawn = record v.drawn { instance = v.drawn.instance + 1 }; stopped = true })
stopped_store old new v disk instances s = record {
  entries = s.entries;
  logs = s.logs;
  generation = s.generation;
  good = s.good;
  map_is = s.map_is;
  boxes_are = s.boxes_are;
  counts = s.counts;
  drawn = record { file = s.drawn.file; map = s.drawn.map; instance = (let l : v.map.highest.instance ≤ v.drawn.instance = s.drawn.instance in omega (arith, l)); mailbox = s.drawn.mailbox };
  files = record { highest = s.files.highest; numbered = s.files.numbered; taken = s.files.taken; sealed = s.files.sealed; pinned = s.files.pinned; below = s.files.below };
  root_name = s.root_name;
  root_head = s.root_head;
  map_name = s.map_name;
  map_head = s.map_head;
  box_logs = s.box_logs;
  some_lanes = s.some_lanes;
  few_lanes = s.few_lanes;
  running = λ runs. absurd (true≢false runs);
}

pub stopped_known : {D : Type 0} → (old new : Option History) (v : StoreValue D) (disk : D) (instances : InstancesValue) → HasKnownInstances old v → instances ≡ record v.instances { highest = v.instances.highest + 1 }
    → HasKnownInstances new (record v { disk = disk; instances = instances; drawn = record v.drawn { instance = v.drawn.instance + 1 }; stopped = true })
stopped_known old new v disk instances k is = subst (λ (i : InstancesValue). HasKnownInstances new (record v { disk = disk; instances = i; drawn = record v.drawn { instance = v.drawn.instance + 1 }; stopped = true })) (sym is) (record {
  kept = record { store = k.kept.store; highest = ap (λ (n : ℕ). n + 1) k.kept.highest; named = k.kept.named };
  running = λ runs. absurd (true≢false runs);
})

-- ---- why it was not placed

pub stopped_full : {D : Type 0} → (v now : StoreValue D) (disk : D) (instances : InstancesValue) (last : ℕ) → v ≡ now → v.instances.highest ≡ v.drawn.instance → IsPlaceError v.instances instances (fault.Full last) → IsPlaceStop now (record v { disk = disk; instances = instances }) (stop.Full last)
stopped_full v now disk instances last is kept p =
    subst (λ (n : StoreValue _). IsPlaceStop n (record v { disk = disk; instances = instances }) (stop.Full last)) is (p.0, sym kept ∙ p.1, ap (λ (i : InstancesValue). record v { disk = disk; instances = i }) p.2)

pub stopped_memory : {D : Type 0} → (v now : StoreValue D) (disk : D) (instances : InstancesValue) → v ≡ now → v.instances.highest ≡ v.drawn.instance → IsPlaceError v.instances instances fault.NoMemory → IsPlaceStop now (record v { disk = disk; instances = instances }) stop.NoMemory
stopped_memory v now disk instances is kept p =
    subst (λ (n : StoreValue _). IsPlaceStop n (record v { disk = disk; instances = instances }) stop.NoMemory) is ((let l = p.0 in omega (arith, l, kept)), ap (λ (i : InstancesValue). record v { disk = disk; instances = i }) p.1)

pub stopped_fault : {D : Type 0} → (v now : StoreValue D) (disk : D) (instances : InstancesValue) → v ≡ now → v.instances.highest ≡ v.drawn.instance → IsPlaceError v.instances instances fault.DiskFault
    → IsPlaceStop now (record v { disk = disk; instances = instances; drawn = record v.drawn { instance = v.drawn.instance + 1 }; stopped = true }) stop.Stopped
stopped_fault v now disk instances is kept p =
    subst (λ (n : StoreValue _). IsPlaceStop n (record v { disk = disk; instances = instances; drawn = record v.drawn { instance = v.drawn.instance + 1 }; stopped = true }) stop.Stopped) is
    ((let l = p.0 in omega (arith, l, kept)), ap (λ (i : InstancesValue). record v { disk = disk; instances = i; drawn = record v.drawn { instance = v.drawn.instance + 1 }; stopped = true }) p.1)
