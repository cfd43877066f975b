-- The parts of a purge's step, put together.
use Rattle.purge_task.proofs.Common.{◌≡◌, ◌≢◌, ◌≤◌, ◌<◌, ◌+◌, ◌*◌, ◌==◌, ℕ, zero, suc, Bool, true, false, not, List, [], ◌∷◌, ◌++◌, length, Option, Some, None, refl, sym, ◌∙◌, ap, subst, arith, inl, inr, All, ◌⊎◌, Contains, Err, IfOk, IsSome, Ok, Result, is_some, list_any, option_map, eq-eqb}
use Rattle.purge_task.proofs.Common.{ne_eqb, All-cons, All-head, All-nil, All-tail, Faults, History, record_from, shown_record, MapRow, FileNo, InstId, Did, Progress, Refusal, Reply, EventPart, Run, Around, MapMeaning, MapRecord, among, found_one, has_id, instance_in, without_instance}
use Rattle.purge_task.proofs.Common.{KnownInstance, AreElsewhere, StoreValue, purge_claims, sources_left, IsPurgeStep, PurgeSteps, answer_of, at_stage, came_to, AreUnwantedFrom, IsNextWanted, HasPurged, IsBeginningFirst, IsCopyingFirst, IsTargetFirst, PurgeValue, IsFurther, GoesOnBehind}
use Rattle.purge_task.proofs.Common.{CopiesBehind, IsAtPurgeStage, IsAtSwitched, IsPurging, RemovesBehind, IsToSwitch, IsUnwantedFirst, answer_of_switch, came_by_switch, SwitchedFile, PurgeStage, Source, Work, fall}
use Rattle.std.proofs.Common.{filter}
use Rattle.std.specs.Prelude.{◌||◌, cond}
use Rattle.mdbox_base.specs.declared.progress.Did.TheVariants as did
use Rattle.mdbox_base.specs.declared.progress.Progress.TheVariants as progress
use Rattle.mdbox_base.specs.declared.replies.Refusal.TheVariants as refusal
use Rattle.mdbox_base.specs.declared.replies.Reply.TheVariants as reply
use Rattle.task_steps.specs.Step.{ended_by}
use Rattle.purge_task.specs.Clause.{did_of_refusal}
use Rattle.purge_task.specs.Copied.{IsNextWantedFirst}
use Rattle.purge_task.specs.Keeping.{HasLowCounts, IsBareFirst, IsReadyToPurge, LeavesLess}
use Rattle.purge_task.specs.Left.{events_before_instances, purge_files}
use Rattle.purge_task.specs.SwitchEvent.{IsCopiedFirst}
use Rattle.purge_task.specs.declared.task.PurgeStage.TheVariants as stage
use Rattle.purge_task.proofs.FreeInstanceLemmas.{any_has}
use Rattle.purge_task.proofs.StableLemmas.{left_stays}
use Rattle.purge_task.proofs.WalkLemmas.{found_row, none_found}

-- ---- what its last event did, is of no use to the next

purging_did : {D : Type 0} → (t : PurgeValue) (d : Did) (done left : List Source) (Behind : List ℕ → EventPart → Type 0) (store : StoreValue D) (run : Run) (place : ℕ) (said : List Reply) → IsPurging t done left Behind store run place said → IsPurging (record t { did = d }) done left Behind store run place said
purging_did t d done left Behind store run place said h = record {
  unsaid = h.unsaid;
  last = h.last;
  unrefused = h.unrefused;
  taken = h.taken;
  copied = h.copied;
  counted = record { dropped = h.counted.dropped; files = h.counted.files; instances = h.counted.instances };
}

stage_did : {D : Type 0} → (s : PurgeStage) (t : PurgeValue) (d : Did) (store : StoreValue D) (run : Run) (place : ℕ) (said : List Reply) → IsAtPurgeStage s t store run place said → IsAtPurgeStage s (record t { did = d }) store run place said
stage_did stage.First t d store run place said h = h
stage_did (stage.Begin work) t d store run place said h = (h.0, purging_did t d h.0 (sources_left work) (GoesOnBehind run) store run place said h.1)
stage_did (stage.Copying work) t d store run place said h = (h.0, purging_did t d h.0 (sources_left work) (λ doomed part. CopiesBehind part) store run place said h.1)
stage_did (stage.Removing work) t d store run place said h = by_left (sources_left work) h
  where
    by_left : (left : List Source) → IsAtSwitched t left store run place said → IsAtSwitched (record t { did = d }) left store run place said
    by_left [] h = absurd h
    by_left (source ∷ left) h = (h.0, purging_did t d (h.0 ++ source ∷ []) left (RemovesBehind run source.file.0) store run place said h.1)
stage_did stage.Instances t d store run place said h = (h.0, purging_did t d h.0 [] (GoesOnBehind run) store run place said h.1)

pub steps_did : {D : Type 0} → (files : List ℕ) (around : Around) (t next : PurgeValue) (d : Did) (old new : StoreValue D) (before later : Option History) (began faults : Faults) (ended : Option Reply) → PurgeSteps files around (record t { did = d }) next old new before later began faults ended → PurgeSteps files around t next old new before later began faults ended
steps_did files around t next d old new before later began faults ended h = λ run lane place said lists come shows stood. h run lane place said lists come shows (stage_did t.stage t d old run place said stood.0, stood.1)

-- ---- the task behind a part

pub came_same : (result : Result PurgeStage Refusal) (at : PurgeStage) (u : PurgeValue) → came_to result (at_stage at u) ≡ came_to result u
came_same (Ok next) at u = refl
came_same (Err why) at u = refl

-- ---- its counts

goes_on_runs : {D : Type 0} → (t next : PurgeValue) (old new : StoreValue D) (before later : Option History) (began faults : Faults) → IsPurgeStep t next progress.More old new before later began faults → new.stopped ≡ false
goes_on_runs t next old new before later began faults h = by_flag new.stopped refl
  where
    by_flag : (b : Bool) → new.stopped ≡ b → b ≡ false
    by_flag true e = absurd (let k : progress.More ≡ progress.Done (reply.Refused refusal.Stopped) = h.stopped.1 e in cc k)
    by_flag false e = refl

-- An event of a file went on.
pub further_says : {D : Type 0} → (counted : ℕ) (t next : PurgeValue) (old new : StoreValue D) (before later : Option History) (began faults : Faults) → IsPurgeStep t next progress.More old new before later began faults → IsFurther counted t.stage next.stage → next.files ≡ t.files + counted → next.dropped ≤ t.dropped + counted * 4294967295 → next.instances ≡ t.instances → HasLowCounts t old
    → counted ≤ 1 → LeavesLess t next old new
further_says counted t next old new before later began faults h further files dropped instances low one =
    let leaves = (h.claims (goes_on_runs t next old new before later began faults h)).leaves in
    let l = left_stays t.stage (purge_claims t.stage) old new before later leaves in
    let few = leaves.numbers.few in
    let events = further.events in
    let fewer = further.files in
    let was_dropped = low.dropped in
    let was_files = low.files in
    let was = low.instances in
    (record { dropped = by_counted counted one files dropped was_dropped; files = omega (arith, files, fewer, was_files); instances = omega (arith, instances, few, was) }, omega (arith, l, events))
  where
    by_counted : (n : ℕ) → n ≤ 1 → next.files ≡ t.files + n → next.dropped ≤ t.dropped + n * 4294967295 → t.dropped ≤ t.files * 4294967295 → next.dropped ≤ next.files * 4294967295
    by_counted zero one f d l = omega (arith, f, d, l)
    by_counted (suc zero) one f d l = omega (arith, f, d, l)
    by_counted (suc (suc n)) one f d l = absurd (omega (arith, one))

-- The first event went on.
pub first_low : {D : Type 0} → (t next : PurgeValue) (old new : StoreValue D) (before later : Option History) (began faults : Faults) → IsPurgeStep t next progress.More old new before later began faults → t.stage ≡ stage.First → IsFurther 0 stage.First next.stage → next.dropped ≡ 0 → next.files ≡ 0 → next.instances ≡ 0 → length new.instances.known ≤ 9223372036854775808 → LeavesLess t next old new
first_low t next old new before later began faults h at further dropped files instances few =
    let leaves = (h.claims (goes_on_runs t next old new before later began faults h)).leaves in
    let l = left_stays t.stage (purge_claims t.stage) old new before later leaves in
    let s : events_before_instances t.stage ≡ events_before_instances stage.First = ap events_before_instances at in
    let events = further.events in
    let fewer = further.files in
    (record { dropped = omega (arith, dropped, files); files = omega (arith, files, fewer); instances = omega (arith, instances, few) }, omega (arith, l, events, s))

-- An instance was removed.
filter_less : (p : KnownInstance → Bool) (x : KnownInstance) (xs : List KnownInstance) → Contains xs x → p x ≡ false → length (filter p xs) + 1 ≤ length xs
filter_less p x [] there e = absurd (let l = there.1 in omega (arith, l))
filter_less p x (y ∷ ys) there e = by_case (among y ys x there) (filter_less p x ys)
  where
    all : (zs : List KnownInstance) → length (filter p zs) ≤ length zs
    all [] = omega arith
    all (z ∷ zs) = by_flag (p z) (all zs)
      where
        by_flag : (b : Bool) → length (filter p zs) ≤ length zs → length (cond b (z ∷ filter p zs) (filter p zs)) ≤ length (z ∷ zs)
        by_flag true l = omega (arith, l)
        by_flag false l = omega (arith, l)

    by_case : (y ≡ x) ⊎ Contains ys x → (Contains ys x → p x ≡ false → length (filter p ys) + 1 ≤ length ys) → length (filter p (y ∷ ys)) + 1 ≤ length (y ∷ ys)
    by_case (inl same) rest =
        let k : length (filter p (y ∷ ys)) ≡ length (filter p ys) = ap (λ (b : Bool). length (cond b (y ∷ filter p ys) (filter p ys))) (ap p same ∙ e) in
        let l = all ys in
        omega (arith, k, l)
    by_case (inr later) rest = by_flag (p y) (rest later e)
      where
        by_flag : (b : Bool) → length (filter p ys) + 1 ≤ length ys → length (cond b (y ∷ filter p ys) (filter p ys)) + 1 ≤ length (y ∷ ys)
        by_flag true l = omega (arith, l)
        by_flag false l = omega (arith, l)

pub without_less : (id : InstId) (known : List KnownInstance) → IsSome (instance_in id known) → length (without_instance id known) + 1 ≤ length known
without_less id known some = by_case (instance_in id known) refl some
  where
    by_case : (o : Option KnownInstance) → instance_in id known ≡ o → IsSome o → length (without_instance id known) + 1 ≤ length known
    by_case None e s = absurd (let k : false ≡ true = s in cc k)
    by_case (Some k) e s =
        let there = found_one (has_id id) known k e in
        filter_less (λ j. not (has_id id j)) k known there.0 (ap not there.1)

pub gone_low : {D : Type 0} → (t next : PurgeValue) (id : InstId) (old new : StoreValue D) → t.stage ≡ stage.Instances → next.stage ≡ stage.Instances → next.dropped ≡ t.dropped → next.files ≡ t.files → next.instances ≡ t.instances + 1 → IsSome (instance_in id old.instances.known) → new ≡ record old { disk = new.disk; instances = record old.instances { known = without_instance id old.instances.known } } → HasLowCounts t old → LeavesLess t next old new
gone_low t next id old new at to dropped files instances some is low =
    let less = without_less id old.instances.known some in
    let known : length new.instances.known ≡ length (without_instance id old.instances.known) = ap (λ (s : StoreValue _). length s.instances.known) is in
    let high : new.instances.highest ≡ old.instances.highest = ap (λ (s : StoreValue _). s.instances.highest) is in
    let was_dropped = low.dropped in
    let was_files = low.files in
    let was = low.instances in
    let a : events_before_instances t.stage ≡ 0 = ap events_before_instances at in
    let b : events_before_instances next.stage ≡ 0 = ap events_before_instances to in
    let c : purge_files next.stage ≡ 0 = ap purge_files to in
    (record { dropped = omega (arith, dropped, files, was_dropped); files = omega (arith, files, c, was_files); instances = omega (arith, instances, known, less, high, was) }, omega (arith, known, less, high, a, b))

-- ---- what a part answers

-- A part of an event of a file.
pub part_low : {D : Type 0} → (counted : ℕ) (result : Result PurgeStage Refusal) (t u : PurgeValue) (old new : StoreValue D) (before later : Option History) (began faults : Faults) → IsPurgeStep t (came_to result u) (answer_of result) old new before later began faults → IfOk result (IsFurther counted t.stage) → u.files ≡ t.files + counted → u.dropped ≡ t.dropped → u.instances ≡ t.instances → HasLowCounts t old → counted ≤ 1
    → answer_of result ≡ progress.More → LeavesLess t (came_to result u) old new
part_low counted (Ok next) t u old new before later began faults h further files dropped instances low one more = further_says counted t (came_to (Ok next) u) old new before later began faults h further files (omega (arith, dropped)) instances low one
part_low counted (Err why) t u old new before later began faults h further files dropped instances low one more = absurd (let k : progress.Done (reply.Refused why) ≡ progress.More = more in cc k)

-- The first event.
pub first_part_low : {D : Type 0} → (result : Result PurgeStage Refusal) (t u : PurgeValue) (old new : StoreValue D) (before later : Option History) (began faults : Faults) → IsPurgeStep t (came_to result u) (answer_of result) old new before later began faults → t.stage ≡ stage.First → IfOk result (IsFurther 0 stage.First) → u.dropped ≡ 0 → u.files ≡ 0 → u.instances ≡ 0
    → IfOk result (λ next. length new.instances.known ≤ 9223372036854775808) → answer_of result ≡ progress.More → LeavesLess t (came_to result u) old new
first_part_low (Ok next) t u old new before later began faults h at further dropped files instances few more = first_low t (came_to (Ok next) u) old new before later began faults h at further dropped files instances few
first_part_low (Err why) t u old new before later began faults h at further dropped files instances few more = absurd (let k : progress.Done (reply.Refused why) ≡ progress.More = more in cc k)

-- The switch of a file.
pub switched_same : (result : Result SwitchedFile Refusal) (at : PurgeStage) (u : PurgeValue) → came_by_switch result (at_stage at u) ≡ came_by_switch result u
switched_same (Ok switched) at u = refl
switched_same (Err why) at u = refl

pub switched_low : {D : Type 0} → (result : Result SwitchedFile Refusal) (t : PurgeValue) (old new : StoreValue D) (before later : Option History) (began faults : Faults) → IsPurgeStep t (came_by_switch result t) (answer_of_switch result) old new before later began faults → IfOk result (λ s. s.dropped ≤ 4294967295) → IfOk result (λ s. IsFurther 1 t.stage s.next) → HasLowCounts t old
    → answer_of_switch result ≡ progress.More → LeavesLess t (came_by_switch result t) old new
switched_low (Ok switched) t old new before later began faults h few further low more = further_says 1 t (came_by_switch (Ok switched) t) old new before later began faults h further refl (omega (arith, few)) refl low (omega arith)
switched_low (Err why) t old new before later began faults h few further low more = absurd (let k : progress.Done (reply.Refused why) ≡ progress.More = more in cc k)

-- there is room to count it
pub switched_fits : {D : Type 0} → (result : Result SwitchedFile Refusal) (t : PurgeValue) (store : StoreValue D) → IfOk result (λ s. s.dropped ≤ 4294967295) → HasLowCounts t store → 1 ≤ purge_files t.stage → IfOk result (λ s. t.dropped + s.dropped < 18446744073709551616)
switched_fits (Ok switched) t store few low some = let d = low.dropped in let f = low.files in omega (arith, few, d, f, some)
switched_fits (Err why) t store few low some = tt

pub files_fit : {D : Type 0} → (t : PurgeValue) (store : StoreValue D) → HasLowCounts t store → t.files < 18446744073709551615
files_fit t store low = let f = low.files in omega (arith, f)

-- ---- the present file

pub begin_some : {D : Type 0} → (work : Work) (store : StoreValue D) (history : Option History) → HasPurged (stage.Begin work) store history → sources_left work ≡ [] → ⊥
begin_some work store history h none = subst (λ (l : List Source). IsBeginningFirst l work store) none h.2

pub copying_some : {D : Type 0} → (work : Work) (store : StoreValue D) (history : Option History) → HasPurged (stage.Copying work) store history → sources_left work ≡ [] → ⊥
copying_some work store history h none = subst (λ (l : List Source). IsCopyingFirst l work store history) none h.2

pub some_left : (work : Work) (source : Source) (left : List Source) → sources_left work ≡ source ∷ left → 1 ≤ length (sources_left work)
some_left work source left is = let e : length (sources_left work) ≡ length (source ∷ left) = ap (λ (l : List Source). length l) is in omega (arith, e)

pub target_first : (work : Work) (source : Source) (left : List Source) (present : Option FileNo) (target : FileNo) → sources_left work ≡ source ∷ left → present ≡ source.target → present ≡ Some target → IsTargetFirst (sources_left work) target
target_first work source left present target is same some = subst (λ (l : List Source). IsTargetFirst l target) (sym is) (sym same ∙ some)

-- it has a target, if it is being copied
pub copying_target : {D : Type 0} → (work : Work) (source : Source) (left : List Source) (present : Option FileNo) (store : StoreValue D) (history : Option History) → HasPurged (stage.Copying work) store history → sources_left work ≡ source ∷ left → present ≡ source.target → present ≡ None → ⊥
copying_target work source left present store history h is same none =
    let first : IsCopyingFirst (source ∷ left) work store history = subst (λ (l : List Source). IsCopyingFirst l work store history) is h.2 in
    let k : Some first.0.target ≡ None = sym first.0.target_is ∙ (sym same ∙ none) in cc k

pub wanted_first : (work : Work) (source : Source) (left : List Source) (file : FileNo) (m : MapMeaning) (row : MapRow) → sources_left work ≡ source ∷ left → file ≡ source.file → IsNextWanted m file.0 work.from row → IsNextWantedFirst (sources_left work) work.from m row
wanted_first work source left file m row is same h = subst (λ (l : List Source). IsNextWantedFirst l work.from m row) (sym is) (subst (λ (f : FileNo). IsNextWanted m f.0 work.from row) same h)

pub copied_first : (work : Work) (source : Source) (left : List Source) (file : FileNo) (m : MapMeaning) → sources_left work ≡ source ∷ left → file ≡ source.file → AreUnwantedFrom m file.0 work.from → IsToSwitch (stage.Copying work) work m
copied_first work source left file m is same h = (refl, subst (λ (l : List Source). IsCopiedFirst l work.from m) (sym is) (subst (λ (f : FileNo). AreUnwantedFrom m f.0 work.from) same h))

pub unwanted_first : (work : Work) (source : Source) (left : List Source) (file : FileNo) (target : Option FileNo) (m : MapMeaning) → sources_left work ≡ source ∷ left → file ≡ source.file → target ≡ source.target → target ≡ None → list_any (λ row. row.file == file.0) m.records ≡ true → IsToSwitch (stage.Begin work) work m
unwanted_first work source left file target m is same with none some = (refl, subst (λ (l : List Source). IsUnwantedFirst l m) (sym is) (sym with ∙ none, subst (λ (f : FileNo). list_any (λ row. row.file == f.0) m.records ≡ true) same some))

none_there : (file : ℕ) (rows : List MapRecord) → list_any (λ row. row.file == file) rows ≡ false → AreElsewhere file rows
none_there file [] e = All-nil _
none_there file (row ∷ rows) e = let b = either_none (row.file == file) (list_any (λ (r : MapRecord). r.file == file) rows) e in All-cons (λ (r : MapRecord). r.file ≢ file) row rows (λ here. fall (row.file == file) (eq-eqb row.file file here) b.0) (none_there file rows b.1)
  where
    either_none : (a b : Bool) → (a || b) ≡ false → (a ≡ false) × (b ≡ false)
    either_none true b k = absurd (cc k)
    either_none false b k = (refl, k)

pub bare_first : (work : Work) (source : Source) (left : List Source) (file : FileNo) (target : Option FileNo) (m : MapMeaning) → sources_left work ≡ source ∷ left → file ≡ source.file → target ≡ source.target → target ≡ None → list_any (λ row. row.file == file.0) m.records ≡ false → IsBareFirst (sources_left work) m
bare_first work source left file target m is same with none unlisted = subst (λ (l : List Source). IsBareFirst l m) (sym is) (sym with ∙ none, none_there source.file.0 m.records (subst (λ (f : FileNo). list_any (λ row. row.file == f.0) m.records ≡ false) same unlisted))

-- ---- whether a message lies in a file

pub one_there : (m : MapMeaning) (file : ℕ) (o : Option MapRow) → o ≡ option_map shown_record (record_from m file 0) → is_some o ≡ list_any (λ row. row.file == file) m.records
one_there m file (Some row) e = let r = found_row m file 0 row e in sym (any_has (λ (x : MapRecord). x.file == file) m.records r.0 r.2.has (eq-eqb r.0.file file r.2.here))
one_there m file None e = sym (each m.records (none_found m file 0 e))
  where
    each : (rows : List MapRecord) → All (λ o. o.file ≡ file → 0 ≤ o.offset → ⊥) rows → list_any (λ row. row.file == file) rows ≡ false
    each [] h = refl
    each (row ∷ rows) h = none_both (row.file == file) (list_any (λ (r : MapRecord). r.file == file) rows) (ne_eqb row.file file (λ here. All-head (λ (o : MapRecord). o.file ≡ file → 0 ≤ o.offset → ⊥) row rows h here (omega arith))) (each rows (All-tail (λ (o : MapRecord). o.file ≡ file → 0 ≤ o.offset → ⊥) row rows h))
      where
        none_both : (a b : Bool) → a ≡ false → b ≡ false → (a || b) ≡ false
        none_both a b x y = rw (x, y) refl

-- ---- a step, of the task as it was

pub came_ok : (s : PurgeStage) (inside t : PurgeValue) → inside ≡ t → t.did ≡ did.Quiet → record inside { stage = s } ≡ record t { stage = s; did = did.Quiet }
came_ok s inside t same quiet = ap (λ (v : PurgeValue). record v { stage = s }) same ∙ ap (λ (d : Did). record t { stage = s; did = d }) quiet

pub came_err : (d : Did) (inside t : PurgeValue) → inside ≡ t → t.stage ≡ stage.First → record inside { did = d } ≡ record t { stage = stage.First; did = d }
came_err d inside t same first = ap (λ (v : PurgeValue). record v { did = d }) same ∙ ap (λ (s : PurgeStage). record t { stage = s; did = d }) first

pub stage_is : (s : PurgeStage) (inside t : PurgeValue) → inside ≡ t → inside.stage ≡ s → t.did ≡ did.Quiet → at_stage s inside ≡ t
stage_is s inside t same at quiet =
    ap (λ (k : PurgeStage). at_stage k inside) (sym at) ∙ (ap (λ (d : Did). record inside { did = d }) (sym (ap (λ (v : PurgeValue). v.did) same ∙ quiet)) ∙ same)

pub ready_at : {D : Type 0} → (s : PurgeStage) (inside t : PurgeValue) (store : StoreValue D) (history : Option History) → at_stage s inside ≡ t → (s ≡ stage.First → ⊥) → IsReadyToPurge t store history → HasPurged s store history × HasLowCounts (at_stage s inside) store
ready_at s inside t store history same differs h =
    (subst (λ (v : PurgeValue). HasPurged v.stage store history) (sym same) h.0, subst (λ (v : PurgeValue). HasLowCounts v store) (sym same) (h.1 (λ e. differs (ap (λ (v : PurgeValue). v.stage) same ∙ e))))

step_did : {D : Type 0} → (t next : PurgeValue) (d : Did) (answer : Progress) (old new : StoreValue D) (before later : Option History) (began faults : Faults) → IsPurgeStep (record t { did = d }) next answer old new before later began faults → IsPurgeStep t next answer old new before later began faults
step_did t next d answer old new before later began faults h = record {
  ready = h.ready;
  does = (h.does.0, λ around. steps_did h.does.0 around t next d old new before later began faults (ended_by answer) (h.does.1 around));
  first = h.first;
  refused = h.refused;
  stopped = h.stopped;
  regions = h.regions;
  claims = h.claims;
  grows = h.grows;
  mail = h.mail;
  reads = h.reads;
  changes = h.changes;
  calm = h.calm;
  unfailed = h.unfailed;
  fell = h.fell;
}

pub step_of : {D : Type 0} → (inside t next : PurgeValue) (d : Did) (answer : Progress) (old new : StoreValue D) (before later : Option History) (began faults : Faults) → inside ≡ t → IsPurgeStep (record inside { did = d }) next answer old new before later began faults → IsPurgeStep t next answer old new before later began faults
step_of inside t next d answer old new before later began faults same h = subst (λ (v : PurgeValue). IsPurgeStep v next answer old new before later began faults) same (step_did inside next d answer old new before later began faults h)

pub left_of : {D : Type 0} → (inside t next : PurgeValue) (d : Did) (old new : StoreValue D) → inside ≡ t → LeavesLess (record inside { did = d }) next old new → LeavesLess t next old new
left_of inside t next d old new same h = subst (λ (v : PurgeValue). LeavesLess v next old new) same h

-- it is ready for what comes then
pub ready_of : {D : Type 0} → (t next : PurgeValue) (answer : Progress) (old new : StoreValue D) (before later : Option History) (began faults : Faults) → IsPurgeStep t next answer old new before later began faults → (answer ≡ progress.More → LeavesLess t next old new) → answer ≡ progress.More → new.stopped ≡ false → IsReadyToPurge next new later
ready_of t next answer old new before later began faults h left more runs = (h.ready more runs, λ begun. (left more).0)

pub ready_did : {D : Type 0} → (inside t : PurgeValue) (d : Did) (store : StoreValue D) (history : Option History) → inside ≡ t → IsReadyToPurge t store history → IsReadyToPurge (record inside { did = d }) store history
ready_did inside t d store history same h = by_value (subst (λ (v : PurgeValue). IsReadyToPurge v store history) (sym same) h)
  where
    by_value : IsReadyToPurge inside store history → IsReadyToPurge (record inside { did = d }) store history
    by_value k = (k.0, λ begun. let low = k.1 begun in record { dropped = low.dropped; files = low.files; instances = low.instances })

-- what it came to depends on the counts alone
pub came_counts : (result : Result PurgeStage Refusal) (s u : PurgeValue) → s.dropped ≡ u.dropped → s.files ≡ u.files → s.instances ≡ u.instances → came_to result s ≡ came_to result u
came_counts (Ok next) s u dropped files instances =
    ap (λ (n : ℕ). record s { stage = next; did = did.Quiet; dropped = n }) dropped
    ∙ (ap (λ (n : ℕ). record s { stage = next; did = did.Quiet; dropped = u.dropped; files = n }) files ∙ ap (λ (n : ℕ). record s { stage = next; did = did.Quiet; dropped = u.dropped; files = u.files; instances = n }) instances)
came_counts (Err why) s u dropped files instances =
    ap (λ (n : ℕ). record s { stage = stage.First; did = did_of_refusal why; dropped = n }) dropped
    ∙ (ap (λ (n : ℕ). record s { stage = stage.First; did = did_of_refusal why; dropped = u.dropped; files = n }) files ∙ ap (λ (n : ℕ). record s { stage = stage.First; did = did_of_refusal why; dropped = u.dropped; files = u.files; instances = n }) instances)

-- A part's answer, and the task that came to it.
pub part_says : {D : Type 0} → (result : Result PurgeStage Refusal) (t s u next : PurgeValue) (answer : Progress) (old new : StoreValue D) (before later : Option History) (began faults : Faults) → next ≡ came_to result u → answer ≡ answer_of result → s.dropped ≡ u.dropped → s.files ≡ u.files → s.instances ≡ u.instances → IsPurgeStep t (came_to result s) (answer_of result) old new before later began faults → IsPurgeStep t next answer old new before later began faults
part_says result t s u next answer old new before later began faults is told dropped files instances h =
    subst (λ (n : PurgeValue). IsPurgeStep t n answer old new before later began faults) (came_counts result s u dropped files instances ∙ sym is) (subst (λ (a : Progress). IsPurgeStep t (came_to result s) a old new before later began faults) (sym told) h)

pub part_left : {D : Type 0} → (result : Result PurgeStage Refusal) (t s u next : PurgeValue) (answer : Progress) (old new : StoreValue D) → next ≡ came_to result u → answer ≡ answer_of result → s.dropped ≡ u.dropped → s.files ≡ u.files → s.instances ≡ u.instances → (answer_of result ≡ progress.More → LeavesLess t (came_to result s) old new) → answer ≡ progress.More → LeavesLess t next old new
part_left result t s u next answer old new is told dropped files instances h more = subst (λ (n : PurgeValue). LeavesLess t n old new) (came_counts result s u dropped files instances ∙ sym is) (h (sym told ∙ more))

-- A switch's answer, and the task that came to it.
pub switch_part : {D : Type 0} → (result : Result SwitchedFile Refusal) (t u next : PurgeValue) (answer : Progress) (old new : StoreValue D) (before later : Option History) (began faults : Faults) → next ≡ came_by_switch result u → answer ≡ answer_of_switch result → at_stage t.stage u ≡ t → IsPurgeStep t (came_by_switch result t) (answer_of_switch result) old new before later began faults → IsPurgeStep t next answer old new before later began faults
switch_part result t u next answer old new before later began faults is told of h =
    subst (λ (n : PurgeValue). IsPurgeStep t n answer old new before later began faults) (ap (came_by_switch result) (sym of) ∙ (switched_same result t.stage u ∙ sym is)) (subst (λ (a : Progress). IsPurgeStep t (came_by_switch result t) a old new before later began faults) (sym told) h)

pub switch_left : {D : Type 0} → (result : Result SwitchedFile Refusal) (t u next : PurgeValue) (answer : Progress) (old new : StoreValue D) (before later : Option History) (began faults : Faults) → next ≡ came_by_switch result u → answer ≡ answer_of_switch result → at_stage t.stage u ≡ t → IsPurgeStep t (came_by_switch result t) (answer_of_switch result) old new before later began faults
    → IfOk result (λ s. s.dropped ≤ 4294967295) → IfOk result (λ s. IsFurther 1 t.stage s.next) → HasLowCounts t old → answer ≡ progress.More → LeavesLess t next old new
switch_left result t u next answer old new before later began faults is told of h few further low more =
    subst (λ (n : PurgeValue). LeavesLess t n old new) (ap (came_by_switch result) (sym of) ∙ (switched_same result t.stage u ∙ sym is)) (switched_low result t old new before later began faults h few further low (sym told ∙ more))

-- what is said of each stage, of this one
pub further_at : {D : Type 0} → (store : StoreValue D) (history : Option History) (work : Work) (result : Result SwitchedFile Refusal) (t : PurgeValue) → IfOk result (λ s. (at : PurgeStage) → HasPurged at store history → IsToSwitch at work store.map → IsFurther 1 at s.next) → HasPurged t.stage store history → IsToSwitch t.stage work store.map → IfOk result (λ s. IsFurther 1 t.stage s.next)
further_at store history work (Ok switched) t each ready to = each t.stage ready to
further_at store history work (Err why) t each ready to = tt
