-- The clause of a task's step, from that of its kind.
use Rattle.lane_tasks.proofs.Common.{◌≡◌, ◌<◌, ℕ, Bool, true, false, List, Option, Some, None, refl, sym, ◌∙◌, ap, subst, arith, ◌≤◌, History, Faults, Uid, Progress, Refusal, Reply, Request, Lists, MapMeaning, Run, RunEvent, and_then, Around, AreFilesInOrder, IsStore, StoreValue, ended_by}
use Rattle.lane_tasks.proofs.Common.{MakeAnswers, IsAt, MakeStage, IsAtFetch, FetchStage, save_claims, SaveEffects, IsAtSave, IsReadyToDeliver, SaveValue, PurgeValue, IsMakeNumber, TookNoFile, work_left, Task}
use Rattle.std.proofs.Common.{◌-◌}
use Rattle.std.specs.Prelude.{◌==◌, is_some, ◌↔◌}
use Rattle.std.proofs.lemmas.Bool.{eqb-true}
use Rattle.mdbox_base.specs.declared.entries.Highest.{Highest}
use Rattle.mdbox_base.specs.declared.progress.Did.{Did}
use Rattle.mdbox_base.specs.declared.progress.Did.TheVariants as did
use Rattle.mdbox_base.specs.declared.progress.Progress.TheVariants as progress
use Rattle.mdbox_base.specs.declared.replies.Refusal.TheVariants as refusal
use Rattle.mdbox_base.specs.declared.replies.Reply.TheVariants as reply
use Rattle.mdbox_base.specs.declared.requests.Request.TheVariants as request
use Rattle.model_octets.proofs.PairLemmas.{found_holds}
use Rattle.list_machine.specs.Run.{drawn_of}
use Rattle.journal.specs.Events.{DidPart, IsEvent, behind_event}
use Rattle.journal.specs.Found.{AgreesWithRun, IsFreeFile}
use Rattle.storage_files.specs.Files.{FilesValue, end_in, is_doomed_in, pins_in}
use Rattle.storage_files.specs.declared.file.MailFile.{MailFile}
use Rattle.storage_files.proofs.UseLemmas.{found-ending}
use Rattle.store_core.specs.Keeping.{KeepsRest}
use Rattle.store_core.specs.MadeLogs.{without_box}
use Rattle.store_seen.specs.Seeing.{seen_of}
use Rattle.task_steps.specs.Step.{DidEvent, and_told, Fell, HasComeTo, HasNotBegun, Leads, Seen, Steps, Went}
use Rattle.task_claims.specs.Claims.{MovesClaims, Pinned}
use Rattle.mail_ops.specs.Copy.{CopyValue, IsAtCopy}
use Rattle.mail_ops.specs.Deleting.{DeleteValue, IsAtDelete}
use Rattle.mail_ops.specs.Expunging.{ExpungeValue, IsAtExpunge}
use Rattle.mail_ops.specs.Making.{IsAtMake, KeepsAllButLogs, MakeValue, make_left, with_drawn_box}
use Rattle.mail_ops.specs.Moving.{IsAtMove, MoveValue}
use Rattle.mail_ops.specs.Renaming.{RenameValue}
use Rattle.mail_ops.specs.Requests.{AppendsNothing, IsOpsRequest, Replies}
use Rattle.mail_ops.specs.Task.{TaskValue}
use Rattle.mail_ops.specs.declared.making.MakeStage.TheVariants as make_stage
use Rattle.mail_fetch.specs.Claims.{HasFetchRoom, HasUseRoom}
use Rattle.mail_fetch.specs.Clause.{CanFetch, FetchSteps, StepsOf}
use Rattle.mail_fetch.specs.Task.{FetchValue, seen_in}
use Rattle.mail_fetch.specs.declared.task.FetchStage.TheVariants as fetch_stage
use Rattle.mail_save.specs.Ready.{IsReadyToSave}
use Rattle.mail_save.specs.SaveSeen.{HasItsParts, StepsWithRoom, around_saving}
use Rattle.mail_save.proofs.SavePartLemmas.{ready_has_parts}
use Rattle.purge_task.specs.Clause.{PurgeSteps, TellsUses, around_purging}
use Rattle.purge_task.specs.Stages.{IsAtPurge}
use Rattle.resync_task.specs.Clause.{ResyncClause}
use Rattle.resync_task.specs.Task.{ResyncValue}
use Rattle.lane_tasks.specs.Clause.{DoomsNone, FindsAround, LeavesUndoomed, SetsNothing, StaysOfRequest, StepsTask, around_at}
use Rattle.lane_tasks.specs.Tasks.{IsAtTask, IsDeliveryOf, IsTaskOf, TookFiles, did_of}
use Rattle.lane_tasks.specs.declared.task.Task.TheVariants as task
use Rattle.lane_tasks.proofs.NamedLemmas.{names_on}
use Rattle.lane_tasks.proofs.FilesLemmas.{TouchesNoMail, TakesNone, fetch_takes_none, takes_none, took_none_more}
use Rattle.lane_tasks.proofs.PurgeApartLemmas.{apart_on}

-- of a task that takes no files, and whose next value is of its request, in a store that keeps its files as they are, with what its event found
pub steps_found : {D : Type 0} → (t next : Task) (q : Request) (old new : StoreValue D) (before after : Option History) (began now : Faults) (ended : Option Reply)
    → ((asked : Request) → IsTaskOf t asked → (asked ≡ q) × IsTaskOf next asked) → TakesNone q → new.files ≡ old.files → ((run : Run) (place : ℕ) → TookFiles t run place → TookNoFile run place) → ((run : Run) (place : ℕ) → TookNoFile run place → TookFiles next run place)
    → ((asked : Request) (around behind : Around) (pins : ℕ → ℕ) → (found : Around) × FindsAround t asked old before around ended found × Steps (IsAtTask t old before q) (IsAtTask next new after q) found behind q (seen_of pins old before began) (seen_of pins new after now) (did_of next) ended)
    → StepsTask t next old new before after began now ended
steps_found t next q old new before after began now ended is none files took_is took_so steps asked around behind run lane place said lists come shown room tells reads stood =
    let same = (is asked stood.is_of).0 in
    let by = steps asked around behind (λ file. pins_in file old.files.files) in
    let found = by.0 in
    let seen : Steps (IsAtTask t old before q) (IsAtTask next new after q) found behind q (seen_in old before began) (seen_in new after now) (did_of next) ended =
    subst (λ (kept : FilesValue). Steps (IsAtTask t old before q) (IsAtTask next new after q) found behind q (seen_in old before began) (seen_of (λ file. pins_in file kept.files) new after now) (did_of next) ended) (sym files)
    by.2 in
    let does : Steps (IsAtTask t old before asked) (IsAtTask next new after asked) found behind asked (seen_in old before began) (seen_in new after now) (did_of next) ended =
    subst (λ (k : Request). Steps (IsAtTask t old before k) (IsAtTask next new after k) found behind k (seen_in old before began) (seen_in new after now) (did_of next) ended) (sym same) seen in
    let d = does run lane place said lists come shown stood.at in (
      found,
      by.1,
      d.0,
      λ more. record {
        is_of = (is asked stood.is_of).1;
        at = d.1 more;
        took = took_so (and_then run d.0.makes.event) place (took_none_more run place d.0.makes.event d.0.makes.request_is
            (λ done. none found run lists d.0.makes.event d.0.makes.event.part (subst (λ (k : Request). DidPart found run lists k d.0.makes.event d.0.makes.event.part) same (d.0.makes.is_event.did done))) (took_is run place stood.took));
      },
    )

-- of one whose event finds what is asked of it
pub steps_by : {D : Type 0} → (t next : Task) (q : Request) (old new : StoreValue D) (before after : Option History) (began now : Faults) (ended : Option Reply)
    → ((asked : Request) → IsTaskOf t asked → (asked ≡ q) × IsTaskOf next asked) → TakesNone q → new.files ≡ old.files → ((run : Run) (place : ℕ) → TookFiles t run place → TookNoFile run place) → ((run : Run) (place : ℕ) → TookNoFile run place → TookFiles next run place)
    → ((asked : Request) (around : Around) → FindsAround t asked old before around ended (around_at t asked old around))
    → ((around behind : Around) (pins : ℕ → ℕ) → Steps (IsAtTask t old before q) (IsAtTask next new after q) around behind q (seen_of pins old before began) (seen_of pins new after now) (did_of next) ended)
    → StepsTask t next old new before after began now ended
steps_by t next q old new before after began now ended is none files took_is took_so finds steps =
    steps_found t next q old new before after began now ended is none files took_is took_so (λ asked around behind pins. (around_at t asked old around, finds asked around, steps (around_at t asked old around) behind pins))

-- ---- each kind

-- what a kind's own clause says
abbrev pub StepsFrom : {D : Type 0} → (Run → ℕ → List Reply → Type 0) → (Run → ℕ → List Reply → Type 0) → Request → StoreValue D → StoreValue D → Option History → Option History → Faults → Faults → Did → Option Reply → Type 0
StepsFrom Stood Stands q old new before after began now did ended = (around behind : Around) (pins : ℕ → ℕ) → Steps Stood Stands around behind q (seen_of pins old before began) (seen_of pins new after now) did ended

pub rest_files : {D : Type 0} → (old new : StoreValue D) → KeepsRest old new → new.files ≡ old.files
rest_files old new rest = ap (λ (s : StoreValue _). s.files) rest

pub logs_files : {D : Type 0} → (old new : StoreValue D) → KeepsAllButLogs old new → new.files ≡ old.files
logs_files old new rest = ap (λ (s : StoreValue _). s.files) rest

copy_request : (t u : CopyValue) → (u.name ≡ t.name) × (u.uid ≡ t.uid) × (u.target ≡ t.target) → request.Copy t.name t.uid t.target ≡ request.Copy u.name u.uid u.target
copy_request t u e = let n = e.0 in let i = e.1 in let g = e.2 in cc (n, i, g)

move_request : (t u : MoveValue) → (u.name ≡ t.name) × (u.uid ≡ t.uid) × (u.target ≡ t.target) → request.Move t.name t.uid t.target ≡ request.Move u.name u.uid u.target
move_request t u e = let n = e.0 in let i = e.1 in let g = e.2 in cc (n, i, g)

expunge_request : (t u : ExpungeValue) → (u.name ≡ t.name) × (u.uid ≡ t.uid) → request.Expunge t.name t.uid ≡ request.Expunge u.name u.uid
expunge_request t u e = let n = e.0 in let i = e.1 in cc (n, i)

pub copy_does : {D : Type 0} → (t u : CopyValue) (old new : StoreValue D) (before after : Option History) (began now : Faults) (ended : Option Reply) → (u.name ≡ t.name) × (u.uid ≡ t.uid) × (u.target ≡ t.target) → KeepsRest old new
    → StepsFrom (IsAtCopy t.stage) (IsAtCopy u.stage) (request.Copy t.name t.uid t.target) old new before after began now u.did ended → StepsTask (task.Copy t) (task.Copy u) old new before after began now ended
copy_does t u old new before after began now ended same rest steps =
    steps_by (task.Copy t) (task.Copy u) (request.Copy t.name t.uid t.target) old new before after began now ended (λ asked is. (is, is ∙ copy_request t u same)) (takes_none (request.Copy t.name t.uid t.target) tt) (rest_files old new rest) (λ run place took. took) (λ run place took. took) (λ asked around. refl) steps

pub move_does : {D : Type 0} → (t u : MoveValue) (old new : StoreValue D) (before after : Option History) (began now : Faults) (ended : Option Reply) → (u.name ≡ t.name) × (u.uid ≡ t.uid) × (u.target ≡ t.target) → KeepsRest old new
    → StepsFrom (IsAtMove t.uid t.stage) (IsAtMove t.uid u.stage) (request.Move t.name t.uid t.target) old new before after began now u.did ended → StepsTask (task.Move t) (task.Move u) old new before after began now ended
move_does t u old new before after began now ended same rest steps =
    steps_by (task.Move t) (task.Move u) (request.Move t.name t.uid t.target) old new before after began now ended (λ asked is. (is, is ∙ move_request t u same)) (takes_none (request.Move t.name t.uid t.target) tt) (rest_files old new rest) (λ run place took. took) (λ run place took. took) (λ asked around. refl)
    (λ around behind pins. subst (λ (k : Uid). Steps (IsAtMove t.uid t.stage) (IsAtMove k u.stage) around behind (request.Move t.name t.uid t.target) (seen_of pins old before began) (seen_of pins new after now) u.did ended) (sym same.1) (steps around behind pins))

pub expunge_does : {D : Type 0} → (t u : ExpungeValue) (old new : StoreValue D) (before after : Option History) (began now : Faults) (ended : Option Reply) → (u.name ≡ t.name) × (u.uid ≡ t.uid) → KeepsRest old new
    → StepsFrom (IsAtExpunge t.stage) (IsAtExpunge u.stage) (request.Expunge t.name t.uid) old new before after began now u.did ended → StepsTask (task.Expunge t) (task.Expunge u) old new before after began now ended
expunge_does t u old new before after began now ended same rest steps =
    steps_by (task.Expunge t) (task.Expunge u) (request.Expunge t.name t.uid) old new before after began now ended (λ asked is. (is, is ∙ expunge_request t u same)) (takes_none (request.Expunge t.name t.uid) tt) (rest_files old new rest) (λ run place took. took) (λ run place took. took) (λ asked around. refl) steps

pub make_does : {D : Type 0} → (t u : MakeValue) (old new : StoreValue D) (before after : Option History) (began now : Faults) (ended : Option Reply) → u.name ≡ t.name → KeepsAllButLogs old new
    → StepsFrom (IsAtMake t.stage) (IsAtMake u.stage) (request.Make t.name) old new before after began now u.did ended → StepsTask (task.Make t) (task.Make u) old new before after began now ended
make_does t u old new before after began now ended same rest steps =
    steps_by (task.Make t) (task.Make u) (request.Make t.name) old new before after began now ended (λ asked is. (is, is ∙ ap request.Make (sym same))) (takes_none (request.Make t.name) tt) (logs_files old new rest) (λ run place took. took) (λ run place took. took) (λ asked around. refl) steps

delete_request : (t u : DeleteValue) → u.name ≡ t.name → request.Delete t.name ≡ request.Delete u.name
delete_request t u e = ap request.Delete (sym e)

pub delete_does : {D : Type 0} → (t u : DeleteValue) (old new : StoreValue D) (before after : Option History) (began now : Faults) (ended : Option Reply) → u.name ≡ t.name → KeepsRest old new
    → StepsFrom (IsAtDelete t.stage) (IsAtDelete u.stage) (request.Delete t.name) old new before after began now u.did ended → StepsTask (task.Delete t) (task.Delete u) old new before after began now ended
delete_does t u old new before after began now ended same rest steps =
    steps_by (task.Delete t) (task.Delete u) (request.Delete t.name) old new before after began now ended (λ asked is. (is, is ∙ delete_request t u same)) (takes_none (request.Delete t.name) tt) (rest_files old new rest) (λ run place took. took) (λ run place took. took) (λ asked around. refl) steps

rename_request : (t u : RenameValue) → (u.name ≡ t.name) × (u.target ≡ t.target) → request.Rename t.name t.target ≡ request.Rename u.name u.target
rename_request t u e = let n = e.0 in let g = e.1 in cc (n, g)

pub rename_does : {D : Type 0} → (t u : RenameValue) (old new : StoreValue D) (before after : Option History) (began now : Faults) (ended : Option Reply) → (u.name ≡ t.name) × (u.target ≡ t.target) → KeepsRest old new
    → StepsFrom HasNotBegun HasNotBegun (request.Rename t.name t.target) old new before after began now u.did ended → StepsTask (task.Rename t) (task.Rename u) old new before after began now ended
rename_does t u old new before after began now ended same rest steps =
    steps_by (task.Rename t) (task.Rename u) (request.Rename t.name t.target) old new before after began now ended (λ asked is. (is, is ∙ rename_request t u same)) (takes_none (request.Rename t.name t.target) tt) (rest_files old new rest) (λ run place took. took) (λ run place took. took) (λ asked around. refl) steps

ops_leave : (q : Request) → IsOpsRequest q → TouchesNoMail q
ops_leave (request.Deliver name time octets) is = is
ops_leave (request.Fetch name uid) is = is
ops_leave request.Purge is = is
ops_leave other is = tt

-- a task that replied so is of such a request
pub ops_asked : {D : Type 0} → (q : Request) (old new : StoreValue D) (given : Reply) → Replies q old new given → IsOpsRequest q
ops_asked (request.List name) old new given r = tt
ops_asked (request.Flag name uid flags) old new given r = tt
ops_asked (request.Keywords name uid words) old new given r = tt
ops_asked other old new given r = absurd r

pub ops_does : {D : Type 0} → (t u : TaskValue) (old new : StoreValue D) (before after : Option History) (began now : Faults) (ended : Option Reply) → IsOpsRequest t.request → u.request ≡ t.request → KeepsRest old new
    → StepsFrom (IsAt t.stage) (IsAt u.stage) t.request old new before after began now u.did ended → StepsTask (task.Ops t) (task.Ops u) old new before after began now ended
ops_does t u old new before after began now ended is_ops same rest steps =
    steps_by (task.Ops t) (task.Ops u) t.request old new before after began now ended (λ asked is. (is, is ∙ sym same)) (takes_none t.request (ops_leave t.request is_ops)) (rest_files old new rest) (λ run place took. took) (λ run place took. took) (λ asked around. refl) steps

pub counts_does : {D : Type 0} → (t u : Did) (store : StoreValue D) (history : Option History) (faults : Faults) (ended : Option Reply) → StepsFrom HasNotBegun HasNotBegun request.Counts store store history history faults faults u ended
    → StepsTask (task.Counts t) (task.Counts u) store store history history faults faults ended
counts_does t u store history faults ended steps = steps_by (task.Counts t) (task.Counts u) request.Counts store store history history faults faults ended (λ asked is. (is, is)) (takes_none request.Counts tt) refl (λ run place took. took) (λ run place took. took) (λ asked around. refl) steps

pub resync_does : {D : Type 0} → (t u : ResyncValue) (old new : StoreValue D) (before after : Option History) (began now : Faults) (ended : Option Reply) → KeepsRest old new → ResyncClause t.stage u.stage old new before after began now u.did ended
    → StepsTask (task.Resync t) (task.Resync u) old new before after began now ended
resync_does t u old new before after began now ended rest steps =
    steps_found (task.Resync t) (task.Resync u) request.Resync old new before after began now ended (λ asked is. (is, is)) (takes_none request.Resync tt) (rest_files old new rest) (λ run place took. took) (λ run place took. took) (λ asked around behind pins. steps behind pins)

-- ---- a store that is stopped, and files that are doomed

pub stays_stopped : {D : Type 0} → (old new : StoreValue D) → (old.stopped ≡ true → new ≡ old) → old.stopped ≡ true → new.stopped ≡ true
stays_stopped old new still stopped = ap (λ (s : StoreValue _). s.stopped) (still stopped) ∙ stopped

-- a listing changes nothing
pub lists_same : {D : Type 0} → (q : Request) (old new : StoreValue D) → IsOpsRequest q → (AppendsNothing q old → new ≡ old) → SetsNothing q → new ≡ old
lists_same (request.List name) old new is same none = same tt
lists_same (request.Flag name uid flags) old new is same none = absurd none
lists_same (request.Keywords name uid words) old new is same none = absurd none
lists_same other old new is same none = absurd is

-- a store that runs ran before
pub ran_before : (old new : Bool) → (old ≡ true → new ≡ true) → new ≡ false → old ≡ false
ran_before true new still runs = sym (still refl) ∙ runs
ran_before false new still runs = refl

-- of a store that dooms what it doomed
pub undoomed_by : {D : Type 0} → (t next : Task) (old new : StoreValue D) → (DoomsNone t → DoomsNone next) → (new.stopped ≡ false → old.stopped ≡ false) → (new.stopped ≡ false → (file : ℕ) → is_doomed_in file new.files.files ≡ is_doomed_in file old.files.files) → LeavesUndoomed t next old new
undoomed_by t next old new stays ran same none nothing = (stays none, λ runs file. same runs file ∙ nothing (ran runs) file)

pub undoomed_rest : {D : Type 0} → (t next : Task) (old new : StoreValue D) → (DoomsNone t → DoomsNone next) → (old.stopped ≡ true → new.stopped ≡ true) → new.files ≡ old.files → LeavesUndoomed t next old new
undoomed_rest t next old new stays halted files = undoomed_by t next old new stays (ran_before old.stopped new.stopped halted) (λ runs file. ap (λ (f : FilesValue). is_doomed_in file f.files) files)

-- ---- a make

-- a log that a make has made has a number in range
pub make_numbered : {D : Type 0} → (name : List ℕ) (now next : MakeStage) (old new : StoreValue D) (before after : Option History) (answer : Progress) → MakeAnswers name now old new before after next answer → answer ≡ progress.More → IsMakeNumber next
make_numbered name now make_stage.First old new before after answer said more = tt
make_numbered name make_stage.First (make_stage.Naming number) old new before after progress.More said more = said.1.is_number.high
make_numbered name make_stage.First (make_stage.Naming number) old new before after (progress.Done given) said more = absurd said
make_numbered name (make_stage.Naming own) (make_stage.Naming number) old new before after progress.More said more = absurd said
make_numbered name (make_stage.Naming own) (make_stage.Naming number) old new before after (progress.Done given) said more = absurd (let k : progress.Done given ≡ progress.More = more in cc k)

-- a make that goes on has named no mailbox
map_unnamed : {D : Type 0} → (old new : StoreValue D) (named : StoreValue D) → new ≡ named → named.map ≡ old.map → new.map ≡ old.map
map_unnamed old new named same map = ap (λ (s : StoreValue _). s.map) same ∙ map

make_unnamed : {D : Type 0} → (name : List ℕ) (now next : MakeStage) (old new : StoreValue D) (before after : Option History) (answer : Progress) → MakeAnswers name now old new before after next answer → answer ≡ progress.More → new.map ≡ old.map
make_unnamed name make_stage.First (make_stage.Naming number) old new before after progress.More said more = map_unnamed old new (record (with_drawn_box number.0 old) { disk = new.disk; made = new.made }) said.1.same refl
make_unnamed name make_stage.First make_stage.First old new before after progress.More said more = absurd said
make_unnamed name (make_stage.Naming own) make_stage.First old new before after progress.More said more = map_unnamed old new (record old { disk = new.disk; made = without_box own.0 old.made }) said.2.same refl
make_unnamed name (make_stage.Naming own) (make_stage.Naming number) old new before after progress.More said more = absurd said
make_unnamed name now next old new before after (progress.Done given) said more = absurd (let k : progress.Done given ≡ progress.More = more in cc k)

pub make_fewer : {D : Type 0} → (name : List ℕ) (t u : MakeValue) (old new : StoreValue D) (before after : Option History) (answer : Progress) → MakeAnswers name t.stage old new before after u.stage answer → answer ≡ progress.More → make_left u.stage new < make_left t.stage old → work_left (task.Make u) new < work_left (task.Make t) old
make_fewer name t u old new before after answer said more fewer =
    let same = ap (λ (m : MapMeaning). 4294967295 - m.highest.mailbox) (make_unnamed name t.stage u.stage old new before after answer said more) in
    omega (arith, fewer, same)

-- ---- a fetch

pub use_room : {D : Type 0} → (now : FetchStage) (store : StoreValue D) → HasUseRoom store → HasFetchRoom now store
use_room fetch_stage.First store room = room
use_room now store room = tt

fetch_request : (t u : FetchValue) → (u.name ≡ t.name) × (u.uid ≡ t.uid) → request.Fetch t.name t.uid ≡ request.Fetch u.name u.uid
fetch_request t u e = let n = e.0 in let i = e.1 in cc (n, i)

pub fetch_does : {D : Type 0} → (t u : FetchValue) (old new : StoreValue D) (before after : Option History) (began now : Faults) (ended : Option Reply) → (u.name ≡ t.name) × (u.uid ≡ t.uid)
    → ((around behind : Around) → FetchSteps around behind t.name t.uid t.stage u.stage old new before after began now u.did ended) → StepsTask (task.Fetch t) (task.Fetch u) old new before after began now ended
fetch_does t u old new before after began now ended same steps asked around behind run lane place said lists come shown room tells reads stood =
    let is : asked ≡ request.Fetch t.name t.uid = stood.is_of in
    let does : StepsOf (λ ls. CanFetch t.stage t.name t.uid ls old.map before) (IsAtFetch t.stage old.stopped before) (IsAtFetch u.stage new.stopped after) around behind asked (seen_in old before began) (seen_in new after now) u.did ended =
    subst (λ (k : Request). StepsOf (λ ls. CanFetch t.stage t.name t.uid ls old.map before) (IsAtFetch t.stage old.stopped before) (IsAtFetch u.stage new.stopped after) around behind k (seen_in old before began) (seen_in new after now) u.did ended) (sym is) (steps around behind) in
    let d = does run lane place said lists come shown reads stood.at in (
      around,
      refl,
      d.0,
      λ more. record {
        is_of = is ∙ fetch_request t u same;
        at = d.1 more;
        took = took_none_more run place d.0.makes.event d.0.makes.request_is
            (λ done. fetch_takes_none t.name t.uid around run lists d.0.makes.event d.0.makes.event.part (subst (λ (k : Request). DidPart around run lists k d.0.makes.event d.0.makes.event.part) is (d.0.makes.is_event.did done))) stood.took;
      },
    )

-- ---- a delivery

-- An event is seen alike with other pins behind it, if they are as many of each file while the store runs.
came_with : (run : Run) (new : Seen) (pins : ℕ → ℕ) → (new.stopped ≡ false → (file : ℕ) → pins file ≡ new.pins file) → HasComeTo run new → HasComeTo run (record new { pins = pins })
came_with run new pins same c = record {
  come = c.come;
  keeps = λ runs. let k = c.keeps runs in record { due = k.due; pins = λ file. k.pins file ∙ sym (same runs file); doomed = k.doomed; instances = k.instances; files = k.files };
  used = c.used;
  barred = c.barred;
  gave = c.gave;
  gone = c.gone;
  files = c.files;
}

fell_with : (event : RunEvent) (answer : Option Reply) (old new : Seen) (pins : ℕ → ℕ) → Fell event answer old new → Fell event answer old (record new { pins = pins })
fell_with event answer old new pins f = record { refused = f.refused; unanswered = f.unanswered; ran = f.ran; stopped = f.stopped }

leads_with : (lists left : Lists) (old new : Seen) (pins : ℕ → ℕ) → Leads lists left old new → Leads lists left old (record new { pins = pins })
leads_with lists left old new pins l = record { stops = l.stops; settled = l.settled }

went_with : (did : Did) (q : Request) (run : Run) (lists left : Lists) (event : RunEvent) (answer : Option Reply) (old new : Seen) (pins : ℕ → ℕ) → Went did q run lists left event answer old new → Went did q run lists left event answer old (record new { pins = pins })
went_with did.Quiet q run lists left event answer old new pins w = (w.0, w.1, leads_with lists lists old new pins w.2)
went_with (did.Step half) q run lists left event answer old new pins w = (w.0, w.1, w.2, leads_with lists left old new pins w.3)
went_with did.Failed q run lists left event answer old new pins w = (fell_with event answer old new pins w.0, w.1)
went_with (did.Broken half) q run lists left event answer old new pins w = (fell_with event answer old new pins w.0, w.1, w.2)

event_with : (around behind : Around) (run : Run) (lane place : ℕ) (said : List Reply) (q : Request) (lists : Lists) (old new : Seen) (how : Did) (ended : Option Reply) (pins : ℕ → ℕ) → (new.stopped ≡ false → (file : ℕ) → pins file ≡ new.pins file)
    → DidEvent around behind run lane place said q lists old new how ended → DidEvent around behind run lane place said q lists old (record new { pins = pins }) how ended
event_with around behind run lane place said q lists old new how ended pins same d = record {
  left = d.left;
  shown = d.shown;
  makes = d.makes;
  found = d.found;
  come = came_with (and_then run d.makes.event) new pins same d.come;
  gives = d.gives;
  went = went_with how q run lists d.left d.makes.event d.makes.answer old new pins d.went;
  grows = d.grows;
  mail = d.mail;
  ends = record {
    in_turn = d.ends.in_turn;
    replied = d.ends.replied;
    halts = d.ends.halts;
    still = λ stopped. ap (λ (s : Seen). record s { pins = pins }) (d.ends.still stopped);
    reads = d.ends.reads;
    faults = d.ends.faults;
    unfailed = d.ends.unfailed;
  };
}

more_of : (p : Progress) → ended_by p ≡ None → p ≡ progress.More
more_of progress.More e = refl
more_of (progress.Done given) e = absurd (let k : Some given ≡ None = e in cc k)

-- an event that goes on doesn't stop the store
pub still_runs : (stopped : Bool) (ended : Option Reply) → (stopped ≡ true → ended ≡ Some (reply.Refused refusal.Stopped)) → ended ≡ None → stopped ≡ false
still_runs true ended halts none = absurd (let k : None ≡ Some (reply.Refused refusal.Stopped) = sym none ∙ halts refl in cc k)
still_runs false ended halts none = refl

deliver_request : (t : SaveValue) (name : List ℕ) (time : ℕ) (octets : List ℕ) → (name ≡ t.name) × (time ≡ t.time) → request.Deliver t.name t.time octets ≡ request.Deliver name time octets
deliver_request t name time octets e = let n = e.0 in let i = e.1 in cc (n, i)

pub ready_as : {D : Type 0} → (t u : SaveValue) (octets : List ℕ) (store : StoreValue D) (history : Option History) → (u.name ≡ t.name) × (u.time ≡ t.time) × (u.size ≡ t.size) → IsReadyToDeliver u.stage t.name t.time t.size octets store history → IsReadyToDeliver u.stage u.name u.time u.size octets store history
ready_as t u octets store history same ready =
    subst (λ (n : List ℕ). IsReadyToDeliver u.stage n u.time u.size octets store history) (sym same.0)
    (subst (λ (m : ℕ). IsReadyToDeliver u.stage t.name m u.size octets store history) (sym same.1) (subst (λ (k : ℕ). IsReadyToDeliver u.stage t.name t.time k octets store history) (sym same.2) ready))

pub deliver_does : {D : Type 0} → (t u : SaveValue) (old new : StoreValue D) (before after : Option History) (began now : Faults) (result : Progress) → (u.name ≡ t.name) × (u.time ≡ t.time) × (u.size ≡ t.size) → (new.stopped ≡ false → MovesClaims (save_claims t.stage) (save_claims u.stage) old new)
    → (result ≡ progress.More → (octets : List ℕ) → IsReadyToDeliver t.stage t.name t.time t.size octets old before → IsReadyToDeliver u.stage t.name t.time t.size octets new after)
    → (old.stopped ≡ false → SaveEffects t.stage u.stage t.name t.time t.size result old new)
    → ((octets : List ℕ) (pins : ℕ → ℕ) (behind : Around) → HasItsParts t.stage octets → (old.stopped ≡ false → IsReadyToSave t.stage t.name t.time t.size octets old before)
    → StepsWithRoom (IsAtSave t.stage) (IsAtSave u.stage) (around_saving octets t.stage old) behind (request.Deliver t.name t.time octets) (seen_of pins old before began) (seen_of pins new after now) u.did (ended_by result))
    → StepsTask (task.Deliver t) (task.Deliver u) old new before after began now (ended_by result)
unfolding event_with
deliver_does t u old new before after began now result same claims ready effects steps (request.Deliver name time octets) around behind run lane place said lists come shown room tells reads stood =
    let does : StepsWithRoom (IsAtSave t.stage) (IsAtSave u.stage) (around_saving octets t.stage old) behind (request.Deliver name time octets) (seen_in old before began) (seen_of (λ file. pins_in file old.files.files) new after now) u.did (ended_by result) =
    subst (λ (k : Request). StepsWithRoom (IsAtSave t.stage) (IsAtSave u.stage) (around_saving octets t.stage old) behind k (seen_in old before began) (seen_of (λ file. pins_in file old.files.files) new after now) u.did (ended_by result)) (deliver_request t name time octets stood.is_of)
    (steps octets (λ file. pins_in file old.files.files) behind stood.at.1 (λ runs. (stood.at.2 runs).ready)) in
    let d = does run lane place said lists come shown (stood.at.0, room) in
    let pinned : new.stopped ≡ false → (file : ℕ) → pins_in file new.files.files ≡ pins_in file old.files.files = λ runs file. let c = claims runs (Pinned file) in omega (arith, c) in (
      around_saving octets t.stage old,
      refl,
      event_with (around_saving octets t.stage old) behind run lane place said (request.Deliver name time octets) lists (seen_in old before began) (seen_of (λ file. pins_in file old.files.files) new after now) u.did (ended_by result) (λ file. pins_in file new.files.files) pinned d.0,
      λ more.
          let runs = still_runs new.stopped (ended_by result) d.0.ends.halts.1 more in
          let ran = ran_before old.stopped new.stopped (λ stopped. ap (λ (s : Seen). s.stopped) (d.0.ends.still stopped) ∙ stopped) runs in
          let next = ready (more_of result more) octets (stood.at.2 ran) in
          record {
            is_of = (stood.is_of.0 ∙ sym same.0, stood.is_of.1 ∙ sym same.1);
            at = (
              d.1 more,
              ready_has_parts u.stage t.name t.time t.size octets new after next.ready,
              λ running. ready_as t u octets new after same next,
              λ running. names_on t.stage u.stage t.name t.time t.size result old new run place said (and_told said d.0.makes.answer) d.0.makes.event d.0.makes.request_is (λ why refused. (d.0.makes.is_event.undone why refused).0) stood.at.0 (d.1 more) (effects ran) (stood.at.3 ran),
            );
            took = tt;
          },
    )
deliver_does t u old new before after began now result same claims ready effects steps asked around behind run lane place said lists come shown room tells reads stood = absurd stood.is_of

-- ---- a purge

-- a file that may be taken is one that the store knows, and has drawn
known_drawn : {D : Type 0} → (run : Run) (store : StoreValue D) (history : Option History) (faults : Faults) → HasComeTo run (seen_in store history faults) → store.stopped ≡ false → IsStore history store → AreFilesInOrder store.files → (file : ℕ) → IsFreeFile run file → file ≤ (drawn_of run).file
known_drawn run store history faults come runs is order file free = by_end (end_in file store.files.files) refl ((come.keeps runs).files file free.unsealed free.known)
  where
    highest : store.files.highest ≡ (drawn_of run).file
    highest = is.files.highest ∙ ap (λ (h : Highest). h.file) (sym come.come.drawn_is)

    by_end : (o : Option ℕ) → end_in file store.files.files ≡ o → is_some o ≡ true → file ≤ (drawn_of run).file
    by_end None e known = absurd (let z : false ≡ true = known in cc z)
    by_end (Some end) e known =
        let found = found-ending file store.files.files end e in
        let low = found_holds (λ (f : MailFile). f.file.0 == file) store.files.files found.0 (λ (f : MailFile). f.file.0 ≤ store.files.highest) found.1 order.below in
        let within = low.0 in
        let at = eqb-true found.0.file.0 file low.1 in
        omega (arith, within, at, highest)

-- one that goes on isn't refused
purge_unrefused : (around behind : Around) (run : Run) (lists : Lists) (event : RunEvent) → IsEvent around behind run lists request.Purge event → event.reply ≡ None → event.refused ≡ None
purge_unrefused around behind run lists event is none = by_refused event.refused refl
  where
    by_refused : (o : Option Refusal) → event.refused ≡ o → event.refused ≡ None
    by_refused None e = e
    by_refused (Some why) e = absurd (is.ends.1 (ap (behind_event behind (and_then run event) request.Purge event) e) none)

pub purge_does : {D : Type 0} → (t u : PurgeValue) (old new : StoreValue D) (before after : Option History) (began now : Faults) (ended : Option Reply) → IsStore before old → AreFilesInOrder old.files → (files : List ℕ) × ((around : Around) → PurgeSteps files around t u old new before after began now ended)
    → StepsTask (task.Purge t) (task.Purge u) old new before after began now ended
purge_does t u old new before after began now ended is order does asked around behind run lane place said lists come shown room tells reads stood =
    let steps : PurgeSteps does.0 behind t u old new before after began now ended = does.1 behind in
    let stepped : Steps (λ run place said. IsAtPurge t old run place said × (old.stopped ≡ false → TellsUses run old)) (IsAtPurge u new) (around_purging does.0 old) behind asked (seen_in old before began) (seen_in new after now) u.did ended =
    subst (λ (k : Request). Steps (λ run place said. IsAtPurge t old run place said × (old.stopped ≡ false → TellsUses run old)) (IsAtPurge u new) (around_purging does.0 old) behind k (seen_in old before began) (seen_in new after now) u.did ended) (sym stood.is_of) steps in
    let d = stepped run lane place said lists come shown (stood.at, tells) in (
      around_purging does.0 old,
      (does.0, refl),
      d.0,
      λ more.
          let runs = still_runs new.stopped ended d.0.ends.halts.1 more in
          let ran = ran_before old.stopped new.stopped (λ stopped. ap (λ (s : Seen). s.stopped) (d.0.ends.still stopped) ∙ stopped) runs in
          let event : IsEvent (around_purging does.0 old) behind run lists request.Purge d.0.makes.event = subst (λ (k : Request). IsEvent (around_purging does.0 old) behind run lists k d.0.makes.event) stood.is_of d.0.makes.is_event in
          let agrees : AgreesWithRun (around_purging does.0 old) run request.Purge d.0.makes.event d.0.makes.event.part =
          subst (λ (k : Request). AgreesWithRun (around_purging does.0 old) run k d.0.makes.event d.0.makes.event.part) stood.is_of d.0.found in
          record {
            is_of = stood.is_of;
            at = d.1 more;
            took = apart_on (around_purging does.0 old) behind run lists d.0.makes.event place d.0.makes.request_is event (purge_unrefused (around_purging does.0 old) behind run lists d.0.makes.event event (d.0.makes.ended_is ∙ more)) agrees (known_drawn run old before began come ran is order) stood.took;
          },
    )

-- ---- all kinds

-- it stays of its requests
deliver_stays_of : (t u : SaveValue) (asked : Request) → (u.name ≡ t.name) × (u.time ≡ t.time) × (u.size ≡ t.size) → IsDeliveryOf t asked → IsDeliveryOf u asked
deliver_stays_of t u (request.Deliver name time octets) same is = (is.0 ∙ sym same.0, is.1 ∙ sym same.1)
deliver_stays_of t u asked same is = absurd is

-- so do the tasks of all kinds
pub request_stays : (t next : Task) (asked : Request) → StaysOfRequest t next → IsTaskOf t asked → IsTaskOf next asked
request_stays (task.Ops t) (task.Ops next) asked same is = is ∙ sym same
request_stays (task.Counts t) (task.Counts next) asked same is = is
request_stays (task.Make t) (task.Make next) asked same is = is ∙ ap (λ (n : List ℕ). request.Make n) (sym same)
request_stays (task.Copy t) (task.Copy next) asked same is = is ∙ ap (λ (n : List ℕ). request.Copy n t.uid t.target) (sym same.0) ∙ ap (λ (u : Uid). request.Copy next.name u t.target) (sym same.1) ∙ ap (λ (n : List ℕ). request.Copy next.name next.uid n) (sym same.2)
request_stays (task.Move t) (task.Move next) asked same is = is ∙ ap (λ (n : List ℕ). request.Move n t.uid t.target) (sym same.0) ∙ ap (λ (u : Uid). request.Move next.name u t.target) (sym same.1) ∙ ap (λ (n : List ℕ). request.Move next.name next.uid n) (sym same.2)
request_stays (task.Expunge t) (task.Expunge next) asked same is = is ∙ ap (λ (n : List ℕ). request.Expunge n t.uid) (sym same.0) ∙ ap (λ (u : Uid). request.Expunge next.name u) (sym same.1)
request_stays (task.Fetch t) (task.Fetch next) asked same is = is ∙ ap (λ (n : List ℕ). request.Fetch n t.uid) (sym same.0) ∙ ap (λ (u : Uid). request.Fetch next.name u) (sym same.1)
request_stays (task.Deliver t) (task.Deliver next) asked same is = deliver_stays_of t next asked same is
request_stays (task.Resync t) (task.Resync next) asked same is = is
request_stays (task.Delete t) (task.Delete next) asked same is = is ∙ delete_request t next same
request_stays (task.Rename t) (task.Rename next) asked same is = is ∙ rename_request t next same
request_stays (task.Purge t) (task.Purge next) asked same is = is
request_stays t next asked same is = absurd same

-- one that goes on ran in a store that runs
pub more_ran : {D : Type 0} → (old new : StoreValue D) (answer : Progress) → ((answer ≡ progress.Done (reply.Refused refusal.Stopped)) ↔ (new.stopped ≡ true)) → (old.stopped ≡ true → new ≡ old) → answer ≡ progress.More → old.stopped ≡ false
more_ran old new answer halts still more = by_test new.stopped refl
  where
    by_test : (b : Bool) → new.stopped ≡ b → old.stopped ≡ false
    by_test true is = absurd (let k : progress.More ≡ progress.Done (reply.Refused refusal.Stopped) = sym more ∙ halts.1 is in cc k)
    by_test false is = ran_before old.stopped new.stopped (stays_stopped old new still) is
