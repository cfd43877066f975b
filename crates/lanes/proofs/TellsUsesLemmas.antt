-- The run of a script that lanes serve tells who uses the files and instances of its store.
use Rattle.std.proofs.Common.{◌≡◌, ◌<◌, ◌≤◌, ◌+◌, ◌-◌, ◌==◌, ◌&&◌, ◌||◌, ℕ, suc, Bool, true, false, cond, List, [], ◌∷◌, map, length, Option, Some, None, refl, sym, ◌∙◌, ap, subst, arith, inl, inr}
use Rattle.std.specs.Prelude.{◌⊎◌, Contains, filter, is_none, not, slice_get}
use Rattle.std.specs.List.{list_any}
use Rattle.std.proofs.lemmas.Bool.{eq-eqb, eqb-true, and_parts, and_from, or_cases, or_left, or_right, not_from_false, not-true, cases_lt}
use Rattle.std.proofs.lemmas.List.Sums.{sum_by-cons}
use Rattle.std.proofs.lemmas.Option.{slice_get_within}
use Rattle.model_octets.proofs.SearchLemmas.{both_same}
use Rattle.disk_model.specs.Disk.{History}
use Rattle.mdbox_base.specs.declared.entries.InstRow.{InstRow}
use Rattle.mdbox_base.specs.declared.replies.Reply.{Reply}
use Rattle.mdbox_base.specs.declared.requests.Request.{Request}
use Rattle.mdbox_base.specs.declared.requests.Request.TheVariants as request
use Rattle.model_lists.specs.Lists.{Lists}
use Rattle.list_machine.specs.Run.{Run, RunEvent, before, has_unpinned, own_events, reply_of}
use Rattle.journal.specs.Events.{IsNextEvent}
use Rattle.journal.specs.Found.{gave_back, is_held, is_pinned_instance, is_taken, took_file}
use Rattle.journal.specs.Journal.{Broken, HasReply, JournalStep, Requests}
use Rattle.journal.specs.Makes.{lists_before}
use Rattle.map_index.specs.Shown.{is_instance_named}
use Rattle.sis_store.specs.Instances.{holders_in}
use Rattle.storage_files.specs.Files.{is_emptied_in, is_taken_in}
use Rattle.store_core.specs.Value.{StoreValue}
use Rattle.task_claims.specs.Claims.{AddsUp, Claims, Emptied, Held, Taken, Thing, amount_in, one_if, total_claims}
use Rattle.task_steps.specs.Step.{Seen}
use Rattle.serving.proofs.TakenLemmas.{found_at, waiting_none, any_kept, one_of_all}
use Rattle.serving.specs.Accounts.{LanesAccount, lane_claims}
use Rattle.serving.specs.Lanes.{IsInTurn, LaneStands, LaneValue, said_by}
use Rattle.serving.specs.Serving.{HaveLanes, IsServing}
use Rattle.serving.specs.Taken.{IsInUse}
use Rattle.serving.proofs.LaneLemmas.{first_or_behind, none_waits, one_some}
use Rattle.serving.proofs.ServingLemmas.{all_at, some_at}
use Rattle.purge_task.specs.Clause.{TellsUses}
use Rattle.lane_tasks.specs.Tasks.{IsReadyTask, StandsTask, claims_at}
use Rattle.lane_tasks.specs.Uses.{UsesInstance, finds_instance, pins_instance}
use Rattle.lane_tasks.specs.declared.task.Task.{Task}
use Rattle.lane_tasks.proofs.HoldsLemmas.{delivery_holds, fetch_holds, held_told}
use Rattle.lane_tasks.proofs.TakesLemmas.{claimed_taken}
use Rattle.lanes.specs.Going.{stands_in}
use Rattle.lanes.proofs.FindingLemmas.{uses_taken}
use Rattle.lanes.proofs.OwnUseLemmas.{event_uses, finds_in_delivery, pins_in_fetch}
use Rattle.lanes.proofs.UnpinnedLemmas.{HoldsNothing, answered_holds_nothing}

-- ---- tests

no_reply : (o : Option Reply) → is_none o ≡ true → o ≡ None
no_reply None e = refl
no_reply (Some given) e = absurd (let k : false ≡ true = e in cc k)

-- ---- lists

-- it passes among a request's own events
own_any : (test : RunEvent → Bool) (events : List RunEvent) (n place : ℕ) (event : RunEvent) → slice_get events n ≡ Some event → event.request ≡ place → test event ≡ true → list_any test (filter (λ e. e.request == place) events) ≡ true
own_any test events n place event there at is = any_kept (λ e. e.request == place) test events n event there (eq-eqb event.request place at) is

-- and what a request's own event passes, an event of the run does
any_own : (test told : RunEvent → Bool) (place : ℕ) (events : List RunEvent) → ((e : RunEvent) → e.request ≡ place → test e ≡ true → told e ≡ true) → list_any test (filter (λ e. e.request == place) events) ≡ true → list_any told events ≡ true
any_own test told place [] tells is = absurd (let k : false ≡ true = is in cc k)
any_own test told place (a ∷ more) tells is = by_keep (a.request == place) refl (any_own test told place more tells)
  where
    by_test : (list_any test (filter (λ e. e.request == place) more) ≡ true → list_any told more ≡ true) → a.request ≡ place → (test a ≡ true) ⊎ (list_any test (filter (λ e. e.request == place) more) ≡ true) → (told a || list_any told more) ≡ true
    by_test later at (inl t) = or_left (told a) (list_any told more) (tells a at t)
    by_test later at (inr rest) = or_right (told a) (list_any told more) (later rest)

    by_keep : (b : Bool) → (a.request == place) ≡ b → (list_any test (filter (λ e. e.request == place) more) ≡ true → list_any told more ≡ true) → (told a || list_any told more) ≡ true
    by_keep true e later =
        let kept : list_any test (a ∷ filter (λ e. e.request == place) more) ≡ true = sym (ap (λ (b : Bool). list_any test (cond b (a ∷ filter (λ e. e.request == place) more) (filter (λ e. e.request == place) more))) e) ∙ is in
        by_test later (eqb-true a.request place e) (or_cases (test a) (list_any test (filter (λ e. e.request == place) more)) kept)
    by_keep false e later =
        let rest : list_any test (filter (λ e. e.request == place) more) ≡ true = sym (ap (λ (b : Bool). list_any test (cond b (a ∷ filter (λ e. e.request == place) more) (filter (λ e. e.request == place) more))) e) ∙ is in
        or_right (told a) (list_any told more) (later rest)

-- ---- the task of a request

-- a lane's task stands at this request, which isn't answered
pub record TaskStands {D : Type 0} (store : StoreValue D) (history : Option History) (script : Requests) (run : Run) (journal : List JournalStep) (lanes : List (LaneValue Task)) (place : ℕ) : Type 0 where
  pub k : ℕ
  pub value : LaneValue Task
  pub task : Task
  pub lane : ℕ
  pub asked : Request
  pub there : slice_get lanes k ≡ Some value
  pub has : value.task ≡ Some task
  pub request_is : slice_get script place ≡ Some (lane, asked)
  pub unanswered : reply_of place run ≡ None
  pub stands : StandsTask task store history asked run place (said_by journal place)

no_events : (events : List RunEvent) (n : ℕ) (event : RunEvent) → slice_get events n ≡ Some event → filter (λ e. e.request == event.request) events ≡ [] → ⊥
no_events events n event there none =
    let some = own_any (λ e. true) events n event.request event there refl refl in let k : false ≡ true = sym (ap (list_any (λ (e : RunEvent). true)) none) ∙ some in cc k

-- the task of a request that has an event and no reply
pub task_of_event : {D : Type 0} → (start : Lists) (script : Requests) (run : Run) (journal : List JournalStep) (broken : Broken) (replies : List (Option Reply)) (began now : Seen) (lanes : List (LaneValue Task)) (store : StoreValue D) (history : Option History) (n : ℕ) (event : RunEvent)
    → IsServing (stands_in store history) start script run journal broken replies began now lanes → HaveLanes script lanes → slice_get run.events n ≡ Some event → reply_of event.request run ≡ None → TaskStands store history script run journal lanes event.request
task_of_event {D} start script run journal broken replies began now lanes store history n event s have there none = by_each ((s.lanes_at (next.asked.0 - 1) lane.0 lane.1).each event.request next.asked next.request_is (omega (arith, low)))
  where
    next : IsNextEvent (s.follows.around n) (s.follows.after n) script (before n run) (lists_before start journal n) event
    next = s.follows.next n event there

    number : (0 < next.asked.0) × (next.asked.0 ≤ length lanes)
    number = all_at (λ (q : ℕ × Request). (0 < q.0) × (q.0 ≤ length lanes)) script event.request next.asked have next.request_is

    low : 0 < next.asked.0
    low = number.0

    lane : (value : LaneValue Task) × (slice_get lanes (next.asked.0 - 1) ≡ Some value)
    lane = some_at lanes (next.asked.0 - 1) (let high = number.1 in omega (arith, low, high))

    some : own_events event.request run ≡ [] → ⊥
    some = no_events run.events n event there

    by_task : (task : Option Task) → lane.0.task ≡ task → (first : ℕ) → event.request ≡ first → (asked : Request) → slice_get script first ≡ Some (next.asked.0 - 1 + 1, asked) → LaneStands (stands_in store history) task asked run first (said_by journal first) → TaskStands store history script run journal lanes event.request
    by_task None has first same asked is stands = absurd (some (ap (λ (p : ℕ). own_events p run) same ∙ stands.0))
    by_task (Some task) has first same asked is stands = record {
      k = next.asked.0 - 1;
      value = lane.0;
      task = task;
      lane = next.asked.0 - 1 + 1;
      asked = asked;
      there = lane.1;
      has = has;
      request_is = ap (slice_get script) same ∙ is;
      unanswered = none;
      stands = subst (λ (p : ℕ). StandsTask task store history asked run p (said_by journal p)) (sym same) stands;
    }

    by_first : (first : ℕ) (rest : List ℕ) → IsInTurn (stands_in store history) script run journal replies (next.asked.0 - 1 + 1) lane.0 (first ∷ rest) → (event.request ≡ first) ⊎ Contains rest event.request → TaskStands store history script run journal lanes event.request
    by_first first rest turn (inl same) = by_task lane.0.task refl first same turn.0.0 turn.0.1.asked turn.0.2
    by_first first rest turn (inr waits) = absurd (some (waiting_none script run (next.asked.0 - 1 + 1) first rest event.request turn.1 waits))

    by_queue : (queue : List ℕ) → IsInTurn (stands_in store history) script run journal replies (next.asked.0 - 1 + 1) lane.0 queue → Contains queue event.request → TaskStands store history script run journal lanes event.request
    by_queue [] turn waits = absurd (none_waits event.request waits)
    by_queue (first ∷ rest) turn waits = by_first first rest turn (first_or_behind first rest event.request waits)

    by_each : Contains lane.0.queue event.request ⊎ ((given : Reply) × HasReply replies event.request given) → TaskStands store history script run journal lanes event.request
    by_each (inl waits) = by_queue lane.0.queue (s.lanes_at (next.asked.0 - 1) lane.0 lane.1).in_turn waits
    by_each (inr given) =
        let e = sym (s.given.1 event.request (slice_get_within script event.request next.asked next.request_is)) ∙ given.1 in absurd (let k : Some None ≡ Some (Some given.0) = ap (λ (o : Option Reply). Some o) (sym none) ∙ e in cc k)

-- ---- the claims of a task

some_claim : (lanes : List (LaneValue Task)) (thing : Thing) → 1 ≤ total_claims (map (lane_claims claims_at) lanes) thing → (k : ℕ) × (value : LaneValue Task) × (slice_get lanes k ≡ Some value) × (1 ≤ lane_claims claims_at value thing)
some_claim [] thing some = absurd (let h : 1 ≤ 0 = some in omega (arith, h))
some_claim (a ∷ more) thing some = elim (cases_lt 0 (lane_claims claims_at a thing)) [
  | inl mine ↦ (0, a, refl, mine)
  | inr none ↦
      let s = sum_by-cons (λ (c : Claims). c thing) (lane_claims claims_at a) (map (lane_claims claims_at) more) in
      let r = some_claim more thing (omega (arith, none, s, some)) in (suc r.0, r.1, r.2, r.3)
]

-- a task claims a thing of which the store has some, and its request isn't answered
pub record TaskClaims {D : Type 0} (thing : Thing) (store : StoreValue D) (history : Option History) (script : Requests) (run : Run) (journal : List JournalStep) (lanes : List (LaneValue Task)) : Type 0 where
  pub place : ℕ
  pub at : TaskStands store history script run journal lanes place
  pub claims : 1 ≤ claims_at at.task thing

pub task_of_claim : {D : Type 0} → (start : Lists) (script : Requests) (run : Run) (journal : List JournalStep) (broken : Broken) (replies : List (Option Reply)) (began now : Seen) (lanes : List (LaneValue Task)) (store : StoreValue D) (history : Option History) (thing : Thing)
    → IsServing (stands_in store history) start script run journal broken replies began now lanes → AddsUp store (map (lane_claims claims_at) lanes) → 1 ≤ amount_in thing store → TaskClaims thing store history script run journal lanes
task_of_claim {D} start script run journal broken replies began now lanes store history thing s adds some = by_task one.1.task refl
  where
    one : (k : ℕ) × (value : LaneValue Task) × (slice_get lanes k ≡ Some value) × (1 ≤ lane_claims claims_at value thing)
    one = some_claim lanes thing (let a = adds thing in omega (arith, a, some))

    mine : (task : Option Task) → one.1.task ≡ task → 1 ≤ lane_claims claims_at (record one.1 { task = task }) thing
    mine task has = subst (λ (o : Option Task). 1 ≤ lane_claims claims_at (record one.1 { task = o }) thing) has one.3

    unanswered : (place : ℕ) (asked : ℕ × Request) → slice_get script place ≡ Some asked → slice_get replies place ≡ Some None → reply_of place run ≡ None
    unanswered place asked is none = one_some (reply_of place run) None (sym (s.given.1 place (slice_get_within script place asked is)) ∙ none)

    by_queue : (task : Task) → one.1.task ≡ Some task → (queue : List ℕ) → IsInTurn (stands_in store history) script run journal replies (one.0 + 1) one.1 queue → TaskClaims thing store history script run journal lanes
    by_queue task has [] turn = absurd (let k : None ≡ Some task = sym turn ∙ has in cc k)
    by_queue task has (place ∷ rest) turn = record {
      place = place;
      at = record {
        k = one.0;
        value = one.1;
        task = task;
        lane = one.0 + 1;
        asked = turn.0.0;
        there = one.2;
        has = has;
        request_is = turn.0.1.asked;
        unanswered = unanswered place (one.0 + 1, turn.0.0) turn.0.1.asked turn.0.1.unanswered;
        stands = subst (λ (o : Option Task). LaneStands (stands_in store history) o turn.0.0 run place (said_by journal place)) has turn.0.2;
      };
      claims = mine (Some task) has;
    }

    by_task : (task : Option Task) → one.1.task ≡ task → TaskClaims thing store history script run journal lanes
    by_task None has = absurd (let h : 1 ≤ 0 = mine None has in omega (arith, h))
    by_task (Some task) has = by_queue task has one.1.queue (s.lanes_at one.0 one.1 one.2).in_turn

-- ---- who uses what

one_true : (b : Bool) → b ≡ true → 1 ≤ one_if b
one_true true e = omega arith
one_true false e = absurd (let k : false ≡ true = e in cc k)

taken_told : {D : Type 0} → (store : StoreValue D) (history : Option History) (script : Requests) (run : Run) (journal : List JournalStep) (lanes : List (LaneValue Task)) (place file : ℕ) (at : TaskStands store history script run journal lanes place) → 1 ≤ file → (1 ≤ claims_at at.task (Taken file)) ⊎ (1 ≤ claims_at at.task (Emptied file)) → is_taken run file ≡ true
taken_told store history script run journal lanes place file at low claims =
    let has = claimed_taken at.task store history at.asked run place (said_by journal place) file at.stands low claims in
    any_own (took_file file) (λ e. took_file file e && (is_none (reply_of e.request run) && not (gave_back file (own_events e.request run)))) place run.events
    (λ e same took. and_from (took_file file e) _ took
    (and_from (is_none (reply_of e.request run)) _ (ap (λ (p : ℕ). is_none (reply_of p run)) same ∙ ap (λ (o : Option Reply). is_none o) at.unanswered) (not_from_false (gave_back file (own_events e.request run)) (ap (λ (p : ℕ). gave_back file (own_events p run)) same ∙ has.1))))
    has.0

uses_told : {D : Type 0} → (store : StoreValue D) (history : Option History) (script : Requests) (run : Run) (journal : List JournalStep) (lanes : List (LaneValue Task)) (place : ℕ) (instance : InstRow) → TaskStands store history script run journal lanes place → UsesInstance instance (own_events place run)
    → (is_held run instance || is_pinned_instance run instance) ≡ true
uses_told store history script run journal lanes place instance at (inl found) =
    or_left (is_held run instance) (is_pinned_instance run instance)
    (any_own (finds_instance instance) (λ e. is_none (reply_of e.request run) && finds_instance instance e) place run.events
    (λ e same is. and_from (is_none (reply_of e.request run)) (finds_instance instance e) (ap (λ (p : ℕ). is_none (reply_of p run)) same ∙ ap (λ (o : Option Reply). is_none o) at.unanswered) is) found)
uses_told store history script run journal lanes place instance at (inr pinned) =
    or_right (is_held run instance) (is_pinned_instance run instance)
    (any_own (pins_instance instance) (λ e. pins_instance instance e && not (has_unpinned e.request run)) place run.events
    (λ e same is. and_from (pins_instance instance e) _ is (not_from_false (has_unpinned e.request run) (ap (λ (p : ℕ). has_unpinned p run) same ∙ pinned.1))) pinned.0)

still_pinned : (run : Run) (instance : InstRow) (n : ℕ) (event : RunEvent) → slice_get run.events n ≡ Some event → pins_instance instance event ≡ true → has_unpinned event.request run ≡ false → HoldsNothing (own_events event.request run) → ⊥
still_pinned run instance n event there pinned still (inl bare) = let k : false ≡ true = sym (bare instance) ∙ own_any (pins_instance instance) run.events n event.request event there refl pinned in cc k
still_pinned run instance n event there pinned still (inr unpinned) = let k : false ≡ true = sym still ∙ unpinned in cc k

pub tells_uses : {D : Type 0} → (start : Lists) (script : Requests) (run : Run) (journal : List JournalStep) (broken : Broken) (replies : List (Option Reply)) (began now : Seen) (lanes : List (LaneValue Task)) (store : StoreValue D) (history : Option History)
    → IsServing (stands_in store history) start script run journal broken replies began now lanes → HaveLanes script lanes → LanesAccount claims_at IsReadyTask store history lanes → now.stopped ≡ false → store.stopped ≡ false → TellsUses run store
tells_uses {D} start script run journal broken replies began now lanes store history s have accounts running runs = record {
  taken = λ file some. both_same (is_taken run file) (is_taken_in file store.files.files || is_emptied_in file store.files.files) (λ is. in_use file (uses_taken start script run journal broken replies began now store history lanes s have accounts.adds_up file some is)) (used file some);
  used = λ instance is. by_use instance (or_cases (is_held run instance) (is_pinned_instance run instance) is);
  held = λ instance knows some.
      let c = task_of_claim start script run journal broken replies began now lanes store history (Held instance.id) s accounts.adds_up some in
      uses_told store history script run journal lanes c.place instance c.at (held_told c.at.task store history c.at.asked run c.place (said_by journal c.place) instance c.at.stands (accounts.ready c.at.k c.at.value c.at.there c.at.task c.at.has) knows c.claims);
}
  where
    in_use : (file : ℕ) → IsInUse store file → (is_taken_in file store.files.files || is_emptied_in file store.files.files) ≡ true
    in_use file (inl taken) = or_left (is_taken_in file store.files.files) (is_emptied_in file store.files.files) taken
    in_use file (inr emptied) = or_right (is_taken_in file store.files.files) (is_emptied_in file store.files.files) emptied

    by_file : (file : ℕ) → 1 ≤ file → (is_taken_in file store.files.files ≡ true) ⊎ (is_emptied_in file store.files.files ≡ true) → is_taken run file ≡ true
    by_file file low (inl taken) =
        let c = task_of_claim start script run journal broken replies began now lanes store history (Taken file) s accounts.adds_up (one_true (is_taken_in file store.files.files) taken) in
        taken_told store history script run journal lanes c.place file c.at low (inl c.claims)
    by_file file low (inr emptied) =
        let c = task_of_claim start script run journal broken replies began now lanes store history (Emptied file) s accounts.adds_up (one_true (is_emptied_in file store.files.files) emptied) in
        taken_told store history script run journal lanes c.place file c.at low (inr c.claims)

    used : (file : ℕ) → 1 ≤ file → (is_taken_in file store.files.files || is_emptied_in file store.files.files) ≡ true → is_taken run file ≡ true
    used file low is = by_file file low (or_cases (is_taken_in file store.files.files) (is_emptied_in file store.files.files) is)

    -- what a task claims is held
    claimed : (place : ℕ) (instance : InstRow) (at : TaskStands store history script run journal lanes place) → 1 ≤ claims_at at.task (Held instance.id) → 1 ≤ holders_in instance.id store.instances.known
    claimed place instance at some =
        let mine : lane_claims claims_at at.value (Held instance.id) ≡ claims_at at.task (Held instance.id) = ap (λ (o : Option Task). lane_claims claims_at (record at.value { task = o }) (Held instance.id)) at.has in
        let all = one_of_all claims_at lanes at.k at.value (Held instance.id) at.there in
        let a = accounts.adds_up (Held instance.id) in
        omega (arith, some, mine, all, a)

    named : (place : ℕ) (instance : InstRow) (at : TaskStands store history script run journal lanes place) → (1 ≤ claims_at at.task (Held instance.id)) ⊎ (is_instance_named store.map instance.id.0 ≡ true) → (1 ≤ holders_in instance.id store.instances.known) ⊎ (is_instance_named store.map instance.id.0 ≡ true)
    named place instance at (inl some) = inl (claimed place instance at some)
    named place instance at (inr is) = inr is

    -- the request of a task is that of its events
    asked_as : (place : ℕ) (at : TaskStands store history script run journal lanes place) (asked : ℕ × Request) (q : Request) → slice_get script place ≡ Some asked → asked.1 ≡ q → at.asked ≡ q
    asked_as place at asked q is same = ap (λ (o : ℕ × Request). o.1) (one_some (at.lane, at.asked) asked (sym at.request_is ∙ is)) ∙ same

    by_found : (instance : InstRow) (n : ℕ) (event : RunEvent) → slice_get run.events n ≡ Some event → reply_of event.request run ≡ None → finds_instance instance event ≡ true → (1 ≤ holders_in instance.id store.instances.known) ⊎ (is_instance_named store.map instance.id.0 ≡ true)
    by_found instance n event there none found =
        let at = task_of_event start script run journal broken replies began now lanes store history n event s have there none in
        let next = s.follows.next n event there in
        let q = finds_in_delivery next.asked.1 event instance (event_uses _ _ _ _ next.asked.1 event next.is_event) found in
        let stands = subst (λ (a : Request). StandsTask at.task store history a run event.request (said_by journal event.request)) (asked_as event.request at next.asked (request.Deliver q.0 q.1 q.2) next.request_is q.3) at.stands in
        named event.request instance at (delivery_holds at.task store history q.0 q.1 q.2 run event.request (said_by journal event.request) instance stands runs (own_any (finds_instance instance) run.events n event.request event there refl found))

    by_pinned : (instance : InstRow) (n : ℕ) (event : RunEvent) → slice_get run.events n ≡ Some event → pins_instance instance event ≡ true → has_unpinned event.request run ≡ false → (o : Option Reply) → reply_of event.request run ≡ o → 1 ≤ holders_in instance.id store.instances.known
    by_pinned instance n event there pinned still None none =
        let at = task_of_event start script run journal broken replies began now lanes store history n event s have there none in
        let next = s.follows.next n event there in
        let q = pins_in_fetch next.asked.1 event instance (event_uses _ _ _ _ next.asked.1 event next.is_event) pinned in
        let stands = subst (λ (a : Request). StandsTask at.task store history a run event.request (said_by journal event.request)) (asked_as event.request at next.asked (request.Fetch q.0 q.1) next.request_is q.2) at.stands in
        claimed event.request instance at (fetch_holds at.task store history q.0 q.1 run event.request (said_by journal event.request) instance stands (own_any (pins_instance instance) run.events n event.request event there refl pinned) still)
    by_pinned instance n event there pinned still (Some given) answered =
        let next = s.follows.next n event there in
        let q = pins_in_fetch next.asked.1 event instance (event_uses _ _ _ _ next.asked.1 event next.is_event) pinned in
        let asked : slice_get script event.request ≡ Some (next.asked.0, request.Fetch q.0 q.1) = next.request_is ∙ ap (λ (a : Request). Some (next.asked.0, a)) q.2 in
        absurd (still_pinned run instance n event there pinned still (answered_holds_nothing s.follows.around s.follows.after script start run journal event.request next.asked.0 q.0 q.1 given s.follows.next (s.serves.unrefused running) asked answered))

    by_use : (instance : InstRow) → (is_held run instance ≡ true) ⊎ (is_pinned_instance run instance ≡ true) → (1 ≤ holders_in instance.id store.instances.known) ⊎ (is_instance_named store.map instance.id.0 ≡ true)
    by_use instance (inl is) =
        let found = found_at (λ e. is_none (reply_of e.request run) && finds_instance instance e) run.events is in
        let both = and_parts (is_none (reply_of found.1.request run)) (finds_instance instance found.1) found.3 in
        by_found instance found.0 found.1 found.2 (no_reply (reply_of found.1.request run) both.0) both.1
    by_use instance (inr is) =
        let found = found_at (λ e. pins_instance instance e && not (has_unpinned e.request run)) run.events is in
        let both = and_parts (pins_instance instance found.1) (not (has_unpinned found.1.request run)) found.3 in
        inl (by_pinned instance found.0 found.1 found.2 both.0 (not-true (has_unpinned found.1.request run) both.1) (reply_of found.1.request run) refl)
