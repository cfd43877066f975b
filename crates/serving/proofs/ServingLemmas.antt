-- A script that is being served goes on by one event, until every request has its reply, whatever tasks its lanes have.
use Rattle.std.proofs.Common.{◌≡◌, ◌<◌, ◌≤◌, ◌+◌, ◌-◌, ◌==◌, ℕ, zero, suc, true, false, List, [], ◌∷◌, slice_set, Option, Some, None, refl, sym, ◌∙◌, ap, subst, arith, inl, inr}
use Rattle.std.specs.Option.{option_or}
use Rattle.std.specs.Prelude.{◌≢◌, ◌⊎◌, ◌++◌, Bool, All, Contains, cond, filter, length, slice_get}
use Rattle.std.proofs.lemmas.Grind.{common_steps}
use Rattle.std.proofs.lemmas.Option.{slice_get_within}
use Rattle.std.proofs.lemmas.List.{length-set}
use Rattle.std.proofs.lemmas.List.Elements.{All-head, All-tail, All-weaker}
use Rattle.disk_model.specs.Disk.{IfTold, told_calls}
use Rattle.mdbox_base.specs.declared.progress.Did.{Did}
use Rattle.mdbox_base.specs.declared.replies.Refusal.{Refusal}
use Rattle.mdbox_base.specs.declared.replies.Refusal.TheVariants as refusal
use Rattle.mdbox_base.specs.declared.replies.Reply.{Reply}
use Rattle.mdbox_base.specs.declared.replies.Reply.TheVariants as reply
use Rattle.mdbox_base.specs.declared.requests.Request.{Request}
use Rattle.model_kept.proofs.KeptLemmas.{ReadsImage}
use Rattle.model_lists.specs.Lists.{Lists}
use Rattle.list_machine.specs.Run.{Run, RunEvent, and_then, before, first_in, own_events, reply_of}
use Rattle.journal.specs.Events.{Around, IsRepliedBy, last_refusal}
use Rattle.journal.specs.GoesOn.{RepliesAlso}
use Rattle.journal.specs.Journal.{Requests, JournalStep, Broken, HasReply, left_by}
use Rattle.journal.specs.Makes.{AreReplies, StaysStopped, lists_before}
use Rattle.journal.proofs.FaultLemmas.{faults_have_events}
use Rattle.journal.proofs.StoppedLemmas.{stopped_is_replied}
use Rattle.model_octets.proofs.PairLemmas.{pairs_push}
use Rattle.task_steps.specs.Serves.{BreaksBy, Follows, IsTurn, Serves}
use Rattle.task_steps.specs.Step.{StaysFirm, Seen, DidEvent, and_told}
use Rattle.task_steps.proofs.FollowingLemmas.{follows_on, replies_on, replies_stay, told_on}
use Rattle.task_steps.proofs.GoingLemmas.{serves_by}
use Rattle.task_steps.proofs.ReplyingLemmas.{reply_on}
use Rattle.serving.specs.Lanes.{LaneValue, lane_behind, replies_behind, said_by}
use Rattle.serving.specs.Standing.{OthersStandOn}
use Rattle.serving.specs.Serving.{AreIdle, HaveLanes, IsServing}
use Rattle.serving.proofs.LaneLemmas.{first_turn, get_set_other, get_set_same, journal_behind, lanes_on, none_earlier, none_waits, one_some, own_done, own_more}

some_is : (a b : Option Reply) → Some a ≡ Some b → a ≡ b
some_is a b e = cc e

first_none : {X : Type 0} → (a b : Option X) → option_or a b ≡ None → (a ≡ None) × (b ≡ None)
first_none None b e = (refl, e)
first_none (Some x) b e = absurd (let z : Some x ≡ None = e in cc z)

last_is : (own : List RunEvent) (event : RunEvent) (why : Refusal) → event.refused ≡ Some why → last_refusal (own ++ event ∷ []) ≡ Some why
last_is [] event why e = e
last_is (x ∷ xs) event why e = ap (λ (o : Option Refusal). option_or o x.refused) (last_is xs event why e)

last_unrefused : (own : List RunEvent) (event : RunEvent) → event.refused ≡ None → last_refusal (own ++ event ∷ []) ≡ last_refusal own
last_unrefused [] event e = e
last_unrefused (x ∷ xs) event e = ap (λ (o : Option Refusal). option_or o x.refused) (last_unrefused xs event e)

-- ---- a store that is stopped

abbrev StopsLater : RunEvent → RunEvent → Type 0
StopsLater a b = a.refused ≡ Some refusal.Stopped → (b.refused ≡ Some refusal.Stopped) ⊎ (b.refused ≡ Some refusal.NoMemory)

-- a reply of a request is that of one of its events
unreplied_own : (events : List RunEvent) (place n : ℕ) (event : RunEvent) → first_in (λ e. e.reply) (filter (λ e. e.request == place) events) ≡ None → slice_get events n ≡ Some event → (event.request == place) ≡ true → event.reply ≡ None
unreplied_own [] place n event none there own = absurd (let z : None ≡ Some event = there in cc z)
unreplied_own (x ∷ xs) place zero event none there own =
    let same : x ≡ event = one_some x event there in
    subst (λ (e : RunEvent). e.reply ≡ None) same
    (first_none x.reply (first_in (λ e. e.reply) (filter (λ e. e.request == place) xs))
    (sym (ap (λ (b : Bool). first_in (λ (e : RunEvent). e.reply) (cond b (x ∷ filter (λ e. e.request == place) xs) (filter (λ e. e.request == place) xs))) (ap (λ (e : RunEvent). e.request == place) same ∙ own)) ∙ none)).0
unreplied_own (x ∷ xs) place (suc n) event none there own = by_test (x.request == place) refl (λ rest. unreplied_own xs place n event rest there own)
  where
    by_test : (b : Bool) → (x.request == place) ≡ b → (first_in (λ e. e.reply) (filter (λ e. e.request == place) xs) ≡ None → event.reply ≡ None) → event.reply ≡ None
    by_test true e later = later
        (first_none x.reply (first_in (λ e. e.reply) (filter (λ e. e.request == place) xs))
        (sym (ap (λ (b : Bool). first_in (λ (e : RunEvent). e.reply) (cond b (x ∷ filter (λ e. e.request == place) xs) (filter (λ e. e.request == place) xs))) e) ∙ none)).1
    by_test false e later = later (sym (ap (λ (b : Bool). first_in (λ (e : RunEvent). e.reply) (cond b (x ∷ filter (λ e. e.request == place) xs) (filter (λ e. e.request == place) xs))) e) ∙ none)

-- the last refusal of a request is that of one of its events
abbrev HasRefused : List RunEvent → ℕ → Refusal → Type 0
HasRefused events place why = (n : ℕ) × (event : RunEvent) × (slice_get events n ≡ Some event) × ((event.request == place) ≡ true) × (event.refused ≡ Some why)

later_refused : (x : RunEvent) (xs : List RunEvent) (place : ℕ) (why : Refusal) → HasRefused xs place why → HasRefused (x ∷ xs) place why
later_refused x xs place why r = (suc r.0, r.1, r.2, r.3, r.4)

refused_own : (events : List RunEvent) (place : ℕ) (why : Refusal) → last_refusal (filter (λ e. e.request == place) events) ≡ Some why → HasRefused events place why
refused_own [] place why e = absurd (let z : None ≡ Some why = e in cc z)
refused_own (x ∷ xs) place why e = by_test (x.request == place) refl (λ h. later_refused x xs place why (refused_own xs place why h))
  where
    by_last : (o : Option Refusal) → last_refusal (filter (λ e. e.request == place) xs) ≡ o → (x.request == place) ≡ true → option_or o x.refused ≡ Some why → (last_refusal (filter (λ e. e.request == place) xs) ≡ Some why → HasRefused (x ∷ xs) place why) → HasRefused (x ∷ xs) place why
    by_last None l own h later = (0, x, refl, own, h)
    by_last (Some r) l own h later = later (l ∙ h)

    by_test : (b : Bool) → (x.request == place) ≡ b → (last_refusal (filter (λ e. e.request == place) xs) ≡ Some why → HasRefused (x ∷ xs) place why) → HasRefused (x ∷ xs) place why
    by_test true own later = by_last (last_refusal (filter (λ e. e.request == place) xs)) refl own (sym (ap (λ (b : Bool). last_refusal (cond b (x ∷ filter (λ e. e.request == place) xs) (filter (λ e. e.request == place) xs))) own) ∙ e) later
    by_test false own later = later (sym (ap (λ (b : Bool). last_refusal (cond b (x ∷ filter (λ e. e.request == place) xs) (filter (λ e. e.request == place) xs))) own) ∙ e)

-- an event of a request that isn't answered, in a store that is stopped, is refused so
refused_so : (start : Lists) (script : Requests) (run : Run) (journal : List JournalStep) (replies : List (Option Reply)) (place : ℕ) (began now new : Seen) (around after : Around) (lane : ℕ) (request : Request) (how : Did) (ended : Option Reply) → Follows start script run journal → AreReplies script run replies
    → IsTurn script journal replies lane place request → (d : DidEvent around after run lane place (said_by journal place) request (left_by start journal) now new how ended) → now.stopped ≡ true → d.makes.event.refused ≡ Some refusal.Stopped
refused_so start script run journal replies place began now new around after lane request how ended f given turn d was = by_refused d.makes.event.refused refl
  where
    event : RunEvent
    event = d.makes.event

    replied : event.reply ≡ Some (reply.Refused refusal.Stopped)
    replied = d.makes.ended_is ∙ d.ends.halts.1 (ap (λ (x : Seen). x.stopped) (d.ends.still was) ∙ was)

    last : last_refusal (own_events place run ++ event ∷ []) ≡ Some refusal.Stopped
    last = subst (λ (n : ℕ). last_refusal (own_events n run ++ event ∷ []) ≡ Some refusal.Stopped) d.makes.request_is (subst (λ (o : Option Reply). IsRepliedBy (own_events event.request run ++ event ∷ []) o) replied d.makes.is_event.replied)

    unanswered : reply_of place run ≡ None
    unanswered = let z : Some (reply_of place run) ≡ Some None = sym (given.1 place (slice_get_within script place (lane, request) turn.asked)) ∙ turn.unanswered in some_is (reply_of place run) None z

    by_refused : (o : Option Refusal) → event.refused ≡ o → event.refused ≡ Some refusal.Stopped
    by_refused (Some why) e = e ∙ (sym (last_is (own_events place run) event why e) ∙ last)
    by_refused None e =
        let r = refused_own run.events place refusal.Stopped (sym (last_unrefused (own_events place run) event e) ∙ last) in
        let n = f.next r.0 r.1 r.2 in
        let gave = stopped_is_replied (f.around r.0) (f.after r.0) (before r.0 run) (lists_before start journal r.0) n.asked.1 r.1 n.is_event r.4 in
        absurd (let z : None ≡ Some (reply.Refused refusal.Stopped) = sym (unreplied_own run.events place r.0 r.1 unanswered r.2 r.3) ∙ gave in cc z)

-- once an event was refused by a stopped store, each later one is
stays_on : (start : Lists) (script : Requests) (run : Run) (journal : List JournalStep) (replies : List (Option Reply)) (place : ℕ) (began now new : Seen) (around after : Around) (lane : ℕ) (request : Request) (how : Did) (ended : Option Reply) → {broken : Broken} → Serves start script run journal broken replies began now → Follows start script run journal → AreReplies script run replies
    → IsTurn script journal replies lane place request → (d : DidEvent around after run lane place (said_by journal place) request (left_by start journal) now new how ended) → StaysStopped run.events → StaysStopped (run.events ++ d.makes.event ∷ [])
stays_on start script run journal replies place began now new around after lane request how ended s f given turn d stays = pairs_push StopsLater run.events d.makes.event stays (by_old now.stopped refl)
  where
    by_old : (b : Bool) → now.stopped ≡ b → All (λ e. StopsLater e d.makes.event) run.events
    by_old true was = All-weaker (λ (e : RunEvent). Unit {0}) (λ (e : RunEvent). StopsLater e d.makes.event) (λ e u stopped. inl (refused_so start script run journal replies place began now new around after lane request how ended f given turn d was)) run.events (λ i d within. tt)
    by_old false ran = All-weaker (λ (e : RunEvent). e.refused ≢ Some refusal.Stopped) (λ (e : RunEvent). StopsLater e d.makes.event) (λ e no stopped. absurd (no stopped)) run.events (s.unrefused ran)

-- ---- one event more

-- The event of a lane whose request goes on.
pub serving_more : {T : Type 0} → (Was Is : T → Request → Run → ℕ → List Reply → Type 0) (start : Lists) (script : Requests) (run : Run) (journal : List JournalStep) (broken : Broken) (replies : List (Option Reply))
    (began now new : Seen) (lanes : List (LaneValue T)) (k place : ℕ) (rest : List ℕ) (value : LaneValue T) (request : Request) (task : T) (around after : Around) (how : Did)
    → IsServing Was start script run journal broken replies began now lanes → OthersStandOn Was Is lanes k → slice_get lanes k ≡ Some value → value.queue ≡ place ∷ rest → slice_get script place ≡ Some (k + 1, request)
    → (d : DidEvent around after run (k + 1) place (said_by journal place) request (left_by start journal) now new how None) → IfTold now.history ReadsImage → (new.stopped ≡ false → StaysFirm now new) → Is task request (and_then run d.makes.event) place (and_told (said_by journal place) d.makes.answer)
    → (next : Broken) × IsServing Is start script (and_then run d.makes.event) (journal_behind run request journal d.makes.event d.makes.answer d.left) next replies began new (slice_set lanes k (lane_behind None task value))
    × BreaksBy how run d.makes.event (told_calls now.history) broken next
serving_more Was Is start script run journal broken replies began now new lanes k place rest value request task around after how s stays there queue asked d reads firm stands =
    let first = first_turn Was script run journal replies (k + 1) place rest value request (s.lanes_at k value there) queue asked in
    let turn = first.0 in
    let behind = first.2 in
    let s1 = serves_by start script run journal broken replies began now new around after (k + 1) place request how None s.serves turn d reads firm in
    let l = s.lanes_at k value there in (
      s1.0,
      record {
        serves = s1.1;
        follows = follows_on start script run journal broken replies began now new around after (k + 1) place request how None s.serves turn s.given (none_earlier Was script run journal replies (k + 1) place rest value queue behind l s.given) (slice_get_within script place (k + 1, request) turn.asked) d s.follows;
        told = told_on script run journal (k + 1) request d.makes.event d.makes.answer d.left (ap (λ (n : ℕ). slice_get script n) d.makes.request_is ∙ turn.asked) d.makes.is_told s.told;
        given = replies_stay script run journal replies (k + 1) place request d.makes.event turn s.given d.makes.request_is d.makes.ended_is;
        would = s1.2 s.would;
        lanes_at = lanes_on Was Is script run journal replies replies lanes k place value (lane_behind None task value) request d.makes.event d.makes.answer d.left there d.makes.lane_is d.makes.request_is turn.asked d.gives (λ j other. refl)
            (own_more Was Is script run journal replies (k + 1) place rest value request task d.makes.event d.makes.answer d.left queue turn behind d.makes.request_is stands l) s.lanes_at stays;
        stays_stopped = stays_on start script run journal replies place began now new around after (k + 1) request how None s.serves s.follows s.given turn d s.stays_stopped;
        replied_stopped = λ stopped. absurd (none_replied (d.ends.halts.1 stopped));
      },
      s1.3,
    )
  where
    none_replied : None ≡ Some (reply.Refused refusal.Stopped) → ⊥
    none_replied e = cc e

-- The event of a lane that answers its request: the next one takes its turn.
pub serving_done : {T : Type 0} → (Was Is : T → Request → Run → ℕ → List Reply → Type 0) (start : Lists) (script : Requests) (run : Run) (journal : List JournalStep) (broken : Broken) (replies : List (Option Reply))
    (began now new : Seen) (lanes : List (LaneValue T)) (k place : ℕ) (rest : List ℕ) (value : LaneValue T) (request : Request) (task : T) (around after : Around) (how : Did) (given : Reply)
    → IsServing Was start script run journal broken replies began now lanes → OthersStandOn Was Is lanes k → slice_get lanes k ≡ Some value → value.queue ≡ place ∷ rest → slice_get script place ≡ Some (k + 1, request)
    → (d : DidEvent around after run (k + 1) place (said_by journal place) request (left_by start journal) now new how (Some given)) → IfTold now.history ReadsImage → (new.stopped ≡ false → StaysFirm now new)
    → (next : Broken) × IsServing Is start script (and_then run d.makes.event) (journal_behind run request journal d.makes.event d.makes.answer d.left) next (slice_set replies place (Some given)) began new (slice_set lanes k (lane_behind (Some given) task value))
    × BreaksBy how run d.makes.event (told_calls now.history) broken next
serving_done Was Is start script run journal broken replies began now new lanes k place rest value request task around after how given s stays there queue asked d reads firm =
    let first = first_turn Was script run journal replies (k + 1) place rest value request (s.lanes_at k value there) queue asked in
    let turn = first.0 in
    let behind = first.2 in
    let s1 = serves_by start script run journal broken replies began now new around after (k + 1) place request how (Some given) s.serves turn d reads firm in
    let l = s.lanes_at k value there in
    let f = follows_on start script run journal broken replies began now new around after (k + 1) place request how (Some given) s.serves turn s.given (none_earlier Was script run journal replies (k + 1) place rest value queue behind l s.given) (slice_get_within script place (k + 1, request) turn.asked) d s.follows in
    let also : RepliesAlso replies (slice_set replies place (Some given)) place given = record {
      none_before = turn.unanswered;
      here = get_set_same replies place (Some given) None turn.unanswered;
      others = λ j other. get_set_other replies place j (Some given) (λ e. absurd (let z : true ≡ false = sym (same e) ∙ other in cc z));
    } in
    let are = replies_on script run journal replies (slice_set replies place (Some given)) (k + 1) place request d.makes.event given turn s.given d.makes.request_is d.makes.ended_is (length-set replies place (Some given)) also in (
      s1.0,
      record {
        serves = reply_on start script run journal broken s1.0 replies (slice_set replies place (Some given)) began now new around after (k + 1) place request how given s.serves turn d also
            (faults_have_events f.around f.after script start (and_then run d.makes.event) (journal_behind run request journal d.makes.event d.makes.answer d.left) (slice_set replies place (Some given)) f.next are) s1.1;
        follows = f;
        told = told_on script run journal (k + 1) request d.makes.event d.makes.answer d.left (ap (λ (n : ℕ). slice_get script n) d.makes.request_is ∙ turn.asked) d.makes.is_told s.told;
        given = are;
        would = s1.2 s.would;
        lanes_at = lanes_on Was Is script run journal replies (slice_set replies place (Some given)) lanes k place value (lane_behind (Some given) task value) request d.makes.event d.makes.answer d.left there d.makes.lane_is d.makes.request_is turn.asked d.gives (λ j other. get_set_other replies place j (Some given) other)
            (own_done Was Is script run journal replies (slice_set replies place (Some given)) (k + 1) place rest value request task d.makes.event d.makes.answer d.left given queue turn behind d.makes.request_is also.here (λ j other. get_set_other replies place j (Some given) other) l) s.lanes_at stays;
        stays_stopped = stays_on start script run journal replies place began now new around after (k + 1) request how (Some given) s.serves s.follows s.given turn d s.stays_stopped;
        replied_stopped = λ stopped. (place, also.here ∙ ap (λ (o : Option Reply). Some o) (d.ends.halts.1 stopped));
      },
      s1.3,
    )
  where
    same : {j : ℕ} → place ≡ j → (place == j) ≡ true
    same e = grind (arith, common_steps, e)

-- An event of a lane whose request goes on or is answered by it.
pub lane_goes_on : {T : Type 0} → (Was Is : T → Request → Run → ℕ → List Reply → Type 0) (start : Lists) (script : Requests) (run : Run) (journal : List JournalStep) (broken : Broken) (replies : List (Option Reply))
    (began now new : Seen) (lanes : List (LaneValue T)) (k place : ℕ) (rest : List ℕ) (value : LaneValue T) (request : Request) (next : T) (around after : Around) (how : Did) (ended : Option Reply)
    → IsServing Was start script run journal broken replies began now lanes → OthersStandOn Was Is lanes k → slice_get lanes k ≡ Some value → value.queue ≡ place ∷ rest → slice_get script place ≡ Some (k + 1, request)
    → (d : DidEvent around after run (k + 1) place (said_by journal place) request (left_by start journal) now new how ended) → IfTold now.history ReadsImage → (new.stopped ≡ false → StaysFirm now new) → (ended ≡ None → Is next request (and_then run d.makes.event) place (and_told (said_by journal place) d.makes.answer))
    → (failed : Broken) × IsServing Is start script (and_then run d.makes.event) (journal_behind run request journal d.makes.event d.makes.answer d.left) failed (replies_behind ended place replies) began new (slice_set lanes k (lane_behind ended next value))
    × BreaksBy how run d.makes.event (told_calls now.history) broken failed
lane_goes_on Was Is start script run journal broken replies began now new lanes k place rest value request next around after how None s stays there queue asked d reads firm stands =
    serving_more Was Is start script run journal broken replies began now new lanes k place rest value request next around after how s stays there queue asked d reads firm (stands refl)
lane_goes_on Was Is start script run journal broken replies began now new lanes k place rest value request next around after how (Some given) s stays there queue asked d reads firm stands =
    serving_done Was Is start script run journal broken replies began now new lanes k place rest value request next around after how given s stays there queue asked d reads firm

-- ---- the end

pub some_at : {X : Type 0} → (xs : List X) (i : ℕ) → i < length xs → (x : X) × (slice_get xs i ≡ Some x)
some_at [] i lt = absurd (let h : i < 0 = lt in omega (arith, h))
some_at (a ∷ more) zero lt = (a, refl)
some_at (a ∷ more) (suc i) lt = some_at more i (omega (arith, lt))

pub all_at : {X : Type 0} → (P : X → Type 0) (xs : List X) (i : ℕ) (x : X) → All P xs → slice_get xs i ≡ Some x → P x
all_at P [] i x all there = absurd (let z : None ≡ Some x = there in cc z)
all_at P (a ∷ more) zero x all there = subst P (one_some a x there) (All-head P a more all)
all_at P (a ∷ more) (suc i) x all there = all_at P more i x (All-tail P a more all) there

-- No lane has a request left: every request has its reply, which is that of its events.
pub all_replied : {T : Type 0} → (At : T → Request → Run → ℕ → List Reply → Type 0) (start : Lists) (script : Requests) (run : Run) (journal : List JournalStep) (broken : Broken) (replies : List (Option Reply)) (began now : Seen) (lanes : List (LaneValue T)) → IsServing At start script run journal broken replies began now lanes
    → HaveLanes script lanes → AreIdle lanes → (i : ℕ) → i < length script → (given : Reply) × HasReply replies i given × (reply_of i run ≡ Some given)
all_replied At start script run journal broken replies began now lanes s have idle i within =
    let asked = some_at script i within in
    let number = all_at (λ (q : ℕ × Request). (0 < q.0) × (q.0 ≤ length lanes)) script i asked.0 have asked.1 in
    let low = number.0 in
    let high = number.1 in
    let lane = some_at lanes (asked.0.0 - 1) (omega (arith, low, high)) in
    let none = all_at (λ (value : LaneValue _). value.queue ≡ []) lanes (asked.0.0 - 1) lane.0 idle lane.1 in
    let each = (s.lanes_at (asked.0.0 - 1) lane.0 lane.1).each i asked.0 asked.1 (omega (arith, low)) in
    by_case (subst (λ (ps : List ℕ). Contains ps i ⊎ ((r : Reply) × HasReply replies i r)) none each)
  where
    by_case : Contains [] i ⊎ ((r : Reply) × HasReply replies i r) → (given : Reply) × HasReply replies i given × (reply_of i run ≡ Some given)
    by_case (inl is) = absurd (none_waits i is)
    by_case (inr h) = (h.0, h.1, one_some (reply_of i run) (Some h.0) (sym (s.given.1 i within) ∙ h.1))
