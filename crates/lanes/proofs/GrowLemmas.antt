-- A script that lanes serve, with a request more.
use Rattle.std.proofs.Common.{◌≡◌, ◌<◌, ◌≤◌, ◌+◌, ◌==◌, ℕ, zero, suc, Bool, false, cond, List, [], ◌∷◌, ◌++◌, map, slice_set, Option, Some, None, refl, sym, ◌∙◌, ap, subst, arith, inl, inr}
use Rattle.std.specs.Prelude.{◌≢◌, ◌⊎◌, All, Contains, count_by, drop, filter, length, slice_get}
use Rattle.std.proofs.lemmas.Grind.{common_steps}
use Rattle.std.proofs.lemmas.List.{length-append}
use Rattle.std.proofs.lemmas.List.Elements.{All-cons, All-head, All-nil, All-tail, Contains-append_left, Contains-push}
use Rattle.std.proofs.lemmas.List.Sums.{sum_by-cons}
use Rattle.std.proofs.lemmas.Option.{slice_get_within}
use Rattle.mdbox_base.specs.declared.replies.Refusal.TheVariants as refusal
use Rattle.mdbox_base.specs.declared.replies.Reply.{Reply}
use Rattle.mdbox_base.specs.declared.replies.Reply.TheVariants as reply
use Rattle.mdbox_base.specs.declared.requests.Request.{Request}
use Rattle.model_lists.specs.Lists.{Lists}
use Rattle.list_machine.specs.Run.{Run, RunEvent, own_events, reply_of, first_in}
use Rattle.journal.proofs.ReachedLemmas.{get_last}
use Rattle.journal.specs.Events.{Around}
use Rattle.journal.specs.Journal.{AreReplied, AreSteps, Broken, HasReply, HaveCauses, IsFirstPart, IsHalted, IsLegal, JournalStep, LacksOrGoesOn, Requests, RoseBy, StandInOrder, WouldHaveBeen, as_if, halves_of, is_read_fault, left_by, steps_of}
use Rattle.journal.specs.Makes.{AreNextEvents, AreReplies, AreTold, WouldDo}
use Rattle.journal.proofs.JournalLemmas.{get_more}
use Rattle.task_steps.specs.Serves.{Follows, IsTurn}
use Rattle.task_steps.specs.Step.{Seen}
use Rattle.serving.specs.Lanes.{AreBehind, IsInTurn, LaneAt, LaneStands, LaneValue, said_by}
use Rattle.serving.specs.Serving.{IsServing}
use Rattle.serving.proofs.LaneLemmas.{get_set_other, get_set_same, nat_cases, one_some}
use Rattle.lanes.specs.Asked.{asked_behind}

-- ---- one more at the end of a list

pub old_or_last : {X : Type 0} → (xs : List X) (x : X) (i : ℕ) (y : X) → slice_get (xs ++ x ∷ []) i ≡ Some y → (slice_get xs i ≡ Some y) ⊎ ((i ≡ length xs) × (x ≡ y))
old_or_last [] x zero y is = inr (refl, one_some x y is)
old_or_last [] x (suc i) y is = absurd (let z : None ≡ Some y = is in cc z)
old_or_last (a ∷ more) x zero y is = inl is
old_or_last (a ∷ more) x (suc i) y is = elim (old_or_last more x i y is) [ inl old ↦ inl old | inr r ↦ inr (let last = r.0 in omega (arith, last), r.1) ]

-- one that is there before the end is an old one
pub old_there : {X : Type 0} → (xs : List X) (x : X) (i : ℕ) (y : X) → i < length xs → slice_get (xs ++ x ∷ []) i ≡ Some y → slice_get xs i ≡ Some y
old_there xs x i y less is = elim (old_or_last xs x i y is) [ inl old ↦ old | inr r ↦ let last = r.0 in absurd (omega (arith, less, last)) ]

-- ---- replies

pub old_reply : (replies : List (Option Reply)) (i : ℕ) (given : Reply) → HasReply (replies ++ None ∷ []) i given → HasReply replies i given
old_reply replies i given has = elim (old_or_last replies None i (Some given) has) [ inl old ↦ old | inr r ↦ let same : None ≡ Some given = r.1 in absurd (cc same) ]

as_many_faults : (replies : List (Option Reply)) → count_by is_read_fault (replies ++ None ∷ []) ≡ count_by is_read_fault replies
as_many_faults [] = refl
as_many_faults (given ∷ more) =
    let h = as_many_faults more in
    let s = sum_by-cons (λ (r : Option Reply). cond (is_read_fault r) 1 0) given (more ++ None ∷ []) in
    let t = sum_by-cons (λ (r : Option Reply). cond (is_read_fault r) 1 0) given more in
    omega (arith, h, s, t)

module _ (start : Lists) (script : Requests) (run : Run) (journal : List JournalStep) (replies : List (Option Reply)) (q : ℕ × Request) where
  abbrev pub grown : Requests
  grown = script ++ q ∷ []

  abbrev pub told_none : List (Option Reply)
  told_none = replies ++ None ∷ []

  -- ---- no event and no step is of the new request

  abbrev pub AreOld : List RunEvent → Type 0
  AreOld events = (n : ℕ) (event : RunEvent) → slice_get events n ≡ Some event → event.request < length script

  pub events_old : (around after : ℕ → Around) → AreNextEvents around after script start run journal → AreOld run.events
  events_old around after next n event there = let e = next n event there in slice_get_within script event.request e.asked e.request_is

  none_of : (events : List RunEvent) (place : ℕ) → ((n : ℕ) (event : RunEvent) → slice_get events n ≡ Some event → event.request < place) → filter (λ (e : RunEvent). e.request == place) events ≡ []
  none_of [] place old = refl
  none_of (event ∷ more) place old =
      let less = old zero event refl in
      let apart : (event.request == place) ≡ false = grind (arith, common_steps, less) in
      ap (λ (b : Bool). cond b (event ∷ filter (λ (e : RunEvent). e.request == place) more) (filter (λ (e : RunEvent). e.request == place) more)) apart ∙ none_of more place (λ n e there. old (suc n) e there)

  pub no_events : AreOld run.events → own_events (length script) run ≡ []
  no_events old = none_of run.events (length script) old

  pub steps_old : (lists : Lists) (steps : List JournalStep) → AreSteps run script lists steps → All (λ step. step.request < length script) steps
  steps_old lists [] are = All-nil (λ (step : JournalStep). step.request < length script)
  steps_old lists (step ∷ steps) are = All-cons (λ (s : JournalStep). s.request < length script) step steps (slice_get_within script step.request are.0.asked are.0.request_is) (steps_old step.left steps are.1)

  pub none_stepped : (steps : List JournalStep) → All (λ step. step.request < length script) steps → steps_of (length script) steps ≡ []
  none_stepped [] old = refl
  none_stepped (step ∷ steps) old =
      let less = All-head (λ (s : JournalStep). s.request < length script) step steps old in
      let apart : (step.request == length script) ≡ false = grind (arith, common_steps, less) in
      ap (λ (b : Bool). cond b (step ∷ filter (λ (s : JournalStep). s.request == length script) steps) (filter (λ (s : JournalStep). s.request == length script) steps)) apart ∙ none_stepped steps (All-tail (λ (s : JournalStep). s.request < length script) step steps old)

  -- ---- the journal

  steps_grow : (r : Run) (lists : Lists) (steps : List JournalStep) → AreSteps r script lists steps → AreSteps r grown lists steps
  steps_grow r lists [] are = are
  steps_grow r lists (step ∷ steps) are = (
    record {
      asked = are.0.asked;
      request_is = get_more script (q ∷ []) step.request are.0.asked are.0.request_is;
      lane_is = are.0.lane_is;
      event = are.0.event;
      event_is = are.0.event_is;
      own_request = are.0.own_request;
      own_lane = are.0.own_lane;
      half_is = are.0.half_is;
      says = are.0.says;
      answers = are.0.answers;
    },
    steps_grow r step.left steps are.1,
  )

  order_grows : steps_of (length script) journal ≡ [] → StandInOrder script journal → StandInOrder grown journal
  order_grows none order = record { events = order.events; halves = λ i asked there. by_case i asked (old_or_last script q i asked there); lanes = order.lanes }
    where
      by_case : (i : ℕ) (asked : ℕ × Request) → (slice_get script i ≡ Some asked) ⊎ ((i ≡ length script) × (q ≡ asked)) → IsFirstPart (map (λ step. step.half) (steps_of i journal)) (halves_of asked.1)
      by_case i asked (inl old) = order.halves i asked old
      by_case i asked (inr (last, same)) = (halves_of asked.1, ap (λ (steps : List JournalStep). map (λ (s : JournalStep). s.half) steps ++ halves_of asked.1) (ap (λ (n : ℕ). steps_of n journal) last ∙ none))

  replied_grows : length replies ≡ length script → AreReplied script journal replies → AreReplied grown journal told_none
  replied_grows many are i asked given there has =
      let old = old_reply replies i given has in
      let less = slice_get_within replies i (Some given) old in
      are i asked given (old_there script q i asked (omega (arith, less, many)) there) old

  lacks_grows : (i : ℕ) → LacksOrGoesOn run script journal i → LacksOrGoesOn run grown journal i
  lacks_grows i (inl (asked, there, lacks)) = inl (asked, get_more script (q ∷ []) i asked there, lacks)
  lacks_grows i (inr more) = inr more

  causes_grow : length replies ≡ length script → steps_of (length script) journal ≡ [] → (old new : _) → HaveCauses run script journal replies old new → HaveCauses run grown journal told_none old new
  causes_grow many none old new causes = record {
    reads = subst (λ (n : ℕ). RoseBy n old.reads new.reads) (sym (as_many_faults replies)) causes.reads;
    changes = λ i has. causes.changes i (old_reply replies i (reply.Refused refusal.Stopped) has);
    unfinished = λ i has. lacks_grows i (causes.unfinished i (old_reply replies i (reply.Refused refusal.Stopped) has));
    later = λ i j first second has less at_i at_j same. by_case i j first second (old_reply replies i (reply.Refused refusal.Stopped) has) less at_i (old_or_last script q j second at_j) same;
  }
    where
      halted_old : (j : ℕ) → IsHalted journal replies j → IsHalted journal told_none j
      halted_old j halted = (halted.0, λ given has. halted.1 given (old_reply replies j given has))

      by_case : (i j : ℕ) (first second : ℕ × Request) → HasReply replies i (reply.Refused refusal.Stopped) → i < j → slice_get grown i ≡ Some first → (slice_get script j ≡ Some second) ⊎ ((j ≡ length script) × (q ≡ second)) → first.0 ≡ second.0 → IsHalted journal told_none j
      by_case i j first second has less at_i (inl at_j) same =
          let within = slice_get_within replies i (Some (reply.Refused refusal.Stopped)) has in
          halted_old j (causes.later i j first second has less (old_there script q i first (omega (arith, within, many)) at_i) at_j same)
      by_case i j first second has less at_i (inr (last, is)) same = (
        ap (λ (n : ℕ). steps_of n journal) last ∙ none,
        λ given told. absurd (let within = slice_get_within replies j (Some given) (old_reply replies j given told) in omega (arith, within, last, many)),
      )

  legal_grows : length replies ≡ length script → (old new : _) → IsLegal start script run journal replies old new → IsLegal start grown run journal told_none old new
  legal_grows many old new legal =
      let none = none_stepped journal (steps_old start journal legal.steps) in record {
        moments = legal.moments;
        steps = steps_grow run start journal legal.steps;
        order = order_grows none legal.order;
        replied = replied_grows many legal.replied;
        causes = causes_grow many none old new legal.causes;
      }

  -- ---- what the events did

  follows_grows : Follows start script run journal → Follows start grown run journal
  follows_grows f = record {
    around = f.around;
    after = f.after;
    next = λ n event there. let e = f.next n event there in record {
      asked = e.asked;
      request_is = get_more script (q ∷ []) event.request e.asked e.request_is;
      lane_is = e.lane_is;
      earlier = λ i other less at same. e.earlier i other less (old_there script q i other (let within = slice_get_within script event.request e.asked e.request_is in omega (arith, less, within)) at) same;
      unanswered = e.unanswered;
      is_event = e.is_event;
    };
    found = λ n event asked there at. f.found n event asked there (old_there script q event.request asked (events_old f.around f.after f.next n event there) at);
  }

  told_grows : AreOld run.events → AreTold script run journal → AreTold grown run journal
  told_grows old told n event asked there at = told n event asked there (old_there script q event.request asked (old n event there) at)

  given_grows : AreOld run.events → AreReplies script run replies → AreReplies grown run told_none
  given_grows old given = (
    (length-append replies (None ∷ []) ∙ ap (λ (n : ℕ). n + 1) given.0) ∙ sym (length-append script (q ∷ [])),
    λ i less. by_case i (less_or_last i less),
  )
    where
      less_or_last : (i : ℕ) → i < length grown → (i < length script) ⊎ (i ≡ length script)
      less_or_last i less = elim (nat_cases i (length script)) [ inl same ↦ inr same | inr apart ↦ inl (let many = length-append script (q ∷ []) in omega (arith, less, many, apart)) ]

      by_case : (i : ℕ) → (i < length script) ⊎ (i ≡ length script) → slice_get told_none i ≡ Some (reply_of i run)
      by_case i (inl less) = get_more replies (None ∷ []) i (reply_of i run) (given.1 i less)
      by_case i (inr last) =
          let here : slice_get told_none (length script) ≡ Some None = ap (slice_get told_none) (sym given.0) ∙ get_last replies None in
          let none : reply_of (length script) run ≡ None = ap (first_in (λ (e : RunEvent). e.reply)) (no_events old) in
          subst (λ (n : ℕ). slice_get told_none n ≡ Some (reply_of n run)) (sym last) (here ∙ ap (λ (o : Option Reply). Some o) (sym none))

  would_old : (failed would : List RunEvent) → WouldHaveBeen failed would → AreOld failed → AreOld would
  would_old failed [] been old n event there = absurd (let z : None ≡ Some event = there in cc z)
  would_old [] (one ∷ rest) been old n event there = absurd been
  would_old (was ∷ failed) (one ∷ rest) been old zero event there =
      let less = old zero was refl in
      let same = been.2 in
      let is : one ≡ event = one_some one event there in
      subst (λ (e : RunEvent). e.request < length script) is (omega (arith, less, same))
  would_old (was ∷ failed) (one ∷ rest) been old (suc n) event there = would_old failed rest been.4 (λ m e at. old (suc m) e at) n event there

  dropped_old : (n : ℕ) (events : List RunEvent) → AreOld events → AreOld (drop n events)
  dropped_old zero events old = old
  dropped_old (suc n) [] old = old
  dropped_old (suc n) (event ∷ more) old = dropped_old n more (λ m e at. old (suc m) e at)

  would_grows : (broken : Broken) → AreOld broken.events → WouldDo script start run journal broken → WouldDo grown start run journal broken
  would_grows broken old would n event asked around there at unrefused = would n event asked around there (old_there script q event.request asked (old n event there) at) unrefused

  -- ---- the lanes

  behind_grows : (lane place : ℕ) (rest : List ℕ) → AreBehind script run lane place rest → AreBehind grown run lane place rest
  behind_grows lane place [] behind = behind
  behind_grows lane place (next ∷ rest) behind = (behind.0, (behind.1.0, get_more script (q ∷ []) next (lane, behind.1.0) behind.1.1), behind.2, behind_grows lane next rest behind.3)

  behind_last : (lane place : ℕ) (rest : List ℕ) (asked : Request) → q ≡ (lane, asked) → own_events (length script) run ≡ [] → place < length script → AreBehind script run lane place rest → AreBehind grown run lane place (rest ++ length script ∷ [])
  behind_last lane place [] asked is none less behind = (less, (asked, get_last script q ∙ ap (λ (x : ℕ × Request). Some x) is), none, tt)
  behind_last lane place (next ∷ rest) asked is none less behind =
      (behind.0, (behind.1.0, get_more script (q ∷ []) next (lane, behind.1.0) behind.1.1), behind.2, behind_last lane next rest asked is none (slice_get_within script next (lane, behind.1.0) behind.1.1) behind.3)

  turn_grows : (lane place : ℕ) (asked : Request) → length replies ≡ length script → steps_of (length script) journal ≡ [] → IsTurn script journal replies lane place asked → IsTurn grown journal told_none lane place asked
  turn_grows lane place asked many none turn = record {
    asked = get_more script (q ∷ []) place (lane, asked) turn.asked;
    unanswered = get_more replies (None ∷ []) place None turn.unanswered;
    first = turn.first;
    later = λ j other less at own. by_case j other less (old_or_last script q j other at) own;
  }
    where
      by_case : (j : ℕ) (other : ℕ × Request) → place < j → (slice_get script j ≡ Some other) ⊎ ((j ≡ length script) × (q ≡ other)) → other.0 ≡ lane → (steps_of j journal ≡ []) × (slice_get told_none j ≡ Some None)
      by_case j other less (inl old) own = let l = turn.later j other less old own in (l.0, get_more replies (None ∷ []) j None l.1)
      by_case j other less (inr (last, is)) own = (
        ap (λ (n : ℕ). steps_of n journal) last ∙ none,
        ap (slice_get told_none) (last ∙ sym many) ∙ get_last replies None,
      )

  module _ {T : Type 0} (At : T → Request → Run → ℕ → List Reply → Type 0) where
    -- another lane
    other_lane : (lane : ℕ) (value : LaneValue T) → q.0 ≢ lane → length replies ≡ length script → steps_of (length script) journal ≡ [] → LaneAt At script run journal replies lane value → LaneAt At grown run journal told_none lane value
    other_lane lane value apart many none at = record {
      in_turn = by_queue value.queue at.in_turn;
      each = λ i asked there own. by_case i asked (old_or_last script q i asked there) own;
    }
      where
        by_queue : (queue : List ℕ) → IsInTurn At script run journal replies lane value queue → IsInTurn At grown run journal told_none lane value queue
        by_queue [] turn = turn
        by_queue (place ∷ rest) turn = ((turn.0.0, turn_grows lane place turn.0.0 many none turn.0.1, turn.0.2), behind_grows lane place rest turn.1)

        told : (i : ℕ) → Contains value.queue i ⊎ ((given : Reply) × HasReply replies i given) → Contains value.queue i ⊎ ((given : Reply) × HasReply told_none i given)
        told i (inl waits) = inl waits
        told i (inr (given, has)) = inr (given, get_more replies (None ∷ []) i (Some given) has)

        by_case : (i : ℕ) (asked : ℕ × Request) → (slice_get script i ≡ Some asked) ⊎ ((i ≡ length script) × (q ≡ asked)) → asked.0 ≡ lane → Contains value.queue i ⊎ ((given : Reply) × HasReply told_none i given)
        by_case i asked (inl old) own = told i (at.each i asked old own)
        by_case i asked (inr (last, is)) own = absurd (apart (ap (λ (x : ℕ × Request). x.0) is ∙ own))

    -- its own
    own_lane : (lane : ℕ) (value : LaneValue T) (asked : Request) → q ≡ (lane, asked) → length replies ≡ length script → own_events (length script) run ≡ [] → All (λ step. step.request < length script) journal → LaneAt At script run journal replies lane value
        → LaneAt At grown run journal told_none lane (asked_behind (length script) value)
    own_lane lane value asked is many unbegun steps at = record {
      in_turn = by_queue value.queue at.in_turn;
      each = λ i found there own. by_case i found (old_or_last script q i found there) own;
    }
      where
        none : steps_of (length script) journal ≡ []
        none = none_stepped journal steps

        before_it : (steps : List JournalStep) → All (λ step. step.request < length script) steps → All (λ s. s.lane ≡ lane → s.request ≤ length script) steps
        before_it [] old = All-nil (λ (s : JournalStep). s.lane ≡ lane → s.request ≤ length script)
        before_it (step ∷ rest) old = All-cons (λ (s : JournalStep). s.lane ≡ lane → s.request ≤ length script) step rest (λ own. let less = All-head (λ (s : JournalStep). s.request < length script) step rest old in omega (arith, less)) (before_it rest (All-tail (λ (s : JournalStep). s.request < length script) step rest old))

        first : IsTurn grown journal told_none lane (length script) asked
        first = record {
          asked = get_last script q ∙ ap (λ (x : ℕ × Request). Some x) is;
          unanswered = ap (slice_get told_none) (sym many) ∙ get_last replies None;
          first = before_it journal steps;
          later = λ j other less there own. absurd (let within = slice_get_within grown j other there in let long = length-append script (q ∷ []) in omega (arith, less, within, long));
        }

        by_queue : (queue : List ℕ) → IsInTurn At script run journal replies lane value queue → IsInTurn At grown run journal told_none lane (asked_behind (length script) value) (queue ++ length script ∷ [])
        by_queue [] turn = ((asked, first, subst (λ (o : Option T). LaneStands At o asked run (length script) (said_by journal (length script))) (sym turn) (unbegun, ap (map (λ (s : JournalStep). s.answer)) none)), tt)
        by_queue (place ∷ rest) turn = (
          (turn.0.0, turn_grows lane place turn.0.0 many none turn.0.1, turn.0.2),
          behind_last lane place rest asked is unbegun (slice_get_within script place (lane, turn.0.0) turn.0.1.asked) turn.1,
        )

        told : (i : ℕ) → Contains value.queue i ⊎ ((given : Reply) × HasReply replies i given) → Contains (value.queue ++ length script ∷ []) i ⊎ ((given : Reply) × HasReply told_none i given)
        told i (inl waits) = inl (Contains-append_left value.queue (length script ∷ []) i waits)
        told i (inr (given, has)) = inr (given, get_more replies (None ∷ []) i (Some given) has)

        by_case : (i : ℕ) (found : ℕ × Request) → (slice_get script i ≡ Some found) ⊎ ((i ≡ length script) × (q ≡ found)) → found.0 ≡ lane → Contains (value.queue ++ length script ∷ []) i ⊎ ((given : Reply) × HasReply told_none i given)
        by_case i found (inl old) own = told i (at.each i found old own)
        by_case i found (inr (last, same)) own = inl (subst (λ (n : ℕ). Contains (value.queue ++ length script ∷ []) n) (sym last) (Contains-push value.queue (length script)))

-- ---- all

pub serving_grows : {T : Type 0} → (At : T → Request → Run → ℕ → List Reply → Type 0) (start : Lists) (script : Requests) (run : Run) (journal : List JournalStep) (broken : Broken) (replies : List (Option Reply)) (began now : Seen) (lanes : List (LaneValue T)) (k : ℕ) (value : LaneValue T) (asked : Request)
    → slice_get lanes k ≡ Some value → IsServing At start script run journal broken replies began now lanes
    → IsServing At start (script ++ (k + 1, asked) ∷ []) run journal broken (replies ++ None ∷ []) began now (slice_set lanes k (asked_behind (length script) value))
serving_grows {T} At start script run journal broken replies began now lanes k value asked there s = record {
  serves = record {
    legal = legal_grows start script run journal replies q many began.faults now.faults s.serves.legal;
    begins = s.serves.begins;
    come = s.serves.come;
    shown = s.serves.shown;
    within = s.serves.within;
    broken_is = steps_grow start script run journal replies q (as_if run broken) (left_by start journal) broken.steps s.serves.broken_is;
    of_failure = s.serves.of_failure;
    crash = s.serves.crash;
    timely = s.serves.timely;
    unbroken = s.serves.unbroken;
    stopped_by = s.serves.stopped_by;
    unrefused = s.serves.unrefused;
    settled = s.serves.settled;
    firm = s.serves.firm;
    mail = s.serves.mail;
    reads = s.serves.reads;
    changes = s.serves.changes;
    fell = s.serves.fell;
    halted = λ i has. s.serves.halted i (old_reply replies i (reply.Refused refusal.Stopped) has);
  };
  follows = follows_grows start script run journal replies q s.follows;
  told = told_grows start script run journal replies q old s.told;
  given = given_grows start script run journal replies q old s.given;
  would = would_grows start script run journal replies q broken (would_old start script run journal replies q (drop broken.place run.events) broken.events s.serves.of_failure.events (dropped_old start script run journal replies q broken.place run.events old)) s.would;
  stays_stopped = s.stays_stopped;
  replied_stopped = λ stopped. let r = s.replied_stopped stopped in (r.0, get_more replies (None ∷ []) r.0 (Some (reply.Refused refusal.Stopped)) r.1);
  lanes_at = λ j other at. by_case j other at (nat_cases k j);
}
  where
    q : ℕ × Request
    q = (k + 1, asked)

    many : length replies ≡ length script
    many = s.given.0

    old : (n : ℕ) (event : RunEvent) → slice_get run.events n ≡ Some event → event.request < length script
    old = events_old start script run journal replies q s.follows.around s.follows.after s.follows.next

    steps : All (λ step. step.request < length script) journal
    steps = steps_old start script run journal replies q start journal s.serves.legal.steps

    behind : LaneValue T
    behind = asked_behind (length script) value

    by_case : (j : ℕ) (other : LaneValue T) → slice_get (slice_set lanes k behind) j ≡ Some other → (k ≡ j) ⊎ (k ≢ j) → LaneAt At (script ++ q ∷ []) run journal (replies ++ None ∷ []) (j + 1) other
    by_case j other at (inl same) =
        let is : behind ≡ other = one_some behind other (sym (get_set_same lanes k behind value there) ∙ (ap (λ (n : ℕ). slice_get (slice_set lanes k behind) n) same ∙ at)) in
        subst (λ (n : ℕ). LaneAt At (script ++ q ∷ []) run journal (replies ++ None ∷ []) (n + 1) other) same
        (subst (λ (v : LaneValue T). LaneAt At (script ++ q ∷ []) run journal (replies ++ None ∷ []) (k + 1) v) is
        (own_lane start script run journal replies q At (k + 1) value asked refl many (no_events start script run journal replies q old) steps (s.lanes_at k value there)))
    by_case j other at (inr apart) =
        other_lane start script run journal replies q At (j + 1) other (λ e. apart (let h : k + 1 ≡ j + 1 = e in omega (arith, h))) many (none_stepped start script run journal replies q journal steps)
        (s.lanes_at j other (sym (get_set_other lanes k j behind apart) ∙ at))
