-- A trace of turns grows with the run.
use Rattle.std.proofs.Common.{◌≡◌, ◌+◌, ℕ, zero, suc, Bool, true, false, List, [], ◌∷◌, ◌++◌, map, slice_set, All, Option, Some, None, refl, sym, ◌∙◌, ap, subst, arith, inl, inr}
use Rattle.std.specs.Prelude.{◌≢◌, ◌⊎◌, filter, not, slice_get, slice_index_or}
use Rattle.std.specs.Option.{option_map}
use Rattle.std.proofs.lemmas.List.{append-nil, append_assoc, map-append}
use Rattle.std.proofs.lemmas.List.Elements.{All-nil, All-push, filter-append}
use Rattle.std.proofs.lemmas.Option.{slice_get-map}
use Rattle.mdbox_base.specs.declared.replies.Reply.{Reply}
use Rattle.list_machine.specs.Run.{RunEvent, Run, and_then}
use Rattle.journal.specs.Journal.{IsFirstPart}
use Rattle.serving.specs.Lanes.{LaneValue, lane_behind, tail_of}
use Rattle.serving.specs.Turns.{IsTraceOf, IsTrueTurn, LaneTurn, MadeEvents, lanes_worked}
use Rattle.serving.proofs.LaneLemmas.{get_set_other, get_set_same, nat_cases, one_some}

-- ---- the turns that worked

-- the lanes of a run's events
abbrev event_lanes : Run → List ℕ
event_lanes run = map (λ (event : RunEvent). event.lane) run.events

worked_more : (turns last : List LaneTurn) → lanes_worked (turns ++ last) ≡ lanes_worked turns ++ lanes_worked last
worked_more turns last =
    ap (map (λ (t : LaneTurn). t.lane)) (filter-append (λ (t : LaneTurn). not t.idle) turns last) ∙ map-append (λ (t : LaneTurn). t.lane) (filter (λ (t : LaneTurn). not t.idle) turns) (filter (λ (t : LaneTurn). not t.idle) last)

events_more : (run : Run) (event : RunEvent) → event_lanes (and_then run event) ≡ event_lanes run ++ event.lane ∷ []
events_more run event = map-append (λ (e : RunEvent). e.lane) run.events (event ∷ [])

worked_on : (turns : List LaneTurn) (run : Run) (lane : ℕ) (event : RunEvent) → event.lane ≡ lane → lanes_worked turns ≡ event_lanes run → lanes_worked (turns ++ record { lane = lane; idle = false } ∷ []) ≡ event_lanes (and_then run event)
worked_on turns run lane event on is =
    (worked_more turns (record { lane = lane; idle = false } ∷ []) ∙ (ap (λ (ls : List ℕ). ls ++ lane ∷ []) is ∙ ap (λ (n : ℕ). event_lanes run ++ n ∷ []) (sym on))) ∙ sym (events_more run event)

worked_idle : (turns : List LaneTurn) (lane : ℕ) → lanes_worked (turns ++ record { lane = lane; idle = true } ∷ []) ≡ lanes_worked turns
worked_idle turns lane = worked_more turns (record { lane = lane; idle = true } ∷ []) ∙ append-nil (lanes_worked turns)

-- the first of the events, with what is behind it
first_part : (finished : Bool) (worked : List ℕ) (run : Run) → MadeEvents finished worked run → IsFirstPart worked (event_lanes run)
first_part false worked run is = ([], append-nil worked ∙ is)
first_part true worked run is = is

first_on : (worked : List ℕ) (run : Run) (event : RunEvent) → IsFirstPart worked (event_lanes run) → IsFirstPart worked (event_lanes (and_then run event))
first_on worked run event is = (is.0 ++ event.lane ∷ [], (sym (append_assoc worked is.0 (event.lane ∷ [])) ∙ ap (λ (ls : List ℕ). ls ++ event.lane ∷ []) is.1) ∙ sym (events_more run event))

-- ---- the idle ones

-- Those of a lane that has none left are so still, if it has none left then.
stays_true : {T : Type 0} → (lanes : List (LaneValue T)) (k : ℕ) (value now : LaneValue T) → slice_get lanes k ≡ Some value → (value.queue ≡ [] → now.queue ≡ []) → (turn : LaneTurn) → IsTrueTurn lanes turn → IsTrueTurn (slice_set lanes k now) turn
stays_true {T} lanes k value now there fewer turn is idle j other on at = by_case (nat_cases k j)
  where
    by_case : (k ≡ j) ⊎ (k ≢ j) → other.queue ≡ []
    by_case (inl e) =
        let same : now ≡ other = one_some now other (sym (get_set_same lanes k now value there) ∙ (ap (λ (n : ℕ). slice_get (slice_set lanes k now) n) e ∙ at)) in
        ap (λ (v : LaneValue T). v.queue) (sym same) ∙ fewer (is idle k value (on ∙ ap (λ (n : ℕ). n + 1) (sym e)) there)
    by_case (inr apart) = is idle j other on (sym (get_set_other lanes k j now apart) ∙ at)

pub all_true : {T : Type 0} → (lanes : List (LaneValue T)) (k : ℕ) (value now : LaneValue T) (turns : List LaneTurn) → slice_get lanes k ≡ Some value → (value.queue ≡ [] → now.queue ≡ []) → All (IsTrueTurn lanes) turns → All (IsTrueTurn (slice_set lanes k now)) turns
all_true lanes k value now turns there fewer all n d within = stays_true lanes k value now there fewer (slice_index_or turns n d) (all n d within)

-- a turn that worked tells nothing of its lane's requests
works_true : {T : Type 0} → (lanes : List (LaneValue T)) (lane : ℕ) → IsTrueTurn lanes (record { lane = lane; idle = false })
works_true lanes lane idle = absurd (let z : false ≡ true = idle in cc z)

idles_true : {T : Type 0} → (lanes : List (LaneValue T)) (k : ℕ) (value : LaneValue T) → slice_get lanes k ≡ Some value → value.queue ≡ [] → IsTrueTurn lanes (record { lane = k + 1; idle = true })
idles_true {T} lanes k value there none idle j other on at =
    let e : k ≡ j = (let h : k + 1 ≡ j + 1 = on in omega (arith, h)) in
    let same : value ≡ other = one_some value other (sym there ∙ (ap (λ (n : ℕ). slice_get lanes n) e ∙ at)) in
    ap (λ (v : LaneValue T). v.queue) (sym same) ∙ none

-- a lane that has no request left has none after an event
pub none_behind : {T : Type 0} → (ended : Option Reply) (task : T) (value : LaneValue T) → value.queue ≡ [] → (lane_behind ended task value).queue ≡ []
none_behind None task value none = none
none_behind (Some given) task value none = ap tail_of none

-- ---- traces

pub trace_begins : {T : Type 0} → (run : Run) (lanes : List (LaneValue T)) → run.events ≡ [] → IsTraceOf false [] run lanes
trace_begins {T} run lanes empty = record { worked = ap (map (λ (e : RunEvent). e.lane)) (sym empty); idle = All-nil (IsTrueTurn lanes) }

pub trace_on : {T : Type 0} → (turns : List LaneTurn) (run : Run) (lanes : List (LaneValue T)) (k : ℕ) (value now : LaneValue T) (event : RunEvent) → slice_get lanes k ≡ Some value → (value.queue ≡ [] → now.queue ≡ []) → event.lane ≡ k + 1 → IsTraceOf false turns run lanes
    → IsTraceOf false (turns ++ record { lane = k + 1; idle = false } ∷ []) (and_then run event) (slice_set lanes k now)
trace_on turns run lanes k value now event there fewer on t = record {
  worked = worked_on turns run (k + 1) event on t.worked;
  idle = All-push (IsTrueTurn (slice_set lanes k now)) turns (record { lane = k + 1; idle = false }) (all_true lanes k value now turns there fewer t.idle) (works_true (slice_set lanes k now) (k + 1));
}

pub trace_finishing : {T : Type 0} → (finished : Bool) (turns : List LaneTurn) (run : Run) (lanes : List (LaneValue T)) (k : ℕ) (value now : LaneValue T) (event : RunEvent) → slice_get lanes k ≡ Some value → (value.queue ≡ [] → now.queue ≡ []) → IsTraceOf finished turns run lanes
    → IsTraceOf true turns (and_then run event) (slice_set lanes k now)
trace_finishing finished turns run lanes k value now event there fewer t = record {
  worked = first_on (lanes_worked turns) run event (first_part finished (lanes_worked turns) run t.worked);
  idle = all_true lanes k value now turns there fewer t.idle;
}

pub trace_idle : {T : Type 0} → (finished : Bool) (turns : List LaneTurn) (run : Run) (lanes : List (LaneValue T)) (k : ℕ) (value : LaneValue T) → slice_get lanes k ≡ Some value → value.queue ≡ [] → IsTraceOf finished turns run lanes → IsTraceOf finished (turns ++ record { lane = k + 1; idle = true } ∷ []) run lanes
trace_idle finished turns run lanes k value there none t = record {
  worked = subst (λ (worked : List ℕ). MadeEvents finished worked run) (sym (worked_idle turns (k + 1))) t.worked;
  idle = All-push (IsTrueTurn lanes) turns (record { lane = k + 1; idle = true }) t.idle (idles_true lanes k value there none);
}

-- ---- the n-th of them

pub turn_made : {T : Type 0} → (turns : List LaneTurn) (run : Run) (lanes : List (LaneValue T)) (n : ℕ) (event : RunEvent) → IsTraceOf false turns run lanes → slice_get run.events n ≡ Some event → slice_get (lanes_worked turns) n ≡ Some event.lane
turn_made turns run lanes n event t there =
    (ap (λ (ls : List ℕ). slice_get ls n) t.worked ∙ slice_get-map (λ (e : RunEvent). e.lane) run.events n) ∙ ap (λ (o : Option RunEvent). option_map (λ (e : RunEvent). e.lane) o) there

get_front : (xs ys : List ℕ) (n x : ℕ) → slice_get xs n ≡ Some x → slice_get (xs ++ ys) n ≡ Some x
get_front [] ys n x there = absurd (let z : None ≡ Some x = there in cc z)
get_front (a ∷ more) ys zero x there = there
get_front (a ∷ more) ys (suc n) x there = get_front more ys n x there

of_lane : (events : List RunEvent) (n lane : ℕ) → slice_get (map (λ (e : RunEvent). e.lane) events) n ≡ Some lane → (event : RunEvent) × (slice_get events n ≡ Some event) × (event.lane ≡ lane)
of_lane [] n lane there = absurd (let z : None ≡ Some lane = there in cc z)
of_lane (event ∷ more) zero lane there = (event, refl, one_some event.lane lane there)
of_lane (event ∷ more) (suc n) lane there = of_lane more n lane there

pub turn_of_event : {T : Type 0} → (finished : Bool) (turns : List LaneTurn) (run : Run) (lanes : List (LaneValue T)) (n lane : ℕ) → IsTraceOf finished turns run lanes → slice_get (lanes_worked turns) n ≡ Some lane → (event : RunEvent) × (slice_get run.events n ≡ Some event) × (event.lane ≡ lane)
turn_of_event finished turns run lanes n lane t there =
    let part = first_part finished (lanes_worked turns) run t.worked in
    of_lane run.events n lane (ap (λ (ls : List ℕ). slice_get ls n) (sym part.1) ∙ get_front (lanes_worked turns) part.0 n lane there)
