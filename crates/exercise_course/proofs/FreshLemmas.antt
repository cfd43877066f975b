-- The GUIDs that a run of a made script gives are of new records, of which few counts are kept.
use Rattle.exercise_course.proofs.Common.{◌≡◌, ◌≤◌, ◌<◌, ◌+◌, ◌/◌, ◌%◌, ◌==◌, ◌⊎◌, ℕ, zero, suc, Bool, true, false, All, List, [], ◌∷◌, ◌++◌, flat_map, length, slice_get, sum_by, take, Option, Some, None, refl, sym, ◌∙◌, ap, arith, subst, inl, inr, eq-eqb, eqb-true, append-nil}
use Rattle.exercise_course.proofs.Common.{All-head, sum_by_push, slice_get_within, Uid, Request, Refusal, Lists, MapFits, MapRecord, count_of, EventPart, First, StoresRecord, Last, GivesBack, StartsOver, Run, RunEvent, and_then, before, first_in, map_of, own_events}
use Rattle.exercise_course.proofs.Common.{JournalStep, Around, DidNothing, DidPart, IsEvent, IsNextEvent, AreNextEvents, lists_before, own_more, own_other, below, made_request}
use Rattle.std.proofs.lemmas.Grind.{flat_map-append}
use Rattle.mdbox_base.specs.declared.requests.Request.TheVariants as request
use Rattle.list_machine.specs.Run.{guid_added}
use Rattle.journal.specs.Events.{guid_given}
use Rattle.exercise_course.proofs.BalanceLemmas.{counted_to, raised_by}
use Rattle.exercise_course.proofs.CountingLemmas.{AreStraight, GoesStraight, IsCountable, IsShort, begun_own, did_counts, nothing_counts, up_at, up_by}
use Rattle.exercise_course.proofs.DeliveredLemmas.{event_at, round_simple, sum_by_requests, up_to}
use Rattle.exercise_course.proofs.GrownLemmas.{Grown, IsNew, new_count, run_grown, unseen_new}
use Rattle.exercise_course.proofs.HalfLemmas.{each_less, raises_few}
use Rattle.exercise_course.proofs.LegalLemmas.{asked_is, script_length, script_of}
use Rattle.exercise_course.proofs.StoringLemmas.{GoesBehind, IsSimple, delivery_next, last_of, last_push, next_is, stored_at, stored_by, stored_last}

-- ---- the events of one request

abbrev guid_of : List RunEvent → Option (List ℕ)
guid_of own = first_in (λ guid. Some guid) (flat_map (λ e. e.given) own)

begun : Option RunEvent → ℕ
begun None = 0
begun (Some e) = 1

-- What they have raised; and the GUID that a delivery gave is new, once its record is stored.
OwnUp : List MapRecord → Request → List RunEvent → Type 0
OwnUp first (request.Deliver name time octets) own = (sum_by up_by own ≡ stored_last (last_of own)) × (stored_last (last_of own) ≡ 1 → (guid : List ℕ) → guid_of own ≡ Some guid → IsNew first guid)
OwnUp first (request.Copy name uid target) own = sum_by up_by own ≤ begun (last_of own)
OwnUp first q own = sum_by up_by own ≡ 0

up_none : (first : List MapRecord) (q : Request) → OwnUp first q []
unfolding OwnUp stored_last last_of begun
up_none first (request.Deliver name time octets) = (refl, λ one. absurd (let k : ◌≡◌ {A = ℕ} 0 1 = one in omega (arith, k)))
up_none first (request.Copy name uid target) = omega arith
up_none first q = refl

same_guid : (own : List RunEvent) (event : RunEvent) → event.given ≡ [] → guid_of (own ++ event ∷ []) ≡ guid_of own
same_guid own event none =
    ap (first_in (λ (guid : List ℕ). Some guid)) (flat_map-append (λ (e : RunEvent). e.given) own (event ∷ []) ∙ ap (λ (l : List (List ℕ)). flat_map (λ (e : RunEvent). e.given) own ++ (l ++ [])) none ∙ append-nil (flat_map (λ (e : RunEvent). e.given) own))

nothing_given : (event : RunEvent) → DidNothing event → event.given ≡ []
nothing_given event d = ap (λ (e : RunEvent). e.given) d

-- an event behind which the record is stored gives no GUID
gives_none : (around : Around) (run : Run) (lists : Lists) (name : List ℕ) (time : ℕ) (octets : List ℕ) (event : RunEvent) (part : EventPart) → DidPart around run lists (request.Deliver name time octets) event part → stored_by part None ≡ 1 → event.given ≡ []
unfolding stored_by
gives_none around run lists name time octets event StoresRecord d one = ap (λ (e : RunEvent). e.given) d.3
gives_none around run lists name time octets event Last d one = ap (λ (e : RunEvent). e.given) d.2.4
gives_none around run lists name time octets event GivesBack d one = ap (λ (e : RunEvent). e.given) d.2
gives_none around run lists name time octets event part d one = absurd (let k : ◌≡◌ {A = ℕ} 0 1 = one in omega (arith, k))

-- the record that is stored has a GUID that no record had
stores_new : (first : List MapRecord) (most : ℕ) (around : Around) (run : Run) (lists : Lists) (name : List ℕ) (time : ℕ) (octets : List ℕ) (event : RunEvent) → Grown first most (map_of run).records → All (MapFits (map_of run)) event.map_entries
    → DidPart around run lists (request.Deliver name time octets) event StoresRecord → (guid : List ℕ) → guid_given event.request run ≡ Some guid → IsNew first guid
stores_new first most around run lists name time octets event g fits d guid is =
    let entries = ap (λ (e : RunEvent). e.map_entries) d.3 in
    let fit = All-head (MapFits (map_of run)) _ [] (subst (All (MapFits (map_of run))) entries fits) in
    let same : d.0 ≡ guid = (let k : Some d.0 ≡ Some guid = sym d.2 ∙ is in cc k) in
    subst (IsNew first) same (unseen_new first (map_of run).records most d.0 g fit.guid_new)

-- a copy that has begun raises nothing more
copy_behind : (name target : List ℕ) (uid : Uid) (own : List RunEvent) (e : RunEvent) (p : EventPart) → last_of own ≡ Some e → GoesStraight (request.Copy name uid target) own p → up_at (request.Copy name uid target) p ≡ 0
unfolding up_at
copy_behind name target uid own e First last g = absurd (begun_own own e last g)
copy_behind name target uid own e Last last g = refl
copy_behind name target uid own e GivesBack last g = refl
copy_behind name target uid own e part last g = absurd g

-- what an event raises
up_now : Request → EventPart → Option Refusal → ℕ
up_now q part None = up_at q part
up_now q part (Some why) = 0

event_up : (around after : Around) (run : Run) (lists : Lists) (q : Request) (event : RunEvent) → IsSimple q → IsEvent around after run lists q event → (up_by event ≡ up_now q event.part event.refused) × IsShort event.map_entries
unfolding up_now
event_up around after run lists q event s ev = by_refused event.refused refl
  where
    by_refused : (r : Option Refusal) → event.refused ≡ r → (up_by event ≡ up_now q event.part r) × IsShort event.map_entries
    by_refused None is = let c = did_counts around run lists q event event.part s (ev.did is) in (c.up_is, c.short)
    by_refused (Some why) is = let c = nothing_counts event (ev.undone why is).0 in (c.up_is, c.short)

delivery_up : (name : List ℕ) (time : ℕ) (octets : List ℕ) (part : EventPart) (r : Option Refusal) → up_now (request.Deliver name time octets) part r ≡ stored_at part r
unfolding up_now up_at stored_at
delivery_up name time octets StoresRecord None = refl
delivery_up name time octets part None = refl
delivery_up name time octets StoresRecord (Some why) = refl
delivery_up name time octets part (Some why) = refl

-- the record is stored with this event, or was before
stored_when : (before : ℕ) (part : EventPart) (r : Option Refusal) → before + stored_at part r ≡ stored_by part r → stored_by part r ≡ 1 → ((part ≡ StoresRecord) × (r ≡ None)) ⊎ (before ≡ 1)
unfolding stored_at stored_by
stored_when before StoresRecord None b one = inl (refl, refl)
stored_when before StoresRecord (Some why) b one = absurd (let k : ◌≡◌ {A = ℕ} 0 1 = one in omega (arith, k))
stored_when before Last r b one = inr (let k : before + 0 ≡ 1 = b in omega (arith, k))
stored_when before GivesBack r b one = inr (let k : before + 0 ≡ 1 = b in omega (arith, k))
stored_when before StartsOver (Some why) b one = inr (let k : before + 0 ≡ 1 = b in omega (arith, k))
stored_when before part r b one = absurd (let k : ◌≡◌ {A = ℕ} 0 1 = one in omega (arith, k))

delivery_fresh : (first : List MapRecord) (most : ℕ) (around after : Around) (run : Run) (lists : Lists) (name : List ℕ) (time : ℕ) (octets : List ℕ) (event : RunEvent) → Grown first most (map_of run).records → IsSimple (request.Deliver name time octets) → IsEvent around after run lists (request.Deliver name time octets) event
    → OwnUp first (request.Deliver name time octets) (own_events event.request run) → OwnUp first (request.Deliver name time octets) (own_events event.request run ++ event ∷ [])
unfolding OwnUp GoesBehind stored_last
delivery_fresh first most around after run lists name time octets event g s ev o = (sums, new)
  where
    behind : GoesBehind (stored_last (last_of (own_events event.request run))) event.part
    behind = delivery_next around run name time octets (last_of (own_events event.request run)) event.part (ev.finds ∙ s) (sym (next_is around run (request.Deliver name time octets) (own_events event.request run)) ∙ ev.part_is)

    last : stored_last (last_of (own_events event.request run ++ event ∷ [])) ≡ stored_by event.part event.refused
    last = ap stored_last (last_push (own_events event.request run) event)

    sums : sum_by up_by (own_events event.request run ++ event ∷ []) ≡ stored_last (last_of (own_events event.request run ++ event ∷ []))
    sums =
        let p = sum_by_push up_by (own_events event.request run) event in
        let u = (event_up around after run lists (request.Deliver name time octets) event s ev).0 in
        let d = delivery_up name time octets event.part event.refused in
        let b = behind.0 event.refused in
        let before = o.0 in
        omega (arith, p, u, d, b, before, last)

    given_none : (r : Option Refusal) → event.refused ≡ r → stored_by event.part r ≡ 1 → event.given ≡ []
    given_none None is one = gives_none around run lists name time octets event event.part (ev.did is) one
    given_none (Some why) is one = nothing_given event (ev.undone why is).0

    by_when : (guid : List ℕ) → guid_of (own_events event.request run) ≡ Some guid → ((event.part ≡ StoresRecord) × (event.refused ≡ None)) ⊎ (stored_last (last_of (own_events event.request run)) ≡ 1) → IsNew first guid
    by_when guid e (inl here) = stores_new first most around run lists name time octets event g ev.fits (subst (λ (part : EventPart). DidPart around run lists (request.Deliver name time octets) event part) here.0 (ev.did here.1)) guid e
    by_when guid e (inr before) = o.1 before guid e

    new : stored_last (last_of (own_events event.request run ++ event ∷ [])) ≡ 1 → (guid : List ℕ) → guid_of (own_events event.request run ++ event ∷ []) ≡ Some guid → IsNew first guid
    new one guid e =
        let now : stored_by event.part event.refused ≡ 1 = sym last ∙ one in
        let same = same_guid (own_events event.request run) event (given_none event.refused refl now) in
        by_when guid (sym same ∙ e) (stored_when (stored_last (last_of (own_events event.request run))) event.part event.refused (behind.0 event.refused) now)

copy_fresh : (first : List MapRecord) (around after : Around) (run : Run) (lists : Lists) (name target : List ℕ) (uid : Uid) (event : RunEvent) → GoesStraight (request.Copy name uid target) (own_events event.request run) event.part → IsEvent around after run lists (request.Copy name uid target) event
    → OwnUp first (request.Copy name uid target) (own_events event.request run) → OwnUp first (request.Copy name uid target) (own_events event.request run ++ event ∷ [])
unfolding OwnUp begun up_now up_at
copy_fresh first around after run lists name target uid event g ev o = by_last (last_of (own_events event.request run)) refl
  where
    p : sum_by up_by (own_events event.request run ++ event ∷ []) ≡ sum_by up_by (own_events event.request run) + up_by event
    p = sum_by_push up_by (own_events event.request run) event

    u : up_by event ≡ up_now (request.Copy name uid target) event.part event.refused
    u = (event_up around after run lists (request.Copy name uid target) event tt ev).0

    now : begun (last_of (own_events event.request run ++ event ∷ [])) ≡ 1
    now = ap begun (last_push (own_events event.request run) event)

    one_most : (part : EventPart) (r : Option Refusal) → up_now (request.Copy name uid target) part r ≤ 1
    one_most First None = omega arith
    one_most part None = omega arith
    one_most part (Some why) = omega arith

    none_now : (part : EventPart) (r : Option Refusal) → up_at (request.Copy name uid target) part ≡ 0 → up_now (request.Copy name uid target) part r ≡ 0
    none_now part None z = z
    none_now part (Some why) z = refl

    by_last : (last : Option RunEvent) → last_of (own_events event.request run) ≡ last → sum_by up_by (own_events event.request run ++ event ∷ []) ≤ begun (last_of (own_events event.request run ++ event ∷ []))
    by_last None is =
        let z : begun (last_of (own_events event.request run)) ≡ 0 = ap begun is in
        let m = one_most event.part event.refused in
        omega (arith, p, u, now, z, m, o)
    by_last (Some e) is =
        let z : begun (last_of (own_events event.request run)) ≡ 1 = ap begun is in
        let m = none_now event.part event.refused (copy_behind name target uid (own_events event.request run) e event.part is g) in
        omega (arith, p, u, now, z, m, o)

-- a request that raises nothing
still_fresh : (around after : Around) (run : Run) (lists : Lists) (q : Request) (event : RunEvent) → IsSimple q → ((part : EventPart) → up_at q part ≡ 0) → IsEvent around after run lists q event → sum_by up_by (own_events event.request run) ≡ 0 → sum_by up_by (own_events event.request run ++ event ∷ []) ≡ 0
unfolding up_now
still_fresh around after run lists q event s zero_at ev o =
    let p = sum_by_push up_by (own_events event.request run) event in
    let u = (event_up around after run lists q event s ev).0 in
    let z = none event.refused in
    omega (arith, p, u, z, o)
  where
    none : (r : Option Refusal) → up_now q event.part r ≡ 0
    none None = zero_at event.part
    none (Some why) = refl

own_fresh : (first : List MapRecord) (most : ℕ) (around after : Around) (run : Run) (lists : Lists) (q : Request) (event : RunEvent) → Grown first most (map_of run).records → IsSimple q → GoesStraight q (own_events event.request run) event.part → IsEvent around after run lists q event
    → OwnUp first q (own_events event.request run) → OwnUp first q (own_events event.request run ++ event ∷ [])
unfolding OwnUp up_at
own_fresh first most around after run lists (request.Make name) event g s straight ev o = still_fresh around after run lists (request.Make name) event s (λ part. refl) ev o
own_fresh first most around after run lists (request.Deliver name time octets) event g s straight ev o = delivery_fresh first most around after run lists name time octets event g s ev o
own_fresh first most around after run lists (request.Copy name uid target) event g s straight ev o = copy_fresh first around after run lists name target uid event straight ev o
own_fresh first most around after run lists (request.Expunge name uid) event g s straight ev o = still_fresh around after run lists (request.Expunge name uid) event s (λ part. refl) ev o
own_fresh first most around after run lists (request.Flag name uid flags) event g s straight ev o = still_fresh around after run lists (request.Flag name uid flags) event s (λ part. refl) ev o
own_fresh first most around after run lists q event g s straight ev o = absurd s

-- a request raises one count at the most
own_few : (first : List MapRecord) (q : Request) (own : List RunEvent) → IsSimple q → OwnUp first q own → sum_by up_by own ≤ raised_by q
unfolding OwnUp stored_last begun stored_by
own_few first (request.Make name) own s o = omega (arith, o)
own_few first (request.Deliver name time octets) own s o = let m = most (last_of own) in let k = o.0 in omega (arith, m, k)
  where
    by_part : (part : EventPart) (r : Option Refusal) → stored_by part r ≤ 1
    by_part StoresRecord None = omega arith
    by_part StoresRecord (Some why) = omega arith
    by_part Last r = omega arith
    by_part GivesBack r = omega arith
    by_part StartsOver (Some why) = omega arith
    by_part part r = omega arith

    most : (last : Option RunEvent) → stored_last last ≤ 1
    most None = omega arith
    most (Some e) = by_part e.part e.refused
own_few first (request.Copy name uid target) own s o = let m = most (last_of own) in omega (arith, m, o)
  where
    most : (last : Option RunEvent) → begun last ≤ 1
    most None = omega arith
    most (Some e) = omega arith
own_few first (request.Expunge name uid) own s o = omega (arith, o)
own_few first (request.Flag name uid flags) own s o = omega (arith, o)
own_few first q own s o = absurd s

-- ---- the run

abbrev AreUp : List MapRecord → ℕ → ℕ → Run → Type 0
AreUp first lanes number run = (i : ℕ) → OwnUp first (made_request lanes number i).1 (own_events i run)

up_event : (first : List MapRecord) (most lanes count number : ℕ) (around after : Around) (run : Run) (lists : Lists) (event : RunEvent) → AreUp first lanes number run → Grown first most (map_of run).records → IsCountable (map_of run) → GoesStraight (made_request lanes number event.request).1 (own_events event.request run) event.part → IsNextEvent around after (script_of lanes count number) run lists event
    → AreUp first lanes number (and_then run event) × Grown first (most + up_by event) (map_of (and_then run event)).records
up_event first most lanes count number around after run lists event own g countable straight next = (each, run_grown first run event most (event_up around after run lists (made_request lanes number event.request).1 event simple ev).1 countable g)
  where
    lt : event.request < count
    lt = let l = script_length lanes count number in let w = slice_get_within (script_of lanes count number) event.request next.asked next.request_is in omega (arith, l, w)

    is : next.asked ≡ made_request lanes number event.request
    is = let k : Some next.asked ≡ Some (made_request lanes number event.request) = sym next.request_is ∙ asked_is lanes count number event.request lt in cc k

    ev : IsEvent around after run lists (made_request lanes number event.request).1 event
    ev = subst (λ (asked : ℕ × Request). IsEvent around after run lists asked.1 event) is next.is_event

    simple : IsSimple (made_request lanes number event.request).1
    simple = round_simple number event.request (event.request % lanes + 1) (event.request / lanes)

    here : OwnUp first (made_request lanes number event.request).1 (own_events event.request (and_then run event))
    here = subst (OwnUp first (made_request lanes number event.request).1) (sym (own_more event.request run event (eq-eqb event.request event.request refl))) (own_fresh first most around after run lists (made_request lanes number event.request).1 event g simple straight ev (own event.request))

    each : AreUp first lanes number (and_then run event)
    each i = by_place (event.request == i) refl
      where
        by_place : (b : Bool) → (event.request == i) ≡ b → OwnUp first (made_request lanes number i).1 (own_events i (and_then run event))
        by_place true e = subst (λ (k : ℕ). OwnUp first (made_request lanes number k).1 (own_events k (and_then run event))) (eqb-true event.request i e) here
        by_place false e = subst (OwnUp first (made_request lanes number i).1) (sym (own_other i run event e)) (own i)

-- the run up to an event
record FreshTo (first : List MapRecord) (lanes number : ℕ) (run : Run) (n : ℕ) : Type 0 where
  own : AreUp first lanes number (before n run)
  grown : Grown first (sum_by up_by (take n run.events)) (map_of (before n run)).records

fresh_to : (lanes count number : ℕ) (around after : ℕ → Around) (start : Lists) (run : Run) (journal : List JournalStep) → IsCountable (map_of (before 0 run)) → AreStraight lanes number run → AreNextEvents around after (script_of lanes count number) start run journal → (n : ℕ) → n ≤ length run.events → FreshTo (map_of (before 0 run)).records lanes number run n
fresh_to lanes count number around after start run journal c straight next zero le = record {
  own = λ i. up_none (map_of (before 0 run)).records (made_request lanes number i).1;
  grown = record { was = (map_of (before 0 run)).records; new = []; rows_are = sym (append-nil (map_of (before 0 run)).records); guids = refl; few = omega arith };
}
fresh_to lanes count number around after start run journal c straight next (suc n) le = with_event e.0 e.1 (ap (λ (r : Run). r.events) e.2) (fresh_to lanes count number around after start run journal c straight next n (omega (arith, le)))
  where
    e : (event : RunEvent) × (slice_get run.events n ≡ Some event) × (before (suc n) run ≡ and_then (before n run) event)
    e = event_at run n (omega (arith, le))

    with_event : (e : RunEvent) → slice_get run.events n ≡ Some e → take (suc n) run.events ≡ take n run.events ++ e ∷ [] → FreshTo (map_of (before 0 run)).records lanes number run n → FreshTo (map_of (before 0 run)).records lanes number run (suc n)
    with_event e is taken u =
        let countable = (counted_to lanes count number around after start run journal c straight next n (omega (arith, le))).counted.countable in
        let on = up_event (map_of (before 0 run)).records (sum_by up_by (take n run.events)) lanes count number (around n) (after n) (before n run) (lists_before start journal n) e u.own u.grown countable (straight n e is) (next n e is) in
        let same : before (suc n) run ≡ and_then (before n run) e = ap (λ (es : List RunEvent). record run { events = es }) taken in
        let up : sum_by up_by (take (suc n) run.events) ≡ sum_by up_by (take n run.events) + up_by e = ap (sum_by up_by) taken ∙ sum_by_push up_by (take n run.events) e in
        record {
          own = subst (AreUp (map_of (before 0 run)).records lanes number) (sym same) on.0;
          grown = subst (λ (r : Run). Grown (map_of (before 0 run)).records (sum_by up_by (take (suc n) run.events)) (map_of r).records) (sym same)
              (subst (λ (k : ℕ). Grown (map_of (before 0 run)).records k (map_of (and_then (before n run) e)).records) (sym up) on.1);
        }

-- At any time few counts are kept of a new GUID.
pub new_few : (lanes count number : ℕ) (around after : ℕ → Around) (start : Lists) (run : Run) (journal : List JournalStep) → 1 ≤ lanes → lanes ≤ 64 → count ≤ 100000 → IsCountable (map_of (before 0 run)) → AreStraight lanes number run → AreNextEvents around after (script_of lanes count number) start run journal → (n : ℕ) → n ≤ length run.events
    → (guid : List ℕ) → IsNew (map_of (before 0 run)).records guid → count_of (map_of (before n run)) guid ≤ 50064
new_few lanes count number around after start run journal one most few c straight next n le guid new =
    let u = fresh_to lanes count number around after start run journal c straight next n le in
    let w = (up_to lanes count number around after start run journal next n le).within in
    let k = new_count (map_of (before 0 run)).records (map_of (before n run)) (sum_by up_by (take n run.events)) guid u.grown new in
    let parts = sum_by_requests count up_by (take n run.events) w in
    let each = less_below (λ i. sum_by up_by (own_events i (before n run))) (λ i. raised_by (made_request lanes number i).1) count (λ i. own_few (map_of (before 0 run)).records (made_request lanes number i).1 (own_events i (before n run)) (round_simple number i (i % lanes + 1) (i / lanes)) (u.own i)) in
    let half = raises_few lanes count number one most few in
    omega (arith, k, parts, each, half)
  where
    less_below : (f g : ℕ → ℕ) (n : ℕ) → ((i : ℕ) → f i ≤ g i) → sum_by f (below n) ≤ sum_by g (below n)
    less_below f g n e = each_less f g e n

-- A message that is delivered has a new GUID.
pub delivered_new : (lanes count number : ℕ) (around after : ℕ → Around) (start : Lists) (run : Run) (journal : List JournalStep) → IsCountable (map_of (before 0 run)) → AreStraight lanes number run → AreNextEvents around after (script_of lanes count number) start run journal → (n : ℕ) (event : RunEvent) → slice_get run.events n ≡ Some event
    → (name : List ℕ) (time : ℕ) (octets : List ℕ) → (made_request lanes number event.request).1 ≡ request.Deliver name time octets → event.part ≡ Last → event.refused ≡ None → (guid : List ℕ) → guid_added event.box_entries ≡ Some guid → IsNew (map_of (before 0 run)).records guid
unfolding OwnUp GoesBehind stored_at stored_by
delivered_new lanes count number around after start run journal c straight next n event is name time octets asked part none guid added = o.1 was guid given
  where
    le : n < length run.events
    le = slice_get_within run.events n event is

    u : FreshTo (map_of (before 0 run)).records lanes number run n
    u = fresh_to lanes count number around after start run journal c straight next n (let l = slice_get_within run.events n event is in omega (arith, l))

    nx : IsNextEvent (around n) (after n) (script_of lanes count number) (before n run) (lists_before start journal n) event
    nx = next n event is

    lt : event.request < count
    lt = let l = script_length lanes count number in let w = slice_get_within (script_of lanes count number) event.request nx.asked nx.request_is in omega (arith, l, w)

    asked_one : nx.asked ≡ made_request lanes number event.request
    asked_one = let k : Some nx.asked ≡ Some (made_request lanes number event.request) = sym nx.request_is ∙ asked_is lanes count number event.request lt in cc k

    ev : IsEvent (around n) (after n) (before n run) (lists_before start journal n) (request.Deliver name time octets) event
    ev = subst (λ (q : Request). IsEvent (around n) (after n) (before n run) (lists_before start journal n) q event) (ap (λ (a : ℕ × Request). a.1) asked_one ∙ asked) nx.is_event

    s : IsSimple (request.Deliver name time octets)
    s = subst IsSimple asked (round_simple number event.request (event.request % lanes + 1) (event.request / lanes))

    o : OwnUp (map_of (before 0 run)).records (request.Deliver name time octets) (own_events event.request (before n run))
    o = subst (λ (q : Request). OwnUp (map_of (before 0 run)).records q (own_events event.request (before n run))) asked (u.own event.request)

    behind : GoesBehind (stored_last (last_of (own_events event.request (before n run)))) Last
    behind = subst (GoesBehind (stored_last (last_of (own_events event.request (before n run))))) part (delivery_next (around n) (before n run) name time octets (last_of (own_events event.request (before n run))) event.part (ev.finds ∙ s) (sym (next_is (around n) (before n run) (request.Deliver name time octets) (own_events event.request (before n run))) ∙ ev.part_is))

    was : stored_last (last_of (own_events event.request (before n run))) ≡ 1
    was = let b = behind.0 None in omega (arith, b)

    did : DidPart (around n) (before n run) (lists_before start journal n) (request.Deliver name time octets) event Last
    did = subst (λ (p : EventPart). DidPart (around n) (before n run) (lists_before start journal n) (request.Deliver name time octets) event p) part (ev.did none)

    given : guid_given event.request (before n run) ≡ Some guid
    given = did.1 ∙ (sym (ap (λ (e : RunEvent). guid_added e.box_entries) did.2.4) ∙ added)
