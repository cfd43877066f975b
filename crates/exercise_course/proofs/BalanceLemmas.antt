-- A run that serves a made script, each of whose requests is OK: the counts that are kept grow as the messages that are listed do.
use Rattle.exercise_course.proofs.Common.{◌≡◌, ◌≤◌, ◌<◌, ◌+◌, ◌/◌, ◌%◌, ◌==◌, ℕ, zero, suc, Bool, true, false, All, List, [], ◌∷◌, ◌++◌, length, map, slice_get, slice_index_or, sum_by, take, Option, Some, None, refl, AllByRecursion, option_map, sym, ◌∙◌, ap, arith, subst, inl, inr, eq-eqb, eqb-true}
use Rattle.exercise_course.proofs.Common.{sum_by_push, slice_get-get_or, slice_get-map, slice_get_within, Faults, Highest, Uid, Request, Refusal, Reply, Lists, MapMeaning, EventPart, First, TakesFile, PlacesMessage, StoresRecord, Last, GivesBack, Run, RunEvent, and_then, before, first_in}
use Rattle.exercise_course.proofs.Common.{map_of, own_events, Broken, JournalStep, left_by, refusal_in, Around, IsEvent, IsNextEvent, behind_delivery, behind_event, last_refusal, AreNextEvents, IsServed, lists_before, own_more, own_other, below, made_request, made_round, made_turn, BeginsFree}
use Rattle.exercise_course.proofs.Common.{is_hindered, is_ok}
use Rattle.std.proofs.Math.Seq.{take-length}
use Rattle.mdbox_base.specs.declared.requests.Request.TheVariants as request
use Rattle.mdbox_base.specs.declared.replies.Reply.TheVariants as reply
use Rattle.list_machine.specs.Run.{reply_of}
use Rattle.journal.specs.Events.{behind_expunge, part_behind}
use Rattle.exercise_course.specs.InOrder.{message_total}
use Rattle.exercise_course.proofs.CountingLemmas.{AreStraight, Counted, GoesStraight, IsCountable, IsShort, OwnCounted, counted_none, counted_on, counts_of_map, down_by, down_last, down_part, run_counts, up_by, up_last, up_part}
use Rattle.exercise_course.proofs.CourseLemmas.{adds, left_of, place_of, sizes_of, sum_of_all, takes}
use Rattle.exercise_course.proofs.DeliveredLemmas.{AreOwn, IsAnswered, event_at, last_unrefused, looking_none, round_simple, same_below, sum_by_requests, up_to}
use Rattle.exercise_course.proofs.LegalLemmas.{all_ok, asked_is, left_are, legal_course, messages_weigh, script_length, script_of, turn_of}
use Rattle.exercise_course.proofs.NamedLemmas.{are_straight}
use Rattle.exercise_course.proofs.RoundLemmas.{round_adds, round_takes, turn_adds, turn_takes}
use Rattle.exercise_course.proofs.StoringLemmas.{IsSimple, last_of}

-- ---- a request that is answered OK

abbrev pub raised_by : Request → ℕ
raised_by (request.Deliver name time octets) = 1
raised_by (request.Copy name uid target) = 1
raised_by other = 0

abbrev pub lowered_by : Request → ℕ
lowered_by (request.Expunge name uid) = 1
lowered_by other = 0

-- none of its events was refused, and nothing stands behind the last
record EndsWell (q : Request) (own : List RunEvent) : Type 0 where
  unrefused : last_refusal own ≡ None
  event : RunEvent
  around : Around
  run : Run
  last_is : last_of own ≡ Some event
  ended : part_behind around run q event ≡ None

ends_well : (q : Request) (own : List RunEvent) (given : Reply) → IsAnswered q own → first_in (λ e. e.reply) own ≡ Some given → is_ok given ≡ true → EndsWell q own
ends_well q own given (inl none) r ok = absurd (let k : None ≡ Some given = sym none ∙ r in cc k)
ends_well q own given (inr a) r ok =
    let same : a.0 ≡ given = (let k : Some a.0 ≡ Some given = sym a.1 ∙ r in cc k) in
    let none : last_refusal own ≡ None = a.2 ∙ ap refusal_in same ∙ no_refusal given ok in
    record {
      unrefused = none;
      event = a.3.event;
      around = a.3.around;
      run = a.3.run;
      last_is = a.3.last_is;
      ended = subst (λ (r : Option Refusal). behind_event a.3.around a.3.run q a.3.event r ≡ None) (last_unrefused own a.3.event a.3.last_is none) a.3.ended;
    }
  where
    no_refusal : (one : Reply) → is_ok one ≡ true → refusal_in one ≡ None
    no_refusal (reply.Refused why) e = absurd (let k : false ≡ true = e in cc k)
    no_refusal one e = refl

delivery_whole : (around : Around) (run : Run) (name : List ℕ) (time : ℕ) (octets : List ℕ) (e : RunEvent) (part : EventPart) → behind_delivery around run e part ≡ None → (up_part (request.Deliver name time octets) part ≡ 1) × (down_part (request.Deliver name time octets) part ≡ 0)
unfolding up_part down_part
delivery_whole around run name time octets e (TakesFile new) is = absurd (cc is)
delivery_whole around run name time octets e PlacesMessage is = absurd (cc is)
delivery_whole around run name time octets e StoresRecord is = absurd (cc is)
delivery_whole around run name time octets e Last is = (refl, refl)
delivery_whole around run name time octets e GivesBack is = (refl, refl)
delivery_whole around run name time octets e part is = absurd (looking_none _ _ _ is)

expunge_whole : (name : List ℕ) (uid : Uid) (part : EventPart) → behind_expunge part ≡ None → (up_part (request.Expunge name uid) part ≡ 0) × (down_part (request.Expunge name uid) part ≡ 1)
unfolding up_part down_part
expunge_whole name uid First is = absurd (cc is)
expunge_whole name uid part is = (refl, refl)

part_whole : (around : Around) (run : Run) (q : Request) (e : RunEvent) → IsSimple q → part_behind around run q e ≡ None → (up_part q e.part ≡ raised_by q) × (down_part q e.part ≡ lowered_by q)
unfolding up_part down_part
part_whole around run (request.Make name) e s is = (refl, refl)
part_whole around run (request.Deliver name time octets) e s is = delivery_whole around run name time octets e e.part is
part_whole around run (request.Copy name uid target) e s is = (refl, refl)
part_whole around run (request.Expunge name uid) e s is = expunge_whole name uid e.part is
part_whole around run (request.Flag name uid flags) e s is = (refl, refl)
part_whole around run q e s is = absurd s

own_whole : (q : Request) (own : List RunEvent) (given : Reply) → IsSimple q → OwnCounted q own → IsAnswered q own → first_in (λ e. e.reply) own ≡ Some given → is_ok given ≡ true → (sum_by up_by own ≡ raised_by q) × (sum_by down_by own ≡ lowered_by q)
unfolding up_last down_last
own_whole q own given s o a r ok =
    let w = ends_well q own given a r ok in
    let sums = o w.unrefused in
    let parts = part_whole w.around w.run q w.event s w.ended in
    (sums.0 ∙ ap (up_last q) w.last_is ∙ parts.0, sums.1 ∙ ap (down_last q) w.last_is ∙ parts.1)

-- ---- the run

abbrev pub AreCounted : ℕ → ℕ → Run → Type 0
AreCounted lanes number run = (i : ℕ) → OwnCounted (made_request lanes number i).1 (own_events i run)

counted_event : (lanes count number : ℕ) (around after : Around) (run : Run) (lists : Lists) (event : RunEvent) → AreCounted lanes number run → IsCountable (map_of run) → GoesStraight (made_request lanes number event.request).1 (own_events event.request run) event.part → IsNextEvent around after (script_of lanes count number) run lists event
    → AreCounted lanes number (and_then run event) × Counted (up_by event) (down_by event) (map_of run) (map_of (and_then run event))
counted_event lanes count number around after run lists event own countable straight next = (each, run_counts run event goes.0 ev.fits countable)
  where
    lt : event.request < count
    lt = let l = script_length lanes count number in let w = slice_get_within (script_of lanes count number) event.request next.asked next.request_is in omega (arith, l, w)

    is : next.asked ≡ made_request lanes number event.request
    is = let k : Some next.asked ≡ Some (made_request lanes number event.request) = sym next.request_is ∙ asked_is lanes count number event.request lt in cc k

    ev : IsEvent around after run lists (made_request lanes number event.request).1 event
    ev = subst (λ (asked : ℕ × Request). IsEvent around after run lists asked.1 event) is next.is_event

    goes : IsShort event.map_entries × OwnCounted (made_request lanes number event.request).1 (own_events event.request run ++ event ∷ [])
    goes = counted_on around after run lists (made_request lanes number event.request).1 event (round_simple number event.request (event.request % lanes + 1) (event.request / lanes)) straight ev (own event.request)

    here : OwnCounted (made_request lanes number event.request).1 (own_events event.request (and_then run event))
    here = subst (OwnCounted (made_request lanes number event.request).1) (sym (own_more event.request run event (eq-eqb event.request event.request refl))) goes.1

    each : AreCounted lanes number (and_then run event)
    each i = by_place (event.request == i) refl
      where
        by_place : (b : Bool) → (event.request == i) ≡ b → OwnCounted (made_request lanes number i).1 (own_events i (and_then run event))
        by_place true e = subst (λ (k : ℕ). OwnCounted (made_request lanes number k).1 (own_events k (and_then run event))) (eqb-true event.request i e) here
        by_place false e = subst (OwnCounted (made_request lanes number i).1) (sym (own_other i run event e)) (own i)

-- the run up to an event
pub record CountedTo (lanes number : ℕ) (run : Run) (n : ℕ) : Type 0 where
  pub own : AreCounted lanes number (before n run)
  pub counted : Counted (sum_by up_by (take n run.events)) (sum_by down_by (take n run.events)) (map_of (before 0 run)) (map_of (before n run))

pub counted_to : (lanes count number : ℕ) (around after : ℕ → Around) (start : Lists) (run : Run) (journal : List JournalStep) → IsCountable (map_of (before 0 run)) → AreStraight lanes number run → AreNextEvents around after (script_of lanes count number) start run journal → (n : ℕ) → n ≤ length run.events → CountedTo lanes number run n
counted_to lanes count number around after start run journal c straight next zero le = record {
  own = λ i. counted_none (made_request lanes number i).1;
  counted = record { counts = refl; countable = c };
}
counted_to lanes count number around after start run journal c straight next (suc n) le = with_event e.0 e.1 (ap (λ (r : Run). r.events) e.2) (counted_to lanes count number around after start run journal c straight next n (omega (arith, le)))
  where
    e : (event : RunEvent) × (slice_get run.events n ≡ Some event) × (before (suc n) run ≡ and_then (before n run) event)
    e = event_at run n (omega (arith, le))

    with_event : (e : RunEvent) → slice_get run.events n ≡ Some e → take (suc n) run.events ≡ take n run.events ++ e ∷ [] → CountedTo lanes number run n → CountedTo lanes number run (suc n)
    with_event e is taken u =
        let on = counted_event lanes count number (around n) (after n) (before n run) (lists_before start journal n) e u.own u.counted.countable (straight n e is) (next n e is) in
        let same : before (suc n) run ≡ and_then (before n run) e = ap (λ (es : List RunEvent). record run { events = es }) taken in
        let up : sum_by up_by (take (suc n) run.events) ≡ sum_by up_by (take n run.events) + up_by e = ap (sum_by up_by) taken ∙ sum_by_push up_by (take n run.events) e in
        let down : sum_by down_by (take (suc n) run.events) ≡ sum_by down_by (take n run.events) + down_by e = ap (sum_by down_by) taken ∙ sum_by_push down_by (take n run.events) e in
        let a = u.counted.counts in
        let b = on.1.counts in
        record {
          own = subst (AreCounted lanes number) (sym same) on.0;
          counted = subst (λ (r : Run). Counted (sum_by up_by (take (suc n) run.events)) (sum_by down_by (take (suc n) run.events)) (map_of (before 0 run)) (map_of r)) (sym same)
              (record { counts = omega (arith, up, down, a, b); countable = on.1.countable });
        }

-- ---- messages

turn_raises : (number i lane round turn : ℕ) → (turn_adds turn 1 ≡ raised_by (made_turn number i lane round turn)) × (turn_takes turn 1 ≡ lowered_by (made_turn number i lane round turn))
turn_raises number i lane round zero = (refl, refl)
turn_raises number i lane round (suc zero) = (refl, refl)
turn_raises number i lane round (suc (suc zero)) = (refl, refl)
turn_raises number i lane round (suc (suc (suc turn))) = (refl, refl)

round_raises : (sizes : ℕ → ℕ) (number i lane s : ℕ) → (round_adds (λ size. 1) sizes s ≡ raised_by (made_round number i lane s)) × (round_takes (λ size. 1) sizes s ≡ lowered_by (made_round number i lane s))
round_raises sizes number i lane zero = (refl, refl)
round_raises sizes number i lane (suc s) = turn_raises number i lane (s / 4) (s % 4)

-- ---- a script that was served

-- what the counts of the map have come to
counts_raised : (lanes count number : ℕ) (start : Lists) (run : Run) (journal : List JournalStep) (broken : Broken) (given : List Reply) (old new : Faults) (first m : MapMeaning) (drawn : Highest) (calls : ℕ) → IsCountable first → AreStraight lanes number run → length given ≡ count → All (λ one. is_ok one ≡ true) given
    → IsServed start (script_of lanes count number) run journal broken (map Some given) old new first m drawn calls
    → counts_of_map m + sum_by (λ i. lowered_by (made_request lanes number i).1) (below count) ≡ counts_of_map first + sum_by (λ i. raised_by (made_request lanes number i).1) (below count)
counts_raised lanes count number start run journal broken given old new first m drawn calls countable straight many ok served =
    let u = up_to lanes count number served.around served.after start run journal served.next (length run.events) (omega arith) in
    let k = counted_to lanes count number served.around served.after start run journal (subst IsCountable (sym served.begins.map_is) countable) straight served.next (length run.events) (omega arith) in
    let all : take (length run.events) run.events ≡ run.events = take-length run.events in
    let whole : before (length run.events) run ≡ run = ap (λ (es : List RunEvent). record run { events = es }) all in
    let own : AreOwn lanes number run = subst (AreOwn lanes number) whole u.own in
    let counted : AreCounted lanes number run = subst (AreCounted lanes number) whole k.own in
    let within = subst (AllByRecursion (λ (e : RunEvent). e.request < count)) all u.within in
    let sums = k.counted.counts in
    let up : sum_by up_by (take (length run.events) run.events) ≡ sum_by up_by run.events = ap (sum_by up_by) all in
    let down : sum_by down_by (take (length run.events) run.events) ≡ sum_by down_by run.events = ap (sum_by down_by) all in
    let up_all = sum_by_requests count up_by run.events within in
    let down_all = sum_by_requests count down_by run.events within in
    let up_each = same_below (λ i. sum_by up_by (own_events i run)) (λ i. raised_by (made_request lanes number i).1) count (λ i lt. (each own counted i lt).0) in
    let down_each = same_below (λ i. sum_by down_by (own_events i run)) (λ i. lowered_by (made_request lanes number i).1) count (λ i lt. (each own counted i lt).1) in
    let last : counts_of_map (map_of (before (length run.events) run)) ≡ counts_of_map m = ap (λ (r : Run). counts_of_map (map_of r)) whole ∙ ap counts_of_map served.come.map_is in
    let begun : counts_of_map (map_of (before 0 run)) ≡ counts_of_map first = ap counts_of_map served.begins.map_is in
    omega (arith, sums, up, down, up_all, down_all, up_each, down_each, last, begun)
  where
    each : AreOwn lanes number run → AreCounted lanes number run → (i : ℕ) → i < count → (sum_by up_by (own_events i run) ≡ raised_by (made_request lanes number i).1) × (sum_by down_by (own_events i run) ≡ lowered_by (made_request lanes number i).1)
    each own counted i lt =
        let lt_given : i < length given = omega (arith, lt, many) in
        let one = slice_index_or given i reply.Done in
        let has : slice_get given i ≡ Some one = slice_get-get_or given i reply.Done lt_given in
        let replied : slice_get (map Some given) i ≡ Some (Some one) = slice_get-map Some given i ∙ ap (option_map Some) has in
        let r : Some (reply_of i run) ≡ Some (Some one) = sym (served.given.1 i (let l = script_length lanes count number in omega (arith, l, lt))) ∙ replied in
        own_whole (made_request lanes number i).1 (own_events i run) one (round_simple number i (i % lanes + 1) (i / lanes)) (counted i) (own i).1 (cc r) (ok i reply.Done lt_given)

-- The counts grow as the messages do.
pub counts_grow : (lanes count number : ℕ) (start : Lists) (run : Run) (journal : List JournalStep) (broken : Broken) (given : List Reply) (old new : Faults) (first m : MapMeaning) (drawn : Highest) (calls : ℕ) → IsCountable first → 1 ≤ lanes → lanes ≤ 64 → count ≤ 100000 → BeginsFree lanes start → length given ≡ count → All (λ one. is_hindered one ≡ false) given
    → IsServed start (script_of lanes count number) run journal broken (map Some given) old new first m drawn calls → counts_of_map m + message_total start ≡ counts_of_map first + message_total (left_by start journal)
counts_grow lanes count number start run journal broken given old new first m drawn calls countable one most few begins many free served =
    let ok = all_ok lanes count number start run journal given old new one most few begins many free served.legal in
    let straight = are_straight lanes count number served.around served.after start run journal one begins served.next served.legal.steps served.legal.order.events in
    let counts = counts_raised lanes count number start run journal broken given old new first m drawn calls countable straight many ok served in
    let c = legal_course lanes count number start run journal given old new one most few begins many free served.legal in
    let w = c.whole.weighs (λ size. 1) in
    let a = sum_of_all (adds (λ size. 1) lanes number) count (map place_of (map turn_of journal)) c.all in
    let t = sum_of_all (takes (λ size. 1) lanes number) count (map place_of (map turn_of journal)) c.all in
    let up = same_below (adds (λ size. 1) lanes number) (λ i. raised_by (made_request lanes number i).1) count (λ i lt. (round_raises (sizes_of lanes number (i % lanes + 1)) number i (i % lanes + 1) (i / lanes)).0) in
    let down = same_below (takes (λ size. 1) lanes number) (λ i. lowered_by (made_request lanes number i).1) count (λ i lt. (round_raises (sizes_of lanes number (i % lanes + 1)) number i (i % lanes + 1) (i / lanes)).1) in
    let before = messages_weigh start in
    let behind = sym (ap message_total (left_are start journal)) in
    let after = messages_weigh (left_of start (map turn_of journal)) in
    omega (arith, counts, w, a, t, up, down, before, behind, after)
