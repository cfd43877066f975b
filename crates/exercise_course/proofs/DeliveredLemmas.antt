-- A run that serves a made script, each of whose requests is OK: the map has a record more for each delivery, and names the same instances.
use Rattle.exercise_course.proofs.Common.{◌≡◌, ◌≤◌, ◌<◌, ◌+◌, ◌/◌, ◌%◌, ◌==◌, ◌⊎◌, ℕ, zero, suc, Bool, true, false, if◌then◌else◌, All, List, [], ◌∷◌, ◌++◌, filter, length, map, slice_get, slice_index_or, sum_by, take, Option, Some, None, refl, AllByRecursion, option_map, option_or, sym, ◌∙◌, ap}
use Rattle.exercise_course.proofs.Common.{arith, subst, inl, inr, eq-eqb, eqb-true, take_more, sum_by-cons, sum_by_push, slice_get-get_or, slice_get-map, slice_get_within, Faults, Highest, Request, Refusal, Reply, Lists, MapMeaning, EventPart, Compares, PlacesInstance, TakesFile, PlacesMessage}
use Rattle.exercise_course.proofs.Common.{StoresRecord, Last, GivesBack, Run, RunEvent, and_then, before, first_in, map_of, own_events, Broken, JournalStep, refusal_in, Around, IsEvent, IsNextEvent, behind_delivery, behind_event, last_refusal, AreNextEvents, IsServed, lists_before, own_more}
use Rattle.exercise_course.proofs.Common.{own_other, below, made_request, made_round, made_turn, is_ok}
use Rattle.std.proofs.Math.Seq.{take-length}
use Rattle.std.proofs.lemmas.List.Folds.{fold-map}
use Rattle.mdbox_base.specs.declared.requests.Request.TheVariants as request
use Rattle.mdbox_base.specs.declared.replies.Reply.TheVariants as reply
use Rattle.model_mime.specs.Parts.{parts_in}
use Rattle.model_mime.proofs.PartsLemmas.{detachable_in_order}
use Rattle.saved_message.proofs.BigPartLemmas.{big_fill, detachable_big}
use Rattle.list_machine.specs.Run.{reply_of}
use Rattle.journal.specs.Events.{IsRepliedBy}
use Rattle.script_text.specs.MadeScript.{made_message}
use Rattle.script_text.proofs.MadeLemmas.{message_length}
use Rattle.exercise_course.specs.InOrder.{delivered_by, deliveries_in}
use Rattle.exercise_course.proofs.CourseLemmas.{at_one, at_place, sum_both}
use Rattle.exercise_course.proofs.LegalLemmas.{asked_is, script_length, script_of}
use Rattle.exercise_course.proofs.StoringLemmas.{HasMore, IsSimple, IsSmall, OwnStored, last_of, last_push, more_along, no_more, own_goes_on, own_none, run_with, stored_by, stored_in, stored_last}

-- ---- the script's requests

small_message : (octets : List ℕ) → length octets < 131072 → length (filter (λ part. part.detachable) (parts_in octets)) ≡ 0
small_message octets short =
    let full = big_fill 0 (length octets) (filter (λ part. part.detachable) (parts_in octets)) (detachable_in_order octets) (detachable_big octets) in
    omega (arith, full, short)

turn_simple : (number i lane round turn : ℕ) → IsSimple (made_turn number i lane round turn)
turn_simple number i lane round zero = small_message (made_message ((number % 1000 + i) % 1000)) (let l = message_length ((number % 1000 + i) % 1000) in omega (arith, l))
turn_simple number i lane round (suc zero) = tt
turn_simple number i lane round (suc (suc zero)) = tt
turn_simple number i lane round (suc (suc (suc turn))) = tt

pub round_simple : (number i lane s : ℕ) → IsSimple (made_round number i lane s)
round_simple number i lane zero = tt
round_simple number i lane (suc s) = turn_simple number i lane (s / 4) (s % 4)

-- ---- a request that is answered

-- nothing stands behind the last of its events
pub record IsEnded (q : Request) (last : Option RunEvent) : Type 0 where
  pub event : RunEvent
  pub around : Around
  pub run : Run
  pub last_is : last ≡ Some event
  pub ended : behind_event around run q event event.refused ≡ None

-- its events give no reply, or one, which is a refusal only if one of them was refused
abbrev pub IsAnswered : Request → List RunEvent → Type 0
IsAnswered q own = (first_in (λ e. e.reply) own ≡ None) ⊎ ((given : Reply) × (first_in (λ e. e.reply) own ≡ Some given) × (last_refusal own ≡ refusal_in given) × IsEnded q (last_of own))

first_push : (own : List RunEvent) (e : RunEvent) → first_in (λ e. e.reply) own ≡ None → first_in (λ e. e.reply) (own ++ e ∷ []) ≡ e.reply
first_push [] e none = or_none e.reply
  where
    or_none : (o : Option Reply) → option_or o None ≡ o
    or_none None = refl
    or_none (Some given) = refl
first_push (x ∷ own) e none = by_reply x.reply none (λ k. first_push own e k)
  where
    by_reply : (o : Option Reply) → option_or o (first_in (λ e. e.reply) own) ≡ None → (first_in (λ e. e.reply) own ≡ None → first_in (λ e. e.reply) (own ++ e ∷ []) ≡ e.reply) → option_or o (first_in (λ e. e.reply) (own ++ e ∷ [])) ≡ e.reply
    by_reply None f next = next f
    by_reply (Some given) f next = absurd (cc f)

answered_on : (around after : Around) (run : Run) (lists : Lists) (q : Request) (event : RunEvent) → IsEvent around after run lists q event → reply_of event.request run ≡ None → IsAnswered q (own_events event.request run ++ event ∷ [])
answered_on around after run lists q event ev none = by_reply event.reply refl
  where
    by_reply : (o : Option Reply) → event.reply ≡ o → IsAnswered q (own_events event.request run ++ event ∷ [])
    by_reply None e = inl (first_push (own_events event.request run) event none ∙ e)
    by_reply (Some given) e = inr (
      given,
      first_push (own_events event.request run) event none ∙ e,
      subst (IsRepliedBy (own_events event.request run ++ event ∷ [])) e ev.replied,
      record {
        event = event;
        around = after;
        run = and_then run event;
        last_is = last_push (own_events event.request run) event;
        ended = ev.ends.0 (λ n. absurd (let k : Some given ≡ None = sym e ∙ n in cc k));
      },
    )

-- ---- the end of a request

or_both : (a b : Option Refusal) → option_or a b ≡ None → (a ≡ None) × (b ≡ None)
or_both None b e = (refl, e)
or_both (Some why) b e = absurd (cc e)

pub last_unrefused : (own : List RunEvent) (e : RunEvent) → last_of own ≡ Some e → last_refusal own ≡ None → e.refused ≡ None
unfolding last_of
last_unrefused [] e is none = absurd (cc is)
last_unrefused (x ∷ []) e is none = let k : x ≡ e = cc is in ap (λ (y : RunEvent). y.refused) (sym k) ∙ (or_both None x.refused none).1
last_unrefused (x ∷ more ∷ rest) e is none = last_unrefused (more ∷ rest) e is (or_both (last_refusal (more ∷ rest)) x.refused none).0

pub looking_none : (b c new : Bool) → (if b then (if c then Some Compares else Some PlacesInstance) else Some (TakesFile new)) ≡ None → ⊥
looking_none true true new e = cc e
looking_none true false new e = cc e
looking_none false c new e = cc e

delivery_ended : (around : Around) (run : Run) (e : RunEvent) (part : EventPart) → behind_delivery around run e part ≡ None → stored_by part None ≡ 1
unfolding stored_by
delivery_ended around run e (TakesFile new) is = absurd (cc is)
delivery_ended around run e PlacesMessage is = absurd (cc is)
delivery_ended around run e StoresRecord is = absurd (cc is)
delivery_ended around run e Last is = refl
delivery_ended around run e GivesBack is = refl
delivery_ended around run e part is = absurd (looking_none _ _ _ is)

-- a delivery that is OK has stored its record
own_stored : (q : Request) (own : List RunEvent) (given : Reply) → IsSimple q → OwnStored q own → IsAnswered q own → first_in (λ e. e.reply) own ≡ Some given → is_ok given ≡ true → sum_by stored_in own ≡ delivered_by q
unfolding OwnStored stored_last
own_stored (request.Make name) own given s o a r ok = o
own_stored (request.Copy name uid target) own given s o a r ok = o
own_stored (request.Expunge name uid) own given s o a r ok = o
own_stored (request.Flag name uid flags) own given s o a r ok = o
own_stored (request.Deliver name time octets) own given s o (inl none) r ok = absurd (let k : None ≡ Some given = sym none ∙ r in cc k)
own_stored (request.Deliver name time octets) own given s o (inr a) r ok = o.0 ∙ ap stored_last a.3.last_is ∙ stored
  where
    same : a.0 ≡ given
    same = let k : Some a.0 ≡ Some given = sym a.1 ∙ r in cc k

    no_refusal : (one : Reply) → is_ok one ≡ true → refusal_in one ≡ None
    no_refusal (reply.Refused why) e = absurd (let k : false ≡ true = e in cc k)
    no_refusal one e = refl

    unrefused : a.3.event.refused ≡ None
    unrefused = last_unrefused own a.3.event a.3.last_is (a.2 ∙ ap refusal_in same ∙ no_refusal given ok)

    stored : stored_last (Some a.3.event) ≡ 1
    stored =
        let ended : behind_event a.3.around a.3.run (request.Deliver name time octets) a.3.event None ≡ None = subst (λ (r : Option Refusal). behind_event a.3.around a.3.run (request.Deliver name time octets) a.3.event r ≡ None) unrefused a.3.ended in
        let by : stored_by a.3.event.part None ≡ 1 = delivery_ended a.3.around a.3.run a.3.event a.3.event.part ended in
        ap (stored_by a.3.event.part) unrefused ∙ by
own_stored q own given s o a r ok = absurd s

-- ---- the run

-- what the events of each request have come to
abbrev pub AreOwn : ℕ → ℕ → Run → Type 0
AreOwn lanes number run = (i : ℕ) → OwnStored (made_request lanes number i).1 (own_events i run) × IsAnswered (made_request lanes number i).1 (own_events i run)

abbrev OwnOf : ℕ → ℕ → ℕ → List RunEvent → Type 0
OwnOf lanes number i own = OwnStored (made_request lanes number i).1 own × IsAnswered (made_request lanes number i).1 own

-- an event more
event_on : (lanes count number : ℕ) (around after : Around) (run : Run) (lists : Lists) (event : RunEvent) → AreOwn lanes number run → IsNextEvent around after (script_of lanes count number) run lists event
    → AreOwn lanes number (and_then run event) × HasMore (stored_in event) (map_of run) (map_of (and_then run event)) × (event.request < count)
event_on lanes count number around after run lists event own next = (each, run_with run event goes.0, lt)
  where
    lt : event.request < count
    lt = let l = script_length lanes count number in let w = slice_get_within (script_of lanes count number) event.request next.asked next.request_is in omega (arith, l, w)

    is : next.asked ≡ made_request lanes number event.request
    is = let k : Some next.asked ≡ Some (made_request lanes number event.request) = sym next.request_is ∙ asked_is lanes count number event.request lt in cc k

    ev : IsEvent around after run lists (made_request lanes number event.request).1 event
    ev = subst (λ (asked : ℕ × Request). IsEvent around after run lists asked.1 event) is next.is_event

    goes : AllByRecursion IsSmall event.map_entries × OwnStored (made_request lanes number event.request).1 (own_events event.request run ++ event ∷ [])
    goes = own_goes_on around after run lists (made_request lanes number event.request).1 event (round_simple number event.request (event.request % lanes + 1) (event.request / lanes)) ev (own event.request).0

    here : OwnOf lanes number event.request (own_events event.request (and_then run event))
    here = subst (OwnOf lanes number event.request) (sym (own_more event.request run event (eq-eqb event.request event.request refl))) (goes.1, answered_on around after run lists (made_request lanes number event.request).1 event ev next.unanswered)

    each : AreOwn lanes number (and_then run event)
    each i = by_place (event.request == i) refl
      where
        by_place : (b : Bool) → (event.request == i) ≡ b → OwnOf lanes number i (own_events i (and_then run event))
        by_place true e = subst (λ (k : ℕ). OwnOf lanes number k (own_events k (and_then run event))) (eqb-true event.request i e) here
        by_place false e = subst (OwnOf lanes number i) (sym (own_other i run event e)) (own i)

-- the run up to an event
pub record UpTo (lanes count number : ℕ) (run : Run) (n : ℕ) : Type 0 where
  pub own : AreOwn lanes number (before n run)
  pub more : HasMore (sum_by stored_in (take n run.events)) (map_of (before 0 run)) (map_of (before n run))
  pub within : AllByRecursion (λ e. e.request < count) (take n run.events)

-- an event of the run, and the run with it
pub event_at : (run : Run) (n : ℕ) → n < length run.events → (event : RunEvent) × (slice_get run.events n ≡ Some event) × (before (suc n) run ≡ and_then (before n run) event)
event_at run n lt =
    let d = with_first run.events lt in
    let plus : n + 1 ≡ suc n = omega arith in (
      slice_index_or run.events n d,
      slice_get-get_or run.events n d lt,
      ap (λ (es : List RunEvent). record run { events = es }) (ap (λ (k : ℕ). take k run.events) (sym plus) ∙ take_more run.events n d lt),
    )
  where
    with_first : (xs : List RunEvent) → n < length xs → RunEvent
    with_first [] lt = absurd (omega (arith, lt))
    with_first (x ∷ xs) lt = x

pub all_push : (P : RunEvent → Type 0) (xs : List RunEvent) (y : RunEvent) → AllByRecursion P xs → P y → AllByRecursion P (xs ++ y ∷ [])
all_push P [] y a h = (h, tt)
all_push P (x ∷ xs) y a h = (a.0, all_push P xs y a.1 h)

pub up_to : (lanes count number : ℕ) (around after : ℕ → Around) (start : Lists) (run : Run) (journal : List JournalStep) → AreNextEvents around after (script_of lanes count number) start run journal → (n : ℕ) → n ≤ length run.events → UpTo lanes count number run n
up_to lanes count number around after start run journal next zero le = record {
  own = λ i. (own_none (made_request lanes number i).1, inl refl);
  more = no_more (map_of (before 0 run));
  within = tt;
}
up_to lanes count number around after start run journal next (suc n) le = with_event e.0 e.1 (ap (λ (r : Run). r.events) e.2) (up_to lanes count number around after start run journal next n (omega (arith, le)))
  where
    e : (event : RunEvent) × (slice_get run.events n ≡ Some event) × (before (suc n) run ≡ and_then (before n run) event)
    e = event_at run n (omega (arith, le))

    with_event : (e : RunEvent) → slice_get run.events n ≡ Some e → take (suc n) run.events ≡ take n run.events ++ e ∷ [] → UpTo lanes count number run n → UpTo lanes count number run (suc n)
    with_event e is taken u =
        let on = event_on lanes count number (around n) (after n) (before n run) (lists_before start journal n) e u.own (next n e is) in
        let same : before (suc n) run ≡ and_then (before n run) e = ap (λ (es : List RunEvent). record run { events = es }) taken in
        let sum : sum_by stored_in (take (suc n) run.events) ≡ sum_by stored_in (take n run.events) + stored_in e = ap (sum_by stored_in) taken ∙ sum_by_push stored_in (take n run.events) e in
        let more = more_along (sum_by stored_in (take n run.events)) (stored_in e) (map_of (before 0 run)) (map_of (before n run)) (map_of (and_then (before n run) e)) u.more on.1 in
        record {
          own = subst (AreOwn lanes number) (sym same) on.0;
          more = subst (λ (r : Run). HasMore (sum_by stored_in (take (suc n) run.events)) (map_of (before 0 run)) (map_of r)) (sym same) (subst (λ (k : ℕ). HasMore k (map_of (before 0 run)) (map_of (and_then (before n run) e))) (sym sum) more);
          within = subst (AllByRecursion (λ (x : RunEvent). x.request < count)) (sym taken) (all_push (λ x. x.request < count) (take n run.events) e u.within on.2);
        }

-- ---- by requests

parts_more : (count : ℕ) (f : RunEvent → ℕ) (e : RunEvent) (es : List RunEvent) (i : ℕ) → sum_by f (filter (λ x. x.request == i) (e ∷ es)) ≡ at_place (λ _. f e) e.request i + sum_by f (filter (λ x. x.request == i) es)
parts_more count f e es i = by_test (e.request == i)
  where
    by_test : (b : Bool) → sum_by f (if b then e ∷ filter (λ x. x.request == i) es else filter (λ x. x.request == i) es) ≡ (if b then f e else 0) + sum_by f (filter (λ x. x.request == i) es)
    by_test true = sum_by-cons f e (filter (λ (x : RunEvent). x.request == i) es)
    by_test false = omega arith

zero_sum : (xs : List ℕ) → sum_by (λ (i : ℕ). 0) xs ≡ 0
zero_sum [] = refl
zero_sum (x ∷ xs) = let c = sum_by-cons (λ (i : ℕ). 0) x xs in let r = zero_sum xs in omega (arith, c, r)

pub sum_by_requests : (count : ℕ) (f : RunEvent → ℕ) (es : List RunEvent) → AllByRecursion (λ e. e.request < count) es → sum_by f es ≡ sum_by (λ i. sum_by f (filter (λ x. x.request == i) es)) (below count)
sum_by_requests count f [] w = sym (zero_sum (below count))
sum_by_requests count f (e ∷ es) w =
    let both = sum_both (λ i. sum_by f (filter (λ x. x.request == i) (e ∷ es))) (at_place (λ _. f e) e.request) (λ i. sum_by f (filter (λ x. x.request == i) es)) (parts_more count f e es) (below count) in
    let one = at_one (λ _. f e) e.request count w.0 in
    let r = sum_by_requests count f es w.1 in
    let c = sum_by-cons f e es in
    omega (arith, both, one, r, c)

pub same_below : (f g : ℕ → ℕ) (n : ℕ) → ((i : ℕ) → i < n → f i ≡ g i) → sum_by f (below n) ≡ sum_by g (below n)
same_below f g zero same = refl
same_below f g (suc n) same =
    let a = sum_by_push f (below n) n in
    let b = sum_by_push g (below n) n in
    let r = same_below f g n (λ i lt. same i (omega (arith, lt))) in
    let e = same n (omega arith) in
    omega (arith, a, b, r, e)

-- ---- a script that was served

pub records_delivered : (lanes count number : ℕ) (start : Lists) (run : Run) (journal : List JournalStep) (broken : Broken) (given : List Reply) (old new : Faults) (first m : MapMeaning) (drawn : Highest) (calls : ℕ) → length given ≡ count → All (λ one. is_ok one ≡ true) given
    → IsServed start (script_of lanes count number) run journal broken (map Some given) old new first m drawn calls → HasMore (deliveries_in (script_of lanes count number)) first m
records_delivered lanes count number start run journal broken given old new first m drawn calls many ok served =
    let u = up_to lanes count number served.around served.after start run journal served.next (length run.events) (omega arith) in
    let whole : before (length run.events) run ≡ run = ap (λ (es : List RunEvent). record run { events = es }) (take-length run.events) in
    let own : AreOwn lanes number run = subst (AreOwn lanes number) whole u.own in
    let within : AllByRecursion (λ e. e.request < count) run.events = subst (AllByRecursion (λ (e : RunEvent). e.request < count)) (take-length run.events) u.within in
    let sum : sum_by stored_in (take (length run.events) run.events) ≡ sum_by stored_in run.events = ap (sum_by stored_in) (take-length run.events) in
    let by = sum_by_requests count stored_in run.events within in
    let each = same_below (λ i. sum_by stored_in (own_events i run)) (λ i. delivered_by (made_request lanes number i).1) count (stored own) in
    let script : deliveries_in (script_of lanes count number) ≡ sum_by (λ i. delivered_by (made_request lanes number i).1) (below count) = fold-map (λ (a : ℕ) (asked : ℕ × Request). a + delivered_by asked.1) (made_request lanes number) 0 (below count) in
    let total : sum_by stored_in (take (length run.events) run.events) ≡ deliveries_in (script_of lanes count number) = sum ∙ by ∙ each ∙ sym script in
    let more : HasMore (sum_by stored_in (take (length run.events) run.events)) (map_of (before 0 run)) (map_of run) = subst (λ (r : Run). HasMore (sum_by stored_in (take (length run.events) run.events)) (map_of (before 0 run)) (map_of r)) whole u.more in
    subst (λ (k : ℕ). HasMore k first m) total
    (subst (λ (x : MapMeaning). HasMore (sum_by stored_in (take (length run.events) run.events)) x m) served.begins.map_is (subst (HasMore (sum_by stored_in (take (length run.events) run.events)) (map_of (before 0 run))) served.come.map_is more))
  where
    stored : AreOwn lanes number run → (i : ℕ) → i < count → sum_by stored_in (own_events i run) ≡ delivered_by (made_request lanes number i).1
    stored own i lt =
        let lt_given : i < length given = omega (arith, lt, many) in
        let one = slice_index_or given i reply.Done in
        let has : slice_get given i ≡ Some one = slice_get-get_or given i reply.Done lt_given in
        let replied : slice_get (map Some given) i ≡ Some (Some one) = slice_get-map Some given i ∙ ap (option_map Some) has in
        let r : Some (reply_of i run) ≡ Some (Some one) = sym (served.given.1 i (let l = script_length lanes count number in omega (arith, l, lt))) ∙ replied in
        own_stored (made_request lanes number i).1 (own_events i run) one (round_simple number i (i % lanes + 1) (i / lanes)) (own i).0 (own i).1 (cc r) (ok i reply.Done lt_given)
