-- A world goes on with an event of a lane.
use Rattle.std.proofs.Common.{◌≡◌, ◌<◌, ◌≤◌, ◌+◌, ◌-◌, ◌*◌, ◌^◌, ◌==◌, ◌&&◌, ℕ, zero, suc, Bool, true, false, cond, List, [], ◌∷◌, ◌++◌, map, slice_set, Option, Some, None, refl, sym, ◌∙◌, ap, subst, arith, inl, inr}
use Rattle.std.specs.Prelude.{◌≢◌, ◌⊎◌, All, is_some, length, min, slice_get, slice_index_or}
use Rattle.std.proofs.lemmas.Grind.{common_steps}
use Rattle.std.proofs.lemmas.List.{append-nil, length-append}
use Rattle.std.proofs.lemmas.List.Elements.{All-head, All-weaker}
use Rattle.std.proofs.lemmas.Bool.{eq-eqb, ne_eqb, and_right}
use Rattle.disk_model.specs.Disk.{Faults, History, IsMoment, IsTold, told_calls}
use Rattle.mdbox_base.specs.declared.progress.Did.{Did}
use Rattle.mdbox_base.specs.declared.progress.Did.TheVariants as did
use Rattle.mdbox_base.specs.declared.replies.Reply.{Reply}
use Rattle.mdbox_base.specs.declared.requests.Request.{Request}
use Rattle.mdbox_base.specs.declared.script.Half.{Half}
use Rattle.mdbox_base.specs.declared.script.JournalEntry.{JournalEntry}
use Rattle.model_kept.specs.Kept.{MailIsKept}
use Rattle.model_lists.specs.Lists.{Lists}
use Rattle.model_meaning.specs.MapMeaning.{MapMeaning}
use Rattle.list_machine.specs.Run.{Run, RunEvent, and_then}
use Rattle.journal.specs.Journal.{Broken, JournalStep, Requests, moment_of, no_broken}
use Rattle.journal.proofs.JournalLemmas.{steps_within}
use Rattle.serving.specs.Lanes.{replies_behind}
use Rattle.serving.specs.Turns.{IsTraceOf, LaneTurn}
use Rattle.serving.proofs.LaneLemmas.{get_set_other, get_set_same, nat_cases, one_some}
use Rattle.task_claims.specs.Claims.{one_if}
use Rattle.task_steps.specs.Serves.{BreaksBy}
use Rattle.task_steps.specs.Step.{Seen, ended_by}
use Rattle.mail_fetch.specs.Task.{seen_in}
use Rattle.lanes.specs.Going.{AddsEvent, IsGoing, IsStepOf, halves_told}
use Rattle.lanes.specs.Rows.{LaneRow, lanes_of}
use Rattle.lanes.specs.Worlds.{AreAdded, AreCounted, AreEntriesAt, IsEntryAt, IsWorldOf, Works, WorldValue, entries_broken, entries_made, replied_behind, replied_in}
use Rattle.lanes.specs.declared.lane.LaneEvent.{LaneEvent}
use Rattle.lanes.proofs.EntryLemmas.{entries_as_many, entries_join, entries_stay, journal_short, moment_last, moment_stays}
use Rattle.lanes.proofs.GoingLemmas.{going_on, in_turn}

-- ---- what the disk tells

told_before : (m : MapMeaning) (before after : Option History) → MailIsKept m before after → IsTold after → IsTold before
told_before m None None kept told = told
told_before m None (Some h) kept told = absurd (let z : Some h ≡ None = kept in cc z)
told_before m (Some g) after kept told = tt

-- the number of calls of an entry, as the disk told it
told_moment : (history : Option History) (moment : ℕ) → IsMoment history moment → IsTold history → moment ≡ min (told_calls history) (2 ^ 64 - 1)
told_moment None moment is told = absurd told
told_moment (Some h) moment is told = is

-- ---- entries of an event

calls_at : (moment told began : ℕ) → moment ≡ min told (2 ^ 64 - 1) → began ≤ 2 ^ 64 - 1 → moment - began ≡ min told (2 ^ 64 - 1) - min began (2 ^ 64 - 1)
calls_at moment told began is small = grind (arith, common_steps, is, small)

one_entry : (history : Option History) (began moment at : ℕ) (lane place : ℕ) (half : Half) (step : JournalStep) → began ≤ 2 ^ 64 - 1 → (IsTold history → moment ≡ min at (2 ^ 64 - 1)) → step.lane ≡ lane → step.request ≡ place → step.half ≡ half
    → IsEntryAt history began at step (record { lane = lane; request = place; half = half; calls = moment - began })
one_entry history began moment at lane place half step small is lane_is place_is half_is = record {
  lane_is = sym lane_is;
  request_is = sym place_is;
  half_is = sym half_is;
  calls_are = λ told. calls_at moment at began (is told) small;
}

first_half : (a : Half) (rest : List Half) (b : Half) → a ∷ rest ≡ b ∷ [] → (a ≡ b) × (rest ≡ [])
first_half a rest b e = (cc e, cc e)

none_made : (history : Option History) (began : ℕ) (moment : JournalStep → ℕ) (more : List JournalStep) → map (λ (s : JournalStep). s.half) more ≡ [] → AreEntriesAt history began moment more []
none_made history began moment [] halves = tt
none_made history began moment (s ∷ more) halves = absurd (let z : s.half ∷ map (λ (s : JournalStep). s.half) more ≡ [] = halves in cc z)

one_made : (history : Option History) (began later lane place : ℕ) (half : Half) (run : Run) (added : RunEvent) (more : List JournalStep) → began ≤ 2 ^ 64 - 1 → IsMoment history later → added.moment ≡ told_calls history → map (λ (s : JournalStep). s.half) more ≡ half ∷ [] → All (IsStepOf lane place run) more
    → AreEntriesAt history began (moment_of (and_then run added)) more (record { lane = lane; request = place; half = half; calls = later - began } ∷ [])
one_made history began later lane place half run added [] small is at halves are = absurd (let z : [] ≡ half ∷ [] = halves in cc z)
one_made history began later lane place half run added (s ∷ more) small is at halves are =
    let f = first_half s.half (map (λ (x : JournalStep). x.half) more) half halves in
    let own = All-head (IsStepOf lane place run) s more are in
    let moment : moment_of (and_then run added) s ≡ told_calls history = moment_last run added s own.event_is ∙ at in
    (one_entry history began later (moment_of (and_then run added) s) lane place half s small (λ told. told_moment history later is told ∙ ap (λ (n : ℕ). min n (2 ^ 64 - 1)) (sym moment)) own.lane_is own.request_is f.0, none_made history began (moment_of (and_then run added)) more f.1)

made_entries : (history : Option History) (began later lane place : ℕ) (how : Did) (run : Run) (added : RunEvent) (more : List JournalStep) → began ≤ 2 ^ 64 - 1 → IsMoment history later → added.moment ≡ told_calls history → map (λ (s : JournalStep). s.half) more ≡ halves_told how → All (IsStepOf lane place run) more
    → AreEntriesAt history began (moment_of (and_then run added)) more (entries_made how lane place (later - began))
made_entries history began later lane place (did.Step half) run added more small is at halves are = one_made history began later lane place half run added more small is at halves are
made_entries history began later lane place how run added more small is at halves are = none_made history began (moment_of (and_then run added)) more halves

all_stay : (run : Run) (added : RunEvent) (steps : List JournalStep) → All (λ s. s.event < length run.events) steps → All (λ s. moment_of run s ≡ moment_of (and_then run added) s) steps
all_stay run added = All-weaker (λ (x : JournalStep). x.event < length run.events) (λ (x : JournalStep). moment_of run x ≡ moment_of (and_then run added) x) (moment_stays run added)

all_same : (moment : JournalStep → ℕ) (steps : List JournalStep) → All (λ s. moment s ≡ moment s) steps
all_same moment steps k d less = refl

-- the journal with the entry of an event
journal_on : (before after : Option History) (began later lane place : ℕ) (how : Did) (run : Run) (added : RunEvent) (steps more : List JournalStep) (old new : List JournalEntry) (room : ℕ) → began ≤ 2 ^ 64 - 1 → IsMoment after later → added.moment ≡ told_calls after → map (λ (s : JournalStep). s.half) more ≡ halves_told how
    → All (IsStepOf lane place run) more → (IsTold after → IsTold before) → All (λ s. s.event < length run.events) steps → AreEntriesAt before began (moment_of run) steps old → length (steps ++ more) ≤ room
    → (entries_made how lane place (later - began) ≡ [] → new ≡ old) → (length old < room → new ≡ old ++ entries_made how lane place (later - began)) → AreEntriesAt after began (moment_of (and_then run added)) (steps ++ more) new
journal_on before after began later lane place how run added steps more old new room small is at halves are told within entries short unmade made =
    subst (λ (es : List JournalEntry). AreEntriesAt after began (moment_of (and_then run added)) (steps ++ more) es) (sym new_is)
    (entries_join after began (moment_of (and_then run added)) steps more old (entries_made how lane place (later - began)) (entries_stay before after began (moment_of run) (moment_of (and_then run added)) steps old told (all_stay run added steps within) entries) last)
  where
    last : AreEntriesAt after began (moment_of (and_then run added)) more (entries_made how lane place (later - began))
    last = made_entries after began later lane place how run added more small is at halves are

    by_entries : (es : List JournalEntry) → entries_made how lane place (later - began) ≡ es → length es ≡ length more → new ≡ old ++ es
    by_entries [] is_none many = unmade is_none ∙ sym (append-nil old)
    by_entries (e ∷ es) some many =
        let joined = length-append steps more in
        let old_many = entries_as_many before began (moment_of run) steps old entries in
        let there : suc (length es) ≡ length more = many in
        made (omega (arith, joined, old_many, there, short)) ∙ ap (λ (l : List JournalEntry). old ++ l) some

    new_is : new ≡ old ++ entries_made how lane place (later - began)
    new_is = by_entries (entries_made how lane place (later - began)) refl (entries_as_many after began (moment_of (and_then run added)) more (entries_made how lane place (later - began)) last)

-- ---- broken steps

still : (before after : Option History) (began : ℕ) (failed broke : Broken) (old new : List JournalEntry) → (IsTold after → IsTold before) → broke ≡ failed → AreEntriesAt before began (λ s. failed.began) failed.steps old → new ≡ old → AreEntriesAt after began (λ s. broke.began) broke.steps new
still before after began failed broke old new told same entries kept =
    subst (λ (b : Broken). AreEntriesAt after began (λ s. b.began) b.steps new) (sym same)
    (subst (λ (es : List JournalEntry). AreEntriesAt after began (λ s. failed.began) failed.steps es) (sym kept)
    (entries_stay before after began (λ s. failed.began) (λ s. failed.began) failed.steps old told (all_same (λ s. failed.began) failed.steps) entries))

broken_on : (before after : Option History) (began earlier lane place : ℕ) (how : Did) (run : Run) (added : RunEvent) (failed broke : Broken) (old new : List JournalEntry) → began ≤ 2 ^ 64 - 1 → IsMoment before earlier → added.lane ≡ lane → added.request ≡ place → (IsTold after → IsTold before)
    → BreaksBy how run added (told_calls before) failed broke → ((half : Half) → how ≡ did.Broken half → failed ≡ no_broken) → AreEntriesAt before began (λ s. failed.began) failed.steps old
    → (entries_broken how lane place (earlier - began) ≡ [] → new ≡ old) → (length old < 16 → new ≡ old ++ entries_broken how lane place (earlier - began)) → AreEntriesAt after began (λ s. broke.began) broke.steps new
broken_on before after began earlier lane place (did.Broken half) run added failed broke old new small is on at told breaks once entries same more =
    subst (λ (b : Broken). AreEntriesAt after began (λ s. b.began) b.steps new) (sym breaks.2)
    (subst (λ (es : List JournalEntry). AreEntriesAt after began (λ s. told_calls before) (breaks.1 ∷ []) es) (sym new_is)
    (one_entry after began earlier (told_calls before) lane place half breaks.1 small (λ t. told_moment before earlier is (told t)) (breaks.3 ∙ on) (breaks.4 ∙ at) breaks.5, tt))
  where
    none : AreEntriesAt before began (λ s. no_broken.began) [] old
    none = subst (λ (b : Broken). AreEntriesAt before began (λ s. b.began) b.steps old) (once half refl) entries

    empty : (es : List JournalEntry) → AreEntriesAt before began (λ s. no_broken.began) [] es → es ≡ []
    empty [] are = refl
    empty (e ∷ es) are = absurd are

    new_is : new ≡ record { lane = lane; request = place; half = half; calls = earlier - began } ∷ []
    new_is = let e = empty old none in more (let l : length old ≡ 0 = ap length e in omega (arith, l)) ∙ ap (λ (es : List JournalEntry). es ++ record { lane = lane; request = place; half = half; calls = earlier - began } ∷ []) e
broken_on before after began earlier lane place how run added failed broke old new small is on at told breaks once entries same more = still before after began failed broke old new told breaks entries (same refl)

-- ---- counts

abbrev pub one_of : ℕ → ℕ × Request → Option Reply → ℕ
one_of lane asked given = cond (asked.0 == lane && is_some given) 1 0

pub one_none : (lane : ℕ) (asked : ℕ × Request) → one_of lane asked None ≡ 0
one_none lane asked = ap one_if (and_right (asked.0 == lane) false refl)

one_some_of : (lane : ℕ) (asked : ℕ × Request) (given : Reply) → one_of lane asked (Some given) ≡ one_if (asked.0 == lane)
one_some_of lane asked given = by_test (asked.0 == lane)
  where
    by_test : (b : Bool) → one_if (b && true) ≡ one_if b
    by_test true = refl
    by_test false = refl

-- a reply more at a place that had none
count_set : (lane : ℕ) (script : Requests) (replies : List (Option Reply)) (place : ℕ) (asked : ℕ × Request) (given : Reply) → slice_get script place ≡ Some asked → slice_get replies place ≡ Some None
    → replied_in lane script (slice_set replies place (Some given)) ≡ one_if (asked.0 == lane) + replied_in lane script replies
count_set lane [] replies place asked given there none = absurd (let z : None ≡ Some asked = there in cc z)
count_set lane (q ∷ script) [] place asked given there none = absurd (let z : None ≡ Some None = none in cc z)
count_set lane (q ∷ script) (r ∷ replies) zero asked given there none =
    let same : q ≡ asked = one_some q asked there in
    let empty : r ≡ None = one_some r None none in
    let first : one_of lane q r ≡ 0 = ap (one_of lane q) empty ∙ one_none lane q in
    let now : one_of lane q (Some given) ≡ one_if (asked.0 == lane) = one_some_of lane q given ∙ ap (λ (a : ℕ × Request). one_if (a.0 == lane)) same in
    omega (arith, first, now)
count_set lane (q ∷ script) (r ∷ replies) (suc place) asked given there none = let h = count_set lane script replies place asked given there none in omega (arith, h)

one_most : (lane : ℕ) (asked : ℕ × Request) (given : Option Reply) → one_of lane asked given ≤ 1
one_most lane asked given = by_test (asked.0 == lane && is_some given)
  where
    by_test : (b : Bool) → one_if b ≤ 1
    by_test true = omega arith
    by_test false = omega arith

count_most : (lane : ℕ) (script : Requests) (replies : List (Option Reply)) → replied_in lane script replies ≤ length replies
count_most lane [] replies = omega arith
count_most lane (q ∷ script) [] = omega arith
count_most lane (q ∷ script) (r ∷ replies) = let h = count_most lane script replies in let o = one_most lane q r in omega (arith, h, o)

index_of : (counts : List ℕ) (k count : ℕ) → slice_get counts k ≡ Some count → slice_index_or counts k 0 ≡ count
index_of [] k count there = absurd (let z : None ≡ Some count = there in cc z)
index_of (a ∷ counts) zero count there = one_some a count there
index_of (a ∷ counts) (suc k) count there = index_of counts k count there

pub counted_on : (script : Requests) (replies : List (Option Reply)) (counts : List ℕ) (k place : ℕ) (request : Request) (ended : Option Reply) → slice_get script place ≡ Some (k + 1, request) → slice_get replies place ≡ Some None → length replies ≤ 100000
    → AreCounted script replies counts → AreCounted script (replies_behind ended place replies) (replied_behind ended k counts)
counted_on script replies counts k place request None asked none short are j count there = are j count there
counted_on script replies counts k place request (Some given) asked none short are j count there = by_case (nat_cases k j)
  where
    grown : (lane : ℕ) → replied_in lane script (slice_set replies place (Some given)) ≡ one_if ((k + 1) == lane) + replied_in lane script replies
    grown lane = count_set lane script replies place (k + 1, request) given asked none

    some_old : {X : Type 0} → (xs : List X) (n : ℕ) (x y : X) → slice_get (slice_set xs n x) n ≡ Some y → (z : X) × (slice_get xs n ≡ Some z)
    some_old [] n x y e = absurd (let z : None ≡ Some y = e in cc z)
    some_old (a ∷ xs) zero x y e = (a, refl)
    some_old (a ∷ xs) (suc n) x y e = some_old xs n x y e

    by_case : (k ≡ j) ⊎ (k ≢ j) → count ≡ replied_in (j + 1) script (slice_set replies place (Some given))
    by_case (inl e) =
        let was = some_old counts k (min (slice_index_or counts k 0 + 1) (2 ^ 64 - 1)) count (ap (λ (n : ℕ). slice_get (slice_set counts k (min (slice_index_or counts k 0 + 1) (2 ^ 64 - 1))) n) e ∙ there) in
        let now : min (slice_index_or counts k 0 + 1) (2 ^ 64 - 1) ≡ count = one_some _ count (sym (get_set_same counts k (min (slice_index_or counts k 0 + 1) (2 ^ 64 - 1)) was.0 was.1) ∙ (ap (λ (n : ℕ). slice_get (slice_set counts k (min (slice_index_or counts k 0 + 1) (2 ^ 64 - 1))) n) e ∙ there)) in
        let old : slice_index_or counts k 0 ≡ replied_in (k + 1) script replies = index_of counts k was.0 was.1 ∙ are k was.0 was.1 in
        let g = grown (k + 1) in
        let t : one_if ((k + 1) == (k + 1)) ≡ 1 = ap one_if (eq-eqb (k + 1) (k + 1) refl) in
        let most = count_most (k + 1) script replies in
        let all : count ≡ replied_in (k + 1) script (slice_set replies place (Some given)) = settle (slice_index_or counts k 0) (replied_in (k + 1) script replies) (replied_in (k + 1) script (slice_set replies place (Some given))) count now old (g ∙ ap (λ (n : ℕ). n + replied_in (k + 1) script replies) t) (let m = most in let s = short in omega (arith, m, s)) in
        all ∙ ap (λ (n : ℕ). replied_in (n + 1) script (slice_set replies place (Some given))) e
      where
        settle : (index old new count : ℕ) → min (index + 1) (2 ^ 64 - 1) ≡ count → index ≡ old → new ≡ 1 + old → old ≤ 100000 → count ≡ new
        settle index old new count now is grows small = grind (arith, common_steps, now, is, grows, small)
    by_case (inr apart) =
        let old = are j count (sym (get_set_other counts k j (min (slice_index_or counts k 0 + 1) (2 ^ 64 - 1)) apart) ∙ there) in
        let g = grown (j + 1) in
        let t : one_if ((k + 1) == (j + 1)) ≡ 0 = ap one_if (ne_eqb (k + 1) (j + 1) (λ e. apart (omega (arith, e)))) in
        omega (arith, old, g, t)

-- ---- an event

-- what a run is with an event more, and the world but for its turns
pub record GoesTo {D : Type 0} (k : ℕ) (event : LaneEvent) (m : MapMeaning) (start : Lists) (script : Requests) (run : Run) (steps : List JournalStep) (failed : Broken) (began : Seen) (before after : Option History) (first second : Faults) (new : WorldValue D) : Type 0 where
  pub added : RunEvent
  pub more : List JournalStep
  pub broke : Broken
  pub adds : AddsEvent (k + 1) event run m before after first second added more failed broke
  pub is : (finished : Bool) (turns : List LaneTurn) → IsTraceOf finished turns (and_then run added) (lanes_of new.rows) → IsWorldOf start script (and_then run added) (steps ++ more) broke began after second (record new { turns = turns; finished = finished })

pub works_by : {D : Type 0} → (k : ℕ) (old new : WorldValue D) (before after : Option History) (first second : Faults) → (w : Works k old new before after first second) → old.began ≤ 2 ^ 64 - 1 → length old.replies ≤ 100000
    → (start : Lists) (script : Requests) (run : Run) (steps : List JournalStep) (failed : Broken) (began : Seen) → IsWorldOf start script run steps failed began before first old → GoesTo k w.event old.store.map start script run steps failed began before after first second new
works_by {D} k old new before after first second w clock few start script run steps failed began world = record {
  added = added;
  more = more;
  broke = broke;
  adds = adds;
  is = λ finished turns trace. record {
    going = going;
    entries = entries;
    broken = broken;
    counts = counts;
    trace = trace;
  };
}
  where
    g : (added : RunEvent) × (steps_made : List JournalStep) × (broke : Broken) × AddsEvent (k + 1) w.event run old.store.map before after first second added steps_made failed broke
        × IsGoing start script (and_then run added) (steps ++ steps_made) broke (replies_behind (ended_by w.event.ended) w.event.place old.replies) began new.store after second (slice_set old.rows k w.now)
    g = going_on start script run steps failed old.replies began old.rows k w.row w.now w.event old.store new.store before after first second w.there w.goes world.going

    added : RunEvent
    added = g.0

    more : List JournalStep
    more = g.1

    broke : Broken
    broke = g.2

    adds : AddsEvent (k + 1) w.event run old.store.map before after first second added more failed broke
    adds = g.3

    going : IsGoing start script (and_then run added) (steps ++ more) broke new.replies began new.store after second new.rows
    going = subst (λ (rs : List (Option Reply)). IsGoing start script (and_then run added) (steps ++ more) broke rs began new.store after second new.rows) (sym w.replies_are)
        (subst (λ (rows : List LaneRow). IsGoing start script (and_then run added) (steps ++ more) broke (replies_behind (ended_by w.event.ended) w.event.place old.replies) began new.store after second rows) (sym w.rows_are) g.4)

    told : IsTold after → IsTold before
    told = told_before old.store.map before after adds.mail

    as_many : length old.replies ≡ length script
    as_many = world.going.serving.given.0

    short : length (steps ++ more) ≤ 2 * length old.replies
    short = let h = journal_short (and_then run added) script start (steps ++ more) going.serving.serves.legal.steps going.serving.serves.legal.order in let m = as_many in omega (arith, h, m)

    entries : AreEntriesAt after new.began (moment_of (and_then run added)) (steps ++ more) new.journal
    entries = subst (λ (b : ℕ). AreEntriesAt after b (moment_of (and_then run added)) (steps ++ more) new.journal) (sym w.began_is)
        (journal_on before after old.began w.later (k + 1) w.event.place w.event.did run added steps more old.journal new.journal (2 * length old.replies) clock w.later_is adds.moment_is adds.halves_are adds.steps_are told
        (steps_within run script start steps world.going.serving.serves.legal.steps) world.entries short w.journal.none w.journal.all)

    broken : AreEntriesAt after new.began (λ s. broke.began) broke.steps new.broken
    broken = subst (λ (b : ℕ). AreEntriesAt after b (λ s. broke.began) broke.steps new.broken) (sym w.began_is)
        (broken_on before after old.began w.earlier (k + 1) w.event.place w.event.did run added failed broke old.broken new.broken clock w.earlier_is adds.lane_is adds.request_is told adds.breaks adds.once world.broken w.broken.none w.broken.all)

    turn : (request : Request) × (slice_get script w.event.place ≡ Some (k + 1, request)) × (slice_get old.replies w.event.place ≡ Some None)
    turn = let t = in_turn start script run steps failed old.replies began (seen_in old.store before first) old.rows k w.row w.goes.queued old.store before w.there w.goes.was world.going.serving in
        (t.0, ap (λ (n : ℕ). slice_get script n) w.goes.goes.place_is ∙ t.1.asked, ap (λ (n : ℕ). slice_get old.replies n) w.goes.goes.place_is ∙ t.1.unanswered)

    counts : AreCounted script new.replies new.replied
    counts = subst (λ (rs : List (Option Reply)). AreCounted script rs new.replied) (sym w.replies_are)
        (subst (λ (cs : List ℕ). AreCounted script (replies_behind (ended_by w.event.ended) w.event.place old.replies) cs) (sym w.replied_are)
        (counted_on script old.replies old.replied k w.event.place turn.0 (ended_by w.event.ended) turn.1 turn.2 few world.counts))

-- ---- what a world's own calls make of it

-- the number of a lane, from its place
pub lane_back : (n : ℕ) → 1 ≤ n → n ≡ n - 1 + 1
lane_back n some = omega (arith, some)

-- the entries of an event are those that the lane's number and the moment give
pub entries_at : (how : Did) (lane place calls moment began : ℕ) → 1 ≤ lane → calls ≡ moment - began → entries_made how lane place calls ≡ entries_made how (lane - 1 + 1) place (moment - began)
entries_at how lane place calls moment began some is = ap (λ (n : ℕ). entries_made how n place calls) (lane_back lane some) ∙ ap (λ (n : ℕ). entries_made how (lane - 1 + 1) place n) is

pub broken_at : (how : Did) (lane place calls moment began : ℕ) → 1 ≤ lane → calls ≡ moment - began → entries_broken how lane place calls ≡ entries_broken how (lane - 1 + 1) place (moment - began)
broken_at how lane place calls moment began some is = ap (λ (n : ℕ). entries_broken how n place calls) (lane_back lane some) ∙ ap (λ (n : ℕ). entries_broken how (lane - 1 + 1) place n) is

-- the same entries, with room for them where there is room for as many
pub added_as : (room less : Type 0) (made added entries now : List JournalEntry) → made ≡ added → (less → room) → AreAdded room made entries now → AreAdded less added entries now
added_as room less made added entries now same more are = subst (λ (es : List JournalEntry). AreAdded less es entries now) same (record { all = λ short. are.all (more short); none = are.none; some = are.some })

-- a world as its own call has it, and as the caller has it
pub works_from : {D : Type 0} → (H : D → Option History) (F : D → Faults) (k : ℕ) (was old new : WorldValue D) → was ≡ old → Works k was new (H was.store.disk) (H new.store.disk) (F was.store.disk) (F new.store.disk) → Works k old new (H old.store.disk) (H new.store.disk) (F old.store.disk) (F new.store.disk)
works_from H F k was old new same w = subst (λ (v : WorldValue _). Works k v new (H v.store.disk) (H new.store.disk) (F v.store.disk) (F new.store.disk)) same w
