-- The entries of a journal as steps are added to it, and how many there are.
use Rattle.std.proofs.Common.{◌≡◌, ◌<◌, ◌≤◌, ◌+◌, ◌*◌, ◌==◌, ℕ, zero, suc, Bool, true, false, cond, List, [], ◌∷◌, ◌++◌, map, Option, Some, refl, sym, ◌∙◌, ap, subst, arith}
use Rattle.std.specs.Prelude.{All, length, slice_get}
use Rattle.std.proofs.lemmas.Grind.{common_steps}
use Rattle.std.proofs.lemmas.List.Elements.{All-cons, All-head, All-nil, All-tail}
use Rattle.disk_model.specs.Disk.{History, IsTold}
use Rattle.mdbox_base.specs.declared.script.JournalEntry.{JournalEntry}
use Rattle.journal.specs.Journal.{AreEntriesOf, AreSteps, IsFirstPart, JournalStep, Requests, StandInOrder, halves_of, moment_of, steps_of}
use Rattle.list_machine.specs.Run.{Run, RunEvent, and_then}
use Rattle.model_lists.specs.Lists.{Lists}
use Rattle.mdbox_base.specs.declared.requests.Request.{Request}
use Rattle.mdbox_base.specs.declared.requests.Request.TheVariants as request
use Rattle.std.specs.Option.{option_map_or}
use Rattle.std.proofs.lemmas.List.{length-append, length-map}
use Rattle.std.proofs.lemmas.Option.{slice_get_within}
use Rattle.journal.proofs.JournalLemmas.{get_more}
use Rattle.journal.proofs.ReachedLemmas.{get_last, within_some}
use Rattle.serving.proofs.ServingLemmas.{some_at}
use Rattle.lanes.specs.Worlds.{AreEntriesAt, IsEntryAt}

-- ---- entries

pub entries_as_many : (history : Option History) (began : ℕ) (moment : JournalStep → ℕ) (steps : List JournalStep) (entries : List JournalEntry) → AreEntriesAt history began moment steps entries → length entries ≡ length steps
entries_as_many history began moment [] [] are = refl
entries_as_many history began moment (s ∷ steps) (e ∷ entries) are = let h = entries_as_many history began moment steps entries are.1 in omega (arith, h)
entries_as_many history began moment steps entries are = absurd are

entry_stays : (before after : Option History) (began old new : ℕ) (step : JournalStep) (entry : JournalEntry) → (IsTold after → IsTold before) → old ≡ new → IsEntryAt before began old step entry → IsEntryAt after began new step entry
entry_stays before after began old new step entry told same e =
    subst (λ (m : ℕ). IsEntryAt after began m step entry) same (record { lane_is = e.lane_is; request_is = e.request_is; half_is = e.half_is; calls_are = λ t. e.calls_are (told t) })

pub entries_stay : (before after : Option History) (began : ℕ) (old new : JournalStep → ℕ) (steps : List JournalStep) (entries : List JournalEntry) → (IsTold after → IsTold before) → All (λ s. old s ≡ new s) steps → AreEntriesAt before began old steps entries → AreEntriesAt after began new steps entries
entries_stay before after began old new [] [] told same are = tt
entries_stay before after began old new (s ∷ steps) (e ∷ entries) told same are =
    (entry_stays before after began (old s) (new s) s e told (All-head (λ (x : JournalStep). old x ≡ new x) s steps same) are.0, entries_stay before after began old new steps entries told (All-tail (λ (x : JournalStep). old x ≡ new x) s steps same) are.1)
entries_stay before after began old new steps entries told same are = absurd are

pub entries_join : (history : Option History) (began : ℕ) (moment : JournalStep → ℕ) (steps more : List JournalStep) (entries last : List JournalEntry) → AreEntriesAt history began moment steps entries → AreEntriesAt history began moment more last → AreEntriesAt history began moment (steps ++ more) (entries ++ last)
entries_join history began moment [] more [] last are join = join
entries_join history began moment (s ∷ steps) more (e ∷ entries) last are join = (are.0, entries_join history began moment steps more entries last are.1 join)
entries_join history began moment steps more entries last are join = absurd are

pub entries_told : (history : History) (began : ℕ) (run : Run) (steps : List JournalStep) (entries : List JournalEntry) → AreEntriesAt (Some history) began (moment_of run) steps entries → AreEntriesOf run began steps entries
entries_told history began run [] [] are = tt
entries_told history began run (s ∷ steps) (e ∷ entries) are = (record { lane_is = are.0.lane_is; request_is = are.0.request_is; half_is = are.0.half_is; calls_are = are.0.calls_are tt }, entries_told history began run steps entries are.1)
entries_told history began run steps entries are = absurd are

-- ---- moments

pub moment_stays : (run : Run) (event : RunEvent) (step : JournalStep) → step.event < length run.events → moment_of run step ≡ moment_of (and_then run event) step
moment_stays run event step lt =
    let e = within_some run.events step.event lt in
    sym (ap (λ (o : Option RunEvent). option_map_or (λ (x : RunEvent). x.moment) o 0) (get_more run.events (event ∷ []) step.event e.0 e.1 ∙ sym e.1))

pub moment_last : (run : Run) (event : RunEvent) (step : JournalStep) → step.event ≡ length run.events → moment_of (and_then run event) step ≡ event.moment
moment_last run event step at =
    ap (λ (o : Option RunEvent). option_map_or (λ (x : RunEvent). x.moment) o 0) (ap (λ (n : ℕ). slice_get (run.events ++ event ∷ []) n) at ∙ get_last run.events event)

-- ---- how many steps there are

-- the sum of a function of the numbers below this one
abbrev sum_to : (ℕ → ℕ) → ℕ → ℕ
sum_to f zero = 0
sum_to f (suc n) = f n + sum_to f n

-- one at this place
abbrev one_at : ℕ → ℕ → ℕ
one_at place i = cond (place == i) 1 0

-- how many steps of a request there are
abbrev steps_many : List JournalStep → ℕ → ℕ
steps_many journal i = length (steps_of i journal)

one_more : (step : JournalStep) (journal : List JournalStep) (i : ℕ) → steps_many (step ∷ journal) i ≡ one_at step.request i + steps_many journal i
one_more step journal i = by_test (step.request == i)
  where
    by_test : (b : Bool) → length (cond b (step ∷ steps_of i journal) (steps_of i journal)) ≡ cond b 1 0 + steps_many journal i
    by_test true = omega arith
    by_test false = omega arith

same_or_less : (place n : ℕ) → (place == n) ≡ false → place < suc n → place < n
same_or_less place n e lt = grind (arith, common_steps, e, lt)

once_at : (n place : ℕ) → place < n → 1 ≤ sum_to (one_at place) n
once_at zero place lt = absurd (let h : place < 0 = lt in omega (arith, h))
once_at (suc n) place lt = by_test (place == n) refl (λ less. once_at n place less)
  where
    by_test : (b : Bool) → (place == n) ≡ b → (place < n → 1 ≤ sum_to (one_at place) n) → 1 ≤ one_at place n + sum_to (one_at place) n
    by_test true e more = let t : one_at place n ≡ 1 = ap (λ (b : Bool). cond b 1 0) e in omega (arith, t)
    by_test false e more = let h = more (same_or_less place n e lt) in omega (arith, h)

sum_more : (f g h : ℕ → ℕ) (n : ℕ) → ((i : ℕ) → f i ≡ g i + h i) → sum_to f n ≡ sum_to g n + sum_to h n
sum_more f g h zero each = refl
sum_more f g h (suc n) each = let a = sum_more f g h n each in let b = each n in omega (arith, a, b)

sum_least : (journal : List JournalStep) (n : ℕ) → All (λ s. s.request < n) journal → length journal ≤ sum_to (steps_many journal) n
sum_least [] n all = omega arith
sum_least (step ∷ journal) n all =
    let h = sum_least journal n (All-tail (λ (s : JournalStep). s.request < n) step journal all) in
    let one = once_at n step.request (All-head (λ (s : JournalStep). s.request < n) step journal all) in
    let more = sum_more (steps_many (step ∷ journal)) (one_at step.request) (steps_many journal) n (one_more step journal) in
    omega (arith, h, one, more)

sum_most : (f : ℕ → ℕ) (n : ℕ) → ((i : ℕ) → i < n → f i ≤ 2) → sum_to f n ≤ 2 * n
sum_most f zero each = omega arith
sum_most f (suc n) each = let h = sum_most f n (λ i lt. each i (omega (arith, lt))) in let one = each n (omega arith) in omega (arith, h, one)

front_least : {X : Type 0} → (xs ys : List X) → IsFirstPart xs ys → length xs ≤ length ys
front_least xs ys part = let h : length (xs ++ part.0) ≡ length ys = ap length part.1 in let k = length-append xs part.0 in omega (arith, h, k)

halves_two : (q : Request) → length (halves_of q) ≤ 2
halves_two (request.Move name uid target) = omega arith
halves_two q = omega arith

asked_within : (run : Run) (script : Requests) (old : Lists) (journal : List JournalStep) → AreSteps run script old journal → All (λ s. s.request < length script) journal
asked_within run script old [] s = All-nil (λ (x : JournalStep). x.request < length script)
asked_within run script old (step ∷ journal) s =
    All-cons (λ (x : JournalStep). x.request < length script) step journal (slice_get_within script step.request s.0.asked s.0.request_is) (asked_within run script step.left journal s.1)

-- A journal has two steps for each request at the most.
pub journal_short : (run : Run) (script : Requests) (start : Lists) (journal : List JournalStep) → AreSteps run script start journal → StandInOrder script journal → length journal ≤ 2 * length script
journal_short run script start journal steps order =
    let least = sum_least journal (length script) (asked_within run script start journal steps) in
    let most = sum_most (steps_many journal) (length script) each in
    omega (arith, least, most)
  where
    each : (i : ℕ) → i < length script → steps_many journal i ≤ 2
    each i lt =
        let asked = some_at script i lt in
        let front = front_least (map (λ (s : JournalStep). s.half) (steps_of i journal)) (halves_of asked.0.1) (order.halves i asked.0 asked.1) in
        let two = halves_two asked.0.1 in
        let many = length-map (steps_of i journal) (λ (s : JournalStep). s.half) in
        omega (arith, front, two, many)
