-- A legal journal of a made script is a course of its requests.
use Rattle.exercise_course.proofs.Common.{◌≡◌, ◌⊎◌, ◌≤◌, ◌<◌, ◌+◌, ◌/◌, ◌%◌, ◌==◌, ℕ, zero, suc, Bool, true, false, cond, if◌then◌else◌, List, [], ◌∷◌, ◌++◌, All, AllPairs, filter, length, map, slice_get, slice_index_or, sum_by, Some, refl, AllByRecursion, option_map, sym, ◌∙◌, ap, arith, subst}
use Rattle.exercise_course.proofs.Common.{inl, inr, eq-eqb, eqb-true, eqb-false, length-append, All-head, All-tail, sum_by-cons, slice_get-get_or, slice_get-map, slice_get_within, Faults, Request, Refusal, Reply, Mailbox, Lists, pairs_head, pairs_tail, Run, before, Answers, AreSteps, IsStep}
use Rattle.exercise_course.proofs.Common.{JournalStep, left_by, below, made_request, made_round, made_turn, BeginsFree, is_hindered, is_ok}
use Rattle.std.proofs.lemmas.List.{length-map}
use Rattle.std.proofs.lemmas.List.Folds.{fold-map}
use Rattle.std.proofs.lemmas.List.Sums.{length-filter}
use Rattle.mdbox_base.specs.declared.requests.Request.TheVariants as request
use Rattle.mdbox_base.specs.declared.replies.Refusal.TheVariants as refusal
use Rattle.mdbox_base.specs.declared.replies.Reply.TheVariants as reply
use Rattle.journal.specs.Journal.{AreReplied, HasAllSteps, HasReply, IsLegal, IsReplyOf, Requests, steps_of}
use Rattle.exercise_course.specs.Hindered.{is_stopped}
use Rattle.exercise_course.specs.InOrder.{lists_in_order, message_total, octet_total}
use Rattle.exercise_course.proofs.BoxLemmas.{weight_in, weight_of}
use Rattle.exercise_course.proofs.CourseLemmas.{anything, AreAllPlaces, AreTurns, IsWhole, Turn, all_are_whole, left_of, place_of, weighs_in_order}
use Rattle.exercise_course.proofs.PlaceLemmas.{RiseInLanes, times}
use Rattle.exercise_course.proofs.ReadyLemmas.{ready_answers}

-- ---- the script

abbrev pub script_of : ℕ → ℕ → ℕ → Requests
script_of lanes count number = map (made_request lanes number) (below count)

length_below : (n : ℕ) → length (below n) ≡ n
length_below zero = refl
length_below (suc n) = length-append (below n) (n ∷ []) ∙ (let e = length_below n in omega (arith, e))

pub script_length : (lanes count number : ℕ) → length (script_of lanes count number) ≡ count
script_length lanes count number = length-map (below count) (made_request lanes number) ∙ length_below count

get_push : (xs : List ℕ) (y i : ℕ) → i < length xs → slice_get (xs ++ y ∷ []) i ≡ slice_get xs i
get_push [] y i lt = absurd (omega (arith, lt))
get_push (x ∷ xs) y zero lt = refl
get_push (x ∷ xs) y (suc i) lt = get_push xs y i (omega (arith, lt))

get_last : (xs : List ℕ) (y i : ℕ) → i ≡ length xs → slice_get (xs ++ y ∷ []) i ≡ Some y
get_last [] y zero e = refl
get_last [] y (suc i) e = absurd (omega (arith, e))
get_last (x ∷ xs) y zero e = absurd (omega (arith, e))
get_last (x ∷ xs) y (suc i) e = get_last xs y i (omega (arith, e))

get_below : (n i : ℕ) → i < n → slice_get (below n) i ≡ Some i
get_below zero i lt = absurd (omega (arith, lt))
get_below (suc n) i lt = by_last (λ less. get_below n i less) (i == n) refl
  where
    many : length (below n) ≡ n
    many = length_below n

    by_last : (i < n → slice_get (below n) i ≡ Some i) → (b : Bool) → (i == n) ≡ b → slice_get (below (suc n)) i ≡ Some i
    by_last next true e = let k = eqb-true i n e in get_last (below n) n i (omega (arith, k, many)) ∙ ap Some (sym k)
    by_last next false e = let apart = eqb-false i n e in let less : i < n = omega (arith, lt, apart) in get_push (below n) n i (omega (arith, less, many)) ∙ next less

pub asked_is : (lanes count number i : ℕ) → i < count → slice_get (script_of lanes count number) i ≡ Some (made_request lanes number i)
asked_is lanes count number i lt = slice_get-map (made_request lanes number) (below count) i ∙ ap (option_map (made_request lanes number)) (get_below count i lt)

-- ---- what its requests have of steps

-- it makes one step, and is no fetch
abbrev pub IsPlain : Request → Type 0
IsPlain (request.Make name) = Unit {0}
IsPlain (request.Deliver name time octets) = Unit {0}
IsPlain (request.Copy name uid target) = Unit {0}
IsPlain (request.Expunge name uid) = Unit {0}
IsPlain (request.Flag name uid flags) = Unit {0}
IsPlain other = ⊥

turn_plain : (number i lane round turn : ℕ) → IsPlain (made_turn number i lane round turn)
turn_plain number i lane round zero = tt
turn_plain number i lane round (suc zero) = tt
turn_plain number i lane round (suc (suc zero)) = tt
turn_plain number i lane round (suc (suc (suc turn))) = tt

pub round_plain : (number i lane s : ℕ) → IsPlain (made_round number i lane s)
round_plain number i lane zero = tt
round_plain number i lane (suc s) = turn_plain number i lane (s / 4) (s % 4)

pub one_step : (q : Request) (steps : List Reply) (last : Reply) → IsPlain q → HasAllSteps q steps last → steps ≡ last ∷ []
one_step (request.Make name) steps last p k = k
one_step (request.Deliver name time octets) steps last p k = k
one_step (request.Copy name uid target) steps last p k = k
one_step (request.Expunge name uid) steps last p k = k
one_step (request.Flag name uid flags) steps last p k = k
one_step q steps last p k = absurd p

pub undamaged : (q : Request) (steps : List Reply) (why : Refusal) → IsPlain q → IsReplyOf q steps (reply.Refused why) → is_stopped (reply.Refused why) ≡ false → steps ≡ reply.Refused why ∷ []
undamaged q steps refusal.NoMemory p k free = absurd (let e : true ≡ false = free in cc e)
undamaged q steps refusal.ReadFault p k free = absurd (let e : true ≡ false = free in cc e)
undamaged q steps refusal.Stopped p k free = absurd (let e : true ≡ false = free in cc e)
undamaged (request.Fetch name uid) steps (refusal.Damaged file offset) p k free = absurd p
undamaged q steps (refusal.Damaged file offset) p k free = absurd k
undamaged q steps why p k free = one_step q steps (reply.Refused why) p k

pub reply_step : (q : Request) (steps : List Reply) (given : Reply) → IsPlain q → IsReplyOf q steps given → is_stopped given ≡ false → steps ≡ given ∷ []
reply_step q steps (reply.Refused why) p k free = undamaged q steps why p k free
reply_step q steps given p k free = one_step q steps given p k

-- ---- steps as turns

abbrev pub turn_of : JournalStep → Turn
turn_of step = record { place = step.request; answer = step.answer; left = step.left }

abbrev pub request_of : JournalStep → ℕ
request_of step = step.request

pub places_are : (journal : List JournalStep) → map place_of (map turn_of journal) ≡ map request_of journal
places_are [] = refl
places_are (step ∷ journal) = ap (λ (t : List ℕ). step.request ∷ t) (places_are journal)

pub left_are : (old : Lists) (journal : List JournalStep) → left_of old (map turn_of journal) ≡ left_by old journal
left_are old [] = refl
left_are old (step ∷ journal) = left_are step.left journal

pub step_place : (lanes count number : ℕ) (run : Run) (old : Lists) (step : JournalStep) → IsStep run (script_of lanes count number) old step → step.request < count
step_place lanes count number run old step s =
    let lt = slice_get_within (script_of lanes count number) step.request s.asked s.request_is in
    let l = script_length lanes count number in
    omega (arith, lt, l)

pub step_asked : (lanes count number : ℕ) (run : Run) (old : Lists) (step : JournalStep) → (s : IsStep run (script_of lanes count number) old step) → s.asked ≡ made_request lanes number step.request
step_asked lanes count number run old step s =
    let e : Some s.asked ≡ Some (made_request lanes number step.request) = sym s.request_is ∙ asked_is lanes count number step.request (step_place lanes count number run old step s) in
    cc e

turns_are : (lanes count number : ℕ) (run : Run) (old : Lists) (journal : List JournalStep) → AreSteps run (script_of lanes count number) old journal → AreTurns anything is_hindered lanes number old (map turn_of journal)
turns_are lanes count number run old [] steps = tt
turns_are lanes count number run old (step ∷ journal) steps =
    let s = steps.0 in (
      λ ready more. with_more (ready_answers (before step.event run) old (made_request lanes number step.request).1 s.event step.answer step.left ready
          (subst (λ (asked : ℕ × Request). Answers (before step.event run) old asked.1 s.event step.answer step.left) (step_asked lanes count number run old step s) s.answers)),
      turns_are lanes count number run step.left journal steps.1,
    )
  where
    with_more : {A B C : Type 0} → A ⊎ (B × C) → A ⊎ (B × C × Unit {0})
    with_more (inl a) = inl a
    with_more (inr b) = inr (b.0, b.1, tt)

pub within : (lanes count number : ℕ) (run : Run) (old : Lists) (journal : List JournalStep) → AreSteps run (script_of lanes count number) old journal → AllByRecursion (λ i. i < count) (map request_of journal)
within lanes count number run old [] steps = tt
within lanes count number run old (step ∷ journal) steps = (step_place lanes count number run old step steps.0, within lanes count number run step.left journal steps.1)

-- ---- lanes

abbrev pub InOrder : JournalStep → JournalStep → Type 0
InOrder a b = a.lane ≡ b.lane → a.request ≤ b.request

own_lane : (lanes count number : ℕ) (run : Run) (old : Lists) (step : JournalStep) → IsStep run (script_of lanes count number) old step → step.lane ≡ step.request % lanes + 1
own_lane lanes count number run old step s = s.lane_is ∙ ap (λ (asked : ℕ × Request). asked.0) (step_asked lanes count number run old step s)

later : (lanes count number : ℕ) (run : Run) (old : Lists) (first : JournalStep) (journal : List JournalStep) → first.lane ≡ first.request % lanes + 1 → AreSteps run (script_of lanes count number) old journal → All (InOrder first) journal
    → AllByRecursion (λ b. first.request % lanes + 1 ≡ b % lanes + 1 → first.request ≤ b) (map request_of journal)
later lanes count number run old first [] is steps a = tt
later lanes count number run old first (step ∷ journal) is steps a = (
  λ same. All-head (InOrder first) step journal a (is ∙ same ∙ sym (own_lane lanes count number run old step steps.0)),
  later lanes count number run step.left first journal is steps.1 (All-tail (InOrder first) step journal a),
)

pub rises : (lanes count number : ℕ) (run : Run) (old : Lists) (journal : List JournalStep) → AreSteps run (script_of lanes count number) old journal → AllPairs InOrder journal → RiseInLanes (λ i. i % lanes + 1) (map request_of journal)
rises lanes count number run old [] steps a = tt
rises lanes count number run old (step ∷ journal) steps a = (
  later lanes count number run step.left step journal (own_lane lanes count number run old step steps.0) steps.1 (pairs_head InOrder step journal a),
  rises lanes count number run step.left journal steps.1 (pairs_tail InOrder step journal a),
)

-- ---- the steps of a request

abbrev pub answer_of : JournalStep → Reply
answer_of step = step.answer

abbrev pub is_of : ℕ → JournalStep → Bool
is_of j step = step.request == j

pub times_are : (j : ℕ) (journal : List JournalStep) → times j (map request_of journal) ≡ length (steps_of j journal)
times_are j journal = fold-map (λ (a x : ℕ). a + cond (x == j) 1 0) request_of 0 journal ∙ sym (length-filter (is_of j) journal)

pub one_answer : (P : Reply → Type 0) (steps : List JournalStep) (given : Reply) → map answer_of steps ≡ given ∷ [] → P given → AllByRecursion (λ step. P step.answer) steps
one_answer P [] given e h = tt
one_answer P (step ∷ []) given e h = let k : step.answer ≡ given = cc e in (subst P (sym k) h, tt)
one_answer P (step ∷ more ∷ rest) given e h = absurd (cc e)

pub answer_holds : (P : Reply → Type 0) (steps : List JournalStep) (given : Reply) → map answer_of steps ≡ given ∷ [] → AllByRecursion (λ step. P step.answer) steps → P given
answer_holds P [] given e a = absurd (cc e)
answer_holds P (step ∷ rest) given e a = let k : step.answer ≡ given = cc e in subst P k a.0

pub filtered : (P : JournalStep → Type 0) (p : JournalStep → Bool) (journal : List JournalStep) → AllByRecursion P journal → AllByRecursion P (filter p journal)
filtered P p [] a = tt
filtered P p (step ∷ journal) a = by_test (p step) (filtered P p journal a.1)
  where
    by_test : (b : Bool) → AllByRecursion P (filter p journal) → AllByRecursion P (if b then step ∷ filter p journal else filter p journal)
    by_test true next = (a.0, next)
    by_test false next = next

-- what holds of the steps of each request holds of all
pub of_each : (P : JournalStep → Type 0) (count : ℕ) (journal : List JournalStep) → AllByRecursion (λ i. i < count) (map request_of journal) → ((j : ℕ) → j < count → AllByRecursion P (filter (is_of j) journal)) → AllByRecursion P journal
of_each P count [] w each = tt
of_each P count (step ∷ journal) w each =
    let own : AllByRecursion P (step ∷ filter (is_of step.request) journal) =
    subst (λ (b : Bool). AllByRecursion P (if b then step ∷ filter (is_of step.request) journal else filter (is_of step.request) journal)) (eq-eqb step.request step.request refl) (each step.request w.0) in
    (own.0, of_each P count journal w.1 (λ j lt. rest j (step.request == j) (each j lt)))
  where
    rest : (j : ℕ) → (b : Bool) → AllByRecursion P (if b then step ∷ filter (is_of j) journal else filter (is_of j) journal) → AllByRecursion P (filter (is_of j) journal)
    rest j true a = a.1
    rest j false a = a

-- ---- replies

-- each request has one step, which answered its reply
abbrev pub OneStepEach : ℕ → List Reply → List JournalStep → Type 0
OneStepEach count given journal = (i : ℕ) → i < count → (one : Reply) × (slice_get given i ≡ Some one) × (map answer_of (steps_of i journal) ≡ one ∷ [])

pub plain_each : (lanes count number : ℕ) (journal : List JournalStep) (given : List Reply) → length given ≡ count → All (λ one. is_stopped one ≡ false) given → AreReplied (script_of lanes count number) journal (map Some given) → OneStepEach count given journal
plain_each lanes count number journal given many free replied i lt =
    let lt_given : i < length given = omega (arith, lt, many) in
    let one = slice_index_or given i reply.Done in
    let has : slice_get given i ≡ Some one = slice_get-get_or given i reply.Done lt_given in
    let replies : HasReply (map Some given) i one = slice_get-map Some given i ∙ ap (option_map Some) has in
    let of = replied i (made_request lanes number i) one (asked_is lanes count number i lt) replies in
    (one, has, reply_step (made_request lanes number i).1 (map answer_of (steps_of i journal)) one (round_plain number i (i % lanes + 1) (i / lanes)) of (free i reply.Done lt_given))

pub one_each : (lanes count number : ℕ) (journal : List JournalStep) (given : List Reply) → length given ≡ count → All (λ one. is_hindered one ≡ false) given → AreReplied (script_of lanes count number) journal (map Some given) → OneStepEach count given journal
one_each lanes count number journal given many free replied = plain_each lanes count number journal given many (λ k d lt. unstopped _ (free k d lt)) replied
  where
    unstopped : (one : Reply) → is_hindered one ≡ false → is_stopped one ≡ false
    unstopped (reply.Refused (refusal.TooManyCopies most)) e = refl
    unstopped one e = e

pub each_of_given : (P : Reply → Type 0) (given : List Reply) (i : ℕ) (one : Reply) → All P given → slice_get given i ≡ Some one → P one
each_of_given P given i one a e =
    let lt = slice_get_within given i one e in
    let k : Some (slice_index_or given i one) ≡ Some one = sym (slice_get-get_or given i one lt) ∙ e in
    let same : slice_index_or given i one ≡ one = cc k in
    subst P same (a i one lt)

-- ---- a legal journal

-- what is said of a made script that is done
pub record IsCourse (lanes count number : ℕ) (start : Lists) (journal : List JournalStep) (given : List Reply) : Type 0 where
  pub all : AreAllPlaces count (map place_of (map turn_of journal))
  pub each : OneStepEach count given journal
  pub whole : IsWhole lanes number start (map turn_of journal)

pub legal_course : (lanes count number : ℕ) (start : Lists) (run : Run) (journal : List JournalStep) (given : List Reply) (old new : Faults) → 1 ≤ lanes → lanes ≤ 64 → count ≤ 100000 → BeginsFree lanes start → length given ≡ count → All (λ one. is_hindered one ≡ false) given
    → IsLegal start (script_of lanes count number) run journal (map Some given) old new → IsCourse lanes count number start journal given
legal_course lanes count number start run journal given old new one most few begins many free legal =
    let each = one_each lanes count number journal given many free legal.replied in
    let w = within lanes count number run start journal legal.steps in
    let once : (j : ℕ) → j < count → times j (map request_of journal) ≡ 1 =
    λ j lt. times_are j journal ∙ sym (length-map (steps_of j journal) answer_of) ∙ ap length (each j lt).2 in
    let all : AreAllPlaces count (map place_of (map turn_of journal)) = subst (AreAllPlaces count) (sym (places_are journal)) (record { once = once; within = w }) in
    let rise : RiseInLanes (λ i. i % lanes + 1) (map place_of (map turn_of journal)) = subst (RiseInLanes (λ i. i % lanes + 1)) (sym (places_are journal)) (rises lanes count number run start journal legal.steps legal.order.lanes) in
    let unhindered = of_each (λ step. is_hindered step.answer ≡ false) count journal w
    (λ j lt. one_answer (λ given. is_hindered given ≡ false) (steps_of j journal) (each j lt).0 (each j lt).2 (each_of_given (λ given. is_hindered given ≡ false) given j (each j lt).0 free (each j lt).1)) in
    record {
      all = all;
      each = each;
      whole = all_are_whole anything is_hindered lanes number count one most few (map turn_of journal) start all rise begins.free tt begins.room (as_turns journal unhindered) (turns_are lanes count number run start journal legal.steps);
    }
  where
    as_turns : (journal : List JournalStep) → AllByRecursion (λ step. is_hindered step.answer ≡ false) journal → AllByRecursion (λ (turn : Turn). is_hindered turn.answer ≡ false) (map turn_of journal)
    as_turns [] a = tt
    as_turns (step ∷ journal) a = (a.0, as_turns journal a.1)

pub as_steps : (journal : List JournalStep) → AllByRecursion (λ (turn : Turn). is_ok turn.answer ≡ true) (map turn_of journal) → AllByRecursion (λ step. is_ok step.answer ≡ true) journal
as_steps [] a = tt
as_steps (step ∷ journal) a = (a.0, as_steps journal a.1)

pub all_ok : (lanes count number : ℕ) (start : Lists) (run : Run) (journal : List JournalStep) (given : List Reply) (old new : Faults) → 1 ≤ lanes → lanes ≤ 64 → count ≤ 100000 → BeginsFree lanes start → length given ≡ count → All (λ one. is_hindered one ≡ false) given
    → IsLegal start (script_of lanes count number) run journal (map Some given) old new → All (λ one. is_ok one ≡ true) given
all_ok lanes count number start run journal given old new one most few begins many free legal i d lt =
    let c = legal_course lanes count number start run journal given old new one most few begins many free legal in
    let e = c.each i (omega (arith, lt, many)) in
    let ok = answer_holds (λ given. is_ok given ≡ true) (steps_of i journal) e.0 e.2 (filtered (λ step. is_ok step.answer ≡ true) (is_of i) journal (as_steps journal c.whole.ok)) in
    let k : Some (slice_index_or given i d) ≡ Some e.0 = sym (slice_get-get_or given i d lt) ∙ e.1 in
    let same : slice_index_or given i d ≡ e.0 = cc k in
    ap is_ok same ∙ ok

-- ---- what the lists weigh

count_all : {X : Type 0} → (xs : List X) → sum_by (λ x. 1) xs ≡ length xs
count_all [] = refl
count_all {X} (x ∷ xs) = let a = sum_by-cons (λ (y : X). 1) x xs in let r = count_all xs in omega (arith, a, r)

same_sum : {X : Type 0} → (f g : X → ℕ) → ((x : X) → f x ≡ g x) → (xs : List X) → sum_by f xs ≡ sum_by g xs
same_sum f g e [] = refl
same_sum f g e (x ∷ xs) = let a = sum_by-cons f x xs in let b = sum_by-cons g x xs in let k = e x in let r = same_sum f g e xs in omega (arith, a, b, k, r)

pub messages_weigh : (lists : Lists) → weight_of (λ size. 1) lists ≡ message_total lists
messages_weigh lists = same_sum (weight_in (λ size. 1)) (λ (mailbox : Mailbox). length mailbox.messages) (λ mailbox. count_all mailbox.messages) lists

weigh_alike : (v : ℕ → ℕ) (lanes count number : ℕ) (start : Lists) (run : Run) (journal : List JournalStep) (given : List Reply) (old new : Faults) → 1 ≤ lanes → lanes ≤ 64 → count ≤ 100000 → BeginsFree lanes start → length given ≡ count → All (λ one. is_hindered one ≡ false) given
    → IsLegal start (script_of lanes count number) run journal (map Some given) old new → weight_of v (left_by start journal) ≡ weight_of v (lists_in_order (script_of lanes count number) start)
weigh_alike v lanes count number start run journal given old new one most few begins many free legal =
    let c = legal_course lanes count number start run journal given old new one most few begins many free legal in
    sym (ap (weight_of v) (left_are start journal)) ∙ weighs_in_order v lanes number count one most few (map turn_of journal) start c.all begins.free begins.room c.whole

pub messages_alike : (lanes count number : ℕ) (start : Lists) (run : Run) (journal : List JournalStep) (given : List Reply) (old new : Faults) → 1 ≤ lanes → lanes ≤ 64 → count ≤ 100000 → BeginsFree lanes start → length given ≡ count → All (λ one. is_hindered one ≡ false) given
    → IsLegal start (script_of lanes count number) run journal (map Some given) old new → message_total (left_by start journal) ≡ message_total (lists_in_order (script_of lanes count number) start)
messages_alike lanes count number start run journal given old new one most few begins many free legal =
    sym (messages_weigh (left_by start journal)) ∙ weigh_alike (λ size. 1) lanes count number start run journal given old new one most few begins many free legal ∙ messages_weigh (lists_in_order (script_of lanes count number) start)

pub octets_alike : (lanes count number : ℕ) (start : Lists) (run : Run) (journal : List JournalStep) (given : List Reply) (old new : Faults) → 1 ≤ lanes → lanes ≤ 64 → count ≤ 100000 → BeginsFree lanes start → length given ≡ count → All (λ one. is_hindered one ≡ false) given
    → IsLegal start (script_of lanes count number) run journal (map Some given) old new → octet_total (left_by start journal) ≡ octet_total (lists_in_order (script_of lanes count number) start)
octets_alike lanes count number start run journal given old new one most few begins many free legal = weigh_alike (λ size. size) lanes count number start run journal given old new one most few begins many free legal
