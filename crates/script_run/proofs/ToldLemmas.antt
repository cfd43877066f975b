-- The lists that a request alone leaves, by what it was replied.
use Rattle.std.specs.Prelude.{◌≡◌, ◌≤◌, ℕ, zero, suc, Bool, List, [], ◌∷◌, ◌⊎◌, if◌then◌else◌, length, map, slice_get, Option, Some}
use Rattle.std.specs.Option.{option_map_or}
use Rattle.std.proofs.Common.{refl, sym, ◌∙◌, ap, subst, arith, inl, inr}
use Rattle.std.proofs.lemmas.Option.{slice_get_within}
use Rattle.std.proofs.lemmas.List.{length-map, length-append}
use Rattle.disk_model.specs.Disk.{Faults, History}
use Rattle.mdbox_base.specs.declared.ids.Uid.{Uid}
use Rattle.mdbox_base.specs.declared.replies.Refusal.{Refusal}
use Rattle.mdbox_base.specs.declared.replies.Refusal.TheVariants as refusal
use Rattle.mdbox_base.specs.declared.replies.Reply.{Reply}
use Rattle.mdbox_base.specs.declared.replies.Reply.TheVariants as reply
use Rattle.mdbox_base.specs.declared.requests.Request.{Request}
use Rattle.mdbox_base.specs.declared.requests.Request.TheVariants as request
use Rattle.mdbox_base.specs.declared.script.Half.{Half}
use Rattle.mdbox_base.specs.declared.script.JournalEntry.{JournalEntry}
use Rattle.model_lists.specs.Lists.{ListedMessage, Lists}
use Rattle.model_meaning.specs.MapMeaning.{MapMeaning, map_meaning}
use Rattle.list_machine.specs.Machine.{Does, PartAnswers, add_message, expunge_from, message_at}
use Rattle.list_machine.specs.Run.{EventPart, First, Last, SecondHalf, Run, RunEvent, before, source_of}
use Rattle.journal.specs.Journal.{AreSteps, IsFirstPart, IsLegal, IsReplyOf, IsStep, JournalStep, Requests, halves_of, left_by, steps_of}
use Rattle.journal.proofs.AloneLemmas.{all_own}
use Rattle.mail_ops.specs.Copy.{copied_lists}
use Rattle.script_run.specs.Done.{IsScriptDone, MayRead}
use Rattle.script_run.specs.One.{AreListsTold, IsUnfailed, ServesRequest, lists_told, moved_lists}
use Rattle.script_run.specs.Opening.{AreSafeFor, LogsShowLists}
use Rattle.script_run.specs.Script.{HasStopped}

-- ---- the journal of one request

-- what its steps answered
abbrev pub answers_of : List JournalStep → List Reply
answers_of journal = map (λ (s : JournalStep). s.answer) journal

pub replied_one : (start : Lists) (asked : Request) (run : Run) (journal : List JournalStep) (given : Reply) (old new : Faults) → IsLegal start ((1, asked) ∷ []) run journal (Some given ∷ []) old new → IsReplyOf asked (answers_of journal) given
replied_one start asked run journal given old new l =
    subst (λ (j : List JournalStep). IsReplyOf asked (answers_of j) given) (all_own run (1, asked) start journal l.steps) (l.replied 0 (1, asked) given refl refl)

two_halves : (asked : Request) → length (halves_of asked) ≤ 2
two_halves (request.Move name uid target) = omega arith
two_halves asked = omega arith

few_halves : (asked : Request) (halves : List Half) → IsFirstPart halves (halves_of asked) → length halves ≤ 2
few_halves asked halves b =
    let total = sym (length-append halves b.0) ∙ ap length b.1 in
    let most = two_halves asked in
    omega (arith, total, most)

pub few_steps : (start : Lists) (asked : Request) (run : Run) (journal : List JournalStep) (given : Reply) (old new : Faults) → IsLegal start ((1, asked) ∷ []) run journal (Some given ∷ []) old new → length journal ≤ 2
few_steps start asked run journal given old new l =
    let few = few_halves asked (map (λ (s : JournalStep). s.half) (steps_of 0 journal)) (l.order.halves 0 (1, asked) refl) in
    subst (λ (n : ℕ). n ≤ 2) (length-map (steps_of 0 journal) (λ (s : JournalStep). s.half) ∙ ap length (all_own run (1, asked) start journal l.steps)) few

-- ---- what a step leaves

pub refused_told : (asked : Request) (why : Refusal) (lists : Lists) → AreListsTold asked (reply.Refused why) lists lists
refused_told (request.Make name) why lists = refl
refused_told (request.Move name uid target) why lists = refl
refused_told asked why lists = refl

list_told : (run : Run) (event : RunEvent) (name : List ℕ) (part : EventPart) (given : Reply) (old new : Lists) → Does run event old (request.List name) part given new → AreListsTold (request.List name) given old new
list_told run event name First (reply.Listed rows) old new d = d.3
list_told run event name part given old new d = absurd d

fetch_told : (run : Run) (event : RunEvent) (name : List ℕ) (uid : Uid) (part : EventPart) (given : Reply) (old new : Lists) → Does run event old (request.Fetch name uid) part given new → AreListsTold (request.Fetch name uid) given old new
fetch_told run event name uid First (reply.Fetched octets) old new d = d.3
fetch_told run event name uid part given old new d = absurd d

flag_told : (run : Run) (event : RunEvent) (name : List ℕ) (uid : Uid) (flags : ℕ) (part : EventPart) (given : Reply) (old new : Lists) → Does run event old (request.Flag name uid flags) part given new → AreListsTold (request.Flag name uid flags) given old new
flag_told run event name uid flags First reply.Done old new d = d
flag_told run event name uid flags part given old new d = absurd d

words_told : (run : Run) (event : RunEvent) (name : List ℕ) (uid : Uid) (words : List (List ℕ)) (part : EventPart) (given : Reply) (old new : Lists) → Does run event old (request.Keywords name uid words) part given new → AreListsTold (request.Keywords name uid words) given old new
words_told run event name uid words First reply.Done old new d = d
words_told run event name uid words part given old new d = absurd d

make_told : (run : Run) (event : RunEvent) (name : List ℕ) (part : EventPart) (given : Reply) (old new : Lists) → Does run event old (request.Make name) part given new → AreListsTold (request.Make name) given old new
make_told run event name Last reply.Done old new d = (d.number, d.above, d.new_is)
make_told run event name part given old new d = absurd d

deliver_told : (run : Run) (event : RunEvent) (name : List ℕ) (time : ℕ) (octets : List ℕ) (part : EventPart) (given : Reply) (old new : Lists) → Does run event old (request.Deliver name time octets) part given new → AreListsTold (request.Deliver name time octets) given old new
deliver_told run event name time octets Last (reply.Saved uid guid) old new d = d.new_is
deliver_told run event name time octets part given old new d = absurd d

copied_is : (name : List ℕ) (uid : Uid) (target : List ℕ) (message : ListedMessage) (old new : Lists) → message_at name uid.0 old ≡ Some message → new ≡ add_message target message old → new ≡ copied_lists name uid target old
copied_is name uid target message old new found is = is ∙ sym (ap (λ (o : Option ListedMessage). option_map_or (λ (m : ListedMessage). add_message target m old) o old) found)

copy_told : (run : Run) (event : RunEvent) (name : List ℕ) (uid : Uid) (target : List ℕ) (part : EventPart) (given : Reply) (old new : Lists) → Does run event old (request.Copy name uid target) part given new → AreListsTold (request.Copy name uid target) given old new
copy_told run event name uid target Last (reply.Copied copied) old new d = copied_is name uid target d.message old new d.source_is d.new_is
copy_told run event name uid target part given old new d = absurd d

expunge_told : (run : Run) (event : RunEvent) (name : List ℕ) (uid : Uid) (part : EventPart) (given : Reply) (old new : Lists) → Does run event old (request.Expunge name uid) part given new → AreListsTold (request.Expunge name uid) given old new
expunge_told run event name uid First reply.Done old new d = d
expunge_told run event name uid part given old new d = absurd d

delete_told : (run : Run) (event : RunEvent) (name : List ℕ) (part : EventPart) (given : Reply) (old new : Lists) → Does run event old (request.Delete name) part given new → AreListsTold (request.Delete name) given old new
delete_told run event name First reply.Done old new d = d
delete_told run event name part given old new d = absurd d

rename_told : (run : Run) (event : RunEvent) (name target : List ℕ) (part : EventPart) (given : Reply) (old new : Lists) → Does run event old (request.Rename name target) part given new → AreListsTold (request.Rename name target) given old new
rename_told run event name target First reply.Done old new d = d
rename_told run event name target part given old new d = absurd d

counts_told : (run : Run) (event : RunEvent) (part : EventPart) (given : Reply) (old new : Lists) → Does run event old request.Counts part given new → AreListsTold request.Counts given old new
counts_told run event First (reply.Counted records references counts instances) old new d = d.1
counts_told run event part given old new d = absurd d

purge_told : (run : Run) (event : RunEvent) (part : EventPart) (given : Reply) (old new : Lists) → Does run event old request.Purge part given new → AreListsTold request.Purge given old new
purge_told run event Last (reply.Purged dropped files instances) old new d = d.1
purge_told run event part given old new d = absurd d

resync_told : (run : Run) (event : RunEvent) (part : EventPart) (given : Reply) (old new : Lists) → Does run event old request.Resync part given new → AreListsTold request.Resync given old new
resync_told run event Last (reply.Resynced corrected damaged) old new d = d.1
resync_told run event part given old new d = absurd d

-- of every request but a move, which makes two steps
abbrev pub IsMove : Request → Type 0
IsMove (request.Move name uid target) = Unit {0}
IsMove other = ⊥

does_told : (asked : Request) (run : Run) (event : RunEvent) (part : EventPart) (given : Reply) (old new : Lists) → (IsMove asked → ⊥) → Does run event old asked part given new → AreListsTold asked given old new
does_told (request.Deliver name time octets) run event part given old new m d = deliver_told run event name time octets part given old new d
does_told (request.List name) run event part given old new m d = list_told run event name part given old new d
does_told (request.Fetch name uid) run event part given old new m d = fetch_told run event name uid part given old new d
does_told (request.Flag name uid flags) run event part given old new m d = flag_told run event name uid flags part given old new d
does_told (request.Keywords name uid words) run event part given old new m d = words_told run event name uid words part given old new d
does_told (request.Copy name uid target) run event part given old new m d = copy_told run event name uid target part given old new d
does_told (request.Move name uid target) run event part given old new m d = absurd (m tt)
does_told (request.Expunge name uid) run event part given old new m d = expunge_told run event name uid part given old new d
does_told (request.Make name) run event part given old new m d = make_told run event name part given old new d
does_told (request.Delete name) run event part given old new m d = delete_told run event name part given old new d
does_told (request.Rename name target) run event part given old new m d = rename_told run event name target part given old new d
does_told request.Counts run event part given old new m d = counts_told run event part given old new d
does_told request.Purge run event part given old new m d = purge_told run event part given old new d
does_told request.Resync run event part given old new m d = resync_told run event part given old new d

pub step_told : (asked : Request) (run : Run) (event : RunEvent) (part : EventPart) (given : Reply) (old new : Lists) → (IsMove asked → ⊥) → PartAnswers run event old asked part given new → AreListsTold asked given old new
step_told asked run event part (reply.Refused why) old new m d = subst (λ (ls : Lists). AreListsTold asked (reply.Refused why) old ls) (sym d.1) (refused_told asked why old)
step_told asked run event part given old new m d = does_told asked run event part given old new m d.1

-- ---- the journal, by its reply

-- no step was made, for want of memory; or the fetch's step was, whose message is then found damaged
abbrev pub Unsaid : Reply → List Reply → Type 0
Unsaid given answers = (answers ≡ []) × (given ≡ reply.Refused refusal.NoMemory)

abbrev pub SaidFetched : Reply → List Reply → Type 0
SaidFetched given answers = (why : Refusal) × (octets : List ℕ) × (given ≡ reply.Refused why) × (answers ≡ reply.Fetched octets ∷ [])

abbrev pub Said : Reply → List Reply → Type 0
Said given answers = Unsaid given answers ⊎ ((answers ≡ given ∷ []) ⊎ SaidFetched given answers)

pub what_said : (asked : Request) (given : Reply) (answers : List Reply) → (IsMove asked → ⊥) → IsUnfailed given → IsReplyOf asked answers given → Said given answers
what_said (request.Move name uid target) given answers m u r = absurd (m tt)
what_said asked (reply.Refused refusal.NoMemory) answers m u r = inl (r, refl)
what_said asked (reply.Refused refusal.ReadFault) answers m u r = absurd u
what_said asked (reply.Refused refusal.Stopped) answers m u r = absurd u
what_said (request.Fetch name uid) (reply.Refused (refusal.Damaged file offset)) answers m u r = inr (inr (refusal.Damaged file offset, r.0, refl, r.1))
what_said asked (reply.Refused (refusal.Damaged file offset)) answers m u r = absurd r
what_said asked given answers m u r = inr (inl r)

fetched_same : (asked : Request) (octets : List ℕ) (old new : Lists) → AreListsTold asked (reply.Fetched octets) old new → new ≡ old
fetched_same (request.Make name) octets old new d = d
fetched_same asked octets old new d = d

-- the step of the one request
pub record AnswersOne (run : Run) (asked : Request) (old : Lists) (step : JournalStep) : Type 0 where
  pub event : RunEvent
  pub event_is : slice_get run.events step.event ≡ Some event
  pub answers : PartAnswers (before step.event run) event old asked event.part step.answer step.left

pub step_answers : (run : Run) (asked : Request) (old : Lists) (step : JournalStep) → IsStep run ((1, asked) ∷ []) old step → AnswersOne run asked old step
step_answers run asked old step s =
    let place : step.request ≡ 0 = one_place step.request s.asked s.request_is in
    let same : s.asked ≡ (1, asked) = (let h : Some s.asked ≡ Some (1, asked) = sym s.request_is ∙ ap (λ (n : ℕ). slice_get ((1, asked) ∷ []) n) place in cc h) in
    record { event = s.event; event_is = s.event_is; answers = subst (λ (q : ℕ × Request). PartAnswers (before step.event run) s.event old q.1 s.event.part step.answer step.left) same s.answers }
  where
    one_place : (n : ℕ) (found : ℕ × Request) → slice_get ((1, asked) ∷ []) n ≡ Some found → n ≡ 0
    one_place n found e = let lt = slice_get_within ((1, asked) ∷ []) n found e in omega (arith, lt)

pub left_one : (run : Run) (asked : Request) (start : Lists) (journal : List JournalStep) (given : Reply) → (IsMove asked → ⊥) → AreSteps run ((1, asked) ∷ []) start journal → Said given (answers_of journal) → AreListsTold asked given start (left_by start journal)
left_one run asked start [] given m s (inl u) = subst (λ (r : Reply). AreListsTold asked r start start) (sym u.1) (refused_told asked refusal.NoMemory start)
left_one run asked start (step ∷ steps) given m s (inl u) = absurd (let h : step.answer ∷ answers_of steps ≡ [] = u.0 in cc h)
left_one run asked start [] given m s (inr (inl e)) = absurd (let h : [] ≡ given ∷ [] = e in cc h)
left_one run asked start (step ∷ []) given m s (inr (inl e)) =
    let a = step_answers run asked start step s.0 in
    let same : step.answer ≡ given = (let h : step.answer ∷ [] ≡ given ∷ [] = e in cc h) in
    step_told asked (before step.event run) a.event a.event.part given start step.left m (subst (λ (r : Reply). PartAnswers (before step.event run) a.event start asked a.event.part r step.left) same a.answers)
left_one run asked start (step ∷ more ∷ steps) given m s (inr (inl e)) = absurd (let h : step.answer ∷ more.answer ∷ answers_of steps ≡ given ∷ [] = e in cc h)
left_one run asked start [] given m s (inr (inr f)) = absurd (let h : [] ≡ reply.Fetched f.1 ∷ [] = f.3 in cc h)
left_one run asked start (step ∷ []) given m s (inr (inr f)) =
    let a = step_answers run asked start step s.0 in
    let same : step.answer ≡ reply.Fetched f.1 = (let h : step.answer ∷ [] ≡ reply.Fetched f.1 ∷ [] = f.3 in cc h) in
    let told = step_told asked (before step.event run) a.event a.event.part (reply.Fetched f.1) start step.left m (subst (λ (r : Reply). PartAnswers (before step.event run) a.event start asked a.event.part r step.left) same a.answers) in
    subst (λ (r : Reply). AreListsTold asked r start step.left) (sym f.2)
    (subst (λ (ls : Lists). AreListsTold asked (reply.Refused f.0) start ls) (sym (fetched_same asked f.1 start step.left told)) (refused_told asked f.0 start))
left_one run asked start (step ∷ more ∷ steps) given m s (inr (inr f)) = absurd (let h : step.answer ∷ more.answer ∷ answers_of steps ≡ reply.Fetched f.1 ∷ [] = f.3 in cc h)

-- ---- a move

pub copied_half : (run : Run) (event : RunEvent) (name : List ℕ) (uid : Uid) (target : List ℕ) (part : EventPart) (copied : Uid) (old new : Lists) → Does run event old (request.Move name uid target) part (reply.Copied copied) new → new ≡ copied_lists name uid target old
copied_half run event name uid target Last copied old new d = copied_is name uid target d.message old new d.source_is d.new_is
copied_half run event name uid target part copied old new d = absurd d

second_half : (run : Run) (event : RunEvent) (name : List ℕ) (uid : Uid) (target : List ℕ) (part : EventPart) (copied : Uid) (gone : Bool) (old new : Lists) → Does run event old (request.Move name uid target) part (reply.Moved copied gone) new
    → (part ≡ SecondHalf) × (new ≡ (if gone then old else expunge_from (source_of event.request run) uid.0 old))
second_half run event name uid target SecondHalf copied gone old new d = (refl, d.1.1)
second_half run event name uid target part copied gone old new d = absurd d

-- no step, a refused one, or both
abbrev pub MoveSaid : Reply → List Reply → Type 0
MoveSaid given answers = Unsaid given answers ⊎ (((why : Refusal) × (given ≡ reply.Refused why) × (answers ≡ reply.Refused why ∷ [])) ⊎ ((copied : Uid) × (gone : Bool) × (given ≡ reply.Moved copied gone) × (answers ≡ reply.Copied copied ∷ reply.Moved copied gone ∷ [])))

pub move_said : (name : List ℕ) (uid : Uid) (target : List ℕ) (given : Reply) (answers : List Reply) → IsUnfailed given → IsReplyOf (request.Move name uid target) answers given → MoveSaid given answers
move_said name uid target (reply.Refused refusal.NoMemory) answers u r = inl (r, refl)
move_said name uid target (reply.Refused refusal.ReadFault) answers u r = absurd u
move_said name uid target (reply.Refused refusal.Stopped) answers u r = absurd u
move_said name uid target (reply.Refused (refusal.Damaged file offset)) answers u r = absurd r
move_said name uid target (reply.Refused why) answers u r = inr (inl (why, refl, r))
move_said name uid target (reply.Moved copied gone) answers u r = inr (inr (copied, gone, refl, r))
move_said name uid target given answers u r = absurd r

-- whatever event the second half is, it finds its mailbox by number as it would by name
abbrev pub RemovesByName : List ℕ → Uid → List ℕ → Run → Lists → Type 0
RemovesByName name uid target run start = (n : ℕ) (event : RunEvent) → slice_get run.events n ≡ Some event → event.part ≡ SecondHalf
    → expunge_from (source_of event.request (before n run)) uid.0 (copied_lists name uid target start) ≡ moved_lists name uid target start

pub left_moved : (run : Run) (name : List ℕ) (uid : Uid) (target : List ℕ) (start : Lists) (journal : List JournalStep) (given : Reply) → RemovesByName name uid target run start → AreSteps run ((1, request.Move name uid target) ∷ []) start journal → MoveSaid given (answers_of journal) → left_by start journal ≡ lists_told (request.Move name uid target) given start
left_moved run name uid target start [] given named s (inl u) = sym (ap (λ (r : Reply). lists_told (request.Move name uid target) r start) u.1)
left_moved run name uid target start (step ∷ steps) given named s (inl u) = absurd (let h : step.answer ∷ answers_of steps ≡ [] = u.0 in cc h)
left_moved run name uid target start [] given named s (inr (inl e)) = absurd (let h : [] ≡ reply.Refused e.0 ∷ [] = e.2 in cc h)
left_moved run name uid target start (step ∷ []) given named s (inr (inl e)) =
    let asked : Request = request.Move name uid target in
    let a = step_answers run asked start step s.0 in
    let same : step.answer ≡ reply.Refused e.0 = (let h : step.answer ∷ [] ≡ reply.Refused e.0 ∷ [] = e.2 in cc h) in
    let told = subst (λ (r : Reply). PartAnswers (before step.event run) a.event start asked a.event.part r step.left) same a.answers in
    told.1 ∙ sym (ap (λ (r : Reply). lists_told (request.Move name uid target) r start) e.1)
left_moved run name uid target start (step ∷ more ∷ steps) given named s (inr (inl e)) = absurd (let h : step.answer ∷ more.answer ∷ answers_of steps ≡ reply.Refused e.0 ∷ [] = e.2 in cc h)
left_moved run name uid target start [] given named s (inr (inr e)) = absurd (let h : [] ≡ reply.Copied e.0 ∷ reply.Moved e.0 e.1 ∷ [] = e.3 in cc h)
left_moved run name uid target start (step ∷ []) given named s (inr (inr e)) = absurd (let h : step.answer ∷ [] ≡ reply.Copied e.0 ∷ reply.Moved e.0 e.1 ∷ [] = e.3 in cc h)
left_moved run name uid target start (step ∷ more ∷ []) given named s (inr (inr e)) =
    let asked : Request = request.Move name uid target in
    let a = step_answers run asked start step s.0 in
    let b = step_answers run asked step.left more s.1.0 in
    let h : step.answer ∷ more.answer ∷ [] ≡ reply.Copied e.0 ∷ reply.Moved e.0 e.1 ∷ [] = e.3 in
    let first : step.answer ≡ reply.Copied e.0 = cc h in
    let second : more.answer ≡ reply.Moved e.0 e.1 = cc h in
    let copied : step.left ≡ copied_lists name uid target start = copied_half (before step.event run) a.event name uid target a.event.part e.0 start step.left (subst (λ (r : Reply). PartAnswers (before step.event run) a.event start asked a.event.part r step.left) first a.answers).1 in
    let half = second_half (before more.event run) b.event name uid target b.event.part e.0 e.1 step.left more.left (subst (λ (r : Reply). PartAnswers (before more.event run) b.event step.left asked b.event.part r more.left) second b.answers).1 in
    let removed = half.1 ∙ ap (λ (ls : Lists). if e.1 then ls else expunge_from (source_of b.event.request (before more.event run)) uid.0 ls) copied in
    removed ∙ (ap (λ (ls : Lists). if e.1 then copied_lists name uid target start else ls) (named more.event b.event b.event_is half.0) ∙ sym (ap (λ (r : Reply). lists_told (request.Move name uid target) r start) e.2))
left_moved run name uid target start (step ∷ more ∷ third ∷ steps) given named s (inr (inr e)) = absurd (let h : step.answer ∷ more.answer ∷ third.answer ∷ answers_of steps ≡ reply.Copied e.0 ∷ reply.Moved e.0 e.1 ∷ [] = e.3 in cc h)

pub no_move : (asked : Request) → ((name : List ℕ) × (uid : Uid) × (target : List ℕ) × (asked ≡ request.Move name uid target)) ⊎ (IsMove asked → ⊥)
no_move (request.Move name uid target) = inl (name, uid, target, refl)
no_move asked = inr (λ m. m)

-- ---- a script of one request

one_stopped : (given : Reply) → (given ≡ reply.Refused refusal.Stopped → ⊥) → HasStopped (given ∷ []) → ⊥
one_stopped given unstopped (zero, l, is) = unstopped is
one_stopped given unstopped (suc n, l, is) = omega (arith, l)

-- the logs of the map with which its run begins show the lists
pub shown_begins : (script : Requests) (given : List Reply) (entries : List JournalEntry) (old new : Option History) (began now : Faults) → (done : IsScriptDone script given entries old new began now) → (lists : Lists) → (shown : LogsShowLists done.m done.meanings lists) → (may : MayRead script lists old)
    → LogsShowLists (map_meaning (done.serves lists shown may).run.store (done.serves lists shown may).run.start) done.meanings lists
shown_begins script given entries old new began now done lists shown may = subst (λ (x : MapMeaning). LogsShowLists x done.meanings lists) (sym (done.begins lists shown may)) shown

-- It is served as the record of one request says.
pub serves_one : (asked : Request) (given : Reply) (entries : List JournalEntry) (old new : Option History) (began now : Faults) → IsScriptDone ((1, asked) ∷ []) (given ∷ []) entries old new began now → (lists : Lists) → AreSafeFor lists old → MayRead ((1, asked) ∷ []) lists old → ServesRequest asked lists given began now old new
serves_one asked given entries old new began now done lists safe may =
    let shown = done.shown lists safe in
    let s = done.serves lists shown may in
    record {
      run = s.run;
      journal = s.journal;
      broken = s.broken;
      m = s.m;
      drawn = s.drawn;
      begins = s.begins;
      meanings = done.meanings;
      shown = shown_begins ((1, asked) ∷ []) (given ∷ []) entries old new began now done lists shown may;
      ends = λ unstopped. s.ends (one_stopped given unstopped);
      served = s.served;
      crash = s.crash;
      timely = s.timely;
      settled = λ unstopped. s.settled (one_stopped given unstopped);
    }
