-- Laws of a script of one request, and what is no legal journal.
use Rattle.std.specs.Prelude.{◌≡◌, ◌≢◌, ◌==◌, ℕ, Bool, true, false, cond, List, [], ◌∷◌, map, filter, Some, slice_get, refl}
use Rattle.std.proofs.Common.{sym, ◌∙◌, ap, arith, subst}
use Rattle.std.proofs.lemmas.Grind.{common_steps}
use Rattle.std.proofs.lemmas.Option.{slice_get_within}
use Rattle.disk_model.specs.Disk.{Faults}
use Rattle.mdbox_base.specs.declared.ids.Uid.{Uid}
use Rattle.mdbox_base.specs.declared.requests.Request.{Request}
use Rattle.mdbox_base.specs.declared.requests.Request.TheVariants as request
use Rattle.mdbox_base.specs.declared.replies.Refusal.TheVariants as refusal
use Rattle.mdbox_base.specs.declared.replies.Reply.{Reply}
use Rattle.mdbox_base.specs.declared.replies.Reply.TheVariants as reply
use Rattle.model_lists.specs.Lists.{Lists}
use Rattle.list_machine.specs.Run.{RunEvent, Run, before}
use Rattle.list_machine.specs.Machine.{Answers}
use Rattle.list_machine.proofs.OneStepLemmas.{answers_one}
use Rattle.journal.specs.Journal.{Requests, halves_of, JournalStep, IsStep, AreSteps, steps_of, IsFirstPart, IsReplyOf, IsLegal}
use Rattle.mdbox_base.specs.declared.script.Half.TheVariants.{CopyHalf, ExpungeHalf}
use Rattle.journal.specs.GoesOn.{AnswersAlone, IsOneStep}

-- ---- one request

one_place : (asked : ℕ × Request) (n : ℕ) (found : ℕ × Request) → slice_get (asked ∷ []) n ≡ Some found → n ≡ 0
one_place asked n found e = let lt = slice_get_within (asked ∷ []) n found e in omega (arith, lt)

test_true : (a b : ℕ) → a ≡ b → (a == b) ≡ true
test_true a b e = grind (arith, common_steps, e)

kept : (p : JournalStep → Bool) (x : JournalStep) (xs : List JournalStep) → p x ≡ true → filter p xs ≡ xs → filter p (x ∷ xs) ≡ x ∷ xs
kept p x xs e f = ap (λ (b : Bool). cond b (x ∷ filter p xs) (filter p xs)) e ∙ ap (λ (ys : List JournalStep). x ∷ ys) f

-- all steps of the journal are those of the one request
pub all_own : (run : Run) (asked : ℕ × Request) (old : Lists) (journal : List JournalStep) → AreSteps run (asked ∷ []) old journal → steps_of 0 journal ≡ journal
all_own run asked old [] s = refl
all_own run asked old (step ∷ steps) s =
    kept (λ (x : JournalStep). x.request == 0) step steps (test_true step.request 0 (one_place asked step.request s.0.asked s.0.request_is)) (all_own run asked step.left steps s.1)

not_true : {A : Type 0} → false ≡ true → A
not_true e = absurd (cc e)

single_step : (q : Request) (answers : List Reply) (given : Reply) → IsOneStep q given → IsReplyOf q answers given → answers ≡ given ∷ []
single_step (request.Move name uid target) answers given one r = absurd one
single_step (request.Fetch name uid) answers (reply.Refused (refusal.Damaged file offset)) one r = not_true one
single_step q answers (reply.Refused refusal.NoMemory) one r = not_true one
single_step q answers (reply.Refused refusal.ReadFault) one r = not_true one
single_step q answers (reply.Refused refusal.Stopped) one r = not_true one
single_step q answers (reply.Refused (refusal.Damaged file offset)) one r = absurd r
single_step q answers given one r = r

one_answer : (run : Run) (asked : ℕ × Request) (start : Lists) (journal : List JournalStep) (given : Reply) → AreSteps run (asked ∷ []) start journal → map (λ s. s.answer) journal ≡ given ∷ [] → (left : Lists) × AnswersAlone run start asked.1 given left
one_answer run asked start [] given s e = absurd (let h : [] ≡ given ∷ [] = e in cc h)
one_answer run asked start (step ∷ more ∷ steps) given s e = absurd (let h : step.answer ∷ more.answer ∷ map (λ (x : JournalStep). x.answer) steps ≡ given ∷ [] = e in cc h)
one_answer run asked start (step ∷ []) given s e =
    let same : step.answer ≡ given = (let h : step.answer ∷ [] ≡ given ∷ [] = e in cc h) in
    let place = one_place asked step.request s.0.asked s.0.request_is in
    let ask : s.0.asked ≡ asked = (let h : Some s.0.asked ≡ Some asked = sym s.0.request_is ∙ ap (λ (n : ℕ). slice_get (asked ∷ []) n) place in cc h) in (
      step.left,
      record {
        place = step.event;
        event = s.0.event;
        event_is = s.0.event_is;
        answers = subst (λ (r : Reply). Answers (before step.event run) start asked.1 s.0.event r step.left) same
            (subst (λ (q : ℕ × Request). Answers (before step.event run) start q.1 s.0.event step.answer step.left) ask s.0.answers);
      },
    )

pub reply_alone : (start : Lists) (asked : ℕ × Request) (run : Run) (journal : List JournalStep) (given : Reply) (old new : Faults) → IsLegal start (asked ∷ []) run journal (Some given ∷ []) old new → IsOneStep asked.1 given
    → (left : Lists) × AnswersAlone run start asked.1 given left
reply_alone start asked run journal given old new l one =
    let own = all_own run asked start journal l.steps in
    let r : IsReplyOf asked.1 (map (λ (s : JournalStep). s.answer) (steps_of 0 journal)) given = l.replied 0 asked given refl refl in
    one_answer run asked start journal given l.steps (ap (λ (j : List JournalStep). map (λ (s : JournalStep). s.answer) j) (sym own) ∙ single_step asked.1 _ given one r)

-- ---- what is not legal

-- A move's expunge before its copy.
pub no_expunge_first : (name target : List ℕ) (uid : Uid) → IsFirstPart (ExpungeHalf ∷ CopyHalf ∷ []) (halves_of (request.Move name uid target)) → ⊥
no_expunge_first name target uid b = let h : ExpungeHalf ∷ CopyHalf ∷ b.0 ≡ CopyHalf ∷ ExpungeHalf ∷ [] = b.1 in cc h

-- An answer to a request whose step was dropped.
pub no_dropped_step : (name : List ℕ) (uid : Uid) → IsReplyOf (request.Expunge name uid) [] reply.Done → ⊥
no_dropped_step name uid r = let h : [] ≡ reply.Done ∷ [] = r in cc h

-- A copy that got one UID, and a move that tells another.
pub no_other_uid : (name target : List ℕ) (uid copied other : Uid) (gone : Bool) → IsReplyOf (request.Move name uid target) (reply.Copied copied ∷ reply.Moved copied gone ∷ []) (reply.Moved other gone) → copied ≡ other
no_other_uid name target uid copied other gone r = let h : reply.Copied copied ∷ reply.Moved copied gone ∷ [] ≡ reply.Copied other ∷ reply.Moved other gone ∷ [] = r in cc h

-- An answer from other lists than those that the entries before left: an event has one answer.
pub no_other_answer : (run : Run) (script : Requests) (old : Lists) (step : JournalStep) (second : Reply) → IsStep run script old step → second ≢ step.answer → IsStep run script old (record step { answer = second }) → ⊥
no_other_answer run script old step second s differs t =
    let events : t.event ≡ s.event = (let h : Some t.event ≡ Some s.event = sym t.event_is ∙ s.event_is in cc h) in
    let asks : t.asked ≡ s.asked = (let h : Some t.asked ≡ Some s.asked = sym t.request_is ∙ s.request_is in cc h) in
    let there : Answers (before step.event run) old s.asked.1 s.event second step.left =
    subst (λ (q : ℕ × Request). Answers (before step.event run) old q.1 s.event second step.left) asks
    (subst (λ (e : RunEvent). Answers (before step.event run) old t.asked.1 e second step.left) events t.answers) in
    differs (answers_one (before step.event run) old s.asked.1 s.event second step.answer step.left step.left there s.answers).0
