-- The replies of a script that was served are of their requests' kinds.
use Rattle.std.specs.Prelude.{◌≡◌, ◌==◌, ℕ, suc, Bool, true, false, List, [], ◌∷◌, length, map, slice_get, if◌then◌else◌, Option, Some, refl}
use Rattle.std.specs.Option.{option_map}
use Rattle.std.proofs.Common.{sym, ◌∙◌, ap, subst, arith}
use Rattle.std.proofs.lemmas.Bool.{eqb-true}
use Rattle.std.proofs.lemmas.Option.{slice_get-map}
use Rattle.disk_model.specs.Disk.{History, Faults}
use Rattle.mdbox_base.specs.declared.replies.Refusal.{Refusal}
use Rattle.mdbox_base.specs.declared.replies.Reply.{Reply}
use Rattle.mdbox_base.specs.declared.replies.Reply.TheVariants as reply
use Rattle.mdbox_base.specs.declared.requests.Request.{Request}
use Rattle.mdbox_base.specs.declared.requests.Request.TheVariants as request
use Rattle.mdbox_base.specs.declared.script.Half.TheVariants as half
use Rattle.mdbox_base.specs.declared.script.JournalEntry.{JournalEntry}
use Rattle.model_lists.specs.Lists.{Lists}
use Rattle.list_machine.specs.Machine.{Does, PartAnswers}
use Rattle.list_machine.specs.Run.{EventPart, First, Last, Run, RunEvent, before}
use Rattle.journal.specs.Journal.{AreSteps, IsReplyOf, JournalStep, Requests, halves_of, steps_of}
use Rattle.script_run.specs.Script.{ServesScript}
use Rattle.printed_replies.specs.PrintedReplies.{AreRepliesTo, IsReplyTo}

-- a request of one step
abbrev IsOneStep : Request → Type 0
IsOneStep asked = halves_of asked ≡ half.Whole ∷ []

refused_kind : (asked : Request) (why : Refusal) → IsReplyTo asked (reply.Refused why)
refused_kind request.Counts why = tt
refused_kind other why = tt

-- ---- what a step answers

does_kind : (run : Run) (event : RunEvent) (old new : Lists) (asked : Request) (part : EventPart) (given : Reply) → IsOneStep asked → Does run event old asked part given new → IsReplyTo asked given
does_kind run event old new (request.Move name uid target) part given one d = absurd (let e : half.CopyHalf ∷ half.ExpungeHalf ∷ [] ≡ half.Whole ∷ [] = one in cc e)
does_kind run event old new (request.Deliver name time octets) Last (reply.Saved uid guid) one d = tt
does_kind run event old new (request.Deliver name time octets) Last given one d = absurd d
does_kind run event old new (request.Deliver name time octets) part given one d = absurd d
does_kind run event old new (request.List name) First (reply.Listed rows) one d = tt
does_kind run event old new (request.List name) First given one d = absurd d
does_kind run event old new (request.List name) part given one d = absurd d
does_kind run event old new (request.Fetch name uid) First (reply.Fetched octets) one d = tt
does_kind run event old new (request.Fetch name uid) First given one d = absurd d
does_kind run event old new (request.Fetch name uid) part given one d = absurd d
does_kind run event old new (request.Flag name uid flags) First reply.Done one d = tt
does_kind run event old new (request.Flag name uid flags) First given one d = absurd d
does_kind run event old new (request.Flag name uid flags) part given one d = absurd d
does_kind run event old new (request.Copy name uid target) Last (reply.Copied copied) one d = tt
does_kind run event old new (request.Copy name uid target) Last given one d = absurd d
does_kind run event old new (request.Copy name uid target) part given one d = absurd d
does_kind run event old new (request.Expunge name uid) First reply.Done one d = tt
does_kind run event old new (request.Expunge name uid) First given one d = absurd d
does_kind run event old new (request.Expunge name uid) part given one d = absurd d
does_kind run event old new (request.Keywords name uid words) First reply.Done one d = tt
does_kind run event old new (request.Keywords name uid words) First given one d = absurd d
does_kind run event old new (request.Keywords name uid words) part given one d = absurd d
does_kind run event old new (request.Make name) Last reply.Done one d = tt
does_kind run event old new (request.Make name) Last given one d = absurd d
does_kind run event old new (request.Make name) part given one d = absurd d
does_kind run event old new (request.Delete name) First reply.Done one d = tt
does_kind run event old new (request.Delete name) First given one d = absurd d
does_kind run event old new (request.Delete name) part given one d = absurd d
does_kind run event old new (request.Rename name target) First reply.Done one d = tt
does_kind run event old new (request.Rename name target) First given one d = absurd d
does_kind run event old new (request.Rename name target) part given one d = absurd d
does_kind run event old new request.Counts First (reply.Counted records references counts instances) one d = tt
does_kind run event old new request.Counts First given one d = absurd d
does_kind run event old new request.Counts part given one d = absurd d
does_kind run event old new request.Purge Last (reply.Purged dropped files instances) one d = tt
does_kind run event old new request.Purge Last given one d = absurd d
does_kind run event old new request.Purge part given one d = absurd d
does_kind run event old new request.Resync Last (reply.Resynced corrected damaged) one d = tt
does_kind run event old new request.Resync Last given one d = absurd d
does_kind run event old new request.Resync part given one d = absurd d

part_kind : (run : Run) (event : RunEvent) (old new : Lists) (asked : Request) (part : EventPart) (given : Reply) → IsOneStep asked → PartAnswers run event old asked part given new → IsReplyTo asked given
part_kind run event old new asked part (reply.Refused why) one p = refused_kind asked why
part_kind run event old new asked part other one p = does_kind run event old new asked part other one p.1

-- ---- of one request

one_asked : (script : Requests) (i k : ℕ) (a b : ℕ × Request) → slice_get script i ≡ Some a → slice_get script k ≡ Some b → k ≡ i → b ≡ a
one_asked script i k a b p q e =
    let both : Some b ≡ Some a = sym q ∙ ap (λ (n : ℕ). slice_get script n) e ∙ p in
    cc both

-- the request's one step in the journal
step_kind : (run : Run) (script : Requests) (old : Lists) (steps : List JournalStep) (i : ℕ) (asked : ℕ × Request) (given : Reply) → slice_get script i ≡ Some asked → IsOneStep asked.1 → AreSteps run script old steps
    → map (λ (s : JournalStep). s.answer) (steps_of i steps) ≡ given ∷ [] → IsReplyTo asked.1 given
step_kind run script old [] i asked given at one are e = absurd (cc e)
step_kind run script old (s ∷ steps) i asked given at one are e = by_test (s.request == i) refl (λ f. step_kind run script s.left steps i asked given at one are.1 f) e
  where
    by_test : (b : Bool) → (s.request == i) ≡ b → (map (λ (x : JournalStep). x.answer) (steps_of i steps) ≡ given ∷ [] → IsReplyTo asked.1 given)
        → map (λ (x : JournalStep). x.answer) (if b then s ∷ steps_of i steps else steps_of i steps) ≡ given ∷ [] → IsReplyTo asked.1 given
    by_test true t on f =
        let answer : s.answer ≡ given = cc f in
        let same : are.0.asked ≡ asked = one_asked script i s.request asked are.0.asked at are.0.request_is (eqb-true s.request i t) in
        let p = subst (λ (a : ℕ × Request). PartAnswers (before s.event run) are.0.event old a.1 are.0.event.part s.answer s.left) same are.0.answers in
        subst (IsReplyTo asked.1) answer (part_kind (before s.event run) are.0.event old s.left asked.1 are.0.event.part s.answer one p)
    by_test false t on f = on f

reply_kind : (asked : Request) (given : Reply) (steps : List Reply) → IsReplyOf asked steps given → (IsOneStep asked → steps ≡ given ∷ [] → IsReplyTo asked given) → IsReplyTo asked given
reply_kind asked (reply.Refused why) steps is by_step = refused_kind asked why
reply_kind (request.Move name uid target) (reply.Moved copied gone) steps is by_step = tt
reply_kind (request.Move name uid target) other steps is by_step = absurd is
reply_kind other given steps is by_step = by_step refl is

-- ---- of each

each_kind : (script : Requests) (given : List Reply) → length given ≡ length script → ((i : ℕ) (asked : ℕ × Request) (answer : Reply) → slice_get script i ≡ Some asked → slice_get given i ≡ Some answer → IsReplyTo asked.1 answer) → AreRepliesTo script given
each_kind [] [] many each = tt
each_kind [] (g ∷ given) many each = absurd (omega (arith, many))
each_kind (a ∷ script) [] many each = absurd (omega (arith, many))
each_kind (a ∷ script) (g ∷ given) many each = (each 0 a g refl refl, each_kind script given (omega (arith, many)) (λ i asked answer p q. each (suc i) asked answer p q))

pub served_kinds : (script : Requests) (lists : Lists) (given : List Reply) (entries : List JournalEntry) (began now : Faults) (old opened new : Option History) → length given ≡ length script → ServesScript script lists given entries began now old opened new → AreRepliesTo script given
served_kinds script lists given entries began now old opened new many s = each_kind script given many (λ i asked answer p q.
    let has : slice_get (map Some given) i ≡ Some (Some answer) = slice_get-map Some given i ∙ ap (option_map Some) q in
    reply_kind asked.1 answer _ (s.served.legal.replied i asked answer p has) (λ one e. step_kind s.run script lists s.journal i asked answer p one s.served.legal.steps e))
