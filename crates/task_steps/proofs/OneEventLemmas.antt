-- Requests of one event: what is refused, and how they end.
use Rattle.std.proofs.Common.{◌≡◌, Ok, Err, ℕ, Bool, true, false, List, [], ◌∷◌, Option, Some, None, refl, sym, ap, ◌∙◌, subst, arith, inl}
use Rattle.std.specs.Prelude.{length, slice_get, ◌↔◌, ◌++◌}
use Rattle.std.specs.Option.{option_or}
use Rattle.mdbox_base.specs.declared.progress.Did.TheVariants as did
use Rattle.mdbox_base.specs.declared.replies.Refusal.{Refusal}
use Rattle.mdbox_base.specs.declared.replies.Refusal.TheVariants as refusal
use Rattle.mdbox_base.specs.declared.replies.Reply.{Reply}
use Rattle.mdbox_base.specs.declared.replies.Reply.TheVariants as reply
use Rattle.mdbox_base.specs.declared.requests.Request.{Request}
use Rattle.mdbox_base.specs.declared.script.Half.TheVariants as half
use Rattle.model_lists.specs.Lists.{Lists}
use Rattle.model_meaning.specs.MapMeaning.{no_numbers}
use Rattle.list_machine.specs.Run.{First, RunEvent, Run, own_events}
use Rattle.list_machine.specs.Machine.{PartAnswers, is_step}
use Rattle.journal.specs.Journal.{half_of, halves_of, IsReplyOf}
use Rattle.journal.specs.Events.{Around, Finds, has_memory, last_refusal, next_part, behind_refused}
use Rattle.journal.specs.Found.{AgreesWithRun}
use Rattle.task_steps.specs.Step.{Seen, ShowsSeen, HasComeTo, and_told, DidEvent, HasNotBegun}
use Rattle.task_steps.proofs.EventLaws.{CanRefuse, did_check, did_forget, did_stop, refuses, replied_so, stays_left}
use Rattle.task_steps.proofs.KeptStoreLemmas.{stays_itself}
use Rattle.task_steps.proofs.UnmovedLemmas.{nothing}

-- a request whose first event is its step and its end, and finds nothing in files
pub record IsPlain (q : Request) : Type 0 where
  pub found : (around : Around) (run : Run) (event : RunEvent) → AgreesWithRun around run q event First
  pub finds : (around : Around) (event : RunEvent) → Finds around q event
  pub memory : has_memory First q ≡ false
  pub behind : (why : Refusal) → behind_refused q First why ≡ None
  pub half_is : half_of q First ≡ half.Whole
  pub halves_are : halves_of q ≡ half.Whole ∷ []

pub next_first : (around : Around) (run : Run) (q : Request) (own : List RunEvent) → own ≡ [] → next_part around run q own ≡ Some First
next_first around run q own e = ap (λ (es : List RunEvent). next_part around run q es) e

-- the last refusal of a request with one event is that event's
pub refusal_last : (own : List RunEvent) (event : RunEvent) → own ≡ [] → last_refusal (own ++ event ∷ []) ≡ event.refused
refusal_last own event e = ap (λ (es : List RunEvent). last_refusal (es ++ event ∷ [])) e ∙ first_or event.refused
  where
    first_or : (r : Option Refusal) → option_or None r ≡ r
    first_or r = refl

-- the reply follows, of a request that had no step before
pub first_reply : (q : Request) (said : List Reply) (answer : Option Reply) (given : Reply) → said ≡ [] → IsReplyOf q (and_told [] answer) given → (r : Reply) → Some given ≡ Some r → IsReplyOf q (and_told said answer) r
first_reply q said answer given none is = replied_so q (and_told said answer) given (subst (λ (s : List Reply). IsReplyOf q (and_told s answer) given) (sym none) is)

pub first_turn : (q : Request) (said : List Reply) → IsPlain q → said ≡ [] → slice_get (halves_of q) (length said) ≡ Some (half_of q First)
first_turn q said plain none = (ap (λ (s : List Reply). slice_get (halves_of q) (length s)) none ∙ ap (λ (hs : List _). slice_get hs 0) plain.halves_are) ∙ ap (λ (h : _). Some h) (sym plain.half_is)

-- ---- it is refused

pub plain_refuses : (around : Around) (run : Run) (place : ℕ) (q : Request) (why : Refusal) → IsPlain q → own_events place run ≡ [] → CanRefuse around run place q First why (Some (reply.Refused why)) no_numbers
plain_refuses around run place q why plain own =
    refuses around run place q First why no_numbers (λ lane calls. plain.finds around _) (λ lane calls. plain.found around run _) (next_first around run q (own_events place run) own) (plain.behind why)

-- by a stopped store
pub plain_stopped : (around after : Around) (run : Run) (lane place : ℕ) (said : List Reply) (q : Request) (lists : Lists) (seen : Seen) → IsPlain q → HasComeTo run seen → ShowsSeen seen lists → HasNotBegun run place said → seen.stopped ≡ true
    → DidEvent around after run lane place said q lists seen seen did.Quiet (Some (reply.Refused refusal.Stopped))
plain_stopped around after run lane place said q lists seen plain come shows stage stopped = (did_stop around after run lane place said q First lists seen (plain_refuses around run place q refusal.Stopped plain stage.0) come shows stopped).so

-- out of memory
pub plain_forgets : (around after : Around) (run : Run) (lane place : ℕ) (said : List Reply) (q : Request) (lists : Lists) (seen : Seen) → IsPlain q → HasComeTo run seen → ShowsSeen seen lists → HasNotBegun run place said → seen.stopped ≡ false
    → DidEvent around after run lane place said q lists seen seen did.Quiet (Some (reply.Refused refusal.NoMemory))
plain_forgets around after run lane place said q lists seen plain come shows stage runs =
    (did_forget around after run lane place said q First lists seen seen (Some (reply.Refused refusal.NoMemory)) no_numbers (plain_refuses around run place q refusal.NoMemory plain stage.0) (stays_left run lane place First refusal.NoMemory (Some (reply.Refused refusal.NoMemory)) lists seen seen come (stays_itself seen) shows) runs runs
    (nothing lists seen) refl plain.memory (λ event. inl refl) (replied_so q said (reply.Refused refusal.NoMemory) stage.1)).so

-- by the list machine
pub plain_refused : (around after : Around) (run : Run) (lane place : ℕ) (said : List Reply) (q : Request) (lists : Lists) (seen : Seen) (why : Refusal) → IsPlain q → HasComeTo run seen → ShowsSeen seen lists → HasNotBegun run place said → seen.stopped ≡ false
    → is_step why ≡ true → IsReplyOf q (reply.Refused why ∷ []) (reply.Refused why) → ((event : RunEvent) → PartAnswers run event lists q First (reply.Refused why) lists) → DidEvent around after run lane place said q lists seen seen (did.Step half.Whole) (Some (reply.Refused why))
plain_refused around after run lane place said q lists seen why plain come shows stage runs step is answers =
    (did_check around after run lane place said q First lists seen seen why (Some (reply.Refused why)) half.Whole (plain_refuses around run place q why plain stage.0) (stays_left run lane place First why (Some (reply.Refused why)) lists seen seen come (stays_itself seen) shows) runs runs
    (nothing lists seen) refl step plain.half_is (first_turn q said plain stage.1) (λ event. (answers event).0) (first_reply q said (Some (reply.Refused why)) (reply.Refused why) stage.1 is)).so

-- ---- by the test of the store

pub never_more : (r : Reply) → Some r ≡ None → ⊥
never_more r e = cc e

pub not_true : (b : Bool) → (b ≡ true → ⊥) → b ≡ false
not_true true f = absurd (f refl)
not_true false f = refl

pub ok_is_none : {E : Type 0} → (e : E) {u : Unit {0}} → Ok u ≡ Err e → ⊥
ok_is_none e k = cc k
