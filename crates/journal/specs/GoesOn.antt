-- What a legal journal may go on by, and what is read of one.
use Rattle.std.specs.Prelude.{◌≡◌, ◌≤◌, ◌<◌, ℕ, List, [], ◌∷◌, ◌++◌, length, map, slice_get, Some, All, ◌+◌, ◌==◌, true, false, count_by, Option, None, ◌⊎◌}
use Rattle.mdbox_base.specs.declared.requests.Request.{Request}
use Rattle.mdbox_base.specs.declared.replies.Reply.{Reply}
use Rattle.model_lists.specs.Lists.{Lists}
use Rattle.list_machine.specs.Run.{RunEvent, Run, before}
use Rattle.list_machine.specs.Machine.{Answers, refs_added, refs_taken, is_step}
use Rattle.journal.specs.Journal.{Requests, JournalStep, AreSteps, halves_of, steps_of, IsFirstPart, HasReply, IsReplyOf, is_read_fault, RoseBy, LacksOrGoesOn, IsHalted, Broken}
use Rattle.mdbox_base.specs.Streams.{Rose}
use Rattle.disk_model.specs.Disk.{Faults}
use Rattle.mdbox_base.specs.declared.replies.Refusal.TheVariants as refusal
use Rattle.mdbox_base.specs.declared.replies.Reply.TheVariants as reply
use Rattle.mdbox_base.specs.declared.requests.Request.TheVariants as request

abbrev pub event_at : JournalStep → ℕ
event_at step = step.event

-- A step may come next: its request has no reply yet, it is that request's next half, no step of its lane is of a later
-- request, and no earlier request of its lane was cut off.
pub record MayCome (script : Requests) (journal : List JournalStep) (replies : List (Option Reply)) (step : JournalStep) : Type 0 where
  pub not_replied : slice_get replies step.request ≡ Some None
  pub next_half : (asked : ℕ × Request) → slice_get script step.request ≡ Some asked → IsFirstPart (map (λ s. s.half) (steps_of step.request (journal ++ step ∷ []))) (halves_of asked.1)
  pub next_request : All (λ s. s.lane ≡ step.lane → s.request ≤ step.request) journal
  pub goes_on : (i : ℕ) (first second : ℕ × Request) → HasReply replies i (reply.Refused refusal.Stopped) → i < step.request → slice_get script i ≡ Some first → slice_get script step.request ≡ Some second → first.0 ≡ second.0 → ⊥

-- One request more has its reply.
pub record RepliesAlso (before after : List (Option Reply)) (i : ℕ) (given : Reply) : Type 0 where
  pub none_before : slice_get before i ≡ Some None
  pub here : HasReply after i given
  pub others : (j : ℕ) → (i == j) ≡ false → slice_get after j ≡ slice_get before j

-- A reply may be given: by the steps of its request, and a fault by its count. Behind a request that a stopped store cut
-- off, nothing but lack of memory or the fault is replied.
pub record MayReply (script : Requests) (run : Run) (journal : List JournalStep) (before after : List (Option Reply)) (old new : Faults) (i : ℕ) (given : Reply) : Type 0 where
  pub asked : ℕ × Request
  pub request_is : slice_get script i ≡ Some asked
  pub by_steps : IsReplyOf asked.1 (map (λ s. s.answer) (steps_of i journal)) given
  pub reads : RoseBy (count_by is_read_fault after) old.reads new.reads
  pub changes : given ≡ reply.Refused refusal.Stopped → Rose old.changes new.changes
  pub unfinished : given ≡ reply.Refused refusal.Stopped → LacksOrGoesOn run script journal i
  pub later : given ≡ reply.Refused refusal.Stopped → (j : ℕ) (second : ℕ × Request) → i < j → slice_get script j ≡ Some second → asked.0 ≡ second.0 → IsHalted journal before j
  pub behind : (k : ℕ) (first : ℕ × Request) → HasReply before k (reply.Refused refusal.Stopped) → k < i → slice_get script k ≡ Some first → first.0 ≡ asked.0
      → (given ≡ reply.Refused refusal.NoMemory) ⊎ (given ≡ reply.Refused refusal.Stopped)

-- What the next step of a journal needs beside what the task says of it.
abbrev pub AllMayCome : Requests → List JournalStep → List (Option Reply) → List JournalStep → Type 0
AllMayCome script journal replies [] = Unit {0}
AllMayCome script journal replies (step ∷ steps) = MayCome script journal replies step

-- What a failed append would have done: one event, as the last of the run, and the step that it would have made.
abbrev pub broken_by : Run → RunEvent → ℕ → JournalStep → Broken
broken_by run would began step = record { place = length run.events; events = would ∷ []; began = began; steps = step ∷ [] }

-- The references to a GUID that the steps of a journal add and take.
abbrev pub all_added : (run : Run) (script : Requests) (old : Lists) (steps : List JournalStep) → List ℕ → AreSteps run script old steps → ℕ
all_added run script old [] guid s = 0
all_added run script old (step ∷ steps) guid s = refs_added old s.0.asked.1 s.0.event.part step.answer guid + all_added run script step.left steps guid s.1

abbrev pub all_taken : (run : Run) (script : Requests) (old : Lists) (steps : List JournalStep) → List ℕ → AreSteps run script old steps → ℕ
all_taken run script old [] guid s = 0
all_taken run script old (step ∷ steps) guid s = refs_taken (before step.event run) s.0.event old s.0.asked.1 s.0.event.part step.answer guid + all_taken run script step.left steps guid s.1

-- What a request alone replies, where it is neither a move nor stopped by memory, a fault or damage, is what the machine
-- answers on the lists at the start, at an event of the run.
pub record AnswersAlone (run : Run) (start : Lists) (request : Request) (given : Reply) (left : Lists) : Type 0 where
  pub place : ℕ
  pub event : RunEvent
  pub event_is : slice_get run.events place ≡ Some event
  pub answers : Answers (before place run) start request event given left

abbrev pub IsOneStep : Request → Reply → Type 0
IsOneStep (request.Move name uid target) given = ⊥
IsOneStep request (reply.Refused refusal) = is_step refusal ≡ true
IsOneStep request given = Unit {0}
