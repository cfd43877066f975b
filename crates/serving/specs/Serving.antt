-- A script that is being served by lanes.
use Rattle.std.specs.Prelude.{◌≡◌, ◌≤◌, ◌<◌, ℕ, true, List, [], All, length, map, Option, None}
use Rattle.mdbox_base.specs.declared.replies.Refusal.TheVariants as refusal
use Rattle.mdbox_base.specs.declared.replies.Reply.{Reply}
use Rattle.mdbox_base.specs.declared.replies.Reply.TheVariants as reply
use Rattle.mdbox_base.specs.declared.requests.Request.{Request}
use Rattle.model_lists.specs.Lists.{Lists}
use Rattle.list_machine.specs.Run.{Run}
use Rattle.journal.specs.Journal.{Requests, JournalStep, Broken, HasReply}
use Rattle.journal.specs.Makes.{AreReplies, AreTold, StaysStopped, WouldDo}
use Rattle.task_steps.specs.Serves.{Serves, Follows}
use Rattle.task_steps.specs.Step.{Seen}
use Rattle.serving.specs.Lanes.{LaneValue, LanesAt}

-- A script is being served, from these lists and from a store as it was seen then: what its events have made of the store, that each
-- was the next of its lane and each step has its entry, that the replies are those of the events, what a failed append would have
-- done, that each event after one that a stopped store refused is refused so too, that a store which is stopped has replied so, and
-- where each lane stands.
pub record IsServing {T : Type 0} (At : T → Request → Run → ℕ → List Reply → Type 0) (start : Lists) (script : Requests) (run : Run) (journal : List JournalStep) (broken : Broken) (replies : List (Option Reply)) (began now : Seen) (lanes : List (LaneValue T)) : Type 0 where
  pub serves : Serves start script run journal broken replies began now
  pub follows : Follows start script run journal
  pub told : AreTold script run journal
  pub given : AreReplies script run replies
  pub would : WouldDo script start run journal broken
  pub stays_stopped : StaysStopped run.events
  pub replied_stopped : now.stopped ≡ true → (i : ℕ) × HasReply replies i (reply.Refused refusal.Stopped)
  pub lanes_at : LanesAt At script run journal replies lanes

-- no request is answered
abbrev pub unreplied : Requests → List (Option Reply)
unreplied script = map (λ asked. None) script

-- each request is of one of the lanes
abbrev pub HaveLanes : {T : Type 0} → Requests → List (LaneValue T) → Type 0
HaveLanes script lanes = All (λ asked. (0 < asked.0) × (asked.0 ≤ length lanes)) script

-- no lane has a request left
abbrev pub AreIdle : {T : Type 0} → List (LaneValue T) → Type 0
AreIdle lanes = All (λ value. value.queue ≡ []) lanes
