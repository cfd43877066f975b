-- One request of a session.
use Rattle.std.specs.Prelude.{false, ◌≡◌, ◌≢◌, ◌<◌, ◌+◌, ◌∷◌, ◌⊎◌, ℕ, List, [], All, length, Option, Some}
use Rattle.disk_model.specs.Disk.{Faults, History}
use Rattle.mdbox_base.specs.Streams.{Appended, IsAtEnd, Taken}
use Rattle.mdbox_base.specs.declared.replies.Refusal.TheVariants as refused
use Rattle.mdbox_base.specs.declared.replies.Reply.{Reply}
use Rattle.mdbox_base.specs.declared.replies.Reply.TheVariants as reply
use Rattle.mdbox_base.specs.declared.requests.Request.{Request}
use Rattle.journal.specs.Journal.{HasReply}
use Rattle.serving.specs.Serving.{AreIdle}
use Rattle.lanes.specs.Asked.{GoesWith, events_of}
use Rattle.lanes.specs.Rows.{lanes_of}
use Rattle.lanes.specs.Worlds.{WorldValue}
use Rattle.piece_writer.specs.Pieces.{WritesPrefix}
use Rattle.request_text.specs.BatchText.{answer_text, request_steps}
use Rattle.request_text.specs.Outcomes.{replies_outcome}
use Rattle.request_text.specs.declared.outcome.InputRefusal.TheVariants as refusal
use Rattle.request_text.specs.declared.outcome.Outcome.{Outcome}
use Rattle.request_text.specs.declared.outcome.Outcome.TheVariants as outcome
use Rattle.script_text.specs.Flaws.{IsNeeded}
use Rattle.script_text.specs.Script.{BeginsNoRequest, FitsLanes, request_text}
use Rattle.script_text.specs.Taking.{OfSource, extent}
use Rattle.script_text.specs.declared.take.Extent.{Extent}

-- each request has its reply
abbrev pub HaveReplies : List (Option Reply) → Type 0
HaveReplies replies = (place : ℕ) → place < length replies → (given : Reply) × HasReply replies place given

-- A world between two requests: it has 64 lanes, none of which has a request left, each request has its reply, none of which says that the
-- store is stopped, it wasn't finished, and each entry is of a request that was asked.
pub record IsWaiting {D : Type 0} (world : WorldValue D) : Type 0 where
  pub many : length world.rows ≡ 64
  pub idle : AreIdle (lanes_of world.rows)
  pub replied : HaveReplies world.replies
  pub goes_on : world.finished ≡ false
  pub running : (place : ℕ) → HasReply world.replies place (reply.Refused refused.Stopped) → ⊥
  pub own : All (λ entry. entry.request < length world.replies) world.journal

-- The text of the last request's reply, with the places of its steps.
abbrev pub last_text : {D : Type 0} → WorldValue D → WorldValue D → Reply → List ℕ
last_text old new given = answer_text (length old.replies + 1) (request_steps new.journal (length old.replies)) (Some given)

-- The request was asked of a lane, and events followed.
pub record IsUnderWay {D : Type 0} (history : D → Option History) (faults : D → Faults) (asked : ℕ × Request) (old new : WorldValue D) : Type 0 where
  pub lanes : List ℕ
  pub goes : GoesWith history faults ((asked.0, Some asked.1) ∷ events_of lanes) old new

-- It was asked and answered so.
pub record IsAnswered {D : Type 0} (history : D → Option History) (faults : D → Faults) (asked : ℕ × Request) (old new : WorldValue D) (given : Reply) : Type 0 where
  pub begun : IsUnderWay history faults asked old new
  pub idle : AreIdle (lanes_of new.rows)
  pub replied : HaveReplies new.replies
  pub reply : HasReply new.replies (length old.replies) given

-- It was asked, answered so, and its reply is told.
pub record IsAnsweredAndTold {D : Type 0} (history : D → Option History) (faults : D → Faults) (asked : ℕ × Request) (old new : WorldValue D) (held later : Option (List ℕ)) (given : Reply) : Type 0 where
  pub answered : IsAnswered history faults asked old new given
  pub printed : Appended held (last_text old new given) later

-- The session ends with it: no memory to ask it, or for its events, and nothing is told of it; a prefix of its reply is told, for a fault
-- of the output or out of memory; or the reply is that the store is stopped.
abbrev pub EndsByRequest : {D : Type 0} → (D → Option History) → (D → Faults) → ℕ × Request → WorldValue D → WorldValue D → Option (List ℕ) → Option (List ℕ) → Outcome → Type 0
EndsByRequest history faults asked old new held later outcome.NoMemory =
    (((new ≡ old) ⊎ IsUnderWay history faults asked old new) × (later ≡ held)) ⊎ ((given : Reply) × IsAnswered history faults asked old new given × WritesPrefix held [] (last_text old new given) later)
EndsByRequest history faults asked old new held later outcome.WriteFault = (given : Reply) × IsAnswered history faults asked old new given × WritesPrefix held [] (last_text old new given) later
EndsByRequest history faults asked old new held later outcome.DiskFault = IsAnsweredAndTold history faults asked old new held later (reply.Refused refused.Stopped)
EndsByRequest history faults asked old new held later other = ⊥

-- ---- from the input

-- so far on
abbrev pub extent_then : Extent → Extent → Extent
extent_then first second = record { octets = first.octets + second.octets; lines = first.lines + second.lines }

-- A request was taken from the input, and no more of it; it was answered, and its reply is told. It isn't that the store is stopped.
pub record IsOneDone {D : Type 0} (history : D → Option History) (faults : D → Faults) (old new : WorldValue D) (left rest held later : Option (List ℕ)) (at next : Extent) : Type 0 where
  pub asked : ℕ × Request
  pub fits : FitsLanes 64 asked
  pub taken : Taken left (request_text asked) rest
  pub given : Reply
  pub served : IsAnsweredAndTold history faults asked old new held later given
  pub runs : given ≢ reply.Refused refused.Stopped
  pub further : next ≡ extent_then at (extent (request_text asked))

-- Nothing was done, and nothing told.
abbrev pub IsStill : {D : Type 0} → WorldValue D → WorldValue D → Option (List ℕ) → Option (List ℕ) → Type 0
IsStill old new held later = (new ≡ old) × (later ≡ held)

-- The last one was taken, and the session ends with it.
pub record IsLast {D : Type 0} (history : D → Option History) (faults : D → Faults) (old new : WorldValue D) (left rest held later : Option (List ℕ)) (ended : Outcome) : Type 0 where
  pub asked : ℕ × Request
  pub fits : FitsLanes 64 asked
  pub taken : Taken left (request_text asked) rest
  pub ends : EndsByRequest history faults asked old new held later ended

-- No request follows: the input is at its end; none stands there, which comes after so much of it; it failed; or out of memory.
abbrev pub FindsNone : {D : Type 0} → WorldValue D → Option (List ℕ) → Option (List ℕ) → Extent → Outcome → Type 0
FindsNone old left rest at (outcome.InputRefused (refusal.Script flaw)) = (flaw.offset ≡ at.octets) × (flaw.line ≡ 1 + at.lines) × OfSource left (λ all. (0 < length all) × BeginsNoRequest 64 all × IsNeeded 64 all flaw.need)
FindsNone old left rest at outcome.ReadFault = Unit {0}
FindsNone old left rest at outcome.NoMemory = Unit {0}
FindsNone old left rest at ended = IsAtEnd left × (rest ≡ left) × (ended ≡ replies_outcome old.replies)

-- The session ends: no request follows, or it ends with one.
abbrev pub EndsSession : {D : Type 0} → (D → Option History) → (D → Faults) → WorldValue D → WorldValue D → Option (List ℕ) → Option (List ℕ) → Option (List ℕ) → Option (List ℕ) → Extent → Outcome → Type 0
EndsSession history faults old new left rest held later at ended = (IsStill old new held later × FindsNone old left rest at ended) ⊎ IsLast history faults old new left rest held later ended
