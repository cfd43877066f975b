-- A session: requests that were read one after another, done, and told.
use Rattle.std.specs.Prelude.{◌≡◌, ◌<◌, ◌⊎◌, ◌++◌, ◌∷◌, ℕ, List, [], length, map, IfSome, Option, Some}
use Rattle.std.specs.List.{AllByRecursion}
use Rattle.disk_model.specs.Disk.{Faults, History}
use Rattle.mdbox_base.specs.Streams.{Appended}
use Rattle.mdbox_base.specs.declared.replies.Reply.{Reply}
use Rattle.mdbox_base.specs.declared.script.JournalEntry.{JournalEntry}
use Rattle.journal.specs.Journal.{Requests}
use Rattle.piece_writer.specs.Pieces.{WritesPrefix}
use Rattle.request_text.specs.BatchText.{batch_text}
use Rattle.request_text.specs.Outcomes.{replies_outcome}
use Rattle.request_text.specs.declared.outcome.InputRefusal.TheVariants as refusal
use Rattle.request_text.specs.declared.outcome.Outcome.{Outcome}
use Rattle.request_text.specs.declared.outcome.Outcome.TheVariants as outcome
use Rattle.script_run.specs.Done.{IsScriptDone}
use Rattle.script_run.specs.Script.{HasStopped}
use Rattle.script_text.specs.Flaws.{IsFlawOf}
use Rattle.script_text.specs.Script.{BeginsNoRequest, FitsLanes, script_text}

-- How replies with this text are told, one after another: whole; or a prefix of it, for a fault of the output or out of memory.
abbrev pub ShowsLines : List ℕ → Option (List ℕ) → Option (List ℕ) → Outcome → Type 0
ShowsLines text held later outcome.WriteFault = WritesPrefix held [] text later
ShowsLines text held later outcome.NoMemory = WritesPrefix held [] text later
ShowsLines text held later ended = Appended held text later

-- the source has this left, where that is told: no octet after the last request was taken
abbrev pub IsLeftInSource : List ℕ → Option (List ℕ) → Type 0
IsLeftInSource rest left = IfSome left (λ octets. octets ≡ rest)

-- The input came to its end, and the session ends as its replies say.
abbrev pub StopsAtEnd : List ℕ → Option (List ℕ) → List Reply → Outcome → Type 0
StopsAtEnd rest left given ended = (rest ≡ []) × IsLeftInSource [] left × (HasStopped given → ⊥) × (ended ≡ replies_outcome (map Some given))

-- Why a session ended: at what is no request; after 100,000 of them; since the last reply says that the store is stopped; by a fault of the
-- input or the output; out of memory; or at the input's end, as its replies say.
abbrev pub SessionStopsAt : List ℕ → Requests → List ℕ → Option (List ℕ) → List Reply → Outcome → Type 0
SessionStopsAt input script rest left given (outcome.InputRefused (refusal.Script flaw)) = (0 < length rest) × BeginsNoRequest 64 rest × IsFlawOf 64 input flaw × (flaw.offset ≡ length (script_text script)) × (HasStopped given → ⊥)
SessionStopsAt input script rest left given outcome.SessionFull = (length script ≡ 100000) × IsLeftInSource rest left × (HasStopped given → ⊥)
SessionStopsAt input script rest left given outcome.DiskFault = (HasStopped given × IsLeftInSource rest left) ⊎ StopsAtEnd rest left given outcome.DiskFault
SessionStopsAt input script rest left given outcome.ReadFault = HasStopped given → ⊥
SessionStopsAt input script rest left given outcome.WriteFault = Unit {0}
SessionStopsAt input script rest left given outcome.NoMemory = Unit {0}
SessionStopsAt input script rest left given ended = StopsAtEnd rest left given ended

-- No request follows one whose reply says that the store is stopped.
abbrev pub EndsAtStop : List Reply → Type 0
EndsAtStop given = (earlier : List Reply) (last : Reply) → given ≡ earlier ++ last ∷ [] → HasStopped earlier → ⊥

-- These requests of 64 lanes were read from the input, in order, and this was left of it. They were done as a script of their own: each has
-- its reply, and the replies are told as those of a script, each with the places of its steps. So the session ended, and this is left in
-- the source.
pub record IsSessionDone (input : List ℕ) (left held later : Option (List ℕ)) (old new : Option History) (began now : Faults) (ended : Outcome) : Type 0 where
  pub script : Requests
  pub rest : List ℕ
  pub read : input ≡ script_text script ++ rest
  pub fits : AllByRecursion (FitsLanes 64) script
  pub given : List Reply
  pub journal : List JournalEntry
  pub done : IsScriptDone script given journal old new began now
  pub last : EndsAtStop given
  pub printed : ShowsLines (batch_text journal (map Some given)) held later ended
  pub stops : SessionStopsAt input script rest left given ended
