-- Where a copy, or the first half of a move, stands in a run.
use Rattle.std.specs.Prelude.{◌≡◌, ◌⊎◌, ℕ, Bool, true, List, [], ◌∷◌, if◌then◌else◌, Some, None}
use Rattle.mdbox_base.specs.declared.ids.MapUid.{MapUid}
use Rattle.mdbox_base.specs.declared.replies.Refusal.{Refusal}
use Rattle.mdbox_base.specs.declared.replies.Refusal.TheVariants as refusal
use Rattle.mdbox_base.specs.declared.replies.Reply.{Reply}
use Rattle.mdbox_base.specs.declared.replies.Reply.TheVariants as reply
use Rattle.list_machine.specs.Run.{EventPart, First, GivesBack, Last, StartsOver, Run, own_events, source_of, uid_copied}
use Rattle.list_machine.specs.Machine.{is_step}
use Rattle.journal.specs.Events.{uid_held}
use Rattle.mail_ops.specs.MakeStages.{EndsInPart, WasNotRefused}

-- what an event answers that is refused by this: nothing if it is no step
abbrev pub answered_by : Refusal → List Reply
answered_by why = if is_step why then reply.Refused why ∷ [] else []

-- the part behind the first: a copy is to begin again if the name of its source names another mailbox by then
abbrev pub adding_part : Bool → EventPart
adding_part elsewhere = if elsewhere then StartsOver else Last

-- It is to raise a count: it hasn't begun, or it has given back the one that it held, to begin again. It has added no message, and
-- answered nothing.
pub record IsToRaise (run : Run) (place : ℕ) (said : List Reply) : Type 0 where
  pub calm : WasNotRefused run place said
  pub last : (own_events place run ≡ []) ⊎ EndsInPart GivesBack (own_events place run)
  pub uncopied : uid_copied place run ≡ None

-- It holds a record since its last event, which raised the count of a message of the mailbox with this number. It has added no message, and
-- answered nothing.
pub record IsHolding (held : MapUid) (source : ℕ) (run : Run) (place : ℕ) (said : List Reply) : Type 0 where
  pub calm : WasNotRefused run place said
  pub last : EndsInPart First (own_events place run)
  pub held_is : uid_held place run ≡ Some held.0
  pub source_is : source_of place run ≡ source
  pub uncopied : uid_copied place run ≡ None

-- Its last event found that the name of its source names another mailbox: it gives the count back, and begins again. It has added no
-- message, and answered nothing.
pub record IsBeginningAgain (held : MapUid) (run : Run) (place : ℕ) (said : List Reply) : Type 0 where
  pub calm : WasNotRefused run place said
  pub last : EndsInPart StartsOver (own_events place run)
  pub held_is : uid_held place run ≡ Some held.0
  pub uncopied : uid_copied place run ≡ None

-- Its last event, which was to add the message, was refused by a check, or for want of memory, and it gives the count back.
pub record IsGivingBack (held : MapUid) (why : Refusal) (run : Run) (place : ℕ) (said : List Reply) : Type 0 where
  pub elsewhere : Bool
  pub last : EndsInPart (adding_part elsewhere) (own_events place run)
  pub refused : last.last.refused ≡ Some why
  pub held_is : uid_held place run ≡ Some held.0
  pub said_is : said ≡ answered_by why
  pub cause : (is_step why ≡ true) ⊎ (why ≡ refusal.NoMemory)
