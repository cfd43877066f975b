-- Requests whose events run one directly after another, with nothing between.
use Rattle.std.specs.Prelude.{◌≡◌, ◌≤◌, ◌+◌, ℕ, List, Some, None, All}
use Rattle.mdbox_base.specs.declared.requests.Request.{Request}
use Rattle.mdbox_base.specs.declared.requests.Request.TheVariants as request
use Rattle.mdbox_base.specs.declared.replies.Reply.{Reply}
use Rattle.mdbox_base.specs.declared.replies.Reply.TheVariants as reply
use Rattle.model_lists.specs.Lists.{Lists, refs_of}
use Rattle.model_meaning.specs.MapMeaning.{count_of}
use Rattle.list_machine.specs.Run.{RunEvent, Run, First, Last, map_of, drawn_of, number_made}
use Rattle.list_machine.specs.Machine.{PartAnswers, first_refusal, part_checks}
use Rattle.plain_lists.specs.View.{ListsMade}

-- The run has nothing but these lists: the count that is kept of each GUID is its references, and the highest mailbox
-- number, of the map and of those drawn, is the highest that one was ever given; so none that is there has a higher one.
pub record IsAlone (run : Run) (made : ListsMade) : Type 0 where
  pub counts : (guid : List ℕ) → count_of (map_of run) guid ≡ refs_of made.lists guid
  pub given : All (λ mailbox. mailbox.number ≤ made.highest) made.lists
  pub mailboxes : (drawn_of run).mailbox ≡ made.highest
  pub highest : (map_of run).highest.mailbox ≤ (drawn_of run).mailbox

-- The run as the last event of a request begins, and that event: the first of a make has drawn a mailbox number, and the
-- last names it.
abbrev pub IsBehindFirst : Request → Run → Run → RunEvent → Type 0
IsBehindFirst (request.Make name) run later event =
    (map_of later ≡ map_of run) × ((drawn_of later).mailbox ≡ (drawn_of run).mailbox + 1) × (number_made event.map_entries ≡ Some (drawn_of later).mailbox)
IsBehindFirst request run later event = Unit {0}

-- The answer to a request of two events: a refusal at its first, or, where that refuses nothing, what its last does.
abbrev pub AnswersAtOnce : Run → Lists → Request → Reply → Lists → Type 0
AnswersAtOnce run old request (reply.Refused refusal) new = (event : RunEvent) → PartAnswers run event old request First (reply.Refused refusal) new
AnswersAtOnce run old request reply new =
    (event last : RunEvent) (later : Run) → IsBehindFirst request run later last → (first_refusal run old (part_checks run event request First) ≡ None) × PartAnswers later last old request Last reply new

-- the highest number that a mailbox was ever given, after this reply to a make
abbrev pub highest_made : Reply → ℕ → ℕ
highest_made reply.Done highest = highest + 1
highest_made other highest = highest
