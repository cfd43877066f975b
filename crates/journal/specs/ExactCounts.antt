-- What one event does to the count of a record, and what a count adds up to.
use Rattle.std.specs.Prelude.{◌≡◌, ◌+◌, ℕ, sum_by}
use Rattle.model_lists.specs.Lists.{Lists, refs_of}
use Rattle.model_meaning.specs.MapMeaning.{MapRecord}
use Rattle.list_machine.specs.Run.{RunEvent, Run}
use Rattle.journal.specs.Events.{begun_in, ended_in}

-- What a record has, after an event, on both sides: its count, what ended, and the references that the step took; against
-- its count before, what began, and the references that the step added.
abbrev pub IsBalanced : MapRecord → MapRecord → RunEvent → ℕ → ℕ → Type 0
IsBalanced before after event taken added = (after.count + ended_in before.uid event) + taken ≡ (before.count + begun_in before.uid event) + added

abbrev pub begun_so_far : Run → ℕ → ℕ
begun_so_far run uid = sum_by (begun_in uid) run.events

abbrev pub ended : Run → ℕ → ℕ
ended run uid = sum_by (ended_in uid) run.events

-- A record adds up: its count is its references, what is held and owed, and a leak.
abbrev pub CountsAddUp : Run → Lists → MapRecord → ℕ → Type 0
CountsAddUp run lists row leak = row.count + ended run row.uid ≡ (refs_of lists row.guid + begun_so_far run row.uid) + leak
