use Rattle.printed_replies.proofs.PlaceLemmas.{served_places}
use Rattle.printed_replies.proofs.laws.printed_places_number_the_journal.Goals as goal

pub returns : goal.returns
returns c = λ script lists given entries began now old opened new many served. served_places script lists given entries began now old opened new many served
