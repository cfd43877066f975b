use Rattle.model_meaning.proofs.meanings.more_entries.Goals as goal
use Rattle.model_meaning.proofs.RowLemmas.{rows_more}
use Rattle.model_meaning.specs.BoxMeaning.{row_rules}
use Rattle.model_meaning.specs.MapMeaning.{record_rules, box_rules}

pub returns : goal.returns
returns c = record { mailbox = rows_more row_rules; records = rows_more record_rules; mailboxes = rows_more box_rules }
