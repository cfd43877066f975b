use Rattle.std.proofs.Common.{rules}
use Rattle.log_records.proofs.StoredEntryLemmas.{letter_front}
use Rattle.log_records.proofs.WordTextLemmas.{added_read, worded_read}
use Rattle.log_records.proofs.mailbox.read_box_entry.Goals as goal

pub returns-in-65 : goal.returns-in-65
returns-in-65 c = added_read c.args.version c.args.text.now _ c.added.result (search (rules, letter_front)) c.added.ensures.entry c.added.ensures.memory

pub returns-in-75 : goal.returns-in-75
returns-in-75 c = worded_read c.args.version c.args.text.now _ c.worded.result (search (rules, letter_front)) c.worded.ensures.entry c.worded.ensures.memory
