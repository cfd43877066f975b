use Rattle.std.proofs.Common.{rules}
use Rattle.std.proofs.lemmas.Result.{IfOk-weaker}
use Rattle.log_records.proofs.StoredEntryLemmas.{letter_front, stored_or_not}
use Rattle.log_records.proofs.map_read.read_map_entry.Goals as goal

pub returns-in-83 : goal.returns-in-83
returns-in-83 c = IfOk-weaker c.stored.result _ _ (λ found h. stored_or_not c.args.text.now _ found (search (rules, letter_front)) h) c.stored.ensures
