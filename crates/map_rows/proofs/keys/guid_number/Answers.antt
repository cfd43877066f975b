use Rattle.map_rows.specs.Keys.{guid_number}
use Rattle.map_rows.proofs.keys.guid_number.Goals as goal

pub returns-clause-number : goal.returns-clause-number
unfolding guid_number
returns-clause-number c = c.from_be_bytes.ensures
