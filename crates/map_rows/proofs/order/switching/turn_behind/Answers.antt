use Rattle.map_rows.proofs.Common.{rules}
use Rattle.std.proofs.lemmas.List.Sorted.{IsPermutation-put_mid}
use Rattle.map_rows.proofs.order.switching.turn_behind.Goals as goal

pub returns-clause-keys : goal.returns-clause-keys
returns-clause-keys c = search (rules, IsPermutation-put_mid)
