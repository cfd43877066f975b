use Rattle.std.proofs.Common.{arith}
use Rattle.log_records.proofs.EntrySizeLemmas.{stored_size, lowered_size, counted_size, deleted_size, purged_size}
use Rattle.log_records.proofs.map_write.map_entry_size.Goals as goal

pub returns-in-S : goal.returns-in-S
returns-in-S c = omega (arith, c.length.ensures, stored_size c.args.entry.now _ _ _ _ _ _ _ _ c.in-S.is c.requires)

pub returns-in-D : goal.returns-in-D
returns-in-D c = omega (arith, c.length-in-D.ensures, lowered_size c.args.entry.now _ c.in-D.is c.requires)

pub returns-in-T : goal.returns-in-T
returns-in-T c = omega (arith, c.length-in-T.ensures, counted_size c.args.entry.now _ c.in-T.is c.requires)

pub returns-in-P : goal.returns-in-P
returns-in-P c = omega (arith, c.length-in-P.ensures, c.length-in-P-2.ensures, purged_size c.args.entry.now _ _ _ _ c.in-P.is c.requires)

pub returns-in-X : goal.returns-in-X
returns-in-X c = omega (arith, c.length-in-X.ensures, deleted_size c.args.entry.now _ _ c.in-X.is c.requires)
