use Rattle.std.proofs.Common.{length, ap, arith}
use Rattle.log_records.proofs.EntrySizeLemmas.{lowered_size, counted_size, deleted_size, purged_size}
use Rattle.log_records.proofs.map_write.put_map_entry.Goals as goal

pub put_list_entry-requires-clause-size : goal.put_list_entry-requires-clause-size
put_list_entry-requires-clause-size c = omega (arith, ap length c.as_slice.ensures, c.requires.size, lowered_size c.args.entry.now _ c.in-D.is c.requires.range)

pub put_list_entry-requires-in-T-clause-size : goal.put_list_entry-requires-in-T-clause-size
put_list_entry-requires-in-T-clause-size c = omega (arith, ap length c.as_slice-in-T.ensures, c.requires.size, counted_size c.args.entry.now _ c.in-T.is c.requires.range)

pub put_purged-requires-clause-size : goal.put_purged-requires-clause-size
put_purged-requires-clause-size c =
    omega (arith, ap length c.as_slice-in-P.ensures, ap length c.as_slice-in-P-2.ensures, c.requires.size, purged_size c.args.entry.now _ _ _ _ c.in-P.is c.requires.range)

pub put_deleted-requires-clause-size : goal.put_deleted-requires-clause-size
put_deleted-requires-clause-size c = omega (arith, ap length c.as_slice-in-X.ensures, c.requires.size, deleted_size c.args.entry.now _ _ c.in-X.is c.requires.range)
