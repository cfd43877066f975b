use Rattle.store_core.proofs.Common.{arith}
use Rattle.store_core.proofs.MapAppendLemmas.{few_octets}
use Rattle.store_core.proofs.store.append_map.reserve_log.Goals as goal

pub overflow_add-octets : goal.overflow_add-octets
overflow_add-octets c = omega (arith, c.map_entry_size-octets.ensures, few_octets c.args.entry.now c.requires.range)
