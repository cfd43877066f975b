use Rattle.std.specs.Prelude.{min}
use Rattle.map_rows.proofs.Common.{◌≡◌, ◌+◌, arith, meant_record}
use Rattle.map_rows.proofs.RegionLemmas.{free_test}
use Rattle.map_rows.proofs.table.Table.is_free.Goals as goal

pub returns-in-Some : goal.returns-in-Some
returns-in-Some c =
    let e : c.min-end.result ≡ min (c.args.offset + c.args.size) 4294967296 = omega (arith, c.min-end.ensures, c.from.ensures, c.from-2.ensures) in
    free_test c.args.self.now.records c.args.file c.args.offset c.args.size c.min-end.result (meant_record c.in-Some.record.now) c.end.result c.from-in-Some.result c.known_facts.ensures e c.in-Some.ensures.some c.end.ensures c.from-in-Some.ensures
