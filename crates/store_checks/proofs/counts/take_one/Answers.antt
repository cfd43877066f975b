use Rattle.std.proofs.Common.{◌≡◌, ◌+◌, ◌-◌, get_or, arith}
use Rattle.store_checks.proofs.CountLemmas.{no_place, record_there, one_off, none_left}
use Rattle.store_checks.proofs.counts.take_one.Goals as goal

pub returns-in_default : goal.returns-in_default
returns-in_default c = no_place c.args.map.now.meaning c.args.uid.0 c.place_of.result c.args.left.now c.place_of.ensures.there c.in_default.is c.requires

pub returns-then-rest-eq0 : goal.returns-then-rest-eq0
returns-then-rest-eq0 c =
    let r = record_there c.args.map.now.meaning c.args.uid.0 c.in-Some.place c.place_of.result c.place_of.ensures.place c.in-Some.is in
    none_left c.args.uid.0 c.args.map.now.meaning.records c.args.left.now c.in-Some.place r.0 r.1 r.2 c.requires c.if-rest-eq0.true

pub returns : goal.returns
returns c =
    let r = record_there c.args.map.now.meaning c.args.uid.0 c.in-Some.place c.place_of.result c.place_of.ensures.place c.in-Some.is in
    let some : (get_or c.args.left.now c.in-Some.place 0 - 1) + 1 ≡ get_or c.args.left.now c.in-Some.place 0 = omega (arith, c.if-rest-eq0.false) in
    one_off c.args.uid.0 c.args.map.now.meaning.records c.args.left.now c.in-Some.place r.0 (get_or c.args.left.now c.in-Some.place 0 - 1) c.known_facts.ensures.records.rising r.1 r.2 c.requires some
