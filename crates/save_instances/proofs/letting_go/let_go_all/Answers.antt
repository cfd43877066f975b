use Rattle.std.proofs.Common.{◌≤◌, ◌+◌, [], length, drop, get_or, refl, arith}
use Rattle.mdbox_base.specs.declared.entries.InstRow.{InstRow}
use Rattle.save_instances.specs.Attaching.{found_let_go}
use Rattle.save_instances.proofs.LetGoLemmas.{known_all, known_more, moves_all, moves_more, next_is_held, same_more}
use Rattle.save_instances.proofs.letting_go.let_go_all.Goals as goal

abbrev none : InstRow
none = record { hash = record { 0 = [] }; id = record { 0 = [] }; size = 0 }

pub loop-row-init : goal.loop-row-init
loop-row-init g c = record {
  moves = λ id. refl;
  keeps = c.instances_are_kept.ensures.none c.args.store.now (g.D.Disk.history c.args.store.now.disk);
  same = refl;
  known = refl;
}

pub let_go-requires : goal.let_go-requires
let_go-requires g c = next_is_held c.args.found.now c.loop-row.row-index none c.args.store.now c.loop-row.store c.loop-row-test.true c.requires.held c.loop-row.invariant.moves

pub loop-row-preserved : goal.loop-row-preserved
loop-row-preserved g c = record {
  moves = moves_more c.args.found.now c.loop-row.row-index none c.args.store.now c.loop-row.store c.let_go.new.self c.loop-row-test.true c.loop-row.invariant.moves (c.let_go.ensures.moves (drop (c.loop-row.row-index + 1) c.args.found.now) (get_or c.args.found.now c.loop-row.row-index none) refl);
  keeps = c.instances_are_kept.ensures.both c.args.store.now c.loop-row.store c.let_go.new.self (g.D.Disk.history c.args.store.now.disk) (g.D.Disk.history c.loop-row.store.disk) (g.D.Disk.history c.let_go.new.self.disk) c.loop-row.invariant.keeps c.let_go.ensures.keeps;
  same = same_more c.args.store.now c.loop-row.store c.let_go.new.self _ c.loop-row.invariant.same c.let_go.ensures.same;
  known = known_more c.args.found.now c.loop-row.row-index none c.loop-row.store c.let_go.new.self (found_let_go c.args.found.now c.args.store.now.instances.known) c.loop-row-test.true c.loop-row.invariant.known c.let_go.ensures.same;
}

pub returns-clause-moves : goal.returns-clause-moves
returns-clause-moves g c =
    let past : length c.args.found.now ≤ c.loop-row.row-index = (let t = c.loop-row-test.false in omega (arith, t)) in
    moves_all c.args.found.now c.loop-row.row-index c.args.store.now c.loop-row.store past c.loop-row.invariant.moves

pub returns-clause-same : goal.returns-clause-same
returns-clause-same g c =
    let past : length c.args.found.now ≤ c.loop-row.row-index = (let t = c.loop-row-test.false in omega (arith, t)) in
    known_all c.args.found.now c.loop-row.row-index c.args.store.now c.loop-row.store past c.loop-row.invariant.known c.loop-row.invariant.same
