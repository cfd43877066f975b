use Rattle.mail_fetch.proofs.Common.{◌≤◌, ◌+◌, [], length, drop, get_or, refl, arith, InstRow, held_for}
use Rattle.save_instances.proofs.LetGoLemmas.{same_more}
use Rattle.mail_fetch.proofs.HoldLemmas.{held_all, held_more, holds_all, holds_more, next_has_room, next_is_known}
use Rattle.mail_fetch.proofs.claim.hold_all.Goals as goal

abbrev none : InstRow
none = record { hash = record { 0 = [] }; id = record { 0 = [] }; size = 0 }

pub loop-row-init : goal.loop-row-init
loop-row-init g c = record {
  moves = λ id. refl;
  keeps = c.instances_are_kept.ensures.none c.args.store.now (g.D.Disk.history c.args.store.now.disk);
  same = refl;
  known = refl;
}

pub hold-requires-clause-known : goal.hold-requires-clause-known
hold-requires-clause-known g c = next_is_known c.args.rows.now c.loop-row.row-index none c.args.store.now c.loop-row.store c.loop-row-test.true c.requires.known c.loop-row.invariant.keeps.known

pub hold-requires-clause-fewer : goal.hold-requires-clause-fewer
hold-requires-clause-fewer g c = next_has_room c.args.rows.now c.loop-row.row-index none c.args.store.now c.loop-row.store c.loop-row-test.true c.requires.few c.requires.room c.loop-row.invariant.moves

pub loop-row-preserved : goal.loop-row-preserved
loop-row-preserved g c = record {
  moves = holds_more c.args.rows.now c.loop-row.row-index none c.args.store.now c.loop-row.store c.hold.new.self c.loop-row-test.true c.loop-row.invariant.moves (c.hold.ensures.moves (drop (c.loop-row.row-index + 1) c.args.rows.now) (get_or c.args.rows.now c.loop-row.row-index none) refl);
  keeps = c.instances_are_kept.ensures.both c.args.store.now c.loop-row.store c.hold.new.self (g.D.Disk.history c.args.store.now.disk) (g.D.Disk.history c.loop-row.store.disk) (g.D.Disk.history c.hold.new.self.disk) c.loop-row.invariant.keeps c.hold.ensures.keeps;
  same = same_more c.args.store.now c.loop-row.store c.hold.new.self _ c.loop-row.invariant.same c.hold.ensures.same;
  known = held_more c.args.rows.now c.loop-row.row-index none c.loop-row.store c.hold.new.self (held_for c.args.rows.now c.args.store.now.instances.known) c.loop-row-test.true c.loop-row.invariant.known c.hold.ensures.same;
}

pub returns-clause-moves : goal.returns-clause-moves
returns-clause-moves g c =
    let past : length c.args.rows.now ≤ c.loop-row.row-index = (let t = c.loop-row-test.false in omega (arith, t)) in
    holds_all c.args.rows.now c.loop-row.row-index c.args.store.now c.loop-row.store past c.loop-row.invariant.moves

pub returns-clause-same : goal.returns-clause-same
returns-clause-same g c =
    let past : length c.args.rows.now ≤ c.loop-row.row-index = (let t = c.loop-row-test.false in omega (arith, t)) in
    held_all c.args.rows.now c.loop-row.row-index c.args.store.now c.loop-row.store past c.loop-row.invariant.known c.loop-row.invariant.same
