use Rattle.std.proofs.Common.{◌≡◌, ◌++◌, [], length, refl, ap, ◌∙◌, inl, inr, arith, rules}
use Rattle.std.proofs.lemmas.Grind.{common_steps}
use Rattle.lanes.proofs.WithLemmas.{keep_with}
use Rattle.request_text.proofs.OrderLemmas.{told_in_order}
use Rattle.session.proofs.OneLemmas.{further_at, further_many, served_first}
use Rattle.session.proofs.TellLemmas.{moves_of, served_more}
use Rattle.session.proofs.serve.serve_all.Goals as goal

pub loop-done-init : goal.loop-done-init
loop-done-init g c = record {
  moves = [];
  served = served_first g.D.Disk.history g.D.Disk.faults c.args.world.now _ _ c.requires.waiting c.requires.fresh;
  many = refl;
  at_is = refl;
  near = (omega arith, omega arith);
  calm = (refl, refl);
}

pub loop-done-preserved : goal.loop-done-preserved
loop-done-preserved g c =
    let i = c.loop-done.invariant in
    let d = c.in-Ok.ensures.ok in
    let near = c.in-Ok.ensures.near in
    let quiet = c.in-Ok.ensures.quiet in
    let before = i.near in
    record {
      moves = i.moves ++ moves_of d.asked d.served.answered.begun.lanes;
      served = served_more g.D.Disk.history g.D.Disk.faults i.moves c.args.world.now c.loop-done.world c.serve_next.new.world _ _ _ _ _ _ c.loop-done.at c.in-Ok.next told_in_order i.served d;
      many = further_many i.moves d.asked d.served.answered.begun.lanes c.loop-done.done i.many;
      at_is = further_at i.moves d.asked d.served.answered.begun.lanes c.loop-done.at c.in-Ok.next i.at_is d.further;
      near = (let a = near.0 in let b = before.0 in omega (arith, a, b), let a = near.1 in let b = before.1 in omega (arith, a, b));
      calm = (quiet.0 ∙ i.calm.0, quiet.1 ∙ i.calm.1);
    }

pub serve_next-requires-clause-waiting : goal.serve_next-requires-clause-waiting
serve_next-requires-clause-waiting g c = c.loop-done.invariant.served.waits

pub serve_next-requires-clause-few : goal.serve_next-requires-clause-few
serve_next-requires-clause-few g c =
    let i = c.loop-done.invariant in
    let grown = (keep_with g.D.Disk.history g.D.Disk.faults i.moves c.args.world.now c.loop-done.world i.served.goes).3 in
    let many = i.many in
    let none : length c.args.world.now.replies ≡ 0 = ap length c.requires.fresh in
    omega (arith, grown, many, none)

pub returns-in-Err-clause-gone : goal.returns-in-Err-clause-gone
returns-in-Err-clause-gone g c =
    let i = c.loop-done.invariant in
    record {
      moves = i.moves;
      mid = c.loop-done.world;
      between = g.I.Source.left c.loop-done.input;
      told = g.O.Sink.held c.loop-done.output;
      served = i.served;
      ends = inl (rw i.at_is at c.in-Err.ensures.err);
    }

pub returns-clause-gone : goal.returns-clause-gone
returns-clause-gone g c =
    let i = c.loop-done.invariant in
    let all : c.loop-done.done ≡ 100000 = first_of (search rules, grind (arith, common_steps)) in
    record {
      moves = i.moves;
      mid = c.loop-done.world;
      between = g.I.Source.left c.loop-done.input;
      told = g.O.Sink.held c.loop-done.output;
      served = i.served;
      ends = inr (refl, i.many ∙ all, refl, refl, refl);
    }
