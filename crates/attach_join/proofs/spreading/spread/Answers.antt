use Rattle.std.proofs.Common.{refl, ◌+◌, ◌-◌, length}
use Rattle.std.proofs.lemmas.List.{nil_from_length}
use Rattle.attach_join.proofs.SpreadLemmas.{range_of, spread_all, spreading_next, spreading_start}
use Rattle.attach_join.proofs.spreading.spread.Goals as goal

pub loop-reference-init : goal.loop-reference-init
loop-reference-init c = spreading_start c.args.refs.now c.args.stored (length c.args.buffer.now) c.args.buffer.now c.requires.ranges c.requires.size refl

pub overflow_sub-left : goal.overflow_sub-left
overflow_sub-left c =
    (range_of c.args.refs.now c.loop-reference.rest.now c.in-Some.front.now c.in-Some.reference.now c.args.stored c.loop-reference.left c.loop-reference.end (c.loop-reference.end - (c.in-Some.reference.now.start + c.in-Some.reference.now.count)) c.args.buffer.now c.loop-reference.buffer
    c.requires.ranges c.loop-reference.invariant c.in-Some.ensures.cases.0 refl).1

pub overflow_sub-left-in-Some : goal.overflow_sub-left-in-Some
overflow_sub-left-in-Some c =
    (range_of c.args.refs.now c.loop-reference.rest.now c.in-Some.front.now c.in-Some.reference.now c.args.stored c.loop-reference.left c.loop-reference.end (c.loop-reference.end - (c.in-Some.reference.now.start + c.in-Some.reference.now.count)) c.args.buffer.now c.loop-reference.buffer
    c.requires.ranges c.loop-reference.invariant c.in-Some.ensures.cases.0 refl).1

pub loop-reference-preserved : goal.loop-reference-preserved
loop-reference-preserved c =
    spreading_next c.args.refs.now c.loop-reference.rest.now c.in-Some.front.now c.in-Some.reference.now c.args.stored c.loop-reference.left c.loop-reference.end (c.loop-reference.end - (c.in-Some.reference.now.start + c.in-Some.reference.now.count))
    (c.loop-reference.left - (c.loop-reference.end - (c.in-Some.reference.now.start + c.in-Some.reference.now.count))) c.args.buffer.now c.loop-reference.buffer c.move_to.new.buffer c.requires.ranges c.loop-reference.invariant c.in-Some.ensures.cases.0 refl refl
    c.move_to.ensures.front c.move_to.ensures.back c.move_to.ensures.size

pub returns-clause-outside : goal.returns-clause-outside
returns-clause-outside c = spread_all c.args.refs.now c.loop-reference.rest.now c.args.stored c.loop-reference.left c.loop-reference.end c.args.buffer.now c.loop-reference.buffer c.loop-reference.invariant (nil_from_length c.loop-reference.rest.now c.in_default.ensures.cases)
