use Rattle.std.proofs.Common.{arith, ℕ, ◌++◌, take, refl, length-take}
use Rattle.mdbox_base.proofs.StreamLemmas.{taken_more, too_long}
use Rattle.mdbox_base.proofs.stream.read_all.Goals as goal

pub returns-then-count-room-clause-refused : goal.returns-then-count-room-clause-refused
returns-then-count-room-clause-refused g c = (
  refl,
  (
    c.loop-count.text ++ take c.in-Ok.count c.take.new.into,
    too_long c.loop-count.text c.take.new.into c.in-Ok.count c.args.limit c.loop-count.invariant.short c.in-Ok.ensures.within (omega (arith, c.take.auto.into, c.piece_size.ensures, c.length.ensures, length-take {A = ℕ})) (omega (arith, c.if-count-room.true, c.length.ensures)),
    taken_more _ _ _ _ _ c.loop-count.invariant.taken c.in-Ok.ensures.octets,
  ),
)

pub returns-then-is_err-clause-refused : goal.returns-then-is_err-clause-refused
returns-then-is_err-clause-refused g c =
    (c.loop-count.text ++ take c.in-Ok.count c.take.new.into, taken_more _ _ _ _ _ c.loop-count.invariant.taken c.in-Ok.ensures.octets)
