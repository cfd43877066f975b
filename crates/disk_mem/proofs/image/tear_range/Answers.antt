use Rattle.std.proofs.Common.{cond, slice_index, ap, sym, ◌∙◌, arith}
use Rattle.disk_mem.proofs.FollowingLemmas.{covers-clip}
use Rattle.disk_mem.proofs.image.tear_range.Goals as goal

pub returns-clause-octets : goal.returns-clause-octets
returns-clause-octets c = λ i below. c.fill.ensures.octets i below
    ∙ ap (λ b. cond b c.args.octet (slice_index c.args.text.now.octets.items i)) (sym (covers-clip c.args.at c.args.count _ _ _ i below (omega arith) (omega arith) (omega arith)))
