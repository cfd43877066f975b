use Rattle.mail_fetch.proofs.UseLemmas.{claimed_leaves, claimed_moves, claimed_same, region_undoomed}
use Rattle.mail_fetch.proofs.claim.claim.Goals as goal

pub returns-clause-same : goal.returns-clause-same
returns-clause-same g c = claimed_same c.args.from.now c.as_slice.result.now c.args.store.now c.hold_all.new.store c.pin.new.self c.as_slice.ensures c.hold_all.ensures.same c.pin.ensures.same

pub returns-clause-claims : goal.returns-clause-claims
returns-clause-claims g c =
    claimed_moves c.args.from.now c.as_slice.result.now c.args.store.now c.hold_all.new.store c.pin.new.self c.requires.there.0 c.as_slice.ensures c.hold_all.ensures.same (returns-clause-same g c) c.requires.there.1
    (region_undoomed c.args.from.now.file.0 c.args.store.now.map.store c.args.store.now.files.files c.args.store.now.map.records c.requires.region c.facts.ensures.store.files.below) c.hold_all.ensures.moves

pub returns-clause-leaves : goal.returns-clause-leaves
returns-clause-leaves g c = λ mine. claimed_leaves g.D.Disk.history mine c.args.from.now c.as_slice.result.now c.args.store.now c.hold_all.new.store c.pin.new.self c.as_slice.ensures c.hold_all.ensures.same c.hold_all.ensures.keeps (returns-clause-same g c)
