use Rattle.std.proofs.Common.{◌<◌, length, arith}
use Rattle.log_records.proofs.WordTextLemmas.{texts_end}
use Rattle.log_records.proofs.worded.texts_at.Goals as goal

pub returns-in_default : goal.returns-in_default
returns-in_default c =
    let less : length c.loop.texts < c.args.count = omega (arith, c.loop.invariant.1, c.loop-test.true) in
    texts_end c.args.text.now c.loop.texts c.loop.rest.now c.args.count c.loop.invariant.0 less c.in_default.ensures
