use Rattle.std.proofs.Common.{◌∙◌, length}
use Rattle.rebuild_judge.proofs.CompareLemmas.{none_rejoined, some_rejoined}
use Rattle.rebuild_judge.proofs.JoinSizeLemmas.{unwrap_is}
use Rattle.rebuild_judge.proofs.compare.rejoined.Goals as goal

pub returns-in-Ok : goal.returns-in-Ok
returns-in-Ok c = some_rejoined c.args.body.now c.in-Ok.octets c.args.meta.now c.args.instances.now c.in-Ok.ensures.whole.0

pub returns-in_default : goal.returns-in_default
returns-in_default c = none_rejoined c.args.body.now c.args.meta.now c.args.instances.now c.unwrap_or-whole.result c.in-Err.error (c.unwrap_or-whole.ensures ∙ unwrap_is c.args.meta.now.physical (length c.args.body.now)) c.in-Err.ensures.wrong c.in_default.not-NoMemory
