use Rattle.std.proofs.Common.{arith}
use Rattle.attach_join.proofs.RestoredLemmas.{few_of, forms_of, right, is_message, only_memory}
use Rattle.attach_join.proofs.restore.rejoin_detached.Goals as goal

pub rejoin-requires-clause-few : goal.rejoin-requires-clause-few
rejoin-requires-clause-few g c = omega (arith, few_of g.message c.args.body.now c.args.refs.now c.args.instances.now c.requires.0)

pub rejoin-requires-clause-forms : goal.rejoin-requires-clause-forms
rejoin-requires-clause-forms g c = forms_of g.message c.args.body.now c.args.refs.now c.args.instances.now c.requires.0

pub unreachable-requires : goal.unreachable-requires
unreachable-requires g c = only_memory c.in-Err.error _ c.in-Err.ensures.wrong (right g.message c.args.body.now c.args.refs.now c.args.instances.now c.args.whole c.requires.0 c.requires.1.0 c.requires.1.1) c.in_default.not-NoMemory

pub returns-in-Ok : goal.returns-in-Ok
returns-in-Ok g c = is_message g.message c.args.body.now c.in-Ok.octets c.args.refs.now c.args.instances.now c.requires.0 c.in-Ok.ensures.whole.0
