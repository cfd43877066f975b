use Rattle.model_attach.specs.Rejoined.{IsWhole}
use Rattle.attach_join.proofs.JoinLemmas.{size_is}
use Rattle.attach_join.proofs.join.rejoin.Goals as goal

pub returns-clause-whole : goal.returns-clause-whole
returns-clause-whole c =
    let whole : IsWhole c.in_ok-octets.octets c.args.body.now c.args.refs.now c.args.instances.now = rw (← c.as_slice-refs.ensures, ← c.as_slice-instances.ensures) c.in_ok-octets.ensures in
    (whole, size_is c.in_ok-octets.octets c.args.body.now c.args.refs.now c.args.instances.now c.args.whole whole ((rw c.as_slice-refs.ensures at c.in_ok-check_refs.ensures.ok).1))
