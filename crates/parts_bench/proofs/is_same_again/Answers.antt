use Rattle.std.proofs.Common.{◌∙◌, map}
use Rattle.model_attach.specs.Detached.{AreDetached}
use Rattle.parts_bench.proofs.is_same_again.Goals as goal

pub rejoin_detached-requires : goal.rejoin_detached-requires
rejoin_detached-requires g c =
    let all : AreDetached g.text c.args.prepared.body c.in_ok-refs.refs (map (λ d. d.octets) c.args.prepared.parts) = c.prepared_is_detached.ensures g.text c.args.prepared c.in_ok-refs.refs c.requires.1.0 c.in_ok-refs.ensures.0 in
    (rw (c.as_slice.ensures, c.in_ok-refs.ensures.1) all, (c.from-size.ensures ∙ c.requires.1.0.whole, c.requires.1.1))
