use Rattle.std.proofs.Common.{◌≡◌, map}
use Rattle.attach_detach.specs.Prepared.{NameParts}
use Rattle.parts_bench.proofs.named.Given as goal

abbrev pub invariant-loop-part : goal.invariant-loop-part
invariant-loop-part l = NameParts l.refs l.yielded × (l.instances ≡ map (λ d. d.octets) l.yielded)
