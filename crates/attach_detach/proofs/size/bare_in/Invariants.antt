use Rattle.std.proofs.Common.{◌≡◌, ◌+◌, ◌≤◌, ◌++◌, ℕ, List, drop}
use Rattle.model_attach.specs.VirtualSize.{bare_breaks}
use Rattle.attach_detach.proofs.size.bare_in.Given as goal

abbrev pub invariant-loop-octet : goal.invariant-loop-octet
invariant-loop-octet l =
    ((rest : List ℕ) → bare_breaks l.fn.before (l.piece ++ rest) ≡ l.bare + bare_breaks l.last (drop l.octet-index l.piece ++ rest)) × (l.bare ≤ l.octet-index)
