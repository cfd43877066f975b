use Rattle.std.proofs.Common.{◌+◌, List, ℕ, ap, ◌∙◌, arith, subst}
use Rattle.std.proofs.lemmas.List.{drop-take, take-take}
use Rattle.scan_pieces.proofs.LongLemmas.{block_within}
use Rattle.scan_pieces.specs.Pieces.{BlockGives}
use Rattle.scan_pieces.specs.WindowValue.{WindowValue}
use Rattle.scan_pieces.proofs.window.Window.block.Goals as goal

pub block_in-requires : goal.block_in-requires
block_in-requires c = rw c.deref.ensures.value (take-take 30 (30 + c.self.inside.count) c.self.inside.octets.items (omega arith) ∙ c.self.invariant.1)

pub returns-clause-gives : goal.returns-clause-gives
returns-clause-gives c =
    let part = ap (λ (w : WindowValue). w.part) c.self.view_is in
    let rest = drop-take 30 c.self.inside.count c.self.inside.octets.items in
    let gives = rw c.deref.ensures.value at c.block_in.ensures in
    subst (λ (o : List ℕ). BlockGives o c.block_in.result) (rest ∙ part) gives

pub returns-clause-within : goal.returns-clause-within
returns-clause-within c = block_within c.args.self.now.part c.block_in.result (returns-clause-gives c)
