use Rattle.std.proofs.Common.{◌≡◌, ◌+◌, sym, subst, ap, arith, length, drop}
use Rattle.std.proofs.lemmas.List.{length-drop, length-take-le}
use Rattle.scan_pieces.specs.WindowValue.{WindowValue}
use Rattle.scan_pieces.proofs.window.Window.end.Goals as goal

pub overflow_add-result : goal.overflow_add-result
overflow_add-result c =
    let inside = c.self.invariant.3 in
    omega (arith, inside)

pub returns-clause-end : goal.returns-clause-end
returns-clause-end c =
    let items = c.self.inside.octets.items in
    let long = c.self.invariant.0 in
    let ok = c.self.inside.octets.ok in
    let few = c.self.invariant.2 in
    let rest = length-drop 30 items in
    let all = length-take-le c.self.inside.count (drop 30 items) (omega (arith, long, ok, few, rest)) in
    subst (λ (w : WindowValue). c.self.inside.start + c.self.inside.count ≡ w.start + length w.part) c.self.view_is (ap (λ n. c.self.inside.start + n) (sym all))
