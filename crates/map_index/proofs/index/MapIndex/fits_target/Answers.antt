use Rattle.std.proofs.Common.{◌≡◌, ◌==◌, true, length, eq-eqb, IsTrue}
use Rattle.map_index.proofs.TargetLemmas.{some_target}
use Rattle.map_index.proofs.index.MapIndex.fits_target.Goals as goal

pub returns-else-is_empty : goal.returns-else-is_empty
returns-else-is_empty c =
    some_target c.args.self.now.meaning c.args.file.0 c.args.target c.args.moved.now (IsTrue c.takes.result)
    (λ none. let e : (length c.args.moved.now == 0) ≡ true = eq-eqb _ _ none in let t = c.is_empty.ensures in let f = c.if-is_empty.false in cc (e, t, f))
    c.takes.ensures
