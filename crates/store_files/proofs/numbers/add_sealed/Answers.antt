use Rattle.std.proofs.Common.{◌++◌, List, ℕ, ◌∙◌, ap, take_all, arith}
use Rattle.store_files.proofs.NumberListLemmas.{sealed_file_next}
use Rattle.store_files.proofs.numbers.add_sealed.Goals as goal

pub loop-place-preserved : goal.loop-place-preserved
loop-place-preserved c = sealed_file_next c.args.map.now.meaning.sealed c.loop-place.place c.sealed_at.result c.unwrap-file.result c.args.numbers.now.items c.loop-place.numbers.items c.push.new.self.items c.sealed_at.ensures c.unwrap-file.ensures c.loop-place.invariant c.in_ok-push.ensures.items

pub returns : goal.returns
returns c = c.loop-place.invariant ∙ ap (λ (ns : List ℕ). c.args.numbers.now.items ++ ns) (take_all c.loop-place.place c.args.map.now.meaning.sealed (omega (arith, c.sealed-place-end.ensures)))
