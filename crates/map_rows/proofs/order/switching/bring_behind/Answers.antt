use Rattle.std.specs.List.Sorted.{IsPermutation}
use Rattle.map_rows.proofs.Common.{List, subst, sym, arith, OrderKey}
use Rattle.map_rows.proofs.SwitchLemmas.{written_back}
use Rattle.map_rows.proofs.order.switching.bring_behind.Goals as goal

pub returns-clause-keys : goal.returns-clause-keys
returns-clause-keys c =
    subst (λ (ks : List OrderKey). IsPermutation c.args.keys.now.items ks) (sym (written_back c.turn_behind.new.keys _ _ (let l = c.turn_behind.ensures.len in let s = c.as_mut_slice.ensures.len in omega (arith, l, s))))
    (rw c.as_mut_slice.ensures.value at c.turn_behind.ensures.keys)
