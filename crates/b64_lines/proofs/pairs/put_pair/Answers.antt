use Rattle.std.proofs.Common.{◌≡◌, ◌+◌, ◌-◌, ◌∙◌, refl, length, drop, arith}
use Rattle.std.proofs.lemmas.List.{length-drop, length-take-le}
use Rattle.b64_lines.proofs.PairLemmas.{pair_put}
use Rattle.b64_lines.proofs.pairs.put_pair.Goals as goal

pub returns-clause-behind : goal.returns-clause-behind
returns-clause-behind c =
    let at = c.args.at in
    let room = c.requires.room in
    let n : at + 2 - at ≡ 2 = omega arith in
    let left = length-drop at c.args.into.now in
    let two : length c.copy_from_slice.new.self ≡ 2 = c.copy_from_slice.auto.self ∙ length-take-le (at + 2 - at) (drop at c.args.into.now) (omega (arith, left, room)) ∙ n in
    (pair_put c.args.into.now _ at (at + 2 - at) c.copy_from_slice.new.self room n two refl).1
