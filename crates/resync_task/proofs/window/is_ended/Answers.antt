use Rattle.resync_task.proofs.Common.{◌≡◌, ◌+◌, ◌++◌, ℕ, List, length, take, drop, sym, ◌∙◌, ap, subst, arith, length-take-le, IsMessageWith}
use Rattle.std.proofs.Common.{rules, ◌↔◌, IsTrue, IfOk}
use Rattle.resync_task.proofs.BodilessLemmas.{bare_long, framed}
use Rattle.resync_task.proofs.RegionLemmas.{behind_front}
use Rattle.resync_task.proofs.window.is_ended.Goals as goal

pub copy_from_slice-requires : goal.copy_from_slice-requires
copy_from_slice-requires c =
    let long : length c.bodiless.result ≡ 30 = search rules in
    length-take-le 30 c.args.octets.now (let r = c.requires in omega (arith, r)) ∙ sym long

pub slice_bounds-copy_from_slice-end-2 : goal.slice_bounds-copy_from_slice-end-2
slice_bounds-copy_from_slice-end-2 c = sym (length-take-le 30 c.args.octets.now (let r = c.requires in omega (arith, r)))

pub returns-clause-is : goal.returns-clause-is
returns-clause-is c =
    let long : length c.args.header.now ≡ 30 = search rules in
    subst (λ (region : List ℕ). IfOk c.is_message_of.result (λ is. IsTrue is ↔ IsMessageWith c.args.guid.0 region))
    (ap (λ (o : List ℕ). take (30 + c.args.tail) (o ++ drop 30 c.args.octets.now)) (c.copy_from_slice.ensures.after ∙ c.bodiless.ensures) ∙ framed c.args.octets.now c.args.header.now c.args.tail long) c.is_message_of.ensures

pub returns-clause-rest : goal.returns-clause-rest
returns-clause-rest c =
    let long : length c.args.header.now ≡ 30 = search rules in
    behind_front c.copy_from_slice.new.self (drop 30 c.args.octets.now) 30 (ap length (c.copy_from_slice.ensures.after ∙ c.bodiless.ensures) ∙ bare_long c.args.header.now long)
