use Rattle.std.proofs.Common.{sym, ◌∙◌, arith, ◌≡◌, ◌++◌}
use Rattle.dbox_file.proofs.SizeLemmas.{no_size}
use Rattle.dbox_file.proofs.message.body_size.Goals as goal
use Rattle.dbox_file.proofs.message.body_size.Goals.{in_default-via-in-Some+else-size-le-MAX_BODY, in_default-via-in_default}

pub returns-in_default-clause-flaw : goal.returns-in_default-clause-flaw
returns-in_default-clause-flaw c =
    let digits = c.split_at.result.0.now in
    let cut : c.args.text.now ≡ digits ++ c.split_at.result.1.now = c.split_at.ensures.by_index.0 in
    no_size c.args.text.now digits c.split_at.result.1.now cut c.split_at.ensures.front_len
    (λ n p. elim c.in_default.branch [
      | in_default-via-in-Some+else-size-le-MAX_BODY w ↦ (let e = sym w.in-Some.ensures.some.value ∙ p.value in let same : w.in-Some.size ≡ n = cc e in omega (arith, p.fits, w.if-size-le-MAX_BODY.false, same))
      | in_default-via-in_default w ↦ w.in_default.ensures.none n (record { some = omega (arith, p.count); short = omega (arith, p.count); value = p.value })
    ])
