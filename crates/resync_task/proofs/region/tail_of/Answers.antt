use Rattle.resync_task.proofs.Common.{refl, arith, length}
use Rattle.resync_task.proofs.BodilessLemmas.{no_message_of, body_is}
use Rattle.resync_task.proofs.RegionLemmas.{if_none}
use Rattle.resync_task.proofs.region.tail_of.Goals as goal

pub returns-in_err-body-clause-none : goal.returns-in_err-body-clause-none
returns-in_err-body-clause-none c =
    if_none c.from_residual.result _ (λ region m first long spelled. no_message_of c.args.header.now c.args.size (length m.body) (λ digits fits short. c.in_err-body.ensures.none (length m.body) digits) region m refl first long spelled)

pub returns-in_err-tail-clause-none : goal.returns-in_err-tail-clause-none
returns-in_err-tail-clause-none c =
    if_none c.from_residual-in_err-tail.result _ (λ region m first long spelled. no_message_of c.args.header.now c.args.size c.in_ok-body.body (λ digits fits short. let a = c.in_ok-behind.ensures in let b = c.in_err-tail.ensures in omega (arith, fits, a, b)) region m (body_is region c.args.header.now m c.in_ok-body.body c.in_ok-body.ensures.some first spelled) first long spelled)

pub returns-then-tail-gt-MAX_BLOCK-clause-none : goal.returns-then-tail-gt-MAX_BLOCK-clause-none
returns-then-tail-gt-MAX_BLOCK-clause-none c = λ region m first long spelled.
    no_message_of c.args.header.now c.args.size c.in_ok-body.body (λ digits fits short. let a = c.in_ok-behind.ensures in let b = c.in_ok-tail.ensures in let t = c.if-tail-gt-MAX_BLOCK.true in omega (arith, fits, short, a, b, t)) region m (body_is region c.args.header.now m c.in_ok-body.body c.in_ok-body.ensures.some first spelled) first long spelled
