use Rattle.store_core.proofs.Common.{◌∙◌, arith, refl}
use Rattle.store_core.proofs.AmountsLemmas.{pushed_back, raised_last}
use Rattle.store_core.proofs.store.deleting.note_uid.Goals as goal

pub returns-in-Some : goal.returns-in-Some
returns-in-Some c = raised_last c.args.uid _ c.args.amounts.now.items c.in-Some.last.now c.args.amounts.now.ok.0 (c.in-Some.ensures.variant.0 refl) c.in-Some.ensures.value (omega (arith, c.if-last_mut-uid.true))

pub returns-in_ok-push-in-Some-2 : goal.returns-in_ok-push-in-Some-2
returns-in_ok-push-in-Some-2 c =
    c.in_ok-push-in-Some-2.ensures.items ∙ pushed_back c.args.uid _ c.args.amounts.now.items c.in-Some.last.now c.args.amounts.now.ok.0 (c.in-Some.ensures.variant.0 refl) c.in-Some.ensures.value c.if-last_mut-uid.false
