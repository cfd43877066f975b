use Rattle.std.proofs.Common.{◌∙◌}
use Rattle.rebuild_judge.proofs.AdmittedLemmas.{is_admitted, is_too_many}
use Rattle.rebuild_judge.proofs.JoinSizeLemmas.{unwrap_is}
use Rattle.rebuild_judge.proofs.judge.admitted.Goals as goal

pub returns-then-passes_limit : goal.returns-then-passes_limit
returns-then-passes_limit c =
    record { admitted = is_too_many c.args.keeping.now c.args.number.0 c.args.place.now c.args.meta c.args.guid c.args.whole c.args.sizes.now c.in_ok-mailbox.mailbox c.passes_limit.result c.in_ok-mailbox.ensures c.passes_limit.ensures.limits c.if-passes_limit.true }

pub returns : goal.returns
returns c =
    record {
      admitted = rw (c.capped.ensures, c.capped-2.ensures, c.capped-3.ensures, c.saturating_sub.ensures)
          (is_admitted c.args.keeping.now c.args.number.0 c.args.place.now c.args.meta c.args.guid c.unwrap_or-time.result c.args.whole c.args.sizes.now c.in_ok-mailbox.mailbox c.in_ok-instances.instances c.passes_limit.result c.in_ok-mailbox.ensures c.passes_limit.ensures.limits c.if-passes_limit.false
          (c.unwrap_or-time.ensures ∙ unwrap_is c.args.meta.received 0) (rw c.as_slice.ensures at c.in_ok-instances.ensures));
    }
