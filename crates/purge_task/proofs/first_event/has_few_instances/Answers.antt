use Rattle.purge_task.proofs.Common.{◌∙◌, length, sym, arith}
use Rattle.purge_task.proofs.FewInstanceLemmas.{all_passed, le_false, le_true, next_at, none_passed, one_passed}
use Rattle.purge_task.proofs.first_event.has_few_instances.Goals as goal

pub loop-id-init : goal.loop-id-init
loop-id-init g c = record { few = omega arith; passed = none_passed c.args.store.now.instances.known }

pub overflow_add-count : goal.overflow_add-count
overflow_add-count g c = let l = c.loop-id.invariant.few in omega (arith, l)

pub loop-id-smaller : goal.loop-id-smaller
loop-id-smaller g c =
    let few = c.loop-id.invariant.few in
    let apart = c.if-count.false in
    omega (arith, few, apart)

pub loop-id-preserved : goal.loop-id-preserved
loop-id-preserved g c =
    let few = c.loop-id.invariant.few in
    let apart = c.if-count.false in
    record {
      few = omega (arith, few, apart);
      passed = one_passed c.loop-id.last c.loop-id.count c.args.store.now.instances.known c.in-Some.id c.facts.ensures.ids.rising c.loop-id.invariant.passed (sym c.next_instance.ensures ∙ c.in-Some.is);
    }

pub returns : goal.returns
returns g c =
    let few = c.loop-id.invariant.few in
    let all = all_passed c.loop-id.last c.loop-id.count c.args.store.now.instances.known c.loop-id.invariant.passed (sym c.next_instance.ensures ∙ c.in_default.is) in
    sym (le_true (length c.args.store.now.instances.known) 9223372036854775808 (omega (arith, few, all)))

pub returns-then-count : goal.returns-then-count
returns-then-count g c =
    let next = next_at c.loop-id.last c.loop-id.count c.args.store.now.instances.known c.in-Some.id c.loop-id.invariant.passed (sym c.next_instance.ensures ∙ c.in-Some.is) in
    let more = next.lt in
    let most = c.if-count.true in
    sym (le_false (length c.args.store.now.instances.known) 9223372036854775808 (omega (arith, more, most)))
