use Rattle.mail_ops.proofs.Common.{arith, not_true, ok_is_none}
use Rattle.mail_ops.proofs.MakeCallLemmas.{log_made}
use Rattle.mail_ops.proofs.making.make.Goals as goal

pub returns-in-Ok-clause-made : goal.returns-in-Ok-clause-made
returns-in-Ok-clause-made g c =
    let s = c.in-Some.ensures.some in
    let o = c.in-Ok.ensures in
    let fresh = c.known_logs.ensures.fresh c.in-Some.number.0 (let next = s.0 in omega (arith, next)) in
    log_made g.D.Disk.history g.D.Disk.faults c.args.name.now c.in-Some.number.0 c.args.store.now c.draw_box.new.self c.create_box.new.self c.requires.running c.in_ok-checked.ensures.free s.0 s.1 fresh.1 fresh.0 s.2
    (record {
      moments = λ lists k. o.any_moment lists k;
      settled = λ lists k. o.settled lists k;
      stored = o.stored;
      made = o.made;
      others = o.others;
      runs = not_true _ (λ e. ok_is_none _ (o.stopped.1 e));
      same = o.same;
      stays = o.mail_stays;
      grows = o.grows;
      reads = o.fault.reads;
      changes = o.fault.changes;
      unfailed = o.unfailed;
    })
