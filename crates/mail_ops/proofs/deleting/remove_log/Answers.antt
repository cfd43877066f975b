use Rattle.mail_ops.proofs.Common.{◌∙◌, ap}
use Rattle.mail_ops.proofs.DeleteListLemmas.{without_none}
use Rattle.mail_ops.proofs.deleting.remove_log.Goals as goal

pub returns-in-Ok-clause-removed : goal.returns-in-Ok-clause-removed
returns-in-Ok-clause-removed g c =
    let o = c.in-Ok.ensures in (
      record { gone = o.gone; others = o.others; same = o.ok ∙ ap (λ logs. record c.args.store.now { disk = c.remove_box.new.self.disk; made = logs }) (without_none c.args.number.0 c.args.store.now.made c.requires.gone.unmade) },
      record {
        change = record { moments = λ lists s. o.any_moment lists s; stays = o.mail_stays; grows = o.grows; reads = o.fault.reads; changes = o.fault.changes };
        settled = λ lists s. o.settled lists s;
        stored = o.stored;
        unfailed = o.unfailed;
      },
    )
