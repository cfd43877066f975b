use Rattle.mail_ops.proofs.Common.{sym, ◌∙◌, ap, not_true, ok_is_none}
use Rattle.mail_ops.proofs.RenameEventLemmas.{renaming_fits}
use Rattle.mail_ops.proofs.renaming.rename.Goals as goal

pub append_name-requires-clause-fits : goal.append_name-requires-clause-fits
append_name-requires-clause-fits g c = renaming_fits _ c.args.name.now c.args.target.now c.in_ok-number.number c.args.store.now c.facts.ensures.store c.in_ok-number.ensures.found c.in_ok-number.ensures.free

pub returns-in-Ok-clause-renamed : goal.returns-in-Ok-clause-renamed
returns-in-Ok-clause-renamed g c =
    let o = c.in-Ok.ensures in
    let new = c.append_name.new.self in
    record {
      free = c.in_ok-number.ensures.free;
      box = record {
        number = c.in_ok-number.number;
        box = c.in_ok-number.ensures.found;
        map = o.taken;
        room = o.room;
        further = o.further;
        same = o.same ∙ ap (λ b. record c.args.store.now { disk = new.disk; map_log = new.map_log; map = new.map; stopped = b }) (not_true _ (λ e. ok_is_none _ (o.stopped.1 e)) ∙ sym c.requires);
      };
      mail = o.others;
      uids = o.uids;
      gone = o.gone;
      disk = record {
        change = record { moments = λ lists s. o.any_moment lists s; stays = o.mail_stays; grows = o.grows; reads = o.fault.reads; changes = o.fault.changes };
        settled = λ lists s. o.settled lists s;
        stored = o.stored;
        unfailed = o.unfailed;
      };
    }
