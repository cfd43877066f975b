use Rattle.resync_task.proofs.Common.{sym, ◌∙◌, ap, arith, length, List, MapCount, wrong_of}
use Rattle.task_steps.proofs.OneEventLemmas.{not_true, ok_is_none}
use Rattle.resync_task.proofs.CorrectingLemmas.{append_rest, entry_due, entry_fits, entry_in_range, few_rows, no_length, right_none, some_taken}
use Rattle.resync_task.proofs.correcting.put_right.Goals as goal

pub append_map-requires-clause-range : goal.append_map-requires-clause-range
append_map-requires-clause-range g c =
    entry_in_range (g.D.Disk.history c.args.store.now.disk) c.args.store.now c.in_ok-counts.counts c.facts.ensures.store c.in_ok-counts.ensures (few_rows c.map.result.now.meaning c.args.store.now.map c.map.ensures c.known_facts.ensures.records.few c.known_facts.ensures.fits)

pub append_map-requires-clause-fits : goal.append_map-requires-clause-fits
append_map-requires-clause-fits g c = entry_fits (g.D.Disk.history c.args.store.now.disk) c.args.store.now c.in_ok-counts.counts c.facts.ensures.store c.in_ok-counts.ensures

pub append_map-requires-clause-due : goal.append_map-requires-clause-due
append_map-requires-clause-due g c = entry_due c.args.store.now c.in_ok-counts.counts c.in_ok-counts.ensures

pub returns-then-many-eq0 : goal.returns-then-many-eq0
returns-then-many-eq0 g c =
    right_none c.args.store.now (g.D.Disk.history c.args.store.now.disk) (g.D.Disk.faults c.args.store.now.disk) c.requires (sym c.in_ok-counts.ensures ∙ no_length c.in_ok-counts.counts c.length-many.result c.length-many.ensures c.if-many-eq0.true)

pub returns : goal.returns
returns g c =
    let o = c.in_ok-append_map.ensures in
    let rest = append_rest c.args.store.now c.append_map.new.self o.same in
    record {
      keeps = record {
        moments = λ lists s. o.any_moment lists tt tt s;
        indexes = rest.1;
        mailboxes = o.mailboxes;
        drawn = o.drawn;
        room = o.room;
        rest = rest.0;
        stays = o.mail_stays;
        grows = o.grows;
        reads = o.fault.reads;
        changes = o.fault.changes;
      };
      runs = not_true _ (λ e. ok_is_none _ (o.stopped.1 e));
      many = c.length-many.ensures ∙ ap (λ (cs : List MapCount). length cs) c.in_ok-counts.ensures;
      map = o.taken ∙ some_taken c.in_ok-counts.counts (wrong_of c.args.store.now) c.args.store.now.map c.in_ok-counts.ensures (λ e. c.if-many-eq0.false (c.length-many.ensures ∙ e));
      end = let further = o.further in omega (arith, further);
      due = o.due;
      settled = λ lists s. o.settled lists tt tt s;
      mail = o.others;
      unfailed = o.unfailed;
    }
