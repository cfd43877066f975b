use Rattle.purge_task.proofs.Common.{ap, length, refl, Work}
use Rattle.purge_task.proofs.DropLemmas.{switch_begun, switch_drops}
use Rattle.purge_task.proofs.SwitchCallLemmas.{few_dropped, further_switch, left_within, made_switch, ready_one, switch_failed, switch_says, switched_one, tells_either, to_switch_begun}
use Rattle.purge_task.proofs.QuietCallLemmas.{switched_quiet}
use Rattle.purge_task.proofs.switch_event.switch_file.Goals as goal

pub switch-requires-clause-ready : goal.switch-requires-clause-ready
switch-requires-clause-ready g c =
    let at = c.requires.ready in
    ready_one c.args.work c.args.store.now (g.D.Disk.history c.args.store.now.disk) (switched_one at.0 c.args.work c.args.store.now (g.D.Disk.history c.args.store.now.disk) at.1 at.2)

pub next_stage-requires : goal.next_stage-requires
next_stage-requires g c =
    let at = c.requires.ready in
    let one = switched_one at.0 c.args.work c.args.store.now (g.D.Disk.history c.args.store.now.disk) at.1 at.2 in
    let spent = c.switch.ensures.work one.0 one.1 one.2.left_are in
    left_within c.switch.new.work spent.0 one.1 spent.1

pub returns-in-Err-clause-steps : goal.returns-in-Err-clause-steps
returns-in-Err-clause-steps g c t h to =
    let at = c.requires.ready in
    let one = switched_one at.0 c.args.work c.args.store.now (g.D.Disk.history c.args.store.now.disk) at.1 at.2 in
    switch_failed g.D.Disk.history g.D.Disk.faults t c.args.store.now c.switch.new.store c.requires.running c.in-Err.ensures.any_moment c.in-Err.ensures.mail_stays c.in-Err.ensures.err
    (tells_either one.0.target c.args.store.now.files c.switch.new.store.files (c.in-Err.ensures.stopped_files c.in-Err.ensures.refused.1 one.0 one.1 one.2.left_are)) c.in-Err.ensures.grows _ refl c.in-Err.ensures.fault (to_switch_begun t.stage c.args.work c.args.store.now.map to)

pub returns-in-Ok-clause-steps : goal.returns-in-Ok-clause-steps
returns-in-Ok-clause-steps g c t h to =
    let at = c.requires.ready in
    let one = switched_one at.0 c.args.work c.args.store.now (g.D.Disk.history c.args.store.now.disk) at.1 at.2 in
    let spent = c.in-Ok.ensures.work one.0 one.1 one.2.left_are in
    let switch = c.in-Ok.ensures.switched one.0 one.1 one.2.left_are in
    switch_says g.D.Disk.history g.D.Disk.faults t _ c.args.work c.switch.new.work one.0 spent.0 one.1 c.in-Ok.switched c.args.store.now c.switch.new.store (record {
      runs = c.requires.running;
      one = one.2;
      left_are = spent.1;
      spent_is = record { file = spent.2; target = spent.3 };
      block = ap (λ (w : Work). length w.block.items) c.in-Ok.ensures.same;
      text = c.in-Ok.ensures.text;
      is = c.facts.ensures.store;
      order = c.facts.ensures.files;
      switch = switch;
      made = made_switch c.args.work one.0 one.1 c.in-Ok.switched c.args.store.now c.switch.new.store (g.D.Disk.history c.args.store.now.disk) (g.D.Disk.history c.switch.new.store.disk) one.2 switch c.in-Ok.ensures.due c.in-Ok.ensures.spared c.in-Ok.ensures.others
          (c.in-Ok.ensures.kept one.0 one.1 one.2.left_are) c.in-Ok.ensures.firm c.in-Ok.ensures.room c.in-Ok.ensures.further c.in-Ok.ensures.mailboxes;
      leaves = record { moments = c.in-Ok.ensures.any_moment; rests = c.in-Ok.ensures.settled; grows = c.in-Ok.ensures.grows; mail = c.in-Ok.ensures.mail_stays; quiet = c.in-Ok.ensures.unfailed };
    })
    h to c.next_stage.ensures refl refl refl refl

pub returns-in-Ok-clause-few : goal.returns-in-Ok-clause-few
returns-in-Ok-clause-few g c =
    let at = c.requires.ready in
    let one = switched_one at.0 c.args.work c.args.store.now (g.D.Disk.history c.args.store.now.disk) at.1 at.2 in
    few_dropped c.args.work one.0 one.1 c.in-Ok.switched c.map.result.now.meaning c.args.store.now c.switch.new.store (g.D.Disk.history c.args.store.now.disk) c.known_facts.ensures c.map.ensures c.facts.ensures.store one.2 (c.in-Ok.ensures.switched one.0 one.1 one.2.left_are)

pub returns-in-Ok-clause-further : goal.returns-in-Ok-clause-further
returns-in-Ok-clause-further g c at h to =
    let ready = c.requires.ready in
    let one = switched_one ready.0 c.args.work c.args.store.now (g.D.Disk.history c.args.store.now.disk) ready.1 ready.2 in
    let spent = c.in-Ok.ensures.work one.0 one.1 one.2.left_are in
    further_switch at c.args.work c.switch.new.work c.args.store.now.map one.0 spent.0 one.1 _ c.in-Ok.switched.is_unpinned to one.2.left_are spent.1 c.next_stage.ensures

pub returns-in-Ok-clause-dropped : goal.returns-in-Ok-clause-dropped
returns-in-Ok-clause-dropped g c =
    let at = c.requires.ready in
    let one = switched_one at.0 c.args.work c.args.store.now (g.D.Disk.history c.args.store.now.disk) at.1 at.2 in
    switch_drops one.0 c.in-Ok.switched c.args.store.now c.switch.new.store (g.D.Disk.history c.args.store.now.disk) c.facts.ensures.store c.facts.ensures.files one.2.ready.emptied (c.in-Ok.ensures.switched one.0 one.1 one.2.left_are)

pub returns-in-Ok-clause-begun : goal.returns-in-Ok-clause-begun
returns-in-Ok-clause-begun g c = switch_begun c.in-Ok.switched.is_unpinned _ c.next_stage.result c.next_stage.ensures

pub returns-in-Ok-clause-quiet : goal.returns-in-Ok-clause-quiet
returns-in-Ok-clause-quiet g c t h to =
    let at = c.requires.ready in
    let one = switched_one at.0 c.args.work c.args.store.now (g.D.Disk.history c.args.store.now.disk) at.1 at.2 in
    let spent = c.in-Ok.ensures.work one.0 one.1 one.2.left_are in
    let switch = c.in-Ok.ensures.switched one.0 one.1 one.2.left_are in
    switched_quiet g.D.Disk.history t c.args.work c.switch.new.work c.next_stage.result one.0 spent.0 one.1 c.in-Ok.switched c.args.store.now c.switch.new.store to c.requires.running c.facts.ensures.store c.facts.ensures.files one.2 spent.1 spent.2 switch c.in-Ok.ensures.others c.next_stage.ensures
    (λ runs. ((returns-in-Ok-clause-steps g c t h to).claims runs).moves)

pub returns-in-Err-clause-quiet : goal.returns-in-Err-clause-quiet
returns-in-Err-clause-quiet g c t h to = tt
