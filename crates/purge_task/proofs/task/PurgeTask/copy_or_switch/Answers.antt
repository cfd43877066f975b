use Rattle.purge_task.proofs.Common.{◌+◌, drop, refl, sym, subst, arith, MapMeaning, IsSoundMap, store_sound, at_stage, AreUnwantedFrom, KeepsQuiet}
use Rattle.purge_task.specs.declared.task.PurgeStage.TheVariants as stage
use Rattle.purge_task.proofs.DropLemmas.{part_drops, part_tells, switch_counts, switch_tells}
use Rattle.purge_task.proofs.StepLemmas.{copied_first, further_at, part_left, part_low, part_says, switch_left, switch_part}
use Rattle.purge_task.proofs.QuietStepLemmas.{part_so, switch_so}
use Rattle.purge_task.proofs.task.PurgeTask.copy_or_switch.Goals as goal

pub next_wanted-requires : goal.next_wanted-requires
next_wanted-requires g c = subst IsSoundMap (sym c.map.ensures) (store_sound (g.D.Disk.history c.args.store.now.disk) c.args.store.now c.facts.ensures.store)

pub returns-in-Some-next_wanted-clause-step : goal.returns-in-Some-next_wanted-clause-step
returns-in-Some-next_wanted-clause-step g c =
    part_says c.copy_next-next.result (at_stage (stage.Copying c.args.work) c.args.self.now) (at_stage (stage.Copying c.args.work) c.args.self.now) _ c.come_to.new.self c.come_to.result c.args.store.now c.copy_next-next.new.store (g.D.Disk.history c.args.store.now.disk) (g.D.Disk.history c.copy_next-next.new.store.disk) (g.D.Disk.faults c.args.store.now.disk) (g.D.Disk.faults c.copy_next-next.new.store.disk) c.come_to.ensures.task c.come_to.ensures.answer refl refl refl (c.copy_next-next.ensures.step (at_stage (stage.Copying c.args.work) c.args.self.now) refl)

pub returns-in-Some-next_wanted-clause-left : goal.returns-in-Some-next_wanted-clause-left
returns-in-Some-next_wanted-clause-left g c more =
    part_left c.copy_next-next.result (at_stage (stage.Copying c.args.work) c.args.self.now) (at_stage (stage.Copying c.args.work) c.args.self.now) _ c.come_to.new.self c.come_to.result c.args.store.now c.copy_next-next.new.store c.come_to.ensures.task c.come_to.ensures.answer refl refl refl
    (part_low 0 c.copy_next-next.result (at_stage (stage.Copying c.args.work) c.args.self.now) (at_stage (stage.Copying c.args.work) c.args.self.now) c.args.store.now c.copy_next-next.new.store (g.D.Disk.history c.args.store.now.disk) (g.D.Disk.history c.copy_next-next.new.store.disk) (g.D.Disk.faults c.args.store.now.disk) (g.D.Disk.faults c.copy_next-next.new.store.disk) (c.copy_next-next.ensures.step (at_stage (stage.Copying c.args.work) c.args.self.now) refl) c.copy_next-next.ensures.further (omega arith) refl refl c.requires.low (omega arith)) more

pub switch_file-switched-requires-clause-ready : goal.switch_file-switched-requires-clause-ready
switch_file-switched-requires-clause-ready g c =
    let s = c.in-Some.ensures.some in
    (stage.Copying c.args.work, c.requires.ready, (copied_first c.args.work s.0 (drop (c.args.work.next + 1) c.args.work.sources.items) c.in-Some.source.file c.args.store.now.map s.1 s.2.0 (subst (λ (m : MapMeaning). AreUnwantedFrom m c.in-Some.source.file.0 c.args.work.from) c.map.ensures c.in-None.ensures.none)))

pub returns-in-None-clause-step : goal.returns-in-None-clause-step
returns-in-None-clause-step g c =
    let s = c.in-Some.ensures.some in
    switch_part c.switch_file-switched.result (at_stage (stage.Copying c.args.work) c.args.self.now) c.args.self.now c.come_by_switch.new.self c.come_by_switch.result c.args.store.now c.switch_file-switched.new.store (g.D.Disk.history c.args.store.now.disk) (g.D.Disk.history c.switch_file-switched.new.store.disk) (g.D.Disk.faults c.args.store.now.disk) (g.D.Disk.faults c.switch_file-switched.new.store.disk) c.come_by_switch.ensures.task c.come_by_switch.ensures.answer refl (c.switch_file-switched.ensures.steps (at_stage (stage.Copying c.args.work) c.args.self.now) c.requires.ready (copied_first c.args.work s.0 (drop (c.args.work.next + 1) c.args.work.sources.items) c.in-Some.source.file c.args.store.now.map s.1 s.2.0 (subst (λ (m : MapMeaning). AreUnwantedFrom m c.in-Some.source.file.0 c.args.work.from) c.map.ensures c.in-None.ensures.none)))

pub returns-in-None-clause-left : goal.returns-in-None-clause-left
returns-in-None-clause-left g c more =
    let s = c.in-Some.ensures.some in
    switch_left c.switch_file-switched.result (at_stage (stage.Copying c.args.work) c.args.self.now) c.args.self.now c.come_by_switch.new.self c.come_by_switch.result c.args.store.now c.switch_file-switched.new.store (g.D.Disk.history c.args.store.now.disk) (g.D.Disk.history c.switch_file-switched.new.store.disk) (g.D.Disk.faults c.args.store.now.disk) (g.D.Disk.faults c.switch_file-switched.new.store.disk) c.come_by_switch.ensures.task c.come_by_switch.ensures.answer refl (c.switch_file-switched.ensures.steps (at_stage (stage.Copying c.args.work) c.args.self.now) c.requires.ready (copied_first c.args.work s.0 (drop (c.args.work.next + 1) c.args.work.sources.items) c.in-Some.source.file c.args.store.now.map s.1 s.2.0 (subst (λ (m : MapMeaning). AreUnwantedFrom m c.in-Some.source.file.0 c.args.work.from) c.map.ensures c.in-None.ensures.none))) c.switch_file-switched.ensures.few (further_at c.args.store.now (g.D.Disk.history c.args.store.now.disk) c.args.work c.switch_file-switched.result (at_stage (stage.Copying c.args.work) c.args.self.now) c.switch_file-switched.ensures.further c.requires.ready (copied_first c.args.work s.0 (drop (c.args.work.next + 1) c.args.work.sources.items) c.in-Some.source.file c.args.store.now.map s.1 s.2.0 (subst (λ (m : MapMeaning). AreUnwantedFrom m c.in-Some.source.file.0 c.args.work.from) c.map.ensures c.in-None.ensures.none))) c.requires.low more

pub returns-in-Some-next_wanted-clause-drops : goal.returns-in-Some-next_wanted-clause-drops
returns-in-Some-next_wanted-clause-drops g c runs = part_drops c.copy_next-next.result _ c.come_to.new.self c.args.self.now.dropped c.args.store.now.map c.copy_next-next.new.store.map c.come_to.ensures.task refl c.copy_next-next.ensures.map

pub returns-in-Some-next_wanted-clause-counts : goal.returns-in-Some-next_wanted-clause-counts
returns-in-Some-next_wanted-clause-counts g c = part_tells c.copy_next-next.result c.args.self.now _ c.come_to.new.self c.come_to.result c.come_to.ensures.task c.come_to.ensures.answer c.copy_next-next.ensures.begun

pub returns-in-None-clause-drops : goal.returns-in-None-clause-drops
returns-in-None-clause-drops g c runs = switch_counts c.switch_file-switched.result _ c.come_by_switch.new.self c.args.self.now.dropped c.args.store.now.map c.switch_file-switched.new.store.map c.switch_file-switched.new.store.stopped c.come_by_switch.ensures.task refl c.switch_file-switched.ensures.dropped c.switch_file-switched.ensures.stopped runs

pub returns-in-None-clause-counts : goal.returns-in-None-clause-counts
returns-in-None-clause-counts g c = switch_tells c.switch_file-switched.result c.args.self.now _ c.come_by_switch.new.self c.come_by_switch.result c.come_by_switch.ensures.task c.come_by_switch.ensures.answer c.switch_file-switched.ensures.begun

pub returns-in-Some-next_wanted-clause-quiet : goal.returns-in-Some-next_wanted-clause-quiet
returns-in-Some-next_wanted-clause-quiet g c = part_so (λ n a. KeepsQuiet (at_stage (stage.Copying c.args.work) c.args.self.now) n a c.args.store.now c.copy_next-next.new.store (g.D.Disk.history c.args.store.now.disk) (g.D.Disk.history c.copy_next-next.new.store.disk)) c.copy_next-next.result (at_stage (stage.Copying c.args.work) c.args.self.now) _ c.come_to.new.self c.come_to.result c.come_to.ensures.task c.come_to.ensures.answer refl refl refl (c.copy_next-next.ensures.quiet (at_stage (stage.Copying c.args.work) c.args.self.now) refl)

pub returns-in-None-clause-quiet : goal.returns-in-None-clause-quiet
returns-in-None-clause-quiet g c =
    let s = c.in-Some.ensures.some in
    switch_so (λ n a. KeepsQuiet (at_stage (stage.Copying c.args.work) c.args.self.now) n a c.args.store.now c.switch_file-switched.new.store (g.D.Disk.history c.args.store.now.disk) (g.D.Disk.history c.switch_file-switched.new.store.disk)) c.switch_file-switched.result (at_stage (stage.Copying c.args.work) c.args.self.now) c.args.self.now c.come_by_switch.new.self c.come_by_switch.result c.come_by_switch.ensures.task c.come_by_switch.ensures.answer refl (c.switch_file-switched.ensures.quiet (at_stage (stage.Copying c.args.work) c.args.self.now) c.requires.ready (copied_first c.args.work s.0 (drop (c.args.work.next + 1) c.args.work.sources.items) c.in-Some.source.file c.args.store.now.map s.1 s.2.0 (subst (λ (m : MapMeaning). AreUnwantedFrom m c.in-Some.source.file.0 c.args.work.from) c.map.ensures c.in-None.ensures.none)))
