use Rattle.purge_task.proofs.Common.{◌≡◌, ◌+◌, ◌==◌, true, drop, refl, sym, ◌∙◌, ap, subst, arith, list_any, MapMeaning, at_stage, PurgeValue, KeepsQuiet}
use Rattle.purge_task.specs.declared.task.PurgeStage.TheVariants as stage
use Rattle.purge_task.proofs.DropLemmas.{part_drops, part_tells, switch_counts, switch_tells}
use Rattle.purge_task.proofs.StepLemmas.{further_at, part_left, part_low, part_says, switch_left, switch_part, unwanted_first}
use Rattle.purge_task.proofs.QuietStepLemmas.{part_so, switch_so}
use Rattle.purge_task.proofs.task.PurgeTask.begin_file.Goals as goal

pub returns-in-Some-target-clause-step : goal.returns-in-Some-target-clause-step
returns-in-Some-target-clause-step g c =
    part_says c.begin_target-next.result (at_stage (stage.Begin c.args.work) c.args.self.now) (at_stage (stage.Begin c.args.work) c.args.self.now) _ c.come_to.new.self c.come_to.result c.args.store.now c.begin_target-next.new.store (g.D.Disk.history c.args.store.now.disk) (g.D.Disk.history c.begin_target-next.new.store.disk) (g.D.Disk.faults c.args.store.now.disk) (g.D.Disk.faults c.begin_target-next.new.store.disk) c.come_to.ensures.task c.come_to.ensures.answer refl refl refl (c.begin_target-next.ensures.step (at_stage (stage.Begin c.args.work) c.args.self.now) refl)

pub returns-in-Some-target-clause-left : goal.returns-in-Some-target-clause-left
returns-in-Some-target-clause-left g c more =
    part_left c.begin_target-next.result (at_stage (stage.Begin c.args.work) c.args.self.now) (at_stage (stage.Begin c.args.work) c.args.self.now) _ c.come_to.new.self c.come_to.result c.args.store.now c.begin_target-next.new.store c.come_to.ensures.task c.come_to.ensures.answer refl refl refl
    (part_low 0 c.begin_target-next.result (at_stage (stage.Begin c.args.work) c.args.self.now) (at_stage (stage.Begin c.args.work) c.args.self.now) c.args.store.now c.begin_target-next.new.store (g.D.Disk.history c.args.store.now.disk) (g.D.Disk.history c.begin_target-next.new.store.disk) (g.D.Disk.faults c.args.store.now.disk) (g.D.Disk.faults c.begin_target-next.new.store.disk) (c.begin_target-next.ensures.step (at_stage (stage.Begin c.args.work) c.args.self.now) refl) c.begin_target-next.ensures.further (omega arith) refl refl c.requires.low (omega arith)) more

pub switch_file-switched-requires-clause-ready : goal.switch_file-switched-requires-clause-ready
switch_file-switched-requires-clause-ready g c =
    let s = c.in-Some.ensures.some in
    (stage.Begin c.args.work, c.requires.ready, (unwanted_first c.args.work s.0 (drop (c.args.work.next + 1) c.args.work.sources.items) c.in-Some.source.file c.in-Some.source.target c.args.store.now.map s.1 s.2.0 s.2.1 c.in_default-target.is (subst (λ (m : MapMeaning). list_any (λ row. row.file == c.in-Some.source.file.0) m.records ≡ true) c.map.ensures (sym c.has_message.ensures ∙ c.if-has_message.true))))

pub returns-then-has_message-clause-step : goal.returns-then-has_message-clause-step
returns-then-has_message-clause-step g c =
    let s = c.in-Some.ensures.some in
    switch_part c.switch_file-switched.result (at_stage (stage.Begin c.args.work) c.args.self.now) c.args.self.now c.come_by_switch.new.self c.come_by_switch.result c.args.store.now c.switch_file-switched.new.store (g.D.Disk.history c.args.store.now.disk) (g.D.Disk.history c.switch_file-switched.new.store.disk) (g.D.Disk.faults c.args.store.now.disk) (g.D.Disk.faults c.switch_file-switched.new.store.disk) c.come_by_switch.ensures.task c.come_by_switch.ensures.answer refl (c.switch_file-switched.ensures.steps (at_stage (stage.Begin c.args.work) c.args.self.now) c.requires.ready (unwanted_first c.args.work s.0 (drop (c.args.work.next + 1) c.args.work.sources.items) c.in-Some.source.file c.in-Some.source.target c.args.store.now.map s.1 s.2.0 s.2.1 c.in_default-target.is (subst (λ (m : MapMeaning). list_any (λ row. row.file == c.in-Some.source.file.0) m.records ≡ true) c.map.ensures (sym c.has_message.ensures ∙ c.if-has_message.true))))

pub returns-then-has_message-clause-left : goal.returns-then-has_message-clause-left
returns-then-has_message-clause-left g c more =
    let s = c.in-Some.ensures.some in
    switch_left c.switch_file-switched.result (at_stage (stage.Begin c.args.work) c.args.self.now) c.args.self.now c.come_by_switch.new.self c.come_by_switch.result c.args.store.now c.switch_file-switched.new.store (g.D.Disk.history c.args.store.now.disk) (g.D.Disk.history c.switch_file-switched.new.store.disk) (g.D.Disk.faults c.args.store.now.disk) (g.D.Disk.faults c.switch_file-switched.new.store.disk) c.come_by_switch.ensures.task c.come_by_switch.ensures.answer refl (c.switch_file-switched.ensures.steps (at_stage (stage.Begin c.args.work) c.args.self.now) c.requires.ready (unwanted_first c.args.work s.0 (drop (c.args.work.next + 1) c.args.work.sources.items) c.in-Some.source.file c.in-Some.source.target c.args.store.now.map s.1 s.2.0 s.2.1 c.in_default-target.is (subst (λ (m : MapMeaning). list_any (λ row. row.file == c.in-Some.source.file.0) m.records ≡ true) c.map.ensures (sym c.has_message.ensures ∙ c.if-has_message.true)))) c.switch_file-switched.ensures.few (further_at c.args.store.now (g.D.Disk.history c.args.store.now.disk) c.args.work c.switch_file-switched.result (at_stage (stage.Begin c.args.work) c.args.self.now) c.switch_file-switched.ensures.further c.requires.ready (unwanted_first c.args.work s.0 (drop (c.args.work.next + 1) c.args.work.sources.items) c.in-Some.source.file c.in-Some.source.target c.args.store.now.map s.1 s.2.0 s.2.1 c.in_default-target.is (subst (λ (m : MapMeaning). list_any (λ row. row.file == c.in-Some.source.file.0) m.records ≡ true) c.map.ensures (sym c.has_message.ensures ∙ c.if-has_message.true)))) c.requires.low more

pub returns-else-has_message-clause-step : goal.returns-else-has_message-clause-step
returns-else-has_message-clause-step g c =
    part_says c.remove_bare-next.result (at_stage (stage.Begin c.args.work) c.args.self.now) (record (at_stage (stage.Begin c.args.work) c.args.self.now) { files = c.args.self.now.files + 1 }) _ c.come_to-else-has_message.new.self c.come_to-else-has_message.result c.args.store.now c.remove_bare-next.new.store (g.D.Disk.history c.args.store.now.disk) (g.D.Disk.history c.remove_bare-next.new.store.disk) (g.D.Disk.faults c.args.store.now.disk) (g.D.Disk.faults c.remove_bare-next.new.store.disk) c.come_to-else-has_message.ensures.task c.come_to-else-has_message.ensures.answer (sym (ap (λ (v : PurgeValue). v.dropped) c.self.view_is)) (sym (ap (λ (v : PurgeValue). v.files + 1) c.self.view_is)) (sym (ap (λ (v : PurgeValue). v.instances) c.self.view_is)) (c.remove_bare-next.ensures.step (at_stage (stage.Begin c.args.work) c.args.self.now) refl)

pub returns-else-has_message-clause-left : goal.returns-else-has_message-clause-left
returns-else-has_message-clause-left g c more =
    part_left c.remove_bare-next.result (at_stage (stage.Begin c.args.work) c.args.self.now) (record (at_stage (stage.Begin c.args.work) c.args.self.now) { files = c.args.self.now.files + 1 }) _ c.come_to-else-has_message.new.self c.come_to-else-has_message.result c.args.store.now c.remove_bare-next.new.store c.come_to-else-has_message.ensures.task c.come_to-else-has_message.ensures.answer (sym (ap (λ (v : PurgeValue). v.dropped) c.self.view_is)) (sym (ap (λ (v : PurgeValue). v.files + 1) c.self.view_is)) (sym (ap (λ (v : PurgeValue). v.instances) c.self.view_is))
    (part_low 1 c.remove_bare-next.result (at_stage (stage.Begin c.args.work) c.args.self.now) (record (at_stage (stage.Begin c.args.work) c.args.self.now) { files = c.args.self.now.files + 1 }) c.args.store.now c.remove_bare-next.new.store (g.D.Disk.history c.args.store.now.disk) (g.D.Disk.history c.remove_bare-next.new.store.disk) (g.D.Disk.faults c.args.store.now.disk) (g.D.Disk.faults c.remove_bare-next.new.store.disk) (c.remove_bare-next.ensures.step (at_stage (stage.Begin c.args.work) c.args.self.now) refl) c.remove_bare-next.ensures.further refl refl refl c.requires.low (omega arith)) more

pub returns-in-Some-target-clause-drops : goal.returns-in-Some-target-clause-drops
returns-in-Some-target-clause-drops g c runs = part_drops c.begin_target-next.result _ c.come_to.new.self c.args.self.now.dropped c.args.store.now.map c.begin_target-next.new.store.map c.come_to.ensures.task refl c.begin_target-next.ensures.map

pub returns-in-Some-target-clause-counts : goal.returns-in-Some-target-clause-counts
returns-in-Some-target-clause-counts g c = part_tells c.begin_target-next.result c.args.self.now _ c.come_to.new.self c.come_to.result c.come_to.ensures.task c.come_to.ensures.answer c.begin_target-next.ensures.begun

pub returns-then-has_message-clause-drops : goal.returns-then-has_message-clause-drops
returns-then-has_message-clause-drops g c runs = switch_counts c.switch_file-switched.result _ c.come_by_switch.new.self c.args.self.now.dropped c.args.store.now.map c.switch_file-switched.new.store.map c.switch_file-switched.new.store.stopped c.come_by_switch.ensures.task refl c.switch_file-switched.ensures.dropped c.switch_file-switched.ensures.stopped runs

pub returns-then-has_message-clause-counts : goal.returns-then-has_message-clause-counts
returns-then-has_message-clause-counts g c = switch_tells c.switch_file-switched.result c.args.self.now _ c.come_by_switch.new.self c.come_by_switch.result c.come_by_switch.ensures.task c.come_by_switch.ensures.answer c.switch_file-switched.ensures.begun

pub returns-else-has_message-clause-drops : goal.returns-else-has_message-clause-drops
returns-else-has_message-clause-drops g c runs = part_drops c.remove_bare-next.result _ c.come_to-else-has_message.new.self c.args.self.now.dropped c.args.store.now.map c.remove_bare-next.new.store.map c.come_to-else-has_message.ensures.task (ap (λ (v : PurgeValue). v.dropped) c.self.view_is) c.remove_bare-next.ensures.map

pub returns-else-has_message-clause-counts : goal.returns-else-has_message-clause-counts
returns-else-has_message-clause-counts g c = part_tells c.remove_bare-next.result c.args.self.now _ c.come_to-else-has_message.new.self c.come_to-else-has_message.result c.come_to-else-has_message.ensures.task c.come_to-else-has_message.ensures.answer c.remove_bare-next.ensures.begun

pub returns-in-Some-target-clause-quiet : goal.returns-in-Some-target-clause-quiet
returns-in-Some-target-clause-quiet g c = part_so (λ n a. KeepsQuiet (at_stage (stage.Begin c.args.work) c.args.self.now) n a c.args.store.now c.begin_target-next.new.store (g.D.Disk.history c.args.store.now.disk) (g.D.Disk.history c.begin_target-next.new.store.disk)) c.begin_target-next.result (at_stage (stage.Begin c.args.work) c.args.self.now) _ c.come_to.new.self c.come_to.result c.come_to.ensures.task c.come_to.ensures.answer refl refl refl (c.begin_target-next.ensures.quiet (at_stage (stage.Begin c.args.work) c.args.self.now) refl)

pub returns-then-has_message-clause-quiet : goal.returns-then-has_message-clause-quiet
returns-then-has_message-clause-quiet g c =
    let s = c.in-Some.ensures.some in
    switch_so (λ n a. KeepsQuiet (at_stage (stage.Begin c.args.work) c.args.self.now) n a c.args.store.now c.switch_file-switched.new.store (g.D.Disk.history c.args.store.now.disk) (g.D.Disk.history c.switch_file-switched.new.store.disk)) c.switch_file-switched.result (at_stage (stage.Begin c.args.work) c.args.self.now) c.args.self.now c.come_by_switch.new.self c.come_by_switch.result c.come_by_switch.ensures.task c.come_by_switch.ensures.answer refl (c.switch_file-switched.ensures.quiet (at_stage (stage.Begin c.args.work) c.args.self.now) c.requires.ready (unwanted_first c.args.work s.0 (drop (c.args.work.next + 1) c.args.work.sources.items) c.in-Some.source.file c.in-Some.source.target c.args.store.now.map s.1 s.2.0 s.2.1 c.in_default-target.is (subst (λ (m : MapMeaning). list_any (λ row. row.file == c.in-Some.source.file.0) m.records ≡ true) c.map.ensures (sym c.has_message.ensures ∙ c.if-has_message.true))))

pub returns-else-has_message-clause-quiet : goal.returns-else-has_message-clause-quiet
returns-else-has_message-clause-quiet g c = part_so (λ n a. KeepsQuiet (at_stage (stage.Begin c.args.work) c.args.self.now) n a c.args.store.now c.remove_bare-next.new.store (g.D.Disk.history c.args.store.now.disk) (g.D.Disk.history c.remove_bare-next.new.store.disk)) c.remove_bare-next.result (record (at_stage (stage.Begin c.args.work) c.args.self.now) { files = c.args.self.now.files + 1 }) _ c.come_to-else-has_message.new.self c.come_to-else-has_message.result c.come_to-else-has_message.ensures.task c.come_to-else-has_message.ensures.answer (sym (ap (λ (v : PurgeValue). v.dropped) c.self.view_is)) (sym (ap (λ (v : PurgeValue). v.files + 1) c.self.view_is)) (sym (ap (λ (v : PurgeValue). v.instances) c.self.view_is)) (c.remove_bare-next.ensures.quiet (at_stage (stage.Begin c.args.work) c.args.self.now) refl)
