use Rattle.purge_task.proofs.Common.{refl, sym, ◌∙◌, ap, subst, PurgeValue, KeepsQuiet, at_stage}
use Rattle.purge_task.specs.declared.task.PurgeStage.TheVariants as stage
use Rattle.purge_task.proofs.DropLemmas.{same_drops}
use Rattle.purge_task.proofs.GoneCallLemmas.{last_says, stage_as}
use Rattle.purge_task.proofs.QuietOuterLemmas.{last_quiet}
use Rattle.mdbox_base.specs.declared.progress.Progress.TheVariants as progress
use Rattle.mdbox_base.specs.declared.replies.Reply.TheVariants as reply
use Rattle.purge_task.proofs.task.PurgeTask.remove_instance.Goals as goal

pub returns-in-None-clause-step : goal.returns-in-None-clause-step
returns-in-None-clause-step g c =
    let at = ap (λ (t : PurgeValue). t.stage) c.self.view_is ∙ c.requires.first in
    stage_as stage.Instances _ c.args.self.now _ _ c.args.store.now c.args.store.now _ _ _ _ c.self.view_is
    (last_says _ _ c.args.store.now (g.D.Disk.history c.args.store.now.disk) (g.D.Disk.faults c.args.store.now.disk) refl at refl c.requires.running c.facts.ensures.instances (sym c.next_useless.ensures ∙ c.in-None.is) c.facts.ensures.store)

pub returns-in-None-clause-drops : goal.returns-in-None-clause-drops
returns-in-None-clause-drops g c runs = same_drops c.args.self.now.dropped _ c.args.store.now.map c.args.store.now.map (ap (λ (v : PurgeValue). v.dropped) c.self.view_is) refl

pub returns-in-None-clause-counts : goal.returns-in-None-clause-counts
returns-in-None-clause-counts g c = ((ap (λ (v : PurgeValue). v.dropped) c.self.view_is, ap (λ (v : PurgeValue). v.files) c.self.view_is, ap (λ (v : PurgeValue). v.instances) c.self.view_is), (refl, refl, refl))

pub returns-in-None-clause-quiet : goal.returns-in-None-clause-quiet
returns-in-None-clause-quiet g c =
    subst (λ (v : PurgeValue). KeepsQuiet (at_stage stage.Instances v) c.args.self.now (progress.Done (reply.Purged c.self.inside.done.dropped c.self.inside.done.files c.self.inside.done.instances)) c.args.store.now c.args.store.now (g.D.Disk.history c.args.store.now.disk) (g.D.Disk.history c.args.store.now.disk)) c.self.view_is
    (last_quiet (at_stage stage.Instances (record { stage = c.self.inside.stage; did = c.self.inside.did; dropped = c.self.inside.done.dropped; files = c.self.inside.done.files; instances = c.self.inside.done.instances })) c.args.self.now c.args.store.now (g.D.Disk.history c.args.store.now.disk) refl c.requires.running c.facts.ensures.instances c.facts.ensures.ids (sym c.next_useless.ensures ∙ c.in-None.is))
