use Rattle.purge_task.proofs.Common.{◌≡◌, ◌+◌, false, refl, sym, ◌∙◌, ap, subst, InstId, is_instance_named, holders_in, instance_in, IsSome, at_stage, PurgeValue, StoreValue, KeepsQuiet}
use Rattle.mdbox_base.specs.declared.progress.Progress.TheVariants as progress
use Rattle.purge_task.specs.declared.task.PurgeStage.TheVariants as stage
use Rattle.purge_task.proofs.DropLemmas.{same_drops}
use Rattle.purge_task.proofs.GoneCallLemmas.{failed_says, gone_says, stage_as, useless_one}
use Rattle.purge_task.proofs.StepLemmas.{gone_low}
use Rattle.purge_task.proofs.QuietFirstLemmas.{instance_counted}
use Rattle.purge_task.proofs.QuietOuterLemmas.{gone_quiet}
use Rattle.purge_task.proofs.task.PurgeTask.remove_useless.Goals as goal

pub remove_instance-requires-clause-known : goal.remove_instance-requires-clause-known
remove_instance-requires-clause-known g c =
    let one = useless_one c.args.store.now c.args.id c.facts.ensures.ids c.requires.useless in
    subst (λ (i : InstId). IsSome (instance_in i c.args.store.now.instances.known)) one.id_is (subst (λ o. IsSome o) (sym one.known) refl)

pub remove_instance-requires-clause-unheld : goal.remove_instance-requires-clause-unheld
remove_instance-requires-clause-unheld g c =
    let one = useless_one c.args.store.now c.args.id c.facts.ensures.ids c.requires.useless in
    subst (λ (i : InstId). holders_in i c.args.store.now.instances.known ≡ 0) one.id_is one.unheld

pub remove_instance-requires-clause-unnamed : goal.remove_instance-requires-clause-unnamed
remove_instance-requires-clause-unnamed g c =
    let one = useless_one c.args.store.now c.args.id c.facts.ensures.ids c.requires.useless in
    subst (λ (i : InstId). is_instance_named c.args.store.now.map i.0 ≡ false) one.id_is one.unnamed

pub returns-in-Ok-clause-step : goal.returns-in-Ok-clause-step
returns-in-Ok-clause-step g c =
    let quiet = ap (λ (t : PurgeValue). t.did) c.self.view_is ∙ c.requires.quiet in
    stage_as stage.Instances _ c.args.self.now _ _ c.args.store.now c.remove_instance.new.self _ _ _ _ c.self.view_is
    (gone_says g.D.Disk.history g.D.Disk.faults _ _ c.args.id c.args.store.now c.remove_instance.new.self refl refl quiet refl refl refl c.requires.running c.facts.ensures.instances c.facts.ensures.ids c.known_id.ensures.long c.known_id.ensures.octets c.requires.useless
    c.in-Ok.ensures.any_moment c.in-Ok.ensures.mail_stays c.in-Ok.ensures.settled c.in-Ok.ensures.others c.in-Ok.ensures.firm c.in-Ok.ensures.ok c.in-Ok.ensures.grows c.in-Ok.ensures.unfailed c.facts.ensures.store)

pub returns-in-Err-clause-step : goal.returns-in-Err-clause-step
returns-in-Err-clause-step g c =
    stage_as stage.Instances _ c.args.self.now _ _ c.args.store.now c.remove_instance.new.self _ _ _ _ c.self.view_is
    (failed_says g.D.Disk.history g.D.Disk.faults _ _ c.args.store.now c.remove_instance.new.self refl c.requires.running c.in-Err.ensures.any_moment c.in-Err.ensures.mail_stays c.in-Err.ensures.err c.in-Err.ensures.grows _ refl c.in-Err.ensures.fault (λ begins. let e : stage.Instances ≡ stage.First = begins in cc e))

pub returns-in-Ok-clause-left : goal.returns-in-Ok-clause-left
returns-in-Ok-clause-left g c more =
    let one = useless_one c.args.store.now c.args.id c.facts.ensures.ids c.requires.useless in
    gone_low (at_stage stage.Instances c.args.self.now) _ c.args.id c.args.store.now c.remove_instance.new.self refl refl (ap (λ (v : PurgeValue). v.dropped) c.self.view_is) (ap (λ (v : PurgeValue). v.files) c.self.view_is) (ap (λ (v : PurgeValue). v.instances + 1) c.self.view_is)
    (subst (λ (i : InstId). IsSome (instance_in i c.args.store.now.instances.known)) one.id_is (subst (λ o. IsSome o) (sym one.known) refl)) c.in-Ok.ensures.ok c.requires.low

pub returns-in-Ok-clause-drops : goal.returns-in-Ok-clause-drops
returns-in-Ok-clause-drops g c runs = same_drops c.args.self.now.dropped _ c.args.store.now.map c.remove_instance.new.self.map (ap (λ (v : PurgeValue). v.dropped) c.self.view_is) (ap (λ (s : StoreValue _). s.map) c.in-Ok.ensures.ok)

pub returns-in-Err-clause-drops : goal.returns-in-Err-clause-drops
returns-in-Err-clause-drops g c runs = same_drops c.args.self.now.dropped _ c.args.store.now.map c.remove_instance.new.self.map (ap (λ (v : PurgeValue). v.dropped) c.self.view_is) (ap (λ (s : StoreValue _). s.map) c.in-Err.ensures.err)

pub returns-in-Ok-clause-counts : goal.returns-in-Ok-clause-counts
returns-in-Ok-clause-counts g c = λ e. cc e

pub returns-in-Err-clause-counts : goal.returns-in-Err-clause-counts
returns-in-Err-clause-counts g c = tt

pub returns-in-Ok-clause-quiet : goal.returns-in-Ok-clause-quiet
returns-in-Ok-clause-quiet g c =
    subst (λ (v : PurgeValue). KeepsQuiet (at_stage stage.Instances v) (at_stage stage.Instances (instance_counted (record { stage = c.self.inside.stage; did = c.self.inside.did; dropped = c.self.inside.done.dropped; files = c.self.inside.done.files; instances = c.self.inside.done.instances }))) progress.More c.args.store.now c.remove_instance.new.self (g.D.Disk.history c.args.store.now.disk) (g.D.Disk.history c.remove_instance.new.self.disk)) c.self.view_is
    (gone_quiet g.D.Disk.history (at_stage stage.Instances (record { stage = c.self.inside.stage; did = c.self.inside.did; dropped = c.self.inside.done.dropped; files = c.self.inside.done.files; instances = c.self.inside.done.instances })) c.args.id c.args.store.now c.remove_instance.new.self refl c.requires.running c.facts.ensures.instances (useless_one c.args.store.now c.args.id c.facts.ensures.ids c.requires.useless) c.in-Ok.ensures.gone c.in-Ok.ensures.others (ap (λ (s : StoreValue _). s.map) c.in-Ok.ensures.ok)
    (λ runs. ((returns-in-Ok-clause-step g c).claims runs).moves))

pub returns-in-Err-clause-quiet : goal.returns-in-Err-clause-quiet
returns-in-Err-clause-quiet g c = tt
