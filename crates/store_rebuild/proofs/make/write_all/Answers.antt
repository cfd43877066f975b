use Rattle.std.proofs.Common.{◌≡◌, ◌∙◌, List, Option, Some, subst, sym}
use Rattle.disk_model.specs.Disk.{Between, DiskState, History, IfTold}
use Rattle.model_rebuild.specs.RebuildMoments.{IsBeforeLogs}
use Rattle.model_rebuild.specs.RebuildPlan.{IsPlanFor, RebuildPlan}
use Rattle.model_store.specs.Settled.{files_of}
use Rattle.store_rebuild.specs.Planned.{AreRowsOf}
use Rattle.store_rebuild.specs.Writing.{HasStoreOf, IsOnlySynced, IsReady, OthersReadSame}
use Rattle.store_rebuild.proofs.MakeLemmas.{all_moments, before_itself, between_from, moments_then, old_moments, others_read, planned_there, ready_then, store_of}
use Rattle.store_rebuild.proofs.make.write_all.Given.{Over}
use Rattle.store_rebuild.proofs.make.write_all.Goals.{In_ok-remove_root}
use Rattle.store_rebuild.proofs.make.write_all.Goals as goal

-- once the root log is removed
ready : (g : Over) (c : In_ok-remove_root g) (first : DiskState) (before : List DiskState) (plan : RebuildPlan) → g.D.Disk.history c.args.disk.now ≡ Some (record { now = first; before = before }) → IsPlanFor (files_of first) c.args.id.0 plan → AreRowsOf plan c.args.rows.now
    → IfTold (g.D.Disk.history c.remove_root.new.disk) (IsReady c.args.id.0 plan first)
ready g c first before plan e is r =
    ready_then c.args.id.0 plan c.as_slice.result.now first before _ _ is (c.as_slice.ensures ∙ r.taken)
    (let F : Option History → Type 0 = λ h. Between IsOnlySynced h (g.D.Disk.history c.sync_taken.new.disk) in subst F e c.in_ok-sync_taken.ensures.same) c.in_ok-sync_taken.ensures.synced (g.met.D.Disk.reads_image c.sync_taken.new.disk) c.in_ok-remove_root.ensures.others
    (c.in_ok-remove_root.ensures.rootless first (c.in_ok-sync_taken.ensures.before first (let F : Option History → Type 0 = λ h. IfTold h (IsBeforeLogs first) in subst F (sym e) (before_itself first))))

pub sync_taken-requires : goal.sync_taken-requires
sync_taken-requires g c = planned_there c.args.id.0 c.args.rows.now c.as_slice.result.now _ c.as_slice.ensures c.requires.planned

pub returns-in_err-sync_taken-clause-any_moment : goal.returns-in_err-sync_taken-clause-any_moment
returns-in_err-sync_taken-clause-any_moment g c = old_moments _ _ c.in_err-sync_taken.ensures.any_moment

pub returns-in_err-remove_root-clause-any_moment : goal.returns-in_err-remove_root-clause-any_moment
returns-in_err-remove_root-clause-any_moment g c = old_moments _ _ (moments_then _ _ _ c.in_ok-sync_taken.ensures.any_moment c.in_ok-sync_taken.ensures.before c.in_err-remove_root.ensures.any_moment)

pub returns-in_err-write_logs-clause-any_moment : goal.returns-in_err-write_logs-clause-any_moment
returns-in_err-write_logs-clause-any_moment g c =
    let at = (goal.at.returns-in_err-write_logs-clause-any_moment g c).In_ok-remove_root in
    all_moments c.args.id.0 c.args.rows.now _ _ _ _ c.requires.planned c.in_ok-sync_taken.ensures.any_moment c.in_ok-sync_taken.ensures.before c.in_ok-remove_root.ensures.any_moment
    (λ first before plan e is r. c.in_err-write_logs.ensures.any_moment first plan (c.requires.logs plan r) r.map_generation r.box_generation (ready g at first before plan e is r))

pub returns-clause-any_moment : goal.returns-clause-any_moment
returns-clause-any_moment g c =
    let at = (goal.at.returns-clause-any_moment g c).In_ok-remove_root in
    all_moments c.args.id.0 c.args.rows.now _ _ _ _ c.requires.planned c.in_ok-sync_taken.ensures.any_moment c.in_ok-sync_taken.ensures.before c.in_ok-remove_root.ensures.any_moment
    (λ first before plan e is r. c.in_ok-write_logs.ensures.any_moment first plan (c.requires.logs plan r) r.map_generation r.box_generation (ready g at first before plan e is r))

pub returns-clause-made : goal.returns-clause-made
returns-clause-made g c =
    let at = (goal.at.returns-clause-made g c).In_ok-remove_root in
    between_from (OthersReadSame c.args.rows.now.map_generation c.args.rows.now.box_generation) (HasStoreOf c.args.id.0 c.args.rows.now) _ _
    (others_read c.args.rows.now.map_generation c.args.rows.now.box_generation _ _ _ _ c.in_ok-sync_taken.ensures.same c.in_ok-remove_root.ensures.others c.in_ok-write_logs.ensures.others)
    (λ first before e. store_of c.args.id.0 c.args.rows.now first _ (λ plan is r. c.in_ok-write_logs.ensures.made first plan (c.requires.logs plan r) r.map_generation r.box_generation (ready g at first before plan e is r)))

pub returns-clause-others : goal.returns-clause-others
returns-clause-others g c = others_read c.args.rows.now.map_generation c.args.rows.now.box_generation _ _ _ _ c.in_ok-sync_taken.ensures.same c.in_ok-remove_root.ensures.others c.in_ok-write_logs.ensures.others
