use Rattle.std.proofs.Common.{refl}
use Rattle.std.proofs.lemmas.List.{nil_from_length}
use Rattle.disk_model.proofs.BetweenLemmas.{between-begins, between-then}
use Rattle.disk_model.proofs.FaultCountLemmas.{no_fault-then}
use Rattle.disk_model.proofs.IdleLemmas.{idle-begins}
use Rattle.disk_model.proofs.MomentLemmas.{each_image-then, if_told-all}
use Rattle.store_rebuild.proofs.RootLemmas.{looked_images}
use Rattle.store_rebuild.specs.Writing.{IsInstanceSynced, IsInstanceThere, IsOnlySynced}
use Rattle.store_rebuild.proofs.SyncLemmas.{first_there, instance_keeps, instance_stays, left_begins, left_ends, left_more, only_begins, only_then, others_there}
use Rattle.store_rebuild.proofs.sync.sync_instances.Goals as goal

pub loop-row-init : goal.loop-row-init
loop-row-init g c = record {
  before = λ first b. (looked_images first _ _ (idle-begins _) b, b);
  same = between-begins IsOnlySynced _ only_begins;
  left = if_told-all _ _ (left_begins IsInstanceSynced c.args.rows.now);
  there = c.requires;
  unfailed = refl;
}

pub sync_file-requires : goal.sync_file-requires
sync_file-requires g c = first_there IsInstanceThere c.in-Some.row.now c.loop-row.rest.now c.in-Some.others.now _ c.in-Some.ensures.cases.0 c.loop-row.invariant.there

pub returns-in_err-sync_file-clause-any_moment : goal.returns-in_err-sync_file-clause-any_moment
returns-in_err-sync_file-clause-any_moment g c = λ first b. let h = c.loop-row.invariant.before first b in each_image-then _ _ _ _ h.0 (c.in_err-sync_file.ensures.any_moment first h.1)

pub loop-row-preserved : goal.loop-row-preserved
loop-row-preserved g c =
    record {
      before = λ first b. let h = c.loop-row.invariant.before first b in (each_image-then _ _ _ _ h.0 (c.in_ok-sync_file.ensures.any_moment first h.1), c.in_ok-sync_file.ensures.before first h.1);
      same = between-then IsOnlySynced IsOnlySynced IsOnlySynced _ _ _ only_then c.loop-row.invariant.same c.in_ok-sync_file.ensures.same;
      left = left_more IsInstanceSynced c.in-Some.row.now c.loop-row.rest.now c.in-Some.others.now c.args.rows.now _ _ (instance_keeps c.in-Some.row.now) c.in-Some.ensures.cases.0 c.in_ok-sync_file.ensures.same c.loop-row.invariant.left c.in_ok-sync_file.ensures.synced;
      there = others_there IsInstanceThere c.in-Some.row.now c.loop-row.rest.now c.in-Some.others.now _ _ instance_stays c.in-Some.ensures.cases.0 c.in_ok-sync_file.ensures.same c.loop-row.invariant.there;
      unfailed = no_fault-then _ _ _ c.loop-row.invariant.unfailed c.in_ok-sync_file.ensures.unfailed;
    }

pub returns-clause-any_moment : goal.returns-clause-any_moment
returns-clause-any_moment g c = λ first b. (c.loop-row.invariant.before first b).0

pub returns-clause-before : goal.returns-clause-before
returns-clause-before g c = λ first b. (c.loop-row.invariant.before first b).1

pub returns-clause-synced : goal.returns-clause-synced
returns-clause-synced g c = left_ends IsInstanceSynced c.loop-row.rest.now c.args.rows.now _ (nil_from_length c.loop-row.rest.now c.in_default.ensures.cases) c.loop-row.invariant.left
