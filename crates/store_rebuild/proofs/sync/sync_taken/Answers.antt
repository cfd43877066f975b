use Rattle.std.proofs.Common.{All, inl, inr, refl}
use Rattle.std.proofs.lemmas.List.{nil_from_length}
use Rattle.disk_model.proofs.BetweenLemmas.{between-begins, between-on, between-then}
use Rattle.disk_model.proofs.FaultCountLemmas.{no_fault-then}
use Rattle.disk_model.proofs.IdleLemmas.{idle-begins}
use Rattle.disk_model.proofs.MomentLemmas.{each_image-then, if_told-all, if_told-map}
use Rattle.disk_model.specs.Disk.{Between, IfTold, IsThere}
use Rattle.disk_model.specs.declared.name.FileName.TheVariants as file
use Rattle.store_rebuild.proofs.RootLemmas.{looked_images}
use Rattle.store_rebuild.specs.Writing.{AreFilesSynced, AreFilesThere, IsInstanceThere, IsOnlySynced}
use Rattle.store_rebuild.proofs.SyncLemmas.{IsLastSynced, both_synced, first_there, left_begins, left_ends, left_more, message_keeps, message_stays, only_begins, only_then, others_there, same_as_last}
use Rattle.store_rebuild.proofs.sync.sync_taken.Goals as goal

pub loop-row-init : goal.loop-row-init
loop-row-init g c = record {
  before = λ first b. (looked_images first _ _ (idle-begins _) b, b);
  same = between-begins IsOnlySynced _ only_begins;
  left = if_told-all _ _ (left_begins AreFilesSynced c.args.taken.now);
  there = c.requires;
  last = if_told-all _ _ (λ disk. inl refl);
  unfailed = refl;
}

pub sync_storage-requires : goal.sync_storage-requires
sync_storage-requires g c = if_told-map (λ disk. AreFilesThere disk c.in-Some.row.now) (λ disk. IsThere (disk (file.Mail c.in-Some.row.now.file.0))) _ (λ disk t. t.storage) (first_there AreFilesThere c.in-Some.row.now c.loop-row.rest.now c.in-Some.others.now _ c.in-Some.ensures.cases.0 c.loop-row.invariant.there)

pub sync_instances-requires : goal.sync_instances-requires
sync_instances-requires g c =
    between-on IsOnlySynced (λ disk. AreFilesThere disk c.in-Some.row.now) (λ disk. All (IsInstanceThere disk) c.as_slice.result.now) _ _ (λ a b r t. rw c.as_slice.ensures ((message_stays a b c.in-Some.row.now r t).instances)) c.in_ok-sync_storage.ensures.same
    (first_there AreFilesThere c.in-Some.row.now c.loop-row.rest.now c.in-Some.others.now _ c.in-Some.ensures.cases.0 c.loop-row.invariant.there)

pub returns-in_err-sync_storage-clause-any_moment : goal.returns-in_err-sync_storage-clause-any_moment
returns-in_err-sync_storage-clause-any_moment g c = λ first b. let h = c.loop-row.invariant.before first b in each_image-then _ _ _ _ h.0 (c.in_err-sync_storage.ensures.any_moment first h.1)

pub returns-in_err-sync_instances-clause-any_moment : goal.returns-in_err-sync_instances-clause-any_moment
returns-in_err-sync_instances-clause-any_moment g c = λ first b.
    let h = c.loop-row.invariant.before first b in
    each_image-then _ _ _ _ (each_image-then _ _ _ _ h.0 (c.in_ok-sync_storage.ensures.any_moment first h.1)) (c.in_err-sync_instances.ensures.any_moment first (c.in_ok-sync_storage.ensures.before first h.1))

pub loop-row-preserved : goal.loop-row-preserved
loop-row-preserved g c =
    let row = c.in-Some.row.now in
    let is = c.in-Some.ensures.cases.0 in
    let there = first_there AreFilesThere row c.loop-row.rest.now c.in-Some.others.now _ is c.loop-row.invariant.there in
    let same : Between IsOnlySynced (g.D.Disk.history c.loop-row.disk) (g.D.Disk.history c.sync_instances.new.disk) = between-then IsOnlySynced IsOnlySynced IsOnlySynced _ _ _ only_then c.in_ok-sync_storage.ensures.same c.in_ok-sync_instances.ensures.same in
    let storage = c.in_ok-sync_storage.ensures.synced (same_as_last row c.loop-row.last _ there c.loop-row.invariant.last) in
    let more : IfTold (g.D.Disk.history c.sync_instances.new.disk) (λ disk. AreFilesSynced disk row) = both_synced row _ _ c.in_ok-sync_instances.ensures.same storage (rw c.as_slice.ensures at c.in_ok-sync_instances.ensures.synced) in
    record {
      before = λ first b.
          let h = c.loop-row.invariant.before first b in
          let m = c.in_ok-sync_storage.ensures.before first h.1 in
          (each_image-then _ _ _ _ (each_image-then _ _ _ _ h.0 (c.in_ok-sync_storage.ensures.any_moment first h.1)) (c.in_ok-sync_instances.ensures.any_moment first m), c.in_ok-sync_instances.ensures.before first m);
      same = between-then IsOnlySynced IsOnlySynced IsOnlySynced _ _ _ only_then c.loop-row.invariant.same same;
      left = left_more AreFilesSynced row c.loop-row.rest.now c.in-Some.others.now c.args.taken.now _ _ (message_keeps row) is same c.loop-row.invariant.left more;
      there = others_there AreFilesThere row c.loop-row.rest.now c.in-Some.others.now _ _ message_stays is same c.loop-row.invariant.there;
      last = if_told-map (λ disk. AreFilesSynced disk row) (IsLastSynced row.file.0) _ (λ disk s. inr s.storage) more;
      unfailed = no_fault-then _ _ _ c.loop-row.invariant.unfailed (no_fault-then _ _ _ c.in_ok-sync_storage.ensures.unfailed c.in_ok-sync_instances.ensures.unfailed);
    }

pub returns-clause-any_moment : goal.returns-clause-any_moment
returns-clause-any_moment g c = λ first b. (c.loop-row.invariant.before first b).0

pub returns-clause-before : goal.returns-clause-before
returns-clause-before g c = λ first b. (c.loop-row.invariant.before first b).1

pub returns-clause-synced : goal.returns-clause-synced
returns-clause-synced g c = left_ends AreFilesSynced c.loop-row.rest.now c.args.taken.now _ (nil_from_length c.loop-row.rest.now c.in_default.ensures.cases) c.loop-row.invariant.left
