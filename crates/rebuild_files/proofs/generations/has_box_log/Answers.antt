use Rattle.std.proofs.Common.{refl, arith, sym}
use Rattle.disk_model.proofs.FaultCountLemmas.{no_fault-then}
use Rattle.disk_model.proofs.IdleLemmas.{idle-back, idle-begins, idle-on, idle-then}
use Rattle.disk_model.proofs.NameOrderLemmas.{walk_shrinks}
use Rattle.std.proofs.Common.{Some}
use Rattle.rebuild_files.proofs.ListingLemmas.{BoxesArePast, box_found, boxes_begin, boxes_end, boxes_go_on}
use Rattle.rebuild_files.proofs.generations.has_box_log.Goals as goal

pub loop-name-init : goal.loop-name-init
loop-name-init g c = record { past = boxes_begin c.args.generation (g.D.Disk.history c.args.disk.now); range = omega arith; idle = idle-begins _; unfailed = refl }

pub returns-in_err-name-clause-idle : goal.returns-in_err-name-clause-idle
returns-in_err-name-clause-idle g c = idle-then _ _ _ c.loop-name.invariant.idle c.in_err-name.ensures.idle

pub returns-then-is_box_of-clause-told : goal.returns-then-is_box_of-clause-told
returns-then-is_box_of-clause-told g c =
    idle-back _ (g.D.Disk.history c.args.disk.now) (g.D.Disk.history c.loop-name.disk) c.loop-name.invariant.idle
    (box_found c.args.generation c.in-Some.name c.loop-name.last (g.D.Disk.history c.loop-name.disk) (sym c.if-is_box_of.ensures) (rw c.in-Some.is at c.in_ok-name.ensures.next))

pub returns-then-is_box_of-clause-idle : goal.returns-then-is_box_of-clause-idle
returns-then-is_box_of-clause-idle g c = idle-then _ _ _ c.loop-name.invariant.idle c.in_ok-name.ensures.idle

pub loop-name-smaller : goal.loop-name-smaller
loop-name-smaller g c = walk_shrinks (Some c.loop-name.last) c.in-Some.name c.loop-name.invariant.range (rw c.in-Some.is at c.in_ok-name.ensures.range) (rw c.in-Some.is at c.in_ok-name.ensures.past)

pub loop-name-preserved : goal.loop-name-preserved
loop-name-preserved g c = record {
  past = idle-on (BoxesArePast c.args.generation c.in-Some.name) (g.D.Disk.history c.loop-name.disk) (g.D.Disk.history c.next_log.new.disk) c.in_ok-name.ensures.idle
      (boxes_go_on c.args.generation c.in-Some.name c.loop-name.last (g.D.Disk.history c.loop-name.disk) (sym c.if-is_box_of.ensures) c.loop-name.invariant.past (rw c.in-Some.is at c.in_ok-name.ensures.next));
  range = rw c.in-Some.is at c.in_ok-name.ensures.range;
  idle = idle-then _ _ _ c.loop-name.invariant.idle c.in_ok-name.ensures.idle;
  unfailed = no_fault-then _ _ _ c.loop-name.invariant.unfailed c.in_ok-name.ensures.unfailed;
}

pub returns-clause-told : goal.returns-clause-told
returns-clause-told g c =
    idle-back _ (g.D.Disk.history c.args.disk.now) (g.D.Disk.history c.loop-name.disk) c.loop-name.invariant.idle
    (boxes_end c.args.generation c.loop-name.last (g.D.Disk.history c.loop-name.disk) c.loop-name.invariant.past (rw c.in_default.is at c.in_ok-name.ensures.next))

pub returns-clause-idle : goal.returns-clause-idle
returns-clause-idle g c = idle-then _ _ _ c.loop-name.invariant.idle c.in_ok-name.ensures.idle
