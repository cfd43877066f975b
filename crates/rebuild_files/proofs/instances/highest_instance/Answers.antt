use Rattle.std.proofs.Common.{Some, refl, arith, ap, sym, subst, ◌∙◌, ℕ}
use Rattle.std.proofs.Math.Nat.{max-le}
use Rattle.std.specs.Prelude.{max}
use Rattle.disk_model.proofs.FaultCountLemmas.{no_fault-then}
use Rattle.disk_model.proofs.IdleLemmas.{idle-back, idle-begins, idle-on, idle-then}
use Rattle.disk_model.specs.Disk.{IfTold}
use Rattle.disk_model.proofs.NameOrderLemmas.{walk_shrinks}
use Rattle.rebuild_files.proofs.ListingLemmas.{IsMostUpTo, most_begins, most_ends, most_goes_on}
use Rattle.rebuild_files.proofs.instances.highest_instance.Goals as goal

pub loop-name-init : goal.loop-name-init
loop-name-init g c = record { most = most_begins c.args.store.0 (g.D.Disk.history c.args.disk.now); small = omega arith; range = omega arith; idle = idle-begins _; unfailed = refl }

pub returns-in_err-name-clause-idle : goal.returns-in_err-name-clause-idle
returns-in_err-name-clause-idle g c = idle-then _ _ _ c.loop-name.invariant.idle c.in_err-name.ensures.idle

pub loop-name-smaller : goal.loop-name-smaller
loop-name-smaller g c = walk_shrinks (Some c.loop-name.last) c.in-Some.name c.loop-name.invariant.range (rw c.in-Some.is at c.in_ok-name.ensures.range) (rw c.in-Some.is at c.in_ok-name.ensures.past)

pub loop-name-preserved : goal.loop-name-preserved
loop-name-preserved g c =
    let is = c.max-most.ensures ∙ ap (max c.loop-name.most) c.instance_in_name.ensures.number in
    let small = max-le {a = c.loop-name.most} {b = c.instance_in_name.result} {k = 4294967294} (let s = c.loop-name.invariant.small in omega (arith, s)) (let s = c.instance_in_name.ensures.small in omega (arith, s)) in
    record {
      most = idle-on (IsMostUpTo c.args.store.0 c.in-Some.name c.max-most.result) (g.D.Disk.history c.loop-name.disk) (g.D.Disk.history c.next_name.new.disk) c.in_ok-name.ensures.idle
          (subst (λ (n : ℕ). IfTold (g.D.Disk.history c.loop-name.disk) (IsMostUpTo c.args.store.0 c.in-Some.name n)) (sym is)
          (most_goes_on c.args.store.0 c.loop-name.last c.in-Some.name c.loop-name.most (g.D.Disk.history c.loop-name.disk) c.loop-name.invariant.most (rw c.in-Some.is at c.in_ok-name.ensures.range) (rw c.in-Some.is at c.in_ok-name.ensures.next)));
      small = let e = c.max-most.ensures in omega (arith, small, e);
      range = rw c.in-Some.is at c.in_ok-name.ensures.range;
      idle = idle-then _ _ _ c.loop-name.invariant.idle c.in_ok-name.ensures.idle;
      unfailed = no_fault-then _ _ _ c.loop-name.invariant.unfailed c.in_ok-name.ensures.unfailed;
    }

pub returns-clause-greatest : goal.returns-clause-greatest
returns-clause-greatest g c =
    idle-back _ (g.D.Disk.history c.args.disk.now) (g.D.Disk.history c.loop-name.disk) c.loop-name.invariant.idle
    (most_ends c.args.store.0 c.loop-name.last c.loop-name.most (g.D.Disk.history c.loop-name.disk) c.loop-name.invariant.most (rw c.in_default.is at c.in_ok-name.ensures.next))

pub returns-clause-idle : goal.returns-clause-idle
returns-clause-idle g c = idle-then _ _ _ c.loop-name.invariant.idle c.in_ok-name.ensures.idle
