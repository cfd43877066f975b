use Rattle.std.proofs.Common.{◌≡◌, ℕ, List, length, refl, sym, ap, subst, arith, length-append, ◌+◌, ◌∙◌, ◌∷◌, [], None, Some}
use Rattle.std.proofs.lemmas.List.{nil_from_length}
use Rattle.std.specs.Option.{option_map}
use Rattle.disk_model.proofs.FaultCountLemmas.{no_fault-then}
use Rattle.disk_model.proofs.IdleLemmas.{idle-back, idle-begins, idle-on, idle-then}
use Rattle.disk_model.proofs.MomentLemmas.{if_told-all, if_told-both, if_told-map}
use Rattle.disk_model.specs.Disk.{DiskState, IfTold}
use Rattle.rebuild_files.proofs.FindingLemmas.{ok_no_error}
use Rattle.rebuild_files.specs.declared.error.RebuildError.TheVariants as rebuild
use Rattle.rebuild_judge.proofs.InstanceLemmas.{GoesOn, none_more, on_begins, on_ends, sizes_more, the_file}
use Rattle.rebuild_judge.specs.Reading.{AreSizesOn}
use Rattle.rebuild_judge.proofs.instances.instance_sizes.Goals as goal

pub loop-reference-init : goal.loop-reference-init
loop-reference-init g c =
    let refs = c.args.refs.now in
    let h = g.D.Disk.history c.args.disk.now in
    record {
      told = subst (λ (xs : List ℕ). IfTold h (GoesOn length refs refs xs)) (sym c.empty-sizes.ensures) (if_told-all _ h (on_begins length refs));
      count = let e = ap length c.empty-sizes.ensures in omega (arith, e);
      idle = idle-begins _;
      unfailed = refl;
    }

pub loop-reference-preserved : goal.loop-reference-preserved
loop-reference-preserved g c =
    let refs = c.args.refs.now in
    let old = g.D.Disk.history c.loop-reference.disk in
    let new = g.D.Disk.history c.length_of.new.disk in
    let idle = c.in_ok-size.ensures.idle in
    let parts = c.in-Some.ensures.cases.0 in
    let size : IfTold new (λ (disk : DiskState). option_map length (the_file disk c.in-Some.reference.now) ≡ Some c.in-Some-2.size) = idle-on _ old new idle (rw c.in-Some-2.is at c.in_ok-size.ensures.size) in
    record {
      told = subst (λ (xs : List ℕ). IfTold new (GoesOn length refs c.in-Some.others.now xs)) (sym c.in_ok-push.ensures.ok)
          (if_told-both _ _ _ new (λ disk p q. sizes_more refs c.loop-reference.rest.now c.in-Some.others.now c.in-Some.reference.now c.loop-reference.sizes c.in-Some-2.size disk p parts q) (idle-on _ old new idle c.loop-reference.invariant.told) size);
      count = let a = c.loop-reference.invariant.count in let b = ap length parts in let e : length c.push.new.self ≡ length c.loop-reference.sizes + 1 = ap length c.in_ok-push.ensures.ok ∙ length-append c.loop-reference.sizes (c.in-Some-2.size ∷ []) in omega (arith, a, b, e);
      idle = idle-then _ _ _ c.loop-reference.invariant.idle idle;
      unfailed = no_fault-then _ _ _ c.loop-reference.invariant.unfailed (c.in_ok-size.ensures.unfailed (ok_no_error c.in_ok-size.field-0 rebuild.DiskFault));
    }

pub returns-clause-sizes : goal.returns-clause-sizes
returns-clause-sizes g c =
    let refs = c.args.refs.now in
    idle-back _ (g.D.Disk.history c.args.disk.now) (g.D.Disk.history c.loop-reference.disk) c.loop-reference.invariant.idle
    (if_told-map _ (AreSizesOn refs (Some c.loop-reference.sizes)) (g.D.Disk.history c.loop-reference.disk) (λ disk p. on_ends length refs c.loop-reference.rest.now c.loop-reference.sizes disk p (nil_from_length c.loop-reference.rest.now c.in_default.ensures.cases)) c.loop-reference.invariant.told)

pub returns-in_err-size-clause-idle : goal.returns-in_err-size-clause-idle
returns-in_err-size-clause-idle g c = idle-then _ _ _ c.loop-reference.invariant.idle c.length_of.ensures.idle

pub returns-in_default-2-clause-idle : goal.returns-in_default-2-clause-idle
returns-in_default-2-clause-idle g c = idle-then _ _ _ c.loop-reference.invariant.idle c.length_of.ensures.idle

pub returns-in_err-push-clause-idle : goal.returns-in_err-push-clause-idle
returns-in_err-push-clause-idle g c = idle-then _ _ _ c.loop-reference.invariant.idle c.length_of.ensures.idle

pub returns-in_default-2-clause-sizes : goal.returns-in_default-2-clause-sizes
returns-in_default-2-clause-sizes g c =
    let refs = c.args.refs.now in
    let first = g.D.Disk.history c.args.disk.now in
    let old = g.D.Disk.history c.loop-reference.disk in
    idle-back (AreSizesOn refs None) first old c.loop-reference.invariant.idle
    (if_told-both _ _ _ old (λ disk p q. none_more length refs c.loop-reference.rest.now c.in-Some.others.now c.in-Some.reference.now c.loop-reference.sizes disk p c.in-Some.ensures.cases.0 q) c.loop-reference.invariant.told (rw c.in_default-2.is at c.in_ok-size.ensures.size))
