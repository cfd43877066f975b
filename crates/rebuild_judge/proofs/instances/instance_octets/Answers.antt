use Rattle.disk_model.proofs.FaultCountLemmas.{no_fault-then}
use Rattle.disk_model.specs.Disk.{DiskState, IfTold}
use Rattle.rebuild_judge.proofs.InstanceLemmas.{GoesOn, itself, none_more, octets_more, on_begins, on_ends, the_file}
use Rattle.rebuild_judge.proofs.ToldLemmas.{told_three}
use Rattle.std.specs.Option.{option_map}
use Rattle.storage_files.specs.OnDisk.{piece_read}
use Rattle.disk_model.proofs.MomentLemmas.{if_told-all, if_told-both, if_told-map}
use Rattle.std.proofs.Common.{◌≡◌, List, ℕ, length, refl, sym, ap, subst, arith, length-append, ◌+◌, ◌++◌, ◌∙◌, ◌∷◌, [], Some, None}
use Rattle.rebuild_files.proofs.FindingLemmas.{ok_no_error}
use Rattle.std.proofs.lemmas.List.{nil_from_length}
use Rattle.disk_model.proofs.IdleLemmas.{idle-back, idle-begins, idle-on, idle-then}
use Rattle.rebuild_files.specs.declared.error.RebuildError.TheVariants as rebuild
use Rattle.rebuild_judge.specs.Reading.{AreOctetsOn}
use Rattle.rebuild_judge.proofs.instances.instance_octets.Goals as goal

pub loop-reference-init : goal.loop-reference-init
loop-reference-init g c =
    let refs = c.args.refs.now in
    let h = g.D.Disk.history c.args.disk.now in
    record {
      told = subst (λ (xs : List (List ℕ)). IfTold h (GoesOn itself refs refs xs)) (sym c.empty-found.ensures) (if_told-all _ h (on_begins itself refs));
      count = let e = ap length c.empty-found.ensures in omega (arith, e);
      idle = idle-begins _;
      unfailed = refl;
    }

pub returns-clause-octets : goal.returns-clause-octets
returns-clause-octets g c =
    let refs = c.args.refs.now in
    idle-back _ (g.D.Disk.history c.args.disk.now) (g.D.Disk.history c.loop-reference.disk) c.loop-reference.invariant.idle
    (if_told-map _ (AreOctetsOn refs (Some c.loop-reference.found)) (g.D.Disk.history c.loop-reference.disk) (λ disk p. on_ends itself refs c.loop-reference.rest.now c.loop-reference.found disk p (nil_from_length c.loop-reference.rest.now c.in_default.ensures.cases)) c.loop-reference.invariant.told)

pub returns-in_err-size-clause-idle : goal.returns-in_err-size-clause-idle
returns-in_err-size-clause-idle g c = idle-then _ _ _ c.loop-reference.invariant.idle c.length_of.ensures.idle

pub returns-in_default-2-clause-idle : goal.returns-in_default-2-clause-idle
returns-in_default-2-clause-idle g c = idle-then _ _ _ c.loop-reference.invariant.idle c.length_of.ensures.idle

pub returns-in_err-octets-clause-idle : goal.returns-in_err-octets-clause-idle
returns-in_err-octets-clause-idle g c = idle-then _ _ _ c.loop-reference.invariant.idle (idle-then _ _ _ c.length_of.ensures.idle c.read_part.ensures.idle)

pub returns-in_err-push-clause-idle : goal.returns-in_err-push-clause-idle
returns-in_err-push-clause-idle g c = idle-then _ _ _ c.loop-reference.invariant.idle (idle-then _ _ _ c.length_of.ensures.idle c.read_part.ensures.idle)

pub returns-in_default-2-clause-octets : goal.returns-in_default-2-clause-octets
returns-in_default-2-clause-octets g c =
    let refs = c.args.refs.now in
    let first = g.D.Disk.history c.args.disk.now in
    let old = g.D.Disk.history c.loop-reference.disk in
    idle-back (AreOctetsOn refs None) first old c.loop-reference.invariant.idle
    (if_told-both _ _ _ old (λ disk p q. none_more itself refs c.loop-reference.rest.now c.in-Some.others.now c.in-Some.reference.now c.loop-reference.found disk p c.in-Some.ensures.cases.0 q) c.loop-reference.invariant.told (rw c.in_default-2.is at c.in_ok-size.ensures.size))

pub loop-reference-preserved : goal.loop-reference-preserved
loop-reference-preserved g c =
    let refs = c.args.refs.now in
    let old = g.D.Disk.history c.loop-reference.disk in
    let mid = g.D.Disk.history c.length_of.new.disk in
    let new = g.D.Disk.history c.read_part.new.disk in
    let one = c.length_of.ensures.idle in
    let two = c.read_part.ensures.idle in
    let both = idle-then _ _ _ one two in
    let parts = c.in-Some.ensures.cases.0 in
    let size : IfTold old (λ (disk : DiskState). option_map length (the_file disk c.in-Some.reference.now) ≡ Some c.in-Some-2.size) = rw c.in-Some-2.is at c.in_ok-size.ensures.size in
    let part : IfTold old (λ (disk : DiskState). c.in_ok-octets.octets.items ≡ piece_read 0 c.in-Some-2.size (the_file disk c.in-Some.reference.now)) = idle-back _ old mid one c.in_ok-octets.ensures.part in
    record {
      told = subst (λ (xs : List (List ℕ)). IfTold new (GoesOn itself refs c.in-Some.others.now xs)) (sym (c.in_ok-push.ensures.ok ∙ ap (λ (o : List ℕ). c.loop-reference.found ++ o ∷ []) c.of.ensures))
          (idle-on _ old new both (told_three _ _ _ _ old (λ disk p q r. octets_more refs c.loop-reference.rest.now c.in-Some.others.now c.in-Some.reference.now c.loop-reference.found c.in-Some-2.size c.in_ok-octets.octets.items disk p parts q r) c.loop-reference.invariant.told size part));
      count = let a = c.loop-reference.invariant.count in let b = ap length parts in let e : length c.push.new.self ≡ length c.loop-reference.found + 1 = ap length c.in_ok-push.ensures.ok ∙ length-append c.loop-reference.found (c.of.result ∷ []) in omega (arith, a, b, e);
      idle = idle-then _ _ _ c.loop-reference.invariant.idle both;
      unfailed = no_fault-then _ _ _ c.loop-reference.invariant.unfailed (no_fault-then _ _ _ (c.in_ok-size.ensures.unfailed (ok_no_error c.in_ok-size.field-0 rebuild.DiskFault)) (c.in_ok-octets.ensures.unfailed (ok_no_error c.in_ok-octets.octets rebuild.DiskFault)));
    }
