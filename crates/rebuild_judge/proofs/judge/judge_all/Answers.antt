use Rattle.std.proofs.Common.{refl}
use Rattle.std.proofs.lemmas.Option.{slice_get-get_or}
use Rattle.disk_model.proofs.FaultCountLemmas.{no_fault-then}
use Rattle.disk_model.proofs.IdleLemmas.{idle-back, idle-begins, idle-on, idle-then}
use Rattle.rebuild_files.proofs.FindingLemmas.{ok_no_error}
use Rattle.rebuild_files.specs.declared.error.RebuildError.TheVariants as rebuild
use Rattle.rebuild_judge.proofs.EndLemmas.{judging_begins, judging_ends, judging_goes_on}
use Rattle.rebuild_judge.specs.Judges.{IsJudgedOf}
use Rattle.rebuild_judge.proofs.judge.judge_all.Goals as goal

pub loop-found-init : goal.loop-found-init
loop-found-init g c = record {
  judged = judging_begins (g.D.Disk.history c.args.disk.now) c.args.store.0 c.args.places.now c.in_ok-keeping.keeping c.empty-skipped.result c.in_ok-keeping.ensures c.empty-skipped.ensures;
  idle = idle-begins _;
  unfailed = refl;
}

pub returns-in_err-file-clause-idle : goal.returns-in_err-file-clause-idle
returns-in_err-file-clause-idle g c = idle-then _ _ _ c.loop-found.invariant.idle c.judge_found.ensures.idle

pub loop-found-preserved : goal.loop-found-preserved
loop-found-preserved g c =
    let old = g.D.Disk.history c.loop-found.disk in
    let new = g.D.Disk.history c.judge_found.new.disk in
    let idle = c.judge_found.ensures.idle in
    record {
      judged = idle-on _ old new idle (judging_goes_on old c.args.store.0 c.args.places.now c.loop-found.found-index _ c.loop-found.keeping c.judge_found.new.keeping c.loop-found.skipped c.judge_found.new.skipped c.loop-found.file c.in_ok-file.file
          (slice_get-get_or c.args.places.now c.loop-found.found-index _ c.loop-found-test.true) c.loop-found.invariant.judged c.in_ok-file.ensures.next);
      idle = idle-then _ _ _ c.loop-found.invariant.idle idle;
      unfailed = no_fault-then _ _ _ c.loop-found.invariant.unfailed (c.in_ok-file.ensures.unfailed (ok_no_error c.in_ok-file.file rebuild.DiskFault));
    }

pub returns-clause-judged : goal.returns-clause-judged
returns-clause-judged g c =
    let old = g.D.Disk.history c.args.disk.now in
    let new = g.D.Disk.history c.loop-found.disk in
    idle-back (IsJudgedOf c.args.store.0 _) old new c.loop-found.invariant.idle
    (judging_ends new c.args.store.0 c.args.places.now c.loop-found.found-index c.loop-found.keeping c.loop-found.skipped c.loop-found.file _ c.loop-found-test.false refl refl refl (idle-on _ old new c.loop-found.invariant.idle c.requires.found) c.loop-found.invariant.judged)

pub returns-in_err-keeping-clause-idle : goal.returns-in_err-keeping-clause-idle
returns-in_err-keeping-clause-idle g c = idle-begins _
