use Rattle.std.proofs.Common.{rules, Err, ap, arith}
use Rattle.disk_model.proofs.IdleLemmas.{idle-call, idle-then}
use Rattle.disk_model.proofs.FaultCountLemmas.{no_fault-then}
use Rattle.sis_store.proofs.CompareLemmas.{told-begun, told-other_length, told-no_file, told-other_piece, told-more, told-all}
use Rattle.sis_store.proofs.reading.reads_as.Goals as goal

pub returns-then-length-octets-clause-same : goal.returns-then-length-octets-clause-same
returns-then-length-octets-clause-same g c = told-other_length c.args.name _ c.args.octets.now c.in-Ok.length c.in-Ok.ensures.length c.if-length-octets.true

pub returns-then-length-octets-clause-idle : goal.returns-then-length-octets-clause-idle
returns-then-length-octets-clause-idle g c = idle-call _ _ c.length.ensures.state

pub returns-in-Err-Absent-clause-same : goal.returns-in-Err-Absent-clause-same
returns-in-Err-Absent-clause-same g c = told-no_file c.args.name _ c.args.octets.now (c.in-Err-Absent.ensures.absent (ap Err c.in-Err-Absent.field-0-is))

pub returns-in-Err-Absent-clause-idle : goal.returns-in-Err-Absent-clause-idle
returns-in-Err-Absent-clause-idle g c = idle-call _ _ c.length.ensures.state

pub returns-in-Err-Failed-clause-idle : goal.returns-in-Err-Failed-clause-idle
returns-in-Err-Failed-clause-idle g c = idle-call _ _ c.length.ensures.state

pub loop-at-init : goal.loop-at-init
loop-at-init g c = record {
  within = omega arith;
  same = told-begun c.args.name _ c.args.octets.now c.in-Ok.length c.in-Ok.ensures.length c.if-length-octets.false;
  idle = idle-call _ _ c.length.ensures.state;
  unfailed = search rules;
}

pub returns-in_err-reads_piece-clause-idle : goal.returns-in_err-reads_piece-clause-idle
returns-in_err-reads_piece-clause-idle g c = idle-then _ _ _ c.loop-at.invariant.idle c.in_err-reads_piece.ensures.idle

pub returns-then-not-branch-clause-idle : goal.returns-then-not-branch-clause-idle
returns-then-not-branch-clause-idle g c = idle-then _ _ _ c.loop-at.invariant.idle c.in_ok-reads_piece.ensures.idle

pub returns-then-not-branch-clause-same : goal.returns-then-not-branch-clause-same
returns-then-not-branch-clause-same g c =
    let end = c.min-end.ensures in
    let test = c.loop-at-test.true in
    told-other_piece c.args.name _ _ c.args.octets.now c.loop-at.at c.min-end.result _ c.loop-at.invariant.idle (omega (arith, end, test)) (omega (arith, end)) c.if-not-branch.true c.in_ok-reads_piece.ensures.same

pub loop-at-preserved : goal.loop-at-preserved
loop-at-preserved g c =
    let end = c.min-end.ensures in
    let test = c.loop-at-test.true in
    record {
      within = omega (arith, end);
      same = told-more c.args.name _ _ c.args.octets.now c.loop-at.at c.min-end.result _ c.loop-at.invariant.idle (omega (arith, end, test)) (omega (arith, end)) c.if-not-branch.false c.loop-at.invariant.same c.in_ok-reads_piece.ensures.same;
      idle = idle-then _ _ _ c.loop-at.invariant.idle c.in_ok-reads_piece.ensures.idle;
      unfailed = no_fault-then _ _ _ c.loop-at.invariant.unfailed c.in_ok-reads_piece.ensures.unfailed;
    }

pub returns-clause-same : goal.returns-clause-same
returns-clause-same g c = told-all c.args.name _ c.args.octets.now c.loop-at.at c.loop-at-test.false c.loop-at.invariant.same
