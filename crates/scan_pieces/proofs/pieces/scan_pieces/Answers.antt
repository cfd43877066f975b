use Rattle.std.proofs.Common.{ℕ, Ok, Err, subst, ◌∙◌, arith}
use Rattle.std.proofs.lemmas.Result.{err_from_is_err_and}
use Rattle.disk_model.proofs.FaultCountLemmas.{no_fault-then}
use Rattle.disk_model.proofs.IdleLemmas.{idle-on, idle-then}
use Rattle.disk_model.specs.Disk.{IfTold}
use Rattle.scan_pieces.proofs.ScannedLemmas.{IsScannedOn, scanned_begins, scanned_ends, scanned_more, scanned_stops}
use Rattle.scan_pieces.specs.WindowValue.{GivesOn}
use Rattle.scan_pieces.proofs.pieces.scan_pieces.Goals as goal

pub loop-offset-init : goal.loop-offset-init
loop-offset-init g c =
    let new = g.D.Disk.history c.begin.new.disk in
    let header = rw c.in_ok-offset.was at c.in_ok-begin.ensures.header in
    let within = rw c.in_ok-offset.was at c.in_ok-begin.ensures.within in
    record {
      number = c.in_ok-begin.ensures.number;
      within = within;
      window = c.in_ok-begin.ensures.window;
      scanned = scanned_begins new c.args.number.0 c.in_ok-offset.offset c.empty-messages.result c.empty-messages.ensures header;
      idle = c.begin.ensures.idle;
      unfailed = c.in_ok-begin.ensures.unfailed;
    }

pub returns-in_err-message-clause-idle : goal.returns-in_err-message-clause-idle
returns-in_err-message-clause-idle g c = idle-then (g.D.Disk.history c.args.disk.now) (g.D.Disk.history c.loop-offset.disk) (g.D.Disk.history c.message.new.disk) c.loop-offset.invariant.idle c.message.ensures.idle

pub returns-in_err-message-2-clause-gives : goal.returns-in_err-message-2-clause-gives
returns-in_err-message-2-clause-gives g c =
    let new = g.D.Disk.history c.message.new.disk in
    let p = err_from_is_err_and c.from_residual-in_err-message-2.result c.from_residual-in_err-message-2.ensures.1 in
    let number = c.message.ensures.same.0 ∙ c.loop-offset.invariant.number in
    let scanned = idle-on (IsScannedOn c.args.number.0 c.loop-offset.offset c.loop-offset.messages) (g.D.Disk.history c.loop-offset.disk) new c.message.ensures.idle c.loop-offset.invariant.scanned in
    let answer = rw c.in_err-message-2.was at c.in_ok-message.ensures.gives in
    let gives = subst (λ (n : ℕ). IfTold new (GivesOn n c.loop-offset.offset (Err c.in_err-message-2.field-0.0))) number answer in
    let more = c.loop-offset-test.true in
    let size = c.size.ensures in
    let same = c.message.ensures.same.1 in
    rw (p.1, p.2) (scanned_stops new c.message.new.self c.args.number.0 c.loop-offset.offset c.loop-offset.messages c.in_err-message-2.field-0.0 scanned c.message.ensures.window number (omega (arith, more, size, same)) gives)

pub returns-in_err-message-2-clause-idle : goal.returns-in_err-message-2-clause-idle
returns-in_err-message-2-clause-idle g c = idle-then (g.D.Disk.history c.args.disk.now) (g.D.Disk.history c.loop-offset.disk) (g.D.Disk.history c.message.new.disk) c.loop-offset.invariant.idle c.message.ensures.idle

pub returns-in_err-push-clause-idle : goal.returns-in_err-push-clause-idle
returns-in_err-push-clause-idle g c = idle-then (g.D.Disk.history c.args.disk.now) (g.D.Disk.history c.loop-offset.disk) (g.D.Disk.history c.message.new.disk) c.loop-offset.invariant.idle c.message.ensures.idle

pub loop-offset-preserved : goal.loop-offset-preserved
loop-offset-preserved g c =
    let new = g.D.Disk.history c.message.new.disk in
    let number = c.message.ensures.same.0 ∙ c.loop-offset.invariant.number in
    let scanned = idle-on (IsScannedOn c.args.number.0 c.loop-offset.offset c.loop-offset.messages) (g.D.Disk.history c.loop-offset.disk) new c.message.ensures.idle c.loop-offset.invariant.scanned in
    let answer = rw c.in_ok-message-2.was at c.in_ok-message.ensures.gives in
    let within = rw c.in_ok-message-2.was at c.in_ok-message.ensures.within in
    let gives = subst (λ (n : ℕ). IfTold new (GivesOn n c.loop-offset.offset (Ok c.in_ok-message-2.message))) number answer in
    record {
      number = number;
      within = within.1;
      window = c.message.ensures.window;
      scanned = scanned_more new c.args.number.0 c.loop-offset.offset c.in_ok-message-2.message c.loop-offset.messages c.push.new.self scanned gives c.in_ok-push.ensures.ok;
      idle = idle-then (g.D.Disk.history c.args.disk.now) (g.D.Disk.history c.loop-offset.disk) new c.loop-offset.invariant.idle c.message.ensures.idle;
      unfailed = no_fault-then (g.D.Disk.faults c.args.disk.now) (g.D.Disk.faults c.loop-offset.disk) (g.D.Disk.faults c.message.new.disk) c.loop-offset.invariant.unfailed c.in_ok-message.ensures.unfailed;
    }

pub returns-clause-gives : goal.returns-clause-gives
returns-clause-gives g c =
    let last = c.loop-offset-test.false in
    let size = c.size.ensures in
    scanned_ends (g.D.Disk.history c.loop-offset.disk) c.loop-offset.window c.args.number.0 c.loop-offset.offset c.loop-offset.messages c.loop-offset.invariant.scanned c.loop-offset.invariant.window c.loop-offset.invariant.number (omega (arith, last, size))
