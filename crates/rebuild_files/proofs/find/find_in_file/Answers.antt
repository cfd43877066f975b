use Rattle.std.proofs.Common.{ℕ, Ok, Err, subst, ◌∙◌, arith}
use Rattle.disk_model.proofs.FaultCountLemmas.{no_fault-then}
use Rattle.disk_model.proofs.IdleLemmas.{idle-back, idle-on, idle-then}
use Rattle.disk_model.specs.Disk.{IfTold}
use Rattle.model_storage.specs.Places.{refusal_of}
use Rattle.rebuild_files.proofs.FindingLemmas.{IsFoundToOn, file_begins, file_goes_on, file_ends, file_stops, header_stops, on_ok}
use Rattle.rebuild_files.specs.Places.{AddsFindingsOn, AddsUnread}
use Rattle.scan_pieces.specs.WindowValue.{GivesOn}
use Rattle.rebuild_files.proofs.find.find_in_file.Goals as goal

pub loop-offset-init : goal.loop-offset-init
loop-offset-init g c = record {
  number = c.in_ok-offset.ensures.number;
  within = rw c.in-Ok.is at c.in_ok-offset.ensures.within;
  window = c.in_ok-offset.ensures.window;
  added = file_begins (g.D.Disk.history c.begin.new.disk) c.args.number.0 c.in-Ok.offset c.args.found.now (rw c.in-Ok.is at c.in_ok-offset.ensures.header);
  idle = c.begin.ensures.idle;
  unfailed = c.in_ok-offset.ensures.unfailed;
}

pub returns-in-Err-clause-added : goal.returns-in-Err-clause-added
returns-in-Err-clause-added g c =
    let old = g.D.Disk.history c.args.disk.now in
    let new = g.D.Disk.history c.begin.new.disk in
    on_ok c.add_unread.result (AddsUnread c.args.number.0 c.in-Err.error c.args.found.now c.add_unread.new.found) (IfTold old (AddsFindingsOn c.args.number.0 c.args.found.now c.add_unread.new.found))
    (λ a. idle-back (AddsFindingsOn c.args.number.0 c.args.found.now c.add_unread.new.found) old new c.begin.ensures.idle
    (header_stops new c.args.number.0 c.in-Err.error c.args.found.now c.add_unread.new.found (rw c.in-Err.is at c.in_ok-offset.ensures.header) a))
    c.add_unread.ensures.added

pub returns-in_err-place-clause-idle : goal.returns-in_err-place-clause-idle
returns-in_err-place-clause-idle g c = idle-then _ _ _ c.loop-offset.invariant.idle c.message.ensures.idle

pub returns-in_err-push-clause-idle : goal.returns-in_err-push-clause-idle
returns-in_err-push-clause-idle g c = idle-then _ _ _ c.loop-offset.invariant.idle c.message.ensures.idle

pub loop-offset-preserved : goal.loop-offset-preserved
loop-offset-preserved g c =
    let new = g.D.Disk.history c.message.new.disk in
    let number = c.message.ensures.same.0 ∙ c.loop-offset.invariant.number in
    let within = rw c.in-Ok-2.is at c.in_ok-place.ensures.within in
    let added = idle-on (IsFoundToOn c.args.number.0 c.loop-offset.offset c.args.found.now c.loop-offset.found) (g.D.Disk.history c.loop-offset.disk) new c.message.ensures.idle c.loop-offset.invariant.added in
    let answer = rw c.in-Ok-2.is at c.in_ok-place.ensures.gives in
    let gives = subst (λ (n : ℕ). IfTold new (GivesOn n c.loop-offset.offset (Ok c.in-Ok-2.place))) number answer in
    record {
      number = number;
      within = within.1;
      window = c.message.ensures.window;
      added = file_goes_on new c.args.number.0 c.loop-offset.offset c.in-Ok-2.place c.args.found.now c.loop-offset.found c.push.new.self added gives c.in_ok-push.ensures.ok;
      idle = idle-then _ _ _ c.loop-offset.invariant.idle c.message.ensures.idle;
      unfailed = no_fault-then _ _ _ c.loop-offset.invariant.unfailed c.in_ok-place.ensures.unfailed;
    }

pub returns-in-Err-2-clause-added : goal.returns-in-Err-2-clause-added
returns-in-Err-2-clause-added g c =
    let old = g.D.Disk.history c.args.disk.now in
    let new = g.D.Disk.history c.message.new.disk in
    let number = c.message.ensures.same.0 ∙ c.loop-offset.invariant.number in
    let added = idle-on (IsFoundToOn c.args.number.0 c.loop-offset.offset c.args.found.now c.loop-offset.found) (g.D.Disk.history c.loop-offset.disk) new c.message.ensures.idle c.loop-offset.invariant.added in
    let answer = rw c.in-Err-2.is at c.in_ok-place.ensures.gives in
    let gives = subst (λ (n : ℕ). IfTold new (GivesOn n c.loop-offset.offset (Err c.in-Err-2.error))) number answer in
    let more = c.loop-offset-test.true in
    let size = c.size.ensures in
    let same = c.message.ensures.same.1 in
    on_ok c.add_stop.result (AddsUnread c.args.number.0 (refusal_of c.in-Err-2.error) c.loop-offset.found c.add_stop.new.found) (IfTold old (AddsFindingsOn c.args.number.0 c.args.found.now c.add_stop.new.found))
    (λ a. idle-back (AddsFindingsOn c.args.number.0 c.args.found.now c.add_stop.new.found) old new (idle-then _ _ _ c.loop-offset.invariant.idle c.message.ensures.idle)
    (file_stops new c.message.new.self c.args.number.0 c.loop-offset.offset c.in-Err-2.error c.args.found.now c.loop-offset.found c.add_stop.new.found added c.message.ensures.window number (omega (arith, more, size, same)) gives a))
    c.add_stop.ensures.added

pub returns-in-Err-2-clause-idle : goal.returns-in-Err-2-clause-idle
returns-in-Err-2-clause-idle g c = idle-then _ _ _ c.loop-offset.invariant.idle c.message.ensures.idle

pub returns-clause-added : goal.returns-clause-added
returns-clause-added g c =
    let last = c.loop-offset-test.false in
    let size = c.size.ensures in
    idle-back (AddsFindingsOn c.args.number.0 c.args.found.now c.loop-offset.found) (g.D.Disk.history c.args.disk.now) (g.D.Disk.history c.loop-offset.disk) c.loop-offset.invariant.idle
    (file_ends (g.D.Disk.history c.loop-offset.disk) c.loop-offset.window c.args.number.0 c.loop-offset.offset c.args.found.now c.loop-offset.found c.loop-offset.invariant.added c.loop-offset.invariant.window c.loop-offset.invariant.number (omega (arith, last, size)))
