use Rattle.std.proofs.Common.{refl, ap, get_or}
use Rattle.std.proofs.lemmas.List.Elements.{All-nil, All-push}
use Rattle.std.proofs.lemmas.Option.{slice_get-get_or}
use Rattle.disk_model.proofs.FaultCountLemmas.{no_fault-then}
use Rattle.disk_model.proofs.IdleLemmas.{idle-begins, idle-then}
use Rattle.mdbox_base.specs.declared.ids.FileNo.{FileNo}
use Rattle.store_files.specs.Found.{IsFoundEnd, IsUnbarred}
use Rattle.store_files.proofs.EndLemmas.{idle-end, gathered_none, gathered_push, gathered_skip, gathered_all}
use Rattle.store_files.proofs.states.file_states.Goals.{in-Some+in_ok-push, in_default}
use Rattle.store_files.proofs.states.file_states.Goals as goal

pub loop-number-init : goal.loop-number-init
loop-number-init g c =
    rw c.new-states.ensures.items (record { gathered = gathered_none (IsFoundEnd c.args.map.now.meaning (g.D.Disk.history c.args.disk.now)) c.args.numbers.now; marks = All-nil (IsUnbarred c.args.map.now.meaning); idle = idle-begins _; unfailed = refl })

pub returns-in_err-state-clause-idle : goal.returns-in_err-state-clause-idle
returns-in_err-state-clause-idle g c = idle-then _ _ _ c.loop-number.invariant.idle c.in_err-state.ensures.idle

pub returns-in_err-push-clause-idle : goal.returns-in_err-push-clause-idle
returns-in_err-push-clause-idle g c = idle-then _ _ _ c.loop-number.invariant.idle c.in_ok-state.ensures.idle

pub loop-number-preserved : goal.loop-number-preserved
loop-number-preserved g c =
    let numbers = c.args.numbers.now in
    let k = c.loop-number.number-index in
    let n = get_or numbers k 0 in
    let at = slice_get-get_or numbers k 0 c.loop-number-test.true in
    let idle = idle-then _ _ _ c.loop-number.invariant.idle c.in_ok-state.ensures.idle in
    let unfailed = no_fault-then _ _ _ c.loop-number.invariant.unfailed c.in_ok-state.ensures.unfailed in
    let end = idle-end c.args.map.now.meaning (g.D.Disk.history c.args.disk.now) _ n _ c.loop-number.invariant.idle c.in_ok-state.ensures.end in
    elim c.match-branch-2.branch [
      | in-Some+in_ok-push w ↦
          let e = rw w.in-Some.is at end in
          let s = rw w.in-Some.is at c.in_ok-state.ensures.state in
          rw (w.states-is, w.in_ok-push.ensures.items) (record {
            gathered = gathered_push (IsFoundEnd c.args.map.now.meaning (g.D.Disk.history c.args.disk.now)) numbers k n c.loop-number.states.items w.in-Some.state c.requires.rising at c.loop-number.invariant.gathered (ap (λ (f : FileNo). f.0) s.0) e;
            marks = All-push (IsUnbarred c.args.map.now.meaning) c.loop-number.states.items w.in-Some.state c.loop-number.invariant.marks s.1;
            idle = idle;
            unfailed = unfailed;
          })
      | in_default w ↦
          let e = rw w.in_default.is at end in
          rw w.states-is (record {
            gathered = gathered_skip (IsFoundEnd c.args.map.now.meaning (g.D.Disk.history c.args.disk.now)) numbers k n c.loop-number.states.items c.requires.rising at c.loop-number.invariant.gathered e;
            marks = c.loop-number.invariant.marks;
            idle = idle;
            unfailed = unfailed;
          })
    ]

pub returns-clause-ends : goal.returns-clause-ends
returns-clause-ends g c = gathered_all (IsFoundEnd c.args.map.now.meaning (g.D.Disk.history c.args.disk.now)) c.args.numbers.now c.loop-number.number-index c.loop-number.states.items c.loop-number-test.false c.loop-number.invariant.gathered
