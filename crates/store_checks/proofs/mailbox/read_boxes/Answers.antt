use Rattle.std.proofs.Common.{refl, ◌++◌, ◌∷◌, [], List, subst, take_all, arith}
use Rattle.std.proofs.lemmas.Result.{err_from_is_err_and}
use Rattle.disk_model.proofs.IdleLemmas.{idle-begins, idle-then}
use Rattle.model_meaning.specs.MapMeaning.{MapBox}
use Rattle.store_checks.specs.Boxes.{AreRead}
use Rattle.disk_model.proofs.FaultCountLemmas.{no_fault-then}
use Rattle.store_checks.proofs.MailboxLemmas.{none_read, one_read, boxes_cause}
use Rattle.store_checks.proofs.mailbox.read_boxes.Goals as goal

pub loop-place-init : goal.loop-place-init
loop-place-init g c = record { idle = idle-begins _; unfailed = refl; read = ([], rw c.empty-boxes.ensures (none_read c.args.id.0 c.args.map.now.meaning _)) }

pub returns-in_err-read_box-clause-refused : goal.returns-in_err-read_box-clause-refused
returns-in_err-read_box-clause-refused g c =
    let p = err_from_is_err_and c.from_residual.result c.from_residual.ensures.1 in
    rw (p.1, p.2) (boxes_cause c.args.id.0 c.args.map.now.meaning c.loop-place.place c.box_at.result c.unwrap-at.result c.loop-place.boxes c.loop-place.invariant.read.0 _ _ c.in_err-read_box.field-0.0 c.box_at.ensures c.unwrap-at.ensures c.loop-place.invariant.idle c.loop-place.invariant.read.1 c.in_err-read_box.ensures.refused)

pub returns-in_err-read_box-clause-idle : goal.returns-in_err-read_box-clause-idle
returns-in_err-read_box-clause-idle g c = idle-then _ _ _ c.loop-place.invariant.idle c.read_box.ensures.idle

pub returns-in_err-push-clause-idle : goal.returns-in_err-push-clause-idle
returns-in_err-push-clause-idle g c = idle-then _ _ _ c.loop-place.invariant.idle c.in_ok-read_box.ensures.idle

pub loop-place-preserved : goal.loop-place-preserved
loop-place-preserved g c = record {
  idle = idle-then _ _ _ c.loop-place.invariant.idle c.in_ok-read_box.ensures.idle;
  unfailed = no_fault-then _ _ _ c.loop-place.invariant.unfailed (c.in_ok-read_box.ensures.unfailed (λ e. cc e));
  read = (
    c.loop-place.invariant.read.0 ++ c.in_ok-read_box.ensures.read.0 ∷ [],
    one_read c.args.id.0 c.args.map.now.meaning c.loop-place.place c.box_at.result c.unwrap-at.result c.loop-place.boxes c.push.new.self c.loop-place.invariant.read.0 c.in_ok-read_box.field-0 c.in_ok-read_box.ensures.read.0 _ _ _
        c.requires c.box_at.ensures c.unwrap-at.ensures c.loop-place.invariant.idle c.in_ok-read_box.ensures.idle c.loop-place.invariant.read.1 c.in_ok-read_box.ensures.read.1 c.in_ok-push.ensures.ok,
  );
}

pub returns-clause-read : goal.returns-clause-read
returns-clause-read g c = (
  c.loop-place.invariant.read.0,
  subst (λ (ms : List MapBox). AreRead c.args.id.0 c.args.map.now.meaning ms c.loop-place.boxes c.loop-place.invariant.read.0 (g.D.Disk.history c.args.disk.now) (g.D.Disk.history c.loop-place.disk)) (take_all c.loop-place.place c.args.map.now.meaning.boxes (omega (arith, c.boxes-place-end.ensures))) c.loop-place.invariant.read.1,
)
