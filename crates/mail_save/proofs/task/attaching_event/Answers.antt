use Rattle.mail_save.proofs.Common.{◌≡◌, List, Err, inl, inr, ap, sym, subst, refl, ◌∙◌, InstRow, next_attachment, due_at, MovesHolds, holds_of, save_amounts, LetsGo, Saves}
use Rattle.mdbox_base.specs.declared.progress.Did.TheVariants as did
use Rattle.mdbox_base.specs.declared.progress.Progress.TheVariants as progress
use Rattle.mdbox_base.specs.declared.replies.Reply.TheVariants as reply
use Rattle.mail_save.proofs.AttachEventLemmas.{HasAttached, attached_last, attached_more, unattached_change}
use Rattle.mail_save.proofs.AttachLemmas.{next_or_none}
use Rattle.mail_save.proofs.FaultLemmas.{refused_faults}
use Rattle.mail_save.proofs.HeldLemmas.{nothing_moves}
use Rattle.mail_save.proofs.LettingLemmas.{keeps_let_go, moves_then, saves_let_go}
use Rattle.mail_save.proofs.OtherLemmas.{keeps_same}
use Rattle.mail_save.proofs.SaveEventLemmas.{done_goes_on, is_false, ok_apart, one_error, refused_stops}
use Rattle.mail_save.proofs.StoringLemmas.{spared_kept}
use Rattle.mail_save.specs.declared.task.SaveStage.TheVariants as stage
use Rattle.mail_save.proofs.task.attaching_event.Goals as goal

pub returns-in-Ok : goal.returns-in-Ok
returns-in-Ok g c = λ size.
    let o = c.in-Ok.ensures in
    let old = c.args.store.now in
    let new = c.attach_next.new.store in
    let before = g.D.Disk.history old.disk in
    let after = g.D.Disk.history new.disk in
    let began = g.D.Disk.faults old.disk in
    let ended = g.D.Disk.faults new.disk in
    let has : HasAttached c.args.attaching c.attach_next.new.attaching old new before after began ended = record {
      next = o.next;
      fewer = o.fewer;
      room = o.room;
      found = o.attaching;
      moves = o.moves;
      held = o.held;
      keeps = o.keeps;
      moments = o.any_moment;
      stays = o.mail_stays;
      settled = o.settled;
      stored = o.stored;
      written = o.written;
      runs = is_false new.stopped (λ e. ok_apart _ _ (o.stopped.1 e));
      faults = o.unfailed (λ e. ok_apart _ _ e) (λ e. ok_apart _ _ e);
      grows = o.grows;
      idle = λ e. ap (λ v. g.D.Disk.history v.disk) e;
    } in
    subst (λ l. Saves (stage.Attaching c.args.parts c.args.attaching) l.next c.args.name.now c.args.time size l.answer l.did old new before after began ended) (sym c.goes_on.ensures) (elim (next_or_none (next_attachment c.attach_next.new.attaching)) [
      | inl some ↦
          subst (λ s. Saves (stage.Attaching c.args.parts c.args.attaching) s c.args.name.now c.args.time size progress.More did.Quiet old new before after began ended) (sym (c.behind_attachment.ensures.more some))
          (attached_more c.args.name.now c.args.time size c.args.parts c.args.attaching c.attach_next.new.attaching old new before after began ended c.requires.left.0 has some)
      | inr none ↦
          let named = c.behind_attachment.ensures.whole none in
          subst (λ s. Saves (stage.Attaching c.args.parts c.args.attaching) s c.args.name.now c.args.time size progress.More did.Quiet old new before after began ended) (sym named.1)
          (attached_last c.args.name.now c.args.time size c.args.parts named.0 c.args.attaching c.attach_next.new.attaching old new before after began ended c.requires.left.0 has none named.2)
    ])

pub returns-in-Err : goal.returns-in-Err
returns-in-Err g c = λ size.
    let o = c.in-Err.ensures in
    let old = c.args.store.now in
    let left = c.attach_next.new.store in
    let new = c.let_go_all.new.store in
    let found : c.found.result.now ≡ c.args.attaching.found = c.found.ensures ∙ ap (λ v. v.found) o.err in
    let same : LetsGo c.args.attaching.found left new = subst (λ (rows : List InstRow). LetsGo rows left new) found c.let_go_all.ensures.same in
    let change = unattached_change c.args.attaching c.in-Err.why old left o.none in
    subst (λ l. Saves (stage.Attaching c.args.parts c.args.attaching) l.next c.args.name.now c.args.time size l.answer l.did old new (g.D.Disk.history old.disk) (g.D.Disk.history new.disk) (g.D.Disk.faults old.disk) (g.D.Disk.faults new.disk)) (sym c.ends.ensures)
    (saves_let_go g.D.Disk.history g.D.Disk.faults (stage.Attaching c.args.parts c.args.attaching) stage.Ended c.args.attaching.found c.args.name.now c.args.time size (progress.Done (reply.Refused c.in-Err.why)) _ old left new same (record {
      replies = o.refused;
      did_is = c.did_fail.ensures;
      moments = o.any_moment;
      stays = o.mail_stays;
      rests = o.settled;
      mail = o.unwritten refl;
      ready = λ e. absurd (done_goes_on _ e);
      left_is = λ e. absurd (done_goes_on _ e);
      fewer = λ e. absurd (done_goes_on _ e);
      effects = (left, o.none, same);
      spared = λ ran. spared_kept old left _ _ (ap (λ v. v.map) change) (o.stored ran);
      others = keeps_same (stage.Attaching c.args.parts c.args.attaching) old left (ap (λ v. v.map) change) (ap (λ v. v.files.files) change);
      moves = λ ran. nothing_moves (save_amounts (stage.Attaching c.args.parts c.args.attaching)) (save_amounts stage.Ended) old left (λ uid. refl) (λ uid. ap (λ v. due_at uid v) change);
      holds = moves_then (holds_of c.args.attaching.found) (holds_of c.args.attaching.found) (λ id. 0) old left new (subst (λ v. MovesHolds (holds_of c.args.attaching.found) (holds_of v.found) old left) o.err o.moves) (subst (λ (rows : List InstRow). MovesHolds (holds_of rows) (λ id. 0) left new) found c.let_go_all.ensures.moves);
      instances = λ ran. keeps_let_go g.D.Disk.history c.args.attaching.found old left new same c.let_go_all.ensures.keeps (o.keeps (sym (ap (λ v. v.stopped) same) ∙ ran));
      stopped = refused_stops c.in-Err.why left.stopped (record { 0 = λ e. o.stopped.0 (ap Err e); 1 = λ e. one_error _ _ (o.stopped.1 e) });
      faults = refused_faults c.in-Err.why _ _ (λ e. o.read_fault (ap Err e)) (λ e. o.fault (ap Err e)) (λ a b. o.unfailed (λ e. a (one_error _ _ e)) (λ e. b (one_error _ _ e)));
      grows = o.grows;
    }))
