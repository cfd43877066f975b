use Rattle.mail_save.proofs.Common.{ap, sym, subst, refl, arith, ◌∙◌, ◌≡◌, ◌≤◌, Err, inl, inr, due_at, Saves, save_amounts}
use Rattle.mdbox_base.specs.declared.replies.Refusal.TheVariants as refusal
use Rattle.mail_save.specs.declared.task.SaveStage.TheVariants as stage
use Rattle.mail_save.proofs.PlaceLemmas.{unchanged_settled}
use Rattle.mail_save.proofs.SaveEventLemmas.{add_refused, done_goes_on, faults_by, is_false, more_runs, ok_apart, saved_runs, refused_stops, unfallen}
use Rattle.mail_save.proofs.StoringLemmas.{left_unadded, spared_kept}
use Rattle.mail_save.proofs.FaultLemmas.{add_unread}
use Rattle.mail_save.proofs.HeldInstanceLemmas.{same_keeps}
use Rattle.mail_save.proofs.HeldLemmas.{nothing_moves, one_less}
use Rattle.mail_save.proofs.LettingLemmas.{moves_same}
use Rattle.mail_save.proofs.OtherLemmas.{keeps_same}
use Rattle.mail_save.proofs.MailFileLemmas.{mail_unchanged}
use Rattle.mail_save.proofs.task.adding.Goals as goal

pub returns-in-Ok : goal.returns-in-Ok
returns-in-Ok g c = λ size.
    let o = c.in-Ok.ensures in
    let runs = is_false c.add_message.new.store.stopped (λ e. ok_apart _ _ (o.stopped.1 e)) in
    record {
      replies = inl (o.uid.0, c.in-Ok.uid, o.uid.1, refl);
      did_is = refl;
      moments = o.any_moment;
      stays = o.mail_stays;
      rests = λ ran. o.settled;
      ready = λ e. absurd (done_goes_on _ e);
      left = λ e. absurd (done_goes_on _ e);
      fewer = λ e. absurd (done_goes_on _ e);
      effects = (refl, record { number = o.uid.0; room = o.uid.1; taken = o.uid.2; due = o.due; same = o.same });
      mail = λ ran. o.mail;
      idle = λ e. ap (λ v. g.D.Disk.history v.disk) e;
      spared = λ ran. spared_kept c.args.store.now c.add_message.new.store _ _ (ap (λ v. v.map) o.same) (o.stored ran);
      others = keeps_same (stage.Adding c.args.added c.args.room) c.args.store.now c.add_message.new.store (ap (λ v. v.map) o.same) (ap (λ v. v.files.files) o.same);
      moves = λ ran. one_less c.args.added.map_uid (save_amounts (stage.Adding c.args.added c.args.room)) (save_amounts stage.Ended) c.args.store.now c.add_message.new.store (λ uid. refl) (λ uid. refl) c.requires.left.1 (λ uid. o.due o.uid.1.mailbox uid o.uid.1.named);
      stopped = saved_runs _ _ c.add_message.new.store.stopped runs;
      holds = moves_same (λ id. 0) c.args.store.now c.add_message.new.store (ap (λ v. v.instances) o.same);
      instances = λ ran. same_keeps c.args.store.now c.add_message.new.store _ _ (ap (λ v. v.instances) o.same) (ap (λ v. v.map) o.same) o.mail;
      faults = o.unfailed runs;
      grows = o.grows;
    }

pub returns-then-stopped : goal.returns-then-stopped
returns-then-stopped g c = λ size.
    let o = c.in-Err.ensures in
    let fell = sym c.stopped.ensures ∙ c.if-stopped.true in
    subst (λ l. Saves (stage.Adding c.args.added c.args.room) l.next c.args.name.now c.args.time size l.answer l.did c.args.store.now c.add_message.new.store (g.D.Disk.history c.args.store.now.disk) (g.D.Disk.history c.add_message.new.store.disk) (g.D.Disk.faults c.args.store.now.disk) (g.D.Disk.faults c.add_message.new.store.disk)) (sym c.ends.ensures) (record {
      replies = (let room = o.fell (o.stopped.1 fell) in inr (inl (room.0, room.1, room.2, refl)));
      did_is = refl;
      moments = o.any_moment;
      stays = o.mail_stays;
      rests = λ ran. absurd (unfallen c.add_message.new.store.stopped fell ran);
      ready = λ e. absurd (done_goes_on _ e);
      left = λ e. absurd (done_goes_on _ e);
      fewer = λ e. absurd (done_goes_on _ e);
      effects = left_unadded c.args.store.now c.add_message.new.store o.same (o.untaken refl).0 (o.untaken refl).1;
      mail = λ ran. absurd (unfallen c.add_message.new.store.stopped fell ran);
      idle = λ e. ap (λ v. g.D.Disk.history v.disk) e;
      spared = λ ran. absurd (unfallen c.add_message.new.store.stopped fell ran);
      others = keeps_same (stage.Adding c.args.added c.args.room) c.args.store.now c.add_message.new.store (ap (λ v. v.map) o.same) (ap (λ v. v.files.files) o.same);
      moves = λ ran. absurd (unfallen c.add_message.new.store.stopped fell ran);
      stopped = refused_stops refusal.Stopped c.add_message.new.store.stopped (record { 0 = λ e. fell; 1 = λ e. refl });
      holds = moves_same (λ id. 0) c.args.store.now c.add_message.new.store (ap (λ v. v.instances) o.same);
      instances = λ ran. absurd (unfallen c.add_message.new.store.stopped fell ran);
      faults = faults_by _ _ _ _ (λ e. o.stopped.1 fell) o.fault;
      grows = o.grows;
    })

pub returns-else-stopped : goal.returns-else-stopped
returns-else-stopped g c = λ size.
    let o = c.in-Err.ensures in
    let runs = sym c.stopped.ensures ∙ c.if-stopped.false in
    let calm : c.in-Err.why ≡ refusal.Stopped → ⊥ = λ e. unfallen c.add_message.new.store.stopped (o.stopped.0 (ap Err e)) runs in
    let same = o.unadded refl runs in
    record {
      replies = inr (inr (c.in-Err.why, add_refused _ c.in-Err.why o.refused calm, refl, refl));
      did_is = c.did_refuse.ensures;
      moments = o.any_moment;
      stays = o.mail_stays;
      rests = λ ran lists s. unchanged_settled g.D.Disk.history c.args.store.now.disk c.add_message.new.store.disk (ap (λ v. v.disk) same) lists s;
      ready = λ e octets h. h.0;
      left = λ e. (subst (λ v. 1 ≤ due_at c.args.added.map_uid.0 v) (sym same) c.requires.left.1, calm, add_unread c.args.name.now c.args.store.now c.in-Err.why o.refused);
      fewer = λ e. omega arith;
      effects = (refl, same);
      mail = λ ran. mail_unchanged g.D.Disk.history c.args.store.now.disk c.add_message.new.store.disk (ap (λ v. v.disk) same);
      idle = λ e. ap (λ v. g.D.Disk.history v.disk) e;
      spared = λ ran. spared_kept c.args.store.now c.add_message.new.store _ _ (ap (λ v. v.map) same) (o.stored ran);
      others = keeps_same (stage.Adding c.args.added c.args.room) c.args.store.now c.add_message.new.store (ap (λ v. v.map) same) (ap (λ v. v.files.files) same);
      moves = λ ran. nothing_moves (save_amounts (stage.Adding c.args.added c.args.room)) (save_amounts (stage.GivingBack c.args.added.map_uid c.in-Err.why c.args.room)) c.args.store.now c.add_message.new.store (λ uid. refl) (λ uid. ap (λ v. due_at uid v) same);
      stopped = more_runs c.add_message.new.store.stopped runs;
      holds = moves_same (λ id. 0) c.args.store.now c.add_message.new.store (ap (λ v. v.instances) o.same);
      instances = λ ran. same_keeps c.args.store.now c.add_message.new.store _ _ (ap (λ v. v.instances) o.same) (ap (λ v. v.map) o.same) (mail_unchanged g.D.Disk.history c.args.store.now.disk c.add_message.new.store.disk (ap (λ v. v.disk) same));
      faults = o.unfailed runs;
      grows = o.grows;
    }
