use Rattle.mail_save.proofs.Common.{ap, sym, subst, refl, inl, inr, Saves, save_amounts}
use Rattle.mdbox_base.specs.declared.replies.Refusal.TheVariants as refusal
use Rattle.mail_save.specs.declared.task.SaveStage.TheVariants as stage
use Rattle.mail_save.proofs.SaveEventLemmas.{done_goes_on, faults_by, gives_quietly, is_false, never_stops, never_true, refused_stops, unfallen}
use Rattle.mail_save.proofs.FaultLemmas.{calm_faults}
use Rattle.mail_save.proofs.HeldInstanceLemmas.{logged_keeps}
use Rattle.mail_save.proofs.HeldLemmas.{one_less}
use Rattle.mail_save.proofs.LettingLemmas.{moves_same}
use Rattle.mail_save.proofs.OtherLemmas.{alone_keeps, lowering_keeps}
use Rattle.mail_save.proofs.task.giving_back.Goals as goal

pub returns-in-Ok : goal.returns-in-Ok
returns-in-Ok g c = λ name time size.
    let o = c.in-Ok.ensures in
    let runs = is_false c.give_back.new.store.stopped (λ e. never_true (o.stopped.1 e)) in
    subst (λ l. Saves (stage.GivingBack c.args.uid c.args.why c.args.room) l.next name time size l.answer l.did c.args.store.now c.give_back.new.store (g.D.Disk.history c.args.store.now.disk) (g.D.Disk.history c.give_back.new.store.disk) (g.D.Disk.faults c.args.store.now.disk) (g.D.Disk.faults c.give_back.new.store.disk)) (sym c.ends.ensures) (record {
      replies = inl refl;
      did_is = gives_quietly c.args.why c.requires.why;
      moments = o.any_moment;
      stays = o.mail_stays;
      rests = λ ran. o.settled;
      ready = λ e. absurd (done_goes_on _ e);
      left = λ e. absurd (done_goes_on _ e);
      fewer = λ e. absurd (done_goes_on _ e);
      effects = inl (refl, o.lowers);
      mail = λ ran. o.mail;
      idle = λ e. ap (λ v. g.D.Disk.history v.disk) e;
      spared = λ ran. o.spared;
      others = lowering_keeps c.args.uid c.args.why c.args.room c.args.store.now c.give_back.new.store o.lowers;
      moves = λ ran. one_less c.args.uid (save_amounts (stage.GivingBack c.args.uid c.args.why c.args.room)) (save_amounts stage.Ended) c.args.store.now c.give_back.new.store (λ uid. refl) (λ uid. refl) c.requires.due o.lowers.due;
      stopped = refused_stops c.args.why c.give_back.new.store.stopped (never_stops c.args.why c.give_back.new.store.stopped runs c.requires.why);
      holds = moves_same (λ id. 0) c.args.store.now c.give_back.new.store (ap (λ v. v.instances) o.lowers.same);
      instances = λ ran. logged_keeps c.args.store.now c.give_back.new.store _ _ (ap (λ v. v.instances) o.lowers.same) o.firm o.mail;
      faults = calm_faults c.args.why _ _ c.requires.unread c.requires.why o.unfailed;
      grows = o.grows;
    })

pub returns-in-Err : goal.returns-in-Err
returns-in-Err g c = λ name time size.
    let o = c.in-Err.ensures in
    let fell = o.stopped.0 refl in
    subst (λ l. Saves (stage.GivingBack c.args.uid c.args.why c.args.room) l.next name time size l.answer l.did c.args.store.now c.give_back.new.store (g.D.Disk.history c.args.store.now.disk) (g.D.Disk.history c.give_back.new.store.disk) (g.D.Disk.faults c.args.store.now.disk) (g.D.Disk.faults c.give_back.new.store.disk)) (sym c.ends-in-Err.ensures) (record {
      replies = inr refl;
      did_is = refl;
      moments = o.any_moment;
      stays = o.mail_stays;
      rests = λ ran. absurd (unfallen c.give_back.new.store.stopped fell ran);
      ready = λ e. absurd (done_goes_on _ e);
      left = λ e. absurd (done_goes_on _ e);
      fewer = λ e. absurd (done_goes_on _ e);
      effects = inr (refl, o.alone refl);
      mail = λ ran. absurd (unfallen c.give_back.new.store.stopped fell ran);
      idle = λ e. ap (λ v. g.D.Disk.history v.disk) e;
      spared = λ ran. absurd (unfallen c.give_back.new.store.stopped fell ran);
      others = alone_keeps (stage.GivingBack c.args.uid c.args.why c.args.room) c.args.store.now c.give_back.new.store (o.alone refl);
      moves = λ ran. absurd (unfallen c.give_back.new.store.stopped fell ran);
      stopped = refused_stops refusal.Stopped c.give_back.new.store.stopped (record { 0 = λ e. fell; 1 = λ e. refl });
      holds = moves_same (λ id. 0) c.args.store.now c.give_back.new.store (ap (λ v. v.instances) (o.alone refl).same);
      instances = λ ran. absurd (unfallen c.give_back.new.store.stopped fell ran);
      faults = faults_by _ _ _ _ (λ e. refl) o.fault;
      grows = o.grows;
    })
