use Rattle.mail_save.proofs.Common.{inl, inr, sym, subst, refl, arith, kept_begins, leaves_none, next_attachment, Saves, save_amounts}
use Rattle.store_core.proofs.DueLemmas.{keeps_itself}
use Rattle.mdbox_base.specs.declared.progress.Did.TheVariants as did
use Rattle.mdbox_base.specs.declared.progress.Progress.TheVariants as progress
use Rattle.mail_save.proofs.AttachEventLemmas.{first_last, first_more}
use Rattle.mail_save.proofs.AttachLemmas.{next_or_none}
use Rattle.mail_save.proofs.FaultLemmas.{calm_faults, first_unread}
use Rattle.mail_save.specs.declared.task.SaveStage.TheVariants as stage
use Rattle.mail_save.proofs.SaveEventLemmas.{done_goes_on, first_calm, never_stops, refused_stops}
use Rattle.mail_save.proofs.StoringLemmas.{spared_kept}
use Rattle.mail_save.proofs.HeldInstanceLemmas.{same_keeps}
use Rattle.mail_save.proofs.HeldLemmas.{nothing_moves}
use Rattle.mail_save.proofs.OtherLemmas.{keeps_same}
use Rattle.mail_save.proofs.MailFileLemmas.{mail_itself}
use Rattle.mail_save.proofs.task.first_event.Goals as goal

pub returns-in-Ok : goal.returns-in-Ok
returns-in-Ok g c = λ size.
    let h = g.D.Disk.history c.args.store.now.disk in
    let f = g.D.Disk.faults c.args.store.now.disk in
    let b = c.in-Ok.ensures.begun in
    subst (λ l. Saves (stage.First c.args.prepared) l.next c.args.name.now c.args.time size l.answer l.did c.args.store.now c.args.store.now h h f f) (sym c.goes_on.ensures) (elim (next_or_none (next_attachment c.in-Ok.attaching)) [
      | inl some ↦
          subst (λ s. Saves (stage.First c.args.prepared) s c.args.name.now c.args.time size progress.More did.Quiet c.args.store.now c.args.store.now h h f f) (sym (c.behind_attachment.ensures.more some))
          (first_more c.args.name.now c.args.time size c.args.prepared c.in-Ok.parts c.in-Ok.attaching c.args.store.now h f c.requires.running c.requires.left.0 c.requires.left.1 b.0 b.1 some)
      | inr none ↦
          let named = c.behind_attachment.ensures.whole none in
          subst (λ s. Saves (stage.First c.args.prepared) s c.args.name.now c.args.time size progress.More did.Quiet c.args.store.now c.args.store.now h h f f) (sym named.1)
          (first_last c.args.name.now c.args.time size c.args.prepared c.in-Ok.parts named.0 c.in-Ok.attaching c.args.store.now h f c.requires.running c.requires.left.0 b.0 b.1 none named.2)
    ])

pub returns-in-Err : goal.returns-in-Err
returns-in-Err g c = λ size.
    let h = g.D.Disk.history c.args.store.now.disk in
    let f = g.D.Disk.faults c.args.store.now.disk in
    let calm = first_calm c.args.name.now c.args.store.now c.in-Err.why c.in-Err.ensures.refused in
    subst (λ l. Saves (stage.First c.args.prepared) l.next c.args.name.now c.args.time size l.answer l.did c.args.store.now c.args.store.now h h f f) (sym c.ends.ensures) (record {
      replies = c.in-Err.ensures.refused;
      did_is = c.did_fail.ensures;
      moments = λ lists s. leaves_none h lists lists s;
      stays = kept_begins _ h;
      rests = λ ran lists s. s;
      ready = λ e. absurd (done_goes_on _ e);
      left = λ e. absurd (done_goes_on _ e);
      fewer = λ e. absurd (done_goes_on _ e);
      effects = refl;
      mail = λ ran. mail_itself h;
      idle = λ e. refl;
      spared = λ ran. spared_kept c.args.store.now c.args.store.now h h refl (keeps_itself h);
      others = keeps_same (stage.First c.args.prepared) c.args.store.now c.args.store.now refl refl;
      moves = λ ran. nothing_moves (save_amounts (stage.First c.args.prepared)) (save_amounts stage.Ended) c.args.store.now c.args.store.now (λ uid. refl) (λ uid. refl);
      holds = λ id. refl;
      instances = λ ran. same_keeps c.args.store.now c.args.store.now h h refl refl (mail_itself h);
      stopped = refused_stops c.in-Err.why c.args.store.now.stopped (never_stops c.in-Err.why c.args.store.now.stopped c.requires.running calm);
      faults = calm_faults c.in-Err.why f f (first_unread c.args.name.now c.args.store.now c.in-Err.why c.in-Err.ensures.refused) calm refl;
      grows = omega arith;
    })
