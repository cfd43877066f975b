use Rattle.mail_save.proofs.Common.{◌≡◌, ◌⊎◌, ◌∙◌, ap, sym, subst, refl, arith, true, Some, None, Err, List, InstRow, record_at, AreHeld, due_at, KeepsFirm, MovesHolds, holds_of, uid_refusal, save_amounts, ReadsSameMail, AreSpared, LetsGo, StoresNone, StoresPlaced, saved_row, Saves, Added}
use Rattle.mdbox_base.specs.declared.progress.Did.TheVariants as did
use Rattle.mdbox_base.specs.declared.progress.Progress.TheVariants as progress
use Rattle.mdbox_base.specs.declared.replies.Refusal.TheVariants as refusal
use Rattle.mdbox_base.specs.declared.replies.Reply.TheVariants as reply
use Rattle.mail_save.proofs.FaultLemmas.{change_faults}
use Rattle.mail_save.proofs.HeldInstanceLemmas.{held_same, logged_keeps, same_keeps}
use Rattle.mail_save.proofs.HeldLemmas.{nothing_moves, one_more, unstored_due}
use Rattle.mail_save.proofs.LettingLemmas.{keeps_let_go, moves_same, moves_then, saves_let_go}
use Rattle.mail_save.proofs.MailFileLemmas.{unstored_mail}
use Rattle.mail_save.proofs.OtherLemmas.{storing_keeps, unstored_keeps}
use Rattle.mail_save.proofs.ReadyLemmas.{record_let_go, record_ready}
use Rattle.mail_save.proofs.SaveEventLemmas.{done_goes_on, is_false, more_runs, ok_apart, one_error, one_is_due, refused_stops, unfallen}
use Rattle.mail_save.proofs.StoringLemmas.{spared_kept, storing_instances, unstored_instances, unstored_map, unstored_unread}
use Rattle.mail_save.specs.declared.task.SaveStage.TheVariants as stage
use Rattle.mail_save.proofs.task.storing.Goals as goal

pub let_go_all-requires : goal.let_go_all-requires
let_go_all-requires g c =
    let o = c.store_record-stored.ensures in
    record {
      held = subst (λ (rows : List InstRow). AreHeld rows c.store_record-stored.new.store.instances.known) (sym (c.as_slice.ensures ∙ o.rows))
          (held_same c.args.rows c.args.store.now c.store_record-stored.new.store (storing_instances c.args.at c.args.rows c.args.store.now c.store_record-stored.new.store c.store_record-stored.result.0 o.stores o.none) c.requires.left.2.held);
    }

pub returns-in-Ok : goal.returns-in-Ok
returns-in-Ok g c =
    let o = c.store_record-stored.ensures in
    let old = c.args.store.now in
    let left = c.store_record-stored.new.store in
    let new = c.let_go_all.new.store in
    let before = g.D.Disk.history old.disk in
    let after = g.D.Disk.history left.disk in
    let rows = c.args.rows in
    let added : Added = record { map_uid = c.in-Ok.map_uid; guid = c.args.at.guid; time = c.args.time; size = c.args.size } in
    let made : StoresPlaced c.args.at rows c.args.time c.args.size added old left = (rw c.in-Ok.is at o.stores) c.args.time c.args.size in
    let mail : ReadsSameMail before after = rw c.in-Ok.is at o.mail in
    let firm : KeepsFirm old left before after = rw c.in-Ok.is at o.firm in
    let spared : AreSpared old left before after = rw c.in-Ok.is at o.spared in
    let runs = is_false left.stopped (λ e. ok_apart _ _ (sym c.in-Ok.is ∙ o.stopped.1 e)) in
    let found = c.as_slice.ensures ∙ o.rows in
    let same : LetsGo rows left new = subst (λ (is : List InstRow). LetsGo is left new) found c.let_go_all.ensures.same in
    let kept = ap (λ v. v.instances) made.same in
    subst (λ l. Saves (stage.Storing c.args.at rows c.args.room) l.next c.args.name.now c.args.time c.args.size l.answer l.did old new before (g.D.Disk.history new.disk) (g.D.Disk.faults old.disk) (g.D.Disk.faults new.disk)) (sym c.goes_on.ensures)
    (saves_let_go g.D.Disk.history g.D.Disk.faults (stage.Storing c.args.at rows c.args.room) (stage.Adding added c.args.room) rows c.args.name.now c.args.time c.args.size progress.More did.Quiet old left new same (record {
      replies = tt;
      did_is = refl;
      moments = o.any_moment;
      stays = o.mail_stays;
      rests = o.settled;
      mail = λ ran. mail;
      ready = λ e octets h. (h.0, record_let_go rows added c.args.name.now c.args.time octets left new after same (record_ready c.args.at rows c.args.name.now c.args.time c.args.size octets added old left before after c.facts.ensures.store c.requires.left.0.guid_new made h.0.0 h.1 (o.stored runs) mail));
      left_is = λ e. ((saved_row rows c.in-Ok.map_uid c.args.at, ap (λ v. record_at v.map c.in-Ok.map_uid.0) same ∙ made.there, refl), one_is_due c.in-Ok.map_uid.0 _ _ (ap (λ v. due_at c.in-Ok.map_uid.0 v) same ∙ made.due c.in-Ok.map_uid.0), c.requires.size);
      fewer = λ e. omega arith;
      effects = (left, made, same);
      spared = λ ran. spared;
      others = storing_keeps c.args.at rows c.args.time c.args.size c.args.room added old left c.requires.left.0 made;
      moves = λ ran. one_more c.in-Ok.map_uid (save_amounts (stage.Storing c.args.at rows c.args.room)) (save_amounts (stage.Adding added c.args.room)) old left (λ uid. refl) (λ uid. refl) made.due;
      holds = moves_then (holds_of rows) (holds_of rows) (λ id. 0) old left new (moves_same (holds_of rows) old left kept) (subst (λ (is : List InstRow). MovesHolds (holds_of is) (λ id. 0) left new) found c.let_go_all.ensures.moves);
      instances = λ ran. keeps_let_go g.D.Disk.history rows old left new same c.let_go_all.ensures.keeps (logged_keeps old left before after kept firm mail);
      stopped = more_runs left.stopped runs;
      faults = o.unfailed runs;
      grows = o.grows;
    }))

pub returns-in-Err : goal.returns-in-Err
returns-in-Err g c =
    let o = c.store_record-stored.ensures in
    let old = c.args.store.now in
    let left = c.store_record-stored.new.store in
    let new = c.let_go_all.new.store in
    let before = g.D.Disk.history old.disk in
    let after = g.D.Disk.history left.disk in
    let rows = c.args.rows in
    let why = c.in-Err.why in
    let none : StoresNone c.args.at why old left = rw c.in-Err.is at o.none in
    let refused : (uid_refusal old.drawn.map ≡ Some why) ⊎ ((uid_refusal old.drawn.map ≡ None) × ((why ≡ refusal.Stopped) ⊎ (why ≡ refusal.NoMemory))) = rw c.in-Err.is at o.refused in
    let fell : why ≡ refusal.Stopped → left.stopped ≡ true = λ e. o.stopped.0 (c.in-Err.is ∙ ap Err e) in
    let stops : left.stopped ≡ true → why ≡ refusal.Stopped = λ e. one_error _ _ (sym c.in-Err.is ∙ o.stopped.1 e) in
    let found = c.as_slice.ensures ∙ o.rows in
    let same : LetsGo rows left new = subst (λ (is : List InstRow). LetsGo is left new) found c.let_go_all.ensures.same in
    let kept = unstored_instances c.args.at why old left none in
    subst (λ l. Saves (stage.Storing c.args.at rows c.args.room) l.next c.args.name.now c.args.time c.args.size l.answer l.did old new before (g.D.Disk.history new.disk) (g.D.Disk.faults old.disk) (g.D.Disk.faults new.disk)) (sym c.ends.ensures)
    (saves_let_go g.D.Disk.history g.D.Disk.faults (stage.Storing c.args.at rows c.args.room) stage.Ended rows c.args.name.now c.args.time c.args.size (progress.Done (reply.Refused why)) _ old left new same (record {
      replies = refused;
      did_is = c.did_fail.ensures;
      moments = o.any_moment;
      stays = o.mail_stays;
      rests = o.settled;
      mail = λ ran. unstored_mail g.D.Disk.history c.args.at why old left none (λ e. unfallen left.stopped (fell e) ran);
      ready = λ e. absurd (done_goes_on _ e);
      left_is = λ e. absurd (done_goes_on _ e);
      fewer = λ e. absurd (done_goes_on _ e);
      effects = (left, none, same);
      spared = λ ran. spared_kept old left before after (unstored_map c.args.at why old left none) (o.stored ran);
      others = unstored_keeps c.args.at rows c.args.room why old left c.requires.left.0 none;
      moves = λ ran. nothing_moves (save_amounts (stage.Storing c.args.at rows c.args.room)) (save_amounts stage.Ended) old left (λ uid. refl) (unstored_due c.args.at why old left none);
      holds = moves_then (holds_of rows) (holds_of rows) (λ id. 0) old left new (moves_same (holds_of rows) old left kept) (subst (λ (is : List InstRow). MovesHolds (holds_of is) (λ id. 0) left new) found c.let_go_all.ensures.moves);
      instances = λ ran.
          keeps_let_go g.D.Disk.history rows old left new same c.let_go_all.ensures.keeps
          (same_keeps old left before after kept (unstored_map c.args.at why old left none) (unstored_mail g.D.Disk.history c.args.at why old left none (λ e. unfallen left.stopped (fell e) (sym (ap (λ v. v.stopped) same) ∙ ran))));
      stopped = refused_stops why left.stopped (record { 0 = fell; 1 = stops });
      faults = change_faults why _ _ _ (unstored_unread old.drawn.map why refused) (λ e. c.in-Err.is ∙ ap Err e) o.fault (λ calm. o.unfailed (is_false left.stopped (λ s. calm (stops s))));
      grows = o.grows;
    }))
