use Rattle.mail_save.proofs.Common.{rules, ◌<◌, ◌^◌, ◌∙◌, ap, sym, subst, refl, arith, ℕ, List, Err, length, IsName, InstRow, AreHeld, due_at, MovesHolds, holds_of, save_amounts, HoldsFile, TakesWithHeader, LetsGo, TakesNone, Saves}
use Rattle.mdbox_base.specs.declared.progress.Progress.TheVariants as progress
use Rattle.mdbox_base.specs.declared.replies.Reply.TheVariants as reply
use Rattle.mail_save.proofs.FaultLemmas.{change_faults}
use Rattle.mail_save.proofs.HeldInstanceLemmas.{attached_on, held_same, is_attached_on, same_keeps, taken_keeps}
use Rattle.mail_save.proofs.HeldLemmas.{nothing_moves}
use Rattle.mail_save.proofs.LettingLemmas.{keeps_let_go, moves_same, moves_then, saves_let_go}
use Rattle.mail_save.proofs.MailFileLemmas.{untaken_mail}
use Rattle.mail_save.proofs.OtherLemmas.{taking_keeps, untaken_keeps}
use Rattle.mail_save.proofs.RegionSizeLemmas.{header_short, region_short}
use Rattle.mail_save.proofs.SaveEventLemmas.{done_goes_on, is_false, more_runs, ok_apart, one_error, refused_stops, unfallen}
use Rattle.mail_save.proofs.StoringLemmas.{spared_kept}
use Rattle.mail_save.proofs.TakingLemmas.{takes_as, untaken_instances, untaken_unread, untaken_why}
use Rattle.mail_save.specs.declared.task.SaveStage.TheVariants as stage
use Rattle.mail_save.proofs.task.taking.Goals as goal

pub length-size-requires : goal.length-size-requires
length-size-requires g c =
    let timed : c.args.time < 2 ^ 64 = search rules in
    let most = (region_short c.args.name.now c.args.time c.args.parts c.args.store.now _ (subst IsName c.as_octets-name.ensures.same c.as_octets-name.ensures.name) timed c.requires.left).1 in
    omega (arith, most)

pub take_file-requires-clause-size : goal.take_file-requires-clause-size
take_file-requires-clause-size g c =
    let timed : c.args.time < 2 ^ 64 = search rules in
    let most = (region_short c.args.name.now c.args.time c.args.parts c.args.store.now _ (subst IsName c.as_octets-name.ensures.same c.as_octets-name.ensures.name) timed c.requires.left).1 in
    let is = c.length-size.ensures in
    let short = header_short c.args.name.now c.args.time c.args.parts c.args.store.now _ timed c.requires.left in
    let header = ap length c.as_slice.ensures in
    omega (arith, most, is, short, header)

pub let_go_all-requires : goal.let_go_all-requires
let_go_all-requires g c = record {
  held = subst (λ (rows : List InstRow). AreHeld rows c.take_file.new.store.instances.known) (sym c.as_slice-in-Err.ensures) (held_same c.args.parts.rows c.args.store.now c.take_file.new.store (ap (λ v. v.instances) c.in-Err.ensures.same) c.requires.left.1);
}

pub returns-in-Ok : goal.returns-in-Ok
returns-in-Ok g c = λ size.
    let o = c.in-Ok.ensures in
    let old = c.args.store.now in
    let new = c.take_file.new.store in
    let before = g.D.Disk.history old.disk in
    let after = g.D.Disk.history new.disk in
    let runs = is_false new.stopped (λ e. ok_apart _ _ (o.stopped.1 e)) in
    let long = c.length-size.ensures in
    let same = ap (λ v. v.instances) o.same in
    let keeps = taken_keeps c.as_slice.result.now c.in-Ok.file.0 old new before after same (ap (λ v. v.map) o.same) o.mail in
    subst (λ l. Saves (stage.Taking c.args.parts) l.next c.args.name.now c.args.time size l.answer l.did old new before after (g.D.Disk.faults old.disk) (g.D.Disk.faults new.disk)) (sym c.goes_on.ensures) (record {
      replies = tt;
      did_is = refl;
      moments = o.any_moment;
      stays = o.mail_stays;
      rests = o.settled;
      mail = λ ran. subst (λ (h : List ℕ). TakesWithHeader h c.in-Ok.file.0 old before after) c.as_slice.ensures o.mail;
      ready = λ e octets h. (h.0, attached_on c.args.name.now c.args.time octets c.args.parts old new before after keeps h.1);
      left = λ e. (is_attached_on c.args.name.now c.args.time c.args.parts old new before after keeps same c.requires.left, subst (λ (n : ℕ). HoldsFile c.in-Ok.file.0 n new) long o.taken);
      fewer = λ e. omega arith;
      effects = (refl, takes_as _ _ _ _ c.in-Ok.file old new c.as_slice.ensures long o.takes);
      idle = λ e. ap (λ v. g.D.Disk.history v.disk) e;
      spared = λ ran. spared_kept old new _ _ (ap (λ v. v.map) o.same) (o.stored ran);
      others = taking_keeps c.args.parts _ _ c.in-Ok.file old new o.takes;
      moves = λ ran. nothing_moves (save_amounts (stage.Taking c.args.parts)) (save_amounts (stage.Placing c.args.parts c.in-Ok.file)) old new (λ uid. refl) (λ uid. ap (λ v. due_at uid v) o.same);
      holds = moves_same (holds_of c.args.parts.rows) old new same;
      instances = λ ran. keeps;
      stopped = more_runs new.stopped runs;
      faults = o.unfailed runs;
      grows = o.grows;
    })

pub returns-in-Err : goal.returns-in-Err
returns-in-Err g c = λ size.
    let o = c.in-Err.ensures in
    let old = c.args.store.now in
    let left = c.take_file.new.store in
    let new = c.let_go_all.new.store in
    let long = c.length-size.ensures in
    let none : TakesNone (length c.args.parts.laid.region) c.in-Err.why old left = subst (λ (n : ℕ). TakesNone n c.in-Err.why old left) long o.none in
    let same : LetsGo c.args.parts.rows left new = subst (λ (rows : List InstRow). LetsGo rows left new) c.as_slice-in-Err.ensures c.let_go_all.ensures.same in
    let kept = untaken_instances _ c.in-Err.why old left none in
    let stop = refused_stops c.in-Err.why left.stopped (record { 0 = λ e. o.stopped.0 (ap Err e); 1 = λ e. one_error _ _ (o.stopped.1 e) }) in
    subst (λ l. Saves (stage.Taking c.args.parts) l.next c.args.name.now c.args.time size l.answer l.did old new (g.D.Disk.history old.disk) (g.D.Disk.history new.disk) (g.D.Disk.faults old.disk) (g.D.Disk.faults new.disk)) (sym c.ends.ensures)
    (saves_let_go g.D.Disk.history g.D.Disk.faults (stage.Taking c.args.parts) stage.Ended c.args.parts.rows c.args.name.now c.args.time size (progress.Done (reply.Refused c.in-Err.why)) _ old left new same (record {
      replies = untaken_why _ c.in-Err.why old left none;
      did_is = c.did_fail.ensures;
      moments = o.any_moment;
      stays = o.mail_stays;
      rests = o.settled;
      mail = λ ran. untaken_mail g.D.Disk.history _ c.in-Err.why old left none (λ e. unfallen left.stopped (o.stopped.0 (ap Err e)) ran);
      ready = λ e. absurd (done_goes_on _ e);
      left_is = λ e. absurd (done_goes_on _ e);
      fewer = λ e. absurd (done_goes_on _ e);
      effects = (left, none, same);
      spared = λ ran. spared_kept old left _ _ (ap (λ v. v.map) o.same) (o.stored ran);
      others = untaken_keeps c.args.parts _ c.in-Err.why old left none;
      moves = λ ran. nothing_moves (save_amounts (stage.Taking c.args.parts)) (save_amounts stage.Ended) old left (λ uid. refl) (λ uid. ap (λ v. due_at uid v) o.same);
      holds = moves_then (holds_of c.args.parts.rows) (holds_of c.args.parts.rows) (λ id. 0) old left new (moves_same (holds_of c.args.parts.rows) old left kept) (subst (λ (rows : List InstRow). MovesHolds (holds_of rows) (λ id. 0) left new) c.as_slice-in-Err.ensures c.let_go_all.ensures.moves);
      instances = λ ran.
          keeps_let_go g.D.Disk.history c.args.parts.rows old left new same c.let_go_all.ensures.keeps
          (same_keeps old left _ _ kept (ap (λ v. v.map) o.same) (untaken_mail g.D.Disk.history _ c.in-Err.why old left none (λ e. unfallen left.stopped (o.stopped.0 (ap Err e)) (sym (ap (λ v. v.stopped) same) ∙ ran))));
      stopped = stop;
      faults = change_faults c.in-Err.why _ _ _ (untaken_unread _ c.in-Err.why old left none) (λ e. ap Err e) o.fault (λ calm. o.unfailed (is_false left.stopped (λ s. calm (one_error _ _ (o.stopped.1 s)))));
      grows = o.grows;
    }))
