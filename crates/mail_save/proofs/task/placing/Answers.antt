use Rattle.mail_save.proofs.Common.{rules, ◌<◌, ◌≤◌, ◌^◌, ◌∙◌, ap, sym, subst, refl, arith, ℕ, List, length, IfTold, Mail, IsName, InstRow, FileNo, AreHeld, unknown_guid, ids_in, due_at, MovesHolds, holds_of, save_amounts, HasAppended, IsLeftSoOrGone, LetsGo, PlacesParts, Saves}
use Rattle.mdbox_base.specs.declared.progress.Progress.TheVariants as progress
use Rattle.mdbox_base.specs.declared.replies.Refusal.TheVariants as refusal
use Rattle.mdbox_base.specs.declared.replies.Reply.TheVariants as reply
use Rattle.save_instances.proofs.FoundLemmas.{of_parts_kept}
use Rattle.store_core.specs.Files.{EndsWith}
use Rattle.mail_save.proofs.HeldInstanceLemmas.{held_same, holds_attached, is_attached_on, placed_keeps}
use Rattle.mail_save.proofs.HeldLemmas.{nothing_moves}
use Rattle.mail_save.proofs.LettingLemmas.{moves_same, moves_then, saves_let_go}
use Rattle.mail_save.proofs.OtherLemmas.{alone_keeps, placing_keeps}
use Rattle.mail_save.proofs.ReadyLemmas.{instances_are, instances_there, region_ready}
use Rattle.mail_save.proofs.RegionSizeLemmas.{region_short}
use Rattle.mail_save.proofs.SaveEventLemmas.{done_goes_on, faults_by, is_false, more_runs, never_true, refused_stops, unfallen}
use Rattle.mail_save.proofs.StoringLemmas.{spared_kept}
use Rattle.mail_save.proofs.PlacedLemmas.{appended_left}
use Rattle.mail_save.specs.declared.task.SaveStage.TheVariants as stage
use Rattle.mail_save.proofs.task.placing.Goals as goal

pub place_region-requires-clause-laid : goal.place_region-requires-clause-laid
place_region-requires-clause-laid g c = (c.args.name.now, c.args.time, c.requires.left.0.0.2.prepared, ids_in c.args.parts.rows, unknown_guid, c.requires.left.0.0.2.laid.laid)

pub let_go_all-requires : goal.let_go_all-requires
let_go_all-requires g c = record {
  held = subst (λ (rows : List InstRow). AreHeld rows c.place_region.new.store.instances.known) (sym c.as_slice.ensures) (held_same c.args.parts.rows c.args.store.now c.place_region.new.store (ap (λ v. v.instances) c.in-Err.ensures.same) c.requires.left.0.1);
}

pub returns-in-Ok : goal.returns-in-Ok
returns-in-Ok g c = λ size_now.
    let o = c.in-Ok.ensures in
    let old = c.args.store.now in
    let new = c.place_region.new.store in
    let before = g.D.Disk.history old.disk in
    let after = g.D.Disk.history new.disk in
    let parts = c.args.parts in
    let at_place = c.in-Ok.at in
    let laid = c.place_region.new.laid in
    let runs = is_false new.stopped (λ e. never_true (o.stopped.1 e)) in
    let timed : c.args.time < 2 ^ 64 = search rules in
    let some : 1 ≤ length parts.laid.region = (region_short c.args.name.now c.args.time parts old before (subst IsName c.as_octets-name.ensures.same c.as_octets-name.ensures.name) timed c.requires.left.0).0 in
    let size = o.size in
    let same = ap (λ v. v.instances) o.same in
    let keeps = placed_keeps laid.region c.args.file.0 old new before after same (ap (λ v. v.map) o.same) o.appended in
    let made : PlacesParts parts c.args.file at_place parts.rows old new = record {
      file_is = o.file;
      rows_are = refl;
      size_is = size;
      guid = o.guid;
      began = o.offset;
      ends = o.ends;
      others = o.others;
      taken = o.still_taken;
      same = o.ok;
    } in
    subst (λ l. Saves (stage.Placing parts c.args.file) l.next c.args.name.now c.args.time size_now l.answer l.did old new before after (g.D.Disk.faults old.disk) (g.D.Disk.faults new.disk)) (sym c.goes_on.ensures) (record {
      replies = tt;
      did_is = refl;
      moments = o.any_moment;
      stays = o.mail_stays;
      rests = λ ran. o.settled;
      mail = λ ran prepared is. subst (λ (region : List ℕ). HasAppended region c.args.file.0 before after) (o.set c.args.name.now c.args.time prepared (ids_in parts.rows) unknown_guid is.laid).region o.appended;
      ready = λ e octets h. (
        h.0,
        region_ready at_place parts.rows c.args.name.now c.args.time octets h.1.prepared laid after (record { named = (subst IsName c.as_octets-name.ensures.same c.as_octets-name.ensures.name); timed = timed; small = h.0.1; form = h.1.form })
            (o.set c.args.name.now c.args.time h.1.prepared (ids_in parts.rows) unknown_guid h.1.laid.laid) (o.long ∙ sym size) (instances_are parts.rows h.1.prepared.parts old.instances.known before h.1.found h.1.one_each)
            (subst (λ (f : FileNo). IfTold after (λ now. EndsWith at_place.offset laid.region (now (Mail f.0)))) (sym o.file) o.written)
            (instances_there parts.rows h.1.prepared.parts new.instances.known after (of_parts_kept parts.rows h.1.prepared.parts old new before after keeps h.1.found) h.1.one_each)
            (subst (λ (f : FileNo). IfTold after (IsLeftSoOrGone (Mail f.0))) (sym o.file) (appended_left laid.region c.args.file.0 before after o.appended)),
      );
      left = λ e. (o.placed, omega (arith, some, size), holds_attached c.args.name.now c.args.time parts new after (is_attached_on c.args.name.now c.args.time parts old new before after keeps same c.requires.left.0));
      fewer = λ e. omega arith;
      effects = made;
      idle = λ e. ap (λ v. g.D.Disk.history v.disk) e;
      spared = λ ran. spared_kept old new _ _ (ap (λ v. v.map) o.same) o.stored;
      others = placing_keeps parts c.args.file at_place parts.rows old new made;
      moves = λ ran. nothing_moves (save_amounts (stage.Placing parts c.args.file)) (save_amounts (stage.Storing at_place parts.rows parts.room)) old new (λ uid. refl) (λ uid. ap (λ v. due_at uid v) o.same);
      holds = moves_same (holds_of parts.rows) old new same;
      instances = λ ran. keeps;
      stopped = more_runs new.stopped runs;
      faults = o.unfailed;
      grows = o.grows;
    })

pub returns : goal.returns
returns g c = λ size_now.
    let o = c.in-Err.ensures in
    let old = c.args.store.now in
    let left = c.place_region.new.store in
    let new = c.let_go_all.new.store in
    let parts = c.args.parts in
    let fell = o.stopped.0 refl in
    let same : LetsGo parts.rows left new = subst (λ (rows : List InstRow). LetsGo rows left new) c.as_slice.ensures c.let_go_all.ensures.same in
    let kept = ap (λ v. v.instances) (o.alone refl).same in
    subst (λ l. Saves (stage.Placing parts c.args.file) l.next c.args.name.now c.args.time size_now l.answer l.did old new (g.D.Disk.history old.disk) (g.D.Disk.history new.disk) (g.D.Disk.faults old.disk) (g.D.Disk.faults new.disk)) (sym c.ends.ensures)
    (saves_let_go g.D.Disk.history g.D.Disk.faults (stage.Placing parts c.args.file) stage.Ended parts.rows c.args.name.now c.args.time size_now (progress.Done (reply.Refused refusal.Stopped)) _ old left new same (record {
      replies = refl;
      did_is = refl;
      moments = o.any_moment;
      stays = o.mail_stays;
      rests = λ ran. absurd (unfallen left.stopped fell ran);
      mail = λ ran. absurd (unfallen left.stopped fell ran);
      ready = λ e. absurd (done_goes_on _ e);
      left_is = λ e. absurd (done_goes_on _ e);
      fewer = λ e. absurd (done_goes_on _ e);
      effects = (left, o.alone refl, same);
      spared = λ ran. absurd (unfallen left.stopped fell ran);
      others = alone_keeps (stage.Placing parts c.args.file) old left (o.alone refl);
      moves = λ ran. absurd (unfallen left.stopped fell ran);
      holds = moves_then (holds_of parts.rows) (holds_of parts.rows) (λ id. 0) old left new (moves_same (holds_of parts.rows) old left kept) (subst (λ (rows : List InstRow). MovesHolds (holds_of rows) (λ id. 0) left new) c.as_slice.ensures c.let_go_all.ensures.moves);
      instances = λ ran. absurd (unfallen new.stopped (ap (λ v. v.stopped) same ∙ fell) ran);
      stopped = refused_stops refusal.Stopped left.stopped (record { 0 = λ e. fell; 1 = λ e. refl });
      faults = faults_by _ _ _ _ (λ e. refl) o.fault;
      grows = o.grows;
    }))
