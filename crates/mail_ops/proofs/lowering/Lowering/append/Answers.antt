use Rattle.mail_ops.proofs.Common.{◌∙◌, ap, sym, subst, arith, MapEntry, indexes_of, not_true, ok_is_none, MapFits, MapTook, lowering_of}
use Rattle.model_logs.specs.Entries.{MapInRange}
use Rattle.store_core.specs.MapAppend.{IsReadyToStore, NamesFirm, drawn_by}
use Rattle.mail_ops.proofs.LoweringLemmas.{one_lowered_fits}
use Rattle.mail_ops.proofs.lowering.Lowering.append.Goals as goal

pub append_map-requires-clause-range : goal.append_map-requires-clause-range
append_map-requires-clause-range g c = subst MapInRange (sym c.self.invariant.0) (omega arith, (c.self.invariant.1, tt))

pub returns-in-Ok : goal.returns-in-Ok
returns-in-Ok g c =
    let is = c.self.invariant.0 ∙ ap lowering_of c.self.view_is in
    let synced = subst (λ (e : MapEntry). IsReadyToStore e (g.D.Disk.history c.args.store.now.disk)) (sym c.self.invariant.0) tt in
    let named = subst (λ (e : MapEntry). NamesFirm e c.args.store.now.map (g.D.Disk.history c.args.store.now.disk)) (sym c.self.invariant.0) tt in
    let o = c.in-Ok.ensures in
    subst (λ (e : MapEntry). MapTook e c.args.store.now c.append_map.new.self (g.D.Disk.history c.args.store.now.disk) (g.D.Disk.history c.append_map.new.self.disk) (g.D.Disk.faults c.args.store.now.disk) (g.D.Disk.faults c.append_map.new.self.disk)) is (record {
      appends = record {
        moments = λ lists s. o.any_moment lists synced named s;
        indexes = ap (λ v. indexes_of v.boxes) o.same;
        mailboxes = o.mailboxes;
        drawn = o.drawn ∙ ap (λ (e : MapEntry). drawn_by e c.args.store.now.drawn) c.self.invariant.0;
        files = ap (λ v. v.files) o.same;
        room = o.room;
        rest = o.same ∙ sym (ap (λ v. record c.args.store.now { disk = v.disk; map_log = v.map_log; map = v.map; boxes = v.boxes; drawn = v.drawn; dues = v.dues; stopped = v.stopped }) o.same);
        stays = o.mail_stays;
        grows = o.grows;
        reads = o.fault.reads;
        changes = o.fault.changes;
      };
      runs = not_true _ (λ e. ok_is_none _ (o.stopped.1 e));
      settled = λ lists s. o.settled lists synced named s;
      fits = subst (λ (e : MapEntry). MapFits c.args.store.now.map e) (sym is) (one_lowered_fits c.args.store.now.map _ (c.known_dues.ensures _ c.requires.due));
      taken = o.taken;
      further = o.further;
      due = o.due;
      spared = o.spared;
      mail = o.others;
      unfailed = o.unfailed;
    })
