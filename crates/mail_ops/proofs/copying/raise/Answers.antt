use Rattle.mail_ops.proofs.Common.{ℕ, refl, ◌∙◌, sym, ap, subst, arith, row_of, KeepsUid, indexes_of, not_true, ok_is_none}
use Rattle.mail_ops.proofs.CopyCallLemmas.{raise_fits, keeps_row}
use Rattle.mail_ops.proofs.MessageLemmas.{from_source}
use Rattle.mail_ops.proofs.copying.raise.Goals as goal

pub append_map-requires-clause-fits : goal.append_map-requires-clause-fits
append_map-requires-clause-fits g c = raise_fits _ c.args.store.now c.args.name.now c.args.uid.0 c.in_ok-row.ensures.found.source (row_of c.in_ok-row.field-0.row.now) c.facts.ensures.store c.in_ok-row.ensures.found.from (omega (arith, c.count_of.ensures, c.if-count_of-ge-MOST_COPIES.false))

pub returns-in-Ok-clause-raised : goal.returns-in-Ok-clause-raised
returns-in-Ok-clause-raised g c =
    let o = c.in-Ok.ensures in
    let at = c.in_ok-row.ensures.found in
    let holds = ap (λ u. u.0) c.in_ok-held.ensures in
    let same = from_source c.args.name.now at.source c.in_ok-row.field-0.source.0 at.source c.args.store.now at.from.box.number_is c.in_ok-row.ensures.source refl in
    record {
      row = row_of c.in_ok-row.field-0.row.now;
      number = c.in_ok-row.field-0.target.0;
      next = c.in_ok-row.field-0.next.0;
      at = at;
      source_is = same;
      holds = holds;
      few = omega (arith, c.count_of.ensures, c.if-count_of-ge-MOST_COPIES.false);
      keeps = subst (λ (n : ℕ). KeepsUid n c.args.uid.0 c.in_ok-held.held.0 c.args.store.now) same (keeps_row _ c.args.store.now c.args.name.now c.args.uid.0 at.source c.in_ok-held.held.0 (row_of c.in_ok-row.field-0.row.now) c.facts.ensures.store at.from holds);
      took = record {
        appends = record {
          moments = λ lists s. o.any_moment lists tt tt s;
          indexes = ap (λ v. indexes_of v.boxes) o.same;
          mailboxes = o.mailboxes;
          drawn = o.drawn;
          files = ap (λ v. v.files) o.same;
          room = o.room;
          rest = o.same ∙ sym (ap (λ v. record c.args.store.now { disk = v.disk; map_log = v.map_log; map = v.map; boxes = v.boxes; drawn = v.drawn; dues = v.dues; stopped = v.stopped }) o.same);
          stays = o.mail_stays;
          grows = o.grows;
          reads = o.fault.reads;
          changes = o.fault.changes;
        };
        runs = not_true _ (λ e. ok_is_none _ (o.stopped.1 e));
        settled = λ lists s. o.settled lists tt tt s;
        fits = rw c.in_ok-held.ensures (raise_fits _ c.args.store.now c.args.name.now c.args.uid.0 at.source (row_of c.in_ok-row.field-0.row.now) c.facts.ensures.store at.from (omega (arith, c.count_of.ensures, c.if-count_of-ge-MOST_COPIES.false)));
        taken = rw c.in_ok-held.ensures o.taken;
        further = o.further;
        due = rw c.in_ok-held.ensures o.due;
        spared = o.spared;
        mail = o.others;
        unfailed = o.unfailed;
      };
    }
