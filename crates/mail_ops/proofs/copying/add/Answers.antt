use Rattle.mail_ops.proofs.Common.{◌≡◌, Some, true, List, ◌∙◌, sym, ap, subst, arith, refl, ℕ, [], All-nil, All-cons, row_of, not_true, ok_is_none, BoxTook, BoxFell, BoxEntry, Uid, LogRow, added_copy}
use Rattle.std.proofs.Common.{Err}
use Rattle.mdbox_base.specs.Keywords.{AreWords}
use Rattle.mdbox_base.specs.declared.entries.BoxEntry.TheVariants as box_entry
use Rattle.model_logs.specs.Entries.{WordsInRange}
use Rattle.model_logs.proofs.EntryLemmas.{words_in_range}
use Rattle.model_store.specs.Opening.{HasItsRecord}
use Rattle.mail_ops.proofs.CopyCallLemmas.{row_sound, held_row}
use Rattle.mail_ops.proofs.MessageLemmas.{from_source, record_of_row}
use Rattle.mail_ops.proofs.copying.add.Goals as goal

-- with the row's flags and keywords, which the code has copied, the entry adds a copy of the row
as_row : (given : Uid) (row : LogRow) (flags : ℕ) (words : List (List ℕ)) (P : BoxEntry → Type 0) → flags ≡ row.flags → words ≡ row.words → P (box_entry.A given flags row.time row.size (record { 0 = row.map_uid }) (record { 0 = row.guid }) words) → P (added_copy given row)
as_row given row flags words P f w h = subst (λ (n : ℕ). P (box_entry.A given n row.time row.size (record { 0 = row.map_uid }) (record { 0 = row.guid }) row.words)) f
    (subst (λ (ws : List (List ℕ)). P (box_entry.A given flags row.time row.size (record { 0 = row.map_uid }) (record { 0 = row.guid }) ws)) w h)

pub append_box-requires-clause-range : goal.append_box-requires-clause-range
append_box-requires-clause-range g c =
    let at = c.in_ok-row.ensures.found in
    let sound = row_sound _ c.args.store.now c.args.name.now c.args.uid.0 at.source (row_of c.in_ok-row.field-0.row.now) c.facts.ensures.store at.from in
    (omega (arith, at.some), (let f = c.bits.ensures.flags in omega (arith, f)), sound.time, (let n = sound.size in omega (arith, n)), sound.map_uid, sound.guid, subst (WordsInRange true) (sym c.in_ok-words.ensures.ok) (words_in_range _ sound.words))

pub append_box-requires-clause-fits : goal.append_box-requires-clause-fits
append_box-requires-clause-fits g c =
    let at = c.in_ok-row.ensures.found in
    let sound = row_sound _ c.args.store.now c.args.name.now c.args.uid.0 at.source (row_of c.in_ok-row.field-0.row.now) c.facts.ensures.store at.from in
    (at.m, at.to.numbered, (omega (arith, at.next_is), at.some, (let f = c.bits.ensures.flags in omega (arith, f)), sound.size, at.few, subst AreWords (sym c.in_ok-words.ensures.ok) sound.words))

pub append_box-requires-clause-record : goal.append_box-requires-clause-record
append_box-requires-clause-record g c =
    let at = c.in_ok-row.ensures.found in
    let k = record_of_row _ c.args.store.now c.args.name.now c.args.uid.0 at.source (row_of c.in_ok-row.field-0.row.now) c.facts.ensures.store at.from in
    All-cons (HasItsRecord c.args.store.now.map) _ [] (k.entry, k.found, k.guid_is) (All-nil (HasItsRecord c.args.store.now.map))

pub returns-in-Ok-clause-added : goal.returns-in-Ok-clause-added
returns-in-Ok-clause-added g c =
    let at = c.in_ok-row.ensures.found in
    let row = row_of c.in_ok-row.field-0.row.now in
    let same = from_source c.args.name.now at.source c.args.source.0 at.source c.args.store.now at.from.box.number_is (c.in_ok-row.ensures.source ∙ ap Some c.if-now-began.false) refl in
    let o = c.in-Ok.ensures in
    record {
      row = row;
      number = c.in_ok-row.field-0.target.0;
      at = at;
      source_is = same;
      holds = held_row c.args.store.now c.args.name.now c.args.uid.0 at.source c.args.source.0 c.args.held.0 row c.requires.keeps at.from same;
      took = as_row c.in_ok-row.field-0.next row c.bits.result c.in_ok-words.words (λ (e : BoxEntry). BoxTook c.in_ok-row.field-0.target.0 e c.args.store.now c.append_box.new.self (g.D.Disk.history c.args.store.now.disk) (g.D.Disk.history c.append_box.new.self.disk) (g.D.Disk.faults c.args.store.now.disk) (g.D.Disk.faults c.append_box.new.self.disk)) c.bits.ensures.same c.in_ok-words.ensures.ok (record {
        appends = record {
          moments = o.any_moment;
          map = ap (λ v. v.map) o.same;
          drawn = ap (λ v. v.drawn) o.same;
          files = ap (λ v. v.files) o.same;
          end = (let same = ap (λ v. v.map_log.end) o.same in omega (arith, same));
          room = (let same = ap (λ v. v.map_log.room) o.same in omega (arith, same));
          rest = o.same ∙ sym (ap (λ v. record c.args.store.now { disk = v.disk; map_log = v.map_log; map = v.map; boxes = v.boxes; drawn = v.drawn; dues = v.dues; stopped = v.stopped }) o.same);
          stays = o.mail_stays;
          grows = o.grows;
          reads = o.fault.reads;
          changes = o.fault.changes;
        };
        runs = not_true _ (λ e. ok_is_none _ (o.stopped.1 e));
        settled = o.settled;
        taken = o.taken;
        due = o.due;
        stored = o.stored;
        mail = o.others;
        unfailed = o.unfailed;
      });
    }

pub returns-in-Err-Stopped-clause-refused : goal.returns-in-Err-Stopped-clause-refused
returns-in-Err-Stopped-clause-refused g c =
    let at = c.in_ok-row.ensures.found in
    let row = row_of c.in_ok-row.field-0.row.now in
    let same = from_source c.args.name.now at.source c.args.source.0 at.source c.args.store.now at.from.box.number_is (c.in_ok-row.ensures.source ∙ ap Some c.if-now-began.false) refl in
    let o = c.in-Err-Stopped.ensures in
    record {
      row = row;
      number = c.in_ok-row.field-0.target.0;
      given = c.in_ok-row.field-0.next;
      at = at;
      source_is = same;
      holds = held_row c.args.store.now c.args.name.now c.args.uid.0 at.source c.args.source.0 c.args.held.0 row c.requires.keeps at.from same;
      fell = as_row c.in_ok-row.field-0.next row c.bits.result c.in_ok-words.words (λ (e : BoxEntry). BoxFell c.in_ok-row.field-0.target.0 e c.args.store.now c.append_box.new.self (g.D.Disk.history c.args.store.now.disk) (g.D.Disk.history c.append_box.new.self.disk) (g.D.Disk.faults c.args.store.now.disk) (g.D.Disk.faults c.append_box.new.self.disk)) c.bits.ensures.same c.in_ok-words.ensures.ok (record {
        appends = record {
          moments = o.any_moment;
          map = ap (λ v. v.map) o.same;
          drawn = ap (λ v. v.drawn) o.same;
          files = ap (λ v. v.files) o.same;
          end = (let same = ap (λ v. v.map_log.end) o.same in omega (arith, same));
          room = (let same = ap (λ v. v.map_log.room) o.same in omega (arith, same));
          rest = o.same ∙ sym (ap (λ v. record c.args.store.now { disk = v.disk; map_log = v.map_log; map = v.map; boxes = v.boxes; drawn = v.drawn; dues = v.dues; stopped = v.stopped }) o.same);
          stays = o.mail_stays;
          grows = o.grows;
          reads = o.fault.reads;
          changes = o.fault.changes;
        };
        stopped = o.stopped.0 (ap Err c.in-Err-Stopped.field-0-is);
        indexes = (o.untaken refl).0;
        dues = (o.untaken refl).1;
        rose = o.fault.rose (ap Err c.in-Err-Stopped.field-0-is);
      });
    }
