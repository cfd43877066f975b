use Rattle.std.proofs.Common.{◌≡◌, Some, ap, sym, subst}
use Rattle.std.proofs.lemmas.Result.{on_ok_weaker}
use Rattle.mdbox_base.specs.declared.ids.BoxNo.{BoxNo}
use Rattle.model_meaning.specs.MapMeaning.{box_at}
use Rattle.store_core.specs.Value.{list_numbered}
use Rattle.box_snapshot.proofs.BoxSwitchLemmas.{before_draft, box_switched_rewrites, box_written_anew, on_ok_both, on_ok_three, only_switched}
use Rattle.box_snapshot.proofs.box_log.switched.Goals as goal

pub returns-clause-rewrites : goal.returns-clause-rewrites
returns-clause-rewrites g c =
    let e = c.switch_box.ensures in
    let v = c.args.store.now in
    let draft = c.args.draft in
    let o = before_draft _ v c.args.mailbox.0 draft.generation c.known_counts.ensures.store c.requires.generation in
    let number = ap (λ (n : BoxNo). n.0) c.requires.number in
    let means = subst (λ (n : BoxNo). list_numbered v n.0 ≡ Some draft.index.meaning) (sym c.requires.number) c.requires.means in
    let there = subst (λ (n : BoxNo). box_at v.map n.0 ≡ Some o.0.box) (sym c.requires.number) o.0.there in
    box_switched_rewrites g.D.Disk.history v c.switch_box.new.self draft c.switch_box.result o.0.box c.known_counts.ensures.store c.requires.filled.drafted e.means (e.same_indexes means) e.same (e.same_lists means) e.mail_stays e.grows e.stopped e.memory
    (on_ok_weaker c.switch_box.result (λ others. others o.0.box there) e.others) e.names

pub returns-clause-written : goal.returns-clause-written
returns-clause-written g c =
    let e = c.switch_box.ensures in
    let v = c.args.store.now in
    let draft = c.args.draft in
    let o = before_draft _ v c.args.mailbox.0 draft.generation c.known_counts.ensures.store c.requires.generation in
    let there = subst (λ (n : BoxNo). box_at v.map n.0 ≡ Some o.0.box) (sym c.requires.number) o.0.there in
    let written = box_written_anew (g.D.Disk.history v.disk) (g.D.Disk.history c.switch_box.new.self.disk) v c.switch_box.new.self c.args.mailbox draft o.0 o.1 c.requires.filled c.requires.number c.requires.means e.same_log in
    on_ok_three c.switch_box.result (λ log taken gone. log taken (gone o.0.box there)) (on_ok_both c.switch_box.result written e.boxes e.reads) e.taken e.gone

pub returns-clause-only : goal.returns-clause-only
returns-clause-only g c =
    let e = c.switch_box.ensures in
    let v = c.args.store.now in
    let draft = c.args.draft in
    let o = before_draft _ v c.args.mailbox.0 draft.generation c.known_counts.ensures.store c.requires.generation in
    let there = subst (λ (n : BoxNo). box_at v.map n.0 ≡ Some o.0.box) (sym c.requires.number) o.0.there in
    on_ok_three c.switch_box.result
    (λ taken others gone. only_switched (g.D.Disk.history v.disk) v c.switch_box.new.self c.args.mailbox draft (g.D.Disk.history v.disk) (g.D.Disk.history c.switch_box.new.self.disk) c.known_counts.ensures.store o.0 c.requires.number c.requires.filled.drafted.name taken e.same_log
    (others o.0.box there) (gone o.0.box there))
    e.taken e.others e.gone
