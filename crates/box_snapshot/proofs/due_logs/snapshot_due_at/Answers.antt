use Rattle.std.proofs.Common.{sym, ◌∙◌}
use Rattle.std.proofs.lemmas.Bool.{true≢false}
use Rattle.box_snapshot.proofs.DueLogsLemmas.{box_written, kept_written, none_due, once_then, same_log_itself, shown_at, undue_next, undue_written}
use Rattle.box_snapshot.proofs.RewritesLemmas.{rewrites_itself}
use Rattle.box_snapshot.proofs.due_logs.snapshot_due_at.Goals as goal

pub returns-in_err-snapshot_box-clause-idle : goal.returns-in_err-snapshot_box-clause-idle
returns-in_err-snapshot_box-clause-idle g c = λ undue.
    absurd (true≢false (sym c.if-box_due.true ∙ (c.box_due.ensures ∙ none_due c.in-Some.mailbox.number.0 c.args.store.now.boxes undue)))

pub returns-in_ok-snapshot_box-clause-undue : goal.returns-in_ok-snapshot_box-clause-undue
returns-in_ok-snapshot_box-clause-undue g c = λ before.
    let there = shown_at _ c.args.place c.in-Some.mailbox c.args.store.now.map _ c.args.store.now.boxes c.facts.ensures.store.box_logs c.known_facts.ensures.boxes.rising c.map-map.ensures (sym c.in-Some.is ∙ c.box_at.ensures) in
    let did = c.in_ok-snapshot_box.ensures.written in
    undue_written c.args.place c.in-Some.mailbox.number.0 did.now c.args.store.now.boxes c.snapshot_box.new.store.boxes there did.boxes (box_written did.before did.now did.count did.means) before

pub returns-in_ok-snapshot_box-clause-kept : goal.returns-in_ok-snapshot_box-clause-kept
returns-in_ok-snapshot_box-clause-kept g c = kept_written c.in-Some.mailbox.number.0 _ c.args.store.now c.snapshot_box.new.store (sym c.box_due.ensures ∙ c.if-box_due.true) c.in_ok-snapshot_box.ensures.written

pub returns-in_ok-snapshot_box-clause-idle : goal.returns-in_ok-snapshot_box-clause-idle
returns-in_ok-snapshot_box-clause-idle g c = λ undue.
    absurd (true≢false (sym c.if-box_due.true ∙ (c.box_due.ensures ∙ none_due c.in-Some.mailbox.number.0 c.args.store.now.boxes undue)))

pub returns-else-box_due-clause-rewrites : goal.returns-else-box_due-clause-rewrites
returns-else-box_due-clause-rewrites g c = rewrites_itself g.D.Disk.history c.args.store.now

pub returns-else-box_due-clause-undue : goal.returns-else-box_due-clause-undue
returns-else-box_due-clause-undue g c = λ before.
    let there = shown_at _ c.args.place c.in-Some.mailbox c.args.store.now.map _ c.args.store.now.boxes c.facts.ensures.store.box_logs c.known_facts.ensures.boxes.rising c.map-map.ensures (sym c.in-Some.is ∙ c.box_at.ensures) in
    undue_next c.args.place c.in-Some.mailbox.number.0 c.args.store.now.boxes there (sym c.box_due.ensures ∙ c.if-box_due.false) before

pub returns-in_ok-snapshot_box-clause-once : goal.returns-in_ok-snapshot_box-clause-once
returns-in_ok-snapshot_box-clause-once g c =
    λ first before. once_then c.in-Some.mailbox.number.0 _ first c.args.store.now c.snapshot_box.new.store (sym c.box_due.ensures ∙ c.if-box_due.true) c.in_ok-snapshot_box.ensures.written before

pub returns-in_ok-snapshot_box-clause-map_log : goal.returns-in_ok-snapshot_box-clause-map_log
returns-in_ok-snapshot_box-clause-map_log g c = c.in_ok-snapshot_box.ensures.written.map_log

pub returns-else-box_due-clause-map_log : goal.returns-else-box_due-clause-map_log
returns-else-box_due-clause-map_log g c = same_log_itself c.args.store.now.map_log
