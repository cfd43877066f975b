use Rattle.std.proofs.Common.{inl, inr, sym, ◌∙◌}
use Rattle.std.proofs.lemmas.Bool.{true≢false}
use Rattle.box_snapshot.proofs.DueLogsLemmas.{map_anew, same_log_itself}
use Rattle.box_snapshot.proofs.RewritesLemmas.{rewrites_itself}
use Rattle.box_snapshot.proofs.due_logs.snapshot_due_map.Goals as goal

pub returns-else-map_due-clause-rewrites : goal.returns-else-map_due-clause-rewrites
returns-else-map_due-clause-rewrites g c = rewrites_itself g.D.Disk.history c.args.store.now

pub returns-in_ok-snapshot_map-clause-written : goal.returns-in_ok-snapshot_map-clause-written
returns-in_ok-snapshot_map-clause-written g c = λ due. map_anew _ c.args.store.now c.snapshot_map.new.store c.snapshot_map.ensures.same c.in_ok-snapshot_map.ensures.written

pub returns-in_ok-snapshot_map-clause-map_log : goal.returns-in_ok-snapshot_map-clause-map_log
returns-in_ok-snapshot_map-clause-map_log g c = inl (map_anew _ c.args.store.now c.snapshot_map.new.store c.snapshot_map.ensures.same c.in_ok-snapshot_map.ensures.written)

pub returns-else-map_due-clause-written : goal.returns-else-map_due-clause-written
returns-else-map_due-clause-written g c = λ due. absurd (true≢false (sym due ∙ (sym c.map_due.ensures ∙ c.if-map_due.false)))

pub returns-else-map_due-clause-map_log : goal.returns-else-map_due-clause-map_log
returns-else-map_due-clause-map_log g c = inr (same_log_itself c.args.store.now.map_log)
