use Rattle.std.proofs.Common.{List, sym, subst, ap}
use Rattle.model_meaning.specs.BoxMeaning.{BoxMeaning}
use Rattle.model_meaning.specs.MapMeaning.{map_meaning}
use Rattle.store_open.proofs.DueLogLemmas.{carried_anew, closed_anew, files_anew, instances_anew, kept_anew, memory_anew, opened_anew, runs_on, safe_anew, settled_anew, shows_anew, swept_anew}
use Rattle.store_open.proofs.FoundFileLemmas.{files_untaken}
use Rattle.store_open.proofs.IdleUnlessLemmas.{has_it, opening}
use Rattle.store_open.proofs.SweptStoreLemmas.{all_opened}
use Rattle.store_open.specs.Opened.{HasNoLogDue, IsClosedWell, IsOpenedAs, Opening}
use Rattle.store_sweep.proofs.IdleSweepLemmas.{idle_if, idle_parts}
use Rattle.store_open.proofs.open.open_store.Goals as goal

pub of-requires-clause-untaken : goal.of-requires-clause-untaken
of-requires-clause-untaken g c = files_untaken c.in-Ok.field-0.logs.map.meaning (g.D.Disk.history c.args.disk) c.in-Ok.field-0.files c.in-Ok.ensures.files

pub of-requires-clause-instances : goal.of-requires-clause-instances
of-requires-clause-instances g c = c.in-Ok.ensures.known c.args.lanes c.requires.lanes.0 c.requires.lanes.1

pub returns-in-Err-clause-settled_again : goal.returns-in-Err-clause-settled_again
returns-in-Err-clause-settled_again g c = λ none lists s. c.in-Err.ensures.settled_again (λ fault. none (cc fault)) lists s

pub returns-in-Err-clause-carried : goal.returns-in-Err-clause-carried
returns-in-Err-clause-carried g c = λ none. all_opened _ _ (c.in-Err.ensures.carried (λ fault. none (cc fault)))

pub returns-in-Err-clause-memory : goal.returns-in-Err-clause-memory
returns-in-Err-clause-memory g c = λ memory. idle_if HasNoLogDue _ _ (c.in-Err.ensures.idle (λ fault. cc (fault, memory)))

-- the store

pub returns-in-Ok-clause-opened : goal.returns-in-Ok-clause-opened
returns-in-Ok-clause-opened g c =
    opened_anew g.D.Disk.history c.of.result c.write_due_logs.result (g.D.Disk.history c.args.disk) c.write_due_logs.ensures.written
    (subst (λ (ms : List BoxMeaning). IsOpenedAs (g.D.Disk.history c.args.disk) c.of.result.map ms) (sym c.of.ensures.indexes) (rw c.of.ensures.store c.in-Ok.ensures.opened))

pub returns-in-Ok-clause-files : goal.returns-in-Ok-clause-files
returns-in-Ok-clause-files g c = files_anew g.D.Disk.history c.of.result c.write_due_logs.result (g.D.Disk.history c.args.disk) c.write_due_logs.ensures.written (rw c.of.ensures.store c.in-Ok.ensures.files)

pub returns-in-Ok-clause-instances : goal.returns-in-Ok-clause-instances
returns-in-Ok-clause-instances g c = instances_anew g.D.Disk.history c.of.result c.write_due_logs.result c.write_due_logs.ensures.written (rw c.of.ensures.store c.in-Ok.ensures.instances)

pub returns-in-Ok-clause-shows : goal.returns-in-Ok-clause-shows
returns-in-Ok-clause-shows g c = shows_anew g.D.Disk.history c.of.result c.write_due_logs.result (g.D.Disk.history c.args.disk) c.write_due_logs.ensures.written (λ lists s. rw c.of.ensures.indexes (rw c.of.ensures.store (c.in-Ok.ensures.shows lists s)))

pub returns-in-Ok-clause-swept : goal.returns-in-Ok-clause-swept
returns-in-Ok-clause-swept g c = swept_anew g.D.Disk.history c.of.result c.write_due_logs.result (g.D.Disk.history c.args.disk) c.in-Ok.ensures.swept.0 c.write_due_logs.ensures.written (rw c.of.ensures.store c.in-Ok.ensures.swept.1) (rw c.of.ensures.store c.in-Ok.ensures.swept.2)

-- where no change failed

pub returns-in-Ok-clause-settled_again : goal.returns-in-Ok-clause-settled_again
returns-in-Ok-clause-settled_again g c = λ none lists s.
    settled_anew g.D.Disk.history c.of.result c.write_due_logs.result lists c.write_due_logs.ensures.written
    (runs_on g.D.Disk.history c.of.result c.write_due_logs.result (g.D.Disk.faults c.args.disk) (g.D.Disk.faults c.of.result.disk) _ c.write_due_logs.ensures.written (rw c.of.ensures.store (c.in-Ok.ensures.unfailed (λ e. cc e))) c.write_due_logs.ensures.fault none)
    (rw c.of.ensures.store (c.in-Ok.ensures.settled_again (λ fault. absurd (cc fault)) lists s))

pub returns-in-Ok-clause-carried : goal.returns-in-Ok-clause-carried
returns-in-Ok-clause-carried g c = λ none.
    carried_anew g.D.Disk.history c.of.result c.write_due_logs.result (g.D.Disk.history c.args.disk) c.rewritten_stores_are_safe.ensures.on c.rewritten_stores_open_again.ensures.carried c.write_due_logs.ensures.written (ap (λ s. s.stopped) c.of.ensures.store)
    (runs_on g.D.Disk.history c.of.result c.write_due_logs.result (g.D.Disk.faults c.args.disk) (g.D.Disk.faults c.of.result.disk) _ c.write_due_logs.ensures.written (rw c.of.ensures.store (c.in-Ok.ensures.unfailed (λ e. cc e))) c.write_due_logs.ensures.fault none) c.write_due_logs.ensures.idle
    (rw c.of.ensures.store (c.in-Ok.ensures.carried (λ fault. absurd (cc fault))))

-- at every moment

pub returns-in-Ok-clause-any_moment : goal.returns-in-Ok-clause-any_moment
returns-in-Ok-clause-any_moment g c = λ lists s.
    safe_anew g.D.Disk.history c.of.result c.write_due_logs.result (g.D.Disk.history c.args.disk) lists c.write_due_logs.ensures.written (rw c.of.ensures.store (c.in-Ok.ensures.settled_again (λ fault. absurd (cc fault)) lists s)) (rw c.of.ensures.store (c.in-Ok.ensures.any_moment lists s))

pub returns-in-Ok-clause-mail_stays : goal.returns-in-Ok-clause-mail_stays
returns-in-Ok-clause-mail_stays g c = λ store entries logs opens.
    kept_anew g.D.Disk.history c.of.result c.write_due_logs.result (g.D.Disk.history c.args.disk) (map_meaning store entries) c.write_due_logs.ensures.written (g.met.D.Disk.reads_image c.of.result.disk) (rw c.of.ensures.store (c.in-Ok.ensures.mail_stays store entries logs opens))

-- a store that was closed well, and files that don't open

pub returns-in-Ok-clause-closed_well : goal.returns-in-Ok-clause-closed_well
returns-in-Ok-clause-closed_well g c =
    idle_parts IsClosedWell IsClosedWell (g.D.Disk.history c.args.disk) (g.D.Disk.history c.of.result.disk) _ (λ disk p. p) (rw c.of.ensures.store c.in-Ok.ensures.closed_well)
    (closed_anew g.D.Disk.history c.of.result c.write_due_logs.result c.write_due_logs.ensures.written (ap (λ s. s.stopped) c.of.ensures.store) c.write_due_logs.ensures.idle)

pub returns-in-Ok-clause-untouched : goal.returns-in-Ok-clause-untouched
returns-in-Ok-clause-untouched g c = let o = c.in-Ok.ensures.opened in has_it Opening (g.D.Disk.history c.args.disk) _ (opening _ _ o.entries o.logs o.opens)

pub returns-in-Ok-clause-memory : goal.returns-in-Ok-clause-memory
returns-in-Ok-clause-memory g c =
    let o = c.in-Ok.ensures.opened in
    memory_anew g.D.Disk.history c.of.result c.write_due_logs.result (g.D.Disk.history c.args.disk) c.in-Ok.field-0.logs.map.meaning.store o.entries o.logs c.write_due_logs.ensures.written (ap (λ s. s.stopped) c.of.ensures.store) c.write_due_logs.ensures.idle o.opens
    (rw c.of.ensures.store (c.in-Ok.ensures.carried (λ fault. absurd (cc fault))))
