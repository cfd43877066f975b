use Rattle.resync_task.proofs.Common.{List, ℕ, sym, subst, listed_at}
use Rattle.store_core.specs.Beside.{StandBeside}
use Rattle.resync_task.proofs.UnlikeLemmas.{covers_seen, dues_seen, wrong_answered}
use Rattle.resync_task.proofs.counting.wrong_counts.Goals as goal

pub counts_unlike-requires-clause-due : goal.counts_unlike-requires-clause-due
counts_unlike-requires-clause-due g c = dues_seen (g.D.Disk.history c.args.store.now.disk) c.args.store.now c.map-2.result.now.meaning c.dues.result.now c.facts.ensures.store c.map-2.ensures c.dues.ensures

pub counts_unlike-requires-clause-covered : goal.counts_unlike-requires-clause-covered
counts_unlike-requires-clause-covered g c =
    covers_seen (g.D.Disk.history c.args.store.now.disk) c.args.store.now c.map-2.result.now.meaning c.deref.result.now c.dues.result.now c.facts.ensures.store c.map-2.ensures c.dues.ensures
    (subst (λ (ns : List ℕ). StandBeside (λ uid. listed_at uid c.args.store.now) c.args.store.now.map.records ns) (sym c.deref.ensures.value) c.in_ok-listed.ensures)

pub returns : goal.returns
returns g c =
    wrong_answered (g.D.Disk.history c.args.store.now.disk) c.args.store.now c.map-2.result.now.meaning c.deref.result.now c.dues.result.now c.counts_unlike.result c.facts.ensures.store c.map-2.ensures c.dues.ensures
    (subst (λ (ns : List ℕ). StandBeside (λ uid. listed_at uid c.args.store.now) c.args.store.now.map.records ns) (sym c.deref.ensures.value) c.in_ok-listed.ensures) c.counts_unlike.ensures
