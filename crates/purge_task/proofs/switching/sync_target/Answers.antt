use Rattle.purge_task.proofs.Common.{ap, idle-begins, StoreValue}
use Rattle.model_kept.proofs.KeptLemmas.{kept_begins}
use Rattle.purge_task.proofs.ReadingLemmas.{idle_leaves}
use Rattle.purge_task.proofs.SwitchedLemmas.{firm_synced, begins_kept, kept_synced}
use Rattle.purge_task.proofs.switching.sync_target.Goals as goal

pub returns-in_default-clause-any_moment : goal.returns-in_default-clause-any_moment
returns-in_default-clause-any_moment g c = λ lists settled. idle_leaves lists _ _ (idle-begins (g.D.Disk.history c.args.store.now.disk)) settled

pub returns-in_default-clause-mail_stays : goal.returns-in_default-clause-mail_stays
returns-in_default-clause-mail_stays g c = kept_begins c.args.store.now.map (g.D.Disk.history c.args.store.now.disk)

pub returns-in-Ok-clause-firm : goal.returns-in-Ok-clause-firm
returns-in-Ok-clause-firm g c = firm_synced c.in-Some.target.0 c.args.store.now c.end_place.new.self _ _ (ap (λ (v : StoreValue _). v.instances) c.in-Ok.ensures.ok) (ap (λ (v : StoreValue _). v.map) c.in-Ok.ensures.ok) c.in-Ok.ensures.others

pub returns-in_default-clause-kept : goal.returns-in_default-clause-kept
returns-in_default-clause-kept g c = rw c.in_default.is (begins_kept (g.D.Disk.history c.args.store.now.disk))

pub returns-in-Ok-clause-kept : goal.returns-in-Ok-clause-kept
returns-in-Ok-clause-kept g c = rw c.in-Some.is (kept_synced c.in-Some.target _ _ c.in-Ok.ensures.others)
