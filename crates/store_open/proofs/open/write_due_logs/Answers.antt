use Rattle.std.proofs.Common.{inl, inr, refl, ◌∙◌}
use Rattle.store_open.proofs.DueLogLemmas.{goes_on, step_refused, stopped_is}
use Rattle.store_open.proofs.open.write_due_logs.Goals as goal

pub returns-in-Ok-clause-written : goal.returns-in-Ok-clause-written
returns-in-Ok-clause-written g c = record {
  new = c.snapshot_due-written.new.store;
  was = c.facts.ensures.store;
  is = c.facts-2.ensures.store;
  rewrites = c.in-Ok.ensures.rewrites;
  disk = refl;
  running = λ none. goes_on _ _ c.snapshot_due-written.ensures.stopped (λ stopped. cc (stopped, c.in-Ok.is));
  opened = (refl, c.in-Ok.ensures.undue, c.in-Ok.ensures.only);
  refused = tt;
}

pub returns-in-Err-clause-written : goal.returns-in-Err-clause-written
returns-in-Err-clause-written g c = record {
  new = c.snapshot_due-written.new.store;
  was = c.facts.ensures.store;
  is = c.facts-2.ensures.store;
  rewrites = c.snapshot_due-written.ensures.rewrites;
  disk = c.into_disk.ensures;
  running = λ none. goes_on _ _ c.snapshot_due-written.ensures.stopped (λ stopped. none (c.from.ensures ∙ stopped_is _ _ c.in-Err.is stopped));
  opened = tt;
  refused = elim (step_refused c.in-Err.error) [ inl fault ↦ inl (c.from.ensures ∙ fault) | inr memory ↦ inr (c.from.ensures ∙ memory) ];
}
