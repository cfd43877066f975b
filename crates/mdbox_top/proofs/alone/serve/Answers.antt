use Rattle.std.proofs.Common.{inr, sym, ◌∙◌}
use Rattle.request_text.specs.ReplyText.{single_text}
use Rattle.mdbox_top.proofs.InitLemmas.{opening_fault, counted_as}
use Rattle.mdbox_top.proofs.ServeLemmas.{shows_text, served_rests, served_fault, served_quiet, unopened_ends, unopened_leaves, unopened_rests, unopened_quiet}
use Rattle.mdbox_top.proofs.alone.serve.Goals as goal

pub returns-in-Ok-clause-ends : goal.returns-in-Ok-clause-ends
returns-in-Ok-clause-ends g c = inr (record {
  given = c.in-Ok.reply;
  journal = c.in-Ok.ensures.served.0;
  done = c.in-Ok.ensures.served.1;
  worked = c.in-Ok.ensures.served.2;
  tells = c.in-Ok.ensures.done.tells;
  faults = c.in-Ok.ensures.done.faults;
  printed = shows_text c.args.request c.in-Ok.reply _ _ _ c.print_outcome.result c.prints_octets-octets_alone.ensures c.print_outcome.ensures.shown;
})

pub returns-in-Ok-clause-moments : goal.returns-in-Ok-clause-moments
returns-in-Ok-clause-moments g c = c.in-Ok.ensures.done.moments

pub returns-in-Ok-clause-rests : goal.returns-in-Ok-clause-rests
returns-in-Ok-clause-rests g c = served_rests c.args.request (single_text c.args.request c.in-Ok.reply) c.in-Ok.reply _ _ _ _ _ _ c.print_outcome.result c.in-Ok.ensures.done (shows_text c.args.request c.in-Ok.reply _ _ _ c.print_outcome.result c.prints_octets-octets_alone.ensures c.print_outcome.ensures.shown)

pub returns-in-Ok-clause-disk_fault : goal.returns-in-Ok-clause-disk_fault
returns-in-Ok-clause-disk_fault g c = served_fault c.args.request (single_text c.args.request c.in-Ok.reply) c.in-Ok.reply _ _ _ _ _ _ c.print_outcome.result c.in-Ok.ensures.done (shows_text c.args.request c.in-Ok.reply _ _ _ c.print_outcome.result c.prints_octets-octets_alone.ensures c.print_outcome.ensures.shown)

pub returns-in-Ok-clause-disk_quiet : goal.returns-in-Ok-clause-disk_quiet
returns-in-Ok-clause-disk_quiet g c = served_quiet c.args.request (single_text c.args.request c.in-Ok.reply) c.in-Ok.reply _ _ _ _ _ _ c.print_outcome.result c.in-Ok.ensures.done (shows_text c.args.request c.in-Ok.reply _ _ _ c.print_outcome.result c.prints_octets-octets_alone.ensures c.print_outcome.ensures.shown)

pub returns-in-Err-clause-ends : goal.returns-in-Err-clause-ends
returns-in-Err-clause-ends g c = rw c.outcome_of.ensures (unopened_ends c.args.request _ _ _ _ _ c.in-Err.field-0.error c.in-Err.ensures.refused)

pub returns-in-Err-clause-moments : goal.returns-in-Err-clause-moments
returns-in-Err-clause-moments g c = unopened_leaves c.args.request _ _ _ _ c.in-Err.field-0.error c.in-Err.ensures.refused

pub returns-in-Err-clause-rests : goal.returns-in-Err-clause-rests
returns-in-Err-clause-rests g c = rw c.outcome_of.ensures (unopened_rests c.args.request _ _ _ _ c.in-Err.field-0.error c.in-Err.ensures.refused)

pub returns-in-Err-clause-disk_fault : goal.returns-in-Err-clause-disk_fault
returns-in-Err-clause-disk_fault g c = counted_as _ _ _ _ (λ e. opening_fault c.in-Err.field-0.error (sym c.outcome_of.ensures ∙ e)) c.in-Err.ensures.refused.fault

pub returns-in-Err-clause-disk_quiet : goal.returns-in-Err-clause-disk_quiet
returns-in-Err-clause-disk_quiet g c = rw c.outcome_of.ensures (unopened_quiet c.args.request _ _ _ _ c.in-Err.field-0.error c.in-Err.ensures.refused)
