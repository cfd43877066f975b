use Rattle.purge_task.proofs.Common.{◌≡◌, true, false, sym, ◌∙◌}
use Rattle.purge_task.proofs.HeaderLemmas.{line_found, line_refused}
use Rattle.purge_task.proofs.contents.is_header_line.Goals as goal

pub returns-in-Ok-clause-line : goal.returns-in-Ok-clause-line
returns-in-Ok-clause-line c = line_found c.args.octets.now c.in-Ok.messages c.length.result c.in-Ok.ensures.gives c.in-Ok.ensures.exactly c.length.ensures

pub returns-else-lacks_memory-clause-line : goal.returns-else-lacks_memory-clause-line
returns-else-lacks_memory-clause-line c = line_refused c.args.octets.now c.in-Err.why (λ memory. let w : true ≡ false = sym (c.lacks_memory.ensures.1 memory) ∙ c.if-lacks_memory.false in cc w) c.in-Err.ensures.exactly
