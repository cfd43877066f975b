use Rattle.std.proofs.Common.{◌∙◌}
use Rattle.std.proofs.lemmas.Result.{on_ok_weaker, on_err_weaker}
use Rattle.mdbox_top.specs.InputRun.{DumpPrints, DumpRefuses}
use Rattle.mdbox_top.proofs.InputLemmas.{printed_ends, printed_quiet}
use Rattle.mdbox_top.proofs.input_commands.dump_file.Goals as goal

pub returns-in-Ok-clause-ends : goal.returns-in-Ok-clause-ends
returns-in-Ok-clause-ends g c =
    rw c.printed.ensures (printed_ends DumpPrints DumpRefuses c.args.file.now _ _ c.print_messages.result
    (on_ok_weaker c.print_messages.result (λ d. (d.0, (c.requires, d.1), d.2)) c.print_messages.ensures.ok)
    (on_err_weaker c.print_messages.result (λ d. (d.0, (c.requires, d.1), d.2)) c.print_messages.ensures.err))

pub returns-in-Ok-clause-write_quiet : goal.returns-in-Ok-clause-write_quiet
returns-in-Ok-clause-write_quiet g c = λ no. printed_quiet c.print_messages.result _ _ c.print_messages.ensures.quiet c.print_messages.ensures.cause (λ e. no (c.printed.ensures ∙ e))
