use Rattle.std.proofs.Common.{ℕ, List, refl, ◌∙◌, subst}
use Rattle.std.proofs.lemmas.Result.{on_ok_weaker, on_err_weaker}
use Rattle.model_logs.specs.LogFile.{IsLog}
use Rattle.dump_text.specs.LogDumpText.{log_dump_text}
use Rattle.mdbox_top.specs.InputRun.{LogDumpPrints, LogDumpRefuses}
use Rattle.mdbox_top.proofs.InputLemmas.{printed_ends, printed_quiet}
use Rattle.mdbox_top.proofs.input_commands.dump_log.Goals as goal

pub returns-in-Ok-clause-ends : goal.returns-in-Ok-clause-ends
returns-in-Ok-clause-ends g c =
    let log = c.in-Ok.ensures.checked in
    let text = log_dump_text c.in-Ok.text.head log.0 in
    let whole : IsLog c.args.log c.in-Ok.text.head log.0 = subst (λ (octets : List ℕ). IsLog octets c.in-Ok.text.head log.0) log.2 log.1.log in
    let prints : LogDumpPrints c.args.log text = (c.requires, (c.in-Ok.text.head, log.0, whole, refl)) in
    rw c.printed.ensures (printed_ends LogDumpPrints LogDumpRefuses c.args.log _ _ c.print_log.result
    (on_ok_weaker c.print_log.result (λ a. (text, prints, a log.0 log.1)) c.print_log.ensures.ok)
    (on_err_weaker c.print_log.result (λ a. (text, prints, a log.0 log.1)) c.print_log.ensures.err))

pub returns-in-Ok-clause-write_quiet : goal.returns-in-Ok-clause-write_quiet
returns-in-Ok-clause-write_quiet g c = λ no. printed_quiet c.print_log.result _ _ c.print_log.ensures.quiet c.print_log.ensures.cause (λ e. no (c.printed.ensures ∙ e))
