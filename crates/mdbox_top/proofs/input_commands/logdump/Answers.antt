use Rattle.std.proofs.Common.{refl}
use Rattle.mdbox_top.specs.InputRun.{LogDumpPrints, LogDumpRefuses}
use Rattle.mdbox_top.proofs.InputLemmas.{read_told, input_told, long_told}
use Rattle.mdbox_top.proofs.input_commands.logdump.Goals as goal

pub returns-in-Ok-clause-ends : goal.returns-in-Ok-clause-ends
returns-in-Ok-clause-ends g c =
    let told = read_told _ _ c.in-Ok.log c.in-Ok.ensures.octets c.in-Ok.ensures.end in
    input_told LogDumpPrints LogDumpRefuses (g.I.Source.left c.args.input.now) _ _ c.in-Ok.log c.dump_log.result told c.dump_log.ensures.ends

pub returns-in-Err-TooLong-clause-ends : goal.returns-in-Err-TooLong-clause-ends
returns-in-Err-TooLong-clause-ends g c =
    let told = rw c.in-Err-TooLong.field-0-is at c.in-Err-TooLong.ensures.refused in
    let l = long_told _ _ told.1.0 268435456 told.1.2 told.1.1 in
    rw c.in-Err-TooLong.limit-is ((l.0, l.1, (told.0, l.2)), refl)
