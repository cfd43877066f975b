use Rattle.std.proofs.Common.{refl}
use Rattle.dbox_file.proofs.message.message_at.Goals as goal

pub returns-in-Err-Short : goal.returns-in-Err-Short
returns-in-Err-Short c =
    let flaw = rw (c.split_at.ensures.back, c.in-Err-Short.field-0-is) at c.in-Err-Short.ensures.flaw in
    (refl, flaw.0, flaw.1)
