use Rattle.std.proofs.Common.{◌∙◌, sym}
use Rattle.mime_fields.proofs.ReadingLemmas.{too_long}
use Rattle.mime_fields.proofs.held.Held.into_kind.Goals as goal

pub returns-in-TooLong : goal.returns-in-TooLong
returns-in-TooLong c = λ text e. too_long text (sym c.in-TooLong.is ∙ e)
