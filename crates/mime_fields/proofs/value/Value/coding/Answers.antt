use Rattle.std.proofs.Common.{true, false}
use Rattle.mime_fields.proofs.AloneLemmas.{coding_is}
use Rattle.mime_fields.proofs.value.Value.coding.Goals as goal

pub returns-then-is_alone : goal.returns-then-is_alone
returns-then-is_alone c = coding_is c.args.self.now c.skip_blanks.new.self true c.skip_blanks.ensures.same c.if-is_alone.ensures

pub returns-else-is_alone : goal.returns-else-is_alone
returns-else-is_alone c = coding_is c.args.self.now c.skip_blanks.new.self false c.skip_blanks.ensures.same c.if-is_alone.ensures
