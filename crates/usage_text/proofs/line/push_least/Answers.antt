use Rattle.std.proofs.Common.{codes}
use Rattle.mdbox_base.specs.Numbers.{decimal_text}
use Rattle.usage_text.proofs.LineLemmas.{five_told}
use Rattle.usage_text.proofs.line.push_least.Goals as goal

pub returns : goal.returns
returns c =
    five_told c.push_all-3.result c.args.line.now (codes " takes at least ") (decimal_text c.args.count) (codes " words after it, not ") (decimal_text c.args.given) (codes "; mdbox --help names them")
    c.push_all.new.self c.push_decimal.new.out c.push_all-2.new.self c.push_decimal-2.new.out c.push_all-3.new.self
    c.in_ok-push_all.ensures.ok c.in_ok-push_decimal.ensures.ok c.in_ok-push_all-2.ensures.ok c.in_ok-push_decimal-2.ensures.ok c.push_all-3.ensures.ok
