use Rattle.std.proofs.Common.{length}
use Rattle.model_base64.specs.Base64Text.{line_break}
use Rattle.b64_lines.proofs.CutLemmas.{IsCut}
use Rattle.b64_lines.proofs.read.characters.Given as goal

abbrev pub invariant-loop-rest : goal.invariant-loop-rest
invariant-loop-rest l = IsCut l.text l.n (line_break l.crlf) l.rest l.out.items

abbrev pub decreases-loop-rest : goal.decreases-loop-rest
decreases-loop-rest l = length l.rest
