use Rattle.std.proofs.Common.{◌+◌, ◌∙◌, arith}
use Rattle.std.specs.Prelude.{slice_set}
use Rattle.std.proofs.lemmas.List.{drop-set-lt}
use Rattle.b64_lines.proofs.WriterLemmas.{behind_later}
use Rattle.b64_lines.proofs.writer.put_line.Goals as goal

pub returns-then-crlf-clause-behind : goal.returns-then-crlf-clause-behind
returns-then-crlf-clause-behind c =
    let end = c.put_encoded-end.result in
    drop-set-lt (end + 2) (slice_set c.put_encoded-end.new.into end 13) (end + 1) 10 (omega arith) ∙ drop-set-lt (end + 2) c.put_encoded-end.new.into end 13 (omega arith)
    ∙ behind_later end (end + 2) c.args.into.now c.put_encoded-end.new.into (omega arith) c.put_encoded-end.ensures.behind
