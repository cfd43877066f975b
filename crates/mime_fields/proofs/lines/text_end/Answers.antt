use Rattle.mime_fields.proofs.LineLemmas.{crlf_before, lf_before, lf_alone}
use Rattle.mime_fields.proofs.lines.text_end.Goals as goal
use Rattle.mime_fields.proofs.lines.text_end.Goals.{else-at-gt0-via-then-at-gt0+else-rest-at-eq13, else-at-gt0-via-else-at-gt0}

pub returns-then-rest-at-eq13-clause-text : goal.returns-then-rest-at-eq13-clause-text
returns-then-rest-at-eq13-clause-text c = crlf_before c.args.rest.now c.args.at c.if-at-gt0.true c.requires.at c.requires.lf c.if-rest-at-eq13.true

pub returns-else-at-gt0-clause-text : goal.returns-else-at-gt0-clause-text
returns-else-at-gt0-clause-text c =
    elim c.else-at-gt0.branch [
      | else-at-gt0-via-then-at-gt0+else-rest-at-eq13 w ↦ lf_before c.args.rest.now c.args.at w.if-at-gt0.true c.requires.at c.requires.lf w.if-rest-at-eq13.false
      | else-at-gt0-via-else-at-gt0 w ↦ lf_alone c.args.rest.now c.args.at w.if-at-gt0.false c.requires.at c.requires.lf
    ]
