use Rattle.std.specs.Prelude.{Option, Some, None, IsNone, IfNone}
use Rattle.std.proofs.Common.{refl}
use Rattle.model_mime.specs.declared.mime.Line.{Line}
use Rattle.mime_parts.proofs.ReaderLemmas.{end_all}
use Rattle.mime_parts.proofs.reader.Reader.next_line.Goals as goal

where_none : (o : Option Line) {P : Type 0} → (IsNone o → P) → IfNone o P
where_none None f = f refl
where_none (Some line) f = tt

pub returns-clause-end : goal.returns-clause-end
returns-clause-end c = where_none c.next_line.result (λ none. end_all c.args.message.now c.args.self.now c.args.at (c.next_line.ensures.none.0 none))
