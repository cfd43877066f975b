use Rattle.std.proofs.Common.{refl, ap, ◌∙◌, List, ℕ, ◌++◌}
use Rattle.mime_parts.specs.declared.reader.Reader.{Reader}
use Rattle.mime_parts.proofs.ReaderLemmas.{head_ended, keeps_open, same_next, keeps_closed, full_line}
use Rattle.model_mime.specs.Lines.{line_in}
use Rattle.mime_parts.proofs.reader.Reader.pass.Goals as goal
use Rattle.mime_parts.proofs.reader.Reader.pass.Goals.{in-Head+then-line+in_ok-end_head, in-Head+else-line, in_default}

pub returns : goal.returns
returns c = elim c.match-self.branch [
  | in-Head+then-line+in_ok-end_head w ↦ head_ended c.args.message.now c.args.self.now _ c.args.line c.requires.read c.requires.line c.requires.none w.in-Head.start w.read_fields.result w.in-Head.is w.if-line.true w.read_fields.ensures
      (ap (λ (s : Reader). s.stack.items) w.self-is ∙ w.in_ok-end_head.ensures.stack) (ap (λ (s : Reader). s.place) w.self-is ∙ w.in_ok-end_head.ensures.place) refl (ap (λ (s : Reader). s.parts.items) w.self-is ∙ w.end_head.ensures.parts)
  | in-Head+else-line w ↦ same_next c.args.message.now c.args.self.now _ c.args.line c.requires.read c.requires.line c.requires.none (keeps_open c.args.message.now c.args.self.now.place (line_in c.args.message.now c.args.line) (full_line c.args.message.now c.args.line c.requires.line w.if-line.false))
      (ap (λ (s : Reader). s.place) w.self-is) (ap (λ (s : Reader). s.stack.items) w.self-is) refl (ap (λ (s : Reader). s.parts.items) w.self-is)
  | in_default w ↦ same_next c.args.message.now c.args.self.now _ c.args.line c.requires.read c.requires.line c.requires.none (keeps_closed c.args.message.now c.args.self.now.place (line_in c.args.message.now c.args.line) w.in_default.not-Head)
      (ap (λ (s : Reader). s.place) w.self-is) (ap (λ (s : Reader). s.stack.items) w.self-is) refl (ap (λ (s : Reader). s.parts.items) w.self-is)
]
