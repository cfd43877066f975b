use Rattle.model_mime.specs.Lines.{texts}
use Rattle.mime_fields.proofs.ReadingLemmas.{no_token, token_taken}
use Rattle.mime_fields.proofs.value.Value.token.Goals as goal

pub returns-then-size-eq0-clause-none : goal.returns-then-size-eq0-clause-none
returns-then-size-eq0-clause-none c = rw (← c.self.view_is) (no_token c.self.inside.line.now (texts c.self.inside.below.now) c.token_size-size.result c.token_size-size.ensures.size c.if-size-eq0.true)

pub returns-clause-some : goal.returns-clause-some
returns-clause-some c = rw (← c.self.view_is) (token_taken c.self.inside.line.now c.split_at.result.0.now c.split_at.result.1.now (texts c.self.inside.below.now) c.token_size-size.result c.token_size-size.ensures.size c.if-size-eq0.false c.split_at.ensures.front c.split_at.ensures.back)
