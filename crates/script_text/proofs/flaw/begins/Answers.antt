use Rattle.std.proofs.Common.{drop, length}
use Rattle.std.proofs.lemmas.Bool.Decides.{Decides-eqb}
use Rattle.std.proofs.lemmas.Slice.Eq.{starts_is}
use Rattle.script_text.proofs.flaw.begins.Goals as goal

pub returns : goal.returns
returns c =
    let told = starts_is Decides-eqb c.args.text.now c.args.word.now c.starts_with.result c.starts_with.ensures.value in (
      (λ yes. (drop (length c.args.word.now) c.args.text.now, told.0 yes)),
      (λ e. told.1 e.0 e.1),
    )
