use Rattle.std.specs.Prelude.{IsErrOf}
use Rattle.std.proofs.Common.{rules, arith}
use Rattle.std.proofs.lemmas.Grind.{common_steps}
use Rattle.mdbox_base.specs.Words.{IsName}
use Rattle.request_text.specs.declared.command.Command.TheVariants as command
use Rattle.request_text.specs.declared.words.WordsError.TheVariants as words_error
use Rattle.request_text.proofs.WordsLemmas.{fetch_says}
use Rattle.request_text.proofs.words.read_fetch.Goals as goal

pub returns-in_err-name-clause-memory : goal.returns-in_err-name-clause-memory
returns-in_err-name-clause-memory c =
    let named : IsErrOf c.from_residual.result words_error.NoMemory → IsName c.args.name.now = first_of (search rules, grind (arith, common_steps)) in λ e.
    (command.Fetch c.args.name.now c.in-Some.uid, tt, fetch_says c.args.name.now c.args.uid.now c.in-Some.uid (named e) c.in-Some.ensures.some)
