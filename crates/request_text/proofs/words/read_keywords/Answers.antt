use Rattle.std.specs.Prelude.{IsErrOf}
use Rattle.std.proofs.Common.{rules, arith, map, string_bytes}
use Rattle.std.proofs.lemmas.Grind.{common_steps}
use Rattle.mdbox_base.specs.Keywords.{CanBeWords}
use Rattle.mdbox_base.specs.Words.{IsName}
use Rattle.request_text.specs.declared.command.Command.TheVariants as command
use Rattle.request_text.specs.declared.words.WordsError.TheVariants as words_error
use Rattle.request_text.proofs.GivenWordLemmas.{given_are, given_can}
use Rattle.request_text.proofs.WordsLemmas.{keywords_says, no_keywords}
use Rattle.request_text.proofs.words.read_keywords.Goals as goal
use Rattle.request_text.proofs.words.read_keywords.Goals.{then-not-are_keywords-via-then-not-are_keywords, then-not-are_keywords-via-else-not-are_keywords+then-not-are_few}

pub returns-then-not-are_keywords-clause-usage : goal.returns-then-not-are_keywords-clause-usage
returns-then-not-are_keywords-clause-usage c = λ _. no_keywords c.args.name.now c.args.uid.now (map string_bytes c.args.keywords.now) (λ u texts name number uid of.
    let can : CanBeWords (map string_bytes c.args.keywords.now) = given_can (map string_bytes c.args.keywords.now) texts of in
    elim c.then-not-are_keywords.branch [
      | then-not-are_keywords-via-then-not-are_keywords w ↦ (let yes = c.are_keywords.ensures.1 can.each in let false = w.if-not-are_keywords.true in cc (yes, false))
      | then-not-are_keywords-via-else-not-are_keywords+then-not-are_few w ↦ (let yes = w.are_few.ensures.1 can.few in let false = w.if-not-are_few.true in cc (yes, false))
    ])

pub returns-in_err-name-clause-memory : goal.returns-in_err-name-clause-memory
returns-in_err-name-clause-memory c =
    let given = map string_bytes c.args.keywords.now in
    let can : CanBeWords given = record { each = c.are_keywords.ensures.0 c.if-not-are_keywords.false; few = c.are_few.ensures.0 c.if-not-are_few.false } in
    let texts = given_are given can in
    let named : IsErrOf c.from_residual.result words_error.NoMemory → IsName c.args.name.now = first_of (search rules, grind (arith, common_steps)) in
    λ e. (command.Keywords c.args.name.now c.in-Some.uid texts.0, tt, keywords_says c.args.name.now c.args.uid.now given texts.0 c.in-Some.uid (named e) c.in-Some.ensures.some texts.1)

pub returns-in_err-words-clause-memory : goal.returns-in_err-words-clause-memory
returns-in_err-words-clause-memory c =
    let given = map string_bytes c.args.keywords.now in
    let can : CanBeWords given = record { each = c.are_keywords.ensures.0 c.if-not-are_keywords.false; few = c.are_few.ensures.0 c.if-not-are_few.false } in
    let texts = given_are given can in
    λ e. (command.Keywords c.args.name.now c.in-Some.uid texts.0, tt, keywords_says c.args.name.now c.args.uid.now given texts.0 c.in-Some.uid c.in_ok-name.ensures.says.1 c.in-Some.ensures.some texts.1)
