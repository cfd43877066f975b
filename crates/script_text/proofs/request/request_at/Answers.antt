use Rattle.std.proofs.Common.{arith, rules, sym, ◌∙◌}
use Rattle.std.specs.Prelude.{IsErrOf}
use Rattle.std.proofs.lemmas.Grind.{common_steps}
use Rattle.script_text.specs.Script.{spaced, request_words}
use Rattle.script_text.specs.Reading.{AsksNothing, AsksSomething}
use Rattle.script_text.specs.declared.error.Flaw.TheVariants as flaw
use Rattle.script_text.proofs.RequestLemmas.{begins_with, parts_of, number_then}
use Rattle.script_text.proofs.request.request_at.Goals as goal

pub returns-in_default-lane_and_words-clause-bad : goal.returns-in_default-lane_and_words-clause-bad
returns-in_default-lane_and_words-clause-bad c = λ is asked rest fits e.
    let cut = c.in-Some.ensures.some in
    let parts = parts_of c.args.lanes asked c.args.text.now c.in-Some.line.now c.in-Some.rest.now rest (omega arith) fits cut.1 cut.0 e in
    c.in_default-lane_and_words.ensures.none asked.0 (spaced (request_words asked.1)) fits.first fits.last parts.0

pub returns-in_err-asked-clause-bad : goal.returns-in_err-asked-clause-bad
returns-in_err-asked-clause-bad c =
    let none : IsErrOf c.from_residual.result flaw.Bad → AsksNothing c.in-Some-lane_and_words.words.now c.in-Some.rest.now = first_of (search rules, grind (arith, common_steps)) in λ is asked rest fits e.
    let cut = c.in-Some.ensures.some in
    let lane = c.in-Some-lane_and_words.ensures.some in
    let parts = parts_of c.args.lanes asked c.args.text.now c.in-Some.line.now c.in-Some.rest.now rest (omega arith) fits cut.1 cut.0 e in
    let words = number_then c.in-Some-lane_and_words.lane asked.0 c.in-Some-lane_and_words.words.now (spaced (request_words asked.1)) (omega arith) (omega (arith, fits.last)) (sym lane.2 ∙ parts.0) in
    none is asked.1 rest (record { fits = fits.fits; words_are = words.1; message_is = parts.1 })

pub returns-in_err-asked-clause-memory : goal.returns-in_err-asked-clause-memory
returns-in_err-asked-clause-memory c =
    let some : IsErrOf c.from_residual.result flaw.NoMemory → AsksSomething c.in-Some-lane_and_words.words.now c.in-Some.rest.now = first_of (search rules, grind (arith, common_steps)) in λ is.
    let cut = c.in-Some.ensures.some in
    let lane = c.in-Some-lane_and_words.ensures.some in
    begins_with c.args.lanes c.in-Some-lane_and_words.lane c.args.text.now c.in-Some.line.now c.in-Some-lane_and_words.words.now c.in-Some.rest.now lane.0 lane.1 cut.0 lane.2 (some is)
