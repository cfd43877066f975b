use Rattle.std.proofs.Common.{sym, ◌∙◌, ◌≡◌, ◌<◌, [], length, ap, append-nil, arith, rules}
use Rattle.std.proofs.lemmas.Grind.{common_steps}
use Rattle.script_text.specs.Script.{name_word}
use Rattle.script_text.proofs.RequestLemmas.{name_only}
use Rattle.script_text.proofs.arguments.octets_alone.Goals as goal

pub returns-in_default-clause-none : goal.returns-in_default-clause-none
returns-in_default-clause-none c = λ name n e. c.in_default.ensures.none name [] n (e ∙ sym (append-nil (name_word name)))

pub returns-then-not-is_empty-clause-none : goal.returns-then-not-is_empty-clause-none
returns-then-not-is_empty-clause-none c = λ name n e.
    let found = c.in-Some.ensures.some in
    let r = name_only c.args.word.now c.in-Some.octets.now c.in-Some.rest.now name found.0 found.1 n e in
    let none : length c.in-Some.rest.now ≡ 0 = ap length r.1 in
    let some : 0 < length c.in-Some.rest.now = first_of (search rules, grind (arith, common_steps)) in
    omega (arith, none, some)
