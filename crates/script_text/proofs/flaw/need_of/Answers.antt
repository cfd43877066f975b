use Rattle.std.proofs.Common.{◌∙◌, ◌++◌, ◌∷◌, List, ℕ, IsTrue, ap, arith, rules, subst}
use Rattle.std.proofs.lemmas.Grind.{common_steps}
use Rattle.mdbox_base.specs.Numbers.{decimal_text}
use Rattle.script_text.specs.Reading.{BeginsVerb}
use Rattle.script_text.proofs.FlawLemmas.{lane_has, message_has, needs_told, no_line, verb_has, verb_lacks}
use Rattle.script_text.proofs.flaw.need_of.Goals as goal

pub returns-then-not-begins_verb : goal.returns-then-not-begins_verb
returns-then-not-begins_verb c =
    let lane = c.in-Some.ensures.some in (
      lane_has c.args.lanes c.in-Some.field-0-0 c.args.text.now c.in-Some.words.now lane.0 lane.1 lane.2,
      verb_lacks c.args.lanes c.in-Some.field-0-0 c.args.text.now c.in-Some.words.now (omega arith) lane.1 lane.2 (λ begins. let yes = c.begins_verb.ensures.1 begins in first_of (search rules, grind (arith, common_steps, yes))),
    )

pub returns-in_default-cut : goal.returns-in_default-cut
returns-in_default-cut c =
    let lane = c.in-Some.ensures.some in
    let yes : IsTrue c.begins_verb.result = first_of (search rules, grind (arith, common_steps)) in (
      verb_has c.args.lanes c.in-Some.field-0-0 c.args.text.now c.in-Some.words.now lane.0 lane.1 lane.2 (c.begins_verb.ensures.0 yes),
      no_line c.args.lanes c.in-Some.field-0-0 c.args.text.now c.in-Some.words.now (omega arith) lane.1 lane.2 c.in_default-cut.ensures.none,
    )

pub returns-in-Ok : goal.returns-in-Ok
returns-in-Ok c =
    let lane = c.in-Some.ensures.some in
    let line = c.in-Some-cut.ensures.some in
    let found = c.in-Ok.ensures.found in
    message_has c.args.lanes c.in-Some.field-0-0 c.args.text.now c.in-Some-cut.words.now c.in-Some-cut.rest.now found.1 found.0 lane.0 lane.1
    (lane.2 ∙ ap (λ (w : List ℕ). decimal_text c.in-Some.field-0-0 ++ 32 ∷ w) line.0) found.2

pub returns-in-Err-Bad : goal.returns-in-Err-Bad
returns-in-Err-Bad c =
    let lane = c.in-Some.ensures.some in
    let line = c.in-Some-cut.ensures.some in
    let yes : IsTrue c.begins_verb.result = first_of (search rules, grind (arith, common_steps)) in
    let nothing = c.in-Err-Bad.ensures.bad in
    needs_told c.need_after.result c.args.lanes c.in-Some.field-0-0 c.args.text.now c.in-Some-cut.words.now c.in-Some-cut.rest.now (omega arith) lane.0 lane.1
    (lane.2 ∙ ap (λ (w : List ℕ). decimal_text c.in-Some.field-0-0 ++ 32 ∷ w) line.0) line.1 (subst BeginsVerb line.0 (c.begins_verb.ensures.0 yes)) (first_of (search rules, grind (arith, common_steps))) c.need_after.ensures
