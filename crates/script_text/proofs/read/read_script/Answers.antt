use Rattle.std.proofs.Common.{arith, rules, inl, inr, Ok, Err, ◌<◌, ◌≡◌, ◌≢◌, length}
use Rattle.std.proofs.lemmas.Grind.{common_steps}
use Rattle.script_text.specs.Script.{BeginsNoRequest, BeginsRequest}
use Rattle.script_text.proofs.ScriptLemmas.{answer_same, read_more, read_all, read_wrong}
use Rattle.script_text.proofs.read.read_script.Goals as goal

pub returns-then-length-eq-MOST_REQUESTS-clause-exactly : goal.returns-then-length-eq-MOST_REQUESTS-clause-exactly
returns-then-length-eq-MOST_REQUESTS-clause-exactly c = λ answer gives.
    let some : 0 < length c.loop-rest.rest.now = first_of (search rules, grind (arith, common_steps)) in
    let all : length c.loop-rest.requests ≡ 100000 = first_of (search rules, grind (arith, common_steps)) in
    inr (answer_same c.args.lanes c.args.text.now (Err _) answer (omega arith) (read_wrong c.args.lanes c.args.text.now c.loop-rest.requests c.loop-rest.rest.now c.loop-rest.invariant some (inr all)) gives)

pub loop-rest-preserved : goal.loop-rest-preserved
loop-rest-preserved c =
    read_more c.args.lanes c.args.text.now c.loop-rest.requests c.push.new.self c.in-Ok.asked c.loop-rest.rest.now c.in-Ok.after.now c.loop-rest.invariant (first_of (search rules, grind (arith, common_steps))) c.in-Ok.ensures.found.0 c.in-Ok.ensures.found.1 c.in_ok-push-in-Ok.ensures.ok

pub returns-in-Err-Bad-clause-exactly : goal.returns-in-Err-Bad-clause-exactly
returns-in-Err-Bad-clause-exactly c = λ answer gives.
    let none : BeginsNoRequest c.args.lanes c.loop-rest.rest.now = first_of (search rules, grind (arith, common_steps)) in
    let some : 0 < length c.loop-rest.rest.now = first_of (search rules, grind (arith, common_steps)) in
    inr (answer_same c.args.lanes c.args.text.now (Err _) answer (omega arith) (read_wrong c.args.lanes c.args.text.now c.loop-rest.requests c.loop-rest.rest.now c.loop-rest.invariant some (inl none)) gives)

pub returns-clause-exactly : goal.returns-clause-exactly
returns-clause-exactly c = λ answer gives.
    let none : length c.loop-rest.rest.now ≡ 0 = first_of (search rules, grind (arith, common_steps)) in
    inr (answer_same c.args.lanes c.args.text.now (Ok _) answer (omega arith) (read_all c.args.lanes c.args.text.now c.loop-rest.requests c.loop-rest.rest.now c.loop-rest.invariant none) gives)

pub returns-in-Err-NoMemory-clause-memory : goal.returns-in-Err-NoMemory-clause-memory
returns-in-Err-NoMemory-clause-memory c = λ is.
    let so_far = c.loop-rest.invariant in
    let few = so_far.few in
    let fewer : length c.loop-rest.requests ≢ 100000 = first_of (search rules, grind (arith, common_steps)) in
    let one : BeginsRequest c.args.lanes c.loop-rest.rest.now = first_of (search rules, grind (arith, common_steps)) in
    (c.loop-rest.requests, c.loop-rest.rest.now, omega (arith, few, fewer), so_far.each, so_far.spelled, one)

pub returns-in_err-push-in-Ok-clause-memory : goal.returns-in_err-push-in-Ok-clause-memory
returns-in_err-push-in-Ok-clause-memory c = λ is.
    let so_far = c.loop-rest.invariant in
    let few = so_far.few in
    let fewer : length c.loop-rest.requests ≢ 100000 = first_of (search rules, grind (arith, common_steps)) in
    (c.loop-rest.requests, c.loop-rest.rest.now, omega (arith, few, fewer), so_far.each, so_far.spelled, (c.in-Ok.asked, c.in-Ok.after.now, c.in-Ok.ensures.found.0, c.in-Ok.ensures.found.1))
