use Rattle.std.proofs.Common.{◌≡◌, refl, ap, ◌∙◌, arith}
use Rattle.request_text.specs.Outcomes.{status_of}
use Rattle.mdbox_top.proofs.RunLemmas.{known_words, named_unasked, named_unnoted, named_still, named_rests}
use Rattle.mdbox_top.proofs.run.mdbox_run.Goals as goal

pub returns-in-Err-NoMemory-clause-run : goal.returns-in-Err-NoMemory-clause-run
returns-in-Err-NoMemory-clause-run g c = λ said says.
    let found = (rw c.in-Err-NoMemory.field-0-is at c.in-Err-NoMemory.ensures.memory) refl in
    let told = c.report-in-Err-NoMemory.ensures.told in
    rw (found.2.only said says) (record { outcome = told.0; status_is = told.2; ended = rw told.1 (named_unasked _ found.0 found.1 _ _ _ _ _); noted_held = g.E.Sink.held c.args.errors.now; noted_faults = g.E.Sink.faults c.args.errors.now; noted = rw told.1 (named_unnoted found.0 found.1 _ (g.E.Sink.held c.args.errors.now) (g.E.Sink.faults c.args.errors.now)); told = told.3 })

pub returns-in-Err-NoMemory-clause-moments : goal.returns-in-Err-NoMemory-clause-moments
returns-in-Err-NoMemory-clause-moments g c = λ said says.
    let found = (rw c.in-Err-NoMemory.field-0-is at c.in-Err-NoMemory.ensures.memory) refl in
    rw (found.2.only said says) (named_still found.0 found.1 _ _ _)

pub returns-in-Err-NoMemory-clause-rests : goal.returns-in-Err-NoMemory-clause-rests
returns-in-Err-NoMemory-clause-rests g c = λ said says.
    let found = (rw c.in-Err-NoMemory.field-0-is at c.in-Err-NoMemory.ensures.memory) refl in
    rw (found.2.only said says) (named_rests found.0 found.1 _ _ _ _ _ _)

pub returns-in-Err-NoMemory-clause-usage : goal.returns-in-Err-NoMemory-clause-usage
returns-in-Err-NoMemory-clause-usage g c =
    let found = (rw c.in-Err-NoMemory.field-0-is at c.in-Err-NoMemory.ensures.memory) refl in
    let told = c.report-in-Err-NoMemory.ensures.told in
    let five : c.report-in-Err-NoMemory.result.0 ≡ 5 = told.2 ∙ ap status_of told.1 in
    (λ two. absurd (omega (arith, two, five)), λ none. absurd (none found.0 found.2.says))

pub returns-in-Err-NoMemory-clause-unknown : goal.returns-in-Err-NoMemory-clause-unknown
returns-in-Err-NoMemory-clause-unknown g c = λ none.
    let found = (rw c.in-Err-NoMemory.field-0-is at c.in-Err-NoMemory.ensures.memory) refl in
    absurd (none found.0 found.2.says)

pub returns-in-Ok-clause-disk_fault : goal.returns-in-Ok-clause-disk_fault
returns-in-Ok-clause-disk_fault g c = λ tells. c.run_in_threads.ensures.disk_fault (tells c.in-Ok.command c.in-Ok.ensures.says.says)

pub returns-in-Ok-clause-usage : goal.returns-in-Ok-clause-usage
returns-in-Ok-clause-usage g c =
    (λ two said says. known_words _ c.in-Ok.command _ _ _ _ _ _ _ _ _ _ _ _ _ _ c.run_in_threads.ensures.run two, λ none. absurd (none c.in-Ok.command c.in-Ok.ensures.says.says))
