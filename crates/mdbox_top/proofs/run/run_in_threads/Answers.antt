use Rattle.std.proofs.Common.{ℕ, inl, inr, sym, subst}
use Rattle.request_text.specs.Outcomes.{status_of}
use Rattle.mdbox_top.specs.Run.{MayHaveFailed}
use Rattle.mdbox_top.proofs.RunLemmas.{last_ends, has_status, fails_last, faulted, notes_last, rests_last, uninput, unread}
use Rattle.mdbox_top.proofs.run.run_in_threads.Goals as goal

pub returns-clause-run : goal.returns-clause-run
returns-clause-run g c =
    let told = c.report.ensures.told in
    record {
      outcome = told.0;
      status_is = told.2;
      ended = last_ends _ c.args.command _ _ _ _ _ _ _ _ c.perform_in_threads-ended.result.0 told.0 told.1 c.perform_in_threads-ended.ensures.ends;
      noted_held = _;
      noted_faults = _;
      noted = notes_last c.args.command _ c.perform_in_threads-ended.result.0 told.0 _ _ _ _ told.1 c.perform_in_threads-ended.ensures.noted;
      told = told.3;
    }

pub returns-clause-status : goal.returns-clause-status
returns-clause-status g c =
    let told = c.report.ensures.told in
    rw told.2 (has_status _ c.args.command c.requires.range _ _ _ _ _ _ _ _ told.0 (last_ends _ c.args.command _ _ _ _ _ _ _ _ c.perform_in_threads-ended.result.0 told.0 told.1 c.perform_in_threads-ended.ensures.ends))

pub returns-clause-rests : goal.returns-clause-rests
returns-clause-rests g c =
    let told = c.report.ensures.told in
    rw told.2 (rests_last c.args.command _ _ (MayHaveFailed c.args.command (status_of c.perform_in_threads-ended.result.0)) (MayHaveFailed c.args.command (status_of told.0)) _ _ _ _ (fails_last c.args.command c.perform_in_threads-ended.result.0 told.0 told.1) c.perform_in_threads-ended.ensures.rests)

pub returns-clause-disk_quiet : goal.returns-clause-disk_quiet
returns-clause-disk_quiet g c = λ tells no.
    let told = c.report.ensures.told in
    c.perform_in_threads-ended.ensures.disk_quiet tells (λ failed. no (subst (λ (n : ℕ). MayHaveFailed c.args.command n) (sym told.2) (fails_last c.args.command c.perform_in_threads-ended.result.0 told.0 told.1 failed)))

pub returns-clause-refused : goal.returns-clause-refused
returns-clause-refused g c = λ four.
    let told = c.report.ensures.told in
    let o = uninput c.perform_in_threads-ended.result.0 told.0 _ told.1 told.2 four in
    c.perform_in_threads-ended.ensures.refused o.0 o.1

pub returns-clause-disk_fault : goal.returns-clause-disk_fault
returns-clause-disk_fault g c = λ tells.
    let told = c.report.ensures.told in
    let fault = c.perform_in_threads-ended.ensures.disk_fault tells in
    record { reads = fault.reads; changes = fault.changes; rose = λ six. fault.rose (faulted c.perform_in_threads-ended.result.0 told.0 _ told.1 told.2 six) }

pub returns-clause-uncalled : goal.returns-clause-uncalled
returns-clause-uncalled g c = λ before which.
    let told = c.report.ensures.told in
    elim which [
      | inl four ↦ c.perform_in_threads-ended.ensures.uncalled before (inr (uninput c.perform_in_threads-ended.result.0 told.0 _ told.1 told.2 four))
      | inr seven ↦ c.perform_in_threads-ended.ensures.uncalled before (inl (unread c.perform_in_threads-ended.result.0 told.0 _ told.1 told.2 seven))
    ]
