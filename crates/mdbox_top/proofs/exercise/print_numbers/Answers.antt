use Rattle.std.proofs.Common.{◌≡◌, ◌∙◌}
use Rattle.request_text.specs.Outcomes.{replies_outcome}
use Rattle.request_text.specs.declared.outcome.Outcome.TheVariants as outcome
use Rattle.store_core.specs.Value.{indexes_of}
use Rattle.mdbox_top.proofs.ExerciseLemmas.{lines_shown, none_failed}
use Rattle.mdbox_top.proofs.exercise.print_numbers.Goals.{in-DiskFault, in_default}
use Rattle.mdbox_top.proofs.exercise.print_numbers.Goals as goal

pub returns-in-Ok-print_summary-clause-shown : goal.returns-in-Ok-print_summary-clause-shown
returns-in-Ok-print_summary-clause-shown g c =
    let is = c.outcome_of_replies-ended.ensures in
    let unlike : replies_outcome c.args.replies.now ≡ outcome.DiskFault → ⊥ = λ f. elim c.match-matches.branch [
      | in-DiskFault w ↦ cc (w.matches-is, c.if-matches.false)
      | in_default w ↦ w.in_default.not-DiskFault (is ∙ f)
    ] in
    lines_shown c.args.replies.now c.args.store.now.map (indexes_of c.args.store.now.boxes) c.in-Ok.summary _ _ c.outcome_of_replies-ended.result (none_failed c.args.replies.now unlike) c.in-Ok.ensures is c.in-Ok-print_summary.ensures.ok
