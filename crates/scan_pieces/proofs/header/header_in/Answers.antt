use Rattle.std.proofs.Common.{sym, arith, subst, drop, take, ◌+◌, ℕ, Ok, Err}
use Rattle.std.proofs.lemmas.Result.{err_from_is_err_and}
use Rattle.std.proofs.lemmas.List.{length-take, take-append-drop}
use Rattle.dbox_file.proofs.RowLemmas.{none_at_all}
use Rattle.scan_pieces.proofs.HeaderPieceLemmas.{MayAnswer, cut_line, line_answered, no_header}
use Rattle.dbox_file.specs.HeaderFields.{HasHeaderLine}
use Rattle.scan_pieces.proofs.header.header_in.Goals as goal

pub returns-in_default-clause-gives : goal.returns-in_default-clause-gives
returns-in_default-clause-gives c =
    let text = c.args.text.now in
    let k = c.min.result in
    let size = length-take k text in
    let least = c.min.ensures in
    no_header text (take k text) (drop k text) (sym (take-append-drop k text)) (omega (arith, size, least)) (none_at_all (take k text) c.in_default.ensures)

pub returns-in_err-scan-clause-gives : goal.returns-in_err-scan-clause-gives
returns-in_err-scan-clause-gives c =
    let text = c.args.text.now in
    let found = c.in-Some.ensures in
    let cut = cut_line text c.min.result c.in-Some.end found.0.high found.1 found.0.before in
    let p = err_from_is_err_and c.from_residual.result c.from_residual.ensures.1 in
    rw (p.1, p.2) (line_answered text _ _ (Err c.in_err-scan.field-0.0) cut.0 (subst (MayAnswer (Err c.in_err-scan.field-0.0)) cut.1 c.in_err-scan.ensures.gives))

pub returns-clause-gives : goal.returns-clause-gives
returns-clause-gives c =
    let text = c.args.text.now in
    let found = c.in-Some.ensures in
    let cut = cut_line text c.min.result c.in-Some.end found.0.high found.1 found.0.before in
    let line = line_answered text _ _ (Ok c.in_ok-scan.field-0) cut.0 (subst (MayAnswer (Ok c.in_ok-scan.field-0)) cut.1 c.in_ok-scan.ensures.gives) in
    subst (λ (n : ℕ). HasHeaderLine text (n + 1) 30) cut.2 line
