use Rattle.std.proofs.Common.{sym, ◌∙◌, ap, arith, length, drop, ◌≡◌, ◌++◌, ◌∷◌, [], ◌+◌}
use Rattle.std.proofs.lemmas.Bool.Decides.{Decides-eqb}
use Rattle.std.proofs.lemmas.Slice.Eq.{strip_prefix_is}
use Rattle.dbox_file.proofs.HeaderLemmas.{header_cut, cut_header, first_line, line_is_cut, no_line}
use Rattle.dbox_file.proofs.RowLemmas.{none_at_all}
use Rattle.dbox_file.proofs.header_line.read_header_line.Goals as goal

pub returns-in_err-end-clause-none : goal.returns-in_err-end-clause-none
returns-in_err-end-clause-none c =
    rw c.from_residual.ensures
    (λ q. let h = header_cut c.args.file.now q.0 q.1 q.2 q.3 q.4 in
    no_line c.args.file.now c.split_at.result.0.now c.split_at.result.1.now h.0 q.1 q.2 c.split_at.ensures.by_index.0
    (c.split_at.ensures.front_len ∙ c.min.ensures) (none_at_all _ c.in_err-end.ensures) h.1)

pub returns-in_err-size-clause-none : goal.returns-in_err-size-clause-none
returns-in_err-size-clause-none c =
    let found = c.in_ok-end.ensures in
    let line = first_line c.args.file.now c.split_at.result.0.now c.split_at.result.1.now c.in_ok-end.end c.split_at.ensures.by_index.0 found.0.high found.1 found.0.before in
    let told = strip_prefix_is Decides-eqb c.split_at-2.result.0.now (50 ∷ []) c.strip_prefix.result c.strip_prefix.ensures.cases in
    let cut : c.split_at-2.result.0.now ≡ 50 ∷ c.in_ok-fields.fields.now = rw c.in_ok-fields.was at told in
    rw c.from_residual-in_err-size.ensures
    (λ q. let h = header_cut c.args.file.now q.0 q.1 q.2 q.3 q.4 in
    let same : 50 ∷ c.in_ok-fields.fields.now ≡ 50 ∷ h.0 = sym cut ∙ c.split_at-2.ensures.front ∙ line_is_cut c.args.file.now _ _ h.0 q.1 q.2 line h.1 in
    let fields : h.0 ≡ c.in_ok-fields.fields.now = cc same in
    c.in_err-size.ensures.none q.2 (rw fields at h.1.complete))

pub returns-clause-some : goal.returns-clause-some
returns-clause-some c =
    let found = c.in_ok-end.ensures in
    let line = first_line c.args.file.now c.split_at.result.0.now c.split_at.result.1.now c.in_ok-end.end c.split_at.ensures.by_index.0 found.0.high found.1 found.0.before in
    let told = strip_prefix_is Decides-eqb c.split_at-2.result.0.now (50 ∷ []) c.strip_prefix.result c.strip_prefix.ensures.cases in
    let cut : c.split_at-2.result.0.now ≡ 50 ∷ c.in_ok-fields.fields.now = rw c.in_ok-fields.was at told in
    let whole = line.whole ∙ ap (λ o. o ++ 10 ∷ (drop (c.in_ok-end.end + 1) c.split_at.result.0.now ++ c.split_at.result.1.now)) (sym c.split_at-2.ensures.front ∙ cut) in
    cut_header c.args.file.now c.in_ok-fields.fields.now _ c.in_ok-size.size (c.in_ok-end.end + 1) whole
    (omega (arith, ap length cut, c.split_at-2.ensures.front_len))
    (omega (arith, found.0.high, c.split_at.ensures.front_len, c.min.ensures))
    c.in_ok-size.ensures.some
