use Rattle.std.proofs.Common.{Err, refl, ℕ, ◌+◌, ◌∙◌, ap}
use Rattle.std.proofs.lemmas.Result.{err_from_is_err_and}
use Rattle.rebuild_judge.proofs.JoiningLemmas.{joins_bad, joins_right, joins_size, joins_text}
use Rattle.rebuild_judge.proofs.join.joined_size.Goals as goal

pub returns-in_err-sum-clause-joins : goal.returns-in_err-sum-clause-joins
returns-in_err-sum-clause-joins c =
    let p = err_from_is_err_and c.from_residual.result c.from_residual.ensures.1 in
    λ body octets e m. rw (p.1, p.2) (joins_bad body c.args.stored c.args.whole c.args.refs.now octets _ e c.in_err-sum.ensures.err)

pub returns-then-whole-found-clause-joins : goal.returns-then-whole-found-clause-joins
returns-then-whole-found-clause-joins c = λ body octets e m. joins_size body c.args.stored c.args.whole _ c.args.refs.now octets e c.in_ok-sum.ensures.ok.0 (ap (λ (n : ℕ). c.args.stored + n) c.in_ok-sum.ensures.ok.1) c.if-whole-found.true

pub returns-in_err-compare_texts-clause-joins : goal.returns-in_err-compare_texts-clause-joins
returns-in_err-compare_texts-clause-joins c =
    let p = err_from_is_err_and c.from_residual-in_err-compare_texts.result c.from_residual-in_err-compare_texts.ensures.1 in
    λ body octets e m. rw (p.1, p.2) (joins_text body c.args.stored c.args.whole c.args.refs.now octets (Err _) _ e c.in_ok-sum.ensures.ok.0 (c.if-whole-found.false ∙ ap (λ (n : ℕ). c.args.stored + n) c.in_ok-sum.ensures.ok.1) refl (c.in_err-compare_texts.ensures octets m))

pub returns-clause-joins : goal.returns-clause-joins
returns-clause-joins c = λ body octets e m. joins_right body c.args.stored c.args.whole _ c.args.refs.now octets _ e c.in_ok-sum.ensures.ok.0 (c.if-whole-found.false ∙ ap (λ (n : ℕ). c.args.stored + n) c.in_ok-sum.ensures.ok.1) (c.in_ok-compare_texts.ensures octets m)
