use Rattle.std.proofs.Common.{◌∙◌, ap, sym, ◌++◌, List, ℕ}
use Rattle.std.specs.Prelude.{codes}
use Rattle.mime_parts.proofs.MarkLemmas.{ends_never, ends_not, delimits, closes, cancel, not_blank}
use Rattle.mime_parts.proofs.mark.mark_of.Goals as goal

pub returns-in_default : goal.returns-in_default
returns-in_default c = ends_never c.args.boundary.now c.args.text.now (λ rest e. c.in_default.ensures.none (c.args.boundary.now ++ rest) e)

pub returns-in_default-behind : goal.returns-in_default-behind
returns-in_default-behind c = ends_never c.args.boundary.now c.args.text.now (λ rest e. c.in_default-behind.ensures.none rest (cancel (codes "--") c.in-Some.inside.now (c.args.boundary.now ++ rest) (sym c.in-Some.ensures.some ∙ e)))

pub returns-then-all_blank : goal.returns-then-all_blank
returns-then-all_blank c = delimits c.args.boundary.now c.args.text.now c.in-Some-behind.rest.now (c.in-Some.ensures.some ∙ ap (λ (x : List ℕ). codes "--" ++ x) c.in-Some-behind.ensures.some) (sym c.all_blank.ensures ∙ c.if-all_blank.true)

pub returns-in_default-behind-2 : goal.returns-in_default-behind-2
returns-in_default-behind-2 c = ends_not c.args.boundary.now c.args.text.now c.in-Some-behind.rest.now (c.in-Some.ensures.some ∙ ap (λ (x : List ℕ). codes "--" ++ x) c.in-Some-behind.ensures.some) (sym c.all_blank.ensures ∙ c.if-all_blank.false)
    (λ more e blank. c.in_default-behind-2.ensures.none more e)

pub returns-then-all_blank-2 : goal.returns-then-all_blank-2
returns-then-all_blank-2 c = closes c.args.boundary.now c.args.text.now c.in-Some-behind-2.more.now
    (c.in-Some.ensures.some ∙ ap (λ (x : List ℕ). codes "--" ++ x) (c.in-Some-behind.ensures.some ∙ ap (λ (x : List ℕ). c.args.boundary.now ++ x) c.in-Some-behind-2.ensures.some)) (sym c.all_blank-2.ensures ∙ c.if-all_blank-2.true)

pub returns-else-all_blank-2 : goal.returns-else-all_blank-2
returns-else-all_blank-2 c = ends_not c.args.boundary.now c.args.text.now c.in-Some-behind.rest.now (c.in-Some.ensures.some ∙ ap (λ (x : List ℕ). codes "--" ++ x) c.in-Some-behind.ensures.some) (sym c.all_blank.ensures ∙ c.if-all_blank.false)
    (λ more e blank. not_blank c.in-Some-behind-2.more.now more (cancel (codes "--") c.in-Some-behind-2.more.now more (sym c.in-Some-behind-2.ensures.some ∙ e)) (sym c.all_blank-2.ensures ∙ c.if-all_blank-2.false) blank)
