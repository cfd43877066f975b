use Rattle.std.proofs.Common.{sym, ◌∙◌}
use Rattle.b64_lines.proofs.FormLemmas.{not_single, not_lines, is_single, is_lines}
use Rattle.b64_lines.proofs.read.recognise.Goals as goal

pub returns-in_default-2-clause-none : goal.returns-in_default-2-clause-none
returns-in_default-2-clause-none c = not_single c.args.text.now c.in-Some.form _ c.form_of.ensures.only c.in-Some.is c.if-n-text.true (rw c.in_default-2.is at c.in_ok-octets.ensures.none)

pub returns-in_default-4-clause-none : goal.returns-in_default-4-clause-none
returns-in_default-4-clause-none c = not_lines c.args.text.now c.in-Some.form c.in-Some-3.characters.items _ c.form_of.ensures.only c.in-Some.is (rw c.in-Some-3.is at c.in_ok-characters.ensures.only)
    (λ octets bytes e. (rw c.in_default-4.is at c.in_ok-octets-2.ensures.none) octets bytes (c.as_slice.ensures.value ∙ e))

pub returns-in-Some-2-clause-some : goal.returns-in-Some-2-clause-some
returns-in-Some-2-clause-some c =
    let found = rw c.in-Some-2.is at c.in_ok-octets.ensures.some in
    is_single c.args.text.now c.in-Some.form c.in-Some-2.octets c.in-Some.ensures.form c.if-n-text.true (c.in-Some.ensures.single.1 c.if-n-text.true) found.0 found.1

pub returns-in-Some-4-clause-some : goal.returns-in-Some-4-clause-some
returns-in-Some-4-clause-some c =
    let found = rw c.in-Some-4.is at c.in_ok-octets-2.ensures.some in
    let chars = rw c.in-Some-3.is at c.in_ok-characters.ensures.some in
    is_lines c.args.text.now c.in-Some.form c.in-Some-4.octets c.in-Some-3.characters.items c.in-Some.ensures.form c.in-Some.ensures.single.0 c.if-n-text.false found.0 chars.0 chars.1 (sym c.as_slice.ensures.value ∙ found.1)
