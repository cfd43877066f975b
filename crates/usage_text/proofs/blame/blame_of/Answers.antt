use Rattle.std.proofs.Common.{rules, ◌≡◌, ◌∙◌, sym, arith, true, length, map, string_bytes, codes}
use Rattle.std.specs.Str.{bytes_eq}
use Rattle.std.proofs.lemmas.Slice.Eq.{bytes_eq-Decides}
use Rattle.std.proofs.lemmas.Grind.{common_steps}
use Rattle.std.proofs.lemmas.List.{length-map}
use Rattle.usage_text.proofs.BlameLemmas.{all_said, as_many, one_wrong, other_count, words_split}
use Rattle.usage_text.proofs.blame.blame_of.Goals as goal

pub returns-in_err-place-clause-none : goal.returns-in_err-place-clause-none
returns-in_err-place-clause-none c =
    let same : length c.in-Some.others.now ≡ length c.in-Some-rules_of.rules.now = first_of (search rules, grind (arith, common_steps)) in
    rw c.from_residual.ensures (all_said c.as_str.result.now (map string_bytes c.args.words.now) (map string_bytes c.in-Some.others.now) c.in-Some-rules_of.rules.now
    (words_split string_bytes c.args.words.now c.in-Some.others.now c.in-Some.verb.now c.as_str.result.now c.in-Some.ensures.cases.0 c.as_str.ensures.value)
    (as_many string_bytes c.in-Some.others.now _ same) c.in-Some-rules_of.ensures.some c.in_err-place.ensures.none)

pub returns-clause-some : goal.returns-clause-some
returns-clause-some c =
    let same : length c.in-Some.others.now ≡ length c.in-Some-rules_of.rules.now = first_of (search rules, grind (arith, common_steps)) in
    one_wrong c.as_str.result.now (map string_bytes c.args.words.now) (map string_bytes c.in-Some.others.now) c.in-Some-rules_of.rules.now c.in_ok-place.place c.in_ok-place.rule
    (words_split string_bytes c.args.words.now c.in-Some.others.now c.in-Some.verb.now c.as_str.result.now c.in-Some.ensures.cases.0 c.as_str.ensures.value)
    (as_many string_bytes c.in-Some.others.now _ same) c.in-Some-rules_of.ensures.some c.in_ok-place.ensures.some

pub returns-then-others-rules-clause-some : goal.returns-then-others-rules-clause-some
returns-then-others-rules-clause-some c =
    other_count c.as_str.result.now (map string_bytes c.args.words.now) (map string_bytes c.in-Some.others.now) c.in-Some-rules_of.rules.now
    (words_split string_bytes c.args.words.now c.in-Some.others.now c.in-Some.verb.now c.as_str.result.now c.in-Some.ensures.cases.0 c.as_str.ensures.value)
    (λ e. let same : length c.in-Some.others.now ≡ length c.in-Some-rules_of.rules.now = sym (length-map c.in-Some.others.now string_bytes) ∙ e in first_of (search rules, grind (arith, common_steps, same)))
    c.in-Some-rules_of.ensures.some
    (λ e.
    let yes : bytes_eq c.as_str-2.result.now (codes "keywords") ≡ true = (bytes_eq-Decides c.as_str-2.result.now (codes "keywords")).1 (c.as_str-2.ensures.value ∙ (sym c.as_str.ensures.value ∙ e)) in
    let is : c.eq.result ≡ true = c.eq.ensures ∙ yes in
    let not = c.if-eq.false in
    cc (is, not))
