use Rattle.std.specs.Prelude.{All}
use Rattle.std.proofs.Common.{◌≡◌, ◌≤◌, ◌∷◌, ℕ, List, length, map, string_bytes, sym, ap, subst, arith, refl}
use Rattle.std.proofs.lemmas.List.{length-map}
use Rattle.mdbox_base.specs.Keywords.{IsKeyword}
use Rattle.mdbox_base.specs.Words.{count_different}
use Rattle.request_text.specs.GivenWords.{text_at}
use Rattle.usage_text.specs.Rules.{FirstUnfit}
use Rattle.usage_text.specs.declared.rule.Rule.{Rule}
use Rattle.usage_text.proofs.KeywordBlameLemmas.{verb, name_and_uid, front_texts, back_texts, fit_two, too_few, front_wrong, keyword_wrong, keywords_fit, too_many_keywords}
use Rattle.usage_text.proofs.blame.blame_of_keywords.Goals as goal

pub returns-then-others-rules-clause-some : goal.returns-then-others-rules-clause-some
returns-then-others-rules-clause-some c =
    let texts = map string_bytes c.args.others.now in
    let long : length texts ≡ length c.args.others.now = length-map c.args.others.now string_bytes in
    let two : length c.args.rules.now ≡ 2 = ap (λ (rules : List Rule). length rules) c.requires in
    rw two (too_few (verb ∷ texts) texts refl (omega (arith, long, two)))

pub returns-in-Some-clause-some : goal.returns-in-Some-clause-some
returns-in-Some-clause-some c =
    let texts = map string_bytes c.args.others.now in
    let long : length texts ≡ length c.args.others.now = length-map c.args.others.now string_bytes in
    let two : length c.args.rules.now ≡ 2 = ap (λ (rules : List Rule). length rules) c.requires in
    let front = front_texts string_bytes c.args.others.now c.split_at.result.0.now (length c.args.rules.now) two c.split_at.ensures.front in
    front_wrong (verb ∷ texts) texts c.in-Some.place c.in-Some.rule refl (omega (arith, long, two))
    (subst (λ (ts : List (List ℕ)). FirstUnfit name_and_uid ts c.in-Some.place c.in-Some.rule) front
    (subst (λ (rules : List Rule). FirstUnfit rules (map string_bytes c.split_at.result.0.now) c.in-Some.place c.in-Some.rule) c.requires c.in-Some.ensures.some))

pub returns-in-Some-first_other-clause-some : goal.returns-in-Some-first_other-clause-some
returns-in-Some-first_other-clause-some c =
    let texts = map string_bytes c.args.others.now in
    let long : length texts ≡ length c.args.others.now = length-map c.args.others.now string_bytes in
    let two : length c.args.rules.now ≡ 2 = ap (λ (rules : List Rule). length rules) c.requires in
    let front = front_texts string_bytes c.args.others.now c.split_at.result.0.now (length c.args.rules.now) two c.split_at.ensures.front in
    let back = back_texts string_bytes c.args.others.now c.split_at.result.1.now (length c.args.rules.now) two c.split_at.ensures.back in
    let found = c.in-Some-first_other.ensures.some in
    let lt = found.0 in
    keyword_wrong (verb ∷ texts) texts c.in-Some-first_other.place refl (fit_two c.args.rules.now (map string_bytes c.split_at.result.0.now) texts c.requires front c.in_default.ensures.none) (omega (arith, long, two, lt))
    (λ keyword. found.1 (subst (λ (ts : List (List ℕ)). IsKeyword (text_at ts c.in-Some-first_other.place)) (sym back) keyword))
    (λ k less. subst (λ (ts : List (List ℕ)). IsKeyword (text_at ts k)) back (found.2 k less))

pub returns-then-are_few-clause-none : goal.returns-then-are_few-clause-none
returns-then-are_few-clause-none c =
    let texts = map string_bytes c.args.others.now in
    let long : length texts ≡ length c.args.others.now = length-map c.args.others.now string_bytes in
    let two : length c.args.rules.now ≡ 2 = ap (λ (rules : List Rule). length rules) c.requires in
    let front = front_texts string_bytes c.args.others.now c.split_at.result.0.now (length c.args.rules.now) two c.split_at.ensures.front in
    let back = back_texts string_bytes c.args.others.now c.split_at.result.1.now (length c.args.rules.now) two c.split_at.ensures.back in
    keywords_fit (verb ∷ texts) texts refl (omega (arith, long, two)) (fit_two c.args.rules.now (map string_bytes c.split_at.result.0.now) texts c.requires front c.in_default.ensures.none)
    (subst (λ (ts : List (List ℕ)). All IsKeyword ts) back c.in_default-first_other.ensures.none)
    (subst (λ (ts : List (List ℕ)). count_different ts ≤ 32) back (c.are_few.ensures.0 c.if-are_few.true))

pub returns-else-are_few-clause-some : goal.returns-else-are_few-clause-some
returns-else-are_few-clause-some c =
    let texts = map string_bytes c.args.others.now in
    let long : length texts ≡ length c.args.others.now = length-map c.args.others.now string_bytes in
    let two : length c.args.rules.now ≡ 2 = ap (λ (rules : List Rule). length rules) c.requires in
    let front = front_texts string_bytes c.args.others.now c.split_at.result.0.now (length c.args.rules.now) two c.split_at.ensures.front in
    let back = back_texts string_bytes c.args.others.now c.split_at.result.1.now (length c.args.rules.now) two c.split_at.ensures.back in
    too_many_keywords (verb ∷ texts) texts refl (omega (arith, long, two)) (fit_two c.args.rules.now (map string_bytes c.split_at.result.0.now) texts c.requires front c.in_default.ensures.none)
    (subst (λ (ts : List (List ℕ)). All IsKeyword ts) back c.in_default-first_other.ensures.none)
    (λ few. (let yes = c.are_few.ensures.1 (subst (λ (ts : List (List ℕ)). count_different ts ≤ 32) (sym back) few) in let not = c.if-are_few.false in cc (yes, not)))
