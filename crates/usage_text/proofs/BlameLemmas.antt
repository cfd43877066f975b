-- What is to blame of words, by the rules of their verb.
use Rattle.std.specs.Prelude.{◌≡◌, ◌≢◌, ◌≤◌, ◌<◌, ◌+◌, ℕ, zero, suc, List, ◌∷◌, length, map, codes}
use Rattle.std.proofs.Common.{sym, ◌∙◌, ap, arith, subst, inl, inr}
use Rattle.std.proofs.lemmas.Bool.{cases_lt}
use Rattle.std.proofs.lemmas.List.{length-map}
use Rattle.request_text.specs.Commands.{Says}
use Rattle.request_text.specs.declared.command.Command.{Command}
use Rattle.usage_text.specs.Blames.{FitsRule, HasVerb, SayVerb, StandsInCommand, IsFirstWrong, HasOtherCount, HasNoVerb, word_at}
use Rattle.usage_text.specs.Rules.{AreRulesOf, FitTo, FirstUnfit}
use Rattle.usage_text.specs.declared.rule.Rule.{Rule}
use Rattle.usage_text.proofs.RuleLemmas.{rule_at, fit_all, said_with, sample_said, say_with, says_own, row_length, stands, stands_fits, verb_stands}

pub fit_more : (rules : List Rule) (words : List (List ℕ)) (place : ℕ) → FitTo rules words place → FitsRule (rule_at rules place) (word_at words place) → FitTo rules words (place + 1)
fit_more rules words place fit one earlier less = elim (cases_lt earlier place) [
  | inl lt ↦ fit earlier lt
  | inr le ↦ let same : place ≡ earlier = omega (arith, le, less) in subst (λ (k : ℕ). FitsRule (rule_at rules k) (word_at words k)) same one
]

-- each word before this one may stand where it stands
pub firsts : (verb : List ℕ) (others : List (List ℕ)) (rules : List Rule) (place earlier : ℕ) → AreRulesOf verb rules → place ≤ length rules → FitTo rules others place → earlier < place + 1 → StandsInCommand verb earlier (word_at (verb ∷ others) earlier)
firsts verb others rules place zero are lt fit less = verb_stands verb rules are
firsts verb others rules place (suc earlier) are lt fit less =
    let next : earlier + 1 ≡ suc earlier = omega arith in
    subst (λ (k : ℕ). StandsInCommand verb k (word_at others earlier)) next
    (stands verb (word_at others earlier) rules earlier are (omega (arith, lt, less)) (fit earlier (omega (arith, less))))

unfit_there : (verb : List ℕ) (others : List (List ℕ)) (rules : List Rule) (place : ℕ) (unfit : Rule) → FirstUnfit rules others place unfit → FitsRule (rule_at rules place) (word_at (verb ∷ others) (place + 1)) → FitsRule unfit (word_at others place)
unfit_there verb others rules place unfit first fits =
    let next : place + 1 ≡ suc place = omega arith in
    let is : word_at (verb ∷ others) (place + 1) ≡ word_at others place = ap (λ (k : ℕ). word_at (verb ∷ others) k) next in
    subst (λ (r : Rule). FitsRule r (word_at others place)) (sym first.rule_is) (subst (λ (w : List ℕ). FitsRule (rule_at rules place) w) is fits)

-- of words of which those with rules don't all fit
pub first_wrong : (verb : List ℕ) (words others : List (List ℕ)) (rules : List Rule) (place : ℕ) (unfit : Rule) → words ≡ verb ∷ others → length rules ≤ length others → AreRulesOf verb rules
    → ((other : List (List ℕ)) × SayVerb verb other × (length other ≡ 1 + length others)) → FirstUnfit rules others place unfit → IsFirstWrong words (place + 1) unfit
first_wrong verb words others rules place unfit e l are counted first = subst (λ (ws : List (List ℕ)). IsFirstWrong ws (place + 1) unfit) (sym e) (record {
  counted = (counted.0, counted.1, (let long = counted.2 in omega (arith, long)));
  wrong = record {
    within = let lt : place < length rules = first.within in omega (arith, lt, l);
    wrong = λ may. first.wrong (unfit_there verb others rules place unfit first (stands_fits verb (word_at (verb ∷ others) (place + 1)) rules place are first.within may));
  };
  first = λ earlier less. firsts verb others rules place earlier are (let lt = first.within in omega (arith, lt)) first.first less;
  rule_is = λ word. (
    (λ fits. stands verb word rules place are first.within (subst (λ (r : Rule). FitsRule r word) first.rule_is fits)),
    (λ may. subst (λ (r : Rule). FitsRule r word) (sym first.rule_is) (stands_fits verb word rules place are first.within may)),
  );
})

-- of as many words as rules
pub one_wrong : (verb : List ℕ) (words others : List (List ℕ)) (rules : List Rule) (place : ℕ) (unfit : Rule) → words ≡ verb ∷ others → length others ≡ length rules → AreRulesOf verb rules → FirstUnfit rules others place unfit → IsFirstWrong words (place + 1) unfit
one_wrong verb words others rules place unfit e l are first =
    let sample = sample_said verb rules are in
    first_wrong verb words others rules place unfit e (omega (arith, l)) are (verb ∷ sample.0, say_with verb sample.0 sample.1, (let long = sample.2 in omega (arith, l, long))) first

pub other_count : (verb : List ℕ) (words others : List (List ℕ)) (rules : List Rule) → words ≡ verb ∷ others → length others ≢ length rules → AreRulesOf verb rules → (verb ≡ codes "keywords" → ⊥) → HasOtherCount words (length rules)
other_count verb words others rules e l are other = subst (λ (ws : List (List ℕ)). HasOtherCount ws (length rules)) (sym e) (record {
  some = omega arith;
  known = (are.0, are.1);
  each = λ c has. row_length verb rules c are has other;
  other = λ same. l (omega (arith, same));
})

pub no_verb : (verb : List ℕ) (words others : List (List ℕ)) → words ≡ verb ∷ others → ((c : Command) → HasVerb verb c → ⊥) → HasNoVerb words
no_verb verb words others e none = subst HasNoVerb (sym e) (record { some = omega arith; none = none })

pub all_said : (verb : List ℕ) (words others : List (List ℕ)) (rules : List Rule) → words ≡ verb ∷ others → length others ≡ length rules → AreRulesOf verb rules → FitTo rules others (length rules) → (command : Command) × Says words command
all_said verb words others rules e l are fit =
    let s = said_with verb rules others are (fit_all rules others l fit) in
    (s.0, subst (λ (ws : List (List ℕ)). Says ws s.0) (s.2 ∙ sym e) (says_own s.0 s.1))

-- the words after the first
pub words_split : {S : Type 0} → (f : S → List ℕ) (words others : List S) (first : S) (verb : List ℕ) → words ≡ first ∷ others → verb ≡ f first → map f words ≡ verb ∷ map f others
words_split f words others first verb e v = ap (map f) e ∙ ap (λ (w : List ℕ). w ∷ map f others) (sym v)

pub as_many : {S : Type 0} → (f : S → List ℕ) (words : List S) (n : ℕ) → length words ≡ n → length (map f words) ≡ n
as_many f words n l = length-map words f ∙ l
