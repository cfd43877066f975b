-- What is to blame of words behind the verb `keywords`: a name, a UID, and keywords in any order.
use Rattle.std.specs.Prelude.{◌≡◌, ◌≤◌, ◌<◌, ◌+◌, ◌*◌, ℕ, zero, suc, List, [], ◌∷◌, length, map, take, drop, get_or, codes, refl, All}
use Rattle.std.proofs.Common.{sym, ◌∙◌, ap, arith, subst, Bool, if◌then◌else◌}
use Rattle.std.proofs.lemmas.Bool.{eqb-false}
use Rattle.std.proofs.lemmas.List.{get_or-replicate, length-replicate, get_or-take, take-map, drop-map}
use Rattle.std.proofs.lemmas.List.Elements.{All-replicate}
use Rattle.std.proofs.Math.ListN.{replicate}
use Rattle.mdbox_base.specs.Keywords.{IsKeyword, AreWordsOf, CanBeWords}
use Rattle.mdbox_base.specs.Numbers.{decimal_text}
use Rattle.mdbox_base.specs.Words.{IsName, count_different}
use Rattle.mdbox_base.specs.declared.ids.Uid.{Uid}
use Rattle.mdbox_base.proofs.WordPlaceLemmas.{of_any}
use Rattle.request_text.specs.Commands.{Says}
use Rattle.request_text.specs.GivenWords.{text_at}
use Rattle.request_text.specs.declared.command.Command.{Command}
use Rattle.request_text.specs.declared.command.Command.TheVariants as command
use Rattle.request_text.proofs.GivenWordLemmas.{given_are, given_can}
use Rattle.usage_text.specs.Blames.{FitsRule, SayVerb, StandsInCommand, IsFirstWrong, HasFewer, HasManyKeywords, word_at}
use Rattle.usage_text.specs.Rules.{AreRulesOf, FitTo, FirstUnfit}
use Rattle.usage_text.specs.declared.rule.Rule.{Rule}
use Rattle.usage_text.specs.declared.rule.Rule.TheVariants as rule
use Rattle.usage_text.proofs.RuleLemmas.{verb_of, verb_said, sample_name, sample_keyword}
use Rattle.usage_text.proofs.BlameLemmas.{first_wrong, firsts}

abbrev pub verb : List ℕ
verb = codes "keywords"

abbrev pub name_and_uid : List Rule
name_and_uid = rule.Name ∷ rule.Uid ∷ []

-- the rules of the verb
are_rules : AreRulesOf verb name_and_uid
are_rules = (command.Keywords [] (record { 0 = 1 }) [], refl, refl)

-- ---- words of the verb that say a command

pub record SayKeywords (words : List (List ℕ)) : Type 0 where
  pub name : List ℕ
  pub uid : Uid
  pub texts : List (List ℕ)
  pub given : List (List ℕ)
  pub are : AreWordsOf given texts
  pub words_are : words ≡ verb ∷ name ∷ decimal_text uid.0 ∷ given

-- the first three letters of a verb and its length tell it from the others
abbrev tag_of : List ℕ → ℕ
tag_of (c ∷ d ∷ e ∷ word) = 16777216 * c + 65536 * d + 256 * e + length word
tag_of other = 0

keywords_of : (c : Command) (words : List (List ℕ)) → verb_of c ≡ verb → Says words c → SayKeywords words
keywords_of (command.Keywords name uid texts) words e s = record { name = name; uid = uid; texts = texts; given = s.1.0; are = s.1.1; words_are = s.1.2 }
keywords_of c words e s = absurd (eqb-false (tag_of (verb_of c)) (tag_of verb) refl (ap tag_of e))

say_keywords : (words : List (List ℕ)) → SayVerb verb words → SayKeywords words
say_keywords words say = keywords_of say.command words say.verb_is say.says

-- a name, a UID and keywords say one
said_keywords : (name uid : List ℕ) (given : List (List ℕ)) → IsName name → FitsRule rule.Uid uid → CanBeWords given → (c : Command) × Says (verb ∷ name ∷ uid ∷ given) c
said_keywords name uid given n d can =
    let texts = given_are given can in
    (command.Keywords name (record { 0 = d.0 }) texts.0, ((n, record { low = d.1; high = d.2 }, texts.1.words_are), (given, texts.1, ap (λ (text : List ℕ). verb ∷ name ∷ text ∷ given) d.3)))

say_of : (name uid : List ℕ) (given : List (List ℕ)) → IsName name → FitsRule rule.Uid uid → CanBeWords given → SayVerb verb (verb ∷ name ∷ uid ∷ given)
say_of name uid given n d can =
    let said = said_keywords name uid given n d can in
    record { command = said.0; says = said.1; verb_is = sym (verb_said said.0 (verb ∷ name ∷ uid ∷ given) said.1) }

-- ---- one keyword, again and again

again_counted : (n : ℕ) (word : List ℕ) → count_different (replicate n word) ≤ 1
again_counted zero word = omega arith
again_counted (suc zero) word = omega arith
again_counted (suc (suc n)) word =
    let same : count_different (replicate (suc (suc n)) word) ≡ count_different (replicate (suc n) word) =
    ap (λ (b : Bool). if b then count_different (replicate (suc n) word) else count_different (replicate (suc n) word) + 1) (of_any word (replicate (suc n) word) (0, omega arith, refl)) in
    let rest = again_counted (suc n) word in
    omega (arith, same, rest)

again_can : (n : ℕ) (word : List ℕ) → IsKeyword word → CanBeWords (replicate n word)
again_can n word keyword = record { each = All-replicate IsKeyword n word keyword; few = let one = again_counted n word in omega (arith, one) }

abbrev sample_text : List ℕ
sample_text = 120 ∷ []

sample_uid : FitsRule rule.Uid (decimal_text 1)
sample_uid = (1, omega arith, omega arith, refl)

-- as many words as you like say a command
say_again : (n : ℕ) (word : List ℕ) → IsKeyword word → SayVerb verb (verb ∷ sample_text ∷ decimal_text 1 ∷ replicate n word)
say_again n word keyword = say_of sample_text (decimal_text 1) (replicate n word) sample_name sample_uid (again_can n word keyword)

as_many_said : (others : List (List ℕ)) → 2 ≤ length others → (other : List (List ℕ)) × SayVerb verb other × (length other ≡ 1 + length others)
as_many_said [] le = absurd (omega (arith, le))
as_many_said (a ∷ []) le = absurd (omega (arith, le))
as_many_said (a ∷ b ∷ rest) le = (
  verb ∷ sample_text ∷ decimal_text 1 ∷ replicate (length rest) sample_text,
  say_again (length rest) sample_text sample_keyword,
  (let long : length (replicate (length rest) sample_text) ≡ length rest = length-replicate (length rest) sample_text in omega (arith, long)),
)

-- ---- what may stand behind the UID

keyword_stands : (place : ℕ) (word : List ℕ) → IsKeyword word → StandsInCommand verb (suc (suc (suc place))) word
keyword_stands place word keyword = record {
  words = verb ∷ sample_text ∷ decimal_text 1 ∷ replicate (suc place) word;
  say = say_again (suc place) word keyword;
  within = (let long : length (replicate (suc place) word) ≡ suc place = length-replicate (suc place) word in omega (arith, long));
  word_is = get_or-replicate (suc place) place word [] (omega arith);
}

stands_keyword : (place : ℕ) (word : List ℕ) → StandsInCommand verb (suc (suc (suc place))) word → IsKeyword word
stands_keyword place word may =
    let said = say_keywords may.words may.say in
    let can : CanBeWords said.given = given_can said.given said.texts said.are in
    let long : length may.words ≡ length (verb ∷ said.name ∷ decimal_text said.uid.0 ∷ said.given) = ap (λ (ws : List (List ℕ)). length ws) said.words_are in
    let within = may.within in
    let is : word_at said.given place ≡ word = sym (ap (λ (ws : List (List ℕ)). word_at ws (suc (suc (suc place)))) said.words_are) ∙ may.word_is in
    subst IsKeyword is (can.each place [] (omega (arith, long, within)))

-- ---- words in memory

pub front_texts : {S : Type 0} → (f : S → List ℕ) (others front : List S) (n : ℕ) → n ≡ 2 → front ≡ take n others → map f front ≡ take 2 (map f others)
front_texts f others front n two e = ap (map f) (e ∙ ap (λ (k : ℕ). take k others) two) ∙ sym (take-map f 2 others)

pub back_texts : {S : Type 0} → (f : S → List ℕ) (others back : List S) (n : ℕ) → n ≡ 2 → back ≡ drop n others → map f back ≡ drop 2 (map f others)
back_texts f others back n two e = ap (map f) (e ∙ ap (λ (k : ℕ). drop k others) two) ∙ sym (drop-map f 2 others)

-- ---- the blames

pub too_few : (words others : List (List ℕ)) → words ≡ verb ∷ others → length others < 2 → HasFewer words 2
too_few words others e lt = subst (λ (ws : List (List ℕ)). HasFewer ws 2) (sym e) (record {
  some = omega arith;
  known = (are_rules.0, are_rules.1);
  each = λ other say. let said = say_keywords other say in let long : length other ≡ length (verb ∷ said.name ∷ decimal_text said.uid.0 ∷ said.given) = ap (λ (ws : List (List ℕ)). length ws) said.words_are in omega (arith, long);
  least = (verb ∷ sample_text ∷ decimal_text 1 ∷ replicate 0 sample_text, say_again 0 sample_text sample_keyword, refl);
  more = (verb ∷ sample_text ∷ decimal_text 1 ∷ replicate 1 sample_text, say_again 1 sample_text sample_keyword, omega arith);
  fewer = omega (arith, lt);
})

fit_front : (others : List (List ℕ)) (place n : ℕ) → place ≤ n → FitTo name_and_uid (take n others) place → FitTo name_and_uid others place
fit_front others place n le fit earlier lt =
    subst (FitsRule (get_or name_and_uid earlier rule.Name)) (get_or-take n others earlier [] (omega (arith, le, lt))) (fit earlier lt)

-- the name and the UID fit
pub fit_two : (rules : List Rule) (front texts : List (List ℕ)) → rules ≡ name_and_uid → front ≡ take 2 texts → FitTo rules front (length rules) → FitTo name_and_uid (take 2 texts) 2
fit_two rules front texts e f fit = subst (λ (ts : List (List ℕ)). FitTo name_and_uid ts 2) f (subst (λ (rs : List Rule). FitTo rs front (length rs)) e fit)

unfit_front : (others : List (List ℕ)) (place : ℕ) (unfit : Rule) → FirstUnfit name_and_uid (take 2 others) place unfit → FirstUnfit name_and_uid others place unfit
unfit_front others place unfit first =
    let lt : place < 2 = first.within in
    record {
      within = first.within;
      rule_is = first.rule_is;
      wrong = λ fits. first.wrong (subst (FitsRule unfit) (sym (get_or-take 2 others place [] lt)) fits);
      first = fit_front others place 2 (omega (arith, lt)) first.first;
    }

-- the name or the UID is wrong
pub front_wrong : (words others : List (List ℕ)) (place : ℕ) (unfit : Rule) → words ≡ verb ∷ others → 2 ≤ length others → FirstUnfit name_and_uid (take 2 others) place unfit → IsFirstWrong words (place + 1) unfit
front_wrong words others place unfit e l first = first_wrong verb words others name_and_uid place unfit e l are_rules (as_many_said others l) (unfit_front others place unfit first)

-- what stands before a place behind the UID may stand there
stands_before : (others : List (List ℕ)) (place earlier : ℕ) → FitTo name_and_uid others 2 → ((k : ℕ) → k < place → IsKeyword (text_at (drop 2 others) k)) → 2 + place ≤ length others → earlier < suc (suc (suc place)) → StandsInCommand verb earlier (word_at (verb ∷ others) earlier)
stands_before [] place earlier fit each le lt = absurd (omega (arith, le))
stands_before (a ∷ []) place earlier fit each le lt = absurd (omega (arith, le))
stands_before (a ∷ b ∷ rest) place zero fit each le lt = firsts verb (a ∷ b ∷ rest) name_and_uid 2 zero are_rules (omega arith) fit (omega arith)
stands_before (a ∷ b ∷ rest) place (suc zero) fit each le lt = firsts verb (a ∷ b ∷ rest) name_and_uid 2 1 are_rules (omega arith) fit (omega arith)
stands_before (a ∷ b ∷ rest) place (suc (suc zero)) fit each le lt = firsts verb (a ∷ b ∷ rest) name_and_uid 2 2 are_rules (omega arith) fit (omega arith)
stands_before (a ∷ b ∷ rest) place (suc (suc (suc k))) fit each le lt = keyword_stands k (word_at rest k) (each k (omega (arith, lt)))

at_three : (others : List (List ℕ)) (place : ℕ) → 2 ≤ length others → word_at (verb ∷ others) (suc (suc (suc place))) ≡ text_at (drop 2 others) place
at_three [] place l = absurd (omega (arith, l))
at_three (a ∷ []) place l = absurd (omega (arith, l))
at_three (a ∷ b ∷ rest) place l = refl

-- a word that should be a keyword is wrong
keyword_at_wrong : (words others : List (List ℕ)) (place : ℕ) → words ≡ verb ∷ others → FitTo name_and_uid others 2 → 2 + place < length others
    → (IsKeyword (text_at (drop 2 others) place) → ⊥) → ((k : ℕ) → k < place → IsKeyword (text_at (drop 2 others) k)) → IsFirstWrong words (suc (suc (suc place))) rule.Keyword
keyword_at_wrong words others place e fit lt wrong each = subst (λ (ws : List (List ℕ)). IsFirstWrong ws (suc (suc (suc place))) rule.Keyword) (sym e) (record {
  counted = (let some = as_many_said others (omega (arith, lt)) in (some.0, some.1, (let long = some.2 in omega (arith, long))));
  wrong = record {
    within = omega (arith, lt);
    wrong = λ may. wrong (subst IsKeyword (at_three others place (omega (arith, lt))) (stands_keyword place (word_at (verb ∷ others) (suc (suc (suc place)))) may));
  };
  first = λ earlier less. stands_before others place earlier fit each (omega (arith, lt)) less;
  rule_is = λ word. ((λ keyword. keyword_stands place word keyword), (λ may. stands_keyword place word may));
})

pub keyword_wrong : (words others : List (List ℕ)) (place : ℕ) → words ≡ verb ∷ others → FitTo name_and_uid (take 2 others) 2 → 2 + place < length others
    → (IsKeyword (text_at (drop 2 others) place) → ⊥) → ((k : ℕ) → k < place → IsKeyword (text_at (drop 2 others) k)) → IsFirstWrong words (place + 3) rule.Keyword
keyword_wrong words others place e fit lt wrong each =
    let next : suc (suc (suc place)) ≡ place + 3 = omega arith in
    subst (λ (k : ℕ). IsFirstWrong words k rule.Keyword) next (keyword_at_wrong words others place e (fit_front others 2 2 (omega arith) fit) lt wrong each)

-- nothing is wrong
pub keywords_fit : (words others : List (List ℕ)) → words ≡ verb ∷ others → 2 ≤ length others → FitTo name_and_uid (take 2 others) 2 → All IsKeyword (drop 2 others) → count_different (drop 2 others) ≤ 32 → (c : Command) × Says words c
keywords_fit words [] e l fit each few = absurd (omega (arith, l))
keywords_fit words (a ∷ []) e l fit each few = absurd (omega (arith, l))
keywords_fit words (a ∷ b ∷ rest) e l fit each few =
    let said = said_keywords a b rest (fit 0 (omega arith)) (fit 1 (omega arith)) (record { each = each; few = few }) in
    (said.0, subst (λ (ws : List (List ℕ)). Says ws said.0) (sym e) said.1)

-- more keywords than a message has
too_many_given : (others : List (List ℕ)) (c : Command) → 2 ≤ length others → (count_different (drop 2 others) ≤ 32 → ⊥) → Says (verb ∷ others) c → ⊥
too_many_given others c l many s =
    let said = keywords_of c (verb ∷ others) (sym (verb_said c (verb ∷ others) s)) s in
    let can : CanBeWords said.given = given_can said.given said.texts said.are in
    let same : drop 2 others ≡ said.given = ap (λ (ws : List (List ℕ)). drop 3 ws) said.words_are in
    many (subst (λ (texts : List (List ℕ)). count_different texts ≤ 32) (sym same) can.few)

pub too_many_keywords : (words others : List (List ℕ)) → words ≡ verb ∷ others → 2 ≤ length others → FitTo name_and_uid (take 2 others) 2 → All IsKeyword (drop 2 others) → (count_different (drop 2 others) ≤ 32 → ⊥) → HasManyKeywords words
too_many_keywords words [] e l fit each many = absurd (omega (arith, l))
too_many_keywords words (a ∷ []) e l fit each many = absurd (omega (arith, l))
too_many_keywords words (a ∷ b ∷ rest) e l fit each many = subst HasManyKeywords (sym e) (record {
  each = λ place lt. stands_before (a ∷ b ∷ rest) (length rest) place (fit_front (a ∷ b ∷ rest) 2 2 (omega arith) fit) (λ k less. each k [] less) (omega arith) (omega (arith, lt));
  many = omega (arith, many);
  none = λ c s. too_many_given (a ∷ b ∷ rest) c l many s;
})
