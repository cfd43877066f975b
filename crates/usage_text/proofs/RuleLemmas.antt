-- The rules of a verb's words: what may stand in a command, and what is said by words that fit them.
use Rattle.std.specs.Prelude.{◌≡◌, ◌≢◌, ◌≤◌, ◌<◌, ◌+◌, ◌*◌, ◌^◌, ◌↔◌, ℕ, Bool, IsTrue, zero, suc, nat_eq, false, List, [], ◌∷◌, length, get_or, refl, codes}
use Rattle.std.specs.Str.{IsAscii}
use Rattle.std.proofs.Common.{sym, ◌∙◌, ap, arith, subst}
use Rattle.std.proofs.lemmas.Bool.{eqb-false}
use Rattle.std.proofs.lemmas.Fmt.{decimal_injective}
use Rattle.std.proofs.lemmas.List.Elements.{All-nil, All-cons}
use Rattle.std.proofs.lemmas.Str.{IsUtf8-from_ascii}
use Rattle.hex.specs.Hex.{encode_lower}
use Rattle.mdbox_base.specs.Keywords.{IsAtomOctet, IsKeyword, AreWords}
use Rattle.mdbox_base.specs.Numbers.{decimal_text}
use Rattle.mdbox_base.specs.Words.{IsName, IsOctets}
use Rattle.request_text.specs.Commands.{words_of, IsInRange, Says}
use Rattle.request_text.specs.declared.command.Command.{Command}
use Rattle.request_text.specs.declared.command.Command.TheVariants as command
use Rattle.usage_text.specs.Blames.{FitsRule, IsDecimal, HasVerb, SayVerb, StandsInCommand, word_at}
use Rattle.usage_text.specs.Rules.{rules_of, AreRulesOf, FitTo}
use Rattle.usage_text.specs.declared.rule.Rule.{Rule}
use Rattle.usage_text.specs.declared.rule.Rule.TheVariants as rule
use Rattle.request_text.proofs.GivenWordLemmas.{themselves}

-- ---- words beside rules

abbrev pub FitAll : List Rule → List (List ℕ) → Type 0
FitAll [] [] = Unit {0}
FitAll [] (w ∷ words) = ⊥
FitAll (r ∷ rules) [] = ⊥
FitAll (r ∷ rules) (w ∷ words) = FitsRule r w × FitAll rules words

abbrev pub rule_at : List Rule → ℕ → Rule
rule_at rules place = get_or rules place rule.Name

-- and others may follow
abbrev FitFirst : List Rule → List (List ℕ) → Type 0
FitFirst [] words = Unit {0}
FitFirst (r ∷ rules) [] = ⊥
FitFirst (r ∷ rules) (w ∷ words) = FitsRule r w × FitFirst rules words

fit_at : (rules : List Rule) (words : List (List ℕ)) (place : ℕ) → FitFirst rules words → place < length rules → FitsRule (rule_at rules place) (word_at words place)
fit_at [] words place f lt = absurd (omega (arith, lt))
fit_at (r ∷ rules) [] place f lt = absurd f
fit_at (r ∷ rules) (w ∷ words) zero f lt = f.0
fit_at (r ∷ rules) (w ∷ words) (suc place) f lt = fit_at rules words place f.1 (omega (arith, lt))

pub fit_all : (rules : List Rule) (words : List (List ℕ)) → length words ≡ length rules → FitTo rules words (length rules) → FitAll rules words
fit_all [] [] l f = tt
fit_all [] (w ∷ words) l f = absurd (omega (arith, l))
fit_all (r ∷ rules) [] l f = absurd (omega (arith, l))
fit_all (r ∷ rules) (w ∷ words) l f = (f 0 (omega arith), fit_all rules words (omega (arith, l)) (λ earlier lt. f (suc earlier) (omega (arith, lt))))

pub fit_length : (rules : List Rule) (words : List (List ℕ)) → FitAll rules words → length words ≡ length rules
fit_length [] [] f = refl
fit_length [] (w ∷ words) f = absurd f
fit_length (r ∷ rules) [] f = absurd f
fit_length (r ∷ rules) (w ∷ words) f = ap suc (fit_length rules words f.1)

-- ---- a word that fits each rule

ascii_one : IsAscii (120 ∷ [])
ascii_one zero = omega arith
ascii_one (suc i) = omega arith

pub sample_name : IsName (120 ∷ [])
sample_name = record {
  some = omega arith;
  short = omega arith;
  printing = All-cons (λ (octet : ℕ). 32 ≤ octet) 120 [] (omega arith) (All-nil (λ (octet : ℕ). 32 ≤ octet));
  no_delete = All-cons (λ (octet : ℕ). octet ≢ 127) 120 [] (λ e. omega (arith, e)) (All-nil (λ (octet : ℕ). octet ≢ 127));
  utf8 = IsUtf8-from_ascii (120 ∷ []) ascii_one;
}

sample_octet : IsAtomOctet 120
sample_octet = record {
  low = omega arith;
  high = omega arith;
  no_open = λ e. omega (arith, e);
  no_close = λ e. omega (arith, e);
  no_brace = λ e. omega (arith, e);
  no_percent = λ e. omega (arith, e);
  no_star = λ e. omega (arith, e);
  no_quote = λ e. omega (arith, e);
  no_backslash = λ e. omega (arith, e);
  no_bracket = λ e. omega (arith, e);
}

pub sample_keyword : IsKeyword (120 ∷ [])
sample_keyword = record { some = omega arith; short = omega arith; atom = All-cons IsAtomOctet 120 [] sample_octet (All-nil IsAtomOctet) }

pub no_words : AreWords []
no_words = record { few = omega arith; each = All-nil IsKeyword; rising = λ i j d lt le. absurd (omega (arith, le)) }

abbrev zeros : List ℕ
zeros = 0 ∷ 0 ∷ 0 ∷ 0 ∷ 0 ∷ 0 ∷ 0 ∷ 0 ∷ []

one_more : (xs : List ℕ) → IsOctets xs → IsOctets (0 ∷ xs)
one_more xs all = All-cons (λ (octet : ℕ). octet < 256) 0 xs (omega arith) all

zeros_are_octets : IsOctets zeros
zeros_are_octets = one_more (0 ∷ 0 ∷ 0 ∷ 0 ∷ 0 ∷ 0 ∷ 0 ∷ []) (one_more (0 ∷ 0 ∷ 0 ∷ 0 ∷ 0 ∷ 0 ∷ []) (one_more (0 ∷ 0 ∷ 0 ∷ 0 ∷ 0 ∷ []) (one_more (0 ∷ 0 ∷ 0 ∷ 0 ∷ []) (one_more (0 ∷ 0 ∷ 0 ∷ []) (one_more (0 ∷ 0 ∷ []) (one_more (0 ∷ []) (one_more [] (All-nil (λ (octet : ℕ). octet < 256)))))))))

abbrev sample : Rule → List ℕ
sample rule.Id = encode_lower zeros
sample rule.Name = 120 ∷ []
sample rule.Keyword = 120 ∷ []
sample other = decimal_text 1

sample_fits : (r : Rule) → FitsRule r (sample r)
sample_fits rule.Id = (zeros, refl, zeros_are_octets, refl)
sample_fits rule.Name = sample_name
sample_fits rule.Keyword = sample_keyword
sample_fits rule.Uid = (1, omega arith, omega arith, refl)
sample_fits rule.Flags = (1, omega arith, omega arith, refl)
sample_fits rule.Lanes = (1, omega arith, omega arith, refl)
sample_fits rule.Requests = (1, omega arith, omega arith, refl)
sample_fits rule.Number = (1, omega arith, omega arith, refl)

abbrev samples : List Rule → List (List ℕ)
samples [] = []
samples (r ∷ rules) = sample r ∷ samples rules

samples_fit : (rules : List Rule) → FitAll rules (samples rules)
samples_fit [] = tt
samples_fit (r ∷ rules) = (sample_fits r, samples_fit rules)

-- such words, but for one
abbrev fill : List Rule → ℕ → List ℕ → List (List ℕ)
fill [] place word = []
fill (r ∷ rules) zero word = word ∷ samples rules
fill (r ∷ rules) (suc place) word = sample r ∷ fill rules place word

fill_fits : (rules : List Rule) (place : ℕ) (word : List ℕ) → place < length rules → FitsRule (rule_at rules place) word → FitAll rules (fill rules place word)
fill_fits [] place word lt f = tt
fill_fits (r ∷ rules) zero word lt f = (f, samples_fit rules)
fill_fits (r ∷ rules) (suc place) word lt f = (sample_fits r, fill_fits rules place word (omega (arith, lt)) f)

fill_at : (rules : List Rule) (place : ℕ) (word : List ℕ) → place < length rules → word_at (fill rules place word) place ≡ word
fill_at [] place word lt = absurd (omega (arith, lt))
fill_at (r ∷ rules) zero word lt = refl
fill_at (r ∷ rules) (suc place) word lt = fill_at rules place word (omega (arith, lt))

-- ---- numbers

pub decimal_fits : (b : Bool) (number least most : ℕ) (word : List ℕ) → number < 2 ^ 64 → most < 2 ^ 64 → word ≡ decimal_text number → IsTrue b ↔ ((least ≤ number) × (number ≤ most)) → IsTrue b ↔ IsDecimal least most word
decimal_fits b number least most word small limit is both = (
  (λ yes. (number, (both.0 yes).0, (both.0 yes).1, is)),
  (λ d.
      let below : d.0 < 2 ^ 64 = (let high = d.2 in omega (arith, high, limit)) in
      let same : number ≡ d.0 = decimal_injective number d.0 small below (sym is ∙ d.3) in
      both.1 (subst (λ (k : ℕ). least ≤ k) (sym same) d.1, subst (λ (k : ℕ). k ≤ most) (sym same) d.2)),
)

-- ---- the commands

-- the verb, and the words after it
abbrev pub verb_of : Command → List ℕ
verb_of c = word_at (words_of c) 0

abbrev pub others_of : List (List ℕ) → List (List ℕ)
others_of [] = []
others_of (w ∷ words) = words

fits_first : (c : Command) → IsInRange c → FitFirst (rules_of c) (others_of (words_of c))
fits_first (command.Init id) r = ((id.0, r.0, r.1, refl), tt)
fits_first (command.Deliver name) r = (r, tt)
fits_first (command.List name) r = (r, tt)
fits_first (command.Fetch name uid) r = (r.0, ((uid.0, r.1.low, r.1.high, refl), tt))
fits_first (command.Flag name uid flags) r = (r.0, ((uid.0, r.1.low, r.1.high, refl), ((flags, omega arith, r.2, refl), tt)))
fits_first (command.Keywords name uid words) r = (r.0, ((uid.0, r.1.low, r.1.high, refl), tt))
fits_first (command.Expunge name uid) r = (r.0, ((uid.0, r.1.low, r.1.high, refl), tt))
fits_first (command.Copy name uid target) r = (r.0, ((uid.0, r.1.low, r.1.high, refl), (r.2, tt)))
fits_first (command.Move name uid target) r = (r.0, ((uid.0, r.1.low, r.1.high, refl), (r.2, tt)))
fits_first (command.Make name) r = (r, tt)
fits_first (command.Delete name) r = (r, tt)
fits_first (command.Rename name target) r = (r.0, (r.1, tt))
fits_first command.Boxes r = tt
fits_first command.Counts r = tt
fits_first command.Purge r = tt
fits_first command.Resync r = tt
fits_first command.Serve r = tt
fits_first (command.Batch lanes) r = ((lanes, r.0, r.1, refl), tt)
fits_first (command.Exercise lanes count number) r = ((lanes, r.0, r.1, refl), ((count, r.2, r.3, refl), ((number, omega arith, omega (arith, r.4), refl), tt)))
fits_first (command.Rebuild id) r = ((id.0, r.0, r.1, refl), tt)
fits_first command.Dump r = tt
fits_first command.LogDump r = tt
fits_first command.Help r = tt
fits_first command.Version r = tt

-- words that say a command, of which keywords may stand in any order
said_first : (c : Command) (words : List (List ℕ)) → Says words c → FitFirst (rules_of c) (others_of words)
said_first (command.Keywords name uid texts) words s = subst (λ (ws : List (List ℕ)). FitFirst (rule.Name ∷ rule.Uid ∷ []) (others_of ws)) (sym s.1.2) (s.0.0, ((uid.0, s.0.1.low, s.0.1.high, refl), tt))
said_first c words s = subst (λ (ws : List (List ℕ)). FitFirst (rules_of c) (others_of ws)) (sym s.1) (fits_first c s.0)

pub says_own : (c : Command) → IsInRange c → Says (words_of c) c
says_own (command.Keywords name uid texts) r = (r, (texts, themselves texts r.2, refl))
says_own c r = (r, refl)

pub verb_said : (c : Command) (words : List (List ℕ)) → Says words c → word_at words 0 ≡ verb_of c
verb_said (command.Keywords name uid texts) words s = ap (λ (ws : List (List ℕ)). word_at ws 0) s.1.2
verb_said c words s = ap (λ (ws : List (List ℕ)). word_at ws 0) s.1

-- ---- words that fit are those of a command

none_fit : (words : List (List ℕ)) → FitAll [] words → words ≡ []
none_fit [] f = refl
none_fit (w ∷ words) f = absurd f

one_fit : (q : Rule) (words : List (List ℕ)) → FitAll (q ∷ []) words → (v : List ℕ) × FitsRule q v × (words ≡ v ∷ [])
one_fit q [] f = absurd f
one_fit q (v ∷ words) f = (v, f.0, ap (λ (t : List (List ℕ)). v ∷ t) (none_fit words f.1))

two_fit : (q r : Rule) (words : List (List ℕ)) → FitAll (q ∷ r ∷ []) words → (v : List ℕ) × (w : List ℕ) × FitsRule q v × FitsRule r w × (words ≡ v ∷ w ∷ [])
two_fit q r [] f = absurd f
two_fit q r (v ∷ words) f = let s = one_fit r words f.1 in (v, s.0, f.0, s.1, ap (λ (t : List (List ℕ)). v ∷ t) s.2)

three_fit : (q r p : Rule) (words : List (List ℕ)) → FitAll (q ∷ r ∷ p ∷ []) words → (v : List ℕ) × (w : List ℕ) × (u : List ℕ) × FitsRule q v × FitsRule r w × FitsRule p u × (words ≡ v ∷ w ∷ u ∷ [])
three_fit q r p [] f = absurd f
three_fit q r p (v ∷ words) f = let s = two_fit r p words f.1 in (v, s.0, s.1, f.0, s.2, s.3, ap (λ (t : List (List ℕ)). v ∷ t) s.4)

same_one : (verb a v : List ℕ) (words : List (List ℕ)) → words ≡ v ∷ [] → v ≡ a → verb ∷ a ∷ [] ≡ verb ∷ words
same_one verb a v words e p = ap (λ (t : List ℕ). verb ∷ t ∷ []) (sym p) ∙ ap (λ (t : List (List ℕ)). verb ∷ t) (sym e)

same_two : (verb a b v w : List ℕ) (words : List (List ℕ)) → words ≡ v ∷ w ∷ [] → v ≡ a → w ≡ b → verb ∷ a ∷ b ∷ [] ≡ verb ∷ words
same_two verb a b v w words e p q = ap (λ (t : List ℕ). verb ∷ t ∷ b ∷ []) (sym p) ∙ ap (λ (t : List ℕ). verb ∷ v ∷ t ∷ []) (sym q) ∙ ap (λ (t : List (List ℕ)). verb ∷ t) (sym e)

same_three : (verb a b c v w u : List ℕ) (words : List (List ℕ)) → words ≡ v ∷ w ∷ u ∷ [] → v ≡ a → w ≡ b → u ≡ c → verb ∷ a ∷ b ∷ c ∷ [] ≡ verb ∷ words
same_three verb a b c v w u words e p q r = ap (λ (t : List ℕ). verb ∷ t ∷ b ∷ c ∷ []) (sym p) ∙ ap (λ (t : List ℕ). verb ∷ v ∷ t ∷ c ∷ []) (sym q) ∙ ap (λ (t : List ℕ). verb ∷ v ∷ w ∷ t ∷ []) (sym r) ∙ ap (λ (t : List (List ℕ)). verb ∷ t) (sym e)

-- a command has this verb and these words
abbrev pub SaidBy : List ℕ → List (List ℕ) → Type 0
SaidBy verb words = (d : Command) × IsInRange d × (words_of d ≡ verb ∷ words)

plain : (d : Command) (words : List (List ℕ)) → IsInRange d → words_of d ≡ verb_of d ∷ [] → FitAll [] words → SaidBy (verb_of d) words
plain d words r e f = (d, r, e ∙ ap (λ (t : List (List ℕ)). verb_of d ∷ t) (sym (none_fit words f)))

pub said_by : (c : Command) (words : List (List ℕ)) → FitAll (rules_of c) words → SaidBy (verb_of c) words
said_by (command.Init id) words f = let s = one_fit rule.Id words f in (command.Init (record { 0 = s.1.0 }), (s.1.1, s.1.2), same_one (codes "init") _ _ words s.2 s.1.3)
said_by (command.Rebuild id) words f = let s = one_fit rule.Id words f in (command.Rebuild (record { 0 = s.1.0 }), (s.1.1, s.1.2), same_one (codes "rebuild") _ _ words s.2 s.1.3)
said_by (command.Batch lanes) words f = let s = one_fit rule.Lanes words f in (command.Batch s.1.0, (s.1.1, s.1.2), same_one (codes "batch") _ _ words s.2 s.1.3)
said_by (command.Deliver name) words f = let s = one_fit rule.Name words f in (command.Deliver s.0, s.1, same_one (codes "deliver") _ _ words s.2 refl)
said_by (command.List name) words f = let s = one_fit rule.Name words f in (command.List s.0, s.1, same_one (codes "list") _ _ words s.2 refl)
said_by (command.Make name) words f = let s = one_fit rule.Name words f in (command.Make s.0, s.1, same_one (codes "make") _ _ words s.2 refl)
said_by (command.Delete name) words f = let s = one_fit rule.Name words f in (command.Delete s.0, s.1, same_one (codes "delete") _ _ words s.2 refl)
said_by (command.Rename name target) words f = let s = two_fit rule.Name rule.Name words f in (command.Rename s.0 s.1, (s.2, s.3), same_two (codes "rename") _ _ _ _ words s.4 refl refl)
said_by (command.Fetch name uid) words f = let s = two_fit rule.Name rule.Uid words f in (command.Fetch s.0 (record { 0 = s.3.0 }), (s.2, record { low = s.3.1; high = s.3.2 }), same_two (codes "fetch") _ _ _ _ words s.4 refl s.3.3)
said_by (command.Keywords name uid texts) words f = let s = two_fit rule.Name rule.Uid words f in (command.Keywords s.0 (record { 0 = s.3.0 }) [], (s.2, record { low = s.3.1; high = s.3.2 }, no_words), same_two (codes "keywords") _ _ _ _ words s.4 refl s.3.3)
said_by (command.Expunge name uid) words f = let s = two_fit rule.Name rule.Uid words f in (command.Expunge s.0 (record { 0 = s.3.0 }), (s.2, record { low = s.3.1; high = s.3.2 }), same_two (codes "expunge") _ _ _ _ words s.4 refl s.3.3)
said_by (command.Flag name uid flags) words f = let s = three_fit rule.Name rule.Uid rule.Flags words f in (command.Flag s.0 (record { 0 = s.4.0 }) s.5.0, (s.3, record { low = s.4.1; high = s.4.2 }, s.5.2), same_three (codes "flag") _ _ _ _ _ _ words s.6 refl s.4.3 s.5.3)
said_by (command.Copy name uid target) words f = let s = three_fit rule.Name rule.Uid rule.Name words f in (command.Copy s.0 (record { 0 = s.4.0 }) s.2, (s.3, record { low = s.4.1; high = s.4.2 }, s.5), same_three (codes "copy") _ _ _ _ _ _ words s.6 refl s.4.3 refl)
said_by (command.Move name uid target) words f = let s = three_fit rule.Name rule.Uid rule.Name words f in (command.Move s.0 (record { 0 = s.4.0 }) s.2, (s.3, record { low = s.4.1; high = s.4.2 }, s.5), same_three (codes "move") _ _ _ _ _ _ words s.6 refl s.4.3 refl)
said_by (command.Exercise lanes count number) words f = let s = three_fit rule.Lanes rule.Requests rule.Number words f in (command.Exercise s.3.0 s.4.0 s.5.0, (s.3.1, s.3.2, s.4.1, s.4.2, omega (arith, s.5.2)), same_three (codes "exercise") _ _ _ _ _ _ words s.6 s.3.3 s.4.3 s.5.3)
said_by command.Boxes words f = plain command.Boxes words tt refl f
said_by command.Counts words f = plain command.Counts words tt refl f
said_by command.Purge words f = plain command.Purge words tt refl f
said_by command.Resync words f = plain command.Resync words tt refl f
said_by command.Serve words f = plain command.Serve words tt refl f
said_by command.Dump words f = plain command.Dump words tt refl f
said_by command.LogDump words f = plain command.LogDump words tt refl f
said_by command.Help words f = plain command.Help words tt refl f
said_by command.Version words f = plain command.Version words tt refl f

-- ---- a verb has one row of rules

-- the first three letters of a verb and its length tell it from the others
abbrev tag : List ℕ → ℕ
tag (c ∷ d ∷ e ∷ word) = 16777216 * c + 65536 * d + 256 * e + length word
tag other = 0

differ : (a b : List ℕ) → a ≡ b → nat_eq (tag a) (tag b) ≡ false → ⊥
differ a b e h = eqb-false (tag a) (tag b) h (ap tag e)

pub rules_same : (c d : Command) → verb_of c ≡ verb_of d → rules_of c ≡ rules_of d
rules_same (command.Init a0) (command.Init b0) e = refl
rules_same (command.Deliver a0) (command.Deliver b0) e = refl
rules_same (command.List a0) (command.List b0) e = refl
rules_same (command.Fetch a0 a1) (command.Fetch b0 b1) e = refl
rules_same (command.Flag a0 a1 a2) (command.Flag b0 b1 b2) e = refl
rules_same (command.Keywords a0 a1 a2) (command.Keywords b0 b1 b2) e = refl
rules_same (command.Expunge a0 a1) (command.Expunge b0 b1) e = refl
rules_same (command.Copy a0 a1 a2) (command.Copy b0 b1 b2) e = refl
rules_same (command.Move a0 a1 a2) (command.Move b0 b1 b2) e = refl
rules_same (command.Make a0) (command.Make b0) e = refl
rules_same (command.Delete a0) (command.Delete b0) e = refl
rules_same (command.Rename a0 a1) (command.Rename b0 b1) e = refl
rules_same command.Boxes command.Boxes e = refl
rules_same command.Counts command.Counts e = refl
rules_same command.Purge command.Purge e = refl
rules_same command.Resync command.Resync e = refl
rules_same command.Serve command.Serve e = refl
rules_same (command.Batch a0) (command.Batch b0) e = refl
rules_same (command.Exercise a0 a1 a2) (command.Exercise b0 b1 b2) e = refl
rules_same (command.Rebuild a0) (command.Rebuild b0) e = refl
rules_same command.Dump command.Dump e = refl
rules_same command.LogDump command.LogDump e = refl
rules_same command.Help command.Help e = refl
rules_same command.Version command.Version e = refl
rules_same c d e = absurd (differ (verb_of c) (verb_of d) e refl)

-- each has as many words as rules, but for keywords
lengths : (c : Command) → (verb_of c ≡ codes "keywords" → ⊥) → length (words_of c) ≡ suc (length (rules_of c))
lengths (command.Keywords name uid words) other = absurd (other refl)
lengths c other = refl

-- ---- what may stand at a place

next_of : (words : List (List ℕ)) (place : ℕ) → word_at (others_of words) place ≡ word_at words (suc place)
next_of [] place = refl
next_of (w ∷ words) place = refl

-- of any command of the verb
pub one_row : (verb : List ℕ) (rules : List Rule) (c : Command) → AreRulesOf verb rules → HasVerb verb c → rules ≡ rules_of c
one_row verb rules c are has = are.2 ∙ rules_same are.0 c (are.1 ∙ sym has)

pub row_length : (verb : List ℕ) (rules : List Rule) (c : Command) → AreRulesOf verb rules → HasVerb verb c → (verb ≡ codes "keywords" → ⊥) → length (words_of c) ≡ 1 + length rules
row_length verb rules c are has other =
    let e : length rules ≡ length (rules_of c) = ap length (one_row verb rules c are has) in
    let l : length (words_of c) ≡ suc (length (rules_of c)) = lengths c (λ is. other (sym has ∙ is)) in
    omega (arith, e, l)

pub said_with : (verb : List ℕ) (rules : List Rule) (words : List (List ℕ)) → AreRulesOf verb rules → FitAll rules words → SaidBy verb words
said_with verb rules words are fit =
    let s = said_by are.0 words (subst (λ (rs : List Rule). FitAll rs words) are.2 fit) in
    subst (λ (v : List ℕ). SaidBy v words) are.1 s

say_own : (verb : List ℕ) (words : List (List ℕ)) (said : SaidBy verb words) → SayVerb verb (words_of said.0)
say_own verb words said = record { command = said.0; says = says_own said.0 said.1; verb_is = ap (λ (ws : List (List ℕ)). word_at ws 0) said.2 }

pub say_with : (verb : List ℕ) (words : List (List ℕ)) → SaidBy verb words → SayVerb verb (verb ∷ words)
say_with verb words said = subst (SayVerb verb) said.2 (say_own verb words said)

stands_in : (verb word : List ℕ) (words : List (List ℕ)) (place : ℕ) → SaidBy verb words → place < length words → word_at words place ≡ word → StandsInCommand verb (place + 1) word
stands_in verb word words place said lt is =
    let next : place + 1 ≡ suc place = omega arith in
    let long : length (words_of said.0) ≡ suc (length words) = ap length said.2 in
    record {
      words = words_of said.0;
      say = say_own verb words said;
      within = omega (arith, long, lt);
      word_is = ap (λ (ws : List (List ℕ)). word_at ws (place + 1)) said.2 ∙ ap (λ (k : ℕ). word_at (verb ∷ words) k) next ∙ is;
    }

-- what fits the rule may stand there
pub stands : (verb word : List ℕ) (rules : List Rule) (place : ℕ) → AreRulesOf verb rules → place < length rules → FitsRule (rule_at rules place) word → StandsInCommand verb (place + 1) word
stands verb word rules place are lt fits =
    let fit = fill_fits rules place word lt fits in
    let long : length (fill rules place word) ≡ length rules = fit_length rules (fill rules place word) fit in
    stands_in verb word (fill rules place word) place (said_with verb rules (fill rules place word) are fit) (omega (arith, long, lt)) (fill_at rules place word lt)

-- words of the verb that say a command
pub sample_said : (verb : List ℕ) (rules : List Rule) → AreRulesOf verb rules → (words : List (List ℕ)) × SaidBy verb words × (length words ≡ length rules)
sample_said verb rules are = (samples rules, said_with verb rules (samples rules) are (samples_fit rules), fit_length rules (samples rules) (samples_fit rules))

-- the verb may stand first
pub verb_stands : (verb : List ℕ) (rules : List Rule) → AreRulesOf verb rules → StandsInCommand verb 0 verb
verb_stands verb rules are =
    let said = said_with verb rules (samples rules) are (samples_fit rules) in
    record { words = verb ∷ samples rules; say = say_with verb (samples rules) said; within = omega arith; word_is = refl }

-- and what may stand there fits it
pub stands_fits : (verb word : List ℕ) (rules : List Rule) (place : ℕ) → AreRulesOf verb rules → place < length rules → StandsInCommand verb (place + 1) word → FitsRule (rule_at rules place) word
stands_fits verb word rules place are lt may =
    let c = may.say.command in
    let row : rules ≡ rules_of c = one_row verb rules c are may.say.verb_is in
    let long : length rules ≡ length (rules_of c) = ap length row in
    let next : place + 1 ≡ suc place = omega arith in
    let fits = fit_at (rules_of c) (others_of may.words) place (said_first c may.words may.say.says) (omega (arith, long, lt)) in
    let is : word_at (others_of may.words) place ≡ word = next_of may.words place ∙ ap (λ (k : ℕ). word_at may.words k) (sym next) ∙ may.word_is in
    subst (λ (rs : List Rule). FitsRule (rule_at rs place) word) (sym row) (subst (λ (w : List ℕ). FitsRule (rule_at (rules_of c) place) w) is fits)
