-- What is wrong with words that say no command.
use Rattle.std.specs.Prelude.{◌≡◌, ◌≢◌, ◌≤◌, ◌<◌, ◌+◌, ◌↔◌, ℕ, List, [], length, drop, get_or}
use Rattle.hex.specs.Hex.{encode_lower}
use Rattle.mdbox_base.specs.Keywords.{IsKeyword}
use Rattle.mdbox_base.specs.Numbers.{decimal_text}
use Rattle.mdbox_base.specs.Words.{IsOctets, IsName, count_different}
use Rattle.request_text.specs.Commands.{Says, words_of}
use Rattle.request_text.specs.declared.command.Command.{Command}
use Rattle.usage_text.specs.declared.blame.Blame.{Blame}
use Rattle.usage_text.specs.declared.blame.Blame.TheVariants as blame
use Rattle.usage_text.specs.declared.rule.Rule.{Rule}
use Rattle.usage_text.specs.declared.rule.Rule.TheVariants as rule

-- a number of this range, in decimal digits, without leading zeros
abbrev pub IsDecimal : ℕ → ℕ → List ℕ → Type 0
IsDecimal least most word = (n : ℕ) × (least ≤ n) × (n ≤ most) × (word ≡ decimal_text n)

-- The word is one that the rule allows.
abbrev pub FitsRule : Rule → List ℕ → Type 0
FitsRule rule.Id word = (id : List ℕ) × (length id ≡ 8) × IsOctets id × (word ≡ encode_lower id)
FitsRule rule.Name word = IsName word
FitsRule rule.Uid word = IsDecimal 1 4294967294 word
FitsRule rule.Flags word = IsDecimal 0 31 word
FitsRule rule.Keyword word = IsKeyword word
FitsRule rule.Lanes word = IsDecimal 1 64 word
FitsRule rule.Requests word = IsDecimal 1 100000 word
FitsRule rule.Number word = IsDecimal 0 18446744073709551615 word

-- the word at a place; the verb is at 0
abbrev pub word_at : List (List ℕ) → ℕ → List ℕ
word_at words place = get_or words place []

-- the command has this verb
abbrev pub HasVerb : List ℕ → Command → Type 0
HasVerb verb command = word_at (words_of command) 0 ≡ verb

-- words that say a command of this verb
pub record SayVerb (verb : List ℕ) (words : List (List ℕ)) : Type 0 where
  pub command : Command
  pub says : Says words command
  pub verb_is : HasVerb verb command

-- a command of this verb has this word at this place
pub record StandsInCommand (verb : List ℕ) (place : ℕ) (word : List ℕ) : Type 0 where
  pub words : List (List ℕ)
  pub say : SayVerb verb words
  pub within : place < length words
  pub word_is : word_at words place ≡ word

-- The word at this place stands there in no command of the verb.
pub record IsWrongWord (words : List (List ℕ)) (place : ℕ) : Type 0 where
  pub within : place < length words
  pub wrong : StandsInCommand (word_at words 0) place (word_at words place) → ⊥

-- There are words, and no command has their verb.
pub record HasNoVerb (words : List (List ℕ)) : Type 0 where
  pub some : 1 ≤ length words
  pub none : (command : Command) → HasVerb (word_at words 0) command → ⊥

-- Each command of the verb has so many words after it, and there is one; these are more, or fewer.
pub record HasOtherCount (words : List (List ℕ)) (count : ℕ) : Type 0 where
  pub some : 1 ≤ length words
  pub known : (command : Command) × HasVerb (word_at words 0) command
  pub each : (command : Command) → HasVerb (word_at words 0) command → length (words_of command) ≡ 1 + count
  pub other : length words ≢ 1 + count

-- Words that say a command of the verb have so many words after it at least: some just so many, and some more. These are fewer.
pub record HasFewer (words : List (List ℕ)) (count : ℕ) : Type 0 where
  pub some : 1 ≤ length words
  pub known : (command : Command) × HasVerb (word_at words 0) command
  pub each : (other : List (List ℕ)) → SayVerb (word_at words 0) other → 1 + count ≤ length other
  pub least : (other : List (List ℕ)) × SayVerb (word_at words 0) other × (length other ≡ 1 + count)
  pub more : (other : List (List ℕ)) × SayVerb (word_at words 0) other × (1 + count < length other)
  pub fewer : length words < 1 + count

-- Each word stands at its place in a command of the verb; but more than 32 of those behind the first three are different.
pub record HasManyKeywords (words : List (List ℕ)) : Type 0 where
  pub each : (place : ℕ) → place < length words → StandsInCommand (word_at words 0) place (word_at words place)
  pub many : 32 < count_different (drop 3 words)
  pub none : (command : Command) → Says words command → ⊥

-- There are as many words as say a command of the verb. The one at this place is the first wrong one; and the rule allows just what
-- may stand there.
pub record IsFirstWrong (words : List (List ℕ)) (place : ℕ) (rule : Rule) : Type 0 where
  pub counted : (other : List (List ℕ)) × SayVerb (word_at words 0) other × (length other ≡ length words)
  pub wrong : IsWrongWord words place
  pub first : (earlier : ℕ) → earlier < place → StandsInCommand (word_at words 0) earlier (word_at words earlier)
  pub rule_is : (word : List ℕ) → FitsRule rule word ↔ StandsInCommand (word_at words 0) place word

-- What is to blame of words that say no command.
abbrev pub BlameGives : List (List ℕ) → Blame → Type 0
BlameGives words blame.NoWords = words ≡ []
BlameGives words blame.Verb = HasNoVerb words
BlameGives words (blame.Count count) = HasOtherCount words count
BlameGives words (blame.Fewer count) = HasFewer words count
BlameGives words blame.Keywords = HasManyKeywords words
BlameGives words (blame.Word place rule) = IsFirstWrong words place rule
