-- The rules of a command's words, as they are looked up.
use Rattle.std.specs.Prelude.{◌≡◌, ◌<◌, ℕ, List, [], ◌∷◌, length, get_or}
use Rattle.request_text.specs.declared.command.Command.{Command}
use Rattle.request_text.specs.declared.command.Command.TheVariants as command
use Rattle.usage_text.specs.Blames.{FitsRule, HasVerb, word_at}
use Rattle.usage_text.specs.declared.rule.Rule.{Rule}
use Rattle.usage_text.specs.declared.rule.Rule.TheVariants as rule

-- the rules of the words after the verb, but for keywords
abbrev pub rules_of : Command → List Rule
rules_of (command.Init id) = rule.Id ∷ []
rules_of (command.Deliver name) = rule.Name ∷ []
rules_of (command.List name) = rule.Name ∷ []
rules_of (command.Fetch name uid) = rule.Name ∷ rule.Uid ∷ []
rules_of (command.Flag name uid flags) = rule.Name ∷ rule.Uid ∷ rule.Flags ∷ []
rules_of (command.Keywords name uid words) = rule.Name ∷ rule.Uid ∷ []
rules_of (command.Expunge name uid) = rule.Name ∷ rule.Uid ∷ []
rules_of (command.Copy name uid target) = rule.Name ∷ rule.Uid ∷ rule.Name ∷ []
rules_of (command.Move name uid target) = rule.Name ∷ rule.Uid ∷ rule.Name ∷ []
rules_of (command.Make name) = rule.Name ∷ []
rules_of (command.Delete name) = rule.Name ∷ []
rules_of (command.Rename name target) = rule.Name ∷ rule.Name ∷ []
rules_of command.Boxes = []
rules_of command.Counts = []
rules_of command.Purge = []
rules_of command.Resync = []
rules_of (command.Batch lanes) = rule.Lanes ∷ []
rules_of command.Serve = []
rules_of (command.Exercise lanes count number) = rule.Lanes ∷ rule.Requests ∷ rule.Number ∷ []
rules_of (command.Rebuild id) = rule.Id ∷ []
rules_of command.Dump = []
rules_of command.LogDump = []
rules_of command.Help = []
rules_of command.Version = []

-- a command has this verb and these rules
abbrev pub AreRulesOf : List ℕ → List Rule → Type 0
AreRulesOf verb rules = (command : Command) × HasVerb verb command × (rules ≡ rules_of command)

-- the words fit the rules up to this place
abbrev pub FitTo : List Rule → List (List ℕ) → ℕ → Type 0
FitTo rules words place = (earlier : ℕ) → earlier < place → FitsRule (get_or rules earlier rule.Name) (word_at words earlier)

-- the first of these words that doesn't fit is at this place
pub record FirstUnfit (rules : List Rule) (words : List (List ℕ)) (place : ℕ) (unfit : Rule) : Type 0 where
  pub within : place < length rules
  pub rule_is : unfit ≡ get_or rules place rule.Name
  pub wrong : FitsRule unfit (word_at words place) → ⊥
  pub first : FitTo rules words place
