-- What is told of words that say no command.
use Rattle.std.specs.Prelude.{◌≤◌, ◌-◌, ℕ, List, [], ◌∷◌, ◌++◌, length, take, flat_map, codes, if◌then◌else◌, nat_lt}
use Rattle.std.specs.Char.Escape.{escape_ascii}
use Rattle.mdbox_base.specs.Numbers.{decimal_text}
use Rattle.usage_text.specs.Blames.{word_at}
use Rattle.usage_text.specs.declared.blame.Blame.{Blame}
use Rattle.usage_text.specs.declared.blame.Blame.TheVariants as blame
use Rattle.usage_text.specs.declared.rule.Rule.{Rule}
use Rattle.usage_text.specs.declared.rule.Rule.TheVariants as rule

-- A word between quotes: its first 60 octets, of which those that a terminal might obey are escaped, and two points if there are more.
abbrev pub quoted_word : List ℕ → List ℕ
quoted_word word = 34 ∷ (flat_map escape_ascii (take 60 word) ++ (34 ∷ (if nat_lt 60 (length word) then codes ".." else [])))

-- a printing octet of ASCII
abbrev pub IsPrinting : ℕ → Type 0
IsPrinting octet = (32 ≤ octet) × (octet ≤ 126)

-- what the help calls a word of this rule
abbrev pub rule_name : Rule → List ℕ
rule_name rule.Id = codes "ID"
rule_name rule.Name = codes "BOX"
rule_name rule.Uid = codes "UID"
rule_name rule.Flags = codes "BITS"
rule_name rule.Keyword = codes "KEYWORD"
rule_name rule.Lanes = codes "LANES"
rule_name rule.Requests = codes "COUNT"
rule_name rule.Number = codes "NUMBER"

-- what it may be
abbrev pub rule_text : Rule → List ℕ
rule_text rule.Id = codes "16 lower-case hexadecimal digits"
rule_text rule.Name = codes "1 to 255 octets of UTF-8, no control character"
rule_text rule.Uid = codes "1 to 4294967294, no leading zero"
rule_text rule.Flags = codes "0 to 31, no leading zero: the sum of 1 answered, 2 flagged, 4 deleted, 8 seen, 16 draft"
rule_text rule.Keyword = codes "1 to 64 printing octets of ASCII, no blank, none of ( ) { % * " ++ (34 ∷ codes " \\ ]")
rule_text rule.Lanes = codes "1 to 64, no leading zero"
rule_text rule.Requests = codes "1 to 100000, no leading zero"
rule_text rule.Number = codes "0 to 18446744073709551615, no leading zero"

-- how many words there must be after the verb, and how many there are
abbrev pub counts_text : ℕ → ℕ → List ℕ
counts_text count given = codes " takes " ++ (decimal_text count ++ (codes " words after it, not " ++ (decimal_text given ++ codes "; mdbox --help names them")))

abbrev pub count_text : List ℕ → ℕ → ℕ → List ℕ
count_text verb count given = quoted_word verb ++ counts_text count given

-- how many words there must be after the verb at least, and how many there are
abbrev pub least_text : ℕ → ℕ → List ℕ
least_text count given = codes " takes at least " ++ (decimal_text count ++ (codes " words after it, not " ++ (decimal_text given ++ codes "; mdbox --help names them")))

abbrev pub fewer_text : List ℕ → ℕ → ℕ → List ℕ
fewer_text verb count given = quoted_word verb ++ least_text count given

-- a word, and what it may be
abbrev pub word_text : List ℕ → Rule → List ℕ
word_text word rule = rule_name rule ++ (32 ∷ (quoted_word word ++ (codes ": " ++ rule_text rule)))

-- the line, without its end
abbrev pub blame_text : List (List ℕ) → Blame → List ℕ
blame_text words blame.NoWords = codes "no command; mdbox --help lists them"
blame_text words blame.Verb = codes "no command " ++ (quoted_word (word_at words 0) ++ codes "; mdbox --help lists them")
blame_text words (blame.Count count) = count_text (word_at words 0) count (length words - 1)
blame_text words (blame.Fewer count) = fewer_text (word_at words 0) count (length words - 1)
blame_text words blame.Keywords = codes "more than 32 different keywords"
blame_text words (blame.Word place rule) = word_text (word_at words place) rule
