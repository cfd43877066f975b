-- The words of the commands.
use Rattle.std.specs.Prelude.{◌≡◌, ◌≤◌, ◌<◌, ◌^◌, ℕ, List, [], ◌∷◌, length, codes}
use Rattle.hex.specs.Hex.{encode_lower}
use Rattle.mdbox_base.specs.Keywords.{AreWords, AreWordsOf}
use Rattle.mdbox_base.specs.Numbers.{decimal_text}
use Rattle.mdbox_base.specs.Words.{IsOctets, IsNumber, IsName}
use Rattle.request_text.specs.declared.command.Command.{Command}
use Rattle.request_text.specs.declared.command.Command.TheVariants as command

-- The words of a command, with keywords in rising order and each once. An id is 16 lower-case hexadecimal digits, and numbers are decimal, without leading zeros.
abbrev pub words_of : Command → List (List ℕ)
words_of (command.Init id) = codes "init" ∷ encode_lower id.0 ∷ []
words_of (command.Deliver name) = codes "deliver" ∷ name ∷ []
words_of (command.List name) = codes "list" ∷ name ∷ []
words_of (command.Fetch name uid) = codes "fetch" ∷ name ∷ decimal_text uid.0 ∷ []
words_of (command.Flag name uid flags) = codes "flag" ∷ name ∷ decimal_text uid.0 ∷ decimal_text flags ∷ []
words_of (command.Keywords name uid words) = codes "keywords" ∷ name ∷ decimal_text uid.0 ∷ words
words_of (command.Expunge name uid) = codes "expunge" ∷ name ∷ decimal_text uid.0 ∷ []
words_of (command.Copy name uid target) = codes "copy" ∷ name ∷ decimal_text uid.0 ∷ target ∷ []
words_of (command.Move name uid target) = codes "move" ∷ name ∷ decimal_text uid.0 ∷ target ∷ []
words_of (command.Make name) = codes "make" ∷ name ∷ []
words_of (command.Delete name) = codes "delete" ∷ name ∷ []
words_of (command.Rename name target) = codes "rename" ∷ name ∷ target ∷ []
words_of command.Boxes = codes "boxes" ∷ []
words_of command.Counts = codes "counts" ∷ []
words_of command.Purge = codes "purge" ∷ []
words_of command.Resync = codes "resync" ∷ []
words_of (command.Batch lanes) = codes "batch" ∷ decimal_text lanes ∷ []
words_of command.Serve = codes "serve" ∷ []
words_of (command.Exercise lanes count number) = codes "exercise" ∷ decimal_text lanes ∷ decimal_text count ∷ decimal_text number ∷ []
words_of (command.Rebuild id) = codes "rebuild" ∷ encode_lower id.0 ∷ []
words_of command.Dump = codes "dump" ∷ []
words_of command.LogDump = codes "logdump" ∷ []
words_of command.Help = codes "--help" ∷ []
words_of command.Version = codes "--version" ∷ []

-- An id has 8 octets, a name is that of a mailbox, a UID is from 1 to 4,294,967,294, flags are a sum of bits up to 16, keywords are those of
-- a message; there are 1 to 64 lanes and, of an exercise, 1 to 100,000 requests, and the number that makes it is below 2 ^ 64.
abbrev pub IsInRange : Command → Type 0
IsInRange (command.Init id) = (length id.0 ≡ 8) × IsOctets id.0
IsInRange (command.Deliver name) = IsName name
IsInRange (command.List name) = IsName name
IsInRange (command.Fetch name uid) = IsName name × IsNumber uid.0
IsInRange (command.Flag name uid flags) = IsName name × IsNumber uid.0 × (flags ≤ 31)
IsInRange (command.Keywords name uid words) = IsName name × IsNumber uid.0 × AreWords words
IsInRange (command.Expunge name uid) = IsName name × IsNumber uid.0
IsInRange (command.Copy name uid target) = IsName name × IsNumber uid.0 × IsName target
IsInRange (command.Move name uid target) = IsName name × IsNumber uid.0 × IsName target
IsInRange (command.Make name) = IsName name
IsInRange (command.Delete name) = IsName name
IsInRange (command.Rename name target) = IsName name × IsName target
IsInRange command.Boxes = Unit {0}
IsInRange command.Counts = Unit {0}
IsInRange command.Purge = Unit {0}
IsInRange command.Resync = Unit {0}
IsInRange (command.Batch lanes) = (1 ≤ lanes) × (lanes ≤ 64)
IsInRange command.Serve = Unit {0}
IsInRange (command.Exercise lanes count number) = (1 ≤ lanes) × (lanes ≤ 64) × (1 ≤ count) × (count ≤ 100000) × (number < 2 ^ 64)
IsInRange (command.Rebuild id) = (length id.0 ≡ 8) × IsOctets id.0
IsInRange command.Dump = Unit {0}
IsInRange command.LogDump = Unit {0}
IsInRange command.Help = Unit {0}
IsInRange command.Version = Unit {0}

-- The words are those of a command, of which keywords may stand in any order, and more than once.
abbrev pub AreCommandWords : Command → List (List ℕ) → Type 0
AreCommandWords (command.Keywords name uid words) said = (given : List (List ℕ)) × AreWordsOf given words × (said ≡ codes "keywords" ∷ name ∷ decimal_text uid.0 ∷ given)
AreCommandWords other said = said ≡ words_of other

-- The words say this command.
abbrev pub Says : List (List ℕ) → Command → Type 0
Says words command = IsInRange command × AreCommandWords command words

-- The words say this command, and no other.
pub record SaysOnly (words : List (List ℕ)) (command : Command) : Type 0 where
  pub says : Says words command
  pub only : (other : Command) → Says words other → other ≡ command

-- The words say no command.
abbrev pub SayNothing : List (List ℕ) → Type 0
SayNothing words = (command : Command) → Says words command → ⊥

-- the command names a mailbox
abbrev pub NamesMailbox : Command → Type 0
NamesMailbox (command.Deliver name) = Unit {0}
NamesMailbox (command.List name) = Unit {0}
NamesMailbox (command.Fetch name uid) = Unit {0}
NamesMailbox (command.Flag name uid flags) = Unit {0}
NamesMailbox (command.Keywords name uid words) = Unit {0}
NamesMailbox (command.Expunge name uid) = Unit {0}
NamesMailbox (command.Copy name uid target) = Unit {0}
NamesMailbox (command.Move name uid target) = Unit {0}
NamesMailbox (command.Make name) = Unit {0}
NamesMailbox (command.Delete name) = Unit {0}
NamesMailbox (command.Rename name target) = Unit {0}
NamesMailbox other = ⊥
