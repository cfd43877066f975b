-- Scripts: the requests of several lanes, as a text.
use Rattle.std.specs.Prelude.{◌≡◌, ◌≤◌, ◌<◌, ◌^◌, ℕ, List, [], ◌∷◌, ◌++◌, length, flat_map, codes, Result, Ok, Err, ◌⊎◌}
use Rattle.std.specs.List.{AllByRecursion}
use Rattle.mdbox_base.specs.Keywords.{AreWords}
use Rattle.mdbox_base.specs.Numbers.{decimal_text}
use Rattle.mdbox_base.specs.Words.{IsNumber, IsName}
use Rattle.mdbox_base.specs.declared.requests.Request.{Request}
use Rattle.mdbox_base.specs.declared.requests.Request.TheVariants as request
use Rattle.mdbox_base.specs.declared.script.Script.{Script}
use Rattle.script_text.specs.declared.error.ScriptError.{ScriptError}
use Rattle.script_text.specs.declared.error.ScriptError.TheVariants as script_error

-- a name: how many octets it has, a colon, and its octets
abbrev pub name_word : List ℕ → List ℕ
name_word name = decimal_text (length name) ++ 58 ∷ name

-- The words of a request. Numbers are decimal, without leading zeros; of a message its size stands here, and before keywords how many there are.
abbrev pub request_words : Request → List (List ℕ)
request_words (request.Deliver name time message) = codes "deliver" ∷ name_word name ∷ decimal_text time ∷ decimal_text (length message) ∷ []
request_words (request.List name) = codes "list" ∷ name_word name ∷ []
request_words (request.Fetch name uid) = codes "fetch" ∷ name_word name ∷ decimal_text uid.0 ∷ []
request_words (request.Flag name uid flags) = codes "flag" ∷ name_word name ∷ decimal_text uid.0 ∷ decimal_text flags ∷ []
request_words (request.Keywords name uid words) = codes "keywords" ∷ name_word name ∷ decimal_text uid.0 ∷ decimal_text (length words) ∷ words
request_words (request.Copy name uid target) = codes "copy" ∷ name_word name ∷ decimal_text uid.0 ∷ name_word target ∷ []
request_words (request.Move name uid target) = codes "move" ∷ name_word name ∷ decimal_text uid.0 ∷ name_word target ∷ []
request_words (request.Expunge name uid) = codes "expunge" ∷ name_word name ∷ decimal_text uid.0 ∷ []
request_words (request.Make name) = codes "make" ∷ name_word name ∷ []
request_words (request.Delete name) = codes "delete" ∷ name_word name ∷ []
request_words (request.Rename name target) = codes "rename" ∷ name_word name ∷ name_word target ∷ []
request_words request.Counts = codes "counts" ∷ []
request_words request.Purge = codes "purge" ∷ []
request_words request.Resync = codes "resync" ∷ []

-- words, a space between any two
abbrev pub spaced : List (List ℕ) → List ℕ
spaced [] = []
spaced (word ∷ []) = word
spaced (word ∷ next ∷ rest) = word ++ 32 ∷ spaced (next ∷ rest)

-- what follows the line of a delivery: the message and LF
abbrev pub message_text : Request → List ℕ
message_text (request.Deliver name time message) = message ++ 10 ∷ []
message_text other = []

-- A request of a script: its lane and its words, LF, and the message of a delivery.
abbrev pub request_text : ℕ × Request → List ℕ
request_text asked = spaced (decimal_text asked.0 ∷ request_words asked.1) ++ 10 ∷ message_text asked.1

abbrev pub script_text : List (ℕ × Request) → List ℕ
script_text requests = flat_map request_text requests

-- Names are those of mailboxes, UIDs are from 1 to 4,294,967,294, flags are a sum of bits up to 16, keywords are those of a
-- message, a time is below 2 ^ 64, and a message has at most 67,108,864 octets.
abbrev pub FitsScript : Request → Type 0
FitsScript (request.Deliver name time message) = IsName name × (time < 2 ^ 64) × (length message ≤ 67108864)
FitsScript (request.List name) = IsName name
FitsScript (request.Fetch name uid) = IsName name × IsNumber uid.0
FitsScript (request.Flag name uid flags) = IsName name × IsNumber uid.0 × (flags ≤ 31)
FitsScript (request.Keywords name uid words) = IsName name × IsNumber uid.0 × AreWords words
FitsScript (request.Copy name uid target) = IsName name × IsNumber uid.0 × IsName target
FitsScript (request.Move name uid target) = IsName name × IsNumber uid.0 × IsName target
FitsScript (request.Expunge name uid) = IsName name × IsNumber uid.0
FitsScript (request.Make name) = IsName name
FitsScript (request.Delete name) = IsName name
FitsScript (request.Rename name target) = IsName name × IsName target
FitsScript request.Counts = Unit {0}
FitsScript request.Purge = Unit {0}
FitsScript request.Resync = Unit {0}

-- a request of one of so many lanes
pub record FitsLanes (lanes : ℕ) (asked : ℕ × Request) : Type 0 where
  pub first : 1 ≤ asked.0
  pub last : asked.0 ≤ lanes
  pub fits : FitsScript asked.1

-- A script for its lanes: at most 100,000 requests.
pub record IsForLanes (script : Script) : Type 0 where
  pub few : length script.requests ≤ 100000
  pub each : AllByRecursion (FitsLanes script.lanes) script.requests

-- The text is this script for so many lanes.
pub record IsScript (lanes : ℕ) (text : List ℕ) (script : Script) : Type 0 where
  pub lanes_are : script.lanes ≡ lanes
  pub for_lanes : IsForLanes script
  pub spelled : text ≡ script_text script.requests

-- no request of these lanes stands at the front
abbrev pub BeginsNoRequest : ℕ → List ℕ → Type 0
BeginsNoRequest lanes text = (asked : ℕ × Request) (rest : List ℕ) → FitsLanes lanes asked → text ≡ request_text asked ++ rest → ⊥

-- a request of these lanes stands at the front
abbrev pub BeginsRequest : ℕ → List ℕ → Type 0
BeginsRequest lanes text = (asked : ℕ × Request) × (rest : List ℕ) × FitsLanes lanes asked × (text ≡ request_text asked ++ rest)

-- Behind some requests, fewer than 100,000, the text goes on with one more: so far it is well formed.
abbrev pub BeginsAnother : ℕ → List ℕ → Type 0
BeginsAnother lanes text = (good : List (ℕ × Request)) × (rest : List ℕ) × (length good < 100000) × AllByRecursion (FitsLanes lanes) good × (text ≡ script_text good ++ rest) × BeginsRequest lanes rest

-- Behind these requests the text goes on, with what is none, or with the 100,001st.
pub record GoesWrong (lanes : ℕ) (text : List ℕ) (good : List (ℕ × Request)) (rest : List ℕ) : Type 0 where
  pub few : length good ≤ 100000
  pub each : AllByRecursion (FitsLanes lanes) good
  pub spelled : text ≡ script_text good ++ rest
  pub goes_on : 0 < length rest
  pub wrong : BeginsNoRequest lanes rest ⊎ (length good ≡ 100000)

-- The text goes wrong at this offset.
abbrev pub IsBadAt : ℕ → List ℕ → ℕ → Type 0
IsBadAt lanes text offset = (good : List (ℕ × Request)) × (rest : List ℕ) × GoesWrong lanes text good rest × (offset ≡ length (script_text good))

-- What reading a script answers, memory aside.
abbrev pub ScriptGives : ℕ → List ℕ → Result Script ScriptError → Type 0
ScriptGives lanes text (Ok script) = IsScript lanes text script
ScriptGives lanes text (Err (script_error.Bad offset)) = IsBadAt lanes text offset
ScriptGives lanes text (Err script_error.NoMemory) = ⊥
