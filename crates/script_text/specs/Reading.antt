-- What is found of a request in the words of a line and what follows the line.
use Rattle.std.specs.Prelude.{◌≡◌, ◌≤◌, ◌<◌, ◌^◌, ℕ, List, [], ◌∷◌, ◌++◌, length, flat_map, All, IsTrue, codes}
use Rattle.std.specs.List.{list_all}
use Rattle.mdbox_base.specs.Keywords.{AreWords}
use Rattle.mdbox_base.specs.Numbers.{decimal_text}
use Rattle.mdbox_base.specs.Words.{IsName, is_other_than}
use Rattle.mdbox_base.specs.declared.requests.Request.{Request}
use Rattle.mdbox_base.specs.declared.requests.Request.TheVariants as request
use Rattle.script_text.specs.Flaws.{verb_word}
use Rattle.script_text.specs.Script.{FitsScript, name_word, request_words, spaced, message_text}
use Rattle.script_text.specs.declared.flaw.Need.{Need}
use Rattle.script_text.specs.declared.flaw.Need.TheVariants as need
use Rattle.script_text.specs.declared.verb.Verb.{Verb}
use Rattle.script_text.specs.declared.verb.Verb.TheVariants as verb

-- the words behind the lane are this request's, and its message comes first in what follows the line
pub record IsRequestOf (words rest : List ℕ) (asked : Request) (after : List ℕ) : Type 0 where
  pub fits : FitsScript asked
  pub words_are : words ≡ spaced (request_words asked)
  pub message_is : rest ≡ message_text asked ++ after

abbrev pub AsksNothing : List ℕ → List ℕ → Type 0
AsksNothing words rest = (asked : Request) (after : List ℕ) → IsRequestOf words rest asked after → ⊥

abbrev pub AsksSomething : List ℕ → List ℕ → Type 0
AsksSomething words rest = (asked : Request) × (after : List ℕ) × IsRequestOf words rest asked after

-- a request of one word
abbrev pub IsOneWord : Request → Type 0
IsOneWord request.Counts = Unit {0}
IsOneWord request.Purge = Unit {0}
IsOneWord request.Resync = Unit {0}
IsOneWord other = ⊥

-- the verb of a request that has further words
abbrev pub verb_text : Verb → List ℕ
verb_text verb.Deliver = codes "deliver"
verb_text verb.List = codes "list"
verb_text verb.Fetch = codes "fetch"
verb_text verb.Flag = codes "flag"
verb_text verb.Keywords = codes "keywords"
verb_text verb.Copy = codes "copy"
verb_text verb.Move = codes "move"
verb_text verb.Expunge = codes "expunge"
verb_text verb.Make = codes "make"
verb_text verb.Delete = codes "delete"
verb_text verb.Rename = codes "rename"

-- each of the words behind one space
abbrev pub each_spaced : List (List ℕ) → List ℕ
each_spaced words = flat_map (λ word. 32 ∷ word) words

-- the text is these words, which have no space in them, each behind one space
abbrev pub AreTextsOf : List (List ℕ) → List ℕ → Type 0
AreTextsOf texts text = All (λ word. IsTrue (list_all (is_other_than 32) word)) texts × (text ≡ each_spaced texts)

-- the text is keywords behind their number
abbrev pub AreCountedWords : List ℕ → Type 0
AreCountedWords text = (keywords : List (List ℕ)) × AreWords keywords × (text ≡ spaced (decimal_text (length keywords) ∷ keywords))

-- the text is at its end, or begins with a space
abbrev pub IsAtSpace : List ℕ → Type 0
IsAtSpace [] = Unit {0}
IsAtSpace (octet ∷ text) = octet ≡ 32

-- a request has the verb in front of the text
abbrev pub BeginsVerb : List ℕ → Type 0
BeginsVerb text = (asked : Request) × (after : List ℕ) × FitsScript asked × (text ≡ verb_word asked ++ after)

-- the words of a delivery, without the lane
pub record AreDelivery (words : List ℕ) : Type 0 where
  pub name : List ℕ
  pub time : ℕ
  pub size : ℕ
  pub name_fits : IsName name
  pub time_fits : time < 2 ^ 64
  pub size_fits : size ≤ 67108864
  pub words_are : words ≡ codes "deliver" ++ 32 ∷ spaced (name_word name ∷ decimal_text time ∷ decimal_text size ∷ [])

-- of words that with what follows their line are no request: those of a delivery lack their message, others are wrong
abbrev pub IsWordsOrMessage : List ℕ → Need → Type 0
IsWordsOrMessage words need.Message = AreDelivery words
IsWordsOrMessage words need.Words = AreDelivery words → ⊥
IsWordsOrMessage words other = ⊥
