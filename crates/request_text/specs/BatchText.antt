-- What is printed of the replies of a script.
use Rattle.std.specs.Prelude.{◌+◌, ◌==◌, ◌&&◌, ℕ, Bool, true, false, List, [], ◌∷◌, ◌++◌, codes, Option, Some, None, if◌then◌else◌}
use Rattle.mdbox_base.specs.Numbers.{decimal_text}
use Rattle.mdbox_base.specs.declared.replies.Refusal.TheVariants as refusal
use Rattle.mdbox_base.specs.declared.replies.Reply.{Reply}
use Rattle.mdbox_base.specs.declared.replies.Reply.TheVariants as reply
use Rattle.mdbox_base.specs.declared.script.Half.{Half}
use Rattle.mdbox_base.specs.declared.script.Half.TheVariants as half
use Rattle.mdbox_base.specs.declared.script.JournalEntry.{JournalEntry}
use Rattle.request_text.specs.ReplyText.{reply_text}
use Rattle.request_text.specs.declared.places.Places.{Places}
use Rattle.request_text.specs.declared.places.Places.TheVariants as places
use Rattle.request_text.specs.declared.places.Steps.{Steps}

-- a place in the journal, or `-`
abbrev pub place_text : Option ℕ → List ℕ
place_text None = codes "-"
place_text (Some place) = decimal_text place

abbrev pub places_text : Places → List ℕ
places_text (places.One step) = place_text step
places_text (places.Two copied removed) = place_text copied ++ 44 ∷ place_text removed

-- the number of a request in the script, and the places of its steps in the journal, each before a space
abbrev pub front_text : ℕ → Places → List ℕ
front_text number at = decimal_text number ++ 32 ∷ (places_text at ++ 32 ∷ [])

-- A reply of a script.
abbrev pub numbered_text : ℕ → Places → Reply → List ℕ
numbered_text number at given = front_text number at ++ reply_text given

-- ---- places

abbrev pub same_half : Half → Half → Bool
same_half half.Whole half.Whole = true
same_half half.CopyHalf half.CopyHalf = true
same_half half.ExpungeHalf half.ExpungeHalf = true
same_half other one = false

-- where the journal, whose entries are counted from this number, has this half of this request
abbrev pub place_from : ℕ → List JournalEntry → ℕ → Half → Option ℕ
place_from n [] request half = None
place_from n (entry ∷ rest) request half = if entry.request == request && same_half entry.half half then Some n else place_from (n + 1) rest request half

-- a reply that refuses a move's copy: there is no second step to come
abbrev pub refuses_copy : Reply → Bool
refuses_copy (reply.Refused refusal.ReadFault) = false
refuses_copy (reply.Refused refusal.Stopped) = false
refuses_copy (reply.Refused other) = true
refuses_copy other = false

-- the places of a request's steps in the journal, counted from 1
abbrev pub request_steps : List JournalEntry → ℕ → Steps
request_steps journal request = record {
  whole = place_from 1 journal request half.Whole;
  copied = place_from 1 journal request half.CopyHalf;
  removed = place_from 1 journal request half.ExpungeHalf;
}

-- two places for a move whose copy was made, else one
abbrev pub places_by : Option ℕ → Option ℕ → Option ℕ → Reply → Places
places_by whole None removed given = places.One whole
places_by whole (Some copied) removed given = if refuses_copy given then places.One (Some copied) else places.Two (Some copied) removed

abbrev pub places_told : Steps → Reply → Places
places_told steps given = places_by steps.whole steps.copied steps.removed given

-- ---- the whole text

-- a request that has no reply yet prints nothing
abbrev pub answer_text : ℕ → Steps → Option Reply → List ℕ
answer_text number steps None = []
answer_text number steps (Some given) = numbered_text number (places_told steps given) given

-- from this request on
abbrev pub replies_from : List JournalEntry → ℕ → List (Option Reply) → List ℕ
replies_from journal request [] = []
replies_from journal request (answer ∷ rest) = answer_text (request + 1) (request_steps journal request) answer ++ replies_from journal (request + 1) rest

-- The text of the replies of a script, one after another in its order, whichever lane they are of.
abbrev pub batch_text : List JournalEntry → List (Option Reply) → List ℕ
batch_text journal replies = replies_from journal 0 replies
