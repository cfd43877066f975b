-- Where a text that is no script goes wrong, and what is missing there.
use Rattle.std.specs.Prelude.{◌≡◌, ◌≢◌, ◌+◌, ℕ, List, [], ◌∷◌, ◌++◌, take, drop, get_or, nat_eq}
use Rattle.std.specs.List.{count_by}
use Rattle.mdbox_base.specs.Numbers.{decimal_text}
use Rattle.mdbox_base.specs.declared.requests.Request.{Request}
use Rattle.script_text.specs.Script.{FitsLanes, IsBadAt, request_text, request_words, spaced}
use Rattle.script_text.specs.declared.flaw.Need.{Need}
use Rattle.script_text.specs.declared.flaw.Need.TheVariants as need
use Rattle.script_text.specs.declared.flaw.ScriptFlaw.{ScriptFlaw}

-- the number of the line that begins or goes on at this offset; the first line is 1
abbrev pub line_at : List ℕ → ℕ → ℕ
line_at text offset = 1 + count_by (λ octet. nat_eq octet 10) (take offset text)

abbrev pub verb_word : Request → List ℕ
verb_word asked = get_or (request_words asked) 0 []

-- The text of a request as far as this: its lane and a space; its verb too; its line; all.
abbrev pub request_front : Need → ℕ × Request → List ℕ
request_front need.Lane asked = decimal_text asked.0 ++ 32 ∷ []
request_front need.Verb asked = decimal_text asked.0 ++ 32 ∷ verb_word asked.1
request_front need.Words asked = spaced (decimal_text asked.0 ∷ request_words asked.1) ++ 10 ∷ []
request_front other asked = request_text asked

-- The text begins as a request of these lanes does, as far as this.
abbrev pub Has : ℕ → List ℕ → Need → Type 0
Has lanes text need = (asked : ℕ × Request) × (after : List ℕ) × FitsLanes lanes asked × (text ≡ request_front need asked ++ after)

-- It begins as none does.
abbrev pub Lacks : ℕ → List ℕ → Need → Type 0
Lacks lanes text need = (asked : ℕ × Request) (after : List ℕ) → FitsLanes lanes asked → text ≢ request_front need asked ++ after

-- This is what is missing first; or nothing is, and there must be fewer requests.
abbrev pub IsNeeded : ℕ → List ℕ → Need → Type 0
IsNeeded lanes text need.Lane = Lacks lanes text need.Lane
IsNeeded lanes text need.Verb = Has lanes text need.Lane × Lacks lanes text need.Verb
IsNeeded lanes text need.Words = Has lanes text need.Verb × Lacks lanes text need.Words
IsNeeded lanes text need.Message = Has lanes text need.Words × Lacks lanes text need.Message
IsNeeded lanes text need.Fewer = Has lanes text need.Message

-- The text goes wrong at this offset, in this line, and there this is missing.
pub record IsFlawOf (lanes : ℕ) (text : List ℕ) (flaw : ScriptFlaw) : Type 0 where
  pub bad : IsBadAt lanes text flaw.offset
  pub line_is : flaw.line ≡ line_at text flaw.offset
  pub need_is : IsNeeded lanes (drop flaw.offset text) flaw.need
