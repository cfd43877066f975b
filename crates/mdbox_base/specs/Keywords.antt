-- Keywords of messages.
use Rattle.std.specs.Prelude.{◌≡◌, ◌≢◌, ◌≤◌, ◌↔◌, ◌⊎◌, ◌+◌, ℕ, List, length, if◌then◌else◌, All, AllPairs, Contains}
use Rattle.std.specs.List.{list_any}
use Rattle.std.specs.Str.{bytes_eq}
use Rattle.std.specs.Cmp.Lexicographic.{slice_cmp}
use Rattle.std.specs.Ordering.{nat_cmp}
use Rattle.std.specs.declared.cmp.Ordering.TheVariants.{Less}
use Rattle.mdbox_base.specs.Words.{count_different}
use Rattle.mdbox_base.specs.declared.entries.BoxEntry.{BoxEntry}
use Rattle.mdbox_base.specs.declared.entries.BoxEntry.TheVariants as box

-- An octet of an atom (RFC 9051, section 9): it prints, and is none of `(`, `)`, `{`, `%`, `*`, `"`, `\` and `]`.
pub record IsAtomOctet (octet : ℕ) : Type 0 where
  pub low : 33 ≤ octet
  pub high : octet ≤ 126
  pub no_open : octet ≢ 40
  pub no_close : octet ≢ 41
  pub no_brace : octet ≢ 123
  pub no_percent : octet ≢ 37
  pub no_star : octet ≢ 42
  pub no_quote : octet ≢ 34
  pub no_backslash : octet ≢ 92
  pub no_bracket : octet ≢ 93

-- A keyword (RFC 9051, section 2.3.2): an atom of 1 to 64 octets.
pub record IsKeyword (word : List ℕ) : Type 0 where
  pub some : 1 ≤ length word
  pub short : length word ≤ 64
  pub atom : All IsAtomOctet word

-- The keywords of a message: at most 32, in rising order of octets.
pub record AreWords (words : List (List ℕ)) : Type 0 where
  pub few : length words ≤ 32
  pub each : All IsKeyword words
  pub rising : AllPairs (λ a b. slice_cmp nat_cmp a b ≡ Less) words

-- Texts that are keywords of one message, in any order and with repeats.
pub record CanBeWords (texts : List (List ℕ)) : Type 0 where
  pub each : All IsKeyword texts
  pub few : count_different texts ≤ 32

-- The keywords that these texts are, each once.
pub record AreWordsOf (texts words : List (List ℕ)) : Type 0 where
  pub words_are : AreWords words
  pub same : (word : List ℕ) → Contains words word ↔ Contains texts word

-- Rising texts with this one among them, at most 32.
pub record AreWordsWith (text : List ℕ) (words more : List (List ℕ)) : Type 0 where
  pub few : length more ≤ 32
  pub rising : AllPairs (λ a b. slice_cmp nat_cmp a b ≡ Less) more
  pub same : (word : List ℕ) → Contains more word ↔ ((word ≡ text) ⊎ Contains words word)
  pub count : length more ≡ (if list_any (bytes_eq text) words then length words else length words + 1)

-- an entry that may have keywords, so that a copy of it may take memory
abbrev pub WantsMemory : BoxEntry → Type 0
WantsMemory (box.A uid flags time size map_uid guid words) = Unit {0}
WantsMemory (box.K uid words) = Unit {0}
WantsMemory entry = ⊥
