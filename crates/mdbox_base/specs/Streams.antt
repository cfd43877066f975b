-- Sources and sinks of octets: what they tell, and how they change.
use Rattle.std.specs.Prelude.{◌≡◌, ◌≤◌, ◌+◌, ◌-◌, ◌^◌, ◌++◌, ℕ, min, List, [], length, Option, IfSome, codes}
use Rattle.mdbox_base.specs.Numbers.{decimal_text}
use Rattle.std.specs.Option.{option_map}
use Rattle.mdbox_base.specs.declared.stream.InputError.{InputError}
use Rattle.mdbox_base.specs.declared.stream.InputError.TheVariants.{TooLong, Fault, NoMemory}

-- the next value of a count, which stands still at its type's end
abbrev pub next_count : ℕ → ℕ
next_count n = min (n + 1) (2 ^ 64 - 1)

-- a count of faults rose, or it stands at its type's end
abbrev pub Rose : ℕ → ℕ → Type 0
Rose old new = next_count old ≤ new

-- Where a source tells what is left: these octets were in front, and what is behind them is left now.
abbrev pub Taken : Option (List ℕ) → List ℕ → Option (List ℕ) → Type 0
Taken old octets new = old ≡ option_map (λ rest. octets ++ rest) new

-- Where a sink tells what it holds: these octets were appended.
abbrev pub Appended : Option (List ℕ) → List ℕ → Option (List ℕ) → Type 0
Appended old octets new = new ≡ option_map (λ held. held ++ octets) old

-- nothing is left, where that is told
abbrev pub IsAtEnd : Option (List ℕ) → Type 0
IsAtEnd left = IfSome left (λ rest. rest ≡ [])

-- why no input was read: it is longer than the limit, and one octet more was taken; or the source's count of faults rose
abbrev pub Refused : ℕ → Option (List ℕ) → Option (List ℕ) → ℕ → ℕ → InputError → Type 0
Refused limit old new faults later (TooLong n) = (n ≡ limit) × ((octets : List ℕ) × (length octets ≡ limit + 1) × Taken old octets new)
Refused limit old new faults later Fault = Rose faults later × ((octets : List ℕ) × Taken old octets new)
Refused limit old new faults later NoMemory = (octets : List ℕ) × Taken old octets new

-- A source over memory: what is left, the numbers of the calls that fail, and how many calls and faults there were.
pub record MemorySource : Type 0 where
  pub left : List ℕ
  pub fails : List ℕ
  pub calls : ℕ
  pub faults : ℕ

-- A sink over memory: what it holds, the numbers of the calls that fail, and how many calls and faults there were.
pub record MemorySink : Type 0 where
  pub held : List ℕ
  pub fails : List ℕ
  pub calls : ℕ
  pub faults : ℕ

-- what an error says when it is printed
abbrev pub input_error_text : InputError → List ℕ
input_error_text (TooLong limit) = codes "more than " ++ decimal_text limit ++ codes " octets"
input_error_text Fault = codes "the source failed"
input_error_text NoMemory = codes "out of memory"
