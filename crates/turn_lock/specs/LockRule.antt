-- The rule of a lock's table.
-- Word 0 counts the tickets that were drawn, word 1 those that are done, both modulo 2 ^ 64. Seats sleep on the words after
-- these, of which nothing is said. The one slot has the world, except while a seat has the turn.
use Rattle.std.specs.Prelude.{◌≡◌, ℕ, ◌+◌, ◌%◌, ◌<◌, ◌≤◌, ◌⊎◌, Bool, List, [], ◌∷◌, ◌++◌, Option, Some, sum_by}
use mathlib.Core.Option.{none, some}
use mathlib.Core.Option as maybe
use lib.ListN.{get_elem?}
use Rattle.atomic_table.specs.Table.{State}
use Rattle.turn_lock.specs.declared.place.Known.{Known}
use Rattle.turn_lock.specs.declared.place.Place.{Place}
use Rattle.turn_lock.specs.declared.place.Place.TheVariants.{Spent, Free, Waits, HasTurn}

-- a number as a word has it
abbrev pub in_word : ℕ → ℕ
in_word n = n % 18446744073709551616

-- the trace is one that was seen, or goes on from it
abbrev pub StartsWith : List ℕ → List ℕ → Type 0
StartsWith trace seen = (later : List ℕ) × (trace ≡ seen ++ later)

abbrev pub StartsWithEach : List ℕ → List (List ℕ) → Type 0
StartsWithEach trace [] = Unit {0}
StartsWithEach trace (seen ∷ more) = StartsWith trace seen × StartsWithEach trace more

-- the ghost members of `Charter`
pub record Tells (W C : Type 0) : Type 0 where
  pub charter : W → C
  pub trace : W → List ℕ
  pub finished : W → Bool

-- how many of the lock's 64 parts a seat has
abbrev pub parts_at : {C : Type 0} → Place C → ℕ
parts_at Spent = 0
parts_at (Free k) = k.parts
parts_at (Waits k t) = k.parts
parts_at (HasTurn k t found) = k.parts

-- how many tickets a seat has
abbrev pub tickets_at : {C : Type 0} → Place C → ℕ
tickets_at Spent = 0
tickets_at (Free k) = 0
tickets_at (Waits k t) = 1
tickets_at (HasTurn k t found) = 1

abbrev pub HasTicket : {C : Type 0} → ℕ → Place C → Type 0
HasTicket t Spent = ⊥
HasTicket t (Free k) = ⊥
HasTicket t (Waits k u) = u ≡ t
HasTicket t (HasTurn k u found) = u ≡ t

abbrev pub IsAtTurn : {C : Type 0} → Place C → Type 0
IsAtTurn Spent = ⊥
IsAtTurn (Free k) = ⊥
IsAtTurn (Waits k t) = ⊥
IsAtTurn (HasTurn k t found) = Unit {0}

-- the world has the charter that the seat knows
abbrev pub Suits : {W C : Type 0} → Tells W C → W → Known C → Type 0
Suits tells world k = (tells.charter world ≡ k.charter) × (tells.finished world ≡ k.finished)

-- the place of the first seat
abbrev pub first_seat : {W C : Type 0} → Tells W C → W → Place C
first_seat tells world = Free (record { charter = tells.charter world; finished = tells.finished world; parts = 64; seen = tells.trace world; told = [] })

-- the trace goes on from all that the seat has seen or was told
abbrev pub GoesOnFrom : {C : Type 0} → List ℕ → Known C → Type 0
GoesOnFrom trace k = StartsWithEach trace (k.seen ∷ k.told)

-- What holds of each seat, where the lock was made with this world, so many tickets are done, so many drawn, and the
-- trace is this one.
abbrev pub IsSoundSeat : {W C : Type 0} → Tells W C → W → ℕ → ℕ → List ℕ → Place C → Type 0
IsSoundSeat tells first ended drawn trace Spent = Unit {0}
IsSoundSeat tells first ended drawn trace (Free k) = Suits tells first k × GoesOnFrom trace k
IsSoundSeat tells first ended drawn trace (Waits k t) = Suits tells first k × GoesOnFrom trace k × (0 < k.parts) × (ended ≤ t) × (t < drawn)
IsSoundSeat tells first ended drawn trace (HasTurn k t found) = Suits tells first k × GoesOnFrom trace k × (0 < k.parts) × (t ≡ ended) × (found ≡ trace)

-- the slot has a world of the first one's charter, with this trace
abbrev pub HasWorld : {W C : Type 0} → Tells W C → W → List ℕ → List (maybe.Option (Option W)) → Type 0
HasWorld {W} tells first trace homes =
    (world : W) × (homes ≡ some (Some world) ∷ []) × (tells.charter world ≡ tells.charter first) × (tells.finished world ≡ tells.finished first) × (tells.trace world ≡ trace)

-- the slot is out with a seat, which has the turn
abbrev pub IsOut : {W C : Type 0} → List (maybe.Option (Option W)) → List (Place C) → Type 0
IsOut {W} {C} homes views = (homes ≡ none ∷ []) × ((j : ℕ) × (p : Place C) × (get_elem? views j ≡ some p) × IsAtTurn p)

-- The lock was made with the world `first`. `trace` is that of the world in the slot, or the one that who has the turn found.
pub record IsInTurns {W C : Type 0} (tells : Tells W C) (first : W) (s : State (Option W) (Place C)) : Type 0 where
  pub ended : ℕ
  pub trace : List ℕ
  pub sleeping : List ℕ
  pub words : s.words ≡ in_word (ended + sum_by tickets_at s.views) ∷ in_word ended ∷ sleeping
  pub whole : sum_by parts_at s.views ≡ 64
  pub slot : HasWorld tells first trace s.homes ⊎ IsOut s.homes s.views
  pub each : (j : ℕ) (p : Place C) → get_elem? s.views j ≡ some p → IsSoundSeat tells first ended (ended + sum_by tickets_at s.views) trace p
  -- no two seats have one ticket
  pub apart : (i j t : ℕ) (p q : Place C) → get_elem? s.views i ≡ some p → get_elem? s.views j ≡ some q → HasTicket t p → HasTicket t q → i ≡ j
