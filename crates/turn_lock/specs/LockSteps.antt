-- What each step on a lock's table tells the seat that takes it.
use Rattle.std.specs.Prelude.{◌≡◌, ◌≢◌, ℕ, ◌+◌, ◌-◌, List, ◌∷◌, Option, Some}
use Rattle.atomic_table.specs.Table.{Me, Step}
use Rattle.turn_lock.specs.declared.place.Known.{Known}
use Rattle.turn_lock.specs.declared.place.Place.{Place}
use Rattle.turn_lock.specs.declared.place.Place.TheVariants.{Spent, Free, Waits, HasTurn}
use Rattle.turn_lock.specs.LockRule.{Tells, Suits, GoesOnFrom, in_word}

-- a free seat has a ticket, and what it found is the ticket as a word has it
abbrev pub drawn_from : {S C : Type 0} → List (ℕ × S) → ℕ → Place C → Me S (Place C) → Type 0
drawn_from slots n (Free k) new = (t : ℕ) × (n ≡ in_word t) × (new ≡ (Waits k t, slots))
drawn_from slots n _ new = Unit {0}

abbrev pub draws_ticket : {S C : Type 0} → Step S → Me S (Place C) → ℕ → Me S (Place C) → Type 0
draws_ticket st old n new = drawn_from old.1 n old.0 new

-- nothing changes for the seat
abbrev pub calls_next : {S C : Type 0} → Step S → Me S (Place C) → ℕ → Me S (Place C) → Type 0
calls_next st old n new = new ≡ old

-- Where the number found is its ticket, the seat has the turn, and with it the slot of a world of its charter, whose trace goes on
-- from what it has seen. Else it waits on.
abbrev pub looked_from : {W C : Type 0} → Tells W C → List (ℕ × Option W) → ℕ → Place C → Me (Option W) (Place C) → Type 0
looked_from {W} tells slots n (Waits k t) new =
    (n ≢ in_word t → new ≡ (Waits k t, slots))
    × (n ≡ in_word t → (world : W) × (new ≡ (HasTurn k t (tells.trace world), (0, Some world) ∷ slots)) × Suits tells world k × GoesOnFrom (tells.trace world) k)
looked_from tells slots n _ new = Unit {0}

abbrev pub looks_for_turn : {W C : Type 0} → Tells W C → Step (Option W) → Me (Option W) (Place C) → ℕ → Me (Option W) (Place C) → Type 0
looks_for_turn tells st old n new = looked_from tells old.1 n old.0 new

-- what it knows, once it has seen this trace
abbrev pub having_seen : {C : Type 0} → List ℕ → Known C → Known C
having_seen trace k = record { charter = k.charter; finished = k.finished; parts = k.parts; seen = trace; told = k.told }

abbrev pub ended_with : {W C : Type 0} → Tells W C → Known C → List (ℕ × Option W) → Me (Option W) (Place C) → Type 0
ended_with tells k ((i, Some world) ∷ slots) new = new ≡ (Free (having_seen (tells.trace world) k), slots)
ended_with tells k _ new = Unit {0}

-- the slot is home, and the seat is free and has seen the trace of the world in it
abbrev pub ended_from : {W C : Type 0} → Tells W C → List (ℕ × Option W) → Place C → Me (Option W) (Place C) → Type 0
ended_from tells slots (HasTurn k t found) new = ended_with tells k slots new
ended_from tells slots _ new = Unit {0}

abbrev pub ends_turn : {W C : Type 0} → Tells W C → Step (Option W) → Me (Option W) (Place C) → ℕ → Me (Option W) (Place C) → Type 0
ends_turn tells st old n new = ended_from tells old.1 old.0 new

abbrev pub went_on_with : {W C : Type 0} → Tells W C → Known C → ℕ → List (ℕ × Option W) → Me (Option W) (Place C) → Type 0
went_on_with tells k t ((i, Some world) ∷ slots) new = new ≡ (HasTurn (having_seen (tells.trace world) k) t (tells.trace world), (0, Some world) ∷ slots)
went_on_with tells k t _ new = Unit {0}

-- The seat has another turn with its ticket. It has seen the trace of the world in the slot, which goes home and is taken again.
abbrev pub went_on_from : {W C : Type 0} → Tells W C → List (ℕ × Option W) → Place C → Me (Option W) (Place C) → Type 0
went_on_from tells slots (HasTurn k t found) new = went_on_with tells k t slots new
went_on_from tells slots _ new = Unit {0}

abbrev pub goes_on : {W C : Type 0} → Tells W C → Step (Option W) → Me (Option W) (Place C) → ℕ → Me (Option W) (Place C) → Type 0
goes_on tells st old n new = went_on_from tells old.1 old.0 new

abbrev pub with_parts : {C : Type 0} → ℕ → Known C → Known C
with_parts n k = record { charter = k.charter; finished = k.finished; parts = n; seen = k.seen; told = k.told }

abbrev pub one_part_less : {C : Type 0} → Place C → Place C
one_part_less (Free k) = Free (with_parts (k.parts - 1) k)
one_part_less _ = Spent

abbrev pub one_part : {C : Type 0} → Place C → Place C
one_part (Free k) = Free (with_parts 1 k)
one_part _ = Spent

-- what a seat knows after another was joined to it
abbrev pub knows_both : {C : Type 0} → Known C → Known C → Known C
knows_both k l = record { charter = k.charter; finished = k.finished; parts = k.parts + l.parts; seen = k.seen; told = l.seen ∷ k.told }

abbrev pub joined_with : {C : Type 0} → Known C → Place C → Place C
joined_with k (Free l) = Free (knows_both k l)
joined_with k _ = Spent

abbrev pub joined : {C : Type 0} → Place C → Place C → Place C
joined (Free k) p = joined_with k p
joined _ p = Spent
