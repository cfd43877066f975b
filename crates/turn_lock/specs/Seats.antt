-- What contracts say of seats.
use Rattle.std.specs.Prelude.{◌≡◌, ℕ, ◌<◌, ◌⊎◌, Bool, List, [], ◌∷◌, ◌++◌, None}
use Rattle.atomic_table.specs.Seated.{TableId}
use Rattle.turn_lock.specs.declared.place.Known.{Known}
use Rattle.turn_lock.specs.declared.place.Place.{Place}
use Rattle.turn_lock.specs.declared.place.Place.TheVariants.{Spent, Free, Waits, HasTurn}
use Rattle.turn_lock.specs.declared.lock.TurnSeat.{TurnSeat}
use Rattle.turn_lock.specs.declared.lock.TurnLock.{TurnLock}
use Rattle.turn_lock.specs.LockRule.{parts_at}

-- the trace is the one that was found, or has one turn more
abbrev pub IsOneTurnAtMost : List ℕ → List ℕ → Type 0
IsOneTurnAtMost found trace = (trace ≡ found) ⊎ ((turn : ℕ) × (trace ≡ found ++ turn ∷ []))

abbrev pub seen_at_place : {C : Type 0} → Place C → List ℕ
seen_at_place Spent = []
seen_at_place (Free k) = k.seen
seen_at_place (Waits k t) = k.seen
seen_at_place (HasTurn k t found) = k.seen

abbrev pub found_at_place : {C : Type 0} → Place C → List ℕ
found_at_place Spent = []
found_at_place (Free k) = []
found_at_place (Waits k t) = []
found_at_place (HasTurn k t found) = found

abbrev pub Knows : {C : Type 0} → C → Bool → Known C → Type 0
Knows charter finished k = (charter ≡ k.charter) × (finished ≡ k.finished)

abbrev pub KnowsAt : {C : Type 0} → C → Bool → Place C → Type 0
KnowsAt charter finished Spent = ⊥
KnowsAt charter finished (Free k) = Knows charter finished k
KnowsAt charter finished (Waits k t) = Knows charter finished k
KnowsAt charter finished (HasTurn k t found) = Knows charter finished k

-- all that the seat has seen of the trace
abbrev pub seen_by : {W C : Type 0} → TurnSeat W C → List ℕ
seen_by s = seen_at_place s.seat.me.0

-- the trace of the world that the seat has taken
abbrev pub found_by : {W C : Type 0} → TurnSeat W C → List ℕ
found_by s = found_at_place s.seat.me.0

-- how many of the lock's 64 parts the seat has
abbrev pub parts_with : {W C : Type 0} → TurnSeat W C → ℕ
parts_with s = parts_at s.seat.me.0

-- how many turns more the seat may have with its ticket
abbrev pub more_turns : {W C : Type 0} → TurnSeat W C → ℕ
more_turns s = s.more

-- the seat's charter is this one, and its worlds are finished or not, as this says
abbrev pub IsUnder : {W C : Type 0} → C → Bool → TurnSeat W C → Type 0
IsUnder charter finished s = KnowsAt charter finished s.seat.me.0

abbrev pub IsFreeOf : {W C : Type 0} → TableId → TurnSeat W C → Type 0
IsFreeOf {W} {C} id s = (s.seat.table_id ≡ id) × ((k : Known C) × (s.seat.me ≡ (Free k, [])) × (0 < k.parts))

-- it is a seat of this lock, and hasn't the turn
abbrev pub IsFreeSeat : {W C : Type 0} → TurnLock W C → TurnSeat W C → Type 0
IsFreeSeat lock s = IsFreeOf lock.table.shared.table_id s

-- it is a seat of this lock, and has the turn
abbrev pub IsAtWork : {W C : Type 0} → TurnLock W C → TurnSeat W C → Type 0
IsAtWork {W} {C} lock s =
    (s.seat.table_id ≡ lock.table.shared.table_id)
    × ((k : Known C) × (t : ℕ) × (found : List ℕ) × (s.seat.me ≡ (HasTurn k t found, (0, None) ∷ [])) × (0 < k.parts))

-- the parts and the charter stay
abbrev pub StaysUnder : {W C : Type 0} → TurnSeat W C → TurnSeat W C → Type 0
StaysUnder {W} {C} old new = (parts_with new ≡ parts_with old) × ((charter : C) (finished : Bool) → IsUnder charter finished old → IsUnder charter finished new)
