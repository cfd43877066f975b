-- What the rule of a lock says of a seat.
use Rattle.std.proofs.Common.{◌≡◌, ◌≢◌, ℕ, ◌+◌, ◌<◌, ◌≤◌, List, ◌∷◌, arith, Option, sum_by, ⊎_elim}
use mathlib.Core.Option.{some}
use lib.ListN.{get_elem?}
use Rattle.atomic_table.specs.Table.{State}
use Rattle.turn_lock.specs.declared.place.Place.{Place}
use Rattle.turn_lock.specs.declared.place.Place.TheVariants.{Spent, Free, Waits, HasTurn}
use Rattle.turn_lock.specs.LockRule.{StartsWith, Tells, parts_at, tickets_at, HasTicket, IsAtTurn, IsSoundSeat, HasWorld, IsInTurns}
use Rattle.turn_lock.proofs.SumLemmas.{sum_below, sum_of_one}
use Rattle.turn_lock.proofs.TraceLemmas.{starts_with_each_along}

module _ {W C : Type 0} (tells : Tells W C) (key : W) where
  pub more_drawn : (p : Place C) (ended drawn drawn' : ℕ) (now : List ℕ) → drawn ≤ drawn' → IsSoundSeat tells key ended drawn now p → IsSoundSeat tells key ended drawn' now p
  more_drawn Spent ended drawn drawn' now le h = h
  more_drawn (Free k) ended drawn drawn' now le h = h
  more_drawn (Waits k t) ended drawn drawn' now le h = (h.0, h.1, h.2, h.3, let b = h.4 in omega arith)
  more_drawn (HasTurn k t found) ended drawn drawn' now le h = h

  -- one turn more has ended, which wasn't this seat's, and the trace is longer
  pub more_ended : (p : Place C) (ended drawn drawn' : ℕ) (now now' : List ℕ) → drawn ≤ drawn' → StartsWith now' now → (HasTicket ended p → ⊥)
      → IsSoundSeat tells key ended drawn now p → IsSoundSeat tells key (ended + 1) drawn' now' p
  more_ended Spent ended drawn drawn' now now' le s not h = tt
  more_ended (Free k) ended drawn drawn' now now' le s not h = (h.0, starts_with_each_along now' now (k.seen ∷ k.told) s h.1)
  more_ended (Waits k t) ended drawn drawn' now now' le s not h = let a = h.3 in let b = h.4 in let ne : t ≢ ended = not in (h.0, starts_with_each_along now' now (k.seen ∷ k.told) s h.1, h.2, omega arith, omega arith)
  more_ended (HasTurn k t found) ended drawn drawn' now now' le s not h = absurd (not h.3)

  -- the trace is longer, and this seat hasn't the turn
  pub more_seen : (p : Place C) (ended drawn drawn' : ℕ) (now now' : List ℕ) → drawn ≤ drawn' → StartsWith now' now → (HasTicket ended p → ⊥)
      → IsSoundSeat tells key ended drawn now p → IsSoundSeat tells key ended drawn' now' p
  more_seen Spent ended drawn drawn' now now' le s not h = tt
  more_seen (Free k) ended drawn drawn' now now' le s not h = (h.0, starts_with_each_along now' now (k.seen ∷ k.told) s h.1)
  more_seen (Waits k t) ended drawn drawn' now now' le s not h = let b = h.4 in (h.0, starts_with_each_along now' now (k.seen ∷ k.told) s h.1, h.2, h.3, omega arith)
  more_seen (HasTurn k t found) ended drawn drawn' now now' le s not h = absurd (not h.3)

  pub below_drawn : (q : Place C) (ended drawn t : ℕ) (now : List ℕ) → ended < drawn → IsSoundSeat tells key ended drawn now q → HasTicket t q → t < drawn
  below_drawn Spent ended drawn t now le h e = absurd e
  below_drawn (Free k) ended drawn t now le h e = absurd e
  below_drawn (Waits k u) ended drawn t now le h e = let b = h.4 in omega arith
  below_drawn (HasTurn k u found) ended drawn t now le h e = let b = h.3 in omega arith

  pub ticket_parts : (p : Place C) (ended drawn : ℕ) (now : List ℕ) → IsSoundSeat tells key ended drawn now p → tickets_at p ≤ parts_at p
  ticket_parts Spent ended drawn now h = omega arith
  ticket_parts (Free k) ended drawn now h = omega arith
  ticket_parts (Waits k t) ended drawn now h = h.2
  ticket_parts (HasTurn k t found) ended drawn now h = h.2

  pub few : (s : State (Option W) (Place C)) → (r : IsInTurns tells key s) → sum_by tickets_at s.views ≤ 64
  few s r = let le = sum_below tickets_at parts_at s.views (λ j p e. ticket_parts p r.ended (r.ended + sum_by tickets_at s.views) r.trace (r.each j p e)) in let w = r.whole in omega arith

  pub some_out : (s : State (Option W) (Place C)) (j t : ℕ) (q : Place C) → get_elem? s.views j ≡ some q → HasTicket t q → 0 < sum_by tickets_at s.views
  some_out s j t Spent e h = absurd h
  some_out s j t (Free k) e h = absurd h
  some_out s j t (Waits k u) e h = sum_of_one tickets_at s.views j (Waits k u) e
  some_out s j t (HasTurn k u found) e h = sum_of_one tickets_at s.views j (HasTurn k u found) e

  pub turn_ticket : (q : Place C) (ended drawn : ℕ) (now : List ℕ) → IsSoundSeat tells key ended drawn now q → IsAtTurn q → HasTicket ended q
  turn_ticket Spent ended drawn now h turn = absurd turn
  turn_ticket (Free k) ended drawn now h turn = absurd turn
  turn_ticket (Waits k t) ended drawn now h turn = absurd turn
  turn_ticket (HasTurn k t found) ended drawn now h turn = h.3

  pub turn_parts : (q : Place C) (ended drawn : ℕ) (now : List ℕ) → IsSoundSeat tells key ended drawn now q → IsAtTurn q → 0 < parts_at q
  turn_parts Spent ended drawn now h turn = absurd turn
  turn_parts (Free k) ended drawn now h turn = absurd turn
  turn_parts (Waits k t) ended drawn now h turn = absurd turn
  turn_parts (HasTurn k t found) ended drawn now h turn = h.2

  pub at_home : (s : State (Option W) (Place C)) (r : IsInTurns tells key s) → ((j : ℕ) (q : Place C) → get_elem? s.views j ≡ some q → IsAtTurn q → ⊥) → HasWorld tells key r.trace s.homes
  at_home s r none_there = ⊎_elim (λ h. h) (λ o. absurd (none_there o.1.0 o.1.1 o.1.2 o.1.3)) r.slot
