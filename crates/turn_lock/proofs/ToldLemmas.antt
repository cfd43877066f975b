-- What the caller learns from each step.
use Rattle.std.proofs.Common.{◌≡◌, ◌≢◌, ℕ, List, [], ◌∷◌, sym, ap, ◌∙◌, subst, Option, Some, None, Bool}
use Rattle.atomic_table.specs.Table.{Me, rest}
use Rattle.turn_lock.specs.declared.place.Known.{Known}
use Rattle.turn_lock.specs.declared.place.Place.{Place}
use Rattle.turn_lock.specs.declared.place.Place.TheVariants.{Free, Waits, HasTurn}
use Rattle.turn_lock.specs.LockRule.{Tells, Suits, GoesOnFrom, StartsWith, in_word}
use Rattle.turn_lock.specs.LockSteps.{having_seen, drawn_from, looked_from, went_on_from, ended_from}
use Rattle.turn_lock.specs.Seats.{KnowsAt, Knows, IsOneTurnAtMost, found_at_place}
use Rattle.turn_lock.proofs.TraceLemmas.{one_turn_starts_with}

first_in : {W : Type 0} → List (ℕ × Option W) → Option W
first_in [] = None
first_in (x ∷ xs) = x.1

value_or : {W : Type 0} → W → Option W → W
value_or d None = d
value_or d (Some w) = w

pub some_same : {W : Type 0} → (v w : W) → Some v ≡ Some w → v ≡ w
unfolding value_or
some_same v w e = ap (value_or v) e

pub drew : {S C : Type 0} → (m m' : Me S (Place C)) (n : ℕ) (k : Known C) → m ≡ (Free k, []) → drawn_from m.1 n m.0 m' → (t : ℕ) × (n ≡ in_word t) × (m' ≡ (Waits k t, []))
drew {S} {C} m m' n k e play = subst (λ (x : Me S (Place C)). drawn_from x.1 n x.0 m') e play

module _ {W C : Type 0} (trace : W → List ℕ) where
  pub took : (m m' : Me (Option W) (Place C)) (k : Known C) (t : ℕ) (w : W) (r : Option W) (world : W) → m ≡ (HasTurn k t (trace w), (0, Some w) ∷ []) → m.1 ≡ (0, r) ∷ rest m.1 → r ≡ Some world
      → m' ≡ (m.0, (0, None) ∷ rest m.1) → (w ≡ world) × (m' ≡ (HasTurn k t (trace world), (0, None) ∷ []))
  unfolding first_in
  took m m' k t w r world e found is e' =
      let same : w ≡ world = some_same w world (sym (ap (λ (x : Me (Option W) (Place C)). first_in x.1) e) ∙ ap first_in found ∙ is) in
      (same, e' ∙ ap (λ (x : Me (Option W) (Place C)). (x.0, (0, None) ∷ rest x.1)) e ∙ ap (λ (x : W). (HasTurn k t (trace x), (0, None) ∷ [])) same)

module _ {W C : Type 0} (tells : Tells W C) where
  abbrev Sat : Type 0
  Sat = Me (Option W) (Place C)

  pub missed : (m m' : Sat) (n t : ℕ) (k : Known C) → m ≡ (Waits k t, []) → looked_from tells m.1 n m.0 m' → n ≢ in_word t → m' ≡ m
  missed m m' n t k e play ne = (let p : looked_from tells [] n (Waits k t) m' = subst (λ (x : Sat). looked_from tells x.1 n x.0 m') e play in p.0 ne) ∙ sym e

  pub hit : (m m' : Sat) (n t : ℕ) (k : Known C) → m ≡ (Waits k t, []) → looked_from tells m.1 n m.0 m' → n ≡ in_word t
      → (w : W) × (m' ≡ (HasTurn k t (tells.trace w), (0, Some w) ∷ [])) × Suits tells w k × GoesOnFrom (tells.trace w) k
  hit m m' n t k e play is = let p : looked_from tells [] n (Waits k t) m' = subst (λ (x : Sat). looked_from tells x.1 n x.0 m') e play in p.1 is

  pub went_on : (m m' : Sat) (k : Known C) (t : ℕ) (found : List ℕ) (w : W) → m ≡ (HasTurn k t found, (0, Some w) ∷ []) → went_on_from tells m.1 m.0 m'
      → m' ≡ (HasTurn (having_seen (tells.trace w) k) t (tells.trace w), (0, Some w) ∷ [])
  went_on m m' k t found w e play = subst (λ (x : Sat). went_on_from tells x.1 x.0 m') e play

  pub ended : (m m' : Sat) (k : Known C) (t : ℕ) (found : List ℕ) (w : W) → m ≡ (HasTurn k t found, (0, Some w) ∷ []) → ended_from tells m.1 m.0 m' → m' ≡ (Free (having_seen (tells.trace w) k), [])
  ended m m' k t found w e play = subst (λ (x : Sat). ended_from tells x.1 x.0 m') e play

module _ {W C : Type 0} where
  pub put : (m m' : Me (Option W) (Place C)) (k : Known C) (t : ℕ) (found : List ℕ) (w : Option W) → m ≡ (HasTurn k t found, (0, None) ∷ []) → m' ≡ (m.0, (0, w) ∷ rest m.1)
      → m' ≡ (HasTurn k t found, (0, w) ∷ [])
  put m m' k t found w e e' = e' ∙ ap (λ (x : Me (Option W) (Place C)). (x.0, (0, w) ∷ rest x.1)) e

  pub suits : (m : Me (Option W) (Place C)) (k : Known C) (t : ℕ) (found : List ℕ) (charter : C) (finished : Bool) → m ≡ (HasTurn k t found, (0, None) ∷ []) → KnowsAt charter finished m.0 → Knows charter finished k
  suits m k t found charter finished e h = subst (λ (x : Me (Option W) (Place C)). KnowsAt charter finished x.0) e h

  pub longer : (m : Me (Option W) (Place C)) (k : Known C) (t : ℕ) (found trace : List ℕ) → m ≡ (HasTurn k t found, (0, None) ∷ []) → IsOneTurnAtMost (found_at_place m.0) trace → StartsWith trace found
  longer m k t found trace e h = one_turn_starts_with found trace (subst (λ (x : Me (Option W) (Place C)). IsOneTurnAtMost (found_at_place x.0) trace) e h)

pub some_or_none : {W : Type 0} → (w : W) → Some w ≡ None → ⊥
some_or_none w e = cc
