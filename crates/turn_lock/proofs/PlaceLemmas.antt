-- The places of seats, where one of them changes.
use Rattle.std.proofs.Common.{◌≡◌, ◌≢◌, ℕ, zero, suc, List, [], ◌∷◌, set, sym, refl, ap, ◌∙◌, subst, ⊎_elim, Option}
use mathlib.Core.Option.{some, some-injective}
use mathlib.Core.Option as maybe
use lib.ListN.{get_elem?}
use Rattle.atomic_table.proofs.Lists.{at_set}
use Rattle.turn_lock.specs.declared.place.Place.{Place}
use Rattle.turn_lock.specs.LockRule.{HasTicket, IsAtTurn, IsOut}

module _ {C : Type 0} where
  abbrev pub Apart : List (Place C) → Type 0
  Apart l = (i j t : ℕ) (p q : Place C) → get_elem? l i ≡ some p → get_elem? l j ≡ some q → HasTicket t p → HasTicket t q → i ≡ j

  pub apart_set : (l : List (Place C)) (id : ℕ) (n : Place C) → Apart l
      → ((j t : ℕ) (q : Place C) → j ≢ id → get_elem? l j ≡ some q → HasTicket t n → HasTicket t q → ⊥) → Apart (set l id n)
  apart_set l id n old new i j t p q e g h k = ⊎_elim
      (λ a. ⊎_elim (λ b. a.0 ∙ sym b.0) (λ b. absurd (new j t q b.0 b.1 (subst (HasTicket t) (sym a.1) h) k)) (at_set l id j n q g))
      (λ a. ⊎_elim (λ b. absurd (new i t p a.0 a.1 (subst (HasTicket t) (sym b.1) k) h)) (λ b. old i j t p q a.1 b.1 h k) (at_set l id j n q g))
      (at_set l id i n p e)

  pub each_set : (Q : Place C → Type 0) (l : List (Place C)) (id : ℕ) (n : Place C) → ((j : ℕ) (q : Place C) → j ≢ id → get_elem? l j ≡ some q → Q q) → Q n
      → (j : ℕ) (q : Place C) → get_elem? (set l id n) j ≡ some q → Q q
  each_set Q l id n others mine j q e = ⊎_elim (λ t. subst Q t.1 mine) (λ t. others j q t.0 t.1) (at_set l id j n q e)

  pub set_other : (l : List (Place C)) (id j : ℕ) (n p : Place C) → j ≢ id → get_elem? l j ≡ some p → get_elem? (set l id n) j ≡ some p
  set_other [] id j n p ne e = e
  set_other (x ∷ xs) zero zero n p ne e = absurd (ne refl)
  set_other (x ∷ xs) zero (suc j) n p ne e = e
  set_other (x ∷ xs) (suc id) zero n p ne e = e
  set_other (x ∷ xs) (suc id) (suc j) n p ne e = set_other xs id j n p (λ h. ne (ap suc h)) e

  -- a seat that hasn't the turn may change its place
  pub out_set : {W : Type 0} (homes : List (maybe.Option (Option W))) (l : List (Place C)) (id : ℕ) (p n : Place C) → get_elem? l id ≡ some p → (IsAtTurn p → ⊥) → IsOut homes l → IsOut homes (set l id n)
  out_set homes l id p n at not (empty, (j, q, there, turn)) = (empty, (j, q, set_other l id j n q (λ e. not (subst IsAtTurn (some-injective q p (sym there ∙ ap (get_elem? l) e ∙ at)) turn)) there, turn))
