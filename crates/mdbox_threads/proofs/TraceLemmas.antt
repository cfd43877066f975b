-- Traces that grow, and marks in them.
use Rattle.std.proofs.Common.{◌≡◌, ℕ, ◌+◌, ◌*◌, ◌<◌, ◌≤◌, ◌⊎◌, inl, inr, Bool, true, false, List, [], ◌∷◌, ◌++◌, length, map, sym, refl, ap, ◌∙◌, subst, append_assoc, ⊎_elim, length-append, arith}
use mathlib.Core.Logic.{dite}
use native.Mathlib.Decide.{ℕ_discrete}
use Rattle.std.specs.Prelude.{if◌then◌else◌}
use Rattle.std.specs.List.{Contains}
use Rattle.std.proofs.lemmas.List.{append-nil, get_or-map, map-append, length-map}
use Rattle.std.proofs.lemmas.List.Elements.{Contains-push, Contains-append_left}
use Rattle.serving.specs.Turns.{LaneTurn}
use Rattle.lanes.specs.Worlds.{turn_of}
use Rattle.lanes.specs.declared.turn.Turned.{Turned}
use Rattle.lanes.specs.declared.turn.Turned.TheVariants.{Idle, Worked, NoMemory}
use Rattle.mdbox_threads.specs.Handed.{HandedValue, IsAdvanced}
use Rattle.mdbox_threads.specs.Traces.{HasMarkOrIsFull, turn_number, turn_numbers}

-- ---- a trace that grows

abbrev pub Grown : {A : Type 0} → List A → List A → Type 0
Grown old new = (more : List _) × (new ≡ old ++ more)

pub grown_by : {A : Type 0} → (a b c : List A) (x : A) → Grown a b → c ≡ b ++ x ∷ [] → Grown a c
grown_by a b c x (more, e) is = (more ++ x ∷ [], is ∙ ap (λ l. l ++ x ∷ []) e ∙ append_assoc a more (x ∷ []))

pub grown_along : {A : Type 0} → (a b c : List A) → Grown a b → Grown b c → Grown a c
grown_along a b c (r, e) (q, g) = (r ++ q, g ∙ ap (λ l. l ++ q) e ∙ append_assoc a r q)

-- ---- a mark in it

-- it stays
pub mark_stays : {A : Type 0} → (mark : A) (room : ℕ) (a b : List A) → Grown a b → HasMarkOrIsFull mark room a → HasMarkOrIsFull mark room b
mark_stays mark room a b (more, e) d = ⊎_elim
    (λ h. inl (subst (λ l. Contains l mark) (sym e) (Contains-append_left a more mark h)))
    (λ h. inr (let len : length b ≡ length a + length more = ap length e ∙ length-append a more in omega (arith, len, h))) d

pub mark_is_last : {A : Type 0} → (mark : A) (room : ℕ) (a b : List A) → b ≡ a ++ mark ∷ [] → HasMarkOrIsFull mark room b
mark_is_last mark room a b e = inl (subst (λ l. Contains l mark) (sym e) (Contains-push a mark))

-- ---- turns as numbers

pub numbers_more : (a b : List LaneTurn) (turn : LaneTurn) → b ≡ a ++ turn ∷ [] → turn_numbers b ≡ turn_numbers a ++ turn_number turn ∷ []
numbers_more a b turn is = ap (map turn_number) is ∙ map-append turn_number a (turn ∷ [])

-- two turns with one number are one
turn_of_number : (a b : LaneTurn) → turn_number a ≡ turn_number b → a ≡ b
turn_of_number a b e = by_idle a.idle b.idle refl refl
  where
    same_lane : a.lane ≡ b.lane → a.idle ≡ b.idle → a ≡ b
    same_lane l i = λ k. record { lane = l k; idle = i k }

    number_of : (t : LaneTurn) (f : Bool) → t.idle ≡ f → turn_number t ≡ 2 * t.lane + (if f then 1 else 0)
    number_of t f is = ap (λ (g : Bool). 2 * t.lane + (if g then 1 else 0)) is

    by_idle : (f g : Bool) → a.idle ≡ f → b.idle ≡ g → a ≡ b
    by_idle true true x y = let p = sym (number_of a true x) ∙ e ∙ number_of b true y in same_lane (omega (arith, p)) (x ∙ sym y)
    by_idle true false x y = let p = sym (number_of a true x) ∙ e ∙ number_of b false y in absurd (omega (arith, p))
    by_idle false true x y = let p = sym (number_of a false x) ∙ e ∙ number_of b true y in absurd (omega (arith, p))
    by_idle false false x y = let p = sym (number_of a false x) ∙ e ∙ number_of b false y in same_lane (omega (arith, p)) (x ∙ sym y)

pub number_stands : (turn : LaneTurn) (turns : List LaneTurn) → Contains (turn_numbers turns) (turn_number turn) → Contains turns turn
number_stands turn turns h =
    let long = length-map turns turn_number in
    let lt = h.1 in
    let within : h.0 < length turns = omega (arith, long, lt) in
    (h.0, within, turn_of_number _ turn (sym (get_or-map turn_number turns h.0 turn (turn_number turn) within) ∙ h.2))

-- marks and room of a trace are those of its numbers
pub marked_so : (turn : LaneTurn) (room : ℕ) (turns : List LaneTurn) → HasMarkOrIsFull (turn_number turn) room (turn_numbers turns) → HasMarkOrIsFull turn room turns
marked_so turn room turns d = ⊎_elim (λ h. inl (number_stands turn turns h)) (λ h. inr (let long = length-map turns turn_number in omega (arith, long, h))) d

-- ---- a lane's turns, with no lock

pub advanced_grows : {D : Type 0} → (lane : ℕ) (t : Turned) (old new : HandedValue D) → IsAdvanced lane t old new → Grown old.world.turns new.world.turns
advanced_grows lane Idle old new a = (turn_of lane true ∷ [], a)
advanced_grows lane Worked old new a = (turn_of lane false ∷ [], a)
advanced_grows lane NoMemory old new a = ([], a.0 ∙ sym (append-nil old.world.turns))

-- the turn that ends a lane's
pub last_alone : {D : Type 0} → (lane room : ℕ) (t : Turned) (old new : HandedValue D) → (t ≡ Idle) ⊎ (t ≡ NoMemory) → old.first.turn_room ≡ room → IsAdvanced lane t old new → HasMarkOrIsFull (turn_of lane true) room new.world.turns
last_alone {D} lane room t old new is same a = ⊎_elim
    (λ e. mark_is_last (turn_of lane true) room old.world.turns new.world.turns (subst (λ (x : Turned). IsAdvanced lane x old new) e a))
    (λ e. inr (let h : IsAdvanced lane NoMemory old new = subst (λ (x : Turned). IsAdvanced lane x old new) e a in
    subst (λ (l : List LaneTurn). room ≤ length l) (sym h.0) (subst (λ (n : ℕ). n ≤ length old.world.turns) same h.1))) is

pub one_lane_more : (at room : ℕ) (a b : List LaneTurn) → Grown a b → ((lane : ℕ) → 0 < lane → lane ≤ at → HasMarkOrIsFull (turn_of lane true) room a) → HasMarkOrIsFull (turn_of (at + 1) true) room b
    → (lane : ℕ) → 0 < lane → lane ≤ at + 1 → HasMarkOrIsFull (turn_of lane true) room b
one_lane_more at room a b grown old new lane some most = dite (ℕ_discrete lane (at + 1))
    (λ e. subst (λ (n : ℕ). HasMarkOrIsFull (turn_of n true) room b) (sym e) new)
    (λ ne. mark_stays (turn_of lane true) room a b grown (old lane some (omega arith)))
