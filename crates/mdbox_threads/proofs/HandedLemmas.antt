-- A world that workers hand on: what a turn leaves of it.
use Rattle.std.proofs.Common.{◌≡◌, ◌≤◌, ℕ, true, false, List, [], ◌∷◌, ◌++◌, Option, refl, sym, ap, subst, inl, inr}
use Rattle.std.specs.Prelude.{length}
use Rattle.disk_model.specs.Disk.{Faults, History}
use Rattle.serving.specs.Turns.{LaneTurn}
use Rattle.lanes.specs.Turned.{CameInTurns, GoesInTurns, IsTurnOf}
use Rattle.lanes.specs.Worlds.{IsIdleLane, IsLaneEvent, WorldValue, turn_of}
use Rattle.lanes.specs.declared.turn.Turned.{Turned}
use Rattle.lanes.specs.declared.turn.Turned.TheVariants.{Idle, NoMemory, Worked}
use Rattle.mdbox_threads.specs.Handed.{HandedValue, IsAdvanced}

module _ {D : Type 0} (history : D → Option History) (faults : D → Faults) where
  turns_more : (turns : List LaneTurn) (turn : LaneTurn) (old mid new : WorldValue D) → GoesInTurns history faults turns old mid → IsTurnOf history faults turn mid new → GoesInTurns history faults (turns ++ turn ∷ []) old new
  turns_more [] turn old mid new g t = (new, subst (λ (w : WorldValue D). IsTurnOf history faults turn w new) g t, refl)
  turns_more (a ∷ rest) turn old mid new g t = (g.0, g.1, turns_more rest turn g.0 mid new g.2 t)

  came_more : (turn : LaneTurn) (first old new : WorldValue D) → CameInTurns history faults first old → IsTurnOf history faults turn old new → CameInTurns history faults first new
  came_more turn first old new came t = record { sound = came.sound; turns = came.turns ++ turn ∷ []; goes = turns_more came.turns turn first old new came.goes t }

  -- whatever a turn of the world came to
  pub comes_on : (lane : ℕ) (t : Turned) (first old new : WorldValue D) → CameInTurns history faults first old → 1 ≤ lane
      → (t ≡ Worked → IsLaneEvent lane old new (history old.store.disk) (history new.store.disk) (faults old.store.disk) (faults new.store.disk) × (new.turns ≡ old.turns ++ turn_of lane false ∷ []))
      → (t ≡ Idle → IsIdleLane lane old.rows × (new ≡ record old { turns = old.turns ++ turn_of lane true ∷ [] }))
      → (t ≡ NoMemory → (old.turn_room ≤ length old.turns) × (new ≡ old)) → CameInTurns history faults first new
  comes_on lane Worked first old new came some worked idle none = came_more (turn_of lane false) first old new came (inr (refl, (some, (worked refl).0, (worked refl).1)))
  comes_on lane Idle first old new came some worked idle none = came_more (turn_of lane true) first old new came (inl (refl, (some, (idle refl).0, (idle refl).1)))
  comes_on lane NoMemory first old new came some worked idle none = subst (λ (w : WorldValue D). CameInTurns history faults first w) (sym (none refl).1) came

-- what a turn of the world itself is of a world that is handed on
pub advanced : {D : Type 0} → (lane : ℕ) (t : Turned) (was new first : WorldValue D) (old : HandedValue D) → record { world = was; first = first } ≡ old → was.turn_room ≡ first.turn_room
    → (t ≡ Worked → new.turns ≡ was.turns ++ turn_of lane false ∷ []) → (t ≡ Idle → new ≡ record was { turns = was.turns ++ turn_of lane true ∷ [] }) → (t ≡ NoMemory → (was.turn_room ≤ length was.turns) × (new ≡ was)) → IsAdvanced lane t old (record { world = new; first = first })
advanced {D} lane t was new first old is room worked idle none = subst (λ (o : HandedValue D). IsAdvanced lane t o (record { world = new; first = first })) is (by_turn t worked idle none)
  where
    by_turn : (t : Turned) → (t ≡ Worked → new.turns ≡ was.turns ++ turn_of lane false ∷ []) → (t ≡ Idle → new ≡ record was { turns = was.turns ++ turn_of lane true ∷ [] }) → (t ≡ NoMemory → (was.turn_room ≤ length was.turns) × (new ≡ was)) → IsAdvanced lane t (record { world = was; first = first }) (record { world = new; first = first })
    by_turn Worked worked idle none = worked refl
    by_turn Idle worked idle none = ap (λ (w : WorldValue D). w.turns) (idle refl)
    by_turn NoMemory worked idle none = (ap (λ (w : WorldValue D). w.turns) (none refl).1, subst (λ (n : ℕ). n ≤ length was.turns) room (none refl).0)
