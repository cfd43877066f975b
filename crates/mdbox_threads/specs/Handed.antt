-- A world that workers hand on.
use Rattle.std.specs.Prelude.{◌≡◌, ◌≤◌, ◌++◌, ◌∷◌, ℕ, true, false, [], length}
use Rattle.lanes.specs.Worlds.{WorldValue, turn_of}
use Rattle.lanes.specs.declared.turn.Turned.{Turned}
use Rattle.lanes.specs.declared.turn.Turned.TheVariants as turned

-- the world, and what it was as it was first handed on
pub record HandedValue (D : Type 0) : Type 0 where
  pub world : WorldValue D
  pub first : WorldValue D

-- what it was at first stays, and whether it is finished
abbrev pub KeepsFirst : {D : Type 0} → HandedValue D → HandedValue D → Type 0
KeepsFirst old new = (new.first ≡ old.first) × (new.world.finished ≡ old.world.finished)

-- A turn of this lane came to this. It is added to the trace, marked if it was idle; or there was no memory for it, which takes a trace
-- of as many turns as there was room for at first.
abbrev pub IsAdvanced : {D : Type 0} → ℕ → Turned → HandedValue D → HandedValue D → Type 0
IsAdvanced lane turned.Idle old new = new.world.turns ≡ old.world.turns ++ turn_of lane true ∷ []
IsAdvanced lane turned.Worked old new = new.world.turns ≡ old.world.turns ++ turn_of lane false ∷ []
IsAdvanced lane turned.NoMemory old new = (new.world.turns ≡ old.world.turns) × (old.first.turn_room ≤ length old.world.turns)
