-- Why a stored body and instances don't join, as their sizes tell it.
use Rattle.std.specs.Prelude.{◌≡◌, ℕ, List, Option, Some, None, Result, Ok, Err}
use Rattle.mdbox_base.specs.declared.metadata.ExtRef.{ExtRef}
use Rattle.model_attach.specs.Rejoined.{first_bad}
use Rattle.model_attach.specs.declared.join_error.JoinError.{JoinError}
use Rattle.model_attach.specs.declared.join_error.JoinError.TheVariants as join
use Rattle.model_found.specs.declared.reason.Reason.{Reason}
use Rattle.model_found.specs.declared.reason.Reason.TheVariants as reason

-- a range is bad, and the reason says so
abbrev pub IsBadFor : ℕ → List ExtRef → Reason → Type 0
IsBadFor stored refs why = (index : ℕ) × (first_bad 0 stored refs ≡ Some index) × (why ≡ reason.RangeBad)

-- what differs first, if anything, and the reason says so
abbrev pub DiffersFor : {T : Type 0} → Option JoinError → Result T Reason → Type 0
DiffersFor None answer = (given : _) × (answer ≡ Ok given)
DiffersFor (Some (join.RangeBad index)) answer = ⊥
DiffersFor (Some join.Compressed) answer = ⊥
DiffersFor (Some (join.SizeDiffers kept found)) answer = ⊥
DiffersFor (Some (join.InstanceDiffers index kept found)) answer = answer ≡ Err reason.InstanceDiffers
DiffersFor (Some join.NoMemory) answer = ⊥

-- A size, if nothing is wrong; else the reason. Sizes don't tell whether a body is compressed, so that is a size that differs.
abbrev pub JoinsAs : Option JoinError → Result ℕ Reason → Type 0
JoinsAs None answer = (size : ℕ) × (answer ≡ Ok size)
JoinsAs (Some (join.RangeBad index)) answer = answer ≡ Err reason.RangeBad
JoinsAs (Some join.Compressed) answer = answer ≡ Err reason.SizeDiffers
JoinsAs (Some (join.SizeDiffers kept found)) answer = answer ≡ Err reason.SizeDiffers
JoinsAs (Some (join.InstanceDiffers index kept found)) answer = answer ≡ Err reason.InstanceDiffers
JoinsAs (Some join.NoMemory) answer = ⊥
