use Rattle.store_core.proofs.Common.{◌≢◌, ℕ, ◌<◌, slice_index_or, OpenBox}
use Rattle.store_core.proofs.append.place_of.Given as goal

abbrev pub invariant-loop-place : goal.invariant-loop-place
invariant-loop-place l = (k : ℕ) (d : OpenBox) → k < l.place → (slice_index_or l.boxes k d).number.0 ≢ l.number.0
