-- What is read of a disk that is rebuilt.
use Rattle.std.specs.Prelude.{◌≡◌, ℕ, List, [], ◌∷◌, map}
use Rattle.disk_model.specs.Disk.{DiskState}
use Rattle.mdbox_base.specs.declared.ids.FileNo.{FileNo}
use Rattle.model_rebuild.specs.RebuildPlan.{RebuildPlan, IsPlanFor}
use Rattle.model_store.specs.Settled.{files_of}
use Rattle.rebuild_judge.specs.Kept.{taken_row, skipped_row}
use Rattle.store_rebuild.specs.declared.plan.RebuildRows.{RebuildRows}

-- the rows are those of this plan
pub record AreRowsOf (plan : RebuildPlan) (rows : RebuildRows) : Type 0 where
  pub taken : rows.taken ≡ map taken_row plan.taken
  pub skipped : rows.skipped ≡ map skipped_row plan.skipped
  pub highest : rows.highest ≡ plan.highest
  pub map_generation : rows.map_generation ≡ plan.map_generation
  pub box_generation : rows.box_generation ≡ plan.box_generation

-- They are those of the plan of the disk as the store with this id.
pub record IsPlanned (store : List ℕ) (rows : RebuildRows) (disk : DiskState) : Type 0 where
  pub plan : RebuildPlan
  pub is_plan : IsPlanFor (files_of disk) store plan
  pub rows_are : AreRowsOf plan rows

-- the last of these numbers, or 0 if there is none
abbrev pub last_number : List FileNo → ℕ
last_number [] = 0
last_number (n ∷ []) = n.0
last_number (n ∷ m ∷ rest) = last_number (m ∷ rest)
