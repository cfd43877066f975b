-- How many events of a purge are still to come.
use Rattle.std.specs.Prelude.{◌≤◌, ◌<◌, ◌+◌, ◌-◌, ◌*◌, ℕ, drop, length}
use Rattle.store_core.specs.Value.{StoreValue}
use Rattle.purge_task.specs.Claims.{sources_left}
use Rattle.purge_task.specs.declared.task.PurgeStage.{PurgeStage}
use Rattle.purge_task.specs.declared.task.PurgeStage.TheVariants as stage

-- How many storage files are still to be counted, which are neither doomed nor removed yet. Before the first event there may be one of each
-- number.
abbrev pub purge_files : PurgeStage → ℕ
purge_files stage.First = 4294967295
purge_files (stage.Begin work) = length (sources_left work)
purge_files (stage.Copying work) = length (sources_left work)
purge_files (stage.Removing work) = length (drop 1 (sources_left work))
purge_files stage.Instances = 0

-- So many events at the most are of these files: of each, its target is made, its messages are copied, each from a greater offset than the one
-- before, and it is switched and removed.
abbrev pub events_of_files : ℕ → ℕ
events_of_files files = files * 4294967298

-- so many are to come before those of instances
abbrev pub events_before_instances : PurgeStage → ℕ
events_before_instances stage.First = events_of_files 4294967295
events_before_instances (stage.Begin work) = events_of_files (length (sources_left work))
events_before_instances (stage.Copying work) = events_of_files (length (drop 1 (sources_left work))) + (4294967295 - work.from) + 2
events_before_instances (stage.Removing work) = events_of_files (length (drop 1 (sources_left work))) + 1
events_before_instances stage.Instances = 0

-- How many events are still to come at the most, also beside other tasks: these may place an instance for each number that wasn't drawn.
abbrev pub purge_left : {D : Type 0} → PurgeStage → StoreValue D → ℕ
purge_left at store = events_before_instances at + length store.instances.known + (4294967295 - store.instances.highest) + 1

-- An event of a file led from a stage to the next one: fewer events are left, and so many files less are to be counted.
pub record IsFurther (counted : ℕ) (from next : PurgeStage) : Type 0 where
  pub events : events_before_instances next < events_before_instances from
  pub files : purge_files next + counted ≤ purge_files from
