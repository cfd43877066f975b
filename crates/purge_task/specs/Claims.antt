-- What the task of a purge claims of a store.
use Rattle.std.specs.Prelude.{◌==◌, false, List, ◌∷◌, count_by, drop}
use Rattle.std.specs.Option.{option_map_or}
use Rattle.task_claims.specs.Claims.{Claims, Emptied, PlacingPieces, Removing, Taken, both_claims, no_claims, one_if}
use Rattle.purge_task.specs.declared.task.PurgeStage.{PurgeStage}
use Rattle.purge_task.specs.declared.task.PurgeStage.TheVariants as stage
use Rattle.purge_task.specs.declared.work.Source.{Source}
use Rattle.purge_task.specs.declared.work.Work.{Work}

-- the storage files that aren't emptied yet, the present one first
abbrev pub sources_left : Work → List Source
sources_left work = drop work.next work.sources.items

-- It has taken each of them, to empty it, and the file to which what is wanted of it is copied.
abbrev pub claims_of_sources : List Source → Claims
claims_of_sources left (Emptied file) = count_by (λ s. s.file.0 == file) left
claims_of_sources left (Taken file) = count_by (λ s. option_map_or (λ t. t.0 == file) s.target false) left
claims_of_sources left thing = 0

-- octets are being placed in the target of the present one
abbrev pub claims_of_target : List Source → Claims
claims_of_target (source ∷ left) (PlacingPieces file) = one_if (option_map_or (λ t. t.0 == file) source.target false)
claims_of_target left thing = 0

-- the present one was switched, and is to be removed
abbrev pub claims_of_switched : List Source → Claims
claims_of_switched (source ∷ left) (Removing file) = one_if (source.file.0 == file)
claims_of_switched left thing = 0

abbrev pub purge_claims : PurgeStage → Claims
purge_claims (stage.Begin work) = claims_of_sources (sources_left work)
purge_claims (stage.Copying work) = both_claims (claims_of_sources (sources_left work)) (claims_of_target (sources_left work))
purge_claims (stage.Removing work) = both_claims (claims_of_sources (drop 1 (sources_left work))) (claims_of_switched (sources_left work))
purge_claims other = no_claims
