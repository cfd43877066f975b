-- What a rebuild takes of the storage files, and what it skips.
use Rattle.std.specs.Prelude.{◌≡◌, ℕ, List, [], ◌∷◌, flat_map}
use Rattle.disk_model.specs.Disk.{Files}
use Rattle.model_found.specs.Findings.{NumberedFile, AreStorageFiles, FileFinding, HaveFindings}
use Rattle.model_found.specs.declared.reason.Reason.{Reason}
use Rattle.model_taken.specs.Judging.{Verdict, Takes, PassesOver, Skips, Judgement, AreJudged, taken_by}
use Rattle.model_taken.specs.Taken.{TakenMessage}

-- a place that is skipped: the number of its storage file, the offset there, and why
pub record SkippedPlace : Type 0 where
  pub number : ℕ
  pub offset : ℕ
  pub why : Reason

abbrev pub skipped_at : ℕ → ℕ → Verdict → List SkippedPlace
skipped_at number offset (Takes message) = []
skipped_at number offset PassesOver = []
skipped_at number offset (Skips why) = record { number = number; offset = offset; why = why } ∷ []

-- the place that a judgement skips, if any
abbrev pub skipped_by : Judgement → List SkippedPlace
skipped_by judgement = skipped_at judgement.number judgement.offset judgement.verdict

-- These are the messages that a rebuild of the files takes, and the places that it skips, in the order in which they are found.
pub record Rebuild (files : Files) (taken : List TakenMessage) (skipped : List SkippedPlace) : Type 0 where
  pub storage : List NumberedFile
  pub are_storage : AreStorageFiles files storage
  pub found : List FileFinding
  pub are_found : HaveFindings storage found
  pub judgements : List Judgement
  pub are_judged : AreJudged files [] found judgements
  pub taken_are : taken ≡ flat_map taken_by judgements
  pub skipped_are : skipped ≡ flat_map skipped_by judgements
