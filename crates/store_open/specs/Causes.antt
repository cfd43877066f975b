-- What errors of the checks, of finding the storage files and of an open store mean for an opening.
use Rattle.store_checks.specs.declared.error.CheckError.{CheckError}
use Rattle.store_checks.specs.declared.error.CheckError.TheVariants as check
use Rattle.store_core.specs.declared.error.StepError.{StepError}
use Rattle.store_core.specs.declared.error.StepError.TheVariants as step_error
use Rattle.store_files.specs.declared.error.FilesError.{FilesError}
use Rattle.store_files.specs.declared.error.FilesError.TheVariants as files_error
use Rattle.store_open.specs.declared.error.OpenError.{OpenError}
use Rattle.store_open.specs.declared.error.OpenError.TheVariants.{NoStore, Damaged, DiskFault, NoMemory}

abbrev pub of_check : CheckError → OpenError
of_check check.NoStore = NoStore
of_check (check.Damaged name place) = Damaged name place
of_check check.DiskFault = DiskFault
of_check check.NoMemory = NoMemory

abbrev pub of_files : FilesError → OpenError
of_files files_error.DiskFault = DiskFault
of_files files_error.NoMemory = NoMemory

abbrev pub of_step : StepError → OpenError
of_step step_error.Stopped = DiskFault
of_step step_error.NoMemory = NoMemory
