-- What an error of a disk says.
use Rattle.std.specs.Prelude.{ℕ, List, codes}
use Rattle.disk_model.specs.declared.error.DiskError.{DiskError}
use Rattle.disk_model.specs.declared.error.DiskError.TheVariants.{Failed, Absent}

-- what it says when it is printed
abbrev pub disk_error_text : DiskError → List ℕ
disk_error_text Failed = codes "the device failed"
disk_error_text Absent = codes "no such file"
