-- Errors of logs.
use Rattle.std.specs.Prelude.{ℕ, List, ◌++◌, codes}
use Rattle.mdbox_base.specs.Numbers.{decimal_text}
use Rattle.disk_model.specs.declared.error.DiskError.{DiskError}
use Rattle.disk_model.specs.declared.error.DiskError.TheVariants.{Failed, Absent}
use Rattle.gate_log.specs.declared.error.LogError.{LogError}
use Rattle.gate_log.specs.declared.error.LogError.TheVariants.{NoLog, LogDamaged, DiskFault, NoMemory}

-- what an error of the disk means for a log
abbrev pub of_disk : DiskError → LogError
of_disk Failed = DiskFault
of_disk Absent = NoLog

-- what an error of a log says when it is printed
abbrev pub log_error_text : LogError → List ℕ
log_error_text NoLog = codes "no log"
log_error_text (LogDamaged place) = codes "log damaged at " ++ decimal_text place
log_error_text DiskFault = codes "disk fault"
log_error_text NoMemory = codes "out of memory"
