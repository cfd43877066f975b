-- The words by which a rebuild says why it skipped something.
use Rattle.std.specs.Prelude.{ℕ, List, codes}
use Rattle.model_found.specs.declared.reason.Reason.{Reason}
use Rattle.model_found.specs.declared.reason.Reason.TheVariants as reason

-- a reason as it is printed
abbrev pub reason_word : Reason → List ℕ
reason_word reason.BadHeader = codes "BadHeader"
reason_word reason.HeaderSize = codes "HeaderSize"
reason_word reason.Truncated = codes "Truncated"
reason_word reason.BadMessage = codes "BadMessage"
reason_word reason.BadLine = codes "BadLine"
reason_word reason.NoGuid = codes "NoGuid"
reason_word reason.NoInstance = codes "NoInstance"
reason_word reason.RangeBad = codes "RangeBad"
reason_word reason.Compressed = codes "Compressed"
reason_word reason.SizeDiffers = codes "SizeDiffers"
reason_word reason.InstanceDiffers = codes "InstanceDiffers"
reason_word reason.GuidTwice = codes "GuidTwice"
reason_word reason.TooMany = codes "TooMany"
