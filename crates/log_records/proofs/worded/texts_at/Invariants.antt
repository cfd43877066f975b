use Rattle.std.proofs.Common.{◌≡◌, ◌++◌, length}
use Rattle.std.specs.List.{flat_map}
use Rattle.model_logs.specs.Entries.{name_text}
use Rattle.log_records.specs.Worded.{AreShort}
use Rattle.log_records.proofs.worded.texts_at.Given as goal

abbrev pub invariant-loop : goal.invariant-loop
invariant-loop l = (l.text ≡ flat_map name_text l.texts ++ l.rest) × (length l.texts ≡ l.counter) × AreShort l.texts
