use Rattle.std.proofs.Common.{◌≡◌, ◌+◌, ◌*◌, ◌≤◌, length, take}
use Rattle.std.specs.List.{flat_map}
use Rattle.model_logs.specs.Entries.{name_text}
use Rattle.log_records.proofs.worded.words_size.Given as goal

abbrev pub invariant-loop-word : goal.invariant-loop-word
invariant-loop-word l = (l.size ≡ 1 + length (flat_map name_text (take l.word-index l.words))) × (l.size ≤ 1 + 256 * l.word-index)
