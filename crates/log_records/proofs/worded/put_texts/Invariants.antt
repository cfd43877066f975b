use Rattle.std.proofs.Common.{◌≡◌, ◌++◌, ◌+◌, length, take}
use Rattle.std.specs.List.{flat_map}
use Rattle.model_logs.specs.Entries.{name_text}
use Rattle.log_records.proofs.worded.put_texts.Given as goal

abbrev pub invariant-loop-word : goal.invariant-loop-word
invariant-loop-word l =
    (l.end ≡ l.place + length (flat_map name_text (take l.word-index l.words)))
    × (take l.end l.into ≡ take l.place l.fn.into ++ flat_map name_text (take l.word-index l.words))
    × (length l.into ≡ length l.fn.into)
