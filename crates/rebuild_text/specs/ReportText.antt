-- What is printed of a rebuild.
use Rattle.std.specs.Prelude.{ℕ, List, [], ◌∷◌, ◌++◌, flat_map, codes}
use Rattle.model_found.specs.Reasons.{reason_word}
use Rattle.rebuild_judge.specs.declared.taken.SkippedAt.{SkippedAt}
use Rattle.request_text.specs.ReplyText.{numbers_text, ok_line}

-- a place that was skipped: the number of its storage file, its offset there in octets, and why
abbrev pub skipped_line : SkippedAt → List ℕ
skipped_line skipped = codes "SKIPPED" ++ (numbers_text (skipped.file.0 ∷ skipped.offset ∷ []) ++ (32 ∷ (reason_word skipped.why ++ 10 ∷ [])))

-- the places that were skipped, and then how many mailboxes there are and how many messages
abbrev pub report_text : List SkippedAt → ℕ → ℕ → List ℕ
report_text skipped mailboxes messages = flat_map skipped_line skipped ++ ok_line (numbers_text (mailboxes ∷ messages ∷ []))
