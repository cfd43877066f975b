-- What is printed of an exercise.
use Rattle.std.specs.Prelude.{ℕ, List, [], ◌∷◌, ◌++◌, codes}
use Rattle.mdbox_base.specs.Numbers.{decimal_text}
use Rattle.request_text.specs.declared.summary.Summary.{Summary}

-- a word, and a number
abbrev pub count_line : List ℕ → ℕ → List ℕ
count_line word n = word ++ (decimal_text n ++ 10 ∷ [])

abbrev pub summary_text : Summary → List ℕ
summary_text s = count_line (codes "requests ") s.requests
    ++ (count_line (codes "ok ") s.ok
    ++ (count_line (codes "no ") s.no
    ++ (count_line (codes "messages ") s.messages
    ++ (count_line (codes "octets ") s.octets
    ++ (count_line (codes "records ") s.records
    ++ (count_line (codes "references ") s.references
    ++ (count_line (codes "counts ") s.counts
    ++ count_line (codes "instances ") s.instances)))))))
