-- The report of a rebuild, piece by piece.
use Rattle.std.specs.Prelude.{◌≡◌, ◌≤◌, ◌<◌, ◌+◌, ℕ, List, [], ◌∷◌, ◌++◌, length, take, drop, get_or, flat_map, Option}
use Rattle.std.proofs.Common.{sym, ◌∙◌, ap, subst, append-nil}
use Rattle.std.proofs.lemmas.Grind.{flat_map-append}
use Rattle.std.proofs.lemmas.List.{take-append-drop, take_all, take_more}
use Rattle.rebuild_judge.specs.declared.taken.SkippedAt.{SkippedAt}
use Rattle.rebuild_text.specs.ReportText.{skipped_line}
use Rattle.piece_writer.specs.Pieces.{Gathers, WritesPrefix}
use Rattle.piece_writer.proofs.PieceLemmas.{cut_before, cut_more, passed_more}

-- the lines so far
abbrev pub lines_to : List SkippedAt → ℕ → List ℕ
lines_to all i = flat_map skipped_line (take i all)

one_line_more : (all : List SkippedAt) (d : SkippedAt) (i : ℕ) → i < length all → lines_to all (i + 1) ≡ lines_to all i ++ skipped_line (get_or all i d)
one_line_more all d i l =
    ap (flat_map skipped_line) (take_more all i d l)
    ∙ flat_map-append skipped_line (take i all) (get_or all i d ∷ [])
    ∙ ap (λ (t : List ℕ). flat_map skipped_line (take i all) ++ t) (append-nil (skipped_line (get_or all i d)))

pub lines_go_on : (h k l : Option (List ℕ)) (all : List SkippedAt) (d : SkippedAt) (p q r : List ℕ) (i : ℕ) → i < length all
    → Gathers h p (lines_to all i) k q → Gathers k q (skipped_line (get_or all i d)) l r → Gathers h p (lines_to all (i + 1)) l r
lines_go_on h k l all d p q r i b first second =
    subst (λ (t : List ℕ). Gathers h p t l r) (sym (one_line_more all d i b)) (passed_more h k l p q r (lines_to all i) (skipped_line (get_or all i d)) first second)

pub lines_passed : (h k : Option (List ℕ)) (all : List SkippedAt) (p q : List ℕ) (i : ℕ) → length all ≤ i → Gathers h p (lines_to all i) k q → Gathers h p (flat_map skipped_line all) k q
lines_passed h k all p q i a first = subst (λ (t : List ℕ). Gathers h p t k q) (ap (flat_map skipped_line) (take_all i all a)) first

-- a line that was cut, and those that follow
pub lines_cut : (h k l : Option (List ℕ)) (all : List SkippedAt) (d : SkippedAt) (p q : List ℕ) (i : ℕ) → i < length all
    → Gathers h p (lines_to all i) k q → WritesPrefix k q (skipped_line (get_or all i d)) l → WritesPrefix h p (flat_map skipped_line all) l
lines_cut h k l all d p q i b first second =
    let rest : flat_map skipped_line all ≡ lines_to all (i + 1) ++ flat_map skipped_line (drop (i + 1) all)
    = ap (flat_map skipped_line) (sym (take-append-drop (i + 1) all)) ∙ flat_map-append skipped_line (take (i + 1) all) (drop (i + 1) all) in
    subst (λ (t : List ℕ). WritesPrefix h p t l) (sym rest)
    (cut_before h l p (lines_to all (i + 1)) (flat_map skipped_line (drop (i + 1) all))
    (subst (λ (t : List ℕ). WritesPrefix h p t l) (sym (one_line_more all d i b)) (cut_more h k l p q (lines_to all i) (skipped_line (get_or all i d)) first second)))
