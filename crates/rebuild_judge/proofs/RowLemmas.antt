-- The instances of references with their sizes, one after another.
use Rattle.std.proofs.Common.{refl, ◌≡◌, ℕ, List, [], ◌∷◌, ◌++◌, min, sym, ◌∙◌, ap, append_assoc, append-nil}
use Rattle.mdbox_base.specs.declared.entries.InstRow.{InstRow}
use Rattle.mdbox_base.specs.declared.metadata.ExtRef.{ExtRef}
use Rattle.rebuild_judge.specs.Kept.{sized_rows}

pub rows_more : (all rows new : List InstRow) (left others : List ExtRef) (told behind : List ℕ) (ref : ExtRef) (size : ℕ) (row : InstRow) → rows ++ sized_rows left told ≡ all → left ≡ ref ∷ others → told ≡ size ∷ behind
    → row ≡ record { hash = ref.hash; id = ref.id; size = min size 4294967295 } → new ≡ rows ++ row ∷ [] → new ++ sized_rows others behind ≡ all
rows_more all rows new left others told behind ref size row was first second is pushed =
    ap (λ (xs : List InstRow). xs ++ sized_rows others behind) pushed ∙ (append_assoc rows (row ∷ []) (sized_rows others behind)
    ∙ (ap (λ (r : InstRow). rows ++ r ∷ sized_rows others behind) is ∙ (sym (ap (λ (rs : List ExtRef). rows ++ sized_rows rs told) first ∙ ap (λ (ns : List ℕ). rows ++ sized_rows (ref ∷ others) ns) second) ∙ was)))

no_sizes : (refs : List ExtRef) → sized_rows refs [] ≡ []
no_sizes [] = refl
no_sizes (ref ∷ refs) = refl

pub rows_short : (all rows : List InstRow) (left : List ExtRef) (told : List ℕ) → rows ++ sized_rows left told ≡ all → told ≡ [] → rows ≡ all
rows_short all rows left told was none = sym (append-nil rows) ∙ (ap (λ (xs : List InstRow). rows ++ xs) (sym (ap (sized_rows left) none ∙ no_sizes left)) ∙ was)

pub rows_end : (all rows : List InstRow) (left : List ExtRef) (told : List ℕ) → rows ++ sized_rows left told ≡ all → left ≡ [] → rows ≡ all
rows_end all rows left told was none = sym (append-nil rows) ∙ (ap (λ (rs : List ExtRef). rows ++ sized_rows rs told) (sym none) ∙ was)
