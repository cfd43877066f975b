-- Laws of the meaning of a mailbox log.
use Rattle.std.specs.Prelude.{◌≡◌, ℕ, max, List, [], ◌∷◌, ◌++◌}
use Rattle.std.proofs.Common.{arith}
use Rattle.mdbox_base.specs.declared.entries.BoxEntry.{BoxEntry}
use Rattle.model_meaning.proofs.RowLemmas.{one_more}
use Rattle.model_meaning.specs.BoxMeaning.{LogRow, row_rules, next_named, next_after, BoxMeaning, box_meaning, box_applied}

-- one entry more raises the next UID to what it names
pub next_more : (entries : List BoxEntry) (entry : BoxEntry) → next_after (entries ++ entry ∷ []) ≡ max (next_after entries) (next_named entry)
next_more [] entry = omega arith
next_more (e ∷ es) entry = let h = next_more es entry in rw h (omega arith)

made_meaning : List LogRow → ℕ → BoxMeaning
made_meaning rows next = record { rows = rows; next = next }

-- one entry more
pub box_more : (entries : List BoxEntry) (entry : BoxEntry) → box_meaning (entries ++ entry ∷ []) ≡ box_applied entry (box_meaning entries)
unfolding made_meaning
box_more entries entry =
    let r = one_more row_rules entries entry in
    let n = next_more entries entry in
    let same : (rows : List LogRow) (next : ℕ) (more : List LogRow) (raised : ℕ) → rows ≡ more → next ≡ raised → made_meaning rows next ≡ made_meaning more raised = λ rows next more raised p q. cc (p, q) in
    same _ _ _ _ r n
