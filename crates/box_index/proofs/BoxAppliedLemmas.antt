-- What one entry more does to the rows and the next UID, in the words of the code.
use Rattle.std.proofs.Common.{◌≡◌, ◌≤◌, ◌+◌, ◌==◌, ℕ, Bool, false, List, [], ◌∷◌, ◌++◌, length, map, filter, not, append-nil, refl, sym, ap, ◌∙◌, arith, length-append}
use Rattle.std.proofs.lemmas.List.{length-map}
use Rattle.mdbox_base.specs.declared.ids.Uid.{Uid}
use Rattle.mdbox_base.specs.declared.ids.MapUid.{MapUid}
use Rattle.mdbox_base.specs.declared.ids.Guid.{Guid}
use Rattle.mdbox_base.specs.declared.entries.BoxEntry.TheVariants as entry
use Rattle.model_meaning.specs.BoxMeaning.{LogRow, BoxMeaning, box_applied, BoxFits, row_changed, row_removed}
use Rattle.box_index.specs.declared.index.BoxRow.{BoxRow}
use Rattle.box_index.specs.declared.index.RowChange.{RowChange}
use Rattle.box_index.specs.declared.index.RowChange.TheVariants as change
use Rattle.box_index.specs.Row.{row_of, IsInOrder, changed_row}
use Rattle.box_index.proofs.RowLemmas.{filter-all, map-same, map-append, change_entry, changed-rows, removed-rows, rise-higher, rise-append, rise-changed, rise-removed}

abbrev made : List LogRow → ℕ → BoxMeaning
made rows next = record { rows = rows; next = next }

same : (r s : List LogRow) (m n : ℕ) → r ≡ s → m ≡ n → made r m ≡ made s n
same r s m n p q = cc (p, q)

-- rows that no entry removes or changes
kept : (rows : List LogRow) → map (λ row. row) (filter (λ row. not false) rows) ≡ rows
kept rows = rw filter-all (map-same rows)

pub applied-next : (m : BoxMeaning) (next : ℕ) → BoxFits m (entry.N next) → made m.rows next ≡ box_applied (entry.N next) m
applied-next m next fits = same _ _ _ _ (sym (append-nil _ ∙ kept m.rows)) (let no_less = fits.0 in omega arith)

pub applied-added : (m : BoxMeaning) (uid : Uid) (flags time size : ℕ) (map_uid : MapUid) (guid : Guid) (words : List (List ℕ)) (rows : List LogRow) → BoxFits m (entry.A uid flags time size map_uid guid words)
    → rows ≡ m.rows ++ record { uid = uid.0; flags = flags; time = time; size = size; map_uid = map_uid.0; guid = guid.0; words = words } ∷ []
    → made rows (uid.0 + 1) ≡ box_applied (entry.A uid flags time size map_uid guid words) m
applied-added m uid flags time size map_uid guid words rows fits e =
    same _ _ _ _ (e ∙ ap (λ t. t ++ record { uid = uid.0; flags = flags; time = time; size = size; map_uid = map_uid.0; guid = guid.0; words = words } ∷ []) (sym (kept m.rows))) (let no_less = fits.0 in omega arith)

pub applied-changed : (m : BoxMeaning) (uid : Uid) (how : RowChange) (old new : List BoxRow) → 1 ≤ m.next → m.rows ≡ map row_of old → new ≡ map (changed_row uid.0 how) old
    → made (map row_of new) m.next ≡ box_applied (change_entry uid how) m
applied-changed m uid (change.Flags flags) old new some e f =
    same _ _ _ _ (ap (map row_of) f ∙ changed-rows uid (change.Flags flags) old ∙ sym (append-nil _ ∙ rw filter-all (ap (map (row_changed (entry.F uid flags))) e))) (omega arith)
applied-changed m uid (change.Words words) old new some e f =
    same _ _ _ _ (ap (map row_of) f ∙ changed-rows uid (change.Words words) old ∙ sym (append-nil _ ∙ rw filter-all (ap (map (row_changed (entry.K uid words))) e))) (omega arith)

pub applied-removed : (m : BoxMeaning) (uid : Uid) (old new : List BoxRow) → 1 ≤ m.next → m.rows ≡ map row_of old → new ≡ filter (λ row. not (uid.0 == row.uid.0)) old
    → made (map row_of new) m.next ≡ box_applied (entry.R uid) m
applied-removed m uid old new some e f =
    same _ _ _ _ (ap (map row_of) f ∙ removed-rows uid old ∙ sym (append-nil _ ∙ map-same _ ∙ ap (filter (λ row. not (row_removed (entry.R uid) row))) e)) (omega arith)

-- what passes is no more
fewer : {X : Type 0} → (keep : X → Bool) (xs : List X) → length (filter keep xs) ≤ length xs
fewer keep [] = omega arith
fewer keep (x ∷ xs) = let rest = fewer keep xs in grind (arith, rest)

-- ---- the order that every index keeps

pub order-next : (m : BoxMeaning) (next : ℕ) → IsInOrder m → BoxFits m (entry.N next) → IsInOrder (made m.rows next)
order-next m next order fits = record { rise = rise-higher 1 m.next next m.rows order.rise fits.0; some = fits.1; last = fits.2; few = order.few }

pub order-added : (m : BoxMeaning) (uid : Uid) (flags time size : ℕ) (map_uid : MapUid) (guid : Guid) (words : List (List ℕ)) (row : LogRow) (rows : List LogRow) → IsInOrder m → BoxFits m (entry.A uid flags time size map_uid guid words)
    → row.uid ≡ uid.0 → rows ≡ m.rows ++ row ∷ [] → IsInOrder (made rows (uid.0 + 1))
order-added m uid flags time size map_uid guid words row rows order fits u e = record {
  rise = rw (e, ← u) (rise-append 1 m.next m.rows row order.rise (let no_less = fits.0 in omega (arith, u)));
  some = omega arith;
  last = let high = fits.1 in omega arith;
  few = let room = fits.4 in rw e (omega (arith, length-append m.rows (row ∷ [])));
}

pub order-changed : (m : BoxMeaning) (uid : Uid) (how : RowChange) (old new : List BoxRow) → IsInOrder m → m.rows ≡ map row_of old → new ≡ map (changed_row uid.0 how) old → IsInOrder (made (map row_of new) m.next)
order-changed m uid how old new order e f = record {
  rise = rw (f, changed-rows uid how old, ← e) (rise-changed 1 m.next uid how m.rows order.rise);
  some = order.some;
  last = order.last;
  few = let few = order.few in let size : length (map row_of old) ≤ 1000000 = rw (← e) few in rw f (omega (arith, length-map (map (changed_row uid.0 how) old) row_of, length-map old (changed_row uid.0 how), length-map old row_of));
}

pub order-removed : (m : BoxMeaning) (uid : Uid) (old new : List BoxRow) → IsInOrder m → m.rows ≡ map row_of old → new ≡ filter (λ row. not (uid.0 == row.uid.0)) old → IsInOrder (made (map row_of new) m.next)
order-removed m uid old new order e f = record {
  rise = rw (f, removed-rows uid old, ← e) (rise-removed 1 m.next (λ row. not (row_removed (entry.R uid) row)) m.rows order.rise);
  some = order.some;
  last = order.last;
  few = let few = order.few in rw (f, removed-rows uid old, ← e) (omega (arith, fewer (λ row. not (row_removed (entry.R uid) row)) m.rows));
}

-- a row is added
pub pushed : (old new : List BoxRow) (row : BoxRow) (more : LogRow) → new ≡ old ++ row ∷ [] → row_of row ≡ more → map row_of new ≡ map row_of old ++ more ∷ []
pushed old new row more e f = rw (e, map-append row_of old row, f) refl
