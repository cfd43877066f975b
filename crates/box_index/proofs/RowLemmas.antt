-- Rows of a mailbox, as the model has them.
use Rattle.std.proofs.lemmas.Bool.Decides.{nat_tests}
use Rattle.std.proofs.Common.{eq-eqb, ◌≡◌, ◌+◌, ◌==◌, ℕ, ◌≤◌, List, [], ◌∷◌, ◌++◌, map, filter, not, refl, ap, arith, Bool, true, false, cond, find, Option, Some}
use Rattle.std.specs.Option.{option_map}
use Rattle.model_meaning.specs.BoxMeaning.{LogRow, row_changed, row_removed}
use Rattle.mdbox_base.specs.declared.ids.Uid.{Uid}
use Rattle.mdbox_base.specs.declared.entries.BoxEntry.{BoxEntry}
use Rattle.mdbox_base.specs.declared.entries.BoxEntry.TheVariants as entry
use Rattle.box_index.specs.Row.{row_of, row_with, changed_row, UidsRise}
use Rattle.box_index.specs.declared.index.BoxRow.{BoxRow}
use Rattle.box_index.specs.declared.index.RowChange.{RowChange}
use Rattle.box_index.specs.declared.index.RowChange.TheVariants as change

-- a row with this UID, and one with another
pub changed-same : (uid : ℕ) (how : RowChange) (row : BoxRow) → uid ≡ row.uid.0 → changed_row uid how row ≡ row_with how row
changed-same uid how row e = rw e (rw (eq-eqb row.uid.0 row.uid.0 refl) refl)

pub changed-other : (uid : ℕ) (how : RowChange) (row : BoxRow) → (uid ≡ row.uid.0 → ⊥) → changed_row uid how row ≡ row
changed-other uid how row ne = grind (arith, nat_tests)

pub map-append : {X Y : Type 0} → (f : X → Y) (xs : List X) (y : X) → map f (xs ++ y ∷ []) ≡ map f xs ++ f y ∷ []
map-append f [] y = refl
map-append f (x ∷ xs) y = ap (λ t. f x ∷ t) (map-append f xs y)

pub filter-all : {X : Type 0} → (xs : List X) → filter (λ x. not false) xs ≡ xs
filter-all [] = refl
filter-all (x ∷ xs) = ap (λ t. x ∷ t) (filter-all xs)

pub map-same : {X : Type 0} → (xs : List X) → map (λ x. x) xs ≡ xs
map-same [] = refl
map-same (x ∷ xs) = ap (λ t. x ∷ t) (map-same xs)

-- rows that are changed: by the entry that sets flags or keywords
abbrev pub change_entry : Uid → RowChange → BoxEntry
change_entry uid (change.Flags flags) = entry.F uid flags
change_entry uid (change.Words words) = entry.K uid words

changed-row : (uid : Uid) (how : RowChange) (row : BoxRow) → row_of (changed_row uid.0 how row) ≡ row_changed (change_entry uid how) (row_of row)
changed-row uid (change.Flags flags) row = elim (uid.0 == row.uid.0) as (λ (b : Bool). row_of (cond b (record row { flags = flags }) row) ≡ cond b (record (row_of row) { flags = flags }) (row_of row)) [ true ↦ refl | false ↦ refl ]
changed-row uid (change.Words words) row = elim (uid.0 == row.uid.0) as (λ (b : Bool). row_of (cond b (record row { words = words }) row) ≡ cond b (record (row_of row) { words = words }) (row_of row)) [ true ↦ refl | false ↦ refl ]

pub changed-rows : (uid : Uid) (how : RowChange) (rows : List BoxRow) → map row_of (map (changed_row uid.0 how) rows) ≡ map (row_changed (change_entry uid how)) (map row_of rows)
changed-rows uid how [] = refl
changed-rows uid how (row ∷ rows) = rw (changed-row uid how row, changed-rows uid how rows) refl

-- rows that are removed
pub removed-rows : (uid : Uid) (rows : List BoxRow) → map row_of (filter (λ row. not (uid.0 == row.uid.0)) rows) ≡ filter (λ row. not (row_removed (entry.R uid) row)) (map row_of rows)
removed-rows uid [] = refl
removed-rows uid (row ∷ rows) =
    rw (← removed-rows uid rows) (elim (not (uid.0 == row.uid.0)) as (λ (b : Bool). map row_of (cond b (row ∷ filter (λ r. not (uid.0 == r.uid.0)) rows) (filter (λ r. not (uid.0 == r.uid.0)) rows)) ≡ cond b (row_of row ∷ map row_of (filter (λ r. not (uid.0 == r.uid.0)) rows)) (map row_of (filter (λ r. not (uid.0 == r.uid.0)) rows))) [ true ↦ refl | false ↦ refl ])

-- ---- order

pub rise-higher : (low next more : ℕ) (rows : List LogRow) → UidsRise low rows next → next ≤ more → UidsRise low rows more
rise-higher low next more [] h le = omega (arith, h)
rise-higher low next more (row ∷ rows) h le = (h.0, rise-higher (row.uid + 1) next more rows h.1 le)

pub rise-lower : (low less next : ℕ) (rows : List LogRow) → UidsRise low rows next → less ≤ low → UidsRise less rows next
rise-lower low less next [] h le = omega (arith, h)
rise-lower low less next (row ∷ rows) h le = (let first = h.0 in omega arith, h.1)

pub rise-append : (low next : ℕ) (rows : List LogRow) (row : LogRow) → UidsRise low rows next → next ≤ row.uid → UidsRise low (rows ++ row ∷ []) (row.uid + 1)
rise-append low next [] row h le = (omega (arith, h), omega arith)
rise-append low next (r ∷ rows) row h le = (h.0, rise-append (r.uid + 1) next rows row h.1 le)

rise-changed_one : (uid : Uid) (how : RowChange) (row : LogRow) → (row_changed (change_entry uid how) row).uid ≡ row.uid
rise-changed_one uid (change.Flags flags) row = elim (uid.0 == row.uid) as (λ (b : Bool). (cond b (record row { flags = flags }) row).uid ≡ row.uid) [ true ↦ refl | false ↦ refl ]
rise-changed_one uid (change.Words words) row = elim (uid.0 == row.uid) as (λ (b : Bool). (cond b (record row { words = words }) row).uid ≡ row.uid) [ true ↦ refl | false ↦ refl ]

pub rise-changed : (low next : ℕ) (uid : Uid) (how : RowChange) (rows : List LogRow) → UidsRise low rows next → UidsRise low (map (row_changed (change_entry uid how)) rows) next
rise-changed low next uid how [] h = h
rise-changed low next uid how (row ∷ rows) h = let same = rise-changed_one uid how row in rw same (h.0, rise-changed (row.uid + 1) next uid how rows h.1)

pub rise-removed : (low next : ℕ) (keep : LogRow → Bool) (rows : List LogRow) → UidsRise low rows next → UidsRise low (filter keep rows) next
rise-removed low next keep [] h = h
rise-removed low next keep (row ∷ rows) h =
    let rest : UidsRise (row.uid + 1) (filter keep rows) next = rise-removed (row.uid + 1) next keep rows h.1 in
    elim (keep row) as (λ (b : Bool). UidsRise low (cond b (row ∷ filter keep rows) (filter keep rows)) next) [ true ↦ (h.0, rest) | false ↦ rise-lower (row.uid + 1) low next (filter keep rows) rest (let first = h.0 in omega arith) ]

-- a row is found as the model has it
found-row : (uid : ℕ) (row : BoxRow) (rest : Option BoxRow) (more : Option LogRow) → option_map row_of rest ≡ more → option_map row_of (cond (row.uid.0 == uid) (Some row) rest) ≡ cond (row.uid.0 == uid) (Some (row_of row)) more
found-row uid row rest more e = elim (row.uid.0 == uid) as (λ (b : Bool). option_map row_of (cond b (Some row) rest) ≡ cond b (Some (row_of row)) more) [ true ↦ refl | false ↦ e ]

pub found-rows : (uid : ℕ) (rows : List BoxRow) → option_map row_of (find (λ row. row.uid.0 == uid) rows) ≡ find (λ row. row.uid == uid) (map row_of rows)
found-rows uid [] = refl
found-rows uid (row ∷ rows) = found-row uid row _ _ (found-rows uid rows)
