-- The rows with one entry more, entry by entry.
use Rattle.std.specs.Prelude.{◌≡◌, ◌==◌, ℕ, false, not, List, [], ◌∷◌, ◌++◌, map, filter, refl}
use Rattle.std.proofs.Common.{◌∙◌, ap, append-nil}
use Rattle.mdbox_base.specs.declared.ids.BoxNo.{BoxNo}
use Rattle.mdbox_base.specs.declared.ids.FileNo.{FileNo}
use Rattle.mdbox_base.specs.declared.ids.Guid.{Guid}
use Rattle.mdbox_base.specs.declared.ids.MapUid.{MapUid}
use Rattle.mdbox_base.specs.declared.ids.Uid.{Uid}
use Rattle.mdbox_base.specs.declared.entries.Highest.{Highest}
use Rattle.mdbox_base.specs.declared.entries.InstRow.{InstRow}
use Rattle.mdbox_base.specs.declared.entries.MapCount.{MapCount}
use Rattle.mdbox_base.specs.declared.entries.MapPlace.{MapPlace}
use Rattle.mdbox_base.specs.declared.entries.BoxEntry.TheVariants as box
use Rattle.mdbox_base.specs.declared.entries.MapEntry.TheVariants as map_entry
use Rattle.model_meaning.specs.Rows.{rows_by}
use Rattle.model_meaning.specs.BoxMeaning.{LogRow, row_rules, row_changed}
use Rattle.model_meaning.specs.MapMeaning.{MapRecord, MapBox, record_rules, record_changed, record_dropped, box_rules, box_changed}

kept_whole : {R : Type 0} → (rows : List R) → filter (λ row. not false) rows ≡ rows
kept_whole [] = refl
kept_whole (row ∷ rows) = ap (λ (rs : _). row ∷ rs) (kept_whole rows)

unchanged : {R : Type 0} → (rows : List R) → map (λ row. row) rows ≡ rows
unchanged [] = refl
unchanged (row ∷ rows) = ap (λ (rs : _). row ∷ rs) (unchanged rows)

-- an entry that removes nothing and changes nothing
pub only_adds : {R : Type 0} → (rows made : List R) → map (λ row. row) (filter (λ row. not false) rows) ++ made ≡ rows ++ made
only_adds rows made = ap (λ (rs : _). rs ++ made) (unchanged (filter (λ row. not false) rows) ∙ kept_whole rows)

-- and makes nothing
pub leaves : {R : Type 0} → (rows : List R) → map (λ row. row) (filter (λ row. not false) rows) ++ [] ≡ rows
leaves rows = append-nil _ ∙ unchanged (filter (λ row. not false) rows) ∙ kept_whole rows

-- an entry that removes nothing and makes nothing
pub only_changes : {R : Type 0} → (change : R → R) (rows : List R) → map change (filter (λ row. not false) rows) ++ [] ≡ map change rows
only_changes change rows = append-nil _ ∙ ap (map change) (kept_whole rows)

-- ---- the rows of a mailbox log

pub rows_by_next : (n : ℕ) (rows : List LogRow) → rows_by row_rules (box.N n) rows ≡ rows
rows_by_next n rows = leaves rows

pub rows_by_added : (uid : Uid) (flags time size : ℕ) (map_uid : MapUid) (guid : Guid) (words : List (List ℕ)) (rows : List LogRow) → rows_by row_rules (box.A uid flags time size map_uid guid words) rows
    ≡ rows ++ record { uid = uid.0; flags = flags; time = time; size = size; map_uid = map_uid.0; guid = guid.0; words = words } ∷ []
rows_by_added uid flags time size map_uid guid words rows = only_adds rows _

pub rows_by_flagged : (uid : Uid) (flags : ℕ) (rows : List LogRow) → rows_by row_rules (box.F uid flags) rows ≡ map (row_changed (box.F uid flags)) rows
rows_by_flagged uid flags rows = only_changes (row_changed (box.F uid flags)) rows

pub rows_by_worded : (uid : Uid) (words : List (List ℕ)) (rows : List LogRow) → rows_by row_rules (box.K uid words) rows ≡ map (row_changed (box.K uid words)) rows
rows_by_worded uid words rows = only_changes (row_changed (box.K uid words)) rows

pub rows_by_removed : (uid : Uid) (rows : List LogRow) → rows_by row_rules (box.R uid) rows ≡ filter (λ row. not (uid.0 == row.uid)) rows
rows_by_removed uid rows = append-nil _ ∙ unchanged (filter (λ row. not (uid.0 == row.uid)) rows)

-- ---- the records of the map

pub records_by_highest : (h : Highest) (rows : List MapRecord) → rows_by record_rules (map_entry.H h) rows ≡ rows
records_by_highest h rows = leaves rows

pub records_by_mailbox : (m : BoxNo) (g : ℕ) (name : List ℕ) (rows : List MapRecord) → rows_by record_rules (map_entry.B m g name) rows ≡ rows
records_by_mailbox m g name rows = leaves rows

pub records_by_generation : (m : BoxNo) (g : ℕ) (rows : List MapRecord) → rows_by record_rules (map_entry.G m g) rows ≡ rows
records_by_generation m g rows = leaves rows

pub records_by_stored : (origin count : ℕ) (uid : MapUid) (file : FileNo) (offset size : ℕ) (guid : Guid) (instances : List InstRow) (rows : List MapRecord) → rows_by record_rules (map_entry.S origin count uid file offset size guid instances) rows
    ≡ rows ++ record { uid = uid.0; origin = origin; count = count; file = file.0; offset = offset; size = size; guid = guid.0; instances = instances } ∷ []
records_by_stored origin count uid file offset size guid instances rows = only_adds rows _

pub records_by_raised : (uid : MapUid) (rows : List MapRecord) → rows_by record_rules (map_entry.U uid) rows ≡ map (record_changed (map_entry.U uid)) rows
records_by_raised uid rows = only_changes (record_changed (map_entry.U uid)) rows

pub records_by_lowered : (uids : List MapUid) (rows : List MapRecord) → rows_by record_rules (map_entry.D uids) rows ≡ map (record_changed (map_entry.D uids)) rows
records_by_lowered uids rows = only_changes (record_changed (map_entry.D uids)) rows

pub records_by_counted : (counts : List MapCount) (rows : List MapRecord) → rows_by record_rules (map_entry.T counts) rows ≡ map (record_changed (map_entry.T counts)) rows
records_by_counted counts rows = only_changes (record_changed (map_entry.T counts)) rows

pub records_by_purged : (file : FileNo) (target : ℕ) (moved : List MapPlace) (dropped : List MapUid) (rows : List MapRecord) → rows_by record_rules (map_entry.P file target moved dropped) rows
    ≡ map (record_changed (map_entry.P file target moved dropped)) (filter (λ row. not (record_dropped (map_entry.P file target moved dropped) row)) rows)
records_by_purged file target moved dropped rows = append-nil _

pub records_by_sealed : (file : FileNo) (rows : List MapRecord) → rows_by record_rules (map_entry.E file) rows ≡ rows
records_by_sealed file rows = leaves rows

pub records_by_deleted : (m : BoxNo) (amounts : List MapCount) (rows : List MapRecord) → rows_by record_rules (map_entry.X m amounts) rows ≡ map (record_changed (map_entry.X m amounts)) rows
records_by_deleted m amounts rows = only_changes (record_changed (map_entry.X m amounts)) rows

pub records_by_renamed : (m : BoxNo) (name : List ℕ) (rows : List MapRecord) → rows_by record_rules (map_entry.V m name) rows ≡ rows
records_by_renamed m name rows = leaves rows

-- ---- the mailboxes of the map

pub boxes_by_mailbox : (m : BoxNo) (g : ℕ) (name : List ℕ) (boxes : List MapBox) → rows_by box_rules (map_entry.B m g name) boxes ≡ boxes ++ record { number = m.0; generation = g; name = name } ∷ []
boxes_by_mailbox m g name boxes = only_adds boxes _

pub boxes_by_generation : (m : BoxNo) (g : ℕ) (boxes : List MapBox) → rows_by box_rules (map_entry.G m g) boxes ≡ map (box_changed (map_entry.G m g)) boxes
boxes_by_generation m g boxes = only_changes (box_changed (map_entry.G m g)) boxes

pub boxes_by_highest : (h : Highest) (boxes : List MapBox) → rows_by box_rules (map_entry.H h) boxes ≡ boxes
boxes_by_highest h boxes = leaves boxes

pub boxes_by_stored : (origin count : ℕ) (uid : MapUid) (file : FileNo) (offset size : ℕ) (guid : Guid) (instances : List InstRow) (boxes : List MapBox) → rows_by box_rules (map_entry.S origin count uid file offset size guid instances) boxes ≡ boxes
boxes_by_stored origin count uid file offset size guid instances boxes = leaves boxes

pub boxes_by_raised : (uid : MapUid) (boxes : List MapBox) → rows_by box_rules (map_entry.U uid) boxes ≡ boxes
boxes_by_raised uid boxes = leaves boxes

pub boxes_by_lowered : (uids : List MapUid) (boxes : List MapBox) → rows_by box_rules (map_entry.D uids) boxes ≡ boxes
boxes_by_lowered uids boxes = leaves boxes

pub boxes_by_counted : (counts : List MapCount) (boxes : List MapBox) → rows_by box_rules (map_entry.T counts) boxes ≡ boxes
boxes_by_counted counts boxes = leaves boxes

pub boxes_by_purged : (file : FileNo) (target : ℕ) (moved : List MapPlace) (dropped : List MapUid) (boxes : List MapBox) → rows_by box_rules (map_entry.P file target moved dropped) boxes ≡ boxes
boxes_by_purged file target moved dropped boxes = leaves boxes

pub boxes_by_sealed : (file : FileNo) (boxes : List MapBox) → rows_by box_rules (map_entry.E file) boxes ≡ boxes
boxes_by_sealed file boxes = leaves boxes

pub boxes_by_deleted : (m : BoxNo) (amounts : List MapCount) (boxes : List MapBox) → rows_by box_rules (map_entry.X m amounts) boxes ≡ filter (λ box. not (m.0 == box.number)) boxes
boxes_by_deleted m amounts boxes = append-nil _ ∙ unchanged (filter (λ box. not (m.0 == box.number)) boxes)

pub boxes_by_renamed : (m : BoxNo) (name : List ℕ) (boxes : List MapBox) → rows_by box_rules (map_entry.V m name) boxes ≡ map (box_changed (map_entry.V m name)) boxes
boxes_by_renamed m name boxes = only_changes (box_changed (map_entry.V m name)) boxes
