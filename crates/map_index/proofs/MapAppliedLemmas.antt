-- One entry more, in the words of the code.
use Rattle.map_index.proofs.Common.{◌≡◌, ◌≤◌, ◌+◌, ◌-◌, ℕ, max, List, refl, sym, subst, arith, BoxNo, FileNo, MapUid, MapPlace, MapCount, Highest, MapEntry, MapRecord, MapBox, MapMeaning, TableValue}
use Rattle.mdbox_base.specs.declared.ids.Guid.{Guid}
use Rattle.mdbox_base.specs.declared.entries.InstRow.{InstRow}
use Rattle.mdbox_base.specs.declared.entries.MapEntry.TheVariants as entry
use Rattle.model_meaning.specs.Rows.{rows_by}
use Rattle.model_meaning.specs.MapMeaning.{record_rules, box_rules, sealed_by}
use Rattle.model_meaning.proofs.AppliedLemmas.{records_by_highest, records_by_generation, boxes_by_highest, boxes_by_stored, boxes_by_raised, boxes_by_lowered, boxes_by_counted, boxes_by_purged, boxes_by_sealed}
use Rattle.map_index.specs.declared.room.MapRoom.{MapRoom}
use Rattle.map_index.specs.Needs.{TakesMemory}
use Rattle.map_index.specs.Value.{no_room, larger_room, room_for, room_left, IsNoLessRoom}
use Rattle.map_index.proofs.ListedLemmas.{table_is}

-- ---- one meaning, part by part

abbrev pub made : List ℕ → List MapRecord → List MapBox → List ℕ → Highest → MapMeaning
made store records boxes sealed highest = record { store = store; records = records; boxes = boxes; sealed = sealed; highest = highest }

pub same_parts : (store : List ℕ) (rs ss : List MapRecord) (bs cs : List MapBox) (fs gs : List ℕ) (h k : Highest) → rs ≡ ss → bs ≡ cs → fs ≡ gs → h ≡ k → made store rs bs fs h ≡ made store ss cs gs k
same_parts store rs ss bs cs fs gs h k p q r s = cc (p, q, r, s)

-- ---- entries that take no memory

pub adds_none : (e : MapEntry) → ((o c : ℕ) (u : MapUid) (file : FileNo) (a z : ℕ) (guid : Guid) (is : List InstRow) → e ≡ entry.S o c u file a z guid is → ⊥)
    → ((b : BoxNo) (g : ℕ) (n : List ℕ) → e ≡ entry.B b g n → ⊥) → ((file : FileNo) → e ≡ entry.E file → ⊥) → ((b : BoxNo) (n : List ℕ) → e ≡ entry.V b n → ⊥) → TakesMemory e → ⊥
adds_none (entry.H x) s b f v t = t
adds_none (entry.B n gen name) s b f v t = b n gen name refl
adds_none (entry.G n gen) s b f v t = t
adds_none (entry.S o c u file a z guid is) s b f v t = s o c u file a z guid is refl
adds_none (entry.U u) s b f v t = t
adds_none (entry.D us) s b f v t = t
adds_none (entry.T cs) s b f v t = t
adds_none (entry.P file t ms us) s b f v h = h
adds_none (entry.E file) s b f v t = f file refl
adds_none (entry.X n cs) s b f v t = t
adds_none (entry.V n name) s b f v t = v n name refl

pub boxes_stay : (e : MapEntry) → (TakesMemory e → ⊥) → ((b : BoxNo) (g : ℕ) → e ≡ entry.G b g → ⊥) → ((b : BoxNo) (cs : List MapCount) → e ≡ entry.X b cs → ⊥) → (boxes : List MapBox) → rows_by box_rules e boxes ≡ boxes
boxes_stay (entry.H h) t g x boxes = boxes_by_highest h boxes
boxes_stay (entry.B n gen name) t g x boxes = absurd (t tt)
boxes_stay (entry.G n gen) t g x boxes = absurd (g n gen refl)
boxes_stay (entry.S o c u file a z guid is) t g x boxes = boxes_by_stored o c u file a z guid is boxes
boxes_stay (entry.U u) t g x boxes = boxes_by_raised u boxes
boxes_stay (entry.D us) t g x boxes = boxes_by_lowered us boxes
boxes_stay (entry.T cs) t g x boxes = boxes_by_counted cs boxes
boxes_stay (entry.P file y ms us) t g x boxes = boxes_by_purged file y ms us boxes
boxes_stay (entry.E file) t g x boxes = boxes_by_sealed file boxes
boxes_stay (entry.X n cs) t g x boxes = absurd (x n cs refl)
boxes_stay (entry.V n name) t g x boxes = absurd (t tt)

pub files_stay : (e : MapEntry) → (TakesMemory e → ⊥) → (files : List ℕ) → sealed_by e files ≡ files
files_stay (entry.H x) t files = refl
files_stay (entry.B n gen name) t files = refl
files_stay (entry.G n gen) t files = refl
files_stay (entry.S o c u file a z guid is) t files = refl
files_stay (entry.U u) t files = refl
files_stay (entry.D us) t files = refl
files_stay (entry.T cs) t files = refl
files_stay (entry.P file x ms us) t files = refl
files_stay (entry.E file) t files = absurd (t tt)
files_stay (entry.X n cs) t files = refl
files_stay (entry.V n name) t files = absurd (t tt)

pub records_stay : (e : MapEntry) → (TakesMemory e → ⊥)
    → ((file : FileNo) (t : ℕ) (ms : List MapPlace) (us : List MapUid) → e ≡ entry.P file t ms us → ⊥) → ((u : MapUid) → e ≡ entry.U u → ⊥) → ((us : List MapUid) → e ≡ entry.D us → ⊥) → ((cs : List MapCount) → e ≡ entry.T cs → ⊥) → ((b : BoxNo) (cs : List MapCount) → e ≡ entry.X b cs → ⊥)
    → (rows : List MapRecord) → rows_by record_rules e rows ≡ rows
records_stay (entry.H x) s p u d t q rows = records_by_highest x rows
records_stay (entry.B n gen name) s p u d t q rows = absurd (s tt)
records_stay (entry.G n gen) s p u d t q rows = records_by_generation n gen rows
records_stay (entry.S o c v file a z guid is) s p u d t q rows = absurd (s tt)
records_stay (entry.U v) s p u d t q rows = absurd (u v refl)
records_stay (entry.D us) s p u d t q rows = absurd (d us refl)
records_stay (entry.T cs) s p u d t q rows = absurd (t cs refl)
records_stay (entry.P file x ms us) s p u d t q rows = absurd (p file x ms us refl)
records_stay (entry.E file) s p u d t q rows = absurd (s tt)
records_stay (entry.X n cs) s p u d t q rows = absurd (q n cs refl)
records_stay (entry.V n name) s p u d t q rows = absurd (s tt)

-- it needs no room
pub no_room_for : (e : MapEntry) → (TakesMemory e → ⊥) → room_for e ≡ no_room
no_room_for (entry.H x) t = refl
no_room_for (entry.B n gen name) t = absurd (t tt)
no_room_for (entry.G n gen) t = refl
no_room_for (entry.S o c u file a z guid is) t = absurd (t tt)
no_room_for (entry.U u) t = refl
no_room_for (entry.D us) t = refl
no_room_for (entry.T cs) t = refl
no_room_for (entry.P file x ms us) t = refl
no_room_for (entry.E file) t = absurd (t tt)
no_room_for (entry.X n cs) t = refl
no_room_for (entry.V n name) t = absurd (t tt)

-- ---- room

abbrev of_room : ℕ → ℕ → ℕ → ℕ → MapRoom
of_room a b c d = record { records = a; instances = b; boxes = c; files = d }

same_room : (a b c d a' b' c' d' : ℕ) → a ≡ a' → b ≡ b' → c ≡ c' → d ≡ d' → of_room a b c d ≡ of_room a' b' c' d'
same_room a b c d a' b' c' d' p q r s = cc (p, q, r, s)

-- none is used of what there is at least
pub left_of_none : (e : MapEntry) (room : MapRoom) → (TakesMemory e → ⊥) → room_left e (larger_room room (room_for e)) ≡ room
left_of_none e room t = subst (λ (need : MapRoom). of_room (max room.records need.records - need.records) (max room.instances need.instances - need.instances) (max room.boxes need.boxes - need.boxes) (max room.files need.files - need.files) ≡ room) (sym (no_room_for e t))
    (same_room _ _ _ _ _ _ _ _ (omega arith) (omega arith) (omega arith) (omega arith))

pub larger_holds : (a b : MapRoom) → IsNoLessRoom b (larger_room a b)
larger_holds a b = record { records = omega arith; instances = omega arith; boxes = omega arith; files = omega arith }

pub larger_keeps : (a b : MapRoom) → IsNoLessRoom a (larger_room a b)
larger_keeps a b = record { records = omega arith; instances = omega arith; boxes = omega arith; files = omega arith }

pub itself_keeps : (a : MapRoom) → IsNoLessRoom a a
itself_keeps a = record { records = omega arith; instances = omega arith; boxes = omega arith; files = omega arith }

-- room that is left after an item was added
pub space_left : (need size space size' space' room left : ℕ) → size + room ≤ space → size' ≤ size + need → space ≤ space' → need ≤ room → left ≡ room - need → size' + left ≤ space'
space_left need size space size' space' room left a b c d e = omega (arith, a, b, c, d, e)

pub space_kept : (size space size' space' room : ℕ) → size + room ≤ space → size' ≤ size → space' ≡ space → size' + room ≤ space'
space_kept size space size' space' room a b c = omega (arith, a, b, c)

-- what takes no memory leaves the room of a table
pub room_stays : (e : MapEntry) (t : TableValue) (rows : List MapRecord) → (TakesMemory e → ⊥) → record t { records = rows } ≡ record { records = rows; record_room = t.record_room - (room_for e).records; instance_room = t.instance_room - (room_for e).instances }
room_stays e t rows none =
    subst (λ (need : MapRoom). record t { records = rows } ≡ record { records = rows; record_room = t.record_room - need.records; instance_room = t.instance_room - need.instances }) (sym (no_room_for e none))
    (table_is (record t { records = rows }) rows (t.record_room - 0) (t.instance_room - 0) refl (omega arith) (omega arith))

-- and so is room in the table of records
pub room_left_over : (need room table left table' : ℕ) → room ≤ table → table' ≡ table - need → left ≡ room - need → left ≤ table'
room_left_over need room table left table' a b c = omega (arith, a, b, c)

pub room_kept : (room table table' : ℕ) → room ≤ table → table' ≡ table → room ≤ table'
room_kept room table table' a b = omega (arith, a, b)
