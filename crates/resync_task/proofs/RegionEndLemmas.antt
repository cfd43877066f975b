-- What the header of a region and what follows its body tell of the record.
use Rattle.resync_task.proofs.Common.{◌≡◌, ◌≤◌, ◌<◌, ◌+◌, ◌-◌, ℕ, Bool, true, false, List, ◌++◌, length, take, drop, Option, Some, None, refl, sym, ◌∙◌, ap, subst, arith, IsTrue, ◌↔◌, length-take, length-take-le, length-drop, take-take, drop-drop, DiskState, History, reading, MapRow, shown_record}
use Rattle.resync_task.proofs.Common.{MapRecord, Message, IsMessage, piece_read, HasDamagedRegion, IsMessageWith, TellsWhole, EndsBefore, IsHeaderAt, bodiless_header}
use Rattle.std.proofs.lemmas.List.{drop-take}
use Rattle.disk_model.specs.declared.name.FileName.TheVariants as file
use Rattle.model_store.specs.Settled.{files_of}
use Rattle.model_store.specs.Stands.{HoldsMessage}
use Rattle.resync_task.specs.Window.{HasTail, IsPieceAt}
use Rattle.resync_task.proofs.BodilessLemmas.{body_told, ends_of, of_ends, size_parts, tail_some}
use Rattle.resync_task.proofs.ReadLemmas.{holds_of, of_holds}

-- ---- of a piece of a file

-- a piece that is long enough begins with its first thirty octets
front_there : (offset size : ℕ) (r : Option (List ℕ)) → 30 ≤ length (piece_read offset size r) → (take 30 (piece_read offset size r) ≡ piece_read offset 30 r) × (length (piece_read offset 30 r) ≡ 30)
front_there offset size None long = absurd (omega (arith, long))
front_there offset size (Some octets) long =
    let a = length-take size (drop offset octets) in
    (take-take 30 size (drop offset octets) (omega (arith, a, long)), length-take-le 30 (drop offset octets) (omega (arith, a, long)))

-- its end is what is read from there on
end_there : (offset size at tail more before : ℕ) (octets : List ℕ) → before + tail ≡ size → at ≡ offset + before → drop before (take size (drop offset octets)) ≡ take tail (take (tail + more) (drop at octets))
end_there offset size at tail more before octets parts is =
    ap (λ (n : ℕ). drop before (take n (drop offset octets))) (sym parts)
    ∙ (drop-take before tail (drop offset octets)
    ∙ (ap (take tail) (drop-drop before offset octets ∙ ap (λ (n : ℕ). drop n octets) (sym is)) ∙ sym (take-take tail (tail + more) (drop at octets) (omega arith))))

-- ---- of a record

pub no_header : (now : DiskState) (own : MapRecord) → length (piece_read own.offset 30 (reading (now (file.Mail own.file)))) < 30 → HoldsMessage (files_of now) own → ⊥
no_header now own short h =
    let m = of_holds now own _ refl h in
    let parts = size_parts _ m.message m.spelled in
    let f = front_there own.offset own.size (reading (now (file.Mail own.file))) (omega (arith, parts)) in
    let l = f.1 in
    omega (arith, short, l)

whole_long : (own : MapRecord) (octets : List ℕ) → own.offset + own.size ≤ length octets → length (take own.size (drop own.offset octets)) ≡ own.size
whole_long own octets inside = length-take-le own.size (drop own.offset octets) (let d = length-drop own.offset octets in omega (arith, d, inside))

-- no header of a message of this size
pub no_tail : (now : DiskState) (own : MapRecord) (header : List ℕ) → header ≡ piece_read own.offset 30 (reading (now (file.Mail own.file)))
    → ((region : List ℕ) (m : Message) → take 30 region ≡ header → length region ≡ own.size → IsMessage region m → ⊥) → HoldsMessage (files_of now) own → ⊥
no_tail now own header there none h =
    let m = of_holds now own _ refl h in
    let parts = size_parts _ m.message m.spelled in
    let f = front_there own.offset own.size (reading (now (file.Mail own.file))) (omega (arith, parts)) in
    none _ m.message (f.0 ∙ sym there) (ap length (ap (piece_read own.offset own.size) h.there) ∙ whole_long own h.octets_there h.inside) m.spelled

-- the parts of its region, of a file that has so many octets
first_there : (own : MapRecord) (octets header : List ℕ) → own.offset + own.size ≤ length octets → 30 ≤ own.size → header ≡ take 30 (drop own.offset octets) → take 30 (take own.size (drop own.offset octets)) ≡ header
first_there own octets header inside some there =
    let l = whole_long own octets inside in
    (front_there own.offset own.size (Some octets) (omega (arith, l, some))).0 ∙ sym there

pub ends_hold : (now : DiskState) (own : MapRecord) (header part : List ℕ) (tail at more : ℕ) → length header ≡ 30 → header ≡ piece_read own.offset 30 (reading (now (file.Mail own.file))) → HasTail header own.size tail → at ≡ own.offset + (own.size - tail)
    → part ≡ piece_read at (tail + more) (reading (now (file.Mail own.file))) → tail ≤ length part → IsMessageWith own.guid (bodiless_header header ++ take tail part) → HoldsMessage (files_of now) own
ends_hold now own header part tail at more long there t is piece enough m = by_read (reading (now (file.Mail own.file))) refl
  where
    by_read : (r : Option (List ℕ)) → reading (now (file.Mail own.file)) ≡ r → HoldsMessage (files_of now) own
    by_read None none = absurd (let e = ap length (there ∙ ap (piece_read own.offset 30) none) in omega (arith, e, long))
    by_read (Some octets) some =
        let read : part ≡ take (tail + more) (drop at octets) = piece ∙ ap (piece_read at (tail + more)) some in
        let parts = t.parts in
        let one = tail_some own.guid header (take tail part) long m in
        let a = length-take tail part in
        let b = ap length read in
        let c = length-take (tail + more) (drop at octets) in
        let d = length-drop at octets in
        let inside : own.offset + own.size ≤ length octets = omega (arith, parts, one, a, b, c, d, is, enough) in
        let first = first_there own octets header inside (omega (arith, parts)) (there ∙ ap (piece_read own.offset 30) some) in
        let last : drop (30 + t.body) (take own.size (drop own.offset octets)) ≡ take tail part = end_there own.offset own.size at tail more (30 + t.body) octets parts (omega (arith, parts, is)) ∙ ap (take tail) (sym read) in
        let l = whole_long own octets inside in
        holds_of now own (take own.size (drop own.offset octets)) l (sym (ap (piece_read own.offset own.size) some))
        (of_ends own.guid (take own.size (drop own.offset octets)) header (take tail part) t.body first last long (omega (arith, l, parts)) t.fits t.told m)

some_same : (a b : ℕ) → Some a ≡ Some b → a ≡ b
some_same a b e = cc e

pub holds_ends : (now : DiskState) (own : MapRecord) (header part : List ℕ) (tail at more : ℕ) → header ≡ piece_read own.offset 30 (reading (now (file.Mail own.file))) → HasTail header own.size tail → at ≡ own.offset + (own.size - tail)
    → part ≡ piece_read at (tail + more) (reading (now (file.Mail own.file))) → HoldsMessage (files_of now) own → (tail ≤ length part) × IsMessageWith own.guid (bodiless_header header ++ take tail part)
holds_ends now own header part tail at more there t is piece h =
    let octets = h.octets_there in
    let inside = h.inside in
    let region = take own.size (drop own.offset octets) in
    let m : IsMessageWith own.guid region = record { message = h.message; meta = h.meta; spelled = h.region; says = h.says; has = h.guid } in
    let read : part ≡ take (tail + more) (drop at octets) = piece ∙ ap (piece_read at (tail + more)) h.there in
    let parts = t.parts in
    let b = ap length read in
    let c = length-take (tail + more) (drop at octets) in
    let d = length-drop at octets in
    let first = first_there own octets header inside (omega (arith, parts)) (there ∙ ap (piece_read own.offset 30) h.there) in
    let last : drop (30 + t.body) region ≡ take tail part = end_there own.offset own.size at tail more (30 + t.body) octets parts (omega (arith, parts, is)) ∙ ap (take tail) (sym read) in
    (omega (arith, parts, b, c, d, is, inside), ends_of own.guid region header (take tail part) t.body m first (some_same (length h.message.body) t.body (sym (body_told region header h.message first h.region) ∙ t.told)) last)

-- ---- of what is told of it

-- of a row that shows the record
pub row_short : (history : Option History) (row : MapRow) → EndsBefore history row.file.0 row.offset 30 → (own : MapRecord) → row ≡ shown_record own → HasDamagedRegion history own
row_short history row short own shown = told history own (subst (λ (r : MapRow). EndsBefore history r.file.0 r.offset 30) shown short)
  where
    told : (history : Option History) (own : MapRecord) → EndsBefore history own.file own.offset 30 → HasDamagedRegion history own
    told None own short = tt
    told (Some h) own short = no_header h.now own short

abbrev IsOther : List ℕ → ℕ → Type 0
IsOther header size = (region : List ℕ) (m : Message) → take 30 region ≡ header → length region ≡ size → IsMessage region m → ⊥

pub row_other : (history : Option History) (row : MapRow) (header : List ℕ) → IsHeaderAt history row.file.0 row.offset header → IsOther header row.size → (own : MapRecord) → row ≡ shown_record own → HasDamagedRegion history own
row_other history row header there none own shown = told history own (subst (λ (r : MapRow). IsHeaderAt history r.file.0 r.offset header) shown there) (subst (λ (r : MapRow). IsOther header r.size) shown none)
  where
    told : (history : Option History) (own : MapRecord) → IsHeaderAt history own.file own.offset header → IsOther header own.size → HasDamagedRegion history own
    told None own there none = tt
    told (Some h) own there none = no_tail h.now own header there.there none

-- what was read of it, and what is answered
pub record HasEnds (history : Option History) (row : MapRow) (header part : List ℕ) (tail at : ℕ) (is : Bool) : Type 0 where
  pub header_there : IsHeaderAt history row.file.0 row.offset header
  pub tail_is : HasTail header row.size tail
  pub at_is : at ≡ row.offset + (row.size - tail)
  pub part_there : IsPieceAt history row.file.0 at (tail + 30) part
  pub answer : IsTrue is ↔ ((tail ≤ length part) × IsMessageWith row.guid.0 (bodiless_header header ++ take tail part))

pub row_ends : (history : Option History) (row : MapRow) (header part : List ℕ) (tail at : ℕ) (is : Bool) → HasEnds history row header part tail at is → (own : MapRecord) → row ≡ shown_record own → TellsWhole is history own
row_ends history row header part tail at is ends own shown = told history is (subst (λ (r : MapRow). HasEnds history r header part tail at is) shown ends)
  where
    not_false : IsTrue false → ⊥
    not_false t = let k : false ≡ true = t in cc k

    told : (history : Option History) (is : Bool) → HasEnds history (shown_record own) header part tail at is → TellsWhole is history own
    told None true e = tt
    told None false e = tt
    told (Some h) true e = let a = e.answer.0 refl in ends_hold h.now own header part tail at 30 e.header_there.long e.header_there.there e.tail_is e.at_is e.part_there a.0 a.1
    told (Some h) false e = λ holds. not_false (e.answer.1 (holds_ends h.now own header part tail at 30 e.header_there.there e.tail_is e.at_is e.part_there holds))
