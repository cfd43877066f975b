-- What is read of a region, and what it tells of the record.
use Rattle.resync_task.proofs.Common.{◌≡◌, ◌≤◌, ◌+◌, ℕ, Bool, true, false, List, [], ◌++◌, length, take, drop, Option, Some, None, refl, sym, ◌∙◌, ap, subst, arith, length-append, Ok, Err, length-take, length-drop, DiskState, History, Faults, reading, NoFault, MapRecord, Message, IsMessage}
use Rattle.resync_task.proofs.Common.{piece_read, StoreValue, IsMessageWith, TellsWhole, ReadsStoreOnly}
use Rattle.disk_model.specs.declared.name.FileName.TheVariants as file
use Rattle.disk_model.proofs.IdleLemmas.{idle-back, idle-begins, idle-then}
use Rattle.model_store.specs.Settled.{files_of}
use Rattle.model_store.specs.Stands.{HoldsMessage}
use Rattle.resync_task.proofs.RegionLemmas.{header_length}

-- ---- of a disk

-- nothing is no message
empty_none : (m : Message) → IsMessage [] m → ⊥
empty_none m p =
    let a = ap length p.spelled in
    let b = length-append p.header (m.body ++ p.block) in
    let c = header_length p.header (length m.body) p.begins in
    omega (arith, a, b, c)

pub of_holds : (now : DiskState) (own : MapRecord) (region : List ℕ) → region ≡ piece_read own.offset own.size (reading (now (file.Mail own.file))) → HoldsMessage (files_of now) own → IsMessageWith own.guid region
of_holds now own region read h =
    let is : region ≡ take own.size (drop own.offset h.octets_there) = read ∙ ap (piece_read own.offset own.size) h.there in
    record { message = h.message; meta = h.meta; spelled = subst (λ (xs : List ℕ). IsMessage xs h.message) (sym is) h.region; says = h.says; has = h.guid }

pub holds_of : (now : DiskState) (own : MapRecord) (region : List ℕ) → length region ≡ own.size → region ≡ piece_read own.offset own.size (reading (now (file.Mail own.file))) → IsMessageWith own.guid region → HoldsMessage (files_of now) own
holds_of now own region size read m = by_read (reading (now (file.Mail own.file))) refl
  where
    some_octets : IsMessageWith own.guid region → 1 ≤ own.size
    some_octets m =
        let a = ap length m.spelled.spelled in
        let b = length-append m.spelled.header (m.message.body ++ m.spelled.block) in
        let c = header_length m.spelled.header (length m.message.body) m.spelled.begins in
        omega (arith, a, b, c, size)

    ends_within : (there : List ℕ) → region ≡ take own.size (drop own.offset there) → own.offset + own.size ≤ length there
    ends_within there is =
        let a = ap length is in
        let b = length-take own.size (drop own.offset there) in
        let c = length-drop own.offset there in
        let d = some_octets m in
        omega (arith, a, b, c, d, size)

    by_read : (r : Option (List ℕ)) → reading (now (file.Mail own.file)) ≡ r → HoldsMessage (files_of now) own
    by_read None none = absurd (empty_none m.message (subst (λ (xs : List ℕ). IsMessage xs m.message) (read ∙ ap (piece_read own.offset own.size) none) m.spelled))
    by_read (Some there) some =
        let is : region ≡ take own.size (drop own.offset there) = read ∙ ap (piece_read own.offset own.size) some in
        record { octets_there = there; message = m.message; meta = m.meta; there = some; inside = ends_within there is; region = subst (λ (xs : List ℕ). IsMessage xs m.message) is m.spelled; says = m.says; guid = m.has }

-- ---- a store that reads on

pub only_none : {D : Type 0} → (store : StoreValue D) (history : Option History) → ReadsStoreOnly store store history history
only_none store history = record { same = refl; idle = idle-begins history }

pub only_then : {D : Type 0} → (old now new : StoreValue D) (before between after : Option History) → ReadsStoreOnly old now before between → ReadsStoreOnly now new between after → ReadsStoreOnly old new before after
only_then old now new before between after a b = record { same = b.same ∙ ap (λ (v : StoreValue _). record v { disk = new.disk }) a.same; idle = idle-then before between after a.idle b.idle }

-- what is told of a record before is told of it after
pub tells_before : (whole : Bool) (before after : Option History) (own : MapRecord) {D : Type 0} → (old new : StoreValue D) → ReadsStoreOnly old new before after → TellsWhole whole after own → TellsWhole whole before own
tells_before true before after own old new only tells = idle-back (λ now. HoldsMessage (files_of now) own) before after only.idle tells
tells_before false before after own old new only tells = idle-back (λ now. HoldsMessage (files_of now) own → ⊥) before after only.idle tells

-- a store in which nothing has happened
pub unmoved : {D : Type 0} → (history : D → Option History) (faults : D → Faults) (old new : StoreValue D) → new ≡ old → ReadsStoreOnly old new (history old.disk) (history new.disk) × NoFault (faults old.disk) (faults new.disk)
unmoved history faults old new same = subst (λ (v : StoreValue _). ReadsStoreOnly old v (history old.disk) (history v.disk) × NoFault (faults old.disk) (faults v.disk)) (sym same) (only_none old (history old.disk), refl)

pub ok_apart : {X E : Type 0} → (x : X) (e : E) → Ok x ≡ Err e → ⊥
ok_apart x e same = cc same
