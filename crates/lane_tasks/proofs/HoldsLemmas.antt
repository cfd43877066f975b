-- The instances that tasks claim to hold are those that their requests' events found, placed or pinned.
use Rattle.lane_tasks.proofs.Common.{◌≡◌, ◌+◌, ◌==◌, ℕ, Bool, true, false, cond, List, [], ◌∷◌, ◌++◌, Option, Some, None, refl, sym, ◌∙◌, ap, arith, inl, inr, ◌⊎◌, All, flat_map, is_none, list_any, option_map_or, All-head, All-nil, All-cons, All-tail, list_any-append, sum_by-cons}
use Rattle.lane_tasks.proofs.Common.{History, InstRow, Uid, Refusal, Reply, Request, MapMeaning, EventPart, Run, RunEvent, own_events, StoreValue, Held, one_if, fetch_claims, IsAtFetch, FetchStage, make_claims, IsAt, save_claims, IsAtSave, IsReadyToDeliver, SaveValue, SaveStage}
use Rattle.lane_tasks.proofs.Common.{purge_claims, IsReadyTask, HasNamedFound, StandsTask, claims_at, Task}
use Rattle.std.proofs.Common.{◌≤◌, ◌&&◌, ◌||◌}
use Rattle.std.specs.Prelude.{find, option_map}
use Rattle.std.specs.Str.{bytes_eq}
use Rattle.std.proofs.lemmas.List.Concat.{flat_map-cons}
use Rattle.std.proofs.lemmas.Slice.Eq.{bytes_eq-Decides}
use Rattle.std.proofs.lemmas.Bool.{or_left, or_right, or_cases, and_from, or_from, and_parts, and_right}
use Rattle.std.proofs.lemmas.List.Elements.{All-weaker}
use Rattle.std.proofs.lemmas.List.Folds.{list_any_none}
use Rattle.attach_detach.specs.declared.message.Detached.{Detached}
use Rattle.mdbox_base.specs.declared.ids.InstId.{InstId}
use Rattle.mdbox_base.specs.declared.requests.Request.TheVariants as request
use Rattle.model_meaning.specs.MapMeaning.{MapRecord, record_at}
use Rattle.list_machine.specs.Run.{Pin, is_unpinning, is_unpinning_part}
use Rattle.journal.specs.Found.{is_same_instance}
use Rattle.map_index.specs.Shown.{is_instance_named}
use Rattle.save_instances.specs.Attaching.{AreOfParts}
use Rattle.sis_store.specs.Instances.{instance_in}
use Rattle.sis_store.specs.declared.instance.KnownInstance.{KnownInstance}
use Rattle.store_core.specs.Keeping.{holds_of}
use Rattle.store_core.specs.Knows.{knows_instance}
use Rattle.store_core.specs.StoreInstances.{IsKnownRow}
use Rattle.mail_fetch.specs.Claims.{IsReadyToFetch}
use Rattle.mail_fetch.specs.Stages.{HasPinned, ReadPiece, UnpinsNext}
use Rattle.mail_fetch.specs.declared.parts.StoredAt.{StoredAt}
use Rattle.mail_fetch.specs.declared.task.FetchStage.TheVariants as fetch_stage
use Rattle.mail_ops.specs.declared.task.TaskStage.{TaskStage}
use Rattle.mail_ops.specs.declared.task.TaskStage.TheVariants as ops_stage
use Rattle.mail_save.specs.SaveStages.{AreTakenSoFar}
use Rattle.mail_save.specs.declared.task.SaveStage.TheVariants as save_stage
use Rattle.lane_tasks.specs.Uses.{UsesInstance, finds_instance, pins_instance}
use Rattle.lane_tasks.proofs.RoomLemmas.{purge_holds, make_holds}
use Rattle.lane_tasks.specs.declared.task.Task.TheVariants as task
use Rattle.lane_tasks.proofs.NamedLemmas.{found_by, front_found, one_more, placed_found}

-- ---- tests

no_true : {X : Type 0} → false ≡ true → X
no_true e = absurd (cc e)

none_held : {X : Type 0} → (n : ℕ) → n ≡ 0 → 1 ≤ n → X
none_held n z some = absurd (omega (arith, z, some))

same_id : (a b : InstId) → bytes_eq a.0 b.0 ≡ true → a ≡ b
same_id a b e = ap (λ (octets : List ℕ). record { 0 = octets }) ((bytes_eq-Decides a.0 b.0).0 e)

-- ---- rows

-- a known row of the id of an instance that is known is that instance
same_row : {D : Type 0} → (store : StoreValue D) (instance row : InstRow) → knows_instance store instance ≡ true → IsKnownRow store.instances.known row → row.id ≡ instance.id → is_same_instance instance row ≡ true
same_row store instance row knows known same =
    by_known (instance_in instance.id store.instances.known) knows (ap (λ (id : InstId). option_map (λ (k : KnownInstance). k.row) (instance_in id store.instances.known)) (sym same) ∙ known)
  where
    by_known : (o : Option KnownInstance) → option_map_or (λ k. bytes_eq k.row.hash.0 instance.hash.0) o false ≡ true → option_map (λ (k : KnownInstance). k.row) o ≡ Some row → is_same_instance instance row ≡ true
    by_known None k e = no_true k
    by_known (Some k) hash e =
        let is : k.row ≡ row = cc e in
        let hashes : row.hash.0 ≡ instance.hash.0 = sym (ap (λ (r : InstRow). r.hash.0) is) ∙ (bytes_eq-Decides k.row.hash.0 instance.hash.0).0 hash in
        and_from (bytes_eq instance.hash.0 row.hash.0) (bytes_eq instance.id.0 row.id.0) ((bytes_eq-Decides instance.hash.0 row.hash.0).1 (sym hashes)) ((bytes_eq-Decides instance.id.0 row.id.0).1 (ap (λ (id : InstId). id.0) (sym same)))

-- an instance that is held once for a known row of its id is one of these
held_same : {D : Type 0} → (store : StoreValue D) (instance : InstRow) (rows : List InstRow) → knows_instance store instance ≡ true → All (IsKnownRow store.instances.known) rows → 1 ≤ holds_of rows instance.id → list_any (is_same_instance instance) rows ≡ true
held_same store instance [] knows known some = none_held (holds_of [] instance.id) refl some
held_same {D} store instance (row ∷ rows) knows known some = by_test (bytes_eq row.id.0 instance.id.0) refl (held_same store instance rows knows (All-tail (IsKnownRow store.instances.known) row rows known))
  where
    by_test : (t : Bool) → bytes_eq row.id.0 instance.id.0 ≡ t → (1 ≤ holds_of rows instance.id → list_any (is_same_instance instance) rows ≡ true) → list_any (is_same_instance instance) (row ∷ rows) ≡ true
    by_test true e more = or_left (is_same_instance instance row) (list_any (is_same_instance instance) rows) (same_row store instance row knows (All-head (IsKnownRow store.instances.known) row rows known) (same_id row.id instance.id e))
    by_test false e more =
        let none : one_if (bytes_eq row.id.0 instance.id.0) ≡ 0 = ap one_if e in
        let sum : holds_of (row ∷ rows) instance.id ≡ one_if (bytes_eq row.id.0 instance.id.0) + holds_of rows instance.id = sum_by-cons (λ (r : InstRow). one_if (bytes_eq r.id.0 instance.id.0)) row rows in
        or_right (is_same_instance instance row) (list_any (is_same_instance instance) rows) (more (omega (arith, none, sum, some)))

-- one instance has one id
same_back : (instance row : InstRow) → is_same_instance instance row ≡ true → bytes_eq row.id.0 instance.id.0 ≡ true
same_back instance row same = (bytes_eq-Decides row.id.0 instance.id.0).1 (sym ((bytes_eq-Decides instance.id.0 row.id.0).0 (and_parts (bytes_eq instance.hash.0 row.hash.0) (bytes_eq instance.id.0 row.id.0) same).1))

-- and the other way round, known or not
same_held : (instance : InstRow) (rows : List InstRow) → list_any (is_same_instance instance) rows ≡ true → 1 ≤ holds_of rows instance.id
same_held instance [] is = no_true is
same_held instance (row ∷ rows) is =
    let sum = sum_by-cons (λ (r : InstRow). one_if (bytes_eq r.id.0 instance.id.0)) row rows in
    elim (or_cases (is_same_instance instance row) (list_any (is_same_instance instance) rows) is) [
      | inl same ↦ let one = ap one_if (same_back instance row same) in omega (arith, sum, one)
      | inr more ↦ let held = same_held instance rows more in omega (arith, sum, held)
    ]

-- ---- events

any_found : (instance : InstRow) (own : List RunEvent) → list_any (is_same_instance instance) (flat_map found_by own) ≡ list_any (finds_instance instance) own
any_found instance [] = refl
any_found instance (e ∷ own) =
    ap (list_any (is_same_instance instance)) (flat_map-cons found_by e own)
    ∙ (list_any-append (is_same_instance instance) (e.equal ++ e.placed) (flat_map found_by own)
    ∙ (ap (λ (b : Bool). b || list_any (is_same_instance instance) (flat_map found_by own)) (list_any-append (is_same_instance instance) e.equal e.placed) ∙ ap (λ (b : Bool). finds_instance instance e || b) (any_found instance own)))

-- the rows that its events found have an instance if and only if one of them found it
rows_found : (instance : InstRow) (rows : List InstRow) (own : List RunEvent) → flat_map found_by own ≡ rows → list_any (finds_instance instance) own ≡ list_any (is_same_instance instance) rows
rows_found instance rows own is = sym (any_found instance own) ∙ ap (list_any (is_same_instance instance)) is

taken_found : (rows : List InstRow) (file : ℕ) (own : List RunEvent) → AreTakenSoFar rows file own → flat_map found_by own ≡ rows
taken_found rows file own a = ap (flat_map found_by) a.own_are ∙ (one_more a.front a.second (ap found_by a.took.did) ∙ front_found rows a.front a.attached)

-- ---- a delivery

parts_known : (rows : List InstRow) (parts : List Detached) (known : List KnownInstance) (history : Option History) → AreOfParts rows parts known history → All (IsKnownRow known) rows
parts_known [] parts known history are = All-nil (IsKnownRow known)
parts_known (row ∷ rows) [] known history are = absurd are
parts_known (row ∷ rows) (part ∷ parts) known history are = All-cons (IsKnownRow known) row rows are.0.first.is_known (parts_known rows parts known history are.1)

told_by_rows : {D : Type 0} → (store : StoreValue D) (instance : InstRow) (rows : List InstRow) (own : List RunEvent) → knows_instance store instance ≡ true → All (IsKnownRow store.instances.known) rows → 1 ≤ holds_of rows instance.id → flat_map found_by own ≡ rows → UsesInstance instance own
told_by_rows store instance rows own knows known some is = inl (rows_found instance rows own is ∙ held_same store instance rows knows known some)

delivery_told : {D : Type 0} → (now : SaveStage) (name : List ℕ) (time size : ℕ) (octets : List ℕ) (store : StoreValue D) (history : Option History) (run : Run) (place : ℕ) (said : List Reply) (instance : InstRow) → IsAtSave now run place said → IsReadyToDeliver now name time size octets store history
    → knows_instance store instance ≡ true → 1 ≤ save_claims now (Held instance.id) → UsesInstance instance (own_events place run)
delivery_told (save_stage.Attaching parts attaching) name time size octets store history run place said instance at ready knows some =
    told_by_rows store instance attaching.found (own_events place run) knows (parts_known attaching.found attaching.parts store.instances.known history ready.kept.0.2.found.found) some (front_found attaching.found (own_events place run) at.0)
delivery_told (save_stage.Taking parts) name time size octets store history run place said instance at ready knows some =
    let a = ready.kept.0.2 in
    told_by_rows store instance parts.rows (own_events place run) knows (parts_known parts.rows a.prepared.parts store.instances.known history a.found) some (front_found parts.rows (own_events place run) at.0)
delivery_told (save_stage.Placing parts file) name time size octets store history run place said instance at ready knows some =
    let a = ready.kept.0.0.2 in
    told_by_rows store instance parts.rows (own_events place run) knows (parts_known parts.rows a.prepared.parts store.instances.known history a.found) some (taken_found parts.rows file.0 (own_events place run) at.0)
delivery_told (save_stage.Storing place_at rows room) name time size octets store history run place said instance at ready knows some =
    told_by_rows store instance rows (own_events place run) knows ready.kept.2.known some (placed_found rows place_at.file.0 place_at.guid.0 (own_events place run) at.0)
delivery_told now name time size octets store history run place said instance at ready knows some = none_held 0 refl some

-- ---- a record that names an instance

same_named : (instance : InstRow) (rows : List InstRow) → list_any (is_same_instance instance) rows ≡ true → list_any (λ (i : InstRow). bytes_eq i.id.0 instance.id.0) rows ≡ true
same_named instance [] is = no_true is
same_named instance (row ∷ rows) is = elim (or_cases (is_same_instance instance row) (list_any (is_same_instance instance) rows) is) [
  | inl same ↦ or_left (bytes_eq row.id.0 instance.id.0) _ (same_back instance row same)
  | inr more ↦ or_right (bytes_eq row.id.0 instance.id.0) _ (same_named instance rows more)
]

among : (test : InstRow → Bool) (uid : ℕ) (records : List MapRecord) (row : MapRecord) → find (λ r. r.uid == uid) records ≡ Some row → list_any test row.instances ≡ true → list_any test (flat_map (λ r. r.instances) records) ≡ true
among test uid [] row there is = absurd (let k : None ≡ Some row = there in cc k)
among test uid (r ∷ more) row there is = ap (list_any test) (flat_map-cons (λ (x : MapRecord). x.instances) r more) ∙ (list_any-append test r.instances (flat_map (λ x. x.instances) more) ∙ by_test (r.uid == uid) refl (λ rest. among test uid more row rest is))
  where
    by_test : (t : Bool) → (r.uid == uid) ≡ t → (find (λ (x : MapRecord). x.uid == uid) more ≡ Some row → list_any test (flat_map (λ x. x.instances) more) ≡ true) → (list_any test r.instances || list_any test (flat_map (λ x. x.instances) more)) ≡ true
    by_test true e later =
        let first : find (λ (x : MapRecord). x.uid == uid) (r ∷ more) ≡ Some r = ap (λ (b : Bool). cond b (Some r) (find (λ (x : MapRecord). x.uid == uid) more)) e in
        let same : r ≡ row = let k : Some r ≡ Some row = sym first ∙ there in cc k in
        or_left (list_any test r.instances) _ (ap (λ (x : MapRecord). list_any test x.instances) same ∙ is)
    by_test false e later =
        let rest : find (λ (x : MapRecord). x.uid == uid) (r ∷ more) ≡ find (λ (x : MapRecord). x.uid == uid) more = ap (λ (b : Bool). cond b (Some r) (find (λ (x : MapRecord). x.uid == uid) more)) e in
        or_right (list_any test r.instances) _ (later (sym rest ∙ there))

named_of : (m : MapMeaning) (uid place : ℕ) (run : Run) (row : MapRecord) (instance : InstRow) → record_at m uid ≡ Some row → row.instances ≡ flat_map found_by (own_events place run) → list_any (finds_instance instance) (own_events place run) ≡ true → is_instance_named m instance.id.0 ≡ true
named_of m uid place run row instance there names found =
    among (λ (i : InstRow). bytes_eq i.id.0 instance.id.0) uid m.records row there (same_named instance row.instances (ap (list_any (is_same_instance instance)) names ∙ (any_found instance (own_events place run) ∙ found)))

-- ---- what a delivery found is held, or named

held_by_rows : (instance : InstRow) (rows : List InstRow) (own : List RunEvent) → flat_map found_by own ≡ rows → list_any (finds_instance instance) own ≡ true → 1 ≤ holds_of rows instance.id
held_by_rows instance rows own is found = same_held instance rows (sym (rows_found instance rows own is) ∙ found)

stage_holds : {D : Type 0} → (now : SaveStage) (store : StoreValue D) (run : Run) (place : ℕ) (said : List Reply) (instance : InstRow) → IsAtSave now run place said → HasNamedFound now store run place → list_any (finds_instance instance) (own_events place run) ≡ true
    → (1 ≤ save_claims now (Held instance.id)) ⊎ (is_instance_named store.map instance.id.0 ≡ true)
stage_holds (save_stage.First prepared) store run place said instance at named found = no_true (sym (ap (list_any (finds_instance instance)) at.0) ∙ found)
stage_holds (save_stage.Attaching parts attaching) store run place said instance at named found = inl (held_by_rows instance attaching.found (own_events place run) (front_found attaching.found (own_events place run) at.0) found)
stage_holds (save_stage.Taking parts) store run place said instance at named found = inl (held_by_rows instance parts.rows (own_events place run) (front_found parts.rows (own_events place run) at.0) found)
stage_holds (save_stage.Placing parts file) store run place said instance at named found = inl (held_by_rows instance parts.rows (own_events place run) (taken_found parts.rows file.0 (own_events place run) at.0) found)
stage_holds (save_stage.Storing place_at rows room) store run place said instance at named found = inl (held_by_rows instance rows (own_events place run) (placed_found rows place_at.file.0 place_at.guid.0 (own_events place run) at.0) found)
stage_holds (save_stage.Adding added room) store run place said instance at named found = inr (named_of store.map added.map_uid.0 place run named.0 instance named.1 named.2 found)
stage_holds (save_stage.GivingBack uid why room) store run place said instance at named found = inr (named_of store.map uid.0 place run named.0 instance named.1 named.2 found)
stage_holds save_stage.Ended store run place said instance at named found = absurd at

-- a request of which there is no event found nothing
none_of_any : {X : Type 0} → (test : RunEvent → Bool) (own : List RunEvent) → own ≡ [] → list_any test own ≡ true → X
none_of_any test own none any = no_true (sym (ap (list_any test) none) ∙ any)

ops_unbegun : (now : TaskStage) (run : Run) (place : ℕ) (said : List Reply) → IsAt now run place said → own_events place run ≡ []
ops_unbegun ops_stage.First run place said at = at.0

pub delivery_holds : {D : Type 0} → (t : Task) (store : StoreValue D) (history : Option History) (name : List ℕ) (time : ℕ) (octets : List ℕ) (run : Run) (place : ℕ) (said : List Reply) (instance : InstRow) → StandsTask t store history (request.Deliver name time octets) run place said → store.stopped ≡ false
    → list_any (finds_instance instance) (own_events place run) ≡ true → (1 ≤ claims_at t (Held instance.id)) ⊎ (is_instance_named store.map instance.id.0 ≡ true)
delivery_holds (task.Deliver t) store history name time octets run place said instance s runs found = stage_holds t.stage store run place said instance s.at.0 (s.at.3 runs) found
delivery_holds (task.Ops t) store history name time octets run place said instance s runs found = none_of_any (finds_instance instance) (own_events place run) (ops_unbegun t.stage run place said s.at) found
delivery_holds (task.Counts t) store history name time octets run place said instance s runs found = none_of_any (finds_instance instance) (own_events place run) s.at.0 found
delivery_holds t store history name time octets run place said instance s runs found = absurd (cc s.is_of)

-- ---- a fetch

-- an event of this part unpinned nothing
part_pinned : (event : RunEvent) (part : EventPart) → event.part ≡ part → is_unpinning_part part ≡ false → is_unpinning event ≡ false
part_pinned event part is none = ap (λ (p : EventPart). is_none event.refused && is_unpinning_part p) is ∙ and_right (is_none event.refused) (is_unpinning_part part) none

pieces_pinned : (events : List RunEvent) → All (ReadPiece None) events → list_any is_unpinning events ≡ false
pieces_pinned events all = list_any_none is_unpinning events (All-weaker (ReadPiece None) (λ event. is_unpinning event ≡ false) (λ event piece. part_pinned event _ piece.part refl) events all)

pieces_bare : (instance : InstRow) (events : List RunEvent) → All (ReadPiece None) events → list_any (pins_instance instance) events ≡ false
pieces_bare instance events all = list_any_none (pins_instance instance) events
    (All-weaker (ReadPiece None) (λ event. pins_instance instance event ≡ false) (λ event piece. ap (λ (ps : List Pin). list_any (λ p. list_any (is_same_instance instance) p.instances) ps) piece.pinned) events all)

-- what it pinned
pin_has : (from : StoredAt) (own behind : List RunEvent) (instance : InstRow) (p : HasPinned from own behind) → pins_instance instance p.pin ≡ (list_any (is_same_instance instance) from.instances || false)
pin_has from own behind instance p = ap (λ (ps : List Pin). list_any (λ x. list_any (is_same_instance instance) x.instances) ps) p.pins

pinned_told : (from : StoredAt) (own behind : List RunEvent) (instance : InstRow) → HasPinned from own behind → list_any is_unpinning behind ≡ false → list_any (is_same_instance instance) from.instances ≡ true → UsesInstance instance own
pinned_told from own behind instance p still is = inr (
  ap (list_any (pins_instance instance)) p.own_are ∙ or_left (pins_instance instance p.pin) (list_any (pins_instance instance) behind) (pin_has from own behind instance p ∙ or_left (list_any (is_same_instance instance) from.instances) false is),
  ap (list_any is_unpinning) p.own_are ∙ or_from (is_unpinning p.pin) (list_any is_unpinning behind) (part_pinned p.pin _ p.part refl) still,
)

or_none : (b : Bool) → (b || false) ≡ true → b ≡ true
or_none true e = refl
or_none false e = e

pinned_same : (from : StoredAt) (own behind : List RunEvent) (instance : InstRow) → HasPinned from own behind → list_any (pins_instance instance) behind ≡ false → list_any (pins_instance instance) own ≡ true → list_any (is_same_instance instance) from.instances ≡ true
pinned_same from own behind instance p bare any = elim (or_cases (pins_instance instance p.pin) (list_any (pins_instance instance) behind) (sym (ap (list_any (pins_instance instance)) p.own_are) ∙ any)) [
  | inl is ↦ or_none (list_any (is_same_instance instance) from.instances) (sym (pin_has from own behind instance p) ∙ is)
  | inr is ↦ no_true (sym bare ∙ is)
]

-- behind the last piece, one that was refused
last_pinned : (front : List RunEvent) (last : RunEvent) (why : Refusal) → All (ReadPiece None) front → ReadPiece (Some why) last → list_any is_unpinning (front ++ last ∷ []) ≡ false
last_pinned front last why all r = list_any-append is_unpinning front (last ∷ []) ∙ or_from (list_any is_unpinning front) (is_unpinning last || false) (pieces_pinned front all) (or_from (is_unpinning last) false (part_pinned last _ r.part refl) refl)

last_bare : (instance : InstRow) (front : List RunEvent) (last : RunEvent) (why : Refusal) → All (ReadPiece None) front → ReadPiece (Some why) last → list_any (pins_instance instance) (front ++ last ∷ []) ≡ false
last_bare instance front last why all r =
    list_any-append (pins_instance instance) front (last ∷ [])
    ∙ or_from (list_any (pins_instance instance) front) (pins_instance instance last || false) (pieces_bare instance front all)
    (or_from (pins_instance instance last) false (ap (λ (ps : List Pin). list_any (λ p. list_any (is_same_instance instance) p.instances) ps) r.pinned) refl)

unpins_told : (from : StoredAt) (given : Reply) (own : List RunEvent) (instance : InstRow) → UnpinsNext from given own → list_any (is_same_instance instance) from.instances ≡ true → UsesInstance instance own
unpins_told from given own instance (inl read) is = pinned_told from own read.1.0 instance read.1.1 (pieces_pinned read.1.0 read.1.2) is
unpins_told from given own instance (inr (why, front, last, says, piece, pinned, all, r)) is = pinned_told from own (front ++ last ∷ []) instance pinned (last_pinned front last why all r) is

unpins_same : (from : StoredAt) (given : Reply) (own : List RunEvent) (instance : InstRow) → UnpinsNext from given own → list_any (pins_instance instance) own ≡ true → list_any (is_same_instance instance) from.instances ≡ true
unpins_same from given own instance (inl read) any = pinned_same from own read.1.0 instance read.1.1 (pieces_bare instance read.1.0 read.1.2) any
unpins_same from given own instance (inr (why, front, last, says, piece, pinned, all, r)) any = pinned_same from own (front ++ last ∷ []) instance pinned (last_bare instance front last why all r) any

fetch_told : {D : Type 0} → (now : FetchStage) (store : StoreValue D) (history : Option History) (run : Run) (place : ℕ) (said : List Reply) (instance : InstRow) → IsAtFetch now store.stopped history run place said → IsReadyToFetch now store → knows_instance store instance ≡ true → 1 ≤ fetch_claims now (Held instance.id)
    → UsesInstance instance (own_events place run)
fetch_told fetch_stage.First store history run place said instance at ready knows some = none_held 0 refl some
fetch_told (fetch_stage.Reading region) store history run place said instance at ready knows some =
    let r = at.0 in
    pinned_told region.from (own_events place run) r.0 instance r.1 (pieces_pinned r.0 r.2) (held_same store instance region.from.instances knows ready.own.known some)
fetch_told (fetch_stage.Unpinning from given) store history run place said instance at ready knows some = unpins_told from given (own_events place run) instance at.0 (held_same store instance from.instances knows ready.known some)
fetch_told (fetch_stage.Removing file given) store history run place said instance at ready knows some = none_held 0 refl some

last_any : (p : RunEvent → Bool) (events : List RunEvent) (event : RunEvent) → p event ≡ true → list_any p (events ++ event ∷ []) ≡ true
last_any p events event e = list_any-append p events (event ∷ []) ∙ or_right (list_any p events) (p event || false) (or_left (p event) false e)

fetch_keeps : (now : FetchStage) (stopped : Bool) (history : Option History) (run : Run) (place : ℕ) (said : List Reply) (instance : InstRow) → IsAtFetch now stopped history run place said → list_any (pins_instance instance) (own_events place run) ≡ true → list_any is_unpinning (own_events place run) ≡ false
    → 1 ≤ fetch_claims now (Held instance.id)
fetch_keeps fetch_stage.First stopped history run place said instance at any still = none_of_any (pins_instance instance) (own_events place run) at.0 any
fetch_keeps (fetch_stage.Reading region) stopped history run place said instance at any still =
    let r = at.0 in
    same_held instance region.from.instances (pinned_same region.from (own_events place run) r.0 instance r.1 (pieces_bare instance r.0 r.2) any)
fetch_keeps (fetch_stage.Unpinning from given) stopped history run place said instance at any still = same_held instance from.instances (unpins_same from given (own_events place run) instance at.0 any)
fetch_keeps (fetch_stage.Removing file given) stopped history run place said instance at any still =
    let r = at.0 in
    let here : is_unpinning r.last ≡ true = ap (λ (o : Option Refusal). is_none o && is_unpinning_part r.last.part) r.unrefused ∙ ap is_unpinning_part r.part in
    absurd (let z : true ≡ false = sym (last_any is_unpinning r.front r.last here) ∙ (ap (list_any is_unpinning) (sym r.own_are) ∙ still) in cc z)

pub fetch_holds : {D : Type 0} → (t : Task) (store : StoreValue D) (history : Option History) (name : List ℕ) (uid : Uid) (run : Run) (place : ℕ) (said : List Reply) (instance : InstRow) → StandsTask t store history (request.Fetch name uid) run place said → list_any (pins_instance instance) (own_events place run) ≡ true
    → list_any is_unpinning (own_events place run) ≡ false → 1 ≤ claims_at t (Held instance.id)
fetch_holds (task.Fetch t) store history name uid run place said instance s any still = fetch_keeps t.stage store.stopped history run place said instance s.at any still
fetch_holds (task.Ops t) store history name uid run place said instance s any still = none_of_any (pins_instance instance) (own_events place run) (ops_unbegun t.stage run place said s.at) any
fetch_holds (task.Counts t) store history name uid run place said instance s any still = none_of_any (pins_instance instance) (own_events place run) s.at.0 any
fetch_holds (task.Deliver t) store history name uid run place said instance s any still = absurd s.is_of
fetch_holds t store history name uid run place said instance s any still = absurd (cc s.is_of)

-- ---- each kind

deliver_told : {D : Type 0} → (t : SaveValue) (store : StoreValue D) (history : Option History) (asked : Request) (run : Run) (place : ℕ) (said : List Reply) (instance : InstRow) → StandsTask (task.Deliver t) store history asked run place said → IsReadyTask (task.Deliver t) store history → knows_instance store instance ≡ true
    → 1 ≤ save_claims t.stage (Held instance.id) → UsesInstance instance (own_events place run)
deliver_told t store history (request.Deliver name time octets) run place said instance s ready knows some = delivery_told t.stage t.name t.time t.size ready.0 store history run place said instance s.at.0 ready.1 knows some
deliver_told t store history asked run place said instance s ready knows some = absurd s.is_of

pub held_told : {D : Type 0} → (t : Task) (store : StoreValue D) (history : Option History) (asked : Request) (run : Run) (place : ℕ) (said : List Reply) (instance : InstRow) → StandsTask t store history asked run place said → IsReadyTask t store history → knows_instance store instance ≡ true → 1 ≤ claims_at t (Held instance.id)
    → UsesInstance instance (own_events place run)
held_told (task.Deliver t) store history asked run place said instance s ready knows some = deliver_told t store history asked run place said instance s ready knows some
held_told (task.Fetch t) store history asked run place said instance s ready knows some = fetch_told t.stage store history run place said instance s.at ready knows some
held_told (task.Make t) store history asked run place said instance s ready knows some = none_held (make_claims t.stage (Held instance.id)) (make_holds t.stage instance.id) some
held_told (task.Purge t) store history asked run place said instance s ready knows some = none_held (purge_claims t.stage (Held instance.id)) (purge_holds t.stage instance.id) some
held_told t store history asked run place said instance s ready knows some = none_held 0 refl some
