-- A fetch stays ready beside every event of every other task.
use Rattle.mail_fetch.proofs.Common.{◌≡◌, ◌≢◌, ◌≤◌, ◌+◌, ◌==◌, ◌&&◌, ℕ, Bool, true, false, not, cond, List, [], ◌∷◌, ◌++◌, length, map, get_or, Option, Some, None, refl, sym, ◌∙◌, ap, subst, arith, All, filter, nat_lt, if◌then◌else◌, bytes_eq, cond-true, eq-eqb, eqb-true, ne_eqb, All-cons, All-nil}
use Rattle.mail_fetch.proofs.Common.{All-head, All-tail, sum_by-cons, Faults, Files, History, InstRow, FileNo, InstId, Reply, MapRecord, files_of, Run, RunEvent, and_then, is_pinned, own_events, leaves_doomed, own_other, is_doomed_in, pins_in, piece_read, holds_of, AreElsewhere, IsKnownRow}
use Rattle.mail_fetch.proofs.Common.{StoreValue, Held, Pinned, Removing, one_if, HasComeTo, HasClaimed, IsReadyToFetch, claims_of_pinned, fetch_claims, KnowsSource, instance_part, part_read, parts_read, parts_to_read, pieces_left, region_part, source_file, RegionValue, CanRemove, HasReadAllBut}
use Rattle.mail_fetch.proofs.Common.{IsFrontOfStored, RemovesNext, UnpinsNext, one_pin, seen_in, Part, StoredAt, FetchStage}
use Rattle.std.proofs.lemmas.List.{length-append}
use Rattle.std.proofs.lemmas.Slice.Eq.{bytes_eq-Decides}
use Rattle.disk_model.specs.declared.name.FileName.TheVariants.{Mail}
use Rattle.sis_store.specs.OnDisk.{instance_file}
use Rattle.store_core.proofs.MailChangeLemmas.{part_behind}
use Rattle.task_claims.specs.Leaving.{HasRegionOctets, LeavesInstance, but_count}
use Rattle.task_claims.specs.Stable.{Beside, IsStable}
use Rattle.task_claims.proofs.LeftLemmas.{claim_left, instance_left, pinned_left, removing_left}
use Rattle.task_claims.proofs.StoredLemmas.{KeepsRow, stores_on}
use Rattle.task_steps.proofs.SeenLemmas.{pinned_as}
use Rattle.mail_fetch.specs.Claims.{IsClaimedPart, IsClaimedTo, IsReadyToRead, ReadsStored}
use Rattle.mail_fetch.specs.Removal.{claims_of_removal}
use Rattle.mail_fetch.specs.Stages.{IsAtFetch, Reading, SparesFile}
use Rattle.mail_fetch.specs.declared.parts.Source.{Source}
use Rattle.mail_fetch.specs.declared.parts.Source.TheVariants as source
use Rattle.mail_fetch.specs.declared.task.FetchStage.TheVariants as stage
use Rattle.mail_fetch.proofs.HoldLemmas.{holds_few}
use Rattle.mail_fetch.proofs.LastPinLemmas.{PinsFile, leaves_is, leaves_still, removes_pins}
use Rattle.mail_fetch.proofs.PartLemmas.{reads_of_parts}

-- ---- its own claims

own_pin : (file : ℕ) → 1 ≤ one_pin file file
own_pin file = let e : one_pin file file ≡ 1 = cond-true (file == file) 1 0 (eq-eqb file file refl) in omega (arith, e)

one_of : InstId → InstRow → ℕ
one_of id row = if bytes_eq row.id.0 id.0 then 1 else 0

more_held : (x : InstRow) (xs rows : List InstRow) (id : InstId) → holds_of (x ∷ xs) id ≤ holds_of rows id → holds_of xs id ≤ holds_of rows id
unfolding one_of
more_held x xs rows id le = let b : holds_of (x ∷ xs) id ≡ one_of id x + holds_of xs id = sum_by-cons (one_of id) x xs in omega (arith, le, b)

first_held : (x : InstRow) (xs rows : List InstRow) → holds_of (x ∷ xs) x.id ≤ holds_of rows x.id → 1 ≤ holds_of rows x.id
unfolding one_of
first_held x xs rows le =
    let b : holds_of (x ∷ xs) x.id ≡ one_of x.id x + holds_of xs x.id = sum_by-cons (one_of x.id) x xs in
    let one : one_of x.id x ≡ 1 = cond-true (bytes_eq x.id.0 x.id.0) 1 0 ((bytes_eq-Decides x.id.0 x.id.0).1 refl) in
    omega (arith, le, b, one)

held_among : (xs rows : List InstRow) → ((id : InstId) → holds_of xs id ≤ holds_of rows id) → All (λ row. 1 ≤ holds_of rows row.id) xs
held_among [] rows le = All-nil (λ (row : InstRow). 1 ≤ holds_of rows row.id)
held_among (x ∷ xs) rows le = All-cons (λ (row : InstRow). 1 ≤ holds_of rows row.id) x xs (first_held x xs rows (le x.id)) (held_among xs rows (λ id. more_held x xs rows id (le id)))

pub own_holds : (rows : List InstRow) → All (λ row. 1 ≤ holds_of rows row.id) rows
own_holds rows = held_among rows rows (λ id. omega arith)

-- ---- what is left to it

rows_left : {D : Type 0} → (from : StoredAt) (old new : StoreValue D) (before after : Option History) → Beside (claims_of_pinned from) old new before after → All (IsKnownRow old.instances.known) from.instances → All (λ row. LeavesInstance row old new before after) from.instances
rows_left from old new before after b known = λ i d lt. instance_left (claims_of_pinned from) old new before after (get_or from.instances i d) b (own_holds from.instances i d lt) (known i d lt)

-- and what it claims stays so
own_left : {D : Type 0} → (from : StoredAt) (old new : StoreValue D) (before after : Option History) → Beside (claims_of_pinned from) old new before after → HasClaimed from old → HasClaimed from new
own_left from old new before after b own = record {
  claimed = λ thing. claim_left (claims_of_pinned from) old new before after thing b;
  known = λ i d lt. (rows_left from old new before after b own.known i d lt).known;
  few = own.few;
}

-- an instance of which a part is left, or no instance
LeavesSource : {D : Type 0} → StoreValue D → StoreValue D → Option History → Option History → Source → Type 0
LeavesSource old new before after (source.Mail file) = Unit {0}
LeavesSource old new before after (source.Instance row) = LeavesInstance row old new before after

source_left : {D : Type 0} → (region : RegionValue) (old new : StoreValue D) (before after : Option History) (s : Source) (end : ℕ) → Beside (fetch_claims (stage.Reading region)) old new before after → IsClaimedTo region.from end s → KnowsSource old.instances.known s → LeavesSource old new before after s
unfolding LeavesSource
source_left region old new before after (source.Mail file) end b claimed known = tt
source_left region old new before after (source.Instance row) end b claimed known = instance_left (fetch_claims (stage.Reading region)) old new before after row b claimed known

still_known : {D : Type 0} → (old new : StoreValue D) (before after : Option History) (s : Source) → LeavesSource old new before after s → KnowsSource new.instances.known s
unfolding LeavesSource
still_known old new before after (source.Mail file) left = tt
still_known old new before after (source.Instance row) left = left.known

parts_left : {D : Type 0} → (region : RegionValue) (old new : StoreValue D) (before after : Option History) → Beside (fetch_claims (stage.Reading region)) old new before after → IsReadyToRead region old → All (λ part. LeavesSource old new before after part.source) region.left
parts_left region old new before after b ready = λ i d lt. let part = get_or region.left i d in source_left region old new before after part.source (part.offset + part.size) b (ready.parts i d lt) (ready.left i d lt)

-- Of a file that it is to remove.
own_removal : (file : ℕ) → 1 ≤ claims_of_removal file (Removing file)
own_removal file = let e : claims_of_removal file (Removing file) ≡ 1 = ap one_if (eq-eqb file file refl) in omega (arith, e)

none_within : (file : ℕ) (rows : List MapRecord) → AreElsewhere file rows → filter (λ row. row.file == file) (map but_count rows) ≡ []
none_within file [] h = refl
none_within file (row ∷ rows) h =
    ap (λ (b : Bool). cond b (but_count row ∷ filter (λ (r : MapRecord). r.file == file) (map but_count rows)) (filter (λ (r : MapRecord). r.file == file) (map but_count rows))) (ne_eqb row.file file (All-head (λ (r : MapRecord). r.file ≢ file) row rows h))
    ∙ none_within file rows (All-tail (λ (r : MapRecord). r.file ≢ file) row rows h)

elsewhere_by : (file : ℕ) (rows : List MapRecord) → filter (λ row. row.file == file) (map but_count rows) ≡ [] → AreElsewhere file rows
elsewhere_by file [] e = All-nil (λ (r : MapRecord). r.file ≢ file)
elsewhere_by file (row ∷ rows) e = by_test (row.file == file) refl (elsewhere_by file rows)
  where
    by_test : (b : Bool) → (row.file == file) ≡ b → (filter (λ (r : MapRecord). r.file == file) (map but_count rows) ≡ [] → AreElsewhere file rows) → AreElsewhere file (row ∷ rows)
    by_test true t rest =
        absurd (let k : but_count row ∷ filter (λ (r : MapRecord). r.file == file) (map but_count rows) ≡ [] =
        sym (ap (λ (b : Bool). cond b (but_count row ∷ filter (λ (r : MapRecord). r.file == file) (map but_count rows)) (filter (λ (r : MapRecord). r.file == file) (map but_count rows))) t) ∙ e in cc k)
    by_test false t rest =
        All-cons (λ (r : MapRecord). r.file ≢ file) row rows (λ same. let k : true ≡ false = sym (eq-eqb row.file file same) ∙ t in cc k)
        (rest (sym (ap (λ (b : Bool). cond b (but_count row ∷ filter (λ (r : MapRecord). r.file == file) (map but_count rows)) (filter (λ (r : MapRecord). r.file == file) (map but_count rows))) t) ∙ e))

both_are : (a b : Bool) → (a && b) ≡ true → (a ≡ true) × (b ≡ true)
both_are true b e = (refl, e)
both_are false b e = absurd (let k : false ≡ true = e in cc k)

removable_left : {D : Type 0} → (file : ℕ) (old new : StoreValue D) (before after : Option History) → Beside (claims_of_removal file) old new before after → CanRemove file old → CanRemove file new
removable_left file old new before after b can =
    let left = removing_left (claims_of_removal file) old new before after file b (own_removal file) in
    let is = both_are (is_doomed_in file new.files.files) (pins_in file new.files.files == 0) left.1 in
    record {
      doomed = is.0;
      unpinned = eqb-true (pins_in file new.files.files) 0 is.1;
      elsewhere = elsewhere_by file new.map.records (left.0.records ∙ none_within file old.map.records can.elsewhere);
    }

pub fetch_stable : {D : Type 0} → (now : FetchStage) → IsStable {D = D} (fetch_claims now) (λ store history. IsReadyToFetch now store)
fetch_stable stage.First old new before after b ready = tt
fetch_stable (stage.Unpinning from given) old new before after b ready = own_left from old new before after b ready
fetch_stable (stage.Removing file given) old new before after b ready = removable_left file.0 old new before after b ready
fetch_stable (stage.Reading region) old new before after b ready = record {
  parts = ready.parts;
  left = λ i d lt. still_known old new before after (get_or region.left i d).source (parts_left region old new before after b ready i d lt);
  own = own_left region.from old new before after b ready.own;
}

-- ---- what the disk stores

-- what a file has there is the beginning of what it has then
abbrev Grows : Files → Files → ℕ → Type 0
Grows a b number = (there : List ℕ) → a (Mail number) ≡ Some there → (more : List ℕ) × (b (Mail number) ≡ Some (there ++ more))

abbrev SameInstance : Files → Files → InstRow → Type 0
SameInstance a b row = b (instance_file row) ≡ a (instance_file row)

SameSource : Files → Files → Source → Type 0
SameSource a b (source.Mail file) = Unit {0}
SameSource a b (source.Instance row) = SameInstance a b row

-- the message's file, as it is and as it was
record HasGrown (from : StoredAt) (a b : Files) : Type 0 where
  pub there : List ℕ
  pub more : List ℕ
  pub was : a (Mail from.file.0) ≡ Some there
  pub is : b (Mail from.file.0) ≡ Some (there ++ more)
  pub inside : from.offset + from.size ≤ length there

mail_same : (from : StoredAt) (a b : Files) (file : FileNo) (offset size : ℕ) → HasGrown from a b → file ≡ from.file → offset + size ≤ from.offset + from.size → piece_read offset size (b (Mail file.0)) ≡ piece_read offset size (a (Mail file.0))
mail_same from a b file offset size g same within =
    let was : a (Mail file.0) ≡ Some g.there = subst (λ (f : FileNo). a (Mail f.0) ≡ Some g.there) (sym same) g.was in
    let is : b (Mail file.0) ≡ Some (g.there ++ g.more) = subst (λ (f : FileNo). b (Mail f.0) ≡ Some (g.there ++ g.more)) (sym same) g.is in
    let inside = g.inside in
    ap (piece_read offset size) is ∙ (part_behind size offset g.there g.more (omega (arith, inside, within)) ∙ sym (ap (piece_read offset size) was))

source_same : (from : StoredAt) (a b : Files) (s : Source) (offset size : ℕ) → HasGrown from a b → IsClaimedTo from (offset + size) s → SameSource a b s → piece_read offset size (b (source_file s)) ≡ piece_read offset size (a (source_file s))
unfolding SameSource
source_same from a b (source.Mail file) offset size g claimed same = mail_same from a b file offset size g claimed.0 claimed.1
source_same from a b (source.Instance row) offset size g claimed same = ap (piece_read offset size) same

parts_same : (from : StoredAt) (a b : Files) (parts : List Part) → HasGrown from a b → All (IsClaimedPart from) parts → All (λ part. SameSource a b part.source) parts → parts_read b parts ≡ parts_read a parts
parts_same from a b [] g claimed same = refl
parts_same from a b (p ∷ ps) g claimed same =
    ap (λ (xs : List ℕ). xs ++ parts_read b ps) (source_same from a b p.source p.offset p.size g (All-head (IsClaimedPart from) p ps claimed) (All-head (λ (part : Part). SameSource a b part.source) p ps same))
    ∙ ap (λ (xs : List ℕ). part_read a p ++ xs) (parts_same from a b ps g (All-tail (IsClaimedPart from) p ps claimed) (All-tail (λ (part : Part). SameSource a b part.source) p ps same))

rows_same : (a b : Files) (rows : List InstRow) → All (SameInstance a b) rows → parts_read b (map instance_part rows) ≡ parts_read a (map instance_part rows)
rows_same a b [] same = refl
rows_same a b (r ∷ rs) same =
    ap (λ (xs : List ℕ). xs ++ parts_read b (map instance_part rs)) (ap (piece_read 0 r.size) (All-head (SameInstance a b) r rs same))
    ∙ ap (λ (xs : List ℕ). part_read a (instance_part r) ++ xs) (rows_same a b rs (All-tail (SameInstance a b) r rs same))

all_same : (from : StoredAt) (a b : Files) → HasGrown from a b → All (SameInstance a b) from.instances → parts_read b (parts_to_read from) ≡ parts_read a (parts_to_read from)
all_same from a b g same =
    reads_of_parts b from
    ∙ (ap (λ (xs : List ℕ). xs ++ parts_read b (map instance_part from.instances)) (mail_same from a b from.file from.offset from.size g refl (omega arith))
    ∙ (ap (λ (xs : List ℕ). part_read a (region_part from) ++ xs) (rows_same a b from.instances same) ∙ sym (reads_of_parts a from)))

-- the region has the octets that it had
region_grown : (a b : Files) (entry : MapRecord) (octets : List ℕ) → Grows a b entry.file → HasRegionOctets a entry octets → HasRegionOctets b entry octets
region_grown a b entry octets grows h =
    let g = grows h.there h.in_file in
    let inside = h.inside in
    record { there = h.there ++ g.0; in_file = g.1; inside = (let long = length-append h.there g.0 in omega (arith, inside, long)); same = part_behind entry.size entry.offset h.there g.0 h.inside ∙ h.same }

front_left : (region : RegionValue) (octets : List ℕ) (a b : Files) → Grows a b region.from.file.0 → All (SameInstance a b) region.from.instances → All (IsClaimedPart region.from) region.left → All (λ part. SameSource a b part.source) region.left
    → IsFrontOfStored region octets a → IsFrontOfStored region octets b
front_left region octets a b grows same claimed left f =
    let entry = f.entry in
    let grown : Grows a b entry.file = subst (λ (s : StoredAt). Grows a b s.file.0) f.from grows in
    let rows : All (SameInstance a b) entry.instances = subst (λ (s : StoredAt). All (SameInstance a b) s.instances) f.from same in
    let there : List ℕ = f.stores.stored.octets_there in
    let was : a (Mail region.from.file.0) ≡ Some there = subst (λ (s : StoredAt). a (Mail s.file.0) ≡ Some there) (sym f.from) f.stores.stored.there in
    let inside : region.from.offset + region.from.size ≤ length there = subst (λ (s : StoredAt). s.offset + s.size ≤ length there) (sym f.from) f.stores.stored.inside in
    let more = grows there was in
    let g : HasGrown region.from a b = record { there = there; more = more.0; was = was; is = more.1; inside = inside } in
    let keeps : KeepsRow a b entry entry = record { guid = refl; size = refl; instances = refl; region = λ own h. region_grown a b entry own grown h; same = λ i d lt own is. rows i d lt ∙ is } in
    record {
      row = f.row;
      entry = entry;
      from = f.from;
      listed = f.listed;
      stores = stores_on a b entry entry octets keeps f.stores;
      sizes = λ i d lt. let w = f.sizes i d lt in record { octets = w.octets; there = rows i d lt ∙ w.there; size = w.size };
      front = ap (λ (xs : List ℕ). region.octets ++ xs) (parts_same region.from a b region.left g claimed left) ∙ (f.front ∙ sym (all_same region.from a b g same));
    }

reads_alike : {D : Type 0} → (old new : StoreValue D) (a b : History) (s : Source) → LeavesSource old new (Some a) (Some b) s → SameSource (files_of a.now) (files_of b.now) s
unfolding LeavesSource SameSource
reads_alike old new a b (source.Mail file) left = tt
reads_alike old new a b (source.Instance row) left = left.reads

reads_stay : {D : Type 0} → (region : RegionValue) (octets : List ℕ) (old new : StoreValue D) (before after : Option History) → Beside (fetch_claims (stage.Reading region)) old new before after → IsReadyToRead region old
    → Reading (IsFrontOfStored region octets) before → Reading (IsFrontOfStored region octets) after
reads_stay region octets old new None after b ready f = absurd f
reads_stay region octets old new (Some was) None b ready f = absurd b.leaves.told
reads_stay region octets old new (Some was) (Some is) b ready f =
    front_left region octets (files_of was.now) (files_of is.now)
    ((pinned_left (fetch_claims (stage.Reading region)) old new (Some was) (Some is) region.from.file.0 b (own_pin region.from.file.0)).0.reads)
    (λ i d lt. (rows_left region.from old new (Some was) (Some is) b ready.own.known i d lt).reads)
    ready.parts
    (λ i d lt. reads_alike old new was is (get_or region.left i d).source (parts_left region old new (Some was) (Some is) b ready i d lt))
    f

pub stored_stable : {D : Type 0} → (now : FetchStage) (octets : List ℕ) → IsStable {D = D} (fetch_claims now) (λ store history. IsReadyToFetch now store × ReadsStored now octets history)
stored_stable stage.First octets old new before after b ready = (tt, tt)
stored_stable (stage.Unpinning from given) octets old new before after b ready = (fetch_stable (stage.Unpinning from given) old new before after b ready.0, tt)
stored_stable (stage.Removing file given) octets old new before after b ready = (fetch_stable (stage.Removing file given) old new before after b ready.0, tt)
stored_stable (stage.Reading region) octets old new before after b ready = (fetch_stable (stage.Reading region) old new before after b ready.0, reads_stay region octets old new before after b ready.0 ready.1)

-- ---- how much it claims

pub claims_few : {D : Type 0} → (now : FetchStage) (store : StoreValue D) (id : InstId) → IsReadyToFetch now store → fetch_claims now (Held id) ≤ 65535
claims_few stage.First store id ready = omega arith
claims_few (stage.Reading region) store id ready = let few = holds_few region.from.instances id in let most = ready.own.few in omega (arith, few, most)
claims_few (stage.Removing file given) store id ready = omega arith
claims_few (stage.Unpinning from given) store id ready = let few = holds_few from.instances id in let most = ready.few in omega (arith, few, most)

one_at_most : (b : Bool) → (if b then 1 else 0) ≤ 1
one_at_most true = omega arith
one_at_most false = omega arith

pub claims_one_pin : (now : FetchStage) (file : ℕ) → fetch_claims now (Pinned file) ≤ 1
claims_one_pin stage.First file = omega arith
claims_one_pin (stage.Reading region) file = one_at_most (region.from.file.0 == file)
claims_one_pin (stage.Removing removed given) file = omega arith
claims_one_pin (stage.Unpinning from given) file = one_at_most (from.file.0 == file)

-- ---- where it stands

pub stay_beside : {D : Type 0} → (now : FetchStage) (old new : StoreValue D) (before later : Option History) (faults : Faults) (run : Run) (event : RunEvent) (place : ℕ) (said : List Reply) → event.request ≢ place → (new.stopped ≡ false → old.stopped ≡ false)
    → (new.stopped ≡ false → Beside (fetch_claims now) old new before later × IsReadyToFetch now old × HasComeTo (and_then run event) (seen_in new later faults)) → (new.stopped ≡ true → SparesFile now event)
    → IsAtFetch now old.stopped before run place said → IsAtFetch now new.stopped later (and_then run event) place said
stay_beside stage.First old new before later faults run event place said other ran beside spares stood = (own_other place run event (ne_eqb event.request place other) ∙ stood.0, stood.1)
stay_beside (stage.Reading region) old new before later faults run event place said other ran beside spares stood = (
  subst (HasReadAllBut region.from (pieces_left region.left)) (sym (own_other place run event (ne_eqb event.request place other))) stood.0,
  (stood.1.0, stood.1.1, λ runs. let b = beside runs in reads_stay region stood.1.0 old new before later b.0 b.1 (stood.1.2 (ran runs))),
)
stay_beside (stage.Unpinning from given) old new before later faults run event place said other ran beside spares stood =
    (subst (UnpinsNext from given) (sym (own_other place run event (ne_eqb event.request place other))) stood.0, stood.1)
stay_beside (stage.Removing file given) old new before later faults run event place said other ran beside spares stood =
    (subst (RemovesNext file.0 given) (sym (own_other place run event (ne_eqb event.request place other))) stood.0, by_stop new.stopped refl, stood.2)
  where
    still_own : PinsFile file.0 (own_events place (and_then run event))
    still_own = subst (PinsFile file.0) (sym (own_other place run event (ne_eqb event.request place other))) (removes_pins file.0 given (own_events place run) stood.0)

    by_stop : (b : Bool) → new.stopped ≡ b → leaves_doomed place (and_then run event) ≡ true
    by_stop true stopped = let s = spares stopped in leaves_still run event place file.0 (removes_pins file.0 given (own_events place run) stood.0) other s.0 s.1 stood.1
    by_stop false runs =
        let b = beside runs in
        let can = removable_left file.0 old new before later b.0 b.1 in
        leaves_is place (and_then run event) file.0 still_own
        ∙ (ap (λ (d : Bool). d && not (is_pinned (and_then run event) file.0)) ((b.2.keeps runs).doomed file.0 ∙ can.doomed) ∙ ap (λ (d : Bool). not d) (pinned_as (and_then run event) (seen_in new later faults) file.0 b.2 runs ∙ ap (λ (n : ℕ). nat_lt 0 n) can.unpinned))
