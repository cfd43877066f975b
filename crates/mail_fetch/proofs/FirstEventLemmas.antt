-- The message that the first event pins.
use Rattle.mail_fetch.proofs.Common.{inr, ◌⊎◌, ◌≡◌, ◌≤◌, ◌==◌, ◌||◌, ℕ, Bool, true, false, cond, List, [], ◌∷◌, All, refl, Option, Some, None, sym, ◌∙◌, ap, subst, arith, if◌then◌else◌, is_some, list_any, option_map, option_map_or, eq-eqb, All-contains, History, FileNo, LogRow, BoxMeaning, row_at}
use Rattle.mail_fetch.proofs.Common.{MapRecord, MapMeaning, record_at, found_one, end_in, IsStore, IsKnownRow, StoreValue, fetch_refusal, IsPinned, RegionValue, stored_at, HasPieceLeft, StoredAt}
use Rattle.std.specs.Prelude.{find, Result, Ok, Err, IfOk, IsErrAnd, MatchResult}
use Rattle.mdbox_base.specs.declared.replies.Refusal.TheVariants as refusal
use Rattle.model_meaning.specs.MapMeaning.{map_meaning}
use Rattle.model_meaning.specs.Sound.{IsSoundRecord}
use Rattle.model_store.specs.Listing.{meaning_named}
use Rattle.model_store.specs.Opening.{HasItsRecord}
use Rattle.store_core.specs.StoreInstances.{HasKnownInstances}
use Rattle.store_core.specs.Value.{list_named}
use Rattle.mail_fetch.specs.Events.{IsAbsent}
use Rattle.mail_fetch.specs.Region.{unread}
use Rattle.mail_fetch.specs.declared.task.FetchStage.TheVariants as stage
use Rattle.mail_fetch.proofs.InstanceLemmas.{named_each}
use Rattle.mail_fetch.proofs.PartLemmas.{octets_of_parts, pieces_of_parts, some_piece}
use Rattle.mail_fetch.proofs.RecordLemmas.{row_has_record}
use Rattle.mail_fetch.proofs.StepLemmas.{store_is_sound}

-- each row of a mailbox of an open store has its record
pub has_record : {D : Type 0} → (history : Option History) (store : StoreValue D) (name : List ℕ) (uid : ℕ) (m : BoxMeaning) (row : LogRow) → IsStore history store → list_named store name ≡ Some m → row_at m uid ≡ Some row → HasItsRecord store.map row
has_record history store name uid m row s named found =
    subst (λ (map_is : MapMeaning). HasItsRecord map_is row) (sym s.map_is)
    (row_has_record (map_meaning store.map.store s.entries) name uid store.map.boxes s.logs m row s.good.records (sym (ap (λ (ms : List BoxMeaning). meaning_named name store.map.boxes ms) s.boxes_are) ∙ named) found)

-- A message has a piece at least, since a record has an octet at least.
pub pinned_left : {D : Type 0} → (history : Option History) (store : StoreValue D) (name : List ℕ) (uid : ℕ) (region : RegionValue) → IsStore history store → IsPinned name uid store region → HasPieceLeft (stage.Reading region)
pinned_left history store name uid region s (row, entry, stored, is) =
    let size : 1 ≤ entry.size = (All-contains (IsSoundRecord store.map.highest.map) store.map.records entry (store_is_sound history store s).records (found_one (λ (r : MapRecord). r.uid == row.map_uid) store.map.records entry stored.stored).0).size in
    let one = some_piece entry.size size in
    let many = pieces_of_parts (stored_at row entry) in
    subst (λ (r : RegionValue). HasPieceLeft (stage.Reading r)) (sym is) (omega (arith, one, many), octets_of_parts (stored_at row entry))

-- The store knows its instances, and its file has a region: what the pin and the holds ask.
pub pinned_rows : {D : Type 0} → (history : Option History) (store : StoreValue D) (name : List ℕ) (uid : ℕ) (region : RegionValue) → HasKnownInstances history store → IsPinned name uid store region → All (IsKnownRow store.instances.known) region.from.instances
pinned_rows history store name uid region k (row, entry, stored, is) =
    subst (λ (r : RegionValue). All (IsKnownRow store.instances.known) r.from.instances) (sym is) (named_each (IsKnownRow store.instances.known) store.map row.map_uid entry stored.stored k.kept.named)

found_any : {X : Type 0} → (p q : X → Bool) (xs : List X) (x : X) → find p xs ≡ Some x → q x ≡ true → list_any q xs ≡ true
found_any p q [] x e t = absurd (let k : None ≡ Some x = e in cc k)
found_any p q (y ∷ ys) x e t = by_test (p y) (q y) e refl (λ k. found_any p q ys x k t)
  where
    by_test : (b c : Bool) → cond b (Some y) (find p ys) ≡ Some x → q y ≡ c → (find p ys ≡ Some x → list_any q ys ≡ true) → (c || list_any q ys) ≡ true
    by_test true true e c rest = refl
    by_test true false e c rest = absurd (let same : y ≡ x = cc e in let k : true ≡ false = sym t ∙ (ap q (sym same) ∙ c) in cc k)
    by_test false true e c rest = refl
    by_test false false e c rest = rest e

pub pinned_region : {D : Type 0} → (store : StoreValue D) (name : List ℕ) (uid : ℕ) (region : RegionValue) → IsPinned name uid store region → list_any (λ row. row.file == region.from.file.0) store.map.records ≡ true
pinned_region store name uid region (row, entry, stored, is) =
    subst (λ (r : RegionValue). list_any (λ row. row.file == r.from.file.0) store.map.records ≡ true) (sym is)
    (found_any (λ (r : MapRecord). r.uid == row.map_uid) (λ (r : MapRecord). r.file == entry.file) store.map.records entry stored.stored (eq-eqb entry.file entry.file refl))

-- ---- what the map tells of a record

-- it tells of each record
pub none_told : {X : Type 0} → (m map_is : MapMeaning) (uid : ℕ) (f : MapRecord → X) (entry : MapRecord) (told : Option X) → m ≡ map_is → record_at map_is uid ≡ Some entry → told ≡ option_map f (record_at m uid) → told ≡ None → ⊥
none_told m map_is uid f entry told same there is none = let k : None ≡ Some (f entry) = sym none ∙ (is ∙ (ap (λ (k : MapMeaning). option_map f (record_at k uid)) same ∙ ap (option_map f) there)) in cc k

pub told_is : {X : Type 0} → (m map_is : MapMeaning) (uid : ℕ) (f : MapRecord → X) (entry : MapRecord) (told : Option X) (x : X) → m ≡ map_is → record_at map_is uid ≡ Some entry → told ≡ option_map f (record_at m uid) → told ≡ Some x → x ≡ f entry
told_is m map_is uid f entry told x same there is some = let k : Some x ≡ Some (f entry) = sym some ∙ (is ∙ (ap (λ (k : MapMeaning). option_map f (record_at k uid)) same ∙ ap (option_map f) there)) in cc k

pub stored_same : {X Y : Type 0} → (x told : X) (y given : Y) (row : LogRow) (entry : MapRecord) (make : X → Y → StoredAt) → x ≡ told → y ≡ given → make told given ≡ stored_at row entry → make x y ≡ stored_at row entry
stored_same x told y given row entry make e h is = ap (λ z. make z y) e ∙ (ap (make told) h ∙ is)

-- ---- the first event

pub pinned_by : {D : Type 0} → (store : StoreValue D) (name : List ℕ) (uid : ℕ) (m : BoxMeaning) (row : LogRow) (entry : MapRecord) (from : StoredAt) (region : RegionValue) → store.stopped ≡ false → list_named store name ≡ Some m → row_at m uid ≡ Some row → record_at store.map row.map_uid ≡ Some entry → entry.guid ≡ row.guid
    → from ≡ stored_at row entry → region ≡ unread from → (fetch_refusal name uid store ≡ None) × IsPinned name uid store region
pinned_by store name uid m row entry from region runs named listed stored same from_is region_is = (
  ap (λ (t : Bool). cond t (Some refusal.Stopped) (option_map_or (λ (k : BoxMeaning). if is_some (row_at k uid) then None else Some refusal.NoMessage) (list_named store name) (Some refusal.NoMailbox))) runs
      ∙ (ap (λ (p : Option BoxMeaning). option_map_or (λ (k : BoxMeaning). if is_some (row_at k uid) then None else Some refusal.NoMessage) p (Some refusal.NoMailbox)) named ∙ ap (λ (r : Option LogRow). if is_some r then None else Some refusal.NoMessage) listed),
  (row, entry, record { mailbox = m; named = named; listed = listed; stored = stored; same = same }, region_is ∙ ap unread from_is),
)

-- ---- a file that isn't there

no_end : (found end : Option ℕ) → is_some found ≡ false → found ≡ end → end ≡ None
no_end None end none is = sym is
no_end (Some n) end none is = absurd (let k : true ≡ false = none in cc k)

pub some_end : (found end : Option ℕ) → is_some found ≡ true → found ≡ end → (n : ℕ) × (end ≡ Some n)
some_end None end some is = absurd (let k : false ≡ true = some in cc k)
some_end (Some n) end some is = (n, sym is)

pub absent_by : {D X : Type 0} → (store : StoreValue D) (name : List ℕ) (uid : ℕ) (m : BoxMeaning) (row : LogRow) (entry : MapRecord) (x told : X) (file_of : X → FileNo) (offset_of : X → ℕ) (offset : ℕ) (found : Option ℕ) → store.stopped ≡ false → list_named store name ≡ Some m → row_at m uid ≡ Some row
    → record_at store.map row.map_uid ≡ Some entry → entry.guid ≡ row.guid → x ≡ told → file_of told ≡ record { 0 = entry.file } → offset_of told ≡ entry.offset → offset ≡ offset_of x → is_some found ≡ false → found ≡ end_in (file_of x).0 store.files.files
    → (fetch_refusal name uid store ≡ Some (refusal.Damaged (file_of x) offset)) ⊎ ((fetch_refusal name uid store ≡ None) × ((refusal.Damaged (file_of x) offset ≡ refusal.NoMemory) ⊎ IsAbsent name uid store (refusal.Damaged (file_of x) offset)))
absent_by store name uid m row entry x told file_of offset_of offset found runs named listed stored same is file at at_x none end =
    let file_is : file_of x ≡ record { 0 = entry.file } = ap file_of is ∙ file in
    let offset_is : offset ≡ entry.offset = at_x ∙ (ap offset_of is ∙ at) in
    let gone : end_in entry.file store.files.files ≡ None = ap (λ (f : FileNo). end_in f.0 store.files.files) (sym file_is) ∙ no_end found (end_in (file_of x).0 store.files.files) none end in
    inr (
      (pinned_by store name uid m row entry (stored_at row entry) (unread (stored_at row entry)) runs named listed stored same refl refl).0,
      inr (row, entry, record { mailbox = m; named = named; listed = listed; stored = stored; same = same }, gone, ap (λ (f : FileNo). refusal.Damaged f offset) file_is ∙ ap (λ (n : ℕ). refusal.Damaged (record { 0 = entry.file }) n) offset_is),
    )

-- what holds of a value holds of the same value beside another error
pub ok_mapped : {X E F : Type 0} → (from : Result X E) (to : Result X F) (P R : X → Type 0) (Q : E → F → Type 0) → MatchResult from (λ x. to ≡ Ok x) (λ e. IsErrAnd to (Q e)) → IfOk from P → ((x : X) → P x → R x) → IfOk to R
ok_mapped (Ok x) to P R Q m h f = subst (λ r. IfOk r R) (sym m) (f x h)
ok_mapped (Err e) (Ok y) P R Q m h f = absurd m
ok_mapped (Err e) (Err k) P R Q m h f = tt
