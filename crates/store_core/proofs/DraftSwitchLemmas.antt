-- A switch to a draft in three steps: its sync, the entry that names it, and the removal of the old log.
use Rattle.store_core.proofs.Common.{◌⊎◌, inl, inr, ◌≡◌, ◌≢◌, ◌<◌, ◌≤◌, ◌+◌, ◌-◌, ◌==◌, ℕ, Bool, true, false, if◌then◌else◌, List, [], ◌∷◌, map, find, Option, Some, None, All, refl, sym, ◌∙◌, ap, subst, arith, All-head, All-tail, All-cons, All-nil, All-contains, sum_by, count_by, sum_by-cons}
use Rattle.store_core.proofs.Common.{DiskState, History, IfTold, Between, between-on, SameButFor, FileName, named, each_image-map, OthersAreNamed, BoxEntry, BoxNo, Lists, LogRow, BoxMeaning, rows_after, MapBox, MapRecord, MapMeaning, map_applied, HasItsRecord, IsAccounted, Safe, files_of, Leaves, KeepsStored, StoresMessage, FileState}
use Rattle.store_core.proofs.Common.{LogState, Reads, IsStore, StoreValue, OpenBox, slice_set, indexes_of, list_numbered, no_file, NamedButFor, option_map, listed_of, number_beside, due_at, leak_at, listed_at, equal_is, ne_eqb, eq-eqb, bit, false≢true, cases_Bool, cond-true, cond-false, same_name-apart, same_name-true}
use Rattle.std.proofs.Common.{Result, Ok, Err, OnOk, IsErr}
use Rattle.std.specs.List.{AllByRecursion}
use Rattle.disk_model.proofs.BetweenLemmas.{between-then}
use Rattle.disk_model.proofs.MomentLemmas.{each_image-then}
use Rattle.disk_model.specs.Name.{same_name}
use Rattle.disk_model.specs.declared.name.FileName.TheVariants as file
use Rattle.mdbox_base.specs.declared.entries.MapEntry.TheVariants as entry
use Rattle.model_lists.specs.Lists.{ListedMessage}
use Rattle.model_meaning.proofs.AppliedLemmas.{boxes_by_generation, records_by_generation}
use Rattle.model_meaning.specs.MapMeaning.{box_at, box_changed}
use Rattle.model_store.specs.Stands.{AreListed}
use Rattle.store_core.specs.Drafts.{AreNamedButFor, BoxDraftValue, GivesLists, IsBoxDraft, IsHeldDraft, IsNewer, IsOutOfForce, ListsMessages, listed_with}
use Rattle.store_core.proofs.BoxAppendLemmas.{store_sound}
use Rattle.store_core.proofs.DueLemmas.{store_counts}
use Rattle.store_core.proofs.MapAppendLemmas.{listed_there}
use Rattle.store_core.proofs.MapDueLemmas.{leak_is, no_leak}
use Rattle.model_rewritten.specs.Switched.{list_switched, log_switched}
use Rattle.store_core.proofs.PutInForceLemmas.{CanSwitch, indexes_then, listed_then, switching}
use Rattle.store_core.proofs.UnneededLogLemmas.{besides, named_but, reads_beside}
use Rattle.model_octets.proofs.SearchLemmas.{found_one}

-- ---- what crashes leave

pub leaves_only : (lists after : Lists) (old new : Option History) → Leaves lists lists old new → Leaves lists after old new
leaves_only lists after old new l = each_image-map (λ _ image. Safe image lists ⊎ Safe image lists) (λ _ image. Safe image lists ⊎ Safe image after) old new (λ moment image s. elim s [ inl x ↦ inl x | inr x ↦ inl x ]) l

pub leaves_first : (lists after : Lists) (old now new : Option History) → Leaves lists lists old now → Leaves lists after now new → Leaves lists after old new
leaves_first lists after old now new first second = each_image-then (λ _ image. Safe image lists ⊎ Safe image after) old now new (leaves_only lists after old now first) second

pub leaves_last : (lists after : Lists) (old now new : Option History) → Leaves lists after old now → Leaves after after now new → Leaves lists after old new
leaves_last lists after old now new first second =
    each_image-then (λ _ image. Safe image lists ⊎ Safe image after) old now new first
    (each_image-map (λ _ image. Safe image after ⊎ Safe image after) (λ _ image. Safe image lists ⊎ Safe image after) now new (λ moment image s. elim s [ inl x ↦ inr x | inr x ↦ inr x ]) second)

-- ---- what is stored, and what is listed of it

abbrev StoresAll : DiskState → DiskState → Type 0
StoresAll a b = (row : MapRecord) (octets : List ℕ) → StoresMessage (files_of a) row octets → StoresMessage (files_of b) row octets

pub stored_on : (old now new : Option History) → KeepsStored old now → KeepsStored now new → KeepsStored old new
stored_on old now new first second = between-then StoresAll StoresAll StoresAll old now new (λ a b c f g row octets s. g row octets (f row octets s)) first second

listed_kept : (a b : DiskState) (m : MapMeaning) (rows : List LogRow) (messages : List ListedMessage) → StoresAll a b → AreListed (files_of a) m rows messages → AreListed (files_of b) m rows messages
listed_kept a b m [] [] keeps l = tt
listed_kept a b m [] (x ∷ xs) keeps l = absurd l
listed_kept a b m (row ∷ rows) [] keeps l = absurd l
listed_kept a b m (row ∷ rows) (x ∷ xs) keeps l =
    let o = l.0 in
    (record { uid = o.uid; flags = o.flags; time = o.time; guid = o.guid; size = o.size; words = o.words; entry = o.entry; found = o.found; same = o.same; octets = keeps o.entry x.octets o.octets }, listed_kept a b m rows xs keeps l.1)

pub messages_kept : (draft : BoxDraftValue) (m : MapMeaning) (messages : List ListedMessage) (old new : Option History) → KeepsStored old new → ListsMessages draft m messages old → ListsMessages draft m messages new
messages_kept draft m messages old new keeps l =
    between-on StoresAll (λ now. AreListed (files_of now) m draft.index.meaning.rows messages) (λ now. AreListed (files_of now) m draft.index.meaning.rows messages) old new (λ a b k h. listed_kept a b m draft.index.meaning.rows messages k h) keeps l

-- ---- the other files

abbrev Same : FileName → DiskState → DiskState → Type 0
Same name a b = (other : FileName) → other ≢ name → b other ≡ a other

abbrev Named : FileName → DiskState → DiskState → Type 0
Named name a b = (other : FileName) → other ≢ name → b other ≡ named (a other)

pub others_named : (map_log old_log draft : FileName) (old settled put new : Option History) → SameButFor draft old settled → SameButFor map_log settled put → OthersAreNamed old_log put new → Between (AreNamedButFor map_log old_log draft) old new
others_named map_log old_log draft old settled put new first second third =
    between-then (Same draft) (λ a b. (other : FileName) → other ≢ map_log → other ≢ old_log → b other ≡ named (a other)) (AreNamedButFor map_log old_log draft) old settled new
    (λ a b c f g other one two three. g other one two ∙ ap named (f other three)) first
    (between-then (Same map_log) (Named old_log) (λ a b. (other : FileName) → other ≢ map_log → other ≢ old_log → b other ≡ named (a other)) settled put new (λ a b c f g other one two. g other two ∙ ap named (f other one)) second third)

-- ---- the old log

out_each : (k : BoxNo) (g old : ℕ) (boxes : List MapBox) → old < g → All (λ b. b.number ≡ k.0 → b.generation ≢ old) (map (box_changed (entry.G k g)) boxes)
out_each k g old [] less = All-nil (λ (b : MapBox). b.number ≡ k.0 → b.generation ≢ old)
out_each k g old (b ∷ bs) less = All-cons (λ (c : MapBox). c.number ≡ k.0 → c.generation ≢ old) (box_changed (entry.G k g) b) (map (box_changed (entry.G k g)) bs) (one (k.0 == b.number) refl) (out_each k g old bs less)
  where
    one : (t : Bool) → (k.0 == b.number) ≡ t → (if t then record b { generation = g } else b).number ≡ k.0 → (if t then record b { generation = g } else b).generation ≢ old
    one true e is same = absurd (omega (arith, less, same))
    one false e is same = absurd (let w : true ≡ false = sym (eq-eqb k.0 b.number (sym is)) ∙ e in cc w)

pub old_is_out : (m : MapMeaning) (k : BoxNo) (g old : ℕ) → old < g → IsOutOfForce k.0 old (map_applied (entry.G k g) m)
old_is_out m k g old less = subst (λ (bs : List MapBox). All (λ (b : MapBox). b.number ≡ k.0 → b.generation ≢ old) bs) (sym (boxes_by_generation k g m.boxes)) (out_each k g old m.boxes less)

-- ---- what leaks

none_in_rows : (m : MapMeaning) (uid : ℕ) (rows : List LogRow) → find (λ r. r.uid == uid) m.records ≡ None → All (HasItsRecord m) rows → count_by (λ row. row.map_uid == uid) rows ≡ 0
none_in_rows m uid [] none h = refl
none_in_rows m uid (row ∷ rows) none h =
    let a = sum_by-cons (λ (x : LogRow). bit (x.map_uid == uid)) row rows in
    let own = All-head (HasItsRecord m) row rows h in
    let b : bit (row.map_uid == uid) ≡ 0 = ap bit (ne_eqb row.map_uid uid (λ (e : row.map_uid ≡ uid).
    let w : None ≡ Some own.0 = sym none ∙ ap (λ (n : ℕ). find (λ (r : MapRecord). r.uid == n) m.records) (sym e) ∙ own.1 in absurd (cc w))) in
    let c = none_in_rows m uid rows none (All-tail (HasItsRecord m) row rows h) in
    omega (arith, a, b, c)

none_listed : (m : MapMeaning) (uid : ℕ) (logs : List (List BoxEntry)) → find (λ r. r.uid == uid) m.records ≡ None → AllByRecursion (λ log. All (HasItsRecord m) (rows_after log)) logs → listed_of logs uid ≡ 0
none_listed m uid [] none h = refl
none_listed m uid (log ∷ logs) none h =
    let a = sum_by-cons (λ (l : List BoxEntry). count_by (λ (row : LogRow). row.map_uid == uid) (rows_after l)) log logs in
    let b = none_in_rows m uid (rows_after log) none h.0 in
    let c = none_listed m uid logs none h.1 in
    omega (arith, a, b, c)

accounted_with : (due leak listed with : ℕ → ℕ) (logs later : List (List BoxEntry)) (rows : List MapRecord) → ((uid : ℕ) → listed uid ≡ listed_of logs uid) → ((uid : ℕ) → with uid ≡ listed_of later uid) → All (IsAccounted due leak logs) rows
    → All (λ row. with row.uid + due row.uid + leak row.uid ≤ row.count) rows → All (IsAccounted due (λ uid. leak uid + listed uid - with uid) later) rows
accounted_with due leak listed with logs later [] same also all enough = All-nil (IsAccounted due (λ uid. leak uid + listed uid - with uid) later)
accounted_with due leak listed with logs later (r ∷ rs) same also all enough = All-cons (IsAccounted due (λ uid. leak uid + listed uid - with uid) later) r rs
    (let a = same r.uid in
    let b = also r.uid in
    let c : r.count ≡ listed_of logs r.uid + due r.uid + leak r.uid = All-head (IsAccounted due leak logs) r rs all in
    let d : with r.uid + due r.uid + leak r.uid ≤ r.count = All-head (λ (row : MapRecord). with row.uid + due row.uid + leak row.uid ≤ row.count) r rs enough in
    omega (arith, a, b, c, d))
    (accounted_with due leak listed with logs later rs same also (All-tail (IsAccounted due leak logs) r rs all) (All-tail (λ (row : MapRecord). with row.uid + due row.uid + leak row.uid ≤ row.count) r rs enough))

-- the leak of a store whose records and dues stay, and which lists what the draft lists
pub leak_with : {D : Type 0} → (h : Option History) (v w : StoreValue D) (draft : BoxDraftValue) (uid : ℕ) → (s : IsStore h v) → (d : IsHeldDraft h draft v) → w.map.records ≡ v.map.records → w.dues ≡ v.dues → listed_at uid w ≡ listed_with draft uid v
    → All (λ row. listed_with draft row.uid v + due_at row.uid v + leak_at row.uid v ≤ row.count) v.map.records → leak_at uid w ≡ leak_at uid v + listed_at uid v - listed_with draft uid v
leak_with h v w draft uid s d records dues listed enough =
    ap (λ (rows : List MapRecord). number_beside uid rows (map (λ row. row.count) rows) - (listed_at uid w + number_beside uid rows w.dues)) records
    ∙ ap (λ (ns : List ℕ). number_beside uid v.map.records (map (λ row. row.count) v.map.records) - (listed_at uid w + number_beside uid v.map.records ns)) dues
    ∙ ap (λ (n : ℕ). number_beside uid v.map.records (map (λ row. row.count) v.map.records) - (n + due_at uid v)) listed
    ∙ leak_is (λ u. due_at u v) (λ u. leak_at u v + listed_at u v - listed_with draft u v) (λ u. listed_with draft u v) later v.map.records uid
    (accounted_with (λ u. due_at u v) (λ u. leak_at u v) (λ u. listed_at u v) (λ u. listed_with draft u v) s.logs later v.map.records (λ u. listed_there h v s u) (λ u. listed_then h v draft u d s)
    (store_counts h v s.logs s (store_sound h v s).rising s.boxes_are) enough)
    (λ u. listed_then h v draft u d s)
    (λ none.
    let a : leak_at uid v ≡ 0 = no_leak uid v.map.records (listed_at uid v + due_at uid v) none in
    let b : listed_of s.logs uid ≡ 0 = none_listed v.map uid s.logs none (subst (λ (m : MapMeaning). AllByRecursion (λ log. All (HasItsRecord m) (rows_after log)) s.logs) (sym s.map_is) s.good.records) in
    let c : listed_at uid v ≡ listed_of s.logs uid = listed_there h v s uid in
    omega (arith, a, b, c))
  where
    later : List (List BoxEntry)
    later = log_switched draft.number.0 d.drafted.entries v.map.boxes s.logs

-- where the draft is in force
pub leak_then : {D : Type 0} → (H : D → Option History) (v now w : StoreValue D) (draft seen : BoxDraftValue) (b : OpenBox) (place uid : ℕ) → v ≡ now → draft ≡ seen → CanSwitch (H v.disk) v draft b place → w.map ≡ map_applied (switching draft) v.map → w.dues ≡ v.dues
    → w.boxes ≡ slice_set v.boxes place b → leak_at uid w ≡ leak_at uid now + listed_at uid now - listed_with seen uid now
leak_then H v now w draft seen b place uid is same c applied dues boxes =
    subst (λ (d : BoxDraftValue). leak_at uid w ≡ leak_at uid now + listed_at uid now - listed_with d uid now) same
    (subst (λ (x : StoreValue _). leak_at uid w ≡ leak_at uid x + listed_at uid x - listed_with draft uid x) is
    (leak_with (H v.disk) v w draft uid c.store c.draft_held (ap (λ (m : MapMeaning). m.records) applied ∙ records_by_generation draft.number draft.generation v.map.records) dues
    (ap (λ (bs : List OpenBox). sum_by (λ m. count_by (λ row. row.map_uid == uid) m.rows) (indexes_of bs)) boxes ∙ ap (λ (ms : List BoxMeaning). sum_by (λ m. count_by (λ row. row.map_uid == uid) m.rows) ms) (indexes_then (H v.disk) v draft b place c)) c.counts))

-- ---- from step to step

-- the store is as it was, but for its disk
abbrev IsAsBefore : {D : Type 0} → StoreValue D → StoreValue D → Type 0
IsAsBefore v w = w ≡ record v { disk = w.disk; stopped = w.stopped }

pub gives_messages : {D : Type 0} → (H : D → Option History) (v w : StoreValue D) (draft : BoxDraftValue) (messages : List ListedMessage) (lists : Lists) → IsAsBefore v w → KeepsStored (H v.disk) (H w.disk) → ListsMessages draft v.map messages (H v.disk)
    → GivesLists draft w (H w.disk) lists (list_switched draft.number.0 draft.index.meaning.next messages lists)
gives_messages H v w draft messages lists same keeps listed =
    inl (messages, messages_kept draft w.map messages (H v.disk) (H w.disk) keeps (subst (λ (m : MapMeaning). ListsMessages draft m messages (H v.disk)) (sym (ap (λ (x : StoreValue _). x.map) same)) listed), refl)

pub gives_same : {D : Type 0} → (H : D → Option History) (v w : StoreValue D) (draft : BoxDraftValue) (lists : Lists) → IsAsBefore v w → list_numbered v draft.number.0 ≡ Some draft.index.meaning → GivesLists draft w (H w.disk) lists lists
gives_same H v w draft lists same means = inr (ap (λ (x : StoreValue _). list_numbered x draft.number.0) same ∙ means, refl)

pub not_ok : {T E : Type 0} → (r : Result T E) (P : Type 0) → IsErr r → OnOk r P
not_ok (Ok x) P is = absurd (false≢true is)
not_ok (Err e) P is = tt

-- the generation of the log in force is an earlier one
pub old_generation : {D : Type 0} → (v : StoreValue D) (draft : BoxDraftValue) (generation : ℕ) → IsNewer draft.number.0 draft.generation v → Some generation ≡ option_map (λ b. b.generation) (box_at v.map draft.number.0) → generation < draft.generation
old_generation v draft generation newer is = by_box (box_at v.map draft.number.0) refl is
  where
    by_box : (o : Option MapBox) → box_at v.map draft.number.0 ≡ o → Some generation ≡ option_map (λ b. b.generation) o → generation < draft.generation
    by_box None found e = absurd (cc e)
    by_box (Some box) found e =
        let there = found_one (λ (b : MapBox). b.number == draft.number.0) v.map.boxes box found in
        let less : box.generation < draft.generation = All-contains (λ (b : MapBox). b.number ≡ draft.number.0 → b.generation < draft.generation) v.map.boxes box newer.later there.0 (equal_is box.number draft.number.0 there.1) in
        let same : generation ≡ box.generation = cc e in
        omega (arith, less, same)

-- the draft is another log
pub draft_apart : {D : Type 0} → (h : Option History) (v : StoreValue D) (draft : BoxDraftValue) (number : BoxNo) (generation : ℕ) → IsBoxDraft h draft v → number ≡ draft.number → Some generation ≡ option_map (λ b. b.generation) (box_at v.map number.0)
    → draft.log.name ≢ file.Box number.0 generation
draft_apart h v draft number generation d same is e =
    let less = old_generation v draft generation d.newer (subst (λ (k : BoxNo). Some generation ≡ option_map (λ b. b.generation) (box_at v.map k.0)) same is) in
    let w : file.Box draft.number.0 draft.generation ≡ file.Box number.0 generation = sym d.name ∙ e in
    let equal : draft.generation ≡ generation = cc w in absurd (omega (arith, less, equal))

-- it is read on where the old one is removed
pub reads_on : (name : FileName) (log : LogState) (texts : List (List ℕ)) (old new : Option History) → NamedButFor name old new → log.name ≢ name → Reads log texts old → Reads log texts new
reads_on name log texts old new others apart r = reads_beside name log texts old new (besides name old new (named_but name old new others)) apart r

pub old_out : {D : Type 0} → (v w : StoreValue D) (draft : BoxDraftValue) (number : BoxNo) (generation : ℕ) → IsNewer draft.number.0 draft.generation v → number ≡ draft.number → Some generation ≡ option_map (λ b. b.generation) (box_at v.map number.0)
    → (m : MapMeaning) → w.map ≡ map_applied (entry.G draft.number draft.generation) m → IsOutOfForce number.0 generation w.map
old_out v w draft number generation newer same is m applied =
    subst (λ (k : BoxNo). IsOutOfForce k.0 generation w.map) (sym same)
    (subst (λ (n : MapMeaning). IsOutOfForce draft.number.0 generation n) (sym applied)
    (old_is_out m draft.number draft.generation generation (old_generation v draft generation newer (subst (λ (k : BoxNo). Some generation ≡ option_map (λ b. b.generation) (box_at v.map k.0)) same is))))

-- its file
pub old_name : (m : MapMeaning) (n number generation : ℕ) (box : MapBox) → number ≡ n → box_at m n ≡ Some box → Some generation ≡ option_map (λ b. b.generation) (box_at m number) → file.Box number generation ≡ file.Box box.number box.generation
old_name m n number generation box same found is =
    let there = found_one (λ (b : MapBox). b.number == n) m.boxes box found in
    let is_number : box.number ≡ n = equal_is box.number n there.1 in
    let e : Some generation ≡ option_map (λ b. b.generation) (Some box) = is ∙ ap (λ (k : ℕ). option_map (λ (b : MapBox). b.generation) (box_at m k)) same ∙ ap (option_map (λ (b : MapBox). b.generation)) found in
    let is_generation : generation ≡ box.generation = cc e in
    ap (λ (k : ℕ). file.Box k generation) (same ∙ sym is_number) ∙ ap (λ (g : ℕ). file.Box box.number g) is_generation

pub gone_as : (name other : FileName) (h : Option History) → name ≡ other → IfTold h (λ now. now name ≡ no_file) → IfTold h (λ now. now other ≡ no_file)
gone_as name other h same gone = subst (λ (n : FileName). IfTold h (λ now. now n ≡ no_file)) same gone

pub others_as : (map_log map_name old_log old_name draft : FileName) (old settled put new : Option History) → map_name ≡ map_log → old_log ≡ old_name → SameButFor draft old settled → SameButFor map_name settled put → NamedButFor old_log put new
    → Between (AreNamedButFor map_log old_name draft) old new
others_as map_log map_name old_log old_name draft old settled put new same also first second third =
    others_named map_log old_name draft old settled put new first (subst (λ (n : FileName). SameButFor n settled put) same second) (subst (λ (n : FileName). OthersAreNamed n put new) also (named_but old_log put new third))

-- ---- names

named_firm : (f : FileState) → (named f).is_name_loose ≡ false
named_firm f = elim (cases_Bool f.is_there) [
  | inl there ↦ ap (λ (g : FileState). g.is_name_loose) (cond-true f.is_there (record f { is_name_loose = false }) no_file there)
  | inr gone ↦ ap (λ (g : FileState). g.is_name_loose) (cond-false f.is_there (record f { is_name_loose = false }) no_file gone)
]

-- where each other file has its name synced, and this one is gone, all names are
pub names_synced : (name : FileName) (old new : Option History) → NamedButFor name old new → IfTold new (λ now. now name ≡ no_file) → IfTold new (λ now. (other : FileName) → (now other).is_name_loose ≡ false)
names_synced name None new others gone = subst (λ (h : Option History). IfTold h (λ now. (other : FileName) → (now other).is_name_loose ≡ false)) (sym others) tt
names_synced name (Some old) None others gone = tt
names_synced name (Some old) (Some new) others gone = λ other. elim (cases_Bool (same_name other name)) [
  | inl same ↦ ap (λ (n : FileName). (new.now n).is_name_loose) (same_name-true other name same) ∙ ap (λ (f : FileState). f.is_name_loose) gone
  | inr apart ↦ ap (λ (f : FileState). f.is_name_loose) (others other (same_name-apart other name apart)) ∙ named_firm (old.now other)
]
