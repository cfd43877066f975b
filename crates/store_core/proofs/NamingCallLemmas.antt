-- A store that names a mailbox, by what the call has at hand.
use Rattle.store_core.proofs.Common.{AllPairs, not, ◌≡◌, ◌≢◌, ◌≤◌, ◌+◌, ◌-◌, ◌==◌, ℕ, false, true, List, [], ◌∷◌, ◌++◌, find, map, slice_index_or, Option, Some, All, refl, sym, ◌∙◌, ap, subst, arith, sum_by, count_by, map-append, All-nil, All-cons, All-append, All-filter, History, SameButFor}
use Rattle.store_core.proofs.Common.{LogState, IsSameLog, Reads, Holds, Highest, MapEntry, BoxNo, map_text, MapInRange, BoxMeaning, box_meaning, MapFits, MapBox, MapRecord, MapMeaning, map_applied, head_of, number_beside, HaveOtherNumbers, IsMadeLog, KeepsMadeLogs, has_made_log, without_box}
use Rattle.store_core.proofs.Common.{IsStore, HasEntryRoom, StoreValue, indexes_of, entry_room, OpenBox}
use Rattle.std.proofs.lemmas.List.Sums.{sum_by-append}
use Rattle.std.proofs.lemmas.List.Kept.{AllPairs-filter}
use Rattle.disk_model.specs.declared.name.FileName.TheVariants as file
use Rattle.mdbox_base.specs.Words.{IsName}
use Rattle.model_logs.specs.declared.log_head.LogKind.TheVariants as kind
use Rattle.store_core.proofs.MadeLogLemmas.{IsHeldBy, apart_from, held_beside, others_left, find_made, found_made}
use Rattle.store_core.proofs.MapAppendLemmas.{prepared, prepared_store}
use Rattle.store_core.proofs.NamingLemmas.{naming, box_named, CanName, one_box_more, store_named}

-- the number is one of 4 octets
pub name_in_range : (m : MapMeaning) (mailbox : BoxNo) (name : List ℕ) → IsName name → MapFits m (naming mailbox name) → MapInRange (naming mailbox name)
name_in_range m mailbox name is fits = (let h = fits.box_number.high in omega (arith, h), omega arith, is)

-- The mailbox can be named of the store in which memory was made.
pub can_name : {D : Type 0} → (h : Option History) (v now : StoreValue D) (log : LogState) (m : MapMeaning) (b : OpenBox) (mailbox : BoxNo) (name : List ℕ) → IsStore h v → KeepsMadeLogs h v → v ≡ now → now.stopped ≡ false → IsName name → MapFits now.map (naming mailbox name)
    → log ≡ record v.map_log { room = log.room } → m ≡ v.map → find (λ o. o.number.0 == mailbox.0) v.made ≡ Some b → CanName h (prepared v log m v.dues) b mailbox name
can_name h v now log m b mailbox name s k is running named fits same_log same_map found =
    let runs : v.stopped ≡ false = ap (λ (x : StoreValue _). x.stopped) is ∙ running in
    let fits_v : MapFits v.map (naming mailbox name) = subst (λ (x : StoreValue _). MapFits x.map (naming mailbox name)) (sym is) fits in
    let one = found_made (IsMadeLog v.map v.drawn) mailbox.0 v.made b found k.are_made in
    record {
      store = prepared_store h v log m v.dues s same_log same_map refl;
      running = runs;
      in_range = name_in_range v.map mailbox name named fits_v;
      fits = subst (λ (x : MapMeaning). MapFits x (naming mailbox name)) (sym same_map) fits_v;
      number = one.1;
      is_made = subst (λ (x : MapMeaning). IsMadeLog x v.drawn b) (sym same_map) one.0;
      held = (found_made (IsHeldBy h) mailbox.0 v.made b found (k.held runs)).0;
    }

-- one of those that were made has the number
pub some_name : {D : Type 0} → (h : Option History) (v now : StoreValue D) (log : LogState) (m : MapMeaning) (mailbox : BoxNo) (name : List ℕ) → IsStore h v → KeepsMadeLogs h v → v ≡ now → now.stopped ≡ false → IsName name → MapFits now.map (naming mailbox name)
    → log ≡ record v.map_log { room = log.room } → m ≡ v.map → has_made_log mailbox.0 now ≡ true → (b : OpenBox) × CanName h (prepared v log m v.dues) b mailbox name
some_name h v now log m mailbox name s k is running named fits same_log same_map has =
    let f = find_made mailbox.0 v.made (subst (λ (x : StoreValue _). has_made_log mailbox.0 x ≡ true) (sym is) has) in
    (f.0, can_name h v now log m f.0 mailbox name s k is running named fits same_log same_map f.1)

pub read_named : {D : Type 0} → (h : Option History) (v : StoreValue D) (b : OpenBox) (mailbox : BoxNo) (name : List ℕ) → CanName h v b mailbox name → (texts : List (List ℕ)) × Reads v.map_log texts h
read_named h v b mailbox name c = (map map_text c.store.entries, (c.store.running c.running).map_log_reads)

-- what an entry adds
abbrev pub AddsRead : LogState → LogState → Option History → Option History → MapEntry → Type 0
AddsRead a b old new e = (texts : List (List ℕ)) → Reads a texts old → Reads b (texts ++ map_text e ∷ []) new

abbrev pub AddsHeld : LogState → LogState → Option History → Option History → MapEntry → Type 0
AddsHeld a b old new e = (texts : List (List ℕ)) → Holds a texts old → Holds b (texts ++ map_text e ∷ []) new

-- the store afterwards, by what the code has
pub store_after_naming : {D : Type 0} → (old new : Option History) (v : StoreValue D) (disk : D) (ready log : LogState) (m n : MapMeaning) (before boxes made : List OpenBox) (b : OpenBox) (mailbox : BoxNo) (name : List ℕ) → IsStore old v → CanName old (prepared v ready m v.dues) b mailbox name
    → IsSameLog ready log → SameButFor ready.name old new → ((texts : List (List ℕ)) → Reads ready texts old → Reads log (texts ++ map_text (naming mailbox name) ∷ []) new) → n ≡ map_applied (naming mailbox name) m → before ≡ v.boxes → boxes ≡ before ++ b ∷ []
    → IsStore new (record v { disk = disk; map_log = log; map = n; boxes = boxes; made = made })
store_after_naming old new v disk ready log m n before boxes made b mailbox name s c same others added applied kept more =
    subst (λ (x : MapMeaning). IsStore new (record v { disk = disk; map_log = log; map = x; boxes = boxes; made = made })) (sym applied)
    (subst (λ (bs : List OpenBox). IsStore new (record v { disk = disk; map_log = log; map = map_applied (naming mailbox name) m; boxes = bs; made = made })) (sym (more ∙ ap (λ (bs : List OpenBox). bs ++ b ∷ []) kept))
    (store_named old new (prepared v ready m v.dues) disk log b made mailbox name c same others added))

-- the logs that are left
pub made_after_naming : {D : Type 0} → (old new : Option History) (v w : StoreValue D) (ready : LogState) (m : MapMeaning) (b : OpenBox) (mailbox : BoxNo) (name : List ℕ) → CanName old (prepared v ready m v.dues) b mailbox name → KeepsMadeLogs old v → SameButFor ready.name old new → m ≡ v.map
    → w.map ≡ map_applied (naming mailbox name) m → w.drawn ≡ v.drawn → w.made ≡ without_box mailbox.0 v.made → KeepsMadeLogs new w
made_after_naming old new v w ready m b mailbox name c k others same applied drawn made =
    let left : List OpenBox = without_box mailbox.0 v.made in
    let are : All (IsMadeLog v.map v.drawn) left = All-filter (λ (o : OpenBox). not (o.number.0 == mailbox.0)) (IsMadeLog v.map v.drawn) v.made k.are_made in
    let boxes : w.map.boxes ≡ v.map.boxes ++ box_named mailbox name ∷ [] = ap (λ (x : MapMeaning). x.boxes) applied ∙ one_box_more m mailbox name ∙ ap (λ (x : MapMeaning). x.boxes ++ box_named mailbox name ∷ []) same in
    let apart : All (λ o. o.number.0 ≢ mailbox.0) left = others_left mailbox.0 v.made in
    let named : ready.name ≡ file.Map c.store.generation = c.store.map_name in
    record {
      are_made = subst (λ (bs : List OpenBox). All (IsMadeLog w.map w.drawn) bs) (sym made) (λ i d lt.
          let o : OpenBox = slice_index_or left i d in
          let l : IsMadeLog v.map v.drawn o = are i d lt in
          record {
            is_number = l.is_number;
            was_drawn = let a = l.was_drawn in let e : w.drawn.mailbox ≡ v.drawn.mailbox = ap (λ (x : Highest). x.mailbox) drawn in omega (arith, a, e);
            unnamed = subst (λ (bs : List MapBox). All (λ (box : MapBox). box.number ≢ o.number.0) bs) (sym boxes)
                (All-append (λ (box : MapBox). box.number ≢ o.number.0) v.map.boxes (box_named mailbox name ∷ []) l.unnamed
                (All-cons (λ (box : MapBox). box.number ≢ o.number.0) (box_named mailbox name) [] (λ p. apart i d lt (sym p)) (All-nil (λ (box : MapBox). box.number ≢ o.number.0))));
            name = l.name;
            head = subst (λ (id : List ℕ). o.log.head ≡ head_of id kind.Box o.number.0 1) (sym (ap (λ (x : MapMeaning). x.store) applied ∙ ap (λ (x : MapMeaning). x.store) same)) l.head;
            empty = l.empty;
            room = l.room;
          });
      apart = subst (λ (bs : List OpenBox). AllPairs HaveOtherNumbers bs) (sym made) (AllPairs-filter HaveOtherNumbers (λ (o : OpenBox). not (o.number.0 == mailbox.0)) v.made k.apart);
      held = λ _. subst (λ (bs : List OpenBox). All (IsHeldBy new) bs) (sym made)
          (held_beside ready.name old new left others (apart_from v.map v.drawn ready.name left (λ number q. absurd (let p : file.Box number 1 ≡ file.Map c.store.generation = q ∙ named in cc p)) are)
          (All-filter (λ (o : OpenBox). not (o.number.0 == mailbox.0)) (IsHeldBy old) v.made (k.held c.running)));
    }

-- its log has room too
pub room_after_naming : {D : Type 0} → (v w : StoreValue D) (ready : LogState) (b : OpenBox) → HasEntryRoom v → v.map_log.room ≤ ready.room → w.map_log.room ≡ ready.room → entry_room ≤ b.log.room → w.boxes ≡ v.boxes ++ b ∷ [] → HasEntryRoom w
room_after_naming v w ready b r more same room boxes = record {
  map_log = let a : entry_room ≤ v.map_log.room = r.map_log in omega (arith, a, more, same);
  box_logs = subst (λ (bs : List OpenBox). All (λ (o : OpenBox). entry_room ≤ o.log.room) bs) (sym boxes)
      (All-append (λ (o : OpenBox). entry_room ≤ o.log.room) v.boxes (b ∷ []) r.box_logs (All-cons (λ (o : OpenBox). entry_room ≤ o.log.room) b [] room (All-nil (λ (o : OpenBox). entry_room ≤ o.log.room))));
}

-- ---- what is due, and what leaks

pub indexes_more : (before boxes : List OpenBox) (b : OpenBox) → boxes ≡ before ++ b ∷ [] → b.index.meaning ≡ box_meaning [] → indexes_of boxes ≡ indexes_of before ++ box_meaning [] ∷ []
indexes_more before boxes b more empty =
    ap indexes_of more ∙ map-append (λ (o : OpenBox). o.index.meaning) before (b ∷ []) ∙ ap (λ (m : BoxMeaning). indexes_of before ++ m ∷ []) empty

-- a mailbox without messages lists none
listed_more : (uid : ℕ) (ms : List BoxMeaning) → sum_by (λ (m : BoxMeaning). count_by (λ row. row.map_uid == uid) m.rows) (ms ++ box_meaning [] ∷ []) ≡ sum_by (λ (m : BoxMeaning). count_by (λ row. row.map_uid == uid) m.rows) ms
listed_more uid ms = let a = sum_by-append (λ (m : BoxMeaning). count_by (λ row. row.map_uid == uid) m.rows) ms (box_meaning [] ∷ []) in omega (arith, a)

pub due_stays : (uid : ℕ) (rows old_rows : List MapRecord) (dues old_dues : List ℕ) → rows ≡ old_rows → dues ≡ old_dues → number_beside uid rows dues ≡ number_beside uid old_rows old_dues
due_stays uid rows old_rows dues old_dues records same = ap (λ (rs : List MapRecord). number_beside uid rs dues) records ∙ ap (number_beside uid old_rows) same

abbrev listed_in : ℕ → List BoxMeaning → ℕ
listed_in uid ms = sum_by (λ (m : BoxMeaning). count_by (λ row. row.map_uid == uid) m.rows) ms

pub leak_stays : (uid : ℕ) (rows old_rows : List MapRecord) (dues old_dues : List ℕ) (ms old_ms : List BoxMeaning) → rows ≡ old_rows → dues ≡ old_dues → ms ≡ old_ms ++ box_meaning [] ∷ []
    → number_beside uid rows (map (λ row. row.count) rows) - (sum_by (λ (m : BoxMeaning). count_by (λ row. row.map_uid == uid) m.rows) ms + number_beside uid rows dues)
    ≡ number_beside uid old_rows (map (λ row. row.count) old_rows) - (sum_by (λ (m : BoxMeaning). count_by (λ row. row.map_uid == uid) m.rows) old_ms + number_beside uid old_rows old_dues)
leak_stays uid rows old_rows dues old_dues ms old_ms records same indexes =
    ap (λ (rs : List MapRecord). number_beside uid rs (map (λ row. row.count) rs) - (listed_in uid ms + number_beside uid rs dues)) records
    ∙ ap (λ (n : ℕ). number_beside uid old_rows (map (λ row. row.count) old_rows) - (n + number_beside uid old_rows dues)) (ap (listed_in uid) indexes ∙ listed_more uid old_ms)
    ∙ ap (λ (ds : List ℕ). number_beside uid old_rows (map (λ row. row.count) old_rows) - (listed_in uid old_ms + number_beside uid old_rows ds)) same
