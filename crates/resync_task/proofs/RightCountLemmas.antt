-- The last event of a resync: what it leaves to the tasks beside it, and that the counts are exact then.
use Rattle.resync_task.proofs.Common.{◌≡◌, ◌≤◌, ◌<◌, ◌+◌, ◌==◌, ℕ, false, List, [], ◌∷◌, Option, Some, inl, map, refl, sym, ◌∙◌, ap, subst, arith, Contains, count_by, sum_by, eqb-true, All-contains, All-nil, All-cons, History, Faults, MapCount, Lists, BoxMeaning, LogRow, MapFits, MapMeaning, MapRecord}
use Rattle.resync_task.proofs.Common.{count_given, records_by_counted, refs_in, listed_of, due_at, listed_at, IsStore, StoreValue, indexes_of, listed_meant, wrong_of, seen_of, no_claims, ShowsSeen, PutsRight, corrected_map, StaysSo}
use Rattle.std.specs.Prelude.{max}
use Rattle.std.specs.Option.{IfSome}
use Rattle.mdbox_base.specs.declared.entries.MapEntry.TheVariants as entry
use Rattle.model_appends.specs.Amounts.{IsAccounted}
use Rattle.model_meaning.specs.BoxMeaning.{row_at}
use Rattle.model_meaning.specs.MapMeaning.{MapBox, numbers_of}
use Rattle.model_octets.proofs.SearchLemmas.{found_one}
use Rattle.model_store.specs.Listing.{ShowLists, meaning_numbered}
use Rattle.store_core.specs.Dues.{leak_at}
use Rattle.store_core.specs.Keeping.{KeepsUids}
use Rattle.store_core.specs.Value.{list_numbered}
use Rattle.store_core.proofs.DueLemmas.{store_counts}
use Rattle.store_seen.proofs.SeeingLemmas.{due_as_before, tells_as_before}
use Rattle.task_claims.specs.Claims.{MovesClaims}
use Rattle.task_claims.specs.Leaving.{LeavesOthers, RaisesNone, SameButCounts, but_count}
use Rattle.task_claims.proofs.GoneLemmas.{gone_stays}
use Rattle.task_claims.proofs.NameLemmas.{names_stay}
use Rattle.task_claims.proofs.RestLemmas.{mail_same, rest_amounts, rest_leaves, same_claims}
use Rattle.task_steps.specs.Tells.{TellsSame}
use Rattle.resync_task.specs.Correcting.{AreExact, FellCorrecting, KeepsCorrecting}
use Rattle.resync_task.proofs.ResyncEventLemmas.{CountsFit}
use Rattle.resync_task.proofs.StoreCountLemmas.{uids_rise}
use Rattle.resync_task.proofs.WrongCountLemmas.{right_in_map}

-- ---- the map

-- all of each record stays but its count
counted_same : (counts : List MapCount) (rows : List MapRecord) → map but_count (map (λ (row : MapRecord). record row { count = count_given row.uid counts row.count }) rows) ≡ map but_count rows
counted_same counts [] = refl
counted_same counts (r ∷ rs) = ap (λ (xs : List MapRecord). but_count r ∷ xs) (counted_same counts rs)

corrected_same : (counts : List MapCount) (m : MapMeaning) → SameButCounts m (corrected_map counts m)
corrected_same [] m = refl
corrected_same (c ∷ counts) m = ap (map but_count) (records_by_counted (c ∷ counts) m.records) ∙ counted_same (c ∷ counts) m.records

corrected_highest : (counts : List MapCount) (m : MapMeaning) → m.highest.mailbox ≤ (corrected_map counts m).highest.mailbox
corrected_highest [] m = omega arith
corrected_highest (c ∷ counts) m = greater m.highest.mailbox (numbers_of m.store (entry.T (c ∷ counts))).mailbox
  where
    greater : (a b : ℕ) → a ≤ max a b
    greater a b = omega arith

corrected_store : (counts : List MapCount) (m : MapMeaning) → (corrected_map counts m).store ≡ m.store
corrected_store [] m = refl
corrected_store (c ∷ counts) m = refl

pub counts_fit : (counts : List MapCount) (m : MapMeaning) → MapFits m (entry.T counts) → CountsFit counts m
counts_fit [] m fits = All-nil _
counts_fit (c ∷ counts) m fits = All-cons (MapFits m) (entry.T (c ∷ counts)) [] fits (All-nil _)

-- ---- what the event keeps

-- the mailboxes list what they did
lists_stay : {D : Type 0} → (old new : StoreValue D) → old.map.highest.mailbox ≤ new.map.highest.mailbox → new.map.boxes ≡ old.map.boxes → indexes_of new.boxes ≡ indexes_of old.boxes → KeepsUids old new
lists_stay old new highest boxes indexes = λ number uid held k.
    let same : list_numbered new number ≡ list_numbered old number = ap (λ (bs : List MapBox). meaning_numbered number bs (indexes_of new.boxes)) boxes ∙ ap (meaning_numbered number old.map.boxes) indexes in
    let given : number ≤ old.map.highest.mailbox = k.given in
    record {
      given = omega (arith, given, highest);
      below = subst (λ (o : Option BoxMeaning). IfSome o (λ m. uid < m.next)) (sym same) k.below;
      same = subst (λ (o : Option BoxMeaning). IfSome o (λ m. (row : LogRow) → row_at m uid ≡ Some row → row.map_uid ≡ held)) (sym same) k.same;
    }

-- how many rows of what logs of mailboxes mean have this map uid
abbrev listed_in : ℕ → List BoxMeaning → ℕ
listed_in uid meanings = sum_by (λ (m : BoxMeaning). count_by (λ (row : LogRow). row.map_uid == uid) m.rows) meanings

-- a count of 0 is right, so it stays
right_unraised : {D : Type 0} → (history : Option History) (corrected : ℕ) (old new : StoreValue D) (before after : Option History) (began now : Faults) → IsStore history old → PutsRight corrected old new before after began now → RaisesNone old.map new.map
right_unraised history corrected old new before after began now s p uid row later there none is =
    let in_old = found_one (λ (r : MapRecord). r.uid == uid) old.map.records row there in
    let in_new = found_one (λ (r : MapRecord). r.uid == uid) new.map.records later is in
    let counted = right_in_map old.map (λ u. listed_at u old + due_at u old) later (uids_rise history old s) (subst (λ (m : MapMeaning). Contains m.records later) p.map in_new.0) in
    let same : later.uid ≡ row.uid = eqb-true later.uid uid in_new.1 ∙ sym (eqb-true row.uid uid in_old.1) in
    let covered : row.count ≡ listed_of s.logs row.uid + due_at row.uid old + leak_at row.uid old =
    All-contains (IsAccounted (λ u. due_at u old) (λ u. leak_at u old) s.logs) old.map.records row (store_counts history old s.logs s (uids_rise history old s) s.boxes_are) in_old.0 in
    let listed : listed_at row.uid old ≡ listed_of s.logs row.uid = ap (listed_in row.uid) s.boxes_are ∙ listed_meant row.uid s.logs in
    let lists = ap (λ (u : ℕ). listed_at u old) same in
    let due = ap (λ (u : ℕ). due_at u old) same in
    omega (arith, counted, covered, listed, lists, due, none)

pub right_leaves : {D : Type 0} → (history : Option History) (corrected : ℕ) (old new : StoreValue D) (before after : Option History) (began now : Faults) → IsStore history old → PutsRight corrected old new before after began now → LeavesOthers no_claims old new before after
right_leaves history corrected old new before after began now s p =
    let highest : old.map.highest.mailbox ≤ new.map.highest.mailbox = subst (λ (m : MapMeaning). old.map.highest.mailbox ≤ m.highest.mailbox) (sym p.map) (corrected_highest (wrong_of old) old.map) in
    rest_leaves no_claims old new before after (ap (λ (v : StoreValue _). v.files) p.keeps.rest) (ap (λ (v : StoreValue _). v.instances) p.keeps.rest) (mail_same before after p.mail)
    (subst (λ (m : MapMeaning). SameButCounts old.map m) (sym p.map) (corrected_same (wrong_of old) old.map)) (right_unraised history corrected old new before after began now s p)
    highest p.end (inl (names_stay old.map new.map p.keeps.mailboxes)) (gone_stays old new p.keeps.mailboxes (ap (λ (v : StoreValue _). v.made) p.keeps.rest) highest) (lists_stay old new highest p.keeps.mailboxes p.keeps.indexes) p.keeps.room
    (λ uid row none found listed. (ap (λ (ms : List BoxMeaning). refs_in ms row.guid) p.keeps.indexes ∙ listed, p.due uid))

pub right_claims : {D : Type 0} → (corrected : ℕ) (old new : StoreValue D) (before after : Option History) (began now : Faults) → PutsRight corrected old new before after began now → MovesClaims no_claims no_claims old new
right_claims corrected old new before after began now p = same_claims no_claims old new (rest_amounts old new p.due p.keeps.rest)

-- each count is what is listed and due
pub right_exact : {D : Type 0} → (history : Option History) (corrected : ℕ) (old new : StoreValue D) (before after : Option History) (began now : Faults) → IsStore history old → PutsRight corrected old new before after began now → AreExact new
right_exact history corrected old new before after began now s p = λ row there.
    let in_map = subst (λ (m : MapMeaning). Contains m.records row) p.map there in
    let counted = right_in_map old.map (λ uid. listed_at uid old + due_at uid old) row (uids_rise history old s) in_map in
    let listed : listed_at row.uid new ≡ listed_at row.uid old = ap (listed_in row.uid) p.keeps.indexes in
    let due = p.due row.uid in
    omega (arith, counted, listed, due)

-- ---- as it is seen

pub right_shows : {D : Type 0} → (pins : ℕ → ℕ) (old new : StoreValue D) (before after : Option History) (began now : Faults) (lists : Lists) → KeepsCorrecting old new before after began now → ShowsSeen (seen_of pins old before began) lists → ShowsSeen (seen_of pins new after now) lists
right_shows pins old new before after began now lists k shows =
    (shows.0, subst (λ (bs : List MapBox). ShowLists bs (indexes_of new.boxes) lists) (sym k.mailboxes) (subst (λ (ms : List BoxMeaning). ShowLists old.map.boxes ms lists) (sym k.indexes) shows.1))

tells_on : {D : Type 0} → (pins : ℕ → ℕ) (old new : StoreValue D) (before after : Option History) (began now : Faults) → old.stopped ≡ false → KeepsCorrecting old new before after began now → new.map.store ≡ old.map.store → TellsSame (seen_of pins old before began) (seen_of pins new after now)
tells_on pins old new before after began now ran k store =
    tells_as_before pins old new before after began now (λ runs. ran) store (ap (λ d. d.file) k.drawn) (ap (λ d. d.instance) k.drawn) (ap (λ (v : StoreValue _). v.files) k.rest) (ap (λ (v : StoreValue _). v.instances) k.rest)

pub right_tells : {D : Type 0} → (pins : ℕ → ℕ) (corrected : ℕ) (old new : StoreValue D) (before after : Option History) (began now : Faults) → old.stopped ≡ false → PutsRight corrected old new before after began now → TellsSame (seen_of pins old before began) (seen_of pins new after now)
right_tells pins corrected old new before after began now ran p = tells_on pins old new before after began now ran p.keeps (ap (λ (m : MapMeaning). m.store) p.map ∙ corrected_store (wrong_of old) old.map)

pub fell_stays : {D : Type 0} → (pins : ℕ → ℕ) (old new : StoreValue D) (before after : Option History) (began now : Faults) → old.stopped ≡ false → FellCorrecting old new before after began now → StaysSo (seen_of pins old before began) (seen_of pins new after now)
fell_stays pins old new before after began now ran f = record {
  map = f.map;
  drawn = f.keeps.drawn;
  due = λ uid. due_as_before old new uid f.map f.dues;
  tells = tells_on pins old new before after began now ran f.keeps (ap (λ (m : MapMeaning). m.store) f.map);
  grows = f.keeps.grows;
  mail = f.keeps.stays old.map;
  reads = (let e = f.keeps.reads in omega (arith, e));
  changes = f.keeps.changes;
}
