-- A message that is removed from the log of its mailbox, or whose removal failed.
use Rattle.mail_ops.proofs.Common.{◌≡◌, ◌+◌, ℕ, false, List, [], ◌∷◌, Option, Some, None, refl, ◌∙◌, ap, subst, arith, option_map_or, History, Faults, BoxEntry, Highest, MapEntry, Uid, lists_by, meanings_by, Lists, AreWellFormed, LogRow, BoxMeaning, row_at, MapMeaning, record_of, ShowLists, Run}
use Rattle.mail_ops.proofs.Common.{HasMailbox, HasUid, first_refusal, Brings, due_at, IsStore, StoreValue, indexes_of, one_due, HasComeTo, TellsSame, BoxFell, MapTook, MapFell, IsRowOf, seen_of, due_as_before, fall}
use Rattle.mdbox_base.specs.declared.entries.BoxEntry.TheVariants as entry
use Rattle.model_appends.specs.Amounts.{more_due, due_by_box}
use Rattle.list_machine.specs.Machine.{expunge}
use Rattle.journal.specs.Events.{IsRecord}
use Rattle.entry_steps.proofs.AppendListLemmas.{removed_by}
use Rattle.mail_ops.specs.Appends.{BoxAppends}
use Rattle.store_seen.proofs.SeeingLemmas.{tells_as_before}
use Rattle.task_steps.proofs.KeptStoreLemmas.{StaysSo}
use Rattle.mail_ops.proofs.MessageLemmas.{ShownRow, shown_row, shown_guid, RecordOfRow, record_of_row}
use Rattle.mail_ops.proofs.ShownEntryLemmas.{shown_entry}

-- a removal adds no message, so it brings any octets
pub brings_removal : (m : MapMeaning) (uid : Uid) (octets : List ℕ) (h : Option History) → Brings m (entry.R uid) octets h
brings_removal m uid octets None = tt
brings_removal m uid octets (Some h) = tt

-- an append leaves what a store tells of files and GUIDs
pub store_tells : {D : Type 0} → (pins : ℕ → ℕ) → (old new : StoreValue D) (before after : Option History) (began now : Faults) → (new.stopped ≡ false → old.stopped ≡ false) → new.map.store ≡ old.map.store → new.drawn ≡ old.drawn → new.files ≡ old.files → new.instances ≡ old.instances
    → TellsSame (seen_of pins old before began) (seen_of pins new after now)
store_tells pins old new before after began now ran id drawn files instances =
    tells_as_before pins old new before after began now ran id (ap (λ (d : Highest). d.file) drawn) (ap (λ (d : Highest). d.instance) drawn) files instances

pub took_tells : {D : Type 0} → (pins : ℕ → ℕ) → (entry : MapEntry) (old new : StoreValue D) (before after : Option History) (began now : Faults) → old.stopped ≡ false → MapTook entry old new before after began now → TellsSame (seen_of pins old before began) (seen_of pins new after now)
took_tells pins entry old new before after began now ran t =
    store_tells pins old new before after began now (λ runs. ran) (ap (λ (m : MapMeaning). m.store) t.taken) t.appends.drawn t.appends.files (ap (λ (s : StoreValue _). s.instances) t.appends.rest)

pub box_tells : {D : Type 0} → (pins : ℕ → ℕ) → (number : ℕ) (e : BoxEntry) (old new : StoreValue D) (before after : Option History) (began now : Faults) → (new.stopped ≡ false → old.stopped ≡ false) → BoxAppends number e old new before after began now
    → TellsSame (seen_of pins old before began) (seen_of pins new after now)
box_tells pins number e old new before after began now ran a =
    store_tells pins old new before after began now ran (ap (λ (m : MapMeaning). m.store) a.map) a.drawn a.files (ap (λ (s : StoreValue _). s.instances) a.rest)

-- ---- what is due

pub removal_due : {D : Type 0} → (old new : StoreValue D) (m : BoxMeaning) (uid : Uid) (row : LogRow) (other : ℕ) → row_at m uid.0 ≡ Some row → due_at other new ≡ due_by_box m (entry.R uid) (λ u. due_at u old) other → due_at other new ≡ due_at other old + one_due row.map_uid other
removal_due old new m uid row other listed due = due ∙ ap (λ (o : Option LogRow). option_map_or (λ r. more_due 1 r.map_uid (λ u. due_at u old)) o (λ u. due_at u old) other) listed

-- ---- a store whose append failed

pub box_fell_stays : {D : Type 0} → (pins : ℕ → ℕ) → (number : ℕ) (e : BoxEntry) (old new : StoreValue D) (before after : Option History) (began now : Faults) → BoxFell number e old new before after began now → StaysSo (seen_of pins old before began) (seen_of pins new after now)
box_fell_stays pins number e old new before after began now f = record {
  map = f.appends.map;
  drawn = f.appends.drawn;
  due = λ uid. due_as_before old new uid f.appends.map f.dues;
  tells = box_tells pins number e old new before after began now (λ runs. absurd (fall new.stopped f.stopped runs)) f.appends;
  grows = f.appends.grows;
  reads = let same = f.appends.reads in omega (arith, same);
  changes = f.appends.changes;
  mail = f.appends.stays old.map;
}

pub map_fell_stays : {D : Type 0} → (pins : ℕ → ℕ) → (old new : StoreValue D) (before after : Option History) (began now : Faults) → MapFell old new before after began now → StaysSo (seen_of pins old before began) (seen_of pins new after now)
map_fell_stays pins old new before after began now f = record {
  map = f.map;
  drawn = f.appends.drawn;
  due = λ uid. due_as_before old new uid f.map f.dues;
  tells = store_tells pins old new before after began now (λ runs. absurd (fall new.stopped f.stopped runs)) (ap (λ (m : MapMeaning). m.store) f.map) f.appends.drawn f.appends.files (ap (λ (s : StoreValue _). s.instances) f.appends.rest);
  grows = f.appends.grows;
  reads = let same = f.appends.reads in omega (arith, same);
  changes = f.appends.changes;
  mail = f.appends.stays old.map;
}

-- ---- the lists without the message

-- what is known of a row that is to be removed, in lists that are shown
pub record RemovalKnown {D : Type 0} (store : StoreValue D) (name : List ℕ) (uid : Uid) (number : ℕ) (row : LogRow) (lists : Lists) (run : Run) : Type 0 where
  pub shown : ShownRow name uid.0 number lists row
  pub recorded : RecordOfRow store.map row
  pub allowed : first_refusal run lists (HasMailbox name ∷ HasUid name uid.0 ∷ []) ≡ None
  pub is_record : IsRecord run lists name uid.0 recorded.entry
  pub by : lists_by number [] (entry.R uid) lists ≡ expunge name uid.0 lists
  pub shows : ShowLists store.map.boxes (meanings_by number (entry.R uid) store.map.boxes (indexes_of store.boxes)) (expunge name uid.0 lists)

removal_gives : (lists : Lists) (name : List ℕ) (uid : Uid) (number : ℕ) (row : LogRow) → AreWellFormed lists → ShownRow name uid.0 number lists row → lists_by number [] (entry.R uid) lists ≡ expunge name uid.0 lists
removal_gives lists name uid number row well s = subst (λ (k : ℕ). lists_by k [] (entry.R uid) lists ≡ expunge name uid.0 lists) s.number_is (removed_by lists name s.mailbox [] uid well s.named)

pub removal_known : {D : Type 0} → (pins : ℕ → ℕ) → (history : Option History) (faults : Faults) (store : StoreValue D) (name : List ℕ) (uid : Uid) (number : ℕ) (row : LogRow) (lists : Lists) (run : Run) → IsStore history store → IsRowOf name uid.0 store number row → AreWellFormed lists → ShowLists store.map.boxes (indexes_of store.boxes) lists
    → HasComeTo run (seen_of pins store history faults) → RemovalKnown store name uid number row lists run
removal_known pins history faults store name uid number row lists run s at well h come =
    let shown = shown_row store name uid.0 number row lists at h in
    let r = record_of_row history store name uid.0 number row s at in
    let by = removal_gives lists name uid number row well shown in
    record {
      shown = shown;
      recorded = r;
      allowed = rw (shown.named, shown.in_box) refl;
      is_record = (shown.message, shown.there, ap (λ (m : MapMeaning). record_of m shown.message.guid) come.come.map_is ∙ r.by_guid shown.message.guid (shown_guid name uid.0 number lists row shown));
      by = by;
      shows = subst (λ (ls : Lists). ShowLists store.map.boxes (meanings_by number (entry.R uid) store.map.boxes (indexes_of store.boxes)) ls) by (shown_entry number [] (entry.R uid) store.map.boxes (indexes_of store.boxes) lists refl h);
    }
