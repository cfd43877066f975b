-- What storing a record, and lowering its count, make of a store.
use Rattle.mail_save.proofs.Common.{◌≡◌, ◌≤◌, ◌<◌, ◌+◌, ℕ, true, List, [], Option, Some, None, Err, inl, inr, refl, sym, ◌∙◌, ap, subst, arith, All-nil, All-cons, History, Between, between-map, Highest, InstRow, MapEntry, MapUid, Refusal, HasRecord, MapFits, MapRecord, MapMeaning, map_applied, record_at}
use Rattle.mail_save.proofs.Common.{files_of, StoresMessage, end_in, is_taken_in, released_in, due_at, KeepsStored, KeepsFirm, StoreValue, indexes_of, uid_refusal, entry_stored, entry_lowered, AreSpared, IsLeftAlone, LowersRecord, StoresNone, StoresPlaced, saved_row, SavedAt}
use Rattle.std.proofs.Common.{Ok}
use Rattle.std.specs.Prelude.{◌⊎◌, IfOk, IfErr, Result}
use Rattle.mdbox_base.specs.declared.replies.Refusal.TheVariants as refusal
use Rattle.model_appends.specs.Amounts.{due_by}
use Rattle.store_core.specs.MapAppend.{drawn_by}
use Rattle.mail_save.specs.SaveEffects.{GivesFileBack}
use Rattle.mail_save.proofs.FaultLemmas.{uid_unread}
use Rattle.mail_save.proofs.SaveEventLemmas.{unfallen}
use Rattle.mail_save.proofs.TakingLemmas.{released_others}

-- ---- behind an append to the map log

-- it has changed nothing else
abbrev pub IsMapChange : {D : Type 0} → StoreValue D → StoreValue D → Type 0
IsMapChange old new = new ≡ record old { disk = new.disk; map_log = new.map_log; map = new.map; drawn = new.drawn; dues = new.dues; stopped = new.stopped }

-- the storage file is given back behind it
abbrev pub giver_store : {D : Type 0} → ℕ → StoreValue D → StoreValue D
giver_store file store = record store { files = record store.files { files = released_in file store.files.files } }

given_change : {D : Type 0} → (file : ℕ) (old mid new : StoreValue D) → IsMapChange old mid → new ≡ giver_store file mid
    → new ≡ record old { disk = new.disk; map_log = new.map_log; map = new.map; files = record old.files { files = released_in file old.files.files }; drawn = new.drawn; dues = new.dues; stopped = new.stopped }
given_change file old mid new same given =
    let whole : new ≡ record old { disk = mid.disk; map_log = mid.map_log; map = mid.map; files = record old.files { files = released_in file old.files.files }; drawn = mid.drawn; dues = mid.dues; stopped = mid.stopped } = given ∙ ap (giver_store file) same in
    subst (λ (v : StoreValue _). v ≡ record old { disk = v.disk; map_log = v.map_log; map = v.map; files = record old.files { files = released_in file old.files.files }; drawn = v.drawn; dues = v.dues; stopped = v.stopped }) (sym whole) refl

pub stores_placed : {D : Type 0} → (at : SavedAt) (rows : List InstRow) (time size : ℕ) (uid : MapUid) (old mid new : StoreValue D) → uid.0 ≡ old.drawn.map + 1 → uid.0 ≤ 4294967294 → MapFits old.map (entry_stored rows uid at)
    → mid.map ≡ map_applied (entry_stored rows uid at) old.map → record_at mid.map uid.0 ≡ Some (saved_row rows uid at)
    → mid.drawn ≡ record old.drawn { map = uid.0 }
    → ((other : ℕ) → due_at other mid ≡ due_by (entry_stored rows uid at) (λ k. due_at k old) other)
    → mid.map.boxes ≡ old.map.boxes → IsMapChange old mid → old.map_log.room ≤ mid.map_log.room → old.map_log.end < mid.map_log.end → new ≡ giver_store at.file.0 mid → ((number : ℕ) → end_in number new.files.files ≡ end_in number mid.files.files)
    → StoresPlaced at rows time size (record { map_uid = uid; guid = at.guid; time = time; size = size }) old new
stores_placed at rows time size uid old mid new next high fits taken there drawn due boxes same room further given ends = record {
  uid_is = next;
  few = omega (arith, next, high);
  fits = fits;
  guid_is = refl;
  time_is = refl;
  size_is = refl;
  map = ap (λ v. v.map) given ∙ taken;
  there = ap (λ v. record_at v.map uid.0) given ∙ there;
  drawn = ap (λ v. v.drawn) given ∙ drawn;
  due = λ other. ap (λ v. due_at other v) given ∙ due other;
  mailboxes = ap (λ v. v.map.boxes) given ∙ boxes;
  ends = λ number. ends number ∙ ap (λ v. end_in number v.files.files) same;
  others = λ number apart. ap (λ v. is_taken_in number v.files.files) given ∙ (released_others at.file.0 number mid.files.files apart ∙ ap (λ v. is_taken_in number v.files.files) same);
  room = subst (λ (v : StoreValue _). old.map_log.room ≤ v.map_log.room) (sym given) room;
  further = subst (λ (v : StoreValue _). old.map_log.end < v.map_log.end) (sym given) further;
  same = given_change at.file.0 old mid new same given;
}

-- the same of a store in which nothing was stored
pub gives_back : {D : Type 0} → (file : ℕ) (old mid new : StoreValue D) → mid ≡ old → new ≡ giver_store file mid → ((number : ℕ) → end_in number new.files.files ≡ end_in number mid.files.files) → GivesFileBack file old new
gives_back file old mid new same given ends = record {
  ends = λ number. ends number ∙ ap (λ v. end_in number v.files.files) same;
  others = λ number apart. ap (λ v. is_taken_in number v.files.files) given ∙ (released_others file number mid.files.files apart ∙ ap (λ v. is_taken_in number v.files.files) same);
  same = given ∙ ap (giver_store file) same;
}

alone_as : {D : Type 0} → (old new v : StoreValue D) → new ≡ v → v ≡ record old { disk = v.disk; map_log = v.map_log; boxes = v.boxes; stopped = v.stopped } → new ≡ record old { disk = new.disk; map_log = new.map_log; boxes = new.boxes; stopped = new.stopped }
alone_as old new v is at = subst (λ (w : StoreValue _). w ≡ record old { disk = w.disk; map_log = w.map_log; boxes = w.boxes; stopped = w.stopped }) (sym is) at

-- a change of the disk failed
pub left_alone : {D : Type 0} → (old new : StoreValue D) → new.stopped ≡ true → IsMapChange old new → old.map_log.room ≤ new.map_log.room → new.map ≡ old.map → new.drawn ≡ old.drawn → new.dues ≡ old.dues → IsLeftAlone old new
left_alone old new fell same room map drawn dues = record {
  indexes = ap (λ v. indexes_of v.boxes) same;
  room = room;
  end = λ runs. absurd (unfallen new.stopped fell runs);
  same = alone_as old new (record old { disk = new.disk; map_log = new.map_log; stopped = new.stopped }) (same
      ∙ (ap (λ (m : MapMeaning). record old { disk = new.disk; map_log = new.map_log; map = m; drawn = new.drawn; dues = new.dues; stopped = new.stopped }) map
      ∙ (ap (λ (d : Highest). record old { disk = new.disk; map_log = new.map_log; drawn = d; dues = new.dues; stopped = new.stopped }) drawn ∙ ap (λ (n : List ℕ). record old { disk = new.disk; map_log = new.map_log; dues = n; stopped = new.stopped }) dues))) refl;
}

pub left_unadded : {D : Type 0} → (old new : StoreValue D) → new ≡ record old { disk = new.disk; boxes = new.boxes; dues = new.dues; stopped = new.stopped } → indexes_of new.boxes ≡ indexes_of old.boxes → new.dues ≡ old.dues → IsLeftAlone old new
left_unadded old new same indexes dues = record {
  indexes = indexes;
  room = (let log = ap (λ v. v.map_log.room) same in omega (arith, log));
  end = λ runs. let log = ap (λ v. v.map_log.end) same in omega (arith, log);
  same = alone_as old new (record old { disk = new.disk; boxes = new.boxes; stopped = new.stopped }) (same ∙ ap (λ (n : List ℕ). record old { disk = new.disk; boxes = new.boxes; dues = n; stopped = new.stopped }) dues) refl;
}

pub lowers_record : {D : Type 0} → (uid : MapUid) (entry : MapEntry) (old new : StoreValue D) → entry ≡ entry_lowered uid → HasRecord old.map uid.0 (λ row. 1 ≤ row.count) → IsMapChange old new → old.map_log.room ≤ new.map_log.room → old.map_log.end < new.map_log.end → new.map ≡ map_applied entry old.map → new.map.boxes ≡ old.map.boxes → new.drawn ≡ drawn_by entry old.drawn
    → ((other : ℕ) → due_at other new ≡ due_by entry (λ k. due_at k old) other) → LowersRecord uid old new
lowers_record uid entry old new is there same room further taken boxes drawn due = record {
  fits = (λ k within. absurd (omega (arith, within)), All-cons (λ (u : MapUid). HasRecord old.map u.0 (λ row. 1 ≤ row.count)) uid [] there (All-nil _));
  map = taken ∙ ap (λ (e : MapEntry). map_applied e old.map) is;
  due = λ other. due other ∙ ap (λ (e : MapEntry). due_by e (λ k. due_at k old) other) is;
  mailboxes = boxes;
  room = room;
  further = further;
  same = same ∙ ap (λ (d : Highest). record old { disk = new.disk; map_log = new.map_log; map = new.map; drawn = d; dues = new.dues; stopped = new.stopped }) (drawn ∙ ap (λ (e : MapEntry). drawn_by e old.drawn) is);
}

pub unstored_map : {D : Type 0} → (at : SavedAt) (why : Refusal) (old new : StoreValue D) → StoresNone at why old new → new.map ≡ old.map
unstored_map at why old new (inl k) = ap (λ v. v.map) k.1.same
unstored_map at why old new (inr k) = ap (λ v. v.map) k.1.same

pub unstored_instances : {D : Type 0} → (at : SavedAt) (why : Refusal) (old new : StoreValue D) → StoresNone at why old new → new.instances ≡ old.instances
unstored_instances at why old new (inl k) = ap (λ v. v.instances) k.1.same
unstored_instances at why old new (inr k) = ap (λ v. v.instances) k.1.same

-- whether the record was stored or not
pub storing_instances : {D : Type 0} → (at : SavedAt) (rows : List InstRow) (old new : StoreValue D) (r : Result MapUid Refusal) → IfOk r (λ uid. (time size : ℕ) → StoresPlaced at rows time size (record { map_uid = uid; guid = at.guid; time = time; size = size }) old new) → IfErr r (λ why. StoresNone at why old new)
    → new.instances ≡ old.instances
storing_instances at rows old new (Ok uid) stores none = ap (λ v. v.instances) (stores 0 0).same
storing_instances at rows old new (Err why) stores none = unstored_instances at why old new none

-- no read failed where it wasn't
pub unstored_unread : (drawn : ℕ) (why : Refusal) → (uid_refusal drawn ≡ Some why) ⊎ ((uid_refusal drawn ≡ None) × ((why ≡ refusal.Stopped) ⊎ (why ≡ refusal.NoMemory))) → why ≡ refusal.ReadFault → ⊥
unstored_unread drawn why (inl is) e = uid_unread drawn (is ∙ ap Some e)
unstored_unread drawn why (inr (none, inl is)) e = let w : refusal.Stopped ≡ refusal.ReadFault = sym is ∙ e in cc w
unstored_unread drawn why (inr (none, inr is)) e = let w : refusal.NoMemory ≡ refusal.ReadFault = sym is ∙ e in cc w

-- ---- records that are kept

as_stored : (before after : Option History) (row : MapRecord) (octets : List ℕ) → KeepsStored before after → Between (λ a b. StoresMessage (files_of a) row octets → StoresMessage (files_of b) row octets) before after
as_stored before after row octets keeps =
    between-map (λ a b. (other : MapRecord) (text : List ℕ) → StoresMessage (files_of a) other text → StoresMessage (files_of b) other text) (λ a b. StoresMessage (files_of a) row octets → StoresMessage (files_of b) row octets) before after (λ a b all. all row octets) keeps

pub spared_kept : {D : Type 0} → (old new : StoreValue D) (before after : Option History) → new.map ≡ old.map → KeepsStored before after → AreSpared old new before after
spared_kept old new before after map keeps = λ uid row found. record {
  now = row;
  there = ap (λ (m : MapMeaning). record_at m uid) map ∙ found;
  guid = refl;
  stores = λ octets. as_stored before after row octets keeps;
}

-- what may be named, with a storage file released
pub released_firm : {D : Type 0} → (history : D → Option History) (file : ℕ) (old mid new : StoreValue D) → new ≡ giver_store file mid → KeepsFirm old mid (history old.disk) (history mid.disk) → KeepsFirm old new (history old.disk) (history new.disk)
released_firm {D} history file old mid new same k = subst (λ (v : StoreValue D). KeepsFirm old v (history old.disk) (history v.disk)) (sym same) (record { stays = k.stays })

-- a store with the same map
pub spared_as : {D : Type 0} → (old mid new : StoreValue D) (before after : Option History) → new.map ≡ mid.map → AreSpared old mid before after → AreSpared old new before after
spared_as old mid new before after map spared = λ uid row found.
    let s = spared uid row found in
    record { now = s.now; there = ap (λ (m : MapMeaning). record_at m uid) map ∙ s.there; guid = s.guid; stores = s.stores }
