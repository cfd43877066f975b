-- An event that leaves the rest of a store and its files leaves to the other tasks what is theirs.
use Rattle.std.specs.Option.{option_map}
use Rattle.std.proofs.Common.{◌≡◌, ◌≢◌, ◌<◌, ◌≤◌, ◌+◌, ◌⊎◌, ℕ, List, [], ◌∷◌, ◌++◌, get_or, map, Option, Some, refl, sym, ◌∙◌, ap, subst, arith, inl, inr}
use Rattle.std.proofs.lemmas.List.{append-nil}
use Rattle.disk_model.specs.Disk.{DiskState, FileState, History, IsIdle, reading}
use Rattle.disk_model.specs.declared.name.FileName.TheVariants as file
use Rattle.disk_model.proofs.BetweenLemmas.{between-map}
use Rattle.mdbox_base.specs.declared.entries.InstRow.{InstRow}
use Rattle.model_meaning.specs.MapMeaning.{MapMeaning, MapRecord, record_at}
use Rattle.model_store.specs.Settled.{files_of}
use Rattle.sis_store.specs.Instances.{InstancesValue}
use Rattle.sis_store.specs.OnDisk.{instance_file}
use Rattle.storage_files.specs.Files.{FilesValue, end_in, file_in, with_pins}
use Rattle.store_core.specs.Keeping.{KeepsInstances, KeepsMail, KeepsRest, KeepsUids, NameTheSame, ReadsInstances, SyncsInstances, origin_and_names}
use Rattle.store_core.specs.MadeLogs.{KeepsGone}
use Rattle.store_core.specs.StoreInstances.{IsKnownRow, IsFirstKnown}
use Rattle.store_core.specs.Dues.{due_at}
use Rattle.store_core.specs.Value.{StoreValue}
use Rattle.store_core.proofs.InstanceKeepingLemmas.{kept_same}
use Rattle.store_core.proofs.KnownInstanceLemmas.{firm_same}
use Rattle.store_core.proofs.MailChangeLemmas.{named_reads}
use Rattle.task_claims.specs.Claims.{Claims, ClaimsNothing, Due, Emptied, Held, Made, MovesClaims, Pinned, PlacingPieces, Removing, Taken, Thing, amount_in, claims_of_dues}
use Rattle.task_claims.specs.Leaving.{HasRegionOctets, HaveSameInstances, LeavesRecord, LeavesFile, LeavesInstance, OnlyGrows, IsSameOrSynced, NamesStay, LeavesOthers, LeavesUnlisted, PlacesFew, RaisesNone, SameButCounts, SyncsMail, but_count}
use Rattle.task_claims.proofs.CountedLemmas.{all_same, found_same, rows_same, unraised_same}

-- ---- records

abbrev Mails : DiskState → DiskState → Type 0
Mails a b = ((number : ℕ) → IsSameOrSynced (a (file.Mail number)) (b (file.Mail number))) × ((hash id : List ℕ) → IsSameOrSynced (a (file.Inst hash id)) (b (file.Inst hash id)))

-- it reads what it did
synced_reads : (a b : FileState) → IsSameOrSynced a b → reading b ≡ reading a
synced_reads a b (inl e) = ap reading e
synced_reads a b (inr e) = ap reading e ∙ named_reads a

pub mail_same : (before after : Option History) → KeepsMail before after → SyncsMail before after
mail_same before after mail =
    between-map (λ a b. ((number : ℕ) → b (file.Mail number) ≡ a (file.Mail number)) × ((hash id : List ℕ) → b (file.Inst hash id) ≡ a (file.Inst hash id))) Mails before after (λ a b m. ((λ number. inl (m.0 number)), (λ hash id. inl (m.1 hash id)))) mail

region_moves : (row now : MapRecord) (a b : DiskState) → but_count now ≡ but_count row → Mails a b → (octets : List ℕ) → HasRegionOctets (files_of a) row octets → HasRegionOctets (files_of b) now octets
region_moves row now a b same mails octets h =
    let to : record row { count = now.count } ≡ now = sym (ap (λ (r : MapRecord). record r { count = now.count }) same) in
    subst (λ (r : MapRecord). HasRegionOctets (files_of b) r octets) to (record { there = h.there; in_file = synced_reads (a (file.Mail row.file)) (b (file.Mail row.file)) (mails.0 row.file) ∙ h.in_file; inside = h.inside; same = h.same })

same_but : (row now : MapRecord) → but_count now ≡ but_count row → now ≡ record row { count = now.count; file = now.file; offset = now.offset }
same_but row now same =
    let k = ap (λ (r : MapRecord). record r { count = now.count; file = now.file; offset = now.offset }) same in
    k

pub record_kept : {D : Type 0} → (uid : ℕ) (row : MapRecord) (old new : StoreValue D) (before after : Option History) → SyncsMail before after → SameButCounts old.map new.map → record_at old.map uid ≡ Some row → LeavesRecord uid row new before after
record_kept uid row old new before after mail same there =
    let f = found_same uid old.map.records new.map.records row same there in
    record {
      now = f.0;
      there = f.1;
      is_same = same_but row f.0 f.2;
      region = between-map Mails (λ a b. (octets : List ℕ) → HasRegionOctets (files_of a) row octets → HasRegionOctets (files_of b) f.0 octets) before after (λ a b m octets h. region_moves row f.0 a b f.2 m octets h) mail;
      instances = between-map Mails (λ a b. HaveSameInstances row.instances (files_of a) (files_of b)) before after
          (λ a b m. λ i d lt own is. synced_reads (a (instance_file (get_or row.instances i d))) (b (instance_file (get_or row.instances i d))) (m.1 (get_or row.instances i d).hash.0 (get_or row.instances i d).id.0) ∙ is) mail;
    }

-- ---- files and instances

file_kept : {D : Type 0} → (number : ℕ) (old new : StoreValue D) (before after : Option History) → new.files ≡ old.files → SyncsMail before after → SameButCounts old.map new.map → LeavesFile number old new before after
file_kept number old new before after files mail same = record {
  known = ap (λ (f : FilesValue). option_map (with_pins 0) (file_in number f.files)) files;
  records = rows_same number old.map new.map same;
  guids = λ guid of all. all_same (λ row. row.guid ≢ guid) old.map.records new.map.records (λ a b e other is. other (sym (ap (λ (r : MapRecord). r.guid) e) ∙ is)) same all;
  state = between-map Mails (λ a b. IsSameOrSynced (a (file.Mail number)) (b (file.Mail number))) before after (λ a b m. m.0 number) mail;
}

stays : (n : ℕ) → n ≤ n
stays n = omega arith

grown_kept : {D : Type 0} → (number : ℕ) (old new : StoreValue D) (before after : Option History) → new.files ≡ old.files → SyncsMail before after → OnlyGrows number old new before after
grown_kept number old new before after files mail = record {
  there = λ end is. (end, ap (λ (f : FilesValue). end_in number f.files) files ∙ is, stays end);
  reads = between-map Mails (λ a b. (octets : List ℕ) → reading (a (file.Mail number)) ≡ Some octets → (more : List ℕ) × (reading (b (file.Mail number)) ≡ Some (octets ++ more))) before after
      (λ a b m octets is. ([], synced_reads (a (file.Mail number)) (b (file.Mail number)) (m.0 number) ∙ (is ∙ ap Some (sym (append-nil octets))))) mail;
}

pub instance_kept : {D : Type 0} → (row : InstRow) (old new : StoreValue D) (before after : Option History) → KeepsInstances old new before after → IsKnownRow old.instances.known row → LeavesInstance row old new before after
instance_kept row old new before after keeps known = record {
  known = keeps.known row known;
  reads = between-map (λ a b. (r : InstRow) → IsKnownRow old.instances.known r → reading (b (instance_file r)) ≡ reading (a (instance_file r))) (λ a b. reading (b (instance_file row)) ≡ reading (a (instance_file row))) before after (λ a b r. r row known) keeps.reads;
  first = between-map (λ a b. (r : InstRow) → IsKnownRow old.instances.known r → IsFirstKnown old.instances.known a r → IsFirstKnown new.instances.known b r) (λ a b. IsFirstKnown old.instances.known a row → IsFirstKnown new.instances.known b row) before after (λ a b f. f row known) keeps.first;
}

-- nothing was placed
pub none_placed : (instances : InstancesValue) → PlacesFew instances instances
none_placed instances = record { drawn = omega arith; few = omega arith; candidates = λ none hash size after. omega arith; last = λ some. absurd (some refl) }

-- ---- all of it

-- records that are the same but for their counts name the same
counts_name : (rows : List MapRecord) → map origin_and_names (map but_count rows) ≡ map origin_and_names rows
counts_name [] = refl
counts_name (row ∷ rows) = ap (λ (ps : List (ℕ × List InstRow)). origin_and_names row ∷ ps) (counts_name rows)

pub counts_name_same : (m n : MapMeaning) → SameButCounts m n → NameTheSame m n
counts_name_same m n same = sym (counts_name n.records) ∙ ap (map origin_and_names) same ∙ counts_name m.records

pub rest_leaves : {D : Type 0} → (mine : Claims) (old new : StoreValue D) (before after : Option History) → new.files ≡ old.files → new.instances ≡ old.instances → SyncsMail before after → SameButCounts old.map new.map → RaisesNone old.map new.map → old.map.highest.mailbox ≤ new.map.highest.mailbox → old.map_log.end ≤ new.map_log.end
    → (NamesStay old.map new.map ⊎ (old.map_log.end < new.map_log.end)) → KeepsGone old new → KeepsUids old new → old.map_log.room ≤ new.map_log.room → LeavesUnlisted mine old new
    → LeavesOthers mine old new before after
rest_leaves mine old new before after files instances mail same unraised mailboxes end names gone uids room unlisted =
    let firm = firm_same old new before after instances (counts_name_same old.map new.map same) (between-map Mails SyncsInstances before after (λ a b m. m.1) mail) in
    let keeps = kept_same old new before after instances (between-map Mails ReadsInstances before after (λ a b m hash id. synced_reads (a (file.Inst hash id)) (b (file.Inst hash id)) (m.1 hash id)) mail) firm in
    record {
      records = λ uid row more there. record_kept uid row old new before after mail same there;
      unlisted = unlisted;
      files = λ number took. file_kept number old new before after files mail same;
      grow = λ number more. grown_kept number old new before after files mail;
      instances = λ row known more. instance_kept row old new before after keeps known;
      unraised = unraised;
      store = keeps.store;
      numbers = subst (λ (v : InstancesValue). PlacesFew old.instances v) (sym instances) (none_placed old.instances);
      mailboxes = mailboxes;
      end = end;
      names = names;
      gone = gone;
      compared = keeps.compared;
      firm = firm;
      uids = uids;
      room = room;
      told = between-map Mails (λ a b. Unit {0}) before after (λ a b m. tt) mail;
    }

-- an event that changes nothing
pub idle_leaves : {D : Type 0} → (mine : Claims) (store : StoreValue D) (before after : Option History) → IsIdle before after → LeavesOthers mine store store before after
idle_leaves mine store before after idle =
    rest_leaves mine store store before after refl refl (between-map (λ a b. b ≡ a) Mails before after (λ a b e. ((λ number. inl (ap (λ (d : DiskState). d (file.Mail number)) e)), (λ hash id. inl (ap (λ (d : DiskState). d (file.Inst hash id)) e)))) idle.same) refl (unraised_same store.map store.map refl) (stays store.map.highest.mailbox) (stays store.map_log.end) (inl (λ name number is. is))
    (λ number g. g) (λ number uid held k. k) (stays store.map_log.room) (λ uid rec none found listed. (listed, refl))

-- ---- claims

-- what is due moves, and the rest stays
pub due_claims : {D : Type 0} → (mine mine_now : ℕ → ℕ) (old new : StoreValue D) → ((uid : ℕ) → due_at uid new + mine uid ≡ due_at uid old + mine_now uid) → KeepsRest old new → MovesClaims (claims_of_dues mine) (claims_of_dues mine_now) old new
due_claims mine mine_now old new moves rest (Due uid) = moves uid
due_claims mine mine_now old new moves rest (Pinned file) = ap (λ (v : StoreValue _). amount_in (Pinned file) v + 0) rest
due_claims mine mine_now old new moves rest (Taken file) = ap (λ (v : StoreValue _). amount_in (Taken file) v + 0) rest
due_claims mine mine_now old new moves rest (Emptied file) = ap (λ (v : StoreValue _). amount_in (Emptied file) v + 0) rest
due_claims mine mine_now old new moves rest (PlacingPieces file) = ap (λ (v : StoreValue _). amount_in (PlacingPieces file) v + 0) rest
due_claims mine mine_now old new moves rest (Removing file) = ap (λ (v : StoreValue _). amount_in (Removing file) v + 0) rest
due_claims mine mine_now old new moves rest (Held id) = ap (λ (v : StoreValue _). amount_in (Held id) v + 0) rest
due_claims mine mine_now old new moves rest (Made number) = ap (λ (v : StoreValue _). amount_in (Made number) v + 0) rest

-- no amount has changed
pub rest_amounts : {D : Type 0} → (old new : StoreValue D) → ((uid : ℕ) → due_at uid new ≡ due_at uid old) → KeepsRest old new → (thing : Thing) → amount_in thing new ≡ amount_in thing old
rest_amounts old new due rest (Due uid) = due uid
rest_amounts old new due rest (Pinned file) = ap (λ (v : StoreValue _). amount_in (Pinned file) v) rest
rest_amounts old new due rest (Taken file) = ap (λ (v : StoreValue _). amount_in (Taken file) v) rest
rest_amounts old new due rest (Emptied file) = ap (λ (v : StoreValue _). amount_in (Emptied file) v) rest
rest_amounts old new due rest (PlacingPieces file) = ap (λ (v : StoreValue _). amount_in (PlacingPieces file) v) rest
rest_amounts old new due rest (Removing file) = ap (λ (v : StoreValue _). amount_in (Removing file) v) rest
rest_amounts old new due rest (Held id) = ap (λ (v : StoreValue _). amount_in (Held id) v) rest
rest_amounts old new due rest (Made number) = ap (λ (v : StoreValue _). amount_in (Made number) v) rest

pub same_claims : {D : Type 0} → (mine : Claims) (old new : StoreValue D) → ((thing : Thing) → amount_in thing new ≡ amount_in thing old) → MovesClaims mine mine old new
same_claims mine old new same thing = ap (λ (n : ℕ). n + mine thing) (same thing)

-- a task of which nothing is due claims nothing
pub none_claimed_of : (due : ℕ → ℕ) → ((uid : ℕ) → due uid ≡ 0) → ClaimsNothing (claims_of_dues due)
none_claimed_of due none (Due uid) = none uid
none_claimed_of due none (Pinned file) = refl
none_claimed_of due none (Taken file) = refl
none_claimed_of due none (Emptied file) = refl
none_claimed_of due none (PlacingPieces file) = refl
none_claimed_of due none (Removing file) = refl
none_claimed_of due none (Held id) = refl
none_claimed_of due none (Made number) = refl
