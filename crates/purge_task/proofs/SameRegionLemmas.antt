-- Records keep the octets of their regions where at most one file changes, in which none of them lies.
use Rattle.purge_task.proofs.Common.{◌≡◌, ◌≢◌, ℕ, false, List, get_or, Option, Some, None, refl, sym, ◌∙◌, ap, subst, All, Contains, All-contains, All-weaker, Between, DiskState, Files, History, IfTold, IsIdle, SameButFor, named, reading, FileName, between-if, between-map, HasSameOctets, MapMeaning}
use Rattle.purge_task.proofs.Common.{MapRecord, record_at, IsSoundMap, LiesInFile, files_of, at_uid, OthersAreNamed, AreElsewhere, IsStore, StoreValue, store_sound, named_reads, HaveSameRegions}
use Rattle.disk_model.specs.declared.name.FileName.TheVariants as file

-- each lies in its file
pub lie_told : {D : Type 0} → (store : StoreValue D) (history : Option History) → IsStore history store → store.stopped ≡ false → IfTold history (λ now. All (LiesInFile (files_of now)) store.map.records)
lie_told store None is runs = tt
lie_told store (Some d) is runs = let running = is.running runs in subst (λ (m : MapMeaning). All (LiesInFile (files_of d.now)) m.records) (sym is.map_is) running.opens.regions

-- the records of one map uid are one
same_uid : (m : MapMeaning) (row now : MapRecord) → IsSoundMap m → Contains m.records row → Contains m.records now → now.uid ≡ row.uid → row ≡ now
same_uid m row now sound cr cn uid = let e : Some row ≡ Some now = sym (at_uid m row sound cr) ∙ (ap (record_at m) (sym uid) ∙ at_uid m now sound cn) in cc e

-- where no file of a record has changed
stay_same : (old new : Files) (m : MapMeaning) → IsSoundMap m → All (LiesInFile old) m.records → All (λ row. new (file.Mail row.file) ≡ old (file.Mail row.file)) m.records → HaveSameRegions old new m m
stay_same old new m sound whole mails row now cr cn uid =
    let lies : LiesInFile old row = All-contains (LiesInFile old) m.records row whole cr in
    subst (λ (r : MapRecord). HasSameOctets old new row r) (same_uid m row now sound cr cn uid)
    (record { there = lies.octets; now = lies.octets; in_old = lies.there; in_new = All-contains (λ (r : MapRecord). new (file.Mail r.file) ≡ old (file.Mail r.file)) m.records row mails cr ∙ lies.there; same = refl })

-- each other file reads as it did
abbrev ReadsOthers : FileName → DiskState → DiskState → Type 0
ReadsOthers own a b = (other : FileName) → other ≢ own → reading (b other) ≡ reading (a other)

regions_read : {D : Type 0} → (own : FileName) (old : StoreValue D) (now : MapMeaning) (before later : Option History) → IsStore before old → old.stopped ≡ false → now ≡ old.map → All (λ row. file.Mail row.file ≢ own) old.map.records → Between (ReadsOthers own) before later
    → Between (λ a b. HaveSameRegions (files_of a) (files_of b) old.map now) before later
regions_read own old now before later is runs same apart others = subst (λ (m : MapMeaning). Between (λ a b. HaveSameRegions (files_of a) (files_of b) old.map m) before later) (sym same)
    (between-if (ReadsOthers own) (λ a b. HaveSameRegions (files_of a) (files_of b) old.map old.map) (λ now. All (LiesInFile (files_of now)) old.map.records) before later
    (λ a b kept whole. stay_same (files_of a) (files_of b) old.map (store_sound before old is) whole
    (All-weaker (λ (row : MapRecord). file.Mail row.file ≢ own) (λ (row : MapRecord). reading (b (file.Mail row.file)) ≡ reading (a (file.Mail row.file))) (λ row other. kept (file.Mail row.file) other) old.map.records apart))
    others (lie_told old before is runs))

mails_apart : (n : ℕ) (rows : List MapRecord) → AreElsewhere n rows → All (λ row. file.Mail row.file ≢ file.Mail n) rows
mails_apart n rows apart = All-weaker (λ (row : MapRecord). row.file ≢ n) (λ (row : MapRecord). file.Mail row.file ≢ file.Mail n) (λ row other e. other (let k : row.file ≡ n = cc e in k)) rows apart

-- where one storage file may have changed, in which no record lies
pub regions_but : {D : Type 0} → (n : ℕ) (old : StoreValue D) (now : MapMeaning) (before later : Option History) → IsStore before old → old.stopped ≡ false → now ≡ old.map → AreElsewhere n old.map.records → SameButFor (file.Mail n) before later → Between (λ a b. HaveSameRegions (files_of a) (files_of b) old.map now) before later
regions_but n old now before later is runs same apart others =
    regions_read (file.Mail n) old now before later is runs same (mails_apart n old.map.records apart)
    (between-map (λ a b. (other : FileName) → other ≢ file.Mail n → b other ≡ a other) (ReadsOthers (file.Mail n)) before later (λ a b kept other apart. ap reading (kept other apart)) others)

-- the same, with names synced
pub regions_named : {D : Type 0} → (n : ℕ) (old : StoreValue D) (now : MapMeaning) (before later : Option History) → IsStore before old → old.stopped ≡ false → now ≡ old.map → AreElsewhere n old.map.records → OthersAreNamed (file.Mail n) before later → Between (λ a b. HaveSameRegions (files_of a) (files_of b) old.map now) before later
regions_named n old now before later is runs same apart others =
    regions_read (file.Mail n) old now before later is runs same (mails_apart n old.map.records apart)
    (between-map (λ a b. (other : FileName) → other ≢ file.Mail n → b other ≡ named (a other)) (ReadsOthers (file.Mail n)) before later (λ a b kept other apart. ap reading (kept other apart) ∙ named_reads (a other)) others)

-- where an instance may have changed
pub regions_gone : {D : Type 0} → (hash id : List ℕ) (old : StoreValue D) (now : MapMeaning) (before later : Option History) → IsStore before old → old.stopped ≡ false → now ≡ old.map → SameButFor (file.Inst hash id) before later → Between (λ a b. HaveSameRegions (files_of a) (files_of b) old.map now) before later
regions_gone hash id old now before later is runs same others =
    regions_read (file.Inst hash id) old now before later is runs same (λ i d lt e. cc e)
    (between-map (λ a b. (other : FileName) → other ≢ file.Inst hash id → b other ≡ a other) (ReadsOthers (file.Inst hash id)) before later (λ a b kept other apart. ap reading (kept other apart)) others)

-- where nothing has changed
pub regions_idle : {D : Type 0} → (old : StoreValue D) (now : MapMeaning) (before later : Option History) → IsStore before old → old.stopped ≡ false → now ≡ old.map → IsIdle before later → Between (λ a b. HaveSameRegions (files_of a) (files_of b) old.map now) before later
regions_idle old now before later is runs same idle = subst (λ (m : MapMeaning). Between (λ a b. HaveSameRegions (files_of a) (files_of b) old.map m) before later) (sym same)
    (between-if (λ a b. b ≡ a) (λ a b. HaveSameRegions (files_of a) (files_of b) old.map old.map) (λ now. All (LiesInFile (files_of now)) old.map.records) before later
    (λ a b still whole. stay_same (files_of a) (files_of b) old.map (store_sound before old is) whole (λ i d lt. ap (λ (s : DiskState). reading (s (file.Mail (get_or old.map.records i d).file))) still)) idle.same (lie_told old before is runs))
