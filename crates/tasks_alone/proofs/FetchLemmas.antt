-- What the events of a fetch alone say together.
use Rattle.std.specs.Prelude.{length, ◌≡◌, ◌⊎◌, ◌≤◌, ◌<◌, ◌==◌, ◌&&◌, ℕ, Bool, true, false, is_some, if◌then◌else◌, List, [], ◌∷◌, ◌++◌, map, flat_map, Option, Some, None}
use Rattle.std.proofs.Common.{refl, sym, ◌∙◌, ap, subst, inl, inr, append_assoc, append-nil, arith}
use Rattle.std.specs.Option.{option_map}
use Rattle.std.proofs.lemmas.Bool.{cases_lt}
use Rattle.std.proofs.lemmas.List.Elements.{All-contains}
use Rattle.disk_model.specs.Disk.{DiskState, History, Faults, IfTold, IsIdle, reading}
use Rattle.disk_model.specs.FaultCounts.{NoFault}
use Rattle.disk_model.specs.declared.name.FileName.TheVariants.{Mail, Inst}
use Rattle.disk_model.proofs.IdleLemmas.{idle-begins, idle-then, idle-on}
use Rattle.disk_model.proofs.MomentLemmas.{if_told-all, if_told-map, if_told-both}
use Rattle.mdbox_base.specs.Streams.{Rose}
use Rattle.mdbox_base.specs.declared.entries.InstRow.{InstRow}
use Rattle.mdbox_base.specs.declared.ids.Uid.{Uid}
use Rattle.mdbox_base.specs.declared.progress.Did.{Did}
use Rattle.mdbox_base.specs.declared.progress.Progress.{Progress}
use Rattle.mdbox_base.specs.declared.progress.Progress.TheVariants as progress
use Rattle.mdbox_base.specs.declared.replies.Refusal.{Refusal}
use Rattle.mdbox_base.specs.declared.replies.Refusal.TheVariants as refusal
use Rattle.mdbox_base.specs.declared.replies.Reply.{Reply}
use Rattle.mdbox_base.specs.declared.replies.Reply.TheVariants as reply
use Rattle.mdbox_base.specs.declared.requests.Request.TheVariants as request
use Rattle.model_meaning.specs.BoxMeaning.{LogRow, BoxMeaning, row_at}
use Rattle.model_meaning.specs.MapMeaning.{MapRecord, record_at}
use Rattle.model_meaning.specs.Sound.{IsSoundRecord}
use Rattle.model_octets.proofs.SearchLemmas.{found_one}
use Rattle.model_store.specs.Settled.{files_of}
use Rattle.storage_files.specs.Files.{end_in, is_doomed_in, pins_in}
use Rattle.storage_files.specs.OnDisk.{piece_read}
use Rattle.store_core.specs.Running.{IsStore}
use Rattle.store_core.specs.Value.{StoreValue, list_named}
use Rattle.task_steps.specs.Step.{ended_by}
use Rattle.mail_ops.specs.Requests.{IsOpsRequest}
use Rattle.mail_fetch.specs.Claims.{used_by}
use Rattle.mail_fetch.specs.Clause.{FetchesAlone, MakesOfDisk, OnlyReadsDisk}
use Rattle.mail_fetch.specs.Events.{fetch_refusal, IsAbsent, IsStoredBy, IsBegun, next_piece, with_piece, IsPieceRead, FetchesNext, NoChangeFault}
use Rattle.mail_fetch.specs.Failed.{HasFailedRead}
use Rattle.mail_fetch.specs.Parts.{instance_part, left_after, parts_to_read, parts_read, pieces_left}
use Rattle.mail_fetch.specs.Region.{stored_at, RegionValue, unread, HoldsWhole, IsReplyFor, damage_at}
use Rattle.mail_fetch.specs.declared.parts.StoredAt.{StoredAt}
use Rattle.mail_fetch.specs.declared.task.FetchStage.{FetchStage}
use Rattle.mail_fetch.specs.declared.task.FetchStage.TheVariants as stage
use Rattle.mail_fetch.proofs.AbsentLemmas.{absent_damaged, nothing_damaged}
use Rattle.mail_fetch.proofs.StageLemmas.{used_only, used_undoomed}
use Rattle.mail_fetch.proofs.StepLemmas.{store_is_sound}
use Rattle.mail_fetch.proofs.PartLemmas.{reads_after, reads_none, reads_of_parts}
use Rattle.lane_tasks.specs.Clause.{FetchesSo, StaysOfRequest, TellsStore, progress_by}
use Rattle.lane_tasks.specs.Tasks.{BeginsTask}
use Rattle.lane_tasks.specs.declared.task.Task.{Task}
use Rattle.lane_tasks.specs.declared.task.Task.TheVariants as task
use Rattle.lane_tasks.proofs.StepLemmas.{ops_asked}
use Rattle.script_run.specs.One.{missing_cause}
use Rattle.script_run.proofs.OneTaskLemmas.{KeepsCounted}
use Rattle.tasks_alone.specs.FetchAlone.{message_read, IsFetchAnswer}
use Rattle.tasks_alone.specs.FaultsAlone.{FaultsByReply}

-- ---- a message, piece by piece

rows_read : (disk : DiskState) (rows : List InstRow) → parts_read (files_of disk) (map instance_part rows) ≡ flat_map (λ row. piece_read 0 row.size (reading (disk (Inst row.hash.0 row.id.0)))) rows
rows_read disk [] = refl
rows_read disk (row ∷ rows) = ap (λ (xs : List ℕ). piece_read 0 row.size (reading (disk (Inst row.hash.0 row.id.0))) ++ xs) (rows_read disk rows)

all_read : (row : LogRow) (entry : MapRecord) (disk : DiskState) → parts_read (files_of disk) (parts_to_read (stored_at row entry)) ≡ message_read entry disk
all_read row entry disk =
    reads_of_parts (files_of disk) (stored_at row entry)
    ∙ ap (λ (xs : List ℕ). piece_read entry.offset entry.size (reading (disk (Mail entry.file))) ++ xs) (rows_read disk entry.instances)

-- the octets that were read so far are the first of those that the disk reads
abbrev HasRead : MapRecord → RegionValue → DiskState → Type 0
HasRead entry region disk = region.octets ++ parts_read (files_of disk) region.left ≡ message_read entry disk

region_more : (entry : MapRecord) (region : RegionValue) (piece : List ℕ) (disk : DiskState) → HasRead entry region disk → piece ≡ next_piece region disk → HasRead entry (with_piece region piece) disk
region_more entry region piece disk read is =
    append_assoc region.octets piece (parts_read (files_of disk) (left_after region.left))
    ∙ (ap (λ (xs : List ℕ). region.octets ++ xs) (ap (λ (xs : List ℕ). xs ++ parts_read (files_of disk) (left_after region.left)) is ∙ reads_after (files_of disk) region.left) ∙ read)

region_whole : (entry : MapRecord) (region : RegionValue) (disk : DiskState) → pieces_left region.left ≡ 0 → HasRead entry region disk → region.octets ≡ message_read entry disk
region_whole entry region disk none read = sym (append-nil region.octets) ∙ (ap (λ (xs : List ℕ). region.octets ++ xs) (sym (reads_none (files_of disk) region.left none)) ∙ read)

-- ---- replies

-- why a message isn't found
missing_why : (found : Option BoxMeaning) (uid : ℕ) (why : Refusal) → missing_cause found uid ≡ Some why → (why ≡ refusal.NoMailbox) ⊎ (why ≡ refusal.NoMessage)
missing_why None uid why e = inl (cc e)
missing_why (Some m) uid why e = by_row (is_some (row_at m uid)) e
  where
    by_row : (b : Bool) → (if b then None else Some refusal.NoMessage) ≡ Some why → (why ≡ refusal.NoMailbox) ⊎ (why ≡ refusal.NoMessage)
    by_row true k = absurd (let z : None ≡ Some why = k in cc z)
    by_row false k = inr (cc k)

pub cause_of : {D : Type 0} → (name : List ℕ) (uid : ℕ) (s : StoreValue D) → s.stopped ≡ false → fetch_refusal name uid s ≡ missing_cause (list_named s name) uid
cause_of name uid s running = ap (λ (b : Bool). if b then Some refusal.Stopped else missing_cause (list_named s name) uid) running

-- no event of a fetch stops the store, and only a read that failed is replied as such
abbrev IsCalm : Reply → Type 0
IsCalm given = (given ≡ reply.Refused refusal.ReadFault → ⊥) × (given ≡ reply.Refused refusal.Stopped → ⊥)

refused_calm : (given : Reply) (why : Refusal) → given ≡ reply.Refused why → (why ≡ refusal.NoMailbox) ⊎ (why ≡ refusal.NoMessage) → IsCalm given
refused_calm given why e (inl w) = (
  λ f. let k : reply.Refused refusal.NoMailbox ≡ reply.Refused refusal.ReadFault = ap (λ (r : Refusal). reply.Refused r) (sym w) ∙ (sym e ∙ f) in let r : refusal.NoMailbox ≡ refusal.ReadFault = cc k in cc r,
  λ f. let k : reply.Refused refusal.NoMailbox ≡ reply.Refused refusal.Stopped = ap (λ (r : Refusal). reply.Refused r) (sym w) ∙ (sym e ∙ f) in let r : refusal.NoMailbox ≡ refusal.Stopped = cc k in cc r,
)
refused_calm given why e (inr w) = (
  λ f. let k : reply.Refused refusal.NoMessage ≡ reply.Refused refusal.ReadFault = ap (λ (r : Refusal). reply.Refused r) (sym w) ∙ (sym e ∙ f) in let r : refusal.NoMessage ≡ refusal.ReadFault = cc k in cc r,
  λ f. let k : reply.Refused refusal.NoMessage ≡ reply.Refused refusal.Stopped = ap (λ (r : Refusal). reply.Refused r) (sym w) ∙ (sym e ∙ f) in let r : refusal.NoMessage ≡ refusal.Stopped = cc k in cc r,
)

memory_calm : (given : Reply) → given ≡ reply.Refused refusal.NoMemory → IsCalm given
memory_calm given e = (
  λ f. let k : reply.Refused refusal.NoMemory ≡ reply.Refused refusal.ReadFault = sym e ∙ f in let r : refusal.NoMemory ≡ refusal.ReadFault = cc k in cc r,
  λ f. let k : reply.Refused refusal.NoMemory ≡ reply.Refused refusal.Stopped = sym e ∙ f in let r : refusal.NoMemory ≡ refusal.Stopped = cc k in cc r,
)

region_calm : (from : StoredAt) (region : List ℕ) (given : Reply) → IsReplyFor from region given → IsCalm given
region_calm from region given (inl (octets, holds, e)) = (
  λ f. let k : reply.Fetched octets ≡ reply.Refused refusal.ReadFault = sym e ∙ f in cc k,
  λ f. let k : reply.Fetched octets ≡ reply.Refused refusal.Stopped = sym e ∙ f in cc k,
)
region_calm from region given (inr (none, e)) = (
  λ f. let k : damage_at from ≡ reply.Refused refusal.ReadFault = sym e ∙ f in let r : refusal.Damaged from.file from.offset ≡ refusal.ReadFault = cc k in cc r,
  λ f. let k : damage_at from ≡ reply.Refused refusal.Stopped = sym e ∙ f in let r : refusal.Damaged from.file from.offset ≡ refusal.Stopped = cc k in cc r,
)

answer_runs : (row : LogRow) (entry : MapRecord) (history : Option History) (given : Reply) → IsFetchAnswer row entry history given → given ≡ reply.Refused refusal.Stopped → ⊥
answer_runs row entry history given (inl e) = λ f. let k : reply.Refused refusal.ReadFault ≡ reply.Refused refusal.Stopped = sym e ∙ f in let r : refusal.ReadFault ≡ refusal.Stopped = cc k in cc r
answer_runs row entry history given (inr (region, told, is)) = (region_calm (stored_at row entry) region given is).1

failed_is : (from : StoredAt) (given : Reply) → HasFailedRead (stage.Unpinning from given) → given ≡ reply.Refused refusal.ReadFault
failed_is from (reply.Refused refusal.ReadFault) h = refl
failed_is from (reply.Refused other) h = absurd h
failed_is from other h = absurd h

has_failed : (from : StoredAt) (given : Reply) → given ≡ reply.Refused refusal.ReadFault → HasFailedRead (stage.Unpinning from given)
has_failed from given e = subst (λ (r : Reply). HasFailedRead (stage.Unpinning from r)) (sym e) tt

more_done : (given : Reply) → progress.More ≡ progress.Done given → ⊥
more_done given e = cc e

one_done : (a b : Reply) → progress.Done a ≡ progress.Done b → a ≡ b
one_done a b e = cc e

-- ---- an event

-- the first store, with this one's disk, storage files and instances
abbrev pub at_use : {D : Type 0} → StoreValue D → StoreValue D → StoreValue D
at_use first now = record first { disk = now.disk; files = now.files; instances = now.instances }

-- How an event of a fetch alone answers: no file is doomed, so that none is to be removed.
abbrev AloneNext : {D : Type 0} → List ℕ → ℕ → FetchStage → FetchStage → Progress → StoreValue D → Option History → Faults → Faults → Type 0
AloneNext name uid (stage.Unpinning from given) next answer store history old new =
    (store.stopped ≡ true → (answer ≡ progress.Done (reply.Refused refusal.Stopped)) × (next ≡ stage.Unpinning from given)) × (store.stopped ≡ false → (answer ≡ progress.Done given) × (next ≡ stage.First))
AloneNext name uid (stage.Removing file given) next answer store history old new = ⊥
AloneNext name uid now next answer store history old new = FetchesNext name uid now next answer store history old new

-- ---- what is known at each stage

-- What was read so far, or what will be replied, of the record that the logs name. No file is removed.
abbrev pub StageKnows : {D : Type 0} → List ℕ → ℕ → StoreValue D → Option History → FetchStage → Type 0
StageKnows name uid store history stage.First = Unit {0}
StageKnows name uid store history (stage.Reading region) =
    (row : LogRow) × (entry : MapRecord) × (fetch_refusal name uid store ≡ None) × IsStoredBy name uid store row entry × (region.from ≡ stored_at row entry) × IfTold history (HasRead entry region)
StageKnows name uid store history (stage.Unpinning from given) =
    (row : LogRow) × (entry : MapRecord) × (fetch_refusal name uid store ≡ None) × IsStoredBy name uid store row entry × (from ≡ stored_at row entry) × IsFetchAnswer row entry history given
StageKnows name uid store history (stage.Removing file given) = ⊥

stored_first : {D : Type 0} → (name : List ℕ) (uid : ℕ) (first d : StoreValue D) (row : LogRow) (entry : MapRecord) → IsStoredBy name uid (at_use first d) row entry → IsStoredBy name uid first row entry
stored_first name uid first d row entry k = record { mailbox = k.mailbox; named = k.named; listed = k.listed; stored = k.stored; same = k.same }

answer_on : (row : LogRow) (entry : MapRecord) (old new : Option History) (given : Reply) → IsIdle old new → IsFetchAnswer row entry old given → IsFetchAnswer row entry new given
answer_on row entry old new given idle (inl e) = inl e
answer_on row entry old new given idle (inr (region, told, is)) = inr (region, idle-on (λ disk. region ≡ message_read entry disk) old new idle told, is)

-- behind the first event
begun_knows : {D : Type 0} → (name : List ℕ) (uid : ℕ) (first d : StoreValue D) (new : Option History) (next : FetchStage) (cause : Option Refusal) → fetch_refusal name uid first ≡ cause → IsBegun name uid (at_use first d) next progress.More → StageKnows name uid first new next
begun_knows name uid first d new next (Some why) e b = absurd (more_done (reply.Refused why) (b.refused why e).0)
begun_knows name uid first d new next None e b = elim (b.begun e) [
  | inl p ↦
      let pin = p.1 in
      let region = pin.0 in
      let is = pin.1 in
      subst (λ (s : FetchStage). StageKnows name uid first new s) (sym pin.2)
      (subst (λ (r : RegionValue). StageKnows name uid first new (stage.Reading r)) (sym is.3)
      (is.0, is.1, e, stored_first name uid first d is.0 is.1 is.2, refl, if_told-all (HasRead is.1 (unread (stored_at is.0 is.1))) new (λ disk. all_read is.0 is.1 disk)))
  | inr p ↦ absurd (more_done (reply.Refused p.0) p.2)
]

-- behind a piece
piece_knows : {D : Type 0} → (name : List ℕ) (uid : ℕ) (first : StoreValue D) (old new : Option History) (f g : Faults) (region : RegionValue) (next : FetchStage) → IsIdle old new → StageKnows name uid first old (stage.Reading region) → IsPieceRead region next old f g → StageKnows name uid first new next
piece_knows name uid first old new f g region next idle (row, entry, none, stored, from, read) (inr (rose, is)) =
    subst (λ (s : FetchStage). StageKnows name uid first new s) (sym is) (row, entry, none, stored, from, inl refl)
piece_knows name uid first old new f g region next idle (row, entry, none, stored, from, read) (inl (piece, told, goes)) = by_size (cases_lt 0 (pieces_left (left_after region.left)))
  where
    read_now : IfTold new (HasRead entry (with_piece region piece))
    read_now = idle-on (HasRead entry (with_piece region piece)) old new idle (if_told-both (HasRead entry region) (λ disk. piece ≡ next_piece region disk) (HasRead entry (with_piece region piece)) old (λ disk r p. region_more entry region piece disk r p) read told)

    by_size : (0 < pieces_left (left_after region.left)) ⊎ (pieces_left (left_after region.left) ≤ 0) → StageKnows name uid first new next
    by_size (inl more) = subst (λ (s : FetchStage). StageKnows name uid first new s) (sym (goes.more more)) (row, entry, none, stored, from, read_now)
    by_size (inr last) =
        let none_left : pieces_left (left_after region.left) ≡ 0 = omega (arith, last) in
        let l = goes.last none_left in
        subst (λ (s : FetchStage). StageKnows name uid first new s) (sym l.1)
        (row, entry, none, stored, from, inr (region.octets ++ piece, if_told-map (HasRead entry (with_piece region piece)) (λ disk. region.octets ++ piece ≡ message_read entry disk) new (λ disk r. region_whole entry (with_piece region piece) disk none_left r) read_now, subst (λ (a : StoredAt). IsReplyFor a (region.octets ++ piece) l.0) from l.2))

-- behind any event that goes on
knows_on : {D : Type 0} → (name : List ℕ) (uid : ℕ) (first old : StoreValue D) (before after : Option History) (f g : Faults) (now next : FetchStage) → first.stopped ≡ false → IsIdle before after → StageKnows name uid first before now → AloneNext name uid now next progress.More (at_use first old) before f g → StageKnows name uid first after next
knows_on name uid first old before after f g stage.First next running idle k r = begun_knows name uid first old after next (fetch_refusal name uid first) refl r
knows_on name uid first old before after f g (stage.Reading region) next running idle k r = piece_knows name uid first before after f g region next idle k (r.1 running).1
knows_on name uid first old before after f g (stage.Unpinning from given) next running idle k r = absurd (more_done given (r.1 running).0)
knows_on name uid first old before after f g (stage.Removing file given) next running idle k r = absurd r

-- ---- the counts of faults

-- The count of failed changes has stayed; that of failed reads rose if one will be replied, and stayed if not.
pub record FaultsSoFar (now : FetchStage) (began later : Faults) : Type 0 where
  pub reads : began.reads ≤ later.reads
  pub changes : later.changes ≡ began.changes
  pub failed : HasFailedRead now → Rose began.reads later.reads
  pub unfailed : (HasFailedRead now → ⊥) → NoFault began later

rose_from : (began mid later : Faults) → NoFault began mid → Rose mid.reads later.reads → Rose began.reads later.reads
rose_from began mid later same rose = subst (λ (f : Faults). Rose f.reads later.reads) same rose

-- at an event that goes on no read had failed before, and one failed if it will be replied
quiet_before : {D : Type 0} → (name : List ℕ) (uid : ℕ) (now next : FetchStage) (store : StoreValue D) (old : Option History) (f g : Faults) → store.stopped ≡ false → AloneNext name uid now next progress.More store old f g → HasFailedRead now → ⊥
quiet_before name uid stage.First next store old f g running r h = h
quiet_before name uid (stage.Reading region) next store old f g running r h = h
quiet_before name uid (stage.Unpinning from given) next store old f g running r h = more_done given (r.1 running).0
quiet_before name uid (stage.Removing file given) next store old f g running r h = r

fails_now : {D : Type 0} → (name : List ℕ) (uid : ℕ) (now next : FetchStage) (store : StoreValue D) (old : Option History) (f g : Faults) → store.stopped ≡ false → AloneNext name uid now next progress.More store old f g → HasFailedRead next → Rose f.reads g.reads
fails_now name uid stage.First next store old f g running b h = by_cause (fetch_refusal name uid store) refl
  where
    by_cause : (cause : Option Refusal) → fetch_refusal name uid store ≡ cause → Rose f.reads g.reads
    by_cause (Some why) e = absurd (more_done (reply.Refused why) (b.refused why e).0)
    by_cause None e = elim (b.begun e) [
      | inl p ↦ absurd (subst HasFailedRead p.1.2 h)
      | inr p ↦ absurd (more_done (reply.Refused p.0) p.2)
    ]
fails_now name uid (stage.Reading region) next store old f g running r h = by_read (r.1 running).1
  where
    by_read : IsPieceRead region next old f g → Rose f.reads g.reads
    by_read (inr (rose, is)) = rose
    by_read (inl (piece, told, goes)) = by_size (cases_lt 0 (pieces_left (left_after region.left)))
      where
        by_size : (0 < pieces_left (left_after region.left)) ⊎ (pieces_left (left_after region.left) ≤ 0) → Rose f.reads g.reads
        by_size (inl more) = absurd (subst HasFailedRead (goes.more more) h)
        by_size (inr last) =
            let l = goes.last (let none_left : pieces_left (left_after region.left) ≡ 0 = omega (arith, last) in none_left) in absurd ((region_calm region.from (region.octets ++ piece) l.0 l.2).0 (failed_is region.from l.0 (subst HasFailedRead l.1 h)))
fails_now name uid (stage.Unpinning from given) next store old f g running r h = absurd (more_done given (r.1 running).0)
fails_now name uid (stage.Removing file given) next store old f g running r h = absurd r

faults_on : {D : Type 0} → (name : List ℕ) (uid : ℕ) (now next : FetchStage) (store : StoreValue D) (old : Option History) (began f g : Faults) → store.stopped ≡ false → FaultsSoFar now began f → AloneNext name uid now next progress.More store old f g → NoChangeFault f g
    → ((HasFailedRead next → ⊥) → NoFault f g) → FaultsSoFar next began g
faults_on name uid now next store old began f g running so r fault unfailed =
    let before : NoFault began f = so.unfailed (quiet_before name uid now next store old f g running r) in
    record {
      reads = (let a = so.reads in let b = fault.reads in omega (arith, a, b));
      changes = fault.changes ∙ so.changes;
      failed = λ h. rose_from began f g before (fails_now name uid now next store old f g running r h);
      unfailed = λ none. unfailed none ∙ before;
    }

-- ---- from what a step says

-- no file is doomed, so not that which is unpinned
alone_next : {D : Type 0} → (name : List ℕ) (uid : ℕ) (now next : FetchStage) (answer : Progress) (s : StoreValue D) (first : StoreValue D) (told history : Option History) (f g : Faults) → ((file : ℕ) → is_doomed_in file s.files.files ≡ false) → StageKnows name uid first told now → FetchesNext name uid now next answer s history f g → AloneNext name uid now next answer s history f g
alone_next name uid stage.First next answer s first told history f g none k r = r
alone_next name uid (stage.Reading region) next answer s first told history f g none k r = r
alone_next name uid (stage.Unpinning from given) next answer s first told history f g none k r = (r.0, λ runs. (r.1 runs).other (ap (λ (b : Bool). b && (pins_in from.file.0 s.files.files == 1)) (none from.file.0)))
alone_next name uid (stage.Removing file given) next answer s first told history f g none k r = absurd k

-- an event of a fetch alone reads at the most
alone_reads : {D : Type 0} → (name : List ℕ) (uid : ℕ) (now next : FetchStage) (s t first : StoreValue D) (told before later : Option History) (began faults : Faults) → StageKnows name uid first told now → MakesOfDisk now next s t before later began faults → OnlyReadsDisk next before later began faults
alone_reads name uid stage.First next s t first told before later began faults k made = made
alone_reads name uid (stage.Reading region) next s t first told before later began faults k made = made
alone_reads name uid (stage.Unpinning from given) next s t first told before later began faults k made = made
alone_reads name uid (stage.Removing file given) next s t first told before later began faults k made = absurd k

-- so it doesn't stop the store
alone_runs : {D : Type 0} → (name : List ℕ) (uid : ℕ) (now next : FetchStage) (s t first : StoreValue D) (told : Option History) → StageKnows name uid first told now → t ≡ record (used_by now next s) { disk = t.disk } → t.stopped ≡ s.stopped
alone_runs {D = D} name uid now next s t first told k e = ap (λ (v : StoreValue D). v.stopped) e ∙ by_stages now next k
  where
    by_stages : (a b : FetchStage) → StageKnows name uid first told a → (used_by a b s).stopped ≡ s.stopped
    by_stages stage.First stage.First k = refl
    by_stages stage.First (stage.Reading region) k = refl
    by_stages stage.First (stage.Unpinning from given) k = refl
    by_stages stage.First (stage.Removing file given) k = refl
    by_stages (stage.Reading region) b k = refl
    by_stages (stage.Unpinning from given) stage.First k = refl
    by_stages (stage.Unpinning from given) (stage.Reading region) k = refl
    by_stages (stage.Unpinning from given) (stage.Unpinning other reply) k = refl
    by_stages (stage.Unpinning from given) (stage.Removing file reply) k = refl
    by_stages (stage.Removing file given) b k = absurd k

still_first : {D : Type 0} → (name : List ℕ) (uid : ℕ) (first s t : StoreValue D) (now next : FetchStage) (told : Option History) → StageKnows name uid first told now → s ≡ at_use first s → t ≡ record (used_by now next s) { disk = t.disk } → t ≡ at_use first t
still_first {D = D} name uid first s t now next told k a b =
    used_only now next s t b
    ∙ (ap (λ (h : Bool). record s { disk = t.disk; files = t.files; instances = t.instances; stopped = h }) (alone_runs name uid now next s t first told k b) ∙ ap (λ (v : StoreValue D). record v { disk = t.disk; files = t.files; instances = t.instances }) a)

-- it runs still
runs_on : {D : Type 0} → (first s : StoreValue D) → s ≡ at_use first s → first.stopped ≡ false → s.stopped ≡ false
runs_on first s same runs = ap (λ (v : StoreValue _). v.stopped) same ∙ runs

-- ---- the whole

-- Where a fetch alone is, behind some of its events: of the store that was opened the disk, the files and the instances may be others,
-- no file is doomed, and nothing of the disk has changed; what it knows, and which calls failed.
pub record IsFetching {D : Type 0} (name : List ℕ) (uid : ℕ) (first : StoreValue D) (mid : Option History) (began : Faults) (now : FetchStage) (store : StoreValue D) (history : Option History) (counted : Faults) : Type 0 where
  pub same : store ≡ at_use first store
  pub undoomed : (file : ℕ) → is_doomed_in file store.files.files ≡ false
  pub idle : IsIdle mid history
  pub faults : FaultsSoFar now began counted
  pub knows : StageKnows name uid first history now

fetching_begins : {D : Type 0} → (name : List ℕ) (uid : ℕ) (first : StoreValue D) (mid : Option History) (began : Faults) → ((file : ℕ) → is_doomed_in file first.files.files ≡ false) → IsFetching name uid first mid began stage.First first mid began
fetching_begins name uid first mid began undoomed = record {
  same = refl;
  undoomed = undoomed;
  idle = idle-begins mid;
  faults = record { reads = omega arith; changes = refl; failed = λ h. absurd h; unfailed = λ none. refl };
  knows = tt;
}

fetching_on : {D : Type 0} → (name : List ℕ) (uid : ℕ) (first : StoreValue D) (mid : Option History) (began : Faults) (now next : FetchStage) (how : Did) (old new : StoreValue D) (before after : Option History) (f g : Faults) → first.stopped ≡ false → IsFetching name uid first mid began now old before f
    → FetchesAlone name uid now next how progress.More old new before after f g → IsFetching name uid first mid began next new after g
fetching_on {D} name uid first mid began now next how old new before after f g running so event = record {
  same = still_first name uid first old new now next before so.knows so.same event.same;
  undoomed = λ file. used_undoomed now next old new file event.same (so.undoomed file);
  idle = idle-then mid before after so.idle only.idle;
  faults = faults_on name uid now next old before began f g (runs_on first old so.same running) so.faults replies only.fault only.unfailed;
  knows = knows_on name uid first old before after f g now next running only.idle so.knows (subst (λ (v : StoreValue D). AloneNext name uid now next progress.More v before f g) so.same replies);
}
  where
    replies : AloneNext name uid now next progress.More old before f g
    replies = alone_next name uid now next progress.More old first before before f g so.undoomed so.knows event.replies

    only : OnlyReadsDisk next before after f g
    only = alone_reads name uid now next old new first before before after f g so.knows event.disk

-- ---- the end

abbrev DoneNow : {D : Type 0} → List ℕ → ℕ → FetchStage → FetchStage → Reply → StoreValue D → Option History → Faults → Faults → Type 0
DoneNow name uid now next given store old f g = AloneNext name uid now next (progress.Done given) store old f g

-- what the first event replies, if it ends the request
pub record FirstGiven {D : Type 0} (name : List ℕ) (uid : ℕ) (next : FetchStage) (given : Reply) (store : StoreValue D) : Type 0 where
  pub next_is : next ≡ stage.First
  pub refused : (why : Refusal) → fetch_refusal name uid store ≡ Some why → given ≡ reply.Refused why
  pub other : fetch_refusal name uid store ≡ None → (given ≡ reply.Refused refusal.NoMemory) ⊎ ((why : Refusal) × IsAbsent name uid store why × (given ≡ reply.Refused why))

first_given : {D : Type 0} → (name : List ℕ) (uid : ℕ) (next : FetchStage) (given : Reply) (store : StoreValue D) → IsBegun name uid store next (progress.Done given) → FirstGiven name uid next given store
first_given name uid next given store b = by_cause (fetch_refusal name uid store) refl
  where
    by_why : (why : Refusal) → given ≡ reply.Refused why → (why ≡ refusal.NoMemory) ⊎ IsAbsent name uid store why → (given ≡ reply.Refused refusal.NoMemory) ⊎ ((why : Refusal) × IsAbsent name uid store why × (given ≡ reply.Refused why))
    by_why why is (inl memory) = inl (is ∙ ap (λ (r : Refusal). reply.Refused r) memory)
    by_why why is (inr absent) = inr (why, absent, is)

    other : fetch_refusal name uid store ≡ None → (next ≡ stage.First) × ((given ≡ reply.Refused refusal.NoMemory) ⊎ ((why : Refusal) × IsAbsent name uid store why × (given ≡ reply.Refused why)))
    other e = elim (b.begun e) [
      | inl p ↦ absurd (more_done given (sym p.0))
      | inr p ↦ (p.3, by_why p.0 (one_done given (reply.Refused p.0) p.2) p.1)
    ]

    by_cause : (cause : Option Refusal) → fetch_refusal name uid store ≡ cause → FirstGiven name uid next given store
    by_cause (Some why) e = record { next_is = (b.refused why e).1; refused = λ w k. one_done given (reply.Refused w) (b.refused w k).0; other = λ none. (other none).1 }
    by_cause None e = record { next_is = (other e).0; refused = λ w k. one_done given (reply.Refused w) (b.refused w k).0; other = λ none. (other none).1 }

absent_calm : {D : Type 0} → (name : List ℕ) (uid : ℕ) (given : Reply) (store : StoreValue D) (why : Refusal) → IsAbsent name uid store why → given ≡ reply.Refused why → IsCalm given
absent_calm name uid given store why (row, entry, stored, none, why_is) is =
    let e : given ≡ damage_at (stored_at row entry) = is ∙ ap (λ (r : Refusal). reply.Refused r) why_is in (
      λ f. let k : damage_at (stored_at row entry) ≡ reply.Refused refusal.ReadFault = sym e ∙ f in let r : refusal.Damaged (record { 0 = entry.file }) entry.offset ≡ refusal.ReadFault = cc k in cc r,
      λ f. let k : damage_at (stored_at row entry) ≡ reply.Refused refusal.Stopped = sym e ∙ f in let r : refusal.Damaged (record { 0 = entry.file }) entry.offset ≡ refusal.Stopped = cc k in cc r,
    )

first_calm : {D : Type 0} → (name : List ℕ) (uid : ℕ) (next : FetchStage) (given : Reply) (store : StoreValue D) → store.stopped ≡ false → IsBegun name uid store next (progress.Done given) → IsCalm given
first_calm name uid next given store running b = by_cause (fetch_refusal name uid store) refl
  where
    by_other : (given ≡ reply.Refused refusal.NoMemory) ⊎ ((why : Refusal) × IsAbsent name uid store why × (given ≡ reply.Refused why)) → IsCalm given
    by_other (inl memory) = memory_calm given memory
    by_other (inr (why, absent, is)) = absent_calm name uid given store why absent is

    by_cause : (cause : Option Refusal) → fetch_refusal name uid store ≡ cause → IsCalm given
    by_cause (Some why) e = refused_calm given why ((first_given name uid next given store b).refused why e) (missing_why (list_named store name) uid why (sym (cause_of name uid store running) ∙ e))
    by_cause None e = by_other ((first_given name uid next given store b).other e)

-- refused by its cause
refused_ends : {D : Type 0} → (name : List ℕ) (uid : ℕ) (first old : StoreValue D) (before : Option History) (f g : Faults) (now next : FetchStage) (given : Reply) → first.stopped ≡ false → StageKnows name uid first before now → DoneNow name uid now next given (at_use first old) before f g
    → (why : Refusal) → fetch_refusal name uid first ≡ Some why → given ≡ reply.Refused why
refused_ends name uid first old before f g stage.First next given running k r why cause = (first_given name uid next given (at_use first old) r).refused why cause
refused_ends name uid first old before f g (stage.Reading region) next given running k r why cause = absurd (more_done given (sym (r.1 running).0))
refused_ends name uid first old before f g (stage.Unpinning from other) next given running k r why cause = absurd (let e : None ≡ Some why = sym k.2 ∙ cause in cc e)
refused_ends name uid first old before f g (stage.Removing file other) next given running k r why cause = absurd r

-- a message whose storage file isn't there
absent_answer : {D : Type 0} → (name : List ℕ) (uid : ℕ) (store : StoreValue D) (row : LogRow) (entry : MapRecord) (history : Option History) → IsStore history store → store.stopped ≡ false → record_at store.map row.map_uid ≡ Some entry → end_in entry.file store.files.files ≡ None
    → IsFetchAnswer row entry history (damage_at (stored_at row entry))
absent_answer name uid store row entry history is runs stored none = by_history history is
  where
    some : 1 ≤ entry.size
    some = (All-contains (IsSoundRecord store.map.highest.map) store.map.records entry (store_is_sound history store is).records (found_one (λ (r : MapRecord). r.uid == row.map_uid) store.map.records entry stored).0).size

    gone : (o : Option (List ℕ)) → option_map length o ≡ None → o ≡ None
    gone None e = refl
    gone (Some octets) e = absurd (let k : Some (length octets) ≡ None = e in cc k)

    by_history : (h : Option History) → IsStore h store → IsFetchAnswer row entry h (damage_at (stored_at row entry))
    by_history None k = inr ([], tt, inr (λ octets holds. nothing_damaged row entry octets some holds, refl))
    by_history (Some h) k = inr (
      message_read entry h.now,
      refl,
      inr (
        λ octets holds.
            absent_damaged (files_of h.now) row entry octets (gone (files_of h.now (Mail entry.file)) ((k.running runs).files_known entry.file ∙ none)) some
            (subst (λ (read : List ℕ). HoldsWhole (stored_at row entry) read octets) (sym (all_read row entry h.now)) holds),
        refl,
      ),
    )

-- The message was read, or a read failed, and this was replied.
pub record TakesMessage {D : Type 0} (name : List ℕ) (uid : ℕ) (store : StoreValue D) (history : Option History) (given : Reply) : Type 0 where
  pub row : LogRow
  pub entry : MapRecord
  pub record_is : IsStoredBy name uid store row entry
  pub given_is : IsFetchAnswer row entry history given

absent_ends : {D : Type 0} → (name : List ℕ) (uid : ℕ) (first old : StoreValue D) (before after : Option History) (given : Reply) (why : Refusal) → first.stopped ≡ false → IsIdle before after → IsStore before (at_use first old) → IsAbsent name uid (at_use first old) why → given ≡ reply.Refused why → TakesMessage name uid first after given
absent_ends name uid first old before after given why running idle k (row, entry, stored, none, why_is) is = record {
  row = row;
  entry = entry;
  record_is = stored_first name uid first old row entry stored;
  given_is = subst (λ (g : Reply). IsFetchAnswer row entry after g) (sym (is ∙ ap (λ (r : Refusal). reply.Refused r) why_is))
      (answer_on row entry before after (damage_at (stored_at row entry)) idle (absent_answer name uid (at_use first old) row entry before k running stored.stored none));
}

-- a message that was found
taken_ends : {D : Type 0} → (name : List ℕ) (uid : ℕ) (first old : StoreValue D) (before after : Option History) (f g : Faults) (now next : FetchStage) (given : Reply) → first.stopped ≡ false → StageKnows name uid first before now → IsIdle before after → IsStore before (at_use first old)
    → DoneNow name uid now next given (at_use first old) before f g → fetch_refusal name uid first ≡ None → (given ≡ reply.Refused refusal.NoMemory) ⊎ TakesMessage name uid first after given
taken_ends name uid first old before after f g stage.First next given running k idle store r none = by_other ((first_given name uid next given (at_use first old) r).other none)
  where
    by_other : (given ≡ reply.Refused refusal.NoMemory) ⊎ ((why : Refusal) × IsAbsent name uid (at_use first old) why × (given ≡ reply.Refused why)) → (given ≡ reply.Refused refusal.NoMemory) ⊎ TakesMessage name uid first after given
    by_other (inl memory) = inl memory
    by_other (inr (why, absent, is)) = inr (absent_ends name uid first old before after given why running idle store absent is)
taken_ends name uid first old before after f g (stage.Reading region) next given running k idle store r none = absurd (more_done given (sym (r.1 running).0))
taken_ends name uid first old before after f g (stage.Removing file other) next given running k idle store r none = absurd r
taken_ends name uid first old before after f g (stage.Unpinning from other) next given running k idle store r none =
    let same : other ≡ given = sym (one_done given other (r.1 running).0) in
    inr (record { row = k.0; entry = k.1; record_is = k.3; given_is = subst (λ (r : Reply). IsFetchAnswer k.0 k.1 after r) same (answer_on k.0 k.1 before after other idle k.5) })

-- the counts of faults
faults_end : {D : Type 0} → (name : List ℕ) (uid : ℕ) (first old : StoreValue D) (before : Option History) (began f g : Faults) (now next : FetchStage) (given : Reply) → first.stopped ≡ false → StageKnows name uid first before now → FaultsSoFar now began f → DoneNow name uid now next given (at_use first old) before f g → NoChangeFault f g
    → ((HasFailedRead next → ⊥) → NoFault f g) → FaultsByReply given began g
faults_end name uid first old before began f g stage.First next given running k so r fault unfailed =
    let calm = first_calm name uid next given (at_use first old) running r in
    let still : NoFault f g = unfailed (λ h. subst HasFailedRead (first_given name uid next given (at_use first old) r).next_is h) in
    record {
      reads = (let a = so.reads in let b = fault.reads in omega (arith, a, b));
      changes = (let a = so.changes in let b = fault.changes in omega (arith, a, b));
      read_fault = λ e. absurd (calm.0 e);
      read_alone = λ e. fault.changes ∙ so.changes;
      stopped = λ e. absurd (calm.1 e);
      change_alone = λ e. absurd (calm.1 e);
      unfailed = λ unread unstopped. still ∙ so.unfailed (λ h. h);
    }
faults_end name uid first old before began f g (stage.Reading region) next given running k so r fault unfailed = absurd (more_done given (sym (r.1 running).0))
faults_end name uid first old before began f g (stage.Removing file other) next given running k so r fault unfailed = absurd r
faults_end name uid first old before began f g (stage.Unpinning from other) next given running k so r fault unfailed =
    let done = r.1 running in
    let same : given ≡ other = one_done given other done.0 in
    let still : NoFault f g = unfailed (λ h. subst HasFailedRead done.1 h) in
    record {
      reads = (let a = so.reads in let b = fault.reads in omega (arith, a, b));
      changes = (let a = so.changes in let b = fault.changes in omega (arith, a, b));
      read_fault = λ e. subst (λ (c : Faults). Rose began.reads c.reads) (sym still) (so.failed (has_failed from other (sym same ∙ e)));
      read_alone = λ e. fault.changes ∙ so.changes;
      stopped = λ e. absurd (answer_runs k.0 k.1 before other k.5 (sym same ∙ e));
      change_alone = λ e. absurd (answer_runs k.0 k.1 before other k.5 (sym same ∙ e));
      unfailed = λ unread unstopped. still ∙ so.unfailed (λ h. unread (same ∙ failed_is from other h));
    }

-- What the events of a fetch alone say together, once one has answered the request.
pub record IsFetchTold {D : Type 0} (name : List ℕ) (uid : ℕ) (first : StoreValue D) (mid : Option History) (began : Faults) (given : Reply) (store : StoreValue D) (history : Option History) (counted : Faults) : Type 0 where
  pub same : store ≡ at_use first store
  pub refused : (why : Refusal) → fetch_refusal name uid first ≡ Some why → given ≡ reply.Refused why
  pub found : fetch_refusal name uid first ≡ None → (given ≡ reply.Refused refusal.NoMemory) ⊎ TakesMessage name uid first history given
  pub idle : IsIdle mid history
  pub faults : FaultsByReply given began counted

fetching_ends : {D : Type 0} → (name : List ℕ) (uid : ℕ) (first : StoreValue D) (mid : Option History) (began : Faults) (now next : FetchStage) (how : Did) (given : Reply) (old new : StoreValue D) (before after : Option History) (f g : Faults) → first.stopped ≡ false → IsFetching name uid first mid began now old before f
    → FetchesAlone name uid now next how (progress.Done given) old new before after f g → IsStore before old → IsFetchTold name uid first mid began given new after g
fetching_ends {D} name uid first mid began now next how given old new before after f g running so event store = record {
  same = still_first name uid first old new now next before so.knows so.same event.same;
  refused = refused_ends name uid first old before f g now next given running so.knows replies;
  found = taken_ends name uid first old before after f g now next given running so.knows only.idle (subst (λ (v : StoreValue D). IsStore before v) so.same store) replies;
  idle = idle-then mid before after so.idle only.idle;
  faults = faults_end name uid first old before began f g now next given running so.knows so.faults replies only.fault only.unfailed;
}
  where
    replies : DoneNow name uid now next given (at_use first old) before f g
    replies = subst (λ (v : StoreValue D). DoneNow name uid now next given v before f g) so.same (alone_next name uid now next (progress.Done given) old first before before f g so.undoomed so.knows event.replies)

    only : OnlyReadsDisk next before after f g
    only = alone_reads name uid now next old new first before before after f g so.knows event.disk

-- ---- its task

abbrev pub StandsFetch : {D : Type 0} → List ℕ → Uid → StoreValue D → Option History → Faults → Task → StoreValue D → Option History → Faults → Type 0
StandsFetch name uid first mid began (task.Fetch t) store history counted = (t.name ≡ name) × (t.uid ≡ uid) × IsFetching name uid.0 first mid began t.stage store history counted
StandsFetch name uid first mid began (task.Ops t) store history counted = request.Fetch name uid ≡ t.request
StandsFetch name uid first mid began other store history counted = ⊥

fetch_on : {D : Type 0} → (name : List ℕ) (uid : Uid) (first : StoreValue D) (mid : Option History) (began : Faults) → first.stopped ≡ false → (t next : Task) (old new : StoreValue D) (before after : Option History) (f g : Faults) (ended : Option Reply) → StandsFetch name uid first mid began t old before f → StaysOfRequest t next → TellsStore t next old new before after ended → FetchesSo t next old new before after f g ended → IsStore before old
    → (ended ≡ None → StandsFetch name uid first mid began next new after g) × ((given : Reply) → ended ≡ Some given → IsFetchTold name uid.0 first mid began given new after g)
fetch_on name uid first mid began running (task.Fetch t) (task.Fetch next) old new before after f g ended is kind tells fetches store =
    let event = subst (λ (n : List ℕ). FetchesAlone n uid.0 t.stage next.stage next.did (progress_by ended) old new before after f g) is.0
    (subst (λ (u : Uid). FetchesAlone t.name u.0 t.stage next.stage next.did (progress_by ended) old new before after f g) is.1 fetches) in (
      λ more. (
        kind.0 ∙ is.0,
        kind.1 ∙ is.1,
        fetching_on name uid.0 first mid began t.stage next.stage next.did old new before after f g running is.2 (subst (λ (o : Option Reply). FetchesAlone name uid.0 t.stage next.stage next.did (progress_by o) old new before after f g) more event),
      ),
      λ given e. fetching_ends name uid.0 first mid began t.stage next.stage next.did given old new before after f g running is.2 (subst (λ (o : Option Reply). FetchesAlone name uid.0 t.stage next.stage next.did (progress_by o) old new before after f g) e event) store,
    )
fetch_on name uid first mid began running (task.Ops t) next old new before after f g ended is kind tells fetches store = absurd (subst IsOpsRequest (sym is) (ops_asked t.request old new tells.0 tells.2))
fetch_on name uid first mid began running (task.Fetch t) next old new before after f g ended is kind tells fetches store = absurd kind
fetch_on name uid first mid began running t next old new before after f g ended is kind tells fetches store = absurd is

pub keeps_fetch : {D : Type 0} → (name : List ℕ) (uid : Uid) (first : StoreValue D) (mid : Option History) (began : Faults) → first.stopped ≡ false → KeepsCounted (StandsFetch name uid first mid began) (IsFetchTold name uid.0 first mid began)
keeps_fetch name uid first mid began running queued next event old new before after f g is goes =
    fetch_on name uid first mid began running queued.task next old new before after f g (ended_by event.ended) is goes.keeps.request goes.keeps.tells goes.keeps.fetches goes.store

pub begun_fetch : {D : Type 0} → (name : List ℕ) (uid : Uid) (first : StoreValue D) (mid : Option History) (began : Faults) → ((file : ℕ) → is_doomed_in file first.files.files ≡ false) → (t : Task) → BeginsTask (request.Fetch name uid) t → StandsFetch name uid first mid began t first mid began
begun_fetch name uid first mid began undoomed (task.Fetch t) b =
    let k : request.Fetch name uid ≡ request.Fetch t.name t.uid = b.is_of in
    let names : name ≡ t.name = cc k in
    let uids : uid ≡ t.uid = cc k in
    (sym names, sym uids, subst (λ (now : FetchStage). IsFetching name uid.0 first mid began now first mid began) (sym b.at) (fetching_begins name uid.0 first mid began undoomed))
begun_fetch name uid first mid began undoomed (task.Ops t) b = b.is_of
begun_fetch name uid first mid began undoomed (task.Counts t) b = absurd (cc b.is_of)
begun_fetch name uid first mid began undoomed (task.Make t) b = absurd (cc b.is_of)
begun_fetch name uid first mid began undoomed (task.Copy t) b = absurd (cc b.is_of)
begun_fetch name uid first mid began undoomed (task.Move t) b = absurd (cc b.is_of)
begun_fetch name uid first mid began undoomed (task.Expunge t) b = absurd (cc b.is_of)
begun_fetch name uid first mid began undoomed (task.Purge t) b = absurd (cc b.is_of)
begun_fetch name uid first mid began undoomed (task.Delete t) b = absurd (cc b.is_of)
begun_fetch name uid first mid began undoomed (task.Rename t) b = absurd (cc b.is_of)
begun_fetch name uid first mid began undoomed (task.Deliver t) b = absurd b.is_of
begun_fetch name uid first mid began undoomed (task.Resync t) b = absurd (cc b.is_of)
