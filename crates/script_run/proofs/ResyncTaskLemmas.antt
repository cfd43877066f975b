-- A resync alone: what its task knows from one event to the next.
use Rattle.std.specs.Prelude.{◌≡◌, ◌≢◌, ◌<◌, ◌+◌, ◌==◌, ◌⊎◌, ◌++◌, ℕ, zero, suc, Bool, true, false, cond, List, [], ◌∷◌, All, AllPairs, Contains, length, slice_get, if◌then◌else◌, Option, Some, None}
use Rattle.std.proofs.Common.{refl, sym, ◌∙◌, ap, subst, inl, inr, arith}
use Rattle.std.proofs.lemmas.Bool.{cases_lt}
use Rattle.std.proofs.lemmas.List.{length-append}
use Rattle.std.proofs.lemmas.List.Elements.{All-append, All-head, All-nil, All-tail, All-weaker, Contains-append_left, Contains-append_right}
use Rattle.std.proofs.lemmas.List.Kept.{AllPairs-cons}
use Rattle.std.proofs.lemmas.Option.{get_or_from_slice_get, slice_get_within}
use Rattle.disk_model.specs.Disk.{Faults, History, IsIdle}
use Rattle.disk_model.proofs.IdleLemmas.{idle-back, idle-then}
use Rattle.mdbox_base.specs.declared.progress.Did.{Did}
use Rattle.mdbox_base.specs.declared.replies.Refusal.{Refusal}
use Rattle.mdbox_base.specs.declared.replies.Refusal.TheVariants as refusal
use Rattle.mdbox_base.specs.declared.replies.Reply.{Reply}
use Rattle.mdbox_base.specs.declared.replies.Reply.TheVariants as reply
use Rattle.mdbox_base.specs.declared.requests.Request.TheVariants as request
use Rattle.model_meaning.specs.MapFits.{HasRecord}
use Rattle.model_meaning.specs.MapMeaning.{MapRecord, record_at}
use Rattle.model_octets.proofs.PairLemmas.{pairs_head, pairs_nil, pairs_tail}
use Rattle.model_store.specs.Settled.{files_of}
use Rattle.model_store.specs.Stands.{HoldsMessage}
use Rattle.store_core.specs.Dues.{due_at, listed_at, number_beside}
use Rattle.store_core.specs.Value.{StoreValue, indexes_of, none_due}
use Rattle.task_steps.specs.Step.{ended_by}
use Rattle.task_steps.proofs.OneEventLemmas.{not_true}
use Rattle.mail_ops.specs.Requests.{IsOpsRequest}
use Rattle.resync_task.specs.Correcting.{AreExact, PutsRight}
use Rattle.resync_task.specs.Damage.{AreDamaged, HasDamagedRegion, HasWholeRegion}
use Rattle.resync_task.specs.Files.{AreRecordFiles}
use Rattle.resync_task.specs.Reading.{ReadsNext}
use Rattle.resync_task.specs.Stages.{ResyncAt, ToList, ToRead, corrected_map}
use Rattle.resync_task.specs.Task.{ResyncsOn}
use Rattle.resync_task.specs.WrongCounts.{wrong_beside, wrong_of}
use Rattle.lane_tasks.specs.Clause.{StaysOfRequest, TellsStore, progress_by}
use Rattle.lane_tasks.specs.Tasks.{BeginsTask}
use Rattle.lane_tasks.specs.declared.task.Task.{Task}
use Rattle.lane_tasks.specs.declared.task.Task.TheVariants as task
use Rattle.lane_tasks.proofs.StepLemmas.{ops_asked}
use Rattle.script_run.specs.Resynced.{AreDamagedRegions, IsResyncAnswer, IsResynced, references_in, wrong_in}
use Rattle.script_run.proofs.OneTaskLemmas.{KeepsAlone, one_refusal, some_reply}

-- ---- lists

pairs_append : {X : Type 0} → (R : X → X → Type 0) (xs ys : List X) → AllPairs R xs → AllPairs R ys → All (λ x. All (R x) ys) xs → AllPairs R (xs ++ ys)
pairs_append R [] ys p q cross = q
pairs_append R (x ∷ xs) ys p q cross =
    AllPairs-cons R x (xs ++ ys) (All-append (R x) xs ys (pairs_head R x xs p) (All-head (λ x. All (R x) ys) x xs cross))
    (pairs_append R xs ys (pairs_tail R x xs p) q (All-tail (λ x. All (R x) ys) x xs cross))

place_of : {X : Type 0} → (xs : List X) (x : X) → Contains xs x → (i : ℕ) × (i < length xs) × (slice_get xs i ≡ Some x)
place_of [] x c = absurd (let k = c.1 in omega (arith, k))
place_of (y ∷ xs) x (zero, l, e) = (0, omega arith, ap (λ (z : _). Some z) e)
place_of (y ∷ xs) x (suc n, l, e) = let k = place_of xs x (n, omega (arith, l), e) in let lt = k.1 in (suc k.0, omega (arith, lt), k.2)

-- one of the first so many numbers
abbrev pub IsAmongFirst : ℕ → List ℕ → ℕ → Type 0
IsAmongFirst read files file = (i : ℕ) × (i < read) × (slice_get files i ≡ Some file)

-- of numbers that rise, the next isn't one of them
next_is_new : (files : List ℕ) (read file : ℕ) → AllPairs (λ a b. a < b) files → slice_get files read ≡ Some file → IsAmongFirst read files file → ⊥
next_is_new files read file rising next first =
    let within = slice_get_within files read file next in
    let lower = rising first.0 read 0 first.1 within in
    let a = get_or_from_slice_get files first.0 file 0 first.2 in
    let b = get_or_from_slice_get files read file 0 next in
    omega (arith, lower, a, b)

one_some_of : {X : Type 0} → (a b : X) → Some a ≡ Some b → a ≡ b
one_some_of a b e = cc e

first_or_next : (files : List ℕ) (read file next : ℕ) → slice_get files read ≡ Some next → IsAmongFirst (read + 1) files file → IsAmongFirst read files file ⊎ (file ≡ next)
first_or_next files read file next at first = elim (cases_lt first.0 read) [
  | inl less ↦ inl (first.0, less, first.2)
  | inr most ↦
      let lt = first.1 in
      let same : first.0 ≡ read = omega (arith, most, lt) in
      inr (one_some_of file next (sym first.2 ∙ (ap (slice_get files) same ∙ at)))
]

-- ---- what it knows

-- It has read so many of the files, and found these damaged regions in them; of the store only the disk may be another, and of that
-- nothing has changed.
pub record HasReadFiles {D : Type 0} (s : StoreValue D) (mid : Option History) (files : List ℕ) (read damaged : ℕ) (store : StoreValue D) (history : Option History) : Type 0 where
  pub same : store ≡ record s { disk = store.disk }
  pub idle : IsIdle mid history
  pub listed : AreRecordFiles s.map files
  pub uids : List ℕ
  pub damaged_are : damaged ≡ length uids
  pub once : AllPairs (λ a b. a ≢ b) uids
  pub bad : All (λ uid. HasRecord s.map uid (λ row. IsAmongFirst read files row.file × HasDamagedRegion mid row)) uids
  pub every : All (λ row. IsAmongFirst read files row.file → Contains uids row.uid ⊎ HasWholeRegion mid row) s.map.records

abbrev AtResync : {D : Type 0} → StoreValue D → Option History → ResyncAt → StoreValue D → Option History → Type 0
AtResync s mid ToList store history = (store ≡ s) × (history ≡ mid)
AtResync s mid (ToRead files read damaged) store history = HasReadFiles s mid files read damaged store history

abbrev pub StandsResync : {D : Type 0} → StoreValue D → Option History → Task → StoreValue D → Option History → Type 0
StandsResync s mid (task.Resync t) store history = (store.stopped ≡ false) × AtResync s mid t.stage store history
StandsResync s mid (task.Ops t) store history = request.Resync ≡ t.request
StandsResync s mid other store history = ⊥

-- Its reply is so by what the store had that was opened, whose disk a refusal leaves as it was, unless a change of it failed.
pub record IsResyncTold {D : Type 0} (s : StoreValue D) (mid : Option History) (given : Reply) (store : StoreValue D) (history : Option History) : Type 0 where
  pub answer : IsResyncAnswer given mid s.map (indexes_of s.boxes) store.map (indexes_of store.boxes)
  pub unchanged : (why : Refusal) → given ≡ reply.Refused why → (why ≡ refusal.Stopped → ⊥) → IsIdle mid history

-- ---- the files

none_read : {D : Type 0} → (s old new : StoreValue D) (mid before after : Option History) (files : List ℕ) → old ≡ s → before ≡ mid → new ≡ old → IsIdle before after → AreRecordFiles old.map files → HasReadFiles s mid files 0 0 new after
none_read s old new mid before after files same was still idle listed = record {
  same = subst (λ (v : StoreValue _). v ≡ record s { disk = v.disk }) (sym (still ∙ same)) refl;
  idle = subst (λ (h : Option History). IsIdle h after) was idle;
  listed = subst (λ (v : StoreValue _). AreRecordFiles v.map files) same listed;
  uids = [];
  damaged_are = refl;
  once = pairs_nil (λ (a b : ℕ). a ≢ b);
  bad = All-nil (λ (uid : ℕ). HasRecord s.map uid (λ row. IsAmongFirst 0 files row.file × HasDamagedRegion mid row));
  every = λ k d l first. absurd (let lt = first.1 in omega (arith, lt));
}

read_on : {D : Type 0} → (s old new : StoreValue D) (mid before after : Option History) (files : List ℕ) (read damaged : ℕ) (uids : List ℕ) (began counted : Faults) → HasReadFiles s mid files read damaged old before → ReadsNext files read uids old new before after began counted → HasReadFiles s mid files (read + 1) (damaged + length uids) new after
read_on {D} s old new mid before after files read damaged uids began counted at reads = record {
  same = reads.only.same ∙ ap (λ (v : StoreValue D). record v { disk = new.disk }) at.same;
  idle = idle-then mid before after at.idle reads.only.idle;
  listed = at.listed;
  uids = at.uids ++ uids;
  damaged_are = (let many = at.damaged_are in let all = length-append at.uids uids in omega (arith, many, all));
  once = pairs_append (λ (a b : ℕ). a ≢ b) at.uids uids at.once found.once
      (All-weaker (λ (uid : ℕ). HasRecord s.map uid (λ row. IsAmongFirst read files row.file × HasDamagedRegion mid row)) (λ (a : ℕ). All (λ b. a ≢ b) uids)
      (λ a h. All-weaker (λ (uid : ℕ). HasRecord s.map uid (λ row. (row.file ≡ reads.file) × HasDamagedRegion before row)) (λ (b : ℕ). a ≢ b) (λ b k. apart a b h k) uids found.bad) at.uids at.bad);
  bad = All-append (λ (uid : ℕ). HasRecord s.map uid (λ row. IsAmongFirst (read + 1) files row.file × HasDamagedRegion mid row)) at.uids uids
      (All-weaker (λ (uid : ℕ). HasRecord s.map uid (λ row. IsAmongFirst read files row.file × HasDamagedRegion mid row)) (λ (uid : ℕ). HasRecord s.map uid (λ row. IsAmongFirst (read + 1) files row.file × HasDamagedRegion mid row))
      (λ uid h. let lt = h.2.0.1 in (h.0, h.1, ((h.2.0.0, omega (arith, lt), h.2.0.2), h.2.1))) at.uids at.bad)
      (All-weaker (λ (uid : ℕ). HasRecord s.map uid (λ row. (row.file ≡ reads.file) × HasDamagedRegion before row)) (λ (uid : ℕ). HasRecord s.map uid (λ row. IsAmongFirst (read + 1) files row.file × HasDamagedRegion mid row))
      (λ uid h. (h.0, h.1, ((read, omega arith, reads.next ∙ ap (λ (n : ℕ). Some n) (sym h.2.0)), idle-back (λ now. HoldsMessage (files_of now) h.0 → ⊥) mid before at.idle h.2.1))) uids found.bad);
  every = λ k d l first. every_row _ (at.every k d l) (found.every k d l) first;
}
  where
    found : AreDamaged before s.map reads.file uids
    found = subst (λ (v : StoreValue D). AreDamaged before v.map reads.file uids) at.same reads.found

    apart : (a b : ℕ) → HasRecord s.map a (λ row. IsAmongFirst read files row.file × HasDamagedRegion mid row) → HasRecord s.map b (λ row. (row.file ≡ reads.file) × HasDamagedRegion before row) → a ≢ b
    apart a b h k e =
        let same : h.0 ≡ k.0 = one_some_of h.0 k.0 (sym h.1 ∙ (ap (record_at s.map) e ∙ k.1)) in
        next_is_new files read reads.file at.listed.rising reads.next (subst (IsAmongFirst read files) (ap (λ (r : MapRecord). r.file) same ∙ k.2.0) h.2.0)

    every_row : (row : MapRecord) → (IsAmongFirst read files row.file → Contains at.uids row.uid ⊎ HasWholeRegion mid row) → (row.file ≡ reads.file → Contains uids row.uid ⊎ HasWholeRegion before row) → IsAmongFirst (read + 1) files row.file → Contains (at.uids ++ uids) row.uid ⊎ HasWholeRegion mid row
    every_row row earlier now first = elim (first_or_next files read row.file reads.file reads.next first) [
      | inl was ↦ elim (earlier was) [ inl c ↦ inl (Contains-append_left at.uids uids row.uid c) | inr whole ↦ inr whole ]
      | inr is ↦ elim (now is) [ inl c ↦ inl (Contains-append_right at.uids uids row.uid c) | inr whole ↦ inr (idle-back (λ now. HoldsMessage (files_of now) row) mid before at.idle whole) ]
    ]

-- all files were read
all_read : {D : Type 0} → (s old : StoreValue D) (mid before : Option History) (files : List ℕ) (read damaged : ℕ) → (at : HasReadFiles s mid files read damaged old before) → read ≡ length files → AreDamagedRegions mid s.map at.uids
all_read s old mid before files read damaged at all = record {
  once = at.once;
  bad = All-weaker (λ (uid : ℕ). HasRecord s.map uid (λ row. IsAmongFirst read files row.file × HasDamagedRegion mid row)) (λ (uid : ℕ). HasRecord s.map uid (λ row. HasDamagedRegion mid row)) (λ uid h. (h.0, h.1, h.2.1)) at.uids at.bad;
  every = λ k d l.
      let there = place_of files _ (at.listed.every k d l) in
      let within = there.1 in
      at.every k d l (there.0, omega (arith, within, all), there.2);
}

-- ---- the counts

no_due : (rows : List MapRecord) (uid : ℕ) → number_beside uid rows (none_due rows) ≡ 0
no_due [] uid = refl
no_due (row ∷ rows) uid = by_test (row.uid == uid) refl (no_due rows uid)
  where
    by_test : (b : Bool) → (row.uid == uid) ≡ b → number_beside uid rows (none_due rows) ≡ 0 → number_beside uid (row ∷ rows) (none_due (row ∷ rows)) ≡ 0
    by_test true t rest = ap (λ (c : Bool). cond c 0 (number_beside uid rows (none_due rows))) t
    by_test false t rest = ap (λ (c : Bool). cond c 0 (number_beside uid rows (none_due rows))) t ∙ rest

wrong_same : (f g : ℕ → ℕ) → ((uid : ℕ) → f uid ≡ g uid) → (rows : List MapRecord) → wrong_beside f rows ≡ wrong_beside g rows
wrong_same f g same [] = refl
wrong_same f g same (row ∷ rows) =
    ap (λ (n : ℕ). if row.count == n then wrong_beside f rows else record { uid = record { 0 = row.uid }; count = n } ∷ wrong_beside f rows) (same row.uid)
    ∙ ap (λ (rest : List _). if row.count == g row.uid then rest else record { uid = record { 0 = row.uid }; count = g row.uid } ∷ rest) (wrong_same f g same rows)

free_at : {D : Type 0} → (s : StoreValue D) → s.dues ≡ none_due s.map.records → (uid : ℕ) → due_at uid s ≡ 0
free_at s free uid = ap (number_beside uid s.map.records) free ∙ no_due s.map.records uid

wrong_alone : {D : Type 0} → (s : StoreValue D) → s.dues ≡ none_due s.map.records → wrong_of s ≡ wrong_in (indexes_of s.boxes) s.map
wrong_alone s free = wrong_same (λ uid. listed_at uid s + due_at uid s) (references_in (indexes_of s.boxes)) (λ uid. let none = free_at s free uid in omega (arith, none)) s.map.records

put_right : {D : Type 0} → (s old new : StoreValue D) (mid before after : Option History) (files : List ℕ) (read damaged corrected told : ℕ) (began counted : Faults) → s.dues ≡ none_due s.map.records → HasReadFiles s mid files read damaged old before → read ≡ length files → told ≡ damaged → PutsRight corrected old new before after began counted → AreExact new
    → IsResynced corrected told mid s.map (indexes_of s.boxes) new.map (indexes_of new.boxes)
put_right {D} s old new mid before after files read damaged corrected told began counted free at all said puts exact =
    let wrong : wrong_of old ≡ wrong_in (indexes_of s.boxes) s.map = ap wrong_of at.same ∙ wrong_alone s free in
    record {
      listings = puts.keeps.indexes ∙ ap (λ (v : StoreValue D). indexes_of v.boxes) at.same;
      corrected_are = puts.many ∙ ap length wrong;
      map_is = puts.map ∙ (ap (λ (ws : List _). corrected_map ws old.map) wrong ∙ ap (λ (v : StoreValue D). corrected_map (wrong_in (indexes_of s.boxes) s.map) v.map) at.same);
      exact = λ row there.
          let is = exact row there in
          let none : due_at row.uid new ≡ 0 = puts.due row.uid ∙ (ap (λ (v : StoreValue D). due_at row.uid v) at.same ∙ free_at s free row.uid) in
          omega (arith, is, none);
      damaged_regions = at.uids;
      damaged_are = said ∙ at.damaged_are;
      regions = all_read s old mid before files read damaged at all;
    }

-- ---- event after event

abbrev ResyncOn : {D : Type 0} → Type 0 → StoreValue D → Option History → StoreValue D → Option History → Option Reply → Type 0
ResyncOn Stands s mid new after ended = (ended ≡ None → Stands) × ((given : Reply) → ended ≡ Some given → IsResyncTold s mid given new after)

goes_resync : {D : Type 0} → (Stands : Type 0) (s : StoreValue D) (mid : Option History) (new : StoreValue D) (after : Option History) → Stands → ResyncOn Stands s mid new after None
goes_resync Stands s mid new after at = (λ more. at, λ given e. absurd (let k : None ≡ Some given = e in cc k))

ends_resync : {D : Type 0} → (Stands : Type 0) (s : StoreValue D) (mid : Option History) (new : StoreValue D) (after : Option History) (one : Reply) → IsResyncTold s mid one new after → ResyncOn Stands s mid new after (Some one)
ends_resync Stands s mid new after one told = (λ more. absurd (let k : Some one ≡ None = more in cc k), λ given e. subst (λ (r : Reply). IsResyncTold s mid r new after) (some_reply one given e) told)

refused_resync : {D : Type 0} → (Stands : Type 0) (s : StoreValue D) (mid : Option History) (new : StoreValue D) (after : Option History) (why : Refusal) → IsResyncAnswer (reply.Refused why) mid s.map (indexes_of s.boxes) new.map (indexes_of new.boxes) → ((why ≡ refusal.Stopped → ⊥) → IsIdle mid after)
    → ResyncOn Stands s mid new after (Some (reply.Refused why))
refused_resync Stands s mid new after why answer same = ends_resync Stands s mid new after (reply.Refused why) (record { answer = answer; unchanged = λ other e running. same (λ f. running (sym (one_refusal why other e) ∙ f)) })

resync_at : {D : Type 0} → (s : StoreValue D) (mid : Option History) (now next : ResyncAt) (how : Did) (old new : StoreValue D) (before after : Option History) (began counted : Faults) (ended : Option Reply) → s.dues ≡ none_due s.map.records → AtResync s mid now old before → ResyncsOn now next (progress_by ended) how old new before after began counted
    → ((corrected damaged : ℕ) → ended ≡ Some (reply.Resynced corrected damaged) → AreExact new) → (new ≡ old → IsIdle before after) → ResyncOn (AtResync s mid next new after) s mid new after ended
resync_at s mid ToList (ToRead files read damaged) how old new before after began counted None free at on exact same =
    goes_resync _ s mid new after
    (subst (λ (n : ℕ). HasReadFiles s mid files n damaged new after) (sym on.3) (subst (λ (n : ℕ). HasReadFiles s mid files 0 n new after) (sym on.4) (none_read s old new mid before after files at.0 at.1 on.5 (same on.5) on.1)))
resync_at s mid ToList ToList how old new before after began counted (Some (reply.Refused refusal.NoMemory)) free at on exact same = refused_resync _ s mid new after refusal.NoMemory tt (λ running. subst (λ (h : Option History). IsIdle h after) at.1 (same on.1))
resync_at s mid (ToRead files read damaged) (ToRead still more all) how old new before after began counted None free at on exact same =
    goes_resync _ s mid new after
    (subst (λ (fs : List ℕ). HasReadFiles s mid fs more all new after) (sym on.1.1)
    (subst (λ (n : ℕ). HasReadFiles s mid files n all new after) (sym on.1.2) (subst (λ (n : ℕ). HasReadFiles s mid files (read + 1) n new after) (sym on.1.3) (read_on s old new mid before after files read damaged on.1.0 began counted at on.1.4))))
resync_at s mid (ToRead files read damaged) ToList how old new before after began counted (Some (reply.Resynced corrected told)) free at on exact same =
    ends_resync _ s mid new after (reply.Resynced corrected told)
    (record {
      answer = put_right s old new mid before after files read damaged corrected told began counted free at on.1 on.2 on.3 (exact corrected told refl);
      unchanged = λ why e. absurd (let k : reply.Resynced corrected told ≡ reply.Refused why = e in cc k);
    })
resync_at s mid (ToRead files read damaged) ToList how old new before after began counted (Some (reply.Refused refusal.NoMemory)) free at on exact same = refused_resync _ s mid new after refusal.NoMemory tt (λ running. idle-then mid before after at.idle on.2.idle)
resync_at s mid (ToRead files read damaged) ToList how old new before after began counted (Some (reply.Refused refusal.ReadFault)) free at on exact same = refused_resync _ s mid new after refusal.ReadFault tt (λ running. idle-then mid before after at.idle on.2.idle)
resync_at s mid (ToRead files read damaged) ToList how old new before after began counted (Some (reply.Refused refusal.Stopped)) free at on exact same = refused_resync _ s mid new after refusal.Stopped tt (λ running. absurd (running refl))
resync_at s mid now next how old new before after began counted ended free at on exact same = absurd on

resync_on : {D : Type 0} → (s : StoreValue D) (mid : Option History) (t next : Task) (old new : StoreValue D) (before after : Option History) (ended : Option Reply) → s.dues ≡ none_due s.map.records → StandsResync s mid t old before → StaysOfRequest t next → TellsStore t next old new before after ended → (new ≡ old → IsIdle before after) → (ended ≡ None → new.stopped ≡ false)
    → (ended ≡ None → StandsResync s mid next new after) × ((given : Reply) → ended ≡ Some given → IsResyncTold s mid given new after)
resync_on s mid (task.Resync t) (task.Resync next) old new before after ended free is kind tells same runs =
    let on = tells.0 is.0 in
    let k = resync_at s mid t.stage next.stage next.did old new before after on.0 on.1 ended free is.1 on.2 tells.1 same in
    (λ more. (runs more, k.0 more), k.1)
resync_on s mid (task.Ops t) next old new before after ended free is kind tells same runs = absurd (subst IsOpsRequest (sym is) (ops_asked t.request old new tells.0 tells.2))
resync_on s mid (task.Resync t) next old new before after ended free is kind tells same runs = absurd kind
resync_on s mid t next old new before after ended free is kind tells same runs = absurd is

pub keeps_resync : {D : Type 0} → (s : StoreValue D) (mid : Option History) → s.dues ≡ none_due s.map.records → KeepsAlone (StandsResync s mid) (IsResyncTold s mid)
keeps_resync s mid free queued next event old new before after first second is goes =
    resync_on s mid queued.task next old new before after (ended_by event.ended) free is goes.keeps.request goes.keeps.tells (λ back. goes.keeps.same (ap (λ (v : StoreValue _). v.disk) back))
    (λ more. not_true new.stopped (λ stopped. let k : None ≡ Some (reply.Refused refusal.Stopped) = sym more ∙ ap ended_by (goes.stopped stopped) in cc k))

pub begun_resync : {D : Type 0} → (s : StoreValue D) (mid : Option History) → s.stopped ≡ false → (t : Task) → BeginsTask request.Resync t → StandsResync s mid t s mid
begun_resync s mid running (task.Resync t) b = (running, subst (λ (now : ResyncAt). AtResync s mid now s mid) (sym b.at) (refl, refl))
begun_resync s mid running (task.Ops t) b = b.is_of
begun_resync s mid running (task.Deliver t) b = absurd b.is_of
begun_resync s mid running t b = absurd (cc b.is_of)
