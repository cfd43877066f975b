-- How `batch` ends: by what was read, and by the script.
use Rattle.std.specs.Prelude.{◌≡◌, ◌≤◌, ◌<◌, ◌+◌, ◌⊎◌, ℕ, suc, Bool, true, false, cond, if◌then◌else◌, List, [], ◌∷◌, All, Contains, count_by, map, Option, Some, None, Result, Ok, Err, IfOk}
use Rattle.std.specs.List.{AllByRecursion, list_any}
use Rattle.std.proofs.Common.{refl, sym, ◌∙◌, ap, subst, inl, inr, append-nil, arith}
use Rattle.std.proofs.lemmas.List.Elements.{All-nil, All-cons}
use Rattle.std.proofs.lemmas.List.Folds.{list_any_at}
use Rattle.std.proofs.lemmas.List.Sums.{sum_by-cons}
use Rattle.disk_model.specs.Disk.{History, Faults}
use Rattle.disk_model.specs.FaultCounts.{AnyFaultCounted, NoFault}
use Rattle.journal.specs.Journal.{Requests, is_read_fault}
use Rattle.lanes.specs.Worlds.{AreOfLanes}
use Rattle.mdbox_base.specs.Streams.{Appended, Refused}
use Rattle.mdbox_base.specs.declared.replies.Refusal.TheVariants as refused
use Rattle.mdbox_base.specs.declared.replies.Reply.{Reply}
use Rattle.mdbox_base.specs.declared.replies.Reply.TheVariants as reply
use Rattle.mdbox_base.specs.declared.requests.Request.{Request}
use Rattle.mdbox_base.specs.declared.script.JournalEntry.{JournalEntry}
use Rattle.mdbox_base.specs.declared.script.Script.{Script}
use Rattle.mdbox_base.specs.declared.stream.InputError.{InputError}
use Rattle.mdbox_base.specs.declared.stream.InputError.TheVariants as read
use Rattle.model_lists.specs.Lists.{Lists}
use Rattle.model_store.specs.Settled.{IsSettledFor}
use Rattle.store_core.specs.Value.{StoreValue}
use Rattle.store_open.specs.declared.error.OpenError.{OpenError}
use Rattle.store_open.specs.declared.error.OpenError.TheVariants as error
use Rattle.request_text.specs.BatchText.{batch_text}
use Rattle.request_text.specs.Outcomes.{status_of, is_disk_no, is_lack, is_no, replies_outcome}
use Rattle.request_text.specs.declared.outcome.InputRefusal.{InputRefusal}
use Rattle.request_text.specs.declared.outcome.InputRefusal.TheVariants as refusal
use Rattle.request_text.specs.declared.outcome.StoreRefusal.{StoreRefusal}
use Rattle.request_text.specs.declared.outcome.Outcome.{Outcome}
use Rattle.request_text.specs.declared.outcome.Outcome.TheVariants as outcome
use Rattle.script_run.specs.Done.{IsScriptDone}
use Rattle.script_run.specs.Faults.{FaultsByReplies, HasReadFault}
use Rattle.script_run.specs.LeftOpen.{IsServedOpen}
use Rattle.script_run.specs.Opening.{AreSafeFor, IsUnopened}
use Rattle.script_run.specs.Script.{HasStopped}
use Rattle.script_run.specs.Worked.{IsWorkedOut}
use Rattle.script_text.specs.Script.{FitsLanes, FitsScript, IsScript, IsBadAt, ScriptGives}
use Rattle.script_text.specs.declared.error.ScriptError.{ScriptError}
use Rattle.script_text.specs.declared.error.ScriptError.TheVariants as script_error
use Rattle.script_text.proofs.ScriptLemmas.{answer_same}
use Rattle.mdbox_top.specs.BatchRun.{HasNoScript, IsBatchDone, OpenedOutcome, ReadsScript, RefusesScript, ScriptMoments, ScriptOutcome, ScriptRests, ShowsReplies, WasServed, BatchOutcome, BatchRests, BatchStatus}
use Rattle.mdbox_top.specs.DeliverRun.{unread_outcome}
use Rattle.mdbox_top.specs.InputRun.{IsOneOf}
use Rattle.mdbox_top.specs.OpeningOutcome.{opening_outcome}
use Rattle.mdbox_top.proofs.InputLemmas.{Told, long_told, of_told}
use Rattle.mdbox_top.proofs.RequestLemmas.{damage_lacking, one_of_shown, opening_number, refused_by, settled_opens, shown_by}

-- ---- the script

-- an input that wasn't read
pub unscripted : (lanes : ℕ) (old new : Option (List ℕ)) (faults later : ℕ) (e : InputError) → Refused 268435456 old new faults later e → HasNoScript lanes old (unread_outcome e)
unscripted lanes old new faults later (read.TooLong limit) r =
    let l = long_told old new r.1.0 268435456 r.1.2 r.1.1 in
    (l.0, l.1, (r.0, l.2))
unscripted lanes old new faults later read.Fault r = tt
unscripted lanes old new faults later read.NoMemory r = tt

-- what was read to its end was left of the source
pub no_script_told : (lanes : ℕ) (left : Option (List ℕ)) (text : List ℕ) (o : Outcome) → Told left text → HasNoScript lanes (Some text) o → HasNoScript lanes left o
no_script_told lanes left text (outcome.InputRefused why) t e = of_told (λ (input : List ℕ). RefusesScript lanes input why) left text t e
no_script_told lanes left text outcome.NoMemory t e = tt
no_script_told lanes left text outcome.ReadFault t e = tt
no_script_told lanes left text outcome.Done t e = absurd e
no_script_told lanes left text outcome.No t e = absurd e
no_script_told lanes left text outcome.Usage t e = absurd e
no_script_told lanes left text outcome.SessionFull t e = absurd e
no_script_told lanes left text outcome.DiskFault t e = absurd e
no_script_told lanes left text outcome.WriteFault t e = absurd e
no_script_told lanes left text (outcome.StoreRefused why) t e = absurd e

-- what reading a script answers
pub script_given : (lanes : ℕ) (text : List ℕ) (r : Result Script ScriptError) → (r ≡ Err script_error.NoMemory) ⊎ ScriptGives lanes text r → IfOk r (IsScript lanes text)
script_given lanes text (Ok script) (inl e) = absurd (cc e)
script_given lanes text (Ok script) (inr g) = g
script_given lanes text (Err why) g = tt

abbrev IfBad : ℕ → List ℕ → Result Script ScriptError → Type 0
IfBad lanes text (Err (script_error.Bad offset)) = IsBadAt lanes text offset
IfBad lanes text other = Unit {0}

bad_given : (lanes : ℕ) (text : List ℕ) (r : Result Script ScriptError) → (r ≡ Err script_error.NoMemory) ⊎ ScriptGives lanes text r → IfBad lanes text r
bad_given lanes text (Ok script) g = tt
bad_given lanes text (Err (script_error.Bad offset)) (inl e) = absurd (cc e)
bad_given lanes text (Err (script_error.Bad offset)) (inr g) = g
bad_given lanes text (Err script_error.NoMemory) g = tt

pub script_wrong : (lanes : ℕ) (text : List ℕ) (r : Result Script ScriptError) (offset : ℕ) → r ≡ Err (script_error.Bad offset) → (r ≡ Err script_error.NoMemory) ⊎ ScriptGives lanes text r → IsBadAt lanes text offset
script_wrong lanes text r offset is g = subst (IfBad lanes text) is (bad_given lanes text r g)

-- each request is of one of the lanes
pub are_of_lanes : (lanes : ℕ) (requests : Requests) → AllByRecursion (FitsLanes lanes) requests → AreOfLanes lanes requests
are_of_lanes lanes [] all = All-nil (λ (asked : ℕ × Request). (0 < asked.0) × (asked.0 ≤ lanes))
are_of_lanes lanes (asked ∷ rest) all = All-cons (λ (a : ℕ × Request). (0 < a.0) × (a.0 ≤ lanes)) asked rest ((let one = all.0.first in omega (arith, one)), all.0.last) (are_of_lanes lanes rest all.1)

pub are_fit : (lanes : ℕ) (requests : Requests) → AllByRecursion (FitsLanes lanes) requests → All (λ (asked : ℕ × Request). FitsScript asked.1) requests
are_fit lanes [] all = All-nil (λ (asked : ℕ × Request). FitsScript asked.1)
are_fit lanes (asked ∷ rest) all = All-cons (λ (a : ℕ × Request). FitsScript a.1) asked rest all.0.fits (are_fit lanes rest all.1)

-- ---- how replies are printed

-- by the tests of an end
outcome_by : (P : Outcome → Type 0) → (b c d : Bool) → (b ≡ true → P outcome.DiskFault) → P outcome.NoMemory → P outcome.No → P outcome.Done → P (if b then outcome.DiskFault else (if c then outcome.NoMemory else (if d then outcome.No else outcome.Done)))
outcome_by P true c d w x y z = w refl
outcome_by P false true d w x y z = x
outcome_by P false false true w x y z = y
outcome_by P false false false w x y z = z

pub by_outcome : (P : Outcome → Type 0) (replies : List (Option Reply)) → (list_any is_disk_no replies ≡ true → P outcome.DiskFault) → P outcome.NoMemory → P outcome.No → P outcome.Done → P (replies_outcome replies)
by_outcome P replies w x y z = outcome_by P (list_any is_disk_no replies) (list_any is_lack replies) (list_any is_no replies) w x y z

abbrev ShowsAs : List ℕ → List (Option Reply) → Option (List ℕ) → Option (List ℕ) → Outcome → Type 0
ShowsAs text replies h k o = o ≡ replies_outcome replies → ShowsReplies text replies h k o

pub replies_whole : (text : List ℕ) (replies : List (Option Reply)) (h k : Option (List ℕ)) → Appended h text k → ShowsReplies text replies h k (replies_outcome replies)
replies_whole text replies h k a = by_outcome (ShowsAs text replies h k) replies (λ any e. (e, a)) (λ e. (text, [], sym (append-nil text), a)) (λ e. (e, a)) (λ e. (e, a)) refl

-- the same replies and the same journal
pub shown_as : (journal j : List JournalEntry) (replies r : List (Option Reply)) (given : List Reply) (h k : Option (List ℕ)) (o : Outcome) → j ≡ journal → r ≡ replies → replies ≡ map Some given → ShowsReplies (batch_text j r) r h k o → ShowsReplies (batch_text journal (map Some given)) (map Some given) h k o
shown_as journal j replies r given h k o e f g s =
    subst (λ (x : List (Option Reply)). ShowsReplies (batch_text journal x) x h k o) (f ∙ g) (subst (λ (x : List JournalEntry). ShowsReplies (batch_text x r) r h k o) e s)

-- the disk of a store that a script left open, once it is handed back
pub handed_back : {D : Type 0} → (history : D → Option History) (faults : D → Faults) (script : Requests) (replies : List (Option Reply)) (entries : List JournalEntry) (old : Option History) (began : Faults) (store : StoreValue D) (disk : D) → disk ≡ store.disk
    → (given : List Reply) × (replies ≡ map Some given) × IsServedOpen script given entries old (history store.disk) began (faults store.disk) store → (given : List Reply) × (replies ≡ map Some given) × IsScriptDone script given entries old (history disk) began (faults disk)
handed_back {D} history faults script replies entries old began store disk back served =
    (served.0, served.1, subst (λ (d : D). IsScriptDone script served.0 entries old (history d) began (faults d)) (sym back) served.2.done)

pub worked_back : {D : Type 0} → (history : D → Option History) (faults : D → Faults) (script : Script) (replies : List (Option Reply)) (entries : List JournalEntry) (old : Option History) (began : Faults) (left disk : D) → disk ≡ left
    → IsWorkedOut D script.requests script.lanes replies entries old (history left) began (faults left) → IsWorkedOut D script.requests script.lanes replies entries old (history disk) began (faults disk)
worked_back {D} history faults script replies entries old began left disk back worked = subst (λ (d : D). IsWorkedOut D script.requests script.lanes replies entries old (history d) began (faults d)) (sym back) worked

pub worked_for : {D : Type 0} → (script : Script) (r replies : List (Option Reply)) (entries : List JournalEntry) (old new : Option History) (f g : Faults) → r ≡ replies → IsWorkedOut D script.requests script.lanes r entries old new f g → IsWorkedOut D script.requests script.lanes replies entries old new f g
worked_for {D} script r replies entries old new f g same worked = subst (λ (rs : List (Option Reply)). IsWorkedOut D script.requests script.lanes rs entries old new f g) same worked

outcome_number : (replies : List (Option Reply)) → IsOneOf (0 ∷ 1 ∷ 5 ∷ 6 ∷ []) (status_of (replies_outcome replies))
outcome_number replies = by_outcome (λ (o : Outcome). IsOneOf (0 ∷ 1 ∷ 5 ∷ 6 ∷ []) (status_of o)) replies (λ any. inr (inr (inr (inl refl)))) (inr (inr (inl refl))) (inr (inl refl)) (inl refl)

pub replies_number : (text : List ℕ) (replies : List (Option Reply)) (h k : Option (List ℕ)) (o : Outcome) → ShowsReplies text replies h k o → IsOneOf (0 ∷ 1 ∷ 5 ∷ 6 ∷ 8 ∷ []) (status_of o)
replies_number text replies h k outcome.WriteFault s = inr (inr (inr (inr (inl refl))))
replies_number text replies h k outcome.NoMemory s = inr (inr (inl refl))
replies_number text replies h k outcome.Done s = inl refl
replies_number text replies h k outcome.No s = inr (inl refl)
replies_number text replies h k outcome.DiskFault s = inr (inr (inr (inl refl)))
replies_number text replies h k outcome.ReadFault s = one_of_shown 7 _ (outcome_number replies) (ap status_of s.0)
replies_number text replies h k outcome.Usage s = one_of_shown 2 _ (outcome_number replies) (ap status_of s.0)
replies_number text replies h k outcome.SessionFull s = inl refl
replies_number text replies h k (outcome.StoreRefused why) s = one_of_shown 3 _ (outcome_number replies) (ap status_of s.0)
replies_number text replies h k (outcome.InputRefused why) s = one_of_shown 4 _ (outcome_number replies) (ap status_of s.0)

-- ---- faults of the disk

-- a reply that tells of one
told_any : (replies : List Reply) → list_any is_disk_no (map Some replies) ≡ list_any (λ (r : Reply). is_disk_no (Some r)) replies
told_any [] = refl
told_any (r ∷ rest) = rw (told_any rest) refl

told_in : (replies : List Reply) (r : Reply) → Contains replies r → is_disk_no (Some r) ≡ true → list_any is_disk_no (map Some replies) ≡ true
told_in replies r c e = told_any replies ∙ list_any_at (λ (x : Reply). is_disk_no (Some x)) replies c.0 r c.1 (ap (λ (x : Reply). is_disk_no (Some x)) c.2 ∙ e)

pub told_outcome : (replies : List (Option Reply)) → list_any is_disk_no replies ≡ true → replies_outcome replies ≡ outcome.DiskFault
told_outcome replies e = rw e refl

pub stopped_any : (given : List Reply) → HasStopped given → list_any is_disk_no (map Some given) ≡ true
stopped_any given c = told_in given (reply.Refused refused.Stopped) c refl

pub unread_any : (given : List Reply) → HasReadFault given → list_any is_disk_no (map Some given) ≡ true
unread_any given c = told_in given (reply.Refused refused.ReadFault) c refl

pub stopped_outcome : (given : List Reply) → HasStopped given → replies_outcome (map Some given) ≡ outcome.DiskFault
stopped_outcome given c = told_outcome (map Some given) (stopped_any given c)

pub unread_outcome_is : (given : List Reply) → HasReadFault given → replies_outcome (map Some given) ≡ outcome.DiskFault
unread_outcome_is given c = told_outcome (map Some given) (unread_any given c)

-- which reply it was
abbrev pub HasCause : List Reply → Type 0
HasCause given = (1 ≤ count_by is_read_fault (map Some given)) ⊎ HasStopped given

count_rest : (r : Reply) (rest : List Reply) → count_by is_read_fault (map Some (r ∷ rest)) ≡ cond (is_read_fault (Some r)) 1 0 + count_by is_read_fault (map Some rest)
count_rest r rest = sum_by-cons (λ (x : Option Reply). cond (is_read_fault x) 1 0) (Some r) (map Some rest)

later_cause : (r : Reply) (rest : List Reply) → HasCause rest → HasCause (r ∷ rest)
later_cause r rest (inl n) = inl (let more = count_rest r rest in omega (arith, n, more))
later_cause r rest (inr c) = inr (suc c.0, (let l = c.1 in omega (arith, l)), c.2)

cause_in : (given : List Reply) → list_any is_disk_no (map Some given) ≡ true → HasCause given
cause_in [] e = absurd (let k : false ≡ true = e in cc k)
cause_in (reply.Refused refused.ReadFault ∷ rest) e = inl (let more : count_by is_read_fault (map Some (reply.Refused refused.ReadFault ∷ rest)) ≡ 1 + count_by is_read_fault (map Some rest) = count_rest (reply.Refused refused.ReadFault) rest in omega (arith, more))
cause_in (reply.Refused refused.Stopped ∷ rest) e = inr (0, omega arith, refl)
cause_in (reply.Refused why ∷ rest) e = later_cause (reply.Refused why) rest (cause_in rest e)
cause_in (other ∷ rest) e = later_cause other rest (cause_in rest e)

pub outcome_cause : (given : List Reply) → replies_outcome (map Some given) ≡ outcome.DiskFault → HasCause given
outcome_cause given = by_outcome (λ (o : Outcome). o ≡ outcome.DiskFault → HasCause given) (map Some given) (λ any e. cause_in given any) (λ e. absurd (cc e)) (λ e. absurd (cc e)) (λ e. absurd (cc e))

-- a fault that was told ends with a status that says so, or may hide it
failed_printing : (text : List ℕ) (replies : List (Option Reply)) (h k : Option (List ℕ)) (o : Outcome) → ShowsReplies text replies h k o → replies_outcome replies ≡ outcome.DiskFault → IsOneOf (5 ∷ 6 ∷ 8 ∷ []) (status_of o)
failed_printing text replies h k outcome.WriteFault s failed = inr (inr (inl refl))
failed_printing text replies h k outcome.NoMemory s failed = inl refl
failed_printing text replies h k outcome.Done s failed = inr (inl (ap status_of (s.0 ∙ failed)))
failed_printing text replies h k outcome.No s failed = inr (inl (ap status_of (s.0 ∙ failed)))
failed_printing text replies h k outcome.DiskFault s failed = inr (inl refl)
failed_printing text replies h k outcome.ReadFault s failed = inr (inl (ap status_of (s.0 ∙ failed)))
failed_printing text replies h k outcome.Usage s failed = inr (inl (ap status_of (s.0 ∙ failed)))
failed_printing text replies h k outcome.SessionFull s failed = inr (inl (ap status_of (s.0 ∙ failed)))
failed_printing text replies h k (outcome.StoreRefused why) s failed = inr (inl (ap status_of (s.0 ∙ failed)))
failed_printing text replies h k (outcome.InputRefused why) s failed = inr (inl (ap status_of (s.0 ∙ failed)))

pub script_fault : (text : List ℕ) (given : List Reply) (h k : Option (List ℕ)) (began now : Faults) (o : Outcome) → FaultsByReplies given began now → ShowsReplies text (map Some given) h k o → AnyFaultCounted (o ≡ outcome.DiskFault) began now
script_fault text given h k began now o f s = record {
  reads = f.counted;
  changes = f.changes;
  rose = λ e. elim (outcome_cause given (sym (subst (ShowsReplies text (map Some given) h k) e s).0)) [
    | inl some ↦ inl (let reads = f.reads in omega (arith, reads, some))
    | inr stopped ↦ inr (f.stopped stopped)
  ];
}

pub script_quiet : (text : List ℕ) (given : List Reply) (h k : Option (List ℕ)) (began now : Faults) (o : Outcome) → FaultsByReplies given began now → ShowsReplies text (map Some given) h k o → (IsOneOf (5 ∷ 6 ∷ 8 ∷ []) (status_of o) → ⊥) → NoFault began now
script_quiet text given h k began now o f s none = f.quiet
    (λ (c : HasReadFault given). none (failed_printing text (map Some given) h k o s (unread_outcome_is given c)))
    (λ (c : HasStopped given). none (failed_printing text (map Some given) h k o s (stopped_outcome given c)))

-- ---- a script that was done

pub safe_at : (lists : Lists) (old : Option History) → IsSettledFor lists old → AreSafeFor lists old
safe_at lists None s = absurd s
safe_at lists (Some h) s = record { store = s.store; entries = s.entries; by = s.safe }

abbrev pub served_from : (script : Requests) (given : List Reply) (entries : List JournalEntry) (old new : Option History) (began now : Faults) (lists : Lists) → IsScriptDone script given entries old new began now → IsSettledFor lists old → WasServed script lists old new
served_from script given entries old new began now lists d s = record { given = given; entries = entries; began = began; now = now; opened = d.leaves.opened; served = d.serves lists (d.shown lists (safe_at lists old s)) (λ reads. inl s) }

pub script_moments : (script : Requests) (given : List Reply) (entries : List JournalEntry) (old new : Option History) (began now : Faults) → IsScriptDone script given entries old new began now → ScriptMoments script old new
script_moments script given entries old new began now d = λ lists s. inr (served_from script given entries old new began now lists d s)

pub script_rests : (script : Requests) (text : List ℕ) (given : List Reply) (entries : List JournalEntry) (h k : Option (List ℕ)) (old new : Option History) (began now : Faults) (o : Outcome) → IsScriptDone script given entries old new began now → ShowsReplies text (map Some given) h k o
    → ScriptRests script (IsOneOf (5 ∷ 6 ∷ 8 ∷ []) (status_of o)) began now old new
script_rests script text given entries h k old new began now o d shows = λ none lists s.
    let was = served_from script given entries old new began now lists d s in
    inr (was, was.served.settled (λ (c : HasStopped given). none (failed_printing text (map Some given) h k o shows (stopped_outcome given c)) ((d.faults (lists, λ reads. inl s)).stopped c)) s)

-- ---- a store that was not opened

unopened_may : (why : OpenError) → why ≡ error.DiskFault → IsOneOf (5 ∷ 6 ∷ 8 ∷ []) (status_of (opening_outcome why))
unopened_may why e = inr (inl (ap (λ (w : OpenError). status_of (opening_outcome w)) e))

pub unopened_as : (Done : Outcome → Type 0) (h : Option (List ℕ)) (old new : Option History) (began now : Faults) (why : OpenError) → IsUnopened why old new began now → OpenedOutcome Done h h old new began now (opening_outcome why)
unopened_as Done h old new began now why u = inl (record { why = why; ended_is = refl; unprinted = refl; leaves = u })

pub unopened_script : {D : Type 0} → (script : Script) (h : Option (List ℕ)) (old new : Option History) (began now : Faults) (why : OpenError) → IsUnopened why old new began now → ScriptOutcome D script h h old new began now (opening_outcome why)
unopened_script {D} script h old new began now why u = unopened_as (IsBatchDone D script h h old new began now) h old new began now why u

pub unopened_script_rests : (script : Requests) (old new : Option History) (began now : Faults) (why : OpenError) → IsUnopened why old new began now → ScriptRests script (IsOneOf (5 ∷ 6 ∷ 8 ∷ []) (status_of (opening_outcome why))) began now old new
unopened_script_rests script old new began now why u = λ none lists s. inl (u.settled_again (λ f. none (unopened_may why f)) lists s)

pub unopened_moments : (script : Requests) (old new : Option History) (began now : Faults) (why : OpenError) → IsUnopened why old new began now → ScriptMoments script old new
unopened_moments script old new began now why u = λ lists s. inl (u.moments lists s)

pub unopened_script_quiet : (old new : Option History) (began now : Faults) (why : OpenError) → IsUnopened why old new began now → (IsOneOf (5 ∷ 6 ∷ 8 ∷ []) (status_of (opening_outcome why)) → ⊥) → NoFault began now
unopened_script_quiet old new began now why u none = u.unfailed (λ f. none (unopened_may why f))

-- ---- the end of a run

-- Whatever a store's script comes to once the store was opened, it ends with one of these statuses.
abbrev pub EndsKnown : (Outcome → Type 0) → Type 0
EndsKnown Done = (o : Outcome) → Done o → IsOneOf (0 ∷ 1 ∷ 5 ∷ 6 ∷ 8 ∷ []) (status_of o)

pub opened_refuses : (Done : Outcome → Type 0) → EndsKnown Done → (h k : Option (List ℕ)) (old new : Option History) (f g : Faults) (why : InputRefusal) → OpenedOutcome Done h k old new f g (outcome.InputRefused why) → ⊥
opened_refuses Done known h k old new f g why (inl n) = refused_by 4 _ (opening_number n.why) (ap status_of n.ended_is) (inr refl)
opened_refuses Done known h k old new f g why (inr d) = shown_by 4 (known (outcome.InputRefused why) d) (inr (inr refl))

pub opened_damage : (Done : Outcome → Type 0) → EndsKnown Done → (h k : Option (List ℕ)) (old new : Option History) (f g : Faults) (s : StoreRefusal) → OpenedOutcome Done h k old new f g (outcome.StoreRefused s) → OpenedOutcome Done h k old new f g outcome.NoMemory
opened_damage Done known h k old new f g s (inl n) = inl (damage_lacking h k old new f g s n)
opened_damage Done known h k old new f g s (inr d) = absurd (shown_by 3 (known (outcome.StoreRefused s) d) (inr (inl refl)))

pub opened_used : (Done : Outcome → Type 0) → EndsKnown Done → (h k : Option (List ℕ)) (old new : Option History) (f g : Faults) → OpenedOutcome Done h k old new f g outcome.Usage → ⊥
opened_used Done known h k old new f g (inl n) = refused_by 2 _ (opening_number n.why) (ap status_of n.ended_is) (inl refl)
opened_used Done known h k old new f g (inr d) = shown_by 2 (known outcome.Usage d) (inl refl)

pub opened_status : (Done : Outcome → Type 0) → EndsKnown Done → (h k : Option (List ℕ)) (old new : Option History) (f g : Faults) (o : Outcome) → OpenedOutcome Done h k old new f g o → (lists : Lists) → IsSettledFor lists old → IsOneOf (0 ∷ 1 ∷ 5 ∷ 6 ∷ 8 ∷ []) (status_of o)
opened_status Done known h k old new f g o (inl n) lists s = elim (settled_opens lists old n.why s n.leaves.cause) [
  | inl fault ↦ inr (inr (inr (inl (ap status_of n.ended_is ∙ ap (λ (w : OpenError). status_of (opening_outcome w)) fault))))
  | inr memory ↦ inr (inr (inl (ap status_of n.ended_is ∙ ap (λ (w : OpenError). status_of (opening_outcome w)) memory)))
]
opened_status Done known h k old new f g o (inr d) lists s = known o d

pub opened_ended : (Done : Outcome → Type 0) → EndsKnown Done → (h k : Option (List ℕ)) (old new : Option History) (f g : Faults) (o : Outcome) → OpenedOutcome Done h k old new f g o → (o ≡ outcome.ReadFault) ⊎ ((why : InputRefusal) × (o ≡ outcome.InputRefused why)) → ⊥
opened_ended Done known h k old new f g o (inl n) (inl e) = read_end (status_of (opening_outcome n.why)) (opening_number n.why) (sym (ap status_of n.ended_is) ∙ ap status_of e)
  where
    read_end : (n : ℕ) → IsOneOf (3 ∷ 5 ∷ 6 ∷ []) n → n ≡ 7 → ⊥
    read_end n (inl a) e = omega (arith, a, e)
    read_end n (inr (inl a)) e = omega (arith, a, e)
    read_end n (inr (inr (inl a))) e = omega (arith, a, e)
    read_end n (inr (inr (inr a))) e = a
opened_ended Done known h k old new f g o (inr d) (inl e) = read_end (status_of o) (known o d) (ap status_of e)
  where
    read_end : (n : ℕ) → IsOneOf (0 ∷ 1 ∷ 5 ∷ 6 ∷ 8 ∷ []) n → n ≡ 7 → ⊥
    read_end n (inl a) e = omega (arith, a, e)
    read_end n (inr (inl a)) e = omega (arith, a, e)
    read_end n (inr (inr (inl a))) e = omega (arith, a, e)
    read_end n (inr (inr (inr (inl a)))) e = omega (arith, a, e)
    read_end n (inr (inr (inr (inr (inl a))))) e = omega (arith, a, e)
    read_end n (inr (inr (inr (inr (inr a))))) e = a
opened_ended Done known h k old new f g o e (inr w) = opened_refuses Done known h k old new f g w.0 (subst (OpenedOutcome Done h k old new f g) w.1 e)

-- a script that was done ends with one of them
done_known : {D : Type 0} → (script : Script) (h k : Option (List ℕ)) (old new : Option History) (f g : Faults) → EndsKnown (IsBatchDone D script h k old new f g)
done_known script h k old new f g o d = replies_number _ (map Some d.given) h k o d.printed

pub script_ended : {D : Type 0} → (script : Script) (h k : Option (List ℕ)) (old new : Option History) (f g : Faults) (o : Outcome) → ScriptOutcome D script h k old new f g o → (o ≡ outcome.ReadFault) ⊎ ((why : InputRefusal) × (o ≡ outcome.InputRefused why)) → ⊥
script_ended {D} script h k old new f g o e w = opened_ended (IsBatchDone D script h k old new f g) (done_known script h k old new f g) h k old new f g o e w

pub no_script_apart : (lanes : ℕ) (left : Option (List ℕ)) (o : Outcome) → HasNoScript lanes left o → (o ≡ outcome.DiskFault) ⊎ (o ≡ outcome.WriteFault) → ⊥
no_script_apart lanes left o u (inl e) = subst (HasNoScript lanes left) e u
no_script_apart lanes left o u (inr e) = subst (HasNoScript lanes left) e u

pub batch_input : {D : Type 0} → (lanes : ℕ) (left h k : Option (List ℕ)) (old new : Option History) (f g : Faults) (why : InputRefusal) → BatchOutcome D lanes left h k old new f g (outcome.InputRefused why) → BatchOutcome D lanes left h k old new f g outcome.NoMemory
batch_input lanes left h k old new f g why (inl u) = inl (tt, u.1, u.2, u.3)
batch_input {D} lanes left h k old new f g why (inr d) = absurd (opened_refuses (IsBatchDone D d.0 h k old new f g) (done_known d.0 h k old new f g) h k old new f g why d.2)

pub batch_damage : {D : Type 0} → (lanes : ℕ) (left h k : Option (List ℕ)) (old new : Option History) (f g : Faults) (s : StoreRefusal) → BatchOutcome D lanes left h k old new f g (outcome.StoreRefused s) → BatchOutcome D lanes left h k old new f g outcome.NoMemory
batch_damage lanes left h k old new f g s (inl u) = absurd u.0
batch_damage {D} lanes left h k old new f g s (inr d) = inr (d.0, d.1, opened_damage (IsBatchDone D d.0 h k old new f g) (done_known d.0 h k old new f g) h k old new f g s d.2)

pub batch_used : {D : Type 0} → (lanes : ℕ) (left h k : Option (List ℕ)) (old new : Option History) (f g : Faults) → BatchOutcome D lanes left h k old new f g outcome.Usage → ⊥
batch_used lanes left h k old new f g (inl u) = u.0
batch_used {D} lanes left h k old new f g (inr d) = opened_used (IsBatchDone D d.0 h k old new f g) (done_known d.0 h k old new f g) h k old new f g d.2

pub batch_rests_as : (lanes : ℕ) (left : Option (List ℕ)) (F G : Type 0) (f g : Faults) (old new : Option History) → (F → G) → BatchRests lanes left F f g old new → BatchRests lanes left G f g old new
batch_rests_as lanes left F G f g old new h (inl same) = inl same
batch_rests_as lanes left F G f g old new h (inr d) = inr (d.0, d.1, λ none. d.2 (λ failed. none (h failed)))

-- ---- its status

-- no input is both a script and refused
not_both : (lanes : ℕ) (all : List ℕ) (script : Script) (why : InputRefusal) → lanes < 4294967296 → ReadsScript lanes all script → RefusesScript lanes all why → ⊥
not_both lanes all script (refusal.TooLong limit) few r w = (let a = r.0 in let b = w.1 in omega (arith, a, b))
not_both lanes all script (refusal.Script flaw) few r w =
    let gives : ScriptGives lanes all (Err (script_error.Bad flaw.offset)) = w.1.bad in
    let read : ScriptGives lanes all (Ok script) = r.1 in
    let same = answer_same lanes all (Ok script) (Err (script_error.Bad flaw.offset)) (omega (arith, few)) read gives in
    cc same
not_both lanes all script (refusal.File why) few r w = w
not_both lanes all script (refusal.Log place) few r w = w

no_script_number : (lanes : ℕ) (all : List ℕ) (o : Outcome) → HasNoScript lanes (Some all) o → IsOneOf (4 ∷ 5 ∷ 7 ∷ []) (status_of o)
no_script_number lanes all (outcome.InputRefused why) u = inl refl
no_script_number lanes all outcome.NoMemory u = inr (inl refl)
no_script_number lanes all outcome.ReadFault u = inr (inr (inl refl))
no_script_number lanes all outcome.Done u = absurd u
no_script_number lanes all outcome.No u = absurd u
no_script_number lanes all outcome.Usage u = absurd u
no_script_number lanes all outcome.SessionFull u = absurd u
no_script_number lanes all outcome.DiskFault u = absurd u
no_script_number lanes all outcome.WriteFault u = absurd u
no_script_number lanes all (outcome.StoreRefused why) u = absurd u

script_number : (lanes : ℕ) (all : List ℕ) (script : Script) (o : Outcome) → lanes < 4294967296 → ReadsScript lanes all script → HasNoScript lanes (Some all) o → IsOneOf (0 ∷ 1 ∷ 5 ∷ 6 ∷ 7 ∷ 8 ∷ []) (status_of o)
script_number lanes all script (outcome.InputRefused why) few r u = absurd (not_both lanes all script why few r (subst (λ (input : List ℕ). RefusesScript lanes input why) (sym u.1) u.2))
script_number lanes all script outcome.NoMemory few r u = inr (inr (inl refl))
script_number lanes all script outcome.ReadFault few r u = inr (inr (inr (inr (inl refl))))
script_number lanes all script outcome.Done few r u = absurd u
script_number lanes all script outcome.No few r u = absurd u
script_number lanes all script outcome.Usage few r u = absurd u
script_number lanes all script outcome.SessionFull few r u = absurd u
script_number lanes all script outcome.DiskFault few r u = absurd u
script_number lanes all script outcome.WriteFault few r u = absurd u
script_number lanes all script (outcome.StoreRefused why) few r u = absurd u

one_more : (n : ℕ) → IsOneOf (0 ∷ 1 ∷ 5 ∷ 6 ∷ 8 ∷ []) n → IsOneOf (0 ∷ 1 ∷ 5 ∷ 6 ∷ 7 ∷ 8 ∷ []) n
one_more n (inl a) = inl a
one_more n (inr (inl a)) = inr (inl a)
one_more n (inr (inr (inl a))) = inr (inr (inl a))
one_more n (inr (inr (inr (inl a)))) = inr (inr (inr (inl a)))
one_more n (inr (inr (inr (inr (inl a))))) = inr (inr (inr (inr (inr (inl a)))))
one_more n (inr (inr (inr (inr (inr a))))) = absurd a

pub batch_status : {D : Type 0} → (lanes : ℕ) (left h k : Option (List ℕ)) (old new : Option History) (f g : Faults) (o : Outcome) → lanes < 4294967296 → BatchOutcome D lanes left h k old new f g o → BatchStatus lanes left old (status_of o)
batch_status lanes None h k old new f g o few e = tt
batch_status lanes (Some all) h k old new f g o few (inl u) = (λ why w. no_script_number lanes all o u.0, λ script r lists s. script_number lanes all script o few r u.0)
batch_status {D} lanes (Some all) h k old new f g o few (inr d) = (
  λ why w. absurd (not_both lanes all d.0 why few (subst (λ (input : List ℕ). ReadsScript lanes input d.0) (sym d.1.1) d.1.2) w),
  λ script r lists s. one_more (status_of o) (opened_status (IsBatchDone D d.0 h k old new f g) (done_known d.0 h k old new f g) h k old new f g o d.2 lists s),
)
