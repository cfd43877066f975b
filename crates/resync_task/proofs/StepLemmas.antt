-- What the step of a resync says, event by event.
use Rattle.resync_task.proofs.Common.{◌≡◌, ◌≤◌, ◌<◌, ◌+◌, ℕ, Bool, true, false, List, [], ◌∷◌, length, Option, Some, None, refl, sym, ◌∙◌, ap, subst, arith, zero, suc, All, Contains, count_by, All-weaker, History, Faults, Refusal, Reply, HasRecord, MapMeaning, RunEvent, Run, own_events, Around}
use Rattle.resync_task.proofs.Common.{IsStore, StoreValue, wrong_of, seen_of, no_claims, DidEvent, PutsRight, HasDamagedRegion, AreRecordFiles, ResyncAt, ToList, ToRead, HasRead, many_corrected, ReadsStoreOnly, fall}
use Rattle.std.proofs.Common.{◌≢◌, ◌||◌, slice_get}
use Rattle.disk_model.specs.FaultCounts.{ReadFaultCounted}
use Rattle.mdbox_base.specs.declared.progress.Did.{Did}
use Rattle.mdbox_base.specs.declared.progress.Did.TheVariants as did
use Rattle.mdbox_base.specs.declared.progress.Progress.{Progress}
use Rattle.mdbox_base.specs.declared.progress.Progress.TheVariants as progress
use Rattle.mdbox_base.specs.declared.replies.Refusal.TheVariants as refusal
use Rattle.mdbox_base.specs.declared.replies.Reply.TheVariants as reply
use Rattle.mdbox_base.specs.declared.requests.Request.TheVariants as request
use Rattle.mdbox_base.specs.declared.script.Half.TheVariants as half
use Rattle.list_machine.specs.Run.{map_of}
use Rattle.journal.specs.Events.{is_reading}
use Rattle.journal.specs.Found.{FindsDamage, ListsFiles, file_to_read, is_known_file, is_named_file}
use Rattle.task_claims.specs.Stable.{MovesOwnClaims}
use Rattle.task_claims.proofs.RestLemmas.{mail_same}
use Rattle.task_steps.specs.Step.{ended_by}
use Rattle.task_steps.proofs.OneEventLemmas.{never_more}
use Rattle.resync_task.specs.Clause.{CountsFaults, FindsResync, ResyncClause, ResyncKeeps}
use Rattle.resync_task.specs.Correcting.{AreExact, FellCorrecting}
use Rattle.resync_task.specs.Damage.{AreDamaged}
use Rattle.resync_task.specs.Stages.{HasFilesLeft}
use Rattle.resync_task.specs.Reading.{ReadsNext}
use Rattle.resync_task.specs.Task.{ResyncsOn, resync_left}
use Rattle.resync_task.proofs.CorrectingLemmas.{entry_fits, entry_many}
use Rattle.resync_task.proofs.IdleStoreLemmas.{idle_grows, reading_claims, reading_leaves, reading_leads, reading_mail, reading_rest, reading_shows, reading_stays}
use Rattle.resync_task.proofs.RefusedResyncLemmas.{resync_broken, resync_faulted, resync_stopped, resync_unremembered}
use Rattle.resync_task.proofs.ResyncEventLemmas.{corrects_then, lists_then, reads_then}
use Rattle.resync_task.proofs.RightCountLemmas.{counts_fit, fell_stays, right_claims, right_exact, right_leaves, right_shows, right_tells}
use Rattle.resync_task.proofs.StoreCountLemmas.{wrong_of_store}
use Rattle.disk_model.proofs.IdleLemmas.{idle-begins}

-- what a step says of an event
pub record ResyncKnown {D : Type 0} (now next : ResyncAt) (answer : Progress) (how : Did) (old new : StoreValue D) (before after : Option History) (began then : Faults) : Type 0 where
  pub does : ResyncClause now next old new before after began then how (ended_by answer)
  pub exact : (corrected damaged : ℕ) → answer ≡ progress.Done (reply.Resynced corrected damaged) → AreExact new
  pub keeps : ResyncKeeps now next answer old new before after began then
  pub claims : new.stopped ≡ false → MovesOwnClaims no_claims no_claims answer old new before after
  pub left : answer ≡ progress.More → resync_left next < resync_left now

-- ---- answers that are told apart

more_done : (given : Reply) → progress.More ≡ progress.Done given → ⊥
more_done given e = cc e

done_more : (given : Reply) → progress.Done given ≡ progress.More → ⊥
done_more given e = cc e

abbrev Refuses : Refusal → Progress
Refuses why = progress.Done (reply.Refused why)

why_is : (a b : Refusal) → Refuses a ≡ Refuses b → a ≡ b
why_is a b e = let k : reply.Refused a ≡ reply.Refused b = cc e in cc k

refused_not : (why : Refusal) (corrected damaged : ℕ) → Refuses why ≡ progress.Done (reply.Resynced corrected damaged) → ⊥
refused_not why corrected damaged e = let k : reply.Refused why ≡ reply.Resynced corrected damaged = cc e in cc k

resynced_not : (why : Refusal) (corrected damaged : ℕ) → progress.Done (reply.Resynced corrected damaged) ≡ Refuses why → ⊥
resynced_not why corrected damaged e = let k : reply.Resynced corrected damaged ≡ reply.Refused why = cc e in cc k

memory_fault : Refuses refusal.NoMemory ≡ Refuses refusal.ReadFault → ⊥
memory_fault e = let k : refusal.NoMemory ≡ refusal.ReadFault = why_is _ _ e in cc k

memory_stopped : Refuses refusal.NoMemory ≡ Refuses refusal.Stopped → ⊥
memory_stopped e = let k : refusal.NoMemory ≡ refusal.Stopped = why_is _ _ e in cc k

fault_stopped : Refuses refusal.ReadFault ≡ Refuses refusal.Stopped → ⊥
fault_stopped e = let k : refusal.ReadFault ≡ refusal.Stopped = why_is _ _ e in cc k

stopped_fault : Refuses refusal.Stopped ≡ Refuses refusal.ReadFault → ⊥
stopped_fault e = let k : refusal.Stopped ≡ refusal.ReadFault = why_is _ _ e in cc k

-- no call failed
faults_none : {D : Type 0} → (answer : Progress) (old new : StoreValue D) (began then : Faults) → then ≡ began → (answer ≡ Refuses refusal.ReadFault → ⊥) → (answer ≡ Refuses refusal.Stopped → ⊥) → CountsFaults answer old new began then
faults_none answer old new began then none calm runs = subst (λ (f : Faults). CountsFaults answer old new began f) (sym none) (record {
  reads = omega arith;
  changes = omega arith;
  read = λ e. absurd (calm e);
  change = λ ran e. absurd (runs e);
  steady = λ e. refl;
  unfailed = λ a b. refl;
})

-- ---- what an event finds

-- what else an event might find, of which nothing is asked
abbrev found_files : List ℕ → Around
found_files files = record { parts = 0; candidate = None; room = None; files = files; instance = None; damaged = [] }

abbrev found_damage : List ℕ → Around
found_damage uids = record { parts = 0; candidate = None; room = None; files = []; instance = None; damaged = uids }

below_apart : (a b : ℕ) → a < b → a ≢ b
below_apart a b l e = omega (arith, l, e)

or_named : (known named : Bool) → named ≡ true → (known || named) ≡ true
or_named true named e = refl
or_named false named e = e

listing_agrees : (run : Run) (m : MapMeaning) (files : List ℕ) → map_of run ≡ m → AreRecordFiles m files → ListsFiles run files
listing_agrees run m files is are = record {
  once = λ i j d lt le. below_apart _ _ (are.rising i j d lt le);
  known = All-weaker (λ (file : ℕ). is_named_file m file ≡ true) (λ (file : ℕ). (is_known_file run file || is_named_file (map_of run) file) ≡ true) (λ file named. or_named (is_known_file run file) (is_named_file (map_of run) file) (ap (λ (x : MapMeaning). is_named_file x file) is ∙ named)) files are.named;
  every = subst (λ (x : MapMeaning). All (λ row. Contains files row.file) x.records) (sym is) are.every;
}

reads_file : (files : List ℕ) (read damaged place file : ℕ) (own : List RunEvent) → HasRead files read damaged place own → slice_get files read ≡ Some file → file_to_read own ≡ Some file
reads_file files read damaged place file own h next = ap (λ (fs : List ℕ). slice_get fs (count_by (λ (e : RunEvent). is_reading e.part) own)) h.listed ∙ (ap (λ (n : ℕ). slice_get files n) h.read_are ∙ next)

some_file : (a b : ℕ) → a ≡ b → Some a ≡ Some b
some_file a b e = ap (λ (n : ℕ). Some n) e

damage_agrees : (run : Run) (m : MapMeaning) (own : List RunEvent) (history : Option History) (file : ℕ) (uids : List ℕ) → map_of run ≡ m → file_to_read own ≡ Some file → AreDamaged history m file uids → FindsDamage run own uids
damage_agrees run m own history file uids is next are = record {
  once = are.once;
  here = subst (λ (x : MapMeaning). All (λ uid. HasRecord x uid (λ row. file_to_read own ≡ Some row.file)) uids) (sym is)
      (All-weaker (λ (uid : ℕ). HasRecord m uid (λ row. (row.file ≡ file) × HasDamagedRegion history row)) (λ (uid : ℕ). HasRecord m uid (λ row. file_to_read own ≡ Some row.file)) (λ uid r. (r.0, r.1, next ∙ some_file file r.0.file (sym r.2.0))) uids are.bad);
}

within : (files : List ℕ) (n file : ℕ) → slice_get files n ≡ Some file → n < length files
within [] n file e = absurd (none_there n e)
  where
    none_there : (n : ℕ) → slice_get [] n ≡ Some file → ⊥
    none_there zero e = let k : None ≡ Some file = e in cc k
    none_there (suc n) e = let k : None ≡ Some file = e in cc k
within (f ∷ files) zero file e = omega arith
within (f ∷ files) (suc n) file e = let k = within files n file e in omega (arith, k)

-- ---- the first event

known_listed : {D : Type 0} → (files : List ℕ) (store : StoreValue D) (history : Option History) (faults : Faults) → store.stopped ≡ false → AreRecordFiles store.map files → length files ≤ 4294967295 → ResyncKnown ToList (ToRead files 0 0) progress.More did.Quiet store store history history faults faults
known_listed files store history faults runs are few = record {
  does = λ behind pins. (
    found_files files,
    are,
    λ run lane place said lists come shows stood. lists_then (found_files files) behind run lane place said lists (seen_of pins store history faults) come shows stood runs (listing_agrees run store.map files come.come.map_is are),
  );
  exact = λ corrected damaged e. absurd (more_done _ e);
  keeps = record {
    stopped = record { 0 = λ e. absurd (more_done _ e); 1 = λ e. absurd (fall store.stopped e runs) };
    still = λ halted. absurd (fall store.stopped halted runs);
    fault = faults_none progress.More store store faults faults refl (more_done _) (more_done _);
    rest = refl;
    mail = reading_mail _ history history (idle-begins history);
    grows = omega arith;
  };
  claims = λ r. record { moves = reading_claims store store refl; leaves = reading_leaves store store history history (record { same = refl; idle = idle-begins history }); ended = λ given e thing. refl };
  left = λ e. omega (arith, few);
}

-- ---- an event that is refused and changes nothing

known_unremembered : {D : Type 0} → (now : ResyncAt) (old new : StoreValue D) (before after : Option History) (began then : Faults) → old.stopped ≡ false → HasFilesLeft now → ReadsStoreOnly old new before after → then ≡ began → ResyncKnown now ToList (Refuses refusal.NoMemory) did.Quiet old new before after began then
known_unremembered now old new before after began then ran left only none = record {
  does = λ behind pins. (
    found_files [],
    nothing_found now,
    λ run lane place said lists come shows stood. (
      resync_unremembered (found_files []) behind run lane place said lists now (seen_of pins old before began) (seen_of pins new after then) come
          (reading_stays pins old new before after began then only (let e = ap (λ (f : Faults). f.reads) none in omega (arith, e)) (let e = ap (λ (f : Faults). f.changes) none in omega (arith, e))) none
          (reading_shows pins old new before after began then lists only.same shows) stood left ran runs (reading_leads pins old new before after began then lists only.idle),
      λ e. absurd (never_more _ e),
    ),
  );
  exact = λ corrected damaged e. absurd (refused_not _ corrected damaged e);
  keeps = record {
    stopped = record { 0 = λ e. absurd (memory_stopped e); 1 = λ e. absurd (fall new.stopped e runs) };
    still = λ halted. absurd (fall old.stopped halted ran);
    fault = faults_none (Refuses refusal.NoMemory) old new began then none memory_fault memory_stopped;
    rest = reading_rest old new only.same;
    mail = reading_mail _ before after only.idle;
    grows = idle_grows before after only.idle;
  };
  claims = λ r. record { moves = reading_claims old new only.same; leaves = reading_leaves old new before after only; ended = λ given e thing. refl };
  left = λ e. absurd (done_more _ e);
}
  where
    runs : new.stopped ≡ false
    runs = ap (λ (s : StoreValue _). s.stopped) only.same ∙ ran

    nothing_found : (now : ResyncAt) → FindsResync now (Some (reply.Refused refusal.NoMemory)) old before (found_files [])
    nothing_found ToList = tt
    nothing_found (ToRead files read damaged) = tt

-- ---- a file is read

known_read : {D : Type 0} → (files : List ℕ) (read damaged : ℕ) (uids : List ℕ) (old new : StoreValue D) (before after : Option History) (began then : Faults) → old.stopped ≡ false → ReadsNext files read uids old new before after began then
    → ResyncKnown (ToRead files read damaged) (ToRead files (read + 1) (damaged + length uids)) progress.More did.Quiet old new before after began then
known_read files read damaged uids old new before after began then ran r = record {
  does = λ behind pins. (
    found_damage uids,
    (r.file, r.next, r.found),
    λ run lane place said lists come shows stood.
        reads_then (found_damage uids) behind run lane place said lists (seen_of pins old before began) (seen_of pins new after then) files read damaged come
        (reading_stays pins old new before after began then r.only (let e = ap (λ (f : Faults). f.reads) r.unfailed in omega (arith, e)) (let e = ap (λ (f : Faults). f.changes) r.unfailed in omega (arith, e)))
        (reading_shows pins old new before after began then lists r.only.same shows) stood ran runs r.unfailed left
        (damage_agrees run old.map (own_events place run) before r.file uids come.come.map_is (reads_file files read damaged place r.file (own_events place run) stood.0 r.next) r.found)
        (reading_leads pins old new before after began then lists r.only.idle),
  );
  exact = λ corrected all e. absurd (more_done _ e);
  keeps = record {
    stopped = record { 0 = λ e. absurd (more_done _ e); 1 = λ e. absurd (fall new.stopped e runs) };
    still = λ halted. absurd (fall old.stopped halted ran);
    fault = faults_none progress.More old new began then r.unfailed (more_done _) (more_done _);
    rest = reading_rest old new r.only.same;
    mail = reading_mail _ before after r.only.idle;
    grows = idle_grows before after r.only.idle;
  };
  claims = λ k. record { moves = reading_claims old new r.only.same; leaves = reading_leaves old new before after r.only; ended = λ given e thing. refl };
  left = λ e. (let l = left in omega (arith, l));
}
  where
    runs : new.stopped ≡ false
    runs = ap (λ (s : StoreValue _). s.stopped) r.only.same ∙ ran

    left : read < length files
    left = within files read r.file r.next

known_faulted : {D : Type 0} → (files : List ℕ) (read damaged : ℕ) (old new : StoreValue D) (before after : Option History) (began then : Faults) → old.stopped ≡ false → read < length files → ReadsStoreOnly old new before after → ReadFaultCounted (Unit {0}) began then
    → ResyncKnown (ToRead files read damaged) ToList (Refuses refusal.ReadFault) did.Quiet old new before after began then
known_faulted files read damaged old new before after began then ran left only counted = record {
  does = λ behind pins. (
    found_files [],
    tt,
    λ run lane place said lists come shows stood. (
      resync_faulted (found_files []) behind run lane place said lists (seen_of pins old before began) (seen_of pins new after then) files read damaged come
          (reading_stays pins old new before after began then only counted.reads (let e = counted.changes in omega (arith, e)))
          (reading_shows pins old new before after began then lists only.same shows) stood ran runs left (reading_leads pins old new before after began then lists only.idle) (counted.rose tt),
      λ e. absurd (never_more _ e),
    ),
  );
  exact = λ corrected all e. absurd (refused_not _ corrected all e);
  keeps = record {
    stopped = record { 0 = λ e. absurd (fault_stopped e); 1 = λ e. absurd (fall new.stopped e runs) };
    still = λ halted. absurd (fall old.stopped halted ran);
    fault = record {
      reads = counted.reads;
      changes = (let e = counted.changes in omega (arith, e));
      read = λ e. counted.rose tt;
      change = λ k e. absurd (fault_stopped e);
      steady = λ k. counted.changes;
      unfailed = λ calm k. absurd (calm refl);
    };
    rest = reading_rest old new only.same;
    mail = reading_mail _ before after only.idle;
    grows = idle_grows before after only.idle;
  };
  claims = λ k. record { moves = reading_claims old new only.same; leaves = reading_leaves old new before after only; ended = λ given e thing. refl };
  left = λ e. absurd (done_more _ e);
}
  where
    runs : new.stopped ≡ false
    runs = ap (λ (s : StoreValue _). s.stopped) only.same ∙ ran

-- ---- the counts are put right

known_right : {D : Type 0} → (files : List ℕ) (damaged corrected : ℕ) (old new : StoreValue D) (before after : Option History) (began then : Faults) → IsStore before old → old.stopped ≡ false → PutsRight corrected old new before after began then
    → ResyncKnown (ToRead files (length files) damaged) ToList (progress.Done (reply.Resynced corrected damaged)) (did.Step half.Whole) old new before after began then
known_right files damaged corrected old new before after began then s ran p = record {
  does = λ behind pins. (
    found_files [],
    tt,
    λ run lane place said lists come shows stood. (
      subst (λ (n : ℕ). DidEvent (found_files []) behind run lane place said request.Resync lists (seen_of pins old before began) (seen_of pins new after then) (did.Step half.Whole) (Some (reply.Resynced n damaged))) (sym many) (
          corrects_then (found_files []) behind run lane place said lists (seen_of pins old before began) (seen_of pins new after then) files damaged (wrong_of old) come stood ran p.runs
          (wrong_of_store before old lists (seen_of pins old before began) s shows.1 refl (λ uid. refl)) (counts_fit (wrong_of old) old.map (entry_fits before old (wrong_of old) s refl)) p.map p.keeps.drawn p.due
          (right_tells pins corrected old new before after began then ran p) (right_shows pins old new before after began then lists p.keeps shows)
          (record { stops = λ k. p.keeps.moments lists k.0; settled = λ k. p.settled lists k.0 }) p.keeps.grows (p.keeps.stays old.map) p.unfailed
          ),
      λ e. absurd (never_more _ e),
    ),
  );
  exact = λ a b e. right_exact before corrected old new before after began then s p;
  keeps = record {
    stopped = record { 0 = λ e. absurd (resynced_not _ corrected damaged e); 1 = λ e. absurd (fall new.stopped e p.runs) };
    still = λ halted. absurd (fall old.stopped halted ran);
    fault = faults_none (progress.Done (reply.Resynced corrected damaged)) old new began then p.unfailed (resynced_not _ corrected damaged) (resynced_not _ corrected damaged);
    rest = p.keeps.rest;
    mail = record { stays = λ m. p.keeps.stays m; left = λ k. mail_same before after p.mail };
    grows = p.keeps.grows;
  };
  claims = λ r. record { moves = right_claims corrected old new before after began then p; leaves = right_leaves before corrected old new before after began then s p; ended = λ given e thing. refl };
  left = λ e. absurd (done_more _ e);
}
  where
    many : corrected ≡ many_corrected (wrong_of old) old.map
    many = p.many ∙ sym (entry_many before old (wrong_of old) s refl)

known_broken : {D : Type 0} → (files : List ℕ) (damaged : ℕ) (old new : StoreValue D) (before after : Option History) (began then : Faults) → IsStore before old → old.stopped ≡ false → FellCorrecting old new before after began then
    → ResyncKnown (ToRead files (length files) damaged) ToList (Refuses refusal.Stopped) (did.Broken half.Whole) old new before after began then
known_broken files damaged old new before after began then s ran f = record {
  does = λ behind pins. (
    found_files [],
    tt,
    λ run lane place said lists come shows stood. (
      resync_broken (found_files []) behind run lane place said lists (seen_of pins old before began) (seen_of pins new after then) files damaged (wrong_of old) come (fell_stays pins old new before after began then ran f)
          (right_shows pins old new before after began then lists f.keeps shows) stood ran f.stopped (wrong_of_store before old lists (seen_of pins old before began) s shows.1 refl (λ uid. refl)) (λ k. f.keeps.moments lists k.0) f.rose,
      λ e. absurd (never_more _ e),
    ),
  );
  exact = λ corrected all e. absurd (refused_not _ corrected all e);
  keeps = record {
    stopped = record { 0 = λ e. f.stopped; 1 = λ e. refl };
    still = λ halted. absurd (fall old.stopped halted ran);
    fault = record {
      reads = (let e = f.keeps.reads in omega (arith, e));
      changes = f.keeps.changes;
      read = λ e. absurd (stopped_fault e);
      change = λ k e. (f.rose, f.keeps.reads);
      steady = λ runs. absurd (fall new.stopped f.stopped runs);
      unfailed = λ a b. absurd (b refl);
    };
    rest = f.keeps.rest;
    mail = record { stays = λ m. f.keeps.stays m; left = λ same. absurd (fall new.stopped f.stopped (same ∙ ran)) };
    grows = f.keeps.grows;
  };
  claims = λ runs. absurd (fall new.stopped f.stopped runs);
  left = λ e. absurd (done_more _ e);
}

-- ---- any event

known_by : {D : Type 0} → (history : D → Option History) (faults : D → Faults) (now next : ResyncAt) (answer : Progress) (how : Did) (old new : StoreValue D) → IsStore (history old.disk) old → old.stopped ≡ false
    → ResyncsOn now next answer how old new (history old.disk) (history new.disk) (faults old.disk) (faults new.disk) → ResyncKnown now next answer how old new (history old.disk) (history new.disk) (faults old.disk) (faults new.disk)
known_by history faults ToList (ToRead files read damaged) progress.More how old new s ran on =
    subst (λ (h : Did). ResyncKnown ToList (ToRead files read damaged) progress.More h old new (history old.disk) (history new.disk) (faults old.disk) (faults new.disk)) (sym on.0)
    (subst (λ (n : ℕ). ResyncKnown ToList (ToRead files n damaged) progress.More did.Quiet old new (history old.disk) (history new.disk) (faults old.disk) (faults new.disk)) (sym on.3)
    (subst (λ (n : ℕ). ResyncKnown ToList (ToRead files 0 n) progress.More did.Quiet old new (history old.disk) (history new.disk) (faults old.disk) (faults new.disk)) (sym on.4)
    (subst (λ (v : StoreValue _). ResyncKnown ToList (ToRead files 0 0) progress.More did.Quiet old v (history old.disk) (history v.disk) (faults old.disk) (faults v.disk)) (sym on.5)
    (known_listed files old (history old.disk) (faults old.disk) ran on.1 on.2))))
known_by history faults ToList ToList (progress.Done (reply.Refused refusal.NoMemory)) how old new s ran on =
    subst (λ (h : Did). ResyncKnown ToList ToList (Refuses refusal.NoMemory) h old new (history old.disk) (history new.disk) (faults old.disk) (faults new.disk)) (sym on.0)
    (subst (λ (v : StoreValue _). ResyncKnown ToList ToList (Refuses refusal.NoMemory) did.Quiet old v (history old.disk) (history v.disk) (faults old.disk) (faults v.disk)) (sym on.1)
    (known_unremembered ToList old old (history old.disk) (history old.disk) (faults old.disk) (faults old.disk) ran tt (record { same = refl; idle = idle-begins (history old.disk) }) refl))
known_by history faults (ToRead files read damaged) (ToRead same more all) progress.More how old new s ran on =
    subst (λ (h : Did). ResyncKnown (ToRead files read damaged) (ToRead same more all) progress.More h old new (history old.disk) (history new.disk) (faults old.disk) (faults new.disk)) (sym on.0)
    (subst (λ (fs : List ℕ). ResyncKnown (ToRead files read damaged) (ToRead fs more all) progress.More did.Quiet old new (history old.disk) (history new.disk) (faults old.disk) (faults new.disk)) (sym on.1.1)
    (subst (λ (n : ℕ). ResyncKnown (ToRead files read damaged) (ToRead files n all) progress.More did.Quiet old new (history old.disk) (history new.disk) (faults old.disk) (faults new.disk)) (sym on.1.2)
    (subst (λ (n : ℕ). ResyncKnown (ToRead files read damaged) (ToRead files (read + 1) n) progress.More did.Quiet old new (history old.disk) (history new.disk) (faults old.disk) (faults new.disk)) (sym on.1.3)
    (known_read files read damaged on.1.0 old new (history old.disk) (history new.disk) (faults old.disk) (faults new.disk) ran on.1.4))))
known_by history faults (ToRead files read damaged) ToList (progress.Done (reply.Resynced corrected told)) how old new s ran on =
    subst (λ (h : Did). ResyncKnown (ToRead files read damaged) ToList (progress.Done (reply.Resynced corrected told)) h old new (history old.disk) (history new.disk) (faults old.disk) (faults new.disk)) (sym on.0)
    (subst (λ (n : ℕ). ResyncKnown (ToRead files n damaged) ToList (progress.Done (reply.Resynced corrected told)) (did.Step half.Whole) old new (history old.disk) (history new.disk) (faults old.disk) (faults new.disk)) (sym on.1)
    (subst (λ (n : ℕ). ResyncKnown (ToRead files (length files) damaged) ToList (progress.Done (reply.Resynced corrected n)) (did.Step half.Whole) old new (history old.disk) (history new.disk) (faults old.disk) (faults new.disk)) (sym on.2)
    (known_right files damaged corrected old new (history old.disk) (history new.disk) (faults old.disk) (faults new.disk) s ran on.3)))
known_by history faults (ToRead files read damaged) ToList (progress.Done (reply.Refused refusal.NoMemory)) how old new s ran on =
    subst (λ (h : Did). ResyncKnown (ToRead files read damaged) ToList (Refuses refusal.NoMemory) h old new (history old.disk) (history new.disk) (faults old.disk) (faults new.disk)) (sym on.0)
    (known_unremembered (ToRead files read damaged) old new (history old.disk) (history new.disk) (faults old.disk) (faults new.disk) ran on.1 on.2 on.3)
known_by history faults (ToRead files read damaged) ToList (progress.Done (reply.Refused refusal.ReadFault)) how old new s ran on =
    subst (λ (h : Did). ResyncKnown (ToRead files read damaged) ToList (Refuses refusal.ReadFault) h old new (history old.disk) (history new.disk) (faults old.disk) (faults new.disk)) (sym on.0)
    (known_faulted files read damaged old new (history old.disk) (history new.disk) (faults old.disk) (faults new.disk) ran on.1 on.2 on.3)
known_by history faults (ToRead files read damaged) ToList (progress.Done (reply.Refused refusal.Stopped)) how old new s ran on =
    subst (λ (h : Did). ResyncKnown (ToRead files read damaged) ToList (Refuses refusal.Stopped) h old new (history old.disk) (history new.disk) (faults old.disk) (faults new.disk)) (sym on.0)
    (subst (λ (n : ℕ). ResyncKnown (ToRead files n damaged) ToList (Refuses refusal.Stopped) (did.Broken half.Whole) old new (history old.disk) (history new.disk) (faults old.disk) (faults new.disk)) (sym on.1)
    (known_broken files damaged old new (history old.disk) (history new.disk) (faults old.disk) (faults new.disk) s ran on.2))
known_by history faults now next answer how old new s ran on = absurd on

-- Of a task whose stage is seen as this.
pub resync_known : {D : Type 0} → (history : D → Option History) (faults : D → Faults) (now seen next : ResyncAt) (answer : Progress) (how : Did) (old new : StoreValue D) → now ≡ seen → IsStore (history old.disk) old → old.stopped ≡ false
    → ResyncsOn now next answer how old new (history old.disk) (history new.disk) (faults old.disk) (faults new.disk) → ResyncKnown seen next answer how old new (history old.disk) (history new.disk) (faults old.disk) (faults new.disk)
resync_known history faults now seen next answer how old new same s ran on =
    subst (λ (at : ResyncAt). ResyncKnown at next answer how old new (history old.disk) (history new.disk) (faults old.disk) (faults new.disk)) same (known_by history faults now next answer how old new s ran on)

-- Of one whose store was stopped.
stopped_by : {D : Type 0} → (now : ResyncAt) (store : StoreValue D) (history : Option History) (faults : Faults) → HasFilesLeft now → store.stopped ≡ true → ResyncClause now now store store history history faults faults did.Quiet (Some (reply.Refused refusal.Stopped))
stopped_by now store history faults left stopped = λ behind pins. (
  found_files [],
  nothing_found now,
  λ run lane place said lists come shows stood. (
    resync_stopped (found_files []) behind run lane place said lists now (seen_of pins store history faults) come shows stood left stopped,
    λ e. absurd (never_more _ e),
  ),
)
  where
    nothing_found : (now : ResyncAt) → FindsResync now (Some (reply.Refused refusal.Stopped)) store history (found_files [])
    nothing_found ToList = tt
    nothing_found (ToRead files read damaged) = tt

pub stopped_known : {D : Type 0} → (now seen : ResyncAt) (store : StoreValue D) (history : Option History) (faults : Faults) → now ≡ seen → HasFilesLeft now → store.stopped ≡ true → ResyncClause seen now store store history history faults faults did.Quiet (Some (reply.Refused refusal.Stopped))
stopped_known now seen store history faults same left stopped = subst (λ (at : ResyncAt). ResyncClause at now store store history history faults faults did.Quiet (Some (reply.Refused refusal.Stopped))) same (stopped_by now store history faults left stopped)

pub stopped_keeps : {D : Type 0} → (now next : ResyncAt) (store : StoreValue D) (history : Option History) (faults : Faults) → next ≡ now → store.stopped ≡ true → ResyncKeeps now next (Refuses refusal.Stopped) store store history history faults faults
stopped_keeps now next store history faults same stopped = record {
  stopped = (λ e. stopped, λ e. refl);
  still = λ e. (refl, same);
  fault = record {
    reads = omega arith;
    changes = omega arith;
    read = λ e. absurd (stopped_fault e);
    change = λ ran e. absurd (fall store.stopped stopped ran);
    steady = λ runs. refl;
    unfailed = λ a b. refl;
  };
  rest = refl;
  mail = reading_mail _ history history (idle-begins history);
  grows = omega arith;
}
