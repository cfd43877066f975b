-- What a purge says that can't copy a message: one that can't be read, so that all that was taken is given back, or one of which a write
-- failed.
use Rattle.purge_task.proofs.Common.{◌≡◌, ◌≢◌, ◌≤◌, ◌<◌, ◌+◌, ℕ, Bool, true, false, List, [], ◌∷◌, get_or, Option, Some, None, All, refl, sym, ◌∙◌, ap, subst, arith, inl, inr, AllPairs, Err, Result, is_some, IfSome, option_and_then, option_map_or, All-cons, All-head, All-nil, All-tail, Between}
use Rattle.purge_task.proofs.Common.{Faults, Grows, History, SameButFor, FileNo, Refusal, MapRow, CopiesMessage, MailIsKept, Lists, IsSoundMap, IsSettledFor, Leaves, FilesValue, IsUsedFile, changed_in, end_in, ending_at, file_in, MailFile, file-other, StoreValue, Emptied, MovesClaims, Removing}
use Rattle.purge_task.proofs.Common.{Taken, Thing, amount_in, one_if, LeavesOthers, OthersTook, claims_of_sources, claims_of_target, purge_claims, sources_left, IsPurgeStep, answer_of, came_to, IsTargetAt, HasPurged, IsTargetToMake, IsToBegin, PurgeValue, CanRelease, all_released, PurgeStage}
use Rattle.purge_task.proofs.Common.{Source, Work, IsStore}
use Rattle.std.proofs.Common.{◌⊎◌}
use Rattle.disk_model.specs.declared.name.FileName.TheVariants as file
use Rattle.mdbox_base.specs.declared.progress.Did.TheVariants as did
use Rattle.mdbox_base.specs.declared.progress.Progress.TheVariants as progress
use Rattle.mdbox_base.specs.declared.replies.Refusal.TheVariants as refusal
use Rattle.mdbox_base.specs.declared.replies.Reply.TheVariants as reply
use Rattle.task_claims.specs.Claims.{no_claims}
use Rattle.purge_task.specs.Copied.{CopyFaultCounted, IsCopyRefusal}
use Rattle.purge_task.specs.declared.task.PurgeStage.TheVariants as stage
use Rattle.purge_task.proofs.CanReleaseLemmas.{AreClear, IsHeldIn, copying_held, grown_held, held_clear, held_release}
use Rattle.purge_task.proofs.CopyStepLemmas.{next_copy}
use Rattle.purge_task.proofs.CopyingLemmas.{HasMore, IsCopyingOne, each_still, grown_amount, grown_ends, grown_keeps, grown_of, later_targets, more_grows, target_untaken}
use Rattle.purge_task.proofs.FailLemmas.{LeavesFailed, LeavesUnread, fail_steps, unread_steps}
use Rattle.purge_task.proofs.GivenBackLemmas.{IsFreeFile, IsGivenBack, IsToGiveBack, emptied_back, ends_given, given_free, present_amount, taken_back, tells_given, with_released}
use Rattle.purge_task.proofs.RegionLemmas.{with_end}
use Rattle.purge_task.proofs.SameSeenLemmas.{tells_grown, with_state}
use Rattle.purge_task.proofs.TargetCallLemmas.{unmade_file, unmade_unplaced}
use Rattle.purge_task.proofs.TargetLeavingLemmas.{files_leave, same_others}
use Rattle.purge_task.proofs.SameRegionLemmas.{regions_but}
use Rattle.purge_task.proofs.EventLemmas.{same_refusal}

-- ---- what is given back

-- the files behind a target that has grown
abbrev pub grown_files : ℕ → ℕ → List MailFile → List MailFile
grown_files n end files = changed_in n (ending_at end) files

-- the present file, and those behind it
pub record AreToGiveBack (source : Source) (left : List Source) (files : List MailFile) : Type 0 where
  pub first : IsToGiveBack 1 files source
  pub each : All (IsToGiveBack 0 files) left
  pub clear : AllPairs AreClear (source ∷ left)

begun_back : {D : Type 0} → (work : Work) (store : StoreValue D) (s : Source) → All IsUsedFile store.files.files → IsToBegin work store s → IsToGiveBack 0 store.files.files s
begun_back work store s used h = record { apart = apart s.target h.target; source = emptied_back s.file.0 store.files.files used h.emptied; target = by_target s.target h.target }
  where
    apart : (o : Option FileNo) → IsTargetToMake s.file.0 o store → IfSome o (λ t. t.0 ≢ s.file.0)
    apart None h = tt
    apart (Some t) h = λ same. let l = h.2 in omega (arith, same, l)

    by_target : (o : Option FileNo) → IsTargetToMake s.file.0 o store → IfSome o (λ t. IsGivenBack 1 0 0 (file_in t.0 store.files.files))
    by_target None h = tt
    by_target (Some t) h = taken_back t.0 0 store.files.files used h.0.taken (ap (λ (o : Option ℕ). one_if (is_some o)) (unmade_unplaced t.0 store.files.files (unmade_file t.0 store.files.files used h.0.taken h.0.unmade)))

each_begun : {D : Type 0} → (work : Work) (store : StoreValue D) (left : List Source) → All IsUsedFile store.files.files → All (IsToBegin work store) left → All (IsToGiveBack 0 store.files.files) left
each_begun work store [] used h = All-nil _
each_begun work store (s ∷ left) used h = All-cons (IsToGiveBack 0 store.files.files) s left (begun_back work store s used (All-head (IsToBegin work store) s left h)) (each_begun work store left used (All-tail (IsToBegin work store) s left h))

held_all : {D : Type 0} → (work : Work) (source : Source) (left : List Source) (target : FileNo) (row : MapRow) (end : ℕ) (store : StoreValue D) (history : Option History) → IsCopyingOne work source left target row store history → HasPurged (stage.Copying work) store history → All (IsHeldIn (grown_files target.0 end store.files.files)) (source ∷ left)
held_all work source left target row end store history one h = grown_held target.0 end store.files.files (source ∷ left) (subst (λ (l : List Source). All (IsHeldIn store.files.files) l) one.left_are (copying_held work store history h))

pub giving_back : {D : Type 0} → (work : Work) (source : Source) (left : List Source) (target : FileNo) (row : MapRow) (end : ℕ) (disk : D) (store : StoreValue D) (history : Option History) → IsCopyingOne work source left target row store history → HasPurged (stage.Copying work) store history → All IsUsedFile (grown_files target.0 end store.files.files)
    → AreToGiveBack source left (grown_files target.0 end store.files.files)
giving_back work source left target row end disk store history one h used = record {
  first = record {
    apart = subst (λ (o : Option FileNo). IfSome o (λ t. t.0 ≢ source.file.0)) (sym one.target_is) (λ same. let b = one.copying.behind in omega (arith, same, b));
    source = emptied_back source.file.0 files used (grown_keeps (λ o. option_map_or (λ f. f.emptied) o false) target.0 end source.file.0 store.files.files (λ f. refl) ∙ one.emptied);
    target = subst (λ (o : Option FileNo). IfSome o (λ t. IsGivenBack 1 0 1 (file_in t.0 files))) (sym one.target_is)
        (taken_back target.0 1 files used (grown_keeps (λ o. option_map_or (λ f. f.taken) o false) target.0 end target.0 store.files.files (λ f. refl) ∙ one.copying.taken)
        (ap (λ (o : Option ℕ). one_if (is_some o)) (grown_keeps (λ o. option_and_then (λ f. f.begun) o) target.0 end target.0 store.files.files (λ f. refl) ∙ one.copying.begun)));
  };
  each = each_begun work (with_end target.0 end disk false store) left used (each_still work work target left end disk false store refl (later_targets source left target one.target_is one.apart) one.each);
  clear = λ i j d lt lj. held_clear (get_or (source ∷ left) i d) (get_or (source ∷ left) j d) files used (one.apart.files i j d lt lj) (one.apart.targets i j d lt lj) (held i d (omega (arith, lt, lj))) (held j d lj);
}
  where
    files : List MailFile
    files = grown_files target.0 end store.files.files

    held : All (IsHeldIn files) (source ∷ left)
    held = held_all work source left target row end store history one h

-- they can be given back
pub can_give : {D : Type 0} → (work : Work) (source : Source) (left sources : List Source) (target : FileNo) (row : MapRow) (end : ℕ) (old mid : StoreValue D) (history : Option History) → IsCopyingOne work source left target row old history → HasPurged (stage.Copying work) old history → sources ≡ source ∷ left → IsTargetAt target.0 end old mid
    → All IsUsedFile mid.files.files → CanRelease sources mid.files.files
can_give {D = D} work source left sources target row end old mid history one h are at used =
    subst (λ (l : List Source). CanRelease l mid.files.files) (sym are) (subst (λ (fs : List MailFile). CanRelease (source ∷ left) fs) (sym files)
    (held_release (source ∷ left) (grown_files target.0 end old.files.files) (subst (λ (fs : List MailFile). All IsUsedFile fs) files used) one.apart (held_all work source left target row end old history one h)))
  where
    files : mid.files.files ≡ grown_files target.0 end old.files.files
    files = ap (λ (v : StoreValue D). v.files.files) at.same

-- ---- a message that can't be read

unread_apart : reply.Refused refusal.ReadFault ≡ reply.Refused refusal.Stopped → ⊥
unread_apart e = let k : refusal.ReadFault ≡ refusal.Stopped = cc e in cc k

moves_back : {D : Type 0} → (work : Work) (source : Source) (left : List Source) (n end : ℕ) (disk : D) (store : StoreValue D) → sources_left work ≡ source ∷ left → AreToGiveBack source left (grown_files n end store.files.files)
    → MovesClaims (purge_claims (stage.Copying work)) no_claims store (with_released (source ∷ left) (with_end n end disk false store))
moves_back work source left n end disk store left_are g thing =
    let a = present_amount source left (with_end n end disk false store) g.first g.each g.clear thing in
    let b = grown_amount n end disk false store thing in
    let d : claims_of_sources (sources_left work) thing + claims_of_target (sources_left work) thing ≡ claims_of_sources (source ∷ left) thing + claims_of_target (source ∷ left) thing = ap (λ (l : List Source). claims_of_sources l thing + claims_of_target l thing) left_are in
    omega (arith, a, b, d)

unread_says : {D : Type 0} → (t next : PurgeValue) (work : Work) (source : Source) (left : List Source) (target : FileNo) (row : MapRow) (end : ℕ) (disk : D) (old : StoreValue D) (before later : Option History) (began faults : Faults) → t.stage ≡ stage.Copying work → next.stage ≡ stage.First → next.did ≡ did.Quiet → old.stopped ≡ false → IsSoundMap old.map → All IsUsedFile old.files.files
    → (one : IsCopyingOne work source left target row old before) → one.copying.end ≤ end → AreToGiveBack source left (grown_files target.0 end old.files.files) → SameButFor (file.Mail target.0) before later → Between (HasMore target.0) before later → LeavesUnread old.map before later began faults → faults.changes ≡ began.changes → IsStore before old
    → IsPurgeStep t next (progress.Done (reply.Refused refusal.ReadFault)) old (with_released (source ∷ left) (with_end target.0 end disk false old)) before later began faults
unread_says {D = D} t next work source left target row end disk old before later began faults at to how runs sound used one longer g others more leaves quiet store = record {
  ready = λ e. absurd (let k : progress.Done (reply.Refused refusal.ReadFault) ≡ progress.More = e in cc k);
  does = (
    [],
    λ around. unread_steps around t next disk given old before later began faults CopiesMessage refl how runs (next_copy t work source left row one.copying.end old before began at one.left_are sound one.copying.copied one.wanted runs)
        (tells_given old.files.files grown source left (tells_grown target.0 old.files.files grown (grown_of target.0 one.copying.end end old.files.files one.copying.ends longer)) g.first g.each g.clear) leaves,
  );
  first = λ begins. absurd (let e : stage.Copying work ≡ stage.First = sym at ∙ begins in cc e);
  refused = λ why e read stop. absurd (read (same_refusal refusal.ReadFault why e));
  stopped = record { 0 = λ e. absurd (unread_apart (let k : reply.Refused refusal.ReadFault ≡ reply.Refused refusal.Stopped = cc e in k)); 1 = λ e. absurd (let k : false ≡ true = e in cc k) };
  regions = λ r. regions_but target.0 old old.map before later store runs refl one.copying.unnamed others;
  claims = λ r. record {
    moves = subst (λ (s : PurgeStage). MovesClaims (purge_claims s) (purge_claims next.stage) old after) (sym at) (subst (λ (s : PurgeStage). MovesClaims (purge_claims (stage.Copying work)) (purge_claims s) old after) (sym to) moves);
    leaves = subst (λ (s : PurgeStage). LeavesOthers (purge_claims s) old after before later) (sym at) (subst (λ (b : Bool). LeavesOthers mine old (with_state disk given b old) before later) runs
        (files_leave mine target.0 disk given old before later one.copying.unnamed (target_untaken work source left target old one.left_are one.target_is used one.copying.taken)
        (λ may. more_grows target.0 one.copying.end end old (with_state disk given old.stopped old) before later one.copying.ends (ends_given target.0 (source ∷ left) grown ∙ grown_ends target.0 one.copying.end end old.files.files one.copying.ends) longer more)
        known (λ m apart. ends_given m (source ∷ left) grown ∙ ap (λ (o : Option MailFile). option_and_then (λ f. f.end) o) (file-other target.0 m (ending_at end) old.files.files (λ f. refl) apart)) (same_others target.0 before later others)));
    ended = λ answer e thing. ap (λ (s : PurgeStage). purge_claims s thing) to;
  };
  grows = leaves.grows;
  mail = leaves.mail;
  reads = leaves.reads;
  changes = leaves.changes;
  calm = λ told. absurd (told refl);
  unfailed = λ r. quiet;
  fell = λ was e. absurd (let k : false ≡ true = e in cc k);
}
  where
    grown : List MailFile
    grown = grown_files target.0 end old.files.files

    given : FilesValue
    given = record old.files { files = all_released (source ∷ left) grown }

    after : StoreValue D
    after = with_released (source ∷ left) (with_end target.0 end disk false old)

    mine : Thing → ℕ
    mine = purge_claims (stage.Copying work)

    moves : MovesClaims (purge_claims (stage.Copying work)) no_claims old after
    moves = moves_back work source left target.0 end disk old one.left_are g

    never : (m : ℕ) → IsFreeFile (file_in m given.files) → OthersTook (purge_claims (stage.Copying work)) old m → ⊥
    never m free (inl adding) =
        let e = moves (Taken m) in
        let z : amount_in (Taken m) after ≡ 0 = free.adding in
        let n : no_claims (Taken m) ≡ 0 = refl in
        let l : purge_claims (stage.Copying work) (Taken m) < amount_in (Taken m) old = adding in
        omega (arith, e, z, n, l)
    never m free (inr (inl emptying)) =
        let e = moves (Emptied m) in
        let z : amount_in (Emptied m) after ≡ 0 = free.emptying in
        let n : no_claims (Emptied m) ≡ 0 = refl in
        let l : purge_claims (stage.Copying work) (Emptied m) < amount_in (Emptied m) old = emptying in
        omega (arith, e, z, n, l)
    never m free (inr (inr removing)) =
        let e = moves (Removing m) in
        let z : amount_in (Removing m) after ≡ 0 = free.removing in
        let n : no_claims (Removing m) ≡ 0 = refl in
        let l : purge_claims (stage.Copying work) (Removing m) < amount_in (Removing m) old = removing in
        omega (arith, e, z, n, l)

    known : (m : ℕ) → m ≢ target.0 → OthersTook (purge_claims (stage.Copying work)) old m → file_in m given.files ≡ file_in m old.files.files
    known m apart took = elim (given_free m source left grown g.first g.each g.clear) [
      | inl same ↦ same ∙ file-other target.0 m (ending_at end) old.files.files (λ f. refl) apart
      | inr free ↦ absurd (never m free took)
    ]

-- ---- a write that failed

fallen_says : {D : Type 0} → (t next : PurgeValue) (n from end : ℕ) (disk : D) (old : StoreValue D) (before later : Option History) (began faults : Faults) → next.did ≡ did.Failed → old.stopped ≡ false → end_in n old.files.files ≡ Some from → from ≤ end → LeavesFailed old.map before later began faults → faults.reads ≡ began.reads → t.stage ≢ stage.First
    → IsPurgeStep t next (progress.Done (reply.Refused refusal.Stopped)) old (with_end n end disk true old) before later began faults
fallen_says t next n from end disk old before later began faults how runs ends longer leaves quiet begun = record {
  ready = λ e. absurd (let k : progress.Done (reply.Refused refusal.Stopped) ≡ progress.More = e in cc k);
  does = (
    [],
    λ around. fail_steps around t next disk (record old.files { files = grown_files n end old.files.files }) old before later began faults how runs (tells_grown n old.files.files (grown_files n end old.files.files) (grown_of n from end old.files.files ends longer)) leaves,
  );
  first = λ begins. absurd (begun begins);
  refused = λ why e read stop. absurd (stop (same_refusal refusal.Stopped why e));
  stopped = record { 0 = λ e. refl; 1 = λ e. refl };
  regions = λ r. absurd (let k : true ≡ false = r in cc k);
  claims = λ r. absurd (let k : true ≡ false = r in cc k);
  grows = leaves.grows;
  mail = leaves.mail;
  reads = leaves.reads;
  changes = leaves.changes;
  calm = λ told. quiet;
  unfailed = λ r. absurd (let k : true ≡ false = r in cc k);
  fell = λ was e. (leaves.rose, quiet);
}

-- ---- the calls

-- what a copy leaves that was refused
pub record LeavesUncopied {D : Type 0} (target : ℕ) (old mid : StoreValue D) (before later : Option History) : Type 0 where
  pub moments : (lists : Lists) → IsSettledFor lists before → Leaves lists lists before later
  pub mail : MailIsKept old.map before later
  pub rests : mid.stopped ≡ false → (lists : Lists) → IsSettledFor lists before → IsSettledFor lists later
  pub others : mid.stopped ≡ false → SameButFor (file.Mail target) before later
  pub more : mid.stopped ≡ false → Between (HasMore target) before later
  pub grows : Grows before later

errors_apart : {T : Type 0} → (a b : Refusal) → (a ≡ b → ⊥) → ◌≡◌ {A = Result T Refusal} (Err a) (Err b) → ⊥
errors_apart a b apart e = apart (let k : a ≡ b = cc e in k)

pub uncopied_says : {D T : Type 0} → (H : D → Option History) (F : D → Faults) (t : PurgeValue) (work : Work) (source : Source) (left sources : List Source) (target : FileNo) (row : MapRow) (why : Refusal) (old mid new : StoreValue D) → t.stage ≡ stage.Copying work → old.stopped ≡ false → IsSoundMap old.map → All IsUsedFile old.files.files → All IsUsedFile mid.files.files
    → HasPurged (stage.Copying work) old (H old.disk) → IsCopyingOne work source left target row old (H old.disk) → sources ≡ source ∷ left → IsCopyRefusal target.0 why old mid → LeavesUncopied target.0 old mid (H old.disk) (H mid.disk) → CopyFaultCounted {T = T} (Err why) (F old.disk) (F mid.disk)
    → (mid.stopped ≡ true → new ≡ mid) → (mid.stopped ≡ false → new ≡ record mid { files = record mid.files { files = all_released sources mid.files.files } }) → IsStore (H old.disk) old → IsPurgeStep t (came_to (Err why) t) (answer_of (Err why)) old new (H old.disk) (H new.disk) (F old.disk) (F new.disk)
uncopied_says {D = D} {T = T} H F t work source left sources target row why old mid new at runs sound used used_now h one are refused leaves counted still given store = by_cause refused.cause
  where
    end : ℕ
    end = refused.end

    before_same : refused.at.before ≡ one.copying.end
    before_same = let w : Some refused.at.before ≡ Some one.copying.end = sym refused.at.ended ∙ one.copying.ends in cc w

    longer : one.copying.end ≤ end
    longer = let l = refused.at.no_less in omega (arith, l, before_same)

    files : mid.files.files ≡ grown_files target.0 end old.files.files
    files = ap (λ (v : StoreValue D). v.files.files) refused.at.same

    mid_is : (b : Bool) → mid.stopped ≡ b → mid ≡ with_end target.0 end mid.disk b old
    mid_is b e = refused.at.same ∙ ap (λ (b : Bool). with_end target.0 end mid.disk b old) e

    by_cause : ((why ≡ refusal.ReadFault) × (mid.stopped ≡ old.stopped)) ⊎ ((why ≡ refusal.Stopped) × (mid.stopped ≡ true)) → IsPurgeStep t (came_to (Err why) t) (answer_of (Err why)) old new (H old.disk) (H new.disk) (F old.disk) (F new.disk)
    by_cause (inl read) =
        let on : mid.stopped ≡ false = read.1 ∙ runs in
        let c : CopyFaultCounted {T = T} (Err refusal.ReadFault) (F old.disk) (F mid.disk) = subst (λ (w : Refusal). CopyFaultCounted {T = T} (Err w) (F old.disk) (F mid.disk)) read.0 counted in
        let is : new ≡ with_released (source ∷ left) (with_end target.0 end mid.disk false old) = given on ∙ (ap (λ (l : List Source). with_released l mid) are ∙ ap (λ (v : StoreValue D). with_released (source ∷ left) v) (mid_is false on)) in
        subst (λ (w : Refusal). IsPurgeStep t (came_to (Err w) t) (answer_of (Err w)) old new (H old.disk) (H new.disk) (F old.disk) (F new.disk)) (sym read.0)
        (subst (λ (v : StoreValue D). IsPurgeStep t (came_to (Err refusal.ReadFault) t) (progress.Done (reply.Refused refusal.ReadFault)) old v (H old.disk) (H v.disk) (F old.disk) (F v.disk)) (sym is)
        (unread_says t (came_to (Err refusal.ReadFault) t) work source left target row end mid.disk old (H old.disk) (H mid.disk) (F old.disk) (F mid.disk) at refl refl runs sound used one longer
        (giving_back work source left target row end mid.disk old (H old.disk) one h (subst (λ (fs : List MailFile). All IsUsedFile fs) files used_now)) (leaves.others on) (leaves.more on)
        (record { moments = leaves.moments; rests = leaves.rests on; grows = leaves.grows; mail = leaves.mail; reads = c.reads; changes = c.changes; rose = c.read_rose refl })
        (c.unchanged (errors_apart refusal.ReadFault refusal.Stopped (λ e. let k : refusal.ReadFault ≡ refusal.Stopped = e in cc k))) store))
    by_cause (inr stop) =
        let c : CopyFaultCounted {T = T} (Err refusal.Stopped) (F old.disk) (F mid.disk) = subst (λ (w : Refusal). CopyFaultCounted {T = T} (Err w) (F old.disk) (F mid.disk)) stop.0 counted in
        let is : new ≡ with_end target.0 end mid.disk true old = still stop.1 ∙ mid_is true stop.1 in
        subst (λ (w : Refusal). IsPurgeStep t (came_to (Err w) t) (answer_of (Err w)) old new (H old.disk) (H new.disk) (F old.disk) (F new.disk)) (sym stop.0)
        (subst (λ (v : StoreValue D). IsPurgeStep t (came_to (Err refusal.Stopped) t) (progress.Done (reply.Refused refusal.Stopped)) old v (H old.disk) (H v.disk) (F old.disk) (F v.disk)) (sym is)
        (fallen_says t (came_to (Err refusal.Stopped) t) target.0 one.copying.end end mid.disk old (H old.disk) (H mid.disk) (F old.disk) (F mid.disk) refl runs one.copying.ends longer
        (record { moments = leaves.moments; grows = leaves.grows; mail = leaves.mail; reads = c.reads; changes = c.changes; rose = c.change_rose refl })
        (c.unread (errors_apart refusal.Stopped refusal.ReadFault (λ e. let k : refusal.Stopped ≡ refusal.ReadFault = e in cc k)))
        (λ begins. let e : stage.Copying work ≡ stage.First = sym at ∙ begins in cc e)))
