-- The clause of an event of a purge that copies a message.
use Rattle.purge_task.proofs.Common.{◌≡◌, ◌≤◌, ◌<◌, ◌==◌, ◌||◌, ℕ, Bool, true, false, List, [], ◌∷◌, ◌++◌, length, map, Option, Some, None, refl, sym, ◌∙◌, ap, subst, arith, All, Contains, filter, nat_lt, sum_by, if◌then◌else◌, list_any, eq-eqb, ne_eqb, common_steps, append-nil, All-cons}
use Rattle.purge_task.proofs.Common.{All-contains_itself, All-head, All-nil, All-tail, All-weaker, Faults, History, told_calls, MapPlace, Did, Reply, MapMeaning, MapRecord, record_at, IsSoundMap, pairs_head, at_uid, CopiesMessage, Run, RunEvent, Switches, TakenFile, and_then, dropped_in, event_of}
use Rattle.purge_task.proofs.Common.{how_many, is_one_of, own_events, Around, is_done, last_refusal, next_part, next_taken, own_more, MapRow, FilesValue, StoreValue, HasComeTo, sources_left, PurgeSteps, around_purging, seen_by_purge, IsNextWanted, IsSourceWith, AreSourcesApart, AreCopiedUpTo}
use Rattle.purge_task.proofs.Common.{PurgeValue, CopiesBehind, HaveCopied, HaveTaken, IsAtPurge, IsAtPurgeStage, IsPurging, told_taken, PurgeStage, Source, Work, DidBy, stands_by}
use Rattle.std.specs.Prelude.{◌≢◌}
use Rattle.mdbox_base.specs.declared.progress.Did.TheVariants as did
use Rattle.mdbox_base.specs.declared.requests.Request.TheVariants as request
use Rattle.journal.specs.Events.{IsCopiedNext, copies_left}
use Rattle.purge_task.specs.declared.task.PurgeStage.TheVariants as stage
use Rattle.purge_task.proofs.CopyLemmas.{is_left, next_contained, next_is_left}
use Rattle.purge_task.proofs.EventLemmas.{did_next}
use Rattle.purge_task.proofs.PartLemmas.{copies_some, last_with, next_copies, next_is}
use Rattle.purge_task.proofs.RemovalLemmas.{LeavesSettled}
use Rattle.purge_task.proofs.RunLemmas.{any_push, flat_push, gone_files, one_alone, or_none, sum_push, taken_still}
use Rattle.purge_task.proofs.SameSeenLemmas.{IsGrownOf, same_comes, tells_grown, with_state}

abbrev pub copy_event : ℕ → ℕ → ℕ → ℕ → RunEvent
copy_event lane place uid calls = record (event_of lane place CopiesMessage calls) { copied = uid ∷ [] }

-- ---- where it leads

taken_as : (source noted : Source) (place : MapPlace) → IsSourceWith place source noted → told_taken noted ≡ told_taken source
taken_as source noted place w = ap told_taken w.same

file_as : (source noted : Source) (place : MapPlace) → IsSourceWith place source noted → noted.file.0 ≡ source.file.0
file_as source noted place w = ap (λ (s : Source). s.file.0) w.same

-- the first of those that are left is told the same
pub taken_noted : (done left : List Source) (source noted : Source) (own : List RunEvent) → told_taken noted ≡ told_taken source → HaveTaken done (source ∷ left) own → HaveTaken done (noted ∷ left) own
taken_noted done left source noted own e h = record {
  taken = h.taken ∙ same done;
  done_are = h.done_are;
  left_are = All-cons (λ (s : Source). is_done own (told_taken s) ≡ false) noted left (ap (λ (taken : TakenFile). is_done own taken) e ∙ All-head (λ (s : Source). is_done own (told_taken s) ≡ false) source left h.left_are) (All-tail (λ (s : Source). is_done own (told_taken s) ≡ false) source left h.left_are);
}
  where
    same : (front : List Source) → map told_taken (front ++ source ∷ left) ≡ map told_taken (front ++ noted ∷ left)
    same [] = ap (λ (taken : TakenFile). taken ∷ map told_taken left) (sym e)
    same (s ∷ front) = ap (λ (ts : List TakenFile). told_taken s ∷ ts) (same front)

abbrev copies : ℕ → RunEvent → Bool
copies uid e = is_one_of e.copied uid

noted_copied : (m : MapMeaning) (own : List RunEvent) (lane place_ calls : ℕ) (source noted : Source) (place : MapPlace) → IsSourceWith place source noted → HaveCopied m own source → HaveCopied m (own ++ copy_event lane place_ place.uid.0 calls ∷ []) noted
noted_copied m own lane place_ calls source noted place w h =
    All-weaker (λ (row : MapRecord). row.file ≡ source.file.0 → list_any (copies row.uid) own ≡ list_any (λ p. p.uid.0 == row.uid) source.copied.items) (λ (row : MapRecord). row.file ≡ noted.file.0 → list_any (copies row.uid) (own ++ event ∷ []) ≡ list_any (λ p. p.uid.0 == row.uid) noted.copied.items)
    (λ row e here. any_push (copies row.uid) own event
    ∙ (ap (λ (b : Bool). b || is_one_of (place.uid.0 ∷ []) row.uid) (e (here ∙ file_as source noted place w))
    ∙ (ap (λ (b : Bool). list_any (λ (p : MapPlace). p.uid.0 == row.uid) source.copied.items || b) (or_none (place.uid.0 == row.uid))
    ∙ sym (ap (λ (ps : List MapPlace). list_any (λ (p : MapPlace). p.uid.0 == row.uid) ps) w.listed ∙ any_push (λ (p : MapPlace). p.uid.0 == row.uid) source.copied.items place))))
    m.records h
  where
    event : RunEvent
    event = copy_event lane place_ place.uid.0 calls

others_copied : (m : MapMeaning) (own : List RunEvent) (lane place_ calls : ℕ) (source : Source) (r : MapRecord) (s : Source) → IsSoundMap m → Contains m.records r → r.file ≡ source.file.0 → source.file.0 < s.file.0 → HaveCopied m own s → HaveCopied m (own ++ copy_event lane place_ r.uid calls ∷ []) s
others_copied m own lane place_ calls source r s sound there in_file before h =
    All-weaker (λ (row : MapRecord). Contains m.records row × (row.file ≡ s.file.0 → list_any (copies row.uid) own ≡ list_any (λ p. p.uid.0 == row.uid) s.copied.items)) (λ (row : MapRecord). row.file ≡ s.file.0 → list_any (copies row.uid) (own ++ event ∷ []) ≡ list_any (λ p. p.uid.0 == row.uid) s.copied.items)
    (λ row k here. any_push (copies row.uid) own event ∙ (ap (λ (b : Bool). list_any (copies row.uid) own || b) (one_alone r.uid row.uid ∙ ne_eqb r.uid row.uid (apart row k.0 here)) ∙ (or_none (list_any (copies row.uid) own) ∙ k.1 here)))
    m.records (both m.records (All-contains_itself m.records) h)
  where
    event : RunEvent
    event = copy_event lane place_ r.uid calls

    apart : (row : MapRecord) → Contains m.records row → row.file ≡ s.file.0 → r.uid ≢ row.uid
    apart row at here same =
        let e : Some r ≡ Some row = sym (at_uid m r sound there) ∙ (ap (record_at m) same ∙ at_uid m row sound at) in
        let is : r ≡ row = cc e in
        let f : r.file ≡ row.file = ap (λ (x : MapRecord). x.file) is in
        omega (arith, f, here, in_file, before)

    both : (rows : List MapRecord) → All (Contains m.records) rows → All (λ row. row.file ≡ s.file.0 → list_any (copies row.uid) own ≡ list_any (λ p. p.uid.0 == row.uid) s.copied.items) rows
        → All (λ row. Contains m.records row × (row.file ≡ s.file.0 → list_any (copies row.uid) own ≡ list_any (λ p. p.uid.0 == row.uid) s.copied.items)) rows
    both [] a b = All-nil _
    both (row ∷ rows) a b = All-cons (λ x. Contains m.records x × (x.file ≡ s.file.0 → list_any (copies x.uid) own ≡ list_any (λ p. p.uid.0 == x.uid) s.copied.items)) row rows
        (All-head (Contains m.records) row rows a, All-head (λ x. x.file ≡ s.file.0 → list_any (copies x.uid) own ≡ list_any (λ p. p.uid.0 == x.uid) s.copied.items) row rows b)
        (both rows (All-tail (Contains m.records) row rows a) (All-tail (λ x. x.file ≡ s.file.0 → list_any (copies x.uid) own ≡ list_any (λ p. p.uid.0 == x.uid) s.copied.items) row rows b))

copied_way : {D : Type 0} → (t next : PurgeValue) (done left : List Source) (source noted : Source) (place : MapPlace) (r : MapRecord) (lane calls : ℕ) (old new : StoreValue D) (run : Run) (at : ℕ) (said : List Reply) → new.map ≡ old.map → old.stopped ≡ false → IsSoundMap old.map → Contains old.map.records r
    → r.file ≡ source.file.0 → place.uid.0 ≡ r.uid → IsSourceWith place source noted → AreSourcesApart (source ∷ left) → next.dropped ≡ t.dropped → next.files ≡ t.files → next.instances ≡ t.instances → IsPurging t done (source ∷ left) (λ doomed part. CopiesBehind part) old run at said
    → IsPurging next done (noted ∷ left) (λ doomed part. CopiesBehind part) new (and_then run (copy_event lane at r.uid calls)) at said
copied_way t next done left source noted place r lane calls old new run at said map_is ran sound there in_file uid w apart dropped files instances h = record {
  unsaid = h.unsaid;
  last = record { front = own; last = event; own_are = is; unrefused = refl; behind = tt };
  unrefused = ap (λ (es : List RunEvent). last_refusal es) is ∙ (last_with own event ∙ h.unrefused);
  taken = subst (λ (es : List RunEvent). HaveTaken done (noted ∷ left) es) (sym is) (taken_still done (noted ∷ left) own event refl refl refl (taken_noted done left source noted own (taken_as source noted place w) h.taken));
  copied = λ runs. subst (λ (m : MapMeaning). All (HaveCopied m (own_events at (and_then run event))) (noted ∷ left)) (sym map_is) (subst (λ (es : List RunEvent). All (HaveCopied old.map es) (noted ∷ left)) (sym is)
      (All-cons (HaveCopied old.map (own ++ event ∷ [])) noted left
      (subst (λ (n : ℕ). HaveCopied old.map (own ++ copy_event lane at n calls ∷ []) noted) uid (noted_copied old.map own lane at calls source noted place w (All-head (HaveCopied old.map own) source left (h.copied ran))))
      (rest left (pairs_head (λ (a b : Source). a.file.0 < b.file.0) source left apart.files) (All-tail (HaveCopied old.map own) source left (h.copied ran)))));
  counted = record {
    dropped =
        let a = sum_push (λ (e : RunEvent). sum_by dropped_in e.map_entries) own event in
        let b : sum_by dropped_in event.map_entries ≡ 0 = refl in
        let c = h.counted.dropped in
        (let e : next.dropped ≡ sum_by (λ (e : RunEvent). sum_by dropped_in e.map_entries) (own ++ event ∷ []) = omega (arith, a, b, c, dropped) in e) ∙ ap (λ (es : List RunEvent). sum_by (λ (e : RunEvent). sum_by dropped_in e.map_entries) es) (sym is);
    files = (files ∙ (h.counted.files ∙ ap (λ (fs : List ℕ). how_many fs) (sym (flat_push (λ (e : RunEvent). e.doomed ++ e.removed) own event ∙ append-nil (gone_files own))))) ∙ ap (λ (es : List RunEvent). how_many (gone_files es)) (sym is);
    instances =
        let a = sum_push (λ (e : RunEvent). length e.gone) own event in
        let b : length event.gone ≡ 0 = refl in
        let c = h.counted.instances in
        (let e : next.instances ≡ sum_by (λ (e : RunEvent). length e.gone) (own ++ event ∷ []) = omega (arith, a, b, c, instances) in e) ∙ ap (λ (es : List RunEvent). sum_by (λ (e : RunEvent). length e.gone) es) (sym is);
  };
}
  where
    event : RunEvent
    event = copy_event lane at r.uid calls

    own : List RunEvent
    own = own_events at run

    is : own_events at (and_then run event) ≡ own ++ event ∷ []
    is = own_more at run event (eq-eqb at at refl)

    rest : (others : List Source) → All (λ b. source.file.0 < b.file.0) others → All (HaveCopied old.map own) others → All (HaveCopied old.map (own ++ event ∷ [])) others
    rest [] a b = All-nil _
    rest (s ∷ others) a b = All-cons (HaveCopied old.map (own ++ event ∷ [])) s others (others_copied old.map own lane at calls source r s sound there in_file (All-head (λ (x : Source). source.file.0 < x.file.0) s others a) (All-head (HaveCopied old.map own) s others b))
        (rest others (All-tail (λ (x : Source). source.file.0 < x.file.0) s others a) (All-tail (HaveCopied old.map own) s others b))

-- ---- its clause

never_some : {X : Type 0} → (x : X) → Some x ≡ None → ⊥
never_some x e = cc e

some_number : (n : ℕ) → 1 ≤ n → nat_lt 0 n ≡ true
some_number n l = grind (arith, common_steps, l)

has_some : (xs : List MapRecord) (x : MapRecord) → Contains xs x → 1 ≤ length xs
has_some xs x c = let l = c.1 in omega (arith, l)

-- it is the message that is next by its own events, too
pub next_copy : {D : Type 0} → (t : PurgeValue) (work : Work) (source : Source) (left : List Source) (row : MapRow) (end : ℕ) (old : StoreValue D) (before : Option History) (began : Faults) → t.stage ≡ stage.Copying work → sources_left work ≡ source ∷ left → IsSoundMap old.map → AreCopiedUpTo source.file.0 work.from end source.copied.items old.map
    → IsNextWanted old.map source.file.0 work.from row → old.stopped ≡ false → (run : Run) (number : ℕ) (said : List Reply) → HasComeTo run (seen_by_purge old before began) → IsAtPurge t old run number said → next_part (around_purging [] old) run request.Purge (own_events number run) ≡ Some CopiesMessage
next_copy t work source left row end old before began at is sound copied wanted ran = λ run number said come stood.
    let around : Around = around_purging [] old in
    let stands = subst (λ (x : PurgeStage). IsAtPurgeStage x t old run number said) at stood in
    let h = subst (λ (l : List Source). IsPurging t stands.0 l (λ doomed part. CopiesBehind part) old run number said) is stands.1 in
    let own : List RunEvent = own_events number run in
    let taken : next_taken own ≡ Some (told_taken source) = next_is stands.0 source left own h.taken in
    let least : IsCopiedNext (filter (is_left old.map own source.file.0) old.map.records) wanted.r = next_is_left old.map own source work.from end row sound (All-head (HaveCopied old.map own) source left (h.copied ran)) copied wanted in
    let left_are : copies_left own run (next_taken own) ≡ filter (is_left old.map own source.file.0) old.map.records = ap (λ (o : Option TakenFile). copies_left own run o) taken ∙ ap (λ (m : MapMeaning). filter (is_left m own source.file.0) m.records) come.come.map_is in
    next_copies around run number h.last
    ∙ ap (λ (b : Bool). if b then Some CopiesMessage else Some Switches) (ap (λ (rs : List MapRecord). nat_lt 0 (length rs)) left_are ∙ some_number (length (filter (is_left old.map own source.file.0) old.map.records)) (has_some (filter (is_left old.map own source.file.0) old.map.records) wanted.r least.0))

pub copy_steps : {D : Type 0} → (after : Around) (t next : PurgeValue) (work now : Work) (source noted : Source) (left : List Source) (row : MapRow) (place : MapPlace) (end target : ℕ) (disk : D) (files : FilesValue) (old : StoreValue D) (before later : Option History) (began faults : Faults) → t.stage ≡ stage.Copying work
    → sources_left work ≡ source ∷ left → next.stage ≡ stage.Copying now → sources_left now ≡ noted ∷ left → IsSourceWith place source noted → AreSourcesApart (source ∷ left) → IsSoundMap old.map → AreCopiedUpTo source.file.0 work.from end source.copied.items old.map → (wanted : IsNextWanted old.map source.file.0 work.from row) → place.uid.0 ≡ wanted.r.uid
    → next.did ≡ did.Quiet → next.dropped ≡ t.dropped → next.files ≡ t.files → next.instances ≡ t.instances → old.stopped ≡ false → IsGrownOf target old.files.files files.files → LeavesSettled old.map before later began faults → PurgeSteps [] after t next old (with_state disk files false old) before later began faults None
copy_steps after t next work now source noted left row place end target disk files old before later began faults at is to now_is w apart sound copied wanted uid how dropped counted instances ran grown leaves = λ run lane number said lists come shows stood.
    let around : Around = around_purging [] old in
    let stands = subst (λ (x : PurgeStage). IsAtPurgeStage x t old run number said) at stood.0 in
    let h = subst (λ (l : List Source). IsPurging t stands.0 l (λ doomed part. CopiesBehind part) old run number said) is stands.1 in
    let own : List RunEvent = own_events number run in
    let r : MapRecord = wanted.r in
    let event : RunEvent = copy_event lane number r.uid (told_calls later) in
    let new : StoreValue _ = with_state disk files false old in
    let taken : next_taken own ≡ Some (told_taken source) = next_is stands.0 source left own h.taken in
    let least : IsCopiedNext (filter (is_left old.map own source.file.0) old.map.records) r = next_is_left old.map own source work.from end row sound (All-head (HaveCopied old.map own) source left (h.copied ran)) copied wanted in
    let left_are : copies_left own run (next_taken own) ≡ filter (is_left old.map own source.file.0) old.map.records = ap (λ (o : Option TakenFile). copies_left own run o) taken ∙ ap (λ (m : MapMeaning). filter (is_left m own source.file.0) m.records) come.come.map_is in
    let next_one : next_part around run request.Purge own ≡ Some CopiesMessage = next_copy t work source left row end old before began at is sound copied wanted ran run number said come stood.0 in
    let so = did_next around after run lane number said lists (seen_by_purge old before began) (seen_by_purge new later faults) (copy_event 0 0 r.uid 0)
    (record {
      next = next_one;
      finds = tt;
      allowed = refl;
      did = (r, subst (λ (rs : List MapRecord). IsCopiedNext rs r) (sym left_are) least, refl);
      fits = All-nil _;
      no_step = refl;
      goes_on = λ e. let k = copies_some (and_then run event) (own_events number (and_then run event)) in never_some k.0 (sym k.1 ∙ e);
      found = λ looked. tt;
      no_guid = refl;
    })
    (same_comes run event disk files false old before later began faults come ran (tells_grown target old.files.files files.files grown) (record { made = refl; pins = refl; unpins = refl; doomed = refl; removed = refl; given = refl; placed = refl; gone = refl }) refl refl refl (λ u. refl) leaves.grows)
    shows ran refl (record { stops = λ s. leaves.moments lists s.0; settled = λ s. leaves.rests lists s.0 }) leaves.grows leaves.mail leaves.quiet in
    stands_by around after run lane number said request.Purge lists (seen_by_purge old before began) (seen_by_purge new later faults) next.did None event None (IsAtPurge next new)
    (subst (λ (d : Did). DidBy around after run lane number said request.Purge lists (seen_by_purge old before began) (seen_by_purge new later faults) d None event None) (sym how) so)
    (λ none. subst (λ (x : PurgeStage). IsAtPurgeStage x next new (and_then run event) number said) (sym to) (
      stands.0,
      subst (λ (l : List Source). IsPurging next stands.0 l (λ doomed part. CopiesBehind part) new (and_then run event) number said) (sym now_is)
          (copied_way t next stands.0 left source noted place r lane (told_calls later) old new run number said refl ran sound (next_contained old.map source.file.0 work.from row wanted) wanted.in_file uid w apart dropped counted instances h),
    ))
