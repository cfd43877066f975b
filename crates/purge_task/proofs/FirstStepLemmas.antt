-- The clause of the first event of a purge.
use Rattle.purge_task.proofs.Common.{◌≡◌, ◌≤◌, ◌<◌, ◌+◌, ◌==◌, ◌||◌, ℕ, false, List, [], ◌∷◌, ◌++◌, length, map, Option, Some, None, refl, sym, ◌∙◌, ap, subst, arith, All, inl, inr, AllPairs, flat_map, sum_by, list_any, eq-eqb, append-nil, All-cons, All-head, All-nil, All-push, All-tail, All-weaker}
use Rattle.purge_task.proofs.Common.{Faults, History, told_calls, LogState, Highest, MapEntry, MapPlace, Did, Reply, MapMeaning, MapRecord, no_numbers, IsSoundMap, Run, RunEvent, TakenFile, and_then, drawn_of, dropped_in, how_many, is_one_of, map_of, own_events, target_length, with_targets}
use Rattle.purge_task.proofs.Common.{first_refusal, purge_checks, Around, is_done, last_refusal, next_taken, targets_of, HasCome, own_more, FilesValue, AreFilesKept, StoreValue, HasNotBegun, next_first, sources_left, PurgeSteps, around_purging, seen_by_purge, AreAllBut, IsFullToEnd, PurgeValue}
use Rattle.purge_task.proofs.Common.{GoesOnBehind, HaveCopied, HaveTaken, IsAtPurge, IsAtPurgeStage, IsNextStage, IsPurging, told_taken, PurgeStage, Source, Work, DidBy, stands_by}
use Rattle.mdbox_base.specs.declared.progress.Did.TheVariants as did
use Rattle.mdbox_base.specs.declared.requests.Request.TheVariants as request
use Rattle.model_meaning.specs.MapMeaning.{map_meaning}
use Rattle.list_machine.specs.Run.{drawn_also, entries_of}
use Rattle.journal.proofs.RunLemmas.{drawn_more, entries_more}
use Rattle.purge_task.specs.declared.task.PurgeStage.TheVariants as stage
use Rattle.purge_task.proofs.EventLemmas.{did_next}
use Rattle.purge_task.proofs.FindsLemmas.{finds_files}
use Rattle.purge_task.proofs.FirstLemmas.{IsBegunOf, first_allowed, first_comes, first_event, with_begun}
use Rattle.purge_task.proofs.PartLemmas.{goes_on_some}
use Rattle.purge_task.proofs.RemovalLemmas.{LeavesSettled}

abbrev pub taken_all : List Source → List TakenFile
taken_all sources = map told_taken sources

-- ---- where it leads

none_done : (sources : List Source) (event : RunEvent) → event.doomed ≡ [] → event.removed ≡ [] → All (λ s. is_done (event ∷ []) (told_taken s) ≡ false) sources
none_done [] event doomed removed = All-nil _
none_done (s ∷ sources) event doomed removed =
    All-cons (λ (x : Source). is_done (event ∷ []) (told_taken x) ≡ false) s sources
    (ap (λ (fs : List ℕ). (is_one_of fs s.file.0 || is_one_of event.removed s.file.0) || false) doomed ∙ ap (λ (fs : List ℕ). (false || is_one_of fs s.file.0) || false) removed)
    (none_done sources event doomed removed)

none_copied : (m : MapMeaning) (sources : List Source) (event : RunEvent) → event.copied ≡ [] → All (λ s. s.copied.items ≡ []) sources → All (HaveCopied m (event ∷ [])) sources
none_copied m [] event none h = All-nil _
none_copied m (s ∷ sources) event none h =
    All-cons (HaveCopied m (event ∷ [])) s sources (each m.records) (none_copied m sources event none (All-tail (λ (x : Source). x.copied.items ≡ []) s sources h))
  where
    each : (rows : List MapRecord) → All (λ row. row.file ≡ s.file.0 → list_any (λ (e : RunEvent). is_one_of e.copied row.uid) (event ∷ []) ≡ list_any (λ (p : MapPlace). p.uid.0 == row.uid) s.copied.items) rows
    each [] = All-nil _
    each (row ∷ rows) = All-cons (λ (row : MapRecord). row.file ≡ s.file.0 → list_any (λ (e : RunEvent). is_one_of e.copied row.uid) (event ∷ []) ≡ list_any (λ (p : MapPlace). p.uid.0 == row.uid) s.copied.items) row rows
        (λ here. ap (λ (us : List ℕ). is_one_of us row.uid || false) none ∙ sym (ap (λ (ps : List MapPlace). list_any (λ (p : MapPlace). p.uid.0 == row.uid) ps) (All-head (λ (x : Source). x.copied.items ≡ []) s sources h))) (each rows)

begun_way : {D : Type 0} → (next : PurgeValue) (sources : List Source) (lane drew calls : ℕ) (new : StoreValue D) (run : Run) (place : ℕ) (said : List Reply) → next.dropped ≡ 0 → next.files ≡ 0 → next.instances ≡ 0 → All (λ s. s.copied.items ≡ []) sources → HasNotBegun run place said
    → IsPurging next [] sources (GoesOnBehind (and_then run (first_event lane place (taken_all sources) drew calls))) new (and_then run (first_event lane place (taken_all sources) drew calls)) place said
begun_way next sources lane drew calls new run place said dropped files instances uncopied stood = record {
  unsaid = stood.1;
  last = record { front = []; last = event; own_are = is; unrefused = refl; behind = refl };
  unrefused = ap (λ (es : List RunEvent). last_refusal es) is;
  taken = subst (λ (es : List RunEvent). HaveTaken [] sources es) (sym is) (record { taken = append-nil (taken_all sources); done_are = All-nil _; left_are = none_done sources event refl refl });
  copied = λ runs. subst (λ (es : List RunEvent). All (HaveCopied new.map es) sources) (sym is) (none_copied new.map sources event refl uncopied);
  counted = record {
    dropped = dropped ∙ ap (λ (es : List RunEvent). sum_by (λ (e : RunEvent). sum_by dropped_in e.map_entries) es) (sym is);
    files = files ∙ ap (λ (es : List RunEvent). how_many (flat_map (λ (e : RunEvent). e.doomed ++ e.removed) es)) (sym is);
    instances = instances ∙ ap (λ (es : List RunEvent). sum_by (λ (e : RunEvent). length e.gone) es) (sym is);
  };
}
  where
    event : RunEvent
    event = first_event lane place (taken_all sources) drew calls

    is : own_events place (and_then run event) ≡ event ∷ []
    is = own_more place run event (eq-eqb place place refl) ∙ ap (λ (es : List RunEvent). es ++ event ∷ []) stood.0

-- ---- numbers

abbrev numbers : ℕ → ℕ → ℕ → ℕ → Highest
numbers file map instance mailbox = record { file = file; map = map; instance = instance; mailbox = mailbox }

files_drawn : (d : Highest) (n : ℕ) → drawn_also d (record no_numbers { file = n }) ≡ record d { file = d.file + n }
files_drawn d n =
    ap (λ (k : ℕ). numbers (d.file + n) k (d.instance + 0) (d.mailbox + 0)) (omega arith)
    ∙ (ap (λ (k : ℕ). numbers (d.file + n) d.map k (d.mailbox + 0)) (omega arith) ∙ ap (λ (k : ℕ). numbers (d.file + n) d.map d.instance k) (omega arith))

comes_drawing : (run : Run) (event : RunEvent) (m : MapMeaning) (drawn : Highest) (calls n : ℕ) → HasCome run m drawn calls → calls ≤ event.moment → event.map_entries ≡ [] → event.drew ≡ record no_numbers { file = n } → HasCome (and_then run event) m (record drawn { file = drawn.file + n }) event.moment
comes_drawing run event m drawn calls n c le none drew = record {
  map_is = ap (λ (es : List MapEntry). map_meaning run.store es) ((entries_more run event ∙ ap (λ (es : List MapEntry). entries_of run ++ es) none) ∙ append-nil (entries_of run)) ∙ c.map_is;
  drawn_is = (drawn_more run event ∙ ap (λ (d : Highest). drawn_also (drawn_of run) d) drew) ∙ (ap (λ (d : Highest). drawn_also d (record no_numbers { file = n })) c.drawn_is ∙ files_drawn drawn n);
  moments = All-push (λ (e : RunEvent). e.moment ≤ event.moment) run.events event (All-weaker (λ (e : RunEvent). e.moment ≤ calls) (λ (e : RunEvent). e.moment ≤ event.moment) (λ e h. omega (arith, h, le)) run.events c.moments) (omega arith);
}

at_first : {D : Type 0} → (next : PurgeValue) (work : Work) (new : StoreValue D) (run : Run) (place : ℕ) (said : List Reply) → IsNextStage work next.stage → IsPurging next [] (sources_left work) (GoesOnBehind run) new run place said → IsAtPurge next new run place said
at_first next work new run place said (inl none) h = subst (λ (x : PurgeStage). IsAtPurgeStage x next new run place said) (sym none.1) ([], subst (λ (l : List Source). IsPurging next [] l (GoesOnBehind run) new run place said) none.0 h)
at_first next work new run place said (inr some) h = subst (λ (x : PurgeStage). IsAtPurgeStage x next new run place said) (sym some.1) ([], h)

-- ---- its clause

never_some : {X : Type 0} → (x : X) → Some x ≡ None → ⊥
never_some x e = cc e

-- What the first event has found and taken: these sources, with their targets.
pub record HasBegun {D : Type 0} (sources : List Source) (drew : ℕ) (old : StoreValue D) (files : FilesValue) : Type 0 where
  pub rising : AllPairs (λ a b. a < b) (map (λ t. t.file) (taken_all sources))
  pub found : AreAllBut (IsFullToEnd old) old.files.files (map (λ t. t.file) (taken_all sources))
  pub targets : map (λ t. t.target) (taken_all sources) ≡ targets_of old.map old.drawn.file (taken_all sources)
  pub drew_are : drew ≡ length (with_targets old.map (taken_all sources))
  pub few : old.drawn.file + drew ≤ 4294967294
  pub short : All (λ t. target_length old.map t.file ≤ 4294967294) (with_targets old.map (taken_all sources))
  pub uncopied : All (λ s. s.copied.items ≡ []) sources
  pub begun : IsBegunOf old.drawn.file old.files.files files.files

pub first_steps : {D : Type 0} → (after : Around) (t next : PurgeValue) (work : Work) (drew : ℕ) (disk : D) (log : LogState) (files : FilesValue) (old : StoreValue D) (before later : Option History) (began faults : Faults) → t.stage ≡ stage.First → IsNextStage work next.stage → next.did ≡ did.Quiet → next.dropped ≡ 0 → next.files ≡ 0 → next.instances ≡ 0
    → old.stopped ≡ false → AreFilesKept old.files old.drawn old.map → IsSoundMap old.map → HasBegun (sources_left work) drew old files → LeavesSettled old.map before later began faults
    → PurgeSteps (map (λ t. t.file) (taken_all (sources_left work))) after t next old (with_begun disk log files drew old) before later began faults None
first_steps after t next work drew disk log files old before later began faults at to how dropped counted instances ran kept sound b leaves = λ run lane place said lists come shows stood.
    let sources : List Source = sources_left work in
    let around : Around = around_purging (map (λ (t : TakenFile). t.file) (taken_all sources)) old in
    let begins : HasNotBegun run place said = subst (λ (x : PurgeStage). IsAtPurgeStage x t old run place said) at stood.0 in
    let event : RunEvent = first_event lane place (taken_all sources) drew (told_calls later) in
    let new : StoreValue _ = with_begun disk log files drew old in
    let drawn_is : (drawn_of run).file ≡ old.drawn.file = ap (λ (d : Highest). d.file) come.come.drawn_is in
    let many : drew ≡ length (with_targets (map_of run) (taken_all sources)) = b.drew_are ∙ sym (ap (λ (m : MapMeaning). length (with_targets m (taken_all sources))) come.come.map_is) in
    let so = did_next around after run lane place said lists (seen_by_purge old before began) (seen_by_purge new later faults) (first_event 0 0 (taken_all sources) drew 0)
    (record {
      next = next_first around run request.Purge (own_events place run) begins.0;
      finds = refl;
      allowed = subst (λ (m : MapMeaning). first_refusal run lists (purge_checks m (taken_all sources)) ≡ None) (sym come.come.map_is)
          (first_allowed run lists old.map (taken_all sources) (let a = b.few in let e = b.drew_are in omega (arith, a, e, drawn_is)) b.short);
      did = (
        taken_all sources,
        b.targets ∙ (ap (λ (n : ℕ). targets_of old.map n (taken_all sources)) (sym drawn_is) ∙ ap (λ (m : MapMeaning). targets_of m (drawn_of run).file (taken_all sources)) (sym come.come.map_is)),
        ap (λ (n : ℕ). first_event lane place (taken_all sources) n (told_calls later)) many,
      );
      fits = All-nil _;
      no_step = refl;
      goes_on = λ e. let k = goes_on_some after (and_then run event) (next_taken (own_events place (and_then run event))) in never_some k.0 (sym k.1 ∙ e);
      found = λ looked. finds_files run old before began (map (λ (t : TakenFile). t.file) (taken_all sources)) come ran (stood.1 ran) kept sound b.rising b.found;
      no_guid = refl;
    })
    (first_comes run lane place (taken_all sources) drew disk log files old before later began faults come ran b.begun (comes_drawing run event old.map old.drawn (told_calls before) drew come.come leaves.grows refl refl))
    shows ran ran (record { stops = λ s. leaves.moments lists s.0; settled = λ s. leaves.rests lists s.0 }) leaves.grows leaves.mail leaves.quiet in
    stands_by around after run lane place said request.Purge lists (seen_by_purge old before began) (seen_by_purge new later faults) next.did None event None (IsAtPurge next new)
    (subst (λ (d : Did). DidBy around after run lane place said request.Purge lists (seen_by_purge old before began) (seen_by_purge new later faults) d None event None) (sym how) so)
    (λ none. at_first next work new (and_then run event) place said to (begun_way next sources lane drew (told_calls later) new run place said dropped counted instances b.uncopied begins))
