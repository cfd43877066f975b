-- The files that the events of a purge took, and the targets that they drew, are apart.
use Rattle.lane_tasks.proofs.Common.{◌≡◌, ◌==◌, ◌<◌, ◌+◌, ℕ, Bool, true, false, List, [], ◌∷◌, map, Option, Some, None, refl, sym, ◌∙◌, ap, subst, arith, inl, inr, ◌≤◌, ◌≢◌, ◌⊎◌, All, flat_map, list_any, eq-eqb, ne_eqb, All-cons, All-head, All-nil, All-tail, Refusal, Lists, MapMeaning}
use Rattle.lane_tasks.proofs.Common.{EventPart, First, Run, RunEvent, TakenFile, and_then, own_events, Around, is_done, is_storing, own_more, own_other}
use Rattle.std.specs.Prelude.{◌++◌, AllPairs, if◌then◌else◌, is_some, nat_lt, not}
use Rattle.std.specs.Option.{option_map, option_or}
use Rattle.std.proofs.lemmas.Grind.{flat_map-append}
use Rattle.std.proofs.lemmas.List.{append-nil}
use Rattle.std.proofs.lemmas.List.Elements.{All-push, All-weaker}
use Rattle.std.proofs.lemmas.List.Kept.{AllPairs-cons}
use Rattle.mdbox_base.specs.declared.requests.Request.TheVariants as request
use Rattle.model_octets.proofs.PairLemmas.{found_among, pairs_nil}
use Rattle.list_machine.specs.Run.{CopiesMessage, Last, MakesTarget, RemovesFile, RemovesInstance, StoresRecord, Switches, drawn_of, first_in, is_copied_from, map_of}
use Rattle.journal.specs.Events.{DidPurge, IsEvent, TellsFiles, behind_event, behind_purge, doomed_last, file_to_remove, next_part, next_taken, purge_copies, purge_goes_on, targets_of, was_pinned}
use Rattle.journal.specs.Found.{AgreesWithRun, FindsFiles, IsFreeFile, PurgeFinds, has_looked}
use Rattle.lane_tasks.specs.Tasks.{DoomsWithin, IsTakenWithin, TookApart}

-- ---- beside events of others, and before the first

pub apart_other : (run : Run) (place : ℕ) (event : RunEvent) → event.request ≢ place → TookApart (own_events place run) → TookApart (own_events place (and_then run event))
apart_other run place event other took = subst TookApart (sym (own_other place run event (ne_eqb event.request place other))) took

none_apart : TookApart []
none_apart = record { most = 0; files = All-nil (IsTakenWithin 0); targets = pairs_nil (λ (a b : TakenFile). (a.target ≡ 0) ⊎ (a.target ≢ b.target)); ended = All-nil (DoomsWithin 0) }

pub apart_first : (run : Run) (place : ℕ) → own_events place run ≡ [] → TookApart (own_events place run)
apart_first run place none = subst TookApart (sym none) none_apart

-- ---- with one event more

abbrev all_files : List RunEvent → List TakenFile
all_files own = flat_map (λ (e : RunEvent). e.files) own

none_more : (own : List RunEvent) (event : RunEvent) → event.files ≡ [] → all_files (own ++ event ∷ []) ≡ all_files own
none_more own event none = flat_map-append (λ (e : RunEvent). e.files) own (event ∷ []) ∙ (ap (λ (files : List TakenFile). all_files own ++ (files ++ [])) none ∙ append-nil (all_files own))

apart_more : (own : List RunEvent) (event : RunEvent) (took : TookApart own) → event.files ≡ [] → DoomsWithin took.most event → TookApart (own ++ event ∷ [])
apart_more own event took none ends = record {
  most = took.most;
  files = subst (λ (files : List TakenFile). All (IsTakenWithin took.most) files) (sym (none_more own event none)) took.files;
  targets = subst (λ (files : List TakenFile). AllPairs (λ a b. (a.target ≡ 0) ⊎ (a.target ≢ b.target)) files) (sym (none_more own event none)) took.targets;
  ended = All-push (DoomsWithin took.most) own event took.ended ends;
}

within_none : (most : ℕ) (files : List ℕ) → files ≡ [] → All (λ file. file ≤ most) files
within_none most files none = subst (λ (fs : List ℕ). All (λ file. file ≤ most) fs) (sym none) (All-nil (λ (file : ℕ). file ≤ most))

within_one : (most file : ℕ) (files : List ℕ) → files ≡ file ∷ [] → file ≤ most → All (λ file. file ≤ most) files
within_one most file files one least = subst (λ (fs : List ℕ). All (λ file. file ≤ most) fs) (sym one) (All-cons (λ (file : ℕ). file ≤ most) file [] least (All-nil (λ (file : ℕ). file ≤ most)))

apart_quiet : (own : List RunEvent) (event : RunEvent) → is_storing event.part ≡ false → event.files ≡ [] → event.doomed ≡ [] → event.removed ≡ [] → TookApart own → TookApart (own ++ event ∷ [])
apart_quiet own event part files doomed removed took = apart_more own event took files (part, within_none took.most event.doomed doomed, within_none took.most event.removed removed)

-- ---- the first event

targets_rise : (m : MapMeaning) (drawn : ℕ) (files : List TakenFile) → map (λ t. t.target) files ≡ targets_of m drawn files → All (λ t. (t.target ≡ 0) ⊎ (drawn < t.target)) files × AllPairs (λ a b. (a.target ≡ 0) ⊎ (a.target ≢ b.target)) files
targets_rise m drawn [] told = (All-nil (λ (t : TakenFile). (t.target ≡ 0) ⊎ (drawn < t.target)), pairs_nil (λ (a b : TakenFile). (a.target ≡ 0) ⊎ (a.target ≢ b.target)))
targets_rise m drawn (t ∷ files) told = by_test (list_any (is_copied_from t.file) m.records) refl (λ e. targets_rise m (drawn + 1) files e) (λ e. targets_rise m drawn files e)
  where
    by_test : (b : Bool) → list_any (is_copied_from t.file) m.records ≡ b
        → (map (λ t. t.target) files ≡ targets_of m (drawn + 1) files → All (λ t. (t.target ≡ 0) ⊎ (drawn + 1 < t.target)) files × AllPairs (λ a b. (a.target ≡ 0) ⊎ (a.target ≢ b.target)) files)
        → (map (λ t. t.target) files ≡ targets_of m drawn files → All (λ t. (t.target ≡ 0) ⊎ (drawn < t.target)) files × AllPairs (λ a b. (a.target ≡ 0) ⊎ (a.target ≢ b.target)) files)
        → All (λ t. (t.target ≡ 0) ⊎ (drawn < t.target)) (t ∷ files) × AllPairs (λ a b. (a.target ≡ 0) ⊎ (a.target ≢ b.target)) (t ∷ files)
    by_test true is more less =
        let both : t.target ∷ map (λ t. t.target) files ≡ (drawn + 1) ∷ targets_of m (drawn + 1) files = told ∙ ap (λ (b : Bool). if b then (drawn + 1) ∷ targets_of m (drawn + 1) files else 0 ∷ targets_of m drawn files) is in
        let here : t.target ≡ drawn + 1 = cc both in
        let rest = more (cc both) in (
          All-cons (λ (t : TakenFile). (t.target ≡ 0) ⊎ (drawn < t.target)) t files (inr (omega (arith, here)))
              (All-weaker (λ (t : TakenFile). (t.target ≡ 0) ⊎ (drawn + 1 < t.target)) (λ (t : TakenFile). (t.target ≡ 0) ⊎ (drawn < t.target)) (λ t either. elim either [ inl e ↦ inl e | inr l ↦ inr (omega (arith, l)) ]) files rest.0),
          AllPairs-cons (λ (a b : TakenFile). (a.target ≡ 0) ⊎ (a.target ≢ b.target)) t files
              (All-weaker (λ (b : TakenFile). (b.target ≡ 0) ⊎ (drawn + 1 < b.target)) (λ (b : TakenFile). (t.target ≡ 0) ⊎ (t.target ≢ b.target))
              (λ b either. elim either [ inl e ↦ inr (λ same. absurd (omega (arith, e, same, here))) | inr l ↦ inr (λ same. absurd (omega (arith, l, same, here))) ]) files rest.0) rest.1,
        )
    by_test false is more less =
        let both : t.target ∷ map (λ t. t.target) files ≡ 0 ∷ targets_of m drawn files = told ∙ ap (λ (b : Bool). if b then (drawn + 1) ∷ targets_of m (drawn + 1) files else 0 ∷ targets_of m drawn files) is in
        let here : t.target ≡ 0 = cc both in
        let rest = less (cc both) in (
          All-cons (λ (t : TakenFile). (t.target ≡ 0) ⊎ (drawn < t.target)) t files (inl here) rest.0,
          AllPairs-cons (λ (a b : TakenFile). (a.target ≡ 0) ⊎ (a.target ≢ b.target)) t files (All-weaker (λ (b : TakenFile). (b.target ≡ 0) ⊎ (drawn < b.target)) (λ (b : TakenFile). (t.target ≡ 0) ⊎ (t.target ≢ b.target)) (λ b either. inl here) files rest.0) rest.1,
        )

pub all_of_map : {X Y : Type 0} → (P : Y → Type 0) (f : X → Y) (xs : List X) → All P (map f xs) → All (λ x. P (f x)) xs
all_of_map P f [] all = All-nil (λ x. P (f x))
all_of_map P f (x ∷ xs) all = All-cons (λ x. P (f x)) x xs (All-head P (f x) (map f xs) all) (all_of_map P f xs (All-tail P (f x) (map f xs) all))

both_hold : (P Q : TakenFile → Type 0) (files : List TakenFile) → All P files → All Q files → All (λ t. P t × Q t) files
both_hold P Q files p q k d less = (p k d less, q k d less)

apart_begun : (event : RunEvent) (m : MapMeaning) (most : ℕ) → map (λ t. t.target) event.files ≡ targets_of m most event.files → All (λ t. t.file ≤ most) event.files → is_storing event.part ≡ false → event.doomed ≡ [] → event.removed ≡ [] → TookApart (event ∷ [])
apart_begun event m most told within part doomed removed =
    let rise = targets_rise m most event.files told in
    let same : all_files (event ∷ []) ≡ event.files = append-nil event.files in
    record {
      most = most;
      files = subst (λ (files : List TakenFile). All (IsTakenWithin most) files) (sym same) (both_hold (λ t. t.file ≤ most) (λ t. (t.target ≡ 0) ⊎ (most < t.target)) event.files within rise.0);
      targets = subst (λ (files : List TakenFile). AllPairs (λ a b. (a.target ≡ 0) ⊎ (a.target ≢ b.target)) files) (sym same) rise.1;
      ended = All-cons (DoomsWithin most) event [] (part, within_none most event.doomed doomed, within_none most event.removed removed) (All-nil (DoomsWithin most));
    }

-- ---- which part is next

-- behind an event of a purge stands neither its first one nor one that stores a record
abbrev IsBehind : EventPart → Type 0
IsBehind First = ⊥
IsBehind StoresRecord = ⊥
IsBehind part = Unit {0}

one_behind : (next part : EventPart) → IsBehind next → Some next ≡ Some part → IsBehind part
one_behind next part is e = let k : next ≡ part = cc e in subst IsBehind k is

none_behind : {X : Type 0} → (part : EventPart) → None ≡ Some part → X
none_behind part e = absurd (cc e)

if_behind : (b : Bool) (x y : Option EventPart) (part : EventPart) → (x ≡ Some part → IsBehind part) → (y ≡ Some part → IsBehind part) → (if b then x else y) ≡ Some part → IsBehind part
if_behind true x y part yes_x yes_y e = yes_x e
if_behind false x y part yes_x yes_y e = yes_y e

goes_on_behind : (around : Around) (run : Run) (taken : Option TakenFile) (part : EventPart) → purge_goes_on around run taken ≡ Some part → IsBehind part
goes_on_behind around run None part e = if_behind (is_some around.instance) (Some RemovesInstance) (Some Last) part (one_behind RemovesInstance part tt) (one_behind Last part tt) e
goes_on_behind around run (Some taken) part e =
    if_behind (nat_lt 0 taken.target) (Some MakesTarget) (if list_any (λ row. row.file == taken.file) (map_of run).records then Some Switches else Some RemovesFile) part (one_behind MakesTarget part tt)
    (if_behind (list_any (λ row. row.file == taken.file) (map_of run).records) (Some Switches) (Some RemovesFile) part (one_behind Switches part tt) (one_behind RemovesFile part tt)) e

copies_behind : (run : Run) (own : List RunEvent) (part : EventPart) → purge_copies run own ≡ Some part → IsBehind part
copies_behind run own part e = if_behind _ (Some CopiesMessage) (Some Switches) part (one_behind CopiesMessage part tt) (one_behind Switches part tt) e

part_behind_purge : (around : Around) (run : Run) (event : RunEvent) (at part : EventPart) → behind_purge around run event at ≡ Some part → IsBehind part
part_behind_purge around run event MakesTarget part e = copies_behind run (own_events event.request run) part e
part_behind_purge around run event CopiesMessage part e = copies_behind run (own_events event.request run) part e
part_behind_purge around run event Switches part e =
    if_behind (list_any (λ file. was_pinned run file) event.doomed) (purge_goes_on around run (next_taken (own_events event.request run))) (Some RemovesFile) part (goes_on_behind around run (next_taken (own_events event.request run)) part) (one_behind RemovesFile part tt) e
part_behind_purge around run event Last part e = none_behind part e
part_behind_purge around run event at part e = goes_on_behind around run (next_taken (own_events event.request run)) part e

event_behind : (around : Around) (run : Run) (event : RunEvent) (why : Option Refusal) (part : EventPart) → behind_event around run request.Purge event why ≡ Some part → IsBehind part
event_behind around run event None part e = part_behind_purge around run event event.part part e
event_behind around run event (Some why) part e = none_behind part e

pub purge_next : (around : Around) (run : Run) (own : List RunEvent) (part : EventPart) → next_part around run request.Purge own ≡ Some part → ((own ≡ []) × (part ≡ First)) ⊎ IsBehind part
purge_next around run [] part e = inl (refl, (let k : First ≡ part = cc e in sym k))
purge_next around run (event ∷ []) part e = inr (event_behind around run event event.refused part e)
purge_next around run (event ∷ next ∷ rest) part e = elim (purge_next around run (next ∷ rest) part e) [ inl none ↦ (let k : next ∷ rest ≡ [] = none.0 in absurd (cc k)) | inr is ↦ inr is ]

-- ---- an event

first_within : (run : Run) (most file : ℕ) (files : List ℕ) → All (λ file. file ≤ most) files → first_in (λ file. if was_pinned run file then None else Some file) files ≡ Some file → file ≤ most
first_within run most file [] all e = absurd (cc e)
first_within run most file (f ∷ files) all e = by_test (was_pinned run f) e (λ later. first_within run most file files (All-tail (λ (file : ℕ). file ≤ most) f files all) later)
  where
    by_test : (b : Bool) → option_or (if b then None else Some f) (first_in (λ file. if was_pinned run file then None else Some file) files) ≡ Some file → (first_in (λ file. if was_pinned run file then None else Some file) files ≡ Some file → file ≤ most) → file ≤ most
    by_test true e rest = rest e
    by_test false e rest = let k : f ≡ file = cc e in subst (λ (n : ℕ). n ≤ most) k (All-head (λ (file : ℕ). file ≤ most) f files all)

doomed_within : (most : ℕ) (own : List RunEvent) → All (DoomsWithin most) own → All (λ file. file ≤ most) (doomed_last own)
doomed_within most [] all = All-nil (λ (file : ℕ). file ≤ most)
doomed_within most (event ∷ []) all = (All-head (DoomsWithin most) event [] all).1
doomed_within most (event ∷ next ∷ rest) all = doomed_within most (next ∷ rest) (All-tail (DoomsWithin most) event (next ∷ rest) all)

taken_within : (own : List RunEvent) (took : TookApart own) (taken : TakenFile) → next_taken own ≡ Some taken → taken.file ≤ took.most
taken_within own took taken next = (found_among (λ t. not (is_done own t)) (all_files own) taken (IsTakenWithin took.most) next took.files).0

mapped_within : (own : List RunEvent) (took : TookApart own) (file : ℕ) (o : Option TakenFile) → next_taken own ≡ o → option_map (λ taken. taken.file) o ≡ Some file → file ≤ took.most
mapped_within own took file None next e = absurd (cc e)
mapped_within own took file (Some taken) next e = let k : taken.file ≡ file = cc e in subst (λ (n : ℕ). n ≤ took.most) k (taken_within own took taken next)

removed_within : (run : Run) (own : List RunEvent) (took : TookApart own) (file : ℕ) → file_to_remove run own ≡ Some file → file ≤ took.most
removed_within run own took file e = by_first (first_in (λ file. if was_pinned run file then None else Some file) (doomed_last own)) refl e
  where
    by_first : (o : Option ℕ) → first_in (λ file. if was_pinned run file then None else Some file) (doomed_last own) ≡ o → option_or o (option_map (λ taken. taken.file) (next_taken own)) ≡ Some file → file ≤ took.most
    by_first None is e = mapped_within own took file (next_taken own) refl e
    by_first (Some other) is e = first_within run took.most file (doomed_last own) (doomed_within took.most own took.ended) (is ∙ e)

-- what it did leaves them apart
apart_by : (around : Around) (run : Run) (event : RunEvent) (own : List RunEvent) (part : EventPart) → own ≡ own_events event.request run → event.part ≡ part → (part ≡ First → own ≡ []) → IsBehind part ⊎ (part ≡ First) → (part ≡ First → All (λ t. t.file ≤ (drawn_of run).file) event.files) → DidPurge around run event part → TookApart own
    → TookApart (own ++ event ∷ [])
apart_by around run event own First own_is is alone behind within d took =
    let files_are = ap (λ (e : RunEvent). e.files) d.2 in
    subst (λ (es : List RunEvent). TookApart (es ++ event ∷ [])) (sym (alone refl))
    (apart_begun event (map_of run) (drawn_of run).file (subst (λ (files : List TakenFile). map (λ t. t.target) files ≡ targets_of (map_of run) (drawn_of run).file files) (sym files_are) d.1) (within refl) (ap is_storing is) (ap (λ (e : RunEvent). e.doomed) d.2) (ap (λ (e : RunEvent). e.removed) d.2))
apart_by around run event own Switches own_is is alone behind within d took =
    let next : next_taken own ≡ Some d.0 = subst (λ (es : List RunEvent). next_taken es ≡ Some d.0) (sym own_is) d.4 in
    apart_more own event took (ap (λ (e : RunEvent). e.files) d.7) (ap is_storing is, within_one took.most d.0.file event.doomed (ap (λ (e : RunEvent). e.doomed) d.7) (taken_within own took d.0 next), within_none took.most event.removed (ap (λ (e : RunEvent). e.removed) d.7))
apart_by around run event own RemovesFile own_is is alone behind within d took =
    let removes : file_to_remove run own ≡ Some d.0 = subst (λ (es : List RunEvent). file_to_remove run es ≡ Some d.0) (sym own_is) d.1 in
    apart_more own event took (ap (λ (e : RunEvent). e.files) d.4) (ap is_storing is, within_none took.most event.doomed (ap (λ (e : RunEvent). e.doomed) d.4), within_one took.most d.0 event.removed (ap (λ (e : RunEvent). e.removed) d.4) (removed_within run own took d.0 removes))
apart_by around run event own MakesTarget own_is is alone behind within d took = apart_quiet own event (ap is_storing is) (ap (λ (e : RunEvent). e.files) d.2) (ap (λ (e : RunEvent). e.doomed) d.2) (ap (λ (e : RunEvent). e.removed) d.2) took
apart_by around run event own CopiesMessage own_is is alone behind within d took = apart_quiet own event (ap is_storing is) (ap (λ (e : RunEvent). e.files) d.2) (ap (λ (e : RunEvent). e.doomed) d.2) (ap (λ (e : RunEvent). e.removed) d.2) took
apart_by around run event own RemovesInstance own_is is alone behind within d took = apart_quiet own event (ap is_storing is) (ap (λ (e : RunEvent). e.files) d.2) (ap (λ (e : RunEvent). e.doomed) d.2) (ap (λ (e : RunEvent). e.removed) d.2) took
apart_by around run event own StoresRecord own_is is alone (inl none) within d took = absurd none
apart_by around run event own StoresRecord own_is is alone (inr first) within d took = absurd (cc first)
apart_by around run event own part own_is is alone behind within d took = apart_quiet own event (ap is_storing is) (ap (λ (e : RunEvent). e.files) d) (ap (λ (e : RunEvent). e.doomed) d) (ap (λ (e : RunEvent). e.removed) d) took

-- so does an event that wasn't refused, if what is known of files was drawn
pub apart_on : (around behind : Around) (run : Run) (lists : Lists) (event : RunEvent) (place : ℕ) → event.request ≡ place → IsEvent around behind run lists request.Purge event → event.refused ≡ None → AgreesWithRun around run request.Purge event event.part
    → ((file : ℕ) → IsFreeFile run file → file ≤ (drawn_of run).file) → TookApart (own_events place run) → TookApart (own_events place (and_then run event))
apart_on around behind run lists event place at is unrefused agrees drawn took =
    subst TookApart (sym (own_more place run event (eq-eqb event.request place at)))
    (apart_by around run event (own_events place run) event.part (ap (λ (n : ℕ). own_events n run) (sym at)) refl alone behind_is within (is.did unrefused) took)
  where
    alone : event.part ≡ First → own_events place run ≡ []
    alone first = subst (λ (n : ℕ). own_events n run ≡ []) at (elim (purge_next around run (own_events event.request run) event.part is.part_is) [ inl both ↦ both.0 | inr later ↦ absurd (subst IsBehind first later) ])

    behind_is : IsBehind event.part ⊎ (event.part ≡ First)
    behind_is = elim (purge_next around run (own_events event.request run) event.part is.part_is) [ inl both ↦ inr both.1 | inr is ↦ inl is ]

    within : event.part ≡ First → All (λ t. t.file ≤ (drawn_of run).file) event.files
    within first =
        let told : map (λ t. t.file) event.files ≡ around.files = subst (λ (part : EventPart). TellsFiles around event part) first is.finds in
        let finds : FindsFiles run around.files = subst (λ (part : EventPart). PurgeFinds around run part) first (agrees (ap has_looked unrefused)) in
        all_of_map (λ file. file ≤ (drawn_of run).file) (λ (t : TakenFile). t.file) event.files
        (subst (λ (files : List ℕ). All (λ file. file ≤ (drawn_of run).file) files) (sym told) (All-weaker (IsFreeFile run) (λ file. file ≤ (drawn_of run).file) drawn around.files finds.free))
