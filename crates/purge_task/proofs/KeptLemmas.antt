-- The stages of a purge are kept by events of other requests, and lead from one to the next by its own.
use Rattle.purge_task.proofs.Common.{◌≡◌, ◌==◌, ◌||◌, ℕ, Bool, true, false, cond, List, [], ◌∷◌, ◌++◌, length, refl, sym, ◌∙◌, ap, subst, All, filter, flat_map, sum_by, list_any, eq-eqb, ne_eqb, list_any-append, Reply, EventPart, First, RemovesFile, RemovesInstance, Run, RunEvent, Switches}
use Rattle.purge_task.proofs.Common.{and_then, dropped_in, how_many, is_one_of, own_events, last_refusal, StoreValue, sources_left, PurgeValue, CopiesBehind, GoesOnBehind, HaveCopied, HaveTaken, IsAtPurge, IsAtPurgeStage, IsAtSwitched, IsPurging, RemovesBehind, PurgeStage, Source}
use Rattle.journal.proofs.OwnEventLemmas.{own_other}
use Rattle.task_steps.specs.Step.{IsKept}
use Rattle.task_steps.proofs.SeenLemmas.{not_begun_stays, was_pinned_still}
use Rattle.purge_task.specs.declared.task.PurgeStage.TheVariants as stage

-- ---- the last of its own events

abbrev dooms : ℕ → RunEvent → Bool
dooms file e = is_one_of e.doomed file

either_true : (a b : Bool) → b ≡ true → (a || b) ≡ true
either_true true b e = refl
either_true false b e = e

-- what holds of some that pass a test holds of some
any_passing : (p q : RunEvent → Bool) (xs : List RunEvent) → list_any p (filter q xs) ≡ true → list_any p xs ≡ true
any_passing p q [] h = h
any_passing p q (x ∷ xs) h = by_test (p x) refl (any_passing p q xs)
  where
    inner : p x ≡ false → (b : Bool) → list_any p (cond b (x ∷ filter q xs) (filter q xs)) ≡ true → list_any p (filter q xs) ≡ true
    inner e true k = sym (ap (λ (b : Bool). b || list_any p (filter q xs)) e) ∙ k
    inner e false k = k

    by_test : (c : Bool) → p x ≡ c → (list_any p (filter q xs) ≡ true → list_any p xs ≡ true) → list_any p (x ∷ xs) ≡ true
    by_test true e rest = ap (λ (b : Bool). b || list_any p xs) e
    by_test false e rest = ap (λ (b : Bool). b || list_any p xs) e ∙ rest (inner e (q x) h)

any_last : (p : RunEvent → Bool) (front : List RunEvent) (last : RunEvent) → p last ≡ true → list_any p (front ++ last ∷ []) ≡ true
any_last p front last e = list_any-append p front (last ∷ []) ∙ either_true (list_any p front) (p last || false) (ap (λ (b : Bool). b || false) e)

one_itself : (file : ℕ) → is_one_of (file ∷ []) file ≡ true
one_itself file = ap (λ (b : Bool). b || false) (eq-eqb file file refl)

-- a file that the last of the own events doomed was doomed in the run
last_dooms : (place : ℕ) (run : Run) (front : List RunEvent) (last : RunEvent) (file : ℕ) → own_events place run ≡ front ++ last ∷ [] → last.doomed ≡ file ∷ [] → list_any (dooms file) run.events ≡ true
last_dooms place run front last file is doomed =
    any_passing (dooms file) (λ e. e.request == place) run.events
    (ap (λ (es : List RunEvent). list_any (dooms file) es) is ∙ any_last (dooms file) front last (ap (λ (fs : List ℕ). is_one_of fs file) doomed ∙ one_itself file))

-- ---- beside events of others

abbrev IsLastDoomed : Run → List ℕ → Type 0
IsLastDoomed run doomed = (file : ℕ) → doomed ≡ file ∷ [] → list_any (dooms file) run.events ≡ true

under_way_stays : {D : Type 0} → (t : PurgeValue) (done left : List Source) (Before After : List ℕ → EventPart → Type 0) (store : StoreValue D) (run : Run) (place : ℕ) (said : List Reply) (event : RunEvent) → own_events place (and_then run event) ≡ own_events place run
    → ((doomed : List ℕ) (part : EventPart) → IsLastDoomed run doomed → Before doomed part → After doomed part) → IsPurging t done left Before store run place said → IsPurging t done left After store (and_then run event) place said
under_way_stays t done left Before After store run place said event same to h = record {
  unsaid = h.unsaid;
  last = record {
    front = h.last.front;
    last = h.last.last;
    own_are = same ∙ h.last.own_are;
    unrefused = h.last.unrefused;
    behind = to h.last.last.doomed h.last.last.part (λ file e. last_dooms place run h.last.front h.last.last file h.last.own_are e) h.last.behind;
  };
  unrefused = ap (λ (es : List RunEvent). last_refusal es) same ∙ h.unrefused;
  taken = subst (λ (es : List RunEvent). HaveTaken done left es) (sym same) h.taken;
  copied = λ runs. subst (λ (es : List RunEvent). All (HaveCopied store.map es) left) (sym same) (h.copied runs);
  counted = record {
    dropped = h.counted.dropped ∙ ap (λ (es : List RunEvent). sum_by (λ (e : RunEvent). sum_by dropped_in e.map_entries) es) (sym same);
    files = h.counted.files ∙ ap (λ (es : List RunEvent). how_many (flat_map (λ (e : RunEvent). e.doomed ++ e.removed) es)) (sym same);
    instances = h.counted.instances ∙ ap (λ (es : List RunEvent). sum_by (λ (e : RunEvent). length e.gone) es) (sym same);
  };
}

goes_on_still : (run : Run) (event : RunEvent) (doomed : List ℕ) (part : EventPart) → IsLastDoomed run doomed → GoesOnBehind run doomed part → GoesOnBehind (and_then run event) doomed part
goes_on_still run event doomed First l h = h
goes_on_still run event doomed RemovesFile l h = h
goes_on_still run event doomed RemovesInstance l h = h
goes_on_still run event doomed Switches l h = (h.0, h.1, was_pinned_still run event h.0 (l h.0 h.1) ∙ h.2)
goes_on_still run event doomed part l h = absurd h

removes_still : (run : Run) (event : RunEvent) (file : ℕ) (doomed : List ℕ) (part : EventPart) → IsLastDoomed run doomed → RemovesBehind run file doomed part → RemovesBehind (and_then run event) file doomed part
removes_still run event file doomed Switches l h = (h.0, was_pinned_still run event file (l file h.0) ∙ h.1)
removes_still run event file doomed part l h = absurd h

stage_stays : {D : Type 0} → (s : PurgeStage) (t : PurgeValue) (store : StoreValue D) → IsKept (IsAtPurgeStage s t store)
stage_stays stage.First t store run place said event other new stood = not_begun_stays run place said event other new stood
stage_stays (stage.Begin work) t store run place said event other new stood =
    (stood.0, under_way_stays t stood.0 (sources_left work) (GoesOnBehind run) (GoesOnBehind (and_then run event)) store run place said event (own_other place run event (ne_eqb event.request place other)) (goes_on_still run event) stood.1)
stage_stays (stage.Copying work) t store run place said event other new stood =
    (stood.0, under_way_stays t stood.0 (sources_left work) (λ doomed part. CopiesBehind part) (λ doomed part. CopiesBehind part) store run place said event (own_other place run event (ne_eqb event.request place other)) (λ doomed part l h. h) stood.1)
stage_stays (stage.Removing work) t store run place said event other new stood = by_left (sources_left work) stood
  where
    by_left : (left : List Source) → IsAtSwitched t left store run place said → IsAtSwitched t left store (and_then run event) place said
    by_left [] h = absurd h
    by_left (source ∷ left) h =
        (h.0, under_way_stays t (h.0 ++ source ∷ []) left (RemovesBehind run source.file.0) (RemovesBehind (and_then run event) source.file.0) store run place said event (own_other place run event (ne_eqb event.request place other)) (removes_still run event source.file.0) h.1)
stage_stays stage.Instances t store run place said event other new stood =
    (stood.0, under_way_stays t stood.0 [] (GoesOnBehind run) (GoesOnBehind (and_then run event)) store run place said event (own_other place run event (ne_eqb event.request place other)) (goes_on_still run event) stood.1)

pub purge_stays : {D : Type 0} → (t : PurgeValue) (store : StoreValue D) → IsKept (IsAtPurge t store)
purge_stays t store = stage_stays t.stage t store
