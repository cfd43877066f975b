-- The storage files that tasks claim to have taken are those that their requests' events took and haven't given back.
use Rattle.lane_tasks.proofs.Common.{◌≡◌, ◌==◌, ℕ, Bool, true, false, List, [], ◌∷◌, ◌++◌, Option, refl, sym, ◌∙◌, ap, subst, arith, inl, inr, ◌⊎◌, flat_map, is_none, list_any, eq-eqb, list_any-append, History, InstRow, Reply, Request, Run, RunEvent, TakenFile}
use Rattle.lane_tasks.proofs.Common.{is_one_of, own_events, is_done, gave_back, is_storing, took_file, StoreValue, Emptied, Taken, one_if, fetch_claims, FetchStage, make_claims, MakeStage, save_claims, IsAtSave, SaveValue, SaveStage, StandsTask, claims_at, Task}
use Rattle.std.proofs.Common.{◌≤◌, ◌&&◌, ◌||◌}
use Rattle.std.specs.List.{AllByRecursion}
use Rattle.std.proofs.lemmas.Bool.{eqb-true, or_left, or_right, and_from, or_from, and_right}
use Rattle.mdbox_base.specs.declared.requests.Request.TheVariants as request
use Rattle.mail_fetch.specs.declared.task.FetchStage.TheVariants as fetch_stage
use Rattle.mail_ops.specs.declared.making.MakeStage.TheVariants as make_stage
use Rattle.mail_save.specs.SaveStages.{AreAttachedSoFar, HasAttached, TookFile}
use Rattle.mail_save.specs.declared.task.SaveStage.TheVariants as save_stage
use Rattle.lane_tasks.proofs.PurgeClaimedLemmas.{purge_claimed}
use Rattle.lane_tasks.specs.declared.task.Task.TheVariants as task

-- What a task's own events say of a file: one took it, and none gave it back.
abbrev pub HasIt : ℕ → List RunEvent → Type 0
HasIt file own = (list_any (took_file file) own ≡ true) × (gave_back file own ≡ false)

unclaimed : {X : Type 0} → (a b : ℕ) → a ≡ 0 → b ≡ 0 → (1 ≤ a) ⊎ (1 ≤ b) → X
unclaimed a b x y (inl some) = absurd (omega (arith, x, some))
unclaimed a b x y (inr some) = absurd (omega (arith, y, some))

-- ---- events that give no file back

pub record Keeps (event : RunEvent) : Type 0 where
  pub part : is_storing event.part ≡ false
  pub doomed : event.doomed ≡ []
  pub removed : event.removed ≡ []

none_ended : (event : RunEvent) (file : ℕ) → Keeps event → (is_one_of event.doomed file || is_one_of event.removed file) ≡ false
none_ended event file k = or_from (is_one_of event.doomed file) (is_one_of event.removed file) (ap (λ (files : List ℕ). is_one_of files file) k.doomed) (ap (λ (files : List ℕ). is_one_of files file) k.removed)

none_given : (file : ℕ) (own : List RunEvent) → AllByRecursion Keeps own → list_any (λ e. is_storing e.part || (is_one_of e.doomed file || is_one_of e.removed file)) own ≡ false
none_given file [] all = refl
none_given file (e ∷ own) all = or_from _ _ (or_from (is_storing e.part) _ all.0.part (none_ended e file all.0)) (none_given file own all.1)

none_done : (taken : TakenFile) (own : List RunEvent) → AllByRecursion Keeps own → is_done own taken ≡ false
none_done taken [] all = refl
none_done taken (e ∷ own) all = or_from _ _ (none_ended e taken.file all.0) (none_done taken own all.1)

targets_kept : (file : ℕ) (own : List RunEvent) (taken : List TakenFile) → AllByRecursion Keeps own → list_any (λ t. (t.target == file) && is_done own t) taken ≡ false
targets_kept file own [] all = refl
targets_kept file own (t ∷ taken) all = or_from _ _ (and_right (t.target == file) (is_done own t) (none_done t own all)) (targets_kept file own taken all)

not_given : (file : ℕ) (own : List RunEvent) → AllByRecursion Keeps own → gave_back file own ≡ false
not_given file own all = or_from _ _ (none_given file own all) (targets_kept file own (flat_map (λ e. e.files) own) all)

keeping_both : (a b : List RunEvent) → AllByRecursion Keeps a → AllByRecursion Keeps b → AllByRecursion Keeps (a ++ b)
keeping_both [] b x y = y
keeping_both (e ∷ a) b x y = (x.0, keeping_both a b x.1 y)

-- ---- a delivery

attached_keep : (event : RunEvent) → HasAttached event → Keeps event
attached_keep event h = record { part = elim h.part [ inl is ↦ ap is_storing is | inr is ↦ ap is_storing is ]; doomed = ap (λ (e : RunEvent). e.doomed) h.did; removed = ap (λ (e : RunEvent). e.removed) h.did }

all_keep : (events : List RunEvent) → AllByRecursion HasAttached events → AllByRecursion Keeps events
all_keep [] all = tt
all_keep (e ∷ more) all = (attached_keep e all.0, all_keep more all.1)

front_keeps : (rows : List InstRow) (own : List RunEvent) → AreAttachedSoFar rows own → AllByRecursion Keeps own
front_keeps rows own a =
    let first : Keeps a.first = record { part = ap is_storing a.laid.part; doomed = ap (λ (e : RunEvent). e.doomed) a.laid.did; removed = ap (λ (e : RunEvent). e.removed) a.laid.did } in
    subst (AllByRecursion Keeps) (sym a.own_are) (first, all_keep a.more a.attached)

took_keeps : (file : ℕ) (event : RunEvent) → TookFile file event → Keeps event
took_keeps file event t = record { part = ap is_storing t.part; doomed = ap (λ (e : RunEvent). e.doomed) t.did; removed = ap (λ (e : RunEvent). e.removed) t.did }

took_it : (file taken : ℕ) (event : RunEvent) → TookFile taken event → taken ≡ file → took_file file event ≡ true
took_it file taken event t same =
    let unrefused : is_none event.refused ≡ true = ap (λ (e : RunEvent). is_none e.refused) t.did in
    let files : event.files ≡ record { file = taken; target = 0 } ∷ [] = ap (λ (e : RunEvent). e.files) t.did in
    and_from (is_none event.refused) _ unrefused
    (ap (λ (ts : List TakenFile). list_any (λ t. (t.file == file) || (t.target == file)) ts) files ∙ or_left ((taken == file) || (0 == file)) false (or_left (taken == file) (0 == file) (eq-eqb taken file same)))

-- behind the events that attached, the one that took the file, and such as keep it
has_it : (rows : List InstRow) (file taken : ℕ) (own front later : List RunEvent) (event : RunEvent) → own ≡ front ++ event ∷ later → AreAttachedSoFar rows front → TookFile taken event → AllByRecursion Keeps later → taken ≡ file → HasIt file own
has_it rows file taken own front later event is attached took keep same = (
  ap (list_any (took_file file)) is
      ∙ (list_any-append (took_file file) front (event ∷ later) ∙ or_right (list_any (took_file file) front) _ (or_left (took_file file event) (list_any (took_file file) later) (took_it file taken event took same))),
  ap (gave_back file) is ∙ not_given file (front ++ event ∷ later) (keeping_both front (event ∷ later) (front_keeps rows front attached) (took_keeps taken event took, keep)),
)

is_file : (taken file : ℕ) → 1 ≤ one_if (taken == file) → taken ≡ file
is_file taken file some = by_test (taken == file) refl some
  where
    by_test : (t : Bool) → (taken == file) ≡ t → 1 ≤ one_if t → taken ≡ file
    by_test true e s = eqb-true taken file e
    by_test false e s = absurd (let k : 1 ≤ 0 = s in omega (arith, k))

stage_taken : (now : SaveStage) (run : Run) (place : ℕ) (said : List Reply) (file : ℕ) → IsAtSave now run place said → (1 ≤ save_claims now (Taken file)) ⊎ (1 ≤ save_claims now (Emptied file)) → HasIt file (own_events place run)
stage_taken (save_stage.Placing parts taken) run place said file at (inl some) = let a = at.0 in has_it parts.rows file taken.0 (own_events place run) a.front [] a.second a.own_are a.attached a.took tt (is_file taken.0 file some)
stage_taken (save_stage.Placing parts taken) run place said file at (inr some) = unclaimed 0 0 refl refl (inr some)
stage_taken (save_stage.Storing place_at rows room) run place said file at (inl some) =
    let a = at.0 in
    let placed : Keeps a.third = record { part = ap is_storing a.placed.part; doomed = ap (λ (e : RunEvent). e.doomed) a.placed.did; removed = ap (λ (e : RunEvent). e.removed) a.placed.did } in
    has_it rows file place_at.file.0 (own_events place run) a.front (a.third ∷ []) a.second a.own_are a.attached a.took (placed, tt) (is_file place_at.file.0 file some)
stage_taken (save_stage.Storing place_at rows room) run place said file at (inr some) = unclaimed 0 0 refl refl (inr some)
stage_taken now run place said file at some = unclaimed 0 0 refl refl some

delivery_taken : {D : Type 0} → (t : SaveValue) (store : StoreValue D) (history : Option History) (asked : Request) (run : Run) (place : ℕ) (said : List Reply) (file : ℕ) → StandsTask (task.Deliver t) store history asked run place said
    → (1 ≤ save_claims t.stage (Taken file)) ⊎ (1 ≤ save_claims t.stage (Emptied file)) → HasIt file (own_events place run)
delivery_taken t store history (request.Deliver name time octets) run place said file s some = stage_taken t.stage run place said file s.at.0 some
delivery_taken t store history asked run place said file s some = absurd s.is_of

-- ---- each kind

make_takes : (now : MakeStage) (file : ℕ) → (make_claims now (Taken file) ≡ 0) × (make_claims now (Emptied file) ≡ 0)
make_takes make_stage.First file = (refl, refl)
make_takes (make_stage.Naming number) file = (refl, refl)

fetch_takes : (now : FetchStage) (file : ℕ) → (fetch_claims now (Taken file) ≡ 0) × (fetch_claims now (Emptied file) ≡ 0)
fetch_takes fetch_stage.First file = (refl, refl)
fetch_takes (fetch_stage.Reading region) file = (refl, refl)
fetch_takes (fetch_stage.Unpinning from given) file = (refl, refl)
fetch_takes (fetch_stage.Removing gone given) file = (refl, refl)

pub claimed_taken : {D : Type 0} → (t : Task) (store : StoreValue D) (history : Option History) (asked : Request) (run : Run) (place : ℕ) (said : List Reply) (file : ℕ) → StandsTask t store history asked run place said → 1 ≤ file → (1 ≤ claims_at t (Taken file)) ⊎ (1 ≤ claims_at t (Emptied file))
    → (list_any (took_file file) (own_events place run) ≡ true) × (gave_back file (own_events place run) ≡ false)
claimed_taken (task.Deliver t) store history asked run place said file s low some = delivery_taken t store history asked run place said file s some
claimed_taken (task.Make t) store history asked run place said file s low some = let none = make_takes t.stage file in unclaimed _ _ none.0 none.1 some
claimed_taken (task.Fetch t) store history asked run place said file s low some = let none = fetch_takes t.stage file in unclaimed _ _ none.0 none.1 some
claimed_taken (task.Purge t) store history asked run place said file s low some = purge_claimed t t.stage store run place said file s.at s.took low some
claimed_taken t store history asked run place said file s low some = unclaimed 0 0 refl refl some
