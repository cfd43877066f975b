-- The record that a delivery has stored names the instances that its events found.
use Rattle.lane_tasks.proofs.Common.{◌≡◌, ◌==◌, ℕ, List, [], ◌∷◌, ◌++◌, Option, Some, refl, sym, ◌∙◌, ap, arith, ◌≢◌, flat_map, eq-eqb, ne_eqb, History, InstRow, Progress, Refusal, Reply, Run, RunEvent, and_then, own_events, own_more, own_other, StoreValue, one_if, save_claims}
use Rattle.lane_tasks.proofs.Common.{SaveEffects, IsAtSave, SaveStage, HasNamedFound}
use Rattle.std.proofs.Common.{◌≤◌, append_assoc}
use Rattle.std.proofs.lemmas.Grind.{flat_map-append}
use Rattle.std.proofs.lemmas.List.{append-nil}
use Rattle.std.proofs.lemmas.List.Concat.{flat_map-cons}
use Rattle.mdbox_base.specs.declared.ids.MapUid.{MapUid}
use Rattle.mdbox_base.specs.declared.progress.Progress.TheVariants as progress
use Rattle.model_meaning.specs.MapMeaning.{MapRecord, record_at}
use Rattle.journal.specs.Events.{DidNothing, instances_found}
use Rattle.task_claims.specs.Stable.{Beside}
use Rattle.task_claims.proofs.LeftLemmas.{record_left}
use Rattle.mail_save.specs.SaveEffects.{saved_row}
use Rattle.mail_save.specs.SaveStages.{AreAttachedSoFar, ArePlacedSoFar, AreRefusedSoFar, AreStoredSoFar}
use Rattle.mail_save.specs.declared.task.SaveStage.TheVariants as save_stage

-- ---- what its events found

abbrev pub found_by : RunEvent → List InstRow
found_by event = event.equal ++ event.placed

pub front_found : (rows : List InstRow) (own : List RunEvent) → AreAttachedSoFar rows own → flat_map found_by own ≡ rows
front_found rows own a = ap (flat_map found_by) a.own_are ∙ (flat_map-cons found_by a.first a.more ∙ (ap (λ (xs : List InstRow). xs ++ flat_map found_by a.more) (ap found_by a.laid.did) ∙ a.found))

-- behind these, such as found none
pub one_more : (own : List RunEvent) (event : RunEvent) → found_by event ≡ [] → flat_map found_by (own ++ event ∷ []) ≡ flat_map found_by own
one_more own event none =
    flat_map-append found_by own (event ∷ []) ∙ (ap (λ (xs : List InstRow). flat_map found_by own ++ xs) (flat_map-cons found_by event [] ∙ ap (λ (xs : List InstRow). xs ++ []) none) ∙ append-nil (flat_map found_by own))

pub placed_found : (rows : List InstRow) (file : ℕ) (guid : List ℕ) (own : List RunEvent) → ArePlacedSoFar rows file guid own → flat_map found_by own ≡ rows
placed_found rows file guid own a =
    ap (flat_map found_by) (a.own_are ∙ sym (append_assoc a.front (a.second ∷ []) (a.third ∷ [])))
    ∙ (one_more (a.front ++ a.second ∷ []) a.third (ap found_by a.placed.did) ∙ (one_more a.front a.second (ap found_by a.took.did) ∙ front_found rows a.front a.attached))

found_more : (place : ℕ) (run : Run) (event : RunEvent) → event.request ≡ place → found_by event ≡ [] → instances_found place (and_then run event) ≡ instances_found place run
found_more place run event at none = ap (flat_map found_by) (own_more place run event (eq-eqb event.request place at)) ∙ one_more (own_events place run) event none

found_other : (place : ℕ) (run : Run) (event : RunEvent) → event.request ≢ place → instances_found place (and_then run event) ≡ instances_found place run
found_other place run event other = ap (flat_map found_by) (own_other place run event (ne_eqb event.request place other))

-- ---- the last of them

abbrev last_of : RunEvent → List RunEvent → RunEvent
last_of other [] = other
last_of other (event ∷ more) = last_of event more

last_is : (other : RunEvent) (front : List RunEvent) (event : RunEvent) → last_of other (front ++ event ∷ []) ≡ event
last_is other [] event = refl
last_is other (first ∷ more) event = last_is first more event

same_last : (a b : List RunEvent) (event last : RunEvent) → a ++ event ∷ [] ≡ b ++ last ∷ [] → event ≡ last
same_last a b event last same = sym (last_is event a event) ∙ (ap (last_of event) same ∙ last_is event b last)

stored_last : (guid : List ℕ) (uid place : ℕ) (run : Run) (event : RunEvent) → event.request ≡ place → AreStoredSoFar guid uid (own_events place (and_then run event)) → found_by event ≡ []
stored_last guid uid place run event at s =
    let same : event ≡ s.fourth = same_last (own_events place run) (s.front ++ s.second ∷ s.third ∷ []) event s.fourth (sym (own_more place run event (eq-eqb event.request place at)) ∙ (s.own_are ∙ sym (append_assoc s.front (s.second ∷ s.third ∷ []) (s.fourth ∷ [])))) in
    ap found_by same ∙ ap found_by s.stored.did

refused_last : (uid place : ℕ) (why : Refusal) (run : Run) (event : RunEvent) → event.request ≡ place → ((cause : Refusal) → event.refused ≡ Some cause → DidNothing event) → AreRefusedSoFar uid why (own_events place (and_then run event)) → found_by event ≡ []
refused_last uid place why run event at undone s =
    let same : event ≡ s.fifth =
    same_last (own_events place run) (s.front ++ s.second ∷ s.third ∷ s.fourth ∷ []) event s.fifth (sym (own_more place run event (eq-eqb event.request place at)) ∙ (s.own_are ∙ sym (append_assoc s.front (s.second ∷ s.third ∷ s.fourth ∷ []) (s.fifth ∷ [])))) in
    ap found_by (undone why (ap (λ (e : RunEvent). e.refused) same ∙ s.refused.refused))

-- ---- beside events of others

own_one : (n : ℕ) → 1 ≤ one_if (n == n)
own_one n = let e : one_if (n == n) ≡ 1 = ap one_if (eq-eqb n n refl) in omega (arith, e)

pub names_beside : {D : Type 0} → (now : SaveStage) (old new : StoreValue D) (before after : Option History) (run : Run) (place : ℕ) (event : RunEvent) → Beside (save_claims now) old new before after → event.request ≢ place → HasNamedFound now old run place → HasNamedFound now new (and_then run event) place
names_beside (save_stage.Adding added room) old new before after run place event b other named =
    let k = record_left (save_claims (save_stage.Adding added room)) old new before after added.map_uid.0 named.0 b (own_one added.map_uid.0) named.1 in
    (k.now, k.there, ap (λ (row : MapRecord). row.instances) k.is_same ∙ (named.2 ∙ sym (found_other place run event other)))
names_beside (save_stage.GivingBack uid why room) old new before after run place event b other named =
    let k = record_left (save_claims (save_stage.GivingBack uid why room)) old new before after uid.0 named.0 b (own_one uid.0) named.1 in
    (k.now, k.there, ap (λ (row : MapRecord). row.instances) k.is_same ∙ (named.2 ∙ sym (found_other place run event other)))
names_beside now old new before after run place event b other named = tt

-- ---- an event of its own

pub names_on : {D : Type 0} → (now next : SaveStage) (name : List ℕ) (time size : ℕ) (answer : Progress) (old new : StoreValue D) (run : Run) (place : ℕ) (said told : List Reply) (event : RunEvent) → event.request ≡ place → ((cause : Refusal) → event.refused ≡ Some cause → DidNothing event)
    → IsAtSave now run place said → IsAtSave next (and_then run event) place told → SaveEffects now next name time size answer old new → HasNamedFound now old run place → HasNamedFound next new (and_then run event) place
names_on (save_stage.Storing place_at rows room) (save_stage.Adding added left) name time size progress.More old new run place said told event at undone stood stands effects named =
    let found : instances_found place (and_then run event) ≡ rows = found_more place run event at (stored_last added.guid.0 added.map_uid.0 place run event at stands.0) ∙ placed_found rows place_at.file.0 place_at.guid.0 (own_events place run) stood.0 in
    let there : record_at new.map added.map_uid.0 ≡ Some (saved_row rows added.map_uid place_at) = ap (λ (s : StoreValue _). record_at s.map added.map_uid.0) effects.2 ∙ effects.1.there in
    (saved_row rows added.map_uid place_at, there, sym found)
names_on (save_stage.Adding added left) (save_stage.GivingBack uid why room) name time size progress.More old new run place said told event at undone stood stands effects named =
    let found = found_more place run event at (refused_last uid.0 place why run event at undone stands.0) in
    let there : record_at new.map uid.0 ≡ Some named.0 = ap (λ (s : StoreValue _). record_at s.map uid.0) effects.1 ∙ (ap (λ (u : MapUid). record_at old.map u.0) effects.0 ∙ named.1) in
    (named.0, there, named.2 ∙ sym found)
names_on now (save_stage.First prepared) name time size answer old new run place said told event at undone stood stands effects named = tt
names_on now (save_stage.Attaching parts attaching) name time size answer old new run place said told event at undone stood stands effects named = tt
names_on now (save_stage.Taking parts) name time size answer old new run place said told event at undone stood stands effects named = tt
names_on now (save_stage.Placing parts file) name time size answer old new run place said told event at undone stood stands effects named = tt
names_on now (save_stage.Storing other rows room) name time size answer old new run place said told event at undone stood stands effects named = tt
names_on now save_stage.Ended name time size answer old new run place said told event at undone stood stands effects named = tt
names_on now next name time size answer old new run place said told event at undone stood stands effects named = absurd effects
