-- What tasks claim leaves room for their next events.
use Rattle.lane_tasks.proofs.Common.{◌≡◌, ◌+◌, ℕ, false, List, [], ◌∷◌, Option, Some, None, refl, sym, ◌∙◌, ap, subst, arith, ◌≤◌, drop, option_map_or, All-head, All-tail, sum_by-cons, History, Request, Lists, Around, AreFilesInOrder, IsStore, StoreValue, Claims, Held, MakeStage}
use Rattle.lane_tasks.proofs.Common.{make_claims, SaveValue, SaveStage, claims_of_sources, claims_of_switched, claims_of_target, purge_claims, sources_left, PurgeStage, Source, IsReadyTask, claims_at, Task}
use Rattle.std.proofs.Common.{◌*◌, All, length}
use Rattle.std.proofs.lemmas.List.Elements.{All-weaker}
use Rattle.mdbox_base.specs.declared.ids.InstId.{InstId}
use Rattle.mdbox_base.specs.declared.requests.Request.TheVariants as request
use Rattle.storage_files.specs.declared.file.MailFile.{MailFile}
use Rattle.task_claims.specs.Claims.{AddsUp, Pinned, Thing, total_claims}
use Rattle.mail_ops.specs.declared.making.MakeStage.TheVariants as make_stage
use Rattle.mail_fetch.specs.Claims.{HasUseRoom}
use Rattle.mail_fetch.specs.Clause.{ReadsSafe}
use Rattle.mail_fetch.proofs.StableLemmas.{claims_few, claims_one_pin}
use Rattle.mail_fetch.proofs.StepLemmas.{safe_fetched}
use Rattle.mail_save.specs.SaveSeen.{room_among, room_at}
use Rattle.mail_save.specs.declared.task.SaveStage.TheVariants as save_stage
use Rattle.mail_save.proofs.SaveReadyLemmas.{holds_are_few}
use Rattle.mail_save.proofs.SaveRoomLemmas.{room_is}
use Rattle.purge_task.specs.declared.task.PurgeStage.TheVariants as purge_stage
use Rattle.lane_tasks.specs.Clause.{CanAnswer, ClaimsFew, IsFreeToTake, around_at, found_saving}
use Rattle.lane_tasks.specs.declared.task.Task.TheVariants as task

-- ---- each kind

none_few : (mine : Claims) → ((file : ℕ) → mine (Pinned file) ≡ 0) → ((id : InstId) → mine (Held id) ≡ 0) → ClaimsFew mine
none_few mine pins holds = record { pinned = λ file. let e = pins file in omega (arith, e); held = λ id. let e = holds id in omega (arith, e) }

make_pins : (now : MakeStage) (file : ℕ) → make_claims now (Pinned file) ≡ 0
make_pins make_stage.First file = refl
make_pins (make_stage.Naming number) file = refl

pub make_holds : (now : MakeStage) (id : InstId) → make_claims now (Held id) ≡ 0
make_holds make_stage.First id = refl
make_holds (make_stage.Naming number) id = refl

sources_pin_none : (left : List Source) (file : ℕ) → claims_of_sources left (Pinned file) ≡ 0
sources_pin_none left file = refl

target_pins_none : (left : List Source) (file : ℕ) → claims_of_target left (Pinned file) ≡ 0
target_pins_none [] file = refl
target_pins_none (source ∷ left) file = refl

switched_pins_none : (left : List Source) (file : ℕ) → claims_of_switched left (Pinned file) ≡ 0
switched_pins_none [] file = refl
switched_pins_none (source ∷ left) file = refl

purge_pins : (now : PurgeStage) (file : ℕ) → purge_claims now (Pinned file) ≡ 0
purge_pins purge_stage.First file = refl
purge_pins (purge_stage.Begin work) file = sources_pin_none (sources_left work) file
purge_pins (purge_stage.Copying work) file = let a = sources_pin_none (sources_left work) file in let b = target_pins_none (sources_left work) file in omega (arith, a, b)
purge_pins (purge_stage.Removing work) file = let a = sources_pin_none (drop 1 (sources_left work)) file in let b = switched_pins_none (sources_left work) file in omega (arith, a, b)
purge_pins purge_stage.Instances file = refl

target_holds_none : (left : List Source) (id : InstId) → claims_of_target left (Held id) ≡ 0
target_holds_none [] id = refl
target_holds_none (source ∷ left) id = refl

switched_holds_none : (left : List Source) (id : InstId) → claims_of_switched left (Held id) ≡ 0
switched_holds_none [] id = refl
switched_holds_none (source ∷ left) id = refl

pub purge_holds : (now : PurgeStage) (id : InstId) → purge_claims now (Held id) ≡ 0
purge_holds purge_stage.First id = refl
purge_holds (purge_stage.Begin work) id = refl
purge_holds (purge_stage.Copying work) id = let none = target_holds_none (sources_left work) id in omega (arith, none)
purge_holds (purge_stage.Removing work) id = let none = switched_holds_none (sources_left work) id in omega (arith, none)
purge_holds purge_stage.Instances id = refl

pub task_claims_few : {D : Type 0} → (t : Task) (store : StoreValue D) (history : Option History) → IsReadyTask t store history → ClaimsFew (claims_at t)
task_claims_few (task.Make t) store history ready = none_few (make_claims t.stage) (make_pins t.stage) (make_holds t.stage)
task_claims_few (task.Purge t) store history ready = none_few (purge_claims t.stage) (purge_pins t.stage) (purge_holds t.stage)
task_claims_few (task.Fetch t) store history ready = record { pinned = claims_one_pin t.stage; held = λ id. claims_few t.stage store id ready }
task_claims_few (task.Deliver t) store history ready = record {
  pinned = λ file. omega arith;
  held = λ id. let few = holds_are_few t.stage t.name t.time t.size ready.0 store history ready.1 id in omega (arith, few);
}
task_claims_few t store history ready = none_few (claims_at t) (λ file. refl) (λ id. refl)

-- ---- all of them

total_few : (thing : Thing) (most : ℕ) (each : List Claims) → All (λ mine. mine thing ≤ most) each → total_claims each thing ≤ length each * most
total_few thing most [] few = omega arith
total_few thing most (mine ∷ rest) few =
    let sum = sum_by-cons (λ (one : Claims). one thing) mine rest in
    let head = All-head (λ (one : Claims). one thing ≤ most) mine rest few in
    let tail = total_few thing most rest (All-tail (λ (one : Claims). one thing ≤ most) mine rest few) in
    let long : length (mine ∷ rest) ≡ length rest + 1 = omega arith in
    subst (λ (n : ℕ). total_claims (mine ∷ rest) thing ≤ n * most) (sym long) (by_sum (mine thing) (total_claims rest thing) (length rest) (total_claims (mine ∷ rest) thing) sum head tail)
  where
    by_sum : (m r n t : ℕ) → t ≡ m + r → m ≤ most → r ≤ n * most → t ≤ (n + 1) * most
    by_sum m r n t e a b = let d : (n + 1) * most ≡ n * most + most = omega arith in omega (arith, e, a, b, d)

few_pins : (file : ℕ) (each : List Claims) → All ClaimsFew each → All (λ mine. mine (Pinned file) ≤ 1) each
few_pins file = All-weaker ClaimsFew (λ (mine : Claims). mine (Pinned file) ≤ 1) (λ mine few. few.pinned file)

few_holds : (id : InstId) (each : List Claims) → All ClaimsFew each → All (λ mine. mine (Held id) ≤ 65535) each
few_holds id = All-weaker ClaimsFew (λ (mine : Claims). mine (Held id) ≤ 65535) (λ mine few. few.held id)

pub room_left : {D : Type 0} → (store : StoreValue D) (each : List Claims) → AddsUp store each → length each ≤ 64 → All ClaimsFew each → HasUseRoom store
room_left store each adds short few = record {
  pins = λ file.
      let all = adds (Pinned file) in
      let most = total_few (Pinned file) 1 each (few_pins file each few) in
      omega (arith, all, most, short);
  holds = λ id.
      let all = adds (Held id) in
      let most = total_few (Held id) 65535 each (few_holds id each few) in
      omega (arith, all, most, short);
}

-- ---- the file that is found

no_room : (file : ℕ) (room : Option ℕ) → room ≡ None → room ≡ Some file → ⊥
no_room file room none some = let k : None ≡ Some file = sym none ∙ some in cc k

room_free : {D : Type 0} → (size file : ℕ) (store : StoreValue D) (history : Option History) → IsStore history store → AreFilesInOrder store.files → room_among size store.files.files ≡ Some file → IsFreeToTake file store
room_free size file store history s order found =
    let r = room_is size file store.files.files order.rising found in
    let free = r.has.free.free in
    record {
      some = s.files.numbered file r.f r.found;
      untaken = ap (λ (o : Option MailFile). option_map_or (λ f. f.taken) o false) r.found ∙ free.untaken;
      unemptied = ap (λ (o : Option MailFile). option_map_or (λ f. f.emptied) o false) r.found ∙ free.unemptied;
    }

stage_free : {D : Type 0} → (now : SaveStage) (file : ℕ) (store : StoreValue D) (history : Option History) → IsStore history store → AreFilesInOrder store.files → room_at now store ≡ Some file → IsFreeToTake file store
stage_free (save_stage.Taking parts) file store history s order found = room_free (length parts.laid.region) file store history s order found
stage_free now file store history s order found = absurd (no_room file None refl found)

delivery_free : {D : Type 0} → (t : SaveValue) (asked : Request) (store : StoreValue D) (history : Option History) (around : Around) (file : ℕ) → IsStore history store → AreFilesInOrder store.files → around.room ≡ None → (found_saving t asked store around).room ≡ Some file → IsFreeToTake file store
delivery_free t (request.Deliver name time octets) store history around file s order none found = stage_free t.stage file store history s order found
delivery_free t asked store history around file s order none found = absurd (no_room file around.room none found)

pub found_free : {D : Type 0} → (t : Task) (asked : Request) (store : StoreValue D) (history : Option History) (around : Around) (file : ℕ) → IsStore history store → AreFilesInOrder store.files → around.room ≡ None → (around_at t asked store around).room ≡ Some file → IsFreeToTake file store
found_free (task.Deliver t) asked store history around file s order none found = delivery_free t asked store history around file s order none found
found_free t asked store history around file s order none found = absurd (no_room file around.room none found)

-- ---- what files read

pub safe_answered : {D : Type 0} → (t : Task) (lists : Lists) (store : StoreValue D) (history : Option History) → IsStore history store → store.stopped ≡ false → ReadsSafe lists history → CanAnswer t lists store history
safe_answered (task.Fetch t) lists store history is runs safe = safe_fetched t.stage t.name t.uid store history lists is runs safe
safe_answered t lists store history is runs safe = tt
