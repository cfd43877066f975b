-- A storage file that an event of a delivery has taken, and that it hasn't given back, is claimed.
use Rattle.mail_save.proofs.Common.{◌≡◌, ◌≤◌, ◌==◌, ◌&&◌, ◌||◌, ℕ, Bool, true, false, List, [], ◌∷◌, ◌++◌, refl, sym, ◌∙◌, ap, append_assoc, arith, is_none, AllByRecursion, list_any, eq-eqb, ne_eqb, list_any-append, Run, RunEvent, is_one_of, own_events, InstRow, Reply, Taken, one_if, save_claims}
use Rattle.mail_save.proofs.Common.{IsAtSave, AreAttachedSoFar, HasAttached, SaveStage}
use Rattle.std.proofs.lemmas.Bool.{eqb-true}
use Rattle.journal.specs.Found.{gave_back, is_storing, took_file}
use Rattle.list_machine.specs.Run.{TakenFile}
use Rattle.mail_save.specs.SaveStages.{HasStored, TookFile}
use Rattle.mail_save.specs.declared.task.SaveStage.TheVariants as stage

and_no : (b : Bool) → (b && false) ≡ false
and_no true = refl
and_no false = refl

false_true : {X : Type 0} → (b : Bool) → b ≡ false → b ≡ true → X
false_true b f t = absurd (let k : false ≡ true = sym f ∙ t in cc k)

-- ---- events that took no file

bare : (file : ℕ) (e : RunEvent) → e.files ≡ [] → took_file file e ≡ false
bare file e none = ap (λ (ts : List TakenFile). is_none e.refused && list_any (λ t. (t.file == file) || (t.target == file)) ts) none ∙ and_no (is_none e.refused)

either : (a b : Bool) → a ≡ false → b ≡ false → (a || b) ≡ false
either true b f g = absurd (let k : true ≡ false = f in cc k)
either false b f g = g

attached_bare : (file : ℕ) (es : List RunEvent) → AllByRecursion HasAttached es → list_any (took_file file) es ≡ false
attached_bare file [] all = refl
attached_bare file (e ∷ es) all = either (took_file file e) (list_any (took_file file) es) (bare file e (ap (λ (x : RunEvent). x.files) all.0.did)) (attached_bare file es all.1)

front_bare : (file : ℕ) (rows : List InstRow) (own : List RunEvent) → AreAttachedSoFar rows own → list_any (took_file file) own ≡ false
front_bare file rows own a =
    ap (list_any (took_file file)) a.own_are ∙ either (took_file file a.first) (list_any (took_file file) a.more) (bare file a.first (ap (λ (x : RunEvent). x.files) a.laid.did)) (attached_bare file a.more a.attached)

-- ---- the one that took it

or_no : (b : Bool) → (b || false) ≡ b
or_no true = refl
or_no false = refl

and_true : (a b : Bool) → (a && b) ≡ true → b ≡ true
and_true true b e = e
and_true false b e = absurd (let k : false ≡ true = e in cc k)

took_one : (file taken : ℕ) (e : RunEvent) → 1 ≤ file → TookFile taken e → took_file file e ≡ true → taken ≡ file
took_one file taken e some t took =
    let files : e.files ≡ record { file = taken; target = 0 } ∷ [] = ap (λ (x : RunEvent). x.files) t.did in
    by_test (taken == file) refl (sym (or_no ((taken == file) || (0 == file))) ∙ (sym (ap (λ (ts : List TakenFile). list_any (λ x. (x.file == file) || (x.target == file)) ts) files) ∙ and_true (is_none e.refused) (list_any (λ x. (x.file == file) || (x.target == file)) e.files) took))
  where
    by_test : (s : Bool) → (taken == file) ≡ s → (s || (0 == file)) ≡ true → taken ≡ file
    by_test true e f = eqb-true taken file e
    by_test false e f = false_true (0 == file) (ne_eqb 0 file (λ z. omega (arith, z, some))) f

-- behind events that took none
then_took : (file taken : ℕ) (front : List RunEvent) (e : RunEvent) (later : List RunEvent) → 1 ≤ file → list_any (took_file file) front ≡ false → TookFile taken e → list_any (took_file file) later ≡ false → list_any (took_file file) (front ++ e ∷ later) ≡ true → taken ≡ file
then_took file taken front e later some none t after took =
    took_one file taken e some t (by_parts (list_any (took_file file) front) (took_file file e) (list_any (took_file file) later) none after (sym (list_any-append (took_file file) front (e ∷ later)) ∙ took))
  where
    by_parts : (a b c : Bool) → a ≡ false → c ≡ false → (a || (b || c)) ≡ true → b ≡ true
    by_parts true b c x y z = absurd (let k : true ≡ false = x in cc k)
    by_parts false true c x y z = refl
    by_parts false false c x y z = false_true c y z

claimed : (file taken : ℕ) → taken ≡ file → 1 ≤ one_if (taken == file)
claimed file taken same = let e : one_if (taken == file) ≡ 1 = ap one_if (eq-eqb taken file same) in omega (arith, e)

-- ---- one that stored the record has given it back

stored_gives : (file uid : ℕ) (front : List RunEvent) (e : RunEvent) (later : List RunEvent) → HasStored uid e → gave_back file (front ++ e ∷ later) ≡ true
stored_gives file uid front e later s =
    by_first _ _ (list_any-append Gives front (e ∷ later) ∙ by_parts (list_any Gives front) (Gives e) (list_any Gives later) (by_first (is_storing e.part) _ (ap is_storing s.part)))
  where
    Gives : RunEvent → Bool
    Gives x = is_storing x.part || (is_one_of x.doomed file || is_one_of x.removed file)

    by_first : (a b : Bool) → a ≡ true → (a || b) ≡ true
    by_first true b e = refl
    by_first false b e = absurd (let k : false ≡ true = e in cc k)

    by_parts : (a b c : Bool) → b ≡ true → (a || (b || c)) ≡ true
    by_parts true b c e = refl
    by_parts false true c e = refl
    by_parts false false c e = absurd (let k : false ≡ true = e in cc k)

-- ---- by stage

regroup : (front : List RunEvent) (a b : RunEvent) (later : List RunEvent) → front ++ a ∷ b ∷ later ≡ (front ++ a ∷ b ∷ []) ++ later
regroup front a b later = sym (append_assoc front (a ∷ b ∷ []) later)

pub taken_claimed : (now : SaveStage) (run : Run) (place : ℕ) (said : List Reply) (file : ℕ) → IsAtSave now run place said → 1 ≤ file → list_any (took_file file) (own_events place run) ≡ true → gave_back file (own_events place run) ≡ false → 1 ≤ save_claims now (Taken file)
taken_claimed (stage.First prepared) run place said file at some took kept = false_true (list_any (took_file file) (own_events place run)) (ap (list_any (took_file file)) at.0) took
taken_claimed (stage.Attaching parts attaching) run place said file at some took kept = false_true (list_any (took_file file) (own_events place run)) (front_bare file attaching.found (own_events place run) at.0) took
taken_claimed (stage.Taking parts) run place said file at some took kept = false_true (list_any (took_file file) (own_events place run)) (front_bare file parts.rows (own_events place run) at.0) took
taken_claimed (stage.Placing parts taken) run place said file at some took kept =
    let a = at.0 in
    claimed file taken.0 (then_took file taken.0 a.front a.second [] some (front_bare file parts.rows a.front a.attached) a.took refl (sym (ap (list_any (took_file file)) a.own_are) ∙ took))
taken_claimed (stage.Storing place_at rows room) run place said file at some took kept =
    let a = at.0 in
    claimed file place_at.file.0 (then_took file place_at.file.0 a.front a.second (a.third ∷ []) some (front_bare file rows a.front a.attached) a.took (ap (λ (b : Bool). b || false) (bare file a.third (ap (λ (x : RunEvent). x.files) a.placed.did))) (sym (ap (list_any (took_file file)) a.own_are) ∙ took))
taken_claimed (stage.Adding added room) run place said file at some took kept =
    let a = at.0 in
    let gave : gave_back file (a.front ++ a.second ∷ a.third ∷ a.fourth ∷ []) ≡ true = ap (gave_back file) (regroup a.front a.second a.third (a.fourth ∷ [])) ∙ stored_gives file added.map_uid.0 (a.front ++ a.second ∷ a.third ∷ []) a.fourth [] a.stored in
    false_true (gave_back file (own_events place run)) kept (ap (gave_back file) a.own_are ∙ gave)
taken_claimed (stage.GivingBack uid why room) run place said file at some took kept =
    let a = at.0 in
    let gave : gave_back file (a.front ++ a.second ∷ a.third ∷ a.fourth ∷ a.fifth ∷ []) ≡ true = ap (gave_back file) (regroup a.front a.second a.third (a.fourth ∷ a.fifth ∷ [])) ∙ stored_gives file uid.0 (a.front ++ a.second ∷ a.third ∷ []) a.fourth (a.fifth ∷ []) a.stored in
    false_true (gave_back file (own_events place run)) kept (ap (gave_back file) a.own_are ∙ gave)
taken_claimed stage.Ended run place said file at some took kept = absurd at
