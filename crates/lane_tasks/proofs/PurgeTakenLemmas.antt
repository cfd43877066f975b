-- A storage file that a purge took, or drew as a target, and hasn't given back is claimed by it.
use Rattle.lane_tasks.proofs.Common.{◌≡◌, ◌==◌, ◌+◌, ℕ, Bool, true, false, cond, List, [], ◌∷◌, map, Option, Some, None, refl, sym, ◌∙◌, ap, subst, arith, inl, inr, ◌≤◌, ◌⊎◌, ◌||◌, ◌&&◌, All, drop, flat_map, is_none, list_any, option_map_or, All-head, All-tail, list_any-append}
use Rattle.lane_tasks.proofs.Common.{sum_by-cons, FileNo, Reply, RunEvent, Run, TakenFile, is_one_of, own_events, is_done, gave_back, is_storing, took_file, StoreValue, Emptied, Taken, claims_of_sources, claims_of_switched, claims_of_target, purge_claims, sources_left, PurgeValue, IsAtPurgeStage}
use Rattle.lane_tasks.proofs.Common.{PurgeStage, Source}
use Rattle.std.specs.Prelude.{◌++◌}
use Rattle.std.proofs.lemmas.Bool.{or_cases, or_parts, and_from, eqb-true, and_parts, or_left, or_right, both_ways}
use Rattle.purge_task.specs.Stages.{HaveTaken, IsAtSwitched, told_taken}
use Rattle.purge_task.specs.declared.task.PurgeStage.TheVariants as stage

-- ---- tests

-- ---- what was taken

-- the file is what was taken, or its target
abbrev pub is_of : ℕ → TakenFile → Bool
is_of file t = (t.file == file) || (t.target == file)

all_taken : (file : ℕ) (own : List RunEvent) → list_any (took_file file) own ≡ true → list_any (is_of file) (flat_map (λ (e : RunEvent). e.files) own) ≡ true
all_taken file [] is = absurd (let z : false ≡ true = is in cc z)
all_taken file (x ∷ own) is = elim (or_cases (took_file file x) (list_any (took_file file) own) is) [
  | inl took ↦ list_any-append (is_of file) x.files (flat_map (λ (e : RunEvent). e.files) own) ∙ or_left (list_any (is_of file) x.files) _ (and_parts (is_none x.refused) (list_any (is_of file) x.files) took).1
  | inr later ↦ list_any-append (is_of file) x.files (flat_map (λ (e : RunEvent). e.files) own) ∙ or_right (list_any (is_of file) x.files) _ (all_taken file own later)
]

-- ---- what was given back

abbrev pub is_gone : ℕ → RunEvent → Bool
is_gone file e = is_one_of e.doomed file || is_one_of e.removed file

abbrev pub is_target_done : ℕ → List RunEvent → TakenFile → Bool
is_target_done file own t = (t.target == file) && is_done own t

none_gone : (file : ℕ) (own : List RunEvent) → list_any (λ (e : RunEvent). is_storing e.part || is_gone file e) own ≡ false → list_any (is_gone file) own ≡ false
none_gone file [] none = refl
none_gone file (x ∷ own) none =
    let parts = or_parts (is_storing x.part || is_gone file x) (list_any (λ (e : RunEvent). is_storing e.part || is_gone file e) own) none in
    let first = or_parts (is_storing x.part) (is_gone file x) parts.0 in
    let rest = none_gone file own parts.1 in
    ap (λ (b : Bool). b || list_any (is_gone file) own) first.1 ∙ rest

first_back : (file : ℕ) (own : List RunEvent) (s : Source) → is_done own (told_taken s) ≡ true → list_any (is_gone file) own ≡ false → is_target_done file own (told_taken s) ≡ false → is_of file (told_taken s) ≡ true → ⊥
first_back file own s done gone apart is = elim (or_cases (s.file.0 == file) ((told_taken s).target == file) is) [
  | inl at ↦ both_ways (list_any (is_gone file) own) gone (subst (λ (n : ℕ). list_any (is_gone n) own ≡ true) (eqb-true s.file.0 file at) done)
  | inr at ↦ both_ways (is_target_done file own (told_taken s)) apart (and_from ((told_taken s).target == file) (is_done own (told_taken s)) at done)
]

-- a file that is done was given back, so it is one of the others
among_left : (file : ℕ) (own : List RunEvent) (done left : List Source) → All (λ source. is_done own (told_taken source) ≡ true) done → list_any (is_gone file) own ≡ false → list_any (is_target_done file own) (map told_taken (done ++ left)) ≡ false
    → list_any (is_of file) (map told_taken (done ++ left)) ≡ true → list_any (is_of file) (map told_taken left) ≡ true
among_left file own [] left are gone back is = is
among_left file own (s ∷ done) left are gone back is =
    let apart = or_parts (is_target_done file own (told_taken s)) (list_any (is_target_done file own) (map told_taken (done ++ left))) back in
    elim (or_cases (is_of file (told_taken s)) (list_any (is_of file) (map told_taken (done ++ left))) is) [
      | inl first ↦ absurd (first_back file own s (All-head (λ (source : Source). is_done own (told_taken source) ≡ true) s done are) gone apart.0 first)
      | inr later ↦ among_left file own done left (All-tail (λ (source : Source). is_done own (told_taken source) ≡ true) s done are) gone apart.1 later
    ]

-- ---- what is claimed

abbrev Claimed : List Source → ℕ → Type 0
Claimed left file = (1 ≤ claims_of_sources left (Taken file)) ⊎ (1 ≤ claims_of_sources left (Emptied file))

target_is : (file : ℕ) (o : Option FileNo) → 1 ≤ file → (option_map_or (λ (t : FileNo). t.0) o 0 == file) ≡ true → option_map_or (λ (t : FileNo). t.0 == file) o false ≡ true
target_is file None some at = absurd (let z = eqb-true 0 file at in omega (arith, z, some))
target_is file (Some target) some at = at

abbrev pub counted : Bool → ℕ
counted b = cond b 1 0

abbrev emptied_once : ℕ → Source → ℕ
emptied_once file s = counted (s.file.0 == file)

abbrev taken_once : ℕ → Source → ℕ
taken_once file s = counted (option_map_or (λ (t : FileNo). t.0 == file) s.target false)

once : (b : Bool) → b ≡ true → counted b ≡ 1
once true e = refl
once false e = absurd (let z : false ≡ true = e in cc z)

left_claimed : (file : ℕ) (left : List Source) → 1 ≤ file → list_any (is_of file) (map told_taken left) ≡ true → Claimed left file
left_claimed file [] some is = absurd (let z : false ≡ true = is in cc z)
left_claimed file (s ∷ left) some is = by_first (or_cases (is_of file (told_taken s)) (list_any (is_of file) (map told_taken left)) is) (λ later. left_claimed file left some later)
  where
    emptied : claims_of_sources (s ∷ left) (Emptied file) ≡ emptied_once file s + claims_of_sources left (Emptied file)
    emptied = sum_by-cons (emptied_once file) s left

    taken : claims_of_sources (s ∷ left) (Taken file) ≡ taken_once file s + claims_of_sources left (Taken file)
    taken = sum_by-cons (taken_once file) s left

    by_which : ((s.file.0 == file) ≡ true) ⊎ (((told_taken s).target == file) ≡ true) → Claimed (s ∷ left) file
    by_which (inl at) = let n : emptied_once file s ≡ 1 = once (s.file.0 == file) at in inr (omega (arith, emptied, n))
    by_which (inr at) = let n : taken_once file s ≡ 1 = once (option_map_or (λ (t : FileNo). t.0 == file) s.target false) (target_is file s.target some at) in inl (omega (arith, taken, n))

    by_rest : Claimed left file → Claimed (s ∷ left) file
    by_rest (inl n) = inl (omega (arith, taken, n))
    by_rest (inr n) = inr (omega (arith, emptied, n))

    by_first : (is_of file (told_taken s) ≡ true) ⊎ (list_any (is_of file) (map told_taken left) ≡ true) → (list_any (is_of file) (map told_taken left) ≡ true → Claimed left file) → Claimed (s ∷ left) file
    by_first (inl first) rest = by_which (or_cases (s.file.0 == file) ((told_taken s).target == file) first)
    by_first (inr later) rest = by_rest (rest later)

claimed : (file : ℕ) (done left : List Source) (own : List RunEvent) → HaveTaken done left own → 1 ≤ file → list_any (took_file file) own ≡ true → gave_back file own ≡ false → Claimed left file
claimed file done left own h some is back =
    let parts = or_parts (list_any (λ (e : RunEvent). is_storing e.part || is_gone file e) own) (list_any (is_target_done file own) (flat_map (λ (e : RunEvent). e.files) own)) back in
    left_claimed file left some (among_left file own done left h.done_are (none_gone file own parts.0)
    (subst (λ (ts : List TakenFile). list_any (is_target_done file own) ts ≡ false) h.taken parts.1)
    (subst (λ (ts : List TakenFile). list_any (is_of file) ts ≡ true) h.taken (all_taken file own is)))

-- ---- by stage

either_more : (a b c d : ℕ) → (1 ≤ a) ⊎ (1 ≤ c) → (1 ≤ a + b) ⊎ (1 ≤ c + d)
either_more a b c d (inl n) = inl (omega (arith, n))
either_more a b c d (inr n) = inr (omega (arith, n))

switched_claimed : {D : Type 0} → (t : PurgeValue) (sources : List Source) (store : StoreValue D) (run : Run) (place : ℕ) (said : List Reply) (file : ℕ) → IsAtSwitched t sources store run place said → 1 ≤ file → list_any (took_file file) (own_events place run) ≡ true → gave_back file (own_events place run) ≡ false
    → Claimed (drop 1 sources) file
switched_claimed t [] store run place said file at some is back = absurd at
switched_claimed t (source ∷ left) store run place said file at some is back = claimed file (at.0 ++ source ∷ []) left (own_events place run) at.1.taken some is back

pub purge_taken : {D : Type 0} → (t : PurgeValue) (now : PurgeStage) (store : StoreValue D) (run : Run) (place : ℕ) (said : List Reply) (file : ℕ) → IsAtPurgeStage now t store run place said → 1 ≤ file → list_any (took_file file) (own_events place run) ≡ true → gave_back file (own_events place run) ≡ false
    → (1 ≤ purge_claims now (Taken file)) ⊎ (1 ≤ purge_claims now (Emptied file))
purge_taken t stage.First store run place said file at some is back = absurd (let z : false ≡ true = sym (ap (list_any (took_file file)) at.0) ∙ is in cc z)
purge_taken t (stage.Begin work) store run place said file at some is back = claimed file at.0 (sources_left work) (own_events place run) at.1.taken some is back
purge_taken t (stage.Copying work) store run place said file at some is back =
    either_more (claims_of_sources (sources_left work) (Taken file)) (claims_of_target (sources_left work) (Taken file)) (claims_of_sources (sources_left work) (Emptied file)) (claims_of_target (sources_left work) (Emptied file))
    (claimed file at.0 (sources_left work) (own_events place run) at.1.taken some is back)
purge_taken t (stage.Removing work) store run place said file at some is back =
    either_more (claims_of_sources (drop 1 (sources_left work)) (Taken file)) (claims_of_switched (sources_left work) (Taken file)) (claims_of_sources (drop 1 (sources_left work)) (Emptied file)) (claims_of_switched (sources_left work) (Emptied file))
    (switched_claimed t (sources_left work) store run place said file at some is back)
purge_taken t stage.Instances store run place said file at some is back = claimed file at.0 [] (own_events place run) at.1.taken some is back
