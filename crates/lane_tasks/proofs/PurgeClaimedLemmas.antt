-- A storage file that a purge claims to have taken, or drew as a target, is one that its events took and haven't given back.
use Rattle.lane_tasks.proofs.Common.{◌≡◌, ◌==◌, ◌<◌, ◌+◌, ℕ, suc, Bool, true, false, List, [], ◌∷◌, map, Option, Some, None, refl, sym, ◌∙◌, ap, subst, arith, inl, inr, ◌≤◌, ◌≢◌, ◌⊎◌, ◌||◌, All, drop, flat_map, is_none, list_any, option_map_or, All-cons, All-head, All-nil}
use Rattle.lane_tasks.proofs.Common.{All-tail, list_any-append, sum_by-cons, FileNo, Refusal, Reply, Run, RunEvent, TakenFile, is_one_of, own_events, is_done, gave_back, is_storing, took_file, StoreValue, Emptied, Taken, claims_of_sources, claims_of_switched, claims_of_target, purge_claims}
use Rattle.lane_tasks.proofs.Common.{sources_left, PurgeValue, IsAtPurgeStage, PurgeStage, Source}
use Rattle.std.specs.Prelude.{◌++◌, AllPairs, Contains}
use Rattle.std.specs.Option.{option_or, option_map}
use Rattle.std.proofs.lemmas.List.Elements.{All-contains, All-weaker, All-map, All-append}
use Rattle.std.proofs.lemmas.Bool.{or_from, and_left, and_right, ne_eqb, eq-eqb, or_cases, or_parts, and_from, eqb-true, or_left, or_right}
use Rattle.std.proofs.lemmas.Map.Keys.{any_passes_from_place}
use Rattle.std.proofs.lemmas.Option.{slice_get-map, slice_get-get_or}
use Rattle.std.proofs.lemmas.List.Folds.{list_any_none}
use Rattle.model_octets.proofs.PairLemmas.{pairs_head, pairs_tail}
use Rattle.journal.specs.Events.{last_refusal}
use Rattle.purge_task.specs.Stages.{HaveTaken, IsAtSwitched, told_taken}
use Rattle.purge_task.specs.declared.task.PurgeStage.TheVariants as stage
use Rattle.lane_tasks.proofs.PurgeApartLemmas.{all_of_map}
use Rattle.lane_tasks.specs.Tasks.{DoomsWithin, IsTakenWithin, TookApart}
use Rattle.lane_tasks.proofs.PurgeTakenLemmas.{counted, is_gone, is_of, is_target_done}

-- ---- tests

none_refused : (a b : Option Refusal) → option_or a b ≡ None → (a ≡ None) × (b ≡ None)
none_refused None b e = (refl, e)
none_refused (Some why) b e = absurd (let z : Some why ≡ None = e in cc z)

-- ---- which of its files it is

-- one of these files passes the test
record Passes (p : Source → Bool) (left : List Source) : Type 0 where
  source : Source
  among : Contains left source
  passes : p source ≡ true

among_more : (p : Source → Bool) (s : Source) (left : List Source) → Passes p left → Passes p (s ∷ left)
among_more p s left h = let c = h.among in let l = c.1 in record { source = h.source; among = (suc c.0, omega (arith, l), c.2); passes = h.passes }

counted_passes : (p : Source → Bool) (once : Source → ℕ) → ((s : Source) → once s ≡ counted (p s)) → (count : List Source → ℕ) → count [] ≡ 0 → ((s : Source) (left : List Source) → count (s ∷ left) ≡ once s + count left) → (left : List Source) → 1 ≤ count left → Passes p left
counted_passes p once is count none more [] some = absurd (omega (arith, none, some))
counted_passes p once is count none more (s ∷ left) some = by_test (p s) refl (λ n. counted_passes p once is count none more left n)
  where
    by_test : (b : Bool) → p s ≡ b → (1 ≤ count left → Passes p left) → Passes p (s ∷ left)
    by_test true e rest = record { source = s; among = (0, omega arith, refl); passes = e }
    by_test false e rest =
        let sum = more s left in
        let zero_here : once s ≡ 0 = is s ∙ ap counted e in
        among_more p s left (rest (omega (arith, some, sum, zero_here)))

abbrev is_source : ℕ → Source → Bool
is_source file s = s.file.0 == file

abbrev is_target : ℕ → Source → Bool
is_target file s = option_map_or (λ (t : FileNo). t.0 == file) s.target false

emptied_passes : (file : ℕ) (left : List Source) → 1 ≤ claims_of_sources left (Emptied file) → Passes (is_source file) left
emptied_passes file left some = counted_passes (is_source file) (λ s. counted (is_source file s)) (λ s. refl) (λ ss. claims_of_sources ss (Emptied file)) refl (λ s ss. sum_by-cons (λ (x : Source). counted (is_source file x)) s ss) left some

taken_passes : (file : ℕ) (left : List Source) → 1 ≤ claims_of_sources left (Taken file) → Passes (is_target file) left
taken_passes file left some = counted_passes (is_target file) (λ s. counted (is_target file s)) (λ s. refl) (λ ss. claims_of_sources ss (Taken file)) refl (λ s ss. sum_by-cons (λ (x : Source). counted (is_target file x)) s ss) left some

target_told : (file : ℕ) (o : Option FileNo) → option_map_or (λ (t : FileNo). t.0 == file) o false ≡ true → option_map_or (λ (t : FileNo). t.0) o 0 ≡ file
target_told file None e = absurd (let z : false ≡ true = e in cc z)
target_told file (Some target) e = eqb-true target.0 file e

-- ---- it was taken

told_any : (q : TakenFile → Bool) (left : List Source) (s : Source) → q (told_taken s) ≡ true → Contains left s → list_any q (map told_taken left) ≡ true
told_any q left s passes c = any_passes_from_place q (map told_taken left) c.0 (told_taken s) (slice_get-map told_taken left c.0 ∙ ap (option_map told_taken) (slice_get-get_or left c.0 s c.1 ∙ ap (λ (x : Source). Some x) c.2)) passes

any_behind : (q : TakenFile → Bool) (done left : List Source) → list_any q (map told_taken left) ≡ true → list_any q (map told_taken (done ++ left)) ≡ true
any_behind q [] left is = is
any_behind q (d ∷ done) left is = or_right (q (told_taken d)) _ (any_behind q done left is)

event_took : (file : ℕ) (own : List RunEvent) → last_refusal own ≡ None → list_any (is_of file) (flat_map (λ (e : RunEvent). e.files) own) ≡ true → list_any (took_file file) own ≡ true
event_took file [] unrefused is = is
event_took file (x ∷ own) unrefused is =
    let both = none_refused (last_refusal own) x.refused unrefused in
    elim (or_cases (list_any (is_of file) x.files) (list_any (is_of file) (flat_map (λ (e : RunEvent). e.files) own)) (sym (list_any-append (is_of file) x.files (flat_map (λ (e : RunEvent). e.files) own)) ∙ is)) [
      | inl here ↦ or_left (took_file file x) _ (and_from (is_none x.refused) (list_any (is_of file) x.files) (ap is_none both.1) here)
      | inr later ↦ or_right (took_file file x) _ (event_took file own both.0 later)
    ]

-- ---- it wasn't given back

unended : (most : ℕ) (file : ℕ) (own : List RunEvent) → All (DoomsWithin most) own → list_any (is_gone file) own ≡ false → list_any (λ (e : RunEvent). is_storing e.part || is_gone file e) own ≡ false
unended most file [] all none = refl
unended most file (x ∷ own) all none =
    let here = All-head (DoomsWithin most) x own all in
    let parts = or_parts (is_gone file x) (list_any (is_gone file) own) none in
    or_from (is_storing x.part || is_gone file x) (list_any (λ (e : RunEvent). is_storing e.part || is_gone file e) own) (or_from (is_storing x.part) (is_gone file x) here.0 parts.0) (unended most file own (All-tail (DoomsWithin most) x own all) parts.1)

none_above : (most file : ℕ) (files : List ℕ) → most < file → All (λ n. n ≤ most) files → is_one_of files file ≡ false
none_above most file files above all = list_any_none (λ f. f == file) files (All-weaker (λ n. n ≤ most) (λ f. (f == file) ≡ false) (λ f within. ne_eqb f file (λ e. absurd (omega (arith, e, within, above)))) files all)

none_gone_above : (most file : ℕ) (own : List RunEvent) → most < file → All (DoomsWithin most) own → list_any (is_gone file) own ≡ false
none_gone_above most file own above all = list_any_none (is_gone file) own (All-weaker (DoomsWithin most) (λ event. is_gone file event ≡ false)
    (λ event here. or_from (is_one_of event.doomed file) (is_one_of event.removed file) (none_above most file event.doomed above here.1) (none_above most file event.removed above here.2)) own all)

-- what holds of all that was taken holds of each that is left
of_left : (P : TakenFile → Type 0) (done left : List Source) (s : Source) → All P (map told_taken (done ++ left)) → Contains left s → P (told_taken s)
of_left P [] left s all c = All-contains (λ x. P (told_taken x)) left s (all_of_map P told_taken left all) c
of_left P (d ∷ done) left s all c = of_left P done left s (All-tail P (told_taken d) (map told_taken (done ++ left)) all) c

abbrev AreTargetsApart : TakenFile → TakenFile → Type 0
AreTargetsApart a b = (a.target ≡ 0) ⊎ (a.target ≢ b.target)

-- a test that neither those that are done pass nor those that aren't
none_passes : (q : TakenFile → Bool) (done left : List Source) → All (λ s. q (told_taken s) ≡ false) done → All (λ s. q (told_taken s) ≡ false) left → list_any q (map told_taken (done ++ left)) ≡ false
none_passes q done left no_done no_left = list_any_none q (map told_taken (done ++ left)) (All-map (λ t. q t ≡ false) told_taken (done ++ left) (All-append (λ s. q (told_taken s) ≡ false) done left no_done no_left))

-- a target of one that is done is neither a file that was taken, nor another's target
source_apart : (most file : ℕ) (own : List RunEvent) (done left : List Source) → 1 ≤ file → file ≤ most → All (IsTakenWithin most) (map told_taken (done ++ left)) → All (λ d. is_target_done file own (told_taken d) ≡ false) done
source_apart most file own [] left some within all = All-nil (λ (d : Source). is_target_done file own (told_taken d) ≡ false)
source_apart most file own (d ∷ done) left some within all =
    All-cons (λ (d : Source). is_target_done file own (told_taken d) ≡ false) d done (by_target (All-head (IsTakenWithin most) (told_taken d) (map told_taken (done ++ left)) all).1) (source_apart most file own done left some within (All-tail (IsTakenWithin most) (told_taken d) (map told_taken (done ++ left)) all))
  where
    by_target : ((told_taken d).target ≡ 0) ⊎ (most < (told_taken d).target) → is_target_done file own (told_taken d) ≡ false
    by_target (inl none) = and_left ((told_taken d).target == file) (is_done own (told_taken d)) (ne_eqb (told_taken d).target file (λ e. absurd (omega (arith, e, none, some))))
    by_target (inr above) = and_left ((told_taken d).target == file) (is_done own (told_taken d)) (ne_eqb (told_taken d).target file (λ e. absurd (omega (arith, e, above, within))))

target_apart : (file : ℕ) (own : List RunEvent) (done left : List Source) (s : Source) → 1 ≤ file → (told_taken s).target ≡ file → AllPairs AreTargetsApart (map told_taken (done ++ left)) → Contains left s → All (λ d. is_target_done file own (told_taken d) ≡ false) done
target_apart file own [] left s some is pairs c = All-nil (λ (d : Source). is_target_done file own (told_taken d) ≡ false)
target_apart file own (d ∷ done) left s some is pairs c =
    All-cons (λ (d : Source). is_target_done file own (told_taken d) ≡ false) d done (by_target (of_left (AreTargetsApart (told_taken d)) done left s (pairs_head AreTargetsApart (told_taken d) (map told_taken (done ++ left)) pairs) c))
    (target_apart file own done left s some is (pairs_tail AreTargetsApart (told_taken d) (map told_taken (done ++ left)) pairs) c)
  where
    by_target : AreTargetsApart (told_taken d) (told_taken s) → is_target_done file own (told_taken d) ≡ false
    by_target (inl none) = and_left ((told_taken d).target == file) (is_done own (told_taken d)) (ne_eqb (told_taken d).target file (λ e. absurd (omega (arith, e, none, some))))
    by_target (inr apart) = and_left ((told_taken d).target == file) (is_done own (told_taken d)) (ne_eqb (told_taken d).target file (λ e. absurd (apart (e ∙ sym is))))

left_undone : (file : ℕ) (own : List RunEvent) (left : List Source) → All (λ s. is_done own (told_taken s) ≡ false) left → All (λ s. is_target_done file own (told_taken s) ≡ false) left
left_undone file own = All-weaker (λ (s : Source). is_done own (told_taken s) ≡ false) (λ (s : Source). is_target_done file own (told_taken s) ≡ false) (λ s undone. and_right ((told_taken s).target == file) (is_done own (told_taken s)) undone)

-- ---- both

abbrev HasFile : ℕ → List RunEvent → Type 0
HasFile file own = (list_any (took_file file) own ≡ true) × (gave_back file own ≡ false)

has_file : (file : ℕ) (done left : List Source) (own : List RunEvent) (s : Source) → HaveTaken done left own → last_refusal own ≡ None → (took : TookApart own) → Contains left s → is_of file (told_taken s) ≡ true → list_any (is_gone file) own ≡ false → All (λ d. is_target_done file own (told_taken d) ≡ false) done → HasFile file own
has_file file done left own s h unrefused took c is gone apart = (
  event_took file own unrefused (subst (λ (ts : List TakenFile). list_any (is_of file) ts ≡ true) (sym h.taken) (any_behind (is_of file) done left (told_any (is_of file) left s is c))),
  or_from (list_any (λ (e : RunEvent). is_storing e.part || is_gone file e) own) (list_any (is_target_done file own) (flat_map (λ (e : RunEvent). e.files) own)) (unended took.most file own took.ended gone)
      (subst (λ (ts : List TakenFile). list_any (is_target_done file own) ts ≡ false) (sym h.taken) (none_passes (is_target_done file own) done left apart (left_undone file own left h.left_are))),
)

own_has : (file : ℕ) (done left : List Source) (own : List RunEvent) → HaveTaken done left own → last_refusal own ≡ None → TookApart own → 1 ≤ file → (1 ≤ claims_of_sources left (Taken file)) ⊎ (1 ≤ claims_of_sources left (Emptied file)) → HasFile file own
own_has file done left own h unrefused took some (inr emptied) =
    let p = emptied_passes file left emptied in
    let at : p.source.file.0 ≡ file = eqb-true p.source.file.0 file p.passes in
    let all = subst (λ (ts : List TakenFile). All (IsTakenWithin took.most) ts) h.taken took.files in
    let within : file ≤ took.most = subst (λ (n : ℕ). n ≤ took.most) at (of_left (IsTakenWithin took.most) done left p.source all p.among).0 in
    let gone : list_any (is_gone file) own ≡ false = subst (λ (n : ℕ). list_any (is_gone n) own ≡ false) at (All-contains (λ (s : Source). is_done own (told_taken s) ≡ false) left p.source h.left_are p.among) in
    has_file file done left own p.source h unrefused took p.among (or_left (p.source.file.0 == file) ((told_taken p.source).target == file) p.passes) gone (source_apart took.most file own done left some within all)
own_has file done left own h unrefused took some (inl taken) =
    let p = taken_passes file left taken in
    let at : (told_taken p.source).target ≡ file = target_told file p.source.target p.passes in
    let all = subst (λ (ts : List TakenFile). All (IsTakenWithin took.most) ts) h.taken took.files in
    let pairs = subst (λ (ts : List TakenFile). AllPairs AreTargetsApart ts) h.taken took.targets in
    by_above p at (of_left (IsTakenWithin took.most) done left p.source all p.among).1 pairs
  where
    by_above : (p : Passes (is_target file) left) → (told_taken p.source).target ≡ file → ((told_taken p.source).target ≡ 0) ⊎ (took.most < (told_taken p.source).target) → AllPairs AreTargetsApart (map told_taken (done ++ left)) → HasFile file own
    by_above p at (inl none) pairs = absurd (omega (arith, at, none, some))
    by_above p at (inr above) pairs =
        let over : took.most < file = subst (λ (n : ℕ). took.most < n) at above in
        has_file file done left own p.source h unrefused took p.among (or_right (p.source.file.0 == file) ((told_taken p.source).target == file) (eq-eqb (told_taken p.source).target file at)) (none_gone_above took.most file own over took.ended) (target_apart file own done left p.source some at pairs p.among)

-- ---- by stage

nothing : {X : Type 0} → (1 ≤ 0) ⊎ (1 ≤ 0) → X
nothing (inl n) = absurd (omega (arith, n))
nothing (inr n) = absurd (omega (arith, n))

either_less : (a b c d : ℕ) → b ≡ 0 → d ≡ 0 → (1 ≤ a + b) ⊎ (1 ≤ c + d) → (1 ≤ a) ⊎ (1 ≤ c)
either_less a b c d x y (inl n) = inl (omega (arith, x, n))
either_less a b c d x y (inr n) = inr (omega (arith, y, n))

target_takes : (left : List Source) (file : ℕ) → (claims_of_target left (Taken file) ≡ 0) × (claims_of_target left (Emptied file) ≡ 0)
target_takes [] file = (refl, refl)
target_takes (source ∷ left) file = (refl, refl)

switched_takes : (left : List Source) (file : ℕ) → (claims_of_switched left (Taken file) ≡ 0) × (claims_of_switched left (Emptied file) ≡ 0)
switched_takes [] file = (refl, refl)
switched_takes (source ∷ left) file = (refl, refl)

switched_has : {D : Type 0} → (t : PurgeValue) (sources : List Source) (store : StoreValue D) (run : Run) (place : ℕ) (said : List Reply) (file : ℕ) → IsAtSwitched t sources store run place said → TookApart (own_events place run) → 1 ≤ file
    → (1 ≤ claims_of_sources (drop 1 sources) (Taken file)) ⊎ (1 ≤ claims_of_sources (drop 1 sources) (Emptied file)) → HasFile file (own_events place run)
switched_has t [] store run place said file at took some claims = absurd at
switched_has t (source ∷ left) store run place said file at took some claims = own_has file (at.0 ++ source ∷ []) left (own_events place run) at.1.taken at.1.unrefused took some claims

pub purge_claimed : {D : Type 0} → (t : PurgeValue) (now : PurgeStage) (store : StoreValue D) (run : Run) (place : ℕ) (said : List Reply) (file : ℕ) → IsAtPurgeStage now t store run place said → TookApart (own_events place run) → 1 ≤ file
    → (1 ≤ purge_claims now (Taken file)) ⊎ (1 ≤ purge_claims now (Emptied file)) → HasFile file (own_events place run)
purge_claimed t stage.First store run place said file at took some claims = nothing claims
purge_claimed t (stage.Begin work) store run place said file at took some claims = own_has file at.0 (sources_left work) (own_events place run) at.1.taken at.1.unrefused took some claims
purge_claimed t (stage.Copying work) store run place said file at took some claims =
    let none = target_takes (sources_left work) file in
    own_has file at.0 (sources_left work) (own_events place run) at.1.taken at.1.unrefused took some
    (either_less (claims_of_sources (sources_left work) (Taken file)) (claims_of_target (sources_left work) (Taken file)) (claims_of_sources (sources_left work) (Emptied file)) (claims_of_target (sources_left work) (Emptied file)) none.0 none.1 claims)
purge_claimed t (stage.Removing work) store run place said file at took some claims =
    let none = switched_takes (sources_left work) file in
    switched_has t (sources_left work) store run place said file at took some
    (either_less (claims_of_sources (drop 1 (sources_left work)) (Taken file)) (claims_of_switched (sources_left work) (Taken file)) (claims_of_sources (drop 1 (sources_left work)) (Emptied file)) (claims_of_switched (sources_left work) (Emptied file)) none.0 none.1 claims)
purge_claimed t stage.Instances store run place said file at took some claims = nothing claims
