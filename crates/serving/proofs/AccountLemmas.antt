-- Lanes account for a store as one of them makes an event.
use Rattle.std.proofs.Common.{◌≡◌, ◌<◌, ℕ, zero, suc, List, [], ◌∷◌, map, length, slice_set, slice_index_or, Option, Some, None, refl, sym, ◌∙◌, ap, subst, arith, inl, inr}
use Rattle.std.specs.Prelude.{◌≢◌, ◌⊎◌, slice_get}
use Rattle.disk_model.specs.Disk.{History}
use Rattle.store_core.specs.Value.{StoreValue}
use Rattle.task_claims.specs.Claims.{AddsUp, AreIn, Claims, MovesClaims, both_claims, no_claims}
use Rattle.task_claims.specs.Leaving.{LeavesOthers}
use Rattle.task_claims.specs.Stable.{Beside, IsStable}
use Rattle.task_claims.proofs.StayLemmas.{adds_up_on, two_are_in}
use Rattle.serving.specs.Accounts.{LanesAccount, IsReadyLane, lane_claims}
use Rattle.serving.specs.Lanes.{LaneValue}
use Rattle.serving.proofs.LaneLemmas.{get_set_other, get_set_same, nat_cases, one_some}

-- ---- a row of lanes, as a row of claims

all_claims : {T : Type 0} → (T → Claims) → List (LaneValue T) → List Claims
all_claims claims lanes = map (lane_claims claims) lanes

in_row : {T : Type 0} → (claims : T → Claims) (lanes : List (LaneValue T)) (k : ℕ) (value : LaneValue T) → slice_get lanes k ≡ Some value → k < length (map (lane_claims claims) lanes)
in_row claims [] k value there = absurd (let z : None ≡ Some value = there in cc z)
in_row claims (a ∷ more) zero value there = omega arith
in_row claims (a ∷ more) (suc k) value there = let h = in_row claims more k value there in omega (arith, h)

of_row : {T : Type 0} → (claims : T → Claims) (lanes : List (LaneValue T)) (k : ℕ) (value : LaneValue T) → slice_get lanes k ≡ Some value → slice_index_or (map (lane_claims claims) lanes) k no_claims ≡ lane_claims claims value
of_row claims [] k value there = absurd (let z : None ≡ Some value = there in cc z)
of_row claims (a ∷ more) zero value there = ap (lane_claims claims) (one_some a value there)
of_row claims (a ∷ more) (suc k) value there = of_row claims more k value there

set_row : {T : Type 0} → (claims : T → Claims) (lanes : List (LaneValue T)) (k : ℕ) (now : LaneValue T) → map (lane_claims claims) (slice_set lanes k now) ≡ slice_set (map (lane_claims claims) lanes) k (lane_claims claims now)
set_row claims [] k now = refl
set_row claims (a ∷ more) zero now = refl
set_row claims (a ∷ more) (suc k) now = ap (λ (cs : List Claims). lane_claims claims a ∷ cs) (set_row claims more k now)

-- ---- two lanes

-- What an event of one lane is to the task of another one.
pub lane_beside : {T D : Type 0} → (claims : T → Claims) (lanes : List (LaneValue T)) (k j : ℕ) (value other : LaneValue T) (mine_now : Claims) (old new : StoreValue D) (before after : Option History) → AddsUp old (map (lane_claims claims) lanes)
    → slice_get lanes k ≡ Some value → slice_get lanes j ≡ Some other → k ≢ j → MovesClaims (lane_claims claims value) mine_now old new → LeavesOthers (lane_claims claims value) old new before after → Beside (lane_claims claims other) old new before after
lane_beside claims lanes k j value other mine_now old new before after adds first second apart moves leaves = record {
  mine = lane_claims claims value;
  mine_now = mine_now;
  moves = moves;
  leaves = leaves;
  are = subst (λ (c : Claims). AreIn old (both_claims c (lane_claims claims other))) (of_row claims lanes k value first)
      (subst (λ (c : Claims). AreIn old (both_claims (slice_index_or (map (lane_claims claims) lanes) k no_claims) c)) (of_row claims lanes j other second)
      (two_are_in (map (lane_claims claims) lanes) k j no_claims old (in_row claims lanes k value first) (in_row claims lanes j other second) apart adds));
}

pub task_beside : {T D : Type 0} → (claims : T → Claims) (other : LaneValue T) (task : T) (old new : StoreValue D) (before after : Option History) → other.task ≡ Some task → Beside (lane_claims claims other) old new before after → Beside (claims task) old new before after
task_beside claims other task old new before after is b = subst (λ (o : Option _). Beside (lane_claims claims (record other { task = o })) old new before after) is b

-- ---- an event

pub accounted_on : {T D : Type 0} → (claims : T → Claims) (Ready : T → StoreValue D → Option History → Type 0) → ((task : T) → IsStable (claims task) (Ready task)) → (lanes : List (LaneValue T)) (k : ℕ) (value now : LaneValue T) (old new : StoreValue D) (before after : Option History)
    → slice_get lanes k ≡ Some value → MovesClaims (lane_claims claims value) (lane_claims claims now) old new → LeavesOthers (lane_claims claims value) old new before after → IsReadyLane Ready now new after
    → LanesAccount claims Ready old before lanes → LanesAccount claims Ready new after (slice_set lanes k now)
accounted_on claims Ready stable lanes k value now old new before after there moves leaves ready all = record {
  adds_up = subst (λ (cs : List Claims). AddsUp new cs) (sym (set_row claims lanes k now))
      (adds_up_on (map (lane_claims claims) lanes) k no_claims (lane_claims claims now) old new (in_row claims lanes k value there)
      (subst (λ (c : Claims). MovesClaims c (lane_claims claims now) old new) (sym (of_row claims lanes k value there)) moves) all.adds_up);
  ready = λ j other is. by_case j other is (nat_cases k j);
}
  where
    by_case : (j : ℕ) (other : LaneValue _) → slice_get (slice_set lanes k now) j ≡ Some other → (k ≡ j) ⊎ (k ≢ j) → IsReadyLane Ready other new after
    by_case j other is (inl e) = subst (λ (v : LaneValue _). IsReadyLane Ready v new after) (one_some now other (sym (get_set_same lanes k now value there) ∙ (ap (λ (n : ℕ). slice_get (slice_set lanes k now) n) e ∙ is))) ready
    by_case j other is (inr apart) =
        let was = sym (get_set_other lanes k j now apart) ∙ is in
        λ task has. stable task old new before after (task_beside claims other task old new before after has (lane_beside claims lanes k j value other (lane_claims claims now) old new before after all.adds_up there was apart moves leaves)) (all.ready j other was task has)
