-- Two tasks that take turns stay ready, as long as the store runs.
use Rattle.std.proofs.Common.{◌≡◌, ◌≤◌, ◌+◌, ℕ, Bool, true, false, Option, refl, sym, ◌∙◌, subst, arith}
use Rattle.disk_model.specs.Disk.{History}
use Rattle.mail_ops.specs.Claims.{copy_claims, expunge_claims, make_claims, move_claims}
use Rattle.mail_ops.specs.Copy.{copy_dues}
use Rattle.mail_ops.specs.Expunging.{expunge_dues}
use Rattle.mail_ops.specs.Making.{IsReadyToMake}
use Rattle.mail_ops.specs.Moving.{move_dues}
use Rattle.mail_ops.specs.declared.copy.CopyStage.{CopyStage}
use Rattle.mail_ops.specs.declared.copy.CopyStage.TheVariants as copy_stage
use Rattle.mail_ops.specs.declared.expunging.ExpungeStage.{ExpungeStage}
use Rattle.mail_ops.specs.declared.expunging.ExpungeStage.TheVariants as expunge_stage
use Rattle.mail_ops.specs.declared.making.MakeStage.{MakeStage}
use Rattle.mail_ops.specs.declared.making.MakeStage.TheVariants as make_stage
use Rattle.mail_ops.specs.declared.moving.MoveStage.{MoveStage}
use Rattle.mail_ops.specs.declared.moving.MoveStage.TheVariants as move_stage
use Rattle.mail_ops.proofs.MakeClaimLemmas.{first_claims_nothing}
use Rattle.mail_ops.proofs.StableLemmas.{copy_stable, expunge_stable, make_stable, move_stable}
use Rattle.store_core.specs.Value.{StoreValue}
use Rattle.task_claims.specs.Claims.{AreIn, Claims, ClaimsNothing, MovesClaims, Thing, amount_in, both_claims}
use Rattle.task_claims.specs.Leaving.{LeavesOthers}
use Rattle.task_claims.specs.Stable.{Beside}
use Rattle.task_claims.proofs.RestLemmas.{none_claimed_of}
use Rattle.tests.specs.Makes.{AreReadyMakes}
use Rattle.tests.specs.Tasks.{AreReadyTasks, HasNotStarted, IsReadyRacer, racer_claims}
use Rattle.tests.specs.declared.tasks.race.AnyTask.{AnyTask}
use Rattle.tests.specs.declared.tasks.race.AnyTask.TheVariants as any

-- a store that runs then ran before, if one that is stopped stays so
pub was_running : (old new : Bool) → (old ≡ true → new ≡ true) → new ≡ false → old ≡ false
was_running true new still runs = sym (still refl) ∙ runs
was_running false new still runs = refl

-- ---- claims

flipped : (a b all : ℕ) → a + b ≤ all → b + a ≤ all
flipped a b all e = omega (arith, e)

within : (mine mine_now other all all_now : ℕ) → all_now + mine ≡ all + mine_now → mine + other ≤ all → mine_now + other ≤ all_now
within mine mine_now other all all_now moved due = omega (arith, moved, due)

none_of_both : (a b all : ℕ) → a ≡ 0 → b ≡ 0 → a + b ≤ all
none_of_both a b all x y = omega (arith, x, y)

claimed_then : {D : Type 0} → (mine mine_now theirs : Claims) (old new : StoreValue D) → MovesClaims mine mine_now old new → AreIn old (both_claims mine theirs) → AreIn new (both_claims mine_now theirs)
claimed_then mine mine_now theirs old new moves are thing = within (mine thing) (mine_now thing) (theirs thing) (amount_in thing old) (amount_in thing new) (moves thing) (are thing)

other_way : {D : Type 0} → (mine theirs : Claims) (store : StoreValue D) → AreIn store (both_claims mine theirs) → AreIn store (both_claims theirs mine)
other_way mine theirs store are thing = flipped (mine thing) (theirs thing) (amount_in thing store) (are thing)

pub both_in : {D : Type 0} → (mine theirs : Claims) (store : StoreValue D) → ClaimsNothing mine → ClaimsNothing theirs → AreIn store (both_claims mine theirs)
both_in mine theirs store a b thing = none_of_both (mine thing) (theirs thing) (amount_in thing store) (a thing) (b thing)

-- a task that hasn't started claims nothing
pub unstarted_claims : (task : AnyTask) → HasNotStarted task → ClaimsNothing (racer_claims task)
unstarted_claims (any.Copy task) first = subst (λ (s : CopyStage). ClaimsNothing (copy_claims s)) (sym first) (none_claimed_of (copy_dues copy_stage.First) (λ uid. refl))
unstarted_claims (any.Move task) first = subst (λ (s : MoveStage). ClaimsNothing (move_claims s)) (sym first) (none_claimed_of (move_dues move_stage.First) (λ uid. refl))
unstarted_claims (any.Expunge task) first = subst (λ (s : ExpungeStage). ClaimsNothing (expunge_claims s)) (sym first) (none_claimed_of (expunge_dues expunge_stage.First) (λ uid. refl))

-- ---- the task beside one that goes on

racer_stays : {D : Type 0} → (other : AnyTask) (old new : StoreValue D) (before after : Option History) → Beside (racer_claims other) old new before after → IsReadyRacer other old → IsReadyRacer other new
racer_stays (any.Copy t) old new before after b ready = copy_stable t.name t.uid t.stage old new before after b ready
racer_stays (any.Move t) old new before after b ready = move_stable t.name t.uid t.stage old new before after b ready
racer_stays (any.Expunge t) old new before after b ready = expunge_stable t.stage old new before after b ready

pub one_goes : {D : Type 0} → (one now two : AnyTask) (old new : StoreValue D) (before after : Option History) → IsReadyRacer now new → MovesClaims (racer_claims one) (racer_claims now) old new → LeavesOthers (racer_claims one) old new before after → AreReadyTasks one two old → AreReadyTasks now two new
one_goes one now two old new before after ready moves leaves was = record {
  one_ready = ready;
  two_ready = racer_stays two old new before after (record { mine = racer_claims one; mine_now = racer_claims now; moves = moves; leaves = leaves; are = was.claimed }) was.two_ready;
  claimed = claimed_then (racer_claims one) (racer_claims now) (racer_claims two) old new moves was.claimed;
}

pub two_goes : {D : Type 0} → (one two now : AnyTask) (old new : StoreValue D) (before after : Option History) → IsReadyRacer now new → MovesClaims (racer_claims two) (racer_claims now) old new → LeavesOthers (racer_claims two) old new before after → AreReadyTasks one two old → AreReadyTasks one now new
two_goes one two now old new before after ready moves leaves was =
    let are = other_way (racer_claims one) (racer_claims two) old was.claimed in record {
      one_ready = racer_stays one old new before after (record { mine = racer_claims two; mine_now = racer_claims now; moves = moves; leaves = leaves; are = are }) was.one_ready;
      two_ready = ready;
      claimed = other_way (racer_claims now) (racer_claims one) new (claimed_then (racer_claims two) (racer_claims now) (racer_claims one) old new moves are);
    }

pub both_unmade : {D : Type 0} → (store : StoreValue D) → AreReadyMakes make_stage.First make_stage.First store
both_unmade store = record { one_ready = tt; two_ready = tt; claimed = both_in (make_claims make_stage.First) (make_claims make_stage.First) store first_claims_nothing first_claims_nothing }

pub one_makes : {D : Type 0} → (one now two : MakeStage) (old new : StoreValue D) (before after : Option History) → IsReadyToMake now new → MovesClaims (make_claims one) (make_claims now) old new → LeavesOthers (make_claims one) old new before after → AreReadyMakes one two old → AreReadyMakes now two new
one_makes one now two old new before after ready moves leaves was = record {
  one_ready = ready;
  two_ready = make_stable two old new before after (record { mine = make_claims one; mine_now = make_claims now; moves = moves; leaves = leaves; are = was.claimed }) was.two_ready;
  claimed = claimed_then (make_claims one) (make_claims now) (make_claims two) old new moves was.claimed;
}

pub two_makes : {D : Type 0} → (one two now : MakeStage) (old new : StoreValue D) (before after : Option History) → IsReadyToMake now new → MovesClaims (make_claims two) (make_claims now) old new → LeavesOthers (make_claims two) old new before after → AreReadyMakes one two old → AreReadyMakes one now new
two_makes one two now old new before after ready moves leaves was =
    let are = other_way (make_claims one) (make_claims two) old was.claimed in record {
      one_ready = make_stable one old new before after (record { mine = make_claims two; mine_now = make_claims now; moves = moves; leaves = leaves; are = are }) was.one_ready;
      two_ready = ready;
      claimed = other_way (make_claims now) (make_claims one) new (claimed_then (make_claims two) (make_claims now) (make_claims one) old new moves are);
    }
