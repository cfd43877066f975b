-- What a task needs for its next event, beside events of other tasks.
use Rattle.std.specs.Prelude.{◌≡◌, Option}
use Rattle.disk_model.specs.Disk.{History}
use Rattle.mdbox_base.specs.declared.progress.Progress.{Progress}
use Rattle.mdbox_base.specs.declared.progress.Progress.TheVariants as progress
use Rattle.mdbox_base.specs.declared.replies.Reply.{Reply}
use Rattle.store_core.specs.Value.{StoreValue}
use Rattle.task_claims.specs.Claims.{AreIn, Claims, ClaimsNothing, MovesClaims, both_claims}
use Rattle.task_claims.specs.Leaving.{LeavesOthers}

-- What an event of a task that answers this does with claims, where these were its own before and behind it: it moves only them, and leaves
-- to other tasks what is theirs. A task that was replied claims nothing.
pub record MovesOwnClaims {D : Type 0} (mine now : Claims) (answer : Progress) (old new : StoreValue D) (before after : Option History) : Type 0 where
  pub moves : MovesClaims mine now old new
  pub leaves : LeavesOthers mine old new before after
  pub ended : (given : Reply) → answer ≡ progress.Done given → ClaimsNothing now

-- An event of a task, by which its claims become others, beside a task that claims this: it moves only its own claims, and leaves to
-- the others what is theirs. Both tasks' claims are among those that the store knows of.
pub record Beside {D : Type 0} (theirs : Claims) (old new : StoreValue D) (before after : Option History) : Type 0 where
  pub mine : Claims
  pub mine_now : Claims
  pub moves : MovesClaims mine mine_now old new
  pub leaves : LeavesOthers mine old new before after
  pub are : AreIn old (both_claims mine theirs)

-- If a task that claims this is ready for its next event, it stays so beside each event of any other task that goes on as `Beside` says.
abbrev pub IsStable : {D : Type 0} → Claims → (StoreValue D → Option History → Type 0) → Type 0
IsStable theirs Ready = (old new : StoreValue _) (before after : Option History) → Beside theirs old new before after → Ready old before → Ready new after
