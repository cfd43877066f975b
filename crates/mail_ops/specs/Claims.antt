-- What the tasks of requests on mailboxes claim of a store. Listings, counts and those that set flags or keywords claim nothing.
use Rattle.std.specs.Prelude.{◌==◌, ℕ}
use Rattle.task_claims.specs.Claims.{Claims, Made, claims_of_dues, one_if}
use Rattle.mail_ops.specs.Copy.{copy_dues}
use Rattle.mail_ops.specs.Expunging.{expunge_dues}
use Rattle.mail_ops.specs.Moving.{move_dues}
use Rattle.mail_ops.specs.declared.copy.CopyStage.{CopyStage}
use Rattle.mail_ops.specs.declared.expunging.ExpungeStage.{ExpungeStage}
use Rattle.mail_ops.specs.declared.making.MakeStage.{MakeStage}
use Rattle.mail_ops.specs.declared.making.MakeStage.TheVariants as make_stage
use Rattle.mail_ops.specs.declared.moving.MoveStage.{MoveStage}

-- what they hold and owe of records
abbrev pub copy_claims : CopyStage → Claims
copy_claims now = claims_of_dues (copy_dues now)

abbrev pub expunge_claims : ExpungeStage → Claims
expunge_claims now = claims_of_dues (expunge_dues now)

abbrev pub move_claims : MoveStage → Claims
move_claims now = claims_of_dues (move_dues now)

-- the log that a make has made
abbrev pub own_log_of : MakeStage → ℕ → ℕ
own_log_of make_stage.First number = 0
own_log_of (make_stage.Naming own) number = one_if (own.0 == number)

abbrev pub make_claims : MakeStage → Claims
make_claims now (Made number) = own_log_of now number
make_claims now thing = 0
