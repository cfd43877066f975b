-- A copy, a move, an expunge and a make stay ready beside every event of every other task.
use Rattle.mail_ops.proofs.Common.{◌≡◌, ◌==◌, ℕ, List, refl, arith, eq-eqb, ap, Uid, copy_claims, expunge_claims, move_claims, expunge_amounts, IsReadyToMake, IsReadyToMove, AreDueIn, CopyStage, ExpungeStage, MakeStage, MoveStage}
use Rattle.task_claims.specs.Claims.{one_if}
use Rattle.task_claims.specs.Stable.{IsStable}
use Rattle.task_claims.proofs.LeftLemmas.{due_left, log_left}
use Rattle.mail_ops.specs.Claims.{make_claims}
use Rattle.mail_ops.specs.Copy.{IsReadyToCopy}
use Rattle.mail_ops.specs.declared.making.MakeStage.TheVariants as make_stage
use Rattle.mail_ops.proofs.ReadyLemmas.{moved_kept, source_kept}

pub copy_stable : {D : Type 0} → (name : List ℕ) (uid : Uid) (now : CopyStage) → IsStable {D = D} (copy_claims now) (λ store history. IsReadyToCopy name uid now store)
copy_stable name uid now old new before after b ready = record {
  due = λ other. due_left (copy_claims now) old new before after other b;
  source = source_kept name uid now old new b.leaves.uids ready.source;
}

pub move_stable : {D : Type 0} → (name : List ℕ) (uid : Uid) (now : MoveStage) → IsStable {D = D} (move_claims now) (λ store history. IsReadyToMove name uid now store)
move_stable name uid now old new before after b ready = record {
  due = λ other. due_left (move_claims now) old new before after other b;
  source = moved_kept name uid now old new b.leaves.uids ready.source;
}

pub expunge_stable : {D : Type 0} → (now : ExpungeStage) → IsStable {D = D} (expunge_claims now) (λ store history. AreDueIn store (expunge_amounts now))
expunge_stable now old new before after b ready = λ other. due_left (expunge_claims now) old new before after other b

pub make_stable : {D : Type 0} → (now : MakeStage) → IsStable {D = D} (make_claims now) (λ store history. IsReadyToMake now store)
make_stable make_stage.First old new before after b ready = tt
make_stable (make_stage.Naming number) old new before after b ready =
    log_left (make_claims (make_stage.Naming number)) old new before after number.0 b (let e : one_if (number.0 == number.0) ≡ 1 = ap one_if (eq-eqb number.0 number.0 refl) in omega (arith, e))
