-- Answers, refusals and parts that are told apart.
use Rattle.mail_ops.proofs.Common.{◌≡◌, true, Some, None, arith, nat_tests, common_steps, Refusal, Reply, EventPart, is_step}
use Rattle.mdbox_base.specs.declared.progress.Progress.TheVariants as progress
use Rattle.mdbox_base.specs.declared.replies.Refusal.TheVariants as refusal
use Rattle.mdbox_base.specs.declared.replies.Reply.TheVariants as reply

pub more_is : (given : Reply) → progress.More ≡ progress.Done given → ⊥
more_is given e = cc e

pub done_more : (given : Reply) → progress.Done given ≡ progress.More → ⊥
done_more given e = cc e

pub why_is : (a b : Refusal) → progress.Done (reply.Refused a) ≡ progress.Done (reply.Refused b) → a ≡ b
why_is a b e = grind (arith, common_steps, nat_tests)

pub some_part : (p : EventPart) → Some p ≡ None → ⊥
some_part p e = cc e

-- what is a step, and want of memory, doesn't stop a store
pub step_runs : (why : Refusal) → is_step why ≡ true → why ≡ refusal.Stopped → ⊥
step_runs why s e = grind (arith, common_steps, nat_tests)

pub memory_runs : refusal.NoMemory ≡ refusal.Stopped → ⊥
memory_runs e = cc e
