use Rattle.std.proofs.Common.{sym, ◌∙◌, ap}
use Rattle.rebuild_judge.specs.Kept.{is_hash_but}
use Rattle.rebuild_judge.proofs.hashes.has_other.Goals as goal

pub returns-in-Some : goal.returns-in-Some
returns-in-Some c = λ named are. c.ne.ensures ∙ (ap (is_hash_but c.args.reference.now.hash) (rw c.in-Some.is at c.get.ensures.value) ∙ sym (are c.args.reference.now))

pub returns-in-None : goal.returns-in-None
returns-in-None c = λ named are. sym (are c.args.reference.now ∙ ap (is_hash_but c.args.reference.now.hash) (sym (rw c.in-None.is at c.get.ensures.value)))
