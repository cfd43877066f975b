use Rattle.std.proofs.Common.{List, sym, subst}
use Rattle.list_machine.specs.Run.{RunEvent}
use Rattle.serving.specs.OwnWork.{HasWorked}
use Rattle.serving.specs.Taken.{ClaimsTaken}
use Rattle.serving.proofs.TakenLemmas.{taken_in_use}
use Rattle.serving.proofs.laws.taken_files_are_in_use.Goals as goal

pub returns : goal.returns
returns g c = λ claims start script run journal broken replies began now lanes store file s have adds take numbered is.
    taken_in_use HasWorked claims start script run journal broken replies began now lanes store file s have adds
    (λ work request place said stands. subst (λ (own : List RunEvent). ClaimsTaken own (claims work)) (sym stands.0) (take work)) numbered is
