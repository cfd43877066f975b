use Rattle.mdbox_top.proofs.InOrderLemmas.{done_in_order}
use Rattle.mdbox_top.proofs.laws.exercises_are_done_in_order.Goals as goal

pub returns : goal.returns
returns g c = λ lanes count number held later old new began now ended done one most few lists shown begins room over. done_in_order lanes count number held later old new began now ended done one most few lists shown begins room over
