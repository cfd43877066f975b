use Rattle.std.proofs.Common.{arith, sym, subst}
use Rattle.script_text.specs.Script.{IsForLanes}
use Rattle.vectors.proofs.scripts.tell_exercise.Goals as goal

pub push_script-requires : goal.push_script-requires
push_script-requires c = subst IsForLanes (sym c.in_ok-script.ensures) (c.made_scripts_fit.ensures c.in-Some.lanes c.in-Some.count c.in-Some.number (omega arith) (omega arith) (omega arith))
