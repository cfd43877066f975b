use Rattle.std.proofs.Common.{None, sym}
use Rattle.tests.proofs.instances.saving.remove_first.Goals as goal

pub remove_instance-requires-clause-unheld : goal.remove_instance-requires-clause-unheld
remove_instance-requires-clause-unheld c = (c.next_ones_are_known.ensures.unheld None c.in-Some.id c.args.instances.now.known c.known_facts.ensures.rising (sym c.in-Some.ensures)).1
