use Rattle.journal.proofs.ExampleLemmas.{first_is_legal, second_is_legal, third_is_legal, fourth_is_legal}
use Rattle.journal.proofs.ServedExampleLemmas.{second_is_served}
use Rattle.std.specs.Prelude.{refl}
use Rattle.journal.proofs.PurgeExampleLemmas.{purge_events, purge_found}
use Rattle.journal.proofs.examples.example_journals.Goals as goal

pub returns : goal.returns
returns c = record { first = first_is_legal; second = second_is_legal; third = third_is_legal; served = second_is_served; purge = fourth_is_legal; purge_events = purge_events; purge_found = purge_found; purge_takes = (refl, refl, refl, refl, refl); delivery_takes = (refl, refl, refl, refl) }
