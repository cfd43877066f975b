use Rattle.std.proofs.lemmas.List.Elements.{All-weaker}
use Rattle.model_store.specs.Stands.{StoresMessage}
use Rattle.model_taken.specs.Taken.{TakenMessage, record_for}
use Rattle.model_taken.proofs.GoodListLemmas.{IsStored}
use Rattle.model_taken.proofs.GoodRebuildLemmas.{rebuild_good}
use Rattle.model_taken.proofs.laws.taken_messages_are_stored.Goals as goal

pub returns-clause-stored : goal.returns-clause-stored
returns-clause-stored c files taken skipped r =
    All-weaker (IsStored files) (λ (t : TakenMessage). StoresMessage files (record_for 1 t) t.octets) (λ t s. s.stores 1) taken (rebuild_good files taken skipped r).stored

pub returns-clause-guids : goal.returns-clause-guids
returns-clause-guids c files taken skipped r = (rebuild_good files taken skipped r).guids

pub returns-clause-apart : goal.returns-clause-apart
returns-clause-apart c files taken skipped r = (rebuild_good files taken skipped r).apart
