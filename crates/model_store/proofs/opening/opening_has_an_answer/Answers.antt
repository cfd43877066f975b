use Rattle.model_store.proofs.opening.opening_has_an_answer.Goals as goal
use Rattle.model_store.proofs.AnswerLemmas.{some_answer}

pub returns : goal.returns
returns c = some_answer
