use Rattle.mdbox_top.proofs.ExerciseLemmas.{all_done, requests_counted}
use Rattle.mdbox_top.proofs.laws.exercises_count_their_requests.Goals as goal

pub returns-clause-requests : goal.returns-clause-requests
returns-clause-requests g c = λ lanes count number held later old new began now ended done. requests_counted lanes count number held later old new began now ended done

pub returns-clause-done : goal.returns-clause-done
returns-clause-done g c = λ lanes count number held later old new began now done. all_done lanes count number held later old new began now done
