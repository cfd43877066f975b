use Rattle.exercise_course.proofs.LegalLemmas.{all_ok, messages_alike, octets_alike}
use Rattle.exercise_course.proofs.laws.exercises_are_done.Goals as goal

pub returns-clause-ok : goal.returns-clause-ok
returns-clause-ok c = λ lanes count number start run journal given old new one most few begins many free legal. all_ok lanes count number start run journal given old new one most few begins many free legal

pub returns-clause-messages : goal.returns-clause-messages
returns-clause-messages c = λ lanes count number start run journal given old new one most few begins many free legal. messages_alike lanes count number start run journal given old new one most few begins many free legal

pub returns-clause-octets : goal.returns-clause-octets
returns-clause-octets c = λ lanes count number start run journal given old new one most few begins many free legal. octets_alike lanes count number start run journal given old new one most few begins many free legal
