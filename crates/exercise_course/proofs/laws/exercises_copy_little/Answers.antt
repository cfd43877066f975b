use Rattle.exercise_course.proofs.CopiesLemmas.{never_full}
use Rattle.exercise_course.proofs.laws.exercises_copy_little.Goals as goal

pub returns : goal.returns
returns c = λ lanes count number start run journal broken given old new first m drawn calls rising below one most few begins many free served. never_full lanes count number start run journal broken given old new first m drawn calls (record { rising = rising; below = below }) one most few begins many free served
