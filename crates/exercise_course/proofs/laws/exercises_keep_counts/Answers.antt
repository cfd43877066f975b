use Rattle.exercise_course.proofs.BalanceLemmas.{counts_grow}
use Rattle.exercise_course.proofs.laws.exercises_keep_counts.Goals as goal

pub returns : goal.returns
returns c = λ lanes count number start run journal broken given old new first m drawn calls rising below one most few begins many free served. counts_grow lanes count number start run journal broken given old new first m drawn calls (record { rising = rising; below = below }) one most few begins many free served
