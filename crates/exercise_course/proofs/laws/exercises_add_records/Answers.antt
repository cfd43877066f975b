use Rattle.exercise_course.proofs.DeliveredLemmas.{records_delivered}
use Rattle.exercise_course.proofs.laws.exercises_add_records.Goals as goal

pub returns-clause-records : goal.returns-clause-records
returns-clause-records c = λ lanes count number start run journal broken given old new first m drawn calls many ok served. (records_delivered lanes count number start run journal broken given old new first m drawn calls many ok served).records

pub returns-clause-instances : goal.returns-clause-instances
returns-clause-instances c = λ lanes count number start run journal broken given old new first m drawn calls many ok served. (records_delivered lanes count number start run journal broken given old new first m drawn calls many ok served).instances
