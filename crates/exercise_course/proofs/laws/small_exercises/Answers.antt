use Rattle.exercise_course.proofs.Common.{◌≡◌, ◌∷◌, [], refl, arith}
use Rattle.std.proofs.lemmas.Fmt.{decimal_digit}
use Rattle.mdbox_base.specs.Numbers.{decimal_text}
use Rattle.exercise_course.proofs.laws.small_exercises.Goals as goal

pub returns-clause-six : goal.returns-clause-six
returns-clause-six c = let e : decimal_text 1 ≡ 49 ∷ [] = decimal_digit 1 (omega arith) in rw e (refl, refl, refl)

pub returns-clause-one : goal.returns-clause-one
returns-clause-one c = (refl, refl, refl)
