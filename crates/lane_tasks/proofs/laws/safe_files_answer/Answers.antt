use Rattle.lane_tasks.proofs.RoomLemmas.{safe_answered}
use Rattle.lane_tasks.proofs.laws.safe_files_answer.Goals as goal

pub returns : goal.returns
returns g c = safe_answered
