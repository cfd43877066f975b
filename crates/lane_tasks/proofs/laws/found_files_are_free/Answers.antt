use Rattle.lane_tasks.proofs.RoomLemmas.{found_free}
use Rattle.lane_tasks.proofs.laws.found_files_are_free.Goals as goal

pub returns : goal.returns
returns g c = found_free
