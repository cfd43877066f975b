use Rattle.lane_tasks.proofs.RoomLemmas.{room_left}
use Rattle.lane_tasks.proofs.laws.tasks_have_room.Goals as goal

pub returns : goal.returns
returns g c = room_left
