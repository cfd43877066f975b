use Rattle.printed_replies.proofs.PlaceLemmas.{one_lane_in_order}
use Rattle.printed_replies.proofs.laws.one_lane_keeps_script_order.Goals as goal

pub returns : goal.returns
returns c = λ script start run journal replies old new one legal. one_lane_in_order script start run journal replies old new one legal
