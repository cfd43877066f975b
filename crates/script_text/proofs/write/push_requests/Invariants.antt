use Rattle.std.proofs.Common.{◌≡◌, ◌++◌, take}
use Rattle.script_text.specs.Script.{script_text}
use Rattle.script_text.proofs.write.push_requests.Given as goal

-- the requests so far are written
abbrev pub invariant-loop-lane : goal.invariant-loop-lane
invariant-loop-lane l = l.text ≡ l.fn.text ++ script_text (take l.lane-index l.requests)
