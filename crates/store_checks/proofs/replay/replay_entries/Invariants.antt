use Rattle.std.proofs.Common.{◌≡◌, ◌-◌, ℕ, List, length}
use Rattle.gate_log.specs.Text.{IsLogText}
use Rattle.store_checks.proofs.TextWalkLemmas.{Replayed}
use Rattle.store_checks.proofs.replay.replay_entries.Given as goal

abbrev pub invariant-loop-place : goal.invariant-loop-place
invariant-loop-place g l = record {
  replayed : (texts : List (List ℕ)) → IsLogText l.text texts → Replayed g.F.Replay.is_replay l.replay texts l.entries.octets.now l.entries.gate;
  store : g.F.Replay.store l.replay ≡ g.F.Replay.store l.fn.replay;
}

abbrev pub decreases-loop-place : goal.decreases-loop-place
decreases-loop-place g l = length l.entries.octets.now - l.entries.gate
