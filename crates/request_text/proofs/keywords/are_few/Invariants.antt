use Rattle.std.proofs.Common.{◌-◌, ◌≤◌, length, take, map, string_bytes}
use Rattle.request_text.proofs.GivenWordLemmas.{AreFound}
use Rattle.request_text.proofs.keywords.are_few.Given as goal

abbrev pub decreases-loop-place : goal.decreases-loop-place
decreases-loop-place l = length l.words - l.place

-- the words so far are those at the places found, which are different
abbrev pub invariant-loop-place : goal.invariant-loop-place
invariant-loop-place l = record {
  within : l.place ≤ length l.words;
  few : l.found ≤ 32;
  found : AreFound (map string_bytes l.words) (take l.found l.places) l.place;
}
