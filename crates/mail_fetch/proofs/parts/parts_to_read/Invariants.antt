use Rattle.mail_fetch.proofs.Common.{◌≡◌, ◌∷◌, map, take, All, filter, has_octets, instance_part, region_part, IsPart}
use Rattle.mail_fetch.proofs.parts.parts_to_read.Given as goal

abbrev pub invariant-loop-row : goal.invariant-loop-row
invariant-loop-row l = record {
  parts : l.parts.items ≡ filter has_octets (region_part l.from ∷ map instance_part (take l.row-index l.row-items));
  range : All IsPart l.parts.items;
}
