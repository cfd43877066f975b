use Rattle.std.proofs.Common.{◌≡◌, ◌++◌, ◌∷◌, [], take}
use Rattle.std.specs.Prelude.{flat_map}
use Rattle.std.specs.Char.Escape.{escape_ascii}
use Rattle.usage_text.proofs.line.push_quoted.Given as goal

-- the octets so far are told
abbrev pub invariant-loop-octet : goal.invariant-loop-octet
invariant-loop-octet l = l.out ≡ (l.fn.out ++ 34 ∷ []) ++ flat_map escape_ascii (take l.octet-index l.told)
