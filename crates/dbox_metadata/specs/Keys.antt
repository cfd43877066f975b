-- The octets of the known keys.
use Rattle.std.specs.Prelude.{ℕ}
use Rattle.dbox_metadata.specs.declared.key.Key.{Key}
use Rattle.dbox_metadata.specs.declared.key.Key.TheVariants.{Received, PhysicalSize, VirtualSize, Guid, Origin, References}

-- `R`, `Z`, `V`, `G`, `B` and `X`
abbrev pub octet_of_key : Key → ℕ
octet_of_key Received = 82
octet_of_key PhysicalSize = 90
octet_of_key VirtualSize = 86
octet_of_key Guid = 71
octet_of_key Origin = 66
octet_of_key References = 88
