use Rattle.folder_disk.proofs.Common.{string_bytes}
use Rattle.folder_disk.proofs.EachLemmas.{EachSoFar}
use Rattle.folder_disk.proofs.ListingLemmas.{ListsOctet}
use Rattle.folder_disk.proofs.listing.octets_in.Given as goal

abbrev pub invariant-loop-path : goal.invariant-loop-path
invariant-loop-path g l = EachSoFar (ListsOctet string_bytes (string_bytes l.above) l.octets.items) l.path-items l.path-index
