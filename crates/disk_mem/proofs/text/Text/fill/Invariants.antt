use Rattle.std.proofs.Common.{◌≡◌, ℕ, ◌<◌, length, slice_index, if◌then◌else◌, nat_le, nat_lt, ◌&&◌}
use Rattle.disk_mem.proofs.text.Text.fill.Given as goal

abbrev pub invariant-loop-i : goal.invariant-loop-i
invariant-loop-i l =
    (length l.self.octets.items ≡ length l.initial.self.octets.items)
    × ((k : ℕ) → k < length l.initial.self.octets.items
    → slice_index l.self.octets.items k ≡ (if nat_le l.start k && nat_lt k l.i then l.octet else slice_index l.initial.self.octets.items k))
