use Rattle.std.proofs.Common.{◌≡◌, ℕ, ◌<◌, length, slice_index, take, if◌then◌else◌}
use Rattle.disk_mem.specs.Left.{touched}
use Rattle.disk_mem.proofs.image.tear.Given as goal

abbrev pub invariant-loop-note : goal.invariant-loop-note
invariant-loop-note l =
    (length l.text.octets.items ≡ length l.initial.text.octets.items)
    × ((i : ℕ) → i < length l.initial.text.octets.items
    → slice_index l.text.octets.items i ≡ (if touched l.name (take l.note-index l.notes) i then l.octet else slice_index l.initial.text.octets.items i))
