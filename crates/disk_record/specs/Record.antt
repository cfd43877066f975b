-- The states of a disk by a record of its calls.
use Rattle.std.specs.Prelude.{ℕ, List, [], ◌∷◌}
use Rattle.disk_model.specs.Disk.{DiskState, History, joined_by, change, change_all, written, half_written, cut_to, half_cut, synced, made, half_made, removed, half_removed, named}
use Rattle.disk_record.specs.declared.change.Change.{Change}
use Rattle.disk_record.specs.declared.change.Change.TheVariants.{Nothing, Written, HalfWritten, Cut, HalfCut, Synced, Made, HalfMade, Removed, HalfRemoved, NamesSynced}

-- the state that a change leaves, with the octets of a write
abbrev pub state_after : Change → List ℕ → DiskState → DiskState
state_after Nothing octets disk = disk
state_after (Written name at) octets disk = change name (written at octets) disk
state_after (HalfWritten name at n) octets disk = change name (half_written at n) disk
state_after (Cut name end) octets disk = change name (cut_to end) disk
state_after (HalfCut name end) octets disk = change name (half_cut end) disk
state_after (Synced name) octets disk = change name synced disk
state_after (Made name) octets disk = change name made disk
state_after (HalfMade name) octets disk = change name half_made disk
state_after (Removed name) octets disk = change name removed disk
state_after (HalfRemoved name) octets disk = change name half_removed disk
state_after NamesSynced octets disk = change_all named disk

-- the states of a disk that began so, by its calls, the latest first
abbrev pub history_of : DiskState → List (Change × List ℕ) → History
history_of start [] = record { now = start; before = [] }
history_of start (call ∷ earlier) = let old = history_of start earlier in joined_by (state_after call.0 call.1 old.now) old
