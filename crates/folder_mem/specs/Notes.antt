-- What the calls on a folder in memory have changed.
use Rattle.std.specs.Prelude.{List, [], ◌∷◌, true, false, codes, string_bytes, if◌then◌else◌}
use Rattle.disk_model.specs.Disk.{still, written, cut_to}
use Rattle.disk_model.specs.Name.{same_octets}
use Rattle.folder_model.specs.System.{Nothing, AFolder, System, with_node, with_content, with_new_file, with_synced_file, with_synced_names, with_failed_sync, with_lock, after_end}
use Rattle.folder_mem.specs.declared.note.Change.{Change}
use Rattle.folder_mem.specs.declared.note.Change.TheVariants.{Locked, Ended, MadeFile, MadeFolder, Removed, Written, Cut, Synced, NamesSynced, SyncFailed}

-- what a change does
abbrev pub changes_to : Change → System → System
changes_to Locked s = with_lock s
changes_to Ended s = after_end s
changes_to (MadeFile path) s = with_new_file (string_bytes path) s
changes_to (MadeFolder path) s = with_node (string_bytes path) AFolder s
changes_to (Removed path) s = with_node (string_bytes path) Nothing s
changes_to (Written number at text) s = with_content number (written at text.octets.items) s
changes_to (Cut number end) s = with_content number (cut_to end) s
changes_to (Synced number) s = with_synced_file number s
changes_to (NamesSynced folder) s = with_synced_names (string_bytes folder) s
changes_to SyncFailed s = with_failed_sync s

-- a current folder with nothing in it
abbrev pub empty_system : System
empty_system = record {
  node = λ p. if same_octets p (codes ".") then AFolder else Nothing;
  earlier = λ p. [];
  content = λ n. still [];
  count = 0;
  is_sound = true;
  is_locked = false;
}

-- after these changes, the first one first
abbrev pub replayed_from : List Change → System → System
replayed_from [] s = s
replayed_from (change ∷ later) s = replayed_from later (changes_to change s)

-- the system after these changes of an empty one
unfoldable pub system_after : List Change → System
system_after changes = replayed_from changes empty_system
