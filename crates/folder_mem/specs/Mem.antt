-- What a folder in memory models.
use Rattle.std.specs.Prelude.{List, Option, Some}
use Rattle.folder_model.specs.System.{System}
use Rattle.folder_model.specs.Calls.{Modelled}
use Rattle.folder_mem.specs.declared.folder.MemFolder.{MemFolder}
use Rattle.folder_mem.specs.Seen.{modelled_by, past_by}

-- the system as the process began, and now
abbrev pub mem_model : MemFolder → Option Modelled
mem_model folder = Some (modelled_by folder.from folder.changes.items)

-- the systems that this process has left before the present one
abbrev pub mem_past : MemFolder → List System
mem_past folder = past_by folder.from folder.changes.items
