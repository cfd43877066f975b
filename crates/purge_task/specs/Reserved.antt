-- The memory that a purge takes at its first event.
use Rattle.std.specs.Prelude.{◌≡◌, ◌≤◌, ◌<◌, ◌+◌, ◌*◌, ◌∷◌, [], ℕ, List, length, vec_capacity, None}
use Rattle.std.specs.List.{AllZip}
use Rattle.purge_task.specs.declared.finding.Found.{Found}
use Rattle.purge_task.specs.declared.finding.FoundFile.{FoundFile}
use Rattle.purge_task.specs.declared.work.Present.{Present}
use Rattle.purge_task.specs.declared.work.Source.{Source}
use Rattle.purge_task.specs.declared.work.Work.{Work}

-- its lists have room for so many messages
abbrev pub HasListRoom : ℕ → Source → Type 0
HasListRoom messages source = (messages ≤ vec_capacity source.copied) × (messages ≤ vec_capacity source.dropped)

-- A file that was found, of which nothing was done yet: it has no target, and both lists are empty, with room for all its messages.
pub record IsNewSource (f : FoundFile) (source : Source) : Type 0 where
  pub file : source.file ≡ f.file
  pub wanted : source.is_wanted ≡ f.is_wanted
  pub target : source.target ≡ None
  pub copied : source.copied.items ≡ []
  pub dropped : source.dropped.items ≡ []
  pub room : HasListRoom f.messages source

-- The files that were found, from the first on; and room for the text of the entry that switches one, and for a piece.
pub record IsNewWork (found : Found) (work : Work) : Type 0 where
  pub sources : AllZip IsNewSource found.files.items work.sources.items
  pub next : work.next ≡ 0
  pub from : work.from ≡ 0
  pub text : length work.text.items ≡ 17 + 8 * found.most
  pub block : length work.block.items ≡ 65536

-- it is this source that is emptied
abbrev pub IsPresent : Source → Present → Type 0
IsPresent source present = (present.file ≡ source.file) × (present.target ≡ source.target)

-- the first of these sources has room for one more copy in its list
abbrev pub HasRoomForCopy : List Source → Type 0
HasRoomForCopy [] = ⊥
HasRoomForCopy (source ∷ left) = length source.copied.items < vec_capacity source.copied
