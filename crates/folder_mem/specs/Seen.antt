-- What calls see of a folder in memory.
use Rattle.std.specs.Prelude.{◌≡◌, ℕ, List, [], ◌∷◌, take, drop}
use Rattle.folder_model.specs.System.{Node, Nothing, PlainFile, AFolder, System}
use Rattle.folder_model.specs.Calls.{Modelled}
use Rattle.folder_mem.specs.declared.note.Change.{Change}
use Rattle.folder_mem.specs.declared.seen.Thing.{Thing}
use Rattle.folder_mem.specs.declared.seen.Thing.TheVariants as thing
use Rattle.folder_mem.specs.declared.seen.SeenFile.{SeenFile}
use Rattle.folder_mem.specs.declared.seen.SeenPath.{SeenPath}
use Rattle.folder_mem.specs.Notes.{changes_to, system_after}

-- what stands at a path
abbrev pub node_of : Thing → Node
node_of thing.Nothing = Nothing
node_of (thing.File number) = PlainFile number
node_of thing.Folder = AFolder

-- a file's octets, and the number of the next file
pub record IsSeenFile (number : ℕ) (seen : SeenFile) (s : System) : Type 0 where
  pub count : seen.count ≡ s.count
  pub octets : seen.text.octets.items ≡ (s.content number).octets

-- what stands at a path, and the number of the next file
pub record IsSeenPath (path : List ℕ) (seen : SeenPath) (s : System) : Type 0 where
  pub count : seen.count ≡ s.count
  pub node : node_of seen.thing ≡ s.node path

-- the system at the start and now, after so many of these changes and after all
abbrev pub modelled_by : ℕ → List Change → Modelled
modelled_by from changes = record { start = system_after (take from changes); now = system_after changes }

-- the systems that these changes leave on the way, the latest first, before earlier ones
abbrev pub pasts_from : List Change → System → List System → List System
pasts_from [] s past = past
pasts_from (change ∷ later) s past = pasts_from later (changes_to change s) (s ∷ past)

-- the systems that the changes after the first so many have left before the present one
abbrev pub past_by : ℕ → List Change → List System
past_by from changes = pasts_from (drop from changes) (system_after (take from changes)) []
