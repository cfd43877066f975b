-- A message at the front of a text.
use Rattle.std.specs.Prelude.{◌≡◌, ℕ, List, length}
use Rattle.model_storage.specs.StorageFile.{Message, IsMessage}
use Rattle.dbox_file.specs.Reading.{StandsFirst}

-- a message with a body of this size stands at the front, and this rest follows it
abbrev pub HasMessage : List ℕ → ℕ → List ℕ → Type 0
HasMessage text size rest = (m : Message) × (length m.body ≡ size) × StandsFirst IsMessage text m rest
