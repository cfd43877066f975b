-- How `boxes` ends.
use Rattle.std.specs.Prelude.{◌≡◌, ◌⊎◌, ℕ, List, [], ◌∷◌, length, map, sum_by, Option}
use Rattle.disk_model.specs.Disk.{History, Faults}
use Rattle.disk_model.specs.FaultCounts.{NoFault}
use Rattle.mdbox_base.specs.Streams.{Appended}
use Rattle.model_lists.specs.Lists.{Lists, Mailbox}
use Rattle.model_meaning.specs.BoxMeaning.{BoxMeaning}
use Rattle.model_meaning.specs.MapMeaning.{MapBox, MapMeaning}
use Rattle.store_open.specs.Opened.{IsOpenedAs, StoreCarries}
use Rattle.store_sweep.specs.Swept.{IsSwept}
use Rattle.piece_writer.specs.Pieces.{WritesPrefix}
use Rattle.request_text.specs.BoxesText.{boxes_text}
use Rattle.request_text.specs.declared.boxes.BoxRow.{BoxRow}
use Rattle.request_text.specs.declared.outcome.Outcome.{Outcome}
use Rattle.request_text.specs.declared.outcome.Outcome.TheVariants as outcome
use Rattle.script_run.specs.Opening.{AreSafeFor, StaysSettled}
use Rattle.mdbox_top.specs.ListRun.{ListMoments, ListRests}
use Rattle.mdbox_top.specs.Numbers.{box_octets}
use Rattle.mdbox_top.specs.Served.{IsNotOpened}

-- what is printed of a mailbox that the map names, and of a mailbox of lists
abbrev pub row_of_box : MapBox → BoxMeaning → BoxRow
row_of_box box m = record { number = box.number; next_uid = m.next; messages = length m.rows; octets = box_octets m; name = box.name }

abbrev pub row_of_mailbox : Mailbox → BoxRow
row_of_mailbox mailbox = record {
  number = mailbox.number;
  next_uid = mailbox.next_uid;
  messages = length mailbox.messages;
  octets = sum_by (λ message. length message.octets) mailbox.messages;
  name = mailbox.name;
}

-- one row for each mailbox of the map, by what its log means
abbrev pub box_rows : List MapBox → List BoxMeaning → List BoxRow
box_rows (box ∷ boxes) (m ∷ meanings) = row_of_box box m ∷ box_rows boxes meanings
box_rows boxes meanings = []

-- The rows are what the logs mean from which the store opened, and opens again; if the files were safe for lists, they are those of these
-- lists. The store opens again, with logs that mean the same and the same mail, and the disk was swept; if it was settled for lists, it
-- is settled for them again.
pub record AreBoxes (old new : Option History) (rows : List BoxRow) : Type 0 where
  pub m : MapMeaning
  pub meanings : List BoxMeaning
  pub opened : IsOpenedAs old m meanings
  pub again : IsOpenedAs new m meanings
  pub rows_are : rows ≡ box_rows m.boxes meanings
  pub lists_are : (lists : Lists) → AreSafeFor lists old → rows ≡ map row_of_mailbox lists
  pub settled : StaysSettled old new
  pub carried : StoreCarries old new
  pub swept : (generation : ℕ) × IsSwept generation m old new

-- How rows are printed: whole; or a prefix of their text, for a fault of the output or out of memory.
abbrev pub PrintsBoxes : List BoxRow → Option (List ℕ) → Option (List ℕ) → Outcome → Type 0
PrintsBoxes rows held later outcome.Done = Appended held (boxes_text rows) later
PrintsBoxes rows held later outcome.WriteFault = WritesPrefix held [] (boxes_text rows) later
PrintsBoxes rows held later outcome.NoMemory = WritesPrefix held [] (boxes_text rows) later
PrintsBoxes rows held later other = ⊥

-- The store was opened, its mailboxes are printed, and no call of the disk failed.
pub record ShowsBoxes (held later : Option (List ℕ)) (old new : Option History) (began now : Faults) (ended : Outcome) : Type 0 where
  pub rows : List BoxRow
  pub are : AreBoxes old new rows
  pub printed : PrintsBoxes rows held later ended
  pub unfailed : NoFault began now

-- How `boxes` ends: the mailboxes are printed, or a prefix of their text; or the store was not opened.
abbrev pub BoxesOutcome : Option (List ℕ) → Option (List ℕ) → Option History → Option History → Faults → Faults → Outcome → Type 0
BoxesOutcome held later old new began now ended = IsNotOpened held later old new began now ended ⊎ ShowsBoxes held later old new began now ended

-- What a crash at any moment may leave, and what is left when it ends: as of a listing.
abbrev pub BoxesMoments : Option History → Option History → Type 0
BoxesMoments old new = ListMoments old new

abbrev pub BoxesRests : Type 0 → Faults → Faults → Option History → Option History → Type 0
BoxesRests failed began now old new = ListRests failed began now old new
