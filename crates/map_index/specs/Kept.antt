-- What every index keeps.
use Rattle.std.specs.Prelude.{◌≢◌, ◌≤◌, ◌<◌, ◌+◌, ◌^◌, ℕ, List, length, All, AllPairs}
use Rattle.model_meaning.specs.MapMeaning.{MapRecord, MapBox, MapMeaning}
use Rattle.mdbox_base.specs.Words.{IsNumber}

-- Map uids rise up to the highest one, so there are no more records than that, and GUIDs differ.
pub record AreKeptRecords (highest : ℕ) (rows : List MapRecord) : Type 0 where
  pub rising : AllPairs (λ a b. a.uid < b.uid) rows
  pub below : All (λ row. row.uid ≤ highest) rows
  pub few : length rows ≤ highest
  pub guids : AllPairs (λ a b. a.guid ≢ b.guid) rows

-- Numbers of mailboxes rise up to the highest one, their names differ, and there are at most 1,024.
pub record AreKeptBoxes (highest : ℕ) (boxes : List MapBox) : Type 0 where
  pub rising : AllPairs (λ a b. a.number < b.number) boxes
  pub below : All (λ box. box.number ≤ highest) boxes
  pub room : length boxes ≤ 1024
  pub names : AllPairs (λ a b. a.name ≢ b.name) boxes

-- Numbers of sealed files rise.
pub record AreKeptFiles (files : List ℕ) : Type 0 where
  pub rising : AllPairs (λ a b. a < b) files
  pub numbers : All IsNumber files
  pub few : length files ≤ 4294967294

pub record IsMapInOrder (m : MapMeaning) : Type 0 where
  pub records : AreKeptRecords m.highest.map m.records
  pub boxes : AreKeptBoxes m.highest.mailbox m.boxes
  pub files : AreKeptFiles m.sealed
  pub fits : m.highest.map < 2 ^ 32

-- a vector of this length and capacity has room for so many items more
abbrev pub HasSpace : ℕ → ℕ → ℕ → Type 0
HasSpace length capacity more = length + more ≤ capacity
