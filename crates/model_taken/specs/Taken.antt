-- The messages that a rebuild takes.
use Rattle.std.specs.Prelude.{ℕ, List, [], ◌∷◌, ◌++◌, fold, find, flat_map, codes, if◌then◌else◌, Option}
use Rattle.std.specs.List.{list_any}
use Rattle.std.specs.Str.{bytes_eq}
use Rattle.mdbox_base.specs.declared.entries.InstRow.{InstRow}
use Rattle.model_meaning.specs.MapMeaning.{MapRecord}

-- A message that is taken: the number of its storage file and its region there, its GUID, the time at which it was received, its
-- whole octets (attachments put back), the name of the mailbox that it goes to, and the instances that it names, in order.
pub record TakenMessage : Type 0 where
  pub file : ℕ
  pub offset : ℕ
  pub size : ℕ
  pub guid : List ℕ
  pub time : ℕ
  pub octets : List ℕ
  pub mailbox : List ℕ
  pub instances : List InstRow

-- the record of the map that a rebuild makes of the message, under this map uid: found by a rebuild (origin 1), referred to once
abbrev pub record_for : ℕ → TakenMessage → MapRecord
record_for uid t = record { uid = uid; origin = 1; count = 1; file = t.file; offset = t.offset; size = t.size; guid = t.guid; instances = t.instances }

-- names, with one more unless it is among them
abbrev pub and_name : List (List ℕ) → List ℕ → List (List ℕ)
and_name names name = if list_any (bytes_eq name) names then names else names ++ name ∷ []

-- The names of the mailboxes: INBOX, and those of messages that are taken, in the order in which they are met.
abbrev pub mailboxes_met : List TakenMessage → List (List ℕ)
mailboxes_met taken = fold (λ names t. and_name names t.mailbox) (codes "INBOX" ∷ []) taken

-- the message with this GUID, if one was taken
abbrev pub taken_with : List ℕ → List TakenMessage → Option TakenMessage
taken_with guid taken = find (λ t. bytes_eq t.guid guid) taken

-- the instances that taken messages name, one for each reference
abbrev pub instances_taken : List TakenMessage → List InstRow
instances_taken taken = flat_map (λ t. t.instances) taken
