-- Where a message is listed in a store.
use Rattle.std.specs.Prelude.{◌≡◌, ℕ, List, find, is_some, if◌then◌else◌, option_and_then, Option, Some, None}
use Rattle.std.specs.Option.{option_map, option_map_or}
use Rattle.std.specs.Str.{bytes_eq}
use Rattle.mdbox_base.specs.declared.replies.Refusal.{Refusal}
use Rattle.mdbox_base.specs.declared.replies.Refusal.TheVariants as refusal
use Rattle.model_meaning.specs.BoxMeaning.{LogRow, BoxMeaning, row_at}
use Rattle.store_core.specs.Value.{StoreValue, list_named, list_numbered}

-- Why there is no such message: no mailbox has the name, or no message of it the UID.
abbrev pub missing_message : {D : Type 0} → List ℕ → ℕ → StoreValue D → Option Refusal
missing_message name uid store = option_map_or (λ m. if is_some (row_at m uid) then None else Some refusal.NoMessage) (list_named store name) (Some refusal.NoMailbox)

-- The mailbox with this name has this number, and this is what its log means.
pub record IsBoxOf {D : Type 0} (name : List ℕ) (store : StoreValue D) (number : ℕ) (m : BoxMeaning) : Type 0 where
  pub named : list_named store name ≡ Some m
  pub numbered : list_numbered store number ≡ Some m
  pub number_is : option_map (λ b. b.number) (find (λ b. bytes_eq b.name name) store.map.boxes) ≡ Some number

-- And its log lists this row with the UID.
pub record IsRowOf {D : Type 0} (name : List ℕ) (uid : ℕ) (store : StoreValue D) (number : ℕ) (row : LogRow) : Type 0 where
  pub m : BoxMeaning
  pub box : IsBoxOf name store number m
  pub listed : row_at m uid ≡ Some row

-- ---- by the number of the mailbox

-- the row with this UID of the mailbox with this number: none if it isn't there, or doesn't list the UID
abbrev pub row_numbered : {D : Type 0} → ℕ → ℕ → StoreValue D → Option LogRow
row_numbered number uid store = option_and_then (λ m. row_at m uid) (list_numbered store number)

-- The mailbox with this number is there, and lists this row with the UID.
pub record IsRowIn {D : Type 0} (number uid : ℕ) (store : StoreValue D) (row : LogRow) : Type 0 where
  pub m : BoxMeaning
  pub numbered : list_numbered store number ≡ Some m
  pub listed : row_at m uid ≡ Some row
