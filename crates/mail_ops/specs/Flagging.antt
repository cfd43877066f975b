-- Requests that set the flags of a message, and what is replied to them.
use Rattle.std.specs.Prelude.{◌≡◌, ◌+◌, ℕ, List, is_some, if◌then◌else◌, Option, Some, None}
use Rattle.std.specs.Option.{option_map_or}
use Rattle.mdbox_base.specs.declared.replies.Refusal.{Refusal}
use Rattle.mdbox_base.specs.declared.replies.Refusal.TheVariants as refusal
use Rattle.model_meaning.specs.BoxMeaning.{row_at}
use Rattle.store_core.specs.Value.{StoreValue, log_count_of, list_named}
use Rattle.task_claims.specs.Leaving.{number_named}

-- why flags aren't set, and keywords: the store is stopped, no mailbox has the name, or no message of it has the UID
abbrev pub flag_refusal : {D : Type 0} → List ℕ → ℕ → StoreValue D → Option Refusal
flag_refusal name uid store =
    if store.stopped then Some refusal.Stopped else option_map_or (λ m. if is_some (row_at m uid) then None else Some refusal.NoMessage) (list_named store name) (Some refusal.NoMailbox)

-- the mailbox with this name is there, and its log has one entry more, also where the message had the same flags or keywords
abbrev pub HasEntryMore : {D : Type 0} → List ℕ → StoreValue D → StoreValue D → Type 0
HasEntryMore name old new = (number : ℕ) × (number_named old.map name ≡ Some number) × (log_count_of number new.boxes ≡ log_count_of number old.boxes + 1)
