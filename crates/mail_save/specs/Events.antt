-- Why the events of a delivery are refused.
use Rattle.std.specs.Prelude.{nat_le, ℕ, List, length, if◌then◌else◌, Option, Some, None}
use Rattle.std.specs.Option.{option_or}
use Rattle.mdbox_base.specs.declared.replies.Refusal.{Refusal}
use Rattle.mdbox_base.specs.declared.replies.Refusal.TheVariants as refusal
use Rattle.model_meaning.specs.BoxMeaning.{BoxMeaning}
use Rattle.store_core.specs.Value.{StoreValue, list_named}

-- Why a message can't be added to the mailbox that was found: no mailbox has the name, it lists 1,000,000 messages, or its
-- UIDs are used up.
abbrev pub full_refusal : BoxMeaning → Option Refusal
full_refusal m =
    if nat_le 1000000 (length m.rows) then Some (refusal.MailboxFull 1000000) else (if nat_le 4294967295 m.next then Some (refusal.StoreFull 4294967294) else None)

abbrev pub box_refusal : Option BoxMeaning → Option Refusal
box_refusal None = Some refusal.NoMailbox
box_refusal (Some m) = full_refusal m

-- the map uids are used up
abbrev pub uid_refusal : ℕ → Option Refusal
uid_refusal drawn = if nat_le 4294967294 drawn then Some (refusal.StoreFull 4294967294) else None

-- the running numbers of instances are used up
abbrev pub instance_refusal : ℕ → Option Refusal
instance_refusal drawn = if nat_le 4294967294 drawn then Some (refusal.StoreFull 4294967294) else None

-- why nothing is saved, as the first event finds it
abbrev pub save_refusal : {D : Type 0} → List ℕ → StoreValue D → Option Refusal
save_refusal name store = option_or (box_refusal (list_named store name)) (uid_refusal store.drawn.map)
