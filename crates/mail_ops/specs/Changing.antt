-- Mailboxes that are to be deleted or renamed: what is refused, and which mailbox has the name.
use Rattle.std.specs.Prelude.{◌≡◌, ℕ, List, codes, is_none, is_some, Option, None}
use Rattle.std.specs.Option.{option_or}
use Rattle.std.specs.Str.{bytes_eq}
use Rattle.mdbox_base.specs.declared.replies.Refusal.{Refusal}
use Rattle.mdbox_base.specs.declared.replies.Refusal.TheVariants as refusal
use Rattle.model_meaning.specs.BoxMeaning.{BoxMeaning}
use Rattle.list_machine.specs.Machine.{refused_where}
use Rattle.store_core.specs.Value.{StoreValue, list_named}
use Rattle.mail_ops.specs.Messages.{IsBoxOf}

-- Why no mailbox is deleted: none has the name, or it is INBOX.
abbrev pub deleting_refusal : {D : Type 0} → List ℕ → StoreValue D → Option Refusal
deleting_refusal name store = option_or (refused_where (is_none (list_named store name)) refusal.NoMailbox) (refused_where (bytes_eq name (codes "INBOX")) refusal.Inbox)

-- And why none is renamed: for these, or a mailbox has the new name.
abbrev pub renaming_refusal : {D : Type 0} → List ℕ → List ℕ → StoreValue D → Option Refusal
renaming_refusal name target store = option_or (deleting_refusal name store) (refused_where (is_some (list_named store target)) refusal.Exists)

-- ---- within the crate

-- The mailbox with this name has this number, and isn't INBOX.
pub record MayChangeBox {D : Type 0} (name : List ℕ) (number : ℕ) (store : StoreValue D) : Type 0 where
  pub m : BoxMeaning
  pub box : IsBoxOf name store number m
  pub free : deleting_refusal name store ≡ None
