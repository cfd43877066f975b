-- What is added to a mailbox.
use Rattle.std.specs.Prelude.{◌≡◌, ◌<◌, ℕ, List, [], length, find, Some}
use Rattle.std.specs.Option.{option_map}
use Rattle.std.specs.Str.{bytes_eq}
use Rattle.mdbox_base.specs.declared.entries.BoxEntry.{BoxEntry}
use Rattle.mdbox_base.specs.declared.entries.BoxEntry.TheVariants as entry
use Rattle.mdbox_base.specs.declared.ids.BoxNo.{BoxNo}
use Rattle.mdbox_base.specs.declared.ids.Uid.{Uid}
use Rattle.model_meaning.specs.BoxMeaning.{BoxMeaning}
use Rattle.store_core.specs.Value.{StoreValue, list_named, list_numbered}
use Rattle.mail_save.specs.declared.add.Added.{Added}

-- The mailbox with this name has this number, and room for a message with this UID, its next.
pub record HasRoomUnder {D : Type 0} (name : List ℕ) (number : BoxNo) (uid : Uid) (store : StoreValue D) : Type 0 where
  pub mailbox : BoxMeaning
  pub named : list_named store name ≡ Some mailbox
  pub numbered : list_numbered store number.0 ≡ Some mailbox
  pub number_is : option_map (λ b. b.number) (find (λ b. bytes_eq b.name name) store.map.boxes) ≡ Some number.0
  pub next : uid.0 ≡ mailbox.next
  pub room : length mailbox.rows < 1000000
  pub more : mailbox.next < 4294967295

-- the message with this UID, without flags and without keywords
abbrev pub entry_added : Uid → Added → BoxEntry
entry_added uid added = entry.A uid 0 added.time added.size added.map_uid added.guid []
