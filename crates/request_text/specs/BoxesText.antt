-- What is printed of mailboxes.
use Rattle.std.specs.Prelude.{ℕ, List, [], ◌∷◌, ◌++◌, length, flat_map}
use Rattle.mdbox_base.specs.Numbers.{decimal_text}
use Rattle.request_text.specs.ReplyText.{numbers_text, ok_line}
use Rattle.request_text.specs.declared.boxes.BoxRow.{BoxRow}

-- a mailbox: its number, the UID that its next message gets, how many messages it lists, their octets, and its name
abbrev pub box_line : BoxRow → List ℕ
box_line row = decimal_text row.number ++ (numbers_text (row.next_uid ∷ row.messages ∷ row.octets ∷ []) ++ (32 ∷ (row.name ++ 10 ∷ [])))

-- how many mailboxes, and the mailboxes
abbrev pub boxes_text : List BoxRow → List ℕ
boxes_text rows = ok_line (numbers_text (length rows ∷ [])) ++ flat_map box_line rows
