-- What is printed of a reply.
use Rattle.std.specs.Prelude.{ℕ, Bool, List, [], ◌∷◌, ◌++◌, length, flat_map, codes, if◌then◌else◌}
use Rattle.hex.specs.Hex.{encode_lower}
use Rattle.mdbox_base.specs.Numbers.{decimal_text}
use Rattle.mdbox_base.specs.declared.ids.Guid.{Guid}
use Rattle.mdbox_base.specs.declared.replies.ListRow.{ListRow}
use Rattle.mdbox_base.specs.declared.replies.Refusal.{Refusal}
use Rattle.mdbox_base.specs.declared.replies.Refusal.TheVariants as refusal
use Rattle.mdbox_base.specs.declared.replies.Reply.{Reply}
use Rattle.mdbox_base.specs.declared.replies.Reply.TheVariants as reply
use Rattle.mdbox_base.specs.declared.requests.Request.{Request}
use Rattle.mdbox_base.specs.declared.requests.Request.TheVariants as request
use Rattle.disk_model.specs.declared.name.FileName.TheVariants as file_name
use Rattle.file_paths.specs.Paths.{path_text}

-- numbers in decimal, each behind a space
abbrev pub numbers_text : List ℕ → List ℕ
numbers_text [] = []
numbers_text (n ∷ rest) = 32 ∷ (decimal_text n ++ numbers_text rest)

-- a GUID in lower-case hexadecimal digits, behind a space
abbrev pub guid_text : Guid → List ℕ
guid_text guid = 32 ∷ encode_lower guid.0

-- keywords, each behind a space
abbrev pub keywords_text : List (List ℕ) → List ℕ
keywords_text words = flat_map (λ word. 32 ∷ word) words

-- a row of a listing: UID, flags, size in octets, time in Unix seconds, GUID, and keywords
abbrev pub row_text : ListRow → List ℕ
row_text row = decimal_text row.uid.0 ++ (numbers_text (row.flags ∷ row.size ∷ row.time ∷ []) ++ (guid_text row.guid ++ (keywords_text row.words ++ 10 ∷ [])))

-- a line that begins with `OK`
abbrev pub ok_line : List ℕ → List ℕ
ok_line text = codes "OK" ++ (text ++ 10 ∷ [])

-- how many rows, and the rows
abbrev pub listing_text : List ListRow → List ℕ
listing_text rows = ok_line (numbers_text (length rows ∷ [])) ++ flat_map row_text rows

-- the number of a refusal, and why
abbrev pub refusal_text : Refusal → List ℕ
refusal_text refusal.NoMailbox = codes "10 no mailbox"
refusal_text refusal.Exists = codes "11 exists"
refusal_text refusal.NoMessage = codes "12 no message"
refusal_text (refusal.TooManyCopies n) = codes "13 too many copies" ++ numbers_text (n ∷ [])
refusal_text (refusal.MailboxFull n) = codes "14 mailbox full" ++ numbers_text (n ∷ [])
refusal_text (refusal.TooManyMailboxes n) = codes "15 too many mailboxes" ++ numbers_text (n ∷ [])
refusal_text (refusal.StoreFull n) = codes "16 store full" ++ numbers_text (n ∷ [])
refusal_text refusal.NoMemory = codes "17 memory"
refusal_text refusal.ReadFault = codes "18 read fault"
refusal_text refusal.Stopped = codes "19 stopped"
refusal_text (refusal.Damaged file offset) = codes "20 damaged " ++ (path_text (file_name.Mail file.0) ++ numbers_text (offset ∷ []))
refusal_text refusal.Inbox = codes "21 inbox"
refusal_text refusal.Sealed = codes "22 sealed"

-- `GONE` where the source of a move had left before its second step
abbrev pub gone_text : Bool → List ℕ
gone_text gone = if gone then codes " GONE" else []

-- The text of a reply.
abbrev pub reply_text : Reply → List ℕ
reply_text (reply.Saved uid guid) = ok_line (numbers_text (uid.0 ∷ []) ++ guid_text guid)
reply_text (reply.Listed rows) = listing_text rows
reply_text (reply.Fetched octets) = ok_line (numbers_text (length octets ∷ [])) ++ (octets ++ 10 ∷ [])
reply_text reply.Done = ok_line []
reply_text (reply.Copied uid) = ok_line (numbers_text (uid.0 ∷ []))
reply_text (reply.Moved uid gone) = ok_line (numbers_text (uid.0 ∷ []) ++ gone_text gone)
reply_text (reply.Counted records references counts instances) = ok_line (numbers_text (records ∷ references ∷ counts ∷ instances ∷ []))
reply_text (reply.Purged dropped files instances) = ok_line (numbers_text (dropped ∷ files ∷ instances ∷ []))
reply_text (reply.Resynced corrected damaged) = ok_line (numbers_text (corrected ∷ damaged ∷ []))
reply_text (reply.AltMoved moved dropped) = ok_line (numbers_text (moved ∷ dropped ∷ []))
reply_text (reply.Refused refusal) = codes "NO " ++ (refusal_text refusal ++ 10 ∷ [])

-- A listing, or a message: their texts have no bound.
abbrev pub IsLong : Reply → Type 0
IsLong (reply.Listed rows) = Unit {0}
IsLong (reply.Fetched octets) = Unit {0}
IsLong other = ⊥

-- The text of the reply to a single request: of a fetch the octets alone.
abbrev pub fetched_text : Reply → List ℕ
fetched_text (reply.Fetched octets) = octets
fetched_text other = reply_text other

abbrev pub single_text : Request → Reply → List ℕ
single_text (request.Fetch name uid) given = fetched_text given
single_text other given = reply_text given
