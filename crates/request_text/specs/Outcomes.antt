-- What is told of how a run ended: the exit status, and the text on the errors' sink.
use Rattle.std.specs.Prelude.{◌≡◌, ℕ, Bool, true, false, List, [], ◌∷◌, ◌++◌, codes, Option, Some, None, if◌then◌else◌, ◌⊎◌}
use Rattle.std.specs.List.{list_any}
use Rattle.mdbox_base.specs.Numbers.{decimal_text}
use Rattle.mdbox_base.specs.declared.replies.Refusal.TheVariants as refused
use Rattle.mdbox_base.specs.declared.replies.Reply.{Reply}
use Rattle.mdbox_base.specs.declared.replies.Reply.TheVariants as reply
use Rattle.file_paths.specs.Paths.{path_text}
use Rattle.script_text.specs.declared.flaw.Need.{Need}
use Rattle.script_text.specs.declared.flaw.Need.TheVariants as need
use Rattle.request_text.specs.declared.outcome.FileRefusal.TheVariants as file
use Rattle.request_text.specs.declared.outcome.InputRefusal.{InputRefusal}
use Rattle.request_text.specs.declared.outcome.InputRefusal.TheVariants as input
use Rattle.request_text.specs.declared.outcome.StoreRefusal.{StoreRefusal}
use Rattle.request_text.specs.declared.outcome.StoreRefusal.TheVariants as store
use Rattle.request_text.specs.declared.outcome.Outcome.{Outcome}
use Rattle.request_text.specs.declared.outcome.Outcome.TheVariants as outcome

-- the exit status
abbrev pub status_of : Outcome → ℕ
status_of outcome.Done = 0
status_of outcome.No = 1
status_of outcome.Usage = 2
status_of (outcome.StoreRefused why) = 3
status_of (outcome.InputRefused why) = 4
status_of outcome.NoMemory = 5
status_of outcome.DiskFault = 6
status_of outcome.ReadFault = 7
status_of outcome.WriteFault = 8
status_of outcome.SessionFull = 0

-- The end of a run that printed this reply: out of memory for 17, a disk fault for 18 and 19, and a refusal for any other NO.
abbrev pub reply_outcome : Reply → Outcome
reply_outcome (reply.Refused refused.NoMemory) = outcome.NoMemory
reply_outcome (reply.Refused refused.ReadFault) = outcome.DiskFault
reply_outcome (reply.Refused refused.Stopped) = outcome.DiskFault
reply_outcome (reply.Refused other) = outcome.No
reply_outcome other = outcome.Done

-- A request was answered by 18 or 19; by 17; by any NO.
abbrev pub is_disk_no : Option Reply → Bool
is_disk_no (Some (reply.Refused refused.ReadFault)) = true
is_disk_no (Some (reply.Refused refused.Stopped)) = true
is_disk_no other = false

abbrev pub is_lack : Option Reply → Bool
is_lack (Some (reply.Refused refused.NoMemory)) = true
is_lack other = false

abbrev pub is_no : Option Reply → Bool
is_no (Some (reply.Refused why)) = true
is_no other = false

-- The end of a run that printed these replies: a disk fault if any is 18 or 19, else out of memory if any is 17, else a
-- refusal if any is NO.
abbrev pub replies_outcome : List (Option Reply) → Outcome
replies_outcome replies = if list_any is_disk_no replies then outcome.DiskFault else (if list_any is_lack replies then outcome.NoMemory else (if list_any is_no replies then outcome.No else outcome.Done))

-- why the input is refused, and a number
abbrev pub reason_text : InputRefusal → List ℕ
reason_text (input.TooLong limit) = codes "TooLong " ++ decimal_text limit
reason_text (input.File file.BadHeader) = codes "BadHeader " ++ decimal_text 0
reason_text (input.File (file.HeaderSize size)) = codes "HeaderSize " ++ decimal_text size
reason_text (input.File (file.Truncated offset)) = codes "Truncated " ++ decimal_text offset
reason_text (input.File (file.BadMessage offset)) = codes "BadMessage " ++ decimal_text offset
reason_text (input.Log place) = codes "LogDamaged " ++ decimal_text place
reason_text (input.Script flaw) = codes "Script " ++ decimal_text flaw.offset

-- what is missing of a request
abbrev pub need_text : Need → List ℕ
need_text need.Lane = codes "it doesn't begin with a lane from 1 to LANES and a space"
need_text need.Verb = codes "no verb after the lane: deliver, list, fetch, flag, keywords, copy, move, expunge, make, delete, rename, counts, purge or resync"
need_text need.Words = codes "not the words that the verb wants: a space before each, a name as LENGTH:NAME, no leading zero, a line feed at the end"
need_text need.Message = codes "after this line not as many octets as it says, and a line feed"
need_text need.Fewer = codes "this is request 100001, and a script has at most 100000"

-- a further line: where a script goes wrong
abbrev pub further_text : InputRefusal → List ℕ
further_text (input.Script flaw) = codes "line " ++ (decimal_text flaw.line ++ (codes ": " ++ (need_text flaw.need ++ 10 ∷ [])))
further_text other = []

-- why a store was not made or opened
abbrev pub store_text : StoreRefusal → List ℕ
store_text store.NoStore = codes "no store"
store_text store.StoreWhole = codes "store whole"
store_text store.MailFiles = codes "mail files without a store"
store_text (store.Damaged name place) = codes "damaged " ++ (path_text name ++ (codes " " ++ decimal_text place))

-- a line of the program
abbrev pub said : List ℕ → List ℕ
said text = codes "mdbox: " ++ (text ++ 10 ∷ [])

-- The text on the errors' sink.
abbrev pub error_text : Outcome → List ℕ
error_text outcome.Done = []
error_text outcome.No = []
error_text outcome.Usage = said (codes "usage")
error_text (outcome.StoreRefused why) = said (store_text why)
error_text (outcome.InputRefused why) = said (codes "input refused " ++ reason_text why) ++ further_text why
error_text outcome.NoMemory = said (codes "memory")
error_text outcome.DiskFault = said (codes "disk fault")
error_text outcome.ReadFault = said (codes "read fault")
error_text outcome.WriteFault = said (codes "write fault")
error_text outcome.SessionFull = said (codes "session full")

-- The same end; or out of memory, if there was none for the text of a refusal.
abbrev pub EndsAs : Outcome → Outcome → Type 0
EndsAs (outcome.InputRefused why) last = (last ≡ outcome.InputRefused why) ⊎ (last ≡ outcome.NoMemory)
EndsAs (outcome.StoreRefused (store.Damaged name place)) last = (last ≡ outcome.StoreRefused (store.Damaged name place)) ⊎ (last ≡ outcome.NoMemory)
EndsAs other last = last ≡ other
