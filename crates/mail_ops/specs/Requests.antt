-- The requests that a task does, and what is replied to them.
use Rattle.std.specs.Prelude.{◌≡◌, ◌⊎◌, true, Some, None}
use Rattle.mdbox_base.specs.declared.replies.Refusal.{Refusal}
use Rattle.mdbox_base.specs.declared.replies.Refusal.TheVariants as refusal
use Rattle.mdbox_base.specs.declared.replies.Reply.{Reply}
use Rattle.mdbox_base.specs.declared.replies.Reply.TheVariants as reply
use Rattle.mdbox_base.specs.declared.requests.Request.{Request}
use Rattle.mdbox_base.specs.declared.requests.Request.TheVariants as request
use Rattle.list_machine.specs.Machine.{set_flags, set_words}
use Rattle.model_lists.specs.Lists.{Lists}
use Rattle.store_core.specs.Value.{StoreValue}
use Rattle.mail_ops.specs.Flagging.{HasEntryMore, flag_refusal}
use Rattle.mail_ops.specs.Listing.{listing_reply}
use Rattle.mail_ops.specs.Wording.{WordsAnswers}

abbrev pub IsOpsRequest : Request → Type 0
IsOpsRequest (request.List name) = Unit {0}
IsOpsRequest (request.Flag name uid flags) = Unit {0}
IsOpsRequest (request.Keywords name uid words) = Unit {0}
IsOpsRequest other = ⊥

-- A listing has the reply that the store's indexes mean, or that of lack of memory. Setting flags is refused, or it is done;
-- or the append failed, and the store is stopped. Setting keywords may find no memory besides.
abbrev pub Replies : {D : Type 0} → Request → StoreValue D → StoreValue D → Reply → Type 0
Replies (request.List name) old new given = (given ≡ listing_reply name old) ⊎ (given ≡ reply.Refused refusal.NoMemory)
Replies (request.Flag name uid flags) old new given =
    ((why : Refusal) → flag_refusal name uid.0 old ≡ Some why → given ≡ reply.Refused why) × (flag_refusal name uid.0 old ≡ None → (given ≡ reply.Done) ⊎ ((given ≡ reply.Refused refusal.Stopped) × (new.stopped ≡ true)))
Replies (request.Keywords name uid words) old new given = WordsAnswers (flag_refusal name uid.0 old) old new given
Replies other old new given = ⊥

-- the request appends nothing to this store: it is a listing, or it is refused first
abbrev pub AppendsNothing : {D : Type 0} → Request → StoreValue D → Type 0
AppendsNothing (request.Flag name uid flags) store = (why : Refusal) × (flag_refusal name uid.0 store ≡ Some why)
AppendsNothing (request.Keywords name uid words) store = (why : Refusal) × (flag_refusal name uid.0 store ≡ Some why)
AppendsNothing other store = Unit {0}

-- the request, done, has added one entry to the log of its mailbox
abbrev pub AppendsOne : {D : Type 0} → Request → StoreValue D → StoreValue D → Type 0
AppendsOne (request.Flag name uid flags) old new = HasEntryMore name old new
AppendsOne (request.Keywords name uid words) old new = HasEntryMore name old new
AppendsOne other old new = Unit {0}

-- The lists that the request makes of these if it is done: the message has the given flags, or keywords, and a listing leaves them as they are.
abbrev pub lists_after : Request → Lists → Lists
lists_after (request.Flag name uid flags) lists = set_flags name uid.0 flags lists
lists_after (request.Keywords name uid words) lists = set_words name uid.0 words lists
lists_after other lists = lists

-- the lists that a request leaves which had this reply: the same unless it is done
abbrev pub lists_by_reply : Request → Reply → Lists → Lists
lists_by_reply asked reply.Done lists = lists_after asked lists
lists_by_reply asked other lists = lists
