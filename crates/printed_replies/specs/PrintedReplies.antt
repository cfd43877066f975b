-- What the printed replies of a script tell.
use Rattle.std.specs.Prelude.{◌<◌, ◌^◌, ℕ, List, [], ◌∷◌, All, length}
use Rattle.mdbox_base.specs.Keywords.{AreWords}
use Rattle.mdbox_base.specs.Words.{IsOctets}
use Rattle.mdbox_base.specs.declared.replies.ListRow.{ListRow}
use Rattle.mdbox_base.specs.declared.replies.Refusal.{Refusal}
use Rattle.mdbox_base.specs.declared.replies.Refusal.TheVariants as refusal
use Rattle.mdbox_base.specs.declared.replies.Reply.{Reply}
use Rattle.mdbox_base.specs.declared.replies.Reply.TheVariants as reply
use Rattle.mdbox_base.specs.declared.requests.Request.{Request}
use Rattle.mdbox_base.specs.declared.requests.Request.TheVariants as request

-- A reply of the kind that this request has: a refusal, or what it answers.
abbrev pub IsReplyTo : Request → Reply → Type 0
IsReplyTo asked (reply.Refused refusal) = Unit {0}
IsReplyTo (request.Deliver name time message) (reply.Saved uid guid) = Unit {0}
IsReplyTo (request.List name) (reply.Listed rows) = Unit {0}
IsReplyTo (request.Fetch name uid) (reply.Fetched octets) = Unit {0}
IsReplyTo (request.Flag name uid flags) reply.Done = Unit {0}
IsReplyTo (request.Keywords name uid words) reply.Done = Unit {0}
IsReplyTo (request.Copy name uid target) (reply.Copied copied) = Unit {0}
IsReplyTo (request.Move name uid target) (reply.Moved copied gone) = Unit {0}
IsReplyTo (request.Expunge name uid) reply.Done = Unit {0}
IsReplyTo (request.Make name) reply.Done = Unit {0}
IsReplyTo (request.Delete name) reply.Done = Unit {0}
IsReplyTo (request.Rename name target) reply.Done = Unit {0}
IsReplyTo request.Counts (reply.Counted records references counts instances) = Unit {0}
IsReplyTo request.Purge (reply.Purged dropped files instances) = Unit {0}
IsReplyTo request.Resync (reply.Resynced corrected damaged) = Unit {0}
IsReplyTo asked given = ⊥

-- each reply is one to the request at its place
abbrev pub AreRepliesTo : List (ℕ × Request) → List Reply → Type 0
AreRepliesTo [] [] = Unit {0}
AreRepliesTo (asked ∷ script) (given ∷ rest) = IsReplyTo asked.1 given × AreRepliesTo script rest
AreRepliesTo script given = ⊥

-- numbers below 2 ^ 64
abbrev pub FitInWords : List ℕ → Type 0
FitInWords [] = Unit {0}
FitInWords (n ∷ rest) = (n < 2 ^ 64) × FitInWords rest

abbrev pub RowHasWords : ListRow → Type 0
RowHasWords row = FitInWords (row.uid.0 ∷ row.flags ∷ row.size ∷ row.time ∷ []) × IsOctets row.guid.0 × AreWords row.words

abbrev pub RefusalHasWords : Refusal → Type 0
RefusalHasWords (refusal.TooManyCopies n) = FitInWords (n ∷ [])
RefusalHasWords (refusal.MailboxFull n) = FitInWords (n ∷ [])
RefusalHasWords (refusal.TooManyMailboxes n) = FitInWords (n ∷ [])
RefusalHasWords (refusal.StoreFull n) = FitInWords (n ∷ [])
RefusalHasWords (refusal.Damaged file offset) = FitInWords (file.0 ∷ offset ∷ [])
RefusalHasWords other = Unit {0}

-- The numbers and lengths of a reply are below 2 ^ 64, a GUID has octets, and keywords are those of a message: so it is with every reply that
-- a program holds.
abbrev pub ReplyHasWords : Reply → Type 0
ReplyHasWords (reply.Saved uid guid) = FitInWords (uid.0 ∷ []) × IsOctets guid.0
ReplyHasWords (reply.Listed rows) = FitInWords (length rows ∷ []) × All RowHasWords rows
ReplyHasWords (reply.Fetched octets) = FitInWords (length octets ∷ [])
ReplyHasWords reply.Done = Unit {0}
ReplyHasWords (reply.Copied uid) = FitInWords (uid.0 ∷ [])
ReplyHasWords (reply.Moved uid gone) = FitInWords (uid.0 ∷ [])
ReplyHasWords (reply.Counted records references counts instances) = FitInWords (records ∷ references ∷ counts ∷ instances ∷ [])
ReplyHasWords (reply.Purged dropped files instances) = FitInWords (dropped ∷ files ∷ instances ∷ [])
ReplyHasWords (reply.Resynced corrected damaged) = FitInWords (corrected ∷ damaged ∷ [])
ReplyHasWords (reply.AltMoved moved dropped) = FitInWords (moved ∷ dropped ∷ [])
ReplyHasWords (reply.Refused refusal) = RefusalHasWords refusal
