-- What is said of a request alone, by its kind.
use Rattle.std.specs.Prelude.{◌≡◌, ℕ, [], ◌∷◌, Option}
use Rattle.disk_model.specs.Disk.{History, Faults}
use Rattle.mdbox_base.specs.declared.replies.Refusal.TheVariants as refusal
use Rattle.mdbox_base.specs.declared.replies.Reply.{Reply}
use Rattle.mdbox_base.specs.declared.replies.Reply.TheVariants as reply
use Rattle.mdbox_base.specs.declared.requests.Request.{Request}
use Rattle.mdbox_base.specs.declared.requests.Request.TheVariants as request
use Rattle.mdbox_top.specs.InputRun.{IsOneOf}
use Rattle.tasks_alone.specs.FaultsAlone.{FaultsByReply}
use Rattle.mdbox_top.specs.ListRun.{IsListReply, ListMoments, ListRests}
use Rattle.mdbox_top.specs.DeleteRun.{IsDeleteReply, DeleteMoments, DeleteRests}
use Rattle.mdbox_top.specs.DeliverRun.{IsDeliverReply, SaveMoments, SaveRests}
use Rattle.mdbox_top.specs.FetchRun.{IsFetchReply, FetchMoments, FetchRests}
use Rattle.mdbox_top.specs.FlagRun.{IsFlagReply, FlagMoments, FlagRests}
use Rattle.mdbox_top.specs.KeywordsRun.{IsKeywordsReply, KeywordsMoments, KeywordsRests}
use Rattle.mdbox_top.specs.CopyRun.{IsCopyReply, CopyMoments, CopyRests}
use Rattle.mdbox_top.specs.MakeRun.{IsMakeReply, MakeMoments, MakeRests}
use Rattle.mdbox_top.specs.MoveRun.{IsMoveReply, MoveMoments, MoveRests}
use Rattle.mdbox_top.specs.ExpungeRun.{IsExpungeReply, ExpungeMoments, ExpungeRests}
use Rattle.mdbox_top.specs.CountsRun.{IsCountsReply, CountsMoments, CountsRests}
use Rattle.mdbox_top.specs.PurgeRun.{IsPurgeReply, PurgeMoments, PurgeRests}
use Rattle.mdbox_top.specs.RenameRun.{IsRenameReply, RenameMoments, RenameRests}
use Rattle.mdbox_top.specs.ResyncRun.{IsResyncReply, ResyncMoments, ResyncRests}

-- what its reply tells
abbrev pub ReplyTells : Request → Option History → Option History → Reply → Type 0
ReplyTells (request.Deliver name time octets) = IsDeliverReply name time octets
ReplyTells (request.List name) = IsListReply name
ReplyTells (request.Fetch name uid) = IsFetchReply name uid
ReplyTells (request.Flag name uid flags) = IsFlagReply name uid flags
ReplyTells (request.Keywords name uid words) = IsKeywordsReply name uid words
ReplyTells (request.Expunge name uid) = IsExpungeReply name uid
ReplyTells (request.Copy name uid target) = IsCopyReply name uid target
ReplyTells (request.Move name uid target) = IsMoveReply name uid target
ReplyTells (request.Make name) = IsMakeReply name
ReplyTells (request.Delete name) = IsDeleteReply name
ReplyTells (request.Rename name target) = IsRenameReply name target
ReplyTells request.Counts = IsCountsReply
ReplyTells request.Resync = IsResyncReply
ReplyTells request.Purge = IsPurgeReply

-- what a crash at any moment of it may leave
abbrev pub RequestMoments : Request → Option History → Option History → Type 0
RequestMoments (request.Deliver name time octets) = SaveMoments name time octets
RequestMoments (request.List name) = ListMoments
RequestMoments (request.Fetch name uid) = FetchMoments
RequestMoments (request.Flag name uid flags) = FlagMoments name uid flags
RequestMoments (request.Keywords name uid words) = KeywordsMoments name uid words
RequestMoments (request.Expunge name uid) = ExpungeMoments name uid
RequestMoments (request.Copy name uid target) = CopyMoments name uid target
RequestMoments (request.Move name uid target) = MoveMoments name uid target
RequestMoments (request.Make name) = MakeMoments name
RequestMoments (request.Delete name) = DeleteMoments name
RequestMoments (request.Rename name target) = RenameMoments name target
RequestMoments request.Counts = CountsMoments
RequestMoments request.Resync = ResyncMoments
RequestMoments request.Purge = PurgeMoments

-- what it leaves of the disk when it ends, by whether it failed and the counts of the disk's faults
abbrev pub RequestRests : Request → Type 0 → Faults → Faults → Option History → Option History → Type 0
RequestRests (request.Deliver name time octets) = SaveRests name time octets
RequestRests (request.List name) = ListRests
RequestRests (request.Fetch name uid) = FetchRests
RequestRests (request.Flag name uid flags) = FlagRests name uid flags
RequestRests (request.Keywords name uid words) = KeywordsRests name uid words
RequestRests (request.Expunge name uid) = ExpungeRests name uid
RequestRests (request.Copy name uid target) = CopyRests name uid target
RequestRests (request.Move name uid target) = MoveRests name uid target
RequestRests (request.Make name) = MakeRests name
RequestRests (request.Delete name) = DeleteRests name
RequestRests (request.Rename name target) = RenameRests name target
RequestRests request.Counts = CountsRests
RequestRests request.Resync = ResyncRests
RequestRests request.Purge = PurgeRests

-- The statuses with which it may end if a call of the disk failed. A listing or a count reads no file once the store is open. Any
-- other request may reply that a read failed, or that the store is stopped, and fail in printing it, for a fault of the output or
-- out of memory.
abbrev pub MayFail : Request → ℕ → Type 0
MayFail (request.List name) status = status ≡ 6
MayFail request.Counts status = status ≡ 6
MayFail other status = IsOneOf (6 ∷ 8 ∷ []) status

-- A request was done alone on a store that was opened, and was replied this. No call of the disk failed but a read that is replied, or a
-- change that stopped the store.
pub record IsDoneAlone (request : Request) (given : Reply) (old new : Option History) (began now : Faults) : Type 0 where
  pub tells : ReplyTells request old new given
  pub moments : RequestMoments request old new
  pub rests : RequestRests request (given ≡ reply.Refused refusal.Stopped) began now old new
  pub faults : FaultsByReply given began now
