-- Behind which event a fetch's read has failed.
use Rattle.mdbox_base.specs.declared.replies.Refusal.TheVariants as refusal
use Rattle.mdbox_base.specs.declared.replies.Reply.TheVariants as reply
use Rattle.mail_fetch.specs.declared.task.FetchStage.{FetchStage}
use Rattle.mail_fetch.specs.declared.task.FetchStage.TheVariants as stage

-- the task unpins next, and replies that a read failed
abbrev pub HasFailedRead : FetchStage → Type 0
HasFailedRead (stage.Unpinning from (reply.Refused refusal.ReadFault)) = Unit {0}
HasFailedRead other = ⊥
