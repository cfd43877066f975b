-- What is replied to requests that set the keywords of a message.
use Rattle.std.specs.Prelude.{◌≡◌, ◌⊎◌, true, Option, Some, None}
use Rattle.mdbox_base.specs.declared.replies.Refusal.{Refusal}
use Rattle.mdbox_base.specs.declared.replies.Refusal.TheVariants as refusal
use Rattle.mdbox_base.specs.declared.replies.Reply.{Reply}
use Rattle.mdbox_base.specs.declared.replies.Reply.TheVariants as reply
use Rattle.store_core.specs.Value.{StoreValue}

-- Why they aren't set, if there is a cause (`flag_refusal`), and nothing has changed. Else they are set; or there was no memory, and nothing
-- has changed; or the append failed, and the store is stopped.
abbrev pub WordsAnswers : {D : Type 0} → Option Refusal → StoreValue D → StoreValue D → Reply → Type 0
WordsAnswers (Some why) old new given = (given ≡ reply.Refused why) × (new ≡ old)
WordsAnswers None old new given =
    (given ≡ reply.Done) ⊎ (((given ≡ reply.Refused refusal.NoMemory) × (new ≡ old)) ⊎ ((given ≡ reply.Refused refusal.Stopped) × (new.stopped ≡ true)))
