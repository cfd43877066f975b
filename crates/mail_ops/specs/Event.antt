-- How an event is told that didn't do its part.
use Rattle.mdbox_base.specs.declared.progress.Did.{Did}
use Rattle.mdbox_base.specs.declared.progress.Did.TheVariants as did
use Rattle.mdbox_base.specs.declared.replies.Refusal.{Refusal}
use Rattle.mdbox_base.specs.declared.replies.Refusal.TheVariants as refusal
use Rattle.mdbox_base.specs.declared.script.Half.{Half}
use Rattle.mail_ops.specs.declared.event.NotDone.{NotDone}
use Rattle.mail_ops.specs.declared.event.NotDone.TheVariants as not_done

-- by which refusal it is replied
abbrev pub refusal_told : NotDone → Refusal
refusal_told (not_done.Refused why) = why
refusal_told not_done.NoMemory = refusal.NoMemory
refusal_told not_done.Stopped = refusal.Stopped

-- What it did: a refusal by a check is a step, want of memory is none, and the last is what a failed change made of it.
abbrev pub told_as : Half → Did → NotDone → Did
told_as half fault (not_done.Refused why) = did.Step half
told_as half fault not_done.NoMemory = did.Quiet
told_as half fault not_done.Stopped = fault
