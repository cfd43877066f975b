use Rattle.mail_save.proofs.AttachmentSizeLemmas.{attachments_short}
use Rattle.mail_save.proofs.first.parts_of.Goals as goal

pub of-requires-2 : goal.of-requires-2
of-requires-2 c = rw c.in_ok-laid.ensures.parts (attachments_short c.args.prepared c.requires)
