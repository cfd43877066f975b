use Rattle.mail_ops.proofs.Common.{refl}
use Rattle.mdbox_base.specs.declared.entries.BoxEntry.TheVariants.{F}
use Rattle.mail_ops.proofs.FlagListLemmas.{no_mailbox, no_message, is_flagged}
use Rattle.mail_ops.proofs.ShownEntryLemmas.{shown_entry}
use Rattle.mail_ops.proofs.laws.flags_are_shown.Goals as goal

pub returns-clause-no_mailbox : goal.returns-clause-no_mailbox
returns-clause-no_mailbox c = no_mailbox

pub returns-clause-no_message : goal.returns-clause-no_message
returns-clause-no_message c = no_message

pub returns-clause-flagged : goal.returns-clause-flagged
returns-clause-flagged c = is_flagged

pub returns-clause-shown : goal.returns-clause-shown
returns-clause-shown c = λ number octets uid flags boxes meanings lists h. shown_entry number octets (F uid flags) boxes meanings lists refl h
