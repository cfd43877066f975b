use Rattle.mail_ops.proofs.Common.{refl}
use Rattle.mdbox_base.specs.declared.entries.BoxEntry.TheVariants.{K}
use Rattle.mail_ops.proofs.WordsListLemmas.{no_mailbox, no_message, is_worded}
use Rattle.mail_ops.proofs.ShownEntryLemmas.{shown_entry}
use Rattle.mail_ops.proofs.laws.words_are_shown.Goals as goal

pub returns-clause-no_mailbox : goal.returns-clause-no_mailbox
returns-clause-no_mailbox c = no_mailbox

pub returns-clause-no_message : goal.returns-clause-no_message
returns-clause-no_message c = no_message

pub returns-clause-worded : goal.returns-clause-worded
returns-clause-worded c = is_worded

pub returns-clause-shown : goal.returns-clause-shown
returns-clause-shown c = λ number octets uid words boxes meanings lists h. shown_entry number octets (K uid words) boxes meanings lists refl h
