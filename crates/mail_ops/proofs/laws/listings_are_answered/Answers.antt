use Rattle.mail_ops.proofs.Common.{meaning_named}
use Rattle.mail_ops.proofs.NamedListLemmas.{shows_box, answered}
use Rattle.mail_ops.proofs.laws.listings_are_answered.Goals as goal

pub returns : goal.returns
returns c = λ run event boxes meanings lists name h. answered run event lists name (meaning_named name boxes meanings) (shows_box name boxes meanings lists h)
