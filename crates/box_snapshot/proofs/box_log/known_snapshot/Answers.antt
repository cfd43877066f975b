use Rattle.box_snapshot.proofs.BoxMeantLemmas.{can_be_written}
use Rattle.box_snapshot.proofs.box_log.known_snapshot.Goals as goal

pub returns : goal.returns
returns g c = λ m is. can_be_written _ c.args.store.now c.args.mailbox.0 m c.facts.ensures.store c.meanings_are_sound.ensures.mailbox c.rewritten_logs_mean_the_same.ensures.mailbox is
