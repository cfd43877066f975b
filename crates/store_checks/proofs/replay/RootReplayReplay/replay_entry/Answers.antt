use Rattle.store_checks.proofs.ReplayLemmas.{root_taken, some_text}
use Rattle.store_checks.proofs.replay.RootReplayReplay.replay_entry.Goals as goal

pub returns-clause-taken : goal.returns-clause-taken
returns-clause-taken c = λ texts f. root_taken c.args.self.now.last texts c.args.text.now c.in-Some.entry c.generation_of.result c.generation_of.ensures (some_text _ _ _ _ c.in-Some.is c.in_ok-entry.ensures) f
