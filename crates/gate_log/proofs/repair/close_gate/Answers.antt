use Rattle.std.proofs.Common.{[]}
use Rattle.model_logs.specs.LogFile.{log_front}
use Rattle.disk_model.proofs.OtherFileLemmas.{apart_begins, apart_images}
use Rattle.gate_log.proofs.LogEndLemmas.{last-reads, last-keeps, still-images, gate-images, gate-reads_then, gate-keeps_then}
use Rattle.gate_log.proofs.repair.close_gate.Goals as goal

pub returns-then-gate-eq-CLOSED-clause-any_moment : goal.returns-then-gate-eq-CLOSED-clause-any_moment
returns-then-gate-eq-CLOSED-clause-any_moment g c = λ head entries h. (still-images c.args.name head entries c.args.end c.args.gate [] _ h).each

pub returns-then-gate-eq-CLOSED-clause-others_stay : goal.returns-then-gate-eq-CLOSED-clause-others_stay
returns-then-gate-eq-CLOSED-clause-others_stay g c = apart_images _ _ _ (apart_begins c.args.name _).each

pub put_octet-requires : goal.put_octet-requires
put_octet-requires g c = (log_front c.requires.stands.0 c.requires.stands.1, c.args.gate, [], last-reads c.args.name c.requires.stands.0 c.requires.stands.1 c.args.end c.args.gate _ c.requires.stands.2)

pub returns-clause-any_moment : goal.returns-clause-any_moment
returns-clause-any_moment g c = λ head entries h. gate-images c.args.name head entries c.args.end c.args.gate _ _ h (c.put_octet.ensures.any_moment (log_front head entries) c.args.gate [] (last-keeps c.args.name head entries c.args.end c.args.gate _ h))

pub returns-clause-reads : goal.returns-clause-reads
returns-clause-reads g c = gate-reads_then c.args.name c.args.end c.args.gate 0 _ _ c.put_octet.result c.put_octet.ensures.reads

pub returns-clause-keeps : goal.returns-clause-keeps
returns-clause-keeps g c = gate-keeps_then c.args.name c.args.end c.args.gate 0 _ _ c.put_octet.result c.put_octet.ensures.keeps
