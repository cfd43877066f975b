use Rattle.disk_model.proofs.IdleLemmas.{idle-begins, idle-unchanged}
use Rattle.gate_log.proofs.ReadFileLemmas.{front-short, front-whole}
use Rattle.gate_log.proofs.peek.peek_head.Goals as goal

pub returns-in-Err-Absent-clause-idle : goal.returns-in-Err-Absent-clause-idle
returns-in-Err-Absent-clause-idle g c = idle-unchanged _ _ _ (idle-begins _) c.read_at.ensures.state

pub returns-in-Err-Failed-clause-idle : goal.returns-in-Err-Failed-clause-idle
returns-in-Err-Failed-clause-idle g c = idle-unchanged _ _ _ (idle-begins _) c.read_at.ensures.state

pub returns-then-count-lt-FRONT_SIZE-clause-front : goal.returns-then-count-lt-FRONT_SIZE-clause-front
returns-then-count-lt-FRONT_SIZE-clause-front g c = front-short c.args.name _ c.read_at.new.into c.in-Ok.count c.read_at.auto.into c.if-count-lt-FRONT_SIZE.true c.in-Ok.ensures.octets

pub returns-then-count-lt-FRONT_SIZE-clause-idle : goal.returns-then-count-lt-FRONT_SIZE-clause-idle
returns-then-count-lt-FRONT_SIZE-clause-idle g c = idle-unchanged _ _ _ (idle-begins _) c.read_at.ensures.state

pub returns-clause-front : goal.returns-clause-front
returns-clause-front g c = front-whole c.args.name _ c.read_at.new.into c.in-Ok.count c.read_at.auto.into c.if-count-lt-FRONT_SIZE.false c.in-Ok.ensures.octets

pub returns-clause-idle : goal.returns-clause-idle
returns-clause-idle g c = idle-unchanged _ _ _ (idle-begins _) c.read_at.ensures.state
