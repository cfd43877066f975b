use Rattle.std.proofs.Common.{arith}
use Rattle.disk_model.proofs.MomentLemmas.{if_told-map}
use Rattle.rebuild_judge.proofs.LineLemmas.{lines_say}
use Rattle.rebuild_judge.specs.Reading.{SayOn}
use Rattle.rebuild_judge.proofs.lines.read_lines.Goals as goal

pub returns-clause-say : goal.returns-clause-say
returns-clause-say g c =
    if_told-map _ (SayOn c.args.number.0 c.args.place.now c.in_ok-meta.meta) (g.D.Disk.history c.args.disk.now)
    (λ disk read. lines_say c.args.number.0 c.args.place.now _ c.in_ok-meta.meta c.saturating_sub-size.result disk (let a = c.saturating_sub.ensures in let b = c.saturating_sub-size.ensures in omega (arith, a, b)) read (rw c.deref.ensures.value at c.in_ok-meta.ensures.says)) c.in_ok-lines.ensures.part
