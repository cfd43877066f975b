use Rattle.mail_fetch.proofs.Common.{inl, with_piece}
use Rattle.mail_fetch.proofs.LastPieceLemmas.{last_piece, goes_on_reading, left_on, fewer_on}
use Rattle.mail_fetch.proofs.ReadyLemmas.{ready_on}
use Rattle.mail_fetch.proofs.task.read_piece.Goals as goal

pub returns-in-Ok-clause-read : goal.returns-in-Ok-clause-read
returns-in-Ok-clause-read g c =
    let p = c.in-Ok.ensures.piece in
    inl (p.0, p.1, last_piece (with_piece c.args.region p.0) c.read_next.new.self c.into_reply-from.result.0 c.into_reply-from.result.1 p.2 c.into_reply-from.ensures.from (c.is_read.ensures.0 c.if-is_read.true) c.into_reply-from.ensures.reply)

pub returns-in-Ok-2-clause-read : goal.returns-in-Ok-2-clause-read
returns-in-Ok-2-clause-read g c =
    let p = c.in-Ok-2.ensures.piece in
    inl (p.0, p.1, goes_on_reading (with_piece c.args.region p.0) c.read_next.new.self p.2 (λ none. let yes = c.is_read.ensures.1 none in let not_yet = c.if-is_read.false in cc (yes, not_yet)))

pub returns-in-Ok-2-clause-left : goal.returns-in-Ok-2-clause-left
returns-in-Ok-2-clause-left g c =
    let p = c.in-Ok-2.ensures.piece in
    left_on c.args.region c.read_next.new.self p.0 c.requires.left p.2 (λ none. let yes = c.is_read.ensures.1 none in let not_yet = c.if-is_read.false in cc (yes, not_yet))

pub returns-in-Ok-2-clause-fewer : goal.returns-in-Ok-2-clause-fewer
returns-in-Ok-2-clause-fewer g c =
    let p = c.in-Ok-2.ensures.piece in
    fewer_on c.args.region c.read_next.new.self p.0 c.requires.left p.2

pub returns-in-Ok-clause-ready : goal.returns-in-Ok-clause-ready
returns-in-Ok-clause-ready g c = λ ready. ready_on c.args.region _ c.args.store.now c.read_next.new.store (g.D.Disk.history c.args.store.now.disk) (g.D.Disk.faults c.args.store.now.disk) (g.D.Disk.faults c.read_next.new.store.disk) c.in-Ok.ensures.same (returns-in-Ok-clause-read g c) ready

pub returns-in-Ok-2-clause-ready : goal.returns-in-Ok-2-clause-ready
returns-in-Ok-2-clause-ready g c = λ ready. ready_on c.args.region _ c.args.store.now c.read_next.new.store (g.D.Disk.history c.args.store.now.disk) (g.D.Disk.faults c.args.store.now.disk) (g.D.Disk.faults c.read_next.new.store.disk) c.in-Ok-2.ensures.same (returns-in-Ok-2-clause-read g c) ready
