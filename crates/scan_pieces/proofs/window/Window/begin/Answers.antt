use Rattle.std.proofs.Common.{List, ℕ, ap, ◌∙◌, subst}
use Rattle.disk_model.proofs.IdleLemmas.{idle-then}
use Rattle.scan_pieces.proofs.HeaderPieceLemmas.{header_told_on}
use Rattle.scan_pieces.specs.Pieces.{HeaderGives}
use Rattle.scan_pieces.specs.WindowValue.{WindowValue}
use Rattle.scan_pieces.proofs.window.Window.begin.Goals as goal

pub returns-in_err-load-clause-idle : goal.returns-in_err-load-clause-idle
returns-in_err-load-clause-idle g c = idle-then (g.D.Disk.history c.args.disk.now) (g.D.Disk.history c.size_of.new.disk) (g.D.Disk.history c.load.new.disk) c.size_of.ensures.idle c.load.ensures.idle

pub returns-clause-header : goal.returns-clause-header
returns-clause-header g c =
    let number = c.load.ensures.same.0 ∙ ap (λ (w : WindowValue). w.number) c.turn.ensures in
    header_told_on (g.D.Disk.history c.load.new.disk) c.load.new.self c.args.number.0 c.header_in.result number c.load.ensures.start c.in_ok-load.ensures.loaded
    (subst (λ (o : List ℕ). HeaderGives o c.header_in.result) c.part.ensures c.header_in.ensures.gives)

pub returns-clause-idle : goal.returns-clause-idle
returns-clause-idle g c = idle-then (g.D.Disk.history c.args.disk.now) (g.D.Disk.history c.size_of.new.disk) (g.D.Disk.history c.load.new.disk) c.size_of.ensures.idle c.load.ensures.idle
