use Rattle.disk_model.proofs.IdleLemmas.{idle-begins, idle-then}
use Rattle.scan_pieces.proofs.window.Window.message.Goals as goal

pub returns-in-Some-clause-idle : goal.returns-in-Some-clause-idle
returns-in-Some-clause-idle g c = idle-begins (g.D.Disk.history c.args.disk.now)

pub returns-clause-idle : goal.returns-clause-idle
returns-clause-idle g c = idle-then (g.D.Disk.history c.args.disk.now) (g.D.Disk.history c.load.new.disk) (g.D.Disk.history c.loaded_message.new.disk) c.load.ensures.idle c.loaded_message.ensures.idle
