use Rattle.std.proofs.Common.{Err}
use Rattle.disk_model.proofs.IdleLemmas.{idle-begins, idle-on}
use Rattle.model_storage.specs.declared.places.PlaceError.TheVariants as at
use Rattle.scan_pieces.proofs.LongLemmas.{loaded_gives, long_told, short_here, shown_told, start_gives}
use Rattle.scan_pieces.proofs.WindowLemmas.{window_told}
use Rattle.scan_pieces.specs.WindowValue.{IsLoadedOn}
use Rattle.scan_pieces.proofs.window.Window.loaded_message.Goals as goal

pub returns-in-Some-clause-gives : goal.returns-in-Some-clause-gives
returns-in-Some-clause-gives g c =
    let old = g.D.Disk.history c.args.disk.now in
    shown_told old c.args.self.now c.args.offset c.in-Some.answer (window_told old c.args.self.now c.requires.loaded) c.in-Some.ensures.some

pub returns-in-Some-clause-window : goal.returns-in-Some-clause-window
returns-in-Some-clause-window g c = window_told (g.D.Disk.history c.args.disk.now) c.args.self.now c.requires.loaded

pub returns-in-Some-clause-idle : goal.returns-in-Some-clause-idle
returns-in-Some-clause-idle g c = idle-begins (g.D.Disk.history c.args.disk.now)

pub body_told-requires-clause-short : goal.body_told-requires-clause-short
body_told-requires-clause-short g c = short_here c.args.self.now c.args.offset c.requires.at c.in_default.ensures.none.0

pub returns-in_default-body_told-clause-gives : goal.returns-in_default-body_told-clause-gives
returns-in_default-body_told-clause-gives g c =
    loaded_gives (g.D.Disk.history c.args.disk.now) c.args.self.now c.args.offset (Err (at.Truncated c.args.offset)) c.requires.loaded (start_gives c.args.self.now c.args.offset c.requires.at c.in_default-body_told.ensures.none)

pub returns-in_default-body_told-clause-window : goal.returns-in_default-body_told-clause-window
returns-in_default-body_told-clause-window g c = window_told (g.D.Disk.history c.args.disk.now) c.args.self.now c.requires.loaded

pub returns-in_default-body_told-clause-idle : goal.returns-in_default-body_told-clause-idle
returns-in_default-body_told-clause-idle g c = idle-begins (g.D.Disk.history c.args.disk.now)

pub load-requires-clause-window : goal.load-requires-clause-window
load-requires-clause-window g c = window_told (g.D.Disk.history c.args.disk.now) c.args.self.now c.requires.loaded

pub returns-clause-gives : goal.returns-clause-gives
returns-clause-gives g c =
    let new = g.D.Disk.history c.load.new.disk in
    let loaded = idle-on (IsLoadedOn c.args.self.now) (g.D.Disk.history c.args.disk.now) new c.load.ensures.idle c.requires.loaded in
    long_told new c.args.self.now c.load.new.self c.args.offset c.in-Some-body_told.size c.message_to.result c.load.ensures.same.0 loaded c.in_ok-load.ensures.loaded c.in-Some-body_told.ensures.some c.requires.at c.message_to.ensures.gives
