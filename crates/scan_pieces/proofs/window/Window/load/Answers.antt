use Rattle.std.proofs.Common.{◌≡◌, ◌++◌, sym, arith, subst, length, take, drop}
use Rattle.std.proofs.lemmas.List.{take_at}
use Rattle.disk_model.proofs.IdleLemmas.{idle-on}
use Rattle.disk_model.specs.Disk.{IfTold}
use Rattle.scan_pieces.proofs.WindowLemmas.{loaded_told, window_told}
use Rattle.scan_pieces.specs.WindowValue.{WindowValue, IsWindowOn, IsLoadedOn}
use Rattle.scan_pieces.proofs.window.Window.load.Goals as goal

pub returns-clause-loaded : goal.returns-clause-loaded
returns-clause-loaded g c =
    let old = g.D.Disk.history c.args.disk.now in
    let window = subst (λ (w : WindowValue). IfTold old (IsWindowOn w)) (sym c.self.view_is) c.requires.window in
    let len = c.fill.auto.octets in
    let same = c.deref_mut.ensures.len in
    let ok = c.self.inside.octets.ok in
    let whole : take c.self.inside.octets.len (c.fill.new.octets ++ drop (length c.fill.new.octets) c.self.inside.octets.items) ≡ c.fill.new.octets = take_at c.fill.new.octets _ c.self.inside.octets.len (omega (arith, len, same, ok)) in
    let loaded = loaded_told old _ c.args.offset c.min-wanted.result (take c.in_ok-self-inside.field-0 (drop 30 c.fill.new.octets)) window c.min-wanted.ensures c.in_ok-self-inside.ensures.piece in
    rw whole (idle-on (IsLoadedOn _) old (g.D.Disk.history c.fill.new.disk) c.fill.ensures.idle loaded)

pub returns-clause-window : goal.returns-clause-window
returns-clause-window g c = window_told (g.D.Disk.history c.fill.new.disk) _ (returns-clause-loaded g c)
