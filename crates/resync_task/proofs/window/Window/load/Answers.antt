use Rattle.resync_task.proofs.Common.{◌+◌, ◌-◌, drop, refl, arith, length-drop, length-take-le}
use Rattle.resync_task.proofs.ReadLemmas.{only_none}
use Rattle.resync_task.proofs.WindowLemmas.{has_piece, loaded, piece_on, window_of}
use Rattle.resync_task.proofs.window.Window.load.Goals as goal
use borrow.Rule.Slice.PartMut.{same_len_mid}

pub returns-in_err-make_room-clause-only : goal.returns-in_err-make_room-clause-only
returns-in_err-make_room-clause-only g c = only_none c.args.store.now (g.D.Disk.history c.args.store.now.disk)

pub returns-clause-part : goal.returns-clause-part
returns-clause-part g c =
    let octets = c.deref_mut.result.now in
    let many = 30 + c.args.wanted - 30 in
    let room = c.in_ok-make_room.ensures.room in
    let len = c.deref_mut.ensures.len in
    let ok = c.make_room.new.octets.ok in
    let rest = length-drop 30 octets in
    let size = length-take-le many (drop 30 octets) (omega (arith, room, len, ok, rest)) in
    let full = same_len_mid 30 many octets c.read_piece.new.into c.read_piece.auto.into in
    loaded (g.D.Disk.history c.args.store.now.disk) octets c.read_piece.new.into c.make_room.new.octets.items c.make_room.new.octets.len many c.in_ok-self-inside.field-0 _ c.args.wanted c.args.offset c.args.file.0
    (omega (arith, room, len, ok)) (omega (arith, size)) c.in_ok-self-inside.ensures.count (omega (arith, full, len, ok)) c.in_ok-self-inside.ensures.piece

pub returns-clause-has : goal.returns-clause-has
returns-clause-has g c =
    has_piece (g.D.Disk.history c.read_piece.new.self.disk) c.args.file.0 c.args.offset c.args.wanted (window_of c.args.offset _) refl
    (piece_on (g.D.Disk.history c.args.store.now.disk) (g.D.Disk.history c.read_piece.new.self.disk) c.args.file.0 c.args.offset c.args.wanted _ c.read_piece.ensures.idle (returns-clause-part g c))
