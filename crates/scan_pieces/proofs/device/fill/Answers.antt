use Rattle.std.proofs.Common.{arith, drop, ◌+◌, ◌-◌}
use Rattle.std.proofs.lemmas.List.{length-drop, length-take-le}
use Rattle.std.proofs.lemmas.Slice.{take-put_mid_below}
use Rattle.scan_pieces.proofs.FillLemmas.{piece_put}
use Rattle.scan_pieces.proofs.device.fill.Goals as goal

pub returns-clause-head : goal.returns-clause-head
returns-clause-head g c = take-put_mid_below 30 (30 + c.args.wanted - 30) c.args.octets.now c.read_piece.new.into 30 (omega arith) (let r = c.requires in omega (arith, r))

pub returns-clause-piece : goal.returns-clause-piece
returns-clause-piece g c =
    let octets = c.args.octets.now in
    let r = c.requires in
    let k = 30 + c.args.wanted - 30 in
    let rest = length-drop 30 octets in
    let size = length-take-le k (drop 30 octets) (omega (arith, r, rest)) in
    piece_put c.read_piece.result (g.D.Disk.history c.args.disk.now) octets c.read_piece.new.into k _ c.args.wanted c.args.offset c.args.number.0 (omega (arith, r)) (omega (arith, size)) c.read_piece.ensures.count c.read_piece.ensures.piece
