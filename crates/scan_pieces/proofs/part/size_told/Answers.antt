use Rattle.scan_pieces.proofs.PieceLemmas.{told_size}
use Rattle.scan_pieces.proofs.part.size_told.Goals as goal

pub returns : goal.returns
returns c = λ size header. told_size c.args.text.now size c.read_hex.result c.requires header c.read_hex.ensures.some c.read_hex.ensures.none
