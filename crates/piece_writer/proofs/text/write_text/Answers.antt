use Rattle.piece_writer.proofs.PieceLemmas.{prefix_given}
use Rattle.piece_writer.proofs.text.write_text.Goals as goal

pub returns-clause-err : goal.returns-clause-err
returns-clause-err g c = prefix_given c.give_all.result _ _ c.args.text.now c.give_all.ensures.err
