use Rattle.std.proofs.Common.{◌≡◌, length, sym, ◌∙◌, arith}
use Rattle.model_octets.proofs.PiecesLemmas.{split_same}
use Rattle.log_records.specs.Added.{added_text}
use Rattle.log_records.proofs.ListItemLemmas.{none_of}
use Rattle.log_records.proofs.mailbox.added.Goals as goal

pub returns-in_default-2-clause-entry : goal.returns-in_default-2-clause-entry
returns-in_default-2-clause-entry c = λ front words long range is.
    let same : length (added_text c.in-Some.added) ≡ length front = omega (arith, long, c.in-Some.ensures.1.5) in
    let s = split_same (added_text c.in-Some.added) front c.in-Some.rest.now _ same (sym c.in-Some.ensures.0 ∙ is) in
    none_of _ _ _ c.in_default-2.is c.in_ok-words.ensures.words words range s.1
