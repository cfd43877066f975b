use Rattle.sis_store.proofs.CandidateLemmas.{none_yet, one_more, all_compared, candidate_known, fewer}
use Rattle.sis_store.proofs.laws.candidates_are_compared.Goals as goal

pub returns : goal.returns
returns c = record {
  none_yet = λ hash size octets known history. none_yet hash size octets known history;
  one_more = λ hash size octets after id known history rise seen is unlike. one_more hash size octets after id known history rise seen is unlike;
  all = λ hash size octets after known history seen is. all_compared hash size octets after known history seen is;
  known = λ hash size after id known rise is. candidate_known hash size after id known rise is;
  fewer = λ hash size after id known is. fewer hash size after id known is;
}
