use Rattle.std.proofs.Common.{◌≡◌, List, ℕ, ◌∷◌, ◌++◌, length, ap, sym, ◌∙◌, arith}
use Rattle.std.specs.Int.{w16, to_be_bytes}
use Rattle.model_logs.specs.Entries.{four}
use Rattle.model_octets.proofs.PiecesLemmas.{split_same}
use Rattle.log_records.specs.Stored.{stored_text}
use Rattle.log_records.proofs.ListItemLemmas.{none_of, some_of}
use Rattle.log_records.proofs.map_read.stored.Goals as goal

pub returns-in_default-2 : goal.returns-in_default-2
returns-in_default-2 c = λ origin count uid file offset size guid instances lg li all is.
    let front : List ℕ = origin ∷ (to_be_bytes w16 count ++ (four uid.0 ++ (four file.0 ++ (four offset ++ (four size ++ guid.0))))) in
    let l : length (stored_text c.in-Some.stored) ≡ length front = omega (arith, lg, c.in-Some.ensures.1.6) in
    let s = split_same (stored_text c.in-Some.stored) front c.in-Some.rest.now _ l (sym c.in-Some.ensures.0 ∙ is) in
    none_of _ _ _ c.in_default-2.is c.in_ok-instances.ensures instances li all s.1

pub returns : goal.returns
returns c =
    let h = some_of _ _ _ _ c.in-Some-2.is c.in_ok-instances.ensures in
    let r = c.in-Some.ensures.1 in
    record {
      text = ap (λ (t : List ℕ). 83 ∷ t) (c.in-Some.ensures.0 ∙ ap (λ (t : List ℕ). stored_text c.in-Some.stored ++ t) h.0);
      in_range = (r.0, r.1, r.2, r.3, r.4, r.5, r.6, h.1, h.2);
    }
