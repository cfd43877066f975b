use Rattle.std.proofs.Common.{◌≡◌, List, ℕ, sym, ◌∙◌, ap, arith, slice_index}
use Rattle.hex.specs.Hex.{encode_lower}
use Rattle.model_storage.proofs.ReferenceLemmas.{hex_same}
use Rattle.file_paths.proofs.InstLemmas.{named, cut_digits}
use Rattle.file_paths.proofs.read.inst_in.Goals as goal
use Rattle.file_paths.proofs.read.inst_in.Goals.{then-hash-first-via-then-hash-first, then-hash-first-via-else-hash-first+then-hash-second}

pub returns-in_err-hash-clause-none : goal.returns-in_err-hash-clause-none
returns-in_err-hash-clause-none c =
    rw c.from_residual.ensures (λ hash id h e.
    let n = named c.args.first c.args.second c.args.text.now hash id (omega arith) (omega arith) h e in
    c.in_err-hash.ensures.none (encode_lower hash) (encode_lower id) n.2)

pub returns-in_err-hash-2-clause-none : goal.returns-in_err-hash-2-clause-none
returns-in_err-hash-2-clause-none c =
    rw c.from_residual-in_err-hash-2.ensures (λ hash id h e.
    let n = named c.args.first c.args.second c.args.text.now hash id (omega arith) (omega arith) h e in
    let r = cut_digits 45 hash c.in_ok-hash.hash.now c.in_ok-hash.id.now _ (omega arith) h.1 c.in_ok-hash.ensures.some.1 (sym c.in_ok-hash.ensures.some.0 ∙ n.2) in
    c.in_err-hash-2.ensures.none hash h.0 h.1 r.0)

pub returns-in_err-id-clause-none : goal.returns-in_err-id-clause-none
returns-in_err-id-clause-none c =
    rw c.from_residual-in_err-id.ensures (λ hash id h e.
    let n = named c.args.first c.args.second c.args.text.now hash id (omega arith) (omega arith) h e in
    let r = cut_digits 45 hash c.in_ok-hash.hash.now c.in_ok-hash.id.now _ (omega arith) h.1 c.in_ok-hash.ensures.some.1 (sym c.in_ok-hash.ensures.some.0 ∙ n.2) in
    c.in_err-id.ensures.none id h.2 h.3 r.1)

pub returns-then-hash-first-clause-none : goal.returns-then-hash-first-clause-none
returns-then-hash-first-clause-none c = λ hash id h e.
    let n = named c.args.first c.args.second c.args.text.now hash id (omega arith) (omega arith) h e in
    let r = cut_digits 45 hash c.in_ok-hash.hash.now c.in_ok-hash.id.now _ (omega arith) h.1 c.in_ok-hash.ensures.some.1 (sym c.in_ok-hash.ensures.some.0 ∙ n.2) in
    let same : hash ≡ c.in_ok-hash-2.hash = hex_same hash c.in_ok-hash-2.hash h.1 c.in_ok-hash-2.ensures.some.1 (sym r.0 ∙ c.in_ok-hash-2.ensures.some.2) in
    elim c.then-hash-first.branch [
      | then-hash-first-via-then-hash-first w ↦ w.if-hash-first.true (ap (λ (xs : List ℕ). slice_index xs 0) (sym same) ∙ sym n.0)
      | then-hash-first-via-else-hash-first+then-hash-second w ↦ w.if-hash-second.true (ap (λ (xs : List ℕ). slice_index xs 1) (sym same) ∙ sym n.1)
    ]
