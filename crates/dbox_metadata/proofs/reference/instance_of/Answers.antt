use Rattle.std.proofs.Common.{◌≡◌, ◌<◌, sym, ◌∙◌, ap, arith, List, ℕ, slice_index}
use Rattle.dbox_metadata.proofs.InstanceLemmas.{first_piece, second_piece, third_piece, path_pieces, same_octets, same_octet}
use Rattle.dbox_metadata.proofs.reference.instance_of.Goals as goal
use Rattle.dbox_metadata.proofs.reference.instance_of.Goals.{then-hash-front-via-then-hash-front, then-hash-front-via-else-hash-front+then-hash-next}

pub returns-in_err-first-clause-none : goal.returns-in_err-first-clause-none
returns-in_err-first-clause-none c =
    rw c.from_residual.ensures (λ hash id h. c.in_err-first.ensures.none _ _ (h.1 ∙ path_pieces hash id h.0))

pub returns-in_err-second-clause-none : goal.returns-in_err-second-clause-none
returns-in_err-second-clause-none c =
    rw c.from_residual-in_err-second.ensures (λ hash id h.
    let one = first_piece c.args.path.now c.in_ok-first.first.now c.in_ok-first.rest.now hash id c.in_ok-first.ensures.some.0 c.in_ok-first.ensures.some.1 h in
    c.in_err-second.ensures.none _ _ one.1)

pub returns-in_err-digits-clause-none : goal.returns-in_err-digits-clause-none
returns-in_err-digits-clause-none c =
    rw c.from_residual-in_err-digits.ensures (λ hash id h.
    let one = first_piece c.args.path.now c.in_ok-first.first.now c.in_ok-first.rest.now hash id c.in_ok-first.ensures.some.0 c.in_ok-first.ensures.some.1 h in
    let two = second_piece c.in_ok-second.second.now c.in_ok-second.name.now hash id c.in_ok-second.ensures.some.1 h.0 (sym c.in_ok-second.ensures.some.0 ∙ one.1) in
    c.in_err-digits.ensures.none _ _ two.1)

pub returns-in_err-front-clause-none : goal.returns-in_err-front-clause-none
returns-in_err-front-clause-none c =
    rw c.from_residual-in_err-front.ensures (λ hash id h.
    let one = first_piece c.args.path.now c.in_ok-first.first.now c.in_ok-first.rest.now hash id c.in_ok-first.ensures.some.0 c.in_ok-first.ensures.some.1 h in
    let lt : slice_index hash.0 0 < 256 = h.0.hash_octets 0 0 (omega (arith, h.0.hash_length)) in
    c.in_err-front.ensures.none (slice_index hash.0 0) lt one.0)

pub returns-in_err-next-clause-none : goal.returns-in_err-next-clause-none
returns-in_err-next-clause-none c =
    rw c.from_residual-in_err-next.ensures (λ hash id h.
    let one = first_piece c.args.path.now c.in_ok-first.first.now c.in_ok-first.rest.now hash id c.in_ok-first.ensures.some.0 c.in_ok-first.ensures.some.1 h in
    let two = second_piece c.in_ok-second.second.now c.in_ok-second.name.now hash id c.in_ok-second.ensures.some.1 h.0 (sym c.in_ok-second.ensures.some.0 ∙ one.1) in
    let lt : slice_index hash.0 1 < 256 = h.0.hash_octets 1 0 (omega (arith, h.0.hash_length)) in
    c.in_err-next.ensures.none (slice_index hash.0 1) lt two.0)

pub returns-in_err-hash-clause-none : goal.returns-in_err-hash-clause-none
returns-in_err-hash-clause-none c =
    rw c.from_residual-in_err-hash.ensures (λ hash id h.
    let one = first_piece c.args.path.now c.in_ok-first.first.now c.in_ok-first.rest.now hash id c.in_ok-first.ensures.some.0 c.in_ok-first.ensures.some.1 h in
    let two = second_piece c.in_ok-second.second.now c.in_ok-second.name.now hash id c.in_ok-second.ensures.some.1 h.0 (sym c.in_ok-second.ensures.some.0 ∙ one.1) in
    let three = third_piece c.in_ok-digits.digits.now c.in_ok-digits.id.now hash id c.in_ok-digits.ensures.some.1 h.0 (sym c.in_ok-digits.ensures.some.0 ∙ two.1) in
    c.in_err-hash.ensures.none hash.0 h.0.hash_length h.0.hash_octets three.0)

pub returns-in_err-id-clause-none : goal.returns-in_err-id-clause-none
returns-in_err-id-clause-none c =
    rw c.from_residual-in_err-id.ensures (λ hash id h.
    let one = first_piece c.args.path.now c.in_ok-first.first.now c.in_ok-first.rest.now hash id c.in_ok-first.ensures.some.0 c.in_ok-first.ensures.some.1 h in
    let two = second_piece c.in_ok-second.second.now c.in_ok-second.name.now hash id c.in_ok-second.ensures.some.1 h.0 (sym c.in_ok-second.ensures.some.0 ∙ one.1) in
    let three = third_piece c.in_ok-digits.digits.now c.in_ok-digits.id.now hash id c.in_ok-digits.ensures.some.1 h.0 (sym c.in_ok-digits.ensures.some.0 ∙ two.1) in
    c.in_err-id.ensures.none id.0 h.0.id_length h.0.id_octets three.1)

pub returns-then-hash-front-clause-none : goal.returns-then-hash-front-clause-none
returns-then-hash-front-clause-none c = λ hash id h.
    let one = first_piece c.args.path.now c.in_ok-first.first.now c.in_ok-first.rest.now hash id c.in_ok-first.ensures.some.0 c.in_ok-first.ensures.some.1 h in
    let two = second_piece c.in_ok-second.second.now c.in_ok-second.name.now hash id c.in_ok-second.ensures.some.1 h.0 (sym c.in_ok-second.ensures.some.0 ∙ one.1) in
    let three = third_piece c.in_ok-digits.digits.now c.in_ok-digits.id.now hash id c.in_ok-digits.ensures.some.1 h.0 (sym c.in_ok-digits.ensures.some.0 ∙ two.1) in
    let l0 : slice_index hash.0 0 < 256 = h.0.hash_octets 0 0 (omega (arith, h.0.hash_length)) in
    let l1 : slice_index hash.0 1 < 256 = h.0.hash_octets 1 0 (omega (arith, h.0.hash_length)) in
    let front : slice_index hash.0 0 ≡ c.in_ok-front.front = same_octet (slice_index hash.0 0) c.in_ok-front.front c.in_ok-first.first.now l0 c.in_ok-front.ensures.some.0 one.0 c.in_ok-front.ensures.some.1 in
    let next : slice_index hash.0 1 ≡ c.in_ok-next.next = same_octet (slice_index hash.0 1) c.in_ok-next.next c.in_ok-second.second.now l1 c.in_ok-next.ensures.some.0 two.0 c.in_ok-next.ensures.some.1 in
    let same : hash.0 ≡ c.in_ok-hash.hash = same_octets hash.0 c.in_ok-hash.hash c.in_ok-digits.digits.now h.0.hash_octets c.in_ok-hash.ensures.some.1 three.0 c.in_ok-hash.ensures.some.2 in
    elim c.then-hash-front.branch [
      | then-hash-front-via-then-hash-front w ↦ w.if-hash-front.true (ap (λ (xs : List ℕ). slice_index xs 0) (sym same) ∙ front)
      | then-hash-front-via-else-hash-front+then-hash-next w ↦ w.if-hash-next.true (ap (λ (xs : List ℕ). slice_index xs 1) (sym same) ∙ next)
    ]
