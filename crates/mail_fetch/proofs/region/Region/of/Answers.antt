use Rattle.mail_fetch.proofs.Common.{◌≡◌, ◌≤◌, ℕ, drop, refl, length, length-append, List, All, ◌∙◌, sym, ap, subst, arith, sum_by, Part, octets_to_read, pieces_left, IsPart}
use Rattle.mail_fetch.specs.Held.{HoldsPart, octets_held}
use Rattle.mail_fetch.specs.Task.{most_pieces}
use Rattle.mail_fetch.proofs.PartLemmas.{behind_region, few_pieces, total_of_parts}
use Rattle.mail_fetch.proofs.region.Region.of.Goals as goal

pub invariant_of-result : goal.invariant_of-result
invariant_of-result c =
    let total : c.in_ok-total.total ≡ octets_to_read c.args.from = rw c.in_ok-total.ensures.ok_part at c.octets_to_read.ensures in
    let parts = ap (sum_by (λ (part : Part). part.size)) c.in_ok-parts.ensures.parts ∙ total_of_parts c.args.from in
    let empty = c.in_ok-with_capacity.ensures.items in
    let none = ap (λ (xs : List ℕ). length xs) c.in_ok-nothing_held.ensures.none in
    let none_first = ap (λ (xs : List ℕ). length xs) empty in
    let both = length-append c.in_ok-with_capacity.field-0.items (octets_held c.args.from.instances c.in_ok-nothing_held.field-0) in
    let header = c.in_ok-with_capacity.ensures.exact in (
      record { total_is = total; head_room = omega (arith, header); fits = omega (arith, both, none, none_first, parts, total); each = c.in_ok-parts.ensures.range },
      subst (λ (xs : List ℕ). HoldsPart c.args.from xs (sum_by (λ (part : Part). part.size) c.in_ok-parts.parts.items) c.in_ok-nothing_held.field-0) (sym empty) (c.in_ok-nothing_held.ensures.held (sum_by (λ (part : Part). part.size) c.in_ok-parts.parts.items)),
      λ unknown some. (
        refl,
        ap (λ (ps : List Part). sum_by (λ (part : Part). part.size) (drop 1 ps)) c.in_ok-parts.ensures.parts ∙ behind_region c.args.from (let long = c.in_ok-nothing_held.ensures.long unknown some in omega (arith, long)),
      ),
      omega (arith, c.in_ok-vec.field-0.ok.0, c.in_ok-vec.ensures.len),
    )

pub returns-clause-pieces : goal.returns-clause-pieces
returns-clause-pieces c = λ few.
    let parts = c.in_ok-parts.ensures in
    subst (λ (ps : List Part). pieces_left ps ≤ most_pieces) (sym parts.parts) (few_pieces c.args.from few (subst (All IsPart) parts.parts parts.range))
