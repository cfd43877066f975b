use Rattle.std.proofs.Common.{◌≡◌, Ok, sym, ◌∙◌, ap}
use Rattle.hex.specs.Hex.{decode_sized}
use Rattle.hex.proofs.HexLemmas.{decode_sized-encode_lower}
use Rattle.mdbox_base.proofs.LowerHexLemmas.{no_capitals, digits_back, ok_from_some, octets_are_bytes}
use Rattle.mdbox_base.proofs.lower_hex.read_lower_hex.Goals as goal

pub returns-in_err-octets-clause-none : goal.returns-in_err-octets-clause-none
returns-in_err-octets-clause-none g c =
    rw c.from_residual.ensures (λ octets l o e.
    let is : c.from_hex.result ≡ Ok octets = c.from_hex.ensures ∙ ap (λ t. decode_sized t g.row.N) e ∙ decode_sized-encode_lower octets g.row.N l (octets_are_bytes octets o) in
    let some = rw is at c.ok.ensures.value in
    absurd (let n = sym c.in_err-octets.was ∙ some in cc n))

pub returns-then-has_capital-clause-none : goal.returns-then-has_capital-clause-none
returns-then-has_capital-clause-none g c = λ octets l o e.
    absurd (let n = sym c.if-has_capital.true ∙ rw e at c.has_capital.ensures ∙ no_capitals octets o in cc n)

pub returns-clause-some : goal.returns-clause-some
returns-clause-some g c =
    let read : c.from_hex.result ≡ Ok c.in_ok-octets.octets = ok_from_some c.from_hex.result c.in_ok-octets.octets (sym c.ok.ensures.value ∙ c.in_ok-octets.was) in
    digits_back c.args.text.now c.in_ok-octets.octets g.row.N (sym c.has_capital.ensures ∙ c.if-has_capital.false) (sym c.from_hex.ensures ∙ read)
