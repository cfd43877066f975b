use Rattle.std.proofs.Common.{◌≡◌, ◌-◌, List, ℕ, inl, inr, sym, subst, ap, ◌∙◌, arith}
use Rattle.scan_pieces.proofs.WindowLemmas.{shown_gives, final_of, slice_rest}
use Rattle.scan_pieces.specs.Pieces.{TextGives}
use Rattle.scan_pieces.specs.WindowValue.{WindowValue}
use Rattle.scan_pieces.proofs.window.Window.shown.Goals as goal

pub returns-then-not-is_short-clause-some : goal.returns-then-not-is_short-clause-some
returns-then-not-is_short-clause-some c = λ octets is.
    let from = ap (λ (w : WindowValue). c.args.offset - w.start) c.self.view_is in
    let gives = subst (λ (o : List ℕ). TextGives o c.args.offset c.message_in-answer.result) (slice_rest _ _ _ _ c.part.ensures from) c.message_in-answer.ensures.gives in
    shown_gives c.args.self.now octets c.args.offset c.message_in-answer.result is c.requires.low c.requires.high gives (inl (final_of c.message_in-answer.result (sym c.is_short.ensures ∙ c.if-not-is_short.true)))

pub returns-clause-some : goal.returns-clause-some
returns-clause-some c = λ octets is.
    let from = ap (λ (w : WindowValue). c.args.offset - w.start) c.self.view_is in
    let gives = subst (λ (o : List ℕ). TextGives o c.args.offset c.message_in-answer.result) (slice_rest _ _ _ _ c.part.ensures from) c.message_in-answer.ensures.gives in
    let size : c.self.inside.size ≡ c.args.self.now.size = ap (λ (w : WindowValue). w.size) c.self.view_is in
    let last = c.if-end-self.false in
    let end = c.end-end.ensures.end in
    shown_gives c.args.self.now octets c.args.offset c.message_in-answer.result is c.requires.low c.requires.high gives (inr (omega (arith, size, last, end)))
