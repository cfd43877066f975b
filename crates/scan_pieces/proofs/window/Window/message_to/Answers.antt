use Rattle.std.proofs.Common.{◌≡◌, Ok, Err, ap, ◌∙◌, arith}
use Rattle.model_storage.specs.declared.places.PlaceError.TheVariants as at
use Rattle.scan_pieces.proofs.LongLemmas.{message_after}
use Rattle.scan_pieces.specs.WindowValue.{WindowValue}
use Rattle.scan_pieces.proofs.window.Window.message_to.Goals as goal

pub place_from-requires : goal.place_from-requires
place_from-requires c =
    let start : c.self.inside.start ≡ c.args.self.now.start = ap (λ (w : WindowValue). w.start) c.self.view_is in
    let at = c.requires in
    let within = c.in-Ok.ensures.within in
    omega (arith, start, at, within.0)

pub returns-in-Ok-clause-gives : goal.returns-in-Ok-clause-gives
returns-in-Ok-clause-gives c = λ octets l h.
    let end = c.end-end.ensures.end in
    let within = c.end-end.ensures.within in
    let after = message_after c.args.self.now octets c.args.offset c.args.size (Ok c.in-Ok.place) l c.requires (omega (arith, end, within)) h c.in-Ok.ensures.gives in
    let start : c.self.inside.start ≡ c.args.self.now.start = ap (λ (w : WindowValue). w.start) c.self.view_is in
    (after.0, after.1, after.2, after.3, after.4, c.place_from.ensures ∙ (rw start after.5))

pub returns-in-Ok-clause-within : goal.returns-in-Ok-clause-within
returns-in-Ok-clause-within c =
    let start : c.self.inside.start ≡ c.args.self.now.start = ap (λ (w : WindowValue). w.start) c.self.view_is in
    let at = c.requires in
    let within = c.in-Ok.ensures.within in
    let end = c.end-end.ensures.end in
    let high = c.end-end.ensures.within in
    rw c.place_from.ensures (omega (arith, start, at, within.0), omega (arith, start, within.0, within.1, end, high))

pub returns-in-Err-Truncated-clause-gives : goal.returns-in-Err-Truncated-clause-gives
returns-in-Err-Truncated-clause-gives c = λ octets l h.
    let end = c.end-end.ensures.end in
    let within = c.end-end.ensures.within in
    message_after c.args.self.now octets c.args.offset c.args.size (Err (at.Truncated c.in-Err-Truncated.field-0-0)) l c.requires (omega (arith, end, within)) h (rw c.in-Err-Truncated.field-0-is at c.in-Err-Truncated.ensures.gives)

pub returns-in-Err-BadMessage-clause-gives : goal.returns-in-Err-BadMessage-clause-gives
returns-in-Err-BadMessage-clause-gives c = λ octets l h.
    let end = c.end-end.ensures.end in
    let within = c.end-end.ensures.within in
    message_after c.args.self.now octets c.args.offset c.args.size (Err (at.BadMessage c.in-Err-BadMessage.field-0-0)) l c.requires (omega (arith, end, within)) h (rw c.in-Err-BadMessage.field-0-is at c.in-Err-BadMessage.ensures.gives)
