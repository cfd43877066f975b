use Rattle.std.proofs.Common.{◌≡◌, ◌≤◌, ◌-◌, length, take, drop, arith, refl, ap, ℕ, ◌∙◌, List}
use Rattle.base64.specs.Engines.{standard}
use Rattle.base64.specs.GeneralPurpose.{encoded_size_of}
use Rattle.std.proofs.Math.Seq.{drop-append_seam}
use Rattle.std.proofs.lemmas.List.{length-take-le, length-drop}
use Rattle.model_base64.proofs.Base64Lemmas.{length-padded}
use Rattle.model_base64.specs.Base64Text.{padded}
use Rattle.b64_lines.proofs.WriterLemmas.{behind_encoded}
use Rattle.b64_lines.proofs.writer.put_last.Goals as goal

pub unreachable-requires : goal.unreachable-requires
unreachable-requires c =
    let size = length-padded c.args.octets.now in
    let room = c.requires in
    let left = length-drop c.args.at c.args.into.now in
    let long = length-take-le (length c.args.into.now - c.args.at) (drop c.args.at c.args.into.now) (omega (arith, left)) in
    let e = c.in_default.ensures.fits (omega (arith, size, room, long)) in
    cc e

pub returns-clause-behind : goal.returns-clause-behind
returns-clause-behind c =
    let within : c.args.at ≤ length c.args.into.now = omega (arith, c.requires) in
    let long : length c.encode_slice.new.output ≡ length c.args.into.now - c.args.at = c.encode_slice.auto.output ∙ length-take-le (length c.args.into.now - c.args.at) (drop c.args.at c.args.into.now) (omega (arith, length-drop c.args.at c.args.into.now)) in
    let text = padded c.args.octets.now in
    let old : List ℕ = take (length c.args.into.now - c.args.at) (drop c.args.at c.args.into.now) in
    let four = length-padded c.args.octets.now in
    let room = c.requires in
    let left = length-drop c.args.at c.args.into.now in
    let there = length-take-le (length c.args.into.now - c.args.at) (drop c.args.at c.args.into.now) (omega (arith, left)) in
    let is = c.in-Ok.ensures.fits (omega (arith, four, room, there)) in
    let same : encoded_size_of standard (length c.args.octets.now) ≡ c.in-Ok.size = cc is in
    let size : c.in-Ok.size ≡ length text = omega (arith, four, same) in
    behind_encoded c.args.at c.in-Ok.size (length c.args.into.now - c.args.at) c.args.into.now c.encode_slice.new.output within long refl
    (ap (λ (n : ℕ). drop n c.encode_slice.new.output) size ∙ ap (drop (length text)) c.in-Ok.ensures.written ∙ drop-append_seam text (drop (encoded_size_of standard (length c.args.octets.now)) old) ∙ ap (λ (n : ℕ). drop n old) same)
