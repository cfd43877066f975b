use Rattle.std.proofs.Common.{◌++◌, ◌+◌, map, ◌<◌, ◌^◌, ◌∙◌, List, ℕ, ap, sym, subst, arith, length}
use Rattle.model_storage.specs.References.{reference_text}
use Rattle.attach_detach.specs.declared.message.Detached.{Detached}
use Rattle.saved_message.specs.Laid.{IsLaid, LaidValue}
use Rattle.saved_message.specs.Region.{reference_to, unknown_id, unknown_guid, unknown_ids}
use Rattle.saved_message.proofs.LayoutLemmas.{can_be_laid, laid_out, numbers_short, unknown_lines, unknown_short}
use Rattle.saved_message.proofs.ReferenceLemmas.{body_short, prepared_fits_layout}
use Rattle.saved_message.proofs.layout.lay_out.Goals as goal

pub push_lines-requires : goal.push_lines-requires
push_lines-requires c = prepared_fits_layout c.requires.0 c.args.prepared c.requires.1 c.requires.2

pub texts_of-requires-clause-body : goal.texts_of-requires-clause-body
texts_of-requires-clause-body c =
    let short = body_short c.requires.0 c.args.prepared c.requires.2 in
    let small = c.requires.1 in
    omega (arith, short, small)

pub texts_of-requires-clause-lines : goal.texts_of-requires-clause-lines
texts_of-requires-clause-lines c =
    let timed : c.args.time < 2 ^ 64 = (let fits = c.ranges.time.fits in omega (arith, fits)) in
    let can = can_be_laid c.args.name.now c.as_octets-name_size.result.now c.args.time c.args.prepared c.as_octets-name_size.ensures.same c.as_octets-name_size.ensures.name timed c.requires in
    unknown_lines c.args.name.now c.args.time can.0 c.args.prepared c.as_slice-2.result.now c.made_metadata_is_said.ensures can.1 (c.as_slice-2.ensures ∙ c.in_ok-lines.ensures.text)

pub texts_of-requires-clause-block : goal.texts_of-requires-clause-block
texts_of-requires-clause-block c =
    let timed : c.args.time < 2 ^ 64 = (let fits = c.ranges.time.fits in omega (arith, fits)) in
    let can = can_be_laid c.args.name.now c.as_octets-name_size.result.now c.args.time c.args.prepared c.as_octets-name_size.ensures.same c.as_octets-name_size.ensures.name timed c.requires in
    let short = unknown_short c.args.name.now c.args.time can.0 c.args.prepared c.as_slice-2.result.now can.1 (c.as_slice-2.ensures ∙ c.in_ok-lines.ensures.text) in
    omega (arith, short)

pub of-requires-clause-short : goal.of-requires-clause-short
of-requires-clause-short c =
    let short = body_short c.requires.0 c.args.prepared c.requires.2 in
    let small = c.requires.1 in
    let same = c.length-body_size.ensures in
    let timed : c.args.time < 2 ^ 64 = (let fits = c.ranges.time.fits in omega (arith, fits)) in
    let can = can_be_laid c.args.name.now c.as_octets-name_size.result.now c.args.time c.args.prepared c.as_octets-name_size.ensures.same c.as_octets-name_size.ensures.name timed c.requires in
    let numbers = numbers_short c.args.name.now c.args.time can.0 c.args.prepared c.in_ok-lines.lines can.1 c.in_ok-lines.ensures.text in
    let before = c.in_ok-lines.ensures.before in
    let named = c.as_octets-name_size.ensures.name.short in
    omega (arith, short, small, same, numbers, before, named)

pub of-requires-clause-texts : goal.of-requires-clause-texts
of-requires-clause-texts c = let same = c.length-body_size.ensures in let before = c.in_ok-texts.ensures.before in omega (arith, same, before)

pub returns-clause-laid : goal.returns-clause-laid
returns-clause-laid c =
    let timed : c.args.time < 2 ^ 64 = (let fits = c.ranges.time.fits in omega (arith, fits)) in
    let can = can_be_laid c.args.name.now c.as_octets-name_size.result.now c.args.time c.args.prepared c.as_octets-name_size.ensures.same c.as_octets-name_size.ensures.name timed c.requires in
    let p = c.args.prepared in
    let t = c.in_ok-texts.texts in
    let body : ℕ = c.length-body_size.result in
    let name : ℕ = length c.as_octets-name_size.result.now in
    let same = c.length-body_size.ensures in
    let named = ap length c.as_octets-name_size.ensures.same in
    let at : ℕ = 34 + body + c.in_ok-lines.before + 1 in
    let laid = laid_out c.args.name.now c.args.time can.0 p c.as_slice-2.result.now ((t.front.items ++ t.body) ++ t.back.items) c.in_ok-lines.before at (at + 32 + 3 + name) c.in_ok-sizes.sizes.items
    c.made_metadata_is_said.ensures can.1 (c.as_slice-2.ensures ∙ c.in_ok-lines.ensures.text) c.in_ok-lines.ensures.before (omega (arith, same)) (omega (arith, named))
    (c.in_ok-sizes.ensures ∙ ap (λ (x : List Detached). map (λ d. length (reference_text (reference_to d unknown_id))) x) c.as_slice.ensures)
    c.in_ok-texts.ensures.region in
    subst (λ (x : LaidValue). IsLaid c.args.name.now c.args.time p (unknown_ids p.parts) unknown_guid x) (sym c.of.ensures) laid
