use Rattle.std.proofs.Common.{◌<◌, ◌≤◌, ◌≡◌, arith, sym, ◌∙◌, ap, length, length-append, rules}
use Rattle.std.specs.Prelude.{◌++◌}
use Rattle.std.proofs.lemmas.Grind.{common_steps}
use Rattle.script_text.specs.Script.{BeginsNoRequest, request_text}
use Rattle.script_text.specs.Taking.{extent}
use Rattle.script_text.specs.declared.take.Extent.{Extent}
use Rattle.script_text.proofs.NeedLemmas.{needed_in_front}
use Rattle.script_text.proofs.TakeLemmas.{all_taken, just_taken, none_in_front, of_taken, request_short, some_taken}
use Rattle.script_text.proofs.take.take_request.Goals as goal

pub returns-in-Ok-clause-taken : goal.returns-in-Ok-clause-taken
returns-in-Ok-clause-taken g c =
    let found = c.in-Ok.ensures.found in
    let counts = rw c.as_slice.ensures at c.in_ok-more.ensures.line in
    let none = rw c.as_slice.ensures at c.in_ok-more.ensures.none in
    let spelled : c.take_octets.new.text ≡ request_text c.in-Ok.asked ++ c.in-Ok.field-0-1.now = sym c.as_slice-2.ensures ∙ found.1 in
    let just = just_taken c.args.lanes c.in_ok-more.more c.take_line.new.text c.take_octets.new.text _ (g.I.Source.left c.take_line.new.source) _ c.in-Ok.asked c.in-Ok.field-0-1.now (omega arith)
    c.in_ok-take_line.ensures.taken c.in_ok-take_line.ensures.line c.in_ok-take_octets.ensures.taken counts none found.0 spelled in
    (found.0, just.1, c.extent_of.ensures.extent ∙ ap extent (c.as_slice-in-Ok.ensures ∙ just.0))

pub returns-in-Ok-clause-short : goal.returns-in-Ok-clause-short
returns-in-Ok-clause-short g c =
    let found = c.in-Ok.ensures.found in
    let counts = rw c.as_slice.ensures at c.in_ok-more.ensures.line in
    let none = rw c.as_slice.ensures at c.in_ok-more.ensures.none in
    let spelled : c.take_octets.new.text ≡ request_text c.in-Ok.asked ++ c.in-Ok.field-0-1.now = sym c.as_slice-2.ensures ∙ found.1 in
    let just = just_taken c.args.lanes c.in_ok-more.more c.take_line.new.text c.take_octets.new.text _ (g.I.Source.left c.take_line.new.source) _ c.in-Ok.asked c.in-Ok.field-0-1.now (omega arith)
    c.in_ok-take_line.ensures.taken c.in_ok-take_line.ensures.line c.in_ok-take_octets.ensures.taken counts none found.0 spelled in
    let short = request_short c.args.lanes c.in-Ok.asked (omega arith) found.0 in
    let all : c.as_slice-in-Ok.result.now ≡ request_text c.in-Ok.asked = c.as_slice-in-Ok.ensures ∙ just.0 in
    let long : length c.as_slice-in-Ok.result.now ≡ length (request_text c.in-Ok.asked) = ap length all in
    let octets : c.extent_of.result.octets ≡ length c.as_slice-in-Ok.result.now = ap (λ (e : Extent). e.octets) c.extent_of.ensures.extent in
    let fewer : c.extent_of.result.lines ≤ length c.as_slice-in-Ok.result.now = c.extent_of.ensures.fewer in
    (omega (arith, octets, long, short), omega (arith, fewer, long, short))

pub returns-in-Err-Bad-clause-untaken : goal.returns-in-Err-Bad-clause-untaken
returns-in-Err-Bad-clause-untaken g c =
    let bad : BeginsNoRequest c.args.lanes c.take_octets.new.text = first_of (search rules, grind (arith, common_steps)) in
    let some : 0 < length c.take_line.new.text = first_of (search rules, grind (arith, common_steps)) in
    let counts = rw c.as_slice.ensures at c.in_ok-more.ensures.line in
    let line = c.in_ok-take_line.ensures.line in
    let takes = c.in_ok-take_octets.ensures.taken in
    let more = some_taken _ _ _ _ _ some takes in (
      of_taken _ _ c.take_octets.new.text _ (all_taken _ _ _ _ _ _ c.in_ok-take_line.ensures.taken takes) (more, bad, first_of (search rules, grind (arith, common_steps)))
          (λ rest left.
          let on = none_in_front c.args.lanes c.in_ok-more.more c.take_line.new.text c.take_octets.new.text (g.I.Source.left c.take_line.new.source) _ (omega arith) line takes counts bad rest left in
          let long = length-append c.take_octets.new.text rest in (omega (arith, more, long), on, needed_in_front c.args.lanes c.in_ok-more.more c.take_line.new.text c.take_octets.new.text (g.I.Source.left c.take_line.new.source) _ _ (omega arith) line takes rest left on (first_of (search rules, grind (arith, common_steps))))),
      c.in_ok-take_octets.ensures.quiet ∙ c.in_ok-take_line.ensures.quiet,
    )
