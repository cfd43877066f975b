use Rattle.std.proofs.Common.{refl, ◌∙◌, ◌<◌, length, get_or, arith, []}
use Rattle.std.proofs.lemmas.List.{get_or_default}
use Rattle.std.proofs.lemmas.Result.{err_from_is_err_and, on_ok_weaker, on_err_weaker}
use Rattle.model_storage.specs.declared.places.MessageAt.{MessageAt}
use Rattle.piece_writer.proofs.PieceLemmas.{passed_end, cut_end}
use Rattle.dump_text.proofs.DumpLemmas.{shows_first, rest_next, rest_cut, rest_end}
use Rattle.dump_text.proofs.dump_print.print_places.Goals as goal

pub loop-place-init : goal.loop-place-init
loop-place-init g c = (λ text s. record { text = text; shows = s; pass = λ held piece b. rw c.empty-writer.ensures at b; cut = λ held b. rw c.empty-writer.ensures at b }, refl)

pub print_message-requires : goal.print_message-requires
print_message-requires g c =
    let place : MessageAt = get_or c.args.messages.now c.loop-place.place-index (record { offset = 0; body = 0; size = 0; lines = 0; end = 0 }) in
    let less : c.loop-place.place-index < length c.args.messages.now = omega arith in
    let rest = c.loop-place.invariant.0 c.requires.0 c.requires.1 in
    let next = shows_first c.args.file.now rest.text c.args.messages.now place c.loop-place.place-index less (get_or_default c.args.messages.now c.loop-place.place-index _ place less) rest.shows in
    (next.0, next.2)

pub returns-in_err-print_message-clause-err : goal.returns-in_err-print_message-clause-err
returns-in_err-print_message-clause-err g c =
    let p = err_from_is_err_and c.from_residual.result c.from_residual.ensures.1 in
    let place : MessageAt = get_or c.args.messages.now c.loop-place.place-index (record { offset = 0; body = 0; size = 0; lines = 0; end = 0 }) in
    let less : c.loop-place.place-index < length c.args.messages.now = omega arith in
    rw p.1 (λ text s. rest_cut c.args.file.now text c.args.messages.now place c.loop-place.place-index [] _ _ _ _ less (get_or_default c.args.messages.now c.loop-place.place-index _ place less) (c.loop-place.invariant.0 text s) c.in_err-print_message.ensures.err)

pub loop-place-preserved : goal.loop-place-preserved
loop-place-preserved g c =
    let place : MessageAt = get_or c.args.messages.now c.loop-place.place-index (record { offset = 0; body = 0; size = 0; lines = 0; end = 0 }) in
    let less : c.loop-place.place-index < length c.args.messages.now = omega arith in (
      λ text s. rest_next c.args.file.now text c.args.messages.now place c.loop-place.place-index [] _ _ _ _ _ less (get_or_default c.args.messages.now c.loop-place.place-index _ place less) (c.loop-place.invariant.0 text s) c.in_ok-print_message.ensures.ok,
      c.in_ok-print_message.ensures.quiet ∙ c.loop-place.invariant.1,
    )

pub returns-clause-ok : goal.returns-clause-ok
returns-clause-ok g c = on_ok_weaker c.finish.result (λ given text s. passed_end _ _ _ c.loop-place.writer.piece text
    (rest_end c.args.file.now text c.args.messages.now c.loop-place.place-index [] c.loop-place.writer.piece _ _ (omega arith) (c.loop-place.invariant.0 text s)) given) c.finish.ensures.ok

pub returns-clause-err : goal.returns-clause-err
returns-clause-err g c = on_err_weaker c.finish.result (λ given text s. cut_end _ _ _ c.loop-place.writer.piece text
    (rest_end c.args.file.now text c.args.messages.now c.loop-place.place-index [] c.loop-place.writer.piece _ _ (omega arith) (c.loop-place.invariant.0 text s)) given) c.finish.ensures.err
