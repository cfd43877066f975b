use Rattle.std.proofs.Common.{refl, ◌∙◌, arith}
use Rattle.attach_join.proofs.TextLemmas.{end_has_room, piece_has_room, writing_begins, writing_ends, writing_goes_on}
use Rattle.attach_join.proofs.writing.write_lines.Goals as goal

pub loop-place-init : goal.loop-place-init
loop-place-init c = record { writing = writing_begins c.args.form c.args.size c.args.range.now c.of-writer.result c.requires.size c.of-writer.ensures; block = refl }

pub piece-requires : goal.piece-requires
piece-requires c =
    let w = c.loop-place.invariant.writing in
    record { room = (_, w.written, piece_has_room c.args.form c.args.size c.min-count.result c.args.range.now c.loop-place.range _ c.loop-place.place c.loop-place.writer c.requires.form c.requires.size c.requires.long w c.copy_from.ensures.copied) }

pub loop-place-preserved : goal.loop-place-preserved
loop-place-preserved c =
    let w = c.loop-place.invariant.writing in
    let count = c.min-count.ensures in
    let test = c.loop-place-test.true in
    let long = w.long in
    record {
      writing = writing_goes_on c.args.form c.args.size c.min-count.result c.args.range.now c.loop-place.range c.piece.new.into _ c.loop-place.place c.loop-place.writer c.piece.new.self c.requires.form c.requires.size c.requires.long w c.copy_from.ensures.copied
          (omega (arith, count, test, long)) c.piece.ensures.form c.piece.ensures.size c.piece.ensures.behind c.piece.ensures.written;
      block = c.copy_from.ensures.size ∙ c.loop-place.invariant.block;
    }

pub end-requires : goal.end-requires
end-requires c = record {
  room = end_has_room c.args.form c.args.size c.args.range.now c.loop-place.range c.loop-place.place c.loop-place.writer c.requires.form c.requires.size c.requires.long c.loop-place.invariant.writing
      (let test = c.loop-place-test.false in let long = c.loop-place.invariant.writing.long in omega (arith, test, long));
}

pub returns-clause-text : goal.returns-clause-text
returns-clause-text c =
    writing_ends c.args.form c.args.size c.args.range.now c.loop-place.range c.end.new.into c.loop-place.place c.loop-place.writer c.requires.form c.requires.size c.requires.long c.loop-place.invariant.writing
    (let test = c.loop-place-test.false in let long = c.loop-place.invariant.writing.long in omega (arith, test, long)) c.end.ensures.size c.end.ensures.written
