use Rattle.std.proofs.Common.{◌∙◌, arith}
use Rattle.log_records.proofs.WordTextLemmas.{flat_room}
use Rattle.log_records.proofs.worded.put_texts.Goals as goal

pub put_word-end-requires-clause-room : goal.put_word-end-requires-clause-room
put_word-end-requires-clause-room c =
    let room = flat_room c.args.words.now c.loop-word.word-index c.word-item.result c.as_slice.result.now c.loop-word-test.true (c.as_slice.ensures ∙ c.word-item.is) in
    omega (arith, room, c.requires.room, c.loop-word.invariant.0, c.loop-word.invariant.2)
