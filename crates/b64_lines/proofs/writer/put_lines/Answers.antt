use Rattle.std.proofs.Common.{◌∙◌, arith}
use Rattle.b64_lines.proofs.WriterLemmas.{line_room, put_next}
use Rattle.b64_lines.proofs.writer.put_lines.Goals as goal

pub put_line-at-requires-clause-room : goal.put_line-at-requires-clause-room
put_line-at-requires-clause-room c =
    let test = c.loop-rest-test.true in
    let back = c.split_at.ensures.back_len in
    line_room c.args.form c.args.octets.now c.args.at c.args.into.now c.loop-rest.rest.now c.loop-rest.at c.loop-rest.into c.split_at.result.0.now c.split_at.result.1.now c.requires.form c.loop-rest.invariant
    c.split_at.ensures.by_index.0 (c.split_at.ensures.front_len ∙ c.octets_of_line-size.ensures.size) (omega (arith, test, back))

pub loop-rest-preserved : goal.loop-rest-preserved
loop-rest-preserved c =
    let test = c.loop-rest-test.true in
    let back = c.split_at.ensures.back_len in
    put_next c.args.form c.args.octets.now c.args.at c.args.into.now c.loop-rest.rest.now c.loop-rest.at c.loop-rest.into c.split_at.result.0.now c.split_at.result.1.now c.put_line-at.result c.put_line-at.new.into c.requires.form c.loop-rest.invariant
    c.split_at.ensures.by_index.0 (c.split_at.ensures.front_len ∙ c.octets_of_line-size.ensures.size) (omega (arith, test, back)) c.put_line-at.ensures.put c.put_line-at.ensures.behind c.put_line-at.ensures.end c.put_line-at.ensures.size
