use Rattle.std.proofs.Common.{arith}
use Rattle.std.proofs.lemmas.List.{nil_from_length}
use Rattle.attach_join.proofs.KeptLemmas.{next_range, no_rows_left}
use Rattle.attach_join.proofs.TextLemmas.{texts_begin, texts_end, texts_go_on}
use Rattle.attach_join.proofs.writing.write_texts.Goals as goal

pub loop-reference-init : goal.loop-reference-init
loop-reference-init c = record { writing = texts_begin c.args.refs.now c.args.rows.now c.requires.fit.0 c.args.whole.now c.requires.fit.1 c.requires.forms; block = c.requires.block }

pub unreachable-requires : goal.unreachable-requires
unreachable-requires c =
    no_rows_left c.loop-reference.refs.now c.in-Some.others.now c.loop-reference.rows.now c.in-Some.reference.now c.in-Some.ensures.cases.0 (nil_from_length c.loop-reference.rows.now c.in_default-split_first.ensures.cases) c.loop-reference.invariant.writing.texts

pub write_text-requires-clause-form : goal.write_text-requires-clause-form
write_text-requires-clause-form c =
    let k = c.loop-reference.invariant.writing in
    let r = next_range c.args.whole.now k.place c.loop-reference.refs.now c.in-Some.others.now c.loop-reference.rows.now c.in-Some-split_first.behind.now c.in-Some.reference.now c.in-Some-split_first.row.now c.in-Some.ensures.cases.0 c.in-Some-split_first.ensures.cases.0 k.within k.texts k.forms in
    r.form

pub write_text-requires-clause-within : goal.write_text-requires-clause-within
write_text-requires-clause-within c =
    let k = c.loop-reference.invariant.writing in
    let r = next_range c.args.whole.now k.place c.loop-reference.refs.now c.in-Some.others.now c.loop-reference.rows.now c.in-Some-split_first.behind.now c.in-Some.reference.now c.in-Some-split_first.row.now c.in-Some.ensures.cases.0 c.in-Some-split_first.ensures.cases.0 k.within k.texts k.forms in
    let to = r.to in
    let long = k.long in
    omega (arith, to, long)

pub write_text-requires-clause-long : goal.write_text-requires-clause-long
write_text-requires-clause-long c =
    let k = c.loop-reference.invariant.writing in
    let r = next_range c.args.whole.now k.place c.loop-reference.refs.now c.in-Some.others.now c.loop-reference.rows.now c.in-Some-split_first.behind.now c.in-Some.reference.now c.in-Some-split_first.row.now c.in-Some.ensures.cases.0 c.in-Some-split_first.ensures.cases.0 k.within k.texts k.forms in
    r.text

pub write_text-requires-clause-size : goal.write_text-requires-clause-size
write_text-requires-clause-size c =
    let k = c.loop-reference.invariant.writing in
    let r = next_range c.args.whole.now k.place c.loop-reference.refs.now c.in-Some.others.now c.loop-reference.rows.now c.in-Some-split_first.behind.now c.in-Some.reference.now c.in-Some-split_first.row.now c.in-Some.ensures.cases.0 c.in-Some-split_first.ensures.cases.0 k.within k.texts k.forms in
    r.size

pub loop-reference-preserved : goal.loop-reference-preserved
loop-reference-preserved c = record {
  writing = texts_go_on c.args.refs.now c.args.rows.now c.args.whole.now c.loop-reference.refs.now c.in-Some.others.now c.loop-reference.rows.now c.in-Some-split_first.behind.now c.in-Some.reference.now c.in-Some-split_first.row.now c.loop-reference.whole c.write_text.new.whole
      c.loop-reference.invariant.writing c.in-Some.ensures.cases.0 c.in-Some-split_first.ensures.cases.0 c.write_text.ensures.front c.write_text.ensures.text c.write_text.ensures.behind c.write_text.ensures.size;
  block = let block = c.loop-reference.invariant.block in let same = c.write_text.ensures.block in omega (arith, block, same);
}

pub returns-clause-whole : goal.returns-clause-whole
returns-clause-whole c = texts_end c.args.refs.now c.args.rows.now c.args.whole.now c.loop-reference.refs.now c.loop-reference.rows.now c.loop-reference.whole c.loop-reference.invariant.writing (nil_from_length c.loop-reference.refs.now c.in_default.ensures.cases)
