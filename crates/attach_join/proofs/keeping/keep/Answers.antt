use Rattle.std.proofs.Common.{refl, ◌∙◌, arith}
use Rattle.std.proofs.lemmas.List.{nil_from_length}
use Rattle.attach_join.proofs.KeptLemmas.{keeping_begins, keeping_ends, keeping_goes_on, next_range, no_rows_left}
use Rattle.attach_join.proofs.keeping.keep.Goals as goal

pub loop-reference-init : goal.loop-reference-init
loop-reference-init c = keeping_begins c.args.refs.now c.args.rows.now c.args.kept c.requires.fit.0 c.args.octets.now c.args.whole.now c.requires.fit.1 c.requires.forms c.requires.room

pub unreachable-requires : goal.unreachable-requires
unreachable-requires c =
    no_rows_left c.loop-reference.refs.now c.in-Some.others.now c.loop-reference.rows.now c.in-Some.reference.now c.in-Some.ensures.cases.0 (nil_from_length c.loop-reference.rows.now c.in_default-split_first.ensures.cases) c.loop-reference.invariant.texts

pub overflow_sub-end : goal.overflow_sub-end
overflow_sub-end c =
    let k = c.loop-reference.invariant in
    let r = next_range c.args.whole.now k.place c.loop-reference.refs.now c.in-Some.others.now c.loop-reference.rows.now c.in-Some-split_first.behind.now c.in-Some.reference.now c.in-Some-split_first.row.now c.in-Some.ensures.cases.0 c.in-Some-split_first.ensures.cases.0 k.within k.texts k.forms in
    let size = r.size in
    omega (arith, size)

pub put_at-requires : goal.put_at-requires
put_at-requires c =
    let k = c.loop-reference.invariant in
    let r = next_range c.args.whole.now k.place c.loop-reference.refs.now c.in-Some.others.now c.loop-reference.rows.now c.in-Some-split_first.behind.now c.in-Some.reference.now c.in-Some-split_first.row.now c.in-Some.ensures.cases.0 c.in-Some-split_first.ensures.cases.0 k.within k.texts k.forms in
    let size = r.size in
    let to = r.to in
    let long = k.long in
    let skips = c.min-skipped.ensures in
    let few = c.min.ensures in
    let front = c.split_at.ensures.front_len in
    omega (arith, size, to, long, skips, few, front)

pub loop-reference-preserved : goal.loop-reference-preserved
loop-reference-preserved c =
    keeping_goes_on c.args.refs.now c.args.rows.now c.args.kept c.args.octets.now c.args.whole.now c.loop-reference.refs.now c.in-Some.others.now c.loop-reference.rows.now c.in-Some-split_first.behind.now c.in-Some.reference.now c.in-Some-split_first.row.now
    c.loop-reference.before c.min-skipped.result _ c.loop-reference.rest.now c.split_at.result.0.now c.split_at.result.1.now c.loop-reference.whole c.put_at.new.whole c.loop-reference.invariant c.in-Some.ensures.cases.0 c.in-Some-split_first.ensures.cases.0
    c.min-skipped.ensures refl c.split_at.ensures.by_index.0 (c.split_at.ensures.front_len ∙ c.min.ensures) c.put_at.ensures.put c.put_at.ensures.size

pub returns-clause-kept : goal.returns-clause-kept
returns-clause-kept c =
    (keeping_ends c.args.refs.now c.args.rows.now c.args.kept c.args.octets.now c.args.whole.now c.loop-reference.refs.now c.loop-reference.rows.now c.loop-reference.before c.loop-reference.rest.now c.loop-reference.whole c.loop-reference.invariant (nil_from_length c.loop-reference.refs.now c.in_default.ensures.cases)).0

pub returns-clause-outside : goal.returns-clause-outside
returns-clause-outside c =
    (keeping_ends c.args.refs.now c.args.rows.now c.args.kept c.args.octets.now c.args.whole.now c.loop-reference.refs.now c.loop-reference.rows.now c.loop-reference.before c.loop-reference.rest.now c.loop-reference.whole c.loop-reference.invariant (nil_from_length c.loop-reference.refs.now c.in_default.ensures.cases)).1
