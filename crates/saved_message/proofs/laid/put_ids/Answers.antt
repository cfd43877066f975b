use Rattle.std.proofs.Common.{rules, arith, refl, ℕ, List, ◌<◌, ◌+◌, get_or, length}
use Rattle.mdbox_base.specs.declared.entries.InstRow.{InstRow}
use Rattle.saved_message.proofs.IdLemmas.{ids_more, next_begins, next_ends, set_next}
use Rattle.saved_message.proofs.laid.put_ids.Goals as goal

pub overflow_add-end-in-loop-index : goal.overflow_add-end-in-loop-index
overflow_add-end-in-loop-index c =
    let s = c.requires.standing in
    let k : c.loop-index.index < length s.1 = search rules in
    let e = next_ends s.0 s.1 s.2 s.3 s.4 c.args.start c.args.sizes.now c.args.region.now c.args.rows.now c.loop-index.index c.loop-index.at c.loop-index.region s.5 k (c.loop-index.invariant.0 s.0 s.1 s.2 s.3 s.4 s.5 s.6) in
    search (rules, e)

pub overflow_sub-end : goal.overflow_sub-end
overflow_sub-end c =
    let s = c.requires.standing in
    let k : c.loop-index.index < length s.1 = search rules in
    next_begins s.0 s.1 s.2 s.3 s.4 c.args.start c.args.sizes.now c.args.region.now c.args.rows.now c.loop-index.index c.loop-index.at c.loop-index.region s.5 k (c.loop-index.invariant.0 s.0 s.1 s.2 s.3 s.4 s.5 s.6)

pub put_digits-requires : goal.put_digits-requires
put_digits-requires c =
    let s = c.requires.standing in
    let k : c.loop-index.index < length s.1 = search rules in
    let set = c.loop-index.invariant.0 s.0 s.1 s.2 s.3 s.4 s.5 s.6 in
    let b = next_begins s.0 s.1 s.2 s.3 s.4 c.args.start c.args.sizes.now c.args.region.now c.args.rows.now c.loop-index.index c.loop-index.at c.loop-index.region s.5 k set in
    let e = next_ends s.0 s.1 s.2 s.3 s.4 c.args.start c.args.sizes.now c.args.region.now c.args.rows.now c.loop-index.index c.loop-index.at c.loop-index.region s.5 k set in
    omega (arith, b, e)

pub loop-index-preserved : goal.loop-index-preserved
loop-index-preserved c =
    let k : ℕ = c.loop-index.index in
    let rows : List InstRow = c.args.rows.now in
    let size : ℕ = get_or c.args.sizes.now k 0 in
    let put = c.put_digits.ensures in (
      λ front parts ids back mark has many. set_next front parts ids back mark c.args.start c.args.sizes.now c.args.region.now rows k c.loop-index.at c.loop-index.region c.put_digits.new.text _ (c.loop-index.at + 1 + size) has many
          c.loop-index-test.true (c.loop-index.invariant.0 front parts ids back mark has many) refl put.octets put.put,
      ids_more rows k _ c.loop-index-test.true c.loop-index.invariant.1 put.octets,
    )
