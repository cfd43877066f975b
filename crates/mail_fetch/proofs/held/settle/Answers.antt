use Rattle.mail_fetch.proofs.Common.{◌≡◌, ◌-◌, ◌∙◌, ◌++◌, List, ℕ, length, take, drop, sym, ap, subst, arith, length-append, length-drop, length-take, take_all, InstRow, ExtRef}
use Rattle.std.specs.Prelude.{sum_by}
use Rattle.attach_join.specs.Behind.{octets_in}
use Rattle.attach_join.specs.Kept.{FitInto}
use Rattle.attach_join.specs.Spread.{outside}
use Rattle.model_attach.specs.Rejoined.{IsWhole}
use Rattle.mail_fetch.proofs.HeldLemmas.{block_few, lost_unfit, spread_begins}
use Rattle.mail_fetch.proofs.MessageLemmas.{found_in}
use Rattle.mail_fetch.proofs.held.settle.Goals as goal

pub returns-then-not-fit_into-clause-held : goal.returns-then-not-fit_into-clause-held
returns-then-not-fit_into-clause-held c left most few =
    let found = found_in c.args.from.now c.args.head.now c.deref.result.now c.args.octets.items c.in-Some.size c.in-Some.refs.items c.deref.ensures.value c.in-Some.ensures.some in
    let both = length-append c.args.head.now c.args.octets.items in
    let long : length (c.args.head.now ++ c.args.octets.items) ≡ c.args.from.now.size = omega (arith, both, c.len.ensures, c.args.octets.ok.0, c.if-head-len.false) in
    let refs_is = c.deref-2.ensures.value in
    let rows_is = c.as_slice.ensures in (
      c.requires.octets,
      lost_unfit c.args.from.now c.args.head.now c.args.octets.items c.in-Some.size left c.in-Some.refs.items found long
          (λ text body instances w body_long many size.
          c.fit_into.ensures.no c.if-not-fit_into.true text body instances (subst (λ (rs : List ExtRef). IsWhole text body rs (octets_in c.as_slice.result.now instances)) (sym refs_is) (subst (λ (rows : List InstRow). IsWhole text body c.in-Some.refs.items (octets_in rows instances)) (sym rows_is) w))
          body_long (let same = ap (sum_by (λ (row : InstRow). row.size)) rows_is in omega (arith, same, many)) size),
    )

pub put-requires : goal.put-requires
put-requires c =
    let found = found_in c.args.from.now c.args.head.now c.deref.result.now c.args.octets.items c.in-Some.size c.in-Some.refs.items c.deref.ensures.value c.in-Some.ensures.some in
    let both = length-append c.args.head.now c.args.octets.items in
    let long : length (c.args.head.now ++ c.args.octets.items) ≡ c.args.from.now.size = omega (arith, both, c.len.ensures, c.args.octets.ok.0, c.if-head-len.false) in
    let whole : length c.args.head.now ≡ 30 = c.if-head-ne-HEADER.false in
    let few = block_few c.args.from.now c.args.head.now c.args.octets.items c.in-Some.size c.in-Some.refs.items whole found in
    let none = ap (λ (xs : List ℕ). length xs) c.requires.room.no_tail in
    let there = ap (λ (xs : List ℕ). length xs) c.deref-3.ensures.value in
    let behind = length-drop c.in-Some.size c.deref-3.result.now in
    let most = length-take (length c.deref-3.result.now - c.in-Some.size) (drop c.in-Some.size c.deref-3.result.now) in
    let room = c.requires.room.tail_room c.requires.some in
    omega (arith, few, none, there, behind, most, room, long, both, whole)

pub returns-clause-held : goal.returns-clause-held
returns-clause-held c left most few =
    let found = found_in c.args.from.now c.args.head.now c.deref.result.now c.args.octets.items c.in-Some.size c.in-Some.refs.items c.deref.ensures.value c.in-Some.ensures.some in
    let both = length-append c.args.head.now c.args.octets.items in
    let long : length (c.args.head.now ++ c.args.octets.items) ≡ c.args.from.now.size = omega (arith, both, c.len.ensures, c.args.octets.ok.0, c.if-head-len.false) in
    let size = c.in-Some.size in
    let D : List ℕ = c.deref-3.result.now in
    let tail : c.put.new.out.items ≡ drop size c.args.octets.items =
    c.put.ensures.octets ∙ ap (λ (xs : List ℕ). xs ++ take (length D - size) (drop size D)) c.requires.room.no_tail ∙ take_all (length D - size) (drop size D) (omega (arith, length-drop size D)) ∙ ap (drop size) c.deref-3.ensures.value in
    let out : outside c.in-Some.refs.items c.spread_out.new.octets.items ≡ take size c.args.octets.items = ap (λ (rs : List ExtRef). outside rs c.spread_out.new.octets.items) (sym c.deref-4.ensures.value) ∙ c.spread_out.ensures.outside in
    let listed = c.spread_out.ensures.size in
    let fit : FitInto c.args.from.now.listed size c.in-Some.refs.items c.args.from.now.instances =
    subst (λ (rows : List InstRow). FitInto c.args.from.now.listed size c.in-Some.refs.items rows) c.as_slice.ensures (subst (λ (rs : List ExtRef). FitInto c.args.from.now.listed size rs c.as_slice.result.now) c.deref-2.ensures.value (c.fit_into.ensures.yes c.if-not-fit_into.false)) in
    spread_begins c.args.from.now c.args.head.now c.args.octets.items c.spread_out.new.octets.items c.put.new.out.items c.in-Some.refs.items size size found long out tail listed (subst (λ (n : ℕ). FitInto n size c.in-Some.refs.items c.args.from.now.instances) (sym listed) fit)
