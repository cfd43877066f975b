use Rattle.mail_fetch.proofs.Common.{◌≡◌, ◌+◌, ◌∙◌, List, ℕ, length, sym, ap, subst, arith, InstRow, ExtRef}
use Rattle.std.specs.Prelude.{sum_by}
use Rattle.attach_join.specs.Spread.{outside}
use Rattle.mail_fetch.specs.Held.{IsSpread}
use Rattle.mail_fetch.proofs.HeldLemmas.{damaged_on, keep_room, kept_small, spread_on, written_over}
use Rattle.mail_fetch.proofs.held.with_piece.Goals as goal

pub keep-requires-clause-room : goal.keep-requires-clause-room
keep-requires-clause-room c =
    let few = keep_room c.args.from.now c.args.head.now.items c.args.held c.in-Spread.whole c.in-Spread.refs c.in-Spread.tail c.in-Spread.kept c.requires.held.0 (length c.args.piece.now) c.in-Spread.is c.requires.held.1 c.requires.room in
    let same = ap (sum_by (λ (row : InstRow). row.size)) c.as_slice.ensures in
    omega (arith, few, same)

pub overflow_add-result : goal.overflow_add-result
overflow_add-result c =
    let few = keep_room c.args.from.now c.args.head.now.items c.args.held c.in-Spread.whole c.in-Spread.refs c.in-Spread.tail c.in-Spread.kept c.requires.held.0 (length c.args.piece.now) c.in-Spread.is c.requires.held.1 c.requires.room in
    let most = kept_small c.args.from.now c.args.head.now.items c.args.held c.in-Spread.whole c.in-Spread.refs c.in-Spread.tail c.in-Spread.kept c.requires.held.0 c.in-Spread.is c.requires.held.1 in
    let small = c.in-Spread.whole.small in
    let ok = c.in-Spread.whole.ok in
    omega (arith, few, most, small, ok)

pub returns-in-Spread-clause-held : goal.returns-in-Spread-clause-held
returns-in-Spread-clause-held c left held_is =
    let few = keep_room c.args.from.now c.args.head.now.items c.args.held c.in-Spread.whole c.in-Spread.refs c.in-Spread.tail c.in-Spread.kept c.requires.held.0 (length c.args.piece.now) c.in-Spread.is c.requires.held.1 c.requires.room in
    let mut_is = c.deref_mut.ensures.value in
    let refs_is = c.deref.ensures.value in
    let size : length c.keep.new.whole ≡ length c.in-Spread.whole.items = c.keep.ensures.size ∙ ap (λ (xs : List ℕ). length xs) mut_is in
    let out : outside c.in-Spread.refs.items c.keep.new.whole ≡ outside c.in-Spread.refs.items c.in-Spread.whole.items =
    ap (λ (rs : List ExtRef). outside rs c.keep.new.whole) (sym refs_is) ∙ c.keep.ensures.outside ∙ ap (outside c.deref.result.now) mut_is ∙ ap (λ (rs : List ExtRef). outside rs c.in-Spread.whole.items) refs_is in
    let now = written_over c.keep.new.whole c.in-Spread.whole.items c.in-Spread.whole.len (size ∙ sym c.in-Spread.whole.ok.0) in
    subst (λ (xs : List ℕ). IsSpread c.args.from.now c.args.head.now.items xs c.in-Spread.tail.items c.in-Spread.refs.items (c.in-Spread.kept + length c.args.piece.now)) (sym now)
    (spread_on c.args.from.now c.args.head.now.items c.args.held c.in-Spread.whole c.in-Spread.refs c.in-Spread.tail c.keep.new.whole c.in-Spread.kept (left + length c.args.piece.now) (length c.args.piece.now) c.in-Spread.is held_is out size few)

pub returns-in-Damaged-clause-held : goal.returns-in-Damaged-clause-held
returns-in-Damaged-clause-held c left held_is =
    damaged_on c.args.from.now c.args.head.now.items c.add_piece-in-Damaged.new.head.items c.args.held c.in-Damaged.octets c.add_piece-in-Damaged.new.octets c.args.piece.now left c.in-Damaged.is held_is c.add_piece-in-Damaged.ensures.read
    c.add_piece-in-Damaged.ensures.cut c.add_piece-in-Damaged.ensures.room
