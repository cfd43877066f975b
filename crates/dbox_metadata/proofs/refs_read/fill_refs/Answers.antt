use Rattle.std.proofs.Common.{◌≡◌, ◌≢◌, ◌++◌, List, ℕ, length, codes, refl, sym, ◌∙◌, arith}
use Rattle.std.proofs.lemmas.Bool.{eqb-true, eq-eqb}
use Rattle.std.proofs.lemmas.Bool.Decides.{Decides-eqb}
use Rattle.std.proofs.lemmas.Slice.Eq.{strip_prefix_is}
use Rattle.dbox_metadata.proofs.RefLemmas.{are_read, more_than, remains, no_other_mark, others_text}
use Rattle.dbox_metadata.proofs.refs_read.fill_refs.Goals as goal

pub returns-then-is_empty-clause-yes : goal.returns-then-is_empty-clause-yes
returns-then-is_empty-clause-yes c = λ yes.
    let found = c.in-Some.ensures.some in
    let empty : length c.in-Some.behind.now ≡ 0 = eqb-true _ _ (sym c.if-is_empty.ensures) in
    rw c.in-Ok.ensures.items (are_read c.args.value.now c.loop-reference.rest.now c.in-Some.behind.now c.loop-reference.refs.items c.in-Some.reference c.loop-reference.invariant.fit c.loop-reference.invariant.spelled found.0 found.1 empty)

pub returns-then-len-room-clause-no : goal.returns-then-len-room-clause-no
returns-then-len-room-clause-no c = λ e found are.
    let more = more_than c.loop-reference.refs.items found c.loop-reference.rest.now c.loop-reference.invariant.fit are.fit are.some (sym are.spelled ∙ c.loop-reference.invariant.spelled) in
    let many : c.len.result ≡ length c.loop-reference.refs.items = c.len.ensures ∙ c.loop-reference.refs.ok.0 in
    let full = c.if-len-room.true in
    let room = c.capacity-room.ensures in
    omega (arith, more, many, full, room)

pub returns-in_default-strip_prefix-clause-no : goal.returns-in_default-strip_prefix-clause-no
returns-in_default-strip_prefix-clause-no c = λ no all are.
    let found = c.in-Some.ensures.some in
    let front = strip_prefix_is Decides-eqb c.in-Some.behind.now (codes " ") c.strip_prefix.result c.strip_prefix.ensures.cases in
    let other : (x : List ℕ) → c.in-Some.behind.now ≢ codes " " ++ x = rw c.in_default-strip_prefix.is at front in
    absurd (no_other_mark c.args.value.now c.loop-reference.rest.now c.in-Some.behind.now c.loop-reference.refs.items all c.in-Some.reference c.loop-reference.invariant.fit c.loop-reference.invariant.spelled found.0 found.1
    (λ e. let h = sym (eq-eqb (length c.in-Some.behind.now) 0 (rw e refl)) in cc (h, c.if-is_empty.ensures)) other are)

pub returns-clause-no : goal.returns-clause-no
returns-clause-no c = λ no all are.
    let k = remains c.args.value.now c.loop-reference.rest.now c.loop-reference.refs.items all c.loop-reference.invariant.fit c.loop-reference.invariant.spelled are in
    absurd (c.in_default.ensures.none k.first (others_text k.others) k.first_fits k.spelled)
