use Rattle.std.proofs.Common.{◌≡◌, ◌≢◌, ◌++◌, List, ℕ, length, codes, refl, sym}
use Rattle.std.proofs.lemmas.Bool.{eqb-true, eq-eqb}
use Rattle.std.proofs.lemmas.Bool.Decides.{Decides-eqb}
use Rattle.std.proofs.lemmas.Slice.Eq.{strip_prefix_is}
use Rattle.dbox_metadata.proofs.RefLemmas.{are_read, remains, no_other_mark, others_text}
use Rattle.dbox_metadata.proofs.refs_read.read_refs.Goals as goal

pub returns-then-is_empty-clause-some : goal.returns-then-is_empty-clause-some
returns-then-is_empty-clause-some c =
    let found = c.in-Some.ensures.some in
    let empty : length c.in-Some.behind.now ≡ 0 = eqb-true _ _ (sym c.if-is_empty.ensures) in
    rw c.in_ok-push.ensures.ok (are_read c.args.value.now c.loop-reference.rest.now c.in-Some.behind.now c.loop-reference.refs c.in-Some.reference c.loop-reference.invariant.fit c.loop-reference.invariant.spelled found.0 found.1 empty)

pub returns-in_default-strip_prefix-clause-none : goal.returns-in_default-strip_prefix-clause-none
returns-in_default-strip_prefix-clause-none c = λ all are.
    let found = c.in-Some.ensures.some in
    let front = strip_prefix_is Decides-eqb c.in-Some.behind.now (codes " ") c.strip_prefix.result c.strip_prefix.ensures.cases in
    let other : (x : List ℕ) → c.in-Some.behind.now ≢ codes " " ++ x = rw c.in_default-strip_prefix.is at front in
    no_other_mark c.args.value.now c.loop-reference.rest.now c.in-Some.behind.now c.loop-reference.refs all c.in-Some.reference c.loop-reference.invariant.fit c.loop-reference.invariant.spelled found.0 found.1
    (λ e. let h = sym (eq-eqb (length c.in-Some.behind.now) 0 (rw e refl)) in cc (h, c.if-is_empty.ensures)) other are

pub returns-clause-none : goal.returns-clause-none
returns-clause-none c = λ all are.
    let k = remains c.args.value.now c.loop-reference.rest.now c.loop-reference.refs all c.loop-reference.invariant.fit c.loop-reference.invariant.spelled are in
    c.in_default.ensures.none k.first (others_text k.others) k.first_fits k.spelled
