use Rattle.std.proofs.Common.{◌≢◌, [], Ok, Err, length, refl, sym, inr}
use Rattle.std.proofs.lemmas.Bool.{eqb-true, eq-eqb}
use Rattle.std.proofs.lemmas.List.{nil_from_length}
use Rattle.dbox_metadata.specs.SoFar.{meta_line}
use Rattle.dbox_metadata.proofs.LinesLemmas.{one_more, all_taken, no_line, bad_line, exactly}
use Rattle.dbox_metadata.proofs.metadata_read.read_metadata.Goals as goal

pub returns-in_default-clause-exactly : goal.returns-in_default-clause-exactly
returns-in_default-clause-exactly c =
    let some : c.loop-rest.rest.now ≢ [] = λ e. let h = eq-eqb (length c.loop-rest.rest.now) 0 (rw e refl) in cc (h, c.loop-rest-test.ensures) in
    exactly c.args.lines.now (Err _) (no_line c.args.lines.now c.loop-rest.rest.now c.loop-rest.reader c.loop-rest.invariant some c.in_default.ensures.none)

pub returns-then-not-branch-clause-gives : goal.returns-then-not-branch-clause-gives
returns-then-not-branch-clause-gives c =
    let some : c.loop-rest.rest.now ≢ [] = λ e. let h = eq-eqb (length c.loop-rest.rest.now) 0 (rw e refl) in cc (h, c.loop-rest-test.ensures) in
    let refused = rw c.if-not-branch.true at c.in_ok-take.ensures in
    inr (bad_line c.args.lines.now c.loop-rest.rest.now c.in-Some.behind.now (meta_line c.in-Some.key c.in-Some.value.now) c.loop-rest.reader c.loop-rest.invariant some c.in-Some.ensures.some (refused c.loop-rest.invariant.good c.loop-rest.invariant.taken))

pub returns-then-not-branch-clause-exactly : goal.returns-then-not-branch-clause-exactly
returns-then-not-branch-clause-exactly c =
    let some : c.loop-rest.rest.now ≢ [] = λ e. let h = eq-eqb (length c.loop-rest.rest.now) 0 (rw e refl) in cc (h, c.loop-rest-test.ensures) in
    let refused = rw c.if-not-branch.true at c.in_ok-take.ensures in
    exactly c.args.lines.now (Err _) (bad_line c.args.lines.now c.loop-rest.rest.now c.in-Some.behind.now (meta_line c.in-Some.key c.in-Some.value.now) c.loop-rest.reader c.loop-rest.invariant some c.in-Some.ensures.some (refused c.loop-rest.invariant.good c.loop-rest.invariant.taken))

pub loop-rest-preserved : goal.loop-rest-preserved
loop-rest-preserved c =
    let taken = rw c.if-not-branch.false at c.in_ok-take.ensures in
    let next = taken c.loop-rest.invariant.good c.loop-rest.invariant.taken in
    one_more c.args.lines.now c.loop-rest.rest.now c.in-Some.behind.now (meta_line c.in-Some.key c.in-Some.value.now) c.loop-rest.reader c.take.new.self c.loop-rest.invariant c.in-Some.ensures.some next.0 next.1

pub returns-clause-gives : goal.returns-clause-gives
returns-clause-gives c =
    inr (all_taken c.args.lines.now c.loop-rest.rest.now c.loop-rest.reader c.loop-rest.invariant (nil_from_length c.loop-rest.rest.now (eqb-true _ _ (sym c.loop-rest-test.ensures))))

pub returns-clause-exactly : goal.returns-clause-exactly
returns-clause-exactly c =
    exactly c.args.lines.now (Ok _) (all_taken c.args.lines.now c.loop-rest.rest.now c.loop-rest.reader c.loop-rest.invariant (nil_from_length c.loop-rest.rest.now (eqb-true _ _ (sym c.loop-rest-test.ensures))))
