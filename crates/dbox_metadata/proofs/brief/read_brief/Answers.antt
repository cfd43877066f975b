use Rattle.std.proofs.Common.{vec_capacity, ◌≢◌, [], Option, Some, None, IfNone, length, refl, sym}
use Rattle.std.proofs.lemmas.Bool.{eqb-true, eq-eqb}
use Rattle.std.proofs.lemmas.List.{nil_from_length}
use Rattle.dbox_metadata.specs.SoFar.{meta_line}
use Rattle.dbox_metadata.proofs.BriefLemmas.{begins_briefly, no_line_briefly, refused_briefly, one_more_briefly, said_briefly}
use Rattle.dbox_metadata.proofs.brief.read_brief.Goals as goal

if_none : {X : Type 0} → (r : Option X) (P : Type 0) → P → IfNone r P
if_none None P p = p
if_none (Some x) P p = tt

pub returns-in_err-key-clause-none : goal.returns-in_err-key-clause-none
returns-in_err-key-clause-none c =
    let some : c.loop-rest.rest.now ≢ [] = λ e. let h = eq-eqb (length c.loop-rest.rest.now) 0 (rw e refl) in cc (h, c.loop-rest-test.ensures) in
    if_none c.from_residual.result _ (no_line_briefly (vec_capacity c.args.refs) c.args.lines.now c.loop-rest.rest.now c.loop-rest.reader c.loop-rest.invariant some c.in_err-key.ensures.none)

pub returns-then-not-take-clause-none : goal.returns-then-not-take-clause-none
returns-then-not-take-clause-none c =
    let some : c.loop-rest.rest.now ≢ [] = λ e. let h = eq-eqb (length c.loop-rest.rest.now) 0 (rw e refl) in cc (h, c.loop-rest-test.ensures) in
    refused_briefly (vec_capacity c.args.refs) c.args.lines.now c.loop-rest.rest.now c.in_ok-key.behind.now (meta_line c.in_ok-key.key c.in_ok-key.value.now) c.loop-rest.reader c.take.new.self c.take.result c.loop-rest.invariant some c.in_ok-key.ensures.some c.take.ensures.takes c.if-not-take.true

pub loop-rest-preserved : goal.loop-rest-preserved
loop-rest-preserved c = one_more_briefly (vec_capacity c.args.refs) c.args.lines.now c.loop-rest.rest.now c.in_ok-key.behind.now (meta_line c.in_ok-key.key c.in_ok-key.value.now) c.loop-rest.reader c.take.new.self c.take.result c.loop-rest.invariant c.in_ok-key.ensures.some c.take.ensures.takes c.take.ensures.room c.if-not-take.false

pub returns-clause-some : goal.returns-clause-some
returns-clause-some c = said_briefly (vec_capacity c.args.refs) c.args.lines.now c.loop-rest.rest.now c.loop-rest.reader _ c.loop-rest.invariant (nil_from_length c.loop-rest.rest.now (eqb-true _ _ (sym c.loop-rest-test.ensures))) refl refl refl

pub loop-rest-init : goal.loop-rest-init
loop-rest-init c = begins_briefly (vec_capacity c.args.refs) c.args.lines.now c.new-reader.result c.new-reader.ensures.taken c.new-reader.ensures.room
