use Rattle.std.proofs.Common.{◌≡◌, ℕ, List, ◌+◌, [], drop, inl, inr, refl, subst, arith}
use Rattle.model_logs.specs.LogFile.{BeginsRecord, record_places, IsDamagedAt, IsLog}
use Rattle.gate_log.proofs.TextLemmas.{walked-few, walked-more}
use Rattle.gate_log.proofs.EntryReadLemmas.{rest_is, passed-none, passed-broken, passed-whole, passed-end}
use Rattle.gate_log.proofs.text.check_entries.Goals as goal
use Rattle.gate_log.proofs.text.check_entries.Goals.{then-loop-gate-test+else-gate-text, else-loop-gate-test}

pub loop-gate-init : goal.loop-gate-init
loop-gate-init c = rw c.as_slice-text.ensures (record { entries = []; counted = refl; passed = passed-none c.args.octets c.args.head c.requires.fits c.requires.gate c.requires.whole })

pub returns-in_default-clause-refused : goal.returns-in_default-clause-refused
returns-in_default-clause-refused c asked taken =
    let w = c.loop-gate.invariant in
    let octets = c.as_slice-text.result.now in
    subst (λ (o : List ℕ). IsDamagedAt asked o (c.loop-gate.gate + 1)) c.as_slice-text.ensures
    (inr (passed-broken asked octets c.args.head w.entries (record_places w.entries) c.loop-gate.gate c.requires.fits taken w.passed c.loop-gate-test.true c.if-gate-text.true
    (subst (λ (o : List ℕ). BeginsRecord o → ⊥) (rest_is (c.loop-gate.gate + 1) octets) c.in_default.ensures)))

pub overflow_add-count : goal.overflow_add-count
overflow_add-count c = omega (arith, walked-few c.as_slice-text.result.now c.args.head c.loop-gate.gate c.loop-gate.count c.requires.fits c.loop-gate.invariant, c.if-gate-text.true, c.as_slice-text.type_inv)

pub loop-gate-preserved : goal.loop-gate-preserved
loop-gate-preserved c =
    let octets = c.as_slice-text.result.now in
    let P : List ℕ → Type 0 = λ (o : List ℕ). (whole : BeginsRecord o) × (whole.entry ≡ c.in-Some.entry.now) in
    let r : P (drop (c.loop-gate.gate + 1) octets) = subst P (rest_is (c.loop-gate.gate + 1) octets) c.in-Some.ensures in
    rw (← r.1) (walked-more octets c.args.head c.loop-gate.gate c.loop-gate.count c.requires.fits c.loop-gate.invariant c.loop-gate-test.true r.0)

pub returns-clause-checked : goal.returns-clause-checked
returns-clause-checked c =
    let w = c.loop-gate.invariant in
    let octets = c.as_slice-text.result.now in
    let whole : IsLog octets c.args.head w.entries = passed-whole octets c.args.head w.entries (record_places w.entries) c.loop-gate.gate c.requires.fits w.passed
    (elim c.loop-gate-test.branch [ then-loop-gate-test+else-gate-text v ↦ inr v.if-gate-text.false | else-loop-gate-test v ↦ inl v.loop-gate-test.false ]) in (
      w.entries,
      record {
        log = subst (λ (o : List ℕ). IsLog o c.args.head w.entries) c.as_slice-text.ensures whole;
        end = passed-end octets c.args.head w.entries (record_places w.entries) c.loop-gate.gate c.requires.fits w.passed;
        count = w.counted;
      },
      refl,
      refl,
    )
