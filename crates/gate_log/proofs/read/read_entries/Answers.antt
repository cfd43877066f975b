use Rattle.std.proofs.Common.{◌≡◌, ℕ, List, ◌+◌, drop, inl, inr, refl, subst, arith}
use Rattle.model_logs.specs.LogFile.{BeginsRecord}
use Rattle.gate_log.proofs.EntryReadLemmas.{rest_is, passed-none, passed-within, passed-more, passed-broken, passed-whole, passed-end}
use Rattle.gate_log.proofs.read.read_entries.Goals as goal
use Rattle.gate_log.proofs.read.read_entries.Goals.{then-loop-gate-test+else-gate-octets, else-loop-gate-test}

pub loop-gate-init : goal.loop-gate-init
loop-gate-init c = rw (c.empty-entries.ensures, c.empty-places.ensures) (passed-none c.args.octets.now c.args.head c.requires.fits c.requires.gate c.requires.whole)

pub bounds-octets-gate : goal.bounds-octets-gate
bounds-octets-gate c = omega (arith, passed-within c.args.octets.now c.args.head c.loop-gate.entries c.loop-gate.places c.loop-gate.gate c.loop-gate.invariant)

pub returns-in_default-clause-refused : goal.returns-in_default-clause-refused
returns-in_default-clause-refused c asked taken =
    inr (passed-broken asked c.args.octets.now c.args.head c.loop-gate.entries c.loop-gate.places c.loop-gate.gate c.requires.fits taken c.loop-gate.invariant c.loop-gate-test.true c.if-gate-octets.true
    (subst (λ (o : List ℕ). BeginsRecord o → ⊥) (rest_is (c.loop-gate.gate + 1) c.args.octets.now) c.in_default.ensures))

pub loop-gate-preserved : goal.loop-gate-preserved
loop-gate-preserved c =
    let P : List ℕ → Type 0 = λ (o : List ℕ). (whole : BeginsRecord o) × (whole.entry ≡ c.in-Some.entry.now) in
    let r : P (drop (c.loop-gate.gate + 1) c.args.octets.now) = subst P (rest_is (c.loop-gate.gate + 1) c.args.octets.now) c.in-Some.ensures in
    rw (c.in_ok-push-2.ensures.ok, c.in_ok-push.ensures.ok, c.in_ok-copy_of.ensures, ← r.1)
    (passed-more c.args.octets.now c.args.head c.loop-gate.entries c.loop-gate.places c.loop-gate.gate c.requires.fits c.loop-gate.invariant c.loop-gate-test.true r.0)

pub returns-clause-read : goal.returns-clause-read
returns-clause-read c = (
  record {
    log = passed-whole c.args.octets.now c.args.head c.loop-gate.entries c.loop-gate.places c.loop-gate.gate c.requires.fits c.loop-gate.invariant
        (elim c.loop-gate-test.branch [ then-loop-gate-test+else-gate-octets w ↦ inr w.if-gate-octets.false | else-loop-gate-test w ↦ inl w.loop-gate-test.false ]);
    places = c.loop-gate.invariant.are_places;
    end = passed-end c.args.octets.now c.args.head c.loop-gate.entries c.loop-gate.places c.loop-gate.gate c.requires.fits c.loop-gate.invariant;
  },
  refl,
)
