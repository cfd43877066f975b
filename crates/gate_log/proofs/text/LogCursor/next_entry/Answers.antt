use Rattle.std.proofs.Common.{◌≡◌, ◌+◌, ◌≤◌, ◌∷◌, ℕ, List, inl, inr, length, drop, refl, sym, ◌∙◌, ap, subst, arith}
use Rattle.std.proofs.lemmas.List.{drop_all}
use Rattle.gate_log.specs.Text.{HasEntriesAt}
use Rattle.gate_log.proofs.EntryReadLemmas.{rest_is}
use Rattle.gate_log.proofs.TextLemmas.{none-gone, none-broken, one-next}
use Rattle.gate_log.proofs.text.LogCursor.next_entry.Goals as goal
use Rattle.gate_log.proofs.text.LogCursor.next_entry.Goals.{In_ok-gate}

-- the octets from the gate on
split : (c : In_ok-gate) → drop c.args.self.now.gate c.args.self.now.octets.now ≡ c.in_ok-gate.gate.now ∷ c.in_ok-gate.behind.now
split c = sym (rest_is c.args.self.now.gate c.args.self.now.octets.now) ∙ sym c.in_ok-get.ensures.lookup.0.2 ∙ c.in_ok-gate.ensures.cases.0

pub returns-in_err-get-clause-next : goal.returns-in_err-get-clause-next
returns-in_err-get-clause-next c = λ entries h.
    let past : length c.args.self.now.octets.now ≤ c.args.self.now.gate = elim c.in_err-get.ensures.lookup.0 [ inl a ↦ omega (arith, a) | inr b ↦ omega (arith, b) ] in
    rw c.from_residual.ensures (none-gone c.args.self.now.octets.now c.args.self.now.gate entries h (drop_all c.args.self.now.gate c.args.self.now.octets.now past))

pub returns-in_err-entry-clause-next : goal.returns-in_err-entry-clause-next
returns-in_err-entry-clause-next c = λ entries h.
    rw c.from_residual-in_err-entry.ensures
    (none-broken c.args.self.now.octets.now c.args.self.now.gate entries c.in_ok-gate.gate.now c.in_ok-gate.behind.now h (split (goal.at.returns-in_err-entry-clause-next c).In_ok-gate) c.in_err-entry.ensures)

pub returns-clause-next : goal.returns-clause-next
returns-clause-next c = λ entries h.
    let s = split (goal.at.returns-clause-next c).In_ok-gate in
    let n = one-next c.args.self.now.octets.now c.args.self.now.gate entries _ _ h s c.if-gate-ne-OPEN.false c.in_ok-entry.ensures.0 in
    let same = c.in_ok-entry.ensures.1 in (
      n.0,
      n.1 ∙ ap (λ (entry : List ℕ). entry ∷ n.0) same,
      refl,
      refl,
      subst (λ (entry : List ℕ). HasEntriesAt c.args.self.now.octets.now (c.args.self.now.gate + (length entry + 5)) n.0) same n.2,
    )
