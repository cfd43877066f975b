use Rattle.std.proofs.Common.{◌∙◌, ℕ, List, sym, subst, rules}
use Rattle.std.proofs.lemmas.Bool.Decides.{when_true, when_false}
use Rattle.store_checks.proofs.TextWalkLemmas.{walk-none, walk-end, replayed-more, replayed-bad}
use Rattle.store_checks.proofs.replay.replay_entries.Goals as goal

pub loop-place-init : goal.loop-place-init
loop-place-init g c = record {
  replayed = λ texts t. record { walk = walk-none texts c.entries-entries.result.octets.now c.entries-entries.result.gate (c.entries-entries.ensures.entries texts t) c.entries-entries.ensures.first; replayed = c.requires };
  store = search rules;
}

pub returns-then-not-branch-clause-replayed : goal.returns-then-not-branch-clause-replayed
returns-then-not-branch-clause-replayed g c = λ texts t.
    let r = when_false _ _ c.if-not-branch.true c.in_ok-replay_entry.ensures.taken in
    replayed-bad g.F.Replay.is_replay g.F.Replay.refuses _ _ texts _ _ _ _ c.in-Some.place c.in-Some.entry (c.loop-place.invariant.replayed texts t) c.in-Some.ensures.next r.0 r.1

pub loop-place-preserved : goal.loop-place-preserved
loop-place-preserved g c = record {
  replayed = λ texts t. replayed-more g.F.Replay.is_replay _ _ texts _ _ _ _ c.in-Some.place c.in-Some.entry (c.loop-place.invariant.replayed texts t) c.in-Some.ensures.next (when_true _ _ c.if-not-branch.false c.in_ok-replay_entry.ensures.taken);
  store = c.in_ok-replay_entry.ensures.store ∙ c.loop-place.invariant.store;
}

pub returns-clause-replayed : goal.returns-clause-replayed
returns-clause-replayed g c = λ texts t.
    let s = c.loop-place.invariant.replayed texts t in
    subst (λ (ts : List (List ℕ)). g.F.Replay.is_replay c.loop-place.replay ts) (sym (walk-end texts _ c.next_entry.new.self.octets.now _ c.next_entry.new.self.gate s.walk c.in_default.ensures.next)) s.replayed
