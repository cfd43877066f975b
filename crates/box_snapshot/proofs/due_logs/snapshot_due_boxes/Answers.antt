use Rattle.std.specs.Prelude.{◌<◌}
use Rattle.std.proofs.Common.{◌≡◌, ◌∙◌, ℕ, false, All, length, refl, sym, ap, subst, arith}
use Rattle.model_meaning.specs.MapMeaning.{MapMeaning}
use Rattle.store_core.specs.Value.{StoreValue}
use Rattle.box_snapshot.specs.Due.{is_box_due}
use Rattle.box_snapshot.proofs.DueLogsLemmas.{all_undue, as_many_boxes, as_many_still, kept_then, once_itself, runs_on, same_log_itself, same_log_then, unmade_still}
use Rattle.box_snapshot.proofs.RewritesLemmas.{only_itself, only_then, rewrites_itself, rewrites_then}
use Rattle.box_snapshot.proofs.due_logs.snapshot_due_boxes.Goals as goal

pub loop-place-init : goal.loop-place-init
loop-place-init g c = record {
  rewrites = rewrites_itself g.D.Disk.history c.args.store.now;
  runs = c.requires.running;
  unmade = c.requires.unmade;
  many = c.boxes-place-end.ensures ∙ ap (λ (m : MapMeaning). length m.boxes) c.map.ensures;
  undue = λ i below. absurd (omega (arith, below));
  kept = λ number undue. refl;
  once = once_itself c.args.store.now;
  map_log = same_log_itself c.args.store.now.map_log;
  only = only_itself g.D.Disk.history c.args.store.now;
  idle = λ undue. refl;
  faults = refl;
}

pub snapshot_due_at-requires-clause-running : goal.snapshot_due_at-requires-clause-running
snapshot_due_at-requires-clause-running g c = c.loop-place.invariant.runs

pub snapshot_due_at-requires-clause-unmade : goal.snapshot_due_at-requires-clause-unmade
snapshot_due_at-requires-clause-unmade g c = c.loop-place.invariant.unmade

pub snapshot_due_at-requires-clause-there : goal.snapshot_due_at-requires-clause-there
snapshot_due_at-requires-clause-there g c = subst (λ (k : ℕ). c.loop-place.place < k) c.loop-place.invariant.many c.loop-place-test.true

pub returns-in_err-snapshot_due_at-clause-rewrites : goal.returns-in_err-snapshot_due_at-clause-rewrites
returns-in_err-snapshot_due_at-clause-rewrites g c =
    rewrites_then g.D.Disk.history c.args.store.now c.loop-place.store c.snapshot_due_at.new.store (g.met.D.Disk.reads_image c.loop-place.store.disk) c.loop-place.invariant.runs c.loop-place.invariant.rewrites c.snapshot_due_at.ensures.rewrites

pub returns-in_err-snapshot_due_at-clause-idle : goal.returns-in_err-snapshot_due_at-clause-idle
returns-in_err-snapshot_due_at-clause-idle g c = λ undue.
    let same = c.loop-place.invariant.idle undue in
    let done = (c.in_err-snapshot_due_at.ensures.idle (subst (λ (s : StoreValue _). All (λ b. is_box_due b ≡ false) s.boxes) (sym same) undue)).0 in
    absurd (cc done)

pub loop-place-preserved : goal.loop-place-preserved
loop-place-preserved g c =
    let was = c.loop-place.invariant in
    let did = c.in_ok-snapshot_due_at.ensures in
    record {
      rewrites = rewrites_then g.D.Disk.history c.args.store.now c.loop-place.store c.snapshot_due_at.new.store (g.met.D.Disk.reads_image c.loop-place.store.disk) was.runs was.rewrites did.rewrites;
      runs = runs_on c.snapshot_due_at.new.store.stopped (λ is. absurd (cc (did.stopped.1 is)));
      unmade = unmade_still g.D.Disk.history c.loop-place.store c.snapshot_due_at.new.store did.rewrites was.unmade;
      many = was.many ∙ sym (as_many_still c.loop-place.store.map c.snapshot_due_at.new.store.map did.rewrites.means);
      undue = did.undue was.undue;
      kept = kept_then c.args.store.now c.loop-place.store c.snapshot_due_at.new.store was.kept did.kept;
      once = did.once c.args.store.now was.once;
      map_log = same_log_then c.args.store.now.map_log c.loop-place.store.map_log c.snapshot_due_at.new.store.map_log was.map_log did.map_log;
      only = only_then g.D.Disk.history c.args.store.now c.loop-place.store c.snapshot_due_at.new.store was.only did.only;
      idle = λ undue. (did.idle (subst (λ (s : StoreValue _). All (λ b. is_box_due b ≡ false) s.boxes) (sym (was.idle undue)) undue)).1 ∙ was.idle undue;
      faults = did.unfailed (λ stops. absurd (cc stops)) ∙ was.faults;
    }

pub returns-clause-rewrites : goal.returns-clause-rewrites
returns-clause-rewrites g c = c.loop-place.invariant.rewrites

pub returns-clause-undue : goal.returns-clause-undue
returns-clause-undue g c =
    let was = c.loop-place.invariant in
    let all : length c.loop-place.store.boxes ≡ length c.loop-place.store.map.boxes = as_many_boxes c.loop-place.store.map.store c.loop-place.store.map.boxes c.loop-place.store.boxes c.facts.ensures.store.box_logs in
    let many = was.many in
    let past = c.loop-place-test.false in
    all_undue c.loop-place.place c.loop-place.store.boxes (omega (arith, all, many, past)) was.undue

pub returns-clause-only : goal.returns-clause-only
returns-clause-only g c = c.loop-place.invariant.only

pub returns-clause-kept : goal.returns-clause-kept
returns-clause-kept g c = c.loop-place.invariant.kept

pub returns-clause-once : goal.returns-clause-once
returns-clause-once g c = c.loop-place.invariant.once

pub returns-clause-idle : goal.returns-clause-idle
returns-clause-idle g c = λ undue. (refl, c.loop-place.invariant.idle undue)

pub returns-clause-map_log : goal.returns-clause-map_log
returns-clause-map_log g c = c.loop-place.invariant.map_log
