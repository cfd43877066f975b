use Rattle.std.specs.Prelude.{IsErrOf}
use Rattle.std.proofs.Common.{◌≡◌, ◌≤◌, length, take, refl, sym, subst, ◌∙◌, arith, Ok, rules}
use Rattle.std.proofs.lemmas.Grind.{common_steps}
use Rattle.disk_model.specs.Disk.{SameButFor}
use Rattle.model_meaning.specs.MapMeaning.{MapMeaning}
use Rattle.model_rewritten.specs.Rewriting.{map_snapshot}
use Rattle.store_core.specs.Value.{StoreValue}
use Rattle.store_core.specs.declared.error.StepError.TheVariants as step_error
use Rattle.box_snapshot.specs.MapFilled.{IsMapFilled}
use Rattle.box_snapshot.proofs.MapFillLemmas.{no_error, others_itself, others_then, runs_if_ok, same_map, value_then}
use Rattle.box_snapshot.proofs.RewritesLemmas.{rewrites_itself, rewrites_then}
use Rattle.box_snapshot.proofs.map_log.fill.Goals as goal

pub loop-from-init : goal.loop-from-init
loop-from-init g c = record {
  within = omega arith;
  filled = c.requires.filled;
  rewrites = rewrites_itself g.D.Disk.history c.args.store.now;
  others = others_itself c.args.draft.now.log.name (g.D.Disk.history c.args.store.now.disk);
  number = refl;
  same = refl;
  running = c.requires.running;
  faults = refl;
}

pub returns-in_err-from-clause-rewrites : goal.returns-in_err-from-clause-rewrites
returns-in_err-from-clause-rewrites g c =
    let i = c.loop-from.invariant in
    rewrites_then g.D.Disk.history c.args.store.now c.loop-from.store c.add_group.new.store (g.met.D.Disk.reads_image c.loop-from.store.disk) i.running i.rewrites c.add_group.ensures.rewrites

pub loop-from-preserved : goal.loop-from-preserved
loop-from-preserved g c =
    let H = g.D.Disk.history in
    let v = c.args.store.now in
    let now = c.loop-from.store in
    let w = c.add_group.new.store in
    let i = c.loop-from.invariant in
    let e = c.in_ok-from.ensures in
    let map_same : now.map ≡ v.map = same_map v now i.same in
    record {
      within = subst (λ (m : MapMeaning). c.in_ok-from.from ≤ length (map_snapshot m)) map_same e.further.1;
      filled = subst (λ (m : MapMeaning). IsMapFilled (H w.disk) (take c.in_ok-from.from (map_snapshot m)) c.add_group.new.draft w) map_same e.filled;
      rewrites = rewrites_then H v now w (g.met.D.Disk.reads_image now.disk) i.running i.rewrites e.rewrites;
      others = others_then (H v.disk) (H now.disk) (H w.disk) v now c.args.draft.now c.loop-from.draft c.requires.filled.drafted i.filled.drafted i.number i.others e.others;
      number = e.number ∙ i.number;
      same = value_then v now w i.same e.same;
      running = runs_if_ok c.add_group.result c.in_ok-from.from w.stopped c.in_ok-from.was c.add_group.ensures.stopped;
      faults = e.unfailed (no_error (Ok c.in_ok-from.from) c.in_ok-from.from step_error.Stopped refl) ∙ i.faults;
    }

pub returns-in_err-from-clause-spared : goal.returns-in_err-from-clause-spared
returns-in_err-from-clause-spared g c =
    let same : IsErrOf c.from_residual.result step_error.NoMemory → c.add_group.new.store ≡ c.loop-from.store = first_of (search rules, grind (arith, common_steps)) in λ none.
    subst (λ (s : StoreValue _). SameButFor c.args.draft.now.log.name (g.D.Disk.history c.args.store.now.disk) (g.D.Disk.history s.disk)) (sym (same none)) c.loop-from.invariant.others
