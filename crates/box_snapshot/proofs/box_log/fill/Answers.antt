use Rattle.std.specs.Prelude.{IsErrOf}
use Rattle.std.proofs.Common.{◌<◌, ◌≤◌, List, length, take, refl, sym, subst, ◌∙◌, ap, arith, Ok, option_map, rules, ◌≡◌}
use Rattle.std.proofs.lemmas.Grind.{common_steps}
use Rattle.std.specs.Option.{option_copied}
use Rattle.disk_model.specs.Disk.{SameButFor}
use Rattle.mdbox_base.specs.declared.entries.BoxEntry.{BoxEntry}
use Rattle.store_core.specs.Value.{StoreValue}
use Rattle.store_core.specs.declared.error.StepError.TheVariants as step_error
use Rattle.box_snapshot.specs.BoxFilled.{IsBoxFilled}
use Rattle.box_snapshot.proofs.BoxFillLemmas.{anew_same, anew_there, box_others_then}
use Rattle.box_snapshot.proofs.MapFillLemmas.{no_error, others_itself, runs_if_ok, value_then}
use Rattle.box_snapshot.proofs.RewritesLemmas.{rewrites_itself, rewrites_then}
use Rattle.box_snapshot.proofs.box_log.fill.Goals as goal

pub loop-from-init : goal.loop-from-init
loop-from-init g c = record {
  end = c.entries_in-end.ensures.entries ∙ ap length (sym (anew_there c.args.mailbox.0 c.args.store.now _ c.unwrap.result.now.meaning c.mailbox.ensures (ap (λ o. option_map (λ i. i.meaning) (option_copied o)) c.unwrap.ensures)));
  within = omega arith;
  filled = c.requires.filled;
  rewrites = rewrites_itself g.D.Disk.history c.args.store.now;
  others = others_itself c.args.draft.now.log.name (g.D.Disk.history c.args.store.now.disk);
  number = (refl, refl);
  same = refl;
  running = c.requires.running;
  faults = refl;
}

pub add_group-requires-clause-within : goal.add_group-requires-clause-within
add_group-requires-clause-within g c =
    let i = c.loop-from.invariant in
    subst (λ (es : List BoxEntry). c.loop-from.from < length es) (sym (anew_same c.args.mailbox.0 c.args.store.now c.loop-from.store i.same)) (let e = i.end in omega (arith, e))

pub add_group-requires-clause-filled : goal.add_group-requires-clause-filled
add_group-requires-clause-filled g c =
    let i = c.loop-from.invariant in
    subst (λ (es : List BoxEntry). IsBoxFilled (g.D.Disk.history c.loop-from.store.disk) (take c.loop-from.from es) c.loop-from.draft c.loop-from.store) (sym (anew_same c.args.mailbox.0 c.args.store.now c.loop-from.store i.same)) i.filled

pub returns-in_err-from-clause-rewrites : goal.returns-in_err-from-clause-rewrites
returns-in_err-from-clause-rewrites g c =
    let i = c.loop-from.invariant in
    rewrites_then g.D.Disk.history c.args.store.now c.loop-from.store c.add_group.new.store (g.met.D.Disk.reads_image c.loop-from.store.disk) i.running i.rewrites c.add_group.ensures.rewrites

pub loop-from-preserved : goal.loop-from-preserved
loop-from-preserved g c =
    let H = g.D.Disk.history in
    let v = c.args.store.now in
    let now = c.loop-from.store in
    let w = c.add_group.new.store in
    let i = c.loop-from.invariant in
    let e = c.in_ok-from.ensures in
    let anew = anew_same c.args.mailbox.0 v now i.same in
    record {
      end = i.end;
      within = subst (λ (es : List BoxEntry). c.in_ok-from.from ≤ length es) anew e.further.1;
      filled = subst (λ (es : List BoxEntry). IsBoxFilled (H w.disk) (take c.in_ok-from.from es) c.add_group.new.draft w) anew e.filled;
      rewrites = rewrites_then H v now w (g.met.D.Disk.reads_image now.disk) i.running i.rewrites e.rewrites;
      others = box_others_then (H v.disk) (H now.disk) (H w.disk) c.args.draft.now c.loop-from.draft v now c.requires.filled.drafted i.filled.drafted i.number i.others e.others;
      number = (e.number.0 ∙ i.number.0, e.number.1 ∙ i.number.1);
      same = value_then v now w i.same e.same;
      running = runs_if_ok c.add_group.result c.in_ok-from.from w.stopped c.in_ok-from.was c.add_group.ensures.stopped;
      faults = e.unfailed (no_error (Ok c.in_ok-from.from) c.in_ok-from.from step_error.Stopped refl) ∙ i.faults;
    }

pub returns-in_err-from-clause-spared : goal.returns-in_err-from-clause-spared
returns-in_err-from-clause-spared g c =
    let same : IsErrOf c.from_residual.result step_error.NoMemory → c.add_group.new.store ≡ c.loop-from.store = first_of (search rules, grind (arith, common_steps)) in λ none.
    subst (λ (s : StoreValue _). SameButFor c.args.draft.now.log.name (g.D.Disk.history c.args.store.now.disk) (g.D.Disk.history s.disk)) (sym (same none)) c.loop-from.invariant.others
