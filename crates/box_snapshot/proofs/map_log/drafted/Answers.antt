use Rattle.std.specs.Prelude.{IsErrOf}
use Rattle.std.proofs.Common.{inl, inr, rules, arith, ◌≡◌}
use Rattle.std.proofs.lemmas.Grind.{common_steps}
use Rattle.disk_model.specs.Disk.{SameButFor}
use Rattle.store_core.specs.declared.error.StepError.TheVariants as step_error
use Rattle.box_snapshot.proofs.MapFillLemmas.{runs_if_ok}
use Rattle.box_snapshot.proofs.MapSnapshotLemmas.{filled_first, made_rewrites, spared_map}
use Rattle.box_snapshot.proofs.RewritesLemmas.{rewrites_then}
use Rattle.box_snapshot.proofs.map_log.drafted.Goals as goal

pub returns-in_err-draft-clause-rewrites : goal.returns-in_err-draft-clause-rewrites
returns-in_err-draft-clause-rewrites g c =
    let e = c.draft_map.ensures in
    made_rewrites g.D.Disk.history c.args.store.now c.draft_map.new.self c.draft_map.result e.same e.any_moment e.mail_stays e.grows e.stopped e.memory e.settled e.draft e.others

pub fill-requires-clause-filled : goal.fill-requires-clause-filled
fill-requires-clause-filled g c =
    let H = g.D.Disk.history in
    let v = c.args.store.now in
    let w = c.draft_map.new.self in
    let e = c.in_ok-draft.ensures in
    filled_first (H v.disk) (H w.disk) v w c.in_ok-draft.draft e.same e.draft e.empty e.nothing e.counted e.others

pub returns-in_err-fill-clause-rewrites : goal.returns-in_err-fill-clause-rewrites
returns-in_err-fill-clause-rewrites g c =
    let e = c.draft_map.ensures in
    let H = g.D.Disk.history in
    let v = c.args.store.now in
    let w = c.draft_map.new.self in
    rewrites_then H v w c.fill.new.store (g.met.D.Disk.reads_image w.disk) (runs_if_ok c.draft_map.result c.in_ok-draft.draft w.stopped c.in_ok-draft.was e.stopped)
    (made_rewrites H v w c.draft_map.result e.same e.any_moment e.mail_stays e.grows e.stopped e.memory e.settled e.draft e.others) c.fill.ensures.rewrites

pub returns-clause-rewrites : goal.returns-clause-rewrites
returns-clause-rewrites g c =
    let e = c.draft_map.ensures in
    let H = g.D.Disk.history in
    let v = c.args.store.now in
    let w = c.draft_map.new.self in
    rewrites_then H v w c.fill.new.store (g.met.D.Disk.reads_image w.disk) (runs_if_ok c.draft_map.result c.in_ok-draft.draft w.stopped c.in_ok-draft.was e.stopped)
    (made_rewrites H v w c.draft_map.result e.same e.any_moment e.mail_stays e.grows e.stopped e.memory e.settled e.draft e.others) c.fill.ensures.rewrites

pub returns-in_err-draft-clause-spared : goal.returns-in_err-draft-clause-spared
returns-in_err-draft-clause-spared g c =
    let same : IsErrOf c.from_residual.result step_error.NoMemory → c.draft_map.new.self ≡ c.args.store.now = first_of (search rules, grind (arith, common_steps)) in λ none. inl (same none)

pub returns-in_err-fill-clause-spared : goal.returns-in_err-fill-clause-spared
returns-in_err-fill-clause-spared g c =
    let spared : IsErrOf c.from_residual-in_err-fill.result step_error.NoMemory → SameButFor c.in_ok-draft.draft.log.name (g.D.Disk.history c.draft_map.new.self.disk) (g.D.Disk.history c.fill.new.store.disk) = first_of (search rules, grind (arith, common_steps)) in λ none.
    let e = c.in_ok-draft.ensures in
    inr (spared_map _ _ _ c.args.store.now c.draft_map.new.self c.in_ok-draft.draft c.facts.ensures.store e.draft e.number e.others (spared none))
