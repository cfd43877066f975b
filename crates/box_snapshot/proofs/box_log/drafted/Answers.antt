use Rattle.std.specs.Prelude.{IsErrOf}
use Rattle.std.proofs.Common.{◌≡◌, ◌+◌, inl, inr, Some, ap, sym, ◌∙◌, refl, arith, option_map, rules}
use Rattle.std.proofs.lemmas.Grind.{common_steps}
use Rattle.model_meaning.specs.MapMeaning.{MapBox}
use Rattle.disk_model.specs.Disk.{SameButFor}
use Rattle.store_core.specs.declared.error.StepError.TheVariants as step_error
use Rattle.box_snapshot.proofs.BoxDraftLemmas.{box_filled_first, drafted_rewrites, due_in, listed_after, means_anew, newer_then, spared_box}
use Rattle.box_snapshot.proofs.MapFillLemmas.{runs_if_ok}
use Rattle.box_snapshot.proofs.RewritesLemmas.{rewrites_then}
use Rattle.box_snapshot.proofs.box_log.drafted.Goals as goal

pub unwrap-generation-requires : goal.unwrap-generation-requires
unwrap-generation-requires g c =
    let due = due_in _ c.args.store.now c.args.mailbox.0 c.facts.ensures.store c.requires.due in
    rw (c.generation_of.ensures, due.0.there) refl

pub overflow_add-generation : goal.overflow_add-generation
overflow_add-generation g c =
    let due = due_in _ c.args.store.now c.args.mailbox.0 c.facts.ensures.store c.requires.due in
    let below = due.1 in
    let is : Some c.unwrap-generation.result ≡ Some due.0.box.generation = sym c.unwrap-generation.ensures ∙ c.generation_of.ensures ∙ ap (option_map (λ box. box.generation)) due.0.there in
    let same : c.unwrap-generation.result ≡ due.0.box.generation = cc is in
    omega (arith, below, same)

pub draft_box-requires-clause-newer : goal.draft_box-requires-clause-newer
draft_box-requires-clause-newer g c =
    let due = due_in _ c.args.store.now c.args.mailbox.0 c.facts.ensures.store c.requires.due in
    let is : Some c.unwrap-generation.result ≡ Some due.0.box.generation = sym c.unwrap-generation.ensures ∙ c.generation_of.ensures ∙ ap (option_map (λ box. box.generation)) due.0.there in
    newer_then _ c.args.store.now c.args.mailbox.0 c.unwrap-generation.result c.facts.ensures.store due.0 due.1 c.requires.unmade (cc is)

pub returns-in_err-draft-clause-rewrites : goal.returns-in_err-draft-clause-rewrites
returns-in_err-draft-clause-rewrites g c =
    let e = c.draft_box.ensures in
    drafted_rewrites g.D.Disk.history c.args.store.now c.draft_box.new.self c.args.mailbox (c.unwrap-generation.result + 1) c.draft_box.result e.same e.any_moment e.mail_stays e.grows e.stopped e.memory e.settled e.draft e.number e.others

pub fill-requires-clause-there : goal.fill-requires-clause-there
fill-requires-clause-there g c =
    let due = due_in _ c.args.store.now c.args.mailbox.0 c.facts.ensures.store c.requires.due in
    listed_after c.args.store.now c.draft_box.new.self c.args.mailbox.0 due.0.open_box.index.meaning c.draft_box.ensures.same due.0.meaning

pub fill-requires-clause-filled : goal.fill-requires-clause-filled
fill-requires-clause-filled g c =
    let e = c.in_ok-draft.ensures in
    box_filled_first (g.D.Disk.history c.args.store.now.disk) (g.D.Disk.history c.draft_box.new.self.disk) c.draft_box.new.self c.args.mailbox (c.unwrap-generation.result + 1) c.in_ok-draft.draft e.draft e.empty e.nothing e.counted e.number e.others

pub returns-in_err-fill-clause-rewrites : goal.returns-in_err-fill-clause-rewrites
returns-in_err-fill-clause-rewrites g c =
    let e = c.draft_box.ensures in
    let H = g.D.Disk.history in
    let v = c.args.store.now in
    let w = c.draft_box.new.self in
    rewrites_then H v w c.fill.new.store (g.met.D.Disk.reads_image w.disk) (runs_if_ok c.draft_box.result c.in_ok-draft.draft w.stopped c.in_ok-draft.was e.stopped)
    (drafted_rewrites H v w c.args.mailbox (c.unwrap-generation.result + 1) c.draft_box.result e.same e.any_moment e.mail_stays e.grows e.stopped e.memory e.settled e.draft e.number e.others) c.fill.ensures.rewrites

pub returns-clause-rewrites : goal.returns-clause-rewrites
returns-clause-rewrites g c =
    let e = c.draft_box.ensures in
    let H = g.D.Disk.history in
    let v = c.args.store.now in
    let w = c.draft_box.new.self in
    rewrites_then H v w c.fill.new.store (g.met.D.Disk.reads_image w.disk) (runs_if_ok c.draft_box.result c.in_ok-draft.draft w.stopped c.in_ok-draft.was e.stopped)
    (drafted_rewrites H v w c.args.mailbox (c.unwrap-generation.result + 1) c.draft_box.result e.same e.any_moment e.mail_stays e.grows e.stopped e.memory e.settled e.draft e.number e.others) c.fill.ensures.rewrites

pub returns-clause-means : goal.returns-clause-means
returns-clause-means g c =
    let v = c.args.store.now in
    let w = c.draft_box.new.self in
    let due = due_in _ v c.args.mailbox.0 c.facts.ensures.store c.requires.due in
    means_anew v w c.args.mailbox.0 due.0.open_box.index.meaning c.fill.new.draft.index.meaning c.draft_box.ensures.same due.0.meaning (c.known_snapshot.ensures due.0.open_box.index.meaning due.0.meaning) c.in_ok-fill.ensures.filled.means

pub returns-in_err-draft-clause-spared : goal.returns-in_err-draft-clause-spared
returns-in_err-draft-clause-spared g c =
    let same : IsErrOf c.from_residual.result step_error.NoMemory → c.draft_box.new.self ≡ c.args.store.now = first_of (search rules, grind (arith, common_steps)) in λ none box there. inl (same none)

pub returns-in_err-fill-clause-spared : goal.returns-in_err-fill-clause-spared
returns-in_err-fill-clause-spared g c =
    let spared : IsErrOf c.from_residual-in_err-fill.result step_error.NoMemory → SameButFor c.in_ok-draft.draft.log.name (g.D.Disk.history c.draft_box.new.self.disk) (g.D.Disk.history c.fill.new.store.disk) = first_of (search rules, grind (arith, common_steps)) in λ none box there.
    let e = c.in_ok-draft.ensures in
    let is : Some c.unwrap-generation.result ≡ Some box.generation = sym c.unwrap-generation.ensures ∙ c.generation_of.ensures ∙ ap (option_map (λ (b : MapBox). b.generation)) there in
    inr (spared_box _ _ _ c.draft_box.new.self c.args.mailbox c.unwrap-generation.result box c.in_ok-draft.draft e.draft e.number (cc is) e.others (spared none))
