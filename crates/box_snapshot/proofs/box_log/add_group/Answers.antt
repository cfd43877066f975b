use Rattle.std.proofs.Common.{arith, sym, subst}
use Rattle.model_meaning.specs.BoxMeaning.{BoxMeaning}
use Rattle.store_core.specs.Drafts.{AllFitBehind}
use Rattle.store_core.specs.Value.{list_numbered}
use Rattle.box_snapshot.specs.BoxFilled.{entries_anew}
use Rattle.box_snapshot.proofs.BoxFillLemmas.{box_group_rewrites, filled_more}
use Rattle.box_snapshot.proofs.BoxGroupLemmas.{group_next_of}
use Rattle.box_snapshot.proofs.RewritesLemmas.{rewrites_itself}
use Rattle.box_snapshot.proofs.box_log.add_group.Goals as goal

pub returns-in_err-group-clause-rewrites : goal.returns-in_err-group-clause-rewrites
returns-in_err-group-clause-rewrites g c = rewrites_itself g.D.Disk.history c.args.store.now

pub extend_box-requires-clause-range : goal.extend_box-requires-clause-range
extend_box-requires-clause-range g c =
    (group_next_of c.args.store.now.map (list_numbered c.args.store.now c.args.mailbox.0) c.args.from c.in_ok-group.group c.known_snapshot.ensures c.requires.within c.in_ok-group.ensures).in_range

pub extend_box-requires-clause-fit : goal.extend_box-requires-clause-fit
extend_box-requires-clause-fit g c =
    subst (λ (m : BoxMeaning). AllFitBehind m c.in_ok-group.group) (sym c.requires.filled.means)
    (group_next_of c.args.store.now.map (list_numbered c.args.store.now c.args.mailbox.0) c.args.from c.in_ok-group.group c.known_snapshot.ensures c.requires.within c.in_ok-group.ensures).fit

pub extend_box-requires-clause-records : goal.extend_box-requires-clause-records
extend_box-requires-clause-records g c =
    (group_next_of c.args.store.now.map (list_numbered c.args.store.now c.args.mailbox.0) c.args.from c.in_ok-group.group c.known_snapshot.ensures c.requires.within c.in_ok-group.ensures).records

pub returns-in_err-extend_box-clause-rewrites : goal.returns-in_err-extend_box-clause-rewrites
returns-in_err-extend_box-clause-rewrites g c =
    box_group_rewrites g.D.Disk.history c.args.store.now c.extend_box.new.self c.extend_box.result c.args.draft.now c.extend_box.new.draft _ c.requires.filled c.extend_box.ensures.same c.extend_box.ensures.any_moment c.extend_box.ensures.mail_stays
    c.extend_box.ensures.grows c.extend_box.ensures.stopped c.extend_box.ensures.memory c.extend_box.ensures.settled c.extend_box.ensures.others c.extend_box.ensures.draft c.extend_box.ensures.number

pub overflow_cast-result : goal.overflow_cast-result
overflow_cast-result g c =
    let n = group_next_of c.args.store.now.map (list_numbered c.args.store.now c.args.mailbox.0) c.args.from c.in_ok-group.group c.known_snapshot.ensures c.requires.within c.in_ok-group.ensures in
    let few = n.few in
    omega (arith, few, c.length.ensures)

pub overflow_add-result : goal.overflow_add-result
overflow_add-result g c =
    let n = group_next_of c.args.store.now.map (list_numbered c.args.store.now c.args.mailbox.0) c.args.from c.in_ok-group.group c.known_snapshot.ensures c.requires.within c.in_ok-group.ensures in
    let within = n.within in
    let short = n.short in
    omega (arith, within, short, c.length.ensures)

pub returns-clause-rewrites : goal.returns-clause-rewrites
returns-clause-rewrites g c =
    box_group_rewrites g.D.Disk.history c.args.store.now c.extend_box.new.self c.extend_box.result c.args.draft.now c.extend_box.new.draft _ c.requires.filled c.extend_box.ensures.same c.extend_box.ensures.any_moment c.extend_box.ensures.mail_stays
    c.extend_box.ensures.grows c.extend_box.ensures.stopped c.extend_box.ensures.memory c.extend_box.ensures.settled c.extend_box.ensures.others c.extend_box.ensures.draft c.extend_box.ensures.number

pub returns-clause-further : goal.returns-clause-further
returns-clause-further g c =
    let n = group_next_of c.args.store.now.map (list_numbered c.args.store.now c.args.mailbox.0) c.args.from c.in_ok-group.group c.known_snapshot.ensures c.requires.within c.in_ok-group.ensures in
    let some = n.some in
    let within = n.within in
    (omega (arith, some, c.length.ensures), omega (arith, within, c.length.ensures))

pub returns-clause-filled : goal.returns-clause-filled
returns-clause-filled g c =
    let n = group_next_of c.args.store.now.map (list_numbered c.args.store.now c.args.mailbox.0) c.args.from c.in_ok-group.group c.known_snapshot.ensures c.requires.within c.in_ok-group.ensures in
    rw c.length.ensures
    (filled_more _ _ c.args.draft.now c.extend_box.new.draft c.args.store.now c.extend_box.new.self (entries_anew c.args.mailbox.0 c.args.store.now) c.in_ok-group.group c.args.from c.args.store.now.map c.requires.filled n
    c.in_ok-extend_box.ensures.draft c.in_ok-extend_box.ensures.taken c.in_ok-extend_box.ensures.added c.in_ok-extend_box.ensures.counted c.in_ok-extend_box.ensures.others c.in_ok-extend_box.ensures.number)
