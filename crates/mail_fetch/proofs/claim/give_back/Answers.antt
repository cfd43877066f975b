use Rattle.mail_fetch.proofs.Common.{◌≤◌, List, sym, ◌∙◌, subst, InstRow, InstId, holders_in, holds_of, StoreValue, pins_in, Held}
use Rattle.mail_fetch.proofs.UseLemmas.{given_last, given_leaves, given_moves, given_removable, given_same, own_pinned}
use Rattle.mail_fetch.proofs.claim.give_back.Goals as goal

pub let_go_all-requires : goal.let_go_all-requires
let_go_all-requires g c = record { held = subst (λ (rows : List InstRow). (id : InstId) → holds_of rows id ≤ holders_in id c.args.store.now.instances.known) (sym c.as_slice.ensures) (λ id. c.requires (Held id)) }

pub unpin-requires : goal.unpin-requires
unpin-requires g c = record { pinned = subst (λ (s : StoreValue _). 1 ≤ pins_in c.args.from.now.file.0 s.files.files) (sym c.let_go_all.ensures.same) (own_pinned c.args.from.now c.args.store.now c.requires) }

pub returns-clause-same : goal.returns-clause-same
returns-clause-same g c = given_same c.args.from.now c.as_slice.result.now c.args.store.now c.let_go_all.new.store c.unpin.new.self c.as_slice.ensures c.let_go_all.ensures.same c.unpin.ensures.same

pub returns-clause-last : goal.returns-clause-last
returns-clause-last g c = given_last c.args.from.now.file.0 c.as_slice.result.now c.args.store.now c.let_go_all.new.store c.unpin.result c.let_go_all.ensures.same c.unpin.ensures.last

pub returns-clause-claims : goal.returns-clause-claims
returns-clause-claims g c =
    given_moves c.args.from.now c.as_slice.result.now c.args.store.now c.let_go_all.new.store c.unpin.new.self c.unpin.result c.as_slice.ensures c.let_go_all.ensures.same (returns-clause-same g c) c.requires (sym (returns-clause-last g c)) c.let_go_all.ensures.moves

pub returns-clause-removable : goal.returns-clause-removable
returns-clause-removable g c = λ last. given_removable c.args.from.now c.args.store.now c.unpin.new.self c.facts.ensures.store.files.below (returns-clause-same g c) (sym (returns-clause-last g c) ∙ last)

pub returns-clause-leaves : goal.returns-clause-leaves
returns-clause-leaves g c = λ mine. given_leaves g.D.Disk.history mine c.args.from.now c.as_slice.result.now c.args.store.now c.let_go_all.new.store c.unpin.new.self c.as_slice.ensures c.let_go_all.ensures.same c.let_go_all.ensures.keeps (returns-clause-same g c)
