use Rattle.store_core.proofs.Common.{◌+◌, ◌-◌, sym, ◌∙◌, ap, StoreValue, leak_at, listed_at}
use Rattle.disk_model.specs.declared.name.FileName.TheVariants as file
use Rattle.model_kept.proofs.KeptLemmas.{kept_then}
use Rattle.model_rewritten.specs.Switched.{list_switched}
use Rattle.store_core.specs.Drafts.{listed_with}
use Rattle.store_core.proofs.DraftSwitchLemmas.{draft_apart, gives_messages, gives_same, gone_as, leaves_first, leaves_last, leaves_only, not_ok, old_name, old_out, others_as, reads_on, stored_on, names_synced}
use Rattle.store_core.proofs.store.Store.switch_box.Goals as goal

pub returns-in_err-settle_draft-clause-any_moment : goal.returns-in_err-settle_draft-clause-any_moment
returns-in_err-settle_draft-clause-any_moment g c = λ lists messages listed settled.
    leaves_only lists (list_switched c.args.draft.number.0 c.args.draft.index.meaning.next messages lists) _ _ (c.settle_draft.ensures.any_moment lists settled)

pub returns-in_err-put_in_force-clause-any_moment : goal.returns-in_err-put_in_force-clause-any_moment
returns-in_err-put_in_force-clause-any_moment g c = λ lists messages listed settled.
    let lists_now = list_switched c.args.draft.number.0 c.args.draft.index.meaning.next messages lists in
    let settled_first = c.in_ok-settle_draft.ensures.settled lists settled in
    let gives = gives_messages g.D.Disk.history c.args.self.now c.settle_draft.new.self c.args.draft messages lists c.settle_draft.ensures.same c.in_ok-settle_draft.ensures.stored listed in
    leaves_first lists lists_now _ _ _ (c.settle_draft.ensures.any_moment lists settled) (c.put_in_force.ensures.any_moment lists lists_now gives settled_first)

pub returns-in_err-put_in_force-clause-mail_stays : goal.returns-in_err-put_in_force-clause-mail_stays
returns-in_err-put_in_force-clause-mail_stays g c = λ m.
    kept_then m _ _ _ (g.met.D.Disk.reads_image c.settle_draft.new.self.disk) (c.settle_draft.ensures.mail_stays m) (c.put_in_force.ensures.mail_stays m)

pub returns-in_err-put_in_force-clause-same_lists : goal.returns-in_err-put_in_force-clause-same_lists
returns-in_err-put_in_force-clause-same_lists g c = λ means lists settled.
    let settled_first = c.in_ok-settle_draft.ensures.settled lists settled in
    let gives = gives_same g.D.Disk.history c.args.self.now c.settle_draft.new.self c.args.draft lists c.settle_draft.ensures.same means in
    (leaves_first lists lists _ _ _ (c.settle_draft.ensures.any_moment lists settled) (c.put_in_force.ensures.any_moment lists lists gives settled_first), not_ok _ _ c.from_residual-in_err-put_in_force.ensures.0)

pub drop_log-requires-clause-free : goal.drop_log-requires-clause-free
drop_log-requires-clause-free g c =
    old_out c.args.self.now c.put_in_force.new.self c.args.draft c.draft.inside.open_box.number c.in-Some.generation c.requires.draft.newer (ap (λ d. d.number) c.draft.view_is) (sym c.in-Some.is ∙ c.generation_of.ensures) c.settle_draft.new.self.map
    c.in_ok-put_in_force.ensures.taken

pub returns-in_err-drop_log-clause-any_moment : goal.returns-in_err-drop_log-clause-any_moment
returns-in_err-drop_log-clause-any_moment g c = λ lists messages listed settled.
    let lists_now = list_switched c.args.draft.number.0 c.args.draft.index.meaning.next messages lists in
    let settled_first = c.in_ok-settle_draft.ensures.settled lists settled in
    let gives = gives_messages g.D.Disk.history c.args.self.now c.settle_draft.new.self c.args.draft messages lists c.settle_draft.ensures.same c.in_ok-settle_draft.ensures.stored listed in
    leaves_last lists lists_now _ _ _ (leaves_first lists lists_now _ _ _ (c.settle_draft.ensures.any_moment lists settled) (c.put_in_force.ensures.any_moment lists lists_now gives settled_first)) (c.drop_log.ensures.any_moment lists_now (c.in_ok-put_in_force.ensures.settled lists lists_now gives settled_first))

pub returns-in_err-drop_log-clause-mail_stays : goal.returns-in_err-drop_log-clause-mail_stays
returns-in_err-drop_log-clause-mail_stays g c = λ m.
    kept_then m _ _ _ (g.met.D.Disk.reads_image c.put_in_force.new.self.disk) (kept_then m _ _ _ (g.met.D.Disk.reads_image c.settle_draft.new.self.disk) (c.settle_draft.ensures.mail_stays m) (c.put_in_force.ensures.mail_stays m)) (c.drop_log.ensures.mail_stays m)

pub returns-in_err-drop_log-clause-same_lists : goal.returns-in_err-drop_log-clause-same_lists
returns-in_err-drop_log-clause-same_lists g c = λ means lists settled.
    let settled_first = c.in_ok-settle_draft.ensures.settled lists settled in
    let gives = gives_same g.D.Disk.history c.args.self.now c.settle_draft.new.self c.args.draft lists c.settle_draft.ensures.same means in
    (leaves_last lists lists _ _ _ (leaves_first lists lists _ _ _ (c.settle_draft.ensures.any_moment lists settled) (c.put_in_force.ensures.any_moment lists lists gives settled_first)) (c.drop_log.ensures.any_moment lists (c.in_ok-put_in_force.ensures.settled lists lists gives settled_first)), not_ok _ _ c.from_residual-in_err-drop_log.ensures.0)

pub returns-clause-any_moment : goal.returns-clause-any_moment
returns-clause-any_moment g c = λ lists messages listed settled.
    let lists_now = list_switched c.args.draft.number.0 c.args.draft.index.meaning.next messages lists in
    let settled_first = c.in_ok-settle_draft.ensures.settled lists settled in
    let gives = gives_messages g.D.Disk.history c.args.self.now c.settle_draft.new.self c.args.draft messages lists c.settle_draft.ensures.same c.in_ok-settle_draft.ensures.stored listed in
    leaves_last lists lists_now _ _ _ (leaves_first lists lists_now _ _ _ (c.settle_draft.ensures.any_moment lists settled) (c.put_in_force.ensures.any_moment lists lists_now gives settled_first)) (c.drop_log.ensures.any_moment lists_now (c.in_ok-put_in_force.ensures.settled lists lists_now gives settled_first))

pub returns-clause-mail_stays : goal.returns-clause-mail_stays
returns-clause-mail_stays g c = λ m.
    kept_then m _ _ _ (g.met.D.Disk.reads_image c.put_in_force.new.self.disk) (kept_then m _ _ _ (g.met.D.Disk.reads_image c.settle_draft.new.self.disk) (c.settle_draft.ensures.mail_stays m) (c.put_in_force.ensures.mail_stays m)) (c.drop_log.ensures.mail_stays m)

pub returns-clause-settled : goal.returns-clause-settled
returns-clause-settled g c = λ lists messages listed settled.
    let lists_now = list_switched c.args.draft.number.0 c.args.draft.index.meaning.next messages lists in
    let settled_first = c.in_ok-settle_draft.ensures.settled lists settled in
    let gives = gives_messages g.D.Disk.history c.args.self.now c.settle_draft.new.self c.args.draft messages lists c.settle_draft.ensures.same c.in_ok-settle_draft.ensures.stored listed in
    c.in_ok-drop_log.ensures.settled lists_now (c.in_ok-put_in_force.ensures.settled lists lists_now gives settled_first)

pub returns-clause-same_lists : goal.returns-clause-same_lists
returns-clause-same_lists g c = λ means lists settled.
    let settled_first = c.in_ok-settle_draft.ensures.settled lists settled in
    let gives = gives_same g.D.Disk.history c.args.self.now c.settle_draft.new.self c.args.draft lists c.settle_draft.ensures.same means in
    (leaves_last lists lists _ _ _ (leaves_first lists lists _ _ _ (c.settle_draft.ensures.any_moment lists settled) (c.put_in_force.ensures.any_moment lists lists gives settled_first)) (c.drop_log.ensures.any_moment lists (c.in_ok-put_in_force.ensures.settled lists lists gives settled_first)), c.in_ok-drop_log.ensures.settled lists (c.in_ok-put_in_force.ensures.settled lists lists gives settled_first))

pub returns-clause-stored : goal.returns-clause-stored
returns-clause-stored g c =
    stored_on _ _ _ (stored_on _ _ _ c.in_ok-settle_draft.ensures.stored c.in_ok-put_in_force.ensures.stored) c.in_ok-drop_log.ensures.stored

pub returns-clause-leak : goal.returns-clause-leak
returns-clause-leak g c = λ uid.
    ap (λ (v : StoreValue _). leak_at uid v) c.drop_log.ensures.same ∙ c.in_ok-put_in_force.ensures.leak uid
    ∙ ap (λ (v : StoreValue _). leak_at uid v + listed_at uid v - listed_with c.args.draft uid v) c.settle_draft.ensures.same

pub returns-clause-reads : goal.returns-clause-reads
returns-clause-reads g c = λ texts drafted.
    reads_on (file.Box c.draft.inside.open_box.number.0 c.in-Some.generation) c.args.draft.log texts _ _ c.in_ok-drop_log.ensures.others
    (draft_apart _ c.args.self.now c.args.draft c.draft.inside.open_box.number c.in-Some.generation c.requires.draft (ap (λ d. d.number) c.draft.view_is) (sym c.in-Some.is ∙ c.generation_of.ensures))
    (c.in_ok-put_in_force.ensures.reads texts (c.in_ok-settle_draft.ensures.reads texts drafted))

pub returns-clause-gone : goal.returns-clause-gone
returns-clause-gone g c = λ box found.
    gone_as _ _ _ (old_name c.args.self.now.map c.args.draft.number.0 c.draft.inside.open_box.number.0 c.in-Some.generation box (ap (λ d. d.number.0) c.draft.view_is) found (sym c.in-Some.is ∙ c.generation_of.ensures)) c.in_ok-drop_log.ensures.gone

pub returns-clause-others : goal.returns-clause-others
returns-clause-others g c = λ box found.
    others_as c.args.self.now.map_log.name c.settle_draft.new.self.map_log.name (file.Box c.draft.inside.open_box.number.0 c.in-Some.generation) (file.Box box.number box.generation) c.args.draft.log.name _ _ _ _
    (ap (λ (v : StoreValue _). v.map_log.name) c.settle_draft.ensures.same) (old_name c.args.self.now.map c.args.draft.number.0 c.draft.inside.open_box.number.0 c.in-Some.generation box (ap (λ d. d.number.0) c.draft.view_is) found (sym c.in-Some.is ∙ c.generation_of.ensures))
    c.in_ok-settle_draft.ensures.others
    c.in_ok-put_in_force.ensures.others c.in_ok-drop_log.ensures.others

pub returns-clause-names : goal.returns-clause-names
returns-clause-names g c = names_synced (file.Box c.draft.inside.open_box.number.0 c.in-Some.generation) _ _ c.in_ok-drop_log.ensures.others c.in_ok-drop_log.ensures.gone
