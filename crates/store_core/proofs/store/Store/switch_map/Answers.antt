use Rattle.store_core.proofs.Common.{sym, ◌∙◌, ap, LogState, StoreValue}
use Rattle.disk_model.specs.declared.name.FileName.TheVariants as file
use Rattle.model_kept.proofs.KeptLemmas.{kept_then}
use Rattle.store_core.proofs.DraftSwitchLemmas.{gone_as, leaves_first, names_synced, others_as, stored_on}
use Rattle.store_core.proofs.store.Store.switch_map.Goals as goal

pub returns-in_err-name_map-clause-any_moment : goal.returns-in_err-name_map-clause-any_moment
returns-in_err-name_map-clause-any_moment g c = λ lists settled.
    leaves_first lists lists _ _ _ (c.settle_map.ensures.any_moment lists settled) (c.name_map.ensures.any_moment lists (c.in_ok-settle_map.ensures.settled lists settled))

pub returns-in_err-name_map-clause-mail_stays : goal.returns-in_err-name_map-clause-mail_stays
returns-in_err-name_map-clause-mail_stays g c = λ m.
    kept_then m _ _ _ (g.met.D.Disk.reads_image c.settle_map.new.self.disk) (c.settle_map.ensures.mail_stays m) (c.name_map.ensures.mail_stays m)

pub drop_map-requires-clause-free : goal.drop_map-requires-clause-free
drop_map-requires-clause-free g c = λ e.
    c.requires.draft.other (c.map_generation-generation.ensures ∙ sym e ∙ ap (λ (l : LogState). l.name) c.in_ok-name_map.ensures.log ∙ c.requires.draft.name)

pub returns-in_err-drop_map-clause-any_moment : goal.returns-in_err-drop_map-clause-any_moment
returns-in_err-drop_map-clause-any_moment g c = λ lists settled.
    leaves_first lists lists _ _ _ (leaves_first lists lists _ _ _ (c.settle_map.ensures.any_moment lists settled) (c.name_map.ensures.any_moment lists (c.in_ok-settle_map.ensures.settled lists settled))) (c.drop_map.ensures.any_moment lists (c.in_ok-name_map.ensures.settled lists (c.in_ok-settle_map.ensures.settled lists settled)))

pub returns-in_err-drop_map-clause-mail_stays : goal.returns-in_err-drop_map-clause-mail_stays
returns-in_err-drop_map-clause-mail_stays g c = λ m.
    kept_then m _ _ _ (g.met.D.Disk.reads_image c.name_map.new.self.disk) (kept_then m _ _ _ (g.met.D.Disk.reads_image c.settle_map.new.self.disk) (c.settle_map.ensures.mail_stays m) (c.name_map.ensures.mail_stays m)) (c.drop_map.ensures.mail_stays m)

pub returns-clause-any_moment : goal.returns-clause-any_moment
returns-clause-any_moment g c = λ lists settled.
    leaves_first lists lists _ _ _ (leaves_first lists lists _ _ _ (c.settle_map.ensures.any_moment lists settled) (c.name_map.ensures.any_moment lists (c.in_ok-settle_map.ensures.settled lists settled))) (c.drop_map.ensures.any_moment lists (c.in_ok-name_map.ensures.settled lists (c.in_ok-settle_map.ensures.settled lists settled)))

pub returns-clause-mail_stays : goal.returns-clause-mail_stays
returns-clause-mail_stays g c = λ m.
    kept_then m _ _ _ (g.met.D.Disk.reads_image c.name_map.new.self.disk) (kept_then m _ _ _ (g.met.D.Disk.reads_image c.settle_map.new.self.disk) (c.settle_map.ensures.mail_stays m) (c.name_map.ensures.mail_stays m)) (c.drop_map.ensures.mail_stays m)

pub returns-clause-settled : goal.returns-clause-settled
returns-clause-settled g c = λ lists settled. c.in_ok-drop_map.ensures.settled lists (c.in_ok-name_map.ensures.settled lists (c.in_ok-settle_map.ensures.settled lists settled))

pub returns-clause-stored : goal.returns-clause-stored
returns-clause-stored g c = stored_on _ _ _ (stored_on _ _ _ c.in_ok-settle_map.ensures.stored c.in_ok-name_map.ensures.stored) c.in_ok-drop_map.ensures.stored

pub returns-clause-gone : goal.returns-clause-gone
returns-clause-gone g c = gone_as _ _ _ (sym c.map_generation-generation.ensures) c.in_ok-drop_map.ensures.gone

pub returns-clause-others : goal.returns-clause-others
returns-clause-others g c =
    others_as c.args.self.now.root_log.name c.settle_map.new.self.root_log.name (file.Map c.map_generation-generation.result) c.args.self.now.map_log.name c.args.draft.log.name _ _ _ _
    (ap (λ (v : StoreValue _). v.root_log.name) c.settle_map.ensures.same) (sym c.map_generation-generation.ensures) c.in_ok-settle_map.ensures.others c.in_ok-name_map.ensures.others c.in_ok-drop_map.ensures.others

pub returns-clause-names : goal.returns-clause-names
returns-clause-names g c = names_synced (file.Map c.map_generation-generation.result) _ _ c.in_ok-drop_map.ensures.others c.in_ok-drop_map.ensures.gone
