use Rattle.disk_model.proofs.OtherFileLemmas.{apart_begins, apart_goes_on, apart_fails, apart_images}
use Rattle.sis_store.proofs.RemoveLemmas.{fails, goes}
use Rattle.sis_store.proofs.device.remove.Goals as goal

pub returns-in_err-remove-clause-any_moment : goal.returns-in_err-remove-clause-any_moment
returns-in_err-remove-clause-any_moment g c = λ there. fails c.args.name _ _ there c.in_err-remove.ensures.failed

pub returns-in_err-remove-clause-others_stay : goal.returns-in_err-remove-clause-others_stay
returns-in_err-remove-clause-others_stay g c = apart_fails c.args.name _ _ _ _ (apart_begins _ _) c.in_err-remove.ensures.failed

pub returns-clause-any_moment : goal.returns-clause-any_moment
returns-clause-any_moment g c = λ there. goes c.args.name _ _ there c.in_ok-remove.ensures.state

pub returns-clause-others_stay : goal.returns-clause-others_stay
returns-clause-others_stay g c = apart_images c.args.name _ _ (apart_goes_on _ _ _ _ _ (apart_begins _ _) c.in_ok-remove.ensures.state).each
