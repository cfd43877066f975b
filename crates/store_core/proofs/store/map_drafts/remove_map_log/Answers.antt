use Rattle.disk_model.specs.declared.name.FileName.TheVariants as file
use Rattle.disk_model.specs.Disk.{removed, half_removed}
use Rattle.disk_model.proofs.OtherFileLemmas.{apart_begins, apart_goes_on, apart_fails, apart_fails_still, apart_named}
use Rattle.store_core.proofs.UnneededLogLemmas.{removed_gone, removed_others}
use Rattle.store_core.proofs.store.map_drafts.remove_map_log.Goals as goal

pub returns-in_err-remove-clause-any_moment : goal.returns-in_err-remove-clause-any_moment
returns-in_err-remove-clause-any_moment g c = apart_fails (file.Map c.args.generation) half_removed _ _ _ (apart_begins (file.Map c.args.generation) _) c.in_err-remove.ensures.failed

pub returns-in_err-sync_names-clause-any_moment : goal.returns-in_err-sync_names-clause-any_moment
returns-in_err-sync_names-clause-any_moment g c =
    apart_fails_still (file.Map c.args.generation) _ _ _ (apart_goes_on (file.Map c.args.generation) removed _ _ _ (apart_begins (file.Map c.args.generation) _) c.in_ok-remove.ensures.state) c.in_err-sync_names.ensures.failed

pub returns-clause-any_moment : goal.returns-clause-any_moment
returns-clause-any_moment g c =
    apart_named (file.Map c.args.generation) _ _ _ (apart_goes_on (file.Map c.args.generation) removed _ _ _ (apart_begins (file.Map c.args.generation) _) c.in_ok-remove.ensures.state) c.in_ok-sync_names.ensures.state

pub returns-clause-gone : goal.returns-clause-gone
returns-clause-gone g c = removed_gone (file.Map c.args.generation) _ _ _ c.in_ok-remove.ensures.state c.in_ok-sync_names.ensures.state

pub returns-clause-others : goal.returns-clause-others
returns-clause-others g c = removed_others (file.Map c.args.generation) _ _ _ c.in_ok-remove.ensures.state c.in_ok-sync_names.ensures.state
