use Rattle.sis_store.proofs.instances.Instances.remove_instance.Goals as goal

pub returns-in_err-remove-clause-any_moment : goal.returns-in_err-remove-clause-any_moment
returns-in_err-remove-clause-any_moment g c = λ there. rw (← c.file_of.ensures) (c.in_err-remove.ensures.any_moment (rw c.file_of.ensures there))

pub returns-in_err-remove-clause-others_stay : goal.returns-in_err-remove-clause-others_stay
returns-in_err-remove-clause-others_stay g c = rw (← c.file_of.ensures) c.in_err-remove.ensures.others_stay

pub returns-clause-any_moment : goal.returns-clause-any_moment
returns-clause-any_moment g c = λ there. rw (← c.file_of.ensures) (c.in_ok-remove.ensures.any_moment (rw c.file_of.ensures there))

pub returns-clause-others_stay : goal.returns-clause-others_stay
returns-clause-others_stay g c = rw (← c.file_of.ensures) c.in_ok-remove.ensures.others_stay
