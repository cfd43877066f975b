use Rattle.std.proofs.Common.{sym, ◌∙◌}
use Rattle.disk_model.specs.Disk.{removed, half_removed}
use Rattle.disk_model.proofs.MomentLemmas.{if_told-all}
use Rattle.disk_model.proofs.OneFileLemmas.{same-begins, same-goes_on}
use Rattle.store_sweep.specs.Wanted.{is_wanted}
use Rattle.store_sweep.proofs.HeldLemmas.{unwanted_holds}
use Rattle.store_sweep.proofs.SweepStepLemmas.{images_now, images_goes_on, images_fails, where_goes_on, removed_gone}
use Rattle.std.proofs.lemmas.Bool.{true≢false}
use Rattle.disk_model.proofs.IdleLemmas.{same_state-begins}
use Rattle.model_kept.proofs.KeptLemmas.{kept_begins}
use Rattle.store_sweep.proofs.StayLemmas.{removed_stays, remove_fails}
use Rattle.store_sweep.proofs.strays.remove_stray.Goals as goal

pub returns-then-is_wanted-clause-images : goal.returns-then-is_wanted-clause-images
returns-then-is_wanted-clause-images g c = images_now c.args.generation c.args.map.now.meaning (g.D.Disk.history c.args.disk.now)

pub returns-in_err-remove-clause-images : goal.returns-in_err-remove-clause-images
returns-in_err-remove-clause-images g c =
    images_fails c.args.generation c.args.map.now.meaning c.args.name half_removed _ _ c.in_err-remove.ensures.failed
    (if_told-all _ (g.D.Disk.history c.args.disk.now) (λ disk found k. unwanted_holds c.args.generation c.args.map.now.meaning found c.args.name _ (sym c.is_wanted.ensures ∙ c.if-is_wanted.false)))

pub returns-clause-images : goal.returns-clause-images
returns-clause-images g c =
    images_goes_on c.args.generation c.args.map.now.meaning c.args.name removed _ _ c.in_ok-remove.ensures.state
    (if_told-all _ (g.D.Disk.history c.args.disk.now) (λ disk found k. unwanted_holds c.args.generation c.args.map.now.meaning found c.args.name _ (sym c.is_wanted.ensures ∙ c.if-is_wanted.false)))

pub returns-clause-same : goal.returns-clause-same
returns-clause-same g c = where_goes_on (is_wanted c.args.generation c.args.map.now.meaning) c.args.name removed _ _ c.in_ok-remove.ensures.state (sym c.is_wanted.ensures ∙ c.if-is_wanted.false)

pub returns-clause-others : goal.returns-clause-others
returns-clause-others g c = same-goes_on c.args.name removed (g.D.Disk.history c.args.disk.now) (g.D.Disk.history c.args.disk.now) _ (same-begins c.args.name (g.D.Disk.history c.args.disk.now)) c.in_ok-remove.ensures.state

pub returns-clause-gone : goal.returns-clause-gone
returns-clause-gone g c = removed_gone c.args.name _ (g.D.Disk.history c.args.disk.now) _ c.in_ok-remove.ensures.state

pub returns-then-is_wanted-clause-none : goal.returns-then-is_wanted-clause-none
returns-then-is_wanted-clause-none g c = λ e. same_state-begins (g.D.Disk.history c.args.disk.now)

pub returns-clause-none : goal.returns-clause-none
returns-clause-none g c = λ e. absurd (true≢false e)

pub returns-then-is_wanted-clause-mail_stays : goal.returns-then-is_wanted-clause-mail_stays
returns-then-is_wanted-clause-mail_stays g c = kept_begins c.args.map.now.meaning (g.D.Disk.history c.args.disk.now)

pub returns-in_err-remove-clause-mail_stays : goal.returns-in_err-remove-clause-mail_stays
returns-in_err-remove-clause-mail_stays g c = remove_fails c.args.generation c.args.map.now.meaning c.args.name _ _ (sym c.is_wanted.ensures ∙ c.if-is_wanted.false) c.in_err-remove.ensures.failed

pub returns-clause-mail_stays : goal.returns-clause-mail_stays
returns-clause-mail_stays g c = removed_stays c.args.generation c.args.map.now.meaning c.args.name _ _ (sym c.is_wanted.ensures ∙ c.if-is_wanted.false) c.in_ok-remove.ensures.state

pub returns-clause-some : goal.returns-clause-some
returns-clause-some g c = λ e. sym c.is_wanted.ensures ∙ c.if-is_wanted.false

pub returns-in_err-remove-clause-untouched : goal.returns-in_err-remove-clause-untouched
returns-in_err-remove-clause-untouched g c = λ wanted. absurd (true≢false (sym wanted ∙ sym c.is_wanted.ensures ∙ c.if-is_wanted.false))

pub returns-clause-untouched : goal.returns-clause-untouched
returns-clause-untouched g c = λ wanted. absurd (true≢false (sym wanted ∙ sym c.is_wanted.ensures ∙ c.if-is_wanted.false))
