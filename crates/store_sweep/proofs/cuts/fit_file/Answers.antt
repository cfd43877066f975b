use Rattle.std.proofs.Common.{ℕ, sym, subst, ◌∙◌}
use Rattle.disk_model.proofs.OneFileLemmas.{same-begins}
use Rattle.disk_model.proofs.MomentLemmas.{if_told-all}
use Rattle.disk_model.specs.Name.{is_log}
use Rattle.store_sweep.specs.Wanted.{EndBy}
use Rattle.store_sweep.proofs.CutLemmas.{end_by, fits_anyway}
use Rattle.store_sweep.proofs.SweepStepLemmas.{images_now, keeps_now, where_now}
use Rattle.store_sweep.proofs.FittedLemmas.{fitted-begins, there-begins}
use Rattle.disk_model.proofs.IdleLemmas.{idle-begins}
use Rattle.model_kept.proofs.KeptLemmas.{kept_begins}
use Rattle.store_sweep.proofs.IdleSweepLemmas.{idle_if, idle_weaker, fits_mail}
use Rattle.store_sweep.proofs.cuts.fit_file.Goals as goal

pub returns-in_default-clause-images : goal.returns-in_default-clause-images
returns-in_default-clause-images g c = λ generation. images_now generation c.args.map.now.meaning (g.D.Disk.history c.args.disk.now)

pub returns-in_default-clause-keeps : goal.returns-in_default-clause-keeps
returns-in_default-clause-keeps g c = λ none generation. keeps_now generation c.args.map.now.meaning (g.D.Disk.history c.args.disk.now)

pub returns-in_default-clause-logs : goal.returns-in_default-clause-logs
returns-in_default-clause-logs g c = where_now is_log (g.D.Disk.history c.args.disk.now)

pub returns-in_default-clause-there : goal.returns-in_default-clause-there
returns-in_default-clause-there g c = there-begins (g.D.Disk.history c.args.disk.now)

pub returns-in_default-clause-others : goal.returns-in_default-clause-others
returns-in_default-clause-others g c = same-begins c.args.name (g.D.Disk.history c.args.disk.now)

pub returns-in_default-clause-cut : goal.returns-in_default-clause-cut
returns-in_default-clause-cut g c = if_told-all _ (g.D.Disk.history c.args.disk.now) (λ disk there. fits_anyway c.args.map.now.meaning c.args.name (disk c.args.name) c.in_default.not-Mail)

pub returns-then-is_sealed-clause-images : goal.returns-then-is_sealed-clause-images
returns-then-is_sealed-clause-images g c = λ generation. images_now generation c.args.map.now.meaning (g.D.Disk.history c.args.disk.now)

pub returns-in_err-cut_behind-clause-images : goal.returns-in_err-cut_behind-clause-images
returns-in_err-cut_behind-clause-images g c = λ generation.
    c.in_err-cut_behind.ensures.images generation c.args.map.now.meaning (let F : ℕ → Type 0 = λ end. EndBy c.args.map.now.meaning c.in-Mail.number end in subst F (sym c.end_of.ensures) (end_by c.args.map.now.meaning c.in-Mail.number))

pub returns-clause-images : goal.returns-clause-images
returns-clause-images g c = λ generation.
    c.in_ok-cut_behind.ensures.images generation c.args.map.now.meaning (let F : ℕ → Type 0 = λ end. EndBy c.args.map.now.meaning c.in-Mail.number end in subst F (sym c.end_of.ensures) (end_by c.args.map.now.meaning c.in-Mail.number))

pub returns-clause-keeps : goal.returns-clause-keeps
returns-clause-keeps g c = λ none generation.
    c.in_ok-cut_behind.ensures.keeps none generation c.args.map.now.meaning (let F : ℕ → Type 0 = λ end. EndBy c.args.map.now.meaning c.in-Mail.number end in subst F (sym c.end_of.ensures) (end_by c.args.map.now.meaning c.in-Mail.number))

pub returns-in_default-clause-mail : goal.returns-in_default-clause-mail
returns-in_default-clause-mail g c = fitted-begins c.args.map.now.meaning (g.D.Disk.history c.args.disk.now)

pub returns-then-is_sealed-clause-mail : goal.returns-then-is_sealed-clause-mail
returns-then-is_sealed-clause-mail g c = fitted-begins c.args.map.now.meaning (g.D.Disk.history c.args.disk.now)

pub returns-in_err-cut_behind-clause-keeps : goal.returns-in_err-cut_behind-clause-keeps
returns-in_err-cut_behind-clause-keeps g c = λ none generation.
    c.in_err-cut_behind.ensures.keeps (λ err. none c.from_residual.ensures.0) generation c.args.map.now.meaning (let F : ℕ → Type 0 = λ end. EndBy c.args.map.now.meaning c.in-Mail.number end in subst F (sym c.end_of.ensures) (end_by c.args.map.now.meaning c.in-Mail.number))

pub returns-in_default-clause-mail_stays : goal.returns-in_default-clause-mail_stays
returns-in_default-clause-mail_stays g c = kept_begins c.args.map.now.meaning (g.D.Disk.history c.args.disk.now)

pub returns-then-is_sealed-clause-mail_stays : goal.returns-then-is_sealed-clause-mail_stays
returns-then-is_sealed-clause-mail_stays g c = kept_begins c.args.map.now.meaning (g.D.Disk.history c.args.disk.now)

pub returns-in_err-cut_behind-clause-mail_stays : goal.returns-in_err-cut_behind-clause-mail_stays
returns-in_err-cut_behind-clause-mail_stays g c = c.in_err-cut_behind.ensures.mail_stays c.args.map.now.meaning (sym c.is_sealed.ensures ∙ c.if-is_sealed.false) (let F : ℕ → Type 0 = λ end. EndBy c.args.map.now.meaning c.in-Mail.number end in subst F (sym c.end_of.ensures) (end_by c.args.map.now.meaning c.in-Mail.number))

pub returns-clause-mail_stays : goal.returns-clause-mail_stays
returns-clause-mail_stays g c = c.in_ok-cut_behind.ensures.mail_stays c.args.map.now.meaning (sym c.is_sealed.ensures ∙ c.if-is_sealed.false) (let F : ℕ → Type 0 = λ end. EndBy c.args.map.now.meaning c.in-Mail.number end in subst F (sym c.end_of.ensures) (end_by c.args.map.now.meaning c.in-Mail.number))

pub returns-in_default-clause-idle : goal.returns-in_default-clause-idle
returns-in_default-clause-idle g c = idle_if _ _ _ (idle-begins (g.D.Disk.history c.args.disk.now))

pub returns-then-is_sealed-clause-idle : goal.returns-then-is_sealed-clause-idle
returns-then-is_sealed-clause-idle g c = idle_if _ _ _ (idle-begins (g.D.Disk.history c.args.disk.now))

pub returns-in_err-cut_behind-clause-idle : goal.returns-in_err-cut_behind-clause-idle
returns-in_err-cut_behind-clause-idle g c = idle_weaker _ _ _ _ (λ disk ends. fits_mail c.args.map.now.meaning c.args.name c.in-Mail.number _ c.in-Mail.is (sym c.is_sealed.ensures ∙ c.if-is_sealed.false) c.end_of.ensures disk ends) c.in_err-cut_behind.ensures.idle

pub returns-clause-idle : goal.returns-clause-idle
returns-clause-idle g c = idle_weaker _ _ _ _ (λ disk ends. fits_mail c.args.map.now.meaning c.args.name c.in-Mail.number _ c.in-Mail.is (sym c.is_sealed.ensures ∙ c.if-is_sealed.false) c.end_of.ensures disk ends) c.in_ok-cut_behind.ensures.idle
