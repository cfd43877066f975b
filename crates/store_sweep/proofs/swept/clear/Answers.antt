use Rattle.std.proofs.Common.{◌≡◌, true}
use Rattle.disk_model.specs.declared.name.FileName.{FileName}
use Rattle.store_sweep.specs.Wanted.{is_wanted}
use Rattle.store_sweep.proofs.ClearLemmas.{cut_images, cut_keeps, cut_logs, named_images, named_keeps_store, named_logs, named_cut}
use Rattle.store_sweep.proofs.SweepStepLemmas.{images_fails_still}
use Rattle.store_sweep.proofs.FittedLemmas.{fitted-then, fitted-where, fitted-named, there-then, there-back, there-named, kept-then, kept-where, kept-there, names-unneeded, names-named}
use Rattle.store_sweep.proofs.FaultLemmas.{none_since}
use Rattle.std.proofs.lemmas.Bool.{false≢true}
use Rattle.model_kept.proofs.KeptLemmas.{kept_then, kept_fails_still, kept_named}
use Rattle.store_sweep.proofs.IdleSweepLemmas.{idle_parts, idle_weaker, no_stray}
use Rattle.store_sweep.proofs.swept.clear.Goals as goal

pub returns-in_err-cut_files-clause-images : goal.returns-in_err-cut_files-clause-images
returns-in_err-cut_files-clause-images g c =
    cut_images c.args.generation c.args.map.now.meaning _ _ _ c.in_ok-removed.ensures.images c.in_ok-removed.ensures.same (c.in_err-cut_files.ensures.images c.args.generation)

pub returns-then-not-removed-clause-images : goal.returns-then-not-removed-clause-images
returns-then-not-removed-clause-images g c =
    cut_images c.args.generation c.args.map.now.meaning _ _ _ c.in_ok-removed.ensures.images c.in_ok-removed.ensures.same (c.in_ok-cut_files.ensures.images c.args.generation)

pub returns-then-not-removed-clause-keeps : goal.returns-then-not-removed-clause-keeps
returns-then-not-removed-clause-keeps g c = λ none. cut_keeps c.args.generation c.args.map.now.meaning _ _ _ c.in_ok-removed.ensures.same (c.in_ok-cut_files.ensures.keeps (λ err. absurd (false≢true err)) c.args.generation)

pub returns-then-not-removed-clause-logs : goal.returns-then-not-removed-clause-logs
returns-then-not-removed-clause-logs g c = λ name log wanted. cut_logs c.args.generation c.args.map.now.meaning name _ _ _ log wanted c.in_ok-removed.ensures.same c.in_ok-cut_files.ensures.logs

pub returns-then-not-removed-clause-gone : goal.returns-then-not-removed-clause-gone
returns-then-not-removed-clause-gone g c = there-back (λ (name : FileName). is_wanted c.args.generation c.args.map.now.meaning name ≡ true) _ _ c.in_ok-cut_files.ensures.there c.in_ok-removed.ensures.gone

pub returns-in_err-sync_names-clause-images : goal.returns-in_err-sync_names-clause-images
returns-in_err-sync_names-clause-images g c =
    images_fails_still c.args.generation c.args.map.now.meaning _ _ _
    (cut_images c.args.generation c.args.map.now.meaning _ _ _ c.in_ok-removed.ensures.images c.in_ok-removed.ensures.same (c.in_ok-cut_files.ensures.images c.args.generation)) c.in_err-sync_names.ensures.failed

pub returns-clause-images : goal.returns-clause-images
returns-clause-images g c =
    named_images c.args.generation c.args.map.now.meaning _ _ _
    (cut_images c.args.generation c.args.map.now.meaning _ _ _ c.in_ok-removed.ensures.images c.in_ok-removed.ensures.same (c.in_ok-cut_files.ensures.images c.args.generation))
    (cut_keeps c.args.generation c.args.map.now.meaning _ _ _ c.in_ok-removed.ensures.same (c.in_ok-cut_files.ensures.keeps (λ err. absurd (false≢true err)) c.args.generation)) c.in_ok-sync_names.ensures.state

pub returns-clause-keeps : goal.returns-clause-keeps
returns-clause-keeps g c = λ none.
    named_keeps_store c.args.generation c.args.map.now.meaning _ _ _
    (cut_keeps c.args.generation c.args.map.now.meaning _ _ _ c.in_ok-removed.ensures.same (c.in_ok-cut_files.ensures.keeps (λ err. absurd (false≢true err)) c.args.generation)) c.in_ok-sync_names.ensures.state

pub returns-clause-logs : goal.returns-clause-logs
returns-clause-logs g c = λ name log wanted.
    named_logs name _ _ _ (cut_logs c.args.generation c.args.map.now.meaning name _ _ _ log wanted c.in_ok-removed.ensures.same c.in_ok-cut_files.ensures.logs) c.in_ok-sync_names.ensures.state

pub returns-clause-gone : goal.returns-clause-gone
returns-clause-gone g c =
    there-back (λ (name : FileName). is_wanted c.args.generation c.args.map.now.meaning name ≡ true) _ _ (there-named _ _ c.in_ok-sync_names.ensures.state)
    (there-back (λ (name : FileName). is_wanted c.args.generation c.args.map.now.meaning name ≡ true) _ _ c.in_ok-cut_files.ensures.there c.in_ok-removed.ensures.gone)

pub returns-clause-cut : goal.returns-clause-cut
returns-clause-cut g c = named_cut c.args.map.now.meaning _ _ c.in_ok-sync_names.ensures.state c.in_ok-cut_files.ensures.cut

pub returns-then-not-removed-clause-mail : goal.returns-then-not-removed-clause-mail
returns-then-not-removed-clause-mail g c =
    fitted-then _ _ _ _ (fitted-where _ (is_wanted c.args.generation c.args.map.now.meaning) _ _ c.in_ok-removed.ensures.same c.in_ok-removed.ensures.gone) c.in_ok-cut_files.ensures.mail

pub returns-then-not-removed-clause-kept : goal.returns-then-not-removed-clause-kept
returns-then-not-removed-clause-kept g c =
    kept-then c.args.generation c.args.map.now.meaning _ _ _ (kept-where c.args.generation c.args.map.now.meaning _ _ c.in_ok-removed.ensures.same) (kept-there c.args.generation c.args.map.now.meaning _ _ c.in_ok-cut_files.ensures.there)

pub returns-then-not-removed-clause-names : goal.returns-then-not-removed-clause-names
returns-then-not-removed-clause-names g c =
    names-unneeded c.args.generation c.args.map.now.meaning _ _ _ (c.in_ok-removed.ensures.none c.if-not-removed.true) c.in_ok-removed.ensures.gone c.in_ok-cut_files.ensures.there

pub returns-clause-mail : goal.returns-clause-mail
returns-clause-mail g c =
    fitted-then _ _ _ _
    (fitted-then _ _ _ _ (fitted-where _ (is_wanted c.args.generation c.args.map.now.meaning) _ _ c.in_ok-removed.ensures.same c.in_ok-removed.ensures.gone) c.in_ok-cut_files.ensures.mail)
    (fitted-named _ _ _ c.in_ok-sync_names.ensures.state)

pub returns-clause-kept : goal.returns-clause-kept
returns-clause-kept g c =
    kept-then c.args.generation c.args.map.now.meaning _ _ _ (kept-where c.args.generation c.args.map.now.meaning _ _ c.in_ok-removed.ensures.same)
    (kept-there c.args.generation c.args.map.now.meaning _ _ (there-then _ _ _ c.in_ok-cut_files.ensures.there (there-named _ _ c.in_ok-sync_names.ensures.state)))

pub returns-clause-names : goal.returns-clause-names
returns-clause-names g c =
    names-named c.args.generation c.args.map.now.meaning _ _ _
    (fitted-then _ _ _ _ (fitted-where _ (is_wanted c.args.generation c.args.map.now.meaning) _ _ c.in_ok-removed.ensures.same c.in_ok-removed.ensures.gone) c.in_ok-cut_files.ensures.mail) c.in_ok-sync_names.ensures.state

pub returns-in_err-cut_files-clause-keeps : goal.returns-in_err-cut_files-clause-keeps
returns-in_err-cut_files-clause-keeps g c = λ none.
    cut_keeps c.args.generation c.args.map.now.meaning _ _ _ c.in_ok-removed.ensures.same
    (c.in_err-cut_files.ensures.keeps (none_since (g.D.Disk.faults c.args.disk.now) (g.D.Disk.faults c.remove_strays.new.disk) (g.D.Disk.faults c.cut_files.new.disk) c.in_ok-removed.ensures.unfailed c.from_residual-in_err-cut_files.ensures.0 none) c.args.generation)

pub returns-in_err-removed-clause-mail_stays : goal.returns-in_err-removed-clause-mail_stays
returns-in_err-removed-clause-mail_stays g c = c.in_err-removed.ensures.mail_stays

pub returns-in_err-cut_files-clause-mail_stays : goal.returns-in_err-cut_files-clause-mail_stays
returns-in_err-cut_files-clause-mail_stays g c = kept_then c.args.map.now.meaning _ _ _ (g.met.D.Disk.reads_image c.remove_strays.new.disk) c.in_ok-removed.ensures.mail_stays c.in_err-cut_files.ensures.mail_stays

pub returns-then-not-removed-clause-mail_stays : goal.returns-then-not-removed-clause-mail_stays
returns-then-not-removed-clause-mail_stays g c = kept_then c.args.map.now.meaning _ _ _ (g.met.D.Disk.reads_image c.remove_strays.new.disk) c.in_ok-removed.ensures.mail_stays c.in_ok-cut_files.ensures.mail_stays

pub returns-in_err-sync_names-clause-mail_stays : goal.returns-in_err-sync_names-clause-mail_stays
returns-in_err-sync_names-clause-mail_stays g c = kept_fails_still c.args.map.now.meaning _ _ _ (kept_then c.args.map.now.meaning _ _ _ (g.met.D.Disk.reads_image c.remove_strays.new.disk) c.in_ok-removed.ensures.mail_stays c.in_ok-cut_files.ensures.mail_stays) c.in_err-sync_names.ensures.failed

pub returns-clause-mail_stays : goal.returns-clause-mail_stays
returns-clause-mail_stays g c = kept_then c.args.map.now.meaning _ _ _ (g.met.D.Disk.reads_image c.cut_files.new.disk) (kept_then c.args.map.now.meaning _ _ _ (g.met.D.Disk.reads_image c.remove_strays.new.disk) c.in_ok-removed.ensures.mail_stays c.in_ok-cut_files.ensures.mail_stays) (kept_named c.args.map.now.meaning _ _ c.in_ok-sync_names.ensures.state)

pub returns-in_err-removed-clause-idle : goal.returns-in_err-removed-clause-idle
returns-in_err-removed-clause-idle g c = idle_weaker _ _ _ _ (λ disk nothing. nothing.only) c.in_err-removed.ensures.idle

pub returns-in_err-cut_files-clause-idle : goal.returns-in_err-cut_files-clause-idle
returns-in_err-cut_files-clause-idle g c = idle_parts _ _ _ _ _ (λ disk nothing. nothing.ends) (idle_weaker _ _ _ _ (λ disk nothing. nothing.only) c.in_ok-removed.ensures.idle) c.in_err-cut_files.ensures.idle

pub returns-then-not-removed-clause-idle : goal.returns-then-not-removed-clause-idle
returns-then-not-removed-clause-idle g c = idle_parts _ _ _ _ _ (λ disk nothing. nothing.ends) (idle_weaker _ _ _ _ (λ disk nothing. nothing.only) c.in_ok-removed.ensures.idle) c.in_ok-cut_files.ensures.idle

pub returns-in_err-sync_names-clause-idle : goal.returns-in_err-sync_names-clause-idle
returns-in_err-sync_names-clause-idle g c = no_stray c.args.generation c.args.map.now.meaning _ _ _ (λ disk nothing. nothing.only) (c.in_ok-removed.ensures.some c.if-not-removed.false)

pub returns-clause-idle : goal.returns-clause-idle
returns-clause-idle g c = no_stray c.args.generation c.args.map.now.meaning _ _ _ (λ disk nothing. nothing.only) (c.in_ok-removed.ensures.some c.if-not-removed.false)
