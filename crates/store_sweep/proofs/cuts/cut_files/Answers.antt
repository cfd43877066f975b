use Rattle.std.proofs.Common.{Option, lit<, refl, subst}
use Rattle.std.specs.Prelude.{IfSome}
use Rattle.disk_model.specs.Disk.{IfTold, IsPast, IsNext}
use Rattle.disk_model.specs.contracts.name.FileNameOrd.TheImpl.{ghosts}
use Rattle.disk_model.specs.declared.name.FileName.{FileName}
use Rattle.disk_model.proofs.MomentLemmas.{if_told-all}
use Rattle.disk_model.specs.Name.{is_log}
use Rattle.store_sweep.specs.Wanted.{EndsByLastRegion}
use Rattle.disk_model.proofs.NameOrderLemmas.{walk_shrinks}
use Rattle.store_sweep.proofs.CutWalkLemmas.{passed_logs, mails_end}
use Rattle.store_sweep.proofs.WalkLemmas.{walk_more, walk_ends}
use Rattle.store_sweep.proofs.SweepStepLemmas.{images_now, images_unchanged, keeps_now, keeps_then, keeps_unchanged, where_now, where_then, where_unchanged, kept_images, kept_keeps, walk_same}
use Rattle.store_sweep.proofs.FittedLemmas.{fitted-begins, fitted-then, fitted-goes_on, there-begins, there-then, there-goes_on}
use Rattle.store_sweep.proofs.FaultLemmas.{name_since, none_since, read_ok}
use Rattle.disk_model.proofs.FaultCountLemmas.{no_fault-then}
use Rattle.std.proofs.lemmas.Bool.{false≢true}
use Rattle.disk_model.proofs.IdleLemmas.{idle-begins}
use Rattle.model_kept.proofs.KeptLemmas.{kept_begins, kept_unchanged}
use Rattle.store_sweep.proofs.StayLemmas.{walk_stays}
use Rattle.store_sweep.proofs.IdleSweepLemmas.{idle_if, idle_walk, idle_unchanged}
use Rattle.store_sweep.proofs.cuts.cut_files.Goals as goal

pub loop-name-init : goal.loop-name-init
loop-name-init g c = record {
  images = λ generation. images_now generation c.args.map.now.meaning (g.D.Disk.history c.args.disk.now);
  keeps = λ generation. keeps_now generation c.args.map.now.meaning (g.D.Disk.history c.args.disk.now);
  logs = where_now is_log (g.D.Disk.history c.args.disk.now);
  mail = fitted-begins c.args.map.now.meaning (g.D.Disk.history c.args.disk.now);
  there = there-begins (g.D.Disk.history c.args.disk.now);
  cut = if_told-all _ (g.D.Disk.history c.args.disk.now) (λ disk. passed_logs c.args.map.now.meaning 4294967295 4294967295 disk);
  mail_stays = kept_begins c.args.map.now.meaning (g.D.Disk.history c.args.disk.now);
  idle = idle_if _ _ _ (idle-begins (g.D.Disk.history c.args.disk.now));
  in_range = (lit< tt, lit< tt);
  faults = refl;
}

pub returns-in_err-name-clause-images : goal.returns-in_err-name-clause-images
returns-in_err-name-clause-images g c = λ generation. images_unchanged generation c.args.map.now.meaning _ _ _ (c.loop-name.invariant.images generation) c.in_err-name.ensures.state

pub returns-in_err-name-clause-fault : goal.returns-in_err-name-clause-fault
returns-in_err-name-clause-fault g c =
    name_since c.in_err-name.field-0.0 _ _ _ c.loop-name.invariant.faults c.in_err-name.ensures.not_absent c.in_err-name.ensures.cause

pub returns-in_err-fit_file-clause-images : goal.returns-in_err-fit_file-clause-images
returns-in_err-fit_file-clause-images g c = λ generation.
    kept_images generation c.args.map.now.meaning _ _ _ _ (c.loop-name.invariant.images generation) (c.loop-name.invariant.keeps generation) c.in_ok-name.ensures.state (c.in_err-fit_file.ensures.images generation)

pub loop-name-smaller : goal.loop-name-smaller
loop-name-smaller g c =
    walk_shrinks c.loop-name.last c.in-Some.name c.loop-name.invariant.in_range c.known_range.ensures
    (let F : Option FileName → Type 0 = λ n. IfSome n (IsPast ghosts.cmp c.loop-name.last) in subst F c.in-Some.is c.in_ok-name.ensures.past)

pub loop-name-preserved : goal.loop-name-preserved
loop-name-preserved g c = record {
  images = λ generation. kept_images generation c.args.map.now.meaning _ _ _ _ (c.loop-name.invariant.images generation) (c.loop-name.invariant.keeps generation) c.in_ok-name.ensures.state (c.in_ok-fit_file.ensures.images generation);
  keeps = λ generation. kept_keeps generation c.args.map.now.meaning _ _ _ _ (c.loop-name.invariant.keeps generation) c.in_ok-name.ensures.state (c.in_ok-fit_file.ensures.keeps (λ err. absurd (false≢true err)) generation);
  logs = walk_same is_log _ _ _ _ c.loop-name.invariant.logs c.in_ok-name.ensures.state c.in_ok-fit_file.ensures.logs;
  mail = fitted-then _ _ _ _ (fitted-goes_on _ _ _ _ c.loop-name.invariant.mail c.in_ok-name.ensures.state) c.in_ok-fit_file.ensures.mail;
  there = there-then _ _ _ (there-goes_on _ _ _ c.loop-name.invariant.there c.in_ok-name.ensures.state) c.in_ok-fit_file.ensures.there;
  cut = walk_more (EndsByLastRegion c.args.map.now.meaning) c.loop-name.last c.in-Some.name _ _ _ c.in_ok-name.ensures.state
      (let F : Option FileName → Type 0 = λ n. IfTold (g.D.Disk.history c.loop-name.disk) (IsNext ghosts.cmp c.loop-name.last n) in subst F c.in-Some.is c.in_ok-name.ensures.next)
      c.loop-name.invariant.cut c.in_ok-fit_file.ensures.others c.in_ok-fit_file.ensures.cut;
  mail_stays = walk_stays c.args.map.now.meaning _ _ _ _ c.loop-name.invariant.mail_stays (g.met.D.Disk.reads_image c.next_name.new.self) c.in_ok-name.ensures.state c.in_ok-fit_file.ensures.mail_stays;
  idle = idle_walk _ _ _ _ _ _ (λ disk ends. ends c.in-Some.name) c.loop-name.invariant.idle c.in_ok-name.ensures.state c.in_ok-fit_file.ensures.idle;
  in_range = c.known_range.ensures;
  faults = no_fault-then _ _ _ c.loop-name.invariant.faults (no_fault-then _ _ _ (read_ok c.in_ok-name.field-0 _ _ c.in_ok-name.ensures.cause) c.in_ok-fit_file.ensures.unfailed);
}

pub returns-clause-images : goal.returns-clause-images
returns-clause-images g c = λ generation. images_unchanged generation c.args.map.now.meaning _ _ _ (c.loop-name.invariant.images generation) c.in_ok-name.ensures.state

pub returns-clause-keeps : goal.returns-clause-keeps
returns-clause-keeps g c = λ none generation. keeps_then generation c.args.map.now.meaning _ _ _ (c.loop-name.invariant.keeps generation) (keeps_unchanged generation c.args.map.now.meaning _ _ c.in_ok-name.ensures.state)

pub returns-clause-logs : goal.returns-clause-logs
returns-clause-logs g c = where_then is_log _ _ _ c.loop-name.invariant.logs (where_unchanged is_log _ _ c.in_ok-name.ensures.state)

pub returns-clause-there : goal.returns-clause-there
returns-clause-there g c = there-goes_on _ _ _ c.loop-name.invariant.there c.in_ok-name.ensures.state

pub returns-clause-cut : goal.returns-clause-cut
returns-clause-cut g c =
    walk_ends (EndsByLastRegion c.args.map.now.meaning) c.loop-name.last _ _ c.in_ok-name.ensures.state
    (let F : Option FileName → Type 0 = λ n. IfTold (g.D.Disk.history c.loop-name.disk) (IsNext ghosts.cmp c.loop-name.last n) in subst F c.in_default.is c.in_ok-name.ensures.next)
    c.loop-name.invariant.cut

pub returns-clause-mail : goal.returns-clause-mail
returns-clause-mail g c = fitted-goes_on _ _ _ _ c.loop-name.invariant.mail c.in_ok-name.ensures.state

pub returns-in_err-name-clause-keeps : goal.returns-in_err-name-clause-keeps
returns-in_err-name-clause-keeps g c = λ none generation.
    keeps_then generation c.args.map.now.meaning _ _ _ (c.loop-name.invariant.keeps generation) (keeps_unchanged generation c.args.map.now.meaning _ _ c.in_err-name.ensures.state)

pub returns-in_err-fit_file-clause-keeps : goal.returns-in_err-fit_file-clause-keeps
returns-in_err-fit_file-clause-keeps g c = λ none generation.
    kept_keeps generation c.args.map.now.meaning _ _ _ _ (c.loop-name.invariant.keeps generation) c.in_ok-name.ensures.state (c.in_err-fit_file.ensures.keeps (none_since (g.D.Disk.faults c.args.disk.now) (g.D.Disk.faults c.next_name.new.self) (g.D.Disk.faults c.fit_file.new.disk) (no_fault-then _ _ _ c.loop-name.invariant.faults (read_ok c.in_ok-name.field-0 _ _ c.in_ok-name.ensures.cause)) c.from_residual-in_err-fit_file.ensures.0 none) generation)

-- the first instance ends the walk

pub returns-in-Inst-clause-images : goal.returns-in-Inst-clause-images
returns-in-Inst-clause-images g c = λ generation. images_unchanged generation c.args.map.now.meaning _ _ _ (c.loop-name.invariant.images generation) c.in_ok-name.ensures.state

pub returns-in-Inst-clause-keeps : goal.returns-in-Inst-clause-keeps
returns-in-Inst-clause-keeps g c = λ none generation. keeps_then generation c.args.map.now.meaning _ _ _ (c.loop-name.invariant.keeps generation) (keeps_unchanged generation c.args.map.now.meaning _ _ c.in_ok-name.ensures.state)

pub returns-in-Inst-clause-logs : goal.returns-in-Inst-clause-logs
returns-in-Inst-clause-logs g c = where_then is_log _ _ _ c.loop-name.invariant.logs (where_unchanged is_log _ _ c.in_ok-name.ensures.state)

pub returns-in-Inst-clause-there : goal.returns-in-Inst-clause-there
returns-in-Inst-clause-there g c = there-goes_on _ _ _ c.loop-name.invariant.there c.in_ok-name.ensures.state

pub returns-in-Inst-clause-mail : goal.returns-in-Inst-clause-mail
returns-in-Inst-clause-mail g c = fitted-goes_on _ _ _ _ c.loop-name.invariant.mail c.in_ok-name.ensures.state

pub returns-in-Inst-clause-cut : goal.returns-in-Inst-clause-cut
returns-in-Inst-clause-cut g c =
    mails_end c.args.map.now.meaning c.loop-name.last c.in-Some.name _ _ _ _ c.in_ok-name.ensures.state
    (let F : Option FileName → Type 0 = λ n. IfTold (g.D.Disk.history c.loop-name.disk) (IsNext ghosts.cmp c.loop-name.last n) in subst F c.in-Some.is c.in_ok-name.ensures.next)
    c.in-Inst.is c.loop-name.invariant.cut

pub returns-in_err-name-clause-mail_stays : goal.returns-in_err-name-clause-mail_stays
returns-in_err-name-clause-mail_stays g c = kept_unchanged c.args.map.now.meaning _ _ _ c.loop-name.invariant.mail_stays c.in_err-name.ensures.state

pub returns-in_err-fit_file-clause-mail_stays : goal.returns-in_err-fit_file-clause-mail_stays
returns-in_err-fit_file-clause-mail_stays g c = walk_stays c.args.map.now.meaning _ _ _ _ c.loop-name.invariant.mail_stays (g.met.D.Disk.reads_image c.next_name.new.self) c.in_ok-name.ensures.state c.in_err-fit_file.ensures.mail_stays

pub returns-clause-mail_stays : goal.returns-clause-mail_stays
returns-clause-mail_stays g c = kept_unchanged c.args.map.now.meaning _ _ _ c.loop-name.invariant.mail_stays c.in_ok-name.ensures.state

pub returns-in-Inst-clause-mail_stays : goal.returns-in-Inst-clause-mail_stays
returns-in-Inst-clause-mail_stays g c = kept_unchanged c.args.map.now.meaning _ _ _ c.loop-name.invariant.mail_stays c.in_ok-name.ensures.state

pub returns-in_err-name-clause-idle : goal.returns-in_err-name-clause-idle
returns-in_err-name-clause-idle g c = idle_unchanged _ _ _ _ c.loop-name.invariant.idle c.in_err-name.ensures.state

pub returns-in_err-fit_file-clause-idle : goal.returns-in_err-fit_file-clause-idle
returns-in_err-fit_file-clause-idle g c = idle_walk _ _ _ _ _ _ (λ disk ends. ends c.in-Some.name) c.loop-name.invariant.idle c.in_ok-name.ensures.state c.in_err-fit_file.ensures.idle

pub returns-clause-idle : goal.returns-clause-idle
returns-clause-idle g c = idle_unchanged _ _ _ _ c.loop-name.invariant.idle c.in_ok-name.ensures.state

pub returns-in-Inst-clause-idle : goal.returns-in-Inst-clause-idle
returns-in-Inst-clause-idle g c = idle_unchanged _ _ _ _ c.loop-name.invariant.idle c.in_ok-name.ensures.state
