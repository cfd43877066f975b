use Rattle.std.proofs.Common.{◌≡◌, Option, true, refl, subst}
use Rattle.std.specs.Prelude.{IfSome}
use Rattle.disk_model.specs.Disk.{FileState, IfTold, IsPast, IsNext}
use Rattle.disk_model.specs.contracts.name.FileNameOrd.TheImpl.{ghosts}
use Rattle.disk_model.specs.declared.name.FileName.{FileName}
use Rattle.disk_model.proofs.MomentLemmas.{if_told-all}
use Rattle.store_sweep.specs.Wanted.{is_wanted}
use Rattle.disk_model.proofs.NameOrderLemmas.{walk_shrinks}
use Rattle.store_sweep.proofs.WalkLemmas.{passed_none, walk_more, walk_ends}
use Rattle.store_sweep.proofs.SweepStepLemmas.{images_now, images_unchanged, where_now, where_then, where_unchanged, keeps_where, walk_images, walk_same}
use Rattle.std.proofs.lemmas.Bool.{or_parts}
use Rattle.disk_model.proofs.IdleLemmas.{same_state-begins, same_state-then, same_state-unchanged}
use Rattle.disk_model.proofs.FaultCountLemmas.{no_fault-then}
use Rattle.store_sweep.proofs.FaultLemmas.{name_since, read_ok}
use Rattle.disk_model.proofs.IdleLemmas.{idle-begins}
use Rattle.model_kept.proofs.KeptLemmas.{kept_begins, kept_unchanged}
use Rattle.std.proofs.lemmas.Bool.{false≢true}
use Rattle.store_sweep.proofs.StayLemmas.{walk_stays}
use Rattle.store_sweep.proofs.IdleSweepLemmas.{idle_if, idle_same_by, idle_unchanged, stray_walk, stray_so_far}
use Rattle.store_sweep.proofs.strays.remove_strays.Goals as goal

pub loop-name-init : goal.loop-name-init
loop-name-init g c = record {
  images = images_now c.args.generation c.args.map.now.meaning (g.D.Disk.history c.args.disk.now);
  same = where_now (is_wanted c.args.generation c.args.map.now.meaning) (g.D.Disk.history c.args.disk.now);
  gone = if_told-all _ (g.D.Disk.history c.args.disk.now) (λ disk. passed_none (λ (name : FileName) (f : FileState). is_wanted c.args.generation c.args.map.now.meaning name ≡ true) disk);
  none = λ e. same_state-begins (g.D.Disk.history c.args.disk.now);
  mail_stays = kept_begins c.args.map.now.meaning (g.D.Disk.history c.args.disk.now);
  some = λ e. absurd (false≢true e);
  idle = idle_if _ _ _ (idle-begins (g.D.Disk.history c.args.disk.now));
  in_range = tt;
  faults = refl;
}

pub returns-in_err-name-clause-images : goal.returns-in_err-name-clause-images
returns-in_err-name-clause-images g c = images_unchanged c.args.generation c.args.map.now.meaning _ _ _ c.loop-name.invariant.images c.in_err-name.ensures.state

pub returns-in_err-name-clause-fault : goal.returns-in_err-name-clause-fault
returns-in_err-name-clause-fault g c =
    name_since c.in_err-name.field-0.0 _ _ _ c.loop-name.invariant.faults c.in_err-name.ensures.not_absent c.in_err-name.ensures.cause

pub returns-in_err-removed-clause-images : goal.returns-in_err-removed-clause-images
returns-in_err-removed-clause-images g c =
    walk_images c.args.generation c.args.map.now.meaning _ _ _ _ c.loop-name.invariant.images c.loop-name.invariant.same c.in_ok-name.ensures.state c.in_err-removed.ensures.images

pub loop-name-smaller : goal.loop-name-smaller
loop-name-smaller g c =
    walk_shrinks c.loop-name.last c.in-Some.name c.loop-name.invariant.in_range c.known_range.ensures
    (let F : Option FileName → Type 0 = λ n. IfSome n (IsPast ghosts.cmp c.loop-name.last) in subst F c.in-Some.is c.in_ok-name.ensures.past)

pub loop-name-preserved : goal.loop-name-preserved
loop-name-preserved g c = record {
  images = walk_images c.args.generation c.args.map.now.meaning _ _ _ _ c.loop-name.invariant.images c.loop-name.invariant.same c.in_ok-name.ensures.state c.in_ok-removed.ensures.images;
  same = walk_same (is_wanted c.args.generation c.args.map.now.meaning) _ _ _ _ c.loop-name.invariant.same c.in_ok-name.ensures.state c.in_ok-removed.ensures.same;
  gone = walk_more (λ (name : FileName) (f : FileState). is_wanted c.args.generation c.args.map.now.meaning name ≡ true) c.loop-name.last c.in-Some.name _ _ _ c.in_ok-name.ensures.state
      (let F : Option FileName → Type 0 = λ n. IfTold (g.D.Disk.history c.loop-name.disk) (IsNext ghosts.cmp c.loop-name.last n) in subst F c.in-Some.is c.in_ok-name.ensures.next)
      c.loop-name.invariant.gone c.in_ok-removed.ensures.others c.in_ok-removed.ensures.gone;
  none = λ e.
      let parts = or_parts c.loop-name.removed c.in_ok-removed.field-0 e in
      same_state-then _ _ _ (same_state-unchanged _ _ _ (c.loop-name.invariant.none parts.0) c.in_ok-name.ensures.state) (c.in_ok-removed.ensures.none parts.1);
  mail_stays = walk_stays c.args.map.now.meaning _ _ _ _ c.loop-name.invariant.mail_stays (g.met.D.Disk.reads_image c.next_name.new.self) c.in_ok-name.ensures.state c.in_ok-removed.ensures.mail_stays;
  some = λ e. stray_so_far c.args.generation c.args.map.now.meaning c.loop-name.last c.in-Some.name c.loop-name.removed c.in_ok-removed.field-0 _ _ c.loop-name.invariant.some c.loop-name.invariant.none (let F : Option FileName → Type 0 = λ n. IfTold (g.D.Disk.history c.loop-name.disk) (IsNext ghosts.cmp c.loop-name.last n) in subst F c.in-Some.is c.in_ok-name.ensures.next) c.in_ok-removed.ensures.some e;
  idle = stray_walk c.args.generation c.args.map.now.meaning c.loop-name.last c.in-Some.name _ _ _ _ c.loop-name.invariant.idle c.in_ok-name.ensures.state (let F : Option FileName → Type 0 = λ n. IfTold (g.D.Disk.history c.loop-name.disk) (IsNext ghosts.cmp c.loop-name.last n) in subst F c.in-Some.is c.in_ok-name.ensures.next) (λ wanted. idle_same_by (g.D.Disk.history) _ _ (c.in_ok-removed.ensures.untouched wanted));
  in_range = c.known_range.ensures;
  faults = no_fault-then _ _ _ c.loop-name.invariant.faults (no_fault-then _ _ _ (read_ok c.in_ok-name.field-0 _ _ c.in_ok-name.ensures.cause) c.in_ok-removed.ensures.unfailed);
}

pub returns-clause-images : goal.returns-clause-images
returns-clause-images g c = images_unchanged c.args.generation c.args.map.now.meaning _ _ _ c.loop-name.invariant.images c.in_ok-name.ensures.state

pub returns-clause-same : goal.returns-clause-same
returns-clause-same g c =
    where_then (is_wanted c.args.generation c.args.map.now.meaning) _ _ _ c.loop-name.invariant.same (where_unchanged (is_wanted c.args.generation c.args.map.now.meaning) _ _ c.in_ok-name.ensures.state)

pub returns-clause-none : goal.returns-clause-none
returns-clause-none g c = λ e. same_state-unchanged _ _ _ (c.loop-name.invariant.none e) c.in_ok-name.ensures.state

pub returns-clause-gone : goal.returns-clause-gone
returns-clause-gone g c =
    walk_ends (λ (name : FileName) (f : FileState). is_wanted c.args.generation c.args.map.now.meaning name ≡ true) c.loop-name.last _ _ c.in_ok-name.ensures.state
    (let F : Option FileName → Type 0 = λ n. IfTold (g.D.Disk.history c.loop-name.disk) (IsNext ghosts.cmp c.loop-name.last n) in subst F c.in_default.is c.in_ok-name.ensures.next)
    c.loop-name.invariant.gone

pub returns-in_err-name-clause-keeps : goal.returns-in_err-name-clause-keeps
returns-in_err-name-clause-keeps g c = λ none.
    keeps_where c.args.generation c.args.map.now.meaning _ _ (where_then (is_wanted c.args.generation c.args.map.now.meaning) _ _ _ c.loop-name.invariant.same (where_unchanged (is_wanted c.args.generation c.args.map.now.meaning) _ _ c.in_err-name.ensures.state))

pub returns-clause-keeps : goal.returns-clause-keeps
returns-clause-keeps g c = λ none.
    keeps_where c.args.generation c.args.map.now.meaning _ _ (where_then (is_wanted c.args.generation c.args.map.now.meaning) _ _ _ c.loop-name.invariant.same (where_unchanged (is_wanted c.args.generation c.args.map.now.meaning) _ _ c.in_ok-name.ensures.state))

pub returns-in_err-name-clause-mail_stays : goal.returns-in_err-name-clause-mail_stays
returns-in_err-name-clause-mail_stays g c = kept_unchanged c.args.map.now.meaning _ _ _ c.loop-name.invariant.mail_stays c.in_err-name.ensures.state

pub returns-in_err-removed-clause-mail_stays : goal.returns-in_err-removed-clause-mail_stays
returns-in_err-removed-clause-mail_stays g c = walk_stays c.args.map.now.meaning _ _ _ _ c.loop-name.invariant.mail_stays (g.met.D.Disk.reads_image c.next_name.new.self) c.in_ok-name.ensures.state c.in_err-removed.ensures.mail_stays

pub returns-clause-mail_stays : goal.returns-clause-mail_stays
returns-clause-mail_stays g c = kept_unchanged c.args.map.now.meaning _ _ _ c.loop-name.invariant.mail_stays c.in_ok-name.ensures.state

pub returns-clause-some : goal.returns-clause-some
returns-clause-some g c = c.loop-name.invariant.some

pub returns-in_err-name-clause-idle : goal.returns-in_err-name-clause-idle
returns-in_err-name-clause-idle g c = idle_unchanged _ _ _ _ c.loop-name.invariant.idle c.in_err-name.ensures.state

pub returns-in_err-removed-clause-idle : goal.returns-in_err-removed-clause-idle
returns-in_err-removed-clause-idle g c = stray_walk c.args.generation c.args.map.now.meaning c.loop-name.last c.in-Some.name _ _ _ _ c.loop-name.invariant.idle c.in_ok-name.ensures.state (let F : Option FileName → Type 0 = λ n. IfTold (g.D.Disk.history c.loop-name.disk) (IsNext ghosts.cmp c.loop-name.last n) in subst F c.in-Some.is c.in_ok-name.ensures.next) (λ wanted. idle_same_by (g.D.Disk.history) _ _ (c.in_err-removed.ensures.untouched wanted))

pub returns-clause-idle : goal.returns-clause-idle
returns-clause-idle g c = idle_unchanged _ _ _ _ c.loop-name.invariant.idle c.in_ok-name.ensures.state
