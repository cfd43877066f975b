use Rattle.std.proofs.Common.{◌∷◌, Option}
use Rattle.store_sweep.proofs.SweepStepLemmas.{images_then, keeps_then}
use Rattle.store_sweep.proofs.SweepLemmas.{safe_images, settled_after, files_carry, mail_carries, opened_root, opened_map, opened_boxes, end_with_regions}
use Rattle.store_sweep.specs.Repaired.{is_outside}
use Rattle.store_sweep.proofs.LogsInForceLemmas.{strays_stay, mail_outside}
use Rattle.store_sweep.proofs.FittedLemmas.{fitted-then, fitted-mail, kept-then, kept-there, names-since}
use Rattle.std.proofs.lemmas.Bool.{false≢true}
use Rattle.disk_model.specs.Disk.{History}
use Rattle.store_sweep.specs.Moments.{ImagesCarry, KeepsStore}
use Rattle.store_sweep.specs.Boxes.{found_logs}
use Rattle.store_sweep.proofs.FaultLemmas.{none_since}
use Rattle.store_sweep.proofs.swept.sweep.Given.{Over}
use Rattle.store_sweep.proofs.swept.sweep.Goals.{In_ok-root_log}
use Rattle.std.proofs.Common.{List, All, sym, subst}
use Rattle.gate_log.specs.State.{IsWholeLog}
use Rattle.model_kept.proofs.KeptLemmas.{kept_then}
use Rattle.store_checks.specs.declared.mailbox.CheckedBox.{CheckedBox}
use Rattle.store_sweep.proofs.IdleSweepLemmas.{idle_if, idle_parts, idle_same_by}
use Rattle.store_sweep.proofs.swept.sweep.Goals as goal

pub returns-in_err-root_log-clause-any_moment : goal.returns-in_err-root_log-clause-any_moment
returns-in_err-root_log-clause-any_moment g c = λ lists s.
    safe_images c.args.checked.generation c.args.checked.map.meaning lists _ _ (g.met.D.Disk.reads_image c.args.disk.now) c.requires.opened (c.in_err-root_log.ensures.images c.args.checked.generation c.requires.map_log.0) s

pub returns-in_err-clear-clause-any_moment : goal.returns-in_err-clear-clause-any_moment
returns-in_err-clear-clause-any_moment g c = λ lists s.
    safe_images c.args.checked.generation c.args.checked.map.meaning lists _ _ (g.met.D.Disk.reads_image c.args.disk.now) c.requires.opened
    (images_then c.args.checked.generation c.args.checked.map.meaning _ _ _ (c.in_ok-root_log.ensures.images c.args.checked.generation c.requires.map_log.0) (c.in_ok-root_log.ensures.keeps c.args.checked.generation c.requires.map_log.0).holds c.in_err-clear.ensures.images) s

pub returns-clause-any_moment : goal.returns-clause-any_moment
returns-clause-any_moment g c = λ lists s.
    safe_images c.args.checked.generation c.args.checked.map.meaning lists _ _ (g.met.D.Disk.reads_image c.args.disk.now) c.requires.opened
    (images_then c.args.checked.generation c.args.checked.map.meaning _ _ _ (c.in_ok-root_log.ensures.images c.args.checked.generation c.requires.map_log.0) (c.in_ok-root_log.ensures.keeps c.args.checked.generation c.requires.map_log.0).holds c.in_ok-clear.ensures.images) s

pub returns-clause-map_log : goal.returns-clause-map_log
returns-clause-map_log g c =
    opened_map c.args.checked.generation c.args.checked.map.meaning c.args.checked.map_log _ _ _ _ (g.met.D.Disk.reads_image c.args.disk.now) c.requires.opened c.requires.map_log.0 c.in_ok-clear.ensures.logs c.in_ok-root_log.ensures.map_log

pub returns-clause-box_logs : goal.returns-clause-box_logs
returns-clause-box_logs g c =
    opened_boxes c.args.checked.generation c.args.checked.map.meaning (found_logs c.args.checked.boxes) _ _ _ _ (g.met.D.Disk.reads_image c.args.disk.now) c.requires.opened c.requires.box_logs c.in_ok-clear.ensures.logs (rw c.into_vec-boxes.ensures at c.in_ok-root_log.ensures.box_logs)

pub returns-clause-root_log : goal.returns-clause-root_log
returns-clause-root_log g c =
    opened_root c.args.checked.generation c.args.checked.map.meaning c.args.checked.root_log _ _ _ _ (g.met.D.Disk.reads_image c.args.disk.now) c.requires.opened c.requires.root.0 c.in_ok-clear.ensures.logs c.in_ok-root_log.ensures.root_log

-- what the store reads and holds, through both parts

both_images : (g : Over) (c : In_ok-root_log g) → (new : Option History) → ImagesCarry c.args.checked.generation c.args.checked.map.meaning (g.D.Disk.history c.repair_logs.new.disk) new → ImagesCarry c.args.checked.generation c.args.checked.map.meaning (g.D.Disk.history c.args.disk.now) new
both_images g c new images = images_then c.args.checked.generation c.args.checked.map.meaning _ _ _ (c.in_ok-root_log.ensures.images c.args.checked.generation c.requires.map_log.0) (c.in_ok-root_log.ensures.keeps c.args.checked.generation c.requires.map_log.0).holds images

both_keep : (g : Over) (c : In_ok-root_log g) → (new : Option History) → KeepsStore c.args.checked.generation c.args.checked.map.meaning (g.D.Disk.history c.repair_logs.new.disk) new → KeepsStore c.args.checked.generation c.args.checked.map.meaning (g.D.Disk.history c.args.disk.now) new
both_keep g c new keeps = keeps_then c.args.checked.generation c.args.checked.map.meaning _ _ _ (c.in_ok-root_log.ensures.keeps c.args.checked.generation c.requires.map_log.0) keeps

pub returns-in_err-clear-clause-settled_again : goal.returns-in_err-clear-clause-settled_again
returns-in_err-clear-clause-settled_again g c = λ none lists s.
    let at = (goal.at.returns-in_err-clear-clause-settled_again g c).In_ok-root_log in
    settled_after c.args.checked.generation c.args.checked.map.meaning lists _ _ (g.met.D.Disk.reads_image c.args.disk.now) c.requires.opened (both_images g at _ c.in_err-clear.ensures.images)
    (both_keep g at _ (c.in_err-clear.ensures.keeps (none_since (g.D.Disk.faults c.args.disk.now) (g.D.Disk.faults c.repair_logs.new.disk) (g.D.Disk.faults c.clear.new.disk) c.in_ok-root_log.ensures.unfailed c.from_residual-in_err-clear.ensures.0 none))) s

pub returns-in_err-clear-clause-carried : goal.returns-in_err-clear-clause-carried
returns-in_err-clear-clause-carried g c = λ none.
    let at = (goal.at.returns-in_err-clear-clause-carried g c).In_ok-root_log in
    files_carry c.args.checked.generation c.args.checked.map.meaning _ _ c.requires.opened (both_images g at _ c.in_err-clear.ensures.images) (both_keep g at _ (c.in_err-clear.ensures.keeps (none_since (g.D.Disk.faults c.args.disk.now) (g.D.Disk.faults c.repair_logs.new.disk) (g.D.Disk.faults c.clear.new.disk) c.in_ok-root_log.ensures.unfailed c.from_residual-in_err-clear.ensures.0 none)))

pub returns-clause-settled_again : goal.returns-clause-settled_again
returns-clause-settled_again g c = λ none lists s.
    let at = (goal.at.returns-clause-settled_again g c).In_ok-root_log in
    settled_after c.args.checked.generation c.args.checked.map.meaning lists _ _ (g.met.D.Disk.reads_image c.args.disk.now) c.requires.opened (both_images g at _ c.in_ok-clear.ensures.images)
    (both_keep g at _ (c.in_ok-clear.ensures.keeps (λ err. absurd (false≢true err)))) s

pub returns-clause-carried : goal.returns-clause-carried
returns-clause-carried g c = λ none.
    let at = (goal.at.returns-clause-carried g c).In_ok-root_log in
    files_carry c.args.checked.generation c.args.checked.map.meaning _ _ c.requires.opened (both_images g at _ c.in_ok-clear.ensures.images) (both_keep g at _ (c.in_ok-clear.ensures.keeps (λ err. absurd (false≢true err))))

pub returns-clause-swept : goal.returns-clause-swept
returns-clause-swept g c =
    let at = (goal.at.returns-clause-swept g c).In_ok-root_log in
    let images = both_images g at _ c.in_ok-clear.ensures.images in
    let keeps = both_keep g at _ (c.in_ok-clear.ensures.keeps (λ err. absurd (false≢true err))) in
    record {
      reads = mail_carries c.args.checked.generation c.args.checked.map.meaning _ _ (files_carry c.args.checked.generation c.args.checked.map.meaning _ _ c.requires.opened images keeps);
      only = c.in_ok-clear.ensures.gone;
      kept = kept-then c.args.checked.generation c.args.checked.map.meaning _ _ _ (kept-there c.args.checked.generation c.args.checked.map.meaning _ _ c.in_ok-root_log.ensures.there) c.in_ok-clear.ensures.kept;
      mail = fitted-then _ _ _ _
          (fitted-mail c.args.checked.map.meaning (is_outside (c.args.checked.root_log ∷ c.args.checked.map_log ∷ (found_logs c.args.checked.boxes))) _ _ (mail_outside c.args.checked.generation c.args.checked.map.meaning c.args.checked.root_log c.args.checked.map_log (found_logs c.args.checked.boxes) c.requires.root.0 c.requires.map_log.0 c.requires.box_logs) (rw c.into_vec-boxes.ensures at c.in_ok-root_log.ensures.others))
          c.in_ok-clear.ensures.mail;
      ends = end_with_regions c.args.checked.generation c.args.checked.map.meaning _ _ c.requires.opened images keeps c.in_ok-clear.ensures.cut;
      names = names-since c.args.checked.generation c.args.checked.map.meaning _ _ _
          (strays_stay c.args.checked.generation c.args.checked.map.meaning c.args.checked.root_log c.args.checked.map_log (found_logs c.args.checked.boxes) _ _ c.requires.root.0 c.requires.map_log.0 c.requires.box_logs (rw c.into_vec-boxes.ensures at c.in_ok-root_log.ensures.others))
          c.in_ok-clear.ensures.names;
    }

pub returns-in_err-root_log-clause-mail_stays : goal.returns-in_err-root_log-clause-mail_stays
returns-in_err-root_log-clause-mail_stays g c = c.in_err-root_log.ensures.mail_stays

pub returns-in_err-clear-clause-mail_stays : goal.returns-in_err-clear-clause-mail_stays
returns-in_err-clear-clause-mail_stays g c = kept_then c.args.checked.map.meaning _ _ _ (g.met.D.Disk.reads_image c.repair_logs.new.disk) c.in_ok-root_log.ensures.mail_stays c.in_err-clear.ensures.mail_stays

pub returns-clause-mail_stays : goal.returns-clause-mail_stays
returns-clause-mail_stays g c = kept_then c.args.checked.map.meaning _ _ _ (g.met.D.Disk.reads_image c.repair_logs.new.disk) c.in_ok-root_log.ensures.mail_stays c.in_ok-clear.ensures.mail_stays

pub returns-in_err-root_log-clause-idle : goal.returns-in_err-root_log-clause-idle
returns-in_err-root_log-clause-idle g c = λ all. idle_if _ _ _ (idle_same_by g.D.Disk.history _ _ (c.in_err-root_log.ensures.untouched (subst (λ (boxes : List CheckedBox). All IsWholeLog (c.args.checked.root_log ∷ c.args.checked.map_log ∷ found_logs boxes)) (sym c.into_vec-boxes.ensures) all)))

pub returns-in_err-clear-clause-idle : goal.returns-in_err-clear-clause-idle
returns-in_err-clear-clause-idle g c = λ all. idle_parts _ _ _ _ _ (λ disk nothing. nothing) (idle_if _ _ _ (idle_same_by g.D.Disk.history _ _ (c.in_ok-root_log.ensures.untouched (subst (λ (boxes : List CheckedBox). All IsWholeLog (c.args.checked.root_log ∷ c.args.checked.map_log ∷ found_logs boxes)) (sym c.into_vec-boxes.ensures) all)))) c.in_err-clear.ensures.idle

pub returns-clause-idle : goal.returns-clause-idle
returns-clause-idle g c = λ all. idle_parts _ _ _ _ _ (λ disk nothing. nothing) (idle_if _ _ _ (idle_same_by g.D.Disk.history _ _ (c.in_ok-root_log.ensures.untouched (subst (λ (boxes : List CheckedBox). All IsWholeLog (c.args.checked.root_log ∷ c.args.checked.map_log ∷ found_logs boxes)) (sym c.into_vec-boxes.ensures) all)))) c.in_ok-clear.ensures.idle
