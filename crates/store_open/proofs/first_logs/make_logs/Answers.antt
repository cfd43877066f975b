use Rattle.std.proofs.Common.{◌∷◌, [], ap, ◌∙◌}
use Rattle.disk_model.specs.Disk.{IfTold, EachImage}
use Rattle.disk_model.specs.declared.name.FileName.TheVariants as file
use Rattle.disk_model.proofs.MomentLemmas.{each_image-then}
use Rattle.model_logs.specs.Entries.{map_text}
use Rattle.model_store.specs.Opening.{first_box}
use Rattle.gate_log.specs.State.{LogState}
use Rattle.store_open.specs.Making.{NeverHasEntry, HasNothingOrInbox}
use Rattle.store_open.proofs.FirstFilesLemmas.{HasInbox, HasMapLog, has-inbox, has-map, is-made, is-settled, holds-named, without-root, with-root, inbox-nevers, box-is-no-map, box-is-no-root, map-is-no-root}
use Rattle.store_open.proofs.first_logs.make_logs.Given.{Over}
use Rattle.store_open.proofs.first_logs.make_logs.Goals.{In_ok-box_log, In_ok-map_log}
use Rattle.store_open.proofs.first_logs.make_logs.Goals as goal

-- once the log of INBOX is there

boxed : (g : Over) (c : In_ok-box_log g) → IfTold (g.D.Disk.history c.make_empty_log.new.disk) (HasInbox c.args.id.0)
boxed g c = has-inbox c.args.id.0 c.in_ok-box_log.box_log _ _ (ap (λ (l : LogState). l.name) c.in_ok-box_log.ensures.log) (ap (λ (l : LogState). l.head) c.in_ok-box_log.ensures.log ∙ c.head_of-head.ensures.head)
    c.in_ok-box_log.ensures.others c.requires.bare c.in_ok-box_log.ensures.made

boxed-images : (g : Over) (c : In_ok-box_log g) → IfTold (g.D.Disk.history c.args.disk.now) (λ now. NeverHasEntry (now file.Root)) → EachImage (λ _ image. HasNothingOrInbox c.args.id.0 image) (g.D.Disk.history c.args.disk.now) (g.D.Disk.history c.make_empty_log.new.disk)
boxed-images g c never = without-root c.args.id.0 _ (file.Box 1 1) _ _ box-is-no-root never c.in_ok-box_log.ensures.any_moment

-- and the map log

mapped : (g : Over) (c : In_ok-map_log g) → IfTold (g.D.Disk.history c.make_empty_log.new.disk) (HasInbox c.args.id.0) → IfTold (g.D.Disk.history c.make_log.new.disk) (HasMapLog c.args.id.0)
mapped g c before = has-map c.args.id.0 c.in_ok-map_log.map_log _ _ c.in_ok-map_log.ensures.log.0 (c.in_ok-map_log.ensures.log.1 ∙ c.head_of-head-2.ensures.head)
    c.in_ok-map_log.ensures.others before (rw c.requires.inbox at c.in_ok-map_log.ensures.made)

mapped-images : (g : Over) (c : In_ok-map_log g) → IfTold (g.D.Disk.history c.make_empty_log.new.disk) (HasInbox c.args.id.0)
    → EachImage (λ _ image. HasNothingOrInbox c.args.id.0 image) (g.D.Disk.history c.args.disk.now) (g.D.Disk.history c.make_empty_log.new.disk) → EachImage (λ _ image. HasNothingOrInbox c.args.id.0 image) (g.D.Disk.history c.args.disk.now) (g.D.Disk.history c.make_log.new.disk)
mapped-images g c before images = each_image-then _ _ _ _ images (without-root c.args.id.0 _ (file.Map 1) _ _ map-is-no-root (inbox-nevers c.args.id.0 _ before) c.in_ok-map_log.ensures.any_moment)

pub returns-in_err-box_log-clause-any_moment : goal.returns-in_err-box_log-clause-any_moment
returns-in_err-box_log-clause-any_moment g c = λ never. without-root c.args.id.0 _ (file.Box 1 1) _ _ box-is-no-root never c.in_err-box_log.ensures.any_moment

pub returns-in_err-map_log-clause-any_moment : goal.returns-in_err-map_log-clause-any_moment
returns-in_err-map_log-clause-any_moment g c = λ never.
    let b = (goal.at.returns-in_err-map_log-clause-any_moment g c).In_ok-box_log in
    each_image-then _ _ _ _ (boxed-images g b never) (without-root c.args.id.0 _ (file.Map 1) _ _ map-is-no-root (inbox-nevers c.args.id.0 _ (boxed g b)) c.in_err-map_log.ensures.any_moment)

pub returns-in_err-root_log-clause-any_moment : goal.returns-in_err-root_log-clause-any_moment
returns-in_err-root_log-clause-any_moment g c = λ never.
    let at = goal.at.returns-in_err-root_log-clause-any_moment g c in
    each_image-then _ _ _ _ (mapped-images g at.In_ok-map_log (boxed g at.In_ok-box_log) (boxed-images g at.In_ok-box_log never))
    (with-root c.args.id.0 c.head_of-head-3.result c.args.first.now _ _ c.head_of-head-3.ensures.head c.requires.first (mapped g at.In_ok-map_log (boxed g at.In_ok-box_log)) c.in_err-root_log.ensures.any_moment)

pub returns-clause-any_moment : goal.returns-clause-any_moment
returns-clause-any_moment g c = λ never.
    let at = goal.at.returns-clause-any_moment g c in
    each_image-then _ _ _ _ (mapped-images g at.In_ok-map_log (boxed g at.In_ok-box_log) (boxed-images g at.In_ok-box_log never))
    (with-root c.args.id.0 c.head_of-head-3.result c.args.first.now _ _ c.head_of-head-3.ensures.head c.requires.first (mapped g at.In_ok-map_log (boxed g at.In_ok-box_log)) c.in_ok-root_log.ensures.any_moment)

pub returns-clause-store : goal.returns-clause-store
returns-clause-store g c =
    let at = goal.at.returns-clause-store g c in
    is-made c.args.id.0 c.in_ok-root_log.root_log _ _ c.in_ok-root_log.ensures.log.0 (c.in_ok-root_log.ensures.log.1 ∙ c.head_of-head-3.ensures.head)
    c.in_ok-root_log.ensures.others (mapped g at.In_ok-map_log (boxed g at.In_ok-box_log)) (rw c.requires.first at c.in_ok-root_log.ensures.made)

pub returns-clause-settled : goal.returns-clause-settled
returns-clause-settled g c =
    let at = goal.at.returns-clause-settled g c in
    let n = ap (λ (l : LogState). l.name) c.in_ok-box_log.ensures.log in
    is-settled c.args.id.0 c.in_ok-box_log.box_log [] _ (ap (λ (l : LogState). l.head) c.in_ok-box_log.ensures.log ∙ c.head_of-head.ensures.head)
    (is-made c.args.id.0 c.in_ok-root_log.root_log _ _ c.in_ok-root_log.ensures.log.0 (c.in_ok-root_log.ensures.log.1 ∙ c.head_of-head-3.ensures.head)
    c.in_ok-root_log.ensures.others (mapped g at.In_ok-map_log (boxed g at.In_ok-box_log)) (rw c.requires.first at c.in_ok-root_log.ensures.made))
    (holds-named c.in_ok-box_log.box_log [] (file.Box 1 1) file.Root _ _ n box-is-no-root c.in_ok-root_log.ensures.others
    (holds-named c.in_ok-box_log.box_log [] (file.Box 1 1) (file.Map 1) _ _ n box-is-no-map c.in_ok-map_log.ensures.others c.in_ok-box_log.ensures.made))

pub returns-clause-map_log : goal.returns-clause-map_log
returns-clause-map_log g c = (
  holds-named c.in_ok-map_log.map_log (map_text first_box ∷ []) (file.Map 1) file.Root _ _ c.in_ok-map_log.ensures.log.0 map-is-no-root c.in_ok-root_log.ensures.others (rw c.requires.inbox at c.in_ok-map_log.ensures.made),
  c.in_ok-map_log.ensures.log.0,
  c.in_ok-map_log.ensures.log.1 ∙ c.head_of-head-2.ensures.head,
)

pub returns-clause-box_log : goal.returns-clause-box_log
returns-clause-box_log g c =
    let n = ap (λ (l : LogState). l.name) c.in_ok-box_log.ensures.log in (
      holds-named c.in_ok-box_log.box_log [] (file.Box 1 1) file.Root _ _ n box-is-no-root c.in_ok-root_log.ensures.others
          (holds-named c.in_ok-box_log.box_log [] (file.Box 1 1) (file.Map 1) _ _ n box-is-no-map c.in_ok-map_log.ensures.others c.in_ok-box_log.ensures.made),
      rw c.head_of-head.ensures.head at c.in_ok-box_log.ensures.log,
    )

pub returns-clause-root_log : goal.returns-clause-root_log
returns-clause-root_log g c = (rw c.requires.first at c.in_ok-root_log.ensures.made, c.in_ok-root_log.ensures.log.0, c.in_ok-root_log.ensures.log.1 ∙ c.head_of-head-3.ensures.head)
