use Rattle.store_core.proofs.Common.{IfTold, OthersStay, each_image-map}
use Rattle.disk_model.specs.declared.name.FileName.TheVariants as file
use Rattle.gate_log.specs.Log.{IsAtMostAsLong}
use Rattle.store_core.proofs.store.map_drafts.make_map_log.Goals as goal

pub returns-clause-any_moment : goal.returns-clause-any_moment
returns-clause-any_moment g c =
    each_image-map (λ _ image. IfTold (g.D.Disk.history c.args.disk.now) (λ before. IsAtMostAsLong 26 (before (file.Map c.args.generation)) (image (file.Map c.args.generation))) × OthersStay (file.Map c.args.generation) (g.D.Disk.history c.args.disk.now) image)
    (λ _ image. OthersStay (file.Map c.args.generation) (g.D.Disk.history c.args.disk.now) image) (g.D.Disk.history c.args.disk.now) (g.D.Disk.history c.create_log.new.disk) (λ moment image i. i.1) c.create_log.ensures.any_moment
