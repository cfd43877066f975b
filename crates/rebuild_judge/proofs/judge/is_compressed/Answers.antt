use Rattle.disk_model.proofs.MomentLemmas.{if_told-map}
use Rattle.rebuild_judge.proofs.JoinSizeLemmas.{gzip_told}
use Rattle.rebuild_judge.specs.Judges.{IsCompressedOn}
use Rattle.rebuild_judge.proofs.judge.is_compressed.Goals as goal

pub returns-clause-start : goal.returns-clause-start
returns-clause-start g c =
    if_told-map _ (IsCompressedOn c.args.number.0 c.args.place.now c.begins_as_gzip.result) (g.D.Disk.history c.args.disk.now)
    (λ disk read. gzip_told c.args.number.0 c.args.place.now c.min.result c.in_ok-start.start.items c.begins_as_gzip.result disk c.min.ensures read (rw c.deref.ensures.value at c.begins_as_gzip.ensures)) c.in_ok-start.ensures.part
