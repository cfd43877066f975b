use Rattle.std.proofs.Common.{◌∙◌, arith}
use Rattle.disk_model.proofs.IdleLemmas.{idle-back, idle-then}
use Rattle.disk_model.proofs.MomentLemmas.{if_told-both, if_told-map}
use Rattle.rebuild_judge.proofs.CompareLemmas.{bad_lines, gone_instances, no_region, none_stands, rejoined_as, too_many}
use Rattle.rebuild_judge.proofs.RegionLemmas.{stands_within}
use Rattle.rebuild_judge.proofs.compare.whole_in.Goals as goal

pub part_of-lines-requires : goal.part_of-lines-requires
part_of-lines-requires g c =
    let w = stands_within c.as_slice-octets.result.now c.in-Ok.place c.in-Ok.ensures in
    let a = c.saturating_sub.ensures in
    let b = c.saturating_sub-long.ensures in
    let h = w.0 in
    omega (arith, a, b, h)

pub part_of-body-requires : goal.part_of-body-requires
part_of-body-requires g c = (stands_within c.as_slice-octets.result.now c.in-Ok.place c.in-Ok.ensures).1

pub returns-in-Err-clause-found : goal.returns-in-Err-clause-found
returns-in-Err-clause-found g c =
    let octets = c.as_slice-octets.result.now in
    if_told-map _ _ (g.D.Disk.history c.args.disk.now) (λ disk read. no_region c.args.number.0 c.args.offset c.args.size octets disk (c.as_slice-octets.ensures.value ∙ read) (none_stands octets _ c.in-Err.ensures)) c.in_ok-region.ensures.part

pub returns-in_default-clause-found : goal.returns-in_default-clause-found
returns-in_default-clause-found g c =
    let octets = c.as_slice-octets.result.now in
    if_told-map _ _ (g.D.Disk.history c.args.disk.now)
    (λ disk read. bad_lines c.args.number.0 c.args.offset c.args.size c.saturating_sub-long.result octets c.part_of-lines.result.now c.in-Ok.place disk (c.as_slice-octets.ensures.value ∙ read) c.in-Ok.ensures (let a = c.saturating_sub.ensures in let b = c.saturating_sub-long.ensures in omega (arith, a, b))
    c.part_of-lines.ensures (rw c.in_default.is at c.in_ok-meta.ensures.says)) c.in_ok-region.ensures.part

pub returns-in_default-2-clause-found : goal.returns-in_default-2-clause-found
returns-in_default-2-clause-found g c =
    let octets = c.as_slice-octets.result.now in
    let old = g.D.Disk.history c.args.disk.now in
    if_told-both _ _ _ old
    (λ disk read none. gone_instances c.args.number.0 c.args.offset c.args.size octets c.in-Ok.place c.in-Some.meta disk (record {
      lines = c.part_of-lines.result.now;
      n = c.saturating_sub-long.result;
      read = c.as_slice-octets.ensures.value ∙ read;
      stands = c.in-Ok.ensures;
      sized = let a = c.saturating_sub.ensures in let b = c.saturating_sub-long.ensures in omega (arith, a, b);
      lines_are = c.part_of-lines.ensures;
      says = rw c.in-Some.is at c.in_ok-meta.ensures.says;
    }) none) c.in_ok-region.ensures.part
    (idle-back _ old (g.D.Disk.history c.read_part.new.disk) c.in_ok-region.ensures.idle (rw (c.as_slice.ensures, c.in_default-2.is) at c.in_ok-instances.ensures.octets))

pub returns-in_err-instances-clause-idle : goal.returns-in_err-instances-clause-idle
returns-in_err-instances-clause-idle g c = idle-then _ _ _ c.read_part.ensures.idle c.instance_octets.ensures.idle

pub returns-in_default-2-clause-idle : goal.returns-in_default-2-clause-idle
returns-in_default-2-clause-idle g c = idle-then _ _ _ c.read_part.ensures.idle c.instance_octets.ensures.idle

pub returns-then-length-ge-MANY-clause-idle : goal.returns-then-length-ge-MANY-clause-idle
returns-then-length-ge-MANY-clause-idle g c = idle-then _ _ _ c.read_part.ensures.idle c.instance_octets.ensures.idle

pub returns-in_err-found-clause-idle : goal.returns-in_err-found-clause-idle
returns-in_err-found-clause-idle g c = idle-then _ _ _ c.read_part.ensures.idle c.instance_octets.ensures.idle

pub returns-clause-idle : goal.returns-clause-idle
returns-clause-idle g c = idle-then _ _ _ c.read_part.ensures.idle c.instance_octets.ensures.idle

pub returns-then-length-ge-MANY-clause-found : goal.returns-then-length-ge-MANY-clause-found
returns-then-length-ge-MANY-clause-found g c =
    if_told-map _ _ (g.D.Disk.history c.args.disk.now)
    (λ disk read. too_many c.args.number.0 c.args.offset c.args.size c.as_slice-octets.result.now c.in-Ok.place c.in-Some.meta disk (record {
      lines = c.part_of-lines.result.now;
      n = c.saturating_sub-long.result;
      read = c.as_slice-octets.ensures.value ∙ read;
      stands = c.in-Ok.ensures;
      sized = let a = c.saturating_sub.ensures in let b = c.saturating_sub-long.ensures in omega (arith, a, b);
      lines_are = c.part_of-lines.ensures;
      says = rw c.in-Some.is at c.in_ok-meta.ensures.says;
    }) (let a = c.length.ensures in let b = c.if-length-ge-MANY.true in omega (arith, a, b))) c.in_ok-region.ensures.part

pub returns-clause-found : goal.returns-clause-found
returns-clause-found g c =
    let old = g.D.Disk.history c.args.disk.now in
    if_told-both _ _ _ old
    (λ disk read are. rejoined_as c.args.number.0 c.args.offset c.args.size c.as_slice-octets.result.now c.part_of-body.result.now c.in-Ok.place c.in-Some.meta c.in-Some-2.instances c.in_ok-found.found disk (record {
      lines = c.part_of-lines.result.now;
      n = c.saturating_sub-long.result;
      read = c.as_slice-octets.ensures.value ∙ read;
      stands = c.in-Ok.ensures;
      sized = let a = c.saturating_sub.ensures in let b = c.saturating_sub-long.ensures in omega (arith, a, b);
      lines_are = c.part_of-lines.ensures;
      says = rw c.in-Some.is at c.in_ok-meta.ensures.says;
    }) are c.part_of-body.ensures c.in_ok-found.ensures) c.in_ok-region.ensures.part
    (idle-back _ old (g.D.Disk.history c.read_part.new.disk) c.in_ok-region.ensures.idle (rw (c.as_slice.ensures, c.in-Some-2.is) at c.in_ok-instances.ensures.octets))
