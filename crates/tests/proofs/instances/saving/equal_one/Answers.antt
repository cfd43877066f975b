use Rattle.std.specs.Prelude.{◌↔◌, ◌≢◌, IsTrue}
use Rattle.std.proofs.Common.{◌≡◌, length, Some, sym, ◌∙◌}
use Rattle.std.proofs.lemmas.Bool.{true≢false}
use Rattle.disk_model.specs.Disk.{IfTold, reading}
use Rattle.disk_model.proofs.IdleLemmas.{idle-on}
use Rattle.disk_model.proofs.MomentLemmas.{if_told-map}
use Rattle.sis_store.specs.OnDisk.{file_of}
use Rattle.tests.proofs.instances.saving.equal_one.Goals as goal

pub loop-id-preserved : goal.loop-id-preserved
loop-id-preserved g c =
    let known = c.args.instances.now.known in
    let octets = c.args.octets.now in
    let unlike : IfTold (g.D.Disk.history c.loop-id.disk) (λ disk. reading (disk (file_of c.in-Some.id known)) ≢ Some octets) =
    if_told-map (λ disk. IsTrue c.in_ok-same_octets.field-0 ↔ (reading (disk (file_of c.in-Some.id known)) ≡ Some octets)) (λ disk. reading (disk (file_of c.in-Some.id known)) ≢ Some octets) (g.D.Disk.history c.loop-id.disk)
    (λ disk h e. true≢false (sym (h.1 e) ∙ c.if-branch.false)) c.in_ok-same_octets.ensures.same in
    idle-on _ _ _ c.in_ok-same_octets.ensures.idle
    (c.candidates_are_compared.ensures.one_more c.args.hash (length octets) octets c.loop-id.after c.in-Some.id known (g.D.Disk.history c.loop-id.disk) c.known_facts.ensures.rising c.loop-id.invariant (sym c.in-Some.ensures) unlike)
