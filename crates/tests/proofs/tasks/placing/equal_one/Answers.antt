use Rattle.std.specs.Prelude.{◌↔◌, ◌≢◌, IsTrue}
use Rattle.std.proofs.Common.{◌≡◌, List, length, Some, sym, ◌∙◌, ap, subst}
use Rattle.std.proofs.lemmas.Bool.{true≢false}
use Rattle.disk_model.specs.Disk.{IfTold, reading}
use Rattle.disk_model.proofs.IdleLemmas.{idle-on}
use Rattle.disk_model.proofs.MomentLemmas.{if_told-map}
use Rattle.sis_store.specs.Comparing.{IsUnlikeUpTo}
use Rattle.sis_store.specs.OnDisk.{file_of}
use Rattle.sis_store.specs.declared.instance.KnownInstance.{KnownInstance}
use Rattle.store_core.specs.Value.{StoreValue}
use Rattle.tests.proofs.tasks.placing.equal_one.Goals as goal

pub loop-id-preserved : goal.loop-id-preserved
loop-id-preserved g c =
    let known = c.loop-id.store.instances.known in
    let octets = c.args.octets.now in
    let unlike : IfTold (g.D.Disk.history c.loop-id.store.disk) (λ disk. reading (disk (file_of c.in-Some.id known)) ≢ Some octets) =
    if_told-map (λ disk. IsTrue c.in_ok-same_octets.field-0 ↔ (reading (disk (file_of c.in-Some.id known)) ≡ Some octets)) (λ disk. reading (disk (file_of c.in-Some.id known)) ≢ Some octets) (g.D.Disk.history c.loop-id.store.disk)
    (λ disk h e. true≢false (sym (h.1 e) ∙ c.if-branch.false)) c.in_ok-same_octets.ensures.alike in
    subst (λ (others : List KnownInstance). IsUnlikeUpTo c.args.hash (length octets) octets (Some c.in-Some.id) others (g.D.Disk.history c.same_octets.new.self.disk)) (sym (ap (λ (s : StoreValue _). s.instances.known) c.in_ok-same_octets.ensures.same))
    (idle-on _ _ _ c.in_ok-same_octets.ensures.idle
    (c.candidates_are_compared.ensures.one_more c.args.hash (length octets) octets c.loop-id.after c.in-Some.id known (g.D.Disk.history c.loop-id.store.disk) c.facts.ensures.ids.rising c.loop-id.invariant (sym c.in-Some.ensures) unlike))
