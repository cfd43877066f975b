use Rattle.std.proofs.Common.{ℕ, List, length, Some, refl, arith}
use Rattle.disk_model.specs.Disk.{FileState, Reaches, made, written}
use Rattle.disk_model.proofs.ChangeAndSyncLemmas.{changed_state}
use Rattle.disk_mem.specs.Mem.{told}
use Rattle.disk_mem.specs.Sound.{length-overlaid}
use Rattle.disk_mem.proofs.StepLemmas.{on_ok}
use Rattle.tests.proofs.stores.files.put_unsynced.Goals as goal

made_reaches : (f : FileState) → Unit {0} → Reaches (made f) 0
made_reaches f u = (refl, omega arith)

written_reaches : (text : List ℕ) (f : FileState) → Reaches f 0 → Reaches (written 0 text f) (length text)
written_reaches text f reaches = (reaches.0, omega (arith, length-overlaid f.octets 0 text))

pub write_at-requires : goal.write_at-requires
write_at-requires c =
    changed_state c.args.name (λ f. Unit {0}) (λ f. Reaches f 0) made (Some (told c.args.disk.now)) (Some (told c.make.new.self)) c.in_ok-make.ensures.state made_reaches tt

pub returns-clause-reaches : goal.returns-clause-reaches
returns-clause-reaches c =
    let before = changed_state c.args.name (λ f. Unit {0}) (λ f. Reaches f 0) made (Some (told c.args.disk.now)) (Some (told c.make.new.self)) c.in_ok-make.ensures.state made_reaches tt in
    on_ok c.write_at.result
    (λ is. changed_state c.args.name (λ f. Reaches f 0) (λ f. Reaches f (length c.args.octets.now)) (written 0 c.args.octets.now)
    (Some (told c.make.new.self)) (Some (told c.write_at.new.self)) is (written_reaches c.args.octets.now) before)
    c.write_at.ensures.state
