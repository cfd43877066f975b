use Rattle.std.proofs.Common.{List, ◌+◌, sym, subst, take, get_or}
use Rattle.std.proofs.lemmas.Option.{slice_get-get_or}
use Rattle.disk_model.proofs.FaultCountLemmas.{no_fault-then}
use Rattle.disk_model.proofs.IdleLemmas.{idle-back, idle-on, idle-then}
use Rattle.disk_model.specs.Disk.{IfTold}
use Rattle.mdbox_base.specs.declared.ids.FileNo.{FileNo}
use Rattle.rebuild_files.proofs.FindingLemmas.{AreFoundIn, found_begins, found_goes_on, found_ends, ok_no_error}
use Rattle.rebuild_files.specs.declared.error.RebuildError.TheVariants as rebuild
use Rattle.rebuild_files.specs.Listing.{AreStorageNumbers}
use Rattle.rebuild_files.specs.Places.{AreAllFindings}
use Rattle.rebuild_files.proofs.find.find_all.Goals as goal

pub loop-number-init : goal.loop-number-init
loop-number-init g c = record {
  numbers = subst (λ (ns : List FileNo). IfTold (g.D.Disk.history c.storage_numbers.new.disk) (AreStorageNumbers ns)) (sym c.as_slice-number-items.ensures)
      (idle-on (AreStorageNumbers c.in_ok-numbers.numbers) (g.D.Disk.history c.args.disk.now) (g.D.Disk.history c.storage_numbers.new.disk) c.storage_numbers.ensures.idle c.in_ok-numbers.ensures.numbers);
  found = found_begins (g.D.Disk.history c.storage_numbers.new.disk) c.empty-found.result c.empty-found.ensures;
  idle = c.storage_numbers.ensures.idle;
  unfailed = c.in_ok-numbers.ensures.unfailed (ok_no_error c.in_ok-numbers.numbers rebuild.DiskFault);
}

pub returns-in_err-find_in_file-clause-idle : goal.returns-in_err-find_in_file-clause-idle
returns-in_err-find_in_file-clause-idle g c = idle-then _ _ _ c.loop-number.invariant.idle c.find_in_file.ensures.idle

pub loop-number-preserved : goal.loop-number-preserved
loop-number-preserved g c =
    let numbers = c.as_slice-number-items.result.now in
    let k = c.loop-number.number-index in
    let new = g.D.Disk.history c.find_in_file.new.disk in
    let idle = c.find_in_file.ensures.idle in
    let are = idle-on (AreStorageNumbers numbers) (g.D.Disk.history c.loop-number.disk) new idle c.loop-number.invariant.numbers in
    let found = found_goes_on (g.D.Disk.history c.loop-number.disk) numbers k (get_or numbers k (record { 0 = 0 })) c.loop-number.found c.find_in_file.new.found c.loop-number.invariant.numbers
    (slice_get-get_or numbers k (record { 0 = 0 }) c.loop-number-test.true) c.loop-number.invariant.found c.in_ok-find_in_file.ensures.added in
    record {
      numbers = are;
      found = idle-on (AreFoundIn (take (k + 1) numbers) c.find_in_file.new.found) (g.D.Disk.history c.loop-number.disk) new idle found;
      idle = idle-then _ _ _ c.loop-number.invariant.idle idle;
      unfailed = no_fault-then _ _ _ c.loop-number.invariant.unfailed (c.in_ok-find_in_file.ensures.unfailed (ok_no_error c.in_ok-find_in_file.field-0 rebuild.DiskFault));
    }

pub returns-clause-found : goal.returns-clause-found
returns-clause-found g c =
    idle-back (AreAllFindings c.loop-number.found) (g.D.Disk.history c.args.disk.now) (g.D.Disk.history c.loop-number.disk) c.loop-number.invariant.idle
    (found_ends (g.D.Disk.history c.loop-number.disk) c.as_slice-number-items.result.now c.loop-number.number-index c.loop-number.found c.loop-number.invariant.numbers c.loop-number-test.false c.loop-number.invariant.found)
