use Rattle.purge_task.proofs.Common.{◌≡◌, ◌∙◌, refl, sym, subst, ap, Some, None, arith, IsSome, idle-begins, FilesValue, end_in}
use Rattle.disk_model.proofs.FaultCountLemmas.{no_fault-then}
use Rattle.disk_model.proofs.IdleLemmas.{idle-then}
use Rattle.storage_files.specs.Files.{file_past}
use Rattle.purge_task.proofs.FindLemmas.{IsFoundUpTo, disk_then, fewer_left, files_same, find_begins, find_ends, find_more, found_back, found_same, next_below, next_passes, next_there}
use Rattle.purge_task.proofs.finding.unclean_files.Goals as goal

pub loop-file-init : goal.loop-file-init
loop-file-init g c = record {
  same = refl;
  idle = idle-begins (g.D.Disk.history c.args.store.now.disk);
  faults = refl;
  found = subst (IsFoundUpTo c.args.store.now (g.D.Disk.history c.args.store.now.disk) None) (sym c.new-files.ensures.items) (find_begins c.args.store.now (g.D.Disk.history c.args.store.now.disk));
}

pub visit-requires-clause-there : goal.visit-requires-clause-there
visit-requires-clause-there g c =
    let same = files_same c.args.store.now c.loop-file.store c.loop-file.invariant.same in
    let next : file_past c.loop-file.after c.args.store.now.files.files ≡ Some c.in-Some.file = ap (λ (v : FilesValue). file_past c.loop-file.after v.files) (sym same) ∙ sym c.next_file.ensures ∙ c.in-Some.is in
    subst (λ (v : FilesValue). IsSome (end_in c.in-Some.file.0 v.files)) (sym same) (next_there c.loop-file.after c.args.store.now.files.files c.in-Some.file c.facts.ensures.files.rising next)

pub loop-file-preserved : goal.loop-file-preserved
loop-file-preserved g c =
    let same = files_same c.args.store.now c.loop-file.store c.loop-file.invariant.same in
    let next : file_past c.loop-file.after c.args.store.now.files.files ≡ Some c.in-Some.file = ap (λ (v : FilesValue). file_past c.loop-file.after v.files) (sym same) ∙ sym c.next_file.ensures ∙ c.in-Some.is in
    let seen = c.in_ok-visit.ensures.visited in
    record {
      same = disk_then c.args.store.now c.loop-file.store c.visit.new.store c.loop-file.invariant.same c.in_ok-visit.ensures.same;
      idle = idle-then _ _ _ c.loop-file.invariant.idle c.in_ok-visit.ensures.idle;
      faults = no_fault-then _ _ _ c.loop-file.invariant.faults (c.in_ok-visit.ensures.unfailed (λ e. cc e));
      found = find_more c.args.store.now (g.D.Disk.history c.args.store.now.disk) c.loop-file.after c.in-Some.file c.loop-file.files.items c.visit.new.files.items seen.found c.facts.ensures.files.rising next
          (found_back c.args.store.now (g.D.Disk.history c.args.store.now.disk) (g.D.Disk.history c.loop-file.store.disk) c.in-Some.file.0 seen.found c.loop-file.invariant.idle (found_same c.args.store.now c.loop-file.store (g.D.Disk.history c.loop-file.store.disk) c.in-Some.file.0 seen.found c.loop-file.invariant.same seen.is))
          seen.listed c.loop-file.invariant.found;
    }

pub loop-file-smaller : goal.loop-file-smaller
loop-file-smaller g c =
    let same = files_same c.args.store.now c.loop-file.store c.loop-file.invariant.same in
    let next : file_past c.loop-file.after c.args.store.now.files.files ≡ Some c.in-Some.file = ap (λ (v : FilesValue). file_past c.loop-file.after v.files) (sym same) ∙ sym c.next_file.ensures ∙ c.in-Some.is in
    let low = next_below c.loop-file.after c.args.store.now.files.files c.in-Some.file c.args.store.now.files.highest c.facts.ensures.files.below next in
    let last = c.facts.ensures.files.last in
    fewer_left c.loop-file.after c.in-Some.file (next_passes c.loop-file.after c.args.store.now.files.files c.in-Some.file next) (omega (arith, low, last))

pub returns-in_err-visit-clause-idle : goal.returns-in_err-visit-clause-idle
returns-in_err-visit-clause-idle g c = idle-then _ _ _ c.loop-file.invariant.idle c.in_err-visit.ensures.idle

pub returns-clause-found : goal.returns-clause-found
returns-clause-found g c =
    let same = files_same c.args.store.now c.loop-file.store c.loop-file.invariant.same in
    let none : file_past c.loop-file.after c.args.store.now.files.files ≡ None = ap (λ (v : FilesValue). file_past c.loop-file.after v.files) (sym same) ∙ sym c.next_file.ensures ∙ c.in_default.is in
    find_ends c.args.store.now (g.D.Disk.history c.args.store.now.disk) c.loop-file.after c.loop-file.files.items none c.loop-file.invariant.found
