use Rattle.std.specs.Prelude.{Contains}
use Rattle.std.proofs.Common.{ℕ, List, map, sym, ◌∙◌, ap, subst}
use Rattle.disk_model.proofs.IdleLemmas.{idle-begins}
use Rattle.mdbox_base.specs.declared.entries.Highest.{Highest}
use Rattle.storage_files.specs.Files.{FilesValue, file_found}
use Rattle.store_files.specs.Barred.{barred_in}
use Rattle.store_files.specs.Found.{AreFilesFound}
use Rattle.store_files.proofs.BarredLemmas.{lent_back}
use Rattle.store_files.proofs.FoundLemmas.{bars_rise, found_files, files_below}
use Rattle.store_files.proofs.find.find_files.Goals as goal

pub returns-in_err-numbers-clause-idle : goal.returns-in_err-numbers-clause-idle
returns-in_err-numbers-clause-idle g c = idle-begins _

pub of-requires-2-clause-rising : goal.of-requires-2-clause-rising
of-requires-2-clause-rising g c =
    let items = c.in_ok-states.states.items in
    let written = lent_back items c.deref_mut.result.now c.bar_files.new.states c.in_ok-states.states.len (barred_in c.args.map.now.meaning) (c.bar_files.auto.states ∙ c.deref_mut.ensures.len) c.deref_mut.ensures.value c.bar_files.ensures in
    rw (c.of.ensures ∙ written) (bars_rise c.args.map.now.meaning items c.in_ok-states.ensures.rising)

pub of-requires-2-clause-below : goal.of-requires-2-clause-below
of-requires-2-clause-below g c =
    let items = c.in_ok-states.states.items in
    let m = c.args.map.now.meaning in
    let written = lent_back items c.deref_mut.result.now c.bar_files.new.states c.in_ok-states.states.len (barred_in m) (c.bar_files.auto.states ∙ c.deref_mut.ensures.len) c.deref_mut.ensures.value c.bar_files.ensures in
    let e = c.in_ok-states.ensures in
    let found = found_files m (g.D.Disk.history c.args.disk.now) c.deref.result.now items (λ n r. subst (λ (ns : List ℕ). Contains ns n) (sym c.deref.ensures.value) (c.in_ok-numbers.ensures.regions n r))
    (λ n s. subst (λ (ns : List ℕ). Contains ns n) (sym c.deref.ensures.value) (c.in_ok-numbers.ensures.sealed n s)) e.rising e.only e.ends e.marks in
    rw (c.of.ensures ∙ written, c.highest.ensures) (files_below m (g.D.Disk.history c.args.disk.now) (map (barred_in m) items) c.requires.highest found)

pub returns-clause-found : goal.returns-clause-found
returns-clause-found g c =
    let items = c.in_ok-states.states.items in
    let m = c.args.map.now.meaning in
    let written = lent_back items c.deref_mut.result.now c.bar_files.new.states c.in_ok-states.states.len (barred_in m) (c.bar_files.auto.states ∙ c.deref_mut.ensures.len) c.deref_mut.ensures.value c.bar_files.ensures in
    let e = c.in_ok-states.ensures in
    let found = found_files m (g.D.Disk.history c.args.disk.now) c.deref.result.now items (λ n r. subst (λ (ns : List ℕ). Contains ns n) (sym c.deref.ensures.value) (c.in_ok-numbers.ensures.regions n r))
    (λ n s. subst (λ (ns : List ℕ). Contains ns n) (sym c.deref.ensures.value) (c.in_ok-numbers.ensures.sealed n s)) e.rising e.only e.ends e.marks in
    let value : Highest → FilesValue = λ h. record { files = map file_found c.of.result; highest = h.file; spare = 0 } in
    record {
      states = c.of.result;
      found = subst (AreFilesFound m (g.D.Disk.history c.args.disk.now)) (sym (c.of.ensures ∙ written)) found;
      is = c.in_ok-files.ensures ∙ ap value c.highest.ensures;
    }
