use Rattle.std.proofs.Common.{◌≡◌, ◌<◌, ◌∙◌, ℕ, List, Fits, w8, get_or, subst, ap, arith}
use Rattle.std.proofs.lemmas.List.Elements.{All-from_get_or}
use Rattle.disk_model.specs.Disk.{written}
use Rattle.folder_model.specs.System.{with_content}
use Rattle.folder_model.specs.Calls.{done_by}
use Rattle.folder_model.proofs.WriteLemmas.{writes-stop}
use Rattle.folder_mem.specs.Mem.{mem_model}
use Rattle.folder_mem.specs.SystemLaw.{system_is}
use Rattle.folder_mem.proofs.calls.MemFolderFolder.write_some.Goals as goal

pub returns-in-Broken-clause-failed : goal.returns-in-Broken-clause-failed
returns-in-Broken-clause-failed c =
    let number = c.args.file.now.number in
    let old = mem_model c.args.self.now in
    let from = c.args.from.now in
    let so = c.in_ok-note.ensures.ok ∙ ap (done_by (with_content number (written c.args.offset c.in_ok-text.text.octets.items))) c.begin.ensures.model in
    let F : List ℕ → Type 0 = λ l. mem_model c.note.new.self ≡ done_by (with_content number (written c.args.offset l)) old in
    writes-stop number c.args.offset c.match-turn.count from old (mem_model c.note.new.self)
    (All-from_get_or (λ octet. octet < 256) from 0 (λ k below. let f : Fits w8 (get_or from k 0) = c.type_inv.from k in omega arith))
    (system_is c.args.self.now.changes.items) c.requires.reaches (subst F c.in_ok-text.ensures so)
