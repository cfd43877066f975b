use Rattle.purge_task.proofs.Common.{ap, refl, subst, sym, ◌+◌, ◌∙◌, ◌≡◌, SameButFor, IfTold, reading, FileNo, is_emptied_in, pins_in, IsNextStage, Work, StoreValue}
use Rattle.std.specs.Prelude.{drop, None}
use Rattle.disk_model.specs.declared.name.FileName.TheVariants as file
use Rattle.purge_task.specs.declared.task.PurgeStage.TheVariants as stage
use Rattle.purge_task.proofs.DropLemmas.{next_begun}
use Rattle.purge_task.proofs.BareCallLemmas.{bare_one, bare_says, bare_unpinned, emptied_ends, emptied_file}
use Rattle.purge_task.proofs.FurtherLemmas.{further_bare}
use Rattle.purge_task.proofs.GoneCallLemmas.{failed_says}
use Rattle.purge_task.proofs.RemovalCallLemmas.{removed_as}
use Rattle.purge_task.proofs.QuietCallLemmas.{bare_quiet}
use Rattle.purge_task.proofs.task.remove_bare.Goals as goal

pub remove_file-requires-clause-there : goal.remove_file-requires-clause-there
remove_file-requires-clause-there g c =
    let s = c.in-Some.ensures.some in
    let one = bare_one c.args.work s.0 (drop (c.args.work.next + 1) c.args.work.sources.items) c.args.store.now (g.D.Disk.history c.args.store.now.disk) s.1 c.requires.ready c.requires.bare in
    emptied_ends c.in-Some.source.file.0 c.args.store.now.files.files (emptied_file c.in-Some.source.file.0 c.args.store.now.files.files c.facts.ensures.files.used (ap (λ (f : FileNo). is_emptied_in f.0 c.args.store.now.files.files) s.2.0 ∙ one.emptied))

pub remove_file-requires-clause-unpinned : goal.remove_file-requires-clause-unpinned
remove_file-requires-clause-unpinned g c =
    let s = c.in-Some.ensures.some in
    let one = bare_one c.args.work s.0 (drop (c.args.work.next + 1) c.args.work.sources.items) c.args.store.now (g.D.Disk.history c.args.store.now.disk) s.1 c.requires.ready c.requires.bare in
    ap (λ (f : FileNo). pins_in f.0 c.args.store.now.files.files) s.2.0
    ∙ bare_unpinned s.0.file.0 c.args.store.now.files.files c.args.store.now.map.records (emptied_file s.0.file.0 c.args.store.now.files.files c.facts.ensures.files.used one.emptied) c.facts.ensures.store.files.pinned one.elsewhere

pub returns-in-Ok-clause-step : goal.returns-in-Ok-clause-step
returns-in-Ok-clause-step g c t at =
    let s = c.in-Some.ensures.some in
    let one = bare_one c.args.work s.0 (drop (c.args.work.next + 1) c.args.work.sources.items) c.args.store.now (g.D.Disk.history c.args.store.now.disk) s.1 c.requires.ready c.requires.bare in
    bare_says g.D.Disk.history g.D.Disk.faults t _ c.args.work s.0 (drop (c.args.work.next + 1) c.args.work.sources.items) c.args.store.now c.remove_file.new.self at
    (subst (λ (w : Work). IsNextStage w c.goes_on.result) c.go_on.ensures c.goes_on.ensures) refl refl refl refl c.requires.running one c.facts.ensures.files c.facts.ensures.store.files.highest c.facts.ensures.store.files.pinned c.in-Ok.ensures.any_moment c.in-Ok.ensures.mail_stays c.in-Ok.ensures.settled
    (subst (λ (f : FileNo). SameButFor (file.Mail f.0) (g.D.Disk.history c.args.store.now.disk) (g.D.Disk.history c.remove_file.new.self.disk)) s.2.0 c.in-Ok.ensures.others) (removed_as c.in-Some.source.file s.0.file c.args.store.now c.remove_file.new.self s.2.0 c.in-Ok.ensures.ok) c.in-Ok.ensures.grows c.in-Ok.ensures.unfailed c.facts.ensures.store

pub returns-in-Ok-clause-further : goal.returns-in-Ok-clause-further
returns-in-Ok-clause-further g c =
    let s = c.in-Some.ensures.some in
    further_bare c.args.work s.0 (drop (c.args.work.next + 1) c.args.work.sources.items) c.goes_on.result s.1 (subst (λ (w : Work). IsNextStage w c.goes_on.result) c.go_on.ensures c.goes_on.ensures)

pub returns-in-Err-clause-step : goal.returns-in-Err-clause-step
returns-in-Err-clause-step g c t at =
    failed_says g.D.Disk.history g.D.Disk.faults t _ c.args.store.now c.remove_file.new.self refl c.requires.running c.in-Err.ensures.any_moment c.in-Err.ensures.mail_stays c.in-Err.ensures.err c.in-Err.ensures.grows _ refl c.in-Err.ensures.fault (λ begins. let e : stage.Begin c.args.work ≡ stage.First = sym at ∙ begins in cc e)

pub returns-in-Ok-clause-map : goal.returns-in-Ok-clause-map
returns-in-Ok-clause-map g c = ap (λ (s : StoreValue _). s.map) c.in-Ok.ensures.ok

pub returns-in-Err-clause-map : goal.returns-in-Err-clause-map
returns-in-Err-clause-map g c = ap (λ (s : StoreValue _). s.map) c.in-Err.ensures.err

pub returns-in-Ok-clause-begun : goal.returns-in-Ok-clause-begun
returns-in-Ok-clause-begun g c = next_begun _ c.goes_on.result c.goes_on.ensures

pub returns-in-Ok-clause-quiet : goal.returns-in-Ok-clause-quiet
returns-in-Ok-clause-quiet g c t at =
    let s = c.in-Some.ensures.some in
    let one = bare_one c.args.work s.0 (drop (c.args.work.next + 1) c.args.work.sources.items) c.args.store.now (g.D.Disk.history c.args.store.now.disk) s.1 c.requires.ready c.requires.bare in
    bare_quiet g.D.Disk.history t c.args.work c.goes_on.result s.0 (drop (c.args.work.next + 1) c.args.work.sources.items) c.args.store.now c.remove_file.new.self at c.facts.ensures.store c.facts.ensures.files one (subst (λ (w : Work). IsNextStage w c.goes_on.result) c.go_on.ensures c.goes_on.ensures)
    (subst (λ (f : FileNo). SameButFor (file.Mail f.0) (g.D.Disk.history c.args.store.now.disk) (g.D.Disk.history c.remove_file.new.self.disk)) s.2.0 c.in-Ok.ensures.others) (subst (λ (f : FileNo). IfTold (g.D.Disk.history c.remove_file.new.self.disk) (λ now. reading (now (file.Mail f.0)) ≡ None)) s.2.0 c.in-Ok.ensures.gone)
    (ap (λ (s : StoreValue _). s.map) c.in-Ok.ensures.ok) (λ runs. ((returns-in-Ok-clause-step g c t at).claims runs).moves)

pub returns-in-Err-clause-quiet : goal.returns-in-Err-clause-quiet
returns-in-Err-clause-quiet g c t at = tt
