use Rattle.std.proofs.Common.{◌≡◌, ◌+◌, ◌-◌, ◌<◌, ◌≤◌, ℕ, length, take, drop, List, Err, sym, ◌∙◌, ap, subst, arith, All, Fits, w8, get_or}
use Rattle.std.proofs.lemmas.List.{take_all}
use Rattle.std.proofs.lemmas.List.Elements.{All-from_get_or}
use Rattle.disk_model.specs.Disk.{written}
use Rattle.folder_model.specs.System.{with_content}
use Rattle.folder_model.specs.Calls.{done_by}
use Rattle.folder_model.proofs.WriteLemmas.{writes-begin, writes-step, writes-stop, writes-fail, length-take-drop}
use Rattle.folder_model.proofs.PastLemmas.{since-none}
use Rattle.folder_calls.proofs.WayLemmas.{way-goes_on}
use Rattle.folder_calls.proofs.write.write_all.Goals as goal
use Rattle.folder_calls.proofs.write.write_all.Goals.{in-Ok, in-Err-Interrupted}

-- octets of a slice
fitting : (octets : List ℕ) → ((i : ℕ) → Fits w8 (get_or octets i 0)) → All (λ octet. octet < 256) octets
fitting octets fits = All-from_get_or (λ octet. octet < 256) octets 0 (λ k below. let f : Fits w8 (get_or octets k 0) = fits k in omega arith)

pub loop-init : goal.loop-init
loop-init g c = (
  omega arith,
  omega arith,
  writes-begin (g.F.Folder.number c.args.file.now) c.args.offset (g.F.Folder.modelled c.args.folder.now)
      (g.met.F.Folder.is_system c.args.folder.now) c.requires.reaches,
  since-none _ (g.F.Folder.past c.args.folder.now),
)

pub returns-then-done-from-clause-wrote : goal.returns-then-done-from-clause-wrote
returns-then-done-from-clause-wrote g c =
    let i = c.loop.invariant in
    let F : List ℕ → Type 0 = λ l. g.F.Folder.modelled c.loop.folder ≡ done_by (with_content (g.F.Folder.number c.args.file.now) (written c.args.offset l)) (g.F.Folder.modelled c.args.folder.now) in
    subst F (take_all c.loop.done c.args.from.now (omega arith)) i.2

pub loop-preserved : goal.loop-preserved
loop-preserved g c =
    let number = g.F.Folder.number c.args.file.now in
    let i = c.loop.invariant in
    elim c.match-write_some.branch [
      | in-Ok w ↦
          let h = w.in-Ok in
          let within : h.count ≤ length (take (length c.args.from.now - c.loop.done) (drop c.loop.done c.args.from.now)) = h.ensures.count in
          let left = length-take-drop c.args.from.now c.loop.done in
          let is = w.done-is in (
            omega (arith, within, left, is),
            omega arith,
            let F : ℕ → Type 0 = λ k. g.F.Folder.modelled c.write_some.new.self ≡ done_by (with_content number (written c.args.offset (take k c.args.from.now))) (g.F.Folder.modelled c.args.folder.now) in
                subst F (sym is) (writes-step number c.args.offset c.loop.done h.count c.args.from.now (g.F.Folder.modelled c.args.folder.now) (g.F.Folder.modelled c.loop.folder) (g.F.Folder.modelled c.write_some.new.self) i.0 c.requires.reaches i.2 h.ensures.wrote),
            way-goes_on number c.args.offset c.loop.done c.args.from.now (g.F.Folder.modelled c.args.folder.now) (g.F.Folder.modelled c.loop.folder) (g.F.Folder.modelled c.write_some.new.self)
                (g.F.Folder.past c.args.folder.now) (g.F.Folder.past c.loop.folder) (g.F.Folder.past c.write_some.new.self) i.0 i.2 i.3 h.ensures.passed,
          )
      | in-Err-Interrupted w ↦
          let h = w.in-Err-Interrupted in
          let is = w.done-is in (
            omega arith,
            omega arith,
            let F : ℕ → Type 0 = λ k. g.F.Folder.modelled c.write_some.new.self ≡ done_by (with_content number (written c.args.offset (take k c.args.from.now))) (g.F.Folder.modelled c.args.folder.now) in
                subst F (sym is) (h.ensures.interrupted (ap Err h.field-0-is) ∙ i.2),
            way-goes_on number c.args.offset c.loop.done c.args.from.now (g.F.Folder.modelled c.args.folder.now) (g.F.Folder.modelled c.loop.folder) (g.F.Folder.modelled c.write_some.new.self)
                (g.F.Folder.past c.args.folder.now) (g.F.Folder.past c.loop.folder) (g.F.Folder.past c.write_some.new.self) i.0 i.2 i.3 h.ensures.passed,
          )
    ]

pub returns-in-Ok-eq0-clause-failed : goal.returns-in-Ok-eq0-clause-failed
returns-in-Ok-eq0-clause-failed g c =
    let i = c.loop.invariant in
    let number = g.F.Folder.number c.args.file.now in
    let old = g.F.Folder.modelled c.args.folder.now in
    let fit = fitting c.args.from.now c.type_inv.from in
    writes-stop number c.args.offset (c.loop.done + c.in-Ok-eq0.field-0) c.args.from.now old (g.F.Folder.modelled c.write_some.new.self) fit
    (g.met.F.Folder.is_system c.args.folder.now) c.requires.reaches
    (writes-step number c.args.offset c.loop.done c.in-Ok-eq0.field-0 c.args.from.now old (g.F.Folder.modelled c.loop.folder) (g.F.Folder.modelled c.write_some.new.self)
    i.0 c.requires.reaches i.2 c.in-Ok-eq0.ensures.wrote)

pub returns-in-Err-Failed-clause-failed : goal.returns-in-Err-Failed-clause-failed
returns-in-Err-Failed-clause-failed g c =
    let i = c.loop.invariant in
    let number = g.F.Folder.number c.args.file.now in
    let old = g.F.Folder.modelled c.args.folder.now in
    let fit = fitting c.args.from.now c.type_inv.from in
    writes-fail number c.args.offset c.loop.done c.args.from.now old (g.F.Folder.modelled c.loop.folder) (g.F.Folder.modelled c.write_some.new.self) i.0 fit
    (g.met.F.Folder.is_system c.args.folder.now) c.requires.reaches i.2 c.in-Err-Failed.ensures.failed

pub returns-clause-failed : goal.returns-clause-failed
returns-clause-failed g c =
    let i = c.loop.invariant in
    let fit = fitting c.args.from.now c.type_inv.from in
    writes-stop (g.F.Folder.number c.args.file.now) c.args.offset c.loop.done c.args.from.now (g.F.Folder.modelled c.args.folder.now) (g.F.Folder.modelled c.loop.folder) fit
    (g.met.F.Folder.is_system c.args.folder.now) c.requires.reaches i.2

pub returns-in-Ok-eq0-clause-passed : goal.returns-in-Ok-eq0-clause-passed
returns-in-Ok-eq0-clause-passed g c =
    let i = c.loop.invariant in
    way-goes_on (g.F.Folder.number c.args.file.now) c.args.offset c.loop.done c.args.from.now (g.F.Folder.modelled c.args.folder.now) (g.F.Folder.modelled c.loop.folder)
    (g.F.Folder.modelled c.write_some.new.self) (g.F.Folder.past c.args.folder.now) (g.F.Folder.past c.loop.folder) (g.F.Folder.past c.write_some.new.self) i.0 i.2 i.3 c.in-Ok-eq0.ensures.passed

pub returns-in-Err-Failed-clause-passed : goal.returns-in-Err-Failed-clause-passed
returns-in-Err-Failed-clause-passed g c =
    let i = c.loop.invariant in
    way-goes_on (g.F.Folder.number c.args.file.now) c.args.offset c.loop.done c.args.from.now (g.F.Folder.modelled c.args.folder.now) (g.F.Folder.modelled c.loop.folder)
    (g.F.Folder.modelled c.write_some.new.self) (g.F.Folder.past c.args.folder.now) (g.F.Folder.past c.loop.folder) (g.F.Folder.past c.write_some.new.self) i.0 i.2 i.3 c.in-Err-Failed.ensures.passed
