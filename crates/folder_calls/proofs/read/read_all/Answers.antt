use Rattle.std.proofs.Common.{◌≡◌, ◌-◌, ◌≤◌, ℕ, length, sym, ◌∙◌, subst, arith, rules}
use Rattle.folder_model.specs.Calls.{IfSound}
use Rattle.folder_calls.proofs.ReadLemmas.{IsFilled, reads-step, reads-again, length-filled}
use Rattle.std.proofs.lemmas.List.{places}
use borrow.Rule.Slice.PartMut.{put_mid}
use Rattle.folder_calls.proofs.read.read_all.Goals as goal
use Rattle.folder_calls.proofs.read.read_all.Goals.{in-Ok, in-Err-Interrupted}

pub loop-preserved : goal.loop-preserved
loop-preserved g c =
    let number = g.F.Folder.number c.args.file.now in
    let i = c.loop.invariant in
    let m = g.F.Folder.modelled c.args.folder.now in
    let part = c.read_some.new.into in
    let all = put_mid c.loop.done (length c.loop.into - c.loop.done) c.loop.into part in
    let F : ℕ → Type 0 = λ k. IfSound m (IsFilled number c.args.offset k all) in
    let long : length part ≡ length c.loop.into - c.loop.done = search (rules, places) in
    let whole : length all ≡ length c.loop.into = length-filled c.loop.done c.loop.into part i.0 long in
    elim c.match-read_some.branch [
      | in-Ok w ↦
          let h = w.in-Ok in
          let is = w.done-is in
          let count : h.count ≤ length part = h.ensures.count in (
            omega (arith, whole, long, count, is),
            omega (arith, whole),
            h.ensures.same ∙ i.2,
            h.ensures.still ∙ i.3,
            subst F (sym is) (reads-step number c.args.offset c.loop.done h.count c.loop.into part m (g.F.Folder.modelled c.loop.folder) i.0 count i.2 i.4 h.ensures.octets),
          )
      | in-Err-Interrupted w ↦
          let h = w.in-Err-Interrupted in
          let is = w.done-is in (
            omega (arith, whole, is),
            omega (arith, whole),
            h.ensures.same ∙ i.2,
            h.ensures.still ∙ i.3,
            subst F (sym is) (reads-again number c.args.offset c.loop.done c.loop.into part m i.0 i.4),
          )
    ]
