use Rattle.std.proofs.Common.{◌≡◌, ◌+◌, ◌≤◌, ℕ, Bool, true, false, cond, refl, List, length, take, sym, ◌∙◌, ap, subst, arith}
use Rattle.std.proofs.lemmas.List.{take_all, length-take-le}
use Rattle.disk_model.specs.Name.{same_name}
use Rattle.disk_mem.specs.declared.note.Note.{Note}
use Rattle.disk_mem.specs.Marking.{AreMarks}
use Rattle.disk_mem.specs.Record.{file_after}
use Rattle.disk_mem.proofs.FollowingLemmas.{marks_push, take-next, moved}
use Rattle.disk_mem.proofs.marks.marks_of.Goals as goal

marks_within : (b : Bool) (n i m : ℕ) → m ≡ cond b (i + 1) n → n ≤ i → m ≤ i + 1
marks_within true n i m e below = omega arith
marks_within false n i m e below = omega arith

pub loop-i-preserved : goal.loop-i-preserved
loop-i-preserved c = (
  marks_within _ _ _ _ c.follow.ensures.settled c.loop-i.invariant.0,
  λ f there firm.
      let notes = c.args.notes.now in
      let i = c.loop-i.i in
      let note = c.index-notes-i.result in
      let is = c.loop-i.invariant.1 f there firm in
      let long : length (take i notes) ≡ i = length-take-le i notes (omega arith) in
      let F : List Note → Type 0 = λ front. AreMarks c.args.name front f c.follow.new.self in
      let own : c.is_named.result ≡ same_name c.args.name note.name = c.is_named.ensures in
      subst F (sym (take-next notes i note c.loop-i-test.true c.index-notes-i.is))
      (marks_push c.args.name (take i notes) note f c.loop-i.marks c.follow.new.self is
      (ap (λ b. (moved note.change b (file_after c.args.name (take i notes) f)).is_there) (sym own) ∙ c.follow.ensures.there (file_after c.args.name (take i notes) f) is.there)
      c.follow.ensures.was
      (c.follow.ensures.settled ∙ (rw (own, long) refl))),
)

pub returns-clause-marks : goal.returns-clause-marks
returns-clause-marks c = λ f there firm.
    let F : List Note → Type 0 = λ notes. AreMarks c.args.name notes f c.loop-i.marks in
    subst F (take_all c.loop-i.i c.args.notes.now c.loop-i-test.false) (c.loop-i.invariant.1 f there firm)
