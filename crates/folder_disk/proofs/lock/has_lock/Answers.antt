use Rattle.folder_disk.proofs.Common.{◌≡◌, Bool, true, false, ℕ, List, [], ◌∷◌, ◌++◌, Option, Ok, Err, map, string_bytes, refl, sym, ◌∙◌, ap, subst}
use Rattle.folder_disk.proofs.UnseenLemmas.{unseen_same, unseen_then, locked_unseen, refused_unseen}
use Rattle.folder_disk.proofs.lock.has_lock.Goals as goal

pub loop-init : goal.loop-init
loop-init g c = unseen_same false (g.F.Folder.modelled c.args.folder.now) (g.F.Folder.modelled c.args.folder.now) (g.F.Folder.past c.args.folder.now) (g.F.Folder.past c.args.folder.now) refl refl

pub returns-in-Ok-true-clause-unseen : goal.returns-in-Ok-true-clause-unseen
returns-in-Ok-true-clause-unseen g c =
    unseen_then false (g.F.Folder.modelled c.args.folder.now) (g.F.Folder.modelled c.loop.folder) (g.F.Folder.modelled c.try_lock.new.self) (g.F.Folder.past c.args.folder.now) (g.F.Folder.past c.loop.folder) (g.F.Folder.past c.try_lock.new.self) (c.loop.invariant) (locked_unseen (g.F.Folder.modelled c.loop.folder) (g.F.Folder.modelled c.try_lock.new.self) (g.F.Folder.past c.loop.folder) (g.F.Folder.past c.try_lock.new.self) (c.in-Ok-true.ensures.locked c.in-Ok-true.field-0-test) c.try_lock.ensures.passed)

pub returns-in-Err-Interrupted-clause-unseen : goal.returns-in-Err-Interrupted-clause-unseen
returns-in-Err-Interrupted-clause-unseen g c =
    unseen_then false (g.F.Folder.modelled c.args.folder.now) (g.F.Folder.modelled c.loop.folder) (g.F.Folder.modelled c.try_lock.new.self) (g.F.Folder.past c.args.folder.now) (g.F.Folder.past c.loop.folder) (g.F.Folder.past c.try_lock.new.self) (c.loop.invariant) (refused_unseen (g.F.Folder.modelled c.loop.folder) (g.F.Folder.modelled c.try_lock.new.self) (g.F.Folder.past c.loop.folder) (g.F.Folder.past c.try_lock.new.self) c.in-Err-Interrupted.ensures.failed c.try_lock.ensures.passed)

pub loop-preserved : goal.loop-preserved
loop-preserved g c =
    unseen_then false (g.F.Folder.modelled c.args.folder.now) (g.F.Folder.modelled c.try_lock.new.self) (g.F.Folder.modelled c.pause.new.self) (g.F.Folder.past c.args.folder.now) (g.F.Folder.past c.try_lock.new.self) (g.F.Folder.past c.pause.new.self) (unseen_then false (g.F.Folder.modelled c.args.folder.now) (g.F.Folder.modelled c.loop.folder) (g.F.Folder.modelled c.try_lock.new.self) (g.F.Folder.past c.args.folder.now) (g.F.Folder.past c.loop.folder) (g.F.Folder.past c.try_lock.new.self) (c.loop.invariant) (refused_unseen (g.F.Folder.modelled c.loop.folder) (g.F.Folder.modelled c.try_lock.new.self) (g.F.Folder.past c.loop.folder) (g.F.Folder.past c.try_lock.new.self) (c.in-Ok-false.ensures.refused c.in-Ok-false.field-0-test) c.try_lock.ensures.passed)) (unseen_same false (g.F.Folder.modelled c.try_lock.new.self) (g.F.Folder.modelled c.pause.new.self) (g.F.Folder.past c.try_lock.new.self) (g.F.Folder.past c.pause.new.self) c.pause.ensures.same c.pause.ensures.still)
