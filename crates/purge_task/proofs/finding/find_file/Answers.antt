use Rattle.purge_task.proofs.Common.{refl, sym, subst, idle-begins, IsCleanFile, MapMeaning, IsSoundMap, files_of, store_sound, AreContents}
use Rattle.purge_task.proofs.CleanLemmas.{found_file, may_be_emptied, told_not}
use Rattle.purge_task.proofs.finding.find_file.Goals as goal

pub returns-then-not-is_free-clause-idle : goal.returns-then-not-is_free-clause-idle
returns-then-not-is_free-clause-idle g c = idle-begins (g.D.Disk.history c.args.store.now.disk)

pub of-contents-requires : goal.of-contents-requires
of-contents-requires g c = subst IsSoundMap (sym c.map.ensures) (store_sound _ _ c.facts.ensures.store)

pub returns-clause-found : goal.returns-clause-found
returns-clause-found g c = (
  refl,
  may_be_emptied c.args.store.now.files.files c.args.file.0 c.is_free.result c.requires.there c.is_free.ensures c.if-not-is_free.false,
  found_file c.args.store.now.map _ c.of-contents.result (store_sound _ _ c.facts.ensures.store) (subst (λ (m : MapMeaning). AreContents m c.args.file.0 c.of-contents.result) c.map.ensures c.of-contents.ensures) refl refl refl,
  told_not (g.D.Disk.history c.args.store.now.disk) c.in_ok-is_clean.field-0 (λ now. IsCleanFile (files_of now) c.args.store.now.map c.args.file.0) c.in_ok-is_clean.ensures.clean c.if-branch.false,
)
