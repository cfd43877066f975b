use Rattle.std.proofs.Common.{rules}
use borrow.Author.Tests.{tests}
use Rattle.folder_kept.proofs.OpenLemmas.{filtered_among, filtered_keeps, filtered_own}
use Rattle.folder_kept.proofs.files.OpenFiles.close_synced.Goals as goal

pub returns-clause-same : goal.returns-clause-same
returns-clause-same g c = filtered_among _ _ _ _ c.retain.ensures.filtered

pub returns-clause-keeps : goal.returns-clause-keeps
returns-clause-keeps g c = filtered_keeps _ (λ file. ⊥) _ _ _ (λ x f' called u. search (rules, tests)) (λ x b f' called. search (rules, tests)) c.retain.ensures.filtered

pub invariant_of-self-clause-apart : goal.invariant_of-self-clause-apart
invariant_of-self-clause-apart g c = filtered_own _ _ _ _ _ c.retain.ensures.filtered c.args.self.now.apart
