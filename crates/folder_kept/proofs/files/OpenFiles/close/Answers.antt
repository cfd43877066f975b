use Rattle.std.proofs.Common.{rules, ◌≡◌, ◌≢◌, string_bytes}
use borrow.Author.Tests.{tests}
use Rattle.std.proofs.lemmas.Fn.{All-from_retain}
use Rattle.folder_kept.proofs.OpenLemmas.{filtered_among, filtered_keeps, filtered_own}
use Rattle.folder_kept.proofs.files.OpenFiles.close.Goals as goal

pub returns-clause-closed : goal.returns-clause-closed
returns-clause-closed g c = All-from_retain _ (λ file. string_bytes file.path ≢ c.args.path.now) _ (λ x b f' called. search (rules, tests)) _ _ c.retain.ensures.filtered

pub returns-clause-same : goal.returns-clause-same
returns-clause-same g c = filtered_among _ _ _ _ c.retain.ensures.filtered

pub returns-clause-keeps : goal.returns-clause-keeps
returns-clause-keeps g c = filtered_keeps _ (λ file. string_bytes file.path ≡ c.args.path.now) _ _ _ (λ x f' called u. search (rules, tests)) (λ x b f' called. search (rules, tests)) c.retain.ensures.filtered

pub invariant_of-self-clause-apart : goal.invariant_of-self-clause-apart
invariant_of-self-clause-apart g c = filtered_own _ _ _ _ _ c.retain.ensures.filtered c.args.self.now.apart
