use Rattle.std.proofs.Common.{rules, ◌≡◌, true, false}
use borrow.Author.Tests.{tests}
use Rattle.std.proofs.lemmas.Iterator.{IsFirst-from_position, YieldsList-from_slice}
use Rattle.folder_kept.proofs.OpenLemmas.{first_at}
use Rattle.folder_kept.proofs.files.OpenFiles.first_synced.Goals as goal

pub returns-clause-some : goal.returns-clause-some
returns-clause-some g c =
    first_at (λ file. file.is_synced ≡ true) (λ file. file.is_synced ≡ false) c.args.self.now.files.items c.position.result
    (IsFirst-from_position _ _ c.position.result (λ file. file.is_synced ≡ true) (λ file. file.is_synced ≡ false) c.position.ensures.ran (YieldsList-from_slice c.args.self.now.files.items cc)
    (λ x q k. search (rules, tests)) (λ x q k. search (rules, tests)))
