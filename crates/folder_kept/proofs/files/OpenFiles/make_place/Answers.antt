use Rattle.std.proofs.Common.{◌≡◌, true, ◌<◌, length, List, Option, IfSome, sym, subst}
use Rattle.std.specs.List.{HoldsAt}
use Rattle.folder_kept.specs.Open.{AreAmong, HaveOwnIds, KeepsUnsynced}
use Rattle.folder_kept.proofs.OpenLemmas.{removed_among, removed_keeps, removed_own}
use Rattle.folder_kept.proofs.files.OpenFiles.make_place.Goals as goal

pub returns-in-Some-clause-same : goal.returns-in-Some-clause-same
returns-in-Some-clause-same g c =
    let files = c.args.self.now.files.items in
    let F : Option _ → Type 0 = λ r. IfSome r (λ at. (at < length files) × HoldsAt (λ file. file.is_synced ≡ true) files at) in
    let found = subst F c.in-Some.is c.first_synced.ensures.some in
    let P : List _ → Type 0 = λ l. AreAmong files l in
    subst P (sym c.remove.ensures.items) (removed_among files c.in-Some.at found.0)

pub returns-in-Some-clause-keeps : goal.returns-in-Some-clause-keeps
returns-in-Some-clause-keeps g c =
    let files = c.args.self.now.files.items in
    let F : Option _ → Type 0 = λ r. IfSome r (λ at. (at < length files) × HoldsAt (λ file. file.is_synced ≡ true) files at) in
    let found = subst F c.in-Some.is c.first_synced.ensures.some in
    let P : List _ → Type 0 = λ l. KeepsUnsynced (λ file. ⊥) files l in
    subst P (sym c.remove.ensures.items) (removed_keeps files c.in-Some.at found.0 found.1)

pub invariant_of-self-clause-apart : goal.invariant_of-self-clause-apart
invariant_of-self-clause-apart g c =
    let files = c.args.self.now.files.items in
    let F : Option _ → Type 0 = λ r. IfSome r (λ at. (at < length files) × HoldsAt (λ file. file.is_synced ≡ true) files at) in
    let found = subst F c.in-Some.is c.first_synced.ensures.some in
    let P : List _ → Type 0 = λ l. HaveOwnIds c.args.self.now.next_id l in
    subst P (sym c.remove.ensures.items) (removed_own files c.in-Some.at c.args.self.now.next_id found.0 c.args.self.now.apart)
