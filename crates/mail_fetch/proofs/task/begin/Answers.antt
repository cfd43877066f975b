use Rattle.std.specs.Prelude.{◌==◌, true}
use Rattle.mail_fetch.proofs.Common.{list_any, ◌≡◌, ℕ, Some, All, sym, ◌∙◌, ap, subst, IsKnownRow, MovesClaims, no_claims, claims_of_pinned, with_claims, end_in, RegionValue, StoredAt}
use Rattle.mail_fetch.specs.declared.task.FetchStage.TheVariants as stage
use Rattle.mail_fetch.proofs.FirstEventLemmas.{pinned_left, pinned_region, pinned_rows}
use Rattle.mail_fetch.proofs.ReadyLemmas.{pinned_ready}
use Rattle.mail_fetch.proofs.task.begin.Goals as goal

pub claim-requires-clause-region : goal.claim-requires-clause-region
claim-requires-clause-region g c =
    subst (λ (from : StoredAt). list_any (λ row. row.file == from.file.0) c.args.store.now.map.records ≡ true) (sym c.from.ensures) (pinned_region c.args.store.now c.args.name.now c.args.uid.0 c.in-Ok.region c.in-Ok.ensures.pinned.1)

pub claim-requires-clause-known : goal.claim-requires-clause-known
claim-requires-clause-known g c =
    subst (λ (from : StoredAt). All (IsKnownRow c.args.store.now.instances.known) from.instances) (sym c.from.ensures) (pinned_rows _ c.args.store.now c.args.name.now c.args.uid.0 c.in-Ok.region c.facts.ensures.instances c.in-Ok.ensures.pinned.1)

pub returns-in-Ok-clause-there : goal.returns-in-Ok-clause-there
returns-in-Ok-clause-there g c = λ region is. let same : c.in-Ok.region ≡ region = cc is in subst (λ (r : RegionValue). (end : ℕ) × (end_in r.from.file.0 c.args.store.now.files.files ≡ Some end)) same c.in-Ok.ensures.there

pub returns-in-Err-clause-there : goal.returns-in-Err-clause-there
returns-in-Err-clause-there g c = λ region is. absurd (let k : stage.First ≡ stage.Reading region = is in cc k)

pub returns-in-Ok-clause-same : goal.returns-in-Ok-clause-same
returns-in-Ok-clause-same g c = c.claim.ensures.same ∙ ap (λ (from : StoredAt). with_claims from c.args.store.now) c.from.ensures

pub returns-in-Ok-clause-claims : goal.returns-in-Ok-clause-claims
returns-in-Ok-clause-claims g c = subst (λ (from : StoredAt). MovesClaims no_claims (claims_of_pinned from) c.args.store.now c.claim.new.store) c.from.ensures c.claim.ensures.claims

pub returns-in-Ok-clause-leaves : goal.returns-in-Ok-clause-leaves
returns-in-Ok-clause-leaves g c = c.claim.ensures.leaves no_claims

pub returns-in-Ok-clause-ready : goal.returns-in-Ok-clause-ready
returns-in-Ok-clause-ready g c =
    pinned_ready _ c.args.name.now c.args.uid.0 c.args.store.now c.claim.new.store c.in-Ok.region c.facts.ensures.instances (returns-in-Ok-clause-same g c) (returns-in-Ok-clause-claims g c) c.in-Ok.ensures.few c.in-Ok.ensures.pinned.1

pub returns-in-Ok-clause-left : goal.returns-in-Ok-clause-left
returns-in-Ok-clause-left g c = pinned_left _ c.args.store.now c.args.name.now c.args.uid.0 c.in-Ok.region c.facts.ensures.store c.in-Ok.ensures.pinned.1
