use Rattle.std.specs.Prelude.{◌≡◌, ℕ, None}
use Rattle.std.proofs.Common.{subst}
use Rattle.model_attach.specs.Rejoined.{join_error}
use Rattle.model_attach.proofs.RejoinedLemmas.{whole_accepted}
use Rattle.model_store.proofs.stands.kept_messages_rejoin.Goals as goal

pub returns : goal.returns
returns c image row octets kept fits =
    subst (λ (size : ℕ). join_error kept.stored.message.body size kept.stored.meta.refs kept.instances ≡ None) kept.size
    (whole_accepted octets kept.stored.message.body kept.stored.meta.refs kept.instances kept.whole fits)
