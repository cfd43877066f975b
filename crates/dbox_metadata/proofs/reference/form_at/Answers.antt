use Rattle.std.proofs.Common.{sym, ◌∙◌}
use Rattle.model_storage.proofs.ReferenceLemmas.{until_same}
use Rattle.model_storage.specs.References.{options_text}
use Rattle.dbox_metadata.proofs.OptionLemmas.{options_no_space}
use Rattle.dbox_metadata.proofs.reference.form_at.Goals as goal

pub returns-in_err-form_of-clause-none : goal.returns-in_err-form_of-clause-none
returns-in_err-form_of-clause-none c =
    rw c.from_residual-in_err-form_of.ensures (λ form behind fits e.
    let r = until_same 32 c.in_ok-options.options.now (options_text form) c.in_ok-options.rest.now behind c.in_ok-options.ensures.some.1 (options_no_space form fits) (sym c.in_ok-options.ensures.some.0 ∙ e) in
    c.in_err-form_of.ensures.none form fits r.0)
