use Rattle.std.proofs.Common.{sym, ◌∙◌}
use Rattle.mdbox_top.proofs.BackLemmas.{tells_checked, tells_nothing}
use Rattle.mdbox_top.proofs.back.read_back.Goals as goal

pub returns-in-Ok-told_rows-clause-told : goal.returns-in-Ok-told_rows-clause-told
returns-in-Ok-told_rows-clause-told g c = tells_checked c.in-Ok.checked _ _ c.in-Ok-told_rows.text c.safe_files_are_shown.ensures c.check_store.ensures.idle c.in-Ok.ensures.checked c.in-Ok-told_rows.ensures

pub returns-in-Err-NoStore-clause-told : goal.returns-in-Err-NoStore-clause-told
returns-in-Err-NoStore-clause-told g c = tells_nothing c.in-Err-NoStore.field-0 _ _ _ c.check_store.ensures.idle c.in-Err-NoStore.ensures.refused (λ e. cc (sym c.in-Err-NoStore.field-0-is ∙ e)) (λ e. cc (sym c.in-Err-NoStore.field-0-is ∙ e))

pub returns-clause-told : goal.returns-clause-told
returns-clause-told g c = tells_nothing c.in-Err-Damaged.field-0 _ _ _ c.check_store.ensures.idle c.in-Err-Damaged.ensures.refused (λ e. cc (sym c.in-Err-Damaged.field-0-is ∙ e)) (λ e. cc (sym c.in-Err-Damaged.field-0-is ∙ e))
