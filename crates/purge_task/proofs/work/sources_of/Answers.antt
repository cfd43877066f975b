use Rattle.purge_task.proofs.Common.{◌+◌, ◌∷◌, ◌++◌, [], List, false, take, sym, subst, AllZip, FoundFile, IsNewSource}
use Rattle.std.proofs.lemmas.List.{take_more}
use Rattle.purge_task.proofs.WorkLemmas.{zip_push}
use Rattle.purge_task.proofs.work.sources_of.Goals as goal

pub loop-found-preserved : goal.loop-found-preserved
loop-found-preserved c =
    let pushed = zip_push IsNewSource _ _ _ _ c.loop-found.invariant c.in_ok-source_of.ensures in
    let longer = take_more c.args.files.now c.loop-found.found-index (record { file = record { 0 = 0 }; is_wanted = false; messages = 0; octets = 0 }) c.loop-found-test.true in
    subst (AllZip IsNewSource (take (c.loop-found.found-index + 1) c.args.files.now)) (sym c.in_ok-push.ensures.items) (subst (λ (fs : List FoundFile). AllZip IsNewSource fs (c.loop-found.sources.items ++ c.in_ok-source_of.field-0 ∷ [])) (sym longer) pushed)
