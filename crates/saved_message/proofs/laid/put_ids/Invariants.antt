use Rattle.std.proofs.Common.{◌≡◌, ◌<◌, ℕ, List, get_or, length}
use Rattle.mdbox_base.specs.declared.entries.InstRow.{InstRow}
use Rattle.mdbox_base.specs.declared.ids.InstId.{InstId}
use Rattle.attach_detach.specs.declared.message.Detached.{Detached}
use Rattle.saved_message.specs.Laid.{AreSixteen}
use Rattle.saved_message.specs.References.{HasReferencesAt}
use Rattle.saved_message.proofs.IdLemmas.{IsSetTo}
use Rattle.saved_message.proofs.laid.put_ids.Given as goal

abbrev pub invariant-loop-index : goal.invariant-loop-index
invariant-loop-index l =
    ((front : List ℕ) (parts : List Detached) (ids : List InstId) (back : List ℕ) (mark : ℕ) → HasReferencesAt front parts ids back mark l.start l.sizes l.fn.region → length l.rows ≡ length parts → IsSetTo front parts ids back mark l.rows l.index l.at l.region)
    × ((k : ℕ) (d : InstRow) → k < l.index → AreSixteen (get_or l.rows k d).id.0)
