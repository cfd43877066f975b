use Rattle.mail_fetch.proofs.Common.{RegionValue, ◌≡◌, ℕ, Some, refl, sym, ◌∙◌, ap, LogRow, end_in}
use Rattle.std.specs.Prelude.{option_copied}
use Rattle.mail_fetch.proofs.FirstEventLemmas.{absent_by, some_end, has_record, none_told, told_is, stored_same, pinned_by, ok_mapped}
use Rattle.mail_fetch.proofs.first.find_message.Goals.{in_default-via-in-Some+in_default, in_default-via-in_default}
use Rattle.mail_fetch.proofs.first.find_message.Goals as goal

pub unreachable-requires : goal.unreachable-requires
unreachable-requires g c =
    let named = sym (rw c.in_ok-index.ensures.ok_part at c.list_of.ensures) in
    let listed = sym (rw c.in_ok-row.ensures.ok_part at c.find.ensures) in
    let has = has_record _ c.args.store.now c.args.name.now c.args.uid.0 _ _ c.facts.ensures.store named listed in
    elim c.in_default.branch [
      | in_default-via-in-Some+in_default w ↦ none_told _ c.args.store.now.map c.in_ok-row.row.now.map_uid.0 _ has.0 _ c.map-map.ensures has.1 c.instances.ensures (ap option_copied w.in_default.is-1)
      | in_default-via-in_default w ↦ none_told _ c.args.store.now.map c.in_ok-row.row.now.map_uid.0 _ has.0 _ c.map-map.ensures has.1 c.row.ensures w.in_default.is-0
    ]

pub returns-clause-pinned : goal.returns-clause-pinned
returns-clause-pinned g c =
    let named = sym (rw c.in_ok-index.ensures.ok_part at c.list_of.ensures) in
    let listed = sym (rw c.in_ok-row.ensures.ok_part at c.find.ensures) in
    let has = has_record _ c.args.store.now c.args.name.now c.args.uid.0 _ _ c.facts.ensures.store named listed in
    let entry = told_is _ c.args.store.now.map c.in_ok-row.row.now.map_uid.0 _ has.0 _ c.in-Some-Some.entry c.map-map.ensures has.1 c.row.ensures c.in-Some-Some.is-0 in
    let instances = told_is _ c.args.store.now.map c.in_ok-row.row.now.map_uid.0 _ has.0 _ c.in-Some-Some.instances.now c.map-map.ensures has.1 c.instances.ensures (ap option_copied c.in-Some-Some.is-1) in
    let row : LogRow = record { uid = c.in_ok-row.row.now.uid.0; flags = c.in_ok-row.row.now.flags; time = c.in_ok-row.row.now.time; size = c.in_ok-row.row.now.size; map_uid = c.in_ok-row.row.now.map_uid.0; guid = c.in_ok-row.row.now.guid.0; words = c.in_ok-row.row.now.words } in
    ok_mapped _ _ _ _ _ c.map_err.ensures.cases c.of.ensures.unread (λ region is.
    pinned_by c.args.store.now c.args.name.now c.args.uid.0 _ row has.0 _ region (sym c.stopped.ensures ∙ c.if-stopped.false) named listed has.1 has.2
    (stored_same c.in-Some-Some.entry _ c.in-Ok.instances _ row has.0 (λ e rows. record { file = e.file; offset = e.offset; size = e.size; guid = e.guid; listed = c.in_ok-row.row.now.size; instances = rows }) entry (c.in-Ok.ensures ∙ instances) refl) is)

pub returns-then-is_none-clause-refused : goal.returns-then-is_none-clause-refused
returns-then-is_none-clause-refused g c =
    let named = sym (rw c.in_ok-index.ensures.ok_part at c.list_of.ensures) in
    let listed = sym (rw c.in_ok-row.ensures.ok_part at c.find.ensures) in
    let has = has_record _ c.args.store.now c.args.name.now c.args.uid.0 _ _ c.facts.ensures.store named listed in
    let entry = told_is _ c.args.store.now.map c.in_ok-row.row.now.map_uid.0 _ has.0 _ c.in-Some-Some.entry c.map-map.ensures has.1 c.row.ensures c.in-Some-Some.is-0 in
    let row : LogRow = record { uid = c.in_ok-row.row.now.uid.0; flags = c.in_ok-row.row.now.flags; time = c.in_ok-row.row.now.time; size = c.in_ok-row.row.now.size; map_uid = c.in_ok-row.row.now.map_uid.0; guid = c.in_ok-row.row.now.guid.0; words = c.in_ok-row.row.now.words } in
    absent_by c.args.store.now c.args.name.now c.args.uid.0 _ row has.0 c.in-Some-Some.entry _ (λ e. e.file) (λ e. e.offset) c.from.result c.end_of.result (sym c.stopped.ensures ∙ c.if-stopped.false) named listed has.1 has.2 entry refl refl c.from.ensures c.if-is_none.ensures c.end_of.ensures

pub returns-clause-there : goal.returns-clause-there
returns-clause-there g c =
    let end = some_end c.end_of.result _ c.if-is_none.ensures c.end_of.ensures in
    ok_mapped _ _ _ (λ (region : RegionValue). (n : ℕ) × (end_in region.from.file.0 c.args.store.now.files.files ≡ Some n)) _ c.map_err.ensures.cases c.of.ensures.unread (λ region is. (end.0, ap (λ (r : RegionValue). end_in r.from.file.0 c.args.store.now.files.files) is ∙ end.1))
