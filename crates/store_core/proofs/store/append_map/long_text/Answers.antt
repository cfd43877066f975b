use Rattle.store_core.proofs.Common.{◌≡◌, ◌∙◌, length, ap, subst, arith}
use Rattle.mdbox_base.specs.Words.{IsOctets}
use Rattle.store_core.proofs.InstanceNumberLemmas.{ids_in_text, ids_if_short, written_over}
use Rattle.store_core.proofs.store.append_map.long_text.Goals as goal

pub returns-then-size-le-SHORT-clause-ids : goal.returns-then-size-le-SHORT-clause-ids
returns-then-size-le-SHORT-clause-ids c = ids_if_short c.args.entry.now c.requires (omega (arith, c.map_entry_size-size.ensures, c.if-size-le-SHORT.true))

pub returns-clause-ids : goal.returns-clause-ids
returns-clause-ids c =
    let written = ap length c.put_map_entry.ensures in
    let long : length c.put_map_entry.new.into ≡ c.in_ok-text.text.len = omega (arith, written, c.map_entry_size-size.ensures, c.in_ok-text.ensures.len) in
    ids_in_text c.args.entry.now (subst IsOctets (c.deref.ensures.value ∙ written_over c.in_ok-text.text.items c.put_map_entry.new.into c.in_ok-text.text.len long ∙ c.put_map_entry.ensures) c.known_octets.ensures)
