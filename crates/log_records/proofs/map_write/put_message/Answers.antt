use Rattle.std.proofs.Common.{◌∙◌, ◌≤◌, length, ap, sym, arith}
use Rattle.model_logs.specs.Entries.{map_text}
use Rattle.log_records.proofs.EntrySizeLemmas.{stored_size, stored_filled}
use Rattle.log_records.proofs.map_write.put_message.Goals as goal

pub put_instances-requires-clause-room : goal.put_instances-requires-clause-room
put_instances-requires-clause-room c =
    omega (
      arith,
      ap length c.as_slice.ensures,
      c.requires.size,
      stored_size c.args.entry.now _ _ _ _ _ _ _ _ c.in-S.is c.requires.range,
      c.put-place.ensures.behind,
      c.put-place.ensures.length,
      c.put_stored-place.ensures.behind,
      c.put_stored-place.ensures.length,
    )

pub returns : goal.returns
returns c =
    let l : length c.put_instances.new.into ≤ c.put_instances.result = omega (
      arith,
      ap length c.as_slice.ensures,
      c.requires.size,
      stored_size c.args.entry.now _ _ _ _ _ _ _ _ c.in-S.is c.requires.range,
      c.put-place.ensures.behind,
      c.put-place.ensures.length,
      c.put_stored-place.ensures.behind,
      c.put_stored-place.ensures.length,
      c.put_instances.ensures.behind,
      c.put_instances.ensures.length,
    ) in
    stored_filled _ _ c.in-S.instances _ _ _ _ _ _ c.as_slice.ensures c.put-place.ensures.front c.put_stored-place.ensures.front c.put_instances.ensures.front l ∙ sym (ap map_text c.in-S.is)
