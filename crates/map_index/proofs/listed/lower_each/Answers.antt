use Rattle.map_index.proofs.Common.{◌∷◌, [], List, fold, map, drop, ◌≤◌, ◌+◌, length, ap, refl, sym, ◌∙◌, AllPairs-from_increasing, MapUid, MapRecord, record_changed, TableValue}
use Rattle.mdbox_base.specs.declared.entries.MapEntry.TheVariants as entry
use Rattle.map_index.proofs.ListedLemmas.{fold_step, fold_end, same_table, lowered_each}
use Rattle.map_index.proofs.listed.lower_each.Goals as goal

pub loop-uid-preserved : goal.loop-uid-preserved
loop-uid-preserved c = record {
  rest = ap (λ (t : TableValue). fold (λ (rs : List MapRecord) (u : MapUid). map (record_changed (entry.D (u ∷ []))) rs) t.records (drop (c.loop-uid.uid-index + 1) c.args.uids.now)) c.lower.ensures
      ∙ fold_step (λ (rs : List MapRecord) (u : MapUid). map (record_changed (entry.D (u ∷ []))) rs) c.loop-uid.records.records c.args.uids.now c.loop-uid.uid-index _ _ c.loop-uid-test.true refl
      ∙ c.loop-uid.invariant.rest;
  record_room = ap (λ (t : TableValue). t.record_room) c.lower.ensures ∙ c.loop-uid.invariant.record_room;
  instance_room = ap (λ (t : TableValue). t.instance_room) c.lower.ensures ∙ c.loop-uid.invariant.instance_room;
}

pub returns : goal.returns
returns c =
    let past : length c.args.uids.now ≤ c.loop-uid.uid-index = c.loop-uid-test.false in
    same_table c.loop-uid.records c.args.records.now _
    (sym (fold_end (λ (rs : List MapRecord) (u : MapUid). map (record_changed (entry.D (u ∷ []))) rs) c.loop-uid.records.records c.args.uids.now c.loop-uid.uid-index past) ∙ c.loop-uid.invariant.rest
    ∙ lowered_each c.args.uids.now c.args.records.now.records (AllPairs-from_increasing _ c.requires))
    c.loop-uid.invariant.record_room c.loop-uid.invariant.instance_room
