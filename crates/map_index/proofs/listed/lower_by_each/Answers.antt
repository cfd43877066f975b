use Rattle.map_index.proofs.Common.{◌∷◌, [], List, fold, map, drop, ◌≤◌, ◌+◌, length, ap, refl, sym, ◌∙◌, AllPairs-from_increasing, MapCount, MapRecord, lowered_by, TableValue}
use Rattle.map_index.proofs.ListedLemmas.{fold_step, fold_end, same_table, lowered_by_each}
use Rattle.map_index.proofs.listed.lower_by_each.Goals as goal

pub loop-given-preserved : goal.loop-given-preserved
loop-given-preserved c = record {
  rest = ap (λ (t : TableValue). fold (λ (rs : List MapRecord) (c : MapCount). map (lowered_by (c ∷ [])) rs) t.records (drop (c.loop-given.given-index + 1) c.args.amounts.now)) c.lower_by.ensures
      ∙ fold_step (λ (rs : List MapRecord) (c : MapCount). map (lowered_by (c ∷ [])) rs) c.loop-given.records.records c.args.amounts.now c.loop-given.given-index _ _ c.loop-given-test.true refl
      ∙ c.loop-given.invariant.rest;
  record_room = ap (λ (t : TableValue). t.record_room) c.lower_by.ensures ∙ c.loop-given.invariant.record_room;
  instance_room = ap (λ (t : TableValue). t.instance_room) c.lower_by.ensures ∙ c.loop-given.invariant.instance_room;
}

pub returns : goal.returns
returns c =
    let past : length c.args.amounts.now ≤ c.loop-given.given-index = c.loop-given-test.false in
    same_table c.loop-given.records c.args.records.now _
    (sym (fold_end (λ (rs : List MapRecord) (c : MapCount). map (lowered_by (c ∷ [])) rs) c.loop-given.records.records c.args.amounts.now c.loop-given.given-index past) ∙ c.loop-given.invariant.rest
    ∙ lowered_by_each c.args.amounts.now c.args.records.now.records (AllPairs-from_increasing _ c.requires))
    c.loop-given.invariant.record_room c.loop-given.invariant.instance_room
