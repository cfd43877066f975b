use Rattle.map_rows.proofs.Common.{AllPairs, ◌==◌, ◌<◌, List, ap, sym, subst, MapRecord, Record, meant_record, TableValue}
use Rattle.map_rows.proofs.DerivedListLemmas.{found_in}
use Rattle.map_rows.proofs.SearchLemmas.{pairs_unmap}
use Rattle.map_rows.proofs.table.Table.find.Goals as goal

pub returns : goal.returns
returns c =
    found_in (λ (row : MapRecord). row.uid == c.args.uid.0) meant_record _ _ _ _ c.with_uid.ensures c.deref.ensures.value (ap (λ (v : TableValue). v.records) c.self.view_is)

pub with_uid-requires : goal.with_uid-requires
with_uid-requires c =
    subst (λ (rs : List Record). AllPairs (λ a b. a.row.uid.0 < b.row.uid.0) rs) (sym c.deref.ensures.value)
    (pairs_unmap (λ (a b : MapRecord). a.uid < b.uid) meant_record c.self.inside.records.items c.self.invariant.0.kept.rising)
