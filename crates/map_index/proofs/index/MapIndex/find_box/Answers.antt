use Rattle.map_index.proofs.Common.{AllPairs, ◌==◌, ◌<◌, List, ap, sym, subst, MapBox, Mailbox, box_of, MapIndexValue}
use Rattle.map_index.proofs.DerivedListLemmas.{found_in}
use Rattle.map_index.proofs.SearchLemmas.{pairs_unmap}
use Rattle.map_index.proofs.index.MapIndex.find_box.Goals as goal

pub with_number-requires : goal.with_number-requires
with_number-requires c =
    subst (λ (bs : List Mailbox). AllPairs (λ a b. a.at.number.0 < b.at.number.0) bs) (sym c.deref.ensures.value)
    (pairs_unmap (λ (a b : MapBox). a.number < b.number) box_of c.self.inside.boxes.items c.self.invariant.0.boxes.rising)

pub returns : goal.returns
returns c =
    found_in (λ (box : MapBox). box.number == c.args.number.0) box_of _ _ _ _ c.with_number.ensures c.deref.ensures.value (ap (λ (v : MapIndexValue). v.meaning.boxes) c.self.view_is)
