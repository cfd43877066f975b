use Rattle.map_index.proofs.Common.{◌≢◌, ap, MapBox, box_of, MapIndexValue}
use Rattle.map_index.proofs.DerivedListLemmas.{all_in}
use Rattle.map_index.proofs.index.MapIndex.is_new_name.Goals as goal

pub returns : goal.returns
returns c =
    all_in (λ (box : MapBox). box.name ≢ c.args.name.now) box_of _ _ _ _ (rw c.as_octets.ensures.same at c.is_new_name.ensures) c.deref.ensures.value (ap (λ (v : MapIndexValue). v.meaning.boxes) c.self.view_is)
