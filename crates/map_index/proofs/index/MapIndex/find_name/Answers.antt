use Rattle.map_index.proofs.Common.{ap, MapBox, box_of, MapIndexValue}
use Rattle.std.specs.Str.{bytes_eq}
use Rattle.map_index.proofs.DerivedListLemmas.{found_in}
use Rattle.map_index.proofs.index.MapIndex.find_name.Goals as goal

pub returns : goal.returns
returns c =
    found_in (λ (box : MapBox). bytes_eq box.name c.args.name.now) box_of _ _ _ _ (rw c.as_octets.ensures.same at c.with_name.ensures) c.deref.ensures.value (ap (λ (v : MapIndexValue). v.meaning.boxes) c.self.view_is)
