-- The mailbox at a place of the map, as it is found by number.
use Rattle.std.proofs.Common.{◌≡◌, ◌<◌, ◌==◌, ℕ, List, [], find, length, get_or, slice_get, map, Option, None, Some, IsSome, AllPairs, Bor, refl, sym, ◌∙◌, ap, arith}
use Rattle.std.specs.Option.{option_copied, option_map}
use Rattle.std.proofs.lemmas.Bool.{eq-eqb, eqb-true}
use Rattle.std.proofs.lemmas.List.Elements.{Contains-get_or}
use Rattle.std.proofs.lemmas.Option.{same_Some, slice_get-get_or, slice_get-map}
use Rattle.mdbox_base.specs.declared.entries.MapEntry.TheVariants as map_entry
use Rattle.model_octets.proofs.PairLemmas.{NotBoth}
use Rattle.model_octets.proofs.SearchLemmas.{found_is}
use Rattle.model_meaning.specs.MapMeaning.{MapBox}
use Rattle.model_rewritten.specs.Rewriting.{made_entry}
use Rattle.map_index.specs.Shown.{shown_box}
use Rattle.map_index.specs.declared.rows.BoxAt.{BoxAt}

-- The mailbox at a place, as the place shows it, is the one that its number finds.
pub record IsBoxThere (boxes : List MapBox) (place : ℕ) (at : BoxAt) : Type 0 where
  pub box : MapBox
  pub there : slice_get boxes place ≡ Some box
  pub shown : at ≡ shown_box box
  pub found : find (λ b. b.number == at.number.0) boxes ≡ Some box

only_one : (boxes : List MapBox) (number : ℕ) → AllPairs (λ a b. a.number < b.number) boxes → AllPairs (NotBoth (λ b. b.number == number)) boxes
only_one boxes number rising i j d less within one other =
    let a : (get_or boxes i d).number ≡ number = eqb-true (get_or boxes i d).number number one in
    let b : (get_or boxes j d).number ≡ number = eqb-true (get_or boxes j d).number number other in
    let c : (get_or boxes i d).number < (get_or boxes j d).number = rising i j d less within in
    omega (arith, a, b, c)

pub box_there : (boxes : List MapBox) (place : ℕ) (o : Option BoxAt) (at : BoxAt) → AllPairs (λ a b. a.number < b.number) boxes → place < length boxes → o ≡ option_map shown_box (slice_get boxes place) → o ≡ Some at → IsBoxThere boxes place at
box_there boxes place o at rising within is some =
    let none : MapBox = record { number = 0; generation = 0; name = [] } in
    let box : MapBox = get_or boxes place none in
    let there : slice_get boxes place ≡ Some box = slice_get-get_or boxes place none within in
    let shown : at ≡ shown_box box = same_Some at (shown_box box) (sym some ∙ is ∙ ap (option_map shown_box) there) in
    let number : box.number ≡ at.number.0 = ap (λ (b : BoxAt). b.number.0) (sym shown) in
    record {
      box = box;
      there = there;
      shown = shown;
      found = found_is (λ b. b.number == at.number.0) boxes box (Contains-get_or boxes place none within) (eq-eqb box.number at.number.0 number) (only_one boxes at.number.0 rising);
    }

-- its entry, with the name that the number finds
pub made_there : (boxes : List MapBox) (place : ℕ) (at : BoxAt) (name : List ℕ) → (t : IsBoxThere boxes place at) → Some name ≡ option_map (λ b. b.name) (find (λ b. b.number == at.number.0) boxes)
    → slice_get (map made_entry boxes) place ≡ Some (map_entry.B at.number at.generation name)
made_there boxes place at name t named =
    let same : name ≡ t.box.name = same_Some name t.box.name (named ∙ ap (option_map (λ (b : MapBox). b.name)) t.found) in
    let entry : made_entry t.box ≡ map_entry.B at.number at.generation name =
    ap (λ (a : BoxAt). map_entry.B a.number a.generation t.box.name) (sym t.shown) ∙ ap (λ (n : List ℕ). map_entry.B at.number at.generation n) (sym same) in
    slice_get-map made_entry boxes place ∙ ap (option_map made_entry) t.there ∙ ap Some entry

pub name_there : (boxes : List MapBox) (place : ℕ) (at : BoxAt) (o : Option (Bor (List ℕ))) → IsBoxThere boxes place at → option_copied o ≡ option_map (λ b. b.name) (find (λ b. b.number == at.number.0) boxes) → IsSome o
name_there boxes place at None t named = let e : None ≡ Some t.box.name = named ∙ ap (option_map (λ (b : MapBox). b.name)) t.found in cc
name_there boxes place at (Some r) t named = refl
