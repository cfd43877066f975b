-- Two steps of a source or a sink in a row.
use Rattle.std.proofs.Common.{◌≡◌, ◌≤◌, ◌<◌, ◌+◌, ◌++◌, ℕ, List, length, take, drop, Option, Some, None, refl, sym, ap, ◌∙◌, append_assoc, arith, length-take, length-append, length-drop, take_all, ◌-◌, ap₂, min}
use Rattle.std.proofs.Math.Seq.{take-add}
use Rattle.std.proofs.lemmas.List.{take-append-le, drop-drop, take-append-drop}
use Rattle.std.specs.Option.{option_map}
use Rattle.mdbox_base.specs.Streams.{Taken, Appended}

maps_twice : (a b : List ℕ) (new : Option (List ℕ)) → option_map (λ rest. a ++ rest) (option_map (λ rest. b ++ rest) new) ≡ option_map (λ rest. (a ++ b) ++ rest) new
maps_twice a b None = refl
maps_twice a b (Some rest) = ap Some (sym (append_assoc a b rest))

-- what was taken in two steps
pub taken_more : (old mid new : Option (List ℕ)) (a b : List ℕ) → Taken old a mid → Taken mid b new → Taken old (a ++ b) new
taken_more old mid new a b first second = first ∙ ap (option_map (λ rest. a ++ rest)) second ∙ maps_twice a b new

appends_twice : (a b : List ℕ) (old : Option (List ℕ)) → option_map (λ held. held ++ b) (option_map (λ held. held ++ a) old) ≡ option_map (λ held. held ++ (a ++ b)) old
appends_twice a b None = refl
appends_twice a b (Some held) = ap Some (append_assoc held a b)

-- what was appended in two steps
pub appended_more : (old mid new : Option (List ℕ)) (a b : List ℕ) → Appended old a mid → Appended mid b new → Appended old (a ++ b) new
appended_more old mid new a b first second = second ∙ ap (option_map (λ held. held ++ b)) first ∙ appends_twice a b old

-- one more step through a text
pub appended_next : (text : List ℕ) (given count : ℕ) (first mid last : Option (List ℕ)) → given ≤ length text → count ≤ length (take (length text - given) (drop given text)) → Appended first (take given text) mid → Appended mid (take count (take (length text - given) (drop given text))) last → (given + count ≤ length text) × Appended first (take (given + count) text) last
appended_next text given count first mid last within small before more =
    let rest : length (drop given text) ≡ length text - given = length-drop given text in
    let all : take (length text - given) (drop given text) ≡ drop given text = take_all (length text - given) (drop given text) (omega arith) in
    let few : count ≤ length (drop given text) = rw all at small in
    let next : Appended mid (take count (drop given text)) last = rw all at more in
    (omega arith, rw (take-add given count text) (appended_more first mid last (take given text) (take count (drop given text)) before next))

-- one more step of a read up to a limit: all that was taken is one octet longer than the limit
pub too_long : (text piece : List ℕ) (count limit : ℕ) → length text ≤ limit → count ≤ length piece → length piece ≤ limit - length text + 1 → limit - length text < count → length (text ++ take count piece) ≡ limit + 1
too_long text piece count limit short within small more = omega (arith, length-append text (take count piece), length-take count piece)

-- a slice to the end of a list
pub to_end : (octets : List ℕ) (start : ℕ) → start ≤ length octets → take (length octets - start) (drop start octets) ≡ drop start octets
to_end octets start within = take_all (length octets - start) (drop start octets) (omega (arith, length-drop start octets))

-- octets that are copied from a place stand in front, and the rest is left
pub copied_front : (octets into copied : List ℕ) (start count : ℕ) → start ≤ length octets → start + count ≤ length octets → copied ≡ take count (drop start octets) → drop start octets ≡ take count (copied ++ drop count into) ++ drop (start + count) octets
copied_front octets into copied start count within fits same =
    let rest_long : length (drop start octets) ≡ length octets - start = length-drop start octets in
    let long : length copied ≡ count = ap length same ∙ (length-take count (drop start octets) ∙ omega arith) in
    let front : take count (copied ++ drop count into) ≡ copied = take-append-le count copied (drop count into) (omega arith) ∙ take_all count copied (omega arith) in
    let parts = take-append-drop count (drop start octets) in
    let behind = drop-drop count start octets in
    sym (ap₂ (λ (a b : List ℕ). a ++ b) (front ∙ same) (sym behind) ∙ parts)

-- the same of a slice to the end, cut to the length of another list
pub copied_slice : (octets now into copied : List ℕ) (start count : ℕ) → now ≡ octets → start ≤ length octets → count ≡ min (length (take (length now - start) (drop start now))) (length into) → copied ≡ take count (take (length now - start) (drop start now)) → drop start octets ≡ take count (copied ++ drop count into) ++ drop (start + count) octets
copied_slice octets now into copied start count same within short e =
    let whole : take (length now - start) (drop start now) ≡ drop start octets = ap (λ (l : List ℕ). take (length l - start) (drop start l)) same ∙ to_end octets start within in
    let least : count ≡ min (length (drop start octets)) (length into) = short ∙ ap (λ (l : List ℕ). min (length l) (length into)) whole in
    let k : copied ≡ take count (drop start octets) = e ∙ ap (take count) whole in
    let rest_long : length (drop start octets) ≡ length octets - start = length-drop start octets in
    copied_front octets into copied start count within (omega arith) k
