-- Reading a message line by line: what is still to be found.
use Rattle.std.specs.Prelude.{ℕ, zero, suc, min, max, List, [], ◌∷◌, ◌++◌, flat_map}
use Rattle.model_mime.specs.Lines.{TextLine}
use Rattle.model_mime.specs.Parts.{Found, part_of, part_lines, part_end, parts_of, found_in}
use Rattle.model_mime.specs.Parts.Found.{APart}
use Rattle.mime_parts.specs.declared.reader.Place.{Place}
use Rattle.mime_parts.specs.declared.reader.Place.TheVariants as places

-- what the entity that is open holds, where these lines are left of it and it ends there
abbrev pub open_found : List ℕ → ℕ → Place → List TextLine → ℕ → List Found
open_found message levels places.Between lines end = []
open_found message levels (places.Head start) lines end = found_in message levels (record { start = start; end = end; lines = lines })
open_found message levels (places.Body start body coding other) lines end = APart (part_of message coding other (min body end) end) ∷ []

-- where the open entity ends if it ends here, by its own boundary
abbrev pub own_end : Place → ℕ → ℕ
own_end places.Between before = before
own_end (places.Head start) before = max start before
own_end (places.Body start body coding other) before = max start before

-- the same, by the boundaries further in
abbrev pub end_here : List (List ℕ) → Place → ℕ → ℕ
end_here [] place before = own_end place before
end_here (b ∷ inner) place before = before

-- What is still to be found, under these boundaries from the outermost on, where the line before ended there.
abbrev pub to_come : List ℕ → ℕ → List (List ℕ) → Place → ℕ → List TextLine → ℕ → List Found
to_come message levels [] place before lines end = open_found message levels place lines end
to_come message zero (b ∷ inner) place before lines end = []
to_come message (suc levels) (b ∷ inner) place before lines end =
    to_come message levels inner place before (part_lines b lines) (part_end b (end_here inner place before) end lines)
    ++ flat_map (found_in message levels) (parts_of b end lines)
