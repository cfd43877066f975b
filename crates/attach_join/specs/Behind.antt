-- Instances whose octets stand one behind another.
use Rattle.std.specs.Prelude.{ℕ, List, [], ◌∷◌, take, drop}
use Rattle.mdbox_base.specs.declared.entries.InstRow.{InstRow}

-- The octets of each instance, of which there are as many as its row says.
abbrev pub octets_in : List InstRow → List ℕ → List (List ℕ)
octets_in [] octets = []
octets_in (row ∷ rows) octets = take row.size octets ∷ octets_in rows (drop row.size octets)
