-- Laws of the meaning of the map log.
use Rattle.std.specs.Prelude.{◌≡◌, ℕ, List, [], ◌∷◌, ◌++◌}
use Rattle.std.proofs.lemmas.List.Sums.{fold-append}
use Rattle.mdbox_base.specs.declared.entries.Highest.{Highest}
use Rattle.mdbox_base.specs.declared.entries.MapEntry.{MapEntry}
use Rattle.model_meaning.proofs.RowLemmas.{one_more}
use Rattle.model_meaning.specs.MapMeaning.{MapRecord, MapBox, MapMeaning, map_meaning, map_applied, record_rules, box_rules, sealed_by, higher, numbers_of, no_numbers}

made_meaning : List ℕ → List MapRecord → List MapBox → List ℕ → Highest → MapMeaning
made_meaning store records boxes sealed highest = record { store = store; records = records; boxes = boxes; sealed = sealed; highest = highest }

same_meaning : (store : List ℕ) (rs ss : List MapRecord) (bs cs : List MapBox) (fs gs : List ℕ) (h k : Highest) → rs ≡ ss → bs ≡ cs → fs ≡ gs → h ≡ k → made_meaning store rs bs fs h ≡ made_meaning store ss cs gs k
same_meaning store rs ss bs cs fs gs h k p q r s = cc (p, q, r, s)

-- one entry more
pub map_more : (store : List ℕ) (entries : List MapEntry) (entry : MapEntry) → map_meaning store (entries ++ entry ∷ []) ≡ map_applied entry (map_meaning store entries)
unfolding made_meaning
map_more store entries entry =
    same_meaning store _ _ _ _ _ _ _ _ (one_more record_rules entries entry) (one_more box_rules entries entry)
    (fold-append (λ files e. sealed_by e files) [] entries (entry ∷ []))
    (fold-append (λ most e. higher most (numbers_of store e)) no_numbers entries (entry ∷ []))
