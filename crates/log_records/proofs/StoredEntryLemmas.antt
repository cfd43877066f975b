-- What isn't a stored message's entry.
use Rattle.std.proofs.Common.{◌≡◌, ◌≤◌, ◌-◌, ℕ, List, [], ◌∷◌, length, take, drop, get_or, refl, sym, ap, ◌∙◌, arith}
use Rattle.std.proofs.lemmas.List.{take_all, length-drop}
use Rattle.std.specs.Prelude.{MatchOption, Option}
use Rattle.mdbox_base.specs.declared.entries.MapEntry.{MapEntry}
use Rattle.mdbox_base.specs.declared.entries.MapEntry.TheVariants as map
use Rattle.model_logs.specs.Entries.{IsMapText}
use Rattle.model_octets.proofs.NumberLemmas.{behind, differ}
use Rattle.log_records.specs.Refused.{IsNotStored}
use Rattle.log_records.proofs.ListItemLemmas.{match_weaker}

stored_not : (text fields : List ℕ) (other : MapEntry) → text ≡ 83 ∷ fields → IsNotStored fields → IsMapText text other → ⊥
stored_not text fields (map.S o c u f a z g is) e refused t = refused o c u f a z g is t.in_range.6 t.in_range.7 t.in_range.8 (ap behind (sym e ∙ t.text))
stored_not text fields (map.H h) e refused t = differ 83 72 _ _ (sym e ∙ t.text) refl
stored_not text fields (map.B m g n) e refused t = differ 83 66 _ _ (sym e ∙ t.text) refl
stored_not text fields (map.G m g) e refused t = differ 83 71 _ _ (sym e ∙ t.text) refl
stored_not text fields (map.U u) e refused t = differ 83 85 _ _ (sym e ∙ t.text) refl
stored_not text fields (map.D us) e refused t = differ 83 68 _ _ (sym e ∙ t.text) refl
stored_not text fields (map.T cs) e refused t = differ 83 84 _ _ (sym e ∙ t.text) refl
stored_not text fields (map.P f w ps us) e refused t = differ 83 80 _ _ (sym e ∙ t.text) refl
stored_not text fields (map.E f) e refused t = differ 83 69 _ _ (sym e ∙ t.text) refl
stored_not text fields (map.X m cs) e refused t = differ 83 88 _ _ (sym e ∙ t.text) refl
stored_not text fields (map.V m n) e refused t = differ 83 86 _ _ (sym e ∙ t.text) refl

pub stored_or_not : (text fields : List ℕ) (found : Option MapEntry) → text ≡ 83 ∷ fields → MatchOption found (IsNotStored fields) (IsMapText (83 ∷ fields)) → MatchOption found ((other : MapEntry) → IsMapText text other → ⊥) (IsMapText text)
stored_or_not text fields found e h =
    match_weaker found _ _ _ _ (λ refused other t. stored_not text fields other e refused t) (λ x t. record { text = e ∙ t.text; in_range = t.in_range }) h

pub letter_front : (letter : ℕ) (text : List ℕ) → get_or text 0 0 ≡ letter → 1 ≤ length text → text ≡ letter ∷ take (length text - 1) (drop 1 text)
letter_front letter [] e l = absurd (omega (arith, l))
letter_front letter (x ∷ text) e l =
    let whole : take (length (x ∷ text) - 1) (drop 1 (x ∷ text)) ≡ drop 1 (x ∷ text) = take_all (length (x ∷ text) - 1) (drop 1 (x ∷ text)) (omega (arith, length-drop 1 (x ∷ text))) in
    ap (λ (n : ℕ). n ∷ text) e ∙ ap (λ (t : List ℕ). letter ∷ t) (sym whole)
