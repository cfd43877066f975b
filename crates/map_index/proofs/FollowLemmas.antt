-- Moved regions that follow one another.
use Rattle.map_index.proofs.Common.{◌≡◌, inl, ℕ, ◌+◌, ◌<◌, ◌≤◌, List, [], ◌∷◌, ◌++◌, length, get_or, refl, sym, ap, subst, ◌∙◌, arith, All, AllPairs, All-nil, All-weaker, pairs_nil, MapPlace, MapMeaning, ArePlacedApart}
use Rattle.std.proofs.Common.{take}
use Rattle.std.proofs.lemmas.List.{take_more, take_all}
use Rattle.std.proofs.lemmas.List.Elements.{All-push}
use Rattle.model_octets.proofs.PairLemmas.{pairs_push}
use Rattle.model_meaning.specs.MapFits.{size_at}

-- where the region of a place ends
abbrev place_end : MapMeaning → MapPlace → ℕ
place_end m p = p.offset + size_at m p.uid.0

abbrev pub AreBefore : MapMeaning → List MapPlace → ℕ → Type 0
AreBefore m places end = All (λ p. p.offset + size_at m p.uid.0 ≤ end) places × AllPairs (ArePlacedApart m) places

no_items : {X : Type 0} → (xs : List X) → take 0 xs ≡ []
no_items [] = refl
no_items (x ∷ xs) = refl

pub none_yet : (m : MapMeaning) (places : List MapPlace) → AreBefore m (take 0 places) 0
none_yet m places = subst (λ (ps : List MapPlace). AreBefore m ps 0) (sym (no_items places)) (All-nil (λ p. p.offset + size_at m p.uid.0 ≤ 0), pairs_nil (ArePlacedApart m))

pub one_follows : (m : MapMeaning) (places : List MapPlace) (k : ℕ) (d place : MapPlace) (end last : ℕ) → k < length places → place ≡ get_or places k d → end ≤ place.offset → AreBefore m (take k places) end → last ≡ place.offset + size_at m place.uid.0 → AreBefore m (take (k + 1) places) last
one_follows m places k d place end last lt is le before ends =
    subst (λ (ps : List MapPlace). AreBefore m ps last) (sym (take_more places k d lt ∙ ap (λ (p : MapPlace). take k places ++ p ∷ []) (sym is))) (
      All-push (λ p. p.offset + size_at m p.uid.0 ≤ last) (take k places) place (All-weaker (λ p. p.offset + size_at m p.uid.0 ≤ end) (λ p. p.offset + size_at m p.uid.0 ≤ last) (λ p h. omega (arith, h, le, ends)) (take k places) before.0) (omega (arith, ends)),
      pairs_push (ArePlacedApart m) (take k places) place before.1 (All-weaker (λ p. p.offset + size_at m p.uid.0 ≤ end) (λ p. ArePlacedApart m p place) (λ p h. inl (omega (arith, h, le))) (take k places) before.0),
    )

pub all_follow : (m : MapMeaning) (places : List MapPlace) (k : ℕ) → length places ≤ k → AllPairs (ArePlacedApart m) (take k places) → AllPairs (ArePlacedApart m) places
all_follow m places k le p = subst (AllPairs (ArePlacedApart m)) (take_all k places le) p
