-- Lists of keywords.
use Rattle.std.proofs.Common.{◌≡◌, ◌<◌, ◌≤◌, ◌+◌, ℕ, Bool, true, false, List, [], ◌∷◌, length, get_or, arith, AllPairs, IsTrue, ◌↔◌, refl, sym, ap, ◌∙◌}
use Rattle.std.specs.Cmp.Lexicographic.{slice_cmp}
use Rattle.std.specs.Ordering.{nat_cmp, is_lt}
use Rattle.std.specs.declared.cmp.Ordering.{Ordering}
use Rattle.std.specs.declared.cmp.Ordering.TheVariants.{Less, Equal, Greater}
use Rattle.std.specs.List.{IsAllAdjacentAnswer}
use Rattle.std.proofs.lemmas.Cmp.{nat_list_cmp_total}
use Rattle.std.proofs.lemmas.List.Elements.{All-nil}
use Rattle.std.proofs.lemmas.Map.Keys.{sorted_from_all_adjacent, Less-from_sorted}
use Rattle.mdbox_base.specs.Keywords.{AreWords}

-- no keywords are keywords
pub no_words : AreWords []
no_words = record { few = omega arith; each = All-nil _; rising = λ i j d lt within. absurd (omega arith) }

is_less : (o : Ordering) → is_lt o ≡ true → o ≡ Less
is_less Less e = refl
is_less Equal e = absurd (cc e)
is_less Greater e = absurd (cc e)

-- whether each text is less than the next is whether they rise
pub rises_as_answered : (texts : List (List ℕ)) (answer : Bool) → IsAllAdjacentAnswer (λ a b t. t ≡ is_lt (slice_cmp nat_cmp a b)) texts answer → IsTrue answer ↔ AllPairs (λ a b. slice_cmp nat_cmp a b ≡ Less) texts
rises_as_answered texts true next = (
  λ t i j d lt within. Less-from_sorted (slice_cmp nat_cmp) texts i j d
      (sorted_from_all_adjacent nat_list_cmp_total texts [] (λ k inside. is_less _ (sym (next k [] inside)))) lt within,
  λ rising. refl,
)
rises_as_answered texts false (k, inside, falls) = (
  λ t. absurd (let e : false ≡ true = t in cc e),
  λ rising.
      let less : slice_cmp nat_cmp (get_or texts k []) (get_or texts (k + 1) []) ≡ Less = rising k (k + 1) [] (omega arith) inside in
      absurd (let e : false ≡ true = falls [] ∙ ap is_lt less in cc e),
)
