-- Keywords of messages.
use Rattle.std.specs.Prelude.{◌≡◌, ◌≤◌, ◌∷◌, [], ℕ, List, codes, refl}
use Rattle.std.specs.List.{AllByRecursion}
use Rattle.std.specs.Cmp.Lexicographic.{slice_cmp}
use Rattle.std.specs.Ordering.{nat_cmp}
use Rattle.std.specs.declared.cmp.Ordering.TheVariants.{Less, Greater}
use Rattle.std.proofs.Common.{lit≤, arith}
use Rattle.std.proofs.lemmas.List.Elements.{All-nil, All-cons, All-from_recursion}
use Rattle.std.proofs.lemmas.List.Kept.{AllPairs-cons}
use Rattle.mdbox_base.specs.Keywords.{IsAtomOctet, IsKeyword, AreWords}
use Rattle.model_octets.proofs.PairLemmas.{pairs_nil}
use Rattle.model_meaning.specs.MeaningExamples.{example_words}

-- a message may have no keywords
pub no_words : AreWords []
no_words = record { few = lit≤ tt; each = All-nil IsKeyword; rising = pairs_nil (λ (a b : List ℕ). slice_cmp nat_cmp a b ≡ Less) }

-- ---- the keywords of the example

letter : (octet : ℕ) → 94 ≤ octet → octet ≤ 122 → IsAtomOctet octet
letter octet low high = record {
  low = omega (arith, low);
  high = omega (arith, high);
  no_open = λ e. omega (arith, e, low);
  no_close = λ e. omega (arith, e, low);
  no_brace = λ e. omega (arith, e, high);
  no_percent = λ e. omega (arith, e, low);
  no_star = λ e. omega (arith, e, low);
  no_quote = λ e. omega (arith, e, low);
  no_backslash = λ e. omega (arith, e, low);
  no_bracket = λ e. omega (arith, e, low);
}

capital : (octet : ℕ) → 65 ≤ octet → octet ≤ 91 → IsAtomOctet octet
capital octet low high = record {
  low = omega (arith, low);
  high = omega (arith, high);
  no_open = λ e. omega (arith, e, low);
  no_close = λ e. omega (arith, e, low);
  no_brace = λ e. omega (arith, e, high);
  no_percent = λ e. omega (arith, e, low);
  no_star = λ e. omega (arith, e, low);
  no_quote = λ e. omega (arith, e, low);
  no_backslash = λ e. omega (arith, e, high);
  no_bracket = λ e. omega (arith, e, high);
}

dollar : IsAtomOctet 36
dollar = record {
  low = lit≤ tt;
  high = lit≤ tt;
  no_open = λ e. omega (arith, e);
  no_close = λ e. omega (arith, e);
  no_brace = λ e. omega (arith, e);
  no_percent = λ e. omega (arith, e);
  no_star = λ e. omega (arith, e);
  no_quote = λ e. omega (arith, e);
  no_backslash = λ e. omega (arith, e);
  no_bracket = λ e. omega (arith, e);
}

of_letters : (octets : List ℕ) → AllByRecursion (λ octet. (94 ≤ octet) × (octet ≤ 122)) octets → AllByRecursion IsAtomOctet octets
of_letters [] h = tt
of_letters (octet ∷ octets) h = (letter octet h.0.0 h.0.1, of_letters octets h.1)

junk : IsKeyword (codes "$Junk")
junk = record {
  some = lit≤ tt;
  short = lit≤ tt;
  atom = All-from_recursion IsAtomOctet (codes "$Junk") (dollar, (capital 74 (lit≤ tt) (lit≤ tt), of_letters (codes "unk") ((lit≤ tt, lit≤ tt), ((lit≤ tt, lit≤ tt), ((lit≤ tt, lit≤ tt), tt)))));
}

project : IsKeyword (codes "project")
project = record {
  some = lit≤ tt;
  short = lit≤ tt;
  atom = All-from_recursion IsAtomOctet (codes "project") (of_letters (codes "project") ((lit≤ tt, lit≤ tt), ((lit≤ tt, lit≤ tt), ((lit≤ tt, lit≤ tt), ((lit≤ tt, lit≤ tt), ((lit≤ tt, lit≤ tt), ((lit≤ tt, lit≤ tt), ((lit≤ tt, lit≤ tt), tt))))))));
}

abbrev Rises : List ℕ → List ℕ → Type 0
Rises a b = slice_cmp nat_cmp a b ≡ Less

pub example_are_words : AreWords example_words
example_are_words = record {
  few = lit≤ tt;
  each = All-cons IsKeyword (codes "$Junk") (codes "project" ∷ []) junk (All-cons IsKeyword (codes "project") [] project (All-nil IsKeyword));
  rising = AllPairs-cons Rises (codes "$Junk") (codes "project" ∷ []) (All-cons (Rises (codes "$Junk")) (codes "project") [] refl (All-nil (Rises (codes "$Junk"))))
      (AllPairs-cons Rises (codes "project") [] (All-nil (Rises (codes "project"))) (pairs_nil Rises));
}

pub falling_are_none : AreWords (codes "project" ∷ codes "$Junk" ∷ []) → ⊥
falling_are_none words = let h : Greater ≡ Less = words.rising 0 1 [] (lit≤ tt) (lit≤ tt) in absurd (cc h)
