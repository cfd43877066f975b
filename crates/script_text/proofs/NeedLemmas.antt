-- What is missing of what was taken by its line is missing of the source too.
use Rattle.std.specs.Prelude.{◌≡◌, ◌<◌, ◌≤◌, ◌+◌, ◌^◌, ℕ, List, [], ◌∷◌, ◌++◌, length, Option, Some, ◌⊎◌, refl}
use Rattle.std.proofs.Common.{sym, ◌∙◌, ap, subst, arith, append_assoc, append-nil, inl, inr}
use Rattle.std.proofs.lemmas.Bool.{cases_lt}
use Rattle.std.proofs.lemmas.List.{length-append}
use Rattle.mdbox_base.specs.Numbers.{decimal_text}
use Rattle.mdbox_base.specs.Streams.{Taken}
use Rattle.mdbox_base.specs.Words.{is_other_than}
use Rattle.mdbox_base.specs.declared.requests.Request.{Request}
use Rattle.mdbox_base.specs.declared.requests.Request.TheVariants as request
use Rattle.script_text.specs.Flaws.{Has, IsNeeded, Lacks, request_front, verb_word}
use Rattle.script_text.specs.Script.{BeginsNoRequest, FitsLanes, request_words, spaced}
use Rattle.script_text.specs.Taking.{HasNoLf, IsLineTaken, TakesUpTo, request_line}
use Rattle.script_text.specs.declared.flaw.Need.{Need}
use Rattle.script_text.specs.declared.flaw.Need.TheVariants as need
use Rattle.script_text.proofs.CutLemmas.{all_both, both, first, no_cut, number_clear}
use Rattle.script_text.proofs.RequestLemmas.{lane_first, words_clear}
use Rattle.script_text.proofs.TakeLemmas.{front_in, line_short, none_left}

-- ---- the fronts of a line

line_clear : (lanes : ℕ) (asked : ℕ × Request) → lanes < 2 ^ 32 → FitsLanes lanes asked → HasNoLf (request_line asked)
line_clear lanes asked small fits =
    let last = fits.last in
    subst (λ (t : List ℕ). HasNoLf t) (sym (lane_first asked.0 asked.1)) (all_both (is_other_than 10) (decimal_text asked.0) (32 ∷ spaced (request_words asked.1)) (number_clear 10 asked.0 refl (omega (arith, small, last))) (words_clear asked.1 fits.fits))

after_verb : (asked : Request) → (r : List ℕ) × (spaced (request_words asked) ≡ verb_word asked ++ r)
after_verb (request.Deliver name time message) = (_, refl)
after_verb (request.List name) = (_, refl)
after_verb (request.Fetch name uid) = (_, refl)
after_verb (request.Flag name uid flags) = (_, refl)
after_verb (request.Keywords name uid words) = (_, refl)
after_verb (request.Copy name uid target) = (_, refl)
after_verb (request.Move name uid target) = (_, refl)
after_verb (request.Expunge name uid) = (_, refl)
after_verb (request.Make name) = (_, refl)
after_verb (request.Delete name) = (_, refl)
after_verb (request.Rename name target) = (_, refl)
after_verb request.Counts = ([], refl)
after_verb request.Purge = ([], refl)
after_verb request.Resync = ([], refl)

-- the text is a front of a line and its LF
abbrev StandsInLine : List ℕ → ℕ × Request → Type 0
StandsInLine front asked = (r : List ℕ) × (request_line asked ++ 10 ∷ [] ≡ front ++ r)

lane_in_line : (asked : ℕ × Request) → StandsInLine (request_front need.Lane asked) asked
lane_in_line asked = (
  spaced (request_words asked.1) ++ 10 ∷ [],
  ap (λ (l : List ℕ). l ++ 10 ∷ []) (lane_first asked.0 asked.1)
      ∙ (append_assoc (decimal_text asked.0) (32 ∷ spaced (request_words asked.1)) (10 ∷ []) ∙ sym (append_assoc (decimal_text asked.0) (32 ∷ []) (spaced (request_words asked.1) ++ 10 ∷ []))),
)

verb_in_line : (asked : ℕ × Request) → StandsInLine (request_front need.Verb asked) asked
verb_in_line asked =
    let v = after_verb asked.1 in (
      v.0 ++ 10 ∷ [],
      ap (λ (l : List ℕ). l ++ 10 ∷ []) (lane_first asked.0 asked.1 ∙ ap (λ (w : List ℕ). decimal_text asked.0 ++ 32 ∷ w) v.1 ∙ sym (append_assoc (decimal_text asked.0) (32 ∷ verb_word asked.1) v.0))
          ∙ append_assoc (decimal_text asked.0 ++ 32 ∷ verb_word asked.1) v.0 (10 ∷ []),
    )

line_in_line : (asked : ℕ × Request) → StandsInLine (request_front need.Words asked) asked
line_in_line asked = ([], sym (append-nil (request_line asked ++ 10 ∷ [])))

-- ---- what is missing

-- A text that was taken: all that was left; or a line, its LF and more; or more than a line can have.
abbrev pub IsPiece : List ℕ → List ℕ → Type 0
IsPiece text rest = (rest ≡ []) ⊎ (((line : List ℕ) × (more : List ℕ) × (text ≡ line ++ 10 ∷ more) × HasNoLf line) ⊎ (4096 < length text))

-- a front of a line that begins the source stands in what was taken of it
front_taken : (lanes : ℕ) (text rest front after : List ℕ) (asked : ℕ × Request) → lanes < 2 ^ 32 → FitsLanes lanes asked → IsPiece text rest → text ++ rest ≡ front ++ after → StandsInLine front asked → length front ≤ length text
front_taken lanes text rest front after asked small fits (inl none) e stands =
    let same : text ++ [] ≡ front ++ after = ap (λ (r : List ℕ). text ++ r) (sym none) ∙ e in
    let long : length (text ++ []) ≡ length front + length after = ap length same ∙ length-append front after in
    let own = length-append text [] in
    omega (arith, long, own)
front_taken lanes text rest front after asked small fits (inr (inr many)) e stands =
    let short = line_short lanes asked small fits in
    let long : length (request_line asked ++ 10 ∷ []) ≡ length front + length stands.0 = ap length stands.1 ∙ length-append front stands.0 in
    let own = length-append (request_line asked) (10 ∷ []) in
    omega (arith, short, long, own, many)
front_taken lanes text rest front after asked small fits (inr (inl (line, more, is, clear))) e stands = elim (cases_lt (length text) (length front)) [ inl long ↦ absurd (beyond long) | inr short ↦ short ]
  where
    whole : request_line asked ++ 10 ∷ [] ≡ front ++ stands.0
    whole = stands.1

    many : length text ≡ length line + length (10 ∷ more)
    many = ap length is ∙ length-append line (10 ∷ more)

    beyond : length text < length front → ⊥
    beyond long =
        let flat : front ++ after ≡ (line ++ 10 ∷ []) ++ (more ++ rest) = sym e ∙ (ap (λ (t : List ℕ). t ++ rest) is ∙ append_assoc line (10 ∷ more) rest ∙ sym (append_assoc line (10 ∷ []) (more ++ rest))) in
        let own = length-append line (10 ∷ []) in
        let f = front_in front (line ++ 10 ∷ []) after (more ++ rest) flat (omega (arith, many, long, own)) in
        let again : request_line asked ++ 10 ∷ [] ≡ (line ++ 10 ∷ []) ++ (f.0 ++ stands.0) = whole ∙ (ap (λ (t : List ℕ). t ++ stands.0) f.1 ∙ append_assoc (line ++ 10 ∷ []) f.0 stands.0) in
        let front_long : length front ≡ length (line ++ 10 ∷ []) + length f.0 = ap length f.1 ∙ length-append (line ++ 10 ∷ []) f.0 in
        let whole_long : length (request_line asked ++ 10 ∷ []) ≡ length (line ++ 10 ∷ []) + length (f.0 ++ stands.0) = ap length again ∙ length-append (line ++ 10 ∷ []) (f.0 ++ stands.0) in
        let rest_long = length-append f.0 stands.0 in
        let line_long = length-append (request_line asked) (10 ∷ []) in
        let g = front_in (request_line asked) (line ++ 10 ∷ []) (10 ∷ []) (f.0 ++ stands.0) again (omega (arith, whole_long, rest_long, line_long, front_long, many, long, own)) in
        no_cut 10 (request_line asked) line g.0 (line_clear lanes asked small fits) (g.1 ∙ append_assoc line (10 ∷ []) g.0)

lacks_on : (lanes : ℕ) (text rest : List ℕ) (n : Need) → lanes < 2 ^ 32 → IsPiece text rest → ((asked : ℕ × Request) → StandsInLine (request_front n asked) asked) → Lacks lanes text n → Lacks lanes (text ++ rest) n
lacks_on lanes text rest n small piece stands none asked after fits e =
    let f = front_in text (request_front n asked) rest after e (front_taken lanes text rest (request_front n asked) after asked small fits piece e (stands asked)) in
    none asked f.0 fits f.1

has_on : (lanes : ℕ) (text rest : List ℕ) (n : Need) → Has lanes text n → Has lanes (text ++ rest) n
has_on lanes text rest n has = (has.0, has.1 ++ rest, has.2, ap (λ (t : List ℕ). t ++ rest) has.3 ∙ append_assoc (request_front n has.0) has.1 rest)

-- What is missing of the text is missing of the source.
needed_on : (lanes : ℕ) (text rest : List ℕ) (n : Need) → lanes < 2 ^ 32 → IsPiece text rest → BeginsNoRequest lanes (text ++ rest) → IsNeeded lanes text n → IsNeeded lanes (text ++ rest) n
needed_on lanes text rest need.Lane small piece bad is = lacks_on lanes text rest need.Lane small piece lane_in_line is
needed_on lanes text rest need.Verb small piece bad is = (has_on lanes text rest need.Lane is.0, lacks_on lanes text rest need.Verb small piece verb_in_line is.1)
needed_on lanes text rest need.Words small piece bad is = (has_on lanes text rest need.Verb is.0, lacks_on lanes text rest need.Words small piece line_in_line is.1)
needed_on lanes text rest need.Message small piece bad is = (has_on lanes text rest need.Words is.0, bad)
needed_on lanes text rest need.Fewer small piece bad is = has_on lanes text rest need.Message is

pub needed_in_front : (lanes count : ℕ) (line text : List ℕ) (mid new : Option (List ℕ)) (n : Need) → lanes < 2 ^ 32 → IsLineTaken line mid → TakesUpTo count line text mid new → (rest : List ℕ) → new ≡ Some rest → BeginsNoRequest lanes (text ++ rest) → IsNeeded lanes text n → IsNeeded lanes (text ++ rest) n
needed_in_front lanes count line text mid new n small is takes rest left bad needed = needed_on lanes text rest n small (by_line is) bad needed
  where
    by_line : IsLineTaken line mid → IsPiece text rest
    by_line (inl (own, own_is, clear)) = inr (inl (own, takes.0, takes.1 ∙ (ap (λ (l : List ℕ). l ++ takes.0) own_is ∙ append_assoc own (10 ∷ []) takes.0), clear))
    by_line (inr (clear, inl end)) = inl (none_left mid new takes.0 rest takes.2 left end)
    by_line (inr (clear, inr many)) = inr (inr (let long : length text ≡ length line + length takes.0 = ap length takes.1 ∙ length-append line takes.0 in omega (arith, many, long)))
