-- One more entry of a draft.
use Rattle.std.proofs.Common.{◌≡◌, ◌+◌, ◌-◌, ◌≤◌, ℕ, List, [], ◌∷◌, ◌++◌, length, take, drop, sum, All, refl, ◌∙◌, ap, length-append, length-drop, arith}
use Rattle.std.proofs.Math.Seq.{take-length}
use Rattle.std.proofs.lemmas.List.{take-append-le, drop-append-le}
use Rattle.std.proofs.lemmas.List.Elements.{All-nil, All-cons, All-append}
use Rattle.std.proofs.lemmas.List.Sums.{sum_by-cons, sum_by-append}
use Rattle.gate_log.specs.Log.{cut_by}
use Rattle.mdbox_base.specs.declared.entries.RootEntry.{RootEntry}
use Rattle.mdbox_base.specs.declared.entries.RootEntry.TheVariants as root
use Rattle.model_logs.specs.Entries.{root_text}

pub cut-more : (lengths octets : List ℕ) (size : ℕ) (text : List ℕ) → sum lengths ≡ length octets → size ≡ length text → cut_by (lengths ++ size ∷ []) (octets ++ text) ≡ cut_by lengths octets ++ text ∷ []
cut-more [] [] size text whole e = ap (λ (t : List ℕ). t ∷ []) (ap (λ (n : ℕ). take n text) e ∙ take-length text)
cut-more [] (o ∷ octets) size text whole e = let h : 0 ≡ length (o ∷ octets) = whole in absurd (omega (arith, h))
cut-more (n ∷ ns) octets size text whole e =
    let more : sum (n ∷ ns) ≡ n + sum ns = sum_by-cons (λ x. x) n ns in
    let within : n ≤ length octets = omega (arith, more, whole) in
    let rest : length (drop n octets) ≡ length octets - n = length-drop n octets in
    ap (λ (t : List ℕ). t ∷ cut_by (ns ++ size ∷ []) (drop n (octets ++ text))) (take-append-le n octets text within)
    ∙ ap (λ (t : List ℕ). take n octets ∷ cut_by (ns ++ size ∷ []) t) (drop-append-le n octets text within)
    ∙ ap (λ (ts : List (List ℕ)). take n octets ∷ ts) (cut-more ns (drop n octets) size text (omega (arith, more, whole, rest)) e)

pub sum-more : (lengths : List ℕ) (size : ℕ) (octets text : List ℕ) → sum lengths ≡ length octets → size ≡ length text → sum (lengths ++ size ∷ []) ≡ length (octets ++ text)
sum-more lengths size octets text whole e =
    let s : sum (lengths ++ size ∷ []) ≡ sum lengths + sum (size ∷ []) = sum_by-append (λ x. x) lengths (size ∷ []) in
    let one : sum (size ∷ []) ≡ size + sum [] = sum_by-cons (λ x. x) size [] in
    let none : sum [] ≡ 0 = refl in
    omega (arith, s, one, none, whole, e, length-append octets text)

pub some-more : (lengths : List ℕ) (size : ℕ) → All (λ n. 1 ≤ n) lengths → 1 ≤ size → All (λ n. 1 ≤ n) (lengths ++ size ∷ [])
some-more lengths size all one = All-append (λ n. 1 ≤ n) lengths (size ∷ []) all (All-cons (λ n. 1 ≤ n) size [] one (All-nil (λ n. 1 ≤ n)))

pub root_length : (entry : RootEntry) → 5 ≡ length (root_text entry)
root_length (root.M generation) = refl
