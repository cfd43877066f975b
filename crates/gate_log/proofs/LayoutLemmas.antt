-- Records laid out one behind another.
use Rattle.std.proofs.Common.{◌≡◌, ◌+◌, ◌-◌, ◌*◌, ◌<◌, ◌≤◌, ◌^◌, ℕ, suc, List, [], ◌∷◌, ◌++◌, length, take, drop, get_or, sum, All, refl, sym, ◌∙◌, ap, subst, append_assoc, append-nil, length-append, length-drop, drop-cons, add-one, arith, lit<}
use Rattle.std.specs.Int.{w32, to_be_bytes}
use Rattle.std.proofs.Math.ListN.{set}
use Rattle.std.proofs.Math.Seq.{take-add, take-append_seam, drop-append_seam}
use Rattle.std.proofs.lemmas.List.{take_more, take_more_set, drop_all, length-take-le, take-append-le}
use Rattle.std.proofs.lemmas.List.Sums.{sum_by-cons}
use Rattle.std.proofs.lemmas.List.Elements.{All-nil, All-cons, All-head, All-tail, All-append, All-take, All-drop, All-from_recursion}
use Rattle.model_logs.specs.LogFile.{record_octets, opened, EntryFits}
use Rattle.model_logs.proofs.LogFileLemmas.{opened_more}
use Rattle.gate_log.specs.Log.{cut_by}

-- after the first i lengths: the entries that were laid out, and the octets that are left
pub record Laid (lengths octets rest buffer : List ℕ) (i end : ℕ) : Type 0 where
  pub done : List (List ℕ)
  pub cut : cut_by lengths octets ≡ done ++ cut_by (drop i lengths) rest
  pub laid : 1 ∷ take end buffer ≡ opened done ++ 1 ∷ []
  pub left : sum (drop i lengths) ≡ length rest
  pub at : end + (length rest + 5 * length (drop i lengths)) ≡ length octets + 5 * length lengths

pub laid-none : (lengths octets buffer : List ℕ) → sum lengths ≡ length octets → Laid lengths octets octets buffer 0 0
laid-none lengths octets buffer e = record { done = []; cut = refl; laid = refl; left = e; at = omega arith }

-- what the next length is, and those behind it
next_is : (lengths : List ℕ) (i : ℕ) → i < length lengths → drop i lengths ≡ get_or lengths i 0 ∷ drop (i + 1) lengths
next_is lengths i l = drop-cons lengths i 0 l ∙ ap (λ (n : ℕ). get_or lengths i 0 ∷ drop n lengths) (sym (add-one i))

pub laid-fits : (lengths octets rest buffer : List ℕ) (i end size : ℕ) → Laid lengths octets rest buffer i end → i < length lengths → size ≡ get_or lengths i 0
    → (size ≤ length rest) × (end + (size + 5) ≤ length octets + 5 * length lengths) × (length rest ≤ length octets + 5 * length lengths)
laid-fits lengths octets rest buffer i end size s l e =
    let next : drop i lengths ≡ get_or lengths i 0 ∷ drop (i + 1) lengths = next_is lengths i l in
    let more : sum (drop i lengths) ≡ get_or lengths i 0 + sum (drop (i + 1) lengths) = ap sum next ∙ sum_by-cons (λ x. x) (get_or lengths i 0) (drop (i + 1) lengths) in
    let long : length (drop i lengths) ≡ length (drop (i + 1) lengths) + 1 = ap length next ∙ sym (add-one (length (drop (i + 1) lengths))) in
    let left : sum (drop i lengths) ≡ length rest = s.left in
    let at : end + (length rest + 5 * length (drop i lengths)) ≡ length octets + 5 * length lengths = s.at in
    (omega (arith, more, left, e), omega (arith, more, left, e, long, at), omega (arith, at))

-- one entry more
pub laid-more : (lengths octets rest old new entry behind : List ℕ) (i end size : ℕ) → Laid lengths octets rest old i end → i < length lengths → size ≡ get_or lengths i 0
    → entry ≡ take size rest → behind ≡ drop size rest → take end new ≡ take end old → take (length entry + 5) (drop end new) ≡ record_octets entry ++ 1 ∷ []
    → Laid lengths octets behind new (i + 1) (end + (length entry + 5))
laid-more lengths octets rest old new entry behind i end size s l e is_entry is_behind kept put =
    let next : drop i lengths ≡ get_or lengths i 0 ∷ drop (i + 1) lengths = next_is lengths i l in
    let more : sum (drop i lengths) ≡ get_or lengths i 0 + sum (drop (i + 1) lengths) = ap sum next ∙ sum_by-cons (λ x. x) (get_or lengths i 0) (drop (i + 1) lengths) in
    let long : length (drop i lengths) ≡ length (drop (i + 1) lengths) + 1 = ap length next ∙ sym (add-one (length (drop (i + 1) lengths))) in
    let left : sum (drop i lengths) ≡ length rest = s.left in
    let at : end + (length rest + 5 * length (drop i lengths)) ≡ length octets + 5 * length lengths = s.at in
    let fits : size ≤ length rest = omega (arith, more, left, e) in
    let entry_long : length entry ≡ size = ap length is_entry ∙ length-take-le size rest fits in
    let behind_long : length behind ≡ length rest - size = ap length is_behind ∙ length-drop size rest in
    record {
      done = s.done ++ entry ∷ [];
      cut = s.cut ∙ ap (λ (t : List ℕ). s.done ++ cut_by t rest) (next ∙ ap (λ (n : ℕ). n ∷ drop (i + 1) lengths) (sym e))
          ∙ ap (λ (t : List ℕ). s.done ++ t ∷ cut_by (drop (i + 1) lengths) (drop size rest)) (sym is_entry)
          ∙ ap (λ (t : List ℕ). s.done ++ entry ∷ cut_by (drop (i + 1) lengths) t) (sym is_behind)
          ∙ sym (append_assoc s.done (entry ∷ []) (cut_by (drop (i + 1) lengths) behind));
      laid = ap (λ (t : List ℕ). 1 ∷ t) (take-add end (length entry + 5) new)
          ∙ ap (λ (t : List ℕ). 1 ∷ (t ++ take (length entry + 5) (drop end new))) kept
          ∙ ap (λ (t : List ℕ). (1 ∷ take end old) ++ t) put
          ∙ ap (λ (t : List ℕ). t ++ (record_octets entry ++ 1 ∷ [])) s.laid
          ∙ append_assoc (opened s.done) (1 ∷ []) (record_octets entry ++ 1 ∷ [])
          ∙ sym (append_assoc (opened s.done) (1 ∷ record_octets entry) (1 ∷ []))
          ∙ ap (λ (t : List ℕ). t ++ 1 ∷ []) (sym (opened_more s.done entry));
      left = omega (arith, more, left, e, behind_long, fits);
      at = omega (arith, at, long, behind_long, entry_long, fits);
    }

-- what was put into the buffer from a place on
pub put_there : (old ys post : List ℕ) (end n : ℕ) → end ≤ length old → n ≤ length ys
    → (take end (take end old ++ (ys ++ post)) ≡ take end old) × (take n (drop end (take end old ++ (ys ++ post))) ≡ take n ys)
put_there old ys post end n within few =
    let l : length (take end old) ≡ end = length-take-le end old within in (
      ap (λ (k : ℕ). take k (take end old ++ (ys ++ post))) (sym l) ∙ take-append_seam (take end old) (ys ++ post),
      ap (take n) (ap (λ (k : ℕ). drop k (take end old ++ (ys ++ post))) (sym l) ∙ drop-append_seam (take end old) (ys ++ post)) ∙ take-append-le n ys post few,
    )

-- two lists with an element behind each
front_same : (xs ys : List ℕ) (x y : ℕ) → xs ++ x ∷ [] ≡ ys ++ y ∷ [] → xs ≡ ys
front_same xs ys x y e =
    let l : length xs + 1 ≡ length ys + 1 = sym (length-append xs (x ∷ [])) ∙ ap length e ∙ length-append ys (y ∷ []) in
    let same : length xs ≡ length ys = omega (arith, l) in
    sym (take-append_seam xs (x ∷ [])) ∙ ap (take (length xs)) e ∙ ap (λ (n : ℕ). take n (ys ++ y ∷ [])) same ∙ take-append_seam ys (y ∷ [])

-- the last gate is closed
pub laid-end : (lengths octets rest buffer : List ℕ) (i end : ℕ) → Laid lengths octets rest buffer i end → length lengths ≤ i → end ≡ length octets + 5 * length lengths
laid-end lengths octets rest buffer i end s l =
    let none : drop i lengths ≡ [] = drop_all i lengths l in
    let left : length rest ≡ 0 = sym s.left ∙ ap sum none in
    let long : length (drop i lengths) ≡ 0 = ap length none in
    let at : end + (length rest + 5 * length (drop i lengths)) ≡ length octets + 5 * length lengths = s.at in
    omega (arith, left, long, at)

pub laid-all : (lengths octets rest buffer : List ℕ) (i last : ℕ) → Laid lengths octets rest buffer i (last + 1) → length lengths ≤ i → last < length buffer
    → 1 ∷ take (last + 1) (set buffer last 0) ≡ opened (cut_by lengths octets) ++ 0 ∷ []
laid-all lengths octets rest buffer i last s l within =
    let none : drop i lengths ≡ [] = drop_all i lengths l in
    let all : cut_by lengths octets ≡ s.done = s.cut ∙ ap (λ (t : List ℕ). s.done ++ cut_by t rest) none ∙ append-nil s.done in
    let front : (1 ∷ take last buffer) ++ get_or buffer last 0 ∷ [] ≡ opened s.done ++ 1 ∷ [] = ap (λ (t : List ℕ). 1 ∷ t) (sym (take_more buffer last 0 within)) ∙ s.laid in
    ap (λ (t : List ℕ). 1 ∷ t) (take_more_set buffer last 0 within)
    ∙ ap (λ (t : List ℕ). t ++ 0 ∷ []) (front_same (1 ∷ take last buffer) (opened s.done) (get_or buffer last 0) 1 front)
    ∙ ap (λ (t : List (List ℕ)). opened t ++ 0 ∷ []) (sym all)

-- as many entries as lengths
pub cut_count : (lengths octets : List ℕ) → length (cut_by lengths octets) ≡ length lengths
cut_count [] octets = refl
cut_count (n ∷ ns) octets = ap (λ (k : ℕ). suc k) (cut_count ns (drop n octets))

-- the entries fit records
pub cut-fit : (lengths octets : List ℕ) → All (λ n. 1 ≤ n) lengths → sum lengths ≡ length octets → length octets < 2 ^ 32 → All EntryFits (cut_by lengths octets)
cut-fit [] octets some whole short = All-nil EntryFits
cut-fit (n ∷ ns) octets some whole short =
    let more : sum (n ∷ ns) ≡ n + sum ns = sum_by-cons (λ x. x) n ns in
    let head : 1 ≤ n = All-head (λ k. 1 ≤ k) n ns some in
    let within : n ≤ length octets = omega (arith, more, whole) in
    let long : length (take n octets) ≡ n = length-take-le n octets within in
    let rest : length (drop n octets) ≡ length octets - n = length-drop n octets in
    All-cons EntryFits (take n octets) (cut_by ns (drop n octets)) (record { some = omega (arith, head, long); short = omega (arith, long, within, short) })
    (cut-fit ns (drop n octets) (All-tail (λ k. 1 ≤ k) n ns some) (omega (arith, more, whole, rest)) (omega (arith, rest, short)))

-- what is laid out is octets
abbrev IsOctet : ℕ → Type 0
IsOctet octet = octet < 256

opened_octets : (lengths octets : List ℕ) → All IsOctet octets → All IsOctet (opened (cut_by lengths octets))
opened_octets [] octets are = All-nil IsOctet
opened_octets (n ∷ ns) octets are =
    All-append IsOctet (1 ∷ record_octets (take n octets)) (opened (cut_by ns (drop n octets)))
    (All-cons IsOctet 1 (record_octets (take n octets)) (lit< tt) (All-append IsOctet (to_be_bytes w32 (length (take n octets))) (take n octets) (number (length (take n octets))) (All-take IsOctet n octets are)))
    (opened_octets ns (drop n octets) (All-drop IsOctet n octets are))
  where
    number : (k : ℕ) → All IsOctet (to_be_bytes w32 k)
    number k = All-from_recursion IsOctet (to_be_bytes w32 k) (omega arith, (omega arith, (omega arith, (omega arith, tt))))

pub block_octets : (lengths octets block : List ℕ) → All (λ o. o < 256) octets → 1 ∷ block ≡ opened (cut_by lengths octets) ++ 0 ∷ [] → All (λ o. o < 256) block
block_octets lengths octets block are e =
    All-tail IsOctet 1 block
    (subst (All IsOctet) (sym e) (All-append IsOctet (opened (cut_by lengths octets)) (0 ∷ []) (opened_octets lengths octets are) (All-cons IsOctet 0 [] (lit< tt) (All-nil IsOctet))))
