-- What is written into the range of one reference leaves what is outside of all.
use Rattle.std.proofs.Common.{refl, ◌≡◌, ◌≤◌, ◌+◌, ◌-◌, ℕ, List, [], ◌∷◌, ◌++◌, length, take, drop, sym, ◌∙◌, ap, subst, arith}
use Rattle.std.proofs.Math.Seq.{drop-append-add, drop-append_seam, take-append_seam}
use Rattle.std.proofs.lemmas.List.{take-append-le, drop-append-le, length-drop, length-take-le, take-append-drop}
use Rattle.mdbox_base.specs.declared.metadata.ExtRef.{ExtRef}
use Rattle.model_attach.specs.Rejoined.{IsWhole, IsWholeFrom, part_text}
use Rattle.attach_join.specs.Spread.{outside, outside_from, InRow, RangesAreFilled}
use Rattle.attach_join.proofs.SpreadLemmas.{drop-twice}

row_reaches : (place : ℕ) (before : List ExtRef) (ref : ExtRef) (after : List ExtRef) → InRow place (before ++ ref ∷ after) → place ≤ ref.start
row_reaches place [] ref after h = h.0
row_reaches place (r ∷ before) ref after h =
    let rest : r.start + r.count ≤ ref.start = row_reaches (r.start + r.count) before ref after h.1 in
    let first = h.0 in
    omega (arith, rest, first)

-- behind the range
past_range : (place : ℕ) (ref : ExtRef) (after : List ExtRef) (front mid back : List ℕ) → place ≤ ref.start → length front ≡ ref.start - place → length mid ≡ ref.count
    → outside_from place (ref ∷ after) (front ++ (mid ++ back)) ≡ front ++ outside_from (ref.start + ref.count) after back
past_range place ref after front mid back from long count =
    let one : ref.start - place ≡ length front = sym long in
    let two : ref.start + ref.count - place ≡ length front + length mid = omega (arith, from, long, count) in
    ap (λ (n : ℕ). take n (front ++ (mid ++ back)) ++ outside_from (ref.start + ref.count) after (drop (ref.start + ref.count - place) (front ++ (mid ++ back)))) one
    ∙ (ap (λ (n : ℕ). take (length front) (front ++ (mid ++ back)) ++ outside_from (ref.start + ref.count) after (drop n (front ++ (mid ++ back)))) two
    ∙ (ap (λ (xs : List ℕ). xs ++ outside_from (ref.start + ref.count) after (drop (length front + length mid) (front ++ (mid ++ back)))) (take-append_seam front (mid ++ back))
    ∙ (ap (λ (xs : List ℕ). front ++ outside_from (ref.start + ref.count) after xs) (drop-append-add front (mid ++ back) (length mid) ∙ drop-append_seam mid back))))

pub outside_kept : (place : ℕ) (before : List ExtRef) (ref : ExtRef) (after : List ExtRef) (front mid new back : List ℕ) → InRow place (before ++ ref ∷ after) → length front ≡ ref.start - place → length mid ≡ ref.count → length new ≡ ref.count
    → outside_from place (before ++ ref ∷ after) (front ++ (new ++ back)) ≡ outside_from place (before ++ ref ∷ after) (front ++ (mid ++ back))
outside_kept place [] ref after front mid new back row long count same =
    past_range place ref after front new back row.0 long same ∙ sym (past_range place ref after front mid back row.0 long count)
outside_kept place (r ∷ before) ref after front mid new back row long count same =
    let from = row.0 in
    let reach : r.start + r.count ≤ ref.start = row_reaches (r.start + r.count) before ref after row.1 in
    let k : r.start + r.count - place ≤ length front = omega (arith, from, reach, long) in
    let j : r.start - place ≤ length front = omega (arith, from, reach, long) in
    let shorter : length (drop (r.start + r.count - place) front) ≡ ref.start - (r.start + r.count) = length-drop (r.start + r.count - place) front ∙ omega (arith, from, reach, long) in
    split new j k ∙ (ap (λ (xs : List ℕ). take (r.start - place) front ++ xs) (outside_kept (r.start + r.count) before ref after (drop (r.start + r.count - place) front) mid new back row.1 shorter count same) ∙ sym (split mid j k))
  where
    split : (x : List ℕ) → r.start - place ≤ length front → r.start + r.count - place ≤ length front
        → outside_from place (r ∷ before ++ ref ∷ after) (front ++ (x ++ back)) ≡ take (r.start - place) front ++ outside_from (r.start + r.count) (before ++ ref ∷ after) (drop (r.start + r.count - place) front ++ (x ++ back))
    split x j k =
        ap (λ (xs : List ℕ). xs ++ outside_from (r.start + r.count) (before ++ ref ∷ after) (drop (r.start + r.count - place) (front ++ (x ++ back)))) (take-append-le (r.start - place) front (x ++ back) j)
        ∙ ap (λ (xs : List ℕ). take (r.start - place) front ++ outside_from (r.start + r.count) (before ++ ref ∷ after) xs) (drop-append-le (r.start + r.count - place) front (x ++ back) k)

-- ---- all ranges filled

whole_parts : (a c : ℕ) (part text : List ℕ) → take c (drop a text) ≡ part → text ≡ take a text ++ (part ++ drop (a + c) text)
whole_parts a c part text is =
    sym (take-append-drop a text)
    ∙ ap (λ (xs : List ℕ). take a text ++ xs) (sym (take-append-drop c (drop a text)) ∙ (ap (λ (xs : List ℕ). xs ++ drop c (drop a text)) is ∙ ap (λ (xs : List ℕ). part ++ xs) (drop-twice a c text)))

pub filled_whole : (place : ℕ) (refs : List ExtRef) (instances : List (List ℕ)) (text : List ℕ) → RangesAreFilled place refs instances text → IsWholeFrom place text (outside_from place refs text) refs instances
filled_whole place [] [] text h = refl
filled_whole place [] (octets ∷ instances) text h = absurd h
filled_whole place (ref ∷ refs) [] text h = absurd h
filled_whole place (ref ∷ refs) (octets ∷ instances) text h =
    let from = h.0 in
    let within = h.1 in
    let a : ref.start - place ≤ length text = omega (arith, from, within) in
    let e : ref.start - place + ref.count ≡ ref.start + ref.count - place = omega (arith, from) in
    let room : ref.count ≤ length (drop (ref.start - place) text) = (let l = length-drop (ref.start - place) text in omega (arith, l, from, within)) in
    let long : length (take (ref.start - place) text) ≡ ref.start - place = length-take-le (ref.start - place) text a in (
      take (ref.start - place) text,
      drop (ref.start + ref.count - place) text,
      outside_from (ref.start + ref.count) refs (drop (ref.start + ref.count - place) text),
      subst (λ (n : ℕ). text ≡ take (ref.start - place) text ++ (part_text ref.form octets ++ drop n text)) e (whole_parts (ref.start - place) ref.count (part_text ref.form octets) text h.2),
      refl,
      omega (arith, long, from),
      ap length (sym h.2) ∙ length-take-le ref.count (drop (ref.start - place) text) room,
      filled_whole (ref.start + ref.count) refs instances (drop (ref.start + ref.count - place) text) h.3,
    )

pub filled : (refs : List ExtRef) (instances : List (List ℕ)) (whole body : List ℕ) → outside refs whole ≡ body → RangesAreFilled 0 refs instances whole → IsWhole whole body refs instances
filled refs instances whole body is h = subst (λ (b : List ℕ). IsWhole whole b refs instances) is (filled_whole 0 refs instances whole h)
