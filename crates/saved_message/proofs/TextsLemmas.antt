-- The last text of a region, and what is written in it.
use Rattle.std.proofs.Common.{◌≡◌, ◌≤◌, ◌+◌, ℕ, List, ◌++◌, sym, ◌∙◌, ap, append_assoc, arith, drop, length}
use Rattle.std.proofs.Math.Seq.{drop-append_seam}
use Rattle.std.proofs.lemmas.List.{append_cancel_right, drop-append-le, length-drop}
use Rattle.mdbox_base.specs.declared.ids.InstId.{InstId}
use Rattle.attach_detach.specs.declared.message.Detached.{Detached}
use Rattle.saved_message.specs.References.{HasReferencesAt, marked}
use Rattle.saved_message.specs.Region.{references_naming}

behind : (before old front back : List ℕ) → length before ≤ length front → before ++ old ≡ front ++ back → old ≡ drop (length before) front ++ back
behind before old front back within is = sym (drop-append_seam before old) ∙ (ap (drop (length before)) is ∙ drop-append-le (length before) front back within)

again : (before old front back : List ℕ) → length before ≤ length front → before ++ old ≡ front ++ back → before ++ drop (length before) front ≡ front
again before old front back within is =
    append_cancel_right (before ++ drop (length before) front) front back (append_assoc before (drop (length before) front) back ∙ (ap (λ (x : List ℕ). before ++ x) (sym (behind before old front back within is)) ∙ is))

-- where what is behind them was changed, the whole was
pub rejoined : (before old new front back more : List ℕ) → length before ≤ length front → before ++ old ≡ front ++ back → new ≡ drop (length before) front ++ more → before ++ new ≡ front ++ more
rejoined before old new front back more within is set =
    ap (λ (x : List ℕ). before ++ x) set ∙ (sym (append_assoc before (drop (length before) front) more) ∙ ap (λ (x : List ℕ). x ++ more) (again before old front back within is))

-- digits that were put there
pub put_behind : (before old new octets : List ℕ) (at : ℕ) → ((front digits back : List ℕ) → old ≡ front ++ (digits ++ back) → at ≡ length front → length digits ≡ 32 → new ≡ front ++ (octets ++ back))
    → (front digits back : List ℕ) → before ++ old ≡ front ++ (digits ++ back) → length before + at ≡ length front → length digits ≡ 32 → before ++ new ≡ front ++ (octets ++ back)
put_behind before old new octets at put front digits back is begins long =
    let within : length before ≤ length front = omega (arith, begins) in
    let l = length-drop (length before) front in
    rejoined before old new front (digits ++ back) (octets ++ back) within is (put (drop (length before) front) digits back (behind before old front (digits ++ back) within is) (omega (arith, begins, l)) long)

-- references that stand there
pub references_behind : (before front : List ℕ) (parts : List Detached) (ids : List InstId) (back : List ℕ) (mark start : ℕ) (sizes text : List ℕ) → HasReferencesAt front parts ids back mark (length before + start) sizes (before ++ text)
    → HasReferencesAt (drop (length before) front) parts ids back mark start sizes text
references_behind before front parts ids back mark start sizes text h =
    let begins = h.begin in
    let within : length before ≤ length front = omega (arith, begins) in
    let l = length-drop (length before) front in
    record {
      stand = behind before text front (marked mark (references_naming parts ids) ++ back) within h.stand;
      begin = omega (arith, begins, l);
      one_each = h.one_each;
      ids_fit = h.ids_fit;
      sizes_are = h.sizes_are;
    }
