-- The replies of a script, one after another, and where their steps stand in the journal.
use Rattle.std.specs.Prelude.{◌≡◌, ◌≢◌, ◌≤◌, ◌<◌, ◌+◌, ◌==◌, ◌&&◌, ℕ, suc, Bool, true, false, cond, if◌then◌else◌, slice_get, List, [], ◌∷◌, ◌++◌, length, take, drop, get_or, refl, Option, Some, None}
use Rattle.std.proofs.Common.{sym, ◌∙◌, ap, subst, arith, append_assoc, append-nil}
use Rattle.std.proofs.Math.ListN.{set, length-set}
use Rattle.std.proofs.lemmas.Bool.{eqb-true, eqb-false, ne_eqb}
use Rattle.std.proofs.lemmas.List.{take-append-drop, take_all, take_more, length-take, drop_all, get_or-set_same, get_or-set_other}
use Rattle.std.proofs.lemmas.Option.{slice_get-get_or, slice_get_within, get_or_from_slice_get}
use Rattle.mdbox_base.specs.declared.replies.Reply.{Reply}
use Rattle.mdbox_base.specs.declared.script.Half.{Half}
use Rattle.mdbox_base.specs.declared.script.Half.TheVariants as half
use Rattle.mdbox_base.specs.declared.script.JournalEntry.{JournalEntry}
use Rattle.piece_writer.specs.Pieces.{Gathers, WritesPrefix}
use Rattle.piece_writer.proofs.PieceLemmas.{cut_before, cut_more, passed_more, passed_nothing}
use Rattle.request_text.specs.BatchText.{same_half, place_from, request_steps, answer_text, replies_from, batch_text}
use Rattle.request_text.specs.Steps.{or_place, with_place, AreStepsOf}
use Rattle.request_text.specs.declared.places.Steps.{Steps}

-- ---- places

-- the place that is there, or else this one where the test passed
abbrev or_after : Option ℕ → Bool → ℕ → Option ℕ
or_after (Some place) test next = Some place
or_after None true next = Some next
or_after None false next = None

last_place : (b : Bool) (n m : ℕ) → n ≡ m → cond b (Some n) None ≡ or_after None b m
last_place true n m e = ap Some e
last_place false n m e = refl

step_on : (b c : Bool) (n m : ℕ) (here there : Option ℕ) → here ≡ or_after there c m → cond b (Some n) here ≡ or_after (cond b (Some n) there) c m
step_on true c n m here there e = refl
step_on false c n m here there e = e

place_more : (n : ℕ) (xs : List JournalEntry) (e : JournalEntry) (r : ℕ) (h : Half) → place_from n (xs ++ e ∷ []) r h ≡ or_after (place_from n xs r h) (e.request == r && same_half e.half h) (n + length xs)
place_more n [] e r h = last_place (e.request == r && same_half e.half h) n (n + 0) (omega arith)
place_more n (x ∷ xs) e r h =
    let t = e.request == r && same_half e.half h in
    let m : n + 1 + length xs ≡ n + suc (length xs) = omega arith in
    step_on (x.request == r && same_half x.half h) t n (n + suc (length xs)) (place_from (n + 1) (xs ++ e ∷ []) r h) (place_from (n + 1) xs r h) (place_more (n + 1) xs e r h ∙ ap (or_after (place_from (n + 1) xs r h) t) m)

kept : (o : Option ℕ) (m : ℕ) → or_after o false m ≡ o
kept None m = refl
kept (Some x) m = refl

added : (o : Option ℕ) (m : ℕ) → or_after o true m ≡ or_place o m
added None m = refl
added (Some x) m = refl

made_steps : Option ℕ → Option ℕ → Option ℕ → Steps
made_steps whole copied removed = record { whole = whole; copied = copied; removed = removed }

by_half : (h : Half) (whole copied removed : Option ℕ) (m : ℕ)
    → made_steps (or_after whole (same_half h half.Whole) m) (or_after copied (same_half h half.CopyHalf) m) (or_after removed (same_half h half.ExpungeHalf) m) ≡ with_place h m (made_steps whole copied removed)
unfolding made_steps
by_half half.Whole whole copied removed m = rw (added whole m, kept copied m, kept removed m) refl
by_half half.CopyHalf whole copied removed m = rw (kept whole m, added copied m, kept removed m) refl
by_half half.ExpungeHalf whole copied removed m = rw (kept whole m, kept copied m, added removed m) refl

three : (a b c d e f : Option ℕ) → a ≡ d → b ≡ e → c ≡ f → made_steps a b c ≡ made_steps d e f
three a b c d e f p q r = rw (p, q, r) refl

-- an entry of this request
pub steps_more : (xs : List JournalEntry) (e : JournalEntry) (r : ℕ) → (e.request == r) ≡ true → request_steps (xs ++ e ∷ []) r ≡ with_place e.half (length xs + 1) (request_steps xs r)
unfolding made_steps
steps_more xs e r is =
    let m : 1 + length xs ≡ length xs + 1 = omega arith in
    let one = λ (h : Half). place_more 1 xs e r h ∙ ap (λ (b : Bool). or_after (place_from 1 xs r h) (b && same_half e.half h) (1 + length xs)) is ∙ ap (or_after (place_from 1 xs r h) (same_half e.half h)) m in
    three _ _ _ _ _ _ (one half.Whole) (one half.CopyHalf) (one half.ExpungeHalf)
    ∙ by_half e.half (place_from 1 xs r half.Whole) (place_from 1 xs r half.CopyHalf) (place_from 1 xs r half.ExpungeHalf) (length xs + 1)

-- an entry of another
pub steps_other : (xs : List JournalEntry) (e : JournalEntry) (r : ℕ) → (e.request == r) ≡ false → request_steps (xs ++ e ∷ []) r ≡ request_steps xs r
unfolding made_steps
steps_other xs e r is =
    let one = λ (h : Half). place_more 1 xs e r h ∙ ap (λ (b : Bool). or_after (place_from 1 xs r h) (b && same_half e.half h) (1 + length xs)) is ∙ kept (place_from 1 xs r h) (1 + length xs) in
    three _ _ _ _ _ _ (one half.Whole) (one half.CopyHalf) (one half.ExpungeHalf)

-- a row that is changed, and the others
rows_by : (rows : List Steps) (e r : ℕ) (w s d : Steps) (f : Steps → Steps) (b : Bool) → (e == r) ≡ b → e < length rows → w ≡ f (get_or rows e d) → slice_get rows r ≡ Some s → slice_get (set rows e w) r ≡ Some (if b then f s else s)
rows_by rows e r w s d f true t lt is at =
    let same : e ≡ r = eqb-true e r t in
    let old : get_or rows e d ≡ s = ap (λ (k : ℕ). get_or rows k d) same ∙ get_or_from_slice_get rows r s d at in
    let within : r < length (set rows e w) = omega (arith, same, lt, length-set rows e w) in
    slice_get-get_or (set rows e w) r d within ∙ ap Some (ap (λ (k : ℕ). get_or (set rows e w) k d) (sym same) ∙ get_or-set_same rows e w d lt ∙ is ∙ ap f old)
rows_by rows e r w s d f false t lt is at =
    let other : r ≢ e = λ q. eqb-false e r t (sym q) in
    let here : r < length rows = slice_get_within rows r s at in
    let within : r < length (set rows e w) = omega (arith, here, length-set rows e w) in
    slice_get-get_or (set rows e w) r d within ∙ ap Some (get_or-set_other rows e r w d other ∙ get_or_from_slice_get rows r s d at)

pub row_noted : (rows : List Steps) (e r : ℕ) (w s d : Steps) (f : Steps → Steps) → e < length rows → w ≡ f (get_or rows e d) → slice_get rows r ≡ Some s → slice_get (set rows e w) r ≡ Some (if e == r then f s else s)
row_noted rows e r w s d f lt is at = rows_by rows e r w s d f (e == r) refl lt is at

-- an entry of a request without a row
by_false : (b : Bool) (o : Option Steps) (f s : Steps) → b ≡ false → o ≡ Some s → o ≡ Some (if b then f else s)
by_false true o f s t at = absurd (cc t)
by_false false o f s t at = at

pub row_kept : (rows : List Steps) (e r : ℕ) (f s : Steps) → length rows ≤ e → slice_get rows r ≡ Some s → slice_get rows r ≡ Some (if e == r then f else s)
row_kept rows e r f s le at =
    let here : r < length rows = slice_get_within rows r s at in
    by_false (e == r) (slice_get rows r) f s (ne_eqb e r (λ q. omega (arith, q, here, le))) at

-- one entry more
steps_by : (b : Bool) (xs : List JournalEntry) (e : JournalEntry) (r : ℕ) → (e.request == r) ≡ b → (if b then with_place e.half (length xs + 1) (request_steps xs r) else request_steps xs r) ≡ request_steps (xs ++ e ∷ []) r
steps_by true xs e r t = sym (steps_more xs e r t)
steps_by false xs e r t = sym (steps_other xs e r t)

pub steps_to : (j : List JournalEntry) (at : ℕ) (e : JournalEntry) (r : ℕ) → at < length j → e ≡ get_or j at e
    → (if e.request == r then with_place e.half (at + 1) (request_steps (take at j) r) else request_steps (take at j) r) ≡ request_steps (take (at + 1) j) r
steps_to j at e r lt is =
    let cut : take (at + 1) j ≡ take at j ++ e ∷ [] = take_more j at e lt ∙ ap (λ (x : JournalEntry). take at j ++ x ∷ []) (sym is) in
    let long : length (take at j) ≡ at = omega (arith, length-take at j) in
    ap (λ (k : ℕ). if e.request == r then with_place e.half (k + 1) (request_steps (take at j) r) else request_steps (take at j) r) (sym long)
    ∙ steps_by (e.request == r) (take at j) e r refl
    ∙ ap (λ (t : List JournalEntry). request_steps t r) (sym cut)

pub steps_noted : (j : List JournalEntry) (at count : ℕ) (e d : JournalEntry) (old new : List Steps) → at < length j → e ≡ get_or j at d → length new ≡ length old → AreStepsOf (take at j) count old
    → ((r : ℕ) (s : Steps) → slice_get old r ≡ Some s → slice_get new r ≡ Some (if e.request == r then with_place e.half (at + 1) s else s)) → AreStepsOf (take (at + 1) j) count new
steps_noted j at count e d old new lt is long a noted = record {
  count_is = long ∙ a.count_is;
  each = λ r below. noted r (request_steps (take at j) r) (a.each r below) ∙ ap Some (steps_to j at e r lt (is ∙ get_or_any j at d e lt));
}
  where
    get_or_any : (j : List JournalEntry) (at : ℕ) (d e : JournalEntry) → at < length j → get_or j at d ≡ get_or j at e
    get_or_any j at d e lt = get_or_from_slice_get j at (get_or j at e) d (slice_get-get_or j at e lt)

-- what was written through a slice of a vector
pub written_back : (n : ℕ) (new old : List Steps) → length new ≡ n → n ≡ length old → take n (new ++ drop (length new) old) ≡ new
written_back n new old p q =
    let none : drop (length new) old ≡ [] = drop_all (length new) old (omega (arith, p, q)) in
    ap (λ (t : List Steps). take n (new ++ t)) none ∙ ap (take n) (append-nil new) ∙ take_all n new (omega (arith, p))

-- ---- the text

pub replies_rest : (j : List JournalEntry) (n : ℕ) (xs ys : List (Option Reply)) → replies_from j n (xs ++ ys) ≡ replies_from j n xs ++ replies_from j (n + length xs) ys
replies_rest j n [] ys = ap (λ (k : ℕ). replies_from j k ys) (let z : n ≡ n + 0 = omega arith in z)
replies_rest j n (x ∷ xs) ys =
    let here = answer_text (n + 1) (request_steps j n) x in
    let m : n + 1 + length xs ≡ n + suc (length xs) = omega arith in
    ap (λ (t : List ℕ). here ++ t) (replies_rest j (n + 1) xs ys ∙ ap (λ (k : ℕ). replies_from j (n + 1) xs ++ replies_from j k ys) m)
    ∙ sym (append_assoc here (replies_from j (n + 1) xs) (replies_from j (n + suc (length xs)) ys))

-- the text of the first so many replies
abbrev pub text_to : List JournalEntry → List (Option Reply) → ℕ → List ℕ
text_to j replies i = replies_from j 0 (take i replies)

one_more : (j : List JournalEntry) (replies : List (Option Reply)) (answer : Option Reply) (i : ℕ) → i < length replies → answer ≡ get_or replies i answer
    → text_to j replies (i + 1) ≡ text_to j replies i ++ answer_text (i + 1) (request_steps j i) answer
one_more j replies answer i l is =
    let cut : take (i + 1) replies ≡ take i replies ++ answer ∷ [] = take_more replies i answer l ∙ ap (λ (x : Option Reply). take i replies ++ x ∷ []) (sym is) in
    let long : 0 + length (take i replies) ≡ i = omega (arith, length-take i replies) in
    ap (replies_from j 0) cut ∙ replies_rest j 0 (take i replies) (answer ∷ [])
    ∙ ap (λ (k : ℕ). text_to j replies i ++ (answer_text (k + 1) (request_steps j k) answer ++ [])) long
    ∙ ap (λ (t : List ℕ). text_to j replies i ++ t) (append-nil (answer_text (i + 1) (request_steps j i) answer))

pub batch_begins : (h : Option (List ℕ)) (j : List JournalEntry) (replies : List (Option Reply)) (p : List ℕ) → Gathers h p (text_to j replies 0) h p
batch_begins h j replies p = passed_nothing h p

pub batch_goes_on : (h k l : Option (List ℕ)) (j : List JournalEntry) (replies : List (Option Reply)) (answer : Option Reply) (p q r : List ℕ) (i : ℕ) → i < length replies → answer ≡ get_or replies i answer
    → Gathers h p (text_to j replies i) k q → Gathers k q (answer_text (i + 1) (request_steps j i) answer) l r → Gathers h p (text_to j replies (i + 1)) l r
batch_goes_on h k l j replies answer p q r i b is first second =
    subst (λ (t : List ℕ). Gathers h p t l r) (sym (one_more j replies answer i b is)) (passed_more h k l p q r (text_to j replies i) (answer_text (i + 1) (request_steps j i) answer) first second)

pub batch_cut : (h k l : Option (List ℕ)) (j : List JournalEntry) (replies : List (Option Reply)) (answer : Option Reply) (p q : List ℕ) (i : ℕ) → i < length replies → answer ≡ get_or replies i answer
    → Gathers h p (text_to j replies i) k q → WritesPrefix k q (answer_text (i + 1) (request_steps j i) answer) l → WritesPrefix h p (batch_text j replies) l
batch_cut h k l j replies answer p q i b is first second =
    let whole : batch_text j replies ≡ text_to j replies (i + 1) ++ replies_from j (0 + length (take (i + 1) replies)) (drop (i + 1) replies) =
    ap (replies_from j 0) (sym (take-append-drop (i + 1) replies)) ∙ replies_rest j 0 (take (i + 1) replies) (drop (i + 1) replies) in
    subst (λ (t : List ℕ). WritesPrefix h p t l) (sym whole)
    (cut_before h l p (text_to j replies (i + 1)) (replies_from j (0 + length (take (i + 1) replies)) (drop (i + 1) replies))
    (subst (λ (t : List ℕ). WritesPrefix h p t l) (sym (one_more j replies answer i b is)) (cut_more h k l p q (text_to j replies i) (answer_text (i + 1) (request_steps j i) answer) first second)))

pub batch_passed : (h k : Option (List ℕ)) (j : List JournalEntry) (replies : List (Option Reply)) (p q : List ℕ) (i : ℕ) → length replies ≤ i → Gathers h p (text_to j replies i) k q → Gathers h p (batch_text j replies) k q
batch_passed h k j replies p q i a first = subst (λ (t : List ℕ). Gathers h p t k q) (ap (replies_from j 0) (take_all i replies a)) first
