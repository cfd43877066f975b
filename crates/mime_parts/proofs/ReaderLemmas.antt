-- The state of the reader from one line to the next.
use Rattle.std.proofs.Common.{refl, ◌≡◌, ◌≢◌, ◌<◌, ◌≤◌, ◌+◌, ◌-◌, ℕ, zero, suc, min, Bool, true, false, List, [], ◌∷◌, ◌++◌, length, take, drop, sym, ◌∙◌, ap, subst, inl, inr, ◌⊎◌, arith, append_assoc, append-nil, length-append, lit≤, lit<, get_or}
use Rattle.std.specs.Prelude.{flat_map, filter_map, if◌then◌else◌, ◌||◌, ◌==◌, nat_lt, nat_le, MatchBool}
use Rattle.std.specs.List.{list_any}
use Rattle.std.proofs.lemmas.Bool.Decides.{nat_tests, leb_tells}
use Rattle.std.proofs.lemmas.List.{length-map, length-take-le, length-drop, nil_from_length, take-append-drop, map-append}
use Rattle.std.proofs.Math.Seq.{drop-cons}
use Rattle.std.proofs.lemmas.List.Folds.{list_any-append}
use Rattle.model_mime.specs.declared.mime.Coding.{Coding}
use Rattle.model_mime.specs.declared.mime.Kind.{Kind}
use Rattle.model_mime.specs.declared.mime.Kind.TheVariants as kinds
use Rattle.model_mime.specs.declared.mime.Fields.{Fields}
use Rattle.model_mime.specs.declared.mime.Part.{Part}
use Rattle.model_mime.specs.declared.mime.Line.{Line}
use Rattle.model_mime.specs.Lines.{TextLine, lines_from, range, IsLineAt, line_in}
use Rattle.model_mime.specs.Fields.{fields_of}
use Rattle.model_mime.specs.Parts.{part_found, Found, found_in, whole_entity, is_too_deep, within_limits, parts_in, part_of, trimmed_size, is_other, ends_part, part_lines, part_end, parts_of}
use Rattle.model_mime.specs.Parts.Found.{APart}
use Rattle.mime_parts.specs.ToCome.{open_found, own_end, end_here, to_come}
use Rattle.mime_parts.specs.Marks.{MarkSays, EndsAt}
use Rattle.mime_parts.specs.Reading.{found_parts, boundary_in, after_head, IsOpen, HasLevel, IsRead, IsOutsideParts, ReadingEndsAs, Ended}
use Rattle.mime_parts.specs.declared.reader.Reader.{Reader}
use Rattle.mime_parts.specs.declared.reader.Place.{Place}
use Rattle.mime_parts.specs.declared.reader.Place.TheVariants as places
use Rattle.mime_parts.specs.declared.mark.Mark.TheVariants as marks
use Rattle.mime_parts.proofs.StepLemmas.{head_goes_on, leaf_opens, leaf_at, is_leaf, passed, opened, closed, delimited, flushed}

or_right : (x y : Bool) → y ≡ true → (x || y) ≡ true
or_right true y e = refl
or_right false y e = e

limits_none : (found : List Found) → (list_any is_too_deep found || nat_lt 10000 (length found)) ≡ true → within_limits found ≡ []
limits_none found e = rw e

above : (n : ℕ) → 10000 < n → nat_lt 10000 n ≡ true
above n h = grind (arith, nat_tests)

-- what passes a limit so far passes it in the end
pub too_many : (message : List ℕ) (found rest : List Found) → found ++ rest ≡ found_in message 64 (whole_entity message) → 10000 < length found → parts_in message ≡ []
unfolding parts_in
too_many message found rest e h =
    limits_none (found_in message 64 (whole_entity message)) (or_right (list_any is_too_deep (found_in message 64 (whole_entity message))) _ (above _ (omega (arith, h, length-append found rest, ap length e))))

pub too_deep : (message : List ℕ) (found rest : List Found) → found ++ rest ≡ found_in message 64 (whole_entity message) → list_any is_too_deep rest ≡ true → parts_in message ≡ []
unfolding parts_in
too_deep message found rest e h =
    let any : list_any is_too_deep (found_in message 64 (whole_entity message)) ≡ true = ap (list_any is_too_deep) (sym e) ∙ list_any-append is_too_deep found rest ∙ or_right (list_any is_too_deep found) _ h in
    limits_none (found_in message 64 (whole_entity message)) (ap (λ (b : Bool). b || nat_lt 10000 (length (found_in message 64 (whole_entity message)))) any)

-- an entity that is open on no level is too deep
deep_at : (message : List ℕ) (start end : ℕ) (ls : List TextLine) → list_any is_too_deep (found_in message 0 (record { start = start; end = end; lines = ls })) ≡ true
unfolding found_in
deep_at message start end ls = refl

or_left : (x y : Bool) → x ≡ true → (x || y) ≡ true
or_left true y e = refl
or_left false y e = absurd (cc)

pub deep : (message : List ℕ) (levels : ℕ) (stack : List (List ℕ)) (start before end : ℕ) (ls : List TextLine) → length stack ≡ levels
    → list_any is_too_deep (to_come message levels stack (places.Head start) before ls end) ≡ true
deep message levels [] start before end ls e = subst (λ (n : ℕ). list_any is_too_deep (found_in message n (record { start = start; end = end; lines = ls })) ≡ true) e (deep_at message start end ls)
deep message zero (b ∷ inner) start before end ls e = absurd (omega arith)
deep message (suc levels) (b ∷ inner) start before end ls e =
    list_any-append is_too_deep (to_come message levels inner (places.Head start) before (part_lines b ls) (part_end b (end_here inner (places.Head start) before) end ls)) (flat_map (found_in message levels) (parts_of b end ls))
    ∙ or_left _ _ (deep message levels inner start before (part_end b (end_here inner (places.Head start) before) end ls) (part_lines b ls) (omega arith))

-- the up to a place
take_outer : (outer inner : List (List ℕ)) (b : List ℕ) (k : ℕ) → length outer ≡ k → take (k + 1) (outer ++ b ∷ inner) ≡ outer ++ b ∷ []
take_outer [] inner b k e = let n : k + 1 ≡ suc zero = omega arith in ap (λ (n : ℕ). take n (b ∷ inner)) n
take_outer (a ∷ outer) inner b k e =
    let n : k + 1 ≡ suc (length outer + 1) = omega arith in
    ap (λ (n : ℕ). take n (a ∷ (outer ++ b ∷ inner))) n ∙ ap (λ (x : List (List ℕ)). a ∷ x) (take_outer outer inner b (length outer) refl)

take_before : (outer rest : List (List ℕ)) (k : ℕ) → length outer ≡ k → take k (outer ++ rest) ≡ outer
take_before [] rest k e = ap (λ (n : ℕ). take n rest) (sym e)
take_before (a ∷ outer) rest k e =
    let n : k ≡ suc (length outer) = omega arith in
    ap (λ (n : ℕ). take n (a ∷ (outer ++ rest))) n ∙ ap (λ (x : List (List ℕ)). a ∷ x) (take_before outer rest (length outer) refl)

-- where what is open ends, by the place of the boundary
end_by : (outer inner : List (List ℕ)) (b : List ℕ) (k n : ℕ) (place : Place) (before : ℕ) → length outer ≡ k → length (outer ++ b ∷ inner) ≡ n
    → (if k + 1 == n then own_end place before else before) ≡ end_here inner place before
end_by outer [] b k n place before e m = let same : k + 1 ≡ n = omega (arith, length-append outer (b ∷ [])) in let test : (k + 1 == n) ≡ true = grind (arith, nat_tests) in rw test
end_by outer (a ∷ inner) b k n place before e m = let less : k + 1 < n = omega (arith, length-append outer (b ∷ a ∷ inner)) in let test : (k + 1 == n) ≡ false = grind (arith, nat_tests) in rw test

-- What is still to come from a delimiter line on.
pub delimit_all : (message : List ℕ) (s : Reader) (line : Line) (k : ℕ) (r : IsRead message s line.start) → IsLineAt message line.start line
    → EndsAt s.stack.items (range message line.start line.end) k (MarkSays marks.Delimiter)
    → to_come message 64 s.stack.items s.place s.before (lines_from line.start (drop line.start message)) (length message)
    ≡ open_found message r.levels s.place [] (if k + 1 == length s.stack.items then own_end s.place s.before else s.before)
    ++ to_come message 64 (take (k + 1) s.stack.items) (places.Head line.next) line.end (lines_from line.next (drop line.next message)) (length message)
delimit_all message s line k r h e =
    let size : length (e.outer ++ e.boundary ∷ e.inner) ≡ length s.stack.items = ap length (sym e.parts) in
    let here = end_by e.outer e.inner e.boundary k (length s.stack.items) s.place s.before e.place size in
    let taken : take (k + 1) s.stack.items ≡ e.outer ++ e.boundary ∷ [] = ap (take (k + 1)) e.parts ∙ take_outer e.outer e.inner e.boundary k e.place in
    let l : TextLine = line_in message line in
    rw (h.lines, here, taken, e.parts)
    (delimited message r.levels 64 e.outer e.inner e.boundary s.place s.before (length message) l (lines_from line.next (drop line.next message)) (omega (arith, size, r.few)) h.break e.before e.says.0 e.says.1)

has_level : (p : Place) (levels at : ℕ) → IsOpen p levels at → HasLevel p levels
has_level places.Between levels at h = tt
has_level (places.Head start) levels at h = h.0
has_level (places.Body start body coding other) levels at h = tt

-- what is found behind the ended entity is all
all_behind : (found found' gone rest all whole : List Found) → found' ≡ found ++ gone → whole ≡ gone ++ rest → found ++ whole ≡ all → found' ++ rest ≡ all
all_behind found found' gone rest all whole e f h = rw (e, append_assoc) (ap (λ (x : List Found). found ++ x) (sym f) ∙ h)

-- the reader behind a delimiter line
pub delimit_next : (message : List ℕ) (s mid new : Reader) (line : Line) (k end : ℕ) (r : IsRead message s line.start) → IsLineAt message line.start line
    → EndsAt s.stack.items (range message line.start line.end) k (MarkSays marks.Delimiter)
    → end ≡ (if k + 1 == length s.stack.items then own_end s.place s.before else s.before)
    → Ended message s mid end true
    → new.stack.items ≡ take (k + 1) mid.stack.items → new.place ≡ places.Head line.next → new.before ≡ line.end → new.parts.items ≡ mid.parts.items
    → (k + 1 < 64 → IsRead message new line.next) × (64 ≤ k + 1 → parts_in message ≡ [])
delimit_next message s mid new line k end r h e f d stack here before parts =
    let told = d.parts refl in
    let gone : open_found message r.levels s.place [] (if k + 1 == length s.stack.items then own_end s.place s.before else s.before) ≡ d.found =
    ap (λ (n : ℕ). open_found message r.levels s.place [] n) (sym f) ∙ d.gives r.levels (has_level s.place r.levels line.start r.open_here) in
    let inside : k + 1 ≤ length s.stack.items = omega (arith, e.place, length-append e.outer (e.boundary ∷ e.inner), ap length e.parts) in
    let stack_is : new.stack.items ≡ take (k + 1) s.stack.items = stack ∙ ap (take (k + 1)) d.stack in
    let size : length new.stack.items ≡ k + 1 = ap length stack_is ∙ length-take-le (k + 1) s.stack.items inside in
    let rest : List Found = to_come message 64 new.stack.items (places.Head line.next) line.end (lines_from line.next (drop line.next message)) (length message) in
    let whole : to_come message 64 s.stack.items s.place s.before (lines_from line.start (drop line.start message)) (length message) ≡ d.found ++ rest =
    delimit_all message s line k r h e ∙ ap (λ (x : List Found). x ++ to_come message 64 (take (k + 1) s.stack.items) (places.Head line.next) line.end (lines_from line.next (drop line.next message)) (length message)) gone
    ∙ ap (λ (x : List (List ℕ)). d.found ++ to_come message 64 x (places.Head line.next) line.end (lines_from line.next (drop line.next message)) (length message)) (sym stack_is) in
    let all = all_behind (found_parts s.parts.items) (found_parts mid.parts.items) d.found rest (found_in message 64 (whole_entity message)) _ told.1 whole r.all in (
      λ less. record {
        levels = 64 - (k + 1);
        few = omega arith;
        few_parts = omega (arith, told.0, ap length parts);
        open_here = subst (λ (p : Place). IsOpen p (64 - (k + 1)) line.next) (sym here) (omega arith, omega arith);
        before = omega (arith, before, h.break);
        within = h.within;
        all = rw (parts, here, before) all;
      },
      λ many. too_deep message (found_parts mid.parts.items) rest all (deep message 64 new.stack.items line.next line.end (length message) (lines_from line.next (drop line.next message)) (omega (arith, r.few))),
    )

-- What is still to come from a closing line on.
pub close_all : (message : List ℕ) (s : Reader) (line : Line) (k : ℕ) (r : IsRead message s line.start) → IsLineAt message line.start line
    → EndsAt s.stack.items (range message line.start line.end) k (MarkSays marks.Closing)
    → to_come message 64 s.stack.items s.place s.before (lines_from line.start (drop line.start message)) (length message)
    ≡ open_found message r.levels s.place [] (if k + 1 == length s.stack.items then own_end s.place s.before else s.before)
    ++ to_come message 64 (take k s.stack.items) places.Between line.end (lines_from line.next (drop line.next message)) (length message)
close_all message s line k r h e =
    let size : length (e.outer ++ e.boundary ∷ e.inner) ≡ length s.stack.items = ap length (sym e.parts) in
    let here = end_by e.outer e.inner e.boundary k (length s.stack.items) s.place s.before e.place size in
    let taken : take k s.stack.items ≡ e.outer = ap (take k) e.parts ∙ take_before e.outer (e.boundary ∷ e.inner) k e.place in
    let l : TextLine = line_in message line in
    rw (h.lines, here, taken, e.parts)
    (closed message r.levels 64 e.outer e.inner e.boundary s.place s.before (length message) l (lines_from line.next (drop line.next message)) (omega (arith, size, r.few)) e.before e.says)

-- the reader behind a closing line
pub close_next : (message : List ℕ) (s mid new : Reader) (line : Line) (k end : ℕ) (r : IsRead message s line.start) → IsLineAt message line.start line
    → EndsAt s.stack.items (range message line.start line.end) k (MarkSays marks.Closing)
    → end ≡ (if k + 1 == length s.stack.items then own_end s.place s.before else s.before)
    → Ended message s mid end true
    → new.stack.items ≡ take k mid.stack.items → new.place ≡ places.Between → new.before ≡ line.end → new.parts.items ≡ mid.parts.items
    → IsRead message new line.next
close_next message s mid new line k end r h e f d stack here before parts =
    let told = d.parts refl in
    let gone : open_found message r.levels s.place [] (if k + 1 == length s.stack.items then own_end s.place s.before else s.before) ≡ d.found =
    ap (λ (n : ℕ). open_found message r.levels s.place [] n) (sym f) ∙ d.gives r.levels (has_level s.place r.levels line.start r.open_here) in
    let inside : k + 1 ≤ length s.stack.items = omega (arith, e.place, length-append e.outer (e.boundary ∷ e.inner), ap length e.parts) in
    let stack_is : new.stack.items ≡ take k s.stack.items = stack ∙ ap (take k) d.stack in
    let size : length new.stack.items ≡ k = ap length stack_is ∙ length-take-le k s.stack.items (omega arith) in
    let rest : List Found = to_come message 64 new.stack.items places.Between line.end (lines_from line.next (drop line.next message)) (length message) in
    let whole : to_come message 64 s.stack.items s.place s.before (lines_from line.start (drop line.start message)) (length message) ≡ d.found ++ rest =
    close_all message s line k r h e ∙ ap (λ (x : List Found). x ++ to_come message 64 (take k s.stack.items) places.Between line.end (lines_from line.next (drop line.next message)) (length message)) gone
    ∙ ap (λ (x : List (List ℕ)). d.found ++ to_come message 64 x places.Between line.end (lines_from line.next (drop line.next message)) (length message)) (sym stack_is) in
    let all = all_behind (found_parts s.parts.items) (found_parts mid.parts.items) d.found rest (found_in message 64 (whole_entity message)) _ told.1 whole r.all in
    record {
      levels = 64 - k;
      few = omega (arith, r.few);
      few_parts = omega (arith, told.0, ap length parts);
      open_here = subst (λ (p : Place). IsOpen p (64 - k) line.next) (sym here) tt;
      before = omega (arith, before, h.break);
      within = h.within;
      all = rw (parts, here, before) all;
    }

-- too many parts, before a line
pub ended_many : (message : List ℕ) (s mid : Reader) (at end end' : ℕ) (rest : List Found) (r : IsRead message s at) → end ≡ end'
    → to_come message 64 s.stack.items s.place s.before (lines_from at (drop at message)) (length message) ≡ open_found message r.levels s.place [] end' ++ rest
    → Ended message s mid end false → parts_in message ≡ []
ended_many message s mid at end end' rest r f e d =
    let gone : open_found message r.levels s.place [] end' ≡ d.found = ap (λ (n : ℕ). open_found message r.levels s.place [] n) (sym f) ∙ d.gives r.levels (has_level s.place r.levels at r.open_here) in
    let all : (found_parts s.parts.items ++ d.found) ++ rest ≡ found_in message 64 (whole_entity message) = all_behind (found_parts s.parts.items) _ d.found rest (found_in message 64 (whole_entity message)) _ refl (e ∙ ap (λ (x : List Found). x ++ rest) gone) r.all in
    too_many message (found_parts s.parts.items ++ d.found) rest all (d.many refl)

-- a line's text by its places
pub length-range : (message : List ℕ) (start end : ℕ) → start ≤ end → end ≤ length message → length (range message start end) ≡ end - start
length-range message start end h l = length-take-le (end - start) (drop start message) (omega (arith, length-drop start message))

own_line : (p : Place) (levels at e : ℕ) → IsOpen p levels at → at ≤ e → own_end p e ≡ e
own_line places.Between levels at e h l = refl
own_line (places.Head start) levels at e h l = omega (arith, h.1)
own_line (places.Body start body coding other) levels at e h l = omega arith

later : (p : Place) (levels at e : ℕ) → IsOpen p levels at → at ≤ e → IsOpen p levels e
later places.Between levels at e h l = tt
later (places.Head start) levels at e h l = (h.0, omega (arith, h.1))
later (places.Body start body coding other) levels at e h l = omega arith

-- The reader behind a line that ends no part, where the line changes what is open so.
pub pass_next : (message : List ℕ) (s new : Reader) (line : Line) (r : IsRead message s line.start) → IsLineAt message line.start line
    → list_any (λ b. ends_part b (range message line.start line.end)) s.stack.items ≡ false
    → ((lv : ℕ) (xs : List TextLine) (f : ℕ) → lv + length s.stack.items ≡ 64 → open_found message lv s.place (line_in message line ∷ xs) f ≡ open_found message lv new.place xs f)
    → IsOpen new.place r.levels line.start
    → new.stack.items ≡ s.stack.items → new.before ≡ line.end → new.parts.items ≡ s.parts.items
    → IsRead message new line.next
pass_next message s new line r h none base open_new stack before parts =
    let l : TextLine = line_in message line in
    let own : own_end new.place line.end ≡ line.end = own_line new.place r.levels line.start line.end open_new h.order in
    let more = passed message 64 s.stack.items s.place new.place s.before (length message) l (lines_from line.next (drop line.next message)) none base own in
    record {
      levels = r.levels;
      few = rw stack r.few;
      few_parts = rw parts r.few_parts;
      open_here = later new.place r.levels line.start line.next open_new (omega (arith, h.goes_on));
      before = omega (arith, before, h.break);
      within = h.within;
      all = rw (stack, before, parts) (ap (λ (x : List Found). found_parts s.parts.items ++ x) (sym (ap (λ (x : List TextLine). to_come message 64 s.stack.items s.place s.before x (length message)) h.lines ∙ more)) ∙ r.all);
    }

-- a line that isn't empty, in any place
pub keeps_open : (message : List ℕ) (p : Place) (l : TextLine) → 0 < length l.text → (lv : ℕ) (xs : List TextLine) (f : ℕ) → open_found message lv p (l ∷ xs) f ≡ open_found message lv p xs f
keeps_open message places.Between l h lv xs f = refl
keeps_open message (places.Head start) l h lv xs f = head_goes_on message lv start f l xs h
keeps_open message (places.Body start body coding other) l h lv xs f = refl

-- a choice by a test
pub by_test : (m n : ℕ) {A B : Type 0} → (m < n → A) → (n ≤ m → B) → MatchBool (nat_lt m n) A B
by_test m n {A = A} {B = B} f g = elim (leb_tells (suc m) n) as (λ _. MatchBool (nat_lt m n) A B) [
  | inl t ↦ subst (λ (b : Bool). MatchBool b A B) (sym t.0) (f (omega (arith, t.1)))
  | inr t ↦ subst (λ (b : Bool). MatchBool b A B) (sym t.0) (g (omega (arith, t.1)))
]

-- the line that makes a leaf of an entity, and the one that opens a multipart
pub leaf_next : (message : List ℕ) (s new : Reader) (line : Line) (r : IsRead message s line.start) → IsLineAt message line.start line
    → list_any (λ b. ends_part b (range message line.start line.end)) s.stack.items ≡ false
    → (start : ℕ) (fields : Fields) → s.place ≡ places.Head start → line.start ≡ line.end
    → fields ≡ fields_of (range message start line.start) → is_leaf fields.kind ≡ true
    → new.place ≡ places.Body start line.next fields.coding (is_other fields.kind)
    → new.stack.items ≡ s.stack.items → new.before ≡ line.end → new.parts.items ≡ s.parts.items
    → IsRead message new line.next
leaf_next message s new line r h none start fields was empty said leaf now stack before parts =
    let size : length (range message line.start line.end) ≡ 0 = omega (arith, length-range message line.start line.end h.order (omega (arith, h.break, h.within))) in
    let open_was : IsOpen (places.Head start) r.levels line.start = subst (λ (p : Place). IsOpen p r.levels line.start) was r.open_here in
    let kind : is_leaf (fields_of (range message start line.start)).kind ≡ true = subst (λ (f : Fields). is_leaf f.kind ≡ true) said leaf in
    let opens : (lv : ℕ) (xs : List TextLine) (f : ℕ) → lv + length s.stack.items ≡ 64 → open_found message lv (places.Head start) (line_in message line ∷ xs) f ≡ open_found message lv (places.Body start line.next fields.coding (is_other fields.kind)) xs f =
    λ lv xs f n. let up : suc (lv - 1) ≡ lv = omega (arith, n, open_was.0, r.few) in
    subst (λ (m : ℕ). found_in message m (record { start = start; end = f; lines = line_in message line ∷ xs }) ≡ APart (part_of message fields.coding (is_other fields.kind) (min line.next f) f) ∷ []) up
    (leaf_opens message (lv - 1) start f (line_in message line) xs size kind ∙ ap (λ (g : Fields). APart (part_of message g.coding (is_other g.kind) (min line.next f) f) ∷ []) (sym said)) in
    pass_next message s new line r h none
    (rw (was, now) opens)
    (rw now open_was.1) stack before parts

pub multipart_next : (message : List ℕ) (s new : Reader) (line : Line) (r : IsRead message s line.start) → IsLineAt message line.start line
    → list_any (λ b. ends_part b (range message line.start line.end)) s.stack.items ≡ false
    → (start : ℕ) (fields : Fields) (b : List ℕ) → s.place ≡ places.Head start → line.start ≡ line.end
    → fields ≡ fields_of (range message start line.start) → fields.kind ≡ kinds.Multipart b
    → new.stack.items ≡ s.stack.items ++ b ∷ [] → new.place ≡ places.Between → new.before ≡ line.end → new.parts.items ≡ s.parts.items
    → IsRead message new line.next
multipart_next message s new line r h none start fields b was empty said multi stack now before parts =
    let l : TextLine = line_in message line in
    let size : length (range message line.start line.end) ≡ 0 = omega (arith, length-range message line.start line.end h.order (omega (arith, h.break, h.within))) in
    let open_was : IsOpen (places.Head start) r.levels line.start = subst (λ (p : Place). IsOpen p r.levels line.start) was r.open_here in
    let kind : (fields_of (range message start line.start)).kind ≡ kinds.Multipart b = subst (λ (f : Fields). f.kind ≡ kinds.Multipart b) said multi in
    let more = opened message 64 s.stack.items start s.before (length message) l (lines_from line.next (drop line.next message)) b none (omega (arith, open_was.0, r.few)) size kind in
    let here : to_come message 64 s.stack.items s.place s.before (lines_from line.start (drop line.start message)) (length message) ≡ to_come message 64 (s.stack.items ++ b ∷ []) places.Between line.end (lines_from line.next (drop line.next message)) (length message) =
    rw (was, h.lines) more in
    let stack_is : new.stack.items ≡ s.stack.items ++ b ∷ [] = stack in
    record {
      levels = r.levels - 1;
      few = omega (arith, r.few, ap length stack, length-append s.stack.items (b ∷ []), open_was.0);
      few_parts = rw parts r.few_parts;
      open_here = subst (λ (p : Place). IsOpen p (r.levels - 1) line.next) (sym now) tt;
      before = omega (arith, before, h.break);
      within = h.within;
      all = rw (stack_is, before, parts, now) (ap (λ (x : List Found). found_parts s.parts.items ++ x) (sym here) ∙ r.all);
    }

a_kind : (k : Kind) → (is_leaf k ≡ true) ⊎ ((b : List ℕ) × (k ≡ kinds.Multipart b))
a_kind kinds.Missing = inl refl
a_kind kinds.Unreadable = inl refl
a_kind kinds.Text = inl refl
a_kind kinds.Message = inl refl
a_kind (kinds.Multipart b) = inr (b, refl)
a_kind kinds.Other = inl refl

-- the header block of a leaf opens no boundary, and its body follows
pub leaf_after : (k : Kind) (start body : ℕ) (coding : Coding) → is_leaf k ≡ true → (boundary_in k ≡ []) × (after_head start body coding k ≡ places.Body start body coding (is_other k))
leaf_after kinds.Missing start body coding h = (refl, refl)
leaf_after kinds.Unreadable start body coding h = (refl, refl)
leaf_after kinds.Text start body coding h = (refl, refl)
leaf_after kinds.Message start body coding h = (refl, refl)
leaf_after (kinds.Multipart b) start body coding h = cc h
leaf_after kinds.Other start body coding h = (refl, refl)

pub other_kind : (k : Kind) → ((b : List ℕ) → k ≢ kinds.Multipart b) → k ≢ kinds.Other → (is_leaf k ≡ true) × (is_other k ≡ false)
other_kind kinds.Missing h o = (refl, refl)
other_kind kinds.Unreadable h o = (refl, refl)
other_kind kinds.Text h o = (refl, refl)
other_kind kinds.Message h o = (refl, refl)
other_kind (kinds.Multipart b) h o = absurd (h b refl)
other_kind kinds.Other h o = absurd (o refl)

-- the empty line at the end of a header block
pub head_ended : (message : List ℕ) (s new : Reader) (line : Line) (r : IsRead message s line.start) → IsLineAt message line.start line
    → list_any (λ b. ends_part b (range message line.start line.end)) s.stack.items ≡ false
    → (start : ℕ) (fields : Fields) → s.place ≡ places.Head start → line.start ≡ line.end
    → fields ≡ fields_of (range message start line.start)
    → new.stack.items ≡ s.stack.items ++ boundary_in fields.kind
    → new.place ≡ after_head start line.next fields.coding fields.kind → new.before ≡ line.end → new.parts.items ≡ s.parts.items
    → IsRead message new line.next
head_ended message s new line r h none start fields was empty said stack now before parts = elim (a_kind fields.kind) [
  | inl leaf ↦ let after = leaf_after fields.kind start line.next fields.coding leaf in
      leaf_next message s new line r h none start fields was empty said leaf (now ∙ after.1)
      (stack ∙ ap (λ (x : List (List ℕ)). s.stack.items ++ x) after.0 ∙ append-nil s.stack.items) before parts
  | inr multi ↦ multipart_next message s new line r h none start fields multi.0 was empty said multi.1
      (stack ∙ ap (λ (k : Kind). s.stack.items ++ boundary_in k) multi.1) (now ∙ ap (λ (k : Kind). after_head start line.next fields.coding k) multi.1) before parts
]

pub keeps_closed : (message : List ℕ) (p : Place) (l : TextLine) → ((s : ℕ) → p ≢ places.Head s) → (lv : ℕ) (xs : List TextLine) (f : ℕ) → open_found message lv p (l ∷ xs) f ≡ open_found message lv p xs f
keeps_closed message places.Between l h lv xs f = refl
keeps_closed message (places.Head start) l h lv xs f = absurd (h start refl)
keeps_closed message (places.Body start body coding other) l h lv xs f = refl

-- a line that changes nothing of what is open
pub same_next : (message : List ℕ) (s new : Reader) (line : Line) (r : IsRead message s line.start) → IsLineAt message line.start line
    → list_any (λ b. ends_part b (range message line.start line.end)) s.stack.items ≡ false
    → ((lv : ℕ) (xs : List TextLine) (f : ℕ) → open_found message lv s.place (line_in message line ∷ xs) f ≡ open_found message lv s.place xs f)
    → new.place ≡ s.place → new.stack.items ≡ s.stack.items → new.before ≡ line.end → new.parts.items ≡ s.parts.items
    → IsRead message new line.next
same_next message s new line r h none kept now stack before parts =
    pass_next message s new line r h none (rw now (λ lv xs f n. kept lv xs f)) (rw now r.open_here) stack before parts

pub full_line : (message : List ℕ) (line : Line) → IsLineAt message line.start line → line.start ≢ line.end → 0 < length (range message line.start line.end)
full_line message line h ne = omega (arith, length-range message line.start line.end h.order (omega (arith, h.break, h.within)), h.order, ne)

-- the reader before the first line
pub read_start : (message : List ℕ) (s : Reader) → s.stack.items ≡ [] → s.place ≡ places.Head 0 → s.before ≡ 0 → s.parts.items ≡ [] → IsRead message s 0
read_start message s stack now before parts = record {
  levels = 64;
  few = rw stack refl;
  few_parts = rw parts (lit≤ tt);
  open_here = rw now (lit< tt, lit≤ tt);
  before = omega arith;
  within = omega arith;
  all = rw (stack, now, parts) refl;
}

no_lines : (message : List ℕ) (at : ℕ) → length message ≤ at → lines_from at (drop at message) ≡ []
no_lines message at h = rw (nil_from_length (drop at message) (omega (arith, length-drop at message))) refl

pub end_all : (message : List ℕ) (s : Reader) (at : ℕ) → length message ≤ at → ReadingEndsAs message s at
end_all message s at h levels few = rw (no_lines message at h) (flushed message levels 64 s.stack.items s.place s.before (length message) (omega (arith, few)))

-- the end of a message in which no multipart is open
same_body : (message : List ℕ) (p : Place) (levels levels' : ℕ) (ls : List TextLine) (end : ℕ) → ((start : ℕ) → p ≢ places.Head start) → open_found message levels p ls end ≡ open_found message levels' p [] end
same_body message places.Between levels levels' ls end h = refl
same_body message (places.Head start) levels levels' ls end h = absurd (h start refl)
same_body message (places.Body start body coding other) levels levels' ls end h = refl

pub end_settled : (message : List ℕ) (s : Reader) (at : ℕ) → IsOutsideParts s → ReadingEndsAs message s at
end_settled message s at h levels few = rw h.alone (same_body message s.place 64 levels (lines_from at (drop at message)) (length message) h.body)

-- the end, with nothing behind it
pub end_behind : (message : List ℕ) (s : Reader) (at : ℕ) (r : IsRead message s at) → ReadingEndsAs message s at
    → to_come message 64 s.stack.items s.place s.before (lines_from at (drop at message)) (length message) ≡ open_found message r.levels s.place [] (length message) ++ []
end_behind message s at r h = h r.levels r.few ∙ sym (append-nil _)

no_deep : (parts : List Part) → list_any is_too_deep (found_parts parts) ≡ false
no_deep [] = refl
no_deep (p ∷ parts) = no_deep parts

all_parts : (parts : List Part) → filter_map part_found (found_parts parts) ≡ parts
all_parts [] = refl
all_parts (p ∷ parts) = ap (λ (x : List Part). p ∷ x) (all_parts parts)

few_enough : (n : ℕ) → n ≤ 10000 → nat_lt 10000 n ≡ false
few_enough n h = grind (arith, nat_tests)

pub parts_end : (message : List ℕ) (s mid : Reader) (at : ℕ) (r : IsRead message s at) → ReadingEndsAs message s at → Ended message s mid (length message) true → mid.parts.items ≡ parts_in message
unfolding parts_in
parts_end message s mid at r h d =
    let told = d.parts refl in
    let gone : open_found message r.levels s.place [] (length message) ≡ d.found = d.gives r.levels (has_level s.place r.levels at r.open_here) in
    let all : found_parts mid.parts.items ++ [] ≡ found_in message 64 (whole_entity message) = all_behind (found_parts s.parts.items) (found_parts mid.parts.items) d.found [] (found_in message 64 (whole_entity message)) _ told.1 (end_behind message s at r h ∙ ap (λ (x : List Found). x ++ []) gone) r.all in
    let size : length (found_parts mid.parts.items) ≡ length mid.parts.items = length-map mid.parts.items (λ p. APart p) in
    let limits : within_limits (found_parts mid.parts.items) ≡ mid.parts.items = rw (no_deep mid.parts.items, few_enough (length (found_parts mid.parts.items)) (omega (arith, told.0, size))) (all_parts mid.parts.items) in
    sym (ap within_limits (sym all ∙ append-nil (found_parts mid.parts.items)) ∙ limits)

-- what is open ends: one part more, or none
pub ended_some : (message : List ℕ) (s new : Reader) (end : ℕ) (p : Part) → ((levels : ℕ) → HasLevel s.place levels → open_found message levels s.place [] end ≡ APart p ∷ [])
    → length s.parts.items < 10000 → new.stack.items ≡ s.stack.items → new.place ≡ s.place → new.parts.items ≡ s.parts.items ++ p ∷ [] → Ended message s new end true
ended_some message s new end p gives few stack now parts = record {
  stack = stack;
  place = now;
  found = APart p ∷ [];
  gives = gives;
  parts = λ _. (omega (arith, few, ap length parts, length-append s.parts.items (p ∷ [])), ap found_parts parts ∙ map-append (λ q. APart q) s.parts.items (p ∷ []));
  many = λ q. absurd (cc);
}

pub ended_full : (message : List ℕ) (s new : Reader) (end : ℕ) (p : Part) → ((levels : ℕ) → HasLevel s.place levels → open_found message levels s.place [] end ≡ APart p ∷ [])
    → 10000 ≤ length s.parts.items → new.stack.items ≡ s.stack.items → new.place ≡ s.place → Ended message s new end false
ended_full message s new end p gives many stack now = record {
  stack = stack;
  place = now;
  found = APart p ∷ [];
  gives = gives;
  parts = λ q. absurd (cc);
  many = λ _. omega (arith, many, length-append (found_parts s.parts.items) (APart p ∷ []), length-map s.parts.items (λ q. APart q));
}

pub ended_none : (message : List ℕ) (s new : Reader) (end : ℕ) → ((levels : ℕ) → HasLevel s.place levels → open_found message levels s.place [] end ≡ [])
    → length s.parts.items ≤ 10000 → new.stack.items ≡ s.stack.items → new.place ≡ s.place → new.parts.items ≡ s.parts.items → Ended message s new end true
ended_none message s new end gives few stack now parts = record {
  stack = stack;
  place = now;
  found = [];
  gives = gives;
  parts = λ _. (rw parts few, ap found_parts parts ∙ sym (append-nil (found_parts s.parts.items)));
  many = λ q. absurd (cc);
}

-- the outermost boundary that a line ends a part of, at its place
pub ends_at : (stack : List (List ℕ)) (text : List ℕ) (k : ℕ) (b : List ℕ) (P : List ℕ → List ℕ → Type 0) → k < length stack → b ≡ get_or stack k b
    → list_any (λ b. ends_part b text) (take k stack) ≡ false → P b text → EndsAt stack text k P
ends_at stack text k b P h is none says = record {
  outer = take k stack;
  boundary = b;
  inner = drop (suc k) stack;
  parts = let cut : take k stack ++ b ∷ drop (suc k) stack ≡ stack = ap (λ (c : List ℕ). take k stack ++ c ∷ drop (suc k) stack) is ∙ ap (λ (x : List (List ℕ)). take k stack ++ x) (sym (drop-cons stack k b h)) ∙ take-append-drop k stack in
      sym cut;
  place = length-take-le k stack (omega arith);
  before = none;
  says = says;
}

le_yes : (m n : ℕ) → m ≤ n → nat_le m n ≡ true
le_yes m n h = grind (arith, nat_tests)

le_no : (m n : ℕ) → n < m → nat_le m n ≡ false
le_no m n h = grind (arith, nat_tests)

-- a part by its size
pub part_big : (message : List ℕ) (coding : Coding) (other : Bool) (start end size : ℕ) → size ≡ trimmed_size (range message start end) → other ≡ true → 131072 ≤ size
    → part_of message coding other start end ≡ record { start = start; end = start + size; coding = coding; detachable = true }
unfolding part_of
part_big message coding other start end size is o h =
    let big : nat_le 131072 (trimmed_size (range message start end)) ≡ true = le_yes 131072 _ (omega (arith, is, h)) in
    rw (o, big, is) refl

pub part_small : (message : List ℕ) (coding : Coding) (start end size : ℕ) → size ≡ trimmed_size (range message start end) → size < 131072
    → (other : Bool) → part_of message coding other start end ≡ record { start = start; end = end; coding = coding; detachable = false }
unfolding part_of
part_small message coding start end size is h true = rw (le_no 131072 (trimmed_size (range message start end)) (omega (arith, is, h))) refl
part_small message coding start end size is h false = refl

pub part_plain : (message : List ℕ) (coding : Coding) (start end : ℕ) (other : Bool) → other ≡ false → part_of message coding other start end ≡ record { start = start; end = end; coding = coding; detachable = false }
unfolding part_of
part_plain message coding start end other e = rw e refl

-- what an entity that ends in its header block gives
block_is : (message : List ℕ) (start from end : ℕ) → (start < end) × (from ≡ start) ⊎ (end ≤ start) × (from ≡ end) → range message from end ≡ range message start end
block_is message start from end (inl h) = ap (λ (k : ℕ). range message k end) h.1
block_is message start from end (inr h) =
    let a : end - from ≡ 0 = omega (arith, h.1) in let b : end - start ≡ 0 = omega (arith, h.0) in
    ap (λ (k : ℕ). take k (drop from message)) a ∙ sym (ap (λ (k : ℕ). take k (drop start message)) b)

empty_multipart : (message : List ℕ) (levels start end : ℕ) (b : List ℕ) → (fields_of (range message start end)).kind ≡ kinds.Multipart b → found_in message (suc levels) (record { start = start; end = end; lines = [] }) ≡ []
unfolding found_in parts_of
empty_multipart message levels start end b kind = rw kind refl

empty_leaf : (message : List ℕ) (levels start end : ℕ) → is_leaf (fields_of (range message start end)).kind ≡ true
    → found_in message (suc levels) (record { start = start; end = end; lines = [] }) ≡ APart (part_of message (fields_of (range message start end)).coding (is_other (fields_of (range message start end)).kind) end end) ∷ []
unfolding found_in
empty_leaf message levels start end leaf = leaf_at message (found_in message levels) (record { start = start; end = end; lines = [] }) (fields_of (range message start end)).coding (fields_of (range message start end)).kind leaf

pub head_multipart : (message : List ℕ) (start from end : ℕ) (p : Place) (fields : Fields) (b : List ℕ) → p ≡ places.Head start → (start < end) × (from ≡ start) ⊎ (end ≤ start) × (from ≡ end)
    → fields ≡ fields_of (range message from end) → fields.kind ≡ kinds.Multipart b → (levels : ℕ) → HasLevel p levels → open_found message levels p [] end ≡ []
head_multipart message start from end p fields b was two said multi levels h =
    let level : 0 < levels = subst (λ (p : Place). HasLevel p levels) was h in
    let kind : (fields_of (range message start end)).kind ≡ kinds.Multipart b = ap (λ (x : List ℕ). (fields_of x).kind) (sym (block_is message start from end two)) ∙ sym (ap (λ (f : Fields). f.kind) said) ∙ multi in
    let up : suc (levels - 1) ≡ levels = omega (arith, level) in
    rw was (subst (λ (n : ℕ). found_in message n (record { start = start; end = end; lines = [] }) ≡ []) up (empty_multipart message (levels - 1) start end b kind))

pub head_leaf : (message : List ℕ) (start from end : ℕ) (p : Place) (fields : Fields) (other : Bool) (part : Part) → p ≡ places.Head start → (start < end) × (from ≡ start) ⊎ (end ≤ start) × (from ≡ end)
    → fields ≡ fields_of (range message from end) → is_leaf fields.kind ≡ true → is_other fields.kind ≡ other → part ≡ part_of message fields.coding other end end
    → (levels : ℕ) → HasLevel p levels → open_found message levels p [] end ≡ APart part ∷ []
head_leaf message start from end p fields other part was two said leaf kind is levels h =
    let level : 0 < levels = subst (λ (p : Place). HasLevel p levels) was h in
    let up : suc (levels - 1) ≡ levels = omega (arith, level) in
    let all : fields ≡ fields_of (range message start end) = said ∙ ap fields_of (block_is message start from end two) in
    let got = empty_leaf message (levels - 1) start end (subst (λ (f : Fields). is_leaf f.kind ≡ true) all leaf) in
    rw was (subst (λ (n : ℕ). found_in message n (record { start = start; end = end; lines = [] }) ≡ APart part ∷ []) up
    (got ∙ ap (λ (f : Fields). APart (part_of message f.coding (is_other f.kind) end end) ∷ []) (sym all) ∙ ap (λ (o : Bool). APart (part_of message fields.coding o end end) ∷ []) kind ∙ ap (λ (x : Part). APart x ∷ []) (sym is)))
