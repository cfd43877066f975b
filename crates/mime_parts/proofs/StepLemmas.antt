-- What is still to be found, from one line to the next.
use Rattle.std.proofs.Common.{refl, ◌≡◌, ◌<◌, ◌≤◌, ◌+◌, ℕ, zero, suc, min, max, Bool, true, false, cond, List, [], ◌∷◌, ◌++◌, length, ◌∙◌, ap, arith, append_assoc, append-nil}
use Rattle.std.specs.Prelude.{flat_map, ◌||◌, ◌==◌}
use Rattle.std.proofs.Math.Nat.{max-eq_left}
use Rattle.std.proofs.lemmas.Bool.Decides.{nat_tests}
use Rattle.std.specs.List.{list_any}
use Rattle.model_mime.specs.declared.mime.Coding.{Coding}
use Rattle.model_mime.specs.declared.mime.Kind.{Kind}
use Rattle.model_mime.specs.declared.mime.Kind.TheVariants as kinds
use Rattle.model_mime.specs.declared.mime.Fields.{Fields}
use Rattle.model_mime.specs.Lines.{TextLine, range}
use Rattle.model_mime.specs.Fields.{fields_of}
use Rattle.model_mime.specs.Parts.{Entity, Found, part_of, is_other, body_lines, head_end, body_start, is_delimiter, is_closing, ends_part, part_lines, part_end, parts_of, found_in, leaf_or_parts, fields_in}
use Rattle.model_mime.specs.Parts.Found.{APart}
use Rattle.mime_parts.specs.ToCome.{open_found, own_end, end_here, to_come}
use Rattle.mime_parts.specs.declared.reader.Place.{Place}
use Rattle.mime_parts.specs.declared.reader.Place.TheVariants as places

-- the definitions at one line
pub part_lines-on : (b : List ℕ) (l : TextLine) (ls : List TextLine) → ends_part b l.text ≡ false → part_lines b (l ∷ ls) ≡ l ∷ part_lines b ls
unfolding part_lines
part_lines-on b l ls e = rw e

pub part_lines-at : (b : List ℕ) (l : TextLine) (ls : List TextLine) → ends_part b l.text ≡ true → part_lines b (l ∷ ls) ≡ []
unfolding part_lines
part_lines-at b l ls e = rw e

pub part_end-on : (b : List ℕ) (before end : ℕ) (l : TextLine) (ls : List TextLine) → ends_part b l.text ≡ false → part_end b before end (l ∷ ls) ≡ part_end b l.end end ls
unfolding part_end
part_end-on b before end l ls e = rw e

pub part_end-at : (b : List ℕ) (before end : ℕ) (l : TextLine) (ls : List TextLine) → ends_part b l.text ≡ true → part_end b before end (l ∷ ls) ≡ before
unfolding part_end
part_end-at b before end l ls e = rw e

or_false : (x y : Bool) → (x || y) ≡ false → (x ≡ false) × (y ≡ false)
or_false true y e = absurd (cc)
or_false false y e = (refl, e)

or_true : (x : Bool) {y : Bool} → y ≡ true → (x || y) ≡ true
or_true true e = refl
or_true false e = e

pub parts_of-on : (b : List ℕ) (end : ℕ) (l : TextLine) (ls : List TextLine) → ends_part b l.text ≡ false → parts_of b end (l ∷ ls) ≡ parts_of b end ls
unfolding parts_of
parts_of-on b end l ls e =
    let both = or_false (is_delimiter b l.text) (is_closing b l.text) e in rw (both.1, both.0)

pub parts_of-closing : (b : List ℕ) (end : ℕ) (l : TextLine) (ls : List TextLine) → is_closing b l.text ≡ true → parts_of b end (l ∷ ls) ≡ []
unfolding parts_of
parts_of-closing b end l ls e = rw e

pub parts_of-delimiter : (b : List ℕ) (end : ℕ) (l : TextLine) (ls : List TextLine) → is_closing b l.text ≡ false → is_delimiter b l.text ≡ true
    → parts_of b end (l ∷ ls) ≡ record { start = l.next; end = part_end b l.next end ls; lines = part_lines b ls } ∷ parts_of b end ls
unfolding parts_of
parts_of-delimiter b end l ls e d = rw (e, d)

-- where the open entity ends behind a line is that line's end
end_here-line : (inner : List (List ℕ)) (place : Place) (at : ℕ) → own_end place at ≡ at → end_here inner place at ≡ at
end_here-line [] place at e = e
end_here-line (b ∷ inner) place at e = refl

end_here-more : (outer : List (List ℕ)) (b : List ℕ) (place : Place) (at : ℕ) → end_here (outer ++ b ∷ []) place at ≡ at
end_here-more [] b place at = refl
end_here-more (a ∷ outer) b place at = refl

-- A line that ends no part goes by, where it changes what is open so.
pub passed : (message : List ℕ) (levels : ℕ) (stack : List (List ℕ)) (place place' : Place) (before end : ℕ) (l : TextLine) (ls : List TextLine)
    → list_any (λ b. ends_part b l.text) stack ≡ false
    → ((lv : ℕ) (xs : List TextLine) (f : ℕ) → lv + length stack ≡ levels → open_found message lv place (l ∷ xs) f ≡ open_found message lv place' xs f)
    → own_end place' l.end ≡ l.end
    → to_come message levels stack place before (l ∷ ls) end ≡ to_come message levels stack place' l.end ls end
passed message levels [] place place' before end l ls e base own = base levels ls end (omega arith)
passed message zero (b ∷ inner) place place' before end l ls e base own = refl
passed message (suc levels) (b ∷ inner) place place' before end l ls e base own =
    let both = or_false (ends_part b l.text) (list_any (λ b. ends_part b l.text) inner) e in
    let here = end_here-line inner place' l.end own in
    let more = passed message levels inner place place' before (part_end b l.end end ls) l (part_lines b ls) both.1 (λ lv xs f h. base lv xs f (omega arith)) own in
    rw (part_lines-on b l ls both.0, part_end-on b (end_here inner place before) end l ls both.0, parts_of-on b end l ls both.0, here)
    (ap (λ (x : List Found). x ++ flat_map (found_in message levels) (parts_of b end ls)) more)

-- the definitions at the first empty line
zero_is : (n : ℕ) → n ≡ 0 → (n == 0) ≡ true
zero_is zero e = refl
zero_is (suc n) e = absurd (omega arith)

pub head_end-empty : (end : ℕ) (l : TextLine) (ls : List TextLine) → length l.text ≡ 0 → head_end end (l ∷ ls) ≡ l.start
head_end-empty end l ls e = ap (λ (b : Bool). cond b l.start (head_end end ls)) (zero_is (length l.text) e)

pub body_lines-empty : (l : TextLine) (ls : List TextLine) → length l.text ≡ 0 → body_lines (l ∷ ls) ≡ ls
body_lines-empty l ls e = ap (λ (b : Bool). cond b ls (body_lines ls)) (zero_is (length l.text) e)

pub body_start-empty : (end : ℕ) (l : TextLine) (ls : List TextLine) → length l.text ≡ 0 → body_start end (l ∷ ls) ≡ min l.next end
body_start-empty end l ls e = ap (λ (b : Bool). cond b (min l.next end) (body_start end ls)) (zero_is (length l.text) e)

not_zero : (n : ℕ) → 0 < n → (n == 0) ≡ false
not_zero n e = grind (arith, nat_tests)

pub head_end-on : (end : ℕ) (l : TextLine) (ls : List TextLine) → 0 < length l.text → head_end end (l ∷ ls) ≡ head_end end ls
head_end-on end l ls e = ap (λ (b : Bool). cond b l.start (head_end end ls)) (not_zero (length l.text) e)

pub body_lines-on : (l : TextLine) (ls : List TextLine) → 0 < length l.text → body_lines (l ∷ ls) ≡ body_lines ls
body_lines-on l ls e = ap (λ (b : Bool). cond b ls (body_lines ls)) (not_zero (length l.text) e)

pub body_start-on : (end : ℕ) (l : TextLine) (ls : List TextLine) → 0 < length l.text → body_start end (l ∷ ls) ≡ body_start end ls
body_start-on end l ls e = ap (λ (b : Bool). cond b (min l.next end) (body_start end ls)) (not_zero (length l.text) e)

-- what an entity holds is known from its end and its body
same_found : (message : List ℕ) (below : Entity → List Found) (start end : ℕ) (a b : List TextLine) (coding : Coding) (kind : Kind)
    → body_lines a ≡ body_lines b → body_start end a ≡ body_start end b
    → leaf_or_parts message below (record { start = start; end = end; lines = a }) coding kind ≡ leaf_or_parts message below (record { start = start; end = end; lines = b }) coding kind
same_found message below start end a b coding kinds.Missing lines at = rw at
same_found message below start end a b coding kinds.Unreadable lines at = rw at
same_found message below start end a b coding kinds.Text lines at = rw at
same_found message below start end a b coding kinds.Message lines at = rw at
same_found message below start end a b coding kinds.Other lines at = rw at
same_found message below start end a b coding (kinds.Multipart c) lines at = rw lines

-- a line that isn't empty changes nothing in an entity whose header block goes on
pub head_goes_on : (message : List ℕ) (levels start end : ℕ) (l : TextLine) (ls : List TextLine) → 0 < length l.text
    → found_in message levels (record { start = start; end = end; lines = l ∷ ls }) ≡ found_in message levels (record { start = start; end = end; lines = ls })
unfolding found_in
head_goes_on message zero start end l ls h = refl
head_goes_on message (suc levels) start end l ls h =
    let entity : Entity = record { start = start; end = end; lines = l ∷ ls } in
    let rest : Entity = record { start = start; end = end; lines = ls } in
    let fields : fields_in message entity ≡ fields_in message rest = ap (λ (n : ℕ). fields_of (range message start n)) (head_end-on end l ls h) in
    same_found message (found_in message levels) start end (l ∷ ls) ls (fields_in message entity).coding (fields_in message entity).kind (body_lines-on l ls h) (body_start-on end l ls h)
    ∙ ap (λ (f : Fields). leaf_or_parts message (found_in message levels) rest f.coding f.kind) fields

-- the empty line of an entity that is no multipart makes a leaf of it
abbrev pub is_leaf : Kind → Bool
is_leaf (kinds.Multipart b) = false
is_leaf _ = true

pub leaf_at : (message : List ℕ) (below : Entity → List Found) (e : Entity) (coding : Coding) (kind : Kind) → is_leaf kind ≡ true
    → leaf_or_parts message below e coding kind ≡ APart (part_of message coding (is_other kind) (body_start e.end e.lines) e.end) ∷ []
leaf_at message below e coding kinds.Missing h = refl
leaf_at message below e coding kinds.Unreadable h = refl
leaf_at message below e coding kinds.Text h = refl
leaf_at message below e coding kinds.Message h = refl
leaf_at message below e coding kinds.Other h = refl
leaf_at message below e coding (kinds.Multipart b) h = absurd (cc)

pub leaf_opens : (message : List ℕ) (levels start end : ℕ) (l : TextLine) (ls : List TextLine)
    → length l.text ≡ 0 → is_leaf (fields_of (range message start l.start)).kind ≡ true
    → found_in message (suc levels) (record { start = start; end = end; lines = l ∷ ls })
    ≡ APart (part_of message (fields_of (range message start l.start)).coding (is_other (fields_of (range message start l.start)).kind) (min l.next end) end) ∷ []
unfolding found_in
leaf_opens message levels start end l ls e k =
    let entity : Entity = record { start = start; end = end; lines = l ∷ ls } in
    let at : head_end end (l ∷ ls) ≡ l.start = head_end-empty end l ls e in
    let fields : fields_in message entity ≡ fields_of (range message start l.start) = ap (λ (n : ℕ). fields_of (range message start n)) at in
    let leaf : is_leaf (fields_in message entity).kind ≡ true = ap (λ (f : Fields). is_leaf f.kind) fields ∙ k in
    leaf_at message (found_in message levels) entity (fields_in message entity).coding (fields_in message entity).kind leaf
    ∙ ap (λ (n : ℕ). APart (part_of message (fields_in message entity).coding (is_other (fields_in message entity).kind) n end) ∷ []) (body_start-empty end l ls e)
    ∙ ap (λ (f : Fields). APart (part_of message f.coding (is_other f.kind) (min l.next end) end) ∷ []) fields

-- the empty line of a multipart opens its body
multipart_opens : (message : List ℕ) (levels : ℕ) (start end : ℕ) (l : TextLine) (ls : List TextLine) (b : List ℕ)
    → length l.text ≡ 0 → (fields_of (range message start l.start)).kind ≡ kinds.Multipart b
    → found_in message (suc levels) (record { start = start; end = end; lines = l ∷ ls }) ≡ flat_map (found_in message levels) (parts_of b end ls)
unfolding found_in
multipart_opens message levels start end l ls b e k =
    let entity : Entity = record { start = start; end = end; lines = l ∷ ls } in
    let at : head_end end (l ∷ ls) ≡ l.start = head_end-empty end l ls e in
    let kind : (fields_in message entity).kind ≡ kinds.Multipart b = ap (λ (n : ℕ). (fields_of (range message start n)).kind) at ∙ k in
    ap (leaf_or_parts message (found_in message levels) entity (fields_in message entity).coding) kind
    ∙ ap (λ (x : List TextLine). flat_map (found_in message levels) (parts_of b end x)) (body_lines-empty l ls e)

pub opened : (message : List ℕ) (levels : ℕ) (stack : List (List ℕ)) (start before end : ℕ) (l : TextLine) (ls : List TextLine) (b : List ℕ)
    → list_any (λ b. ends_part b l.text) stack ≡ false → length stack < levels
    → length l.text ≡ 0 → (fields_of (range message start l.start)).kind ≡ kinds.Multipart b
    → to_come message levels stack (places.Head start) before (l ∷ ls) end ≡ to_come message levels (stack ++ b ∷ []) places.Between l.end ls end
opened message zero stack start before end l ls b e few empty k = absurd (omega arith)
opened message (suc levels) [] start before end l ls b e few empty k = multipart_opens message levels start end l ls b empty k
opened message (suc levels) (a ∷ inner) start before end l ls b e few empty k =
    let both = or_false (ends_part a l.text) (list_any (λ b. ends_part b l.text) inner) e in
    let here = end_here-line (inner ++ b ∷ []) places.Between l.end refl in
    let more = opened message levels inner start before (part_end a l.end end ls) l (part_lines a ls) b both.1 (omega arith) empty k in
    rw (part_lines-on a l ls both.0, part_end-on a (end_here inner (places.Head start) before) end l ls both.0, parts_of-on a end l ls both.0, here)
    (ap (λ (x : List Found). x ++ flat_map (found_in message levels) (parts_of a end ls)) more)

-- With no line left what is open ends.
part_lines-none : (b : List ℕ) → part_lines b [] ≡ []
unfolding part_lines
part_lines-none b = refl

part_end-none : (b : List ℕ) (before end : ℕ) → part_end b before end [] ≡ end
unfolding part_end
part_end-none b before end = refl

parts_of-none : (b : List ℕ) (end : ℕ) → parts_of b end [] ≡ []
unfolding parts_of
parts_of-none b end = refl

pub flushed : (message : List ℕ) (lv levels : ℕ) (stack : List (List ℕ)) (place : Place) (before end : ℕ) → lv + length stack ≡ levels
    → to_come message levels stack place before [] end ≡ open_found message lv place [] end
flushed message lv levels [] place before end e = ap (λ (n : ℕ). open_found message n place [] end) (omega arith)
flushed message lv zero (b ∷ inner) place before end e = absurd (omega arith)
flushed message lv (suc levels) (b ∷ inner) place before end e =
    rw (part_lines-none, part_end-none, parts_of-none)
    (append-nil (to_come message levels inner place before [] end) ∙ flushed message lv levels inner place before end (omega arith))

-- A closing line ends the entities within its multipart, and that.
pub closed : (message : List ℕ) (lv levels : ℕ) (outer inner : List (List ℕ)) (b : List ℕ) (place : Place) (before end : ℕ) (l : TextLine) (ls : List TextLine)
    → lv + length (outer ++ b ∷ inner) ≡ levels
    → list_any (λ b. ends_part b l.text) outer ≡ false → is_closing b l.text ≡ true
    → to_come message levels (outer ++ b ∷ inner) place before (l ∷ ls) end
    ≡ open_found message lv place [] (end_here inner place before) ++ to_come message levels outer places.Between l.end ls end
closed message lv zero [] inner b place before end l ls n e c = absurd (omega arith)
closed message lv zero (a ∷ outer) inner b place before end l ls n e c = absurd (omega arith)
closed message lv (suc levels) [] inner b place before end l ls n e c =
    let ends : ends_part b l.text ≡ true = or_true (is_delimiter b l.text) c in
    rw (part_lines-at b l ls ends, part_end-at b (end_here inner place before) end l ls ends, parts_of-closing b end l ls c)
    (ap (λ (x : List Found). x ++ []) (flushed message lv levels inner place before (end_here inner place before) (omega arith)))
closed message lv (suc levels) (a ∷ outer) inner b place before end l ls n e c =
    let both = or_false (ends_part a l.text) (list_any (λ b. ends_part b l.text) outer) e in
    let here = end_here-line outer places.Between l.end refl in
    let more = closed message lv levels outer inner b place before (part_end a l.end end ls) l (part_lines a ls) (omega arith) both.1 c in
    rw (part_lines-on a l ls both.0, part_end-on a (end_here (outer ++ b ∷ inner) place before) end l ls both.0, parts_of-on a end l ls both.0, here)
    (ap (λ (x : List Found). x ++ flat_map (found_in message levels) (parts_of a end ls)) more ∙ append_assoc (open_found message lv place [] (end_here inner place before)) (to_come message levels outer places.Between l.end (part_lines a ls) (part_end a l.end end ls)) _)

-- A delimiter line ends the entities within its multipart, and begins a part.
pub delimited : (message : List ℕ) (lv levels : ℕ) (outer inner : List (List ℕ)) (b : List ℕ) (place : Place) (before end : ℕ) (l : TextLine) (ls : List TextLine)
    → lv + length (outer ++ b ∷ inner) ≡ levels → l.end ≤ l.next
    → list_any (λ b. ends_part b l.text) outer ≡ false → is_closing b l.text ≡ false → is_delimiter b l.text ≡ true
    → to_come message levels (outer ++ b ∷ inner) place before (l ∷ ls) end
    ≡ open_found message lv place [] (end_here inner place before) ++ to_come message levels (outer ++ b ∷ []) (places.Head l.next) l.end ls end
delimited message lv zero [] inner b place before end l ls n h e c d = absurd (omega arith)
delimited message lv zero (a ∷ outer) inner b place before end l ls n h e c d = absurd (omega arith)
delimited message lv (suc levels) [] inner b place before end l ls n h e c d =
    let ends : ends_part b l.text ≡ true = rw d in
    let next : max l.next l.end ≡ l.next = max-eq_left h in
    rw (part_lines-at b l ls ends, part_end-at b (end_here inner place before) end l ls ends, parts_of-delimiter b end l ls c d, next)
    (ap (λ (x : List Found). x ++ (found_in message levels (record { start = l.next; end = part_end b l.next end ls; lines = part_lines b ls }) ++ flat_map (found_in message levels) (parts_of b end ls)))
    (flushed message lv levels inner place before (end_here inner place before) (omega arith)))
delimited message lv (suc levels) (a ∷ outer) inner b place before end l ls n h e c d =
    let both = or_false (ends_part a l.text) (list_any (λ b. ends_part b l.text) outer) e in
    let here : end_here (outer ++ b ∷ []) (places.Head l.next) l.end ≡ l.end = end_here-more outer b (places.Head l.next) l.end in
    let more = delimited message lv levels outer inner b place before (part_end a l.end end ls) l (part_lines a ls) (omega arith) h both.1 c d in
    rw (part_lines-on a l ls both.0, part_end-on a (end_here (outer ++ b ∷ inner) place before) end l ls both.0, parts_of-on a end l ls both.0, here)
    (ap (λ (x : List Found). x ++ flat_map (found_in message levels) (parts_of a end ls)) more ∙ append_assoc (open_found message lv place [] (end_here inner place before)) (to_come message levels (outer ++ b ∷ []) (places.Head l.next) l.end (part_lines a ls) (part_end a l.end end ls)) _)
