-- The texts of messages, line by line.
use Rattle.std.specs.Prelude.{◌≡◌, ◌≤◌, ◌<◌, ◌+◌, ◌-◌, ◌==◌, ◌&&◌, ℕ, zero, suc, Bool, true, false, not, IsTrue, slice_index, get_or, List, [], ◌∷◌, ◌++◌, length, take, drop, flat_map, refl, Option}
use Rattle.std.specs.List.{list_all}
use Rattle.std.proofs.Common.{sym, ◌∙◌, ap, subst, append_assoc, length-append, arith}
use Rattle.std.proofs.lemmas.Bool.{eq-eqb}
use Rattle.std.proofs.lemmas.List.{take_at, drop_all, drop_at, drop_more, get_or_at}
use Rattle.model_storage.specs.declared.places.MessageAt.{MessageAt}
use Rattle.model_storage.proofs.FileLemmas.{second}
use Rattle.model_storage.specs.StorageFile.{Line, line_text, is_no_end, AreLines}
use Rattle.piece_writer.specs.Pieces.{Gathers, WritesPrefix}
use Rattle.piece_writer.proofs.PieceLemmas.{passed_kept, passed_nothing, passed_more, cut_more, cut_before}
use Rattle.dump_text.specs.DumpText.{message_heading, shown_line, ShowsMessage, ShowsMessages}

-- a row of lines up to its first LF is its first line
pub first_row : (l : Line) (ls : List Line) (text : List ℕ) (n : ℕ) → AreLines text (l ∷ ls) → length (line_text l) ≡ n → (take n text ≡ line_text l) × AreLines (drop n text) ls
first_row l ls text n p e = (
  ap (take n) p.spelled ∙ take_at (line_text l) (flat_map line_text ls) n e,
  record { each = p.each.1; spelled = ap (drop n) p.spelled ∙ drop_at (line_text l) (flat_map line_text ls) n e },
)

lf_at_end : (v x : List ℕ) → IsTrue (list_all is_no_end v) → (n : ℕ) → (slice_index (v ++ 10 ∷ x) n == 10) ≡ true → ((j : ℕ) → 0 ≤ j → j < n → (slice_index (v ++ 10 ∷ x) j == 10) ≡ true → ⊥) → n ≡ length v
lf_at_end [] x p zero mark before = refl
lf_at_end [] x p (suc n) mark before = absurd (before 0 (omega arith) (omega arith) refl)
lf_at_end (c ∷ v) x p zero mark before = absurd (no_mark (c == 10) (list_all is_no_end v) p mark)
  where
    no_mark : (b rest : Bool) → IsTrue (not b && rest) → b ≡ true → ⊥
    no_mark true rest h e = cc h
    no_mark false rest h e = cc e
lf_at_end (c ∷ v) x p (suc n) mark before = ap suc (lf_at_end v x (second (is_no_end c) (list_all is_no_end v) p) n mark (λ j a b. before (suc j) (omega arith) (omega (arith, b))))

row_joined : (l : Line) (x : List ℕ) → line_text l ++ x ≡ (l.key ∷ l.value) ++ 10 ∷ x
row_joined l x = append_assoc (l.key ∷ l.value) (10 ∷ []) x

-- the first LF of a row ends its first line
pub row_end : (l : Line) (ls : List Line) (text : List ℕ) (n : ℕ) → AreLines text (l ∷ ls) → (slice_index text n == 10) ≡ true → ((j : ℕ) → 0 ≤ j → j < n → (slice_index text j == 10) ≡ true → ⊥) → length (line_text l) ≡ n + 1
row_end l ls text n p mark before =
    let e : text ≡ (l.key ∷ l.value) ++ 10 ∷ flat_map line_text ls = p.spelled ∙ row_joined l (flat_map line_text ls) in
    let good : IsTrue (list_all is_no_end (l.key ∷ l.value)) = rw p.each.0.key p.each.0.value in
    let m : n ≡ length (l.key ∷ l.value) = lf_at_end (l.key ∷ l.value) (flat_map line_text ls) good n (subst (λ (o : List ℕ). (slice_index o n == 10) ≡ true) e mark) (λ j a b h. before j a b (subst (λ (o : List ℕ). (slice_index o j == 10) ≡ true) (sym e) h)) in
    omega (arith, m, length-append l.value (10 ∷ []))

-- a row has an LF
pub row_has_end : (l : Line) (ls : List Line) (text : List ℕ) → AreLines text (l ∷ ls) → ((j : ℕ) → 0 ≤ j → j < length text → (slice_index text j == 10) ≡ true → ⊥) → ⊥
row_has_end l ls text p none =
    let e : text ≡ (l.key ∷ l.value) ++ 10 ∷ flat_map line_text ls = p.spelled ∙ row_joined l (flat_map line_text ls) in
    let at : get_or text (length (l.key ∷ l.value)) 0 ≡ 10 = ap (λ (o : List ℕ). get_or o (length (l.key ∷ l.value)) 0) e ∙ get_or_at (l.key ∷ l.value) 10 (flat_map line_text ls) 0 (length (l.key ∷ l.value)) refl in
    none (length (l.key ∷ l.value)) (omega arith) (omega (arith, ap length e, length-append (l.key ∷ l.value) (10 ∷ flat_map line_text ls))) (eq-eqb _ 10 at)

-- one line more, given a text that is not at its end
pub line_cut : (more : List Line) (rest line behind p : List ℕ) (h k : Option (List ℕ)) → 0 < length rest → AreLines rest more
    → ((l : Line) (ls : List Line) → AreLines rest (l ∷ ls) → (line ≡ line_text l) × AreLines behind ls) → WritesPrefix h p (32 ∷ 32 ∷ line) k → WritesPrefix h p (flat_map shown_line more) k
line_cut [] rest line behind p h k some rows step cut = absurd (omega (arith, some, ap length rows.spelled))
line_cut (l ∷ ls) rest line behind p h k some rows step cut =
    cut_before h k p (shown_line l) (flat_map shown_line ls) (subst (λ (o : List ℕ). WritesPrefix h p (32 ∷ 32 ∷ o) k) (step l ls rows).0 cut)

-- what is left of the lines, and that printing it prints all
pub record IsLeft (more : List Line) (rest p q : List ℕ) (h k : Option (List ℕ)) : Type 0 where
  pub lines : List Line
  pub rows : AreLines rest lines
  pub pass : (held : Option (List ℕ)) (piece : List ℕ) → Gathers k q (flat_map shown_line lines) held piece → Gathers h p (flat_map shown_line more) held piece
  pub cut : (held : Option (List ℕ)) → WritesPrefix k q (flat_map shown_line lines) held → WritesPrefix h p (flat_map shown_line more) held

pub line_left : (more : List Line) (rest line behind p q : List ℕ) (h k : Option (List ℕ)) → 0 < length rest → AreLines rest more
    → ((l : Line) (ls : List Line) → AreLines rest (l ∷ ls) → (line ≡ line_text l) × AreLines behind ls) → Gathers h p (32 ∷ 32 ∷ line) k q → IsLeft more behind p q h k
line_left [] rest line behind p q h k some rows step pass = absurd (omega (arith, some, ap length rows.spelled))
line_left (l ∷ ls) rest line behind p q h k some rows step pass =
    let s = step l ls rows in
    let first = subst (λ (o : List ℕ). Gathers h p (32 ∷ 32 ∷ o) k q) s.0 pass in
    record {
      lines = ls;
      rows = s.1;
      pass = λ held piece b. passed_more h k held p q piece (shown_line l) (flat_map shown_line ls) first b;
      cut = λ held b. cut_more h k held p q (shown_line l) (flat_map shown_line ls) first b;
    }

pub no_rows : (more : List Line) (rest : List ℕ) → AreLines rest more → rest ≡ [] → more ≡ []
no_rows [] rest rows e = refl
no_rows (l ∷ ls) rest rows e = absurd (cc (sym rows.spelled ∙ e))

-- the next message of those to print
pub shows_first : (file more : List ℕ) (places : List MessageAt) (place : MessageAt) (i : ℕ) → i < length places → place ≡ get_or places i place → ShowsMessages file (drop i places) more
    → (first : List ℕ) × (behind : List ℕ) × ShowsMessage file place first × ShowsMessages file (drop (i + 1) places) behind × (more ≡ first ++ behind)
shows_first file more places place i h e s =
    let cut : drop i places ≡ place ∷ drop (i + 1) places = drop_more places i place h ∙ ap (λ (o : MessageAt). o ∷ drop (i + 1) places) (sym e) in
    subst (λ (ps : List MessageAt). ShowsMessages file ps more) cut s

-- a heading, and then the lines at a place
pub heading_passed : (file : List ℕ) (place : MessageAt) (text lines p q r : List ℕ) (h k : Option (List ℕ)) → ShowsMessage file place text → lines ≡ take (place.end - 1 - place.lines) (drop place.lines file)
    → q ≡ p ++ message_heading place.offset place.size → ((rows : List Line) → AreLines lines rows → Gathers h q (flat_map shown_line rows) k r) → Gathers h p text k r
heading_passed file place text lines p q r h k s e eq f =
    let rows = subst (λ (o : List ℕ). AreLines o s.0) (sym e) s.3 in
    let first : Gathers h p (message_heading place.offset place.size) h q = subst (λ (o : List ℕ). Gathers h p (message_heading place.offset place.size) h o) (sym eq) (passed_kept h p (message_heading place.offset place.size)) in
    subst (λ (o : List ℕ). Gathers h p o k r) (sym s.4) (passed_more h h k p q r (message_heading place.offset place.size) (flat_map shown_line s.0) first (f s.0 rows))

pub heading_cut : (file : List ℕ) (place : MessageAt) (text lines p q : List ℕ) (h k : Option (List ℕ)) → ShowsMessage file place text → lines ≡ take (place.end - 1 - place.lines) (drop place.lines file)
    → q ≡ p ++ message_heading place.offset place.size → ((rows : List Line) → AreLines lines rows → WritesPrefix h q (flat_map shown_line rows) k) → WritesPrefix h p text k
heading_cut file place text lines p q h k s e eq f =
    let rows = subst (λ (o : List ℕ). AreLines o s.0) (sym e) s.3 in
    let first : Gathers h p (message_heading place.offset place.size) h q = subst (λ (o : List ℕ). Gathers h p (message_heading place.offset place.size) h o) (sym eq) (passed_kept h p (message_heading place.offset place.size)) in
    subst (λ (o : List ℕ). WritesPrefix h p o k) (sym s.4) (cut_more h h k p q (message_heading place.offset place.size) (flat_map shown_line s.0) first (f s.0 rows))

-- what is left of the messages, and that printing it prints all
pub record IsRest (file : List ℕ) (places : List MessageAt) (all : List ℕ) (p q : List ℕ) (h k : Option (List ℕ)) : Type 0 where
  pub text : List ℕ
  pub shows : ShowsMessages file places text
  pub pass : (held : Option (List ℕ)) (piece : List ℕ) → Gathers k q text held piece → Gathers h p all held piece
  pub cut : (held : Option (List ℕ)) → WritesPrefix k q text held → WritesPrefix h p all held

pub rest_next : (file all : List ℕ) (places : List MessageAt) (place : MessageAt) (i : ℕ) (p q r : List ℕ) (h k l : Option (List ℕ)) → i < length places → place ≡ get_or places i place
    → IsRest file (drop i places) all p q h k → ((text : List ℕ) → ShowsMessage file place text → Gathers k q text l r) → IsRest file (drop (i + 1) places) all p r h l
rest_next file all places place i p q r h k l less e s f =
    let n = shows_first file s.text places place i less e s.shows in
    record {
      text = n.1;
      shows = n.3;
      pass = λ held piece b. s.pass held piece (subst (λ (o : List ℕ). Gathers k q o held piece) (sym n.4) (passed_more k l held q r piece n.0 n.1 (f n.0 n.2) b));
      cut = λ held b. s.cut held (subst (λ (o : List ℕ). WritesPrefix k q o held) (sym n.4) (cut_more k l held q r n.0 n.1 (f n.0 n.2) b));
    }

pub rest_cut : (file all : List ℕ) (places : List MessageAt) (place : MessageAt) (i : ℕ) (p q : List ℕ) (h k l : Option (List ℕ)) → i < length places → place ≡ get_or places i place
    → IsRest file (drop i places) all p q h k → ((text : List ℕ) → ShowsMessage file place text → WritesPrefix k q text l) → WritesPrefix h p all l
rest_cut file all places place i p q h k l less e s f =
    let n = shows_first file s.text places place i less e s.shows in
    s.cut l (subst (λ (o : List ℕ). WritesPrefix k q o l) (sym n.4) (cut_before k l q n.0 n.1 (f n.0 n.2)))

rest_nothing : (file text : List ℕ) (ps : List MessageAt) → ps ≡ [] → ShowsMessages file ps text → text ≡ []
rest_nothing file text ps e s = subst (λ (o : List MessageAt). ShowsMessages file o text) e s

-- at the end of the messages all has passed
pub rest_end : (file all : List ℕ) (places : List MessageAt) (i : ℕ) (p q : List ℕ) (h k : Option (List ℕ)) → length places ≤ i → IsRest file (drop i places) all p q h k → Gathers h p all k q
rest_end file all places i p q h k less s =
    let none = rest_nothing file s.text (drop i places) (drop_all i places less) s.shows in
    s.pass k q (subst (λ (o : List ℕ). Gathers k q o k q) (sym none) (passed_nothing k q))
