-- The text of a log, line by line.
use Rattle.std.specs.Prelude.{◌≡◌, ◌+◌, ℕ, List, [], ◌∷◌, ◌++◌, length, refl, Option, Some, None}
use Rattle.std.specs.Borrow.{Bor}
use Rattle.std.proofs.Common.{sym, ◌∙◌, ap, subst, append_assoc, append-nil, arith}
use Rattle.hex.specs.Hex.{encode_with, encode_lower}
use Rattle.mdbox_base.specs.Numbers.{decimal_text}
use Rattle.model_logs.specs.declared.log_head.LogHead.{LogHead}
use Rattle.model_logs.specs.LogFile.{end_from, log_end}
use Rattle.model_logs.proofs.LogFileLemmas.{end_from_more, one_log}
use Rattle.gate_log.specs.Text.{IsLogText, HasEntriesAt, IsNextEntry}
use Rattle.gate_log.specs.declared.text.LogText.{LogText}
use Rattle.dump_text.specs.LogDumpText.{head_line, entry_line, entry_lines, end_line, log_dump_text}
use Rattle.piece_writer.specs.Pieces.{Gathers, WritesPrefix}
use Rattle.piece_writer.proofs.PieceLemmas.{cut_before, cut_more, passed_more, passed_kept, passed_nothing}

lines_split : (g : ℕ) (xs ys : List (List ℕ)) → entry_lines g (xs ++ ys) ≡ entry_lines g xs ++ entry_lines (end_from g xs) ys
lines_split g [] ys = refl
lines_split g (x ∷ xs) ys = ap (λ (t : List ℕ). entry_line (g + 1) x ++ t) (lines_split (g + 5 + length x) xs ys) ∙ sym (append_assoc (entry_line (g + 1) x) (entry_lines (g + 5 + length x) xs) (entry_lines (end_from (g + 5 + length x) xs) ys))

-- the lines so far
abbrev pub lines_to : LogHead → List (List ℕ) → List ℕ
lines_to head done = head_line head ++ entry_lines 25 done

one_line_more : (head : LogHead) (done : List (List ℕ)) (e : List ℕ) (place : ℕ) → place ≡ end_from 25 done + 1 → lines_to head (done ++ e ∷ []) ≡ lines_to head done ++ entry_line place e
one_line_more head done e place p =
    ap (λ (t : List ℕ). head_line head ++ t)
    (lines_split 25 done (e ∷ []) ∙ ap (λ (t : List ℕ). entry_lines 25 done ++ t) (append-nil (entry_line (end_from 25 done + 1) e)) ∙ ap (λ (n : ℕ). entry_lines 25 done ++ entry_line n e) (sym p))
    ∙ sym (append_assoc (head_line head) (entry_lines 25 done) (entry_line place e))

lines_rest : (head : LogHead) (done rest : List (List ℕ)) → (more : List ℕ) × (log_dump_text head (done ++ rest) ≡ lines_to head done ++ more)
lines_rest head done rest = (
  entry_lines (end_from 25 done) rest ++ end_line (log_end (done ++ rest)),
  ap (λ (t : List ℕ). head_line head ++ (t ++ end_line (log_end (done ++ rest)))) (lines_split 25 done rest)
      ∙ ap (λ (t : List ℕ). head_line head ++ t) (append_assoc (entry_lines 25 done) (entry_lines (end_from 25 done) rest) (end_line (log_end (done ++ rest))))
      ∙ sym (append_assoc (head_line head) (entry_lines 25 done) (entry_lines (end_from 25 done) rest ++ end_line (log_end (done ++ rest)))),
)

lines_all : (head : LogHead) (es : List (List ℕ)) → log_dump_text head es ≡ lines_to head es ++ end_line (log_end es)
lines_all head es = sym (append_assoc (head_line head) (entry_lines 25 es) (end_line (log_end es)))

-- the head and some entries were printed, or stand in the piece, and the rest stand behind a gate
pub record Printed (text : LogText) (octets : List ℕ) (gate : ℕ) (h k : Option (List ℕ)) (p : List ℕ) : Type 0 where
  pub entries : List (List ℕ)
  pub is : IsLogText text entries
  pub done : List (List ℕ)
  pub rest : List (List ℕ)
  pub all : entries ≡ done ++ rest
  pub at : gate ≡ end_from 25 done
  pub next : HasEntriesAt octets gate rest
  pub passed : Gathers h [] (lines_to text.head done) k p

pub printed-none : (text : LogText) (octets : List ℕ) (gate : ℕ) (h : Option (List ℕ)) (p : List ℕ) (entries : List (List ℕ)) → IsLogText text entries → HasEntriesAt octets gate entries → gate ≡ 25 → p ≡ head_line text.head → Printed text octets gate h h p
printed-none text octets gate h p entries is next first e = record {
  entries = entries;
  is = is;
  done = [];
  rest = entries;
  all = refl;
  at = first;
  next = next;
  passed = subst (Gathers h [] (lines_to text.head []) h) (append-nil (head_line text.head) ∙ sym e) (passed_kept h [] (lines_to text.head []));
}

-- what the walk answers for the entries that are left
abbrev pub Step : List ℕ → ℕ → List ℕ → ℕ → Option (ℕ × Bor (List ℕ)) → Type 0
Step octets gate next_octets next_gate found = (entries : List (List ℕ)) → HasEntriesAt octets gate entries → IsNextEntry gate entries next_octets next_gate found

-- one line more
pub printed-more : (text : LogText) (octets others : List ℕ) (gate next : ℕ) (h k l : Option (List ℕ)) (p q : List ℕ) (place : ℕ) (entry : Bor (List ℕ)) → Printed text octets gate h k p → Step octets gate others next (Some (place, entry))
    → Gathers k p (entry_line place entry.now) l q → Printed text others next h l q
printed-more text octets others gate next h k l p q place entry s step more =
    let n = step s.rest s.next in
    let at : place ≡ end_from 25 s.done + 1 = n.2 ∙ ap (λ (g : ℕ). g + 1) s.at in
    record {
      entries = s.entries;
      is = s.is;
      done = s.done ++ entry.now ∷ [];
      rest = n.0;
      all = s.all ∙ ap (λ (t : List (List ℕ)). s.done ++ t) n.1 ∙ sym (append_assoc s.done (entry.now ∷ []) n.0);
      at = let e : end_from 25 (s.done ++ entry.now ∷ []) ≡ end_from 25 s.done + 5 + length entry.now = end_from_more 25 s.done entry.now in
          let g : gate ≡ end_from 25 s.done = s.at in
          let f : next ≡ gate + (length entry.now + 5) = n.3 in
          omega (arith, e, g, f);
      next = n.4;
      passed = subst (λ (t : List ℕ). Gathers h [] t l q) (sym (one_line_more text.head s.done entry.now place at)) (passed_more h k l [] p q (lines_to text.head s.done) (entry_line place entry.now) s.passed more);
    }

-- all that is known of the entries is the text's
same_entries : (text : LogText) (a b : List (List ℕ)) → IsLogText text a → IsLogText text b → a ≡ b
same_entries text a b x y = (one_log text.octets text.head text.head a b x.log y.log).1

-- part of a line
pub printed-cut : (text : LogText) (octets others : List ℕ) (gate next : ℕ) (h k l : Option (List ℕ)) (p : List ℕ) (place : ℕ) (entry : Bor (List ℕ)) → Printed text octets gate h k p → Step octets gate others next (Some (place, entry))
    → WritesPrefix k p (entry_line place entry.now) l → (entries : List (List ℕ)) → IsLogText text entries → WritesPrefix h [] (log_dump_text text.head entries) l
printed-cut text octets others gate next h k l p place entry s step cut entries is =
    let n = step s.rest s.next in
    let at : place ≡ end_from 25 s.done + 1 = n.2 ∙ ap (λ (g : ℕ). g + 1) s.at in
    let all : s.entries ≡ (s.done ++ entry.now ∷ []) ++ n.0 = s.all ∙ ap (λ (t : List (List ℕ)). s.done ++ t) n.1 ∙ sym (append_assoc s.done (entry.now ∷ []) n.0) in
    let r = lines_rest text.head (s.done ++ entry.now ∷ []) n.0 in
    subst (λ (t : List ℕ). WritesPrefix h [] t l) (sym (ap (log_dump_text text.head) (same_entries text entries s.entries is s.is ∙ all) ∙ r.1))
    (cut_before h l [] (lines_to text.head (s.done ++ entry.now ∷ [])) r.0
    (subst (λ (t : List ℕ). WritesPrefix h [] t l) (sym (one_line_more text.head s.done entry.now place at)) (cut_more h k l [] p (lines_to text.head s.done) (entry_line place entry.now) s.passed cut)))

-- the lines so far
pub printed-stops : (text : LogText) (octets : List ℕ) (gate : ℕ) (h k : Option (List ℕ)) (p : List ℕ) → Printed text octets gate h k p → (entries : List (List ℕ)) → IsLogText text entries → WritesPrefix h [] (log_dump_text text.head entries) k
printed-stops text octets gate h k p s entries is =
    let r = lines_rest text.head s.done s.rest in
    subst (λ (t : List ℕ). WritesPrefix h [] t k) (sym (ap (log_dump_text text.head) (same_entries text entries s.entries is s.is ∙ s.all) ∙ r.1))
    (cut_before h k [] (lines_to text.head s.done) r.0 (s.passed.0, p, s.passed.1, s.passed.2))

-- the end of the walk
ended : (text : LogText) (octets others : List ℕ) (gate next : ℕ) (h k : Option (List ℕ)) (p : List ℕ) (s : Printed text octets gate h k p) → Step octets gate others next None → (entries : List (List ℕ)) → IsLogText text entries
    → log_dump_text text.head entries ≡ lines_to text.head s.done ++ end_line text.end
ended text octets others gate next h k p s step entries is =
    let all : entries ≡ s.done = same_entries text entries s.entries is s.is ∙ s.all ∙ ap (λ (t : List (List ℕ)). s.done ++ t) (step s.rest s.next) ∙ append-nil s.done in
    lines_all text.head entries ∙ ap (λ (t : List (List ℕ)). lines_to text.head t ++ end_line (log_end entries)) all ∙ ap (λ (n : ℕ). lines_to text.head s.done ++ end_line n) (sym is.end)

pub end_cut : (text : LogText) (octets others : List ℕ) (gate next : ℕ) (h k l : Option (List ℕ)) (p : List ℕ) → Printed text octets gate h k p → Step octets gate others next None
    → WritesPrefix k p (end_line text.end) l → (entries : List (List ℕ)) → IsLogText text entries → WritesPrefix h [] (log_dump_text text.head entries) l
end_cut text octets others gate next h k l p s step cut entries is =
    subst (λ (t : List ℕ). WritesPrefix h [] t l) (sym (ended text octets others gate next h k p s step entries is)) (cut_more h k l [] p (lines_to text.head s.done) (end_line text.end) s.passed cut)

pub all_passed : (text : LogText) (octets others : List ℕ) (gate next : ℕ) (h k l : Option (List ℕ)) (p q : List ℕ) → Printed text octets gate h k p → Step octets gate others next None
    → Gathers k p (end_line text.end) l q → (entries : List (List ℕ)) → IsLogText text entries → Gathers h [] (log_dump_text text.head entries) l q
all_passed text octets others gate next h k l p q s step more entries is =
    subst (λ (t : List ℕ). Gathers h [] t l q) (sym (ended text octets others gate next h k p s step entries is)) (passed_more h k l [] p q (lines_to text.head s.done) (end_line text.end) s.passed more)

-- ---- the digits of an entry, part by part

digits_split : (xs ys : List ℕ) → encode_lower (xs ++ ys) ≡ encode_lower xs ++ encode_lower ys
unfolding encode_with
digits_split [] ys = refl
digits_split (x ∷ xs) ys = let e : encode_lower (xs ++ ys) ≡ encode_lower xs ++ encode_lower ys = digits_split xs ys in cc

pub record Encoded (octets rest : List ℕ) (h k : Option (List ℕ)) (p q : List ℕ) : Type 0 where
  pub done : List ℕ
  pub all : octets ≡ done ++ rest
  pub passed : Gathers h p (encode_lower done) k q

pub encoded-none : (octets : List ℕ) (h : Option (List ℕ)) (p : List ℕ) → Encoded octets octets h h p p
unfolding encode_with
encoded-none octets h p = record { done = []; all = refl; passed = passed_nothing h p }

pub encoded-more : (octets rest part behind : List ℕ) (h k l : Option (List ℕ)) (p q r : List ℕ) → Encoded octets rest h k p q → rest ≡ part ++ behind → Gathers k q (encode_lower part) l r → Encoded octets behind h l p r
encoded-more octets rest part behind h k l p q r s e more = record {
  done = s.done ++ part;
  all = s.all ∙ ap (λ (t : List ℕ). s.done ++ t) e ∙ sym (append_assoc s.done part behind);
  passed = subst (λ (t : List ℕ). Gathers h p t l r) (sym (digits_split s.done part)) (passed_more h k l p q r (encode_lower s.done) (encode_lower part) s.passed more);
}

pub encoded-cut : (octets rest part behind : List ℕ) (h k l : Option (List ℕ)) (p q : List ℕ) → Encoded octets rest h k p q → rest ≡ part ++ behind → WritesPrefix k q (encode_lower part) l → WritesPrefix h p (encode_lower octets) l
encoded-cut octets rest part behind h k l p q s e cut =
    let all : octets ≡ (s.done ++ part) ++ behind = s.all ∙ ap (λ (t : List ℕ). s.done ++ t) e ∙ sym (append_assoc s.done part behind) in
    let text : encode_lower octets ≡ (encode_lower s.done ++ encode_lower part) ++ encode_lower behind = ap encode_lower all ∙ digits_split (s.done ++ part) behind ∙ ap (λ (t : List ℕ). t ++ encode_lower behind) (digits_split s.done part) in
    subst (λ (t : List ℕ). WritesPrefix h p t l) (sym text) (cut_before h l p (encode_lower s.done ++ encode_lower part) (encode_lower behind) (cut_more h k l p q (encode_lower s.done) (encode_lower part) s.passed cut))

pub encoded-all : (octets rest : List ℕ) (h k : Option (List ℕ)) (p q : List ℕ) → Encoded octets rest h k p q → rest ≡ [] → Gathers h p (encode_lower octets) k q
encoded-all octets rest h k p q s e =
    subst (λ (t : List ℕ). Gathers h p (encode_lower t) k q) (sym (s.all ∙ ap (λ (t : List ℕ). s.done ++ t) e ∙ append-nil s.done)) s.passed

-- ---- the line of an entry

line_is : (place : ℕ) (entry : List ℕ) → entry_line place entry ≡ ((decimal_text place ++ 32 ∷ []) ++ encode_lower entry) ++ 10 ∷ []
line_is place entry = sym (append_assoc (decimal_text place ++ 32 ∷ []) (encode_lower entry) (10 ∷ []) ∙ append_assoc (decimal_text place) (32 ∷ []) (encode_lower entry ++ 10 ∷ []))

digits_passed : (h k : Option (List ℕ)) (p q r : List ℕ) (place : ℕ) (entry : List ℕ) → q ≡ p ++ (decimal_text place ++ 32 ∷ []) → Gathers h q (encode_lower entry) k r → Gathers h p ((decimal_text place ++ 32 ∷ []) ++ encode_lower entry) k r
digits_passed h k p q r place entry e a =
    passed_more h h k p q r (decimal_text place ++ 32 ∷ []) (encode_lower entry) (subst (Gathers h p (decimal_text place ++ 32 ∷ []) h) (sym e) (passed_kept h p (decimal_text place ++ 32 ∷ []))) a

pub line-all : (h k l : Option (List ℕ)) (p q r s : List ℕ) (place : ℕ) (entry : List ℕ) → q ≡ p ++ (decimal_text place ++ 32 ∷ []) → Gathers h q (encode_lower entry) k r → Gathers k r (10 ∷ []) l s → Gathers h p (entry_line place entry) l s
line-all h k l p q r s place entry e a b =
    subst (λ (t : List ℕ). Gathers h p t l s) (sym (line_is place entry)) (passed_more h k l p r s ((decimal_text place ++ 32 ∷ []) ++ encode_lower entry) (10 ∷ []) (digits_passed h k p q r place entry e a) b)

pub line-cut_digits : (h k : Option (List ℕ)) (p q : List ℕ) (place : ℕ) (entry : List ℕ) → q ≡ p ++ (decimal_text place ++ 32 ∷ []) → WritesPrefix h q (encode_lower entry) k → WritesPrefix h p (entry_line place entry) k
line-cut_digits h k p q place entry e a =
    subst (λ (t : List ℕ). WritesPrefix h p t k) (sym (line_is place entry))
    (cut_before h k p ((decimal_text place ++ 32 ∷ []) ++ encode_lower entry) (10 ∷ [])
    (cut_more h h k p q (decimal_text place ++ 32 ∷ []) (encode_lower entry) (subst (Gathers h p (decimal_text place ++ 32 ∷ []) h) (sym e) (passed_kept h p (decimal_text place ++ 32 ∷ []))) a))

pub line-cut_end : (h k l : Option (List ℕ)) (p q r : List ℕ) (place : ℕ) (entry : List ℕ) → q ≡ p ++ (decimal_text place ++ 32 ∷ []) → Gathers h q (encode_lower entry) k r → WritesPrefix k r (10 ∷ []) l → WritesPrefix h p (entry_line place entry) l
line-cut_end h k l p q r place entry e a b =
    subst (λ (t : List ℕ). WritesPrefix h p t l) (sym (line_is place entry)) (cut_more h k l p r ((decimal_text place ++ 32 ∷ []) ++ encode_lower entry) (10 ∷ []) (digits_passed h k p q r place entry e a) b)

pub no_octets : (xs : List ℕ) → length xs ≡ 0 → xs ≡ []
no_octets [] e = refl
no_octets (x ∷ xs) e = absurd (omega (arith, e))
