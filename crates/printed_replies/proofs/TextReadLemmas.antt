-- Numbers, digits and refusals are read from their text in one way.
use Rattle.std.specs.Prelude.{◌≡◌, ◌≤◌, ◌<◌, ◌-◌, ◌^◌, ◌==◌, ◌/◌, ◌%◌, ℕ, suc, nat_le, Bool, ◌&&◌, true, false, All, List, [], ◌∷◌, ◌++◌, length, drop, flat_map, slice_index, IsTrue, refl, if◌then◌else◌}
use Rattle.std.specs.List.{list_all, AllByRecursion}
use Rattle.std.proofs.Common.{sym, ◌∙◌, ap, arith, append_assoc, append-nil}
use Rattle.std.proofs.lemmas.Grind.{common_steps}
use Rattle.hex.specs.Hex.{encode_with, encode_lower, lower_digits}
use Rattle.mdbox_base.proofs.LowerHexLemmas.{lower_digit}
use Rattle.mdbox_base.specs.Keywords.{IsAtomOctet, IsKeyword}
use Rattle.mdbox_base.specs.Numbers.{decimal_text}
use Rattle.mdbox_base.specs.Words.{IsOctets}
use Rattle.mdbox_base.specs.declared.ids.Guid.{Guid}
use Rattle.mdbox_base.specs.declared.ids.Uid.{Uid}
use Rattle.mdbox_base.specs.declared.replies.ListRow.{ListRow}
use Rattle.mdbox_base.specs.declared.replies.Refusal.{Refusal}
use Rattle.mdbox_base.specs.declared.replies.Refusal.TheVariants as refusal
use Rattle.file_paths.proofs.InstLemmas.{same_digits}
use Rattle.model_storage.proofs.ReferenceLemmas.{both, first, second, is_digit, decimal_digits, hex_same, number_until}
use Rattle.request_text.specs.ReplyText.{guid_text, keywords_text, numbers_text, row_text, refusal_text}
use Rattle.printed_replies.specs.PrintedReplies.{FitInWords, RowHasWords, RefusalHasWords}

-- of each, one by one
pub each_of : {X : Type 0} → (P : X → Type 0) (xs : List X) → All P xs → AllByRecursion P xs
each_of P [] h = tt
each_of P (x ∷ xs) h = (h 0 x (omega arith), each_of P xs (λ k d lt. h (suc k) d (omega (arith, lt))))

-- ---- up to one of two marks

-- octets of a kind up to marks that are of another: they are the same, and so is what follows
up_to_marks : (kind : ℕ → Bool) (p q : List ℕ) (c d : ℕ) (x y : List ℕ) → kind c ≡ false → kind d ≡ false → IsTrue (list_all kind p) → IsTrue (list_all kind q) → p ++ c ∷ x ≡ q ++ d ∷ y → (p ≡ q) × (c ∷ x ≡ d ∷ y)
up_to_marks kind [] [] c d x y h k v w e = (refl, e)
up_to_marks kind [] (b ∷ q) c d x y h k v w e = absurd (let s : c ≡ b = cc e in let f : false ≡ true = sym h ∙ ap kind s ∙ first (kind b) _ w in cc f)
up_to_marks kind (a ∷ p) [] c d x y h k v w e = absurd (let s : a ≡ d = cc e in let f : false ≡ true = sym k ∙ ap kind (sym s) ∙ first (kind a) _ v in cc f)
up_to_marks kind (a ∷ p) (b ∷ q) c d x y h k v w e =
    let s : a ≡ b = cc e in
    let t : p ++ c ∷ x ≡ q ++ d ∷ y = cc e in
    let r = up_to_marks kind p q c d x y h k (second (kind a) _ v) (second (kind b) _ w) t in
    (cc (s, r.0), r.1)

-- digits up to two marks that are none: the marks are the same
marks_same : (p q : List ℕ) (c d : ℕ) (x y : List ℕ) → is_digit c ≡ false → is_digit d ≡ false → IsTrue (list_all is_digit p) → IsTrue (list_all is_digit q) → p ++ c ∷ x ≡ q ++ d ∷ y → c ≡ d
marks_same p q c d x y h k v w e = let r : c ∷ x ≡ d ∷ y = (up_to_marks is_digit p q c d x y h k v w e).1 in cc r

-- ---- numbers

-- a number, and what follows
number_first : (n : ℕ) (rest after : List ℕ) → numbers_text (n ∷ []) ++ after ≡ 32 ∷ (decimal_text n ++ after)
number_first n rest after = ap (λ (l : List ℕ). 32 ∷ (l ++ after)) (append-nil (decimal_text n))

numbers_first : (n : ℕ) (ns after : List ℕ) → numbers_text (n ∷ ns) ++ after ≡ 32 ∷ (decimal_text n ++ (numbers_text ns ++ after))
numbers_first n ns after = ap (λ (l : List ℕ). 32 ∷ l) (append_assoc (decimal_text n) (numbers_text ns) after)

-- as many numbers up to a mark that is no digit
pub numbers_read : (mark : ℕ) (ns ms x y : List ℕ) → is_digit mark ≡ false → length ns ≡ length ms → FitInWords ns → FitInWords ms → numbers_text ns ++ mark ∷ x ≡ numbers_text ms ++ mark ∷ y → (ns ≡ ms) × (x ≡ y)
numbers_read mark [] [] x y h l p q e = (refl, ap (drop 1) e)
numbers_read mark [] (m ∷ ms) x y h l p q e = absurd (omega (arith, l))
numbers_read mark (n ∷ ns) [] x y h l p q e = absurd (omega (arith, l))
numbers_read mark (n ∷ []) (m ∷ []) x y h l p q e =
    let f : decimal_text n ++ mark ∷ x ≡ decimal_text m ++ mark ∷ y = ap (drop 1) (sym (number_first n [] (mark ∷ x)) ∙ e ∙ number_first m [] (mark ∷ y)) in
    let r = number_until mark n m x y h p.0 q.0 f in
    (ap (λ (k : ℕ). k ∷ []) r.0, r.1)
numbers_read mark (n ∷ []) (m ∷ m2 ∷ ms) x y h l p q e = absurd (omega (arith, l))
numbers_read mark (n ∷ n2 ∷ ns) (m ∷ []) x y h l p q e = absurd (omega (arith, l))
numbers_read mark (n ∷ n2 ∷ ns) (m ∷ m2 ∷ ms) x y h l p q e =
    let f = ap (drop 1) (sym (numbers_first n (n2 ∷ ns) (mark ∷ x)) ∙ e ∙ numbers_first m (m2 ∷ ms) (mark ∷ y)) in
    let r = number_until 32 n m _ _ refl p.0 q.0 f in
    let s = numbers_read mark (n2 ∷ ns) (m2 ∷ ms) x y h (omega (arith, l)) p.1 q.1 (ap (λ (t : List ℕ). 32 ∷ t) r.1) in
    (ap (λ (k : ℕ). k ∷ n2 ∷ ns) r.0 ∙ ap (λ (t : List ℕ). m ∷ t) s.0, s.1)

-- one number, and what begins with a space
pub number_read : (m n : ℕ) (x y : List ℕ) → m < 2 ^ 64 → n < 2 ^ 64 → numbers_text (m ∷ []) ++ 32 ∷ x ≡ numbers_text (n ∷ []) ++ 32 ∷ y → (m ≡ n) × (x ≡ y)
number_read m n x y p q e = number_until 32 m n x y refl p q (ap (drop 1) (sym (number_first m [] (32 ∷ x)) ∙ e ∙ number_first n [] (32 ∷ y)))

-- the mark behind one number
pub mark_read : (m n c d : ℕ) (x y : List ℕ) → is_digit c ≡ false → is_digit d ≡ false → m < 2 ^ 64 → n < 2 ^ 64 → numbers_text (m ∷ []) ++ c ∷ x ≡ numbers_text (n ∷ []) ++ d ∷ y → c ≡ d
mark_read m n c d x y h k p q e = marks_same (decimal_text m) (decimal_text n) c d x y h k (decimal_digits m p) (decimal_digits n q) (ap (drop 1) (sym (number_first m [] (c ∷ x)) ∙ e ∙ number_first n [] (d ∷ y)))

-- ---- GUIDs

pub uid_same : (a b : Uid) → a.0 ≡ b.0 → a ≡ b
uid_same a b e = ap (λ (n : ℕ). let u : Uid = record { 0 = n } in u) e

guid_same : (a b : Guid) → a.0 ≡ b.0 → a ≡ b
guid_same a b e = ap (λ (n : List ℕ). let u : Guid = record { 0 = n } in u) e

pub guid_read : (a b : Guid) (x y : List ℕ) → IsOctets a.0 → IsOctets b.0 → guid_text a ++ 10 ∷ x ≡ guid_text b ++ 10 ∷ y → (a ≡ b) × (x ≡ y)
guid_read a b x y p q e =
    let r = same_digits 10 a.0 b.0 x y (omega arith) p q (ap (drop 1) e) in
    (guid_same a b r.0, r.1)

-- ---- keywords

-- neither a space nor a line feed
abbrev is_visible : ℕ → Bool
is_visible octet = nat_le 33 octet

visible_from : (octet : ℕ) → 33 ≤ octet → is_visible octet ≡ true
visible_from octet low = grind (arith, common_steps, low)

visible_digits : (octets : List ℕ) → IsOctets octets → IsTrue (list_all is_visible (encode_lower octets))
unfolding encode_with
visible_digits [] h = refl
visible_digits (b ∷ rest) h =
    let fits : b < 256 = h 0 0 (omega arith) in
    rw (visible_digit (b / 16) (omega arith), visible_digit (b % 16) (omega arith)) (visible_digits rest (λ k d lt. h (suc k) d (omega arith)))
  where
    visible_digit : (d : ℕ) → d < 16 → is_visible (slice_index lower_digits d) ≡ true
    visible_digit d lt = rw (lower_digit d lt) (grind (arith, common_steps))

visible_octets : (word : List ℕ) → AllByRecursion IsAtomOctet word → IsTrue (list_all is_visible word)
visible_octets [] h = refl
visible_octets (c ∷ word) h = both (is_visible c) _ (visible_from c h.0.low) (visible_octets word h.1)

visible_keyword : (word : List ℕ) → IsKeyword word → IsTrue (list_all is_visible word)
visible_keyword word k = visible_octets word (each_of IsAtomOctet word k.atom)

-- what stands at the end of a row: its first octet, and the others
abbrev mark_of : List (List ℕ) → ℕ
mark_of [] = 10
mark_of (word ∷ rest) = 32

abbrev behind_mark : List (List ℕ) → List ℕ → List ℕ
behind_mark [] x = x
behind_mark (word ∷ rest) x = word ++ (keywords_text rest ++ 10 ∷ x)

no_mark : (words : List (List ℕ)) → is_visible (mark_of words) ≡ false
no_mark [] = refl
no_mark (word ∷ rest) = refl

by_mark : (words : List (List ℕ)) (x : List ℕ) → keywords_text words ++ 10 ∷ x ≡ mark_of words ∷ behind_mark words x
by_mark [] x = refl
by_mark (word ∷ rest) x = ap (λ (l : List ℕ). 32 ∷ l) (append_assoc word (keywords_text rest) (10 ∷ x))

-- octets of a kind, and the end of a row
before_end : (p q : List ℕ) (v w : List (List ℕ)) (x y : List ℕ) → IsTrue (list_all is_visible p) → IsTrue (list_all is_visible q)
    → p ++ (keywords_text v ++ 10 ∷ x) ≡ q ++ (keywords_text w ++ 10 ∷ y) → (p ≡ q) × (keywords_text v ++ 10 ∷ x ≡ keywords_text w ++ 10 ∷ y)
before_end p q v w x y h k e =
    let f = sym (ap (λ (l : List ℕ). p ++ l) (by_mark v x)) ∙ e ∙ ap (λ (l : List ℕ). q ++ l) (by_mark w y) in
    let r = up_to_marks is_visible p q (mark_of v) (mark_of w) (behind_mark v x) (behind_mark w y) (no_mark v) (no_mark w) h k f in
    (r.0, by_mark v x ∙ r.1 ∙ sym (by_mark w y))

keywords_read : (v w : List (List ℕ)) (x y : List ℕ) → AllByRecursion IsKeyword v → AllByRecursion IsKeyword w → keywords_text v ++ 10 ∷ x ≡ keywords_text w ++ 10 ∷ y → (v ≡ w) × (x ≡ y)
keywords_read [] [] x y p q e = (refl, ap (drop 1) e)
keywords_read [] (b ∷ w) x y p q e = absurd (let m : 10 ≡ 32 = ap (λ (l : List ℕ). slice_index l 0) e in omega (arith, m))
keywords_read (a ∷ v) [] x y p q e = absurd (let m : 32 ≡ 10 = ap (λ (l : List ℕ). slice_index l 0) e in omega (arith, m))
keywords_read (a ∷ v) (b ∷ w) x y p q e =
    let f = ap (drop 1) (sym (by_mark (a ∷ v) x) ∙ e ∙ by_mark (b ∷ w) y) in
    let r = before_end a b v w x y (visible_keyword a p.0) (visible_keyword b q.0) f in
    let s = keywords_read v w x y p.1 q.1 r.1 in
    (ap (λ (t : List ℕ). t ∷ v) r.0 ∙ ap (λ (t : List (List ℕ)). b ∷ t) s.0, s.1)

-- ---- rows

-- a GUID and the end of a row
guid_and_words : (a b : Guid) (v w : List (List ℕ)) (x y : List ℕ) → IsOctets a.0 → IsOctets b.0 → guid_text a ++ (keywords_text v ++ 10 ∷ x) ≡ guid_text b ++ (keywords_text w ++ 10 ∷ y)
    → (a ≡ b) × (keywords_text v ++ 10 ∷ x ≡ keywords_text w ++ 10 ∷ y)
guid_and_words a b v w x y p q e =
    let r = before_end (encode_lower a.0) (encode_lower b.0) v w x y (visible_digits a.0 p) (visible_digits b.0 q) (ap (drop 1) e) in
    (guid_same a b (hex_same a.0 b.0 p q r.0), r.1)

abbrev made_row : ℕ → List ℕ → Guid → List (List ℕ) → ListRow
made_row uid numbers guid words = record {
  uid = record { 0 = uid };
  flags = slice_index numbers 0;
  size = slice_index numbers 1;
  time = slice_index numbers 2;
  guid = guid;
  words = words;
}

row_first : (row : ListRow) (x : List ℕ) → row_text row ++ x ≡ decimal_text row.uid.0 ++ (numbers_text (row.flags ∷ row.size ∷ row.time ∷ []) ++ (guid_text row.guid ++ (keywords_text row.words ++ 10 ∷ x)))
row_first row x =
    let numbers = numbers_text (row.flags ∷ row.size ∷ row.time ∷ []) in
    let last = keywords_text row.words ++ 10 ∷ [] in
    append_assoc (decimal_text row.uid.0) (numbers ++ (guid_text row.guid ++ last)) x
    ∙ ap (λ (l : List ℕ). decimal_text row.uid.0 ++ l) (append_assoc numbers (guid_text row.guid ++ last) x
    ∙ ap (λ (l : List ℕ). numbers ++ l) (append_assoc (guid_text row.guid) last x ∙ ap (λ (l : List ℕ). guid_text row.guid ++ l) (append_assoc (keywords_text row.words) (10 ∷ []) x)))

pub row_read : (a b : ListRow) (x y : List ℕ) → RowHasWords a → RowHasWords b → row_text a ++ x ≡ row_text b ++ y → (a ≡ b) × (x ≡ y)
row_read a b x y p q e =
    let r = number_until 32 a.uid.0 b.uid.0 _ _ refl p.0.0 q.0.0 (sym (row_first a x) ∙ e ∙ row_first b y) in
    let s = numbers_read 32 (a.flags ∷ a.size ∷ a.time ∷ []) (b.flags ∷ b.size ∷ b.time ∷ []) _ _ refl refl p.0.1 q.0.1 (ap (λ (t : List ℕ). 32 ∷ t) r.1) in
    let t = guid_and_words a.guid b.guid a.words b.words x y p.1 q.1 (ap (λ (t : List ℕ). 32 ∷ t) s.1) in
    let u = keywords_read a.words b.words x y (each_of IsKeyword a.words p.2.each) (each_of IsKeyword b.words q.2.each) t.1 in (
      ap (λ (n : ℕ). made_row n (a.flags ∷ a.size ∷ a.time ∷ []) a.guid a.words) r.0 ∙ ap (λ (l : List ℕ). made_row b.uid.0 l a.guid a.words) s.0
          ∙ ap (λ (g : Guid). made_row b.uid.0 (b.flags ∷ b.size ∷ b.time ∷ []) g a.words) t.0 ∙ ap (made_row b.uid.0 (b.flags ∷ b.size ∷ b.time ∷ []) b.guid) u.0,
      u.1,
    )

pub rows_read : (a b : List ListRow) (x y : List ℕ) → length a ≡ length b → AllByRecursion RowHasWords a → AllByRecursion RowHasWords b → flat_map row_text a ++ x ≡ flat_map row_text b ++ y → (a ≡ b) × (x ≡ y)
rows_read [] [] x y l p q e = (refl, e)
rows_read [] (h ∷ b) x y l p q e = absurd (omega (arith, l))
rows_read (g ∷ a) [] x y l p q e = absurd (omega (arith, l))
rows_read (g ∷ a) (h ∷ b) x y l p q e =
    let r = row_read g h _ _ p.0 q.0 (sym (append_assoc (row_text g) (flat_map row_text a) x) ∙ e ∙ append_assoc (row_text h) (flat_map row_text b) y) in
    let s = rows_read a b x y (omega (arith, l)) p.1 q.1 r.1 in
    (ap (λ (k : ListRow). k ∷ a) r.0 ∙ ap (λ (t : List ListRow). h ∷ t) s.0, s.1)

-- ---- refusals

-- the second digit of a refusal's number; of those from 20 on the number
abbrev which : Refusal → ℕ
which refusal.NoMailbox = 48
which refusal.Exists = 49
which refusal.NoMessage = 50
which (refusal.TooManyCopies n) = 51
which (refusal.MailboxFull n) = 52
which (refusal.TooManyMailboxes n) = 53
which (refusal.StoreFull n) = 54
which refusal.NoMemory = 55
which refusal.ReadFault = 56
which refusal.Stopped = 57
which (refusal.Damaged file offset) = 20
which refusal.Inbox = 21
which refusal.Sealed = 22

-- its numbers
abbrev told_by : Refusal → List ℕ
told_by (refusal.TooManyCopies n) = n ∷ []
told_by (refusal.MailboxFull n) = n ∷ []
told_by (refusal.TooManyMailboxes n) = n ∷ []
told_by (refusal.StoreFull n) = n ∷ []
told_by (refusal.Damaged file offset) = file.0 ∷ offset ∷ []
told_by other = []

-- the refusal with these
abbrev refusal_of : ℕ → List ℕ → Refusal
refusal_of digit ns =
    if digit == 48 then refusal.NoMailbox
    else (if digit == 49 then refusal.Exists
    else (if digit == 50 then refusal.NoMessage
    else (if digit == 51 then refusal.TooManyCopies (slice_index ns 0)
    else (if digit == 52 then refusal.MailboxFull (slice_index ns 0)
    else (if digit == 53 then refusal.TooManyMailboxes (slice_index ns 0)
    else (if digit == 54 then refusal.StoreFull (slice_index ns 0)
    else (if digit == 55 then refusal.NoMemory
    else (if digit == 56 then refusal.ReadFault
    else (if digit == 57 then refusal.Stopped
    else (if digit == 21 then refusal.Inbox
    else (if digit == 22 then refusal.Sealed
    else refusal.Damaged (record { 0 = slice_index ns 0 }) (slice_index ns 1))))))))))))

abbrev many : ℕ → ℕ
many digit = if digit == 20 then 2 else (if nat_le 51 digit && nat_le digit 54 then 1 else 0)

-- where its numbers begin in its text
abbrev words_of : ℕ → List ℕ → List ℕ
words_of digit text =
    if digit == 48 then drop 13 text
    else (if digit == 49 then drop 9 text
    else (if digit == 50 then drop 13 text
    else (if digit == 51 then drop 18 text
    else (if digit == 52 then drop 15 text
    else (if digit == 53 then drop 21 text
    else (if digit == 54 then drop 13 text
    else (if digit == 55 then drop 9 text
    else (if digit == 56 then drop 13 text
    else (if digit == 57 then drop 10 text
    else (if digit == 21 then drop 8 text
    else (if digit == 22 then drop 9 text
    else 32 ∷ drop 21 text)))))))))))

-- which it is, by its text
abbrev which_in : List ℕ → ℕ
which_in text = if slice_index text 0 == 50 then slice_index text 1 - 28 else slice_index text 1

which_read : (r : Refusal) (x : List ℕ) → which_in (refusal_text r ++ 10 ∷ x) ≡ which r
which_read refusal.NoMailbox x = refl
which_read refusal.Exists x = refl
which_read refusal.NoMessage x = refl
which_read (refusal.TooManyCopies n) x = refl
which_read (refusal.MailboxFull n) x = refl
which_read (refusal.TooManyMailboxes n) x = refl
which_read (refusal.StoreFull n) x = refl
which_read refusal.NoMemory x = refl
which_read refusal.ReadFault x = refl
which_read refusal.Stopped x = refl
which_read (refusal.Damaged file offset) x = refl
which_read refusal.Inbox x = refl
which_read refusal.Sealed x = refl

words_read : (r : Refusal) (x : List ℕ) → words_of (which r) (refusal_text r ++ 10 ∷ x) ≡ numbers_text (told_by r) ++ 10 ∷ x
words_read refusal.NoMailbox x = refl
words_read refusal.Exists x = refl
words_read refusal.NoMessage x = refl
words_read (refusal.TooManyCopies n) x = refl
words_read (refusal.MailboxFull n) x = refl
words_read (refusal.TooManyMailboxes n) x = refl
words_read (refusal.StoreFull n) x = refl
words_read refusal.NoMemory x = refl
words_read refusal.ReadFault x = refl
words_read refusal.Stopped x = refl
words_read (refusal.Damaged file offset) x = refl
words_read refusal.Inbox x = refl
words_read refusal.Sealed x = refl

many_are : (r : Refusal) → length (told_by r) ≡ many (which r)
many_are refusal.NoMailbox = refl
many_are refusal.Exists = refl
many_are refusal.NoMessage = refl
many_are (refusal.TooManyCopies n) = refl
many_are (refusal.MailboxFull n) = refl
many_are (refusal.TooManyMailboxes n) = refl
many_are (refusal.StoreFull n) = refl
many_are refusal.NoMemory = refl
many_are refusal.ReadFault = refl
many_are refusal.Stopped = refl
many_are (refusal.Damaged file offset) = refl
many_are refusal.Inbox = refl
many_are refusal.Sealed = refl

made_again : (r : Refusal) → refusal_of (which r) (told_by r) ≡ r
made_again refusal.NoMailbox = refl
made_again refusal.Exists = refl
made_again refusal.NoMessage = refl
made_again (refusal.TooManyCopies n) = refl
made_again (refusal.MailboxFull n) = refl
made_again (refusal.TooManyMailboxes n) = refl
made_again (refusal.StoreFull n) = refl
made_again refusal.NoMemory = refl
made_again refusal.ReadFault = refl
made_again refusal.Stopped = refl
made_again (refusal.Damaged file offset) = refl
made_again refusal.Inbox = refl
made_again refusal.Sealed = refl

told_words : (r : Refusal) → RefusalHasWords r → FitInWords (told_by r)
told_words (refusal.TooManyCopies n) p = p
told_words (refusal.MailboxFull n) p = p
told_words (refusal.TooManyMailboxes n) p = p
told_words (refusal.StoreFull n) p = p
told_words (refusal.Damaged file offset) p = p
told_words other p = tt

pub refusal_read : (r s : Refusal) (x y : List ℕ) → RefusalHasWords r → RefusalHasWords s → refusal_text r ++ 10 ∷ x ≡ refusal_text s ++ 10 ∷ y → (r ≡ s) × (x ≡ y)
refusal_read r s x y p q e =
    let w : which r ≡ which s = sym (which_read r x) ∙ ap which_in e ∙ which_read s y in
    let t = sym (words_read r x) ∙ ap (words_of (which r)) e ∙ ap (λ (n : ℕ). words_of n (refusal_text s ++ 10 ∷ y)) w ∙ words_read s y in
    let l : length (told_by r) ≡ length (told_by s) = many_are r ∙ ap many w ∙ sym (many_are s) in
    let n = numbers_read 10 (told_by r) (told_by s) x y refl l (told_words r p) (told_words s q) t in
    (sym (made_again r) ∙ ap (λ (k : ℕ). refusal_of k (told_by r)) w ∙ ap (refusal_of (which s)) n.0 ∙ made_again s, n.1)
