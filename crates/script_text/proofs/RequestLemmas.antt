-- Requests of a script have one text each, and none begins another.
use Rattle.std.specs.Prelude.{◌≡◌, ◌<◌, ◌≤◌, ◌+◌, ◌*◌, ◌^◌, ℕ, List, [], ◌∷◌, ◌++◌, length, drop, false, nat_eq, IsTrue, refl}
use Rattle.std.specs.List.{list_all}
use Rattle.std.proofs.Common.{sym, ◌∙◌, ap, arith, append_assoc, append-nil}
use Rattle.std.proofs.lemmas.Bool.{eqb-false}
use Rattle.std.proofs.lemmas.Fmt.{decimal_injective}
use Rattle.mdbox_base.specs.Numbers.{decimal_text}
use Rattle.mdbox_base.specs.Words.{IsNumber, IsName, is_other_than}
use Rattle.mdbox_base.specs.declared.ids.Uid.{Uid}
use Rattle.mdbox_base.specs.declared.requests.Request.{Request}
use Rattle.mdbox_base.specs.declared.requests.Request.TheVariants as request
use Rattle.script_text.specs.Script.{name_word, request_words, spaced, message_text, request_text, BeginsRequest, FitsScript, FitsLanes}
use Rattle.script_text.specs.Reading.{AsksSomething}
use Rattle.script_text.proofs.CutLemmas.{until_same, all_both, printing_clear, number_clear, number_until, same_front}
use Rattle.script_text.proofs.SpacedLemmas.{counted_clear, counted_same}

-- ---- a line has no LF in it, and its lane and words are told apart

name_clear : (name : List ℕ) → IsName name → IsTrue (list_all (is_other_than 10) (name_word name))
name_clear name n = all_both (is_other_than 10) (decimal_text (length name)) (58 ∷ name) (number_clear 10 (length name) refl (omega (arith, n.short))) (printing_clear name n.printing)

spaced_clear : (a b : List ℕ) → IsTrue (list_all (is_other_than 10) a) → IsTrue (list_all (is_other_than 10) b) → IsTrue (list_all (is_other_than 10) (a ++ 32 ∷ b))
spaced_clear a b p q = all_both (is_other_than 10) a (32 ∷ b) p q

number_word : (n : ℕ) → n < 2 ^ 64 → IsTrue (list_all (is_other_than 10) (decimal_text n))
number_word n lt = number_clear 10 n refl lt

pub small_uid : (n : ℕ) → IsNumber n → n < 2 ^ 64
small_uid n h = omega (arith, h.high)

name_number_clear : (name : List ℕ) (n : ℕ) → IsName name → n < 2 ^ 64 → IsTrue (list_all (is_other_than 10) (name_word name ++ 32 ∷ decimal_text n))
name_number_clear name n p q = spaced_clear (name_word name) (decimal_text n) (name_clear name p) (number_word n q)

name_and_clear : (name : List ℕ) (n : ℕ) (rest : List ℕ) → IsName name → n < 2 ^ 64 → IsTrue (list_all (is_other_than 10) rest) → IsTrue (list_all (is_other_than 10) (name_word name ++ 32 ∷ (decimal_text n ++ 32 ∷ rest)))
name_and_clear name n rest p q h = spaced_clear (name_word name) (decimal_text n ++ 32 ∷ rest) (name_clear name p) (spaced_clear (decimal_text n) rest (number_word n q) h)

pub words_clear : (asked : Request) → FitsScript asked → IsTrue (list_all (is_other_than 10) (spaced (request_words asked)))
words_clear (request.Deliver name time message) p = name_and_clear name time (decimal_text (length message)) p.0 p.1 (number_word (length message) (omega (arith, p.2)))
words_clear (request.List name) p = name_clear name p
words_clear (request.Fetch name uid) p = name_number_clear name uid.0 p.0 (small_uid uid.0 p.1)
words_clear (request.Flag name uid flags) p = name_and_clear name uid.0 (decimal_text flags) p.0 (small_uid uid.0 p.1) (number_word flags (omega (arith, p.2)))
words_clear (request.Keywords name uid words) p = name_and_clear name uid.0 (spaced (decimal_text (length words) ∷ words)) p.0 (small_uid uid.0 p.1) (counted_clear words p.2)
words_clear (request.Copy name uid target) p = name_and_clear name uid.0 (name_word target) p.0 (small_uid uid.0 p.1) (name_clear target p.2)
words_clear (request.Move name uid target) p = name_and_clear name uid.0 (name_word target) p.0 (small_uid uid.0 p.1) (name_clear target p.2)
words_clear (request.Expunge name uid) p = name_number_clear name uid.0 p.0 (small_uid uid.0 p.1)
words_clear (request.Make name) p = name_clear name p
words_clear request.Counts p = refl
words_clear request.Purge p = refl
words_clear request.Resync p = refl
words_clear (request.Delete name) p = name_clear name p
words_clear (request.Rename name target) p = spaced_clear (name_word name) (name_word target) (name_clear name p.0) (name_clear target p.1)

-- the lane stands before the words
pub lane_first : (lane : ℕ) (asked : Request) → spaced (decimal_text lane ∷ request_words asked) ≡ decimal_text lane ++ 32 ∷ spaced (request_words asked)
lane_first lane (request.Deliver name time message) = refl
lane_first lane (request.List name) = refl
lane_first lane (request.Fetch name uid) = refl
lane_first lane (request.Flag name uid flags) = refl
lane_first lane (request.Keywords name uid words) = refl
lane_first lane (request.Copy name uid target) = refl
lane_first lane (request.Move name uid target) = refl
lane_first lane (request.Expunge name uid) = refl
lane_first lane (request.Make name) = refl
lane_first lane request.Counts = refl
lane_first lane request.Purge = refl
lane_first lane request.Resync = refl
lane_first lane (request.Delete name) = refl
lane_first lane (request.Rename name target) = refl

-- a request and what follows it: lane and words, LF, message, and the rest
pub laid_out : (asked : ℕ × Request) (after : List ℕ) → request_text asked ++ after ≡ (decimal_text asked.0 ++ 32 ∷ spaced (request_words asked.1)) ++ 10 ∷ (message_text asked.1 ++ after)
laid_out asked after =
    append_assoc (spaced (decimal_text asked.0 ∷ request_words asked.1)) (10 ∷ message_text asked.1) after
    ∙ ap (λ (line : List ℕ). line ++ 10 ∷ (message_text asked.1 ++ after)) (lane_first asked.0 asked.1)

line_clear : (lanes : ℕ) (asked : ℕ × Request) → lanes < 2 ^ 32 → FitsLanes lanes asked → IsTrue (list_all (is_other_than 10) (decimal_text asked.0 ++ 32 ∷ spaced (request_words asked.1)))
line_clear lanes asked small p = spaced_clear (decimal_text asked.0) _ (number_word asked.0 (omega (arith, p.last))) (words_clear asked.1 p.fits)

-- a text that is cut at its first LF begins with a request
pub parts_of : (lanes : ℕ) (asked : ℕ × Request) (text line rest after : List ℕ) → lanes < 2 ^ 32 → FitsLanes lanes asked → IsTrue (list_all (is_other_than 10) line) → text ≡ line ++ 10 ∷ rest → text ≡ request_text asked ++ after
    → (line ≡ decimal_text asked.0 ++ 32 ∷ spaced (request_words asked.1)) × (rest ≡ message_text asked.1 ++ after)
parts_of lanes asked text line rest after small p clear e f =
    until_same 10 line (decimal_text asked.0 ++ 32 ∷ spaced (request_words asked.1)) rest (message_text asked.1 ++ after) clear (line_clear lanes asked small p) (sym e ∙ f ∙ laid_out asked after)

-- where the lane and the words of a request and what follows them stand, a request begins
pub begins_with : (lanes lane : ℕ) (text line words rest : List ℕ) → 1 ≤ lane → lane ≤ lanes → text ≡ line ++ 10 ∷ rest → line ≡ decimal_text lane ++ 32 ∷ words → AsksSomething words rest → BeginsRequest lanes text
begins_with lanes lane text line words rest low high e l some =
    let asked : ℕ × Request = (lane, some.0) in
    let is = some.2 in
    let head : line ≡ decimal_text lane ++ 32 ∷ spaced (request_words some.0) = l ∙ ap (λ (t : List ℕ). decimal_text lane ++ 32 ∷ t) is.words_are in (
      asked,
      some.1,
      record { first = low; last = high; fits = is.fits },
      e ∙ ap (λ (t : List ℕ). t ++ 10 ∷ rest) head ∙ ap (λ (t : List ℕ). (decimal_text lane ++ 32 ∷ spaced (request_words some.0)) ++ 10 ∷ t) is.message_is ∙ sym (laid_out asked some.1),
    )

-- ---- names

pub name_same : (m n a b : List ℕ) → length m < 2 ^ 64 → length n < 2 ^ 64 → name_word m ++ a ≡ name_word n ++ b → (m ≡ n) × (a ≡ b)
name_same m n a b p q e =
    let r = number_until 58 (length m) (length n) (m ++ a) (n ++ b) refl p q (sym (append_assoc (decimal_text (length m)) (58 ∷ m) a) ∙ e ∙ append_assoc (decimal_text (length n)) (58 ∷ n) b) in
    same_front m n a b r.0 r.1

pub short_name : (name : List ℕ) → IsName name → length name < 2 ^ 64
short_name name n = omega (arith, n.short)

-- a text that is cut at its first colon begins with a name
pub name_cut : (digits rest name more : List ℕ) → IsTrue (list_all (is_other_than 58) digits) → length name < 2 ^ 64 → digits ++ 58 ∷ rest ≡ name_word name ++ more → (digits ≡ decimal_text (length name)) × (rest ≡ name ++ more)
name_cut digits rest name more clear lt e = until_same 58 digits (decimal_text (length name)) rest (name ++ more) clear (number_clear 58 (length name) refl lt) (e ∙ append_assoc (decimal_text (length name)) (58 ∷ name) more)

-- a name alone, a name and a further word, a number and a further word
pub name_alone_same : (m n : List ℕ) → IsName m → IsName n → name_word m ≡ name_word n → m ≡ n
name_alone_same m n p q e = (name_same m n [] [] (short_name m p) (short_name n q) (ap (λ (t : List ℕ). t ++ []) e)).0

pub name_only : (word octets rest name : List ℕ) → word ≡ name_word octets ++ rest → length octets < 2 ^ 64 → length name < 2 ^ 64 → word ≡ name_word name → (octets ≡ name) × (rest ≡ [])
name_only word octets rest name p lt n e = name_same octets name rest [] lt n (sym p ∙ e ∙ sym (append-nil (name_word name)))

pub name_front : (word octets rest name more : List ℕ) → word ≡ name_word octets ++ rest → length octets < 2 ^ 64 → length name < 2 ^ 64 → word ≡ name_word name ++ 32 ∷ more → (octets ≡ name) × (rest ≡ 32 ∷ more)
name_front word octets rest name more p lt n e = name_same octets name rest (32 ∷ more) lt n (sym p ∙ e)

-- octets that are a word alone
pub name_is : (m n : List ℕ) → length m < 2 ^ 64 → length n < 2 ^ 64 → name_word m ≡ name_word n → m ≡ n
name_is m n p q e = (name_same m n [] [] p q (ap (λ (t : List ℕ). t ++ []) e)).0

pub name_then : (m n a b : List ℕ) → length m < 2 ^ 64 → length n < 2 ^ 64 → name_word m ++ 32 ∷ a ≡ name_word n ++ 32 ∷ b → (m ≡ n) × (a ≡ b)
name_then m n a b p q e =
    let r = name_same m n (32 ∷ a) (32 ∷ b) p q e in
    let t : 32 ∷ a ≡ 32 ∷ b = r.1 in
    (r.0, cc t)

pub number_then : (m n : ℕ) (a b : List ℕ) → m < 2 ^ 64 → n < 2 ^ 64 → decimal_text m ++ 32 ∷ a ≡ decimal_text n ++ 32 ∷ b → (m ≡ n) × (a ≡ b)
number_then m n a b p q e = number_until 32 m n a b refl p q e

pub name_uid_then : (m n : List ℕ) (u v : ℕ) (a b : List ℕ) → length m < 2 ^ 64 → length n < 2 ^ 64 → IsNumber u → IsNumber v → name_word m ++ 32 ∷ (decimal_text u ++ 32 ∷ a) ≡ name_word n ++ 32 ∷ (decimal_text v ++ 32 ∷ b) → (m ≡ n) × (a ≡ b)
name_uid_then m n u v a b p q h k e =
    let r = name_then m n (decimal_text u ++ 32 ∷ a) (decimal_text v ++ 32 ∷ b) p q e in
    (r.0, (number_then u v a b (small_uid u h) (small_uid v k) r.1).1)

-- ---- one request for one line and what follows it

-- the first four letters tell the verbs apart
abbrev pub tag : List ℕ → ℕ
tag (a ∷ b ∷ c ∷ d ∷ rest) = 16777216 * a + 65536 * b + 256 * c + d
tag other = 0

pub differ : (a b : List ℕ) → a ≡ b → nat_eq (tag a) (tag b) ≡ false → ⊥
differ a b e h = eqb-false (tag a) (tag b) h (ap tag e)

-- a name and a UID
uid_same : (a b : List ℕ) (u v : Uid) → IsName a → IsName b → IsNumber u.0 → IsNumber v.0 → name_word a ++ 32 ∷ decimal_text u.0 ≡ name_word b ++ 32 ∷ decimal_text v.0 → (a ≡ b) × (u.0 ≡ v.0)
uid_same a b u v na nb p q e =
    let r = name_then a b (decimal_text u.0) (decimal_text v.0) (short_name a na) (short_name b nb) e in
    (r.0, decimal_injective u.0 v.0 (small_uid u.0 p) (small_uid v.0 q) r.1)

-- a name, a UID and a further word
uid_then : (a b : List ℕ) (u v : Uid) (x y : List ℕ) → IsName a → IsName b → IsNumber u.0 → IsNumber v.0 → name_word a ++ 32 ∷ (decimal_text u.0 ++ 32 ∷ x) ≡ name_word b ++ 32 ∷ (decimal_text v.0 ++ 32 ∷ y) → (a ≡ b) × (u.0 ≡ v.0) × (x ≡ y)
uid_then a b u v x y na nb p q e =
    let r = name_then a b (decimal_text u.0 ++ 32 ∷ x) (decimal_text v.0 ++ 32 ∷ y) (short_name a na) (short_name b nb) e in
    let s = number_then u.0 v.0 x y (small_uid u.0 p) (small_uid v.0 q) r.1 in
    (r.0, s.0, s.1)

deliver_same : (a b : List ℕ) (t u : ℕ) (m n x y : List ℕ) → FitsScript (request.Deliver a t m) → FitsScript (request.Deliver b u n)
    → name_word a ++ 32 ∷ (decimal_text t ++ 32 ∷ decimal_text (length m)) ≡ name_word b ++ 32 ∷ (decimal_text u ++ 32 ∷ decimal_text (length n))
    → (m ++ 10 ∷ []) ++ x ≡ (n ++ 10 ∷ []) ++ y → (request.Deliver a t m ≡ request.Deliver b u n) × (x ≡ y)
deliver_same a b t u m n x y p q e f =
    let r = name_then a b (decimal_text t ++ 32 ∷ decimal_text (length m)) (decimal_text u ++ 32 ∷ decimal_text (length n)) (short_name a p.0) (short_name b q.0) e in
    let s = number_then t u (decimal_text (length m)) (decimal_text (length n)) p.1 q.1 r.1 in
    let size : length m ≡ length n = decimal_injective (length m) (length n) (omega (arith, p.2)) (omega (arith, q.2)) s.1 in
    let k = same_front m n (10 ∷ x) (10 ∷ y) size (sym (append_assoc m (10 ∷ []) x) ∙ f ∙ append_assoc n (10 ∷ []) y) in
    let rest : 10 ∷ x ≡ 10 ∷ y = k.1 in (
      ap (λ (w : List ℕ). request.Deliver w t m) r.0 ∙ ap (λ (w : ℕ). request.Deliver b w m) s.0 ∙ ap (λ (w : List ℕ). request.Deliver b u w) k.0,
      cc rest,
    )

fetch_same : (a b : List ℕ) (u v : Uid) → FitsScript (request.Fetch a u) → FitsScript (request.Fetch b v) → name_word a ++ 32 ∷ decimal_text u.0 ≡ name_word b ++ 32 ∷ decimal_text v.0 → request.Fetch a u ≡ request.Fetch b v
fetch_same a b u v p q e =
    let r = uid_same a b u v p.0 q.0 p.1 q.1 e in
    ap (λ (w : List ℕ). request.Fetch w u) r.0 ∙ ap (λ (w : ℕ). request.Fetch b (record { 0 = w })) r.1

expunge_same : (a b : List ℕ) (u v : Uid) → FitsScript (request.Expunge a u) → FitsScript (request.Expunge b v) → name_word a ++ 32 ∷ decimal_text u.0 ≡ name_word b ++ 32 ∷ decimal_text v.0 → request.Expunge a u ≡ request.Expunge b v
expunge_same a b u v p q e =
    let r = uid_same a b u v p.0 q.0 p.1 q.1 e in
    ap (λ (w : List ℕ). request.Expunge w u) r.0 ∙ ap (λ (w : ℕ). request.Expunge b (record { 0 = w })) r.1

flag_same : (a b : List ℕ) (u v : Uid) (f g : ℕ) → FitsScript (request.Flag a u f) → FitsScript (request.Flag b v g)
    → name_word a ++ 32 ∷ (decimal_text u.0 ++ 32 ∷ decimal_text f) ≡ name_word b ++ 32 ∷ (decimal_text v.0 ++ 32 ∷ decimal_text g) → request.Flag a u f ≡ request.Flag b v g
flag_same a b u v f g p q e =
    let r = uid_then a b u v (decimal_text f) (decimal_text g) p.0 q.0 p.1 q.1 e in
    let bits : f ≡ g = decimal_injective f g (omega (arith, p.2)) (omega (arith, q.2)) r.2 in
    ap (λ (w : List ℕ). request.Flag w u f) r.0 ∙ ap (λ (w : ℕ). request.Flag b (record { 0 = w }) f) r.1 ∙ ap (λ (w : ℕ). request.Flag b v w) bits

keywords_same : (a b : List ℕ) (u v : Uid) (f g : List (List ℕ)) → FitsScript (request.Keywords a u f) → FitsScript (request.Keywords b v g)
    → name_word a ++ 32 ∷ (decimal_text u.0 ++ 32 ∷ spaced (decimal_text (length f) ∷ f)) ≡ name_word b ++ 32 ∷ (decimal_text v.0 ++ 32 ∷ spaced (decimal_text (length g) ∷ g)) → request.Keywords a u f ≡ request.Keywords b v g
keywords_same a b u v f g p q e =
    let r = uid_then a b u v (spaced (decimal_text (length f) ∷ f)) (spaced (decimal_text (length g) ∷ g)) p.0 q.0 p.1 q.1 e in
    let words : f ≡ g = counted_same f g p.2 q.2 r.2 in
    ap (λ (w : List ℕ). request.Keywords w u f) r.0 ∙ ap (λ (w : ℕ). request.Keywords b (record { 0 = w }) f) r.1 ∙ ap (λ (w : List (List ℕ)). request.Keywords b v w) words

copy_same : (a b : List ℕ) (u v : Uid) (s t : List ℕ) → FitsScript (request.Copy a u s) → FitsScript (request.Copy b v t)
    → name_word a ++ 32 ∷ (decimal_text u.0 ++ 32 ∷ name_word s) ≡ name_word b ++ 32 ∷ (decimal_text v.0 ++ 32 ∷ name_word t) → request.Copy a u s ≡ request.Copy b v t
copy_same a b u v s t p q e =
    let r = uid_then a b u v (name_word s) (name_word t) p.0 q.0 p.1 q.1 e in
    let target : s ≡ t = name_alone_same s t p.2 q.2 r.2 in
    ap (λ (w : List ℕ). request.Copy w u s) r.0 ∙ ap (λ (w : ℕ). request.Copy b (record { 0 = w }) s) r.1 ∙ ap (λ (w : List ℕ). request.Copy b v w) target

move_same : (a b : List ℕ) (u v : Uid) (s t : List ℕ) → FitsScript (request.Move a u s) → FitsScript (request.Move b v t)
    → name_word a ++ 32 ∷ (decimal_text u.0 ++ 32 ∷ name_word s) ≡ name_word b ++ 32 ∷ (decimal_text v.0 ++ 32 ∷ name_word t) → request.Move a u s ≡ request.Move b v t
move_same a b u v s t p q e =
    let r = uid_then a b u v (name_word s) (name_word t) p.0 q.0 p.1 q.1 e in
    let target : s ≡ t = name_alone_same s t p.2 q.2 r.2 in
    ap (λ (w : List ℕ). request.Move w u s) r.0 ∙ ap (λ (w : ℕ). request.Move b (record { 0 = w }) s) r.1 ∙ ap (λ (w : List ℕ). request.Move b v w) target

rename_same : (a b s t : List ℕ) → FitsScript (request.Rename a s) → FitsScript (request.Rename b t) → name_word a ++ 32 ∷ name_word s ≡ name_word b ++ 32 ∷ name_word t → request.Rename a s ≡ request.Rename b t
rename_same a b s t p q e =
    let r = name_then a b (name_word s) (name_word t) (short_name a p.0) (short_name b q.0) e in
    let target : s ≡ t = name_alone_same s t p.1 q.1 r.1 in
    ap (λ (w : List ℕ). request.Rename w s) r.0 ∙ ap (λ (w : List ℕ). request.Rename b w) target

asked_same : (a b : Request) (x y : List ℕ) → FitsScript a → FitsScript b → spaced (request_words a) ≡ spaced (request_words b) → message_text a ++ x ≡ message_text b ++ y → (a ≡ b) × (x ≡ y)
asked_same (request.Deliver a t m) (request.Deliver b u n) x y p q e f = deliver_same a b t u m n x y p q (ap (drop 8) e) f
asked_same (request.List a) (request.List b) x y p q e f = (ap (λ (w : List ℕ). request.List w) (name_alone_same a b p q (ap (drop 5) e)), f)
asked_same (request.Fetch a u) (request.Fetch b v) x y p q e f = (fetch_same a b u v p q (ap (drop 6) e), f)
asked_same (request.Flag a u g) (request.Flag b v h) x y p q e f = (flag_same a b u v g h p q (ap (drop 5) e), f)
asked_same (request.Keywords a u g) (request.Keywords b v h) x y p q e f = (keywords_same a b u v g h p q (ap (drop 9) e), f)
asked_same (request.Copy a u s) (request.Copy b v t) x y p q e f = (copy_same a b u v s t p q (ap (drop 5) e), f)
asked_same (request.Move a u s) (request.Move b v t) x y p q e f = (move_same a b u v s t p q (ap (drop 5) e), f)
asked_same (request.Expunge a u) (request.Expunge b v) x y p q e f = (expunge_same a b u v p q (ap (drop 8) e), f)
asked_same (request.Make a) (request.Make b) x y p q e f = (ap (λ (w : List ℕ). request.Make w) (name_alone_same a b p q (ap (drop 5) e)), f)
asked_same request.Counts request.Counts x y p q e f = (refl, f)
asked_same request.Purge request.Purge x y p q e f = (refl, f)
asked_same request.Resync request.Resync x y p q e f = (refl, f)
asked_same (request.Delete a) (request.Delete b) x y p q e f = (ap (λ (w : List ℕ). request.Delete w) (name_alone_same a b p q (ap (drop 7) e)), f)
asked_same (request.Rename a s) (request.Rename b t) x y p q e f = (rename_same a b s t p q (ap (drop 7) e), f)
asked_same a b x y p q e f = absurd (differ (spaced (request_words a)) (spaced (request_words b)) e refl)

-- no request begins another
pub request_same : (lanes : ℕ) (a b : ℕ × Request) (x y : List ℕ) → lanes < 2 ^ 32 → FitsLanes lanes a → FitsLanes lanes b → request_text a ++ x ≡ request_text b ++ y → (a ≡ b) × (x ≡ y)
request_same lanes a b x y small p q e =
    let line = decimal_text a.0 ++ 32 ∷ spaced (request_words a.1) in
    let r = parts_of lanes b (request_text a ++ x) line (message_text a.1 ++ x) y small q (line_clear lanes a small p) (laid_out a x) e in
    let s = number_then a.0 b.0 (spaced (request_words a.1)) (spaced (request_words b.1)) (omega (arith, p.last)) (omega (arith, q.last)) r.0 in
    let t = asked_same a.1 b.1 x y p.fits q.fits s.1 r.1 in
    (ap (λ (k : ℕ). let z : ℕ × Request = (k, a.1) in z) s.0 ∙ ap (λ (k : Request). let z : ℕ × Request = (b.0, k) in z) t.0, t.1)
