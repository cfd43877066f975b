-- A request that is taken from a source by its line, and by what follows the line.
use Rattle.std.specs.Prelude.{◌≡◌, ◌≢◌, ◌<◌, ◌≤◌, ◌+◌, ◌^◌, ℕ, List, [], ◌∷◌, ◌++◌, length, codes, IsTrue, IfSome, Option, Some, None, ◌⊎◌, refl}
use Rattle.std.specs.List.{list_all}
use Rattle.std.specs.Option.{option_map}
use Rattle.std.proofs.Common.{sym, ◌∙◌, ap, subst, arith, append_assoc, append-nil, inl, inr}
use Rattle.std.proofs.lemmas.Fmt.{decimal_injective, length-decimal-le}
use Rattle.std.proofs.lemmas.List.{length-append}
use Rattle.mdbox_base.specs.Numbers.{decimal_text}
use Rattle.mdbox_base.specs.Streams.{IsAtEnd, Taken}
use Rattle.mdbox_base.specs.Words.{IsName, is_other_than}
use Rattle.mdbox_base.proofs.StreamLemmas.{taken_more}
use Rattle.mdbox_base.specs.declared.requests.Request.{Request}
use Rattle.mdbox_base.specs.declared.requests.Request.TheVariants as request
use Rattle.script_text.specs.Script.{BeginsNoRequest, FitsLanes, FitsScript, message_text, name_word, request_text, request_words, spaced}
use Rattle.script_text.specs.Taking.{HasNoLf, IsLineTaken, OfSource, TakesUpTo, request_line}
use Rattle.script_text.proofs.CutLemmas.{no_cut}
use Rattle.script_text.proofs.SpacedLemmas.{counted_short}
use Rattle.script_text.proofs.RequestLemmas.{differ, lane_first, name_then, number_then, parts_of, short_name, small_uid}

-- ---- no line is long

number_short : (n : ℕ) → n < 2 ^ 64 → length (decimal_text n) ≤ 20
number_short n lt = length-decimal-le 20 n (omega arith) (omega (arith, lt)) lt

name_short : (name : List ℕ) → IsName name → length (name_word name) ≤ 276
name_short name n = let k = n.short in let h = number_short (length name) (omega (arith, k)) in let l = length-append (decimal_text (length name)) (58 ∷ name) in omega (arith, k, h, l)

two_short : (a b : List ℕ) (m n : ℕ) → length a ≤ m → length b ≤ n → length (a ++ 32 ∷ b) ≤ m + n + 1
two_short a b m n p q = let l = length-append a (32 ∷ b) in omega (arith, p, q, l)

deliver_short : (name : List ℕ) (time : ℕ) (message : List ℕ) → FitsScript (request.Deliver name time message) → length (spaced (request_words (request.Deliver name time message))) ≤ 600
deliver_short name time message p =
    let h = two_short (name_word name) (decimal_text time ++ 32 ∷ decimal_text (length message)) 276 41 (name_short name p.0) (two_short (decimal_text time) (decimal_text (length message)) 20 20 (number_short time p.1) (number_short (length message) (omega (arith, p.2)))) in
    omega (arith, h)

words_short : (asked : Request) → FitsScript asked → length (spaced (request_words asked)) ≤ 3000
words_short (request.Deliver name time message) p = let h = deliver_short name time message p in omega (arith, h)
words_short (request.List name) p = let h = name_short name p in omega (arith, h)
words_short (request.Fetch name uid) p = let h = two_short (name_word name) (decimal_text uid.0) 276 20 (name_short name p.0) (number_short uid.0 (small_uid uid.0 p.1)) in omega (arith, h)
words_short (request.Flag name uid flags) p =
    let h = two_short (name_word name) (decimal_text uid.0 ++ 32 ∷ decimal_text flags) 276 41 (name_short name p.0) (two_short (decimal_text uid.0) (decimal_text flags) 20 20 (number_short uid.0 (small_uid uid.0 p.1)) (number_short flags (omega (arith, p.2)))) in
    omega (arith, h)
words_short (request.Keywords name uid words) p =
    let n = number_short (length words) (let few = p.2.few in omega (arith, few)) in
    let h = two_short (name_word name) (decimal_text uid.0 ++ 32 ∷ spaced (decimal_text (length words) ∷ words)) 276 2121 (name_short name p.0) (two_short (decimal_text uid.0) (spaced (decimal_text (length words) ∷ words)) 20 2100 (number_short uid.0 (small_uid uid.0 p.1)) (counted_short words p.2 n)) in
    omega (arith, h)
words_short (request.Copy name uid target) p =
    let h = two_short (name_word name) (decimal_text uid.0 ++ 32 ∷ name_word target) 276 297 (name_short name p.0) (two_short (decimal_text uid.0) (name_word target) 20 276 (number_short uid.0 (small_uid uid.0 p.1)) (name_short target p.2)) in
    omega (arith, h)
words_short (request.Move name uid target) p =
    let h = two_short (name_word name) (decimal_text uid.0 ++ 32 ∷ name_word target) 276 297 (name_short name p.0) (two_short (decimal_text uid.0) (name_word target) 20 276 (number_short uid.0 (small_uid uid.0 p.1)) (name_short target p.2)) in
    omega (arith, h)
words_short (request.Expunge name uid) p = let h = two_short (name_word name) (decimal_text uid.0) 276 20 (name_short name p.0) (number_short uid.0 (small_uid uid.0 p.1)) in omega (arith, h)
words_short (request.Make name) p = let h = name_short name p in omega (arith, h)
words_short request.Counts p = omega arith
words_short request.Purge p = omega arith
words_short request.Resync p = omega arith
words_short (request.Delete name) p = let h = name_short name p in omega (arith, h)
words_short (request.Rename name target) p = let h = two_short (name_word name) (name_word target) 276 276 (name_short name p.0) (name_short target p.1) in omega (arith, h)

pub line_short : (lanes : ℕ) (asked : ℕ × Request) → lanes < 2 ^ 32 → FitsLanes lanes asked → length (request_line asked) ≤ 4096
line_short lanes asked small fits =
    let last = fits.last in
    let h = two_short (decimal_text asked.0) (spaced (request_words asked.1)) 20 3000 (number_short asked.0 (omega (arith, small, last))) (words_short asked.1 fits.fits) in
    let same : length (request_line asked) ≡ length (decimal_text asked.0 ++ 32 ∷ spaced (request_words asked.1)) = ap length (lane_first asked.0 asked.1) in
    omega (arith, h, same)

-- words and a message
text_short : (asked : Request) → FitsScript asked → length (spaced (request_words asked)) + length (message_text asked) ≤ 67109500
text_short (request.Deliver name time message) p = let h = deliver_short name time message p in let few = p.2 in let l = length-append message (10 ∷ []) in omega (arith, h, few, l)
text_short other p = let h = words_short other p in omega (arith, h)

-- no request is long
pub request_short : (lanes : ℕ) (asked : ℕ × Request) → lanes < 2 ^ 32 → FitsLanes lanes asked → length (request_text asked) ≤ 67110000
request_short lanes asked small fits =
    let last = fits.last in
    let n = number_short asked.0 (omega (arith, small, last)) in
    let h = text_short asked.1 fits.fits in
    let l = length-append (decimal_text asked.0) (32 ∷ spaced (request_words asked.1)) in
    let same : length (request_line asked) ≡ length (decimal_text asked.0 ++ 32 ∷ spaced (request_words asked.1)) = ap length (lane_first asked.0 asked.1) in
    let whole = length-append (request_line asked) (10 ∷ message_text asked.1) in
    omega (arith, n, h, l, same, whole)

-- ---- a front of a text

pub front_in : (a b c d : List ℕ) → a ++ c ≡ b ++ d → length b ≤ length a → (r : List ℕ) × (a ≡ b ++ r)
front_in a [] c d e l = (a, refl)
front_in [] (y ∷ b) c d e l = absurd (omega (arith, l))
front_in (x ∷ a) (y ∷ b) c d e l =
    let h : x ≡ y = cc in
    let t : a ++ c ≡ b ++ d = cc in
    let r = front_in a b c d t (omega (arith, l)) in
    (r.0, cc (h, r.1))

-- ---- how many octets follow a line

-- A delivery's words say how many octets its message has.
pub size_told : (name : List ℕ) (time size : ℕ) (arguments : List ℕ) → IsName name → time < 2 ^ 64 → size < 2 ^ 64 → arguments ≡ spaced (name_word name ∷ decimal_text time ∷ decimal_text size ∷ []) → (asked : Request) → FitsScript asked → codes "deliver " ++ arguments ≡ spaced (request_words asked) → length (message_text asked) ≡ size + 1
size_told name time size arguments n tl sl e (request.Deliver other t message) fits is =
    let r = name_then other name (decimal_text t ++ 32 ∷ decimal_text (length message)) (decimal_text time ++ 32 ∷ decimal_text size) (short_name other fits.0) (short_name name n) (sym (after is) ∙ e) in
    let s = number_then t time (decimal_text (length message)) (decimal_text size) fits.1 tl r.1 in
    let same : length message ≡ size = decimal_injective (length message) size (omega (arith, fits.2)) sl s.1 in
    let long = length-append message (10 ∷ []) in
    omega (arith, same, long)
  where
    after : codes "deliver " ++ arguments ≡ codes "deliver " ++ (name_word other ++ 32 ∷ (decimal_text t ++ 32 ∷ decimal_text (length message))) → arguments ≡ name_word other ++ 32 ∷ (decimal_text t ++ 32 ∷ decimal_text (length message))
    after p = cc p
size_told name time size arguments n tl sl e other fits is = absurd (differ (codes "deliver " ++ arguments) (spaced (request_words other)) is refl)

-- A request whose words don't begin so has no message.
pub no_message : (asked : Request) → ((rest : List ℕ) → spaced (request_words asked) ≢ codes "deliver " ++ rest) → length (message_text asked) ≡ 0
no_message (request.Deliver name time message) none = absurd (none (name_word name ++ 32 ∷ (decimal_text time ++ 32 ∷ decimal_text (length message))) refl)
no_message other none = refl

-- the words of a request's line
pub words_of_line : (lanes : ℕ) (asked : ℕ × Request) (text line rest : List ℕ) → lanes < 2 ^ 32 → FitsLanes lanes asked → text ≡ line ++ 10 ∷ rest → IsTrue (list_all (is_other_than 10) line) → text ≡ request_line asked ++ 10 ∷ [] → line ≡ decimal_text asked.0 ++ 32 ∷ spaced (request_words asked.1)
words_of_line lanes asked text line rest small fits cut clear is =
    let whole : text ++ message_text asked.1 ≡ request_text asked ++ [] =
    ap (λ (t : List ℕ). t ++ message_text asked.1) is ∙ append_assoc (request_line asked) (10 ∷ []) (message_text asked.1) ∙ sym (append-nil (request_text asked)) in
    let cut_whole : text ++ message_text asked.1 ≡ line ++ 10 ∷ (rest ++ message_text asked.1) = ap (λ (t : List ℕ). t ++ message_text asked.1) cut ∙ append_assoc line (10 ∷ rest) (message_text asked.1) in
    (parts_of lanes asked (text ++ message_text asked.1) line (rest ++ message_text asked.1) [] small fits clear cut_whole whole).0

-- ---- what was taken is no request, so none stands in front of the source

-- a text without an LF that is no shorter than a line can be begins no request
long_line : (lanes : ℕ) (text rest : List ℕ) → lanes < 2 ^ 32 → HasNoLf text → 4096 < length text → BeginsNoRequest lanes (text ++ rest)
long_line lanes text rest small clear long asked after fits e =
    let short = line_short lanes asked small fits in
    let same : text ++ rest ≡ (request_line asked ++ 10 ∷ []) ++ (message_text asked.1 ++ after) =
    e ∙ append_assoc (request_line asked) (10 ∷ message_text asked.1) after ∙ sym (append_assoc (request_line asked) (10 ∷ []) (message_text asked.1 ++ after)) in
    let l = length-append (request_line asked) (10 ∷ []) in
    let f = front_in text (request_line asked ++ 10 ∷ []) rest (message_text asked.1 ++ after) same (omega (arith, short, long, l)) in
    no_cut 10 text (request_line asked) f.0 clear (f.1 ∙ append_assoc (request_line asked) (10 ∷ []) f.0)

-- a line with so many octets behind it as a request of this line has begins none, if it is none itself
whole_line : (lanes : ℕ) (line more rest : List ℕ) → lanes < 2 ^ 32 → HasNoLf line → ((asked : ℕ × Request) → FitsLanes lanes asked → line ++ 10 ∷ [] ≡ request_line asked ++ 10 ∷ [] → length (message_text asked.1) ≡ length more)
    → BeginsNoRequest lanes ((line ++ 10 ∷ []) ++ more) → BeginsNoRequest lanes (((line ++ 10 ∷ []) ++ more) ++ rest)
whole_line lanes line more rest small clear counts none asked after fits e =
    let flat : ((line ++ 10 ∷ []) ++ more) ++ rest ≡ line ++ 10 ∷ (more ++ rest) = ap (λ (t : List ℕ). t ++ rest) (append_assoc line (10 ∷ []) more) ∙ append_assoc line (10 ∷ more) rest in
    let parts = parts_of lanes asked (line ++ 10 ∷ (more ++ rest)) line (more ++ rest) after small fits clear refl (sym flat ∙ e) in
    let is : line ≡ request_line asked = parts.0 ∙ sym (lane_first asked.0 asked.1) in
    let many = counts asked fits (ap (λ (l : List ℕ). l ++ 10 ∷ []) is) in
    let same_line : length line ≡ length (request_line asked) = ap length is in
    let whole : length (request_line asked ++ 10 ∷ message_text asked.1) ≡ length (request_line asked) + length (10 ∷ message_text asked.1) = length-append (request_line asked) (10 ∷ message_text asked.1) in
    let here = length-append (line ++ 10 ∷ []) more in
    let line_long = length-append line (10 ∷ []) in
    let f = front_in ((line ++ 10 ∷ []) ++ more) (request_text asked) rest after e (omega (arith, many, same_line, whole, here, line_long)) in
    none asked f.0 fits f.1

-- what was left of a source, of which a text was taken
pub of_taken : (old new : Option (List ℕ)) (text : List ℕ) (P : List ℕ → Type 0) → Taken old text new → P text → ((rest : List ℕ) → new ≡ Some rest → P (text ++ rest)) → OfSource old P
of_taken old None text P taken own holds = (text, subst (λ (o : Option (List ℕ)). IfSome o (λ all. all ≡ text)) (sym taken) tt, own)
of_taken old (Some rest) text P taken own holds = (text ++ rest, subst (λ (o : Option (List ℕ)). IfSome o (λ all. all ≡ text ++ rest)) (sym taken) refl, holds rest refl)

pub at_end : (left : Option (List ℕ)) (rest : List ℕ) → left ≡ Some rest → IsAtEnd left → rest ≡ []
at_end left rest is end = let e : IfSome (Some rest) (λ r. r ≡ []) = subst (λ (o : Option (List ℕ)). IsAtEnd o) is end in e

-- nothing is left of a source that was at its end before more was taken
pub none_left : (mid new : Option (List ℕ)) (octets rest : List ℕ) → Taken mid octets new → new ≡ Some rest → IsAtEnd mid → rest ≡ []
none_left mid new octets rest taken left end =
    let there : mid ≡ Some (octets ++ rest) = taken ∙ ap (option_map (λ r. octets ++ r)) left in
    none_behind octets rest (at_end mid (octets ++ rest) there end)
  where
    none_behind : (a b : List ℕ) → a ++ b ≡ [] → b ≡ []
    none_behind [] b e = e
    none_behind (x ∷ a) b e = absurd (cc e)

at_last : (lanes : ℕ) (text rest : List ℕ) → rest ≡ [] → BeginsNoRequest lanes text → BeginsNoRequest lanes (text ++ rest)
at_last lanes text rest none bad = subst (λ (t : List ℕ). BeginsNoRequest lanes t) (sym (ap (λ (r : List ℕ). text ++ r) none ∙ append-nil text)) bad

-- none stands in front of the source
pub none_in_front : (lanes count : ℕ) (line text : List ℕ) (mid new : Option (List ℕ)) → lanes < 2 ^ 32 → IsLineTaken line mid → TakesUpTo count line text mid new → ((asked : ℕ × Request) → FitsLanes lanes asked → line ≡ request_line asked ++ 10 ∷ [] → length (message_text asked.1) ≡ count)
    → BeginsNoRequest lanes text → (rest : List ℕ) → new ≡ Some rest → BeginsNoRequest lanes (text ++ rest)
none_in_front lanes count line text mid new small is takes counts bad rest left = by_line is takes.4
  where
    text_is : text ≡ line ++ takes.0
    text_is = takes.1

    long : length text ≡ length line + length takes.0
    long = ap length text_is ∙ length-append line takes.0

    by_line : IsLineTaken line mid → (length takes.0 ≡ count) ⊎ IsAtEnd new → BeginsNoRequest lanes (text ++ rest)
    by_line some (inr end) = at_last lanes text rest (at_end new rest left end) bad
    by_line (inl (own, own_is, clear)) (inl all) =
        let same : text ≡ (own ++ 10 ∷ []) ++ takes.0 = text_is ∙ ap (λ (l : List ℕ). l ++ takes.0) own_is in
        subst (λ (t : List ℕ). BeginsNoRequest lanes (t ++ rest)) (sym same)
        (whole_line lanes own takes.0 rest small clear (λ asked fits e. counts asked fits (own_is ∙ e) ∙ sym all) (subst (λ (t : List ℕ). BeginsNoRequest lanes t) same bad))
    by_line (inr (clear, why)) (inl all) = by_cause why
      where
        by_cause : IsAtEnd mid ⊎ (4096 < length line) → BeginsNoRequest lanes (text ++ rest)
        by_cause (inl end) = at_last lanes text rest (none_left mid new takes.0 rest takes.2 left end) bad
        by_cause (inr many) = subst (λ (t : List ℕ). BeginsNoRequest lanes t) (sym (ap (λ (t : List ℕ). t ++ rest) text_is ∙ append_assoc line takes.0 rest)) (long_line lanes line (takes.0 ++ rest) small clear many)

pub all_taken : (count : ℕ) (line text : List ℕ) (old mid new : Option (List ℕ)) → Taken old line mid → TakesUpTo count line text mid new → Taken old text new
all_taken count line text old mid new first takes = subst (λ (t : List ℕ). Taken old t new) (sym takes.1) (taken_more old mid new line takes.0 first takes.2)

pub some_taken : (count : ℕ) (line text : List ℕ) (mid new : Option (List ℕ)) → 0 < length line → TakesUpTo count line text mid new → 0 < length text
some_taken count line text mid new some takes = let long : length text ≡ length line + length takes.0 = ap length takes.1 ∙ length-append line takes.0 in omega (arith, some, long)

-- ---- and what was taken is just the request

empty_of : (xs : List ℕ) → length xs ≡ 0 → xs ≡ []
empty_of [] e = refl
empty_of (x ∷ xs) e = absurd (omega (arith, e))

none_behind : (lanes count : ℕ) (line text : List ℕ) (mid new : Option (List ℕ)) (asked : ℕ × Request) (after : List ℕ) → lanes < 2 ^ 32 → IsLineTaken line mid → TakesUpTo count line text mid new
    → ((asked : ℕ × Request) → FitsLanes lanes asked → line ≡ request_line asked ++ 10 ∷ [] → length (message_text asked.1) ≡ count) → (HasNoLf line → count ≡ 0) → FitsLanes lanes asked → text ≡ request_text asked ++ after → after ≡ []
none_behind lanes count line text mid new asked after small is takes counts none fits e = by_line is
  where
    few : length takes.0 ≤ count
    few = takes.3

    by_line : IsLineTaken line mid → after ≡ []
    by_line (inl (own, own_is, clear)) =
        let flat : text ≡ own ++ 10 ∷ takes.0 = takes.1 ∙ ap (λ (l : List ℕ). l ++ takes.0) own_is ∙ append_assoc own (10 ∷ []) takes.0 in
        let parts = parts_of lanes asked text own takes.0 after small fits clear flat e in
        let own_line : own ≡ request_line asked = parts.0 ∙ sym (lane_first asked.0 asked.1) in
        let many = counts asked fits (own_is ∙ ap (λ (l : List ℕ). l ++ 10 ∷ []) own_line) in
        let long : length takes.0 ≡ length (message_text asked.1) + length after = ap length parts.1 ∙ length-append (message_text asked.1) after in
        empty_of after (omega (arith, many, long, few))
    by_line (inr (clear, why)) =
        let zero_is = none clear in
        let nothing : takes.0 ≡ [] = empty_of takes.0 (omega (arith, zero_is, few)) in
        let same : line ≡ text = sym (takes.1 ∙ (ap (λ (o : List ℕ). line ++ o) nothing ∙ append-nil line)) in
        absurd (no_cut 10 line (request_line asked) (message_text asked.1 ++ after) clear (same ∙ (e ∙ append_assoc (request_line asked) (10 ∷ message_text asked.1) after)))

pub just_taken : (lanes count : ℕ) (line text : List ℕ) (old mid new : Option (List ℕ)) (asked : ℕ × Request) (after : List ℕ) → lanes < 2 ^ 32 → Taken old line mid → IsLineTaken line mid → TakesUpTo count line text mid new
    → ((asked : ℕ × Request) → FitsLanes lanes asked → line ≡ request_line asked ++ 10 ∷ [] → length (message_text asked.1) ≡ count) → (HasNoLf line → count ≡ 0) → FitsLanes lanes asked → text ≡ request_text asked ++ after
    → (text ≡ request_text asked) × Taken old (request_text asked) new
just_taken lanes count line text old mid new asked after small first is takes counts none fits e =
    let same : text ≡ request_text asked = e ∙ (ap (λ (r : List ℕ). request_text asked ++ r) (none_behind lanes count line text mid new asked after small is takes counts none fits e) ∙ append-nil (request_text asked)) in (
      same,
      subst (λ (t : List ℕ). Taken old t new) same (all_taken count line text old mid new first takes),
    )

-- ---- how many octets follow

-- the words of a request's line follow its lane
pub words_behind : (lanes lane : ℕ) (asked : ℕ × Request) (text line rest words : List ℕ) → lanes < 2 ^ 32 → FitsLanes lanes asked → text ≡ line ++ 10 ∷ rest → IsTrue (list_all (is_other_than 10) line) → lane ≤ lanes → line ≡ decimal_text lane ++ 32 ∷ words → text ≡ request_line asked ++ 10 ∷ []
    → words ≡ spaced (request_words asked.1)
words_behind lanes lane asked text line rest words small fits cut clear high split is =
    let last = fits.last in
    (number_then lane asked.0 words (spaced (request_words asked.1)) (omega (arith, small, high)) (omega (arith, small, last)) (sym split ∙ words_of_line lanes asked text line rest small fits cut clear is)).1

-- a line of a request begins with its lane
pub no_line : (lanes : ℕ) (asked : ℕ × Request) (text line rest : List ℕ) → lanes < 2 ^ 32 → FitsLanes lanes asked → text ≡ line ++ 10 ∷ rest → IsTrue (list_all (is_other_than 10) line) → ((lane : ℕ) (words : List ℕ) → 1 ≤ lane → lane ≤ lanes → line ≢ decimal_text lane ++ 32 ∷ words) → text ≡ request_line asked ++ 10 ∷ [] → ⊥
no_line lanes asked text line rest small fits cut clear none is = none asked.0 (spaced (request_words asked.1)) fits.first fits.last (words_of_line lanes asked text line rest small fits cut clear is)

-- words that begin so are a delivery's, or none
pub no_delivery : (arguments : List ℕ) → ((name : List ℕ) (time size : ℕ) → IsName name → time < 2 ^ 64 → size < 2 ^ 64 → arguments ≢ spaced (name_word name ∷ decimal_text time ∷ decimal_text size ∷ [])) → (asked : Request) → FitsScript asked → codes "deliver " ++ arguments ≡ spaced (request_words asked) → ⊥
no_delivery arguments none (request.Deliver name time message) fits is = none name time (length message) fits.0 fits.1 (omega (arith, fits.2)) (after is)
  where
    after : codes "deliver " ++ arguments ≡ codes "deliver " ++ (name_word name ++ 32 ∷ (decimal_text time ++ 32 ∷ decimal_text (length message))) → arguments ≡ name_word name ++ 32 ∷ (decimal_text time ++ 32 ∷ decimal_text (length message))
    after p = cc p
no_delivery arguments none other fits is = differ (codes "deliver " ++ arguments) (spaced (request_words other)) is refl

pub message_small : (asked : Request) → FitsScript asked → length (message_text asked) ≤ 67108865
message_small (request.Deliver name time message) fits = let s = fits.2 in let l = length-append message (10 ∷ []) in omega (arith, s, l)
message_small other fits = omega arith
