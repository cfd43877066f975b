-- What is missing where a text goes wrong.
use Rattle.std.specs.Prelude.{◌≡◌, ◌≢◌, ◌<◌, ◌≤◌, ◌+◌, ◌^◌, ℕ, zero, suc, List, [], ◌∷◌, ◌++◌, length, codes, drop, Bool, false, IsTrue, ◌↔◌, Result, Ok, Err, IfOk, refl}
use Rattle.std.specs.List.{list_all}
use Rattle.std.proofs.Common.{sym, ◌∙◌, ap, arith, append_assoc, length-append}
use Rattle.std.proofs.lemmas.Fmt.{decimal_injective}
use Rattle.mdbox_base.specs.Numbers.{decimal_text}
use Rattle.mdbox_base.specs.Words.{IsName, IsNumber, is_other_than}
use Rattle.mdbox_base.specs.declared.requests.Request.{Request}
use Rattle.mdbox_base.specs.declared.requests.Request.TheVariants as request
use Rattle.mdbox_base.proofs.KeywordLemmas.{no_words}
use Rattle.script_text.specs.Flaws.{Has, Lacks, IsNeeded, verb_word, request_front}
use Rattle.script_text.specs.Reading.{AreDelivery, AsksNothing, BeginsVerb, IsRequestOf, IsWordsOrMessage}
use Rattle.script_text.specs.MadeScript.{lane_name}
use Rattle.script_text.specs.Script.{FitsLanes, FitsScript, IsBadAt, name_word, request_words, request_text, message_text, script_text, spaced}
use Rattle.script_text.specs.declared.flaw.Need.{Need}
use Rattle.script_text.specs.declared.flaw.Need.TheVariants as need
use Rattle.script_text.proofs.CutLemmas.{until_same}
use Rattle.script_text.proofs.MadeLemmas.{lane_is_name}
use Rattle.script_text.proofs.RequestLemmas.{lane_first, laid_out, name_then, number_then, short_name, words_clear}

-- ---- the lane

pub lane_lacks : (lanes : ℕ) (text : List ℕ) → ((lane : ℕ) (words : List ℕ) → 1 ≤ lane → lane ≤ lanes → text ≢ decimal_text lane ++ 32 ∷ words) → Lacks lanes text need.Lane
lane_lacks lanes text none asked after fits e = none asked.0 after fits.first fits.last (e ∙ append_assoc (decimal_text asked.0) (32 ∷ []) after)

pub lane_has : (lanes lane : ℕ) (text words : List ℕ) → 1 ≤ lane → lane ≤ lanes → text ≡ decimal_text lane ++ 32 ∷ words → Has lanes text need.Lane
lane_has lanes lane text words low high e = ((lane, request.Counts), words, record { first = low; last = high; fits = tt }, e ∙ sym (append_assoc (decimal_text lane) (32 ∷ []) words))

-- ---- the verb

pub verb_has : (lanes lane : ℕ) (text words : List ℕ) → 1 ≤ lane → lane ≤ lanes → text ≡ decimal_text lane ++ 32 ∷ words → BeginsVerb words → Has lanes text need.Verb
verb_has lanes lane text words low high e begins =
    ((lane, begins.0), begins.1, record { first = low; last = high; fits = begins.2 }, e ∙ ap (λ (w : List ℕ). decimal_text lane ++ 32 ∷ w) begins.3 ∙ sym (append_assoc (decimal_text lane) (32 ∷ verb_word begins.0) begins.1))

small : (lanes : ℕ) (asked : ℕ × Request) → lanes < 2 ^ 32 → FitsLanes lanes asked → asked.0 < 2 ^ 64
small lanes asked few fits = omega (arith, few, fits.last)

pub verb_lacks : (lanes lane : ℕ) (text words : List ℕ) → lanes < 2 ^ 32 → lane ≤ lanes → text ≡ decimal_text lane ++ 32 ∷ words → (BeginsVerb words → ⊥) → Lacks lanes text need.Verb
verb_lacks lanes lane text words few high e none asked after fits is =
    let same = number_then lane asked.0 words (verb_word asked.1 ++ after) (omega (arith, few, high)) (small lanes asked few fits) (sym e ∙ is ∙ append_assoc (decimal_text asked.0) (32 ∷ verb_word asked.1) after) in
    none (asked.1, after, fits.fits, same.1)

-- ---- the line

-- the line of a request, and what follows it
line_front : (asked : ℕ × Request) (after : List ℕ) → request_front need.Words asked ++ after ≡ decimal_text asked.0 ++ 32 ∷ (spaced (request_words asked.1) ++ 10 ∷ after)
line_front asked after =
    append_assoc (spaced (decimal_text asked.0 ∷ request_words asked.1)) (10 ∷ []) after
    ∙ ap (λ (line : List ℕ). line ++ 10 ∷ after) (lane_first asked.0 asked.1)
    ∙ append_assoc (decimal_text asked.0) (32 ∷ spaced (request_words asked.1)) (10 ∷ after)

pub no_line : (lanes lane : ℕ) (text words : List ℕ) → lanes < 2 ^ 32 → lane ≤ lanes → text ≡ decimal_text lane ++ 32 ∷ words → ((before behind : List ℕ) → words ≢ before ++ 10 ∷ behind) → Lacks lanes text need.Words
no_line lanes lane text words few high e none asked after fits is =
    let same = number_then lane asked.0 words (spaced (request_words asked.1) ++ 10 ∷ after) (omega (arith, few, high)) (small lanes asked few fits) (sym e ∙ is ∙ line_front asked after) in
    none (spaced (request_words asked.1)) after same.1

-- the words of a request whose line stands in front
words_same : (lanes lane : ℕ) (text words rest : List ℕ) (asked : ℕ × Request) (after : List ℕ) → lanes < 2 ^ 32 → lane ≤ lanes → text ≡ decimal_text lane ++ 32 ∷ (words ++ 10 ∷ rest) → IsTrue (list_all (is_other_than 10) words) → FitsLanes lanes asked → text ≡ request_front need.Words asked ++ after
    → (words ≡ spaced (request_words asked.1)) × (rest ≡ after)
words_same lanes lane text words rest asked after few high e clear fits is =
    let same = number_then lane asked.0 (words ++ 10 ∷ rest) (spaced (request_words asked.1) ++ 10 ∷ after) (omega (arith, few, high)) (small lanes asked few fits) (sym e ∙ is ∙ line_front asked after) in
    until_same 10 words (spaced (request_words asked.1)) rest after clear (words_clear asked.1 fits.fits) same.1

-- a delivery's line begins like no other request's
not_delivery : (words rest : List ℕ) (asked : Request) → FitsScript asked → words ≡ spaced (request_words asked) → (AreDelivery words → ⊥) → AsksNothing words rest → ⊥
not_delivery words rest (request.Deliver name time message) fits e none nothing = none (record { name = name; time = time; size = length message; name_fits = fits.0; time_fits = fits.1; size_fits = fits.2; words_are = e })
not_delivery words rest other fits e none nothing = nothing other rest (record { fits = fits; words_are = e; message_is = refl })

pub words_lack : (lanes lane : ℕ) (text words rest : List ℕ) → lanes < 2 ^ 32 → lane ≤ lanes → text ≡ decimal_text lane ++ 32 ∷ (words ++ 10 ∷ rest) → IsTrue (list_all (is_other_than 10) words) → (AreDelivery words → ⊥) → AsksNothing words rest → Lacks lanes text need.Words
words_lack lanes lane text words rest few high e clear none nothing asked after fits is =
    let same = words_same lanes lane text words rest asked after few high e clear fits is in
    not_delivery words rest asked.1 fits.fits same.0 none nothing

-- ---- the message

abbrev blanks : ℕ → List ℕ
blanks zero = []
blanks (suc n) = 0 ∷ blanks n

blanks_length : (n : ℕ) → length (blanks n) ≡ n
blanks_length zero = refl
blanks_length (suc n) = ap suc (blanks_length n)

pub words_have : (lanes lane : ℕ) (text words rest : List ℕ) → 1 ≤ lane → lane ≤ lanes → text ≡ decimal_text lane ++ 32 ∷ (words ++ 10 ∷ rest) → AreDelivery words → Has lanes text need.Words
words_have lanes lane text words rest low high e are =
    let message : List ℕ = blanks are.size in
    let long : length message ≡ are.size = blanks_length are.size in
    let asked : ℕ × Request = (lane, request.Deliver are.name are.time message) in
    let same : words ≡ spaced (request_words asked.1) = are.words_are ∙ ap (λ (n : ℕ). codes "deliver" ++ 32 ∷ spaced (name_word are.name ∷ decimal_text are.time ∷ decimal_text n ∷ [])) (sym long) in
    let few : length message ≤ 67108864 = omega (arith, long, are.size_fits) in
    (asked, rest, record { first = low; last = high; fits = (are.name_fits, are.time_fits, few) }, e ∙ ap (λ (w : List ℕ). decimal_text lane ++ 32 ∷ (w ++ 10 ∷ rest)) same ∙ sym (line_front asked rest))

-- a request and what follows it: lane and words, LF, message, and the rest
whole_front : (asked : ℕ × Request) (after : List ℕ) → request_text asked ++ after ≡ decimal_text asked.0 ++ 32 ∷ (spaced (request_words asked.1) ++ 10 ∷ (message_text asked.1 ++ after))
whole_front asked after = laid_out asked after ∙ append_assoc (decimal_text asked.0) (32 ∷ spaced (request_words asked.1)) (10 ∷ (message_text asked.1 ++ after))

pub message_lacks : (lanes lane : ℕ) (text words rest : List ℕ) → lanes < 2 ^ 32 → lane ≤ lanes → text ≡ decimal_text lane ++ 32 ∷ (words ++ 10 ∷ rest) → IsTrue (list_all (is_other_than 10) words) → AsksNothing words rest → Lacks lanes text need.Message
message_lacks lanes lane text words rest few high e clear nothing asked after fits is =
    let same = number_then lane asked.0 (words ++ 10 ∷ rest) (spaced (request_words asked.1) ++ 10 ∷ (message_text asked.1 ++ after)) (omega (arith, few, high)) (small lanes asked few fits) (sym e ∙ is ∙ whole_front asked after) in
    let parts = until_same 10 words (spaced (request_words asked.1)) rest (message_text asked.1 ++ after) clear (words_clear asked.1 fits.fits) same.1 in
    nothing asked.1 after (record { fits = fits.fits; words_are = parts.0; message_is = parts.1 })

pub message_has : (lanes lane : ℕ) (text words rest after : List ℕ) (asked : Request) → 1 ≤ lane → lane ≤ lanes → text ≡ decimal_text lane ++ 32 ∷ (words ++ 10 ∷ rest) → IsRequestOf words rest asked after → Has lanes text need.Message
message_has lanes lane text words rest after asked low high e is = (
  (lane, asked),
  after,
  record { first = low; last = high; fits = is.fits },
  e ∙ ap (λ (w : List ℕ). decimal_text lane ++ 32 ∷ (w ++ 10 ∷ rest)) is.words_are ∙ ap (λ (r : List ℕ). decimal_text lane ++ 32 ∷ (spaced (request_words asked) ++ 10 ∷ r)) is.message_is ∙ sym (whole_front (lane, asked) after),
)

-- ---- which verb begins

named : IsName (lane_name 1)
named = lane_is_name 1 (omega arith)

one_uid : IsNumber 1
one_uid = record { low = omega arith; high = omega arith }

pub deliver_begins : (text : List ℕ) → ((after : List ℕ) × (text ≡ codes "deliver" ++ after)) → BeginsVerb text
deliver_begins text e = (request.Deliver (lane_name 1) 0 [], e.0, (named, omega arith, omega arith), e.1)

pub list_begins : (text : List ℕ) → ((after : List ℕ) × (text ≡ codes "list" ++ after)) → BeginsVerb text
list_begins text e = (request.List (lane_name 1), e.0, named, e.1)

pub fetch_begins : (text : List ℕ) → ((after : List ℕ) × (text ≡ codes "fetch" ++ after)) → BeginsVerb text
fetch_begins text e = (request.Fetch (lane_name 1) (record { 0 = 1 }), e.0, (named, one_uid), e.1)

pub flag_begins : (text : List ℕ) → ((after : List ℕ) × (text ≡ codes "flag" ++ after)) → BeginsVerb text
flag_begins text e = (request.Flag (lane_name 1) (record { 0 = 1 }) 0, e.0, (named, one_uid, omega arith), e.1)

pub keywords_begins : (text : List ℕ) → ((after : List ℕ) × (text ≡ codes "keywords" ++ after)) → BeginsVerb text
keywords_begins text e = (request.Keywords (lane_name 1) (record { 0 = 1 }) [], e.0, (named, one_uid, no_words), e.1)

pub copy_begins : (text : List ℕ) → ((after : List ℕ) × (text ≡ codes "copy" ++ after)) → BeginsVerb text
copy_begins text e = (request.Copy (lane_name 1) (record { 0 = 1 }) (lane_name 1), e.0, (named, one_uid, named), e.1)

pub move_begins : (text : List ℕ) → ((after : List ℕ) × (text ≡ codes "move" ++ after)) → BeginsVerb text
move_begins text e = (request.Move (lane_name 1) (record { 0 = 1 }) (lane_name 1), e.0, (named, one_uid, named), e.1)

pub expunge_begins : (text : List ℕ) → ((after : List ℕ) × (text ≡ codes "expunge" ++ after)) → BeginsVerb text
expunge_begins text e = (request.Expunge (lane_name 1) (record { 0 = 1 }), e.0, (named, one_uid), e.1)

pub make_begins : (text : List ℕ) → ((after : List ℕ) × (text ≡ codes "make" ++ after)) → BeginsVerb text
make_begins text e = (request.Make (lane_name 1), e.0, named, e.1)

pub delete_begins : (text : List ℕ) → ((after : List ℕ) × (text ≡ codes "delete" ++ after)) → BeginsVerb text
delete_begins text e = (request.Delete (lane_name 1), e.0, named, e.1)

pub rename_begins : (text : List ℕ) → ((after : List ℕ) × (text ≡ codes "rename" ++ after)) → BeginsVerb text
rename_begins text e = (request.Rename (lane_name 1) (lane_name 1), e.0, (named, named), e.1)

pub counts_begins : (text : List ℕ) → ((after : List ℕ) × (text ≡ codes "counts" ++ after)) → BeginsVerb text
counts_begins text e = (request.Counts, e.0, tt, e.1)

pub purge_begins : (text : List ℕ) → ((after : List ℕ) × (text ≡ codes "purge" ++ after)) → BeginsVerb text
purge_begins text e = (request.Purge, e.0, tt, e.1)

pub resync_begins : (text : List ℕ) → ((after : List ℕ) × (text ≡ codes "resync" ++ after)) → BeginsVerb text
resync_begins text e = (request.Resync, e.0, tt, e.1)

-- no verb begins that isn't one of these
-- a request's verb is one of the verbs
of_asked : (text : List ℕ) → (((after : List ℕ) × (text ≡ codes "deliver" ++ after)) → ⊥) → (((after : List ℕ) × (text ≡ codes "list" ++ after)) → ⊥) → (((after : List ℕ) × (text ≡ codes "fetch" ++ after)) → ⊥) → (((after : List ℕ) × (text ≡ codes "flag" ++ after)) → ⊥) → (((after : List ℕ) × (text ≡ codes "copy" ++ after)) → ⊥) → (((after : List ℕ) × (text ≡ codes "move" ++ after)) → ⊥) → (((after : List ℕ) × (text ≡ codes "expunge" ++ after)) → ⊥) → (((after : List ℕ) × (text ≡ codes "make" ++ after)) → ⊥) → (((after : List ℕ) × (text ≡ codes "delete" ++ after)) → ⊥) → (((after : List ℕ) × (text ≡ codes "rename" ++ after)) → ⊥) → (((after : List ℕ) × (text ≡ codes "counts" ++ after)) → ⊥) → (((after : List ℕ) × (text ≡ codes "purge" ++ after)) → ⊥) → (((after : List ℕ) × (text ≡ codes "keywords" ++ after)) → ⊥) → (((after : List ℕ) × (text ≡ codes "resync" ++ after)) → ⊥) → (asked : Request) (after : List ℕ) → FitsScript asked → text ≡ verb_word asked ++ after → ⊥
of_asked text n0 n1 n2 n3 n4 n5 n6 n7 n8 n9 n10 n11 n12 n13 (request.Deliver name time message) after f e = n0 (after, e)
of_asked text n0 n1 n2 n3 n4 n5 n6 n7 n8 n9 n10 n11 n12 n13 (request.List name) after f e = n1 (after, e)
of_asked text n0 n1 n2 n3 n4 n5 n6 n7 n8 n9 n10 n11 n12 n13 (request.Fetch name uid) after f e = n2 (after, e)
of_asked text n0 n1 n2 n3 n4 n5 n6 n7 n8 n9 n10 n11 n12 n13 (request.Flag name uid flags) after f e = n3 (after, e)
of_asked text n0 n1 n2 n3 n4 n5 n6 n7 n8 n9 n10 n11 n12 n13 (request.Keywords name uid words) after f e = n12 (after, e)
of_asked text n0 n1 n2 n3 n4 n5 n6 n7 n8 n9 n10 n11 n12 n13 (request.Copy name uid target) after f e = n4 (after, e)
of_asked text n0 n1 n2 n3 n4 n5 n6 n7 n8 n9 n10 n11 n12 n13 (request.Move name uid target) after f e = n5 (after, e)
of_asked text n0 n1 n2 n3 n4 n5 n6 n7 n8 n9 n10 n11 n12 n13 (request.Expunge name uid) after f e = n6 (after, e)
of_asked text n0 n1 n2 n3 n4 n5 n6 n7 n8 n9 n10 n11 n12 n13 (request.Make name) after f e = n7 (after, e)
of_asked text n0 n1 n2 n3 n4 n5 n6 n7 n8 n9 n10 n11 n12 n13 request.Counts after f e = n10 (after, e)
of_asked text n0 n1 n2 n3 n4 n5 n6 n7 n8 n9 n10 n11 n12 n13 request.Purge after f e = n11 (after, e)
of_asked text n0 n1 n2 n3 n4 n5 n6 n7 n8 n9 n10 n11 n12 n13 request.Resync after f e = n13 (after, e)
of_asked text n0 n1 n2 n3 n4 n5 n6 n7 n8 n9 n10 n11 n12 n13 (request.Delete name) after f e = n8 (after, e)
of_asked text n0 n1 n2 n3 n4 n5 n6 n7 n8 n9 n10 n11 n12 n13 (request.Rename name target) after f e = n9 (after, e)

pub none_begins : (text : List ℕ) → (((after : List ℕ) × (text ≡ codes "deliver" ++ after)) → ⊥) → (((after : List ℕ) × (text ≡ codes "list" ++ after)) → ⊥) → (((after : List ℕ) × (text ≡ codes "fetch" ++ after)) → ⊥) → (((after : List ℕ) × (text ≡ codes "flag" ++ after)) → ⊥) → (((after : List ℕ) × (text ≡ codes "copy" ++ after)) → ⊥) → (((after : List ℕ) × (text ≡ codes "move" ++ after)) → ⊥) → (((after : List ℕ) × (text ≡ codes "expunge" ++ after)) → ⊥) → (((after : List ℕ) × (text ≡ codes "make" ++ after)) → ⊥) → (((after : List ℕ) × (text ≡ codes "delete" ++ after)) → ⊥) → (((after : List ℕ) × (text ≡ codes "rename" ++ after)) → ⊥) → (((after : List ℕ) × (text ≡ codes "counts" ++ after)) → ⊥) → (((after : List ℕ) × (text ≡ codes "purge" ++ after)) → ⊥) → (((after : List ℕ) × (text ≡ codes "keywords" ++ after)) → ⊥) → (((after : List ℕ) × (text ≡ codes "resync" ++ after)) → ⊥) → BeginsVerb text → ⊥
none_begins text n0 n1 n2 n3 n4 n5 n6 n7 n8 n9 n10 n11 n12 n13 b = of_asked text n0 n1 n2 n3 n4 n5 n6 n7 n8 n9 n10 n11 n12 n13 b.0 b.1 b.2 b.3

-- a test that says no
pub refused_by : {P : Type 0} → (r : Bool) → IsTrue r ↔ P → r ≡ false → P → ⊥
refused_by r both isnt p = let yes : IsTrue r = both.1 p in absurd (cc (yes, isnt))

-- ---- the offset

pub within_text : (lanes : ℕ) (text : List ℕ) (offset : ℕ) → IsBadAt lanes text offset → offset ≤ length text
within_text lanes text offset bad =
    let long : length text ≡ length (script_text bad.0) + length bad.1 = ap length bad.2.spelled ∙ length-append (script_text bad.0) bad.1 in
    omega (arith, long, bad.3)

-- ---- the need

-- a request's words are a delivery's only if its arguments are a delivery's
pub same_delivery : (words arguments name : List ℕ) (time size : ℕ) → IsName name → time < 2 ^ 64 → size < 2 ^ 64 → words ≡ codes "deliver" ++ 32 ∷ arguments → arguments ≡ spaced (name_word name ∷ decimal_text time ∷ decimal_text size ∷ []) → AreDelivery words → size ≤ 67108864
same_delivery words arguments name time size n tl sl w e are =
    let a : arguments ≡ spaced (name_word are.name ∷ decimal_text are.time ∷ decimal_text are.size ∷ []) = ap (drop 8) (sym w ∙ are.words_are) in
    let r = name_then name are.name (decimal_text time ++ 32 ∷ decimal_text size) (decimal_text are.time ++ 32 ∷ decimal_text are.size) (short_name name n) (short_name are.name are.name_fits) (sym e ∙ a) in
    let s = number_then time are.time (decimal_text size) (decimal_text are.size) tl are.time_fits r.1 in
    let fits = are.size_fits in
    let same : size ≡ are.size = decimal_injective size are.size sl (omega (arith, fits)) s.1 in
    omega (arith, fits, same)

pub no_arguments : (words arguments : List ℕ) → words ≡ codes "deliver" ++ 32 ∷ arguments → ((name : List ℕ) (time size : ℕ) → IsName name → time < 2 ^ 64 → size < 2 ^ 64 → arguments ≢ spaced (name_word name ∷ decimal_text time ∷ decimal_text size ∷ [])) → AreDelivery words → ⊥
no_arguments words arguments w none are =
    let fits = are.size_fits in
    none are.name are.time are.size are.name_fits are.time_fits (omega (arith, fits)) (ap (drop 8) (sym w ∙ are.words_are))

pub needs_after : (lanes lane : ℕ) (text words rest : List ℕ) (n : Need) → lanes < 2 ^ 32 → 1 ≤ lane → lane ≤ lanes → text ≡ decimal_text lane ++ 32 ∷ (words ++ 10 ∷ rest) → IsTrue (list_all (is_other_than 10) words) → BeginsVerb (words ++ 10 ∷ rest) → AsksNothing words rest → IsWordsOrMessage words n → IsNeeded lanes text n
needs_after lanes lane text words rest need.Message few low high e clear verb nothing is = (words_have lanes lane text words rest low high e is, message_lacks lanes lane text words rest few high e clear nothing)
needs_after lanes lane text words rest need.Words few low high e clear verb nothing is = (verb_has lanes lane text (words ++ 10 ∷ rest) low high e verb, words_lack lanes lane text words rest few high e clear is nothing)
needs_after lanes lane text words rest need.Lane few low high e clear verb nothing is = absurd is
needs_after lanes lane text words rest need.Verb few low high e clear verb nothing is = absurd is
needs_after lanes lane text words rest need.Fewer few low high e clear verb nothing is = absurd is

pub needs_told : {E : Type 0} → (r : Result Need E) (lanes lane : ℕ) (text words rest : List ℕ) → lanes < 2 ^ 32 → 1 ≤ lane → lane ≤ lanes → text ≡ decimal_text lane ++ 32 ∷ (words ++ 10 ∷ rest) → IsTrue (list_all (is_other_than 10) words) → BeginsVerb (words ++ 10 ∷ rest) → AsksNothing words rest → IfOk r (IsWordsOrMessage words) → IfOk r (IsNeeded lanes text)
needs_told (Ok n) lanes lane text words rest few low high e clear verb nothing is = needs_after lanes lane text words rest n few low high e clear verb nothing is
needs_told (Err why) lanes lane text words rest few low high e clear verb nothing is = tt
