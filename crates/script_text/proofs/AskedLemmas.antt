-- What the words of a line and what follows it ask for: one request, or nothing.
use Rattle.std.specs.Prelude.{◌≡◌, ◌≢◌, ◌<◌, ◌≤◌, ◌^◌, ℕ, List, [], ◌∷◌, ◌++◌, length, codes, drop, IsTrue, refl}
use Rattle.std.specs.List.{list_all}
use Rattle.std.proofs.Common.{sym, ◌∙◌, ap, arith, subst}
use Rattle.std.proofs.lemmas.Fmt.{decimal_injective}
use Rattle.mdbox_base.specs.Numbers.{decimal_text}
use Rattle.mdbox_base.specs.Words.{IsName, is_other_than}
use Rattle.mdbox_base.specs.declared.requests.Request.{Request}
use Rattle.mdbox_base.specs.declared.requests.Request.TheVariants as request
use Rattle.script_text.specs.Script.{name_word, request_words, spaced}
use Rattle.script_text.specs.Reading.{IsRequestOf, AsksNothing, AsksSomething, IsOneWord, verb_text}
use Rattle.script_text.specs.declared.verb.Verb.{Verb}
use Rattle.script_text.specs.declared.verb.Verb.TheVariants as verb
use Rattle.script_text.proofs.CutLemmas.{until_same, no_cut}
use Rattle.script_text.proofs.RequestLemmas.{differ, name_then, number_then, short_name}

-- ---- one word

pub plain_asked : (asked : Request) (words rest : List ℕ) → IsOneWord asked → words ≡ spaced (request_words asked) → IsRequestOf words rest asked rest
plain_asked request.Counts words rest p e = record { fits = tt; words_are = e; message_is = refl }
plain_asked request.Purge words rest p e = record { fits = tt; words_are = e; message_is = refl }
plain_asked request.Resync words rest p e = record { fits = tt; words_are = e; message_is = refl }
plain_asked other words rest p e = absurd p

nothing_alone_of : (words rest after : List ℕ) → ((before behind : List ℕ) → words ≢ before ++ 32 ∷ behind) → ((asked : Request) → IsOneWord asked → words ≢ spaced (request_words asked)) → (asked : Request) → IsRequestOf words rest asked after → ⊥
nothing_alone_of words rest after space none (request.Deliver name time message) is = space (codes "deliver") (name_word name ++ 32 ∷ (decimal_text time ++ 32 ∷ decimal_text (length message))) is.words_are
nothing_alone_of words rest after space none (request.List name) is = space (codes "list") (name_word name) is.words_are
nothing_alone_of words rest after space none (request.Fetch name uid) is = space (codes "fetch") (name_word name ++ 32 ∷ decimal_text uid.0) is.words_are
nothing_alone_of words rest after space none (request.Flag name uid flags) is = space (codes "flag") (name_word name ++ 32 ∷ (decimal_text uid.0 ++ 32 ∷ decimal_text flags)) is.words_are
nothing_alone_of words rest after space none (request.Keywords name uid keywords) is = space (codes "keywords") (name_word name ++ 32 ∷ (decimal_text uid.0 ++ 32 ∷ spaced (decimal_text (length keywords) ∷ keywords))) is.words_are
nothing_alone_of words rest after space none (request.Copy name uid target) is = space (codes "copy") (name_word name ++ 32 ∷ (decimal_text uid.0 ++ 32 ∷ name_word target)) is.words_are
nothing_alone_of words rest after space none (request.Move name uid target) is = space (codes "move") (name_word name ++ 32 ∷ (decimal_text uid.0 ++ 32 ∷ name_word target)) is.words_are
nothing_alone_of words rest after space none (request.Expunge name uid) is = space (codes "expunge") (name_word name ++ 32 ∷ decimal_text uid.0) is.words_are
nothing_alone_of words rest after space none (request.Make name) is = space (codes "make") (name_word name) is.words_are
nothing_alone_of words rest after space none request.Counts is = none request.Counts tt is.words_are
nothing_alone_of words rest after space none request.Purge is = none request.Purge tt is.words_are
nothing_alone_of words rest after space none request.Resync is = none request.Resync tt is.words_are
nothing_alone_of words rest after space none (request.Delete name) is = space (codes "delete") (name_word name) is.words_are
nothing_alone_of words rest after space none (request.Rename name target) is = space (codes "rename") (name_word name ++ 32 ∷ name_word target) is.words_are

pub nothing_alone : (words rest : List ℕ) → ((before behind : List ℕ) → words ≢ before ++ 32 ∷ behind) → ((asked : Request) → IsOneWord asked → words ≢ spaced (request_words asked)) → AsksNothing words rest
nothing_alone words rest space none asked after is = nothing_alone_of words rest after space none asked is

-- ---- a verb that is none

nothing_unknown_of : (words word arguments rest after : List ℕ) → words ≡ word ++ 32 ∷ arguments → IsTrue (list_all (is_other_than 32) word) → ((v : Verb) → word ≢ verb_text v) → (asked : Request) → IsRequestOf words rest asked after → ⊥
nothing_unknown_of words word arguments rest after e clear none (request.Deliver name time message) is = none verb.Deliver (until_same 32 word (codes "deliver") arguments (name_word name ++ 32 ∷ (decimal_text time ++ 32 ∷ decimal_text (length message))) clear refl (sym e ∙ is.words_are)).0
nothing_unknown_of words word arguments rest after e clear none (request.List name) is = none verb.List (until_same 32 word (codes "list") arguments (name_word name) clear refl (sym e ∙ is.words_are)).0
nothing_unknown_of words word arguments rest after e clear none (request.Fetch name uid) is = none verb.Fetch (until_same 32 word (codes "fetch") arguments (name_word name ++ 32 ∷ decimal_text uid.0) clear refl (sym e ∙ is.words_are)).0
nothing_unknown_of words word arguments rest after e clear none (request.Flag name uid flags) is = none verb.Flag (until_same 32 word (codes "flag") arguments (name_word name ++ 32 ∷ (decimal_text uid.0 ++ 32 ∷ decimal_text flags)) clear refl (sym e ∙ is.words_are)).0
nothing_unknown_of words word arguments rest after e clear none (request.Keywords name uid keywords) is = none verb.Keywords (until_same 32 word (codes "keywords") arguments (name_word name ++ 32 ∷ (decimal_text uid.0 ++ 32 ∷ spaced (decimal_text (length keywords) ∷ keywords))) clear refl (sym e ∙ is.words_are)).0
nothing_unknown_of words word arguments rest after e clear none (request.Copy name uid target) is = none verb.Copy (until_same 32 word (codes "copy") arguments (name_word name ++ 32 ∷ (decimal_text uid.0 ++ 32 ∷ name_word target)) clear refl (sym e ∙ is.words_are)).0
nothing_unknown_of words word arguments rest after e clear none (request.Move name uid target) is = none verb.Move (until_same 32 word (codes "move") arguments (name_word name ++ 32 ∷ (decimal_text uid.0 ++ 32 ∷ name_word target)) clear refl (sym e ∙ is.words_are)).0
nothing_unknown_of words word arguments rest after e clear none (request.Expunge name uid) is = none verb.Expunge (until_same 32 word (codes "expunge") arguments (name_word name ++ 32 ∷ decimal_text uid.0) clear refl (sym e ∙ is.words_are)).0
nothing_unknown_of words word arguments rest after e clear none (request.Make name) is = none verb.Make (until_same 32 word (codes "make") arguments (name_word name) clear refl (sym e ∙ is.words_are)).0
nothing_unknown_of words word arguments rest after e clear none request.Counts is = no_cut 32 (codes "counts") word arguments refl (sym is.words_are ∙ e)
nothing_unknown_of words word arguments rest after e clear none request.Purge is = no_cut 32 (codes "purge") word arguments refl (sym is.words_are ∙ e)
nothing_unknown_of words word arguments rest after e clear none request.Resync is = no_cut 32 (codes "resync") word arguments refl (sym is.words_are ∙ e)
nothing_unknown_of words word arguments rest after e clear none (request.Delete name) is = none verb.Delete (until_same 32 word (codes "delete") arguments (name_word name) clear refl (sym e ∙ is.words_are)).0
nothing_unknown_of words word arguments rest after e clear none (request.Rename name target) is = none verb.Rename (until_same 32 word (codes "rename") arguments (name_word name ++ 32 ∷ name_word target) clear refl (sym e ∙ is.words_are)).0

pub nothing_unknown : (words word arguments rest : List ℕ) → words ≡ word ++ 32 ∷ arguments → IsTrue (list_all (is_other_than 32) word) → ((v : Verb) → word ≢ verb_text v) → AsksNothing words rest
nothing_unknown words word arguments rest e clear none asked after is = nothing_unknown_of words word arguments rest after e clear none asked is

-- what a delivery is, whose name, time and size these are
delivery_of : (arguments rest after octets : List ℕ) (time size : ℕ) → length octets < 2 ^ 64 → time < 2 ^ 64 → size < 2 ^ 64 → arguments ≡ name_word octets ++ 32 ∷ (decimal_text time ++ 32 ∷ decimal_text size)
    → (asked : Request) → IsRequestOf (codes "deliver" ++ 32 ∷ arguments) rest asked after → IsName octets × (message : List ℕ) × (length message ≡ size) × (size ≤ 67108864) × (rest ≡ (message ++ 10 ∷ []) ++ after)
delivery_of arguments rest after octets time size n tl sl e (request.Deliver name t message) is =
    let r = name_then name octets (decimal_text t ++ 32 ∷ decimal_text (length message)) (decimal_text time ++ 32 ∷ decimal_text size) (short_name name is.fits.0) n (sym (ap (drop 8) is.words_are) ∙ e) in
    let s = number_then t time (decimal_text (length message)) (decimal_text size) is.fits.1 tl r.1 in
    let same : length message ≡ size = decimal_injective (length message) size (omega (arith, is.fits.2)) sl s.1 in
    (subst IsName r.0 is.fits.0, message, same, omega (arith, is.fits.2, same), is.message_is)
delivery_of arguments rest after octets time size n tl sl e other is = absurd (differ (codes "deliver" ++ 32 ∷ arguments) (spaced (request_words other)) is.words_are refl)

-- a delivery whose message isn't there
pub short_delivery : (arguments rest octets : List ℕ) (time size : ℕ) → length octets < 2 ^ 64 → time < 2 ^ 64 → size < 2 ^ 64 → arguments ≡ name_word octets ++ 32 ∷ (decimal_text time ++ 32 ∷ decimal_text size)
    → ((message more : List ℕ) → length message ≡ size → size ≤ 67108864 → rest ≢ (message ++ 10 ∷ []) ++ more) → AsksNothing (codes "deliver" ++ 32 ∷ arguments) rest
short_delivery arguments rest octets time size n tl sl e none asked after is =
    let d = delivery_of arguments rest after octets time size n tl sl e asked is in
    none d.1 after d.2 d.3 d.4

-- a delivery to no mailbox
pub unnamed_delivery : (arguments rest octets : List ℕ) (time size : ℕ) → length octets < 2 ^ 64 → time < 2 ^ 64 → size < 2 ^ 64 → arguments ≡ name_word octets ++ 32 ∷ (decimal_text time ++ 32 ∷ decimal_text size)
    → (IsName octets → ⊥) → AsksNothing (codes "deliver" ++ 32 ∷ arguments) rest
unnamed_delivery arguments rest octets time size n tl sl e none asked after is = none (delivery_of arguments rest after octets time size n tl sl e asked is).0

-- arguments of no delivery
no_delivery_of : (arguments rest after : List ℕ) → ((name : List ℕ) (time size : ℕ) → length name < 2 ^ 64 → time < 2 ^ 64 → size < 2 ^ 64 → arguments ≢ name_word name ++ 32 ∷ (decimal_text time ++ 32 ∷ decimal_text size)) → (asked : Request) → IsRequestOf (codes "deliver" ++ 32 ∷ arguments) rest asked after → ⊥
no_delivery_of arguments rest after none (request.Deliver name t message) is = none name t (length message) (short_name name is.fits.0) is.fits.1 (omega (arith, is.fits.2)) (ap (drop 8) is.words_are)
no_delivery_of arguments rest after none other is = differ (codes "deliver" ++ 32 ∷ arguments) (spaced (request_words other)) is.words_are refl

pub no_delivery : (arguments rest : List ℕ) → ((name : List ℕ) (time size : ℕ) → length name < 2 ^ 64 → time < 2 ^ 64 → size < 2 ^ 64 → arguments ≢ name_word name ++ 32 ∷ (decimal_text time ++ 32 ∷ decimal_text size)) → AsksNothing (codes "deliver" ++ 32 ∷ arguments) rest
no_delivery arguments rest none asked after is = no_delivery_of arguments rest after none asked is

-- a delivery that is there
pub whole_delivery : (arguments rest name message after : List ℕ) (time size : ℕ) → IsName name → time < 2 ^ 64 → arguments ≡ name_word name ++ 32 ∷ (decimal_text time ++ 32 ∷ decimal_text size)
    → length message ≡ size → size ≤ 67108864 → rest ≡ (message ++ 10 ∷ []) ++ after → AsksSomething (codes "deliver" ++ 32 ∷ arguments) rest
whole_delivery arguments rest name message after time size n tl e many few is = (
  request.Deliver name time message,
  after,
  record {
    fits = (n, tl, omega (arith, many, few));
    words_are = ap (λ (t : List ℕ). codes "deliver" ++ 32 ∷ t) e ∙ ap (λ (k : ℕ). codes "deliver" ++ 32 ∷ (name_word name ++ 32 ∷ (decimal_text time ++ 32 ∷ decimal_text k))) (sym many);
    message_is = is;
  },
)
