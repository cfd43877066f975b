-- A brief reading of metadata lines: what it has taken, and what it says at the end.
use Rattle.std.specs.Prelude.{◌≡◌, ◌≢◌, ◌==◌, ◌-◌, ◌<◌, ◌≤◌, ◌⊎◌, ℕ, Bool, true, false, not, List, [], ◌∷◌, ◌++◌, length, map, filter, flat_map, All, Option, Some, None, IsSome, is_some, refl, vec_capacity, IsTrue, ◌||◌}
use Rattle.std.specs.Str.{is_utf8}
use Rattle.std.specs.Global.{Vec}
use Rattle.std.proofs.Common.{sym, inl, inr, ◌∙◌, ap, subst, arith, append_assoc, append-nil, length-append}
use Rattle.std.specs.List.{AllByRecursion}
use Rattle.std.proofs.lemmas.Bool.{cases_lt, cases_eq, eq-eqb}
use Rattle.std.proofs.lemmas.Grind.{flat_map-append}
use Rattle.std.proofs.lemmas.List.{map-append}
use Rattle.std.proofs.lemmas.List.Elements.{All-cons, All-nil, All-head, All-tail, filter-append}
use Rattle.std.proofs.lemmas.Str.{IsUtf8-from_is_utf8, is_utf8-from_IsUtf8}
use Rattle.mdbox_base.specs.Words.{IsName}
use Rattle.mdbox_base.specs.declared.ids.Guid.{Guid}
use Rattle.mdbox_base.specs.declared.metadata.ExtRef.{ExtRef}
use Rattle.model_storage.specs.declared.metadata_value.Metadata.{Metadata}
use Rattle.model_storage.specs.StorageFile.{Line, IsLine, line_text, values_of}
use Rattle.model_storage.specs.Metadata.{IsNumberText, IsGuidText, IsOriginText, HasAtMostOne, HasAtMostOneReadable, HasReferences, IsFirstBadLine, IsMetadataText, MayFollow, FollowOneAnother, is_known_key, is_number_key, is_unknown}
use Rattle.model_storage.specs.References.{AreReferences}
use Rattle.model_storage.proofs.MetadataLemmas.{follow_are_lines, no_bad_line, cut_lines}
use Rattle.dbox_metadata.specs.BriefRead.{HasOneOrNone, HasTakenBriefly, IsBriefOf, TakesBriefly}
use Rattle.dbox_metadata.specs.SoFar.{IsNextLine, meta_line}
use Rattle.dbox_metadata.specs.declared.brief.Brief.{Brief}
use Rattle.dbox_metadata.specs.declared.brief.BriefReader.{BriefReader}
use Rattle.dbox_metadata.proofs.LinesLemmas.{follow_more, line_same}
use Rattle.dbox_metadata.proofs.ReaderLemmas.{values_stay, kept, kept_readable, kept_refs, one_value, seen_stays}

-- ---- a text is a name or none

each_or_not : (P : ℕ → Type 0) → ((n : ℕ) → P n ⊎ (P n → ⊥)) → (xs : List ℕ) → All P xs ⊎ (All P xs → ⊥)
each_or_not P test [] = inl (All-nil P)
each_or_not P test (x ∷ xs) = by_tests (test x) (each_or_not P test xs)
  where
    by_tests : P x ⊎ (P x → ⊥) → All P xs ⊎ (All P xs → ⊥) → All P (x ∷ xs) ⊎ (All P (x ∷ xs) → ⊥)
    by_tests (inl h) (inl hs) = inl (All-cons P x xs h hs)
    by_tests (inl h) (inr none) = inr (λ all. none (All-tail P x xs all))
    by_tests (inr none) hs = inr (λ all. none (All-head P x xs all))

printing_or_not : (n : ℕ) → (32 ≤ n) ⊎ (32 ≤ n → ⊥)
printing_or_not n = elim (cases_lt n 32) [
  | inl less ↦ inr (λ le. absurd (omega (arith, less, le)))
  | inr le ↦ inl le
]

other_or_not : (n : ℕ) → (n ≢ 127) ⊎ (n ≢ 127 → ⊥)
other_or_not n = elim (cases_eq n 127) [
  | inl same ↦ inr (λ apart. apart same)
  | inr apart ↦ inl apart
]

name_or_not : (text : List ℕ) → IsName text ⊎ (IsName text → ⊥)
name_or_not text = by_length (cases_lt (length text) 1) (cases_lt 255 (length text)) (each_or_not (λ octet. 32 ≤ octet) printing_or_not text) (each_or_not (λ octet. octet ≢ 127) other_or_not text) (is_utf8 text) refl
  where
    by_length : (length text < 1) ⊎ (1 ≤ length text) → (255 < length text) ⊎ (length text ≤ 255) → All (λ octet. 32 ≤ octet) text ⊎ (All (λ octet. 32 ≤ octet) text → ⊥) → All (λ octet. octet ≢ 127) text ⊎ (All (λ octet. octet ≢ 127) text → ⊥)
        → (b : Bool) → is_utf8 text ≡ b → IsName text ⊎ (IsName text → ⊥)
    by_length (inl none) long printing others b e = inr (λ name. let some = name.some in absurd (omega (arith, none, some)))
    by_length (inr some) (inl long) printing others b e = inr (λ name. let short = name.short in absurd (omega (arith, long, short)))
    by_length (inr some) (inr short) (inr none) others b e = inr (λ name. none name.printing)
    by_length (inr some) (inr short) (inl printing) (inr none) b e = inr (λ name. none name.no_delete)
    by_length (inr some) (inr short) (inl printing) (inl others) true e = inl (record { some = some; short = short; printing = printing; no_delete = others; utf8 = IsUtf8-from_is_utf8 text e })
    by_length (inr some) (inr short) (inl printing) (inl others) false e = inr (λ name. absurd (let k : true ≡ false = sym (is_utf8-from_IsUtf8 text name.utf8) ∙ e in cc k))

-- the origin that lines tell, of which there is one line or none
origin_of : (seen : Bool) (lines : List Line) → HasOneOrNone seen 66 lines → (origin : Option (List ℕ)) × HasAtMostOneReadable IsOriginText 66 lines origin
origin_of false lines none = (None, inl none)
origin_of true lines one = by_name (name_or_not one.0)
  where
    by_name : IsName one.0 ⊎ (IsName one.0 → ⊥) → (origin : Option (List ℕ)) × HasAtMostOneReadable IsOriginText 66 lines origin
    by_name (inl name) = (Some one.0, (one.0, one.1, record { same = refl; fits = name }))
    by_name (inr not_one) = (None, inr (one.0, one.1, λ n reads. not_one reads.fits))

-- ---- one line more

origin_stays : (seen : Bool) (lines : List Line) (line : Line) → (line.key == 66) ≡ false → HasOneOrNone seen 66 lines → HasOneOrNone seen 66 (lines ++ line ∷ [])
origin_stays true lines line e h = (h.0, values_stay 66 lines line e ∙ h.1)
origin_stays false lines line e h = values_stay 66 lines line e ∙ h

-- a mailbox of origin
pub origin_taken_briefly : (b : BriefReader) (text : List ℕ) (answer : Bool) → IsLine (meta_line 66 text) → answer ≡ not b.origin_seen → TakesBriefly b (meta_line 66 text) (record b { origin_seen = true }) answer
origin_taken_briefly b text answer spelled is = by_seen b.origin_seen answer refl is
  where
    by_seen : (seen answer : Bool) → b.origin_seen ≡ seen → answer ≡ not seen → TakesBriefly b (meta_line 66 text) (record b { origin_seen = true }) answer
    by_seen true true e f = absurd (cc f)
    by_seen true false e f = λ lines t may. absurd (let one : HasOneOrNone true 66 lines = subst (λ (s : Bool). HasOneOrNone s 66 lines) e t.origin_seen in let k : [] ≡ one.0 ∷ [] = sym (may.once refl) ∙ one.1 in cc k)
    by_seen false false e f = absurd (cc f)
    by_seen false true e f = λ lines t.
        let none : values_of 66 lines ≡ [] = subst (λ (s : Bool). HasOneOrNone s 66 lines) e t.origin_seen in
        let line = meta_line 66 text in (
          record { spelled = spelled; once = λ known. none; number = λ h. cc h; references = λ k. absurd (omega (arith, k)) },
          record {
            received = kept IsNumberText 82 lines line b.received refl t.received;
            physical = kept IsNumberText 90 lines line b.physical refl t.physical;
            virtual_size = kept IsNumberText 86 lines line b.virtual_size refl t.virtual_size;
            guid = kept_readable IsGuidText 71 lines line b.guid refl t.guid;
            guid_seen = seen_stays b.guid_seen 71 lines line refl t.guid_seen;
            origin_seen = (text, one_value 66 lines text refl none);
            references = kept_refs lines line b.refs.items refl t.references;
          },
        )

pub origin_line : (b new : BriefReader) (key : ℕ) (text : List ℕ) (answer : Bool) → key ≡ 66 → IsLine (meta_line key text) → answer ≡ not b.origin_seen → new ≡ record b { origin_seen = true } → TakesBriefly b (meta_line key text) new answer
origin_line b new key text answer is spelled first same =
    subst (λ (n : BriefReader). TakesBriefly b (meta_line key text) n answer) (sym same)
    (subst (λ (k : ℕ). TakesBriefly b (meta_line k text) (record b { origin_seen = true }) answer) (sym is) (origin_taken_briefly b text answer (subst (λ (k : ℕ). IsLine (meta_line k text)) is spelled) first))

-- a number
number_once : (key : ℕ) (lines : List Line) (text : List ℕ) (old new : Option ℕ) (n : ℕ) → (key == key) ≡ true → HasAtMostOne IsNumberText key lines old → old ≡ None → IsNumberText text n → new ≡ Some n
    → (values_of key lines ≡ []) × HasAtMostOne IsNumberText key (lines ++ meta_line key text ∷ []) new
number_once key lines text old new n same h none reads is =
    let empty : values_of key lines ≡ [] = subst (HasAtMostOne IsNumberText key lines) none h in
    (empty, subst (HasAtMostOne IsNumberText key (lines ++ meta_line key text ∷ [])) (sym is) (text, one_value key lines text same empty, reads))

no_second : (key : ℕ) (lines : List Line) (old : Option ℕ) → HasAtMostOne IsNumberText key lines old → values_of key lines ≡ [] → IsSome old → ⊥
no_second key lines None h e some = cc some
no_second key lines (Some n) h e some = let k : [] ≡ h.0 ∷ [] = sym e ∙ h.1 in cc k

-- what setting a number says
pub record SetsNumber (text : List ℕ) (old new : Option ℕ) (answer : Bool) : Type 0 where
  pub yes : IsTrue answer → (old ≡ None) × ((n : ℕ) × IsNumberText text n × (new ≡ Some n))
  pub no : answer ≡ false → IsSome old ⊎ ((n : ℕ) → IsNumberText text n → ⊥)

no_number_there : (key : ℕ) (lines : List Line) (text : List ℕ) (old new : Option ℕ) (answer : Bool) → SetsNumber text old new answer → answer ≡ false → HasAtMostOne IsNumberText key lines old → values_of key lines ≡ [] → (n : ℕ) × IsNumberText text n → ⊥
no_number_there key lines text old new answer sets e h none reads = elim (sets.no e) [
  | inl some ↦ no_second key lines old h none some
  | inr not_one ↦ not_one reads.0 reads.1
]

pub received_line : (b : BriefReader) (key : ℕ) (text : List ℕ) (new : Option ℕ) (answer : Bool) → key ≡ 82 → IsLine (meta_line key text) → SetsNumber text b.received new answer → TakesBriefly b (meta_line key text) (record b { received = new }) answer
received_line b key text new answer is spelled sets =
    subst (λ (k : ℕ). TakesBriefly b (meta_line k text) (record b { received = new }) answer) (sym is) (by_answer answer refl)
  where
    fits : IsLine (meta_line 82 text)
    fits = subst (λ (k : ℕ). IsLine (meta_line k text)) is spelled

    by_answer : (a : Bool) → answer ≡ a → TakesBriefly b (meta_line 82 text) (record b { received = new }) a
    by_answer true e = λ lines t.
        let y = sets.yes e in
        let one = number_once 82 lines text b.received new y.1.0 refl t.received y.0 y.1.1 y.1.2 in (
          record { spelled = fits; once = λ known. one.0; number = λ h. (y.1.0, y.1.1); references = λ k. absurd (omega (arith, k)) },
          record {
            received = one.1;
            physical = kept IsNumberText 90 lines (meta_line 82 text) b.physical refl t.physical;
            virtual_size = kept IsNumberText 86 lines (meta_line 82 text) b.virtual_size refl t.virtual_size;
            guid = kept_readable IsGuidText 71 lines (meta_line 82 text) b.guid refl t.guid;
            guid_seen = seen_stays b.guid_seen 71 lines (meta_line 82 text) refl t.guid_seen;
            origin_seen = origin_stays b.origin_seen lines (meta_line 82 text) refl t.origin_seen;
            references = kept_refs lines (meta_line 82 text) b.refs.items refl t.references;
          },
        )
    by_answer false e = λ lines t may. absurd (no_number_there 82 lines text b.received new answer sets e t.received (may.once refl) (may.number refl))

pub physical_line : (b : BriefReader) (key : ℕ) (text : List ℕ) (new : Option ℕ) (answer : Bool) → key ≡ 90 → IsLine (meta_line key text) → SetsNumber text b.physical new answer → TakesBriefly b (meta_line key text) (record b { physical = new }) answer
physical_line b key text new answer is spelled sets =
    subst (λ (k : ℕ). TakesBriefly b (meta_line k text) (record b { physical = new }) answer) (sym is) (by_answer answer refl)
  where
    fits : IsLine (meta_line 90 text)
    fits = subst (λ (k : ℕ). IsLine (meta_line k text)) is spelled

    by_answer : (a : Bool) → answer ≡ a → TakesBriefly b (meta_line 90 text) (record b { physical = new }) a
    by_answer true e = λ lines t.
        let y = sets.yes e in
        let one = number_once 90 lines text b.physical new y.1.0 refl t.physical y.0 y.1.1 y.1.2 in (
          record { spelled = fits; once = λ known. one.0; number = λ h. (y.1.0, y.1.1); references = λ k. absurd (omega (arith, k)) },
          record {
            received = kept IsNumberText 82 lines (meta_line 90 text) b.received refl t.received;
            physical = one.1;
            virtual_size = kept IsNumberText 86 lines (meta_line 90 text) b.virtual_size refl t.virtual_size;
            guid = kept_readable IsGuidText 71 lines (meta_line 90 text) b.guid refl t.guid;
            guid_seen = seen_stays b.guid_seen 71 lines (meta_line 90 text) refl t.guid_seen;
            origin_seen = origin_stays b.origin_seen lines (meta_line 90 text) refl t.origin_seen;
            references = kept_refs lines (meta_line 90 text) b.refs.items refl t.references;
          },
        )
    by_answer false e = λ lines t may. absurd (no_number_there 90 lines text b.physical new answer sets e t.physical (may.once refl) (may.number refl))

pub virtual_line : (b : BriefReader) (key : ℕ) (text : List ℕ) (new : Option ℕ) (answer : Bool) → key ≡ 86 → IsLine (meta_line key text) → SetsNumber text b.virtual_size new answer → TakesBriefly b (meta_line key text) (record b { virtual_size = new }) answer
virtual_line b key text new answer is spelled sets =
    subst (λ (k : ℕ). TakesBriefly b (meta_line k text) (record b { virtual_size = new }) answer) (sym is) (by_answer answer refl)
  where
    fits : IsLine (meta_line 86 text)
    fits = subst (λ (k : ℕ). IsLine (meta_line k text)) is spelled

    by_answer : (a : Bool) → answer ≡ a → TakesBriefly b (meta_line 86 text) (record b { virtual_size = new }) a
    by_answer true e = λ lines t.
        let y = sets.yes e in
        let one = number_once 86 lines text b.virtual_size new y.1.0 refl t.virtual_size y.0 y.1.1 y.1.2 in (
          record { spelled = fits; once = λ known. one.0; number = λ h. (y.1.0, y.1.1); references = λ k. absurd (omega (arith, k)) },
          record {
            received = kept IsNumberText 82 lines (meta_line 86 text) b.received refl t.received;
            physical = kept IsNumberText 90 lines (meta_line 86 text) b.physical refl t.physical;
            virtual_size = one.1;
            guid = kept_readable IsGuidText 71 lines (meta_line 86 text) b.guid refl t.guid;
            guid_seen = seen_stays b.guid_seen 71 lines (meta_line 86 text) refl t.guid_seen;
            origin_seen = origin_stays b.origin_seen lines (meta_line 86 text) refl t.origin_seen;
            references = kept_refs lines (meta_line 86 text) b.refs.items refl t.references;
          },
        )
    by_answer false e = λ lines t may. absurd (no_number_there 86 lines text b.virtual_size new answer sets e t.virtual_size (may.once refl) (may.number refl))

-- an unknown line
or_false : (a b : Bool) → (a || b) ≡ false → (a ≡ false) × (b ≡ false)
or_false false b e = (refl, e)
or_false true b e = absurd (cc e)

pub unknown_line : (b : BriefReader) (key : ℕ) (text : List ℕ) → is_known_key key ≡ false → IsLine (meta_line key text) → TakesBriefly b (meta_line key text) b true
unknown_line b key text unknown spelled = λ lines t. (
  record {
    spelled = spelled;
    once = λ known. absurd (let k : true ≡ false = sym known ∙ unknown in cc k);
    number = λ h. absurd (let k : true ≡ false = sym h ∙ numbers in cc k);
    references = λ k. absurd (let h : true ≡ false = sym (eq-eqb key 88 k) ∙ refs.1 in cc h);
  },
  record {
    received = kept IsNumberText 82 lines (meta_line key text) b.received (or_false (key == 82) (key == 90) first.0).0 t.received;
    physical = kept IsNumberText 90 lines (meta_line key text) b.physical (or_false (key == 82) (key == 90) first.0).1 t.physical;
    virtual_size = kept IsNumberText 86 lines (meta_line key text) b.virtual_size first.1 t.virtual_size;
    guid = kept_readable IsGuidText 71 lines (meta_line key text) b.guid guids.1 t.guid;
    guid_seen = seen_stays b.guid_seen 71 lines (meta_line key text) guids.1 t.guid_seen;
    origin_seen = origin_stays b.origin_seen lines (meta_line key text) origins.1 t.origin_seen;
    references = kept_refs lines (meta_line key text) b.refs.items refs.1 t.references;
  },
)
  where
    refs : ((is_number_key key || key == 71 || key == 66) ≡ false) × ((key == 88) ≡ false)
    refs = or_false (is_number_key key || key == 71 || key == 66) (key == 88) unknown

    origins : ((is_number_key key || key == 71) ≡ false) × ((key == 66) ≡ false)
    origins = or_false (is_number_key key || key == 71) (key == 66) refs.0

    guids : (is_number_key key ≡ false) × ((key == 71) ≡ false)
    guids = or_false (is_number_key key) (key == 71) origins.0

    numbers : is_number_key key ≡ false
    numbers = guids.0

    first : ((key == 82 || key == 90) ≡ false) × ((key == 86) ≡ false)
    first = or_false (key == 82 || key == 90) (key == 86) numbers

-- references
pub references_line_taken : (b new : BriefReader) (text : List ℕ) (refs : Vec ExtRef) (answer : Bool) → IsLine (meta_line 88 text) → b.refs.items ≡ [] → (IsTrue answer → AreReferences text refs.items) → (answer ≡ false → (found : List ExtRef) → AreReferences text found → vec_capacity b.refs < length found)
    → new ≡ record b { refs = refs } → TakesBriefly b (meta_line 88 text) new answer
references_line_taken b new text refs answer spelled none spelling refusing same = subst (λ (n : BriefReader). TakesBriefly b (meta_line 88 text) n answer) (sym same) (by_answer answer refl)
  where
    with_refs : (lines : List Line) (rs : List ExtRef) → values_of 88 lines ≡ [] → AreReferences text rs → HasReferences (lines ++ meta_line 88 text ∷ []) rs
    with_refs lines [] e are = absurd (let some = are.some in omega (arith, some))
    with_refs lines (r ∷ rs) e are = (text, one_value 88 lines text refl e, are)

    by_answer : (a : Bool) → answer ≡ a → TakesBriefly b (meta_line 88 text) (record b { refs = refs }) a
    by_answer true e = λ lines t.
        let empty : values_of 88 lines ≡ [] = subst (HasReferences lines) none t.references in
        let are = spelling e in (
          record { spelled = spelled; once = λ known. empty; number = λ h. cc h; references = λ k. (refs.items, are) },
          record {
            received = kept IsNumberText 82 lines (meta_line 88 text) b.received refl t.received;
            physical = kept IsNumberText 90 lines (meta_line 88 text) b.physical refl t.physical;
            virtual_size = kept IsNumberText 86 lines (meta_line 88 text) b.virtual_size refl t.virtual_size;
            guid = kept_readable IsGuidText 71 lines (meta_line 88 text) b.guid refl t.guid;
            guid_seen = seen_stays b.guid_seen 71 lines (meta_line 88 text) refl t.guid_seen;
            origin_seen = origin_stays b.origin_seen lines (meta_line 88 text) refl t.origin_seen;
            references = with_refs lines refs.items empty are;
          },
        )
    by_answer false e = λ lines t may. (refl, refusing e)

-- ---- all lines

-- good lines stand before the rest, and the reader has taken them; it has room for so many references at least
pub record TakenInBrief (room : ℕ) (text rest : List ℕ) (reader : BriefReader) : Type 0 where
  pub good : List Line
  pub parts : text ≡ flat_map line_text good ++ rest
  pub follow : FollowOneAnother [] good
  pub taken : HasTakenBriefly good reader
  pub roomy : room ≤ vec_capacity reader.refs

pub begins_briefly : (room : ℕ) (text : List ℕ) (reader : BriefReader) → HasTakenBriefly [] reader → room ≤ vec_capacity reader.refs → TakenInBrief room text text reader
begins_briefly room text reader taken roomy = record { good = []; parts = refl; follow = tt; taken = taken; roomy = roomy }

pub one_more_briefly : (room : ℕ) (text rest behind : List ℕ) (line : Line) (old new : BriefReader) (answer : Bool) → (t : TakenInBrief room text rest old) → IsNextLine rest line behind → TakesBriefly old line new answer → vec_capacity old.refs ≤ vec_capacity new.refs → answer ≡ true → TakenInBrief room text behind new
one_more_briefly room text rest behind line old new false t next takes more took = absurd (cc took)
one_more_briefly room text rest behind line old new true t next takes more took =
    let r = takes t.good t.taken in
    record {
      good = t.good ++ line ∷ [];
      parts = t.parts ∙ ap (λ (o : List ℕ). flat_map line_text t.good ++ o) next.spelled
          ∙ sym (append_assoc (flat_map line_text t.good) (line_text line) behind)
          ∙ ap (λ (o : List ℕ). o ++ behind) (ap (λ (o : List ℕ). flat_map line_text t.good ++ o) (sym (append-nil (line_text line))) ∙ sym (flat_map-append line_text t.good (line ∷ [])));
      follow = follow_more [] t.good line t.follow r.0;
      taken = r.1;
      roomy = let before = t.roomy in omega (arith, before, more);
    }

-- at the end the lines say metadata
made_of : Option Guid → Option ℕ → Option ℕ → Option ℕ → Option (List ℕ) → List ExtRef → List Line → Metadata
made_of guid received physical virtual_size origin refs lines =
    record { guid = guid; received = received; physical = physical; virtual_size = virtual_size; origin = origin; refs = refs; unknown = flat_map line_text (filter (is_unknown (is_some guid) (is_some origin)) lines) }

pub said_briefly : (room : ℕ) (text rest : List ℕ) (reader : BriefReader) (brief : Brief) → TakenInBrief room text rest reader → rest ≡ [] → brief.guid ≡ reader.guid → brief.physical ≡ reader.physical → brief.refs.items ≡ reader.refs.items → IsBriefOf text brief
unfolding made_of
said_briefly room text rest reader brief t e guid physical refs =
    let origin = origin_of reader.origin_seen t.good t.taken.origin_seen in
    record {
      meta = made_of reader.guid reader.received reader.physical reader.virtual_size origin.0 reader.refs.items t.good;
      says = record {
        lines = t.good;
        are = record { each = follow_are_lines [] t.good t.follow; spelled = t.parts ∙ ap (λ (o : List ℕ). flat_map line_text t.good ++ o) e ∙ append-nil _ };
        say = record { received = t.taken.received; physical = t.taken.physical; virtual_size = t.taken.virtual_size; guid = t.taken.guid; origin = origin.1; refs = t.taken.references; unknown = refl };
      };
      refs = refs;
      guid = guid;
      physical = physical;
    }

-- what stands next is no line that may follow
bad_next : (room : ℕ) (text rest : List ℕ) (reader : BriefReader) (t : TakenInBrief room text rest reader) → rest ≢ [] → ((line : Line) (behind : List ℕ) → rest ≡ line_text line ++ behind → MayFollow t.good line → ⊥) → IsFirstBadLine text (length text - length rest)
bad_next room text rest reader t some bad = record {
  good = t.good;
  rest = rest;
  parts = t.parts;
  place = omega (arith, ap length t.parts, length-append (flat_map line_text t.good) rest);
  follow = t.follow;
  more = some;
  bad = bad;
}

pub no_line_briefly : (room : ℕ) (text rest : List ℕ) (reader : BriefReader) → TakenInBrief room text rest reader → rest ≢ [] → ((line : Line) (behind : List ℕ) → IsLine line → rest ≢ line_text line ++ behind) → (meta : Metadata) → IsMetadataText text meta → length meta.refs ≤ room → ⊥
no_line_briefly room text rest reader t some none meta says few = no_bad_line text meta _ says (bad_next room text rest reader t some (λ line behind e may. none line behind may.spelled e))

are_behind : (a b : List Line) → AllByRecursion IsLine (a ++ b) → AllByRecursion IsLine b
are_behind [] b h = h
are_behind (x ∷ a) b h = are_behind a b h.1

-- one value behind some, of which there is one
last_value : (xs ys : List (List ℕ)) (y z : List ℕ) → xs ++ y ∷ ys ≡ z ∷ [] → (xs ≡ []) × (y ≡ z)
last_value [] ys y z e = (refl, let h : y ∷ ys ≡ z ∷ [] = e in cc h)
last_value (x ∷ []) ys y z e = absurd (let h : x ∷ (y ∷ ys) ≡ z ∷ [] = e in let k : y ∷ ys ≡ [] = cc h in cc k)
last_value (x ∷ w ∷ xs) ys y z e = absurd (let h : x ∷ (w ∷ (xs ++ y ∷ ys)) ≡ z ∷ [] = e in let k : w ∷ (xs ++ y ∷ ys) ≡ [] = cc h in cc k)

not_none : (xs ys : List (List ℕ)) (y : List ℕ) → xs ++ y ∷ ys ≡ [] → ⊥
not_none [] ys y e = let h : y ∷ ys ≡ [] = e in cc h
not_none (x ∷ xs) ys y e = let h : x ∷ (xs ++ y ∷ ys) ≡ [] = e in cc h

-- the values of lines, of which one has references
values_with : (good more : List Line) (line : Line) → line.key ≡ 88 → values_of 88 (good ++ line ∷ more) ≡ values_of 88 good ++ line.value ∷ values_of 88 more
values_with good more line e =
    let here : values_of 88 (line ∷ more) ≡ line.value ∷ values_of 88 more = rw (eq-eqb line.key 88 e) refl in
    ap (map (λ (l : Line). l.value)) (filter-append (λ (l : Line). l.key == 88) good (line ∷ more)) ∙ map-append (λ (l : Line). l.value) _ _ ∙ ap (λ (vs : List (List ℕ)). values_of 88 good ++ vs) here

-- so it has these references, and no line before it has any
the_references : (good more : List Line) (line : Line) (refs : List ExtRef) → line.key ≡ 88 → HasReferences (good ++ line ∷ more) refs → (values_of 88 good ≡ []) × AreReferences line.value refs
the_references good more line [] e h = absurd (not_none (values_of 88 good) (values_of 88 more) line.value (sym (values_with good more line e) ∙ h))
the_references good more line (r ∷ refs) e h =
    let one = last_value (values_of 88 good) (values_of 88 more) line.value h.0 (sym (values_with good more line e) ∙ h.1) in
    (one.0, subst (λ (text : List ℕ). AreReferences text (r ∷ refs)) (sym one.1) h.2)

no_number : (key : ℕ) → key ≡ 88 → IsTrue (is_number_key key) → ⊥
no_number key e h = let k : IsTrue (is_number_key 88) = subst (λ (n : ℕ). IsTrue (is_number_key n)) e h in cc k

-- The next line is refused: no metadata goes on with it but some with more references than there is room for.
pub refused_briefly : (room : ℕ) (text rest behind : List ℕ) (line : Line) (old new : BriefReader) (answer : Bool) → TakenInBrief room text rest old → rest ≢ [] → IsNextLine rest line behind → TakesBriefly old line new answer → answer ≡ false → (meta : Metadata) → IsMetadataText text meta → length meta.refs ≤ room → ⊥
refused_briefly room text rest behind line old new true t some next takes denied meta says few = absurd (cc denied)
refused_briefly room text rest behind line old new false t some next takes denied meta says few = by_key (cases_eq line.key 88)
  where
    by_key : (line.key ≡ 88) ⊎ (line.key ≡ 88 → ⊥) → ⊥
    by_key (inr other) = no_bad_line text meta _ says (bad_next room text rest old t some (λ found more e may.
        other (takes t.good t.taken (subst (λ (o : Line). MayFollow t.good o) (line_same found line more behind may.spelled next.fits (sym e ∙ next.spelled)) may)).0))
    by_key (inl references) =
        let cut = cut_lines says.lines t.good rest says.are.each (follow_are_lines [] t.good t.follow) (sym says.are.spelled ∙ t.parts) in
        by_more cut.0 cut.1 cut.2
      where
        by_more : (more : List Line) → says.lines ≡ t.good ++ more → rest ≡ flat_map line_text more → ⊥
        by_more [] e s = some s
        by_more (found ∷ more) e s =
            let each : AllByRecursion IsLine (t.good ++ found ∷ more) = subst (λ (ls : List Line). AllByRecursion IsLine ls) e says.are.each in
            let same : found ≡ line = line_same found line (flat_map line_text more) behind (are_behind t.good (found ∷ more) each).0 next.fits (sym s ∙ next.spelled) in
            let refs : HasReferences (t.good ++ line ∷ more) meta.refs = subst (λ (l : Line). HasReferences (t.good ++ l ∷ more) meta.refs) same (subst (λ (ls : List Line). HasReferences ls meta.refs) e says.say.refs) in
            let one = the_references t.good more line meta.refs references refs in
            let may : MayFollow t.good line = record { spelled = next.fits; once = λ known. subst (λ (n : ℕ). values_of n t.good ≡ []) (sym references) one.0; number = λ h. absurd (no_number line.key references h); references = λ k. (meta.refs, one.1) } in
            let over = (takes t.good t.taken may).1 meta.refs one.1 in
            let roomy = t.roomy in
            omega (arith, over, roomy, few)
