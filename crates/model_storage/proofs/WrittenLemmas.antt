-- The written form of metadata is one of its spellings.
use Rattle.std.specs.Prelude.{◌≡◌, ◌≤◌, ◌==◌, ℕ, zero, suc, Bool, true, false, List, [], ◌∷◌, ◌++◌, map, filter, flat_map, codes, take, drop, All, IsTrue, Option, Some, None, is_some, refl, if◌then◌else◌}
use Rattle.std.specs.List.{list_all, AllByRecursion}
use Rattle.std.specs.Fmt.{decimal}
use Rattle.std.proofs.Common.{sym, inl, inr, ◌∙◌, ap, arith, subst, append_assoc, append-nil}
use Rattle.std.proofs.lemmas.Grind.{common_steps, flat_map-append}
use Rattle.std.proofs.lemmas.Bool.{eqb-true}
use Rattle.std.proofs.lemmas.List.{map-append}
use Rattle.std.proofs.lemmas.List.Elements.{filter-append}
use Rattle.std.proofs.lemmas.List.Folds.{list_all-append}
use Rattle.std.proofs.lemmas.List.Sums.{list_all-from_AllPass}
use Rattle.hex.specs.Hex.{encode_lower, is_hex_digit, IsBytes, lower_digits}
use Rattle.hex.proofs.HexLemmas.{decode_of-encode_lower, decode_of-ok, length-encode_with}
use Rattle.mdbox_base.specs.Numbers.{hex_text}
use Rattle.mdbox_base.specs.Words.{IsName}
use Rattle.mdbox_base.specs.declared.ids.Guid.{Guid}
use Rattle.mdbox_base.specs.declared.metadata.LineForm.{LineForm}
use Rattle.mdbox_base.specs.declared.metadata.ExtRef.{ExtRef}
use Rattle.model_storage.specs.declared.metadata_value.Metadata.{Metadata}
use Rattle.model_storage.specs.StorageFile.{Line, IsLine, line_text, is_no_end, values_of}
use Rattle.model_storage.specs.References.{ReferenceFits, FormFits, reference_text, references_text, options_text, instance_path}
use Rattle.model_storage.proofs.ReferenceLemmas.{both, first, second, octets_are_bytes, is_digit, decimal_digits}
use Rattle.model_octets.proofs.HexTextLemmas.{hex_text_is_hex, hex_text_is_lower, hex_below, is_lower_hex}
use Rattle.model_storage.specs.Metadata.{IsNumberText, IsGuidText, IsOriginText, HasAtMostOne, HasAtMostOneReadable, HasReferences, is_number_key, is_unknown, IsMetadata, IsMetadataText, optional_line, references_line, known_lines, metadata_text}

values_append : (key : ℕ) (xs ys : List Line) → values_of key (xs ++ ys) ≡ values_of key xs ++ values_of key ys
values_append key xs ys = ap (map (λ (l : Line). l.value)) (filter-append (λ (l : Line). l.key == key) xs ys) ∙ map-append (λ (l : Line). l.value) _ _

-- the unknown lines: none has a key that is known
no_value : (key : ℕ) (p : Line → Bool) → ((line : Line) → line.key ≡ key → p line ≡ false) → (lines : List Line) → values_of key (filter p lines) ≡ []
no_value key p apart [] = refl
no_value key p apart (line ∷ lines) = by_test (p line) (line.key == key) refl refl (no_value key p apart lines)
  where
    by_test : (b k : Bool) → p line ≡ b → (line.key == key) ≡ k → values_of key (filter p lines) ≡ [] → values_of key (if b then line ∷ filter p lines else filter p lines) ≡ []
    by_test true true e f h = absurd (let z : true ≡ false = sym e ∙ apart line (eqb-true line.key key f) in cc z)
    by_test true false e f h = rw f h
    by_test false k e f h = h

-- and those that are unknown all stay
all_values : (key : ℕ) (p : Line → Bool) → ((line : Line) → line.key ≡ key → p line ≡ true) → (lines : List Line) → values_of key (filter p lines) ≡ values_of key lines
all_values key p keeps [] = refl
all_values key p keeps (line ∷ lines) = by_test (p line) (line.key == key) refl refl (all_values key p keeps lines)
  where
    by_test : (b k : Bool) → p line ≡ b → (line.key == key) ≡ k → values_of key (filter p lines) ≡ values_of key lines →
        values_of key (if b then line ∷ filter p lines else filter p lines) ≡ map (λ l. l.value) (if k then line ∷ filter (λ l. l.key == key) lines else filter (λ l. l.key == key) lines)
    by_test true true e f h = rw f (ap (λ (vs : List (List ℕ)). line.value ∷ vs) h)
    by_test true false e f h = rw f h
    by_test false true e f h = absurd (let z : false ≡ true = sym e ∙ keeps line (eqb-true line.key key f) in cc z)
    by_test false false e f h = h

filter_twice : {X : Type 0} → (p : X → Bool) (xs : List X) → filter p (filter p xs) ≡ filter p xs
filter_twice p [] = refl
filter_twice p (x ∷ xs) = by_test (p x) refl (filter_twice p xs)
  where
    by_test : (b : Bool) → p x ≡ b → filter p (filter p xs) ≡ filter p xs → filter p (if b then x ∷ filter p xs else filter p xs) ≡ (if b then x ∷ filter p xs else filter p xs)
    by_test true e h = rw e (ap (λ (ys : List _). x ∷ ys) h)
    by_test false e h = h

-- the known lines' values
abbrev texts : {X : Type 0} → (X → List ℕ) → Option X → List (List ℕ)
texts text None = []
texts text (Some x) = text x ∷ []

abbrev reference_texts : List ExtRef → List (List ℕ)
reference_texts [] = []
reference_texts (ref ∷ refs) = references_text (ref ∷ refs) ∷ []

values_same : {X : Type 0} → (key : ℕ) (text : X → List ℕ) (o : Option X) → (key == key) ≡ true → values_of key (optional_line key text o) ≡ texts text o
values_same key text None e = refl
values_same key text (Some x) e = rw e refl

values_other : {X : Type 0} → (key other : ℕ) (text : X → List ℕ) (o : Option X) → (other == key) ≡ false → values_of key (optional_line other text o) ≡ []
values_other key other text None e = refl
values_other key other text (Some x) e = rw e refl

values_references : (key : ℕ) (refs : List ExtRef) → (88 == key) ≡ false → values_of key (references_line refs) ≡ []
values_references key [] e = refl
values_references key (r ∷ rs) e = rw e refl

references_values : (refs : List ExtRef) → values_of 88 (references_line refs) ≡ reference_texts refs
references_values [] = refl
references_values (r ∷ rs) = refl

guid_text : Guid → List ℕ
guid_text guid = encode_lower guid.0

-- the values of a key among all lines of the written form
spread : (key : ℕ) (a b c d e f rest : List Line) →
    values_of key ((a ++ (b ++ (c ++ (d ++ (e ++ f))))) ++ rest) ≡ values_of key a ++ (values_of key b ++ (values_of key c ++ (values_of key d ++ (values_of key e ++ (values_of key f ++ values_of key rest)))))
spread key a b c d e f rest = simp (append_assoc, values_append key)

-- the written form's lines
abbrev pub written_lines : Metadata → List Line → List Line
written_lines meta lines = known_lines meta ++ filter (is_unknown (is_some meta.guid) (is_some meta.origin)) lines

known_key : (guid origin : Bool) (line : Line) → IsTrue (is_number_key line.key) → is_unknown guid origin line ≡ false
known_key guid origin line h = rw h refl

reference_key : (guid origin : Bool) (line : Line) → line.key ≡ 88 → is_unknown guid origin line ≡ false
reference_key true true line h = rw h refl
reference_key true false line h = rw h refl
reference_key false true line h = rw h refl
reference_key false false line h = rw h refl

number_key : (guid origin : Bool) (key : ℕ) → IsTrue (is_number_key key) → (line : Line) → line.key ≡ key → is_unknown guid origin line ≡ false
number_key guid origin key h line e = known_key guid origin line (rw e h)

received_values : (m : Metadata) (lines : List Line) → values_of 82 (written_lines m lines) ≡ texts hex_text m.received
received_values m lines =
    spread 82 (optional_line 82 hex_text m.received) (optional_line 90 hex_text m.physical) (optional_line 86 hex_text m.virtual_size) (optional_line 71 (λ (guid : Guid). encode_lower guid.0) m.guid) (optional_line 66 (λ (name : List ℕ). name) m.origin) (references_line m.refs) _
    ∙ rw (values_same 82 hex_text m.received refl, values_other 82 90 hex_text m.physical refl, values_other 82 86 hex_text m.virtual_size refl, values_other 82 71 (λ (guid : Guid). encode_lower guid.0) m.guid refl, values_other 82 66 (λ (name : List ℕ). name) m.origin refl, values_references 82 m.refs refl, no_value 82 (is_unknown (is_some m.guid) (is_some m.origin)) (number_key (is_some m.guid) (is_some m.origin) 82 refl) lines) (append-nil _)

physical_values : (m : Metadata) (lines : List Line) → values_of 90 (written_lines m lines) ≡ texts hex_text m.physical
physical_values m lines =
    spread 90 (optional_line 82 hex_text m.received) (optional_line 90 hex_text m.physical) (optional_line 86 hex_text m.virtual_size) (optional_line 71 (λ (guid : Guid). encode_lower guid.0) m.guid) (optional_line 66 (λ (name : List ℕ). name) m.origin) (references_line m.refs) _
    ∙ rw (values_other 90 82 hex_text m.received refl, values_same 90 hex_text m.physical refl, values_other 90 86 hex_text m.virtual_size refl, values_other 90 71 (λ (guid : Guid). encode_lower guid.0) m.guid refl, values_other 90 66 (λ (name : List ℕ). name) m.origin refl, values_references 90 m.refs refl, no_value 90 (is_unknown (is_some m.guid) (is_some m.origin)) (number_key (is_some m.guid) (is_some m.origin) 90 refl) lines) (append-nil _)

virtual_values : (m : Metadata) (lines : List Line) → values_of 86 (written_lines m lines) ≡ texts hex_text m.virtual_size
virtual_values m lines =
    spread 86 (optional_line 82 hex_text m.received) (optional_line 90 hex_text m.physical) (optional_line 86 hex_text m.virtual_size) (optional_line 71 (λ (guid : Guid). encode_lower guid.0) m.guid) (optional_line 66 (λ (name : List ℕ). name) m.origin) (references_line m.refs) _
    ∙ rw (values_other 86 82 hex_text m.received refl, values_other 86 90 hex_text m.physical refl, values_same 86 hex_text m.virtual_size refl, values_other 86 71 (λ (guid : Guid). encode_lower guid.0) m.guid refl, values_other 86 66 (λ (name : List ℕ). name) m.origin refl, values_references 86 m.refs refl, no_value 86 (is_unknown (is_some m.guid) (is_some m.origin)) (number_key (is_some m.guid) (is_some m.origin) 86 refl) lines) (append-nil _)

refs_values : (m : Metadata) (lines : List Line) → values_of 88 (written_lines m lines) ≡ reference_texts m.refs
refs_values m lines =
    spread 88 (optional_line 82 hex_text m.received) (optional_line 90 hex_text m.physical) (optional_line 86 hex_text m.virtual_size) (optional_line 71 (λ (guid : Guid). encode_lower guid.0) m.guid) (optional_line 66 (λ (name : List ℕ). name) m.origin) (references_line m.refs) _
    ∙ rw (values_other 88 82 hex_text m.received refl, values_other 88 90 hex_text m.physical refl, values_other 88 86 hex_text m.virtual_size refl, values_other 88 71 (λ (guid : Guid). encode_lower guid.0) m.guid refl, values_other 88 66 (λ (name : List ℕ). name) m.origin refl, references_values m.refs, no_value 88 (is_unknown (is_some m.guid) (is_some m.origin)) (reference_key (is_some m.guid) (is_some m.origin)) lines) (append-nil _)

guid_values : (m : Metadata) (lines : List Line) → values_of 71 (written_lines m lines) ≡ texts (λ (guid : Guid). encode_lower guid.0) m.guid ++ values_of 71 (filter (is_unknown (is_some m.guid) (is_some m.origin)) lines)
guid_values m lines =
    spread 71 (optional_line 82 hex_text m.received) (optional_line 90 hex_text m.physical) (optional_line 86 hex_text m.virtual_size) (optional_line 71 (λ (guid : Guid). encode_lower guid.0) m.guid) (optional_line 66 (λ (name : List ℕ). name) m.origin) (references_line m.refs) _
    ∙ rw (values_other 71 82 hex_text m.received refl, values_other 71 90 hex_text m.physical refl, values_other 71 86 hex_text m.virtual_size refl, values_same 71 (λ (guid : Guid). encode_lower guid.0) m.guid refl, values_other 71 66 (λ (name : List ℕ). name) m.origin refl, values_references 71 m.refs refl) refl

origin_values : (m : Metadata) (lines : List Line) → values_of 66 (written_lines m lines) ≡ texts (λ (name : List ℕ). name) m.origin ++ values_of 66 (filter (is_unknown (is_some m.guid) (is_some m.origin)) lines)
origin_values m lines =
    spread 66 (optional_line 82 hex_text m.received) (optional_line 90 hex_text m.physical) (optional_line 86 hex_text m.virtual_size) (optional_line 71 (λ (guid : Guid). encode_lower guid.0) m.guid) (optional_line 66 (λ (name : List ℕ). name) m.origin) (references_line m.refs) _
    ∙ rw (values_other 66 82 hex_text m.received refl, values_other 66 90 hex_text m.physical refl, values_other 66 86 hex_text m.virtual_size refl, values_other 66 71 (λ (guid : Guid). encode_lower guid.0) m.guid refl, values_same 66 (λ (name : List ℕ). name) m.origin refl, values_references 66 m.refs refl) refl

guid_known : (origin : Bool) (line : Line) → line.key ≡ 71 → is_unknown true origin line ≡ false
guid_known true line h = rw h refl
guid_known false line h = rw h refl

guid_unknown : (origin : Bool) (line : Line) → line.key ≡ 71 → is_unknown false origin line ≡ true
guid_unknown true line h = rw h refl
guid_unknown false line h = rw h refl

origin_known : (guid : Bool) (line : Line) → line.key ≡ 66 → is_unknown guid true line ≡ false
origin_known true line h = rw h refl
origin_known false line h = rw h refl

origin_unknown : (guid : Bool) (line : Line) → line.key ≡ 66 → is_unknown guid false line ≡ true
origin_unknown true line h = rw h refl
origin_unknown false line h = rw h refl

-- the written values are read as what was written
number_read : (key : ℕ) (old written : List Line) (o : Option ℕ) → values_of key written ≡ texts hex_text o → HasAtMostOne IsNumberText key old o → HasAtMostOne IsNumberText key written o
number_read key old written None e h = e
number_read key old written (Some n) e h = (hex_text n, e, hex_text_is_hex n (hex_below h.0 n h.2))

guid_reads : (text : List ℕ) (guid : Guid) → IsGuidText text guid → IsGuidText (encode_lower guid.0) guid
guid_reads text guid h =
    let k = decode_of-ok text guid.0 h.octets in
    record {
      length = length-encode_with lower_digits guid.0 ∙ sym k.2 ∙ h.length;
      octets = decode_of-encode_lower guid.0 k.3;
    }

guid_read : (old unknown written : List Line) (o : Option Guid) → values_of 71 written ≡ texts (λ (guid : Guid). encode_lower guid.0) o ++ values_of 71 unknown →
    (is_some o ≡ true → values_of 71 unknown ≡ []) → (is_some o ≡ false → values_of 71 unknown ≡ values_of 71 old) →
    HasAtMostOneReadable IsGuidText 71 old o → HasAtMostOneReadable IsGuidText 71 written o
guid_read old unknown written None e none same (inl h) = inl (e ∙ same refl ∙ h)
guid_read old unknown written None e none same (inr h) = inr (h.0, e ∙ same refl ∙ h.1, h.2)
guid_read old unknown written (Some guid) e none same h = (encode_lower guid.0, e ∙ rw (none refl) refl, guid_reads h.0 guid h.2)

origin_read : (old unknown written : List Line) (o : Option (List ℕ)) → values_of 66 written ≡ texts (λ (name : List ℕ). name) o ++ values_of 66 unknown →
    (is_some o ≡ true → values_of 66 unknown ≡ []) → (is_some o ≡ false → values_of 66 unknown ≡ values_of 66 old) →
    HasAtMostOneReadable IsOriginText 66 old o → HasAtMostOneReadable IsOriginText 66 written o
origin_read old unknown written None e none same (inl h) = inl (e ∙ same refl ∙ h)
origin_read old unknown written None e none same (inr h) = inr (h.0, e ∙ same refl ∙ h.1, h.2)
origin_read old unknown written (Some name) e none same h =
    (name, e ∙ rw (none refl) refl, record { same = refl; fits = subst IsName h.2.same h.2.fits })

refs_read : (old written : List Line) (refs : List ExtRef) → values_of 88 written ≡ reference_texts refs → HasReferences old refs → HasReferences written refs
refs_read old written [] e h = e
refs_read old written (r ∷ rs) e h = (references_text (r ∷ rs), e, record { some = h.2.some; fit = h.2.fit; spelled = refl })

-- only the unknown lines stay unknown
optional_known : {X : Type 0} → (p : Line → Bool) (key : ℕ) (text : X → List ℕ) (o : Option X) → (is_some o ≡ true → (line : Line) → line.key ≡ key → p line ≡ false) → filter p (optional_line key text o) ≡ []
optional_known p key text None known = refl
optional_known p key text (Some x) known = rw (known refl (record { key = key; value = text x }) refl) refl

references_known : (p : Line → Bool) (refs : List ExtRef) → ((line : Line) → line.key ≡ 88 → p line ≡ false) → filter p (references_line refs) ≡ []
references_known p [] known = refl
references_known p (r ∷ rs) known = rw (known (record { key = 88; value = references_text (r ∷ rs) }) refl) refl

filter_spread : (p : Line → Bool) (a b c d e f rest : List Line) →
    filter p ((a ++ (b ++ (c ++ (d ++ (e ++ f))))) ++ rest) ≡ filter p a ++ (filter p b ++ (filter p c ++ (filter p d ++ (filter p e ++ (filter p f ++ filter p rest)))))
filter_spread p a b c d e f rest = simp (append_assoc, filter-append p)

-- a known number's line, whatever its value
with_guid : (m : Metadata) → is_some m.guid ≡ true → (line : Line) → line.key ≡ 71 → is_unknown (is_some m.guid) (is_some m.origin) line ≡ false
with_guid m h line e = rw h (guid_known (is_some m.origin) line e)

without_guid : (m : Metadata) → is_some m.guid ≡ false → (line : Line) → line.key ≡ 71 → is_unknown (is_some m.guid) (is_some m.origin) line ≡ true
without_guid m h line e = rw h (guid_unknown (is_some m.origin) line e)

with_origin : (m : Metadata) → is_some m.origin ≡ true → (line : Line) → line.key ≡ 66 → is_unknown (is_some m.guid) (is_some m.origin) line ≡ false
with_origin m h line e = rw h (origin_known (is_some m.guid) line e)

without_origin : (m : Metadata) → is_some m.origin ≡ false → (line : Line) → line.key ≡ 66 → is_unknown (is_some m.guid) (is_some m.origin) line ≡ true
without_origin m h line e = rw h (origin_unknown (is_some m.guid) line e)

unknown_stays : (m : Metadata) (lines : List Line) →
    filter (is_unknown (is_some m.guid) (is_some m.origin)) (written_lines m lines) ≡ filter (is_unknown (is_some m.guid) (is_some m.origin)) lines
unknown_stays m lines =
    let p : Line → Bool = is_unknown (is_some m.guid) (is_some m.origin) in
    filter_spread p (optional_line 82 hex_text m.received) (optional_line 90 hex_text m.physical) (optional_line 86 hex_text m.virtual_size) (optional_line 71 (λ (guid : Guid). encode_lower guid.0) m.guid) (optional_line 66 (λ (name : List ℕ). name) m.origin) (references_line m.refs) _
    ∙ rw (
      optional_known p 82 hex_text m.received (λ h. number_key (is_some m.guid) (is_some m.origin) 82 refl),
      optional_known p 90 hex_text m.physical (λ h. number_key (is_some m.guid) (is_some m.origin) 90 refl),
      optional_known p 86 hex_text m.virtual_size (λ h. number_key (is_some m.guid) (is_some m.origin) 86 refl),
      optional_known p 71 (λ (guid : Guid). encode_lower guid.0) m.guid (with_guid m),
      optional_known p 66 (λ (name : List ℕ). name) m.origin (with_origin m),
      references_known p m.refs (reference_key (is_some m.guid) (is_some m.origin)),
    )
    (filter_twice p lines)

-- the written lines say what was read
written_say : (m : Metadata) (lines : List Line) → IsMetadata lines m → IsMetadata (written_lines m lines) m
written_say m lines say =
    let unknown : List Line = filter (is_unknown (is_some m.guid) (is_some m.origin)) lines in
    record {
      received = number_read 82 lines (written_lines m lines) m.received (received_values m lines) say.received;
      physical = number_read 90 lines (written_lines m lines) m.physical (physical_values m lines) say.physical;
      virtual_size = number_read 86 lines (written_lines m lines) m.virtual_size (virtual_values m lines) say.virtual_size;
      guid = guid_read lines unknown (written_lines m lines) m.guid (guid_values m lines)
          (λ h. no_value 71 (is_unknown (is_some m.guid) (is_some m.origin)) (with_guid m h) lines)
          (λ h. all_values 71 (is_unknown (is_some m.guid) (is_some m.origin)) (without_guid m h) lines) say.guid;
      origin = origin_read lines unknown (written_lines m lines) m.origin (origin_values m lines)
          (λ h. no_value 66 (is_unknown (is_some m.guid) (is_some m.origin)) (with_origin m h) lines)
          (λ h. all_values 66 (is_unknown (is_some m.guid) (is_some m.origin)) (without_origin m h) lines) say.origin;
      refs = refs_read lines (written_lines m lines) m.refs (refs_values m lines) say.refs;
      unknown = say.unknown ∙ ap (flat_map line_text) (sym (unknown_stays m lines));
    }

-- the written values have no LF
clear : (p : ℕ → Bool) (xs : List ℕ) → ((c : ℕ) → IsTrue (p c) → IsTrue (is_no_end c)) → IsTrue (list_all p xs) → IsTrue (list_all is_no_end xs)
clear p [] each h = refl
clear p (x ∷ xs) each h = both (is_no_end x) _ (each x (first (p x) _ h)) (clear p xs each (second (p x) _ h))

clear_append : (xs ys : List ℕ) → IsTrue (list_all is_no_end xs) → IsTrue (list_all is_no_end ys) → IsTrue (list_all is_no_end (xs ++ ys))
clear_append xs ys hx hy = rw (list_all-append is_no_end xs ys) (both (list_all is_no_end xs) _ hx hy)

lower_clear : (c : ℕ) → IsTrue (is_lower_hex c) → IsTrue (is_no_end c)
lower_clear c h = grind (arith, common_steps, h)

digit_clear : (c : ℕ) → IsTrue (is_digit c) → IsTrue (is_no_end c)
digit_clear c h = grind (arith, common_steps, h)

hex_digit_clear : (c : ℕ) → IsTrue (is_hex_digit c) → IsTrue (is_no_end c)
hex_digit_clear c h = grind (arith, common_steps, h)

printing_clear : (name : List ℕ) → All (λ octet. 32 ≤ octet) name → IsTrue (list_all is_no_end name)
printing_clear name h = list_all-from_AllPass is_no_end name (λ k d lt. above (_) (h k d lt))
  where
    above : (c : ℕ) → 32 ≤ c → is_no_end c ≡ true
    above c le = grind (arith, common_steps, le)

octets_clear : (xs : List ℕ) → IsBytes xs → IsTrue (list_all is_no_end (encode_lower xs))
octets_clear xs h = clear is_hex_digit (encode_lower xs) hex_digit_clear (list_all-from_AllPass is_hex_digit (encode_lower xs) (decode_of-ok (encode_lower xs) xs (decode_of-encode_lower xs h)).1)

first_byte : (xs : List ℕ) → IsBytes xs → IsBytes (take 1 xs)
first_byte [] h i = h i
first_byte (x ∷ xs) h zero = h 0
first_byte (x ∷ xs) h (suc i) = omega arith

bytes_behind : (xs : List ℕ) → IsBytes xs → IsBytes (drop 1 xs)
bytes_behind [] h i = h i
bytes_behind (x ∷ xs) h i = h (suc i)

options_clear : (form : Option LineForm) → FormFits form → IsTrue (list_all is_no_end (options_text form))
options_clear None fits = refl
options_clear (Some form) fits = clear_append (decimal form.length) (if form.crlf then codes "C" else codes "") (clear is_digit (decimal form.length) digit_clear (decimal_digits form.length (omega (arith, fits.most)))) (mark form.crlf)
  where
    mark : (crlf : Bool) → IsTrue (list_all is_no_end (if crlf then codes "C" else codes ""))
    mark true = refl
    mark false = refl

-- a text without LF
record IsClear (xs : List ℕ) : Type 0 where
  none : IsTrue (list_all is_no_end xs)

in_front : (xs : List ℕ) {ys : List ℕ} → IsTrue (list_all is_no_end xs) → IsClear ys → IsClear (xs ++ ys)
in_front xs {ys = ys} hx hy = record { none = clear_append xs ys hx hy.none }

mark_in_front : (c : ℕ) {ys : List ℕ} → IsTrue (is_no_end c) → IsClear ys → IsClear (c ∷ ys)
mark_in_front c {ys = ys} h hy = record { none = both (is_no_end c) _ h hy.none }

alone : (xs : List ℕ) → IsTrue (list_all is_no_end xs) → IsClear xs
alone xs h = record { none = h }

path_clear : (ref : ExtRef) → ReferenceFits ref → IsClear (instance_path ref.hash ref.id)
path_clear ref fits =
    let hash : IsBytes ref.hash.0 = octets_are_bytes ref.hash.0 fits.hash in
    let id : IsBytes ref.id.0 = octets_are_bytes ref.id.0 fits.id in
    in_front (encode_lower (take 1 ref.hash.0)) (octets_clear _ (first_byte ref.hash.0 hash))
    (mark_in_front 47 refl
    (in_front (encode_lower (take 1 (drop 1 ref.hash.0))) (octets_clear _ (first_byte (drop 1 ref.hash.0) (bytes_behind ref.hash.0 hash)))
    (mark_in_front 47 refl
    (in_front (encode_lower ref.hash.0) (octets_clear _ hash) (mark_in_front 45 refl (alone (encode_lower ref.id.0) (octets_clear ref.id.0 id)))))))

reference_clear : (ref : ExtRef) → ReferenceFits ref → IsTrue (list_all is_no_end (reference_text ref))
reference_clear ref fits =
    let whole : IsClear (reference_text ref) =
    in_front (decimal ref.start) (clear is_digit (decimal ref.start) digit_clear (decimal_digits ref.start (omega (arith, fits.start))))
    (mark_in_front 32 refl
    (in_front (decimal ref.count) (clear is_digit (decimal ref.count) digit_clear (decimal_digits ref.count (omega (arith, fits.count))))
    (mark_in_front 32 refl
    (in_front (options_text ref.form) (options_clear ref.form fits.form) (mark_in_front 32 refl (path_clear ref fits))))))
    in
    whole.none

behind_clear : (refs : List ExtRef) → AllByRecursion ReferenceFits refs → IsTrue (list_all is_no_end (flat_map (λ r. codes " " ++ reference_text r) refs))
behind_clear [] fit = refl
behind_clear (r ∷ rs) fit = clear_append (codes " " ++ reference_text r) (flat_map (λ r. codes " " ++ reference_text r) rs) (reference_clear r fit.0) (behind_clear rs fit.1)

references_clear : (refs : List ExtRef) → AllByRecursion ReferenceFits refs → IsTrue (list_all is_no_end (references_text refs))
references_clear [] fit = refl
references_clear (r ∷ rs) fit = clear_append (reference_text r) (flat_map (λ r. codes " " ++ reference_text r) rs) (reference_clear r fit.0) (behind_clear rs fit.1)

-- the written lines are lines
are_append : (xs ys : List Line) → AllByRecursion IsLine xs → AllByRecursion IsLine ys → AllByRecursion IsLine (xs ++ ys)
are_append [] ys p q = q
are_append (x ∷ xs) ys p q = (p.0, are_append xs ys p.1 q)

are_filtered : (p : Line → Bool) (xs : List Line) → AllByRecursion IsLine xs → AllByRecursion IsLine (filter p xs)
are_filtered p [] each = each
are_filtered p (x ∷ xs) each = by_test (p x) each.0 (are_filtered p xs each.1)
  where
    by_test : (b : Bool) → IsLine x → AllByRecursion IsLine (filter p xs) → AllByRecursion IsLine (if b then x ∷ filter p xs else filter p xs)
    by_test true h rest = (h, rest)
    by_test false h rest = rest

number_line : (key : ℕ) (old : List Line) (o : Option ℕ) → IsTrue (is_no_end key) → AllByRecursion IsLine (optional_line key hex_text o)
number_line key old None h = tt
number_line key old (Some n) h = (record { key = h; value = clear is_lower_hex (hex_text n) lower_clear (hex_text_is_lower n) }, tt)

guid_line : (old : List Line) (o : Option Guid) → HasAtMostOneReadable IsGuidText 71 old o → AllByRecursion IsLine (optional_line 71 (λ (guid : Guid). encode_lower guid.0) o)
guid_line old None h = tt
guid_line old (Some guid) h = (record { key = refl; value = octets_clear guid.0 (decode_of-ok h.0 guid.0 h.2.octets).3 }, tt)

origin_line : (old : List Line) (o : Option (List ℕ)) → HasAtMostOneReadable IsOriginText 66 old o → AllByRecursion IsLine (optional_line 66 (λ (name : List ℕ). name) o)
origin_line old None h = tt
origin_line old (Some name) h = (record { key = refl; value = printing_clear name (subst IsName h.2.same h.2.fits).printing }, tt)

refs_line : (old : List Line) (refs : List ExtRef) → HasReferences old refs → AllByRecursion IsLine (references_line refs)
refs_line old [] h = tt
refs_line old (r ∷ rs) h = (record { key = refl; value = references_clear (r ∷ rs) h.2.fit }, tt)

written_are : (m : Metadata) (lines : List Line) → AllByRecursion IsLine lines → IsMetadata lines m → AllByRecursion IsLine (written_lines m lines)
written_are m lines each say =
    are_append (known_lines m) _
    (are_append (optional_line 82 hex_text m.received) _ (number_line 82 lines m.received refl)
    (are_append (optional_line 90 hex_text m.physical) _ (number_line 90 lines m.physical refl)
    (are_append (optional_line 86 hex_text m.virtual_size) _ (number_line 86 lines m.virtual_size refl)
    (are_append (optional_line 71 (λ (guid : Guid). encode_lower guid.0) m.guid) _ (guid_line lines m.guid say.guid)
    (are_append (optional_line 66 (λ (name : List ℕ). name) m.origin) _ (origin_line lines m.origin say.origin) (refs_line lines m.refs say.refs))))))
    (are_filtered (is_unknown (is_some m.guid) (is_some m.origin)) lines each)

-- The written form says what any text of it says.
pub written_is_spelling : (text : List ℕ) (m : Metadata) → IsMetadataText text m → IsMetadataText (metadata_text m) m
written_is_spelling text m h = record {
  lines = written_lines m h.lines;
  are = record {
    each = written_are m h.lines h.are.each h.say;
    spelled = ap (λ (t : List ℕ). flat_map line_text (known_lines m) ++ t) h.say.unknown ∙ sym (flat_map-append line_text (known_lines m) _);
  };
  say = written_say m h.lines h.say;
}
