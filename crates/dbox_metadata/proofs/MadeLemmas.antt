-- Metadata that a store makes is said by its written form.
use Rattle.std.specs.Prelude.{◌≡◌, ◌<◌, ◌^◌, ◌==◌, ℕ, Bool, true, false, List, [], ◌∷◌, ◌++◌, length, map, filter, flat_map, IsTrue, Option, Some, None, IfSome, is_some, refl}
use Rattle.std.specs.List.{AllByRecursion}
use Rattle.std.proofs.Common.{sym, inl, ◌∙◌, ap, arith, append-nil}
use Rattle.std.proofs.lemmas.List.{map-append}
use Rattle.std.proofs.lemmas.List.Elements.{filter-append}
use Rattle.hex.specs.Hex.{encode_lower, lower_digits}
use Rattle.hex.proofs.HexLemmas.{decode_of-encode_lower, length-encode_with}
use Rattle.mdbox_base.specs.Numbers.{hex_text}
use Rattle.mdbox_base.specs.Words.{IsName, IsOctets}
use Rattle.mdbox_base.specs.declared.ids.Guid.{Guid}
use Rattle.mdbox_base.specs.declared.metadata.ExtRef.{ExtRef}
use Rattle.model_octets.proofs.HexTextLemmas.{hex_text_is_hex, hex_text_is_lower, is_lower_hex}
use Rattle.model_storage.proofs.ReferenceLemmas.{octets_are_bytes}
use Rattle.model_storage.specs.declared.metadata_value.Metadata.{Metadata}
use Rattle.model_storage.specs.StorageFile.{Line, IsLine, is_no_end, line_text, values_of}
use Rattle.model_storage.specs.References.{ReferenceFits, references_text}
use Rattle.model_storage.specs.Metadata.{IsNumberText, IsGuidText, IsOriginText, HasAtMostOne, HasAtMostOneReadable, HasReferences, IsMetadataText, is_unknown, optional_line, references_line, known_lines, metadata_text}
use Rattle.dbox_metadata.specs.MadeMetadata.{IsMadeMetadata}
use Rattle.dbox_metadata.proofs.ClearLemmas.{clear, lower_clear, octets_clear, printing_clear, references_clear}

abbrev guid_text : Guid → List ℕ
guid_text guid = encode_lower guid.0

abbrev name_text : List ℕ → List ℕ
name_text name = name

abbrev values_here : {X : Type 0} → (X → List ℕ) → Option X → List (List ℕ)
values_here text None = []
values_here text (Some x) = text x ∷ []

abbrev refs_here : List ExtRef → List (List ℕ)
refs_here [] = []
refs_here (r ∷ rs) = references_text (r ∷ rs) ∷ []

same_key : {X : Type 0} → (key : ℕ) (text : X → List ℕ) (o : Option X) → (key == key) ≡ true → values_of key (optional_line key text o) ≡ values_here text o
same_key key text None e = refl
same_key key text (Some x) e = rw e refl

other_key : {X : Type 0} → (key other : ℕ) (text : X → List ℕ) (o : Option X) → (other == key) ≡ false → values_of key (optional_line other text o) ≡ []
other_key key other text None e = refl
other_key key other text (Some x) e = rw e refl

other_refs : (key : ℕ) (refs : List ExtRef) → (88 == key) ≡ false → values_of key (references_line refs) ≡ []
other_refs key [] e = refl
other_refs key (r ∷ rs) e = rw e refl

same_refs : (refs : List ExtRef) → values_of 88 (references_line refs) ≡ refs_here refs
same_refs [] = refl
same_refs (r ∷ rs) = refl

values_append : (key : ℕ) (xs ys : List Line) → values_of key (xs ++ ys) ≡ values_of key xs ++ values_of key ys
values_append key xs ys = ap (map (λ (l : Line). l.value)) (filter-append (λ (l : Line). l.key == key) xs ys) ∙ map-append (λ (l : Line). l.value) _ _

spread : (key : ℕ) (a b c d e f : List Line) →
    values_of key (a ++ (b ++ (c ++ (d ++ (e ++ f))))) ≡ values_of key a ++ (values_of key b ++ (values_of key c ++ (values_of key d ++ (values_of key e ++ values_of key f))))
spread key a b c d e f = simp (values_append key)

-- the values of each key
spread_known : (key : ℕ) (m : Metadata) →
    values_of key (known_lines m) ≡ values_of key (optional_line 82 hex_text m.received) ++ (values_of key (optional_line 90 hex_text m.physical) ++ (values_of key (optional_line 86 hex_text m.virtual_size)
    ++ (values_of key (optional_line 71 guid_text m.guid) ++ (values_of key (optional_line 66 name_text m.origin) ++ values_of key (references_line m.refs)))))
spread_known key m = spread key (optional_line 82 hex_text m.received) (optional_line 90 hex_text m.physical) (optional_line 86 hex_text m.virtual_size) (optional_line 71 guid_text m.guid) (optional_line 66 name_text m.origin) (references_line m.refs)

received_values : (m : Metadata) → values_of 82 (known_lines m) ≡ values_here hex_text m.received
received_values m = spread_known 82 m
    ∙ rw (same_key 82 hex_text m.received refl, other_key 82 90 hex_text m.physical refl, other_key 82 86 hex_text m.virtual_size refl, other_key 82 71 guid_text m.guid refl, other_key 82 66 name_text m.origin refl, other_refs 82 m.refs refl) (append-nil _)

physical_values : (m : Metadata) → values_of 90 (known_lines m) ≡ values_here hex_text m.physical
physical_values m = spread_known 90 m
    ∙ rw (other_key 90 82 hex_text m.received refl, same_key 90 hex_text m.physical refl, other_key 90 86 hex_text m.virtual_size refl, other_key 90 71 guid_text m.guid refl, other_key 90 66 name_text m.origin refl, other_refs 90 m.refs refl) (append-nil _)

virtual_values : (m : Metadata) → values_of 86 (known_lines m) ≡ values_here hex_text m.virtual_size
virtual_values m = spread_known 86 m
    ∙ rw (other_key 86 82 hex_text m.received refl, other_key 86 90 hex_text m.physical refl, same_key 86 hex_text m.virtual_size refl, other_key 86 71 guid_text m.guid refl, other_key 86 66 name_text m.origin refl, other_refs 86 m.refs refl) (append-nil _)

guid_values : (m : Metadata) → values_of 71 (known_lines m) ≡ values_here guid_text m.guid
guid_values m = spread_known 71 m
    ∙ rw (other_key 71 82 hex_text m.received refl, other_key 71 90 hex_text m.physical refl, other_key 71 86 hex_text m.virtual_size refl, same_key 71 guid_text m.guid refl, other_key 71 66 name_text m.origin refl, other_refs 71 m.refs refl) (append-nil _)

origin_values : (m : Metadata) → values_of 66 (known_lines m) ≡ values_here name_text m.origin
origin_values m = spread_known 66 m
    ∙ rw (other_key 66 82 hex_text m.received refl, other_key 66 90 hex_text m.physical refl, other_key 66 86 hex_text m.virtual_size refl, other_key 66 71 guid_text m.guid refl, same_key 66 name_text m.origin refl, other_refs 66 m.refs refl) (append-nil _)

refs_values : (m : Metadata) → values_of 88 (known_lines m) ≡ refs_here m.refs
refs_values m = spread_known 88 m
    ∙ rw (other_key 88 82 hex_text m.received refl, other_key 88 90 hex_text m.physical refl, other_key 88 86 hex_text m.virtual_size refl, other_key 88 71 guid_text m.guid refl, other_key 88 66 name_text m.origin refl, same_refs m.refs) refl

-- each is read
number_read : (key : ℕ) (lines : List Line) (o : Option ℕ) → values_of key lines ≡ values_here hex_text o → IfSome o (λ n. n < 2 ^ 64) → HasAtMostOne IsNumberText key lines o
number_read key lines None e h = e
number_read key lines (Some n) e h = (hex_text n, e, hex_text_is_hex n h)

guid_read : (lines : List Line) (o : Option Guid) → values_of 71 lines ≡ values_here guid_text o → IfSome o (λ guid. (length guid.0 ≡ 16) × IsOctets guid.0) → HasAtMostOneReadable IsGuidText 71 lines o
guid_read lines None e h = inl e
guid_read lines (Some guid) e h =
    (encode_lower guid.0, e, record { length = omega (arith, length-encode_with lower_digits guid.0, h.0); octets = decode_of-encode_lower guid.0 (octets_are_bytes guid.0 h.1) })

origin_read : (lines : List Line) (o : Option (List ℕ)) → values_of 66 lines ≡ values_here name_text o → IfSome o IsName → HasAtMostOneReadable IsOriginText 66 lines o
origin_read lines None e h = inl e
origin_read lines (Some name) e h = (name, e, record { same = refl; fits = h })

refs_read : (lines : List Line) (refs : List ExtRef) → values_of 88 lines ≡ refs_here refs → AllByRecursion ReferenceFits refs → HasReferences lines refs
refs_read lines [] e h = e
refs_read lines (r ∷ rs) e h = (references_text (r ∷ rs), e, record { some = omega arith; fit = h; spelled = refl })

-- none is unknown
optional_known : {X : Type 0} → (p : Line → Bool) (key : ℕ) (text : X → List ℕ) (o : Option X) → (is_some o ≡ true → (value : List ℕ) → p (record { key = key; value = value }) ≡ false) → filter p (optional_line key text o) ≡ []
optional_known p key text None known = refl
optional_known p key text (Some x) known = rw (known refl (text x)) refl

refs_known : (p : Line → Bool) (refs : List ExtRef) → ((value : List ℕ) → p (record { key = 88; value = value }) ≡ false) → filter p (references_line refs) ≡ []
refs_known p [] known = refl
refs_known p (r ∷ rs) known = rw (known (references_text (r ∷ rs))) refl

filter_spread : (p : Line → Bool) (a b c d e f : List Line) →
    filter p (a ++ (b ++ (c ++ (d ++ (e ++ f))))) ≡ filter p a ++ (filter p b ++ (filter p c ++ (filter p d ++ (filter p e ++ filter p f))))
filter_spread p a b c d e f = simp (filter-append p)

guid_no_unknown : (guid origin : Bool) (value : List ℕ) → guid ≡ true → is_unknown guid origin (record { key = 71; value = value }) ≡ false
guid_no_unknown guid true value h = rw h refl
guid_no_unknown guid false value h = rw h refl

origin_no_unknown : (guid origin : Bool) (value : List ℕ) → origin ≡ true → is_unknown guid origin (record { key = 66; value = value }) ≡ false
origin_no_unknown true origin value h = rw h refl
origin_no_unknown false origin value h = rw h refl

refs_no_unknown : (guid origin : Bool) (value : List ℕ) → is_unknown guid origin (record { key = 88; value = value }) ≡ false
refs_no_unknown true true value = refl
refs_no_unknown true false value = refl
refs_no_unknown false true value = refl
refs_no_unknown false false value = refl

none_unknown : (m : Metadata) → filter (is_unknown (is_some m.guid) (is_some m.origin)) (known_lines m) ≡ []
none_unknown m =
    let p : Line → Bool = is_unknown (is_some m.guid) (is_some m.origin) in
    filter_spread p (optional_line 82 hex_text m.received) (optional_line 90 hex_text m.physical) (optional_line 86 hex_text m.virtual_size) (optional_line 71 guid_text m.guid) (optional_line 66 name_text m.origin) (references_line m.refs)
    ∙ rw (
      optional_known p 82 hex_text m.received (λ h value. refl),
      optional_known p 90 hex_text m.physical (λ h value. refl),
      optional_known p 86 hex_text m.virtual_size (λ h value. refl),
      optional_known p 71 guid_text m.guid (λ h value. guid_no_unknown (is_some m.guid) (is_some m.origin) value h),
      optional_known p 66 name_text m.origin (λ h value. origin_no_unknown (is_some m.guid) (is_some m.origin) value h),
      refs_known p m.refs (refs_no_unknown (is_some m.guid) (is_some m.origin)),
    )
    refl

-- each line is one
number_line : (key : ℕ) (o : Option ℕ) → IsTrue (is_no_end key) → AllByRecursion IsLine (optional_line key hex_text o)
number_line key None h = tt
number_line key (Some n) h = (record { key = h; value = clear is_lower_hex (hex_text n) lower_clear (hex_text_is_lower n) }, tt)

guid_line : (o : Option Guid) → IfSome o (λ guid. (length guid.0 ≡ 16) × IsOctets guid.0) → AllByRecursion IsLine (optional_line 71 guid_text o)
guid_line None h = tt
guid_line (Some guid) h = (record { key = refl; value = octets_clear guid.0 (octets_are_bytes guid.0 h.1) }, tt)

origin_line : (o : Option (List ℕ)) → IfSome o IsName → AllByRecursion IsLine (optional_line 66 name_text o)
origin_line None h = tt
origin_line (Some name) h = (record { key = refl; value = printing_clear name h.printing }, tt)

refs_line : (refs : List ExtRef) → AllByRecursion ReferenceFits refs → AllByRecursion IsLine (references_line refs)
refs_line [] h = tt
refs_line (r ∷ rs) h = (record { key = refl; value = references_clear (r ∷ rs) h }, tt)

are_append : (xs ys : List Line) → AllByRecursion IsLine xs → AllByRecursion IsLine ys → AllByRecursion IsLine (xs ++ ys)
are_append [] ys p q = q
are_append (x ∷ xs) ys p q = (p.0, are_append xs ys p.1 q)

are_lines : (m : Metadata) → IsMadeMetadata m → AllByRecursion IsLine (known_lines m)
are_lines m made =
    are_append (optional_line 82 hex_text m.received) _ (number_line 82 m.received refl)
    (are_append (optional_line 90 hex_text m.physical) _ (number_line 90 m.physical refl)
    (are_append (optional_line 86 hex_text m.virtual_size) _ (number_line 86 m.virtual_size refl)
    (are_append (optional_line 71 guid_text m.guid) _ (guid_line m.guid made.guid)
    (are_append (optional_line 66 name_text m.origin) _ (origin_line m.origin made.origin) (refs_line m.refs made.refs)))))

pub made_is_said : (m : Metadata) → IsMadeMetadata m → IsMetadataText (metadata_text m) m
made_is_said m made = record {
  lines = known_lines m;
  are = record {
    each = are_lines m made;
    spelled = rw made.unknown (append-nil (flat_map line_text (known_lines m)));
  };
  say = record {
    received = number_read 82 (known_lines m) m.received (received_values m) made.received;
    physical = number_read 90 (known_lines m) m.physical (physical_values m) made.physical;
    virtual_size = number_read 86 (known_lines m) m.virtual_size (virtual_values m) made.virtual_size;
    guid = guid_read (known_lines m) m.guid (guid_values m) made.guid;
    origin = origin_read (known_lines m) m.origin (origin_values m) made.origin;
    refs = refs_read (known_lines m) m.refs (refs_values m) made.refs;
    unknown = made.unknown ∙ sym (ap (flat_map line_text) (none_unknown m));
  };
}
