-- A reader that takes a line with a GUID or a mailbox of origin.
use Rattle.std.specs.Prelude.{◌≡◌, ◌==◌, ℕ, Bool, true, false, List, [], ◌∷◌, ◌++◌, map, filter, flat_map, Option, Some, None, IfSome, is_some, refl, if◌then◌else◌}
use Rattle.std.proofs.Common.{sym, inl, inr, ◌∙◌, ap, arith, append-nil}
use Rattle.std.proofs.lemmas.List.{map-append}
use Rattle.std.proofs.lemmas.List.Elements.{filter-append}
use Rattle.mdbox_base.specs.Words.{IsName}
use Rattle.mdbox_base.specs.declared.ids.Guid.{Guid}
use Rattle.mdbox_base.specs.declared.metadata.ExtRef.{ExtRef}
use Rattle.model_storage.specs.StorageFile.{Line, IsLine, line_text, values_of}
use Rattle.model_storage.specs.Metadata.{IsGuidText, IsOriginText, IsNumberText, HasAtMostOne, HasAtMostOneReadable, HasReferences, MayFollow, is_unknown}
use Rattle.dbox_metadata.specs.declared.reader.Reader.{Reader}
use Rattle.dbox_metadata.specs.SoFar.{meta_line, HasSeen, HasTaken}

values_apart : (key : ℕ) (line : Line) → (line.key == key) ≡ false → values_of key (line ∷ []) ≡ []
values_apart key line h = rw h refl

values_more : (key : ℕ) (lines : List Line) (line : Line) → values_of key (lines ++ line ∷ []) ≡ values_of key lines ++ values_of key (line ∷ [])
values_more key lines line = ap (map (λ (l : Line). l.value)) (filter-append (λ (l : Line). l.key == key) lines (line ∷ [])) ∙ map-append (λ (l : Line). l.value) _ _

pub values_stay : (key : ℕ) (lines : List Line) (line : Line) → (line.key == key) ≡ false → values_of key (lines ++ line ∷ []) ≡ values_of key lines
values_stay key lines line h = values_more key lines line ∙ ap (λ (vs : List (List ℕ)). values_of key lines ++ vs) (values_apart key line h) ∙ append-nil _

-- a line of another key leaves what is read of this one
pub kept : {X : Type 0} → (Reads : List ℕ → X → Type 0) (key : ℕ) (lines : List Line) (line : Line) (o : Option X) → (line.key == key) ≡ false → HasAtMostOne Reads key lines o → HasAtMostOne Reads key (lines ++ line ∷ []) o
kept Reads key lines line None h e = values_stay key lines line h ∙ e
kept Reads key lines line (Some x) h e = (e.0, values_stay key lines line h ∙ e.1, e.2)

pub kept_readable : {X : Type 0} → (Reads : List ℕ → X → Type 0) (key : ℕ) (lines : List Line) (line : Line) (o : Option X) → (line.key == key) ≡ false → HasAtMostOneReadable Reads key lines o → HasAtMostOneReadable Reads key (lines ++ line ∷ []) o
kept_readable Reads key lines line None h (inl e) = inl (values_stay key lines line h ∙ e)
kept_readable Reads key lines line None h (inr e) = inr (e.0, values_stay key lines line h ∙ e.1, e.2)
kept_readable Reads key lines line (Some x) h e = (e.0, values_stay key lines line h ∙ e.1, e.2)

pub kept_refs : (lines : List Line) (line : Line) (refs : List ExtRef) → (line.key == 88) ≡ false → HasReferences lines refs → HasReferences (lines ++ line ∷ []) refs
kept_refs lines line [] h e = values_stay 88 lines line h ∙ e
kept_refs lines line (r ∷ refs) h e = (e.0, values_stay 88 lines line h ∙ e.1, e.2)

-- no line, no value
none_read : {X : Type 0} → (Reads : List ℕ → X → Type 0) (key : ℕ) (lines : List Line) (o : Option X) → values_of key lines ≡ [] → HasAtMostOneReadable Reads key lines o → is_some o ≡ false
none_read Reads key lines None e h = refl
none_read Reads key lines (Some x) e h = absurd (let k : [] ≡ h.0 ∷ [] = sym e ∙ h.1 in cc k)

filter_same : (p q : Line → Bool) (key : ℕ) (lines : List Line) → ((line : Line) → (line.key == key) ≡ false → p line ≡ q line) → values_of key lines ≡ [] → filter p lines ≡ filter q lines
filter_same p q key [] same e = refl
filter_same p q key (line ∷ lines) same e = by_key (line.key == key) refl (filter_same p q key lines same) e
  where
    by_key : (b : Bool) → (line.key == key) ≡ b → (values_of key lines ≡ [] → filter p lines ≡ filter q lines) →
        map (λ l. l.value) (if b then line ∷ filter (λ l. l.key == key) lines else filter (λ l. l.key == key) lines) ≡ [] → filter p (line ∷ lines) ≡ filter q (line ∷ lines)
    by_key true is rest e = cc e
    by_key false is rest e = rw (same line is, rest e) refl

guid_apart : (origin : Bool) (line : Line) → (line.key == 71) ≡ false → is_unknown false origin line ≡ is_unknown true origin line
guid_apart origin line h = rw h refl

origin_apart : (guid : Bool) (line : Line) → (line.key == 66) ≡ false → is_unknown guid false line ≡ is_unknown guid true line
origin_apart true line h = rw h refl
origin_apart false line h = rw h refl

-- a line that isn't unknown adds nothing
known_adds_none : (p : Line → Bool) (lines : List Line) (line : Line) → p line ≡ false → flat_map line_text (filter p (lines ++ line ∷ [])) ≡ flat_map line_text (filter p lines)
known_adds_none p lines line h = ap (flat_map line_text) (filter-append p lines (line ∷ []) ∙ rw h (append-nil (filter p lines)))

guid_known : (origin : Bool) (value : List ℕ) → is_unknown true origin (meta_line 71 value) ≡ false
guid_known true value = refl
guid_known false value = refl

origin_known : (guid : Bool) (value : List ℕ) → is_unknown guid true (meta_line 66 value) ≡ false
origin_known true value = refl
origin_known false value = refl

pub one_value : (key : ℕ) (lines : List Line) (value : List ℕ) → (key == key) ≡ true → values_of key lines ≡ [] → values_of key (lines ++ meta_line key value ∷ []) ≡ value ∷ []
one_value key lines value same e = values_more key lines (meta_line key value) ∙ rw (e, same) refl

pub seen_stays : (b : Bool) (key : ℕ) (lines : List Line) (line : Line) → (line.key == key) ≡ false → HasSeen b key lines → HasSeen b key (lines ++ line ∷ [])
seen_stays true key lines line h seen = λ e. seen (sym (values_stay key lines line h) ∙ e)
seen_stays false key lines line h seen = values_stay key lines line h ∙ seen

-- a line with a GUID, where none stood before
pub guid_taken : (lines : List Line) (reader : Reader) (value : List ℕ) (guid : Guid) → IsLine (meta_line 71 value) → HasTaken lines reader → values_of 71 lines ≡ [] → IsGuidText value guid →
    MayFollow lines (meta_line 71 value) × HasTaken (lines ++ meta_line 71 value ∷ []) (record { meta = record reader.meta { guid = Some guid }; guid_seen = true; origin_seen = reader.origin_seen })
guid_taken lines reader value guid spelled taken none reads =
    let m = reader.meta in
    let line = meta_line 71 value in
    let said = taken.say in
    let no_guid = none_read IsGuidText 71 lines m.guid none said.guid in (
      record { spelled = spelled; once = λ known. none; number = λ h. cc h; references = λ h. absurd (omega (arith, h)) },
      record {
        say = record {
          received = kept IsNumberText 82 lines line m.received refl said.received;
          physical = kept IsNumberText 90 lines line m.physical refl said.physical;
          virtual_size = kept IsNumberText 86 lines line m.virtual_size refl said.virtual_size;
          guid = (value, one_value 71 lines value refl none, reads);
          origin = kept_readable IsOriginText 66 lines line m.origin refl said.origin;
          refs = kept_refs lines line m.refs refl said.refs;
          unknown = said.unknown
              ∙ ap (λ (b : Bool). flat_map line_text (filter (is_unknown b (is_some m.origin)) lines)) no_guid
              ∙ ap (flat_map line_text) (filter_same (is_unknown false (is_some m.origin)) (is_unknown true (is_some m.origin)) 71 lines (guid_apart (is_some m.origin)) none)
              ∙ sym (known_adds_none (is_unknown true (is_some m.origin)) lines line (guid_known (is_some m.origin) value));
        };
        guid = λ e. let k : value ∷ [] ≡ [] = sym (one_value 71 lines value refl none) ∙ e in cc k;
        origin = seen_stays reader.origin_seen 66 lines line refl taken.origin;
      },
    )

-- a line with a mailbox of origin, where none stood before
pub origin_taken : (lines : List Line) (reader : Reader) (value name : List ℕ) → IsLine (meta_line 66 value) → HasTaken lines reader → values_of 66 lines ≡ [] → IsOriginText value name →
    MayFollow lines (meta_line 66 value) × HasTaken (lines ++ meta_line 66 value ∷ []) (record { meta = record reader.meta { origin = Some name }; guid_seen = reader.guid_seen; origin_seen = true })
origin_taken lines reader value name spelled taken none reads =
    let m = reader.meta in
    let line = meta_line 66 value in
    let said = taken.say in
    let no_origin = none_read IsOriginText 66 lines m.origin none said.origin in (
      record { spelled = spelled; once = λ known. none; number = λ h. cc h; references = λ h. absurd (omega (arith, h)) },
      record {
        say = record {
          received = kept IsNumberText 82 lines line m.received refl said.received;
          physical = kept IsNumberText 90 lines line m.physical refl said.physical;
          virtual_size = kept IsNumberText 86 lines line m.virtual_size refl said.virtual_size;
          guid = kept_readable IsGuidText 71 lines line m.guid refl said.guid;
          origin = (value, one_value 66 lines value refl none, reads);
          refs = kept_refs lines line m.refs refl said.refs;
          unknown = said.unknown
              ∙ ap (λ (b : Bool). flat_map line_text (filter (is_unknown (is_some m.guid) b) lines)) no_origin
              ∙ ap (flat_map line_text) (filter_same (is_unknown (is_some m.guid) false) (is_unknown (is_some m.guid) true) 66 lines (origin_apart (is_some m.guid)) none)
              ∙ sym (known_adds_none (is_unknown (is_some m.guid) true) lines line (origin_known (is_some m.guid) value));
        };
        guid = seen_stays reader.guid_seen 71 lines line refl taken.guid;
        origin = λ e. let k : value ∷ [] ≡ [] = sym (one_value 66 lines value refl none) ∙ e in cc k;
      },
    )

pub found_guid : (lines : List Line) (reader : Reader) (value : List ℕ) (found : Option Guid) → IsLine (meta_line 71 value) → HasTaken lines reader → values_of 71 lines ≡ [] → IfSome found (IsGuidText value) → is_some found ≡ true →
    MayFollow lines (meta_line 71 value) × HasTaken (lines ++ meta_line 71 value ∷ []) (record { meta = record reader.meta { guid = found }; guid_seen = true; origin_seen = reader.origin_seen })
found_guid lines reader value None spelled taken none reads some = cc some
found_guid lines reader value (Some guid) spelled taken none reads some = guid_taken lines reader value guid spelled taken none reads

pub found_origin : (lines : List Line) (reader : Reader) (value : List ℕ) (found : Option (List ℕ)) → IsLine (meta_line 66 value) → HasTaken lines reader → values_of 66 lines ≡ [] → IfSome found (λ n. (n ≡ value) × IsName value) → is_some found ≡ true →
    MayFollow lines (meta_line 66 value) × HasTaken (lines ++ meta_line 66 value ∷ []) (record { meta = record reader.meta { origin = found }; guid_seen = reader.guid_seen; origin_seen = true })
found_origin lines reader value None spelled taken none reads some = cc some
found_origin lines reader value (Some name) spelled taken none reads some = origin_taken lines reader value name spelled taken none (record { same = sym reads.0; fits = reads.1 })
