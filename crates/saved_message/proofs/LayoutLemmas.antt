-- Metadata lines laid out in two parts, and the region of them.
use Rattle.std.proofs.Common.{◌≡◌, ◌==◌, ◌≤◌, ◌<◌, ◌+◌, ◌^◌, ℕ, List, [], ◌++◌, refl, sym, ◌∙◌, ap, subst, append_assoc, append-nil, arith, length, length-append, map}
use Rattle.std.specs.Prelude.{flat_map}
use Rattle.std.specs.List.{AllByRecursion}
use Rattle.mdbox_base.specs.Words.{IsName}
use Rattle.mdbox_base.specs.declared.ids.InstId.{InstId}
use Rattle.model_storage.specs.Metadata.{IsMetadataText, known_lines, metadata_text}
use Rattle.model_storage.specs.References.{ReferenceFits, reference_text}
use Rattle.model_storage.specs.StorageFile.{Line, AreLines, line_text}
use Rattle.model_storage.specs.WrittenFile.{written_message}
use Rattle.model_storage.specs.declared.metadata_value.Metadata.{Metadata}
use Rattle.dbox_metadata.specs.MadeMetadata.{IsMadeMetadata}
use Rattle.attach_detach.specs.Prepared.{IsPrepared}
use Rattle.attach_detach.specs.declared.message.Detached.{Detached}
use Rattle.attach_detach.specs.declared.message.Prepared.{Prepared}
use Rattle.saved_message.specs.Laid.{IsLaid}
use Rattle.saved_message.specs.Layout.{metadata_of_names, metadata_of_numbers}
use Rattle.saved_message.specs.Region.{reference_to, references_naming, unknown_guid, unknown_id, unknown_ids, written_metadata}
use Rattle.saved_message.proofs.ReferenceLemmas.{unknown_are_ids, unknown_one_each, zeros_are_sixteen}
use Rattle.saved_message.proofs.StoredLemmas.{can_be_made, lines_short}
use Rattle.saved_message.specs.Saved.{CanBeWritten}
use Rattle.saved_message.proofs.RegionLemmas.{names_lines, numbers_text, other_small, texts_apart, written_as}

-- the law of made metadata
abbrev pub MadeIsSaid : Type 0
MadeIsSaid = (meta : Metadata) → IsMadeMetadata meta → IsMetadataText (metadata_text meta) meta

pub numbers_made : (time : ℕ) (p : Prepared) → time < 2 ^ 64 → p.whole < 2 ^ 64 → p.virtual_size < 2 ^ 64 → IsMadeMetadata (metadata_of_numbers time p)
numbers_made time p timed whole few = record {
  received = timed;
  physical = other_small (p.whole == length p.body) p.whole whole;
  virtual_size = few;
  guid = tt;
  origin = tt;
  refs = tt;
  unknown = refl;
}

pub names_made : (name : List ℕ) (parts : List Detached) → IsName name → AllByRecursion ReferenceFits (references_naming parts (unknown_ids parts)) → IsMadeMetadata (metadata_of_names name parts (unknown_ids parts) unknown_guid)
names_made name parts named fit = record {
  received = tt;
  physical = tt;
  virtual_size = tt;
  guid = (zeros_are_sixteen.long, zeros_are_sixteen.each);
  origin = named;
  refs = fit;
  unknown = refl;
}

pub numbers_written : (time : ℕ) (p : Prepared) → metadata_text (metadata_of_numbers time p) ≡ numbers_text time p
numbers_written time p = append-nil (numbers_text time p)

-- the lines in two parts are those of the whole
pub lines_written : (name : List ℕ) (time : ℕ) (p : Prepared) (ids : List InstId) (guid : List ℕ) → metadata_text (metadata_of_numbers time p) ++ metadata_text (metadata_of_names name p.parts ids guid) ≡ metadata_text (written_metadata name time p ids guid)
lines_written name time p ids guid =
    let n : List ℕ = numbers_text time p in
    let m : List ℕ = flat_map line_text (names_lines name p ids guid) in
    ap (λ (x : List ℕ). x ++ (m ++ [])) (append-nil n) ∙ (sym (append_assoc n m []) ∙ ap (λ (x : List ℕ). x ++ []) (sym (texts_apart name time p ids guid)))

-- ---- the region

pub laid_out : (name : List ℕ) (time : ℕ) (message : List ℕ) (p : Prepared) (text out : List ℕ) (before at refs_at : ℕ) (sizes : List ℕ) → MadeIsSaid → CanBeWritten name time message p → text ≡ metadata_text (written_metadata name time p (unknown_ids p.parts) unknown_guid)
    → before ≡ length (numbers_text time p) → at ≡ 34 + length p.body + before + 1 → refs_at ≡ at + 32 + 3 + length name → sizes ≡ map (λ d. length (reference_text (reference_to d unknown_id))) p.parts
    → ((rows : List Line) → AreLines text rows → out ≡ written_message (record { body = p.body; lines = rows }))
    → IsLaid name time p (unknown_ids p.parts) unknown_guid (record { region = out; guid_at = at; refs_at = refs_at; sizes = sizes })
laid_out name time message p text out before at refs_at sizes law can text_is before_is at_is refs_is sizes_are pushed =
    let m : Metadata = written_metadata name time p (unknown_ids p.parts) unknown_guid in
    let said : IsMetadataText (metadata_text m) m = law m (can_be_made name time message p (unknown_ids p.parts) unknown_guid can (unknown_are_ids p.parts) zeros_are_sixteen) in
    record {
      region = pushed said.lines (subst (λ (t : List ℕ). AreLines t said.lines) (sym text_is) said.are)
          ∙ written_as p.body said.lines (known_lines m) (sym said.are.spelled ∙ append-nil (flat_map line_text (known_lines m)));
      one_each = unknown_one_each p.parts;
      ids_fit = unknown_are_ids p.parts;
      guid_fits = zeros_are_sixteen;
      guid_begins = omega (arith, before_is, at_is);
      refs_begin = omega (arith, before_is, at_is, refs_is);
      sizes = sizes_are;
    }

-- what its lines are, before
pub unknown_lines : (name : List ℕ) (time : ℕ) (message : List ℕ) (p : Prepared) (text : List ℕ) → MadeIsSaid → CanBeWritten name time message p → text ≡ metadata_text (written_metadata name time p (unknown_ids p.parts) unknown_guid)
    → (rows : List Line) × AreLines text rows
unknown_lines name time message p text law can text_is =
    let m : Metadata = written_metadata name time p (unknown_ids p.parts) unknown_guid in
    let said : IsMetadataText (metadata_text m) m = law m (can_be_made name time message p (unknown_ids p.parts) unknown_guid can (unknown_are_ids p.parts) zeros_are_sixteen) in
    (said.lines, subst (λ (t : List ℕ). AreLines t said.lines) (sym text_is) said.are)

pub unknown_short : (name : List ℕ) (time : ℕ) (message : List ℕ) (p : Prepared) (text : List ℕ) → CanBeWritten name time message p → text ≡ metadata_text (written_metadata name time p (unknown_ids p.parts) unknown_guid) → length text ≤ 55642
unknown_short name time message p text can text_is =
    let meta : Metadata = written_metadata name time p (unknown_ids p.parts) unknown_guid in
    let short = lines_short name time message p (unknown_ids p.parts) unknown_guid can (unknown_one_each p.parts) (unknown_are_ids p.parts) zeros_are_sixteen in
    let all : length text ≡ length (flat_map line_text (known_lines meta)) = ap length (text_is ∙ append-nil (flat_map line_text (known_lines meta))) in
    omega (arith, short, all)

-- the lines before the GUID's are a front of the lines
pub numbers_short : (name : List ℕ) (time : ℕ) (message : List ℕ) (p : Prepared) (text : List ℕ) → CanBeWritten name time message p → text ≡ metadata_text (written_metadata name time p (unknown_ids p.parts) unknown_guid) → length (numbers_text time p) ≤ 55642
numbers_short name time message p text can text_is =
    let short = unknown_short name time message p text can text_is in
    let n : List ℕ = numbers_text time p in
    let m : List ℕ = metadata_text (metadata_of_names name p.parts (unknown_ids p.parts) unknown_guid) in
    let all = ap length (text_is ∙ sym (lines_written name time p (unknown_ids p.parts) unknown_guid)) in
    let l = length-append (metadata_text (metadata_of_numbers time p)) m in
    let s = ap length (numbers_written time p) in
    omega (arith, short, all, l, s)

-- a message that is to be laid out can be written
pub can_be_laid : (name shown : List ℕ) (time : ℕ) (p : Prepared) → shown ≡ name → IsName shown → time < 2 ^ 64 → (message : List ℕ) × (length message ≤ 67108864) × IsPrepared message p → (message : List ℕ) × CanBeWritten name time message p
can_be_laid name shown time p same named timed h = (h.0, record { named = subst IsName same named; timed = timed; small = h.1; form = h.2 })

-- ---- the lines, as they are pushed

pub first_pushed : (time : ℕ) (p : Prepared) (empty first : List ℕ) (numbers : Metadata) → empty ≡ [] → numbers ≡ metadata_of_numbers time p → first ≡ empty ++ metadata_text numbers → first ≡ metadata_text (metadata_of_numbers time p)
first_pushed time p empty first numbers e n f = f ∙ (ap (λ (x : List ℕ). x ++ metadata_text numbers) e ∙ ap metadata_text n)

pub lines_pushed : (name shown : List ℕ) (time : ℕ) (p : Prepared) (parts : List Detached) (empty first second : List ℕ) (numbers names : Metadata) → empty ≡ [] → numbers ≡ metadata_of_numbers time p → names ≡ metadata_of_names shown parts (unknown_ids parts) unknown_guid
    → shown ≡ name → parts ≡ p.parts → first ≡ empty ++ metadata_text numbers → second ≡ first ++ metadata_text names → second ≡ metadata_text (written_metadata name time p (unknown_ids p.parts) unknown_guid)
lines_pushed name shown time p parts empty first second numbers names e n m same parts_same f s =
    let named : names ≡ metadata_of_names name p.parts (unknown_ids p.parts) unknown_guid =
    m ∙ (ap (λ (x : List ℕ). metadata_of_names x parts (unknown_ids parts) unknown_guid) same ∙ ap (λ (x : List Detached). metadata_of_names name x (unknown_ids x) unknown_guid) parts_same) in
    s ∙ (ap (λ (x : List ℕ). x ++ metadata_text names) (first_pushed time p empty first numbers e n f)
    ∙ (ap (λ (x : Metadata). metadata_text (metadata_of_numbers time p) ++ metadata_text x) named ∙ lines_written name time p (unknown_ids p.parts) unknown_guid))
