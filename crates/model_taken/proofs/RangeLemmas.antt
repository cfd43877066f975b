-- The numbers, names and ids of a message that is taken are in range.
use Rattle.std.specs.Prelude.{◌≡◌, ◌≤◌, ◌<◌, ◌+◌, ◌-◌, ◌^◌, ℕ, zero, suc, List, [], ◌∷◌, length, map, codes, Option, Some, None}
use Rattle.std.specs.List.{AllByRecursion}
use Rattle.std.specs.Option.{option_map_or}
use Rattle.std.proofs.Common.{sym, ◌∙◌, ap, subst, arith, lit<, length-append}
use Rattle.hex.proofs.HexLemmas.{decode_of-ok}
use Rattle.mdbox_base.specs.Words.{IsName}
use Rattle.mdbox_base.specs.declared.ids.Guid.{Guid}
use Rattle.mdbox_base.specs.declared.metadata.ExtRef.{ExtRef}
use Rattle.mdbox_base.specs.declared.metadata.LineForm.{LineForm}
use Rattle.model_attach.specs.Rejoined.{part_text, IsWholeFrom}
use Rattle.model_base64.specs.Base64Text.{in_lines, line_break, padded}
use Rattle.model_base64.proofs.Base64Lemmas.{length-padded}
use Rattle.model_logs.specs.Entries.{RowInRange}
use Rattle.model_octets.proofs.HexTextLemmas.{hex_below}
use Rattle.model_storage.specs.Metadata.{HasAtMostOne, HasAtMostOneReadable, HasReferences, IsGuidText, IsNumberText, IsOriginText}
use Rattle.model_storage.specs.References.{ReferenceFits}
use Rattle.model_storage.specs.StorageFile.{Line}
use Rattle.model_store.proofs.StoreExampleLemmas.{inbox_is_name}
use Rattle.model_store.specs.Stands.{NameInstances}
use Rattle.model_taken.specs.NamedInstances.{InstanceFound}
use Rattle.model_taken.specs.Taken.{TakenMessage}

-- The GUID has 16 octets, the time 64 bits; the mailbox has a name; the instances are few, and their hashes, ids and sizes in range.
pub record TakenInRange (t : TakenMessage) : Type 0 where
  pub guid : length t.guid ≡ 16
  pub time : t.time < 2 ^ 64
  pub mailbox : IsName t.mailbox
  pub few : length t.instances < 2 ^ 16
  pub rows : AllByRecursion RowInRange t.instances

-- ---- what lines say

pub time_fits : (lines : List Line) (o : Option ℕ) → HasAtMostOne IsNumberText 82 lines o → option_map_or (λ time. time) o 0 < 2 ^ 64
time_fits lines None h = lit< tt
time_fits lines (Some time) h = hex_below h.0 time h.2

pub mailbox_fits : (lines : List Line) (o : Option (List ℕ)) → HasAtMostOneReadable IsOriginText 66 lines o → IsName (option_map_or (λ name. name) o (codes "INBOX"))
mailbox_fits lines None h = inbox_is_name
mailbox_fits lines (Some name) h = subst IsName h.2.same h.2.fits

guid_long : (lines : List Line) (guid : Guid) → HasAtMostOneReadable IsGuidText 71 lines (Some guid) → length guid.0 ≡ 16
guid_long lines guid h =
    let digits = h.2.length in
    let twice = (decode_of-ok h.0 guid.0 h.2.octets).2 in
    omega (arith, digits, twice)

pub guid_fits : (lines : List Line) (o : Option Guid) (guid : Guid) → o ≡ Some guid → HasAtMostOneReadable IsGuidText 71 lines o → length guid.0 ≡ 16
guid_fits lines o guid e h = guid_long lines guid (subst (λ (x : Option Guid). HasAtMostOneReadable IsGuidText 71 lines x) e h)

pub references_fit : (lines : List Line) (refs : List ExtRef) → HasReferences lines refs → AllByRecursion ReferenceFits refs
references_fit lines [] h = tt
references_fit lines (ref ∷ refs) h = h.2.fit

-- ---- instances

lines_long : (n : ℕ) (break : List ℕ) (fit : ℕ) (cs : List ℕ) → length cs ≤ length (in_lines n break fit cs)
unfolding in_lines
lines_long n break fit [] = omega arith
lines_long n break zero (c ∷ cs) =
    let rest = lines_long n break (n - 1) cs in
    let l = length-append break (c ∷ in_lines n break (n - 1) cs) in
    omega (arith, rest, l)
lines_long n break (suc fit) (c ∷ cs) = let rest = lines_long n break fit cs in omega (arith, rest)

-- the text of an instance is no shorter than its octets
text_long : (form : Option LineForm) (octets : List ℕ) → length octets ≤ length (part_text form octets)
text_long None octets = omega arith
text_long (Some form) octets =
    let characters = length-padded octets in
    let text = lines_long form.length (line_break form.crlf) form.length (padded octets) in
    omega (arith, characters, text)

-- the sizes of rows are those of the octets
abbrev pub HasItsSize : InstanceFound → Type 0
HasItsSize i = i.row.size ≡ length i.octets

-- The rows of instances that fill the ranges of references, one for each.
pub rows_fit : (place : ℕ) (whole body : List ℕ) (refs : List ExtRef) (found : List InstanceFound) → IsWholeFrom place whole body refs (map (λ i. i.octets) found) → AllByRecursion ReferenceFits refs
    → NameInstances refs (map (λ i. i.row) found) → AllByRecursion HasItsSize found → AllByRecursion RowInRange (map (λ i. i.row) found) × (length (map (λ i. i.row) found) ≡ length refs)
rows_fit place whole body [] [] is fit names sizes = (tt, omega arith)
rows_fit place whole body [] (i ∷ found) is fit names sizes = absurd names
rows_fit place whole body (ref ∷ refs) [] is fit names sizes = absurd names
rows_fit place whole body (ref ∷ refs) (i ∷ found) is fit names sizes =
    let rest = rows_fit (ref.start + ref.count) is.1 is.2 refs found is.7 fit.1 names.2 sizes.1 in
    let hash : length i.row.hash.0 ≡ 20 = sym (ap (λ h. length h.0) names.0) ∙ fit.0.hash_length in
    let id : length i.row.id.0 ≡ 16 = sym (ap (λ h. length h.0) names.1) ∙ fit.0.id_length in
    let short = fit.0.count in
    let counted = is.6 in
    let long = text_long ref.form i.octets in
    let size = sizes.0 in
    let all = rest.1 in
    (((hash, id, omega (arith, short, counted, long, size)), rest.0), omega (arith, all))
