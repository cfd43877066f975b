-- A saved region stores its message, in its detached form.
use Rattle.std.proofs.Common.{◌≡◌, ◌≤◌, ◌+◌, ◌==◌, ◌&&◌, ℕ, Bool, true, false, cond, not, List, [], ◌∷◌, ◌++◌, refl, sym, ◌∙◌, ap, subst, append-nil, arith, length, length-append, map, take, drop, All, Option, Some, None, eqb-true}
use Rattle.std.specs.Prelude.{flat_map, if◌then◌else◌}
use Rattle.std.specs.Option.{option_map_or}
use Rattle.std.proofs.lemmas.List.Elements.{All-head, All-map, All-nil, All-cons, All-tail}
use Rattle.sha1.specs.Sha1.{sha1}
use Rattle.disk_model.specs.Disk.{Files}
use Rattle.disk_model.specs.declared.name.FileName.TheVariants as file
use Rattle.mdbox_base.specs.declared.entries.InstRow.{InstRow}
use Rattle.mdbox_base.specs.declared.ids.Hash.{Hash}
use Rattle.mdbox_base.specs.declared.ids.InstId.{InstId}
use Rattle.mdbox_base.specs.declared.metadata.ExtRef.{ExtRef}
use Rattle.model_attach.proofs.DetachedLemmas.{whole_of_detached}
use Rattle.model_attach.specs.Detached.{AreDetached}
use Rattle.model_attach.specs.VirtualSize.{bare_breaks}
use Rattle.model_meaning.specs.MapMeaning.{MapRecord}
use Rattle.model_storage.proofs.MetadataLemmas.{metadata_same}
use Rattle.model_storage.proofs.WrittenFileLemmas.{written_message_spells}
use Rattle.model_storage.specs.Metadata.{IsMetadata, IsMetadataText, known_lines, metadata_text}
use Rattle.model_storage.specs.StorageFile.{Message, IsMessage, line_text}
use Rattle.model_storage.specs.WrittenFile.{written_message}
use Rattle.model_storage.specs.declared.metadata_value.Metadata.{Metadata}
use Rattle.model_storage.proofs.FileLemmas.{message_same}
use Rattle.model_store.proofs.StandsLemmas.{instances_same, kept_same}
use Rattle.model_store.specs.Stands.{StoresMessage, NameInstances, HasInstances}
use Rattle.dbox_metadata.proofs.MadeLemmas.{made_is_said}
use Rattle.dbox_metadata.proofs.ShortLemmas.{made_short}
use Rattle.dbox_metadata.specs.MadeMetadata.{IsMadeMetadata}
use Rattle.attach_detach.proofs.NamingLemmas.{are_detached}
use Rattle.attach_detach.specs.Prepared.{HasHash}
use Rattle.attach_detach.specs.declared.message.Detached.{Detached}
use Rattle.attach_detach.specs.declared.message.Prepared.{Prepared}
use Rattle.saved_message.specs.Laid.{AreSixteen, IsLaid, LaidValue}
use Rattle.saved_message.specs.Region.{references_naming, written_metadata, written_region}
use Rattle.saved_message.specs.Saved.{AreInstancesOf, CanBeWritten, HasWritten, ids_in}
use Rattle.saved_message.proofs.ReferenceLemmas.{AreIds, body_short, names_parts, parts_few, prepared_fit, references_long}
use Rattle.saved_message.proofs.RegionLemmas.{header_front, written_as, written_is_made}

few_breaks : (before : ℕ) (octets : List ℕ) → bare_breaks before octets ≤ length octets
few_breaks before [] = omega arith
few_breaks before (c ∷ rest) = let k = few_breaks c rest in let b = at_most_one (c == 10 && not (before == 13)) in omega (arith, k, b)
  where
    at_most_one : (b : Bool) → cond b 1 0 ≤ 1
    at_most_one true = omega arith
    at_most_one false = omega arith

-- ---- its lines

pub can_be_made : (name : List ℕ) (time : ℕ) (message : List ℕ) (p : Prepared) (ids : List InstId) (guid : List ℕ) → CanBeWritten name time message p → AreIds ids → AreSixteen guid → IsMadeMetadata (written_metadata name time p ids guid)
can_be_made name time message p ids guid can are sixteen =
    let small = can.small in
    let whole = can.form.whole in
    let virtual = can.form.virtual in
    let few = few_breaks 0 message in
    written_is_made name time p ids guid can.named can.timed (omega (arith, small, whole)) (omega (arith, small, virtual, few)) sixteen (prepared_fit message p ids can.small can.form are)

-- they are short
pub lines_short : (name : List ℕ) (time : ℕ) (message : List ℕ) (p : Prepared) (ids : List InstId) (guid : List ℕ) → CanBeWritten name time message p → length ids ≡ length p.parts → AreIds ids → AreSixteen guid
    → length (flat_map line_text (known_lines (written_metadata name time p ids guid))) ≤ 55642
lines_short name time message p ids guid can one are sixteen =
    let meta : Metadata = written_metadata name time p ids guid in
    let short = made_short meta (can_be_made name time message p ids guid can are sixteen) in
    let same : length (metadata_text meta) ≡ length (flat_map line_text (known_lines meta)) = ap length (append-nil (flat_map line_text (known_lines meta))) in
    let few = parts_few message p can.small can.form in
    let many = references_long p.parts ids one in
    omega (arith, short, same, few, many)

region_long : (name : List ℕ) (time : ℕ) (p : Prepared) (ids : List InstId) (guid : List ℕ) → length (written_region name time p ids guid) ≡ length p.body + (35 + length (flat_map line_text (known_lines (written_metadata name time p ids guid))))
region_long name time p ids guid =
    let lines : List ℕ = flat_map line_text (known_lines (written_metadata name time p ids guid)) in
    let tail : List ℕ = 10 ∷ 1 ∷ 3 ∷ 10 ∷ (lines ++ 10 ∷ []) in
    let a = length-append (header_front p.body) (p.body ++ tail) in
    let b = length-append p.body tail in
    let c = length-append lines (10 ∷ []) in
    let d : length (header_front p.body) ≡ 30 = refl in
    omega (arith, a, b, c, d)

pub laid_short : (name : List ℕ) (time : ℕ) (message : List ℕ) (p : Prepared) (ids : List InstId) (guid : List ℕ) (laid : LaidValue) → CanBeWritten name time message p → IsLaid name time p ids guid laid → (1 ≤ length laid.region) × (length laid.region ≤ 67164541)
laid_short name time message p ids guid laid can is =
    let all = ap length is.region in
    let r = region_long name time p ids guid in
    let l = lines_short name time message p ids guid can is.one_each is.ids_fit is.guid_fits in
    let b = body_short message p can.form in
    let s = can.small in (omega (arith, all, r), omega (arith, all, r, l, b, s))

-- ---- its instances

instances_one_each : (parts : List Detached) (rows : List InstRow) → AreInstancesOf parts rows → length (ids_in rows) ≡ length parts
instances_one_each [] [] h = refl
instances_one_each [] (row ∷ rows) h = absurd h
instances_one_each (d ∷ parts) [] h = absurd h
instances_one_each (d ∷ parts) (row ∷ rows) h = let rest = instances_one_each parts rows h.1 in omega (arith, rest)

references_name : (parts : List Detached) (rows : List InstRow) → AreInstancesOf parts rows → NameInstances (references_naming parts (ids_in rows)) rows
references_name [] [] h = tt
references_name [] (row ∷ rows) h = absurd h
references_name (d ∷ parts) [] h = absurd h
references_name (d ∷ parts) (row ∷ rows) h = (sym h.0, refl, references_name parts rows h.1)

some_same : {X : Type 0} → (o : Option X) (a b : X) → o ≡ Some a → o ≡ Some b → a ≡ b
some_same o a b p q = let h : Some a ≡ Some b = sym p ∙ q in cc h

abbrev octets_in_parts : List Detached → List (List ℕ)
octets_in_parts parts = map (λ d. d.octets) parts

abbrev HasOwnHash : Files → InstRow → Type 0
HasOwnHash files inst = (octets : List ℕ) → files (file.Inst inst.hash.0 inst.id.0) ≡ Some octets → inst.hash.0 ≡ sha1 octets

own_hash : (files : Files) (d : Detached) (row : InstRow) → row.hash ≡ d.hash → HasHash d → files (file.Inst row.hash.0 row.id.0) ≡ Some d.octets → HasOwnHash files row
own_hash files d row same has there octets is =
    let o : d.octets ≡ octets = some_same (files (file.Inst row.hash.0 row.id.0)) d.octets octets there is in
    ap (λ (h : Hash). h.0) (same ∙ has) ∙ ap sha1 o

pub hashes_own : (files : Files) (parts : List Detached) (rows : List InstRow) → AreInstancesOf parts rows → All HasHash parts → HasInstances files rows (octets_in_parts parts) → All (HasOwnHash files) rows
hashes_own files [] [] h has there = All-nil (HasOwnHash files)
hashes_own files [] (row ∷ rows) h has there = absurd h
hashes_own files (d ∷ parts) [] h has there = absurd h
hashes_own files (d ∷ parts) (row ∷ rows) h has there =
    All-cons (HasOwnHash files) row rows (own_hash files d row h.0 (All-head HasHash d parts has) there.0) (hashes_own files parts rows h.1 (All-tail HasHash d parts has) there.1)

-- ---- stored

size_of_whole : (same : Bool) (whole stored : ℕ) → (whole == stored) ≡ same → whole ≡ option_map_or (λ size. size) (if same then None else Some whole) stored
size_of_whole true whole stored e = eqb-true whole stored e
size_of_whole false whole stored e = refl

row_ids : (rows : List InstRow) → All (λ inst. AreSixteen inst.id.0) rows → AreIds (ids_in rows)
row_ids rows are = All-map (λ (i : InstId). AreSixteen i.0) (λ (r : InstRow). r.id) rows are

pub written_stores : (files : Files) (row : MapRecord) (name : List ℕ) (time : ℕ) (message : List ℕ) (p : Prepared) → CanBeWritten name time message p → HasWritten files row name time p
    → (kept : StoresMessage files row message) × AreDetached message kept.stored.message.body kept.stored.meta.refs kept.instances
written_stores files row name time message p can has = (
  record {
    stored = record {
      octets_there = has.there;
      message = stored;
      meta = meta;
      there = has.in_file;
      inside = has.inside;
      region = subst (λ (x : List ℕ). IsMessage x stored) (written ∙ sym has.region) spells;
      says = said.say;
      guid = refl;
    };
    instances = octets_in_parts p.parts;
    names = references_name p.parts row.instances has.instances;
    found = has.octets;
    whole = whole_of_detached message p.body refs (octets_in_parts p.parts) detached;
    size = sym can.form.whole ∙ size_of_whole (p.whole == length p.body) p.whole (length p.body) refl;
  },
  detached,
)
  where
    ids : List InstId
    ids = ids_in row.instances

    one_each : length ids ≡ length p.parts
    one_each = instances_one_each p.parts row.instances has.instances

    are : AreIds ids
    are = row_ids row.instances has.ids

    meta : Metadata
    meta = written_metadata name time p ids row.guid

    refs : List ExtRef
    refs = references_naming p.parts ids

    made : IsMadeMetadata meta
    made = can_be_made name time message p ids row.guid can are has.guid

    said : IsMetadataText (metadata_text meta) meta
    said = made_is_said meta made

    stored : Message
    stored = record { body = p.body; lines = said.lines }

    written : written_message stored ≡ written_region name time p ids row.guid
    written = written_as p.body said.lines (known_lines meta) (sym said.are.spelled ∙ append-nil (flat_map line_text (known_lines meta)))

    spells : IsMessage (written_message stored) stored
    spells = written_message_spells stored (record {
      size = (let small = can.small in let body = body_short message p can.form in omega (arith, small, body));
      each = said.are.each;
      block = (let short = lines_short name time message p ids row.guid can one_each are has.guid in let same : length (flat_map line_text (known_lines meta)) ≡ length (flat_map line_text said.lines) = ap length (sym (append-nil (flat_map line_text (known_lines meta))) ∙ said.are.spelled) in omega (arith, short, same));
    })

    detached : AreDetached message p.body refs (octets_in_parts p.parts)
    detached = are_detached message p refs can.form (names_parts p.parts ids one_each)

-- ---- however it is read

detached_along : (m1 m2 b1 b2 : List ℕ) (r1 r2 : List ExtRef) (i1 i2 : List (List ℕ)) → m1 ≡ m2 → b1 ≡ b2 → r1 ≡ r2 → i1 ≡ i2 → AreDetached m1 b1 r1 i1 → AreDetached m2 b2 r2 i2
detached_along m1 m2 b1 b2 r1 r2 i1 i2 m b r i h =
    subst (λ (x : List ℕ). AreDetached x b2 r2 i2) m (subst (λ (x : List ℕ). AreDetached m1 x r2 i2) b (subst (λ (x : List ExtRef). AreDetached m1 b1 x i2) r (subst (λ (x : List (List ℕ)). AreDetached m1 b1 r1 x) i h)))

region_one : (f g : List ℕ) (row : MapRecord) (m n : Message) → f ≡ g → IsMessage (take row.size (drop row.offset f)) m → IsMessage (take row.size (drop row.offset g)) n → m ≡ n
region_one f g row m n e a b = (message_same _ _ [] [] m n (subst (λ (o : List ℕ). IsMessage (take row.size (drop row.offset o)) m) e a) b refl).1

pub kept_detached : (files : Files) (row : MapRecord) (message octets : List ℕ) (mine : StoresMessage files row message) → AreDetached message mine.stored.message.body mine.stored.meta.refs mine.instances
    → (kept : StoresMessage files row octets) → AreDetached octets kept.stored.message.body kept.stored.meta.refs kept.instances
kept_detached files row message octets mine detached kept =
    let there = some_same (files (file.Mail row.file)) mine.stored.octets_there kept.stored.octets_there mine.stored.there kept.stored.there in
    let m = region_one mine.stored.octets_there kept.stored.octets_there row mine.stored.message kept.stored.message there mine.stored.region kept.stored.region in
    let meta = metadata_same kept.stored.message.lines mine.stored.meta kept.stored.meta (subst (λ (o : Message). IsMetadata o.lines mine.stored.meta) m mine.stored.says) kept.stored.says in
    let i = instances_same files row.instances mine.instances kept.instances mine.found kept.found in
    detached_along message octets mine.stored.message.body kept.stored.message.body mine.stored.meta.refs kept.stored.meta.refs mine.instances kept.instances (kept_same files row message octets mine kept)
    (ap (λ (o : Message). o.body) m) (ap (λ (o : Metadata). o.refs) meta) i detached

pub written_detached : (files : Files) (row : MapRecord) (name : List ℕ) (time : ℕ) (message : List ℕ) (p : Prepared) → CanBeWritten name time message p → HasWritten files row name time p
    → (octets : List ℕ) (kept : StoresMessage files row octets) → AreDetached octets kept.stored.message.body kept.stored.meta.refs kept.instances
written_detached files row name time message p can has octets kept = let mine = written_stores files row name time message p can has in kept_detached files row message octets mine.0 mine.1 kept
