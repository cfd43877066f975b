-- What becomes of a message whose instances are there.
use Rattle.std.proofs.Common.{refl, ◌≡◌, ◌-◌, ℕ, Bool, true, false, List, [], ◌∷◌, map, length, sym, ◌∙◌, ap, subst, arith, Option, Some, None, Ok, Err}
use Rattle.std.proofs.lemmas.List.{length-map}
use Rattle.std.proofs.lemmas.List.Elements.{All-contains}
use Rattle.std.specs.Option.{option_map}
use Rattle.std.specs.Prelude.{All, IfSome, if◌then◌else◌}
use Rattle.std.specs.Str.{bytes_eq}
use Rattle.disk_model.specs.Disk.{DiskState, Files}
use Rattle.disk_model.specs.declared.name.FileName.TheVariants as file
use Rattle.mdbox_base.specs.declared.entries.InstRow.{InstRow}
use Rattle.mdbox_base.specs.declared.ids.Guid.{Guid}
use Rattle.mdbox_base.specs.declared.metadata.ExtRef.{ExtRef}
use Rattle.model_attach.specs.Rejoined.{IsWhole, join_error}
use Rattle.model_attach.specs.declared.join_error.JoinError.{JoinError}
use Rattle.model_base64.specs.Base64Text.{IsForm}
use Rattle.model_found.specs.declared.reason.Reason.{Reason}
use Rattle.model_found.specs.declared.reason.Reason.TheVariants as reason
use Rattle.model_octets.proofs.SearchLemmas.{found_one}
use Rattle.model_storage.specs.declared.metadata_value.Metadata.{Metadata}
use Rattle.model_storage.specs.declared.places.MessageAt.{MessageAt}
use Rattle.model_storage.specs.Metadata.{IsMetadata}
use Rattle.model_storage.specs.StorageFile.{Message}
use Rattle.model_store.specs.Settled.{files_of}
use Rattle.model_store.specs.Stands.{whole_size}
use Rattle.model_taken.specs.Judging.{Verdict, Takes, PassesOver, Skips, IsJudgedJoined, IsJudgedWith, are_too_many, mailbox_for, taken_as, verdict_on}
use Rattle.model_taken.specs.NamedInstances.{InstanceFound, found_first, instances_for, instances_there, names_otherwise}
use Rattle.model_taken.specs.Taken.{TakenMessage, instances_taken, taken_with}
use Rattle.rebuild_judge.proofs.RegionLemmas.{region_in}
use Rattle.rebuild_judge.proofs.WholeLemmas.{AreRows, joins_of, rows_are, whole_of}
use Rattle.rebuild_judge.specs.declared.taken.Keeping.{Keeping}
use Rattle.rebuild_judge.specs.declared.taken.Outcome.{Outcome}
use Rattle.rebuild_judge.specs.declared.taken.Outcome.TheVariants as outcome
use Rattle.rebuild_judge.specs.declared.taken.TakenRow.{TakenRow}
use Rattle.rebuild_judge.specs.Judges.{IsAdmitted, IsAgainOn, IsOutcomeWith, IsSizeOn, JoinsOn, JoinsOr, ShowsVerdict}
use Rattle.rebuild_judge.specs.Kept.{AreHashesOf, AreKept, IsRejoined, sized_rows, taken_row}
use Rattle.rebuild_judge.specs.Reading.{AreSizesOn, HasMessageOn, RejoinsTo}

-- ---- its instances

sizes_found : (sizes : List ℕ) (there : Option (List InstanceFound)) → Some sizes ≡ option_map (map (λ i. length i.octets)) there → (found : List InstanceFound) × (there ≡ Some found) × (sizes ≡ map (λ i. length i.octets) found)
sizes_found sizes None e = absurd (cc e)
sizes_found sizes (Some found) e = (found, refl, cc e)

lengths : (found : List InstanceFound) → map length (map (λ i. i.octets) found) ≡ map (λ i. length i.octets) found
lengths [] = refl
lengths (i ∷ found) = ap (λ (ns : List ℕ). length i.octets ∷ ns) (lengths found)

rows_step : (ref : ExtRef) (refs : List ExtRef) (here : Option (List ℕ)) (there : Option (List InstanceFound)) (found : List InstanceFound) → ((more : List InstanceFound) → there ≡ Some more → AreRows refs more) → found_first ref here there ≡ Some found → AreRows (ref ∷ refs) found
rows_step ref refs None None found more e = absurd (cc e)
rows_step ref refs None (Some rest) found more e = absurd (cc e)
rows_step ref refs (Some octets) None found more e = absurd (cc e)
rows_step ref refs (Some octets) (Some rest) found more e =
    let is : record { row = record { hash = ref.hash; id = ref.id; size = length octets }; octets = octets } ∷ rest ≡ found = cc e in
    subst (AreRows (ref ∷ refs)) is (refl, more rest refl)

pub rows_there : (files : Files) (refs : List ExtRef) (found : List InstanceFound) → instances_there files refs ≡ Some found → AreRows refs found
rows_there files [] [] e = tt
rows_there files [] (i ∷ found) e = absurd (let k : [] ≡ i ∷ found = cc e in cc k)
rows_there files (ref ∷ refs) found e = rows_step ref refs (files (file.Inst ref.hash.0 ref.id.0)) (instances_there files refs) found (λ more is. rows_there files refs more is) e

as_many : (refs : List ExtRef) (found : List InstanceFound) → AreRows refs found → length refs ≡ length found
as_many [] [] are = refl
as_many [] (i ∷ found) are = absurd are
as_many (ref ∷ refs) [] are = absurd are
as_many (ref ∷ refs) (i ∷ found) are = let e = as_many refs found are.1 in omega (arith, e)

-- the instances of a message at its place, as they were found
record HasFound (files : Files) (named : List InstRow) (refs : List ExtRef) (sizes : List ℕ) : Type 0 where
  found : List InstanceFound
  there : instances_there files refs ≡ Some found
  for_these : instances_for files named refs ≡ Some found
  sizes_are : sizes ≡ map (λ i. length i.octets) found
  rows : AreRows refs found

has_found : (keeping : Keeping) (meta : Metadata) (sizes : List ℕ) (taken : List TakenMessage) (disk : DiskState) → AreKept (files_of disk) taken keeping → ((named : List InstRow) → AreHashesOf keeping.hashes named → false ≡ names_otherwise named meta.refs) → AreSizesOn meta.refs (Some sizes) disk
    → HasFound (files_of disk) (instances_taken taken) meta.refs sizes
has_found keeping meta sizes taken disk kept names are =
    let f = sizes_found sizes (instances_there (files_of disk) meta.refs) are in
    record {
      found = f.0;
      there = f.1;
      for_these = ap (λ (b : Bool). if b then None else instances_there (files_of disk) meta.refs) (sym (names (instances_taken taken) kept.hashes)) ∙ f.1;
      sizes_are = f.2;
      rows = rows_there (files_of disk) meta.refs f.0 f.1;
    }

-- ---- what doesn't join

wrong_as : (taken : List TakenMessage) (number : ℕ) (place : MessageAt) (m : Message) (meta : Metadata) (guid : List ℕ) (found : List InstanceFound) (error : Option JoinError) (why : Reason) → JoinsOr error (Err why)
    → (verdict : Verdict) × IsJudgedJoined taken number place m meta guid found error verdict × ShowsVerdict verdict (outcome.Skipped why)
wrong_as taken number place m meta guid found None why (size, e) = absurd (cc e)
wrong_as taken number place m meta guid found (Some error) why (other, is, e) = let same : why ≡ other = cc e in (Skips other, (other, is, refl), ap (λ (r : Reason). outcome.Skipped r) same)

pub not_joined : (number : ℕ) (place : MessageAt) (meta : Metadata) (guid : Guid) (keeping : Keeping) (sizes : List ℕ) (why : Reason) (disk : DiskState) → ((named : List InstRow) → AreHashesOf keeping.hashes named → false ≡ names_otherwise named meta.refs)
    → AreSizesOn meta.refs (Some sizes) disk → JoinsOn number place meta sizes (Err why) disk → IsOutcomeWith number place meta guid keeping (outcome.Skipped why) disk
not_joined number place meta guid keeping sizes why disk names are joins m has says taken kept =
    let f = has_found keeping meta sizes taken disk kept names are in
    let octets = map (λ (i : InstanceFound). i.octets) f.found in
    let w = wrong_as taken number place m meta guid.0 f.found (join_error m.body (whole_size meta m.body) meta.refs octets) why (joins m has octets (lengths f.found ∙ sym f.sizes_are)) in
    (w.0, subst (λ (o : Option (List InstanceFound)). IsJudgedWith taken number place m meta guid.0 o w.0) (sym f.for_these) w.1, w.2)

-- ---- what joins

right_only : (error : Option JoinError) (size : ℕ) → JoinsOr error (Ok size) → error ≡ None
right_only None size e = refl
right_only (Some error) size (why, is, e) = absurd (cc e)

record HasText (files : Files) (number : ℕ) (place : MessageAt) (m : Message) (meta : Metadata) (found : List InstanceFound) (size : ℕ) : Type 0 where
  text : List ℕ
  right : join_error m.body (whole_size meta m.body) meta.refs (map (λ i. i.octets) found) ≡ None
  is_whole : IsWhole text m.body meta.refs (map (λ i. i.octets) found)
  long : length text ≡ size
  rejoins : RejoinsTo files number place.offset (place.end - place.offset) text

has_text : (number : ℕ) (place : MessageAt) (meta : Metadata) (sizes : List ℕ) (size : ℕ) (m : Message) (disk : DiskState) (named : List InstRow) → HasMessageOn number place m disk → IsMetadata m.lines meta → (f : HasFound (files_of disk) named meta.refs sizes)
    → JoinsOn number place meta sizes (Ok size) disk → IsSizeOn number place meta size disk → HasText (files_of disk) number place m meta f.found size
has_text number place meta sizes size m disk named has says f joins told =
    let octets = map (λ (i : InstanceFound). i.octets) f.found in
    let right = right_only (join_error m.body (whole_size meta m.body) meta.refs octets) size (joins m has octets (lengths f.found ∙ sym f.sizes_are)) in
    let w = whole_of m.body (whole_size meta m.body) meta.refs octets (as_many meta.refs f.found f.rows ∙ sym (length-map f.found (λ (i : InstanceFound). i.octets))) right in
    record {
      text = w.0;
      right = right;
      is_whole = w.1;
      long = w.2 ∙ sym (told m has);
      rejoins = record { octets = has.octets; there = has.read; message = m; region = region_in has.octets place m has.stands; meta = meta; says = says; found = f.found; instances = f.there; right = right; is_whole = w.1 };
    }

-- what is judged of a message that joins
judged_as : (taken : List TakenMessage) (number : ℕ) (place : MessageAt) (m : Message) (meta : Metadata) (guid : List ℕ) (size : ℕ) (files : Files) (named : List InstRow) (found : List InstanceFound) (earlier : Option TakenMessage) → instances_for files named meta.refs ≡ Some found
    → (t : HasText files number place m meta found size) → taken_with guid taken ≡ earlier
    → IsJudgedWith taken number place m meta guid (instances_for files named meta.refs) (verdict_on taken number place meta guid (map (λ i. i.row) found) t.text earlier)
judged_as taken number place m meta guid size files named found earlier is t before =
    let rows = map (λ (i : InstanceFound). i.row) found in
    let verdict = verdict_on taken number place meta guid rows t.text earlier in
    subst (λ (o : Option (List InstanceFound)). IsJudgedWith taken number place m meta guid o verdict) (sym is)
    (subst (λ (e : Option JoinError). IsJudgedJoined taken number place m meta guid found e verdict) (sym t.right)
    (t.text, t.is_whole, ap (verdict_on taken number place meta guid rows t.text) (sym before)))

-- ---- its GUID is new

shows_new : (b : Bool) (t : TakenMessage) (given : Outcome) → given ≡ (if b then outcome.Skipped reason.TooMany else outcome.Taken (taken_row t)) → ShowsVerdict (if b then Skips reason.TooMany else Takes t) given
shows_new true t given e = e
shows_new false t given e = e

none_of : (o : Option TakenMessage) → None ≡ option_map taken_row o → o ≡ None
none_of None e = refl
none_of (Some t) e = absurd (cc e)

pub is_new : (number : ℕ) (place : MessageAt) (meta : Metadata) (guid : Guid) (keeping : Keeping) (sizes : List ℕ) (size : ℕ) (given : Outcome) (disk : DiskState) → ((named : List InstRow) → AreHashesOf keeping.hashes named → false ≡ names_otherwise named meta.refs)
    → AreSizesOn meta.refs (Some sizes) disk → JoinsOn number place meta sizes (Ok size) disk → IsSizeOn number place meta size disk → All (λ ref. IfSome ref.form IsForm) meta.refs
    → ((files : Files) (taken : List TakenMessage) → AreKept files taken keeping → None ≡ option_map taken_row (taken_with guid.0 taken)) → IsAdmitted keeping number place meta guid size sizes given → IsOutcomeWith number place meta guid keeping given disk
is_new number place meta guid keeping sizes size given disk names are joins told forms before admitted m has says taken kept =
    let f = has_found keeping meta sizes taken disk kept names are in
    let t = has_text number place meta sizes size m disk (instances_taken taken) has says f joins told in
    let j = joins_of m.body (whole_size meta m.body) meta.refs (map (λ (i : InstanceFound). i.octets) f.found) t.right in
    let rows : sized_rows meta.refs sizes ≡ map (λ (i : InstanceFound). i.row) f.found = ap (sized_rows meta.refs) f.sizes_are ∙ rows_are 0 (length m.body) meta.refs f.found f.rows forms j.ranges j.texts in
    let none = none_of (taken_with guid.0 taken) (before (files_of disk) taken kept) in
    let end = ap (λ (p : MessageAt). p.end) has.stands.place_is in
    let many = are_too_many taken (mailbox_for meta) place (length t.text) in
    let is : given ≡ (if many then outcome.Skipped reason.TooMany else outcome.Taken (taken_row (taken_as number place meta guid.0 (map (λ (i : InstanceFound). i.row) f.found) t.text))) =
    admitted (files_of disk) taken t.text kept t.long (omega (arith, end))
    ∙ (ap (λ (n : ℕ). if are_too_many taken (mailbox_for meta) place n then outcome.Skipped reason.TooMany else outcome.Taken (taken_row (taken_as number place meta guid.0 (sized_rows meta.refs sizes) t.text))) (sym t.long)
    ∙ ap (λ (rs : List InstRow). if many then outcome.Skipped reason.TooMany else outcome.Taken (taken_row (taken_as number place meta guid.0 rs t.text))) rows) in (
      verdict_on taken number place meta guid.0 (map (λ (i : InstanceFound). i.row) f.found) t.text None,
      judged_as taken number place m meta guid.0 size (files_of disk) (instances_taken taken) f.found None f.for_these t none,
      shows_new many (taken_as number place meta guid.0 (map (λ (i : InstanceFound). i.row) f.found) t.text) given is,
    )

-- ---- its GUID was taken

shows_again : (b : Bool) (given : Outcome) → given ≡ (if b then outcome.Known else outcome.Skipped reason.GuidTwice) → ShowsVerdict (if b then PassesOver else Skips reason.GuidTwice) given
shows_again true given e = e
shows_again false given e = e

some_of : (row : TakenRow) (o : Option TakenMessage) → Some row ≡ option_map taken_row o → (t : TakenMessage) × (o ≡ Some t) × (row ≡ taken_row t)
some_of row None e = absurd (cc e)
some_of row (Some t) e = (t, refl, cc e)

pub is_again : (number : ℕ) (place : MessageAt) (meta : Metadata) (guid : Guid) (keeping : Keeping) (sizes : List ℕ) (size : ℕ) (earlier : TakenRow) (given : Outcome) (disk : DiskState) → ((named : List InstRow) → AreHashesOf keeping.hashes named → false ≡ names_otherwise named meta.refs)
    → AreSizesOn meta.refs (Some sizes) disk → JoinsOn number place meta sizes (Ok size) disk → IsSizeOn number place meta size disk
    → ((files : Files) (taken : List TakenMessage) → AreKept files taken keeping → Some earlier ≡ option_map taken_row (taken_with guid.0 taken)) → IsAgainOn earlier number place size given disk → IsOutcomeWith number place meta guid keeping given disk
is_again number place meta guid keeping sizes size earlier given disk names are joins told before again m has says taken kept =
    let f = has_found keeping meta sizes taken disk kept names are in
    let t = has_text number place meta sizes size m disk (instances_taken taken) has says f joins told in
    let e = some_of earlier (taken_with guid.0 taken) (before (files_of disk) taken kept) in
    let among = found_one (λ (u : TakenMessage). bytes_eq u.guid guid.0) taken e.0 e.1 in
    let rejoined = All-contains (IsRejoined (files_of disk)) taken e.0 kept.rejoined among.0 in (
      verdict_on taken number place meta guid.0 (map (λ (i : InstanceFound). i.row) f.found) t.text (Some e.0),
      judged_as taken number place m meta guid.0 size (files_of disk) (instances_taken taken) f.found (Some e.0) f.for_these t e.1,
      shows_again (bytes_eq e.0.octets t.text) given (again e.0 rejoined e.2 t.text t.rejoins t.long),
    )
