-- What becomes of a found message, up to its references.
use Rattle.std.proofs.Common.{refl, ◌≡◌, ℕ, Bool, true, false, List, map, length, sym, ◌∙◌, ap, subst, inl, inr, Option, Some, None, Result, Ok, Err}
use Rattle.std.specs.Option.{option_map}
use Rattle.std.specs.Prelude.{if◌then◌else◌, IfOk}
use Rattle.disk_model.specs.Disk.{DiskState}
use Rattle.mdbox_base.specs.declared.entries.InstRow.{InstRow}
use Rattle.mdbox_base.specs.declared.ids.Guid.{Guid}
use Rattle.model_found.specs.declared.reason.Reason.TheVariants as reason
use Rattle.model_meaning.specs.MapMeaning.{guid_file}
use Rattle.model_storage.proofs.MetadataLemmas.{metadata_same}
use Rattle.model_storage.specs.declared.metadata_value.Metadata.{Metadata}
use Rattle.model_storage.specs.declared.places.MessageAt.{MessageAt}
use Rattle.model_store.specs.Settled.{files_of}
use Rattle.model_taken.specs.Judging.{IsJudgedBy, Skips}
use Rattle.model_taken.specs.NamedInstances.{InstanceFound, instances_for, instances_there, names_otherwise}
use Rattle.model_taken.specs.Taken.{instances_taken}
use Rattle.rebuild_judge.specs.declared.taken.Keeping.{Keeping}
use Rattle.rebuild_judge.specs.declared.taken.Outcome.{Outcome}
use Rattle.rebuild_judge.specs.declared.taken.Outcome.TheVariants as outcome
use Rattle.rebuild_judge.specs.Judges.{IsNumberOn, IsOutcomeOn, IsOutcomeWith}
use Rattle.rebuild_judge.specs.Kept.{AreHashesOf}
use Rattle.rebuild_judge.specs.Reading.{AreSizesOn, SayOn}

-- ---- no lines, no GUID

pub bad_line : (number : ℕ) (place : MessageAt) (keeping : Keeping) (disk : DiskState) → SayOn number place None disk → IsOutcomeOn number place keeping (outcome.Skipped reason.BadLine) disk
bad_line number place keeping disk say m has taken kept = (Skips reason.BadLine, inl (say m has, refl), refl)

pub no_number : (store : List ℕ) (number : ℕ) (place : MessageAt) (disk : DiskState) → SayOn number place None disk → IsNumberOn store number place 0 disk
no_number store number place disk say m has = (inl refl, λ meta guid is e. absurd (say m has meta is))

pub no_guid : (number : ℕ) (place : MessageAt) (meta : Metadata) (keeping : Keeping) (disk : DiskState) → SayOn number place (Some meta) disk → meta.guid ≡ None → IsOutcomeOn number place keeping (outcome.Skipped reason.NoGuid) disk
no_guid number place meta keeping disk say none m has taken kept =
    (Skips reason.NoGuid, inr (meta, say m has, subst (λ (o : Option Guid). IsJudgedBy (files_of disk) taken number place m meta o (Skips reason.NoGuid)) (sym none) refl), refl)

pub guid_none : (store : List ℕ) (number : ℕ) (place : MessageAt) (meta : Metadata) (disk : DiskState) → SayOn number place (Some meta) disk → meta.guid ≡ None → IsNumberOn store number place 0 disk
guid_none store number place meta disk say none m has =
    (inl refl, λ other guid is e. absurd (let w : Some guid ≡ None = sym e ∙ (ap (λ (x : Metadata). x.guid) (metadata_same m.lines other meta is (say m has)) ∙ none) in cc w))

pub has_guid : (number : ℕ) (place : MessageAt) (meta : Metadata) (guid : Guid) (keeping : Keeping) (given : Outcome) (disk : DiskState) → SayOn number place (Some meta) disk → meta.guid ≡ Some guid → IsOutcomeWith number place meta guid keeping given disk
    → IsOutcomeOn number place keeping given disk
has_guid number place meta guid keeping given disk say is with m has taken kept =
    let w = with m has (say m has) taken kept in
    (w.0, inr (meta, say m has, subst (λ (o : Option Guid). IsJudgedBy (files_of disk) taken number place m meta o w.0) (sym is) w.1), w.2)

pub guid_number : (store : List ℕ) (number : ℕ) (place : MessageAt) (meta : Metadata) (guid : Guid) (n : ℕ) (disk : DiskState) → SayOn number place (Some meta) disk → meta.guid ≡ Some guid → n ≡ guid_file store guid.0 → IsNumberOn store number place n disk
guid_number store number place meta guid n disk say is at m has = (
  inr (meta, guid, say m has, is, at),
  λ other named says e.
      let same : guid ≡ named = (let w : Some guid ≡ Some named = sym is ∙ (ap (λ (x : Metadata). x.guid) (sym (metadata_same m.lines other meta says (say m has))) ∙ e) in cc w) in
      at ∙ ap (λ (g : Guid). guid_file store g.0) same,
)

-- ---- instances

by_names : (named : Bool) (there : Option (List InstanceFound)) → named ≡ true → (if named then None else there) ≡ None
by_names named there e = rw e refl

pub other_names : (number : ℕ) (place : MessageAt) (meta : Metadata) (guid : Guid) (keeping : Keeping) (disk : DiskState) → ((named : List InstRow) → AreHashesOf keeping.hashes named → true ≡ names_otherwise named meta.refs)
    → IsOutcomeWith number place meta guid keeping (outcome.Skipped reason.NoInstance) disk
other_names number place meta guid keeping disk other m has says taken kept =
    let none : instances_for (files_of disk) (instances_taken taken) meta.refs ≡ None = by_names (names_otherwise (instances_taken taken) meta.refs) (instances_there (files_of disk) meta.refs) (sym (other (instances_taken taken) kept.hashes)) in
    (Skips reason.NoInstance, rw none refl, refl)

not_there : {X : Type 0} → (f : InstanceFound → X) (named : Bool) (there : Option (List InstanceFound)) → None ≡ option_map (map f) there → (if named then None else there) ≡ None
not_there f true there e = refl
not_there f false None e = refl
not_there f false (Some found) e = absurd (cc e)

pub no_instance : (number : ℕ) (place : MessageAt) (meta : Metadata) (guid : Guid) (keeping : Keeping) (disk : DiskState) → AreSizesOn meta.refs None disk → IsOutcomeWith number place meta guid keeping (outcome.Skipped reason.NoInstance) disk
no_instance number place meta guid keeping disk none m has says taken kept =
    let is : instances_for (files_of disk) (instances_taken taken) meta.refs ≡ None = not_there (λ i. length i.octets) (names_otherwise (instances_taken taken) meta.refs) (instances_there (files_of disk) meta.refs) none in
    (Skips reason.NoInstance, rw is refl, refl)

-- ---- of an answer

pub ok_map : {T E : Type 0} → (P Q : T → Type 0) (answer : Result T E) → ((given : T) → P given → Q given) → IfOk answer P → IfOk answer Q
ok_map P Q (Ok given) f p = f given p
ok_map P Q (Err error) f p = tt
