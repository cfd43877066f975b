-- What becomes of what was found, as it is kept.
use Rattle.std.specs.Prelude.{◌≡◌, ◌≤◌, ◌-◌, ℕ, Bool, List, [], ◌∷◌, ◌++◌, length, map, max, if◌then◌else◌, Option, Some, None, Result, Ok, Err, ◌⊎◌}
use Rattle.std.specs.Str.{bytes_eq}
use Rattle.disk_model.specs.Disk.{Files, DiskState}
use Rattle.mdbox_base.specs.declared.ids.FileNo.{FileNo}
use Rattle.mdbox_base.specs.declared.ids.Guid.{Guid}
use Rattle.model_attach.specs.Rejoined.{is_compressed, join_error}
use Rattle.model_attach.specs.declared.join_error.JoinError.{JoinError}
use Rattle.model_found.specs.Findings.{FileFinding, Stored}
use Rattle.model_found.specs.declared.reason.Reason.{Reason}
use Rattle.model_found.specs.declared.reason.Reason.TheVariants as reason
use Rattle.model_meaning.specs.MapMeaning.{guid_file}
use Rattle.model_rebuild.specs.RebuildPlan.{IsGreatest, IsGuidFound}
use Rattle.model_storage.specs.declared.metadata_value.Metadata.{Metadata}
use Rattle.model_storage.specs.declared.places.MessageAt.{MessageAt}
use Rattle.model_storage.specs.Metadata.{IsMetadata}
use Rattle.model_storage.specs.StorageFile.{Message}
use Rattle.model_store.specs.Settled.{files_of}
use Rattle.model_store.specs.Stands.{whole_size}
use Rattle.model_taken.specs.Judging.{Verdict, Takes, PassesOver, Skips, Judgement, are_too_many, mailbox_for, taken_as, taken_by, IsJudged, IsJudgedFinding, IsJudgedWith, IsJoinReason}
use Rattle.model_taken.specs.NamedInstances.{instances_for}
use Rattle.model_taken.specs.Rebuild.{Rebuild, SkippedPlace, skipped_by}
use Rattle.model_taken.specs.Taken.{TakenMessage, instances_taken}
use Rattle.rebuild_files.specs.declared.found.FoundAt.{FoundAt}
use Rattle.rebuild_files.specs.Places.{place_in_file}
use Rattle.rebuild_judge.specs.declared.taken.Judged.{Judged}
use Rattle.rebuild_judge.specs.declared.taken.Keeping.{Keeping}
use Rattle.rebuild_judge.specs.declared.taken.Outcome.{Outcome}
use Rattle.rebuild_judge.specs.declared.taken.Outcome.TheVariants as outcome
use Rattle.rebuild_judge.specs.declared.taken.SkippedAt.{SkippedAt}
use Rattle.rebuild_judge.specs.declared.taken.TakenRow.{TakenRow}
use Rattle.rebuild_judge.specs.Kept.{AreKept, CanBeKept, IsRejoined, sized_rows, taken_row, skipped_row}
use Rattle.rebuild_judge.specs.Reading.{HasMessageOn, RejoinsTo}

-- a number of a storage file that a GUID of this store names, of a message that was found
abbrev pub IsNamedFile : List ℕ → List FileFinding → ℕ → Type 0
IsNamedFile store found n = (guid : Guid) × IsGuidFound found guid × (n ≡ guid_file store guid.0)

-- What a rebuild takes and skips of the disk's files is this; and the greatest number of a storage file that GUIDs name.
pub record IsJudgedOf (store : List ℕ) (judged : Judged) (disk : DiskState) : Type 0 where
  pub taken : List TakenMessage
  pub skipped : List SkippedPlace
  pub rebuild : Rebuild (files_of disk) taken skipped
  pub taken_are : judged.taken ≡ map taken_row taken
  pub skipped_are : judged.skipped ≡ map skipped_row skipped
  pub file : IsGreatest (IsNamedFile store rebuild.found) judged.file

-- ---- one more

-- this finding names a storage file of this number, or none if it is 0
pub record NamesFile (store : List ℕ) (f : FileFinding) (n : ℕ) : Type 0 where
  pub most : (m : ℕ) → IsNamedFile store (f ∷ []) m → m ≤ n
  pub reached : (n ≡ 0) ⊎ IsNamedFile store (f ∷ []) n

-- a message that was found stands at its place
abbrev pub StandsHere : DiskState → FileFinding → Type 0
StandsHere disk f = (place : MessageAt) (m : Message) → f.finding ≡ Stored place m → HasMessageOn f.number place m disk

-- One more finding is judged, after messages that were taken: what is kept and skipped then.
pub record IsJudgedNext (store : List ℕ) (disk : DiskState) (f : FileFinding) (taken : List TakenMessage) (new : Keeping) (before after : List SkippedAt) (file most : ℕ) : Type 0 where
  pub judgement : Judgement
  pub is_judged : IsJudgedFinding (files_of disk) taken f.number f.finding judgement
  pub kept : AreKept (files_of disk) (taken ++ taken_by judgement) new
  pub skipped : after ≡ before ++ map skipped_row (skipped_by judgement)
  pub named : ℕ
  pub names : NamesFile store f named
  pub greatest : most ≡ max named file

abbrev pub JudgesNext : List ℕ → FoundAt → Keeping → Keeping → List SkippedAt → List SkippedAt → ℕ → ℕ → DiskState → Type 0
JudgesNext store found old new before after file most disk =
    (f : FileFinding) → found ≡ place_in_file f → StandsHere disk f → (taken : List TakenMessage) → AreKept (files_of disk) taken old → IsJudgedNext store disk f taken new before after file most

-- what becomes of a message is kept
abbrev pub KeepsOutcome : FileNo → ℕ → Outcome → Keeping → Keeping → List SkippedAt → List SkippedAt → Type 0
KeepsOutcome file offset (outcome.Taken row) old new before after =
    (after ≡ before) × ((files : Files) (taken : List TakenMessage) (t : TakenMessage) → AreKept files taken old → CanBeKept files taken t → row ≡ taken_row t → AreKept files (taken ++ t ∷ []) new)
KeepsOutcome file offset outcome.Known old new before after = (after ≡ before) × (new ≡ old)
KeepsOutcome file offset (outcome.Skipped why) old new before after = (after ≡ before ++ record { file = file; offset = offset; why = why } ∷ []) × (new ≡ old)

-- ---- one message

-- what becomes of a message, as it is kept
abbrev pub ShowsVerdict : Verdict → Outcome → Type 0
ShowsVerdict (Takes t) given = given ≡ outcome.Taken (taken_row t)
ShowsVerdict PassesOver given = given ≡ outcome.Known
ShowsVerdict (Skips why) given = given ≡ outcome.Skipped why

-- the message that stands at a place becomes this
abbrev pub IsOutcomeOn : ℕ → MessageAt → Keeping → Outcome → DiskState → Type 0
IsOutcomeOn number place keeping given disk =
    (m : Message) → HasMessageOn number place m disk → (taken : List TakenMessage) → AreKept (files_of disk) taken keeping
    → (verdict : Verdict) × IsJudged (files_of disk) taken number place m verdict × ShowsVerdict verdict given

-- the same, where its lines say this and have this GUID
abbrev pub IsOutcomeWith : ℕ → MessageAt → Metadata → Guid → Keeping → Outcome → DiskState → Type 0
IsOutcomeWith number place meta guid keeping given disk =
    (m : Message) → HasMessageOn number place m disk → IsMetadata m.lines meta → (taken : List TakenMessage) → AreKept (files_of disk) taken keeping
    → (verdict : Verdict) × IsJudgedWith taken number place m meta guid.0 (instances_for (files_of disk) (instances_taken taken) meta.refs) verdict × ShowsVerdict verdict given

-- the number that a message's GUID names
abbrev pub IsNumberOn : List ℕ → ℕ → MessageAt → ℕ → DiskState → Type 0
IsNumberOn store number place n disk =
    (m : Message) → HasMessageOn number place m disk → ((n ≡ 0) ⊎ ((meta : Metadata) × (guid : Guid) × IsMetadata m.lines meta × (meta.guid ≡ Some guid) × (n ≡ guid_file store guid.0)))
    × ((meta : Metadata) (guid : Guid) → IsMetadata m.lines meta → meta.guid ≡ Some guid → n ≡ guid_file store guid.0)

-- ---- its parts

-- the size of its whole, or why it doesn't rejoin
abbrev pub JoinsOr : Option JoinError → Result ℕ Reason → Type 0
JoinsOr None answer = (size : ℕ) × (answer ≡ Ok size)
JoinsOr (Some error) answer = (why : Reason) × IsJoinReason error why × (answer ≡ Err why)

-- what joining the message at this place with instances of these sizes answers
abbrev pub JoinsOn : ℕ → MessageAt → Metadata → List ℕ → Result ℕ Reason → DiskState → Type 0
JoinsOn number place meta sizes answer disk =
    (m : Message) → HasMessageOn number place m disk → (octets : List (List ℕ)) → map length octets ≡ sizes → JoinsOr (join_error m.body (whole_size meta m.body) meta.refs octets) answer

-- the size of the whole that its lines tell, else that of its body
abbrev pub IsSizeOn : ℕ → MessageAt → Metadata → ℕ → DiskState → Type 0
IsSizeOn number place meta size disk = (m : Message) → HasMessageOn number place m disk → size ≡ whole_size meta m.body

-- whether its body begins as a gzip stream
abbrev pub IsCompressedOn : ℕ → MessageAt → Bool → DiskState → Type 0
IsCompressedOn number place found disk = (m : Message) → HasMessageOn number place m disk → found ≡ is_compressed m.body

-- the message at this place has the GUID of one that was taken
abbrev pub IsOutcomeAgain : TakenMessage → List ℕ → Outcome → Type 0
IsOutcomeAgain earlier whole given = given ≡ (if bytes_eq earlier.octets whole then outcome.Known else outcome.Skipped reason.GuidTwice)

-- the message at this place, whose whole has this size, becomes this, where this one with its GUID was taken
abbrev pub IsAgainOn : TakenRow → ℕ → MessageAt → ℕ → Outcome → DiskState → Type 0
IsAgainOn earlier number place size given disk =
    (t : TakenMessage) → IsRejoined (files_of disk) t → earlier ≡ taken_row t
    → (text : List ℕ) → RejoinsTo (files_of disk) number place.offset (place.end - place.offset) text → length text ≡ size → IsOutcomeAgain t text given

-- the message becomes this, whose GUID is new, whose whole has this size, and its instances these: it is taken, unless a limit is passed
abbrev pub IsAdmitted : Keeping → ℕ → MessageAt → Metadata → Guid → ℕ → List ℕ → Outcome → Type 0
IsAdmitted keeping number place meta guid size sizes given =
    (files : Files) (taken : List TakenMessage) (text : List ℕ) → AreKept files taken keeping → length text ≡ size → place.offset ≤ place.end
    → given ≡ (if are_too_many taken (mailbox_for meta) place size then outcome.Skipped reason.TooMany else outcome.Taken (taken_row (taken_as number place meta guid.0 (sized_rows meta.refs sizes) text)))
