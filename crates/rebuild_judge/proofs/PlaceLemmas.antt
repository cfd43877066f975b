-- What is found stands where its place says.
use Rattle.std.proofs.Common.{refl, ◌≡◌, ℕ, List, [], ◌∷◌, ◌++◌, sym, ◌∙◌, subst, append-nil, Some, Result, Ok, Err}
use Rattle.std.proofs.lemmas.List.Elements.{All-nil, All-cons, All-append, All-head, All-tail}
use Rattle.std.specs.Prelude.{All}
use Rattle.disk_model.specs.Disk.{DiskState, Files}
use Rattle.disk_model.specs.declared.name.FileName.TheVariants as file
use Rattle.model_found.proofs.StandingLemmas.{StandFrom, StandsIn, found_stand}
use Rattle.model_found.specs.Findings.{AreStorageFiles, Finding, Stored, Unread, FileFinding, HasFindingsBy, HaveFindings, IsFoundUpTo, IsThereAs, NumberedFile, findings_of, stored_from}
use Rattle.model_found.specs.declared.reason.Reason.{Reason}
use Rattle.model_storage.specs.declared.places.MessageAt.{MessageAt}
use Rattle.model_storage.specs.declared.places.ScanError.{ScanError}
use Rattle.model_storage.specs.declared.places.ScanError.TheVariants as scan
use Rattle.model_storage.specs.StorageFile.{Message, place_at}
use Rattle.model_store.specs.Settled.{files_of}
use Rattle.rebuild_judge.specs.Judges.{StandsHere}
use Rattle.rebuild_judge.specs.Reading.{HasMessageAt}

-- the place is that of the message at its offset
abbrev IsPlaced : Finding → Type 0
IsPlaced (Stored place m) = place ≡ place_at place.offset m
IsPlaced (Unread offset why) = Unit {0}

placed_from : (offset : ℕ) (ms : List Message) (tail : List Finding) → All IsPlaced tail → All IsPlaced (stored_from offset ms ++ tail)
placed_from offset [] tail all = all
placed_from offset (m ∷ ms) tail all = All-cons IsPlaced (Stored (place_at offset m) m) (stored_from (place_at offset m).end ms ++ tail) refl (placed_from (place_at offset m).end ms tail all)

placed_to : (octets : List ℕ) (offset : ℕ) (why : Reason) (findings : List Finding) → IsFoundUpTo octets offset why findings → All IsPlaced findings
placed_to octets offset why findings f = subst (All IsPlaced) (sym f.are) (placed_from _ f.stops.messages (Unread offset why ∷ []) (All-cons IsPlaced (Unread offset why) [] tt (All-nil IsPlaced)))

placed_one : (why : Reason) (findings : List Finding) → findings ≡ Unread 0 why ∷ [] → All IsPlaced findings
placed_one why findings e = subst (All IsPlaced) (sym e) (All-cons IsPlaced (Unread 0 why) [] tt (All-nil IsPlaced))

placed_by : (octets : List ℕ) (answer : Result (List MessageAt) ScanError) (findings : List Finding) → HasFindingsBy octets answer findings → All IsPlaced findings
placed_by octets (Ok places) findings a = subst (All IsPlaced) (sym (a.4 ∙ sym (append-nil (stored_from _ a.1)))) (placed_from _ a.1 [] (All-nil IsPlaced))
placed_by octets (Err scan.BadHeader) findings a = placed_one _ findings a.1
placed_by octets (Err (scan.HeaderSize size)) findings a = placed_one _ findings a.1
placed_by octets (Err (scan.Truncated offset)) findings a = placed_to octets offset _ findings a.0
placed_by octets (Err (scan.BadMessage offset)) findings a = placed_to octets offset _ findings a.0
placed_by octets (Err scan.NoMemory) findings a = absurd a

-- ---- in the files

-- a message that was found stands in its file
abbrev pub StandsAmong : Files → FileFinding → Type 0
StandsAmong files f = (place : MessageAt) (m : Message) → f.finding ≡ Stored place m → (octets : List ℕ) × (files (file.Mail f.number) ≡ Some octets) × HasMessageAt octets place m

stand_here : (files : Files) (number : ℕ) (octets : List ℕ) (finding : Finding) → files (file.Mail number) ≡ Some octets → IsPlaced finding → ((place : MessageAt) (m : Message) → finding ≡ Stored place m → StandsIn octets place m) → StandsAmong files (record { number = number; finding = finding })
stand_here files number octets finding there placed stands place m e =
    let s = stands place m e in
    (octets, there, record { first = s.first; behind = s.behind; here = s.here; is_message = s.is_message; place_is = subst IsPlaced e placed })

stand_each : (files : Files) (number : ℕ) (octets : List ℕ) (from : ℕ) (findings : List Finding) → files (file.Mail number) ≡ Some octets → All IsPlaced findings → StandFrom octets from findings → All (StandsAmong files) (findings_of number findings)
stand_each files number octets from [] there placed stand = All-nil (StandsAmong files)
stand_each files number octets from (Stored place m ∷ rest) there placed stand =
    All-cons (StandsAmong files) (record { number = number; finding = Stored place m }) (findings_of number rest)
    (stand_here files number octets (Stored place m) there (All-head IsPlaced (Stored place m) rest placed) (λ p n e. same p n e))
    (stand_each files number octets place.end rest there (All-tail IsPlaced (Stored place m) rest placed) stand.2)
  where
    same : (p : MessageAt) (n : Message) → Stored place m ≡ Stored p n → StandsIn octets p n
    same p n e = let a : place ≡ p = cc e in let b : m ≡ n = cc e in subst (λ (x : MessageAt). StandsIn octets x n) a (subst (StandsIn octets place) b stand.1)
stand_each files number octets from (Unread offset why ∷ rest) there placed stand =
    All-cons (StandsAmong files) (record { number = number; finding = Unread offset why }) (findings_of number rest)
    (stand_here files number octets (Unread offset why) there tt (λ p n e. absurd (cc e)))
    (stand_each files number octets from rest there (All-tail IsPlaced (Unread offset why) rest placed) stand)

stand_all : (files : Files) (storage : List NumberedFile) (found : List FileFinding) → All (IsThereAs files) storage → HaveFindings storage found → All (StandsAmong files) found
stand_all files [] found there have = subst (All (StandsAmong files)) (sym have) (All-nil (StandsAmong files))
stand_all files (f ∷ rest) found there (first, later, has, more, e) =
    let from = found_stand f.octets first has in
    subst (All (StandsAmong files)) (sym e)
    (All-append (StandsAmong files) (findings_of f.number first) later (stand_each files f.number f.octets from.0 first (All-head (IsThereAs files) f rest there).1 (placed_by f.octets has.answer first has.by) from.1)
    (stand_all files rest later (All-tail (IsThereAs files) f rest there) more))

pub all_stand : (files : Files) (storage : List NumberedFile) (found : List FileFinding) → AreStorageFiles files storage → HaveFindings storage found → All (StandsAmong files) found
all_stand files storage found are have = stand_all files storage found are.there have

pub stands_on : (disk : DiskState) (f : FileFinding) → StandsAmong (files_of disk) f → StandsHere disk f
stands_on disk f here place m e = let s = here place m e in record { octets = s.0; read = s.1; stands = s.2 }
