-- The taken message with a GUID, and another with the same.
use Rattle.std.proofs.Common.{refl, ◌≡◌, ◌≢◌, ◌≤◌, ◌-◌, ◌↔◌, ℕ, Bool, true, false, List, length, sym, ◌∙◌, ap, subst, Option, Some, None}
use Rattle.std.proofs.lemmas.Option.{slice_get-map, slice_get_past}
use Rattle.std.specs.Borrow.{Bor}
use Rattle.std.specs.BTreeMap.{get}
use Rattle.std.specs.Cmp.Lexicographic.{slice_cmp}
use Rattle.std.specs.Option.{option_copied, option_map}
use Rattle.std.specs.Ordering.{nat_cmp}
use Rattle.std.specs.Prelude.{IfSome, IsNone, slice_get, if◌then◌else◌}
use Rattle.std.specs.Str.{bytes_eq}
use Rattle.disk_model.specs.Disk.{DiskState, Files}
use Rattle.model_found.specs.declared.reason.Reason.TheVariants as reason
use Rattle.model_octets.proofs.SearchLemmas.{text_is}
use Rattle.model_storage.specs.declared.places.MessageAt.{MessageAt}
use Rattle.model_taken.specs.Taken.{TakenMessage, taken_with}
use Rattle.rebuild_judge.specs.declared.taken.Keeping.{Keeping}
use Rattle.rebuild_judge.specs.declared.taken.Outcome.{Outcome}
use Rattle.rebuild_judge.specs.declared.taken.Outcome.TheVariants as outcome
use Rattle.rebuild_judge.specs.declared.taken.TakenRow.{TakenRow}
use Rattle.rebuild_judge.specs.Judges.{IsAgainOn}
use Rattle.rebuild_judge.specs.Kept.{AreKept, IsGuidPlace, taken_row}
use Rattle.rebuild_judge.specs.Reading.{HasWholeOn}

-- ---- the one with this GUID

at_guid : (guid : List ℕ) (taken : List TakenMessage) (place : Option ℕ) → IsGuidPlace guid taken place → (k : ℕ) → place ≡ Some k → option_map taken_row (slice_get taken k) ≡ option_map taken_row (taken_with guid taken)
at_guid guid taken None is k e = absurd (cc e)
at_guid guid taken (Some place) (t, at, found) k e = let same : k ≡ place = cc e in rw same (rw (at, found) refl)

pub none_before : (files : Files) (taken : List TakenMessage) (keeping : Keeping) (guid : List ℕ) → AreKept files taken keeping → get (slice_cmp nat_cmp) keeping.by_guid guid ≡ None → None ≡ option_map taken_row (taken_with guid taken)
none_before files taken keeping guid kept e = let none : taken_with guid taken ≡ None = subst (IsGuidPlace guid taken) e (kept.places guid) in rw none refl

pub one_before : (files : Files) (taken : List TakenMessage) (keeping : Keeping) (guid : List ℕ) (k : ℕ) (found : Option (Bor TakenRow)) → AreKept files taken keeping → get (slice_cmp nat_cmp) keeping.by_guid guid ≡ Some k
    → IfSome found (λ item. slice_get keeping.taken k ≡ Some item.now) → (IsNone found ↔ (length keeping.taken ≤ k)) → option_copied found ≡ option_map taken_row (taken_with guid taken)
one_before files taken keeping guid k found kept e some none =
    here found some none ∙ (ap (λ (rs : List TakenRow). slice_get rs k) kept.rows ∙ (slice_get-map taken_row taken k ∙ at_guid guid taken (get (slice_cmp nat_cmp) keeping.by_guid guid) (kept.places guid) k e))
  where
    here : (found : Option (Bor TakenRow)) → IfSome found (λ item. slice_get keeping.taken k ≡ Some item.now) → (IsNone found ↔ (length keeping.taken ≤ k)) → option_copied found ≡ slice_get keeping.taken k
    here None some none = sym (slice_get_past keeping.taken k (none.0 refl))
    here (Some item) some none = sym some

-- ---- another with the same

again_differs : (earlier whole : List ℕ) (given : Outcome) → (earlier ≢ whole) → given ≡ outcome.Skipped reason.GuidTwice → given ≡ (if bytes_eq earlier whole then outcome.Known else outcome.Skipped reason.GuidTwice)
again_differs earlier whole given ne e = e ∙ by_test (bytes_eq earlier whole) refl
  where
    by_test : (b : Bool) → bytes_eq earlier whole ≡ b → outcome.Skipped reason.GuidTwice ≡ (if b then outcome.Known else outcome.Skipped reason.GuidTwice)
    by_test true t = absurd (ne (text_is earlier whole t))
    by_test false t = refl

-- of another length
pub other_length : (earlier : TakenRow) (number : ℕ) (place : MessageAt) (size : ℕ) (disk : DiskState) → earlier.whole ≢ size → IsAgainOn earlier number place size (outcome.Skipped reason.GuidTwice) disk
other_length earlier number place size disk ne t rejoined is text rejoins long =
    again_differs t.octets text (outcome.Skipped reason.GuidTwice) (λ same. ne (ap (λ (r : TakenRow). r.whole) is ∙ (ap length same ∙ long))) refl

-- of one nothing is found, so it isn't one that was taken
pub first_gone : (earlier : TakenRow) (number : ℕ) (place : MessageAt) (size : ℕ) (given : Outcome) (disk : DiskState) → HasWholeOn earlier.file.0 earlier.offset earlier.size None disk → IsAgainOn earlier number place size given disk
first_gone earlier number place size given disk none t rejoined is text rejoins long =
    absurd (let e = subst (λ (r : TakenRow). HasWholeOn r.file.0 r.offset r.size None disk) is none t.octets rejoined in cc e)

pub second_gone : (earlier : TakenRow) (number : ℕ) (place : MessageAt) (size n : ℕ) (given : Outcome) (disk : DiskState) → n ≡ (place.end - place.offset) → HasWholeOn number place.offset n None disk → IsAgainOn earlier number place size given disk
second_gone earlier number place size n given disk sized none t rejoined is text rejoins long = absurd (let e = subst (λ (k : ℕ). HasWholeOn number place.offset k None disk) sized none text rejoins in cc e)

pub both_read : (earlier : TakenRow) (number : ℕ) (place : MessageAt) (size n : ℕ) (first second : List ℕ) (b : Bool) (given : Outcome) (disk : DiskState) → n ≡ (place.end - place.offset) → HasWholeOn earlier.file.0 earlier.offset earlier.size (Some first) disk
    → HasWholeOn number place.offset n (Some second) disk → b ≡ bytes_eq first second → given ≡ (if b then outcome.Known else outcome.Skipped reason.GuidTwice) → IsAgainOn earlier number place size given disk
both_read earlier number place size n first second b given disk sized one two test e t rejoined is text rejoins long =
    let f : first ≡ t.octets = (let w : Some first ≡ Some t.octets = subst (λ (r : TakenRow). HasWholeOn r.file.0 r.offset r.size (Some first) disk) is one t.octets rejoined in cc w) in
    let s : second ≡ text = (let w : Some second ≡ Some text = subst (λ (k : ℕ). HasWholeOn number place.offset k (Some second) disk) sized two text rejoins in cc w) in
    e ∙ ap (λ (x : Bool). if x then outcome.Known else outcome.Skipped reason.GuidTwice) (test ∙ (ap (λ (x : List ℕ). bytes_eq x second) f ∙ ap (bytes_eq t.octets) s))
