-- All that a rebuild takes is stored in its files, each with a GUID and a place of its own.
use Rattle.std.specs.Prelude.{◌≡◌, ◌≢◌, ◌≤◌, ◌<◌, ℕ, List, [], ◌∷◌, ◌++◌, flat_map, refl, Some, All, AllPairs}
use Rattle.std.proofs.Common.{sym, ◌∙◌, ap, subst, arith, append_assoc, append-nil}
use Rattle.std.proofs.lemmas.Grind.{flat_map-append}
use Rattle.std.proofs.lemmas.List.Elements.{All-nil, All-head, All-tail, All-push, All-weaker}
use Rattle.disk_model.specs.Disk.{Files}
use Rattle.disk_model.specs.declared.name.FileName.TheVariants as file
use Rattle.mdbox_base.specs.Words.{IsNumber}
use Rattle.model_octets.proofs.PairLemmas.{pairs_head, pairs_tail, pairs_nil}
use Rattle.model_storage.specs.declared.places.MessageAt.{MessageAt}
use Rattle.model_storage.specs.StorageFile.{Message}
use Rattle.model_found.proofs.StandingLemmas.{StandsIn, StandFrom, found_stand, region_is}
use Rattle.model_found.specs.Findings.{NumberedFile, IsThereAs, Finding, Stored, Unread, FileFinding, findings_of, HaveFindings}
use Rattle.model_taken.proofs.GoodListLemmas.{IsStored, StandApart, IsGoodList, LiesBefore, good_more}
use Rattle.model_taken.proofs.TakenLemmas.{taking}
use Rattle.model_taken.specs.Judging.{Verdict, Takes, PassesOver, Skips, IsJudged, Judgement, taken_of, taken_by, AreJudged}
use Rattle.model_taken.specs.Rebuild.{Rebuild, SkippedPlace}
use Rattle.model_taken.specs.Taken.{TakenMessage}

-- after some judgements
abbrev pub taken_behind : List TakenMessage → List Judgement → List TakenMessage
taken_behind taken js = taken ++ flat_map taken_by js

-- ---- one file

abbrev UpTo : ℕ → TakenMessage → Type 0
UpTo number t = t.file ≤ number

-- What is taken up to an offset of a file.
pub record IsGoodUpTo (files : Files) (number offset : ℕ) (taken : List TakenMessage) : Type 0 where
  pub good : IsGoodList files taken
  pub before : All (LiesBefore number offset) taken
  pub files_up : All (UpTo number) taken

further : (files : Files) (number offset later : ℕ) (taken : List TakenMessage) → offset ≤ later → IsGoodUpTo files number offset taken → IsGoodUpTo files number later taken
further files number offset later taken l g = record {
  good = g.good;
  before = All-weaker (LiesBefore number offset) (LiesBefore number later) (λ t h same. let k = h same in omega (arith, k, l)) taken g.before;
  files_up = g.files_up;
}

longer : (octets : List ℕ) (place : MessageAt) (m : Message) → (s : StandsIn octets place m) → place.offset ≤ place.end
longer octets place m s = let e = s.ends in omega (arith, e)

none_more : (files : Files) (number : ℕ) (place : MessageAt) (taken : List TakenMessage) (j : Judgement) → taken_by j ≡ [] → place.offset ≤ place.end → IsGoodUpTo files number place.offset taken → IsGoodUpTo files number place.end (taken ++ taken_by j)
none_more files number place taken j none l g = subst (IsGoodUpTo files number place.end) (sym (ap (λ (ts : List TakenMessage). taken ++ ts) none ∙ append-nil taken)) (further files number place.offset place.end taken l g)

-- a message is judged
judged_more : (files : Files) (number : ℕ) (octets : List ℕ) (place : MessageAt) (m : Message) (taken : List TakenMessage) (verdict : Verdict) (j : Judgement) → j.verdict ≡ verdict → IsNumber number → files (file.Mail number) ≡ Some octets → StandsIn octets place m
    → IsJudged files taken number place m verdict → IsGoodUpTo files number place.offset taken → IsGoodUpTo files number place.end (taken ++ taken_by j)
judged_more files number octets place m taken (Takes t) j e is_number there stands judged g =
    let way = taking files taken number place m t judged in
    let r = region_is octets place m stands in
    let file_is = ap (λ (x : TakenMessage). x.file) way.is in
    let offset_is = ap (λ (x : TakenMessage). x.offset) way.is in
    let size_is = ap (λ (x : TakenMessage). x.size) way.is in
    let ends = stands.ends in
    subst (λ (ts : List TakenMessage). IsGoodUpTo files number place.end (taken ++ ts)) (sym (ap taken_of e)) (record {
      good = good_more files taken number octets place m t is_number there stands way g.good g.before;
      before = All-push (LiesBefore number place.end) taken t (further files number place.offset place.end taken (omega (arith, ends)) g).before (λ same. omega (arith, offset_is, size_is, ends));
      files_up = All-push (UpTo number) taken t g.files_up (omega (arith, file_is));
    })
judged_more files number octets place m taken PassesOver j e is_number there stands judged g = none_more files number place taken j (ap taken_of e) (longer octets place m stands) g
judged_more files number octets place m taken (Skips why) j e is_number there stands judged g = none_more files number place taken j (ap taken_of e) (longer octets place m stands) g

-- what is found in a file is judged, from this offset on
found_good : (files : Files) (number : ℕ) (octets : List ℕ) (offset : ℕ) (here : List Finding) (taken : List TakenMessage) (js : List Judgement) → IsNumber number → files (file.Mail number) ≡ Some octets → StandFrom octets offset here → AreJudged files taken (findings_of number here) js
    → IsGoodUpTo files number offset taken → (end : ℕ) × IsGoodUpTo files number end (taken_behind taken js)
found_good files number octets offset [] taken [] is_number there stands judged g = (offset, subst (IsGoodUpTo files number offset) (sym (append-nil taken)) g)
found_good files number octets offset [] taken (j ∷ js) is_number there stands judged g = absurd judged
found_good files number octets offset (f ∷ here) taken [] is_number there stands judged g = absurd judged
found_good files number octets offset (Stored place m ∷ here) taken (j ∷ js) is_number there stands judged g =
    let more = judged_more files number octets place m taken j.verdict j refl is_number there stands.1 judged.0.2 (further files number offset place.offset taken stands.0 g) in
    let rest = found_good files number octets place.end here (taken ++ taken_by j) js is_number there stands.2 judged.1 more in
    (rest.0, subst (IsGoodUpTo files number rest.0) (append_assoc taken (taken_by j) (flat_map taken_by js)) rest.1)
found_good files number octets offset (Unread at why ∷ here) taken (j ∷ js) is_number there stands judged g =
    let none : taken_by j ≡ [] = ap (λ (x : Judgement). taken_by x) judged.0 in
    let same : taken ++ taken_by j ≡ taken = ap (λ (ts : List TakenMessage). taken ++ ts) none ∙ append-nil taken in
    let rest = found_good files number octets offset here (taken ++ taken_by j) js is_number there stands judged.1 (subst (IsGoodUpTo files number offset) (sym same) g) in
    (rest.0, subst (IsGoodUpTo files number rest.0) (append_assoc taken (taken_by j) (flat_map taken_by js)) rest.1)

-- ---- all files

-- judgements of findings that stand one after another
pub record AreSplit (files : Files) (taken : List TakenMessage) (xs ys : List FileFinding) (js : List Judgement) : Type 0 where
  pub first : List Judgement
  pub second : List Judgement
  pub are : js ≡ first ++ second
  pub of_first : AreJudged files taken xs first
  pub of_second : AreJudged files (taken_behind taken first) ys second

split_judged : (files : Files) (taken : List TakenMessage) (xs ys : List FileFinding) (js : List Judgement) → AreJudged files taken (xs ++ ys) js → AreSplit files taken xs ys js
split_judged files taken [] ys js h = record { first = []; second = js; are = refl; of_first = tt; of_second = subst (λ (ts : List TakenMessage). AreJudged files ts ys js) (sym (append-nil taken)) h }
split_judged files taken (x ∷ xs) ys [] h = absurd h
split_judged files taken (x ∷ xs) ys (j ∷ js) h =
    let r = split_judged files (taken ++ taken_by j) xs ys js h.1 in
    record {
      first = j ∷ r.first;
      second = r.second;
      are = ap (λ (ks : List Judgement). j ∷ ks) r.are;
      of_first = (h.0, r.of_first);
      of_second = subst (λ (ts : List TakenMessage). AreJudged files ts ys r.second) (append_assoc taken (taken_by j) (flat_map taken_by r.first)) r.of_second;
    }

abbrev IsBelow : NumberedFile → NumberedFile → Type 0
IsBelow a b = a.number < b.number

-- no message is of a file from this list on
abbrev AreOfEarlier : List NumberedFile → TakenMessage → Type 0
AreOfEarlier storage t = All (λ f. t.file < f.number) storage

none_before : (files : Files) (number : ℕ) (taken : List TakenMessage) → IsGoodList files taken → All (λ t. t.file < number) taken → IsGoodUpTo files number 0 taken
none_before files number taken good earlier = record {
  good = good;
  before = All-weaker (λ (t : TakenMessage). t.file < number) (LiesBefore number 0) (λ t l same. absurd (let k = l in omega (arith, k, same))) taken earlier;
  files_up = All-weaker (λ (t : TakenMessage). t.file < number) (UpTo number) (λ t l. omega (arith, l)) taken earlier;
}

-- messages of files up to one are of none after it
all_earlier : (number : ℕ) (storage : List NumberedFile) (taken : List TakenMessage) → All (λ f. number < f.number) storage → All (UpTo number) taken → All (AreOfEarlier storage) taken
all_earlier number storage taken above up =
    All-weaker (UpTo number) (AreOfEarlier storage) (λ t l. All-weaker (λ (f : NumberedFile). number < f.number) (λ (f : NumberedFile). t.file < f.number) (λ f k. omega (arith, l, k)) storage above) taken up

files_good : (files : Files) (storage : List NumberedFile) (found : List FileFinding) (taken : List TakenMessage) (js : List Judgement) → AllPairs IsBelow storage → All (IsThereAs files) storage → HaveFindings storage found → AreJudged files taken found js → IsGoodList files taken → All (AreOfEarlier storage) taken
    → IsGoodList files (taken_behind taken js)
files_good files [] [] taken [] rising there are judged good earlier = subst (IsGoodList files) (sym (append-nil taken)) good
files_good files [] (x ∷ found) taken js rising there are judged good earlier = absurd (let k : x ∷ found ≡ [] = are in cc k)
files_good files [] [] taken (j ∷ js) rising there are judged good earlier = absurd judged
files_good files (f ∷ storage) found taken js rising there are judged good earlier =
    let split = split_judged files taken (findings_of f.number are.0) are.1 js (subst (λ (x : List FileFinding). AreJudged files taken x js) are.4 judged) in
    let here = All-head (IsThereAs files) f storage there in
    let stands = found_stand f.octets are.0 are.2 in
    let begins = further files f.number 0 stands.0 taken (omega arith) (none_before files f.number taken good (All-weaker (AreOfEarlier (f ∷ storage)) (λ (t : TakenMessage). t.file < f.number) (λ t h. All-head (λ (g : NumberedFile). t.file < g.number) f storage h) taken earlier)) in
    let one = found_good files f.number f.octets stands.0 are.0 taken split.first here.0 here.1 stands.1 split.of_first begins in
    let rest = files_good files storage are.1 (taken_behind taken split.first) split.second (pairs_tail IsBelow f storage rising) (All-tail (IsThereAs files) f storage there) are.3 split.of_second one.1.good
    (all_earlier f.number storage (taken_behind taken split.first) (pairs_head IsBelow f storage rising) one.1.files_up) in
    subst (IsGoodList files) (sym (ap (taken_behind taken) split.are ∙ (ap (λ (ts : List TakenMessage). taken ++ ts) (flat_map-append taken_by split.first split.second) ∙ sym (append_assoc taken (flat_map taken_by split.first) (flat_map taken_by split.second))))) rest

nothing_good : (files : Files) → IsGoodList files []
nothing_good files = record {
  stored = All-nil (IsStored files);
  guids = pairs_nil (λ (a b : TakenMessage). a.guid ≢ b.guid);
  apart = pairs_nil StandApart;
  agree = λ a b p q. absurd (let k = p.1 in omega (arith, k));
  names = omega arith;
  room = λ name. omega arith;
  few = omega arith;
}

-- What a rebuild takes is good.
pub rebuild_good : (files : Files) (taken : List TakenMessage) (skipped : List SkippedPlace) → Rebuild files taken skipped → IsGoodList files taken
rebuild_good files taken skipped r =
    subst (IsGoodList files) (sym r.taken_are) (files_good files r.storage r.found [] r.judgements r.are_storage.rising r.are_storage.there r.are_found r.are_judged (nothing_good files) (All-nil (AreOfEarlier r.storage)))
