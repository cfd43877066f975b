-- What becomes of what is found is one.
use Rattle.std.specs.Prelude.{◌≡◌, ℕ, List, [], ◌∷◌, ◌++◌, map, flat_map, refl, Option, Some, None}
use Rattle.std.proofs.Common.{inl, inr, sym, ◌∙◌, ap, subst}
use Rattle.disk_model.specs.Disk.{Files}
use Rattle.mdbox_base.specs.declared.ids.Guid.{Guid}
use Rattle.model_attach.specs.declared.join_error.JoinError.{JoinError}
use Rattle.model_attach.specs.declared.join_error.JoinError.TheVariants as join
use Rattle.model_attach.specs.Rejoined.{join_error}
use Rattle.model_attach.proofs.RejoinedLemmas.{whole_same}
use Rattle.model_storage.specs.declared.metadata_value.Metadata.{Metadata}
use Rattle.model_storage.specs.declared.places.MessageAt.{MessageAt}
use Rattle.model_storage.specs.StorageFile.{Message}
use Rattle.model_storage.proofs.MetadataLemmas.{metadata_same}
use Rattle.model_store.specs.Stands.{whole_size}
use Rattle.model_found.specs.declared.reason.Reason.{Reason}
use Rattle.model_found.proofs.FindingLemmas.{storage_same, all_found_same}
use Rattle.model_found.specs.Findings.{NumberedFile, Finding, Stored, Unread, FileFinding, HaveFindings}
use Rattle.model_taken.specs.Judging.{Verdict, Skips, verdict_on, IsJoinReason, IsJudgedJoined, IsJudgedWith, IsJudgedBy, IsJudged, Judgement, IsJudgedFinding, taken_by, AreJudged}
use Rattle.model_taken.specs.NamedInstances.{InstanceFound, instances_for}
use Rattle.model_taken.specs.Rebuild.{Rebuild, SkippedPlace, skipped_by}
use Rattle.model_taken.specs.Taken.{TakenMessage, instances_taken, taken_with}

join_reason_same : (error : JoinError) (a b : Reason) → IsJoinReason error a → IsJoinReason error b → a ≡ b
join_reason_same (join.RangeBad i) a b p q = p ∙ sym q
join_reason_same join.Compressed a b p q = p ∙ sym q
join_reason_same (join.SizeDiffers k f) a b p q = p ∙ sym q
join_reason_same (join.InstanceDiffers i k f) a b p q = p ∙ sym q
join_reason_same join.NoMemory a b p q = absurd p

skips_same : (a b : Reason) (v w : Verdict) → a ≡ b → v ≡ Skips a → w ≡ Skips b → v ≡ w
skips_same a b v w e p q = cc

joined_same : (taken : List TakenMessage) (number : ℕ) (place : MessageAt) (m : Message) (meta : Metadata) (guid : List ℕ) (found : List InstanceFound) (e : Option JoinError) (v w : Verdict)
    → IsJudgedJoined taken number place m meta guid found e v → IsJudgedJoined taken number place m meta guid found e w → v ≡ w
joined_same taken number place m meta guid found (Some error) v w a b = skips_same a.0 b.0 v w (join_reason_same error a.0 b.0 a.1 b.1) a.2 b.2
joined_same taken number place m meta guid found None v w a b =
    let e : a.0 ≡ b.0 = whole_same 0 a.0 b.0 m.body meta.refs (map (λ i. i.octets) found) a.1 b.1 in
    a.2 ∙ ap (λ (x : List ℕ). verdict_on taken number place meta guid (map (λ i. i.row) found) x (taken_with guid taken)) e ∙ sym b.2

with_same : (taken : List TakenMessage) (number : ℕ) (place : MessageAt) (m : Message) (meta : Metadata) (guid : List ℕ) (o : Option (List InstanceFound)) (v w : Verdict)
    → IsJudgedWith taken number place m meta guid o v → IsJudgedWith taken number place m meta guid o w → v ≡ w
with_same taken number place m meta guid None v w a b = a ∙ sym b
with_same taken number place m meta guid (Some found) v w a b =
    joined_same taken number place m meta guid found (join_error m.body (whole_size meta m.body) meta.refs (map (λ i. i.octets) found)) v w a b

by_same : (files : Files) (taken : List TakenMessage) (number : ℕ) (place : MessageAt) (m : Message) (meta : Metadata) (o : Option Guid) (v w : Verdict)
    → IsJudgedBy files taken number place m meta o v → IsJudgedBy files taken number place m meta o w → v ≡ w
by_same files taken number place m meta None v w a b = a ∙ sym b
by_same files taken number place m meta (Some guid) v w a b = with_same taken number place m meta guid.0 (instances_for files (instances_taken taken) meta.refs) v w a b

-- A message has one verdict.
pub verdict_same : (files : Files) (taken : List TakenMessage) (number : ℕ) (place : MessageAt) (m : Message) (v w : Verdict)
    → IsJudged files taken number place m v → IsJudged files taken number place m w → v ≡ w
verdict_same files taken number place m v w (inl a) (inl b) = a.1 ∙ sym b.1
verdict_same files taken number place m v w (inl a) (inr b) = absurd (a.0 b.0 b.1)
verdict_same files taken number place m v w (inr a) (inl b) = absurd (b.0 a.0 a.1)
verdict_same files taken number place m v w (inr a) (inr b) =
    by_same files taken number place m b.0 b.0.guid v w
    (subst (λ (x : Metadata). IsJudgedBy files taken number place m x x.guid v) (metadata_same m.lines a.0 b.0 a.1 b.1) a.2) b.2

judgement_of : ℕ → ℕ → Verdict → Judgement
judgement_of number offset verdict = record { number = number; offset = offset; verdict = verdict }

judgement_equal : (a b : Judgement) → a.number ≡ b.number → a.offset ≡ b.offset → a.verdict ≡ b.verdict → a ≡ b
unfolding judgement_of
judgement_equal a b p q r = let h : judgement_of a.number a.offset a.verdict ≡ judgement_of b.number b.offset b.verdict = cc in h

finding_same : (files : Files) (taken : List TakenMessage) (number : ℕ) (f : Finding) (a b : Judgement) → IsJudgedFinding files taken number f a → IsJudgedFinding files taken number f b → a ≡ b
finding_same files taken number (Stored place m) a b p q =
    judgement_equal a b (p.0 ∙ sym q.0) (p.1 ∙ sym q.1) (verdict_same files taken number place m a.verdict b.verdict p.2 q.2)
finding_same files taken number (Unread offset why) a b p q = p ∙ sym q

-- What is found has one row of judgements.
pub judged_same : (files : Files) (taken : List TakenMessage) (found : List FileFinding) (xs ys : List Judgement) → AreJudged files taken found xs → AreJudged files taken found ys → xs ≡ ys
judged_same files taken [] [] [] a b = refl
judged_same files taken [] [] (y ∷ ys) a b = absurd b
judged_same files taken [] (x ∷ xs) ys a b = absurd a
judged_same files taken (f ∷ found) [] ys a b = absurd a
judged_same files taken (f ∷ found) (x ∷ xs) [] a b = absurd b
judged_same files taken (f ∷ found) (x ∷ xs) (y ∷ ys) a b =
    let e : x ≡ y = finding_same files taken f.number f.finding x y a.0 b.0 in
    let rest : xs ≡ ys = judged_same files (taken ++ taken_by y) found xs ys (subst (λ (j : Judgement). AreJudged files (taken ++ taken_by j) found xs) e a.1) b.1 in
    cc (e, rest)

-- Files have one rebuild.
pub rebuild_same : (files : Files) (ts us : List TakenMessage) (ss rs : List SkippedPlace) → Rebuild files ts ss → Rebuild files us rs → (ts ≡ us) × (ss ≡ rs)
rebuild_same files ts us ss rs a b =
    let storage = storage_same files a.storage b.storage a.are_storage b.are_storage in
    let found = all_found_same b.storage a.found b.found (subst (λ (x : List NumberedFile). HaveFindings x a.found) storage a.are_found) b.are_found in
    let judged = judged_same files [] b.found a.judgements b.judgements (subst (λ (x : List FileFinding). AreJudged files [] x a.judgements) found a.are_judged) b.are_judged in
    (a.taken_are ∙ ap (λ (js : List Judgement). flat_map taken_by js) judged ∙ sym b.taken_are, a.skipped_are ∙ ap (λ (js : List Judgement). flat_map skipped_by js) judged ∙ sym b.skipped_are)
