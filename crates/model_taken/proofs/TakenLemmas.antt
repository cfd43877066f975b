-- What is known of a message that is taken.
use Rattle.std.specs.Prelude.{◌≡◌, ◌==◌, ℕ, Bool, true, false, List, [], ◌∷◌, length, map, refl, Option, Some, None, All, if◌then◌else◌}
use Rattle.std.specs.List.{AllByRecursion}
use Rattle.std.specs.Str.{bytes_eq}
use Rattle.std.proofs.Common.{inl, inr, sym, ◌∙◌, subst}
use Rattle.std.proofs.lemmas.Bool.{eqb-true}
use Rattle.std.proofs.lemmas.List.Elements.{All-nil, All-cons}
use Rattle.disk_model.specs.Disk.{Files}
use Rattle.disk_model.specs.declared.name.FileName.TheVariants as file
use Rattle.mdbox_base.specs.declared.entries.InstRow.{InstRow}
use Rattle.mdbox_base.specs.declared.ids.Guid.{Guid}
use Rattle.mdbox_base.specs.declared.metadata.ExtRef.{ExtRef}
use Rattle.model_attach.specs.declared.join_error.JoinError.{JoinError}
use Rattle.model_attach.specs.declared.join_error.JoinError.TheVariants.{Compressed, SizeDiffers}
use Rattle.model_attach.specs.Rejoined.{IsWhole, join_error, first_bad, first_differs, found_size, range_error, size_error, is_compressed}
use Rattle.model_attach.proofs.RejoinedLemmas as rejoined
use Rattle.model_storage.specs.declared.metadata_value.Metadata.{Metadata}
use Rattle.model_storage.specs.declared.places.MessageAt.{MessageAt}
use Rattle.model_storage.specs.Metadata.{IsMetadata}
use Rattle.model_storage.specs.StorageFile.{Message}
use Rattle.model_store.specs.Safe.{IsThereWhole}
use Rattle.model_store.specs.Stands.{HasInstances, NameInstances, whole_size}
use Rattle.model_found.specs.declared.reason.Reason.{Reason}
use Rattle.model_found.specs.declared.reason.Reason.TheVariants as reason
use Rattle.model_taken.proofs.RangeLemmas.{HasItsSize}
use Rattle.model_taken.specs.Judging.{Takes, PassesOver, Skips, mailbox_for, are_too_many, taken_as, verdict_on, IsJudgedJoined, IsJudgedWith, IsJudgedBy, IsJudged}
use Rattle.model_taken.specs.NamedInstances.{InstanceFound, names_otherwise, found_first, instances_there, instances_for}
use Rattle.model_taken.specs.Taken.{TakenMessage, instances_taken, taken_with}

-- How it came to be taken.
pub record IsTaking (files : Files) (taken : List TakenMessage) (number : ℕ) (place : MessageAt) (m : Message) (t : TakenMessage) : Type 0 where
  pub meta : Metadata
  pub says : IsMetadata m.lines meta
  pub guid : Guid
  pub guid_is : meta.guid ≡ Some guid
  pub found : List InstanceFound
  pub found_is : instances_for files (instances_taken taken) meta.refs ≡ Some found
  pub whole : List ℕ
  pub no_error : join_error m.body (whole_size meta m.body) meta.refs (map (λ i. i.octets) found) ≡ None
  pub is_whole : IsWhole whole m.body meta.refs (map (λ i. i.octets) found)
  pub new : taken_with guid.0 taken ≡ None
  pub few : are_too_many taken (mailbox_for meta) place (length whole) ≡ false
  pub is : t ≡ taken_as number place meta guid.0 (map (λ i. i.row) found) whole

not_skipped : (t : TakenMessage) (why : Reason) → Takes t ≡ Skips why → ⊥
not_skipped t why e = cc e

not_passed : (t : TakenMessage) → Takes t ≡ PassesOver → ⊥
not_passed t e = cc e

taken_same : (t u : TakenMessage) → Takes t ≡ Takes u → t ≡ u
taken_same t u e = cc e

not_again : (t : TakenMessage) (b : Bool) → Takes t ≡ (if b then PassesOver else Skips reason.GuidTwice) → ⊥
not_again t true e = not_passed t e
not_again t false e = not_skipped t reason.GuidTwice e

by_few : (t u : TakenMessage) (b : Bool) → Takes t ≡ (if b then Skips reason.TooMany else Takes u) → (b ≡ false) × (t ≡ u)
by_few t u true e = absurd (not_skipped t reason.TooMany e)
by_few t u false e = (refl, taken_same t u e)

by_twice : (taken : List TakenMessage) (number : ℕ) (place : MessageAt) (meta : Metadata) (guid : List ℕ) (rows : List InstRow) (whole : List ℕ) (t : TakenMessage) (o : Option TakenMessage) → Takes t ≡ verdict_on taken number place meta guid rows whole o
    → (o ≡ None) × (are_too_many taken (mailbox_for meta) place (length whole) ≡ false) × (t ≡ taken_as number place meta guid rows whole)
by_twice taken number place meta guid rows whole t (Some earlier) e = absurd (not_again t (bytes_eq earlier.octets whole) e)
by_twice taken number place meta guid rows whole t None e =
    let r = by_few t (taken_as number place meta guid rows whole) (are_too_many taken (mailbox_for meta) place (length whole)) e in (refl, r.0, r.1)

by_error : (files : Files) (taken : List TakenMessage) (number : ℕ) (place : MessageAt) (m : Message) (t : TakenMessage) (meta : Metadata) (guid : Guid) (found : List InstanceFound) (e : Option JoinError) → IsMetadata m.lines meta → meta.guid ≡ Some guid
    → instances_for files (instances_taken taken) meta.refs ≡ Some found → join_error m.body (whole_size meta m.body) meta.refs (map (λ i. i.octets) found) ≡ e → IsJudgedJoined taken number place m meta guid.0 found e (Takes t) → IsTaking files taken number place m t
by_error files taken number place m t meta guid found (Some error) says g f j h = absurd (not_skipped t h.0 h.2)
by_error files taken number place m t meta guid found None says g f j h =
    let r = by_twice taken number place meta guid.0 (map (λ i. i.row) found) h.0 t (taken_with guid.0 taken) h.2 in
    record { meta = meta; says = says; guid = guid; guid_is = g; found = found; found_is = f; whole = h.0; no_error = j; is_whole = h.1; new = r.0; few = r.1; is = r.2 }

by_found : (files : Files) (taken : List TakenMessage) (number : ℕ) (place : MessageAt) (m : Message) (t : TakenMessage) (meta : Metadata) (guid : Guid) (o : Option (List InstanceFound)) → IsMetadata m.lines meta → meta.guid ≡ Some guid
    → instances_for files (instances_taken taken) meta.refs ≡ o → IsJudgedWith taken number place m meta guid.0 o (Takes t) → IsTaking files taken number place m t
by_found files taken number place m t meta guid None says g f h = absurd (not_skipped t reason.NoInstance h)
by_found files taken number place m t meta guid (Some found) says g f h =
    by_error files taken number place m t meta guid found (join_error m.body (whole_size meta m.body) meta.refs (map (λ i. i.octets) found)) says g f refl h

by_guid : (files : Files) (taken : List TakenMessage) (number : ℕ) (place : MessageAt) (m : Message) (t : TakenMessage) (meta : Metadata) (o : Option Guid) → IsMetadata m.lines meta → meta.guid ≡ o → IsJudgedBy files taken number place m meta o (Takes t) → IsTaking files taken number place m t
by_guid files taken number place m t meta None says g h = absurd (not_skipped t reason.NoGuid h)
by_guid files taken number place m t meta (Some guid) says g h =
    by_found files taken number place m t meta guid (instances_for files (instances_taken taken) meta.refs) says g refl h

pub taking : (files : Files) (taken : List TakenMessage) (number : ℕ) (place : MessageAt) (m : Message) (t : TakenMessage) → IsJudged files taken number place m (Takes t) → IsTaking files taken number place m t
taking files taken number place m t (inl a) = absurd (not_skipped t reason.BadLine a.1)
taking files taken number place m t (inr a) = by_guid files taken number place m t a.0 a.0.guid a.1 refl a.2

-- ---- its instances

-- instances that are there, as rows and as octets
pub record AreThere (files : Files) (refs : List ExtRef) (found : List InstanceFound) : Type 0 where
  pub named : NameInstances refs (map (λ i. i.row) found)
  pub octets : HasInstances files (map (λ i. i.row) found) (map (λ i. i.octets) found)
  pub whole : All (IsThereWhole files) (map (λ i. i.row) found)
  pub sizes : AllByRecursion HasItsSize found

one_found : (xs ys : List InstanceFound) → Some xs ≡ Some ys → xs ≡ ys
one_found xs ys e = cc e

no_found : (xs : List InstanceFound) → None ≡ Some xs → ⊥
no_found xs e = cc e

abbrev found_as : ExtRef → List ℕ → InstanceFound
found_as ref octets = record { row = record { hash = ref.hash; id = ref.id; size = length octets }; octets = octets }

first_there : (files : Files) (ref : ExtRef) (refs : List ExtRef) (found : List InstanceFound) (o : Option (List ℕ)) (rest : Option (List InstanceFound)) → files (file.Inst ref.hash.0 ref.id.0) ≡ o → ((behind : List InstanceFound) → rest ≡ Some behind → AreThere files refs behind)
    → found_first ref o rest ≡ Some found → AreThere files (ref ∷ refs) found
first_there files ref refs found None rest e h f = absurd (no_found found f)
first_there files ref refs found (Some octets) None e h f = absurd (no_found found f)
first_there files ref refs found (Some octets) (Some behind) e h f =
    let r = h behind refl in
    subst (AreThere files (ref ∷ refs)) (one_found (found_as ref octets ∷ behind) found f) (record {
      named = (refl, refl, r.named);
      octets = (e, r.octets);
      whole = All-cons (IsThereWhole files) (found_as ref octets).row (map (λ i. i.row) behind) (record { octets = octets; there = e; size = refl }) r.whole;
      sizes = (refl, r.sizes);
    })

pub all_there : (files : Files) (refs : List ExtRef) (found : List InstanceFound) → instances_there files refs ≡ Some found → AreThere files refs found
all_there files [] found e = subst (AreThere files []) (one_found [] found e) (record { named = tt; octets = tt; whole = All-nil (IsThereWhole files); sizes = tt })
all_there files (ref ∷ refs) found e = first_there files ref refs found (files (file.Inst ref.hash.0 ref.id.0)) (instances_there files refs) refl (λ behind h. all_there files refs behind h) e

by_names : (b : Bool) (o : Option (List InstanceFound)) (found : List InstanceFound) → (if b then None else o) ≡ Some found → (b ≡ false) × (o ≡ Some found)
by_names true o found e = absurd (no_found found e)
by_names false o found e = (refl, e)

pub found_there : (files : Files) (named : List InstRow) (refs : List ExtRef) (found : List InstanceFound) → instances_for files named refs ≡ Some found → (names_otherwise named refs ≡ false) × AreThere files refs found
found_there files named refs found e = let r = by_names (names_otherwise named refs) (instances_there files refs) found e in (r.0, all_there files refs found r.1)

-- ---- its size

no_join : (e : JoinError) → Some e ≡ None → ⊥
no_join e h = cc h

by_range : (o : Option ℕ) (rest : Option JoinError) → range_error o rest ≡ None → rest ≡ None
by_range None rest e = e
by_range (Some i) rest e = absurd (no_join _ e)

by_size : (body : List ℕ) (whole found : ℕ) (rest : Option JoinError) (b : Bool) → (whole == found) ≡ b → (if b then rest else Some (if is_compressed body then Compressed else SizeDiffers whole found)) ≡ None → whole ≡ found
by_size body whole found rest true t e = eqb-true whole found t
by_size body whole found rest false t e = absurd (no_join _ e)

pub size_is : (m : Message) (meta : Metadata) (octets : List (List ℕ)) (whole : List ℕ) → join_error m.body (whole_size meta m.body) meta.refs octets ≡ None → IsWhole whole m.body meta.refs octets → length whole ≡ whole_size meta m.body
size_is m meta octets whole e w =
    let k = by_range (first_bad 0 (length m.body) meta.refs) (size_error m.body (whole_size meta m.body) (found_size (length m.body) meta.refs) (first_differs meta.refs octets)) e in
    let same = by_size m.body (whole_size meta m.body) (found_size (length m.body) meta.refs) (first_differs meta.refs octets) (whole_size meta m.body == found_size (length m.body) meta.refs) refl k in
    rejoined.whole_size 0 whole m.body meta.refs octets w ∙ sym same
