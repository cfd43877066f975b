-- One more of what was found is judged and kept.
use Rattle.std.proofs.Common.{refl, ◌≡◌, ◌⊎◌, ℕ, Bool, true, false, List, [], ◌∷◌, ◌++◌, map, length, max, sym, ◌∙◌, ap, subst, arith, append-nil, inl, inr, Option, Some, None}
use Rattle.std.proofs.lemmas.List.Elements.{Contains-push}
use Rattle.std.proofs.lemmas.List.Folds.{list_any-append}
use Rattle.std.specs.List.{list_any}
use Rattle.std.specs.Prelude.{◌||◌, Contains, if◌then◌else◌}
use Rattle.disk_model.specs.Disk.{DiskState, Files}
use Rattle.mdbox_base.specs.declared.entries.InstRow.{InstRow}
use Rattle.mdbox_base.specs.declared.ids.FileNo.{FileNo}
use Rattle.mdbox_base.specs.declared.metadata.ExtRef.{ExtRef}
use Rattle.model_found.specs.Findings.{Finding, Stored, Unread, FileFinding}
use Rattle.model_found.specs.declared.reason.Reason.{Reason}
use Rattle.model_octets.proofs.SearchLemmas.{among}
use Rattle.model_storage.specs.declared.places.MessageAt.{MessageAt}
use Rattle.model_storage.specs.Metadata.{IsMetadata}
use Rattle.model_storage.specs.StorageFile.{Message}
use Rattle.model_store.specs.Settled.{files_of}
use Rattle.model_taken.proofs.TakenLemmas.{found_there, taking}
use Rattle.model_taken.specs.Judging.{Verdict, Takes, PassesOver, Skips, Judgement, IsJudged, IsJudgedFinding, mailbox_for, taken_of}
use Rattle.model_taken.specs.NamedInstances.{InstanceFound, instances_there, is_other_hash, names_otherwise}
use Rattle.model_taken.specs.Rebuild.{skipped_at}
use Rattle.model_taken.specs.Taken.{TakenMessage, instances_taken}
use Rattle.rebuild_files.specs.declared.found.FoundAt.{FoundAt}
use Rattle.rebuild_files.specs.declared.found.FoundPlace.{FoundPlace}
use Rattle.rebuild_files.specs.declared.found.FoundPlace.TheVariants as kind
use Rattle.rebuild_files.specs.Places.{place_in_file}
use Rattle.rebuild_judge.proofs.JoinedLemmas.{rows_there}
use Rattle.rebuild_judge.proofs.MetLemmas.{full_is}
use Rattle.rebuild_judge.proofs.RegionLemmas.{region_in}
use Rattle.rebuild_judge.proofs.WholeLemmas.{AreRows}
use Rattle.rebuild_judge.specs.declared.taken.Keeping.{Keeping}
use Rattle.rebuild_judge.specs.declared.taken.Outcome.{Outcome}
use Rattle.rebuild_judge.specs.declared.taken.Outcome.TheVariants as outcome
use Rattle.rebuild_judge.specs.declared.taken.SkippedAt.{SkippedAt}
use Rattle.rebuild_judge.specs.Judges.{IsNumberOn, IsOutcomeOn, JudgesNext, KeepsOutcome, NamesFile, ShowsVerdict}
use Rattle.rebuild_judge.specs.Kept.{AreKept, CanBeKept, NameNoOther, are_full, counted_mailboxes, skipped_row}
use Rattle.rebuild_judge.specs.Reading.{HasMessageOn}

-- ---- a message that is taken can be kept

or_none : (a b : Bool) → (a || b) ≡ false → (a ≡ false) × (b ≡ false)
or_none true b e = absurd (cc e)
or_none false b e = (refl, e)

names_push : (named : List InstRow) (row : InstRow) (refs : List ExtRef) → names_otherwise named refs ≡ false → list_any (λ other. is_other_hash row.hash row.id other) refs ≡ false → names_otherwise (named ++ row ∷ []) refs ≡ false
names_push named row [] none new = refl
names_push named row (ref ∷ refs) none new =
    let a = or_none (list_any (λ (r : InstRow). is_other_hash r.hash r.id ref) named) (list_any (λ (o : ExtRef). is_other_hash ref.hash ref.id o) refs || names_otherwise named refs) none in
    let b = or_none (list_any (λ (o : ExtRef). is_other_hash ref.hash ref.id o) refs) (names_otherwise named refs) a.1 in
    let c = or_none (is_other_hash row.hash row.id ref) (list_any (λ (o : ExtRef). is_other_hash row.hash row.id o) refs) new in
    let first : list_any (λ (r : InstRow). is_other_hash r.hash r.id ref) (named ++ row ∷ []) ≡ false = list_any-append (λ (r : InstRow). is_other_hash r.hash r.id ref) named (row ∷ []) ∙ rw (a.0, c.0) refl in
    rw (first, b.0, names_push named row refs b.1 c.1) refl

no_other : (named : List InstRow) (refs : List ExtRef) (found : List InstanceFound) → AreRows refs found → names_otherwise named refs ≡ false → NameNoOther named (map (λ i. i.row) found)
no_other named [] [] are none = tt
no_other named [] (i ∷ found) are none = absurd are
no_other named (ref ∷ refs) [] are none = absurd are
no_other named (ref ∷ refs) (i ∷ found) are none =
    let a = or_none (list_any (λ (r : InstRow). is_other_hash r.hash r.id ref) named) (list_any (λ (o : ExtRef). is_other_hash ref.hash ref.id o) refs || names_otherwise named refs) none in
    let b = or_none (list_any (λ (o : ExtRef). is_other_hash ref.hash ref.id o) refs) (names_otherwise named refs) a.1 in
    subst (λ (row : InstRow). NameNoOther named (row ∷ map (λ (j : InstanceFound). j.row) found)) (sym are.0)
    (a.0, no_other (named ++ record { hash = ref.hash; id = ref.id; size = length i.octets } ∷ []) refs found are.1 (names_push named (record { hash = ref.hash; id = ref.id; size = length i.octets }) refs b.1 b.0))

not_full : (taken : List TakenMessage) (name : List ℕ) (rest : Bool) → ((are_full name (counted_mailboxes taken)) || rest) ≡ false → are_full name (counted_mailboxes taken) ≡ false
not_full taken name rest e = (or_none (are_full name (counted_mailboxes taken)) rest e).0

there_are : (b : Bool) (o : Option (List InstanceFound)) (found : List InstanceFound) → (if b then None else o) ≡ Some found → o ≡ Some found
there_are true o found e = absurd (cc e)
there_are false o found e = e

can_be : (number : ℕ) (place : MessageAt) (m : Message) (taken : List TakenMessage) (t : TakenMessage) (disk : DiskState) → HasMessageOn number place m disk → IsJudged (files_of disk) taken number place m (Takes t) → CanBeKept (files_of disk) taken t
can_be number place m taken t disk has judged =
    let w = taking (files_of disk) taken number place m t judged in
    let f = found_there (files_of disk) (instances_taken taken) w.meta.refs w.found w.found_is in
    let there = there_are (names_otherwise (instances_taken taken) w.meta.refs) (instances_there (files_of disk) w.meta.refs) w.found w.found_is in
    subst (CanBeKept (files_of disk) taken) (sym w.is) (record {
      new = w.new;
      alike = no_other (instances_taken taken) w.meta.refs w.found (rows_there (files_of disk) w.meta.refs w.found there) f.0;
      rejoined = record { octets = has.octets; there = has.read; message = m; region = region_in has.octets place m has.stands; meta = w.meta; says = w.says; found = w.found; instances = there; right = w.no_error; is_whole = w.is_whole };
      room = not_full taken (mailbox_for w.meta) _ (full_is taken (mailbox_for w.meta) (counted_mailboxes taken) _ refl ∙ w.few);
    })

-- ---- what is kept then

pub kept_next : (file : FileNo) (offset : ℕ) (files : Files) (taken : List TakenMessage) (verdict : Verdict) (given : Outcome) (old new : Keeping) (before after : List SkippedAt) → ((t : TakenMessage) → verdict ≡ Takes t → CanBeKept files taken t) → ShowsVerdict verdict given
    → KeepsOutcome file offset given old new before after → AreKept files taken old → AreKept files (taken ++ taken_of verdict) new × (after ≡ before ++ map skipped_row (skipped_at file.0 offset verdict))
kept_next file offset files taken (Takes t) (outcome.Taken row) old new before after can shows keeps kept = (keeps.1 files taken t kept (can t refl) (cc shows), keeps.0 ∙ sym (append-nil before))
kept_next file offset files taken (Takes t) outcome.Known old new before after can shows keeps kept = absurd (cc shows)
kept_next file offset files taken (Takes t) (outcome.Skipped why) old new before after can shows keeps kept = absurd (cc shows)
kept_next file offset files taken PassesOver (outcome.Taken row) old new before after can shows keeps kept = absurd (cc shows)
kept_next file offset files taken PassesOver outcome.Known old new before after can shows keeps kept = (rw (append-nil taken, keeps.1) kept, keeps.0 ∙ sym (append-nil before))
kept_next file offset files taken PassesOver (outcome.Skipped why) old new before after can shows keeps kept = absurd (cc shows)
kept_next file offset files taken (Skips why) (outcome.Taken row) old new before after can shows keeps kept = absurd (cc shows)
kept_next file offset files taken (Skips why) outcome.Known old new before after can shows keeps kept = absurd (cc shows)
kept_next file offset files taken (Skips why) (outcome.Skipped given) old new before after can shows keeps kept =
    let same : given ≡ why = cc shows in
    (rw (append-nil taken, keeps.1) kept, keeps.0 ∙ ap (λ (r : Reason). before ++ record { file = file; offset = offset; why = r } ∷ []) same)

-- ---- its number

only_one : (f g : FileFinding) → Contains (f ∷ []) g → f ≡ g
only_one f g c = one_of (among f [] g c)
  where
    one_of : (f ≡ g) ⊎ Contains [] g → f ≡ g
    one_of (inl e) = e
    one_of (inr c) = absurd (let k = c.1 in omega (arith, k))

no_name : (store : List ℕ) (f : FileFinding) (offset : ℕ) (why : Reason) → f.finding ≡ Unread offset why → NamesFile store f 0
no_name store f offset why e = record {
  most = λ m is. absurd (let g = ap (λ (x : FileFinding). x.finding) (only_one f _ is.1.stands) in let w : Unread offset why ≡ Stored is.1.place is.1.message = sym e ∙ g in cc w);
  reached = inl refl;
}

its_name : (store : List ℕ) (f : FileFinding) (place : MessageAt) (message : Message) (n : ℕ) (disk : DiskState) → f ≡ record { number = f.number; finding = Stored place message } → HasMessageOn f.number place message disk → IsNumberOn store f.number place n disk → NamesFile store f n
its_name store f place message n disk at has is =
    let two = is message has in
    record {
      most = λ m named.
          let g = ap (λ (x : FileFinding). x.finding) (sym at ∙ only_one f _ named.1.stands) in
          let same : message ≡ named.1.message = (let w : Stored place message ≡ Stored named.1.place named.1.message = g in cc w) in
          let e = two.1 named.1.meta named.0 (subst (λ (x : Message). IsMetadata x.lines named.1.meta) (sym same) named.1.says) named.1.is in
          (let b = named.2 in omega (arith, e, b));
      reached = elim two.0 [
        | inl z ↦ inl z
        | inr w ↦ inr (w.1, record { number = f.number; place = place; message = message; meta = w.0; stands = subst (Contains (f ∷ [])) at (Contains-push [] f); says = w.2; is = w.3 }, w.4)
      ];
    }

-- ---- all of it

is_stored : (f : FileFinding) (file : FileNo) (place : MessageAt) → record { file = file; place = kind.Message place } ≡ place_in_file f → (m : Message) × (f.finding ≡ Stored place m) × (file.0 ≡ f.number)
is_stored f file place e = by_finding f.finding refl
  where
    by_finding : (finding : Finding) → f.finding ≡ finding → (m : Message) × (f.finding ≡ Stored place m) × (file.0 ≡ f.number)
    by_finding (Stored at m) is =
        let w : record { file = file; place = kind.Message place } ≡ record { file = record { 0 = f.number }; place = kind.Message at } = e ∙ ap (λ (x : Finding). place_in_file (record { number = f.number; finding = x })) is in
        let same : place ≡ at = (let k = ap (λ (x : FoundAt). x.place) w in cc k) in
        (m, is ∙ ap (λ (x : MessageAt). Stored x m) (sym same), ap (λ (x : FoundAt). x.file.0) w)
    by_finding (Unread offset why) is =
        let w : kind.Message place ≡ kind.Unread offset why = ap (λ (x : FoundAt). x.place) (e ∙ ap (λ (x : Finding). place_in_file (record { number = f.number; finding = x })) is) in absurd (cc w)

pub next_message : (store : List ℕ) (file : FileNo) (place : MessageAt) (given : Outcome) (old new : Keeping) (before after : List SkippedAt) (n most highest : ℕ) (disk : DiskState) → IsOutcomeOn file.0 place old given disk → IsNumberOn store file.0 place n disk
    → KeepsOutcome file place.offset given old new before after → highest ≡ max n most → JudgesNext store (record { file = file; place = kind.Message place }) old new before after most highest disk
next_message store file place given old new before after n most highest disk became number keeps e f at here taken kept =
    let s = is_stored f file place at in
    let has : HasMessageOn file.0 place s.0 disk = subst (λ (k : ℕ). HasMessageOn k place s.0 disk) (sym s.2) (here place s.0 s.1) in
    let o = became s.0 has taken kept in
    let k = kept_next file place.offset (files_of disk) taken o.0 given old new before after (λ t is. can_be file.0 place s.0 taken t disk has (subst (IsJudged (files_of disk) taken file.0 place s.0) is o.1)) o.2 keeps kept in
    record {
      judgement = record { number = file.0; offset = place.offset; verdict = o.0 };
      is_judged = subst (λ (x : Finding). IsJudgedFinding (files_of disk) taken f.number x (record { number = file.0; offset = place.offset; verdict = o.0 })) (sym s.1) (s.2, refl, subst (λ (k : ℕ). IsJudged (files_of disk) taken k place s.0 o.0) s.2 o.1);
      kept = k.0;
      skipped = k.1;
      named = n;
      names = its_name store f place s.0 n disk (ap (λ (x : Finding). record { number = f.number; finding = x }) s.1) (here place s.0 s.1) (subst (λ (k : ℕ). IsNumberOn store k place n disk) s.2 number);
      greatest = e;
    }

is_unread : (f : FileFinding) (file : FileNo) (offset : ℕ) (why : Reason) → record { file = file; place = kind.Unread offset why } ≡ place_in_file f → (f.finding ≡ Unread offset why) × (file.0 ≡ f.number)
is_unread f file offset why e = by_finding f.finding refl
  where
    by_finding : (finding : Finding) → f.finding ≡ finding → (f.finding ≡ Unread offset why) × (file.0 ≡ f.number)
    by_finding (Unread at other) is =
        let w : record { file = file; place = kind.Unread offset why } ≡ record { file = record { 0 = f.number }; place = kind.Unread at other } = e ∙ ap (λ (x : Finding). place_in_file (record { number = f.number; finding = x })) is in
        let k = ap (λ (x : FoundAt). x.place) w in
        let a : offset ≡ at = cc k in
        let b : why ≡ other = cc k in
        (is ∙ (ap (λ (n : ℕ). Unread n other) (sym a) ∙ ap (λ (r : Reason). Unread offset r) (sym b)), ap (λ (x : FoundAt). x.file.0) w)
    by_finding (Stored place m) is =
        let w : kind.Unread offset why ≡ kind.Message place = ap (λ (x : FoundAt). x.place) (e ∙ ap (λ (x : Finding). place_in_file (record { number = f.number; finding = x })) is) in absurd (cc w)

pub next_unread : (store : List ℕ) (file : FileNo) (offset : ℕ) (why : Reason) (keeping : Keeping) (before after : List SkippedAt) (most : ℕ) (disk : DiskState) → after ≡ before ++ record { file = file; offset = offset; why = why } ∷ []
    → JudgesNext store (record { file = file; place = kind.Unread offset why }) keeping keeping before after most most disk
next_unread store file offset why keeping before after most disk skips f at here taken kept =
    let s = is_unread f file offset why at in
    let j : Judgement = record { number = f.number; offset = offset; verdict = Skips why } in
    record {
      judgement = j;
      is_judged = subst (λ (x : Finding). IsJudgedFinding (files_of disk) taken f.number x j) (sym s.0) refl;
      kept = rw (append-nil taken) kept;
      skipped = skips ∙ ap (λ (k : ℕ). before ++ record { file = record { 0 = k }; offset = offset; why = why } ∷ []) s.1;
      named = 0;
      names = no_name store f offset why s.0;
      greatest = omega arith;
    }

-- of a place that is this
pub at_place : (P : FoundAt → Type 0) (at : FoundAt) (place : FoundPlace) → at.place ≡ place → P (record { file = at.file; place = place }) → P at
at_place P at place e p = subst (λ (x : FoundPlace). P (record { file = at.file; place = x })) (sym e) p
