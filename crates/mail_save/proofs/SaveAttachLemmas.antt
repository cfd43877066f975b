-- What the events did that find the instances of a message's attachments, by the clause of a step.
use Rattle.mail_save.proofs.Common.{◌≡◌, ◌≤◌, ◌<◌, ◌+◌, ◌⊎◌, ◌&&◌, ◌||◌, ℕ, Bool, true, false, List, [], ◌∷◌, length, Option, Some, None, refl, sym, ◌∙◌, ap, subst, arith, inl, inr, IsSome, is_some, nat_le, slice_get, if◌then◌else◌, list_any, bytes_eq, common_steps, bytes_eq-Decides, Detached}
use Rattle.mail_save.proofs.Common.{History, Faults, Highest, InstRow, Did, Refusal, MapMeaning, no_numbers, Compares, PlacesInstance, is_one_of, is_step, Around, is_same_instance, drawn_none, AttachingValue, next_attachment, next_candidate, part_row, with_compared, with_found, next_id, end_in}
use Rattle.mail_save.proofs.Common.{knows_instance, StoreValue, indexes_of, seen_of, Lasts, step_calm, AttachesNext, AttachesNone, HasItsParts, IsAtSave, StepsWithRoom, around_saving, IsTakingFile, FaultsAt, stopped_reply, SavedParts, SaveStage}
use Rattle.std.proofs.lemmas.Option.{slice_get_within}
use Rattle.disk_model.specs.FaultCounts.{ReadFaultCounted}
use Rattle.mdbox_base.specs.declared.progress.Did.TheVariants as did
use Rattle.mdbox_base.specs.declared.progress.Progress.TheVariants as progress
use Rattle.mdbox_base.specs.declared.replies.Refusal.TheVariants as refusal
use Rattle.mdbox_base.specs.declared.replies.Reply.TheVariants as reply
use Rattle.mdbox_base.specs.declared.requests.Request.TheVariants as request
use Rattle.mdbox_base.specs.declared.script.Half.TheVariants as half
use Rattle.task_steps.proofs.EventLaws.{same_changes, same_reads}
use Rattle.mail_save.specs.Events.{instance_refusal}
use Rattle.mail_save.specs.SaveEffects.{ComparesNext, NamesFound, PlacesNext}
use Rattle.mail_save.specs.SaveSeen.{count_detachable}
use Rattle.mail_save.specs.Task.{IsAttachRefusal, failing_did}
use Rattle.mail_save.specs.declared.task.SaveStage.TheVariants as stage
use Rattle.mail_save.proofs.SaveClauseLemmas.{EventOf, DeliveryClause, with_did}
use Rattle.mail_save.proofs.SaveDidLemmas.{or_none, HasRun, StaysSo}
use Rattle.mail_save.proofs.SaveFrontLemmas.{SeesAround, compares_part, found_with, places_part}
use Rattle.mail_save.proofs.SaveRefusedLemmas.{checked_save, comparing_at, ends_comparing, ends_placing_instance, fallen_save, forgotten_save, full_instances, placing_instance_at, unread_save}
use Rattle.mail_save.proofs.SaveStepLemmas.{fell_by, memory_runs, memory_unread, more_differs, not_stopped, refused_differs, equal_reads, step_did, uid_full, untold_faults}
use Rattle.mail_save.proofs.SaveStoreLemmas.{TellsFiles, tells_same, drawn_instance, due_stays, gave_on, has_run, same_ends, sees_around, stays_so, tells_store}
use Rattle.mail_save.proofs.SeenInstanceLemmas.{gone_on, knows_compared, knows_in, knows_with, knows_same, next_not_gone, next_number}

-- ---- an attachment is left

some_left : (o : Option Detached) (parts : List Detached) (n : ℕ) → slice_get parts n ≡ o → IsSome o → n < length parts
some_left None parts n e some = absurd (let k : false ≡ true = some in cc k)
some_left (Some part) parts n e some = slice_get_within parts n part e

pub is_left : (parts : SavedParts) (attaching : AttachingValue) (octets : List ℕ) → IsSome (next_attachment attaching) → HasItsParts (stage.Attaching parts attaching) octets → length attaching.found < count_detachable octets
is_left parts attaching octets some has = let less = some_left (next_attachment attaching) attaching.parts (length attaching.found) refl some in let many = has.0 in omega (arith, less, many)

-- ---- it is compared with a candidate

found_by : (alike : Bool) (candidate : InstRow) (drawn : ℕ) (attaching : AttachingValue) → (if alike then with_found candidate attaching else with_compared candidate drawn attaching).found ≡ found_with alike candidate attaching.found
found_by true candidate drawn attaching = refl
found_by false candidate drawn attaching = refl

-- what a step of a stage that goes on by finding an instance says
abbrev pub AttachingSteps : {D : Type 0} → (pins : ℕ → ℕ) → SavedParts → AttachingValue → AttachingValue → List ℕ → ℕ → List ℕ → StoreValue D → StoreValue D → Option History → Option History → Faults → Faults → Type 0
AttachingSteps pins parts attaching more name time octets old new before after began faulted =
    (behind : Around) → StepsWithRoom (IsTakingFile attaching.found) (IsTakingFile more.found) (around_saving octets (stage.Attaching parts attaching) old) behind (request.Deliver name time octets) (seen_of pins old before began) (seen_of pins new after faulted) did.Quiet None

compares_more : {D : Type 0} → (pins : ℕ → ℕ) (parts : SavedParts) (attaching more : AttachingValue) (next : SaveStage) (name : List ℕ) (time size : ℕ) (octets : List ℕ) (how : Did) (old new : StoreValue D) (before after : Option History) (began faulted : Faults)
    → EventOf (stage.Attaching parts attaching) next name time size octets progress.More how old new before after began faulted → ComparesNext attaching more old new → AttachingSteps pins parts attaching more name time octets old new before after began faulted
compares_more pins parts attaching more next name time size octets how old new before after began faulted e c = λ behind.
    let runs = not_stopped new.stopped (progress.More ≡ stopped_reply) e.stopped more_differs in
    let map = ap (λ (v : StoreValue _). v.map) c.same in
    let found : more.found ≡ found_with c.alike c.candidate attaching.found = ap (λ (a : AttachingValue). a.found) c.more_is ∙ found_by c.alike c.candidate old.instances.highest attaching in
    subst (λ (rows : List InstRow). StepsWithRoom (IsTakingFile attaching.found) (IsTakingFile rows) (around_saving octets (stage.Attaching parts attaching) old) behind (request.Deliver name time octets) (seen_of pins old before began) (seen_of pins new after faulted) did.Quiet None) (sym found)
    (compares_part (around_saving octets (stage.Attaching parts attaching) old) behind name time octets attaching.found c.candidate c.alike (seen_of pins old before began) (seen_of pins new after faulted) (sees_around pins octets (stage.Attaching parts attaching) old before began e.is e.order e.ids)
    (c.next) (is_left parts attaching octets e.left.1 e.parts)
    (record {
      run = has_run pins old new before after began faulted e.ran runs (ap (λ (m : MapMeaning). m.boxes) map) (ap (λ (v : StoreValue _). indexes_of v.boxes) c.same) e.moments (e.rests runs) e.grows e.faults;
      map = map;
      due = λ uid. due_stays old new uid map (ap (λ (v : StoreValue _). v.dues) c.same);
    })
    (ap (λ (v : StoreValue _). v.drawn) c.same)
    (tells_store pins old new before after began faulted e.ran (ap (λ (m : MapMeaning). m.store) map) (let d = ap (λ (v : StoreValue _). v.drawn.file) c.same in omega (arith, d)) (same_ends old new (tells_same old new (let d = ap (λ (v : StoreValue _). v.drawn.file) c.same in omega (arith, d)) (ap (λ (v : StoreValue _). v.files.files) c.same)) (λ n. ap (λ (v : StoreValue _). end_in n v.files.files) c.same))
    (record {
      drawn = let d = ap (λ (v : StoreValue _). v.drawn.instance) c.same in omega (arith, d);
      known = λ row. ap (λ (v : StoreValue _). knows_in v.instances.known row) c.same ∙ knows_compared row c.candidate c.alike old.instances.known;
    })))

-- ---- it is placed

free_number : (b : Bool) → (if b then Some (refusal.StoreFull 4294967294) else None) ≡ None → b ≡ false
free_number true e = absurd (let k : Some (refusal.StoreFull 4294967294) ≡ None = e in cc k)
free_number false e = refl

not_le : (a b : ℕ) → nat_le a b ≡ false → b < a
not_le a b e = grind (arith, common_steps, e)

pub few_drawn : (drawn : ℕ) → instance_refusal drawn ≡ None → drawn < 4294967294
few_drawn drawn e = not_le 4294967294 drawn (free_number (nat_le 4294967294 drawn) e)

same_id : (a b : InstRow) → is_same_instance a b ≡ true → a.id.0 ≡ b.id.0
same_id a b e = (bytes_eq-Decides a.id.0 b.id.0).0 (second (bytes_eq a.hash.0 b.hash.0) (bytes_eq a.id.0 b.id.0) e)
  where
    second : (p q : Bool) → (p && q) ≡ true → q ≡ true
    second true q k = k
    second false q k = absurd (let w : false ≡ true = k in cc w)

among_list : (row one : InstRow) (placed : List InstRow) → placed ≡ one ∷ [] → list_any (is_same_instance row) placed ≡ is_same_instance row one
among_list row one placed is = ap (list_any (is_same_instance row)) is ∙ or_none (is_same_instance row one)

none_given : (guid : List ℕ) (given : List (List ℕ)) → given ≡ [] → list_any (bytes_eq guid) given ≡ true → ⊥
none_given guid given none some = let k : false ≡ true = sym (ap (list_any (bytes_eq guid)) none) ∙ some in cc k

places_more : {D : Type 0} → (pins : ℕ → ℕ) (parts : SavedParts) (attaching more : AttachingValue) (next : SaveStage) (name : List ℕ) (time size : ℕ) (octets : List ℕ) (how : Did) (old new : StoreValue D) (before after : Option History) (began faulted : Faults)
    → EventOf (stage.Attaching parts attaching) next name time size octets progress.More how old new before after began faulted → PlacesNext attaching more old new → AttachingSteps pins parts attaching more name time octets old new before after began faulted
places_more pins parts attaching more next name time size octets how old new before after began faulted e p = λ behind.
    subst (λ (rows : List InstRow). StepsWithRoom (IsTakingFile attaching.found) (IsTakingFile rows) (around_saving octets (stage.Attaching parts attaching) old) behind (request.Deliver name time octets) (seen_of pins old before began) (seen_of pins new after faulted) did.Quiet None) (sym (ap (λ (a : AttachingValue). a.found) p.more_is))
    (places_part (around_saving octets (stage.Attaching parts attaching) old) behind name time octets attaching.found row (seen_of pins old before began) (seen_of pins new after faulted) (sees_around pins octets (stage.Attaching parts attaching) old before began e.is e.order e.ids)
    (p.compared) (is_left parts attaching octets e.left.1 e.parts) (next_number old e.kept e.id_long few) few
    (record {
      run = has_run pins old new before after began faulted e.ran runs (ap (λ (m : MapMeaning). m.boxes) map) (ap (λ (v : StoreValue _). indexes_of v.boxes) p.same) e.moments (e.rests runs) e.grows e.faults;
      map = map;
      due = λ uid. due_stays old new uid map (ap (λ (v : StoreValue _). v.dues) p.same);
    })
    (drawn ∙ drawn_instance old.drawn)
    (λ event none unmade placed. record {
      ran = λ k. e.ran;
      pins = λ n. refl;
      doomed = files.doomed;
      used = files.used;
      unused = λ n k. absurd (let w : false ≡ true = sym (ap (λ (fs : List ℕ). is_one_of fs n) unmade) ∙ k in cc w);
      barred = files.barred;
      gave = λ guid k. gave_on old new guid id (let d = ap (λ (h : Highest). h.file) drawn in omega (arith, d)) files.gave k;
      given = λ guid some. absurd (none_given guid event.given none some);
      gone = λ i k. gone_on old new i id (let d = ap (λ (h : Highest). h.instance) drawn in omega (arith, d)) k;
      files = λ n there. inl ((same_ends old new files ends).known n there);
      there = λ n was. still_there n event.made unmade was;
      instances = λ i.
          ap (λ (v : StoreValue _). knows_in v.instances.known i) p.same
          ∙ (knows_with old.instances p.part.hash (length p.part.octets) i e.ids (let high = e.kept.highest in omega (arith, high, few)) ∙ ap (λ (b : Bool). knows_instance old i || b) (sym (among_list i row event.placed placed)));
      ungone = λ i some. next_not_gone old i e.kept e.id_long few (same_id i row (sym (among_list i row event.placed placed) ∙ some));
    }))
  where
    row : InstRow
    row = part_row p.part (next_id old.instances)

    few : old.drawn.instance < 4294967294
    few = few_drawn old.drawn.instance p.few

    runs : new.stopped ≡ false
    runs = not_stopped new.stopped (progress.More ≡ stopped_reply) e.stopped more_differs

    map : new.map ≡ old.map
    map = ap (λ (v : StoreValue _). v.map) p.same

    id : new.map.store ≡ old.map.store
    id = ap (λ (m : MapMeaning). m.store) map

    drawn : new.drawn ≡ record old.drawn { instance = old.drawn.instance + 1 }
    drawn = ap (λ (v : StoreValue _). v.drawn) p.same

    ends : (n : ℕ) → end_in n new.files.files ≡ end_in n old.files.files
    ends n = ap (λ (v : StoreValue _). end_in n v.files.files) p.same

    still_there : (n : ℕ) (made : List ℕ) → made ≡ [] → (is_some (end_in n old.files.files) ≡ true) ⊎ (is_one_of made n ≡ true) → is_some (end_in n new.files.files) ≡ true
    still_there n made none (inl was) = ap (λ (o : Option ℕ). is_some o) (ends n) ∙ was
    still_there n made none (inr was) = absurd (let k : false ≡ true = sym (ap (λ (fs : List ℕ). is_one_of fs n) none) ∙ was in cc k)

    files : TellsFiles old new
    files = tells_same old new (let d = ap (λ (v : StoreValue _). v.drawn.file) p.same in omega (arith, d)) (ap (λ (v : StoreValue _). v.files.files) p.same)

-- ---- the event goes on

attaches_more : {D : Type 0} → (pins : ℕ → ℕ) (parts : SavedParts) (attaching more : AttachingValue) (next : SaveStage) (name : List ℕ) (time size : ℕ) (octets : List ℕ) (how : Did) (old new : StoreValue D) (before after : Option History) (began faulted : Faults)
    → EventOf (stage.Attaching parts attaching) next name time size octets progress.More how old new before after began faulted → AttachesNext attaching more old new → AttachingSteps pins parts attaching more name time octets old new before after began faulted
attaches_more pins parts attaching more next name time size octets how old new before after began faulted e (inl c) = compares_more pins parts attaching more next name time size octets how old new before after began faulted e c
attaches_more pins parts attaching more next name time size octets how old new before after began faulted e (inr p) = places_more pins parts attaching more next name time size octets how old new before after began faulted e p

pub attaching_on : {D : Type 0} → (pins : ℕ → ℕ) (parts laid : SavedParts) (attaching more : AttachingValue) (name : List ℕ) (time size : ℕ) (octets : List ℕ) (how : Did) (old new : StoreValue D) (before after : Option History) (began faulted : Faults)
    → EventOf (stage.Attaching parts attaching) (stage.Attaching laid more) name time size octets progress.More how old new before after began faulted → AttachesNext attaching more old new
    → DeliveryClause pins octets (stage.Attaching parts attaching) (stage.Attaching laid more) name time progress.More how old new before after began faulted
attaching_on pins parts laid attaching more name time size octets how old new before after began faulted e found =
    with_did pins octets (stage.Attaching parts attaching) (stage.Attaching laid more) name time progress.More how did.Quiet old new before after began faulted e.did_is
    (attaches_more pins parts attaching more (stage.Attaching laid more) name time size octets how old new before after began faulted e found)

-- each attachment has its instance
pub attaching_whole : {D : Type 0} → (pins : ℕ → ℕ) (parts named : SavedParts) (attaching more : AttachingValue) (name : List ℕ) (time size : ℕ) (octets : List ℕ) (how : Did) (old new : StoreValue D) (before after : Option History) (began faulted : Faults)
    → EventOf (stage.Attaching parts attaching) (stage.Taking named) name time size octets progress.More how old new before after began faulted → AttachesNext attaching more old new → NamesFound more.found parts named
    → DeliveryClause pins octets (stage.Attaching parts attaching) (stage.Taking named) name time progress.More how old new before after began faulted
attaching_whole pins parts named attaching more name time size octets how old new before after began faulted e found names =
    with_did pins octets (stage.Attaching parts attaching) (stage.Taking named) name time progress.More how did.Quiet old new before after began faulted e.did_is
    (λ behind. subst (λ (rows : List InstRow). StepsWithRoom (IsTakingFile attaching.found) (IsTakingFile rows) (around_saving octets (stage.Attaching parts attaching) old) behind (request.Deliver name time octets) (seen_of pins old before began) (seen_of pins new after faulted) did.Quiet None) (sym names.rows)
    (attaches_more pins parts attaching more (stage.Taking named) name time size octets how old new before after began faulted e found behind))

-- ---- it is refused

-- a store of which the disk alone may have changed
stays_told : {D : Type 0} → (pins : ℕ → ℕ) (old new : StoreValue D) (before after : Option History) (began faulted : Faults) → old.stopped ≡ false → new ≡ record old { disk = new.disk } → Lasts old.map before after → began.reads ≤ faulted.reads → began.changes ≤ faulted.changes → StaysSo no_numbers (seen_of pins old before began) (seen_of pins new after faulted)
stays_told pins old new before after began faulted ran same grows reads changes =
    stays_so pins no_numbers old new before after began faulted ran (ap (λ (v : StoreValue _). v.map) same) (ap (λ (v : StoreValue _). v.drawn) same ∙ sym (drawn_none old.drawn)) (ap (λ (v : StoreValue _). v.dues) same) (ap (λ (v : StoreValue _). indexes_of v.boxes) same)
    (let d = ap (λ (v : StoreValue _). v.drawn.file) same in omega (arith, d)) (same_ends old new (tells_same old new (let d = ap (λ (v : StoreValue _). v.drawn.file) same in omega (arith, d)) (ap (λ (v : StoreValue _). v.files.files) same)) (λ n. ap (λ (v : StoreValue _). end_in n v.files.files) same)) (knows_same old new (ap (λ (v : StoreValue _). v.instances) same) (ap (λ (v : StoreValue _). v.drawn.instance) same)) grows reads changes

equal_changes : (began faulted : Faults) → faulted.changes ≡ began.changes → began.changes ≤ faulted.changes
equal_changes began faulted e = omega (arith, e)

read_runs : (why : Refusal) → why ≡ refusal.ReadFault → why ≡ refusal.Stopped → ⊥
read_runs why is e = let k : refusal.ReadFault ≡ refusal.Stopped = sym is ∙ e in cc k

pub attaching_refused : {D : Type 0} → (pins : ℕ → ℕ) (parts : SavedParts) (attaching : AttachingValue) (why : Refusal) (name : List ℕ) (time size : ℕ) (octets : List ℕ) (how : Did) (old new : StoreValue D) (before after : Option History) (began faulted : Faults)
    → EventOf (stage.Attaching parts attaching) stage.Ended name time size octets (progress.Done (reply.Refused why)) how old new before after began faulted → AttachesNone attaching why old new
    → DeliveryClause pins octets (stage.Attaching parts attaching) stage.Ended name time (progress.Done (reply.Refused why)) how old new before after began faulted
attaching_refused pins parts attaching why name time size octets how old new before after began faulted e none = by_candidate (next_candidate attaching old.instances) refl e.replies
  where
    sees : SeesAround octets (around_saving octets (stage.Attaching parts attaching) old) (seen_of pins old before began)
    sees = sees_around pins octets (stage.Attaching parts attaching) old before began e.is e.order e.ids

    left : length attaching.found < count_detachable octets
    left = is_left parts attaching octets e.left.1 e.parts

    runs : (why ≡ refusal.Stopped → ⊥) → new.stopped ≡ false
    runs other = not_stopped new.stopped (progress.Done (reply.Refused why) ≡ stopped_reply) e.stopped (refused_differs why other)

    goes : (why ≡ refusal.Stopped → ⊥) → faulted ≡ began → new ≡ record old { disk = new.disk } → HasRun (seen_of pins old before began) (seen_of pins new after faulted)
    goes other calm same = has_run pins old new before after began faulted e.ran (runs other) (ap (λ (v : StoreValue _). v.map.boxes) same) (ap (λ (v : StoreValue _). indexes_of v.boxes) same) e.moments (e.rests (runs other)) e.grows calm

    unread : (candidate : InstRow) → next_candidate attaching old.instances ≡ Some candidate → why ≡ refusal.ReadFault → DeliveryClause pins octets (stage.Attaching parts attaching) stage.Ended name time (progress.Done (reply.Refused why)) how old new before after began faulted
    unread candidate next is =
        let fault : ReadFaultCounted (Unit {0}) began faulted = subst (λ (w : Refusal). FaultsAt (progress.Done (reply.Refused w)) began faulted) is e.faults in
        let made : AttachesNone attaching refusal.ReadFault old new = subst (λ (w : Refusal). AttachesNone attaching w old new) is none in
        let run = runs (read_runs why is) in
        with_did pins octets (stage.Attaching parts attaching) stage.Ended name time (progress.Done (reply.Refused why)) how did.Quiet old new before after began faulted (e.did_is ∙ ap failing_did is)
        (subst (λ (w : Refusal). DeliveryClause pins octets (stage.Attaching parts attaching) stage.Ended name time (progress.Done (reply.Refused w)) did.Quiet old new before after began faulted) (sym is)
        (λ behind. unread_save (around_saving octets (stage.Attaching parts attaching) old) behind name time octets Compares (IsTakingFile attaching.found) (IsAtSave stage.Ended) (seen_of pins old before began) (seen_of pins new after faulted) sees (ends_comparing name time octets)
        (comparing_at (around_saving octets (stage.Attaching parts attaching) old) name time octets attaching.found candidate left (next)) refl e.ran run (λ lists. record { stops = λ t. e.moments lists t.0; settled = λ t. e.rests run lists t.0 })
        (stays_told pins old new before after began faulted e.ran made.1 e.grows fault.reads (equal_changes began faulted fault.changes)) (fault.rose tt)))

    full : next_candidate attaching old.instances ≡ None → why ≡ refusal.StoreFull 4294967294 → nat_le 4294967294 old.drawn.instance ≡ true → DeliveryClause pins octets (stage.Attaching parts attaching) stage.Ended name time (progress.Done (reply.Refused why)) how old new before after began faulted
    full next is used =
        let made : AttachesNone attaching (refusal.StoreFull 4294967294) old new = subst (λ (w : Refusal). AttachesNone attaching w old new) is none in
        let step : is_step why ≡ true = ap is_step is in
        let other = step_calm why refusal.Stopped step refl in
        let calm = untold_faults why began faulted other (step_calm why refusal.ReadFault step refl) e.faults in
        with_did pins octets (stage.Attaching parts attaching) stage.Ended name time (progress.Done (reply.Refused why)) how (did.Step half.Whole) old new before after began faulted (e.did_is ∙ step_did why step)
        (λ behind. checked_save (around_saving octets (stage.Attaching parts attaching) old) behind name time octets PlacesInstance (IsTakingFile attaching.found) (IsAtSave stage.Ended) why (seen_of pins old before began) (seen_of pins new after faulted) sees (ends_placing_instance name time octets)
        (placing_instance_at (around_saving octets (stage.Attaching parts attaching) old) name time octets attaching.found left (next)) (λ run place said stood. stood.1) step
        (λ run lists event come shows. full_instances name time octets (seen_of pins old before began) used run lists event come shows ∙ ap (λ (w : Refusal). Some w) (sym is))
        (goes other calm made.1) (stays_told pins old new before after began faulted e.ran made.1 e.grows (same_reads began faulted calm) (same_changes began faulted calm)))

    forgotten : next_candidate attaching old.instances ≡ None → why ≡ refusal.NoMemory → DeliveryClause pins octets (stage.Attaching parts attaching) stage.Ended name time (progress.Done (reply.Refused why)) how old new before after began faulted
    forgotten next m =
        let made : AttachesNone attaching refusal.NoMemory old new = subst (λ (w : Refusal). AttachesNone attaching w old new) m none in
        let other : why ≡ refusal.Stopped → ⊥ = λ k. memory_runs (sym m ∙ k) in
        let calm = untold_faults why began faulted other (memory_unread why m) e.faults in
        with_did pins octets (stage.Attaching parts attaching) stage.Ended name time (progress.Done (reply.Refused why)) how did.Quiet old new before after began faulted (e.did_is ∙ ap failing_did m)
        (subst (λ (w : Refusal). DeliveryClause pins octets (stage.Attaching parts attaching) stage.Ended name time (progress.Done (reply.Refused w)) did.Quiet old new before after began faulted) (sym m)
        (λ behind. forgotten_save (around_saving octets (stage.Attaching parts attaching) old) behind name time octets PlacesInstance (IsTakingFile attaching.found) (IsAtSave stage.Ended) (seen_of pins old before began) (seen_of pins new after faulted) sees (ends_placing_instance name time octets)
        (placing_instance_at (around_saving octets (stage.Attaching parts attaching) old) name time octets attaching.found left (next)) refl (λ run place said stood. stood.1) (goes other calm made.1)
        (stays_told pins old new before after began faulted e.ran made.1 e.grows (same_reads began faulted calm) (same_changes began faulted calm))))

    fell : next_candidate attaching old.instances ≡ None → why ≡ refusal.Stopped → DeliveryClause pins octets (stage.Attaching parts attaching) stage.Ended name time (progress.Done (reply.Refused why)) how old new before after began faulted
    fell next is =
        let made : AttachesNone attaching refusal.Stopped old new = subst (λ (w : Refusal). AttachesNone attaching w old new) is none in
        let fault = fell_by why began faulted is e.faults in
        let k = made.2 in
        let stop : progress.Done (reply.Refused why) ≡ stopped_reply = ap (λ (w : Refusal). progress.Done (reply.Refused w)) is in
        let drawn = ap (λ (v : StoreValue _). v.drawn) k in
        let number = ap (λ (h : Highest). h.instance) drawn in
        with_did pins octets (stage.Attaching parts attaching) stage.Ended name time (progress.Done (reply.Refused why)) how did.Failed old new before after began faulted (e.did_is ∙ ap failing_did is)
        (subst (λ (w : Refusal). DeliveryClause pins octets (stage.Attaching parts attaching) stage.Ended name time (progress.Done (reply.Refused w)) did.Failed old new before after began faulted) (sym is)
        (λ behind. fallen_save (around_saving octets (stage.Attaching parts attaching) old) behind name time octets PlacesInstance (IsTakingFile attaching.found) (IsAtSave stage.Ended) (record no_numbers { instance = 1 }) (seen_of pins old before began) (seen_of pins new after faulted) sees (ends_placing_instance name time octets)
        (placing_instance_at (around_saving octets (stage.Attaching parts attaching) old) name time octets attaching.found left (next)) (λ run event. inr refl)
        (stays_so pins (record no_numbers { instance = 1 }) old new before after began faulted e.ran (ap (λ (v : StoreValue _). v.map) k) (drawn ∙ drawn_instance old.drawn) (ap (λ (v : StoreValue _). v.dues) k) (ap (λ (v : StoreValue _). indexes_of v.boxes) k)
        (let d = ap (λ (h : Highest). h.file) drawn in omega (arith, d)) (same_ends old new (tells_same old new (let d = ap (λ (v : StoreValue _). v.drawn.file) k in omega (arith, d)) (ap (λ (v : StoreValue _). v.files.files) k)) (λ n. ap (λ (v : StoreValue _). end_in n v.files.files) k))
        (record { drawn = omega (arith, number); known = λ row. ap (λ (v : StoreValue _). knows_in v.instances.known row) k }) e.grows (equal_reads began faulted fault.reads) fault.changes)
        e.ran (e.stopped.0 stop) (fault.rose tt) (λ lists t. e.moments lists t.0)))

    by_candidate : (o : Option InstRow) → next_candidate attaching old.instances ≡ o → IsAttachRefusal o old.drawn.instance why → DeliveryClause pins octets (stage.Attaching parts attaching) stage.Ended name time (progress.Done (reply.Refused why)) how old new before after began faulted
    by_candidate (Some candidate) next is = unread candidate next is
    by_candidate None next (inl used) = let u = uid_full (nat_le 4294967294 old.drawn.instance) why used in full next u.1 u.0
    by_candidate None next (inr (some, inl is)) = fell next is
    by_candidate None next (inr (some, inr m)) = forgotten next m
