-- The events of a delivery up to that which stores the message, by the clause of a step.
use Rattle.mail_save.proofs.Common.{◌≡◌, ◌≤◌, ◌<◌, ◌+◌, ◌⊎◌, ◌==◌, ◌||◌, ℕ, Bool, true, false, not, cond, List, [], ◌∷◌, ◌++◌, Option, Some, None, refl, sym, ◌∙◌, ap, subst, append_assoc, arith, inl, inr, nat_lt, nat_le, is_none, is_some, filter, flat_map, if◌then◌else◌, AllByRecursion, list_any}
use Rattle.mail_save.proofs.Common.{option_map_or, option_or, bytes_eq, eq-eqb, common_steps, flat_map-append, All-nil, All-cons, All-append, list_any-append, bytes_eq-Decides, told_calls, IsOctets, Highest, InstRow, Lists, MapFits, MapMeaning, map_applied, no_numbers, guid_file, number_at}
use Rattle.mail_save.proofs.Common.{parts_in, First, Compares, PlacesInstance, TakesFile, PlacesMessage, StoresRecord, Last, RunEvent, Run, and_then, own_events, map_of, drawn_of, drawn_also, is_one_of, first_refusal, refused_where, part_checks, Around, next_part, FindsPlace, fall, comes_drawn}
use Rattle.mail_save.proofs.Common.{one_due, Seen, ShowsSeen, HasComeTo, HasNotBegun, drawn_none, StepsWithRoom, AreAttachedSoFar, HasAttached, IsTakingFile, IsPlacingMessage, IsStoringMessage, IsAddingMessage}
use Rattle.std.specs.Prelude.{◌≢◌, length, All}
use Rattle.std.specs.Option.{IfSome}
use Rattle.std.proofs.lemmas.List.{append-nil}
use Rattle.std.proofs.lemmas.List.Elements.{filter-append}
use Rattle.mdbox_base.specs.declared.entries.MapEntry.TheVariants as map_entry
use Rattle.mdbox_base.specs.declared.progress.Did.TheVariants as did
use Rattle.mdbox_base.specs.declared.replies.Refusal.TheVariants as refusal
use Rattle.mdbox_base.specs.declared.requests.Request.TheVariants as request
use Rattle.model_meaning.specs.MapMeaning.{instance_number, is_sealed}
use Rattle.list_machine.specs.Run.{event_of, given_by_others}
use Rattle.journal.specs.Events.{instances_found}
use Rattle.journal.specs.Found.{IsFreeFile, is_known_instance, is_taken}
use Rattle.journal.proofs.OwnEventLemmas.{own_more}
use Rattle.task_steps.proofs.EventLaws.{own_event}
use Rattle.task_steps.specs.Step.{was_given, FindsRoom}
use Rattle.task_steps.proofs.SeenLemmas.{no_guids, is_new}
use Rattle.mail_save.proofs.SaveRunLemmas.{attaches_next, found_in, part_after, takes_next, places_next, stores_next, taken_file, given_guid, found_rows}
use Rattle.mail_save.proofs.SaveDidLemmas.{or_none, some_part, given_more, HasRun, KeepsTelling, TellsMore, comes_stored, comes_to_more, tells_on, quiet_on}

-- ---- what an event finds

-- It knows how many parts of the message are to be detached; a candidate is known, and a file that has room may be taken and
-- appended to.
pub record SeesAround (octets : List ℕ) (around : Around) (seen : Seen) : Type 0 where
  pub parts : around.parts ≡ length (filter (λ part. part.detachable) (parts_in octets))
  pub candidate : (instance : InstRow) → around.candidate ≡ Some instance → seen.instances instance ≡ true
  pub some : (file : ℕ) → around.room ≡ Some file → 1 ≤ file
  pub known : (file : ℕ) → around.room ≡ Some file → seen.files file ≡ true
  pub unsealed : (file : ℕ) → around.room ≡ Some file → is_sealed seen.map file ≡ false
  pub undoomed : (file : ℕ) → around.room ≡ Some file → seen.doomed file ≡ false
  pub unbarred : (file : ℕ) → around.room ≡ Some file → seen.barred file ≡ false

not_so : (b : Bool) → (b ≡ true → ⊥) → b ≡ false
not_so true f = absurd (f refl)
not_so false f = refl

pub finds_place : (octets : List ℕ) (around : Around) (run : Run) (seen : Seen) → SeesAround octets around seen → HasComeTo run seen → seen.stopped ≡ false → FindsRoom around run → FindsPlace run around
finds_place octets around run seen s come runs free = record { candidate = by_candidate around.candidate refl; room = by_room around.room refl free; unbarred = by_bars around.room refl }
  where
    by_candidate : (o : Option InstRow) → around.candidate ≡ o → IfSome o (λ instance. is_known_instance run instance ≡ true)
    by_candidate None e = tt
    by_candidate (Some instance) e = (come.keeps runs).instances instance ∙ s.candidate instance e

    by_room : (o : Option ℕ) → around.room ≡ o → IfSome o (λ file. is_taken run file ≡ false) → IfSome o (IsFreeFile run)
    by_room None e untaken = tt
    by_room (Some file) e untaken = record {
      some = s.some file e;
      known = come.files file (s.known file e);
      untaken = untaken;
      unsealed = ap (λ (m : MapMeaning). is_sealed m file) come.come.map_is ∙ s.unsealed file e;
      undoomed = (come.keeps runs).doomed file ∙ s.undoomed file e;
    }

    by_bars : (o : Option ℕ) → around.room ≡ o → IfSome o (λ file. is_one_of run.barred file ≡ false)
    by_bars None e = tt
    by_bars (Some file) e = not_so (is_one_of run.barred file) (λ b. fall (seen.barred file) (come.barred file b) (s.unbarred file e))

-- ---- the message is laid out

pub own_first : (place : ℕ) (run : Run) (event : RunEvent) (before : List RunEvent) → event.request ≡ place → own_events place run ≡ before → own_events place (and_then run event) ≡ before ++ event ∷ []
own_first place run event before own is = own_more place run event (eq-eqb event.request place own) ∙ ap (λ (es : List RunEvent). es ++ event ∷ []) is

-- a store that goes on, and keeps its map and what is due
pub record KeepsMap (old new : Seen) : Type 0 where
  pub run : HasRun old new
  pub map : new.map ≡ old.map
  pub due : (uid : ℕ) → new.due uid ≡ old.due uid

-- behind an event that finds no file there is one
by_tests : (b c d : Bool) → (if b then (if c then Some Compares else Some PlacesInstance) else Some (TakesFile d)) ≡ None → ⊥
by_tests true true d e = some_part Compares e
by_tests true false d e = some_part PlacesInstance e
by_tests false c d e = some_part (TakesFile d) e

never_last : (around : Around) (run : Run) (place : ℕ) → part_after around run place ≡ None → ⊥
never_last around run place e = by_tests (nat_lt (length (instances_found place run)) around.parts) (is_some around.candidate) (is_none around.room) e

pub begins_save : (around after : Around) (name : List ℕ) (time : ℕ) (octets : List ℕ) (old new : Seen) → SeesAround octets around old → KeepsMap old new → new.drawn ≡ old.drawn → KeepsTelling old new
    → ((run : Run) (lists : Lists) (event : RunEvent) → HasComeTo run old → ShowsSeen old lists → first_refusal run lists (part_checks run event (request.Deliver name time octets) First) ≡ None)
    → StepsWithRoom HasNotBegun (IsTakingFile []) around after (request.Deliver name time octets) old new did.Quiet None
begins_save around after name time octets old new sees keeps drawn tells allowed = λ run lane place said lists come shows stood.
    let q = request.Deliver name time octets in
    let event : RunEvent = event_of lane place First (told_calls new.history) in
    quiet_on around after run lane place said q lists old new event (IsTakingFile [])
    (record {
      own = own_event event refl;
      finds = sees.parts;
      found = λ looked. finds_place octets around run old sees come keeps.run.ran (stood.1 keeps.run.ran);
      part_is = ap (λ (es : List RunEvent). next_part around run q es) stood.0.0;
      allowed = allowed run lists event come shows;
      did = refl;
      fits = All-nil (MapFits (map_of run));
      ends = record { 0 = λ h. absurd (h refl); 1 = λ h. absurd (never_last after (and_then run event) place h) };
      replied = tt;
    })
    refl keeps.run
    (comes_to_more run event old new come (comes_drawn run event old new come keeps.map (drawn ∙ sym (drawn_none old.drawn)) keeps.run.grows.grows refl refl) (λ uid. let e = keeps.due uid in omega (arith, e)) (record { pins = refl; unpins = refl; doomed = refl; removed = refl; gone = refl }) (tells_on event old new refl refl refl tells))
    (no_guids run event refl) shows
    (record { first = event; more = []; own_are = own_first place run event [] refl stood.0.0; laid = record { part = refl; did = refl }; attached = tt; found = refl }, stood.0.1)

-- ---- an attachment is compared, or placed

all_push : (P : RunEvent → Type 0) (events : List RunEvent) (event : RunEvent) → AllByRecursion P events → P event → AllByRecursion P (events ++ event ∷ [])
all_push P [] event all one = (one, tt)
all_push P (e ∷ es) event all one = (all.0, all_push P es event all.1 one)

-- one more found an instance, or has compared one
attached_more : (rows found : List InstRow) (place : ℕ) (run : Run) (event : RunEvent) → event.request ≡ place → HasAttached event → found_in event ≡ found → AreAttachedSoFar rows (own_events place run) → AreAttachedSoFar (rows ++ found) (own_events place (and_then run event))
attached_more rows found place run event own attached is s = record {
  first = s.first;
  more = s.more ++ event ∷ [];
  own_are = own_first place run event (s.first ∷ s.more) own s.own_are;
  laid = s.laid;
  attached = all_push HasAttached s.more event s.attached attached;
  found = flat_map-append found_in s.more (event ∷ []) ∙ (ap (λ (is : List InstRow). is ++ (found_in event ++ [])) s.found ∙ ap (λ (is : List InstRow). rows ++ is) (append-nil (found_in event) ∙ is));
}

-- what was found with a candidate that is alike, or not
abbrev pub found_with : Bool → InstRow → List InstRow → List InstRow
found_with alike candidate rows = if alike then rows ++ candidate ∷ [] else rows

found_more : (alike : Bool) (candidate : InstRow) (rows : List InstRow) → rows ++ (if alike then candidate ∷ [] else []) ≡ found_with alike candidate rows
found_more true candidate rows = refl
found_more false candidate rows = append-nil rows

pub compares_part : (around after : Around) (name : List ℕ) (time : ℕ) (octets : List ℕ) (rows : List InstRow) (candidate : InstRow) (alike : Bool) (old new : Seen) → SeesAround octets around old → around.candidate ≡ Some candidate → length rows < around.parts → KeepsMap old new → new.drawn ≡ old.drawn → KeepsTelling old new
    → StepsWithRoom (IsTakingFile rows) (IsTakingFile (found_with alike candidate rows)) around after (request.Deliver name time octets) old new did.Quiet None
compares_part around after name time octets rows candidate alike old new sees next left keeps drawn tells = λ run lane place said lists come shows stood.
    let q = request.Deliver name time octets in
    let event : RunEvent = record (event_of lane place Compares (told_calls new.history)) { compared = candidate ∷ []; equal = if alike then candidate ∷ [] else [] } in
    let s = stood.0.0 in
    quiet_on around after run lane place said q lists old new event (IsTakingFile (found_with alike candidate rows))
    (record {
      own = own_event event refl;
      finds = sees.parts;
      found = λ looked. finds_place octets around run old sees come keeps.run.ran (stood.1 keeps.run.ran);
      part_is = attaches_next around run name time octets rows place left s ∙ ap (λ (o : Option InstRow). if is_some o then Some Compares else Some PlacesInstance) next;
      allowed = refl;
      did = (candidate, alike, next, refl);
      fits = All-nil (MapFits (map_of run));
      ends = record { 0 = λ h. absurd (h refl); 1 = λ h. absurd (never_last after (and_then run event) place h) };
      replied = tt;
    })
    refl keeps.run
    (comes_to_more run event old new come (comes_drawn run event old new come keeps.map (drawn ∙ sym (drawn_none old.drawn)) keeps.run.grows.grows refl refl) (λ uid. let e = keeps.due uid in omega (arith, e)) (record { pins = refl; unpins = refl; doomed = refl; removed = refl; gone = refl }) (tells_on event old new refl refl refl tells))
    (no_guids run event refl) shows (
      subst (λ (is : List InstRow). AreAttachedSoFar is (own_events place (and_then run event))) (found_more alike candidate rows)
          (attached_more rows (if alike then candidate ∷ [] else []) place run event refl (record { part = inl refl; did = refl }) (append-nil (if alike then candidate ∷ [] else [])) s),
      stood.0.1,
    )

-- the next running number
few_left : (drawn : ℕ) → drawn < 4294967294 → nat_le 4294967294 drawn ≡ false
few_left drawn l = grind (arith, common_steps, l)

pub places_part : (around after : Around) (name : List ℕ) (time : ℕ) (octets : List ℕ) (rows : List InstRow) (row : InstRow) (old new : Seen) → SeesAround octets around old → around.candidate ≡ None → length rows < around.parts → instance_number old.map.store row.id.0 ≡ old.drawn.instance + 1 → old.drawn.instance < 4294967294
    → KeepsMap old new → new.drawn ≡ drawn_also old.drawn (record no_numbers { instance = 1 }) → ((event : RunEvent) → event.given ≡ [] → event.made ≡ [] → event.placed ≡ row ∷ [] → TellsMore event old new)
    → StepsWithRoom (IsTakingFile rows) (IsTakingFile (rows ++ row ∷ [])) around after (request.Deliver name time octets) old new did.Quiet None
places_part around after name time octets rows row old new sees none left number few keeps drawn tells = λ run lane place said lists come shows stood.
    let q = request.Deliver name time octets in
    let event : RunEvent = record (event_of lane place PlacesInstance (told_calls new.history)) { placed = row ∷ []; drew = record no_numbers { instance = 1 } } in
    let s = stood.0.0 in
    let id : run.store ≡ old.map.store = ap (λ (m : MapMeaning). m.store) come.come.map_is in
    let same : (drawn_of run).instance ≡ old.drawn.instance = ap (λ (d : Highest). d.instance) come.come.drawn_is in
    quiet_on around after run lane place said q lists old new event (IsTakingFile (rows ++ row ∷ []))
    (record {
      own = own_event event refl;
      finds = sees.parts;
      found = λ looked. finds_place octets around run old sees come keeps.run.ran (stood.1 keeps.run.ran);
      part_is = attaches_next around run name time octets rows place left s ∙ ap (λ (o : Option InstRow). if is_some o then Some Compares else Some PlacesInstance) none;
      allowed = ap (λ (b : Bool). option_or (refused_where b (refusal.StoreFull 4294967294)) None) (few_left (drawn_of run).instance (omega (arith, same, few)));
      did = (row, ap (λ (k : List ℕ). instance_number k row.id.0) id ∙ (number ∙ ap (λ (n : ℕ). n + 1) (sym same)), refl);
      fits = All-nil (MapFits (map_of run));
      ends = record { 0 = λ h. absurd (h refl); 1 = λ h. absurd (never_last after (and_then run event) place h) };
      replied = tt;
    })
    refl keeps.run
    (comes_to_more run event old new come (comes_drawn run event old new come keeps.map drawn keeps.run.grows.grows refl refl) (λ uid. let e = keeps.due uid in omega (arith, e)) (record { pins = refl; unpins = refl; doomed = refl; removed = refl; gone = refl }) (tells event refl refl refl))
    (no_guids run event refl) shows (attached_more rows (row ∷ []) place run event refl (record { part = inr refl; did = refl }) refl s, stood.0.1)

-- ---- a file is taken

pub made_itself : (file other : ℕ) → file ≡ other → is_one_of (file ∷ []) other ≡ true
made_itself file other e = ap (λ (b : Bool). b || false) (eq-eqb file other e)

-- one that is there and has room
pub takes_known : (around after : Around) (name : List ℕ) (time : ℕ) (octets : List ℕ) (rows : List InstRow) (file : ℕ) (old new : Seen) → SeesAround octets around old → length rows ≡ around.parts → around.room ≡ Some file → KeepsMap old new → new.drawn ≡ old.drawn → KeepsTelling old new
    → StepsWithRoom (IsTakingFile rows) (IsPlacingMessage rows file) around after (request.Deliver name time octets) old new did.Quiet None
takes_known around after name time octets rows file old new sees all room keeps drawn tells = λ run lane place said lists come shows stood.
    let q = request.Deliver name time octets in
    let event : RunEvent = record (event_of lane place (TakesFile false) (told_calls new.history)) { files = record { file = file; target = 0 } ∷ [] } in
    let s = stood.0.0 in
    quiet_on around after run lane place said q lists old new event (IsPlacingMessage rows file)
    (record {
      own = own_event event refl;
      finds = sees.parts;
      found = λ looked. finds_place octets around run old sees come keeps.run.ran (stood.1 keeps.run.ran);
      part_is = takes_next around run name time octets rows place all s ∙ ap (λ (r : Option ℕ). Some (TakesFile (is_none r))) room;
      allowed = refl;
      did = ap (λ (r : Option ℕ). record (event_of lane place (TakesFile false) (told_calls new.history)) { files = record { file = option_map_or (λ f. f) r ((drawn_of run).file + 1); target = 0 } ∷ [] }) (sym room);
      fits = All-nil (MapFits (map_of run));
      ends = record { 0 = λ h. absurd (h refl); 1 = λ h. absurd (some_part PlacesMessage h) };
      replied = tt;
    })
    refl keeps.run
    (comes_to_more run event old new come (comes_drawn run event old new come keeps.map (drawn ∙ sym (drawn_none old.drawn)) keeps.run.grows.grows refl refl) (λ uid. let e = keeps.due uid in omega (arith, e)) (record { pins = refl; unpins = refl; doomed = refl; removed = refl; gone = refl }) (tells_on event old new refl refl refl tells))
    (no_guids run event refl) shows
    (record { front = own_events place run; second = event; own_are = own_first place run event (own_events place run) refl refl; attached = s; took = record { new = false; part = refl; did = refl } }, stood.0.1)

-- a new one, with the next number
next_fits : (drawn : ℕ) → drawn < 4294967294 → nat_lt 4294967294 (drawn + 1) ≡ false
next_fits drawn l = grind (arith, common_steps, l)

pub takes_new : (around after : Around) (name : List ℕ) (time : ℕ) (octets : List ℕ) (rows : List InstRow) (file : ℕ) (old new : Seen) → SeesAround octets around old → length rows ≡ around.parts → around.room ≡ None → file ≡ old.drawn.file + 1 → old.drawn.file < 4294967294 → KeepsMap old new → new.drawn ≡ drawn_also old.drawn (record no_numbers { file = 1 })
    → ((event : RunEvent) → event.given ≡ [] → event.made ≡ file ∷ [] → event.placed ≡ [] → TellsMore event old new)
    → StepsWithRoom (IsTakingFile rows) (IsPlacingMessage rows file) around after (request.Deliver name time octets) old new did.Quiet None
takes_new around after name time octets rows file old new sees all room next few keeps drawn tells = λ run lane place said lists come shows stood.
    let q = request.Deliver name time octets in
    let event : RunEvent = record (event_of lane place (TakesFile true) (told_calls new.history)) { files = record { file = file; target = 0 } ∷ []; made = file ∷ []; drew = record no_numbers { file = 1 } } in
    let s = stood.0.0 in
    let same : (drawn_of run).file ≡ old.drawn.file = ap (λ (d : Highest). d.file) come.come.drawn_is in
    let number : file ≡ (drawn_of run).file + 1 = next ∙ ap (λ (n : ℕ). n + 1) (sym same) in
    quiet_on around after run lane place said q lists old new event (IsPlacingMessage rows file)
    (record {
      own = own_event event refl;
      finds = sees.parts;
      found = λ looked. finds_place octets around run old sees come keeps.run.ran (stood.1 keeps.run.ran);
      part_is = takes_next around run name time octets rows place all s ∙ ap (λ (r : Option ℕ). Some (TakesFile (is_none r))) room;
      allowed = ap (λ (b : Bool). option_or (refused_where b (refusal.StoreFull 4294967294)) None) (next_fits (drawn_of run).file (omega (arith, same, few)));
      did = ap (λ (n : ℕ). record (event_of lane place (TakesFile true) (told_calls new.history)) { files = record { file = n; target = 0 } ∷ []; made = n ∷ []; drew = record no_numbers { file = 1 } }) number
          ∙ ap (λ (r : Option ℕ). record (event_of lane place (TakesFile true) (told_calls new.history)) { files = record { file = option_map_or (λ f. f) r ((drawn_of run).file + 1); target = 0 } ∷ []; made = ((drawn_of run).file + 1) ∷ []; drew = record no_numbers { file = 1 } }) (sym room);
      fits = All-nil (MapFits (map_of run));
      ends = record { 0 = λ h. absurd (h refl); 1 = λ h. absurd (some_part PlacesMessage h) };
      replied = tt;
    })
    refl keeps.run
    (comes_to_more run event old new come (comes_drawn run event old new come keeps.map drawn keeps.run.grows.grows refl refl) (λ uid. let e = keeps.due uid in omega (arith, e)) (record { pins = refl; unpins = refl; doomed = refl; removed = refl; gone = refl })
    (tells event refl refl refl))
    (no_guids run event refl) shows
    (record { front = own_events place run; second = event; own_are = own_first place run event (own_events place run) refl refl; attached = s; took = record { new = true; part = refl; did = refl } }, stood.0.1)

-- ---- the message is placed

differs : (a b : List ℕ) → bytes_eq b a ≡ false → a ≢ b
differs a b none e = let k : true ≡ false = sym ((bytes_eq-Decides b a).1 (sym e)) ∙ none in cc k

none_is : (guid : List ℕ) (given : List (List ℕ)) → list_any (bytes_eq guid) given ≡ false → All (λ other. other ≢ guid) given
none_is guid [] e = All-nil (λ (other : List ℕ). other ≢ guid)
none_is guid (g ∷ gs) e = by_tests (bytes_eq guid g) refl e (none_is guid gs)
  where
    by_tests : (b : Bool) → bytes_eq guid g ≡ b → (b || list_any (bytes_eq guid) gs) ≡ false → (list_any (bytes_eq guid) gs ≡ false → All (λ other. other ≢ guid) gs) → All (λ other. other ≢ guid) (g ∷ gs)
    by_tests true t k rest = absurd (let f : true ≡ false = k in cc f)
    by_tests false t k rest = All-cons (λ (other : List ℕ). other ≢ guid) g gs (differs g guid t) (rest k)

or_false : (a b : Bool) → (a || b) ≡ false → (a ≡ false) × (b ≡ false)
or_false true b e = absurd (let k : true ≡ false = e in cc k)
or_false false b e = (refl, e)

none_by_others : (place : ℕ) (guid : List ℕ) (events : List RunEvent) → list_any (bytes_eq guid) (flat_map (λ (e : RunEvent). e.given) events) ≡ false → All (λ other. other ≢ guid) (flat_map (λ (e : RunEvent). e.given) (filter (λ (e : RunEvent). not (e.request == place)) events))
none_by_others place guid [] h = All-nil (λ (other : List ℕ). other ≢ guid)
none_by_others place guid (e ∷ es) h = by_test (λ k. none_by_others place guid es k) (e.request == place) (or_false (list_any (bytes_eq guid) e.given) (list_any (bytes_eq guid) (flat_map (λ (x : RunEvent). x.given) es)) (sym (list_any-append (bytes_eq guid) e.given (flat_map (λ (x : RunEvent). x.given) es)) ∙ h))
  where
    by_test : (list_any (bytes_eq guid) (flat_map (λ (x : RunEvent). x.given) es) ≡ false → All (λ other. other ≢ guid) (flat_map (λ (x : RunEvent). x.given) (filter (λ (x : RunEvent). not (x.request == place)) es)))
        → (b : Bool) → (list_any (bytes_eq guid) e.given ≡ false) × (list_any (bytes_eq guid) (flat_map (λ (x : RunEvent). x.given) es) ≡ false)
        → All (λ other. other ≢ guid) (flat_map (λ (x : RunEvent). x.given) (cond (not b) (e ∷ filter (λ (x : RunEvent). not (x.request == place)) es) (filter (λ (x : RunEvent). not (x.request == place)) es)))
    by_test rest true k = rest k.1
    by_test rest false k = All-append (λ (other : List ℕ). other ≢ guid) e.given (flat_map (λ (x : RunEvent). x.given) (filter (λ (x : RunEvent). not (x.request == place)) es)) (none_is guid e.given k.0) (rest k.1)

pub own_left : (place : ℕ) (run : Run) (event : RunEvent) → event.request ≡ place → given_by_others place (and_then run event) ≡ given_by_others place run
own_left place run event own =
    ap (λ (es : List RunEvent). flat_map (λ (x : RunEvent). x.given) es) (filter-append (λ (x : RunEvent). not (x.request == place)) run.events (event ∷ [])
    ∙ (ap (λ (b : Bool). filter (λ (x : RunEvent). not (x.request == place)) run.events ++ cond (not b) (event ∷ []) []) (eq-eqb event.request place own) ∙ append-nil (filter (λ (x : RunEvent). not (x.request == place)) run.events)))

or_true : (b : Bool) → (b || true) ≡ true
or_true true = refl
or_true false = refl

given_now : (run : Run) (event : RunEvent) (guid : List ℕ) → event.given ≡ guid ∷ [] → was_given (and_then run event) guid ≡ true
given_now run event guid is =
    given_more run event guid ∙ (ap (λ (gs : List (List ℕ)). was_given run guid || list_any (bytes_eq guid) gs) is ∙ (ap (λ (b : Bool). was_given run guid || (b || false)) ((bytes_eq-Decides guid guid).1 refl) ∙ or_true (was_given run guid)))

pub places_message : (around after : Around) (name : List ℕ) (time : ℕ) (octets : List ℕ) (rows : List InstRow) (file : ℕ) (guid : List ℕ) (old new : Seen) → SeesAround octets around old → length guid ≡ 16 → IsOctets guid → guid_file old.map.store guid ≡ file → old.gave guid ≡ false → KeepsMap old new → new.drawn ≡ old.drawn
    → KeepsTelling old new → new.gave guid ≡ true
    → StepsWithRoom (IsPlacingMessage rows file) (IsStoringMessage rows file guid) around after (request.Deliver name time octets) old new did.Quiet None
places_message around after name time octets rows file guid old new sees long each named fresh keeps drawn tells gave = λ run lane place said lists come shows stood.
    let q = request.Deliver name time octets in
    let event : RunEvent = record (event_of lane place PlacesMessage (told_calls new.history)) { given = guid ∷ [] } in
    let s = stood.0.0 in
    let id : run.store ≡ old.map.store = ap (λ (m : MapMeaning). m.store) come.come.map_is in
    let own : guid_file run.store guid ≡ file = ap (λ (k : List ℕ). guid_file k guid) id ∙ named in
    let unknown : was_given run guid ≡ false = is_new run old guid come fresh in
    quiet_on around after run lane place said q lists old new event (IsStoringMessage rows file guid)
    (record {
      own = own_event event refl;
      finds = sees.parts;
      found = λ looked. finds_place octets around run old sees come keeps.run.ran (stood.1 keeps.run.ran);
      part_is = places_next around run name time octets rows file (own_events place run) s;
      allowed = refl;
      did = (guid, taken_file place run rows file s ∙ ap (λ (n : ℕ). Some n) (sym own), long, refl);
      fits = All-nil (MapFits (map_of run));
      ends = record { 0 = λ h. absurd (h refl); 1 = λ h. absurd (some_part StoresRecord h) };
      replied = tt;
    })
    refl keeps.run
    (comes_to_more run event old new come (comes_drawn run event old new come keeps.map (drawn ∙ sym (drawn_none old.drawn)) keeps.run.grows.grows refl refl) (λ uid. let e = keeps.due uid in omega (arith, e)) (record { pins = refl; unpins = refl; doomed = refl; removed = refl; gone = refl })
    (record {
      ran = tells.ran;
      pins = tells.pins;
      doomed = tells.doomed;
      used = tells.used;
      unused = λ f made. absurd (let k : false ≡ true = made in cc k);
      barred = tells.barred;
      gave = tells.gave;
      given = λ g some. by_guid g some;
      gone = tells.gone;
      files = λ f e. inl (tells.files f e);
      there = λ f e. by_maker f e;
      instances = λ i. tells.instances i ∙ sym (or_none (old.instances i));
      ungone = λ i placed. absurd (let k : false ≡ true = placed in cc k);
    }))
    (All-cons (λ (g : List ℕ). was_given run g ≡ false) guid [] unknown (All-nil (λ (g : List ℕ). was_given run g ≡ false))) shows (
      record { front = s.front; second = s.second; third = event; own_are = own_first place run event (s.front ++ s.second ∷ []) refl s.own_are ∙ append_assoc s.front (s.second ∷ []) (event ∷ []); attached = s.attached; took = s.took; placed = record { part = refl; did = refl } },
      own,
      record {
        long = long;
        each = each;
        given = given_now run event guid refl;
        once = subst (λ (gs : List (List ℕ)). All (λ other. other ≢ guid) gs) (sym (own_left place run event refl)) (none_by_others place guid run.events unknown);
      },
      stood.0.1,
    )
  where
    or_nothing : (b : Bool) → (b || false) ≡ true → b ≡ true
    or_nothing true e = refl
    or_nothing false e = e

    by_maker : (f : ℕ) → (old.files f ≡ true) ⊎ (is_one_of [] f ≡ true) → new.files f ≡ true
    by_maker f (inl e) = tells.there f e
    by_maker f (inr e) = absurd (let k : false ≡ true = e in cc k)

    by_guid : (g : List ℕ) → list_any (bytes_eq g) (guid ∷ []) ≡ true → new.gave g ≡ true
    by_guid g some = subst (λ (k : List ℕ). new.gave k ≡ true) (sym ((bytes_eq-Decides g guid).0 (or_nothing (bytes_eq g guid) some))) gave

-- ---- the message is stored

few_uids : (drawn : ℕ) → drawn < 4294967294 → nat_le 4294967294 drawn ≡ false
few_uids drawn l = grind (arith, common_steps, l)

stored_due : (old new held uid : ℕ) → new ≡ old + one_due held uid → new + 0 ≡ old + ((0 + one_due held uid) + 0)
stored_due old new held uid e = omega (arith, e)

abbrev stored_event : ℕ → ℕ → ℕ → ℕ → ℕ → ℕ → List ℕ → List InstRow → ℕ → RunEvent
stored_event lane place number f at long g is calls = record (event_of lane place StoresRecord calls) {
  map_entries = map_entry.S 0 1 (record { 0 = number }) (record { 0 = f }) at long (record { 0 = g }) is ∷ [];
  drew = record no_numbers { map = 1 };
}

pub stores_message : (around after : Around) (name : List ℕ) (time : ℕ) (octets : List ℕ) (rows : List InstRow) (file : ℕ) (guid : List ℕ) (uid size offset : ℕ) (old new : Seen) → SeesAround octets around old → uid ≡ old.drawn.map + 1 → old.drawn.map < 4294967294 → offset ≡ number_at 12 guid
    → MapFits old.map (map_entry.S 0 1 (record { 0 = uid }) (record { 0 = file }) offset size (record { 0 = guid }) rows) → HasRun old new
    → new.map ≡ map_applied (map_entry.S 0 1 (record { 0 = uid }) (record { 0 = file }) offset size (record { 0 = guid }) rows) old.map → new.drawn ≡ drawn_also old.drawn (record no_numbers { map = 1 }) → ((other : ℕ) → new.due other ≡ old.due other + one_due uid other) → KeepsTelling old new
    → StepsWithRoom (IsStoringMessage rows file guid) (IsAddingMessage guid uid) around after (request.Deliver name time octets) old new did.Quiet None
stores_message around after name time octets rows file guid uid size offset old new sees next few place_is fits h taken drawn due tells = λ run lane place said lists come shows stood.
    let q = request.Deliver name time octets in
    let entry = map_entry.S 0 1 (record { 0 = uid }) (record { 0 = file }) offset size (record { 0 = guid }) rows in
    let event : RunEvent = record (event_of lane place StoresRecord (told_calls new.history)) { map_entries = entry ∷ []; drew = record no_numbers { map = 1 } } in
    let s = stood.0.0 in
    let same : (drawn_of run).map ≡ old.drawn.map = ap (λ (d : Highest). d.map) come.come.drawn_is in
    let number : uid ≡ (drawn_of run).map + 1 = next ∙ ap (λ (n : ℕ). n + 1) (sym same) in
    quiet_on around after run lane place said q lists old new event (IsAddingMessage guid uid)
    (record {
      own = own_event event refl;
      finds = sees.parts;
      found = λ looked. finds_place octets around run old sees come h.ran (stood.1 h.ran);
      part_is = stores_next around run name time octets rows file guid (own_events place run) s;
      allowed = ap (λ (b : Bool). option_or (refused_where b (refusal.StoreFull 4294967294)) None) (few_uids (drawn_of run).map (omega (arith, same, few)));
      did = (
        guid,
        size,
        given_guid place run rows file guid s,
        ap (λ (n : ℕ). stored_event lane place n file offset size guid rows (told_calls new.history)) number
            ∙ (ap (λ (n : ℕ). stored_event lane place ((drawn_of run).map + 1) n offset size guid rows (told_calls new.history)) (sym stood.0.1)
            ∙ (ap (λ (n : ℕ). stored_event lane place ((drawn_of run).map + 1) (guid_file run.store guid) n size guid rows (told_calls new.history)) place_is
            ∙ ap (λ (is : List InstRow). stored_event lane place ((drawn_of run).map + 1) (guid_file run.store guid) (number_at 12 guid) size guid is (told_calls new.history)) (sym (found_rows place run rows file guid s)))),
      );
      fits = All-cons (MapFits (map_of run)) entry [] (subst (λ (m : MapMeaning). MapFits m entry) (sym come.come.map_is) fits) (All-nil (MapFits (map_of run)));
      ends = record { 0 = λ h. absurd (h refl); 1 = λ h. absurd (some_part Last h) };
      replied = tt;
    })
    refl h
    (comes_to_more run event old new come (comes_stored run event entry old new come taken drawn h.grows refl refl) (λ u. stored_due (old.due u) (new.due u) uid u (due u)) (record { pins = refl; unpins = refl; doomed = refl; removed = refl; gone = refl }) (tells_on event old new refl refl refl tells))
    (no_guids run event refl) shows (
      record {
        rows = rows;
        file = file;
        front = s.front;
        second = s.second;
        third = s.third;
        fourth = event;
        own_are = own_first place run event (s.front ++ s.second ∷ s.third ∷ []) refl s.own_are ∙ append_assoc s.front (s.second ∷ s.third ∷ []) (event ∷ []);
        attached = s.attached;
        took = s.took;
        placed = s.placed;
        stored = record { part = refl; entry = entry; raised = refl; did = refl };
      },
      record {
        long = stood.0.2.long;
        each = stood.0.2.each;
        given = given_more run event guid ∙ ap (λ (b : Bool). b || false) stood.0.2.given;
        once = subst (λ (gs : List (List ℕ)). All (λ other. other ≢ guid) gs) (sym (own_left place run event refl)) stood.0.2.once;
      },
      stood.0.3,
    )
