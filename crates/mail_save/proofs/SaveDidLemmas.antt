-- Events of a delivery, by the clause of a step: which files and GUIDs the run knows then, and what an event did.
use Rattle.mail_save.proofs.Common.{◌≡◌, ◌≤◌, ◌+◌, ◌&&◌, ◌||◌, ℕ, Bool, true, false, not, List, [], ◌∷◌, ◌++◌, ◌⊎◌, Option, Some, None, refl, sym, ◌∙◌, ap, subst, arith, inl, inr, flat_map, list_any, bytes_eq, flat_map-append, list_any-append, told_calls, NoFault, Highest, InstRow, MapEntry}
use Rattle.mail_save.proofs.Common.{Refusal, Reply, Request, Lists, MapMeaning, map_applied, EventPart, RunEvent, Run, and_then, map_of, drawn_also, is_one_of, Around, is_same_instance, Seen, ShowsSeen, HasComeTo, Leads, Lasts, unstepped, comes_drawn}
use Rattle.std.proofs.lemmas.List.{append-nil}
use Rattle.mdbox_base.specs.declared.progress.Did.TheVariants as did
use Rattle.mdbox_base.specs.declared.replies.Refusal.TheVariants as refusal
use Rattle.mdbox_base.specs.declared.replies.Reply.TheVariants as reply
use Rattle.model_meaning.specs.MapMeaning.{named_instances}
use Rattle.list_machine.specs.Run.{before, is_unpinning}
use Rattle.journal.specs.Events.{makes_step, begun_in, ended_in}
use Rattle.journal.specs.Found.{is_known_file, is_known_instance}
use Rattle.journal.specs.Makes.{HasCome}
use Rattle.journal.proofs.RunLemmas.{comes_on_with}
use Rattle.task_steps.specs.Step.{was_given, KeepsTasks, and_told, GivesNew, DidEvent}
use Rattle.task_steps.proofs.SeenLemmas.{pins_still, used_still, doomed_still, file_still_known, file_now_known, gone_still, places_known, never_used, never_gone, due_more, there_before}
use Rattle.task_steps.proofs.EventLaws.{did_part, DoesPart, ends_well, LeftBy, no_reply, refusal_event, stands_by}

-- ---- small facts

pub some_part : (p : EventPart) → Some p ≡ None → ⊥
some_part p e = cc e

pub or_none : (b : Bool) → (b || false) ≡ b
or_none true = refl
or_none false = refl

either : (a b : Bool) → (a || b) ≡ true → (a ≡ true) ⊎ (b ≡ true)
either true b e = inl refl
either false b e = inr e

-- ---- the run goes on

pub given_more : (run : Run) (event : RunEvent) (guid : List ℕ) → was_given (and_then run event) guid ≡ (was_given run guid || list_any (bytes_eq guid) event.given)
given_more run event guid =
    ap (list_any (bytes_eq guid)) (flat_map-append (λ (e : RunEvent). e.given) run.events (event ∷ []) ∙ ap (λ (l : List (List ℕ)). flat_map (λ (e : RunEvent). e.given) run.events ++ l) (append-nil event.given))
    ∙ list_any-append (bytes_eq guid) (flat_map (λ (e : RunEvent). e.given) run.events) event.given

none_of_second : (file : ℕ) (events : List RunEvent) → list_any (λ (e : RunEvent). is_one_of e.doomed file || is_one_of e.removed file) events ≡ false → list_any (λ (e : RunEvent). is_one_of e.removed file) events ≡ false
none_of_second file [] e = refl
none_of_second file (x ∷ xs) e = by_tests (is_one_of x.doomed file) (is_one_of x.removed file) (list_any (λ (k : RunEvent). is_one_of k.doomed file || is_one_of k.removed file) xs) e (none_of_second file xs)
  where
    by_tests : (a b rest : Bool) → ((a || b) || rest) ≡ false → (rest ≡ false → list_any (λ (e : RunEvent). is_one_of e.removed file) xs ≡ false) → (b || list_any (λ (e : RunEvent). is_one_of e.removed file) xs) ≡ false
    by_tests false false rest f h = h f
    by_tests false true rest f h = absurd (let k : true ≡ false = f in cc k)
    by_tests true b rest f h = absurd (let k : true ≡ false = f in cc k)

-- The event pins, unpins, dooms and removes no file, and removes no instance.
pub record LeavesPinned (event : RunEvent) : Type 0 where
  pub pins : event.pins ≡ []
  pub unpins : is_unpinning event ≡ false
  pub doomed : event.doomed ≡ []
  pub removed : event.removed ≡ []
  pub gone : event.gone ≡ []

-- What a store tells of its tasks, beside what is due: pins and dooms stay; files that may be used or barred, GUIDs that may have been
-- given and instances that may be gone stay so, and the event's GUIDs were given; the files that it knows are those that it knew, and
-- those that the event made, which weren't used; the instances those that it knew, and those that the event placed, which weren't gone.
pub record TellsMore (event : RunEvent) (old new : Seen) : Type 0 where
  pub ran : new.stopped ≡ false → old.stopped ≡ false
  pub pins : (file : ℕ) → new.pins file ≡ old.pins file
  pub doomed : (file : ℕ) → new.doomed file ≡ old.doomed file
  pub used : (file : ℕ) → old.used file ≡ true → new.used file ≡ true
  pub unused : (file : ℕ) → is_one_of event.made file ≡ true → old.used file ≡ false
  pub barred : (file : ℕ) → old.barred file ≡ true → new.barred file ≡ true
  pub gave : (guid : List ℕ) → old.gave guid ≡ true → new.gave guid ≡ true
  pub given : (guid : List ℕ) → list_any (bytes_eq guid) event.given ≡ true → new.gave guid ≡ true
  pub gone : (instance : InstRow) → old.gone instance ≡ true → new.gone instance ≡ true
  pub files : (file : ℕ) → new.files file ≡ true → (old.files file ≡ true) ⊎ (is_one_of event.made file ≡ true)
  pub there : (file : ℕ) → (old.files file ≡ true) ⊎ (is_one_of event.made file ≡ true) → new.files file ≡ true
  pub instances : (instance : InstRow) → new.instances instance ≡ (old.instances instance || list_any (is_same_instance instance) event.placed)
  pub ungone : (instance : InstRow) → list_any (is_same_instance instance) event.placed ≡ true → old.gone instance ≡ false

-- an event that places others than this instance
placed_other : (run : Run) (event : RunEvent) (instance : InstRow) → list_any (is_same_instance instance) event.placed ≡ false → event.gone ≡ [] → is_known_instance (and_then run event) instance ≡ is_known_instance run instance
placed_other run event instance none stay =
    ap (λ (b : Bool). (list_any (is_same_instance instance) (named_instances (map_of (before 0 run))) || b) && not (list_any (λ (e : RunEvent). list_any (is_same_instance instance) e.gone) (run.events ++ event ∷ [])))
    (list_any-append (λ (e : RunEvent). list_any (is_same_instance instance) e.placed) run.events (event ∷ [])
    ∙ (ap (λ (b : Bool). list_any (λ (e : RunEvent). list_any (is_same_instance instance) e.placed) run.events || (b || false)) none ∙ or_none (list_any (λ (e : RunEvent). list_any (is_same_instance instance) e.placed) run.events)))
    ∙ ap (λ (b : Bool). (list_any (is_same_instance instance) (named_instances (map_of (before 0 run))) || list_any (λ (e : RunEvent). list_any (is_same_instance instance) e.placed) run.events) && not b) (gone_still run event instance stay)

pub comes_to_more : (run : Run) (event : RunEvent) (old new : Seen) → HasComeTo run old → HasCome (and_then run event) new.map new.drawn (told_calls new.history) → ((uid : ℕ) → new.due uid + ended_in uid event ≡ old.due uid + begun_in uid event) → LeavesPinned event → TellsMore event old new
    → HasComeTo (and_then run event) new
comes_to_more run event old new h come due leaves tells = record {
  come = come;
  keeps = λ runs. keeps_on (h.keeps (tells.ran runs));
  used = λ file e. tells.used file (h.used file (sym (used_still run event file leaves.doomed leaves.removed) ∙ e));
  barred = λ file e. tells.barred file (h.barred file e);
  gave = λ guid e. by_giver guid (either (was_given run guid) (list_any (bytes_eq guid) event.given) (sym (given_more run event guid) ∙ e));
  files = λ file e. by_maker file (tells.files file e);
  gone = λ instance e. tells.gone instance (h.gone instance (sym (gone_still run event instance leaves.gone) ∙ e));
}
  where
    by_placed : (instance : InstRow) (placed : Bool) → list_any (is_same_instance instance) event.placed ≡ placed → is_known_instance (and_then run event) instance ≡ (is_known_instance run instance || placed)
    by_placed instance true e = places_known run event instance leaves.gone (never_gone run old instance h (tells.ungone instance e)) ∙ ap (λ (b : Bool). is_known_instance run instance || b) e
    by_placed instance false e = placed_other run event instance e leaves.gone ∙ sym (or_none (is_known_instance run instance))

    keeps_on : KeepsTasks run old → KeepsTasks (and_then run event) new
    keeps_on k = record {
      due = λ uid. due_more run event uid (old.due uid) (new.due uid) (k.due uid) (due uid);
      pins = λ file. pins_still run event file leaves.pins leaves.unpins ∙ (k.pins file ∙ sym (tells.pins file));
      doomed = λ file. doomed_still run event file leaves.doomed leaves.removed ∙ (k.doomed file ∙ sym (tells.doomed file));
      instances = λ instance.
          by_placed instance (list_any (is_same_instance instance) event.placed) refl
          ∙ (ap (λ (b : Bool). b || list_any (is_same_instance instance) event.placed) (k.instances instance) ∙ sym (tells.instances instance));
      files = λ file unsealed known. tells.there file (there_before run event old file k leaves.removed unsealed known);
    }

    by_giver : (guid : List ℕ) → (was_given run guid ≡ true) ⊎ (list_any (bytes_eq guid) event.given ≡ true) → new.gave guid ≡ true
    by_giver guid (inl e) = tells.gave guid (h.gave guid e)
    by_giver guid (inr e) = tells.given guid e

    by_maker : (file : ℕ) → (old.files file ≡ true) ⊎ (is_one_of event.made file ≡ true) → is_known_file (and_then run event) file ≡ true
    by_maker file (inl e) = file_still_known run event file leaves.removed (h.files file e)
    by_maker file (inr e) = file_now_known run event file leaves.removed e (none_of_second file run.events (never_used run old file h (tells.unused file e)))

-- ---- a store before and after an event

-- It tells the same of its tasks, or more files that may be used or barred, GUIDs that may have been given and instances that may be
-- gone.
pub record KeepsTelling (old new : Seen) : Type 0 where
  pub ran : new.stopped ≡ false → old.stopped ≡ false
  pub pins : (file : ℕ) → new.pins file ≡ old.pins file
  pub doomed : (file : ℕ) → new.doomed file ≡ old.doomed file
  pub used : (file : ℕ) → old.used file ≡ true → new.used file ≡ true
  pub barred : (file : ℕ) → old.barred file ≡ true → new.barred file ≡ true
  pub gave : (guid : List ℕ) → old.gave guid ≡ true → new.gave guid ≡ true
  pub gone : (instance : InstRow) → old.gone instance ≡ true → new.gone instance ≡ true
  pub files : (file : ℕ) → new.files file ≡ true → old.files file ≡ true
  pub there : (file : ℕ) → old.files file ≡ true → new.files file ≡ true
  pub instances : (instance : InstRow) → new.instances instance ≡ old.instances instance

none_of_none : (guid : List ℕ) (given : List (List ℕ)) → given ≡ [] → list_any (bytes_eq guid) given ≡ true → ⊥
none_of_none guid given none some = let k : false ≡ true = sym (ap (list_any (bytes_eq guid)) none) ∙ some in cc k

none_made : (file : ℕ) (made : List ℕ) → made ≡ [] → is_one_of made file ≡ true → ⊥
none_made file made none some = let k : false ≡ true = sym (ap (λ (fs : List ℕ). is_one_of fs file) none) ∙ some in cc k

none_placed : (instance : InstRow) (placed : List InstRow) → placed ≡ [] → list_any (is_same_instance instance) placed ≡ true → ⊥
none_placed instance placed none some = let k : false ≡ true = sym (ap (list_any (is_same_instance instance)) none) ∙ some in cc k

pub tells_on : (event : RunEvent) (old new : Seen) → event.given ≡ [] → event.made ≡ [] → event.placed ≡ [] → KeepsTelling old new → TellsMore event old new
tells_on event old new none unmade unplaced k = record {
  ran = k.ran;
  pins = k.pins;
  doomed = k.doomed;
  used = k.used;
  unused = λ file some. absurd (none_made file event.made unmade some);
  barred = k.barred;
  gave = k.gave;
  given = λ guid some. absurd (none_of_none guid event.given none some);
  gone = k.gone;
  files = λ file e. inl (k.files file e);
  there = λ file e. by_maker file e;
  instances = λ instance. k.instances instance ∙ sym (ap (λ (ps : List InstRow). old.instances instance || list_any (is_same_instance instance) ps) unplaced ∙ or_none (old.instances instance));
  ungone = λ instance some. absurd (none_placed instance event.placed unplaced some);
}
  where
    by_maker : (file : ℕ) → (old.files file ≡ true) ⊎ (is_one_of event.made file ≡ true) → new.files file ≡ true
    by_maker file (inl e) = k.there file e
    by_maker file (inr e) = absurd (none_made file event.made unmade e)

-- It goes on, with what it shows, and a settled disk.
pub record HasRun (old new : Seen) : Type 0 where
  pub ran : old.stopped ≡ false
  pub runs : new.stopped ≡ false
  pub shown : (lists : Lists) → ShowsSeen old lists → ShowsSeen new lists
  pub leads : (lists : Lists) → Leads lists lists old new
  pub grows : Lasts old.map old.history new.history
  pub quiet : NoFault old.faults new.faults

-- The run with an event that adds this entry, and drew these numbers, has come to where the store stands.
pub comes_stored : (run : Run) (event : RunEvent) (entry : MapEntry) (old new : Seen) → HasComeTo run old → new.map ≡ map_applied entry old.map → new.drawn ≡ drawn_also old.drawn event.drew → Lasts old.map old.history new.history → event.moment ≡ told_calls new.history → event.map_entries ≡ entry ∷ []
    → HasCome (and_then run event) new.map new.drawn (told_calls new.history)
comes_stored run event entry old new come map drawn grows moment entries =
    let later : told_calls old.history ≤ event.moment = (let a : told_calls old.history ≤ told_calls new.history = grows.grows in omega (arith, a, moment)) in
    subst (λ (m : MapMeaning). HasCome (and_then run event) m new.drawn (told_calls new.history)) (sym map)
    (subst (λ (d : Highest). HasCome (and_then run event) (map_applied entry old.map) d (told_calls new.history)) (sym drawn)
    (subst (λ (n : ℕ). HasCome (and_then run event) (map_applied entry old.map) (drawn_also old.drawn event.drew) n) moment (comes_on_with run event entry old.map old.drawn (told_calls old.history) come.come later entries)))

-- What stays behind an event that was refused, which may have drawn numbers.
pub record StaysSo (drew : Highest) (old new : Seen) : Type 0 where
  pub map : new.map ≡ old.map
  pub drawn : new.drawn ≡ drawn_also old.drawn drew
  pub due : (uid : ℕ) → new.due uid ≡ old.due uid
  pub tells : KeepsTelling old new
  pub shown : (lists : Lists) → ShowsSeen old lists → ShowsSeen new lists
  pub grows : Lasts old.map old.history new.history
  pub reads : old.faults.reads ≤ new.faults.reads
  pub changes : old.faults.changes ≤ new.faults.changes

pub refused_left : (run : Run) (lane place : ℕ) (part : EventPart) (why : Refusal) (ended : Option Reply) (drew : Highest) (lists : Lists) (old new : Seen) → HasComeTo run old → StaysSo drew old new → ShowsSeen old lists
    → LeftBy run (refusal_event lane place part why ended drew (told_calls new.history)) lists old new
refused_left run lane place part why ended drew lists old new come s shows =
    let event : RunEvent = refusal_event lane place part why ended drew (told_calls new.history) in
    record {
      comes = comes_to_more run event old new come (comes_drawn run event old new come s.map s.drawn s.grows.grows refl refl) (λ uid. let e = s.due uid in omega (arith, e)) (record { pins = refl; unpins = refl; doomed = refl; removed = refl; gone = refl }) (tells_on event old new refl refl refl s.tells);
      shows = s.shown lists shows;
      lasts = s.grows;
      reads = s.reads;
      changes = s.changes;
    }

-- ---- an event that goes on

-- An event that does its part, makes no step, and goes on.
pub quiet_on : (around after : Around) (run : Run) (lane place : ℕ) (said : List Reply) (q : Request) (lists : Lists) (old new : Seen) (event : RunEvent) (Stands : Run → ℕ → List Reply → Type 0) → DoesPart around after run lane place q lists (told_calls new.history) None event → false ≡ makes_step q event.part event.refused
    → HasRun old new → HasComeTo (and_then run event) new → GivesNew run event → ShowsSeen old lists → Stands (and_then run event) place said
    → (d : DidEvent around after run lane place said q lists old new did.Quiet None) × (◌≡◌ {A = Option Reply} None None → Stands (and_then run d.makes.event) place (and_told said d.makes.answer))
quiet_on around after run lane place said q lists old new event Stands does step h comes gives shows stands =
    stands_by around after run lane place said q lists old new did.Quiet None event None Stands
    (did_part around after run lane place said q lists lists old new did.Quiet None None event does comes gives (h.shown lists shows) h.grows step refl (refl, h.runs ∙ sym h.ran, h.leads lists)
    (ends_well q said event None None did.Quiet old new does.own.unrefused h.ran h.runs h.quiet (λ x. x) (λ e. no_reply (reply.Refused refusal.Stopped) e) (λ some. absurd (unstepped some)) (λ given e. absurd (no_reply given e))))
    (λ goes_on. stands)
