-- What a store tells, as a run goes on with one event more.
use Rattle.std.proofs.Common.{inl, inr, ◌⊎◌, ◌≡◌, ◌<◌, ◌+◌, ◌==◌, ◌&&◌, ◌||◌, ℕ, zero, suc, Bool, true, false, not, List, [], ◌∷◌, ◌++◌, refl, sym, ◌∙◌, ap, subst, arith, All}
use Rattle.std.specs.Prelude.{◌≢◌, flat_map, sum_by, count_by, nat_lt, filter, cond, if◌then◌else◌}
use Rattle.std.proofs.lemmas.Grind.{common_steps}
use Rattle.std.specs.List.{list_any}
use Rattle.std.specs.Str.{bytes_eq}
use Rattle.std.proofs.lemmas.Bool.{ne_eqb}
use Rattle.std.proofs.lemmas.Grind.{flat_map-append}
use Rattle.std.proofs.lemmas.List.{append-nil}
use Rattle.std.proofs.lemmas.List.Elements.{All-append, All-nil, All-weaker, filter-append}
use Rattle.std.proofs.lemmas.List.Folds.{list_any-append}
use Rattle.std.proofs.lemmas.List.Sums.{sum_by-append, sum_by-cons}
use Rattle.disk_model.specs.Disk.{told_calls}
use Rattle.mdbox_base.specs.declared.entries.InstRow.{InstRow}
use Rattle.mdbox_base.specs.declared.entries.MapEntry.{MapEntry}
use Rattle.model_meaning.specs.MapMeaning.{named_instances, is_sealed, seals}
use Rattle.model_meaning.proofs.SealedLemmas.{sealed_is}
use Rattle.list_machine.specs.Run.{RunEvent, Run, Pin, before, and_then, entries_of, map_of, own_events, given_by_others, is_one_of, is_unpinning, has_unpinned, is_pinned, is_doomed}
use Rattle.journal.specs.Found.{is_known_file, is_same_instance, is_known_instance}
use Rattle.journal.proofs.RunLemmas.{entries_more}
use Rattle.journal.specs.Events.{begun_in, ended_in, due_of, number_drawn, number_of, until_doomed, was_pinned}
use Rattle.journal.specs.Makes.{HasCome}
use Rattle.journal.proofs.OwnEventLemmas.{own_more, own_other}
use Rattle.task_steps.specs.Step.{Seen, was_given, pins_of, was_used, was_gone, KeepsTasks, HasComeTo, GivesNew, IsKept, HasNotBegun}
use Rattle.task_steps.specs.Tells.{LeavesFiles, TellsSame}

or_none : (b : Bool) → (b || false) ≡ b
or_none true = refl
or_none false = refl

any_push : {X : Type 0} → (p : X → Bool) (xs : List X) (x : X) → list_any p (xs ++ x ∷ []) ≡ (list_any p xs || p x)
any_push p xs x = list_any-append p xs (x ∷ []) ∙ ap (λ (b : Bool). list_any p xs || b) (or_none (p x))

any_still : {X : Type 0} → (p : X → Bool) (xs : List X) (x : X) → p x ≡ false → list_any p (xs ++ x ∷ []) ≡ list_any p xs
any_still p xs x e = any_push p xs x ∙ (ap (λ (b : Bool). list_any p xs || b) e ∙ or_none (list_any p xs))

sum_same : {X : Type 0} → (f g : X → ℕ) (xs : List X) → ((x : X) → f x ≡ g x) → sum_by f xs ≡ sum_by g xs
sum_same f g [] h = refl
sum_same f g (x ∷ xs) h = let a = sum_by-cons f x xs in let b = sum_by-cons g x xs in let c = h x in let d = sum_same f g xs h in omega (arith, a, b, c, d)

sum_push : {X : Type 0} → (f : X → ℕ) (xs : List X) (x : X) → sum_by f (xs ++ x ∷ []) ≡ sum_by f xs + f x
sum_push f xs x = let h = sum_by-append f xs (x ∷ []) in let k = sum_by-cons f x [] in omega (arith, h, k)

flat_push : {X Y : Type 0} → (f : X → List Y) (xs : List X) (x : X) → flat_map f (xs ++ x ∷ []) ≡ flat_map f xs ++ f x
flat_push f xs x = flat_map-append f xs (x ∷ []) ∙ ap (λ (l : List _). flat_map f xs ++ l) (append-nil (f x))

-- ---- files

unpinned_still : (request : ℕ) (run : Run) (event : RunEvent) → is_unpinning event ≡ false → has_unpinned request (and_then run event) ≡ has_unpinned request run
unpinned_still request run event none = by_test (event.request == request) refl
  where
    by_test : (b : Bool) → (event.request == request) ≡ b → has_unpinned request (and_then run event) ≡ has_unpinned request run
    by_test true e = ap (λ (es : List RunEvent). list_any is_unpinning es) (own_more request run event e) ∙ any_still is_unpinning (own_events request run) event none
    by_test false e = ap (λ (es : List RunEvent). list_any is_unpinning es) (own_other request run event e)

abbrev pins_in : Run → ℕ → RunEvent → ℕ
pins_in run file e = if has_unpinned e.request run then 0 else count_by (λ p. p.file == file) e.pins

pub pins_still : (run : Run) (event : RunEvent) (file : ℕ) → event.pins ≡ [] → is_unpinning event ≡ false → pins_of (and_then run event) file ≡ pins_of run file
pins_still run event file none unpins =
    let more = sum_push (pins_in (and_then run event) file) run.events event in
    let own : pins_in (and_then run event) file event ≡ 0 = ap (λ (ps : List Pin). if has_unpinned event.request (and_then run event) then 0 else count_by (λ (p : Pin). p.file == file) ps) none ∙ zero_both (has_unpinned event.request (and_then run event)) 0 in
    let same = sum_same (pins_in (and_then run event) file) (pins_in run file) run.events (λ e. ap (λ (b : Bool). cond b 0 (count_by (λ (p : Pin). p.file == file) e.pins)) (unpinned_still e.request run event unpins)) in
    omega (arith, more, own, same)
  where
    zero_both : (b : Bool) (n : ℕ) → cond b n n ≡ n
    zero_both true n = refl
    zero_both false n = refl

-- a file is pinned where it has pins
some_of : (a b : ℕ) → nat_lt 0 (a + b) ≡ (nat_lt 0 a || nat_lt 0 b)
some_of zero b = ap (λ (n : ℕ). nat_lt 0 n) (let e : 0 + b ≡ b = omega arith in e)
some_of (suc a) b = more (suc a + b) (omega arith) ∙ sym (ap (λ (t : Bool). t || nat_lt 0 b) (more (suc a) (omega arith)))
  where
    more : (n : ℕ) → 0 < n → nat_lt 0 n ≡ true
    more n l = grind (arith, common_steps, l)

some_where : {X : Type 0} → (p : X → Bool) (f : X → ℕ) → ((x : X) → p x ≡ nat_lt 0 (f x)) → (xs : List X) → list_any p xs ≡ nat_lt 0 (sum_by f xs)
some_where p f h [] = refl
some_where p f h (x ∷ xs) =
    (ap (λ (b : Bool). b || list_any p xs) (h x) ∙ ap (λ (b : Bool). nat_lt 0 (f x) || b) (some_where p f h xs)) ∙ (sym (some_of (f x) (sum_by f xs)) ∙ ap (λ (n : ℕ). nat_lt 0 n) (sym (sum_by-cons f x xs)))

pub pinned_is : (run : Run) (file : ℕ) → is_pinned run file ≡ nat_lt 0 (pins_of run file)
pinned_is run file = some_where (λ (e : RunEvent). list_any (λ (p : Pin). p.file == file) e.pins && not (has_unpinned e.request run)) (pins_in run file) (λ e. by_test (has_unpinned e.request run) (list_any (λ (p : Pin). p.file == file) e.pins) (count_by (λ (p : Pin). p.file == file) e.pins) (counted e.pins)) run.events
  where
    one : (b : Bool) → b ≡ nat_lt 0 (cond b 1 0)
    one true = refl
    one false = refl

    counted : (ps : List Pin) → list_any (λ (p : Pin). p.file == file) ps ≡ nat_lt 0 (count_by (λ (p : Pin). p.file == file) ps)
    counted ps = some_where (λ (p : Pin). p.file == file) (λ (p : Pin). cond (p.file == file) 1 0) (λ p. one (p.file == file)) ps

    by_test : (unpinned there : Bool) (many : ℕ) → there ≡ nat_lt 0 many → (there && not unpinned) ≡ nat_lt 0 (cond unpinned 0 many)
    by_test true true many e = refl
    by_test true false many e = refl
    by_test false true many e = e
    by_test false false many e = e

pub used_still : (run : Run) (event : RunEvent) (file : ℕ) → event.doomed ≡ [] → event.removed ≡ [] → was_used (and_then run event) file ≡ was_used run file
used_still run event file none stay =
    any_still (λ (e : RunEvent). is_one_of e.doomed file || is_one_of e.removed file) run.events event
    (ap (λ (fs : List ℕ). is_one_of fs file || is_one_of event.removed file) none ∙ ap (λ (fs : List ℕ). is_one_of fs file) stay)

pub doomed_still : (run : Run) (event : RunEvent) (file : ℕ) → event.doomed ≡ [] → event.removed ≡ [] → is_doomed (and_then run event) file ≡ is_doomed run file
doomed_still run event file none stay =
    ap (λ (b : Bool). b && not (list_any (λ (e : RunEvent). is_one_of e.removed file) (run.events ++ event ∷ []))) (any_still (λ (e : RunEvent). is_one_of e.doomed file) run.events event (ap (λ (fs : List ℕ). is_one_of fs file) none))
    ∙ ap (λ (b : Bool). list_any (λ (e : RunEvent). is_one_of e.doomed file) run.events && not b) (any_still (λ (e : RunEvent). is_one_of e.removed file) run.events event (ap (λ (fs : List ℕ). is_one_of fs file) stay))

pub given_still : (run : Run) (event : RunEvent) (guid : List ℕ) → event.given ≡ [] → was_given (and_then run event) guid ≡ was_given run guid
given_still run event guid none =
    ap (λ (gs : List (List ℕ)). list_any (bytes_eq guid) gs) (flat_push (λ (e : RunEvent). e.given) run.events event ∙ (ap (λ (gs : List (List ℕ)). flat_map (λ (e : RunEvent). e.given) run.events ++ gs) none ∙ append-nil (flat_map (λ (e : RunEvent). e.given) run.events)))

-- ---- what is known to be there

-- what is there stays with one event more, unless it is removed
stays_there : (first sealed took gone first_on sealed_on took_on gone_on : Bool) → first_on ≡ first → (sealed ≡ true → sealed_on ≡ true) → (took ≡ true → took_on ≡ true) → gone_on ≡ gone → ((first || (sealed || took)) && not gone) ≡ true
    → ((first_on || (sealed_on || took_on)) && not gone_on) ≡ true
stays_there true sealed took gone first_on sealed_on took_on gone_on f s t g h = ap (λ (b : Bool). (b || (sealed_on || took_on)) && not gone_on) f ∙ (ap (λ (b : Bool). not b) g ∙ h)
stays_there false true took gone first_on sealed_on took_on gone_on f s t g h =
    ap (λ (b : Bool). (b || (sealed_on || took_on)) && not gone_on) f ∙ (ap (λ (b : Bool). (b || took_on) && not gone_on) (s refl) ∙ (ap (λ (b : Bool). not b) g ∙ h))
stays_there false false true gone first_on sealed_on took_on gone_on f s t g h =
    ap (λ (b : Bool). (b || (sealed_on || took_on)) && not gone_on) f ∙ (ap (λ (b : Bool). b && not gone_on) (ap (λ (b : Bool). sealed_on || b) (t refl) ∙ or_true sealed_on) ∙ (ap (λ (b : Bool). not b) g ∙ h))
  where
    or_true : (b : Bool) → (b || true) ≡ true
    or_true true = refl
    or_true false = refl
stays_there false false false gone first_on sealed_on took_on gone_on f s t g h = absurd (cc h)

any_more : {X : Type 0} → (p : X → Bool) (xs : List X) (x : X) → list_any p xs ≡ true → list_any p (xs ++ x ∷ []) ≡ true
any_more p xs x e = any_push p xs x ∙ ap (λ (b : Bool). b || p x) e

-- a sealed file stays so
sealed_still : (run : Run) (event : RunEvent) (file : ℕ) → is_sealed (map_of run) file ≡ true → is_sealed (map_of (and_then run event)) file ≡ true
sealed_still run event file e =
    sealed_is run.store (entries_of (and_then run event)) file
    ∙ (ap (λ (es : List MapEntry). list_any (seals file) es) (entries_more run event)
    ∙ (list_any-append (seals file) (entries_of run) event.map_entries ∙ ap (λ (b : Bool). b || list_any (seals file) event.map_entries) (sym (sealed_is run.store (entries_of run) file) ∙ e)))

pub file_still_known : (run : Run) (event : RunEvent) (file : ℕ) → event.removed ≡ [] → is_known_file run file ≡ true → is_known_file (and_then run event) file ≡ true
file_still_known run event file none e =
    stays_there (list_any (λ row. row.file == file) (map_of (before 0 run)).records) (is_sealed (map_of run) file) (list_any (λ e. is_one_of e.made file) run.events) (list_any (λ e. is_one_of e.removed file) run.events)
    (list_any (λ row. row.file == file) (map_of (before 0 run)).records) (is_sealed (map_of (and_then run event)) file) (list_any (λ e. is_one_of e.made file) (run.events ++ event ∷ [])) (list_any (λ e. is_one_of e.removed file) (run.events ++ event ∷ []))
    refl (sealed_still run event file) (any_more (λ (e : RunEvent). is_one_of e.made file) run.events event) (any_still (λ (e : RunEvent). is_one_of e.removed file) run.events event (ap (λ (fs : List ℕ). is_one_of fs file) none)) e

pub instance_still_known : (run : Run) (event : RunEvent) (instance : InstRow) → event.gone ≡ [] → is_known_instance run instance ≡ true → is_known_instance (and_then run event) instance ≡ true
instance_still_known run event instance none e =
    stays_there (list_any (is_same_instance instance) (named_instances (map_of (before 0 run)))) false (list_any (λ e. list_any (is_same_instance instance) e.placed) run.events) (list_any (λ e. list_any (is_same_instance instance) e.gone) run.events)
    (list_any (is_same_instance instance) (named_instances (map_of (before 0 run)))) false (list_any (λ e. list_any (is_same_instance instance) e.placed) (run.events ++ event ∷ [])) (list_any (λ e. list_any (is_same_instance instance) e.gone) (run.events ++ event ∷ []))
    refl (λ k. k) (any_more (λ (e : RunEvent). list_any (is_same_instance instance) e.placed) run.events event) (any_still (λ (e : RunEvent). list_any (is_same_instance instance) e.gone) run.events event (ap (λ (is : List InstRow). list_any (is_same_instance instance) is) none)) e

pub placed_still : (run : Run) (event : RunEvent) (instance : InstRow) → event.placed ≡ [] → event.gone ≡ [] → is_known_instance (and_then run event) instance ≡ is_known_instance run instance
placed_still run event instance none stay =
    ap (λ (b : Bool). (list_any (is_same_instance instance) (named_instances (map_of (before 0 run))) || b) && not (list_any (λ (e : RunEvent). list_any (is_same_instance instance) e.gone) (run.events ++ event ∷ [])))
    (any_still (λ (e : RunEvent). list_any (is_same_instance instance) e.placed) run.events event (ap (λ (is : List InstRow). list_any (is_same_instance instance) is) none))
    ∙ ap (λ (b : Bool). (list_any (is_same_instance instance) (named_instances (map_of (before 0 run))) || list_any (λ (e : RunEvent). list_any (is_same_instance instance) e.placed) run.events) && not b)
    (any_still (λ (e : RunEvent). list_any (is_same_instance instance) e.gone) run.events event (ap (λ (is : List InstRow). list_any (is_same_instance instance) is) stay))

pub gone_still : (run : Run) (event : RunEvent) (instance : InstRow) → event.gone ≡ [] → was_gone (and_then run event) instance ≡ was_gone run instance
gone_still run event instance none = any_still (λ (e : RunEvent). list_any (is_same_instance instance) e.gone) run.events event (ap (λ (is : List InstRow). list_any (is_same_instance instance) is) none)

-- an event that places instances makes known those and no other, if none was removed before
pub places_known : (run : Run) (event : RunEvent) (instance : InstRow) → event.gone ≡ [] → was_gone run instance ≡ false → is_known_instance (and_then run event) instance ≡ (is_known_instance run instance || list_any (is_same_instance instance) event.placed)
places_known run event instance none stays =
    by_tests (list_any (is_same_instance instance) (named_instances (map_of (before 0 run)))) (list_any (λ (e : RunEvent). list_any (is_same_instance instance) e.placed) run.events) (list_any (is_same_instance instance) event.placed)
    (list_any (λ (e : RunEvent). list_any (is_same_instance instance) e.placed) (run.events ++ event ∷ [])) (was_gone run instance) (was_gone (and_then run event) instance)
    (any_push (λ (e : RunEvent). list_any (is_same_instance instance) e.placed) run.events event) stays (gone_still run event instance none ∙ stays)
  where
    by_tests : (first before now placed gone gone_on : Bool) → placed ≡ (before || now) → gone ≡ false → gone_on ≡ false → ((first || placed) && not gone_on) ≡ (((first || before) && not gone) || now)
    by_tests true before now placed gone gone_on p g k = (ap (λ (b : Bool). not b) k) ∙ sym (ap (λ (b : Bool). not b || now) g)
    by_tests false true now placed gone gone_on p g k = (ap (λ (b : Bool). b && not gone_on) p ∙ ap (λ (b : Bool). not b) k) ∙ sym (ap (λ (b : Bool). not b || now) g)
    by_tests false false now placed gone gone_on p g k = (ap (λ (b : Bool). b && not gone_on) p ∙ ap (λ (b : Bool). now && not b) k) ∙ and_true now
      where
        and_true : (b : Bool) → (b && true) ≡ b
        and_true true = refl
        and_true false = refl

-- an event that made a file makes it known, unless one removed it
pub file_now_known : (run : Run) (event : RunEvent) (file : ℕ) → event.removed ≡ [] → is_one_of event.made file ≡ true → list_any (λ e. is_one_of e.removed file) run.events ≡ false → is_known_file (and_then run event) file ≡ true
file_now_known run event file none made stays =
    by_tests (list_any (λ row. row.file == file) (map_of (before 0 run)).records) (is_sealed (map_of (and_then run event)) file) (list_any (λ (e : RunEvent). is_one_of e.made file) (run.events ++ event ∷ [])) (list_any (λ (e : RunEvent). is_one_of e.removed file) (run.events ++ event ∷ []))
    (any_push (λ (e : RunEvent). is_one_of e.made file) run.events event ∙ (ap (λ (b : Bool). list_any (λ (e : RunEvent). is_one_of e.made file) run.events || b) made ∙ or_true (list_any (λ (e : RunEvent). is_one_of e.made file) run.events)))
    (any_still (λ (e : RunEvent). is_one_of e.removed file) run.events event (ap (λ (fs : List ℕ). is_one_of fs file) none) ∙ stays)
  where
    or_true : (b : Bool) → (b || true) ≡ true
    or_true true = refl
    or_true false = refl

    by_tests : (first sealed took gone : Bool) → took ≡ true → gone ≡ false → ((first || (sealed || took)) && not gone) ≡ true
    by_tests true sealed took gone t g = ap (λ (b : Bool). not b) g
    by_tests false true took gone t g = ap (λ (b : Bool). not b) g
    by_tests false false took gone t g = ap (λ (b : Bool). b && not gone) t ∙ ap (λ (b : Bool). not b) g

-- a file that isn't sealed wasn't before
pub open_before : (run : Run) (event : RunEvent) (file : ℕ) → is_sealed (map_of (and_then run event)) file ≡ false → is_sealed (map_of run) file ≡ false
open_before run event file unsealed = by_test (is_sealed (map_of run) file) refl
  where
    by_test : (b : Bool) → is_sealed (map_of run) file ≡ b → is_sealed (map_of run) file ≡ false
    by_test true e = absurd (let k : true ≡ false = sym (sealed_still run event file e) ∙ unsealed in cc k)
    by_test false e = e

-- a file that isn't sealed and is known is one that the event made, or was known before
pub known_before : (run : Run) (event : RunEvent) (file : ℕ) → event.removed ≡ [] → is_sealed (map_of (and_then run event)) file ≡ false → is_known_file (and_then run event) file ≡ true → (is_known_file run file ≡ true) ⊎ (is_one_of event.made file ≡ true)
known_before run event file none unsealed known =
    by_tests (list_any (λ row. row.file == file) (map_of (before 0 run)).records) (is_sealed (map_of run) file) (is_sealed (map_of (and_then run event)) file) (list_any (λ (e : RunEvent). is_one_of e.made file) run.events) (is_one_of event.made file)
    (list_any (λ (e : RunEvent). is_one_of e.made file) (run.events ++ event ∷ [])) (list_any (λ (e : RunEvent). is_one_of e.removed file) run.events) (list_any (λ (e : RunEvent). is_one_of e.removed file) (run.events ++ event ∷ []))
    (any_push (λ (e : RunEvent). is_one_of e.made file) run.events event) (any_still (λ (e : RunEvent). is_one_of e.removed file) run.events event (ap (λ (fs : List ℕ). is_one_of fs file) none)) unsealed known
  where
    or_true : (b : Bool) → (b || true) ≡ true
    or_true true = refl
    or_true false = refl

    by_tests : (first was sealed earlier now made gone gone_on : Bool) → made ≡ (earlier || now) → gone_on ≡ gone → sealed ≡ false → ((first || (sealed || made)) && not gone_on) ≡ true → (((first || (was || earlier)) && not gone) ≡ true) ⊎ (now ≡ true)
    by_tests true was sealed earlier now made gone gone_on m g s k = inl (ap (λ (b : Bool). not b) (sym g) ∙ k)
    by_tests false was sealed true now made gone gone_on m g s k =
        inl (ap (λ (b : Bool). b && not gone) (or_true was) ∙ (ap (λ (b : Bool). not b) (sym g) ∙ (sym (ap (λ (b : Bool). (b || true) && not gone_on) s) ∙ (sym (ap (λ (b : Bool). (sealed || b) && not gone_on) m) ∙ k))))
    by_tests false was sealed false true made gone gone_on m g s k = inr refl
    by_tests false was sealed false false made gone gone_on m g s k =
        absurd (let e : false ≡ true = sym (ap (λ (b : Bool). (b || false) && not gone_on) s) ∙ (sym (ap (λ (b : Bool). (sealed || b) && not gone_on) m) ∙ k) in cc e)

-- so the store knew it, or the event made it
pub there_before : (run : Run) (event : RunEvent) (seen : Seen) (file : ℕ) → KeepsTasks run seen → event.removed ≡ [] → is_sealed (map_of (and_then run event)) file ≡ false → is_known_file (and_then run event) file ≡ true
    → (seen.files file ≡ true) ⊎ (is_one_of event.made file ≡ true)
there_before run event seen file k none unsealed known = by_case (known_before run event file none unsealed known)
  where
    by_case : (is_known_file run file ≡ true) ⊎ (is_one_of event.made file ≡ true) → (seen.files file ≡ true) ⊎ (is_one_of event.made file ≡ true)
    by_case (inl before) = inl (k.files file (open_before run event file unsealed) before)
    by_case (inr made) = inr made

-- an event that placed an instance makes it known, unless one removed it
pub instance_now_known : (run : Run) (event : RunEvent) (instance : InstRow) → event.gone ≡ [] → list_any (is_same_instance instance) event.placed ≡ true → was_gone run instance ≡ false → is_known_instance (and_then run event) instance ≡ true
instance_now_known run event instance none put stays =
    by_tests (list_any (is_same_instance instance) (named_instances (map_of (before 0 run)))) (list_any (λ (e : RunEvent). list_any (is_same_instance instance) e.placed) (run.events ++ event ∷ [])) (list_any (λ (e : RunEvent). list_any (is_same_instance instance) e.gone) (run.events ++ event ∷ []))
    (any_push (λ (e : RunEvent). list_any (is_same_instance instance) e.placed) run.events event ∙ (ap (λ (b : Bool). list_any (λ (e : RunEvent). list_any (is_same_instance instance) e.placed) run.events || b) put ∙ or_true (list_any (λ (e : RunEvent). list_any (is_same_instance instance) e.placed) run.events)))
    (gone_still run event instance none ∙ stays)
  where
    or_true : (b : Bool) → (b || true) ≡ true
    or_true true = refl
    or_true false = refl

    by_tests : (first placed gone : Bool) → placed ≡ true → gone ≡ false → ((first || placed) && not gone) ≡ true
    by_tests true placed gone p g = ap (λ (b : Bool). not b) g
    by_tests false placed gone p g = ap (λ (b : Bool). b && not gone) p ∙ ap (λ (b : Bool). not b) g

-- ---- the store

-- what is due in a run of one event more
pub due_more : (run : Run) (event : RunEvent) (uid old new : ℕ) → sum_by (begun_in uid) run.events ≡ old + sum_by (ended_in uid) run.events → new + ended_in uid event ≡ old + begun_in uid event
    → sum_by (begun_in uid) (run.events ++ event ∷ []) ≡ new + sum_by (ended_in uid) (run.events ++ event ∷ [])
due_more run event uid old new h d =
    let a = sum_push (begun_in uid) run.events event in
    let b = sum_push (ended_in uid) run.events event in
    omega (arith, a, b, h, d)

-- A run that has come to a store comes on with an event that leaves files and GUIDs: what is due rose and fell as it says.
pub comes_to_on : (run : Run) (event : RunEvent) (old new : Seen) → HasComeTo run old → HasCome (and_then run event) new.map new.drawn (told_calls new.history) → ((uid : ℕ) → new.due uid + ended_in uid event ≡ old.due uid + begun_in uid event)
    → LeavesFiles event → TellsSame old new → HasComeTo (and_then run event) new
comes_to_on run event old new h come due leaves same = record {
  come = come;
  keeps = λ runs. keeps_on (h.keeps (same.ran runs));
  used = λ file e. same.used file ∙ h.used file (sym (used_still run event file leaves.doomed leaves.removed) ∙ e);
  barred = λ file e. same.barred file ∙ h.barred file e;
  gave = λ guid e. same.gave guid ∙ h.gave guid (sym (given_still run event guid leaves.given) ∙ e);
  gone = λ instance e. same.gone instance ∙ h.gone instance (sym (gone_still run event instance leaves.gone) ∙ e);
  files = λ file e. file_still_known run event file leaves.removed (h.files file (sym (same.files file) ∙ e));
}
  where
    by_maker : (file : ℕ) → (old.files file ≡ true) ⊎ (is_one_of event.made file ≡ true) → old.files file ≡ true
    by_maker file (inl there) = there
    by_maker file (inr made) = absurd (let e : false ≡ true = ap (λ (fs : List ℕ). is_one_of fs file) (sym leaves.made) ∙ made in cc e)

    keeps_on : KeepsTasks run old → KeepsTasks (and_then run event) new
    keeps_on k = record {
      due = λ uid. due_more run event uid (old.due uid) (new.due uid) (k.due uid) (due uid);
      pins = λ file. pins_still run event file leaves.pins leaves.unpins ∙ (k.pins file ∙ sym (same.pins file));
      doomed = λ file. doomed_still run event file leaves.doomed leaves.removed ∙ (k.doomed file ∙ sym (same.doomed file));
      instances = λ instance. placed_still run event instance leaves.placed leaves.gone ∙ (k.instances instance ∙ sym (same.instances instance));
      files = λ file unsealed known. same.files file ∙ by_maker file (there_before run event old file k leaves.removed unsealed known);
    }

-- a store tells the same as itself
pub tells_itself : (seen : Seen) → TellsSame seen seen
tells_itself seen = record { ran = λ runs. runs; pins = λ file. refl; doomed = λ file. refl; used = λ file. refl; barred = λ file. refl; gave = λ guid. refl; gone = λ instance. refl; files = λ file. refl; instances = λ instance. refl }

-- It does so with an event that leaves all.
pub comes_to_still : (run : Run) (event : RunEvent) (seen : Seen) → HasComeTo run seen → HasCome (and_then run event) seen.map seen.drawn (told_calls seen.history) → ((uid : ℕ) → begun_in uid event ≡ ended_in uid event) → LeavesFiles event
    → HasComeTo (and_then run event) seen
comes_to_still run event seen h come due leaves = comes_to_on run event seen seen h come (λ uid. let e = due uid in omega (arith, e)) leaves (tells_itself seen)

pub no_guids : (run : Run) (event : RunEvent) → event.given ≡ [] → GivesNew run event
no_guids run event none = subst (λ (gs : List (List ℕ)). All (λ guid. was_given run guid ≡ false) gs) (sym none) (All-nil _)

-- what is due of a record in the run is what the store says
pub due_is : (run : Run) (seen : Seen) (uid : ℕ) → HasComeTo run seen → seen.stopped ≡ false → due_of run uid ≡ seen.due uid
due_is run seen uid h runs = let e = (h.keeps runs).due uid in omega (arith, e)

neither : (told there : Bool) → (told ≡ true → there ≡ true) → there ≡ false → told ≡ false
neither true there h none = absurd (let k : true ≡ false = sym (h refl) ∙ none in cc k)
neither false there h none = refl

pub is_new : (run : Run) (seen : Seen) (guid : List ℕ) → HasComeTo run seen → seen.gave guid ≡ false → was_given run guid ≡ false
is_new run seen guid h none = neither (was_given run guid) (seen.gave guid) (h.gave guid) none

pub never_used : (run : Run) (seen : Seen) (file : ℕ) → HasComeTo run seen → seen.used file ≡ false → was_used run file ≡ false
never_used run seen file h none = neither (was_used run file) (seen.used file) (h.used file) none

pub never_gone : (run : Run) (seen : Seen) (instance : InstRow) → HasComeTo run seen → seen.gone instance ≡ false → was_gone run instance ≡ false
never_gone run seen instance h none = neither (was_gone run instance) (seen.gone instance) (h.gone instance) none

-- an event places an instance that the store can't have removed
pub places_new : (run : Run) (event : RunEvent) (seen : Seen) (instance : InstRow) → HasComeTo run seen → seen.gone instance ≡ false → event.gone ≡ [] → list_any (is_same_instance instance) event.placed ≡ true → is_known_instance (and_then run event) instance ≡ true
places_new run event seen instance h free none put = instance_now_known run event instance none put (never_gone run seen instance h free)

pub pinned_as : (run : Run) (seen : Seen) (file : ℕ) → HasComeTo run seen → seen.stopped ≡ false → is_pinned run file ≡ nat_lt 0 (seen.pins file)
pinned_as run seen file h runs = pinned_is run file ∙ ap (λ (n : ℕ). nat_lt 0 n) ((h.keeps runs).pins file)

-- ---- what a stage may read

-- the number that another request drew last
drawn_still : (request : ℕ) (event : RunEvent) → (event.request == request) ≡ false → (events : List RunEvent) (last drawn : ℕ) → number_drawn request last drawn (events ++ event ∷ []) ≡ number_drawn request last drawn events
drawn_still request event e [] last drawn = rw e refl
drawn_still request event e (x ∷ xs) last drawn = drawn_still request event e xs _ _

pub number_still : (run : Run) (event : RunEvent) (other : ℕ) → event.request ≢ other → number_of (and_then run event) other ≡ number_of run other
number_still run event other e = drawn_still other event (ne_eqb event.request other e) run.events 0 run.opened.mailbox

-- whether a file was pinned as it was doomed
until_still : (file : ℕ) (events : List RunEvent) (event : RunEvent) → list_any (λ (e : RunEvent). is_one_of e.doomed file) events ≡ true → until_doomed file (events ++ event ∷ []) ≡ until_doomed file events
until_still file [] event e = absurd (cc e)
until_still file (x ∷ xs) event e = by_test (is_one_of x.doomed file) refl (λ later. until_still file xs event later)
  where
    by_test : (b : Bool) → is_one_of x.doomed file ≡ b → (list_any (λ (e : RunEvent). is_one_of e.doomed file) xs ≡ true → until_doomed file (xs ++ event ∷ []) ≡ until_doomed file xs) → until_doomed file (x ∷ xs ++ event ∷ []) ≡ until_doomed file (x ∷ xs)
    by_test true t rest = ap (λ (b : Bool). cond b (x ∷ []) (x ∷ until_doomed file (xs ++ event ∷ []))) t ∙ sym (ap (λ (b : Bool). cond b (x ∷ []) (x ∷ until_doomed file xs)) t)
    by_test false t rest =
        let later : list_any (λ (e : RunEvent). is_one_of e.doomed file) xs ≡ true = sym (ap (λ (b : Bool). b || list_any (λ (e : RunEvent). is_one_of e.doomed file) xs) t) ∙ e in
        ap (λ (b : Bool). cond b (x ∷ []) (x ∷ until_doomed file (xs ++ event ∷ []))) t ∙ (ap (λ (l : List RunEvent). x ∷ l) (rest later) ∙ sym (ap (λ (b : Bool). cond b (x ∷ []) (x ∷ until_doomed file xs)) t))

pub was_pinned_still : (run : Run) (event : RunEvent) (file : ℕ) → list_any (λ e. is_one_of e.doomed file) run.events ≡ true → was_pinned (and_then run event) file ≡ was_pinned run file
was_pinned_still run event file doomed = ap (λ (es : List RunEvent). is_pinned (record run { events = es }) file) (until_still file run.events event doomed)

until_first : (file : ℕ) (event : RunEvent) → is_one_of event.doomed file ≡ true → (events : List RunEvent) → list_any (λ (e : RunEvent). is_one_of e.doomed file) events ≡ false → until_doomed file (events ++ event ∷ []) ≡ events ++ event ∷ []
until_first file event now [] none = rw now refl
until_first file event now (x ∷ xs) none = by_test (is_one_of x.doomed file) refl (λ later. until_first file event now xs later)
  where
    by_test : (b : Bool) → is_one_of x.doomed file ≡ b → (list_any (λ (e : RunEvent). is_one_of e.doomed file) xs ≡ false → until_doomed file (xs ++ event ∷ []) ≡ xs ++ event ∷ []) → until_doomed file (x ∷ xs ++ event ∷ []) ≡ x ∷ xs ++ event ∷ []
    by_test true t rest = absurd (let k : true ≡ false = sym (ap (λ (b : Bool). b || list_any (λ (e : RunEvent). is_one_of e.doomed file) xs) t) ∙ none in cc k)
    by_test false t rest =
        ap (λ (b : Bool). cond b (x ∷ []) (x ∷ until_doomed file (xs ++ event ∷ []))) t ∙ ap (λ (l : List RunEvent). x ∷ l) (rest (sym (ap (λ (b : Bool). b || list_any (λ (e : RunEvent). is_one_of e.doomed file) xs) t) ∙ none))

-- an event that dooms a new file: none doomed it before, or removed it
none_doomed : (file : ℕ) (events : List RunEvent) → list_any (λ (e : RunEvent). is_one_of e.doomed file || is_one_of e.removed file) events ≡ false → (list_any (λ (e : RunEvent). is_one_of e.doomed file) events ≡ false) × (list_any (λ (e : RunEvent). is_one_of e.removed file) events ≡ false)
none_doomed file [] e = (refl, refl)
none_doomed file (x ∷ xs) e = by_tests (is_one_of x.doomed file) (is_one_of x.removed file) (list_any (λ (e : RunEvent). is_one_of e.doomed file || is_one_of e.removed file) xs) (λ later. none_doomed file xs later) e
  where
    by_tests : (a b rest : Bool) → (rest ≡ false → (list_any (λ (e : RunEvent). is_one_of e.doomed file) xs ≡ false) × (list_any (λ (e : RunEvent). is_one_of e.removed file) xs ≡ false)) → ((a || b) || rest) ≡ false
        → ((a || list_any (λ (e : RunEvent). is_one_of e.doomed file) xs) ≡ false) × ((b || list_any (λ (e : RunEvent). is_one_of e.removed file) xs) ≡ false)
    by_tests false false rest h e = h e
    by_tests false true rest h e = absurd (let k : true ≡ false = e in cc k)
    by_tests true b rest h e = absurd (let k : true ≡ false = e in cc k)

pub first_doomed : (run : Run) (event : RunEvent) (file : ℕ) → was_used run file ≡ false → is_one_of event.doomed file ≡ true → event.removed ≡ [] → (was_pinned (and_then run event) file ≡ is_pinned (and_then run event) file) × (is_doomed (and_then run event) file ≡ true)
first_doomed run event file none now stay =
    let free = none_doomed file run.events none in (
      ap (λ (es : List RunEvent). is_pinned (record run { events = es }) file) (until_first file event now run.events free.0),
      ap (λ (b : Bool). b && not (list_any (λ (e : RunEvent). is_one_of e.removed file) (run.events ++ event ∷ []))) (any_push (λ (e : RunEvent). is_one_of e.doomed file) run.events event ∙ (ap (λ (b : Bool). b || is_one_of event.doomed file) free.0 ∙ now))
          ∙ ap (λ (b : Bool). not b) (any_still (λ (e : RunEvent). is_one_of e.removed file) run.events event (ap (λ (fs : List ℕ). is_one_of fs file) stay) ∙ free.1),
    )

-- that no other request gave a GUID that was given
pub others_still : (run : Run) (event : RunEvent) (other : ℕ) (guid : List ℕ) → event.request ≢ other → GivesNew run event → was_given run guid ≡ true → All (λ g. g ≢ guid) (given_by_others other run) → All (λ g. g ≢ guid) (given_by_others other (and_then run event))
others_still run event other guid e new given none =
    subst (λ (gs : List (List ℕ)). All (λ g. g ≢ guid) gs) (sym more)
    (All-append (λ (g : List ℕ). g ≢ guid) (given_by_others other run) event.given none (All-weaker (λ (g : List ℕ). was_given run g ≡ false) (λ (g : List ℕ). g ≢ guid) (λ g fresh same. let k : true ≡ false = sym given ∙ (ap (λ (x : List ℕ). was_given run x) (sym same) ∙ fresh) in cc k) event.given new))
  where
    one : filter (λ (x : RunEvent). not (x.request == other)) (event ∷ []) ≡ event ∷ []
    one = ap (λ (b : Bool). cond (not b) (event ∷ []) []) (ne_eqb event.request other e)

    more : given_by_others other (and_then run event) ≡ given_by_others other run ++ event.given
    more =
        ap (λ (es : List RunEvent). flat_map (λ (x : RunEvent). x.given) es) (filter-append (λ (x : RunEvent). not (x.request == other)) run.events (event ∷ []) ∙ ap (λ (es : List RunEvent). filter (λ (x : RunEvent). not (x.request == other)) run.events ++ es) one)
        ∙ flat_push (λ (x : RunEvent). x.given) (filter (λ (x : RunEvent). not (x.request == other)) run.events) event

-- a task that hasn't begun
pub not_begun_stays : IsKept HasNotBegun
not_begun_stays run place said event e new stood = (own_other place run event (ne_eqb event.request place e) ∙ stood.0, stood.1)
