-- A count that is lowered, by the clause of a step.
use Rattle.mail_ops.proofs.Common.{◌≡◌, ◌≤◌, ◌+◌, ◌==◌, ◌||◌, ℕ, Bool, false, cond, List, [], ◌∷◌, Option, refl, sym, ◌∙◌, ap, subst, arith, All, common_steps, nat_tests, eq-eqb, History, Faults, told_calls, Grows, Highest, MapEntry, MapUid, Lists, BoxMeaning, MapBox, MapMeaning, map_applied}
use Rattle.mail_ops.proofs.Common.{no_numbers, ShowLists, RunEvent, Run, and_then, drawn_also, map_of, due_at, StoreValue, indexes_of, one_due, Seen, ShowsSeen, HasComeTo, All-nil, All-cons, MapFits, lowering_of, MapTook, seen_of}
use Rattle.std.proofs.Common.{◌-◌}
use Rattle.model_appends.specs.Amounts.{bit, due_by}
use Rattle.journal.specs.Makes.{HasCome}
use Rattle.journal.proofs.RunLemmas.{comes_on_with, drawn_none}
use Rattle.task_steps.specs.Step.{Leads}
use Rattle.model_meaning.specs.MapFits.{HasRecord}
use Rattle.mail_ops.specs.Appends.{MapAppends}

-- the run with an event that adds this entry to the map log has come to where the store stands
pub comes_with : (run : Run) (event : RunEvent) (entry : MapEntry) (old new : Seen) → HasComeTo run old → new.map ≡ map_applied entry old.map → new.drawn ≡ old.drawn → Grows old.history new.history → event.moment ≡ told_calls new.history → event.map_entries ≡ entry ∷ [] → event.drew ≡ no_numbers
    → HasCome (and_then run event) new.map new.drawn (told_calls new.history)
comes_with run event entry old new come map drawn grows moment entries drew =
    let later : told_calls old.history ≤ event.moment = (let a : told_calls old.history ≤ told_calls new.history = grows in omega (arith, a, moment)) in
    subst (λ (m : MapMeaning). HasCome (and_then run event) m new.drawn (told_calls new.history)) (sym map)
    (subst (λ (d : Highest). HasCome (and_then run event) (map_applied entry old.map) d (told_calls new.history)) (ap (λ (d : Highest). drawn_also old.drawn d) drew ∙ (drawn_none old.drawn ∙ sym drawn))
    (subst (λ (n : ℕ). HasCome (and_then run event) (map_applied entry old.map) (drawn_also old.drawn event.drew) n) moment (comes_on_with run event entry old.map old.drawn (told_calls old.history) come.come later entries)))

-- the entry that lowers a count fits
pub one_lowered_fits : (m : MapMeaning) (uid : MapUid) → HasRecord m uid.0 (λ row. 1 ≤ row.count) → MapFits m (lowering_of uid)
one_lowered_fits m uid some = (λ k lt. absurd (omega (arith, lt)), All-cons (λ (u : MapUid). HasRecord m u.0 (λ row. 1 ≤ row.count)) uid [] some (All-nil _))

-- an entry that fits the store's map fits the run's
pub one_fits : (run : Run) (seen : Seen) (entry : MapEntry) → HasComeTo run seen → MapFits seen.map entry → All (MapFits (map_of run)) (entry ∷ [])
one_fits run seen entry come fits = All-cons (MapFits (map_of run)) entry [] (subst (λ (m : MapMeaning). MapFits m entry) (sym come.come.map_is) fits) (All-nil _)

-- ---- what is due

less_one : (b : Bool) (old new : ℕ) → new ≡ old - bit (b || false) → cond b 1 0 ≤ old → new + cond b 1 0 ≡ old
less_one b old new e l = grind (arith, common_steps, nat_tests)

pub lowered_due : {D : Type 0} → (owed : MapUid) (old new : StoreValue D) (uid : ℕ) → one_due owed.0 uid ≤ due_at uid old → due_at uid new ≡ due_by (lowering_of owed) (λ other. due_at other old) uid → due_at uid new + one_due owed.0 uid ≡ due_at uid old
lowered_due owed old new uid some due = less_one (owed.0 == uid) (due_at uid old) (due_at uid new) due some

pub raised_moves : (old new held uid : ℕ) → new ≡ old + one_due held uid → new + 0 ≡ old + one_due held uid
raised_moves old new held uid e = omega (arith, e)

pub raised_covers : (old new held uid : ℕ) → new ≡ old + one_due held uid → one_due held uid ≤ new
raised_covers old new held uid e = omega (arith, e)

pub ended_moves : (old new held uid : ℕ) → new + one_due held uid ≡ old → new + one_due held uid ≡ old + 0
ended_moves old new held uid e = omega (arith, e)

pub held_still : {D : Type 0} → (held : MapUid) (old new : StoreValue D) → ((other : ℕ) → one_due held.0 other ≤ due_at other old) → ((other : ℕ) → due_at other new ≡ due_at other old) → (other : ℕ) → one_due held.0 other ≤ due_at other new
held_still held old new due same other = subst (λ (n : ℕ). one_due held.0 other ≤ n) (sym (same other)) (due other)

-- it is due of its own record
pub one_of_own : (uid : ℕ) → one_due uid uid ≡ 1
one_of_own uid = ap (λ (b : Bool). cond b 1 0) (eq-eqb uid uid refl)

-- ---- what is shown, and what a crash leaves

pub shows_still : {D : Type 0} → (pins : ℕ → ℕ) → (old new : StoreValue D) (before after : Option History) (began now : Faults) (lists : Lists) → MapAppends old new before after began now → ShowsSeen (seen_of pins old before began) lists → ShowsSeen (seen_of pins new after now) lists
shows_still pins old new before after began now lists a shows =
    (shows.0, subst (λ (bs : List MapBox). ShowLists bs (indexes_of new.boxes) lists) (sym a.mailboxes) (subst (λ (ms : List BoxMeaning). ShowLists old.map.boxes ms lists) (sym a.indexes) shows.1))

pub leads_still : {D : Type 0} → (pins : ℕ → ℕ) → (entry : MapEntry) (old new : StoreValue D) (before after : Option History) (began now : Faults) (lists : Lists) → MapTook entry old new before after began now → Leads lists lists (seen_of pins old before began) (seen_of pins new after now)
leads_still pins entry old new before after began now lists t = record { stops = λ s. t.appends.moments lists s.0; settled = λ s. t.settled lists s.0 }
