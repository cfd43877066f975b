-- The last event of a request, the part behind it, and what the request's events tell with one more.
use Rattle.mail_ops.proofs.Common.{◌≡◌, ◌≤◌, ◌==◌, ℕ, Bool, true, false, cond, List, [], ◌∷◌, ◌++◌, Option, Some, None, refl, sym, ◌∙◌, ap, subst, arith, filter, flat_map, nat_lt, if◌then◌else◌, option_or, eq-eqb, nat_tests, common_steps, MapEntry, MapUid, Refusal, Reply, Request, equal_is, EventPart}
use Rattle.mail_ops.proofs.Common.{BoxAppend, RunEvent, Run, and_then, own_events, source_of, uid_copied, Around, last_refusal, next_part, own_more, EndsInPart}
use Rattle.std.specs.Prelude.{fold}
use Rattle.std.proofs.lemmas.Grind.{flat_map-append}
use Rattle.std.proofs.lemmas.List.{append-nil}
use Rattle.std.proofs.lemmas.List.Sums.{fold-append}
use Rattle.mdbox_base.specs.declared.entries.MapEntry.TheVariants as map_entry
use Rattle.list_machine.specs.Run.{first_in, last_in, uid_added, uid_in}
use Rattle.journal.specs.Events.{behind_event, part_behind, uid_held, uid_raised}
use Rattle.mail_ops.specs.MakeStages.{WasNotRefused}

-- ---- refusals

left_none : (a b : Option Refusal) → option_or a b ≡ None → a ≡ None
left_none a b e = grind (arith, common_steps, nat_tests)

last_unrefused : (earlier : List RunEvent) (last : RunEvent) → last_refusal (earlier ++ last ∷ []) ≡ None → last.refused ≡ None
last_unrefused [] last e = e
last_unrefused (x ∷ xs) last e = last_unrefused xs last (left_none (last_refusal (xs ++ last ∷ [])) x.refused e)

-- the last refusal is that of those before, if the last event wasn't refused
pub last_before : (own : List RunEvent) (event : RunEvent) → event.refused ≡ None → last_refusal (own ++ event ∷ []) ≡ last_refusal own
last_before [] event e = e
last_before (x ∷ xs) event e = ap (λ (r : Option Refusal). option_or r x.refused) (last_before xs event e)

-- ---- the last event

pub next_last : (around : Around) (run : Run) (q : Request) (earlier : List RunEvent) (last : RunEvent) → next_part around run q (earlier ++ last ∷ []) ≡ behind_event around run q last last.refused
next_last around run q [] last = refl
next_last around run q (x ∷ []) last = refl
next_last around run q (x ∷ y ∷ ys) last = next_last around run q (y ∷ ys) last

-- each own event is of its request
own_last : (place : ℕ) (events earlier : List RunEvent) (last : RunEvent) → filter (λ (e : RunEvent). e.request == place) events ≡ earlier ++ last ∷ [] → last.request ≡ place
own_last place [] earlier last e = absurd (not_empty earlier e)
  where
    not_empty : (xs : List RunEvent) → [] ≡ xs ++ last ∷ [] → ⊥
    not_empty [] k = cc k
    not_empty (x ∷ xs) k = cc k
own_last place (x ∷ xs) earlier last e = by_test (x.request == place) refl e (λ es k. own_last place xs es last k)
  where
    tail_is : (a b : RunEvent) (us vs : List RunEvent) → a ∷ us ≡ b ∷ vs → us ≡ vs
    tail_is a b us vs k = cc k

    head_is : (a b : RunEvent) (us vs : List RunEvent) → a ∷ us ≡ b ∷ vs → a ≡ b
    head_is a b us vs k = cc k

    by_earlier : (es : List RunEvent) → (x.request == place) ≡ true → x ∷ filter (λ (y : RunEvent). y.request == place) xs ≡ es ++ last ∷ [] → ((us : List RunEvent) → filter (λ (y : RunEvent). y.request == place) xs ≡ us ++ last ∷ [] → last.request ≡ place) → last.request ≡ place
    by_earlier [] t k rest = subst (λ (y : RunEvent). y.request ≡ place) (head_is x last (filter (λ (y : RunEvent). y.request == place) xs) [] k) (equal_is x.request place t)
    by_earlier (y ∷ ys) t k rest = rest ys (tail_is x y (filter (λ (z : RunEvent). z.request == place) xs) (ys ++ last ∷ []) k)

    by_test : (b : Bool) → (x.request == place) ≡ b → cond b (x ∷ filter (λ (y : RunEvent). y.request == place) xs) (filter (λ (y : RunEvent). y.request == place) xs) ≡ earlier ++ last ∷ []
        → ((us : List RunEvent) → filter (λ (y : RunEvent). y.request == place) xs ≡ us ++ last ∷ [] → last.request ≡ place) → last.request ≡ place
    by_test true t k rest = by_earlier earlier t k rest
    by_test false t k rest = rest earlier k

pub last_own : (place : ℕ) (run : Run) (part : EventPart) → (e : EndsInPart part (own_events place run)) → e.last.request ≡ place
last_own place run part e = own_last place run.events e.earlier e.last e.own_is

-- behind events of which none was refused
pub next_behind : (around : Around) (run : Run) (q : Request) (place : ℕ) (part : EventPart) → last_refusal (own_events place run) ≡ None → (e : EndsInPart part (own_events place run)) → next_part around run q (own_events place run) ≡ part_behind around run q e.last
next_behind around run q place part unrefused e =
    (ap (λ (es : List RunEvent). next_part around run q es) e.own_is ∙ next_last around run q e.earlier e.last)
    ∙ ap (λ (r : Option Refusal). behind_event around run q e.last r) (last_unrefused e.earlier e.last (sym (ap last_refusal e.own_is) ∙ unrefused))

-- an event more, of this part
abbrev pub ends_in : (place : ℕ) (run : Run) (event : RunEvent) (part : EventPart) → event.request ≡ place → event.part ≡ part → EndsInPart part (own_events place (and_then run event))
ends_in place run event part own is = record { earlier = own_events place run; last = event; own_is = own_more place run event (eq-eqb event.request place own); part_is = is }

pub unrefused_then : (place : ℕ) (run : Run) (event : RunEvent) → event.request ≡ place → event.refused ≡ None → last_refusal (own_events place run) ≡ None → last_refusal (own_events place (and_then run event)) ≡ None
unrefused_then place run event own is none = ap last_refusal (own_more place run event (eq-eqb event.request place own)) ∙ (last_before (own_events place run) event is ∙ none)

pub unrefused_more : (run : Run) (event : RunEvent) (place : ℕ) (said : List Reply) → event.request ≡ place → event.refused ≡ None → WasNotRefused run place said → WasNotRefused (and_then run event) place said
unrefused_more run event place said own is w = record { unrefused = unrefused_then place run event own is w.unrefused; unanswered = w.unanswered }

-- and as other requests go on
pub unrefused_still : (run : Run) (event : RunEvent) (place : ℕ) (said : List Reply) → own_events place (and_then run event) ≡ own_events place run → WasNotRefused run place said → WasNotRefused (and_then run event) place said
unrefused_still run event place said same w = record { unrefused = ap last_refusal same ∙ w.unrefused; unanswered = w.unanswered }

abbrev pub ends_still : (own now : List RunEvent) (part : EventPart) → now ≡ own → EndsInPart part own → EndsInPart part now
ends_still own now part same e = record { earlier = e.earlier; last = e.last; own_is = same ∙ e.own_is; part_is = e.part_is }

-- ---- what the events tell

abbrev lists_of : RunEvent → List BoxAppend
lists_of event = event.box_entries

abbrev begun_from : ℕ → RunEvent → ℕ
begun_from last event = if nat_lt 0 event.source then event.source else last

pub held_by : (place : ℕ) (run now : Run) → own_events place now ≡ own_events place run → uid_held place now ≡ uid_held place run
held_by place run now same = ap (λ (own : List RunEvent). last_in uid_raised (flat_map (λ (e : RunEvent). e.map_entries) own)) same

pub copied_by : (place : ℕ) (run now : Run) → own_events place now ≡ own_events place run → uid_copied place now ≡ uid_copied place run
copied_by place run now same = ap (λ (own : List RunEvent). uid_added (flat_map lists_of own)) same

pub source_by : (place : ℕ) (run now : Run) → own_events place now ≡ own_events place run → source_of place now ≡ source_of place run
source_by place run now same = ap (fold begun_from 0) same

-- ---- with one more

told_more : {X : Type 0} → (f : RunEvent → List X) (place : ℕ) (run : Run) (event : RunEvent) → event.request ≡ place → flat_map f (own_events place (and_then run event)) ≡ flat_map f (own_events place run) ++ f event
told_more f place run event own =
    ap (flat_map f) (own_more place run event (eq-eqb event.request place own)) ∙ (flat_map-append f (own_events place run) (event ∷ []) ∙ ap (λ (xs : List _). flat_map f (own_events place run) ++ xs) (append-nil (f event)))

told_same : {X : Type 0} → (f : RunEvent → List X) (place : ℕ) (run : Run) (event : RunEvent) → event.request ≡ place → f event ≡ [] → flat_map f (own_events place (and_then run event)) ≡ flat_map f (own_events place run)
told_same f place run event own none = told_more f place run event own ∙ (ap (λ (xs : List _). flat_map f (own_events place run) ++ xs) none ∙ append-nil (flat_map f (own_events place run)))

-- the record that was raised last
last_new : {X Y : Type 0} → (f : X → Option Y) (xs : List X) (x : X) (y : Y) → f x ≡ Some y → last_in f (xs ++ x ∷ []) ≡ Some y
last_new f [] x y e = e
last_new f (z ∷ zs) x y e = ap (λ (o : Option _). option_or o (f z)) (last_new f zs x y e)

pub held_new : (place : ℕ) (run : Run) (event : RunEvent) (held : MapUid) → event.request ≡ place → event.map_entries ≡ map_entry.U held ∷ [] → uid_held place (and_then run event) ≡ Some held.0
held_new place run event held own raised =
    let earlier = flat_map (λ (e : RunEvent). e.map_entries) (own_events place run) in
    ap (last_in uid_raised) (told_more (λ (e : RunEvent). e.map_entries) place run event own ∙ ap (λ (es : List MapEntry). earlier ++ es) raised) ∙ last_new uid_raised earlier (map_entry.U held) held.0 refl

pub held_same : (place : ℕ) (run : Run) (event : RunEvent) → event.request ≡ place → event.map_entries ≡ [] → uid_held place (and_then run event) ≡ uid_held place run
held_same place run event own none = ap (last_in uid_raised) (told_same (λ (e : RunEvent). e.map_entries) place run event own none)

-- the UID of the copy
first_still : {X Y : Type 0} → (f : X → Option Y) (xs ys : List X) (y : Y) → first_in f xs ≡ Some y → first_in f (xs ++ ys) ≡ Some y
first_still f [] ys y e = absurd (let k : None ≡ Some y = e in cc k)
first_still f (x ∷ xs) ys y e = by_first (f x) e (first_still f xs ys y)
  where
    by_first : (o : Option _) → option_or o (first_in f xs) ≡ Some y → (first_in f xs ≡ Some y → first_in f (xs ++ ys) ≡ Some y) → option_or o (first_in f (xs ++ ys)) ≡ Some y
    by_first None k rest = rest k
    by_first (Some z) k rest = k

first_new : {X Y : Type 0} → (f : X → Option Y) (xs ys : List X) → first_in f xs ≡ None → first_in f (xs ++ ys) ≡ first_in f ys
first_new f [] ys e = refl
first_new f (x ∷ xs) ys e = by_first (f x) e (first_new f xs ys)
  where
    by_first : (o : Option _) → option_or o (first_in f xs) ≡ None → (first_in f xs ≡ None → first_in f (xs ++ ys) ≡ first_in f ys) → option_or o (first_in f (xs ++ ys)) ≡ first_in f ys
    by_first None k rest = rest k
    by_first (Some z) k rest = absurd (let w : Some z ≡ None = k in cc w)

pub copied_new : (place : ℕ) (run : Run) (event : RunEvent) → event.request ≡ place → uid_copied place run ≡ None → uid_copied place (and_then run event) ≡ uid_added event.box_entries
copied_new place run event own none = ap uid_added (told_more lists_of place run event own) ∙ first_new (λ x. uid_in x.entry) (flat_map lists_of (own_events place run)) event.box_entries none

pub copied_still : (place : ℕ) (run : Run) (event : RunEvent) (copied : ℕ) → event.request ≡ place → uid_copied place run ≡ Some copied → uid_copied place (and_then run event) ≡ Some copied
copied_still place run event copied own is = ap uid_added (told_more lists_of place run event own) ∙ first_still (λ x. uid_in x.entry) (flat_map lists_of (own_events place run)) event.box_entries copied is

-- the number of the mailbox from which it began to copy
pub source_same : (place : ℕ) (run : Run) (event : RunEvent) → event.request ≡ place → event.source ≡ 0 → source_of place (and_then run event) ≡ source_of place run
source_same place run event own none =
    ap (fold begun_from 0) (own_more place run event (eq-eqb event.request place own)) ∙ (fold-append begun_from 0 (own_events place run) (event ∷ []) ∙ ap (λ (n : ℕ). if nat_lt 0 n then n else source_of place run) none)

pub source_new : (place : ℕ) (run : Run) (event : RunEvent) (source : ℕ) → event.request ≡ place → 1 ≤ source → event.source ≡ source → source_of place (and_then run event) ≡ source
source_new place run event source own some from =
    ap (fold begun_from 0) (own_more place run event (eq-eqb event.request place own)) ∙ (fold-append begun_from 0 (own_events place run) (event ∷ []) ∙ (ap (λ (n : ℕ). if nat_lt 0 n then n else source_of place run) from ∙ or_last (source_of place run) source some))
  where
    or_last : (last n : ℕ) → 1 ≤ n → (if nat_lt 0 n then n else last) ≡ n
    or_last last n s = grind (arith, common_steps, nat_tests, s)
